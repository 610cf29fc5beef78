-- Which values a key has.
use Rattle.std.specs.Prelude.{ℕ, Bool, true, false, ◌&&◌, nat_le, List, Option, Some, None, bytes_eq}
use Rattle.std.specs.List.{list_any}
use Rattle.conf_rules.specs.declared.key.Key.{Key}
use Rattle.conf_rules.specs.declared.value.End.{End}
use Rattle.conf_rules.specs.declared.value.End.TheVariants.{Path, Port}
use Rattle.conf_rules.specs.declared.value.Value.{Value}
use Rattle.conf_rules.specs.declared.value.Value.TheVariants as values
use Rattle.conf_rules.specs.declared.entry.LineContent.{LineContent}
use Rattle.conf_rules.specs.declared.entry.LineContent.TheVariants.{Gives}
use Rattle.conf_rules.specs.Texts.{Bytes}
use Rattle.conf_rules.specs.Kinds.{ValueKind, Flag, Number, Time, Choice, OneWord, HostWord, Raw, FlagOrWord, FlagOrChoice, Names, TwoEnds, OneOrTwoEnds, PortAlone, most, value_kind}
use Rattle.conf_rules.specs.Values.{listed_choice, has_name_tokens}

-- whether a text is a choice as it is listed
abbrev pub is_choice : List Bytes → Bytes → Bool
is_choice choices text = list_any (λ choice. bytes_eq (listed_choice choice) text) choices

-- whether a port lies within its range
abbrev pub is_port_within : ℕ → ℕ → Bool
is_port_within low port = nat_le low port && nat_le port 65535

-- whether an end has a port of its range, if it has one
abbrev pub end_fits : ℕ → End → Bool
end_fits low (Path path) = true
end_fits low (Port host port) = is_port_within low port

-- whether an end is a path, or has a host with its port
abbrev pub connect_fits : Option End → Bool
connect_fits None = false
connect_fits (Some (Path path)) = true
connect_fits (Some (Port None port)) = false
connect_fits (Some (Port (Some host) port)) = is_port_within 1 port

-- whether there is no second end, or a right one
abbrev pub none_or_connect : Option End → Bool
none_or_connect None = true
none_or_connect (Some end) = connect_fits (Some end)

-- whether there is no second end, and the first is no path
abbrev pub alone_fits : Option End → End → Bool
alone_fits None (Port host port) = is_port_within 1 port
alone_fits connect listen = false

-- whether a value is one of a kind
abbrev pub fits_kind : ValueKind → Value → Bool
fits_kind Flag (values.Flag b) = true
fits_kind (Number low high) (values.Number n) = nat_le low n && nat_le n high
fits_kind Time (values.Seconds None) = true
fits_kind Time (values.Seconds (Some n)) = nat_le n most
fits_kind (Choice choices) (values.Word text) = is_choice choices text
fits_kind OneWord (values.Word text) = true
fits_kind HostWord (values.Word text) = has_name_tokens text
fits_kind Raw (values.Word text) = true
fits_kind FlagOrWord (values.Flag b) = true
fits_kind FlagOrWord (values.Word text) = true
fits_kind (FlagOrChoice choices) (values.Flag b) = true
fits_kind (FlagOrChoice choices) (values.Word text) = is_choice choices text
fits_kind Names (values.Names names) = true
fits_kind TwoEnds (values.Forward f) = end_fits 1 f.listen && connect_fits f.connect
fits_kind OneOrTwoEnds (values.Forward f) = end_fits 0 f.listen && none_or_connect f.connect
fits_kind PortAlone (values.Forward f) = alone_fits f.connect f.listen
fits_kind value_kind value = false

-- whether a value is one of its key
unfoldable pub fits : Key → Value → Bool
fits key value = fits_kind (value_kind key) value

-- whether a value is one of the key that it is given to
abbrev pub fits_its_key : Key × Value → Bool
fits_its_key given = fits given.0 given.1

-- whether what a line gives is a value of its key
abbrev pub entry_fits : LineContent → Bool
entry_fits (Gives key value) = fits key value
entry_fits entry = true
