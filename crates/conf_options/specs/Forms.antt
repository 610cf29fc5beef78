-- The forms of values as the code has them.
use Rattle.std.specs.Prelude.{◌^◌, ◌<◌, Bool, true, false, not, ◌==◌, ◌&&◌, ◌||◌, if◌then◌else◌, List, [], ◌∷◌, Option, Some, codes}
use Rattle.conf_rules.specs.Texts.{Bytes}
use Rattle.conf_rules.specs.Kinds.{ValueKind}
use Rattle.conf_rules.specs.Kinds as kinds
use Rattle.conf_options.specs.declared.forms.Choices.{Choices}
use Rattle.conf_options.specs.declared.forms.Choices.TheVariants.{Families, Levels, Bindings, Terminals, Strictness, Tunnels}
use Rattle.conf_options.specs.declared.forms.Form.{Form}
use Rattle.conf_options.specs.declared.forms.Form.TheVariants as forms

-- the words of a choice
abbrev pub choices_of : Choices → List Bytes
choices_of Families = codes "any" ∷ codes "inet" ∷ codes "inet6" ∷ []
choices_of Levels = codes "QUIET" ∷ codes "FATAL" ∷ codes "ERROR" ∷ codes "INFO" ∷ codes "VERBOSE"
    ∷ codes "DEBUG" ∷ codes "DEBUG1" ∷ codes "DEBUG2" ∷ codes "DEBUG3" ∷ []
choices_of Bindings = codes "unbound" ∷ codes "host-bound" ∷ []
choices_of Terminals = codes "no" ∷ codes "yes" ∷ codes "force" ∷ codes "auto" ∷ []
choices_of Strictness = codes "yes" ∷ codes "no" ∷ codes "ask" ∷ codes "accept-new"
    ∷ codes "off" ∷ []
choices_of Tunnels = codes "no" ∷ codes "yes" ∷ codes "point-to-point" ∷ codes "ethernet" ∷ []

-- the kind of value that a form is
abbrev pub form_kind : Form → ValueKind
form_kind forms.Flag = kinds.Flag
form_kind (forms.Number low high) = kinds.Number low high
form_kind forms.Time = kinds.Time
form_kind (forms.Choice choices) = kinds.Choice (choices_of choices)
form_kind forms.OneWord = kinds.OneWord
form_kind forms.HostWord = kinds.HostWord
form_kind forms.Raw = kinds.Raw
form_kind forms.FlagOrWord = kinds.FlagOrWord
form_kind (forms.FlagOrChoice choices) = kinds.FlagOrChoice (choices_of choices)
form_kind forms.Names = kinds.Names
form_kind forms.TwoEnds = kinds.TwoEnds
form_kind forms.OneOrTwoEnds = kinds.OneOrTwoEnds
form_kind forms.PortAlone = kinds.PortAlone

-- a number's range ends below 2 ^ 32
abbrev pub IsSmall : Form → Type 0
IsSmall (forms.Number low high) = high < 2 ^ 32
IsSmall form = Unit {0}

-- a choice as it is listed, or a later one
abbrev pub choice_listed : Bool → Bytes → Option Bytes → Option Bytes
choice_listed here listed later = if here then Some listed else later

-- whether what follows has right tokens, after a percent sign or not
abbrev pub tokens_from : Bool → Bytes → Bool
tokens_from marked [] = not marked
tokens_from true (b ∷ bs) = let later = tokens_from false bs in ((b == 37) || (b == 104)) && later
tokens_from false (b ∷ bs) = tokens_from (b == 37) bs
