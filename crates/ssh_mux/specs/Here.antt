-- Where the master's own forwardings may listen on this machine, by the texts of their list.
use Rattle.std.specs.Prelude.{List, [], ◌∷◌, flat_map, Ok, Err}
use Rattle.conf_rules.specs.Texts.{Bytes}
use Rattle.mux_history.specs.Policy.{Allow, Anything, Entries, Entry, Ports, Paths, read_list}
use Rattle.mux_outside.specs.declared.starts.ListenEntry.{ListenEntry}
use Rattle.mux_outside.specs.declared.starts.ListenPermit.{ListenPermit}
use Rattle.mux_outside.specs.declared.starts.ListenPermit.TheVariants.{Any, Only}

-- the listening ends that an entry permits: a path permits none
abbrev pub ends_permitted : Entry → List ListenEntry
ends_permitted (Ports host port) = record { host = host; port = port } ∷ []
ends_permitted (Paths path) = []

-- where a list permits listening
abbrev pub listens_permitted : Allow → ListenPermit
listens_permitted Anything = Any
listens_permitted (Entries entries) = Only (flat_map ends_permitted entries)

-- where texts permit listening: those that don't read permit it nowhere
abbrev pub here_of : List Bytes → ListenPermit
here_of texts = elim (read_list texts) [ Ok allow ↦ listens_permitted allow | Err bad ↦ Only [] ]
