use Rattle.std.proofs.Common.{◌≡◌, ◌∷◌, ◌++◌, drop, map}
use Rattle.std.specs.Prelude.{filter}
use Rattle.conf_rules.specs.Globs.{component_takes}
use Rattle.conf_reader.proofs.paths.put_taken.Given as goal

abbrev pub invariant-loop-name : goal.invariant-loop-name
invariant-loop-name l =
    l.paths.items ++ map (λ name. l.base ++ 47 ∷ name) (filter (component_takes l.component) (drop l.name-index l.names))
    ≡ l.initial.paths.items ++ map (λ name. l.base ++ 47 ∷ name) (filter (component_takes l.component) l.names)
