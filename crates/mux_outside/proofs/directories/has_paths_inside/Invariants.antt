use Rattle.std.proofs.Common.{◌≡◌, drop, is_some}
use Rattle.std.specs.List.{list_any}
use Rattle.mux_outside.specs.Files.{path_inside}
use Rattle.mux_outside.proofs.directories.has_paths_inside.Given as goal

abbrev pub invariant-loop-pair : goal.invariant-loop-pair
invariant-loop-pair l = list_any (λ p. is_some (path_inside l.dir p.name)) (drop l.pair-index l.files) ≡ list_any (λ p. is_some (path_inside l.dir p.name)) l.files
