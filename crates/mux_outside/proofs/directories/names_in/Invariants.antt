use Rattle.std.proofs.Common.{◌≡◌, drop, fold, filter_map}
use Rattle.mux_outside.specs.Files.{with_name, folder_name_in, names_in}
use Rattle.mux_outside.proofs.directories.names_in.Given as goal

abbrev pub invariant-loop-pair : goal.invariant-loop-pair
invariant-loop-pair l = fold with_name l.names (filter_map (folder_name_in l.dir) (drop l.pair-index l.files)) ≡ names_in l.files l.dir
