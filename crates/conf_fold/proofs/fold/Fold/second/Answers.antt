use Rattle.std.proofs.Common.{◌≡◌, refl}
use Rattle.conf_fold.specs.FoldRepresents.{host_so_far}
use Rattle.conf_fold.proofs.SecondLemmas.{second-begins}
use Rattle.conf_fold.proofs.fold.Fold.second.Goals as goal

pub returns-clause-second : goal.returns-clause-second
returns-clause-second c = λ recorded rows blocks s b.
    let name : c.in_ok-name.name ≡ host_so_far c.args.self.now = let h = c.in_ok-name.ensures in cc in
    second-begins recorded c.args.self.now _ rows blocks s b c.if-not-self.false (rw (c.truncate.ensures, name) refl)
