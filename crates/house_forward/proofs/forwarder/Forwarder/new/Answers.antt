use Rattle.std.proofs.Common.{rules, refl, [], arith}
use Rattle.house_forward.specs.State.{held_in}
use Rattle.house_forward.proofs.Calling.{none-since}
use Rattle.house_forward.proofs.forwarder.Forwarder.new.Goals as goal

pub returns : goal.returns
returns g c =
    let has = c.new-2.result in
    let new = c.new-2.ensures in
    record {
      blank = record {
        nothing = new.known;
        no_mark = first_of (search rules, grind arith);
      };
      unrefused = new.refused;
      stands = record {
        since = none-since has.ordering [] (held_in has) new.ordering (λ few. new.lived);
        greeting = rw new.greeted refl;
      };
    }
