use Rattle.std.proofs.Common.{rules, arith}
use Rattle.mux_outside.specs.House.{ordered_marks}
use Rattle.mux_outside.specs.HouseCalls.{calls_of}
use Rattle.house_forward.specs.Known.{ordering_of}
use Rattle.house_forward.specs.State.{held_in}
use Rattle.house_forward.proofs.Calling.{stands-made}
use Rattle.house_forward.proofs.Greeted.{greeted-on, made-silent}
use Rattle.house_forward.proofs.forwarder.ForwarderHouse.ordered.Goals as goal

pub returns-in-Some : goal.returns-in-Some
returns-in-Some g c =
    let has = c.args.self.now.has in
    let new = c.ordered.new.self in
    let marks = ordered_marks (ordering_of has.ordering) c.args.number in
    record {
      gave = record {
        known = first_of (search rules, grind arith);
        must = first_of (search rules, grind arith);
        recorded = first_of (search rules, grind arith);
        stands = λ calls h. record {
          since = stands-made has.ordering new.ordering c.args.number calls (held_in has) (held_in new) c.requires.ordering
              c.ordered.ensures.ordering c.ordered.ensures.makes h.since;
          greeting = greeted-on has.greeted new.greeted calls (calls_of marks) c.ordered.ensures.word.greeted
              (made-silent (ordering_of has.ordering) c.args.number) h.greeting;
        };
      };
    }
