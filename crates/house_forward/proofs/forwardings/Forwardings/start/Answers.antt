use Rattle.std.proofs.Common.{rules}
use Rattle.house_forward.specs.Rules.{is_ruled_out}
use Rattle.house_forward.specs.Forwardings.{what_stands}
use Rattle.house_forward.proofs.Leaving.{opens-one, starts-at-ends}
use Rattle.house_forward.proofs.forwardings.Forwardings.start.Goals as goal

pub returns-in_ok-open-2-clause-listeners : goal.returns-in_ok-open-2-clause-listeners
returns-in_ok-open-2-clause-listeners c =
    (opens-one _ _ _ _ c.args.self.now.all.items c.«open».new.self.all.items c.in_ok-open.ensures.all).listeners

pub returns-in_ok-open : goal.returns-in_ok-open
returns-in_ok-open c =
    let old = what_stands c.args.self.now.all.items c.args.self.now.serials c.args.self.now.refused in
    let new = what_stands c.«open».new.self.all.items c.«open».new.self.serials c.«open».new.self.refused in
    record {
      starts = starts-at-ends (is_ruled_out c.args.rules.now c.args.ask.now) c.args.rules.now c.args.ask.now c.args.i old new c.in-Some.ends
          (c.in-Some.ensures.exact c.args.ask.now c.of_start.ensures) (c.in-Some.ensures.ends c.args.ask.now c.of_start.ensures) (record {
            all = c.in_ok-open.ensures.all;
            serials = c.in_ok-open.ensures.serials;
            refused = search rules;
          });
      listeners = (opens-one _ _ _ _ c.args.self.now.all.items c.«open».new.self.all.items c.in_ok-open.ensures.all).listeners;
      count = search rules;
      requests = c.in_ok-open.ensures.requests;
    }
