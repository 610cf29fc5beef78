use Rattle.std.proofs.Common.{◌≡◌, ◌∙◌, None, false, refl, sym, ap, subst}
use Rattle.std.specs.Prelude.{is_some}
use Rattle.mux_outside.specs.Seen.{Seen}
use Rattle.mux_engine.specs.Serving.{Serving}
use Rattle.mux_engine.specs.Sides.{RestsOf, SameStreamsSeen}
use Rattle.mux_engine.proofs.Lists.{true-false}
use Rattle.mux_engine.proofs.Loops.{serve-hushed}
use Rattle.mux_engine.proofs.Wired.{idle-silence, seen-is}
use Rattle.mux_engine.proofs.settling.stop_accepting.Goals.{else-listening-via-then-listening+else-is_none, else-listening-via-else-listening}
use Rattle.mux_engine.proofs.settling.stop_accepting.Given.{Over}
use Rattle.mux_engine.proofs.settling.stop_accepting.Goals as goal

silent : (g : Over) (c : goal.After-stop_listening g) → c.args.engine.now.ended ≡ None → c.args.engine.now.listening ≡ false
silent g c live = elim c.else-listening.branch [
  | else-listening-via-then-listening+else-is_none w ↦ true-false (sym w.if-is_none.ensures ∙ ap is_some (w.ended.ensures.exact ∙ live))
  | else-listening-via-else-listening w ↦ sym w.if-listening.ensures.exact
]

pub returns-clause-serving : goal.returns-clause-serving
returns-clause-serving g c held present first before now policy pid start failed given todo v =
    subst (λ (x : Seen). Serving g.H.Asks.may (RestsOf g.H.Asks.state present first) before now policy pid start x held failed given todo c.args.engine.now) (sym (seen-is c.stop_listening.ensures.state)) (serve-hushed v (silent g c))

pub returns-clause-silence : goal.returns-clause-silence
returns-clause-silence g c l = true-false (sym l ∙ ap (λ (x : Seen). x.listens) (seen-is c.stop_listening.ensures.state))

pub returns-clause-streams : goal.returns-clause-streams
returns-clause-streams g c = subst (SameStreamsSeen (g.W.Wire.state c.args.wire.now).seen) (sym (seen-is c.stop_listening.ensures.state)) record { places = record { streams = refl; listeners = refl; own = refl; last_own = refl; silence = λ l. true-false (sym l) }; blocked = refl }

-- ---- the wire

pub returns-clause-wire : goal.returns-clause-wire
returns-clause-wire g c = idle-silence c.stop_listening.ensures.state c.stop_listening.ensures.faults
