use Rattle.std.proofs.Common.{◌∙◌, ap, subst, sym, take}
use Rattle.std.proofs.lemmas.List.Elements.{All-get_or}
use Rattle.mux_outside.specs.Faults.{Faults}
use Rattle.mux_outside.specs.Wire.{MayNote}
use Rattle.mux_outside.specs.WireState.{WireState}
use Rattle.mux_engine.proofs.Heeding.{hands-so, applied-some, applies-so, noted-next}
use Rattle.mux_engine.proofs.Noted.{seen-with}
use Rattle.mux_engine.proofs.Wired.{untouched-note, untouched-then}
use Rattle.mux_engine.proofs.asking.apply.Goals as goal

pub returns-in_err-note-clause-applied : goal.returns-in_err-note-clause-applied
returns-in_err-note-clause-applied g c =
    let o = c.in_ok-went.ensures in
    let W = g.W.Wire in
    applied-some c.from_residual-in_err-note.result c.args.e c.args.engine.now c.event.new.self c.event.new.asks _ _ _ _ (W.state c.args.wire.now).seen (W.state c.note.new.self).seen c.loop-mark.mark-index c.from_residual-in_err-note.ensures.0
    (applies-so c.args.e c.args.engine.now c.event.new.self c.clear.new.self c.event.new.asks _ _ (W.state c.args.wire.now).seen (W.state c.note.new.self).seen c.loop-mark.mark-index c.clear.ensures o.takes.stands o.applies o.keeps o.takes.ends
    (ap (λ (x : WireState). x.seen) c.in_err-note.ensures.state ∙ (c.loop-mark.invariant.seen ∙ ap (λ l. seen-with (take c.loop-mark.mark-index l) (W.state c.args.wire.now).seen) c.as_slice-mark-items.ensures.all)))

pub note-requires : goal.note-requires
note-requires g c = record {
  may = subst MayNote (sym c.mark-item.is) (All-get_or MayNote c.as_slice-mark-items.result.now c.loop-mark.mark-index c.mark-item.result c.loop-mark-test.true c.as_slice-mark-items.ensures.may);
}

pub loop-mark-preserved : goal.loop-mark-preserved
loop-mark-preserved g c = record {
  seen = noted-next c.as_slice-mark-items.result.now c.loop-mark.mark-index c.mark-item.result _ _ _ c.loop-mark-test.true c.mark-item.is c.loop-mark.invariant.seen (ap (λ (x : WireState). x.seen) c.in_ok-note.ensures.state);
  wire = untouched-then c.loop-mark.invariant.wire (untouched-note c.note.result c.mark-item.result c.note.ensures.state c.note.ensures.faults);
  own_faults = ap (λ (x : Faults). x.own) c.note.ensures.faults ∙ c.loop-mark.invariant.own_faults;
}

pub returns-clause-handed : goal.returns-clause-handed
returns-clause-handed g c = hands-so c.clear.new.self c.event.new.asks _ _ c.clear.ensures c.in_ok-went.ensures.applies
