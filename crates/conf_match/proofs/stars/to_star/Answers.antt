use Rattle.std.proofs.Common.{◌∙◌, sym, ap, length, arith}
use Rattle.std.proofs.lemmas.Bool.{eqb-true, eqb-false}
use Rattle.conf_match.specs.Pieces.{piece_meaning, pieces_by}
use Rattle.conf_match.proofs.GlobLemmas.{none_left}
use Rattle.conf_match.proofs.StarLemmas.{star_reached, nothing_left, not_taken, one_taken, one_further, all_matched, text_left}
use Rattle.conf_match.proofs.stars.to_star.Goals as goal

pub returns-then-is_any : goal.returns-then-is_any
returns-then-is_any c =
    let kept = c.loop-piece.invariant in
    (star_reached (pieces_by c.args.syntax c.args.pattern.now) c.args.name.now (pieces_by c.args.syntax c.loop-piece.p.now) c.loop-piece.t.now (pieces_by c.args.syntax c.in-Some.ps.now) (piece_meaning c.in-Some.piece) c.in-Some.ensures.piece (sym c.is_any.ensures ∙ c.if-is_any.true) kept.here kept.further kept.no_longer, omega (arith, c.in-Some.ensures.shorter, kept.shorter), c.in-Some.ensures.fits)

pub returns-in_default-first : goal.returns-in_default-first
returns-in_default-first c = nothing_left (pieces_by c.args.syntax c.loop-piece.p.now) c.loop-piece.t.now (pieces_by c.args.syntax c.in-Some.ps.now) (piece_meaning c.in-Some.piece) _ c.in-Some.ensures.piece (sym c.is_any.ensures ∙ c.if-is_any.false) c.in_default-first.ensures c.loop-piece.invariant.here

pub returns-then-not-takes : goal.returns-then-not-takes
returns-then-not-takes c = not_taken (pieces_by c.args.syntax c.loop-piece.p.now) c.loop-piece.t.now (pieces_by c.args.syntax c.in-Some.ps.now) c.in-Some-first.ts.now (piece_meaning c.in-Some.piece) c.in-Some-first.x _ c.in-Some.ensures.piece (sym c.is_any.ensures ∙ c.if-is_any.false) c.in-Some-first.ensures (sym c.takes.ensures ∙ c.if-not-takes.true) c.loop-piece.invariant.here

pub loop-piece-preserved : goal.loop-piece-preserved
loop-piece-preserved c =
    let kept = c.loop-piece.invariant in
    record {
      here = one_taken (pieces_by c.args.syntax c.loop-piece.p.now) c.loop-piece.t.now (pieces_by c.args.syntax c.in-Some.ps.now) c.in-Some-first.ts.now (piece_meaning c.in-Some.piece) c.in-Some-first.x _ c.in-Some.ensures.piece (sym c.is_any.ensures ∙ c.if-is_any.false) c.in-Some-first.ensures (sym c.takes.ensures ∙ c.if-not-takes.false) kept.here;
      further = one_further (pieces_by c.args.syntax c.args.pattern.now) c.args.name.now (pieces_by c.args.syntax c.loop-piece.p.now) c.loop-piece.t.now (pieces_by c.args.syntax c.in-Some.ps.now) c.in-Some-first.ts.now (piece_meaning c.in-Some.piece) c.in-Some-first.x c.in-Some.ensures.piece (sym c.is_any.ensures ∙ c.if-is_any.false) c.in-Some-first.ensures kept.further;
      shorter = omega (arith, c.in-Some.ensures.shorter, kept.shorter);
      no_longer = omega (arith, ap length c.in-Some-first.ensures, kept.no_longer);
      fits = c.in-Some.ensures.fits;
    }

pub returns-then-is_empty : goal.returns-then-is_empty
returns-then-is_empty c = all_matched _ _ _ (ap (pieces_by c.args.syntax) c.in_default.ensures.piece ∙ none_left c.args.syntax) (eqb-true (length c.loop-piece.t.now) 0 (sym c.is_empty.ensures ∙ c.if-is_empty.true)) c.loop-piece.invariant.here

pub returns-else-is_empty : goal.returns-else-is_empty
returns-else-is_empty c = text_left _ _ _ (ap (pieces_by c.args.syntax) c.in_default.ensures.piece ∙ none_left c.args.syntax) (eqb-false (length c.loop-piece.t.now) 0 (sym c.is_empty.ensures ∙ c.if-is_empty.false)) c.loop-piece.invariant.here
