use Rattle.std.proofs.Common.{◌∙◌, sym}
use Rattle.conf_match.specs.Pieces.{pieces_by, takes_name}
use Rattle.conf_match.proofs.StarLemmas.{holds_here, taken_over}
use Rattle.conf_match.proofs.stars.some_suffix.Goals as goal

pub returns-in-Yes : goal.returns-in-Yes
returns-in-Yes c = sym (holds_here (takes_name c.args.syntax c.loop-ts.p.now) c.loop-ts.t.now c.in-Yes.ensures) ∙ c.loop-ts.invariant.here

pub loop-ts-preserved : goal.loop-ts-preserved
loop-ts-preserved c = record {
  here = sym (taken_over (pieces_by c.args.syntax c.loop-ts.p.now) c.loop-ts.t.now (pieces_by c.args.syntax c.in-Star.ps.now) c.in-Star.ts.now c.in-Star.ensures.0) ∙ c.loop-ts.invariant.here;
  fits = c.in-Star.ensures.2;
}
