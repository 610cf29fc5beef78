-- The current frame is lent, and a write in it is a write over the bytes that are kept.
use Rattle.std.proofs.Common.{◌∙◌, ap, sym, subst, refl, length, take, drop, ◌++◌, Some}
use Rattle.std.specs.Prelude.{IsSome}
use Rattle.proxy_frames.specs.State.{FramerState, current_from, kept_state}
use Rattle.proxy_frames.specs.Steps.{with_written}
use Rattle.proxy_frames.proofs.Written.{state-written, frame-at}
use Rattle.proxy_frames.proofs.framer.Framer.frame.Goals as goal

pub returns : goal.returns
returns c =
    let a = c.self.inside in
    let xs = a.bytes.items in
    let start = c.unwrap_or-start.result in
    let some : IsSome (current_from a.current a.at xs) = subst (λ (f : FramerState). IsSome f.current) (sym c.self.view_is) c.requires in (
      (
        refl,
        λ w.
            let ws = take start xs ++ (w ++ drop (length w) (drop start xs)) in
            ap (λ n. kept_state a.framing a.fault a.current a.at (take n (ws ++ drop (length ws) xs))) a.bytes.ok.0
            ∙ (state-written a.framing a.fault xs w (drop (length ws) xs) a.current start a.at some c.self.invariant.0 c.self.invariant.1 c.unwrap_or-start.ensures
            ∙ ap (λ f. with_written f w) c.self.view_is),
      ),
      record { writes_back = tt; value = ap (λ (f : FramerState). f.current) (sym c.self.view_is) ∙ (frame-at xs a.current start a.at some c.unwrap_or-start.ensures ∙ ap Some (sym c.slice_mut.ensures.value)) },
    )
