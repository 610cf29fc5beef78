use Rattle.std.proofs.Common.{◌≡◌, ◌∙◌, ap, subst, ℕ, List, ◌++◌, OnOk}
use Rattle.mux_drill.specs.Frames.{welcome}
use Rattle.mux_drill.proofs.FrameLemmas.{three_parts}
use Rattle.mux_drill.proofs.frames.add_welcome.Goals as goal

pub returns : goal.returns
unfolding welcome
returns c =
    let one = c.in_ok-add.ensures.ok
    ∙ ap (λ (b : List ℕ). c.args.text.now ++ b) (c.as_bytes.ensures.value ∙ c.control_frame.ensures) in
    let two = c.in_ok-add-2.ensures.ok
    ∙ ap (λ (b : List ℕ). c.add.new.self ++ b) (c.as_bytes-2.ensures.value ∙ c.control_frame-2.ensures) in
    let P : List ℕ → Type 0 = λ text. OnOk c.add_confirmation.result (c.add_confirmation.new.text ≡ text) in
    subst P (three_parts _ _ _ _ _ _ one two) c.add_confirmation.ensures
