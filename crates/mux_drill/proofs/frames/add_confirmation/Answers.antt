use Rattle.std.proofs.Common.{◌≡◌, ◌∙◌, subst, ℕ, List, ◌++◌, OnOk}
use Rattle.ssh_grammar.specs.Frames.{frame_payload}
use Rattle.mux_drill.specs.Frames.{confirmation_frame}
use Rattle.mux_drill.proofs.frames.add_confirmation.Goals as goal

pub returns : goal.returns
unfolding confirmation_frame
returns c =
    let P : List ℕ → Type 0 = λ payload. OnOk c.add_frame.result (c.add_frame.new.text ≡ c.args.text.now ++ frame_payload payload) in
    subst P (c.as_bytes.ensures.value ∙ c.confirmation_payload.ensures) c.add_frame.ensures
