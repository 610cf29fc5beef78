use Rattle.std.proofs.Common.{◌≡◌, ◌∙◌, sym, ap, ℕ, ◌+◌, ◌-◌, min, List, length, drop, length-drop}
use Rattle.std.proofs.lemmas.List.{drop-drop, drop_min}
use Rattle.mux_drill.specs.DrillOutgoing.{Said, gone_on}
use Rattle.mux_drill.proofs.outgoing.DrillOutgoing.go_on.Goals as goal

-- what is left after a piece
behind_piece : (text all : List ℕ) (given count : ℕ) → count ≡ min 37 (length all - given) → all ≡ text
    → drop (given + count) text ≡ drop 37 (drop given text)
behind_piece text all given count many same =
    sym (drop-drop count given text)
    ∙ ap (λ n. drop n (drop given text)) (many ∙ ap (λ (t : List ℕ). min 37 (length t - given)) same ∙ sym (ap (min 37) (length-drop given text)))
    ∙ drop_min 37 (drop given text)

pub returns : goal.returns
returns c =
    let says : List ℕ → Said = λ rest. record { stream = c.self.inside.stream; rest = rest } in
    ap says (behind_piece c.self.inside.text c.as_bytes-len.result.now c.self.inside.given c.min.result c.min.ensures c.as_bytes-len.ensures)
    ∙ ap gone_on c.self.view_is
