-- A limit that stays in two calls stays in both.
use Rattle.std.proofs.Common.{◌≡◌, ◌∙◌, ℕ}

pub few_after : {first second third : ℕ} {A B C : Type 0}
    → (second ≡ first) × (A → B) → (third ≡ second) × (B → C) → (third ≡ first) × (A → C)
few_after before after = (after.0 ∙ before.0, λ few. after.1 (before.1 few))
