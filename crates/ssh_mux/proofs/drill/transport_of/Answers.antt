use Rattle.std.proofs.Common.{◌≡◌, ◌++◌, ◌<◌, ◌≤◌, ℕ, List, [], ◌∷◌, length, get_or, refl, arith, ◌∙◌}
use Rattle.ssh_mux.specs.Drill.{drill_transport}
use Rattle.ssh_mux.proofs.drill.transport_of.Goals as goal

few : (words : List (List ℕ)) → length words < 4 → [] ≡ drill_transport words
unfolding drill_transport
few [] low = refl
few (a ∷ []) low = refl
few (a ∷ b ∷ []) low = refl
few (a ∷ b ∷ c ∷ []) low = refl
few (a ∷ b ∷ c ∷ d ∷ ws) low = absurd (omega (arith, low))

three : (words : List (List ℕ)) (a b c : List ℕ) → 4 ≤ length words → a ≡ get_or words 1 a → b ≡ get_or words 2 b → c ≡ get_or words 3 c → a ++ (32 ∷ b ++ (32 ∷ c)) ≡ drill_transport words
unfolding drill_transport
three (first ∷ s ∷ t ∷ u ∷ more) a b c low e f g = rw (e, f, g) refl
three words a b c low e f g = absurd (omega (arith, low))

pub returns-in_default : goal.returns-in_default
returns-in_default c = c.new.ensures ∙ few c.args.words.now c.in_default.len_below

pub returns : goal.returns
returns c =
    let whole = three c.args.words.now c.seed-item.result c.clients-item.result c.messages-item.result c.in-len4-up.len_at_least c.seed-item.is c.clients-item.is c.messages-item.is in
    rw (c.as_bytes.ensures, c.as_bytes-2.ensures, c.as_bytes-3.ensures, whole) at c.spaced.ensures
