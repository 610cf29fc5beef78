-- Matters that are closed stay closed: a lost client begins nothing and asks nothing.
use Rattle.std.proofs.Common.{◌≡◌, ℕ, ◌≤◌, List, [], ◌∷◌, length, length-append, true, false, Bool, refl, ◌∙◌, ap, arith, sym, None, subst}
use Rattle.std.specs.Prelude.{◌==◌, ◌&&◌, ◌||◌, not, nat_lt}
use Rattle.std.proofs.lemmas.Bool.Decides.{nat_tests}
use Rattle.mux_history.specs.Controls.{house_sends}
use Rattle.mux_history.specs.Channels.{Channel, begun_by, held_of, is_channel_held}
use Rattle.mux_history.specs.Farewell.{has_open_matters}
use Rattle.mux_history.specs.Summary.{Open}
use Rattle.mux_history.specs.Heard.{Breaks, Dest, Disconnects, ToClient, ToMaster, dest, received_for}
use Rattle.mux_history.specs.Kept.{ForEach}
use Rattle.mux_history.specs.Log.{admits, received_row, makes_row, sent_by_client, treat}
use Rattle.mux_history.specs.Policy.{Policy}
use Rattle.mux_history.specs.Requests.{wanted_requests, asks_of, is_sent, replies, reply_in, wanted_by}
use Rattle.mux_history.specs.Rows.{Admit, Fate, Gone, Heard, HouseSays, Item, Row, Says, any_of, is_admit, is_lost, is_out, loses, rows_of}
use Rattle.mux_history.specs.Said.{silent}
use Rattle.mux_bounds.specs.Few.{HasNothing}
use Rattle.mux_history.proofs.Dests.{dest-ok}
use Rattle.mux_history.proofs.Finds.{filter-no, filter-yes}
use Rattle.mux_history.proofs.Nexts.{by-next}
use Rattle.mux_history.proofs.OwnRows.{same-client}
use Rattle.mux_history.proofs.RightLogs.{LogKnown, RowKnown}
use Rattle.mux_history.proofs.Sends.{as_row, row-parts}
use Rattle.mux_bounds.proofs.Closed.{lost-out, nothing-left}
use Rattle.mux_bounds.proofs.Begun.{heard-begins-none, held-count, lost-offers}
use Rattle.mux_history.proofs.Bools.{or-yes}

-- ---- a lost client begins nothing and asks nothing

abbrev Begins : List Row → Row → Type 0
Begins before row = is_lost (rows_of row.client before) ≡ true → (begun_by row.client row.up row.item ≡ []) × (wanted_by row ≡ None)

heard-begins : (policy : Policy) (pid : ℕ) (before : List Row) (k : ℕ) (p : List ℕ) (fw down : List (List ℕ)) (fate : Fate) → ForEach (RowKnown policy pid) before → dest before p ≡ ToClient k → Begins before (as_row (Heard p) k (received_for (rows_of k before) p).sent fw down fate)
heard-begins policy pid before k p fw down fate each to lost =
    (heard-begins-none k p (received_for (rows_of k before) p).sent (λ what s w max reads. lost-offers policy pid before k s what each lost (sym (dest-ok before p (Open what s w max) reads) ∙ to)), refl)

dest-begins : (policy : Policy) (pid : ℕ) (before : List Row) (p : List ℕ) → ForEach (RowKnown policy pid) before → (d : Dest) → dest before p ≡ d → Begins before (received_row before p d)
dest-begins policy pid before p each ToMaster e = λ lost. (refl, refl)
dest-begins policy pid before p each (ToClient k) e = row-parts (Begins before) (Heard p) k (received_for (rows_of k before) p) (rows_of k before) (λ fw parting down fate. heard-begins policy pid before k p fw down fate each e)
dest-begins policy pid before p each Disconnects e = λ lost. (refl, refl)
dest-begins policy pid before p each (Breaks cause) e = λ lost. (refl, refl)

not-out : (own : List Row) → not (is_out own) ≡ true → is_lost own ≡ true → ⊥
not-out own going lost = let bad : false ≡ true = sym (ap not (lost-out own lost)) ∙ going in absurd (let h = bad in cc)

live-begins : (policy : Policy) (pid pick : ℕ) (before : List Row) (item : Item) → ForEach (RowKnown policy pid) before → makes_row before item ≡ true → Begins before (treat policy pid pick before item)
live-begins policy pid pick before (Says k outgoing reply) each makes = row-parts (Begins before) (Says k outgoing reply) k (sent_by_client policy pid k (rows_of k before) pick outgoing reply) (rows_of k before) (λ fw parting down fate lost. absurd (not-out (rows_of k before) makes lost))
live-begins policy pid pick before (Admit k) each makes = row-parts (Begins before) (Admit k) k (admits before) (rows_of k before) (λ fw parting down fate lost. (refl, refl))
live-begins policy pid pick before (HouseSays k id given) each makes = row-parts (Begins before) (HouseSays k id given) k (house_sends (rows_of k before) id given) (rows_of k before) (λ fw parting down fate lost. absurd (not-out (rows_of k before) makes lost))
live-begins policy pid pick before (Gone k) each makes = row-parts (Begins before) (Gone k) k silent (rows_of k before) (λ fw parting down fate lost. (refl, refl))
live-begins policy pid pick before (Heard p) each makes = dest-begins policy pid before p each (dest before p) refl
live-begins policy pid pick before item each makes = λ lost. (refl, refl)

pub known-begins : (policy : Policy) (pid : ℕ) (before : List Row) (row : Row) → ForEach (RowKnown policy pid) before → RowKnown policy pid before row → Begins before row
known-begins policy pid before row each known =
    subst (Begins before) known.is
    (by-next before known.item known.may
    (λ going makes. live-begins policy pid known.pick before known.item each makes)
    (λ stream size took. subst (λ (i : Item). Begins before (treat policy pid known.pick before i)) (sym took) (λ lost. (refl, refl))))

-- ---- closed matters stay closed

no-more : (xs : List Channel) → length xs ≤ 0 → xs ≡ []
no-more [] le = refl
no-more (x ∷ xs) le = absurd (omega (arith, le))

no-less : (a b : ℕ) → b ≤ a → nat_lt a b ≡ false
no-less a b le = grind (arith, nat_tests)

all-closed : (a l h n : Bool) → l ≡ true → h ≡ false → n ≡ false → ((a && not l) || (h || n)) ≡ false
all-closed true true false false l h n = refl
all-closed false true false false l h n = refl
all-closed a false h n l e f = cc
all-closed a true true n l e f = cc
all-closed a true false true l e f = cc

asks-same : (k : ℕ) (sent : Bool) → length (asks_of k sent None) ≡ 0
asks-same k true = refl
asks-same k false = refl

stays-closed : (row : Row) (own : List Row) → HasNothing own → is_lost own ≡ true → begun_by row.client row.up row.item ≡ [] → wanted_by row ≡ None → has_open_matters (row ∷ own) ≡ false
stays-closed row own nothing lost begins wants =
    let count = held-count row own in
    let none = ap length nothing.channels in
    let new = ap length begins in
    let held : held_of (row ∷ own) ≡ [] = no-more (held_of (row ∷ own)) (omega arith) in
    let asked = ap length (ap (asks_of row.client (is_sent row)) wants) ∙ asks-same row.client (is_sent row) in
    let a = length-append (wanted_requests own) (asks_of row.client (is_sent row) (wanted_by row)) in
    let r = length-append (replies own) (reply_in row.item) in
    let before = nothing.requests in
    let fewer : length (wanted_requests (row ∷ own)) ≤ length (replies (row ∷ own)) = omega (arith, before) in
    all-closed (any_of is_admit (row ∷ own)) (is_lost (row ∷ own)) (any_of is_channel_held (held_of (row ∷ own))) (nat_lt (length (replies (row ∷ own))) (length (wanted_requests (row ∷ own)))) (or-yes (loses row) (is_lost own) lost) (ap (any_of is_channel_held) held) (no-less (length (replies (row ∷ own))) (length (wanted_requests (row ∷ own))) fewer)

-- lost, where the matters of one that was admitted are closed
lost-of : (a l r : Bool) → a ≡ true → ((a && not l) || r) ≡ false → l ≡ true
lost-of true true r a e = refl
lost-of true false r a e = cc
lost-of false l r a e = cc

pub closed-next : (policy : Policy) (pid : ℕ) (before : List Row) (row : Row) → LogKnown policy pid before → RowKnown policy pid before row → (k : ℕ) → any_of is_admit (rows_of k before) ≡ true → has_open_matters (rows_of k before) ≡ false → has_open_matters (rows_of k (row ∷ before)) ≡ false
closed-next policy pid before row log known k admitted closed = by_case (row.client == k) refl
  where
    by_case : (b : Bool) → (row.client == k) ≡ b → has_open_matters (rows_of k (row ∷ before)) ≡ false
    by_case true e =
        let mine : row.client ≡ k = same-client row.client k e in
        let lost : is_lost (rows_of k before) ≡ true = lost-of (any_of is_admit (rows_of k before)) (is_lost (rows_of k before)) _ admitted closed in
        let begins = known-begins policy pid before row log.each known (ap (λ j. is_lost (rows_of j before)) mine ∙ lost) in
        ap has_open_matters (filter-yes (λ (r : Row). r.client == k) row before e)
        ∙ stays-closed row (rows_of k before) (nothing-left policy pid before log k admitted closed) lost begins.0 begins.1
    by_case false e = ap has_open_matters (filter-no (λ (r : Row). r.client == k) row before e) ∙ closed
