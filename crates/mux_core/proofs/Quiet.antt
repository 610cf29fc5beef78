-- Rows that change nothing but channels.
use Rattle.std.proofs.Common.{◌≡◌, ℕ, List, [], ◌∷◌, ◌++◌, length, true, false, Bool, refl, ◌∙◌, ap, append-nil}
use Rattle.std.specs.Prelude.{◌==◌, ◌||◌, filter, not}
use Rattle.mux_history.specs.Rows.{Row, rows_of, any_of, is_admit, is_lost, loses}
use Rattle.mux_history.specs.Requests.{wanted_requests, asks_of, is_sent, replies, reply_in, sent_flags, wanted, wanted_by}
use Rattle.mux_history.specs.Forwardings.{Forwarding, current, dropped, forwarded, forwardings_of}
use Rattle.mux_history.specs.Log.{admitted_clients}
use Rattle.mux_isolation.specs.LogView.{waiting_left_of}
use Rattle.mux_history.proofs.OwnRows.{idle_row, own_row}
use Rattle.forward_rules.specs.Stands.{places_of}
use Rattle.mux_core.specs.Stands.{look}

-- a row that neither asks nor replies, changes no forwarding, loses no client and admits no client
pub record IsQuiet (row : Row) : Type 0 where
  pub asks : asks_of row.client (is_sent row) (wanted_by row) ≡ []
  pub flags : sent_flags (is_sent row) (wanted_by row) ≡ []
  pub replies : reply_in row.item ≡ []
  pub forwards : (own : List Row) (fs : List Forwarding) → forwarded row own fs ≡ fs
  pub keeps : loses row ≡ false
  pub admits : is_admit row ≡ false

-- the same but for its forwardings
pub record IsSteady (row : Row) : Type 0 where
  pub asks : asks_of row.client (is_sent row) (wanted_by row) ≡ []
  pub flags : sent_flags (is_sent row) (wanted_by row) ≡ []
  pub replies : reply_in row.item ≡ []
  pub keeps : loses row ≡ false
  pub admits : is_admit row ≡ false

pub steady : (row : Row) → IsQuiet row → IsSteady row
steady row q = record { asks = q.asks; flags = q.flags; replies = q.replies; keeps = q.keeps; admits = q.admits }

-- what a row leaves in every log, it leaves in the rows of every client
pub own-same : {A : Type 0} (f : List Row → A) (row : Row) (rows : List Row) → ((own : List Row) → f (row ∷ own) ≡ f own) → (j : ℕ) → f (rows_of j (row ∷ rows)) ≡ f (rows_of j rows)
own-same {A} f row rows same j = by_case (row.client == j) refl
  where
    by_case : (b : Bool) → (row.client == j) ≡ b → f (rows_of j (row ∷ rows)) ≡ f (rows_of j rows)
    by_case true e = ap f (own_row j row rows e) ∙ same (rows_of j rows)
    by_case false e = ap f (idle_row j row rows e)

pub places-steady : (row : Row) → IsSteady row → (own : List Row) → places_of (row ∷ own) ≡ places_of own
places-steady row q own = ap (λ us. record { asked = us; replied = length (replies own ++ reply_in row.item) }) (ap (λ us. wanted_requests own ++ us) q.asks ∙ append-nil (wanted_requests own)) ∙ ap (λ (rs : List (List ℕ)). record { asked = wanted_requests own; replied = length rs }) (ap (λ rs. replies own ++ rs) q.replies ∙ append-nil (replies own))

pub places-same : (row : Row) → IsQuiet row → (own : List Row) → places_of (row ∷ own) ≡ places_of own
places-same row q own = places-steady row (steady row q) own

pub lost-steady : (row : Row) → IsSteady row → (own : List Row) → is_lost (row ∷ own) ≡ is_lost own
lost-steady row q own = ap (λ b. b || any_of loses own) q.keeps

pub lost-same : (row : Row) → IsQuiet row → (own : List Row) → is_lost (row ∷ own) ≡ is_lost own
lost-same row q own = lost-steady row (steady row q) own

pub admitted-steady : (row : Row) → IsSteady row → (own : List Row) → any_of is_admit (row ∷ own) ≡ any_of is_admit own
admitted-steady row q own = ap (λ b. b || any_of is_admit own) q.admits

pub admitted-same : (row : Row) → IsQuiet row → (own : List Row) → any_of is_admit (row ∷ own) ≡ any_of is_admit own
admitted-same row q own = admitted-steady row (steady row q) own

pub waiting-steady : (row : Row) → IsSteady row → (own : List Row) → waiting_left_of (wanted (row ∷ own)) (replies (row ∷ own)) ≡ waiting_left_of (wanted own) (replies own)
waiting-steady row q own = ap (λ fs. waiting_left_of fs (replies own ++ reply_in row.item)) (ap (λ fs. wanted own ++ fs) q.flags ∙ append-nil (wanted own)) ∙ ap (waiting_left_of (wanted own)) (ap (λ rs. replies own ++ rs) q.replies ∙ append-nil (replies own))

waiting-same : (row : Row) → IsQuiet row → (own : List Row) → waiting_left_of (wanted (row ∷ own)) (replies (row ∷ own)) ≡ waiting_left_of (wanted own) (replies own)
waiting-same row q own = waiting-steady row (steady row q) own

kept : (row : Row) (fs : List Forwarding) → loses row ≡ false → dropped row fs ≡ fs
kept row fs e = rw (e, dropped) refl

forwardings-same : (row : Row) (rows : List Row) → IsQuiet row → forwardings_of (row ∷ rows) ≡ forwardings_of rows
forwardings-same row rows q = kept row (forwarded row (rows_of row.client rows) (forwardings_of rows)) q.keeps ∙ q.forwards (rows_of row.client rows) (forwardings_of rows)

pub entered-steady : (row : Row) (rows : List Row) → IsSteady row → admitted_clients (row ∷ rows) ≡ admitted_clients rows
entered-steady row rows q = ap (λ b. admitted_clients rows ++ elim b as (λ _. List ℕ) [ true ↦ row.client ∷ [] | false ↦ [] ]) q.admits ∙ append-nil (admitted_clients rows)

entered-same : (row : Row) (rows : List Row) → IsQuiet row → admitted_clients (row ∷ rows) ≡ admitted_clients rows
entered-same row rows q = entered-steady row rows (steady row q)

-- what is looked up besides the channels stays
pub look-same : (row : Row) (rows : List Row) → IsQuiet row → look (row ∷ rows) ≡ look rows
look-same row rows q =
    let a = places-same row q rows in
    let o : (λ (j : ℕ). places_of (rows_of j (row ∷ rows))) ≡ (λ (j : ℕ). places_of (rows_of j rows)) = λ i j. (own-same places_of row rows (places-same row q)) j i in
    let c : current (row ∷ rows) ≡ current rows = ap (filter (λ (f : Forwarding). not f.over)) (forwardings-same row rows q) in
    let e = entered-same row rows q in
    let d : (λ (j : ℕ). any_of is_admit (rows_of j (row ∷ rows))) ≡ (λ (j : ℕ). any_of is_admit (rows_of j rows)) = λ i j. (own-same (any_of is_admit) row rows (admitted-same row q)) j i in
    let l : (λ (j : ℕ). is_lost (rows_of j (row ∷ rows))) ≡ (λ (j : ℕ). is_lost (rows_of j rows)) = λ i j. (own-same is_lost row rows (lost-same row q)) j i in
    let w : (λ (j : ℕ). waiting_left_of (wanted (rows_of j (row ∷ rows))) (replies (rows_of j (row ∷ rows)))) ≡ (λ (j : ℕ). waiting_left_of (wanted (rows_of j rows)) (replies (rows_of j rows))) = λ i j. (own-same (λ own. waiting_left_of (wanted own) (replies own)) row rows (waiting-same row q)) j i in
    λ i. record { all = a i; own = o i; current = c i; entered = e i; admitted = d i; lost = l i; waiting = w i }

-- and but for the forwardings
pub look-steady : (row : Row) (rows : List Row) → IsSteady row → look (row ∷ rows) ≡ record (look rows) { current = current (row ∷ rows) }
look-steady row rows q =
    let a = places-steady row q rows in
    let o : (λ (j : ℕ). places_of (rows_of j (row ∷ rows))) ≡ (λ (j : ℕ). places_of (rows_of j rows)) = λ i j. (own-same places_of row rows (places-steady row q)) j i in
    let e = entered-steady row rows q in
    let d : (λ (j : ℕ). any_of is_admit (rows_of j (row ∷ rows))) ≡ (λ (j : ℕ). any_of is_admit (rows_of j rows)) = λ i j. (own-same (any_of is_admit) row rows (admitted-steady row q)) j i in
    let l : (λ (j : ℕ). is_lost (rows_of j (row ∷ rows))) ≡ (λ (j : ℕ). is_lost (rows_of j rows)) = λ i j. (own-same is_lost row rows (lost-steady row q)) j i in
    let w : (λ (j : ℕ). waiting_left_of (wanted (rows_of j (row ∷ rows))) (replies (rows_of j (row ∷ rows)))) ≡ (λ (j : ℕ). waiting_left_of (wanted (rows_of j rows)) (replies (rows_of j rows))) = λ i j. (own-same (λ own. waiting_left_of (wanted own) (replies own)) row rows (waiting-steady row q)) j i in
    λ i. record { all = a i; own = o i; current = current (row ∷ rows); entered = e i; admitted = d i; lost = l i; waiting = w i }
