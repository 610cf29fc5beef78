-- At every row at most 64 requests of a client for forwardings have no reply.
use Rattle.std.proofs.Common.{◌≡◌, ℕ, zero, suc, ◌+◌, ◌≤◌, List, [], ◌∷◌, ◌++◌, map, take, drop, length, length-append, true, false, Bool, refl, ◌∙◌, ap, arith, sym, subst}
use Rattle.std.specs.Prelude.{◌==◌, ◌||◌, filter}
use Rattle.std.proofs.lemmas.List.{append-nil, length-drop}
use Rattle.ssh_grammar.specs.Messages.{Cancel, Forward}
use Rattle.mux_history.specs.Forwardings.{Forwarding, dropped, forwarded, forwardings_of, is_forwarding_free_at, of_client}
use Rattle.mux_history.specs.Kept.{ForEach}
use Rattle.mux_history.specs.Log.{bare_row, treat}
use Rattle.mux_history.specs.Policy.{Policy}
use Rattle.mux_history.specs.Requests.{Ask, wanted_requests, asks_of, is_sent, replies, reply_in, wanted_by}
use Rattle.mux_history.specs.Rows.{Item, Row, Took, any_of, is_lost, loses, rows_of}
use Rattle.mux_history.specs.Said.{silent}
use Rattle.mux_history.specs.Steps.{unreplied}
use Rattle.mux_history.proofs.Askers.{Orderly, asks-local, asks_for}
use Rattle.mux_history.proofs.AskersSteps.{goes-on}
use Rattle.mux_history.proofs.Bools.{or-left}
use Rattle.mux_history.proofs.Finds.{filter-no, filter-yes}
use Rattle.mux_history.proofs.Nexts.{by-next}
use Rattle.mux_history.proofs.OwnRows.{rows-twice, same-client}
use Rattle.mux_history.proofs.RightLogs.{RowKnown}
use Rattle.mux_bounds.proofs.Closing.{known-begins}
use Rattle.mux_bounds.proofs.Covers.{add_if, forwards-few, forwards_in, is_forward}
use Rattle.mux_bounds.proofs.Farewells.{Bounds, row-bounds}
use Rattle.mux_bounds.proofs.Owed.{Asks, Held, asks-none, cancel-free, forward-wants, next-held}
use Rattle.mux_bounds.proofs.SentRequests.{SentRequest, row-said}

-- ---- replies and requests of a client

front-few : (test : Ask → Bool) (n : ℕ) (xs : List Ask) → length (filter test (take n xs)) ≤ length (filter test xs)
front-few test zero xs = omega arith
front-few test (suc n) [] = omega arith
front-few test (suc n) (x ∷ xs) = by_case (front-few test n xs) (test x) refl
  where
    by_case : length (filter test (take n xs)) ≤ length (filter test xs) → (b : Bool) → test x ≡ b → length (filter test (x ∷ take n xs)) ≤ length (filter test (x ∷ xs))
    by_case ih true e = let a = ap length (filter-yes test x (take n xs) e) in let b = ap length (filter-yes test x xs e) in omega (arith, ih)
    by_case ih false e = let a = ap length (filter-no test x (take n xs) e) in let b = ap length (filter-no test x xs e) in omega (arith, ih)

pub within-own : (rows : List Row) (k : ℕ) → Orderly rows → length (replies (rows_of k rows)) ≤ length (wanted_requests (rows_of k rows))
within-own rows k orderly =
    let a = orderly.each k in
    let b = front-few (asks_for k) (length (replies rows)) (wanted_requests rows) in
    let c = ap length (asks-local k rows) in
    omega (arith, a, b, c)

pub drop-forwards : (n : ℕ) (us : List Ask) → forwards_in (drop n us) ≤ forwards_in us
drop-forwards zero us = omega arith
drop-forwards (suc n) [] = omega arith
drop-forwards (suc n) (u ∷ us) = by_case (is_forward u.what) (drop-forwards n us)
  where
    by_case : (b : Bool) → forwards_in (drop n us) ≤ forwards_in us → forwards_in (drop n us) ≤ add_if b (forwards_in us)
    by_case true ih = omega (arith, ih)
    by_case false ih = ih

-- ---- one client

abbrev pub OwedFew : List Row → Type 0
OwedFew own = forwards_in (unreplied own) ≤ 64

record State (own : List Row) : Type 0 where
  few : OwedFew own
  held : is_lost own ≡ false → Held (length (replies own)) (unreplied own) (forwardings_of own)

asks-of-row : (policy : Policy) (before : List Row) (row : Row) → SentRequest policy before row → Asks row (forwardings_of (rows_of row.client before))
asks-of-row policy before row said = record {
  wants = λ j p given key want item reads sent. forward-wants policy j (rows_of j before) p key want (said j p given (Forward key) want item reads sent).1;
  free = λ j p given key want item reads sent.
      let s = said j p given (Cancel key) want item reads sent in
      subst (λ (i : ℕ). any_of (is_forwarding_free_at i key) (forwardings_of (rows_of i before)) ≡ true) (sym s.0) (cancel-free policy j (rows_of j before) p key want s.1);
}

not-dropped : (row : Row) (fs : List Forwarding) → loses row ≡ false → dropped row fs ≡ fs
not-dropped row fs e = ap (λ b. elim b as (λ _. List Forwarding) [ true ↦ map (of_client row.client (λ f. record f { over = true })) fs | false ↦ fs ]) e

state-live : (policy : Policy) (pid : ℕ) (before : List Row) (row : Row) → RowKnown policy pid before row → ForEach (RowKnown policy pid) before → length (replies (rows_of row.client before)) ≤ length (wanted_requests (rows_of row.client before)) → State (rows_of row.client before) → State (row ∷ rows_of row.client before)
state-live policy pid before row known each le state = by_lost (is_lost (rows_of row.client before)) refl
  where
    next : unreplied (row ∷ rows_of row.client before) ≡ drop (length (reply_in row.item)) (unreplied (rows_of row.client before) ++ asks_of row.client (is_sent row) (wanted_by row))
    next = goes-on row (rows_of row.client before) le

    place : length (replies (row ∷ rows_of row.client before)) ≡ length (replies (rows_of row.client before)) + length (reply_in row.item)
    place = length-append (replies (rows_of row.client before)) (reply_in row.item)

    here : length (replies (rows_of row.client before)) + length (unreplied (rows_of row.client before)) ≡ length (wanted_requests (rows_of row.client before))
    here = let d = length-drop (length (replies (rows_of row.client before))) (wanted_requests (rows_of row.client before)) in omega (arith, d, le)

    bounds : Bounds (rows_of row.client before) row
    bounds = row-bounds policy pid before row known each

    by_lost : (b : Bool) → is_lost (rows_of row.client before) ≡ b → State (row ∷ rows_of row.client before)
    by_lost false e =
        let after = next-held row (rows_of row.client before) (unreplied (rows_of row.client before)) (forwardings_of (rows_of row.client before)) here (asks-of-row policy before row (row-said policy pid before row known)) (state.held e) in
        let now : Held (length (replies (row ∷ rows_of row.client before))) (unreplied (row ∷ rows_of row.client before)) (forwarded row (rows_of row.client before) (forwardings_of (rows_of row.client before))) =
        subst (λ (n : ℕ). Held n (unreplied (row ∷ rows_of row.client before)) (forwarded row (rows_of row.client before) (forwardings_of (rows_of row.client before)))) (sym place)
        (subst (λ (us : List Ask). Held (length (replies (rows_of row.client before)) + length (reply_in row.item)) us (forwarded row (rows_of row.client before) (forwardings_of (rows_of row.client before)))) (sym next) after) in
        record {
          few = let a = forwards-few (length (replies (row ∷ rows_of row.client before))) (unreplied (row ∷ rows_of row.client before)) (forwarded row (rows_of row.client before) (forwardings_of (rows_of row.client before))) now.cover now.sound in let b = bounds.forwardings in omega (arith, a, b);
          held = λ on. subst (λ (fs : List Forwarding). Held (length (replies (row ∷ rows_of row.client before))) (unreplied (row ∷ rows_of row.client before)) fs)
              (sym (not-dropped row (forwarded row (rows_of row.client (rows_of row.client before)) (forwardings_of (rows_of row.client before))) (or-left (loses row) (is_lost (rows_of row.client before)) on) ∙ ap (λ own. forwarded row own (forwardings_of (rows_of row.client before))) (rows-twice row.client before)))
              now;
        }
    by_lost true e =
        let none : asks_of row.client (is_sent row) (wanted_by row) ≡ [] = ap (asks_of row.client (is_sent row)) (known-begins policy pid before row each known e).1 ∙ asks-none row.client (is_sent row) in
        let same : unreplied (row ∷ rows_of row.client before) ≡ drop (length (reply_in row.item)) (unreplied (rows_of row.client before)) = next ∙ ap (drop (length (reply_in row.item))) (ap (λ xs. unreplied (rows_of row.client before) ++ xs) none ∙ append-nil (unreplied (rows_of row.client before))) in
        let fewer = drop-forwards (length (reply_in row.item)) (unreplied (rows_of row.client before)) in
        let was = state.few in
        let count = ap forwards_in same in
        record {
          few = omega (arith, fewer, was, count);
          held = λ on. let bad : true ≡ false = sym (or-yes (loses row) (is_lost (rows_of row.client before)) e) ∙ on in absurd (let h = bad in cc);
        }
      where
        or-yes : (a b : Bool) → b ≡ true → (a || b) ≡ true
        or-yes true b e = refl
        or-yes false b e = e

state-take : (stream size : ℕ) (own : List Row) → State own → State (bare_row (Took stream size) stream silent ∷ own)
state-take stream size own state = record {
  few = subst (λ us. forwards_in us ≤ 64) (sym us-same) state.few;
  held = λ on. subst (λ (n : ℕ). Held n (unreplied (bare_row (Took stream size) stream silent ∷ own)) (forwardings_of own)) (sym (ap length replies-same)) (subst (λ (us : List Ask). Held (length (replies own)) us (forwardings_of own)) (sym us-same) (state.held on));
}
  where
    replies-same : replies (bare_row (Took stream size) stream silent ∷ own) ≡ replies own
    replies-same = append-nil (replies own)

    us-same : unreplied (bare_row (Took stream size) stream silent ∷ own) ≡ unreplied own
    us-same = ap (λ (rs : List (List ℕ)). drop (length rs) (wanted_requests own ++ [])) replies-same ∙ ap (drop (length (replies own))) (append-nil (wanted_requests own))

state-next : (policy : Policy) (pid : ℕ) (before : List Row) (row : Row) → RowKnown policy pid before row → ForEach (RowKnown policy pid) before → State (rows_of row.client before) → State (row ∷ rows_of row.client before)
state-next policy pid before row known each state =
    by-next before known.item known.may
    (λ going makes. state-live policy pid before row known each (within-own before row.client (known.orderly going)) state)
    (λ stream size took. take stream size (sym known.is ∙ ap (λ (i : Item). treat policy pid known.pick before i) took))
  where
    take : (stream size : ℕ) → row ≡ bare_row (Took stream size) stream silent → State (row ∷ rows_of row.client before)
    take stream size is = subst (λ (r : Row). State (r ∷ rows_of row.client before)) (sym is) (state-take stream size (rows_of row.client before) state)

states : (policy : Policy) (pid : ℕ) (rows : List Row) → ForEach (RowKnown policy pid) rows → (k : ℕ) → State (rows_of k rows)
states policy pid [] each k = record { few = omega arith; held = λ on. record { cover = tt; sound = tt } }
states policy pid (row ∷ before) each k = by_case (states policy pid before each.1 k) (row.client == k) refl (λ s. state-next policy pid before row each.0 each.1 s)
  where
    by_case : State (rows_of k before) → (b : Bool) → (row.client == k) ≡ b → (State (rows_of row.client before) → State (row ∷ rows_of row.client before)) → State (rows_of k (row ∷ before))
    by_case ih true e step =
        let same : row.client ≡ k = same-client row.client k e in
        subst State (sym (filter-yes (λ (r : Row). r.client == k) row before e))
        (subst (λ (j : ℕ). State (row ∷ rows_of j before)) same (step (subst (λ (j : ℕ). State (rows_of j before)) (sym same) ih)))
    by_case ih false e step = subst State (sym (filter-no (λ (r : Row). r.client == k) row before e)) ih

pub owed-few : (policy : Policy) (pid : ℕ) (rows : List Row) → ForEach (RowKnown policy pid) rows → (k : ℕ) → OwedFew (rows_of k rows)
owed-few policy pid rows each k = (states policy pid rows each k).few
