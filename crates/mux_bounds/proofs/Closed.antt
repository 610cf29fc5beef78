-- A client whose matters are closed has nothing left.
use Rattle.std.proofs.Common.{◌≡◌, ℕ, ◌≤◌, List, [], ◌∷◌, length, true, false, Bool, refl, ◌∙◌, ap, arith, map, sym, Some, None, subst, Ok, Err}
use Rattle.std.specs.Prelude.{◌==◌, ◌||◌, ◌&&◌, filter, not, Result, nat_lt}
use Rattle.std.proofs.lemmas.Bool.Decides.{nat_tests}
use Rattle.mux_history.specs.Channels.{Channel, channels_of, held_of, is_channel_held, is_number}
use Rattle.mux_history.specs.Farewell.{has_open_matters}
use Rattle.mux_history.specs.Forwardings.{Forwarding, forwarded, forwardings_of, is_request, of_client, forwarding_after_reply}
use Rattle.mux_history.specs.Summary.{Summary, Refuses, Succeeds, read_summary}
use Rattle.mux_history.specs.Kept.{AtEach, ForEach}
use Rattle.mux_history.specs.Keys.{bound}
use Rattle.mux_history.specs.Log.{makes_row, sent_by_client, treat}
use Rattle.mux_history.specs.Policy.{Policy}
use Rattle.mux_history.specs.Requests.{wanted_requests, replies}
use Rattle.mux_history.specs.Right.{IsAdmitted}
use Rattle.mux_history.specs.Rows.{Heard, Item, Row, Says, Took, any_of, is_admit, is_lost, is_out, is_refusal, loses, rows_of}
use Rattle.mux_bounds.specs.Few.{HasNothing, LeavesNothing}
use Rattle.ssh_grammar.specs.declared.fault.Bad.{Bad}
use Rattle.mux_history.proofs.Bools.{or-left, or-right}
use Rattle.mux_history.proofs.Finds.{filter-no, filter-yes}
use Rattle.mux_history.proofs.ForwardsLocal.{for_of, forwarded-mine, forwardings-local}
use Rattle.mux_history.proofs.LawfulItems.{client-of, treat-item}
use Rattle.mux_history.proofs.Nexts.{by-next}
use Rattle.mux_history.proofs.OwnRows.{same-client}
use Rattle.mux_history.proofs.RightLogs.{LogKnown, RowKnown}

abbrev pub EachF : (Forwarding → Bool) → List Forwarding → Type 0
EachF test [] = Unit {0}
EachF test (f ∷ fs) = (test f ≡ true) × EachF test fs

abbrev pub is_done : Forwarding → Bool
is_done f = f.over

passes-filter : (test : Forwarding → Bool) (fs : List Forwarding) → EachF test (filter test fs)
passes-filter test [] = tt
passes-filter test (f ∷ fs) = by_case (passes-filter test fs) (test f) refl
  where
    by_case : EachF test (filter test fs) → (b : Bool) → test f ≡ b → EachF test (filter test (f ∷ fs))
    by_case ih true e = subst (EachF test) (sym (filter-yes test f fs e)) (e, ih)
    by_case ih false e = subst (EachF test) (sym (filter-no test f fs e)) ih

-- where all are over, none is current
pub none-current : (fs : List Forwarding) → EachF is_done fs → filter (λ f. not f.over) fs ≡ []
none-current [] done = refl
none-current (f ∷ fs) done = filter-no (λ (f : Forwarding). not f.over) f fs (ap not done.0) ∙ none-current fs done.1

ends-all : (c k : ℕ) → (c == k) ≡ true → (fs : List Forwarding) → EachF (for_of k) fs → EachF is_done (map (of_client c (λ f. record f { over = true })) fs)
ends-all c k e [] mine = tt
ends-all c k e (f ∷ fs) mine = (ap (λ b. (elim b as (λ _. Forwarding) [ true ↦ record f { over = true } | false ↦ f ]).over) (both f.client c k mine.0 e), ends-all c k e fs mine.1)
  where
    both : (a b k : ℕ) → (a == k) ≡ true → (b == k) ≡ true → (a == b) ≡ true
    both a b k e f = grind (arith, nat_tests)

pub replied-done : (n : ℕ) (m : Summary) (f : Forwarding) → f.over ≡ true → (forwarding_after_reply n m f).over ≡ true
replied-done n (Succeeds rest) f done = by_case (is_request f n) (is_number f.cancel n)
  where
    by_case : (a b : Bool) → (elim a as (λ _. Forwarding) [ true ↦ record f { live = Some (bound f.key rest) } | false ↦ elim b as (λ _. Forwarding) [ true ↦ record f { over = true } | false ↦ f ] ]).over ≡ true
    by_case true b = done
    by_case false true = refl
    by_case false false = done
replied-done n Refuses f done = by_case (is_request f n) (is_number f.cancel n)
  where
    by_case : (a b : Bool) → (elim a as (λ _. Forwarding) [ true ↦ record f { over = true } | false ↦ elim b as (λ _. Forwarding) [ true ↦ record f { cancel = None } | false ↦ f ] ]).over ≡ true
    by_case true b = refl
    by_case false true = done
    by_case false false = done
replied-done n m f done = done

stay-done : (c n : ℕ) (m : Summary) (fs : List Forwarding) → EachF is_done fs → EachF is_done (map (of_client c (forwarding_after_reply n m)) fs)
stay-done c n m [] done = tt
stay-done c n m (f ∷ fs) done = (elim (f.client == c) as (λ b. (elim b as (λ _. Forwarding) [ true ↦ forwarding_after_reply n m f | false ↦ f ]).over ≡ true) [ true ↦ replied-done n m f done.0 | false ↦ done.0 ], stay-done c n m fs done.1)

pub lost-out : (own : List Row) → is_lost own ≡ true → is_out own ≡ true
lost-out [] lost = cc
lost-out (row ∷ own) lost = by_case (loses row) (is_refusal row.fate) lost (λ h. lost-out own h)
  where
    by_case : (a b : Bool) → (a || is_lost own) ≡ true → (is_lost own ≡ true → is_out own ≡ true) → ((a || b) || is_out own) ≡ true
    by_case true b lost ih = refl
    by_case false true lost ih = refl
    by_case false false lost ih = ih lost

-- a lost client sends nothing, and what the server sends ends no end
forwarded-done : (policy : Policy) (pid pick : ℕ) (before : List Row) (k : ℕ) (item : Item) (row : Row) (own : List Row) → row.client ≡ k → row.item ≡ item → (treat policy pid pick before item).client ≡ k → makes_row before item ≡ true → is_lost (rows_of k before) ≡ true → (fs : List Forwarding) → EachF is_done fs → EachF is_done (forwarded row own fs)
forwarded-done policy pid pick before k item row own client is mine makes lost fs done = subst (λ (i : Item). EachF is_done (forwarded (record row { item = i }) own fs)) (sym is) (by_item item mine makes)
  where
    silent_lost : (j : ℕ) → j ≡ k → not (is_out (rows_of j before)) ≡ true → ⊥
    silent_lost j same going = let out : is_out (rows_of j before) ≡ true = ap (λ i. is_out (rows_of i before)) same ∙ lost-out (rows_of k before) lost in let bad : false ≡ true = sym (ap not out) ∙ going in absurd (let h = bad in cc)

    by_reading : (r : Result Summary Bad) (g : Summary → List Forwarding) → ((m : Summary) → EachF is_done (g m)) → EachF is_done (elim r as (λ _. List Forwarding) [ Err e ↦ fs | Ok m ↦ g m ])
    by_reading (Err e) g each = done
    by_reading (Ok m) g each = each m

    by_item : (i : Item) → (treat policy pid pick before i).client ≡ k → makes_row before i ≡ true → EachF is_done (forwarded (record row { item = i }) own fs)
    by_item (Says j outgoing reply) mine makes = absurd (silent_lost j (sym (client-of (Says j outgoing reply) j (sent_by_client policy pid j (rows_of j before) pick outgoing reply) (rows_of j before)) ∙ mine) makes)
    by_item (Heard p) mine makes = by_reading (read_summary p) (λ m. map (of_client row.client (forwarding_after_reply (length (replies own)) m)) fs) (λ m. stay-done row.client (length (replies own)) m fs done)
    by_item i mine makes = done

pub lost-done : (policy : Policy) (pid k : ℕ) (rows : List Row) → ForEach (RowKnown policy pid) rows → is_lost (rows_of k rows) ≡ true → EachF is_done (forwardings_of (rows_of k rows))
lost-done policy pid k [] each lost = tt
lost-done policy pid k (row ∷ before) each lost = by_case (λ h. lost-done policy pid k before each.1 h) (row.client == k) refl lost
  where
    known : RowKnown policy pid before row
    known = each.0

    took-done : (own : List Row) (fs : List Forwarding) (stream size : ℕ) → row.item ≡ Took stream size → EachF is_done fs → EachF is_done (forwarded row own fs)
    took-done own fs stream size took done = subst (λ (i : Item). EachF is_done (forwarded (record row { item = i }) own fs)) (sym took) done

    by_loss : (row.client == k) ≡ true → (is_lost (rows_of k before) ≡ true → EachF is_done (forwardings_of (rows_of k before))) → (b : Bool) → loses row ≡ b → (b || is_lost (rows_of k before)) ≡ true → EachF is_done (elim b as (λ _. List Forwarding) [ true ↦ map (of_client row.client (λ f. record f { over = true })) (forwarded row (rows_of row.client (rows_of k before)) (forwardings_of (rows_of k before))) | false ↦ forwarded row (rows_of row.client (rows_of k before)) (forwardings_of (rows_of k before)) ])
    by_loss e ih true l lost = ends-all row.client k e (forwarded row (rows_of row.client (rows_of k before)) (forwardings_of (rows_of k before))) (subst (EachF (for_of k)) (forwarded-mine k row (rows_of row.client (rows_of k before)) (forwardings_of before) e ∙ ap (forwarded row (rows_of row.client (rows_of k before))) (forwardings-local k before)) (passes-filter (for_of k) (forwarded row (rows_of row.client (rows_of k before)) (forwardings_of before))))
    by_loss e ih false l lost =
        let mine : row.client ≡ k = same-client row.client k e in
        by-next before known.item known.may
        (λ going makes. forwarded-done policy pid known.pick before k known.item row (rows_of row.client (rows_of k before)) mine (sym (ap (λ (r : Row). r.item) known.is) ∙ treat-item policy pid known.pick before known.item) (ap (λ (r : Row). r.client) known.is ∙ mine) makes lost (forwardings_of (rows_of k before)) (ih lost))
        (λ stream size took. took-done (rows_of row.client (rows_of k before)) (forwardings_of (rows_of k before)) stream size (sym (ap (λ (r : Row). r.item) known.is) ∙ (treat-item policy pid known.pick before known.item ∙ took)) (ih lost))

    by_case : (is_lost (rows_of k before) ≡ true → EachF is_done (forwardings_of (rows_of k before))) → (b : Bool) → (row.client == k) ≡ b → is_lost (rows_of k (row ∷ before)) ≡ true → EachF is_done (forwardings_of (rows_of k (row ∷ before)))
    by_case ih true e lost = subst (λ (rs : List Row). EachF is_done (forwardings_of rs)) (sym (filter-yes (λ (r : Row). r.client == k) row before e)) (by_loss e ih (loses row) refl (sym (ap is_lost (filter-yes (λ (r : Row). r.client == k) row before e)) ∙ lost))
    by_case ih false e lost = subst (λ (rs : List Row). EachF is_done (forwardings_of rs)) (sym (filter-no (λ (r : Row). r.client == k) row before e)) (ih (sym (ap is_lost (filter-no (λ (r : Row). r.client == k) row before e)) ∙ lost))

-- ---- closed matters

none-held : (xs : List Channel) → any_of is_channel_held (filter is_channel_held xs) ≡ false → filter is_channel_held xs ≡ []
none-held [] none = refl
none-held (x ∷ xs) none = by_case (λ h. none-held xs h) (is_channel_held x) refl
  where
    by_case : (any_of is_channel_held (filter is_channel_held xs) ≡ false → filter is_channel_held xs ≡ []) → (b : Bool) → is_channel_held x ≡ b → filter is_channel_held (x ∷ xs) ≡ []
    by_case ih true e = let found = sym (ap (any_of is_channel_held) (filter-yes is_channel_held x xs e) ∙ ap (λ b. b || any_of is_channel_held (filter is_channel_held xs)) e) ∙ none in absurd (let bad : true ≡ false = found in cc)
    by_case ih false e = filter-no is_channel_held x xs e ∙ ih (sym (ap (any_of is_channel_held) (filter-no is_channel_held x xs e)) ∙ none)

not-less : (a b : ℕ) → nat_lt a b ≡ false → b ≤ a
not-less a b e = grind (arith, nat_tests)

is-lost : (a b : Bool) → a ≡ true → (a && not b) ≡ false → b ≡ true
is-lost true true e n = refl
is-lost true false e n = cc
is-lost false b e n = cc

pub nothing-left : (policy : Policy) (pid : ℕ) (rows : List Row) → LogKnown policy pid rows → (k : ℕ) → IsAdmitted k rows → has_open_matters (rows_of k rows) ≡ false → HasNothing (rows_of k rows)
nothing-left policy pid rows known k admitted closed =
    let lost : is_lost (rows_of k rows) ≡ true = is-lost (any_of is_admit (rows_of k rows)) (is_lost (rows_of k rows)) admitted (or-left (any_of is_admit (rows_of k rows) && not (is_lost (rows_of k rows))) _ closed) in
    let rest = or-right (any_of is_admit (rows_of k rows) && not (is_lost (rows_of k rows))) (any_of is_channel_held (held_of (rows_of k rows)) || nat_lt (length (replies (rows_of k rows))) (length (wanted_requests (rows_of k rows)))) closed in
    record {
      channels = none-held (channels_of (rows_of k rows)) (or-left (any_of is_channel_held (held_of (rows_of k rows))) (nat_lt (length (replies (rows_of k rows))) (length (wanted_requests (rows_of k rows)))) rest);
      requests = not-less (length (replies (rows_of k rows))) (length (wanted_requests (rows_of k rows))) (or-right (any_of is_channel_held (held_of (rows_of k rows))) (nat_lt (length (replies (rows_of k rows))) (length (wanted_requests (rows_of k rows)))) rest);
      forwardings = none-current (forwardings_of (rows_of k rows)) (lost-done policy pid k rows known.each lost);
    }

-- at every row
pub leaves-nothing : (policy : Policy) (pid : ℕ) (rows : List Row) → LogKnown policy pid rows → AtEach LeavesNothing rows
leaves-nothing policy pid [] known = nothing-left policy pid [] known
leaves-nothing policy pid (row ∷ before) known = (nothing-left policy pid (row ∷ before) known, leaves-nothing policy pid before (record { each = known.each.1; good = known.each.0.good; orderly = known.each.0.orderly }))
