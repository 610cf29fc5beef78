-- A client has at most 64 forwardings that are asked or live.
use Rattle.std.proofs.Common.{◌≡◌, ℕ, ◌+◌, ◌≤◌, List, [], ◌∷◌, ◌++◌, map, length, true, false, Bool, refl, ap, arith, sym, Option, None, subst, Ok, Err}
use Rattle.std.specs.Prelude.{◌==◌, ◌&&◌, Result, nat_lt}
use Rattle.std.proofs.lemmas.Bool.Decides.{nat_tests}
use Rattle.mux_history.specs.Forwardings.{Forwarding, change_first, current, forwarded, forwardings_of, is_forwarding_free_at, of_client, forwarding_after_reply, forwardings_after_request, stopped}
use Rattle.mux_history.specs.Controls.{house_sends, sent_body}
use Rattle.mux_history.specs.Controls.{client_has_greeted}
use Rattle.mux_history.specs.Summary.{Summary, Requests, read_summary}
use Rattle.mux_history.specs.Heard.{Breaks, Dest, Disconnects, ToClient, ToMaster, dest, received_for}
use Rattle.mux_history.specs.Kept.{AtEach, ForEach}
use Rattle.mux_history.specs.Keys.{is_askable}
use Rattle.mux_history.specs.Log.{admits, received_row, row_of, treat}
use Rattle.mux_history.specs.Policy.{Policy, permits}
use Rattle.mux_history.specs.Requests.{wanted_requests, replies}
use Rattle.mux_history.specs.Rows.{Admit, Fate, Gone, Heard, HouseSays, Item, Row, Says, rows_of}
use Rattle.mux_history.specs.Said.{Outcome, drops, is_full_of_asks, sent_summary, sent_payload, sends_if, silent}
use Rattle.mux_bounds.specs.Few.{ForwardingsBounded}
use Rattle.mux_outside.specs.declared.house.HouseReply.{HouseReply}
use Rattle.ssh_grammar.specs.Messages.{Cancel, Forward, KeepAlive, Key, OtherName}
use Rattle.ssh_grammar.specs.Said.{BadFraming, Body, Payload}
use Rattle.ssh_grammar.specs.declared.fault.Bad.{Bad}
use Rattle.mux_history.specs.declared.why.Why.TheVariants as why
use Rattle.mux_history.proofs.Finds.{filter-no, filter-yes}
use Rattle.mux_history.proofs.OwnRows.{same-client}
use Rattle.mux_history.proofs.RightLogs.{LogKnown, RowKnown}
use Rattle.mux_history.proofs.Sends.{as_row, row-parts}
use Rattle.mux_bounds.proofs.Closed.{replied-done}
use Rattle.mux_bounds.proofs.Counts.{count, count-add, count-dropped, count-first, count-map, of-client-ends, stopped-ends}

-- ---- a row

-- what a row makes of its client's forwardings stays within the limit
abbrev pub Fits : List Row → Row → Type 0
Fits before row =
    length (current (rows_of row.client before)) ≤ 64 → count (forwarded row (rows_of row.client (rows_of row.client before)) (forwardings_of (rows_of row.client before))) ≤ 64

heard-fits : (before : List Row) (p : List ℕ) (k : ℕ) (up fw down : List (List ℕ)) (fate : Fate) → Fits before (as_row (Heard p) k up fw down fate)
heard-fits before p k up fw down fate le = by_case (read_summary p)
  where
    by_case : (r : Result Summary Bad) → count (elim r as (λ _. List Forwarding) [ Err e ↦ forwardings_of (rows_of k before) | Ok m ↦ map (of_client k (forwarding_after_reply (length (replies (rows_of k (rows_of k before)))) m)) (forwardings_of (rows_of k before)) ]) ≤ 64
    by_case (Err e) = le
    by_case (Ok m) =
        let fewer = count-map (of_client k (forwarding_after_reply (length (replies (rows_of k (rows_of k before)))) m)) (of-client-ends k (forwarding_after_reply (length (replies (rows_of k (rows_of k before)))) m) (λ f over. replied-done (length (replies (rows_of k (rows_of k before)))) m f over)) (forwardings_of (rows_of k before)) in
        omega (arith, le)

abbrev flag : List (List ℕ) → Bool
flag up = elim up [ [] ↦ false | p ∷ ps ↦ true ]

abbrev if_sent : List (List ℕ) → List Forwarding → List Forwarding → List Forwarding
if_sent up gs fs = elim (flag up) [ true ↦ gs | false ↦ fs ]

both-ways : (up : List (List ℕ)) (gs fs : List Forwarding) → count gs ≤ 64 → count fs ≤ 64 → count (if_sent up gs fs) ≤ 64
both-ways [] gs fs a b = b
both-ways (p ∷ ps) gs fs a b = a

last-test : (a b c d : Bool) → (a && (b && (c && d))) ≡ true → d ≡ true
last-test true true true d e = e
last-test true true false d e = cc
last-test true false c d e = cc
last-test false b c d e = cc

is-less : (a b : ℕ) → nat_lt a b ≡ true → a + 1 ≤ b
is-less a b e = grind (arith, nat_tests)

said-fits : (policy : Policy) (before : List Row) (k pick : ℕ) (p : List ℕ) (reply : Option HouseReply) (fw down : List (List ℕ)) (fate : Fate) → Fits before (as_row (Says k (Payload p) reply) k (sent_payload policy k (rows_of k before) pick p).sent fw down fate)
said-fits policy before k pick p reply fw down fate le = by_case (read_summary p)
  where
    by_request : (key : Key) (wants : Bool) → count (if_sent (sent_summary policy k (rows_of k before) pick p (Requests (Forward key) wants)).sent (forwardings_after_request k (length (wanted_requests (rows_of k (rows_of k before)))) (Requests (Forward key) wants) (forwardings_of (rows_of k before))) (forwardings_of (rows_of k before))) ≤ 64
    by_request key wants = by_full (is_full_of_asks wants (rows_of k before))
      where
        by_room : (b : Bool) → (wants && (is_askable key && (permits policy.listens key && nat_lt (length (current (rows_of k before))) 64))) ≡ b → count (if_sent (sends_if b p).sent (forwardings_of (rows_of k before) ++ record { client = k; key = key; request = length (wanted_requests (rows_of k (rows_of k before))); live = None; cancel = None; over = false } ∷ []) (forwardings_of (rows_of k before))) ≤ 64
        by_room true e =
            let room = is-less (length (current (rows_of k before))) 64 (last-test wants (is_askable key) (permits policy.listens key) (nat_lt (length (current (rows_of k before))) 64) e) in
            let more = count-add (forwardings_of (rows_of k before)) (record { client = k; key = key; request = length (wanted_requests (rows_of k (rows_of k before))); live = None; cancel = None; over = false }) in
            omega arith
        by_room false e = le

        by_full : (b : Bool) → count (if_sent (elim b as (λ _. Outcome) [ true ↦ drops (why.TooManyAsks 1024) | false ↦ sends_if (wants && (is_askable key && (permits policy.listens key && nat_lt (length (current (rows_of k before))) 64))) p ]).sent (forwardings_of (rows_of k before) ++ record { client = k; key = key; request = length (wanted_requests (rows_of k (rows_of k before))); live = None; cancel = None; over = false } ∷ []) (forwardings_of (rows_of k before))) ≤ 64
        by_full true = le
        by_full false = by_room (wants && (is_askable key && (permits policy.listens key && nat_lt (length (current (rows_of k before))) 64))) refl

    by_summary : (m : Summary) → count (if_sent (sent_summary policy k (rows_of k before) pick p m).sent (forwardings_after_request k (length (wanted_requests (rows_of k (rows_of k before)))) m (forwardings_of (rows_of k before))) (forwardings_of (rows_of k before))) ≤ 64
    by_summary (Requests (Forward key) wants) = by_request key wants
    by_summary (Requests (Cancel key) wants) =
        let fewer = count-first (is_forwarding_free_at k key) (stopped wants (length (wanted_requests (rows_of k (rows_of k before))))) (stopped-ends wants (length (wanted_requests (rows_of k (rows_of k before))))) (forwardings_of (rows_of k before)) in
        both-ways (sent_summary policy k (rows_of k before) pick p (Requests (Cancel key) wants)).sent (change_first (is_forwarding_free_at k key) (stopped wants (length (wanted_requests (rows_of k (rows_of k before))))) (forwardings_of (rows_of k before))) (forwardings_of (rows_of k before)) (omega (arith, le)) le
    by_summary (Requests KeepAlive wants) = both-ways (sent_summary policy k (rows_of k before) pick p (Requests KeepAlive wants)).sent (forwardings_of (rows_of k before)) (forwardings_of (rows_of k before)) le le
    by_summary (Requests OtherName wants) = both-ways (sent_summary policy k (rows_of k before) pick p (Requests OtherName wants)).sent (forwardings_of (rows_of k before)) (forwardings_of (rows_of k before)) le le
    by_summary m = both-ways (sent_summary policy k (rows_of k before) pick p m).sent (forwardings_of (rows_of k before)) (forwardings_of (rows_of k before)) le le

    by_case : (r : Result Summary Bad) → count (if_sent (elim r as (λ _. Outcome) [ Err bad ↦ drops (why.BadMessage bad) | Ok m ↦ sent_summary policy k (rows_of k before) pick p m ]).sent (elim r as (λ _. List Forwarding) [ Err e ↦ forwardings_of (rows_of k before) | Ok m ↦ forwardings_after_request k (length (wanted_requests (rows_of k (rows_of k before)))) m (forwardings_of (rows_of k before)) ]) (forwardings_of (rows_of k before))) ≤ 64
    by_case (Err e) = le
    by_case (Ok m) = by_summary m

-- ---- any row

fits-row : (before : List Row) (item : Item) (k : ℕ) (o : Outcome) → ((fw down : List (List ℕ)) (fate : Fate) → Fits before (as_row item k o.sent fw down fate)) → Fits before (row_of item k o (rows_of k before))
fits-row before item k o each = row-parts (Fits before) item k o (rows_of k before) (λ fw parting down fate. each fw down fate)

fits-dest : (before : List Row) (p : List ℕ) (d : Dest) → Fits before (received_row before p d)
fits-dest before p ToMaster = heard-fits before p 0 (received_row before p ToMaster).up (received_row before p ToMaster).farewell (received_row before p ToMaster).down (received_row before p ToMaster).fate
fits-dest before p (ToClient k) = fits-row before (Heard p) k (received_for (rows_of k before) p) (λ fw down fate. heard-fits before p k (received_for (rows_of k before) p).sent fw down fate)
fits-dest before p Disconnects = heard-fits before p 0 (received_row before p Disconnects).up (received_row before p Disconnects).farewell (received_row before p Disconnects).down (received_row before p Disconnects).fate
fits-dest before p (Breaks cause) = heard-fits before p 0 (received_row before p (Breaks cause)).up (received_row before p (Breaks cause)).farewell (received_row before p (Breaks cause)).down (received_row before p (Breaks cause)).fate

fits-treat : (policy : Policy) (pid pick : ℕ) (before : List Row) (item : Item) → Fits before (treat policy pid pick before item)
fits-treat policy pid pick before (Admit k) = fits-row before (Admit k) k (admits before) (λ fw down fate le. le)
fits-treat policy pid pick before (Says k (Payload p) reply) = fits-row before (Says k (Payload p) reply) k (sent_payload policy k (rows_of k before) pick p) (λ fw down fate. said-fits policy before k pick p reply fw down fate)
fits-treat policy pid pick before (Says k (Body body) reply) = fits-row before (Says k (Body body) reply) k (sent_body pid k reply (client_has_greeted (rows_of k before)) body) (λ fw down fate le. le)
fits-treat policy pid pick before (Says k (BadFraming fault) reply) = fits-row before (Says k (BadFraming fault) reply) k (drops (why.BadFrame fault)) (λ fw down fate le. le)
fits-treat policy pid pick before (HouseSays k id given) = fits-row before (HouseSays k id given) k (house_sends (rows_of k before) id given) (λ fw down fate le. le)
fits-treat policy pid pick before (Gone k) = fits-row before (Gone k) k silent (λ fw down fate le. le)
fits-treat policy pid pick before (Heard p) = fits-dest before p (dest before p)
fits-treat policy pid pick before item = λ le. le

pub fits-rows : (policy : Policy) (pid : ℕ) (rows : List Row) → ForEach (RowKnown policy pid) rows → ForEach Fits rows
fits-rows policy pid [] each = tt
fits-rows policy pid (row ∷ before) each = (subst (Fits before) each.0.is (fits-treat policy pid each.0.pick before each.0.item), fits-rows policy pid before each.1)

pub fits-held : (rows : List Row) → ForEach Fits rows → ForwardingsBounded rows
fits-held [] each k = omega arith
fits-held (row ∷ before) each k = by_case (fits-held before each.1 k) (row.client == k) refl
  where
    by_case : length (current (rows_of k before)) ≤ 64 → (b : Bool) → (row.client == k) ≡ b → length (current (rows_of k (row ∷ before))) ≤ 64
    by_case ih true e =
        let mine : row.client ≡ k = same-client row.client k e in
        let fits : count (forwarded row (rows_of row.client (rows_of k before)) (forwardings_of (rows_of k before))) ≤ 64 = subst (λ (j : ℕ). length (current (rows_of j before)) ≤ 64 → count (forwarded row (rows_of row.client (rows_of j before)) (forwardings_of (rows_of j before))) ≤ 64) mine each.0 ih in
        let at = ap (λ rs. length (current rs)) (filter-yes (λ (r : Row). r.client == k) row before e) in
        let drops = count-dropped row (forwarded row (rows_of row.client (rows_of k before)) (forwardings_of (rows_of k before))) in
        omega arith
    by_case ih false e = subst (λ (rs : List Row). length (current rs) ≤ 64) (sym (filter-no (λ (r : Row). r.client == k) row before e)) ih

at-each : (rows : List Row) → ForEach Fits rows → AtEach ForwardingsBounded rows
at-each [] each = fits-held [] each
at-each (row ∷ before) each = (fits-held (row ∷ before) each, at-each before each.1)

pub forwardings-bounded : (policy : Policy) (pid : ℕ) (rows : List Row) → LogKnown policy pid rows → AtEach ForwardingsBounded rows
forwardings-bounded policy pid rows known = at-each rows (fits-rows policy pid rows known.each)
