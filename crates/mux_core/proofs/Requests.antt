-- The core after each request that is sent.
use Rattle.std.proofs.Common.{◌≡◌, ◌<◌, ℕ, List, [], ◌∷◌, ◌++◌, length, map, true, false, Bool, refl, ◌∙◌, ap, sym, subst, Some, None, Ok}
use Rattle.std.specs.Prelude.{filter}
use Rattle.std.specs.List.{AllByRecursion}
use Rattle.std.proofs.lemmas.List.Elements.{filter-append}
use Rattle.ssh_grammar.specs.Messages.{Global, Key, KeepAlive, Forward, Cancel}
use Rattle.mux_history.specs.declared.limits.TheConstants.{MAX_FORWARDINGS}
use Rattle.mux_history.specs.Summary.{Requests, read_summary}
use Rattle.mux_history.specs.Rows.{Row, rows_of}
use Rattle.mux_history.specs.Forwardings.{Forwarding, current, forwardings_of, forwardings_after_request, stopped}
use Rattle.mux_history.specs.Forwardings as history
use Rattle.mux_history.specs.Requests.{wanted_requests, asks_of, replies, sent_flags, wanted_in}
use Rattle.mux_history.proofs.CurrentSteps.{is_on, on-forwarded}
use Rattle.mux_history.proofs.Readings.{reading-ok}
use Rattle.forward_rules.specs.State as kept
use Rattle.forward_rules.specs.Step.{asked_forward, forward_cancelled, change_first_forward, forward_count_of, is_free_at, some_free, without_first_forward}
use Rattle.forward_rules.specs.Stands.{AreFit}
use Rattle.mux_core.specs.State.{MemberState, CoreState, is_member_served}
use Rattle.mux_core.specs.Stands.{AsksFit, ClientFits, ClientsFit, Look, CoreRepresents, TableFits, has_matters, look}
use Rattle.mux_core.proofs.Quiet.{IsSteady, look-steady}
use Rattle.mux_core.proofs.Served.{IsServed, served}
use Rattle.mux_core.proofs.Asked.{asked-fit, new_forwarding}
use Rattle.mux_core.proofs.Cancelled.{cancelled-fit}
use Rattle.mux_core.proofs.Removed.{on-all, on-listed, stopped-fit}
use Rattle.mux_core.proofs.Requested.{all-last, ask_of, awaits, matters-more, others-stay, own-more, request_row, same-channels, wanted-stands}

-- what is current after a request, by what was before
current-after : (k : ℕ) (p : List ℕ) (what : Global) (want : Bool) (rows : List Row) → read_summary p ≡ Ok (Requests what want) → current (request_row k p ∷ rows) ≡ filter is_on (forwardings_after_request k (length (wanted_requests (rows_of k rows))) (Requests what want) (current rows))
current-after k p what want rows e =
    on-forwarded (request_row k p) (length (wanted_requests (rows_of k rows))) (length (replies (rows_of k rows))) (forwardings_of rows)
    ∙ ap (filter is_on) (reading-ok p (Requests what want) (λ m. forwardings_after_request k (length (wanted_requests (rows_of k rows))) m (current rows)) (current rows) e)

-- ---- for a forwarding

served-last : (s : CoreState) (k : ℕ) (key : Key) → is_member_served s.clients k ≡ true → AllByRecursion (λ (f : kept.Forward). is_member_served s.clients f.client ≡ true) s.forwards → AllByRecursion (λ (f : kept.Forward). is_member_served s.clients f.client ≡ true) (s.forwards ++ asked_forward k key ∷ [])
served-last s k key serves all = all-last (λ (f : kept.Forward). is_member_served s.clients f.client ≡ true) (asked_forward k key) serves s.forwards all

pub forward-stands : (s : CoreState) (k : ℕ) (p : List ℕ) (key : Key) (rows : List Row) → CoreRepresents s rows → is_member_served s.clients k ≡ true → read_summary p ≡ Ok (Requests (Forward key) true) → forward_count_of s.forwards k < MAX_FORWARDINGS → CoreRepresents (record s { asks = s.asks ++ ask_of k (Forward key) ∷ []; clients = map (awaits k) s.clients; forwards = s.forwards ++ asked_forward k key ∷ [] }) (request_row k p ∷ rows)
forward-stands s k p key rows st serves e room =
    wanted-stands s k p (Forward key) rows (s.forwards ++ asked_forward k key ∷ []) st serves e
    (subst (λ gs. AreFit (s.forwards ++ asked_forward k key ∷ []) gs (look (request_row k p ∷ rows)).own (look rows).lost)
    (sym (current-after k p (Forward key) true rows e
    ∙ (filter-append is_on (current rows) (new_forwarding k key (length (wanted_requests (rows_of k rows))) ∷ [])
    ∙ ap (λ gs. gs ++ new_forwarding k key (length (wanted_requests (rows_of k rows))) ∷ []) (on-all (current rows) (on-listed s.forwards (current rows) st.forwards.listed)))))
    (asked-fit k key s.forwards (current rows) (look rows).own (look (request_row k p ∷ rows)).own (look rows).lost st.forwards room (st.asks.each k).awaited (own-more k p (Forward key) rows e) (others-stay k p rows)))
    (served-last s k key serves st.known.forwards)

-- ---- a cancel that wants a reply

same-on : (k : ℕ) (key : Key) (place : ℕ) (gs : List Forwarding) → AllByRecursion (λ g. is_on g ≡ true) gs → AllByRecursion (λ g. is_on g ≡ true) (history.change_first (history.is_forwarding_free_at k key) (stopped true place) gs)
same-on k key place [] all = tt
same-on k key place (g ∷ gs) all = by_case (same-on k key place gs all.1) (history.is_forwarding_free_at k key g)
  where
    by_case : AllByRecursion (λ g. is_on g ≡ true) (history.change_first (history.is_forwarding_free_at k key) (stopped true place) gs) → (b : Bool) → AllByRecursion (λ g. is_on g ≡ true) (elim b as (λ _. List Forwarding) [ true ↦ stopped true place g ∷ gs | false ↦ g ∷ history.change_first (history.is_forwarding_free_at k key) (stopped true place) gs ])
    by_case ih true = (all.0, all.1)
    by_case ih false = (all.0, ih)

served-changed : (s : CoreState) (test : kept.Forward → Bool) (r : ℕ) (fs : List kept.Forward) → AllByRecursion (λ (f : kept.Forward). is_member_served s.clients f.client ≡ true) fs → AllByRecursion (λ (f : kept.Forward). is_member_served s.clients f.client ≡ true) (change_first_forward test (λ f. record f { cancel = Some r }) fs)
served-changed s test r [] all = tt
served-changed s test r (f ∷ fs) all = by_case (served-changed s test r fs all.1) (test f)
  where
    by_case : AllByRecursion (λ (f : kept.Forward). is_member_served s.clients f.client ≡ true) (change_first_forward test (λ f. record f { cancel = Some r }) fs) → (b : Bool) → AllByRecursion (λ (f : kept.Forward). is_member_served s.clients f.client ≡ true) (elim b as (λ _. List kept.Forward) [ true ↦ record f { cancel = Some r } ∷ fs | false ↦ f ∷ change_first_forward test (λ f. record f { cancel = Some r }) fs ])
    by_case ih true = (all.0, all.1)
    by_case ih false = (all.0, ih)

pub cancel-stands : (s : CoreState) (k : ℕ) (p : List ℕ) (key : Key) (rows : List Row) → CoreRepresents s rows → is_member_served s.clients k ≡ true → read_summary p ≡ Ok (Requests (Cancel key) true) → some_free k key s.forwards ≡ true → CoreRepresents (record s { asks = s.asks ++ ask_of k (Cancel key) ∷ []; clients = map (awaits k) s.clients; forwards = forward_cancelled k key true s.forwards }) (request_row k p ∷ rows)
cancel-stands s k p key rows st serves e free =
    wanted-stands s k p (Cancel key) rows (forward_cancelled k key true s.forwards) st serves e
    (subst (λ gs. AreFit (forward_cancelled k key true s.forwards) gs (look (request_row k p ∷ rows)).own (look rows).lost)
    (sym (current-after k p (Cancel key) true rows e
    ∙ on-all (history.change_first (history.is_forwarding_free_at k key) (stopped true (length (wanted_requests (rows_of k rows)))) (current rows)) (same-on k key (length (wanted_requests (rows_of k rows))) (current rows) (on-listed s.forwards (current rows) st.forwards.listed))))
    (cancelled-fit k key s.forwards (current rows) (look rows).own (look (request_row k p ∷ rows)).own (look rows).lost st.forwards free (st.asks.each k).awaited (own-more k p (Cancel key) rows e) (others-stay k p rows)))
    (served-changed s (is_free_at k key) _ s.forwards st.known.forwards)

-- ---- requests that want no reply

steady-row : (k : ℕ) (p : List ℕ) (what : Global) → read_summary p ≡ Ok (Requests what false) → IsSteady (request_row k p)
steady-row k p what e = record {
  asks = ap (asks_of k true) (reading-ok p (Requests what false) wanted_in None e);
  flags = ap (sent_flags true) (reading-ok p (Requests what false) wanted_in None e);
  replies = refl;
  keeps = refl;
  admits = refl;
}

-- whatever forwardings are kept then
unwanted-stands : (s : CoreState) (k : ℕ) (p : List ℕ) (what : Global) (rows : List Row) (fs : List kept.Forward) → CoreRepresents s rows → is_member_served s.clients k ≡ true → read_summary p ≡ Ok (Requests what false) → AreFit fs (current (request_row k p ∷ rows)) (look rows).own (look rows).lost → AllByRecursion (λ f. is_member_served s.clients f.client ≡ true) fs → CoreRepresents (record s { forwards = fs }) (request_row k p ∷ rows)
unwanted-stands s k p what rows fs st serves e fit theirs =
    let after = sym (look-steady (request_row k p) rows (steady-row k p what e)) in
    let is : IsServed k (look rows) = served (look rows) k s.clients st.clients.each serves in
    let matters : has_matters rows ≡ has_matters (request_row k p ∷ rows) = λ i j. sym (matters-more k p rows is j) i in
    record {
      channels = subst (TableFits s.channels) (sym (same-channels k p what false rows e)) st.channels;
      asks = subst (AsksFit s.asks) after (record { waiting = st.asks.waiting; awaited = st.asks.awaited; each = st.asks.each });
      forwards = subst (λ (l : Look). AreFit fs l.current l.own l.lost) after fit;
      clients = subst (λ m. ClientsFit s.clients m (look (request_row k p ∷ rows))) matters (subst (ClientsFit s.clients (has_matters rows)) after (record { numbers = st.clients.numbers; each = each s.clients st.clients.each; once = st.clients.once; few = st.clients.few }));
      known = record { channels = st.known.channels; asks = st.known.asks; forwards = theirs };
    }
  where
    each : (cs : List MemberState) → AllByRecursion (ClientFits (look rows)) cs → AllByRecursion (ClientFits (record (look rows) { current = current (request_row k p ∷ rows) })) cs
    each [] all = tt
    each (c ∷ cs) all = (record { nonzero = all.0.nonzero; admitted = all.0.admitted; lost = all.0.lost; answers = all.0.answers }, each cs all.1)

pub stop-stands : (s : CoreState) (k : ℕ) (p : List ℕ) (key : Key) (rows : List Row) → CoreRepresents s rows → is_member_served s.clients k ≡ true → read_summary p ≡ Ok (Requests (Cancel key) false) → CoreRepresents (record s { forwards = forward_cancelled k key false s.forwards }) (request_row k p ∷ rows)
stop-stands s k p key rows st serves e =
    unwanted-stands s k p (Cancel key) rows (forward_cancelled k key false s.forwards) st serves e
    (subst (λ gs. AreFit (forward_cancelled k key false s.forwards) gs (look rows).own (look rows).lost) (sym (current-after k p (Cancel key) false rows e)) (stopped-fit k key (length (wanted_requests (rows_of k rows))) s.forwards (current rows) (look rows).own (look rows).lost st.forwards))
    (without s.forwards st.known.forwards)
  where
    without : (fs : List kept.Forward) → AllByRecursion (λ (f : kept.Forward). is_member_served s.clients f.client ≡ true) fs → AllByRecursion (λ (f : kept.Forward). is_member_served s.clients f.client ≡ true) (without_first_forward (is_free_at k key) fs)
    without [] all = tt
    without (f ∷ fs) all = by_case (without fs all.1) (is_free_at k key f)
      where
        by_case : AllByRecursion (λ (f : kept.Forward). is_member_served s.clients f.client ≡ true) (without_first_forward (is_free_at k key) fs) → (b : Bool) → AllByRecursion (λ (f : kept.Forward). is_member_served s.clients f.client ≡ true) (elim b as (λ _. List kept.Forward) [ true ↦ fs | false ↦ f ∷ without_first_forward (is_free_at k key) fs ])
        by_case ih true = all.1
        by_case ih false = (all.0, ih)

pub alive-stands : (s : CoreState) (k : ℕ) (p : List ℕ) (rows : List Row) → CoreRepresents s rows → is_member_served s.clients k ≡ true → read_summary p ≡ Ok (Requests KeepAlive false) → CoreRepresents s (request_row k p ∷ rows)
alive-stands s k p rows st serves e =
    unwanted-stands s k p KeepAlive rows s.forwards st serves e
    (subst (λ gs. AreFit s.forwards gs (look rows).own (look rows).lost) (sym (current-after k p KeepAlive false rows e ∙ on-all (current rows) (on-listed s.forwards (current rows) st.forwards.listed))) st.forwards)
    st.known.forwards
