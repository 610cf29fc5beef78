-- A client's global request, by the message.
use Rattle.std.proofs.Common.{◌≡◌, ◌<◌, ℕ, List, [], ◌∷◌, ◌++◌, length, drop, map, true, false, Bool, refl, ◌∙◌, ap, sym, subst, None, Ok, arith, suc}
use Rattle.std.specs.Prelude.{filter, ◌==◌, ◌&&◌, ◌||◌, not, nat_le, nat_lt, is_some, is_none}
use Rattle.std.proofs.lemmas.List.{append-nil}
use Rattle.std.proofs.Math.Seq.{drop-length}
use Rattle.std.proofs.lemmas.Bool.Decides.{nat_tests}
use Rattle.ssh_grammar.specs.Messages.{Global, Key, KeepAlive, Forward, Cancel}
use Rattle.ssh_grammar.specs.Frames.{frame_payload}
use Rattle.proxy_frames.specs.State.{QueueState}
use Rattle.proxy_frames.specs.Queued.{with_bytes}
use Rattle.mux_history.specs.declared.limits.TheConstants.{MAX_FORWARDINGS, MAX_GLOBAL_REQUESTS}
use Rattle.mux_history.specs.declared.why.Why.TheVariants as why
use Rattle.mux_history.specs.Policy.{permits}
use Rattle.mux_history.specs.Keys.{has_key, is_askable}
use Rattle.mux_history.specs.Choices.{takes_number}
use Rattle.mux_history.specs.Summary.{Requests, read_summary, summary_sender_of}
use Rattle.mux_history.specs.Rows.{Row, any_of, is_lost, rows_of}
use Rattle.mux_history.specs.Requests.{Ask, answers, answers_to, asks_of, replies, sent_flags, wanted, wanted_in}
use Rattle.mux_history.specs.Said.{Outcome, drops, is_full_of_asks, sent_payload, sent_request, sends_payload, sends_if, silent}
use Rattle.mux_history.specs.Treat.{all_recorded, goes, new_answers}
use Rattle.mux_history.specs.Forwardings.{Forwarding, current, forwardings_of}
use Rattle.mux_history.specs.Forwardings as history
use Rattle.mux_history.proofs.CurrentSteps.{is_on}
use Rattle.mux_history.proofs.ForwardsLocal.{forwardings-local}
use Rattle.mux_history.proofs.Finds.{filter-no, filter-yes}
use Rattle.forward_rules.specs.Step.{asked_forward, forward_cancelled, forward_count_of, is_forward_of, some_free}
use Rattle.mux_history.proofs.Readings.{reading-ok}
use Rattle.forward_rules.specs.State as kept
use Rattle.forward_rules.specs.Stands.{AreForwardsListed}
use Rattle.mux_core.specs.declared.verdict.Verdict.{Verdict}
use Rattle.mux_core.specs.declared.verdict.Verdict.TheVariants as verdict
use Rattle.mux_core.specs.State.{MemberState, CoreState, is_member_served}
use Rattle.mux_core.specs.Stands.{CoreRepresents, TableFits, look}
use Rattle.mux_core.specs.Calls.{SendsAs, CoreSendsIn, SendsRow}
use Rattle.mux_core.specs.Requesting.{SendsRoomy, is_one_too_many, more_awaited, member_waiting_of, with_waiting}
use Rattle.mux_core.proofs.Answering.{Waits, sent-answers}
use Rattle.mux_core.proofs.Waiting.{how-many, waits-are, with-map}
use Rattle.mux_core.proofs.Quiet.{IsQuiet}
use Rattle.mux_core.proofs.Says.{sent_as, same-queue, takes-unsent, records-own, unsent-held}
use Rattle.mux_core.proofs.SendsWithin.{dropped-row, said-ok}
use Rattle.mux_core.proofs.Served.{quiet-stands, served}
use Rattle.mux_core.proofs.Requested.{ask_of, awaits, request-stands, request_row}
use Rattle.mux_core.proofs.Requests.{alive-stands, cancel-stands, forward-stands, stop-stands}
use Rattle.mux_core.proofs.Pairs.{some-same}

-- ---- one too many, or not

full-same : (s : CoreState) (k : ℕ) (want : Bool) (rows : List Row) → CoreRepresents s rows → is_member_served s.clients k ≡ true → is_full_of_asks want (rows_of k rows) ≡ is_one_too_many want (member_waiting_of k s.clients)
full-same s k want rows st serves = ap (λ n. want && nat_le MAX_GLOBAL_REQUESTS n) (how-many (rows_of k rows) (member_waiting_of k s.clients) (waits-are rows k s.clients st.clients.each st.clients.once serves))

pub by-full : (s : CoreState) (k : ℕ) (p : List ℕ) (what : Global) (want b : Bool) (rows : List Row) → CoreRepresents s rows → is_member_served s.clients k ≡ true → read_summary p ≡ Ok (Requests what want) → is_one_too_many want (member_waiting_of k s.clients) ≡ b → sent_payload s.policy k (rows_of k rows) 0 p ≡ elim b as (λ _. Outcome) [ true ↦ drops (why.TooManyAsks MAX_GLOBAL_REQUESTS) | false ↦ sent_request s.policy k (rows_of k rows) p what want ]
by-full s k p what want b rows st serves e h =
    said-ok s.policy k 0 (rows_of k rows) p (Requests what want) e
    ∙ ap (λ (c : Bool). elim c as (λ _. Outcome) [ true ↦ drops (why.TooManyAsks MAX_GLOBAL_REQUESTS) | false ↦ sent_request s.policy k (rows_of k rows) p what want ]) (full-same s k want rows st serves ∙ h)

pub too-many : (s : CoreState) (k : ℕ) (p : List ℕ) (what : Global) (want : Bool) (up : QueueState) → is_one_too_many want (member_waiting_of k s.clients) ≡ true → SendsAs s s k p (Requests what want) 0 up up (verdict.Drop (why.TooManyAsks MAX_GLOBAL_REQUESTS))
too-many s k p what want up full = λ rows st serves e. dropped-row s k 0 p up (why.TooManyAsks MAX_GLOBAL_REQUESTS) rows (by-full s k p what want true rows st serves e full)

-- ---- one that is sent

takes-no : (k : ℕ) (p : List ℕ) (what : Global) (want : Bool) → read_summary p ≡ Ok (Requests what want) → takes_number (request_row k p) ≡ false
takes-no k p what want e = ap is_some (reading-ok p (Requests what want) summary_sender_of None e)

recorded-none : (row : Row) (own : List Row) → row.down ≡ [] → answers (row ∷ own) ≡ answers own → all_recorded row own ≡ []
recorded-none row own down same = by_case (goes row.fate && not (is_lost own)) refl
  where
    none : new_answers row own ≡ []
    none = ap (λ (rs : List (List ℕ)). map frame_payload (drop (length (answers own)) rs)) same ∙ ap (map frame_payload) (drop-length (answers own))

    by_case : (b : Bool) → (goes row.fate && not (is_lost own)) ≡ b → all_recorded row own ≡ []
    by_case true e = ap (λ (b : Bool). elim b as (λ _. List (List ℕ)) [ true ↦ row.down ++ new_answers row own | false ↦ row.down ]) e ∙ (ap (λ ds. ds ++ new_answers row own) down ∙ none)
    by_case false e = ap (λ (b : Bool). elim b as (λ _. List (List ℕ)) [ true ↦ row.down ++ new_answers row own | false ↦ row.down ]) e ∙ down

sent-same : (k : ℕ) (p : List ℕ) (what : Global) (want : Bool) (own : List Row) (w : List Bool) → read_summary p ≡ Ok (Requests what want) → Waits (wanted own) (replies own) w → answers (request_row k p ∷ own) ≡ answers own
sent-same k p what true own w e waits = ap (λ fs. answers_to (wanted own ++ fs) (replies own ++ [])) (ap (sent_flags true) (reading-ok p (Requests what true) wanted_in None e)) ∙ (ap (answers_to (wanted own ++ true ∷ [])) (append-nil (replies own)) ∙ sent-answers (wanted own) (replies own) w waits)
sent-same k p what false own w e waits = ap (λ fs. answers_to (wanted own ++ fs) (replies own ++ [])) (ap (sent_flags true) (reading-ok p (Requests what false) wanted_in None e)) ∙ (ap (λ fs. answers_to fs (replies own ++ [])) (append-nil (wanted own)) ∙ ap (answers_to (wanted own)) (append-nil (replies own)))

pub goes-up : (s new : CoreState) (k : ℕ) (p : List ℕ) (what : Global) (want : Bool) (up : QueueState) (rows : List Row) → CoreRepresents s rows → is_member_served s.clients k ≡ true → read_summary p ≡ Ok (Requests what want) → is_one_too_many want (member_waiting_of k s.clients) ≡ false → sent_request s.policy k (rows_of k rows) p what want ≡ sends_payload p → CoreRepresents new (request_row k p ∷ rows) → CoreSendsIn s new k p 0 up (with_bytes (frame_payload p) up) verdict.Sent rows
goes-up s new k p what want up rows st serves e room does stands =
    subst (λ o. SendsRow s new (sent_as k p o) 0 up (with_bytes (frame_payload p) up) verdict.Sent rows) (sym (by-full s k p what want false rows st serves e room ∙ does)) (record {
      sent = ap (λ (bs : List ℕ). let q : QueueState = record up { waiting = up.waiting ++ bs } in q) (sym (append-nil (frame_payload p)));
      shows = (refl, refl, recorded-none (request_row k p) (rows_of k rows) refl (sent-same k p what want (rows_of k rows) (member_waiting_of k s.clients) e (waits-are rows k s.clients st.clients.each st.clients.once serves)));
      fresh = λ h. absurd (let d = sym h ∙ takes-no k p what want e in cc);
      stands = stands;
    })

-- ---- one that is refused

silent-quiet : (k : ℕ) (p : List ℕ) (what : Global) → read_summary p ≡ Ok (Requests what false) → IsQuiet (sent_as k p silent)
silent-quiet k p what e = record {
  asks = ap (asks_of k false) (reading-ok p (Requests what false) wanted_in None e);
  flags = ap (sent_flags false) (reading-ok p (Requests what false) wanted_in None e);
  replies = refl;
  forwards = λ own fs. refl;
  keeps = refl;
  admits = refl;
}

pub refused-silent : (s new : CoreState) (k : ℕ) (p : List ℕ) (what : Global) (v : Verdict) (up : QueueState) (rows : List Row) → CoreRepresents s rows → is_member_served s.clients k ≡ true → read_summary p ≡ Ok (Requests what false) → sent_request s.policy k (rows_of k rows) p what false ≡ silent → v ≡ verdict.Silent → new ≡ s → CoreSendsIn s new k p 0 up up v rows
refused-silent s new k p what v up rows st serves e does is after =
    subst (λ x. CoreSendsIn s new k p 0 up up x rows) (sym is) (subst (λ x. CoreSendsIn s x k p 0 up up verdict.Silent rows) (sym after)
    (subst (λ o. SendsRow s s (sent_as k p o) 0 up up verdict.Silent rows) (sym (by-full s k p what false false rows st serves e refl ∙ does)) (record {
      sent = same-queue up;
      shows = (refl, refl, records-own (sent_as k p silent) (silent-quiet k p what e) (rows_of k rows), ap is_some (reading-ok p (Requests what false) wanted_in None e));
      fresh = λ h. absurd (let d = sym h ∙ takes-unsent k p silent refl in cc);
      stands = quiet-stands s s.channels (sent_as k p silent) rows st (silent-quiet k p what e) (served (look rows) k s.clients st.clients.each serves) (subst (TableFits s.channels) (sym (unsent-held k p silent rows refl)) st.channels) st.known.channels;
    })))

-- ---- what is seen of the client's own forwardings

own-current : (k : ℕ) (rows : List Row) → current (rows_of k rows) ≡ filter (λ g. g.client == k) (current rows)
own-current k rows = ap (filter is_on) (sym (forwardings-local k rows)) ∙ swap (forwardings_of rows)
  where
    swap : (gs : List Forwarding) → filter is_on (filter (λ (g : Forwarding). g.client == k) gs) ≡ filter (λ (g : Forwarding). g.client == k) (filter is_on gs)
    swap [] = refl
    swap (g ∷ gs) = by_case (swap gs) (g.client == k) refl (is_on g) refl
      where
        by_case : filter is_on (filter (λ (g : Forwarding). g.client == k) gs) ≡ filter (λ (g : Forwarding). g.client == k) (filter is_on gs) → (b : Bool) → (g.client == k) ≡ b → (o : Bool) → is_on g ≡ o → filter is_on (filter (λ (g : Forwarding). g.client == k) (g ∷ gs)) ≡ filter (λ (g : Forwarding). g.client == k) (filter is_on (g ∷ gs))
        by_case ih true b true o = ap (filter is_on) (filter-yes (λ (g : Forwarding). g.client == k) g gs b) ∙ (filter-yes is_on g (filter (λ (g : Forwarding). g.client == k) gs) o ∙ (ap (λ hs. g ∷ hs) ih ∙ sym (ap (filter (λ (g : Forwarding). g.client == k)) (filter-yes is_on g gs o) ∙ filter-yes (λ (g : Forwarding). g.client == k) g (filter is_on gs) b)))
        by_case ih true b false o = ap (filter is_on) (filter-yes (λ (g : Forwarding). g.client == k) g gs b) ∙ (filter-no is_on g (filter (λ (g : Forwarding). g.client == k) gs) o ∙ (ih ∙ sym (ap (filter (λ (g : Forwarding). g.client == k)) (filter-no is_on g gs o))))
        by_case ih false b true o = ap (filter is_on) (filter-no (λ (g : Forwarding). g.client == k) g gs b) ∙ (ih ∙ sym (ap (filter (λ (g : Forwarding). g.client == k)) (filter-yes is_on g gs o) ∙ filter-no (λ (g : Forwarding). g.client == k) g (filter is_on gs) b))
        by_case ih false b false o = ap (filter is_on) (filter-no (λ (g : Forwarding). g.client == k) g gs b) ∙ (ih ∙ sym (ap (filter (λ (g : Forwarding). g.client == k)) (filter-no is_on g gs o)))

count-same : (k : ℕ) (fs : List kept.Forward) (gs : List Forwarding) → AreForwardsListed fs gs → length (filter (λ g. g.client == k) gs) ≡ forward_count_of fs k
count-same k [] [] all = refl
count-same k [] (g ∷ gs) all = absurd all
count-same k (f ∷ fs) [] all = absurd all
count-same k (f ∷ fs) (g ∷ gs) all = by_case (count-same k fs gs all.1) (g.client == k) refl
  where
    by_case : length (filter (λ g. g.client == k) gs) ≡ forward_count_of fs k → (b : Bool) → (g.client == k) ≡ b → length (filter (λ g. g.client == k) (g ∷ gs)) ≡ forward_count_of (f ∷ fs) k
    by_case ih true h = ap length (filter-yes (λ (g : Forwarding). g.client == k) g gs h) ∙ (ap suc ih ∙ sym (ap length (filter-yes (is_forward_of k) f fs (ap (λ i. i == k) all.0.client ∙ h))))
    by_case ih false h = ap length (filter-no (λ (g : Forwarding). g.client == k) g gs h) ∙ (ih ∙ sym (ap length (filter-no (is_forward_of k) f fs (ap (λ i. i == k) all.0.client ∙ h))))

any-own : (k : ℕ) (key : Key) (gs : List Forwarding) → any_of (history.is_forwarding_free_at k key) (filter (λ g. g.client == k) gs) ≡ any_of (history.is_forwarding_free_at k key) gs
any-own k key [] = refl
any-own k key (g ∷ gs) = by_case (any-own k key gs) (g.client == k) refl
  where
    by_case : any_of (history.is_forwarding_free_at k key) (filter (λ g. g.client == k) gs) ≡ any_of (history.is_forwarding_free_at k key) gs → (b : Bool) → (g.client == k) ≡ b → any_of (history.is_forwarding_free_at k key) (filter (λ g. g.client == k) (g ∷ gs)) ≡ any_of (history.is_forwarding_free_at k key) (g ∷ gs)
    by_case ih true h = ap (any_of (history.is_forwarding_free_at k key)) (filter-yes (λ (g : Forwarding). g.client == k) g gs h) ∙ ap (λ b. history.is_forwarding_free_at k key g || b) ih
    by_case ih false h = ap (any_of (history.is_forwarding_free_at k key)) (filter-no (λ (g : Forwarding). g.client == k) g gs h) ∙ (ih ∙ sym (ap (λ b. (b && (not g.over && (is_none g.cancel && has_key g.live key))) || any_of (history.is_forwarding_free_at k key) gs) h))

pub forward-does : (s : CoreState) (k : ℕ) (p : List ℕ) (key : Key) (want : Bool) (rows : List Row) → CoreRepresents s rows → sent_request s.policy k (rows_of k rows) p (Forward key) want ≡ sends_if (want && (is_askable key && (permits s.policy.listens key && nat_lt (forward_count_of s.forwards k) MAX_FORWARDINGS))) p
forward-does s k p key want rows st = ap (λ n. sends_if (want && (is_askable key && (permits s.policy.listens key && nat_lt n MAX_FORWARDINGS))) p) (ap length (own-current k rows) ∙ count-same k s.forwards (current rows) st.forwards.listed)

pub cancel-does : (s : CoreState) (k : ℕ) (p : List ℕ) (key : Key) (want : Bool) (rows : List Row) → CoreRepresents s rows → sent_request s.policy k (rows_of k rows) p (Cancel key) want ≡ sends_if (some_free k key s.forwards) p
cancel-does s k p key want rows st = ap (λ b. sends_if b p) (ap (any_of (history.is_forwarding_free_at k key)) (own-current k rows) ∙ (any-own k key (current rows) ∙ sym (some-same k key s.forwards (current rows) st.forwards.listed)))

-- ---- the state after one that is sent and wants a reply

awaits-all : (s : CoreState) (k : ℕ) (a : Ask) (fs : List kept.Forward) (rows : List Row) → CoreRepresents s rows → (let u : CoreState = record s { asks = s.asks ++ a ∷ []; clients = with_waiting k more_awaited s.clients; forwards = fs } in u) ≡ record s { asks = s.asks ++ a ∷ []; clients = map (awaits k) s.clients; forwards = fs }
awaits-all s k a fs rows st = ap (λ (cs : List MemberState). let u : CoreState = record s { asks = s.asks ++ a ∷ []; clients = cs; forwards = fs } in u) (with-map k more_awaited s.clients st.clients.once)

pub alive-wanted : (s new : CoreState) (k : ℕ) (p : List ℕ) (up : QueueState) → new ≡ record s { asks = s.asks ++ ask_of k KeepAlive ∷ []; clients = with_waiting k more_awaited s.clients } → SendsRoomy s new k p KeepAlive true up (with_bytes (frame_payload p) up) verdict.Sent
alive-wanted s new k p up after = λ room rows st serves e. goes-up s new k p KeepAlive true up rows st serves e room refl (subst (λ u. CoreRepresents u (request_row k p ∷ rows)) (sym (after ∙ awaits-all s k (ask_of k KeepAlive) s.forwards rows st)) (request-stands s k p KeepAlive rows st serves e refl (λ place fs. refl)))

pub alive-unwanted : (s : CoreState) (k : ℕ) (p : List ℕ) (up : QueueState) → SendsRoomy s s k p KeepAlive false up (with_bytes (frame_payload p) up) verdict.Sent
alive-unwanted s k p up = λ room rows st serves e. goes-up s s k p KeepAlive false up rows st serves e room refl (alive-stands s k p rows st serves e)

pub forward-sent : (s new : CoreState) (k : ℕ) (p : List ℕ) (key : Key) (up : QueueState) → is_askable key ≡ true → permits s.policy.listens key ≡ true → forward_count_of s.forwards k < MAX_FORWARDINGS → new ≡ record s { asks = s.asks ++ ask_of k (Forward key) ∷ []; clients = with_waiting k more_awaited s.clients; forwards = s.forwards ++ asked_forward k key ∷ [] } → SendsRoomy s new k p (Forward key) true up (with_bytes (frame_payload p) up) verdict.Sent
forward-sent s new k p key up short may few after = λ room rows st serves e.
    goes-up s new k p (Forward key) true up rows st serves e room
    (forward-does s k p key true rows st ∙ ap (λ b. sends_if b p) (all (is_askable key) (permits s.policy.listens key) (nat_lt (forward_count_of s.forwards k) MAX_FORWARDINGS) short may (lt-yes (forward_count_of s.forwards k) MAX_FORWARDINGS few)))
    (subst (λ u. CoreRepresents u (request_row k p ∷ rows)) (sym (after ∙ awaits-all s k (ask_of k (Forward key)) (s.forwards ++ asked_forward k key ∷ []) rows st)) (forward-stands s k p key rows st serves e few))
  where
    all : (a b c : Bool) → a ≡ true → b ≡ true → c ≡ true → (true && (a && (b && c))) ≡ true
    all true true true x y z = refl
    all false b c x y z = cc
    all true false c x y z = cc
    all true true false x y z = cc

    lt-yes : (a b : ℕ) → a < b → nat_lt a b ≡ true
    lt-yes a b h = grind (arith, nat_tests)

pub cancel-wanted : (s new : CoreState) (k : ℕ) (p : List ℕ) (key : Key) (up : QueueState) → some_free k key s.forwards ≡ true → new ≡ record s { asks = s.asks ++ ask_of k (Cancel key) ∷ []; clients = with_waiting k more_awaited s.clients; forwards = forward_cancelled k key true s.forwards } → SendsRoomy s new k p (Cancel key) true up (with_bytes (frame_payload p) up) verdict.Sent
cancel-wanted s new k p key up free after = λ room rows st serves e.
    goes-up s new k p (Cancel key) true up rows st serves e room
    (cancel-does s k p key true rows st ∙ ap (λ b. sends_if b p) free)
    (subst (λ u. CoreRepresents u (request_row k p ∷ rows)) (sym (after ∙ awaits-all s k (ask_of k (Cancel key)) (forward_cancelled k key true s.forwards) rows st)) (cancel-stands s k p key rows st serves e free))

pub cancel-unwanted : (s new : CoreState) (k : ℕ) (p : List ℕ) (key : Key) (up : QueueState) → some_free k key s.forwards ≡ true → new ≡ record s { forwards = forward_cancelled k key false s.forwards } → SendsRoomy s new k p (Cancel key) false up (with_bytes (frame_payload p) up) verdict.Sent
cancel-unwanted s new k p key up free after = λ room rows st serves e.
    goes-up s new k p (Cancel key) false up rows st serves e room
    (cancel-does s k p key false rows st ∙ ap (λ b. sends_if b p) free)
    (subst (λ u. CoreRepresents u (request_row k p ∷ rows)) (sym after) (stop-stands s k p key rows st serves e))
