-- The forwarder greets, and sends its requests: what the run has with it goes on.
use Rattle.std.proofs.Common.{◌≡◌, ◌≤◌, ◌+◌, ℕ, Bool, true, false, not, ◌&&◌, Some, None, Ok, List, [], ◌∷◌, ◌++◌, refl, sym, ap, ◌∙◌, subst, arith, map, append-nil, length, length-append}
use Rattle.std.specs.Prelude.{find, nat_le, nat_lt}
use Rattle.std.proofs.lemmas.Bool.Decides.{nat_tests}
use Rattle.std.proofs.lemmas.List.{map-append}
use Rattle.mux_outside.specs.declared.house.HouseReply.{HouseReply}
use Rattle.mux_outside.specs.declared.greeting.TheConstants.{GREETING}
use Rattle.ssh_fields.specs.Fields.{AreBytes}
use Rattle.ssh_grammar.specs.Control.{Hello, Proxies, Proxy}
use Rattle.ssh_grammar.specs.Frames.{frame_answer, frame_payload}
use Rattle.ssh_grammar.specs.Messages.{Cancel, Forward, Global, KeepAlive, OtherName}
use Rattle.ssh_grammar.specs.ReadControl.{read_control}
use Rattle.ssh_grammar.specs.Said.{Body, Payload, Outgoing}
use Rattle.ssh_grammar.specs.SpellControl.{spell_answer}
use Rattle.ssh_grammar.specs.SpellMessage.{request_failure}
use Rattle.ssh_grammar.specs.declared.numbers.TheConstants.{VERSION}
use Rattle.mux_history.specs.declared.limits.TheConstants.{HOUSE, MAX_FORWARDINGS, MAX_QUEUE}
use Rattle.mux_history.specs.Channels.{Channel, held_of}
use Rattle.mux_history.specs.Choices.{pick_of, replies_given, reply_at, with_reply}
use Rattle.mux_history.specs.Controls.{body_asks, client_has_greeted, sent_body, sent_first, sent_later}
use Rattle.mux_history.specs.Forwardings.{current, is_forwarding_free_at}
use Rattle.mux_history.specs.Summary.{Requests, read_summary}
use Rattle.mux_history.specs.Journal.{new_sayings}
use Rattle.mux_history.specs.Keys.{is_askable}
use Rattle.mux_history.specs.Kept.{AtEach}
use Rattle.mux_history.specs.Log.{Setting, bare_row, makes_next, more_all, more_of, new_answers, next_row, row_of, treat}
use Rattle.mux_history.specs.Pending.{joined, pending, pending_down, waiting_down}
use Rattle.mux_history.specs.Policy.{Policy, permits}
use Rattle.mux_history.specs.Requests.{unanswered_asks, wanted_by, wanted_in}
use Rattle.mux_history.specs.Rows.{Goes, Item, Row, Says, any_of, is_run_over, is_out, rows_of}
use Rattle.mux_history.specs.Said.{Outcome, is_full_of_asks, sent_summary, sent_payload, sent_request, sends_payload, sends_if, silent, records}
use Rattle.mux_history.specs.Settings.{by_lists}
use Rattle.mux_history.proofs.Readings.{reading-ok}
use Rattle.house_forward.specs.ForwardingState.{greeting_sent, request_sent}
use Rattle.house_forward.specs.Forwardings.{has_request, forwarding_request_of}
use Rattle.house_forward.specs.RelayTraces.{Trace, Life, SendsBy, with_forwarding_state}
use Rattle.house_forward.specs.Said.{framed, request_payload}
use Rattle.house_forward.specs.declared.forwarding.Forwarding.{Forwarding}
use Rattle.house_forward.specs.declared.forwarder_state.ForwarderStage.{ForwarderStage}
use Rattle.house_forward.specs.declared.forwarder_state.ForwarderStage.TheVariants as stage
use Rattle.house_history.proofs.Lists.{Each, found}
use Rattle.house_history.proofs.Fitting.{Entry, Fit}
use Rattle.house_history.proofs.Notes.{Later, Note, noted}
use Rattle.house_history.proofs.Seen.{Seen, note-in}
use Rattle.house_history.proofs.Receiving.{GrantedOrProxy, IsSizedPayload, NoGrant, Recorded, Ungranted, Waits, answer-granted, grants, recorded-answer, waits-same}
use Rattle.house_history.proofs.Readings.{IsAboutForwarding, IsRequestRead, greeting, one-more, request-reads}
use Rattle.house_history.proofs.RowsOf.{AllUsed, asks-go-on, asks_in, asks_some, no-answers, plain-row, plain_row, said-little}
use Rattle.house_history.proofs.AnswersOf.{atEach-down, atEach-here, failure-short, failure-some, replies-append, replies-in, said-answers}
use Rattle.house_history.proofs.Channels.{said-nothing, said-request}
use Rattle.house_history.proofs.Records.{recorded-nothing}
use Rattle.house_history.proofs.Going.{After, Going, IsOn, IsYoung, Phase, RightAt, SentSo, in-kept, more-recorded, own-more, recorded-all}

-- the forwarder sent this: the run is over and it wasn't dropped, or goes on with it; and all that
-- it sent are whole frames
pub record HasSent (setting : Setting) (rows : List Row) (before bytes : List ℕ) (new : Trace) : Type 0 where
  pub after : After (more_all setting rows (new_sayings HOUSE before (before ++ bytes))) new
  pub greeted : new.forwarding_state.greeted ≡ true
  pub said : SentSo true (before ++ bytes)

-- ---- a row of the forwarder that goes on

-- what such a row leaves
record Leaves (rows : List Row) (row : Row) : Type 0 where
  on : is_run_over (row ∷ rows) ≡ false
  inside : is_out (rows_of HOUSE (row ∷ rows)) ≡ false
  own : rows_of HOUSE (row ∷ rows) ≡ row ∷ rows_of HOUSE rows
  pending : pending HOUSE (row ∷ rows) ≡ pending HOUSE rows ++ joined row.down

leaves : (rows : List Row) (outgoing : Outgoing) (up down : List (List ℕ)) → is_run_over rows ≡ false → is_out (rows_of HOUSE rows) ≡ false → Leaves rows (plain_row (Says HOUSE outgoing None) HOUSE up down)
leaves rows outgoing up down on inside =
    let row = plain_row (Says HOUSE outgoing None) HOUSE up down in
    let own : rows_of HOUSE (row ∷ rows) ≡ row ∷ rows_of HOUSE rows = own-more row rows refl in
    record {
      on = on;
      inside = ap is_out own ∙ inside;
      own = own;
      pending = ap pending_down own;
    }

-- it is made
makes : (setting : Setting) (rows : List Row) (outgoing : Outgoing) → is_run_over rows ≡ false → is_out (rows_of HOUSE rows) ≡ false
    → more_of setting rows (Says HOUSE outgoing None) ≡ next_row setting rows (Says HOUSE outgoing None) ∷ rows
makes setting rows outgoing on inside =
    let item = Says HOUSE outgoing None in
    let may : makes_next rows item ≡ true = rw (on, makes_next) (ap not inside) in
    rw (may, more_of) refl

-- a control message that asks nothing
body-row : (policy : Policy) (pid : ℕ) (picks : List ℕ) (given : List HouseReply) (rows : List Row) (body : List ℕ) (o : Outcome)
    → is_run_over rows ≡ false → is_out (rows_of HOUSE rows) ≡ false → (client_has_greeted (rows_of HOUSE rows) && body_asks body) ≡ false
    → sent_body pid HOUSE None (client_has_greeted (rows_of HOUSE rows)) body ≡ o → o.ends ≡ Goes → length (pending HOUSE rows) + length (joined o.recorded) ≤ MAX_QUEUE
    → more_of (by_lists policy pid picks given) rows (Says HOUSE (Body body) None) ≡ plain_row (Says HOUSE (Body body) None) HOUSE o.sent o.recorded ∷ rows
body-row policy pid picks given rows body o on inside plain is ends le =
    let setting = by_lists policy pid picks given in
    let own = rows_of HOUSE rows in
    let item = Says HOUSE (Body body) None in
    let same : with_reply setting.choices rows item ≡ item =
    ap (λ (b : Bool). elim b as (λ _. Item) [ true ↦ Says HOUSE (Body body) (Some (reply_at given (replies_given rows))) | false ↦ Says HOUSE (Body body) None ]) plain in
    let none : new_answers (bare_row item HOUSE o) own ≡ [] = no-answers (bare_row item HOUSE o) own refl refl in
    let frames : o.recorded ++ new_answers (bare_row item HOUSE o) own ≡ o.recorded = ap (λ (fs : List (List ℕ)). o.recorded ++ fs) none ∙ append-nil o.recorded in
    let fits : waiting_down own + length (joined (o.recorded ++ new_answers (bare_row item HOUSE o) own)) ≤ MAX_QUEUE = subst (λ (fs : List (List ℕ)). waiting_down own + length (joined fs) ≤ MAX_QUEUE) (sym frames) le in
    let plainly = plain-row item HOUSE o own ends refl (in-kept own inside) fits in
    makes setting rows (Body body) on inside
    ∙ (ap (λ (i : Item). treat policy pid (pick_of setting.choices rows item) rows i ∷ rows) same
    ∙ (ap (λ (out : Outcome). row_of item HOUSE out own ∷ rows) is
    ∙ (ap (λ (r : Row). r ∷ rows) plainly
    ∙ ap (λ (fs : List (List ℕ)). plain_row item HOUSE o.sent fs ∷ rows) frames)))

-- ---- the greeting

one-joined : (x : List ℕ) → joined (x ∷ []) ≡ x
one-joined x = append-nil x

hello-said : (pid : ℕ) (body : List ℕ) (b : Bool) → b ≡ false → read_control body ≡ Ok (Hello VERSION []) → sent_body pid HOUSE None b body ≡ silent
hello-said pid body b e reads = ap (λ (b : Bool). sent_body pid HOUSE None b body) e ∙ ap sent_first reads

proxy-said : (pid : ℕ) (body : List ℕ) (b : Bool) (id : ℕ) → b ≡ true → read_control body ≡ Ok (Proxy id) → sent_body pid HOUSE None b body ≡ records (frame_answer (Proxies id))
proxy-said pid body b id e reads = ap (λ (b : Bool). sent_body pid HOUSE None b body) e ∙ ap (sent_later pid HOUSE None) reads

proxy-asks : (body : List ℕ) (b : Bool) (id : ℕ) → b ≡ true → read_control body ≡ Ok (Proxy id) → (b && body_asks body) ≡ false
proxy-asks body b id e reads = ap (λ (b : Bool). b && body_asks body) e ∙ rw (reads, body_asks) refl

-- what such a row leaves of what is unanswered
quiet-asks : (body : List ℕ) (up down : List (List ℕ)) (own : List Row) → unanswered_asks (plain_row (Says HOUSE (Body body) None) HOUSE up down ∷ own) ≡ unanswered_asks own
quiet-asks body up down own =
    let row = plain_row (Says HOUSE (Body body) None) HOUSE up down in
    let go = asks-go-on row own in
    let none = ap length (no-answers row own refl refl) in
    omega (arith, go, none)

grants-proxy : (id : ℕ) → grants (spell_answer (Proxies id)) ≡ true
grants-proxy id = refl

ungranted-control : (s : ForwarderStage) (t : Recorded) → Ungranted s t → s ≡ stage.Control
ungranted-control stage.Control t u = refl
ungranted-control stage.Proxy t u = absurd u

greets-here : (policy : Policy) (pid : ℕ) (picks : List ℕ) (given : List HouseReply) (rows : List Row) (trace : Trace) (recorded : Recorded)
    → Going rows trace recorded → trace.forwarding_state.greeted ≡ false → pending HOUSE rows ≡ []
    → After (more_all (by_lists policy pid picks given) rows (Says HOUSE (Body greeting.hello) None ∷ Says HOUSE (Body greeting.proxy) None ∷ [])) (with_forwarding_state (greeting_sent trace.forwarding_state) trace)
greets-here policy pid picks given rows trace recorded g silent-yet none =
    let setting = by_lists policy pid picks given in
    let new = with_forwarding_state (greeting_sent trace.forwarding_state) trace in
    let own = rows_of HOUSE rows in
    let young : Ungranted trace.stage recorded × IsYoung own = subst (λ (b : Bool). Phase b trace.stage recorded own) silent-yet g.phase in
    let id = greeting.proxy_reads.0 in
    let a = spell_answer (Proxies id) in
    let nothing : length (pending HOUSE rows) ≡ 0 = ap length none in
    let row1 = plain_row (Says HOUSE (Body greeting.hello) None) HOUSE [] [] in
    let rows1 : List Row = row1 ∷ rows in
    let one : more_of setting rows (Says HOUSE (Body greeting.hello) None) ≡ rows1 =
    body-row policy pid picks given rows greeting.hello silent g.on g.inside (ap (λ (b : Bool). b && body_asks greeting.hello) young.1.silent)
    (hello-said pid greeting.hello (client_has_greeted own) young.1.silent greeting.hello_reads) refl (omega (arith, nothing)) in
    let leave1 = leaves rows (Body greeting.hello) [] [] g.on g.inside in
    let greets : client_has_greeted (rows_of HOUSE rows1) ≡ true = ap client_has_greeted leave1.own in
    let pending1 : pending HOUSE rows1 ≡ pending HOUSE rows = leave1.pending ∙ append-nil (pending HOUSE rows) in
    let nothing1 : length (pending HOUSE rows1) ≡ 0 = ap length pending1 ∙ nothing in
    let row2 = plain_row (Says HOUSE (Body greeting.proxy) None) HOUSE [] (frame_answer (Proxies id) ∷ []) in
    let rows2 : List Row = row2 ∷ rows1 in
    let brief : length (joined (frame_answer (Proxies id) ∷ [])) ≡ 12 = refl in
    let two : more_of setting rows1 (Says HOUSE (Body greeting.proxy) None) ≡ rows2 =
    body-row policy pid picks given rows1 greeting.proxy (records (frame_answer (Proxies id))) leave1.on leave1.inside (proxy-asks greeting.proxy (client_has_greeted (rows_of HOUSE rows1)) id greets greeting.proxy_reads.1)
    (proxy-said pid greeting.proxy (client_has_greeted (rows_of HOUSE rows1)) id greets greeting.proxy_reads.1) refl (omega (arith, nothing1, brief)) in
    let leave2 = leaves rows1 (Body greeting.proxy) [] (frame_answer (Proxies id) ∷ []) leave1.on leave1.inside in
    let all : more_all setting rows (Says HOUSE (Body greeting.hello) None ∷ Says HOUSE (Body greeting.proxy) None ∷ []) ≡ rows2 =
    ap (λ (rs : List Row). more_of setting rs (Says HOUSE (Body greeting.proxy) None)) one ∙ two in
    let control = ungranted-control trace.stage recorded young.0 in
    let plain : NoGrant recorded = subst (λ (s : ForwarderStage). Ungranted s recorded) control young.0 in
    let waits = recorded-answer trace (pending HOUSE rows) recorded a g.waits control plain (omega arith) (omega arith) in
    let waiting : pending HOUSE rows2 ≡ pending HOUSE rows ++ frame_answer (Proxies id) =
    leave2.pending ∙ (ap (λ (l : List ℕ). l ++ joined (frame_answer (Proxies id) ∷ [])) pending1 ∙ ap (λ (l : List ℕ). pending HOUSE rows ++ l) (one-joined (frame_answer (Proxies id)))) in
    let recorded' : Recorded = record recorded { answers = recorded.answers ++ a ∷ [] } in
    let held : held_of (rows_of HOUSE rows2) ≡ held_of own =
    ap held_of leave2.own ∙ (said-nothing HOUSE (rows_of HOUSE rows1) (Body greeting.proxy) None (frame_answer (Proxies id) ∷ [])
    ∙ (ap held_of leave1.own ∙ said-nothing HOUSE own (Body greeting.hello) None [])) in
    let asked : unanswered_asks (rows_of HOUSE rows2) ≡ unanswered_asks own =
    ap unanswered_asks leave2.own ∙ (quiet-asks greeting.proxy [] (frame_answer (Proxies id) ∷ []) (rows_of HOUSE rows1)
    ∙ (ap unanswered_asks leave1.own ∙ quiet-asks greeting.hello [] [] own)) in
    let going : Going rows2 new recorded' = record {
      on = leave2.on;
      inside = leave2.inside;
      waits = waits-same trace new (pending HOUSE rows2) recorded' refl refl (subst (λ (l : List ℕ). Waits trace l recorded') (sym waiting) waits);
      seen = subst (λ (hs : List Channel). Seen hs trace.relay_traces (map note-in recorded.payloads)) (sym held) g.seen;
      requests = g.requests ∙ ap (λ (n : ℕ). n + replies-in recorded.payloads) (sym asked);
      phase = subst (λ (s : ForwarderStage). GrantedOrProxy s recorded') (sym control) (answer-granted recorded a plain (grants-proxy id));
    } in
    subst (λ (rs : List Row). After rs new) (sym all) (IsOn recorded' going)

pub greets-step : (policy : Policy) (pid : ℕ) (picks : List ℕ) (given : List HouseReply) (rows : List Row) (trace new : Trace) (bytes : List ℕ) (recorded : Recorded)
    → AtEach RightAt (more_all (by_lists policy pid picks given) rows (new_sayings HOUSE [] ([] ++ bytes))) → Going rows trace recorded → trace.forwarding_state.greeted ≡ false → pending HOUSE rows ≡ []
    → SendsBy false (find has_request trace.forwarding_state.all) bytes trace new → HasSent (by_lists policy pid picks given) rows [] bytes new
greets-step policy pid picks given rows trace new bytes recorded right g silent-yet none says =
    let setting = by_lists policy pid picks given in
    let here = greets-here policy pid picks given rows trace recorded g silent-yet none in
    let items = subst (λ (items : List Item). After (more_all setting rows items) (with_forwarding_state (greeting_sent trace.forwarding_state) trace)) (sym greeting.items) here in
    let its : HasSent setting rows [] GREETING.now (with_forwarding_state (greeting_sent trace.forwarding_state) trace) = record { after = items; greeted = refl; said = (greeting.mode, greeting.rest) } in
    subst (λ (c : Trace). HasSent setting rows [] bytes c) (sym says.1)
    (subst (λ (l : List ℕ). HasSent setting rows [] l (with_forwarding_state (greeting_sent trace.forwarding_state) trace)) (sym says.0) its)

-- ---- refusals

abbrev refusals : List (List ℕ) → List (List ℕ)
refusals [] = []
refusals (f ∷ fs) = request_failure ∷ refusals fs

refusals-framed : (fs : List (List ℕ)) → Each (λ frame. frame ≡ frame_payload request_failure) fs → map frame_payload (refusals fs) ≡ fs
refusals-framed [] all = refl
refusals-framed (f ∷ fs) all = ap (λ (x : List ℕ). x ∷ map frame_payload (refusals fs)) (sym all.0) ∙ ap (λ (xs : List (List ℕ)). f ∷ xs) (refusals-framed fs all.1)

refusals-sized : (fs : List (List ℕ)) → Each IsSizedPayload (refusals fs)
refusals-sized [] = tt
refusals-sized (f ∷ fs) = ((failure-some, failure-short), refusals-sized fs)

refusals-reply : (fs : List (List ℕ)) → replies-in (refusals fs) ≡ length fs
refusals-reply [] = refl
refusals-reply (f ∷ fs) = let later = refusals-reply fs in omega (arith, later)

refusals-later : (hs : List Channel) (fs : List (List ℕ)) (vs : List Entry) → Fit hs vs → Later hs vs (map note-in (refusals fs))
refusals-later hs [] vs fit = fit
refusals-later hs (f ∷ fs) vs fit = let t = recorded-nothing hs vs fit in (t.0, refusals-later hs fs vs t.1)

later-refusals : (hs : List Channel) (fs : List (List ℕ)) (notes : List Note) (vs : List Entry) → Later hs vs notes → Later hs vs (notes ++ map note-in (refusals fs))
later-refusals hs fs [] vs l = refusals-later hs fs vs l
later-refusals hs fs (n ∷ notes) vs l = (l.0, later-refusals hs fs notes (noted n vs) l.1)

seen-refusals : (hs : List Channel) (relay_traces : List Life) (fs ps : List (List ℕ)) → Seen hs relay_traces (map note-in ps) → Seen hs relay_traces (map note-in (ps ++ refusals fs))
seen-refusals hs relay_traces fs ps s = record {
  entries = s.entries;
  orphans = s.orphans;
  views = s.views;
  unnumbered = s.unnumbered;
  later = subst (λ (notes : List Note). Later hs (s.entries ++ s.orphans) notes) (sym (map-append note-in ps (refusals fs))) (later-refusals hs fs (map note-in ps) (s.entries ++ s.orphans) s.later);
}

-- ---- a request

not-full : (n : ℕ) → n ≤ 64 → nat_le 1024 n ≡ false
not-full n le = grind (arith, nat_tests)

-- it is sent, or not
record SendsIf (policy : Policy) (own : List Row) (p : List ℕ) (what : Global) : Type 0 where
  sent : Bool
  is : sent_request policy HOUSE own p what true ≡ sends_if sent p

request-sends : (policy : Policy) (own : List Row) (p : List ℕ) (what : Global) → IsAboutForwarding what → SendsIf policy own p what
request-sends policy own p (Forward key) h = record { sent = true && (is_askable key && (permits policy.listens key && nat_lt (length (current own)) MAX_FORWARDINGS)); is = refl }
request-sends policy own p (Cancel key) h = record { sent = any_of (is_forwarding_free_at HOUSE key) (current own); is = refl }
request-sends policy own p KeepAlive h = absurd h
request-sends policy own p OtherName h = absurd h

-- what becomes of it
request-said : (policy : Policy) (own : List Row) (pick : ℕ) (p : List ℕ) (what : Global) (o : Outcome) → read_summary p ≡ Ok (Requests what true) → unanswered_asks own ≤ 64
    → sent_request policy HOUSE own p what true ≡ o → sent_payload policy HOUSE own pick p ≡ o
request-said policy own pick p what o reads few is =
    let fits : is_full_of_asks true own ≡ false = not-full (unanswered_asks own) few in
    let by_summary : sent_summary policy HOUSE own pick p (Requests what true) ≡ o = rw (fits, sent_summary) is in
    rw (reads, sent_payload) by_summary

request-wanted : (p : List ℕ) (what : Global) (up down : List (List ℕ)) → read_summary p ≡ Ok (Requests what true) → asks_in (plain_row (Says HOUSE (Payload p) None) HOUSE up down) ≡ 1
request-wanted p what up down reads =
    let wants : wanted_by (plain_row (Says HOUSE (Payload p) None) HOUSE up down) ≡ Some what = reading-ok p (Requests what true) wanted_in None reads in
    ap asks_some wants

request-goes : (policy : Policy) (pid : ℕ) (picks : List ℕ) (given : List HouseReply) (rows : List Row) (trace : Trace) (recorded : Recorded) (f : Forwarding) (p : List ℕ) (what : Global) (o : Outcome)
    → Going rows trace recorded → trace.forwarding_state.greeted ≡ true → pending HOUSE rows ≡ [] → AllUsed (rows_of HOUSE rows) → read_summary p ≡ Ok (Requests what true)
    → o.ends ≡ Goes → o.recorded ≡ [] → sent_payload policy HOUSE (rows_of HOUSE rows) (pick_of (by_lists policy pid picks given).choices rows (Says HOUSE (Payload p) None)) p ≡ o
    → ((down : List (List ℕ)) → held_of (plain_row (Says HOUSE (Payload p) None) HOUSE o.sent down ∷ rows_of HOUSE rows) ≡ held_of (rows_of HOUSE rows))
    → After (more_of (by_lists policy pid picks given) rows (Says HOUSE (Payload p) None)) (with_forwarding_state (request_sent f trace.forwarding_state) trace)
request-goes policy pid picks given rows trace recorded f p what o g client_has_greeted none used reads ends quiet is stays =
    let setting = by_lists policy pid picks given in
    let new = with_forwarding_state (request_sent f trace.forwarding_state) trace in
    let own = rows_of HOUSE rows in
    let item = Says HOUSE (Payload p) None in
    let fs = new_answers (bare_row item HOUSE o) own in
    let few : length (joined fs) ≤ 16 = said-little HOUSE p None o own used in
    let frames : o.recorded ++ fs ≡ fs = ap (λ (ts : List (List ℕ)). ts ++ fs) quiet in
    let nothing : length (pending HOUSE rows) ≡ 0 = ap length none in
    let fits : waiting_down own + length (joined fs) ≤ MAX_QUEUE = omega (arith, nothing, few) in
    let plainly = plain-row item HOUSE o own ends refl (in-kept own g.inside) (subst (λ (xs : List (List ℕ)). waiting_down own + length (joined xs) ≤ MAX_QUEUE) (sym frames) fits) in
    let row = plain_row item HOUSE o.sent fs in
    let rows' : List Row = row ∷ rows in
    let made : more_of setting rows item ≡ rows' =
    makes setting rows (Payload p) g.on g.inside
    ∙ (ap (λ (out : Outcome). row_of item HOUSE out own ∷ rows) is
    ∙ (ap (λ (r : Row). r ∷ rows) plainly
    ∙ ap (λ (xs : List (List ℕ)). plain_row item HOUSE o.sent xs ∷ rows) frames)) in
    let leave = leaves rows (Payload p) o.sent fs g.on g.inside in
    let refused = said-answers (bare_row item HOUSE o) own refl used in
    let framed-are : map frame_payload (refusals fs) ≡ fs = refusals-framed fs refused in
    let recorded' = more-recorded recorded (refusals fs) in
    let phase : GrantedOrProxy trace.stage recorded = subst (λ (b : Bool). Phase b trace.stage recorded own) client_has_greeted g.phase in
    let records = recorded-all trace (refusals fs) (pending HOUSE rows) recorded g.waits phase (refusals-sized fs) in
    let waiting : pending HOUSE rows' ≡ pending HOUSE rows ++ joined (map frame_payload (refusals fs)) =
    leave.pending ∙ ap (λ (xs : List (List ℕ)). pending HOUSE rows ++ joined xs) (sym framed-are) in
    let held : held_of (rows_of HOUSE rows') ≡ held_of own = ap held_of leave.own ∙ stays fs in
    let more = asks-go-on row own in
    let asks-one = request-wanted p what o.sent fs reads in
    let unanswered = ap unanswered_asks leave.own in
    let replies = replies-append recorded.payloads (refusals fs) in
    let refusals-many = refusals-reply fs in
    let longer = length-append trace.forwarding_state.requests (forwarding_request_of f ∷ []) in
    let were = g.requests in
    let going : Going rows' new recorded' = record {
      on = leave.on;
      inside = leave.inside;
      waits = waits-same trace new (pending HOUSE rows') recorded' refl refl (subst (λ (l : List ℕ). Waits trace l recorded') (sym waiting) records.0);
      seen = subst (λ (hs : List Channel). Seen hs trace.relay_traces (map note-in recorded'.payloads)) (sym held) (seen-refusals (held_of own) trace.relay_traces fs recorded.payloads g.seen);
      requests = omega (arith, more, asks-one, unanswered, replies, refusals-many, longer, were);
      phase = subst (λ (b : Bool). Phase b trace.stage recorded' (rows_of HOUSE rows')) (sym client_has_greeted) records.1;
    } in
    subst (λ (rs : List Row). After rs new) (sym made) (IsOn recorded' going)

request-here : (policy : Policy) (pid : ℕ) (picks : List ℕ) (given : List HouseReply) (rows : List Row) (trace : Trace) (recorded : Recorded) (f : Forwarding) (p : List ℕ)
    → Going rows trace recorded → trace.forwarding_state.greeted ≡ true → length trace.forwarding_state.requests ≤ 64 → pending HOUSE rows ≡ [] → AllUsed (rows_of HOUSE rows) → IsRequestRead p
    → After (more_of (by_lists policy pid picks given) rows (Says HOUSE (Payload p) None)) (with_forwarding_state (request_sent f trace.forwarding_state) trace)
request-here policy pid picks given rows trace recorded f p g client_has_greeted few none used reads =
    let s = request-sends policy (rows_of HOUSE rows) p reads.0 reads.1 in
    let were = g.requests in
    let le : unanswered_asks (rows_of HOUSE rows) ≤ 64 = omega (arith, were, few) in
    by_sent s.sent (request-said policy (rows_of HOUSE rows) (pick_of (by_lists policy pid picks given).choices rows (Says HOUSE (Payload p) None)) p reads.0 (sends_if s.sent p) reads.2 le s.is)
  where
    by_sent : (b : Bool) → sent_payload policy HOUSE (rows_of HOUSE rows) (pick_of (by_lists policy pid picks given).choices rows (Says HOUSE (Payload p) None)) p ≡ sends_if b p
        → After (more_of (by_lists policy pid picks given) rows (Says HOUSE (Payload p) None)) (with_forwarding_state (request_sent f trace.forwarding_state) trace)
    by_sent true is = request-goes policy pid picks given rows trace recorded f p reads.0 (sends_payload p) g client_has_greeted none used reads.2 refl refl is (λ down. said-request HOUSE (rows_of HOUSE rows) p None down reads.0 true reads.2)
    by_sent false is = request-goes policy pid picks given rows trace recorded f p reads.0 silent g client_has_greeted none used reads.2 refl refl is (λ down. said-nothing HOUSE (rows_of HOUSE rows) (Payload p) None down)

request-some : (f : Forwarding) → 1 ≤ length (request_payload f)
request-some f = omega arith

pub request-step : (policy : Policy) (pid : ℕ) (picks : List ℕ) (given : List HouseReply) (rows : List Row) (trace new : Trace) (before bytes : List ℕ) (recorded : Recorded) (f : Forwarding)
    → AtEach RightAt (more_all (by_lists policy pid picks given) rows (new_sayings HOUSE before (before ++ bytes))) → Going rows trace recorded → trace.forwarding_state.greeted ≡ true
    → length trace.forwarding_state.requests ≤ 64 → pending HOUSE rows ≡ [] → AreBytes bytes → length bytes ≤ 65536 → SentSo true before → find has_request trace.forwarding_state.all ≡ Some f
    → SendsBy true (Some f) bytes trace new → HasSent (by_lists policy pid picks given) rows before bytes new
request-step policy pid picks given rows trace new before bytes recorded f right g client_has_greeted few none are fits so first says =
    let setting = by_lists policy pid picks given in
    let p = request_payload f in
    let to = with_forwarding_state (request_sent f trace.forwarding_state) trace in
    let has : has_request f ≡ true = (found has_request f trace.forwarding_state.all first).is in
    let are' : AreBytes (framed p) = subst AreBytes says.0 are in
    let fits' : length (framed p) ≤ 65536 = subst (λ (l : List ℕ). length l ≤ 65536) says.0 fits in
    let reads = request-reads f has are' fits' in
    let one = one-more before p so.0 so.1 (request-some f) fits' in
    let used : AllUsed (rows_of HOUSE rows) = (atEach-here RightAt rows (atEach-down RightAt setting rows (new_sayings HOUSE before (before ++ bytes)) right)).used g.on in
    let here = request-here policy pid picks given rows trace recorded f p g client_has_greeted few none used reads in
    let after = subst (λ (items : List Item). After (more_all setting rows items) to) (sym one.items) here in
    let its : HasSent setting rows before (framed p) to = record { after = after; greeted = client_has_greeted; said = (one.mode, one.rest) } in
    subst (λ (c : Trace). HasSent setting rows before bytes c) (sym says.1)
    (subst (λ (l : List ℕ). HasSent setting rows before l to) (sym says.0) its)
