-- The server's replies: where each goes, what it records, and what follows for a client that is
-- lost.
use Rattle.std.proofs.Common.{◌≡◌, ℕ, List, [], ◌∷◌, ◌++◌, length, map, true, false, Bool, refl, ◌∙◌, ap, sym, subst, Option, Some, None, Result, Ok, Err, IfOk, OnOk}
use Rattle.std.specs.Prelude.{filter, not}
use Rattle.std.specs.List.{AllByRecursion}
use Rattle.std.proofs.lemmas.List.{append-nil}
use Rattle.ssh_fields.specs.declared.out_of_memory.OutOfMemory.{OutOfMemory}
use Rattle.ssh_grammar.specs.Messages as full
use Rattle.ssh_grammar.specs.Frames.{frame_payload}
use Rattle.proxy_frames.specs.State.{QueueState}
use Rattle.mux_history.specs.declared.broke.Break.TheVariants as broke
use Rattle.mux_history.specs.Summary.{Summary, Refuses, Succeeds, read_summary}
use Rattle.mux_history.specs.Rows.{Goes, Heard, Row, is_lost, rows_of}
use Rattle.mux_history.specs.Channels.{Channel, with_ups}
use Rattle.mux_history.specs.Farewell.{late, late_refusal, late_success, with_ask}
use Rattle.mux_history.specs.Forwardings.{current}
use Rattle.mux_history.specs.Heard.{Breaks, Dest, ToClient, dest, dest_asker, dest_success, for_client, for_lost, received_for}
use Rattle.mux_history.specs.Keys.{bound}
use Rattle.mux_history.specs.Pending.{joined}
use Rattle.mux_history.specs.Requests.{Ask, is_reply, replies, wanted}
use Rattle.mux_history.specs.Said.{Outcome, silent}
use Rattle.mux_history.specs.Treat.{all_recorded, bare_row, new_answers}
use Rattle.mux_history.proofs.Dests.{dest-ok}
use Rattle.mux_history.proofs.Finds.{filter-no, filter-yes}
use Rattle.global_replies.specs.declared.ask.Ask as declared
use Rattle.global_replies.specs.Asks.{what_of}
use Rattle.client_teardown.specs.Leaving.{with_payloads}
use Rattle.global_replies.specs.Replies.{FirstAsked, after_reply, refusals_behind, request_of, rest_of}
use Rattle.forward_rules.specs.State.{Forward}
use Rattle.forward_rules.specs.Step.{cancel_answered, change_first_forward, first_cancel, is_cancelled_at, is_leaving_with_key, forward_settled_at, without_cancel_of, without_first_forward}
use Rattle.forward_rules.specs.Step as forwards
use Rattle.mux_core.specs.declared.heard.Delivery as recorded
use Rattle.mux_core.specs.declared.heard.Delivery.TheVariants as heard
use Rattle.mux_core.specs.State.{MemberState, CoreState, is_member_served}
use Rattle.mux_core.specs.Stands.{CoreRepresents, is_member_known, look}
use Rattle.mux_core.specs.Calls.{ReceivesAs, ReceivesClient, ReceivesWith, recorded_by}
use Rattle.mux_core.specs.Replying.{after_failure, after_success, misses_port}
use Rattle.mux_core.specs.Requesting.{member_waiting_of, with_waiting}
use Rattle.mux_core.specs.Settling.{is_lost_in, client_settled}
use Rattle.mux_core.proofs.Answering.{Waits}
use Rattle.mux_core.proofs.Ended.{failure-fit, success-fit}
use Rattle.mux_core.proofs.ReceivesReply.{lost-reply-stands, served-stands}
use Rattle.mux_core.proofs.ReplyRow.{IsReply, asked-first, nobody-asked, own-next, reply_row, waits-start}
use Rattle.mux_core.proofs.ReceivesWithin.{known-served}
use Rattle.mux_core.proofs.Leaves.{cancel-none}
use Rattle.mux_core.proofs.CancelsLeft.{client-after}
use Rattle.mux_core.proofs.ReplyRecorded.{reply-recorded}
use Rattle.mux_core.proofs.Served.{served}
use Rattle.mux_core.proofs.Settles.{lost-there}
use Rattle.mux_core.proofs.Waiting.{waits-are, with-map}

-- ---- what the code takes from its queue

pub none-asked : (us : List Ask) → FirstAsked us None → us ≡ []
none-asked [] h = refl
none-asked (u ∷ us) h = absurd h

pub some-asked : (us : List Ask) (k : ℕ) (what : declared.Ask) → FirstAsked us (Some (k, what)) → us ≡ request_of k what ∷ rest_of us
some-asked [] k what h = absurd h
some-asked (u ∷ us) k what h = ap (λ v. v ∷ us) (sym h)

-- ---- whose clients are served

all-first : (P : Forward → Type 0) (test : Forward → Bool) (change : Forward → Forward) → ((f : Forward) → P f → P (change f)) → (fs : List Forward) → AllByRecursion P fs → AllByRecursion P (change_first_forward test change fs)
all-first P test change each [] all = tt
all-first P test change each (f ∷ fs) all = by_test (all-first P test change each fs all.1) (test f)
  where
    by_test : AllByRecursion P (change_first_forward test change fs) → (b : Bool) → AllByRecursion P (elim b as (λ _. List Forward) [ true ↦ change f ∷ fs | false ↦ f ∷ change_first_forward test change fs ])
    by_test ih true = (each f all.0, all.1)
    by_test ih false = (all.0, ih)

all-without : (P : Forward → Type 0) (test : Forward → Bool) (fs : List Forward) → AllByRecursion P fs → AllByRecursion P (without_first_forward test fs)
all-without P test [] all = tt
all-without P test (f ∷ fs) all = by_test (all-without P test fs all.1) (test f)
  where
    by_test : AllByRecursion P (without_first_forward test fs) → (b : Bool) → AllByRecursion P (elim b as (λ _. List Forward) [ true ↦ fs | false ↦ f ∷ without_first_forward test fs ])
    by_test ih true = all.1
    by_test ih false = (all.0, ih)

all-kept : (P : Forward → Type 0) (test : Forward → Bool) (fs : List Forward) → AllByRecursion P fs → AllByRecursion P (filter test fs)
all-kept P test [] all = tt
all-kept P test (f ∷ fs) all = by_test (all-kept P test fs all.1) (test f) refl
  where
    by_test : AllByRecursion P (filter test fs) → (b : Bool) → test f ≡ b → AllByRecursion P (filter test (f ∷ fs))
    by_test ih true h = subst (AllByRecursion P) (sym (filter-yes test f fs h)) (all.0, ih)
    by_test ih false h = subst (AllByRecursion P) (sym (filter-no test f fs h)) ih

all-moved : (cs : List MemberState) (k rank : ℕ) (fs : List Forward) → AllByRecursion (λ f. is_member_served cs f.client ≡ true) fs → AllByRecursion (λ f. is_member_served cs f.client ≡ true) (map (without_cancel_of k rank) fs)
all-moved cs k rank [] all = tt
all-moved cs k rank (f ∷ fs) all = (ap (is_member_served cs) (client-after k rank f) ∙ all.0, all-moved cs k rank fs all.1)

all-answered : (cs : List MemberState) (k : ℕ) (done : Bool) (fs : List Forward) (o : Option ℕ) → AllByRecursion (λ f. is_member_served cs f.client ≡ true) fs → AllByRecursion (λ f. is_member_served cs f.client ≡ true) (forward_settled_at k o done fs)
all-answered cs k done fs None all = all
all-answered cs k true fs (Some r) all = all-moved cs k r (filter (λ f. not (is_cancelled_at k r f)) fs) (all-kept (λ f. is_member_served cs f.client ≡ true) (λ f. not (is_cancelled_at k r f)) fs all)
all-answered cs k false fs (Some r) all = all-moved cs k r fs all

served-success : (cs : List MemberState) (k : ℕ) (what : full.Global) (rest : List ℕ) (fs : List Forward) → AllByRecursion (λ f. is_member_served cs f.client ≡ true) fs → AllByRecursion (λ f. is_member_served cs f.client ≡ true) (after_success k what rest fs)
served-success cs k (full.Forward key) rest fs all = all-first (λ f. is_member_served cs f.client ≡ true) (forwards.is_asked_with_key k key) _ (λ f h. h) fs all
served-success cs k (full.Cancel key) rest fs all = all-answered cs k true fs (first_cancel (is_leaving_with_key k key) fs) all
served-success cs k full.KeepAlive rest fs all = all
served-success cs k full.OtherName rest fs all = all

served-failure : (cs : List MemberState) (k : ℕ) (what : full.Global) (fs : List Forward) → AllByRecursion (λ f. is_member_served cs f.client ≡ true) fs → AllByRecursion (λ f. is_member_served cs f.client ≡ true) (after_failure k what fs)
served-failure cs k (full.Forward key) fs all = all-without (λ f. is_member_served cs f.client ≡ true) (forwards.is_asked_with_key k key) fs all
served-failure cs k (full.Cancel key) fs all = all-answered cs k false fs (first_cancel (is_leaving_with_key k key) fs) all
served-failure cs k full.KeepAlive fs all = all
served-failure cs k full.OtherName fs all = all

-- ---- where it goes

dest-of-success : (k : ℕ) (what : full.Global) (rest : List ℕ) (b : Bool) → misses_port what rest ≡ b → dest_success rest (record { client = k; what = what }) ≡ elim b as (λ _. Dest) [ true ↦ Breaks (broke.BadReply (length rest)) | false ↦ ToClient k ]
dest-of-success k (full.Forward key) rest b h = ap (λ (c : Bool). elim c as (λ _. Dest) [ true ↦ Breaks (broke.BadReply (length rest)) | false ↦ ToClient k ]) h
dest-of-success k (full.Cancel key) rest true h = absurd (cc)
dest-of-success k (full.Cancel key) rest false h = refl
dest-of-success k full.KeepAlive rest true h = absurd (cc)
dest-of-success k full.KeepAlive rest false h = refl
dest-of-success k full.OtherName rest true h = absurd (cc)
dest-of-success k full.OtherName rest false h = refl

success-to : (s : CoreState) (k : ℕ) (what : full.Global) (queue : List Ask) (p rest : List ℕ) (rows : List Row) (b : Bool) → CoreRepresents s rows → s.asks ≡ record { client = k; what = what } ∷ queue → read_summary p ≡ Ok (Succeeds rest) → misses_port what rest ≡ b → dest rows p ≡ elim b as (λ _. Dest) [ true ↦ Breaks (broke.BadReply (length rest)) | false ↦ ToClient k ]
success-to s k what queue p rest rows b st first e h =
    dest-ok rows p (Succeeds rest) e
    ∙ (ap (λ (o : Option Ask). dest_asker o (dest_success rest)) (asked-first s rows (record { client = k; what = what }) queue st first).all ∙ dest-of-success k what rest b h)

refusal-to : (s : CoreState) (k : ℕ) (what : full.Global) (queue : List Ask) (p : List ℕ) (rows : List Row) → CoreRepresents s rows → s.asks ≡ record { client = k; what = what } ∷ queue → read_summary p ≡ Ok Refuses → dest rows p ≡ ToClient k
refusal-to s k what queue p rows st first e =
    dest-ok rows p Refuses e
    ∙ ap (λ (o : Option Ask). dest_asker o (λ a. ToClient a.client)) (asked-first s rows (record { client = k; what = what }) queue st first).all

-- ---- breaks

pub success-nobody : (s new : CoreState) (p p' rest : List ℕ) (up : QueueState) (rows : List Row) → CoreRepresents s rows → s.asks ≡ [] → read_summary p ≡ Ok (Succeeds rest) → ReceivesAs new p p' up up (heard.Broke broke.NoAsker) rows (dest rows p)
success-nobody s new p p' rest up rows st none e = subst (ReceivesAs new p p' up up (heard.Broke broke.NoAsker) rows) (sym (dest-ok rows p (Succeeds rest) e ∙ ap (λ (o : Option Ask). dest_asker o (dest_success rest)) (nobody-asked s rows st none))) (record { sent = refl; to = refl })

pub refusal-nobody : (s new : CoreState) (p p' : List ℕ) (up : QueueState) (rows : List Row) → CoreRepresents s rows → s.asks ≡ [] → read_summary p ≡ Ok Refuses → ReceivesAs new p p' up up (heard.Broke broke.NoAsker) rows (dest rows p)
refusal-nobody s new p p' up rows st none e = subst (ReceivesAs new p p' up up (heard.Broke broke.NoAsker) rows) (sym (dest-ok rows p Refuses e ∙ ap (λ (o : Option Ask). dest_asker o (λ a. ToClient a.client)) (nobody-asked s rows st none))) (record { sent = refl; to = refl })

pub success-bad : (s new : CoreState) (k : ℕ) (what : full.Global) (queue : List Ask) (p p' rest : List ℕ) (up : QueueState) (rows : List Row) → CoreRepresents s rows → s.asks ≡ record { client = k; what = what } ∷ queue → misses_port what rest ≡ true → read_summary p ≡ Ok (Succeeds rest) → ReceivesAs new p p' up up (heard.Broke (broke.BadReply (length rest))) rows (dest rows p)
success-bad s new k what queue p p' rest up rows st first bad e = subst (ReceivesAs new p p' up up (heard.Broke (broke.BadReply (length rest))) rows) (sym (success-to s k what queue p rest rows true st first e bad)) (record { sent = refl; to = refl })

-- ---- to a client that is served

asker-served : (s : CoreState) (k : ℕ) (what : full.Global) (queue : List Ask) (rows : List Row) → CoreRepresents s rows → s.asks ≡ record { client = k; what = what } ∷ queue → is_lost_in s.clients k ≡ false → is_member_served s.clients k ≡ true
asker-served s k what queue rows st first here = known-served k s.clients (subst (AllByRecursion (λ (b : Ask). is_member_known s.clients b.client ≡ true)) first st.known.asks).0 here

given : (s new : CoreState) (k : ℕ) (what : full.Global) (queue : List Ask) (p : List ℕ) (m : Summary) (fs : List Forward) (up : QueueState) (rows : List Row) → CoreRepresents s rows → is_member_served s.clients k ≡ true → IsReply p m → s.asks ≡ record { client = k; what = what } ∷ queue → received_for (rows_of k rows) p ≡ silent → CoreRepresents new (reply_row k p [] ∷ rows) → ReceivesClient new k p p up up (heard.Client k (refusals_behind (member_waiting_of k s.clients))) rows
given s new k what queue p m fs up rows st serves is first outcome stands =
    let here = (served (look rows) k s.clients st.clients.each serves).here in
    let asked = asked-first s rows (record { client = k; what = what }) queue st first in
    let waits = waits-are rows k s.clients st.clients.each st.clients.once serves in
    let start = waits-start (rows_of k rows) (member_waiting_of k s.clients) waits asked.waits in
    record {
      sent = sym (ap (λ (o : Outcome). up.waiting ++ joined (map frame_payload o.sent)) outcome ∙ append-nil up.waiting);
      to = (here, refl);
      recorded = ap (λ (o : Outcome). all_recorded (bare_row (Heard p) k o) (rows_of k rows)) outcome
          ∙ (reply-recorded k p m (rows_of k rows) start.later is.reads is.reply here (subst (Waits (wanted (rows_of k rows)) (replies (rows_of k rows))) start.is waits)
          ∙ ap (λ w. recorded_by (heard.Client k (refusals_behind w)) p) (sym start.is));
      stands = subst (λ o. CoreRepresents new (bare_row (Heard p) k o ∷ rows)) (sym outcome) stands;
    }

silent-for : (s : CoreState) (k : ℕ) (p : List ℕ) (m : Summary) (rows : List Row) → CoreRepresents s rows → is_member_served s.clients k ≡ true → IsReply p m → received_for (rows_of k rows) p ≡ silent
silent-for s k p m rows st serves is =
    rw (is.reads, received_for) (ap (λ (b : Bool). elim b as (λ _. Outcome) [ true ↦ for_lost (rows_of k rows) m | false ↦ for_client (rows_of k rows) p m ]) (served (look rows) k s.clients st.clients.each serves).here ∙ none m is.reply)
  where
    none : (g : Summary) → is_reply g ≡ true → for_client (rows_of k rows) p g ≡ silent
    none (Succeeds rest) h = refl
    none Refuses h = refl
    none g h = absurd (cc)

pub success-given : (s new : CoreState) (k : ℕ) (what : full.Global) (queue : List Ask) (p rest : List ℕ) (up : QueueState) (rows : List Row) → CoreRepresents s rows → s.asks ≡ record { client = k; what = what } ∷ queue → misses_port what rest ≡ false → is_lost_in s.clients k ≡ false → read_summary p ≡ Ok (Succeeds rest)
    → new ≡ record s { asks = queue; forwards = after_success k what rest s.forwards; clients = with_waiting k after_reply s.clients } → ReceivesAs new p p up up (heard.Client k (refusals_behind (member_waiting_of k s.clients))) rows (dest rows p)
success-given s new k what queue p rest up rows st first good here e after =
    let is : IsReply p (Succeeds rest) = record { reads = e; reply = refl } in
    let serves = asker-served s k what queue rows st first here in
    let alive = (served (look rows) k s.clients st.clients.each serves).here in
    let asked = asked-first s rows (record { client = k; what = what }) queue st first in
    let stands : CoreRepresents new (reply_row k p [] ∷ rows) =
    subst (λ u. CoreRepresents u (reply_row k p [] ∷ rows)) (sym (after ∙ ap (λ (cs : List MemberState). let u : CoreState = record s { asks = queue; forwards = after_success k what rest s.forwards; clients = cs } in u) (with-map k after_reply s.clients st.clients.once)))
    (served-stands s p (Succeeds rest) [] (record { client = k; what = what }) queue (after_success k what rest s.forwards) rows st serves is first (λ x. refl)
    (success-fit k rest what s.forwards (current rows) (look rows).own (look (reply_row k p [] ∷ rows)).own (look rows).lost st.forwards (own-next k p (Succeeds rest) [] rows is) alive asked.place)
    (served-success s.clients k what rest s.forwards st.known.forwards)) in
    subst (ReceivesAs new p p up up (heard.Client k (refusals_behind (member_waiting_of k s.clients))) rows) (sym (success-to s k what queue p rest rows false st first e good))
    (given s new k what queue p (Succeeds rest) s.forwards up rows st serves is first (silent-for s k p (Succeeds rest) rows st serves is) stands)

pub refusal-given : (s new : CoreState) (k : ℕ) (what : full.Global) (queue : List Ask) (p : List ℕ) (up : QueueState) (rows : List Row) → CoreRepresents s rows → s.asks ≡ record { client = k; what = what } ∷ queue → is_lost_in s.clients k ≡ false → read_summary p ≡ Ok Refuses
    → new ≡ record s { asks = queue; forwards = after_failure k what s.forwards; clients = with_waiting k after_reply s.clients } → ReceivesAs new p p up up (heard.Client k (refusals_behind (member_waiting_of k s.clients))) rows (dest rows p)
refusal-given s new k what queue p up rows st first here e after =
    let is : IsReply p Refuses = record { reads = e; reply = refl } in
    let serves = asker-served s k what queue rows st first here in
    let alive = (served (look rows) k s.clients st.clients.each serves).here in
    let asked = asked-first s rows (record { client = k; what = what }) queue st first in
    let stands : CoreRepresents new (reply_row k p [] ∷ rows) =
    subst (λ u. CoreRepresents u (reply_row k p [] ∷ rows)) (sym (after ∙ ap (λ (cs : List MemberState). let u : CoreState = record s { asks = queue; forwards = after_failure k what s.forwards; clients = cs } in u) (with-map k after_reply s.clients st.clients.once)))
    (served-stands s p Refuses [] (record { client = k; what = what }) queue (after_failure k what s.forwards) rows st serves is first (λ x. refl)
    (failure-fit k what s.forwards (current rows) (look rows).own (look (reply_row k p [] ∷ rows)).own (look rows).lost st.forwards (own-next k p Refuses [] rows is) alive asked.place)
    (served-failure s.clients k what s.forwards st.known.forwards)) in
    subst (ReceivesAs new p p up up (heard.Client k (refusals_behind (member_waiting_of k s.clients))) rows) (sym (refusal-to s k what queue p rows st first e))
    (given s new k what queue p Refuses s.forwards up rows st serves is first (silent-for s k p Refuses rows st serves is) stands)

-- ---- for a client that is lost

passed : (s new : CoreState) (k : ℕ) (what : full.Global) (queue : List Ask) (p p' : List ℕ) (m : Summary) (sent : List (List ℕ)) (up up' : QueueState) (rows : List Row) → CoreRepresents s rows → is_lost_in s.clients k ≡ true → IsReply p m → s.asks ≡ record { client = k; what = what } ∷ queue → late m (rows_of k rows) ≡ sent → ((x : Channel) → with_ups None sent x ≡ x) → up'.waiting ≡ up.waiting ++ joined (map frame_payload sent) → new ≡ client_settled (record s { asks = queue }) k → ReceivesClient new k p p' up up' (heard.Lost k) rows
passed s new k what queue p p' m sent up up' rows st lost is first says ups goes after =
    let gone : is_lost (rows_of k rows) ≡ true = lost-there (look rows) k s.clients st.clients.each lost in
    let outcome : received_for (rows_of k rows) p ≡ record { sent = sent; recorded = []; ends = Goes } =
    rw (is.reads, received_for) (ap (λ (b : Bool). elim b as (λ _. Outcome) [ true ↦ for_lost (rows_of k rows) m | false ↦ for_client (rows_of k rows) p m ]) gone ∙ ap (λ (ps : List (List ℕ)). let o : Outcome = record { sent = ps; recorded = []; ends = Goes } in o) says) in
    record {
      sent = goes ∙ sym (ap (λ (o : Outcome). up.waiting ++ joined (map frame_payload o.sent)) outcome);
      to = (gone, refl);
      recorded = ap (λ (o : Outcome). all_recorded (bare_row (Heard p) k o) (rows_of k rows)) outcome ∙ ap (λ (b : Bool). elim (not b) as (λ _. List (List ℕ)) [ true ↦ new_answers (reply_row k p sent) (rows_of k rows) | false ↦ [] ]) gone;
      stands = subst (λ o. CoreRepresents new (bare_row (Heard p) k o ∷ rows)) (sym outcome) (subst (λ u. CoreRepresents u (reply_row k p sent ∷ rows)) (sym after) (lost-reply-stands s p m sent (record { client = k; what = what }) queue rows st lost is first ups));
    }

pub success-lost : (s new : CoreState) (k : ℕ) (what : full.Global) (queue : List Ask) (p p' rest : List ℕ) (up up' : QueueState) (rows : List Row) → CoreRepresents s rows → s.asks ≡ record { client = k; what = what } ∷ queue → misses_port what rest ≡ false → is_lost_in s.clients k ≡ true → read_summary p ≡ Ok (Succeeds rest) → up'.waiting ≡ up.waiting ++ joined (map frame_payload (late_success rest what)) → new ≡ client_settled (record s { asks = queue }) k → ReceivesAs new p p' up up' (heard.Lost k) rows (dest rows p)
success-lost s new k what queue p p' rest up up' rows st first good lost e goes after =
    subst (ReceivesAs new p p' up up' (heard.Lost k) rows) (sym (success-to s k what queue p rest rows false st first e good))
    (passed s new k what queue p p' (Succeeds rest) (late_success rest what) up up' rows st lost (record { reads = e; reply = refl }) first
    (ap (λ (o : Option Ask). with_ask o (late_success rest)) (asked-first s rows (record { client = k; what = what }) queue st first).own) (ups what) goes after)
  where
    ups : (w : full.Global) (x : Channel) → with_ups None (late_success rest w) x ≡ x
    ups (full.Forward key) x = cancel-none (bound key rest) x
    ups (full.Cancel key) x = refl
    ups full.KeepAlive x = refl
    ups full.OtherName x = refl

pub refusal-lost : (s new : CoreState) (k : ℕ) (what : full.Global) (queue : List Ask) (p p' : List ℕ) (up up' : QueueState) (rows : List Row) → CoreRepresents s rows → s.asks ≡ record { client = k; what = what } ∷ queue → is_lost_in s.clients k ≡ true → read_summary p ≡ Ok Refuses → up'.waiting ≡ up.waiting ++ joined (map frame_payload (late_refusal what)) → new ≡ client_settled (record s { asks = queue }) k → ReceivesAs new p p' up up' (heard.Lost k) rows (dest rows p)
refusal-lost s new k what queue p p' up up' rows st first lost e goes after =
    subst (ReceivesAs new p p' up up' (heard.Lost k) rows) (sym (refusal-to s k what queue p rows st first e))
    (passed s new k what queue p p' Refuses (late_refusal what) up up' rows st lost (record { reads = e; reply = refl }) first
    (ap (λ (o : Option Ask). with_ask o late_refusal) (asked-first s rows (record { client = k; what = what }) queue st first).own) (ups what) goes after)
  where
    ups : (w : full.Global) (x : Channel) → with_ups None (late_refusal w) x ≡ x
    ups (full.Forward key) x = refl
    ups (full.Cancel key) x = cancel-none key x
    ups full.KeepAlive x = refl
    ups full.OtherName x = refl

-- ---- as the code goes

first-asked : (s : CoreState) (k : ℕ) (ask : declared.Ask) (what : full.Global) → FirstAsked s.asks (Some (k, ask)) → what ≡ what_of ask → s.asks ≡ record { client = k; what = what } ∷ rest_of s.asks
first-asked s k ask what first same = some-asked s.asks k ask first ∙ ap (λ (w : full.Global). let a : Ask = record { client = k; what = w } in a ∷ rest_of s.asks) (sym same)

lost-then : (s mid : CoreState) (k : ℕ) (b : Bool) → mid ≡ record s { asks = rest_of s.asks } → is_lost_in mid.clients k ≡ b → is_lost_in s.clients k ≡ b
lost-then s mid k b is lost = ap (λ (u : CoreState). is_lost_in u.clients k) (sym is) ∙ lost

sent-then : (ps qs : List (List ℕ)) (up up' : QueueState) → up' ≡ with_payloads ps up → ps ≡ qs → up'.waiting ≡ up.waiting ++ joined (map frame_payload qs)
sent-then ps qs up up' is same = ap (λ (q : QueueState). q.waiting) is ∙ ap (λ xs. up.waiting ++ joined (map frame_payload xs)) same

pub refusal-late : (s mid new : CoreState) (k : ℕ) (ask : declared.Ask) (what : full.Global) (sent : List (List ℕ)) (p : List ℕ) (up up' : QueueState) (r : Result recorded.Delivery OutOfMemory) → FirstAsked s.asks (Some (k, ask)) → mid ≡ record s { asks = rest_of s.asks } → what ≡ what_of ask → is_lost_in mid.clients k ≡ true → sent ≡ late_refusal what
    → IfOk r (λ h. h ≡ heard.Lost k) → OnOk r (new ≡ client_settled mid k) → OnOk r (up' ≡ with_payloads sent up) → IfOk r (λ h. ReceivesWith s new p p Refuses up up' h)
refusal-late s mid new k ask what sent p up up' (Ok h) first is same lost says to after goes = λ rows st e.
    subst (λ x. ReceivesAs new p p up up' x rows (dest rows p)) (sym to)
    (refusal-lost s new k what (rest_of s.asks) p p up up' rows st (first-asked s k ask what first same) (lost-then s mid k true is lost) e (sent-then sent (late_refusal what) up up' goes says) (after ∙ ap (λ (u : CoreState). client_settled u k) is))
refusal-late s mid new k ask what sent p up up' (Err x) first is same lost says to after goes = to

pub success-late : (s mid new : CoreState) (k : ℕ) (ask : declared.Ask) (what : full.Global) (sent : List (List ℕ)) (p rest : List ℕ) (up up' : QueueState) (r : Result recorded.Delivery OutOfMemory) → FirstAsked s.asks (Some (k, ask)) → mid ≡ record s { asks = rest_of s.asks } → what ≡ what_of ask → misses_port what rest ≡ false → is_lost_in mid.clients k ≡ true → sent ≡ late_success rest what
    → IfOk r (λ h. h ≡ heard.Lost k) → OnOk r (new ≡ client_settled mid k) → OnOk r (up' ≡ with_payloads sent up) → IfOk r (λ h. ReceivesWith s new p p (Succeeds rest) up up' h)
success-late s mid new k ask what sent p rest up up' (Ok h) first is same good lost says to after goes = λ rows st e.
    subst (λ x. ReceivesAs new p p up up' x rows (dest rows p)) (sym to)
    (success-lost s new k what (rest_of s.asks) p p rest up up' rows st (first-asked s k ask what first same) good (lost-then s mid k true is lost) e (sent-then sent (late_success rest what) up up' goes says) (after ∙ ap (λ (u : CoreState). client_settled u k) is))
success-late s mid new k ask what sent p rest up up' (Err x) first is same good lost says to after goes = to

passed-on : (s mid m2 new : CoreState) (k : ℕ) (fs : List Forward) → mid ≡ record s { asks = rest_of s.asks } → m2 ≡ record mid { forwards = fs } → new ≡ record m2 { clients = with_waiting k after_reply m2.clients } → new ≡ record s { asks = rest_of s.asks; forwards = fs; clients = with_waiting k after_reply s.clients }
passed-on s mid m2 new k fs is then_ last =
    last ∙ ap (λ (u : CoreState). let v : CoreState = record u { clients = with_waiting k after_reply u.clients } in v) (then_ ∙ ap (λ (u : CoreState). let v : CoreState = record u { forwards = fs } in v) is)

same-clients : (s mid m2 : CoreState) (fs : List Forward) → mid ≡ record s { asks = rest_of s.asks } → m2 ≡ record mid { forwards = fs } → m2.clients ≡ s.clients
same-clients s mid m2 fs is then_ = ap (λ (u : CoreState). u.clients) then_ ∙ ap (λ (u : CoreState). u.clients) is

same-forwards : (s mid : CoreState) → mid ≡ record s { asks = rest_of s.asks } → mid.forwards ≡ s.forwards
same-forwards s mid is = ap (λ (u : CoreState). u.forwards) is

pub refusal-served : (s mid m2 new : CoreState) (k : ℕ) (ask : declared.Ask) (what : full.Global) (p : List ℕ) (up : QueueState) (h : recorded.Delivery) → FirstAsked s.asks (Some (k, ask)) → mid ≡ record s { asks = rest_of s.asks } → what ≡ what_of ask → is_lost_in mid.clients k ≡ false → m2 ≡ record mid { forwards = after_failure k what mid.forwards } → new ≡ record m2 { clients = with_waiting k after_reply m2.clients } → h ≡ heard.Client k (refusals_behind (member_waiting_of k m2.clients)) → ReceivesWith s new p p Refuses up up h
refusal-served s mid m2 new k ask what p up h first is same here then_ last to = λ rows st e.
    let fs = ap (after_failure k what) (same-forwards s mid is) in
    let then_s = then_ ∙ ap (λ (gs : List Forward). let v : CoreState = record mid { forwards = gs } in v) fs in
    subst (λ x. ReceivesAs new p p up up x rows (dest rows p)) (sym (to ∙ ap (λ cs. heard.Client k (refusals_behind (member_waiting_of k cs))) (same-clients s mid m2 (after_failure k what s.forwards) is then_s)))
    (refusal-given s new k what (rest_of s.asks) p up rows st (first-asked s k ask what first same) (lost-then s mid k false is here) e (passed-on s mid m2 new k (after_failure k what s.forwards) is then_s last))

pub success-served : (s mid m2 new : CoreState) (k : ℕ) (ask : declared.Ask) (what : full.Global) (p rest : List ℕ) (up : QueueState) (h : recorded.Delivery) → FirstAsked s.asks (Some (k, ask)) → mid ≡ record s { asks = rest_of s.asks } → what ≡ what_of ask → misses_port what rest ≡ false → is_lost_in mid.clients k ≡ false → m2 ≡ record mid { forwards = after_success k what rest mid.forwards } → new ≡ record m2 { clients = with_waiting k after_reply m2.clients } → h ≡ heard.Client k (refusals_behind (member_waiting_of k m2.clients)) → ReceivesWith s new p p (Succeeds rest) up up h
success-served s mid m2 new k ask what p rest up h first is same good here then_ last to = λ rows st e.
    let fs = ap (after_success k what rest) (same-forwards s mid is) in
    let then_s = then_ ∙ ap (λ (gs : List Forward). let v : CoreState = record mid { forwards = gs } in v) fs in
    subst (λ x. ReceivesAs new p p up up x rows (dest rows p)) (sym (to ∙ ap (λ cs. heard.Client k (refusals_behind (member_waiting_of k cs))) (same-clients s mid m2 (after_success k what rest s.forwards) is then_s)))
    (success-given s new k what (rest_of s.asks) p rest up rows st (first-asked s k ask what first same) good (lost-then s mid k false is here) e (passed-on s mid m2 new k (after_success k what rest s.forwards) is then_s last))

pub success-broken : (s mid : CoreState) (k : ℕ) (ask : declared.Ask) (what : full.Global) (p rest : List ℕ) (up : QueueState) → FirstAsked s.asks (Some (k, ask)) → what ≡ what_of ask → misses_port what rest ≡ true → ReceivesWith s mid p p (Succeeds rest) up up (heard.Broke (broke.BadReply (length rest)))
success-broken s mid k ask what p rest up first same bad = λ rows st e. success-bad s mid k what (rest_of s.asks) p p rest up rows st (first-asked s k ask what first same) bad e
