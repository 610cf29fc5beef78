-- A relay of the forwarder sends: what the history and the forwarder have after it.
use Rattle.std.proofs.Common.{◌≡◌, ◌≤◌, ◌<◌, ◌+◌, ◌^◌, ℕ, Bool, true, false, not, None, List, [], ◌∷◌, ◌++◌, refl, sym, ap, ◌∙◌, subst, arith, map, length, append-nil}
use Rattle.mux_outside.specs.declared.house.HouseReply.{HouseReply}
use Rattle.ssh_fields.specs.Fields.{AreBytes, u32}
use Rattle.ssh_fields.proofs.Fields.{AreBytes-behind}
use Rattle.ssh_grammar.specs.Frames.{frame_payload}
use Rattle.ssh_grammar.specs.Said.{InControl, Payload, parse}
use Rattle.mux_history.specs.declared.limits.TheConstants.{HOUSE}
use Rattle.mux_history.specs.Channels.{held_of}
use Rattle.mux_history.specs.Choices.{FromLists, pick_of}
use Rattle.mux_history.specs.Summary.{Answers, Carries, Closes, Confirmation, Ends, Fails, Grants, Open, Within, reading}
use Rattle.mux_history.specs.Journal.{new_sayings}
use Rattle.mux_history.specs.Kept.{AtEach}
use Rattle.mux_history.specs.Log.{bare_row, makes_next, more_all, new_answers, next_row, row_of}
use Rattle.mux_history.specs.Pending.{joined, pending, pending_down, waiting_down}
use Rattle.mux_history.specs.Policy.{Policy}
use Rattle.mux_history.specs.Requests.{is_reply, unanswered_asks, wanted_in}
use Rattle.mux_history.specs.Rows.{Goes, Item, Row, Says, is_run_over, is_out, rows_of}
use Rattle.mux_history.specs.Said.{Outcome, sent_payload}
use Rattle.mux_history.specs.Settings.{by_lists}
use Rattle.mux_history.proofs.Readings.{reading-ok}
use Rattle.house_relay.specs.declared.line.ChannelState.{ChannelState}
use Rattle.house_relay.specs.declared.line.ChannelState.TheVariants as line
use Rattle.house_relay.specs.declared.relay.Relay.{Relay}
use Rattle.house_relay.specs.declared.relay.Outgoing.{Outgoing}
use Rattle.house_relay.specs.declared.relay.Outgoing.TheVariants as outgoing
use Rattle.house_forward.specs.ForwardingState.{ForwardingState}
use Rattle.house_forward.specs.RelayTraces.{Trace, Life, SendsBy}
use Rattle.house_forward.specs.Said.{framed, payload_of}
use Rattle.house_forward.specs.declared.forwarder_state.ForwarderStage.{ForwarderStage}
use Rattle.house_forward.proofs.Sound.{Each as EachLife, Sound}
use Rattle.house_relay.specs.ChannelState.{ends}
use Rattle.house_history.proofs.Lists.{Each, each-of}
use Rattle.house_history.proofs.Views.{View}
use Rattle.house_history.proofs.Seen.{SentAs, SendsOffer, SendsOpen, Seen, note-in}
use Rattle.house_history.proofs.Speaking.{spoken, spoken-its}
use Rattle.house_history.proofs.Readings.{IsSmall, ReadsIn, ReadsLive, ReadsOffer, ReadsOpen, SmallIn, one-more, relay-payload, relay-reads}
use Rattle.house_history.proofs.Receiving.{GrantedOrProxy, IsSizedPayload, Recorded, Waits, none-left, waits-same}
use Rattle.house_history.proofs.RowsOf.{asks-go-on, asks_in, asks_some, no-answers, plain-row, plain_row}
use Rattle.house_history.proofs.AnswersOf.{atEach-down, atEach-here, no-reply-in, replies-in}
use Rattle.house_history.proofs.Going.{After, Going, IsOn, Phase, RightAt, SentSo, more-recorded, own-more, recorded-all, in-kept}
use Rattle.house_history.proofs.Speaks.{IsWindowed, says-row}

-- ---- the numbers of a life's line

-- the window of one that the server opened is uint32
abbrev pub WindowIn : ChannelState → Type 0
WindowIn (line.Dialing dialog) = Unit {0}
WindowIn (line.Asked host port version) = Unit {0}
WindowIn (line.Opened version) = Unit {0}
WindowIn (line.Offered remote window maximum) = window ≤ 4294967295
WindowIn (line.Live live) = Unit {0}
WindowIn line.Over = Unit {0}

abbrev pub SmallLife : Life → Type 0
SmallLife l = SmallIn l.relay.line × WindowIn l.relay.line

abbrev pub EachSmall : List Life → Type 0
EachSmall relay_traces = Each SmallLife relay_traces

windowed-open : (s : Outgoing) (was now : View) → SendsOpen s was now → IsWindowed was
windowed-open outgoing.Open was now does = λ s w m e. absurd (let none = does.0 in cc)
windowed-open outgoing.Confirmation was now does = absurd does
windowed-open outgoing.OpenFailure was now does = absurd does
windowed-open outgoing.Close was now does = absurd does
windowed-open outgoing.Failure was now does = absurd does
windowed-open (outgoing.Data n) was now does = absurd does
windowed-open outgoing.Eof was now does = absurd does
windowed-open (outgoing.Adjust n) was now does = absurd does

windowed-offer : (r w m : ℕ) (s : Outgoing) (was now : View) → w ≤ 4294967295 → SendsOffer r w m s was now → IsWindowed was
windowed-offer r w m outgoing.Open was now small does = absurd does
windowed-offer r w m outgoing.Confirmation was now small does = λ s w' m' e. let is = does.0 in let same : w ≡ w' = cc in subst (λ (n : ℕ). n ≤ 4294967295) same small
windowed-offer r w m outgoing.OpenFailure was now small does = λ s w' m' e. let is = does.0 in let same : w ≡ w' = cc in subst (λ (n : ℕ). n ≤ 4294967295) same small
windowed-offer r w m outgoing.Close was now small does = absurd does
windowed-offer r w m outgoing.Failure was now small does = absurd does
windowed-offer r w m (outgoing.Data n) was now small does = absurd does
windowed-offer r w m outgoing.Eof was now small does = absurd does
windowed-offer r w m (outgoing.Adjust n) was now small does = absurd does

windowed : (l : ChannelState) (s : Outgoing) (was now : View) → WindowIn l → SentAs l s was now → IsWindowed was
windowed (line.Dialing dialog) s was now small does = absurd does
windowed (line.Asked host port version) s was now small does = windowed-open s was now does
windowed (line.Opened version) s was now small does = absurd does
windowed (line.Offered remote window maximum) s was now small does = windowed-offer remote window maximum s was now small does
windowed (line.Live live) s was now small does = λ r w m e. absurd (let is = does.was in cc)
windowed line.Over s was now small does = absurd does

-- ---- it asks nothing

abbrev AsksNone : List ℕ → Type 0
AsksNone p = reading p wanted_in None ≡ None

none-open : (n : ℕ) (s : Outgoing) (p : List ℕ) → ReadsOpen n s p → AsksNone p
none-open n outgoing.Open p h = reading-ok p (Open _ n 2097152 32768) wanted_in None h.1
none-open n outgoing.Confirmation p h = absurd h
none-open n outgoing.OpenFailure p h = absurd h
none-open n outgoing.Close p h = absurd h
none-open n outgoing.Failure p h = absurd h
none-open n (outgoing.Data k) p h = absurd h
none-open n outgoing.Eof p h = absurd h
none-open n (outgoing.Adjust k) p h = absurd h

none-offer : (r n : ℕ) (s : Outgoing) (p : List ℕ) → ReadsOffer r n s p → AsksNone p
none-offer r n outgoing.Open p h = absurd h
none-offer r n outgoing.Confirmation p h = reading-ok p (Confirmation r n 2097152 32768) wanted_in None h
none-offer r n outgoing.OpenFailure p h = reading-ok p (Within r Fails) wanted_in None h
none-offer r n outgoing.Close p h = absurd h
none-offer r n outgoing.Failure p h = absurd h
none-offer r n (outgoing.Data k) p h = absurd h
none-offer r n outgoing.Eof p h = absurd h
none-offer r n (outgoing.Adjust k) p h = absurd h

none-live : (r : ℕ) (s : Outgoing) (p : List ℕ) → ReadsLive r s p → AsksNone p
none-live r outgoing.Open p h = absurd h
none-live r outgoing.Confirmation p h = absurd h
none-live r outgoing.OpenFailure p h = absurd h
none-live r outgoing.Close p h = reading-ok p (Within r Closes) wanted_in None h
none-live r outgoing.Failure p h = reading-ok p (Within r Answers) wanted_in None h
none-live r (outgoing.Data n) p h = reading-ok p (Within r (Carries n)) wanted_in None h
none-live r outgoing.Eof p h = reading-ok p (Within r Ends) wanted_in None h
none-live r (outgoing.Adjust n) p h = reading-ok p (Within r (Grants n)) wanted_in None h

asks-none : (l : ChannelState) (n : ℕ) (s : Outgoing) (p : List ℕ) → ReadsIn l n s p → AsksNone p
asks-none (line.Dialing dialog) n s p h = absurd h
asks-none (line.Asked host port version) n s p h = none-open n s p h
asks-none (line.Opened version) n s p h = absurd h
asks-none (line.Offered remote window maximum) n s p h = none-offer remote n s p h
asks-none (line.Live live) n s p h = none-live live.remote s p h
asks-none line.Over n s p h = absurd h

-- ---- the row

-- that client sends a payload
abbrev item-of : List ℕ → Item
item-of p = Says HOUSE (Payload p) None

said-one : (policy : Policy) (pid : ℕ) (picks : List ℕ) (given : List HouseReply) (rows : List Row) (p : List ℕ) → is_run_over rows ≡ false → is_out (rows_of HOUSE rows) ≡ false
    → more_all (by_lists policy pid picks given) rows (item-of p ∷ [])
    ≡ row_of (item-of p) HOUSE (sent_payload policy HOUSE (rows_of HOUSE rows) (pick_of (FromLists picks given) rows (item-of p)) p) (rows_of HOUSE rows) ∷ rows
said-one policy pid picks given rows p on inside =
    let setting = by_lists policy pid picks given in
    let makes : makes_next rows (item-of p) ≡ true =
    ap (λ (b : Bool). elim b as (λ _. Bool) [ true ↦ false | false ↦ not (is_out (rows_of HOUSE rows)) ]) on ∙ ap not inside in
    ap (λ (b : Bool). elim b as (λ _. List Row) [ false ↦ rows | true ↦ next_row setting rows (item-of p) ∷ rows ]) makes

frame-size : (q : List ℕ) → length (frame_payload q) ≡ length q + 5
frame-size q = omega arith

brief-recorded : (recorded : List (List ℕ)) → length recorded ≤ 1 → Each (λ (q : List ℕ). (1 ≤ length q) × (length q ≤ 200)) recorded → length (joined (map frame_payload recorded)) ≤ 205
brief-recorded [] few sized = omega arith
brief-recorded (q ∷ []) few sized =
    let size = ap length (append-nil (frame_payload q)) in
    let its = frame-size q in
    let small = sized.0.1 in
    omega (arith, size, its, small)
brief-recorded (q ∷ r ∷ recorded) few sized = absurd (omega (arith, few))

-- ---- the step

pub record RelaySent (more : List Row) (new : Trace) (bytes : List ℕ) : Type 0 where
  pub after : After more new
  pub greeted : new.forwarding_state.greeted ≡ true
  pub so : SentSo true bytes

-- all that the forwarder was sent is received
seen-all : (trace : Trace) (recorded : Recorded) (own : List Row) → Waits trace [] recorded → Seen (held_of own) trace.relay_traces (map note-in recorded.payloads) → Seen (held_of own) trace.relay_traces []
seen-all trace recorded own w s = subst (λ (ps : List (List ℕ)). Seen (held_of own) trace.relay_traces (map note-in ps)) (none-left trace recorded w).1 s

-- a row that goes on, and what it records
relay-goes : (rows : List Row) (trace new : Trace) (recorded : Recorded) (p : List ℕ) (o : Outcome) (tolds : List (List ℕ))
    → Going rows trace recorded → trace.forwarding_state.greeted ≡ true → Waits trace [] recorded → pending HOUSE rows ≡ [] → AsksNone p
    → o.ends ≡ Goes → o.recorded ≡ map frame_payload tolds → length tolds ≤ 1 → Each (λ (q : List ℕ). (1 ≤ length q) × (length q ≤ 200)) tolds → Each (λ (q : List ℕ). reading q is_reply false ≡ false) tolds
    → new.forwarding_state ≡ trace.forwarding_state → new.framer ≡ trace.framer → new.stage ≡ trace.stage
    → ((down : List (List ℕ)) → Seen (held_of (plain_row (item-of p) HOUSE o.sent down ∷ rows_of HOUSE rows)) new.relay_traces (map note-in tolds))
    → Going (row_of (item-of p) HOUSE o (rows_of HOUSE rows) ∷ rows) new (more-recorded recorded tolds)
relay-goes rows trace new recorded p o tolds g greets w empty asks ends frames few sized quiet forwarding_state framer stage seen =
    let own = rows_of HOUSE rows in
    let item = item-of p in
    let unanswered : new_answers (bare_row item HOUSE o) own ≡ [] = no-answers (bare_row item HOUSE o) own asks refl in
    let down : List (List ℕ) = o.recorded ++ new_answers (bare_row item HOUSE o) own in
    let are : down ≡ map frame_payload tolds = ap (λ (fs : List (List ℕ)). o.recorded ++ fs) unanswered ∙ (append-nil o.recorded ∙ frames) in
    let brief = brief-recorded tolds few sized in
    let size : length (joined down) ≡ length (joined (map frame_payload tolds)) = ap (λ (fs : List (List ℕ)). length (joined fs)) are in
    let waiting : waiting_down own ≡ 0 = ap length empty in
    let lost = in-kept own g.inside in
    let is : row_of item HOUSE o own ≡ plain_row item HOUSE o.sent down = plain-row item HOUSE o own ends refl lost (omega (arith, brief, size, waiting)) in
    let its : plain_row item HOUSE o.sent down ≡ plain_row item HOUSE o.sent (map frame_payload tolds) = ap (λ (fs : List (List ℕ)). plain_row item HOUSE o.sent fs) are in
    let row : Row = plain_row item HOUSE o.sent (map frame_payload tolds) in
    let same : rows_of HOUSE (row ∷ rows) ≡ row ∷ own = own-more row rows refl in
    let phase : GrantedOrProxy new.stage recorded = subst (λ (s : ForwarderStage). GrantedOrProxy s recorded) (sym stage) (subst (λ (b : Bool). Phase b trace.stage recorded own) greets g.phase) in
    let all = recorded-all new tolds (pending_down own) recorded (waits-same trace new (pending_down own) recorded framer stage g.waits) phase
    (each-of (λ (q : List ℕ). (1 ≤ length q) × (length q ≤ 200)) IsSizedPayload (λ q h. (h.0, let le = h.1 in omega (arith, le))) tolds sized) in
    let none : (recorded.answers ≡ []) × (recorded.payloads ≡ []) = none-left trace recorded w in
    let only : recorded.payloads ++ tolds ≡ tolds = ap (λ (ps : List (List ℕ)). ps ++ tolds) none.1 in
    let asked = asks-go-on row own in
    let no-more = ap length (no-answers row own asks refl) in
    let no-ask : asks_in row ≡ 0 = ap asks_some asks in
    let replies : replies-in (recorded.payloads ++ tolds) ≡ 0 = ap replies-in only ∙ no-reply-in tolds quiet in
    let before : replies-in recorded.payloads ≡ 0 = ap replies-in none.1 in
    let requests = g.requests in
    let length-same : length new.forwarding_state.requests ≡ length trace.forwarding_state.requests = ap (λ (d : ForwardingState). length d.requests) forwarding_state in
    let counts : length new.forwarding_state.requests ≡ unanswered_asks (row ∷ own) + replies-in (recorded.payloads ++ tolds) = omega (arith, asked, no-more, no-ask, replies, before, requests, length-same) in
    subst (λ (r : Row). Going (r ∷ rows) new (more-recorded recorded tolds)) (sym (is ∙ its)) (record {
      on = g.on;
      inside = ap is_out same ∙ g.inside;
      waits = subst (λ (rs : List Row). Waits new (pending_down rs) (more-recorded recorded tolds)) (sym same) all.0;
      seen = subst (λ (rs : List Row). Seen (held_of rs) new.relay_traces (map note-in (recorded.payloads ++ tolds))) (sym same)
          (subst (λ (ps : List (List ℕ)). Seen (held_of (row ∷ own)) new.relay_traces (map note-in ps)) (sym only) (seen (map frame_payload tolds)));
      requests = subst (λ (rs : List Row). length new.forwarding_state.requests ≡ unanswered_asks rs + replies-in (recorded.payloads ++ tolds)) (sym same) counts;
      phase = subst (λ (b : Bool). Phase b new.stage (more-recorded recorded tolds) (rows_of HOUSE (row ∷ rows))) (sym (ap (λ (d : ForwardingState). d.greeted) forwarding_state ∙ greets)) all.1;
    })

pub relay-step : (policy : Policy) (pid : ℕ) (picks : List ℕ) (given : List HouseReply) (rows : List Row) (trace new : Trace) (before bytes : List ℕ) (recorded : Recorded)
    → AtEach RightAt (more_all (by_lists policy pid picks given) rows (new_sayings HOUSE before (before ++ bytes)))
    → Going rows trace recorded → trace.forwarding_state.greeted ≡ true → pending HOUSE rows ≡ [] → AreBytes bytes → length bytes ≤ 65536 → SentSo true before
    → EachLife Sound trace.relay_traces → Each (λ (l : Life). l.relay.number < 2 ^ 32) trace.relay_traces → EachSmall trace.relay_traces → SendsBy true None bytes trace new
    → RelaySent (more_all (by_lists policy pid picks given) rows (new_sayings HOUSE before (before ++ bytes))) new (before ++ bytes)
relay-step policy pid picks given rows trace new before bytes recorded right g greets empty are fits so sound numbers small says =
    let setting = by_lists policy pid picks given in
    let own = rows_of HOUSE rows in
    let w : Waits trace [] recorded = subst (λ (b : List ℕ). Waits trace b recorded) empty g.waits in
    let none = none-left trace recorded w in
    let seen = seen-all trace recorded own w g.seen in
    let sp = spoken (held_of own) bytes trace new sound says seen in
    let p = payload_of sp.relay sp.said in
    let its-number = spoken-its (λ (r : Relay). r.number < 2 ^ 32) (held_of own) bytes trace new sound says seen numbers in
    let its-line = spoken-its (λ (r : Relay). SmallIn r.line × WindowIn r.line) (held_of own) bytes trace new sound says seen small in
    let is-small : IsSmall sp.relay = record { number = its-number; line = its-line.0 } in
    let framed-bytes : AreBytes (framed p) = subst AreBytes sp.spelled are in
    let framed-fits : length (framed p) ≤ 65536 = subst (λ (b : List ℕ). length b ≤ 65536) sp.spelled fits in
    let reads = relay-reads sp.relay sp.said sp.next is-small framed-bytes framed-fits in
    let some = relay-payload sp.relay sp.said sp.next is-small framed-bytes framed-fits in
    let p-bytes : AreBytes p = (AreBytes-behind (u32 (length p + 1)) (0 ∷ p) framed-bytes).1 in
    let one = one-more before p so.0 so.1 some framed-fits in
    let item = item-of p in
    let items : new_sayings HOUSE before (before ++ bytes) ≡ item ∷ [] = ap (λ (b : List ℕ). new_sayings HOUSE before (before ++ b)) sp.spelled ∙ one.items in
    let here : RightAt rows = atEach-here RightAt rows (atEach-down RightAt setting rows (new_sayings HOUSE before (before ++ bytes)) right) in
    let pick = pick_of (FromLists picks given) rows item in
    let o = sent_payload policy HOUSE own pick p in
    let row = says-row policy own pick p None sp.relay sp.said sp.was sp.now sp.front sp.behind p-bytes here.good here.mine its-number
    (windowed sp.relay.line sp.said sp.was sp.now its-line.1 sp.does) sp.does reads sp.fit in
    let asks = asks-none sp.relay.line sp.relay.number sp.said p reads in
    let went = says.2 in
    let on = relay-goes rows trace new recorded p o row.recorded g greets w empty asks row.ends row.frames row.few row.sized row.no_reply
    (ap (λ (c : Trace). c.forwarding_state) went) (ap (λ (c : Trace). c.framer) went) (ap (λ (c : Trace). c.stage) went)
    (λ down. sp.goes (held_of (plain_row item HOUSE o.sent down ∷ own)) (map note-in row.recorded) (row.later down)) in
    let rows-are : more_all setting rows (new_sayings HOUSE before (before ++ bytes)) ≡ row_of item HOUSE o own ∷ rows =
    ap (λ (is : List Item). more_all setting rows is) items ∙ said-one policy pid picks given rows p g.on g.inside in
    let mode = ap (λ (b : List ℕ). (parse InControl (before ++ b)).mode) sp.spelled ∙ one.mode in
    let rest = ap (λ (b : List ℕ). (parse InControl (before ++ b)).rest) sp.spelled ∙ one.rest in
    record {
      after = subst (λ (rs : List Row). After rs new) (sym rows-are) (IsOn (more-recorded recorded row.recorded) on);
      greeted = ap (λ (c : Trace). c.forwarding_state.greeted) went ∙ greets;
      so = (mode, rest);
    }
