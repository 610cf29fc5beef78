-- What a run of the program with a forwarder does for its relays and for requests.
use Rattle.std.proofs.Common.{◌≡◌, ◌∙◌, refl, sym, ap, subst, arith, ◌<◌, ◌≤◌, ◌+◌, ◌-◌, ◌*◌, ◌^◌, ℕ, Bool, true, false, length, length-append, length-drop, List, [], ◌∷◌, ◌++◌, append_assoc, Option, Some, None}
use Rattle.std.specs.Prelude.{IfSome}
use Rattle.std.specs.List.{All, cons_option, filter_map, sum_by}
use Rattle.std.proofs.lemmas.List.Elements.{All-append, All-cons, All-head, All-nil, All-tail, All-weaker}
use Rattle.mux_outside.specs.House.{HouseState, IsAtRest}
use Rattle.mux_outside.specs.HouseCalls.{Begins, HouseCall}
use Rattle.mux_outside.specs.declared.house.HouseReply.{HouseReply}
use Rattle.mux_outside.specs.declared.house_mark.HouseMark.{HouseMark}
use Rattle.mux_outside.specs.declared.mark.Mark.{Mark}
use Rattle.mux_outside.specs.declared.mark.Mark.TheVariants.{Waits}
use Rattle.mux_outside.specs.declared.own_streams.OwnStream.{OwnStream}
use Rattle.mux_outside.specs.declared.starts.Starts.{Starts}
use Rattle.mux_outside.specs.declared.turn.Want.TheVariants.{Read}
use Rattle.mux_history.specs.Log.{Setting}
use Rattle.mux_history.specs.Promises.{Throughout}
use Rattle.mux_history.specs.Right.{AreFresh}
use Rattle.mux_history.specs.Rows.{Row, is_lost, rows_of}
use Rattle.mux_history.specs.Settings.{by_lists}
use Rattle.mux_history.specs.declared.limits.TheConstants.{HOUSE}
use Rattle.mux_engine.specs.Called.{calls_in}
use Rattle.mux_engine.specs.Places.{IsOfOthers, listeners_in, own_in}
use Rattle.mux_engine.specs.Run.{Rested, RestedAt}
use Rattle.mux_engine.specs.Sides.{AtWaits, Knows}
use Rattle.house_relay.specs.Acts.{RelayAct, adjusted, delivered, dialog_replies, was_close_sent, accepted_length, taken_data, to_take}
use Rattle.house_relay.specs.Relay.{LineStands, OwesRight, RelayRepresents, SilentIn}
use Rattle.house_relay.specs.declared.line.ChannelState.{ChannelState}
use Rattle.house_relay.specs.declared.line.ChannelState.TheVariants.{Asked, Dialing, Live, Offered, Opened, Over}
use Rattle.house_relay.specs.declared.line.Live.{Live as LiveState}
use Rattle.house_relay.specs.declared.TheConstants.{WINDOW}
use Rattle.house_relay.specs.declared.relay.Relay.{Relay}
use Rattle.house_relay.proofs.Whole.{keeps, relays}
use Rattle.house_forward.specs.ForwarderEvents.{Begins as HasBegun, ForwarderEvent, Happen, Leave}
use Rattle.house_forward.specs.ForwardingState.{ForwardingState}
use Rattle.house_forward.specs.Known.{ordering_of}
use Rattle.house_forward.specs.Laws.{KeepsWindow, Rests}
use Rattle.house_forward.specs.Links.{own_stream_of, streams_of}
use Rattle.house_forward.specs.RelayTraces.{AreRelayTraces, HasLived, Held, Life, StandsSince, Trace, TraceReaches, first_trace, accepted_length_in}
use Rattle.house_forward.specs.Streaming.{IsOfStream}
use Rattle.house_forward.specs.Forwardings.{listeners_of}
use Rattle.mux_history.specs.Journal.{is_own_stream}
use Rattle.house_forward.specs.State.{held_in, house_state_of, known_in, quiet_in}
use Rattle.house_forward.specs.declared.forwarder_state.ForwarderState.{ForwarderState}
use Rattle.house_forward.specs.declared.link.Link.{Link}
use Rattle.house_forward.specs.declared.ordering.Ordering.{Ordering}
use Rattle.house_forward.specs.declared.ordering.Ordering.TheVariants.{Connect, Listen}
use Rattle.house_forward.proofs.Caused.{each-answer, each-served}
use Rattle.house_forward.proofs.Closing.{closes-have-cause}
use Rattle.house_forward.proofs.Confirming.{confirms-connected, refuses-unconnected}
use Rattle.house_forward.proofs.Connecting.{one-connect-each}
use Rattle.house_forward.proofs.Directing.{opens-go-right}
use Rattle.house_forward.proofs.Doing.{each-happens}
use Rattle.house_forward.proofs.Ending.{each-cancel, each-cancel-reply, each-unlisten}
use Rattle.house_forward.proofs.Greeting.{each-greets}
use Rattle.house_forward.proofs.Lived.{each-rests}
use Rattle.house_forward.proofs.Once.{each-is-recorded, each-was-joined, one-open-each}
use Rattle.house_forward.proofs.Owning.{channels-differ, streams-are-theirs, streams-differ}
use Rattle.house_forward.proofs.Quieting.{each-quiet}
use Rattle.house_forward.proofs.Refused.{each-refused}
use Rattle.house_forward.proofs.Resolving.{each-awaits}
use Rattle.house_forward.proofs.Sound.{All as AllLives, Each as EachLife, Sound, all-sound}
use Rattle.house_forward.proofs.Starting.{each-start}
use Rattle.house_forward.proofs.Streaming.{each-has-its-stream}
use Rattle.house_history.specs.Moments.{AtEachMoment, AtEachRead, ForwarderRun, HasMoments, IsMoment, calls_up_to}
use Rattle.house_history.specs.RunsRelay.{AnswersRight, CarriesAll, CarriesBytes, ConnectsRight, HasGrantedAll, HasItsSocket, IsOfSocket, RestsAt, RunsRelay, StaysInWindow, longest_own_queue, waiting_for, waiting_if}
use Rattle.ssh_mux.specs.Starts.{BegunRests}
use Rattle.house_history.proofs.Ends.{closes-channel}
use Rattle.house_history.proofs.Marked.{calls-more, open-in, socket-of, taken-first}
use Rattle.house_history.proofs.Received.{received-all, sent-all}
use Rattle.house_history.proofs.Marks.{house-stays}
use Rattle.house_history.proofs.Replies.{replies-short}
use Rattle.house_history.proofs.Runs.{leads-on}
use Rattle.house_history.proofs.Windows.{Ran, Windowed, ran-till, windows}
use Rattle.house_forward.specs.Numbers.{own_stream_number, open_streams}
use Rattle.std.proofs.lemmas.List.{length-map}
use Rattle.std.proofs.lemmas.List.Sums.{sum_by-cons}

-- ---- bytes

carries-of : (l : Life) → Sound l → CarriesBytes l
carries-of l s = record {
  sends = s.stands.sends;
  accepts = s.stands.delivers;
  grants = (relays l.dials l.acts l.relay s.stands).granted;
  last = s.stands.last;
  few = s.stands.few;
}

bound-by : (window replied came took room : ℕ) → room ≤ took - replied → came ≤ window + room
    → (replied + came) - took ≤ window + (replied - took)
bound-by window replied came took room granted kept = omega arith

-- what waits for a socket is bounded, by what its relay represents
bounded : (dials : Bool) (acts : List RelayAct) (r : Relay) → RelayRepresents dials acts r → KeepsWindow acts
    → length r.queue.waiting ≤ WINDOW + (length (dialog_replies dials acts) - accepted_length acts)
bounded dials acts r stands kept =
    let size : length r.queue.waiting ≡ (length (dialog_replies dials acts) + length (delivered acts)) - accepted_length acts =
    ap length (keeps dials acts r stands).waits
    ∙ length-drop (accepted_length acts) (to_take dials acts)
    ∙ ap (λ n. n - accepted_length acts) (length-append (dialog_replies dials acts) (delivered acts)) in
    subst (λ n. n ≤ WINDOW + (length (dialog_replies dials acts) - accepted_length acts)) (sym size)
    (bound-by WINDOW (length (dialog_replies dials acts)) (length (delivered acts)) (accepted_length acts) (adjusted acts)
    (relays dials acts r stands).granted kept)

all-of : (P : Life → Type 0) → ((l : Life) → Sound l → P l) → (ls : List Life) → EachLife Sound ls → All P ls
all-of P so [] each = All-nil P
all-of P so (l ∷ ls) each = All-cons P l ls (so l each.0) (all-of P so ls each.1)

-- of all relays that the calls leave, and of those of which nothing is left
all-there : (P : Life → Type 0) → ((l : Life) → Sound l → P l) → (calls : List HouseCall) (trace : Trace) → TraceReaches first_trace calls trace
    → All P (trace.relay_traces ++ trace.past)
all-there P so calls trace reached =
    let all = all-sound calls trace reached in
    All-append P trace.relay_traces trace.past (all-of P so trace.relay_traces all.relay_traces) (all-of P so trace.past all.past)

-- no more waits for its socket than it may
stays-of : (l : Life) → Sound l → Windowed l → StaysInWindow l
stays-of l s kept = record { delivers = kept; waits = bounded l.dials l.acts l.relay s.stands kept }

stays-each : (ls : List Life) → EachLife Sound ls → EachLife Windowed ls → All StaysInWindow ls
stays-each [] sounds kept = All-nil StaysInWindow
stays-each (l ∷ ls) sounds kept = All-cons StaysInWindow l ls (stays-of l sounds.0 kept.0) (stays-each ls sounds.1 kept.1)

-- nor for all of them

within-most : (window waits replied took : ℕ) → waits ≤ window + (replied - took) → replied ≤ 12 → waits ≤ window + 12
within-most window waits replied took fits short = omega (arith, fits, short)

waits-few : (l : Life) → StaysInWindow l → length l.relay.queue.waiting ≤ longest_own_queue
waits-few l s = within-most WINDOW (length l.relay.queue.waiting) (length (dialog_replies l.dials l.acts)) (accepted_length l.acts) s.waits (replies-short l.dials l.acts)

sum-few : (ls : List Life) → All StaysInWindow ls → sum_by waiting_for ls ≤ length (open_streams ls) * longest_own_queue
sum-few [] all = omega arith
sum-few (l ∷ ls) all =
    subst (λ n. n ≤ length (open_streams (l ∷ ls)) * longest_own_queue) (sym (sum_by-cons waiting_for l ls))
    (go l.own (sum-few ls (All-tail StaysInWindow l ls all)))
  where
    fits : length l.relay.queue.waiting ≤ longest_own_queue
    fits = waits-few l (All-head StaysInWindow l ls all)

    go : (o : Option OwnStream) → sum_by waiting_for ls ≤ length (open_streams ls) * longest_own_queue
        → waiting_if o (length l.relay.queue.waiting) + sum_by waiting_for ls ≤ length (cons_option (own_stream_number o) (open_streams ls)) * longest_own_queue
    go None rest = omega (arith, rest)
    go (Some own) rest = omega (arith, rest, fits)

-- ---- a run whose calls lead on

module _ (run : ForwarderRun) where
  sockets-of : (earlier : List Mark) (own : Option OwnStream) (acts : List RelayAct)
      → IfSome own (λ o. IsOfStream (calls_up_to run earlier) o.number acts)
      → IfSome own (λ o. is_own_stream o.number ≡ true → IsOfSocket earlier o.number acts)
  sockets-of earlier None acts of = tt
  sockets-of earlier (Some own) acts of = λ e. socket-of run.setting run.starts earlier own.number acts of e

  carries : AtEachMoment run (λ earlier trace. AllLives Windowed trace) → CarriesAll run
  carries windowed = record {
    relays = λ earlier trace moment. all-there CarriesBytes carries-of (calls_up_to run earlier) trace moment.reached;
    sockets = λ earlier trace moment.
        All-weaker (λ (l : Life). IfSome l.own (λ own. IsOfStream (calls_up_to run earlier) own.number l.acts)) (HasItsSocket earlier)
        (λ l of. sockets-of earlier l.own l.acts of) trace.relay_traces
        (each-has-its-stream (calls_up_to run earlier) trace moment.reached);
    bounded = λ earlier trace moment. (
        let kept = windowed earlier trace moment in
        let sounds = all-sound (calls_up_to run earlier) trace moment.reached in
        All-append StaysInWindow trace.relay_traces trace.past (stays-each trace.relay_traces sounds.relay_traces kept.relay_traces) (stays-each trace.past sounds.past kept.past)
        );
    bounded_in_all = λ earlier trace moment. (
        let kept = windowed earlier trace moment in
        let sounds = all-sound (calls_up_to run earlier) trace moment.reached in
        let is : length (open_streams trace.relay_traces) ≡ length (own_in earlier) =
        ap length (streams-are-theirs (calls_up_to run earlier) trace moment.reached ∙ sym (open-in run.setting earlier)) ∙ length-map (own_in earlier) (λ (own : OwnStream). own.number) in
        subst (λ n. sum_by waiting_for trace.relay_traces ≤ n * longest_own_queue) is
        (sum-few trace.relay_traces (stays-each trace.relay_traces sounds.relay_traces kept.relay_traces))
        );
    streams = λ earlier trace moment.
        streams-are-theirs (calls_up_to run earlier) trace moment.reached ∙ sym (open-in run.setting earlier);
    apart = λ earlier trace moment. streams-differ (calls_up_to run earlier) trace moment.reached;
    channels = λ earlier trace moment. channels-differ (calls_up_to run earlier) trace moment.reached;
  }

  connects : ConnectsRight run
  connects = record {
    recorded = λ earlier trace moment. each-is-recorded (calls_up_to run earlier) trace moment.reached;
    joined = λ earlier trace moment. each-was-joined (calls_up_to run earlier) trace moment.reached;
    once = λ earlier trace moment. one-open-each (calls_up_to run earlier) trace moment.reached;
    goes = λ bytes earlier old new marked. opens-go-right (calls_up_to run earlier) old new bytes marked.reached marked.follows;
    connects = λ earlier trace moment. one-connect-each (calls_up_to run earlier) trace moment.reached;
    confirms = λ bytes earlier old new marked. confirms-connected (calls_up_to run earlier) old new bytes marked.reached marked.follows;
    refuses = λ bytes earlier old new marked. refuses-unconnected (calls_up_to run earlier) old new bytes marked.reached marked.follows;
    closes = λ t number earlier old new marked. closes-have-cause (calls_up_to run earlier) old new t number marked.reached marked.follows;
    ends = λ bytes earlier old new marked. closes-channel (calls_up_to run earlier) old new bytes marked.reached marked.follows;
  }

  answers : AnswersRight run
  answers = record {
    happened = λ earlier trace moment. each-happens (calls_up_to run earlier) trace moment.reached;
    served = λ client id opening ask reply before old new event. each-served client id opening ask reply before old new event.left event.does;
    refused = λ client id opening ask before old new event. each-refused client id opening ask old new event.does;
    answered = λ client id reply before old new event. each-answer client id reply before old new event.left event.does;
    unlistens = λ l before old new event. each-unlisten l before old new event.left event.does;
    cancels = λ f before old new event. each-cancel f before old new event.left event.does;
    cancelled = λ success port serial before old new event. each-cancel-reply serial success port before old new event.left event.does;
    greets = λ earlier trace moment. each-greets (calls_up_to run earlier) trace moment.reached;
  }

-- ---- moments

record Front (calls more : List HouseCall) (old new : Trace) : Type 0 where
  middle : Trace
  first : TraceReaches old calls middle

front-of : (calls more : List HouseCall) (old new : Trace) → TraceReaches old (calls ++ more) new → Front calls more old new
front-of [] more old new reached = record { middle = old; first = refl }
front-of (one ∷ calls) more old new reached =
    let rest = front-of calls more reached.0 new reached.2 in
    record { middle = rest.middle; first = (reached.0, reached.1, rest.first) }

-- the calls of a whole run lead on, and so do those up to each moment
moments : (run : ForwarderRun) (trace : Trace) → TraceReaches first_trace (calls_up_to run run.journal) trace → HasMoments run
moments run trace reached later earlier are =
    let all = calls-more run.setting later earlier in
    let calls : calls_in run.setting run.journal ≡ calls_in run.setting earlier ++ all.more = ap (calls_in run.setting) are ∙ all.are in
    let front = front-of (calls_up_to run earlier) all.more first_trace trace
    (subst (λ (l : List HouseCall). TraceReaches first_trace (Begins run.starts ∷ l) trace) calls reached) in
    (front.middle, record { later = later; are = are; reached = front.first })

-- ---- at a wait

throughout-at : (P : List Mark → Mark → Type 0) (later : List Mark) (mark : Mark) (earlier : List Mark) → Throughout P (later ++ mark ∷ earlier) → P earlier mark
throughout-at P [] mark earlier all = all.0
throughout-at P (other ∷ later) mark earlier all = throughout-at P later mark earlier all.1

throughout-till : (P : List Mark → Mark → Type 0) (later earlier : List Mark) → Throughout P (later ++ earlier) → Throughout P earlier
throughout-till P [] earlier all = all
throughout-till P (other ∷ later) earlier all = throughout-till P later earlier all.1

-- a forwarder that awaits no number represents its calls itself
none-ordered : (o : Option Ordering) → ordering_of o ≡ None → o ≡ None
none-ordered None e = refl
none-ordered (Some (Listen host port)) e = cc
none-ordered (Some (Connect host port)) e = cc

lived-since : (o : Option Ordering) (calls : List HouseCall) (h : Held) → o ≡ None → StandsSince o calls h → accepted_length_in calls < 2 ^ 64 → HasLived calls h
lived-since None calls h none since small = subst (HasLived calls) (sym since.2) (since.1 small)
lived-since (Some ordering) calls h none since small = cc

-- a channel at rest owes no room
granted-in : (line : ChannelState) (live : LiveState) (dials : Bool) (acts : List RelayAct) (r : Relay) → line ≡ Live live → LineStands line dials acts → SilentIn line r
    → OwesRight line dials acts → was_close_sent acts ≡ false → adjusted acts ≡ taken_data dials acts
granted-in (Live now) live dials acts r e stands silent owes open-yet = owes open-yet (silent (stands.close_sent ∙ open-yet)).2
granted-in (Dialing dialog) live dials acts r e stands silent owes open-yet = cc
granted-in (Asked host port version) live dials acts r e stands silent owes open-yet = cc
granted-in (Opened version) live dials acts r e stands silent owes open-yet = cc
granted-in (Offered remote window maximum) live dials acts r e stands silent owes open-yet = cc
granted-in Over live dials acts r e stands silent owes open-yet = cc

granted-of : (l : Life) → Sound l → Rests l → HasGrantedAll l
granted-of l s rests live e open-yet =
    granted-in l.relay.line live l.dials l.acts l.relay e s.stands.line rests.silent (keeps l.dials l.acts l.relay s.stands).owes open-yet

granted-all : (ls : List Life) → EachLife Sound ls → All Rests ls → All HasGrantedAll ls
granted-all [] sounds rests = All-nil HasGrantedAll
granted-all (l ∷ ls) sounds rests =
    All-cons HasGrantedAll l ls (granted-of l sounds.0 (All-head Rests l ls rests)) (granted-all ls sounds.1 (All-tail Rests l ls rests))

-- its streams are those of its relays
own-of : (most : ℕ) (ls : List Life) (links : List Link) → AreRelayTraces most ls links → filter_map (λ (l : Life). l.own) ls ≡ streams_of links
own-of most [] [] are = refl
own-of most [] (link ∷ links) are = absurd are
own-of most (l ∷ ls) [] are = absurd are
own-of most (l ∷ ls) (link ∷ links) are =
    ap (λ (o : Option OwnStream). cons_option o (filter_map (λ (l : Life). l.own) ls)) are.0.own_is
    ∙ ap (λ (ss : List OwnStream). cons_option (own_stream_of link.stream) ss) (own-of most ls links are.1)

-- the forwardings of the start, by what happened since
record StartsWith (starts : Starts) (calls : List HouseCall) (trace : Trace) : Type 0 where
  later : List ForwarderEvent
  happen : Happen first_trace (Begins starts ∷ calls) (later ++ HasBegun starts ∷ []) trace
  leave : Leave (later ++ HasBegun starts ∷ []) trace.forwarding_state

starts-with : (starts : Starts) (calls : List HouseCall) (trace : Trace) → TraceReaches first_trace (Begins starts ∷ calls) trace → StartsWith starts calls trace
starts-with starts calls trace reached =
    let all = each-happens (Begins starts ∷ calls) trace reached in
    let happen = all.1 in
    let is : all.0 ≡ happen.2 ++ HasBegun starts ∷ [] = happen.6 ∙ ap (λ (l : List ForwarderEvent). happen.2 ++ l) happen.4 in
    record {
      later = happen.2;
      happen = subst (λ (l : List ForwarderEvent). Happen first_trace (Begins starts ∷ calls) l trace) is happen;
      leave = subst (λ (l : List ForwarderEvent). Leave l trace.forwarding_state) is all.2;
    }

-- at a wait at which more is read, a forwarder that represents its calls rests
rests-at : (run : ForwarderRun) (earlier : List Mark) (has : ForwarderState) (lived : HasLived (calls_up_to run earlier) (held_in has))
    → IsAtRest (quiet_in has) → Knows (known_in has) (listeners_in earlier) (own_in earlier) → RestsAt run earlier lived.trace
rests-at run earlier has lived quiet knows =
    let calls = calls_up_to run earlier in
    let rest = each-quiet calls (held_in has) lived quiet in
    let start = starts-with run.starts (calls_in run.setting earlier) lived.trace lived.reached in
    let events = start.later ++ HasBegun run.starts ∷ [] in
    let rests = each-rests calls (held_in has) lived (ap (λ q. q.says) quiet) (ap (λ q. q.orders) quiet) in
    record {
      streams = own-of _ lived.trace.relay_traces (held_in has).links lived.is.relay_traces ∙ knows.streams_are;
      listeners = ap (λ (d : ForwardingState). listeners_of d.all) lived.is.forwarding_state_is ∙ knows.listeners_are;
      relays = rests;
      granted = granted-all lived.trace.relay_traces (all-sound calls lived.trace lived.reached).relay_traces rests;
      requests = rest;
      awaits = each-awaits events lived.trace.forwarding_state start.leave rest;
      begun = λ i ask asked.
          (events, start.happen, each-start run.starts start.later lived.trace.forwarding_state start.leave rest i ask asked);
    }

-- ---- runs of the program

module _ {T : Type 0} (recorded : T → Option (List HouseMark)) (has : T → ForwarderState) (starts : Starts) (set : Setting) where
  abbrev state : T → HouseState
  state house = house_state_of (recorded house) (has house)

  abbrev rests : AtWaits
  rests = (BegunRests state true starts).rests

  at-wait : (before : Option (List HouseMark)) (journal : List Mark) → Rested rests set before journal → accepted_length_in (calls_in set journal) < 2 ^ 64
      → AtEachRead (record { setting = set; starts = starts; journal = journal }) (RestsAt (record { setting = set; starts = starts; journal = journal }))
  at-wait before journal rested small later earlier waiting streams shown are =
      let wait = Waits waiting Read streams shown in
      let run : ForwarderRun = record { setting = set; starts = starts; journal = journal } in
      let there : journal ≡ (later ++ wait ∷ []) ++ earlier = are ∙ sym (append_assoc later (wait ∷ []) earlier) in
      let first : accepted_length_in (calls_in set earlier) ≤ accepted_length_in (calls_in set journal) =
      subst (λ (j : List Mark). accepted_length_in (calls_in set earlier) ≤ accepted_length_in (calls_in set j)) (sym there) (taken-first set (later ++ wait ∷ []) earlier) in
      let at = throughout-at (RestedAt rests set before) later wait earlier (subst (Throughout (RestedAt rests set before)) are rested) refl in
      let house = has at.0 in
      let less : accepted_length_in (calls_in set earlier) < 2 ^ 64 = omega (arith, first, small) in
      let lived = lived-since house.ordering (calls_up_to run earlier) (held_in house) (none-ordered house.ordering at.1.3.none_awaited) at.1.2.since less in (
        lived.trace,
        record { later = later ++ wait ∷ []; are = there; reached = lived.reached },
        rests-at run earlier house lived (at.1.0.rests refl) at.1.3,
      )

pub runs-relay : {T : Type 0} (May : HouseReply → Type 0) (recorded : T → Option (List HouseMark)) (has : T → ForwarderState)
    (now : Option (List HouseMark)) (left : ForwarderState) → RunsRelay May (λ f. house_state_of (recorded f) (has f)) (house_state_of now left)
runs-relay {T} May recorded has now left starts policy pid turns before start seen refused answer run small =
    let set : Setting = by_lists policy pid run.choices.picks run.choices.replies in
    let of : ForwarderRun = record { setting = set; starts = starts; journal = run.wire.journal } in
    let windowed : AtEachMoment of (λ earlier trace. AllLives Windowed trace) = λ earlier trace moment. (
    let ran : Ran policy pid run.choices.picks run.choices.replies run.wire.journal = record {
      lawful = run.wire.of_wire.lawful;
      asked = run.wire.of_wire.asked;
      waits = run.marks.written.waits;
      speaks = run.marks.written.speaks;
      answered = run.marks.answered;
      others = run.wire.own_streams.others;
      after = run.marks.after_end;
      rows = run.log.rows;
      is_log = run.log.is_log;
      fresh = run.log.fresh;
    } in
    windows policy pid run.choices.picks run.choices.replies earlier starts trace
    (ran-till policy pid run.choices.picks run.choices.replies moment.later earlier (subst (Ran policy pid run.choices.picks run.choices.replies) moment.are ran)) moment.reached
    ) in
    let others-till : (earlier : List Mark) (trace : Trace) → IsMoment of earlier trace → Throughout IsOfOthers earlier =
    λ earlier trace moment. throughout-till IsOfOthers moment.later earlier (subst (Throughout IsOfOthers) moment.are run.wire.own_streams.others) in
    record {
      moments = λ ne. (
          let lead = leads-on left (Begins starts ∷ calls_in set run.wire.journal) (run.forwarder.handed ne (Begins starts ∷ []) refl) small in
          moments of lead.0 lead.1
          );
      carries = carries of windowed;
      speaks = record {
        sends = λ earlier trace moment. sent-all set earlier (others-till earlier trace moment);
        receives = λ earlier trace moment. received-all set earlier (others-till earlier trace moment);
      };
      connects = connects of;
      answers = answers of;
      rests = at-wait recorded has starts set before run.wire.journal run.forwarder.rested small;
      stays = λ ne. (
          let lead = leads-on left (Begins starts ∷ calls_in set run.wire.journal) (run.forwarder.handed ne (Begins starts ∷ []) refl) small in
          ap (λ (rows : List Row). is_lost (rows_of HOUSE rows)) (run.log.whole ne) ∙ house-stays policy pid run.choices.picks run.choices.replies run.wire.journal lead.0 record {
            lawful = run.wire.of_wire.lawful;
            asked = run.wire.of_wire.asked;
            waits = run.marks.written.waits;
            speaks = run.marks.written.speaks;
            answered = run.marks.answered;
            others = run.wire.own_streams.others;
            fresh = subst AreFresh (run.log.whole ne) run.log.fresh;
            starts = starts;
            reached = lead.1;
          }
          );
    }
