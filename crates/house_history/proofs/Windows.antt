-- No more data is delivered in a channel of the forwarder than a window and the room that was given
-- back, at each moment of a run: also after a row ended the connection.
use Rattle.std.proofs.Common.{◌≡◌, ◌≤◌, ◌+◌, ℕ, Bool, true, false, Option, Some, None, List, [], ◌∷◌, ◌++◌, refl, sym, ap, ◌∙◌, subst, arith, map, take, length, length-append, inl, inr}
use Rattle.std.specs.Prelude.{find, if◌then◌else◌, not, Result, Ok, Err}
use Rattle.std.proofs.lemmas.List.{map-append}
use Rattle.ssh_grammar.specs.Messages.{Message as Said}
use Rattle.ssh_grammar.specs.ReadMessage.{read_message as reading}
use Rattle.ssh_grammar.specs.declared.fault.Bad.{Bad}
use Rattle.conn_messages.specs.Message.{message_of}
use Rattle.conn_messages.specs.declared.message.Message.{Message}
use Rattle.conn_messages.specs.declared.message.Message.TheVariants as message
use Rattle.conn_messages.specs.declared.message.Opening.{Opening}
use Rattle.conn_messages.specs.declared.message.Opening.TheVariants as opens
use Rattle.conn_messages.specs.declared.key.Key.TheVariants as keys
use Rattle.mux_outside.specs.HouseCalls.{Begins, Got, End, Failed, Happening, HouseCall, Joined, Marks, Receives, Takes as TakesBytes, Turns, Writable}
use Rattle.mux_outside.specs.OwnStreams.{is_own}
use Rattle.mux_outside.specs.declared.house.HouseReply.{HouseReply}
use Rattle.mux_outside.specs.declared.house_mark.HouseMark.{HouseMark}
use Rattle.mux_outside.specs.declared.house_mark.HouseMark.TheVariants.{HouseIn, HouseSaid, HouseTook, HouseAsked, HouseAnswer, HouseOrder}
use Rattle.mux_outside.specs.declared.mark.Mark.{Mark}
use Rattle.mux_outside.specs.declared.mark.Mark.TheVariants as wire
use Rattle.mux_outside.specs.declared.order.Order.{Order}
use Rattle.mux_outside.specs.declared.order.Order.TheVariants as order
use Rattle.mux_outside.specs.declared.starts.Starts.{Starts}
use Rattle.mux_history.specs.Channels.{Channel, is_number}
use Rattle.mux_history.specs.Journal.{IsLawful, items_in, log_of_journal}
use Rattle.mux_history.specs.Log.{Setting, makes_next, more_all, more_of, next_row}
use Rattle.mux_history.specs.Pending.{pending}
use Rattle.mux_history.specs.Policy.{Policy}
use Rattle.mux_history.specs.Promises.{IsCut, SpeaksInTime, Throughout, WaitsAt}
use Rattle.mux_history.specs.Right.{AreFresh}
use Rattle.mux_history.specs.Rows.{Item, Row}
use Rattle.mux_history.specs.Settings.{by_lists}
use Rattle.mux_history.specs.Summary as summary
use Rattle.mux_history.specs.Wires.{ReadsWhenAsked}
use Rattle.mux_history.specs.declared.limits.TheConstants.{HOUSE}
use Rattle.mux_bounds.specs.Bounds.{IsLog}
use Rattle.mux_engine.specs.AfterEnd.{AfterEnd}
use Rattle.mux_engine.specs.Answers.{AnswersOpen}
use Rattle.mux_engine.specs.Called.{calls_at, calls_in, if_own}
use Rattle.mux_engine.specs.Places.{IsOfOthers}
use Rattle.house_relay.specs.Acts.{Confirms, Delivers, Other, Reads, ReceivesClose, ReceivesEof, Refuses, RelayAct, Takes, delivered}
use Rattle.house_relay.specs.Next.{sends_of}
use Rattle.house_relay.specs.Relay.{answered_in, delivers, delivers_in, received_if_live, sent_act}
use Rattle.house_relay.specs.declared.TheConstants.{WINDOW}
use Rattle.house_relay.specs.declared.line.ChannelState.{ChannelState}
use Rattle.house_relay.specs.declared.line.ChannelState.TheVariants.{Asked, Dialing, Live, Offered, Opened, Over}
use Rattle.house_relay.specs.declared.relay.Outgoing.{Outgoing}
use Rattle.house_relay.specs.declared.relay.Outgoing.TheVariants as outgoing
use Rattle.house_relay.specs.declared.relay.Relay.{Relay}
use Rattle.house_relay.specs.declared.relay.RelaySocket.{RelaySocket}
use Rattle.house_forward.specs.Forwardings.{has_request, served_at}
use Rattle.house_forward.specs.Going.{GetsOn, TakesOn, act_of_sending}
use Rattle.house_forward.specs.Heard.{act_received}
use Rattle.house_forward.specs.Laws.{KeepsWindow}
use Rattle.house_forward.specs.RelayTraces.{Follows, Life, Listens, MakesOne, MarksIn, OpensFor, OrdersInTrace, ReceivesMessage, ReceivesOpen, ReceivesReading, RelayGoesBy, RelayReceivesAt, SendsBy, Speaks, StepsBy, Trace, TraceReaches, TurnsTo, are_full, first_life_in, first_trace, has_channel, has_stream, has_words, made_life, relay_act_of, life_stepped, with_relay_traces}
use Rattle.house_forward.specs.declared.forwarding.Forwarding.{Forwarding}
use Rattle.house_forward.specs.declared.link.LinkStep.{LinkStep}
use Rattle.house_forward.specs.declared.link.LinkStep.TheVariants as step
use Rattle.house_forward.proofs.Owning.{channels-differ}
use Rattle.house_forward.proofs.Sound.{All, Each as EachLife, each-append as lives-append, each-back as lives-back, each-front as lives-front, each-kept, each-left, each-most, each-one, each-stepped}
use Rattle.house_history.proofs.Lists.{Each, each-behind, each-front}
use Rattle.house_history.proofs.Calm.{Distinct, distinct-of, heard-one, note-as, note-reads, seen-same, split}
use Rattle.house_history.proofs.Fitting.{Entry}
use Rattle.house_history.proofs.Going.{Still, still-of}
use Rattle.house_history.proofs.Marks.{Here, Inv, Past, Split, journeys, names-others, reach-split}
use Rattle.house_history.proofs.Notes.{BoundView, Does, Note, note-of}
use Rattle.house_history.proofs.ReceivedRows.{heard-row}
use Rattle.house_history.proofs.Receiving.{ReceivesAll, receives}
use Rattle.house_history.proofs.Remotes.{remotes-held}
use Rattle.house_history.proofs.Right.{right-held}
use Rattle.house_history.proofs.Seen.{AreViews, Seen, ViewOf, note-in}
use Rattle.house_history.proofs.Unasked.{trace-greets}
use Rattle.house_history.proofs.Views.{View}

-- no more was delivered in its channel than a window, and the room that was given back
abbrev pub Windowed : Life → Type 0
Windowed l = KeepsWindow l.acts

-- ---- one relay

none-delivered : KeepsWindow []
none-delivered = omega arith

by-act : (act : RelayAct) (a b : Life) → b.acts ≡ act ∷ a.acts → (KeepsWindow a.acts → KeepsWindow (act ∷ a.acts)) → Windowed a → Windowed b
by-act act a b is goes kept = subst KeepsWindow (sym is) (goes kept)

sent-window : (s : Outgoing) (r : Relay) (acts : List RelayAct) → KeepsWindow acts → KeepsWindow (sent_act s r ∷ acts)
sent-window outgoing.Open r acts kept = kept
sent-window outgoing.Confirmation r acts kept = kept
sent-window outgoing.OpenFailure r acts kept = kept
sent-window outgoing.Close r acts kept = kept
sent-window outgoing.Failure r acts kept = kept
sent-window (outgoing.Data n) r acts kept = kept
sent-window outgoing.Eof r acts kept = kept
sent-window (outgoing.Adjust n) r acts kept = omega (arith, kept)

sending-window : (o : Option Outgoing) (r : Relay) (acts : List RelayAct) → KeepsWindow acts → KeepsWindow (act_of_sending o r ∷ acts)
sending-window None r acts kept = kept
sending-window (Some s) r acts kept = sent-window s r acts kept

step-window : (s : LinkStep) (acts : List RelayAct) → KeepsWindow acts → KeepsWindow (relay_act_of s ∷ acts)
step-window (step.Pause b) acts kept = kept
step-window step.Finish acts kept = kept
step-window step.End acts kept = kept
step-window step.Close acts kept = kept
step-window step.Writable acts kept = kept
step-window step.Failed acts kept = kept

says-window : (bytes : List ℕ) (a b : Life) → Windowed a → has_words a ≡ true → Speaks bytes a b → Windowed b
says-window bytes a b kept is h = by-act (act_of_sending (sends_of a.relay) a.relay) a b h.1.acts (sending-window (sends_of a.relay) a.relay a.acts) kept

gets-window : (free : Bool) (t : ℕ) (bytes : List ℕ) (a b : Life) → Windowed a → has_stream t a ≡ true → RelayGoesBy (GetsOn free bytes) (Reads bytes) a b → Windowed b
gets-window free t bytes a b kept is h = by-act (Reads bytes) a b h.acts (λ k. k) kept

takes-window : (t : ℕ) (bytes : List ℕ) (a b : Life) → Windowed a → has_stream t a ≡ true → RelayGoesBy (TakesOn bytes) (Takes bytes) a b → Windowed b
takes-window t bytes a b kept is h = by-act (Takes bytes) a b h.acts (λ k. k) kept

-- ---- all of a trace

windows-left : (old new : Trace) (relay_traces : List Life) → new ≡ with_relay_traces relay_traces old → EachLife Windowed relay_traces → All Windowed old → All Windowed new
windows-left old new relay_traces e h all = subst (All Windowed) (sym e) (record {
  relay_traces = each-kept Windowed relay_traces h;
  past = lives-append Windowed old.past (first_life_in relay_traces) all.past (each-left Windowed relay_traces h);
})

-- the relays stay
windows-stay : (old new : Trace) → new.relay_traces ≡ old.relay_traces → new.past ≡ old.past → All Windowed old → All Windowed new
windows-stay old new e f all = record { relay_traces = subst (EachLife Windowed) (sym e) all.relay_traces; past = subst (EachLife Windowed) (sym f) all.past }

stay-by : (old new c : Trace) → new ≡ c → c.relay_traces ≡ old.relay_traces → c.past ≡ old.past → All Windowed old → All Windowed new
stay-by old new c is e f all = windows-stay old new (ap (λ (x : Trace). x.relay_traces) is ∙ e) (ap (λ (x : Trace). x.past) is ∙ f) all

-- ---- calls by which the forwarder is handed nothing as a client

abbrev pub HandsNone : HouseCall → Type 0
HandsNone (Receives bytes) = ⊥
HandsNone call = Unit {0}

windows-says : (b : Bool) (o : Option Forwarding) (bytes : List ℕ) (old new : Trace) → SendsBy b o bytes old new → All Windowed old → All Windowed new
windows-says false o bytes old new h all = stay-by old new _ h.1 refl refl all
windows-says true (Some f) bytes old new h all = stay-by old new _ h.1 refl refl all
windows-says true None bytes old new h all =
    windows-left old new h.0 h.2 (each-one Windowed has_words (Speaks bytes) old.relay_traces h.0 (says-window bytes) h.1 all.relay_traces) all

windows-stepped : (s : LinkStep) (t : ℕ) (ls : List Life) → EachLife Windowed ls → EachLife Windowed (map (life_stepped s t) ls)
windows-stepped s t ls all = each-stepped Windowed s t (λ a kept is. step-window s a.acts kept) ls all

windows-steps : (o : Order) (s : LinkStep) (t : ℕ) (old new : Trace) → StepsBy o s t old new → All Windowed old → All Windowed new
windows-steps o s t old new h all = windows-left old new (map (life_stepped s t) old.relay_traces) h.1 (windows-stepped s t old.relay_traces all.relay_traces) all

windows-makes : (host : List ℕ) (port : ℕ) (number : Option ℕ) (old new : Trace) → MakesOne host port number old new → All Windowed old → All Windowed new
windows-makes host port number old new h all =
    let were = subst (EachLife Windowed) h.were all.relay_traces in
    let front = lives-front Windowed h.before (h.life ∷ h.behind) were in
    let back = lives-back Windowed h.before (h.life ∷ h.behind) were in
    subst (All Windowed) (sym h.are) (record {
      relay_traces = lives-append Windowed (h.before ++ h.behind) (made_life number h.life ∷ []) (lives-append Windowed h.before h.behind front back.1) (back.0, tt);
      past = all.past;
    })

windows-orders : (o : Order) (number : Option ℕ) (old new : Trace) → OrdersInTrace o number old new → All Windowed old → All Windowed new
windows-orders (order.Listen host port) number old new h all = stay-by old new _ h.2 refl refl all
windows-orders (order.Connect host port) number old new h all = windows-makes host port number old new h all
windows-orders (order.Unlisten l) number old new h all = stay-by old new _ h.2 refl refl all
windows-orders (order.Pause t) number old new h all = windows-steps (order.Pause t) (step.Pause true) t old new h all
windows-orders (order.Resume t) number old new h all = windows-steps (order.Resume t) (step.Pause false) t old new h all
windows-orders (order.Finish t) number old new h all = windows-steps (order.Finish t) step.Finish t old new h all
windows-orders (order.Close t) number old new h all = windows-steps (order.Close t) step.Close t old new h all

windows-mark : (mark : HouseMark) (old new : Trace) → MarksIn mark old new → All Windowed old → All Windowed new
windows-mark HouseIn old new h all = stay-by old new old h refl refl all
windows-mark (HouseSaid bytes) old new h all = windows-says old.forwarding_state.greeted (find has_request old.forwarding_state.all) bytes old new h all
windows-mark (HouseTook size) old new h all = stay-by old new old h refl refl all
windows-mark (HouseAsked client id opening ask reply) old new h all = stay-by old new _ h.2 refl refl all
windows-mark (HouseAnswer client id reply) old new h all = stay-by old new _ h.2 refl refl all
windows-mark (HouseOrder o number) old new h all = windows-orders o number old new h all

windows-turn : (happening : Happening) (joins : ℕ) (fs : List Forwarding) (old new : List Life) → TurnsTo happening joins fs old new → EachLife Windowed old → EachLife Windowed new
windows-turn (Joined l t) joins fs old new h all = subst (EachLife Windowed) (sym h.more) (lives-append Windowed old _ all (none-delivered, tt))
windows-turn (Got t bytes) joins fs old new h all =
    each-most Windowed (has_stream t) (RelayGoesBy (GetsOn (not (are_full old)) bytes) (Reads bytes)) old new (gets-window (not (are_full old)) t bytes) h all
windows-turn (End t) joins fs old new h all = subst (EachLife Windowed) (sym h) (windows-stepped step.End t old all)
windows-turn (Writable t) joins fs old new h all = subst (EachLife Windowed) (sym h) (windows-stepped step.Writable t old all)
windows-turn (Failed t) joins fs old new h all = subst (EachLife Windowed) (sym h) (windows-stepped step.Failed t old all)

windows-call : (call : HouseCall) (old new : Trace) → HandsNone call → Follows call old new → All Windowed old → All Windowed new
windows-call (Begins starts) old new none h all = stay-by old new _ h.2 refl refl all
windows-call (Marks mark) old new none h all = windows-mark mark old new h all
windows-call (Receives bytes) old new none h all = absurd none
windows-call (Turns happening) old new none h all = subst (All Windowed) (sym h.2) (record {
  relay_traces = windows-turn happening old.joins old.forwarding_state.all old.relay_traces h.0 h.1 all.relay_traces;
  past = all.past;
})
windows-call (TakesBytes t bytes) old new none h all = subst (All Windowed) (sym h.2) (record {
  relay_traces = each-most Windowed (has_stream t) (RelayGoesBy (TakesOn bytes) (Takes bytes)) old.relay_traces h.0 (takes-window t bytes) h.1 all.relay_traces;
  past = all.past;
})

windows-calls : (calls : List HouseCall) (old new : Trace) → Each HandsNone calls → TraceReaches old calls new → All Windowed old → All Windowed new
windows-calls [] old new none h all = subst (All Windowed) (sym h) all
windows-calls (call ∷ calls) old new none h all = windows-calls calls h.0 new none.1 h.2 (windows-call call old h.0 none.0 h.1 all)

-- ---- what it is handed

-- a message that delivers no data
abbrev DeliversNone : Message → Type 0
DeliversNone m = (r : Relay) (acts : List RelayAct) → KeepsWindow acts → KeepsWindow (act_received m r ∷ acts)

answered-window : (line : ChannelState) (act : RelayAct) (acts : List RelayAct) → (KeepsWindow acts → KeepsWindow (act ∷ acts)) → KeepsWindow acts → KeepsWindow (answered_in line act ∷ acts)
answered-window (Dialing dialog) act acts goes kept = kept
answered-window (Asked host port version) act acts goes kept = kept
answered-window (Opened version) act acts goes kept = goes kept
answered-window (Offered remote window maximum) act acts goes kept = kept
answered-window (Live live) act acts goes kept = kept
answered-window Over act acts goes kept = kept

received-window : (line : ChannelState) (act : RelayAct) (acts : List RelayAct) → (KeepsWindow acts → KeepsWindow (act ∷ acts)) → KeepsWindow acts → KeepsWindow (received_if_live line act ∷ acts)
received-window (Dialing dialog) act acts goes kept = kept
received-window (Asked host port version) act acts goes kept = kept
received-window (Opened version) act acts goes kept = kept
received-window (Offered remote window maximum) act acts goes kept = kept
received-window (Live live) act acts goes kept = goes kept
received-window Over act acts goes kept = kept

listens-window : (n : ℕ) (m : Message) → DeliversNone m → (a b : Life) → Windowed a → has_channel n a ≡ true → Listens m a b → Windowed b
listens-window n m none a b kept is h = by-act (act_received m a.relay) a b h.acts (none a.relay a.acts) kept

windows-at : (n : ℕ) (m : Message) (old new : Trace) → DeliversNone m → RelayReceivesAt n m old new → All Windowed old → All Windowed new
windows-at n m old new none (inl h) all =
    windows-left old new h.0 h.2 (each-one Windowed (has_channel n) (Listens m) old.relay_traces h.0 (listens-window n m none) h.1 all.relay_traces) all
windows-at n m old new none (inr h) all = stay-by old new old h.1 refl refl all

-- data that is no breach of its channel
data-window : (line : ChannelState) (s : RelaySocket) (bytes : List ℕ) (acts : List RelayAct) (v : View) → BoundView (summary.Carries (length bytes)) v → ViewOf line acts v → KeepsWindow acts
    → KeepsWindow ((if delivers_in line s then Delivers bytes else Other) ∷ acts)
data-window (Dialing dialog) s bytes acts v bound i kept = kept
data-window (Asked host port version) s bytes acts v bound i kept = kept
data-window (Opened version) s bytes acts v bound i kept = kept
data-window (Offered remote window maximum) s bytes acts v bound i kept = kept
data-window (Live live) s bytes acts v bound i kept = go (delivers_in (Live live) s)
  where
    its : i.0.came + length bytes ≤ 2097152 + i.0.given
    its = subst (λ (x : View). BoundView (summary.Carries (length bytes)) x) i.1 bound

    go : (b : Bool) → KeepsWindow ((if b then Delivers bytes else Other) ∷ acts)
    go true =
        let sum : length (delivered acts ++ bytes) ≡ length (delivered acts) + length bytes = length-append (delivered acts) bytes in
        let came = i.2.came in
        let given = i.2.given in
        let window : WINDOW ≡ 2097152 = refl in
        omega (arith, sum, came, given, window, its)
    go false = kept
data-window Over s bytes acts v bound i kept = kept

windows-data : (hs : List Channel) (notes : List Note) (n : ℕ) (bytes : List ℕ) (m : Message) → ((r : Relay) → act_received m r ≡ (if delivers r then Delivers bytes else Other)) → (old new : Trace)
    → RelayReceivesAt n m old new → Seen hs old.relay_traces (Does n (summary.Carries (length bytes)) ∷ notes) → All Windowed old → All Windowed new
windows-data hs notes n bytes m act old new (inl h) s all =
    let one = h.1 in
    let test = λ (e : Entry). is_number e.0 n ≡ true → BoundView (summary.Carries (length bytes)) e.1 in
    let w = split one.before one.life one.behind s.entries (subst (λ (ls : List Life). AreViews ls s.entries) one.were s.views) in
    let e = w.entry in
    let is : is_number e.0 n ≡ true = ap (λ (o : Option ℕ). is_number o n) w.is.number ∙ one.is in
    let its : BoundView (summary.Carries (length bytes)) e.1 = (each-behind test w.front (e ∷ w.back) (subst (Each test) w.are (each-front test s.entries s.orphans s.later.0))).0 is in
    let were = subst (EachLife Windowed) one.were all.relay_traces in
    let back = lives-back Windowed one.before (one.life ∷ one.behind) were in
    let next : Windowed one.next = subst KeepsWindow (sym (one.goes.acts ∙ ap (λ (a : RelayAct). a ∷ one.life.acts) (act one.life.relay)))
    (data-window one.life.relay.line one.life.relay.socket bytes one.life.acts e.1 its w.is.view back.0) in
    windows-left old new h.0 h.2
    (subst (EachLife Windowed) (sym one.are) (lives-append Windowed one.before (one.next ∷ one.behind) (lives-front Windowed one.before (one.life ∷ one.behind) were) (next, back.1))) all
windows-data hs notes n bytes m act old new (inr h) s all = stay-by old new old h.1 refl refl all

windows-offers : (o : Option Forwarding) (s w m : ℕ) (old new : Trace) → OpensFor o s w m old new → All Windowed old → All Windowed new
windows-offers None s w m old new h all = stay-by old new old h refl refl all
windows-offers (Some f) s w m old new h all = subst (All Windowed) (sym h.more) (record {
  relay_traces = lives-append Windowed old.relay_traces _ all.relay_traces (none-delivered, tt);
  past = all.past;
})

windows-open : (what : Opening) (s w m : ℕ) (old new : Trace) → ReceivesOpen what s w m old new → All Windowed old → All Windowed new
windows-open (opens.Forwarded (keys.Tcp address port)) s w m old new h all = windows-offers (find (served_at address.now port) old.forwarding_state.all) s w m old new h all
windows-open (opens.Forwarded (keys.Path path)) s w m old new h all = stay-by old new old h refl refl all
windows-open opens.Session s w m old new h all = stay-by old new old h refl refl all
windows-open (opens.Direct key) s w m old new h all = stay-by old new old h refl refl all
windows-open opens.Other s w m old new h all = stay-by old new old h refl refl all

windows-message : (hs : List Channel) (notes : List Note) (m : Message) (old new : Trace) → ReceivesMessage m old new → Seen hs old.relay_traces (note-of (summary.summary (message_of m)) ∷ notes) → All Windowed old → All Windowed new
windows-message hs notes (message.Transport number rest) old new h s all = stay-by old new old h refl refl all
windows-message hs notes (message.GlobalRequest name want rest what) old new h s all = stay-by old new old h refl refl all
windows-message hs notes (message.RequestSuccess rest) old new h s all = stay-by old new _ h refl refl all
windows-message hs notes message.RequestFailure old new h s all = stay-by old new _ h refl refl all
windows-message hs notes (message.Open kind sender window maximum rest what) old new h s all = windows-open what sender window maximum old new h all
windows-message hs notes (message.Confirmation recipient sender window maximum rest) old new h s all =
    windows-at recipient (message.Confirmation recipient sender window maximum rest) old new (λ r acts kept. answered-window r.line Confirms acts (λ k. k) kept) h all
windows-message hs notes (message.OpenFailure recipient reason text language) old new h s all =
    windows-at recipient (message.OpenFailure recipient reason text language) old new (λ r acts kept. answered-window r.line (Refuses reason) acts (λ k. k) kept) h all
windows-message hs notes (message.Adjust recipient add) old new h s all = windows-at recipient (message.Adjust recipient add) old new (λ r acts kept. kept) h all
windows-message hs notes (message.Data recipient bytes) old new h s all = windows-data hs notes recipient bytes.now (message.Data recipient bytes) (λ r. refl) old new h s all
windows-message hs notes (message.Extended recipient code bytes) old new h s all = windows-at recipient (message.Extended recipient code bytes) old new (λ r acts kept. kept) h all
windows-message hs notes (message.Eof recipient) old new h s all =
    windows-at recipient (message.Eof recipient) old new (λ r acts kept. received-window r.line ReceivesEof acts (λ k. k) kept) h all
windows-message hs notes (message.Close recipient) old new h s all =
    windows-at recipient (message.Close recipient) old new (λ r acts kept. received-window r.line ReceivesClose acts (λ k. k) kept) h all
windows-message hs notes (message.Request recipient kind want rest) old new h s all = windows-at recipient (message.Request recipient kind want rest) old new (λ r acts kept. kept) h all
windows-message hs notes (message.Success recipient) old new h s all = windows-at recipient (message.Success recipient) old new (λ r acts kept. kept) h all
windows-message hs notes (message.Failure recipient) old new h s all = windows-at recipient (message.Failure recipient) old new (λ r acts kept. kept) h all

windows-as : (hs : List Channel) (notes : List Note) (r : Result Said Bad) (old new : Trace) → ReceivesReading r old new → Seen hs old.relay_traces (note-as r ∷ notes) → All Windowed old → All Windowed new
windows-as hs notes (Err bad) old new h s all = stay-by old new old h refl refl all
windows-as hs notes (Ok said) old new h s all =
    windows-message hs notes h.0 old new h.2 (subst (λ (x : Said). Seen hs old.relay_traces (note-of (summary.summary x) ∷ notes)) (sym h.1) s) all

windows-one : (hs : List Channel) (notes : List Note) (p : List ℕ) (old new : Trace) → ReceivesReading (reading p) old new → Seen hs old.relay_traces (note-in p ∷ notes) → All Windowed old → All Windowed new
windows-one hs notes p old new h s all = windows-as hs notes (reading p) old new h (subst (λ (n : Note). Seen hs old.relay_traces (n ∷ notes)) (note-reads p) s) all

-- all of it, one payload after the other
windows-all : (hs : List Channel) (notes : List Note) (ps : List (List ℕ)) (old new : Trace) → Distinct old.relay_traces → ReceivesAll ps old new → Seen hs old.relay_traces (map note-in ps ++ notes)
    → All Windowed old → All Windowed new
windows-all hs notes [] old new d h s all = windows-stay old new h.relay_traces h.past all
windows-all hs notes (p ∷ ps) old new d h s all =
    let more = map note-in ps ++ notes in
    let seen : Seen hs h.0.relay_traces (note-in p ∷ more) = seen-same hs (note-in p ∷ more) old h.0 h.2.relay_traces s in
    let one = heard-one hs more p h.0 h.1 (subst Distinct (sym h.2.relay_traces) d) h.3 seen in
    let first : All Windowed h.1 = windows-one hs more p h.0 h.1 h.3 seen (windows-stay old h.0 h.2.relay_traces h.2.past all) in
    windows-all hs notes ps h.1 new one.1 h.4 one.0 first

-- what it accepts of what waits for it
windows-received : (rows : List Row) (trace new : Trace) (n : ℕ) → Distinct trace.relay_traces → Still rows trace → Follows (Receives (take n (pending HOUSE rows))) trace new → All Windowed trace → All Windowed new
windows-received rows trace new n apart s follows all =
    let h = receives trace new n (pending HOUSE rows) s.recorded s.waits follows in
    let split : map note-in s.recorded.payloads ≡ map note-in h.heard ++ map note-in h.left.payloads = ap (map note-in) h.split ∙ map-append note-in h.heard h.left.payloads in
    windows-all s.channels (map note-in h.left.payloads) h.heard trace new apart h.goes (subst (λ notes. Seen s.channels trace.relay_traces notes) split s.seen) all

if-none : (t : ℕ) (one : HouseCall) → HandsNone one → Each HandsNone (if_own t one)
if-none t one none = go (is_own t)
  where
    go : (b : Bool) → Each HandsNone (if b then one ∷ [] else [])
    go true = (none, tt)
    go false = tt

-- ---- a journal of a run

module _ (policy : Policy) (pid : ℕ) (picks : List ℕ) (given : List HouseReply) where
  abbrev setting : Setting
  setting = by_lists policy pid picks given

  -- what is known of it: its log, of which some rows of the last mark may be cut, is fresh
  pub record Ran (journal : List Mark) : Type 0 where
    pub lawful : IsLawful journal
    pub asked : Throughout ReadsWhenAsked journal
    pub waits : Throughout (WaitsAt setting) journal
    pub speaks : Throughout (SpeaksInTime setting) journal
    pub answered : Throughout (AnswersOpen setting) journal
    pub others : Throughout IsOfOthers journal
    pub after : Throughout (AfterEnd setting) journal
    pub rows : List Row
    pub is_log : IsLog setting journal rows
    pub fresh : AreFresh rows

  -- ---- fewer rows

  fresh-one : (rows : List Row) (item : Item) → AreFresh (more_of setting rows item) → AreFresh rows
  fresh-one rows item fresh = go (makes_next rows item) fresh
    where
      go : (b : Bool) → AreFresh (elim b as (λ _. List Row) [ false ↦ rows | true ↦ next_row setting rows item ∷ rows ]) → AreFresh rows
      go false fresh = fresh
      go true fresh = fresh.1

  fresh-down : (rows : List Row) (items : List Item) → AreFresh (more_all setting rows items) → AreFresh rows
  fresh-down rows [] fresh = fresh
  fresh-down rows (item ∷ items) fresh = fresh-one rows item (fresh-down (more_of setting rows item) items fresh)

  record Earlier (before : List Mark) : Type 0 where
    rows : List Row
    is_log : IsLog setting before rows
    fresh : AreFresh rows

  earlier-whole : (before : List Mark) → AreFresh (log_of_journal setting before) → Earlier before
  earlier-whole before fresh = record { rows = log_of_journal setting before; is_log = inl refl; fresh = fresh }

  cut-fresh : (before : List Mark) (items : List Item) (rows : List Row) → (n : ℕ) × (rows ≡ more_all setting (log_of_journal setting before) (take n items)) → AreFresh rows → AreFresh (log_of_journal setting before)
  cut-fresh before items rows cut fresh = fresh-down (log_of_journal setting before) (take cut.0 items) (subst AreFresh cut.1 fresh)

  whole-fresh : (mark : Mark) (before : List Mark) (rows : List Row) → rows ≡ log_of_journal setting (mark ∷ before) → AreFresh rows → AreFresh (log_of_journal setting before)
  whole-fresh mark before rows is fresh = fresh-down (log_of_journal setting before) (items_in before mark) (subst AreFresh is fresh)

  earlier-house : (mark : HouseMark) (before : List Mark) (rows : List Row) → IsCut setting (wire.House mark ∷ before) rows → AreFresh rows → Earlier before
  earlier-house (HouseAsked client id opening ask reply) before rows cut fresh = record { rows = rows; is_log = inr cut; fresh = fresh }
  earlier-house mark before rows cut fresh = earlier-whole before (cut-fresh before _ rows cut fresh)

  earlier-cut : (mark : Mark) (before : List Mark) (rows : List Row) → IsCut setting (mark ∷ before) rows → AreFresh rows → Earlier before
  earlier-cut (wire.House mark) before rows cut fresh = earlier-house mark before rows cut fresh
  earlier-cut mark before rows cut fresh = earlier-whole before (cut-fresh before _ rows cut fresh)

  earlier : (mark : Mark) (before : List Mark) (rows : List Row) → IsLog setting (mark ∷ before) rows → AreFresh rows → Earlier before
  earlier mark before rows (inl is) fresh = earlier-whole before (whole-fresh mark before rows is fresh)
  earlier mark before rows (inr cut) fresh = earlier-cut mark before rows cut fresh

  took-fresh : (size : ℕ) (before : List Mark) (rows : List Row) → IsLog setting (wire.House (HouseTook size) ∷ before) rows → AreFresh rows → AreFresh (log_of_journal setting before)
  took-fresh size before rows (inl is) fresh = whole-fresh (wire.House (HouseTook size)) before rows is fresh
  took-fresh size before rows (inr cut) fresh = cut-fresh before _ rows cut fresh

  pub ran-before : (mark : Mark) (before : List Mark) → Ran (mark ∷ before) → Ran before
  ran-before mark before r =
      let e = earlier mark before r.rows r.is_log r.fresh in
      record {
        lawful = r.lawful.1;
        asked = r.asked.1;
        waits = r.waits.1;
        speaks = r.speaks.1;
        answered = r.answered.1;
        others = r.others.1;
        after = r.after.1;
        rows = e.rows;
        is_log = e.is_log;
        fresh = e.fresh;
      }

  -- ---- mark by mark

  still-there : (before : List Mark) (trace : Trace) → Throughout (AfterEnd setting) before → Inv setting before trace → Still (log_of_journal setting before) trace
  still-there before trace after (Past ended kept still) = still after
  still-there before trace after (Here recorded g said) = still-of (log_of_journal setting before) trace recorded g

  -- it accepts some of what waits for it
  took-windows : (before : List Mark) (size : ℕ) (starts : Starts) (trace : Trace) → Ran (wire.House (HouseTook size) ∷ before)
      → (h : Split (Begins starts ∷ calls_in setting before) (calls_at setting before (wire.House (HouseTook size))) first_trace trace) → All Windowed h.middle → All Windowed trace
  took-windows before size starts trace r h all =
      let calls = Begins starts ∷ calls_in setting before in
      let rows = log_of_journal setting before in
      let fresh = took-fresh size before r.rows r.is_log r.fresh in
      let inv : Inv setting before h.middle = journeys policy pid picks given (heard-row policy pid) before h.middle (record {
        lawful = r.lawful.1;
        asked = r.asked.1;
        waits = r.waits.1;
        speaks = r.speaks.1;
        others = names-others policy pid picks given before r.others.1 r.answered.1 (trace-greets calls first_trace h.middle refl h.first);
        right = right-held policy pid picks given before r.lawful.1 fresh;
        small = remotes-held policy pid picks given before r.lawful.1 fresh;
        within = r.lawful.0;
        starts = starts;
        reached = h.first;
      }) in
      let follows : Follows (Receives (take size (pending HOUSE rows))) h.middle trace = subst (λ (c : Trace). Follows (Receives (take size (pending HOUSE rows))) h.middle c) (sym h.rest.2) h.rest.1 in
      windows-received rows h.middle trace size (distinct-of h.middle.relay_traces (channels-differ calls h.middle h.first)) (still-there before h.middle r.after.1 inv) follows all

  -- the other marks hand nothing to it
  quiet-windows : (before : List Mark) (mark : Mark) (starts : Starts) (trace : Trace) → Each HandsNone (calls_at setting before mark)
      → (h : Split (Begins starts ∷ calls_in setting before) (calls_at setting before mark) first_trace trace) → All Windowed h.middle → All Windowed trace
  quiet-windows before mark starts trace none h all = windows-calls (calls_at setting before mark) h.middle trace none h.rest all

  mark-windows : (before : List Mark) (mark : Mark) (starts : Starts) (trace : Trace) → Ran (mark ∷ before)
      → (h : Split (Begins starts ∷ calls_in setting before) (calls_at setting before mark) first_trace trace) → All Windowed h.middle → All Windowed trace
  mark-windows before (wire.House HouseIn) starts trace r h all = quiet-windows before (wire.House HouseIn) starts trace tt h all
  mark-windows before (wire.House (HouseSaid bytes)) starts trace r h all = quiet-windows before (wire.House (HouseSaid bytes)) starts trace (tt, tt) h all
  mark-windows before (wire.House (HouseTook size)) starts trace r h all = took-windows before size starts trace r h all
  mark-windows before (wire.House (HouseAsked client id opening ask reply)) starts trace r h all = quiet-windows before (wire.House (HouseAsked client id opening ask reply)) starts trace (tt, tt) h all
  mark-windows before (wire.House (HouseAnswer client id reply)) starts trace r h all = quiet-windows before (wire.House (HouseAnswer client id reply)) starts trace (tt, tt) h all
  mark-windows before (wire.House (HouseOrder o number)) starts trace r h all = quiet-windows before (wire.House (HouseOrder o number)) starts trace (tt, tt) h all
  mark-windows before (wire.Waits waiting want streams shown) starts trace r h all = quiet-windows before (wire.Waits waiting want streams shown) starts trace tt h all
  mark-windows before (wire.Accepts k) starts trace r h all = quiet-windows before (wire.Accepts k) starts trace tt h all
  mark-windows before (wire.Gets t bytes) starts trace r h all = quiet-windows before (wire.Gets t bytes) starts trace (if-none t (Turns (Got t bytes)) tt) h all
  mark-windows before (wire.Ends t) starts trace r h all = quiet-windows before (wire.Ends t) starts trace (if-none t (Turns (End t)) tt) h all
  mark-windows before (wire.Frees t) starts trace r h all = quiet-windows before (wire.Frees t) starts trace (if-none t (Turns (Writable t)) tt) h all
  mark-windows before (wire.Fails t) starts trace r h all = quiet-windows before (wire.Fails t) starts trace (if-none t (Turns (Failed t)) tt) h all
  mark-windows before (wire.Takes t bytes accepts) starts trace r h all = quiet-windows before (wire.Takes t bytes accepts) starts trace (if-none t (TakesBytes t bytes) tt) h all
  mark-windows before (wire.Holds t) starts trace r h all = quiet-windows before (wire.Holds t) starts trace tt h all
  mark-windows before (wire.WriteFails t) starts trace r h all = quiet-windows before (wire.WriteFails t) starts trace (if-none t (Turns (Failed t)) tt) h all
  mark-windows before (wire.Joins l t) starts trace r h all = quiet-windows before (wire.Joins l t) starts trace (tt, tt) h all

  pub windows : (journal : List Mark) (starts : Starts) (trace : Trace) → Ran journal → TraceReaches first_trace (Begins starts ∷ calls_in setting journal) trace → All Windowed trace
  windows [] starts trace r reached = windows-calls (Begins starts ∷ []) first_trace trace (tt, tt) reached (record { relay_traces = tt; past = tt })
  windows (mark ∷ before) starts trace r reached =
      let h = reach-split (Begins starts ∷ calls_in setting before) (calls_at setting before mark) first_trace trace reached in
      mark-windows before mark starts trace r h (windows before starts h.middle (ran-before mark before r) h.first)

  -- and up to each moment of it
  pub ran-till : (later before : List Mark) → Ran (later ++ before) → Ran before
  ran-till [] before r = r
  ran-till (mark ∷ later) before r = ran-till later before (ran-before mark (later ++ before) r)
