-- The forwarder stays, mark by mark.
use Rattle.std.proofs.Common.{◌≡◌, ◌≤◌, ◌<◌, ◌+◌, ◌*◌, ◌^◌, ℕ, Bool, true, false, not, ◌&&◌, Option, Some, None, List, [], ◌∷◌, ◌++◌, refl, sym, ap, ◌∙◌, subst, arith, map, append-nil, length, inl}
use Rattle.std.specs.Prelude.{◌==◌, find, take, if◌then◌else◌, IsTrue}
use Rattle.std.proofs.lemmas.Bool.{eqb-true}
use Rattle.std.proofs.lemmas.Bool.Decides.{nat_tests}
use Rattle.std.specs.List.{AllByRecursion, list_any}
use Rattle.ssh_grammar.specs.Control.{Greets}
use Rattle.ssh_grammar.specs.Frames.{frame_answer}
use Rattle.ssh_grammar.specs.Said.{InProxy, parse}
use Rattle.ssh_grammar.specs.SpellControl.{spell_answer}
use Rattle.ssh_grammar.specs.declared.numbers.TheConstants.{VERSION}
use Rattle.mux_outside.specs.Greeting.{GreetsFirst}
use Rattle.mux_outside.specs.HouseCalls.{Begins, Got, End, Failed, Receives, HouseCall, Joined, Marks, Turns, Writable}
use Rattle.mux_outside.specs.HouseCalls as call
use Rattle.mux_outside.specs.OwnStreams.{is_own}
use Rattle.mux_outside.specs.Whose.{is_server}
use Rattle.mux_outside.specs.declared.house.HouseReply.{HouseReply}
use Rattle.mux_outside.specs.declared.house_mark.HouseMark.{HouseMark}
use Rattle.mux_outside.specs.declared.house_mark.HouseMark.TheVariants.{HouseIn, HouseSaid, HouseTook, HouseAsked, HouseAnswer, HouseOrder}
use Rattle.mux_outside.specs.declared.own_streams.TheConstants.{LAST_CLIENT}
use Rattle.mux_outside.specs.declared.mark.Mark.{Mark}
use Rattle.mux_outside.specs.declared.mark.Mark.TheVariants.{Waits, Accepts, Gets, Ends, Frees, Fails, Takes, Holds, WriteFails, Joins, House}
use Rattle.mux_outside.specs.declared.starts.Starts.{Starts}
use Rattle.mux_outside.specs.declared.turn.Want.TheVariants.{Read, WriteOnly}
use Rattle.mux_history.specs.declared.limits.TheConstants.{HOUSE}
use Rattle.mux_history.specs.Journal.{IsLawful, LawfulMark, bytes_in, bytes_of, is_accepted, is_own_stream, items_in, log_of_journal, new_received, new_sayings, server_end, unless_own, LawfulHouse}
use Rattle.mux_history.specs.Kept.{AtEach}
use Rattle.mux_history.specs.Log.{Setting, is_took, makes_row, more_all, more_of, next_row, makes_next}
use Rattle.mux_history.specs.Pending.{pending}
use Rattle.mux_history.specs.Policy.{Policy}
use Rattle.mux_history.specs.Promises.{SpeaksInTime, Throughout, WaitsAt}
use Rattle.mux_history.specs.Rows.{Admit, BadServer, Gone, Heard, HouseSays, Item, Row, RunEnd, Says, ServerCut, ServerEnd, ServerFailed, Took, is_end, is_run_over, is_lost, rows_of}
use Rattle.mux_history.proofs.Bools.{or-yes}
use Rattle.mux_history.specs.Settings.{by_lists}
use Rattle.mux_history.specs.Wires.{FollowsRead, ReadsWhenAsked}
use Rattle.mux_peers.specs.Asked.{asks_of_rows}
use Rattle.mux_engine.specs.AfterEnd.{AfterEnd}
use Rattle.mux_engine.specs.Answers.{AnswersOpen}
use Rattle.mux_engine.specs.Called.{calls_at, calls_in, if_own}
use Rattle.mux_engine.specs.Places.{IsOfOthers, is_mark_about}
use Rattle.mux_engine.proofs.Greeting.{greets-before}
use Rattle.mux_engine.proofs.Deferred.{answer-deferred, is_deferred}
use Rattle.house_forward.specs.RelayTraces.{Trace, Follows, Life, TraceReaches, SendsBy, first_trace}
use Rattle.house_forward.proofs.Sound.{All, Sound, all-sound, follow-sound}
use Rattle.house_history.specs.Runs.{HouseStays}
use Rattle.house_history.proofs.Lists.{Each, each-found, each-front, each-of, found}
use Rattle.house_history.proofs.Receiving.{NoGrant, Recorded, Waits as WaitsFor, receives, none-left}
use Rattle.house_history.proofs.Requesting.{requests-few}
use Rattle.house_history.proofs.RowsOf.{heard-size, plain_row, total}
use Rattle.house_history.proofs.AnswersOf.{atEach-before, atEach-here, heard-sized}
use Rattle.house_history.proofs.Calm.{IsCalm, distinct-of}
use Rattle.house_history.proofs.Going.{After, Going, IsOn, IsOver, RightAt, SentSo, Still, in-kept, others-stay, own-more, still-same}
use Rattle.house_history.proofs.Items.{ReceivedRow, IsOther, OnWith, heard-items, is-bytes-all, is-heard-all, is-other-all, others-items, next-other, IsReceivedItem}
use Rattle.house_history.proofs.Takes.{calm-rest, calm-step, calm-still, took-more, took-step, took-still}
use Rattle.house_history.proofs.ForwardingStates.{forwarding_state-heard}
use Rattle.house_history.proofs.Asks.{greets-step, request-step}
use Rattle.house_history.proofs.Relays.{EachSmall, WindowIn, relay-step}
use Rattle.house_history.proofs.Remotes.{IsSmallChannel, remotes-held, stream-bytes}
use Rattle.house_history.proofs.ReceivedRows.{heard-client, heard-row}
use Rattle.house_history.proofs.Right.{right-held}
use Rattle.house_history.proofs.Unasked.{trace-greets, house-unasked}
use Rattle.house_history.proofs.Readings.{SmallIn}
use Rattle.house_history.proofs.Views.{IsOffered, View}
use Rattle.house_history.proofs.Fitting.{Entry, Fits, FitsAs, Owns, number-is, offered-at, owned-at}
use Rattle.house_history.proofs.Seen.{AreViews, Seen, ViewOf, note-in}
use Rattle.house_relay.specs.Acts.{RelayAct}
use Rattle.house_relay.specs.declared.line.ChannelState.{ChannelState}
use Rattle.house_relay.specs.declared.line.ChannelState.TheVariants as line
use Rattle.house_forward.specs.Forwardings.{has_request}
use Rattle.house_forward.specs.declared.forwarding.Forwarding.{Forwarding}
use Rattle.house_forward.specs.Numbers.{relay_channels_of}
use Rattle.house_forward.proofs.Owning.{channels-differ, channels-small}
use Rattle.mux_history.specs.Channels.{Channel, held_of, is_confirmed, is_number, is_up}
use Rattle.std.proofs.lemmas.Bool.{and_parts}

-- the mark names the forwarder's own number: as that of a stream, or of a client that it answers
abbrev names_in : HouseMark → Bool
names_in (HouseAnswer client id reply) = client == HOUSE
names_in mark = false

abbrev names_house : Mark → Bool
names_house (House mark) = names_in mark
names_house mark = is_mark_about HOUSE mark

abbrev NamesOthers : List Mark → Mark → Type 0
NamesOthers before mark = names_house mark ≡ false

-- ---- the numbers that the server gave are small

abbrev pub HeldSmall : List Row → Type 0
HeldSmall rows = Each IsSmallChannel (held_of (rows_of HOUSE rows))

small-offered : (hs : List Channel) (s w m : ℕ) (o : Option ℕ) → Each IsSmallChannel hs → FitsAs hs o (IsOffered s w m) → (s < 2 ^ 32) × (w ≤ 4294967295)
small-offered hs s w m o small f =
    let x = f.1.0 in
    let at = found (offered-at s) x hs f.1.1 in
    let is = and_parts (is_number x.remote s) (not (is_up x.by) && not (is_confirmed x)) at.is in
    let both = each-found IsSmallChannel (offered-at s) x hs f.1.1 small in
    let bound = both.1 in
    let room = f.1.2.window in
    (both.0 s (number-is x.remote s is.0), omega (arith, bound, room))

owned-small : (hs : List Channel) (o : Option ℕ) (x : Channel) → Each IsSmallChannel hs → Owns hs o x → IsSmallChannel x
owned-small hs None x small f = absurd f
owned-small hs (Some n) x small f = each-found IsSmallChannel (owned-at n) x hs f small

small-view : (hs : List Channel) (l : ChannelState) (acts : List RelayAct) (o : Option ℕ) (v : View) → Each IsSmallChannel hs → ViewOf l acts v → FitsAs hs o v → SmallIn l × WindowIn l
small-view hs (line.Dialing dialog) acts o v small h f = (tt, tt)
small-view hs (line.Asked host port version) acts o v small h f = (tt, tt)
small-view hs (line.Opened version) acts o v small h f = (tt, tt)
small-view hs (line.Offered remote window maximum) acts o v small h f = small-offered hs remote window maximum o small (subst (FitsAs hs o) h.0 f)
small-view hs (line.Live live) acts o v small h f =
    let its = subst (FitsAs hs o) h.1 f in
    let both = owned-small hs o its.0 small its.1 in
    let n = both.0 h.0.remote its.2.remote in
    (subst (λ (n : ℕ). n < 2 ^ 32) (sym h.2.remote) n, tt)
small-view hs line.Over acts o v small h f = (tt, tt)

small-relay_traces : (hs : List Channel) (relay_traces : List Life) (es : List Entry) → Each IsSmallChannel hs → AreViews relay_traces es → Each (Fits hs) es → EachSmall relay_traces
small-relay_traces hs [] es small views fits = tt
small-relay_traces hs (l ∷ relay_traces) [] small views fits = absurd views
small-relay_traces hs (l ∷ relay_traces) (e ∷ es) small views fits = (small-view hs l.relay.line l.acts e.0 e.1 small views.0.view fits.0, small-relay_traces hs relay_traces es small views.1 fits.1)

relay_traces-small : (rows : List Row) (trace : Trace) (recorded : Recorded) → Going rows trace recorded → pending HOUSE rows ≡ [] → HeldSmall rows → EachSmall trace.relay_traces
relay_traces-small rows trace recorded g empty small =
    let hs = held_of (rows_of HOUSE rows) in
    let none = none-left trace recorded (subst (λ (b : List ℕ). WaitsFor trace b recorded) empty g.waits) in
    let s : Seen hs trace.relay_traces [] = subst (λ (ps : List (List ℕ)). Seen hs trace.relay_traces (map note-in ps)) none.1 g.seen in
    small-relay_traces hs trace.relay_traces s.entries small s.views (each-front (Fits hs) s.entries s.orphans s.later.fits)

-- and those of the forwarder
numbers-each : (relay_traces : List Life) → AllByRecursion (λ n. n < 2 ^ 32) (relay_channels_of relay_traces) → Each (λ (l : Life). l.relay.number < 2 ^ 32) relay_traces
numbers-each [] all = tt
numbers-each (l ∷ relay_traces) all = (all.0, numbers-each relay_traces all.1)

numbers-small : (calls : List HouseCall) (trace : Trace) → TraceReaches first_trace calls trace → Each (λ (l : Life). l.relay.number < 2 ^ 32) trace.relay_traces
numbers-small calls trace h = numbers-each trace.relay_traces (channels-small calls trace h)

-- ---- calls

pub record Split (calls more : List HouseCall) (a c : Trace) : Type 0 where
  pub middle : Trace
  pub first : TraceReaches a calls middle
  pub rest : TraceReaches middle more c

pub reach-split : (calls more : List HouseCall) (a c : Trace) → TraceReaches a (calls ++ more) c → Split calls more a c
reach-split [] more a c h = record { middle = a; first = refl; rest = h }
reach-split (one ∷ calls) more a c h =
    let s = reach-split calls more h.0 c h.2 in
    record { middle = s.middle; first = (h.0, h.1, s.first); rest = s.rest }

-- calls that are calm leave the run and its forwarder going on
pub record Calmed (rows : List Row) (trace new : Trace) : Type 0 where
  pub goes : (recorded : Recorded) → Going rows trace recorded → Going rows new recorded
  pub still : Still rows trace → Still rows new
  pub greeted : new.forwarding_state.greeted ≡ trace.forwarding_state.greeted

calms : (rows : List Row) (calls : List HouseCall) (trace new : Trace) → Each IsCalm calls → All Sound trace → TraceReaches trace calls new → Calmed rows trace new
calms rows [] trace new calm sound h = record {
  goes = λ recorded g. subst (λ (c : Trace). Going rows c recorded) (sym h) g;
  still = λ s. subst (Still rows) (sym h) s;
  greeted = ap (λ c. c.forwarding_state.greeted) h;
}
calms rows (one ∷ calls) trace new calm sound h =
    let rest = calms rows calls h.0 new calm.1 (follow-sound one trace h.0 h.1 sound) h.2 in
    let first = calm-rest one trace h.0 calm.0 h.1 in
    record {
      goes = λ recorded g. rest.goes recorded (calm-step rows trace h.0 one recorded sound calm.0 h.1 g);
      still = λ s. rest.still (calm-still rows trace h.0 one sound calm.0 h.1 s);
      greeted = rest.greeted ∙ first.greeted;
    }

if-calm : (t : ℕ) (one : HouseCall) → IsCalm one → Each IsCalm (if_own t one)
if-calm t one calm = go (is_own t)
  where
    go : (b : Bool) → Each IsCalm (if b then one ∷ [] else [])
    go true = (calm, tt)
    go false = tt

-- ---- what is so after each mark

pub data Inv (setting : Setting) (journal : List Mark) (trace : Trace) : Type 0 where
  Past : is_run_over (log_of_journal setting journal) ≡ true → is_lost (rows_of HOUSE (log_of_journal setting journal)) ≡ false
      → (Throughout (AfterEnd setting) journal → Still (log_of_journal setting journal) trace) → Inv setting journal trace
  Here : (recorded : Recorded) → Going (log_of_journal setting journal) trace recorded → SentSo trace.forwarding_state.greeted (bytes_of HOUSE journal) → Inv setting journal trace

-- the forwarder sends nothing at this mark
bytes-same : (mark : Mark) (before : List Mark) → bytes_in HOUSE mark ≡ [] → bytes_of HOUSE (mark ∷ before) ≡ bytes_of HOUSE before
bytes-same mark before e = ap (λ (l : List ℕ). bytes_of HOUSE before ++ l) e ∙ append-nil (bytes_of HOUSE before)

-- marks at which the forwarder sends and receives nothing
record IsQuiet (setting : Setting) (before : List Mark) (mark : Mark) : Type 0 where
  silent : bytes_in HOUSE mark ≡ []
  calm : Each IsCalm (calls_at setting before mark)

after-so : (setting : Setting) (before : List Mark) (mark : Mark) (trace new : Trace) → bytes_of HOUSE (mark ∷ before) ≡ bytes_of HOUSE before → new.forwarding_state.greeted ≡ trace.forwarding_state.greeted
    → SentSo trace.forwarding_state.greeted (bytes_of HOUSE before) → SentSo new.forwarding_state.greeted (bytes_of HOUSE (mark ∷ before))
after-so setting before mark trace new same greeted said =
    subst (λ (b : Bool). SentSo b (bytes_of HOUSE (mark ∷ before))) (sym greeted) (subst (λ (bytes : List ℕ). SentSo trace.forwarding_state.greeted bytes) (sym same) said)

-- where its items are after, so is all
pub quiet-step : (policy : Policy) (pid : ℕ) (picks : List ℕ) (given : List HouseReply) (before : List Mark) (mark : Mark) (trace new : Trace) → bytes_in HOUSE mark ≡ []
    → Each IsCalm (calls_at (by_lists policy pid picks given) before mark) → All Sound trace → TraceReaches trace (calls_at (by_lists policy pid picks given) before mark) new
    → SentSo trace.forwarding_state.greeted (bytes_of HOUSE before)
    → After (log_of_journal (by_lists policy pid picks given) (mark ∷ before)) trace → Inv (by_lists policy pid picks given) (mark ∷ before) new
quiet-step policy pid picks given before mark trace new silent calm sound reached said (IsOver ended kept still) =
    let setting = by_lists policy pid picks given in
    let c = calms (log_of_journal setting (mark ∷ before)) (calls_at setting before mark) trace new calm sound reached in
    Past ended kept (λ after. c.still still)
quiet-step policy pid picks given before mark trace new silent calm sound reached said (IsOn recorded g) =
    let setting = by_lists policy pid picks given in
    let c = calms (log_of_journal setting (mark ∷ before)) (calls_at setting before mark) trace new calm sound reached in
    Here recorded (c.goes recorded g) (after-so setting before mark trace new (bytes-same mark before silent) c.greeted said)

-- after the end only what is accepted makes rows
pub record IsPast (rows : List Row) : Type 0 where
  pub ended : is_run_over rows ≡ true
  pub kept : is_lost (rows_of HOUSE rows) ≡ false

-- a client that was accepted has another number
client-other : (k : ℕ) → k ≤ LAST_CLIENT → (k == HOUSE) ≡ false
client-other k least = grind (arith, nat_tests)

module _ (policy : Policy) (pid : ℕ) (picks : List ℕ) (given : List HouseReply) where
  abbrev setting : Setting
  setting = by_lists policy pid picks given

  past-same : (item : Item) (rows : List Row) → is_took item ≡ false → IsPast rows → IsPast (more_of setting rows item)
  past-same item rows none p = subst IsPast (sym same) p
    where
      same : more_of setting rows item ≡ rows
      same =
          ap (λ (b : Bool). elim (elim b as (λ _. Bool) [ true ↦ is_took item | false ↦ makes_row rows item ]) as (λ _. List Row) [ false ↦ rows | true ↦ next_row setting rows item ∷ rows ]) p.ended
          ∙ ap (λ (b : Bool). elim b as (λ _. List Row) [ false ↦ rows | true ↦ next_row setting rows item ∷ rows ]) none

  past-took : (t n : ℕ) (rows : List Row) → IsPast rows → IsPast (more_of setting rows (Took t n))
  past-took t n rows p = subst IsPast (sym same) (record { ended = p.ended; kept = go (t == HOUSE) refl })
    where
      row : Row
      row = next_row setting rows (Took t n)

      same : more_of setting rows (Took t n) ≡ row ∷ rows
      same = ap (λ (b : Bool). elim (elim b as (λ _. Bool) [ true ↦ true | false ↦ true ]) as (λ _. List Row) [ false ↦ rows | true ↦ row ∷ rows ]) p.ended

      go : (b : Bool) → (t == HOUSE) ≡ b → is_lost (rows_of HOUSE (row ∷ rows)) ≡ false
      go true e = ap is_lost (own-more row rows e) ∙ p.kept
      go false e = ap is_lost (others-stay row rows e) ∙ p.kept

  past-item : (item : Item) (rows : List Row) → IsPast rows → IsPast (more_of setting rows item)
  past-item (Took t n) rows p = past-took t n rows p
  past-item (Admit k) rows p = past-same (Admit k) rows refl p
  past-item (Says k outgoing reply) rows p = past-same (Says k outgoing reply) rows refl p
  past-item (HouseSays k id reply) rows p = past-same (HouseSays k id reply) rows refl p
  past-item (Gone k) rows p = past-same (Gone k) rows refl p
  past-item (Heard payload) rows p = past-same (Heard payload) rows refl p
  past-item (BadServer fault) rows p = past-same (BadServer fault) rows refl p
  past-item ServerEnd rows p = past-same ServerEnd rows refl p
  past-item (ServerCut left) rows p = past-same (ServerCut left) rows refl p
  past-item ServerFailed rows p = past-same ServerFailed rows refl p
  past-item (RunEnd cause) rows p = past-same (RunEnd cause) rows refl p

  past-items : (items : List Item) (rows : List Row) → IsPast rows → IsPast (more_all setting rows items)
  past-items [] rows p = p
  past-items (item ∷ items) rows p = past-items items (more_of setting rows item) (past-item item rows p)

  -- ---- what the marks of others give

  ends-other : (t : ℕ) (rest : List ℕ) (b o : Bool) → (t == HOUSE) ≡ false
      → Each IsOther (elim b as (λ _. List Item) [ true ↦ server_end rest ∷ [] | false ↦ elim o as (λ _. List Item) [ true ↦ [] | false ↦ Gone t ∷ [] ] ])
  ends-other t [] true o other = (tt, tt)
  ends-other t (x ∷ rest) true o other = (tt, tt)
  ends-other t rest false true other = tt
  ends-other t rest false false other = (other, tt)

  fails-other : (t : ℕ) (b o : Bool) → (t == HOUSE) ≡ false
      → Each IsOther (elim b as (λ _. List Item) [ true ↦ ServerFailed ∷ [] | false ↦ elim o as (λ _. List Item) [ true ↦ [] | false ↦ Gone t ∷ [] ] ])
  fails-other t true o other = (tt, tt)
  fails-other t false true other = tt
  fails-other t false false other = (other, tt)

  takes-other : (t n : ℕ) (o : Bool) → (t == HOUSE) ≡ false → Each IsOther (elim o as (λ _. List Item) [ true ↦ [] | false ↦ Took t n ∷ [] ])
  takes-other t n true other = tt
  takes-other t n false other = (other, tt)

  gets-other : (t : ℕ) (before bytes : List ℕ) (o : Bool) → (t == HOUSE) ≡ false → Each IsOther (elim o as (λ _. List Item) [ true ↦ [] | false ↦ new_sayings t before (before ++ bytes) ])
  gets-other t before bytes true other = tt
  gets-other t before bytes false other = is-other-all t before bytes other

  gets-none : (t : ℕ) (bytes : List ℕ) → (t == HOUSE) ≡ false → bytes_in HOUSE (Gets t bytes) ≡ []
  gets-none t bytes e = ap (λ (b : Bool). elim b as (λ _. List ℕ) [ true ↦ bytes | false ↦ [] ]) e

  -- ---- the server sends something

  -- nothing waited for the forwarder
  none-before : (before : List Mark) → FollowsRead before → Throughout (WaitsAt setting) before → pending HOUSE (log_of_journal setting before) ≡ []
  none-before [] follows waits = absurd follows
  none-before (Waits waiting Read streams shown ∷ before) follows waits = waits.0.house
  none-before (Waits waiting WriteOnly streams shown ∷ before) follows waits = absurd follows
  none-before (Accepts k ∷ before) follows waits = absurd follows
  none-before (Gets t bytes ∷ before) follows waits = absurd follows
  none-before (Ends t ∷ before) follows waits = absurd follows
  none-before (Frees t ∷ before) follows waits = absurd follows
  none-before (Fails t ∷ before) follows waits = absurd follows
  none-before (Takes t bytes accepts ∷ before) follows waits = absurd follows
  none-before (Holds t ∷ before) follows waits = absurd follows
  none-before (WriteFails t ∷ before) follows waits = absurd follows
  none-before (Joins l t ∷ before) follows waits = absurd follows
  none-before (House mark ∷ before) follows waits = absurd follows

  -- ---- one mark more

  -- what is known of it
  record OneMore (before : List Mark) (mark : Mark) (trace new : Trace) : Type 0 where
    lawful : LawfulMark before mark
    lawful_before : IsLawful before
    asked : ReadsWhenAsked before mark
    waits : Throughout (WaitsAt setting) before
    speaks : SpeaksInTime setting before mark
    other : names_house mark ≡ false
    right : AtEach RightAt (log_of_journal setting (mark ∷ before))
    small : HeldSmall (log_of_journal setting before)
    calls : List HouseCall
    reached : TraceReaches first_trace calls trace
    goes : TraceReaches trace (calls_at setting before mark) new

  -- what its items leave
  after-is : (mark : Mark) (before : List Mark) (new : Trace) → After (log_of_journal setting (mark ∷ before)) new → SentSo new.forwarding_state.greeted (bytes_of HOUSE (mark ∷ before)) → Inv setting (mark ∷ before) new
  after-is mark before new (IsOver ended kept still) said = Past ended kept (λ after. still)
  after-is mark before new (IsOn recorded g) said = Here recorded g said

  -- a mark of others
  other-mark : (before : List Mark) (mark : Mark) (trace new : Trace) (recorded : Recorded) → OneMore before mark trace new → Going (log_of_journal setting before) trace recorded → SentSo trace.forwarding_state.greeted (bytes_of HOUSE before)
      → bytes_in HOUSE mark ≡ [] → Each IsCalm (calls_at setting before mark) → Each IsOther (items_in before mark) → Inv setting (mark ∷ before) new
  other-mark before mark trace new recorded one g said silent calm others =
      quiet-step policy pid picks given before mark trace new silent calm (all-sound one.calls trace one.reached) one.goes said
      (others-items policy pid picks given (items_in before mark) (log_of_journal setting before) trace others (IsOn recorded g))

  server-mark : ReceivedRow policy pid → (before : List Mark) (bytes : List ℕ) (trace new : Trace) (recorded : Recorded) → OneMore before (Gets 0 bytes) trace new → Going (log_of_journal setting before) trace recorded → SentSo trace.forwarding_state.greeted (bytes_of HOUSE before)
      → Inv setting (Gets 0 bytes ∷ before) new
  server-mark heard before bytes trace new recorded one g said =
      let was = bytes_of 0 before in
      let size : total (new_received was (was ++ bytes)) ≤ 327683 = heard-size was bytes (stream-bytes 0 before one.lawful_before) one.lawful.3 one.lawful.2 in
      let none : pending HOUSE (log_of_journal setting before) ≡ [] = none-before before (one.asked refl) one.waits in
      let room : length (pending HOUSE (log_of_journal setting before)) + 65 * total (new_received was (was ++ bytes)) ≤ 33554432 = let l : length (pending HOUSE (log_of_journal setting before)) ≡ 0 = ap length none in omega (arith, size, l) in
      quiet-step policy pid picks given before (Gets 0 bytes) trace new refl tt (all-sound one.calls trace one.reached) one.goes said
      (heard-items policy pid picks given heard (new_received was (was ++ bytes)) (log_of_journal setting before) trace (is-heard-all was bytes) (heard-sized was bytes) (is-bytes-all was bytes (stream-bytes 0 before one.lawful_before) one.lawful.3) one.right
      (requests-few one.calls trace one.reached) (OnWith recorded g room))

  gets-mark : ReceivedRow policy pid → (before : List Mark) (t : ℕ) (bytes : List ℕ) (trace new : Trace) (recorded : Recorded) → OneMore before (Gets t bytes) trace new → Going (log_of_journal setting before) trace recorded → SentSo trace.forwarding_state.greeted (bytes_of HOUSE before)
      → Inv setting (Gets t bytes ∷ before) new
  gets-mark heard before t bytes trace new recorded one g said = go (is_server t) refl
    where
      go : (b : Bool) → is_server t ≡ b → Inv setting (Gets t bytes ∷ before) new
      go true e = subst P (sym zero) (λ one. server-mark heard before bytes trace new recorded one g said) one
        where
          zero : t ≡ 0
          zero = grind (arith, nat_tests)

          P : ℕ → Type 0
          P i = OneMore before (Gets i bytes) trace new → Inv setting (Gets i bytes ∷ before) new
      go false e = other-mark before (Gets t bytes) trace new recorded one g said (gets-none t bytes one.other) (if-calm t (Turns (Got t bytes)) tt)
          (subst (Each IsOther) (sym items) (gets-other t (bytes_of t before) bytes (is_own_stream t) one.other))
        where
          items : items_in before (Gets t bytes) ≡ unless_own t (new_sayings t (bytes_of t before) (bytes_of t before ++ bytes))
          items = ap (λ (b : Bool). elim b as (λ _. List Item) [ true ↦ new_received (bytes_of 0 before) (bytes_of 0 before ++ bytes) | false ↦ unless_own t (new_sayings t (bytes_of t before) (bytes_of t before ++ bytes)) ]) e

  ends-mark : (before : List Mark) (t : ℕ) (trace new : Trace) (recorded : Recorded) → OneMore before (Ends t) trace new → Going (log_of_journal setting before) trace recorded → SentSo trace.forwarding_state.greeted (bytes_of HOUSE before)
      → Inv setting (Ends t ∷ before) new
  ends-mark before t trace new recorded one g said = other-mark before (Ends t) trace new recorded one g said refl (if-calm t (Turns (End t)) tt)
      (ends-other t (parse InProxy (bytes_of 0 before)).rest (is_server t) (is_own_stream t) one.other)

  fails-mark : (before : List Mark) (t : ℕ) (trace new : Trace) (recorded : Recorded) → OneMore before (Fails t) trace new → Going (log_of_journal setting before) trace recorded → SentSo trace.forwarding_state.greeted (bytes_of HOUSE before)
      → Inv setting (Fails t ∷ before) new
  fails-mark before t trace new recorded one g said = other-mark before (Fails t) trace new recorded one g said refl (if-calm t (Turns (Failed t)) tt) (fails-other t (is_server t) (is_own_stream t) one.other)

  write-fails-mark : (before : List Mark) (t : ℕ) (trace new : Trace) (recorded : Recorded) → OneMore before (WriteFails t) trace new → Going (log_of_journal setting before) trace recorded → SentSo trace.forwarding_state.greeted (bytes_of HOUSE before)
      → Inv setting (WriteFails t ∷ before) new
  write-fails-mark before t trace new recorded one g said = other-mark before (WriteFails t) trace new recorded one g said refl (if-calm t (Turns (Failed t)) tt) (fails-other t (is_server t) (is_own_stream t) one.other)

  takes-mark : (before : List Mark) (t : ℕ) (bytes : List ℕ) (accepts : Bool) (trace new : Trace) (recorded : Recorded) → OneMore before (Takes t bytes accepts) trace new → Going (log_of_journal setting before) trace recorded → SentSo trace.forwarding_state.greeted (bytes_of HOUSE before)
      → Inv setting (Takes t bytes accepts ∷ before) new
  takes-mark before t bytes accepts trace new recorded one g said = other-mark before (Takes t bytes accepts) trace new recorded one g said refl (if-calm t (call.Takes t bytes) tt) (takes-other t (length bytes) (is_own_stream t) one.other)

  -- ---- the forwarder accepts

  took-mark : (before : List Mark) (size : ℕ) (trace new : Trace) (recorded : Recorded) → OneMore before (House (HouseTook size)) trace new → Going (log_of_journal setting before) trace recorded → SentSo trace.forwarding_state.greeted (bytes_of HOUSE before)
      → Inv setting (House (HouseTook size) ∷ before) new
  took-mark before size trace new recorded one g said =
      let rows = log_of_journal setting before in
      let follows : Follows (Receives (take size (pending HOUSE rows))) trace new = subst (λ (c : Trace). Follows (Receives (take size (pending HOUSE rows))) trace c) (sym one.goes.2) one.goes.1 in
      let apart = distinct-of trace.relay_traces (channels-differ one.calls trace one.reached) in
      let heard = receives trace new size (pending HOUSE rows) recorded g.waits follows in
      let forwarding_state = forwarding_state-heard heard.heard trace new heard.goes in
      after-is (House (HouseTook size)) before new (took-step setting rows trace new size recorded apart g follows)
      (after-so setting before (House (HouseTook size)) trace new (bytes-same (House (HouseTook size)) before refl) forwarding_state.greeted said)

  -- ---- the forwarder sends

  said-mark : (before : List Mark) (bytes : List ℕ) (trace new : Trace) (recorded : Recorded) → OneMore before (House (HouseSaid bytes)) trace new → Going (log_of_journal setting before) trace recorded → SentSo trace.forwarding_state.greeted (bytes_of HOUSE before)
      → Inv setting (House (HouseSaid bytes) ∷ before) new
  said-mark before bytes trace new recorded one g said = by_greeted trace.forwarding_state.greeted refl says said
    where
      rows : List Row
      rows = log_of_journal setting before

      was : List ℕ
      was = bytes_of HOUSE before

      says : SendsBy trace.forwarding_state.greeted (find has_request trace.forwarding_state.all) bytes trace new
      says = subst (λ (c : Trace). SendsBy trace.forwarding_state.greeted (find has_request trace.forwarding_state.all) bytes trace c) (sym one.goes.2) one.goes.1

      ends : After (more_all setting rows (new_sayings HOUSE was (was ++ bytes))) new → new.forwarding_state.greeted ≡ true → SentSo true (was ++ bytes) → Inv setting (House (HouseSaid bytes) ∷ before) new
      ends after greets so = after-is (House (HouseSaid bytes)) before new after (subst (λ (b : Bool). SentSo b (was ++ bytes)) (sym greets) so)

      greets : trace.forwarding_state.greeted ≡ false → SendsBy false (find has_request trace.forwarding_state.all) bytes trace new → was ≡ [] → Inv setting (House (HouseSaid bytes) ∷ before) new
      greets e says none =
          let right : AtEach RightAt (more_all setting rows (new_sayings HOUSE [] ([] ++ bytes))) = subst (λ (b : List ℕ). AtEach RightAt (more_all setting rows (new_sayings HOUSE b (b ++ bytes)))) none one.right in
          let h = greets-step policy pid picks given rows trace new bytes recorded right g e one.speaks.heard says in
          ends (subst (λ (b : List ℕ). After (more_all setting rows (new_sayings HOUSE b (b ++ bytes))) new) (sym none) h.after) h.greeted (subst (λ (b : List ℕ). SentSo true (b ++ bytes)) (sym none) h.said)

      by_request : (o : Option Forwarding) → find has_request trace.forwarding_state.all ≡ o → trace.forwarding_state.greeted ≡ true → SendsBy true o bytes trace new → SentSo true was → Inv setting (House (HouseSaid bytes) ∷ before) new
      by_request (Some f) found e says so =
          let h = request-step policy pid picks given rows trace new was bytes recorded f one.right g e (requests-few one.calls trace one.reached) one.speaks.heard one.lawful.3 one.lawful.2 so found says in
          ends h.after h.greeted h.said
      by_request None found e says so =
          let sound = all-sound one.calls trace one.reached in
          let h = relay-step policy pid picks given rows trace new was bytes recorded one.right g e one.speaks.heard one.lawful.3 one.lawful.2 so sound.relay_traces (numbers-small one.calls trace one.reached)
          (relay_traces-small rows trace recorded g one.speaks.heard one.small) says in
          ends h.after h.greeted h.so

      by_greeted : (b : Bool) → trace.forwarding_state.greeted ≡ b → SendsBy b (find has_request trace.forwarding_state.all) bytes trace new → SentSo b was → Inv setting (House (HouseSaid bytes) ∷ before) new
      by_greeted false e says none = greets e says none
      by_greeted true e says so = by_request (find has_request trace.forwarding_state.all) refl e says so

  -- ---- each mark

  house-step : (before : List Mark) (mark : HouseMark) (trace new : Trace) (recorded : Recorded) → (mark ≡ HouseIn → ⊥) → OneMore before (House mark) trace new → Going (log_of_journal setting before) trace recorded → SentSo trace.forwarding_state.greeted (bytes_of HOUSE before)
      → Inv setting (House mark ∷ before) new
  house-step before HouseIn trace new recorded other one g said = absurd (other refl)
  house-step before (HouseSaid bytes) trace new recorded other one g said = said-mark before bytes trace new recorded one g said
  house-step before (HouseTook size) trace new recorded other one g said = took-mark before size trace new recorded one g said
  house-step before (HouseAsked client id opening ask reply) trace new recorded other one g said = other-mark before (House (HouseAsked client id opening ask reply)) trace new recorded one g said refl (tt, tt) tt
  house-step before (HouseAnswer client id reply) trace new recorded other one g said = other-mark before (House (HouseAnswer client id reply)) trace new recorded one g said refl (tt, tt) (one.other, tt)
  house-step before (HouseOrder order number) trace new recorded other one g said = other-mark before (House (HouseOrder order number)) trace new recorded one g said refl (tt, tt) tt

  step : ReceivedRow policy pid → (before : List Mark) (mark : Mark) (trace new : Trace) (recorded : Recorded) → (mark ≡ House HouseIn → ⊥) → OneMore before mark trace new → Going (log_of_journal setting before) trace recorded → SentSo trace.forwarding_state.greeted (bytes_of HOUSE before)
      → Inv setting (mark ∷ before) new
  step heard before (Waits waiting want streams shown) trace new recorded other one g said = other-mark before (Waits waiting want streams shown) trace new recorded one g said refl tt tt
  step heard before (Accepts k) trace new recorded other one g said = other-mark before (Accepts k) trace new recorded one g said refl tt (client-other k one.lawful.1, tt)
  step heard before (Gets t bytes) trace new recorded other one g said = gets-mark heard before t bytes trace new recorded one g said
  step heard before (Ends t) trace new recorded other one g said = ends-mark before t trace new recorded one g said
  step heard before (Frees t) trace new recorded other one g said = other-mark before (Frees t) trace new recorded one g said refl (if-calm t (Turns (Writable t)) tt) tt
  step heard before (Fails t) trace new recorded other one g said = fails-mark before t trace new recorded one g said
  step heard before (Takes t bytes accepts) trace new recorded other one g said = takes-mark before t bytes accepts trace new recorded one g said
  step heard before (Holds t) trace new recorded other one g said = other-mark before (Holds t) trace new recorded one g said refl tt tt
  step heard before (WriteFails t) trace new recorded other one g said = write-fails-mark before t trace new recorded one g said
  step heard before (Joins l t) trace new recorded other one g said = other-mark before (Joins l t) trace new recorded one g said refl (tt, tt) tt
  step heard before (House mark) trace new recorded other one g said = house-step before mark trace new recorded (λ e. other (ap House e)) one g said

  -- ---- a mark after the end

  -- no item is of what the forwarder accepts
  abbrev SparesHouse : Item → Type 0
  SparesHouse (Took t n) = (t == HOUSE) ≡ false
  SparesHouse item = Unit {0}

  spares-other : (item : Item) → IsOther item → SparesHouse item
  spares-other (Took t n) other = other
  spares-other item other = tt

  spares-received : (item : Item) → IsReceivedItem item → SparesHouse item
  spares-received (Took t n) is = absurd is
  spares-received item is = tt

  past-none : (item : Item) (rows : List Row) → is_took item ≡ false → is_run_over rows ≡ true → more_of setting rows item ≡ rows
  past-none item rows none ended =
      ap (λ (b : Bool). elim (elim b as (λ _. Bool) [ true ↦ is_took item | false ↦ makes_row rows item ]) as (λ _. List Row) [ false ↦ rows | true ↦ next_row setting rows item ∷ rows ]) ended
      ∙ ap (λ (b : Bool). elim b as (λ _. List Row) [ false ↦ rows | true ↦ next_row setting rows item ∷ rows ]) none

  own-none : (item : Item) (rows : List Row) → is_took item ≡ false → is_run_over rows ≡ true → rows_of HOUSE (more_of setting rows item) ≡ rows_of HOUSE rows
  own-none item rows none ended = ap (rows_of HOUSE) (past-none item rows none ended)

  own-took : (t n : ℕ) (rows : List Row) → (t == HOUSE) ≡ false → rows_of HOUSE (more_of setting rows (Took t n)) ≡ rows_of HOUSE rows
  own-took t n rows other = go (makes_next rows (Took t n))
    where
      go : (b : Bool) → rows_of HOUSE (elim b as (λ _. List Row) [ false ↦ rows | true ↦ next_row setting rows (Took t n) ∷ rows ]) ≡ rows_of HOUSE rows
      go false = refl
      go true = others-stay (next_row setting rows (Took t n)) rows (next-other policy pid picks given rows (Took t n) other)

  own-item : (item : Item) (rows : List Row) → SparesHouse item → is_run_over rows ≡ true → rows_of HOUSE (more_of setting rows item) ≡ rows_of HOUSE rows
  own-item (Took t n) rows spares ended = own-took t n rows spares
  own-item (Admit k) rows spares ended = own-none (Admit k) rows refl ended
  own-item (Says k outgoing reply) rows spares ended = own-none (Says k outgoing reply) rows refl ended
  own-item (HouseSays k id reply) rows spares ended = own-none (HouseSays k id reply) rows refl ended
  own-item (Gone k) rows spares ended = own-none (Gone k) rows refl ended
  own-item (Heard payload) rows spares ended = own-none (Heard payload) rows refl ended
  own-item (BadServer fault) rows spares ended = own-none (BadServer fault) rows refl ended
  own-item ServerEnd rows spares ended = own-none ServerEnd rows refl ended
  own-item (ServerCut left) rows spares ended = own-none (ServerCut left) rows refl ended
  own-item ServerFailed rows spares ended = own-none ServerFailed rows refl ended
  own-item (RunEnd cause) rows spares ended = own-none (RunEnd cause) rows refl ended

  ended-item : (item : Item) (rows : List Row) → is_run_over rows ≡ true → is_run_over (more_of setting rows item) ≡ true
  ended-item item rows ended = go (makes_next rows item)
    where
      go : (b : Bool) → is_run_over (elim b as (λ _. List Row) [ false ↦ rows | true ↦ next_row setting rows item ∷ rows ]) ≡ true
      go false = ended
      go true = or-yes (is_end (next_row setting rows item).fate) (is_run_over rows) ended

  own-items : (items : List Item) (rows : List Row) → Each SparesHouse items → is_run_over rows ≡ true → rows_of HOUSE (more_all setting rows items) ≡ rows_of HOUSE rows
  own-items [] rows spares ended = refl
  own-items (item ∷ items) rows spares ended =
      own-items items (more_of setting rows item) spares.1 (ended-item item rows ended) ∙ own-item item rows spares.0 ended

  -- a mark by which nothing is sent, and nothing that waits for the forwarder received
  record IsIdle (before : List Mark) (mark : Mark) : Type 0 where
    calm : Each IsCalm (calls_at setting before mark)
    spares : Each SparesHouse (items_in before mark)

  idle-still : (before : List Mark) (mark : Mark) (trace new : Trace) → OneMore before mark trace new → is_run_over (log_of_journal setting before) ≡ true → IsIdle before mark
      → Still (log_of_journal setting before) trace → Still (log_of_journal setting (mark ∷ before)) new
  idle-still before mark trace new one ended idle s =
      let rows = log_of_journal setting before in
      let same = own-items (items_in before mark) rows idle.spares ended in
      (calms (more_all setting rows (items_in before mark)) (calls_at setting before mark) trace new idle.calm (all-sound one.calls trace one.reached) one.goes).still
      (still-same rows (more_all setting rows (items_in before mark)) trace same s)

  spares-all : (items : List Item) → Each IsOther items → Each SparesHouse items
  spares-all items all = each-of IsOther SparesHouse spares-other items all

  gets-spares : (before : List Mark) (t : ℕ) (bytes : List ℕ) → (t == HOUSE) ≡ false → Each SparesHouse (items_in before (Gets t bytes))
  gets-spares before t bytes other = by_server (is_server t)
    where
      by_server : (b : Bool) → Each SparesHouse (elim b as (λ _. List Item) [ true ↦ new_received (bytes_of 0 before) (bytes_of 0 before ++ bytes) | false ↦ unless_own t (new_sayings t (bytes_of t before) (bytes_of t before ++ bytes)) ])
      by_server true = each-of IsReceivedItem SparesHouse spares-received (new_received (bytes_of 0 before) (bytes_of 0 before ++ bytes)) (is-heard-all (bytes_of 0 before) bytes)
      by_server false = spares-all (unless_own t (new_sayings t (bytes_of t before) (bytes_of t before ++ bytes))) (gets-other t (bytes_of t before) bytes (is_own_stream t) other)

  past-house : (before : List Mark) (mark : HouseMark) (trace new : Trace) → (mark ≡ HouseIn → ⊥) → OneMore before (House mark) trace new → is_run_over (log_of_journal setting before) ≡ true
      → AfterEnd setting before (House mark) → Still (log_of_journal setting before) trace → Still (log_of_journal setting (House mark ∷ before)) new
  past-house before HouseIn trace new other one ended after s = absurd (other refl)
  past-house before (HouseSaid bytes) trace new other one ended after s = absurd (let bad : true ≡ false = sym ended ∙ after in cc)
  past-house before (HouseTook size) trace new other one ended after s =
      let rows = log_of_journal setting before in
      let follows : Follows (Receives (take size (pending HOUSE rows))) trace new = subst (λ (c : Trace). Follows (Receives (take size (pending HOUSE rows))) trace c) (sym one.goes.2) one.goes.1 in
      let apart = distinct-of trace.relay_traces (channels-differ one.calls trace one.reached) in
      subst (λ (more : List Row). Still more new) (sym (took-more setting rows size)) (took-still rows trace new size apart s follows)
  past-house before (HouseAsked client id opening ask reply) trace new other one ended after s =
      idle-still before (House (HouseAsked client id opening ask reply)) trace new one ended (record { calm = (tt, tt); spares = tt }) s
  past-house before (HouseAnswer client id reply) trace new other one ended after s = absurd (let bad : true ≡ false = sym ended ∙ after in cc)
  past-house before (HouseOrder order number) trace new other one ended after s =
      idle-still before (House (HouseOrder order number)) trace new one ended (record { calm = (tt, tt); spares = tt }) s

  -- what waited for the forwarder as the run ended still waits, or it receives it
  past-still : (before : List Mark) (mark : Mark) (trace new : Trace) → (mark ≡ House HouseIn → ⊥) → OneMore before mark trace new → is_run_over (log_of_journal setting before) ≡ true
      → AfterEnd setting before mark → Still (log_of_journal setting before) trace → Still (log_of_journal setting (mark ∷ before)) new
  past-still before (Waits waiting want streams shown) trace new other one ended after s =
      idle-still before (Waits waiting want streams shown) trace new one ended (record { calm = tt; spares = tt }) s
  past-still before (Accepts k) trace new other one ended after s = idle-still before (Accepts k) trace new one ended (record { calm = tt; spares = (tt, tt) }) s
  past-still before (Gets t bytes) trace new other one ended after s =
      idle-still before (Gets t bytes) trace new one ended (record { calm = if-calm t (Turns (Got t bytes)) tt; spares = gets-spares before t bytes one.other }) s
  past-still before (Ends t) trace new other one ended after s =
      idle-still before (Ends t) trace new one ended
      (record { calm = if-calm t (Turns (End t)) tt; spares = spares-all (items_in before (Ends t)) (ends-other t (parse InProxy (bytes_of 0 before)).rest (is_server t) (is_own_stream t) one.other) }) s
  past-still before (Frees t) trace new other one ended after s = idle-still before (Frees t) trace new one ended (record { calm = if-calm t (Turns (Writable t)) tt; spares = tt }) s
  past-still before (Fails t) trace new other one ended after s =
      idle-still before (Fails t) trace new one ended
      (record { calm = if-calm t (Turns (Failed t)) tt; spares = spares-all (items_in before (Fails t)) (fails-other t (is_server t) (is_own_stream t) one.other) }) s
  past-still before (Takes t bytes accepts) trace new other one ended after s =
      idle-still before (Takes t bytes accepts) trace new one ended
      (record { calm = if-calm t (call.Takes t bytes) tt; spares = spares-all (items_in before (Takes t bytes accepts)) (takes-other t (length bytes) (is_own_stream t) one.other) }) s
  past-still before (Holds t) trace new other one ended after s = idle-still before (Holds t) trace new one ended (record { calm = tt; spares = tt }) s
  past-still before (WriteFails t) trace new other one ended after s =
      idle-still before (WriteFails t) trace new one ended
      (record { calm = if-calm t (Turns (Failed t)) tt; spares = spares-all (items_in before (WriteFails t)) (fails-other t (is_server t) (is_own_stream t) one.other) }) s
  past-still before (Joins l t) trace new other one ended after s = idle-still before (Joins l t) trace new one ended (record { calm = (tt, tt); spares = tt }) s
  past-still before (House mark) trace new other one ended after s = past-house before mark trace new (λ e. other (ap House e)) one ended after s

  next : ReceivedRow policy pid → (before : List Mark) (mark : Mark) (trace new : Trace) → (mark ≡ House HouseIn → ⊥) → OneMore before mark trace new → Inv setting before trace → Inv setting (mark ∷ before) new
  next heard before mark trace new other one (Past ended kept still) =
      let p = past-items (items_in before mark) (log_of_journal setting before) (record { ended = ended; kept = kept }) in
      Past p.ended p.kept (λ after. past-still before mark trace new other one ended after.0 (still after.1))
  next heard before mark trace new other one (Here recorded g said) = step heard before mark trace new recorded other one g said

  -- ---- the forwarder is admitted

  first-own : List Row
  first-own = plain_row (Admit HOUSE) HOUSE [] (frame_answer (Greets VERSION) ∷ []) ∷ []

  first-recorded : Recorded
  first-recorded = record { answers = spell_answer (Greets VERSION) ∷ []; payloads = [] }

  first-log : log_of_journal setting (House HouseIn ∷ []) ≡ first-own
  unfolding first-own
  first-log = refl

  no-grant : NoGrant first-recorded
  unfolding first-recorded
  no-grant = record { none = refl; plain = (refl, tt) }

  first-going : Going first-own first_trace first-recorded
  unfolding first-own first-recorded
  first-going = record {
    on = refl;
    inside = refl;
    waits = record {
      fault = refl;
      framing = refl;
      bytes = refl;
      stage = inl no-grant;
      sized = record { answers = ((omega arith, omega arith), tt); payloads = tt };
      whole = λ e. cc;
    };
    seen = record { entries = []; orphans = []; views = tt; unnumbered = tt; later = record { fits = tt; known = tt; apart = tt } };
    requests = refl;
    phase = (no-grant, record { channels = refl; asked = refl; forwardings = refl; silent = refl });
  }

  -- the forwarder began with some forwardings, and then it is admitted
  let-in : (starts : Starts) (trace : Trace) → TraceReaches first_trace (Begins starts ∷ []) trace → Inv setting (House HouseIn ∷ []) trace
  let-in starts trace reached =
      let c = calms first-own (Begins starts ∷ []) first_trace trace (tt, tt) (record { relay_traces = tt; past = tt }) reached in
      Here first-recorded (subst (λ (rows : List Row). Going rows trace first-recorded) (sym first-log) (c.goes first-recorded first-going))
      (subst (λ (b : Bool). SentSo b []) (sym c.greeted) refl)

  -- ---- the whole journal

  pub record Journey (journal : List Mark) (trace : Trace) : Type 0 where
    pub lawful : IsLawful journal
    pub asked : Throughout ReadsWhenAsked journal
    pub waits : Throughout (WaitsAt setting) journal
    pub speaks : Throughout (SpeaksInTime setting) journal
    pub others : Throughout NamesOthers journal
    pub right : AtEach RightAt (log_of_journal setting journal)
    pub small : AtEach HeldSmall (log_of_journal setting journal)
    pub within : is_accepted HOUSE journal ≡ true
    pub starts : Starts
    pub reached : TraceReaches first_trace (Begins starts ∷ calls_in setting journal) trace

  same-house : (mark : HouseMark) (before : List Mark) → (House mark ≡ House HouseIn → ⊥) → is_accepted HOUSE (House mark ∷ before) ≡ is_accepted HOUSE before
  same-house HouseIn before other = absurd (other refl)
  same-house mark before other = refl

  -- another mark doesn't let it in
  same-within : (mark : Mark) (before : List Mark) → (mark ≡ House HouseIn → ⊥) → LawfulMark before mark → is_accepted HOUSE (mark ∷ before) ≡ is_accepted HOUSE before
  same-within (Accepts k) before other e = ap (λ (b : Bool). if b then true else is_accepted HOUSE before) (client-other k e.1)
  same-within (House mark) before other e = same-house mark before other
  same-within mark before other e = refl

  before-more : (before : List Mark) (mark : Mark) (trace : Trace) → (mark ≡ House HouseIn → ⊥) → (j : Journey (mark ∷ before) trace) → (h : Split (Begins j.starts ∷ calls_in setting before) (calls_at setting before mark) first_trace trace) → Journey before h.middle
  before-more before mark trace other j h = record {
    lawful = j.lawful.1;
    asked = j.asked.1;
    waits = j.waits.1;
    speaks = j.speaks.1;
    others = j.others.1;
    right = atEach-before RightAt setting mark before j.right;
    small = atEach-before HeldSmall setting mark before j.small;
    within = sym (same-within mark before other j.lawful.0) ∙ j.within;
    starts = j.starts;
    reached = h.first;
  }

  one-more : (before : List Mark) (mark : Mark) (trace : Trace) → (j : Journey (mark ∷ before) trace) → (h : Split (Begins j.starts ∷ calls_in setting before) (calls_at setting before mark) first_trace trace) → OneMore before mark h.middle trace
  one-more before mark trace j h = record {
    lawful = j.lawful.0;
    lawful_before = j.lawful.1;
    asked = j.asked.0;
    waits = j.waits.1;
    speaks = j.speaks.0;
    other = j.others.0;
    right = j.right;
    small = atEach-here HeldSmall (log_of_journal setting before) (atEach-before HeldSmall setting mark before j.small);
    calls = Begins j.starts ∷ calls_in setting before;
    reached = h.first;
    goes = h.rest;
  }

  comes-in : (before : List Mark) (trace : Trace) → Journey (House HouseIn ∷ before) trace → Inv setting (House HouseIn ∷ before) trace
  comes-in [] trace j = let-in j.starts trace j.reached
  comes-in (mark ∷ before) trace j = absurd (let none = j.lawful.0 in cc)

  pub journeys : ReceivedRow policy pid → (journal : List Mark) (trace : Trace) → Journey journal trace → Inv setting journal trace
  journeys heard [] trace j = absurd (let bad = j.within in cc)
  journeys heard (mark ∷ before) trace j = by_mark mark j (λ (c : Trace) (j : Journey before c). journeys heard before c j)
    where
      goes : (mark : Mark) → (mark ≡ House HouseIn → ⊥) → Journey (mark ∷ before) trace → ((c : Trace) → Journey before c → Inv setting before c) → Inv setting (mark ∷ before) trace
      goes mark other j earlier =
          let h = reach-split (Begins j.starts ∷ calls_in setting before) (calls_at setting before mark) first_trace trace j.reached in
          next heard before mark h.middle trace other (one-more before mark trace j h) (earlier h.middle (before-more before mark trace other j h))

      by_house : (mark : HouseMark) → Journey (House mark ∷ before) trace → ((c : Trace) → Journey before c → Inv setting before c) → Inv setting (House mark ∷ before) trace
      by_house HouseIn j earlier = comes-in before trace j
      by_house mark j earlier = goes (House mark) (λ e. absurd (cc)) j earlier

      by_mark : (mark : Mark) → Journey (mark ∷ before) trace → ((c : Trace) → Journey before c → Inv setting before c) → Inv setting (mark ∷ before) trace
      by_mark (House mark) j earlier = by_house mark j earlier
      by_mark mark j earlier = goes mark (λ e. absurd (cc)) j earlier

  ends-unlost : (journal : List Mark) (trace : Trace) → Inv setting journal trace → is_lost (rows_of HOUSE (log_of_journal setting journal)) ≡ false
  ends-unlost journal trace (Past ended kept still) = kept
  ends-unlost journal trace (Here recorded g said) = in-kept (rows_of HOUSE (log_of_journal setting journal)) g.inside

  -- ---- a forwarder that was not admitted has no rows

  Nobody : List Row → Type 0
  Nobody rows = rows_of HOUSE rows ≡ []

  nobody-more : (item : Item) (rows : List Row) → ((next_row setting rows item).client == HOUSE) ≡ false → Nobody rows → Nobody (more_of setting rows item)
  unfolding Nobody
  nobody-more item rows other none = by_next (makes_next rows item)
    where
      by_next : (b : Bool) → rows_of HOUSE (elim b as (λ _. List Row) [ false ↦ rows | true ↦ next_row setting rows item ∷ rows ]) ≡ []
      by_next false = none
      by_next true = others-stay (next_row setting rows item) rows other ∙ none

  nobody-others : (items : List Item) (rows : List Row) → Each IsOther items → Nobody rows → Nobody (more_all setting rows items)
  nobody-others [] rows all none = none
  nobody-others (item ∷ items) rows all none = nobody-others items (more_of setting rows item) all.1 (nobody-more item rows (next-other policy pid picks given rows item all.0) none)

  heard-other : (rows : List Row) (item : Item) → IsReceivedItem item → Nobody rows → ((next_row setting rows item).client == HOUSE) ≡ false
  unfolding Nobody
  heard-other rows (Heard p) is none = heard-client rows p none
  heard-other rows (BadServer fault) is none = refl
  heard-other rows item is none = absurd is

  nobody-heard : (items : List Item) (rows : List Row) → Each IsReceivedItem items → Nobody rows → Nobody (more_all setting rows items)
  nobody-heard [] rows all none = none
  nobody-heard (item ∷ items) rows all none = nobody-heard items (more_of setting rows item) all.1 (nobody-more item rows (heard-other rows item all.0 none) none)

  nobody-gets : (before : List Mark) (t : ℕ) (bytes : List ℕ) → (t == HOUSE) ≡ false → Nobody (log_of_journal setting before) → Nobody (log_of_journal setting (Gets t bytes ∷ before))
  nobody-gets before t bytes other none = by_server (is_server t)
    where
      rows : List Row
      rows = log_of_journal setting before

      by_server : (b : Bool) → Nobody (more_all setting rows (elim b as (λ _. List Item) [ true ↦ new_received (bytes_of 0 before) (bytes_of 0 before ++ bytes) | false ↦ unless_own t (new_sayings t (bytes_of t before) (bytes_of t before ++ bytes)) ]))
      by_server true = nobody-heard (new_received (bytes_of 0 before) (bytes_of 0 before ++ bytes)) rows (is-heard-all (bytes_of 0 before) bytes) none
      by_server false = nobody-others (unless_own t (new_sayings t (bytes_of t before) (bytes_of t before ++ bytes))) rows (gets-other t (bytes_of t before) bytes (is_own_stream t) other) none

  nobody-house : (before : List Mark) (mark : HouseMark) → (mark ≡ HouseIn → ⊥) → LawfulHouse before mark → names_in mark ≡ false → is_accepted HOUSE before ≡ false → Nobody (log_of_journal setting before)
      → Nobody (log_of_journal setting (House mark ∷ before))
  nobody-house before HouseIn other lawful named out none = absurd (other refl)
  nobody-house before (HouseSaid bytes) other lawful named out none = absurd (let here = lawful.0 in let bad : false ≡ true = sym out ∙ here in cc)
  nobody-house before (HouseTook size) other lawful named out none = absurd (let bad : false ≡ true = sym out ∙ lawful in cc)
  nobody-house before (HouseAsked client id opening ask reply) other lawful named out none = none
  nobody-house before (HouseAnswer client id reply) other lawful named out none = nobody-others (HouseSays client id reply ∷ []) (log_of_journal setting before) (named, tt) none
  nobody-house before (HouseOrder order number) other lawful named out none = none

  nobody-mark : (before : List Mark) (mark : Mark) → (mark ≡ House HouseIn → ⊥) → LawfulMark before mark → names_house mark ≡ false → is_accepted HOUSE before ≡ false → Nobody (log_of_journal setting before)
      → Nobody (log_of_journal setting (mark ∷ before))
  nobody-mark before (Accepts k) other lawful named out none = nobody-others (Admit k ∷ []) (log_of_journal setting before) (client-other k lawful.1, tt) none
  nobody-mark before (Gets t bytes) other lawful named out none = nobody-gets before t bytes named none
  nobody-mark before (Ends t) other lawful named out none =
      nobody-others (items_in before (Ends t)) (log_of_journal setting before) (ends-other t (parse InProxy (bytes_of 0 before)).rest (is_server t) (is_own_stream t) named) none
  nobody-mark before (Fails t) other lawful named out none = nobody-others (items_in before (Fails t)) (log_of_journal setting before) (fails-other t (is_server t) (is_own_stream t) named) none
  nobody-mark before (WriteFails t) other lawful named out none = nobody-others (items_in before (WriteFails t)) (log_of_journal setting before) (fails-other t (is_server t) (is_own_stream t) named) none
  nobody-mark before (Takes t bytes accepts) other lawful named out none = nobody-others (items_in before (Takes t bytes accepts)) (log_of_journal setting before) (takes-other t (length bytes) (is_own_stream t) named) none
  nobody-mark before (House mark) other lawful named out none = nobody-house before mark (λ e. other (ap House e)) lawful named out none
  nobody-mark before (Waits waiting want streams shown) other lawful named out none = none
  nobody-mark before (Frees t) other lawful named out none = none
  nobody-mark before (Holds t) other lawful named out none = none
  nobody-mark before (Joins l t) other lawful named out none = none

  nobody : (journal : List Mark) → IsLawful journal → Throughout NamesOthers journal → is_accepted HOUSE journal ≡ false → Nobody (log_of_journal setting journal)
  unfolding Nobody
  nobody [] lawful others out = refl
  nobody (mark ∷ before) lawful others out = by_mark mark lawful.0 others.0 out (λ (e : is_accepted HOUSE before ≡ false). nobody before lawful.1 others.1 e)
    where
      goes : (mark : Mark) → (mark ≡ House HouseIn → ⊥) → LawfulMark before mark → names_house mark ≡ false → is_accepted HOUSE (mark ∷ before) ≡ false → (is_accepted HOUSE before ≡ false → Nobody (log_of_journal setting before))
          → Nobody (log_of_journal setting (mark ∷ before))
      goes mark other lawful named out earlier =
          let was = sym (same-within mark before other lawful) ∙ out in
          nobody-mark before mark other lawful named was (earlier was)

      by_house : (mark : HouseMark) → LawfulHouse before mark → names_in mark ≡ false → is_accepted HOUSE (House mark ∷ before) ≡ false → (is_accepted HOUSE before ≡ false → Nobody (log_of_journal setting before))
          → Nobody (log_of_journal setting (House mark ∷ before))
      by_house HouseIn lawful named out earlier = absurd (let bad : true ≡ false = out in cc)
      by_house mark lawful named out earlier = goes (House mark) (λ e. absurd (cc)) lawful named out earlier

      by_mark : (mark : Mark) → LawfulMark before mark → names_house mark ≡ false → is_accepted HOUSE (mark ∷ before) ≡ false → (is_accepted HOUSE before ≡ false → Nobody (log_of_journal setting before))
          → Nobody (log_of_journal setting (mark ∷ before))
      by_mark (House mark) lawful named out earlier = by_house mark lawful named out earlier
      by_mark mark lawful named out earlier = goes mark (λ e. absurd (cc)) lawful named out earlier

  unlost : (journal : List Mark) → IsLawful journal → Throughout NamesOthers journal → is_accepted HOUSE journal ≡ false → is_lost (rows_of HOUSE (log_of_journal setting journal)) ≡ false
  unfolding Nobody
  unlost journal lawful others out = ap is_lost (nobody journal lawful others out)

  -- no mark names the forwarder, whose calls greet first
  pub names-others : (journal : List Mark) → Throughout IsOfOthers journal → Throughout (AnswersOpen setting) journal → GreetsFirst (calls_in setting journal) → Throughout NamesOthers journal
  names-others [] others answered greets = tt
  names-others (mark ∷ before) others answered greets = (by_mark mark others.0 answered.0, names-others before others.1 answered.1 earlier)
    where
      earlier : GreetsFirst (calls_in setting before)
      earlier = greets-before (calls_in setting before) (calls_at setting before mark) greets

      by_client : (client id : ℕ) → IsTrue (list_any (is_deferred client id) (asks_of_rows (log_of_journal setting before))) → (b : Bool) → (client == HOUSE) ≡ b → b ≡ false
      by_client client id due false e = refl
      by_client client id due true e =
          let same : client ≡ HOUSE = eqb-true client HOUSE e in
          let none = house-unasked policy pid picks given before others.1 earlier id in
          absurd (let bad : true ≡ false = sym due ∙ (ap (λ (k : ℕ). list_any (is_deferred k id) (asks_of_rows (log_of_journal setting before))) same ∙ none) in cc)

      by_house : (mark : HouseMark) → AnswersOpen setting before (House mark) → NamesOthers before (House mark)
      by_house (HouseAnswer client id reply) due = by_client client id (answer-deferred setting before client id reply due) (client == HOUSE) refl
      by_house mark due = refl

      by_mark : (mark : Mark) → IsOfOthers before mark → AnswersOpen setting before mark → NamesOthers before mark
      by_mark (House mark) other due = by_house mark due
      by_mark mark other due = other

pub house-stays : HouseStays
house-stays policy pid picks replies journal trace h = by_within (is_accepted HOUSE journal) refl
  where
    others : Throughout NamesOthers journal
    others = names-others policy pid picks replies journal h.others h.answered (trace-greets (Begins h.starts ∷ calls_in (by_lists policy pid picks replies) journal) first_trace trace refl h.reached)

    by_within : (b : Bool) → is_accepted HOUSE journal ≡ b → is_lost (rows_of HOUSE (log_of_journal (by_lists policy pid picks replies) journal)) ≡ false
    by_within false out = unlost policy pid picks replies journal h.lawful others out
    by_within true within = ends-unlost policy pid picks replies journal trace (journeys policy pid picks replies (heard-row policy pid) journal trace (record {
      lawful = h.lawful;
      asked = h.asked;
      waits = h.waits;
      speaks = h.speaks;
      others = others;
      right = right-held policy pid picks replies journal h.lawful h.fresh;
      small = remotes-held policy pid picks replies journal h.lawful h.fresh;
      within = within;
      starts = h.starts;
      reached = h.reached;
    }))
