-- The OPENs that the forwarder sends.
use Rattle.std.proofs.Common.{◌≡◌, ◌∙◌, refl, ap, ◌⊎◌, inl, inr, arith, ℕ, ◌+◌, ◌≤◌, Bool, true, false, cond, List, [], ◌∷◌, ◌++◌, length, map, filter, Option, Some, None}
use Rattle.std.specs.Prelude.{not, if◌then◌else◌, find, is_some}
use Rattle.conn_messages.specs.declared.message.Message.{Message}
use Rattle.conn_messages.specs.declared.message.Message.TheVariants as message
use Rattle.mux_outside.specs.HouseCalls.{HouseCall, Happening, Begins, Marks, Receives as ReceivesBytes, Turns, Takes as TakesBytes}
use Rattle.mux_outside.specs.HouseCalls.{Joined, Got, End, Writable, Failed}
use Rattle.mux_outside.specs.declared.house_mark.HouseMark.{HouseMark}
use Rattle.mux_outside.specs.declared.house_mark.HouseMark.TheVariants.{HouseIn, HouseSaid, HouseTook, HouseAsked, HouseAnswer, HouseOrder}
use Rattle.mux_outside.specs.declared.order.Order.{Order}
use Rattle.mux_outside.specs.declared.order.Order.TheVariants as order
use Rattle.house_relay.specs.Acts.{Reads, Takes}
use Rattle.house_relay.specs.Next.{sends_of, sends_offered}
use Rattle.house_relay.specs.Steps.{is_gone, sent_of, DialsIn}
use Rattle.house_relay.specs.declared.line.Live.{Live as LiveState}
use Rattle.house_relay.specs.declared.line.ChannelState.{ChannelState}
use Rattle.house_relay.specs.declared.line.ChannelState.TheVariants.{Dialing, Asked, Opened, Offered, Live, Over}
use Rattle.house_relay.specs.declared.relay.Relay.{Relay}
use Rattle.house_relay.specs.declared.relay.Outgoing.{Outgoing}
use Rattle.house_relay.specs.declared.relay.Outgoing.TheVariants as outgoing
use Rattle.house_forward.specs.Forwardings.{has_request}
use Rattle.house_forward.specs.Going.{GetsOn, TakesOn}
use Rattle.house_forward.specs.Links.{relay_after_sending}
use Rattle.house_forward.specs.RelayTraces.{Life, Trace, RelayGoesBy, One, OneAtMost, Speaks, Listens, StepsBy, MakesOne, TraceReaches, Follows, SendsBy, MarksIn, OrdersInTrace, TurnsTo, first_trace, with_received}
use Rattle.house_forward.specs.RelayTraces.{has_channel, has_stream, has_words, are_full, life_stepped, made_life, kept_in}
use Rattle.house_forward.specs.Opening.{OneOpenAtMost, is_open_message, opens_sent_by, opens_by_mark, opens_in, joins_by, joins_by_turn, joins_in, may_send_open, still_to_open}
use Rattle.house_forward.specs.Said.{framed, relay_sent_by, direct, payload_of, payload_if}
use Rattle.house_forward.specs.declared.forwarding.Forwarding.{Forwarding}
use Rattle.house_forward.specs.declared.link.LinkStep.{LinkStep}
use Rattle.house_forward.specs.declared.link.LinkStep.TheVariants as step
use Rattle.house_forward.proofs.Frames.{Applies, frames}
use Rattle.house_forward.proofs.Settling.{SettlesBy, FailsLater, settles-receives, settles-takes, settled-said, with-line, line-step}
use Rattle.house_forward.proofs.Sound.{All, Sound, follow-sound, offered_life, joined_life, step_of}

-- ---- where an OPEN is to be sent, as the channel goes on

abbrev opens : ChannelState → ℕ
opens line = cond (may_send_open line) 1 0

pub one-most : (b : Bool) → cond b 1 0 ≤ 1
one-most true = omega arith
one-most false = omega arith

-- it isn't to be from now on, or the channel stays
abbrev pub Settles : ChannelState → ChannelState → Type 0
Settles old new = SettlesBy may_send_open old new

pub may-later : FailsLater may_send_open
may-later = record { live = λ live. refl; over = refl }

settled-most : (old new : ChannelState) → Settles old new → opens new ≤ opens old
settled-most old new (inl e) = let none = ap {B = ℕ} (λ (b : Bool). cond b 1 0) e in omega (arith, none)
settled-most old new (inr e) = let same = ap opens e in omega (arith, same)

-- what isn't dialing keeps its channel as its socket gives bytes
gets-line : (line : ChannelState) (free : Bool) (bytes : List ℕ) (old new : Relay) → old.line ≡ line → DialsIn line free bytes old new
    → opens new.line ≤ opens line
gets-line (Dialing dialog) free bytes old new e h = one-most (may_send_open new.line)
gets-line (Asked host port version) free bytes old new e h = one-most (may_send_open new.line)
gets-line (Opened version) free bytes old new e h = let same = ap opens (h.0 ∙ e) in omega (arith, same)
gets-line (Offered remote window maximum) free bytes old new e h = let same = ap opens (h.0 ∙ e) in omega (arith, same)
gets-line (Live live) free bytes old new e h = let same = ap opens (h.0 ∙ e) in omega (arith, same)
gets-line Over free bytes old new e h = let same = ap opens (h.0 ∙ e) in omega (arith, same)

-- ---- what is sent

abbrev pub opening : List ℕ → ℕ
opening bytes = if is_open_message bytes then 1 else 0

-- in a channel that is confirmed, or offered, no OPEN is sent
live-none : (s : Outgoing) (live : LiveState) (r : Relay) → is_open_message (framed (payload_of (with-line (Live live) r) s)) ≡ false
live-none outgoing.Open live r = refl
live-none outgoing.Confirmation live r = refl
live-none outgoing.OpenFailure live r = refl
live-none outgoing.Close live r = refl
live-none outgoing.Failure live r = refl
live-none (outgoing.Data n) live r = refl
live-none outgoing.Eof live r = refl
live-none (outgoing.Adjust n) live r = refl

offered-none : (s : Outgoing) (remote window maximum : ℕ) (r : Relay)
    → is_open_message (framed (payload_of (with-line (Offered remote window maximum) r) s)) ≡ false
offered-none outgoing.Open remote window maximum r = refl
offered-none outgoing.Confirmation remote window maximum r = refl
offered-none outgoing.OpenFailure remote window maximum r = refl
offered-none outgoing.Close remote window maximum r = refl
offered-none outgoing.Failure remote window maximum r = refl
offered-none (outgoing.Data n) remote window maximum r = refl
offered-none outgoing.Eof remote window maximum r = refl
offered-none (outgoing.Adjust n) remote window maximum r = refl

offered-said : (s : Outgoing) (remote window maximum : ℕ) (r : Relay)
    → may_send_open (sent_of s (with-line (Offered remote window maximum) r)).line ≡ false
offered-said outgoing.Open remote window maximum r = refl
offered-said outgoing.Confirmation remote window maximum r = refl
offered-said outgoing.OpenFailure remote window maximum r = refl
offered-said outgoing.Close remote window maximum r = refl
offered-said outgoing.Failure remote window maximum r = refl
offered-said (outgoing.Data n) remote window maximum r = refl
offered-said outgoing.Eof remote window maximum r = refl
offered-said (outgoing.Adjust n) remote window maximum r = refl

-- what is sent in a channel in which an OPEN is to be sent is that OPEN, and it is none in another
pub record SendsOpen (host : List ℕ) (port : ℕ) (version : Option ℕ) (r : Relay) : Type 0 where
  pub asked : r.line ≡ Asked host port version
  pub words : relay_sent_by r ≡ direct r.number host port

pub record Spoken (r : Relay) : Type 0 where
  pub settled : may_send_open (relay_after_sending (sends_of r) r).line ≡ false
  pub either : (is_open_message (framed (relay_sent_by r)) ≡ false)
      ⊎ ((host : List ℕ) × (port : ℕ) × (version : Option ℕ) × SendsOpen host port version r)

live-spoken : (live : LiveState) (r : Relay) (o : Option Outgoing) → is_some o ≡ true
    → (may_send_open (relay_after_sending o (with-line (Live live) r)).line ≡ false)
    × (is_open_message (framed (payload_if (with-line (Live live) r) o)) ≡ false)
live-spoken live r None e = cc
live-spoken live r (Some s) e = (settled-said may_send_open may-later s live r, live-none s live r)

offered-spoken : (remote window maximum : ℕ) (r : Relay) (o : Option Outgoing) → is_some o ≡ true
    → (may_send_open (relay_after_sending o (with-line (Offered remote window maximum) r)).line ≡ false)
    × (is_open_message (framed (payload_if (with-line (Offered remote window maximum) r) o)) ≡ false)
offered-spoken remote window maximum r None e = cc
offered-spoken remote window maximum r (Some s) e = (offered-said s remote window maximum r, offered-none s remote window maximum r)

spoken-in : (line : ChannelState) (r : Relay) → is_some (sends_of (with-line line r)) ≡ true → Spoken (with-line line r)
spoken-in (Dialing dialog) r e = cc
spoken-in (Asked host port version) r e =
    record { settled = refl; either = inr (host, port, version, record { asked = refl; words = refl }) }
spoken-in (Opened version) r e = cc
spoken-in (Offered remote window maximum) r e =
    let both = offered-spoken remote window maximum r (sends_offered r.socket) e in record { settled = both.0; either = inl both.1 }
spoken-in (Live live) r e =
    let both = live-spoken live r (sends_of (with-line (Live live) r)) e in record { settled = both.0; either = inl both.1 }
spoken-in Over r e = cc

pub spoken : (r : Relay) → is_some (sends_of r) ≡ true → Spoken r
spoken r e = spoken-in r.line r e

-- ---- how many there are

abbrev pub one : Life → ℕ
one l = opens l.relay.line

abbrev count : List Life → ℕ
count [] = 0
count (l ∷ ls) = one l + count ls

counted-if : (b : Bool) (l : Life) (ls : List Life) → length (cond b (l ∷ ls) ls) ≡ cond b 1 0 + length ls
counted-if true l ls = omega arith
counted-if false l ls = omega arith

counted : (ls : List Life) → still_to_open ls ≡ count ls
counted [] = refl
counted (l ∷ ls) =
    let rest = counted ls in
    let all = counted-if (may_send_open l.relay.line) l (filter (λ (x : Life). may_send_open x.relay.line) ls) in
    omega (arith, rest, all)

count-append : (xs ys : List Life) → count (xs ++ ys) ≡ count xs + count ys
count-append [] ys = omega arith
count-append (x ∷ xs) ys = let rest = count-append xs ys in omega (arith, rest)

count-one : (which : Life → Bool) (so : Life → Life → Type 0) (old new : List Life) (k : ℕ)
    → ((a b : Life) → which a ≡ true → so a b → k + one b ≤ one a) → One which so old new → k + count new ≤ count old
count-one which so old new k less h =
    let its = less h.life h.next h.is h.goes in
    let were = ap count h.were in
    let are = ap count h.are in
    let a = count-append h.before (h.life ∷ h.behind) in
    let b = count-append h.before (h.next ∷ h.behind) in
    omega (arith, its, were, are, a, b)

count-most : (which : Life → Bool) (so : Life → Life → Type 0) (old new : List Life)
    → ((a b : Life) → which a ≡ true → so a b → one b ≤ one a) → OneAtMost which so old new → count new ≤ count old
count-most which so old new less (inl h) =
    let all = count-one which so old new 0 (λ a b is goes. (let its = less a b is goes in omega (arith, its))) h in omega (arith, all)
count-most which so old new less (inr h) = let same = ap count h.1 in omega (arith, same)

kept-if : (b : Bool) (l : Life) (ls more : List Life) → count more ≤ count ls
    → count (if b then ls else l ∷ more) ≤ one l + count ls
kept-if true l ls more h = omega arith
kept-if false l ls more h = omega (arith, h)

count-kept : (ls : List Life) → count (kept_in ls) ≤ count ls
count-kept [] = omega arith
count-kept (l ∷ ls) = kept-if (is_gone l.relay) l ls (kept_in ls) (count-kept ls)

stepped-one : (s : LinkStep) (b : Bool) (l : Life) → one (if b then step_of s l else l) ≡ one l
stepped-one s true l = ap opens (line-step s l.relay)
stepped-one s false l = refl

count-stepped : (s : LinkStep) (t : ℕ) (ls : List Life) → count (map (life_stepped s t) ls) ≡ count ls
count-stepped s t [] = refl
count-stepped s t (l ∷ ls) =
    let its = stepped-one s (has_stream t l) l in
    let rest = count-stepped s t ls in
    omega (arith, its, rest)

pub receives-one : (m : Message) (a b : Life) → Listens m a b → one b ≤ one a
receives-one m a b h = settled-most a.relay.line b.relay.line (settles-receives may_send_open may-later m a b h)

pub takes-one : (bytes : List ℕ) (a b : Life) → RelayGoesBy (TakesOn bytes) (Takes bytes) a b → one b ≤ one a
takes-one bytes a b h = settled-most a.relay.line b.relay.line (settles-takes may_send_open may-later bytes a b h)

pub gets-one : (free : Bool) (bytes : List ℕ) (a b : Life) → RelayGoesBy (GetsOn free bytes) (Reads bytes) a b → one b ≤ one a
gets-one free bytes a b h = gets-line a.relay.line free bytes a.relay b.relay refl h.relay.0

says-after : (r : Relay) → Spoken r → opening (framed (relay_sent_by r)) + opens (relay_after_sending (sends_of r) r).line ≤ opens r.line
says-after r h = by h.either
  where
    none : opens (relay_after_sending (sends_of r) r).line ≡ 0
    none = ap {B = ℕ} (λ (b : Bool). cond b 1 0) h.settled

    by : (is_open_message (framed (relay_sent_by r)) ≡ false)
        ⊎ ((host : List ℕ) × (port : ℕ) × (version : Option ℕ) × SendsOpen host port version r)
        → opening (framed (relay_sent_by r)) + opens (relay_after_sending (sends_of r) r).line ≤ opens r.line
    by (inl e) =
        let no = ap {B = ℕ} (λ (b : Bool). cond b 1 0) e in
        let its = none in
        omega (arith, no, its)
    by (inr x) =
        let asked = ap opens x.3.asked in
        let most = one-most (is_open_message (framed (relay_sent_by r))) in
        let its = none in
        omega (arith, asked, most, its)

pub says-one : (bytes : List ℕ) (a b : Life) → has_words a ≡ true → Speaks bytes a b → opening bytes + one b ≤ one a
says-one bytes a b is h =
    let its = says-after a.relay (spoken a.relay is) in
    let said = ap opening h.0 in
    let line = ap (λ (r : Relay). opens r.line) h.1.relay.0 in
    omega (arith, its, said, line)

applies : (most : ℕ) → Applies (λ ls taken. count ls ≤ most)
applies most = record {
  receives = λ n m old new taken sounds h goes. (
      let less = count-most (has_channel n) (Listens m) old new (λ a b is on. receives-one m a b on) (inl goes) in
      let kept = count-kept new in
      omega (arith, h, less, kept)
      );
  offers = λ f number remote window maximum old taken free h. (
      let more = count-append old (offered_life f number remote window maximum ∷ []) in
      omega (arith, h, more)
      );
}

-- ---- by the calls

says-count : (b : Bool) (o : Option Forwarding) (bytes : List ℕ) (old new : Trace) → SendsBy b o bytes old new
    → opening bytes + count new.relay_traces ≤ count old.relay_traces
says-count false o bytes old new h =
    let same = ap (λ (c : Trace). count c.relay_traces) h.1 in
    let none = ap opening h.0 in
    omega (arith, same, none)
says-count true (Some f) bytes old new h =
    let same = ap (λ (c : Trace). count c.relay_traces) h.1 in
    let none = ap opening h.0 in
    omega (arith, same, none)
says-count true None bytes old new h =
    let less = count-one has_words (Speaks bytes) old.relay_traces h.0 (opening bytes) (says-one bytes) h.1 in
    let kept = count-kept h.0 in
    let are = ap (λ (c : Trace). count c.relay_traces) h.2 in
    omega (arith, less, kept, are)

steps-count : (o : Order) (s : LinkStep) (t : ℕ) (old new : Trace) → StepsBy o s t old new → count new.relay_traces ≤ count old.relay_traces
steps-count o s t old new h =
    let same = count-stepped s t old.relay_traces in
    let kept = count-kept (map (life_stepped s t) old.relay_traces) in
    let are = ap (λ (c : Trace). count c.relay_traces) h.1 in
    omega (arith, same, kept, are)

makes-count : (host : List ℕ) (port : ℕ) (number : Option ℕ) (old new : Trace) → MakesOne host port number old new
    → count new.relay_traces ≤ count old.relay_traces
makes-count host port number old new h =
    let were = ap count h.were in
    let are = ap (λ (c : Trace). count c.relay_traces) h.are in
    let a = count-append h.before (h.life ∷ h.behind) in
    let b = count-append (h.before ++ h.behind) (made_life number h.life ∷ []) in
    let c = count-append h.before h.behind in
    omega (arith, were, are, a, b, c)

same-count : (old new : Trace) → new.relay_traces ≡ old.relay_traces → count new.relay_traces ≤ count old.relay_traces
same-count old new e = let same = ap count e in omega (arith, same)

orders-count : (o : Order) (number : Option ℕ) (old new : Trace) → OrdersInTrace o number old new → count new.relay_traces ≤ count old.relay_traces
orders-count (order.Listen host port) number old new h = same-count old new (ap (λ (c : Trace). c.relay_traces) h.2)
orders-count (order.Connect host port) number old new h = makes-count host port number old new h
orders-count (order.Unlisten l) number old new h = same-count old new (ap (λ (c : Trace). c.relay_traces) h.2)
orders-count (order.Pause t) number old new h = steps-count (order.Pause t) (step.Pause true) t old new h
orders-count (order.Resume t) number old new h = steps-count (order.Resume t) (step.Pause false) t old new h
orders-count (order.Finish t) number old new h = steps-count (order.Finish t) step.Finish t old new h
orders-count (order.Close t) number old new h = steps-count (order.Close t) step.Close t old new h

marks-count : (mark : HouseMark) (old new : Trace) → MarksIn mark old new → opens_by_mark mark + count new.relay_traces ≤ count old.relay_traces
marks-count HouseIn old new h = let all = same-count old new (ap (λ (c : Trace). c.relay_traces) h) in omega (arith, all)
marks-count (HouseSaid bytes) old new h = says-count old.forwarding_state.greeted (find has_request old.forwarding_state.all) bytes old new h
marks-count (HouseTook size) old new h = let all = same-count old new (ap (λ (c : Trace). c.relay_traces) h) in omega (arith, all)
marks-count (HouseAsked client id opening ask reply) old new h =
    let all = same-count old new (ap (λ (c : Trace). c.relay_traces) h.2) in omega (arith, all)
marks-count (HouseAnswer client id reply) old new h =
    let all = same-count old new (ap (λ (c : Trace). c.relay_traces) h.2) in omega (arith, all)
marks-count (HouseOrder o number) old new h = let all = orders-count o number old new h in omega (arith, all)

turns-count : (happening : Happening) (joins : ℕ) (fs : List Forwarding) (old new : List Life) → TurnsTo happening joins fs old new
    → count new ≤ joins_by_turn happening + count old
turns-count (Joined l t) joins fs old new h =
    let more = count-append old (joined_life joins t h.relay ∷ []) in
    let most = one-most (may_send_open h.relay.line) in
    let are = ap count h.more in
    omega (arith, more, most, are)
turns-count (Got t bytes) joins fs old new h =
    let less = count-most (has_stream t) _ old new (λ a b is goes. gets-one (not (are_full old)) bytes a b goes) h in omega (arith, less)
turns-count (End t) joins fs old new h = let are = ap count h in let same = count-stepped step.End t old in omega (arith, are, same)
turns-count (Writable t) joins fs old new h = let are = ap count h in let same = count-stepped step.Writable t old in omega (arith, are, same)
turns-count (Failed t) joins fs old new h = let are = ap count h in let same = count-stepped step.Failed t old in omega (arith, are, same)

follow-count : (call : HouseCall) (old new : Trace) → Follows call old new → All Sound old
    → opens_sent_by call + count new.relay_traces ≤ joins_by call + count old.relay_traces
follow-count (Begins starts) old new h s = let all = same-count old new (ap (λ (c : Trace). c.relay_traces) h.2) in omega (arith, all)
follow-count (Marks mark) old new h s = let all = marks-count mark old new h in omega (arith, all)
follow-count (ReceivesBytes bytes) old new h s =
    let all = frames (λ ls taken. count ls ≤ count old.relay_traces) (applies (count old.relay_traces)) h.0 (with_received bytes old) new [] h.1
    (record { relay_traces = s.relay_traces; past = s.past }) (omega arith) in
    omega (arith, all)
follow-count (Turns happening) old new h s =
    let all = turns-count happening old.joins old.forwarding_state.all old.relay_traces h.0 h.1 in
    let are = ap (λ (c : Trace). count c.relay_traces) h.2 in
    omega (arith, all, are)
follow-count (TakesBytes t bytes) old new h s =
    let less = count-most (has_stream t) (RelayGoesBy (TakesOn bytes) (Takes bytes)) old.relay_traces h.0 (λ a b is goes. takes-one bytes a b goes) h.1 in
    let are = ap (λ (c : Trace). count c.relay_traces) h.2 in
    omega (arith, less, are)

reach-count : (calls : List HouseCall) (old new : Trace) → TraceReaches old calls new → All Sound old
    → opens_in calls + count new.relay_traces ≤ joins_in calls + count old.relay_traces
reach-count [] old new h s = let all = same-count old new (ap (λ (c : Trace). c.relay_traces) h) in omega (arith, all)
reach-count (call ∷ calls) old new h s =
    let first = follow-count call old h.0 h.1 s in
    let rest = reach-count calls h.0 new h.2 (follow-sound call old h.0 h.1 s) in
    omega (arith, first, rest)

pub one-open-at-most : OneOpenAtMost
one-open-at-most calls trace h =
    let all = reach-count calls first_trace trace h (record { relay_traces = tt; past = tt }) in
    let same = counted trace.relay_traces in
    omega (arith, all, same)
