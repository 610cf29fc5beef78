-- Of each socket that was accepted one OPEN is sent at most.
use Rattle.std.proofs.Common.{◌≡◌, ◌≢◌, ◌∙◌, refl, sym, ap, subst, inl, inr, arith, ℕ, zero, suc, ◌+◌, ◌<◌, ◌≤◌, Bool, true, false, cond, List, [], ◌∷◌, ◌++◌, append_assoc, length, length-append, get_or, map, filter, Option, Some, None}
use Rattle.std.specs.Prelude.{◌==◌, not, nat_le, if◌then◌else◌, find, Result, Ok, Err}
use Rattle.std.specs.List.{All, AllPairs}
use Rattle.std.proofs.lemmas.Bool.{cases_Bool, cases_lt, eq-eqb, eqb-true, le-leb, leb-true}
use Rattle.std.proofs.lemmas.List.Elements.{All-nil, All-cons, All-head, All-tail, All-append, All-weaker}
use Rattle.ssh_fields.specs.Fields.{take_u32}
use Rattle.ssh_grammar.specs.Frames.{Frame}
use Rattle.ssh_grammar.specs.Messages.{Message as Recorded}
use Rattle.ssh_grammar.specs.ReadMessage.{read_message as reading}
use Rattle.ssh_grammar.specs.declared.fault.Bad.{Bad}
use Rattle.conn_messages.specs.declared.message.Message.{Message}
use Rattle.conn_messages.specs.declared.message.Message.TheVariants as message
use Rattle.conn_messages.specs.declared.message.Opening.{Opening}
use Rattle.conn_messages.specs.declared.message.Opening.TheVariants as opens
use Rattle.conn_messages.specs.declared.key.Key.TheVariants as keys
use Rattle.mux_outside.specs.HouseCalls.{HouseCall, Happening, Begins, Marks, Receives as ReceivesBytes, Turns, Takes as TakesBytes}
use Rattle.mux_outside.specs.HouseCalls.{Joined, Got, End, Writable, Failed}
use Rattle.mux_outside.specs.declared.house_mark.HouseMark.{HouseMark}
use Rattle.mux_outside.specs.declared.house_mark.HouseMark.TheVariants.{HouseIn, HouseSaid, HouseTook, HouseAsked, HouseAnswer, HouseOrder}
use Rattle.mux_outside.specs.declared.order.Order.{Order}
use Rattle.mux_outside.specs.declared.order.Order.TheVariants as order
use Rattle.mux_outside.specs.declared.own_streams.OwnStream.{OwnStream}
use Rattle.house_relay.specs.Acts.{Takes}
use Rattle.house_relay.specs.Steps.{is_gone}
use Rattle.house_relay.specs.declared.line.ChannelState.{ChannelState}
use Rattle.house_relay.specs.declared.line.ChannelState.TheVariants.{Dialing, Asked, Opened, Offered, Live, Over}
use Rattle.house_forward.specs.Forwardings.{has_request, served_at}
use Rattle.house_forward.specs.Going.{TakesOn}
use Rattle.house_forward.specs.RelayTraces.{Life, Trace, RelayGoesBy, One, OneAtMost, Speaks, Listens, StepsBy, MakesOne, TraceReaches, Follows, SendsBy, MarksIn, OrdersInTrace, TurnsTo, first_trace, with_received}
use Rattle.house_forward.specs.RelayTraces.{RelayReceivesAt, ReceivesOpen, OpensFor, ReceivesMessage, ReceivesReading, ReceivesFrame, RelaysReceiveFrames, cut_off, is_grant}
use Rattle.house_forward.specs.RelayTraces.{joins_after, has_channel, has_stream, has_words, are_full, life_stepped, made_life, kept_in}
use Rattle.house_forward.specs.Opening.{EachIsRecorded, EachWasJoined, OneOpenEach, IsOneJoined, IsJoinedFor, is_open_message, may_send_open, opens_sent_by, opens_in, joins_by, joins_by_turn, joins_in, opener_by, opener_marked, opener_of, openers_in, openers_left}
use Rattle.house_forward.specs.declared.forwarding.Forwarding.{Forwarding}
use Rattle.house_forward.specs.declared.forwarder_state.ForwarderStage.{ForwarderStage}
use Rattle.house_forward.specs.declared.forwarder_state.ForwarderStage.TheVariants.{Control, Proxy}
use Rattle.house_forward.specs.declared.link.LinkStep.{LinkStep}
use Rattle.house_forward.specs.declared.link.LinkStep.TheVariants as step
use Rattle.house_forward.proofs.Traces.{reaches-more}
use Rattle.house_forward.proofs.Directing.{Aimed, Right, all-aimed}
use Rattle.house_forward.proofs.Frames.{Applies, frames}
use Rattle.house_forward.proofs.Opening.{one, opening, receives-one, takes-one, gets-one, says-one}
use Rattle.house_forward.proofs.Settling.{line-step}
use Rattle.house_forward.proofs.Sound.{Each, All as OfAll, Sound, Both, each-back, follow-sound, offered_life, joined_life, step_of}

-- ---- how often a socket is in a list

abbrev hit : ℕ → Option ℕ → ℕ
hit n None = 0
hit n (Some k) = cond (k == n) 1 0

abbrev times : ℕ → List (Option ℕ) → ℕ
times n [] = 0
times n (o ∷ os) = hit n o + times n os

times-append : (n : ℕ) (xs ys : List (Option ℕ)) → times n (xs ++ ys) ≡ times n xs + times n ys
times-append n [] ys = omega arith
times-append n (x ∷ xs) ys = let rest = times-append n xs ys in omega (arith, rest)

hit-its : (k : ℕ) → hit k (Some k) ≡ 1
hit-its k = ap {B = ℕ} (λ (b : Bool). cond b 1 0) (eq-eqb k k refl)

times-at : (k : ℕ) (os : List (Option ℕ)) (j : ℕ) (d : Option ℕ) → j < length os → get_or os j d ≡ Some k → 1 ≤ times k os
times-at k [] j d l e = absurd (omega arith)
times-at k (o ∷ os) zero d l e = let its = ap (hit k) e ∙ hit-its k in omega (arith, its)
times-at k (o ∷ os) (suc j) d l e = let rest = times-at k os j d (omega arith) e in omega (arith, rest)

abbrev IsSome : Option ℕ → Type 0
IsSome o = (n : ℕ) × (o ≡ Some n)

none-later : (o : Option ℕ) (os : List (Option ℕ)) (j : ℕ) (d : Option ℕ) → IsSome o → ((n : ℕ) → times n (o ∷ os) ≤ 1) → j < length os
    → o ≢ get_or os j d
none-later o os j d is most l = λ same.
    let k = is.0 in
    let its = ap (hit k) is.1 ∙ hit-its k in
    let all = most k in
    let there = times-at k os j d l (sym same ∙ is.1) in
    omega (arith, its, all, there)

rest-most : (o : Option ℕ) (os : List (Option ℕ)) → ((n : ℕ) → times n (o ∷ os) ≤ 1) → (n : ℕ) → times n os ≤ 1
rest-most o os most n = let all = most n in omega (arith, all)

-- where each is there once at most, no two are the same
differ : (os : List (Option ℕ)) → All IsSome os → ((n : ℕ) → times n os ≤ 1) → AllPairs (λ a b. a ≢ b) os
differ [] are most i j d l k = absurd (omega arith)
differ (o ∷ os) are most zero zero d l k = absurd (omega arith)
differ (o ∷ os) are most zero (suc j) d l k = none-later o os j d (All-head IsSome o os are) most (omega arith)
differ (o ∷ os) are most (suc i) zero d l k = absurd (omega arith)
differ (o ∷ os) are most (suc i) (suc j) d l k =
    differ os (All-tail IsSome o os are) (rest-most o os most) i j d (omega arith) (omega arith)

-- ---- of the relays for which an OPEN is to be sent

abbrev weigh : ℕ → Life → ℕ
weigh n l = cond (may_send_open l.relay.line) (hit n l.joined) 0

abbrev total : ℕ → List Life → ℕ
total n [] = 0
total n (l ∷ ls) = weigh n l + total n ls

total-append : (n : ℕ) (xs ys : List Life) → total n (xs ++ ys) ≡ total n xs + total n ys
total-append n [] ys = omega arith
total-append n (x ∷ xs) ys = let rest = total-append n xs ys in omega (arith, rest)

left-if : (n : ℕ) (b : Bool) (l : Life) (ls : List Life)
    → times n (map (λ (x : Life). x.joined) (cond b (l ∷ ls) ls)) ≡ cond b (hit n l.joined) 0 + times n (map (λ (x : Life). x.joined) ls)
left-if n true l ls = refl
left-if n false l ls = omega arith

-- those that are left weigh what is in the list
left-total : (n : ℕ) (ls : List Life) → times n (openers_left ls) ≡ total n ls
left-total n [] = refl
left-total n (l ∷ ls) =
    let rest = left-total n ls in
    let all = left-if n (may_send_open l.relay.line) l (filter (λ (x : Life). may_send_open x.relay.line) ls) in
    omega (arith, rest, all)

less-if : (x y : Bool) (h : ℕ) → cond {A = ℕ} x 1 0 ≤ cond y 1 0 → cond x h 0 ≤ cond y h 0
less-if true true h l = omega arith
less-if true false h l = absurd (omega (arith, l))
less-if false true h l = omega arith
less-if false false h l = omega arith

says-if : (o x y : Bool) (h : ℕ) → cond {A = ℕ} o 1 0 + cond x 1 0 ≤ cond y 1 0 → cond o h 0 + cond x h 0 ≤ cond y h 0
says-if true true y h l = absurd (two-in y l)
  where
    two-in : (b : Bool) → 1 + 1 ≤ cond {A = ℕ} b 1 0 → ⊥
    two-in true k = omega (arith, k)
    two-in false k = omega (arith, k)
says-if true false true h l = omega arith
says-if true false false h l = absurd (omega (arith, l))
says-if false x y h l = let its = less-if x y h (omega (arith, l)) in omega (arith, its)

weighs-less : (n : ℕ) (a b : Life) → b.joined ≡ a.joined → one b ≤ one a → weigh n b ≤ weigh n a
weighs-less n a b e l =
    let same = ap (λ (o : Option ℕ). cond (may_send_open b.relay.line) (hit n o) 0) e in
    let its = less-if (may_send_open b.relay.line) (may_send_open a.relay.line) (hit n a.joined) l in
    omega (arith, same, its)

weighs-said : (n : ℕ) (bytes : List ℕ) (a b : Life) → b.joined ≡ a.joined → opening bytes + one b ≤ one a
    → cond (is_open_message bytes) (hit n a.joined) 0 + weigh n b ≤ weigh n a
weighs-said n bytes a b e l =
    let same = ap (λ (o : Option ℕ). cond (may_send_open b.relay.line) (hit n o) 0) e in
    let its = says-if (is_open_message bytes) (may_send_open b.relay.line) (may_send_open a.relay.line) (hit n a.joined) l in
    omega (arith, same, its)

total-one : (n : ℕ) (which : Life → Bool) (so : Life → Life → Type 0) (old new : List Life) (h : One which so old new) (k : ℕ)
    → k + weigh n h.next ≤ weigh n h.life → k + total n new ≤ total n old
total-one n which so old new h k its =
    let were = ap (total n) h.were in
    let are = ap (total n) h.are in
    let a = total-append n h.before (h.life ∷ h.behind) in
    let b = total-append n h.before (h.next ∷ h.behind) in
    omega (arith, its, were, are, a, b)

total-most : (n : ℕ) (which : Life → Bool) (so : Life → Life → Type 0) (old new : List Life)
    → ((a b : Life) → so a b → weigh n b ≤ weigh n a) → OneAtMost which so old new → total n new ≤ total n old
total-most n which so old new less (inl h) =
    let its = less h.life h.next h.goes in
    let all = total-one n which so old new h 0 (omega (arith, its)) in
    omega (arith, all)
total-most n which so old new less (inr h) = let same = ap (total n) h.1 in omega (arith, same)

kept-if : (n : ℕ) (b : Bool) (l : Life) (ls more : List Life) → total n more ≤ total n ls
    → total n (if b then ls else l ∷ more) ≤ weigh n l + total n ls
kept-if n true l ls more h = omega arith
kept-if n false l ls more h = omega (arith, h)

total-kept : (n : ℕ) (ls : List Life) → total n (kept_in ls) ≤ total n ls
total-kept n [] = omega arith
total-kept n (l ∷ ls) = kept-if n (is_gone l.relay) l ls (kept_in ls) (total-kept n ls)

stepped-one : (n : ℕ) (s : LinkStep) (b : Bool) (l : Life) → weigh n (if b then step_of s l else l) ≡ weigh n l
stepped-one n s true l = ap (λ (line : ChannelState). cond (may_send_open line) (hit n l.joined) 0) (line-step s l.relay)
stepped-one n s false l = refl

total-stepped : (n : ℕ) (s : LinkStep) (t : ℕ) (ls : List Life) → total n (map (life_stepped s t) ls) ≡ total n ls
total-stepped n s t [] = refl
total-stepped n s t (l ∷ ls) =
    let its = stepped-one n s (has_stream t l) l in
    let rest = total-stepped n s t ls in
    omega (arith, its, rest)

applies : (n most : ℕ) → Applies (λ ls taken. total n ls ≤ most)
applies n most = record {
  receives = λ number m old new taken sounds h goes. (
      let less = total-most n (has_channel number) (Listens m) old new (λ a b on. weighs-less n a b on.joined (receives-one m a b on)) (inl goes) in
      let kept = total-kept n new in
      omega (arith, h, less, kept)
      );
  offers = λ f number remote window maximum old taken free h. (
      let more = total-append n old (offered_life f number remote window maximum ∷ []) in
      omega (arith, h, more)
      );
}

-- ---- by the calls

said-if : (n : ℕ) (b : Bool) (o : Option ℕ) → times n (cond b (o ∷ []) []) ≡ cond b (hit n o) 0
said-if n true o = omega arith
said-if n false o = refl

says-total : (n : ℕ) (b : Bool) (o : Option Forwarding) (bytes : List ℕ) (old new : Trace) (h : SendsBy b o bytes old new)
    → times n (opener_by b o bytes old new h) + total n new.relay_traces ≤ total n old.relay_traces
says-total n false o bytes old new h = let same = ap (λ (c : Trace). total n c.relay_traces) h.1 in omega (arith, same)
says-total n true (Some f) bytes old new h = let same = ap (λ (c : Trace). total n c.relay_traces) h.1 in omega (arith, same)
says-total n true None bytes old new h =
    let goes = h.1.goes in
    let a = h.1.life in
    let its = weighs-said n bytes a h.1.next goes.1.joined (says-one bytes a h.1.next h.1.is goes) in
    let less = total-one n has_words (Speaks bytes) old.relay_traces h.0 h.1 (cond (is_open_message bytes) (hit n a.joined) 0) its in
    let recorded = said-if n (is_open_message bytes) a.joined in
    let kept = total-kept n h.0 in
    let are = ap (λ (c : Trace). total n c.relay_traces) h.2 in
    omega (arith, less, recorded, kept, are)

steps-total : (n : ℕ) (o : Order) (s : LinkStep) (t : ℕ) (old new : Trace) → StepsBy o s t old new → total n new.relay_traces ≤ total n old.relay_traces
steps-total n o s t old new h =
    let same = total-stepped n s t old.relay_traces in
    let kept = total-kept n (map (life_stepped s t) old.relay_traces) in
    let are = ap (λ (c : Trace). total n c.relay_traces) h.1 in
    omega (arith, same, kept, are)

makes-total : (n : ℕ) (host : List ℕ) (port : ℕ) (number : Option ℕ) (old new : Trace) → MakesOne host port number old new
    → total n new.relay_traces ≤ total n old.relay_traces
makes-total n host port number old new h =
    let were = ap (total n) h.were in
    let are = ap (λ (c : Trace). total n c.relay_traces) h.are in
    let a = total-append n h.before (h.life ∷ h.behind) in
    let b = total-append n (h.before ++ h.behind) (made_life number h.life ∷ []) in
    let c = total-append n h.before h.behind in
    omega (arith, were, are, a, b, c)

same-total : (n : ℕ) (old new : Trace) → new.relay_traces ≡ old.relay_traces → total n new.relay_traces ≤ total n old.relay_traces
same-total n old new e = let same = ap (total n) e in omega (arith, same)

orders-total : (n : ℕ) (o : Order) (number : Option ℕ) (old new : Trace) → OrdersInTrace o number old new → total n new.relay_traces ≤ total n old.relay_traces
orders-total n (order.Listen host port) number old new h = same-total n old new (ap (λ (c : Trace). c.relay_traces) h.2)
orders-total n (order.Connect host port) number old new h = makes-total n host port number old new h
orders-total n (order.Unlisten l) number old new h = same-total n old new (ap (λ (c : Trace). c.relay_traces) h.2)
orders-total n (order.Pause t) number old new h = steps-total n (order.Pause t) (step.Pause true) t old new h
orders-total n (order.Resume t) number old new h = steps-total n (order.Resume t) (step.Pause false) t old new h
orders-total n (order.Finish t) number old new h = steps-total n (order.Finish t) step.Finish t old new h
orders-total n (order.Close t) number old new h = steps-total n (order.Close t) step.Close t old new h

marks-total : (n : ℕ) (mark : HouseMark) (old new : Trace) (h : MarksIn mark old new)
    → times n (opener_marked mark old new h) + total n new.relay_traces ≤ total n old.relay_traces
marks-total n HouseIn old new h = let all = same-total n old new (ap (λ (c : Trace). c.relay_traces) h) in omega (arith, all)
marks-total n (HouseSaid bytes) old new h = says-total n old.forwarding_state.greeted (find has_request old.forwarding_state.all) bytes old new h
marks-total n (HouseTook size) old new h = let all = same-total n old new (ap (λ (c : Trace). c.relay_traces) h) in omega (arith, all)
marks-total n (HouseAsked client id opening ask reply) old new h =
    let all = same-total n old new (ap (λ (c : Trace). c.relay_traces) h.2) in omega (arith, all)
marks-total n (HouseAnswer client id reply) old new h =
    let all = same-total n old new (ap (λ (c : Trace). c.relay_traces) h.2) in omega (arith, all)
marks-total n (HouseOrder o number) old new h = let all = orders-total n o number old new h in omega (arith, all)

-- ---- how many were accepted

joins-at : (n : ℕ) (m : Message) (old new : Trace) → RelayReceivesAt n m old new → new.joins ≡ old.joins
joins-at n m old new (inl h) = ap (λ (c : Trace). c.joins) h.2
joins-at n m old new (inr h) = ap (λ (c : Trace). c.joins) h.1

joins-opens : (o : Option Forwarding) (remote window maximum : ℕ) (old new : Trace) → OpensFor o remote window maximum old new
    → new.joins ≡ old.joins
joins-opens None remote window maximum old new h = ap (λ (c : Trace). c.joins) h
joins-opens (Some f) remote window maximum old new h = ap (λ (c : Trace). c.joins) h.more

joins-open : (what : Opening) (remote window maximum : ℕ) (old new : Trace) → ReceivesOpen what remote window maximum old new
    → new.joins ≡ old.joins
joins-open (opens.Forwarded (keys.Tcp address port)) remote window maximum old new h =
    joins-opens (find (served_at address.now port) old.forwarding_state.all) remote window maximum old new h
joins-open opens.Session remote window maximum old new h = ap (λ (c : Trace). c.joins) h
joins-open (opens.Direct key) remote window maximum old new h = ap (λ (c : Trace). c.joins) h
joins-open (opens.Forwarded (keys.Path path)) remote window maximum old new h = ap (λ (c : Trace). c.joins) h
joins-open opens.Other remote window maximum old new h = ap (λ (c : Trace). c.joins) h

joins-message : (m : Message) (old new : Trace) → ReceivesMessage m old new → new.joins ≡ old.joins
joins-message (message.Transport number rest) old new h = ap (λ (c : Trace). c.joins) h
joins-message (message.GlobalRequest name want rest what) old new h = ap (λ (c : Trace). c.joins) h
joins-message (message.RequestSuccess rest) old new h = ap (λ (c : Trace). c.joins) h
joins-message message.RequestFailure old new h = ap (λ (c : Trace). c.joins) h
joins-message (message.Open kind sender window maximum rest what) old new h = joins-open what sender window maximum old new h
joins-message (message.Confirmation recipient sender window maximum rest) old new h = joins-at recipient (message.Confirmation recipient sender window maximum rest) old new h
joins-message (message.OpenFailure recipient reason text language) old new h = joins-at recipient (message.OpenFailure recipient reason text language) old new h
joins-message (message.Adjust recipient add) old new h = joins-at recipient (message.Adjust recipient add) old new h
joins-message (message.Data recipient bytes) old new h = joins-at recipient (message.Data recipient bytes) old new h
joins-message (message.Extended recipient code bytes) old new h = joins-at recipient (message.Extended recipient code bytes) old new h
joins-message (message.Eof recipient) old new h = joins-at recipient (message.Eof recipient) old new h
joins-message (message.Close recipient) old new h = joins-at recipient (message.Close recipient) old new h
joins-message (message.Request recipient kind want rest) old new h = joins-at recipient (message.Request recipient kind want rest) old new h
joins-message (message.Success recipient) old new h = joins-at recipient (message.Success recipient) old new h
joins-message (message.Failure recipient) old new h = joins-at recipient (message.Failure recipient) old new h

joins-reading : (r : Result Recorded Bad) (old new : Trace) → ReceivesReading r old new → new.joins ≡ old.joins
joins-reading (Err bad) old new h = ap (λ (c : Trace). c.joins) h
joins-reading (Ok said) old new h = joins-message h.0 old new h.2

either-joins : (b : Bool) (a old : Trace) → a.joins ≡ old.joins → (if b then a else old).joins ≡ old.joins
either-joins true a old e = e
either-joins false a old e = refl

joins-frame : (stage : ForwarderStage) (content : List ℕ) (old new : Trace) → ReceivesFrame stage content old new → new.joins ≡ old.joins
joins-frame Control content old new h =
    ap (λ (c : Trace). c.joins) h ∙ either-joins (is_grant (take_u32 content)) _ old refl
joins-frame Proxy content old new h = joins-reading (reading content) old new h

joins-frames : (contents : List (List ℕ)) (old new : Trace) → RelaysReceiveFrames contents old new → new.joins ≡ old.joins
joins-frames [] old new h = ap (λ (c : Trace). c.joins) h.1
joins-frames (content ∷ more) old new h =
    joins-frames more h.2.0 new h.2.2 ∙ joins-frame old.stage content (cut_off (Frame content h.0) old) h.2.0 h.2.1

joins-says : (b : Bool) (o : Option Forwarding) (bytes : List ℕ) (old new : Trace) → SendsBy b o bytes old new → new.joins ≡ old.joins
joins-says false o bytes old new h = ap (λ (c : Trace). c.joins) h.1
joins-says true (Some f) bytes old new h = ap (λ (c : Trace). c.joins) h.1
joins-says true None bytes old new h = ap (λ (c : Trace). c.joins) h.2

joins-order : (o : Order) (number : Option ℕ) (old new : Trace) → OrdersInTrace o number old new → new.joins ≡ old.joins
joins-order (order.Listen host port) number old new h = ap (λ (c : Trace). c.joins) h.2
joins-order (order.Connect host port) number old new h = ap (λ (c : Trace). c.joins) h.are
joins-order (order.Unlisten l) number old new h = ap (λ (c : Trace). c.joins) h.2
joins-order (order.Pause t) number old new h = ap (λ (c : Trace). c.joins) h.1
joins-order (order.Resume t) number old new h = ap (λ (c : Trace). c.joins) h.1
joins-order (order.Finish t) number old new h = ap (λ (c : Trace). c.joins) h.1
joins-order (order.Close t) number old new h = ap (λ (c : Trace). c.joins) h.1

joins-mark : (mark : HouseMark) (old new : Trace) → MarksIn mark old new → new.joins ≡ old.joins
joins-mark HouseIn old new h = ap (λ (c : Trace). c.joins) h
joins-mark (HouseSaid bytes) old new h = joins-says old.forwarding_state.greeted (find has_request old.forwarding_state.all) bytes old new h
joins-mark (HouseTook size) old new h = ap (λ (c : Trace). c.joins) h
joins-mark (HouseAsked client id opening ask reply) old new h = ap (λ (c : Trace). c.joins) h.2
joins-mark (HouseAnswer client id reply) old new h = ap (λ (c : Trace). c.joins) h.2
joins-mark (HouseOrder o number) old new h = joins-order o number old new h

joins-turn : (happening : Happening) (old new : Trace) (relay_traces : List Life)
    → new ≡ record old { relay_traces = relay_traces; joins = joins_after happening old.joins } → new.joins ≡ joins_by_turn happening + old.joins
joins-turn (Joined l t) old new relay_traces h = let its = ap (λ (c : Trace). c.joins) h in omega (arith, its)
joins-turn (Got t bytes) old new relay_traces h = let its = ap (λ (c : Trace). c.joins) h in omega (arith, its)
joins-turn (End t) old new relay_traces h = let its = ap (λ (c : Trace). c.joins) h in omega (arith, its)
joins-turn (Writable t) old new relay_traces h = let its = ap (λ (c : Trace). c.joins) h in omega (arith, its)
joins-turn (Failed t) old new relay_traces h = let its = ap (λ (c : Trace). c.joins) h in omega (arith, its)

joins-follow : (call : HouseCall) (old new : Trace) → Follows call old new → new.joins ≡ joins_by call + old.joins
joins-follow (Begins starts) old new h = let its = ap (λ (c : Trace). c.joins) h.2 in omega (arith, its)
joins-follow (Marks mark) old new h = let its = joins-mark mark old new h in omega (arith, its)
joins-follow (ReceivesBytes bytes) old new h = let its = joins-frames h.0 (with_received bytes old) new h.1 in omega (arith, its)
joins-follow (Turns happening) old new h = joins-turn happening old new h.0 h.2
joins-follow (TakesBytes t bytes) old new h = let its = ap (λ (c : Trace). c.joins) h.2 in omega (arith, its)

joins-reach : (calls : List HouseCall) (old new : Trace) → TraceReaches old calls new → new.joins ≡ joins_in calls + old.joins
joins-reach [] old new h = let its = ap (λ (c : Trace). c.joins) h in omega (arith, its)
joins-reach (call ∷ calls) old new h =
    let first = joins-follow call old h.0 h.1 in
    let rest = joins-reach calls h.0 new h.2 in
    omega (arith, first, rest)

joins-append : (xs ys : List HouseCall) → joins_in (xs ++ ys) ≡ joins_in xs + joins_in ys
joins-append [] ys = omega arith
joins-append (x ∷ xs) ys = let rest = joins-append xs ys in omega (arith, rest)

-- ---- each number is given once

-- whether it was given
abbrev room : ℕ → ℕ → ℕ
room n joins = cond (nat_le (n + 1) joins) 1 0

room-most : (n joins : ℕ) → room n joins ≤ 1
room-most n joins = by (nat_le (n + 1) joins)
  where
    by : (b : Bool) → cond {A = ℕ} b 1 0 ≤ 1
    by true = omega arith
    by false = omega arith

room-given : (n joins : ℕ) → n < joins → room n joins ≡ 1
room-given n joins l = ap {B = ℕ} (λ (b : Bool). cond b 1 0) (le-leb (n + 1) joins (omega (arith, l)))

room-free : (n joins : ℕ) → joins ≤ n → room n joins ≡ 0
room-free n joins l = elim (cases_Bool (nat_le (n + 1) joins)) [
  | inl is ↦ (let given = leb-true (n + 1) joins is in absurd (omega (arith, l, given)))
  | inr isnt ↦ ap {B = ℕ} (λ (b : Bool). cond b 1 0) isnt
]

hit-other : (n k : ℕ) → (k ≡ n → ⊥) → hit n (Some k) ≡ 0
hit-other n k differs = elim (cases_Bool (k == n)) [
  | inl is ↦ absurd (differs (eqb-true k n is))
  | inr isnt ↦ ap {B = ℕ} (λ (b : Bool). cond b 1 0) isnt
]

room-more : (n joins : ℕ) → room n (joins + 1) ≡ room n joins + hit n (Some joins)
room-more n joins = elim (cases_lt n joins) [
  | inl low ↦ (let a = room-given n (joins + 1) (omega (arith, low)) in
      let b = room-given n joins low in
      let c = hit-other n joins (λ e. omega (arith, e, low)) in
      omega (arith, a, b, c))
  | inr high ↦ elim (cases_lt joins n) [
    | inl above ↦ (let a = room-free n (joins + 1) (omega (arith, above)) in
        let b = room-free n joins high in
        let c = hit-other n joins (λ e. omega (arith, e, above)) in
        omega (arith, a, b, c))
    | inr below ↦ (let a = room-given n (joins + 1) (omega (arith, below)) in
        let b = room-free n joins high in
        let same : joins ≡ n = omega (arith, high, below) in
        let c = ap (λ (k : ℕ). hit n (Some k)) same ∙ hit-its n in
        omega (arith, a, b, c))
  ]
]

hit-if : (b : Bool) (h : ℕ) → cond b h 0 ≤ h
hit-if true h = omega arith
hit-if false h = omega arith

turns-total : (n : ℕ) (happening : Happening) (joins : ℕ) (fs : List Forwarding) (old new : List Life) → TurnsTo happening joins fs old new
    → total n new + room n joins ≤ room n (joins_after happening joins) + total n old
turns-total n (Joined l t) joins fs old new h =
    let more = total-append n old (joined_life joins t h.relay ∷ []) in
    let most = hit-if (may_send_open h.relay.line) (hit n (Some joins)) in
    let are = ap (total n) h.more in
    let given = room-more n joins in
    omega (arith, more, most, are, given)
turns-total n (Got t bytes) joins fs old new h =
    let less = total-most n (has_stream t) _ old new (λ a b goes. weighs-less n a b goes.joined (gets-one (not (are_full old)) bytes a b goes)) h in
    omega (arith, less)
turns-total n (End t) joins fs old new h = let are = ap (total n) h in let same = total-stepped n step.End t old in omega (arith, are, same)
turns-total n (Writable t) joins fs old new h = let are = ap (total n) h in let same = total-stepped n step.Writable t old in omega (arith, are, same)
turns-total n (Failed t) joins fs old new h = let are = ap (total n) h in let same = total-stepped n step.Failed t old in omega (arith, are, same)

follow-total : (n : ℕ) (call : HouseCall) (old new : Trace) (h : Follows call old new) → OfAll Sound old
    → times n (opener_of call old new h) + total n new.relay_traces + room n old.joins ≤ room n new.joins + total n old.relay_traces
follow-total n (Begins starts) old new h s =
    let all = same-total n old new (ap (λ (c : Trace). c.relay_traces) h.2) in
    let same = ap (λ (c : Trace). room n c.joins) h.2 in
    omega (arith, all, same)
follow-total n (Marks mark) old new h s =
    let all = marks-total n mark old new h in
    let same = ap (room n) (joins-mark mark old new h) in
    omega (arith, all, same)
follow-total n (ReceivesBytes bytes) old new h s =
    let all = frames (λ ls taken. total n ls ≤ total n old.relay_traces) (applies n (total n old.relay_traces)) h.0 (with_received bytes old) new [] h.1
    (record { relay_traces = s.relay_traces; past = s.past }) (omega arith) in
    let same = ap (room n) (joins-frames h.0 (with_received bytes old) new h.1) in
    omega (arith, all, same)
follow-total n (Turns happening) old new h s =
    let all = turns-total n happening old.joins old.forwarding_state.all old.relay_traces h.0 h.1 in
    let are = ap (λ (c : Trace). total n c.relay_traces) h.2 in
    let joins = ap (λ (c : Trace). room n c.joins) h.2 in
    omega (arith, all, are, joins)
follow-total n (TakesBytes t bytes) old new h s =
    let less = total-most n (has_stream t) (RelayGoesBy (TakesOn bytes) (Takes bytes)) old.relay_traces h.0
    (λ a b goes. weighs-less n a b goes.joined (takes-one bytes a b goes)) h.1 in
    let are = ap (λ (c : Trace). total n c.relay_traces) h.2 in
    let same = ap (λ (c : Trace). room n c.joins) h.2 in
    omega (arith, less, are, same)

reach-total : (n : ℕ) (calls : List HouseCall) (old new : Trace) (h : TraceReaches old calls new) → OfAll Sound old
    → times n (openers_in calls old new h) + total n new.relay_traces + room n old.joins ≤ room n new.joins + total n old.relay_traces
reach-total n [] old new h s =
    let all = ap (λ (c : Trace). total n c.relay_traces) h in
    let same = ap (λ (c : Trace). room n c.joins) h in
    omega (arith, all, same)
reach-total n (call ∷ calls) old new h s =
    let first = follow-total n call old h.0 h.1 s in
    let rest = reach-total n calls h.0 new h.2 (follow-sound call old h.0 h.1 s) in
    let both = times-append n (opener_of call old h.0 h.1) (openers_in calls h.0 new h.2) in
    omega (arith, first, rest, both)

once : (n : ℕ) (calls : List HouseCall) (trace : Trace) (h : TraceReaches first_trace calls trace)
    → times n (openers_in calls first_trace trace h ++ openers_left trace.relay_traces) ≤ 1
once n calls trace h =
    let all = reach-total n calls first_trace trace h (record { relay_traces = tt; past = tt }) in
    let both = times-append n (openers_in calls first_trace trace h) (openers_left trace.relay_traces) in
    let same = left-total n trace.relay_traces in
    let most = room-most n trace.joins in
    omega (arith, all, both, same, most)

-- ---- each is recorded

recorded-if : (b : Bool) (o : Option ℕ) → length (cond b (o ∷ []) []) ≡ cond {A = ℕ} b 1 0
recorded-if true o = refl
recorded-if false o = refl

says-recorded : (b : Bool) (o : Option Forwarding) (bytes : List ℕ) (old new : Trace) (h : SendsBy b o bytes old new)
    → length (opener_by b o bytes old new h) ≡ opening bytes
says-recorded false o bytes old new h = let none = ap opening h.0 in omega (arith, none)
says-recorded true (Some f) bytes old new h = let none = ap opening h.0 in omega (arith, none)
says-recorded true None bytes old new h = recorded-if (is_open_message bytes) h.1.life.joined

marks-recorded : (mark : HouseMark) (old new : Trace) (h : MarksIn mark old new)
    → length (opener_marked mark old new h) ≡ opens_sent_by (Marks mark)
marks-recorded HouseIn old new h = refl
marks-recorded (HouseSaid bytes) old new h = says-recorded old.forwarding_state.greeted (find has_request old.forwarding_state.all) bytes old new h
marks-recorded (HouseTook size) old new h = refl
marks-recorded (HouseAsked client id opening ask reply) old new h = refl
marks-recorded (HouseAnswer client id reply) old new h = refl
marks-recorded (HouseOrder o number) old new h = refl

follow-recorded : (call : HouseCall) (old new : Trace) (h : Follows call old new) → length (opener_of call old new h) ≡ opens_sent_by call
follow-recorded (Begins starts) old new h = refl
follow-recorded (Marks mark) old new h = marks-recorded mark old new h
follow-recorded (ReceivesBytes bytes) old new h = refl
follow-recorded (Turns happening) old new h = refl
follow-recorded (TakesBytes t bytes) old new h = refl

reach-recorded : (calls : List HouseCall) (old new : Trace) (h : TraceReaches old calls new) → length (openers_in calls old new h) ≡ opens_in calls
reach-recorded [] old new h = refl
reach-recorded (call ∷ calls) old new h =
    let first = follow-recorded call old h.0 h.1 in
    let rest = reach-recorded calls h.0 new h.2 in
    let both = length-append (opener_of call old h.0 h.1) (openers_in calls h.0 new h.2) in
    omega (arith, first, rest, both)

pub each-is-recorded : EachIsRecorded
each-is-recorded calls trace h = reach-recorded calls first_trace trace h

-- ---- each was accepted

was-joined : (calls : List HouseCall) (own : Option OwnStream) (socket : Option ℕ) (so : Forwarding → Type 0)
    → IsJoinedFor calls own socket so → IsOneJoined calls socket
was-joined calls own socket so h =
    let call = Turns (Joined h.listener h.stream) in
    let are = joins-reach h.joined.before first_trace h.trace h.joined.reached in
    let all = ap joins_in h.joined.are in
    let both = joins-append h.joined.before (call ∷ h.joined.behind) in
    record { number = h.trace.joins; is = h.which; joined = omega (arith, are, all, both) }

right-joined : (calls : List HouseCall) (own : Option OwnStream) (socket : Option ℕ) (line : ChannelState) → may_send_open line ≡ true
    → Right calls own socket line → IsOneJoined calls socket
right-joined calls own socket (Dialing dialog) e h = was-joined calls own socket _ h
right-joined calls own socket (Asked host port None) e h = was-joined calls own socket _ h
right-joined calls own socket (Asked host port (Some version)) e h = was-joined calls own socket _ h
right-joined calls own socket (Opened version) e h = cc
right-joined calls own socket (Offered remote window maximum) e h = cc
right-joined calls own socket (Live live) e h = cc
right-joined calls own socket Over e h = cc

left-joined-if : (calls : List HouseCall) (b : Bool) (l : Life) (ls : List Life) → may_send_open l.relay.line ≡ b → Aimed calls l
    → All (IsOneJoined calls) (map (λ (x : Life). x.joined) ls) → All (IsOneJoined calls) (map (λ (x : Life). x.joined) (cond b (l ∷ ls) ls))
left-joined-if calls true l ls e p h =
    All-cons (IsOneJoined calls) l.joined (map (λ (x : Life). x.joined) ls) (right-joined calls l.own l.joined l.relay.line e p.right) h
left-joined-if calls false l ls e p h = h

left-joined : (calls : List HouseCall) (ls : List Life) → Each (Both (Aimed calls)) ls → All (IsOneJoined calls) (openers_left ls)
left-joined calls [] h = All-nil (IsOneJoined calls)
left-joined calls (l ∷ ls) h =
    left-joined-if calls (may_send_open l.relay.line) l (filter (λ (x : Life). may_send_open x.relay.line) ls) refl h.0.1 (left-joined calls ls h.1)

joined-more : (calls more : List HouseCall) (socket : Option ℕ) → IsOneJoined calls socket → IsOneJoined (calls ++ more) socket
joined-more calls more socket h =
    let l = h.joined in
    let both = joins-append calls more in
    record { number = h.number; is = h.is; joined = omega (arith, l, both) }

-- one that sends its OPEN was to
said-opens : (l : Life) (bytes : List ℕ) → has_words l ≡ true → is_open_message bytes ≡ true → (opening bytes ≤ one l) → may_send_open l.relay.line ≡ true
said-opens l bytes words is most = by (may_send_open l.relay.line) refl
  where
    by : (b : Bool) → may_send_open l.relay.line ≡ b → may_send_open l.relay.line ≡ true
    by true e = e
    by false e =
        let none = ap {B = ℕ} (λ (b : Bool). cond b 1 0) e in
        let some = ap {B = ℕ} (λ (b : Bool). cond b 1 0) is in
        absurd (omega (arith, most, none, some))

says-joined-if : (calls : List HouseCall) (b : Bool) (socket : Option ℕ) → (b ≡ true → IsOneJoined calls socket)
    → All (IsOneJoined calls) (cond b (socket ∷ []) [])
says-joined-if calls true socket h = All-cons (IsOneJoined calls) socket [] (h refl) (All-nil (IsOneJoined calls))
says-joined-if calls false socket h = All-nil (IsOneJoined calls)

says-joined : (before : List HouseCall) (b : Bool) (o : Option Forwarding) (bytes : List ℕ) (old new : Trace) (h : SendsBy b o bytes old new)
    → Each (Both (Aimed before)) old.relay_traces → All (IsOneJoined before) (opener_by b o bytes old new h)
says-joined before false o bytes old new h p = All-nil (IsOneJoined before)
says-joined before true (Some f) bytes old new h p = All-nil (IsOneJoined before)
says-joined before true None bytes old new h p =
    let a = h.1.life in
    let its = each-back (Both (Aimed before)) h.1.before (a ∷ h.1.behind) (subst (Each (Both (Aimed before))) h.1.were p) in
    let said = says-one bytes a h.1.next h.1.is h.1.goes in
    says-joined-if before (is_open_message bytes) a.joined
    (λ is. right-joined before a.own a.joined a.relay.line (said-opens a bytes h.1.is is (omega (arith, said))) its.0.1.right)

marks-joined : (before : List HouseCall) (mark : HouseMark) (old new : Trace) (h : MarksIn mark old new)
    → Each (Both (Aimed before)) old.relay_traces → All (IsOneJoined before) (opener_marked mark old new h)
marks-joined before HouseIn old new h p = All-nil (IsOneJoined before)
marks-joined before (HouseSaid bytes) old new h p = says-joined before old.forwarding_state.greeted (find has_request old.forwarding_state.all) bytes old new h p
marks-joined before (HouseTook size) old new h p = All-nil (IsOneJoined before)
marks-joined before (HouseAsked client id opening ask reply) old new h p = All-nil (IsOneJoined before)
marks-joined before (HouseAnswer client id reply) old new h p = All-nil (IsOneJoined before)
marks-joined before (HouseOrder o number) old new h p = All-nil (IsOneJoined before)

follow-joined : (before : List HouseCall) (call : HouseCall) (old new : Trace) (h : Follows call old new)
    → Each (Both (Aimed before)) old.relay_traces → All (IsOneJoined before) (opener_of call old new h)
follow-joined before (Begins starts) old new h p = All-nil (IsOneJoined before)
follow-joined before (Marks mark) old new h p = marks-joined before mark old new h p
follow-joined before (ReceivesBytes bytes) old new h p = All-nil (IsOneJoined before)
follow-joined before (Turns happening) old new h p = All-nil (IsOneJoined before)
follow-joined before (TakesBytes t bytes) old new h p = All-nil (IsOneJoined before)

reach-joined : (before calls : List HouseCall) (old new : Trace) → TraceReaches first_trace before old → (h : TraceReaches old calls new)
    → All (IsOneJoined (before ++ calls)) (openers_in calls old new h)
reach-joined before [] old new r h = All-nil (IsOneJoined (before ++ []))
reach-joined before (call ∷ calls) old new r h =
    let first = follow-joined before call old h.0 h.1 (all-aimed before old r).relay_traces in
    let rest = reach-joined (before ++ call ∷ []) calls h.0 new (reaches-more before call first_trace old h.0 r h.1) h.2 in
    All-append (IsOneJoined (before ++ call ∷ calls)) (opener_of call old h.0 h.1) (openers_in calls h.0 new h.2)
    (All-weaker (IsOneJoined before) (IsOneJoined (before ++ call ∷ calls)) (λ o k. joined-more before (call ∷ calls) o k)
    (opener_of call old h.0 h.1) first)
    (subst (λ (cs : List HouseCall). All (IsOneJoined cs) (openers_in calls h.0 new h.2)) (append_assoc before (call ∷ []) calls) rest)

pub each-was-joined : EachWasJoined
each-was-joined calls trace h =
    All-append (IsOneJoined calls) (openers_in calls first_trace trace h) (openers_left trace.relay_traces)
    (reach-joined [] calls first_trace trace refl h) (left-joined calls trace.relay_traces (all-aimed calls trace h).relay_traces)

-- ---- no two are of one

pub one-open-each : OneOpenEach
one-open-each calls trace h =
    let os = openers_in calls first_trace trace h ++ openers_left trace.relay_traces in
    differ os (All-weaker (IsOneJoined calls) IsSome (λ o k. (k.number, k.is)) os (each-was-joined calls trace h)) (λ n. once n calls trace h)
