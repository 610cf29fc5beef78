-- The channel numbers of the relays, and their streams.
use Rattle.std.proofs.Common.{◌≡◌, ◌∙◌, refl, sym, ap, subst, arith, ℕ, zero, suc, ◌<◌, ◌^◌, Bool, true, false, cond, List, [], ◌∷◌, ◌++◌, length, get_or, map, Option, Some, None}
use Rattle.std.specs.Prelude.{◌≢◌, ◌==◌, not, if◌then◌else◌, filter, find, IfSome}
use Rattle.std.specs.List.{AllByRecursion, AllPairs, list_any, cons_option}
use Rattle.std.specs.Option.{option_to_list}
use Rattle.std.proofs.lemmas.Bool.{and_parts, or_parts, or_from, both_ways, eq-eqb, ne_eqb, eqb-false}
use Rattle.std.proofs.lemmas.List.{append-nil, map-append}
use Rattle.conn_messages.specs.declared.message.Message.{Message}
use Rattle.conn_messages.specs.declared.message.Message.TheVariants as message
use Rattle.mux_outside.specs.HouseCalls.{HouseCall, Happening, Begins, Marks, Receives as ReceivesBytes, Turns, Takes as TakesBytes}
use Rattle.mux_outside.specs.HouseCalls.{Joined, Got, End, Writable, Failed}
use Rattle.mux_outside.specs.Streams.{among, without}
use Rattle.mux_outside.specs.declared.house_mark.HouseMark.{HouseMark}
use Rattle.mux_outside.specs.declared.house_mark.HouseMark.TheVariants.{HouseIn, HouseSaid, HouseTook, HouseAsked, HouseAnswer, HouseOrder}
use Rattle.mux_outside.specs.declared.order.Order.{Order}
use Rattle.mux_outside.specs.declared.order.Order.TheVariants as order
use Rattle.mux_outside.specs.declared.own_streams.OwnStream.{OwnStream}
use Rattle.house_relay.specs.Acts.{RelayAct, Reads, Takes}
use Rattle.house_relay.specs.Next.{sends_of}
use Rattle.house_relay.specs.Relay.{socket_stream_of}
use Rattle.house_relay.specs.Steps.{is_socket_closed, is_gone, sent_of, confirmed_in, refused_in, data_received}
use Rattle.house_relay.specs.Relay.{delivers}
use Rattle.house_relay.specs.ChannelState.{is_counted_channel}
use Rattle.house_relay.specs.declared.line.ChannelState.{ChannelState}
use Rattle.house_relay.specs.declared.line.ChannelState.TheVariants.{Dialing, Asked, Opened, Offered, Live, Over}
use Rattle.house_relay.specs.declared.relay.Relay.{Relay}
use Rattle.house_relay.specs.declared.relay.Outgoing.{Outgoing}
use Rattle.house_relay.specs.declared.relay.Outgoing.TheVariants as outgoing
use Rattle.house_relay.specs.declared.relay.RelaySocket.{RelaySocket}
use Rattle.house_relay.specs.declared.relay.RelaySocket.TheVariants as socket
use Rattle.house_forward.specs.Forwardings.{has_request}
use Rattle.house_forward.specs.Going.{GetsOn, TakesOn}
use Rattle.house_forward.specs.Heard.{received_of}
use Rattle.house_forward.specs.Links.{relay_after_sending, relay_after}
use Rattle.house_forward.specs.RelayTraces.{Life, Trace, RelayGoesBy, Speaks, Listens, StepsBy, MakesOne, TraceReaches, Follows, SendsBy, MarksIn, OrdersInTrace, TurnsTo, first_trace, with_received}
use Rattle.house_forward.specs.RelayTraces.{has_channel, has_stream, is_stream, has_words, unmade, are_full, link_own_after, own_made, life_stepped, made_life, kept_in}
use Rattle.house_forward.specs.Numbers.{ChannelsAreSmall, ChannelsDiffer, StreamsAreTheirs, StreamsDiffer, EachIsNew, BringsNew, relay_channels_of, open_streams, own_stream_number, streams_open_after, made_by, stream_closed_by, without_closed}
use Rattle.house_forward.specs.declared.forwarding.Forwarding.{Forwarding}
use Rattle.house_forward.specs.declared.link.LinkStep.{LinkStep}
use Rattle.house_forward.specs.declared.link.LinkStep.TheVariants as step
use Rattle.house_forward.proofs.Differing.{Apart}
use Rattle.house_forward.proofs.Frames.{Applies, frames}
use Rattle.house_forward.proofs.Lists.{any-map, one-passes}
use Rattle.house_forward.proofs.Picking.{pick-none, pick-push, pick-kept, pick-stepped, one-picks, most-picks, one-maps, most-maps}
use Rattle.house_forward.proofs.Sound.{Each, All, Kept, Sound, all-reach, offered_life, joined_life, step_of, each-back, each-one, sound-says, sound-receives, stepped-sound, follow-sound}

-- ---- numbers of which no two are the same

differs : (n : ℕ) (ns : List ℕ) (j d : ℕ) → among n ns ≡ false → j < length ns → n ≢ get_or ns j d
differs n ns j d none l =
    λ e. both_ways (among n ns) none (one-passes (λ s. s == n) ns j d l (eq-eqb (get_or ns j d) n (sym e)))

pub pairs : (ns : List ℕ) → Apart ns → AllPairs (λ a b. a ≢ b) ns
pairs [] h i j d l k = absurd (omega arith)
pairs (n ∷ ns) h zero zero d l k = absurd (omega arith)
pairs (n ∷ ns) h zero (suc j) d l k = differs n ns j d h.0 (omega arith)
pairs (n ∷ ns) h (suc i) zero d l k = absurd (omega arith)
pairs (n ∷ ns) h (suc i) (suc j) d l k = pairs ns h.1 i j d (omega arith) (omega arith)

other-way : (a b : ℕ) → (a == b) ≡ false → (b == a) ≡ false
other-way a b e = ne_eqb b a (λ f. eqb-false a b e (sym f))

among-push : (x n : ℕ) (ns : List ℕ) → among x ns ≡ false → (n == x) ≡ false → among x (ns ++ n ∷ []) ≡ false
among-push x n [] e f = or_from (n == x) false f refl
among-push x n (y ∷ ns) e f =
    let both = or_parts (y == x) (among x ns) e in
    or_from (y == x) (among x (ns ++ n ∷ [])) both.0 (among-push x n ns both.1 f)

apart-push : (n : ℕ) (ns : List ℕ) → Apart ns → among n ns ≡ false → Apart (ns ++ n ∷ [])
apart-push n [] h e = (refl, tt)
apart-push n (x ∷ ns) h e =
    let both = or_parts (x == n) (among n ns) e in
    (among-push x n ns h.0 (other-way x n both.0), apart-push n ns h.1 both.1)

among-out : (y x : ℕ) (a b : List ℕ) → among y (a ++ x ∷ b) ≡ false → (among y (a ++ b) ≡ false) × ((x == y) ≡ false)
among-out y x [] b e = (let both = or_parts (x == y) (among y b) e in (both.1, both.0))
among-out y x (z ∷ a) b e =
    let both = or_parts (z == y) (among y (a ++ x ∷ b)) e in
    let rest = among-out y x a b both.1 in
    (or_from (z == y) (among y (a ++ b)) both.0 rest.0, rest.1)

apart-out : (x : ℕ) (a b : List ℕ) → Apart (a ++ x ∷ b) → Apart (a ++ b) × (among x (a ++ b) ≡ false)
apart-out x [] b h = (h.1, h.0)
apart-out x (y ∷ a) b h =
    let out = among-out y x a b h.0 in
    let rest = apart-out x a b h.1 in
    ((out.0, rest.0), or_from (y == x) (among x (a ++ b)) (other-way x y out.1) rest.1)

among-filtered : (p : ℕ → Bool) (n : ℕ) (ns : List ℕ) → among n ns ≡ false → among n (filter p ns) ≡ false
among-filtered p n [] e = refl
among-filtered p n (x ∷ ns) e =
    let both = or_parts (x == n) (among n ns) e in
    either (p x) (among-filtered p n ns both.1) both.0
  where
    either : (b : Bool) → among n (filter p ns) ≡ false → (x == n) ≡ false
        → among n (cond b (x ∷ filter p ns) (filter p ns)) ≡ false
    either true rest e = or_from (x == n) (among n (filter p ns)) e rest
    either false rest e = rest

apart-filtered : (p : ℕ → Bool) (ns : List ℕ) → Apart ns → Apart (filter p ns)
apart-filtered p [] h = tt
apart-filtered p (x ∷ ns) h = either (p x) (apart-filtered p ns h.1) (among-filtered p x ns h.0)
  where
    either : (b : Bool) → Apart (filter p ns) → among x (filter p ns) ≡ false → Apart (cond b (x ∷ filter p ns) (filter p ns))
    either true rest none = (none, rest)
    either false rest none = rest

-- ---- a channel's number stays

pub number-said : (s : Outgoing) (r : Relay) → (sent_of s r).number ≡ r.number
number-said outgoing.Open r = refl
number-said outgoing.Confirmation r = refl
number-said outgoing.OpenFailure r = refl
number-said outgoing.Close r = refl
number-said outgoing.Failure r = refl
number-said (outgoing.Data n) r = refl
number-said outgoing.Eof r = refl
number-said (outgoing.Adjust n) r = refl

number-after : (o : Option Outgoing) (r : Relay) → (relay_after_sending o r).number ≡ r.number
number-after None r = refl
number-after (Some s) r = number-said s r

number-confirmed : (line : ChannelState) (remote window maximum : ℕ) (r : Relay) → (confirmed_in line remote window maximum r).number ≡ r.number
number-confirmed (Dialing dialog) remote window maximum r = refl
number-confirmed (Asked host port version) remote window maximum r = refl
number-confirmed (Opened version) remote window maximum r = refl
number-confirmed (Offered theirs room most) remote window maximum r = refl
number-confirmed (Live live) remote window maximum r = refl
number-confirmed Over remote window maximum r = refl

number-refused : (line : ChannelState) (reason : ℕ) (r : Relay) → (refused_in line reason r).number ≡ r.number
number-refused (Dialing dialog) reason r = refl
number-refused (Asked host port version) reason r = refl
number-refused (Opened version) reason r = refl
number-refused (Offered theirs room most) reason r = refl
number-refused (Live live) reason r = refl
number-refused Over reason r = refl

number-data : (b : Bool) (bytes : List ℕ) (r : Relay) → (data_received b bytes r).number ≡ r.number
number-data true bytes r = refl
number-data false bytes r = refl

pub number-heard : (m : Message) (r : Relay) → (received_of m r).number ≡ r.number
number-heard (message.Transport number rest) r = refl
number-heard (message.GlobalRequest name want rest what) r = refl
number-heard (message.RequestSuccess rest) r = refl
number-heard message.RequestFailure r = refl
number-heard (message.Open kind sender window maximum rest what) r = refl
number-heard (message.Confirmation recipient sender window maximum rest) r = number-confirmed r.line sender window maximum r
number-heard (message.OpenFailure recipient reason text language) r = number-refused r.line reason r
number-heard (message.Adjust recipient add) r = refl
number-heard (message.Data recipient bytes) r = number-data (delivers r) bytes.now r
number-heard (message.Extended recipient code bytes) r = refl
number-heard (message.Eof recipient) r = refl
number-heard (message.Close recipient) r = refl
number-heard (message.Request recipient kind want rest) r = refl
number-heard (message.Success recipient) r = refl
number-heard (message.Failure recipient) r = refl

number-step : (s : LinkStep) (r : Relay) → (relay_after s r).number ≡ r.number
number-step (step.Pause b) r = refl
number-step step.Finish r = refl
number-step step.End r = refl
number-step step.Close r = refl
number-step step.Writable r = refl
number-step step.Failed r = refl

abbrev channel : Life → ℕ
channel l = l.relay.number

gone-apart : (b : Bool) (l : Life) (ls more : List Life) → Apart (relay_channels_of (l ∷ ls)) → Apart (relay_channels_of more)
    → among (channel l) (relay_channels_of more) ≡ false → Apart (relay_channels_of (if b then ls else l ∷ more))
gone-apart true l ls more h rest none = h.1
gone-apart false l ls more h rest none = (none, rest)

gone-among : (n : ℕ) (b : Bool) (l : Life) (ls more : List Life) → among n (relay_channels_of (l ∷ ls)) ≡ false
    → among n (relay_channels_of more) ≡ false → among n (relay_channels_of (if b then ls else l ∷ more)) ≡ false
gone-among n true l ls more h rest = (or_parts (channel l == n) (among n (relay_channels_of ls)) h).1
gone-among n false l ls more h rest =
    or_from (channel l == n) (among n (relay_channels_of more)) (or_parts (channel l == n) (among n (relay_channels_of ls)) h).0 rest

kept-among : (n : ℕ) (ls : List Life) → among n (relay_channels_of ls) ≡ false → among n (relay_channels_of (kept_in ls)) ≡ false
kept-among n [] h = refl
kept-among n (l ∷ ls) h =
    gone-among n (is_gone l.relay) l ls (kept_in ls) h
    (kept-among n ls (or_parts (channel l == n) (among n (relay_channels_of ls)) h).1)

kept-apart : (ls : List Life) → Apart (relay_channels_of ls) → Apart (relay_channels_of (kept_in ls))
kept-apart [] h = tt
kept-apart (l ∷ ls) h =
    gone-apart (is_gone l.relay) l ls (kept_in ls) h (kept-apart ls h.1) (kept-among (channel l) ls h.0)

one-more : (ls : List Life) (l : Life) → list_any (has_channel (channel l)) ls ≡ false → Apart (relay_channels_of ls)
    → Apart (relay_channels_of (ls ++ l ∷ []))
one-more ls l free h =
    subst Apart (sym (map-append channel ls (l ∷ [])))
    (apart-push (channel l) (relay_channels_of ls) h (any-map (λ (s : ℕ). s == channel l) channel ls ∙ free))

stepped-if : (s : LinkStep) (b : Bool) (l : Life) → channel (if b then step_of s l else l) ≡ channel l
stepped-if s true l = number-step s l.relay
stepped-if s false l = refl

stepped-same : (s : LinkStep) (t : ℕ) (ls : List Life) → relay_channels_of (map (life_stepped s t) ls) ≡ relay_channels_of ls
stepped-same s t [] = refl
stepped-same s t (l ∷ ls) =
    ap (λ n. n ∷ relay_channels_of (map (life_stepped s t) ls)) (stepped-if s (has_stream t l) l) ∙ ap (λ ns. channel l ∷ ns) (stepped-same s t ls)

says-same : (bytes : List ℕ) (a b : Life) → Speaks bytes a b → channel b ≡ channel a
says-same bytes a b h = ap (λ (r : Relay). r.number) h.1.relay.0 ∙ number-after (sends_of a.relay) a.relay

receives-same : (m : Message) (a b : Life) → Listens m a b → channel b ≡ channel a
receives-same m a b h = ap (λ (r : Relay). r.number) h.relay.0 ∙ number-heard m a.relay

gets-same : (free : Bool) (bytes : List ℕ) (a b : Life) → RelayGoesBy (GetsOn free bytes) (Reads bytes) a b → channel b ≡ channel a
gets-same free bytes a b h = h.relay.3

takes-same : (bytes : List ℕ) (a b : Life) → RelayGoesBy (TakesOn bytes) (Takes bytes) a b → channel b ≡ channel a
takes-same bytes a b h = ap (λ (r : Relay). r.number) h.relay.0

-- ---- the channels of a trace

abbrev ChannelsApart : List Life → Type 0
ChannelsApart ls = Apart (relay_channels_of ls)

applies-channels : Applies (λ ls taken. ChannelsApart ls)
applies-channels = record {
  receives = λ n m old new taken sounds h one.
      kept-apart new (subst Apart (sym (one-maps channel (has_channel n) (Listens m) old new (receives-same m) one)) h);
  offers = λ f number remote window maximum old taken free h. one-more old (offered_life f number remote window maximum) free h;
}

channels-says : (b : Bool) (o : Option Forwarding) (bytes : List ℕ) (old new : Trace) → SendsBy b o bytes old new
    → ChannelsApart old.relay_traces → ChannelsApart new.relay_traces
channels-says false o bytes old new h a = subst (λ (c : Trace). ChannelsApart c.relay_traces) (sym h.1) a
channels-says true (Some f) bytes old new h a = subst (λ (c : Trace). ChannelsApart c.relay_traces) (sym h.1) a
channels-says true None bytes old new h a =
    subst (λ (c : Trace). ChannelsApart c.relay_traces) (sym h.2)
    (kept-apart h.0 (subst Apart (sym (one-maps channel has_words (Speaks bytes) old.relay_traces h.0 (says-same bytes) h.1)) a))

channels-step : (o : Order) (s : LinkStep) (t : ℕ) (old new : Trace) → StepsBy o s t old new → ChannelsApart old.relay_traces
    → ChannelsApart new.relay_traces
channels-step o s t old new h a =
    subst (λ (c : Trace). ChannelsApart c.relay_traces) (sym h.1)
    (kept-apart (map (life_stepped s t) old.relay_traces) (subst Apart (sym (stepped-same s t old.relay_traces)) a))

channels-make : (host : List ℕ) (port : ℕ) (number : Option ℕ) (old new : Trace) → MakesOne host port number old new
    → ChannelsApart old.relay_traces → ChannelsApart new.relay_traces
channels-make host port number old new h a =
    let out = apart-out (channel h.life) (relay_channels_of h.before) (relay_channels_of h.behind)
    (subst Apart (ap relay_channels_of h.were ∙ map-append channel h.before (h.life ∷ h.behind)) a) in
    subst (λ (c : Trace). ChannelsApart c.relay_traces) (sym h.are)
    (subst Apart
    (sym (map-append channel (h.before ++ h.behind) (made_life number h.life ∷ []) ∙ ap (λ ns. ns ++ channel h.life ∷ []) (map-append channel h.before h.behind)))
    (apart-push (channel h.life) (relay_channels_of h.before ++ relay_channels_of h.behind) out.0 out.1))

channels-order : (o : Order) (number : Option ℕ) (old new : Trace) → OrdersInTrace o number old new → ChannelsApart old.relay_traces
    → ChannelsApart new.relay_traces
channels-order (order.Listen host port) number old new h a = subst (λ (c : Trace). ChannelsApart c.relay_traces) (sym h.2) a
channels-order (order.Connect host port) number old new h a = channels-make host port number old new h a
channels-order (order.Unlisten l) number old new h a = subst (λ (c : Trace). ChannelsApart c.relay_traces) (sym h.2) a
channels-order (order.Pause t) number old new h a = channels-step (order.Pause t) (step.Pause true) t old new h a
channels-order (order.Resume t) number old new h a = channels-step (order.Resume t) (step.Pause false) t old new h a
channels-order (order.Finish t) number old new h a = channels-step (order.Finish t) step.Finish t old new h a
channels-order (order.Close t) number old new h a = channels-step (order.Close t) step.Close t old new h a

channels-mark : (mark : HouseMark) (old new : Trace) → MarksIn mark old new → ChannelsApart old.relay_traces → ChannelsApart new.relay_traces
channels-mark HouseIn old new h a = subst (λ (c : Trace). ChannelsApart c.relay_traces) (sym h) a
channels-mark (HouseSaid bytes) old new h a = channels-says old.forwarding_state.greeted (find has_request old.forwarding_state.all) bytes old new h a
channels-mark (HouseTook size) old new h a = subst (λ (c : Trace). ChannelsApart c.relay_traces) (sym h) a
channels-mark (HouseAsked client id opening ask reply) old new h a = subst (λ (c : Trace). ChannelsApart c.relay_traces) (sym h.2) a
channels-mark (HouseAnswer client id reply) old new h a = subst (λ (c : Trace). ChannelsApart c.relay_traces) (sym h.2) a
channels-mark (HouseOrder o number) old new h a = channels-order o number old new h a

channels-turn : (happening : Happening) (joins : ℕ) (fs : List Forwarding) (old new : List Life) → TurnsTo happening joins fs old new → ChannelsApart old
    → ChannelsApart new
channels-turn (Joined l t) joins fs old new h a = subst ChannelsApart (sym h.more) (one-more old (joined_life joins t h.relay) h.free a)
channels-turn (Got t bytes) joins fs old new h a =
    subst Apart (sym (most-maps channel (has_stream t) _ old new (gets-same (not (are_full old)) bytes) h)) a
channels-turn (End t) joins fs old new h a = subst ChannelsApart (sym h) (subst Apart (sym (stepped-same step.End t old)) a)
channels-turn (Writable t) joins fs old new h a = subst ChannelsApart (sym h) (subst Apart (sym (stepped-same step.Writable t old)) a)
channels-turn (Failed t) joins fs old new h a = subst ChannelsApart (sym h) (subst Apart (sym (stepped-same step.Failed t old)) a)

channels-follow : (call : HouseCall) (old new : Trace) → Follows call old new → All Sound old → ChannelsApart old.relay_traces
    → ChannelsApart new.relay_traces
channels-follow (Begins starts) old new h s a = subst (λ (c : Trace). ChannelsApart c.relay_traces) (sym h.2) a
channels-follow (Marks mark) old new h s a = channels-mark mark old new h a
channels-follow (ReceivesBytes bytes) old new h s a =
    frames (λ ls taken. ChannelsApart ls) applies-channels h.0 (with_received bytes old) new [] h.1
    (record { relay_traces = s.relay_traces; past = s.past }) a
channels-follow (Turns happening) old new h s a =
    subst (λ (c : Trace). ChannelsApart c.relay_traces) (sym h.2) (channels-turn happening old.joins old.forwarding_state.all old.relay_traces h.0 h.1 a)
channels-follow (TakesBytes t bytes) old new h s a =
    subst (λ (c : Trace). ChannelsApart c.relay_traces) (sym h.2)
    (subst Apart (sym (most-maps channel (has_stream t) (RelayGoesBy (TakesOn bytes) (Takes bytes)) old.relay_traces h.0 (takes-same bytes) h.1)) a)

channels-reach : (calls : List HouseCall) (old new : Trace) → TraceReaches old calls new → All Sound old → ChannelsApart old.relay_traces
    → ChannelsApart new.relay_traces
channels-reach [] old new h s a = subst (λ (c : Trace). ChannelsApart c.relay_traces) (sym h) a
channels-reach (call ∷ calls) old new h s a =
    channels-reach calls h.0 new h.2 (follow-sound call old h.0 h.1 s) (channels-follow call old h.0 h.1 s a)

pub channels-differ : ChannelsDiffer
channels-differ calls trace h =
    pairs (relay_channels_of trace.relay_traces) (channels-reach calls first_trace trace h (record { relay_traces = tt; past = tt }) tt)

-- each is uint32

HasSmall : Life → Type 0
HasSmall l = channel l < 2 ^ 32

small-stays : (a b : Life) → channel b ≡ channel a → HasSmall a → HasSmall b
unfolding HasSmall
small-stays a b same h = subst (λ (n : ℕ). n < 2 ^ 32) (sym same) h

small-kept : Kept (λ call trace. Unit {0}) HasSmall
unfolding HasSmall
small-kept = record {
  says = λ bytes a b p is h. small-stays a b (says-same bytes a b h) p;
  receives = λ m a b p h. small-stays a b (receives-same m a b h) p;
  gets = λ t bytes old now a b p is h. small-stays a b (gets-same (not (are_full old.relay_traces)) bytes a b h) p;
  takes = λ t bytes a b p is h. small-stays a b (takes-same bytes a b h) p;
  steps = λ s t call old now causes a p is. small-stays a (step_of s a) (number-step s a.relay) p;
  makes = λ host port number old now a p is. p;
  joins = λ l t old now r h small. small;
  offers = λ f number remote window maximum small. small;
}

all-small : (ls : List Life) → Each HasSmall ls → AllByRecursion (λ n. n < 2 ^ 32) (relay_channels_of ls)
unfolding HasSmall
all-small [] h = tt
all-small (l ∷ ls) h = (h.0, all-small ls h.1)

pub channels-small : ChannelsAreSmall
channels-small calls trace h =
    let all : All HasSmall trace = all-reach (λ call trace. Unit {0}) HasSmall small-kept calls first_trace trace (λ before call behind mid e r. tt) h (record { relay_traces = tt; past = tt }) in
    all-small trace.relay_traces all.relay_traces

-- ---- the streams of a trace

abbrev stream : Life → Option ℕ
stream l = own_stream_number l.own

closed-none : (s : RelaySocket) → is_socket_closed s ≡ true → socket_stream_of s ≡ None
closed-none (socket.Connecting t) e = cc
closed-none (socket.Open t) e = cc
closed-none socket.Unmade e = refl
closed-none (socket.Failed t) e = cc
closed-none (socket.NoChannelLeft t) e = cc
closed-none socket.Closed e = refl

gone-none : (l : Life) → Sound l → is_gone l.relay ≡ true → stream l ≡ None
gone-none l s e = sym s.stream ∙ closed-none l.relay.socket (and_parts (is_socket_closed l.relay.socket) (not (is_counted_channel l.relay.line)) e).0

unmade-none : (s : RelaySocket) → unmade s ≡ true → socket_stream_of s ≡ None
unmade-none (socket.Connecting t) e = cc
unmade-none (socket.Open t) e = cc
unmade-none socket.Unmade e = refl
unmade-none (socket.Failed t) e = cc
unmade-none (socket.NoChannelLeft t) e = cc
unmade-none socket.Closed e = refl

goes-same : (so : Relay → Relay → Type 0) (act : RelayAct) (a b : Life) → RelayGoesBy so act a b → stream b ≡ stream a
goes-same so act a b h = ap own_stream_number h.own

-- which step closes no stream
abbrev leaves : LinkStep → Type 0
leaves (step.Pause b) = Unit {0}
leaves step.Finish = Unit {0}
leaves step.End = Unit {0}
leaves step.Close = ⊥
leaves step.Writable = Unit {0}
leaves step.Failed = Unit {0}

own-same : (s : LinkStep) → leaves s → (own : Option OwnStream) → own_stream_number (link_own_after s own) ≡ own_stream_number own
own-same s l None = refl
own-same (step.Pause b) l (Some own) = refl
own-same step.Finish l (Some own) = refl
own-same step.End l (Some own) = refl
own-same step.Close l (Some own) = absurd l
own-same step.Writable l (Some own) = refl
own-same step.Failed l (Some own) = refl

step-streams : (s : LinkStep) → leaves s → (t : ℕ) (ls : List Life) → Each Sound ls → open_streams (map (life_stepped s t) ls) ≡ open_streams ls
step-streams s l t ls all = pick-stepped stream Sound s t (λ a h is. own-same s l a.own) ls all

close-own : (t : ℕ) (b : Bool) (l : Life) (rest : List ℕ) (own : Option OwnStream) → l.own ≡ own → is_stream t own ≡ b
    → cons_option (stream (if b then step_of step.Close l else l)) (without t rest) ≡ without t (cons_option (own_stream_number own) rest)
close-own t true l rest None e is = cc
close-own t false l rest None e is = ap (λ (o : Option OwnStream). cons_option (own_stream_number o) (without t rest)) e
close-own t true l rest (Some own) e is =
    ap (λ (o : Option OwnStream). cons_option (own_stream_number (link_own_after step.Close o)) (without t rest)) e
    ∙ ap (λ (b : Bool). cond (not b) (own.number ∷ without t rest) (without t rest)) (sym is)
close-own t false l rest (Some own) e is =
    ap (λ (o : Option OwnStream). cons_option (own_stream_number o) (without t rest)) e
    ∙ ap (λ (b : Bool). cond (not b) (own.number ∷ without t rest) (without t rest)) (sym is)

close-streams : (t : ℕ) (ls : List Life) → open_streams (map (life_stepped step.Close t) ls) ≡ without t (open_streams ls)
close-streams t [] = refl
close-streams t (l ∷ ls) =
    ap (λ ns. cons_option (stream (life_stepped step.Close t l)) ns) (close-streams t ls)
    ∙ close-own t (has_stream t l) l (open_streams ls) l.own refl refl

kept-streams : (ls : List Life) → Each Sound ls → open_streams (kept_in ls) ≡ open_streams ls
kept-streams ls all = pick-kept stream Sound gone-none ls all

applies-streams : (there : List ℕ) → Applies (λ ls taken. open_streams ls ≡ there)
applies-streams there = record {
  receives = λ n m old new taken sounds h one.
      kept-streams new (each-one Sound (has_channel n) (Listens m) old new (λ a b s is goes. sound-receives m a b s goes) one sounds)
      ∙ one-picks stream Sound (has_channel n) (Listens m) old new (λ a b s is goes. goes-same _ _ a b goes) sounds one ∙ h;
  offers = λ f number remote window maximum old taken free h.
      pick-push stream old (offered_life f number remote window maximum) ∙ append-nil (open_streams old) ∙ h;
}

-- what a call leaves of them
abbrev pub after : HouseCall → List ℕ → List ℕ
after call there = without_closed (stream_closed_by call) there ++ option_to_list (made_by call)

streams-says : (b : Bool) (o : Option Forwarding) (bytes : List ℕ) (old new : Trace) → SendsBy b o bytes old new → All Sound old
    → open_streams new.relay_traces ≡ open_streams old.relay_traces
streams-says false o bytes old new h s = ap (λ (c : Trace). open_streams c.relay_traces) h.1
streams-says true (Some f) bytes old new h s = ap (λ (c : Trace). open_streams c.relay_traces) h.1
streams-says true None bytes old new h s =
    ap (λ (c : Trace). open_streams c.relay_traces) h.2
    ∙ kept-streams h.0 (each-one Sound has_words (Speaks bytes) old.relay_traces h.0 (λ a b x is goes. sound-says bytes a b x goes) h.1 s.relay_traces)
    ∙ one-picks stream Sound has_words (Speaks bytes) old.relay_traces h.0 (λ a b x is goes. goes-same _ _ a b goes.1) s.relay_traces h.1

streams-step : (o : Order) (k : LinkStep) → leaves k → (t : ℕ) (old new : Trace) → StepsBy o k t old new → All Sound old
    → open_streams new.relay_traces ≡ open_streams old.relay_traces
streams-step o k l t old new h s =
    ap (λ (c : Trace). open_streams c.relay_traces) h.1
    ∙ kept-streams (map (life_stepped k t) old.relay_traces) (stepped-sound k t old.relay_traces s.relay_traces)
    ∙ step-streams k l t old.relay_traces s.relay_traces

own-list : (number : Option ℕ) → option_to_list (own_stream_number (own_made number)) ≡ option_to_list number
own-list None = refl
own-list (Some t) = refl

streams-make : (host : List ℕ) (port : ℕ) (number : Option ℕ) (old new : Trace) → MakesOne host port number old new → All Sound old
    → open_streams new.relay_traces ≡ open_streams old.relay_traces ++ option_to_list number
streams-make host port number old new h s =
    let its = each-back Sound h.before (h.life ∷ h.behind) (subst (Each Sound) h.were s.relay_traces) in
    let none : stream h.life ≡ None = sym its.0.stream ∙ unmade-none h.life.relay.socket h.is in
    ap (λ (c : Trace). open_streams c.relay_traces) h.are
    ∙ pick-push stream (h.before ++ h.behind) (made_life number h.life)
    ∙ ap (λ ns. open_streams (h.before ++ h.behind) ++ ns) (own-list number)
    ∙ ap (λ ns. ns ++ option_to_list number) (sym (pick-none stream h.before h.behind h.life none) ∙ ap open_streams (sym h.were))

more : (x y : List ℕ) → x ≡ y → x ≡ y ++ []
more x y e = e ∙ sym (append-nil y)

streams-order : (o : Order) (number : Option ℕ) (old new : Trace) → OrdersInTrace o number old new → All Sound old
    → open_streams new.relay_traces ≡ after (Marks (HouseOrder o number)) (open_streams old.relay_traces)
streams-order (order.Listen host port) number old new h s = more _ _ (ap (λ (c : Trace). open_streams c.relay_traces) h.2)
streams-order (order.Connect host port) number old new h s = streams-make host port number old new h s
streams-order (order.Unlisten l) number old new h s = more _ _ (ap (λ (c : Trace). open_streams c.relay_traces) h.2)
streams-order (order.Pause t) number old new h s = more _ _ (streams-step (order.Pause t) (step.Pause true) tt t old new h s)
streams-order (order.Resume t) number old new h s = more _ _ (streams-step (order.Resume t) (step.Pause false) tt t old new h s)
streams-order (order.Finish t) number old new h s = more _ _ (streams-step (order.Finish t) step.Finish tt t old new h s)
streams-order (order.Close t) number old new h s = more _ _
    (ap (λ (c : Trace). open_streams c.relay_traces) h.1
    ∙ kept-streams (map (life_stepped step.Close t) old.relay_traces) (stepped-sound step.Close t old.relay_traces s.relay_traces)
    ∙ close-streams t old.relay_traces)

streams-mark : (mark : HouseMark) (old new : Trace) → MarksIn mark old new → All Sound old
    → open_streams new.relay_traces ≡ after (Marks mark) (open_streams old.relay_traces)
streams-mark HouseIn old new h s = more _ _ (ap (λ (c : Trace). open_streams c.relay_traces) h)
streams-mark (HouseSaid bytes) old new h s = more _ _ (streams-says old.forwarding_state.greeted (find has_request old.forwarding_state.all) bytes old new h s)
streams-mark (HouseTook size) old new h s = more _ _ (ap (λ (c : Trace). open_streams c.relay_traces) h)
streams-mark (HouseAsked client id opening ask reply) old new h s = more _ _ (ap (λ (c : Trace). open_streams c.relay_traces) h.2)
streams-mark (HouseAnswer client id reply) old new h s = more _ _ (ap (λ (c : Trace). open_streams c.relay_traces) h.2)
streams-mark (HouseOrder o number) old new h s = streams-order o number old new h s

streams-turn : (happening : Happening) (joins : ℕ) (fs : List Forwarding) (old new : List Life) → TurnsTo happening joins fs old new → Each Sound old
    → open_streams new ≡ after (Turns happening) (open_streams old)
streams-turn (Joined l t) joins fs old new h s = ap open_streams h.more ∙ pick-push stream old (joined_life joins t h.relay)
streams-turn (Got t bytes) joins fs old new h s =
    more _ _ (most-picks stream Sound (has_stream t) _ old new (λ a b x is goes. goes-same _ _ a b goes) s h)
streams-turn (End t) joins fs old new h s = more _ _ (ap open_streams h ∙ step-streams step.End tt t old s)
streams-turn (Writable t) joins fs old new h s = more _ _ (ap open_streams h ∙ step-streams step.Writable tt t old s)
streams-turn (Failed t) joins fs old new h s = more _ _ (ap open_streams h ∙ step-streams step.Failed tt t old s)

pub streams-follow : (call : HouseCall) (old new : Trace) → Follows call old new → All Sound old
    → open_streams new.relay_traces ≡ after call (open_streams old.relay_traces)
streams-follow (Begins starts) old new h s = more _ _ (ap (λ (c : Trace). open_streams c.relay_traces) h.2)
streams-follow (Marks mark) old new h s = streams-mark mark old new h s
streams-follow (ReceivesBytes bytes) old new h s =
    more _ _ (frames (λ ls taken. open_streams ls ≡ open_streams old.relay_traces) (applies-streams (open_streams old.relay_traces)) h.0 (with_received bytes old) new []
    h.1 (record { relay_traces = s.relay_traces; past = s.past }) refl)
streams-follow (Turns happening) old new h s =
    ap (λ (c : Trace). open_streams c.relay_traces) h.2 ∙ streams-turn happening old.joins old.forwarding_state.all old.relay_traces h.0 h.1 s.relay_traces
streams-follow (TakesBytes t bytes) old new h s =
    more _ _ (ap (λ (c : Trace). open_streams c.relay_traces) h.2
    ∙ most-picks stream Sound (has_stream t) (RelayGoesBy (TakesOn bytes) (Takes bytes)) old.relay_traces h.0 (λ a b x is goes. goes-same _ _ a b goes) s.relay_traces h.1)

streams-reach : (calls : List HouseCall) (old new : Trace) → TraceReaches old calls new → All Sound old
    → open_streams new.relay_traces ≡ streams_open_after (open_streams old.relay_traces) calls
streams-reach [] old new h s = ap (λ (c : Trace). open_streams c.relay_traces) h
streams-reach (call ∷ calls) old new h s =
    streams-reach calls h.0 new h.2 (follow-sound call old h.0 h.1 s)
    ∙ ap (λ there. streams_open_after there calls) (streams-follow call old h.0 h.1 s)

pub streams-are-theirs : StreamsAreTheirs
streams-are-theirs calls trace h = streams-reach calls first_trace trace h (record { relay_traces = tt; past = tt })

-- ---- no two are the same

apart-without : (o : Option ℕ) (there : List ℕ) → Apart there → Apart (without_closed o there)
apart-without None there h = h
apart-without (Some t) there h = apart-filtered (λ s. not (s == t)) there h

among-without : (o : Option ℕ) (t : ℕ) (there : List ℕ) → among t there ≡ false → among t (without_closed o there) ≡ false
among-without None t there h = h
among-without (Some s) t there h = among-filtered (λ k. not (k == s)) t there h

apart-with : (o closed : Option ℕ) (there : List ℕ) → IfSome o (λ t. among t there ≡ false) → Apart (without_closed closed there)
    → Apart (without_closed closed there ++ option_to_list o)
apart-with None closed there new h = subst Apart (sym (append-nil (without_closed closed there))) h
apart-with (Some t) closed there new h = apart-push t (without_closed closed there) h (among-without closed t there new)

pub apart-after : (calls : List HouseCall) (there : List ℕ) → BringsNew there calls → Apart there → Apart (streams_open_after there calls)
apart-after [] there new h = h
apart-after (call ∷ calls) there new h =
    apart-after calls (after call there) new.1
    (apart-with (made_by call) (stream_closed_by call) there new.0 (apart-without (stream_closed_by call) there h))

-- ---- each has a new number

none-among : (t : ℕ) (own : Option OwnStream) (rest : List ℕ) → is_stream t own ≡ false → among t rest ≡ false
    → among t (cons_option (own_stream_number own) rest) ≡ false
none-among t None rest e h = h
none-among t (Some own) rest e h = or_from (own.number == t) (among t rest) e h

among-none : (t : ℕ) (ls : List Life) → list_any (has_stream t) ls ≡ false → among t (open_streams ls) ≡ false
among-none t [] e = refl
among-none t (l ∷ ls) e =
    let both = or_parts (has_stream t l) (list_any (has_stream t) ls) e in
    none-among t l.own (open_streams ls) both.0 (among-none t ls both.1)

made-new : (number : Option ℕ) (ls : List Life) → IfSome number (λ t. list_any (has_stream t) ls ≡ false)
    → IfSome number (λ t. among t (open_streams ls) ≡ false)
made-new None ls h = tt
made-new (Some t) ls h = among-none t ls h

abbrev pub IsNew : HouseCall → Trace → Type 0
IsNew call old = IfSome (made_by call) (λ t. among t (open_streams old.relay_traces) ≡ false)

new-order : (o : Order) (number : Option ℕ) (old new : Trace) → OrdersInTrace o number old new → IsNew (Marks (HouseOrder o number)) old
new-order (order.Listen host port) number old new h = tt
new-order (order.Connect host port) number old new h = made-new number old.relay_traces h.fresh
new-order (order.Unlisten l) number old new h = tt
new-order (order.Pause t) number old new h = tt
new-order (order.Resume t) number old new h = tt
new-order (order.Finish t) number old new h = tt
new-order (order.Close t) number old new h = tt

new-mark : (mark : HouseMark) (old new : Trace) → MarksIn mark old new → IsNew (Marks mark) old
new-mark HouseIn old new h = tt
new-mark (HouseSaid bytes) old new h = tt
new-mark (HouseTook size) old new h = tt
new-mark (HouseAsked client id opening ask reply) old new h = tt
new-mark (HouseAnswer client id reply) old new h = tt
new-mark (HouseOrder o number) old new h = new-order o number old new h

new-turn : (happening : Happening) (old : Trace) (new : List Life) → TurnsTo happening old.joins old.forwarding_state.all old.relay_traces new
    → IsNew (Turns happening) old
new-turn (Joined l t) old new h = among-none t old.relay_traces h.fresh
new-turn (Got t bytes) old new h = tt
new-turn (End t) old new h = tt
new-turn (Writable t) old new h = tt
new-turn (Failed t) old new h = tt

pub new-follow : (call : HouseCall) (old new : Trace) → Follows call old new → IsNew call old
new-follow (Begins starts) old new h = tt
new-follow (Marks mark) old new h = new-mark mark old new h
new-follow (ReceivesBytes bytes) old new h = tt
new-follow (Turns happening) old new h = new-turn happening old h.0 h.1
new-follow (TakesBytes t bytes) old new h = tt

new-reach : (calls : List HouseCall) (old new : Trace) → TraceReaches old calls new → All Sound old → BringsNew (open_streams old.relay_traces) calls
new-reach [] old new h s = tt
new-reach (call ∷ calls) old new h s = (
  new-follow call old h.0 h.1,
  subst (λ ns. BringsNew ns calls) (streams-follow call old h.0 h.1 s)
      (new-reach calls h.0 new h.2 (follow-sound call old h.0 h.1 s)),
)

pub each-is-new : EachIsNew
each-is-new calls trace h = new-reach calls first_trace trace h (record { relay_traces = tt; past = tt })

pub streams-differ : StreamsDiffer
streams-differ calls trace h =
    pairs (open_streams trace.relay_traces)
    (subst Apart (sym (streams-are-theirs calls trace h)) (apart-after calls [] (each-is-new calls trace h) tt))
