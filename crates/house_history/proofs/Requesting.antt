-- The forwarder has few requests that have no reply, and its channels have small numbers.
use Rattle.std.proofs.Common.{◌≡◌, ◌∙◌, refl, sym, ap, subst, arith, ℕ, zero, suc, ◌<◌, ◌≤◌, Bool, true, false, List, [], ◌∷◌, ◌++◌, length, get_or, set, drop, map, Option, Some, None, inl, inr}
use Rattle.std.specs.Prelude.{◌==◌, ◌&&◌, not, if◌then◌else◌, filter, slice_get}
use Rattle.std.specs.List.{position, remove}
use Rattle.std.proofs.lemmas.Bool.{both_ways, eqb-true, ltb-true}
use Rattle.std.proofs.lemmas.List.{length-map}
use Rattle.mux_history.proofs.Finds.{filter-no, filter-yes}
use Rattle.mux_outside.specs.HouseCalls.{HouseCall}
use Rattle.mux_outside.specs.declared.start_ask.StartAsk.{StartAsk}
use Rattle.house_forward.specs.ForwarderEvents.{ForwarderEvent, Does, Leave}
use Rattle.house_forward.specs.ForwarderEvents.{Begins, Asks, Answers, Greets, Requests, Replies, Listens as ListensAt, Unlistens}
use Rattle.house_forward.specs.ForwardingState.{ForwardingState, request_sent, reply_received, standing_at}
use Rattle.house_forward.specs.Asks.{turns_away}
use Rattle.house_forward.specs.Forwardings.{AskedAtStart as BeginsAt, StartsIf, Standing, OpensForwarding, is_asked_or_live, how_many, is_new, has_request, requests_at, forwarding_request_of, forwarding_request_at, after_request_sent, forwarding_changed, listener_stage_after, closing_after, standing, closes_of, after_close, EndsLeave, ComesIf, ComesUnless, is_listen_unanswered, asks_at, is_cancelled, cancels_at, replied_all, removed_at, first_forwarding_request, has_listener}
use Rattle.house_forward.specs.RelayTraces.{Trace, TraceReaches, first_trace}
use Rattle.house_forward.specs.Rules.{listens_here, is_ruled_out, rules_of}
use Rattle.house_forward.specs.declared.asks.ImmediateOutcome.{ImmediateOutcome as Comes}
use Rattle.house_forward.specs.declared.asks.ImmediateOutcome.TheVariants.{Now, Later}
use Rattle.house_forward.specs.declared.forwarding.Change.{Change}
use Rattle.house_forward.specs.declared.forwarding.Change.TheVariants as change
use Rattle.house_forward.specs.declared.forwarding.Forwarding.{Forwarding}
use Rattle.house_forward.specs.declared.forwarding.ForwardingRequest.{ForwardingRequest}
use Rattle.house_forward.specs.declared.forwarding.ForwardingRequest.TheVariants.{Listen, Cancel}
use Rattle.house_forward.specs.declared.forwarding.Stage.{Stage}
use Rattle.house_forward.specs.declared.forwarding.Stage.TheVariants.{ToListen, Ordered, Listening, ToRequest, Requested, Live, Cancelling}
use Rattle.house_forward.specs.declared.rules.Ends.{Ends}
use Rattle.house_forward.specs.declared.rules.ListenRules.{ListenRules}
use Rattle.house_forward.specs.declared.rules.TheConstants.{MOST_FORWARDINGS}
use Rattle.house_forward.proofs.Causing.{Knows, knows, in-range, there-is, found as is-found}
use Rattle.house_forward.proofs.Doing.{each-happens}
use Rattle.house_forward.proofs.Members.{In, in-map, in-filter, in-all, found-in}
use Rattle.house_forward.proofs.Resolving.{MadeOf, listener-made, tracks}
use Rattle.house_forward.proofs.Serving.{StageFits, Stands}
use Rattle.house_forward.proofs.Tracking.{Tracks, one-serial}
use Rattle.house_forward.proofs.Wanting.{Wants, wants, IsOfStream}

-- ---- those of a list, each once, are no more than another list has

abbrev Once : List ForwardingRequest → Type 0
Once [] = Unit {0}
Once (r ∷ rs) = (In r rs → ⊥) × Once rs

record Split {X : Type 0} (x : X) (xs : List X) : Type 0 where
  before : List X
  behind : List X
  are : xs ≡ before ++ x ∷ behind

split-at : {X : Type 0} (x : X) (xs : List X) → In x xs → Split x xs
split-at x [] h = absurd h
split-at {X} x (y ∷ xs) (inl e) = record { before = []; behind = xs; are = ap (λ (z : X). z ∷ xs) e }
split-at {X} x (y ∷ xs) (inr h) =
    let s = split-at x xs h in
    record { before = y ∷ s.before; behind = s.behind; are = ap (λ (l : List X). y ∷ l) s.are }

in-between : {X : Type 0} (x y : X) (a b : List X) → In y (a ++ x ∷ b) → (x ≡ y → ⊥) → In y (a ++ b)
in-between x y [] b (inl e) differ = absurd (differ e)
in-between x y [] b (inr h) differ = h
in-between x y (z ∷ a) b (inl e) differ = inl e
in-between x y (z ∷ a) b (inr h) differ = inr (in-between x y a b h differ)

between-length : {X : Type 0} (x : X) (a b : List X) → length (a ++ x ∷ b) ≡ suc (length (a ++ b))
between-length x [] b = refl
between-length x (z ∷ a) b = ap suc (between-length x a b)

no-more : (rs ys : List ForwardingRequest) → Once rs → ((r : ForwardingRequest) → In r rs → In r ys) → length rs ≤ length ys
no-more [] ys once sub = omega arith
no-more (r ∷ rs) ys once sub =
    let s = split-at r ys (sub r (inl refl)) in
    let rest = no-more rs (s.before ++ s.behind) once.1
    (λ q h. in-between r q s.before s.behind (subst (In q) s.are (sub q (inr h))) (λ e. once.0 (subst (λ (x : ForwardingRequest). In x rs) (sym e) h))) in
    let many : length ys ≡ suc (length (s.before ++ s.behind)) = ap length s.are ∙ between-length r s.before s.behind in
    omega (arith, rest, many)

once-push : (rs : List ForwardingRequest) (r : ForwardingRequest) → Once rs → (In r rs → ⊥) → Once (rs ++ r ∷ [])
once-push [] r once none = ((λ h. h), tt)
once-push (q ∷ rs) r once none = (
  λ h. go rs h once.0 (λ e. none (inl e)),
  once-push rs r once.1 (λ h. none (inr h)),
)
  where
    go : (xs : List ForwardingRequest) → In q (xs ++ r ∷ []) → (In q xs → ⊥) → (q ≡ r → ⊥) → ⊥
    go [] (inl e) no1 differ = differ (sym e)
    go [] (inr h) no1 differ = h
    go (x ∷ xs) (inl e) no1 differ = no1 (inl e)
    go (x ∷ xs) (inr h) no1 differ = go xs h (λ k. no1 (inr k)) differ

once-rest : (rs : List ForwardingRequest) → Once rs → Once (drop 1 rs)
once-rest [] once = tt
once-rest (r ∷ rs) once = once.1

-- ---- how many count

one-less : (f : Forwarding) (fs : List Forwarding) → how_many fs ≤ how_many (f ∷ fs)
one-less f fs = go (is_asked_or_live f) refl
  where
    go : (b : Bool) → is_asked_or_live f ≡ b → how_many fs ≤ how_many (f ∷ fs)
    go true e = let m = ap length (filter-yes is_asked_or_live f fs e) in omega (arith, m)
    go false e = let m = ap length (filter-no is_asked_or_live f fs e) in omega (arith, m)

few-cons : (f g : Forwarding) (fs gs : List Forwarding) → (is_asked_or_live g ≡ true → is_asked_or_live f ≡ true) → how_many gs ≤ how_many fs
    → how_many (g ∷ gs) ≤ how_many (f ∷ fs)
few-cons f g fs gs same less = go (is_asked_or_live g) refl
  where
    go : (b : Bool) → is_asked_or_live g ≡ b → how_many (g ∷ gs) ≤ how_many (f ∷ fs)
    go true e =
        let m = ap length (filter-yes is_asked_or_live g gs e) in
        let n = ap length (filter-yes is_asked_or_live f fs (same e)) in
        omega (arith, m, n, less)
    go false e =
        let m = ap length (filter-no is_asked_or_live g gs e) in
        let n = one-less f fs in
        omega (arith, m, n, less)

few-map : (to : Forwarding → Forwarding) (fs : List Forwarding) → ((f : Forwarding) → In f fs → is_asked_or_live (to f) ≡ true → is_asked_or_live f ≡ true)
    → how_many (map to fs) ≤ how_many fs
few-map to [] same = omega arith
few-map to (f ∷ fs) same = few-cons f (to f) fs (map to fs) (same f (inl refl)) (few-map to fs (λ g h. same g (inr h)))

few-remove : (fs : List Forwarding) (i : ℕ) → how_many (remove fs i) ≤ how_many fs
few-remove [] zero = omega arith
few-remove [] (suc i) = omega arith
few-remove (f ∷ fs) zero = one-less f fs
few-remove (f ∷ fs) (suc i) = few-cons f f fs (remove fs i) (λ e. e) (few-remove fs i)

few-removed : (o : Option ℕ) (fs : List Forwarding) → how_many (removed_at o fs) ≤ how_many fs
few-removed None fs = omega arith
few-removed (Some i) fs = few-remove fs i

few-set : (fs : List Forwarding) (i : ℕ) (f g : Forwarding) → f ≡ get_or fs i f → is_asked_or_live g ≡ is_asked_or_live f → how_many (set fs i g) ≤ how_many fs
few-set [] i f g e same = omega arith
few-set (x ∷ fs) zero f g e same = few-cons x g fs fs (λ h. ap is_asked_or_live (sym e) ∙ (sym same ∙ h)) (omega arith)
few-set (x ∷ fs) (suc i) f g e same = few-cons x x fs (set fs i g) (λ h. h) (few-set fs i f g e same)

few-filter : (p : Forwarding → Bool) (fs : List Forwarding) → how_many (filter p fs) ≤ how_many fs
few-filter p [] = omega arith
few-filter p (f ∷ fs) = go (p f) refl (few-filter p fs)
  where
    go : (b : Bool) → p f ≡ b → how_many (filter p fs) ≤ how_many fs → how_many (filter p (f ∷ fs)) ≤ how_many (f ∷ fs)
    go true e h = subst (λ (xs : List Forwarding). how_many xs ≤ how_many (f ∷ fs)) (sym (filter-yes p f fs e)) (few-cons f f fs (filter p fs) (λ k. k) h)
    go false e h = subst (λ (xs : List Forwarding). how_many xs ≤ how_many (f ∷ fs)) (sym (filter-no p f fs e))
        (let m = one-less f fs in omega (arith, m, h))

few-push : (fs : List Forwarding) (f : Forwarding) → how_many (fs ++ f ∷ []) ≤ suc (how_many fs)
few-push [] f = go (is_asked_or_live f) refl
  where
    go : (b : Bool) → is_asked_or_live f ≡ b → how_many (f ∷ []) ≤ 1
    go true e = let m = ap length (filter-yes is_asked_or_live f [] e) in omega (arith, m)
    go false e = let m = ap length (filter-no is_asked_or_live f [] e) in omega (arith, m)
few-push (x ∷ fs) f = go (is_asked_or_live x) refl (few-push fs f)
  where
    go : (b : Bool) → is_asked_or_live x ≡ b → how_many (fs ++ f ∷ []) ≤ suc (how_many fs) → how_many (x ∷ (fs ++ f ∷ [])) ≤ suc (how_many (x ∷ fs))
    go true e h =
        let m = ap length (filter-yes is_asked_or_live x (fs ++ f ∷ []) e) in
        let n = ap length (filter-yes is_asked_or_live x fs e) in
        omega (arith, m, n, h)
    go false e h =
        let m = ap length (filter-no is_asked_or_live x (fs ++ f ∷ []) e) in
        let n = ap length (filter-no is_asked_or_live x fs e) in
        omega (arith, m, n, h)

-- ---- one that is new

room-for : (ends : Ends) (fs : List Forwarding) (o : Option Forwarding) → is_new ends fs o ≡ true → how_many fs < 64
room-for ends fs None e = ltb-true (how_many fs) MOST_FORWARDINGS e
room-for ends fs (Some f) e = cc

opens-few : (b : Bool) (ends : Ends) (serial : ℕ) (start : Option ℕ) (old new : List Forwarding) → (b ≡ true → how_many old < 64)
    → OpensForwarding b ends serial start old new → how_many old ≤ 64 → how_many new ≤ 64
opens-few false ends serial start old new room o few = subst (λ (fs : List Forwarding). how_many fs ≤ 64) (sym o) few
opens-few true ends serial start old new room o few =
    let less = room refl in
    let more = few-push old o.0 in
    subst (λ (fs : List Forwarding). how_many fs ≤ 64) (sym o.2) (omega (arith, less, more))

starts-few : (b : Bool) (rules : ListenRules) (ask : StartAsk) (i : ℕ) (old new : Standing) → StartsIf b rules ask i old new → how_many old.all ≤ 64
    → how_many new.all ≤ 64
starts-few true rules ask i old new s few = subst (λ (t : Standing). how_many t.all ≤ 64) (sym s) few
starts-few false rules ask i old new s few =
    opens-few _ s.0 old.serials (Some i) old.all new.all (λ e. room-for s.0 old.all (standing s.0 old.all) e) s.2.all few

begins-few : (rules : ListenRules) (asks : List StartAsk) (i : ℕ) (old new : Standing) → i ≤ length asks → BeginsAt rules asks i old new
    → how_many old.all ≤ 64 → how_many new.all ≤ 64
begins-few rules asks zero old new l b few = subst (λ (t : Standing). how_many t.all ≤ 64) (sym b) few
begins-few rules asks (suc i) old new l b few =
    let first = begins-few rules asks i old b.0 (omega arith) b.1 few in
    let at = in-range asks i (omega arith) in
    let starts = there-is (λ (ask : StartAsk). StartsIf (is_ruled_out rules ask) rules ask i b.0 new) (slice_get asks i) at.0 at.1 b.2 in
    starts-few (is_ruled_out rules at.0) rules at.0 i b.0 new starts first

-- ---- one that changes

changed-if : (c : Change) (b : Bool) (f : Forwarding) → (b ≡ true → not (closing_after c f.closing && listens_here f.kind) ≡ true → is_asked_or_live f ≡ true)
    → is_asked_or_live (if b then record f { stage = listener_stage_after c f.listen_port f.stage; closing = closing_after c f.closing } else f) ≡ true
    → is_asked_or_live f ≡ true
changed-if c true f k h = k refl h
changed-if c false f k h = h

few-changed : (c : Change) (serial : ℕ) (fs : List Forwarding)
    → ((f : Forwarding) → In f fs → f.serial ≡ serial → not (closing_after c f.closing && listens_here f.kind) ≡ true → is_asked_or_live f ≡ true)
    → how_many (map (forwarding_changed c serial) fs) ≤ how_many fs
few-changed c serial fs k =
    few-map (forwarding_changed c serial) fs (λ f h e. changed-if c (f.serial == serial) f (λ is. k f h (eqb-true f.serial serial is)) e)

closed-counts : (closing here : Bool) → not (true && here) ≡ true → not (closing && here) ≡ true
closed-counts true here e = e
closed-counts false here e = refl

other-counts : (closing here : Bool) → here ≡ false → not (closing && here) ≡ true
other-counts true here e = ap not e
other-counts false here e = refl

few-closed : (comes : Comes) (fs : List Forwarding) → how_many (after_close comes fs) ≤ how_many fs
few-closed (Now o) fs = omega arith
few-closed (Later serial) fs = few-changed change.Close serial fs (λ f h is e. closed-counts f.closing (listens_here f.kind) e)

few-said : (r : ForwardingRequest) (fs : List Forwarding) → how_many (after_request_sent r fs) ≤ how_many fs
few-said (Listen serial) fs = few-changed change.ForwardingRequest serial fs (λ f h is e. e)
few-said (Cancel serial) fs = few-changed change.Cancel serial fs (λ f h is e. e)

-- ---- a request

ends-few : (opening : Bool) (serial : ℕ) (ends : Ends) (old new : List Forwarding) → EndsLeave opening serial ends old new
    → how_many old ≤ 64 → how_many new ≤ 64
ends-few true serial ends old new h few =
    opens-few _ ends serial None old new (λ e. room-for ends old (standing ends old) e) h few
ends-few false serial ends old new h few =
    let less = few-closed (closes_of (standing ends old)) old in
    subst (λ (fs : List Forwarding). how_many fs ≤ 64) (sym h) (omega (arith, less, few))

asked-if : (alone : Bool) (rules : ListenRules) (opening : Bool) (ask : StartAsk) (serial : ℕ) (comes : Comes) (old new : List Forwarding)
    → ComesIf alone rules opening ask serial old new comes → how_many old ≤ 64 → how_many new ≤ 64
asked-if true rules opening ask serial comes old new h few = subst (λ (fs : List Forwarding). how_many fs ≤ 64) (sym h.1) few
asked-if false rules opening ask serial comes old new h few = ends-few opening serial h.0 old new h.3 few

asked-unless : (away : Bool) (rules : ListenRules) (opening : Bool) (ask : StartAsk) (serial : ℕ) (comes : Comes) (old new : List Forwarding)
    → ComesUnless away rules opening ask serial old new comes → how_many old ≤ 64 → how_many new ≤ 64
asked-unless true rules opening ask serial comes old new h few = subst (λ (fs : List Forwarding). how_many fs ≤ 64) (sym h.1) few
asked-unless false rules opening ask serial comes old new h few = asked-if (is_ruled_out rules ask) rules opening ask serial comes old new h few

-- ---- those with a request that is unanswered listen at the server

asks-there : (s : Stage) (a : Forwarding) (forwarder_events : List ForwarderEvent) → asks_at s ≡ true → StageFits s a forwarder_events → listens_here a.kind ≡ false
asks-there (ToListen host) a forwarder_events e h = cc
asks-there Ordered a forwarder_events e h = cc
asks-there (Listening l) a forwarder_events e h = cc
asks-there ToRequest a forwarder_events e h = cc
asks-there Requested a forwarder_events e h = h
asks-there (Live port) a forwarder_events e h = cc
asks-there (Cancelling port) a forwarder_events e h = cc

cancels-there : (s : Stage) (a : Forwarding) (forwarder_events : List ForwarderEvent) → cancels_at s ≡ true → StageFits s a forwarder_events → listens_here a.kind ≡ false
cancels-there (ToListen host) a forwarder_events e h = cc
cancels-there Ordered a forwarder_events e h = cc
cancels-there (Listening l) a forwarder_events e h = cc
cancels-there ToRequest a forwarder_events e h = cc
cancels-there Requested a forwarder_events e h = cc
cancels-there (Live port) a forwarder_events e h = cc
cancels-there (Cancelling port) a forwarder_events e h = h.0

asked-there : (forwarder_events : List ForwarderEvent) (d : ForwardingState) (f : Forwarding) → Knows forwarder_events d → In f d.all → asks_at f.stage ≡ true → listens_here f.kind ≡ false
asked-there forwarder_events d f k h e =
    let s = in-all (Stands k.home d.serials forwarder_events) f d.all k.all h in
    ap listens_here (sym s.same.kind) ∙ asks-there f.stage (k.home f.serial) forwarder_events e s.stage

cancelled-there : (forwarder_events : List ForwarderEvent) (d : ForwardingState) (f : Forwarding) → Knows forwarder_events d → In f d.all → cancels_at f.stage ≡ true → listens_here f.kind ≡ false
cancelled-there forwarder_events d f k h e =
    let s = in-all (Stands k.home d.serials forwarder_events) f d.all k.all h in
    ap listens_here (sym s.same.kind) ∙ cancels-there f.stage (k.home f.serial) forwarder_events e s.stage

-- ---- a reply

replied-few : (success : Bool) (port : Option ℕ) (forwarder_events : List ForwarderEvent) (d : ForwardingState) (rs : List ForwardingRequest) → d.requests ≡ rs → Knows forwarder_events d → Tracks d → Wants d
    → how_many (replied_all success port (first_forwarding_request rs) d.all) ≤ how_many d.all
replied-few success port forwarder_events d [] e k t w = omega arith
replied-few true port forwarder_events d (Listen serial ∷ rs) e k t w = few-changed (change.Live port) serial d.all (λ f h is c. c)
replied-few false port forwarder_events d (Listen serial ∷ rs) e k t w = few-removed (position (is_listen_unanswered serial) d.all) d.all
replied-few true port forwarder_events d (Cancel serial ∷ rs) e k t w = few-removed (position (is_cancelled serial) d.all) d.all
replied-few false port forwarder_events d (Cancel serial ∷ rs) e k t w =
    let its = w.said (Cancel serial) (subst (In (Cancel serial)) (sym e) (inl refl)) in
    let there = cancelled-there forwarder_events d its.0 k its.1 its.3 in
    few-changed change.Stay serial d.all (λ f h is c.
    let one : its.0 ≡ f = one-serial d.all its.0 f 0 d.serials t.numbered its.1 h (its.2 ∙ sym is) in
    other-counts f.closing (listens_here f.kind) (subst (λ (x : Forwarding). listens_here x.kind ≡ false) one there))

-- ---- a request is sent

none-yet : (d : ForwardingState) (f : Forwarding) (s : Stage) → f.stage ≡ s → requests_at s f.closing ≡ true → In f d.all → Tracks d → Wants d
    → In (forwarding_request_at s f.serial) d.requests → ⊥
none-yet d f (ToListen host) e is here t w h = absurd cc
none-yet d f Ordered e is here t w h = absurd cc
none-yet d f (Listening l) e is here t w h = absurd cc
none-yet d f ToRequest e is here t w h =
    let its = w.said (Listen f.serial) h in
    let one : its.0 ≡ f = one-serial d.all its.0 f 0 d.serials t.numbered its.1 here its.2 in
    both_ways (asks_at f.stage) (ap asks_at e) (subst (λ (x : Forwarding). asks_at x.stage ≡ true) one its.3)
none-yet d f Requested e is here t w h = absurd cc
none-yet d f (Live port) e is here t w h =
    let its = w.said (Cancel f.serial) h in
    let one : its.0 ≡ f = one-serial d.all its.0 f 0 d.serials t.numbered its.1 here its.2 in
    both_ways (cancels_at f.stage) (ap cancels_at e) (subst (λ (x : Forwarding). cancels_at x.stage ≡ true) one its.3)
none-yet d f (Cancelling port) e is here t w h = absurd cc

-- ---- a listener is made

made-few : (number : Option ℕ) (i : ℕ) (f : Forwarding) (old new : List Forwarding) → f ≡ get_or old i f → MadeOf number i f old new
    → how_many new ≤ how_many old
made-few None i f old new is m = subst (λ (fs : List Forwarding). how_many fs ≤ how_many old) (sym m) (few-remove old i)
made-few (Some l) i f old new is m =
    subst (λ (fs : List Forwarding). how_many fs ≤ how_many old) (sym m) (few-set old i f (record f { stage = Listening l }) is refl)

-- ---- by all that happened

record Few (d : ForwardingState) : Type 0 where
  once : Once d.requests
  few : how_many d.all ≤ 64

same-few : (old new : ForwardingState) → new.requests ≡ old.requests → how_many new.all ≤ 64 → Few old → Few new
same-few old new e few h = record { once = subst Once (sym e) h.once; few = few }

after : (forwarder_event : ForwarderEvent) (forwarder_events : List ForwarderEvent) (old new : ForwardingState) → Knows forwarder_events old → Tracks old → Wants old → Does forwarder_event old new → Few old → Few new
after (Begins starts) forwarder_events old new k t w d h =
    same-few old new (ap (λ (x : ForwardingState). x.requests) d.others)
    (begins-few (rules_of starts) starts.asks (length starts.asks) (standing_at old) (standing_at new) (omega arith) d.begins h.few) h
after (Asks client id opening ask answer) forwarder_events old new k t w d h =
    same-few old new (ap (λ (x : ForwardingState). x.requests) d.others)
    (asked-unless (turns_away client id old.waiting) old.rules opening ask old.serials d.came_to old.all new.all d.comes h.few) h
after (Answers client id answer) forwarder_events old new k t w d h =
    same-few old new (ap (λ (x : ForwardingState). x.requests) d.others)
    (subst (λ (fs : List Forwarding). how_many fs ≤ 64) (sym (ap (λ (x : ForwardingState). x.all) d.others)) h.few) h
after Greets forwarder_events old new k t w d h =
    same-few old new (ap (λ (x : ForwardingState). x.requests) d.1)
    (subst (λ (fs : List Forwarding). how_many fs ≤ 64) (sym (ap (λ (x : ForwardingState). x.all) d.1)) h.few) h
after (Requests f) forwarder_events old new k t w d h =
    let less = few-said (forwarding_request_of f) old.all in
    let few = h.few in
    let is = (is-found (λ (x : Forwarding). Unit {0}) has_request old.all f d.1 (λ i x lt. tt)).1 in
    let got : Few (request_sent f old) = record {
      once = once-push old.requests (forwarding_request_of f) h.once (none-yet old f f.stage refl is (found-in has_request f old.all d.1) t w);
      few = omega (arith, less, few);
    } in
    subst (λ (x : ForwardingState). Few x) (sym d.2) got
after (Replies success port) forwarder_events old new k t w d h =
    let less = replied-few success port forwarder_events old old.requests refl k t w in
    let few = h.few in
    let got : Few (reply_received success port old) = record {
      once = once-rest old.requests h.once;
      few = omega (arith, less, few);
    } in
    subst (λ (x : ForwardingState). Few x) (sym d) got
after (ListensAt host port number) forwarder_events old new k t w d h =
    let l = listener-made host port number old new d in
    let less = made-few number l.place l.forwarding old.all new.all l.is l.made in
    let few = h.few in
    same-few old new l.requests (omega (arith, less, few)) h
after (Unlistens l) forwarder_events old new k t w d h =
    let less = few-filter (λ (f : Forwarding). not (has_listener l f)) old.all in
    let few = h.few in
    same-few old new (ap (λ (x : ForwardingState). x.requests) d.others)
    (subst (λ (fs : List Forwarding). how_many fs ≤ 64) (sym (ap (λ (x : ForwardingState). x.all) d.others)) (omega (arith, less, few))) h

few-left : (forwarder_events : List ForwarderEvent) (forwarding_state : ForwardingState) → Leave forwarder_events forwarding_state → Few forwarding_state
few-left [] forwarding_state left = subst (λ (d : ForwardingState). Few d) (sym left) (record { once = tt; few = omega arith })
few-left (forwarder_event ∷ forwarder_events) forwarding_state left =
    after forwarder_event forwarder_events left.0 forwarding_state (knows forwarder_events left.0 left.1) (tracks forwarder_events left.0 left.1) (wants forwarder_events left.0 left.1) left.2 (few-left forwarder_events left.0 left.1)

-- ---- each request is of one that counts

abbrev own_if : Bool → ℕ → ForwardingRequest
own_if true n = Listen n
own_if false n = Cancel n

abbrev own_of : Forwarding → ForwardingRequest
own_of f = own_if (asks_at f.stage) f.serial

cancels-not : (s : Stage) → cancels_at s ≡ true → asks_at s ≡ false
cancels-not (ToListen host) e = cc
cancels-not Ordered e = cc
cancels-not (Listening l) e = cc
cancels-not ToRequest e = cc
cancels-not Requested e = cc
cancels-not (Live port) e = cc
cancels-not (Cancelling port) e = refl

of-one : (forwarder_events : List ForwarderEvent) (d : ForwardingState) (r : ForwardingRequest) → Knows forwarder_events d → IsOfStream d.all r → In r (map own_of (filter is_asked_or_live d.all))
of-one forwarder_events d (Listen n) k h =
    let f = h.0 in
    let is : own_of f ≡ Listen n = ap (λ (b : Bool). own_if b f.serial) h.3 ∙ ap (λ (m : ℕ). Listen m) h.2 in
    subst (λ (r : ForwardingRequest). In r (map own_of (filter is_asked_or_live d.all))) is
    (in-map own_of f (filter is_asked_or_live d.all) (in-filter is_asked_or_live f d.all (other-counts f.closing (listens_here f.kind) (asked-there forwarder_events d f k h.1 h.3)) h.1))
of-one forwarder_events d (Cancel n) k h =
    let f = h.0 in
    let is : own_of f ≡ Cancel n = ap (λ (b : Bool). own_if b f.serial) (cancels-not f.stage h.3) ∙ ap (λ (m : ℕ). Cancel m) h.2 in
    subst (λ (r : ForwardingRequest). In r (map own_of (filter is_asked_or_live d.all))) is
    (in-map own_of f (filter is_asked_or_live d.all) (in-filter is_asked_or_live f d.all (other-counts f.closing (listens_here f.kind) (cancelled-there forwarder_events d f k h.1 h.3)) h.1))

pub few-requests : (forwarder_events : List ForwarderEvent) (forwarding_state : ForwardingState) → Leave forwarder_events forwarding_state → length forwarding_state.requests ≤ 64
few-requests forwarder_events forwarding_state left =
    let h = few-left forwarder_events forwarding_state left in
    let w = wants forwarder_events forwarding_state left in
    let k = knows forwarder_events forwarding_state left in
    let few = h.few in
    let less = no-more forwarding_state.requests (map own_of (filter is_asked_or_live forwarding_state.all)) h.once (λ r is. of-one forwarder_events forwarding_state r k (w.said r is)) in
    let many : length (map own_of (filter is_asked_or_live forwarding_state.all)) ≡ how_many forwarding_state.all = length-map (filter is_asked_or_live forwarding_state.all) own_of in
    omega (arith, less, many, few)

pub requests-few : (calls : List HouseCall) (trace : Trace) → TraceReaches first_trace calls trace → length trace.forwarding_state.requests ≤ 64
requests-few calls trace reached = let all = each-happens calls trace reached in few-requests all.0 trace.forwarding_state all.2
