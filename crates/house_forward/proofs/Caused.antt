-- What a request gets has its cause in what happened.
use Rattle.std.proofs.Common.{◌≡◌, ◌∙◌, refl, sym, ap, subst, ℕ, Bool, true, false, List, [], ◌∷◌, ◌++◌, append_assoc, Option, Some, None}
use Rattle.std.specs.Prelude.{◌&&◌, nat_lt, if◌then◌else◌, find, IfSome}
use Rattle.std.specs.List.{All, Contains, fold, list_any}
use Rattle.std.proofs.lemmas.Bool.{and_parts}
use Rattle.std.proofs.lemmas.List.Elements.{All-head, All-tail, All-contains_itself}
use Rattle.mux_outside.specs.declared.house.HouseReply.{HouseReply}
use Rattle.mux_outside.specs.declared.house.HouseReply.TheVariants as given
use Rattle.mux_outside.specs.declared.start_ask.StartAsk.{StartAsk}
use Rattle.house_forward.specs.Asks.{earlier_outcome, earlier_at, earliest, has_outcome, is_settled, stamp_of, ask_reply_in, reply_of, answer_in, turns_away}
use Rattle.house_forward.specs.Causes.{is_answer_to, AreOne, IsFor, IsNextRequest, IsGranted, ListensSince, ServesAt, IsGrant, IsRequestServed, EachServed, CameBy, ListenerMadeBy, RepliedBy, AnswerHasCause, EachAnswer}
use Rattle.house_forward.specs.ForwarderEvents.{ForwarderEvent}
use Rattle.house_forward.specs.ForwarderEvents.{Begins, Asks, Answers, Greets, Requests, Replies, Listens, Unlistens}
use Rattle.house_forward.specs.ForwardingState.{ForwardingState}
use Rattle.house_forward.specs.Forwardings.{ComesIf, ComesUnless, comes_of_ends, opens_of, closes_of, as_first, standing, is_asked_or_live, how_many, listens_at, connects_same_end, forwarding_outcome_of, outcome_at, reply_to, bound_port}
use Rattle.house_forward.specs.Rules.{AreEnds, listens_here, connects_there, listen_host, is_ruled_out}
use Rattle.house_forward.specs.declared.asks.ImmediateOutcome.{ImmediateOutcome as Comes}
use Rattle.house_forward.specs.declared.asks.ImmediateOutcome.TheVariants.{Now, Later}
use Rattle.house_forward.specs.declared.asks.RequestOutcome.{RequestOutcome}
use Rattle.house_forward.specs.declared.asks.RequestOutcome.TheVariants.{Done, Port, Refused}
use Rattle.house_forward.specs.declared.asks.Waiting.{Waiting}
use Rattle.house_forward.specs.declared.forwarding.Forwarding.{Forwarding}
use Rattle.house_forward.specs.declared.forwarding.ForwardingRequest.{ForwardingRequest}
use Rattle.house_forward.specs.declared.forwarding.ForwardingRequest.TheVariants.{Listen}
use Rattle.house_forward.specs.declared.forwarding.Stage.{Stage}
use Rattle.house_forward.specs.declared.forwarding.Stage.TheVariants.{ToListen, Ordered, Listening, ToRequest, Requested, Live, Cancelling}
use Rattle.house_forward.specs.declared.rules.Ends.{Ends}
use Rattle.house_forward.specs.declared.rules.ListenRules.{ListenRules}
use Rattle.house_forward.specs.declared.rules.TheConstants.{MOST_FORWARDINGS}
use Rattle.house_forward.proofs.Causing.{Knows, knows, found, itself, is-for, there-is}
use Rattle.house_forward.proofs.Serving.{StageFits, Stands, Came, CameIf, Waits}

-- ---- one forwarding at two times

one-next : (what : ℕ → ForwardingRequest) (a f : Forwarding) (forwarder_events : List ForwarderEvent) → AreOne a f → IsNextRequest what a forwarder_events → IsNextRequest what f forwarder_events
one-next what a f forwarder_events one n = record {
  first = n.first;
  others = n.others;
  were = n.were;
  is = record {
    serial = sym one.serial ∙ n.is.serial;
    kind = sym one.kind ∙ n.is.kind;
    listens = sym one.listens ∙ n.is.listens;
    listen_port = sym one.listen_port ∙ n.is.listen_port;
    connects = sym one.connects ∙ n.is.connects;
    connect_port = sym one.connect_port ∙ n.is.connect_port;
  };
  asks = n.asks;
  there = ap listens_here (sym one.kind) ∙ n.there;
}

pub one-granted : (a f : Forwarding) (port : ℕ) (forwarder_events : List ForwarderEvent) → AreOne a f → IsGranted a port forwarder_events → IsGranted f port forwarder_events
one-granted a f port forwarder_events one g = record {
  chosen = g.chosen;
  later = g.later;
  earlier = g.earlier;
  were = g.were;
  next = one-next Listen a f g.earlier one g.next;
  bound = g.bound ∙ ap (λ n. bound_port n g.chosen) one.listen_port;
}

pub one-listens : (a f : Forwarding) (l : ℕ) (forwarder_events : List ForwarderEvent) → AreOne a f → ListensSince a.listen_host a.listen_port l forwarder_events
    → ListensSince f.listen_host f.listen_port l forwarder_events
one-listens a f l forwarder_events one h = subst (λ (p : ℕ). ListensSince f.listen_host p l forwarder_events) one.listen_port
    (subst (λ (x : List ℕ). ListensSince x a.listen_port l forwarder_events) one.listens h)

pub one-is-for : (rules : ListenRules) (opening : Bool) (ask : StartAsk) (a f : Forwarding) → AreOne a f → IsFor rules opening ask a
    → IsFor rules opening ask f
one-is-for rules opening ask a f one h = record {
  kind = h.kind ∙ ap (λ k. Some k) one.kind;
  listens = sym one.listens ∙ h.listens ∙ ap (λ k. listen_host k rules.gateway ask.listen_host) one.kind;
  listen_port = sym one.listen_port ∙ h.listen_port;
  connects = λ o there.
      let both = h.connects o (ap connects_there one.kind ∙ there) in
      (sym one.connects ∙ both.0, sym one.connect_port ∙ both.1);
}

serves-at : (s : Stage) (a f : Forwarding) (asked : ℕ) (o : RequestOutcome) (forwarder_events : List ForwarderEvent) → AreOne a f → outcome_at s asked ≡ Some o
    → StageFits s a forwarder_events → ServesAt s f forwarder_events
serves-at (ToListen host) a f asked o forwarder_events one e h = cc
serves-at Ordered a f asked o forwarder_events one e h = cc
serves-at (Listening l) a f asked o forwarder_events one e h = (ap listens_here (sym one.kind) ∙ h.0, one-listens a f l forwarder_events one h.1)
serves-at ToRequest a f asked o forwarder_events one e h = cc
serves-at Requested a f asked o forwarder_events one e h = cc
serves-at (Live p) a f asked o forwarder_events one e h = (ap listens_here (sym one.kind) ∙ h.0, one-granted a f p forwarder_events one h.1)
serves-at (Cancelling p) a f asked o forwarder_events one e h = (ap listens_here (sym one.kind) ∙ h.0, one-granted a f p forwarder_events one h.1)

-- ---- at once

not-now : (answer : HouseReply) (comes : Comes) (P : Type 0) → answer ≡ reply_to comes → comes ≡ Now Refused → IsGrant answer → P
not-now answer comes P e f g = absurd (subst IsGrant (e ∙ ap reply_to f) g)

not-later : (answer : HouseReply) (comes : Comes) (serial : ℕ) (P : Type 0) → answer ≡ reply_to comes → comes ≡ Later serial
    → IsGrant answer → P
not-later answer comes serial P e f g = absurd (subst IsGrant (e ∙ ap reply_to f) g)

-- what is known as a request comes
record Granting (old : ForwardingState) (forwarder_events : List ForwarderEvent) (answer : HouseReply) (comes : Comes) : Type 0 where
  knows : Knows forwarder_events old
  answers : answer ≡ reply_to comes
  grants : IsGrant answer

as-found : (old : ForwardingState) (forwarder_events : List ForwarderEvent) (ask : StartAsk) (answer : HouseReply) (comes : Comes) (ends : Ends) (f : Forwarding)
    (o : Option RequestOutcome) → Granting old forwarder_events answer comes → AreEnds old.rules ask ends
    → find (λ g. is_asked_or_live g && listens_at ends g) old.all ≡ Some f → connects_same_end ends f ≡ true → forwarding_outcome_of f ≡ o → comes ≡ as_first f o
    → IsRequestServed true ask answer old.all forwarder_events
as-found old forwarder_events ask answer comes ends f None g are is connects out e =
    not-later answer comes f.serial (IsRequestServed true ask answer old.all forwarder_events) g.answers e g.grants
as-found old forwarder_events ask answer comes ends f (Some o) g are is connects out e =
    let at = found (Stands g.knows.home old.serials forwarder_events) (λ x. is_asked_or_live x && listens_at ends x) old.all f is g.knows.all in
    let has = found (Contains old.all) (λ x. is_asked_or_live x && listens_at ends x) old.all f is (All-contains_itself old.all) in
    record {
      opens = refl;
      forwarding = f;
      outcome = o;
      stands = has.0;
      is_for = subst (λ (b : ListenRules). IsFor b true ask f) g.knows.rules (is-for old.rules true ask ends f f are (itself f)
          (and_parts (is_asked_or_live f) (listens_at ends f) at.1).1 (λ _. connects));
      counts_yet = (and_parts (is_asked_or_live f) (listens_at ends f) at.1).0;
      serves = serves-at f.stage (g.knows.home f.serial) f f.listen_port o forwarder_events at.0.same out at.0.stage;
      comes = out;
      replies = g.answers ∙ ap reply_to e;
    }

connects-if : (old : ForwardingState) (forwarder_events : List ForwarderEvent) (ask : StartAsk) (answer : HouseReply) (comes : Comes) (ends : Ends) (f : Forwarding)
    (b : Bool) → Granting old forwarder_events answer comes → AreEnds old.rules ask ends
    → find (λ g. is_asked_or_live g && listens_at ends g) old.all ≡ Some f → connects_same_end ends f ≡ b
    → comes ≡ (if b then as_first f (forwarding_outcome_of f) else Now Refused) → IsRequestServed true ask answer old.all forwarder_events
connects-if old forwarder_events ask answer comes ends f true g are is connects e =
    as-found old forwarder_events ask answer comes ends f (forwarding_outcome_of f) g are is connects refl e
connects-if old forwarder_events ask answer comes ends f false g are is connects e =
    not-now answer comes (IsRequestServed true ask answer old.all forwarder_events) g.answers e g.grants

room-if : (old : ForwardingState) (forwarder_events : List ForwarderEvent) (ask : StartAsk) (answer : HouseReply) (comes : Comes) (b : Bool)
    → Granting old forwarder_events answer comes → comes ≡ (if b then Later old.serials else Now Refused) → IsRequestServed true ask answer old.all forwarder_events
room-if old forwarder_events ask answer comes true g e =
    not-later answer comes old.serials (IsRequestServed true ask answer old.all forwarder_events) g.answers e g.grants
room-if old forwarder_events ask answer comes false g e = not-now answer comes (IsRequestServed true ask answer old.all forwarder_events) g.answers e g.grants

opens-by : (old : ForwardingState) (forwarder_events : List ForwarderEvent) (ask : StartAsk) (answer : HouseReply) (comes : Comes) (ends : Ends)
    (o : Option Forwarding) → Granting old forwarder_events answer comes → AreEnds old.rules ask ends → standing ends old.all ≡ o
    → comes ≡ opens_of old.serials ends old.all o → IsRequestServed true ask answer old.all forwarder_events
opens-by old forwarder_events ask answer comes ends None g are is e =
    room-if old forwarder_events ask answer comes (nat_lt (how_many old.all) MOST_FORWARDINGS) g e
opens-by old forwarder_events ask answer comes ends (Some f) g are is e =
    connects-if old forwarder_events ask answer comes ends f (connects_same_end ends f) g are is refl e

closes-if : (old : ForwardingState) (forwarder_events : List ForwarderEvent) (ask : StartAsk) (answer : HouseReply) (comes : Comes) (f : Forwarding) (b : Bool)
    → Granting old forwarder_events answer comes → comes ≡ (if b then Now Refused else Later f.serial) → IsRequestServed false ask answer old.all forwarder_events
closes-if old forwarder_events ask answer comes f true g e = not-now answer comes (IsRequestServed false ask answer old.all forwarder_events) g.answers e g.grants
closes-if old forwarder_events ask answer comes f false g e =
    not-later answer comes f.serial (IsRequestServed false ask answer old.all forwarder_events) g.answers e g.grants

closes-by : (old : ForwardingState) (forwarder_events : List ForwarderEvent) (ask : StartAsk) (answer : HouseReply) (comes : Comes) (o : Option Forwarding)
    → Granting old forwarder_events answer comes → comes ≡ closes_of o → IsRequestServed false ask answer old.all forwarder_events
closes-by old forwarder_events ask answer comes None g e = not-now answer comes (IsRequestServed false ask answer old.all forwarder_events) g.answers e g.grants
closes-by old forwarder_events ask answer comes (Some f) g e = closes-if old forwarder_events ask answer comes f f.closing g e

served-by : (opening : Bool) (old : ForwardingState) (forwarder_events : List ForwarderEvent) (ask : StartAsk) (answer : HouseReply) (comes : Comes) (ends : Ends)
    → Granting old forwarder_events answer comes → AreEnds old.rules ask ends → comes ≡ comes_of_ends opening old.serials ends old.all
    → IsRequestServed opening ask answer old.all forwarder_events
served-by true old forwarder_events ask answer comes ends g are e =
    opens-by old forwarder_events ask answer comes ends (standing ends old.all) g are refl e
served-by false old forwarder_events ask answer comes ends g are e = closes-by old forwarder_events ask answer comes (standing ends old.all) g e

served-if : (alone opening : Bool) (old : ForwardingState) (forwarder_events : List ForwarderEvent) (ask : StartAsk) (answer : HouseReply) (comes : Comes) (new : List Forwarding)
    → Granting old forwarder_events answer comes → ComesIf alone old.rules opening ask old.serials old.all new comes
    → IsRequestServed opening ask answer old.all forwarder_events
served-if true opening old forwarder_events ask answer comes new g c = not-now answer comes (IsRequestServed opening ask answer old.all forwarder_events) g.answers c.0 g.grants
served-if false opening old forwarder_events ask answer comes new g c = served-by opening old forwarder_events ask answer comes c.0 g c.1 c.2

served-unless : (away opening : Bool) (old : ForwardingState) (forwarder_events : List ForwarderEvent) (ask : StartAsk) (answer : HouseReply) (comes : Comes) (new : List Forwarding)
    → Granting old forwarder_events answer comes → ComesUnless away old.rules opening ask old.serials old.all new comes
    → IsRequestServed opening ask answer old.all forwarder_events
served-unless true opening old forwarder_events ask answer comes new g c =
    not-now answer comes (IsRequestServed opening ask answer old.all forwarder_events) g.answers c.0 g.grants
served-unless false opening old forwarder_events ask answer comes new g c =
    served-if (is_ruled_out old.rules ask) opening old forwarder_events ask answer comes new g c

pub each-served : EachServed
each-served client id opening ask answer forwarder_events old new left a grants =
    served-unless (turns_away client id old.waiting) opening old forwarder_events ask answer a.came_to new.all
    (record { knows = knows forwarder_events old left; answers = a.replies; grants = grants }) a.comes

-- ---- later

-- the earliest is one of them, and has an outcome
abbrev pub Picks : (Waiting → Type 0) → Waiting → Type 0
Picks P w = P w × (has_outcome w ≡ true)

pick-if : (P : Waiting → Type 0) (b : Bool) (v f : Waiting) → Picks P v → Picks P f
    → IfSome (if b then Some v else Some f) (Picks P)
pick-if P true v f h k = h
pick-if P false v f h k = k

picks : (P : Waiting → Type 0) (o : Option (ℕ × RequestOutcome)) (a : Option Waiting) (v : Waiting) → v.outcome ≡ o → P v → IfSome a (Picks P)
    → IfSome (earlier_at o a v) (Picks P)
picks P None a v e h k = k
picks P (Some o) None v e h k = (h, ap is_settled e)
picks P (Some o) (Some f) v e h k = pick-if P (nat_lt o.0 (stamp_of f.outcome)) v f (h, ap is_settled e) k

pub picked : (P : Waiting → Type 0) (ws : List Waiting) (a : Option Waiting) (w : Waiting) → fold earlier_outcome a ws ≡ Some w → IfSome a (Picks P)
    → All P ws → Picks P w
picked P [] a w e k h = there-is (Picks P) a w e k
picked P (v ∷ ws) a w e k h =
    picked P ws (earlier_outcome a v) w e (picks P v.outcome a v refl (All-head P v ws h) k) (All-tail P v ws h)

-- its outcome is what it is answered
made-reply : (number : Option ℕ) (p : ℕ) (P : Type 0) → ListenerMadeBy number false (Port p) → P
made-reply None p P e = cc
made-reply (Some l) p P e = absurd e

replied-reply : (success : Bool) (port : Option ℕ) (earlier_outcome : List ForwarderEvent) (f : Forwarding) (p : ℕ) (P : Type 0)
    → RepliedBy success port earlier_outcome false f (Port p) → P
replied-reply true port earlier_outcome f p P h = let e = h.1 in cc
replied-reply false port earlier_outcome f p P h = let e = h.1 in cc

no-port : (forwarder_event : ForwarderEvent) (earlier_outcome : List ForwarderEvent) (f : Forwarding) (p : ℕ) (P : Type 0) → CameBy forwarder_event earlier_outcome false f (Port p) → P
no-port (Begins starts) earlier_outcome f p P h = absurd h
no-port (Asks client id opens ask answer) earlier_outcome f p P h = absurd h
no-port (Answers client id answer) earlier_outcome f p P h = absurd h
no-port Greets earlier_outcome f p P h = absurd h
no-port (Requests g) earlier_outcome f p P h = absurd h
no-port (Replies success port) earlier_outcome f p P h = replied-reply success port earlier_outcome f p P h
no-port (Listens host port number) earlier_outcome f p P h = made-reply number p P h.3
no-port (Unlistens l) earlier_outcome f p P h = let e = h.2 in cc

records : (forwarder_event : ForwarderEvent) (earlier_outcome : List ForwarderEvent) (opening : Bool) (f : Forwarding) (at : ℕ) (outcome : RequestOutcome)
    → CameBy forwarder_event earlier_outcome opening f outcome → ask_reply_in (Some (at, outcome)) opening ≡ reply_to (Now outcome)
records forwarder_event earlier_outcome opening f at Done h = refl
records forwarder_event earlier_outcome opening f at Refused h = refl
records forwarder_event earlier_outcome true f at (Port p) h = refl
records forwarder_event earlier_outcome false f at (Port p) h = no-port forwarder_event earlier_outcome f p (given.Refused ≡ given.Port p) h

caused-by : (home : ℕ → Forwarding) (serials : ℕ) (forwarder_events : List ForwarderEvent) (w : Waiting) (o : Option (ℕ × RequestOutcome)) → w.outcome ≡ o
    → is_settled o ≡ true → Waits home serials forwarder_events w → AnswerHasCause w.client w.id (reply_of w) forwarder_events
caused-by home serials forwarder_events w None e some h = cc
caused-by home serials forwarder_events w (Some o) e some h =
    let ask : ForwarderEvent = Asks w.client w.id w.opening h.ask given.Later in
    let came : Came (home w.forwarding) w.opening o.1 h.later (ask ∷ h.earlier) =
    subst (λ (x : Option (ℕ × RequestOutcome)). CameIf x (home w.forwarding) w.opening h.later (ask ∷ h.earlier)) e h.came in
    record {
      opening = w.opening;
      ask = h.ask;
      forwarding = home w.forwarding;
      outcome = o.1;
      later = came.newer;
      forwarder_event = came.forwarder_event;
      between = came.older;
      earlier = h.earlier;
      were = h.were ∙ ap (λ ds. ds ++ ask ∷ h.earlier) came.were ∙ append_assoc came.newer (came.forwarder_event ∷ came.older) (ask ∷ h.earlier);
      open_yet = subst (λ (ds : List ForwarderEvent). list_any (is_answer_to w.client w.id) ds ≡ false) came.were h.open_yet;
      is_for = h.is_for;
      came = came.by;
      replies = ap (λ x. ask_reply_in x w.opening) e
          ∙ records came.forwarder_event (came.older ++ ask ∷ h.earlier) w.opening (home w.forwarding) o.0 o.1 came.by;
    }

pub same-answer : (a b : ℕ × ℕ × HouseReply) → Some a ≡ Some b → a ≡ b
same-answer a b e = cc

answers-by : (o : Option Waiting) (client id : ℕ) (answer : HouseReply) (forwarder_events : List ForwarderEvent)
    → answer_in o ≡ Some (client, id, answer) → IfSome o (λ w. AnswerHasCause w.client w.id (reply_of w) forwarder_events)
    → AnswerHasCause client id answer forwarder_events
answers-by None client id answer forwarder_events e h = cc
answers-by (Some w) client id answer forwarder_events e h =
    subst (λ (a : ℕ × ℕ × HouseReply). AnswerHasCause a.0 a.1 a.2 forwarder_events)
    (same-answer (w.client, w.id, reply_of w) (client, id, answer) e) h

if-earliest : (ws : List Waiting) (o : Option Waiting) (forwarder_events : List ForwarderEvent) (home : ℕ → Forwarding) (serials : ℕ) → earliest ws ≡ o
    → All (Waits home serials forwarder_events) ws → IfSome o (λ w. AnswerHasCause w.client w.id (reply_of w) forwarder_events)
if-earliest ws None forwarder_events home serials e h = tt
if-earliest ws (Some w) forwarder_events home serials e h =
    let one = picked (Waits home serials forwarder_events) ws None w e tt h in
    caused-by home serials forwarder_events w w.outcome refl one.1 one.0

pub each-answer : EachAnswer
each-answer client id answer forwarder_events old new left a =
    let k = knows forwarder_events old left in
    answers-by (earliest old.waiting) client id answer forwarder_events a.answer
    (if-earliest old.waiting (earliest old.waiting) forwarder_events k.home old.serials refl k.waiting)
