-- What is known by what happened, event by event.
use Rattle.std.proofs.Common.{◌≡◌, ◌∙◌, refl, sym, ap, subst, arith, ℕ, zero, suc, ◌+◌, ◌-◌, ◌<◌, ◌≤◌, Bool, true, false, List, [], ◌∷◌, ◌++◌, length, length-append, get_or, set, take, drop, map, filter, Option, Some, None, inl, inr}
use Rattle.std.specs.Prelude.{◌⊎◌, ◌==◌, ◌&&◌, ◌||◌, not, nat_lt, nat_le, if◌then◌else◌, find, slice_get, IfSome}
use Rattle.std.specs.List.{All, position, position_or_len, remove}
use Rattle.std.proofs.lemmas.Bool.{and_parts, or_parts, eqb-true, eq-eqb, not-true}
use Rattle.std.proofs.lemmas.List.{map-append, length-map}
use Rattle.std.proofs.lemmas.List.Elements.{All-nil, All-head, All-tail, All-weaker, All-set, All-append, All-take, All-drop, All-filter, All-push, filter_passes}
use Rattle.std.proofs.lemmas.List.Quantifiers.{position-Some}
use Rattle.std.proofs.lemmas.List.Folds.{find-set}
use Rattle.std.specs.Str.{bytes_eq}
use Rattle.std.proofs.lemmas.Slice.Eq.{bytes_eq-Decides}
use Rattle.mux_outside.specs.declared.house.HouseReply.{HouseReply}
use Rattle.mux_outside.specs.declared.start_ask.StartAsk.{StartAsk}
use Rattle.mux_outside.specs.declared.starts.Starts.{Starts}
use Rattle.house_forward.specs.Asks.{has_open, is_full_for, turns_away, requests_settled, one_more_outcome, owes_opening, after_answer, without_request_at, is_waiting, request_waiting_for}
use Rattle.house_forward.specs.Causes.{rules_in, unanswered_requests, AreOne, IsFor, IsNextRequest, IsGranted, CameBy}
use Rattle.house_forward.specs.ForwarderEvents.{ForwarderEvent, Does, Leave}
use Rattle.house_forward.specs.ForwarderEvents.{Begins, Asks, Answers, Greets, Requests, Replies, Listens, Unlistens}
use Rattle.house_forward.specs.ForwardingState.{ForwardingState, empty_forwarding_state, BeginsWith, IsClientAsk, GivesFirstAnswer as IsAnswered, greeting_sent, request_sent, reply_received, GetsListener, EndsListener, standing_at}
use Rattle.house_forward.specs.Forwardings.{AskedAtStart as BeginsAt, StartsIf, Standing, OpensForwarding, serials_after, IsAskedFor, is_first, waits_at, has_request, requests_at, forwarding_request_of, forwarding_request_at, after_request_sent, forwarding_changed, removed_at, standing, is_asked_or_live, how_many, listens_at, connects_same_end, as_first, forwarding_outcome_of, opens_of, closes_of, comes_of_ends, after_close, is_new, EndsLeave, ComesIf, ComesUnless, reply_to, waiting_after, bound_port, outcome_of_grant, listener_stage_after, is_listen_unanswered, asks_at, is_cancelled, live_outcome_in, opened_asks, replied_all, replied_asks, first_forwarding_request, to_listen, MadeAt, ordered_asks, serial_of, next_listener_order, next_at, forwarding_ends_at, has_listener, is_listener, listener_at}
use Rattle.house_forward.specs.Rules.{listens_here, connects_there, same_kind, listen_host, AreEnds, is_ruled_out, rules_of}
use Rattle.house_forward.specs.declared.asks.ImmediateOutcome.{ImmediateOutcome as Comes}
use Rattle.house_forward.specs.declared.asks.ImmediateOutcome.TheVariants.{Now, Later}
use Rattle.house_forward.specs.declared.asks.RequestOutcome.{RequestOutcome}
use Rattle.house_forward.specs.declared.asks.RequestOutcome.TheVariants.{Done, Refused}
use Rattle.house_forward.specs.declared.asks.Waiting.{Waiting}
use Rattle.house_forward.specs.declared.forwarding.Change.TheVariants as change
use Rattle.house_forward.specs.declared.forwarding.Forwarding.{Forwarding}
use Rattle.house_forward.specs.declared.forwarding.ForwardingRequest.{ForwardingRequest}
use Rattle.house_forward.specs.declared.forwarding.ForwardingRequest.TheVariants.{Listen, Cancel}
use Rattle.house_forward.specs.declared.forwarding.Stage.{Stage}
use Rattle.house_forward.specs.declared.forwarding.Stage.TheVariants.{ToListen, Ordered, Listening, ToRequest, Requested, Live, Cancelling}
use Rattle.house_forward.specs.declared.forwardings.ForwardingWant.{ForwardingWant}
use Rattle.house_forward.specs.declared.forwardings.ForwardingWant.TheVariants as want
use Rattle.house_forward.specs.declared.rules.Ends.{Ends}
use Rattle.house_forward.specs.declared.rules.ForwardingKind.{ForwardingKind}
use Rattle.house_forward.specs.declared.rules.ForwardingKind.TheVariants as kind
use Rattle.house_forward.specs.declared.rules.ListenRules.{ListenRules}
use Rattle.house_forward.specs.declared.rules.TheConstants.{MOST_FORWARDINGS}
use Rattle.house_forward.proofs.Apart.{Apart, apart-more, apart-replied, apart-ordered, apart-settled, apart-taken, others}
use Rattle.house_forward.proofs.ForwardingStates.{same-forwarding_states}
use Rattle.house_forward.proofs.Lists.{found-first}
use Rattle.house_forward.proofs.Serving.{StageFits, Stands, Asked, Waits, Lets, all-later, all-wait-later, waits-later, stands-later, Keeps, stands-grown, asked-grown, waits-grown, restaged, all-changed, steady-stage, all-settled, all-refused}

-- what is known
pub record Knows (forwarder_events : List ForwarderEvent) (d : ForwardingState) : Type 0 where
  pub home : ℕ → Forwarding
  pub rules : d.rules ≡ rules_in forwarder_events
  pub requests : d.requests ≡ map forwarding_request_of (unanswered_requests forwarder_events)
  pub all : All (Stands home d.serials forwarder_events) d.all
  pub asked : All (Asked home d.serials) (unanswered_requests forwarder_events)
  pub waiting : All (Waits home d.serials forwarder_events) d.waiting
  pub apart : Apart d.waiting

-- ---- lists

found-if : {X : Type 0} (P : X → Type 0) (p : X → Bool) (y : X) (b : Bool) (o : Option X) (x : X) → p y ≡ b
    → (if b then Some y else o) ≡ Some x → P y → (o ≡ Some x → P x × (p x ≡ true)) → P x × (p x ≡ true)
found-if P p y true o x e is h rest =
    let same : y ≡ x = cc in
    (subst P same h, subst (λ z. p z ≡ true) same e)
found-if P p y false o x e is h rest = rest is

-- the one that is found
pub found : {X : Type 0} (P : X → Type 0) (p : X → Bool) (xs : List X) (x : X) → find p xs ≡ Some x → All P xs
    → P x × (p x ≡ true)
found P p [] x e h = cc
found P p (y ∷ xs) x e h =
    found-if P p y (p y) (find p xs) x refl e (All-head P y xs h) (λ rest. found P p xs x rest (All-tail P y xs h))

-- the one at a place that is the first
pub placed : {X : Type 0} (P : X → Type 0) (p : X → Bool) (xs : List X) (i : ℕ) (x : X) → position p xs ≡ Some i → x ≡ get_or xs i x
    → All P xs → P x × (p x ≡ true) × (find p xs ≡ Some x)
placed P p xs i x e at h =
    let first = position-Some p xs i x e in (
      subst P (sym at) (h i x first.0),
      subst (λ z. p z ≡ true) (sym at) first.1,
      found-first p xs i x first.0 first.1 first.2 ∙ ap (λ z. Some z) (sym at),
    )

pub all-remove : {X : Type 0} (P : X → Type 0) (xs : List X) (i : ℕ) → All P xs → All P (remove xs i)
all-remove P xs i h = All-append P (take i xs) (drop (suc i) xs) (All-take P i xs h) (All-drop P (suc i) xs h)

pub all-removed : (P : Forwarding → Type 0) (o : Option ℕ) (xs : List Forwarding) → All P xs → All P (removed_at o xs)
all-removed P None xs h = h
all-removed P (Some i) xs h = all-remove P xs i h

pub all-taken : (P : Waiting → Type 0) (o : Option ℕ) (xs : List Waiting) → All P xs → All P (without_request_at o xs)
all-taken P None xs h = h
all-taken P (Some i) xs h = all-remove P xs i h

pub in-range : {X : Type 0} (xs : List X) (i : ℕ) → i < length xs → (x : X) × (slice_get xs i ≡ Some x)
in-range [] i l = absurd (omega arith)
in-range (x ∷ xs) zero l = (x, refl)
in-range (x ∷ xs) (suc i) l = in-range xs i (omega arith)

-- ---- more forwardings

-- there are more of them, or as many
record Grown (home : ℕ → Forwarding) (serials : ℕ) (forwarder_events : List ForwarderEvent) (fs : List Forwarding) (more : ℕ) : Type 0 where
  to : ℕ → Forwarding
  less : serials ≤ more
  keeps : Keeps home to serials
  all : All (Stands to more forwarder_events) fs

as-many : (home : ℕ → Forwarding) (serials : ℕ) (forwarder_events : List ForwarderEvent) (fs : List Forwarding) → All (Stands home serials forwarder_events) fs
    → Grown home serials forwarder_events fs serials
as-many home serials forwarder_events fs h = record { to = home; less = omega arith; keeps = λ n l. refl; all = h }

grown-on : (home : ℕ → Forwarding) (serials : ℕ) (forwarder_events : List ForwarderEvent) (fs gs : List Forwarding) (more most : ℕ)
    → (g : Grown home serials forwarder_events fs more) → Grown g.to more forwarder_events gs most → Grown home serials forwarder_events gs most
grown-on home serials forwarder_events fs gs more most g k =
    let one = g.less in
    let two = k.less in record {
      to = k.to;
      less = omega (arith, one, two);
      keeps = λ n l. k.keeps n (omega (arith, l, one)) ∙ g.keeps n l;
      all = k.all;
    }

-- one more has the next serial
abbrev with_one : ℕ → Forwarding → (ℕ → Forwarding) → ℕ → Forwarding
with_one serial f home n = if n == serial then f else home n

one-new : (serial : ℕ) (f : Forwarding) (home : ℕ → Forwarding) → with_one serial f home serial ≡ f
one-new serial f home = rw (eq-eqb serial serial refl) refl

one-old : (n serial : ℕ) (f : Forwarding) (home : ℕ → Forwarding) (b : Bool) → (n == serial) ≡ b → n < serial
    → (if b then f else home n) ≡ home n
one-old n serial f home true e l = let same = eqb-true n serial e in absurd (omega (arith, same, l))
one-old n serial f home false e l = refl

asked-stage : (s : Stage) (a : Forwarding) (forwarder_events : List ForwarderEvent) (here : Bool) → is_first s ≡ true → waits_at s ≡ here
    → listens_here a.kind ≡ here → StageFits s a forwarder_events
asked-stage (ToListen host) a forwarder_events here first e f = f ∙ sym e
asked-stage Ordered a forwarder_events here first e f = cc
asked-stage (Listening l) a forwarder_events here first e f = cc
asked-stage ToRequest a forwarder_events here first e f = f ∙ sym e
asked-stage Requested a forwarder_events here first e f = cc
asked-stage (Live port) a forwarder_events here first e f = cc
asked-stage (Cancelling port) a forwarder_events here first e f = cc

pub itself : (f : Forwarding) → AreOne f f
itself f = record { serial = refl; kind = refl; listens = refl; listen_port = refl; connects = refl; connect_port = refl }

new-stands : (home : ℕ → Forwarding) (serials : ℕ) (forwarder_events : List ForwarderEvent) (ends : Ends) (start : Option ℕ) (f : Forwarding)
    → IsAskedFor ends serials start f → Stands (with_one serials f home) (serials + 1) forwarder_events f
new-stands home serials forwarder_events ends start f a =
    let serial = a.serial_is in
    let to : with_one serials f home f.serial ≡ f = ap (with_one serials f home) serial ∙ one-new serials f home in
    record {
      below = omega (arith, serial);
      same = subst (λ (g : Forwarding). AreOne g f) (sym to) (itself f);
      stage = subst (λ (g : Forwarding). StageFits f.stage g forwarder_events) (sym to)
          (asked-stage f.stage f forwarder_events (listens_here ends.kind) a.first a.here (ap listens_here a.kind_is));
    }

one-more : (home : ℕ → Forwarding) (serials : ℕ) (forwarder_events : List ForwarderEvent) (ends : Ends) (start : Option ℕ) (f : Forwarding) (fs : List Forwarding)
    → IsAskedFor ends serials start f → All (Stands home serials forwarder_events) fs
    → Grown home serials forwarder_events (fs ++ f ∷ []) (serials + 1)
one-more home serials forwarder_events ends start f fs a h =
    let keeps : Keeps home (with_one serials f home) serials = λ n l. one-old n serials f home (n == serials) refl l in
    record {
      to = with_one serials f home;
      less = omega arith;
      keeps = keeps;
      all = All-push (Stands (with_one serials f home) (serials + 1) forwarder_events) fs f
          (All-weaker (Stands home serials forwarder_events) (Stands (with_one serials f home) (serials + 1) forwarder_events)
          (λ g s. stands-grown home (with_one serials f home) serials (serials + 1) forwarder_events g (omega arith) keeps s) fs h)
          (new-stands home serials forwarder_events ends start f a);
    }

opens : (b : Bool) (ends : Ends) (serials : ℕ) (start : Option ℕ) (forwarder_events : List ForwarderEvent) (home : ℕ → Forwarding) (old new : List Forwarding)
    → All (Stands home serials forwarder_events) old → OpensForwarding b ends serials start old new
    → Grown home serials forwarder_events new (serials_after b serials)
opens false ends serials start forwarder_events home old new h o =
    subst (λ (fs : List Forwarding). Grown home serials forwarder_events fs serials) (sym o) (as-many home serials forwarder_events old h)
opens true ends serials start forwarder_events home old new h o =
    subst (λ (fs : List Forwarding). Grown home serials forwarder_events fs (serials + 1)) (sym o.2)
    (one-more home serials forwarder_events ends start o.0 old o.1 h)

-- ---- the start

starts-one : (b : Bool) (rules : ListenRules) (ask : StartAsk) (i : ℕ) (forwarder_events : List ForwarderEvent) (home : ℕ → Forwarding) (old new : Standing)
    → All (Stands home old.serials forwarder_events) old.all → StartsIf b rules ask i old new
    → Grown home old.serials forwarder_events new.all new.serials
starts-one true rules ask i forwarder_events home old new h s =
    subst (λ (t : Standing). Grown home old.serials forwarder_events t.all t.serials) (sym s) (as-many home old.serials forwarder_events old.all h)
starts-one false rules ask i forwarder_events home old new h s =
    subst (λ (m : ℕ). Grown home old.serials forwarder_events new.all m) (sym s.2.serials)
    (opens _ s.0 old.serials (Some i) forwarder_events home old.all new.all h s.2.all)

pub there-is : {X : Type 0} (P : X → Type 0) (o : Option X) (x : X) → o ≡ Some x → IfSome o P → P x
there-is P None x e h = cc
there-is P (Some y) x e h = let same : y ≡ x = cc in subst P same h

begins : (rules : ListenRules) (asks : List StartAsk) (i : ℕ) (forwarder_events : List ForwarderEvent) (home : ℕ → Forwarding) (old new : Standing)
    → i ≤ length asks → All (Stands home old.serials forwarder_events) old.all → BeginsAt rules asks i old new
    → Grown home old.serials forwarder_events new.all new.serials
begins rules asks zero forwarder_events home old new l h b =
    subst (λ (t : Standing). Grown home old.serials forwarder_events t.all t.serials) (sym b) (as-many home old.serials forwarder_events old.all h)
begins rules asks (suc i) forwarder_events home old new l h b =
    let first = begins rules asks i forwarder_events home old b.0 (omega arith) h b.1 in
    let at = in-range asks i (omega arith) in
    let starts = there-is (λ (ask : StartAsk). StartsIf (is_ruled_out rules ask) rules ask i b.0 new) (slice_get asks i) at.0 at.1 b.2 in
    grown-on home old.serials forwarder_events b.0.all new.all b.0.serials new.serials first
    (starts-one (is_ruled_out rules at.0) rules at.0 i forwarder_events first.to b.0 new first.all starts)

all-asked-grown : (home to : ℕ → Forwarding) (serials more : ℕ) (gs : List Forwarding) → serials ≤ more → Keeps home to serials
    → All (Asked home serials) gs → All (Asked to more) gs
all-asked-grown home to serials more gs less keeps h =
    All-weaker (Asked home serials) (Asked to more) (λ g a. asked-grown home to serials more g less keeps a) gs h

all-wait-grown : (home to : ℕ → Forwarding) (serials more : ℕ) (forwarder_events : List ForwarderEvent) (ws : List Waiting) → serials ≤ more
    → Keeps home to serials → All (Waits home serials forwarder_events) ws → All (Waits to more forwarder_events) ws
all-wait-grown home to serials more forwarder_events ws less keeps h =
    All-weaker (Waits home serials forwarder_events) (Waits to more forwarder_events)
    (λ w s. waits-grown home to serials more forwarder_events w less keeps s) ws h

after-start : (starts : Starts) (forwarder_events : List ForwarderEvent) (old new : ForwardingState) → Knows forwarder_events old → BeginsWith starts old new
    → Knows (Begins starts ∷ forwarder_events) new
after-start starts forwarder_events old new k b =
    let forwarder_event : ForwarderEvent = Begins starts in
    let g = begins (rules_of starts) starts.asks (length starts.asks) (forwarder_event ∷ forwarder_events) k.home (standing_at old) (standing_at new)
    (omega arith) (all-later k.home old.serials forwarder_event forwarder_events old.all (λ l. refl) k.all) b.begins in
    record {
      home = g.to;
      rules = ap (λ (d : ForwardingState). d.rules) b.others;
      requests = ap (λ (d : ForwardingState). d.requests) b.others ∙ k.requests;
      all = g.all;
      asked = all-asked-grown k.home g.to old.serials new.serials (unanswered_requests forwarder_events) g.less g.keeps k.asked;
      waiting = subst (λ (ws : List Waiting). All (Waits g.to new.serials (forwarder_event ∷ forwarder_events)) ws)
          (sym (ap (λ (d : ForwardingState). d.waiting) b.others))
          (all-wait-grown k.home g.to old.serials new.serials (forwarder_event ∷ forwarder_events) old.waiting g.less g.keeps
          (all-wait-later k.home old.serials forwarder_event forwarder_events (λ c i. refl) old.waiting k.waiting));
      apart = subst Apart (sym (ap (λ (d : ForwardingState). d.waiting) b.others)) k.apart;
    }

-- ---- nothing happened yet

nobody : Forwarding
nobody = record {
  serial = 0;
  kind = kind.Remote;
  listen_host = [];
  listen_port = 0;
  connect_host = [];
  connect_port = 0;
  stage = ToRequest;
  closing = false;
  start = None;
}

knows-nothing : Knows [] empty_forwarding_state
knows-nothing = record {
  home = λ n. nobody;
  rules = refl;
  requests = refl;
  all = All-nil (Stands (λ n. nobody) 0 []);
  asked = All-nil (Asked (λ n. nobody) 0);
  waiting = All-nil (Waits (λ n. nobody) 0 []);
  apart = tt;
}

-- ---- a request

same-kinds : (a b : ForwardingKind) → same_kind a b ≡ true → a ≡ b
same-kinds kind.Local kind.Local e = refl
same-kinds kind.Local kind.Remote e = cc
same-kinds kind.Local kind.Dynamic e = cc
same-kinds kind.Remote kind.Local e = cc
same-kinds kind.Remote kind.Remote e = refl
same-kinds kind.Remote kind.Dynamic e = cc
same-kinds kind.Dynamic kind.Local e = cc
same-kinds kind.Dynamic kind.Remote e = cc
same-kinds kind.Dynamic kind.Dynamic e = refl

same-bytes : (a b : List ℕ) → bytes_eq a b ≡ true → a ≡ b
same-bytes a b e = (bytes_eq-Decides a b).0 e

-- it connects to the same end
one-end : (there p q : Bool) → (not there || (p && q)) ≡ true → there ≡ true → (p ≡ true) × (q ≡ true)
one-end true p q e is = and_parts p q e
one-end false p q e is = cc

-- a forwarding that listens where a request is to listen is the one that it is for
pub is-for : (rules : ListenRules) (opening : Bool) (ask : StartAsk) (ends : Ends) (f a : Forwarding) → AreEnds rules ask ends → AreOne a f
    → listens_at ends f ≡ true → (opening ≡ true → connects_same_end ends f ≡ true) → IsFor rules opening ask a
is-for rules opening ask ends f a are one listens connects =
    let first = and_parts (same_kind f.kind ends.kind) ((f.listen_port == ends.listen_port) && bytes_eq f.listen_host ends.listen_host.now) listens in
    let second = and_parts (f.listen_port == ends.listen_port) (bytes_eq f.listen_host ends.listen_host.now) first.1 in
    let kinds : a.kind ≡ ends.kind = one.kind ∙ same-kinds f.kind ends.kind first.0 in
    record {
      kind = are.kind ∙ ap (λ (k : ForwardingKind). Some k) (sym kinds);
      listens = one.listens ∙ same-bytes f.listen_host ends.listen_host.now second.1 ∙ are.listens
          ∙ ap (λ (k : ForwardingKind). listen_host k rules.gateway ask.listen_host) (sym kinds);
      listen_port = one.listen_port ∙ eqb-true f.listen_port ends.listen_port second.0 ∙ are.listen_port;
      connects = λ o there.
          let both = one-end (connects_there f.kind) (f.connect_port == ends.connect_port)
          (bytes_eq f.connect_host ends.connect_host.now) (connects o) (ap connects_there (sym one.kind) ∙ there) in (
            one.connects ∙ same-bytes f.connect_host ends.connect_host.now both.1 ∙ are.connects,
            one.connect_port ∙ eqb-true f.connect_port ends.connect_port both.0 ∙ are.connect_port,
          );
    }

pub new-is-for : (rules : ListenRules) (opening : Bool) (ask : StartAsk) (ends : Ends) (serial : ℕ) (start : Option ℕ) (f : Forwarding)
    → AreEnds rules ask ends → IsAskedFor ends serial start f → IsFor rules opening ask f
new-is-for rules opening ask ends serial start f are a = record {
  kind = are.kind ∙ ap (λ (k : ForwardingKind). Some k) (sym a.kind_is);
  listens = a.listens ∙ are.listens ∙ ap (λ (k : ForwardingKind). listen_host k rules.gateway ask.listen_host) (sym a.kind_is);
  listen_port = a.listen_port_is ∙ are.listen_port;
  connects = λ o there. (a.connects ∙ are.connects, a.connect_port_is ∙ are.connect_port);
}

-- the forwarding for whose fate a request waits
record WaitsFor (home : ℕ → Forwarding) (serials : ℕ) (rules : ListenRules) (opening : Bool) (ask : StartAsk) (serial : ℕ) : Type 0 where
  below : serial < serials
  serial_is : (home serial).serial ≡ serial
  is_for : IsFor rules opening ask (home serial)

-- what a request leaves
record Leaves (home : ℕ → Forwarding) (serials : ℕ) (forwarder_events : List ForwarderEvent) (rules : ListenRules) (opening : Bool) (ask : StartAsk) (comes : Comes)
    (fs : List Forwarding) (more : ℕ) : Type 0 where
  grown : Grown home serials forwarder_events fs more
  waits : (serial : ℕ) → comes ≡ Later serial → WaitsFor grown.to more rules opening ask serial

abbrev pub more_than : ℕ → List Forwarding → List Forwarding → ℕ
more_than serials old new = serials + (length new - length old)

pub same-many : (serials : ℕ) (old new : List Forwarding) → length new ≡ length old → serials ≡ more_than serials old new
same-many serials old new e = omega (arith, e)

pub one-many : (serials : ℕ) (fs : List Forwarding) (f : Forwarding) → serials + 1 ≡ more_than serials fs (fs ++ f ∷ [])
one-many serials fs f = omega (arith, length-append fs (f ∷ []))

never : (o : RequestOutcome) (comes : Comes) (serial : ℕ) (P : Type 0) → comes ≡ Now o → comes ≡ Later serial → P
never o comes serial P e f = cc

now : (home : ℕ → Forwarding) (serials : ℕ) (forwarder_events : List ForwarderEvent) (rules : ListenRules) (opening : Bool) (ask : StartAsk) (comes : Comes)
    (o : RequestOutcome) (fs new : List Forwarding) → All (Stands home serials forwarder_events) fs → comes ≡ Now o → new ≡ fs
    → Leaves home serials forwarder_events rules opening ask comes new (more_than serials fs new)
now home serials forwarder_events rules opening ask comes o fs new k e same =
    let grown : Grown home serials forwarder_events new (more_than serials fs new) =
    subst (λ (m : ℕ). Grown home serials forwarder_events new m) (same-many serials fs new (ap (λ (xs : List Forwarding). length xs) same))
    (subst (λ (xs : List Forwarding). Grown home serials forwarder_events xs serials) (sym same) (as-many home serials forwarder_events fs k)) in
    record {
      grown = grown;
      waits = λ serial is. never o comes serial (WaitsFor grown.to (more_than serials fs new) rules opening ask serial) e is;
    }

-- one more
new-one : (home : ℕ → Forwarding) (serials : ℕ) (forwarder_events : List ForwarderEvent) (rules : ListenRules) (ask : StartAsk) (comes : Comes) (ends : Ends)
    (fs new : List Forwarding) (f : Forwarding) → All (Stands home serials forwarder_events) fs → AreEnds rules ask ends
    → comes ≡ Later serials → IsAskedFor ends serials None f → new ≡ fs ++ f ∷ []
    → Leaves home serials forwarder_events rules true ask comes new (more_than serials fs new)
unfolding one-more
new-one home serials forwarder_events rules ask comes ends fs new f k are e a more =
    let g = one-more home serials forwarder_events ends None f fs a k in
    let to = with_one serials f home in
    let here : to serials ≡ f = one-new serials f home in
    let got : Leaves home serials forwarder_events rules true ask comes (fs ++ f ∷ []) (serials + 1) = record {
      grown = g;
      waits = λ serial is.
          let same : serials ≡ serial = cc in
          subst (λ (n : ℕ). WaitsFor to (serials + 1) rules true ask n) same (record {
            below = omega arith;
            serial_is = ap (λ (x : Forwarding). x.serial) here ∙ a.serial_is;
            is_for = subst (λ (x : Forwarding). IsFor rules true ask x) (sym here)
                (new-is-for rules true ask ends serials None f are a);
          });
    } in
    subst (λ (xs : List Forwarding). Leaves home serials forwarder_events rules true ask comes xs (more_than serials fs xs)) (sym more)
    (subst (λ (m : ℕ). Leaves home serials forwarder_events rules true ask comes (fs ++ f ∷ []) m) (one-many serials fs f) got)

-- one that stands
same-one : (home : ℕ → Forwarding) (serials : ℕ) (forwarder_events : List ForwarderEvent) (rules : ListenRules) (opening : Bool) (ask : StartAsk) (ends : Ends) (f : Forwarding)
    → AreEnds rules ask ends → Stands home serials forwarder_events f → listens_at ends f ≡ true
    → (opening ≡ true → connects_same_end ends f ≡ true) → WaitsFor home serials rules opening ask f.serial
same-one home serials forwarder_events rules opening ask ends f are s listens connects = record {
  below = s.below;
  serial_is = s.same.serial;
  is_for = is-for rules opening ask ends f (home f.serial) are s.same listens connects;
}

as-found : (home : ℕ → Forwarding) (serials : ℕ) (forwarder_events : List ForwarderEvent) (rules : ListenRules) (ask : StartAsk) (comes : Comes)
    (fs new : List Forwarding) (f : Forwarding) (o : Option RequestOutcome) → All (Stands home serials forwarder_events) fs
    → comes ≡ as_first f o → new ≡ fs → WaitsFor home serials rules true ask f.serial
    → Leaves home serials forwarder_events rules true ask comes new (more_than serials fs new)
unfolding as-many
as-found home serials forwarder_events rules ask comes fs new f (Some o) k e same w =
    now home serials forwarder_events rules true ask comes o fs new k e same
as-found home serials forwarder_events rules ask comes fs new f None k e same w =
    let got : Leaves home serials forwarder_events rules true ask comes fs serials = record {
      grown = as-many home serials forwarder_events fs k;
      waits = λ serial is.
          let its : f.serial ≡ serial = cc in
          subst (λ (n : ℕ). WaitsFor home serials rules true ask n) its w;
    } in
    subst (λ (xs : List Forwarding). Leaves home serials forwarder_events rules true ask comes xs (more_than serials fs xs)) (sym same)
    (subst (λ (m : ℕ). Leaves home serials forwarder_events rules true ask comes fs m) (same-many serials fs fs refl) got)

opens-none : (home : ℕ → Forwarding) (serials : ℕ) (forwarder_events : List ForwarderEvent) (rules : ListenRules) (ask : StartAsk) (comes : Comes) (ends : Ends)
    (fs new : List Forwarding) (b : Bool) → All (Stands home serials forwarder_events) fs → AreEnds rules ask ends
    → comes ≡ (if b then Later serials else Now Refused) → OpensForwarding b ends serials None fs new
    → Leaves home serials forwarder_events rules true ask comes new (more_than serials fs new)
opens-none home serials forwarder_events rules ask comes ends fs new true k are e o =
    new-one home serials forwarder_events rules ask comes ends fs new o.0 k are e o.1 o.2
opens-none home serials forwarder_events rules ask comes ends fs new false k are e o =
    now home serials forwarder_events rules true ask comes Refused fs new k e o

opens-some : (home : ℕ → Forwarding) (serials : ℕ) (forwarder_events : List ForwarderEvent) (rules : ListenRules) (ask : StartAsk) (comes : Comes)
    (fs new : List Forwarding) (f : Forwarding) (b : Bool) → All (Stands home serials forwarder_events) fs
    → comes ≡ (if b then as_first f (forwarding_outcome_of f) else Now Refused) → new ≡ fs
    → (b ≡ true → WaitsFor home serials rules true ask f.serial)
    → Leaves home serials forwarder_events rules true ask comes new (more_than serials fs new)
opens-some home serials forwarder_events rules ask comes fs new f true k e same w =
    as-found home serials forwarder_events rules ask comes fs new f (forwarding_outcome_of f) k e same (w refl)
opens-some home serials forwarder_events rules ask comes fs new f false k e same w =
    now home serials forwarder_events rules true ask comes Refused fs new k e same

opens-by : (home : ℕ → Forwarding) (serials : ℕ) (forwarder_events : List ForwarderEvent) (rules : ListenRules) (ask : StartAsk) (comes : Comes) (ends : Ends)
    (fs new : List Forwarding) (o : Option Forwarding) → standing ends fs ≡ o → All (Stands home serials forwarder_events) fs
    → AreEnds rules ask ends → comes ≡ opens_of serials ends fs o → OpensForwarding (is_new ends fs o) ends serials None fs new
    → Leaves home serials forwarder_events rules true ask comes new (more_than serials fs new)
opens-by home serials forwarder_events rules ask comes ends fs new None is k are e o =
    opens-none home serials forwarder_events rules ask comes ends fs new (nat_lt (how_many fs) MOST_FORWARDINGS) k are e o
opens-by home serials forwarder_events rules ask comes ends fs new (Some f) is k are e o =
    let at = found (Stands home serials forwarder_events) (λ g. is_asked_or_live g && listens_at ends g) fs f is k in
    let listens = (and_parts (is_asked_or_live f) (listens_at ends f) at.1).1 in
    opens-some home serials forwarder_events rules ask comes fs new f (connects_same_end ends f) k e o
    (λ there. same-one home serials forwarder_events rules true ask ends f are at.0 listens (λ _. there))

-- one closes
closes-one : (home : ℕ → Forwarding) (serials : ℕ) (forwarder_events : List ForwarderEvent) (rules : ListenRules) (ask : StartAsk) (comes : Comes)
    (fs new : List Forwarding) (f : Forwarding) (b : Bool) → All (Stands home serials forwarder_events) fs
    → comes ≡ (if b then Now Refused else Later f.serial) → new ≡ after_close (if b then Now Refused else Later f.serial) fs
    → WaitsFor home serials rules false ask f.serial
    → Leaves home serials forwarder_events rules false ask comes new (more_than serials fs new)
unfolding as-many
closes-one home serials forwarder_events rules ask comes fs new f true k e same w =
    now home serials forwarder_events rules false ask comes Refused fs new k e same
closes-one home serials forwarder_events rules ask comes fs new f false k e same w =
    let all : All (Stands home serials forwarder_events) (map (forwarding_changed change.Close f.serial) fs) =
    all-changed home serials forwarder_events change.Close f.serial fs
    (λ g is one h. steady-stage change.Close g.listen_port g.stage (home g.serial) forwarder_events tt h) k in
    let closed = map (forwarding_changed change.Close f.serial) fs in
    let got : Leaves home serials forwarder_events rules false ask comes closed serials = record {
      grown = as-many home serials forwarder_events closed all;
      waits = λ serial is.
          let its : f.serial ≡ serial = cc in
          subst (λ (n : ℕ). WaitsFor home serials rules false ask n) its w;
    } in
    subst (λ (xs : List Forwarding). Leaves home serials forwarder_events rules false ask comes xs (more_than serials fs xs)) (sym same)
    (subst (λ (m : ℕ). Leaves home serials forwarder_events rules false ask comes closed m)
    (same-many serials fs closed (length-map fs (forwarding_changed change.Close f.serial))) got)

closes-by : (home : ℕ → Forwarding) (serials : ℕ) (forwarder_events : List ForwarderEvent) (rules : ListenRules) (ask : StartAsk) (comes : Comes) (ends : Ends)
    (fs new : List Forwarding) (o : Option Forwarding) → standing ends fs ≡ o → All (Stands home serials forwarder_events) fs
    → AreEnds rules ask ends → comes ≡ closes_of o → new ≡ after_close (closes_of o) fs
    → Leaves home serials forwarder_events rules false ask comes new (more_than serials fs new)
closes-by home serials forwarder_events rules ask comes ends fs new None is k are e same =
    now home serials forwarder_events rules false ask comes Refused fs new k e same
closes-by home serials forwarder_events rules ask comes ends fs new (Some f) is k are e same =
    let at = found (Stands home serials forwarder_events) (λ g. is_asked_or_live g && listens_at ends g) fs f is k in
    let listens = (and_parts (is_asked_or_live f) (listens_at ends f) at.1).1 in
    closes-one home serials forwarder_events rules ask comes fs new f f.closing k e same
    (same-one home serials forwarder_events rules false ask ends f are at.0 listens (λ o. cc))

comes-by : (opening : Bool) (home : ℕ → Forwarding) (serials : ℕ) (forwarder_events : List ForwarderEvent) (rules : ListenRules) (ask : StartAsk) (comes : Comes)
    (ends : Ends) (fs new : List Forwarding) → All (Stands home serials forwarder_events) fs → AreEnds rules ask ends
    → comes ≡ comes_of_ends opening serials ends fs → EndsLeave opening serials ends fs new
    → Leaves home serials forwarder_events rules opening ask comes new (more_than serials fs new)
comes-by true home serials forwarder_events rules ask comes ends fs new k are e l =
    opens-by home serials forwarder_events rules ask comes ends fs new (standing ends fs) refl k are e l
comes-by false home serials forwarder_events rules ask comes ends fs new k are e l =
    closes-by home serials forwarder_events rules ask comes ends fs new (standing ends fs) refl k are e l

comes-if : (alone opening : Bool) (home : ℕ → Forwarding) (serials : ℕ) (forwarder_events : List ForwarderEvent) (rules : ListenRules) (ask : StartAsk) (comes : Comes)
    (fs new : List Forwarding) → All (Stands home serials forwarder_events) fs
    → ComesIf alone rules opening ask serials fs new comes
    → Leaves home serials forwarder_events rules opening ask comes new (more_than serials fs new)
comes-if true opening home serials forwarder_events rules ask comes fs new k c =
    now home serials forwarder_events rules opening ask comes Refused fs new k c.0 c.1
comes-if false opening home serials forwarder_events rules ask comes fs new k c =
    comes-by opening home serials forwarder_events rules ask comes c.0 fs new k c.1 c.2 c.3

comes-unless : (away opening : Bool) (home : ℕ → Forwarding) (serials : ℕ) (forwarder_events : List ForwarderEvent) (rules : ListenRules) (ask : StartAsk) (comes : Comes)
    (fs new : List Forwarding) → All (Stands home serials forwarder_events) fs
    → ComesUnless away rules opening ask serials fs new comes
    → Leaves home serials forwarder_events rules opening ask comes new (more_than serials fs new)
comes-unless true opening home serials forwarder_events rules ask comes fs new k c =
    now home serials forwarder_events rules opening ask comes Refused fs new k c.0 c.1
comes-unless false opening home serials forwarder_events rules ask comes fs new k c =
    comes-if (is_ruled_out rules ask) opening home serials forwarder_events rules ask comes fs new k c

-- it waits, where it is to
waits-more : (home : ℕ → Forwarding) (serials : ℕ) (forwarder_events : List ForwarderEvent) (client id : ℕ) (opening : Bool) (ask : StartAsk)
    (answer : HouseReply) (comes : Comes) (ws : List Waiting) → answer ≡ reply_to comes
    → ((serial : ℕ) → comes ≡ Later serial → WaitsFor home serials (rules_in forwarder_events) opening ask serial)
    → All (Waits home serials (Asks client id opening ask answer ∷ forwarder_events)) ws
    → All (Waits home serials (Asks client id opening ask answer ∷ forwarder_events)) (waiting_after comes client id opening ws)
waits-more home serials forwarder_events client id opening ask answer (Now o) ws e waits h = h
waits-more home serials forwarder_events client id opening ask answer (Later serial) ws e waits h =
    let w = waits serial refl in
    All-push (Waits home serials (Asks client id opening ask answer ∷ forwarder_events)) ws (request_waiting_for client id opening serial) h (record {
      below = w.below;
      serial = w.serial_is;
      ask = ask;
      later = [];
      earlier = forwarder_events;
      were = ap (λ r. Asks client id opening ask r ∷ forwarder_events) e;
      is_for = w.is_for;
      open_yet = refl;
      came = tt;
    })

apart-came : (comes : Comes) (client id : ℕ) (opening : Bool) (ws : List Waiting) → has_open client id ws ≡ false → Apart ws
    → Apart (waiting_after comes client id opening ws)
apart-came (Now o) client id opening ws e h = h
apart-came (Later serial) client id opening ws e h = apart-more ws (request_waiting_for client id opening serial) h e

-- a request waits where its client has none with its id
apart-asked : (client id : ℕ) (opening : Bool) (ask : StartAsk) (comes : Comes) (rules : ListenRules) (serials : ℕ)
    (fs new : List Forwarding) (ws : List Waiting) (away : Bool) → turns_away client id ws ≡ away
    → ComesUnless away rules opening ask serials fs new comes → Apart ws → Apart (waiting_after comes client id opening ws)
apart-asked client id opening ask comes rules serials fs new ws true e c h =
    subst (λ (x : Comes). Apart (waiting_after x client id opening ws)) (sym c.0) h
apart-asked client id opening ask comes rules serials fs new ws false e c h =
    apart-came comes client id opening ws (or_parts (has_open client id ws) (is_full_for client ws) e).0 h

after-ask : (client id : ℕ) (opening : Bool) (ask : StartAsk) (answer : HouseReply) (forwarder_events : List ForwarderEvent) (old new : ForwardingState) → Knows forwarder_events old
    → IsClientAsk client id opening ask answer old new → Knows (Asks client id opening ask answer ∷ forwarder_events) new
after-ask client id opening ask answer forwarder_events old new k a =
    let forwarder_event : ForwarderEvent = Asks client id opening ask answer in
    let more = more_than old.serials old.all new.all in
    let left = comes-unless _ opening k.home old.serials (forwarder_event ∷ forwarder_events) old.rules ask a.came_to old.all new.all
    (all-later k.home old.serials forwarder_event forwarder_events old.all (λ l. refl) k.all) a.comes in
    let g = left.grown in
    let serials : more ≡ new.serials = sym (ap (λ (d : ForwardingState). d.serials) a.others) in
    record {
      home = g.to;
      rules = ap (λ (d : ForwardingState). d.rules) a.others ∙ k.rules;
      requests = ap (λ (d : ForwardingState). d.requests) a.others ∙ k.requests;
      all = subst (λ (n : ℕ). All (Stands g.to n (forwarder_event ∷ forwarder_events)) new.all) serials g.all;
      asked = subst (λ (n : ℕ). All (Asked g.to n) (unanswered_requests forwarder_events)) serials
          (all-asked-grown k.home g.to old.serials more (unanswered_requests forwarder_events) g.less g.keeps k.asked);
      waiting = subst (λ (n : ℕ). All (Waits g.to n (forwarder_event ∷ forwarder_events)) new.waiting) serials
          (subst (λ (ws : List Waiting). All (Waits g.to more (forwarder_event ∷ forwarder_events)) ws) (sym (ap (λ (d : ForwardingState). d.waiting) a.others))
          (waits-more g.to more forwarder_events client id opening ask answer a.came_to old.waiting a.replies
          (λ serial later. subst (λ (b : ListenRules). WaitsFor g.to more b opening ask serial) k.rules (left.waits serial later))
          (all-wait-grown k.home g.to old.serials more (forwarder_event ∷ forwarder_events) old.waiting g.less g.keeps
          (all-wait-later k.home old.serials forwarder_event forwarder_events (λ c i. refl) old.waiting k.waiting))));
      apart = subst Apart (sym (ap (λ (d : ForwardingState). d.waiting) a.others))
          (apart-asked client id opening ask a.came_to old.rules old.serials old.all new.all old.waiting
          (turns_away client id old.waiting) refl a.comes k.apart);
    }

-- ---- an answer, and the greeting

-- it answers no other ask
all-answered : (home : ℕ → Forwarding) (serials client id : ℕ) (answer : HouseReply) (forwarder_events : List ForwarderEvent) (ws : List Waiting) (o : Option ℕ)
    → position (is_waiting client id) ws ≡ o → Apart ws → All (Waits home serials forwarder_events) ws
    → All (Waits home serials (Answers client id answer ∷ forwarder_events)) (without_request_at o ws)
all-answered home serials client id answer forwarder_events ws o e apart h =
    let rest = all-taken (Waits home serials forwarder_events) o ws h in
    let not = others ws client id o e apart in
    λ k d lt. waits-later home serials (Answers client id answer) forwarder_events (get_or (without_request_at o ws) k d) (not k d lt) (rest k d lt)

after-answering : (client id : ℕ) (answer : HouseReply) (forwarder_events : List ForwarderEvent) (old new : ForwardingState) → Knows forwarder_events old
    → IsAnswered client id answer old new → Knows (Answers client id answer ∷ forwarder_events) new
after-answering client id answer forwarder_events old new k a =
    let forwarder_event : ForwarderEvent = Answers client id answer in
    let left : ForwardingState = record old { waiting = after_answer (Some (client, id, answer)) old.waiting } in
    let got : Knows (forwarder_event ∷ forwarder_events) left = record {
      home = k.home;
      rules = k.rules;
      requests = k.requests;
      all = all-later k.home old.serials forwarder_event forwarder_events old.all (λ l. refl) k.all;
      asked = k.asked;
      waiting = all-answered k.home old.serials client id answer forwarder_events old.waiting (position (is_waiting client id) old.waiting) refl
          k.apart k.waiting;
      apart = apart-taken (position (is_waiting client id) old.waiting) old.waiting k.apart;
    } in
    subst (Knows (forwarder_event ∷ forwarder_events)) (sym a.others) got

after-greeting : (forwarder_events : List ForwarderEvent) (old new : ForwardingState) → Knows forwarder_events old → new ≡ greeting_sent old → Knows (Greets ∷ forwarder_events) new
after-greeting forwarder_events old new k e =
    let got : Knows (Greets ∷ forwarder_events) (greeting_sent old) = record {
      home = k.home;
      rules = k.rules;
      requests = k.requests;
      all = all-later k.home old.serials Greets forwarder_events old.all (λ l. refl) k.all;
      asked = k.asked;
      waiting = all-wait-later k.home old.serials Greets forwarder_events (λ c i. refl) old.waiting k.waiting;
      apart = k.apart;
    } in
    subst (Knows (Greets ∷ forwarder_events)) (sym e) got

-- ---- a request

-- one that has a request to send is to be listened for by the server
asks-there : (s : Stage) (a : Forwarding) (forwarder_events : List ForwarderEvent) (closing : Bool) → requests_at s closing ≡ true → StageFits s a forwarder_events
    → listens_here a.kind ≡ false
asks-there (ToListen host) a forwarder_events closing e h = cc
asks-there Ordered a forwarder_events closing e h = cc
asks-there (Listening l) a forwarder_events closing e h = cc
asks-there ToRequest a forwarder_events closing e h = h
asks-there Requested a forwarder_events closing e h = cc
asks-there (Live port) a forwarder_events closing e h = h.0
asks-there (Cancelling port) a forwarder_events closing e h = cc

said-all : (r : ForwardingRequest) (home : ℕ → Forwarding) (serials : ℕ) (forwarder_events : List ForwarderEvent) (fs : List Forwarding)
    → All (Stands home serials forwarder_events) fs → All (Stands home serials forwarder_events) (after_request_sent r fs)
said-all (Listen serial) home serials forwarder_events fs h = all-changed home serials forwarder_events change.ForwardingRequest serial fs
    (λ g is one k. steady-stage change.ForwardingRequest g.listen_port g.stage (home g.serial) forwarder_events tt k) h
said-all (Cancel serial) home serials forwarder_events fs h = all-changed home serials forwarder_events change.Cancel serial fs
    (λ g is one k. steady-stage change.Cancel g.listen_port g.stage (home g.serial) forwarder_events tt k) h

after-request : (f : Forwarding) (forwarder_events : List ForwarderEvent) (old new : ForwardingState) → Knows forwarder_events old → find has_request old.all ≡ Some f
    → new ≡ request_sent f old → Knows (Requests f ∷ forwarder_events) new
after-request f forwarder_events old new k is e =
    let forwarder_event : ForwarderEvent = Requests f in
    let at = found (Stands k.home old.serials forwarder_events) has_request old.all f is k.all in
    let got : Knows (forwarder_event ∷ forwarder_events) (request_sent f old) = record {
      home = k.home;
      rules = k.rules;
      requests = ap (λ rs. rs ++ forwarding_request_of f ∷ []) k.requests ∙ sym (map-append forwarding_request_of (unanswered_requests forwarder_events) (f ∷ []));
      all = said-all (forwarding_request_of f) k.home old.serials (forwarder_event ∷ forwarder_events) old.all
          (all-later k.home old.serials forwarder_event forwarder_events old.all (λ l. refl) k.all);
      asked = All-push (Asked k.home old.serials) (unanswered_requests forwarder_events) f k.asked (record {
        below = at.0.below;
        same = at.0.same;
        there = asks-there f.stage (k.home f.serial) forwarder_events f.closing at.1 at.0.stage;
      });
      waiting = all-wait-later k.home old.serials forwarder_event forwarder_events (λ c i. refl) old.waiting k.waiting;
      apart = k.apart;
    } in
    subst (Knows (forwarder_event ∷ forwarder_events)) (sym e) got

-- ---- a reply

live-fits : (asked : ℕ) (chosen : Option ℕ) (s : Stage) (a : Forwarding) (forwarder_events : List ForwarderEvent) → IsGranted a (bound_port asked chosen) forwarder_events
    → StageFits s a forwarder_events → StageFits (listener_stage_after (change.Live chosen) asked s) a forwarder_events
live-fits asked chosen (ToListen host) a forwarder_events outcome_of_grant h = h
live-fits asked chosen Ordered a forwarder_events outcome_of_grant h = h
live-fits asked chosen (Listening l) a forwarder_events outcome_of_grant h = h
live-fits asked chosen ToRequest a forwarder_events outcome_of_grant h = h
live-fits asked chosen Requested a forwarder_events outcome_of_grant h = (h, outcome_of_grant)
live-fits asked chosen (Live p) a forwarder_events outcome_of_grant h = h
live-fits asked chosen (Cancelling p) a forwarder_events outcome_of_grant h = h

-- what a reply leaves, where the first request is this
record Replied (home : ℕ → Forwarding) (serials : ℕ) (forwarder_events : List ForwarderEvent) (fs : List Forwarding) (ws : List Waiting) : Type 0 where
  all : All (Stands home serials forwarder_events) fs
  waiting : All (Waits home serials forwarder_events) ws

next-is : (home : ℕ → Forwarding) (serials : ℕ) (forwarder_events : List ForwarderEvent) (what : ℕ → ForwardingRequest) (g : Forwarding) (gs : List Forwarding)
    → unanswered_requests forwarder_events ≡ g ∷ gs → Asked home serials g → forwarding_request_of g ≡ what g.serial → IsNextRequest what (home g.serial) forwarder_events
next-is home serials forwarder_events what g gs e a is =
    record { first = g; others = gs; were = e; is = a.same; asks = is; there = a.there }

refused-either : (a : Forwarding) (forwarder_events : List ForwarderEvent) (port : Option ℕ) → IsNextRequest Listen a forwarder_events → (opening : Bool)
    → CameBy (Replies false port) forwarder_events opening a Refused
refused-either a forwarder_events port next true = (next, refl)
refused-either a forwarder_events port next false = (inl next, refl)

opened : (home : ℕ → Forwarding) (serials : ℕ) (forwarder_events : List ForwarderEvent) (port : Option ℕ) (serial at : ℕ) (fs : List Forwarding)
    (ws : List Waiting) (o : Option Forwarding) → find (is_listen_unanswered serial) fs ≡ o → IsNextRequest Listen (home serial) forwarder_events
    → All (Stands home serials forwarder_events) fs → All (Waits home serials forwarder_events) ws
    → All (Waits home serials (Replies true port ∷ forwarder_events)) (opened_asks (live_outcome_in port o) serial at ws)
opened home serials forwarder_events port serial at fs ws None e next all h = all-wait-later home serials (Replies true port) forwarder_events (λ c i. refl) ws h
opened home serials forwarder_events port serial at fs ws (Some f) e next all h =
    let one = found (Stands home serials forwarder_events) (is_listen_unanswered serial) fs f e all in
    let is = eqb-true f.serial serial (and_parts (f.serial == serial) (asks_at f.stage) one.1).0 in
    let same : (home serial).listen_port ≡ f.listen_port = ap (λ n. (home n).listen_port) (sym is) ∙ one.0.same.listen_port in
    all-settled home serials (Replies true port) forwarder_events (λ c i. refl) serial true at (outcome_of_grant f.listen_port (bound_port f.listen_port port)) ws
    (next, ap (λ n. outcome_of_grant n (bound_port n port)) (sym same)) h

replied : (success : Bool) (r : ForwardingRequest) (home : ℕ → Forwarding) (serials : ℕ) (forwarder_events : List ForwarderEvent) (port : Option ℕ) (at : ℕ)
    (fs : List Forwarding) (ws : List Waiting) (g : Forwarding) (gs : List Forwarding) → unanswered_requests forwarder_events ≡ g ∷ gs
    → Asked home serials g → forwarding_request_of g ≡ r → (r ≡ Listen g.serial) ⊎ (r ≡ Cancel g.serial)
    → All (Stands home serials forwarder_events) fs → All (Waits home serials forwarder_events) ws
    → Replied home serials (Replies success port ∷ forwarder_events) (replied_all success port (Some r) fs)
    (replied_asks success port (Some r) fs at ws)
replied true (Listen serial) home serials forwarder_events port at fs ws g gs e a is (inl which) all h =
    let same : serial ≡ g.serial = cc in
    let forwarder_event : ForwarderEvent = Replies true port in
    let next : IsNextRequest Listen (home serial) forwarder_events = subst (λ (n : ℕ). IsNextRequest Listen (home n) forwarder_events) (sym same)
    (next-is home serials forwarder_events Listen g gs e a (is ∙ which)) in
    record {
      all = all-changed home serials (forwarder_event ∷ forwarder_events) (change.Live port) serial fs
          (λ f its one k. live-fits f.listen_port port f.stage (home f.serial) (forwarder_event ∷ forwarder_events) (record {
            chosen = port;
            later = [];
            earlier = forwarder_events;
            were = refl;
            next = subst (λ (n : ℕ). IsNextRequest Listen (home n) forwarder_events) (sym its) next;
            bound = ap (λ n. bound_port n port) (sym one.listen_port);
          }) k)
          (all-later home serials forwarder_event forwarder_events fs (λ l. refl) all);
      waiting = opened home serials forwarder_events port serial at fs ws (find (is_listen_unanswered serial) fs) refl next all h;
    }
replied true (Listen serial) home serials forwarder_events port at fs ws g gs e a is (inr which) all h = cc
replied true (Cancel serial) home serials forwarder_events port at fs ws g gs e a is (inl which) all h = cc
replied true (Cancel serial) home serials forwarder_events port at fs ws g gs e a is (inr which) all h =
    let same : serial ≡ g.serial = cc in
    let forwarder_event : ForwarderEvent = Replies true port in
    let next : IsNextRequest Cancel (home serial) forwarder_events = subst (λ (n : ℕ). IsNextRequest Cancel (home n) forwarder_events) (sym same)
    (next-is home serials forwarder_events Cancel g gs e a (is ∙ which)) in
    record {
      all = all-removed (Stands home serials (forwarder_event ∷ forwarder_events)) (position (is_cancelled serial) fs) fs
          (all-later home serials forwarder_event forwarder_events fs (λ l. refl) all);
      waiting = all-settled home serials forwarder_event forwarder_events (λ c i. refl) serial false at Done ws (next, refl) h;
    }
replied false (Listen serial) home serials forwarder_events port at fs ws g gs e a is (inl which) all h =
    let same : serial ≡ g.serial = cc in
    let forwarder_event : ForwarderEvent = Replies false port in
    let next : IsNextRequest Listen (home serial) forwarder_events = subst (λ (n : ℕ). IsNextRequest Listen (home n) forwarder_events) (sym same)
    (next-is home serials forwarder_events Listen g gs e a (is ∙ which)) in
    record {
      all = all-removed (Stands home serials (forwarder_event ∷ forwarder_events)) (position (is_listen_unanswered serial) fs) fs
          (all-later home serials forwarder_event forwarder_events fs (λ l. refl) all);
      waiting = all-refused home serials forwarder_event forwarder_events (λ c i. refl) serial at ws (refused-either (home serial) forwarder_events port next) h;
    }
replied false (Listen serial) home serials forwarder_events port at fs ws g gs e a is (inr which) all h = cc
replied false (Cancel serial) home serials forwarder_events port at fs ws g gs e a is (inl which) all h = cc
replied false (Cancel serial) home serials forwarder_events port at fs ws g gs e a is (inr which) all h =
    let same : serial ≡ g.serial = cc in
    let forwarder_event : ForwarderEvent = Replies false port in
    let next : IsNextRequest Cancel (home serial) forwarder_events = subst (λ (n : ℕ). IsNextRequest Cancel (home n) forwarder_events) (sym same)
    (next-is home serials forwarder_events Cancel g gs e a (is ∙ which)) in
    record {
      all = all-changed home serials (forwarder_event ∷ forwarder_events) change.Stay serial fs
          (λ f its one k. steady-stage change.Stay f.listen_port f.stage (home f.serial) (forwarder_event ∷ forwarder_events) tt k)
          (all-later home serials forwarder_event forwarder_events fs (λ l. refl) all);
      waiting = all-settled home serials forwarder_event forwarder_events (λ c i. refl) serial false at Refused ws (inr next, refl) h;
    }

pub request-is : (s : Stage) (serial : ℕ) → (forwarding_request_at s serial ≡ Listen serial) ⊎ (forwarding_request_at s serial ≡ Cancel serial)
request-is (ToListen host) serial = inl refl
request-is Ordered serial = inl refl
request-is (Listening l) serial = inl refl
request-is ToRequest serial = inl refl
request-is Requested serial = inl refl
request-is (Live port) serial = inr refl
request-is (Cancelling port) serial = inl refl

-- what a reply leaves, with the requests that wait then
replied-by : (success : Bool) (port : Option ℕ) (forwarder_events : List ForwarderEvent) (old : ForwardingState) (gs : List Forwarding) (k : Knows forwarder_events old)
    → unanswered_requests forwarder_events ≡ gs → Replied k.home old.serials (Replies success port ∷ forwarder_events)
    (replied_all success port (first_forwarding_request (map forwarding_request_of gs)) old.all)
    (replied_asks success port (first_forwarding_request (map forwarding_request_of gs)) old.all old.done old.waiting)
replied-by success port forwarder_events old [] k e = record {
  all = all-later k.home old.serials (Replies success port) forwarder_events old.all (λ l. refl) k.all;
  waiting = all-wait-later k.home old.serials (Replies success port) forwarder_events (λ c i. refl) old.waiting k.waiting;
}
replied-by success port forwarder_events old (g ∷ gs) k e =
    let a = All-head (Asked k.home old.serials) g gs (subst (All (Asked k.home old.serials)) e k.asked) in
    replied success (forwarding_request_of g) k.home old.serials forwarder_events port old.done old.all old.waiting g gs e a refl
    (request-is g.stage g.serial) k.all k.waiting

drop-map : (gs : List Forwarding) → drop 1 (map forwarding_request_of gs) ≡ map forwarding_request_of (drop 1 gs)
drop-map [] = refl
drop-map (g ∷ gs) = refl

after-reply : (success : Bool) (port : Option ℕ) (forwarder_events : List ForwarderEvent) (old new : ForwardingState) → Knows forwarder_events old
    → new ≡ reply_received success port old → Knows (Replies success port ∷ forwarder_events) new
after-reply success port forwarder_events old new k e =
    let forwarder_event : ForwarderEvent = Replies success port in
    let left = replied-by success port forwarder_events old (unanswered_requests forwarder_events) k refl in
    let got : Knows (forwarder_event ∷ forwarder_events) (reply_received success port old) = record {
      home = k.home;
      rules = k.rules;
      requests = ap (λ (rs : List ForwardingRequest). drop 1 rs) k.requests ∙ drop-map (unanswered_requests forwarder_events);
      all = subst (λ (rs : List ForwardingRequest). All (Stands k.home old.serials (forwarder_event ∷ forwarder_events))
          (replied_all success port (first_forwarding_request rs) old.all)) (sym k.requests) left.all;
      asked = All-drop (Asked k.home old.serials) 1 (unanswered_requests forwarder_events) k.asked;
      waiting = subst (λ (rs : List ForwardingRequest). All (Waits k.home old.serials (forwarder_event ∷ forwarder_events))
          (replied_asks success port (first_forwarding_request rs) old.all old.done old.waiting)) (sym k.requests) left.waiting;
      apart = apart-replied success port (first_forwarding_request old.requests) old.all old.done old.waiting k.apart;
    } in
    subst (Knows (forwarder_event ∷ forwarder_events)) (sym e) got

-- ---- a listener is ordered

pub listens-there : (s : Stage) (a : Forwarding) (forwarder_events : List ForwarderEvent) → waits_at s ≡ true → StageFits s a forwarder_events
    → listens_here a.kind ≡ true
listens-there (ToListen host) a forwarder_events e h = h
listens-there Ordered a forwarder_events e h = h
listens-there (Listening l) a forwarder_events e h = cc
listens-there ToRequest a forwarder_events e h = cc
listens-there Requested a forwarder_events e h = cc
listens-there (Live port) a forwarder_events e h = cc
listens-there (Cancelling port) a forwarder_events e h = cc

pub first-place : (b : Bool) (n i : ℕ) → (if b then Some n else None) ≡ Some i → i ≡ n
first-place true n i e = cc
first-place false n i e = cc

-- the first that is to listen is still the first as it is ordered
pub first-ordered : (fs : List Forwarding) (i : ℕ) (f : Forwarding) → position to_listen fs ≡ Some i
    → find to_listen (set fs i (record f { stage = Ordered })) ≡ Some (record f { stage = Ordered })
first-ordered fs i f e =
    let first = position-Some to_listen fs i f e in
    find-set to_listen fs i (record f { stage = Ordered }) (first-place _ (position_or_len to_listen fs) i e) first.0 refl

-- where it gets its number, or none
record Ordering (home : ℕ → Forwarding) (serials : ℕ) (host : List ℕ) (port : ℕ) (forwarder_events : List ForwarderEvent) (fs : List Forwarding)
    (f : Forwarding) : Type 0 where
  all : All (Stands home serials forwarder_events) fs
  first : find to_listen fs ≡ Some f
  named : AreOne (home f.serial) f
  here : listens_here (home f.serial).kind ≡ true
  host_is : host ≡ (home f.serial).listen_host
  port_is : port ≡ (home f.serial).listen_port

pub same-one-found : (f g : Forwarding) → Some f ≡ Some g → f ≡ g
same-one-found f g e = cc

made-all : (home : ℕ → Forwarding) (serials : ℕ) (host : List ℕ) (port : ℕ) (forwarder_events : List ForwarderEvent) (number : Option ℕ) (fs new : List Forwarding)
    (f : Forwarding) (i : ℕ) → Ordering home serials host port forwarder_events fs f → position to_listen fs ≡ Some i → MadeAt number i fs new
    → All (Stands home serials (Listens host port number ∷ forwarder_events)) new
made-all home serials host port forwarder_events None fs new f i o e m =
    subst (All (Stands home serials (Listens host port None ∷ forwarder_events))) (sym m)
    (all-remove (Stands home serials (Listens host port None ∷ forwarder_events)) fs i
    (all-later home serials (Listens host port None) forwarder_events fs (λ l. refl) o.all))
made-all home serials host port forwarder_events (Some l) fs new f i o e m =
    let forwarder_event : ForwarderEvent = Listens host port (Some l) in
    let all = all-later home serials forwarder_event forwarder_events fs (λ k. refl) o.all in
    let at = placed (Stands home serials (forwarder_event ∷ forwarder_events)) to_listen fs i m.0 e m.1 all in
    let same : f ≡ m.0 = same-one-found f m.0 (sym o.first ∙ at.2) in
    let a = home m.0.serial in
    let host_is : host ≡ a.listen_host = subst (λ (g : Forwarding). host ≡ (home g.serial).listen_host) same o.host_is in
    let port_is : port ≡ a.listen_port = subst (λ (g : Forwarding). port ≡ (home g.serial).listen_port) same o.port_is in
    let here : listens_here a.kind ≡ true = subst (λ (g : Forwarding). listens_here (home g.serial).kind ≡ true) same o.here in
    subst (All (Stands home serials (forwarder_event ∷ forwarder_events))) (sym m.2)
    (All-set (Stands home serials (forwarder_event ∷ forwarder_events)) fs i (record m.0 { stage = Listening l })
    (restaged home serials (forwarder_event ∷ forwarder_events) m.0 (Listening l) m.0.closing (
      here,
      record {
        later = [];
        earlier = forwarder_events;
        were = ap (λ h. Listens h port (Some l) ∷ forwarder_events) host_is ∙ ap (λ p. Listens a.listen_host p (Some l) ∷ forwarder_events) port_is;
        open_yet = refl;
      },
    ) at.0) all)

made-waiting : (home : ℕ → Forwarding) (serials : ℕ) (host : List ℕ) (port : ℕ) (forwarder_events : List ForwarderEvent) (number : Option ℕ) (fs : List Forwarding)
    (f : Forwarding) (at : ℕ) (ws : List Waiting) → Ordering home serials host port forwarder_events fs f → All (Waits home serials forwarder_events) ws
    → All (Waits home serials (Listens host port number ∷ forwarder_events)) (ordered_asks number f.serial at ws)
made-waiting home serials host port forwarder_events None fs f at ws o h =
    all-refused home serials (Listens host port None) forwarder_events (λ c i. refl) f.serial at ws (λ opening. (o.host_is, o.port_is, o.here, refl)) h
made-waiting home serials host port forwarder_events (Some l) fs f at ws o h =
    all-settled home serials (Listens host port (Some l)) forwarder_events (λ c i. refl) f.serial true at Done ws (o.host_is, o.port_is, o.here, refl) h

after-listen : (host : List ℕ) (port : ℕ) (number : Option ℕ) (forwarder_events : List ForwarderEvent) (old new : ForwardingState) → Knows forwarder_events old
    → GetsListener host port number old new → Knows (Listens host port number ∷ forwarder_events) new
after-listen host port number forwarder_events old new k h =
    let forwarder_event : ForwarderEvent = Listens host port number in
    let b = h.between in
    let f = h.orders.ordered.0 in
    let g : Forwarding = record f { stage = Ordered } in
    let i = h.orders.place in
    let at = placed (Stands k.home old.serials forwarder_events) to_listen old.all i f h.orders.first h.orders.ordered.1 k.all in
    let ends = there-is (λ (x : Forwarding). (host ≡ x.listen_host) × (port ≡ x.listen_port)) (find to_listen old.all) f at.2 h.orders.there in
    let here = listens-there f.stage (k.home f.serial) forwarder_events at.1 at.0.stage in
    let one = restaged k.home old.serials forwarder_events f Ordered f.closing here at.0 in
    let all : All (Stands k.home old.serials forwarder_events) b.all = subst (All (Stands k.home old.serials forwarder_events)) (sym h.orders.ordered.2)
    (All-set (Stands k.home old.serials forwarder_events) old.all i g one k.all) in
    let first : find to_listen b.all ≡ Some g =
    ap (λ (fs : List Forwarding). find to_listen fs) h.orders.ordered.2 ∙ first-ordered old.all i f h.orders.first in
    let o : Ordering k.home old.serials host port forwarder_events b.all g = record {
      all = all;
      first = first;
      named = one.same;
      here = here;
      host_is = ends.0 ∙ sym at.0.same.listens;
      port_is = ends.1 ∙ sym at.0.same.listen_port;
    } in
    let t : ForwardingState = record old { all = new.all; refused = new.refused; waiting = new.waiting; done = new.done } in
    let m = h.makes.others in
    let s = h.orders.others in
    let e : new ≡ t = same-forwarding_states new t (ap (λ (d : ForwardingState). d.rules) m ∙ ap (λ (d : ForwardingState). d.rules) s)
    (ap (λ (d : ForwardingState). d.greeted) m ∙ ap (λ (d : ForwardingState). d.greeted) s) refl
    (ap (λ (d : ForwardingState). d.serials) m ∙ ap (λ (d : ForwardingState). d.serials) s) refl
    (ap (λ (d : ForwardingState). d.requests) m ∙ ap (λ (d : ForwardingState). d.requests) s) refl refl in
    let waiting : new.waiting ≡ ordered_asks number f.serial b.done old.waiting = ap (λ (d : ForwardingState). d.waiting) m
    ∙ ap (λ (x : Option Forwarding). ordered_asks number (serial_of x) b.done b.waiting) first
    ∙ ap (λ (ws : List Waiting). ordered_asks number f.serial b.done ws) (ap (λ (d : ForwardingState). d.waiting) s) in
    let got : Knows (forwarder_event ∷ forwarder_events) t = record {
      home = k.home;
      rules = k.rules;
      requests = k.requests;
      all = made-all k.home old.serials host port forwarder_events number b.all new.all g h.makes.place o h.makes.first h.makes.made;
      asked = k.asked;
      waiting = subst (All (Waits k.home old.serials (forwarder_event ∷ forwarder_events))) (sym waiting)
          (made-waiting k.home old.serials host port forwarder_events number b.all g b.done old.waiting o k.waiting);
      apart = subst Apart (sym waiting) (apart-ordered number f.serial b.done old.waiting k.apart);
    } in
    subst (Knows (forwarder_event ∷ forwarder_events)) (sym e) got

-- ---- a listener is closed

-- the one that is closed next is that of a forwarding that closes
pub record Closing (P : Forwarding → Type 0) (serial l : ℕ) : Type 0 where
  pub f : Forwarding
  pub holds : P f
  pub serial_is : f.serial ≡ serial
  pub stage_is : f.stage ≡ Listening l
  pub closing_is : f.closing ≡ true

ends-if : (owes : Bool) (serial k : ℕ) (l n : ℕ) → (if owes then None else Some (want.Unlisten n k)) ≡ Some (want.Unlisten serial l)
    → (k ≡ l) × (n ≡ serial)
ends-if true serial k l n e = cc
ends-if false serial k l n e = (cc, cc)

ends-at : (P : Forwarding → Type 0) (ws : List Waiting) (f : Forwarding) (serial k l : ℕ) (closing : Bool) (next : Option ForwardingWant)
    → f.stage ≡ Listening k → f.closing ≡ closing → P f → forwarding_ends_at k closing f.serial ws next ≡ Some (want.Unlisten serial l)
    → (next ≡ Some (want.Unlisten serial l) → Closing P serial l) → Closing P serial l
ends-at P ws f serial k l true next s c h e rest =
    let both = ends-if (owes_opening f.serial ws) serial k l f.serial e in
    record { f = f; holds = h; serial_is = both.1; stage_is = s ∙ ap (λ n. Listening n) both.0; closing_is = c }
ends-at P ws f serial k l false next s c h e rest = rest e

next-at : (P : Forwarding → Type 0) (ws : List Waiting) (f : Forwarding) (serial l : ℕ) (s : Stage) (next : Option ForwardingWant)
    → f.stage ≡ s → P f → next_at s f.closing f.serial ws next ≡ Some (want.Unlisten serial l)
    → (next ≡ Some (want.Unlisten serial l) → Closing P serial l) → Closing P serial l
next-at P ws f serial l (ToListen host) next is h e rest = cc
next-at P ws f serial l Ordered next is h e rest = cc
next-at P ws f serial l (Listening k) next is h e rest = ends-at P ws f serial k l f.closing next is refl h e rest
next-at P ws f serial l ToRequest next is h e rest = rest e
next-at P ws f serial l Requested next is h e rest = rest e
next-at P ws f serial l (Live port) next is h e rest = rest e
next-at P ws f serial l (Cancelling port) next is h e rest = rest e

pub next-closing : (P : Forwarding → Type 0) (ws : List Waiting) (fs : List Forwarding) (serial l : ℕ) → All P fs
    → next_listener_order ws fs ≡ Some (want.Unlisten serial l) → Closing P serial l
next-closing P ws [] serial l h e = cc
next-closing P ws (f ∷ fs) serial l h e =
    next-at P ws f serial l f.stage (next_listener_order ws fs) refl (All-head P f fs h) e
    (λ rest. next-closing P ws fs serial l (All-tail P f fs h) rest)

-- a listener that stays isn't the one that is closed
stays : (l : ℕ) (f : Forwarding) → not (has_listener l f) ≡ true → Lets f.stage (Unlistens l)
stays l f e k is = not-true (k == l) (subst (λ (s : Stage). not (is_listener l (listener_at s)) ≡ true) is e)

pub closing-of : (l : ℕ) (forwarder_events : List ForwarderEvent) (old : ForwardingState) (k : Knows forwarder_events old) (serial : ℕ)
    → next_listener_order old.waiting old.all ≡ Some (want.Unlisten serial l) → Closing (Stands k.home old.serials forwarder_events) serial l
closing-of l forwarder_events old k serial e = next-closing (Stands k.home old.serials forwarder_events) old.waiting old.all serial l k.all e

after-unlisten : (l : ℕ) (forwarder_events : List ForwarderEvent) (old new : ForwardingState) → Knows forwarder_events old → EndsListener l old new
    → Knows (Unlistens l ∷ forwarder_events) new
after-unlisten l forwarder_events old new k h =
    let forwarder_event : ForwarderEvent = Unlistens l in
    let c = closing-of l forwarder_events old k h.serial h.next in
    let fits : StageFits (Listening l) (k.home c.f.serial) forwarder_events =
    subst (λ (s : Stage). StageFits s (k.home c.f.serial) forwarder_events) c.stage_is c.holds.stage in
    let its : StageFits (Listening l) (k.home h.serial) forwarder_events =
    subst (λ (n : ℕ). StageFits (Listening l) (k.home n) forwarder_events) c.serial_is fits in
    let kept = filter (λ f. not (has_listener l f)) old.all in
    let stand = All-filter (λ f. not (has_listener l f)) (Stands k.home old.serials forwarder_events) old.all k.all in
    let pass = filter_passes (λ f. not (has_listener l f)) old.all in
    let t : ForwardingState = record old {
      all = kept;
      waiting = requests_settled h.serial false old.done Done old.waiting;
      done = one_more_outcome old.done;
    } in
    let got : Knows (forwarder_event ∷ forwarder_events) t = record {
      home = k.home;
      rules = k.rules;
      requests = k.requests;
      all = λ i d lt. stands-later k.home old.serials forwarder_event forwarder_events (get_or kept i d) (stays l (get_or kept i d) (pass i d lt)) (stand i d lt);
      asked = k.asked;
      waiting = all-settled k.home old.serials forwarder_event forwarder_events (λ c i. refl) h.serial false old.done Done old.waiting (its.0, its.1, refl) k.waiting;
      apart = apart-settled h.serial false old.done Done old.waiting k.apart;
    } in
    subst (Knows (forwarder_event ∷ forwarder_events)) (sym h.others) got

-- ---- by all that happened

after : (forwarder_event : ForwarderEvent) (forwarder_events : List ForwarderEvent) (old new : ForwardingState) → Knows forwarder_events old → Does forwarder_event old new → Knows (forwarder_event ∷ forwarder_events) new
after (Begins starts) forwarder_events old new k d = after-start starts forwarder_events old new k d
after (Asks client id opening ask answer) forwarder_events old new k d = after-ask client id opening ask answer forwarder_events old new k d
after (Answers client id answer) forwarder_events old new k d = after-answering client id answer forwarder_events old new k d
after Greets forwarder_events old new k d = after-greeting forwarder_events old new k d.1
after (Requests f) forwarder_events old new k d = after-request f forwarder_events old new k d.1 d.2
after (Replies success port) forwarder_events old new k d = after-reply success port forwarder_events old new k d
after (Listens host port number) forwarder_events old new k d = after-listen host port number forwarder_events old new k d
after (Unlistens l) forwarder_events old new k d = after-unlisten l forwarder_events old new k d

pub knows : (forwarder_events : List ForwarderEvent) (forwarding_state : ForwardingState) → Leave forwarder_events forwarding_state → Knows forwarder_events forwarding_state
knows [] forwarding_state left = subst (Knows []) (sym left) knows-nothing
knows (forwarder_event ∷ forwarder_events) forwarding_state left = after forwarder_event forwarder_events left.0 forwarding_state (knows forwarder_events left.0 left.1) left.2
