-- What is known of forwardings and requests by what happened, and what keeps it.
use Rattle.std.proofs.Common.{◌≡◌, ◌∙◌, refl, sym, ap, subst, arith, ℕ, ◌<◌, ◌≤◌, Bool, true, false, List, [], ◌∷◌, ◌++◌, map, Option, Some, None, inl, inr}
use Rattle.std.specs.Prelude.{◌⊎◌, ◌==◌, if◌then◌else◌}
use Rattle.std.specs.List.{All, list_any}
use Rattle.std.proofs.lemmas.Bool.{and_parts, or_from, eqb-true}
use Rattle.std.proofs.lemmas.List.Elements.{All-weaker, All-map}
use Rattle.mux_outside.specs.declared.house.HouseReply.TheVariants as given
use Rattle.mux_outside.specs.declared.start_ask.StartAsk.{StartAsk}
use Rattle.house_forward.specs.Asks.{requests_settled, settle_one, ask_settled_at, all_requests_refused, is_ask_about, same, one_more_outcome}
use Rattle.house_forward.specs.Causes.{is_answer_to, rules_in, closes_listener, AreOne, IsFor, ListensSince, IsGranted, CameBy}
use Rattle.house_forward.specs.ForwarderEvents.{ForwarderEvent}
use Rattle.house_forward.specs.ForwarderEvents.{Asks}
use Rattle.house_forward.specs.Forwardings.{forwarding_changed, listener_stage_after, closing_after}
use Rattle.house_forward.specs.Rules.{listens_here}
use Rattle.house_forward.specs.declared.asks.RequestOutcome.{RequestOutcome}
use Rattle.house_forward.specs.declared.asks.RequestOutcome.TheVariants.{Refused}
use Rattle.house_forward.specs.declared.asks.Waiting.{Waiting}
use Rattle.house_forward.specs.declared.forwarding.Change.{Change}
use Rattle.house_forward.specs.declared.forwarding.Change.TheVariants as change
use Rattle.house_forward.specs.declared.forwarding.Forwarding.{Forwarding}
use Rattle.house_forward.specs.declared.forwarding.Stage.{Stage}
use Rattle.house_forward.specs.declared.forwarding.Stage.TheVariants.{ToListen, Ordered, Listening, ToRequest, Requested, Live, Cancelling}

-- ---- what is known

-- how far a forwarding may be that was asked for as this
abbrev pub StageFits : Stage → Forwarding → List ForwarderEvent → Type 0
StageFits (ToListen host) a forwarder_events = listens_here a.kind ≡ true
StageFits Ordered a forwarder_events = listens_here a.kind ≡ true
StageFits (Listening l) a forwarder_events = (listens_here a.kind ≡ true) × ListensSince a.listen_host a.listen_port l forwarder_events
StageFits ToRequest a forwarder_events = listens_here a.kind ≡ false
StageFits Requested a forwarder_events = listens_here a.kind ≡ false
StageFits (Live port) a forwarder_events = (listens_here a.kind ≡ false) × IsGranted a port forwarder_events
StageFits (Cancelling port) a forwarder_events = (listens_here a.kind ≡ false) × IsGranted a port forwarder_events

-- a forwarding is the one that had its serial, and is as far as what happened says
pub record Stands (home : ℕ → Forwarding) (serials : ℕ) (forwarder_events : List ForwarderEvent) (f : Forwarding) : Type 0 where
  pub below : f.serial < serials
  pub same : AreOne (home f.serial) f
  pub stage : StageFits f.stage (home f.serial) forwarder_events

-- a forwarding whose request was sent
pub record Asked (home : ℕ → Forwarding) (serials : ℕ) (g : Forwarding) : Type 0 where
  pub below : g.serial < serials
  pub same : AreOne (home g.serial) g
  pub there : listens_here (home g.serial).kind ≡ false

-- a request had this outcome later
pub record Came (a : Forwarding) (opening : Bool) (outcome : RequestOutcome) (later earlier : List ForwarderEvent) : Type 0 where
  pub newer : List ForwarderEvent
  pub forwarder_event : ForwarderEvent
  pub older : List ForwarderEvent
  pub were : later ≡ newer ++ forwarder_event ∷ older
  pub by : CameBy forwarder_event (older ++ earlier) opening a outcome

abbrev pub CameIf : Option (ℕ × RequestOutcome) → Forwarding → Bool → List ForwarderEvent → List ForwarderEvent → Type 0
CameIf None a opening later earlier = Unit {0}
CameIf (Some o) a opening later earlier = Came a opening o.1 later earlier

-- a request that waits is for the forwarding that had its serial
pub record Waits (home : ℕ → Forwarding) (serials : ℕ) (forwarder_events : List ForwarderEvent) (w : Waiting) : Type 0 where
  pub below : w.forwarding < serials
  pub serial : (home w.forwarding).serial ≡ w.forwarding
  pub ask : StartAsk
  pub later : List ForwarderEvent
  pub earlier : List ForwarderEvent
  pub were : forwarder_events ≡ later ++ Asks w.client w.id w.opening ask given.Later ∷ earlier
  pub open_yet : list_any (is_answer_to w.client w.id) later ≡ false
  pub is_for : IsFor (rules_in earlier) w.opening ask (home w.forwarding)
  pub came : CameIf w.outcome (home w.forwarding) w.opening later (Asks w.client w.id w.opening ask given.Later ∷ earlier)

-- ---- one more event

pub listens-later : (forwarder_event : ForwarderEvent) (host : List ℕ) (port l : ℕ) (forwarder_events : List ForwarderEvent) → closes_listener l forwarder_event ≡ false
    → ListensSince host port l forwarder_events → ListensSince host port l (forwarder_event ∷ forwarder_events)
listens-later forwarder_event host port l forwarder_events e h = record {
  later = forwarder_event ∷ h.later;
  earlier = h.earlier;
  were = ap (λ ds. forwarder_event ∷ ds) h.were;
  open_yet = or_from (closes_listener l forwarder_event) (list_any (closes_listener l) h.later) e h.open_yet;
}

pub granted-later : (forwarder_event : ForwarderEvent) (a : Forwarding) (port : ℕ) (forwarder_events : List ForwarderEvent) → IsGranted a port forwarder_events
    → IsGranted a port (forwarder_event ∷ forwarder_events)
granted-later forwarder_event a port forwarder_events h = record {
  chosen = h.chosen;
  later = forwarder_event ∷ h.later;
  earlier = h.earlier;
  were = ap (λ ds. forwarder_event ∷ ds) h.were;
  next = h.next;
  bound = h.bound;
}

-- its listener isn't the one that is closed
abbrev pub Lets : Stage → ForwarderEvent → Type 0
Lets s forwarder_event = (l : ℕ) → s ≡ Listening l → closes_listener l forwarder_event ≡ false

stage-later : (s : Stage) (a : Forwarding) (forwarder_event : ForwarderEvent) (forwarder_events : List ForwarderEvent) → Lets s forwarder_event → StageFits s a forwarder_events
    → StageFits s a (forwarder_event ∷ forwarder_events)
stage-later (ToListen host) a forwarder_event forwarder_events lets h = h
stage-later Ordered a forwarder_event forwarder_events lets h = h
stage-later (Listening l) a forwarder_event forwarder_events lets h =
    (h.0, listens-later forwarder_event a.listen_host a.listen_port l forwarder_events (lets l refl) h.1)
stage-later ToRequest a forwarder_event forwarder_events lets h = h
stage-later Requested a forwarder_event forwarder_events lets h = h
stage-later (Live port) a forwarder_event forwarder_events lets h = (h.0, granted-later forwarder_event a port forwarder_events h.1)
stage-later (Cancelling port) a forwarder_event forwarder_events lets h = (h.0, granted-later forwarder_event a port forwarder_events h.1)

pub stands-later : (home : ℕ → Forwarding) (serials : ℕ) (forwarder_event : ForwarderEvent) (forwarder_events : List ForwarderEvent) (f : Forwarding) → Lets f.stage forwarder_event
    → Stands home serials forwarder_events f → Stands home serials (forwarder_event ∷ forwarder_events) f
stands-later home serials forwarder_event forwarder_events f lets h = record {
  below = h.below;
  same = h.same;
  stage = stage-later f.stage (home f.serial) forwarder_event forwarder_events lets h.stage;
}

pub all-later : (home : ℕ → Forwarding) (serials : ℕ) (forwarder_event : ForwarderEvent) (forwarder_events : List ForwarderEvent) (fs : List Forwarding)
    → ((l : ℕ) → closes_listener l forwarder_event ≡ false) → All (Stands home serials forwarder_events) fs → All (Stands home serials (forwarder_event ∷ forwarder_events)) fs
all-later home serials forwarder_event forwarder_events fs lets h =
    All-weaker (Stands home serials forwarder_events) (Stands home serials (forwarder_event ∷ forwarder_events))
    (λ f s. stands-later home serials forwarder_event forwarder_events f (λ l e. lets l) s) fs h

came-later : (o : Option (ℕ × RequestOutcome)) (a : Forwarding) (opening : Bool) (forwarder_event : ForwarderEvent) (later earlier : List ForwarderEvent)
    → CameIf o a opening later earlier → CameIf o a opening (forwarder_event ∷ later) earlier
came-later None a opening forwarder_event later earlier h = tt
came-later (Some o) a opening forwarder_event later earlier h =
    record { newer = forwarder_event ∷ h.newer; forwarder_event = h.forwarder_event; older = h.older; were = ap (λ ds. forwarder_event ∷ ds) h.were; by = h.by }

pub waits-later : (home : ℕ → Forwarding) (serials : ℕ) (forwarder_event : ForwarderEvent) (forwarder_events : List ForwarderEvent) (w : Waiting)
    → is_answer_to w.client w.id forwarder_event ≡ false → Waits home serials forwarder_events w → Waits home serials (forwarder_event ∷ forwarder_events) w
waits-later home serials forwarder_event forwarder_events w e h = record {
  below = h.below;
  serial = h.serial;
  ask = h.ask;
  later = forwarder_event ∷ h.later;
  earlier = h.earlier;
  were = ap (λ ds. forwarder_event ∷ ds) h.were;
  open_yet = or_from (is_answer_to w.client w.id forwarder_event) (list_any (is_answer_to w.client w.id) h.later) e h.open_yet;
  is_for = h.is_for;
  came = came-later w.outcome (home w.forwarding) w.opening forwarder_event h.later (Asks w.client w.id w.opening h.ask given.Later ∷ h.earlier) h.came;
}

-- it answers no request
abbrev pub IsNoAnswer : ForwarderEvent → Type 0
IsNoAnswer forwarder_event = (client id : ℕ) → is_answer_to client id forwarder_event ≡ false

pub all-wait-later : (home : ℕ → Forwarding) (serials : ℕ) (forwarder_event : ForwarderEvent) (forwarder_events : List ForwarderEvent) → IsNoAnswer forwarder_event → (ws : List Waiting)
    → All (Waits home serials forwarder_events) ws → All (Waits home serials (forwarder_event ∷ forwarder_events)) ws
all-wait-later home serials forwarder_event forwarder_events none ws h =
    All-weaker (Waits home serials forwarder_events) (Waits home serials (forwarder_event ∷ forwarder_events))
    (λ w s. waits-later home serials forwarder_event forwarder_events w (none w.client w.id) s) ws h

-- ---- more forwardings

-- those that had a serial have it still
abbrev pub Keeps : (ℕ → Forwarding) → (ℕ → Forwarding) → ℕ → Type 0
Keeps home to serials = (n : ℕ) → n < serials → to n ≡ home n

pub stands-grown : (home to : ℕ → Forwarding) (serials more : ℕ) (forwarder_events : List ForwarderEvent) (f : Forwarding) → serials ≤ more
    → Keeps home to serials → Stands home serials forwarder_events f → Stands to more forwarder_events f
stands-grown home to serials more forwarder_events f less keeps h =
    let below = h.below in
    let e = sym (keeps f.serial below) in record {
      below = omega (arith, below, less);
      same = subst (λ (a : Forwarding). AreOne a f) e h.same;
      stage = subst (λ (a : Forwarding). StageFits f.stage a forwarder_events) e h.stage;
    }

pub asked-grown : (home to : ℕ → Forwarding) (serials more : ℕ) (g : Forwarding) → serials ≤ more → Keeps home to serials
    → Asked home serials g → Asked to more g
asked-grown home to serials more g less keeps h =
    let below = h.below in
    let e = sym (keeps g.serial below) in record {
      below = omega (arith, below, less);
      same = subst (λ (a : Forwarding). AreOne a g) e h.same;
      there = subst (λ (a : Forwarding). listens_here a.kind ≡ false) e h.there;
    }

pub waits-grown : (home to : ℕ → Forwarding) (serials more : ℕ) (forwarder_events : List ForwarderEvent) (w : Waiting) → serials ≤ more
    → Keeps home to serials → Waits home serials forwarder_events w → Waits to more forwarder_events w
waits-grown home to serials more forwarder_events w less keeps h =
    let below = h.below in
    let e = sym (keeps w.forwarding below) in record {
      below = omega (arith, below, less);
      serial = subst (λ (a : Forwarding). a.serial ≡ w.forwarding) e h.serial;
      ask = h.ask;
      later = h.later;
      earlier = h.earlier;
      were = h.were;
      open_yet = h.open_yet;
      is_for = subst (λ (a : Forwarding). IsFor (rules_in h.earlier) w.opening h.ask a) e h.is_for;
      came = subst (λ (a : Forwarding). CameIf w.outcome a w.opening h.later
          (Asks w.client w.id w.opening h.ask given.Later ∷ h.earlier)) e h.came;
    }

-- ---- a forwarding goes on

pub restaged : (home : ℕ → Forwarding) (serials : ℕ) (forwarder_events : List ForwarderEvent) (f : Forwarding) (s : Stage) (c : Bool)
    → StageFits s (home f.serial) forwarder_events → Stands home serials forwarder_events f
    → Stands home serials forwarder_events (record f { stage = s; closing = c })
restaged home serials forwarder_events f s c fits h = record {
  below = h.below;
  same = record {
    serial = h.same.serial;
    kind = h.same.kind;
    listens = h.same.listens;
    listen_port = h.same.listen_port;
    connects = h.same.connects;
    connect_port = h.same.connect_port;
  };
  stage = fits;
}

changed-if : (home : ℕ → Forwarding) (serials : ℕ) (forwarder_events : List ForwarderEvent) (c : Change) (serial : ℕ) (f : Forwarding) (b : Bool)
    → (f.serial == serial) ≡ b
    → (f.serial ≡ serial → StageFits f.stage (home f.serial) forwarder_events → StageFits (listener_stage_after c f.listen_port f.stage) (home f.serial) forwarder_events)
    → Stands home serials forwarder_events f → Stands home serials forwarder_events (if b then record f {
      stage = listener_stage_after c f.listen_port f.stage;
      closing = closing_after c f.closing;
    } else f)
changed-if home serials forwarder_events c serial f true e fits h =
    let is = eqb-true f.serial serial e in
    restaged home serials forwarder_events f (listener_stage_after c f.listen_port f.stage) (closing_after c f.closing) (fits is h.stage) h
changed-if home serials forwarder_events c serial f false e fits h = h

-- the one with a serial changes
pub all-changed : (home : ℕ → Forwarding) (serials : ℕ) (forwarder_events : List ForwarderEvent) (c : Change) (serial : ℕ) (fs : List Forwarding)
    → ((f : Forwarding) → f.serial ≡ serial → AreOne (home f.serial) f → StageFits f.stage (home f.serial) forwarder_events
    → StageFits (listener_stage_after c f.listen_port f.stage) (home f.serial) forwarder_events)
    → All (Stands home serials forwarder_events) fs → All (Stands home serials forwarder_events) (map (forwarding_changed c serial) fs)
all-changed home serials forwarder_events c serial fs fits h =
    All-map (Stands home serials forwarder_events) (forwarding_changed c serial) fs
    (All-weaker (Stands home serials forwarder_events) (λ (f : Forwarding). Stands home serials forwarder_events (forwarding_changed c serial f))
    (λ f s. changed-if home serials forwarder_events c serial f (f.serial == serial) refl (λ is. fits f is s.same) s) fs h)

-- all changes but that a forwarding gets live
abbrev pub IsSteady : Change → Type 0
IsSteady change.Close = Unit {0}
IsSteady change.ForwardingRequest = Unit {0}
IsSteady change.Cancel = Unit {0}
IsSteady (change.Live port) = ⊥
IsSteady change.Stay = Unit {0}

pub steady-stage : (c : Change) (asked : ℕ) (s : Stage) (a : Forwarding) (forwarder_events : List ForwarderEvent) → IsSteady c → StageFits s a forwarder_events
    → StageFits (listener_stage_after c asked s) a forwarder_events
steady-stage c asked (ToListen host) a forwarder_events steady h = h
steady-stage c asked Ordered a forwarder_events steady h = h
steady-stage c asked (Listening l) a forwarder_events steady h = h
steady-stage change.Close asked ToRequest a forwarder_events steady h = h
steady-stage change.ForwardingRequest asked ToRequest a forwarder_events steady h = h
steady-stage change.Cancel asked ToRequest a forwarder_events steady h = h
steady-stage (change.Live p) asked ToRequest a forwarder_events steady h = h
steady-stage change.Stay asked ToRequest a forwarder_events steady h = h
steady-stage change.Close asked Requested a forwarder_events steady h = h
steady-stage change.ForwardingRequest asked Requested a forwarder_events steady h = h
steady-stage change.Cancel asked Requested a forwarder_events steady h = h
steady-stage (change.Live p) asked Requested a forwarder_events steady h = absurd steady
steady-stage change.Stay asked Requested a forwarder_events steady h = h
steady-stage change.Close asked (Live p) a forwarder_events steady h = h
steady-stage change.ForwardingRequest asked (Live p) a forwarder_events steady h = h
steady-stage change.Cancel asked (Live p) a forwarder_events steady h = h
steady-stage (change.Live q) asked (Live p) a forwarder_events steady h = h
steady-stage change.Stay asked (Live p) a forwarder_events steady h = h
steady-stage change.Close asked (Cancelling p) a forwarder_events steady h = h
steady-stage change.ForwardingRequest asked (Cancelling p) a forwarder_events steady h = h
steady-stage change.Cancel asked (Cancelling p) a forwarder_events steady h = h
steady-stage (change.Live q) asked (Cancelling p) a forwarder_events steady h = h
steady-stage change.Stay asked (Cancelling p) a forwarder_events steady h = h

-- ---- requests have an outcome

-- the outcome of a request stays, or comes by this event
abbrev Turns : ForwarderEvent → List ForwarderEvent → Bool → Forwarding → Option (ℕ × RequestOutcome) → Option (ℕ × RequestOutcome) → Type 0
Turns forwarder_event forwarder_events opening a old new =
    (new ≡ old) ⊎ ((o : ℕ × RequestOutcome) × (new ≡ Some o) × CameBy forwarder_event forwarder_events opening a o.1)

turned : (home : ℕ → Forwarding) (serials : ℕ) (forwarder_event : ForwarderEvent) (forwarder_events : List ForwarderEvent) → IsNoAnswer forwarder_event → (w : Waiting) (new : Option (ℕ × RequestOutcome))
    → Waits home serials forwarder_events w → Turns forwarder_event forwarder_events w.opening (home w.forwarding) w.outcome new
    → Waits home serials (forwarder_event ∷ forwarder_events) (record w { outcome = new })
turned home serials forwarder_event forwarder_events none w new h (inl e) =
    subst (λ (o : Option (ℕ × RequestOutcome)). Waits home serials (forwarder_event ∷ forwarder_events) (record w { outcome = o })) (sym e)
    (waits-later home serials forwarder_event forwarder_events w (none w.client w.id) h)
turned home serials forwarder_event forwarder_events none w new h (inr s) =
    let got : Waits home serials (forwarder_event ∷ forwarder_events) (record w { outcome = Some s.0 }) = record {
      below = h.below;
      serial = h.serial;
      ask = h.ask;
      later = forwarder_event ∷ h.later;
      earlier = h.earlier;
      were = ap (λ ds. forwarder_event ∷ ds) h.were;
      open_yet = or_from (is_answer_to w.client w.id forwarder_event) (list_any (is_answer_to w.client w.id) h.later) (none w.client w.id) h.open_yet;
      is_for = h.is_for;
      came = record {
        newer = [];
        forwarder_event = forwarder_event;
        older = h.later;
        were = refl;
        by = subst (λ (ds : List ForwarderEvent). CameBy forwarder_event ds w.opening (home w.forwarding) s.0.1) h.were s.2;
      };
    } in
    subst (λ (o : Option (ℕ × RequestOutcome)). Waits home serials (forwarder_event ∷ forwarder_events) (record w { outcome = o })) (sym s.1) got

abbrev next_outcome : Bool → ℕ → RequestOutcome → Option (ℕ × RequestOutcome) → Option (ℕ × RequestOutcome)
next_outcome b at outcome o = if b then ask_settled_at at outcome o else o

settles : (serial : ℕ) (opening : Bool) (at : ℕ) (outcome : RequestOutcome) (w : Waiting) (o : Option (ℕ × RequestOutcome)) (b : Bool)
    → (if b then record (record w { outcome = o }) { outcome = ask_settled_at at outcome o } else record w { outcome = o })
    ≡ record w { outcome = next_outcome b at outcome o }
settles serial opening at outcome w o true = refl
settles serial opening at outcome w o false = refl

turns-at : (forwarder_event : ForwarderEvent) (forwarder_events : List ForwarderEvent) (opening : Bool) (a : Forwarding) (at : ℕ) (outcome : RequestOutcome) (b : Bool)
    (first o : Option (ℕ × RequestOutcome)) → (b ≡ true → CameBy forwarder_event forwarder_events opening a outcome) → Turns forwarder_event forwarder_events opening a first o
    → Turns forwarder_event forwarder_events opening a first (next_outcome b at outcome o)
turns-at forwarder_event forwarder_events opening a at outcome true first None by h = inr ((at, outcome), refl, by refl)
turns-at forwarder_event forwarder_events opening a at outcome true first (Some o) by h = h
turns-at forwarder_event forwarder_events opening a at outcome false first o by h = h

same-true : (a b : Bool) → same a b ≡ true → a ≡ b
same-true true true e = refl
same-true true false e = cc
same-true false true e = cc
same-true false false e = refl

about : (home : ℕ → Forwarding) (forwarder_event : ForwarderEvent) (forwarder_events : List ForwarderEvent) (serial : ℕ) (opening : Bool) (outcome : RequestOutcome) (w : Waiting)
    → CameBy forwarder_event forwarder_events opening (home serial) outcome → is_ask_about serial opening w ≡ true
    → CameBy forwarder_event forwarder_events w.opening (home w.forwarding) outcome
about home forwarder_event forwarder_events serial opening outcome w by e =
    let both = and_parts (w.forwarding == serial) (same w.opening opening) e in
    subst (λ (n : ℕ). CameBy forwarder_event forwarder_events w.opening (home n) outcome) (sym (eqb-true w.forwarding serial both.0))
    (subst (λ (b : Bool). CameBy forwarder_event forwarder_events b (home serial) outcome) (sym (same-true w.opening opening both.1)) by)

-- those that requested one thing have this outcome
pub all-settled : (home : ℕ → Forwarding) (serials : ℕ) (forwarder_event : ForwarderEvent) (forwarder_events : List ForwarderEvent) → IsNoAnswer forwarder_event → (serial : ℕ) (opening : Bool) (at : ℕ)
    (outcome : RequestOutcome) (ws : List Waiting) → CameBy forwarder_event forwarder_events opening (home serial) outcome
    → All (Waits home serials forwarder_events) ws → All (Waits home serials (forwarder_event ∷ forwarder_events)) (requests_settled serial opening at outcome ws)
all-settled home serials forwarder_event forwarder_events none serial opening at outcome ws by h =
    All-map (Waits home serials (forwarder_event ∷ forwarder_events)) (settle_one serial opening at outcome) ws
    (All-weaker (Waits home serials forwarder_events) (λ (w : Waiting). Waits home serials (forwarder_event ∷ forwarder_events) (settle_one serial opening at outcome w))
    (λ w s. subst (Waits home serials (forwarder_event ∷ forwarder_events))
    (sym (settles serial opening at outcome w w.outcome (is_ask_about serial opening w)))
    (turned home serials forwarder_event forwarder_events none w (next_outcome (is_ask_about serial opening w) at outcome w.outcome) s
    (turns-at forwarder_event forwarder_events w.opening (home w.forwarding) at outcome (is_ask_about serial opening w) w.outcome w.outcome
    (about home forwarder_event forwarder_events serial opening outcome w by) (inl refl)))) ws h)

-- all that asked about it are refused
refuse-one : (home : ℕ → Forwarding) (serials : ℕ) (forwarder_event : ForwarderEvent) (forwarder_events : List ForwarderEvent) → IsNoAnswer forwarder_event → (serial at : ℕ) (w : Waiting)
    → ((opening : Bool) → CameBy forwarder_event forwarder_events opening (home serial) Refused) → Waits home serials forwarder_events w
    → Waits home serials (forwarder_event ∷ forwarder_events) (settle_one serial false (one_more_outcome at) Refused (settle_one serial true at Refused w))
refuse-one home serials forwarder_event forwarder_events none serial at w by h =
    let a = home w.forwarding in
    let first = next_outcome (is_ask_about serial true w) at Refused w.outcome in
    let last = next_outcome (is_ask_about serial false w) (one_more_outcome at) Refused first in
    let one = settles serial true at Refused w w.outcome (is_ask_about serial true w) in
    let two = settles serial false (one_more_outcome at) Refused w first (is_ask_about serial false w) in
    let e : settle_one serial false (one_more_outcome at) Refused (settle_one serial true at Refused w) ≡ record w { outcome = last } =
    ap (settle_one serial false (one_more_outcome at) Refused) one ∙ two in
    subst (Waits home serials (forwarder_event ∷ forwarder_events)) (sym e)
    (turned home serials forwarder_event forwarder_events none w last h
    (turns-at forwarder_event forwarder_events w.opening a (one_more_outcome at) Refused (is_ask_about serial false w) w.outcome first
    (about home forwarder_event forwarder_events serial false Refused w (by false))
    (turns-at forwarder_event forwarder_events w.opening a at Refused (is_ask_about serial true w) w.outcome w.outcome
    (about home forwarder_event forwarder_events serial true Refused w (by true)) (inl refl))))

pub all-refused : (home : ℕ → Forwarding) (serials : ℕ) (forwarder_event : ForwarderEvent) (forwarder_events : List ForwarderEvent) → IsNoAnswer forwarder_event → (serial at : ℕ) (ws : List Waiting)
    → ((opening : Bool) → CameBy forwarder_event forwarder_events opening (home serial) Refused)
    → All (Waits home serials forwarder_events) ws → All (Waits home serials (forwarder_event ∷ forwarder_events)) (all_requests_refused serial at ws)
all-refused home serials forwarder_event forwarder_events none serial at ws by h =
    All-map (Waits home serials (forwarder_event ∷ forwarder_events)) (settle_one serial false (one_more_outcome at) Refused) (requests_settled serial true at Refused ws)
    (All-map (λ (v : Waiting). Waits home serials (forwarder_event ∷ forwarder_events) (settle_one serial false (one_more_outcome at) Refused v))
    (settle_one serial true at Refused) ws
    (All-weaker (Waits home serials forwarder_events) (λ (w : Waiting). Waits home serials (forwarder_event ∷ forwarder_events)
    (settle_one serial false (one_more_outcome at) Refused (settle_one serial true at Refused w)))
    (λ w s. refuse-one home serials forwarder_event forwarder_events none serial at w by s) ws h))
