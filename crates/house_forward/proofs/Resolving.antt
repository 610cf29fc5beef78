-- What is kept of clients' requests and requests to the server, event by event, and what that means
-- for a forwarder at rest.
use Rattle.std.proofs.Common.{◌≡◌, ◌∙◌, refl, sym, ap, subst, arith, ℕ, zero, suc, ◌+◌, ◌<◌, ◌≤◌, Bool, true, false, List, [], ◌∷◌, ◌++◌, length, get_or, set, drop, map, filter, Option, Some, None, inl, inr}
use Rattle.std.specs.Prelude.{◌⊎◌, ◌==◌, ◌&&◌, not, nat_lt, find, slice_get, if◌then◌else◌}
use Rattle.std.specs.List.{All, Contains, list_any, position, remove}
use Rattle.std.proofs.lemmas.Bool.{and_parts, or_parts, or_from, both_ways, cases_Bool, cases_lt, eqb-true, eq-eqb, not-true}
use Rattle.std.proofs.lemmas.Grind.{common_steps}
use Rattle.std.proofs.lemmas.List.{length-map}
use Rattle.std.proofs.lemmas.List.Elements.{All-nil, All-cons, All-head, All-tail, All-weaker, All-map, All-push, All-set, All-filter}
use Rattle.std.proofs.lemmas.List.Quantifiers.{position-Some}
use Rattle.mux_outside.specs.declared.house.HouseReply.{HouseReply}
use Rattle.mux_outside.specs.declared.start_ask.StartAsk.{StartAsk}
use Rattle.mux_outside.specs.declared.starts.Starts.{Starts}
use Rattle.house_forward.specs.Asks.{requests_settled, one_more_outcome, is_ask_about, owes_opening, has_outcome, is_settled, is_waiting, without_request_at, request_waiting_for, turns_away}
use Rattle.house_forward.specs.Causes.{ForwarderIsAtRest, AwaitsReply, EachAwaits, ListenersDiffer}
use Rattle.house_forward.specs.ForwarderEvents.{ForwarderEvent, Does, Leave}
use Rattle.house_forward.specs.ForwarderEvents.{Begins, Asks, Answers, Greets, Requests, Replies, Listens, Unlistens}
use Rattle.house_forward.specs.ForwardingState.{ForwardingState, empty_forwarding_state, BeginsWith, IsClientAsk, GivesFirstAnswer as IsAnswered, greeting_sent, request_sent, reply_received, GetsListener, EndsListener, standing_at}
use Rattle.house_forward.specs.Forwardings.{AskedAtStart as BeginsAt, StartsIf, Standing, OpensForwarding, serials_after, IsAskedFor, is_first, has_request, requests_at, forwarding_request_of, after_request_sent, forwarding_changed, listener_stage_after, closing_after, standing, is_asked_or_live, how_many, listens_at, connects_same_end, as_first, forwarding_outcome_of, outcome_at, opens_of, closes_of, comes_of_ends, after_close, is_new, EndsLeave, ComesIf, ComesUnless, waiting_after, is_listen_unanswered, asks_at, is_cancelled, cancels_at, live_outcome_in, opened_asks, replied_all, replied_asks, removed_at, first_forwarding_request, to_listen, MadeAt, ordered_asks, serial_of, is_numbered, next_listener_order, next_at, forwarding_ends_at, has_listener, is_listener, listener_of, listener_at, listeners_of}
use Rattle.house_forward.specs.Rules.{is_ruled_out, rules_of}
use Rattle.house_forward.specs.declared.asks.ImmediateOutcome.{ImmediateOutcome as Comes}
use Rattle.house_forward.specs.declared.asks.ImmediateOutcome.TheVariants.{Now, Later}
use Rattle.house_forward.specs.declared.asks.RequestOutcome.{RequestOutcome}
use Rattle.house_forward.specs.declared.asks.RequestOutcome.TheVariants.{Done, Refused}
use Rattle.house_forward.specs.declared.asks.Waiting.{Waiting}
use Rattle.house_forward.specs.declared.forwarding.Change.{Change}
use Rattle.house_forward.specs.declared.forwarding.Change.TheVariants as change
use Rattle.house_forward.specs.declared.forwarding.Forwarding.{Forwarding}
use Rattle.house_forward.specs.declared.forwarding.ForwardingRequest.{ForwardingRequest}
use Rattle.house_forward.specs.declared.forwarding.ForwardingRequest.TheVariants.{Listen, Cancel}
use Rattle.house_forward.specs.declared.forwarding.Stage.{Stage}
use Rattle.house_forward.specs.declared.forwarding.Stage.TheVariants.{ToListen, Ordered, Listening, ToRequest, Requested, Live, Cancelling}
use Rattle.house_forward.specs.declared.forwardings.ForwardingWant.{ForwardingWant}
use Rattle.house_forward.specs.declared.forwardings.ForwardingWant.TheVariants as want
use Rattle.house_forward.specs.declared.rules.Ends.{Ends}
use Rattle.house_forward.specs.declared.rules.ListenRules.{ListenRules}
use Rattle.house_forward.specs.declared.rules.TheConstants.{MOST_FORWARDINGS}
use Rattle.house_forward.proofs.Causing.{placed, all-remove, all-removed, all-taken, in-range, there-is, same-many, one-many, more_than, first-ordered, same-one-found, Closing, next-closing}
use Rattle.house_forward.proofs.Listeners.{one-each, apart-listeners}
use Rattle.house_forward.proofs.Lists.{none-passes}
use Rattle.house_forward.proofs.Members.{In, in-left, in-last, in-map, in-filter, in-remove, in-set, in-set_new, in-all, in-contains, found-in, all-in, set-set, remove-set}
use Rattle.house_forward.proofs.Numbered.{numbered_more, numbered-remove, numbered-filter, numbered-first, numbered-changed}
use Rattle.house_forward.proofs.Owning.{pairs}
use Rattle.house_forward.proofs.Tracking.{Holds, HasFate, Unsettled, StageAwaits, Awaits, Tracks, removed-differs, one-serial, all-unsettled, all-unrefused, of-other, of-neither, changed-serial, fate-changed, said-holds, live-holds, stay-holds, awaits-more, listen-awaits, cancel-awaits, close-awaits, live-awaits, stay-awaits, other-awaits}

-- ---- fates go on

abbrev Moves : List Forwarding → List Forwarding → Type 0
Moves old new = (w : Waiting) → HasFate old w → HasFate new w

-- as nothing gets an outcome
moved : (old new : List Forwarding) (ws : List Waiting) → Moves old new → All (Unsettled (HasFate old)) ws
    → All (Unsettled (HasFate new)) ws
moved old new ws move h =
    All-weaker (Unsettled (HasFate old)) (Unsettled (HasFate new)) (λ w u none. move w (u none)) ws h

-- ---- the start

first-awaits : (s : Stage) (n : ℕ) (rs : List ForwardingRequest) → is_first s ≡ true → StageAwaits s n rs
first-awaits (ToListen host) n rs e = tt
first-awaits Ordered n rs e = cc
first-awaits (Listening l) n rs e = tt
first-awaits ToRequest n rs e = tt
first-awaits Requested n rs e = cc
first-awaits (Live port) n rs e = tt
first-awaits (Cancelling port) n rs e = cc

first-outcome : (s : Stage) (n : ℕ) → is_first s ≡ true → outcome_at s n ≡ None
first-outcome (ToListen host) n e = refl
first-outcome Ordered n e = cc
first-outcome (Listening l) n e = cc
first-outcome ToRequest n e = refl
first-outcome Requested n e = cc
first-outcome (Live port) n e = cc
first-outcome (Cancelling port) n e = cc

record More (rs : List ForwardingRequest) (old new : List Forwarding) (serials : ℕ) : Type 0 where
  numbered : is_numbered 0 new serials ≡ true
  stages : All (Awaits rs) new
  keeps : (f : Forwarding) → In f old → In f new

none-more : (rs : List ForwardingRequest) (fs : List Forwarding) (serials : ℕ) → is_numbered 0 fs serials ≡ true → All (Awaits rs) fs → More rs fs fs serials
none-more rs fs serials n h = record { numbered = n; stages = h; keeps = λ f k. k }

one-more : (rs : List ForwardingRequest) (fs : List Forwarding) (serials : ℕ) (ends : Ends) (start : Option ℕ) (f : Forwarding)
    → IsAskedFor ends serials start f → is_numbered 0 fs serials ≡ true → All (Awaits rs) fs → More rs fs (fs ++ f ∷ []) (serials + 1)
one-more rs fs serials ends start f a n h = record {
  numbered = numbered_more fs f serials a.serial_is n;
  stages = All-push (Awaits rs) fs f h (first-awaits f.stage f.serial rs a.first);
  keeps = λ g k. in-left g fs (f ∷ []) k;
}

opens-more : (b : Bool) (ends : Ends) (serials : ℕ) (start : Option ℕ) (rs : List ForwardingRequest) (old new : List Forwarding)
    → is_numbered 0 old serials ≡ true → All (Awaits rs) old → OpensForwarding b ends serials start old new
    → More rs old new (serials_after b serials)
opens-more false ends serials start rs old new n h o =
    subst (λ (fs : List Forwarding). More rs old fs serials) (sym o) (none-more rs old serials n h)
opens-more true ends serials start rs old new n h o =
    subst (λ (fs : List Forwarding). More rs old fs (serials + 1)) (sym o.2) (one-more rs old serials ends start o.0 o.1 n h)

starts-more : (b : Bool) (rules : ListenRules) (ask : StartAsk) (i : ℕ) (rs : List ForwardingRequest) (old new : Standing)
    → is_numbered 0 old.all old.serials ≡ true → All (Awaits rs) old.all → StartsIf b rules ask i old new
    → More rs old.all new.all new.serials
starts-more true rules ask i rs old new n h s =
    subst (λ (t : Standing). More rs old.all t.all t.serials) (sym s) (none-more rs old.all old.serials n h)
starts-more false rules ask i rs old new n h s =
    subst (λ (m : ℕ). More rs old.all new.all m) (sym s.2.serials)
    (opens-more _ s.0 old.serials (Some i) rs old.all new.all n h s.2.all)

begins-more : (rules : ListenRules) (asks : List StartAsk) (i : ℕ) (rs : List ForwardingRequest) (old new : Standing) → i ≤ length asks
    → is_numbered 0 old.all old.serials ≡ true → All (Awaits rs) old.all → BeginsAt rules asks i old new
    → More rs old.all new.all new.serials
begins-more rules asks zero rs old new l n h b =
    subst (λ (t : Standing). More rs old.all t.all t.serials) (sym b) (none-more rs old.all old.serials n h)
begins-more rules asks (suc i) rs old new l n h b =
    let first = begins-more rules asks i rs old b.0 (omega arith) n h b.1 in
    let at = in-range asks i (omega arith) in
    let starts = there-is (λ (ask : StartAsk). StartsIf (is_ruled_out rules ask) rules ask i b.0 new) (slice_get asks i) at.0 at.1 b.2 in
    let last = starts-more (is_ruled_out rules at.0) rules at.0 i rs b.0 new first.numbered first.stages starts in
    record { numbered = last.numbered; stages = last.stages; keeps = λ f k. last.keeps f (first.keeps f k) }

kept-fates : (old new : List Forwarding) → ((f : Forwarding) → In f old → In f new) → Moves old new
kept-fates old new keeps w h = (h.0, keeps h.0 h.1, h.2, h.3)

after-start : (starts : Starts) (old new : ForwardingState) → Tracks old → BeginsWith starts old new
    → Tracks new
after-start starts old new t b =
    let m = begins-more (rules_of starts) starts.asks (length starts.asks) old.requests (standing_at old) (standing_at new)
    (omega arith) t.numbered t.stages b.begins in
    record {
      numbered = m.numbered;
      stages = subst (λ (rs : List ForwardingRequest). All (Awaits rs) new.all) (sym (ap (λ (d : ForwardingState). d.requests) b.others)) m.stages;
      fates = subst (λ (ws : List Waiting). All (Unsettled (HasFate new.all)) ws)
          (sym (ap (λ (d : ForwardingState). d.waiting) b.others))
          (moved old.all new.all old.waiting (kept-fates old.all new.all m.keeps) t.fates);
    }

-- ---- a request

abbrev Has : Bool → ℕ → List Forwarding → Type 0
Has opening serial all = (f : Forwarding) × In f all × (f.serial ≡ serial) × Holds opening f

record AskTracks (rs : List ForwardingRequest) (opening : Bool) (comes : Comes) (old new : List Forwarding) (serials : ℕ) : Type 0 where
  numbered : is_numbered 0 new serials ≡ true
  stages : All (Awaits rs) new
  moves : Moves old new
  waits : (serial : ℕ) → comes ≡ Later serial → Has opening serial new

-- what is known as a request comes
record Asking (rs : List ForwardingRequest) (serials : ℕ) (fs : List Forwarding) : Type 0 where
  numbered : is_numbered 0 fs serials ≡ true
  stages : All (Awaits rs) fs

stays : (rs : List ForwardingRequest) (serials : ℕ) (opening : Bool) (comes : Comes) (fs new : List Forwarding) → Asking rs serials fs → new ≡ fs
    → ((serial : ℕ) → comes ≡ Later serial → Has opening serial fs) → AskTracks rs opening comes fs new (more_than serials fs new)
stays rs serials opening comes fs new k same waits =
    subst (λ (xs : List Forwarding). AskTracks rs opening comes fs xs (more_than serials fs xs)) (sym same)
    (subst (λ (m : ℕ). AskTracks rs opening comes fs fs m) (same-many serials fs fs refl) (record {
      numbered = k.numbered;
      stages = k.stages;
      moves = λ w h. h;
      waits = waits;
    }))

never : (o : RequestOutcome) (comes : Comes) (opening : Bool) (fs : List Forwarding) → comes ≡ Now o → (serial : ℕ) → comes ≡ Later serial
    → Has opening serial fs
never o comes opening fs e serial f = cc

opens-none : (rs : List ForwardingRequest) (serials : ℕ) (comes : Comes) (ends : Ends) (fs new : List Forwarding) (b : Bool) → Asking rs serials fs
    → comes ≡ (if b then Later serials else Now Refused) → OpensForwarding b ends serials None fs new
    → AskTracks rs true comes fs new (more_than serials fs new)
opens-none rs serials comes ends fs new false k e o = stays rs serials true comes fs new k o (never Refused comes true fs e)
opens-none rs serials comes ends fs new true k e o =
    let f = o.0 in
    let m = one-more rs fs serials ends None f o.1 k.numbered k.stages in
    subst (λ (xs : List Forwarding). AskTracks rs true comes fs xs (more_than serials fs xs)) (sym o.2)
    (subst (λ (n : ℕ). AskTracks rs true comes fs (fs ++ f ∷ []) n) (one-many serials fs f) (record {
      numbered = m.numbered;
      stages = m.stages;
      moves = kept-fates fs (fs ++ f ∷ []) m.keeps;
      waits = λ serial is.
          let same : serials ≡ serial = cc in
          (f, in-last f fs, o.1.serial_is ∙ same, first-outcome f.stage f.listen_port o.1.first);
    }))

again : (comes : Comes) (fs : List Forwarding) (f : Forwarding) (o : Option RequestOutcome) → forwarding_outcome_of f ≡ o → comes ≡ as_first f o → In f fs
    → (serial : ℕ) → comes ≡ Later serial → Has true serial fs
again comes fs f None is e h serial later = let same : f.serial ≡ serial = cc in (f, h, same, is)
again comes fs f (Some o) is e h serial later = cc

opens-some : (rs : List ForwardingRequest) (serials : ℕ) (comes : Comes) (fs new : List Forwarding) (f : Forwarding) (b : Bool) → Asking rs serials fs
    → In f fs → comes ≡ (if b then as_first f (forwarding_outcome_of f) else Now Refused) → new ≡ fs
    → AskTracks rs true comes fs new (more_than serials fs new)
opens-some rs serials comes fs new f true k h e same = stays rs serials true comes fs new k same (again comes fs f (forwarding_outcome_of f) refl e h)
opens-some rs serials comes fs new f false k h e same = stays rs serials true comes fs new k same (never Refused comes true fs e)

opens-by : (rs : List ForwardingRequest) (serials : ℕ) (comes : Comes) (ends : Ends) (fs new : List Forwarding) (o : Option Forwarding)
    → standing ends fs ≡ o → Asking rs serials fs → comes ≡ opens_of serials ends fs o → OpensForwarding (is_new ends fs o) ends serials None fs new
    → AskTracks rs true comes fs new (more_than serials fs new)
opens-by rs serials comes ends fs new None is k e o =
    opens-none rs serials comes ends fs new (nat_lt (how_many fs) MOST_FORWARDINGS) k e o
opens-by rs serials comes ends fs new (Some f) is k e o =
    opens-some rs serials comes fs new f (connects_same_end ends f) k (found-in (λ g. is_asked_or_live g && listens_at ends g) f fs is) e o

close-if : (rs : List ForwardingRequest) (serial : ℕ) (f : Forwarding) (b : Bool) → Awaits rs f
    → Awaits rs (if b then record f { stage = listener_stage_after change.Close f.listen_port f.stage; closing = true } else f)
close-if rs serial f true h = close-awaits f.stage f.listen_port f.serial rs h
close-if rs serial f false h = h

closed-closes : (f : Forwarding) → (forwarding_changed change.Close f.serial f).closing ≡ true
closed-closes f = rw (eq-eqb f.serial f.serial refl) refl

closes-one : (rs : List ForwardingRequest) (serials : ℕ) (comes : Comes) (fs new : List Forwarding) (f : Forwarding) (b : Bool) → Asking rs serials fs
    → In f fs → comes ≡ (if b then Now Refused else Later f.serial) → new ≡ after_close (if b then Now Refused else Later f.serial) fs
    → AskTracks rs false comes fs new (more_than serials fs new)
closes-one rs serials comes fs new f true k h e same = stays rs serials false comes fs new k same (never Refused comes false fs e)
closes-one rs serials comes fs new f false k h e same =
    let closed = map (forwarding_changed change.Close f.serial) fs in
    subst (λ (xs : List Forwarding). AskTracks rs false comes fs xs (more_than serials fs xs)) (sym same)
    (subst (λ (m : ℕ). AskTracks rs false comes fs closed m)
    (same-many serials fs closed (length-map fs (forwarding_changed change.Close f.serial))) (record {
      numbered = numbered-changed change.Close f.serial fs serials k.numbered;
      stages = All-map (Awaits rs) (forwarding_changed change.Close f.serial) fs
          (All-weaker (Awaits rs) (λ (g : Forwarding). Awaits rs (forwarding_changed change.Close f.serial g))
          (λ g a. close-if rs f.serial g (g.serial == f.serial) a) fs k.stages);
      moves = λ w fate. fate-changed change.Close f.serial fs w fate (λ is. said-holds change.Close w.opening fate.0 tt fate.3);
      waits = λ serial later.
          let its : f.serial ≡ serial = cc in (
            forwarding_changed change.Close f.serial f,
            in-map (forwarding_changed change.Close f.serial) f fs h,
            changed-serial change.Close f.serial f ∙ its,
            closed-closes f,
          );
    }))

closes-by : (rs : List ForwardingRequest) (serials : ℕ) (comes : Comes) (ends : Ends) (fs new : List Forwarding) (o : Option Forwarding)
    → standing ends fs ≡ o → Asking rs serials fs → comes ≡ closes_of o → new ≡ after_close (closes_of o) fs
    → AskTracks rs false comes fs new (more_than serials fs new)
closes-by rs serials comes ends fs new None is k e same = stays rs serials false comes fs new k same (never Refused comes false fs e)
closes-by rs serials comes ends fs new (Some f) is k e same =
    closes-one rs serials comes fs new f f.closing k (found-in (λ g. is_asked_or_live g && listens_at ends g) f fs is) e same

comes-by : (opening : Bool) (rs : List ForwardingRequest) (serials : ℕ) (comes : Comes) (ends : Ends) (fs new : List Forwarding) → Asking rs serials fs
    → comes ≡ comes_of_ends opening serials ends fs → EndsLeave opening serials ends fs new
    → AskTracks rs opening comes fs new (more_than serials fs new)
comes-by true rs serials comes ends fs new k e l = opens-by rs serials comes ends fs new (standing ends fs) refl k e l
comes-by false rs serials comes ends fs new k e l = closes-by rs serials comes ends fs new (standing ends fs) refl k e l

comes-if : (alone opening : Bool) (rules : ListenRules) (ask : StartAsk) (rs : List ForwardingRequest) (serials : ℕ) (comes : Comes) (fs new : List Forwarding)
    → Asking rs serials fs → ComesIf alone rules opening ask serials fs new comes
    → AskTracks rs opening comes fs new (more_than serials fs new)
comes-if true opening rules ask rs serials comes fs new k c = stays rs serials opening comes fs new k c.1 (never Refused comes opening fs c.0)
comes-if false opening rules ask rs serials comes fs new k c = comes-by opening rs serials comes c.0 fs new k c.2 c.3

comes-unless : (away opening : Bool) (rules : ListenRules) (ask : StartAsk) (rs : List ForwardingRequest) (serials : ℕ) (comes : Comes) (fs new : List Forwarding)
    → Asking rs serials fs → ComesUnless away rules opening ask serials fs new comes
    → AskTracks rs opening comes fs new (more_than serials fs new)
comes-unless true opening rules ask rs serials comes fs new k c = stays rs serials opening comes fs new k c.1 (never Refused comes opening fs c.0)
comes-unless false opening rules ask rs serials comes fs new k c =
    comes-if (is_ruled_out rules ask) opening rules ask rs serials comes fs new k c

waits-more : (comes : Comes) (client id : ℕ) (opening : Bool) (all : List Forwarding) (ws : List Waiting)
    → ((serial : ℕ) → comes ≡ Later serial → Has opening serial all) → All (Unsettled (HasFate all)) ws
    → All (Unsettled (HasFate all)) (waiting_after comes client id opening ws)
waits-more (Now o) client id opening all ws waits h = h
waits-more (Later serial) client id opening all ws waits h =
    All-push (Unsettled (HasFate all)) ws (request_waiting_for client id opening serial) h (λ none. waits serial refl)

after-ask : (client id : ℕ) (opening : Bool) (ask : StartAsk) (answer : HouseReply) (old new : ForwardingState) → Tracks old
    → IsClientAsk client id opening ask answer old new → Tracks new
after-ask client id opening ask answer old new t a =
    let m = comes-unless (turns_away client id old.waiting) opening old.rules ask old.requests old.serials a.came_to old.all new.all
    (record { numbered = t.numbered; stages = t.stages }) a.comes in
    record {
      numbered = subst (λ (n : ℕ). is_numbered 0 new.all n ≡ true) (sym (ap (λ (d : ForwardingState). d.serials) a.others)) m.numbered;
      stages = subst (λ (rs : List ForwardingRequest). All (Awaits rs) new.all) (sym (ap (λ (d : ForwardingState). d.requests) a.others)) m.stages;
      fates = subst (λ (ws : List Waiting). All (Unsettled (HasFate new.all)) ws) (sym (ap (λ (d : ForwardingState). d.waiting) a.others))
          (waits-more a.came_to client id opening new.all old.waiting m.waits
          (moved old.all new.all old.waiting m.moves t.fates));
    }

-- ---- an answer, the greeting, and a request

after-answering : (client id : ℕ) (answer : HouseReply) (old new : ForwardingState) → Tracks old
    → IsAnswered client id answer old new → Tracks new
after-answering client id answer old new t a =
    let at = position (is_waiting client id) old.waiting in
    let left : ForwardingState = record old { waiting = without_request_at at old.waiting } in
    let got : Tracks left = record {
      numbered = t.numbered;
      stages = t.stages;
      fates = moved old.all old.all (without_request_at at old.waiting) (λ w h. h)
          (all-taken (Unsettled (HasFate old.all)) at old.waiting t.fates);
    } in
    subst (λ (d : ForwardingState). Tracks d) (sym a.others) got

after-greeting : (old new : ForwardingState) → Tracks old → new ≡ greeting_sent old → Tracks new
after-greeting old new t e =
    let got : Tracks (greeting_sent old) = record {
      numbered = t.numbered;
      stages = t.stages;
      fates = moved old.all old.all old.waiting (λ w h. h) t.fates;
    } in
    subst (λ (d : ForwardingState). Tracks d) (sym e) got

awaits-if : (c : Change) (rs more : List ForwardingRequest) (f : Forwarding) (b : Bool)
    → (b ≡ true → StageAwaits (listener_stage_after c f.listen_port f.stage) f.serial more) → (b ≡ false → Awaits more f)
    → Awaits more (if b then record f { stage = listener_stage_after c f.listen_port f.stage; closing = closing_after c f.closing } else f)
awaits-if c rs more f true h k = h refl
awaits-if c rs more f false h k = k refl

all-awaits : (c : Change) (serial : ℕ) (rs more : List ForwardingRequest) (fs : List Forwarding)
    → ((f : Forwarding) → f.serial ≡ serial → Awaits rs f → StageAwaits (listener_stage_after c f.listen_port f.stage) f.serial more)
    → ((f : Forwarding) → (f.serial == serial) ≡ false → Awaits rs f → Awaits more f)
    → All (Awaits rs) fs → All (Awaits more) (map (forwarding_changed c serial) fs)
all-awaits c serial rs more fs its others h =
    All-map (Awaits more) (forwarding_changed c serial) fs
    (All-weaker (Awaits rs) (λ (f : Forwarding). Awaits more (forwarding_changed c serial f))
    (λ f a. awaits-if c rs more f (f.serial == serial) (λ is. its f (eqb-true f.serial serial is) a) (λ isnt. others f isnt a)) fs h)

said-stages : (r : ForwardingRequest) (rs : List ForwardingRequest) (fs : List Forwarding) → All (Awaits rs) fs
    → All (Awaits (rs ++ r ∷ [])) (after_request_sent r fs)
said-stages (Listen serial) rs fs h = all-awaits change.ForwardingRequest serial rs (rs ++ Listen serial ∷ []) fs
    (λ f is a. listen-awaits f.stage f.listen_port f.serial (rs ++ Listen serial ∷ [])
    (subst (λ (n : ℕ). In (Listen n) (rs ++ Listen serial ∷ [])) (sym is) (in-last (Listen serial) rs))
    (awaits-more f.stage f.serial rs (rs ++ Listen serial ∷ []) (λ x k. in-left x rs (Listen serial ∷ []) k) a))
    (λ f isnt a. awaits-more f.stage f.serial rs (rs ++ Listen serial ∷ []) (λ x k. in-left x rs (Listen serial ∷ []) k) a) h
said-stages (Cancel serial) rs fs h = all-awaits change.Cancel serial rs (rs ++ Cancel serial ∷ []) fs
    (λ f is a. cancel-awaits f.stage f.listen_port f.serial (rs ++ Cancel serial ∷ [])
    (subst (λ (n : ℕ). In (Cancel n) (rs ++ Cancel serial ∷ [])) (sym is) (in-last (Cancel serial) rs))
    (awaits-more f.stage f.serial rs (rs ++ Cancel serial ∷ []) (λ x k. in-left x rs (Cancel serial ∷ []) k) a))
    (λ f isnt a. awaits-more f.stage f.serial rs (rs ++ Cancel serial ∷ []) (λ x k. in-left x rs (Cancel serial ∷ []) k) a) h

said-numbered : (r : ForwardingRequest) (fs : List Forwarding) (serials : ℕ) → is_numbered 0 fs serials ≡ true → is_numbered 0 (after_request_sent r fs) serials ≡ true
said-numbered (Listen serial) fs serials h = numbered-changed change.ForwardingRequest serial fs serials h
said-numbered (Cancel serial) fs serials h = numbered-changed change.Cancel serial fs serials h

said-moves : (r : ForwardingRequest) (fs : List Forwarding) → Moves fs (after_request_sent r fs)
said-moves (Listen serial) fs w fate = fate-changed change.ForwardingRequest serial fs w fate (λ is. said-holds change.ForwardingRequest w.opening fate.0 tt fate.3)
said-moves (Cancel serial) fs w fate = fate-changed change.Cancel serial fs w fate (λ is. said-holds change.Cancel w.opening fate.0 tt fate.3)

after-request : (f : Forwarding) (old new : ForwardingState) → Tracks old → new ≡ request_sent f old
    → Tracks new
after-request f old new t e =
    let got : Tracks (request_sent f old) = record {
      numbered = said-numbered (forwarding_request_of f) old.all old.serials t.numbered;
      stages = said-stages (forwarding_request_of f) old.requests old.all t.stages;
      fates = moved old.all (after_request_sent (forwarding_request_of f) old.all) old.waiting (said-moves (forwarding_request_of f) old.all) t.fates;
    } in
    subst (λ (d : ForwardingState). Tracks d) (sym e) got

-- ---- a reply

none-found-in : (p : Forwarding → Bool) (xs : List Forwarding) (x : Forwarding) → list_any p xs ≡ false → In x xs → p x ≡ false
none-found-in p [] x e h = absurd h
none-found-in p (y ∷ xs) x e (inl is) = subst (λ (z : Forwarding). p z ≡ false) is (or_parts (p y) (list_any p xs) e).0
none-found-in p (y ∷ xs) x e (inr h) = none-found-in p xs x (or_parts (p y) (list_any p xs) e).1 h

pass-if : (p : Forwarding → Bool) (y : Forwarding) (b : Bool) (o : Option Forwarding) → p y ≡ b → (if b then Some y else o) ≡ None
    → (p y ≡ false) × (o ≡ None)
pass-if p y true o e f = cc
pass-if p y false o e f = (e, f)

pub none-passes-in : (p : Forwarding → Bool) (xs : List Forwarding) (x : Forwarding) → find p xs ≡ None → In x xs → p x ≡ false
none-passes-in p [] x e h = absurd h
none-passes-in p (y ∷ xs) x e (inl is) =
    subst (λ (z : Forwarding). p z ≡ false) is (pass-if p y (p y) (find p xs) refl e).0
none-passes-in p (y ∷ xs) x e (inr h) = none-passes-in p xs x (pass-if p y (p y) (find p xs) refl e).1 h

second-part : (a b : Bool) → a ≡ true → (a && b) ≡ false → b ≡ false
second-part true b e f = f
second-part false b e f = cc

first-part : (a : Bool) → (a && true) ≡ false → a ≡ false
first-part true e = cc
first-part false e = refl

pub and-second : (a b : Bool) → b ≡ false → (a && b) ≡ false
and-second true b e = e
and-second false b e = refl

-- one that isn't had has no cancel
unserved : (s : Stage) (n : ℕ) → outcome_at s n ≡ None → cancels_at s ≡ false
unserved (ToListen host) n e = refl
unserved Ordered n e = refl
unserved (Listening l) n e = refl
unserved ToRequest n e = refl
unserved Requested n e = refl
unserved (Live port) n e = refl
unserved (Cancelling port) n e = cc

-- with another serial
not-its : (n serial : ℕ) (b : Bool) → (n ≡ serial → ⊥) → ((n == serial) && b) ≡ false
not-its n serial b differ = elim (cases_Bool (n == serial)) [
  | inl is ↦ absurd (differ (eqb-true n serial is))
  | inr isnt ↦ rw isnt refl
]

-- what is left, where the one with a serial that passes is removed
pub all-left : (q : Forwarding → Bool) (serial : ℕ) (fs : List Forwarding) (serials : ℕ) (o : Option ℕ)
    → position (λ f. (f.serial == serial) && q f) fs ≡ o → is_numbered 0 fs serials ≡ true
    → All (λ f. ((f.serial == serial) && q f) ≡ false) (removed_at o fs)
all-left q serial fs serials None e n =
    all-in (λ (f : Forwarding). ((f.serial == serial) && q f) ≡ false) fs
    (λ x h. none-found-in (λ f. (f.serial == serial) && q f) fs x (none-passes (λ f. (f.serial == serial) && q f) fs e) h)
all-left q serial [] serials (Some i) e n = cc
all-left q serial (y ∷ fs) serials (Some i) e n =
    let first = position-Some (λ f. (f.serial == serial) && q f) (y ∷ fs) i y e in
    let g = get_or (y ∷ fs) i y in
    let is : g.serial ≡ serial = eqb-true g.serial serial (and_parts (g.serial == serial) (q g) first.1).0 in
    all-in (λ (f : Forwarding). ((f.serial == serial) && q f) ≡ false) (remove (y ∷ fs) i)
    (λ x h. not-its x.serial serial (q x) (λ same. removed-differs (y ∷ fs) i x y 0 serials n first.0 h (same ∙ sym is)))

all-both : (P Q R : Forwarding → Type 0) (xs : List Forwarding) → ((x : Forwarding) → P x → Q x → R x) → All P xs → All Q xs → All R xs
all-both P Q R xs f h k = λ i d lt. f (get_or xs i d) (h i d lt) (k i d lt)

numbered-removed : (o : Option ℕ) (fs : List Forwarding) (serials : ℕ) → is_numbered 0 fs serials ≡ true
    → is_numbered 0 (removed_at o fs) serials ≡ true
numbered-removed None fs serials n = n
numbered-removed (Some i) fs serials n = numbered-remove fs i serials n

-- a forwarding that doesn't pass stays
pub fate-left : (p : Forwarding → Bool) (fs : List Forwarding) (o : Option ℕ) (x : Forwarding) → position p fs ≡ o → p x ≡ false → In x fs
    → In x (removed_at o fs)
fate-left p fs None x e isnt h = h
fate-left p [] (Some i) x e isnt h = absurd h
fate-left p (y ∷ fs) (Some i) x e isnt h =
    let first = position-Some p (y ∷ fs) i y e in
    in-remove p x (y ∷ fs) i y first.0 first.1 isnt h

record Replied (rs : List ForwardingRequest) (fs : List Forwarding) (serials : ℕ) (ws : List Waiting) : Type 0 where
  numbered : is_numbered 0 fs serials ≡ true
  stages : All (Awaits rs) fs
  fates : All (Unsettled (HasFate fs)) ws

serial-differs : (f : Forwarding) (n serial : ℕ) → f.serial ≡ n → (n == serial) ≡ false → f.serial ≡ serial → ⊥
serial-differs f n serial is isnt same = both_ways (n == serial) isnt (eq-eqb n serial (sym is ∙ same))

pub not-asked : (f : Forwarding) (serial : ℕ) → f.serial ≡ serial → is_listen_unanswered serial f ≡ false → asks_at f.stage ≡ false
not-asked f serial is e = second-part (f.serial == serial) (asks_at f.stage) (eq-eqb f.serial serial is) e

-- a success makes what is asked for live
opened : (port : Option ℕ) (serial at : ℕ) (fs : List Forwarding) (ws : List Waiting)
    (o : Option Forwarding) → find (is_listen_unanswered serial) fs ≡ o → All (Unsettled (HasFate fs)) ws
    → All (Unsettled (HasFate (map (forwarding_changed (change.Live port) serial) fs))) (opened_asks (live_outcome_in port o) serial at ws)
opened port serial at fs ws None e h =
    moved fs (map (forwarding_changed (change.Live port) serial) fs) ws
    (λ w fate. fate-changed (change.Live port) serial fs w fate
    (λ is. live-holds port w.opening fate.0 (λ _. not-asked fate.0 serial is (none-passes-in (is_listen_unanswered serial) fs fate.0 e fate.1)) fate.3)) h
opened port serial at fs ws (Some f) e h =
    all-unsettled (HasFate fs) (HasFate (map (forwarding_changed (change.Live port) serial) fs)) serial true at _ ws
    (λ w other none fate. fate-changed (change.Live port) serial fs w fate
    (λ is. live-holds port w.opening fate.0
    (λ opens. absurd (serial-differs fate.0 w.forwarding serial fate.2 (of-other serial true w opens other) is)) fate.3)) h

differs-listen : (n serial : ℕ) → (n == serial) ≡ false → Listen serial ≡ Listen n → ⊥
differs-listen n serial e is = let same : n ≡ serial = cc in both_ways (n == serial) e (eq-eqb n serial same)

differs-cancel : (n serial : ℕ) → (n == serial) ≡ false → Cancel serial ≡ Cancel n → ⊥
differs-cancel n serial e is = let same : n ≡ serial = cc in both_ways (n == serial) e (eq-eqb n serial same)

listen-cancel : (n m : ℕ) → Listen n ≡ Cancel m → ⊥
listen-cancel n m e = cc

cancel-listen : (n m : ℕ) → Cancel n ≡ Listen m → ⊥
cancel-listen n m e = cc

-- its own request isn't the one that is answered
not-this : (n serial : ℕ) (b : Bool) → ((n == serial) && b) ≡ false → b ≡ true → (n == serial) ≡ false
not-this n serial true e is = first-part (n == serial) e
not-this n serial false e is = cc

not-cancelled : (f : Forwarding) (serial : ℕ) → forwarding_outcome_of f ≡ None → is_cancelled serial f ≡ false
not-cancelled f serial none = and-second (f.serial == serial) (cancels_at f.stage) (unserved f.stage f.listen_port none)

stays-uncancelled : (opening : Bool) (f : Forwarding) (w : Waiting) (serial : ℕ) → w.opening ≡ opening → f.serial ≡ w.forwarding
    → Holds opening f → is_ask_about serial false w ≡ false → is_cancelled serial f ≡ false
stays-uncancelled true f w serial opens is holds other = not-cancelled f serial holds
stays-uncancelled false f w serial opens is holds other = not-its f.serial serial (cancels_at f.stage)
    (serial-differs f w.forwarding serial is (of-other serial false w opens other))

stay-fate : (opening : Bool) (f : Forwarding) (w : Waiting) (serial : ℕ) → w.opening ≡ opening → f.serial ≡ w.forwarding
    → f.serial ≡ serial → Holds opening f → is_ask_about serial false w ≡ false
    → Holds opening (record f { stage = listener_stage_after change.Stay f.listen_port f.stage; closing = false })
stay-fate true f w serial opens is its holds other = stay-holds f false holds
stay-fate false f w serial opens is its holds other =
    absurd (serial-differs f w.forwarding serial is (of-other serial false w opens other) its)

replied : (success : Bool) (r : ForwardingRequest) (port : Option ℕ) (at serials : ℕ) (rs : List ForwardingRequest) (fs : List Forwarding)
    (ws : List Waiting) → is_numbered 0 fs serials ≡ true → All (Awaits (r ∷ rs)) fs → All (Unsettled (HasFate fs)) ws
    → Replied rs (replied_all success port (Some r) fs) serials (replied_asks success port (Some r) fs at ws)
replied true (Listen serial) port at serials rs fs ws n h k = record {
  numbered = numbered-changed (change.Live port) serial fs serials n;
  stages = all-awaits (change.Live port) serial (Listen serial ∷ rs) rs fs
      (λ f is a. live-awaits f.stage port f.listen_port f.serial serial rs a)
      (λ f isnt a. other-awaits f.stage f.serial (Listen serial) rs (λ _ e. differs-listen f.serial serial isnt e)
      (λ _ e. listen-cancel serial f.serial e) a) h;
  fates = opened port serial at fs ws (find (is_listen_unanswered serial) fs) refl k;
}
replied false (Listen serial) port at serials rs fs ws n h k =
    let o = position (is_listen_unanswered serial) fs in
    record {
      numbered = numbered-removed o fs serials n;
      stages = all-both (λ (f : Forwarding). is_listen_unanswered serial f ≡ false) (Awaits (Listen serial ∷ rs)) (Awaits rs) (removed_at o fs)
          (λ f isnt a. other-awaits f.stage f.serial (Listen serial) rs
          (λ asks e. differs-listen f.serial serial (not-this f.serial serial (asks_at f.stage) isnt asks) e)
          (λ _ e. listen-cancel serial f.serial e) a)
          (all-left (λ f. asks_at f.stage) serial fs serials o refl n)
          (all-removed (Awaits (Listen serial ∷ rs)) o fs h);
      fates = all-unrefused (HasFate fs) (HasFate (removed_at o fs)) serial at ws
          (λ w one two none fate. (
            fate.0,
            fate-left (is_listen_unanswered serial) fs o fate.0 refl
                (not-its fate.0.serial serial (asks_at fate.0.stage)
                (serial-differs fate.0 w.forwarding serial fate.2 (of-neither serial w one two))) fate.1,
            fate.2,
            fate.3,
          )) k;
    }
replied true (Cancel serial) port at serials rs fs ws n h k =
    let o = position (is_cancelled serial) fs in
    record {
      numbered = numbered-removed o fs serials n;
      stages = all-both (λ (f : Forwarding). is_cancelled serial f ≡ false) (Awaits (Cancel serial ∷ rs)) (Awaits rs) (removed_at o fs)
          (λ f isnt a. other-awaits f.stage f.serial (Cancel serial) rs (λ _ e. cancel-listen serial f.serial e)
          (λ cancels e. differs-cancel f.serial serial (not-this f.serial serial (cancels_at f.stage) isnt cancels) e) a)
          (all-left (λ f. cancels_at f.stage) serial fs serials o refl n)
          (all-removed (Awaits (Cancel serial ∷ rs)) o fs h);
      fates = all-unsettled (HasFate fs) (HasFate (removed_at o fs)) serial false at Done ws
          (λ w other none fate. (
            fate.0,
            fate-left (is_cancelled serial) fs o fate.0 refl
                (stays-uncancelled w.opening fate.0 w serial refl fate.2 fate.3 other) fate.1,
            fate.2,
            fate.3,
          )) k;
    }
replied false (Cancel serial) port at serials rs fs ws n h k =
    let new = map (forwarding_changed change.Stay serial) fs in
    record {
      numbered = numbered-changed change.Stay serial fs serials n;
      stages = all-awaits change.Stay serial (Cancel serial ∷ rs) rs fs
          (λ f is a. stay-awaits f.stage f.listen_port f.serial serial rs a)
          (λ f isnt a. other-awaits f.stage f.serial (Cancel serial) rs (λ _ e. cancel-listen serial f.serial e)
          (λ _ e. differs-cancel f.serial serial isnt e) a) h;
      fates = all-unsettled (HasFate fs) (HasFate new) serial false at Refused ws
          (λ w other none fate. fate-changed change.Stay serial fs w fate
          (λ is. stay-fate w.opening fate.0 w serial refl fate.2 is fate.3 other)) k;
    }

replied-by : (success : Bool) (port : Option ℕ) (old : ForwardingState) (rs : List ForwardingRequest) → old.requests ≡ rs → Tracks old
    → Replied (drop 1 rs) (replied_all success port (first_forwarding_request rs) old.all) old.serials
    (replied_asks success port (first_forwarding_request rs) old.all old.done old.waiting)
replied-by success port old [] e t = record {
  numbered = t.numbered;
  stages = subst (λ (rs : List ForwardingRequest). All (Awaits rs) old.all) e t.stages;
  fates = moved old.all old.all old.waiting (λ w h. h) t.fates;
}
replied-by success port old (r ∷ rs) e t =
    replied success r port old.done old.serials rs old.all old.waiting t.numbered
    (subst (λ (qs : List ForwardingRequest). All (Awaits qs) old.all) e t.stages) t.fates

after-reply : (success : Bool) (port : Option ℕ) (old new : ForwardingState) → Tracks old → new ≡ reply_received success port old
    → Tracks new
after-reply success port old new t e =
    let r = replied-by success port old old.requests refl t in
    let got : Tracks (reply_received success port old) =
    record { numbered = r.numbered; stages = r.stages; fates = r.fates } in
    subst (λ (d : ForwardingState). Tracks d) (sym e) got

-- ---- a listener is ordered

pub same-place : (fs : List Forwarding) (i j : ℕ) (g : Forwarding) → position to_listen fs ≡ Some i → to_listen g ≡ true
    → position to_listen (set fs i g) ≡ Some j → j ≡ i
same-place fs i j g e is f =
    let one = position-Some to_listen fs i g e in
    let two = position-Some to_listen (set fs i g) j g f in
    let inside : i < length fs = one.0 in
    elim (cases_lt j i) [
      | inl low ↦ (let same : get_or (set fs i g) j g ≡ get_or fs j g = grind (arith, common_steps) in
          absurd (both_ways (to_listen (get_or fs j g)) (one.2 j low) (subst (λ (x : Forwarding). to_listen x ≡ true) same two.1)))
      | inr high ↦ elim (cases_lt i j) [
        | inl above ↦ (let its : get_or (set fs i g) i g ≡ g = grind (arith, common_steps) in
            absurd (both_ways (to_listen g) (subst (λ (x : Forwarding). to_listen x ≡ false) its (two.2 i above)) is))
        | inr below ↦ omega arith
      ]
    ]

-- what a listener that was ordered leaves, where it got its number or none
abbrev pub MadeOf : Option ℕ → ℕ → Forwarding → List Forwarding → List Forwarding → Type 0
MadeOf None i f old new = new ≡ remove old i
MadeOf (Some l) i f old new = new ≡ set old i (record f { stage = Listening l })

pub made-of : (number : Option ℕ) (i j : ℕ) (f : Forwarding) (old middle new : List Forwarding) → j ≡ i
    → middle ≡ set old i (record f { stage = Ordered }) → find to_listen middle ≡ Some (record f { stage = Ordered })
    → position to_listen middle ≡ Some j → MadeAt number j middle new → MadeOf number i f old new
made-of None i j f old middle new same e first at m =
    m ∙ ap (λ (n : ℕ). remove middle n) same ∙ ap (λ (xs : List Forwarding). remove xs i) e ∙ remove-set old i (record f { stage = Ordered })
made-of (Some l) i j f old middle new same e first at m =
    let it = placed (λ (x : Forwarding). Unit {0}) to_listen middle j m.0 at m.1 (λ k d lt. tt) in
    let its : record f { stage = Ordered } ≡ m.0 = same-one-found (record f { stage = Ordered }) m.0 (sym first ∙ it.2) in
    m.2 ∙ ap (λ (x : Forwarding). set middle j (record x { stage = Listening l })) (sym its)
    ∙ ap (λ (n : ℕ). set middle n (record f { stage = Listening l })) same
    ∙ ap (λ (xs : List Forwarding). set xs i (record f { stage = Listening l })) e
    ∙ set-set old i (record f { stage = Ordered }) (record f { stage = Listening l })

-- what a listener leaves that was ordered and got its number, or none, one after the other
pub record ListenerMade (number : Option ℕ) (old new : ForwardingState) : Type 0 where
  pub place : ℕ
  pub forwarding : Forwarding
  pub done : ℕ
  pub first : position to_listen old.all ≡ Some place
  pub is : forwarding ≡ get_or old.all place forwarding
  pub made : MadeOf number place forwarding old.all new.all
  pub waiting : new.waiting ≡ ordered_asks number forwarding.serial done old.waiting
  pub requests : new.requests ≡ old.requests
  pub serials : new.serials ≡ old.serials

pub listener-made : (host : List ℕ) (port : ℕ) (number : Option ℕ) (old new : ForwardingState) → GetsListener host port number old new
    → ListenerMade number old new
listener-made host port number old new h =
    let b = h.between in
    let f = h.orders.ordered.0 in
    let g : Forwarding = record f { stage = Ordered } in
    let i = h.orders.place in
    let m = h.makes.others in
    let s = h.orders.others in
    let first : find to_listen b.all ≡ Some g =
    ap (λ (fs : List Forwarding). find to_listen fs) h.orders.ordered.2 ∙ first-ordered old.all i f h.orders.first in
    let same : h.makes.place ≡ i = same-place old.all i h.makes.place g h.orders.first refl
    (subst (λ (fs : List Forwarding). position to_listen fs ≡ Some h.makes.place) h.orders.ordered.2 h.makes.first) in
    record {
      place = i;
      forwarding = f;
      done = b.done;
      first = h.orders.first;
      is = h.orders.ordered.1;
      made = made-of number i h.makes.place f old.all b.all new.all same h.orders.ordered.2 first h.makes.first h.makes.made;
      waiting = ap (λ (d : ForwardingState). d.waiting) m
          ∙ ap (λ (x : Option Forwarding). ordered_asks number (serial_of x) b.done b.waiting) first
          ∙ ap (λ (ws : List Waiting). ordered_asks number f.serial b.done ws) (ap (λ (d : ForwardingState). d.waiting) s);
      requests = ap (λ (d : ForwardingState). d.requests) m ∙ ap (λ (d : ForwardingState). d.requests) s;
      serials = ap (λ (d : ForwardingState). d.serials) m ∙ ap (λ (d : ForwardingState). d.serials) s;
    }

-- a request to close keeps its forwarding as that gets its listener
made-fate : (opening : Bool) (l i : ℕ) (f x : Forwarding) (old : List Forwarding) (w : Waiting) → w.opening ≡ opening
    → i < length old → is_ask_about f.serial true w ≡ false → x.serial ≡ w.forwarding → Holds opening x → x ≡ f
    → (y : Forwarding) × In y (set old i (record f { stage = Listening l })) × (y.serial ≡ w.forwarding) × Holds opening y
made-fate true l i f x old w opens inside other is holds same =
    absurd (serial-differs x w.forwarding f.serial is (of-other f.serial true w opens other) (ap (λ (z : Forwarding). z.serial) same))
made-fate false l i f x old w opens inside other is holds same = (
  record f { stage = Listening l },
  in-set_new old i (record f { stage = Listening l }) inside,
  ap (λ (z : Forwarding). z.serial) (sym same) ∙ is,
  ap (λ (z : Forwarding). z.closing) (sym same) ∙ holds,
)

made : (number : Option ℕ) (rs : List ForwardingRequest) (serials at i : ℕ) (f : Forwarding) (old new : List Forwarding)
    (ws : List Waiting) → position to_listen old ≡ Some i → f ≡ get_or old i f → MadeOf number i f old new
    → is_numbered 0 old serials ≡ true → All (Awaits rs) old → All (Unsettled (HasFate old)) ws
    → Replied rs new serials (ordered_asks number f.serial at ws)
made None rs serials at i f old new ws first is m n h k =
    let inside = (position-Some to_listen old i f first).0 in
    subst (λ (xs : List Forwarding). Replied rs xs serials (ordered_asks None f.serial at ws)) (sym m) (record {
      numbered = numbered-remove old i serials n;
      stages = all-remove (Awaits rs) old i h;
      fates = all-unrefused (HasFate old) (HasFate (remove old i)) f.serial at ws
          (λ w one two none fate. (
            fate.0,
            in-remove (λ (x : Forwarding). x.serial == f.serial) fate.0 old i f inside
                (eq-eqb (get_or old i f).serial f.serial (ap (λ (x : Forwarding). x.serial) (sym is)))
                (ap (λ b. b == f.serial) fate.2 ∙ of-neither f.serial w one two) fate.1,
            fate.2,
            fate.3,
          )) k;
    })
made (Some l) rs serials at i f old new ws first is m n h k =
    let inside = (position-Some to_listen old i f first).0 in
    let g : Forwarding = record f { stage = Listening l } in
    subst (λ (xs : List Forwarding). Replied rs xs serials (ordered_asks (Some l) f.serial at ws)) (sym m) (record {
      numbered = numbered-first to_listen old i g f serials first is refl n;
      stages = All-set (Awaits rs) old i g tt h;
      fates = all-unsettled (HasFate old) (HasFate (set old i g)) f.serial true at Done ws
          (λ w other none fate. elim (in-set fate.0 old i g f inside fate.1) [
            | inl stays ↦ (fate.0, stays, fate.2, fate.3)
            | inr its ↦ made-fate w.opening l i f fate.0 old w refl inside other fate.2 fate.3 (its ∙ sym is)
          ]) k;
    })

after-listen : (host : List ℕ) (port : ℕ) (number : Option ℕ) (old new : ForwardingState) → Tracks old
    → GetsListener host port number old new → Tracks new
after-listen host port number old new t h =
    let l = listener-made host port number old new h in
    let r = made number old.requests old.serials l.done l.place l.forwarding old.all new.all old.waiting l.first l.is l.made
    t.numbered t.stages t.fates in
    record {
      numbered = subst (λ (n : ℕ). is_numbered 0 new.all n ≡ true) (sym l.serials) r.numbered;
      stages = subst (λ (rs : List ForwardingRequest). All (Awaits rs) new.all) (sym l.requests) r.stages;
      fates = subst (λ (ws : List Waiting). All (Unsettled (HasFate new.all)) ws) (sym l.waiting) r.fates;
    }

-- ---- a listener is closed

has-it : (l : ℕ) (s : Stage) (n : ℕ) → is_listener l (listener_at s) ≡ true → (outcome_at s n ≡ None → ⊥) × (listener_at s ≡ Some l)
has-it l (ToListen host) n e = cc
has-it l Ordered n e = cc
has-it l (Listening k) n e = (λ none. cc, ap (λ x. Some x) (eqb-true k l e))
has-it l ToRequest n e = cc
has-it l Requested n e = cc
has-it l (Live port) n e = cc
has-it l (Cancelling port) n e = cc

-- one that a request waits for has another listener, or none
lacks-it : (opening : Bool) (l : ℕ) (all : List Forwarding) (serial : ℕ) (f : Forwarding) (w : Waiting) → w.opening ≡ opening
    → ((k : ℕ) (x y : Forwarding) → In x all → In y all → listener_of x ≡ Some k → listener_of y ≡ Some k → x.serial ≡ y.serial)
    → Closing (λ x. In x all) serial l → In f all → f.serial ≡ w.forwarding → Holds opening f → is_ask_about serial false w ≡ false
    → has_listener l f ≡ false
lacks-it true l all serial f w opens one c here is holds other = elim (cases_Bool (has_listener l f)) [
  | inl has ↦ absurd ((has-it l f.stage f.listen_port has).0 holds)
  | inr lacks ↦ lacks
]
lacks-it false l all serial f w opens one c here is holds other = elim (cases_Bool (has_listener l f)) [
  | inl has ↦ absurd (serial-differs f w.forwarding serial is (of-other serial false w opens other)
      (one l f c.f here c.holds (has-it l f.stage f.listen_port has).1 (ap listener_at c.stage_is) ∙ c.serial_is))
  | inr lacks ↦ lacks
]

after-unlisten : (l : ℕ) (forwarder_events : List ForwarderEvent) (old new : ForwardingState) → Leave forwarder_events old → Tracks old → EndsListener l old new
    → Tracks new
after-unlisten l forwarder_events old new left t h =
    let one = one-each forwarder_events old left in
    let keep : Forwarding → Bool = λ f. not (has_listener l f) in
    let kept = filter keep old.all in
    let c = next-closing (λ (x : Forwarding). In x old.all) old.waiting old.all h.serial l (all-in (λ (x : Forwarding). In x old.all) old.all (λ x k. k)) h.next in
    let to : ForwardingState = record old {
      all = kept;
      waiting = requests_settled h.serial false old.done Done old.waiting;
      done = one_more_outcome old.done;
    } in
    let got : Tracks to = record {
      numbered = numbered-filter keep old.all old.serials t.numbered;
      stages = All-filter keep (Awaits old.requests) old.all t.stages;
      fates = all-unsettled (HasFate old.all) (HasFate kept) h.serial false old.done Done old.waiting
          (λ w other none fate. (
            fate.0,
            in-filter keep fate.0 old.all
                (rw (lacks-it w.opening l old.all h.serial fate.0 w refl one c fate.1 fate.2 fate.3 other) refl) fate.1,
            fate.2,
            fate.3,
          )) t.fates;
    } in
    subst (λ (d : ForwardingState). Tracks d) (sym h.others) got

-- ---- by all that happened

after : (forwarder_event : ForwarderEvent) (forwarder_events : List ForwarderEvent) (old new : ForwardingState) → Leave forwarder_events old → Tracks old → Does forwarder_event old new → Tracks new
after (Begins starts) forwarder_events old new left t d = after-start starts old new t d
after (Asks client id opening ask answer) forwarder_events old new left t d = after-ask client id opening ask answer old new t d
after (Answers client id answer) forwarder_events old new left t d = after-answering client id answer old new t d
after Greets forwarder_events old new left t d = after-greeting old new t d.1
after (Requests f) forwarder_events old new left t d = after-request f old new t d.2
after (Replies success port) forwarder_events old new left t d = after-reply success port old new t d
after (Listens host port number) forwarder_events old new left t d = after-listen host port number old new t d
after (Unlistens l) forwarder_events old new left t d = after-unlisten l forwarder_events old new left t d

tracks-nothing : Tracks empty_forwarding_state
tracks-nothing = record { numbered = refl; stages = All-nil (Awaits []); fates = All-nil (Unsettled (HasFate [])) }

pub tracks : (forwarder_events : List ForwarderEvent) (forwarding_state : ForwardingState) → Leave forwarder_events forwarding_state → Tracks forwarding_state
tracks [] forwarding_state left = subst (λ (d : ForwardingState). Tracks d) (sym left) tracks-nothing
tracks (forwarder_event ∷ forwarder_events) forwarding_state left = after forwarder_event forwarder_events left.0 forwarding_state left.1 (tracks forwarder_events left.0 left.1) left.2

-- ---- their listeners

pub listeners-differ : ListenersDiffer
listeners-differ forwarder_events d left =
    pairs (listeners_of d.all) (apart-listeners d.all 0 d.serials (tracks forwarder_events d left).numbered (one-each forwarder_events d left))

-- ---- at rest

unsettled : (o : Option (ℕ × RequestOutcome)) → is_settled o ≡ false → o ≡ None
unsettled None e = refl
unsettled (Some x) e = cc

-- each has its fate
all-fates : (all : List Forwarding) (ws : List Waiting) → All (Unsettled (HasFate all)) ws
    → list_any has_outcome ws ≡ false → All (HasFate all) ws
all-fates all [] h e = All-nil (HasFate all)
all-fates all (w ∷ ws) h e =
    let both = or_parts (has_outcome w) (list_any has_outcome ws) e in
    All-cons (HasFate all) w ws (All-head (Unsettled (HasFate all)) w ws h (unsettled w.outcome both.0))
    (all-fates all ws (All-tail (Unsettled (HasFate all)) w ws h) both.1)

-- none that asked for it waits where it has its listener
owes-if : (opening : Bool) (fs : List Forwarding) (serials l : ℕ) (g f : Forwarding) (w : Waiting) → w.opening ≡ opening
    → is_numbered 0 fs serials ≡ true → In g fs → g.stage ≡ Listening l → In f fs → f.serial ≡ w.forwarding → Holds opening f
    → ((w.forwarding == g.serial) && opening) ≡ false
owes-if true fs serials l g f w opens n here is there its holds =
    not-its w.forwarding g.serial true (λ same.
    let one : f ≡ g = one-serial fs f g 0 serials n there here (its ∙ same) in
    let none : outcome_at (Listening l) g.listen_port ≡ None =
    subst (λ (s : Stage). outcome_at s g.listen_port ≡ None) is (subst (λ (x : Forwarding). forwarding_outcome_of x ≡ None) one holds) in cc)
owes-if false fs serials l g f w opens n here is there its holds = and-second (w.forwarding == g.serial) false refl

owes-one : (fs : List Forwarding) (serials l : ℕ) (g : Forwarding) (w : Waiting) → is_numbered 0 fs serials ≡ true → In g fs
    → g.stage ≡ Listening l → HasFate fs w → ((w.forwarding == g.serial) && w.opening) ≡ false
owes-one fs serials l g w n here is fate = owes-if w.opening fs serials l g fate.0 w refl n here is fate.1 fate.2 fate.3

owes-none : (fs : List Forwarding) (serials l : ℕ) (g : Forwarding) (ws : List Waiting) → is_numbered 0 fs serials ≡ true
    → In g fs → g.stage ≡ Listening l → All (HasFate fs) ws → owes_opening g.serial ws ≡ false
owes-none fs serials l g [] n here is h = refl
owes-none fs serials l g (w ∷ ws) n here is h =
    or_from ((w.forwarding == g.serial) && w.opening) (owes_opening g.serial ws)
    (owes-one fs serials l g w n here is (All-head (HasFate fs) w ws h))
    (owes-none fs serials l g ws n here is (All-tail (HasFate fs) w ws h))

-- where there is nothing to order, none is to listen, and none with a listener closes
abbrev pub Rests : Stage → Bool → Type 0
Rests (ToListen host) closing = ⊥
Rests Ordered closing = ⊥
Rests (Listening l) closing = closing ≡ false
Rests ToRequest closing = Unit {0}
Rests Requested closing = Unit {0}
Rests (Live port) closing = Unit {0}
Rests (Cancelling port) closing = Unit {0}

ends-none : (owes : Bool) (n l : ℕ) (P : Type 0) → owes ≡ false → (if owes then None else Some (want.Unlisten n l)) ≡ None → P
ends-none true n l P e f = cc
ends-none false n l P e f = cc

ends-rest : (closing : Bool) (l serial : ℕ) (ws : List Waiting) (next : Option ForwardingWant) → owes_opening serial ws ≡ false
    → forwarding_ends_at l closing serial ws next ≡ None → (closing ≡ false) × (next ≡ None)
ends-rest true l serial ws next owes e = ends-none (owes_opening serial ws) serial l ((true ≡ false) × (next ≡ None)) owes e
ends-rest false l serial ws next owes e = (refl, e)

next-rest : (s : Stage) (closing : Bool) (serial : ℕ) (ws : List Waiting) (rs : List ForwardingRequest) (next : Option ForwardingWant)
    → ((l : ℕ) → s ≡ Listening l → owes_opening serial ws ≡ false) → StageAwaits s serial rs → next_at s closing serial ws next ≡ None
    → Rests s closing × (next ≡ None)
next-rest (ToListen host) closing serial ws rs next owes a e = cc
next-rest Ordered closing serial ws rs next owes a e = absurd a
next-rest (Listening l) closing serial ws rs next owes a e = ends-rest closing l serial ws next (owes l refl) e
next-rest ToRequest closing serial ws rs next owes a e = (tt, e)
next-rest Requested closing serial ws rs next owes a e = (tt, e)
next-rest (Live port) closing serial ws rs next owes a e = (tt, e)
next-rest (Cancelling port) closing serial ws rs next owes a e = (tt, e)

pub all-rest : (all : List Forwarding) (serials : ℕ) (rs : List ForwardingRequest) (ws : List Waiting) (fs : List Forwarding)
    → is_numbered 0 all serials ≡ true → All (HasFate all) ws → ((f : Forwarding) → In f fs → In f all) → All (Awaits rs) fs
    → next_listener_order ws fs ≡ None → (f : Forwarding) → In f fs → Rests f.stage f.closing
all-rest all serials rs ws [] n fates within h e f here = absurd here
all-rest all serials rs ws (g ∷ fs) n fates within h e f here =
    let one = next-rest g.stage g.closing g.serial ws rs (next_listener_order ws fs)
    (λ l is. owes-none all serials l g ws n (within g (inl refl)) is fates) (All-head (Awaits rs) g fs h) e in
    elim here [
      | inl same ↦ subst (λ (x : Forwarding). Rests x.stage x.closing) same one.0
      | inr later ↦ all-rest all serials rs ws fs n fates (λ x k. within x (inr k)) (All-tail (Awaits rs) g fs h) one.1 f later
    ]

-- what a request then waits for
waits-opening : (s : Stage) (n asked : ℕ) (closing : Bool) (rs : List ForwardingRequest) → outcome_at s asked ≡ None → Rests s closing
    → requests_at s closing ≡ false → StageAwaits s n rs → In (Listen n) rs ⊎ In (Cancel n) rs
waits-opening (ToListen host) n asked closing rs none rests says a = absurd rests
waits-opening Ordered n asked closing rs none rests says a = absurd rests
waits-opening (Listening l) n asked closing rs none rests says a = cc
waits-opening ToRequest n asked closing rs none rests says a = cc
waits-opening Requested n asked closing rs none rests says a = inl a
waits-opening (Live port) n asked closing rs none rests says a = cc
waits-opening (Cancelling port) n asked closing rs none rests says a = cc

waits-closing : (s : Stage) (n : ℕ) (closing : Bool) (rs : List ForwardingRequest) → closing ≡ true → Rests s closing
    → requests_at s closing ≡ false → StageAwaits s n rs → In (Listen n) rs ⊎ In (Cancel n) rs
waits-closing (ToListen host) n closing rs closes rests says a = absurd rests
waits-closing Ordered n closing rs closes rests says a = absurd rests
waits-closing (Listening l) n closing rs closes rests says a = absurd (both_ways closing rests closes)
waits-closing ToRequest n closing rs closes rests says a = cc
waits-closing Requested n closing rs closes rests says a = inl a
waits-closing (Live port) n closing rs closes rests says a = absurd (both_ways closing says closes)
waits-closing (Cancelling port) n closing rs closes rests says a = inr a

waits-for : (opening : Bool) (f : Forwarding) (rs : List ForwardingRequest) → Holds opening f → Rests f.stage f.closing
    → has_request f ≡ false → Awaits rs f → In (Listen f.serial) rs ⊎ In (Cancel f.serial) rs
waits-for true f rs holds rests says a = waits-opening f.stage f.serial f.listen_port f.closing rs holds rests says a
waits-for false f rs holds rests says a = waits-closing f.stage f.serial f.closing rs holds rests says a

awaits-one : (d : ForwardingState) (w : Waiting) (f : Forwarding) → f.serial ≡ w.forwarding
    → In (Listen f.serial) d.requests ⊎ In (Cancel f.serial) d.requests → AwaitsReply d.requests w
awaits-one d w f is (inl h) = inl (subst (λ (n : ℕ). Contains d.requests (Listen n)) is (in-contains (Listen f.serial) d.requests h))
awaits-one d w f is (inr h) = inr (subst (λ (n : ℕ). Contains d.requests (Cancel n)) is (in-contains (Cancel f.serial) d.requests h))

pub fates-at-rest : (d : ForwardingState) → Tracks d → ForwarderIsAtRest d → All (HasFate d.all) d.waiting
fates-at-rest d t rest =
    all-fates d.all d.waiting t.fates (not-true (list_any has_outcome d.waiting) rest.answers)

awaits-by : (d : ForwardingState) (w : Waiting) → Tracks d → ForwarderIsAtRest d → HasFate d.all w → AwaitsReply d.requests w
awaits-by d w t rest fate = awaits-one d w fate.0 fate.2 (waits-for w.opening fate.0 d.requests fate.3
    (all-rest d.all d.serials d.requests d.waiting d.all t.numbered (fates-at-rest d t rest) (λ f h. h) t.stages rest.orders
    fate.0 fate.1)
    (none-passes-in has_request d.all fate.0 rest.says fate.1)
    (in-all (Awaits d.requests) fate.0 d.all t.stages fate.1))

pub each-awaits : EachAwaits
each-awaits forwarder_events d left rest =
    let t = tracks forwarder_events d left in
    All-weaker (HasFate d.all) (AwaitsReply d.requests) (λ w fate. awaits-by d w t rest fate) d.waiting (fates-at-rest d t rest)
