-- Each forwarding of the start was refused or has begun, once the forwarder is at rest.
use Rattle.std.proofs.Common.{◌≡◌, ◌∙◌, refl, sym, ap, subst, arith, ℕ, zero, suc, ◌<◌, ◌≤◌, Bool, true, false, List, [], ◌∷◌, ◌++◌, length, get_or, set, map, filter, Option, Some, None, inl, inr}
use Rattle.std.specs.Prelude.{◌⊎◌, ◌==◌, ◌&&◌, not, nat_lt, find, slice_get, if◌then◌else◌}
use Rattle.std.specs.List.{position, remove}
use Rattle.std.proofs.lemmas.Bool.{and_parts, cases_Bool, cases_lt, eqb-true, eq-eqb}
use Rattle.std.proofs.lemmas.List.Quantifiers.{position-Some}
use Rattle.mux_outside.specs.declared.start_ask.StartAsk.{StartAsk}
use Rattle.mux_outside.specs.declared.starts.Starts.{Starts}
use Rattle.house_forward.specs.Asks.{turns_away}
use Rattle.house_forward.specs.Causes.{AreOne, IsFor, ForwarderIsAtRest}
use Rattle.house_forward.specs.ForwarderEvents.{ForwarderEvent, Does, Leave}
use Rattle.house_forward.specs.ForwarderEvents.{Begins, Asks, Answers, Greets, Requests, Replies, Listens, Unlistens}
use Rattle.house_forward.specs.ForwardingState.{ForwardingState, empty_forwarding_state, standing_at}
use Rattle.house_forward.specs.Forwardings.{first_refused, ask_refused_if, replied_refused, made_refused, forwarding_start_of, AskedAtStart as BeginsAt, StartsIf, Standing, OpensForwarding, is_first, has_request, requests_at, forwarding_request_of, after_request_sent, forwarding_changed, listener_stage_after, closing_after, standing, is_asked_or_live, how_many, listens_at, connects_same_end, opens_of, after_close, is_new, EndsLeave, ComesIf, ComesUnless, is_listen_unanswered, asks_at, is_cancelled, cancels_at, replied_all, removed_at, first_forwarding_request, to_listen, is_numbered, has_listener, is_listener, listener_at}
use Rattle.house_forward.specs.Rules.{AreEnds, is_ruled_out, rules_of}
use Rattle.house_forward.specs.Starting.{HasBegun, WasOrdered, WasRequested, WasRefused, WasServed, IsRecorded, EachStart}
use Rattle.house_forward.specs.declared.asks.ImmediateOutcome.{ImmediateOutcome as Comes}
use Rattle.house_forward.specs.declared.asks.ImmediateOutcome.TheVariants.{Now, Later}
use Rattle.house_forward.specs.declared.asks.RequestOutcome.TheVariants.{Done, Port, Refused}
use Rattle.house_forward.specs.declared.forwarding.Change.{Change}
use Rattle.house_forward.specs.declared.forwarding.Change.TheVariants as change
use Rattle.house_forward.specs.declared.forwarding.Forwarding.{Forwarding}
use Rattle.house_forward.specs.declared.forwarding.ForwardingRequest.{ForwardingRequest}
use Rattle.house_forward.specs.declared.forwarding.ForwardingRequest.TheVariants.{Listen, Cancel}
use Rattle.house_forward.specs.declared.forwarding.Stage.{Stage}
use Rattle.house_forward.specs.declared.forwarding.Stage.TheVariants.{ToListen, Ordered, Listening, ToRequest, Requested, Live, Cancelling}
use Rattle.house_forward.specs.declared.rules.Ends.{Ends}
use Rattle.house_forward.specs.declared.rules.ListenRules.{ListenRules}
use Rattle.house_forward.specs.declared.rules.TheConstants.{MOST_FORWARDINGS}
use Rattle.house_forward.proofs.Causing.{found, placed, request-is, in-range, there-is, itself, is-for, new-is-for, first-ordered}
use Rattle.house_forward.proofs.Members.{In, in-left, in-last, in-map, in-filter, in-remove, in-set, in-get, found-in}
use Rattle.house_forward.proofs.Resolving.{MadeOf, made-of, same-place, fate-left, none-passes-in, all-rest, fates-at-rest, tracks, Rests, and-second}
use Rattle.house_forward.proofs.Tracking.{Tracks, one-serial, changed-other}

-- ---- what is asked for at the start

-- one that waits to begin
pub record Pending (starts : Starts) (ask : StartAsk) (all : List Forwarding) : Type 0 where
  f : Forwarding
  here : In f all
  first : is_first f.stage ≡ true
  is_for : IsFor (rules_of starts) true ask f

-- one that was refused, and is recorded, or one before it is
abbrev pub Fails : Starts → ℕ → StartAsk → Option ℕ → Type 0
Fails starts i ask refused = WasRefused starts i ask × IsRecorded refused i

-- only those before are recorded
abbrev IsLow : Option ℕ → ℕ → Type 0
IsLow None i = Unit {0}
IsLow (Some first) i = first < i

recorded-first : (refused : Option ℕ) (i : ℕ) → IsLow refused i → IsRecorded (first_refused refused (Some i)) i
recorded-first None i low = omega arith
recorded-first (Some first) i low = omega (arith, low)

low-first : (refused : Option ℕ) (i : ℕ) → IsLow refused i → IsLow (first_refused refused (Some i)) (suc i)
low-first None i low = omega arith
low-first (Some first) i low = omega (arith, low)

low-more : (refused : Option ℕ) (i : ℕ) → IsLow refused i → IsLow refused (suc i)
low-more None i low = tt
low-more (Some first) i low = omega (arith, low)

recorded-still : (refused more : Option ℕ) (i : ℕ) → IsRecorded refused i → IsRecorded (first_refused refused more) i
recorded-still None more i recorded = absurd recorded
recorded-still (Some first) more i recorded = recorded

recorded-if : (comes : Comes) (i j : ℕ) (refused : Option ℕ) → IsRecorded refused j → IsRecorded (ask_refused_if comes i refused) j
recorded-if (Now Done) i j refused recorded = recorded
recorded-if (Now (Port port)) i j refused recorded = recorded
recorded-if (Now Refused) i j refused recorded = recorded-still refused (Some i) j recorded
recorded-if (Later serial) i j refused recorded = recorded

low-if : (comes : Comes) (i : ℕ) (refused : Option ℕ) → IsLow refused i → IsLow (ask_refused_if comes i refused) (suc i)
low-if (Now Done) i refused low = low-more refused i low
low-if (Now (Port port)) i refused low = low-more refused i low
low-if (Now Refused) i refused low = low-first refused i low
low-if (Later serial) i refused low = low-more refused i low

-- of so many
pub record StartsOn (starts : Starts) (i : ℕ) (now : Standing) : Type 0 where
  firsts : (f : Forwarding) → In f now.all → is_first f.stage ≡ true
  fates : (j : ℕ) (ask : StartAsk) → j < i → slice_get starts.asks j ≡ Some ask
      → Fails starts j ask now.refused ⊎ Pending starts ask now.all
  low : IsLow now.refused i

-- one that is asked for, by those before it
record One (starts : Starts) (i : ℕ) (ask : StartAsk) (refused : Option ℕ) (old new : List Forwarding) : Type 0 where
  keeps : (f : Forwarding) → In f old → In f new
  firsts : (f : Forwarding) → In f new → is_first f.stage ≡ true
  fate : Fails starts i ask refused ⊎ Pending starts ask new

pushed-first : (fs : List Forwarding) (g : Forwarding) → ((f : Forwarding) → In f fs → is_first f.stage ≡ true) → is_first g.stage ≡ true
    → (f : Forwarding) → In f (fs ++ g ∷ []) → is_first f.stage ≡ true
pushed-first [] g h e f (inl is) = subst (λ (x : Forwarding). is_first x.stage ≡ true) is e
pushed-first [] g h e f (inr no_more) = absurd no_more
pushed-first (x ∷ fs) g h e f (inl is) = h f (inl is)
pushed-first (x ∷ fs) g h e f (inr later) = pushed-first fs g (λ y k. h y (inr k)) e f later

same-all : (starts : Starts) (i : ℕ) (ask : StartAsk) (r : Option ℕ) (old new : List Forwarding) → ((f : Forwarding) → In f old → is_first f.stage ≡ true)
    → new ≡ old → Fails starts i ask r ⊎ Pending starts ask old → One starts i ask r old new
same-all starts i ask r old new firsts e fate =
    subst (λ (fs : List Forwarding). One starts i ask r old fs) (sym e) (record { keeps = λ f h. h; firsts = firsts; fate = fate })

room-if : (starts : Starts) (i : ℕ) (ask : StartAsk) (ends : Ends) (old new : Standing) (b : Bool)
    → ((f : Forwarding) → In f old.all → is_first f.stage ≡ true) → AreEnds (rules_of starts) ask ends
    → OpensForwarding b ends old.serials (Some i) old.all new.all → (b ≡ false → Fails starts i ask new.refused) → One starts i ask new.refused old.all new.all
room-if starts i ask ends old new true firsts are o refused =
    subst (λ (fs : List Forwarding). One starts i ask new.refused old.all fs) (sym o.2) (record {
      keeps = λ f h. in-left f old.all (o.0 ∷ []) h;
      firsts = pushed-first old.all o.0 firsts o.1.first;
      fate = inr (record {
        f = o.0;
        here = in-last o.0 old.all;
        first = o.1.first;
        is_for = new-is-for (rules_of starts) true ask ends old.serials (Some i) o.0 are o.1;
      });
    })
room-if starts i ask ends old new false firsts are o refused = same-all starts i ask new.refused old.all new.all firsts o (inl (refused refl))

connects-if : (starts : Starts) (i : ℕ) (ask : StartAsk) (ends : Ends) (f : Forwarding) (old : Standing) (r : Option ℕ) (b : Bool) → connects_same_end ends f ≡ b
    → ((g : Forwarding) → In g old.all → is_first g.stage ≡ true) → AreEnds (rules_of starts) ask ends → In f old.all
    → listens_at ends f ≡ true → (b ≡ false → Fails starts i ask r) → Fails starts i ask r ⊎ Pending starts ask old.all
connects-if starts i ask ends f old r true to firsts are here listens refused =
    inr (record { f = f; here = here; first = firsts f here; is_for = is-for (rules_of starts) true ask ends f f are (itself f) listens (λ _. to) })
connects-if starts i ask ends f old r false to firsts are here listens refused = inl (refused refl)

passes-found : (p : Forwarding → Bool) (x : Forwarding) (xs : List Forwarding) → find p xs ≡ Some x → p x ≡ true
passes-found p x xs e = (found (λ (y : Forwarding). Unit {0}) p xs x e (λ k d lt. tt)).1

opens-by : (starts : Starts) (i : ℕ) (ask : StartAsk) (ends : Ends) (old new : Standing) (o : Option Forwarding) → standing ends old.all ≡ o
    → BeginsAt (rules_of starts) starts.asks i (standing_at empty_forwarding_state) old → ((f : Forwarding) → In f old.all → is_first f.stage ≡ true)
    → AreEnds (rules_of starts) ask ends → OpensForwarding (is_new ends old.all o) ends old.serials (Some i) old.all new.all
    → (opens_of old.serials ends old.all o ≡ Now Refused → IsRecorded new.refused i) → One starts i ask new.refused old.all new.all
opens-by starts i ask ends old new None is before firsts are opens recorded =
    room-if starts i ask ends old new (nat_lt (how_many old.all) MOST_FORWARDINGS) firsts are opens (λ full. (
      record {
        stood = old;
        before = before;
        cause = inr (ends, are, ap (λ o. opens_of old.serials ends old.all o) is ∙ rw full refl);
      },
      recorded (rw full refl),
    ))
opens-by starts i ask ends old new (Some f) is before firsts are opens recorded =
    let test : Forwarding → Bool = λ g. is_asked_or_live g && listens_at ends g in
    let here = found-in test f old.all is in
    let passes = passes-found test f old.all is in
    same-all starts i ask new.refused old.all new.all firsts opens
    (connects-if starts i ask ends f old new.refused (connects_same_end ends f) refl firsts are here (and_parts (is_asked_or_live f) (listens_at ends f) passes).1
    (λ elsewhere. (
      record {
        stood = old;
        before = before;
        cause = inr (ends, are, ap (λ o. opens_of old.serials ends old.all o) is ∙ rw elsewhere refl);
      },
      recorded (rw elsewhere refl),
    )))

starts-one : (b : Bool) (starts : Starts) (i : ℕ) (ask : StartAsk) (old new : Standing) → is_ruled_out (rules_of starts) ask ≡ b
    → BeginsAt (rules_of starts) starts.asks i (standing_at empty_forwarding_state) old → ((f : Forwarding) → In f old.all → is_first f.stage ≡ true)
    → IsLow old.refused i → StartsIf b (rules_of starts) ask i old new → One starts i ask new.refused old.all new.all
starts-one true starts i ask old new e before firsts low s =
    same-all starts i ask new.refused old.all new.all firsts (ap (λ (t : Standing). t.all) s)
    (inl (
      record { stood = old; before = before; cause = inl e },
      subst (λ (o : Option ℕ). IsRecorded o i) (sym (ap (λ (t : Standing). t.refused) s)) (recorded-first old.refused i low),
    ))
starts-one false starts i ask old new e before firsts low s =
    opens-by starts i ask s.0 old new (standing s.0 old.all) refl before firsts s.1 s.2.all
    (λ is. subst (λ (o : Option ℕ). IsRecorded o i) (sym (s.2.refused ∙ ap (λ (c : Comes). ask_refused_if c i old.refused) is))
    (recorded-first old.refused i low))

keeps-fate : (starts : Starts) (j : ℕ) (ask : StartAsk) (r more : Option ℕ) (old new : List Forwarding)
    → ((f : Forwarding) → In f old → In f new) → (IsRecorded r j → IsRecorded more j)
    → Fails starts j ask r ⊎ Pending starts ask old → Fails starts j ask more ⊎ Pending starts ask new
keeps-fate starts j ask r more old new keeps records (inl f) = inl (f.0, records f.1)
keeps-fate starts j ask r more old new keeps records (inr p) = inr (record { f = p.f; here = keeps p.f p.here; first = p.first; is_for = p.is_for })

-- which one is recorded after one more
records-one : (b : Bool) (rules : ListenRules) (ask : StartAsk) (i j : ℕ) (old new : Standing) → StartsIf b rules ask i old new
    → IsRecorded old.refused j → IsRecorded new.refused j
records-one true rules ask i j old new s recorded =
    subst (λ (o : Option ℕ). IsRecorded o j) (sym (ap (λ (t : Standing). t.refused) s)) (recorded-still old.refused (Some i) j recorded)
records-one false rules ask i j old new s recorded =
    subst (λ (o : Option ℕ). IsRecorded o j) (sym s.2.refused) (recorded-if _ i j old.refused recorded)

low-one : (b : Bool) (rules : ListenRules) (ask : StartAsk) (i : ℕ) (old new : Standing) → StartsIf b rules ask i old new
    → IsLow old.refused i → IsLow new.refused (suc i)
low-one true rules ask i old new s low =
    subst (λ (o : Option ℕ). IsLow o (suc i)) (sym (ap (λ (t : Standing). t.refused) s)) (low-first old.refused i low)
low-one false rules ask i old new s low =
    subst (λ (o : Option ℕ). IsLow o (suc i)) (sym s.2.refused) (low-if _ i old.refused low)

same-some : (a b : StartAsk) (o : Option StartAsk) → o ≡ Some a → o ≡ Some b → a ≡ b
same-some a b o e f = let both : Some a ≡ Some b = sym e ∙ f in cc

pub begins : (starts : Starts) (i : ℕ) (now : Standing) → i ≤ length starts.asks
    → BeginsAt (rules_of starts) starts.asks i (standing_at empty_forwarding_state) now → StartsOn starts i now
begins starts zero now l b =
    subst (λ (t : Standing). StartsOn starts 0 t) (sym b) (record { firsts = λ f h. absurd h; fates = λ j ask lt is. absurd (omega arith); low = tt })
begins starts (suc i) now l b =
    let first = begins starts i b.0 (omega arith) b.1 in
    let at = in-range starts.asks i (omega arith) in
    let s = there-is (λ (ask : StartAsk). StartsIf (is_ruled_out (rules_of starts) ask) (rules_of starts) ask i b.0 now) (slice_get starts.asks i) at.0 at.1 b.2 in
    let one = starts-one (is_ruled_out (rules_of starts) at.0) starts i at.0 b.0 now refl b.1 first.firsts first.low s in
    record {
      firsts = one.firsts;
      fates = λ j ask lt is. elim (cases_lt j i) [
        | inl below ↦ keeps-fate starts j ask b.0.refused now.refused b.0.all now.all one.keeps
            (records-one (is_ruled_out (rules_of starts) at.0) (rules_of starts) at.0 i j b.0 now s) (first.fates j ask below is)
        | inr last ↦ (let same : j ≡ i = omega arith in
            let its : at.0 ≡ ask = same-some at.0 ask (slice_get starts.asks i) at.1 (ap (λ k. slice_get starts.asks k) (sym same) ∙ is) in
            subst (λ (k : ℕ). Fails starts k ask now.refused ⊎ Pending starts ask now.all) (sym same)
            (subst (λ (a : StartAsk). Fails starts i a now.refused ⊎ Pending starts a now.all) its one.fate))
      ];
      low = low-one (is_ruled_out (rules_of starts) at.0) (rules_of starts) at.0 i b.0 now s first.low;
    }

-- ---- what happens then

begun-later : (forwarder_event : ForwarderEvent) (forwarder_events : List ForwarderEvent) (f : Forwarding) → HasBegun f forwarder_events → HasBegun f (forwarder_event ∷ forwarder_events)
begun-later forwarder_event forwarder_events f (WasOrdered number later earlier e) = WasOrdered number (forwarder_event ∷ later) earlier (ap (λ ds. forwarder_event ∷ ds) e)
begun-later forwarder_event forwarder_events f (WasRequested first later earlier e one is) =
    WasRequested first (forwarder_event ∷ later) earlier (ap (λ ds. forwarder_event ∷ ds) e) one is

-- it waits to begin, or has begun
abbrev Fate : Starts → StartAsk → List ForwarderEvent → List Forwarding → Type 0
Fate starts ask forwarder_events all = Pending starts ask all ⊎ WasServed starts ask forwarder_events

served-later : (starts : Starts) (ask : StartAsk) (forwarder_event : ForwarderEvent) (forwarder_events : List ForwarderEvent) → WasServed starts ask forwarder_events → WasServed starts ask (forwarder_event ∷ forwarder_events)
served-later starts ask forwarder_event forwarder_events s =
    record { forwarding = s.forwarding; is_for = s.is_for; begun = begun-later forwarder_event forwarder_events s.forwarding s.begun }

abbrev IsNoRequest : Change → Type 0
IsNoRequest change.Close = Unit {0}
IsNoRequest change.ForwardingRequest = ⊥
IsNoRequest change.Cancel = Unit {0}
IsNoRequest (change.Live port) = Unit {0}
IsNoRequest change.Stay = Unit {0}

first-stays : (c : Change) (asked : ℕ) (s : Stage) → IsNoRequest c → is_first s ≡ true → is_first (listener_stage_after c asked s) ≡ true
first-stays c asked (ToListen host) k e = refl
first-stays c asked Ordered k e = cc
first-stays c asked (Listening l) k e = cc
first-stays change.Close asked ToRequest k e = refl
first-stays change.ForwardingRequest asked ToRequest k e = absurd k
first-stays change.Cancel asked ToRequest k e = refl
first-stays (change.Live port) asked ToRequest k e = refl
first-stays change.Stay asked ToRequest k e = refl
first-stays c asked Requested k e = cc
first-stays c asked (Live port) k e = cc
first-stays c asked (Cancelling port) k e = cc

pending-if : (starts : Starts) (ask : StartAsk) (c : Change) (f : Forwarding) (b : Bool) (all : List Forwarding) → IsNoRequest c
    → is_first f.stage ≡ true → IsFor (rules_of starts) true ask f
    → In (if b then record f { stage = listener_stage_after c f.listen_port f.stage; closing = closing_after c f.closing } else f) all
    → Pending starts ask all
pending-if starts ask c f true all k first is here = record {
  f = record f { stage = listener_stage_after c f.listen_port f.stage; closing = closing_after c f.closing };
  here = here;
  first = first-stays c f.listen_port f.stage k first;
  is_for = record { kind = is.kind; listens = is.listens; listen_port = is.listen_port; connects = is.connects };
}
pending-if starts ask c f false all k first is here = record { f = f; here = here; first = first; is_for = is }

pending-changed : (starts : Starts) (ask : StartAsk) (c : Change) (serial : ℕ) (all : List Forwarding) → IsNoRequest c
    → Pending starts ask all → Pending starts ask (map (forwarding_changed c serial) all)
pending-changed starts ask c serial all k p =
    pending-if starts ask c p.f (p.f.serial == serial) (map (forwarding_changed c serial) all) k p.first p.is_for (in-map (forwarding_changed c serial) p.f all p.here)

pending-in : (starts : Starts) (ask : StartAsk) (old new : List Forwarding) (p : Pending starts ask old) → In p.f new → Pending starts ask new
pending-in starts ask old new p here = record { f = p.f; here = here; first = p.first; is_for = p.is_for }

pending-all : (starts : Starts) (ask : StartAsk) (old new : List Forwarding) → new ≡ old → Pending starts ask old → Pending starts ask new
pending-all starts ask old new e p = subst (Pending starts ask) (sym e) p

-- what a request leaves: the same, or one more, or one that closes
abbrev AskLeaves : List Forwarding → List Forwarding → Type 0
AskLeaves old new = (new ≡ old) ⊎ (((g : Forwarding) × (new ≡ old ++ g ∷ [])) ⊎ ((serial : ℕ) × (new ≡ map (forwarding_changed change.Close serial) old)))

closes-leave : (comes : Comes) (old new : List Forwarding) → new ≡ after_close comes old → AskLeaves old new
closes-leave (Now o) old new e = inl e
closes-leave (Later serial) old new e = inr (inr (serial, e))

opens-leave : (b : Bool) (ends : Ends) (serial : ℕ) (start : Option ℕ) (old new : List Forwarding) → OpensForwarding b ends serial start old new → AskLeaves old new
opens-leave false ends serial start old new o = inl o
opens-leave true ends serial start old new o = inr (inl (o.0, o.2))

ends-leave : (opening : Bool) (serial : ℕ) (ends : Ends) (old new : List Forwarding) → EndsLeave opening serial ends old new → AskLeaves old new
ends-leave true serial ends old new o = opens-leave _ ends serial None old new o
ends-leave false serial ends old new o = closes-leave _ old new o

if-leaves : (alone : Bool) (rules : ListenRules) (opening : Bool) (ask : StartAsk) (serial : ℕ) (old new : List Forwarding) (comes : Comes)
    → ComesIf alone rules opening ask serial old new comes → AskLeaves old new
if-leaves true rules opening ask serial old new comes c = inl c.1
if-leaves false rules opening ask serial old new comes c = ends-leave opening serial c.0 old new c.3

ask-leaves : (away : Bool) (rules : ListenRules) (opening : Bool) (ask : StartAsk) (serial : ℕ) (old new : List Forwarding) (comes : Comes)
    → ComesUnless away rules opening ask serial old new comes → AskLeaves old new
ask-leaves true rules opening ask serial old new comes c = inl c.1
ask-leaves false rules opening ask serial old new comes c = if-leaves (is_ruled_out rules ask) rules opening ask serial old new comes c

pending-asked : (starts : Starts) (ask : StartAsk) (old new : List Forwarding) → AskLeaves old new → Pending starts ask old
    → Pending starts ask new
pending-asked starts ask old new (inl e) p = pending-all starts ask old new e p
pending-asked starts ask old new (inr (inl more)) p =
    pending-all starts ask (old ++ more.0 ∷ []) new more.1 (pending-in starts ask old (old ++ more.0 ∷ []) p (in-left p.f old (more.0 ∷ []) p.here))
pending-asked starts ask old new (inr (inr closed)) p =
    pending-all starts ask (map (forwarding_changed change.Close closed.0) old) new closed.1 (pending-changed starts ask change.Close closed.0 old tt p)

-- a start later on
pushed-by : (b : Bool) (ends : Ends) (serial : ℕ) (start : Option ℕ) (old new : List Forwarding) (f : Forwarding)
    → OpensForwarding b ends serial start old new → In f old → In f new
pushed-by false ends serial start old new f o here = subst (In f) (sym o) here
pushed-by true ends serial start old new f o here = subst (In f) (sym o.2) (in-left f old (o.0 ∷ []) here)

pushed-one : (b : Bool) (rules : ListenRules) (ask : StartAsk) (i : ℕ) (old new : Standing) (f : Forwarding) → StartsIf b rules ask i old new
    → In f old.all → In f new.all
pushed-one true rules ask i old new f s here = subst (λ (t : Standing). In f t.all) (sym s) here
pushed-one false rules ask i old new f s here = pushed-by _ s.0 old.serials (Some i) old.all new.all f s.2.all here

pushed : (rules : ListenRules) (asks : List StartAsk) (i : ℕ) (old new : Standing) (f : Forwarding) → i ≤ length asks
    → BeginsAt rules asks i old new → In f old.all → In f new.all
pushed rules asks zero old new f l begins here = subst (λ (t : Standing). In f t.all) (sym begins) here
pushed rules asks (suc i) old new f l begins here =
    let first = pushed rules asks i old begins.0 f (omega arith) begins.1 here in
    let at = in-range asks i (omega arith) in
    let s = there-is (λ (ask : StartAsk). StartsIf (is_ruled_out rules ask) rules ask i begins.0 new) (slice_get asks i) at.0 at.1 begins.2 in
    pushed-one (is_ruled_out rules at.0) rules at.0 i begins.0 new f s first

-- a request
request-its : (f : Forwarding) (serial : ℕ) → forwarding_request_of f ≡ Listen serial → (serial ≡ f.serial) × (forwarding_request_of f ≡ Listen f.serial)
request-its f serial e = elim (request-is f.stage f.serial) [
  | inl is ↦ (let both : Listen serial ≡ Listen f.serial = sym e ∙ is in (cc, is))
  | inr is ↦ (let both : Listen serial ≡ Cancel f.serial = sym e ∙ is in cc)
]

said : (starts : Starts) (ask : StartAsk) (forwarder_events : List ForwarderEvent) (old : ForwardingState) (g : Forwarding) (r : ForwardingRequest) → forwarding_request_of g ≡ r
    → In g old.all → is_numbered 0 old.all old.serials ≡ true → Pending starts ask old.all
    → Fate starts ask (Requests g ∷ forwarder_events) (after_request_sent r old.all)
said starts ask forwarder_events old g (Cancel serial) e here n p = inl (pending-changed starts ask change.Cancel serial old.all tt p)
said starts ask forwarder_events old g (Listen serial) e here n p =
    let its = request-its g serial e in
    elim (cases_Bool (p.f.serial == serial)) [
      | inl same ↦ (let one : p.f ≡ g = one-serial old.all p.f g 0 old.serials n p.here here (eqb-true p.f.serial serial same ∙ its.0) in
          inr (record {
            forwarding = p.f;
            is_for = p.is_for;
            begun = WasRequested g [] forwarder_events refl (subst (λ (x : Forwarding). AreOne p.f x) one (itself p.f)) its.1;
          }))
      | inr other ↦ inl (pending-in starts ask old.all (map (forwarding_changed change.ForwardingRequest serial) old.all) p
          (subst (λ (x : Forwarding). In x (map (forwarding_changed change.ForwardingRequest serial) old.all)) (changed-other change.ForwardingRequest serial p.f other)
          (in-map (forwarding_changed change.ForwardingRequest serial) p.f old.all p.here)))
    ]

-- a reply
first-asks : (s : Stage) → is_first s ≡ true → (asks_at s ≡ false) × (cancels_at s ≡ false)
first-asks (ToListen host) e = (refl, refl)
first-asks Ordered e = cc
first-asks (Listening l) e = cc
first-asks ToRequest e = (refl, refl)
first-asks Requested e = cc
first-asks (Live port) e = cc
first-asks (Cancelling port) e = cc

replied : (starts : Starts) (ask : StartAsk) (success : Bool) (port : Option ℕ) (o : Option ForwardingRequest) (fs : List Forwarding) → Pending starts ask fs
    → Pending starts ask (replied_all success port o fs)
replied starts ask true port None fs p = p
replied starts ask false port None fs p = p
replied starts ask true port (Some (Listen serial)) fs p = pending-changed starts ask (change.Live port) serial fs tt p
replied starts ask false port (Some (Listen serial)) fs p =
    pending-in starts ask fs (removed_at (position (is_listen_unanswered serial) fs) fs) p
    (fate-left (is_listen_unanswered serial) fs (position (is_listen_unanswered serial) fs) p.f refl
    (and-second (p.f.serial == serial) (asks_at p.f.stage) (first-asks p.f.stage p.first).0) p.here)
replied starts ask true port (Some (Cancel serial)) fs p =
    pending-in starts ask fs (removed_at (position (is_cancelled serial) fs) fs) p
    (fate-left (is_cancelled serial) fs (position (is_cancelled serial) fs) p.f refl
    (and-second (p.f.serial == serial) (cancels_at p.f.stage) (first-asks p.f.stage p.first).1) p.here)
replied starts ask false port (Some (Cancel serial)) fs p = pending-changed starts ask change.Stay serial fs tt p

-- a listener
ordered : (starts : Starts) (ask : StartAsk) (host : List ℕ) (port : ℕ) (number : Option ℕ) (forwarder_events : List ForwarderEvent) (p f : Forwarding)
    → p ≡ f → IsFor (rules_of starts) true ask p → (host ≡ f.listen_host) × (port ≡ f.listen_port)
    → WasServed starts ask (Listens host port number ∷ forwarder_events)
ordered starts ask host port number forwarder_events p f same is ends = record {
  forwarding = p;
  is_for = is;
  begun = WasOrdered number [] forwarder_events (ap (λ h. Listens h port number ∷ forwarder_events) (ends.0 ∙ ap (λ x. x.listen_host) (sym same))
      ∙ ap (λ n. Listens p.listen_host n number ∷ forwarder_events) (ends.1 ∙ ap (λ x. x.listen_port) (sym same)));
}

made : (starts : Starts) (ask : StartAsk) (host : List ℕ) (port : ℕ) (number : Option ℕ) (forwarder_events : List ForwarderEvent) (serials i : ℕ) (f : Forwarding)
    (old new : List Forwarding) → is_numbered 0 old serials ≡ true → position to_listen old ≡ Some i → f ≡ get_or old i f
    → (host ≡ f.listen_host) × (port ≡ f.listen_port) → MadeOf number i f old new → Pending starts ask old
    → Fate starts ask (Listens host port number ∷ forwarder_events) new
made starts ask host port None forwarder_events serials i f old new n first is ends m p =
    let inside = (position-Some to_listen old i f first).0 in
    let there : In f old = subst (λ (x : Forwarding). In x old) (sym is) (in-get old i f inside) in
    elim (cases_Bool (p.f.serial == f.serial)) [
      | inl same ↦ inr (ordered starts ask host port None forwarder_events p.f f
          (one-serial old p.f f 0 serials n p.here there (eqb-true p.f.serial f.serial same)) p.is_for ends)
      | inr other ↦ inl (pending-all starts ask (remove old i) new m (pending-in starts ask old (remove old i) p
          (in-remove (λ (x : Forwarding). x.serial == f.serial) p.f old i f inside
          (eq-eqb (get_or old i f).serial f.serial (ap (λ (x : Forwarding). x.serial) (sym is))) other p.here)))
    ]
made starts ask host port (Some l) forwarder_events serials i f old new n first is ends m p =
    let inside = (position-Some to_listen old i f first).0 in
    let g : Forwarding = record f { stage = Listening l } in
    elim (in-set p.f old i g f inside p.here) [
      | inl stays ↦ inl (pending-all starts ask (set old i g) new m (pending-in starts ask old (set old i g) p stays))
      | inr its ↦ inr (ordered starts ask host port (Some l) forwarder_events p.f f (its ∙ sym is) p.is_for ends)
    ]

first-lacks : (l : ℕ) (s : Stage) → is_first s ≡ true → is_listener l (listener_at s) ≡ false
first-lacks l (ToListen host) e = refl
first-lacks l Ordered e = cc
first-lacks l (Listening k) e = cc
first-lacks l ToRequest e = refl
first-lacks l Requested e = cc
first-lacks l (Live port) e = cc
first-lacks l (Cancelling port) e = cc

goes : (starts : Starts) (ask : StartAsk) (forwarder_event : ForwarderEvent) (forwarder_events : List ForwarderEvent) (old new : ForwardingState) → Tracks old → Does forwarder_event old new
    → Pending starts ask old.all → Fate starts ask (forwarder_event ∷ forwarder_events) new.all
goes starts ask (Begins more) forwarder_events old new t d p =
    inl (pending-in starts ask old.all new.all p
    (pushed (rules_of more) more.asks (length more.asks) (standing_at old) (standing_at new) p.f (omega arith) d.begins p.here))
goes starts ask (Asks client id opening what answer) forwarder_events old new t d p =
    inl (pending-asked starts ask old.all new.all
    (ask-leaves (turns_away client id old.waiting) old.rules opening what old.serials old.all new.all d.came_to d.comes) p)
goes starts ask (Answers client id answer) forwarder_events old new t d p = inl (pending-all starts ask old.all new.all (ap (λ (x : ForwardingState). x.all) d.others) p)
goes starts ask Greets forwarder_events old new t d p = inl (pending-all starts ask old.all new.all (ap (λ (x : ForwardingState). x.all) d.1) p)
goes starts ask (Requests g) forwarder_events old new t d p =
    subst (λ (fs : List Forwarding). Fate starts ask (Requests g ∷ forwarder_events) fs) (sym (ap (λ (x : ForwardingState). x.all) d.2))
    (said starts ask forwarder_events old g (forwarding_request_of g) refl (found-in has_request g old.all d.1) t.numbered p)
goes starts ask (Replies success port) forwarder_events old new t d p =
    inl (pending-all starts ask (replied_all success port (first_forwarding_request old.requests) old.all) new.all (ap (λ (x : ForwardingState). x.all) d)
    (replied starts ask success port (first_forwarding_request old.requests) old.all p))
goes starts ask (Listens host port number) forwarder_events old new t d p =
    let f = d.orders.ordered.0 in
    let g : Forwarding = record f { stage = Ordered } in
    let i = d.orders.place in
    let first = ap (λ (fs : List Forwarding). find to_listen fs) d.orders.ordered.2 ∙ first-ordered old.all i f d.orders.first in
    let same : d.makes.place ≡ i = same-place old.all i d.makes.place g d.orders.first refl
    (subst (λ (fs : List Forwarding). position to_listen fs ≡ Some d.makes.place) d.orders.ordered.2 d.makes.first) in
    let at = placed (λ (x : Forwarding). Unit {0}) to_listen old.all i f d.orders.first d.orders.ordered.1 (λ k z lt. tt) in
    let ends = there-is (λ (x : Forwarding). (host ≡ x.listen_host) × (port ≡ x.listen_port)) (find to_listen old.all) f at.2 d.orders.there in
    made starts ask host port number forwarder_events old.serials i f old.all new.all t.numbered d.orders.first d.orders.ordered.1 ends
    (made-of number i d.makes.place f old.all d.between.all new.all same d.orders.ordered.2 first d.makes.first d.makes.made) p
goes starts ask (Unlistens l) forwarder_events old new t d p =
    let keep : Forwarding → Bool = λ f. not (has_listener l f) in
    inl (pending-all starts ask (filter keep old.all) new.all (ap (λ (x : ForwardingState). x.all) d.others)
    (pending-in starts ask old.all (filter keep old.all) p
    (in-filter keep p.f old.all (ap not (first-lacks l p.f.stage p.first)) p.here)))

-- which one is recorded stays
recorded-begins : (rules : ListenRules) (asks : List StartAsk) (i j : ℕ) (old new : Standing) → i ≤ length asks → BeginsAt rules asks i old new
    → IsRecorded old.refused j → IsRecorded new.refused j
recorded-begins rules asks zero j old new l begins recorded = subst (λ (t : Standing). IsRecorded t.refused j) (sym begins) recorded
recorded-begins rules asks (suc i) j old new l begins recorded =
    let first = recorded-begins rules asks i j old begins.0 (omega arith) begins.1 recorded in
    let at = in-range asks i (omega arith) in
    let s = there-is (λ (ask : StartAsk). StartsIf (is_ruled_out rules ask) rules ask i begins.0 new) (slice_get asks i) at.0 at.1 begins.2 in
    records-one (is_ruled_out rules at.0) rules at.0 i j begins.0 new s first

recorded-reply : (success : Bool) (o : Option ForwardingRequest) (fs : List Forwarding) (refused : Option ℕ) (j : ℕ) → IsRecorded refused j
    → IsRecorded (replied_refused success o fs refused) j
recorded-reply true None fs refused j recorded = recorded
recorded-reply false None fs refused j recorded = recorded
recorded-reply true (Some (Listen serial)) fs refused j recorded = recorded
recorded-reply false (Some (Listen serial)) fs refused j recorded = recorded-still refused (forwarding_start_of (find (is_listen_unanswered serial) fs)) j recorded
recorded-reply true (Some (Cancel serial)) fs refused j recorded = recorded
recorded-reply false (Some (Cancel serial)) fs refused j recorded = recorded

recorded-made : (number : Option ℕ) (o : Option Forwarding) (refused : Option ℕ) (j : ℕ) → IsRecorded refused j
    → IsRecorded (made_refused number o refused) j
recorded-made None o refused j recorded = recorded-still refused (forwarding_start_of o) j recorded
recorded-made (Some l) o refused j recorded = recorded

recorded-goes : (forwarder_event : ForwarderEvent) (old new : ForwardingState) (j : ℕ) → Does forwarder_event old new → IsRecorded old.refused j → IsRecorded new.refused j
recorded-goes (Begins more) old new j d recorded =
    recorded-begins (rules_of more) more.asks (length more.asks) j (standing_at old) (standing_at new) (omega arith) d.begins recorded
recorded-goes (Asks client id opening what answer) old new j d recorded =
    subst (λ (o : Option ℕ). IsRecorded o j) (sym (ap (λ (x : ForwardingState). x.refused) d.others)) recorded
recorded-goes (Answers client id answer) old new j d recorded = subst (λ (o : Option ℕ). IsRecorded o j) (sym (ap (λ (x : ForwardingState). x.refused) d.others)) recorded
recorded-goes Greets old new j d recorded = subst (λ (o : Option ℕ). IsRecorded o j) (sym (ap (λ (x : ForwardingState). x.refused) d.1)) recorded
recorded-goes (Requests g) old new j d recorded = subst (λ (o : Option ℕ). IsRecorded o j) (sym (ap (λ (x : ForwardingState). x.refused) d.2)) recorded
recorded-goes (Replies success port) old new j d recorded =
    subst (λ (o : Option ℕ). IsRecorded o j) (sym (ap (λ (x : ForwardingState). x.refused) d))
    (recorded-reply success (first_forwarding_request old.requests) old.all old.refused j recorded)
recorded-goes (Listens host port number) old new j d recorded =
    subst (λ (o : Option ℕ). IsRecorded o j) (sym (ap (λ (x : ForwardingState). x.refused) d.makes.others))
    (recorded-made number (find to_listen d.between.all) d.between.refused j
    (subst (λ (o : Option ℕ). IsRecorded o j) (sym (ap (λ (x : ForwardingState). x.refused) d.orders.others)) recorded))
recorded-goes (Unlistens l) old new j d recorded = subst (λ (o : Option ℕ). IsRecorded o j) (sym (ap (λ (x : ForwardingState). x.refused) d.others)) recorded

fate-goes : (starts : Starts) (ask : StartAsk) (i : ℕ) (forwarder_event : ForwarderEvent) (forwarder_events : List ForwarderEvent) (old new : ForwardingState) → Tracks old → Does forwarder_event old new
    → Fails starts i ask old.refused ⊎ Fate starts ask forwarder_events old.all → Fails starts i ask new.refused ⊎ Fate starts ask (forwarder_event ∷ forwarder_events) new.all
fate-goes starts ask i forwarder_event forwarder_events old new t d (inl f) = inl (f.0, recorded-goes forwarder_event old new i d f.1)
fate-goes starts ask i forwarder_event forwarder_events old new t d (inr (inl p)) = inr (goes starts ask forwarder_event forwarder_events old new t d p)
fate-goes starts ask i forwarder_event forwarder_events old new t d (inr (inr s)) = inr (inr (served-later starts ask forwarder_event forwarder_events s))

within : (asks : List StartAsk) (i : ℕ) (ask : StartAsk) → slice_get asks i ≡ Some ask → i < length asks
within [] i ask e = cc
within (x ∷ asks) zero ask e = omega arith
within (x ∷ asks) (suc i) ask e = let rest = within asks i ask e in omega (arith, rest)

or-pending : (starts : Starts) (ask : StartAsk) (i : ℕ) (r : Option ℕ) (forwarder_events : List ForwarderEvent) (all : List Forwarding)
    → Fails starts i ask r ⊎ Pending starts ask all → Fails starts i ask r ⊎ Fate starts ask forwarder_events all
or-pending starts ask i r forwarder_events all (inl f) = inl f
or-pending starts ask i r forwarder_events all (inr p) = inr (inl p)

fates : (starts : Starts) (later : List ForwarderEvent) (d : ForwardingState) → Leave (later ++ Begins starts ∷ []) d → (i : ℕ) (ask : StartAsk)
    → slice_get starts.asks i ≡ Some ask → Fails starts i ask d.refused ⊎ Fate starts ask (later ++ Begins starts ∷ []) d.all
fates starts [] d left i ask is =
    let from : BeginsAt (rules_of starts) starts.asks (length starts.asks) (standing_at empty_forwarding_state) (standing_at d) =
    subst (λ (x : ForwardingState). BeginsAt (rules_of starts) starts.asks (length starts.asks) (standing_at x) (standing_at d)) left.1 left.2.begins in
    let on = begins starts (length starts.asks) (standing_at d) (omega arith) from in
    or-pending starts ask i d.refused (Begins starts ∷ []) d.all (on.fates i ask (within starts.asks i ask is) is)
fates starts (forwarder_event ∷ later) d left i ask is =
    fate-goes starts ask i forwarder_event (later ++ Begins starts ∷ []) left.0 d (tracks (later ++ Begins starts ∷ []) left.0 left.1) left.2
    (fates starts later left.0 left.1 i ask is)

-- ---- at rest none waits to begin

begun-at : (s : Stage) (closing : Bool) (P : Type 0) → is_first s ≡ true → Rests s closing → requests_at s closing ≡ false → P
begun-at (ToListen host) closing P e rests says = absurd rests
begun-at Ordered closing P e rests says = cc
begun-at (Listening l) closing P e rests says = cc
begun-at ToRequest closing P e rests says = cc
begun-at Requested closing P e rests says = cc
begun-at (Live port) closing P e rests says = cc
begun-at (Cancelling port) closing P e rests says = cc

settle : (starts : Starts) (ask : StartAsk) (i : ℕ) (forwarder_events : List ForwarderEvent) (d : ForwardingState) → Tracks d → ForwarderIsAtRest d
    → Fails starts i ask d.refused ⊎ Fate starts ask forwarder_events d.all → Fails starts i ask d.refused ⊎ WasServed starts ask forwarder_events
settle starts ask i forwarder_events d t rest (inl r) = inl r
settle starts ask i forwarder_events d t rest (inr (inr s)) = inr s
settle starts ask i forwarder_events d t rest (inr (inl p)) =
    begun-at p.f.stage p.f.closing (Fails starts i ask d.refused ⊎ WasServed starts ask forwarder_events) p.first
    (all-rest d.all d.serials d.requests d.waiting d.all t.numbered (fates-at-rest d t rest) (λ f h. h) t.stages rest.orders
    p.f p.here)
    (none-passes-in has_request d.all p.f rest.says p.here)

pub each-start : EachStart
each-start starts later d left rest i ask is =
    settle starts ask i (later ++ Begins starts ∷ []) d (tracks (later ++ Begins starts ∷ []) d left) rest (fates starts later d left i ask is)
