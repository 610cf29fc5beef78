-- Each forwarding that closes has a client's request to close it that has no outcome yet, and each
-- request that was sent and has no reply has its forwarding.
use Rattle.std.proofs.Common.{◌≡◌, ◌∙◌, refl, sym, ap, subst, arith, ℕ, zero, suc, ◌<◌, ◌≤◌, Bool, true, false, List, [], ◌∷◌, ◌++◌, length, get_or, set, drop, map, filter, Option, Some, None, inl, inr}
use Rattle.std.specs.Prelude.{◌⊎◌, ◌==◌, ◌&&◌, not, find, slice_get, if◌then◌else◌}
use Rattle.std.specs.List.{position, remove}
use Rattle.std.proofs.lemmas.Bool.{and_parts, and_from, or_parts, both_ways, cases_Bool, eqb-true, eq-eqb, not-true}
use Rattle.std.proofs.lemmas.List.Quantifiers.{position-Some}
use Rattle.mux_outside.specs.declared.house.HouseReply.{HouseReply}
use Rattle.mux_outside.specs.declared.start_ask.StartAsk.{StartAsk}
use Rattle.house_forward.specs.Asks.{requests_settled, settle_one, all_requests_refused, one_more_outcome, is_ask_about, same, has_open, is_waiting, without_request_at, answer_in, reply_of, earliest, has_outcome, is_settled, request_waiting_for, turns_away}
use Rattle.house_forward.specs.ForwarderEvents.{ForwarderEvent, Does, Leave}
use Rattle.house_forward.specs.ForwarderEvents.{Begins, Asks, Answers, Greets, Requests, Replies, Listens, Unlistens}
use Rattle.house_forward.specs.ForwardingState.{ForwardingState, empty_forwarding_state, IsClientAsk, GivesFirstAnswer as IsAnswered, request_sent, reply_received, GetsListener, EndsListener, standing_at}
use Rattle.house_forward.specs.Forwardings.{AskedAtStart as BeginsAt, StartsIf, Standing, OpensForwarding, has_request, requests_at, forwarding_request_of, forwarding_request_at, after_request_sent, forwarding_changed, listener_stage_after, closing_after, standing, closes_of, comes_of_ends, after_close, EndsLeave, ComesIf, ComesUnless, waiting_after, is_listen_unanswered, asks_at, is_cancelled, cancels_at, live_outcome_in, opened_asks, replied_all, replied_asks, removed_at, first_forwarding_request, to_listen, waits_at, ordered_asks, is_numbered, has_listener, is_listener, listener_at}
use Rattle.house_forward.specs.Rules.{is_ruled_out, rules_of}
use Rattle.house_forward.specs.declared.asks.ImmediateOutcome.{ImmediateOutcome as Comes}
use Rattle.house_forward.specs.declared.asks.ImmediateOutcome.TheVariants.{Now, Later}
use Rattle.house_forward.specs.declared.asks.RequestOutcome.{RequestOutcome}
use Rattle.house_forward.specs.declared.asks.RequestOutcome.TheVariants.{Done, Refused}
use Rattle.house_forward.specs.declared.asks.Waiting.{Waiting}
use Rattle.house_forward.specs.declared.forwarding.Change.{Change}
use Rattle.house_forward.specs.declared.forwarding.Change.TheVariants as change
use Rattle.house_forward.specs.declared.forwarding.Forwarding.{Forwarding}
use Rattle.house_forward.specs.declared.forwarding.ForwardingRequest.{ForwardingRequest}
use Rattle.house_forward.specs.declared.forwarding.ForwardingRequest.TheVariants.{Listen, Cancel}
use Rattle.house_forward.specs.declared.forwarding.Stage.{Stage}
use Rattle.house_forward.specs.declared.forwarding.Stage.TheVariants.{ToListen, Ordered, Listening, ToRequest, Requested, Live, Cancelling}
use Rattle.house_forward.specs.declared.rules.Ends.{Ends}
use Rattle.house_forward.specs.declared.rules.ListenRules.{ListenRules}
use Rattle.house_forward.proofs.Apart.{Apart}
use Rattle.house_forward.proofs.Caused.{picked, same-answer}
use Rattle.house_forward.proofs.Causing.{knows, in-range, there-is, found, Closing, next-closing}
use Rattle.house_forward.proofs.Members.{In, in-left, in-last, in-map, in-filter, in-remove, in-set, in-all, in-get, found-in, out-map, out-filter, out-remove, out-set, out-last, all-in}
use Rattle.house_forward.proofs.Resolving.{MadeOf, listener-made, fate-left, all-left, and-second, tracks}
use Rattle.house_forward.proofs.Tracking.{Tracks, removed-differs, one-serial, changed-serial}

-- ---- what is kept

-- a request to close the forwarding with this serial has no outcome yet
pub record IsCloser (serial : ℕ) (w : Waiting) : Type 0 where
  pub of_it : w.forwarding ≡ serial
  pub closes : w.opening ≡ false
  pub open_yet : w.outcome ≡ None

abbrev pub Closer : List Waiting → ℕ → Type 0
Closer ws serial = (w : Waiting) × In w ws × IsCloser serial w

abbrev pub Closers : List Waiting → List Forwarding → Type 0
Closers ws all = (f : Forwarding) → In f all → f.closing ≡ true → Closer ws f.serial

-- a request has its forwarding
abbrev pub IsOfStream : List Forwarding → ForwardingRequest → Type 0
IsOfStream all (Listen n) = (f : Forwarding) × In f all × (f.serial ≡ n) × (asks_at f.stage ≡ true)
IsOfStream all (Cancel n) = (f : Forwarding) × In f all × (f.serial ≡ n) × (cancels_at f.stage ≡ true) × (f.closing ≡ true)

abbrev pub Said : List ForwardingRequest → List Forwarding → Type 0
Said rs all = (r : ForwardingRequest) → In r rs → IsOfStream all r

abbrev Once : List ForwardingRequest → Type 0
Once [] = Unit {0}
Once (r ∷ rs) = (In r rs → ⊥) × Once rs

pub record Wants (d : ForwardingState) : Type 0 where
  pub closers : Closers d.waiting d.all
  pub said : Said d.requests d.all
  once : Once d.requests

-- ---- requests go on

abbrev Keeps : List Waiting → List Waiting → ℕ → Type 0
Keeps ws more n = Closer ws n → Closer more n

not-about : (serial : ℕ) (opening : Bool) (w : Waiting) (n : ℕ) → IsCloser n w → (opening ≡ false → n ≡ serial → ⊥)
    → is_ask_about serial opening w ≡ false
not-about serial true w n c other = and-second (w.forwarding == serial) (same w.opening true) (ap (λ b. same b true) c.closes)
not-about serial false w n c other = elim (cases_Bool (w.forwarding == serial)) [
  | inl is ↦ absurd (other refl (sym c.of_it ∙ eqb-true w.forwarding serial is))
  | inr isnt ↦ ap (λ b. b && same w.opening false) isnt
]

not-settled : (serial : ℕ) (opening : Bool) (at : ℕ) (o : RequestOutcome) (w : Waiting) → is_ask_about serial opening w ≡ false
    → settle_one serial opening at o w ≡ w
not-settled serial opening at o w e = rw e refl

-- those of others get no outcome
closer-settled : (serial : ℕ) (opening : Bool) (at : ℕ) (o : RequestOutcome) (ws : List Waiting) (n : ℕ) → (opening ≡ false → n ≡ serial → ⊥)
    → Keeps ws (requests_settled serial opening at o ws) n
closer-settled serial opening at o ws n other c =
    let w = c.0 in (
      w,
      subst (λ (v : Waiting). In v (requests_settled serial opening at o ws)) (not-settled serial opening at o w (not-about serial opening w n c.2 other))
          (in-map (settle_one serial opening at o) w ws c.1),
      c.2,
    )

closer-refused : (serial at : ℕ) (ws : List Waiting) (n : ℕ) → (n ≡ serial → ⊥) → Keeps ws (all_requests_refused serial at ws) n
closer-refused serial at ws n other c =
    closer-settled serial false (one_more_outcome at) Refused (requests_settled serial true at Refused ws) n (λ e. other)
    (closer-settled serial true at Refused ws n (λ e. cc) c)

closer-opened : (o : Option RequestOutcome) (serial at : ℕ) (ws : List Waiting) (n : ℕ) → Keeps ws (opened_asks o serial at ws) n
closer-opened None serial at ws n c = c
closer-opened (Some outcome) serial at ws n c = closer-settled serial true at outcome ws n (λ e. cc) c

-- ---- forwardings go on

-- each that closes did so before
abbrev ClosedYet : List Forwarding → List Forwarding → Type 0
ClosedYet old new = (g : Forwarding) → In g new → g.closing ≡ true
    → (f : Forwarding) × In f old × (f.serial ≡ g.serial) × (f.closing ≡ true)

closers-by : (ws more : List Waiting) (old new : List Forwarding) → ClosedYet old new
    → ((g : Forwarding) → In g new → g.closing ≡ true → Keeps ws more g.serial) → Closers ws old → Closers more new
closers-by ws more old new yet keeps h g here closes =
    let f = yet g here closes in
    keeps g here closes (subst (Closer ws) f.2 (h f.0 f.1 f.3))

yet-same : (old new : List Forwarding) → new ≡ old → ClosedYet old new
yet-same old new e g here closes = (g, subst (In g) e here, refl, closes)

-- a change that closes none
abbrev LeavesOpen : Change → Type 0
LeavesOpen change.Close = ⊥
LeavesOpen change.ForwardingRequest = Unit {0}
LeavesOpen change.Cancel = Unit {0}
LeavesOpen (change.Live port) = Unit {0}
LeavesOpen change.Stay = Unit {0}

closed-before : (c : Change) (b : Bool) → LeavesOpen c → closing_after c b ≡ true → b ≡ true
closed-before change.Close b l e = absurd l
closed-before change.ForwardingRequest b l e = e
closed-before change.Cancel b l e = e
closed-before (change.Live port) b l e = e
closed-before change.Stay b l e = cc

closed-if : (c : Change) (b : Bool) (f : Forwarding) → LeavesOpen c
    → (if b then record f { stage = listener_stage_after c f.listen_port f.stage; closing = closing_after c f.closing } else f).closing ≡ true
    → f.closing ≡ true
closed-if c true f l e = closed-before c f.closing l e
closed-if c false f l e = e

yet-changed : (c : Change) (serial : ℕ) (fs : List Forwarding) → LeavesOpen c → ClosedYet fs (map (forwarding_changed c serial) fs)
yet-changed c serial fs l g here closes =
    let at = out-map (forwarding_changed c serial) g fs here in (
      at.0,
      at.1,
      sym (changed-serial c serial at.0) ∙ ap (λ (x : Forwarding). x.serial) at.2,
      closed-if c (at.0.serial == serial) at.0 l (ap (λ (x : Forwarding). x.closing) at.2 ∙ closes),
    )

yet-remove : (fs : List Forwarding) (i : ℕ) → ClosedYet fs (remove fs i)
yet-remove fs i g here closes = (g, out-remove g fs i here, refl, closes)

out-removed : (o : Option ℕ) (fs : List Forwarding) (g : Forwarding) → In g (removed_at o fs) → In g fs
out-removed None fs g h = h
out-removed (Some i) fs g h = out-remove g fs i h

yet-removed : (o : Option ℕ) (fs : List Forwarding) → ClosedYet fs (removed_at o fs)
yet-removed o fs g here closes = (g, out-removed o fs g here, refl, closes)

yet-filter : (p : Forwarding → Bool) (fs : List Forwarding) → ClosedYet fs (filter p fs)
yet-filter p fs g here closes = (g, (out-filter p g fs here).0, refl, closes)

yet-set : (fs : List Forwarding) (i : ℕ) (f : Forwarding) (s : Stage) → In f fs → ClosedYet fs (set fs i (record f { stage = s }))
yet-set fs i f s its g here closes = elim (out-set g fs i (record f { stage = s }) here) [
  | inl there ↦ (g, there, refl, closes)
  | inr is ↦ (f, its, ap (λ (x : Forwarding). x.serial) is, ap (λ (x : Forwarding). x.closing) is ∙ closes)
]

-- ---- where more are asked for

-- those that there were are there, and no other closes
record More (old new : List Forwarding) : Type 0 where
  keeps : (f : Forwarding) → In f old → In f new
  yet : ClosedYet old new

none-more : (old new : List Forwarding) → new ≡ old → More old new
none-more old new e = record { keeps = λ f h. subst (In f) (sym e) h; yet = yet-same old new e }

not-closed : (b : Bool) (P : Type 0) → b ≡ false → b ≡ true → P
not-closed true P e f = cc
not-closed false P e f = cc

one-more : (fs : List Forwarding) (f : Forwarding) → f.closing ≡ false → More fs (fs ++ f ∷ [])
one-more fs f open_yet = record {
  keeps = λ g h. in-left g fs (f ∷ []) h;
  yet = λ g here closes. elim (out-last g f fs here) [
    | inl there ↦ (g, there, refl, closes)
    | inr is ↦ not-closed f.closing _ open_yet (ap (λ (x : Forwarding). x.closing) is ∙ closes)
  ];
}

opens-more : (b : Bool) (ends : Ends) (serials : ℕ) (start : Option ℕ) (old new : List Forwarding) → OpensForwarding b ends serials start old new
    → More old new
opens-more false ends serials start old new o = none-more old new o
opens-more true ends serials start old new o = subst (More old) (sym o.2) (one-more old o.0 o.1.open_yet)

starts-more : (b : Bool) (rules : ListenRules) (ask : StartAsk) (i : ℕ) (old new : Standing) → StartsIf b rules ask i old new → More old.all new.all
starts-more true rules ask i old new s = none-more old.all new.all (ap (λ (t : Standing). t.all) s)
starts-more false rules ask i old new s = opens-more _ s.0 old.serials (Some i) old.all new.all s.2.all

begins-more : (rules : ListenRules) (asks : List StartAsk) (i : ℕ) (old new : Standing) → i ≤ length asks → BeginsAt rules asks i old new
    → More old.all new.all
begins-more rules asks zero old new l b = none-more old.all new.all (ap (λ (t : Standing). t.all) b)
begins-more rules asks (suc i) old new l b =
    let first = begins-more rules asks i old b.0 (omega arith) b.1 in
    let at = in-range asks i (omega arith) in
    let starts = there-is (λ (ask : StartAsk). StartsIf (is_ruled_out rules ask) rules ask i b.0 new) (slice_get asks i) at.0 at.1 b.2 in
    let last = starts-more (is_ruled_out rules at.0) rules at.0 i b.0 new starts in
    record {
      keeps = λ f h. last.keeps f (first.keeps f h);
      yet = λ g here closes.
          let x = last.yet g here closes in
          let y = first.yet x.0 x.1 x.3 in
          (y.0, y.1, y.2 ∙ x.2, y.3);
    }

is-kept : (old new : List Forwarding) (r : ForwardingRequest) → ((f : Forwarding) → In f old → In f new) → IsOfStream old r → IsOfStream new r
is-kept old new (Listen n) keeps h = (h.0, keeps h.0 h.1, h.2, h.3)
is-kept old new (Cancel n) keeps h = (h.0, keeps h.0 h.1, h.2, h.3, h.4)

wants-more : (old new : ForwardingState) → More old.all new.all → new.waiting ≡ old.waiting → new.requests ≡ old.requests → Wants old → Wants new
wants-more old new m waiting requests w = record {
  closers = subst (λ (ws : List Waiting). Closers ws new.all) (sym waiting)
      (closers-by old.waiting old.waiting old.all new.all m.yet (λ g here closes c. c) w.closers);
  said = subst (λ (rs : List ForwardingRequest). Said rs new.all) (sym requests) (λ r h. is-kept old.all new.all r m.keeps (w.said r h));
  once = subst Once (sym requests) w.once;
}

-- ---- a request

closer-more : (ws : List Waiting) (v : Waiting) (n : ℕ) → Keeps ws (ws ++ v ∷ []) n
closer-more ws v n c = (c.0, in-left c.0 ws (v ∷ []) c.1, c.2)

closer-asked : (comes : Comes) (client id : ℕ) (opening : Bool) (ws : List Waiting) (n : ℕ) → Keeps ws (waiting_after comes client id opening ws) n
closer-asked (Now o) client id opening ws n c = c
closer-asked (Later serial) client id opening ws n c = closer-more ws (request_waiting_for client id opening serial) n c

-- what it leaves
record AskWants (ws more : List Waiting) (rs : List ForwardingRequest) (old new : List Forwarding) : Type 0 where
  closers : Closers more new
  said : Said rs new

asked-more : (comes : Comes) (client id : ℕ) (opening : Bool) (ws : List Waiting) (rs : List ForwardingRequest) (old new : List Forwarding)
    → More old new → Closers ws old → Said rs old → AskWants ws (waiting_after comes client id opening ws) rs old new
asked-more comes client id opening ws rs old new m closers said = record {
  closers = closers-by ws (waiting_after comes client id opening ws) old new m.yet
      (λ g here closes c. closer-asked comes client id opening ws g.serial c) closers;
  said = λ r h. is-kept old new r m.keeps (said r h);
}

-- the one that is asked to close has its ask, and the others had theirs
close-if : (client id serial : ℕ) (ws : List Waiting) (b : Bool) (f : Forwarding) → (f.serial == serial) ≡ b
    → (if b then record f { stage = listener_stage_after change.Close f.listen_port f.stage; closing = true } else f).closing ≡ true
    → (f.closing ≡ true → Closer ws f.serial) → Closer (ws ++ request_waiting_for client id false serial ∷ []) f.serial
close-if client id serial ws true f is closes had = (
  request_waiting_for client id false serial,
  in-last (request_waiting_for client id false serial) ws,
  record { of_it = sym (eqb-true f.serial serial is); closes = refl; open_yet = refl },
)
close-if client id serial ws false f is closes had = closer-more ws (request_waiting_for client id false serial) f.serial (had closes)

closed-stage : (n : ℕ) (s : Stage) → (asks_at (listener_stage_after change.Close n s) ≡ asks_at s) × (cancels_at (listener_stage_after change.Close n s) ≡ cancels_at s)
closed-stage n (ToListen host) = (refl, refl)
closed-stage n Ordered = (refl, refl)
closed-stage n (Listening l) = (refl, refl)
closed-stage n ToRequest = (refl, refl)
closed-stage n Requested = (refl, refl)
closed-stage n (Live port) = (refl, refl)
closed-stage n (Cancelling port) = (refl, refl)

-- its stage, after a change
stage-if : (P : Stage → Type 0) (c : Change) (b : Bool) (f : Forwarding) → P f.stage → (b ≡ true → P (listener_stage_after c f.listen_port f.stage))
    → P (if b then record f { stage = listener_stage_after c f.listen_port f.stage; closing = closing_after c f.closing } else f).stage
stage-if P c true f h k = k refl
stage-if P c false f h k = h

closes-if : (c : Change) (b : Bool) (f : Forwarding) → f.closing ≡ true → (b ≡ true → closing_after c f.closing ≡ true)
    → (if b then record f { stage = listener_stage_after c f.listen_port f.stage; closing = closing_after c f.closing } else f).closing ≡ true
closes-if c true f h k = k refl
closes-if c false f h k = h

is-changed : (c : Change) (serial : ℕ) (fs : List Forwarding) (r : ForwardingRequest)
    → ((f : Forwarding) → f.serial ≡ serial → r ≡ Listen f.serial → asks_at f.stage ≡ true → asks_at (listener_stage_after c f.listen_port f.stage) ≡ true)
    → ((f : Forwarding) → f.serial ≡ serial → r ≡ Cancel f.serial → cancels_at f.stage ≡ true → cancels_at (listener_stage_after c f.listen_port f.stage) ≡ true)
    → ((f : Forwarding) → f.serial ≡ serial → r ≡ Cancel f.serial → f.closing ≡ true → closing_after c f.closing ≡ true)
    → IsOfStream fs r → IsOfStream (map (forwarding_changed c serial) fs) r
is-changed c serial fs (Listen n) asks cancels closes h =
    let f = h.0 in (
      forwarding_changed c serial f,
      in-map (forwarding_changed c serial) f fs h.1,
      changed-serial c serial f ∙ h.2,
      stage-if (λ (s : Stage). asks_at s ≡ true) c (f.serial == serial) f h.3
          (λ is. asks f (eqb-true f.serial serial is) (ap (λ m. Listen m) (sym h.2)) h.3),
    )
is-changed c serial fs (Cancel n) asks cancels closes h =
    let f = h.0 in (
      forwarding_changed c serial f,
      in-map (forwarding_changed c serial) f fs h.1,
      changed-serial c serial f ∙ h.2,
      stage-if (λ (s : Stage). cancels_at s ≡ true) c (f.serial == serial) f h.3
          (λ is. cancels f (eqb-true f.serial serial is) (ap (λ m. Cancel m) (sym h.2)) h.3),
      closes-if c (f.serial == serial) f h.4
          (λ is. closes f (eqb-true f.serial serial is) (ap (λ m. Cancel m) (sym h.2)) h.4),
    )

asked-close : (comes : Comes) (client id : ℕ) (ws : List Waiting) (rs : List ForwardingRequest) (old new : List Forwarding)
    → new ≡ after_close comes old → Closers ws old → Said rs old → AskWants ws (waiting_after comes client id false ws) rs old new
asked-close (Now o) client id ws rs old new e closers said =
    asked-more (Now o) client id false ws rs old new (none-more old new e) closers said
asked-close (Later serial) client id ws rs old new e closers said =
    subst (AskWants ws (ws ++ request_waiting_for client id false serial ∷ []) rs old) (sym e) (record {
      closers = λ g here closes.
          let at = out-map (forwarding_changed change.Close serial) g old here in
          let its : at.0.serial ≡ g.serial = sym (changed-serial change.Close serial at.0) ∙ ap (λ (x : Forwarding). x.serial) at.2 in
          subst (Closer (ws ++ request_waiting_for client id false serial ∷ [])) its
          (close-if client id serial ws (at.0.serial == serial) at.0 refl (ap (λ (x : Forwarding). x.closing) at.2 ∙ closes)
          (λ closed. closers at.0 at.1 closed));
      said = λ r h. is-changed change.Close serial old r (λ f is of k. (closed-stage f.listen_port f.stage).0 ∙ k)
          (λ f is of k. (closed-stage f.listen_port f.stage).1 ∙ k) (λ f is of k. refl) (said r h);
    })

asked-ends : (opening : Bool) (serial client id : ℕ) (ends : Ends) (comes : Comes) (ws : List Waiting) (rs : List ForwardingRequest) (old new : List Forwarding)
    → EndsLeave opening serial ends old new → (opening ≡ false → comes ≡ closes_of (standing ends old)) → Closers ws old → Said rs old
    → AskWants ws (waiting_after comes client id opening ws) rs old new
asked-ends true serial client id ends comes ws rs old new h e closers said =
    asked-more comes client id true ws rs old new (opens-more _ ends serial None old new h) closers said
asked-ends false serial client id ends comes ws rs old new h e closers said =
    asked-close comes client id ws rs old new (h ∙ ap (λ (x : Comes). after_close x old) (sym (e refl))) closers said

comes-closed : (opening : Bool) (serial : ℕ) (ends : Ends) (comes : Comes) (old : List Forwarding) → comes ≡ comes_of_ends opening serial ends old
    → opening ≡ false → comes ≡ closes_of (standing ends old)
comes-closed true serial ends comes old e is = cc
comes-closed false serial ends comes old e is = e

asked-if : (alone : Bool) (rules : ListenRules) (opening : Bool) (ask : StartAsk) (serial client id : ℕ) (comes : Comes) (ws : List Waiting) (rs : List ForwardingRequest)
    (old new : List Forwarding) → ComesIf alone rules opening ask serial old new comes → Closers ws old → Said rs old
    → AskWants ws (waiting_after comes client id opening ws) rs old new
asked-if true rules opening ask serial client id comes ws rs old new h closers said =
    asked-more comes client id opening ws rs old new (none-more old new h.1) closers said
asked-if false rules opening ask serial client id comes ws rs old new h closers said =
    asked-ends opening serial client id h.0 comes ws rs old new h.3 (comes-closed opening serial h.0 comes old h.2) closers said

asked-unless : (away : Bool) (rules : ListenRules) (opening : Bool) (ask : StartAsk) (serial client id : ℕ) (comes : Comes) (ws : List Waiting) (rs : List ForwardingRequest)
    (old new : List Forwarding) → ComesUnless away rules opening ask serial old new comes → Closers ws old → Said rs old
    → AskWants ws (waiting_after comes client id opening ws) rs old new
asked-unless true rules opening ask serial client id comes ws rs old new h closers said =
    asked-more comes client id opening ws rs old new (none-more old new h.1) closers said
asked-unless false rules opening ask serial client id comes ws rs old new h closers said =
    asked-if (is_ruled_out rules ask) rules opening ask serial client id comes ws rs old new h closers said

after-ask : (client id : ℕ) (opening : Bool) (ask : StartAsk) (answer : HouseReply) (old new : ForwardingState)
    → IsClientAsk client id opening ask answer old new → Wants old → Wants new
after-ask client id opening ask answer old new a w =
    let m = asked-unless (turns_away client id old.waiting) old.rules opening ask old.serials client id a.came_to old.waiting old.requests
    old.all new.all a.comes w.closers w.said in
    record {
      closers = subst (λ (ws : List Waiting). Closers ws new.all) (sym (ap (λ (d : ForwardingState). d.waiting) a.others)) m.closers;
      said = subst (λ (rs : List ForwardingRequest). Said rs new.all) (sym (ap (λ (d : ForwardingState). d.requests) a.others)) m.said;
      once = subst Once (sym (ap (λ (d : ForwardingState). d.requests) a.others)) w.once;
    }

-- ---- an answer

open-apart : (client id : ℕ) (v : Waiting) (ws : List Waiting) → In v ws → is_waiting client id v ≡ true → has_open client id ws ≡ false → ⊥
open-apart client id v [] h is none = h
open-apart client id v (w ∷ ws) (inl e) is none =
    both_ways (is_waiting client id v) (subst (λ (x : Waiting). is_waiting client id x ≡ false) e
    (or_parts (is_waiting client id w) (has_open client id ws) none).0) is
open-apart client id v (w ∷ ws) (inr h) is none =
    open-apart client id v ws h is (or_parts (is_waiting client id w) (has_open client id ws) none).1

one-open : (client id : ℕ) (w v : Waiting) (ws : List Waiting) → is_waiting client id w ≡ true → is_waiting client id v ≡ true
    → has_open w.client w.id ws ≡ false → In v ws → ⊥
one-open client id w v ws is its none h =
    let both = and_parts (w.client == client) (w.id == id) is in
    open-apart client id v ws h its
    (subst (λ (n : ℕ). has_open n id ws ≡ false) (eqb-true w.client client both.0)
    (subst (λ (n : ℕ). has_open w.client n ws ≡ false) (eqb-true w.id id both.1) none))

-- no two have one client and one id
one-waits : (client id : ℕ) (w v : Waiting) (ws : List Waiting) → Apart ws → In w ws → In v ws → is_waiting client id w ≡ true
    → is_waiting client id v ≡ true → w ≡ v
one-waits client id w v [] apart h k is its = absurd h
one-waits client id w v (x ∷ ws) apart (inl a) (inl b) is its = sym a ∙ b
one-waits client id w v (x ∷ ws) apart (inl a) (inr k) is its =
    absurd (one-open client id w v ws is its (subst (λ (y : Waiting). has_open y.client y.id ws ≡ false) a apart.0) k)
one-waits client id w v (x ∷ ws) apart (inr h) (inl b) is its =
    absurd (one-open client id v w ws its is (subst (λ (y : Waiting). has_open y.client y.id ws ≡ false) b apart.0) h)
one-waits client id w v (x ∷ ws) apart (inr h) (inr k) is its = one-waits client id w v ws apart.1 h k is its

-- the one that is answered has an outcome
record Answered (client id : ℕ) (ws : List Waiting) : Type 0 where
  w : Waiting
  here : In w ws
  is : is_waiting client id w ≡ true
  came : has_outcome w ≡ true

answered-by : (o : Option Waiting) (client id : ℕ) (answer : HouseReply) (ws : List Waiting) → earliest ws ≡ o
    → answer_in o ≡ Some (client, id, answer) → Answered client id ws
answered-by None client id answer ws e is = cc
answered-by (Some w) client id answer ws e is =
    let its = picked (λ (v : Waiting). In v ws) ws None w e tt (all-in (λ (v : Waiting). In v ws) ws (λ v h. h)) in
    let same = same-answer (w.client, w.id, reply_of w) (client, id, answer) is in
    let one : w.client ≡ client = ap (λ (a : ℕ × ℕ × HouseReply). a.0) same in
    let two : w.id ≡ id = ap (λ (a : ℕ × ℕ × HouseReply). a.1) same in
    record { w = w; here = its.0; is = and_from _ _ (eq-eqb w.client client one) (eq-eqb w.id id two); came = its.1 }

unsettled-not : (o : Option (ℕ × RequestOutcome)) (P : Type 0) → o ≡ None → is_settled o ≡ true → P
unsettled-not None P e f = cc
unsettled-not (Some x) P e f = cc

-- another waits on
closer-left : (client id : ℕ) (ws : List Waiting) (o : Option ℕ) (n : ℕ) → position (is_waiting client id) ws ≡ o → Apart ws
    → Answered client id ws → Keeps ws (without_request_at o ws) n
closer-left client id ws None n e apart a c = c
closer-left client id [] (Some i) n e apart a c = absurd c.1
closer-left client id (x ∷ ws) (Some i) n e apart a c =
    let w = c.0 in
    let first = position-Some (is_waiting client id) (x ∷ ws) i x e in
    let not : is_waiting client id w ≡ false = elim (cases_Bool (is_waiting client id w)) [
      | inl is ↦ (let same = one-waits client id w a.w (x ∷ ws) apart c.1 a.here is a.is in
          unsettled-not w.outcome _ c.2.open_yet (subst (λ (v : Waiting). has_outcome v ≡ true) (sym same) a.came))
      | inr isnt ↦ isnt
    ] in
    (w, in-remove (is_waiting client id) w (x ∷ ws) i x first.0 first.1 not c.1, c.2)

after-answering : (client id : ℕ) (answer : HouseReply) (old new : ForwardingState) → Apart old.waiting → IsAnswered client id answer old new
    → Wants old → Wants new
after-answering client id answer old new apart a w =
    let at = position (is_waiting client id) old.waiting in
    let one = answered-by (earliest old.waiting) client id answer old.waiting refl a.answer in
    let got : Wants (record old { waiting = without_request_at at old.waiting }) = record {
      closers = closers-by old.waiting (without_request_at at old.waiting) old.all old.all (yet-same old.all old.all refl)
          (λ g here closes c. closer-left client id old.waiting at g.serial refl apart one c) w.closers;
      said = w.said;
      once = w.once;
    } in
    subst (λ (d : ForwardingState). Wants d) (sym a.others) got

-- ---- a request

once-more : (rs : List ForwardingRequest) (r : ForwardingRequest) → Once rs → (In r rs → ⊥) → Once (rs ++ r ∷ [])
once-more [] r once new = (λ h. h, tt)
once-more (q ∷ rs) r once new = (
  λ h. elim (out-last q r rs h) [
    | inl there ↦ once.0 there
    | inr is ↦ new (inl (sym is))
  ],
  once-more rs r once.1 (λ h. new (inr h)),
)

-- its stage has no request that was sent
asks-not : (s : Stage) (closing : Bool) (P : Type 0) → requests_at s closing ≡ true → asks_at s ≡ true → P
asks-not (ToListen host) closing P e f = cc
asks-not Ordered closing P e f = cc
asks-not (Listening l) closing P e f = cc
asks-not ToRequest closing P e f = cc
asks-not Requested closing P e f = cc
asks-not (Live port) closing P e f = cc
asks-not (Cancelling port) closing P e f = cc

cancels-not : (s : Stage) (closing : Bool) (P : Type 0) → requests_at s closing ≡ true → cancels_at s ≡ true → P
cancels-not (ToListen host) closing P e f = cc
cancels-not Ordered closing P e f = cc
cancels-not (Listening l) closing P e f = cc
cancels-not ToRequest closing P e f = cc
cancels-not Requested closing P e f = cc
cancels-not (Live port) closing P e f = cc
cancels-not (Cancelling port) closing P e f = cc

not-said : (r : ForwardingRequest) (all : List Forwarding) (serials : ℕ) (f : Forwarding) → is_numbered 0 all serials ≡ true → In f all
    → has_request f ≡ true → (r ≡ Listen f.serial) ⊎ (r ≡ Cancel f.serial) → IsOfStream all r → ⊥
not-said (Listen n) all serials f numbered here has which h =
    let same : n ≡ f.serial = listen-is n f.serial which in
    let one : h.0 ≡ f = one-serial all h.0 f 0 serials numbered h.1 here (h.2 ∙ same) in
    asks-not f.stage f.closing ⊥ has (subst (λ (x : Forwarding). asks_at x.stage ≡ true) one h.3)
  where
    listen-is : (n m : ℕ) → (Listen n ≡ Listen m) ⊎ (Listen n ≡ Cancel m) → n ≡ m
    listen-is n m (inl e) = cc
    listen-is n m (inr e) = cc
not-said (Cancel n) all serials f numbered here has which h =
    let same : n ≡ f.serial = cancel-is n f.serial which in
    let one : h.0 ≡ f = one-serial all h.0 f 0 serials numbered h.1 here (h.2 ∙ same) in
    cancels-not f.stage f.closing ⊥ has (subst (λ (x : Forwarding). cancels_at x.stage ≡ true) one h.3)
  where
    cancel-is : (n m : ℕ) → (Cancel n ≡ Listen m) ⊎ (Cancel n ≡ Cancel m) → n ≡ m
    cancel-is n m (inl e) = cc
    cancel-is n m (inr e) = cc

which-request : (s : Stage) (n : ℕ) → (forwarding_request_at s n ≡ Listen n) ⊎ (forwarding_request_at s n ≡ Cancel n)
which-request (ToListen host) n = inl refl
which-request Ordered n = inl refl
which-request (Listening l) n = inl refl
which-request ToRequest n = inl refl
which-request Requested n = inl refl
which-request (Live port) n = inr refl
which-request (Cancelling port) n = inl refl

-- a request that was sent is that of its forwarding still
listen-keeps : (n : ℕ) (s : Stage) → (asks_at s ≡ true → asks_at (listener_stage_after change.ForwardingRequest n s) ≡ true)
    × (cancels_at s ≡ true → cancels_at (listener_stage_after change.ForwardingRequest n s) ≡ true)
listen-keeps n (ToListen host) = (λ e. e, λ e. e)
listen-keeps n Ordered = (λ e. e, λ e. e)
listen-keeps n (Listening l) = (λ e. e, λ e. e)
listen-keeps n ToRequest = (λ e. refl, λ e. cc)
listen-keeps n Requested = (λ e. e, λ e. e)
listen-keeps n (Live port) = (λ e. e, λ e. e)
listen-keeps n (Cancelling port) = (λ e. e, λ e. e)

cancel-keeps : (n : ℕ) (s : Stage) → (asks_at s ≡ true → asks_at (listener_stage_after change.Cancel n s) ≡ true)
    × (cancels_at s ≡ true → cancels_at (listener_stage_after change.Cancel n s) ≡ true)
cancel-keeps n (ToListen host) = (λ e. e, λ e. e)
cancel-keeps n Ordered = (λ e. e, λ e. e)
cancel-keeps n (Listening l) = (λ e. e, λ e. e)
cancel-keeps n ToRequest = (λ e. e, λ e. e)
cancel-keeps n Requested = (λ e. e, λ e. e)
cancel-keeps n (Live port) = (λ e. cc, λ e. refl)
cancel-keeps n (Cancelling port) = (λ e. e, λ e. e)

said-keeps : (r q : ForwardingRequest) (fs : List Forwarding) → IsOfStream fs r → IsOfStream (after_request_sent q fs) r
said-keeps r (Listen serial) fs h = is-changed change.ForwardingRequest serial fs r (λ f is of k. (listen-keeps f.listen_port f.stage).0 k)
    (λ f is of k. (listen-keeps f.listen_port f.stage).1 k) (λ f is of k. k) h
said-keeps r (Cancel serial) fs h = is-changed change.Cancel serial fs r (λ f is of k. (cancel-keeps f.listen_port f.stage).0 k)
    (λ f is of k. (cancel-keeps f.listen_port f.stage).1 k) (λ f is of k. k) h

-- the one that sends it has it
changed-its : (c : Change) (f : Forwarding)
    → forwarding_changed c f.serial f ≡ record f { stage = listener_stage_after c f.listen_port f.stage; closing = closing_after c f.closing }
changed-its c f = rw (eq-eqb f.serial f.serial refl) refl

said-its : (s : Stage) (f : Forwarding) (fs : List Forwarding) → f.stage ≡ s → requests_at s f.closing ≡ true → In f fs
    → IsOfStream (after_request_sent (forwarding_request_at s f.serial) fs) (forwarding_request_at s f.serial)
said-its (ToListen host) f fs is e h = cc
said-its Ordered f fs is e h = cc
said-its (Listening l) f fs is e h = cc
said-its ToRequest f fs is e h = (
  forwarding_changed change.ForwardingRequest f.serial f,
  in-map (forwarding_changed change.ForwardingRequest f.serial) f fs h,
  changed-serial change.ForwardingRequest f.serial f,
  ap (λ (x : Forwarding). asks_at x.stage) (changed-its change.ForwardingRequest f)
      ∙ ap (λ (s : Stage). asks_at (listener_stage_after change.ForwardingRequest f.listen_port s)) is,
)
said-its Requested f fs is e h = cc
said-its (Live port) f fs is e h = (
  forwarding_changed change.Cancel f.serial f,
  in-map (forwarding_changed change.Cancel f.serial) f fs h,
  changed-serial change.Cancel f.serial f,
  ap (λ (x : Forwarding). cancels_at x.stage) (changed-its change.Cancel f)
      ∙ ap (λ (s : Stage). cancels_at (listener_stage_after change.Cancel f.listen_port s)) is,
  ap (λ (x : Forwarding). x.closing) (changed-its change.Cancel f) ∙ e,
)
said-its (Cancelling port) f fs is e h = cc

yet-said : (q : ForwardingRequest) (fs : List Forwarding) → ClosedYet fs (after_request_sent q fs)
yet-said (Listen serial) fs = yet-changed change.ForwardingRequest serial fs tt
yet-said (Cancel serial) fs = yet-changed change.Cancel serial fs tt

after-request : (f : Forwarding) (old new : ForwardingState) → Tracks old → find has_request old.all ≡ Some f → new ≡ request_sent f old → Wants old → Wants new
after-request f old new t is e w =
    let q = forwarding_request_of f in
    let here = found-in has_request f old.all is in
    let has = (found (λ (x : Forwarding). Unit {0}) has_request old.all f is (all-in (λ (x : Forwarding). Unit {0}) old.all (λ x h. tt))).1 in
    let got : Wants (request_sent f old) = record {
      closers = closers-by old.waiting old.waiting old.all (after_request_sent q old.all) (yet-said q old.all) (λ g here closes c. c) w.closers;
      said = λ r h. elim (out-last r q old.requests h) [
        | inl there ↦ said-keeps r q old.all (w.said r there)
        | inr same ↦ subst (IsOfStream (after_request_sent q old.all)) same (said-its f.stage f old.all refl has here)
      ];
      once = once-more old.requests q w.once
          (λ h. not-said q old.all old.serials f t.numbered here has (which-request f.stage f.serial) (w.said q h));
    } in
    subst (λ (d : ForwardingState). Wants d) (sym e) got

-- ---- a reply

record ReplyWants (rs : List ForwardingRequest) (new : List Forwarding) (ws : List Waiting) : Type 0 where
  closers : Closers ws new
  said : Said rs new

live-cancels : (port : Option ℕ) (n : ℕ) (s : Stage) → cancels_at s ≡ true → cancels_at (listener_stage_after (change.Live port) n s) ≡ true
live-cancels port n (ToListen host) e = cc
live-cancels port n Ordered e = cc
live-cancels port n (Listening l) e = cc
live-cancels port n ToRequest e = cc
live-cancels port n Requested e = cc
live-cancels port n (Live p) e = cc
live-cancels port n (Cancelling p) e = e

stay-asks : (n : ℕ) (s : Stage) → asks_at s ≡ true → asks_at (listener_stage_after change.Stay n s) ≡ true
stay-asks n (ToListen host) e = cc
stay-asks n Ordered e = cc
stay-asks n (Listening l) e = cc
stay-asks n ToRequest e = cc
stay-asks n Requested e = e
stay-asks n (Live p) e = cc
stay-asks n (Cancelling p) e = cc

-- a stage has one request at most
asks-cancels : (s : Stage) → asks_at s ≡ true → cancels_at s ≡ false
asks-cancels (ToListen host) e = refl
asks-cancels Ordered e = refl
asks-cancels (Listening l) e = refl
asks-cancels ToRequest e = refl
asks-cancels Requested e = refl
asks-cancels (Live port) e = refl
asks-cancels (Cancelling port) e = cc

cancels-asks : (s : Stage) → cancels_at s ≡ true → asks_at s ≡ false
cancels-asks (ToListen host) e = refl
cancels-asks Ordered e = refl
cancels-asks (Listening l) e = refl
cancels-asks ToRequest e = refl
cancels-asks Requested e = cc
cancels-asks (Live port) e = refl
cancels-asks (Cancelling port) e = refl

other-serial : (n serial : ℕ) (b : Bool) → (n ≡ serial → ⊥) → ((n == serial) && b) ≡ false
other-serial n serial b differ = elim (cases_Bool (n == serial)) [
  | inl is ↦ absurd (differ (eqb-true n serial is))
  | inr isnt ↦ ap (λ c. c && b) isnt
]

-- one that is left where the one with a serial that passes is removed, is another
left-differs : (q : Forwarding → Bool) (serial : ℕ) (fs : List Forwarding) (serials : ℕ) (h f : Forwarding) → is_numbered 0 fs serials ≡ true
    → In h fs → h.serial ≡ serial → q h ≡ true → In f (removed_at (position (λ x. (x.serial == serial) && q x) fs) fs)
    → f.serial ≡ serial → ⊥
left-differs q serial fs serials h f n here is passes left same =
    let o = position (λ (x : Forwarding). (x.serial == serial) && q x) fs in
    let one : f ≡ h = one-serial fs f h 0 serials n (out-removed o fs f left) here (same ∙ sym is) in
    let not = in-all (λ (x : Forwarding). ((x.serial == serial) && q x) ≡ false) f (removed_at o fs) (all-left q serial fs serials o refl n) left in
    both_ways ((f.serial == serial) && q f) not
    (and_from _ _ (eq-eqb f.serial serial same) (subst (λ (x : Forwarding). q x ≡ true) (sym one) passes))

-- a request that isn't the one that is answered has its forwarding still
listens-left : (serial : ℕ) (fs : List Forwarding) (r : ForwardingRequest) → (r ≡ Listen serial → ⊥) → IsOfStream fs r
    → IsOfStream (removed_at (position (is_listen_unanswered serial) fs) fs) r
listens-left serial fs (Listen n) other h = (
  h.0,
  fate-left (is_listen_unanswered serial) fs (position (is_listen_unanswered serial) fs) h.0 refl
      (other-serial h.0.serial serial (asks_at h.0.stage) (λ same. other (ap (λ m. Listen m) (sym h.2 ∙ same)))) h.1,
  h.2,
  h.3,
)
listens-left serial fs (Cancel n) other h = (
  h.0,
  fate-left (is_listen_unanswered serial) fs (position (is_listen_unanswered serial) fs) h.0 refl
      (and-second (h.0.serial == serial) (asks_at h.0.stage) (cancels-asks h.0.stage h.3)) h.1,
  h.2,
  h.3,
  h.4,
)

cancels-left : (serial : ℕ) (fs : List Forwarding) (r : ForwardingRequest) → (r ≡ Cancel serial → ⊥) → IsOfStream fs r
    → IsOfStream (removed_at (position (is_cancelled serial) fs) fs) r
cancels-left serial fs (Listen n) other h = (
  h.0,
  fate-left (is_cancelled serial) fs (position (is_cancelled serial) fs) h.0 refl
      (and-second (h.0.serial == serial) (cancels_at h.0.stage) (asks-cancels h.0.stage h.3)) h.1,
  h.2,
  h.3,
)
cancels-left serial fs (Cancel n) other h = (
  h.0,
  fate-left (is_cancelled serial) fs (position (is_cancelled serial) fs) h.0 refl
      (other-serial h.0.serial serial (cancels_at h.0.stage) (λ same. other (ap (λ m. Cancel m) (sym h.2 ∙ same)))) h.1,
  h.2,
  h.3,
  h.4,
)

-- of those with another request
not-first : (r : ForwardingRequest) (rs : List ForwardingRequest) (q : ForwardingRequest) → Once (r ∷ rs) → In q rs → q ≡ r → ⊥
not-first r rs q once h e = once.0 (subst (λ (x : ForwardingRequest). In x rs) e h)

stays-not : (b : Bool) (P : Type 0) → closing_after change.Stay b ≡ true → P
stays-not b P e = cc

stayed-if : (serial : ℕ) (b : Bool) (f : Forwarding) → (f.serial == serial) ≡ b
    → (if b then record f { stage = listener_stage_after change.Stay f.listen_port f.stage; closing = false } else f).closing ≡ true
    → f.serial ≡ serial → ⊥
stayed-if serial true f is closes same = cc
stayed-if serial false f is closes same = both_ways (f.serial == serial) is (eq-eqb f.serial serial same)

stay-differs : (serial : ℕ) (fs : List Forwarding) (g : Forwarding) → In g (map (forwarding_changed change.Stay serial) fs) → g.closing ≡ true
    → g.serial ≡ serial → ⊥
stay-differs serial fs g here closes same =
    let at = out-map (forwarding_changed change.Stay serial) g fs here in
    stayed-if serial (at.0.serial == serial) at.0 refl (ap (λ (x : Forwarding). x.closing) at.2 ∙ closes)
    (sym (changed-serial change.Stay serial at.0) ∙ ap (λ (x : Forwarding). x.serial) at.2 ∙ same)

replied : (success : Bool) (r : ForwardingRequest) (port : Option ℕ) (at serials : ℕ) (rs : List ForwardingRequest) (fs : List Forwarding) (ws : List Waiting)
    → is_numbered 0 fs serials ≡ true → Closers ws fs → Said (r ∷ rs) fs → Once (r ∷ rs)
    → ReplyWants rs (replied_all success port (Some r) fs) (replied_asks success port (Some r) fs at ws)
replied true (Listen serial) port at serials rs fs ws n closers said once = record {
  closers = closers-by ws (replied_asks true port (Some (Listen serial)) fs at ws) fs (map (forwarding_changed (change.Live port) serial) fs)
      (yet-changed (change.Live port) serial fs tt)
      (λ g here closes c. closer-opened (live_outcome_in port (find (is_listen_unanswered serial) fs)) serial at ws g.serial c) closers;
  said = λ q h. is-changed (change.Live port) serial fs q
      (λ f is of k. absurd (not-first (Listen serial) rs q once h (of ∙ ap (λ m. Listen m) is)))
      (λ f is of k. live-cancels port f.listen_port f.stage k) (λ f is of k. k) (said q (inr h));
}
replied false (Listen serial) port at serials rs fs ws n closers said once =
    let o = position (is_listen_unanswered serial) fs in
    let its = said (Listen serial) (inl refl) in
    record {
      closers = closers-by ws (all_requests_refused serial at ws) fs (removed_at o fs) (yet-removed o fs)
          (λ g here closes c. closer-refused serial at ws g.serial
          (left-differs (λ (x : Forwarding). asks_at x.stage) serial fs serials its.0 g n its.1 its.2 its.3 here) c) closers;
      said = λ q h. listens-left serial fs q (not-first (Listen serial) rs q once h) (said q (inr h));
    }
replied true (Cancel serial) port at serials rs fs ws n closers said once =
    let o = position (is_cancelled serial) fs in
    let its = said (Cancel serial) (inl refl) in
    record {
      closers = closers-by ws (requests_settled serial false at Done ws) fs (removed_at o fs) (yet-removed o fs)
          (λ g here closes c. closer-settled serial false at Done ws g.serial
          (λ e. left-differs (λ (x : Forwarding). cancels_at x.stage) serial fs serials its.0 g n its.1 its.2 its.3 here) c) closers;
      said = λ q h. cancels-left serial fs q (not-first (Cancel serial) rs q once h) (said q (inr h));
    }
replied false (Cancel serial) port at serials rs fs ws n closers said once = record {
  closers = closers-by ws (requests_settled serial false at Refused ws) fs (map (forwarding_changed change.Stay serial) fs) (yet-changed change.Stay serial fs tt)
      (λ g here closes c. closer-settled serial false at Refused ws g.serial (λ e. stay-differs serial fs g here closes) c) closers;
  said = λ q h. is-changed change.Stay serial fs q (λ f is of k. stay-asks f.listen_port f.stage k)
      (λ f is of k. absurd (not-first (Cancel serial) rs q once h (of ∙ ap (λ m. Cancel m) is)))
      (λ f is of k. absurd (not-first (Cancel serial) rs q once h (of ∙ ap (λ m. Cancel m) is))) (said q (inr h));
}

replied-by : (success : Bool) (port : Option ℕ) (old : ForwardingState) (rs : List ForwardingRequest) → old.requests ≡ rs → Tracks old → Wants old
    → ReplyWants (drop 1 rs) (replied_all success port (first_forwarding_request rs) old.all) (replied_asks success port (first_forwarding_request rs) old.all old.done old.waiting)
replied-by true port old [] e t w = record { closers = w.closers; said = subst (λ (rs : List ForwardingRequest). Said rs old.all) e w.said }
replied-by false port old [] e t w = record { closers = w.closers; said = subst (λ (rs : List ForwardingRequest). Said rs old.all) e w.said }
replied-by success port old (r ∷ rs) e t w =
    replied success r port old.done old.serials rs old.all old.waiting t.numbered w.closers
    (subst (λ (qs : List ForwardingRequest). Said qs old.all) e w.said) (subst Once e w.once)

once-rest : (rs : List ForwardingRequest) → Once rs → Once (drop 1 rs)
once-rest [] once = tt
once-rest (r ∷ rs) once = once.1

after-reply : (success : Bool) (port : Option ℕ) (old new : ForwardingState) → Tracks old → new ≡ reply_received success port old → Wants old → Wants new
after-reply success port old new t e w =
    let r = replied-by success port old old.requests refl t w in
    let got : Wants (reply_received success port old) =
    record { closers = r.closers; said = r.said; once = once-rest old.requests w.once } in
    subst (λ (d : ForwardingState). Wants d) (sym e) got

-- ---- a listener is ordered

asks-waits : (s : Stage) → asks_at s ≡ true → waits_at s ≡ false
asks-waits (ToListen host) e = cc
asks-waits Ordered e = cc
asks-waits (Listening l) e = refl
asks-waits ToRequest e = refl
asks-waits Requested e = refl
asks-waits (Live port) e = refl
asks-waits (Cancelling port) e = refl

cancels-waits : (s : Stage) → cancels_at s ≡ true → waits_at s ≡ false
cancels-waits (ToListen host) e = cc
cancels-waits Ordered e = cc
cancels-waits (Listening l) e = refl
cancels-waits ToRequest e = refl
cancels-waits Requested e = refl
cancels-waits (Live port) e = refl
cancels-waits (Cancelling port) e = refl

-- those with requests are others than those that have no listener yet
is-other : (old new : List Forwarding) (r : ForwardingRequest) → ((f : Forwarding) → In f old → to_listen f ≡ false → In f new) → IsOfStream old r → IsOfStream new r
is-other old new (Listen n) keeps h = (h.0, keeps h.0 h.1 (asks-waits h.0.stage h.3), h.2, h.3)
is-other old new (Cancel n) keeps h = (h.0, keeps h.0 h.1 (cancels-waits h.0.stage h.3), h.2, h.3, h.4)

set-other : (x f g d : Forwarding) (fs : List Forwarding) (i : ℕ) → i < length fs → In x fs → to_listen x ≡ false
    → to_listen (get_or fs i d) ≡ true → In x (set fs i g)
set-other x f g d fs i inside here isnt is = elim (in-set x fs i g d inside here) [
  | inl stays ↦ stays
  | inr same ↦ absurd (both_ways (to_listen x) isnt (subst (λ (y : Forwarding). to_listen y ≡ true) (sym same) is))
]

made : (number : Option ℕ) (rs : List ForwardingRequest) (serials at i : ℕ) (f : Forwarding) (old new : List Forwarding) (ws : List Waiting)
    → position to_listen old ≡ Some i → f ≡ get_or old i f → MadeOf number i f old new → is_numbered 0 old serials ≡ true
    → Closers ws old → Said rs old → ReplyWants rs new (ordered_asks number f.serial at ws)
made None rs serials at i f old new ws first is m n closers said =
    let its = position-Some to_listen old i f first in
    subst (λ (xs : List Forwarding). ReplyWants rs xs (all_requests_refused f.serial at ws)) (sym m) (record {
      closers = closers-by ws (all_requests_refused f.serial at ws) old (remove old i) (yet-remove old i)
          (λ g here closes c. closer-refused f.serial at ws g.serial
          (λ same. removed-differs old i g f 0 serials n its.0 here (same ∙ ap (λ (x : Forwarding). x.serial) is)) c) closers;
      said = λ r h. is-other old (remove old i) r (λ x here isnt. in-remove to_listen x old i f its.0 its.1 isnt here) (said r h);
    })
made (Some l) rs serials at i f old new ws first is m n closers said =
    let its = position-Some to_listen old i f first in
    let g : Forwarding = record f { stage = Listening l } in
    subst (λ (xs : List Forwarding). ReplyWants rs xs (requests_settled f.serial true at Done ws)) (sym m) (record {
      closers = closers-by ws (requests_settled f.serial true at Done ws) old (set old i g)
          (yet-set old i f (Listening l) (subst (λ (x : Forwarding). In x old) (sym is) (in-get old i f its.0)))
          (λ y here closes c. closer-settled f.serial true at Done ws y.serial (λ e. cc) c) closers;
      said = λ r h. is-other old (set old i g) r (λ x here isnt. set-other x f g f old i its.0 here isnt its.1) (said r h);
    })

after-listen : (host : List ℕ) (port : ℕ) (number : Option ℕ) (old new : ForwardingState) → Tracks old → GetsListener host port number old new
    → Wants old → Wants new
after-listen host port number old new t h w =
    let l = listener-made host port number old new h in
    let r = made number old.requests old.serials l.done l.place l.forwarding old.all new.all old.waiting l.first l.is l.made
    t.numbered w.closers w.said in
    record {
      closers = subst (λ (ws : List Waiting). Closers ws new.all) (sym l.waiting) r.closers;
      said = subst (λ (rs : List ForwardingRequest). Said rs new.all) (sym l.requests) r.said;
      once = subst Once (sym l.requests) w.once;
    }

-- ---- a listener is closed

asks-lacks : (l : ℕ) (s : Stage) → asks_at s ≡ true → not (is_listener l (listener_at s)) ≡ true
asks-lacks l (ToListen host) e = refl
asks-lacks l Ordered e = refl
asks-lacks l (Listening k) e = cc
asks-lacks l ToRequest e = refl
asks-lacks l Requested e = refl
asks-lacks l (Live port) e = refl
asks-lacks l (Cancelling port) e = refl

cancels-lacks : (l : ℕ) (s : Stage) → cancels_at s ≡ true → not (is_listener l (listener_at s)) ≡ true
cancels-lacks l (ToListen host) e = refl
cancels-lacks l Ordered e = refl
cancels-lacks l (Listening k) e = cc
cancels-lacks l ToRequest e = refl
cancels-lacks l Requested e = refl
cancels-lacks l (Live port) e = refl
cancels-lacks l (Cancelling port) e = refl

is-unlistened : (l : ℕ) (fs : List Forwarding) (r : ForwardingRequest) → IsOfStream fs r → IsOfStream (filter (λ f. not (has_listener l f)) fs) r
is-unlistened l fs (Listen n) h =
    (h.0, in-filter (λ f. not (has_listener l f)) h.0 fs (asks-lacks l h.0.stage h.3) h.1, h.2, h.3)
is-unlistened l fs (Cancel n) h =
    (h.0, in-filter (λ f. not (has_listener l f)) h.0 fs (cancels-lacks l h.0.stage h.3) h.1, h.2, h.3, h.4)

-- the one that is closed is gone
not-closed-one : (serial l : ℕ) (all : List Forwarding) (serials : ℕ) (g : Forwarding) → is_numbered 0 all serials ≡ true
    → Closing (λ x. In x all) serial l → In g (filter (λ f. not (has_listener l f)) all) → g.serial ≡ serial → ⊥
not-closed-one serial l all serials g n c here same =
    let at = out-filter (λ (f : Forwarding). not (has_listener l f)) g all here in
    let one : g ≡ c.f = one-serial all g c.f 0 serials n at.0 c.holds (same ∙ sym c.serial_is) in
    let stage : g.stage ≡ Listening l = ap (λ (x : Forwarding). x.stage) one ∙ c.stage_is in
    both_ways (has_listener l g) (not-true (has_listener l g) at.1)
    (ap (λ (s : Stage). is_listener l (listener_at s)) stage ∙ eq-eqb l l refl)

after-unlisten : (l : ℕ) (old new : ForwardingState) → Tracks old → EndsListener l old new → Wants old → Wants new
after-unlisten l old new t h w =
    let kept = filter (λ (f : Forwarding). not (has_listener l f)) old.all in
    let c = next-closing (λ (x : Forwarding). In x old.all) old.waiting old.all h.serial l
    (all-in (λ (x : Forwarding). In x old.all) old.all (λ x k. k)) h.next in
    let got : Wants (record old { all = kept; waiting = requests_settled h.serial false old.done Done old.waiting; done = one_more_outcome old.done }) = record {
      closers = closers-by old.waiting (requests_settled h.serial false old.done Done old.waiting) old.all kept
          (yet-filter (λ f. not (has_listener l f)) old.all)
          (λ g here closes k. closer-settled h.serial false old.done Done old.waiting g.serial
          (λ e. not-closed-one h.serial l old.all old.serials g t.numbered c here) k) w.closers;
      said = λ r k. is-unlistened l old.all r (w.said r k);
      once = w.once;
    } in
    subst (λ (d : ForwardingState). Wants d) (sym h.others) got

-- ---- by all that happened

after : (forwarder_event : ForwarderEvent) (old new : ForwardingState) → Apart old.waiting → Tracks old → Does forwarder_event old new → Wants old → Wants new
after (Begins starts) old new apart t d w =
    wants-more old new (begins-more (rules_of starts) starts.asks (length starts.asks) (standing_at old) (standing_at new) (omega arith) d.begins)
    (ap (λ (x : ForwardingState). x.waiting) d.others) (ap (λ (x : ForwardingState). x.requests) d.others) w
after (Asks client id opening ask answer) old new apart t d w = after-ask client id opening ask answer old new d w
after (Answers client id answer) old new apart t d w = after-answering client id answer old new apart d w
after Greets old new apart t d w = wants-more old new (none-more old.all new.all (ap (λ (x : ForwardingState). x.all) d.1))
    (ap (λ (x : ForwardingState). x.waiting) d.1) (ap (λ (x : ForwardingState). x.requests) d.1) w
after (Requests f) old new apart t d w = after-request f old new t d.1 d.2 w
after (Replies success port) old new apart t d w = after-reply success port old new t d w
after (Listens host port number) old new apart t d w = after-listen host port number old new t d w
after (Unlistens l) old new apart t d w = after-unlisten l old new t d w

wants-nothing : Wants empty_forwarding_state
wants-nothing = record { closers = λ f h. absurd h; said = λ r h. absurd h; once = tt }

pub wants : (forwarder_events : List ForwarderEvent) (forwarding_state : ForwardingState) → Leave forwarder_events forwarding_state → Wants forwarding_state
wants [] forwarding_state left = subst (λ (d : ForwardingState). Wants d) (sym left) wants-nothing
wants (forwarder_event ∷ forwarder_events) forwarding_state left =
    after forwarder_event left.0 forwarding_state (knows forwarder_events left.0 left.1).apart (tracks forwarder_events left.0 left.1) left.2 (wants forwarder_events left.0 left.1)
