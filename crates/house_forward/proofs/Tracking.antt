-- Each client's request that has no outcome yet has its forwarding, and each request that was sent
-- is unanswered.
use Rattle.std.proofs.Common.{◌≡◌, ◌∙◌, refl, sym, ap, subst, arith, ℕ, zero, suc, ◌+◌, ◌<◌, ◌≤◌, Bool, true, false, List, [], ◌∷◌, length, get_or, map, Option, Some, None, inl, inr}
use Rattle.std.specs.Prelude.{◌==◌, ◌&&◌, nat_le, if◌then◌else◌}
use Rattle.std.specs.List.{All, remove}
use Rattle.std.proofs.lemmas.Bool.{and_parts, both_ways, eqb-true, leb-true}
use Rattle.std.proofs.lemmas.List.Elements.{All-weaker, All-map}
use Rattle.house_forward.specs.Asks.{requests_settled, settle_one, ask_settled_at, is_ask_about, same, one_more_outcome, all_requests_refused}
use Rattle.house_forward.specs.ForwardingState.{ForwardingState}
use Rattle.house_forward.specs.Forwardings.{is_numbered, forwarding_changed, listener_stage_after, closing_after, forwarding_outcome_of, outcome_at, asks_at, cancels_at}
use Rattle.house_forward.specs.declared.asks.RequestOutcome.{RequestOutcome}
use Rattle.house_forward.specs.declared.asks.RequestOutcome.TheVariants.{Refused}
use Rattle.house_forward.specs.declared.asks.Waiting.{Waiting}
use Rattle.house_forward.specs.declared.forwarding.Change.{Change}
use Rattle.house_forward.specs.declared.forwarding.Change.TheVariants as change
use Rattle.house_forward.specs.declared.forwarding.Forwarding.{Forwarding}
use Rattle.house_forward.specs.declared.forwarding.ForwardingRequest.{ForwardingRequest}
use Rattle.house_forward.specs.declared.forwarding.ForwardingRequest.TheVariants.{Listen, Cancel}
use Rattle.house_forward.specs.declared.forwarding.Stage.{Stage}
use Rattle.house_forward.specs.declared.forwarding.Stage.TheVariants.{ToListen, Ordered, Listening, ToRequest, Requested, Live, Cancelling}
use Rattle.house_forward.proofs.Members.{In, in-map, in-get}
use Rattle.house_forward.proofs.Serving.{IsSteady}

-- ---- what is kept

-- one that was asked for isn't had yet, and one that was asked to close closes
abbrev pub Holds : Bool → Forwarding → Type 0
Holds true f = forwarding_outcome_of f ≡ None
Holds false f = f.closing ≡ true

abbrev pub HasFate : List Forwarding → Waiting → Type 0
HasFate all w = (f : Forwarding) × In f all × (f.serial ≡ w.forwarding) × Holds w.opening f

abbrev pub Unsettled : (Waiting → Type 0) → Waiting → Type 0
Unsettled P w = w.outcome ≡ None → P w

-- a request that was sent for it is unanswered; and none is ordered and has no number
abbrev pub StageAwaits : Stage → ℕ → List ForwardingRequest → Type 0
StageAwaits (ToListen host) n rs = Unit {0}
StageAwaits Ordered n rs = ⊥
StageAwaits (Listening l) n rs = Unit {0}
StageAwaits ToRequest n rs = Unit {0}
StageAwaits Requested n rs = In (Listen n) rs
StageAwaits (Live port) n rs = Unit {0}
StageAwaits (Cancelling port) n rs = In (Cancel n) rs

abbrev pub Awaits : List ForwardingRequest → Forwarding → Type 0
Awaits rs f = StageAwaits f.stage f.serial rs

pub record Tracks (d : ForwardingState) : Type 0 where
  pub numbered : is_numbered 0 d.all d.serials ≡ true
  pub stages : All (Awaits d.requests) d.all
  pub fates : All (Unsettled (HasFate d.all)) d.waiting

-- ---- serials

pub numbered-above : (xs : List Forwarding) (x : Forwarding) (low high : ℕ) → is_numbered low xs high ≡ true → In x xs → low ≤ x.serial
numbered-above [] x low high e h = absurd h
numbered-above (y ∷ xs) x low high e (inl is) =
    let both = and_parts (nat_le low y.serial) (is_numbered (y.serial + 1) xs high) e in
    subst (λ (z : Forwarding). low ≤ z.serial) is (leb-true low y.serial both.0)
numbered-above (y ∷ xs) x low high e (inr h) =
    let both = and_parts (nat_le low y.serial) (is_numbered (y.serial + 1) xs high) e in
    let one = leb-true low y.serial both.0 in
    let rest = numbered-above xs x (y.serial + 1) high both.1 h in
    omega (arith, one, rest)

pub removed-differs : (xs : List Forwarding) (i : ℕ) (x d : Forwarding) (low high : ℕ) → is_numbered low xs high ≡ true → i < length xs
    → In x (remove xs i) → x.serial ≡ (get_or xs i d).serial → ⊥
removed-differs [] i x d low high e l h same = omega (arith, l)
removed-differs (y ∷ xs) zero x d low high e l h same =
    let both = and_parts (nat_le low y.serial) (is_numbered (y.serial + 1) xs high) e in
    let above = numbered-above xs x (y.serial + 1) high both.1 h in
    omega (arith, above, same)
removed-differs (y ∷ xs) (suc i) x d low high e l (inl is) same =
    let both = and_parts (nat_le low y.serial) (is_numbered (y.serial + 1) xs high) e in
    let above = numbered-above xs (get_or xs i d) (y.serial + 1) high both.1 (in-get xs i d (omega arith)) in
    let its : y.serial ≡ x.serial = ap (λ (z : Forwarding). z.serial) is in
    omega (arith, above, same, its)
removed-differs (y ∷ xs) (suc i) x d low high e l (inr h) same =
    let both = and_parts (nat_le low y.serial) (is_numbered (y.serial + 1) xs high) e in
    removed-differs xs i x d (y.serial + 1) high both.1 (omega arith) h same

pub one-serial : (xs : List Forwarding) (x z : Forwarding) (low high : ℕ) → is_numbered low xs high ≡ true → In x xs → In z xs
    → x.serial ≡ z.serial → x ≡ z
one-serial [] x z low high e h k same = absurd h
one-serial (y ∷ xs) x z low high e (inl a) (inl b) same = sym a ∙ b
one-serial (y ∷ xs) x z low high e (inl a) (inr k) same =
    let both = and_parts (nat_le low y.serial) (is_numbered (y.serial + 1) xs high) e in
    let above = numbered-above xs z (y.serial + 1) high both.1 k in
    let its : y.serial ≡ x.serial = ap (λ (w : Forwarding). w.serial) a in
    absurd (omega (arith, above, same, its))
one-serial (y ∷ xs) x z low high e (inr h) (inl b) same =
    let both = and_parts (nat_le low y.serial) (is_numbered (y.serial + 1) xs high) e in
    let above = numbered-above xs x (y.serial + 1) high both.1 h in
    let its : y.serial ≡ z.serial = ap (λ (w : Forwarding). w.serial) b in
    absurd (omega (arith, above, same, its))
one-serial (y ∷ xs) x z low high e (inr h) (inr k) same =
    let both = and_parts (nat_le low y.serial) (is_numbered (y.serial + 1) xs high) e in
    one-serial xs x z (y.serial + 1) high both.1 h k same

-- ---- requests have an outcome

never-none : (at : ℕ) (o : RequestOutcome) (x : Option (ℕ × RequestOutcome)) → ask_settled_at at o x ≡ None → ⊥
never-none at o None e = cc
never-none at o (Some y) e = cc

unsettled-if : (P R : Waiting → Type 0) (at : ℕ) (o : RequestOutcome) (w : Waiting) (b : Bool) → (b ≡ false → w.outcome ≡ None → P w → R w)
    → Unsettled P w → Unsettled R (if b then record w { outcome = ask_settled_at at o w.outcome } else w)
unsettled-if P R at o w true step h = λ none. absurd (never-none at o w.outcome none)
unsettled-if P R at o w false step h = λ none. step refl none (h none)

-- those that are left have no outcome
pub all-unsettled : (P R : Waiting → Type 0) (serial : ℕ) (opening : Bool) (at : ℕ) (o : RequestOutcome) (ws : List Waiting)
    → ((w : Waiting) → is_ask_about serial opening w ≡ false → w.outcome ≡ None → P w → R w)
    → All (Unsettled P) ws → All (Unsettled R) (requests_settled serial opening at o ws)
all-unsettled P R serial opening at o ws step h =
    All-map (Unsettled R) (settle_one serial opening at o) ws
    (All-weaker (Unsettled P) (λ (w : Waiting). Unsettled R (settle_one serial opening at o w))
    (λ w u. unsettled-if P R at o w (is_ask_about serial opening w) (step w) u) ws h)

pub all-unrefused : (P R : Waiting → Type 0) (serial at : ℕ) (ws : List Waiting)
    → ((w : Waiting) → is_ask_about serial true w ≡ false → is_ask_about serial false w ≡ false → w.outcome ≡ None → P w → R w)
    → All (Unsettled P) ws → All (Unsettled R) (all_requests_refused serial at ws)
all-unrefused P R serial at ws step h =
    all-unsettled (λ (w : Waiting). (is_ask_about serial true w ≡ false) × P w) R serial false (one_more_outcome at) Refused
    (requests_settled serial true at Refused ws) (λ w other none p. step w p.0 other none p.1)
    (all-unsettled P (λ (w : Waiting). (is_ask_about serial true w ≡ false) × P w) serial true at Refused ws
    (λ w other none p. (other, p)) h)

first-false : (a b : Bool) → (a && b) ≡ false → b ≡ true → a ≡ false
first-false true b e f = absurd (both_ways b e f)
first-false false b e f = refl

same-self : (b : Bool) → same b b ≡ true
same-self true = refl
same-self false = refl

-- a request of this kind that isn't about a forwarding is about another
pub of-other : (serial : ℕ) (opening : Bool) (w : Waiting) → w.opening ≡ opening → is_ask_about serial opening w ≡ false
    → (w.forwarding == serial) ≡ false
of-other serial opening w is e = first-false (w.forwarding == serial) (same w.opening opening) e
    (ap (λ b. same b opening) is ∙ same-self opening)

neither-if : (serial : ℕ) (w : Waiting) (b : Bool) → w.opening ≡ b → is_ask_about serial true w ≡ false → is_ask_about serial false w ≡ false
    → (w.forwarding == serial) ≡ false
neither-if serial w true is e f = of-other serial true w is e
neither-if serial w false is e f = of-other serial false w is f

pub of-neither : (serial : ℕ) (w : Waiting) → is_ask_about serial true w ≡ false → is_ask_about serial false w ≡ false
    → (w.forwarding == serial) ≡ false
of-neither serial w e f = neither-if serial w w.opening refl e f

-- ---- forwardings go on

serial-if : (b : Bool) (f : Forwarding) (s : Stage) (c : Bool) → (if b then record f { stage = s; closing = c } else f).serial ≡ f.serial
serial-if true f s c = refl
serial-if false f s c = refl

pub changed-serial : (c : Change) (serial : ℕ) (f : Forwarding) → (forwarding_changed c serial f).serial ≡ f.serial
changed-serial c serial f = serial-if (f.serial == serial) f (listener_stage_after c f.listen_port f.stage) (closing_after c f.closing)

pub changed-other : (c : Change) (serial : ℕ) (f : Forwarding) → (f.serial == serial) ≡ false → forwarding_changed c serial f ≡ f
changed-other c serial f e = rw e refl

stage-outcome : (c : Change) (asked n : ℕ) (s : Stage) → IsSteady c → outcome_at s n ≡ None → outcome_at (listener_stage_after c asked s) n ≡ None
stage-outcome c asked n (ToListen host) steady e = refl
stage-outcome c asked n Ordered steady e = refl
stage-outcome c asked n (Listening l) steady e = cc
stage-outcome change.Close asked n ToRequest steady e = refl
stage-outcome change.ForwardingRequest asked n ToRequest steady e = refl
stage-outcome change.Cancel asked n ToRequest steady e = refl
stage-outcome (change.Live p) asked n ToRequest steady e = refl
stage-outcome change.Stay asked n ToRequest steady e = refl
stage-outcome change.Close asked n Requested steady e = refl
stage-outcome change.ForwardingRequest asked n Requested steady e = refl
stage-outcome change.Cancel asked n Requested steady e = refl
stage-outcome (change.Live p) asked n Requested steady e = absurd steady
stage-outcome change.Stay asked n Requested steady e = refl
stage-outcome c asked n (Live p) steady e = cc
stage-outcome c asked n (Cancelling p) steady e = cc

-- none becomes live but what is asked for
live-outcome : (chosen : Option ℕ) (asked n : ℕ) (s : Stage) → asks_at s ≡ false → outcome_at s n ≡ None
    → outcome_at (listener_stage_after (change.Live chosen) asked s) n ≡ None
live-outcome chosen asked n (ToListen host) a e = refl
live-outcome chosen asked n Ordered a e = refl
live-outcome chosen asked n (Listening l) a e = cc
live-outcome chosen asked n ToRequest a e = refl
live-outcome chosen asked n Requested a e = cc
live-outcome chosen asked n (Live p) a e = cc
live-outcome chosen asked n (Cancelling p) a e = cc

holds-if : (c : Change) (opening : Bool) (f : Forwarding) (b : Bool) → Holds opening f
    → (b ≡ true → Holds opening (record f { stage = listener_stage_after c f.listen_port f.stage; closing = closing_after c f.closing }))
    → Holds opening (if b then record f { stage = listener_stage_after c f.listen_port f.stage; closing = closing_after c f.closing } else f)
holds-if c opening f true h k = k refl
holds-if c opening f false h k = h

-- its forwarding goes on
pub fate-changed : (c : Change) (serial : ℕ) (all : List Forwarding) (w : Waiting) (fate : HasFate all w)
    → (fate.0.serial ≡ serial → Holds w.opening (record fate.0 {
      stage = listener_stage_after c fate.0.listen_port fate.0.stage;
      closing = closing_after c fate.0.closing;
    })) → HasFate (map (forwarding_changed c serial) all) w
fate-changed c serial all w fate k =
    let f = fate.0 in (
      forwarding_changed c serial f,
      in-map (forwarding_changed c serial) f all fate.1,
      changed-serial c serial f ∙ fate.2,
      holds-if c w.opening f (f.serial == serial) fate.3 (λ is. k (eqb-true f.serial serial is)),
    )

-- a change but Live and Stay
abbrev pub IsSent : Change → Type 0
IsSent change.Close = Unit {0}
IsSent change.ForwardingRequest = Unit {0}
IsSent change.Cancel = Unit {0}
IsSent (change.Live port) = ⊥
IsSent change.Stay = ⊥

said-closing : (c : Change) (b : Bool) → IsSent c → b ≡ true → closing_after c b ≡ true
said-closing change.Close b s e = refl
said-closing change.ForwardingRequest b s e = e
said-closing change.Cancel b s e = e
said-closing (change.Live port) b s e = absurd s
said-closing change.Stay b s e = absurd s

said-steady : (c : Change) → IsSent c → IsSteady c
said-steady change.Close s = tt
said-steady change.ForwardingRequest s = tt
said-steady change.Cancel s = tt
said-steady (change.Live port) s = absurd s
said-steady change.Stay s = absurd s

pub said-holds : (c : Change) (opening : Bool) (f : Forwarding) → IsSent c → Holds opening f
    → Holds opening (record f { stage = listener_stage_after c f.listen_port f.stage; closing = closing_after c f.closing })
said-holds c true f s h = stage-outcome c f.listen_port f.listen_port f.stage (said-steady c s) h
said-holds c false f s h = said-closing c f.closing s h

pub live-holds : (chosen : Option ℕ) (opening : Bool) (f : Forwarding) → (opening ≡ true → asks_at f.stage ≡ false) → Holds opening f
    → Holds opening (record f { stage = listener_stage_after (change.Live chosen) f.listen_port f.stage; closing = f.closing })
live-holds chosen true f a h = live-outcome chosen f.listen_port f.listen_port f.stage (a refl) h
live-holds chosen false f a h = h

pub stay-holds : (f : Forwarding) (c : Bool) → forwarding_outcome_of f ≡ None
    → forwarding_outcome_of (record f { stage = listener_stage_after change.Stay f.listen_port f.stage; closing = c }) ≡ None
stay-holds f c h = stage-outcome change.Stay f.listen_port f.listen_port f.stage tt h

-- ---- requests

pub awaits-more : (s : Stage) (n : ℕ) (rs more : List ForwardingRequest) → ((r : ForwardingRequest) → In r rs → In r more) → StageAwaits s n rs → StageAwaits s n more
awaits-more (ToListen host) n rs more k h = tt
awaits-more Ordered n rs more k h = h
awaits-more (Listening l) n rs more k h = tt
awaits-more ToRequest n rs more k h = tt
awaits-more Requested n rs more k h = k (Listen n) h
awaits-more (Live port) n rs more k h = tt
awaits-more (Cancelling port) n rs more k h = k (Cancel n) h

pub listen-awaits : (s : Stage) (asked n : ℕ) (rs : List ForwardingRequest) → In (Listen n) rs → StageAwaits s n rs
    → StageAwaits (listener_stage_after change.ForwardingRequest asked s) n rs
listen-awaits (ToListen host) asked n rs k h = tt
listen-awaits Ordered asked n rs k h = h
listen-awaits (Listening l) asked n rs k h = tt
listen-awaits ToRequest asked n rs k h = k
listen-awaits Requested asked n rs k h = h
listen-awaits (Live port) asked n rs k h = tt
listen-awaits (Cancelling port) asked n rs k h = h

pub cancel-awaits : (s : Stage) (asked n : ℕ) (rs : List ForwardingRequest) → In (Cancel n) rs → StageAwaits s n rs
    → StageAwaits (listener_stage_after change.Cancel asked s) n rs
cancel-awaits (ToListen host) asked n rs k h = tt
cancel-awaits Ordered asked n rs k h = h
cancel-awaits (Listening l) asked n rs k h = tt
cancel-awaits ToRequest asked n rs k h = tt
cancel-awaits Requested asked n rs k h = h
cancel-awaits (Live port) asked n rs k h = k
cancel-awaits (Cancelling port) asked n rs k h = h

pub close-awaits : (s : Stage) (asked n : ℕ) (rs : List ForwardingRequest) → StageAwaits s n rs
    → StageAwaits (listener_stage_after change.Close asked s) n rs
close-awaits (ToListen host) asked n rs h = tt
close-awaits Ordered asked n rs h = h
close-awaits (Listening l) asked n rs h = tt
close-awaits ToRequest asked n rs h = tt
close-awaits Requested asked n rs h = h
close-awaits (Live port) asked n rs h = tt
close-awaits (Cancelling port) asked n rs h = h

rest-of : (r x : ForwardingRequest) (rs : List ForwardingRequest) → (r ≡ x → ⊥) → In x (r ∷ rs) → In x rs
rest-of r x rs differ (inl e) = absurd (differ e)
rest-of r x rs differ (inr h) = h

-- the first request is answered
pub live-awaits : (s : Stage) (chosen : Option ℕ) (asked n serial : ℕ) (rs : List ForwardingRequest) → StageAwaits s n (Listen serial ∷ rs)
    → StageAwaits (listener_stage_after (change.Live chosen) asked s) n rs
live-awaits (ToListen host) chosen asked n serial rs h = tt
live-awaits Ordered chosen asked n serial rs h = h
live-awaits (Listening l) chosen asked n serial rs h = tt
live-awaits ToRequest chosen asked n serial rs h = tt
live-awaits Requested chosen asked n serial rs h = tt
live-awaits (Live port) chosen asked n serial rs h = tt
live-awaits (Cancelling port) chosen asked n serial rs h = rest-of (Listen serial) (Cancel n) rs (λ e. cc) h

pub stay-awaits : (s : Stage) (asked n serial : ℕ) (rs : List ForwardingRequest) → StageAwaits s n (Cancel serial ∷ rs)
    → StageAwaits (listener_stage_after change.Stay asked s) n rs
stay-awaits (ToListen host) asked n serial rs h = tt
stay-awaits Ordered asked n serial rs h = h
stay-awaits (Listening l) asked n serial rs h = tt
stay-awaits ToRequest asked n serial rs h = tt
stay-awaits Requested asked n serial rs h = rest-of (Cancel serial) (Listen n) rs (λ e. cc) h
stay-awaits (Live port) asked n serial rs h = tt
stay-awaits (Cancelling port) asked n serial rs h = tt

pub other-awaits : (s : Stage) (n : ℕ) (r : ForwardingRequest) (rs : List ForwardingRequest) → (asks_at s ≡ true → r ≡ Listen n → ⊥)
    → (cancels_at s ≡ true → r ≡ Cancel n → ⊥) → StageAwaits s n (r ∷ rs) → StageAwaits s n rs
other-awaits (ToListen host) n r rs a c h = tt
other-awaits Ordered n r rs a c h = h
other-awaits (Listening l) n r rs a c h = tt
other-awaits ToRequest n r rs a c h = tt
other-awaits Requested n r rs a c h = rest-of r (Listen n) rs (a refl) h
other-awaits (Live port) n r rs a c h = tt
other-awaits (Cancelling port) n r rs a c h = rest-of r (Cancel n) rs (c refl) h
