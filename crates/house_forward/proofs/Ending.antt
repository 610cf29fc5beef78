-- What is closed was requested to close, and the request has no answer yet.
use Rattle.std.proofs.Common.{◌≡◌, ◌∙◌, refl, sym, ap, subst, ℕ, Bool, true, false, List, ◌∷◌, ◌++◌, [], inl, Option, Some, None}
use Rattle.std.specs.List.{Contains}
use Rattle.std.proofs.lemmas.Bool.{and_from, eq-eqb}
use Rattle.mux_outside.specs.declared.house.HouseReply.TheVariants as given
use Rattle.house_forward.specs.Asks.{requests_settled, settle_one, ask_settled_at, is_ask_about, same, request_waiting_for}
use Rattle.house_forward.specs.Causes.{rules_in, AreOne, IsFor, ServesAt, WaitsToClose, EachUnlisten, EachCancel, EachCancelReply, come_to, outcome_of_cancel}
use Rattle.house_forward.specs.ForwarderEvents.{ForwarderEvent}
use Rattle.house_forward.specs.ForwarderEvents.{Asks}
use Rattle.house_forward.specs.ForwardingState.{ForwardingState}
use Rattle.house_forward.specs.Forwardings.{has_request, requests_at, forwarding_request_at, listener_at, cancels_at, first_forwarding_request, replied_asks}
use Rattle.house_forward.specs.Rules.{listens_here}
use Rattle.house_forward.specs.declared.asks.RequestOutcome.{RequestOutcome}
use Rattle.house_forward.specs.declared.asks.RequestOutcome.TheVariants.{Done}
use Rattle.house_forward.specs.declared.asks.Waiting.{Waiting}
use Rattle.house_forward.specs.declared.forwarding.Forwarding.{Forwarding}
use Rattle.house_forward.specs.declared.forwarding.ForwardingRequest.{ForwardingRequest}
use Rattle.house_forward.specs.declared.forwarding.ForwardingRequest.TheVariants.{Cancel}
use Rattle.house_forward.specs.declared.forwarding.Stage.{Stage}
use Rattle.house_forward.specs.declared.forwarding.Stage.TheVariants.{ToListen, Ordered, Listening, ToRequest, Requested, Live, Cancelling}
use Rattle.house_forward.proofs.Caused.{one-is-for, one-granted, one-listens}
use Rattle.house_forward.proofs.Causing.{knows, found, next-closing}
use Rattle.house_forward.proofs.Members.{In, in-map, in-all, in-contains, all-in, found-in}
use Rattle.house_forward.proofs.Serving.{StageFits, Stands, Waits}
use Rattle.house_forward.proofs.Wanting.{IsCloser, wants}

-- ---- its ask

is-waiting-for : (n : ℕ) (w : Waiting) → IsCloser n w → w ≡ request_waiting_for w.client w.id false n
is-waiting-for n w c =
    ap (λ (b : Bool). record w { opening = b }) c.closes
    ∙ ap (λ (o : Option (ℕ × RequestOutcome)). record w { opening = false; outcome = o }) c.open_yet
    ∙ ap (λ (m : ℕ). record w { opening = false; outcome = None; forwarding = m }) c.of_it

-- it waits, and has no answer yet
waits-to-close : (home : ℕ → Forwarding) (serials : ℕ) (forwarder_events : List ForwarderEvent) (ws : List Waiting) (n : ℕ) (w : Waiting) → In w ws
    → IsCloser n w → Waits home serials forwarder_events w → (home n).serial ≡ n → WaitsToClose (home n) ws forwarder_events
waits-to-close home serials forwarder_events ws n w here c h is = record {
  client = w.client;
  id = w.id;
  ask = h.ask;
  later = h.later;
  earlier = h.earlier;
  were = h.were ∙ ap (λ (b : Bool). h.later ++ Asks w.client w.id b h.ask given.Later ∷ h.earlier) c.closes;
  open_yet = h.open_yet;
  is_for = subst (λ (m : ℕ). IsFor (rules_in h.earlier) false h.ask (home m)) c.of_it
      (subst (λ (b : Bool). IsFor (rules_in h.earlier) b h.ask (home w.forwarding)) c.closes h.is_for);
  waits = subst (Contains ws) (is-waiting-for n w c ∙ ap (λ (m : ℕ). request_waiting_for w.client w.id false m) (sym is)) (in-contains w ws here);
}

one-waits : (a f : Forwarding) (ws : List Waiting) (forwarder_events : List ForwarderEvent) → AreOne a f → WaitsToClose a ws forwarder_events → WaitsToClose f ws forwarder_events
one-waits a f ws forwarder_events one h = record {
  client = h.client;
  id = h.id;
  ask = h.ask;
  later = h.later;
  earlier = h.earlier;
  were = h.were;
  open_yet = h.open_yet;
  is_for = one-is-for (rules_in h.earlier) false h.ask a f one h.is_for;
  waits = subst (λ (m : ℕ). Contains ws (request_waiting_for h.client h.id false m)) one.serial h.waits;
}

-- ---- a listener

is-its : (n : ℕ) (w : Waiting) → IsCloser n w → is_ask_about n false w ≡ true
is-its n w c = and_from _ _ (eq-eqb w.forwarding n c.of_it) (ap (λ b. same b false) c.closes)

settled-one : (n at : ℕ) (o : RequestOutcome) (w : Waiting) → IsCloser n w → settle_one n false at o w ≡ come_to at o w
settled-one n at o w c = rw (is-its n w c) (ap (λ (x : Option (ℕ × RequestOutcome)). record w { outcome = ask_settled_at at o x }) c.open_yet)

-- it has this outcome
comes-to : (n at : ℕ) (o : RequestOutcome) (w : Waiting) (ws : List Waiting) → In w ws → IsCloser n w
    → Contains (requests_settled n false at o ws) (come_to at o (request_waiting_for w.client w.id false n))
comes-to n at o w ws here c =
    subst (Contains (requests_settled n false at o ws)) (settled-one n at o w c ∙ ap (come_to at o) (is-waiting-for n w c))
    (in-contains (settle_one n false at o w) (requests_settled n false at o ws) (in-map (settle_one n false at o) w ws here))

pub each-unlisten : EachUnlisten
unfolding waits-to-close one-waits
each-unlisten l forwarder_events old new left h =
    let k = knows forwarder_events old left in
    let c = next-closing (λ (x : Forwarding). In x old.all) old.waiting old.all h.serial l
    (all-in (λ (x : Forwarding). In x old.all) old.all (λ x here. here)) h.next in
    let n = c.f.serial in
    let at = in-all (Stands k.home old.serials forwarder_events) c.f old.all k.all c.holds in
    let fits : StageFits (Listening l) (k.home n) forwarder_events = subst (λ (s : Stage). StageFits s (k.home n) forwarder_events) c.stage_is at.stage in
    let ask = (wants forwarder_events old left).closers c.f c.holds c.closing_is in
    let w = ask.0 in
    let its = in-all (Waits k.home old.serials forwarder_events) w old.waiting k.waiting ask.1 in
    let f = c.f in
    record {
      forwarding = f;
      stands = in-contains f old.all c.holds;
      listens = ap listener_at c.stage_is;
      serves = one-listens (k.home n) f l forwarder_events at.same fits.1;
      asked = one-waits (k.home n) f old.waiting forwarder_events at.same
          (waits-to-close k.home old.serials forwarder_events old.waiting n w ask.1 ask.2 its at.same.serial);
      comes = subst (λ (ws : List Waiting). Contains ws (come_to old.done Done (request_waiting_for w.client w.id false n)))
          (ap (λ (m : ℕ). requests_settled m false old.done Done old.waiting) c.serial_is ∙ sym (ap (λ (d : ForwardingState). d.waiting) h.others))
          (comes-to n old.done Done w old.waiting ask.1 ask.2);
    }

-- ---- a cancel

cancels-by : (s : Stage) (a f : Forwarding) (closing : Bool) (forwarder_events : List ForwarderEvent) → AreOne a f → requests_at s closing ≡ true
    → forwarding_request_at s f.serial ≡ Cancel f.serial → StageFits s a forwarder_events → ServesAt s f forwarder_events × (closing ≡ true)
cancels-by (ToListen host) a f closing forwarder_events one e r h = cc
cancels-by Ordered a f closing forwarder_events one e r h = cc
cancels-by (Listening l) a f closing forwarder_events one e r h = cc
cancels-by ToRequest a f closing forwarder_events one e r h = cc
cancels-by Requested a f closing forwarder_events one e r h = cc
cancels-by (Live p) a f closing forwarder_events one e r h =
    ((ap listens_here (sym one.kind) ∙ h.0, one-granted a f p forwarder_events one h.1), e)
cancels-by (Cancelling p) a f closing forwarder_events one e r h = cc

pub each-cancel : EachCancel
each-cancel f forwarder_events old new left h e =
    let k = knows forwarder_events old left in
    let at = found (Stands k.home old.serials forwarder_events) has_request old.all f h.1 k.all in
    let both = cancels-by f.stage (k.home f.serial) f f.closing forwarder_events at.0.same at.1 e at.0.stage in
    let ask = (wants forwarder_events old left).closers f (found-in has_request f old.all h.1) both.1 in
    let its = in-all (Waits k.home old.serials forwarder_events) ask.0 old.waiting k.waiting ask.1 in
    record {
      serves = both.0;
      asked = one-waits (k.home f.serial) f old.waiting forwarder_events at.0.same
          (waits-to-close k.home old.serials forwarder_events old.waiting f.serial ask.0 ask.1 ask.2 its at.0.same.serial);
    }

-- ---- its reply

first-in : (rs : List ForwardingRequest) (r : ForwardingRequest) → first_forwarding_request rs ≡ Some r → In r rs
first-in [] r e = cc
first-in (q ∷ rs) r e = let same : q ≡ r = cc in inl same

serves-still : (s : Stage) (a f : Forwarding) (forwarder_events : List ForwarderEvent) → AreOne a f → cancels_at s ≡ true → StageFits s a forwarder_events → ServesAt s f forwarder_events
serves-still (ToListen host) a f forwarder_events one e h = cc
serves-still Ordered a f forwarder_events one e h = cc
serves-still (Listening l) a f forwarder_events one e h = cc
serves-still ToRequest a f forwarder_events one e h = cc
serves-still Requested a f forwarder_events one e h = cc
serves-still (Live p) a f forwarder_events one e h = cc
serves-still (Cancelling p) a f forwarder_events one e h = (ap listens_here (sym one.kind) ∙ h.0, one-granted a f p forwarder_events one h.1)

replied-asks : (success : Bool) (port : Option ℕ) (n : ℕ) (fs : List Forwarding) (at : ℕ) (ws : List Waiting)
    → replied_asks success port (Some (Cancel n)) fs at ws ≡ requests_settled n false at (outcome_of_cancel success) ws
replied-asks true port n fs at ws = refl
replied-asks false port n fs at ws = refl

pub each-cancel-reply : EachCancelReply
unfolding waits-to-close one-waits
each-cancel-reply n success port forwarder_events old new left h first =
    let k = knows forwarder_events old left in
    let its = (wants forwarder_events old left).said (Cancel n) (first-in old.requests (Cancel n) first) in
    let f = its.0 in
    let at = in-all (Stands k.home old.serials forwarder_events) f old.all k.all its.1 in
    let ask = (wants forwarder_events old left).closers f its.1 its.4 in
    let w = ask.0 in
    let waits = in-all (Waits k.home old.serials forwarder_events) w old.waiting k.waiting ask.1 in
    record {
      forwarding = f;
      stands = in-contains f old.all its.1;
      is = its.2;
      cancels = record {
        serves = serves-still f.stage (k.home f.serial) f forwarder_events at.same its.3 at.stage;
        asked = one-waits (k.home f.serial) f old.waiting forwarder_events at.same
            (waits-to-close k.home old.serials forwarder_events old.waiting f.serial w ask.1 ask.2 waits at.same.serial);
      };
      comes = subst (λ (ws : List Waiting). Contains ws (come_to old.done (outcome_of_cancel success) (request_waiting_for w.client w.id false n)))
          (sym (ap (λ (d : ForwardingState). d.waiting) h
          ∙ ap (λ (o : Option ForwardingRequest). replied_asks success port o old.all old.done old.waiting) first
          ∙ replied-asks success port n old.all old.done old.waiting))
          (subst (λ (m : ℕ). Contains (requests_settled m false old.done (outcome_of_cancel success) old.waiting)
          (come_to old.done (outcome_of_cancel success) (request_waiting_for w.client w.id false m))) its.2
          (comes-to f.serial old.done (outcome_of_cancel success) w old.waiting ask.1 ask.2));
    }
