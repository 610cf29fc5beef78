-- A listener is ordered where its forwarding is to listen.
use Rattle.std.proofs.Common.{◌≡◌, ◌∙◌, refl, sym, ap, subst, ℕ, suc, Bool, true, false, List, [], ◌∷◌, ◌++◌, get_or, set, take, drop, map, filter, Option, Some, None}
use Rattle.std.specs.Prelude.{if◌then◌else◌, find, is_some, IfSome, IsSomeAnd}
use Rattle.std.specs.List.{All, position, remove}
use Rattle.std.proofs.lemmas.List.Elements.{All-set, All-append, All-take, All-drop, All-filter, All-map, All-push}
use Rattle.std.proofs.lemmas.List.Quantifiers.{position-Some}
use Rattle.house_forward.specs.Forwardings.{IsAt, ListensFor, forwarding_changed, listener_stage_after, to_listen}
use Rattle.house_forward.specs.declared.forwarding.Change.{Change}
use Rattle.house_forward.specs.declared.forwarding.Change.TheVariants as change
use Rattle.house_forward.specs.declared.forwarding.Forwarding.{Forwarding}
use Rattle.house_forward.specs.declared.forwarding.Stage.{Stage}
use Rattle.house_forward.specs.declared.forwarding.Stage.TheVariants.{ToListen, Ordered, Listening, ToRequest, Requested, Live, Cancelling}
use Rattle.house_forward.specs.declared.forwardings.ListenerOrder.TheVariants.{Listen as ListensAt}
use Rattle.house_forward.specs.declared.two_texts.TwoTexts.{TwoTexts}
use Rattle.house_forward.proofs.Lists.{found-first}

abbrev pub Placed : List Forwarding → Type 0
Placed fs = All (λ f. IsAt f.stage f.listen_host) fs

stage-at : (c : Change) (port : ℕ) (s : Stage) (host : List ℕ) → IsAt s host → IsAt (listener_stage_after c port s) host
stage-at c port (ToListen texts) host h = h
stage-at c port Ordered host h = refl
stage-at c port (Listening l) host h = refl
stage-at change.Close port ToRequest host h = refl
stage-at change.ForwardingRequest port ToRequest host h = refl
stage-at change.Cancel port ToRequest host h = refl
stage-at (change.Live p) port ToRequest host h = refl
stage-at change.Stay port ToRequest host h = refl
stage-at change.Close port Requested host h = refl
stage-at change.ForwardingRequest port Requested host h = refl
stage-at change.Cancel port Requested host h = refl
stage-at (change.Live p) port Requested host h = refl
stage-at change.Stay port Requested host h = refl
stage-at change.Close port (Live p) host h = refl
stage-at change.ForwardingRequest port (Live p) host h = refl
stage-at change.Cancel port (Live p) host h = refl
stage-at (change.Live q) port (Live p) host h = refl
stage-at change.Stay port (Live p) host h = refl
stage-at change.Close port (Cancelling p) host h = refl
stage-at change.ForwardingRequest port (Cancelling p) host h = refl
stage-at change.Cancel port (Cancelling p) host h = refl
stage-at (change.Live q) port (Cancelling p) host h = refl
stage-at change.Stay port (Cancelling p) host h = refl

changed-if : (b : Bool) (f g : Forwarding) → IsAt f.stage f.listen_host → IsAt g.stage g.listen_host
    → IsAt (if b then g else f).stage (if b then g else f).listen_host
changed-if true f g h k = k
changed-if false f g h k = h

pub placed-changed : (c : Change) (serial : ℕ) (fs : List Forwarding) → Placed fs → Placed (map (forwarding_changed c serial) fs)
placed-changed c serial fs h = All-map (λ (f : Forwarding). IsAt f.stage f.listen_host) (forwarding_changed c serial) fs
    (λ i d l. changed-if _ (get_or fs i d) _ (h i d l) (stage-at c (get_or fs i d).listen_port (get_or fs i d).stage (get_or fs i d).listen_host (h i d l)))

pub placed-remove : (fs : List Forwarding) (i : ℕ) → Placed fs → Placed (remove fs i)
placed-remove fs i h = All-append (λ (f : Forwarding). IsAt f.stage f.listen_host) (take i fs) (drop (suc i) fs)
    (All-take (λ (f : Forwarding). IsAt f.stage f.listen_host) i fs h)
    (All-drop (λ (f : Forwarding). IsAt f.stage f.listen_host) (suc i) fs h)

pub placed-set : (fs : List Forwarding) (i : ℕ) (g : Forwarding) → IsAt g.stage g.listen_host → Placed fs → Placed (set fs i g)
placed-set fs i g k h = All-set (λ (f : Forwarding). IsAt f.stage f.listen_host) fs i g k h

pub placed-filter : (p : Forwarding → Bool) (fs : List Forwarding) → Placed fs → Placed (filter p fs)
placed-filter p fs h = All-filter p (λ (f : Forwarding). IsAt f.stage f.listen_host) fs h

pub placed_more : (fs : List Forwarding) (f : Forwarding) → Placed fs → IsAt f.stage f.listen_host → Placed (fs ++ f ∷ [])
placed_more fs f h k = All-push (λ (g : Forwarding). IsAt g.stage g.listen_host) fs f h k

-- the first that has no listener yet
pub first-placed : (fs : List Forwarding) (i : ℕ) (x : Forwarding) → position to_listen fs ≡ Some i → x ≡ get_or fs i x → Placed fs
    → (find to_listen fs ≡ Some x) × IsAt x.stage x.listen_host
first-placed fs i x e at h =
    let first = position-Some to_listen fs i x e in (
      found-first to_listen fs i x first.0 first.1 first.2 ∙ ap (λ (z : Forwarding). Some z) (sym at),
      subst (λ (z : Forwarding). IsAt z.stage z.listen_host) (sym at) (h i x first.0),
    )

pub listens-there : (o : Option (TwoTexts × ℕ)) (first : Option Forwarding) (f : Forwarding) → first ≡ Some f → IsAt f.stage f.listen_host
    → is_some o ≡ true → IfSome o (λ r. r.1 ≡ f.listen_port) → IfSome o (λ r. IsAt f.stage f.listen_host → r.0.one ≡ f.listen_host)
    → IsSomeAnd o (λ r. ListensFor (ListensAt r.0 r.1) first)
listens-there None first f e h some port host = cc
listens-there (Some r) first f e h some port host = rw e (host h, port)

pub listens-first : (texts : TwoTexts) (port : ℕ) (first : Option Forwarding) → ListensFor (ListensAt texts port) first
    → IfSome first (λ f. (texts.one ≡ f.listen_host) × (port ≡ f.listen_port))
listens-first texts port None h = absurd h
listens-first texts port (Some f) h = h
