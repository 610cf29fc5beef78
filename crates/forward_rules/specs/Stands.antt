-- A list of forwardings represents those of a history that are asked or live.
use Rattle.std.specs.Prelude.{◌≡◌, ◌≤◌, ◌<◌, ℕ, ◌==◌, ◌&&◌, Bool, true, false, List, [], ◌∷◌, length, filter, find, Some, None, is_some, is_none, unwrap_or, nat_lt, slice_get}
use Rattle.std.specs.List.{AllByRecursion}
use Rattle.ssh_grammar.specs.Messages as full
use Rattle.mux_history.specs.declared.limits.TheConstants.{MAX_FORWARDINGS}
use Rattle.mux_history.specs.Channels.{is_number}
use Rattle.mux_history.specs.Rows.{Row}
use Rattle.mux_history.specs.Requests.{Ask, wanted_requests, replies}
use Rattle.mux_history.specs.Forwardings.{Forwarding}
use Rattle.forward_rules.specs.State.{Forward}
use Rattle.forward_rules.specs.Step.{unanswered_cancels, forward_count_of}

-- one forwarding
pub record ForwardingFits (f : Forward) (g : Forwarding) : Type 0 where
  pub client : f.client ≡ g.client
  pub key : f.key ≡ unwrap_or g.live g.key
  pub live : f.live ≡ is_some g.live
  pub cancel : is_some f.cancel ≡ is_some g.cancel
  pub on : g.over ≡ false

-- one by one
abbrev pub AreForwardsListed : List Forward → List Forwarding → Type 0
AreForwardsListed [] [] = Unit {0}
AreForwardsListed [] (g ∷ gs) = ⊥
AreForwardsListed (f ∷ fs) [] = ⊥
AreForwardsListed (f ∷ fs) (g ∷ gs) = ForwardingFits f g × AreForwardsListed fs gs

-- of two of one client, the cancel of the one was sent before that of the other in both
abbrev pub InOrder : Forward → Forwarding → Forward → Forwarding → Type 0
InOrder f g f' g' =
    (r q r' q' : ℕ) → g.client ≡ g'.client → f.cancel ≡ Some r → g.cancel ≡ Some q
    → f'.cancel ≡ Some r' → g'.cancel ≡ Some q' → (nat_lt r r' ≡ nat_lt q q')
    × (nat_lt r' r ≡ nat_lt q' q)

-- one and each after it
abbrev pub InOrderWith : Forward → Forwarding → List Forward → List Forwarding → Type 0
InOrderWith f g [] gs = Unit {0}
InOrderWith f g fs [] = Unit {0}
InOrderWith f g (f' ∷ fs) (g' ∷ gs) = InOrder f g f' g' × InOrderWith f g fs gs

-- each two
abbrev pub AreForwardingsInOrder : List Forward → List Forwarding → Type 0
AreForwardingsInOrder [] gs = Unit {0}
AreForwardingsInOrder fs [] = Unit {0}
AreForwardingsInOrder (f ∷ fs) (g ∷ gs) = InOrderWith f g fs gs × AreForwardingsInOrder fs gs

-- the wanted requests that were sent, and how many of them have a reply
pub record Places : Type 0 where
  pub asked : List Ask
  pub replied : ℕ

abbrev pub places_of : List Row → Places
places_of rows = record { asked = wanted_requests rows; replied = length (replies rows) }

-- what waits for a reply: the request of one that is asked, and the cancel of one that is to end,
-- at places whose replies did not come
pub record IsAwaited (own : Places) (g : Forwarding) : Type 0 where
  pub asked : g.live ≡ None → (own.replied ≤ g.request)
      × (slice_get own.asked g.request
      ≡ Some (record { client = g.client; what = full.Forward g.key }))
  pub leaving : (q : ℕ) → g.cancel ≡ Some q → (own.replied ≤ q)
      × (slice_get own.asked q
      ≡ Some (record { client = g.client; what = full.Cancel (unwrap_or g.live g.key) }))
  pub either : g.live ≡ None → g.cancel ≡ None

-- no two wait at one place
pub record AreTwoPlaces (g h : Forwarding) : Type 0 where
  pub asked : g.client ≡ h.client → g.live ≡ None → h.live ≡ None → g.request < h.request
  pub leaving : (q : ℕ) → g.client ≡ h.client → g.cancel ≡ Some q → h.cancel ≡ Some q → ⊥

-- each two
abbrev pub EachTwo : List Forwarding → Type 0
EachTwo [] = Unit {0}
EachTwo (g ∷ gs) = AllByRecursion (AreTwoPlaces g) gs × EachTwo gs

-- whose request waits at a place
abbrev pub request_waits_at : ℕ → Forwarding → Bool
request_waits_at place g = is_none g.live && (g.request == place)

-- whose cancel waits at a place
abbrev pub cancel_waits_at : ℕ → Forwarding → Bool
cancel_waits_at place g = is_number g.cancel place

-- what waits at a place is that of a forwarding
abbrev pub HasAt : ℕ → full.Global → List Forwarding → Type 0
HasAt place (full.Forward key) gs = is_some (find (request_waits_at place) gs) ≡ true
HasAt place (full.Cancel key) gs = is_some (find (cancel_waits_at place) gs) ≡ true
HasAt place what gs = Unit {0}

-- each request and each cancel without a reply is that of a forwarding
abbrev pub EachHas : Places → List Forwarding → Type 0
EachHas own gs = (place : ℕ) (a : Ask) → own.replied ≤ place → slice_get own.asked place ≡ Some a
    → HasAt place a.what gs

-- fewer cancels of its client were sent before that of one than there are
abbrev pub IsRanked : List Forward → Forward → Type 0
IsRanked fs f = (r : ℕ) → f.cancel ≡ Some r → r < unanswered_cancels f.client fs

-- the list represents these forwardings, at most 64 a client, where these are the requests of each
-- client, and these clients are lost
pub record AreFit (fs : List Forward) (gs : List Forwarding) (own : ℕ → Places) (lost : ℕ
    → Bool) : Type 0 where
  pub listed : AreForwardsListed fs gs
  pub in_order : AreForwardingsInOrder fs gs
  pub awaited : AllByRecursion (λ g. IsAwaited (own g.client) g) gs
  pub two : EachTwo gs
  pub few : (k : ℕ) → forward_count_of fs k ≤ MAX_FORWARDINGS
  pub each : (k : ℕ) → lost k ≡ false → EachHas (own k) (filter (λ g. g.client == k) gs)
  pub ranked : AllByRecursion (IsRanked fs) fs
