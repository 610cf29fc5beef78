-- How the relays go on.
use Rattle.std.proofs.Common.{◌≡◌, ◌∙◌, refl, ap, ℕ, true, List, [], ◌∷◌, ◌++◌, get_or, set, Option, Some, None, false}
use Rattle.std.specs.Prelude.{Result, Ok, Err, OnOk, IfSome, is_some, find}
use Rattle.std.specs.List.{remove}
use Rattle.mux_outside.specs.OwnStreams.{is_one}
use Rattle.mux_outside.specs.declared.order.Order.{Order}
use Rattle.house_relay.specs.Steps.{made_as}
use Rattle.house_relay.specs.declared.relay.Relay.{Relay}
use Rattle.house_relay.specs.declared.relay.Outgoing.{Outgoing}
use Rattle.house_forward.specs.Going.{RelayGoesAt, LeavesAt, AwaitsAt, MakesAt, Obeys, swept}
use Rattle.house_forward.specs.Links.{streams_of, has_order, IsOrderOf, made_stream, obeyed}
use Rattle.house_forward.specs.Said.{framed, payload_of, payload_if}
use Rattle.house_forward.specs.declared.link.Link.{Link}
use Rattle.house_forward.specs.declared.link.LinkStream.{LinkStream}
use Rattle.house_forward.specs.declared.link.LinkStream.TheVariants.{Awaited}

pub goes-at : (o : Option ℕ) (i : ℕ) (so : Relay → Relay → Type 0) (ls : List Link) (x : Link) (r : Relay) → o ≡ Some i
    → x ≡ get_or ls i x → so x.relay r → RelayGoesAt o so ls (set ls i (record x { relay = r }))
goes-at o i so ls x r e at goes = rw e (x, r, at, goes, refl)

same-link : (x y : Link) → y.stream ≡ x.stream → y ≡ record x { relay = y.relay }
same-link x y e = ap (λ (s : LinkStream). record y { stream = s }) e

pub went-at : (i : ℕ) (so : Relay → Relay → Type 0) (ls : List Link) (x y : Link) → x ≡ get_or ls i x → y.stream ≡ x.stream
    → so x.relay y.relay → RelayGoesAt (Some i) so ls (set ls i y)
went-at i so ls x y at same goes = (x, y.relay, at, goes, ap (λ (z : Link). set ls i z) (same-link x y same))

pub leaves : (o : Option ℕ) (i : ℕ) (so : Relay → Relay → Type 0) (old now new : List Link) → o ≡ Some i
    → RelayGoesAt (Some i) so old now → new ≡ swept now → LeavesAt o so old new
leaves o i so old now new e goes same = rw e (now, goes, same)

pub said-one : (r : Relay) (o : Option Outgoing) (bytes : List ℕ) → is_some o ≡ true
    → IfSome o (λ outgoing. bytes ≡ framed (payload_of r outgoing)) → bytes ≡ framed (payload_if r o)
said-one r None bytes is h = cc
said-one r (Some outgoing) bytes is h = h

pub on-ok : {X E A B : Type 0} (o : Result X E) → (A → B) → OnOk o A → OnOk o B
on-ok (Ok x) f a = f a
on-ok (Err e) f a = tt

pub on-both : {X E : Type 0} (A B : Type 0) (o : Result X E) → OnOk o A → OnOk o B → OnOk o (A × B)
on-both A B (Ok x) a b = (a, b)
on-both A B (Err e) a b = tt

pub on-three : {X E : Type 0} (A B C : Type 0) (o : Result X E) → OnOk o A → OnOk o B → OnOk o C → OnOk o (A × B × C)
on-three A B C (Ok x) a b c = (a, b, c)
on-three A B C (Err e) a b c = tt

-- ---- what is ordered

-- the one that is found first obeys an order that it may give
pub obeys-first : (o : Order) (old now new : List Link) (x : Link) → find has_order old ≡ Some x → IsOrderOf o x
    → now ≡ obeyed o old → new ≡ swept now → Obeys (Some o) old new
obeys-first o old now new x found may is same = (rw found may, same ∙ ap swept is)

pub awaits-at : (o : Option ℕ) (i : ℕ) (ls : List Link) (x y : Link) → o ≡ Some i → x ≡ get_or ls i x
    → y ≡ record x { stream = Awaited } → AwaitsAt o ls (set ls i y)
awaits-at o i ls x y e at is = rw e (x, at, ap (λ (z : Link). set ls i z) is)

link-of : (y : Link) (r : Relay) (s : LinkStream) → y.relay ≡ r → y.stream ≡ s → y ≡ record { relay = r; stream = s }
link-of y r s e f = ap (λ (z : Relay). record y { relay = z }) e ∙ ap (λ (z : LinkStream). record y { relay = r; stream = z }) f

pub makes-at : (o : Option ℕ) (i : ℕ) (number : Option ℕ) (ls : List Link) (x y : Link) → o ≡ Some i → x ≡ get_or ls i x
    → y.stream ≡ made_stream number → y.relay ≡ record x.relay { socket = made_as number }
    → IfSome number (λ t. is_one t (streams_of ls) ≡ false) → MakesAt o number ls (remove ls i ++ y ∷ [])
makes-at o i number ls x y e at stream relay free = rw e (
  x,
  at,
  ap (λ (z : Link). remove ls i ++ z ∷ []) (link-of y (record x.relay { socket = made_as number }) (made_stream number) relay stream),
  free,
)
