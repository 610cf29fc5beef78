-- At rest nothing is held of a stream that may give bytes.
use Rattle.std.proofs.Common.{◌≡◌, ◌∙◌, refl, sym, ap, ℕ, Bool, true, false, cond, List, [], ◌∷◌, Option, Some, None}
use Rattle.std.specs.Prelude.{◌||◌, ◌&&◌, ◌==◌, not, if◌then◌else◌, find, is_some, IfSome}
use Rattle.std.specs.List.{list_any, cons_option}
use Rattle.std.proofs.lemmas.Bool.{and_parts, or_parts, eqb-true, eq-eqb, not-true}
use Rattle.mux_outside.specs.OwnStreams.{is_silent}
use Rattle.mux_outside.specs.declared.own_streams.OwnStream.{OwnStream}
use Rattle.house_relay.specs.Next.{sends_of, orders_of}
use Rattle.house_relay.specs.Relay.{socket_stream_of}
use Rattle.house_relay.specs.declared.relay.Relay.{Relay}
use Rattle.house_relay.proofs.Resting.{silent, rests}
use Rattle.house_relay.proofs.Whole.{empty-at-rest}
use Rattle.house_forward.specs.Links.{own_stream_of, streams_of, numbered, is_link_number, is_relay_stream, order_in, has_order, has_sending}
use Rattle.house_forward.specs.Quiet.{sends_none, orders_none}
use Rattle.house_forward.specs.declared.asks.Waiting.{Waiting}
use Rattle.house_forward.specs.declared.forwarding.Forwarding.{Forwarding}
use Rattle.house_forward.specs.declared.link.Link.{Link}
use Rattle.house_forward.specs.declared.link.LinkStream.{LinkStream}
use Rattle.house_forward.specs.declared.link.LinkStream.TheVariants.{Offered, Awaited, Made, Gone}

-- ---- one link

second-false : (a b : Bool) → a ≡ true → (a && b) ≡ false → b ≡ false
second-false true b e f = f
second-false false b e f = cc

-- a stream that isn't silent isn't paused
loud : (own : OwnStream) (t : ℕ) (ss : List OwnStream) → is_silent t (own ∷ ss) ≡ false → own.number ≡ t → own.paused ≡ false
loud own t ss e is =
    let both = or_parts ((own.number == t) && (own.paused || own.ended)) (is_silent t ss) e in
    let neither = second-false (own.number == t) (own.paused || own.ended) (eq-eqb own.number t is) both.0 in
    (or_parts own.paused own.ended neither).0

loud-later : (o : Option OwnStream) (ss : List OwnStream) (t : ℕ) → is_silent t (cons_option o ss) ≡ false → is_silent t ss ≡ false
loud-later None ss t e = e
loud-later (Some own) ss t e = (or_parts ((own.number == t) && (own.paused || own.ended)) (is_silent t ss) e).1

its-number : (o : Option ℕ) (t : ℕ) → is_link_number t o ≡ true → o ≡ Some t
its-number None t e = cc
its-number (Some s) t e = ap (λ k. Some k) (eqb-true s t e)

pub none-of : {X : Type 0} (o : Option X) → is_some o ≡ false → o ≡ None
none-of None e = refl
none-of (Some x) e = cc

pub no-order : {X : Type 0} (b : Bool) (o : Option X) → b ≡ true → is_some (if b then o else None) ≡ false → o ≡ None
no-order true o e f = none-of o f
no-order false o e f = cc

link-rests : (s : LinkStream) (r : Relay) (t : ℕ) (ss : List OwnStream) → (numbered t s && is_link_number t (socket_stream_of r.socket)) ≡ true
    → is_some (order_in s r) ≡ false → is_some (sends_of r) ≡ false → is_silent t (cons_option (own_stream_of s) ss) ≡ false
    → r.held.waiting ≡ []
link-rests (Offered host port) r t ss is order outgoing e = cc
link-rests Awaited r t ss is order outgoing e = cc
link-rests (Made own) r t ss is order outgoing e =
    let both = and_parts (own.number == t) (is_link_number t (socket_stream_of r.socket)) is in
    let same = eqb-true own.number t both.0 in
    let has : socket_stream_of r.socket ≡ Some own.number = its-number (socket_stream_of r.socket) t both.1 ∙ ap (λ k. Some k) (sym same) in
    let its : is_link_number own.number (socket_stream_of r.socket) ≡ true = ap (is_link_number own.number) has ∙ eq-eqb own.number own.number refl in
    empty-at-rest r own (silent r (none-of (sends_of r) outgoing))
    (rests r own has (no-order (is_link_number own.number (socket_stream_of r.socket)) (orders_of r own) its order)) (loud own t ss e same)
link-rests Gone r t ss is order outgoing e = cc

-- ---- all links

first-or : (P : Link → Type 0) (b : Bool) (l : Link) (o : Option Link) → (b ≡ true → P l) → IfSome o P → IfSome (cond b (Some l) o) P
first-or P true l o first rest = first refl
first-or P false l o first rest = rest

nothing-held : (ls : List Link) (t : ℕ) → list_any has_order ls ≡ false → list_any has_sending ls ≡ false
    → is_silent t (streams_of ls) ≡ false → IfSome (find (is_relay_stream t) ls) (λ l. l.relay.held.waiting ≡ [])
nothing-held [] t order outgoing e = tt
nothing-held (l ∷ ls) t order outgoing e =
    let orders = or_parts (has_order l) (list_any has_order ls) order in
    let says = or_parts (has_sending l) (list_any has_sending ls) outgoing in
    first-or (λ (z : Link). z.relay.held.waiting ≡ []) (is_relay_stream t l) l (find (is_relay_stream t) ls)
    (λ is. link-rests l.stream l.relay t (streams_of ls) is orders.0 says.0 e)
    (nothing-held ls t orders.1 says.1 (loud-later (own_stream_of l.stream) (streams_of ls) t e))

pub held-at-rest : (greeted : Bool) (fs : List Forwarding) (ls : List Link) (waiting : List Waiting) (t : ℕ)
    → sends_none greeted fs ls ≡ true → orders_none fs ls waiting ≡ true → is_silent t (streams_of ls) ≡ false
    → IfSome (find (is_relay_stream t) ls) (λ l. l.relay.held.waiting ≡ [])
held-at-rest greeted fs ls waiting t outgoing order e =
    let says = and_parts _ (not (list_any has_sending ls)) (and_parts greeted _ outgoing).1 in
    let orders = and_parts (not (list_any has_order ls)) _ order in
    nothing-held ls t (not-true (list_any has_order ls) orders.0) (not-true (list_any has_sending ls) says.1) e
