-- The room for the farewells of all clients, where one of them goes on.
use Rattle.std.proofs.Common.{◌≡◌, ◌≤◌, ◌<◌, ◌+◌, ◌*◌, ℕ, zero, suc, Bool, true, false, List, [], ◌∷◌, length, get_or, set, cond, arith, subst}
use Rattle.proxy_frames.specs.State.{QueueState}
use Rattle.client_teardown.specs.declared.farewell.TheConstants.{FAREWELL_ROOM}
use Rattle.mux_peers.specs.State.{ClientState}
use Rattle.mux_peers.specs.Stands as stands
use Rattle.mux_peers.specs.Room.{HasRoom, LeavesRoom, served_in}

-- ---- how many are not lost

abbrev counted : Bool → ℕ
counted b = cond b 0 1

served-head : (c : ClientState) (cs : List ClientState) → length (served_in (c ∷ cs)) ≡ counted (stands.is_standing_lost c.peer.standing) + length (served_in cs)
served-head c cs = by_lost (stands.is_standing_lost c.peer.standing)
  where
    by_lost : (b : Bool) → length (cond b (served_in cs) (c.peer.number ∷ served_in cs)) ≡ counted b + length (served_in cs)
    by_lost true = omega arith
    by_lost false = omega arith

served-set : (i : ℕ) (x y : ClientState) (cs : List ClientState) → i < length cs
    → length (served_in cs) + counted (stands.is_standing_lost y.peer.standing) ≡ length (served_in (set cs i y)) + counted (stands.is_standing_lost (get_or cs i x).peer.standing)
served-set i x y [] lt = absurd (omega arith)
served-set zero x y (c ∷ cs) lt = omega (arith, served-head c cs, served-head y cs)
served-set (suc i) x y (c ∷ cs) lt = omega (arith, served-head c cs, served-head c (set cs i y), served-set i x y cs (omega arith))

served-at : (i : ℕ) (x : ClientState) (cs : List ClientState) → i < length cs → counted (stands.is_standing_lost (get_or cs i x).peer.standing) ≤ length (served_in cs)
served-at i x [] lt = absurd (omega arith)
served-at zero x (c ∷ cs) lt = omega (arith, served-head c cs)
served-at (suc i) x (c ∷ cs) lt = omega (arith, served-head c cs, served-at i x cs (omega arith))

-- ---- the room

room-some : (n a : ℕ) → 1 ≤ n → FAREWELL_ROOM * n ≤ a → FAREWELL_ROOM ≤ a
room-some n a some room = omega (arith, some, room)

-- where one of them isn't lost there is room for its farewell
pub room-at : (i : ℕ) (x : ClientState) (cs : List ClientState) (up : QueueState) → i < length cs → stands.is_standing_lost (get_or cs i x).peer.standing ≡ false → HasRoom cs up → FAREWELL_ROOM ≤ up.spare
room-at i x cs up lt here room = room-some (length (served_in cs)) up.spare (subst (λ b. counted b ≤ length (served_in cs)) here (served-at i x cs lt)) room

room-by : (b c : Bool) (n m u v : ℕ) → n + counted c ≡ m + counted b → u + cond c 0 FAREWELL_ROOM ≤ v + cond b 0 FAREWELL_ROOM → FAREWELL_ROOM * n ≤ u → FAREWELL_ROOM * m ≤ v
room-by true true n m u v e le room = omega (arith, e, le, room)
room-by true false n m u v e le room = omega (arith, e, le, room)
room-by false true n m u v e le room = omega (arith, e, le, room)
room-by false false n m u v e le room = omega (arith, e, le, room)

-- one that goes on leaves the room of all
pub room-set : (i : ℕ) (x y : ClientState) (cs : List ClientState) (up up' : QueueState) → i < length cs → LeavesRoom up up' (get_or cs i x) y → HasRoom cs up → HasRoom (set cs i y) up'
room-set i x y cs up up' lt leaves room =
    room-by (stands.is_standing_lost (get_or cs i x).peer.standing) (stands.is_standing_lost y.peer.standing) (length (served_in cs)) (length (served_in (set cs i y))) up.spare up'.spare (served-set i x y cs lt) leaves room
