-- The indices of a table, tied to the one list of its channels.
use Rattle.std.specs.Prelude.{◌≡◌, ◌≤◌, ◌↔◌, ℕ, Bool, false, ◌&&◌, nat_eq, List, [], ◌∷◌, map, filter, Option, Some, None}
use Rattle.std.specs.List.{AllByRecursion}
use Rattle.indexmap.specs.IndexMap.{IndexMap, get}
use Rattle.mux_history.specs.declared.limits.TheConstants.{MAX_CHANNELS}
use Rattle.channel_table.specs.Entries.{TableEntry, HasSmallNumbers, channel_count_of, entry_at, is_channel_of}

-- a client, and one of its own numbers
abbrev pub paired : ℕ → Option ℕ → Option (ℕ × ℕ)
paired k None = None
paired k (Some c) = Some (k, c)

-- a channel's client, and the client's own number for it
abbrev pub owner_in : Option TableEntry → Option (ℕ × ℕ)
owner_in None = None
owner_in (Some e) = paired e.channel.client e.channel.own

-- of the channel under a number
abbrev pub owner_at : List TableEntry → (number : ℕ) → Option (ℕ × ℕ)
owner_at es n = owner_in (entry_at es n)

-- the server's number for a channel
abbrev pub remote_in : Option TableEntry → Option ℕ
remote_in None = None
remote_in (Some e) = e.channel.remote

-- for the channel under a number
abbrev pub remote_at : List TableEntry → (number : ℕ) → Option ℕ
remote_at es n = remote_in (entry_at es n)

-- the numbers of a client's channels, in the order in which they began
abbrev pub channel_numbers_of : List TableEntry → (client : ℕ) → List ℕ
channel_numbers_of es k = map (λ (e : TableEntry). e.number) (filter (is_channel_of k) es)

-- ---- the indices

-- both numbers of two pairs are the same
abbrev pub pair_eq : (ℕ × ℕ) → (ℕ × ℕ) → Bool
pair_eq p q = nat_eq p.0 q.0 && nat_eq p.1 q.1

-- the key is there, and is this one
abbrev pub is_index_key : {Q : Type 0} → (Q → Q → Bool) → Option Q → Q → Bool
is_index_key eq None q = false
is_index_key eq (Some p) q = eq p q

-- the key (k, c) has the value n exactly where the list has a channel of client k with own number c
-- and number n
abbrev pub IsOwnIndex : {S : Type 0} → IndexMap (ℕ × ℕ) ℕ S → List TableEntry → Type 0
IsOwnIndex m es = (k c n : ℕ) → (get pair_eq m (k, c) ≡ Some n) ↔ (owner_at es n ≡ Some (k, c))

-- the key s has the value n exactly where the list has a channel with the server's number s and the
-- number n
abbrev pub IsRemoteIndex : {S : Type 0} → IndexMap ℕ ℕ S → List TableEntry → Type 0
IsRemoteIndex m es = (s n : ℕ) → (get nat_eq m s ≡ Some n) ↔ (remote_at es n ≡ Some s)

-- the numbers of a client's channels, in the order in which they began, and whether there is room
-- for one more
pub record ChannelNumbers : Type 0 where
  pub items : List ℕ
  pub has_room : Bool

-- a client without channels may have no list
abbrev pub numbers_or_empty : Option ChannelNumbers → List ℕ
numbers_or_empty None = []
numbers_or_empty (Some numbers) = numbers.items

-- its list is there, with room for one more
abbrev pub has_room_in : Option ChannelNumbers → Bool
has_room_in None = false
has_room_in (Some numbers) = numbers.has_room

-- each client has the numbers of its channels, in the order in which they began
abbrev pub AreInOrder : {S : Type 0} → IndexMap ℕ ChannelNumbers S → List TableEntry → Type 0
AreInOrder m es = (k : ℕ) → numbers_or_empty (get nat_eq m k) ≡ channel_numbers_of es k

-- no two channels have one number
abbrev pub AreDistinct : List TableEntry → Type 0
AreDistinct [] = Unit {0}
AreDistinct (e ∷ es) = (entry_at es e.number ≡ None) × AreDistinct es

-- the indices agree with one list of channels, in which no client has too many and each number is
-- small
pub record Agrees {S T U : Type 0} (own : IndexMap (ℕ × ℕ) ℕ S) (remote : IndexMap ℕ ℕ T)
    (clients : IndexMap ℕ ChannelNumbers U) (es : List TableEntry) : Type 0 where
  pub distinct : AreDistinct es
  pub owns : IsOwnIndex own es
  pub remotes : IsRemoteIndex remote es
  pub orders : AreInOrder clients es
  pub few : (k : ℕ) → channel_count_of es k ≤ MAX_CHANNELS
  pub small : AllByRecursion HasSmallNumbers es
