-- What a wire was seen to do, the newest mark first, and the items that it gives.
use Rattle.std.specs.Prelude.{ℕ, ◌==◌, ◌≡◌, ◌<◌, ◌≤◌, ◌&&◌, not, List, [], ◌∷◌, ◌++◌, Some, None, Option, Bool, true, ◌||◌, if◌then◌else◌, option_map, false, length, drop, map, reverse, All, IsTrue}
use Rattle.mux_outside.specs.Whose.{is_server}
use Rattle.mux_outside.specs.declared.mark.Mark.{Mark}
use Rattle.mux_outside.specs.declared.mark.Mark.TheVariants.{Waits, Accepts, Gets, Ends, Frees, Fails, Takes, Holds, WriteFails, House}
use Rattle.mux_outside.specs.OwnStreams.{is_own}
use Rattle.mux_outside.specs.declared.house_mark.HouseMark.{HouseMark}
use Rattle.mux_outside.specs.declared.house_mark.HouseMark.TheVariants.{HouseIn, HouseSaid, HouseTook, HouseAnswer, HouseOrder}
use Rattle.mux_outside.specs.declared.order.Order.TheVariants.{Connect}
use Rattle.mux_outside.specs.declared.own_streams.TheConstants.{LAST_CLIENT}
use Rattle.ssh_fields.specs.Fields.{AreBytes}
use Rattle.ssh_grammar.specs.Said.{Outgoing, Body, Payload, BadFraming, said, InProxy, parse}
use Rattle.mux_history.specs.Rows.{Item, Admit, Says, HouseSays, Gone, Heard, BadServer, ServerEnd, ServerCut, ServerFailed, Took, Row}
use Rattle.mux_history.specs.declared.limits.TheConstants.{HOUSE}
use Rattle.mux_history.specs.Log.{Setting, more_all}

-- ---- what streams gave and accepted

-- a stream of the master's own; the forwarder itself has none, and its number is that of a client
abbrev pub is_own_stream : ℕ → Bool
is_own_stream t = is_own t && not (t == HOUSE)

-- the bytes that the forwarder sent at a mark, as a client
abbrev pub house_sent : HouseMark → List ℕ
house_sent (HouseSaid bytes) = bytes
house_sent _ = []

-- the bytes that a stream gave at a mark, or the forwarder as a client
abbrev pub bytes_in : ℕ → Mark → List ℕ
bytes_in t (Gets stream bytes) = elim (stream == t) [ true ↦ bytes | false ↦ [] ]
bytes_in t (House mark) = elim (HOUSE == t) [ true ↦ house_sent mark | false ↦ [] ]
bytes_in t _ = []

-- all bytes that a stream gave, in order
abbrev pub bytes_of : ℕ → List Mark → List ℕ
bytes_of t [] = []
bytes_of t (mark ∷ before) = bytes_of t before ++ bytes_in t mark

-- the bytes that a stream accepted at a mark
abbrev pub bytes_taken_in : ℕ → Mark → List ℕ
bytes_taken_in t (Takes stream bytes accepts) = elim (stream == t) [ true ↦ bytes | false ↦ [] ]
bytes_taken_in t _ = []

-- all bytes that a stream accepted, in order
abbrev pub taken_by : ℕ → List Mark → List ℕ
taken_by t [] = []
taken_by t (mark ∷ before) = taken_by t before ++ bytes_taken_in t mark

-- the forwarder ordered this stream, which is made and not connected yet
abbrev pub orders_connect : ℕ → HouseMark → Bool
orders_connect t (HouseOrder (Connect host port) (Some stream)) = stream == t
orders_connect t _ = false

-- the stream accepts no bytes for now: it held back, or was made by an order to connect, and was
-- not freed since
abbrev pub is_blocked : ℕ → List Mark → Bool
is_blocked t [] = false
is_blocked t (Holds stream ∷ before) =
    elim (stream == t) [ true ↦ true | false ↦ is_blocked t before ]
is_blocked t (Frees stream ∷ before) =
    elim (stream == t) [ true ↦ false | false ↦ is_blocked t before ]
is_blocked t (House mark ∷ before) =
    elim (orders_connect t mark) [ true ↦ true | false ↦ is_blocked t before ]
is_blocked t (mark ∷ before) = is_blocked t before

-- ---- items

-- one thing that a client sends
abbrev pub sent_item : ℕ → Outgoing → Item
sent_item k outgoing = Says k outgoing None

-- what a client sends by its new bytes: by position, so that what is sent twice counts twice
abbrev pub new_sayings : ℕ → List ℕ → List ℕ → List Item
new_sayings k before after = map (sent_item k) (drop (length (said before)) (said after))

-- one thing that the server sends
abbrev pub received_item : Outgoing → Item
received_item (Body body) = Heard body
received_item (Payload p) = Heard p
received_item (BadFraming fault) = BadServer fault

-- the same of the server: a frame that is none is recorded once, since nothing is read after it
abbrev pub new_received : List ℕ → List ℕ → List Item
new_received before after =
    map received_item (drop (length (parse InProxy before).says) (parse InProxy after).says)

-- the end of the server's stream, after the bytes that are left
abbrev pub server_end : List ℕ → Item
server_end [] = ServerEnd
server_end (b ∷ rest) = ServerCut (length (b ∷ rest))

-- the items of a forwarder's mark, in order: it is admitted, sends and accepts as a client does;
-- its orders, and the requests that are reported to it, give none
abbrev pub house_items : List Mark → HouseMark → List Item
house_items before HouseIn = Admit HOUSE ∷ []
house_items before (HouseSaid bytes) =
    new_sayings HOUSE (bytes_of HOUSE before) (bytes_of HOUSE before ++ bytes)
house_items before (HouseTook size) = Took HOUSE size ∷ []
house_items before (HouseAnswer client id given) = HouseSays client id given ∷ []
house_items before _ = []

-- an item of a client's stream; a stream of the master's own gives none
abbrev pub unless_own : ℕ → List Item → List Item
unless_own stream items = elim (is_own_stream stream) [ true ↦ [] | false ↦ items ]

-- the items of one mark after those before it, in order
abbrev pub items_in : List Mark → Mark → List Item
items_in before (Accepts k) = Admit k ∷ []
items_in before (Gets stream bytes) = elim (is_server stream) [
  | true ↦ new_received (bytes_of 0 before) (bytes_of 0 before ++ bytes)
  | false ↦ unless_own stream
      (new_sayings stream (bytes_of stream before) (bytes_of stream before ++ bytes))
]
items_in before (Ends stream) = elim (is_server stream) [
  | true ↦ server_end (parse InProxy (bytes_of 0 before)).rest ∷ []
  | false ↦ unless_own stream (Gone stream ∷ [])
]
items_in before (Fails stream) = elim (is_server stream) [
  | true ↦ ServerFailed ∷ []
  | false ↦ unless_own stream (Gone stream ∷ [])
]
items_in before (WriteFails stream) = elim (is_server stream) [
  | true ↦ ServerFailed ∷ []
  | false ↦ unless_own stream (Gone stream ∷ [])
]
items_in before (Takes stream bytes accepts) = unless_own stream (Took stream (length bytes) ∷ [])
items_in before (House mark) = house_items before mark
items_in before _ = []

-- all items, the newest first
abbrev pub items : List Mark → List Item
items [] = []
items (mark ∷ before) = reverse (items_in before mark) ++ items before

-- the rows of what was seen: each mark adds those of its items
abbrev pub log_of_journal : Setting → List Mark → List Row
log_of_journal setting [] = []
log_of_journal setting (mark ∷ before) =
    more_all setting (log_of_journal setting before) (items_in before mark)

-- what a wire recorded at first, and what it records after these marks: a wire's list has the
-- oldest mark first
abbrev pub Records : Option (List Mark) → Option (List Mark) → List Mark → Type 0
Records start now marks = now ≡ option_map (λ recorded. recorded ++ reverse marks) start

-- ---- lawful journals: what any wire can give

-- the last client that was accepted, 0 before the first
abbrev pub last_client : List Mark → ℕ
last_client [] = 0
last_client (Accepts k ∷ before) = k
last_client (mark ∷ before) = last_client before

-- a forwarder's mark admits it, as this client
abbrev pub lets_in : ℕ → HouseMark → Bool
lets_in k HouseIn = HOUSE == k
lets_in k _ = false

-- a client was accepted, or is the forwarder and was admitted
abbrev pub is_accepted : ℕ → List Mark → Bool
is_accepted k [] = false
is_accepted k (Accepts j ∷ before) = if j == k then true else is_accepted k before
is_accepted k (House mark ∷ before) = if lets_in k mark then true else is_accepted k before
is_accepted k (mark ∷ before) = is_accepted k before

-- the stream is the server's, one of the master's own, or that of a client that was accepted
abbrev pub is_known : ℕ → List Mark → Bool
is_known stream before = is_server stream || (is_own_stream stream || is_accepted stream before)

-- the forwarder is admitted before all else; only after that it sends some bytes and accepts bytes,
-- as a client; it replies to clients that were accepted
abbrev pub LawfulHouse : List Mark → HouseMark → Type 0
LawfulHouse before HouseIn = before ≡ []
LawfulHouse before (HouseSaid bytes) =
    IsTrue (is_accepted HOUSE before) × (0 < length bytes) × (length bytes ≤ 65536) × AreBytes bytes
LawfulHouse before (HouseTook size) = IsTrue (is_accepted HOUSE before)
LawfulHouse before (HouseAnswer client id given) = IsTrue (is_accepted client before)
LawfulHouse before _ = Unit {0}

-- Each client has a number above the last one's and up to the last that a client may have. Every
-- other mark names the server's stream, one of the master's own or that of a client that was
-- accepted. What comes are 1 to 65,536 bytes, what is accepted is some, and only streams that hold
-- back are freed or waited for.
abbrev pub LawfulMark : List Mark → Mark → Type 0
LawfulMark before (Accepts k) = (last_client before < k) × (k ≤ LAST_CLIENT)
LawfulMark before (Gets stream bytes) =
    IsTrue (is_known stream before) × (0 < length bytes) × (length bytes ≤ 65536) × AreBytes bytes
LawfulMark before (Ends stream) = IsTrue (is_known stream before)
LawfulMark before (Fails stream) = IsTrue (is_known stream before)
LawfulMark before (Frees stream) = IsTrue (is_blocked stream before)
LawfulMark before (Takes stream bytes accepts) =
    IsTrue (is_known stream before) × (0 < length bytes) × AreBytes bytes
LawfulMark before (Holds stream) = IsTrue (is_known stream before)
LawfulMark before (WriteFails stream) = IsTrue (is_known stream before)
LawfulMark before (Waits waiting want streams shown) =
    All (λ t. IsTrue (is_blocked t before)) waiting
LawfulMark before (House mark) = LawfulHouse before mark
LawfulMark before _ = Unit {0}

-- each mark is lawful after those before it
abbrev pub IsLawful : List Mark → Type 0
IsLawful [] = Unit {0}
IsLawful (mark ∷ before) = LawfulMark before mark × IsLawful before
