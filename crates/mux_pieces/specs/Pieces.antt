-- How the bytes of a stream are cut doesn't matter.
use Rattle.std.specs.Prelude.{◌≡◌, ◌<◌, ◌==◌, ℕ, Bool, true, false, List, [], ◌∷◌, ◌++◌, None, filter, map, reverse}
use Rattle.mux_outside.specs.declared.house.HouseReply.{HouseReply}
use Rattle.mux_outside.specs.declared.mark.Mark.{Mark}
use Rattle.mux_outside.specs.declared.mark.Mark.TheVariants.{Waits, Gets}
use Rattle.mux_outside.specs.declared.shown.Shown.{Shown}
use Rattle.mux_outside.specs.declared.turn.Want.{Want}
use Rattle.ssh_grammar.specs.Said.{Body, heard, said}
use Rattle.mux_history.specs.Journal.{bytes_of, received_item, is_own_stream, items, log_of_journal, sent_item}
use Rattle.mux_history.specs.Policy.{Policy}
use Rattle.mux_history.specs.Rows.{BadServer, Heard, Item, Says}
use Rattle.mux_history.specs.Settings.{by_lists}

-- the same bytes came from each stream, and they completed the same items in the same order
pub record AreCutAlike (marks others : List Mark) : Type 0 where
  pub same_items : items marks ≡ items others
  pub same_bytes : (t : ℕ) → bytes_of t marks ≡ bytes_of t others

-- a piece in two parts, with a wait between them, and the piece as a whole
abbrev pub PartsGiveAlike : Type 0
PartsGiveAlike =
    (before : List Mark) (t : ℕ) (a b : List ℕ)
    (waiting : List ℕ) (want : Want) (streams : List ℕ) (shown : Shown)
    → AreCutAlike (Gets t b ∷ Waits waiting want streams shown ∷ Gets t a ∷ before)
    (Gets t (a ++ b) ∷ before)

-- the same mark after both
abbrev pub JournalsGoOnAlike : Type 0
JournalsGoOnAlike =
    (marks others : List Mark) (mark : Mark) → AreCutAlike marks others
    → AreCutAlike (mark ∷ marks) (mark ∷ others)

-- the same items make the same rows, whatever was picked and replied, as long as it is the same
abbrev pub ItemsMakeRows : Type 0
ItemsMakeRows =
    (policy : Policy) (pid : ℕ) (picks : List ℕ) (replies : List HouseReply)
    (marks others : List Mark) → items marks ≡ items others
    → log_of_journal (by_lists policy pid picks replies) marks
    ≡ log_of_journal (by_lists policy pid picks replies) others

-- ---- journals that differ only in their cuts

-- a mark after others: a piece of the stream that gave the piece right before joins it, and a wait
-- is left out
abbrev pub joined_to : List Mark → Mark → List Mark
joined_to (Gets s a ∷ before) (Gets t b) = elim (s == t) [
  | true ↦ Gets s (a ++ b) ∷ before
  | false ↦ Gets t b ∷ Gets s a ∷ before
]
joined_to before (Waits waiting want streams shown) = before
joined_to before mark = mark ∷ before

-- a journal without its waits, and with no cut between pieces that come one after another
abbrev pub uncut : List Mark → List Mark
uncut [] = []
uncut (mark ∷ before) = joined_to (uncut before) mark

-- journals that are the same but for waits and cuts make the same rows, with the same picks and
-- replies
abbrev pub CutsMakeNoDifference : Type 0
CutsMakeNoDifference =
    (policy : Policy) (pid : ℕ) (picks : List ℕ) (replies : List HouseReply)
    (marks others : List Mark) → uncut marks ≡ uncut others
    → log_of_journal (by_lists policy pid picks replies) marks
    ≡ log_of_journal (by_lists policy pid picks replies) others

-- ---- what is sent is sent by all bytes of a stream

-- an item that this client sends
abbrev pub is_sent_by : ℕ → Item → Bool
is_sent_by k (Says j outgoing given) = j == k
is_sent_by k item = false

-- an item that the server sends
abbrev pub is_by_server : Item → Bool
is_by_server (Heard p) = true
is_by_server (BadServer fault) = true
is_by_server item = false

-- what the items of a client send, the forwarder among them, the oldest first, is what all its
-- bytes send, however these came; the master's own streams send nothing
abbrev pub SayingsAreOfBytes : Type 0
SayingsAreOfBytes =
    (marks : List Mark) (k : ℕ) → 0 < k → is_own_stream k ≡ false
    → filter (is_sent_by k) (reverse (items marks)) ≡ map (sent_item k) (said (bytes_of k marks))

-- the same of the server
abbrev pub ReceivedIsOfBytes : Type 0
ReceivedIsOfBytes =
    (marks : List Mark)
    → filter is_by_server (reverse (items marks)) ≡ map received_item (heard (bytes_of 0 marks))

-- ---- the bytes of each stream and the order in which they complete make the items

-- an item without its words: who sends something, or else what happens
abbrev pub without_words : Item → Item
without_words (Says k outgoing given) = Says k (Body []) None
without_words (Heard p) = Heard []
without_words (BadServer fault) = Heard []
without_words item = item

-- in which order it is sent and happens, the oldest first
abbrev pub order_of : List Mark → List Item
order_of marks = map without_words (reverse (items marks))

-- where the same bytes came from each stream, cut in any way, and completed in the same order, they
-- completed the same items
abbrev pub BytesMakeItems : Type 0
BytesMakeItems =
    (marks others : List Mark) → ((t : ℕ) → bytes_of t marks ≡ bytes_of t others)
    → order_of marks ≡ order_of others → items marks ≡ items others

-- and so, with the same picks and replies, they made the same rows
abbrev pub BytesMakeRows : Type 0
BytesMakeRows =
    (policy : Policy) (pid : ℕ) (picks : List ℕ) (replies : List HouseReply)
    (marks others : List Mark) → ((t : ℕ) → bytes_of t marks ≡ bytes_of t others)
    → order_of marks ≡ order_of others
    → log_of_journal (by_lists policy pid picks replies) marks
    ≡ log_of_journal (by_lists policy pid picks replies) others
