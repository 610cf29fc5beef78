-- The server's numbers of the forwarder's channels, and their windows, are numbers of four bytes.
use Rattle.std.proofs.Common.{◌≡◌, ◌<◌, ℕ, zero, suc, true, false, Option, Some, None, List, [], ◌∷◌, ◌++◌, length, drop, Result, Ok, Err, IfOk, refl, sym, subst, arith, map}
use Rattle.std.specs.Prelude.{◌==◌, ◌&&◌, filter}
use Rattle.mux_outside.specs.declared.house.HouseReply.{HouseReply}
use Rattle.mux_outside.specs.declared.house_mark.HouseMark.{HouseMark}
use Rattle.mux_outside.specs.declared.house_mark.HouseMark.TheVariants.{HouseAnswer, HouseAsked, HouseIn, HouseOrder, HouseSaid, HouseTook}
use Rattle.mux_outside.specs.declared.mark.Mark.{Mark}
use Rattle.mux_outside.specs.declared.mark.Mark.TheVariants as wire
use Rattle.ssh_fields.specs.Fields.{AreBytes}
use Rattle.ssh_fields.proofs.Fields.{AreBytes-append}
use Rattle.ssh_grammar.specs.declared.fault.Bad.{Bad}
use Rattle.ssh_grammar.specs.declared.side.Side.TheVariants.{Up, Down}
use Rattle.ssh_grammar.specs.Frames.{Faulty, Frame, Front, More}
use Rattle.ssh_grammar.specs.IsMessage.{Spells}
use Rattle.ssh_grammar.specs.Messages as full
use Rattle.ssh_grammar.specs.ReadMessage.{read_message}
use Rattle.ssh_grammar.specs.Said.{BadFraming, Body, InControl, InProxy, Mode, Payload, Outgoing, Stopped, first_in, mode_after, parse, parse_by, parse_front, said, sending_in}
use Rattle.ssh_grammar.proofs.MessageReads.{reads_is_spelled}
use Rattle.mux_history.specs.declared.limits.TheConstants.{HOUSE}
use Rattle.mux_history.specs.Channels.{Channel, after_farewell, after_item, begun_by, channels_of, channel_after_item, held_of, is_channel_held, is_number, opened_down, opened_up, own_number_of, with_down, with_up, with_ups}
use Rattle.mux_history.specs.Choices.{FromLists, pick_of, replies_given, reply_at, with_reply}
use Rattle.mux_history.specs.Controls.{body_asks, client_has_greeted}
use Rattle.mux_history.specs.Summary.{Confirmation, Confirms, Summary, Open, Within, summary, read_summary, reading}
use Rattle.mux_history.specs.Journal.{IsLawful, LawfulHouse, LawfulMark, bytes_in, bytes_of, received_item, house_sent, is_own_stream, items_in, log_of_journal, new_received, new_sayings, sent_item, server_end, unless_own}
use Rattle.mux_history.specs.Kept.{AtEach}
use Rattle.mux_history.specs.Log.{makes_next, more_all, more_of, treat}
use Rattle.mux_history.specs.Policy.{Policy}
use Rattle.mux_history.specs.Right.{AreFresh}
use Rattle.mux_history.specs.Rows.{Gone, Heard, Item, Row, Says, ServerFailed, rows_of}
use Rattle.mux_history.specs.Settings.{by_lists}
use Rattle.mux_history.proofs.LawfulItems.{treat-item}
use Rattle.mux_history.proofs.Local.{channels-local, is_of}
use Rattle.mux_history.proofs.Marks.{FrontBytes, in-bytes}
use Rattle.mux_history.proofs.Readings.{summary-from}
use Rattle.mux_history.proofs.SentApart.{own-small}
use Rattle.house_history.proofs.Lists.{Each, each-append, each-filter}

-- the server's number and the opener's window are numbers of four bytes
abbrev pub IsSmallChannel : Channel → Type 0
IsSmallChannel x = ((s : ℕ) → x.remote ≡ Some s → s < 4294967296) × (x.window < 4294967296)

-- ---- what is sent in a lawful journal are bytes

abbrev pub SentBytes : Outgoing → Type 0
SentBytes (Payload p) = AreBytes p
SentBytes (Body p) = AreBytes p
SentBytes (BadFraming fault) = Unit {0}

abbrev pub HasBytes : Item → Type 0
HasBytes (Says k outgoing reply) = SentBytes outgoing
HasBytes (Heard p) = AreBytes p
HasBytes item = Unit {0}

abbrev pub RowBytes : Row → Type 0
RowBytes row = HasBytes row.item

outgoing-bytes : (mode : Mode) (content : List ℕ) → AreBytes content → SentBytes (sending_in mode content)
outgoing-bytes InControl content a = a
outgoing-bytes InProxy content a = a
outgoing-bytes Stopped content a = a

parse-bytes : (n : ℕ) (mode : Mode) (bytes : List ℕ) → AreBytes bytes → Each SentBytes (parse_by n mode bytes).says
parse-bytes zero mode bytes a = tt
parse-bytes (suc n) mode bytes a = by_front (first_in mode bytes) (in-bytes mode bytes a) (λ mode rest b. parse-bytes n mode rest b)
  where
    by_front : (f : Front) → FrontBytes f → ((mode : Mode) (rest : List ℕ) → AreBytes rest → Each SentBytes (parse_by n mode rest).says) → Each SentBytes (parse_front (parse_by n) mode bytes f).says
    by_front (Frame content rest) b ih = (outgoing-bytes mode content b.0, ih (mode_after mode content) rest b.1)
    by_front More b ih = tt
    by_front (Faulty fault) b ih = (tt, tt)

said-drop : (n : ℕ) (ss : List Outgoing) → Each SentBytes ss → Each SentBytes (drop n ss)
said-drop zero ss a = a
said-drop (suc n) [] a = tt
said-drop (suc n) (s ∷ ss) a = said-drop n ss a.1

heard-items : (ss : List Outgoing) → Each SentBytes ss → Each HasBytes (map received_item ss)
heard-items [] a = tt
heard-items (Body body ∷ ss) a = (a.0, heard-items ss a.1)
heard-items (Payload p ∷ ss) a = (a.0, heard-items ss a.1)
heard-items (BadFraming fault ∷ ss) a = (tt, heard-items ss a.1)

said-items : (k : ℕ) (ss : List Outgoing) → Each SentBytes ss → Each HasBytes (map (sent_item k) ss)
said-items k [] a = tt
said-items k (s ∷ ss) a = (a.0, said-items k ss a.1)

-- all bytes of a stream
pub stream-bytes : (k : ℕ) (marks : List Mark) → IsLawful marks → AreBytes (bytes_of k marks)
stream-bytes k [] lawful = tt
stream-bytes k (mark ∷ before) lawful = AreBytes-append (bytes_of k before) (bytes_in k mark) (stream-bytes k before lawful.1) (by_mark mark lawful.0)
  where
    by_house : (mark : HouseMark) → LawfulHouse before mark → AreBytes (house_sent mark)
    by_house (HouseSaid bytes) a = a.3
    by_house mark a = tt

    by_mark : (mark : Mark) → LawfulMark before mark → AreBytes (bytes_in k mark)
    by_mark (wire.House mark) a = elim (HOUSE == k) as (λ b. AreBytes (elim b as (λ _. List ℕ) [ true ↦ house_sent mark | false ↦ [] ])) [ true ↦ by_house mark a | false ↦ tt ]
    by_mark (wire.Gets stream bytes) a = elim (stream == k) as (λ b. AreBytes (elim b as (λ _. List ℕ) [ true ↦ bytes | false ↦ [] ])) [ true ↦ a.3 | false ↦ tt ]
    by_mark mark a = tt

new-heard : (before : List Mark) (bytes : List ℕ) → IsLawful before → AreBytes bytes → Each HasBytes (new_received (bytes_of 0 before) (bytes_of 0 before ++ bytes))
new-heard before bytes all a =
    let old = bytes_of 0 before in
    heard-items (drop (length (parse InProxy old).says) (parse InProxy (old ++ bytes)).says)
    (said-drop (length (parse InProxy old).says) (parse InProxy (old ++ bytes)).says
    (parse-bytes (length (old ++ bytes)) InProxy (old ++ bytes) (AreBytes-append old bytes (stream-bytes 0 before all) a)))

new-said : (k : ℕ) (before : List Mark) (bytes : List ℕ) → IsLawful before → AreBytes bytes → Each HasBytes (new_sayings k (bytes_of k before) (bytes_of k before ++ bytes))
new-said k before bytes all a =
    let old = bytes_of k before in
    said-items k (drop (length (said old)) (said (old ++ bytes)))
    (said-drop (length (said old)) (said (old ++ bytes))
    (parse-bytes (length (old ++ bytes)) InControl (old ++ bytes) (AreBytes-append old bytes (stream-bytes k before all) a)))

unless-bytes : (stream : ℕ) (items : List Item) → Each HasBytes items → Each HasBytes (unless_own stream items)
unless-bytes stream items a = elim (is_own_stream stream) as (λ b. Each HasBytes (elim b as (λ _. List Item) [ true ↦ [] | false ↦ items ])) [ true ↦ tt | false ↦ a ]

gone-or : (stream : ℕ) (item : Item) → HasBytes item → Each HasBytes (elim (stream == 0) as (λ _. List Item) [ true ↦ item ∷ [] | false ↦ unless_own stream (Gone stream ∷ []) ])
gone-or stream item a = elim (stream == 0) as (λ b. Each HasBytes (elim b as (λ _. List Item) [ true ↦ item ∷ [] | false ↦ unless_own stream (Gone stream ∷ []) ])) [ true ↦ (a, tt) | false ↦ unless-bytes stream (Gone stream ∷ []) (tt, tt) ]

end-bytes : (rest : List ℕ) → HasBytes (server_end rest)
end-bytes [] = tt
end-bytes (b ∷ rest) = tt

items-bytes : (before : List Mark) (mark : Mark) → IsLawful before → LawfulMark before mark → Each HasBytes (items_in before mark)
items-bytes before (wire.Accepts k) all lawful = (tt, tt)
items-bytes before (wire.Gets stream bytes) all lawful =
    elim (stream == 0) as (λ b. Each HasBytes (elim b as (λ _. List Item) [ true ↦ new_received (bytes_of 0 before) (bytes_of 0 before ++ bytes) | false ↦ unless_own stream (new_sayings stream (bytes_of stream before) (bytes_of stream before ++ bytes)) ])) [
      | true ↦ new-heard before bytes all lawful.3
      | false ↦ unless-bytes stream (new_sayings stream (bytes_of stream before) (bytes_of stream before ++ bytes)) (new-said stream before bytes all lawful.3)
    ]
items-bytes before (wire.Ends stream) all lawful = gone-or stream (server_end (parse InProxy (bytes_of 0 before)).rest) (end-bytes (parse InProxy (bytes_of 0 before)).rest)
items-bytes before (wire.Fails stream) all lawful = gone-or stream ServerFailed tt
items-bytes before (wire.WriteFails stream) all lawful = gone-or stream ServerFailed tt
items-bytes before (wire.Takes stream bytes accepts) all lawful = unless-bytes stream _ (tt, tt)
items-bytes before (wire.House HouseIn) all lawful = (tt, tt)
items-bytes before (wire.House (HouseSaid bytes)) all lawful = new-said HOUSE before bytes all lawful.3
items-bytes before (wire.House (HouseTook size)) all lawful = (tt, tt)
items-bytes before (wire.House (HouseAnswer k id given)) all lawful = (tt, tt)
items-bytes before (wire.House (HouseAsked k id opening ask given)) all lawful = tt
items-bytes before (wire.House (HouseOrder order number)) all lawful = tt
items-bytes before mark all lawful = tt

-- ---- so are what the rows say

module _ (policy : Policy) (pid : ℕ) (picks : List ℕ) (given : List HouseReply) where
  reply-bytes : (rows : List Row) (item : Item) → HasBytes item → HasBytes (with_reply (FromLists picks given) rows item)
  reply-bytes rows (Says j (Body body) reply) a = elim (client_has_greeted (rows_of j rows) && body_asks body) as (λ b. HasBytes (elim b as (λ _. Item) [ true ↦ Says j (Body body) (Some (reply_at given (replies_given rows))) | false ↦ Says j (Body body) None ])) [ true ↦ a | false ↦ a ]
  reply-bytes rows (Says j (Payload p) reply) a = a
  reply-bytes rows (Says j (BadFraming fault) reply) a = tt
  reply-bytes rows (Heard p) a = a
  reply-bytes rows item a = tt

  more-bytes : (rows : List Row) (item : Item) → HasBytes item → Each RowBytes rows → Each RowBytes (more_of (by_lists policy pid picks given) rows item)
  more-bytes rows item a all =
      let pick = pick_of (FromLists picks given) rows item in
      let it = with_reply (FromLists picks given) rows item in
      elim (makes_next rows item) as (λ b. Each RowBytes (elim b as (λ _. List Row) [ false ↦ rows | true ↦ treat policy pid pick rows it ∷ rows ])) [
        | false ↦ all
        | true ↦ (subst HasBytes (sym (treat-item policy pid pick rows it)) (reply-bytes rows item a), all)
      ]

  all-bytes : (rows : List Row) (items : List Item) → Each HasBytes items → Each RowBytes rows → Each RowBytes (more_all (by_lists policy pid picks given) rows items)
  all-bytes rows [] a all = all
  all-bytes rows (item ∷ items) a all = all-bytes (more_of (by_lists policy pid picks given) rows item) items a.1 (more-bytes rows item a.0 all)

  pub journal-bytes : (marks : List Mark) → IsLawful marks → Each RowBytes (log_of_journal (by_lists policy pid picks given) marks)
  journal-bytes [] lawful = tt
  journal-bytes (mark ∷ before) lawful = all-bytes (log_of_journal (by_lists policy pid picks given) before) (items_in before mark) (items-bytes before mark lawful.1 lawful.0) (journal-bytes before lawful.1)

-- ---- windows that are read

abbrev pub window_of : Summary → ℕ
window_of (Open what sender window maximum) = window
window_of m = 0

message-spells : (p : List ℕ) (m : full.Message) → AreBytes p → read_message p ≡ Ok m → Spells m p
message-spells p m bytes reads = by_case (read_message p) reads (reads_is_spelled p bytes)
  where
    by_case : (r : Result full.Message Bad) → r ≡ Ok m → IfOk r (λ m. Spells m p) → Spells m p
    by_case (Ok x) e holds = let same : x ≡ m = cc in subst (λ (m : full.Message). Spells m p) same holds
    by_case (Err x) e holds = cc

spelled-window : (p : List ℕ) (m : full.Message) → Spells m p → window_of (summary m) < 4294967296
spelled-window p (full.Plain (full.Open kind s w x rest what)) spells = spells.is_message.2
spelled-window p (full.Plain (full.Transport n rest)) spells = omega arith
spelled-window p (full.Plain (full.GlobalRequest name want rest what)) spells = omega arith
spelled-window p (full.Plain (full.RequestSuccess rest)) spells = omega arith
spelled-window p (full.Plain full.RequestFailure) spells = omega arith
spelled-window p (full.To r (full.Confirmation s w x rest)) spells = omega arith
spelled-window p (full.To r (full.OpenFailure reason text language)) spells = omega arith
spelled-window p (full.To r (full.Adjust add)) spells = omega arith
spelled-window p (full.To r (full.Data bytes)) spells = omega arith
spelled-window p (full.To r (full.Extended code bytes)) spells = omega arith
spelled-window p (full.To r full.Eof) spells = omega arith
spelled-window p (full.To r full.Close) spells = omega arith
spelled-window p (full.To r (full.Request kind want rest)) spells = omega arith
spelled-window p (full.To r full.Success) spells = omega arith
spelled-window p (full.To r full.Failure) spells = omega arith

pub window-small : (p : List ℕ) (m : Summary) → AreBytes p → read_summary p ≡ Ok m → window_of m < 4294967296
window-small p m bytes reads =
    let r = summary-from p m reads in
    subst (λ (g : Summary). window_of g < 4294967296) r.is (spelled-window p r.message (message-spells p r.message bytes r.reads))

-- ---- what a row does to a channel

small-read : (p : List ℕ) (f : Summary → Channel) (x : Channel) → ((m : Summary) → read_summary p ≡ Ok m → IsSmallChannel (f m)) → IsSmallChannel x → IsSmallChannel (reading p f x)
small-read p f x each small = by_case (read_summary p) refl
  where
    by_case : (r : Result Summary Bad) → read_summary p ≡ r → IsSmallChannel (elim r as (λ _. Channel) [ Err e ↦ x | Ok m ↦ f m ])
    by_case (Err e) reads = small
    by_case (Ok m) reads = each m reads

small-up : (own : Option ℕ) (m : Summary) (x : Channel) → IsSmallChannel x → IsSmallChannel (with_up own m x)
small-up own (Confirmation s n w max) x small = elim (is_number x.remote s && is_channel_held x) as (λ b. IsSmallChannel (elim b as (λ _. Channel) [ true ↦ record x { own = own; number = Some n; acts = (Up, Confirms w max) ∷ x.acts } | false ↦ x ])) [ true ↦ small | false ↦ small ]
small-up own (Within s act) x small = elim (is_number x.remote s && is_channel_held x) as (λ b. IsSmallChannel (elim b as (λ _. Channel) [ true ↦ record x { acts = (Up, act) ∷ x.acts } | false ↦ x ])) [ true ↦ small | false ↦ small ]
small-up own m x small = small

small-ups : (own : Option ℕ) (ps : List (List ℕ)) (x : Channel) → IsSmallChannel x → IsSmallChannel (with_ups own ps x)
small-ups own [] x small = small
small-ups own (p ∷ ps) x small = small-ups own ps (reading p (λ m. with_up own m x) x) (small-read p (λ m. with_up own m x) x (λ m e. small-up own m x small) small)

said-small : (p : List ℕ) (n s w max t : ℕ) → AreBytes p → read_summary p ≡ Ok (Confirmation n s w max) → Some s ≡ Some t → t < 4294967296
said-small p n s w max t bytes reads e = own-small p (Confirmation n s w max) t bytes reads e

small-down : (p : List ℕ) (m : Summary) (x : Channel) → AreBytes p → read_summary p ≡ Ok m → IsSmallChannel x → IsSmallChannel (with_down m x)
small-down p (Confirmation n s w max) x bytes reads small = elim (is_number x.number n && is_channel_held x) as (λ b. IsSmallChannel (elim b as (λ _. Channel) [ true ↦ record x { remote = Some s; acts = (Down, Confirms w max) ∷ x.acts } | false ↦ x ])) [ true ↦ ((λ t e. said-small p n s w max t bytes reads e), small.1) | false ↦ small ]
small-down p (Within n act) x bytes reads small = elim (is_number x.number n && is_channel_held x) as (λ b. IsSmallChannel (elim b as (λ _. Channel) [ true ↦ record x { acts = (Down, act) ∷ x.acts } | false ↦ x ])) [ true ↦ small | false ↦ small ]
small-down p m x bytes reads small = small

small-heard : (item : Item) (x : Channel) → HasBytes item → IsSmallChannel x → IsSmallChannel (channel_after_item item x)
small-heard (Heard p) x bytes small = small-read p (λ m. with_down m x) x (λ m e. small-down p m x bytes e small) small
small-heard item x bytes small = small

small-item : (row : Row) → RowBytes row → (x : Channel) → IsSmallChannel x → IsSmallChannel (after_item row x)
small-item row bytes x small = elim (x.client == row.client) as (λ b. IsSmallChannel (elim b as (λ _. Channel) [ true ↦ with_ups (own_number_of row.item) row.up (channel_after_item row.item x) | false ↦ x ]))
    [ true ↦ small-ups (own_number_of row.item) row.up (channel_after_item row.item x) (small-heard row.item x bytes small) | false ↦ small ]

small-farewell : (row : Row) (x : Channel) → IsSmallChannel x → IsSmallChannel (after_farewell row x)
small-farewell row x small = elim (x.client == row.client) as (λ b. IsSmallChannel (elim b as (λ _. Channel) [ true ↦ with_ups None row.farewell x | false ↦ x ]))
    [ true ↦ small-ups None row.farewell x small | false ↦ small ]

-- ---- the channels that a row begins

begun-read : (p : List ℕ) (f : Summary → List Channel) → ((m : Summary) → read_summary p ≡ Ok m → Each IsSmallChannel (f m)) → Each IsSmallChannel (reading p f [])
begun-read p f each = by_case (read_summary p) refl
  where
    by_case : (r : Result Summary Bad) → read_summary p ≡ r → Each IsSmallChannel (elim r as (λ _. List Channel) [ Err e ↦ [] | Ok m ↦ f m ])
    by_case (Err e) reads = tt
    by_case (Ok m) reads = each m reads

none-said : (t : ℕ) → None ≡ Some t → t < 4294967296
none-said t e = cc

small-opened-up : (k : ℕ) (up : List (List ℕ)) (p : List ℕ) (m : Summary) → AreBytes p → read_summary p ≡ Ok m → Each IsSmallChannel (opened_up k up m)
small-opened-up k [] p m bytes reads = tt
small-opened-up k (q ∷ qs) p (Open what c w max) bytes reads = (((λ t e. none-said t e), window-small p (Open what c w max) bytes reads), tt)
small-opened-up k (q ∷ qs) p m bytes reads = tt

small-opened-down : (k : ℕ) (up : List (List ℕ)) (p : List ℕ) (m : Summary) → AreBytes p → read_summary p ≡ Ok m → Each IsSmallChannel (opened_down k up m)
small-opened-down k [] p (Open what s w max) bytes reads = (((λ t e. own-small p (Open what s w max) t bytes reads e), window-small p (Open what s w max) bytes reads), tt)
small-opened-down k up p m bytes reads = tt

small-begun : (k : ℕ) (up : List (List ℕ)) (item : Item) → HasBytes item → Each IsSmallChannel (begun_by k up item)
small-begun k up (Says client (Payload p) reply) bytes = begun-read p (opened_up k up) (λ m e. small-opened-up k up p m bytes e)
small-begun k up (Heard p) bytes = elim (k == 0) as (λ b. Each IsSmallChannel (elim b as (λ _. List Channel) [ true ↦ [] | false ↦ reading p (opened_down k up) [] ])) [ true ↦ tt | false ↦ begun-read p (opened_down k up) (λ m e. small-opened-down k up p m bytes e) ]
small-begun k up item bytes = tt

-- ---- all channels, and those of the forwarder

each-map : (P : Channel → Type 0) (f : Channel → Channel) → ((x : Channel) → P x → P (f x)) → (xs : List Channel) → Each P xs → Each P (map f xs)
each-map P f step [] all = tt
each-map P f step (x ∷ xs) all = (step x all.0, each-map P f step xs all.1)

pub channels-small : (rows : List Row) → Each RowBytes rows → Each IsSmallChannel (channels_of rows)
channels-small [] all = tt
channels-small (row ∷ before) all =
    each-map IsSmallChannel (after_farewell row) (small-farewell row) (map (after_item row) (channels_of before) ++ begun_by row.client row.up row.item)
    (each-append IsSmallChannel (map (after_item row) (channels_of before)) (begun_by row.client row.up row.item)
    (each-map IsSmallChannel (after_item row) (small-item row all.0) (channels_of before) (channels-small before all.1))
    (small-begun row.client row.up row.item all.0))

pub held-small : (k : ℕ) (rows : List Row) → Each RowBytes rows → Each IsSmallChannel (held_of (rows_of k rows))
held-small k rows all = subst (λ (xs : List Channel). Each IsSmallChannel (filter is_channel_held xs)) (channels-local k rows)
    (each-filter IsSmallChannel is_channel_held (filter (is_of k) (channels_of rows)) (each-filter IsSmallChannel (is_of k) (channels_of rows) (channels-small rows all)))

at-small : (rows : List Row) → Each RowBytes rows → AtEach (λ rows. Each IsSmallChannel (held_of (rows_of HOUSE rows))) rows
at-small [] all = held-small HOUSE [] all
at-small (row ∷ before) all = (held-small HOUSE (row ∷ before) all, at-small before all.1)

pub remotes-held : (policy : Policy) (pid : ℕ) (picks : List ℕ) (given : List HouseReply) (marks : List Mark) → IsLawful marks → AreFresh (log_of_journal (by_lists policy pid picks given) marks)
    → AtEach (λ rows. Each IsSmallChannel (held_of (rows_of HOUSE rows))) (log_of_journal (by_lists policy pid picks given) marks)
remotes-held policy pid picks given marks lawful fresh = at-small (log_of_journal (by_lists policy pid picks given) marks) (journal-bytes policy pid picks given marks lawful)
