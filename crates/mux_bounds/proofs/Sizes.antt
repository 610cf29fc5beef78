-- What is sent in one payload has at most 262,143 bytes.
use Rattle.std.proofs.Common.{◌≡◌, ℕ, zero, suc, ◌-◌, ◌≤◌, List, [], ◌∷◌, ◌++◌, length, true, false, Bool, refl, arith, map, sym, subst, take, drop, length-take}
use Rattle.std.specs.Prelude.{◌==◌, nat_le, nat_lt, nat_eq, reverse}
use Rattle.std.proofs.lemmas.Bool.Decides.{nat_tests}
use Rattle.std.proofs.lemmas.List.{reverse-append}
use Rattle.mux_outside.specs.declared.house.HouseReply.{HouseReply}
use Rattle.mux_outside.specs.declared.mark.Mark.{Mark}
use Rattle.mux_outside.specs.declared.mark.Mark.TheVariants as wire
use Rattle.ssh_grammar.specs.Frames.{Faulty, Frame, Front, More, cut_content, cut_length, cut_padding, first_frame}
use Rattle.ssh_grammar.specs.Said.{BadFraming, Body, InControl, InProxy, Mode, Payload, Outgoing, Stopped, first_in, mode_after, parse, parse_by, parse_front, said, sending_in}
use Rattle.ssh_grammar.specs.declared.fault.BadFrame.TheVariants as bad_frame
use Rattle.ssh_grammar.specs.declared.framing.Framing.TheVariants as framing
use Rattle.ssh_fields.specs.Fields.{of_four}
use Rattle.mux_outside.specs.declared.house_mark.HouseMark.TheVariants.{HouseAnswer, HouseAsked, HouseIn, HouseOrder, HouseSaid, HouseTook}
use Rattle.mux_history.specs.declared.limits.TheConstants.{HOUSE}
use Rattle.mux_history.specs.Choices.{FromLists, pick_of, replies_given, reply_at, with_reply}
use Rattle.mux_history.specs.Controls.{body_asks, client_has_greeted}
use Rattle.mux_history.specs.Journal.{bytes_of, received_item, is_own_stream, items, items_in, new_received, new_sayings, sent_item, server_end, unless_own}
use Rattle.mux_history.specs.Kept.{ForEach}
use Rattle.mux_history.specs.Log.{log_of, makes_next, more_of, treat}
use Rattle.mux_history.specs.Policy.{Policy}
use Rattle.mux_history.specs.Right.{IsRight}
use Rattle.mux_history.specs.Rows.{Gone, Item, Row, Says, ServerFailed, rows_of}
use Rattle.mux_history.specs.Settings.{by_lists}
use Rattle.std.specs.Prelude.{◌&&◌, Some, None}
use Rattle.mux_history.proofs.LawfulItems.{treat-item}

-- ---- what is cut

abbrev IsSmall : List ℕ → Type 0
IsSmall p = length p ≤ 262143

abbrev SmallFront : Front → Type 0
SmallFront (Frame content rest) = IsSmall content
SmallFront More = Unit {0}
SmallFront (Faulty fault) = Unit {0}

content-small : (n : ℕ) (rest : List ℕ) → n ≤ 262143 → SmallFront (cut_content n rest)
content-small n rest le = by_case (nat_le n (length rest))
  where
    by_case : (b : Bool) → SmallFront (elim b as (λ _. Front) [ true ↦ Frame (take n rest) (drop n rest) | false ↦ More ])
    by_case true = let l = length-take n rest in omega (arith, le)
    by_case false = tt

padding-small : (n : ℕ) (rest : List ℕ) → n ≤ 262144 → SmallFront (cut_padding n rest)
padding-small n [] le = tt
padding-small n (b ∷ rest) le = by_case (nat_eq b 0)
  where
    by_case : (t : Bool) → SmallFront (elim t as (λ _. Front) [ true ↦ cut_content (n - 1) rest | false ↦ Faulty (bad_frame.Padding b) ])
    by_case true = content-small (n - 1) rest (omega (arith, le))
    by_case false = tt

not-longer : (n : ℕ) → nat_lt 262144 n ≡ false → n ≤ 262144
not-longer n e = grind (arith, nat_tests)

length-small : (n : ℕ) (rest : List ℕ) → SmallFront (cut_length framing.Proxy n rest)
length-small n rest = by_case (nat_lt n 2) (nat_lt 262144 n) refl
  where
    by_case : (s t : Bool) → nat_lt 262144 n ≡ t → SmallFront (elim s as (λ _. Front) [ true ↦ Faulty (bad_frame.Short n) | false ↦ elim t as (λ _. Front) [ true ↦ Faulty (bad_frame.Long n) | false ↦ cut_padding n rest ] ])
    by_case true t e = tt
    by_case false true e = tt
    by_case false false e = padding-small n rest (not-longer n e)

first-small : (bytes : List ℕ) → SmallFront (first_frame framing.Proxy bytes)
first-small [] = tt
first-small (w ∷ []) = tt
first-small (w ∷ x ∷ []) = tt
first-small (w ∷ x ∷ y ∷ []) = tt
first-small (w ∷ x ∷ y ∷ z ∷ rest) = length-small (of_four w x y z) rest

-- ---- what is sent

abbrev pub SmallSending : Outgoing → Type 0
SmallSending (Payload p) = IsSmall p
SmallSending outgoing = Unit {0}

abbrev EachSmall : List Outgoing → Type 0
EachSmall [] = Unit {0}
EachSmall (s ∷ ss) = SmallSending s × EachSmall ss

in-small : (mode : Mode) (bytes : List ℕ) (content rest : List ℕ) → first_in mode bytes ≡ Frame content rest → SmallSending (sending_in mode content)
in-small InControl bytes content rest e = tt
in-small InProxy bytes content rest e = subst SmallFront e (first-small bytes)
in-small Stopped bytes content rest e = cc

parse-small : (n : ℕ) (mode : Mode) (bytes : List ℕ) → EachSmall (parse_by n mode bytes).says
parse-small zero mode bytes = tt
parse-small (suc n) mode bytes = by_front (first_in mode bytes) refl (λ mode rest. parse-small n mode rest)
  where
    by_front : (f : Front) → first_in mode bytes ≡ f → ((mode : Mode) (rest : List ℕ) → EachSmall (parse_by n mode rest).says) → EachSmall (parse_front (parse_by n) mode bytes f).says
    by_front (Frame content rest) e ih = (in-small mode bytes content rest e, ih (mode_after mode content) rest)
    by_front More e ih = tt
    by_front (Faulty fault) e ih = (tt, tt)

small-drop : (n : ℕ) (xs : List Outgoing) → EachSmall xs → EachSmall (drop n xs)
small-drop zero xs a = a
small-drop (suc n) [] a = tt
small-drop (suc n) (x ∷ xs) a = small-drop n xs a.1

-- ---- items

abbrev pub SmallItem : Item → Type 0
SmallItem (Says k outgoing given) = SmallSending outgoing
SmallItem item = Unit {0}

abbrev SmallItems : List Item → Type 0
SmallItems [] = Unit {0}
SmallItems (item ∷ rest) = SmallItem item × SmallItems rest

items-append : (xs ys : List Item) → SmallItems xs → SmallItems ys → SmallItems (xs ++ ys)
items-append [] ys a b = b
items-append (x ∷ xs) ys a b = (a.0, items-append xs ys a.1 b)

items-reverse : (xs : List Item) → SmallItems xs → SmallItems (reverse xs)
items-reverse [] a = tt
items-reverse (x ∷ xs) a = subst SmallItems (sym (reverse-append (x ∷ []) xs)) (items-append (reverse xs) (x ∷ []) (items-reverse xs a.1) (a.0, tt))

says-items : (k : ℕ) (ss : List Outgoing) → EachSmall ss → SmallItems (map (sent_item k) ss)
says-items k [] a = tt
says-items k (s ∷ ss) a = (a.0, says-items k ss a.1)

heard-items : (ss : List Outgoing) → SmallItems (map received_item ss)
heard-items [] = tt
heard-items (Body body ∷ ss) = (tt, heard-items ss)
heard-items (Payload p ∷ ss) = (tt, heard-items ss)
heard-items (BadFraming fault ∷ ss) = (tt, heard-items ss)

end-item : (rest : List ℕ) → SmallItem (server_end rest)
end-item [] = tt
end-item (b ∷ rest) = tt

unless-items : (stream : ℕ) (xs : List Item) → SmallItems xs → SmallItems (unless_own stream xs)
unless-items stream xs a = elim (is_own_stream stream) as (λ b. SmallItems (elim b as (λ _. List Item) [ true ↦ [] | false ↦ xs ])) [ true ↦ tt | false ↦ a ]

gone-items : (stream : ℕ) (item : Item) → SmallItem item → SmallItems (elim (stream == 0) as (λ _. List Item) [ true ↦ item ∷ [] | false ↦ unless_own stream (Gone stream ∷ []) ])
gone-items stream item a = elim (stream == 0) as (λ b. SmallItems (elim b as (λ _. List Item) [ true ↦ item ∷ [] | false ↦ unless_own stream (Gone stream ∷ []) ])) [ true ↦ (a, tt) | false ↦ unless-items stream (Gone stream ∷ []) (tt, tt) ]

mark-items : (before : List Mark) (mark : Mark) → SmallItems (items_in before mark)
mark-items before (wire.Accepts k) = (tt, tt)
mark-items before (wire.Gets stream bytes) = by_stream (stream == 0)
  where
    by_stream : (b : Bool) → SmallItems (elim b as (λ _. List Item) [ true ↦ new_received (bytes_of 0 before) (bytes_of 0 before ++ bytes) | false ↦ unless_own stream (new_sayings stream (bytes_of stream before) (bytes_of stream before ++ bytes)) ])
    by_stream true = heard-items _
    by_stream false = unless-items stream _ (says-items stream (drop (length (said (bytes_of stream before))) (said (bytes_of stream before ++ bytes))) (small-drop (length (said (bytes_of stream before))) (said (bytes_of stream before ++ bytes)) (parse-small (length (bytes_of stream before ++ bytes)) InControl (bytes_of stream before ++ bytes))))
mark-items before (wire.Ends stream) = gone-items stream (server_end (parse InProxy (bytes_of 0 before)).rest) (end-item (parse InProxy (bytes_of 0 before)).rest)
mark-items before (wire.Fails stream) = gone-items stream ServerFailed tt
mark-items before (wire.WriteFails stream) = gone-items stream ServerFailed tt
mark-items before (wire.Takes stream bytes accepts) = unless-items stream _ (tt, tt)
mark-items before (wire.Joins listener stream) = tt
mark-items before (wire.House HouseIn) = (tt, tt)
mark-items before (wire.House (HouseSaid bytes)) = says-items HOUSE (drop (length (said (bytes_of HOUSE before))) (said (bytes_of HOUSE before ++ bytes))) (small-drop (length (said (bytes_of HOUSE before))) (said (bytes_of HOUSE before ++ bytes)) (parse-small (length (bytes_of HOUSE before ++ bytes)) InControl (bytes_of HOUSE before ++ bytes)))
mark-items before (wire.House (HouseTook size)) = (tt, tt)
mark-items before (wire.House (HouseAnswer k id given)) = (tt, tt)
mark-items before (wire.House (HouseAsked k id opening ask given)) = tt
mark-items before (wire.House (HouseOrder order number)) = tt
mark-items before (wire.Holds stream) = tt
mark-items before (wire.Frees stream) = tt
mark-items before (wire.Waits waiting want streams shown) = tt

all-items : (marks : List Mark) → SmallItems (items marks)
all-items [] = tt
all-items (mark ∷ before) = items-append (reverse (items_in before mark)) (items before) (items-reverse (items_in before mark) (mark-items before mark)) (all-items before)

left-items : (n : ℕ) (xs : List Item) → SmallItems xs → SmallItems (drop n xs)
left-items zero xs a = a
left-items (suc n) [] a = tt
left-items (suc n) (x ∷ xs) a = left-items n xs a.1

-- ---- rows

abbrev SmallRows : List Row → Type 0
SmallRows [] = Unit {0}
SmallRows (row ∷ before) = SmallItem row.item × SmallRows before

module _ (policy : Policy) (pid : ℕ) (picks : List ℕ) (given : List HouseReply) where
  reply-small : (rows : List Row) (item : Item) → SmallItem item → SmallItem (with_reply (FromLists picks given) rows item)
  reply-small rows (Says k (Body body) old) small = elim (client_has_greeted (rows_of k rows) && body_asks body) as (λ b. SmallItem (elim b as (λ _. Item) [ true ↦ Says k (Body body) (Some (reply_at given (replies_given rows))) | false ↦ Says k (Body body) None ])) [ true ↦ tt | false ↦ tt ]
  reply-small rows (Says k (Payload p) old) small = small
  reply-small rows (Says k (BadFraming fault) old) small = small
  reply-small rows item small = tt

  more-small : (rows : List Row) (item : Item) → SmallItem item → SmallRows rows → SmallRows (more_of (by_lists policy pid picks given) rows item)
  more-small rows item small all = by_next (makes_next rows item)
    where
      by_next : (b : Bool) → SmallRows (elim b as (λ _. List Row) [ false ↦ rows | true ↦ treat policy pid (pick_of (FromLists picks given) rows item) rows (with_reply (FromLists picks given) rows item) ∷ rows ])
      by_next false = all
      by_next true = (subst SmallItem (sym (treat-item policy pid (pick_of (FromLists picks given) rows item) rows (with_reply (FromLists picks given) rows item))) (reply-small rows item small), all)

  log-small : (xs : List Item) → SmallItems xs → SmallRows (log_of (by_lists policy pid picks given) xs)
  log-small [] small = tt
  log-small (x ∷ xs) small = more-small (log_of (by_lists policy pid picks given) xs) x small.0 (log-small xs small.1)

  pub rows-small : (marks : List Mark) (left : ℕ) (rows : List Row) → IsRight (by_lists policy pid picks given) marks left rows → ForEach (λ before row. SmallItem row.item) rows
  rows-small marks left rows right = as-each rows (subst SmallRows (sym right.determined) (log-small (drop left (items marks)) (left-items left (items marks) (all-items marks))))
    where
      as-each : (rs : List Row) → SmallRows rs → ForEach (λ before row. SmallItem row.item) rs
      as-each [] small = tt
      as-each (r ∷ rs) small = (small.0, as-each rs small.1)
