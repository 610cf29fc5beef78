-- The items of a lawful wire are lawful.
use Rattle.std.proofs.Common.{◌≡◌, ℕ, zero, suc, ◌-◌, ◌<◌, ◌≤◌, List, [], ◌∷◌, ◌++◌, length, true, false, Bool, refl, ◌∙◌, ap, arith, map, sym, subst, take, drop}
use Rattle.std.specs.Prelude.{◌==◌, ◌||◌, nat_le, nat_lt, nat_eq, reverse}
use Rattle.std.proofs.lemmas.Bool.Decides.{nat_tests}
use Rattle.std.proofs.lemmas.List.{reverse-append}
use Rattle.ssh_fields.proofs.Fields.{AreBytes-append, AreBytes-take, AreBytes-drop}
use Rattle.mux_history.specs.Journal.{IsLawful, LawfulHouse, LawfulMark, house_items, house_sent, is_own_stream, lets_in, unless_own, bytes_in, bytes_of, received_item, items, items_in, last_client, new_received, new_sayings, sent_item, server_end}
use Rattle.mux_history.specs.Rows.{Admit, Gone, Item, Says, ServerFailed, any_of}
use Rattle.mux_outside.specs.OwnStreams.{is_own}
use Rattle.mux_outside.specs.declared.own_streams.TheConstants.{LAST_CLIENT}
use Rattle.mux_outside.specs.declared.house_mark.HouseMark.{HouseMark}
use Rattle.mux_outside.specs.declared.house_mark.HouseMark.TheVariants.{HouseAnswer, HouseAsked, HouseIn, HouseOrder, HouseSaid, HouseTook}
use Rattle.mux_outside.specs.declared.mark.Mark.{Mark}
use Rattle.mux_history.specs.declared.limits.TheConstants.{HOUSE}
use Rattle.mux_outside.specs.declared.mark.Mark.TheVariants.{Accepts, Frees, Gets, Holds, Takes, Waits, WriteFails}
use Rattle.ssh_fields.specs.Fields.{AreBytes, of_four}
use Rattle.ssh_grammar.specs.Frames.{Faulty, Frame, Front, More, cut_content, cut_length, cut_padding, cut_rest, first_frame, shortest}
use Rattle.ssh_grammar.specs.Said.{BadFraming, Body, InControl, InProxy, Mode, Payload, Outgoing, Stopped, first_in, mode_after, parse, parse_by, parse_front, said, sending_in}
use Rattle.ssh_grammar.specs.declared.framing.Framing.{Framing}
use Rattle.ssh_grammar.specs.declared.numbers.TheConstants.{LONGEST_FRAME}
use Rattle.ssh_grammar.specs.declared.fault.BadFrame.TheVariants as bad_frame
use Rattle.mux_outside.specs.declared.mark.Mark.TheVariants as wire
use Rattle.ssh_grammar.specs.declared.framing.Framing.TheVariants as framing
use Rattle.mux_history.proofs.Bools.{or-left, or-right}
use Rattle.mux_history.proofs.LawfulItems.{LawfulIn, LawfulItems}
use Rattle.mux_history.proofs.SentApart.{SendingBytes, admits_client}

-- ---- what is cut from bytes are bytes

abbrev pub FrontBytes : Front → Type 0
FrontBytes (Frame content rest) = AreBytes content × AreBytes rest
FrontBytes More = Unit {0}
FrontBytes (Faulty fault) = Unit {0}

content-bytes : (n : ℕ) (rest : List ℕ) → AreBytes rest → FrontBytes (cut_content n rest)
content-bytes n rest a = elim (nat_le n (length rest)) as (λ b. FrontBytes (elim b as (λ _. Front) [ true ↦ Frame (take n rest) (drop n rest) | false ↦ More ])) [ true ↦ (AreBytes-take n rest a, AreBytes-drop n rest a) | false ↦ tt ]

padding-bytes : (n : ℕ) (rest : List ℕ) → AreBytes rest → FrontBytes (cut_padding n rest)
padding-bytes n [] a = tt
padding-bytes n (b ∷ rest) a = elim (nat_eq b 0) as (λ t. FrontBytes (elim t as (λ _. Front) [ true ↦ cut_content (n - 1) rest | false ↦ Faulty (bad_frame.Padding b) ])) [ true ↦ content-bytes (n - 1) rest a.1 | false ↦ tt ]

rest-bytes : (framing : Framing) (n : ℕ) (rest : List ℕ) → AreBytes rest → FrontBytes (cut_rest framing n rest)
rest-bytes framing.Control n rest a = content-bytes n rest a
rest-bytes framing.Proxy n rest a = padding-bytes n rest a

length-bytes : (framing : Framing) (n : ℕ) (rest : List ℕ) → AreBytes rest → FrontBytes (cut_length framing n rest)
length-bytes framing n rest a =
    elim (nat_lt n (shortest framing)) as (λ s. FrontBytes (elim s as (λ _. Front) [ true ↦ Faulty (bad_frame.Short n) | false ↦ elim (nat_lt LONGEST_FRAME n) as (λ _. Front) [ true ↦ Faulty (bad_frame.Long n) | false ↦ cut_rest framing n rest ] ])) [
      | true ↦ tt
      | false ↦ elim (nat_lt LONGEST_FRAME n) as (λ t. FrontBytes (elim t as (λ _. Front) [ true ↦ Faulty (bad_frame.Long n) | false ↦ cut_rest framing n rest ])) [ true ↦ tt | false ↦ rest-bytes framing n rest a ]
    ]

first-bytes : (framing : Framing) (bytes : List ℕ) → AreBytes bytes → FrontBytes (first_frame framing bytes)
first-bytes framing [] a = tt
first-bytes framing (w ∷ []) a = tt
first-bytes framing (w ∷ x ∷ []) a = tt
first-bytes framing (w ∷ x ∷ y ∷ []) a = tt
first-bytes framing (w ∷ x ∷ y ∷ z ∷ rest) a = length-bytes framing (of_four w x y z) rest a.1.1.1.1

pub in-bytes : (mode : Mode) (bytes : List ℕ) → AreBytes bytes → FrontBytes (first_in mode bytes)
in-bytes InControl bytes a = first-bytes framing.Control bytes a
in-bytes InProxy bytes a = first-bytes framing.Proxy bytes a
in-bytes Stopped bytes a = tt

-- ---- what is sent

abbrev EachSending : List Outgoing → Type 0
EachSending [] = Unit {0}
EachSending (s ∷ ss) = SendingBytes s × EachSending ss

outgoing-bytes : (mode : Mode) (content : List ℕ) → AreBytes content → SendingBytes (sending_in mode content)
outgoing-bytes InControl content a = tt
outgoing-bytes InProxy content a = a
outgoing-bytes Stopped content a = a

parse-bytes : (n : ℕ) (mode : Mode) (bytes : List ℕ) → AreBytes bytes → EachSending (parse_by n mode bytes).says
parse-bytes zero mode bytes a = tt
parse-bytes (suc n) mode bytes a = by_front (first_in mode bytes) (in-bytes mode bytes a) (λ mode rest b. parse-bytes n mode rest b)
  where
    by_front : (f : Front) → FrontBytes f → ((mode : Mode) (rest : List ℕ) → AreBytes rest → EachSending (parse_by n mode rest).says) → EachSending (parse_front (parse_by n) mode bytes f).says
    by_front (Frame content rest) b ih = (outgoing-bytes mode content b.0, ih (mode_after mode content) rest b.1)
    by_front More b ih = tt
    by_front (Faulty fault) b ih = (tt, tt)

sayings-drop : (n : ℕ) (xs : List Outgoing) → EachSending xs → EachSending (drop n xs)
sayings-drop zero xs a = a
sayings-drop (suc n) [] a = tt
sayings-drop (suc n) (x ∷ xs) a = sayings-drop n xs a.1

-- ---- the items of a mark

-- an item that is lawful wherever it stands
abbrev Plain : Item → Type 0
Plain (Admit k) = ⊥
Plain (Says k outgoing reply) = (k ≡ 0 → ⊥) × SendingBytes outgoing
Plain item = Unit {0}

abbrev EachPlain : List Item → Type 0
EachPlain [] = Unit {0}
EachPlain (item ∷ items) = Plain item × EachPlain items

plain-append : (xs ys : List Item) → EachPlain xs → EachPlain ys → EachPlain (xs ++ ys)
plain-append [] ys a b = b
plain-append (x ∷ xs) ys a b = (a.0, plain-append xs ys a.1 b)

plain-reverse : (xs : List Item) → EachPlain xs → EachPlain (reverse xs)
plain-reverse [] a = tt
plain-reverse (x ∷ xs) a = subst EachPlain (sym (reverse-append (x ∷ []) xs)) (plain-append (reverse xs) (x ∷ []) (plain-reverse xs a.1) (a.0, tt))

plain-in : (before : List Item) (item : Item) → Plain item → LawfulIn before item
plain-in before (Admit k) a = absurd a
plain-in before (Says k outgoing reply) a = a
plain-in before item a = tt

plain-lawful : (xs ys : List Item) → EachPlain xs → LawfulItems ys → LawfulItems (xs ++ ys)
plain-lawful [] ys a b = b
plain-lawful (x ∷ xs) ys a b = (plain-in (xs ++ ys) x a.0, plain-lawful xs ys a.1 b)

plain-admits-none : (k : ℕ) (item : Item) → Plain item → admits_client k item ≡ false
plain-admits-none k (Admit j) a = absurd a
plain-admits-none k item a = refl

plain-admits : (k : ℕ) (xs ys : List Item) → EachPlain xs → any_of (admits_client k) (xs ++ ys) ≡ any_of (admits_client k) ys
plain-admits k [] ys a = refl
plain-admits k (x ∷ xs) ys a = ap (λ b. b || any_of (admits_client k) (xs ++ ys)) (plain-admits-none k x a.0) ∙ plain-admits k xs ys a.1

heard-plain : (ss : List Outgoing) → EachPlain (map received_item ss)
heard-plain [] = tt
heard-plain (Body body ∷ ss) = (tt, heard-plain ss)
heard-plain (Payload p ∷ ss) = (tt, heard-plain ss)
heard-plain (BadFraming fault ∷ ss) = (tt, heard-plain ss)

end-plain : (rest : List ℕ) → Plain (server_end rest)
end-plain [] = tt
end-plain (b ∷ rest) = tt

says-plain : (k : ℕ) → (k ≡ 0 → ⊥) → (ss : List Outgoing) → EachSending ss → EachPlain (map (sent_item k) ss)
says-plain k real [] a = tt
says-plain k real (s ∷ ss) a = ((real, a.0), says-plain k real ss a.1)

-- all bytes of a stream
stream-bytes : (k : ℕ) (marks : List Mark) → IsLawful marks → AreBytes (bytes_of k marks)
stream-bytes k [] lawful = tt
stream-bytes k (mark ∷ before) lawful = AreBytes-append (bytes_of k before) (bytes_in k mark) (stream-bytes k before lawful.1) (by_mark mark lawful.0)
  where
    by_house : (mark : HouseMark) → LawfulHouse before mark → AreBytes (house_sent mark)
    by_house (HouseSaid bytes) a = a.3
    by_house mark a = tt

    by_mark : (mark : Mark) → LawfulMark before mark → AreBytes (bytes_in k mark)
    by_mark (wire.House mark) a = elim (HOUSE == k) as (λ b. AreBytes (elim b as (λ _. List ℕ) [ true ↦ house_sent mark | false ↦ [] ])) [ true ↦ by_house mark a | false ↦ tt ]
    by_mark (wire.Gets stream bytes) a = elim (stream == k) as (λ b. AreBytes (elim b as (λ _. List ℕ) [ true ↦ bytes | false ↦ [] ])) [ true ↦ a.3 | false ↦ tt ]
    by_mark mark a = tt

not-zero : (k : ℕ) → (k == 0) ≡ false → k ≡ 0 → ⊥
not-zero k e z = grind (arith, nat_tests)

-- a mark accepts a client, or its items are plain
abbrev Accepting : Mark → Type 0
Accepting (wire.Accepts k) = Unit {0}
Accepting (wire.House HouseIn) = Unit {0}
Accepting mark = ⊥

unless-plain : (stream : ℕ) (items : List Item) → EachPlain items → EachPlain (unless_own stream items)
unless-plain stream items a = elim (is_own_stream stream) as (λ b. EachPlain (elim b as (λ _. List Item) [ true ↦ [] | false ↦ items ])) [ true ↦ tt | false ↦ a ]

gone-or : (stream : ℕ) (item : Item) → Plain item → EachPlain (elim (stream == 0) as (λ _. List Item) [ true ↦ item ∷ [] | false ↦ unless_own stream (Gone stream ∷ []) ])
gone-or stream item a = elim (stream == 0) as (λ b. EachPlain (elim b as (λ _. List Item) [ true ↦ item ∷ [] | false ↦ unless_own stream (Gone stream ∷ []) ])) [ true ↦ (a, tt) | false ↦ unless-plain stream (Gone stream ∷ []) (tt, tt) ]

plain-mark : (before : List Mark) (mark : Mark) → IsLawful before → LawfulMark before mark → (Accepting mark → ⊥) → EachPlain (items_in before mark)
plain-mark before (wire.Accepts k) all lawful never = absurd (never tt)
plain-mark before (wire.Gets stream bytes) all lawful never = by_stream (stream == 0) refl
  where
    by_stream : (b : Bool) → (stream == 0) ≡ b → EachPlain (elim b as (λ _. List Item) [ true ↦ new_received (bytes_of 0 before) (bytes_of 0 before ++ bytes) | false ↦ unless_own stream (new_sayings stream (bytes_of stream before) (bytes_of stream before ++ bytes)) ])
    by_stream true e = heard-plain (drop (length (parse InProxy (bytes_of 0 before)).says) (parse InProxy (bytes_of 0 before ++ bytes)).says)
    by_stream false e = unless-plain stream (new_sayings stream (bytes_of stream before) (bytes_of stream before ++ bytes)) (says-plain stream (not-zero stream e) (drop (length (said (bytes_of stream before))) (said (bytes_of stream before ++ bytes))) (sayings-drop (length (said (bytes_of stream before))) (said (bytes_of stream before ++ bytes)) (parse-bytes (length (bytes_of stream before ++ bytes)) InControl (bytes_of stream before ++ bytes) (AreBytes-append (bytes_of stream before) bytes (stream-bytes stream before all) lawful.3))))
plain-mark before (wire.Ends stream) all lawful never = gone-or stream (server_end (parse InProxy (bytes_of 0 before)).rest) (end-plain (parse InProxy (bytes_of 0 before)).rest)
plain-mark before (wire.Fails stream) all lawful never = gone-or stream ServerFailed tt
plain-mark before (wire.WriteFails stream) all lawful never = gone-or stream ServerFailed tt
plain-mark before (wire.Takes stream bytes accepts) all lawful never = unless-plain stream _ (tt, tt)
plain-mark before (wire.Joins listener stream) all lawful never = tt
plain-mark before (wire.House HouseIn) all lawful never = absurd (never tt)
plain-mark before (wire.House (HouseSaid bytes)) all lawful never = says-plain HOUSE (not-zero HOUSE refl) (drop (length (said (bytes_of HOUSE before))) (said (bytes_of HOUSE before ++ bytes))) (sayings-drop (length (said (bytes_of HOUSE before))) (said (bytes_of HOUSE before ++ bytes)) (parse-bytes (length (bytes_of HOUSE before ++ bytes)) InControl (bytes_of HOUSE before ++ bytes) (AreBytes-append (bytes_of HOUSE before) bytes (stream-bytes HOUSE before all) lawful.3)))
plain-mark before (wire.House (HouseTook size)) all lawful never = (tt, tt)
plain-mark before (wire.House (HouseAnswer k id given)) all lawful never = (tt, tt)
plain-mark before (wire.House (HouseAsked k id opening ask given)) all lawful never = tt
plain-mark before (wire.House (HouseOrder order number)) all lawful never = tt
plain-mark before (wire.Holds stream) all lawful never = tt
plain-mark before (wire.Frees stream) all lawful never = tt
plain-mark before (wire.Waits waiting want streams shown) all lawful never = tt

-- ---- each client is accepted once

abbrev pub accepts : ℕ → Mark → Bool
accepts k (wire.Accepts j) = j == k
accepts k (wire.House mark) = lets_in k mark
accepts k mark = false

house-above : (k : ℕ) → k ≤ LAST_CLIENT → (HOUSE == k) ≡ false
house-above k le = grind (arith, nat_tests)

no-house : (k : ℕ) → k ≤ LAST_CLIENT → (mark : HouseMark) → lets_in k mark ≡ false
no-house k le HouseIn = house-above k le
no-house k le mark = refl

other-client : (j k : ℕ) → j < k → (j == k) ≡ false
other-client j k lt = grind (arith, nat_tests)

-- clients above the last one were not accepted
pub none-above : (k : ℕ) → k ≤ LAST_CLIENT → (marks : List Mark) → IsLawful marks → last_client marks < k → any_of (accepts k) marks ≡ false
none-above k le [] lawful lt = refl
none-above k le (mark ∷ before) lawful lt = by_mark mark lawful.0 lt (none-above k le before lawful.1)
  where
    by_mark : (mark : Mark) → LawfulMark before mark → last_client (mark ∷ before) < k → (last_client before < k → any_of (accepts k) before ≡ false) → any_of (accepts k) (mark ∷ before) ≡ false
    by_mark (wire.Accepts j) a lt ih = ap (λ b. b || any_of (accepts k) before) (other-client j k lt) ∙ ih (let above = a.0 in omega (arith, above, lt))
    by_mark (wire.House mark) a lt ih = ap (λ b. b || any_of (accepts k) before) (no-house k le mark) ∙ ih lt
    by_mark mark a lt ih = ih lt

-- what no mark accepts no item admits
items-admit : (k : ℕ) (marks : List Mark) → IsLawful marks → any_of (accepts k) marks ≡ false → any_of (admits_client k) (items marks) ≡ false
items-admit k [] lawful none = refl
items-admit k (mark ∷ before) lawful none = by_mark mark lawful.0 (or-left (accepts k mark) (any_of (accepts k) before) none) (items-admit k before lawful.1 (or-right (accepts k mark) (any_of (accepts k) before) none))
  where
    plain : (mark : Mark) → LawfulMark before mark → (Accepting mark → ⊥) → any_of (admits_client k) (items before) ≡ false → any_of (admits_client k) (reverse (items_in before mark) ++ items before) ≡ false
    plain mark a never ih = plain-admits k (reverse (items_in before mark)) (items before) (plain-reverse (items_in before mark) (plain-mark before mark lawful.1 a never)) ∙ ih

    by_mark : (mark : Mark) → LawfulMark before mark → accepts k mark ≡ false → any_of (admits_client k) (items before) ≡ false → any_of (admits_client k) (reverse (items_in before mark) ++ items before) ≡ false
    by_mark (wire.Accepts j) a other ih = ap (λ b. b || any_of (admits_client k) (items before)) other ∙ ih
    by_mark (wire.House HouseIn) a other ih = ap (λ b. b || any_of (admits_client k) (items before)) other ∙ ih
    by_mark mark a other ih = plain mark a (λ h. h) ih

pub items-lawful : (marks : List Mark) → IsLawful marks → LawfulItems (items marks)
items-lawful [] lawful = tt
items-lawful (mark ∷ before) lawful = by_mark mark lawful.0 (items-lawful before lawful.1)
  where
    plain : (mark : Mark) → LawfulMark before mark → (Accepting mark → ⊥) → LawfulItems (items before) → LawfulItems (reverse (items_in before mark) ++ items before)
    plain mark a never ih = plain-lawful (reverse (items_in before mark)) (items before) (plain-reverse (items_in before mark) (plain-mark before mark lawful.1 a never)) ih

    by_mark : (mark : Mark) → LawfulMark before mark → LawfulItems (items before) → LawfulItems (reverse (items_in before mark) ++ items before)
    by_mark (wire.Accepts k) a ih = (items-admit k before lawful.1 (none-above k a.1 before lawful.1 a.0), ih)
    by_mark (wire.House HouseIn) a ih = (subst (λ (b : List Mark). any_of (admits_client HOUSE) (items b) ≡ false) (sym a) refl, ih)
    by_mark mark a ih = plain mark a (λ h. h) ih

-- so are all but the newest
lawful-drop : (n : ℕ) (xs : List Item) → LawfulItems xs → LawfulItems (drop n xs)
lawful-drop zero xs lawful = lawful
lawful-drop (suc n) [] lawful = tt
lawful-drop (suc n) (x ∷ xs) lawful = lawful-drop n xs lawful.1

pub left-lawful : (left : ℕ) (marks : List Mark) → IsLawful marks → LawfulItems (drop left (items marks))
left-lawful left marks lawful = lawful-drop left (items marks) (items-lawful marks lawful)
