-- What the items of a stream say is what all its bytes say.
use Rattle.std.proofs.Common.{◌≡◌, ◌∙◌, refl, ap, sym, ℕ, Bool, true, false, List, [], ◌∷◌, ◌++◌, drop, length, map, ◌==◌, ◌<◌, arith}
use Rattle.std.specs.Prelude.{filter, reverse}
use Rattle.std.proofs.lemmas.Bool.Decides.{nat_tests}
use Rattle.std.proofs.lemmas.List.{append-nil, reverse-append, reverse-reverse}
use Rattle.std.proofs.lemmas.List.Elements.{filter-append}
use Rattle.ssh_grammar.specs.Said.{BadFraming, Body, InControl, InProxy, Mode, Payload, Outgoing, parse}
use Rattle.mux_outside.specs.declared.mark.Mark.{Mark}
use Rattle.mux_outside.specs.declared.mark.Mark.TheVariants as wire
use Rattle.mux_outside.specs.declared.house_mark.HouseMark.TheVariants.{HouseAnswer, HouseAsked, HouseIn, HouseOrder, HouseSaid, HouseTook}
use Rattle.mux_history.specs.declared.limits.TheConstants.{HOUSE}
use Rattle.mux_history.specs.Journal.{bytes_in, bytes_of, received_item, is_own_stream, items, items_in, new_received, new_sayings, sent_item, server_end, unless_own}
use Rattle.mux_history.specs.Rows.{Gone, Item, ServerFailed, Took}
use Rattle.mux_history.proofs.Bools.{same-number, self}
use Rattle.mux_history.proofs.Finds.{filter-no, filter-yes}
use Rattle.mux_pieces.specs.Pieces.{is_by_server, is_sent_by}
use Rattle.mux_pieces.proofs.Pieces.{map-append, more, new-is, says, says-more}

-- what comes next of a journal stands after what came
items-next : (before : List Mark) (mark : Mark) → reverse (items (mark ∷ before)) ≡ reverse (items before) ++ items_in before mark
items-next before mark = reverse-append (reverse (items_in before mark)) (items before) ∙ ap (λ l. reverse (items before) ++ l) (reverse-reverse (items_in before mark))

-- those that pass, of one mark more
passes-next : (test : Item → Bool) (before : List Mark) (mark : Mark) → filter test (reverse (items (mark ∷ before))) ≡ filter test (reverse (items before)) ++ filter test (items_in before mark)
passes-next test before mark = ap (filter test) (items-next before mark) ∙ filter-append test (reverse (items before)) (items_in before mark)

-- all pass, or none does
all-pass : (test : Item → Bool) (f : Outgoing → Item) → ((s : Outgoing) → test (f s) ≡ true) → (ss : List Outgoing) → filter test (map f ss) ≡ map f ss
all-pass test f passes [] = refl
all-pass test f passes (s ∷ ss) = filter-yes test (f s) (map f ss) (passes s) ∙ ap (λ l. f s ∷ l) (all-pass test f passes ss)

none-pass : (test : Item → Bool) (f : Outgoing → Item) → ((s : Outgoing) → test (f s) ≡ false) → (ss : List Outgoing) → filter test (map f ss) ≡ []
none-pass test f passes [] = refl
none-pass test f passes (s ∷ ss) = filter-no test (f s) (map f ss) (passes s) ∙ none-pass test f passes ss

heard-passes : (s : Outgoing) → is_by_server (received_item s) ≡ true
heard-passes (Body body) = refl
heard-passes (Payload p) = refl
heard-passes (BadFraming fault) = refl

heard-silent : (k : ℕ) (s : Outgoing) → is_sent_by k (received_item s) ≡ false
heard-silent k (Body body) = refl
heard-silent k (Payload p) = refl
heard-silent k (BadFraming fault) = refl

-- ---- a stream, and the items that are its own

-- what a stream's items say by all its bytes
abbrev Recorded : (Item → Bool) → (Outgoing → Item) → Mode → ℕ → List Mark → Type 0
Recorded test f mode t marks = filter test (reverse (items marks)) ≡ map f (says mode (bytes_of t marks))

-- a mark that records nothing of it, and gives it no byte
recorded-still : (test : Item → Bool) (f : Outgoing → Item) (mode : Mode) (t : ℕ) (before : List Mark) (mark : Mark)
    → filter test (items_in before mark) ≡ [] → bytes_in t mark ≡ [] → Recorded test f mode t before → Recorded test f mode t (mark ∷ before)
recorded-still test f mode t before mark none quiet recorded =
    passes-next test before mark
    ∙ (ap (λ l. filter test (reverse (items before)) ++ l) none
    ∙ (append-nil (filter test (reverse (items before)))
    ∙ (recorded ∙ ap (λ b. map f (says mode b)) (sym (ap (λ b. bytes_of t before ++ b) quiet ∙ append-nil (bytes_of t before))))))

-- its own bytes
recorded-more : (test : Item → Bool) (f : Outgoing → Item) (mode : Mode) (t : ℕ) (before : List Mark) (mark : Mark) (bytes : List ℕ)
    → filter test (items_in before mark) ≡ map f (more mode (bytes_of t before) bytes) → bytes_in t mark ≡ bytes → Recorded test f mode t before → Recorded test f mode t (mark ∷ before)
recorded-more test f mode t before mark bytes new gives recorded =
    passes-next test before mark
    ∙ (ap (λ l. filter test (reverse (items before)) ++ l) new
    ∙ (ap (λ l. l ++ map f (more mode (bytes_of t before) bytes)) recorded
    ∙ (sym (map-append f (says mode (bytes_of t before)) (more mode (bytes_of t before) bytes))
    ∙ (ap (map f) (sym (says-more mode (bytes_of t before) bytes))
    ∙ ap (λ b. map f (says mode (bytes_of t before ++ b))) (sym gives)))))

-- ---- ends and failures say nothing

unless-none : (test : Item → Bool) (t : ℕ) (xs : List Item) → filter test xs ≡ [] → filter test (unless_own t xs) ≡ []
unless-none test t xs none = elim (is_own_stream t) as (λ b. filter test (elim b as (λ _. List Item) [ true ↦ [] | false ↦ xs ]) ≡ []) [ true ↦ refl | false ↦ none ]

gone-still : (test : Item → Bool) (t : ℕ) (item : Item) → test item ≡ false → ((k : ℕ) → test (Gone k) ≡ false) → filter test (elim (t == 0) as (λ _. List Item) [ true ↦ item ∷ [] | false ↦ unless_own t (Gone t ∷ []) ]) ≡ []
gone-still test t item quiet gone = elim (t == 0) as (λ b. filter test (elim b as (λ _. List Item) [ true ↦ item ∷ [] | false ↦ unless_own t (Gone t ∷ []) ]) ≡ []) [ true ↦ filter-no test item [] quiet | false ↦ unless-none test t (Gone t ∷ []) (filter-no test (Gone t) [] (gone t)) ]

end-silent : (k : ℕ) (rest : List ℕ) → is_sent_by k (server_end rest) ≡ false
end-silent k [] = refl
end-silent k (b ∷ rest) = refl

end-unheard : (rest : List ℕ) → is_by_server (server_end rest) ≡ false
end-unheard [] = refl
end-unheard (b ∷ rest) = refl

-- ---- pieces

-- the items of a piece, by whether it is the server's
abbrev of_piece : Bool → List Mark → ℕ → List ℕ → List Item
of_piece b before stream bytes = elim b as (λ _. List Item) [ true ↦ new_received (bytes_of 0 before) (bytes_of 0 before ++ bytes) | false ↦ unless_own stream (new_sayings stream (bytes_of stream before) (bytes_of stream before ++ bytes)) ]

-- what new bytes say
abbrev new_sends : Mode → List ℕ → List ℕ → List Outgoing
new_sends mode x a = drop (length (says mode x)) (says mode (x ++ a))

abbrev gives : Bool → List ℕ → List ℕ
gives b bytes = elim b as (λ _. List ℕ) [ true ↦ bytes | false ↦ [] ]

differ : (a b : ℕ) → a ≡ b → 0 < b → (a == 0) ≡ false
differ a b e pos = grind (arith, nat_tests)

module _ (before : List Mark) (stream : ℕ) (bytes : List ℕ) where
  abbrev piece : Mark
  piece = wire.Gets stream bytes

  said-piece : (k : ℕ) → 0 < k → is_own_stream k ≡ false → Recorded (is_sent_by k) (sent_item k) InControl k before → Recorded (is_sent_by k) (sent_item k) InControl k (piece ∷ before)
  said-piece k pos client recorded = by_own (stream == k) refl
    where
      by_server : (b : Bool) → (stream == 0) ≡ b → (stream == k) ≡ false → filter (is_sent_by k) (items_in before piece) ≡ []
      by_server true e other = ap (λ c. filter (is_sent_by k) (of_piece c before stream bytes)) e ∙ none-pass (is_sent_by k) received_item (heard-silent k) (new_sends InProxy (bytes_of 0 before) bytes)
      by_server false e other = ap (λ c. filter (is_sent_by k) (of_piece c before stream bytes)) e ∙ unless-none (is_sent_by k) stream _ (none-pass (is_sent_by k) (sent_item stream) (λ s. other) (new_sends InControl (bytes_of stream before) bytes))

      own-items : stream ≡ k → filter (is_sent_by k) (items_in before piece) ≡ map (sent_item k) (more InControl (bytes_of k before) bytes)
      own-items same =
          ap (λ c. filter (is_sent_by k) (of_piece c before stream bytes)) (differ stream k same pos)
          ∙ (ap (λ j. filter (is_sent_by k) (unless_own j (new_sayings j (bytes_of j before) (bytes_of j before ++ bytes)))) same
          ∙ (ap (λ c. filter (is_sent_by k) (elim c as (λ _. List Item) [ true ↦ [] | false ↦ new_sayings k (bytes_of k before) (bytes_of k before ++ bytes) ])) client
          ∙ (all-pass (is_sent_by k) (sent_item k) (λ s. self k) (new_sends InControl (bytes_of k before) bytes)
          ∙ ap (map (sent_item k)) (new-is InControl (bytes_of k before) bytes))))

      by_own : (b : Bool) → (stream == k) ≡ b → Recorded (is_sent_by k) (sent_item k) InControl k (piece ∷ before)
      by_own true e = recorded-more (is_sent_by k) (sent_item k) InControl k before piece bytes (own-items (same-number stream k e)) (ap (λ b. gives b bytes) e) recorded
      by_own false e = recorded-still (is_sent_by k) (sent_item k) InControl k before piece (by_server (stream == 0) refl e) (ap (λ b. gives b bytes) e) recorded

  heard-piece : Recorded is_by_server received_item InProxy 0 before → Recorded is_by_server received_item InProxy 0 (piece ∷ before)
  heard-piece recorded = by_server (stream == 0) refl
    where
      items-are : (b : Bool) → (stream == 0) ≡ b → filter is_by_server (items_in before piece) ≡ filter is_by_server (of_piece b before stream bytes)
      items-are b e = ap (λ c. filter is_by_server (of_piece c before stream bytes)) e

      by_server : (b : Bool) → (stream == 0) ≡ b → Recorded is_by_server received_item InProxy 0 (piece ∷ before)
      by_server true e = recorded-more is_by_server received_item InProxy 0 before piece bytes
          (items-are true e ∙ (all-pass is_by_server received_item heard-passes (new_sends InProxy (bytes_of 0 before) bytes) ∙ ap (map received_item) (new-is InProxy (bytes_of 0 before) bytes))) (ap (λ b. gives b bytes) e) recorded
      by_server false e = recorded-still is_by_server received_item InProxy 0 before piece
          (items-are false e ∙ unless-none is_by_server stream _ (none-pass is_by_server (sent_item stream) (λ s. refl) (new_sends InControl (bytes_of stream before) bytes))) (ap (λ b. gives b bytes) e) recorded

-- ---- all marks

-- what the forwarder sends is the sayings of its number
house-said : (before : List Mark) (bytes : List ℕ) (k : ℕ) → Recorded (is_sent_by k) (sent_item k) InControl k before → Recorded (is_sent_by k) (sent_item k) InControl k (wire.House (HouseSaid bytes) ∷ before)
house-said before bytes k recorded = by_same (HOUSE == k) refl
  where
    own-items : HOUSE ≡ k → filter (is_sent_by k) (new_sayings HOUSE (bytes_of HOUSE before) (bytes_of HOUSE before ++ bytes)) ≡ map (sent_item k) (more InControl (bytes_of k before) bytes)
    own-items same =
        ap (λ j. filter (is_sent_by k) (new_sayings j (bytes_of j before) (bytes_of j before ++ bytes))) same
        ∙ (all-pass (is_sent_by k) (sent_item k) (λ s. self k) (new_sends InControl (bytes_of k before) bytes)
        ∙ ap (map (sent_item k)) (new-is InControl (bytes_of k before) bytes))

    by_same : (b : Bool) → (HOUSE == k) ≡ b → Recorded (is_sent_by k) (sent_item k) InControl k (wire.House (HouseSaid bytes) ∷ before)
    by_same true e = recorded-more (is_sent_by k) (sent_item k) InControl k before (wire.House (HouseSaid bytes)) bytes (own-items (same-number HOUSE k e)) (ap (λ b. gives b bytes) e) recorded
    by_same false e = recorded-still (is_sent_by k) (sent_item k) InControl k before (wire.House (HouseSaid bytes)) (none-pass (is_sent_by k) (sent_item HOUSE) (λ s. e) (new_sends InControl (bytes_of HOUSE before) bytes)) (ap (λ b. gives b bytes) e) recorded

-- what another mark of the forwarder has no bytes of it
house-bytes : (k : ℕ) → (elim (HOUSE == k) as (λ _. List ℕ) [ true ↦ [] | false ↦ [] ]) ≡ []
house-bytes k = elim (HOUSE == k) as (λ b. (elim b as (λ _. List ℕ) [ true ↦ [] | false ↦ [] ]) ≡ []) [ true ↦ refl | false ↦ refl ]

pub sayings-are : (marks : List Mark) (k : ℕ) → 0 < k → is_own_stream k ≡ false → Recorded (is_sent_by k) (sent_item k) InControl k marks
sayings-are [] k pos client = refl
sayings-are (mark ∷ before) k pos client = by_mark mark (sayings-are before k pos client)
  where
    still : (m : Mark) → filter (is_sent_by k) (items_in before m) ≡ [] → bytes_in k m ≡ [] → Recorded (is_sent_by k) (sent_item k) InControl k before → Recorded (is_sent_by k) (sent_item k) InControl k (m ∷ before)
    still m none quiet recorded = recorded-still (is_sent_by k) (sent_item k) InControl k before m none quiet recorded

    by_mark : (m : Mark) → Recorded (is_sent_by k) (sent_item k) InControl k before → Recorded (is_sent_by k) (sent_item k) InControl k (m ∷ before)
    by_mark (wire.Gets stream bytes) recorded = said-piece before stream bytes k pos client recorded
    by_mark (wire.Takes stream bytes accepts) recorded = still (wire.Takes stream bytes accepts) (unless-none (is_sent_by k) stream (Took stream (length bytes) ∷ []) refl) refl recorded
    by_mark (wire.House (HouseSaid bytes)) recorded = house-said before bytes k recorded
    by_mark (wire.House HouseIn) recorded = still (wire.House HouseIn) refl (house-bytes k) recorded
    by_mark (wire.House (HouseTook size)) recorded = still (wire.House (HouseTook size)) refl (house-bytes k) recorded
    by_mark (wire.House (HouseAsked j id opening ask given)) recorded = still (wire.House (HouseAsked j id opening ask given)) refl (house-bytes k) recorded
    by_mark (wire.House (HouseAnswer j id given)) recorded = still (wire.House (HouseAnswer j id given)) refl (house-bytes k) recorded
    by_mark (wire.House (HouseOrder order number)) recorded = still (wire.House (HouseOrder order number)) refl (house-bytes k) recorded
    by_mark (wire.Ends t) recorded = still (wire.Ends t) (gone-still (is_sent_by k) t (server_end (parse InProxy (bytes_of 0 before)).rest) (end-silent k (parse InProxy (bytes_of 0 before)).rest) (λ j. refl)) refl recorded
    by_mark (wire.Fails t) recorded = still (wire.Fails t) (gone-still (is_sent_by k) t ServerFailed refl (λ j. refl)) refl recorded
    by_mark (wire.WriteFails t) recorded = still (wire.WriteFails t) (gone-still (is_sent_by k) t ServerFailed refl (λ j. refl)) refl recorded
    by_mark m recorded = still m refl refl recorded

pub heard-are : (marks : List Mark) → Recorded is_by_server received_item InProxy 0 marks
heard-are [] = refl
heard-are (mark ∷ before) = by_mark mark (heard-are before)
  where
    still : (m : Mark) → filter is_by_server (items_in before m) ≡ [] → bytes_in 0 m ≡ [] → Recorded is_by_server received_item InProxy 0 before → Recorded is_by_server received_item InProxy 0 (m ∷ before)
    still m none quiet recorded = recorded-still is_by_server received_item InProxy 0 before m none quiet recorded

    by_mark : (m : Mark) → Recorded is_by_server received_item InProxy 0 before → Recorded is_by_server received_item InProxy 0 (m ∷ before)
    by_mark (wire.Gets stream bytes) recorded = heard-piece before stream bytes recorded
    by_mark (wire.Takes stream bytes accepts) recorded = still (wire.Takes stream bytes accepts) (unless-none is_by_server stream (Took stream (length bytes) ∷ []) refl) refl recorded
    by_mark (wire.House (HouseSaid bytes)) recorded = still (wire.House (HouseSaid bytes)) (none-pass is_by_server (sent_item HOUSE) (λ s. refl) (new_sends InControl (bytes_of HOUSE before) bytes)) refl recorded
    by_mark (wire.House HouseIn) recorded = still (wire.House HouseIn) refl refl recorded
    by_mark (wire.House (HouseTook size)) recorded = still (wire.House (HouseTook size)) refl refl recorded
    by_mark (wire.House (HouseAsked j id opening ask given)) recorded = still (wire.House (HouseAsked j id opening ask given)) refl refl recorded
    by_mark (wire.House (HouseAnswer j id given)) recorded = still (wire.House (HouseAnswer j id given)) refl refl recorded
    by_mark (wire.House (HouseOrder order number)) recorded = still (wire.House (HouseOrder order number)) refl refl recorded
    by_mark (wire.Ends t) recorded = still (wire.Ends t) (gone-still is_by_server t (server_end (parse InProxy (bytes_of 0 before)).rest) (end-unheard (parse InProxy (bytes_of 0 before)).rest) (λ j. refl)) refl recorded
    by_mark (wire.Fails t) recorded = still (wire.Fails t) (gone-still is_by_server t ServerFailed refl (λ j. refl)) refl recorded
    by_mark (wire.WriteFails t) recorded = still (wire.WriteFails t) (gone-still is_by_server t ServerFailed refl (λ j. refl)) refl recorded
    by_mark m recorded = still m refl refl recorded

-- ---- no client is client 0, nor one of the master's own streams

-- a mark that none sends anything in
none-more : (test : Item → Bool) (before : List Mark) (mark : Mark) → filter test (items_in before mark) ≡ [] → filter test (reverse (items before)) ≡ [] → filter test (reverse (items (mark ∷ before))) ≡ []
none-more test before mark none recorded = passes-next test before mark ∙ (ap (λ l. l ++ filter test (items_in before mark)) recorded ∙ none)

-- no client and no forwarder has the number
abbrev pub IsNobody : ℕ → Type 0
IsNobody k = (stream : ℕ) → (stream == 0) ≡ false → is_own_stream stream ≡ false → (stream == k) ≡ false

pub zero-nobody : (k : ℕ) → k ≡ 0 → IsNobody k
zero-nobody k zero stream real client = grind (arith, nat_tests)

pub own-nobody : (k : ℕ) → is_own_stream k ≡ true → IsNobody k
own-nobody k own stream real client = by_case (stream == k) refl
  where
    by_case : (b : Bool) → (stream == k) ≡ b → (stream == k) ≡ false
    by_case false e = e
    by_case true e = let bad : true ≡ false = sym own ∙ (ap is_own_stream (sym (same-number stream k e)) ∙ client) in let h = bad in cc

pub none-said : (k : ℕ) → IsNobody k → (marks : List Mark) → filter (is_sent_by k) (reverse (items marks)) ≡ []
none-said k nobody [] = refl
none-said k nobody (mark ∷ before) = by_mark mark (none-said k nobody before)
  where
    by_own : (stream : ℕ) (bytes : List ℕ) → (stream == 0) ≡ false → (b : Bool) → is_own_stream stream ≡ b → filter (is_sent_by k) (elim b as (λ _. List Item) [ true ↦ [] | false ↦ new_sayings stream (bytes_of stream before) (bytes_of stream before ++ bytes) ]) ≡ []
    by_own stream bytes real true e = refl
    by_own stream bytes real false e = none-pass (is_sent_by k) (sent_item stream) (λ s. nobody stream real e) (new_sends InControl (bytes_of stream before) bytes)

    by_piece : (stream : ℕ) (bytes : List ℕ) (b : Bool) → (stream == 0) ≡ b → filter (is_sent_by k) (of_piece b before stream bytes) ≡ []
    by_piece stream bytes true e = none-pass (is_sent_by k) received_item (heard-silent k) (new_sends InProxy (bytes_of 0 before) bytes)
    by_piece stream bytes false e = by_own stream bytes e (is_own_stream stream) refl

    by_mark : (m : Mark) → filter (is_sent_by k) (reverse (items before)) ≡ [] → filter (is_sent_by k) (reverse (items (m ∷ before))) ≡ []
    by_mark (wire.Gets stream bytes) recorded = none-more (is_sent_by k) before (wire.Gets stream bytes) (by_piece stream bytes (stream == 0) refl) recorded
    by_mark (wire.Ends t) recorded = none-more (is_sent_by k) before (wire.Ends t) (gone-still (is_sent_by k) t (server_end (parse InProxy (bytes_of 0 before)).rest) (end-silent k (parse InProxy (bytes_of 0 before)).rest) (λ j. refl)) recorded
    by_mark (wire.Fails t) recorded = none-more (is_sent_by k) before (wire.Fails t) (gone-still (is_sent_by k) t ServerFailed refl (λ j. refl)) recorded
    by_mark (wire.WriteFails t) recorded = none-more (is_sent_by k) before (wire.WriteFails t) (gone-still (is_sent_by k) t ServerFailed refl (λ j. refl)) recorded
    by_mark (wire.Takes stream bytes accepts) recorded = none-more (is_sent_by k) before (wire.Takes stream bytes accepts) (unless-none (is_sent_by k) stream (Took stream (length bytes) ∷ []) refl) recorded
    by_mark (wire.House (HouseSaid bytes)) recorded = none-more (is_sent_by k) before (wire.House (HouseSaid bytes)) (none-pass (is_sent_by k) (sent_item HOUSE) (λ s. nobody HOUSE refl refl) (new_sends InControl (bytes_of HOUSE before) bytes)) recorded
    by_mark (wire.House HouseIn) recorded = none-more (is_sent_by k) before (wire.House HouseIn) refl recorded
    by_mark (wire.House (HouseTook size)) recorded = none-more (is_sent_by k) before (wire.House (HouseTook size)) refl recorded
    by_mark (wire.House (HouseAsked j id opening ask given)) recorded = none-more (is_sent_by k) before (wire.House (HouseAsked j id opening ask given)) refl recorded
    by_mark (wire.House (HouseAnswer j id given)) recorded = none-more (is_sent_by k) before (wire.House (HouseAnswer j id given)) refl recorded
    by_mark (wire.House (HouseOrder order number)) recorded = none-more (is_sent_by k) before (wire.House (HouseOrder order number)) refl recorded
    by_mark m recorded = none-more (is_sent_by k) before m refl recorded
