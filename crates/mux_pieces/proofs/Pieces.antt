-- A piece in two parts, and the same mark after journals that are alike.
use Rattle.std.proofs.Common.{◌≡◌, ◌∙◌, refl, ap, sym, ℕ, Bool, true, false, List, [], ◌∷◌, ◌++◌, length, drop, map, ◌==◌, append_assoc, inl, inr, subst}
use Rattle.std.proofs.lemmas.Bool.Decides.{eqb_tells}
use Rattle.std.specs.Prelude.{reverse}
use Rattle.std.proofs.lemmas.List.{append-nil, reverse-append}
use Rattle.ssh_grammar.specs.Said.{InControl, InProxy, Mode, Parsed, Outgoing, parse}
use Rattle.ssh_grammar.proofs.Parses.{parse-append}
use Rattle.mux_outside.specs.declared.mark.Mark.{Mark}
use Rattle.mux_outside.specs.declared.mark.Mark.TheVariants as wire
use Rattle.mux_outside.specs.declared.shown.Shown.{Shown}
use Rattle.mux_outside.specs.declared.turn.Want.{Want}
use Rattle.mux_outside.specs.declared.house_mark.HouseMark.{HouseMark}
use Rattle.mux_outside.specs.declared.house_mark.HouseMark.TheVariants.{HouseAnswer, HouseAsked, HouseIn, HouseOrder, HouseSaid, HouseTook}
use Rattle.mux_history.specs.declared.limits.TheConstants.{HOUSE}
use Rattle.mux_history.specs.Journal.{bytes_in, bytes_of, received_item, is_own_stream, items, items_in, new_received, new_sayings, sent_item, server_end, unless_own}
use Rattle.mux_history.specs.Rows.{Item, Gone}
use Rattle.mux_pieces.specs.Pieces.{AreCutAlike}

-- ---- what is new in two parts

drop-front : (xs ys : List Outgoing) → drop (length xs) (xs ++ ys) ≡ ys
drop-front [] ys = refl
drop-front (x ∷ xs) ys = drop-front xs ys

-- what is after the first of three is what is after it of two, and the third
drop-two : (xs ys zs : List Outgoing) → drop (length xs) ((xs ++ ys) ++ zs) ≡ ys ++ zs
drop-two xs ys zs = ap (drop (length xs)) (append_assoc xs ys zs) ∙ drop-front xs (ys ++ zs)

pub map-append : (f : Outgoing → Item) (xs ys : List Outgoing) → map f (xs ++ ys) ≡ map f xs ++ map f ys
map-append f [] ys = refl
map-append f (x ∷ xs) ys = ap (λ l. f x ∷ l) (map-append f xs ys)

-- what is sent from a mode on
abbrev pub says : Mode → List ℕ → List Outgoing
says mode bytes = (parse mode bytes).says

-- what more bytes say
abbrev pub more : Mode → List ℕ → List ℕ → List Outgoing
more mode a b = (parse (parse mode a).mode ((parse mode a).rest ++ b)).says

pub says-more : (mode : Mode) (a b : List ℕ) → says mode (a ++ b) ≡ says mode a ++ more mode a b
says-more mode a b = ap (λ (p : Parsed). p.says) (parse-append mode a b)

pub new-is : (mode : Mode) (x a : List ℕ) → drop (length (says mode x)) (says mode (x ++ a)) ≡ more mode x a
new-is mode x a = ap (drop (length (says mode x))) (says-more mode x a) ∙ drop-front (says mode x) (more mode x a)

-- the new sayings of a whole are those of its parts
new-parts : (mode : Mode) (x a b : List ℕ)
    → drop (length (says mode x)) (says mode (x ++ (a ++ b)))
    ≡ drop (length (says mode x)) (says mode (x ++ a)) ++ drop (length (says mode (x ++ a))) (says mode ((x ++ a) ++ b))
new-parts mode x a b =
    ap (λ bytes. drop (length (says mode x)) (says mode bytes)) (sym (append_assoc x a b))
    ∙ (ap (drop (length (says mode x))) (says-more mode (x ++ a) b ∙ ap (λ l. l ++ more mode (x ++ a) b) (says-more mode x a))
    ∙ (drop-two (says mode x) (more mode x a) (more mode (x ++ a) b)
    ∙ (ap (λ l. l ++ more mode (x ++ a) b) (sym (new-is mode x a))
    ∙ ap (λ l. drop (length (says mode x)) (says mode (x ++ a)) ++ l) (sym (new-is mode (x ++ a) b)))))

items-parts : (f : Outgoing → Item) (mode : Mode) (x a b : List ℕ)
    → map f (drop (length (says mode x)) (says mode (x ++ (a ++ b))))
    ≡ map f (drop (length (says mode x)) (says mode (x ++ a))) ++ map f (drop (length (says mode (x ++ a))) (says mode ((x ++ a) ++ b)))
items-parts f mode x a b = ap (map f) (new-parts mode x a b) ∙ map-append f _ _

-- the items of a piece of the stream, which is the server's or a client's
abbrev new_items : Bool → ℕ → List ℕ → List ℕ → List Item
new_items is_server t x y = elim is_server as (λ _. List Item) [ true ↦ new_received x y | false ↦ unless_own t (new_sayings t x y) ]

-- the items of a client's piece, of which one of the master's own has none
abbrev new_sent : ℕ → List ℕ → List ℕ → List Item
new_sent t x y = unless_own t (new_sayings t x y)

new-items-parts : (b : Bool) (t : ℕ) (x a c : List ℕ)
    → new_items b t x (x ++ (a ++ c)) ≡ new_items b t x (x ++ a) ++ new_items b t (x ++ a) ((x ++ a) ++ c)
new-items-parts true t x a c = items-parts received_item InProxy x a c
new-items-parts false t x a c = by_own (is_own_stream t)
  where
    by_own : (b : Bool) → elim b as (λ _. List Item) [ true ↦ [] | false ↦ new_sayings t x (x ++ (a ++ c)) ] ≡ elim b as (λ _. List Item) [ true ↦ [] | false ↦ new_sayings t x (x ++ a) ] ++ elim b as (λ _. List Item) [ true ↦ [] | false ↦ new_sayings t (x ++ a) ((x ++ a) ++ c) ]
    by_own true = refl
    by_own false = items-parts (sent_item t) InControl x a c

-- ---- a piece in two parts

-- the items of two marks, the newest first, are those of one with all of them
joined : (p q r all : List Item) → r ≡ q ++ p → reverse p ++ (reverse q ++ all) ≡ reverse r ++ all
joined p q r all e =
    sym (append_assoc (reverse p) (reverse q) all)
    ∙ (ap (λ l. l ++ all) (sym (reverse-append q p))
    ∙ ap (λ l. reverse l ++ all) (sym e))

itself : (t : ℕ) → (t == t) ≡ true
itself t = elim (eqb_tells t t) [ inl q ↦ q.0 | inr q ↦ absurd (q.1 refl) ]

-- bytes of the stream, or of another one
abbrev kept : Bool → List ℕ → List ℕ
kept b bytes = elim b as (λ _. List ℕ) [ true ↦ bytes | false ↦ [] ]

kept-parts : (b : Bool) (x a c : List ℕ) → ((x ++ kept b a) ++ []) ++ kept b c ≡ x ++ kept b (a ++ c)
kept-parts true x a c = ap (λ l. l ++ c) (append-nil (x ++ a)) ∙ append_assoc x a c
kept-parts false x a c = append-nil ((x ++ []) ++ []) ∙ append-nil (x ++ [])

module _ (before : List Mark) (waiting : List ℕ) (want : Want) (streams : List ℕ) (shown : Shown) where
  -- a piece and a wait after it
  abbrev then_waits : ℕ → List ℕ → List Mark
  then_waits t a = wire.Waits waiting want streams shown ∷ wire.Gets t a ∷ before

  behind : (t : ℕ) (a : List ℕ) → bytes_of t (then_waits t a) ≡ bytes_of t before ++ a
  behind t a =
      append-nil (bytes_of t before ++ kept (t == t) a)
      ∙ ap (λ b. bytes_of t before ++ kept b a) (itself t)

  items-zero : (a b : List ℕ) → items (wire.Gets 0 b ∷ then_waits 0 a) ≡ items (wire.Gets 0 (a ++ b) ∷ before)
  items-zero a b =
      let x = bytes_of 0 before in
      ap (λ y. reverse (new_received y (y ++ b)) ++ (reverse (new_received x (x ++ a)) ++ items before)) (append-nil (x ++ a))
      ∙ joined (new_received (x ++ a) ((x ++ a) ++ b)) (new_received x (x ++ a)) (new_received x (x ++ (a ++ b))) (items before) (new-items-parts true 0 x a b)

  items-other : (t : ℕ) (a b : List ℕ) → (t == 0) ≡ false → items (wire.Gets t b ∷ then_waits t a) ≡ items (wire.Gets t (a ++ b) ∷ before)
  items-other t a b e =
      let x = bytes_of t before in
      let x0 = bytes_of 0 before in
      let y0 = bytes_of 0 (then_waits t a) in
      let y' = bytes_of t (then_waits t a) in
      ap (λ c. reverse (elim c as (λ _. List Item) [ true ↦ new_received y0 (y0 ++ b) | false ↦ new_sent t y' (y' ++ b) ]) ++ (reverse (elim c as (λ _. List Item) [ true ↦ new_received x0 (x0 ++ a) | false ↦ new_sent t x (x ++ a) ]) ++ items before)) e
      ∙ (ap (λ y. reverse (new_sent t y (y ++ b)) ++ (reverse (new_sent t x (x ++ a)) ++ items before)) (behind t a)
      ∙ (joined (new_sent t (x ++ a) ((x ++ a) ++ b)) (new_sent t x (x ++ a)) (new_sent t x (x ++ (a ++ b))) (items before) (new-items-parts false t x a b)
      ∙ sym (ap (λ c. reverse (elim c as (λ _. List Item) [ true ↦ new_received x0 (x0 ++ (a ++ b)) | false ↦ new_sent t x (x ++ (a ++ b)) ]) ++ items before) e)))

  items-alike : (t : ℕ) (a b : List ℕ) → items (wire.Gets t b ∷ then_waits t a) ≡ items (wire.Gets t (a ++ b) ∷ before)
  items-alike t a b = elim (eqb_tells t 0) [
    | inl q ↦ subst (λ u. items (wire.Gets u b ∷ then_waits u a) ≡ items (wire.Gets u (a ++ b) ∷ before)) (sym q.1) (items-zero a b)
    | inr q ↦ items-other t a b q.0
  ]

pub parts-alike : (before : List Mark) (t : ℕ) (a b : List ℕ) (waiting : List ℕ) (want : Want) (streams : List ℕ) (shown : Shown)
    → AreCutAlike (wire.Gets t b ∷ wire.Waits waiting want streams shown ∷ wire.Gets t a ∷ before) (wire.Gets t (a ++ b) ∷ before)
parts-alike before t a b waiting want streams shown = record {
  same_items = items-alike before waiting want streams shown t a b;
  same_bytes = λ u. kept-parts (t == u) (bytes_of u before) a b;
}

-- ---- the same mark after both

module _ (marks others : List Mark) (same : (t : ℕ) → bytes_of t marks ≡ bytes_of t others) where
  mark-alike : (mark : Mark) → items_in marks mark ≡ items_in others mark
  mark-alike (wire.Gets t bytes) =
      ap (λ x. elim (t == 0) as (λ _. List Item) [ true ↦ new_received x (x ++ bytes) | false ↦ new_sent t (bytes_of t marks) (bytes_of t marks ++ bytes) ]) (same 0)
      ∙ ap (λ x. elim (t == 0) as (λ _. List Item) [ true ↦ new_received (bytes_of 0 others) (bytes_of 0 others ++ bytes) | false ↦ new_sent t x (x ++ bytes) ]) (same t)
  mark-alike (wire.Ends t) = ap (λ x. elim (t == 0) as (λ _. List Item) [ true ↦ server_end (parse InProxy x).rest ∷ [] | false ↦ unless_own t (Gone t ∷ []) ]) (same 0)
  mark-alike (wire.Accepts k) = refl
  mark-alike (wire.Fails t) = refl
  mark-alike (wire.WriteFails t) = refl
  mark-alike (wire.Takes t bytes accepts) = refl
  mark-alike (wire.Waits waiting want streams shown) = refl
  mark-alike (wire.Frees t) = refl
  mark-alike (wire.Holds t) = refl
  mark-alike (wire.Joins listener t) = refl
  mark-alike (wire.House mark) = house-alike mark
    where
      house-alike : (mark : HouseMark) → items_in marks (wire.House mark) ≡ items_in others (wire.House mark)
      house-alike (HouseSaid bytes) = ap (λ x. new_sayings HOUSE x (x ++ bytes)) (same HOUSE)
      house-alike HouseIn = refl
      house-alike (HouseTook size) = refl
      house-alike (HouseAsked k id opening ask given) = refl
      house-alike (HouseAnswer k id given) = refl
      house-alike (HouseOrder order number) = refl

pub goes-on : (marks others : List Mark) (mark : Mark) → AreCutAlike marks others → AreCutAlike (mark ∷ marks) (mark ∷ others)
goes-on marks others mark h = record {
  same_items =
      ap (λ l. reverse l ++ items marks) (mark-alike marks others h.same_bytes mark)
      ∙ ap (λ l. reverse (items_in others mark) ++ l) h.same_items;
  same_bytes = λ u. ap (λ x. x ++ bytes_in u mark) (h.same_bytes u);
}
