-- Each row of a right log is what its item does, and no number is held twice.
use Rattle.std.proofs.Common.{◌≡◌, ℕ, ◌≤◌, List, [], ◌∷◌, length, true, false, Bool, refl, ◌∙◌, ap, arith, sym, subst}
use Rattle.std.specs.Prelude.{filter, drop}
use Rattle.mux_history.specs.Channels.{Channel, channels_of, is_channel_held, is_number}
use Rattle.mux_history.specs.Choices.{FromLists, pick_of, with_reply}
use Rattle.mux_history.specs.Journal.{IsLawful, items}
use Rattle.mux_history.specs.Kept.{AtEach, ForEach, NumbersApart}
use Rattle.mux_history.specs.Log.{bare_row, log_of, makes_next, makes_row, more_of, treat}
use Rattle.mux_history.specs.Policy.{Policy}
use Rattle.mux_history.specs.Requests.{replies}
use Rattle.mux_history.specs.Right.{AreFresh, IsRight}
use Rattle.mux_history.specs.Rows.{Item, Row, Took, any_of, is_end, is_run_over}
use Rattle.mux_history.specs.Said.{silent}
use Rattle.mux_history.specs.Settings.{by_lists}
use Rattle.mux_outside.specs.declared.house.HouseReply.{HouseReply}
use Rattle.mux_outside.specs.declared.mark.Mark.{Mark}
use Rattle.mux_history.proofs.Apart.{AllApart, ApartFrom, AreApart, each-of}
use Rattle.mux_history.proofs.Askers.{Orderly, orderly-none, orderly-treat}
use Rattle.mux_history.proofs.Bools.{or-left, or-right}
use Rattle.mux_history.proofs.Finds.{Each, filter-no, filter-yes}
use Rattle.mux_history.proofs.KeepsApart.{good-treat}
use Rattle.mux_history.proofs.LawfulItems.{LawfulIn, LawfulItems, reply-lawful, reply-next, rows-admits}
use Rattle.mux_history.proofs.Marks.{left-lawful}
use Rattle.mux_history.proofs.Nexts.{by-next}
use Rattle.mux_history.proofs.SentApart.{LawfulItem, admits_client}

-- ---- each row

pub record RowKnown (policy : Policy) (pid : ℕ) (before : List Row) (row : Row) : Type 0 where
  pub pick : ℕ
  pub item : Item
  pub is : treat policy pid pick before item ≡ row
  pub lawful : LawfulItem before item
  pub may : makes_next before item ≡ true
  pub good : AreApart (channels_of before)
  pub orderly : is_run_over before ≡ false → Orderly before

pub record LogKnown (policy : Policy) (pid : ℕ) (rows : List Row) : Type 0 where
  pub each : ForEach (RowKnown policy pid) rows
  pub good : AreApart (channels_of rows)
  pub orderly : is_run_over rows ≡ false → Orderly rows

module _ (policy : Policy) (pid : ℕ) (picks : List ℕ) (replies : List HouseReply) where
  more-known : (rows : List Row) (before : List Item) (item : Item) → ((j : ℕ) → any_of (admits_client j) before ≡ false → any_of (λ row. admits_client j row.item) rows ≡ false) → LawfulIn before item → (AreFresh rows → LogKnown policy pid rows) → AreFresh (more_of (by_lists policy pid picks replies) rows item) → LogKnown policy pid (more_of (by_lists policy pid picks replies) rows item)
  more-known rows before item none lawful ih fresh = by_next (makes_next rows item) refl fresh
    where
      by_next : (b : Bool) → makes_next rows item ≡ b → AreFresh (elim b as (λ _. List Row) [ false ↦ rows | true ↦ treat policy pid (pick_of (FromLists picks replies) rows item) rows (with_reply (FromLists picks replies) rows item) ∷ rows ]) → LogKnown policy pid (elim b as (λ _. List Row) [ false ↦ rows | true ↦ treat policy pid (pick_of (FromLists picks replies) rows item) rows (with_reply (FromLists picks replies) rows item) ∷ rows ])
      by_next false e fresh = ih fresh
      by_next true e fresh =
          let known : LogKnown policy pid rows = ih fresh.1 in
          let may : LawfulItem rows (with_reply (FromLists picks replies) rows item) = reply-lawful policy pid picks replies rows before item none lawful in
          record {
            each = (record { pick = pick_of (FromLists picks replies) rows item; item = with_reply (FromLists picks replies) rows item; is = refl; lawful = may; may = reply-next policy pid picks replies rows item e; good = known.good; orderly = known.orderly }, known.each);
            good = good-treat policy pid (pick_of (FromLists picks replies) rows item) rows (with_reply (FromLists picks replies) rows item) known.good may fresh.0;
            orderly = λ on. orderly-treat policy pid (pick_of (FromLists picks replies) rows item) rows (with_reply (FromLists picks replies) rows item) (known.orderly (or-right (is_end (treat policy pid (pick_of (FromLists picks replies) rows item) rows (with_reply (FromLists picks replies) rows item)).fate) (is_run_over rows) on)) (or-left (is_end (treat policy pid (pick_of (FromLists picks replies) rows item) rows (with_reply (FromLists picks replies) rows item)).fate) (is_run_over rows) on);
          }

  log-known : (items : List Item) → LawfulItems items → AreFresh (log_of (by_lists policy pid picks replies) items) → LogKnown policy pid (log_of (by_lists policy pid picks replies) items)
  log-known [] lawful fresh = record { each = tt; good = record { each = tt; apart = tt }; orderly = λ on. orderly-none }
  log-known (item ∷ before) lawful fresh = more-known (log_of (by_lists policy pid picks replies) before) before item (λ j none. rows-admits policy pid picks replies j before none) lawful.0 (λ f. log-known before lawful.1 f) fresh

pub right-known : (policy : Policy) (pid : ℕ) (picks : List ℕ) (replies : List HouseReply) (marks : List Mark) (left : ℕ) (rows : List Row) → IsLawful marks → IsRight (by_lists policy pid picks replies) marks left rows → LogKnown policy pid rows
right-known policy pid picks replies marks left rows lawful right = subst (LogKnown policy pid) (sym right.determined) (log-known policy pid picks replies (drop left (items marks)) (left-lawful left marks lawful) (subst AreFresh right.determined right.fresh))

-- a law of each row, by what its item does; what is accepted makes a row after the end of the run
-- too
pub by-treat : (P : List Row → Row → Type 0) (policy : Policy) (pid : ℕ) → ((pick : ℕ) (before : List Row) (item : Item) → AreApart (channels_of before) → Orderly before → LawfulItem before item → makes_row before item ≡ true → P before (treat policy pid pick before item)) → ((before : List Row) (stream size : ℕ) → P before (bare_row (Took stream size) stream silent)) → (rows : List Row) → ForEach (RowKnown policy pid) rows → ForEach P rows
by-treat P policy pid law taken [] each = tt
by-treat P policy pid law taken (row ∷ before) each = (subst (P before) each.0.is (by-next before each.0.item each.0.may (λ going makes. law each.0.pick before each.0.item each.0.good (each.0.orderly going) each.0.lawful makes) (λ stream size e. subst (λ (i : Item). P before (treat policy pid each.0.pick before i)) (sym e) (taken before stream size))), by-treat P policy pid law taken before each.1)

-- ---- no number is held twice

none-with : (P : Channel → Bool) (xs : List Channel) → Each (λ x. is_channel_held x ≡ true → P x ≡ false) xs → length (filter P (filter is_channel_held xs)) ≡ 0
none-with P [] all = refl
none-with P (x ∷ xs) all = by_case (none-with P xs all.1) (is_channel_held x) refl
  where
    by_case : length (filter P (filter is_channel_held xs)) ≡ 0 → (b : Bool) → is_channel_held x ≡ b → length (filter P (filter is_channel_held (x ∷ xs))) ≡ 0
    by_case ih true e = ap (λ ys. length (filter P ys)) (filter-yes is_channel_held x xs e) ∙ (ap length (filter-no P x (filter is_channel_held xs) (all.0 e)) ∙ ih)
    by_case ih false e = ap (λ ys. length (filter P ys)) (filter-no is_channel_held x xs e) ∙ ih

once-in : (P : Channel → Bool) → ((x y : Channel) → ApartFrom x y → is_channel_held x ≡ true → is_channel_held y ≡ true → P x ≡ true → P y ≡ false) → (xs : List Channel) → AllApart xs → length (filter P (filter is_channel_held xs)) ≤ 1
once-in P pair [] apart = omega arith
once-in P pair (x ∷ xs) apart = by_case (once-in P pair xs apart.1) (is_channel_held x) refl (P x) refl
  where
    by_case : length (filter P (filter is_channel_held xs)) ≤ 1 → (b : Bool) → is_channel_held x ≡ b → (t : Bool) → P x ≡ t → length (filter P (filter is_channel_held (x ∷ xs))) ≤ 1
    by_case ih false e t f = let g = ap (λ ys. length (filter P ys)) (filter-no is_channel_held x xs e) in omega arith
    by_case ih true e false f = let g = ap (λ ys. length (filter P ys)) (filter-yes is_channel_held x xs e) in let h = ap length (filter-no P x (filter is_channel_held xs) f) in omega arith
    by_case ih true e true f =
        let g = ap (λ ys. length (filter P ys)) (filter-yes is_channel_held x xs e) in
        let h = ap length (filter-yes P x (filter is_channel_held xs) f) in
        let none = none-with P xs (each-of (ApartFrom x) (λ y. is_channel_held y ≡ true → P y ≡ false) (λ y a k. pair x y a e k f) xs apart.0) in
        omega arith

held-once : (rows : List Row) → AreApart (channels_of rows) → NumbersApart rows
held-once rows good n = record {
  number = once-in (λ x. is_number x.number n) (λ x y a h k e. a.numbers h k n e) (channels_of rows) good.apart;
  remote = once-in (λ x. is_number x.remote n) (λ x y a h k e. a.remotes h k n e) (channels_of rows) good.apart;
}

at-each : (policy : Policy) (pid : ℕ) (rows : List Row) → ForEach (RowKnown policy pid) rows → AreApart (channels_of rows) → AtEach NumbersApart rows
at-each policy pid [] each good = held-once [] good
at-each policy pid (row ∷ before) each good = (held-once (row ∷ before) good, at-each policy pid before each.1 each.0.good)

pub numbers-apart : (policy : Policy) (pid : ℕ) (picks : List ℕ) (replies : List HouseReply) (marks : List Mark) (left : ℕ) (rows : List Row) → IsLawful marks → IsRight (by_lists policy pid picks replies) marks left rows → AtEach NumbersApart rows
numbers-apart policy pid picks replies marks left rows lawful right = let known : LogKnown policy pid rows = right-known policy pid picks replies marks left rows lawful right in at-each policy pid rows known.each known.good
