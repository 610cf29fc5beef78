-- What streams accepted is a prefix of what their unshared connections give, also where the rows
-- were cut as memory ran out.
use Rattle.std.proofs.Common.{◌≡◌, ℕ, Bool, true, false, List, [], ◌∷◌, ◌++◌, refl, sym, ap, ◌∙◌, subst, take, append_assoc, append-nil, inl, inr, arith}
use Rattle.std.specs.Prelude.{◌==◌}
use Rattle.std.specs.Bool.{MatchBool}
use Rattle.std.proofs.lemmas.Bool.Decides.{nat_tests}
use Rattle.mux_outside.specs.OwnStreams.{is_own}
use Rattle.mux_outside.specs.declared.house.HouseReply.{HouseReply}
use Rattle.mux_outside.specs.declared.house_mark.HouseMark.{HouseMark}
use Rattle.mux_outside.specs.declared.mark.Mark.{Mark}
use Rattle.mux_outside.specs.declared.mark.Mark.TheVariants.{Waits, Accepts, Gets, Ends, Frees, Fails, Takes, Holds, WriteFails, Joins, House}
use Rattle.mux_history.specs.Policy.{Policy}
use Rattle.mux_history.specs.Rows.{Item, Row}
use Rattle.mux_history.specs.Pending.{given_by, given_to, pending}
use Rattle.mux_history.specs.Log.{Setting, more_all, more_of, makes_next, next_row}
use Rattle.mux_history.specs.Settings.{by_lists}
use Rattle.mux_history.specs.Right.{AreFresh, IsRight}
use Rattle.mux_history.specs.Journal.{IsLawful, house_items, is_own_stream, items_in, log_of_journal, taken_by, bytes_taken_in}
use Rattle.mux_history.specs.Promises.{IsCut, IsFront, TakesFront, Throughout, is_house_request}
use Rattle.mux_history.proofs.Journals.{logs-right}
use Rattle.mux_history.proofs.Written.{adds-up}
use Rattle.mux_bounds.specs.Bounds.{IsLog}
use Rattle.mux_isolation.proofs.AllRuns.{gives-alone}
use Rattle.mux_engine.specs.Run.{TakesUnshared}
use Rattle.mux_engine.proofs.Lists.{not-own-stream}

-- ---- fronts

front-more : (a b c : List ℕ) → IsFront a b → IsFront b c → IsFront a c
front-more a b c (x, e) (y, f) = (x ++ y, f ∙ (ap (λ l. l ++ y) e ∙ append_assoc a x y))

-- what is given only grows
gives-more-of : (setting : Setting) (t : ℕ) (rows : List Row) (item : Item) → IsFront (given_to t rows) (given_to t (more_of setting rows item))
gives-more-of setting t rows item = by_makes (makes_next rows item)
  where
    by_makes : (b : Bool) → IsFront (given_to t rows) (given_to t (elim b as (λ _. List Row) [ false ↦ rows | true ↦ next_row setting rows item ∷ rows ]))
    by_makes false = ([], sym (append-nil (given_to t rows)))
    by_makes true = (given_by t (next_row setting rows item), refl)

gives-more : (setting : Setting) (t : ℕ) (rows : List Row) (items : List Item) → IsFront (given_to t rows) (given_to t (more_all setting rows items))
gives-more setting t rows [] = ([], sym (append-nil (given_to t rows)))
gives-more setting t rows (item ∷ items) =
    front-more (given_to t rows) (given_to t (more_of setting rows item)) (given_to t (more_all setting (more_of setting rows item) items))
    (gives-more-of setting t rows item) (gives-more setting t (more_of setting rows item) items)

-- ---- one mark

same-number : (a b : ℕ) → (a == b) ≡ true → a ≡ b
same-number a b e = grind (arith, nat_tests, e)

-- what was accepted, and what is accepted of what waits, is a front of all that was given
takes-front : (taken bytes waits all : List ℕ) → all ≡ taken ++ waits → IsFront bytes waits → IsFront (taken ++ bytes) all
takes-front taken bytes waits all e (rest, f) = (rest, e ∙ (ap (λ l. taken ++ l) f ∙ sym (append_assoc taken bytes rest)))

none-front : (taken waits all : List ℕ) → all ≡ taken ++ waits → IsFront (taken ++ []) all
none-front taken waits all e = (waits, e ∙ ap (λ l. l ++ waits) (sym (append-nil taken)))

module _ (setting : Setting) (k : ℕ) (client : is_own k ≡ false) (before : List Mark) (all : given_to k (log_of_journal setting before) ≡ taken_by k before ++ pending k (log_of_journal setting before)) where
  abbrev goal : Mark → Type 0
  goal mark = IsFront (taken_by k before ++ bytes_taken_in k mark) (given_to k (log_of_journal setting before))

  nothing : IsFront (taken_by k before ++ []) (given_to k (log_of_journal setting before))
  nothing = none-front (taken_by k before) (pending k (log_of_journal setting before)) (given_to k (log_of_journal setting before)) all

  front-is : (stream : ℕ) (bytes : List ℕ) → stream ≡ k → MatchBool (is_own_stream stream) (Unit {0}) (IsFront bytes (pending stream (log_of_journal setting before))) → IsFront bytes (pending k (log_of_journal setting before))
  front-is stream bytes e front =
      subst (λ (j : ℕ). IsFront bytes (pending j (log_of_journal setting before))) e
      (subst (λ (b : Bool). MatchBool b (Unit {0}) (IsFront bytes (pending stream (log_of_journal setting before)))) (not-own-stream stream (ap is_own e ∙ client)) front)

  some : (stream : ℕ) (bytes : List ℕ) → MatchBool (is_own_stream stream) (Unit {0}) (IsFront bytes (pending stream (log_of_journal setting before))) → (b : Bool) → (stream == k) ≡ b → IsFront (taken_by k before ++ elim b as (λ _. List ℕ) [ true ↦ bytes | false ↦ [] ]) (given_to k (log_of_journal setting before))
  some stream bytes front true e =
      takes-front (taken_by k before) bytes (pending k (log_of_journal setting before)) (given_to k (log_of_journal setting before)) all (front-is stream bytes (same-number stream k e) front)
  some stream bytes front false e = nothing

  pub of-mark : (mark : Mark) → TakesFront setting before mark → goal mark
  of-mark (Takes stream bytes accepts) front = some stream bytes front (stream == k) refl
  of-mark (Waits waiting want streams shown) front = nothing
  of-mark (Accepts j) front = nothing
  of-mark (Gets j bytes) front = nothing
  of-mark (Ends j) front = nothing
  of-mark (Frees j) front = nothing
  of-mark (Fails j) front = nothing
  of-mark (Holds j) front = nothing
  of-mark (WriteFails j) front = nothing
  of-mark (Joins l j) front = nothing
  of-mark (House m) front = nothing

-- ---- all marks

module _ (policy : Policy) (pid : ℕ) (picks : List ℕ) (given : List HouseReply) where
  abbrev setting : Setting
  setting = by_lists policy pid picks given

  begins : (journal : List Mark) (rows : List Row) → Throughout (TakesFront setting) journal → IsLog setting journal rows → (k : ℕ) → is_own k ≡ false → IsFront (taken_by k journal) (given_to k rows)
  begins journal rows takes (inl e) k client =
      subst (λ r. IsFront (taken_by k journal) (given_to k r)) (sym e)
      (pending k (log_of_journal setting journal), sym (adds-up setting journal takes k client))
  begins journal rows takes (inr cut) k client = cut-begins journal takes cut
    where
      one : (mark : Mark) (before : List Mark) → Throughout (TakesFront setting) (mark ∷ before) → (n : ℕ) → rows ≡ more_all setting (log_of_journal setting before) (take n (items_in before mark)) → IsFront (taken_by k (mark ∷ before)) (given_to k rows)
      one mark before takes n e =
          front-more (taken_by k before ++ bytes_taken_in k mark) (given_to k (log_of_journal setting before)) (given_to k rows)
          (of-mark setting k client before (sym (adds-up setting before takes.1 k client)) mark takes.0)
          (subst (λ r. IsFront (given_to k (log_of_journal setting before)) (given_to k r)) (sym e) (gives-more setting k (log_of_journal setting before) (take n (items_in before mark))))

      -- requests accept nothing
      house-mark : (m : HouseMark) (before : List Mark) → (IsCut setting before rows → IsFront (taken_by k before) (given_to k rows)) → Throughout (TakesFront setting) (House m ∷ before) → (b : Bool) → MatchBool b (IsCut setting before rows) ((n : ℕ) × (rows ≡ more_all setting (log_of_journal setting before) (take n (house_items before m)))) → IsFront (taken_by k (House m ∷ before)) (given_to k rows)
      house-mark m before earlier takes true cut = subst (λ (l : List ℕ). IsFront l (given_to k rows)) (sym (append-nil (taken_by k before))) (earlier cut)
      house-mark m before earlier takes false (n, e) = one (House m) before takes n e

      cut-begins : (journal : List Mark) → Throughout (TakesFront setting) journal → IsCut setting journal rows → IsFront (taken_by k journal) (given_to k rows)
      cut-begins [] takes cut = (given_to k rows, refl)
      cut-begins (House m ∷ before) takes cut = house-mark m before (λ c. cut-begins before takes.1 c) takes (is_house_request m) cut
      cut-begins (Waits waiting want streams shown ∷ before) takes (n, e) = one (Waits waiting want streams shown) before takes n e
      cut-begins (Accepts j ∷ before) takes (n, e) = one (Accepts j) before takes n e
      cut-begins (Gets j bytes ∷ before) takes (n, e) = one (Gets j bytes) before takes n e
      cut-begins (Ends j ∷ before) takes (n, e) = one (Ends j) before takes n e
      cut-begins (Frees j ∷ before) takes (n, e) = one (Frees j) before takes n e
      cut-begins (Fails j ∷ before) takes (n, e) = one (Fails j) before takes n e
      cut-begins (Takes j bytes accepts ∷ before) takes (n, e) = one (Takes j bytes accepts) before takes n e
      cut-begins (Holds j ∷ before) takes (n, e) = one (Holds j) before takes n e
      cut-begins (WriteFails j ∷ before) takes (n, e) = one (WriteFails j) before takes n e
      cut-begins (Joins l j ∷ before) takes (n, e) = one (Joins l j) before takes n e

  -- with the law that each is given what it would be given alone
  pub takes-unshared : (journal : List Mark) (rows : List Row) → IsLawful journal → Throughout (TakesFront setting) journal → IsLog setting journal rows → AreFresh rows → TakesUnshared setting journal rows
  takes-unshared journal rows lawful takes (inl e) fresh k lt client admitted =
      let right = (logs-right policy pid picks given journal).whole (subst AreFresh e fresh) in
      subst (IsFront (taken_by k journal)) (gives-alone policy pid picks given journal 0 rows lawful (subst (IsRight setting journal 0) (sym e) right) k lt admitted)
      (begins journal rows takes (inl e) k client)
  takes-unshared journal rows lawful takes (inr cut) fresh k lt client admitted =
      let right = (logs-right policy pid picks given journal).cut rows cut fresh in
      subst (IsFront (taken_by k journal)) (gives-alone policy pid picks given journal right.0 rows lawful right.1 k lt admitted)
      (begins journal rows takes (inr cut) k client)
