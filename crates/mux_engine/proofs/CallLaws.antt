-- What the calls that a journal has say of the streams of the forwarder.
use Rattle.std.proofs.Common.{◌≡◌, ℕ, Bool, true, false, not, ◌&&◌, List, [], ◌∷◌, ◌++◌, refl, sym, ap, ◌∙◌, subst, cond, inl, inr, append_assoc, append-nil}
use Rattle.std.specs.Prelude.{◌==◌}
use Rattle.std.proofs.lemmas.Bool.Decides.{eqb_tells}
use Rattle.mux_outside.specs.HouseCalls.{End, Failed, Got, HouseCall, Turns, Writable}
use Rattle.mux_outside.specs.HouseCalls as call
use Rattle.mux_outside.specs.OwnStreams.{is_own}
use Rattle.mux_outside.specs.declared.house_mark.HouseMark.{HouseMark}
use Rattle.mux_outside.specs.declared.house_mark.HouseMark.TheVariants.{HouseIn, HouseSaid, HouseTook, HouseAsked, HouseAnswer, HouseOrder}
use Rattle.mux_outside.specs.declared.mark.Mark.{Mark}
use Rattle.mux_outside.specs.declared.mark.Mark.TheVariants.{Waits, Accepts, Gets, Ends, Frees, Fails, Takes, Holds, WriteFails, Joins, House}
use Rattle.mux_history.specs.declared.limits.TheConstants.{HOUSE}
use Rattle.mux_history.specs.Log.{Setting}
use Rattle.mux_history.specs.Journal.{bytes_in, bytes_of, house_sent, is_own_stream, log_of_journal, taken_by, bytes_taken_in}
use Rattle.mux_history.specs.Pending.{pending}
use Rattle.mux_engine.specs.CallLaws.{IsGivenAll, IsRecordedAll, bytes_got, got_by, bytes_took, accepted_by_call}
use Rattle.mux_engine.specs.Called.{calls_at, calls_in, house_calls}
use Rattle.mux_engine.proofs.Lists.{test-other, true-false}

-- ---- a stream of the forwarder's own

own-first : (b c : Bool) → (b && c) ≡ true → b ≡ true
own-first true c e = refl
own-first false c e = e

own-last : (b c : Bool) → (b && not c) ≡ true → c ≡ false
own-last true false e = refl
own-last true true e = sym e
own-last false c e = true-false (sym e)

is-own : (t : ℕ) → is_own_stream t ≡ true → is_own t ≡ true
is-own t own = own-first (is_own t) (not (t == HOUSE)) own

no-house : (t : ℕ) → is_own_stream t ≡ true → (HOUSE == t) ≡ false
no-house t own = test-other HOUSE t (λ e. true-false (sym own ∙ (ap is_own_stream (sym e))))

-- ---- bytes that it gave

got-append : (t : ℕ) (a b : List HouseCall) → bytes_got t (a ++ b) ≡ bytes_got t a ++ bytes_got t b
got-append t [] b = refl
got-append t (one ∷ a) b = ap (λ l. got_by t one ++ l) (got-append t a b) ∙ sym (append_assoc (got_by t one) (bytes_got t a) (bytes_got t b))

-- a call that gives none, for whichever streams it is
got-none : (t : ℕ) (one : HouseCall) → got_by t one ≡ [] → (b : Bool) → bytes_got t (cond b (one ∷ []) []) ≡ []
got-none t one e true = append-nil (got_by t one) ∙ e
got-none t one e false = refl

got-house : (t : ℕ) (waiting : List ℕ) (mark : HouseMark) → bytes_got t (house_calls waiting mark) ≡ []
got-house t waiting HouseIn = refl
got-house t waiting (HouseSaid bytes) = refl
got-house t waiting (HouseTook size) = refl
got-house t waiting (HouseAsked client id opening ask reply) = refl
got-house t waiting (HouseAnswer client id reply) = refl
got-house t waiting (HouseOrder order number) = refl

got-at : (setting : Setting) (before : List Mark) (mark : Mark) (t : ℕ) → is_own_stream t ≡ true → bytes_got t (calls_at setting before mark) ≡ bytes_in t mark
got-at setting before (Gets k bytes) t own = by_test (k == t) refl (is_own k) refl
  where
    by_test : (b : Bool) → (k == t) ≡ b → (c : Bool) → is_own k ≡ c → bytes_got t (cond c (Turns (Got k bytes) ∷ []) []) ≡ elim b as (λ _. List ℕ) [ true ↦ bytes | false ↦ [] ]
    by_test b e true f = append-nil (cond (k == t) bytes []) ∙ ap (λ (x : Bool). cond x bytes []) e ∙ by_flag b
      where
        by_flag : (x : Bool) → cond x bytes [] ≡ elim x as (λ _. List ℕ) [ true ↦ bytes | false ↦ [] ]
        by_flag true = refl
        by_flag false = refl
    by_test false e false f = refl
    by_test true e false f = elim (eqb_tells k t) [
      | inl q ↦ true-false (sym (subst (λ (i : ℕ). is_own i ≡ true) (sym q.1) (is-own t own)) ∙ f)
      | inr q ↦ true-false (sym e ∙ q.0)
    ]
got-at setting before (Joins l k) t own = refl
got-at setting before (Ends k) t own = got-none t (Turns (End k)) refl (is_own k)
got-at setting before (Frees k) t own = got-none t (Turns (Writable k)) refl (is_own k)
got-at setting before (Fails k) t own = got-none t (Turns (Failed k)) refl (is_own k)
got-at setting before (WriteFails k) t own = got-none t (Turns (Failed k)) refl (is_own k)
got-at setting before (Takes k bytes accepts) t own = got-none t (call.Takes k bytes) refl (is_own k)
got-at setting before (House mark) t own = got-house t (pending HOUSE (log_of_journal setting before)) mark ∙ sym (ap (λ (b : Bool). elim b as (λ _. List ℕ) [ true ↦ house_sent mark | false ↦ [] ]) (no-house t own))
got-at setting before (Waits waiting want streams shown) t own = refl
got-at setting before (Accepts k) t own = refl
got-at setting before (Holds k) t own = refl

pub given-all : IsGivenAll
given-all setting [] t own = refl
given-all setting (mark ∷ before) t own =
    got-append t (calls_in setting before) (calls_at setting before mark)
    ∙ (ap (λ l. l ++ bytes_got t (calls_at setting before mark)) (given-all setting before t own)
    ∙ ap (λ l. bytes_of t before ++ l) (got-at setting before mark t own))

-- ---- bytes that it accepted

took-append : (t : ℕ) (a b : List HouseCall) → bytes_took t (a ++ b) ≡ bytes_took t a ++ bytes_took t b
took-append t [] b = refl
took-append t (one ∷ a) b = ap (λ l. accepted_by_call t one ++ l) (took-append t a b) ∙ sym (append_assoc (accepted_by_call t one) (bytes_took t a) (bytes_took t b))

took-none : (t : ℕ) (one : HouseCall) → accepted_by_call t one ≡ [] → (b : Bool) → bytes_took t (cond b (one ∷ []) []) ≡ []
took-none t one e true = ap (λ l. l ++ []) e
took-none t one e false = refl

took-house : (t : ℕ) (waiting : List ℕ) (mark : HouseMark) → bytes_took t (house_calls waiting mark) ≡ []
took-house t waiting HouseIn = refl
took-house t waiting (HouseSaid bytes) = refl
took-house t waiting (HouseTook size) = refl
took-house t waiting (HouseAsked client id opening ask reply) = refl
took-house t waiting (HouseAnswer client id reply) = refl
took-house t waiting (HouseOrder order number) = refl

took-at : (setting : Setting) (before : List Mark) (mark : Mark) (t : ℕ) → is_own_stream t ≡ true → bytes_took t (calls_at setting before mark) ≡ bytes_taken_in t mark
took-at setting before (Takes k bytes accepts) t own = by_test (k == t) refl (is_own k) refl
  where
    by_test : (b : Bool) → (k == t) ≡ b → (c : Bool) → is_own k ≡ c → bytes_took t (cond c (call.Takes k bytes ∷ []) []) ≡ elim b as (λ _. List ℕ) [ true ↦ bytes | false ↦ [] ]
    by_test b e true f = append-nil (cond (k == t) bytes []) ∙ ap (λ (x : Bool). cond x bytes []) e ∙ by_flag b
      where
        by_flag : (x : Bool) → cond x bytes [] ≡ elim x as (λ _. List ℕ) [ true ↦ bytes | false ↦ [] ]
        by_flag true = refl
        by_flag false = refl
    by_test false e false f = refl
    by_test true e false f = elim (eqb_tells k t) [
      | inl q ↦ true-false (sym (subst (λ (i : ℕ). is_own i ≡ true) (sym q.1) (is-own t own)) ∙ f)
      | inr q ↦ true-false (sym e ∙ q.0)
    ]
took-at setting before (Gets k bytes) t own = took-none t (Turns (Got k bytes)) refl (is_own k)
took-at setting before (Joins l k) t own = refl
took-at setting before (Ends k) t own = took-none t (Turns (End k)) refl (is_own k)
took-at setting before (Frees k) t own = took-none t (Turns (Writable k)) refl (is_own k)
took-at setting before (Fails k) t own = took-none t (Turns (Failed k)) refl (is_own k)
took-at setting before (WriteFails k) t own = took-none t (Turns (Failed k)) refl (is_own k)
took-at setting before (House mark) t own = took-house t (pending HOUSE (log_of_journal setting before)) mark
took-at setting before (Waits waiting want streams shown) t own = refl
took-at setting before (Accepts k) t own = refl
took-at setting before (Holds k) t own = refl

pub recorded-all : IsRecordedAll
recorded-all setting [] t own = refl
recorded-all setting (mark ∷ before) t own =
    took-append t (calls_in setting before) (calls_at setting before mark)
    ∙ (ap (λ l. l ++ bytes_took t (calls_at setting before mark)) (recorded-all setting before t own)
    ∙ ap (λ l. taken_by t before ++ l) (took-at setting before mark t own))
