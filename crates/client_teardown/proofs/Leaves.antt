-- A client's channels are left one after the other: what one step makes of what is still to do.
use Rattle.std.proofs.Common.{◌≡◌, ℕ, zero, suc, ◌+◌, Bool, true, false, cond, not, ◌||◌, List, [], ◌∷◌, drop, length, map, refl, ap, sym, ◌∙◌, subst, arith}
use Rattle.std.specs.Prelude.{Some, None, filter, slice_get}
use Rattle.std.specs.List.{AllByRecursion}
use Rattle.std.proofs.lemmas.Bool.{eq-eqb}
use Rattle.std.proofs.lemmas.Option.{none-some, same_Some}
use Rattle.mux_history.proofs.Finds.{filter-no, filter-yes}
use Rattle.channel_table.specs.Entries.{AreApart, AreTwo, TableEntry, at_number, changed_at, channel_count_of, freed, is_at, is_channel_of, nth_entry}
use Rattle.channel_table.proofs.Lookups.{none-behind}
use Rattle.channel_table.proofs.Steps.{changed-none, without-none}
use Rattle.client_teardown.specs.Leaving.{entry_after_close, is_channel_open, left_entries, left_entry, stays}

-- ---- the table, once all of a client's channels from a place on are left

abbrev pub left_from : (client place : ℕ) → List TableEntry → List TableEntry
left_from k zero es = left_entries k es
left_from k (suc i) [] = []
left_from k (suc i) (e ∷ es) = elim (is_channel_of k e) [ true ↦ e ∷ left_from k i es | false ↦ e ∷ left_from k (suc i) es ]

entries-mine : (k : ℕ) (y : TableEntry) (ys : List TableEntry) → is_channel_of k y ≡ true → (b : Bool) → is_channel_open (entry_after_close y) ≡ b → left_entries k (y ∷ ys) ≡ cond b (entry_after_close y ∷ left_entries k ys) (left_entries k ys)
entries-mine k y ys mine b open_ =
    ap (λ z. filter (stays k) (z ∷ map (left_entry k) ys)) (ap (λ c. elim c as (λ _. TableEntry) [ true ↦ entry_after_close y | false ↦ y ]) mine)
    ∙ ap (λ c. cond c (entry_after_close y ∷ left_entries k ys) (left_entries k ys)) (ap (λ c. not c || is_channel_open (entry_after_close y)) mine ∙ open_)

entries-other : (k : ℕ) (y : TableEntry) (ys : List TableEntry) → is_channel_of k y ≡ false → left_entries k (y ∷ ys) ≡ y ∷ left_entries k ys
entries-other k y ys other =
    ap (λ z. filter (stays k) (z ∷ map (left_entry k) ys)) (ap (λ c. elim c as (λ _. TableEntry) [ true ↦ entry_after_close y | false ↦ y ]) other)
    ∙ ap (λ c. cond c (y ∷ left_entries k ys) (left_entries k ys)) (ap (λ c. not c || is_channel_open y) other)

from-mine : (k i : ℕ) (y : TableEntry) (ys : List TableEntry) → is_channel_of k y ≡ true → left_from k (suc i) (y ∷ ys) ≡ y ∷ left_from k i ys
from-mine k i y ys mine = ap (λ c. elim c as (λ _. List TableEntry) [ true ↦ y ∷ left_from k i ys | false ↦ y ∷ left_from k (suc i) ys ]) mine

from-other : (k i : ℕ) (y : TableEntry) (ys : List TableEntry) → is_channel_of k y ≡ false → left_from k i (y ∷ ys) ≡ y ∷ left_from k i ys
from-other k zero y ys other = entries-other k y ys other
from-other k (suc i) y ys other = ap (λ c. elim c as (λ _. List TableEntry) [ true ↦ y ∷ left_from k i ys | false ↦ y ∷ left_from k (suc i) ys ]) other

-- ---- one channel of the client, at its place

nth-mine : (k : ℕ) (y : TableEntry) (ys : List TableEntry) → is_channel_of k y ≡ true → (i : ℕ) → nth_entry (y ∷ ys) k i ≡ slice_get (y ∷ filter (is_channel_of k) ys) i
nth-mine k y ys mine i = ap (λ zs. slice_get zs i) (filter-yes (is_channel_of k) y ys mine)

nth-other : (k : ℕ) (y : TableEntry) (ys : List TableEntry) → is_channel_of k y ≡ false → (i : ℕ) → nth_entry (y ∷ ys) k i ≡ nth_entry ys k i
nth-other k y ys other i = ap (λ zs. slice_get zs i) (filter-no (is_channel_of k) y ys other)

-- what holds of all holds of it
pub nth-of : (P : TableEntry → Type 0) (k i : ℕ) (es : List TableEntry) (e : TableEntry) → nth_entry es k i ≡ Some e → AllByRecursion P es → P e
nth-of P k zero [] e h all = absurd (none-some e h)
nth-of P k (suc i) [] e h all = absurd (none-some e h)
nth-of P k i (y ∷ ys) e h all = by i h (is_channel_of k y) refl (λ j g. nth-of P k j ys e g all.1)
  where
    by : (i : ℕ) → nth_entry (y ∷ ys) k i ≡ Some e → (b : Bool) → is_channel_of k y ≡ b → ((j : ℕ) → nth_entry ys k j ≡ Some e → P e) → P e
    by zero h true t ih = subst P (same_Some y e (sym (nth-mine k y ys t zero) ∙ h)) all.0
    by (suc i) h true t ih = ih i (sym (nth-mine k y ys t (suc i)) ∙ h)
    by i h false t ih = ih i (sym (nth-other k y ys t i) ∙ h)

-- a first one that the change or the end of a later one leaves as it is
changed-other : (n : ℕ) (f : TableEntry → TableEntry) (y : TableEntry) (ys : List TableEntry) → is_at n y ≡ false → changed_at n f (y ∷ ys) ≡ y ∷ changed_at n f ys
changed-other n f y ys other = rw (other, at_number) refl

freed-other : (n : ℕ) (y : TableEntry) (ys : List TableEntry) → is_at n y ≡ false → freed n (y ∷ ys) ≡ y ∷ freed n ys
freed-other n y ys other = rw other refl

-- the first one itself
changed-first : (f : TableEntry → TableEntry) (y : TableEntry) (ys : List TableEntry) → AreApart (y ∷ ys) → changed_at y.number f (y ∷ ys) ≡ f y ∷ ys
changed-first f y ys apart = rw (eq-eqb y.number y.number refl, at_number) (ap (λ zs. f y ∷ zs) (changed-none y.number f ys (none-behind y ys apart.0)))

freed-first : (y : TableEntry) (ys : List TableEntry) → AreApart (y ∷ ys) → freed y.number (y ∷ ys) ≡ ys
freed-first y ys apart = rw (eq-eqb y.number y.number refl) (without-none y.number ys (none-behind y ys apart.0))

-- ---- a channel that stays held

pub stays-left : (k i : ℕ) (es : List TableEntry) (e : TableEntry) → AreApart es → nth_entry es k i ≡ Some e → is_channel_open (entry_after_close e) ≡ true → left_from k (suc i) (changed_at e.number entry_after_close es) ≡ left_from k i es
stays-left k zero [] e apart h open_ = absurd (none-some e h)
stays-left k (suc i) [] e apart h open_ = absurd (none-some e h)
stays-left k i (y ∷ ys) e apart h open_ = by i h (is_channel_of k y) refl (λ j g. stays-left k j ys e apart.1 g open_) (λ j g. (nth-of (AreTwo y) k j ys e g apart.0).number)
  where
    by : (i : ℕ) → nth_entry (y ∷ ys) k i ≡ Some e → (b : Bool) → is_channel_of k y ≡ b → ((j : ℕ) → nth_entry ys k j ≡ Some e → left_from k (suc j) (changed_at e.number entry_after_close ys) ≡ left_from k j ys) → ((j : ℕ) → nth_entry ys k j ≡ Some e → is_at e.number y ≡ false) → left_from k (suc i) (changed_at e.number entry_after_close (y ∷ ys)) ≡ left_from k i (y ∷ ys)
    by zero h true t ih ne =
        let same : y ≡ e = same_Some y e (sym (nth-mine k y ys t zero) ∙ h) in
        let opens : is_channel_open (entry_after_close y) ≡ true = ap (λ (z : TableEntry). is_channel_open (entry_after_close z)) same ∙ open_ in
        ap (λ (z : TableEntry). left_from k 1 (changed_at z.number entry_after_close (y ∷ ys))) (sym same)
        ∙ (ap (left_from k 1) (changed-first entry_after_close y ys apart) ∙ (from-mine k zero (entry_after_close y) ys t ∙ sym (entries-mine k y ys t true opens)))
    by (suc i) h true t ih ne =
        let later = sym (nth-mine k y ys t (suc i)) ∙ h in
        ap (left_from k (suc (suc i))) (changed-other e.number entry_after_close y ys (ne i later))
        ∙ (from-mine k (suc i) y (changed_at e.number entry_after_close ys) t ∙ (ap (λ zs. y ∷ zs) (ih i later) ∙ sym (from-mine k i y ys t)))
    by i h false t ih ne =
        let later = sym (nth-other k y ys t i) ∙ h in
        ap (left_from k (suc i)) (changed-other e.number entry_after_close y ys (ne i later))
        ∙ (from-other k (suc i) y (changed_at e.number entry_after_close ys) t ∙ (ap (λ zs. y ∷ zs) (ih i later) ∙ sym (from-other k i y ys t)))

pub stays-later : (k i : ℕ) (es : List TableEntry) (e : TableEntry) → AreApart es → nth_entry es k i ≡ Some e → drop (suc i) (filter (is_channel_of k) (changed_at e.number entry_after_close es)) ≡ drop (suc i) (filter (is_channel_of k) es)
stays-later k zero [] e apart h = absurd (none-some e h)
stays-later k (suc i) [] e apart h = absurd (none-some e h)
stays-later k i (y ∷ ys) e apart h = by i h (is_channel_of k y) refl (λ j g. stays-later k j ys e apart.1 g) (λ j g. (nth-of (AreTwo y) k j ys e g apart.0).number)
  where
    by : (i : ℕ) → nth_entry (y ∷ ys) k i ≡ Some e → (b : Bool) → is_channel_of k y ≡ b → ((j : ℕ) → nth_entry ys k j ≡ Some e → drop (suc j) (filter (is_channel_of k) (changed_at e.number entry_after_close ys)) ≡ drop (suc j) (filter (is_channel_of k) ys)) → ((j : ℕ) → nth_entry ys k j ≡ Some e → is_at e.number y ≡ false) → drop (suc i) (filter (is_channel_of k) (changed_at e.number entry_after_close (y ∷ ys))) ≡ drop (suc i) (filter (is_channel_of k) (y ∷ ys))
    by zero h true t ih ne =
        let same : y ≡ e = same_Some y e (sym (nth-mine k y ys t zero) ∙ h) in
        ap (λ (z : TableEntry). drop 1 (filter (is_channel_of k) (changed_at z.number entry_after_close (y ∷ ys)))) (sym same)
        ∙ (ap (λ zs. drop 1 (filter (is_channel_of k) zs)) (changed-first entry_after_close y ys apart)
        ∙ (ap (drop 1) (filter-yes (is_channel_of k) (entry_after_close y) ys t) ∙ sym (ap (drop 1) (filter-yes (is_channel_of k) y ys t))))
    by (suc i) h true t ih ne =
        let later = sym (nth-mine k y ys t (suc i)) ∙ h in
        ap (λ zs. drop (suc (suc i)) (filter (is_channel_of k) zs)) (changed-other e.number entry_after_close y ys (ne i later))
        ∙ (ap (drop (suc (suc i))) (filter-yes (is_channel_of k) y (changed_at e.number entry_after_close ys) t) ∙ (ih i later ∙ sym (ap (drop (suc (suc i))) (filter-yes (is_channel_of k) y ys t))))
    by i h false t ih ne =
        let later = sym (nth-other k y ys t i) ∙ h in
        ap (λ zs. drop (suc i) (filter (is_channel_of k) zs)) (changed-other e.number entry_after_close y ys (ne i later))
        ∙ (ap (drop (suc i)) (filter-no (is_channel_of k) y (changed_at e.number entry_after_close ys) t) ∙ (ih i later ∙ sym (ap (drop (suc i)) (filter-no (is_channel_of k) y ys t))))

-- ---- a channel that is freed

pub freed-left : (k i : ℕ) (es : List TableEntry) (e : TableEntry) → AreApart es → nth_entry es k i ≡ Some e → is_channel_open (entry_after_close e) ≡ false → left_from k i (freed e.number es) ≡ left_from k i es
freed-left k zero [] e apart h open_ = absurd (none-some e h)
freed-left k (suc i) [] e apart h open_ = absurd (none-some e h)
freed-left k i (y ∷ ys) e apart h open_ = by i h (is_channel_of k y) refl (λ j g. freed-left k j ys e apart.1 g open_) (λ j g. (nth-of (AreTwo y) k j ys e g apart.0).number)
  where
    by : (i : ℕ) → nth_entry (y ∷ ys) k i ≡ Some e → (b : Bool) → is_channel_of k y ≡ b → ((j : ℕ) → nth_entry ys k j ≡ Some e → left_from k j (freed e.number ys) ≡ left_from k j ys) → ((j : ℕ) → nth_entry ys k j ≡ Some e → is_at e.number y ≡ false) → left_from k i (freed e.number (y ∷ ys)) ≡ left_from k i (y ∷ ys)
    by zero h true t ih ne =
        let same : y ≡ e = same_Some y e (sym (nth-mine k y ys t zero) ∙ h) in
        let closed : is_channel_open (entry_after_close y) ≡ false = ap (λ (z : TableEntry). is_channel_open (entry_after_close z)) same ∙ open_ in
        ap (λ (z : TableEntry). left_entries k (freed z.number (y ∷ ys))) (sym same)
        ∙ (ap (left_entries k) (freed-first y ys apart) ∙ sym (entries-mine k y ys t false closed))
    by (suc i) h true t ih ne =
        let later = sym (nth-mine k y ys t (suc i)) ∙ h in
        ap (left_from k (suc i)) (freed-other e.number y ys (ne i later))
        ∙ (from-mine k i y (freed e.number ys) t ∙ (ap (λ zs. y ∷ zs) (ih i later) ∙ sym (from-mine k i y ys t)))
    by i h false t ih ne =
        let later = sym (nth-other k y ys t i) ∙ h in
        ap (left_from k i) (freed-other e.number y ys (ne i later))
        ∙ (from-other k i y (freed e.number ys) t ∙ (ap (λ zs. y ∷ zs) (ih i later) ∙ sym (from-other k i y ys t)))

pub freed-later : (k i : ℕ) (es : List TableEntry) (e : TableEntry) → AreApart es → nth_entry es k i ≡ Some e → drop i (filter (is_channel_of k) (freed e.number es)) ≡ drop (suc i) (filter (is_channel_of k) es)
freed-later k zero [] e apart h = absurd (none-some e h)
freed-later k (suc i) [] e apart h = absurd (none-some e h)
freed-later k i (y ∷ ys) e apart h = by i h (is_channel_of k y) refl (λ j g. freed-later k j ys e apart.1 g) (λ j g. (nth-of (AreTwo y) k j ys e g apart.0).number)
  where
    by : (i : ℕ) → nth_entry (y ∷ ys) k i ≡ Some e → (b : Bool) → is_channel_of k y ≡ b → ((j : ℕ) → nth_entry ys k j ≡ Some e → drop j (filter (is_channel_of k) (freed e.number ys)) ≡ drop (suc j) (filter (is_channel_of k) ys)) → ((j : ℕ) → nth_entry ys k j ≡ Some e → is_at e.number y ≡ false) → drop i (filter (is_channel_of k) (freed e.number (y ∷ ys))) ≡ drop (suc i) (filter (is_channel_of k) (y ∷ ys))
    by zero h true t ih ne =
        let same : y ≡ e = same_Some y e (sym (nth-mine k y ys t zero) ∙ h) in
        ap (λ (z : TableEntry). filter (is_channel_of k) (freed z.number (y ∷ ys))) (sym same)
        ∙ (ap (filter (is_channel_of k)) (freed-first y ys apart) ∙ sym (ap (drop 1) (filter-yes (is_channel_of k) y ys t)))
    by (suc i) h true t ih ne =
        let later = sym (nth-mine k y ys t (suc i)) ∙ h in
        ap (λ zs. drop (suc i) (filter (is_channel_of k) zs)) (freed-other e.number y ys (ne i later))
        ∙ (ap (drop (suc i)) (filter-yes (is_channel_of k) y (freed e.number ys) t) ∙ (ih i later ∙ sym (ap (drop (suc (suc i))) (filter-yes (is_channel_of k) y ys t))))
    by i h false t ih ne =
        let later = sym (nth-other k y ys t i) ∙ h in
        ap (λ zs. drop i (filter (is_channel_of k) zs)) (freed-other e.number y ys (ne i later))
        ∙ (ap (drop i) (filter-no (is_channel_of k) y (freed e.number ys) t) ∙ (ih i later ∙ sym (ap (drop (suc i)) (filter-no (is_channel_of k) y ys t))))

pub freed-count : (k i : ℕ) (es : List TableEntry) (e : TableEntry) → AreApart es → nth_entry es k i ≡ Some e → channel_count_of (freed e.number es) k + 1 ≡ channel_count_of es k
freed-count k zero [] e apart h = absurd (none-some e h)
freed-count k (suc i) [] e apart h = absurd (none-some e h)
freed-count k i (y ∷ ys) e apart h = by i h (is_channel_of k y) refl (λ j g. freed-count k j ys e apart.1 g) (λ j g. (nth-of (AreTwo y) k j ys e g apart.0).number)
  where
    mine : (zs : List TableEntry) → is_channel_of k y ≡ true → channel_count_of (y ∷ zs) k ≡ channel_count_of zs k + 1
    mine zs t = let same : channel_count_of (y ∷ zs) k ≡ suc (channel_count_of zs k) = ap length (filter-yes (is_channel_of k) y zs t) in omega (arith, same)

    other : (zs : List TableEntry) → is_channel_of k y ≡ false → channel_count_of (y ∷ zs) k ≡ channel_count_of zs k
    other zs t = ap length (filter-no (is_channel_of k) y zs t)

    by : (i : ℕ) → nth_entry (y ∷ ys) k i ≡ Some e → (b : Bool) → is_channel_of k y ≡ b → ((j : ℕ) → nth_entry ys k j ≡ Some e → channel_count_of (freed e.number ys) k + 1 ≡ channel_count_of ys k) → ((j : ℕ) → nth_entry ys k j ≡ Some e → is_at e.number y ≡ false) → channel_count_of (freed e.number (y ∷ ys)) k + 1 ≡ channel_count_of (y ∷ ys) k
    by zero h true t ih ne =
        let same : y ≡ e = same_Some y e (sym (nth-mine k y ys t zero) ∙ h) in
        let gone : channel_count_of (freed e.number (y ∷ ys)) k ≡ channel_count_of ys k = ap (λ (z : TableEntry). channel_count_of (freed z.number (y ∷ ys)) k) (sym same) ∙ ap (λ zs. channel_count_of zs k) (freed-first y ys apart) in
        omega (arith, gone, mine ys t)
    by (suc i) h true t ih ne =
        let later = sym (nth-mine k y ys t (suc i)) ∙ h in
        let kept : channel_count_of (freed e.number (y ∷ ys)) k ≡ channel_count_of (y ∷ freed e.number ys) k = ap (λ zs. channel_count_of zs k) (freed-other e.number y ys (ne i later)) in
        omega (arith, kept, mine (freed e.number ys) t, mine ys t, ih i later)
    by i h false t ih ne =
        let later = sym (nth-other k y ys t i) ∙ h in
        let kept : channel_count_of (freed e.number (y ∷ ys)) k ≡ channel_count_of (y ∷ freed e.number ys) k = ap (λ zs. channel_count_of zs k) (freed-other e.number y ys (ne i later)) in
        omega (arith, kept, other (freed e.number ys) t, other ys t, ih i later)

-- ---- no channel is at the place

pub none-left : (k i : ℕ) (es : List TableEntry) → nth_entry es k i ≡ None → left_from k i es ≡ es
none-left k zero [] h = refl
none-left k (suc i) [] h = refl
none-left k i (y ∷ ys) h = by i h (is_channel_of k y) refl (λ j g. none-left k j ys g)
  where
    by : (i : ℕ) → nth_entry (y ∷ ys) k i ≡ None → (b : Bool) → is_channel_of k y ≡ b → ((j : ℕ) → nth_entry ys k j ≡ None → left_from k j ys ≡ ys) → left_from k i (y ∷ ys) ≡ y ∷ ys
    by zero h true t ih = absurd (none-some y (sym h ∙ nth-mine k y ys t zero))
    by (suc i) h true t ih = from-mine k i y ys t ∙ ap (λ zs. y ∷ zs) (ih i (sym (nth-mine k y ys t (suc i)) ∙ h))
    by i h false t ih = from-other k i y ys t ∙ ap (λ zs. y ∷ zs) (ih i (sym (nth-other k y ys t i) ∙ h))
