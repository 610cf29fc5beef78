-- Entries that share no number: which of them passes, and what keeps them so.
use Rattle.std.proofs.Common.{◌≡◌, ◌≤◌, ℕ, List, [], ◌∷◌, length, map, true, false, Bool, refl, ◌∙◌, ap, sym, subst, Some, None, arith, suc}
use Rattle.std.specs.Prelude.{filter, find, ◌==◌}
use Rattle.std.specs.List.{AllByRecursion}
use Rattle.std.proofs.lemmas.Bool.Decides.{nat_tests}
use Rattle.mux_history.specs.Channels.{is_number}
use Rattle.mux_history.proofs.Bools.{self}
use Rattle.mux_history.proofs.Finds.{filter-no, filter-yes, find-no, find-yes}
use Rattle.channel_table.specs.declared.channel.Channel.{Channel}
use Rattle.channel_table.specs.Entries.{TableEntry}
use Rattle.channel_table.specs.Entries.{AreApart, AreTwo, channel_count_of, is_channel_of}

-- ---- all of a list

pub all-map : (P Q : TableEntry → Type 0) (f : TableEntry → TableEntry) → ((e : TableEntry) → P e → Q (f e)) → (es : List TableEntry) → AllByRecursion P es → AllByRecursion Q (map f es)
all-map P Q f each [] all = tt
all-map P Q f each (e ∷ es) all = (each e all.0, all-map P Q f each es all.1)

pub all-of : (P Q : TableEntry → Type 0) → ((e : TableEntry) → P e → Q e) → (es : List TableEntry) → AllByRecursion P es → AllByRecursion Q es
all-of P Q each [] all = tt
all-of P Q each (e ∷ es) all = (each e all.0, all-of P Q each es all.1)

pub all-filter : (P : TableEntry → Type 0) (keep : TableEntry → Bool) (es : List TableEntry) → AllByRecursion P es → AllByRecursion P (filter keep es)
all-filter P keep [] all = tt
all-filter P keep (e ∷ es) all = by_case (all-filter P keep es all.1) (keep e) refl
  where
    by_case : AllByRecursion P (filter keep es) → (b : Bool) → keep e ≡ b → AllByRecursion P (filter keep (e ∷ es))
    by_case ih true h = subst (AllByRecursion P) (sym (filter-yes keep e es h)) (all.0, ih)
    by_case ih false h = subst (AllByRecursion P) (sym (filter-no keep e es h)) ih

pub found-of : (P : TableEntry → Type 0) (test : TableEntry → Bool) (e : TableEntry) (es : List TableEntry) → AllByRecursion P es → find test es ≡ Some e → P e
found-of P test e [] all h = absurd (cc)
found-of P test e (f ∷ fs) all h = by_case (found-of P test e fs all.1) (test f) refl
  where
    by_case : (find test fs ≡ Some e → P e) → (b : Bool) → test f ≡ b → P e
    by_case ih true t = let same : f ≡ e = let g = sym (find-yes test f fs t) ∙ h in cc in subst P same all.0
    by_case ih false t = ih (sym (find-no test f fs t) ∙ h)

pub passes : (test : TableEntry → Bool) (e : TableEntry) (es : List TableEntry) → find test es ≡ Some e → test e ≡ true
passes test e [] h = absurd (cc)
passes test e (f ∷ fs) h = by_case (passes test e fs) (test f) refl
  where
    by_case : (find test fs ≡ Some e → test e ≡ true) → (b : Bool) → test f ≡ b → test e ≡ true
    by_case ih true t = let same : f ≡ e = let g = sym (find-yes test f fs t) ∙ h in cc in ap test (sym same) ∙ t
    by_case ih false t = ih (sym (find-no test f fs t) ∙ h)

pub none-pass : (test : TableEntry → Bool) (es : List TableEntry) → find test es ≡ None → AllByRecursion (λ e. test e ≡ false) es
none-pass test [] h = tt
none-pass test (f ∷ fs) h = by_case (none-pass test fs) (test f) refl
  where
    by_case : (find test fs ≡ None → AllByRecursion (λ e. test e ≡ false) fs) → (b : Bool) → test f ≡ b → AllByRecursion (λ e. test e ≡ false) (f ∷ fs)
    by_case ih true t = absurd (let g = sym (find-yes test f fs t) ∙ h in cc)
    by_case ih false t = (t, ih (sym (find-no test f fs t) ∙ h))

-- ---- one entry alone passes

-- the test is passed by the entry of one number alone
pub record Alone (r : TableEntry → Bool) (e0 e : TableEntry) : Type 0 where
  pub test : r e ≡ (e.number == e0.number)
  pub same : (e.number == e0.number) ≡ true → e ≡ e0

-- a test that no two entries pass
abbrev pub Sole : (TableEntry → Bool) → Type 0
Sole r = (e f : TableEntry) → AreTwo e f → r e ≡ true → r f ≡ false

turned : (a b : ℕ) → (a == b) ≡ false → (b == a) ≡ false
turned a b h = grind (arith, nat_tests)

pub alone : (r : TableEntry → Bool) → Sole r → (e0 : TableEntry) (es : List TableEntry) → AreApart es → find r es ≡ Some e0 → AllByRecursion (Alone r e0) es
alone r sole e0 [] apart h = tt
alone r sole e0 (e ∷ es) apart h = by_case (alone r sole e0 es apart.1) (r e) refl
  where
    others : e ≡ e0 → r e ≡ true → (f : TableEntry) → AreTwo e f → Alone r e0 f
    others same t f two = record {
      test = sole e f two t ∙ sym (ap (λ (x : TableEntry). f.number == x.number) (sym same) ∙ turned e.number f.number two.number);
      same = λ h. absurd (let g : (f.number == e.number) ≡ false = turned e.number f.number two.number in let k : (f.number == e.number) ≡ true = ap (λ (x : TableEntry). f.number == x.number) same ∙ h in let c = sym k ∙ g in cc);
    }

    by_case : (find r es ≡ Some e0 → AllByRecursion (Alone r e0) es) → (b : Bool) → r e ≡ b → AllByRecursion (Alone r e0) (e ∷ es)
    by_case ih true t =
        let same : e ≡ e0 = let g = sym (find-yes r e es t) ∙ h in cc in
        (record { test = t ∙ sym (ap (λ (x : TableEntry). e.number == x.number) (sym same) ∙ self e.number); same = λ _. same }, all-of (AreTwo e) (Alone r e0) (others same t) es apart.0)
    by_case ih false t =
        let later : find r es ≡ Some e0 = sym (find-no r e es t) ∙ h in
        let two : AreTwo e e0 = found-of (AreTwo e) r e0 es apart.0 later in
        (record { test = t ∙ sym two.number; same = λ k. absurd (let c = sym k ∙ two.number in cc) }, ih later)

-- ---- changes that keep entries apart

-- a change that keeps the numbers
abbrev pub KeepsNumbers : (TableEntry → TableEntry) → Type 0
KeepsNumbers f = (e : TableEntry) → ((f e).number ≡ e.number) × ((f e).channel ≡ e.channel)

two-after : (f : TableEntry → TableEntry) → KeepsNumbers f → (a b : TableEntry) → AreTwo a b → AreTwo (f a) (f b)
two-after f keeps a b two =
    let na = (keeps a).0 in let nb = (keeps b).0 in let ca = (keeps a).1 in let cb = (keeps b).1 in
    record {
      number = ap (λ n. n == (f b).number) na ∙ (ap (λ n. a.number == n) nb ∙ two.number);
      remote = λ s h. ap (λ (c : Channel). is_number c.remote s) cb ∙ two.remote s (sym (ap (λ (c : Channel). is_number c.remote s) ca) ∙ h);
      own = λ c same h. ap (λ (d : Channel). is_number d.own c) cb ∙ two.own c (sym (ap (λ (d : Channel). d.client == (f b).channel.client) ca ∙ ap (λ (d : Channel). a.channel.client == d.client) cb) ∙ same) (sym (ap (λ (d : Channel). is_number d.own c) ca) ∙ h);
    }

pub apart-map : (f : TableEntry → TableEntry) → KeepsNumbers f → (es : List TableEntry) → AreApart es → AreApart (map f es)
apart-map f keeps [] apart = tt
apart-map f keeps (e ∷ es) apart = (all-map (AreTwo e) (AreTwo (f e)) f (two-after f keeps e) es apart.0, apart-map f keeps es apart.1)

pub apart-filter : (keep : TableEntry → Bool) (es : List TableEntry) → AreApart es → AreApart (filter keep es)
apart-filter keep [] apart = tt
apart-filter keep (e ∷ es) apart = by_case (apart-filter keep es apart.1) (keep e) refl
  where
    by_case : AreApart (filter keep es) → (b : Bool) → keep e ≡ b → AreApart (filter keep (e ∷ es))
    by_case ih true h = subst AreApart (sym (filter-yes keep e es h)) (all-filter (AreTwo e) keep es apart.0, ih)
    by_case ih false h = subst AreApart (sym (filter-no keep e es h)) ih

-- ---- how many a client has

pub count-map : (f : TableEntry → TableEntry) → KeepsNumbers f → (k : ℕ) (es : List TableEntry) → channel_count_of (map f es) k ≡ channel_count_of es k
count-map f keeps k [] = refl
count-map f keeps k (e ∷ es) = by_case (count-map f keeps k es) (is_channel_of k e) refl
  where
    mine : is_channel_of k (f e) ≡ is_channel_of k e
    mine = ap (λ (c : Channel). c.client == k) (keeps e).1

    by_case : channel_count_of (map f es) k ≡ channel_count_of es k → (b : Bool) → is_channel_of k e ≡ b → channel_count_of (map f (e ∷ es)) k ≡ channel_count_of (e ∷ es) k
    by_case ih true h = ap length (filter-yes (is_channel_of k) (f e) (map f es) (mine ∙ h)) ∙ (ap (λ n. suc n) ih ∙ sym (ap length (filter-yes (is_channel_of k) e es h)))
    by_case ih false h = ap length (filter-no (is_channel_of k) (f e) (map f es) (mine ∙ h)) ∙ (ih ∙ sym (ap length (filter-no (is_channel_of k) e es h)))

pub count-filter : (keep : TableEntry → Bool) (k : ℕ) (es : List TableEntry) → channel_count_of (filter keep es) k ≤ channel_count_of es k
count-filter keep k [] = omega arith
count-filter keep k (e ∷ es) = by_case (count-filter keep k es) (keep e) refl (is_channel_of k e) refl
  where
    by_case : channel_count_of (filter keep es) k ≤ channel_count_of es k → (b : Bool) → keep e ≡ b → (c : Bool) → is_channel_of k e ≡ c → channel_count_of (filter keep (e ∷ es)) k ≤ channel_count_of (e ∷ es) k
    by_case ih true h true m = rw (filter-yes keep e es h, filter-yes (is_channel_of k) e (filter keep es) m, filter-yes (is_channel_of k) e es m) (omega arith)
    by_case ih true h false m = rw (filter-yes keep e es h, filter-no (is_channel_of k) e (filter keep es) m, filter-no (is_channel_of k) e es m) (omega arith)
    by_case ih false h true m = rw (filter-no keep e es h, filter-yes (is_channel_of k) e es m) (omega arith)
    by_case ih false h false m = rw (filter-no keep e es h, filter-no (is_channel_of k) e es m) (omega arith)
