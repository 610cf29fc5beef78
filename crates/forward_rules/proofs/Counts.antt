-- No call leaves a client more than 64 forwardings.
use Rattle.std.proofs.Common.{◌≡◌, ◌≤◌, ◌+◌, ℕ, List, [], ◌∷◌, length, map, true, false, Bool, Some, None, refl, ◌∙◌, ap, sym, arith, suc}
use Rattle.std.specs.Prelude.{filter, find, ◌==◌}
use Rattle.mux_history.proofs.Finds.{filter-no, filter-yes, find-no}
use Rattle.mux_history.specs.Channels.{is_number}
use Rattle.forward_rules.specs.State.{Forward}
use Rattle.forward_rules.specs.Step.{change_first_forward, forward_count_of, is_forward_of, moved_up, without_cancel, without_cancel_of, without_first_forward}
use Rattle.forward_rules.specs.Taking.{AreFew, moved_up_of}
use Rattle.forward_rules.proofs.Places.{change-at, without-at}

-- one more in front
count-yes : (k : ℕ) (f : Forward) (fs : List Forward) → is_forward_of k f ≡ true → forward_count_of (f ∷ fs) k ≡ suc (forward_count_of fs k)
count-yes k f fs h = ap length (filter-yes (is_forward_of k) f fs h)

count-no : (k : ℕ) (f : Forward) (fs : List Forward) → is_forward_of k f ≡ false → forward_count_of (f ∷ fs) k ≡ forward_count_of fs k
count-no k f fs h = ap length (filter-no (is_forward_of k) f fs h)

-- the same before one as of another
count-same : (k : ℕ) (f g : Forward) (fs gs : List Forward) → f.client ≡ g.client → forward_count_of fs k ≡ forward_count_of gs k → forward_count_of (f ∷ fs) k ≡ forward_count_of (g ∷ gs) k
count-same k f g fs gs client same = by_case (is_forward_of k f) refl
  where
    by_case : (b : Bool) → is_forward_of k f ≡ b → forward_count_of (f ∷ fs) k ≡ forward_count_of (g ∷ gs) k
    by_case true h = count-yes k f fs h ∙ (ap suc same ∙ sym (count-yes k g gs (ap (λ i. i == k) (sym client) ∙ h)))
    by_case false h = count-no k f fs h ∙ (same ∙ sym (count-no k g gs (ap (λ i. i == k) (sym client) ∙ h)))

pub few-less : (fs gs : List Forward) → ((k : ℕ) → forward_count_of gs k ≤ forward_count_of fs k) → AreFew fs → AreFew gs
few-less fs gs less few k = let a = less k in let b = few k in omega (arith, a, b)

-- ---- changed

pub same-first : (test : Forward → Bool) (change : Forward → Forward) → ((f : Forward) → (change f).client ≡ f.client) → (fs : List Forward) (k : ℕ) → forward_count_of (change_first_forward test change fs) k ≡ forward_count_of fs k
same-first test change keeps [] k = refl
same-first test change keeps (f ∷ fs) k = by_case (same-first test change keeps fs k) (test f) refl
  where
    by_case : forward_count_of (change_first_forward test change fs) k ≡ forward_count_of fs k → (b : Bool) → test f ≡ b → forward_count_of (change_first_forward test change (f ∷ fs)) k ≡ forward_count_of (f ∷ fs) k
    by_case ih true h = ap (λ gs. forward_count_of gs k) (change-at test change f fs true h) ∙ count-same k (change f) f fs fs (keeps f) refl
    by_case ih false h = ap (λ gs. forward_count_of gs k) (change-at test change f fs false h) ∙ count-same k f f (change_first_forward test change fs) fs refl ih

pub few-first : (test : Forward → Bool) (change : Forward → Forward) → ((f : Forward) → (change f).client ≡ f.client) → (fs : List Forward) → AreFew fs → AreFew (change_first_forward test change fs)
few-first test change keeps fs few k = let e = same-first test change keeps fs k in let l = few k in omega (arith, e, l)

pub same-map : (change : Forward → Forward) → ((f : Forward) → (change f).client ≡ f.client) → (fs : List Forward) (k : ℕ) → forward_count_of (map change fs) k ≡ forward_count_of fs k
same-map change keeps [] k = refl
same-map change keeps (f ∷ fs) k = count-same k (change f) f (map change fs) fs (keeps f) (same-map change keeps fs k)

-- a cancel that is none any more leaves the client
pub settled-client : (k r : ℕ) (f : Forward) → (without_cancel_of k r f).client ≡ f.client
settled-client k r f = by_case (is_forward_of k f)
  where
    by_case : (b : Bool) → (elim b as (λ _. Forward) [ true ↦ without_cancel r f | false ↦ f ]).client ≡ f.client
    by_case true = both (is_number f.cancel r)
      where
        both : (b : Bool) → (elim b as (λ _. Forward) [ true ↦ record f { cancel = None } | false ↦ record f { cancel = moved_up r f.cancel } ]).client ≡ f.client
        both true = refl
        both false = refl
    by_case false = refl

pub few-settled : (k r : ℕ) (fs : List Forward) → AreFew fs → AreFew (map (without_cancel_of k r) fs)
few-settled k r fs few j = let e = same-map (without_cancel_of k r) (settled-client k r) fs j in let l = few j in omega (arith, e, l)

-- and so does one that moves up
pub moved-client : (k r : ℕ) (f : Forward) → (moved_up_of k r f).client ≡ f.client
moved-client k r f = by_case (is_forward_of k f)
  where
    by_case : (b : Bool) → (elim b as (λ _. Forward) [ true ↦ record f { cancel = moved_up r f.cancel } | false ↦ f ]).client ≡ f.client
    by_case true = refl
    by_case false = refl

pub few-moved : (k r : ℕ) (fs : List Forward) → AreFew fs → AreFew (map (moved_up_of k r) fs)
few-moved k r fs few j = let e = same-map (moved_up_of k r) (moved-client k r) fs j in let l = few j in omega (arith, e, l)

-- ---- taken out

pub less-without : (test : Forward → Bool) (fs : List Forward) (k : ℕ) → forward_count_of (without_first_forward test fs) k ≤ forward_count_of fs k
less-without test [] k = omega arith
less-without test (f ∷ fs) k = by_case (less-without test fs k) (test f) refl (is_forward_of k f) refl
  where
    by_case : forward_count_of (without_first_forward test fs) k ≤ forward_count_of fs k → (b : Bool) → test f ≡ b → (c : Bool) → is_forward_of k f ≡ c → forward_count_of (without_first_forward test (f ∷ fs)) k ≤ forward_count_of (f ∷ fs) k
    by_case ih true h true e = let a = ap (λ gs. forward_count_of gs k) (without-at test f fs true h) in let b = count-yes k f fs e in omega (arith, a, b)
    by_case ih true h false e = let a = ap (λ gs. forward_count_of gs k) (without-at test f fs true h) in let b = count-no k f fs e in omega (arith, a, b)
    by_case ih false h true e = let a = ap (λ gs. forward_count_of gs k) (without-at test f fs false h) ∙ count-yes k f (without_first_forward test fs) e in let b = count-yes k f fs e in omega (arith, a, b, ih)
    by_case ih false h false e = let a = ap (λ gs. forward_count_of gs k) (without-at test f fs false h) ∙ count-no k f (without_first_forward test fs) e in let b = count-no k f fs e in omega (arith, a, b, ih)

pub few-without : (test : Forward → Bool) (fs : List Forward) → AreFew fs → AreFew (without_first_forward test fs)
few-without test fs few = few-less fs (without_first_forward test fs) (less-without test fs) few

-- the first of a client's is one of the client's
pub one-less : (test : Forward → Bool) (k : ℕ) → ((f : Forward) → test f ≡ true → is_forward_of k f ≡ true) → (fs : List Forward) (g : Forward) → find test fs ≡ Some g → forward_count_of (without_first_forward test fs) k + 1 ≡ forward_count_of fs k
one-less test k own [] g found = absurd (cc)
one-less test k own (f ∷ fs) g found = by_case (one-less test k own fs g) (test f) refl (is_forward_of k f) refl
  where
    by_case : (find test fs ≡ Some g → forward_count_of (without_first_forward test fs) k + 1 ≡ forward_count_of fs k) → (b : Bool) → test f ≡ b → (c : Bool) → is_forward_of k f ≡ c → forward_count_of (without_first_forward test (f ∷ fs)) k + 1 ≡ forward_count_of (f ∷ fs) k
    by_case ih true h true e = let a = ap (λ gs. forward_count_of gs k) (without-at test f fs true h) in let b = count-yes k f fs e in omega (arith, a, b)
    by_case ih true h false e = absurd (let z = sym (own f h) ∙ e in cc)
    by_case ih false h true e = let i = ih (sym (find-no test f fs h) ∙ found) in let a = ap (λ gs. forward_count_of gs k) (without-at test f fs false h) ∙ count-yes k f (without_first_forward test fs) e in let b = count-yes k f fs e in omega (arith, a, b, i)
    by_case ih false h false e = let i = ih (sym (find-no test f fs h) ∙ found) in let a = ap (λ gs. forward_count_of gs k) (without-at test f fs false h) ∙ count-no k f (without_first_forward test fs) e in let b = count-no k f fs e in omega (arith, a, b, i)

pub less-filter : (keep : Forward → Bool) (fs : List Forward) (k : ℕ) → forward_count_of (filter keep fs) k ≤ forward_count_of fs k
less-filter keep [] k = omega arith
less-filter keep (f ∷ fs) k = by_case (less-filter keep fs k) (keep f) refl (is_forward_of k f) refl
  where
    by_case : forward_count_of (filter keep fs) k ≤ forward_count_of fs k → (b : Bool) → keep f ≡ b → (c : Bool) → is_forward_of k f ≡ c → forward_count_of (filter keep (f ∷ fs)) k ≤ forward_count_of (f ∷ fs) k
    by_case ih true h true e = let a = ap (λ gs. forward_count_of gs k) (filter-yes keep f fs h) ∙ count-yes k f (filter keep fs) e in let b = count-yes k f fs e in omega (arith, a, b, ih)
    by_case ih true h false e = let a = ap (λ gs. forward_count_of gs k) (filter-yes keep f fs h) ∙ count-no k f (filter keep fs) e in let b = count-no k f fs e in omega (arith, a, b, ih)
    by_case ih false h true e = let a = ap (λ gs. forward_count_of gs k) (filter-no keep f fs h) in let b = count-yes k f fs e in omega (arith, a, b, ih)
    by_case ih false h false e = let a = ap (λ gs. forward_count_of gs k) (filter-no keep f fs h) in let b = count-no k f fs e in omega (arith, a, b, ih)

pub few-filter : (keep : Forward → Bool) (fs : List Forward) → AreFew fs → AreFew (filter keep fs)
few-filter keep fs few = few-less fs (filter keep fs) (less-filter keep fs) few
