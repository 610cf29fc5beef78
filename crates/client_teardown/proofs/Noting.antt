-- The channel under a number, and the CLOSE that is noted in its account.
use Rattle.std.proofs.Common.{◌≡◌, ℕ, Bool, true, false, List, [], ◌∷◌, refl, ap, sym, ◌∙◌}
use Rattle.std.specs.Prelude.{Option, Some, None, option_map}
use Rattle.std.proofs.lemmas.Bool.{eqb-true}
use Rattle.std.proofs.lemmas.Option.{none-some, same_Some}
use Rattle.window_ledger.specs.declared.ledger.Ledger.{Ledger}
use Rattle.window_ledger.specs.Leaving as account
use Rattle.channel_table.specs.declared.channel.Channel.{Channel}
use Rattle.channel_table.specs.Entries.{AreApart, TableEntry, admitted_at, at_number, changed_at, entry_at, freed, is_at, ledger_at, with_ledger}
use Rattle.channel_table.proofs.Lookups.{none-behind}
use Rattle.channel_table.proofs.Steps.{changed-none}
use Rattle.client_teardown.specs.Leaving.{entry_after_close, is_open_in}
use Rattle.client_teardown.specs.Steps.{left_at, stays_at, stays_in}

-- the entry that two look-ups show
abbrev pub entry_of : ℕ → Channel → Ledger → TableEntry
entry_of n c l = record { number = n; channel = c; ledger = l }

number-at : (n : ℕ) (es : List TableEntry) (e : TableEntry) → entry_at es n ≡ Some e → e.number ≡ n
number-at n [] e at = absurd (none-some e at)
number-at n (y ∷ ys) e at = by (is_at n y) refl (number-at n ys e)
  where
    by : (b : Bool) → is_at n y ≡ b → (entry_at ys n ≡ Some e → e.number ≡ n) → e.number ≡ n
    by true t ih = ap (λ (z : TableEntry). z.number) (sym (same_Some y e (rw t at at))) ∙ eqb-true y.number n t
    by false t ih = ih (rw t at at)

pub entry-of : (es : List TableEntry) (n : ℕ) (c : Channel) (l : Ledger) → Some c ≡ admitted_at es n → Some l ≡ ledger_at es n → entry_at es n ≡ Some (entry_of n c l)
entry-of es n c l h g = by (entry_at es n) refl
  where
    by : (o : Option TableEntry) → entry_at es n ≡ o → entry_at es n ≡ Some (entry_of n c l)
    by None f = absurd (none-some c (sym (h ∙ ap (option_map (λ (e : TableEntry). e.channel)) f)))
    by (Some e) f =
        let channel : e.channel ≡ c = same_Some e.channel c (sym (h ∙ ap (option_map (λ (e : TableEntry). e.channel)) f)) in
        let ledger : e.ledger ≡ l = same_Some e.ledger l (sym (g ∙ ap (option_map (λ (e : TableEntry). e.ledger)) f)) in
        let number : e.number ≡ n = number-at n es e f in
        f ∙ (λ i. Some (entry_of (number i) (channel i) (ledger i)))

pub no-entry : (es : List TableEntry) (n : ℕ) → None ≡ ledger_at es n → entry_at es n ≡ None
no-entry es n h = by (entry_at es n) refl
  where
    by : (o : Option TableEntry) → entry_at es n ≡ o → entry_at es n ≡ None
    by None f = f
    by (Some e) f = absurd (none-some e.ledger (h ∙ ap (option_map (λ (e : TableEntry). e.ledger)) f))

pub not-admitted : (es : List TableEntry) (n : ℕ) → None ≡ admitted_at es n → entry_at es n ≡ None
not-admitted es n h = by (entry_at es n) refl
  where
    by : (o : Option TableEntry) → entry_at es n ≡ o → entry_at es n ≡ None
    by None f = f
    by (Some e) f = absurd (none-some e.channel (h ∙ ap (option_map (λ (e : TableEntry). e.channel)) f))

-- two changes that make the same of that one
changed-as : (n : ℕ) (f g : TableEntry → TableEntry) (es : List TableEntry) (e : TableEntry) → AreApart es → entry_at es n ≡ Some e → f e ≡ g e → changed_at n f es ≡ changed_at n g es
changed-as n f g [] e apart at same = refl
changed-as n f g (y ∷ ys) e apart at same = by (is_at n y) refl (λ rest. changed-as n f g ys e apart.1 rest same)
  where
    by : (b : Bool) → is_at n y ≡ b → (entry_at ys n ≡ Some e → changed_at n f ys ≡ changed_at n g ys) → changed_at n f (y ∷ ys) ≡ changed_at n g (y ∷ ys)
    by true t ih =
        let is : y ≡ e = same_Some y e (rw t at at) in
        let none : entry_at ys n ≡ None = ap (entry_at ys) (sym (eqb-true y.number n t)) ∙ none-behind y ys apart.0 in
        let head : f y ≡ g y = ap f is ∙ (same ∙ sym (ap g is)) in
        rw (t, at_number) (ap (λ z. z ∷ changed_at n f ys) head ∙ ap (λ zs. g y ∷ zs) (changed-none n f ys none ∙ sym (changed-none n g ys none)))
    by false t ih = rw (t, at_number) (ap (λ zs. y ∷ zs) (ih (rw t at at)))

pub noted : (es : List TableEntry) (n : ℕ) (l l' : Ledger) → AreApart es → Some l ≡ ledger_at es n → l' ≡ account.ledger_after_close l → changed_at n (with_ledger l') es ≡ changed_at n entry_after_close es
noted es n l l' apart h left = by (entry_at es n) refl
  where
    by : (o : Option TableEntry) → entry_at es n ≡ o → changed_at n (with_ledger l') es ≡ changed_at n entry_after_close es
    by None f = absurd (none-some l (sym (h ∙ ap (option_map (λ (e : TableEntry). e.ledger)) f)))
    by (Some e) f =
        let ledger : e.ledger ≡ l = same_Some e.ledger l (sym (h ∙ ap (option_map (λ (e : TableEntry). e.ledger)) f)) in
        changed-as n (with_ledger l') entry_after_close es e apart f (ap (λ m. with_ledger m e) (left ∙ ap account.ledger_after_close (sym ledger)))

pub none-noted : (es : List TableEntry) (n : ℕ) → entry_at es n ≡ None → es ≡ changed_at n entry_after_close es
none-noted es n none = sym (changed-none n entry_after_close es none)

-- ---- one channel of a client that is lost

pub left-at : (es : List TableEntry) (n : ℕ) (b : Bool) → stays_at es n ≡ b → left_at n es ≡ elim b as (λ _. List TableEntry) [ true ↦ changed_at n entry_after_close es | false ↦ freed n es ]
left-at es n b h = ap (λ c. elim c as (λ _. List TableEntry) [ true ↦ changed_at n entry_after_close es | false ↦ freed n es ]) h

pub none-left_at : (es : List TableEntry) (n : ℕ) → entry_at es n ≡ None → es ≡ left_at n es
none-left_at es n none = none-noted es n none ∙ sym (left-at es n true (ap stays_in none))

pub held-left_at : (es : List TableEntry) (n : ℕ) (c : Channel) (l l' : Ledger) → AreApart es → Some c ≡ admitted_at es n → Some l ≡ ledger_at es n → l' ≡ account.ledger_after_close l → true ≡ is_open_in c l' → changed_at n (with_ledger l') es ≡ left_at n es
held-left_at es n c l l' apart h g left held =
    noted es n l l' apart g left ∙ sym (left-at es n true (ap stays_in (entry-of es n c l h g) ∙ sym (held ∙ ap (is_open_in c) left)))
