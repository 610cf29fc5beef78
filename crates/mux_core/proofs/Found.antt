-- What the table's look-ups find is what the history's find.
use Rattle.std.proofs.Common.{◌≡◌, ℕ, List, [], ◌∷◌, true, false, Bool, refl, ◌∙◌, ap, sym, subst, Option, Some, None}
use Rattle.std.specs.Prelude.{filter, find, ◌==◌, ◌&&◌, option_map}
use Rattle.std.specs.List.{AllByRecursion}
use Rattle.mux_history.specs.Rows.{Row, rows_of}
use Rattle.mux_history.specs.Channels.{Channel, any_act, channels_of, held_of, is_confirmed, is_confirms, is_channel_held, is_number}
use Rattle.mux_history.specs.Said.{confirmed_at}
use Rattle.mux_history.proofs.Finds.{filter-no, filter-yes, find-no, find-yes}
use Rattle.mux_history.proofs.Local as local
use Rattle.mux_history.proofs.Sends.{and-left, and-right}
use Rattle.window_ledger.specs.declared.ledger.Ledger.{Ledger}
use Rattle.window_ledger.specs.declared.ledger.State.{State}
use Rattle.window_ledger.specs.declared.ledger.State.TheVariants.{Opened, Confirmed}
use Rattle.window_ledger.specs.Stands.{IsStateOf, is_open_confirmed, is_answered}
use Rattle.window_ledger.specs.Stands as ledger
use Rattle.channel_table.specs.Entries.{TableEntry}
use Rattle.channel_table.specs.Entries.{AreApart, AreTwo, has_remote, is_at, is_channel_of, ledger_at}
use Rattle.channel_table.specs.Stands.{ChannelsFit, EntryFits}
use Rattle.mux_core.specs.Lookups.{confirmed_for, confirmed_under, if_confirmed}
use Rattle.mux_core.proofs.Apart.{Alone, Sole, all-of, alone, passes}
use Rattle.channel_table.proofs.EntryFits.{FoundFit, found-fit}

-- ---- a client's channels among all

pub filters-turn : {X : Type 0} (a b : X → Bool) (xs : List X) → filter a (filter b xs) ≡ filter b (filter a xs)
filters-turn a b [] = refl
filters-turn {X} a b (x ∷ xs) = by_case (filters-turn a b xs) (a x) refl (b x) refl
  where
    by_case : filter a (filter b xs) ≡ filter b (filter a xs) → (s : Bool) → a x ≡ s → (t : Bool) → b x ≡ t → filter a (filter b (x ∷ xs)) ≡ filter b (filter a (x ∷ xs))
    by_case ih true e true f = ap (filter a) (filter-yes b x xs f) ∙ (filter-yes a x (filter b xs) e ∙ (ap (λ ys. x ∷ ys) ih ∙ sym (ap (filter b) (filter-yes a x xs e) ∙ filter-yes b x (filter a xs) f)))
    by_case ih true e false f = ap (filter a) (filter-no b x xs f) ∙ (ih ∙ sym (ap (filter b) (filter-yes a x xs e) ∙ filter-no b x (filter a xs) f))
    by_case ih false e true f = ap (filter a) (filter-yes b x xs f) ∙ (filter-no a x (filter b xs) e ∙ (ih ∙ sym (ap (filter b) (filter-no a x xs e))))
    by_case ih false e false f = ap (filter a) (filter-no b x xs f) ∙ (ih ∙ sym (ap (filter b) (filter-no a x xs e)))

pub held-local : (k : ℕ) (rows : List Row) → filter (local.is_of k) (held_of rows) ≡ held_of (rows_of k rows)
held-local k rows = filters-turn (local.is_of k) is_channel_held (channels_of rows) ∙ ap (filter is_channel_held) (local.channels-local k rows)

pub find-filter : {X : Type 0} (p q : X → Bool) (xs : List X) → find q (filter p xs) ≡ find (λ x. p x && q x) xs
find-filter p q [] = refl
find-filter {X} p q (x ∷ xs) = by_case (find-filter p q xs) (p x) refl (q x) refl
  where
    by_case : find q (filter p xs) ≡ find (λ x. p x && q x) xs → (b : Bool) → p x ≡ b → (c : Bool) → q x ≡ c → find q (filter p (x ∷ xs)) ≡ find (λ y. p y && q y) (x ∷ xs)
    by_case ih true h true t = ap (find q) (filter-yes p x xs h) ∙ (find-yes q x (filter p xs) t ∙ sym (find-yes (λ y. p y && q y) x xs (ap (λ b. b && q x) h ∙ t)))
    by_case ih true h false t = ap (find q) (filter-yes p x xs h) ∙ (find-no q x (filter p xs) t ∙ (ih ∙ sym (find-no (λ y. p y && q y) x xs (ap (λ b. b && q x) h ∙ t))))
    by_case ih false h c t = ap (find q) (filter-no p x xs h) ∙ (ih ∙ sym (find-no (λ y. p y && q y) x xs (ap (λ b. b && q x) h)))

-- ---- a narrower test

abbrev pub only_if : Bool → TableEntry → Option TableEntry
only_if true e = Some e
only_if false e = None

none-found : (t : TableEntry → Bool) (es : List TableEntry) → AllByRecursion (λ e. t e ≡ false) es → find t es ≡ None
none-found t [] all = refl
none-found t (e ∷ es) all = find-no t e es all.0 ∙ none-found t es all.1

fails : (r t : TableEntry → Bool) → ((e : TableEntry) → t e ≡ true → r e ≡ true) → (e : TableEntry) → r e ≡ false → t e ≡ false
fails r t narrow e h = by_case (t e) refl
  where
    by_case : (b : Bool) → t e ≡ b → t e ≡ false
    by_case true k = absurd (let c = sym (narrow e k) ∙ h in cc)
    by_case false k = k

pub find-narrow : (r t : TableEntry → Bool) → Sole r → ((e : TableEntry) → t e ≡ true → r e ≡ true) → (e0 : TableEntry) (es : List TableEntry) → AreApart es → find r es ≡ Some e0 → find t es ≡ only_if (t e0) e0
find-narrow r t sole narrow e0 [] apart h = absurd (cc)
find-narrow r t sole narrow e0 (e ∷ es) apart h = by_case (find-narrow r t sole narrow e0 es apart.1) (r e) refl
  where
    by_case : (find r es ≡ Some e0 → find t es ≡ only_if (t e0) e0) → (b : Bool) → r e ≡ b → find t (e ∷ es) ≡ only_if (t e0) e0
    by_case ih true k =
        let same : e ≡ e0 = let g = sym (find-yes r e es k) ∙ h in cc in
        let later : find t es ≡ None = none-found t es (all-of (AreTwo e) (λ f. t f ≡ false) (λ f two. fails r t narrow f (sole e f two k)) es apart.0) in
        by_test same later (t e) refl
      where
        by_test : e ≡ e0 → find t es ≡ None → (c : Bool) → t e ≡ c → find t (e ∷ es) ≡ only_if (t e0) e0
        by_test same later true q = find-yes t e es q ∙ (ap Some same ∙ sym (ap (λ c. only_if c e0) (ap t (sym same) ∙ q)))
        by_test same later false q = find-no t e es q ∙ (later ∙ sym (ap (λ c. only_if c e0) (ap t (sym same) ∙ q)))
    by_case ih false k = find-no t e es (fails r t narrow e k) ∙ ih (sym (find-no r e es k) ∙ h)

pub find-none : (r t : TableEntry → Bool) → ((e : TableEntry) → t e ≡ true → r e ≡ true) → (es : List TableEntry) → find r es ≡ None → find t es ≡ None
find-none r t narrow [] h = refl
find-none r t narrow (e ∷ es) h = by_case (find-none r t narrow es) (r e) refl
  where
    by_case : (find r es ≡ None → find t es ≡ None) → (b : Bool) → r e ≡ b → find t (e ∷ es) ≡ None
    by_case ih true k = absurd (let g = sym (find-yes r e es k) ∙ h in cc)
    by_case ih false k = find-no t e es (fails r t narrow e k) ∙ ih (sym (find-no r e es k) ∙ h)

find-as : (r t : TableEntry → Bool) (es : List TableEntry) → AllByRecursion (λ e. r e ≡ t e) es → find r es ≡ find t es
find-as r t [] all = refl
find-as r t (e ∷ es) all = by_case (find-as r t es all.1) (r e) refl
  where
    by_case : find r es ≡ find t es → (b : Bool) → r e ≡ b → find r (e ∷ es) ≡ find t (e ∷ es)
    by_case ih true h = find-yes r e es h ∙ sym (find-yes t e es (sym all.0 ∙ h))
    by_case ih false h = find-no r e es h ∙ (ih ∙ sym (find-no t e es (sym all.0 ∙ h)))

-- under its number the same entry is found
pub at-number : (r : TableEntry → Bool) → Sole r → (e0 : TableEntry) (es : List TableEntry) → AreApart es → find r es ≡ Some e0 → find (is_at e0.number) es ≡ Some e0
at-number r sole e0 es apart h =
    sym (find-as r (is_at e0.number) es (all-of (Alone r e0) (λ e. r e ≡ is_at e0.number e) (λ e one. one.test) es (alone r sole e0 es apart h))) ∙ h

pub remote-sole : (s : ℕ) → Sole (has_remote s)
remote-sole s e f two h = two.remote s h

-- ---- a confirmed channel of a client

pub stands-confirmed : (l : Ledger) (x : Channel) → ledger.LedgerRepresents l x → is_open_confirmed l ≡ is_confirmed x
stands-confirmed l x stands = by_state l.state stands
  where
    by_state : (st : State) → IsStateOf st x → is_answered st ≡ is_confirmed x
    by_state (Opened by window maximum) begun = sym (ap (any_act is_confirms) begun.fresh)
    by_state (Confirmed up down) accounts = sym accounts.answered

abbrev pub is_confirmed_at : ℕ → ℕ → TableEntry → Bool
is_confirmed_at k s e = is_channel_of k e && (has_remote s e && is_open_confirmed e.ledger)

-- the entry that the core finds, where it finds one
pub record ConfirmedEntry (es : List TableEntry) (k s n : ℕ) (l : Ledger) : Type 0 where
  pub entry : TableEntry
  pub number : entry.number ≡ n
  pub ledger : entry.ledger ≡ l
  pub found : find (has_remote s) es ≡ Some entry
  pub mine : is_channel_of k entry ≡ true
  pub answered : is_open_confirmed entry.ledger ≡ true
  pub only : find (is_confirmed_at k s) es ≡ Some entry
  pub at : find (is_at n) es ≡ Some entry

some-same : (a b : ℕ × Ledger) → Some a ≡ Some b → a ≡ b
some-same a b h = cc

narrow : (k s : ℕ) (e : TableEntry) → is_confirmed_at k s e ≡ true → has_remote s e ≡ true
narrow k s e h = and-left (has_remote s e) (is_open_confirmed e.ledger) (and-right (is_channel_of k e) (has_remote s e && is_open_confirmed e.ledger) h)

-- what a core looks up, by the entry that the server's number finds
looked : (es : List TableEntry) (k s : ℕ) (e0 : TableEntry) → AreApart es → find (has_remote s) es ≡ Some e0 → confirmed_for es k s ≡ if_confirmed k e0.number (Some e0.channel) (Some e0.ledger)
looked es k s e0 apart h =
    ap (confirmed_under es k) (ap (option_map (λ (e : TableEntry). e.number)) h)
    ∙ (ap (λ o. if_confirmed k e0.number (option_map (λ (e : TableEntry). e.channel) o) (ledger_at es e0.number)) (at-number (has_remote s) (remote-sole s) e0 es apart h)
    ∙ ap (λ o. if_confirmed k e0.number (Some e0.channel) (option_map (λ (e : TableEntry). e.ledger) o)) (at-number (has_remote s) (remote-sole s) e0 es apart h))

pub confirmed-entry : (es : List TableEntry) (k s n : ℕ) (l : Ledger) → AreApart es → confirmed_for es k s ≡ Some (n, l) → ConfirmedEntry es k s n l
confirmed-entry es k s n l apart h = by_found (find (has_remote s) es) refl
  where
    by_test : (e0 : TableEntry) → find (has_remote s) es ≡ Some e0 → (b : Bool) → ((e0.channel.client == k) && is_open_confirmed e0.ledger) ≡ b → (elim b as (λ _. Option (ℕ × Ledger)) [ true ↦ Some (e0.number, e0.ledger) | false ↦ None ]) ≡ Some (n, l) → ConfirmedEntry es k s n l
    by_test e0 f true t g =
        let pairs = some-same (e0.number, e0.ledger) (n, l) g in
        let number : e0.number ≡ n = ap (λ (q : ℕ × Ledger). q.0) pairs in
        let same : e0.ledger ≡ l = ap (λ (q : ℕ × Ledger). q.1) pairs in
        let mine = and-left (e0.channel.client == k) (is_open_confirmed e0.ledger) t in
        let answered = and-right (e0.channel.client == k) (is_open_confirmed e0.ledger) t in
        let passes_ : is_confirmed_at k s e0 ≡ true = ap (λ b. b && (has_remote s e0 && is_open_confirmed e0.ledger)) mine ∙ (ap (λ b. b && is_open_confirmed e0.ledger) (passes (has_remote s) e0 es f) ∙ answered) in
        record {
          entry = e0;
          number = number;
          ledger = same;
          found = f;
          mine = mine;
          answered = answered;
          only = find-narrow (has_remote s) (is_confirmed_at k s) (remote-sole s) (narrow k s) e0 es apart f ∙ ap (λ b. only_if b e0) passes_;
          at = subst (λ i. find (is_at i) es ≡ Some e0) number (at-number (has_remote s) (remote-sole s) e0 es apart f);
        }
    by_test e0 f false t g = absurd (cc)

    by_found : (o : Option TableEntry) → find (has_remote s) es ≡ o → ConfirmedEntry es k s n l
    by_found None f = absurd (let g : None ≡ Some (n, l) = sym (ap (confirmed_under es k) (ap (option_map (λ (e : TableEntry). e.number)) f)) ∙ h in cc)
    by_found (Some e0) f = by_test e0 f ((e0.channel.client == k) && is_open_confirmed e0.ledger) refl (sym (looked es k s e0 apart f) ∙ h)

-- where the core finds none, none is there
pub confirmed-none : (es : List TableEntry) (k s : ℕ) → AreApart es → confirmed_for es k s ≡ None → find (is_confirmed_at k s) es ≡ None
confirmed-none es k s apart h = by_found (find (has_remote s) es) refl
  where
    by_test : (e0 : TableEntry) → find (has_remote s) es ≡ Some e0 → (b : Bool) → ((e0.channel.client == k) && is_open_confirmed e0.ledger) ≡ b → (elim b as (λ _. Option (ℕ × Ledger)) [ true ↦ Some (e0.number, e0.ledger) | false ↦ None ]) ≡ None → find (is_confirmed_at k s) es ≡ None
    by_test e0 f true t g = absurd (cc)
    by_test e0 f false t g = find-narrow (has_remote s) (is_confirmed_at k s) (remote-sole s) (narrow k s) e0 es apart f ∙ ap (λ b. only_if b e0) (ap (λ b. is_channel_of k e0 && (b && is_open_confirmed e0.ledger)) (passes (has_remote s) e0 es f) ∙ t)

    by_found : (o : Option TableEntry) → find (has_remote s) es ≡ o → find (is_confirmed_at k s) es ≡ None
    by_found None f = find-none (has_remote s) (is_confirmed_at k s) (narrow k s) es f
    by_found (Some e0) f = by_test e0 f ((e0.channel.client == k) && is_open_confirmed e0.ledger) refl (sym (looked es k s e0 apart f) ∙ h)

-- the history finds what the core finds
abbrev is_theirs : ℕ → ℕ → Channel → Bool
is_theirs k s x = local.is_of k x && (is_number x.remote s && is_confirmed x)

same-test : (k s : ℕ) (e : TableEntry) (x : Channel) → Unit {0} → EntryFits e x → is_confirmed_at k s e ≡ is_theirs k s x
same-test k s e x u fits =
    ap (λ i. (i == k) && (has_remote s e && is_open_confirmed e.ledger)) fits.client
    ∙ (ap (λ o. (x.client == k) && (is_number o s && is_open_confirmed e.ledger)) fits.remote
    ∙ ap (λ b. (x.client == k) && (is_number x.remote s && b)) (stands-confirmed e.ledger x fits.ledger))

all-unit : (es : List TableEntry) → AllByRecursion (λ _. Unit {0}) es
all-unit [] = tt
all-unit (e ∷ es) = (tt, all-unit es)

pub confirmed-fit : (es : List TableEntry) (k s : ℕ) (rows : List Row) → ChannelsFit es (held_of rows) → FoundFit (find (is_confirmed_at k s) es) (confirmed_at (rows_of k rows) s)
confirmed-fit es k s rows fit =
    subst (FoundFit (find (is_confirmed_at k s) es))
    (sym (find-filter (local.is_of k) (λ x. is_number x.remote s && is_confirmed x) (held_of rows)) ∙ ap (find (λ (x : Channel). is_number x.remote s && is_confirmed x)) (held-local k rows))
    (found-fit (λ _. Unit {0}) (is_confirmed_at k s) (is_theirs k s) (same-test k s) es (held_of rows) (all-unit es) fit)
