-- A message that the server sends in a channel: which one, its row, and the table after it.
use Rattle.std.proofs.Common.{◌≡◌, ℕ, List, [], ◌∷◌, ◌++◌, length, map, true, false, Bool, refl, ◌∙◌, ap, sym, subst, Option, Some, None, Ok}
use Rattle.std.specs.Prelude.{filter, find, ◌==◌, ◌&&◌, option_map}
use Rattle.std.specs.List.{AllByRecursion}
use Rattle.std.proofs.lemmas.List.{append-nil}
use Rattle.ssh_grammar.specs.declared.side.Side.TheVariants.{Down}
use Rattle.mux_history.specs.Summary.{Act, Within, read_summary, reading}
use Rattle.mux_history.specs.Rows.{Fate, Goes, Heard, Row, is_admit, loses, rows_of}
use Rattle.mux_history.specs.Channels.{Channel, after_item, held_of, holder, is_channel_held, is_number, opened_down}
use Rattle.mux_history.specs.Forwardings.{Forwarding, of_client, forwarding_after_reply}
use Rattle.mux_history.specs.Laws.{with_act}
use Rattle.mux_history.specs.Requests.{asks_of, is_reply, is_sent, replies}
use Rattle.mux_history.specs.Said.{Outcome}
use Rattle.mux_history.specs.Treat.{bare_row}
use Rattle.mux_history.proofs.Bools.{is-of, same-number, self}
use Rattle.mux_history.proofs.Finds.{find-no, find-yes}
use Rattle.mux_history.proofs.Local as local
use Rattle.mux_history.proofs.Readings.{reading-ok}
use Rattle.mux_history.proofs.Sends.{and-left, and-right}
use Rattle.window_ledger.specs.declared.ledger.Ledger.{Ledger}
use Rattle.channel_table.specs.declared.channel.Channel as table
use Rattle.channel_table.specs.Entries.{TableEntry}
use Rattle.channel_table.specs.Entries.{AreApart, at_number, changed_at, is_at, is_channel_of, is_shown, ledger_at, shown_at, with_ledger}
use Rattle.channel_table.specs.Stands.{EntryFits, shown_number}
use Rattle.mux_core.specs.State.{CoreState}
use Rattle.mux_core.specs.Stands.{CoreRepresents, TableFits, is_member_known}
use Rattle.mux_core.specs.Lookups.{acted, both, channel_for, entry_stays_in}
use Rattle.mux_core.proofs.Acts.{ActsOn, DoesAct, acts-on}
use Rattle.mux_core.proofs.Apart.{Sole, all-filter, all-map, alone, passes}
use Rattle.mux_core.proofs.Bare.{after-heard, down_act, held-bare}
use Rattle.channel_table.proofs.EntryFits.{FoundFit, found-fit}
use Rattle.mux_core.proofs.Found.{at-number, find-filter, find-narrow, held-local, only_if}
use Rattle.mux_core.proofs.OpensJudged.{all-unit}
use Rattle.mux_core.proofs.Quiet.{IsQuiet}

-- ---- the channel that a number represents

pub shown-number : (n : ℕ) (e : TableEntry) → shown_at n e ≡ is_number (shown_number e) n
shown-number n e = by_shown (is_shown e.channel)
  where
    by_shown : (b : Bool) → ((e.number == n) && b) ≡ is_number (elim b as (λ _. Option ℕ) [ true ↦ Some e.number | false ↦ None ]) n
    by_shown true = right (e.number == n)
      where
        right : (b : Bool) → (b && true) ≡ b
        right true = refl
        right false = refl
    by_shown false = left (e.number == n)
      where
        left : (b : Bool) → (b && false) ≡ false
        left true = refl
        left false = refl

pub holder-fit : (s : CoreState) (n : ℕ) (rows : List Row) → CoreRepresents s rows → FoundFit (find (shown_at n) s.channels) (holder rows n)
holder-fit s n rows st = found-fit (λ _. Unit {0}) (shown_at n) (λ x. is_number x.number n) (λ e x u fits. shown-number n e ∙ ap (λ o. is_number o n) fits.number) s.channels (held_of rows) (all-unit s.channels) st.channels.fit

-- it is its client's own
pub own-holder : (k n : ℕ) (x : Channel) (rows : List Row) → holder rows n ≡ Some x → (x.client == k) ≡ true → holder (rows_of k rows) n ≡ Some x
own-holder k n x rows h mine =
    sym (ap (find (λ (y : Channel). is_number y.number n)) (held-local k rows)) ∙ (find-filter (local.is_of k) (λ y. is_number y.number n) (held_of rows) ∙ narrowed (held_of rows) h)
  where
    narrowed : (xs : List Channel) → find (λ (y : Channel). is_number y.number n) xs ≡ Some x → find (λ (y : Channel). local.is_of k y && is_number y.number n) xs ≡ Some x
    narrowed [] e = absurd (cc)
    narrowed (y ∷ ys) e = by_case (narrowed ys) (is_number y.number n) refl
      where
        by_case : (find (λ (y : Channel). is_number y.number n) ys ≡ Some x → find (λ (y : Channel). local.is_of k y && is_number y.number n) ys ≡ Some x) → (b : Bool) → is_number y.number n ≡ b → find (λ (y : Channel). local.is_of k y && is_number y.number n) (y ∷ ys) ≡ Some x
        by_case ih true t =
            let same : y ≡ x = let g = sym (find-yes (λ (y : Channel). is_number y.number n) y ys t) ∙ e in cc in
            find-yes (λ (y : Channel). local.is_of k y && is_number y.number n) y ys (ap (λ b. b && is_number y.number n) (ap (λ (z : Channel). z.client == k) same ∙ mine) ∙ t) ∙ ap Some same
        by_case ih false t = find-no (λ (y : Channel). local.is_of k y && is_number y.number n) y ys (right (local.is_of k y) (is_number y.number n) t) ∙ ih (sym (find-no (λ (y : Channel). is_number y.number n) y ys t) ∙ e)
          where
            right : (a b : Bool) → b ≡ false → (a && b) ≡ false
            right true b h = h
            right false b h = refl

-- ---- the row

-- a message that neither replies nor asks, and opens nothing
pub quiet-heard : (k n : ℕ) (a : Act) (p : List ℕ) (o : Outcome) → read_summary p ≡ Ok (Within n a) → o.ends ≡ Goes → IsQuiet (bare_row (Heard p) k o)
quiet-heard k n a p o e ends = record {
  asks = none (is_sent (bare_row (Heard p) k o));
  flags = refl;
  replies = ap (λ (b : Bool). elim b as (λ _. List (List ℕ)) [ true ↦ p ∷ [] | false ↦ [] ]) (reading-ok p (Within n a) is_reply false e);
  forwards = λ own fs. reading-ok p (Within n a) (λ m. map (of_client k (forwarding_after_reply (length (replies own)) m)) fs) fs e ∙ stay (length (replies own)) fs;
  keeps = ap (λ (f : Fate). loses (record { item = Heard p; client = k; up = o.sent; farewell = []; down = o.recorded; fate = f })) ends;
  admits = ap (λ (f : Fate). is_admit (record { item = Heard p; client = k; up = o.sent; farewell = []; down = o.recorded; fate = f })) ends;
}
  where
    none : (b : Bool) → asks_of k b None ≡ []
    none true = refl
    none false = refl

    stay : (place : ℕ) (fs : List Forwarding) → map (of_client k (forwarding_after_reply place (Within n a))) fs ≡ fs
    stay place [] = refl
    stay place (f ∷ fs) = ap (λ g. g ∷ map (of_client k (forwarding_after_reply place (Within n a))) fs) (elim (f.client == k) as (λ b. (elim b as (λ _. Forwarding) [ true ↦ f | false ↦ f ]) ≡ f) [ true ↦ refl | false ↦ refl ]) ∙ ap (λ gs. f ∷ gs) (stay place fs)

pub heard-channels : (k n : ℕ) (a : Act) (p : List ℕ) (o : Outcome) (rows : List Row) → read_summary p ≡ Ok (Within n a) → o.sent ≡ [] → held_of (bare_row (Heard p) k o ∷ rows) ≡ filter is_channel_held (map (down_act k n a) (held_of rows))
heard-channels k n a p o rows e none =
    held-bare (Heard p) k o rows
    ∙ ap (filter is_channel_held) (ap (λ ys. map (after_item (bare_row (Heard p) k o)) (held_of rows) ++ ys) begun ∙ (append-nil (map (after_item (bare_row (Heard p) k o)) (held_of rows)) ∙ ap (λ (g : Channel → Channel). map g (held_of rows)) (λ i x. after-heard k n a p o x none e i)))
  where
    begun : (elim (k == 0) as (λ _. List Channel) [ true ↦ [] | false ↦ reading p (opened_down k o.sent) [] ]) ≡ []
    begun = elim (k == 0) as (λ b. (elim b as (λ _. List Channel) [ true ↦ [] | false ↦ reading p (opened_down k o.sent) [] ]) ≡ []) [
      | true ↦ refl
      | false ↦ ap (λ (us : List (List ℕ)). reading p (opened_down k us) []) none ∙ reading-ok p (Within n a) (opened_down k []) [] e
    ]

abbrev pub is_theirs : ℕ → ℕ → TableEntry → Bool
is_theirs k n e = is_channel_of k e && shown_at n e

pub does : (k n : ℕ) (a : Act) → DoesAct Down a (is_theirs k n) (down_act k n a)
does k n a = record {
  it = λ e x fits h. it e x fits h;
  others = λ e x fits h. by_other e x fits h (x.client == k) refl;
}
  where
    same : (e : TableEntry) (x : Channel) → EntryFits e x → shown_at n e ≡ is_number x.number n
    same e x fits = shown-number n e ∙ ap (λ o. is_number o n) fits.number

    named : (x : Channel) (b c : Bool) → (x.client == k) ≡ b → (is_number x.number n && is_channel_held x) ≡ c → down_act k n a x ≡ elim b as (λ _. Channel) [ true ↦ elim c as (λ _. Channel) [ true ↦ with_act Down a x | false ↦ x ] | false ↦ x ]
    named x b c h h' = ap (λ (d : Bool). elim d as (λ _. Channel) [ true ↦ elim (is_number x.number n && is_channel_held x) as (λ _. Channel) [ true ↦ with_act Down a x | false ↦ x ] | false ↦ x ]) h ∙ ap (λ (d : Bool). elim b as (λ _. Channel) [ true ↦ elim d as (λ _. Channel) [ true ↦ with_act Down a x | false ↦ x ] | false ↦ x ]) h'

    it : (e : TableEntry) (x : Channel) → EntryFits e x → is_theirs k n e ≡ true → down_act k n a x ≡ with_act Down a x
    it e x fits h =
        let mine : (x.client == k) ≡ true = ap (λ i. i == k) (sym fits.client) ∙ and-left (is_channel_of k e) (shown_at n e) h in
        let there : (is_number x.number n && is_channel_held x) ≡ true = ap (λ b. b && is_channel_held x) (sym (same e x fits) ∙ and-right (is_channel_of k e) (shown_at n e) h) ∙ fits.held in
        named x true true mine there

    by_other : (e : TableEntry) (x : Channel) → EntryFits e x → is_theirs k n e ≡ false → (b : Bool) → (x.client == k) ≡ b → down_act k n a x ≡ x
    by_other e x fits h false c = named x false (is_number x.number n && is_channel_held x) c refl
    by_other e x fits h true c =
        let not_here : is_number x.number n ≡ false = sym (same e x fits) ∙ (ap (λ b. b && shown_at n e) (sym (ap (λ i. i == k) fits.client ∙ c)) ∙ h) in
        named x true false c (ap (λ b. b && is_channel_held x) not_here)

pub shown-sole : (n : ℕ) → Sole (shown_at n)
shown-sole n e f two h = by_number (f.number == n) refl
  where
    by_number : (b : Bool) → (f.number == n) ≡ b → shown_at n f ≡ false
    by_number false g = ap (λ b. b && is_shown f.channel) g
    by_number true g =
        let a : e.number ≡ n = same-number e.number n (and-left (e.number == n) (is_shown e.channel) h) in
        let b : f.number ≡ n = same-number f.number n g in
        absurd (let z : (e.number == f.number) ≡ true = is-of e.number f.number (a ∙ sym b) in let y = sym z ∙ two.number in cc)

pub sole : (k n : ℕ) → Sole (is_theirs k n)
sole k n e f two h = by_mine (is_channel_of k f) refl
  where
    by_mine : (b : Bool) → is_channel_of k f ≡ b → is_theirs k n f ≡ false
    by_mine true m = ap (λ b. b && shown_at n f) m ∙ shown-sole n e f two (and-right (is_channel_of k e) (shown_at n e) h)
    by_mine false m = ap (λ b. b && shown_at n f) m

pub theirs-found : (s : CoreState) (n : ℕ) (e0 : TableEntry) (rows : List Row) → CoreRepresents s rows → find (shown_at n) s.channels ≡ Some e0 → find (is_theirs e0.channel.client n) s.channels ≡ Some e0
theirs-found s n e0 rows st h =
    find-narrow (shown_at n) (is_theirs e0.channel.client n) (shown-sole n) (λ e t. right (is_channel_of e0.channel.client e) (shown_at n e) t) e0 s.channels st.channels.apart h
    ∙ ap (λ b. only_if b e0) (ap (λ b. b && shown_at n e0) (self e0.channel.client) ∙ passes (shown_at n) e0 s.channels h)
  where
    right : (b d : Bool) → (b && d) ≡ true → d ≡ true
    right true d h = h
    right false d h = cc

-- the table after it
pub heard-table : (s : CoreState) (n : ℕ) (a : Act) (p : List ℕ) (e0 : TableEntry) (l : Ledger) (over : Bool) (o : Outcome) (rows : List Row) → CoreRepresents s rows → find (shown_at n) s.channels ≡ Some e0 → ActsOn Down a e0.ledger l over → o.sent ≡ [] → read_summary p ≡ Ok (Within n a) → TableFits (acted e0.number l over s.channels) (held_of (bare_row (Heard p) e0.channel.client o ∷ rows))
heard-table s n a p e0 l over o rows st h acts none e =
    subst (TableFits (acted e0.number l over s.channels)) (sym (heard-channels e0.channel.client n a p o rows e none))
    (acts-on Down a (is_theirs e0.channel.client n) (down_act e0.channel.client n a) e0 l over s.channels (held_of rows) (does e0.channel.client n a) acts (alone (is_theirs e0.channel.client n) (sole e0.channel.client n) e0 s.channels st.channels.apart (theirs-found s n e0 rows st h)) st.channels)

pub still-known : (s : CoreState) (n : ℕ) (l : Ledger) (over : Bool) → AllByRecursion (λ e. is_member_known s.clients e.channel.client ≡ true) s.channels → AllByRecursion (λ e. is_member_known s.clients e.channel.client ≡ true) (acted n l over s.channels)
still-known s n l over known = all-filter Known (entry_stays_in n over) (changed_at n (with_ledger l) s.channels) (all-map Known Known (at_number n (with_ledger l)) still s.channels known)
  where
    Known : TableEntry → Type 0
    Known f = is_member_known s.clients f.channel.client ≡ true

    still : (f : TableEntry) → Known f → Known (at_number n (with_ledger l) f)
    still f known = elim (f.number == n) as (λ b. Known (elim b as (λ _. TableEntry) [ true ↦ with_ledger l f | false ↦ f ])) [ true ↦ known | false ↦ known ]

-- ---- what the core looks up

-- the entry that a number finds
pub record Shown (es : List TableEntry) (n : ℕ) (c : table.Channel) (l : Ledger) : Type 0 where
  pub entry : TableEntry
  pub number : entry.number ≡ n
  pub channel : entry.channel ≡ c
  pub ledger : entry.ledger ≡ l
  pub found : find (shown_at n) es ≡ Some entry

number-of : (n : ℕ) (e : TableEntry) → shown_at n e ≡ true → e.number ≡ n
number-of n e h = same-number e.number n (left (e.number == n) (is_shown e.channel) h)
  where
    left : (b c : Bool) → (b && c) ≡ true → b ≡ true
    left true c h = refl
    left false c h = cc

at-shown : (es : List TableEntry) (n : ℕ) (e0 : TableEntry) → AreApart es → find (shown_at n) es ≡ Some e0 → channel_for es n ≡ Some (e0.channel, e0.ledger)
at-shown es n e0 apart h =
    ap (λ o. both (option_map (λ (e : TableEntry). e.channel) o) (ledger_at es n)) h
    ∙ ap (λ o. both (Some e0.channel) (option_map (λ (e : TableEntry). e.ledger) o)) (subst (λ i. find (is_at i) es ≡ Some e0) (number-of n e0 (passes (shown_at n) e0 es h)) (at-number (shown_at n) (shown-sole n) e0 es apart h))

some-pair : (a b : table.Channel × Ledger) → Some a ≡ Some b → a ≡ b
some-pair a b h = cc

pub shown-entry : (es : List TableEntry) (n : ℕ) (c : table.Channel) (l : Ledger) → AreApart es → channel_for es n ≡ Some (c, l) → Shown es n c l
shown-entry es n c l apart h = by_found (find (shown_at n) es) refl
  where
    by_found : (o : Option TableEntry) → find (shown_at n) es ≡ o → Shown es n c l
    by_found None f = absurd (let g : None ≡ Some (c, l) = sym (ap (λ o. both (option_map (λ (e : TableEntry). e.channel) o) (ledger_at es n)) f) ∙ h in cc)
    by_found (Some e0) f =
        let pairs = some-pair (e0.channel, e0.ledger) (c, l) (sym (at-shown es n e0 apart f) ∙ h) in
        record { entry = e0; number = number-of n e0 (passes (shown_at n) e0 es f); channel = ap (λ (q : table.Channel × Ledger). q.0) pairs; ledger = ap (λ (q : table.Channel × Ledger). q.1) pairs; found = f }

pub shown-none : (es : List TableEntry) (n : ℕ) → AreApart es → channel_for es n ≡ None → find (shown_at n) es ≡ None
shown-none es n apart h = by_found (find (shown_at n) es) refl
  where
    by_found : (o : Option TableEntry) → find (shown_at n) es ≡ o → find (shown_at n) es ≡ None
    by_found None f = f
    by_found (Some e0) f = absurd (let g : Some (e0.channel, e0.ledger) ≡ None = sym (at-shown es n e0 apart f) ∙ h in cc)
