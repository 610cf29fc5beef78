-- The table after a farewell represents the channels after it, and what is known of each of them.
use Rattle.std.proofs.Common.{◌≡◌, ◌<◌, ℕ, List, [], ◌∷◌, map, true, false, Bool, refl, ◌∙◌, ap, sym, subst, Option, Some, None, arith}
use Rattle.std.specs.Prelude.{◌==◌, ◌&&◌, is_some, is_none}
use Rattle.std.specs.List.{AllByRecursion}
use Rattle.ssh_grammar.specs.declared.side.Side.{Side}
use Rattle.ssh_grammar.specs.declared.side.Side.TheVariants.{Up, Down}
use Rattle.mux_history.specs.declared.limits.TheConstants.{NUMBERS_END}
use Rattle.mux_history.specs.Channels.{Channel, is_number, is_up}
use Rattle.window_ledger.specs.Stands.{is_open_confirmed}
use Rattle.window_ledger.specs.Leaving.{is_account_over, has_sent_close}
use Rattle.window_ledger.specs.Leaving as account
use Rattle.window_ledger.proofs.Leaves.{left-answered}
use Rattle.channel_table.specs.declared.channel.Channel as table
use Rattle.channel_table.specs.Entries.{TableEntry}
use Rattle.channel_table.specs.Entries.{AreApart, AreTwo}
use Rattle.channel_table.specs.Stands.{ChannelsFit, EntryFits}
use Rattle.client_teardown.specs.Leaving.{left_entries, left_entry, stays}
use Rattle.client_teardown.specs.Laws.{left_channels}
use Rattle.client_teardown.proofs.Meaning.{table-left}
use Rattle.mux_core.specs.Stands.{HasSmall, TableFits, has_numbers, is_whole}
use Rattle.mux_core.proofs.Apart.{KeepsNumbers, all-filter, all-map, apart-filter, apart-map, count-filter, count-map}
use Rattle.mux_core.proofs.Found.{stands-confirmed}
use Rattle.mux_core.proofs.Leaves.{AllDiffer, Differ, Leaving}

-- ---- one entry

-- the entry with CLOSE sent, where it may be
abbrev closing : TableEntry → TableEntry
closing e = record e { ledger = account.ledger_after_close e.ledger }

keeps-left : (k : ℕ) → KeepsNumbers (left_entry k)
keeps-left k e = elim (e.channel.client == k) as (λ b. ((elim b as (λ _. TableEntry) [ true ↦ closing e | false ↦ e ]).number ≡ e.number) × ((elim b as (λ _. TableEntry) [ true ↦ closing e | false ↦ e ]).channel ≡ e.channel)) [ true ↦ (refl, refl) | false ↦ (refl, refl) ]

whole-left : (k : ℕ) (e : TableEntry) → is_whole e ≡ true → is_whole (left_entry k e) ≡ true
whole-left k e h = elim (e.channel.client == k) as (λ b. is_whole (elim b as (λ _. TableEntry) [ true ↦ closing e | false ↦ e ]) ≡ true) [
  | true ↦ ap (λ c. has_numbers c e.channel.by e.channel.own e.channel.remote) (left-answered e.ledger.state) ∙ h
  | false ↦ h
]

-- what holds of an entry by its numbers and its channel holds after the farewell
pub all-left-in : (P : TableEntry → Type 0) (k : ℕ) → ((e : TableEntry) → P e → P (left_entry k e)) → (es : List TableEntry) → AllByRecursion P es → AllByRecursion P (left_entries k es)
all-left-in P k keeps es all = all-filter P (stays k) (map (left_entry k) es) (all-map P P (left_entry k) keeps es all)

pub left-table : (k : ℕ) (es : List TableEntry) (xs : List Channel) → TableFits es xs → TableFits (left_entries k es) (left_channels k xs)
left-table k es xs fits = record {
  fit = table-left k es xs fits.fit;
  apart = apart-filter (stays k) (map (left_entry k) es) (apart-map (left_entry k) (keeps-left k) es fits.apart);
  few = λ j. let a = count-filter (stays k) j (map (left_entry k) es) in let b = count-map (left_entry k) (keeps-left k) j es in let c = fits.few j in omega arith;
  whole = all-left-in (λ e. is_whole e ≡ true) k (whole-left k) es fits.whole;
  small = all-left-in HasSmall k (λ e h s g. h s (ap (λ (c : table.Channel). c.remote) (sym (keeps-left k e).1) ∙ g)) es fits.small;
  below = all-left-in (λ e. e.number < NUMBERS_END) k (λ e h. subst (λ n. n < NUMBERS_END) (sym (keeps-left k e).0) h) es fits.below;
}

pub client-left : (k : ℕ) (e : TableEntry) → (left_entry k e).channel.client ≡ e.channel.client
client-left k e = ap (λ (c : table.Channel). c.client) (keeps-left k e).1

-- ---- what is known of each channel

some-number : (o : Option ℕ) → is_some o ≡ true → is_none o ≡ false
some-number None h = absurd (cc)
some-number (Some n) h = refl

leaving-one : (e : TableEntry) (x : Channel) → EntryFits e x → is_whole e ≡ true → HasSmall e → Leaving x
leaving-one e x fits whole small = record {
  small = λ s h. small s (fits.remote ∙ h);
  held = fits.held;
  both = λ h. ap is_none (sym fits.remote) ∙ some-number e.channel.remote (by_answered (is_open_confirmed e.ledger) e.channel.by (stands-confirmed e.ledger x fits.ledger ∙ h) whole);
  opened = λ h. ap is_none (sym fits.remote) ∙ some-number e.channel.remote (by_opener (is_open_confirmed e.ledger) e.channel.by (ap is_up fits.by ∙ h) whole);
}
  where
    right : (a b : Bool) → (a && b) ≡ true → b ≡ true
    right true b h = h
    right false b h = absurd (cc)

    by_answered : (c : Bool) (by : Side) → c ≡ true → has_numbers c by e.channel.own e.channel.remote ≡ true → is_some e.channel.remote ≡ true
    by_answered true by h w = right (is_some e.channel.own) (is_some e.channel.remote) w
    by_answered false by h w = absurd (cc)

    by_opener : (c : Bool) (by : Side) → is_up by ≡ false → has_numbers c by e.channel.own e.channel.remote ≡ true → is_some e.channel.remote ≡ true
    by_opener true by h w = right (is_some e.channel.own) (is_some e.channel.remote) w
    by_opener false Up h w = absurd (cc)
    by_opener false Down h w = right (is_none e.channel.own) (is_some e.channel.remote) w

pub all-leaving : (es : List TableEntry) (xs : List Channel) → ChannelsFit es xs → AllByRecursion (λ e. is_whole e ≡ true) es → AllByRecursion HasSmall es → AllByRecursion Leaving xs
all-leaving [] [] fit w s = tt
all-leaving [] (x ∷ xs) fit w s = absurd fit
all-leaving (e ∷ es) [] fit w s = absurd fit
all-leaving (e ∷ es) (x ∷ xs) fit w s = (leaving-one e x fit.0 w.0 s.0, all-leaving es xs fit.1 w.1 s.1)

differ-one : (e f : TableEntry) (x y : Channel) → EntryFits e x → EntryFits f y → AreTwo e f → Differ x y × Differ y x
differ-one e f x y p q two = (there, λ s h. by_case s h (is_number x.remote s) refl)
  where
    there : Differ x y
    there s h = ap (λ o. is_number o s) (sym q.remote) ∙ two.remote s (ap (λ o. is_number o s) p.remote ∙ h)

    by_case : (s : ℕ) → is_number y.remote s ≡ true → (b : Bool) → is_number x.remote s ≡ b → is_number x.remote s ≡ false
    by_case s h false e = e
    by_case s h true e = absurd (let c = sym h ∙ there s e in cc)

pub all-differ : (es : List TableEntry) (xs : List Channel) → ChannelsFit es xs → AreApart es → AllDiffer xs
all-differ [] [] fit apart = tt
all-differ [] (x ∷ xs) fit apart = absurd fit
all-differ (e ∷ es) [] fit apart = absurd fit
all-differ (e ∷ es) (x ∷ xs) fit apart = (others es xs fit.1 apart.0, all-differ es xs fit.1 apart.1)
  where
    others : (fs : List TableEntry) (ys : List Channel) → ChannelsFit fs ys → AllByRecursion (AreTwo e) fs → AllByRecursion (λ y. Differ x y × Differ y x) ys
    others [] [] f t = tt
    others [] (y ∷ ys) f t = absurd f
    others (g ∷ gs) [] f t = absurd f
    others (g ∷ gs) (y ∷ ys) f t = (differ-one e g x y fit.0 f.0 t.0, others gs ys f.1 t.1)
