-- One act in the channel of one entry.
use Rattle.std.proofs.Common.{◌≡◌, ◌<◌, ℕ, List, [], ◌∷◌, map, true, false, Bool, refl, ◌∙◌, ap, sym, subst, arith}
use Rattle.std.specs.Prelude.{filter, not, ◌==◌, ◌&&◌, ◌||◌}
use Rattle.std.specs.List.{AllByRecursion}
use Rattle.ssh_grammar.specs.declared.side.Side.{Side}
use Rattle.mux_history.specs.Summary.{Act}
use Rattle.mux_history.specs.Channels.{Channel, any_act, is_fails, is_channel_held}
use Rattle.mux_history.specs.Laws.{with_act}
use Rattle.mux_history.specs.Said.{is_failing}
use Rattle.window_ledger.specs.Act.{summary_act_of}
use Rattle.window_ledger.specs.declared.act.Act as said
use Rattle.window_ledger.specs.declared.act.Act.TheVariants.{Data, Grant, Eof, Close, Request, Reply}
use Rattle.window_ledger.specs.declared.ledger.Ledger.{Ledger}
use Rattle.window_ledger.specs.Stands.{LedgerGoesOn, both_closed, is_open_confirmed}
use Rattle.window_ledger.specs.Stands as ledger
use Rattle.channel_table.specs.declared.channel.Channel as table
use Rattle.channel_table.specs.Entries.{TableEntry}
use Rattle.channel_table.specs.Entries.{at_number, changed_at, with_ledger}
use Rattle.channel_table.specs.Stands.{EntryFits}
use Rattle.mux_history.specs.declared.limits.TheConstants.{NUMBERS_END}
use Rattle.mux_core.specs.Stands.{HasSmall, TableFits, has_numbers, is_whole}
use Rattle.mux_core.specs.Lookups.{acted, entry_stays_in}
use Rattle.mux_core.proofs.Apart.{Alone, KeepsNumbers, all-filter, all-map, apart-filter, apart-map, count-filter, count-map}
use Rattle.channel_table.proofs.EntryFits.{Goes, changed-fit}

-- what is known of the ledger after it
pub record ActsOn (way : Side) (a : Act) (old new : Ledger) (over : Bool) : Type 0 where
  pub goes : LedgerGoesOn old new way a
  pub ends : (x : Channel) → ledger.LedgerRepresents new x → over ≡ both_closed x
  pub confirmed : is_open_confirmed new ≡ is_open_confirmed old
  pub fine : is_fails a ≡ false

-- a channel that was held is held after an act that is no failure, unless that closes it
pub held-after : (way : Side) (a : Act) (x : Channel) → is_fails a ≡ false → is_channel_held x ≡ true → is_channel_held (with_act way a x) ≡ not (both_closed (with_act way a x))
held-after way a x fine held = by_fails (any_act is_fails x.acts) refl
  where
    by_fails : (b : Bool) → any_act is_fails x.acts ≡ b → is_channel_held (with_act way a x) ≡ not (both_closed (with_act way a x))
    by_fails true e = absurd (let c : is_channel_held x ≡ false = rw (e, is_channel_held) refl in let d = sym held ∙ c in cc)
    by_fails false e = ap (λ b. not ((b || any_act is_fails x.acts) || both_closed (with_act way a x))) fine ∙ ap (λ b. not (b || both_closed (with_act way a x))) e

keeps-ledger : (n : ℕ) (l : Ledger) → KeepsNumbers (at_number n (with_ledger l))
keeps-ledger n l e = elim (e.number == n) as (λ b. ((elim b as (λ _. TableEntry) [ true ↦ with_ledger l e | false ↦ e ]).number ≡ e.number) × ((elim b as (λ _. TableEntry) [ true ↦ with_ledger l e | false ↦ e ]).channel ≡ e.channel)) [ true ↦ (refl, refl) | false ↦ (refl, refl) ]

at-it : (n : ℕ) (l : Ledger) (e : TableEntry) → (e.number == n) ≡ true → at_number n (with_ledger l) e ≡ with_ledger l e
at-it n l e h = rw (h, at_number) refl

at-other : (n : ℕ) (l : Ledger) (e : TableEntry) → (e.number == n) ≡ false → at_number n (with_ledger l) e ≡ e
at-other n l e h = rw (h, at_number) refl

-- a change of channels that is this act in the channel of the entry, and leaves the others
pub record DoesAct (way : Side) (a : Act) (r : TableEntry → Bool) (g : Channel → Channel) : Type 0 where
  pub it : (e : TableEntry) (x : Channel) → EntryFits e x → r e ≡ true → g x ≡ with_act way a x
  pub others : (e : TableEntry) (x : Channel) → EntryFits e x → r e ≡ false → g x ≡ x

fits-after : (way : Side) (a : Act) (e0 : TableEntry) (l : Ledger) (over : Bool) (x : Channel) → ActsOn way a e0.ledger l over → EntryFits e0 x → over ≡ false → EntryFits (with_ledger l e0) (with_act way a x)
fits-after way a e0 l over x acts fits open_ =
    let stands = acts.goes x fits.ledger in
    record {
      client = fits.client;
      by = fits.by;
      own = fits.own;
      number = fits.number;
      remote = fits.remote;
      ledger = stands;
      held = held-after way a x acts.fine fits.held ∙ ap not (sym (acts.ends (with_act way a x) stands) ∙ open_);
    }

goes-one : (way : Side) (a : Act) (r : TableEntry → Bool) (g : Channel → Channel) (e0 : TableEntry) (l : Ledger) (over : Bool) → DoesAct way a r g → ActsOn way a e0.ledger l over → (e : TableEntry) (x : Channel) → Alone r e0 e → EntryFits e x → Goes (entry_stays_in e0.number over) (at_number e0.number (with_ledger l) e) (g x)
goes-one way a r g e0 l over does acts e x one fits = by_number (e.number == e0.number) refl
  where
    here : (e.number == e0.number) ≡ true → EntryFits e0 x
    here h = subst (λ f. EntryFits f x) (one.same h) fits

    after_ : (e.number == e0.number) ≡ true → (o : Bool) → over ≡ o → Goes (entry_stays_in e0.number over) (with_ledger l e) (with_act way a x)
    after_ h false o = record {
      stays = λ _. subst (λ f. EntryFits (with_ledger l f) (with_act way a x)) (sym (one.same h)) (fits-after way a e0 l over x acts (here h) o);
      gone = λ k. absurd (let c : entry_stays_in e0.number over (with_ledger l e) ≡ true = ap (λ b. not (b && (e.number == e0.number))) o in let d = sym k ∙ c in cc);
    }
    after_ h true o = record {
      stays = λ k. absurd (let c : entry_stays_in e0.number over (with_ledger l e) ≡ false = ap (λ b. not (b && (e.number == e0.number))) o ∙ ap not h in let d = sym k ∙ c in cc);
      gone = λ _. held-after way a x acts.fine fits.held ∙ ap not (sym (acts.ends (with_act way a x) (acts.goes x (here h).ledger)) ∙ o);
    }

    by_number : (b : Bool) → (e.number == e0.number) ≡ b → Goes (entry_stays_in e0.number over) (at_number e0.number (with_ledger l) e) (g x)
    by_number true h = subst (λ f. Goes (entry_stays_in e0.number over) f (g x)) (sym (at-it e0.number l e h)) (subst (Goes (entry_stays_in e0.number over) (with_ledger l e)) (sym (does.it e x fits (one.test ∙ h))) (after_ h over refl))
    by_number false h = subst (λ f. Goes (entry_stays_in e0.number over) f (g x)) (sym (at-other e0.number l e h)) (subst (Goes (entry_stays_in e0.number over) e) (sym (does.others e x fits (one.test ∙ h))) (record {
      stays = λ _. fits;
      gone = λ k. absurd (let c : entry_stays_in e0.number over e ≡ true = ap (λ b. not (over && b)) h ∙ never over in let d = sym k ∙ c in cc);
    }))
      where
        never : (b : Bool) → not (b && false) ≡ true
        never true = refl
        never false = refl

whole-after : (e0 : TableEntry) (l : Ledger) (r : TableEntry → Bool) → is_open_confirmed l ≡ is_open_confirmed e0.ledger → (e : TableEntry) → Alone r e0 e → is_whole e ≡ true → is_whole (at_number e0.number (with_ledger l) e) ≡ true
whole-after e0 l r same e one whole = by_number (e.number == e0.number) refl
  where
    by_number : (b : Bool) → (e.number == e0.number) ≡ b → is_whole (at_number e0.number (with_ledger l) e) ≡ true
    by_number true h =
        subst (λ f. is_whole f ≡ true) (sym (at-it e0.number l e h)) (ap (λ c. has_numbers c e.channel.by e.channel.own e.channel.remote) (same ∙ ap (λ (f : TableEntry). is_open_confirmed f.ledger) (sym (one.same h))) ∙ whole)
    by_number false h = subst (λ f. is_whole f ≡ true) (sym (at-other e0.number l e h)) whole

-- the table goes on by it
pub acts-on : (way : Side) (a : Act) (r : TableEntry → Bool) (g : Channel → Channel) (e0 : TableEntry) (l : Ledger) (over : Bool) (es : List TableEntry) (xs : List Channel) → DoesAct way a r g → ActsOn way a e0.ledger l over → AllByRecursion (Alone r e0) es → TableFits es xs → TableFits (acted e0.number l over es) (filter is_channel_held (map g xs))
acts-on way a r g e0 l over es xs does acts one fits = record {
  fit = changed-fit (Alone r e0) (entry_stays_in e0.number over) (at_number e0.number (with_ledger l)) g (goes-one way a r g e0 l over does acts) es xs one fits.fit;
  apart = apart-filter (entry_stays_in e0.number over) (changed_at e0.number (with_ledger l) es) (apart-map (at_number e0.number (with_ledger l)) (keeps-ledger e0.number l) es fits.apart);
  few = λ k. let a = count-filter (entry_stays_in e0.number over) k (changed_at e0.number (with_ledger l) es) in let b = count-map (at_number e0.number (with_ledger l)) (keeps-ledger e0.number l) k es in let c = fits.few k in omega arith;
  whole = all-filter (λ e. is_whole e ≡ true) (entry_stays_in e0.number over) (changed_at e0.number (with_ledger l) es) (all-whole es one fits.whole);
  small = all-filter HasSmall (entry_stays_in e0.number over) (changed_at e0.number (with_ledger l) es) (all-map HasSmall HasSmall (at_number e0.number (with_ledger l)) (λ e h s g. h s (ap (λ (c : table.Channel). c.remote) (sym (keeps-ledger e0.number l e).1) ∙ g)) es fits.small);
  below = all-filter (λ e. e.number < NUMBERS_END) (entry_stays_in e0.number over) (changed_at e0.number (with_ledger l) es) (all-map (λ e. e.number < NUMBERS_END) (λ e. e.number < NUMBERS_END) (at_number e0.number (with_ledger l)) (λ e h. subst (λ n. n < NUMBERS_END) (sym (keeps-ledger e0.number l e).0) h) es fits.below);
}
  where
    all-whole : (fs : List TableEntry) → AllByRecursion (Alone r e0) fs → AllByRecursion (λ e. is_whole e ≡ true) fs → AllByRecursion (λ e. is_whole e ≡ true) (changed_at e0.number (with_ledger l) fs)
    all-whole [] one whole = tt
    all-whole (f ∷ fs) one whole = (whole-after e0 l r acts.confirmed f one.0 whole.0, all-whole fs one.1 whole.1)

-- where the account isn't closed all entries stay
pub all-stay : (n : ℕ) (es : List TableEntry) → filter (entry_stays_in n false) es ≡ es
all-stay n [] = refl
all-stay n (e ∷ es) = ap (λ fs. e ∷ fs) (all-stay n es)

pub plain-act : (a : said.Act) → is_fails (summary_act_of a) ≡ false
plain-act (Data n) = refl
plain-act (Grant n) = refl
plain-act Eof = refl
plain-act Close = refl
plain-act (Request w) = refl
plain-act Reply = refl

pub no-failure : (a : said.Act) → is_failing (summary_act_of a) ≡ false
no-failure (Data n) = refl
no-failure (Grant n) = refl
no-failure Eof = refl
no-failure Close = refl
no-failure (Request w) = refl
no-failure Reply = refl
