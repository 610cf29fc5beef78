-- An open that a client sends: its own number, how many channels there are, and how it is judged.
use Rattle.std.proofs.Common.{◌≡◌, ℕ, List, [], ◌∷◌, length, true, false, Bool, refl, ◌∙◌, ap, sym, subst, Option, Some, None, Ok, suc}
use Rattle.std.specs.Prelude.{filter, find, ◌==◌, ◌&&◌, not, is_some, option_map, nat_lt}
use Rattle.std.specs.List.{AllByRecursion}
use Rattle.ssh_grammar.specs.declared.numbers.TheConstants.{RESOURCE_SHORTAGE}
use Rattle.ssh_grammar.specs.Messages.{Opens}
use Rattle.ssh_grammar.specs.SpellMessage.{open_failure, too_many_channels}
use Rattle.ssh_grammar.specs.Frames.{frame_payload}
use Rattle.proxy_frames.specs.State.{QueueState}
use Rattle.mux_history.specs.declared.limits.TheConstants.{MAX_CHANNELS}
use Rattle.mux_history.specs.declared.why.Why.TheVariants as why
use Rattle.mux_history.specs.Summary.{Open, read_summary}
use Rattle.mux_history.specs.Policy.{may_open}
use Rattle.mux_history.specs.Rows.{Row, rows_of}
use Rattle.mux_history.specs.Channels.{Channel, held_of, is_number, with_own}
use Rattle.mux_history.specs.Said.{Outcome, drops, fails_open, on_unused, open_outcome, sent_payload, sends_as, sends_open, records, reason_for, text_for}
use Rattle.mux_history.proofs.Finds.{filter-no, filter-yes}
use Rattle.mux_history.proofs.Local as local
use Rattle.channel_table.specs.Entries.{TableEntry}
use Rattle.channel_table.specs.Entries.{channel_count_of, has_own, is_channel_of, full_refusal, number_of_own, own_refusal, unless}
use Rattle.channel_table.specs.declared.channel.Refused.{Refused}
use Rattle.channel_table.specs.declared.channel.Refused.TheVariants as refused
use Rattle.channel_table.specs.Stands.{ChannelsFit}
use Rattle.mux_core.specs.declared.verdict.Verdict.{Verdict}
use Rattle.mux_core.specs.declared.verdict.Verdict.TheVariants as verdict
use Rattle.mux_core.specs.State.{CoreState, is_member_served}
use Rattle.mux_core.specs.Stands.{CoreRepresents}
use Rattle.mux_core.specs.Opening.{kind_verdict, open_verdict}
use Rattle.mux_core.specs.Calls.{CoreSendsIn}
use Rattle.channel_table.proofs.EntryFits.{FoundFit, found-fit}
use Rattle.mux_core.proofs.Found.{find-filter, held-local}
use Rattle.mux_core.proofs.Says.{AsksNothing, answered-row}
use Rattle.mux_core.proofs.SendsWithin.{dropped-row, said-ok}

pub all-unit : (es : List TableEntry) → AllByRecursion (λ _. Unit {0}) es
all-unit [] = tt
all-unit (e ∷ es) = (tt, all-unit es)

-- an open asks nothing of all
pub asks-nothing : (what : Opens) (c w m : ℕ) → AsksNothing (Open what c w m)
asks-nothing what c w m = record { wants = refl; requests = λ k place fs. refl }

-- ---- the client's own number

own-fit : (es : List TableEntry) (k c : ℕ) (rows : List Row) → ChannelsFit es (held_of rows) → FoundFit (find (has_own k c) es) (with_own (rows_of k rows) c)
own-fit es k c rows fit =
    subst (FoundFit (find (has_own k c) es))
    (sym (find-filter (local.is_of k) (λ x. is_number x.own c) (held_of rows)) ∙ ap (find (λ (x : Channel). is_number x.own c)) (held-local k rows))
    (found-fit (λ _. Unit {0}) (has_own k c) (λ x. local.is_of k x && is_number x.own c) (λ e x u fits. ap (λ i. (i == k) && is_number e.channel.own c) fits.client ∙ ap (λ o. (x.client == k) && is_number o c) fits.own) es (held_of rows) (all-unit es) fit)

-- in use, or not
abbrev pub used : Option Channel → Bool
used None = false
used (Some x) = true

same-use : (o : Option TableEntry) (p : Option Channel) → FoundFit o p → is_some (option_map (λ (e : TableEntry). e.number) o) ≡ used p
same-use None None fit = refl
same-use None (Some x) fit = absurd fit
same-use (Some e) None fit = absurd fit
same-use (Some e) (Some x) fit = refl

pub by-use : (c : ℕ) (o : Outcome) (p : Option Channel) → used p ≡ true → on_unused c o p ≡ drops (why.OwnInUse c)
by-use c o None h = cc
by-use c o (Some x) h = refl

pub by-none : (c : ℕ) (o : Outcome) (p : Option Channel) → used p ≡ false → on_unused c o p ≡ o
by-none c o None h = refl
by-none c o (Some x) h = cc

pub uses : (s : CoreState) (k c : ℕ) (rows : List Row) → CoreRepresents s rows → is_some (number_of_own s.channels k c) ≡ used (with_own (rows_of k rows) c)
uses s k c rows st = same-use (find (has_own k c) s.channels) (with_own (rows_of k rows) c) (own-fit s.channels k c rows st.channels.fit)

-- ---- one that is judged at once

does-open : (s : CoreState) (k pick c w m : ℕ) (what : Opens) (p : List ℕ) (rows : List Row) → read_summary p ≡ Ok (Open what c w m) → sent_payload s.policy k (rows_of k rows) pick p ≡ on_unused c (open_outcome s.policy (rows_of k rows) pick p c what) (with_own (rows_of k rows) c)
does-open s k pick c w m what p rows e = said-ok s.policy k pick (rows_of k rows) p (Open what c w m) e

pub judged : (s : CoreState) (k c w m : ℕ) (what : Opens) (p : List ℕ) (up : QueueState) (v : Verdict) (rows : List Row) → CoreRepresents s rows → is_member_served s.clients k ≡ true → read_summary p ≡ Ok (Open what c w m) → open_verdict s k c what ≡ Some v → CoreSendsIn s s k p 0 up up v rows
judged s k c w m what p up v rows st serves e judges = by_use (is_some (number_of_own s.channels k c)) refl judges
  where
    answer : (a : List ℕ) → sent_payload s.policy k (rows_of k rows) 0 p ≡ records (frame_payload a) → CoreSendsIn s s k p 0 up up (verdict.Answer a) rows
    answer a does = answered-row s k 0 p (Open what c w m) a up rows st serves e (asks-nothing what c w m) does

    by_kind : used (with_own (rows_of k rows) c) ≡ false → sent_payload s.policy k (rows_of k rows) 0 p ≡ on_unused c (open_outcome s.policy (rows_of k rows) 0 p c what) (with_own (rows_of k rows) c) → kind_verdict s c what ≡ Some v → CoreSendsIn s s k p 0 up up v rows
    by_kind free does j = by_permit (may_open s.policy what) refl j
      where
        by_permit : (b : Bool) → may_open s.policy what ≡ b → (elim b as (λ _. Option Verdict) [ true ↦ None | false ↦ Some (verdict.Answer (open_failure c (reason_for what) (text_for what))) ]) ≡ Some v → CoreSendsIn s s k p 0 up up v rows
        by_permit true h j = absurd (cc)
        by_permit false h j =
            let same : verdict.Answer (open_failure c (reason_for what) (text_for what)) ≡ v = cc in
            subst (λ u. CoreSendsIn s s k p 0 up up u rows) same (answer (open_failure c (reason_for what) (text_for what)) (does ∙ (by-none c (open_outcome s.policy (rows_of k rows) 0 p c what) (with_own (rows_of k rows) c) free ∙ ap (λ (b : Bool). elim b as (λ _. Outcome) [ true ↦ sends_open (rows_of k rows) 0 p c | false ↦ fails_open c (reason_for what) (text_for what) ]) h)))

    by_use : (b : Bool) → is_some (number_of_own s.channels k c) ≡ b → (elim b as (λ _. Option Verdict) [ true ↦ Some (verdict.Drop (why.OwnInUse c)) | false ↦ kind_verdict s c what ]) ≡ Some v → CoreSendsIn s s k p 0 up up v rows
    by_use true h j =
        let same : verdict.Drop (why.OwnInUse c) ≡ v = cc in
        subst (λ u. CoreSendsIn s s k p 0 up up u rows) same (dropped-row s k 0 p up (why.OwnInUse c) rows (does-open s k 0 c w m what p rows e ∙ by-use c (open_outcome s.policy (rows_of k rows) 0 p c what) (with_own (rows_of k rows) c) (sym (uses s k c rows st) ∙ h)))
    by_use false h j = by_kind (sym (uses s k c rows st) ∙ h) (does-open s k 0 c w m what p rows e) j

-- ---- how many channels

pub count-fit : (k : ℕ) (es : List TableEntry) (xs : List Channel) → ChannelsFit es xs → length (filter (local.is_of k) xs) ≡ channel_count_of es k
count-fit k [] [] fit = refl
count-fit k [] (x ∷ xs) fit = absurd fit
count-fit k (e ∷ es) [] fit = absurd fit
count-fit k (e ∷ es) (x ∷ xs) fit = by_case (count-fit k es xs fit.1) (is_channel_of k e) refl
  where
    same : local.is_of k x ≡ is_channel_of k e
    same = ap (λ i. i == k) (sym fit.0.client)

    by_case : length (filter (local.is_of k) xs) ≡ channel_count_of es k → (b : Bool) → is_channel_of k e ≡ b → length (filter (local.is_of k) (x ∷ xs)) ≡ channel_count_of (e ∷ es) k
    by_case ih true h = ap length (filter-yes (local.is_of k) x xs (same ∙ h)) ∙ (ap (λ n. suc n) ih ∙ sym (ap length (filter-yes (is_channel_of k) e es h)))
    by_case ih false h = ap length (filter-no (local.is_of k) x xs (same ∙ h)) ∙ (ih ∙ sym (ap length (filter-no (is_channel_of k) e es h)))

pub own-count : (s : CoreState) (k : ℕ) (rows : List Row) → CoreRepresents s rows → length (held_of (rows_of k rows)) ≡ channel_count_of s.channels k
own-count s k rows st = ap length (sym (held-local k rows)) ∙ count-fit k s.channels (held_of rows) st.channels.fit

-- what becomes of one that may be sent
pub may-go : (s : CoreState) (k pick c w m : ℕ) (what : Opens) (p : List ℕ) (rows : List Row) → CoreRepresents s rows → read_summary p ≡ Ok (Open what c w m) → open_verdict s k c what ≡ None → sent_payload s.policy k (rows_of k rows) pick p ≡ sends_open (rows_of k rows) pick p c
may-go s k pick c w m what p rows st e judges = by_use (is_some (number_of_own s.channels k c)) refl judges
  where
    by_kind : used (with_own (rows_of k rows) c) ≡ false → sent_payload s.policy k (rows_of k rows) pick p ≡ on_unused c (open_outcome s.policy (rows_of k rows) pick p c what) (with_own (rows_of k rows) c) → kind_verdict s c what ≡ None → sent_payload s.policy k (rows_of k rows) pick p ≡ sends_open (rows_of k rows) pick p c
    by_kind free does j = by_permit (may_open s.policy what) refl j
      where
        by_permit : (b : Bool) → may_open s.policy what ≡ b → (elim b as (λ _. Option Verdict) [ true ↦ None | false ↦ Some (verdict.Answer (open_failure c (reason_for what) (text_for what))) ]) ≡ None → sent_payload s.policy k (rows_of k rows) pick p ≡ sends_open (rows_of k rows) pick p c
        by_permit true h j = does ∙ (by-none c (open_outcome s.policy (rows_of k rows) pick p c what) (with_own (rows_of k rows) c) free ∙ ap (λ (b : Bool). elim b as (λ _. Outcome) [ true ↦ sends_open (rows_of k rows) pick p c | false ↦ fails_open c (reason_for what) (text_for what) ]) h)
        by_permit false h j = absurd (cc)

    by_use : (b : Bool) → is_some (number_of_own s.channels k c) ≡ b → (elim b as (λ _. Option Verdict) [ true ↦ Some (verdict.Drop (why.OwnInUse c)) | false ↦ kind_verdict s c what ]) ≡ None → sent_payload s.policy k (rows_of k rows) pick p ≡ sends_open (rows_of k rows) pick p c
    by_use true h j = absurd (cc)
    by_use false h j = by_kind (sym (uses s k c rows st) ∙ h) (does-open s k pick c w m what p rows e) j

-- 256 channels are there
pub no-room : (s : CoreState) (k c w m : ℕ) (what : Opens) (p : List ℕ) (up : QueueState) (rows : List Row) → CoreRepresents s rows → is_member_served s.clients k ≡ true → read_summary p ≡ Ok (Open what c w m) → open_verdict s k c what ≡ None → nat_lt (channel_count_of s.channels k) MAX_CHANNELS ≡ false → CoreSendsIn s s k p 0 up up (verdict.Answer (open_failure c RESOURCE_SHORTAGE too_many_channels)) rows
no-room s k c w m what p up rows st serves e judges full =
    answered-row s k 0 p (Open what c w m) (open_failure c RESOURCE_SHORTAGE too_many_channels) up rows st serves e (asks-nothing what c w m)
    (may-go s k 0 c w m what p rows st e judges ∙ ap (λ (b : Bool). elim b as (λ _. Outcome) [ true ↦ sends_as 0 p | false ↦ fails_open c RESOURCE_SHORTAGE too_many_channels ]) (ap (λ n. nat_lt n MAX_CHANNELS) (own-count s k rows st) ∙ full))

-- ---- the table's answers

unless-false : (b : Bool) (w : Refused) (later : Option Refused) → b ≡ false → unless b w later ≡ later
unless-false true w later h = absurd (cc)
unless-false false w later h = refl

-- the own number of one that may be sent is free
pub free-own : (s : CoreState) (k c : ℕ) (what : Opens) → open_verdict s k c what ≡ None → is_some (number_of_own s.channels k c) ≡ false
free-own s k c what h = by_use (is_some (number_of_own s.channels k c)) h
  where
    by_use : (b : Bool) → (elim b as (λ _. Option Verdict) [ true ↦ Some (verdict.Drop (why.OwnInUse c)) | false ↦ kind_verdict s c what ]) ≡ None → b ≡ false
    by_use true h = absurd (cc)
    by_use false h = refl

pub none-own : (s : CoreState) (k c : ℕ) → is_some (number_of_own s.channels k c) ≡ false → find (has_own k c) s.channels ≡ None
none-own s k c h = by_found (find (has_own k c) s.channels) h
  where
    by_found : (o : Option TableEntry) → is_some (option_map (λ (e : TableEntry). e.number) o) ≡ false → o ≡ None
    by_found None h = refl
    by_found (Some e) h = absurd (cc)

-- what refuses it is want of room alone
pub refused-full : (s : CoreState) (k c : ℕ) → is_some (number_of_own s.channels k c) ≡ false → own_refusal s.channels k c ≡ unless (not (nat_lt (channel_count_of s.channels k) MAX_CHANNELS)) (refused.Full (channel_count_of s.channels k)) None
refused-full s k c free = unless-false (is_some (number_of_own s.channels k c)) refused.OwnInUse (full_refusal s.channels k) free

pub has-room : (s : CoreState) (k c : ℕ) → is_some (number_of_own s.channels k c) ≡ false → own_refusal s.channels k c ≡ None → nat_lt (channel_count_of s.channels k) MAX_CHANNELS ≡ true
has-room s k c free h = by_room (nat_lt (channel_count_of s.channels k) MAX_CHANNELS) (sym (refused-full s k c free) ∙ h)
  where
    by_room : (b : Bool) → unless (not b) (refused.Full (channel_count_of s.channels k)) None ≡ None → b ≡ true
    by_room true h = refl
    by_room false h = absurd (cc)

pub is-full : (s : CoreState) (k c n : ℕ) → is_some (number_of_own s.channels k c) ≡ false → own_refusal s.channels k c ≡ Some (refused.Full n) → nat_lt (channel_count_of s.channels k) MAX_CHANNELS ≡ false
is-full s k c n free h = by_room (nat_lt (channel_count_of s.channels k) MAX_CHANNELS) (sym (refused-full s k c free) ∙ h)
  where
    by_room : (b : Bool) → unless (not b) (refused.Full (channel_count_of s.channels k)) None ≡ Some (refused.Full n) → b ≡ false
    by_room true h = absurd (cc)
    by_room false h = refl
