-- An open of a client that is sent: the table has one more entry.
use Rattle.std.proofs.Common.{◌≡◌, ◌≤◌, ◌<◌, ◌+◌, ℕ, List, [], ◌∷◌, ◌++◌, length, true, false, Bool, refl, ◌∙◌, ap, sym, subst, Option, Some, None, Ok, arith}
use Rattle.std.specs.Prelude.{filter, find, ◌==◌, ◌&&◌, ◌||◌, not, nat_lt}
use Rattle.std.specs.List.{AllByRecursion}
use Rattle.std.proofs.lemmas.List.{append-nil}
use Rattle.std.proofs.lemmas.List.Elements.{filter-append}
use Rattle.std.proofs.lemmas.Bool.Decides.{nat_tests}
use Rattle.ssh_fields.specs.Fields.{AreBytes}
use Rattle.ssh_grammar.specs.declared.numbers.TheConstants.{RESOURCE_SHORTAGE}
use Rattle.ssh_grammar.specs.declared.side.Side.TheVariants.{Up}
use Rattle.ssh_grammar.specs.Messages.{Opens}
use Rattle.ssh_grammar.specs.SpellMessage.{too_many_channels, with_sender}
use Rattle.ssh_grammar.specs.Frames.{frame_payload}
use Rattle.ssh_grammar.specs.Said.{Payload}
use Rattle.proxy_frames.specs.State.{QueueState}
use Rattle.proxy_frames.specs.Queued.{with_bytes}
use Rattle.mux_history.specs.declared.limits.TheConstants.{MAX_CHANNELS, NUMBERS_END}
use Rattle.mux_history.specs.Summary.{Open, read_summary, reading, summary_sender_of}
use Rattle.mux_history.specs.Rows.{Row, Says, rows_of}
use Rattle.mux_history.specs.Channels.{Channel, after_item, held_of, holder, is_channel_held, is_number, opened_up, with_up}
use Rattle.mux_history.specs.Said.{Outcome, fails_open, sent_payload, sends_payload, sends_as}
use Rattle.mux_history.proofs.Bools.{same-number}
use Rattle.mux_history.proofs.Finds.{filter-no, filter-yes}
use Rattle.mux_history.proofs.Readings.{reading-ok}
use Rattle.mux_history.proofs.Renumbered.{SenderIn, number-sent, reads-sent, sender-in, spelled, word}
use Rattle.window_ledger.specs.declared.ledger.Ledger.{Ledger}
use Rattle.window_ledger.specs.Stands.{IsSideBegun, is_open_confirmed}
use Rattle.window_ledger.specs.Stands as ledger
use Rattle.channel_table.specs.Entries.{TableEntry}
use Rattle.channel_table.specs.Entries.{AreApart, AreTwo, IsNumberFree, channel_count_of, has_own, is_at, is_channel_of, is_shown, own_entry}
use Rattle.channel_table.specs.Stands.{ChannelsFit, EntryFits, shown_number}
use Rattle.mux_core.specs.declared.verdict.Verdict.TheVariants as verdict
use Rattle.mux_core.specs.State.{MemberState, CoreState, is_member_served}
use Rattle.mux_core.specs.Stands.{HasSmall, CoreRepresents, TableFits, has_numbers, is_member_known, is_whole, look}
use Rattle.mux_core.specs.Opening.{open_verdict}
use Rattle.mux_core.specs.Calls.{CoreSendsIn, SendsRow}
use Rattle.mux_core.proofs.Apart.{none-pass}
use Rattle.mux_core.proofs.Bare.{held-bare}
use Rattle.channel_table.proofs.EntryFits.{FoundFit, found-fit, more-fit}
use Rattle.mux_core.proofs.Found.{find-none}
use Rattle.mux_core.proofs.OpensJudged.{all-unit, asks-nothing, may-go, own-count}
use Rattle.mux_core.proofs.Says.{held-held, map-same, quiet-says, sent_as, records-own}
use Rattle.mux_core.proofs.Served.{IsServed, quiet-stands, served}

-- ---- one more entry

pub all-append : (P : TableEntry → Type 0) (e : TableEntry) → P e → (es : List TableEntry) → AllByRecursion P es → AllByRecursion P (es ++ e ∷ [])
all-append P e one [] all = (one, tt)
all-append P e one (f ∷ fs) all = (all.0, all-append P e one fs all.1)

pub apart-append : (e : TableEntry) (es : List TableEntry) → AreApart es → AllByRecursion (λ f. AreTwo f e) es → AreApart (es ++ e ∷ [])
apart-append e [] apart two = (tt, tt)
apart-append e (f ∷ fs) apart two = (all-append (AreTwo f) e two.0 fs apart.0, apart-append e fs apart.1 two.1)

pub count-append : (k : ℕ) (e : TableEntry) (es : List TableEntry) → (is_channel_of k e ≡ true → channel_count_of (es ++ e ∷ []) k ≡ channel_count_of es k + 1) × (is_channel_of k e ≡ false → channel_count_of (es ++ e ∷ []) k ≡ channel_count_of es k)
count-append k e [] = (λ h. ap length (filter-yes (is_channel_of k) e [] h) ∙ omega arith, λ h. ap length (filter-no (is_channel_of k) e [] h))
count-append k e (f ∷ fs) = by_case (count-append k e fs) (is_channel_of k f) refl
  where
    by_case : (is_channel_of k e ≡ true → channel_count_of (fs ++ e ∷ []) k ≡ channel_count_of fs k + 1) × (is_channel_of k e ≡ false → channel_count_of (fs ++ e ∷ []) k ≡ channel_count_of fs k) → (b : Bool) → is_channel_of k f ≡ b → (is_channel_of k e ≡ true → channel_count_of (f ∷ (fs ++ e ∷ [])) k ≡ channel_count_of (f ∷ fs) k + 1) × (is_channel_of k e ≡ false → channel_count_of (f ∷ (fs ++ e ∷ [])) k ≡ channel_count_of (f ∷ fs) k)
    by_case ih true h = (λ g. rw (filter-yes (is_channel_of k) f (fs ++ e ∷ []) h, filter-yes (is_channel_of k) f fs h) (let i = ih.0 g in omega arith), λ g. rw (filter-yes (is_channel_of k) f (fs ++ e ∷ []) h, filter-yes (is_channel_of k) f fs h) (let i = ih.1 g in omega arith))
    by_case ih false h = (λ g. rw (filter-no (is_channel_of k) f (fs ++ e ∷ []) h, filter-no (is_channel_of k) f fs h) (ih.0 g), λ g. rw (filter-no (is_channel_of k) f (fs ++ e ∷ []) h, filter-no (is_channel_of k) f fs h) (ih.1 g))

pub few-append : (k : ℕ) (e : TableEntry) (es : List TableEntry) → (is_channel_of k e ≡ true → channel_count_of es k < MAX_CHANNELS) → channel_count_of es k ≤ MAX_CHANNELS → channel_count_of (es ++ e ∷ []) k ≤ MAX_CHANNELS
few-append k e es room few = by_case (is_channel_of k e) refl
  where
    by_case : (b : Bool) → is_channel_of k e ≡ b → channel_count_of (es ++ e ∷ []) k ≤ MAX_CHANNELS
    by_case true h = let a = (count-append k e es).0 h in let r = room h in omega arith
    by_case false h = let a = (count-append k e es).1 h in omega arith

-- ---- one that is sent

-- a free number holds nothing
pub free-held : (s : CoreState) (n : ℕ) (rows : List Row) → CoreRepresents s rows → IsNumberFree s.channels n → holder rows n ≡ None
free-held s n rows st free = by_found (holder rows n) refl fit
  where
    narrow : (e : TableEntry) → is_number (shown_number e) n ≡ true → is_at n e ≡ true
    narrow e h = by_shown (is_shown e.channel) h
      where
        by_shown : (b : Bool) → is_number (elim b as (λ _. Option ℕ) [ true ↦ Some e.number | false ↦ None ]) n ≡ true → is_at n e ≡ true
        by_shown true h = h
        by_shown false h = absurd (cc)

    none : find (λ (e : TableEntry). is_number (shown_number e) n) s.channels ≡ None
    none = find-none (is_at n) (λ e. is_number (shown_number e) n) narrow s.channels free.unused

    fit : FoundFit None (holder rows n)
    fit = subst (λ o. FoundFit o (holder rows n)) none (found-fit (λ _. Unit {0}) (λ e. is_number (shown_number e) n) (λ x. is_number x.number n) (λ e x u fits. ap (λ o. is_number o n) fits.number) s.channels (held_of rows) (all-unit s.channels) st.channels.fit)

    by_found : (o : Option Channel) → holder rows n ≡ o → FoundFit None (holder rows n) → holder rows n ≡ None
    by_found None h f = h
    by_found (Some x) h f = absurd (subst (FoundFit None) h f)

-- the new entry shares no number with the others
two-new : (es : List TableEntry) (n k c : ℕ) (l : Ledger) → IsNumberFree es n → find (has_own k c) es ≡ None → AllByRecursion (λ f. AreTwo f (own_entry n k c l)) es
two-new es n k c l free unused = both es (none-pass (is_at n) es free.unused) (none-pass (has_own k c) es unused)
  where
    one : (f : TableEntry) → is_at n f ≡ false → has_own k c f ≡ false → AreTwo f (own_entry n k c l)
    one f other mine = record {
      number = other;
      remote = λ s h. refl;
      own = λ d same h. by_number d (c == d) refl same h;
    }
      where
        by_number : (d : ℕ) (b : Bool) → (c == d) ≡ b → (f.channel.client == k) ≡ true → is_number f.channel.own d ≡ true → (c == d) ≡ false
        by_number d true e same h =
            let at : c ≡ d = same-number c d e in
            let here : has_own k c f ≡ true = ap (λ b. b && is_number f.channel.own c) same ∙ (ap (λ i. is_number f.channel.own i) at ∙ h) in
            absurd (let z = sym here ∙ mine in cc)
        by_number d false e same h = e

    both : (fs : List TableEntry) → AllByRecursion (λ e. is_at n e ≡ false) fs → AllByRecursion (λ e. has_own k c e ≡ false) fs → AllByRecursion (λ f. AreTwo f (own_entry n k c l)) fs
    both [] a b = tt
    both (f ∷ fs) a b = (one f a.0 b.0, both fs a.1 b.1)

-- the client is known
pub served-known : (k : ℕ) (cs : List MemberState) → is_member_served cs k ≡ true → is_member_known cs k ≡ true
served-known k [] h = h
served-known k (c ∷ cs) h = by_case (served-known k cs) (c.number == k) refl c.lost refl
  where
    by_case : (is_member_served cs k ≡ true → is_member_known cs k ≡ true) → (b : Bool) → (c.number == k) ≡ b → (d : Bool) → c.lost ≡ d → is_member_known (c ∷ cs) k ≡ true
    by_case ih true n d e = ap (λ b. b || is_member_known cs k) n
    by_case ih false n d e = ap (λ b. b || is_member_known cs k) n ∙ ih (sym (ap (λ b. (b && not c.lost) || is_member_served cs k) n) ∙ h)

-- the table has the new channel
opened-table : (s : CoreState) (k n c w m : ℕ) (what : Opens) (p : List ℕ) (l : Ledger) (rows : List Row) → CoreRepresents s rows → AreBytes p → n < 4294967296 → read_summary p ≡ Ok (Open what c w m) → IsNumberFree s.channels n → find (has_own k c) s.channels ≡ None → channel_count_of s.channels k < MAX_CHANNELS → is_open_confirmed l ≡ false → ((x : Channel) → IsSideBegun Up w m x → ledger.LedgerRepresents l x) → TableFits (s.channels ++ own_entry n k c l ∷ []) (held_of (sent_as k p (sends_payload (with_sender p n)) ∷ rows))
opened-table s k n c w m what p l rows st bytes small e free unused room waits begins = record {
  fit = subst (ChannelsFit (s.channels ++ own_entry n k c l ∷ [])) (sym held) (more-fit (own_entry n k c l) channel fits s.channels (held_of rows) st.channels.fit);
  apart = apart-append (own_entry n k c l) s.channels st.channels.apart (two-new s.channels n k c l free unused);
  few = λ j. few-append j (own_entry n k c l) s.channels (λ h. subst (λ i. channel_count_of s.channels i < MAX_CHANNELS) (same-number k j h) room) (st.channels.few j);
  whole = all-append (λ e. is_whole e ≡ true) (own_entry n k c l) (ap (λ b. has_numbers b Up (Some c) None) waits) s.channels st.channels.whole;
  small = all-append HasSmall (own_entry n k c l) (λ r h. absurd (cc)) s.channels st.channels.small;
  below = all-append (λ e. e.number < NUMBERS_END) (own_entry n k c l) free.below s.channels st.channels.below;
}
  where
    q : List ℕ
    q = with_sender p n

    sender : SenderIn p (Open what c w m)
    sender = sender-in p (Open what c w m) c bytes e refl

    number : reading (with_sender p n) summary_sender_of None ≡ Some n
    number = number-sent p (Open what c w m) sender n ∙ ap Some (spelled n small)

    reads : read_summary (with_sender p n) ≡ Ok (Open what (word n) w m)
    reads = reads-sent p (Open what c w m) sender n

    channel : Channel
    channel = record { client = k; by = Up; own = Some c; number = reading (with_sender p n) summary_sender_of None; remote = None; window = w; maximum = m; acts = [] }

    fits : EntryFits (own_entry n k c l) (record { client = k; by = Up; own = Some c; number = reading (with_sender p n) summary_sender_of None; remote = None; window = w; maximum = m; acts = [] })
    fits = record { client = refl; by = refl; own = refl; number = sym number; remote = refl; ledger = begins _ (record { opener = refl; first = refl; longest = refl; fresh = refl }); held = refl }

    stays : (x : Channel) → after_item (sent_as k p (sends_payload (with_sender p n))) x ≡ x
    stays x =
        ap (λ (y : Channel). elim (x.client == k) as (λ _. Channel) [ true ↦ y | false ↦ x ]) (reading-ok (with_sender p n) (Open what (word n) w m) (λ g. with_up (reading p summary_sender_of None) g x) x reads)
        ∙ (elim (x.client == k) as (λ b. (elim b as (λ _. Channel) [ true ↦ x | false ↦ x ]) ≡ x) [ true ↦ refl | false ↦ refl ])

    held : held_of (sent_as k p (sends_payload (with_sender p n)) ∷ rows) ≡ held_of rows ++ record { client = k; by = Up; own = Some c; number = reading (with_sender p n) summary_sender_of None; remote = None; window = w; maximum = m; acts = [] } ∷ []
    held =
        held-bare (Says k (Payload p) None) k (sends_payload (with_sender p n)) rows
        ∙ (ap (filter is_channel_held) (ap (λ ys. ys ++ reading p (opened_up k (with_sender p n ∷ [])) []) (map-same (after_item (sent_as k p (sends_payload (with_sender p n)))) stays (held_of rows)) ∙ ap (λ ys. held_of rows ++ ys) (reading-ok p (Open what c w m) (opened_up k (with_sender p n ∷ [])) [] e))
        ∙ (filter-append is_channel_held (held_of rows) (record { client = k; by = Up; own = Some c; number = reading (with_sender p n) summary_sender_of None; remote = None; window = w; maximum = m; acts = [] } ∷ [])
        ∙ ap (λ ys. ys ++ record { client = k; by = Up; own = Some c; number = reading (with_sender p n) summary_sender_of None; remote = None; window = w; maximum = m; acts = [] } ∷ []) (held-held rows)))

pub goes-up : (s : CoreState) (k n c w m : ℕ) (what : Opens) (p : List ℕ) (l : Ledger) (up : QueueState) (new : CoreState) (rows : List Row) → CoreRepresents s rows → is_member_served s.clients k ≡ true → AreBytes p → read_summary p ≡ Ok (Open what c w m) → open_verdict s k c what ≡ None → IsNumberFree s.channels n → find (has_own k c) s.channels ≡ None → nat_lt (channel_count_of s.channels k) MAX_CHANNELS ≡ true → is_open_confirmed l ≡ false → ((x : Channel) → IsSideBegun Up w m x → ledger.LedgerRepresents l x) → new ≡ record s { channels = s.channels ++ own_entry n k c l ∷ [] } → CoreSendsIn s new k p n up (with_bytes (frame_payload (with_sender p n)) up) verdict.Sent rows
goes-up s k n c w m what p l up new rows st serves bytes e judges free unused room waits begins after =
    let small : n < 4294967296 = let b = free.below in omega arith in
    let few : channel_count_of s.channels k < MAX_CHANNELS = grind (arith, nat_tests) in
    let q = quiet-says k p (Open what c w m) (sends_payload (with_sender p n)) e (asks-nothing what c w m) refl in
    let is : IsServed k (look rows) = served (look rows) k s.clients st.clients.each serves in
    let does : sent_payload s.policy k (rows_of k rows) n p ≡ sends_payload (with_sender p n) = may-go s k n c w m what p rows st e judges ∙ ap (λ (b : Bool). elim b as (λ _. Outcome) [ true ↦ sends_as n p | false ↦ fails_open c RESOURCE_SHORTAGE too_many_channels ]) (ap (λ i. nat_lt i MAX_CHANNELS) (own-count s k rows st) ∙ room) in
    let stands : CoreRepresents new (sent_as k p (sends_payload (with_sender p n)) ∷ rows) = subst (λ u. CoreRepresents u (sent_as k p (sends_payload (with_sender p n)) ∷ rows)) (sym after) (quiet-stands s (s.channels ++ own_entry n k c l ∷ []) (sent_as k p (sends_payload (with_sender p n))) rows st q is (opened-table s k n c w m what p l rows st bytes small e free unused few waits begins) (all-append (λ f. is_member_known s.clients f.channel.client ≡ true) (own_entry n k c l) (served-known k s.clients serves) s.channels st.known.channels)) in
    subst (λ o. SendsRow s new (sent_as k p o) n up (with_bytes (frame_payload (with_sender p n)) up) verdict.Sent rows) (sym does) (record {
      sent = ap (λ (bs : List ℕ). let q : QueueState = record up { waiting = up.waiting ++ bs } in q) (sym (append-nil (frame_payload (with_sender p n))));
      shows = (refl, refl, records-own (sent_as k p (sends_payload (with_sender p n))) q (rows_of k rows));
      fresh = λ h. record { below = free.below; unheld = free-held s n rows st free };
      stands = stands;
    })
