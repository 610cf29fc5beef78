-- A client confirms a server's open.
use Rattle.std.proofs.Common.{◌≡◌, ◌<◌, ℕ, List, [], ◌∷◌, ◌++◌, map, true, false, Bool, refl, ◌∙◌, ap, sym, subst, Option, Some, None, Ok, arith}
use Rattle.std.specs.Prelude.{filter, find, ◌&&◌, ◌||◌, ◌==◌, not, is_some, is_none}
use Rattle.std.specs.List.{AllByRecursion}
use Rattle.std.proofs.lemmas.List.{append-nil}
use Rattle.ssh_fields.specs.Fields.{AreBytes}
use Rattle.ssh_grammar.specs.declared.side.Side.{Side}
use Rattle.ssh_grammar.specs.declared.side.Side.TheVariants.{Up, Down}
use Rattle.ssh_grammar.specs.Frames.{frame_payload}
use Rattle.ssh_grammar.specs.SpellMessage.{with_sender}
use Rattle.ssh_grammar.specs.Said.{Payload}
use Rattle.proxy_frames.specs.State.{QueueState}
use Rattle.proxy_frames.specs.Queued.{with_bytes}
use Rattle.mux_history.specs.declared.limits.TheConstants.{NUMBERS_END}
use Rattle.mux_history.specs.declared.why.Why.TheVariants as why
use Rattle.mux_history.specs.Summary.{Confirmation, Confirms, read_summary, summary_sender_of}
use Rattle.mux_history.specs.Rows.{Row, Says, rows_of}
use Rattle.mux_history.specs.Channels.{Channel, after_item, held_of, holder, is_channel_held, is_number, is_up, opened_up, with_own, with_up, with_ups}
use Rattle.mux_history.specs.Laws.{with_act}
use Rattle.mux_history.specs.Ledger.{other_side}
use Rattle.mux_history.specs.Said.{on_unused, on_waiting, sent_payload, sends_payload, sends_as}
use Rattle.mux_history.proofs.Bools.{is-of, same-number}
use Rattle.mux_history.proofs.Readings.{reading-ok}
use Rattle.mux_history.proofs.Renumbered.{SenderIn, reads-sent, sender-in, spelled}
use Rattle.mux_history.proofs.Sends.{and-left, and-right}
use Rattle.window_ledger.specs.declared.ledger.Ledger.{Ledger}
use Rattle.window_ledger.specs.Stands.{IsConfirmed, is_open_confirmed}
use Rattle.window_ledger.specs.Stands as ledger
use Rattle.window_ledger.proofs.Named.{stands-named}
use Rattle.channel_table.specs.Entries.{TableEntry}
use Rattle.channel_table.specs.Entries.{AreApart, changed_at, has_own, has_remote, is_at, is_channel_of, is_shown, number_of_own, shown_at}
use Rattle.mux_core.proofs.Confirms.{confirm_own}
use Rattle.channel_table.specs.Stands.{EntryFits}
use Rattle.mux_core.specs.declared.verdict.Verdict.TheVariants as verdict
use Rattle.mux_core.specs.State.{CoreState, is_member_served}
use Rattle.mux_core.specs.Stands.{HasSmall, CoreRepresents, TableFits, has_numbers, is_member_known, is_whole, look}
use Rattle.mux_core.specs.Lookups.{awaits_answer, open_waiting_for}
use Rattle.mux_core.specs.Calls.{IsFreshNumber, CoreSendsIn, SendsRow}
use Rattle.mux_core.proofs.Altered.{TakesOwn, altered-table, apart-own}
use Rattle.mux_core.proofs.Apart.{Alone, all-map, alone, found-of, none-pass, passes}
use Rattle.mux_core.proofs.Awaiting.{WaitingEntry, waiting-entry}
use Rattle.mux_core.proofs.Bare.{held-bare}
use Rattle.channel_table.proofs.EntryFits.{FoundFit}
use Rattle.mux_core.proofs.Found.{find-narrow, only_if}
use Rattle.mux_core.proofs.ChannelReceived.{holder-fit}
use Rattle.mux_core.proofs.OpensJudged.{all-unit, by-none, by-use, none-own, uses}
use Rattle.mux_core.proofs.Says.{AsksNothing, quiet-says, sent_as, records-own}
use Rattle.mux_core.proofs.SendsFailure.{nobody-waits, theirs-found, waits}
use Rattle.mux_core.proofs.SendsWithin.{dropped-row, said-ok}
use Rattle.mux_core.proofs.Served.{IsServed, quiet-stands, served}
use Rattle.mux_core.proofs.Within.{is_theirs, sole}

asks-nothing : (s c w m : ℕ) → AsksNothing (Confirmation s c w m)
asks-nothing s c w m = record { wants = refl; requests = λ k place fs. refl }

-- ---- what it does to the channels

abbrev taken : ℕ → ℕ → ℕ → ℕ → Channel → Channel
taken c n w m x = record x { own = Some c; number = Some n; acts = (Up, Confirms w m) ∷ x.acts }

abbrev takes : ℕ → ℕ → ℕ → ℕ → ℕ → ℕ → Channel → Channel
takes k s c n w m x = elim (x.client == k) [
  | true ↦ elim (is_number x.remote s && is_channel_held x) as (λ _. Channel) [ true ↦ taken c n w m x | false ↦ x ]
  | false ↦ x
]

taken-channels : (k s c n w m : ℕ) (p : List ℕ) (rows : List Row) → AreBytes p → n < 4294967296 → read_summary p ≡ Ok (Confirmation s c w m) → held_of (sent_as k p (sends_payload (with_sender p n)) ∷ rows) ≡ filter is_channel_held (map (takes k s c n w m) (held_of rows))
taken-channels k s c n w m p rows bytes small e =
    held-bare (Says k (Payload p) None) k (sends_payload (with_sender p n)) rows
    ∙ ap (filter is_channel_held) (ap (λ ys. map (after_item (sent_as k p (sends_payload (with_sender p n)))) (held_of rows) ++ ys) (reading-ok p (Confirmation s c w m) (opened_up k (with_sender p n ∷ [])) [] e) ∙ (append-nil (map (after_item (sent_as k p (sends_payload (with_sender p n)))) (held_of rows)) ∙ ap (λ (g : Channel → Channel). map g (held_of rows)) (λ i x. one x i)))
  where
    sender : SenderIn p (Confirmation s c w m)
    sender = sender-in p (Confirmation s c w m) c bytes e refl

    reads : read_summary (with_sender p n) ≡ Ok (Confirmation s n w m)
    reads = reads-sent p (Confirmation s c w m) sender n ∙ ap (λ i. Ok (Confirmation s i w m)) (spelled n small)

    one : (x : Channel) → after_item (sent_as k p (sends_payload (with_sender p n))) x ≡ takes k s c n w m x
    one x =
        ap (λ (o : Option ℕ). elim (x.client == k) as (λ _. Channel) [ true ↦ with_ups o (with_sender p n ∷ []) x | false ↦ x ]) (reading-ok p (Confirmation s c w m) summary_sender_of None e)
        ∙ ap (λ y. elim (x.client == k) as (λ _. Channel) [ true ↦ y | false ↦ x ]) (reading-ok (with_sender p n) (Confirmation s n w m) (λ g. with_up (Some c) g x) x reads)

-- ---- the entry

not-false : (b : Bool) → not b ≡ true → b ≡ false
not-false true h = absurd (cc)
not-false false h = refl

down-is : (by : Side) → is_up by ≡ false → by ≡ Down
down-is Up h = absurd (cc)
down-is Down h = refl

or-true : (b : Bool) → (b || true) ≡ true
or-true true = refl
or-true false = refl

not-up : (e0 : TableEntry) → awaits_answer e0.channel e0.ledger ≡ true → is_up e0.channel.by ≡ false
not-up e0 pend = not-false (is_up e0.channel.by) (and-left (not (is_up e0.channel.by)) (not (is_open_confirmed e0.ledger)) pend)

idle : (e0 : TableEntry) → awaits_answer e0.channel e0.ledger ≡ true → is_open_confirmed e0.ledger ≡ false
idle e0 pend = not-false (is_open_confirmed e0.ledger) (and-right (not (is_up e0.channel.by)) (not (is_open_confirmed e0.ledger)) pend)

taken-fits : (e0 : TableEntry) (c w m : ℕ) (l : Ledger) (x : Channel) → awaits_answer e0.channel e0.ledger ≡ true → IsConfirmed e0.ledger l w m → EntryFits e0 x → EntryFits (confirm_own c l e0) (taken c e0.number w m x)
taken-fits e0 c w m l x pend confirms fits = record {
  client = fits.client;
  by = fits.by;
  own = refl;
  remote = fits.remote;
  number = ap (λ b. elim b as (λ _. Option ℕ) [ true ↦ Some e0.number | false ↦ None ]) (or-true (is_up e0.channel.by));
  ledger = stands-named (Some c) (Some e0.number) x.remote l (with_act Up (Confirms w m) x) (subst (λ (d : Side). ledger.LedgerRepresents l (with_act d (Confirms w m) x)) (ap other_side (down-is x.by (ap is_up (sym fits.by) ∙ not-up e0 pend))) (confirms x fits.ledger));
  held = fits.held;
}

numbers-of : (e0 : TableEntry) → awaits_answer e0.channel e0.ledger ≡ true → is_whole e0 ≡ true → (is_none e0.channel.own && is_some e0.channel.remote) ≡ true
numbers-of e0 pend whole = by_opener (is_open_confirmed e0.ledger) e0.channel.by (idle e0 pend) (not-up e0 pend) whole
  where
    by_opener : (b : Bool) (by : Side) → b ≡ false → is_up by ≡ false → has_numbers b by e0.channel.own e0.channel.remote ≡ true → (is_none e0.channel.own && is_some e0.channel.remote) ≡ true
    by_opener true by h u w = absurd (cc)
    by_opener false Up h u w = absurd (cc)
    by_opener false Down h u w = w

whole-taken : (e0 : TableEntry) (c : ℕ) (l : Ledger) → awaits_answer e0.channel e0.ledger ≡ true → is_open_confirmed l ≡ true → is_whole e0 ≡ true → is_whole (confirm_own c l e0) ≡ true
whole-taken e0 c l pend so whole = ap (λ b. has_numbers b e0.channel.by (Some c) e0.channel.remote) so ∙ and-right (is_none e0.channel.own) (is_some e0.channel.remote) (numbers-of e0 pend whole)

takes-it : (k s c n w m : ℕ) (e : TableEntry) (x : Channel) → EntryFits e x → is_theirs k s e ≡ true → takes k s c n w m x ≡ taken c n w m x
takes-it k s c n w m e x fits h =
    let mine : (x.client == k) ≡ true = ap (λ i. i == k) (sym fits.client) ∙ and-left (is_channel_of k e) (has_remote s e) h in
    let there : (is_number x.remote s && is_channel_held x) ≡ true = ap (λ o. is_number o s && is_channel_held x) (sym fits.remote) ∙ (ap (λ b. b && is_channel_held x) (and-right (is_channel_of k e) (has_remote s e) h) ∙ fits.held) in
    ap (λ (b : Bool). elim b as (λ _. Channel) [ true ↦ elim (is_number x.remote s && is_channel_held x) as (λ _. Channel) [ true ↦ taken c n w m x | false ↦ x ] | false ↦ x ]) mine
    ∙ ap (λ (b : Bool). elim b as (λ _. Channel) [ true ↦ taken c n w m x | false ↦ x ]) there

takes-others : (k s c n w m : ℕ) (e : TableEntry) (x : Channel) → EntryFits e x → is_theirs k s e ≡ false → takes k s c n w m x ≡ x
takes-others k s c n w m e x fits h = by_client (x.client == k) refl
  where
    by_client : (b : Bool) → (x.client == k) ≡ b → takes k s c n w m x ≡ x
    by_client false g = ap (λ (b : Bool). elim b as (λ _. Channel) [ true ↦ elim (is_number x.remote s && is_channel_held x) as (λ _. Channel) [ true ↦ taken c n w m x | false ↦ x ] | false ↦ x ]) g
    by_client true g =
        let not_here : is_number x.remote s ≡ false = ap (λ o. is_number o s) (sym fits.remote) ∙ (ap (λ b. b && has_remote s e) (sym (ap (λ i. i == k) fits.client ∙ g)) ∙ h) in
        ap (λ (b : Bool). elim b as (λ _. Channel) [ true ↦ elim (is_number x.remote s && is_channel_held x) as (λ _. Channel) [ true ↦ taken c n w m x | false ↦ x ] | false ↦ x ]) g
        ∙ ap (λ (b : Bool). elim (b && is_channel_held x) as (λ _. Channel) [ true ↦ taken c n w m x | false ↦ x ]) not_here

-- ---- the number is free until then

at-sole : (n : ℕ) (e f : TableEntry) → (e.number == f.number) ≡ false → is_at n e ≡ true → is_at n f ≡ false
at-sole n e f two h = by_number (f.number == n) refl
  where
    by_number : (b : Bool) → (f.number == n) ≡ b → (f.number == n) ≡ false
    by_number false g = g
    by_number true g = absurd (let z : (e.number == f.number) ≡ true = is-of e.number f.number (same-number e.number n h ∙ sym (same-number f.number n g)) in let y = sym z ∙ two in cc)

none-own-of : (o : Option ℕ) → is_none o ≡ true → is_some o ≡ false
none-own-of None h = refl
none-own-of (Some c) h = absurd (cc)

unshown : (e0 : TableEntry) → awaits_answer e0.channel e0.ledger ≡ true → is_whole e0 ≡ true → is_shown e0.channel ≡ false
unshown e0 pend whole = ap (λ b. b || is_some e0.channel.own) (not-up e0 pend) ∙ none-own-of e0.channel.own (and-left (is_none e0.channel.own) (is_some e0.channel.remote) (numbers-of e0 pend whole))

still-free : (s : CoreState) (k r n : ℕ) (l : Ledger) (rows : List Row) → CoreRepresents s rows → (c : WaitingEntry s.channels k r n l) → IsFreshNumber rows n
still-free s k r n l rows st c = record {
  below = subst (λ i. i < NUMBERS_END) c.number (found-of (λ e. e.number < NUMBERS_END) (has_remote r) c.entry s.channels st.channels.below c.found);
  unheld = by_found (holder rows n) refl (subst (λ o. FoundFit o (holder rows n)) none (holder-fit s n rows st));
}
  where
    whole : is_whole c.entry ≡ true
    whole = found-of (λ e. is_whole e ≡ true) (has_remote r) c.entry s.channels st.channels.whole c.found

    left : (e : TableEntry) → shown_at n e ≡ true → is_at n e ≡ true
    left e h = and-left (e.number == n) (is_shown e.channel) h

    never : (b : Bool) → (b && false) ≡ false
    never true = refl
    never false = refl

    none : find (shown_at n) s.channels ≡ None
    none =
        find-narrow (is_at n) (shown_at n) (λ e f two h. at-sole n e f two.number h) left c.entry s.channels st.channels.apart c.at
        ∙ ap (λ b. only_if b c.entry) (ap (λ b. (c.entry.number == n) && b) (unshown c.entry c.answered whole) ∙ never (c.entry.number == n))

    by_found : (o : Option Channel) → holder rows n ≡ o → FoundFit None (holder rows n) → holder rows n ≡ None
    by_found None h f = h
    by_found (Some x) h f = absurd (subst (FoundFit None) h f)

-- ---- the table after it

taking : (n k c : ℕ) (r : TableEntry → Bool) (e0 : TableEntry) (es : List TableEntry) → e0.number ≡ n → (e0.channel.client == k) ≡ true → AllByRecursion (λ e. has_own k c e ≡ false) es → AllByRecursion (Alone r e0) es → AllByRecursion (TakesOwn n k c) es
taking n k c r e0 [] same mine free one = tt
taking n k c r e0 (e ∷ es) same mine free one = (
  record {
    free = free.0;
    mine = λ h. ap (λ (f : TableEntry). f.channel.client == k) (one.0.same (ap (λ i. e.number == i) same ∙ h)) ∙ mine;
  },
  taking n k c r e0 es same mine free.1 one.1,
)

taken-table : (s : CoreState) (k r c n w m : ℕ) (l l' : Ledger) (rows : List Row) → CoreRepresents s rows → (v : WaitingEntry s.channels k r n l) → find (has_own k c) s.channels ≡ None → IsConfirmed v.entry.ledger l' w m → is_open_confirmed l' ≡ true
    → TableFits (changed_at v.entry.number (confirm_own c l') s.channels) (filter is_channel_held (map (takes k r c v.entry.number w m) (held_of rows)))
taken-table s k r c n w m l l' rows st v none confirms so =
    let whole = found-of (λ e. is_whole e ≡ true) (has_remote r) v.entry s.channels st.channels.whole v.found in
    let found = theirs-found s k r n l rows st v in
    let one = alone (is_theirs k r) (sole k r) v.entry s.channels st.channels.apart found in
    altered-table (λ _. Unit {0}) (is_theirs k r) (confirm_own c l') (takes k r c v.entry.number w m) v.entry s.channels (held_of rows)
    (λ x fits. subst (EntryFits (confirm_own c l' v.entry)) (sym (takes-it k r c v.entry.number w m v.entry x fits (passes (is_theirs k r) v.entry s.channels found))) (taken-fits v.entry c w m l' x v.answered confirms fits))
    (λ e x u fits h. takes-others k r c v.entry.number w m e x fits h)
    (λ e. refl) refl (whole-taken v.entry c l' v.answered so whole) (found-of HasSmall (has_remote r) v.entry s.channels st.channels.small v.found)
    (apart-own v.entry.number k c l' s.channels (taking v.entry.number k c (is_theirs k r) v.entry s.channels refl v.mine (none-pass (has_own k c) s.channels none) one) st.channels.apart)
    (all-unit s.channels) one st.channels

known-altered : (s : CoreState) (n c : ℕ) (l : Ledger) → AllByRecursion (λ e. is_member_known s.clients e.channel.client ≡ true) s.channels → AllByRecursion (λ e. is_member_known s.clients e.channel.client ≡ true) (changed_at n (confirm_own c l) s.channels)
known-altered s n c l known = all-map (λ e. is_member_known s.clients e.channel.client ≡ true) (λ e. is_member_known s.clients e.channel.client ≡ true) (λ e. elim (e.number == n) as (λ _. TableEntry) [ true ↦ confirm_own c l e | false ↦ e ]) (λ e h. elim (e.number == n) as (λ b. is_member_known s.clients (elim b as (λ _. TableEntry) [ true ↦ confirm_own c l e | false ↦ e ]).channel.client ≡ true) [ true ↦ h | false ↦ h ]) s.channels known

-- ---- the verdicts

pub confirms-none : (s : CoreState) (k r c w m : ℕ) (p : List ℕ) (up : QueueState) (rows : List Row) → CoreRepresents s rows → open_waiting_for s.channels k r ≡ None → read_summary p ≡ Ok (Confirmation r c w m) → CoreSendsIn s s k p 0 up up (verdict.Drop (why.NotYours r)) rows
confirms-none s k r c w m p up rows st none e = dropped-row s k 0 p up (why.NotYours r) rows (said-ok s.policy k 0 (rows_of k rows) p (Confirmation r c w m) e ∙ ap (on_waiting r (on_unused c (sends_as 0 p) (with_own (rows_of k rows) c))) (nobody-waits s k r rows st none))

pub confirms-used : (s : CoreState) (k r n c w m : ℕ) (l : Ledger) (p : List ℕ) (up : QueueState) (rows : List Row) → CoreRepresents s rows → open_waiting_for s.channels k r ≡ Some (n, l) → is_some (number_of_own s.channels k c) ≡ true → read_summary p ≡ Ok (Confirmation r c w m) → CoreSendsIn s s k p 0 up up (verdict.Drop (why.OwnInUse c)) rows
confirms-used s k r n c w m l p up rows st found taken_ e =
    let v = waiting-entry s.channels k r n l st.channels.apart found in
    let t = waits s k r n l rows st v in
    dropped-row s k 0 p up (why.OwnInUse c) rows (said-ok s.policy k 0 (rows_of k rows) p (Confirmation r c w m) e ∙ (ap (on_waiting r (on_unused c (sends_as 0 p) (with_own (rows_of k rows) c))) t.is ∙ by-use c (sends_as 0 p) (with_own (rows_of k rows) c) (sym (uses s k c rows st) ∙ taken_)))

pub confirms : (s new : CoreState) (k r n c w m : ℕ) (l l' : Ledger) (p : List ℕ) (up : QueueState) (rows : List Row) → CoreRepresents s rows → is_member_served s.clients k ≡ true → AreBytes p → open_waiting_for s.channels k r ≡ Some (n, l) → is_some (number_of_own s.channels k c) ≡ false → IsConfirmed l l' w m → is_open_confirmed l' ≡ true → new ≡ record s { channels = changed_at n (confirm_own c l') s.channels } → read_summary p ≡ Ok (Confirmation r c w m) → CoreSendsIn s new k p n up (with_bytes (frame_payload (with_sender p n)) up) verdict.Sent rows
confirms s new k r n c w m l l' p up rows st serves bytes found free gives so after e =
    let v = waiting-entry s.channels k r n l st.channels.apart found in
    let small : n < 4294967296 = let b = (still-free s k r n l rows st v).below in omega arith in
    let t = waits s k r n l rows st v in
    let q = quiet-says k p (Confirmation r c w m) (sends_payload (with_sender p n)) e (asks-nothing r c w m) refl in
    let is : IsServed k (look rows) = served (look rows) k s.clients st.clients.each serves in
    let does : sent_payload s.policy k (rows_of k rows) n p ≡ sends_payload (with_sender p n) = said-ok s.policy k n (rows_of k rows) p (Confirmation r c w m) e ∙ (ap (on_waiting r (on_unused c (sends_as n p) (with_own (rows_of k rows) c))) t.is ∙ by-none c (sends_as n p) (with_own (rows_of k rows) c) (sym (uses s k c rows st) ∙ free)) in
    let table : TableFits (changed_at n (confirm_own c l') s.channels) (held_of (sent_as k p (sends_payload (with_sender p n)) ∷ rows)) =
    subst (TableFits (changed_at n (confirm_own c l') s.channels)) (sym (taken-channels k r c n w m p rows bytes small e))
    (subst (λ i. TableFits (changed_at i (confirm_own c l') s.channels) (filter is_channel_held (map (takes k r c i w m) (held_of rows)))) v.number (taken-table s k r c n w m l l' rows st v (none-own s k c free) (subst (λ (a : Ledger). IsConfirmed a l' w m) (sym v.ledger) gives) so)) in
    let stands : CoreRepresents new (sent_as k p (sends_payload (with_sender p n)) ∷ rows) = subst (λ u. CoreRepresents u (sent_as k p (sends_payload (with_sender p n)) ∷ rows)) (sym after) (quiet-stands s (changed_at n (confirm_own c l') s.channels) (sent_as k p (sends_payload (with_sender p n))) rows st q is table (known-altered s n c l' st.known.channels)) in
    subst (λ o. SendsRow s new (sent_as k p o) n up (with_bytes (frame_payload (with_sender p n)) up) verdict.Sent rows) (sym does) (record {
      sent = ap (λ (bs : List ℕ). let u : QueueState = record up { waiting = up.waiting ++ bs } in u) (sym (append-nil (frame_payload (with_sender p n))));
      shows = (refl, refl, records-own (sent_as k p (sends_payload (with_sender p n))) q (rows_of k rows));
      fresh = λ h. still-free s k r n l rows st v;
      stands = stands;
    })

pub waiting-idle : (es : List TableEntry) (k r n : ℕ) (l : Ledger) → AreApart es → open_waiting_for es k r ≡ Some (n, l) → is_open_confirmed l ≡ false
waiting-idle es k r n l apart found = let v = waiting-entry es k r n l apart found in subst (λ (a : Ledger). is_open_confirmed a ≡ false) v.ledger (idle v.entry v.answered)
