-- The server opens a channel: to the client of a live forwarding, or the master answers.
use Rattle.std.proofs.Common.{◌≡◌, ◌<◌, ◌≢◌, ℕ, List, [], ◌∷◌, ◌++◌, map, true, false, Bool, refl, ◌∙◌, ap, sym, subst, Option, Some, None, Ok, arith}
use Rattle.std.specs.Prelude.{filter, ◌==◌, not, is_some, option_map, nat_lt}
use Rattle.std.specs.List.{AllByRecursion}
use Rattle.std.proofs.lemmas.List.{append-nil}
use Rattle.std.proofs.lemmas.List.Elements.{filter-append}
use Rattle.std.proofs.lemmas.Bool.Decides.{nat_tests}
use Rattle.ssh_grammar.specs.declared.numbers.TheConstants.{ADMINISTRATIVELY_PROHIBITED, RESOURCE_SHORTAGE}
use Rattle.ssh_grammar.specs.declared.side.Side.TheVariants.{Down}
use Rattle.ssh_grammar.specs.Messages.{Opens}
use Rattle.ssh_grammar.specs.Messages as full
use Rattle.ssh_grammar.proofs.MessageSpelled.{spelled_reads}
use Rattle.ssh_grammar.specs.SpellMessage.{not_permitted, open_failure, too_many_channels}
use Rattle.ssh_grammar.specs.Frames.{frame_payload}
use Rattle.proxy_frames.specs.State.{QueueState}
use Rattle.mux_history.specs.declared.broke.Break.TheVariants as broke
use Rattle.mux_history.specs.declared.limits.TheConstants.{MAX_CHANNELS, NUMBERS_END}
use Rattle.mux_history.specs.Summary.{Fails, Open, Within, read_summary, reading}
use Rattle.mux_history.specs.Rows.{Heard, Row, rows_of}
use Rattle.mux_history.specs.Channels.{Channel, after_item, held_of, is_channel_held, is_number, opened_down, with_down}
use Rattle.mux_history.specs.Heard.{dest, for_client, for_lost, received_for, received_master}
use Rattle.mux_history.specs.Pending.{joined}
use Rattle.mux_history.specs.Said.{Outcome, sends_payload, records}
use Rattle.mux_history.specs.Treat.{all_recorded, bare_row}
use Rattle.mux_history.proofs.Bools.{same-number}
use Rattle.mux_history.proofs.Readings.{summary-ok, reading-ok}
use Rattle.window_ledger.specs.declared.ledger.Ledger.{Ledger}
use Rattle.window_ledger.specs.Stands.{IsSideBegun, is_open_confirmed}
use Rattle.window_ledger.specs.Stands as ledger
use Rattle.channel_table.specs.Entries.{TableEntry}
use Rattle.channel_table.specs.Entries.{AreTwo, IsNumberFree, channel_count_of, full_refusal, has_remote, is_at, number_of_remote, remote_entry, remote_refusal, unless, unless_held}
use Rattle.channel_table.specs.declared.channel.Refused.TheVariants as refused
use Rattle.channel_table.specs.Stands.{ChannelsFit, EntryFits}
use Rattle.mux_core.specs.declared.heard.Delivery.TheVariants as heard
use Rattle.mux_core.specs.State.{CoreState}
use Rattle.mux_core.specs.Stands.{HasSmall, CoreRepresents, has_numbers, is_member_known, is_whole, look}
use Rattle.mux_core.specs.Opening.{owner_for}
use Rattle.mux_core.specs.Calls.{ReceivesAs, ReceivesClient, ReceivesMaster}
use Rattle.mux_core.proofs.Apart.{none-pass}
use Rattle.mux_core.proofs.Bare.{held-bare}
use Rattle.channel_table.proofs.EntryFits.{more-fit}
use Rattle.mux_core.proofs.ReceivesConfirmation.{IsLive, is-free, is-live, live, none-live}
use Rattle.mux_core.proofs.ReceivesOpen.{delivers-row, recorded_row}
use Rattle.mux_core.proofs.OpenedRow.{dest-opened, dest-used, failed-held, owned, quiet-opened, to, unchanged-stands}
use Rattle.mux_core.proofs.OpensJudged.{own-count}
use Rattle.mux_core.proofs.OpensSent.{all-append, apart-append, few-append, served-known}
use Rattle.mux_core.proofs.Says.{held-held, map-same}
use Rattle.mux_core.proofs.Served.{IsServed, served}
use Rattle.mux_core.proofs.Silent.{records-nothing}

-- ---- the number is in use

pub open-used : (s new : CoreState) (r w m : ℕ) (what : Opens) (p p' : List ℕ) (up : QueueState) (rows : List Row) → CoreRepresents s rows → is_some (number_of_remote s.channels r) ≡ true → read_summary p ≡ Ok (Open what r w m) → ReceivesAs new p p' up up (heard.Broke (broke.NumberInUse r)) rows (dest rows p)
open-used s new r w m what p p' up rows st used e = by_live (is-live s r rows st used)
  where
    by_live : IsLive rows r → ReceivesAs new p p' up up (heard.Broke (broke.NumberInUse r)) rows (dest rows p)
    by_live (live x g) = subst (ReceivesAs new p p' up up (heard.Broke (broke.NumberInUse r)) rows) (sym (dest-used r w m what p rows x e g)) (record { sent = refl; to = refl })

-- ---- for no client: the master answers

pub open-refused : (s : CoreState) (r w m : ℕ) (what : Opens) (p p' : List ℕ) (up up' : QueueState) (rows : List Row) → CoreRepresents s rows → is_some (number_of_remote s.channels r) ≡ false → owner_for what s.forwards ≡ None → read_summary p ≡ Ok (Open what r w m) → read_summary (open_failure r ADMINISTRATIVELY_PROHIBITED not_permitted) ≡ Ok (Within r Fails) → up'.waiting ≡ up.waiting ++ frame_payload (open_failure r ADMINISTRATIVELY_PROHIBITED not_permitted) → ReceivesAs s p p' up up' heard.Master rows (dest rows p)
open-refused s r w m what p p' up up' rows st free nobody e f sent =
    let none = is-free s.channels r free in
    let q : List ℕ = open_failure r ADMINISTRATIVELY_PROHIBITED not_permitted in
    let outcome : received_master p ≡ sends_payload (open_failure r ADMINISTRATIVELY_PROHIBITED not_permitted) = rw (e, received_master) refl in
    let stands : CoreRepresents s (bare_row (Heard p) 0 (sends_payload (open_failure r ADMINISTRATIVELY_PROHIBITED not_permitted)) ∷ rows) = unchanged-stands s (bare_row (Heard p) 0 (sends_payload (open_failure r ADMINISTRATIVELY_PROHIBITED not_permitted))) rows st (quiet-opened 0 r w m what p (sends_payload (open_failure r ADMINISTRATIVELY_PROHIBITED not_permitted)) e refl) (failed-held s 0 r w m what p (open_failure r ADMINISTRATIVELY_PROHIBITED not_permitted) rows st none e f) in
    let master : ReceivesMaster s p up up' heard.Master rows = record {
      sent = sent ∙ (ap (λ ys. up.waiting ++ ys) (sym (append-nil (frame_payload (open_failure r ADMINISTRATIVELY_PROHIBITED not_permitted)))) ∙ sym (ap (λ (o : Outcome). up.waiting ++ joined (map frame_payload o.sent)) outcome));
      to = refl;
      stands = subst (λ o. CoreRepresents s (bare_row (Heard p) 0 o ∷ rows)) (sym outcome) stands;
    } in
    subst (ReceivesAs s p p' up up' heard.Master rows) (sym (dest-opened s r w m what p rows st e (none-live s r rows st none) ∙ ap to nobody)) master

-- ---- 256 channels are there

pub open-full : (s : CoreState) (k r w m : ℕ) (what : Opens) (p p' : List ℕ) (up up' : QueueState) (rows : List Row) → CoreRepresents s rows → is_some (number_of_remote s.channels r) ≡ false → owner_for what s.forwards ≡ Some k → nat_lt (channel_count_of s.channels k) MAX_CHANNELS ≡ false → read_summary p ≡ Ok (Open what r w m) → read_summary (open_failure r RESOURCE_SHORTAGE too_many_channels) ≡ Ok (Within r Fails) → up'.waiting ≡ up.waiting ++ frame_payload (open_failure r RESOURCE_SHORTAGE too_many_channels) → ReceivesAs s p p' up up' heard.Master rows (dest rows p)
open-full s k r w m what p p' up up' rows st free owner full e f sent =
    let none = is-free s.channels r free in
    let is : IsServed k (look rows) = served (look rows) k s.clients st.clients.each (owned s k what rows st owner) in
    let outcome : received_for (rows_of k rows) p ≡ sends_payload (open_failure r RESOURCE_SHORTAGE too_many_channels) = rw (e, received_for) (ap (λ (b : Bool). elim b as (λ _. Outcome) [ true ↦ for_lost (rows_of k rows) (Open what r w m) | false ↦ for_client (rows_of k rows) p (Open what r w m) ]) is.here ∙ ap (λ (b : Bool). elim b as (λ _. Outcome) [ true ↦ records (frame_payload p) | false ↦ sends_payload (open_failure r RESOURCE_SHORTAGE too_many_channels) ]) (ap (λ n. nat_lt n MAX_CHANNELS) (own-count s k rows st) ∙ full)) in
    let quiet = quiet-opened k r w m what p (sends_payload (open_failure r RESOURCE_SHORTAGE too_many_channels)) e refl in
    let stands : CoreRepresents s (bare_row (Heard p) k (sends_payload (open_failure r RESOURCE_SHORTAGE too_many_channels)) ∷ rows) = unchanged-stands s (bare_row (Heard p) k (sends_payload (open_failure r RESOURCE_SHORTAGE too_many_channels))) rows st quiet (failed-held s k r w m what p (open_failure r RESOURCE_SHORTAGE too_many_channels) rows st none e f) in
    let recorded : ReceivesClient s k p p' up up' heard.Master rows = record {
      sent = sent ∙ (ap (λ ys. up.waiting ++ ys) (sym (append-nil (frame_payload (open_failure r RESOURCE_SHORTAGE too_many_channels)))) ∙ sym (ap (λ (o : Outcome). up.waiting ++ joined (map frame_payload o.sent)) outcome));
      to = is.here;
      recorded = ap (λ (o : Outcome). all_recorded (bare_row (Heard p) k o) (rows_of k rows)) outcome ∙ records-nothing (bare_row (Heard p) k (sends_payload (open_failure r RESOURCE_SHORTAGE too_many_channels))) quiet refl (rows_of k rows);
      stands = subst (λ o. CoreRepresents s (bare_row (Heard p) k o ∷ rows)) (sym outcome) stands;
    } in
    subst (ReceivesAs s p p' up up' heard.Master rows) (sym (dest-opened s r w m what p rows st e (none-live s r rows st none) ∙ ap to owner)) recorded

-- ---- one more channel

two-remote : (es : List TableEntry) (n k r : ℕ) (l : Ledger) → AllByRecursion (λ e. is_at n e ≡ false) es → AllByRecursion (λ e. has_remote r e ≡ false) es → AllByRecursion (λ f. AreTwo f (remote_entry n k r l)) es
two-remote [] n k r l a b = tt
two-remote (f ∷ fs) n k r l a b = (
  record {
    number = a.0;
    remote = λ t h. by_number t (r == t) refl h;
    own = λ c same h. refl;
  },
  two-remote fs n k r l a.1 b.1,
)
  where
    by_number : (t : ℕ) (x : Bool) → (r == t) ≡ x → is_number f.channel.remote t ≡ true → (r == t) ≡ false
    by_number t true e h = absurd (let c : is_number f.channel.remote t ≡ false = subst (λ i. is_number f.channel.remote i ≡ false) (same-number r t e) b.0 in let d = sym h ∙ c in cc)
    by_number t false e h = e

some-small : (s t : ℕ) → Some s ≡ Some t → s < 4294967296 → t < 4294967296
some-small s t h small = subst (λ i. i < 4294967296) (let e : s ≡ t = cc in e) small

opened-held : (k r w m : ℕ) (what : Opens) (p : List ℕ) (rows : List Row) → (k == 0) ≡ false → read_summary p ≡ Ok (Open what r w m) → held_of (recorded_row p k p ∷ rows) ≡ held_of rows ++ record { client = k; by = Down; own = None; number = None; remote = Some r; window = w; maximum = m; acts = [] } ∷ []
opened-held k r w m what p rows nonzero e =
    held-bare (Heard p) k (records (frame_payload p)) rows
    ∙ (ap (filter is_channel_held) (ap (λ ys. map (after_item (recorded_row p k p)) (held_of rows) ++ ys) (ap (λ (b : Bool). elim b as (λ _. List Channel) [ true ↦ [] | false ↦ reading p (opened_down k []) [] ]) nonzero ∙ reading-ok p (Open what r w m) (opened_down k []) [] e) ∙ ap (λ ys. ys ++ record { client = k; by = Down; own = None; number = None; remote = Some r; window = w; maximum = m; acts = [] } ∷ []) (map-same (after_item (recorded_row p k p)) same (held_of rows)))
    ∙ (filter-append is_channel_held (held_of rows) (record { client = k; by = Down; own = None; number = None; remote = Some r; window = w; maximum = m; acts = [] } ∷ [])
    ∙ ap (λ ys. ys ++ record { client = k; by = Down; own = None; number = None; remote = Some r; window = w; maximum = m; acts = [] } ∷ []) (held-held rows)))
  where
    same : (x : Channel) → after_item (recorded_row p k p) x ≡ x
    same x =
        ap (λ y. elim (x.client == k) as (λ _. Channel) [ true ↦ y | false ↦ x ]) (reading-ok p (Open what r w m) (λ g. with_down g x) x e)
        ∙ (elim (x.client == k) as (λ b. (elim b as (λ _. Channel) [ true ↦ x | false ↦ x ]) ≡ x) [ true ↦ refl | false ↦ refl ])

pub open-given : (s new : CoreState) (k n r w m : ℕ) (what : Opens) (p : List ℕ) (l : Ledger) (up : QueueState) (rows : List Row) → CoreRepresents s rows → is_some (number_of_remote s.channels r) ≡ false → owner_for what s.forwards ≡ Some k → nat_lt (channel_count_of s.channels k) MAX_CHANNELS ≡ true → r < 4294967296 → IsNumberFree s.channels n → is_open_confirmed l ≡ false → ((x : Channel) → IsSideBegun Down w m x → ledger.LedgerRepresents l x) → new ≡ record s { channels = s.channels ++ remote_entry n k r l ∷ [] } → read_summary p ≡ Ok (Open what r w m) → ReceivesAs new p p up up (heard.Client k 0) rows (dest rows p)
open-given s new k n r w m what p l up rows st free owner room small fresh waits begins after e =
    let none = is-free s.channels r free in
    let serves = owned s k what rows st owner in
    let is : IsServed k (look rows) = served (look rows) k s.clients st.clients.each serves in
    let few : channel_count_of s.channels k < MAX_CHANNELS = grind (arith, nat_tests) in
    let fits : EntryFits (remote_entry n k r l) (record { client = k; by = Down; own = None; number = None; remote = Some r; window = w; maximum = m; acts = [] }) = record { client = refl; by = refl; own = refl; number = refl; remote = refl; ledger = begins _ (record { opener = refl; first = refl; longest = refl; fresh = refl }); held = refl } in
    delivers-row s new k p p (Open what r w m) (s.channels ++ remote_entry n k r l ∷ []) up rows st serves e (quiet-opened k r w m what p (records (frame_payload p)) e refl)
    (dest-opened s r w m what p rows st e (none-live s r rows st none) ∙ ap to owner)
    (ap (λ (b : Bool). elim b as (λ _. Outcome) [ true ↦ records (frame_payload p) | false ↦ sends_payload (open_failure r RESOURCE_SHORTAGE too_many_channels) ]) (ap (λ i. nat_lt i MAX_CHANNELS) (own-count s k rows st) ∙ room))
    (record {
      fit = subst (ChannelsFit (s.channels ++ remote_entry n k r l ∷ [])) (sym (opened-held k r w m what p rows (not-zero k is.nonzero) e)) (more-fit (remote_entry n k r l) _ fits s.channels (held_of rows) st.channels.fit);
      apart = apart-append (remote_entry n k r l) s.channels st.channels.apart (two-remote s.channels n k r l (none-pass (is_at n) s.channels fresh.unused) (none-pass (has_remote r) s.channels none));
      few = λ j. few-append j (remote_entry n k r l) s.channels (λ h. subst (λ i. channel_count_of s.channels i < MAX_CHANNELS) (same-number k j h) few) (st.channels.few j);
      whole = all-append (λ e. is_whole e ≡ true) (remote_entry n k r l) (ap (λ b. has_numbers b Down None (Some r)) waits) s.channels st.channels.whole;
      small = all-append HasSmall (remote_entry n k r l) (λ t h. some-small r t h small) s.channels st.channels.small;
      below = all-append (λ e. e.number < NUMBERS_END) (remote_entry n k r l) fresh.below s.channels st.channels.below;
    })
    (all-append (λ f. is_member_known s.clients f.channel.client ≡ true) (remote_entry n k r l) (served-known k s.clients serves) s.channels st.known.channels)
    after
  where
    not-zero : (i : ℕ) → i ≢ 0 → (i == 0) ≡ false
    not-zero i h = by_case (i == 0) refl
      where
        by_case : (b : Bool) → (i == 0) ≡ b → (i == 0) ≡ false
        by_case true g = absurd (h (same-number i 0 g))
        by_case false g = g

-- ---- what the master's failures read as

pub reads-refusal : (s : ℕ) → s < 4294967296 → read_summary (open_failure s ADMINISTRATIVELY_PROHIBITED not_permitted) ≡ Ok (Within s Fails)
reads-refusal s small = summary-ok (open_failure s ADMINISTRATIVELY_PROHIBITED not_permitted) (full.To s (full.OpenFailure ADMINISTRATIVELY_PROHIBITED not_permitted [])) (spelled_reads (full.To s (full.OpenFailure ADMINISTRATIVELY_PROHIBITED not_permitted [])) (open_failure s ADMINISTRATIVELY_PROHIBITED not_permitted) (record { is_message = (small, (omega arith, omega arith, omega arith)); flag = 0; boolean = refl; spelled = refl }))

pub reads-shortage : (s : ℕ) → s < 4294967296 → read_summary (open_failure s RESOURCE_SHORTAGE too_many_channels) ≡ Ok (Within s Fails)
reads-shortage s small = summary-ok (open_failure s RESOURCE_SHORTAGE too_many_channels) (full.To s (full.OpenFailure RESOURCE_SHORTAGE too_many_channels [])) (spelled_reads (full.To s (full.OpenFailure RESOURCE_SHORTAGE too_many_channels [])) (open_failure s RESOURCE_SHORTAGE too_many_channels) (record { is_message = (small, (omega arith, omega arith, omega arith)); flag = 0; boolean = refl; spelled = refl }))

-- ---- the table's answers

refused-as : (es : List TableEntry) (k r : ℕ) → is_some (number_of_remote es r) ≡ false → remote_refusal es k r ≡ unless (not (nat_lt (channel_count_of es k) MAX_CHANNELS)) (refused.Full (channel_count_of es k)) None
refused-as es k r free = ap (λ (o : Option TableEntry). unless_held (option_map (λ (e : TableEntry). e.channel.client) o) (full_refusal es k)) (is-free es r free)

pub remote-room : (es : List TableEntry) (k r : ℕ) → is_some (number_of_remote es r) ≡ false → remote_refusal es k r ≡ None → nat_lt (channel_count_of es k) MAX_CHANNELS ≡ true
remote-room es k r free h = by_room (nat_lt (channel_count_of es k) MAX_CHANNELS) (sym (refused-as es k r free) ∙ h)
  where
    by_room : (b : Bool) → unless (not b) (refused.Full (channel_count_of es k)) None ≡ None → b ≡ true
    by_room true h = refl
    by_room false h = absurd (cc)

pub remote-full : (es : List TableEntry) (k r n : ℕ) → is_some (number_of_remote es r) ≡ false → remote_refusal es k r ≡ Some (refused.Full n) → nat_lt (channel_count_of es k) MAX_CHANNELS ≡ false
remote-full es k r n free h = by_room (nat_lt (channel_count_of es k) MAX_CHANNELS) (sym (refused-as es k r free) ∙ h)
  where
    by_room : (b : Bool) → unless (not b) (refused.Full (channel_count_of es k)) None ≡ Some (refused.Full n) → b ≡ false
    by_room true h = absurd (cc)
    by_room false h = refl
