-- The server's answer to a client's open.
use Rattle.std.proofs.Common.{◌≡◌, ℕ, List, [], ◌∷◌, ◌++◌, map, true, false, Bool, refl, ◌∙◌, ap, sym, subst, Option, Some, None, Ok}
use Rattle.std.specs.Prelude.{find, ◌==◌, ◌&&◌, not, unwrap_or}
use Rattle.std.specs.List.{AllByRecursion}
use Rattle.std.proofs.lemmas.List.{append-nil}
use Rattle.ssh_grammar.specs.declared.side.Side.TheVariants.{Down}
use Rattle.ssh_grammar.specs.SpellMessage.{with_recipient}
use Rattle.ssh_grammar.specs.Frames.{frame_payload}
use Rattle.proxy_frames.specs.State.{QueueState}
use Rattle.mux_history.specs.declared.broke.Break.TheVariants as broke
use Rattle.mux_history.specs.Summary.{Fails, Summary, Within, read_summary}
use Rattle.mux_history.specs.Rows.{Heard, Row, is_lost, rows_of}
use Rattle.mux_history.specs.Channels.{Channel, held_of, holder, is_confirmed, is_up}
use Rattle.mux_history.specs.Farewell.{late}
use Rattle.mux_history.specs.Heard.{Breaks, Dest, ToClient, dest, for_client, for_lost, received_for, is_open_pending, own_number, pending_open}
use Rattle.mux_history.specs.Pending.{joined}
use Rattle.mux_history.specs.Said.{Outcome, records}
use Rattle.mux_history.specs.Treat.{all_recorded, bare_row}
use Rattle.mux_history.proofs.Bools.{self}
use Rattle.mux_history.proofs.Dests.{dest-ok}
use Rattle.window_ledger.specs.declared.ledger.Ledger.{Ledger}
use Rattle.channel_table.specs.declared.channel.Channel as table
use Rattle.channel_table.specs.Entries.{TableEntry}
use Rattle.channel_table.specs.Entries.{freed, shown_at}
use Rattle.mux_core.specs.declared.heard.Delivery as recorded
use Rattle.mux_core.specs.declared.heard.Delivery.TheVariants as heard
use Rattle.mux_core.specs.State.{CoreState, is_member_served}
use Rattle.mux_core.specs.Stands.{CoreRepresents, TableFits, is_member_known, look}
use Rattle.mux_core.specs.Lookups.{channel_for, waits}
use Rattle.mux_core.specs.Settling.{is_lost_in, client_settled}
use Rattle.mux_core.specs.Calls.{ReceivesAs, ReceivesClient}
use Rattle.mux_core.specs.Delivering.{DeliversAs}
use Rattle.mux_core.proofs.Apart.{all-filter, alone}
use Rattle.mux_core.proofs.Bare.{down_act}
use Rattle.mux_core.proofs.Failing.{free-table}
use Rattle.channel_table.proofs.EntryFits.{FoundFit}
use Rattle.mux_core.proofs.Found.{stands-confirmed}
use Rattle.mux_core.proofs.ChannelReceived.{does, heard-channels, holder-fit, is_theirs, own-holder, quiet-heard, shown-entry, shown-none, sole, theirs-found}
use Rattle.mux_core.proofs.ReceivesWithin.{Holds, entry-known, holds, known-served}
use Rattle.mux_core.proofs.Quiet.{IsQuiet}
use Rattle.mux_core.proofs.Says.{records-own}
use Rattle.mux_core.proofs.Served.{IsServed, quiet-stands, served}
use Rattle.mux_core.proofs.Settles.{lost-stands, lost-there}

-- ---- the open that waits

abbrev pub if_pending : Bool → Channel → Option Channel
if_pending true x = Some x
if_pending false x = None

same-pending : (e : TableEntry) (n : ℕ) (rows : List Row) (x : Holds e n rows) → is_open_pending x.channel ≡ waits e.channel e.ledger
same-pending e n rows x = ap (λ by. is_up by && not (is_confirmed x.channel)) (sym x.fits.by) ∙ ap (λ b. is_up e.channel.by && not b) (sym (stands-confirmed e.ledger x.channel x.fits.ledger))

pub pending-is : (e : TableEntry) (n : ℕ) (rows : List Row) (b : Bool) → waits e.channel e.ledger ≡ b → (x : Holds e n rows) → pending_open rows n ≡ if_pending b x.channel
pending-is e n rows b h x =
    ap (λ (o : Option Channel). elim o as (λ _. Option Channel) [ None ↦ None | Some y ↦ elim (is_open_pending y) as (λ _. Option Channel) [ true ↦ Some y | false ↦ None ] ]) x.is
    ∙ (ap (λ (c : Bool). elim c as (λ _. Option Channel) [ true ↦ Some x.channel | false ↦ None ]) (same-pending e n rows x ∙ h) ∙ by_case b)
  where
    by_case : (c : Bool) → (elim c as (λ _. Option Channel) [ true ↦ Some x.channel | false ↦ None ]) ≡ if_pending c x.channel
    by_case true = refl
    by_case false = refl

pub pending-none : (s : CoreState) (n : ℕ) (rows : List Row) → CoreRepresents s rows → find (shown_at n) s.channels ≡ None → pending_open rows n ≡ None
pending-none s n rows st none = ap (λ (o : Option Channel). elim o as (λ _. Option Channel) [ None ↦ None | Some y ↦ elim (is_open_pending y) as (λ _. Option Channel) [ true ↦ Some y | false ↦ None ] ]) (held-none (holder rows n) refl (subst (λ o. FoundFit o (holder rows n)) none (holder-fit s n rows st)))
  where
    held-none : (o : Option Channel) → holder rows n ≡ o → FoundFit None (holder rows n) → holder rows n ≡ None
    held-none None h f = h
    held-none (Some x) h f = absurd (subst (FoundFit None) h f)

-- ---- a row that goes to a client

pub own-number-is : (e0 : TableEntry) (n : ℕ) (rows : List Row) (x : Holds e0 n rows) → own_number (holder (rows_of e0.channel.client rows) n) ≡ unwrap_or e0.channel.own 0
own-number-is e0 n rows x = ap own_number (own-holder e0.channel.client n x.channel rows x.is (ap (λ i. i == e0.channel.client) (sym x.fits.client) ∙ self e0.channel.client)) ∙ by_own x.channel.own x.fits.own
  where
    by_own : (o : Option ℕ) → e0.channel.own ≡ o → (elim o as (λ _. ℕ) [ None ↦ 0 | Some c ↦ c ]) ≡ unwrap_or e0.channel.own 0
    by_own None g = sym (ap (λ o. unwrap_or o 0) g)
    by_own (Some c) g = sym (ap (λ o. unwrap_or o 0) g)

abbrev pub recorded_row : List ℕ → ℕ → List ℕ → Row
recorded_row p k q = bare_row (Heard p) k (records (frame_payload q))

abbrev pub lost_row : List ℕ → ℕ → Summary → List Row → Row
lost_row p k m rows = bare_row (Heard p) k (for_lost (rows_of k rows) m)

-- one that is served
pub delivers-row : (s new : CoreState) (k : ℕ) (p q : List ℕ) (m : Summary) (es : List TableEntry) (up : QueueState) (rows : List Row) → CoreRepresents s rows → is_member_served s.clients k ≡ true → read_summary p ≡ Ok m → IsQuiet (recorded_row p k q) → dest rows p ≡ ToClient k → for_client (rows_of k rows) p m ≡ records (frame_payload q) → TableFits es (held_of (recorded_row p k q ∷ rows)) → AllByRecursion (λ e. is_member_known s.clients e.channel.client ≡ true) es → new ≡ record s { channels = es } → ReceivesAs new p q up up (heard.Client k 0) rows (dest rows p)
delivers-row s new k p q m es up rows st serves e quiet goes records_ table known after =
    let is : IsServed k (look rows) = served (look rows) k s.clients st.clients.each serves in
    let outcome : received_for (rows_of k rows) p ≡ records (frame_payload q) = rw (e, received_for) (ap (λ (b : Bool). elim b as (λ _. Outcome) [ true ↦ for_lost (rows_of k rows) m | false ↦ for_client (rows_of k rows) p m ]) is.here ∙ records_) in
    let stands : CoreRepresents new (recorded_row p k q ∷ rows) = subst (λ u. CoreRepresents u (recorded_row p k q ∷ rows)) (sym after) (quiet-stands s es (recorded_row p k q) rows st quiet is table known) in
    let recorded : ReceivesClient new k p q up up (heard.Client k 0) rows = record {
      sent = sym (ap (λ (o : Outcome). up.waiting ++ joined (map frame_payload o.sent)) outcome ∙ append-nil up.waiting);
      to = (is.here, refl);
      recorded = ap (λ (o : Outcome). all_recorded (bare_row (Heard p) k o) (rows_of k rows)) outcome ∙ records-own (recorded_row p k q) quiet (rows_of k rows);
      stands = subst (λ o. CoreRepresents new (bare_row (Heard p) k o ∷ rows)) (sym outcome) stands;
    } in
    subst (ReceivesAs new p q up up (heard.Client k 0) rows) (sym goes) recorded

-- one that is lost
pub passes-row : (s new : CoreState) (k : ℕ) (p p' : List ℕ) (m : Summary) (es : List TableEntry) (up up' : QueueState) (rows : List Row) → CoreRepresents s rows → is_lost_in s.clients k ≡ true → read_summary p ≡ Ok m → IsQuiet (lost_row p k m rows) → dest rows p ≡ ToClient k → up'.waiting ≡ up.waiting ++ joined (map frame_payload (late m (rows_of k rows))) → TableFits es (held_of (lost_row p k m rows ∷ rows)) → AllByRecursion (λ e. is_member_known s.clients e.channel.client ≡ true) es → new ≡ client_settled (record s { channels = es }) k → ReceivesAs new p p' up up' (heard.Lost k) rows (dest rows p)
passes-row s new k p p' m es up up' rows st lost e quiet goes sent table known after =
    let there : is_lost (rows_of k rows) ≡ true = lost-there (look rows) k s.clients st.clients.each lost in
    let outcome : received_for (rows_of k rows) p ≡ for_lost (rows_of k rows) m = rw (e, received_for) (ap (λ (b : Bool). elim b as (λ _. Outcome) [ true ↦ for_lost (rows_of k rows) m | false ↦ for_client (rows_of k rows) p m ]) there) in
    let stands : CoreRepresents new (lost_row p k m rows ∷ rows) = subst (λ u. CoreRepresents u (lost_row p k m rows ∷ rows)) (sym after) (lost-stands s es (lost_row p k m rows) rows st quiet lost table known) in
    let recorded : ReceivesClient new k p p' up up' (heard.Lost k) rows = record {
      sent = sent ∙ sym (ap (λ (o : Outcome). up.waiting ++ joined (map frame_payload o.sent)) outcome);
      to = (there, refl);
      recorded = ap (λ (o : Outcome). all_recorded (bare_row (Heard p) k o) (rows_of k rows)) outcome ∙ records-own (lost_row p k m rows) quiet (rows_of k rows);
      stands = subst (λ o. CoreRepresents new (bare_row (Heard p) k o ∷ rows)) (sym outcome) stands;
    } in
    subst (ReceivesAs new p p' up up' (heard.Lost k) rows) (sym goes) recorded

-- ---- a failure

dest-failure : (rows : List Row) (n : ℕ) (p : List ℕ) (o : Option Channel) → read_summary p ≡ Ok (Within n Fails) → pending_open rows n ≡ o → dest rows p ≡ elim o as (λ _. Dest) [ None ↦ Breaks (broke.NotPending n) | Some x ↦ ToClient x.client ]
dest-failure rows n p o e h = dest-ok rows p (Within n Fails) e ∙ ap (λ (u : Option Channel). elim u as (λ _. Dest) [ None ↦ Breaks (broke.NotPending n) | Some x ↦ ToClient x.client ]) h

pub failure-none : (s new : CoreState) (n : ℕ) (p p' : List ℕ) (up : QueueState) (rows : List Row) → CoreRepresents s rows → channel_for s.channels n ≡ None → read_summary p ≡ Ok (Within n Fails) → ReceivesAs new p p' up up (heard.Broke (broke.NotPending n)) rows (dest rows p)
failure-none s new n p p' up rows st none e = subst (ReceivesAs new p p' up up (heard.Broke (broke.NotPending n)) rows) (sym (dest-failure rows n p None e (pending-none s n rows st (shown-none s.channels n st.channels.apart none)))) (record { sent = refl; to = refl })

pub failure-early : (s new : CoreState) (n : ℕ) (p p' : List ℕ) (up : QueueState) (c : table.Channel) (l : Ledger) (rows : List Row) → CoreRepresents s rows → channel_for s.channels n ≡ Some (c, l) → waits c l ≡ false → read_summary p ≡ Ok (Within n Fails) → ReceivesAs new p p' up up (heard.Broke (broke.NotPending n)) rows (dest rows p)
failure-early s new n p p' up c l rows st looks early e =
    let sh = shown-entry s.channels n c l st.channels.apart looks in
    let x = holds s n sh.entry rows st sh.found in
    let here : waits sh.entry.channel sh.entry.ledger ≡ false = ap (λ (d : table.Channel). waits d sh.entry.ledger) sh.channel ∙ (ap (waits c) sh.ledger ∙ early) in
    subst (ReceivesAs new p p' up up (heard.Broke (broke.NotPending n)) rows) (sym (dest-failure rows n p None e (pending-is sh.entry n rows false here x))) (record { sent = refl; to = refl })

failure-table : (s : CoreState) (n : ℕ) (p : List ℕ) (e0 : TableEntry) (o : Outcome) (rows : List Row) → CoreRepresents s rows → find (shown_at n) s.channels ≡ Some e0 → o.sent ≡ [] → read_summary p ≡ Ok (Within n Fails) → TableFits (freed e0.number s.channels) (held_of (bare_row (Heard p) e0.channel.client o ∷ rows))
failure-table s n p e0 o rows st h none e =
    subst (TableFits (freed e0.number s.channels)) (sym (heard-channels e0.channel.client n Fails p o rows e none))
    (free-table Down (is_theirs e0.channel.client n) (down_act e0.channel.client n Fails) e0 s.channels (held_of rows) (does e0.channel.client n Fails) (alone (is_theirs e0.channel.client n) (sole e0.channel.client n) e0 s.channels st.channels.apart (theirs-found s n e0 rows st h)) st.channels)

freed-known : (s : CoreState) (n : ℕ) → AllByRecursion (λ e. is_member_known s.clients e.channel.client ≡ true) s.channels → AllByRecursion (λ e. is_member_known s.clients e.channel.client ≡ true) (freed n s.channels)
freed-known s n known = all-filter (λ (e : TableEntry). is_member_known s.clients e.channel.client ≡ true) (λ e. not (e.number == n)) s.channels known

pub failure-given : (s new : CoreState) (n : ℕ) (p : List ℕ) (up : QueueState) (c : table.Channel) (l : Ledger) (rows : List Row) → CoreRepresents s rows → channel_for s.channels n ≡ Some (c, l) → is_lost_in s.clients c.client ≡ false → waits c l ≡ true → new ≡ record s { channels = freed n s.channels } → read_summary p ≡ Ok (Within n Fails) → ReceivesAs new p (with_recipient p (unwrap_or c.own 0)) up up (heard.Client c.client 0) rows (dest rows p)
failure-given s new n p up c l rows st looks here pend after e =
    let sh = shown-entry s.channels n c l st.channels.apart looks in
    let x = holds s n sh.entry rows st sh.found in
    let w : waits sh.entry.channel sh.entry.ledger ≡ true = ap (λ (d : table.Channel). waits d sh.entry.ledger) sh.channel ∙ (ap (waits c) sh.ledger ∙ pend) in
    let serves = known-served sh.entry.channel.client s.clients (entry-known s n sh.entry st.known.channels sh.found) (subst (λ (d : table.Channel). is_lost_in s.clients d.client ≡ false) (sym sh.channel) here) in
    subst (λ (d : table.Channel). ReceivesAs new p (with_recipient p (unwrap_or d.own 0)) up up (heard.Client d.client 0) rows (dest rows p)) sh.channel
    (delivers-row s new sh.entry.channel.client p (with_recipient p (unwrap_or sh.entry.channel.own 0)) (Within n Fails) (freed sh.entry.number s.channels) up rows st serves e
    (quiet-heard sh.entry.channel.client n Fails p (records (frame_payload (with_recipient p (unwrap_or sh.entry.channel.own 0)))) e refl)
    (dest-failure rows n p (Some x.channel) e (pending-is sh.entry n rows true w x) ∙ ap ToClient (sym x.fits.client))
    (ap (λ i. records (frame_payload (with_recipient p i))) (own-number-is sh.entry n rows x))
    (failure-table s n p sh.entry (records (frame_payload (with_recipient p (unwrap_or sh.entry.channel.own 0)))) rows st sh.found refl e)
    (freed-known s sh.entry.number st.known.channels)
    (after ∙ ap (λ (i : ℕ). let u : CoreState = record s { channels = freed i s.channels } in u) (sym sh.number)))

pub failure-lost : (s new : CoreState) (n : ℕ) (p p' : List ℕ) (up : QueueState) (c : table.Channel) (l : Ledger) (rows : List Row) → CoreRepresents s rows → channel_for s.channels n ≡ Some (c, l) → is_lost_in s.clients c.client ≡ true → waits c l ≡ true → new ≡ client_settled (record s { channels = freed n s.channels }) c.client → read_summary p ≡ Ok (Within n Fails) → ReceivesAs new p p' up up (heard.Lost c.client) rows (dest rows p)
failure-lost s new n p p' up c l rows st looks lost pend after e =
    let sh = shown-entry s.channels n c l st.channels.apart looks in
    let x = holds s n sh.entry rows st sh.found in
    let w : waits sh.entry.channel sh.entry.ledger ≡ true = ap (λ (d : table.Channel). waits d sh.entry.ledger) sh.channel ∙ (ap (waits c) sh.ledger ∙ pend) in
    subst (λ (d : table.Channel). ReceivesAs new p p' up up (heard.Lost d.client) rows (dest rows p)) sh.channel
    (passes-row s new sh.entry.channel.client p p' (Within n Fails) (freed sh.entry.number s.channels) up up rows st (subst (λ (d : table.Channel). is_lost_in s.clients d.client ≡ true) (sym sh.channel) lost) e
    (quiet-heard sh.entry.channel.client n Fails p (for_lost (rows_of sh.entry.channel.client rows) (Within n Fails)) e refl)
    (dest-failure rows n p (Some x.channel) e (pending-is sh.entry n rows true w x) ∙ ap ToClient (sym x.fits.client))
    (sym (append-nil up.waiting))
    (failure-table s n p sh.entry (for_lost (rows_of sh.entry.channel.client rows) (Within n Fails)) rows st sh.found refl e)
    (freed-known s sh.entry.number st.known.channels)
    (after ∙ (ap (λ (i : ℕ). client_settled (record s { channels = freed i s.channels }) c.client) (sym sh.number) ∙ ap (λ (d : table.Channel). client_settled (record s { channels = freed sh.entry.number s.channels }) d.client) (sym sh.channel))))

pub failure-delivered : (s mid new : CoreState) (n : ℕ) (p p' : List ℕ) (up : QueueState) (c : table.Channel) (l : Ledger) (h : recorded.Delivery) (rows : List Row) → CoreRepresents s rows → channel_for s.channels n ≡ Some (c, l) → waits c l ≡ true → mid ≡ record s { channels = freed n s.channels } → DeliversAs (is_lost_in mid.clients c.client) mid new c p p' h → read_summary p ≡ Ok (Within n Fails) → ReceivesAs new p p' up up h rows (dest rows p)
failure-delivered s mid new n p p' up c l h rows st looks pend is goes e =
    by_case (is_lost_in s.clients c.client) refl (subst (λ (u : CoreState). DeliversAs (is_lost_in u.clients c.client) u new c p p' h) is goes)
  where
    by_case : (b : Bool) → is_lost_in s.clients c.client ≡ b → DeliversAs b (record s { channels = freed n s.channels }) new c p p' h → ReceivesAs new p p' up up h rows (dest rows p)
    by_case true lost goes =
        subst (λ g. ReceivesAs new p p' up up g rows (dest rows p)) (sym goes.1) (failure-lost s new n p p' up c l rows st looks lost pend goes.0 e)
    by_case false here goes =
        subst (λ g. ReceivesAs new p p' up up g rows (dest rows p)) (sym goes.1)
        (subst (λ q. ReceivesAs new p q up up (heard.Client c.client 0) rows (dest rows p)) (sym goes.2) (failure-given s new n p up c l rows st looks here pend goes.0 e))
