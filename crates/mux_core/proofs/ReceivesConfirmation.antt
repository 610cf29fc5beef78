-- The server confirms a client's open: where it goes, and what stands after it.
use Rattle.std.proofs.Common.{◌≡◌, ◌<◌, ℕ, List, ◌++◌, true, false, refl, ◌∙◌, ap, sym, subst, Option, Some, None, Ok}
use Rattle.std.specs.Prelude.{find, not, is_some, option_map, unwrap_or}
use Rattle.std.proofs.lemmas.List.{append-nil}
use Rattle.ssh_grammar.specs.SpellMessage.{close, with_recipient}
use Rattle.ssh_grammar.specs.Frames.{frame_payload}
use Rattle.proxy_frames.specs.State.{QueueState}
use Rattle.mux_history.specs.declared.broke.Break.TheVariants as broke
use Rattle.mux_history.specs.Summary.{Confirmation, read_summary}
use Rattle.mux_history.specs.Rows.{Row, rows_of}
use Rattle.mux_history.specs.Channels.{Channel, held_of, is_number, is_up, live_in}
use Rattle.mux_history.specs.Heard.{Breaks, Dest, ToClient, dest, for_lost, pending_open}
use Rattle.mux_history.specs.Said.{records}
use Rattle.mux_history.proofs.Dests.{dest-ok}
use Rattle.mux_history.proofs.Sends.{and-right}
use Rattle.window_ledger.specs.declared.ledger.Ledger.{Ledger}
use Rattle.window_ledger.specs.Stands.{IsConfirmed, is_open_confirmed}
use Rattle.window_ledger.specs.Leaving as account
use Rattle.channel_table.specs.declared.channel.Channel as table
use Rattle.channel_table.specs.Entries.{TableEntry}
use Rattle.channel_table.specs.Entries.{changed_at, has_remote, number_of_remote}
use Rattle.mux_core.proofs.ConfirmedTable.{close-it, close-others, closed-channels, closed-fits, closes, confirmed-channels, confirmed-table, given-fits, known-altered, not-false, plain, quiet-confirmed}
use Rattle.mux_core.proofs.Confirms.{confirm_remote}
use Rattle.channel_table.specs.Stands.{EntryFits}
use Rattle.mux_core.specs.declared.heard.Delivery.TheVariants as heard
use Rattle.mux_core.specs.State.{CoreState}
use Rattle.mux_core.specs.Stands.{CoreRepresents, TableFits}
use Rattle.mux_core.specs.Lookups.{channel_for, waits}
use Rattle.mux_core.specs.Settling.{is_lost_in, client_settled}
use Rattle.mux_core.specs.Calls.{ReceivesAs}
use Rattle.channel_table.proofs.EntryFits.{FoundFit, found-fit}
use Rattle.mux_core.proofs.ReceivesOpen.{delivers-row, own-number-is, passes-row, pending-is, pending-none}
use Rattle.mux_core.proofs.ChannelReceived.{shown-entry, shown-none}
use Rattle.mux_core.proofs.ReceivesWithin.{entry-known, holds, known-served}
use Rattle.mux_core.proofs.OpensJudged.{all-unit}

-- ---- where it goes

remote-fit : (s : CoreState) (r : ℕ) (rows : List Row) → CoreRepresents s rows → FoundFit (find (has_remote r) s.channels) (live_in rows r)
remote-fit s r rows st = found-fit (λ _. Unit {0}) (has_remote r) (λ x. is_number x.remote r) (λ e x u fits. ap (λ o. is_number o r) fits.remote) s.channels (held_of rows) (all-unit s.channels) st.channels.fit

pub none-live : (s : CoreState) (r : ℕ) (rows : List Row) → CoreRepresents s rows → find (has_remote r) s.channels ≡ None → live_in rows r ≡ None
none-live s r rows st none = by_found (live_in rows r) refl (subst (λ o. FoundFit o (live_in rows r)) none (remote-fit s r rows st))
  where
    by_found : (o : Option Channel) → live_in rows r ≡ o → FoundFit None (live_in rows r) → live_in rows r ≡ None
    by_found None h f = h
    by_found (Some x) h f = absurd (subst (FoundFit None) h f)

pub is-free : (es : List TableEntry) (r : ℕ) → is_some (number_of_remote es r) ≡ false → find (has_remote r) es ≡ None
is-free es r h = by_found (find (has_remote r) es) refl h
  where
    by_found : (o : Option TableEntry) → find (has_remote r) es ≡ o → is_some (option_map (λ (e : TableEntry). e.number) (find (has_remote r) es)) ≡ false → find (has_remote r) es ≡ None
    by_found None f h = f
    by_found (Some e) f h = absurd (let c = sym (ap (λ o. is_some (option_map (λ (e : TableEntry). e.number) o)) f) ∙ h in cc)

-- what a live one gives
pub data IsLive (rows : List Row) (r : ℕ) : Type 0 where
  live : (x : Channel) → live_in rows r ≡ Some x → IsLive rows r

pub is-live : (s : CoreState) (r : ℕ) (rows : List Row) → CoreRepresents s rows → is_some (number_of_remote s.channels r) ≡ true → IsLive rows r
is-live s r rows st h = by_found (find (has_remote r) s.channels) refl (live_in rows r) refl (remote-fit s r rows st)
  where
    by_found : (o : Option TableEntry) → find (has_remote r) s.channels ≡ o → (c : Option Channel) → live_in rows r ≡ c → FoundFit (find (has_remote r) s.channels) (live_in rows r) → IsLive rows r
    by_found o f (Some x) g fit = live x g
    by_found None f None g fit = absurd (let c = sym (ap (λ u. is_some (option_map (λ (e : TableEntry). e.number) u)) f) ∙ h in cc)
    by_found (Some e) f None g fit = absurd (subst (FoundFit (Some e)) g (subst (λ u. FoundFit u (live_in rows r)) f fit))

abbrev to : Option Channel → Option Channel → ℕ → ℕ → Dest
to None u n s = Breaks (broke.NotPending n)
to (Some x) (Some y) n s = Breaks (broke.NumberInUse s)
to (Some x) None n s = ToClient x.client

dest-confirmation : (rows : List Row) (n s w m : ℕ) (p : List ℕ) (o u : Option Channel) → read_summary p ≡ Ok (Confirmation n s w m) → pending_open rows n ≡ o → live_in rows s ≡ u → dest rows p ≡ to o u n s
dest-confirmation rows n s w m p o u e h g =
    dest-ok rows p (Confirmation n s w m) e
    ∙ (ap (λ (o' : Option Channel). elim o' as (λ _. Dest) [ None ↦ Breaks (broke.NotPending n) | Some x ↦ elim (live_in rows s) as (λ _. Dest) [ Some y ↦ Breaks (broke.NumberInUse s) | None ↦ ToClient x.client ] ]) h
    ∙ (ap (λ (u' : Option Channel). elim o as (λ _. Dest) [ None ↦ Breaks (broke.NotPending n) | Some x ↦ elim u' as (λ _. Dest) [ Some y ↦ Breaks (broke.NumberInUse s) | None ↦ ToClient x.client ] ]) g ∙ by_both o u))
  where
    by_both : (o u : Option Channel) → (elim o as (λ _. Dest) [ None ↦ Breaks (broke.NotPending n) | Some x ↦ elim u as (λ _. Dest) [ Some y ↦ Breaks (broke.NumberInUse s) | None ↦ ToClient x.client ] ]) ≡ to o u n s
    by_both None u = refl
    by_both (Some x) (Some y) = refl
    by_both (Some x) None = refl

-- ---- all of it

pub confirmation-none : (s new : CoreState) (n r w m : ℕ) (p p' : List ℕ) (up : QueueState) (rows : List Row) → CoreRepresents s rows → channel_for s.channels n ≡ None → read_summary p ≡ Ok (Confirmation n r w m) → ReceivesAs new p p' up up (heard.Broke (broke.NotPending n)) rows (dest rows p)
confirmation-none s new n r w m p p' up rows st none e = subst (ReceivesAs new p p' up up (heard.Broke (broke.NotPending n)) rows) (sym (dest-confirmation rows n r w m p None (live_in rows r) e (pending-none s n rows st (shown-none s.channels n st.channels.apart none)) refl)) (record { sent = refl; to = refl })

pub confirmation-early : (s new : CoreState) (n r w m : ℕ) (p p' : List ℕ) (up : QueueState) (c : table.Channel) (l : Ledger) (rows : List Row) → CoreRepresents s rows → channel_for s.channels n ≡ Some (c, l) → waits c l ≡ false → read_summary p ≡ Ok (Confirmation n r w m) → ReceivesAs new p p' up up (heard.Broke (broke.NotPending n)) rows (dest rows p)
confirmation-early s new n r w m p p' up c l rows st looks early e =
    let sh = shown-entry s.channels n c l st.channels.apart looks in
    let x = holds s n sh.entry rows st sh.found in
    let here : waits sh.entry.channel sh.entry.ledger ≡ false = ap (λ (d : table.Channel). waits d sh.entry.ledger) sh.channel ∙ (ap (waits c) sh.ledger ∙ early) in
    subst (ReceivesAs new p p' up up (heard.Broke (broke.NotPending n)) rows) (sym (dest-confirmation rows n r w m p None (live_in rows r) e (pending-is sh.entry n rows false here x) refl)) (record { sent = refl; to = refl })

pub confirmation-used : (s new : CoreState) (n r w m : ℕ) (p p' : List ℕ) (up : QueueState) (c : table.Channel) (l : Ledger) (rows : List Row) → CoreRepresents s rows → channel_for s.channels n ≡ Some (c, l) → waits c l ≡ true → is_some (number_of_remote s.channels r) ≡ true → read_summary p ≡ Ok (Confirmation n r w m) → ReceivesAs new p p' up up (heard.Broke (broke.NumberInUse r)) rows (dest rows p)
confirmation-used s new n r w m p p' up c l rows st looks pend used e = by_live (is-live s r rows st used)
  where
    by_live : IsLive rows r → ReceivesAs new p p' up up (heard.Broke (broke.NumberInUse r)) rows (dest rows p)
    by_live (live y g) =
        let sh = shown-entry s.channels n c l st.channels.apart looks in
        let x = holds s n sh.entry rows st sh.found in
        let here : waits sh.entry.channel sh.entry.ledger ≡ true = ap (λ (d : table.Channel). waits d sh.entry.ledger) sh.channel ∙ (ap (waits c) sh.ledger ∙ pend) in
        subst (ReceivesAs new p p' up up (heard.Broke (broke.NumberInUse r)) rows) (sym (dest-confirmation rows n r w m p (Some x.channel) (Some y) e (pending-is sh.entry n rows true here x) g)) (record { sent = refl; to = refl })

pub confirmation-given : (s new : CoreState) (n r w m : ℕ) (p : List ℕ) (up : QueueState) (c : table.Channel) (l l' : Ledger) (rows : List Row) → CoreRepresents s rows → channel_for s.channels n ≡ Some (c, l) → is_lost_in s.clients c.client ≡ false → waits c l ≡ true → is_some (number_of_remote s.channels r) ≡ false → r < 4294967296 → IsConfirmed l l' w m → is_open_confirmed l' ≡ true → new ≡ record s { channels = changed_at n (confirm_remote r l') s.channels } → read_summary p ≡ Ok (Confirmation n r w m) → ReceivesAs new p (with_recipient p (unwrap_or c.own 0)) up up (heard.Client c.client 0) rows (dest rows p)
confirmation-given s new n r w m p up c l l' rows st looks here pend free small confirms so after e =
    let sh = shown-entry s.channels n c l st.channels.apart looks in
    let x = holds s n sh.entry rows st sh.found in
    let waiting : waits sh.entry.channel sh.entry.ledger ≡ true = ap (λ (d : table.Channel). waits d sh.entry.ledger) sh.channel ∙ (ap (waits c) sh.ledger ∙ pend) in
    let none = is-free s.channels r free in
    let serves = known-served sh.entry.channel.client s.clients (entry-known s n sh.entry st.known.channels sh.found) (subst (λ (d : table.Channel). is_lost_in s.clients d.client ≡ false) (sym sh.channel) here) in
    let gives : IsConfirmed sh.entry.ledger l' w m = subst (λ (a : Ledger). IsConfirmed a l' w m) (sym sh.ledger) confirms in
    subst (λ (d : table.Channel). ReceivesAs new p (with_recipient p (unwrap_or d.own 0)) up up (heard.Client d.client 0) rows (dest rows p)) sh.channel
    (delivers-row s new sh.entry.channel.client p (with_recipient p (unwrap_or sh.entry.channel.own 0)) (Confirmation n r w m) (changed_at sh.entry.number (confirm_remote r l') s.channels) up rows st serves e
    (quiet-confirmed sh.entry.channel.client n r w m p (records (frame_payload (with_recipient p (unwrap_or sh.entry.channel.own 0)))) e refl)
    (dest-confirmation rows n r w m p (Some x.channel) None e (pending-is sh.entry n rows true waiting x) (none-live s r rows st none) ∙ ap ToClient (sym x.fits.client))
    (ap (λ i. records (frame_payload (with_recipient p i))) (own-number-is sh.entry n rows x))
    (subst (TableFits (changed_at sh.entry.number (confirm_remote r l') s.channels)) (sym (confirmed-channels sh.entry.channel.client n r w m p (records (frame_payload (with_recipient p (unwrap_or sh.entry.channel.own 0)))) rows e refl))
    (confirmed-table plain s n r w m l' sh.entry rows st sh.found none small waiting so (λ y fits. given-fits sh.entry r w m l' y waiting gives fits) (λ y h. refl)))
    (known-altered s sh.entry.number r l' st.known.channels)
    (after ∙ ap (λ (i : ℕ). let u : CoreState = record s { channels = changed_at i (confirm_remote r l') s.channels } in u) (sym sh.number)))

pub confirmation-lost : (s new : CoreState) (n r w m : ℕ) (p p' : List ℕ) (up up' : QueueState) (c : table.Channel) (l l' : Ledger) (rows : List Row) → CoreRepresents s rows → channel_for s.channels n ≡ Some (c, l) → is_lost_in s.clients c.client ≡ true → waits c l ≡ true → is_some (number_of_remote s.channels r) ≡ false → r < 4294967296 → IsConfirmed l l' w m → is_open_confirmed l' ≡ true → is_open_confirmed (account.ledger_after_close l') ≡ true → up'.waiting ≡ up.waiting ++ frame_payload (close r) → new ≡ client_settled (record s { channels = changed_at n (confirm_remote r (account.ledger_after_close l')) s.channels }) c.client → read_summary p ≡ Ok (Confirmation n r w m) → ReceivesAs new p p' up up' (heard.Lost c.client) rows (dest rows p)
confirmation-lost s new n r w m p p' up up' c l l' rows st looks lost pend free small confirms so left-so sent after e =
    let sh = shown-entry s.channels n c l st.channels.apart looks in
    let x = holds s n sh.entry rows st sh.found in
    let waiting : waits sh.entry.channel sh.entry.ledger ≡ true = ap (λ (d : table.Channel). waits d sh.entry.ledger) sh.channel ∙ (ap (waits c) sh.ledger ∙ pend) in
    let none = is-free s.channels r free in
    let gives : IsConfirmed sh.entry.ledger l' w m = subst (λ (a : Ledger). IsConfirmed a l' w m) (sym sh.ledger) confirms in
    subst (λ (d : table.Channel). ReceivesAs new p p' up up' (heard.Lost d.client) rows (dest rows p)) sh.channel
    (passes-row s new sh.entry.channel.client p p' (Confirmation n r w m) (changed_at sh.entry.number (confirm_remote r (account.ledger_after_close l')) s.channels) up up' rows st (subst (λ (d : table.Channel). is_lost_in s.clients d.client ≡ true) (sym sh.channel) lost) e
    (quiet-confirmed sh.entry.channel.client n r w m p (for_lost (rows_of sh.entry.channel.client rows) (Confirmation n r w m)) e refl)
    (dest-confirmation rows n r w m p (Some x.channel) None e (pending-is sh.entry n rows true waiting x) (none-live s r rows st none) ∙ ap ToClient (sym x.fits.client))
    (sent ∙ ap (λ ys. up.waiting ++ ys) (sym (append-nil (frame_payload (close r)))))
    (subst (TableFits (changed_at sh.entry.number (confirm_remote r (account.ledger_after_close l')) s.channels)) (sym (closed-channels sh.entry.channel.client n r w m p (for_lost (rows_of sh.entry.channel.client rows) (Confirmation n r w m)) rows e small refl))
    (confirmed-table (closes r) s n r w m (account.ledger_after_close l') sh.entry rows st sh.found none small waiting left-so (λ y fits. subst (EntryFits (confirm_remote r (account.ledger_after_close l') sh.entry)) (sym (close-it r w m y fits.held)) (closed-fits sh.entry r w m l' y waiting gives so fits)) (close-others r)))
    (known-altered s sh.entry.number r (account.ledger_after_close l') st.known.channels)
    (after ∙ (ap (λ (i : ℕ). client_settled (record s { channels = changed_at i (confirm_remote r (account.ledger_after_close l')) s.channels }) c.client) (sym sh.number) ∙ ap (λ (d : table.Channel). client_settled (record s { channels = changed_at sh.entry.number (confirm_remote r (account.ledger_after_close l')) s.channels }) d.client) (sym sh.channel))))

pub idle-ledger : (c : table.Channel) (l : Ledger) → waits c l ≡ true → is_open_confirmed l ≡ false
idle-ledger c l pend = not-false (is_open_confirmed l) (and-right (is_up c.by) (not (is_open_confirmed l)) pend)
