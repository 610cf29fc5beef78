-- A client refuses a server's open.
use Rattle.std.proofs.Common.{◌≡◌, ℕ, List, [], ◌∷◌, ◌++◌, map, true, false, Bool, refl, ◌∙◌, ap, sym, subst, Option, Some, None, Ok}
use Rattle.std.specs.Prelude.{filter, find, ◌&&◌, ◌==◌, not}
use Rattle.std.proofs.lemmas.List.{append-nil}
use Rattle.ssh_grammar.specs.declared.side.Side.TheVariants.{Up}
use Rattle.ssh_grammar.specs.Frames.{frame_payload}
use Rattle.ssh_grammar.specs.Said.{Payload}
use Rattle.proxy_frames.specs.State.{QueueState}
use Rattle.proxy_frames.specs.Queued.{with_bytes}
use Rattle.mux_history.specs.declared.why.Why.TheVariants as why
use Rattle.mux_history.specs.Summary.{Fails, Within, read_summary}
use Rattle.mux_history.specs.Rows.{Row, Says, rows_of}
use Rattle.mux_history.specs.Channels.{Channel, after_item, held_of, is_channel_held, opened_up}
use Rattle.mux_history.specs.Said.{on_waiting, sent_payload, sends_payload, waiting_at}
use Rattle.mux_history.specs.Treat.{bare_row}
use Rattle.mux_history.proofs.Readings.{reading-ok}
use Rattle.window_ledger.specs.declared.ledger.Ledger.{Ledger}
use Rattle.channel_table.specs.Entries.{TableEntry}
use Rattle.channel_table.specs.Entries.{freed, has_remote, is_channel_of}
use Rattle.channel_table.specs.Stands.{EntryFits}
use Rattle.mux_core.specs.declared.verdict.Verdict.TheVariants as verdict
use Rattle.mux_core.specs.State.{CoreState, is_member_served}
use Rattle.mux_core.specs.Stands.{CoreRepresents, TableFits, is_member_known, look}
use Rattle.mux_core.specs.Lookups.{open_waiting_for}
use Rattle.mux_core.specs.Calls.{CoreSendsIn, SendsRow}
use Rattle.mux_core.proofs.Apart.{all-filter, alone, passes}
use Rattle.mux_core.proofs.Awaiting.{WaitingEntry, waiting-entry, waiting-fit, waiting-none}
use Rattle.mux_core.proofs.Bare.{after-said, held-bare, up_act}
use Rattle.mux_core.proofs.Failing.{free-table}
use Rattle.channel_table.proofs.EntryFits.{FoundFit}
use Rattle.mux_core.proofs.Found.{find-narrow, only_if, remote-sole}
use Rattle.mux_core.proofs.SendsWithin.{dropped-row, said-ok, takes-within}
use Rattle.mux_core.proofs.Served.{IsServed, quiet-stands, served}
use Rattle.mux_core.proofs.Silent.{records-nothing}
use Rattle.mux_core.proofs.Within.{does, is_theirs, quiet, sent_row, sole}

-- ---- the open that waits

-- the channel that the core finds is there
pub record Waits (k r : ℕ) (e0 : TableEntry) (rows : List Row) : Type 0 where
  pub channel : Channel
  pub is : waiting_at (rows_of k rows) r ≡ Some channel
  pub fits : EntryFits e0 channel

pub waits : (s : CoreState) (k r n : ℕ) (l : Ledger) (rows : List Row) → CoreRepresents s rows → (c : WaitingEntry s.channels k r n l) → Waits k r c.entry rows
waits s k r n l rows st c = by_found (waiting_at (rows_of k rows) r) refl (subst (λ o. FoundFit o (waiting_at (rows_of k rows) r)) c.only (waiting-fit s.channels k r rows st.channels.fit))
  where
    by_found : (o : Option Channel) → waiting_at (rows_of k rows) r ≡ o → FoundFit (Some c.entry) (waiting_at (rows_of k rows) r) → Waits k r c.entry rows
    by_found None e f = absurd (subst (FoundFit (Some c.entry)) e f)
    by_found (Some x) e f = record { channel = x; is = e; fits = subst (FoundFit (Some c.entry)) e f }

pub nobody-waits : (s : CoreState) (k r : ℕ) (rows : List Row) → CoreRepresents s rows → open_waiting_for s.channels k r ≡ None → waiting_at (rows_of k rows) r ≡ None
nobody-waits s k r rows st none = by_found (waiting_at (rows_of k rows) r) refl (subst (λ o. FoundFit o (waiting_at (rows_of k rows) r)) (waiting-none s.channels k r st.channels.apart none) (waiting-fit s.channels k r rows st.channels.fit))
  where
    by_found : (o : Option Channel) → waiting_at (rows_of k rows) r ≡ o → FoundFit None (waiting_at (rows_of k rows) r) → waiting_at (rows_of k rows) r ≡ None
    by_found None e f = e
    by_found (Some x) e f = absurd (subst (FoundFit None) e f)

pub theirs-found : (s : CoreState) (k r n : ℕ) (l : Ledger) (rows : List Row) → CoreRepresents s rows → (c : WaitingEntry s.channels k r n l) → find (is_theirs k r) s.channels ≡ Some c.entry
theirs-found s k r n l rows st c =
    find-narrow (has_remote r) (is_theirs k r) (remote-sole r) (λ e h. right (is_channel_of k e) (has_remote r e) h) c.entry s.channels st.channels.apart c.found
    ∙ ap (λ b. only_if b c.entry) (ap (λ b. b && has_remote r c.entry) c.mine ∙ passes (has_remote r) c.entry s.channels c.found)
  where
    right : (b d : Bool) → (b && d) ≡ true → d ≡ true
    right true d h = h
    right false d h = cc

-- ---- the verdicts

pub refuses-none : (s : CoreState) (k r : ℕ) (p : List ℕ) (up : QueueState) (rows : List Row) → CoreRepresents s rows → open_waiting_for s.channels k r ≡ None → read_summary p ≡ Ok (Within r Fails) → CoreSendsIn s s k p 0 up up (verdict.Drop (why.NotYours r)) rows
refuses-none s k r p up rows st none e = dropped-row s k 0 p up (why.NotYours r) rows (said-ok s.policy k 0 (rows_of k rows) p (Within r Fails) e ∙ ap (on_waiting r (sends_payload p)) (nobody-waits s k r rows st none))

pub refuses : (s new : CoreState) (k r n : ℕ) (l : Ledger) (p : List ℕ) (up : QueueState) (rows : List Row) → CoreRepresents s rows → is_member_served s.clients k ≡ true → open_waiting_for s.channels k r ≡ Some (n, l) → new ≡ record s { channels = freed n s.channels } → read_summary p ≡ Ok (Within r Fails) → CoreSendsIn s new k p 0 up (with_bytes (frame_payload p) up) verdict.Sent rows
refuses s new k r n l p up rows st serves found after e =
    let c = waiting-entry s.channels k r n l st.channels.apart found in
    let t = waits s k r n l rows st c in
    let does_ : sent_payload s.policy k (rows_of k rows) 0 p ≡ sends_payload p = said-ok s.policy k 0 (rows_of k rows) p (Within r Fails) e ∙ ap (on_waiting r (sends_payload p)) t.is in
    let is : IsServed k (look rows) = served (look rows) k s.clients st.clients.each serves in
    let stands : CoreRepresents new (sent_row k p ∷ rows) = subst (λ u. CoreRepresents u (sent_row k p ∷ rows)) (ap (λ i. let u : CoreState = record s { channels = freed i s.channels } in u) c.number ∙ sym after)
    (quiet-stands s (freed c.entry.number s.channels) (sent_row k p) rows st (quiet k r Fails p e) is
    (subst (TableFits (freed c.entry.number s.channels)) (sym held) (free-table Up (is_theirs k r) (up_act k r Fails) c.entry s.channels (held_of rows) (does k r Fails) (alone (is_theirs k r) (sole k r) c.entry s.channels st.channels.apart (theirs-found s k r n l rows st c)) st.channels))
    (all-filter (λ (f : TableEntry). is_member_known s.clients f.channel.client ≡ true) (λ (f : TableEntry). not (f.number == c.entry.number)) s.channels st.known.channels)) in
    subst (λ o. SendsRow s new (bare_row (Says k (Payload p) None) k o) 0 up (with_bytes (frame_payload p) up) verdict.Sent rows) (sym does_) (record {
      sent = ap (λ (bs : List ℕ). let q : QueueState = record up { waiting = up.waiting ++ bs } in q) (sym (append-nil (frame_payload p)));
      shows = (refl, refl, records-nothing (sent_row k p) (quiet k r Fails p e) refl (rows_of k rows));
      fresh = λ h. absurd (let d = sym h ∙ takes-within k r Fails p e in cc);
      stands = stands;
    })
  where
    held : held_of (sent_row k p ∷ rows) ≡ filter is_channel_held (map (up_act k r Fails) (held_of rows))
    held =
        held-bare (Says k (Payload p) None) k (sends_payload p) rows
        ∙ ap (filter is_channel_held) (ap (λ ys. map (after_item (sent_row k p)) (held_of rows) ++ ys) (reading-ok p (Within r Fails) (opened_up k (p ∷ [])) [] e) ∙ (append-nil (map (after_item (sent_row k p)) (held_of rows)) ∙ ap (λ (g : Channel → Channel). map g (held_of rows)) (λ i x. after-said k r Fails p x e i)))
