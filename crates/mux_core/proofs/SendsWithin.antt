-- The verdicts of a message that a client sends in a channel.
use Rattle.std.proofs.Common.{◌≡◌, ℕ, List, [], ◌∷◌, ◌++◌, true, false, Bool, refl, ◌∙◌, ap, sym, subst, Option, Some, None, Ok}
use Rattle.std.specs.Prelude.{is_some, ◌&&◌}
use Rattle.std.proofs.lemmas.List.{append-nil}
use Rattle.ssh_grammar.specs.declared.side.Side.TheVariants.{Up}
use Rattle.ssh_grammar.specs.declared.fault.Breach.{Breach}
use Rattle.ssh_grammar.specs.Frames.{frame_payload}
use Rattle.ssh_grammar.specs.Said.{Payload}
use Rattle.proxy_frames.specs.State.{QueueState}
use Rattle.proxy_frames.specs.Queued.{with_bytes}
use Rattle.mux_history.specs.declared.why.Why.{Why}
use Rattle.mux_history.specs.declared.why.Why.TheVariants as why
use Rattle.mux_history.specs.Summary.{Act, Summary, Within, read_summary, summary_sender_of}
use Rattle.mux_history.specs.Rows.{Row, Says, rows_of}
use Rattle.mux_history.specs.Channels.{Channel, own_number_of}
use Rattle.mux_history.specs.Choices.{takes_number}
use Rattle.mux_history.specs.Ledger.{breach}
use Rattle.mux_history.specs.Policy.{Policy}
use Rattle.mux_history.specs.Said.{Outcome, confirmed_at, drops, is_failing, on_breach, on_confirmed, on_waiting, sent_summary, sent_payload, sends_payload, waiting_at}
use Rattle.mux_history.specs.Treat.{bare_row}
use Rattle.mux_history.proofs.Readings.{reading-ok}
use Rattle.window_ledger.specs.declared.ledger.Ledger.{Ledger}
use Rattle.window_ledger.specs.Stands as ledger
use Rattle.channel_table.specs.Entries.{TableEntry}
use Rattle.channel_table.specs.Stands.{EntryFits}
use Rattle.mux_core.specs.declared.verdict.Verdict.TheVariants as verdict
use Rattle.mux_core.specs.State.{CoreState, is_member_served}
use Rattle.mux_core.specs.Stands.{CoreRepresents, look}
use Rattle.mux_core.specs.Lookups.{acted, confirmed_for}
use Rattle.mux_core.specs.Calls.{CoreSendsIn, SendsRow}
use Rattle.mux_core.proofs.Acts.{ActsOn}
use Rattle.mux_core.proofs.Found.{ConfirmedEntry, confirmed-entry, confirmed-fit, confirmed-none}
use Rattle.channel_table.proofs.EntryFits.{FoundFit}
use Rattle.mux_core.proofs.Served.{IsServed, served}
use Rattle.mux_core.proofs.Silent.{records-nothing}
use Rattle.mux_core.proofs.Within.{quiet, within-stands}

-- what is sent in a confirmed channel, by its message
pub said-ok : (policy : Policy) (k pick : ℕ) (own : List Row) (p : List ℕ) (m : Summary) → read_summary p ≡ Ok m → sent_payload policy k own pick p ≡ sent_summary policy k own pick p m
said-ok policy k pick own p m e = rw (e, sent_payload) refl

said-within : (policy : Policy) (k r pick : ℕ) (a : Act) (own : List Row) (p : List ℕ) → read_summary p ≡ Ok (Within r a) → is_failing a ≡ false → sent_payload policy k own pick p ≡ on_confirmed p r a (confirmed_at own r)
said-within policy k r pick a own p e fine =
    said-ok policy k pick own p (Within r a) e
    ∙ ap (λ b. elim b as (λ _. Outcome) [ true ↦ on_waiting r (sends_payload p) (waiting_at own r) | false ↦ on_confirmed p r a (confirmed_at own r) ]) fine

-- the channel that the core finds is there
record Theirs (s : CoreState) (k r : ℕ) (e0 : TableEntry) (rows : List Row) : Type 0 where
  channel : Channel
  is : confirmed_at (rows_of k rows) r ≡ Some channel
  fits : EntryFits e0 channel

theirs : (s : CoreState) (k r n : ℕ) (l : Ledger) (rows : List Row) → CoreRepresents s rows → (c : ConfirmedEntry s.channels k r n l) → Theirs s k r c.entry rows
theirs s k r n l rows st c = by_found (confirmed_at (rows_of k rows) r) refl (subst (λ o. FoundFit o (confirmed_at (rows_of k rows) r)) c.only (confirmed-fit s.channels k r rows st.channels.fit))
  where
    by_found : (o : Option Channel) → confirmed_at (rows_of k rows) r ≡ o → FoundFit (Some c.entry) (confirmed_at (rows_of k rows) r) → Theirs s k r c.entry rows
    by_found None e f = absurd (subst (FoundFit (Some c.entry)) e f)
    by_found (Some x) e f = record { channel = x; is = e; fits = subst (FoundFit (Some c.entry)) e f }

nobodys : (s : CoreState) (k r : ℕ) (rows : List Row) → CoreRepresents s rows → confirmed_for s.channels k r ≡ None → confirmed_at (rows_of k rows) r ≡ None
nobodys s k r rows st none = by_found (confirmed_at (rows_of k rows) r) refl (subst (λ o. FoundFit o (confirmed_at (rows_of k rows) r)) (confirmed-none s.channels k r st.channels.apart none) (confirmed-fit s.channels k r rows st.channels.fit))
  where
    by_found : (o : Option Channel) → confirmed_at (rows_of k rows) r ≡ o → FoundFit None (confirmed_at (rows_of k rows) r) → confirmed_at (rows_of k rows) r ≡ None
    by_found None e f = e
    by_found (Some x) e f = absurd (subst (FoundFit None) e f)

-- ---- a message that drops its client changes nothing

takes-none : (k : ℕ) (p : List ℕ) (o : Outcome) → o.sent ≡ [] → takes_number (bare_row (Says k (Payload p) None) k o) ≡ true → ⊥
takes-none k p o none h = let c : takes_number (bare_row (Says k (Payload p) None) k o) ≡ false = ap (λ (ups : List (List ℕ)). (elim ups as (λ _. Bool) [ [] ↦ false | q ∷ qs ↦ true ]) && is_some (own_number_of (Says k (Payload p) None))) none in let d = sym h ∙ c in cc

pub dropped-row : (s : CoreState) (k pick : ℕ) (p : List ℕ) (up : QueueState) (cause : Why) (rows : List Row) → sent_payload s.policy k (rows_of k rows) pick p ≡ drops cause → CoreSendsIn s s k p pick up up (verdict.Drop cause) rows
dropped-row s k pick p up cause rows e = subst (λ o. SendsRow s s (bare_row (Says k (Payload p) None) k o) pick up up (verdict.Drop cause) rows) (sym e) (record {
  sent = ap (λ (bs : List ℕ). let q : QueueState = record up { waiting = bs } in q) (sym (append-nil up.waiting));
  shows = (refl, refl);
  fresh = λ h. absurd (takes-none k p (drops cause) refl h);
  stands = refl;
})

pub not-yours : (s : CoreState) (k r : ℕ) (a : Act) (p : List ℕ) (up : QueueState) (rows : List Row) → CoreRepresents s rows → confirmed_for s.channels k r ≡ None → is_failing a ≡ false → read_summary p ≡ Ok (Within r a) → CoreSendsIn s s k p 0 up up (verdict.Drop (why.NotYours r)) rows
not-yours s k r a p up rows st none fine e =
    dropped-row s k 0 p up (why.NotYours r) rows (said-within s.policy k r 0 a (rows_of k rows) p e fine ∙ ap (on_confirmed p r a) (nobodys s k r rows st none))

pub breaks-account : (s : CoreState) (k r n : ℕ) (l : Ledger) (a : Act) (p : List ℕ) (up : QueueState) (b : Breach) (rows : List Row) → CoreRepresents s rows → confirmed_for s.channels k r ≡ Some (n, l) → ((x : Channel) → ledger.LedgerRepresents l x → breach Up a x ≡ Some b) → is_failing a ≡ false → read_summary p ≡ Ok (Within r a) → CoreSendsIn s s k p 0 up up (verdict.Drop (why.Channel r b)) rows
breaks-account s k r n l a p up b rows st found broken fine e =
    let c = confirmed-entry s.channels k r n l st.channels.apart found in
    let t = theirs s k r n l rows st c in
    dropped-row s k 0 p up (why.Channel r b) rows (said-within s.policy k r 0 a (rows_of k rows) p e fine ∙ (ap (on_confirmed p r a) t.is ∙ ap (on_breach p r) (broken t.channel (subst (λ m. ledger.LedgerRepresents m t.channel) c.ledger t.fits.ledger))))

-- ---- one that is sent

pub takes-within : (k r : ℕ) (a : Act) (p : List ℕ) → read_summary p ≡ Ok (Within r a) → takes_number (bare_row (Says k (Payload p) None) k (sends_payload p)) ≡ false
takes-within k r a p e = ap is_some (reading-ok p (Within r a) summary_sender_of None e)

pub is-sent : (s new : CoreState) (k r n : ℕ) (l l' : Ledger) (over : Bool) (a : Act) (p : List ℕ) (up : QueueState) (rows : List Row) → CoreRepresents s rows → is_member_served s.clients k ≡ true → confirmed_for s.channels k r ≡ Some (n, l) → ((x : Channel) → ledger.LedgerRepresents l x → breach Up a x ≡ None) → ActsOn Up a l l' over → is_failing a ≡ false → new ≡ record s { channels = acted n l' over s.channels } → read_summary p ≡ Ok (Within r a) → CoreSendsIn s new k p 0 up (with_bytes (frame_payload p) up) verdict.Sent rows
is-sent s new k r n l l' over a p up rows st serves found fine acts plain after e =
    let c = confirmed-entry s.channels k r n l st.channels.apart found in
    let t = theirs s k r n l rows st c in
    let does : sent_payload s.policy k (rows_of k rows) 0 p ≡ sends_payload p = said-within s.policy k r 0 a (rows_of k rows) p e plain ∙ (ap (on_confirmed p r a) t.is ∙ ap (on_breach p r) (fine t.channel (subst (λ m. ledger.LedgerRepresents m t.channel) c.ledger t.fits.ledger))) in
    let is : IsServed k (look rows) = served (look rows) k s.clients st.clients.each serves in
    let stands : CoreRepresents new (bare_row (Says k (Payload p) None) k (sends_payload p) ∷ rows) = subst (λ u. CoreRepresents u (bare_row (Says k (Payload p) None) k (sends_payload p) ∷ rows)) (ap (λ i. let u : CoreState = record s { channels = acted i l' over s.channels } in u) c.number ∙ sym after) (within-stands s k r n a p l l' over rows st is e c (subst (λ m. ActsOn Up a m l' over) (sym c.ledger) acts)) in
    subst (λ o. SendsRow s new (bare_row (Says k (Payload p) None) k o) 0 up (with_bytes (frame_payload p) up) verdict.Sent rows) (sym does) (record {
      sent = ap (λ (bs : List ℕ). let q : QueueState = record up { waiting = up.waiting ++ bs } in q) (sym (append-nil (frame_payload p)));
      shows = (refl, refl, records-nothing (bare_row (Says k (Payload p) None) k (sends_payload p)) (quiet k r a p e) refl (rows_of k rows));
      fresh = λ h. absurd (let d = sym h ∙ takes-within k r a p e in cc);
      stands = stands;
    })
