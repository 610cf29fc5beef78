-- A message that the server sends in a channel: where it goes, to a client that is served or lost.
use Rattle.std.proofs.Common.{◌≡◌, ℕ, List, [], ◌∷◌, ◌++◌, map, true, false, Bool, refl, ◌∙◌, ap, sym, subst, Option, Some, None, Ok}
use Rattle.std.specs.Prelude.{find, ◌==◌, ◌&&◌, ◌||◌, not, unwrap_or}
use Rattle.std.specs.List.{AllByRecursion}
use Rattle.std.proofs.lemmas.List.{append-nil}
use Rattle.ssh_grammar.specs.declared.side.Side.TheVariants.{Down}
use Rattle.ssh_grammar.specs.declared.fault.Breach.{Breach}
use Rattle.ssh_grammar.specs.SpellMessage.{with_recipient}
use Rattle.ssh_grammar.specs.Frames.{frame_payload}
use Rattle.proxy_frames.specs.State.{QueueState}
use Rattle.mux_history.specs.declared.broke.Break.TheVariants as broke
use Rattle.mux_history.specs.Summary.{Act, Fails, Within, read_summary}
use Rattle.mux_history.specs.Rows.{Heard, Row, is_lost, rows_of}
use Rattle.mux_history.specs.Channels.{Channel, holder}
use Rattle.mux_history.specs.Heard.{Breaks, Dest, ToClient, dest, dest_summary, for_client, for_lost, received_for, own_number}
use Rattle.mux_history.specs.Ledger.{breach}
use Rattle.mux_history.specs.Pending.{joined}
use Rattle.mux_history.specs.Said.{Outcome, is_failing, records}
use Rattle.mux_history.specs.Treat.{all_recorded, bare_row}
use Rattle.mux_history.proofs.Bools.{self}
use Rattle.mux_history.proofs.Dests.{dest-ok}
use Rattle.window_ledger.specs.declared.ledger.Ledger.{Ledger}
use Rattle.window_ledger.specs.Stands as ledger
use Rattle.channel_table.specs.declared.channel.Channel as table
use Rattle.channel_table.specs.Entries.{TableEntry}
use Rattle.channel_table.specs.Entries.{shown_at}
use Rattle.channel_table.specs.Stands.{EntryFits}
use Rattle.mux_core.specs.declared.heard.Delivery as recorded
use Rattle.mux_core.specs.declared.heard.Delivery.TheVariants as heard
use Rattle.mux_core.specs.State.{MemberState, CoreState, is_member_served}
use Rattle.mux_core.specs.Stands.{CoreRepresents, is_member_known, look}
use Rattle.mux_core.specs.Lookups.{acted, channel_for}
use Rattle.mux_core.specs.Settling.{is_lost_in, client_settled}
use Rattle.mux_core.proofs.ChannelReceived.{heard-table, holder-fit, own-holder, quiet-heard, shown-entry, still-known}
use Rattle.mux_core.proofs.Settles.{lost-stands, lost-there}
use Rattle.mux_core.specs.Calls.{ReceivesAs, ReceivesClient}
use Rattle.mux_core.specs.Delivering.{DeliversAs}
use Rattle.mux_core.proofs.Acts.{ActsOn}
use Rattle.mux_core.proofs.Apart.{found-of}
use Rattle.channel_table.proofs.EntryFits.{FoundFit}
use Rattle.mux_core.proofs.Says.{records-own}
use Rattle.mux_core.proofs.Served.{IsServed, quiet-stands, served}

-- ---- where it goes

dest-within : (rows : List Row) (n : ℕ) (a : Act) (p : List ℕ) → read_summary p ≡ Ok (Within n a) → is_failing a ≡ false → dest rows p ≡ elim (holder rows n) as (λ _. Dest) [ None ↦ Breaks (broke.NoChannel n) | Some x ↦ elim (breach Down a x) as (λ _. Dest) [ Some b ↦ Breaks (broke.Channel n b) | None ↦ ToClient x.client ] ]
dest-within rows n a p e plain = dest-ok rows p (Within n a) e ∙ by_act a plain
  where
    by_act : (a : Act) → is_failing a ≡ false → dest_summary rows (Within n a) ≡ elim (holder rows n) as (λ _. Dest) [ None ↦ Breaks (broke.NoChannel n) | Some x ↦ elim (breach Down a x) as (λ _. Dest) [ Some b ↦ Breaks (broke.Channel n b) | None ↦ ToClient x.client ] ]
    by_act Fails h = absurd (cc)
    by_act a h = refl

pub nobody : (s new : CoreState) (n : ℕ) (a : Act) (p p' : List ℕ) (up : QueueState) (rows : List Row) → CoreRepresents s rows → find (shown_at n) s.channels ≡ None → is_failing a ≡ false → read_summary p ≡ Ok (Within n a) → ReceivesAs new p p' up up (heard.Broke (broke.NoChannel n)) rows (dest rows p)
nobody s new n a p p' up rows st none plain e = subst (ReceivesAs new p p' up up (heard.Broke (broke.NoChannel n)) rows) (sym (dest-within rows n a p e plain ∙ ap (λ (o : Option Channel). elim o as (λ _. Dest) [ None ↦ Breaks (broke.NoChannel n) | Some x ↦ elim (breach Down a x) as (λ _. Dest) [ Some b ↦ Breaks (broke.Channel n b) | None ↦ ToClient x.client ] ]) (held-none (holder rows n) refl (subst (λ o. FoundFit o (holder rows n)) none (holder-fit s n rows st))))) (record { sent = refl; to = refl })
  where
    held-none : (o : Option Channel) → holder rows n ≡ o → FoundFit None (holder rows n) → holder rows n ≡ None
    held-none None h f = h
    held-none (Some x) h f = absurd (subst (FoundFit None) h f)

-- the channel of the entry
pub record Holds (e0 : TableEntry) (n : ℕ) (rows : List Row) : Type 0 where
  pub channel : Channel
  pub is : holder rows n ≡ Some channel
  pub fits : EntryFits e0 channel

pub holds : (s : CoreState) (n : ℕ) (e0 : TableEntry) (rows : List Row) → CoreRepresents s rows → find (shown_at n) s.channels ≡ Some e0 → Holds e0 n rows
holds s n e0 rows st h = by_found (holder rows n) refl (subst (λ o. FoundFit o (holder rows n)) h (holder-fit s n rows st))
  where
    by_found : (o : Option Channel) → holder rows n ≡ o → FoundFit (Some e0) (holder rows n) → Holds e0 n rows
    by_found None e f = absurd (subst (FoundFit (Some e0)) e f)
    by_found (Some x) e f = record { channel = x; is = e; fits = subst (FoundFit (Some e0)) e f }

pub breaks : (s new : CoreState) (n : ℕ) (a : Act) (p p' : List ℕ) (up : QueueState) (e0 : TableEntry) (b : Breach) (rows : List Row) → CoreRepresents s rows → find (shown_at n) s.channels ≡ Some e0 → ((x : Channel) → ledger.LedgerRepresents e0.ledger x → breach Down a x ≡ Some b) → is_failing a ≡ false → read_summary p ≡ Ok (Within n a) → ReceivesAs new p p' up up (heard.Broke (broke.Channel n b)) rows (dest rows p)
breaks s new n a p p' up e0 b rows st h broken plain e =
    let x = holds s n e0 rows st h in
    subst (ReceivesAs new p p' up up (heard.Broke (broke.Channel n b)) rows)
    (sym (dest-within rows n a p e plain ∙ (ap (λ (o : Option Channel). elim o as (λ _. Dest) [ None ↦ Breaks (broke.NoChannel n) | Some x ↦ elim (breach Down a x) as (λ _. Dest) [ Some b ↦ Breaks (broke.Channel n b) | None ↦ ToClient x.client ] ]) x.is ∙ ap (λ (o : Option Breach). elim o as (λ _. Dest) [ Some b ↦ Breaks (broke.Channel n b) | None ↦ ToClient x.channel.client ]) (broken x.channel x.fits.ledger))))
    (record { sent = refl; to = refl })

pub goes-to : (s : CoreState) (n : ℕ) (a : Act) (p : List ℕ) (e0 : TableEntry) (rows : List Row) → CoreRepresents s rows → find (shown_at n) s.channels ≡ Some e0 → ((x : Channel) → ledger.LedgerRepresents e0.ledger x → breach Down a x ≡ None) → is_failing a ≡ false → read_summary p ≡ Ok (Within n a) → dest rows p ≡ ToClient e0.channel.client
goes-to s n a p e0 rows st h fine plain e =
    let x = holds s n e0 rows st h in
    dest-within rows n a p e plain ∙ (ap (λ (o : Option Channel). elim o as (λ _. Dest) [ None ↦ Breaks (broke.NoChannel n) | Some x ↦ elim (breach Down a x) as (λ _. Dest) [ Some b ↦ Breaks (broke.Channel n b) | None ↦ ToClient x.client ] ]) x.is ∙ (ap (λ (o : Option Breach). elim o as (λ _. Dest) [ Some b ↦ Breaks (broke.Channel n b) | None ↦ ToClient x.channel.client ]) (fine x.channel x.fits.ledger) ∙ ap ToClient (sym x.fits.client)))

-- ---- to a client that is served

pub delivers : (s new : CoreState) (n : ℕ) (a : Act) (p : List ℕ) (up : QueueState) (e0 : TableEntry) (l : Ledger) (over : Bool) (rows : List Row) → CoreRepresents s rows → is_member_served s.clients e0.channel.client ≡ true → find (shown_at n) s.channels ≡ Some e0 → ((x : Channel) → ledger.LedgerRepresents e0.ledger x → breach Down a x ≡ None) → ActsOn Down a e0.ledger l over → is_failing a ≡ false → new ≡ record s { channels = acted e0.number l over s.channels } → read_summary p ≡ Ok (Within n a) → ReceivesAs new p (with_recipient p (unwrap_or e0.channel.own 0)) up up (heard.Client e0.channel.client 0) rows (dest rows p)
delivers s new n a p up e0 l over rows st serves h fine acts plain after e =
    subst (ReceivesAs new p (with_recipient p (unwrap_or e0.channel.own 0)) up up (heard.Client e0.channel.client 0) rows) (sym (goes-to s n a p e0 rows st h fine plain e)) recorded
  where
    k : ℕ
    k = e0.channel.client

    is : IsServed e0.channel.client (look rows)
    is = served (look rows) e0.channel.client s.clients st.clients.each serves

    number-is : (x : Holds e0 n rows) → own_number (holder (rows_of e0.channel.client rows) n) ≡ unwrap_or e0.channel.own 0
    number-is x = ap own_number (own-holder e0.channel.client n x.channel rows x.is (ap (λ i. i == e0.channel.client) (sym x.fits.client) ∙ self e0.channel.client)) ∙ by_own x.channel.own x.fits.own
      where
        by_own : (o : Option ℕ) → e0.channel.own ≡ o → (elim o as (λ _. ℕ) [ None ↦ 0 | Some c ↦ c ]) ≡ unwrap_or e0.channel.own 0
        by_own None g = sym (ap (λ o. unwrap_or o 0) g)
        by_own (Some c) g = sym (ap (λ o. unwrap_or o 0) g)

    outcome : received_for (rows_of e0.channel.client rows) p ≡ records (frame_payload (with_recipient p (unwrap_or e0.channel.own 0)))
    outcome =
        rw (e, received_for) (ap (λ (b : Bool). elim b as (λ _. Outcome) [ true ↦ for_lost (rows_of e0.channel.client rows) (Within n a) | false ↦ for_client (rows_of e0.channel.client rows) p (Within n a) ]) is.here
        ∙ ap (λ c. records (frame_payload (with_recipient p c))) (number-is (holds s n e0 rows st h)))

    recorded : ReceivesClient new e0.channel.client p (with_recipient p (unwrap_or e0.channel.own 0)) up up (heard.Client e0.channel.client 0) rows
    recorded =
        let q = quiet-heard e0.channel.client n a p (records (frame_payload (with_recipient p (unwrap_or e0.channel.own 0)))) e refl in
        let stands : CoreRepresents new (bare_row (Heard p) e0.channel.client (records (frame_payload (with_recipient p (unwrap_or e0.channel.own 0)))) ∷ rows) = subst (λ u. CoreRepresents u (bare_row (Heard p) e0.channel.client (records (frame_payload (with_recipient p (unwrap_or e0.channel.own 0)))) ∷ rows)) (sym after) (quiet-stands s (acted e0.number l over s.channels) (bare_row (Heard p) e0.channel.client (records (frame_payload (with_recipient p (unwrap_or e0.channel.own 0))))) rows st q is (heard-table s n a p e0 l over (records (frame_payload (with_recipient p (unwrap_or e0.channel.own 0)))) rows st h acts refl e) (still-known s e0.number l over st.known.channels)) in
        record {
          sent = sym (ap (λ (o : Outcome). up.waiting ++ joined (map frame_payload o.sent)) outcome ∙ append-nil up.waiting);
          to = (is.here, refl);
          recorded = ap (λ (o : Outcome). all_recorded (bare_row (Heard p) e0.channel.client o) (rows_of e0.channel.client rows)) outcome ∙ records-own (bare_row (Heard p) e0.channel.client (records (frame_payload (with_recipient p (unwrap_or e0.channel.own 0))))) q (rows_of e0.channel.client rows);
          stands = subst (λ o. CoreRepresents new (bare_row (Heard p) e0.channel.client o ∷ rows)) (sym outcome) stands;
        }

-- ---- to a client that is lost

pub passes-by : (s new : CoreState) (n : ℕ) (a : Act) (p p' : List ℕ) (up : QueueState) (e0 : TableEntry) (l : Ledger) (over : Bool) (rows : List Row) → CoreRepresents s rows → is_lost_in s.clients e0.channel.client ≡ true → find (shown_at n) s.channels ≡ Some e0 → ((x : Channel) → ledger.LedgerRepresents e0.ledger x → breach Down a x ≡ None) → ActsOn Down a e0.ledger l over → is_failing a ≡ false → new ≡ client_settled (record s { channels = acted e0.number l over s.channels }) e0.channel.client → read_summary p ≡ Ok (Within n a) → ReceivesAs new p p' up up (heard.Lost e0.channel.client) rows (dest rows p)
passes-by s new n a p p' up e0 l over rows st lost h fine acts plain after e =
    subst (ReceivesAs new p p' up up (heard.Lost e0.channel.client) rows) (sym (goes-to s n a p e0 rows st h fine plain e)) recorded
  where
    there : is_lost (rows_of e0.channel.client rows) ≡ true
    there = lost-there (look rows) e0.channel.client s.clients st.clients.each lost

    outcome : received_for (rows_of e0.channel.client rows) p ≡ for_lost (rows_of e0.channel.client rows) (Within n a)
    outcome = rw (e, received_for) (ap (λ (b : Bool). elim b as (λ _. Outcome) [ true ↦ for_lost (rows_of e0.channel.client rows) (Within n a) | false ↦ for_client (rows_of e0.channel.client rows) p (Within n a) ]) there)

    recorded : ReceivesClient new e0.channel.client p p' up up (heard.Lost e0.channel.client) rows
    recorded =
        let q = quiet-heard e0.channel.client n a p (for_lost (rows_of e0.channel.client rows) (Within n a)) e refl in
        let stands : CoreRepresents new (bare_row (Heard p) e0.channel.client (for_lost (rows_of e0.channel.client rows) (Within n a)) ∷ rows) = subst (λ u. CoreRepresents u (bare_row (Heard p) e0.channel.client (for_lost (rows_of e0.channel.client rows) (Within n a)) ∷ rows)) (sym after) (lost-stands s (acted e0.number l over s.channels) (bare_row (Heard p) e0.channel.client (for_lost (rows_of e0.channel.client rows) (Within n a))) rows st q lost (heard-table s n a p e0 l over (for_lost (rows_of e0.channel.client rows) (Within n a)) rows st h acts refl e) (still-known s e0.number l over st.known.channels)) in
        record {
          sent = sym (ap (λ (o : Outcome). up.waiting ++ joined (map frame_payload o.sent)) outcome ∙ append-nil up.waiting);
          to = (there, refl);
          recorded = ap (λ (o : Outcome). all_recorded (bare_row (Heard p) e0.channel.client o) (rows_of e0.channel.client rows)) outcome ∙ records-own (bare_row (Heard p) e0.channel.client (for_lost (rows_of e0.channel.client rows) (Within n a))) q (rows_of e0.channel.client rows);
          stands = subst (λ o. CoreRepresents new (bare_row (Heard p) e0.channel.client o ∷ rows)) (sym outcome) stands;
        }

-- a client with a channel that isn't lost is served
pub known-served : (k : ℕ) (cs : List MemberState) → is_member_known cs k ≡ true → is_lost_in cs k ≡ false → is_member_served cs k ≡ true
known-served k [] known here = known
known-served k (c ∷ cs) known here = by_case (known-served k cs) (c.number == k) refl c.lost refl known here
  where
    by_case : (is_member_known cs k ≡ true → is_lost_in cs k ≡ false → is_member_served cs k ≡ true) → (b : Bool) → (c.number == k) ≡ b → (d : Bool) → c.lost ≡ d → is_member_known (c ∷ cs) k ≡ true → is_lost_in (c ∷ cs) k ≡ false → is_member_served (c ∷ cs) k ≡ true
    by_case ih true n false d kn he = ap (λ b. b || is_member_served cs k) (ap (λ b. b && not c.lost) n ∙ ap not d)
    by_case ih true n true d kn he = absurd (let z : is_lost_in (c ∷ cs) k ≡ true = ap (λ b. b || is_lost_in cs k) (ap (λ b. b && c.lost) n ∙ d) in let y = sym z ∙ he in cc)
    by_case ih false n d e kn he = ap (λ b. (b && not c.lost) || is_member_served cs k) n ∙ ih (sym (ap (λ b. b || is_member_known cs k) n) ∙ kn) (sym (ap (λ b. (b && c.lost) || is_lost_in cs k) n) ∙ he)

pub entry-known : (s : CoreState) (n : ℕ) (e0 : TableEntry) → AllByRecursion (λ e. is_member_known s.clients e.channel.client ≡ true) s.channels → find (shown_at n) s.channels ≡ Some e0 → is_member_known s.clients e0.channel.client ≡ true
entry-known s n e0 known h = found-of (λ e. is_member_known s.clients e.channel.client ≡ true) (shown_at n) e0 s.channels known h

-- ---- by what the core looks up

pub delivers-for : (s new : CoreState) (n : ℕ) (a : Act) (p : List ℕ) (up : QueueState) (c : table.Channel) (l l' : Ledger) (over : Bool) (rows : List Row) → CoreRepresents s rows → channel_for s.channels n ≡ Some (c, l) → is_lost_in s.clients c.client ≡ false → ((x : Channel) → ledger.LedgerRepresents l x → breach Down a x ≡ None) → ActsOn Down a l l' over → is_failing a ≡ false → new ≡ record s { channels = acted n l' over s.channels } → read_summary p ≡ Ok (Within n a) → ReceivesAs new p (with_recipient p (unwrap_or c.own 0)) up up (heard.Client c.client 0) rows (dest rows p)
delivers-for s new n a p up c l l' over rows st looks here fine acts plain after e =
    let sh = shown-entry s.channels n c l st.channels.apart looks in
    let serves = known-served sh.entry.channel.client s.clients (entry-known s n sh.entry st.known.channels sh.found) (subst (λ (d : table.Channel). is_lost_in s.clients d.client ≡ false) (sym sh.channel) here) in
    subst (λ (d : table.Channel). ReceivesAs new p (with_recipient p (unwrap_or d.own 0)) up up (heard.Client d.client 0) rows (dest rows p)) sh.channel
    (delivers s new n a p up sh.entry l' over rows st serves sh.found (subst (λ m. (x : Channel) → ledger.LedgerRepresents m x → breach Down a x ≡ None) (sym sh.ledger) fine) (subst (λ m. ActsOn Down a m l' over) (sym sh.ledger) acts) plain (after ∙ ap (λ (i : ℕ). let u : CoreState = record s { channels = acted i l' over s.channels } in u) (sym sh.number)) e)

pub passes-for : (s new : CoreState) (n : ℕ) (a : Act) (p p' : List ℕ) (up : QueueState) (c : table.Channel) (l l' : Ledger) (over : Bool) (rows : List Row) → CoreRepresents s rows → channel_for s.channels n ≡ Some (c, l) → is_lost_in s.clients c.client ≡ true → ((x : Channel) → ledger.LedgerRepresents l x → breach Down a x ≡ None) → ActsOn Down a l l' over → is_failing a ≡ false → new ≡ client_settled (record s { channels = acted n l' over s.channels }) c.client → read_summary p ≡ Ok (Within n a) → ReceivesAs new p p' up up (heard.Lost c.client) rows (dest rows p)
passes-for s new n a p p' up c l l' over rows st looks lost fine acts plain after e =
    let sh = shown-entry s.channels n c l st.channels.apart looks in
    subst (λ (d : table.Channel). ReceivesAs new p p' up up (heard.Lost d.client) rows (dest rows p)) sh.channel
    (passes-by s new n a p p' up sh.entry l' over rows st (subst (λ (d : table.Channel). is_lost_in s.clients d.client ≡ true) (sym sh.channel) lost) sh.found (subst (λ m. (x : Channel) → ledger.LedgerRepresents m x → breach Down a x ≡ None) (sym sh.ledger) fine) (subst (λ m. ActsOn Down a m l' over) (sym sh.ledger) acts) plain (after ∙ (ap (λ (i : ℕ). client_settled (record s { channels = acted i l' over s.channels }) c.client) (sym sh.number) ∙ ap (λ (d : table.Channel). client_settled (record s { channels = acted sh.entry.number l' over s.channels }) d.client) (sym sh.channel))) e)

pub within-delivered : (s mid new : CoreState) (n : ℕ) (a : Act) (p p' : List ℕ) (up : QueueState) (c : table.Channel) (l l' : Ledger) (over : Bool) (h : recorded.Delivery) (rows : List Row) → CoreRepresents s rows → channel_for s.channels n ≡ Some (c, l) → ((x : Channel) → ledger.LedgerRepresents l x → breach Down a x ≡ None) → ActsOn Down a l l' over → is_failing a ≡ false → mid ≡ record s { channels = acted n l' over s.channels } → DeliversAs (is_lost_in mid.clients c.client) mid new c p p' h → read_summary p ≡ Ok (Within n a) → ReceivesAs new p p' up up h rows (dest rows p)
within-delivered s mid new n a p p' up c l l' over h rows st looks fine acts plain is goes e =
    by_case (is_lost_in s.clients c.client) refl (subst (λ (u : CoreState). DeliversAs (is_lost_in u.clients c.client) u new c p p' h) is goes)
  where
    by_case : (b : Bool) → is_lost_in s.clients c.client ≡ b → DeliversAs b (record s { channels = acted n l' over s.channels }) new c p p' h → ReceivesAs new p p' up up h rows (dest rows p)
    by_case true lost goes =
        subst (λ g. ReceivesAs new p p' up up g rows (dest rows p)) (sym goes.1) (passes-for s new n a p p' up c l l' over rows st looks lost fine acts plain goes.0 e)
    by_case false here goes =
        subst (λ g. ReceivesAs new p p' up up g rows (dest rows p)) (sym goes.1)
        (subst (λ q. ReceivesAs new p q up up (heard.Client c.client 0) rows (dest rows p)) (sym goes.2) (delivers-for s new n a p up c l l' over rows st looks here fine acts plain goes.0 e))
