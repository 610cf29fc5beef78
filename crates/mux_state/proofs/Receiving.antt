-- An engine goes on where the server's stream gave bytes.
use Rattle.std.proofs.Common.{◌≡◌, ◌≢◌, ℕ, Bool, true, false, not, ◌||◌, List, [], ◌∷◌, ◌++◌, length, drop, Option, Some, None, refl, sym, ap, ◌∙◌, subst, inl, inr, cond, append-nil}
use Rattle.std.specs.Prelude.{◌==◌, is_some, filter}
use Rattle.std.specs.List.{AllByRecursion}
use Rattle.std.proofs.lemmas.Bool.{eq-eqb}
use Rattle.std.proofs.lemmas.Bool.Decides.{eqb_tells}
use Rattle.std.proofs.lemmas.List.Folds.{list_any-append}
use Rattle.ssh_grammar.specs.Said.{InProxy, parse}
use Rattle.mux_outside.specs.declared.house_mark.HouseMark.{HouseMark as Asked}
use Rattle.mux_outside.specs.Streams.{among}
use Rattle.mux_outside.specs.declared.house.HouseReply.{HouseReply}
use Rattle.mux_outside.specs.declared.mark.Mark.{Mark}
use Rattle.mux_outside.specs.declared.mark.Mark.TheVariants.{Gets}
use Rattle.mux_history.specs.declared.why.Why.{Why}
use Rattle.mux_history.specs.declared.ended.Ended.{Ended}
use Rattle.mux_history.specs.Rows.{Row, rows_of, any_of, is_admit, is_out, is_run_over, is_refusal, loses, losses, loss_by, Item, Gone, Fate, Goes, Refused, Drop, End}
use Rattle.mux_history.specs.Settings.{by_lists}
use Rattle.mux_history.specs.Solo.{run_end_of}
use Rattle.mux_history.specs.Journal.{bytes_in, bytes_of, log_of_journal}
use Rattle.mux_peers.specs.State.{ClientState}
use Rattle.mux_peers.specs.Stands.{is_standing_lost as lost, is_read, parse_mode_of}
use Rattle.mux_peers.specs.Among.{EachFits, KeepReading, is_present}
use Rattle.mux_peers.specs.Receivings.{AreHere}
use Rattle.mux_peers.specs.Laws.{IsReceivedTo, rows_recorded}
use Rattle.mux_peers.specs.Server.{ReceivedTo}
use Rattle.mux_peers.proofs.ServerJournaled.{pieces-of-the-server}
use Rattle.mux_state.specs.Moves.{ReceivedAt}
use Rattle.mux_state.specs.State.{EngineState, numbers}
use Rattle.mux_state.specs.Stands.{BytesFit, ClientReads, EachReads, GoesAlone, IsAllowed, IsStrange, RowsFit, EngineRepresents, log, not_closed}
use Rattle.mux_state.proofs.Closes.{in_losses, loss_is_out, other_row}
use Rattle.mux_state.proofs.ReceivedRows.{ReceivedOn, heard-on, idle-none, idle-refused}
use Rattle.mux_state.proofs.Lists.{either, test_other, true_false}
use Rattle.mux_state.proofs.Moved.{here-same, moved}
use Rattle.mux_state.proofs.Over.{are-bytes-on, some-end, strange-on}
use Rattle.mux_state.proofs.Refused.{refused-client, refused-out}

-- ---- who was lost

-- one that is out was lost or refused
out-lost : (k : ℕ) (rows : List Row) → is_out (rows_of k rows) ≡ true → in_losses k (losses rows) ≡ true
out-lost k [] e = true_false (sym e)
out-lost k (row ∷ rows) e = elim (eqb_tells row.client k) [
  | inl q ↦ mine (λ h. out-lost k rows h) q.0 q.1 (sym (ap is_out (Rattle.mux_peers.proofs.Stood.own_row k row rows q.1)) ∙ e)
  | inr q ↦ before (out-lost k rows (sym (ap is_out (other_row row.client k row rows refl q.1)) ∙ e))
]
  where
    or-first : (a b : Bool) → a ≡ true → (a || b) ≡ true
    or-first a b e = ap (λ t. t || b) e

    or-last : (a b : Bool) → b ≡ true → (a || b) ≡ true
    or-last true b e = refl
    or-last false b e = e

    before : in_losses k (losses rows) ≡ true → in_losses k (losses rows ++ loss_by row) ≡ true
    before h = list_any-append (λ (l : ℕ × Option Why). l.0 == k) (losses rows) (loss_by row) ∙ or-first (in_losses k (losses rows)) (in_losses k (loss_by row)) h

    now : in_losses k (loss_by row) ≡ true → in_losses k (losses rows ++ loss_by row) ≡ true
    now h = list_any-append (λ (l : ℕ × Option Why). l.0 == k) (losses rows) (loss_by row) ∙ or-last (in_losses k (losses rows)) (in_losses k (loss_by row)) h

    loss-at : (f : Fate) (i : Item) → row.fate ≡ f → row.item ≡ i → (row.client == k) ≡ true → (loses row || is_refusal row.fate) ≡ true → in_losses k (loss_by row) ≡ true
    loss-at (Drop why) i e j c h = rw e (ap (λ b. b || false) c)
    loss-at Refused i e j c h = rw e (ap (λ b. b || false) c)
    loss-at Goes (Gone n) e j c h = rw (e, j) (ap (λ b. b || false) c)
    loss-at Goes i e j c h = true_false (sym (rw (e, j) at h))
    loss-at (End cause) i e j c h = true_false (sym (rw e at h))

    by_row : (is_out (rows_of k rows) ≡ true → in_losses k (losses rows) ≡ true) → (a b : Bool) → (loses row || is_refusal row.fate) ≡ a → is_out (rows_of k rows) ≡ b → (a || b) ≡ true → (row.client == k) ≡ true → in_losses k (losses rows ++ loss_by row) ≡ true
    by_row ih true b e f h c = now (loss-at row.fate row.item refl refl c e)
    by_row ih false b e f h c = before (ih (f ∙ h))

    mine : (is_out (rows_of k rows) ≡ true → in_losses k (losses rows) ≡ true) → (row.client == k) ≡ true → row.client ≡ k → is_out (row ∷ rows_of k rows) ≡ true → in_losses k (losses rows ++ loss_by row) ≡ true
    mine ih c num h = by_row ih (loses row || is_refusal row.fate) (is_out (rows_of k rows)) refl refl h c

-- whoever is noted is here, and no server
noted-not : (k : ℕ) (cs : List ClientState) (noted : List (ℕ × Option Why)) → is_present cs k ≡ false → AllByRecursion (λ l. is_present cs l.0 ≡ true) noted → in_losses k noted ≡ false
noted-not k cs [] gone all = refl
noted-not k cs (l ∷ ls) gone all = elim (eqb_tells l.0 k) [
  | inl q ↦ true_false (sym all.0 ∙ (ap (is_present cs) q.1 ∙ gone))
  | inr q ↦ ap (λ b. b || in_losses k ls) q.0 ∙ noted-not k cs ls gone all.1
]

no-server : (rows : List Row) (cs : List ClientState) → EachFits rows cs → is_present cs 0 ≡ false
no-server rows [] e = refl
no-server rows (c ∷ cs) e = ap (λ b. either b (is_present cs 0)) e.0.nonzero ∙ no-server rows cs e.1

server-stays : (rows rows' : List Row) (cs : List ClientState) (noted : List (ℕ × Option Why)) → EachFits rows cs → AllByRecursion (λ l. is_present cs l.0 ≡ true) noted → losses rows' ≡ losses rows ++ noted → is_out (rows_of 0 rows) ≡ false → is_out (rows_of 0 rows') ≡ false
server-stays rows rows' cs noted each all lost in' = by_out (is_out (rows_of 0 rows')) refl
  where
    by_out : (b : Bool) → is_out (rows_of 0 rows') ≡ b → b ≡ false
    by_out false e = refl
    by_out true e =
        let found : in_losses 0 (losses rows ++ noted) ≡ true = ap (in_losses 0) (sym lost) ∙ out-lost 0 rows' e in
        let split : (in_losses 0 (losses rows) || in_losses 0 noted) ≡ true = sym (list_any-append (λ (l : ℕ × Option Why). l.0 == 0) (losses rows) noted) ∙ found in
        by_old (in_losses 0 (losses rows)) refl split
      where
        by_old : (b : Bool) → in_losses 0 (losses rows) ≡ b → (b || in_losses 0 noted) ≡ true → true ≡ false
        by_old true f h = sym (loss_is_out 0 rows f) ∙ in'
        by_old false f h = sym h ∙ noted-not 0 cs noted (no-server rows cs each) all

unclosed-noted : (taken : ℕ) (dn : List Asked) (s : EngineState) (closed : List ℕ) (rows : List Row) (noted : List (ℕ × Option Why)) → RowsFit taken dn s closed rows → AllByRecursion (λ l. is_present s.clients l.0 ≡ true) noted → filter (not_closed closed) noted ≡ noted
unclosed-noted taken dn s closed rows [] st all = refl
unclosed-noted taken dn s closed rows (l ∷ ls) st all =
    ap (λ b. cond (not b) (l ∷ filter (not_closed closed) ls) (filter (not_closed closed) ls)) (Rattle.mux_state.proofs.OneClient.open-here taken dn s closed rows l.0 st all.0)
    ∙ ap (λ xs. l ∷ xs) (unclosed-noted taken dn s closed rows ls st all.1)

-- ---- before it

-- each client that was admitted and isn't lost is here
are-here : (taken : ℕ) (dn : List Asked) (s : EngineState) (marks : List Mark) (closed : List ℕ) (rows : List Row) → is_run_over rows ≡ false → RowsFit taken dn s closed rows → AreHere rows s.clients
are-here taken dn s marks closed rows live st k a l = by_present (is_present s.clients k) refl
  where
    -- it has rows, so it is here or closed; a closed or refused one is out
    known : among k (Rattle.mux_history.specs.Log.admitted_clients rows) ≡ true
    known = Rattle.mux_peers.proofs.Steps.entered-among k rows a

    still : is_out (rows_of k rows) ≡ false
    still = (st.known k known).out_is ∙ l

    nonzero : k ≢ 0
    nonzero e = true_false (sym known ∙ (ap (λ j. among j (Rattle.mux_history.specs.Log.admitted_clients rows)) e ∙ st.unentered))

    by_present : (b : Bool) → is_present s.clients k ≡ b → b ≡ true
    by_present true e = refl
    by_present false e = by_here (among k s.refused) (among k closed) refl refl
      where
        by_here : (x y : Bool) → among k s.refused ≡ x → among k closed ≡ y → false ≡ true
        by_here true y f g = true_false (sym (refused-out k rows (st.refused_only k f)) ∙ still)
        by_here false true f g = true_false (sym (st.closed_out k g) ∙ still)
        by_here false false f g = true_false (sym a ∙ ap (any_of is_admit) (st.absent k nonzero (ap (λ b. b || among k s.refused) e ∙ f) g))

-- ---- all of it

pub record ReceivedRows (s new : EngineState) (noted : List (ℕ × Option Why)) (rows rows' : List Row) (old bytes : List ℕ) : Type 0 where
  pub on : ReceivedOn rows rows'
  pub to : IsReceivedTo old bytes noted rows rows' new.core new.clients new.up new.server.rest new.server.index new.ended
  pub live : is_run_over rows ≡ false

rows-heard : (taken : ℕ) (dn : List Asked) (s new : EngineState) (bytes old : List ℕ) (closed : List ℕ) (rows rows' : List Row) → (c : ReceivedAt s new bytes) → numbers new.clients ≡ numbers s.clients → AllByRecursion (λ l. is_present s.clients l.0 ≡ true) c.piece.receiving.noted → ReceivedRows s new c.piece.receiving.noted rows rows' old bytes → RowsFit taken dn s closed rows → RowsFit taken dn new closed rows'
rows-heard taken dn s new bytes old closed rows rows' c same all w st =
    let noted : List (ℕ × Option Why) = c.piece.receiving.noted in
    moved taken taken dn dn noted closed s new rows rows' st record {
      grows = record { entered_is = w.on.grows.entered_is; known = w.on.grows.known; out_stays = w.on.grows.out_stays; losses_are = w.to.lost };
      numbers_are = same;
      refused_is = c.refused;
      taken_is = w.to.taken ∙ st.taken_is;
      drawn_is = w.to.given_is ∙ st.drawn_is;
      asked_is = w.on.asked ∙ st.asked_is;
      fresh = w.to.fresh st.fresh;
      fit = w.to.fit;
      ended_is = w.to.ended_is;
      listening_is = c.listening ∙ (st.listening_is ∙ sym w.to.stops_is);
      waiting_is = c.waiting;
      leaving_are = c.piece.receiving.leaves;
      unclosed = unclosed-noted taken dn s closed rows noted st all;
      place_is = λ l. (w.to.awaits (w.to.ended_is ∙ none-ended rows' l)).place;
      absent = λ j nz p q. w.on.idle j nz (idle-none (rows_of j rows) q) ∙ q;
      refused_stay = λ j q. w.on.idle j (refused-client rows j st.server_in q) (idle-refused j (rows_of j rows) q) ∙ q;
      server_in = server-stays rows rows' s.clients noted st.fit.each all w.to.lost st.server_in;
    }
  where
    none-ended : (rows : List Row) → is_run_over rows ≡ false → run_end_of rows ≡ None
    none-ended rows e = none-of (run_end_of rows) (some-end rows ∙ e)
      where
        none-of : (o : Option Ended) → is_some o ≡ false → o ≡ None
        none-of None e = refl
        none-of (Some x) e = true_false e

server-quiet : (j : ℕ) (bytes : List ℕ) → j ≢ 0 → bytes_in j (Gets 0 bytes) ≡ []
server-quiet j bytes nz = ap (λ b. elim b as (λ _. List ℕ) [ true ↦ bytes | false ↦ [] ]) (test_other 0 j (λ e. nz (sym e)))

reads-others : (bytes : List ℕ) (marks : List Mark) (rows : List Row) (cs : List ClientState) → EachFits rows cs → EachReads marks cs → EachReads (Gets 0 bytes ∷ marks) cs
reads-others bytes marks rows [] each e = tt
reads-others bytes marks rows (c ∷ cs) each e =
    (subst (λ b. ClientReads b c) (sym (ap (λ b. bytes_of c.peer.number marks ++ b) (server-quiet c.peer.number bytes (λ z. true_false (sym (eq-eqb c.peer.number 0 z) ∙ each.0.nonzero))) ∙ append-nil (bytes_of c.peer.number marks))) e.0, reads-others bytes marks rows cs each.1 e.1)

pub numbers-kept : (cs ds : List ClientState) → KeepReading cs ds → numbers ds ≡ numbers cs
numbers-kept [] ds h = ap numbers h
numbers-kept (c ∷ cs) [] h = absurd h
numbers-kept (c ∷ cs) (d ∷ ds) h = ap (λ l. d.peer.number ∷ l) (numbers-kept cs ds h.1) ∙ ap (λ n. n ∷ numbers cs) h.0.0

read-here : (s : _) → is_read s ≡ true → lost s ≡ false
read-here Rattle.mux_peers.specs.declared.standing.Standing.TheVariants.Awaited e = refl
read-here Rattle.mux_peers.specs.declared.standing.Standing.TheVariants.Greeted e = refl
read-here Rattle.mux_peers.specs.declared.standing.Standing.TheVariants.Proxied e = refl
read-here Rattle.mux_peers.specs.declared.standing.Standing.TheVariants.Unread e = refl
read-here (Rattle.mux_peers.specs.declared.standing.Standing.TheVariants.Lost why) e = true_false (sym e)

pub reads-kept : (marks : List Mark) (cs ds : List ClientState) → KeepReading cs ds → EachReads marks cs → EachReads marks ds
reads-kept marks [] ds h e = subst (EachReads marks) (sym h) tt
reads-kept marks (c ∷ cs) [] h e = absurd h
reads-kept marks (c ∷ cs) (d ∷ ds) h e = (one (bytes_of d.peer.number marks) (subst (λ n. ClientReads (bytes_of n marks) c) (sym h.0.0) e.0), reads-kept marks cs ds h.1 e.1)
  where
    one : (bytes : List ℕ) → ClientReads bytes c → ClientReads bytes d
    one bytes r = record {
      mode_is = λ l. let w = h.0.1 l in r.mode_is (ap lost (sym w.0) ∙ l) ∙ ap parse_mode_of (sym w.0);
      rest_is = λ x. let w = h.0.1 (read-here d.peer.standing x) in r.rest_is (ap is_read (sym w.0) ∙ x) ∙ sym w.1;
    }

bytes-heard : (taken : ℕ) (dn : List Asked) (s new : EngineState) (bytes : List ℕ) (marks : List Mark) (closed : List ℕ) (rows rows' : List Row) → (c : ReceivedAt s new bytes) → KeepReading s.clients new.clients → IsAllowed s marks (Gets 0 bytes) → ReceivedRows s new c.piece.receiving.noted rows rows' (bytes_of 0 marks) bytes → RowsFit taken dn s closed rows → BytesFit s marks closed rows
    → BytesFit new (Gets 0 bytes ∷ marks) closed rows'
bytes-heard taken dn s new bytes marks closed rows rows' c kept al w fit st =
    let mark : Mark = Gets 0 bytes in
    let same : numbers new.clients ≡ numbers s.clients = numbers-kept s.clients new.clients kept in
    record {
      are_bytes = are-bytes-on s marks mark tt al st.are_bytes;
      clients = λ l. reads-kept (mark ∷ marks) s.clients new.clients kept (reads-others bytes marks rows s.clients fit.fit.each (st.clients w.live));
      server = λ l. let r = w.to.reads (w.to.ended_is ∙ none-ended rows' l) in record { mode_is = r.mode; rest_is = r.rest };
      there = λ l j a p. st.there w.live j a (sym (here-same s new j same c.refused) ∙ p);
      strange = λ j a. let v : IsStrange s (mark ∷ marks) closed j = strange-on s marks closed mark j tt al st.strange a in record { not_here = here-same s new j same c.refused ∙ v.not_here; not_closed_yet = v.not_closed_yet; no_bytes = v.no_bytes };
    }
  where
    none-ended : (rows : List Row) → is_run_over rows ≡ false → run_end_of rows ≡ None
    none-ended rows e = none-of (run_end_of rows) (some-end rows ∙ e)
      where
        none-of : (o : Option Ended) → is_some o ≡ false → o ≡ None
        none-of None e = refl
        none-of (Some x) e = true_false e

heard-log : (s : EngineState) (picks : List ℕ) (replies : List HouseReply) (bytes : List ℕ) (marks : List Mark) → log s picks replies (Gets 0 bytes ∷ marks) ≡ rows_recorded s.core.policy s.pid picks replies (bytes_of 0 marks) bytes (log s picks replies marks)
heard-log s picks replies bytes marks = refl

goes-heard-so : (s new : EngineState) (bytes : List ℕ) → s.ended ≡ None → (c : ReceivedAt s new bytes) → KeepReading s.clients new.clients → AllByRecursion (λ l. is_present s.clients l.0 ≡ true) c.piece.receiving.noted → GoesAlone s new (Gets 0 bytes)
goes-heard-so s new bytes none c kept all picked given marks closed st al = record {
  asks = st.asks;
  each = st.each;
  at = λ picks replies.
      let p : List ℕ = picked ++ picks in
      let r : List HouseReply = given ++ replies in
      let v : EngineRepresents p r (length picked) st.asks s marks closed = st.at picks replies in
      let rows : List Row = log s p r marks in
      let live : is_run_over rows ≡ false = sym (some-end rows) ∙ ap is_some (sym v.rows.ended_is ∙ none) in
      let rows' : List Row = rows_recorded s.core.policy s.pid p r (bytes_of 0 marks) bytes rows in
      let h = c.piece.receiving in
      let heard : ReceivedTo s.core.policy s.pid p r (s.server.rest ++ bytes) h.noted rows new.core new.clients new.up new.server.rest new.server.index new.ended =
      h.goes s.pid p r rows record { fit = v.rows.fit; live = live; here = are-here (length picked) st.asks s marks closed rows live v.rows; place = v.rows.place_is live } in
      let reads = v.bytes.server live in
      let w : ReceivedRows s new h.noted rows rows' (bytes_of 0 marks) bytes = record {
        on = heard-on s.core.policy s.pid p r (drop (length (parse InProxy (bytes_of 0 marks)).says) (parse InProxy (bytes_of 0 marks ++ bytes)).says) rows;
        to = pieces-of-the-server s.core.policy s.pid p r (bytes_of 0 marks) bytes s.server.rest new.server.rest h.noted rows new.core new.clients new.up new.server.index new.ended record { mode = reads.mode_is; rest = reads.rest_is } c.piece.whole heard;
        live = live;
      } in
      let is : log new p r (Gets 0 bytes ∷ marks) ≡ rows' = log-as p r (Gets 0 bytes ∷ marks) ∙ heard-log s p r bytes marks in
      record {
        rows = subst (RowsFit (length picked) st.asks new closed) (sym is) (rows-heard (length picked) st.asks s new bytes (bytes_of 0 marks) closed rows rows' c (numbers-kept s.clients new.clients kept) all w v.rows);
        bytes = subst (BytesFit new (Gets 0 bytes ∷ marks) closed) (sym is) (bytes-heard (length picked) st.asks s new bytes marks closed rows rows' c kept al w v.rows v.bytes);
      };
}
  where
    log-as : (picks : List ℕ) (replies : List HouseReply) (marks : List Mark) → log new picks replies marks ≡ log s picks replies marks
    log-as picks replies marks = ap (λ p. log_of_journal (by_lists p new.pid picks replies) marks) c.piece.receiving.policy ∙ ap (λ p. log_of_journal (by_lists s.core.policy p picks replies) marks) c.pid

pub goes-heard : (s new : EngineState) (bytes : List ℕ) → s.ended ≡ None → ReceivedAt s new bytes → GoesAlone s new (Gets 0 bytes)
goes-heard s new bytes none c = goes-heard-so s new bytes none c c.piece.receiving.reading c.piece.receiving.among
