-- An engine goes on where bytes are accepted.
use Rattle.std.proofs.Common.{◌≡◌, ◌≢◌, ℕ, Bool, true, false, ◌||◌, List, [], ◌∷◌, ◌++◌, length, drop, refl, sym, ap, ◌∙◌, subst, inl, inr, cond, append-nil}
use Rattle.std.specs.Prelude.{◌==◌}
use Rattle.std.proofs.lemmas.Bool.{eqb-true, eq-eqb}
use Rattle.std.proofs.lemmas.Bool.Decides.{eqb_tells}
use Rattle.mux_outside.specs.declared.house_mark.HouseMark.{HouseMark as Asked}
use Rattle.mux_outside.specs.Streams.{among}
use Rattle.mux_outside.specs.declared.house.HouseReply.{HouseReply}
use Rattle.mux_outside.specs.declared.mark.Mark.{Mark}
use Rattle.mux_outside.specs.declared.mark.Mark.TheVariants.{Takes}
use Rattle.proxy_frames.specs.Queued.{without_first_bytes}
use Rattle.mux_history.specs.Rows.{Row, rows_of, is_out, is_run_over, Item, Took}
use Rattle.mux_history.specs.Pending.{pending_down, pending_up}
use Rattle.mux_history.specs.Said.{silent}
use Rattle.mux_history.specs.Settings.{by_lists}
use Rattle.mux_history.specs.Log.{Setting, bare_row, makes_next, more_of, next_row}
use Rattle.mux_history.specs.Journal.{bytes_of, is_own_stream}
use Rattle.mux_core.specs.Stands as core
use Rattle.mux_core.proofs.Idle.{idle-stays}
use Rattle.mux_peers.specs.State.{ClientState}
use Rattle.mux_peers.specs.Among.{AllFit, ArePeersApart, EachFits, InFits, is_present}
use Rattle.mux_peers.specs.Stands.{PeerFits}
use Rattle.mux_peers.proofs.Stood.{own_row}
use Rattle.mux_peers.proofs.Ones.{other-fits}
use Rattle.mux_state.specs.State.{EngineState, at_client, client_took, is_here, numbers, took_and_listed}
use Rattle.mux_state.specs.Stands.{BytesFit, ClientReads, EachReads, GoesAlone, IsStrange, RowsFit, RepresentsSoFar, EngineRepresents, log, refused_client_row, run_setting}
use Rattle.mux_state.proofs.Closes.{other_row}
use Rattle.mux_state.proofs.Grows.{grows-row}
use Rattle.mux_state.proofs.Lists.{either, not_here, test_other, true_false}
use Rattle.mux_state.proofs.Moved.{here-same, moved}
use Rattle.mux_state.proofs.Refused.{apart-refused, refused-client}
use Rattle.mux_state.proofs.Waits.{waiting-taken}

abbrev pub took_row : ℕ → ℕ → Row
took_row t n = bare_row (Took t n) t silent

-- ---- the log

pub more-yes : (s : Setting) (rows : List Row) (item : Item) → makes_next rows item ≡ true → more_of s rows item ≡ next_row s rows item ∷ rows
more-yes s rows item e = ap (λ b. elim b as (λ _. List Row) [ false ↦ rows | true ↦ next_row s rows item ∷ rows ]) e

took-log : (s : EngineState) (picks : List ℕ) (replies : List HouseReply) (t : ℕ) (bytes : List ℕ) (accepts : Bool) (marks : List Mark) → is_own_stream t ≡ false → log s picks replies (Takes t bytes accepts ∷ marks) ≡ took_row t (length bytes) ∷ log s picks replies marks
took-log s picks replies t bytes accepts marks own = ap (λ b. Rattle.mux_history.specs.Log.more_all (run_setting s picks replies) (log s picks replies marks) (elim b as (λ _. List Rattle.mux_history.specs.Rows.Item) [ true ↦ [] | false ↦ Took t (length bytes) ∷ [] ])) own ∙ more-yes (run_setting s picks replies) (log s picks replies marks) (Took t (length bytes)) (by_end (is_run_over (log s picks replies marks)))
  where
    by_end : (b : Bool) → (elim b as (λ _. Bool) [ true ↦ true | false ↦ true ]) ≡ true
    by_end true = refl
    by_end false = refl

-- ---- the clients

took-own : (t n : ℕ) (rows : List Row) (c : ClientState) → c.peer.number ≡ t → InFits rows c → InFits (took_row t n ∷ rows) (client_took n c)
took-own t n rows c e f =
    let own : rows_of c.peer.number (took_row t n ∷ rows) ≡ took_row t n ∷ rows_of c.peer.number rows = own_row c.peer.number (took_row t n) rows (sym e) in
    record {
      nonzero = f.nonzero;
      peer = subst (λ (l : List Row). PeerFits l c.peer.standing (drop n c.peer.queue)) (sym own) record {
        admitted = f.peer.admitted;
        standing_is = f.peer.standing_is;
        greeted_is = f.peer.greeted_is;
        queue_is = ap (drop n) (f.peer.queue_is ∙ sym (append-nil (pending_down (rows_of c.peer.number rows))));
      };
      unrefused = ap (λ (l : List Row). Rattle.mux_history.specs.Rows.any_of (λ (row : Row). Rattle.mux_history.specs.Rows.is_refusal row.fate) l) own ∙ f.unrefused;
    }

others-took : (t n : ℕ) (rows : List Row) (cs : List ClientState) → is_present cs t ≡ false → EachFits rows cs → EachFits (took_row t n ∷ rows) cs
others-took t n rows [] p each = tt
others-took t n rows (c ∷ cs) p each = let q : (c.peer.number ≢ t) × (is_present cs t ≡ false) = not_here t c cs p in
    (other-fits t (took_row t n) rows c refl (test_other c.peer.number t q.0) each.0, others-took t n rows cs q.1 each.1)

each-took : (t n : ℕ) (rows : List Row) (cs : List ClientState) → ArePeersApart cs → EachFits rows cs → EachFits (took_row t n ∷ rows) (at_client t (client_took n) cs)
each-took t n rows [] apart each = tt
each-took t n rows (c ∷ cs) apart each = by_head (c.peer.number == t) refl (each-took t n rows cs apart.1 each.1)
  where
    by_head : (b : Bool) → (c.peer.number == t) ≡ b → EachFits (took_row t n ∷ rows) (at_client t (client_took n) cs) → EachFits (took_row t n ∷ rows) (cond b (client_took n c ∷ cs) (c ∷ at_client t (client_took n) cs))
    by_head true e ih = (took-own t n rows c (eqb-true c.peer.number t e) each.0, others-took t n rows cs (ap (is_present cs) (sym (eqb-true c.peer.number t e)) ∙ apart.0) each.1)
    by_head false e ih = (other-fits t (took_row t n) rows c refl e each.0, ih)

present-took : (t n j : ℕ) (cs : List ClientState) → is_present (at_client t (client_took n) cs) j ≡ is_present cs j
present-took t n j [] = refl
present-took t n j (c ∷ cs) = by_head (c.peer.number == t) (present-took t n j cs)
  where
    by_head : (b : Bool) → is_present (at_client t (client_took n) cs) j ≡ is_present cs j → is_present (cond b (client_took n c ∷ cs) (c ∷ at_client t (client_took n) cs)) j ≡ either (c.peer.number == j) (is_present cs j)
    by_head true ih = refl
    by_head false ih = ap (either (c.peer.number == j)) ih

numbers-took : (t n : ℕ) (cs : List ClientState) → numbers (at_client t (client_took n) cs) ≡ numbers cs
numbers-took t n [] = refl
numbers-took t n (c ∷ cs) = by_head (c.peer.number == t) (numbers-took t n cs)
  where
    by_head : (b : Bool) → numbers (at_client t (client_took n) cs) ≡ numbers cs → numbers (cond b (client_took n c ∷ cs) (c ∷ at_client t (client_took n) cs)) ≡ c.peer.number ∷ numbers cs
    by_head true ih = refl
    by_head false ih = ap (λ l. c.peer.number ∷ l) ih

apart-took : (t n : ℕ) (cs : List ClientState) → ArePeersApart cs → ArePeersApart (at_client t (client_took n) cs)
apart-took t n [] a = tt
apart-took t n (c ∷ cs) a = by_head (c.peer.number == t) (present-took t n c.peer.number cs ∙ a.0) (apart-took t n cs a.1)
  where
    by_head : (b : Bool) → is_present (at_client t (client_took n) cs) c.peer.number ≡ false → ArePeersApart (at_client t (client_took n) cs) → ArePeersApart (cond b (client_took n c ∷ cs) (c ∷ at_client t (client_took n) cs))
    by_head true p ih = a
    by_head false p ih = (p, ih)

reads-took : (t n : ℕ) (bytes : List ℕ) (accepts : Bool) (marks : List Mark) (cs : List ClientState) → EachReads marks cs → EachReads (Takes t bytes accepts ∷ marks) (at_client t (client_took n) cs)
reads-took t n bytes accepts marks [] each = tt
reads-took t n bytes accepts marks (c ∷ cs) each = by_head (c.peer.number == t) (reads-took t n bytes accepts marks cs each.1)
  where
    same : (k : ℕ) → bytes_of k (Takes t bytes accepts ∷ marks) ≡ bytes_of k marks
    same k = append-nil (bytes_of k marks)

    one : (n : ℕ) → ClientReads (bytes_of c.peer.number (Takes t bytes accepts ∷ marks)) (client_took n c)
    one n = subst (λ b. ClientReads b (client_took n c)) (sym (same c.peer.number)) record { mode_is = each.0.mode_is; rest_is = each.0.rest_is }

    rest : (cs : List ClientState) → EachReads marks cs → EachReads (Takes t bytes accepts ∷ marks) cs
    rest [] e = tt
    rest (d ∷ ds) e = (subst (λ b. ClientReads b d) (sym (same d.peer.number)) e.0, rest ds e.1)

    by_head : (b : Bool) → EachReads (Takes t bytes accepts ∷ marks) (at_client t (client_took n) cs) → EachReads (Takes t bytes accepts ∷ marks) (cond b (client_took n c ∷ cs) (c ∷ at_client t (client_took n) cs))
    by_head true ih = (one n, rest cs each.1)
    by_head false ih = (subst (λ b. ClientReads b c) (sym (same c.peer.number)) each.0, ih)

-- ---- all of it

idle : (c : Rattle.mux_core.specs.State.CoreState) (t n : ℕ) (rows : List Row) → core.CoreRepresents c rows → core.CoreRepresents c (took_row t n ∷ rows)
idle c t n rows st = idle-stays c (took_row t n) rows st record { plain = record { item = tt; up = refl; farewell = refl }; keeps = refl; admits = refl }

up-server : (n : ℕ) (rows : List Row) (q : List ℕ) (b : Bool) → b ≡ true → q ≡ pending_up rows → drop n q ≡ drop (elim b as (λ _. ℕ) [ true ↦ n | false ↦ 0 ]) (pending_up rows ++ [])
up-server n rows q true e h = ap (drop n) (h ∙ sym (append-nil (pending_up rows)))
up-server n rows q false e h = absurd (cc)

up-client : (n : ℕ) (rows : List Row) (q : List ℕ) (b : Bool) → b ≡ false → q ≡ pending_up rows → q ≡ drop (elim b as (λ _. ℕ) [ true ↦ n | false ↦ 0 ]) (pending_up rows ++ [])
up-client n rows q true e h = absurd (cc)
up-client n rows q false e h = h ∙ sym (append-nil (pending_up rows))

fit-took : (s : EngineState) (t n : ℕ) (rows : List Row) → (t ≢ 0 → is_present s.clients t ≡ true) → AllFit rows s.core s.clients s.up → AllFit (took_row t n ∷ rows) (took_and_listed s t n).core (took_and_listed s t n).clients (took_and_listed s t n).up
fit-took s t n rows here f = elim (eqb_tells t 0) [ inl q ↦ server (t == 0) q.0 q.1 | inr q ↦ client (t == 0) q.0 q.0 ]
  where
    after : Bool → EngineState
    after b = cond b (record s { up = without_first_bytes n s.up }) (record s { clients = at_client t (client_took n) s.clients })

    absent : t ≡ 0 → (cs : List ClientState) → EachFits rows cs → is_present cs t ≡ false
    absent z [] each = refl
    absent z (c ∷ cs) each = ap (λ b. either b (is_present cs t)) (ap (λ j. c.peer.number == j) z ∙ each.0.nonzero) ∙ absent z cs each.1

    server : (b : Bool) → b ≡ true → t ≡ 0 → AllFit (took_row t n ∷ rows) (after b).core (after b).clients (after b).up
    server true e z = record { core = λ l. idle s.core t n rows (f.core l); each = others-took t n rows s.clients (absent z s.clients f.each) f.each; apart = f.apart; up = up-server n rows s.up.waiting (t == 0) (eq-eqb t 0 z) f.up }
    server false e z = absurd (cc)

    client : (b : Bool) → b ≡ false → (t == 0) ≡ false → AllFit (took_row t n ∷ rows) (after b).core (after b).clients (after b).up
    client true e z = absurd (cc)
    client false e z = record { core = λ l. idle s.core t n rows (f.core l); each = each-took t n rows s.clients f.apart f.each; apart = apart-took t n s.clients f.apart; up = up-client n rows s.up.waiting (t == 0) z f.up }

-- the parts that a take leaves alone, by which stream it is of
numbers-taken-as : (s : EngineState) (t n : ℕ) → numbers (took_and_listed s t n).clients ≡ numbers s.clients
numbers-taken-as s t n = by_server (t == 0)
  where
    by_server : (b : Bool) → numbers (cond b (record s { up = without_first_bytes n s.up }) (record s { clients = at_client t (client_took n) s.clients })).clients ≡ numbers s.clients
    by_server true = refl
    by_server false = numbers-took t n s.clients

pub record Same (s new : EngineState) : Type 0 where
  pub pid : new.pid ≡ s.pid
  pub core : new.core ≡ s.core
  pub server : new.server ≡ s.server
  pub refused : new.refused ≡ s.refused
  pub leaving : new.leaving ≡ s.leaving
  pub listening : new.listening ≡ s.listening
  pub ended : new.ended ≡ s.ended
  pub starved : new.starved ≡ s.starved

pub taken-same : (s : EngineState) (t n : ℕ) → Same s (took_and_listed s t n)
taken-same s t n = by_server (t == 0)
  where
    by_server : (b : Bool) → (let s' : EngineState = cond b (record s { up = without_first_bytes n s.up }) (record s { clients = at_client t (client_took n) s.clients }) in Same s (record s' { waiting = (took_and_listed s t n).waiting }))
    by_server true = record { pid = refl; core = refl; server = refl; refused = refl; leaving = refl; listening = refl; ended = refl; starved = refl }
    by_server false = record { pid = refl; core = refl; server = refl; refused = refl; leaving = refl; listening = refl; ended = refl; starved = refl }

server-took : (t n : ℕ) (rows : List Row) → is_out (rows_of 0 rows) ≡ false → is_out (rows_of 0 (took_row t n ∷ rows)) ≡ false
server-took t n rows h = elim (eqb_tells t 0) [
  | inl q ↦ ap is_out (own_row 0 (took_row t n) rows q.1) ∙ h
  | inr q ↦ ap is_out (other_row t 0 (took_row t n) rows refl q.1) ∙ h
]

present-apart : (t k : ℕ) (s : EngineState) → (t ≢ 0 → is_present s.clients t ≡ true) → k ≢ 0 → is_here s k ≡ false → t ≢ k
present-apart t k s here nz gone e = true_false (sym (ap (λ b. b || among t s.refused) (here (λ z. nz (sym e ∙ z)))) ∙ (ap (is_here s) e ∙ gone))

rows-took : (taken' : ℕ) (dn : List Asked) (s : EngineState) (t n : ℕ) (closed : List ℕ) (rows : List Row) → (t ≢ 0 → is_present s.clients t ≡ true) → RowsFit taken' dn s closed rows → RowsFit taken' dn (took_and_listed s t n) closed (took_row t n ∷ rows)
rows-took taken' dn s t n closed rows here st =
    let same : Same s (took_and_listed s t n) = taken-same s t n in
    moved taken' taken' dn dn [] closed s (took_and_listed s t n) rows (took_row t n ∷ rows) st record {
      grows = grows-row (Took t n) (took_row t n) rows refl tt refl;
      numbers_are = numbers-taken-as s t n;
      refused_is = same.refused;
      taken_is = st.taken_is;
      drawn_is = st.drawn_is;
      asked_is = append-nil (Rattle.mux_peers.specs.Asked.asks_of_rows rows) ∙ st.asked_is;
      fresh = (tt, st.fresh);
      fit = fit-took s t n rows here st.fit;
      ended_is = same.ended ∙ st.ended_is;
      listening_is = same.listening ∙ st.listening_is;
      waiting_is = waiting-taken rows s t n st.fit.each st.fit.apart here st.waiting_is;
      leaving_are = same.leaving ∙ sym (append-nil s.leaving);
      unclosed = refl;
      place_is = λ l. ap (λ (v : Rattle.mux_peers.specs.Server.ServerState). v.index) same.server ∙ st.place_is l;
      absent = λ k nz p q. ap (λ (l : List Row). l) (other_row t k (took_row t n) rows refl (present-apart t k s here nz p)) ∙ q;
      refused_stay = λ k q. other_row t k (took_row t n) rows refl (refused-apart k q) ∙ q;
      server_in = server-took t n rows st.server_in;
    }
  where
    refused-apart : (k : ℕ) → rows_of k rows ≡ refused_client_row k ∷ [] → t ≢ k
    refused-apart k q e = apart-refused rows s.clients t k st.fit.each (here (λ z. refused-client rows k st.server_in q (sym e ∙ z))) q e

bytes-took : (s : EngineState) (t n : ℕ) (bytes : List ℕ) (accepts : Bool) (marks : List Mark) (closed : List ℕ) (rows : List Row) → BytesFit s marks closed rows → BytesFit (took_and_listed s t n) (Takes t bytes accepts ∷ marks) closed (took_row t n ∷ rows)
bytes-took s t n bytes accepts marks closed rows st = record {
  are_bytes = λ k. subst Rattle.ssh_fields.specs.Fields.AreBytes (sym (append-nil (bytes_of k marks))) (st.are_bytes k);
  clients = λ l. reads (t == 0) (st.clients l);
  server = λ l. subst (λ v. Rattle.mux_state.specs.Stands.ServerReads (bytes_of 0 marks ++ []) v) (sym (taken-same s t n).server) (subst (λ b. Rattle.mux_state.specs.Stands.ServerReads b s.server) (sym (append-nil (bytes_of 0 marks))) (st.server l));
  there = λ l k a p. st.there l k a (sym (here-same s (took_and_listed s t n) k (numbers-taken-as s t n) (taken-same s t n).refused) ∙ p);
  strange = λ k a. let v : IsStrange s marks closed k = st.strange k a in record {
    not_here = here-same s (took_and_listed s t n) k (numbers-taken-as s t n) (taken-same s t n).refused ∙ v.not_here;
    not_closed_yet = v.not_closed_yet;
    no_bytes = λ nz. append-nil (bytes_of k marks) ∙ v.no_bytes nz;
  };
}
  where
    quiet : (cs : List ClientState) → EachReads marks cs → EachReads (Takes t bytes accepts ∷ marks) cs
    quiet [] e = tt
    quiet (d ∷ ds) e = (subst (λ b. ClientReads b d) (sym (append-nil (bytes_of d.peer.number marks))) e.0, quiet ds e.1)

    reads : (b : Bool) → EachReads marks s.clients → EachReads (Takes t bytes accepts ∷ marks) (cond b (record s { up = without_first_bytes n s.up }) (record s { clients = at_client t (client_took n) s.clients })).clients
    reads true e = quiet s.clients e
    reads false e = reads-took t n bytes accepts marks s.clients e

pub goes-took : (s : EngineState) (t n : ℕ) (bytes : List ℕ) (accepts : Bool) → length bytes ≡ n → GoesAlone s (took_and_listed s t n) (Takes t bytes accepts)
goes-took s t n bytes accepts e picked given marks closed st here = record {
  asks = st.asks;
  each = st.each;
  at = λ picks replies.
      let v : EngineRepresents (picked ++ picks) (given ++ replies) (length picked) st.asks s marks closed = st.at picks replies in
      let same : Same s (took_and_listed s t n) = taken-same s t n in
      let rows : List Row = log s (picked ++ picks) (given ++ replies) marks in
      let is : log (took_and_listed s t n) (picked ++ picks) (given ++ replies) (Takes t bytes accepts ∷ marks) ≡ took_row t n ∷ rows =
      log-same s (took_and_listed s t n) same (picked ++ picks) (given ++ replies) (Takes t bytes accepts ∷ marks) ∙ (took-log s (picked ++ picks) (given ++ replies) t bytes accepts marks here.1 ∙ ap (λ m. took_row t m ∷ rows) e) in
      record {
        rows = subst (RowsFit (length picked) st.asks (took_and_listed s t n) closed) (sym is) (rows-took (length picked) st.asks s t n closed rows here.0 v.rows);
        bytes = subst (BytesFit (took_and_listed s t n) (Takes t bytes accepts ∷ marks) closed) (sym is) (bytes-took s t n bytes accepts marks closed rows v.bytes);
      };
}
  where
    log-same : (s new : EngineState) → Same s new → (picks : List ℕ) (replies : List HouseReply) (marks : List Mark) → log new picks replies marks ≡ log s picks replies marks
    log-same s new w picks replies marks = ap (λ (c : Rattle.mux_core.specs.State.CoreState). Rattle.mux_history.specs.Journal.log_of_journal (by_lists c.policy new.pid picks replies) marks) w.core ∙ ap (λ p. Rattle.mux_history.specs.Journal.log_of_journal (by_lists s.core.policy p picks replies) marks) w.pid
