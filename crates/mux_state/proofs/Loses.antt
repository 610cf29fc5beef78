-- An engine goes on where the stream of a client is gone.
use Rattle.std.proofs.Common.{◌≡◌, ◌≢◌, ℕ, Bool, true, false, not, List, [], ◌∷◌, ◌++◌, length, None, refl, sym, ap, ◌∙◌, subst, cond, append-nil}
use Rattle.std.specs.Prelude.{◌==◌, is_some}
use Rattle.std.specs.List.{AllByRecursion}
use Rattle.mux_outside.specs.declared.house_mark.HouseMark.{HouseMark as Asked}
use Rattle.mux_outside.specs.declared.house.HouseReply.{HouseReply}
use Rattle.mux_outside.specs.declared.mark.Mark.{Mark}
use Rattle.mux_outside.specs.declared.mark.Mark.TheVariants.{Ends, Fails, WriteFails}
use Rattle.mux_history.specs.Rows.{Row, rows_of, is_out, is_run_over, Gone, Goes}
use Rattle.mux_history.specs.Farewell.{farewell}
use Rattle.mux_history.specs.Settings.{by_lists}
use Rattle.mux_history.specs.Log.{Setting, more_of, next_row}
use Rattle.mux_history.specs.Journal.{bytes_in, bytes_of, is_accepted, is_own_stream, log_of_journal, unless_own}
use Rattle.mux_peers.specs.declared.standing.Standing.TheVariants.{Lost}
use Rattle.mux_peers.specs.State.{ClientState, part}
use Rattle.mux_peers.specs.Stands.{PartFits, is_standing_lost, is_read}
use Rattle.mux_peers.specs.Among.{AllFit, ChangesOne, InFits, MovesTo, is_present}
use Rattle.mux_peers.specs.Asked.{asks_of_rows}
use Rattle.mux_peers.specs.Laws.{AllMoved}
use Rattle.mux_peers.specs.Losing.{Loses}
use Rattle.mux_peers.proofs.Adds.{losses-add-for-one}
use Rattle.mux_peers.proofs.Losses.{gone, gone-row}
use Rattle.mux_peers.proofs.Ones.{one-moves-all}
use Rattle.mux_peers.proofs.RowForms.{made}
use Rattle.mux_peers.proofs.Stood.{out_is}
use Rattle.mux_state.specs.Moves.{IsStreamEvent, IsGone, LosesAt}
use Rattle.mux_state.specs.State.{EngineState, numbers}
use Rattle.mux_state.specs.Stands.{BytesFit, ClientReads, EachReads, GoesAlone, IsAllowed, IsStrange, RowsFit, ServerReads, RepresentsSoFar, EngineRepresents, log, run_setting}
use Rattle.mux_state.proofs.Closes.{other_row}
use Rattle.mux_state.proofs.Grows.{grows-row}
use Rattle.mux_state.proofs.Lists.{true_false}
use Rattle.mux_state.proofs.Moved.{here-same, moved}
use Rattle.mux_state.proofs.OneClient.{all-fit, apart-here, changes-to, numbers-one, open-here, reads-one}
use Rattle.mux_state.proofs.Over.{are-bytes-on, next-live, unless-not, one-more, some-end, strange-on}
use Rattle.mux_state.proofs.Refused.{apart-refused}

pub gone-event : (mark : Mark) (k : ℕ) → IsGone mark k → IsStreamEvent mark
gone-event (Ends j) k g = tt
gone-event (Fails j) k g = tt
gone-event (WriteFails j) k g = tt
gone-event mark k g = absurd g

gone-quiet : (mark : Mark) (k j : ℕ) → IsGone mark k → bytes_in j mark ≡ []
gone-quiet (Ends i) k j g = refl
gone-quiet (Fails i) k j g = refl
gone-quiet (WriteFails i) k j g = refl
gone-quiet mark k j g = absurd g

gone-accepts : (mark : Mark) (marks : List Mark) (k j : ℕ) → IsGone mark k → is_accepted j (mark ∷ marks) ≡ is_accepted j marks
gone-accepts (Ends i) marks k j g = refl
gone-accepts (Fails i) marks k j g = refl
gone-accepts (WriteFails i) marks k j g = refl
gone-accepts mark marks k j g = absurd g

by-number : (s : Setting) (rows : List Row) (k : ℕ) (b : Bool) (xs : List _) → b ≡ false → is_own_stream k ≡ false → Rattle.mux_history.specs.Log.more_all s rows (elim b as (λ _. List Rattle.mux_history.specs.Rows.Item) [ true ↦ xs | false ↦ unless_own k (Gone k ∷ []) ]) ≡ more_of s rows (Gone k)
by-number s rows k true xs e own = absurd (cc)
by-number s rows k false xs e own = ap (Rattle.mux_history.specs.Log.more_all s rows) (unless-not k (Gone k ∷ []) own)

pub gone-log : (s : EngineState) (picks : List ℕ) (replies : List HouseReply) (mark : Mark) (marks : List Mark) (k : ℕ) → k ≢ 0 → IsGone mark k → is_own_stream k ≡ false → log s picks replies (mark ∷ marks) ≡ more_of (run_setting s picks replies) (log s picks replies marks) (Gone k)
gone-log s picks replies (Ends j) marks k nz g own = by-number (run_setting s picks replies) (log s picks replies marks) j (j == 0) _ (Rattle.mux_state.proofs.Lists.test_other j 0 (λ e. nz (sym g ∙ e))) (ap is_own_stream g ∙ own) ∙ ap (λ i. more_of (run_setting s picks replies) (log s picks replies marks) (Gone i)) g
gone-log s picks replies (Fails j) marks k nz g own = by-number (run_setting s picks replies) (log s picks replies marks) j (j == 0) _ (Rattle.mux_state.proofs.Lists.test_other j 0 (λ e. nz (sym g ∙ e))) (ap is_own_stream g ∙ own) ∙ ap (λ i. more_of (run_setting s picks replies) (log s picks replies marks) (Gone i)) g
gone-log s picks replies (WriteFails j) marks k nz g own = by-number (run_setting s picks replies) (log s picks replies marks) j (j == 0) _ (Rattle.mux_state.proofs.Lists.test_other j 0 (λ e. nz (sym g ∙ e))) (ap is_own_stream g ∙ own) ∙ ap (λ i. more_of (run_setting s picks replies) (log s picks replies marks) (Gone i)) g
gone-log s picks replies mark marks k nz g own = absurd g

-- it isn't the master's own
pub gone-client : (s : EngineState) (marks : List Mark) (mark : Mark) (k : ℕ) → IsGone mark k → IsAllowed s marks mark → is_own_stream k ≡ false
gone-client s marks (Ends j) k g al = ap is_own_stream (sym g) ∙ al.1
gone-client s marks (Fails j) k g al = ap is_own_stream (sym g) ∙ al.1
gone-client s marks (WriteFails j) k g al = ap is_own_stream (sym g) ∙ al.1
gone-client s marks mark k g al = absurd g

-- ---- one that is out makes no row

no-gone : (s : Setting) (rows : List Row) (k : ℕ) → is_run_over rows ≡ false → is_out (rows_of k rows) ≡ true → more_of s rows (Gone k) ≡ rows
no-gone s rows k live out = ap (λ b. elim b as (λ _. List Row) [ false ↦ rows | true ↦ next_row s rows (Gone k) ∷ rows ]) (next-live rows (Gone k) live ∙ ap not out)

-- where nothing more makes a row, the engine stands as it was
pub still-gone : (s new : EngineState) (k : ℕ) (mark : Mark) → k ≢ 0 → IsGone mark k → s.ended ≡ None → new ≡ s
    → ((picks : List ℕ) (replies : List HouseReply) (taken : ℕ) (dn : List Asked) (marks : List Mark) (closed : List ℕ) → EngineRepresents picks replies taken dn s marks closed → IsAllowed s marks mark → is_run_over (log s picks replies marks) ≡ false → is_out (rows_of k (log s picks replies marks)) ≡ true)
    → GoesAlone s new mark
still-gone s new k mark nz g live same out picked given marks closed st al = subst (λ t. RepresentsSoFar picked given t (mark ∷ marks) closed) (sym same) record {
  asks = st.asks;
  each = st.each;
  at = λ picks replies.
      let v : EngineRepresents (picked ++ picks) (given ++ replies) (length picked) st.asks s marks closed = st.at picks replies in
      let rows : List Row = log s (picked ++ picks) (given ++ replies) marks in
      let on : is_run_over rows ≡ false = sym (some-end rows) ∙ ap is_some (sym v.rows.ended_is ∙ live) in
      let is : log s (picked ++ picks) (given ++ replies) (mark ∷ marks) ≡ rows = gone-log s (picked ++ picks) (given ++ replies) mark marks k nz g (gone-client s marks mark k g al) ∙ no-gone (run_setting s (picked ++ picks) (given ++ replies)) rows k on (out (picked ++ picks) (given ++ replies) (length picked) st.asks marks closed v al on) in
      record {
        rows = subst (RowsFit (length picked) st.asks s closed) (sym is) v.rows;
        bytes = subst (BytesFit s (mark ∷ marks) closed) (sym is) record {
          are_bytes = are-bytes-on s marks mark (gone-event mark k g) al v.bytes.are_bytes;
          clients = λ l. quiet marks s.clients (v.bytes.clients l);
          server = λ l. subst (λ b. ServerReads b s.server) (sym (ap (λ b. bytes_of 0 marks ++ b) (gone-quiet mark k 0 g) ∙ append-nil (bytes_of 0 marks))) (v.bytes.server l);
          there = λ l j a p. v.bytes.there l j (sym (gone-accepts mark marks k j g) ∙ a) p;
          strange = λ j a. strange-on s marks closed mark j (gone-event mark k g) al v.bytes.strange a;
        };
      };
}
  where
    quiet : (marks : List Mark) (cs : List ClientState) → EachReads marks cs → EachReads (mark ∷ marks) cs
    quiet marks [] e = tt
    quiet marks (d ∷ ds) e = (subst (λ b. ClientReads b d) (sym (ap (λ b. bytes_of d.peer.number marks ++ b) (gone-quiet mark k d.peer.number g) ∙ append-nil (bytes_of d.peer.number marks))) e.0, quiet marks ds e.1)

-- ---- one that isn't lost

out-not : (rows : List Row) (x : ClientState) → InFits rows x → is_standing_lost x.peer.standing ≡ false → is_out (rows_of x.peer.number rows) ≡ false
out-not rows x f here = out_is (rows_of x.peer.number rows) ∙ (ap is_standing_lost (sym f.peer.standing_is) ∙ here)

-- whom the change finds
found : (k : ℕ) (R : ClientState → ClientState → Type 0) (rows : List Row) (cs cs' : List ClientState) → ((x y : ClientState) → R x y → is_standing_lost x.peer.standing ≡ false) → AllByRecursion (InFits rows) cs → is_present cs k ≡ true → ChangesOne k R cs cs' → is_out (rows_of k rows) ≡ false
found k R rows [] cs' f all p h = absurd (cc)
found k R rows (c ∷ cs) cs' f all p h = by_head (c.peer.number == k) refl p h (λ ds q w. found k R rows cs ds f all.1 q w)
  where
    by_head : (b : Bool) → (c.peer.number == k) ≡ b → Rattle.mux_state.proofs.Lists.either b (is_present cs k) ≡ true → Rattle.std.specs.Prelude.MatchBool b ((c' : ClientState) × (R c c' × (cs' ≡ c' ∷ cs))) ((ds : List ClientState) × (ChangesOne k R cs ds × (cs' ≡ c ∷ ds)))
        → ((ds : List ClientState) → is_present cs k ≡ true → ChangesOne k R cs ds → is_out (rows_of k rows) ≡ false) → is_out (rows_of k rows) ≡ false
    by_head true e q w ih = ap (λ j. is_out (rows_of j rows)) (sym (Rattle.std.proofs.lemmas.Bool.eqb-true c.peer.number k e)) ∙ out-not rows c all.0 (f c w.0 w.1.0)
    by_head false e q w ih = ih w.0 q w.1.0

abbrev lost_row : ℕ → List Row → Row
lost_row k rows = made (Gone k) k [] (farewell (gone k) (rows_of k rows)) [] Goes

moves-to : (s new : EngineState) (k : ℕ) (picks : List ℕ) (replies : List HouseReply) (rows : List Row) → is_run_over rows ≡ false → AllFit rows s.core s.clients s.up → (x y : ClientState) → x.peer.number ≡ k → InFits rows x → (is_standing_lost x.peer.standing ≡ false) × Loses (part s.core x.peer s.up) (part new.core y.peer new.up)
    → MovesTo (lost_row k rows ∷ rows) new.core new.up x y
moves-to s new k picks replies rows live fit x y e f h = record {
  number = h.1.number;
  fits = subst (λ r. PartFits (r ∷ rows) (part new.core y.peer new.up)) (gone-row s.core.policy s.pid picks replies k rows)
      (subst (λ j. PartFits (next_row (by_lists s.core.policy s.pid picks replies) rows (Gone j) ∷ rows) (part new.core y.peer new.up)) e (h.1.goes s.core.policy s.pid picks replies rows record { core = fit.core; peer = f.peer; up = fit.up } live h.0));
}

all-moved : (s new : EngineState) (k : ℕ) (picks : List ℕ) (replies : List HouseReply) (rows : List Row) → LosesAt s new k → is_run_over rows ≡ false → is_present s.clients k ≡ true → AllFit rows s.core s.clients s.up → AllMoved rows (lost_row k rows ∷ rows) new.core s.clients new.clients new.up
all-moved s new k picks replies rows c live here fit =
    one-moves-all k rows (lost_row k rows ∷ rows) s.core new.core s.clients new.clients s.up new.up fit
    (subst (λ r. Rattle.mux_peers.specs.Among.AddsFor k rows (r ∷ rows)) (gone-row s.core.policy s.pid picks replies k rows) (losses-add-for-one s.core.policy s.pid picks replies k rows)) here
    (changes-to k (λ x y. (is_standing_lost x.peer.standing ≡ false) × Loses (part s.core x.peer s.up) (part new.core y.peer new.up)) (MovesTo (lost_row k rows ∷ rows) new.core new.up) (InFits rows) s.clients new.clients (moves-to s new k picks replies rows live fit) (all-fit rows s.clients fit.each) c.changes)

rows-lost : (taken : ℕ) (dn : List Asked) (s new : EngineState) (k : ℕ) (picks : List ℕ) (replies : List HouseReply) (closed : List ℕ) (rows : List Row) → k ≢ 0 → LosesAt s new k → is_run_over rows ≡ false → is_present s.clients k ≡ true → RowsFit taken dn s closed rows → RowsFit taken dn new closed (lost_row k rows ∷ rows)
rows-lost taken dn s new k picks replies closed rows nz c live here st =
    let row : Row = lost_row k rows in
    moved taken taken dn dn ((k, None) ∷ []) closed s new rows (row ∷ rows) st record {
      grows = grows-row (Gone k) row rows refl tt refl;
      numbers_are = numbers-one k (λ x y. (is_standing_lost x.peer.standing ≡ false) × Loses (part s.core x.peer s.up) (part new.core y.peer new.up)) s.clients new.clients (λ x y h. h.1.number) c.changes;
      refused_is = c.refused;
      taken_is = st.taken_is;
      drawn_is = st.drawn_is;
      asked_is = append-nil (asks_of_rows rows) ∙ st.asked_is;
      fresh = (tt, st.fresh);
      fit = (all-moved s new k picks replies rows c live here st.fit).fit;
      ended_is = c.ended ∙ st.ended_is;
      listening_is = c.listening ∙ st.listening_is;
      waiting_is = c.waiting;
      leaving_are = c.leaving;
      unclosed = ap (λ t. cond (not t) ((k, None) ∷ []) []) (open-here taken dn s closed rows k st here);
      place_is = λ l. ap (λ (v : Rattle.mux_peers.specs.Server.ServerState). v.index) c.server ∙ st.place_is l;
      absent = λ j z p q. other_row k j row rows refl (apart-here s k j here p) ∙ q;
      refused_stay = λ j q. other_row k j row rows refl (apart-refused rows s.clients k j st.fit.each here q) ∙ q;
      server_in = ap is_out (other_row k 0 row rows refl nz) ∙ st.server_in;
    }

-- a client that is lost has nothing to read
lost-reads : (bytes : List ℕ) (y : ClientState) → y.peer.standing ≡ Lost None → ClientReads bytes y
lost-reads bytes y e = record { mode_is = λ l. true_false (sym (ap is_standing_lost e) ∙ l); rest_is = λ l. true_false (sym l ∙ ap is_read e) }

bytes-lost : (taken : ℕ) (dn : List Asked) (s new : EngineState) (k : ℕ) (mark : Mark) (marks : List Mark) (closed : List ℕ) (rows : List Row) → IsGone mark k → IsAllowed s marks mark → LosesAt s new k → is_present s.clients k ≡ true → RowsFit taken dn s closed rows → BytesFit s marks closed rows → BytesFit new (mark ∷ marks) closed (lost_row k rows ∷ rows)
bytes-lost taken dn s new k mark marks closed rows g al c here fit st =
    let same : numbers new.clients ≡ numbers s.clients = numbers-one k (λ x y. (is_standing_lost x.peer.standing ≡ false) × Loses (part s.core x.peer s.up) (part new.core y.peer new.up)) s.clients new.clients (λ x y h. h.1.number) c.changes in
    record {
      are_bytes = are-bytes-on s marks mark (gone-event mark k g) al st.are_bytes;
      clients = λ l. reads-one k (λ x y. (is_standing_lost x.peer.standing ≡ false) × Loses (part s.core x.peer s.up) (part new.core y.peer new.up)) mark marks s.clients new.clients (λ j ne. gone-quiet mark k j g) (λ x y e r h. (h.1.number ∙ e, lost-reads (bytes_of k (mark ∷ marks)) y h.1.standing)) here (λ p. st.clients l) fit.fit.apart c.changes;
      server = λ l. subst (ServerReads (bytes_of 0 (mark ∷ marks))) (sym c.server) (subst (λ b. ServerReads b s.server) (sym (ap (λ b. bytes_of 0 marks ++ b) (gone-quiet mark k 0 g) ∙ append-nil (bytes_of 0 marks))) (st.server l));
      there = λ l j a p. st.there l j (sym (gone-accepts mark marks k j g) ∙ a) (sym (here-same s new j same c.refused) ∙ p);
      strange = λ j a. let w : IsStrange s (mark ∷ marks) closed j = strange-on s marks closed mark j (gone-event mark k g) al st.strange a in record { not_here = here-same s new j same c.refused ∙ w.not_here; not_closed_yet = w.not_closed_yet; no_bytes = w.no_bytes };
    }

pub goes-lost : (s new : EngineState) (k : ℕ) (mark : Mark) → k ≢ 0 → IsGone mark k → s.ended ≡ None → is_present s.clients k ≡ true → LosesAt s new k → GoesAlone s new mark
goes-lost s new k mark nz g live here c picked given marks closed st al = record {
  asks = st.asks;
  each = st.each;
  at = λ picks replies.
      let v : EngineRepresents (picked ++ picks) (given ++ replies) (length picked) st.asks s marks closed = st.at picks replies in
      let rows : List Row = log s (picked ++ picks) (given ++ replies) marks in
      let on : is_run_over rows ≡ false = sym (some-end rows) ∙ ap is_some (sym v.rows.ended_is ∙ live) in
      let in' : is_out (rows_of k rows) ≡ false = found k (λ x y. (is_standing_lost x.peer.standing ≡ false) × Loses (part s.core x.peer s.up) (part new.core y.peer new.up)) rows s.clients new.clients (λ x y h. h.0) (all-fit rows s.clients v.rows.fit.each) here c.changes in
      let is : log new (picked ++ picks) (given ++ replies) (mark ∷ marks) ≡ lost_row k rows ∷ rows =
      log-as (picked ++ picks) (given ++ replies) (mark ∷ marks) ∙ (gone-log s (picked ++ picks) (given ++ replies) mark marks k nz g (gone-client s marks mark k g al)
      ∙ (one-more s (picked ++ picks) (given ++ replies) rows (Gone k) on (ap not in') ∙ ap (λ r. r ∷ rows) (gone-row s.core.policy s.pid (picked ++ picks) (given ++ replies) k rows))) in
      record {
        rows = subst (RowsFit (length picked) st.asks new closed) (sym is) (rows-lost (length picked) st.asks s new k (picked ++ picks) (given ++ replies) closed rows nz c on here v.rows);
        bytes = subst (BytesFit new (mark ∷ marks) closed) (sym is) (bytes-lost (length picked) st.asks s new k mark marks closed rows g al c here v.rows v.bytes);
      };
}
  where
    log-as : (picks : List ℕ) (replies : List HouseReply) (marks : List Mark) → log new picks replies marks ≡ log s picks replies marks
    log-as picks replies marks = ap (λ p. log_of_journal (by_lists p new.pid picks replies) marks) c.policy ∙ ap (λ p. log_of_journal (by_lists s.core.policy p picks replies) marks) c.pid
