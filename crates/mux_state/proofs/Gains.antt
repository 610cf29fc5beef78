-- An engine goes on where a client's stream gave bytes.
use Rattle.std.proofs.Common.{◌≡◌, ◌≢◌, ◌+◌, ℕ, Bool, true, false, not, ◌&&◌, List, [], ◌∷◌, ◌++◌, length, drop, Option, Some, None, refl, sym, ap, ◌∙◌, subst, append-nil, append_assoc, length-append}
use Rattle.std.specs.Prelude.{◌==◌, ◌^◌, ◌-◌, min, is_some}
use Rattle.std.proofs.lemmas.Bool.{eq-eqb}
use Rattle.ssh_fields.specs.Fields.{AreBytes}
use Rattle.ssh_grammar.specs.Said.{InControl, Stopped, parse, said}
use Rattle.mux_outside.specs.declared.house_mark.HouseMark.{HouseMark as Asked}
use Rattle.mux_outside.specs.declared.house.HouseReply.{HouseReply}
use Rattle.mux_outside.specs.declared.mark.Mark.{Mark}
use Rattle.mux_outside.specs.declared.mark.Mark.TheVariants.{Gets}
use Rattle.mux_history.specs.declared.ended.Ended.{Ended}
use Rattle.mux_history.specs.Rows.{Row, rows_of, is_out, is_run_over}
use Rattle.mux_history.specs.Settings.{by_lists}
use Rattle.mux_history.specs.Solo.{run_end_of}
use Rattle.mux_history.specs.Promises.{is_still_accepting}
use Rattle.mux_history.specs.Log.{more_all}
use Rattle.mux_history.specs.Journal.{bytes_of, is_own_stream, log_of_journal, new_received, new_sayings, unless_own}
use Rattle.mux_peers.specs.declared.run_change.RunChange.{RunChange}
use Rattle.mux_peers.specs.State.{ClientState}
use Rattle.mux_peers.specs.Stands.{is_standing_lost, is_read, standing_of}
use Rattle.mux_peers.specs.Among.{ChangesOne, EachFits, InFits, MovesTo, is_present}
use Rattle.mux_peers.specs.Asked.{asks_of_rows}
use Rattle.mux_peers.specs.Laws.{AllMoved, IsReadTo, rows_given}
use Rattle.mux_peers.specs.Pieces.{Receiving, ReceivesPiece, RunsTo, ended_then}
use Rattle.mux_peers.proofs.Journaled.{pieces-of-a-client}
use Rattle.mux_peers.proofs.Ones.{one-moves-all}
use Rattle.mux_state.specs.Moves.{GainsAt}
use Rattle.mux_state.specs.State.{EngineState, loss_between, numbers, waiting_streams}
use Rattle.mux_state.specs.Stands.{BytesFit, ClientReads, EachReads, GoesOn, IsAllowed, IsStrange, RowsFit, ServerReads, EngineRepresents, log, run_setting}
use Rattle.mux_state.proofs.Lists.{test_other, true_false}
use Rattle.mux_state.proofs.Moved.{here-same, moved}
use Rattle.mux_state.proofs.OneClient.{apart-here, numbers-one, open-here, reads-one, unclosed-one}
use Rattle.mux_state.proofs.Over.{are-bytes-on, some-end, strange-on, unless-not}
use Rattle.mux_state.proofs.Pairs.{IsPair, pair, redo}
use Rattle.mux_state.proofs.Refused.{apart-refused}
use Rattle.mux_state.proofs.Sayings.{SendsOn, says-on}

-- ---- what comes next of choices

pub drop-front : {A : Type 0} (xs ys : List A) → drop (length xs) (xs ++ ys) ≡ ys
drop-front [] ys = refl
drop-front (x ∷ xs) ys = drop-front xs ys

-- ---- a piece of a client that is read

pub record PieceAt (May : HouseReply → Type 0) (before recorded : Option (List Asked)) (s new : EngineState) (bytes : List ℕ) (x y : ClientState) (heard : RunChange) : Type 0 where
  pub pid : new.pid ≡ s.pid
  pub server : new.server ≡ s.server
  pub refused : new.refused ≡ s.refused
  pub one : ChangesOne x.peer.number (IsPair x y) s.clients new.clients
  pub piece : ReceivesPiece May before recorded s.pid bytes s.core s.up x new.core new.up y heard
  pub read : is_read x.peer.standing ≡ true
  pub listening : new.listening ≡ (s.listening && not heard.stops)
  pub ended : new.ended ≡ heard.ended
  pub leaving : new.leaving ≡ s.leaving ++ loss_between x.peer.standing y.peer.standing x.peer.number
  pub waiting : new.waiting ≡ waiting_streams new

and-comm : (a b : Bool) → (a && b) ≡ (b && a)
and-comm true true = refl
and-comm true false = refl
and-comm false true = refl
and-comm false false = refl

then-none : (e : Option Ended) → ended_then e None ≡ e
then-none (Some cause) = refl
then-none None = refl

pub read-in : (s : _) → is_read s ≡ true → is_standing_lost s ≡ false
read-in Rattle.mux_peers.specs.declared.standing.Standing.TheVariants.Awaited e = refl
read-in Rattle.mux_peers.specs.declared.standing.Standing.TheVariants.Greeted e = refl
read-in Rattle.mux_peers.specs.declared.standing.Standing.TheVariants.Proxied e = refl
read-in Rattle.mux_peers.specs.declared.standing.Standing.TheVariants.Unread e = refl
read-in (Rattle.mux_peers.specs.declared.standing.Standing.TheVariants.Lost why) e = true_false (sym e)

-- with these rows after it
pub record PieceRows (s new : EngineState) (x y : ClientState) (heard : RunChange) (picked : List ℕ) (used : List HouseReply) (asks : List Asked) (rows rows' : List Row) (old bytes : List ℕ) : Type 0 where
  pub on : SendsOn x.peer.number rows rows'
  pub to : IsReadTo x.peer.number old bytes picked used asks rows rows' new.core new.up y heard
  pub live : is_run_over rows ≡ false

rows-gain : (May : HouseReply → Type 0) (before recorded : Option (List Asked)) (taken : ℕ) (dn : List Asked) (given : List HouseReply) (s new : EngineState) (bytes old : List ℕ) (x y : ClientState) (heard : RunChange) (picked : List ℕ) (used : List HouseReply) (asks : List Asked) (closed : List ℕ) (rows rows' : List Row)
    → AreBytes old → AreBytes bytes → length asks ≡ length used → is_present s.clients x.peer.number ≡ true → x.peer.number ≢ 0 → InFits rows x → PieceAt May before recorded s new bytes x y heard → PieceRows s new x y heard picked used asks rows rows' old bytes → RowsFit taken dn s closed rows
    → RowsFit (taken + length picked) (dn ++ asks) new closed rows'
rows-gain May before recorded taken dn given s new bytes old x y heard picked used asks closed rows rows' ob nb each here nz fx c w st =
    let k : ℕ = x.peer.number in
    let all : AllMoved rows rows' new.core s.clients new.clients new.up =
    one-moves-all k rows rows' s.core new.core s.clients new.clients s.up new.up st.fit w.to.adds here (redo k (MovesTo rows' new.core new.up) x y s.clients new.clients c.one record { number = w.to.number; fits = w.to.fits }) in
    let stood : loss_between x.peer.standing y.peer.standing k ≡ loss_between (standing_of (rows_of k rows)) (standing_of (rows_of k rows')) k =
    ap (λ (a : _). loss_between a y.peer.standing k) fx.peer.standing_is ∙ ap (λ (b : _). loss_between (standing_of (rows_of k rows)) b k) (w.to.fits.peer.standing_is ∙ ap (λ j. standing_of (rows_of j rows')) w.to.number) in
    moved taken (taken + length picked) dn (dn ++ asks) (loss_between x.peer.standing y.peer.standing k) closed s new rows rows' st record {
      grows = subst (Rattle.mux_state.proofs.Grows.Grows rows rows') (sym stood) w.on.grows;
      numbers_are = numbers-one k (λ a b. b.peer.number ≡ a.peer.number) s.clients new.clients (λ a b h. h) (redo k (λ a b. b.peer.number ≡ a.peer.number) x y s.clients new.clients c.one w.to.number);
      refused_is = c.refused;
      taken_is = w.to.taken ∙ ap (λ n. n + length picked) st.taken_is;
      drawn_is = w.to.given_is ∙ (ap (λ n. n + length used) st.drawn_is ∙ (ap (λ n. length dn + n) (sym each) ∙ sym (length-append dn asks)));
      asked_is = w.to.asked ∙ ap (λ l. l ++ asks) st.asked_is;
      fresh = w.to.fresh ob nb st.fresh;
      fit = all.fit;
      ended_is = c.ended ∙ sym (w.to.ended_is ∙ (ap (ended_then heard.ended) (none-ended rows w.live) ∙ then-none heard.ended));
      listening_is = c.listening ∙ (ap (λ b. b && not heard.stops) st.listening_is ∙ (and-comm (is_still_accepting rows) (not heard.stops) ∙ sym w.to.stops_is));
      waiting_is = c.waiting;
      leaving_are = c.leaving;
      unclosed = unclosed-one closed k x.peer.standing y.peer.standing (open-here taken dn s closed rows k st here);
      place_is = λ l. ap (λ (v : Rattle.mux_peers.specs.Server.ServerState). v.index) c.server ∙ (st.place_is w.live ∙ ap (λ n. min n (2 ^ 64 - 1)) (sym w.on.index));
      absent = λ j z p q. w.to.adds.others j (other j (apart-here s k j here p)) ∙ q;
      refused_stay = λ j q. w.to.adds.others j (other j (apart-refused rows s.clients k j st.fit.each here q)) ∙ q;
      server_in = ap is_out (w.to.adds.others 0 (other 0 nz)) ∙ st.server_in;
    }
  where
    none-ended : (rows : List Row) → is_run_over rows ≡ false → run_end_of rows ≡ None
    none-ended rows e = none-of (run_end_of rows) (some-end rows ∙ e)
      where
        none-of : (o : Option Ended) → is_some o ≡ false → o ≡ None
        none-of None e = refl
        none-of (Some x) e = true_false e

    other : (j : ℕ) → x.peer.number ≢ j → (j == x.peer.number) ≡ false
    other j ne = test_other j x.peer.number (λ e. ne (sym e))

-- ---- the bytes

reads-now : (old bytes : List ℕ) (picked : List ℕ) (used : List HouseReply) (asks : List Asked) (rows rows' : List Row) (core : _) (up : _) (y : ClientState) (heard : RunChange) (k : ℕ) → is_run_over rows' ≡ false → IsReadTo k old bytes picked used asks rows rows' core up y heard → ClientReads (old ++ bytes) y
reads-now old bytes picked used asks rows rows' core up y heard k live r = record {
  mode_is = λ l. by_read (is_read y.peer.standing) refl l;
  rest_is = λ e. (r.reads e).rest;
}
  where
    unread : (s : _) → is_read s ≡ false → is_standing_lost s ≡ false → Rattle.mux_peers.specs.Stands.parse_mode_of s ≡ Stopped
    unread Rattle.mux_peers.specs.declared.standing.Standing.TheVariants.Awaited e l = true_false e
    unread Rattle.mux_peers.specs.declared.standing.Standing.TheVariants.Greeted e l = true_false e
    unread Rattle.mux_peers.specs.declared.standing.Standing.TheVariants.Proxied e l = true_false e
    unread Rattle.mux_peers.specs.declared.standing.Standing.TheVariants.Unread e l = refl
    unread (Rattle.mux_peers.specs.declared.standing.Standing.TheVariants.Lost why) e l = refl

    by_read : (b : Bool) → is_read y.peer.standing ≡ b → is_standing_lost y.peer.standing ≡ false → (parse InControl (old ++ bytes)).mode ≡ Rattle.mux_peers.specs.Stands.parse_mode_of y.peer.standing
    by_read true e l = (r.reads e).mode
    by_read false e l = r.stopped e l live ∙ sym (unread y.peer.standing e l)

pub gets-quiet : (k j : ℕ) (bytes : List ℕ) → k ≢ j → Rattle.mux_history.specs.Journal.bytes_in j (Gets k bytes) ≡ []
gets-quiet k j bytes ne = ap (λ b. elim b as (λ _. List ℕ) [ true ↦ bytes | false ↦ [] ]) (test_other k j ne)

pub gets-own : (k : ℕ) (bytes : List ℕ) (marks : List Mark) → bytes_of k (Gets k bytes ∷ marks) ≡ bytes_of k marks ++ bytes
gets-own k bytes marks = ap (λ b. bytes_of k marks ++ elim b as (λ _. List ℕ) [ true ↦ bytes | false ↦ [] ]) (eq-eqb k k refl)

bytes-gain : (May : HouseReply → Type 0) (before recorded : Option (List Asked)) (taken : ℕ) (dn : List Asked) (s new : EngineState) (bytes : List ℕ) (x y : ClientState) (heard : RunChange) (picked : List ℕ) (used : List HouseReply) (asks : List Asked) (marks : List Mark) (closed : List ℕ) (rows rows' : List Row)
    → is_present s.clients x.peer.number ≡ true → x.peer.number ≢ 0 → IsAllowed s marks (Gets x.peer.number bytes) → PieceAt May before recorded s new bytes x y heard → PieceRows s new x y heard picked used asks rows rows' (bytes_of x.peer.number marks) bytes → RowsFit taken dn s closed rows → BytesFit s marks closed rows
    → BytesFit new (Gets x.peer.number bytes ∷ marks) closed rows'
bytes-gain May before recorded taken dn s new bytes x y heard picked used asks marks closed rows rows' here nz al c w fit st =
    let k : ℕ = x.peer.number in
    let mark : Mark = Gets k bytes in
    let same : numbers new.clients ≡ numbers s.clients = numbers-one k (λ a b. b.peer.number ≡ a.peer.number) s.clients new.clients (λ a b h. h) (redo k (λ a b. b.peer.number ≡ a.peer.number) x y s.clients new.clients c.one w.to.number) in
    record {
      are_bytes = are-bytes-on s marks mark tt al st.are_bytes;
      clients = λ l. reads-one k (IsPair x y) mark marks s.clients new.clients (λ j ne. gets-quiet k j bytes ne)
          (λ a b e r p. subst (λ (d : ClientState). (d.peer.number ≡ k) × ClientReads (bytes_of k (mark ∷ marks)) d) (sym p.1) (w.to.number, subst (λ u. ClientReads u y) (sym (gets-own k bytes marks)) (reads-now (bytes_of k marks) bytes picked used asks rows rows' new.core new.up y heard k l w.to)))
          here (λ p. st.clients w.live) fit.fit.apart c.one;
      server = λ l. subst (ServerReads (bytes_of 0 (mark ∷ marks))) (sym c.server) (subst (λ b. ServerReads b s.server) (sym (ap (λ b. bytes_of 0 marks ++ b) (gets-quiet k 0 bytes nz) ∙ append-nil (bytes_of 0 marks))) (st.server w.live));
      there = λ l j a p. st.there w.live j a (sym (here-same s new j same c.refused) ∙ p);
      strange = λ j a. let v : IsStrange s (mark ∷ marks) closed j = strange-on s marks closed mark j tt al st.strange a in record { not_here = here-same s new j same c.refused ∙ v.not_here; not_closed_yet = v.not_closed_yet; no_bytes = v.no_bytes };
    }

-- ---- all of it

pub gets-log : (s : EngineState) (picks : List ℕ) (replies : List HouseReply) (k : ℕ) (bytes : List ℕ) (marks : List Mark) → k ≢ 0 → is_own_stream k ≡ false → log s picks replies (Gets k bytes ∷ marks) ≡ rows_given s.core.policy s.pid picks replies k (bytes_of k marks) bytes (log s picks replies marks)
gets-log s picks replies k bytes marks nz own = ap (λ b. more_all (run_setting s picks replies) (log s picks replies marks) (elim b as (λ _. List Rattle.mux_history.specs.Rows.Item) [ true ↦ new_received (bytes_of 0 marks) (bytes_of 0 marks ++ bytes) | false ↦ unless_own k (new_sayings k (bytes_of k marks) (bytes_of k marks ++ bytes)) ])) (test_other k 0 nz) ∙ ap (more_all (run_setting s picks replies) (log s picks replies marks)) (unless-not k (new_sayings k (bytes_of k marks) (bytes_of k marks ++ bytes)) own)

piece-rows-of : (May : HouseReply → Type 0) (before recorded : Option (List Asked)) (s new : EngineState) (bytes : List ℕ) (x y : ClientState) (heard : RunChange) (c : PieceAt May before recorded s new bytes x y heard) (picks : List ℕ) (replies : List HouseReply) (taken : ℕ) (dn : List Asked) (marks : List Mark) (closed : List ℕ) (rows : List Row)
    → is_run_over rows ≡ false → InFits rows x → RowsFit taken dn s closed rows → BytesFit s marks closed rows → ClientReads (bytes_of x.peer.number marks) x
    → Rattle.mux_peers.specs.Says.ComeNext c.piece.receiving.picked rows picks → Rattle.mux_peers.specs.Pieces.ReplyNext c.piece.receiving.used rows replies
    → PieceRows s new x y heard c.piece.receiving.picked c.piece.receiving.used c.piece.receiving.asks rows (rows_given s.core.policy s.pid picks replies x.peer.number (bytes_of x.peer.number marks) bytes rows) (bytes_of x.peer.number marks) bytes
piece-rows-of May before recorded s new bytes x y heard c picks replies taken dn marks closed rows live fx fit st reads come next =
    let k : ℕ = x.peer.number in
    let h = c.piece.receiving in
    let runs : RunsTo s.core.policy s.pid picks replies k (Rattle.mux_peers.specs.Stands.parse_mode_of x.peer.standing) (x.rest ++ bytes) h.picked h.used h.asks rows new.core new.up y heard =
    h.goes picks replies rows record { core = fit.fit.core; peer = fx.peer; up = fit.fit.up } live come next in
    record {
      on = says-on s.core.policy s.pid picks replies k (drop (length (said (bytes_of k marks))) (said (bytes_of k marks ++ bytes))) rows;
      to = pieces-of-a-client s.core.policy s.pid picks replies k (bytes_of k marks) bytes x y h.picked h.used h.asks rows new.core new.up heard record { mode = reads.mode_is (read-in x.peer.standing c.read); rest = reads.rest_is c.read } c.piece.whole runs;
      live = live;
    }

pub goes-piece : (May : HouseReply → Type 0) (before recorded : Option (List Asked)) (s new : EngineState) (bytes : List ℕ) (x y : ClientState) (heard : RunChange) → s.ended ≡ None → is_present s.clients x.peer.number ≡ true → x.peer.number ≢ 0 → ((rows : List Row) → EachFits rows s.clients → InFits rows x) → ((marks : List Mark) → EachReads marks s.clients → ClientReads (bytes_of x.peer.number marks) x)
    → PieceAt May before recorded s new bytes x y heard → GoesOn May before recorded s new (Gets x.peer.number bytes)
goes-piece May before recorded s new bytes x y heard none here nz fits reads c picked given marks closed st al = record {
  picks = h.picked;
  replies = h.used;
  asks = h.asks;
  may = h.may;
  stands = record {
    asks = st.asks ++ h.asks;
    each = length-append st.asks h.asks ∙ (ap (λ n. n + length h.asks) st.each ∙ (ap (λ n. length given + n) h.each ∙ sym (length-append given h.used)));
    at = λ picks replies. stands-at picks replies;
  };
  recorded = h.records;
  asked = λ picks replies. asked-at picks replies;
}
  where
    h : Receiving May before recorded s.pid (x.rest ++ bytes) s.core s.up x new.core new.up y heard
    h = c.piece.receiving

    k : ℕ
    k = x.peer.number

    log-as : (picks : List ℕ) (replies : List HouseReply) (marks : List Mark) → log new picks replies marks ≡ log s picks replies marks
    log-as picks replies marks = ap (λ p. log_of_journal (by_lists p new.pid picks replies) marks) c.piece.receiving.policy ∙ ap (λ p. log_of_journal (by_lists s.core.policy p picks replies) marks) c.pid

    -- for choices that go on so
    for-all : (picks : List ℕ) (replies : List HouseReply) → (let p : List ℕ = picked ++ (h.picked ++ picks) in let r : List HouseReply = given ++ (h.used ++ replies) in
        EngineRepresents p r (length (picked ++ h.picked)) (st.asks ++ h.asks) new (Gets k bytes ∷ marks) closed × (asks_of_rows (log new p r (Gets k bytes ∷ marks)) ≡ asks_of_rows (log s p r marks) ++ h.asks))
    for-all picks replies =
        let p : List ℕ = picked ++ (h.picked ++ picks) in
        let r : List HouseReply = given ++ (h.used ++ replies) in
        let v : EngineRepresents p r (length picked) st.asks s marks closed = st.at (h.picked ++ picks) (h.used ++ replies) in
        let rows : List Row = log s p r marks in
        let live : is_run_over rows ≡ false = sym (some-end rows) ∙ ap is_some (sym v.rows.ended_is ∙ none) in
        let fx : InFits rows x = fits rows v.rows.fit.each in
        let come : Rattle.mux_peers.specs.Says.ComeNext h.picked rows p = (picks, ap (λ n. drop n p) v.rows.taken_is ∙ drop-front picked (h.picked ++ picks)) in
        let next : Rattle.mux_peers.specs.Pieces.ReplyNext h.used rows r = (replies, ap (λ n. drop n r) (v.rows.drawn_is ∙ st.each) ∙ drop-front given (h.used ++ replies)) in
        let rows' : List Row = rows_given s.core.policy s.pid p r k (bytes_of k marks) bytes rows in
        let w : PieceRows s new x y heard h.picked h.used h.asks rows rows' (bytes_of k marks) bytes = piece-rows-of May before recorded s new bytes x y heard c p r (length picked) st.asks marks closed rows live fx v.rows v.bytes (reads marks (v.bytes.clients live)) come next in
        let is : log new p r (Gets k bytes ∷ marks) ≡ rows' = log-as p r (Gets k bytes ∷ marks) ∙ gets-log s p r k bytes marks nz al.2 in (
          record {
            rows = subst (RowsFit (length (picked ++ h.picked)) (st.asks ++ h.asks) new closed) (sym is)
                (subst (λ n. RowsFit n (st.asks ++ h.asks) new closed rows') (sym (length-append picked h.picked))
                (rows-gain May before recorded (length picked) st.asks given s new bytes (bytes_of k marks) x y heard h.picked h.used h.asks closed rows rows' (v.bytes.are_bytes k) al.1 h.each here nz fx c w v.rows));
            bytes = subst (BytesFit new (Gets k bytes ∷ marks) closed) (sym is) (bytes-gain May before recorded (length picked) st.asks s new bytes x y heard h.picked h.used h.asks marks closed rows rows' here nz al c w v.rows v.bytes);
          },
          ap asks_of_rows is ∙ w.to.asked,
        )

    stands-at : (picks : List ℕ) (replies : List HouseReply) → EngineRepresents ((picked ++ h.picked) ++ picks) ((given ++ h.used) ++ replies) (length (picked ++ h.picked)) (st.asks ++ h.asks) new (Gets k bytes ∷ marks) closed
    stands-at picks replies =
        subst (λ p. EngineRepresents p ((given ++ h.used) ++ replies) (length (picked ++ h.picked)) (st.asks ++ h.asks) new (Gets k bytes ∷ marks) closed) (sym (append_assoc picked h.picked picks))
        (subst (λ r. EngineRepresents (picked ++ (h.picked ++ picks)) r (length (picked ++ h.picked)) (st.asks ++ h.asks) new (Gets k bytes ∷ marks) closed) (sym (append_assoc given h.used replies)) (for-all picks replies).0)

    asked-at : (picks : List ℕ) (replies : List HouseReply) → asks_of_rows (log new ((picked ++ h.picked) ++ picks) ((given ++ h.used) ++ replies) (Gets k bytes ∷ marks)) ≡ asks_of_rows (log s ((picked ++ h.picked) ++ picks) ((given ++ h.used) ++ replies) marks) ++ h.asks
    asked-at picks replies =
        subst (λ p. asks_of_rows (log new p ((given ++ h.used) ++ replies) (Gets k bytes ∷ marks)) ≡ asks_of_rows (log s p ((given ++ h.used) ++ replies) marks) ++ h.asks) (sym (append_assoc picked h.picked picks))
        (subst (λ r. asks_of_rows (log new (picked ++ (h.picked ++ picks)) r (Gets k bytes ∷ marks)) ≡ asks_of_rows (log s (picked ++ (h.picked ++ picks)) r marks) ++ h.asks) (sym (append_assoc given h.used replies)) (for-all picks replies).1)

-- ---- among all

pub goes-gained : (May : HouseReply → Type 0) (before recorded : Option (List Asked)) (s new : EngineState) (k : ℕ) (bytes : List ℕ) → s.ended ≡ None → is_present s.clients k ≡ true → k ≢ 0 → GainsAt May before recorded s new k bytes → GoesOn May before recorded s new (Gets k bytes)
goes-gained May before recorded s new k bytes none here nz c =
    let p = pair k (λ x y. (is_read x.peer.standing ≡ true) × (ReceivesPiece May before recorded s.pid bytes s.core s.up x new.core new.up y c.heard × (new.leaving ≡ s.leaving ++ loss_between x.peer.standing y.peer.standing k))) s.clients new.clients here c.changes in
    subst (λ j. GoesOn May before recorded s new (Gets j bytes)) p.number
    (goes-piece May before recorded s new bytes p.first p.now c.heard none (ap (is_present s.clients) p.number ∙ here) (λ z. nz (sym p.number ∙ z)) p.fits p.reads record {
      pid = c.pid;
      server = c.server;
      refused = c.refused;
      one = subst (λ j. ChangesOne j (IsPair p.first p.now) s.clients new.clients) (sym p.number) p.one;
      piece = p.is.1.0;
      read = p.is.0;
      listening = c.listening;
      ended = c.ended;
      leaving = p.is.1.1 ∙ ap (λ j. s.leaving ++ loss_between p.first.peer.standing p.now.peer.standing j) (sym p.number);
      waiting = c.waiting;
    })
