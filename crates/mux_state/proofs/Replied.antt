-- An engine goes on where the forwarder replies to a client's request later than at once.
use Rattle.std.proofs.Common.{◌≡◌, ◌≢◌, ◌+◌, ℕ, Bool, true, false, not, ◌&&◌, List, [], ◌∷◌, ◌++◌, length, Option, Some, None, refl, sym, ap, ◌∙◌, subst, cond, append-nil}
use Rattle.std.specs.Prelude.{◌^◌, ◌-◌, ◌<◌, MatchBool, min, is_some}
use Rattle.mux_outside.specs.declared.house.HouseReply.{HouseReply}
use Rattle.mux_outside.specs.declared.house_mark.HouseMark.{HouseMark as Asked}
use Rattle.mux_outside.specs.declared.house_mark.HouseMark.TheVariants.{HouseAnswer}
use Rattle.mux_outside.specs.declared.mark.Mark.{Mark}
use Rattle.mux_outside.specs.declared.mark.Mark.TheVariants.{House}
use Rattle.mux_history.specs.declared.ended.Ended.{Ended}
use Rattle.mux_history.specs.declared.limits.TheConstants.{NUMBERS_END}
use Rattle.mux_history.specs.Rows.{Row, rows_of, is_end, is_run_over, is_out, loss_by, HouseSays, Item, Says, Fate, Goes, Refused, Drop, End}
use Rattle.mux_history.specs.Channels.{own_number_of, holder}
use Rattle.mux_history.specs.Choices.{has_reply, numbers_taken, replies_given, takes_number}
use Rattle.mux_history.specs.Controls.{body_stops, client_has_greeted}
use Rattle.mux_history.specs.Heard.{is_server_payload, next_index}
use Rattle.mux_history.specs.Promises.{is_still_accepting}
use Rattle.mux_history.specs.Requests.{is_sent}
use Rattle.mux_history.specs.Right.{AreFresh, carried_number}
use Rattle.mux_history.specs.Settings.{by_lists}
use Rattle.mux_history.specs.Solo.{run_end_of}
use Rattle.mux_history.specs.Treat.{goes}
use Rattle.mux_history.specs.Log.{more_of, next_row}
use Rattle.mux_history.specs.Journal.{bytes_of, log_of_journal}
use Rattle.mux_peers.specs.State.{ClientState, part}
use Rattle.mux_peers.specs.Stands.{is_standing_lost, standing_of}
use Rattle.mux_peers.specs.Among.{ChangesOne, EachFits, InFits, KeepReading, MovesTo, is_present}
use Rattle.mux_peers.specs.Answering.{AnswersNoting, IsAnswered}
use Rattle.mux_peers.specs.Asked.{asks_of_rows, item_asks}
use Rattle.mux_peers.specs.Laws.{AllMoved}
use Rattle.mux_peers.proofs.Adds.{house-adds}
use Rattle.mux_peers.proofs.Ones.{one-moves-all}
use Rattle.mux_peers.proofs.Stood.{out_is, own_row}
use Rattle.mux_state.specs.Moves.{AnsweredAt, NoneStands, not_lost}
use Rattle.mux_state.specs.State.{EngineState, loss_between, loss_in, numbers, waiting_streams}
use Rattle.mux_state.specs.Stands.{BytesFit, ClientReads, EachReads, GoesAlone, IsAllowed, IsStrange, RowsFit, ServerReads, EngineRepresents, log, run_setting}
use Rattle.mux_state.proofs.Closes.{other_row}
use Rattle.mux_state.proofs.Grows.{Grows, grows-row}
use Rattle.mux_state.proofs.Receiving.{reads-kept}
use Rattle.mux_state.proofs.Lists.{true_false}
use Rattle.mux_state.proofs.Moved.{here-same, moved}
use Rattle.mux_state.proofs.OneClient.{apart-here, loss-row, numbers-one, open-here, unclosed-one}
use Rattle.mux_state.proofs.Over.{are-bytes-on, next-live, none-said-by, one-more, some-end, strange-on}
use Rattle.mux_state.proofs.Pairs.{IsPair, pair, redo}
use Rattle.mux_state.proofs.Refused.{apart-refused}
use Rattle.mux_state.proofs.Still.{lost-out}

-- ---- what such a row leaves as it was

and-false : (b : Bool) → (b && false) ≡ false
and-false true = refl
and-false false = refl

untaken : (k id : ℕ) (given : HouseReply) (row : Row) → row.item ≡ HouseSays k id given → takes_number row ≡ false
untaken k id given row is = ap (λ (i : Item). is_sent row && is_some (own_number_of i)) is ∙ and-false (is_sent row)

same-taken : (row : Row) (rows : List Row) → takes_number row ≡ false → numbers_taken (row ∷ rows) ≡ numbers_taken rows
same-taken row rows e = ap (λ b. elim b as (λ _. ℕ) [ true ↦ numbers_taken rows + 1 | false ↦ numbers_taken rows ]) e

same-fresh : (row : Row) (rows : List Row) → takes_number row ≡ false → AreFresh rows → AreFresh (row ∷ rows)
same-fresh row rows e fresh = (subst (λ b. MatchBool b ((carried_number row.up < NUMBERS_END) × (holder rows (carried_number row.up) ≡ None)) (Unit {0})) (sym e) tt, fresh)

same-given : (k id : ℕ) (given : HouseReply) (row : Row) (rows : List Row) → row.item ≡ HouseSays k id given → replies_given (row ∷ rows) ≡ replies_given rows
same-given k id given row rows is = ap (λ (i : Item). elim (has_reply i) as (λ _. ℕ) [ true ↦ replies_given rows + 1 | false ↦ replies_given rows ]) is

same-asked : (k id : ℕ) (given : HouseReply) (row : Row) (rows : List Row) → row.item ≡ HouseSays k id given → asks_of_rows (row ∷ rows) ≡ asks_of_rows rows
same-asked k id given row rows is = ap (λ (i : Item). asks_of_rows rows ++ item_asks i) is ∙ append-nil (asks_of_rows rows)

same-end : (row : Row) (rows : List Row) (f : Fate) → row.fate ≡ f → is_end f ≡ false → run_end_of (row ∷ rows) ≡ run_end_of rows
same-end row rows Goes e n = ap (λ (f : Fate). elim f as (λ _. Option Ended) [ End cause ↦ Some cause | _ ↦ run_end_of rows ]) e
same-end row rows Refused e n = ap (λ (f : Fate). elim f as (λ _. Option Ended) [ End cause ↦ Some cause | _ ↦ run_end_of rows ]) e
same-end row rows (Drop why) e n = ap (λ (f : Fate). elim f as (λ _. Option Ended) [ End cause ↦ Some cause | _ ↦ run_end_of rows ]) e
same-end row rows (End cause) e n = true_false n

same-listens : (k id : ℕ) (given : HouseReply) (row : Row) (rows : List Row) → row.item ≡ HouseSays k id given → is_still_accepting (row ∷ rows) ≡ is_still_accepting rows
same-listens k id given row rows is = ap (λ b. not b && is_still_accepting rows) (by-item row.item is)
  where
    by-item : (i : Item) → i ≡ HouseSays k id given → (goes row.fate && elim i as (λ _. Bool) [ Says k outgoing given ↦ elim outgoing as (λ _. Bool) [ Rattle.ssh_grammar.specs.Said.Body body ↦ client_has_greeted (rows_of row.client rows) && body_stops body | _ ↦ false ] | _ ↦ false ]) ≡ false
    by-item (HouseSays k id given) e = and-false (goes row.fate)
    by-item i e = absurd (cc)

same-index : (k id : ℕ) (given : HouseReply) (row : Row) (rows : List Row) → row.item ≡ HouseSays k id given → next_index (row ∷ rows) ≡ next_index rows
same-index k id given row rows is = ap (λ (i : Item). elim (is_server_payload i) as (λ _. ℕ) [ true ↦ next_index rows + 1 | false ↦ next_index rows ]) is

-- ---- a client that isn't lost

record RepliedAt (s new : EngineState) (id : ℕ) (given : HouseReply) (x y : ClientState) : Type 0 where
  pid : new.pid ≡ s.pid
  policy : new.core.policy ≡ s.core.policy
  server : new.server ≡ s.server
  refused : new.refused ≡ s.refused
  listening : new.listening ≡ s.listening
  ended : new.ended ≡ s.ended
  one : ChangesOne x.peer.number (IsPair x y) s.clients new.clients
  here : is_standing_lost x.peer.standing ≡ false
  answers : Rattle.mux_peers.specs.Answering.AnswersIn id given s.core new.core s.up new.up x y
  leaving : new.leaving ≡ s.leaving ++ loss_between x.peer.standing y.peer.standing x.peer.number
  reading : KeepReading s.clients new.clients
  waiting : new.waiting ≡ waiting_streams new

abbrev answer_row : EngineState → List ℕ → List HouseReply → List Row → ℕ → ℕ → HouseReply → Row
answer_row s picks replies rows k id given = next_row (run_setting s picks replies) rows (HouseSays k id given)

rows-replied : (taken : ℕ) (dn : List Asked) (s new : EngineState) (id : ℕ) (given : HouseReply) (x y : ClientState) (closed : List ℕ) (rows : List Row) (row : Row) → is_present s.clients x.peer.number ≡ true → x.peer.number ≢ 0 → InFits rows x → RepliedAt s new id given x y → is_run_over rows ≡ false
    → IsAnswered x.peer.number id given (part new.core y.peer new.up) rows row → RowsFit taken dn s closed rows → RowsFit taken dn new closed (row ∷ rows)
rows-replied taken dn s new id given x y closed rows row here nz fx c live w st =
    let k : ℕ = x.peer.number in
    let num : y.peer.number ≡ k = c.answers.number in
    let mine : rows_of k (row ∷ rows) ≡ row ∷ rows_of k rows = own_row k row rows w.client_is in
    let all : AllMoved rows (row ∷ rows) new.core s.clients new.clients new.up =
    one-moves-all k rows (row ∷ rows) s.core new.core s.clients new.clients s.up new.up st.fit (house-adds k id given row rows w.item_is w.client_is w.unrefused) here
    (redo k (MovesTo (row ∷ rows) new.core new.up) x y s.clients new.clients c.one record { number = num; fits = w.fits }) in
    let stands : standing_of (row ∷ rows_of k rows) ≡ y.peer.standing = ap standing_of (sym mine) ∙ (ap (λ j. standing_of (rows_of j (row ∷ rows))) (sym num) ∙ sym w.fits.peer.standing_is) in
    let lostless : is_standing_lost (standing_of (rows_of k rows)) ≡ false = ap is_standing_lost (sym fx.peer.standing_is) ∙ c.here in
    let loss : loss_by row ≡ loss_between x.peer.standing y.peer.standing k =
    loss-row row (rows_of k rows) row.fate row.item refl refl lostless w.unrefused
    ∙ (ap (loss_in (standing_of (row ∷ rows_of k rows))) w.client_is
    ∙ (ap (λ t. loss_in t k) stands ∙ sym (ap (λ b. cond b [] (loss_in y.peer.standing k)) c.here))) in
    moved taken taken dn dn (loss_between x.peer.standing y.peer.standing k) closed s new rows (row ∷ rows) st record {
      grows = subst (Grows rows (row ∷ rows)) loss (grows-row (HouseSays k id given) row rows w.item_is tt w.unrefused);
      numbers_are = numbers-one k (λ a b. b.peer.number ≡ a.peer.number) s.clients new.clients (λ a b h. h) (redo k (λ a b. b.peer.number ≡ a.peer.number) x y s.clients new.clients c.one num);
      refused_is = c.refused;
      taken_is = same-taken row rows (untaken k id given row w.item_is) ∙ st.taken_is;
      drawn_is = same-given k id given row rows w.item_is ∙ st.drawn_is;
      asked_is = same-asked k id given row rows w.item_is ∙ st.asked_is;
      fresh = same-fresh row rows (untaken k id given row w.item_is) st.fresh;
      fit = all.fit;
      ended_is = c.ended ∙ (st.ended_is ∙ sym (same-end row rows row.fate refl w.runs));
      listening_is = c.listening ∙ (st.listening_is ∙ sym (same-listens k id given row rows w.item_is));
      waiting_is = c.waiting;
      leaving_are = c.leaving;
      unclosed = unclosed-one closed k x.peer.standing y.peer.standing (open-here taken dn s closed rows k st here);
      place_is = λ l. ap (λ (v : Rattle.mux_peers.specs.Server.ServerState). v.index) c.server ∙ (st.place_is live ∙ ap (λ n. min n (2 ^ 64 - 1)) (sym (same-index k id given row rows w.item_is)));
      absent = λ j z p q. other_row k j row rows w.client_is (apart-here s k j here p) ∙ q;
      refused_stay = λ j q. other_row k j row rows w.client_is (apart-refused rows s.clients k j st.fit.each here q) ∙ q;
      server_in = ap is_out (other_row k 0 row rows w.client_is nz) ∙ st.server_in;
    }

-- ---- the bytes

reads-house : (mark : Asked) (marks : List Mark) (cs : List ClientState) → ((j : ℕ) → bytes_of j (House mark ∷ marks) ≡ bytes_of j marks) → EachReads marks cs → EachReads (House mark ∷ marks) cs
reads-house mark marks [] same e = tt
reads-house mark marks (c ∷ cs) same e = (subst (λ b. ClientReads b c) (sym (same c.peer.number)) e.0, reads-house mark marks cs same e.1)

bytes-replied : (s new : EngineState) (id : ℕ) (given : HouseReply) (x y : ClientState) (marks : List Mark) (closed : List ℕ) (rows rows' : List Row) → IsAllowed s marks (House (HouseAnswer x.peer.number id given)) → RepliedAt s new id given x y → is_run_over rows ≡ false → BytesFit s marks closed rows → BytesFit new (House (HouseAnswer x.peer.number id given) ∷ marks) closed rows'
bytes-replied s new id given x y marks closed rows rows' al c live st =
    let k : ℕ = x.peer.number in
    let mark : Mark = House (HouseAnswer k id given) in
    let quiet : (j : ℕ) → bytes_of j (mark ∷ marks) ≡ bytes_of j marks = λ j. ap (λ b. bytes_of j marks ++ b) (none-said-by j) ∙ append-nil (bytes_of j marks) in
    let same : numbers new.clients ≡ numbers s.clients = numbers-one k (λ a b. b.peer.number ≡ a.peer.number) s.clients new.clients (λ a b h. h) (redo k (λ a b. b.peer.number ≡ a.peer.number) x y s.clients new.clients c.one c.answers.number) in
    record {
      are_bytes = are-bytes-on s marks mark tt al st.are_bytes;
      clients = λ l. reads-house (HouseAnswer k id given) marks new.clients quiet (reads-kept marks s.clients new.clients c.reading (st.clients live));
      server = λ l. subst (ServerReads (bytes_of 0 (mark ∷ marks))) (sym c.server) (subst (λ b. ServerReads b s.server) (sym (quiet 0)) (st.server live));
      there = λ l j a p. st.there live j a (sym (here-same s new j same c.refused) ∙ p);
      strange = λ j a. let v : IsStrange s (mark ∷ marks) closed j = strange-on s marks closed mark j tt al st.strange a in record { not_here = here-same s new j same c.refused ∙ v.not_here; not_closed_yet = v.not_closed_yet; no_bytes = v.no_bytes };
    }

-- ---- all of it

goes-replied-by : (s new : EngineState) (id : ℕ) (given : HouseReply) (x y : ClientState) → s.ended ≡ None → is_present s.clients x.peer.number ≡ true → x.peer.number ≢ 0 → ((rows : List Row) → EachFits rows s.clients → InFits rows x) → RepliedAt s new id given x y → GoesAlone s new (House (HouseAnswer x.peer.number id given))
goes-replied-by s new id given x y none here nz fits c picked given_before marks closed st al = record {
  asks = st.asks;
  each = st.each;
  at = λ picks replies.
      let k : ℕ = x.peer.number in
      let mark : Mark = House (HouseAnswer k id given) in
      let v : EngineRepresents (picked ++ picks) (given_before ++ replies) (length picked) st.asks s marks closed = st.at picks replies in
      let rows : List Row = log s (picked ++ picks) (given_before ++ replies) marks in
      let live : is_run_over rows ≡ false = sym (some-end rows) ∙ ap is_some (sym v.rows.ended_is ∙ none) in
      let fx : InFits rows x = fits rows v.rows.fit.each in
      let row : Row = answer_row s (picked ++ picks) (given_before ++ replies) rows k id given in
      let in' : is_out (rows_of k rows) ≡ false = out_is (rows_of k rows) ∙ (ap is_standing_lost (sym fx.peer.standing_is) ∙ c.here) in
      let w : IsAnswered k id given (part new.core y.peer new.up) rows row = c.answers.goes s.core.policy s.pid (picked ++ picks) (given_before ++ replies) rows record { core = v.rows.fit.core; peer = fx.peer; up = v.rows.fit.up } live c.here in
      let is : log new (picked ++ picks) (given_before ++ replies) (mark ∷ marks) ≡ row ∷ rows =
      log-as (picked ++ picks) (given_before ++ replies) (mark ∷ marks) ∙ one-more s (picked ++ picks) (given_before ++ replies) rows (HouseSays k id given) live (ap not in') in
      record {
        rows = subst (RowsFit (length picked) st.asks new closed) (sym is) (rows-replied (length picked) st.asks s new id given x y closed rows row here nz fx c live w v.rows);
        bytes = subst (BytesFit new (mark ∷ marks) closed) (sym is) (bytes-replied s new id given x y marks closed rows (row ∷ rows) al c live v.bytes);
      };
}
  where
    log-as : (picks : List ℕ) (replies : List HouseReply) (marks : List Mark) → log new picks replies marks ≡ log s picks replies marks
    log-as picks replies marks = ap (λ p. log_of_journal (by_lists p new.pid picks replies) marks) c.policy ∙ ap (λ p. log_of_journal (by_lists s.core.policy p picks replies) marks) c.pid

pub goes-replied : (s new : EngineState) (k id : ℕ) (given : HouseReply) → k ≢ 0 → s.ended ≡ None → is_present s.clients k ≡ true → AnsweredAt s new k id given → GoesAlone s new (House (HouseAnswer k id given))
goes-replied s new k id given nz none here c =
    let p = pair k (λ x y. (is_standing_lost x.peer.standing ≡ false) × AnswersNoting k id given c.noted s.core new.core s.up new.up x y) s.clients new.clients here c.changes in
    subst (λ j. GoesAlone s new (House (HouseAnswer j id given))) p.number
    (goes-replied-by s new id given p.first p.now none (ap (is_present s.clients) p.number ∙ here) (λ z. nz (sym p.number ∙ z)) p.fits record {
      pid = c.pid;
      policy = c.policy;
      server = c.server;
      refused = c.refused;
      listening = c.listening;
      ended = c.ended;
      one = subst (λ j. ChangesOne j (IsPair p.first p.now) s.clients new.clients) (sym p.number) p.one;
      here = p.is.0;
      answers = p.is.1.answers;
      leaving = c.leaving ∙ (ap (λ l. s.leaving ++ l) p.is.1.noted_is ∙ ap (λ j. s.leaving ++ loss_between p.first.peer.standing p.now.peer.standing j) (sym p.number));
      reading = c.reading;
      waiting = c.waiting;
    })

-- ---- a client that is lost, or isn't there

no-reply : (s : EngineState) (picks : List ℕ) (replies : List HouseReply) (rows : List Row) (k id : ℕ) (given : HouseReply) → is_run_over rows ≡ false → is_out (rows_of k rows) ≡ true → more_of (run_setting s picks replies) rows (HouseSays k id given) ≡ rows
no-reply s picks replies rows k id given live out = ap (λ b. elim b as (λ _. List Row) [ false ↦ rows | true ↦ answer_row s picks replies rows k id given ∷ rows ]) (next-live rows (HouseSays k id given) live ∙ ap not out)

pub goes-unreplied : (s : EngineState) (k id : ℕ) (given : HouseReply) → s.ended ≡ None → NoneStands not_lost k s.clients → GoesAlone s s (House (HouseAnswer k id given))
goes-unreplied s k id given none unserved picked used marks closed st al = record {
  asks = st.asks;
  each = st.each;
  at = λ picks replies.
      let mark : Mark = House (HouseAnswer k id given) in
      let v : EngineRepresents (picked ++ picks) (used ++ replies) (length picked) st.asks s marks closed = st.at picks replies in
      let rows : List Row = log s (picked ++ picks) (used ++ replies) marks in
      let live : is_run_over rows ≡ false = sym (some-end rows) ∙ ap is_some (sym v.rows.ended_is ∙ none) in
      let quiet : (j : ℕ) → bytes_of j (mark ∷ marks) ≡ bytes_of j marks = λ j. ap (λ b. bytes_of j marks ++ b) (none-said-by j) ∙ append-nil (bytes_of j marks) in
      let is : log s (picked ++ picks) (used ++ replies) (mark ∷ marks) ≡ rows = no-reply s (picked ++ picks) (used ++ replies) rows k id given live (lost-out (length picked) st.asks s marks closed rows k live al.1 unserved v.rows v.bytes) in
      record {
        rows = subst (RowsFit (length picked) st.asks s closed) (sym is) v.rows;
        bytes = subst (BytesFit s (mark ∷ marks) closed) (sym is) record {
          are_bytes = are-bytes-on s marks mark tt al v.bytes.are_bytes;
          clients = λ l. reads-house (HouseAnswer k id given) marks s.clients quiet (v.bytes.clients l);
          server = λ l. subst (λ b. ServerReads b s.server) (sym (quiet 0)) (v.bytes.server l);
          there = v.bytes.there;
          strange = λ j a. strange-on s marks closed mark j tt al v.bytes.strange a;
        };
      };
}
