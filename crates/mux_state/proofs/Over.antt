-- An engine whose run is over, and one whose run ends by the server's stream.
use Rattle.std.proofs.Common.{◌≡◌, ◌≢◌, ℕ, Bool, true, false, List, [], ◌∷◌, ◌++◌, length, drop, map, Some, None, refl, sym, ap, ◌∙◌, subst, inl, inr, cond, append-nil}
use Rattle.std.specs.Prelude.{◌==◌, is_some}
use Rattle.std.proofs.lemmas.Bool.Decides.{eqb_tells}
use Rattle.mux_outside.specs.declared.house_mark.HouseMark.{HouseMark as Asked}
use Rattle.mux_outside.specs.declared.house.HouseReply.{HouseReply}
use Rattle.mux_outside.specs.declared.mark.Mark.{Mark}
use Rattle.mux_outside.specs.declared.mark.Mark.TheVariants.{Accepts, Gets, Ends, Fails, WriteFails, House}
use Rattle.mux_outside.specs.declared.house_mark.HouseMark.TheVariants.{HouseAnswer}
use Rattle.mux_history.specs.declared.limits.TheConstants.{HOUSE}
use Rattle.ssh_fields.specs.Fields.{AreBytes}
use Rattle.ssh_grammar.specs.Said.{Outgoing, Body, Payload, BadFraming, InProxy, parse, said}
use Rattle.mux_history.specs.declared.ended.Ended.{Ended}
use Rattle.mux_history.specs.declared.ended.Ended.TheVariants as ended
use Rattle.mux_history.specs.declared.broke.Break.TheVariants as broke
use Rattle.mux_history.specs.Rows.{Row, is_run_over, Item, Gone, ServerEnd, ServerCut, ServerFailed, Fate, Goes, Refused, Drop, End}
use Rattle.mux_history.specs.Heard.{outcome_of_end}
use Rattle.mux_history.specs.Pending.{pending_up}
use Rattle.mux_history.specs.Solo.{run_end_of}
use Rattle.mux_history.specs.Log.{Setting, bare_row, is_took, makes_next, makes_row, more_all, more_of, next_row}
use Rattle.mux_history.specs.Journal.{bytes_in, bytes_of, received_item, is_accepted, is_own_stream, unless_own, items_in, new_received, new_sayings, sent_item, server_end}
use Rattle.mux_peers.specs.State.{ClientState}
use Rattle.mux_peers.specs.Among.{EachFits}
use Rattle.mux_peers.specs.Asked.{asks_of_rows}
use Rattle.mux_peers.proofs.Ones.{other-fits}
use Rattle.mux_state.specs.Moves.{IsStreamEvent}
use Rattle.mux_state.specs.State.{EngineState, run_ended_by, server_cause}
use Rattle.mux_state.specs.Stands.{BytesFit, GoesAlone, IsAllowed, IsStrange, RowsFit, ServerReads, EngineRepresents, log, next_frame_place, run_setting}
use Rattle.mux_state.proofs.Closes.{other_row}
use Rattle.mux_state.proofs.Grows.{NotAdmit, grows-row}
use Rattle.mux_state.proofs.Refused.{refused-client}
use Rattle.mux_state.proofs.Lists.{test_other, true_false}
use Rattle.mux_state.proofs.Moved.{moved}
use Rattle.mux_state.proofs.Takes.{more-yes}

-- ---- after the end nothing more makes a row

end-is : (f : Fate) (row : Row) (rows : List Row) → row.fate ≡ f → is_some (run_end_of rows) ≡ is_run_over rows → is_some (run_end_of (row ∷ rows)) ≡ is_run_over (row ∷ rows)
end-is Goes row rows e ih = rw e ih
end-is Refused row rows e ih = rw e ih
end-is (Drop why) row rows e ih = rw e ih
end-is (End cause) row rows e ih = rw e refl

pub some-end : (rows : List Row) → is_some (run_end_of rows) ≡ is_run_over rows
some-end [] = refl
some-end (row ∷ rows) = end-is row.fate row rows refl (some-end rows)

pub over-one : (s : Setting) (rows : List Row) (item : Item) → is_run_over rows ≡ true → is_took item ≡ false → more_of s rows item ≡ rows
over-one s rows item e t = ap (λ b. elim b as (λ _. List Row) [ false ↦ rows | true ↦ next_row s rows item ∷ rows ]) (ap (λ b. elim b as (λ _. Bool) [ true ↦ is_took item | false ↦ makes_row rows item ]) e ∙ t)

abbrev NoneTaken : List Item → Type 0
NoneTaken [] = Unit {0}
NoneTaken (item ∷ items) = (is_took item ≡ false) × NoneTaken items

pub over-all : (s : Setting) (items : List Item) (rows : List Row) → is_run_over rows ≡ true → NoneTaken items → more_all s rows items ≡ rows
over-all s [] rows e n = refl
over-all s (item ∷ items) rows e n = ap (λ r. more_all s r items) (over-one s rows item e n.0) ∙ over-all s items rows e n.1

none-said : (k : ℕ) (xs : List Outgoing) → NoneTaken (map (sent_item k) xs)
none-said k [] = tt
none-said k (x ∷ xs) = (refl, none-said k xs)

none-heard : (xs : List Outgoing) → NoneTaken (map received_item xs)
none-heard [] = tt
none-heard (Body b ∷ xs) = (refl, none-heard xs)
none-heard (Payload b ∷ xs) = (refl, none-heard xs)
none-heard (BadFraming f ∷ xs) = (refl, none-heard xs)

none-end : (rest : List ℕ) → NoneTaken (server_end rest ∷ [])
none-end [] = (refl, tt)
none-end (b ∷ rest) = (refl, tt)

by-stream : (b : Bool) (xs ys : List Item) → NoneTaken xs → NoneTaken ys → NoneTaken (elim b as (λ _. List Item) [ true ↦ xs | false ↦ ys ])
by-stream true xs ys m n = m
by-stream false xs ys m n = n

none-own : (k : ℕ) (xs : List Item) → NoneTaken xs → NoneTaken (unless_own k xs)
none-own k xs n = elim (is_own_stream k) as (λ b. NoneTaken (elim b as (λ _. List Item) [ true ↦ [] | false ↦ xs ])) [ true ↦ tt | false ↦ n ]

-- a stream that isn't the master's own gives its items
pub unless-not : (k : ℕ) (xs : List Item) → is_own_stream k ≡ false → unless_own k xs ≡ xs
unless-not k xs e = ap (λ b. elim b as (λ _. List Item) [ true ↦ [] | false ↦ xs ]) e

-- what the forwarder sent at a mark that isn't its bytes
pub none-said-by : (j : ℕ) → (elim (HOUSE == j) as (λ _. List ℕ) [ true ↦ [] | false ↦ [] ]) ≡ []
none-said-by j = elim (HOUSE == j) as (λ b. (elim b as (λ _. List ℕ) [ true ↦ [] | false ↦ [] ]) ≡ []) [ true ↦ refl | false ↦ refl ]

none-taken : (before : List Mark) (mark : Mark) → IsStreamEvent mark → NoneTaken (items_in before mark)
none-taken before (Accepts k) h = (refl, tt)
none-taken before (Gets k bytes) h = by-stream (k == 0) (new_received (bytes_of 0 before) (bytes_of 0 before ++ bytes)) (unless_own k (new_sayings k (bytes_of k before) (bytes_of k before ++ bytes)))
    (none-heard (drop (length (parse InProxy (bytes_of 0 before)).says) (parse InProxy (bytes_of 0 before ++ bytes)).says)) (none-own k _ (none-said k (drop (length (said (bytes_of k before))) (said (bytes_of k before ++ bytes)))))
none-taken before (Ends k) h = by-stream (k == 0) (server_end (parse InProxy (bytes_of 0 before)).rest ∷ []) (unless_own k (Gone k ∷ [])) (none-end (parse InProxy (bytes_of 0 before)).rest) (none-own k (Gone k ∷ []) (refl, tt))
none-taken before (Fails k) h = by-stream (k == 0) (ServerFailed ∷ []) (unless_own k (Gone k ∷ [])) (refl, tt) (none-own k (Gone k ∷ []) (refl, tt))
none-taken before (WriteFails k) h = by-stream (k == 0) (ServerFailed ∷ []) (unless_own k (Gone k ∷ [])) (refl, tt) (none-own k (Gone k ∷ []) (refl, tt))
none-taken before (House (HouseAnswer k id given)) h = (refl, tt)
none-taken before mark h = absurd h

-- ---- strangers

accepted-apart : (k j : ℕ) (marks : List Mark) → is_accepted k marks ≡ true → is_accepted j marks ≡ false → k ≢ j
accepted-apart k j marks a b e = true_false (sym a ∙ (ap (λ i. is_accepted i marks) e ∙ b))

of-bytes : (k j : ℕ) (bytes : List ℕ) → k ≢ j → bytes_in j (Gets k bytes) ≡ []
of-bytes k j bytes ne = ap (λ b. elim b as (λ _. List ℕ) [ true ↦ bytes | false ↦ [] ]) (test_other k j ne)

pub still-strange : (s : EngineState) (marks : List Mark) (mark : Mark) (j : ℕ) → IsStreamEvent mark → IsAllowed s marks mark → is_accepted j (mark ∷ marks) ≡ false → (is_accepted j marks ≡ false) × (j ≢ 0 → bytes_in j mark ≡ [])
still-strange s marks (Accepts k) j h al a = (before (k == j) a, λ nz. refl)
  where
    before : (b : Bool) → cond b true (is_accepted j marks) ≡ false → is_accepted j marks ≡ false
    before true e = true_false e
    before false e = e
still-strange s marks (Gets k bytes) j h al a = (
  a,
  λ nz. elim (eqb_tells k 0) [
    | inl q ↦ of-bytes k j bytes (λ e. nz (sym e ∙ q.1))
    | inr q ↦ of-bytes k j bytes (accepted-apart k j marks (al.0 q.1) a)
  ],
)
still-strange s marks (Ends k) j h al a = (a, λ nz. refl)
still-strange s marks (Fails k) j h al a = (a, λ nz. refl)
still-strange s marks (WriteFails k) j h al a = (a, λ nz. refl)
still-strange s marks (House (HouseAnswer k id given)) j h al a = (a, λ nz. none-said-by j)
still-strange s marks mark j h al a = absurd h

pub strange-on : (s : EngineState) (marks : List Mark) (closed : List ℕ) (mark : Mark) (j : ℕ) → IsStreamEvent mark → IsAllowed s marks mark → ((j : ℕ) → is_accepted j marks ≡ false → IsStrange s marks closed j) → is_accepted j (mark ∷ marks) ≡ false → IsStrange s (mark ∷ marks) closed j
strange-on s marks closed mark j h al was a =
    let q = still-strange s marks mark j h al a in
    let v : IsStrange s marks closed j = was j q.0 in
    record { not_here = v.not_here; not_closed_yet = v.not_closed_yet; no_bytes = λ nz. ap (λ b. bytes_of j marks ++ b) (q.1 nz.0) ∙ (append-nil (bytes_of j marks) ∙ v.no_bytes nz) }

-- ---- what comes is bytes

bytes-then : (a b : List ℕ) → AreBytes a → AreBytes b → AreBytes (a ++ b)
bytes-then [] b x y = y
bytes-then (n ∷ a) b x y = (x.0, bytes-then a b x.1 y)

bytes-at : (s : EngineState) (marks : List Mark) (mark : Mark) (j : ℕ) → IsStreamEvent mark → IsAllowed s marks mark → AreBytes (bytes_in j mark)
bytes-at s marks (Accepts k) j h al = tt
bytes-at s marks (Gets k bytes) j h al = by_stream (k == j)
  where
    by_stream : (b : Bool) → AreBytes (elim b as (λ _. List ℕ) [ true ↦ bytes | false ↦ [] ])
    by_stream true = al.1
    by_stream false = tt
bytes-at s marks (Ends k) j h al = tt
bytes-at s marks (House (HouseAnswer k id given)) j h al = subst AreBytes (sym (none-said-by j)) tt
bytes-at s marks (Fails k) j h al = tt
bytes-at s marks (WriteFails k) j h al = tt
bytes-at s marks mark j h al = absurd h

pub are-bytes-on : (s : EngineState) (marks : List Mark) (mark : Mark) → IsStreamEvent mark → IsAllowed s marks mark → ((t : ℕ) → AreBytes (bytes_of t marks)) → (t : ℕ) → AreBytes (bytes_of t (mark ∷ marks))
are-bytes-on s marks mark h al was t = bytes-then (bytes_of t marks) (bytes_in t mark) (was t) (bytes-at s marks mark t h al)

-- ---- an engine whose run is over

bytes-over : (s : EngineState) (mark : Mark) (marks : List Mark) (closed : List ℕ) (rows : List Row) → IsStreamEvent mark → IsAllowed s marks mark → is_run_over rows ≡ true → BytesFit s marks closed rows → BytesFit s (mark ∷ marks) closed rows
bytes-over s mark marks closed rows h al e st = record {
  are_bytes = are-bytes-on s marks mark h al st.are_bytes;
  clients = λ l. true_false (sym e ∙ l);
  server = λ l. true_false (sym e ∙ l);
  there = λ l k a p. true_false (sym e ∙ l);
  strange = λ j a. strange-on s marks closed mark j h al st.strange a;
}

pub goes-over : (s : EngineState) (mark : Mark) (cause : Ended) → IsStreamEvent mark → s.ended ≡ Some cause → GoesAlone s s mark
goes-over s mark cause h run_ended_by picked given marks closed st al = record {
  asks = st.asks;
  each = st.each;
  at = λ picks replies.
      let v : EngineRepresents (picked ++ picks) (given ++ replies) (length picked) st.asks s marks closed = st.at picks replies in
      let rows : List Row = log s (picked ++ picks) (given ++ replies) marks in
      let e : is_run_over rows ≡ true = sym (some-end rows) ∙ ap is_some (sym v.rows.ended_is ∙ run_ended_by) in
      let is : log s (picked ++ picks) (given ++ replies) (mark ∷ marks) ≡ rows = over-all (run_setting s (picked ++ picks) (given ++ replies)) (items_in marks mark) rows e (none-taken marks mark h) in
      record {
        rows = subst (RowsFit (length picked) st.asks s closed) (sym is) v.rows;
        bytes = subst (BytesFit s (mark ∷ marks) closed) (sym is) (bytes-over s mark marks closed rows h al e v.bytes);
      };
}

-- ---- a run that ends by the server's stream

abbrev pub IsEndItem : Item → Type 0
IsEndItem ServerEnd = Unit {0}
IsEndItem (ServerCut left) = Unit {0}
IsEndItem ServerFailed = Unit {0}
IsEndItem item = ⊥

abbrev pub end_row : Item → Ended → Row
end_row item cause = bare_row item 0 (outcome_of_end cause)

each-end : (item : Item) (cause : Ended) (rows : List Row) (cs : List ClientState) → EachFits rows cs → EachFits (end_row item cause ∷ rows) cs
each-end item cause rows [] each = tt
each-end item cause rows (c ∷ cs) each = (other-fits 0 (end_row item cause) rows c refl each.0.nonzero each.0, each-end item cause rows cs each.1)

rows-of-end : (item : Item) (taken : ℕ) (dn : List Asked) (s : EngineState) (cause : Ended) (closed : List ℕ) (rows : List Row) → RowsFit taken dn s closed rows
    → Rattle.mux_history.specs.Choices.numbers_taken (end_row item cause ∷ rows) ≡ Rattle.mux_history.specs.Choices.numbers_taken rows → Rattle.mux_history.specs.Choices.replies_given (end_row item cause ∷ rows) ≡ Rattle.mux_history.specs.Choices.replies_given rows
    → Rattle.mux_peers.specs.Asked.item_asks item ≡ [] → Rattle.mux_history.specs.Pending.took_up item ≡ 0 → NotAdmit item → RowsFit taken dn (run_ended_by s cause) closed (end_row item cause ∷ rows)
rows-of-end item taken dn s cause closed rows st numbers replies asks took admit = moved taken taken dn dn [] closed s (run_ended_by s cause) rows (end_row item cause ∷ rows) st record {
  grows = grows-row item (end_row item cause) rows refl admit refl;
  numbers_are = refl;
  refused_is = refl;
  taken_is = numbers ∙ st.taken_is;
  drawn_is = replies ∙ st.drawn_is;
  asked_is = ap (λ l. asks_of_rows rows ++ l) asks ∙ (append-nil (asks_of_rows rows) ∙ st.asked_is);
  fresh = (tt, st.fresh);
  fit = record {
    core = λ l. true_false l;
    each = each-end item cause rows s.clients st.fit.each;
    apart = st.fit.apart;
    up = st.fit.up ∙ (sym (append-nil (pending_up rows)) ∙ ap (λ m. drop m (pending_up rows ++ [])) (sym took));
  };
  ended_is = refl;
  listening_is = st.listening_is;
  waiting_is = st.waiting_is;
  leaving_are = sym (append-nil s.leaving);
  unclosed = refl;
  place_is = λ l. true_false l;
  absent = λ k nz p q. other_row 0 k (end_row item cause) rows refl (λ e. nz (sym e)) ∙ q;
  refused_stay = λ k q. other_row 0 k (end_row item cause) rows refl (λ e. refused-client rows k st.server_in q (sym e)) ∙ q;
  server_in = st.server_in;
}

rows-end : (taken : ℕ) (dn : List Asked) (s : EngineState) (item : Item) (cause : Ended) (closed : List ℕ) (rows : List Row) → IsEndItem item → RowsFit taken dn s closed rows → RowsFit taken dn (run_ended_by s cause) closed (end_row item cause ∷ rows)
rows-end taken dn s ServerEnd cause closed rows h st = rows-of-end ServerEnd taken dn s cause closed rows st refl refl refl refl tt
rows-end taken dn s (ServerCut left) cause closed rows h st = rows-of-end (ServerCut left) taken dn s cause closed rows st refl refl refl refl tt
rows-end taken dn s ServerFailed cause closed rows h st = rows-of-end ServerFailed taken dn s cause closed rows st refl refl refl refl tt
rows-end taken dn s item cause closed rows h st = absurd h

bytes-end : (s : EngineState) (item : Item) (cause : Ended) (mark : Mark) (marks : List Mark) (closed : List ℕ) (rows : List Row) → IsStreamEvent mark → IsAllowed s marks mark → BytesFit s marks closed rows → BytesFit (run_ended_by s cause) (mark ∷ marks) closed (end_row item cause ∷ rows)
bytes-end s item cause mark marks closed rows h al st = record {
  are_bytes = are-bytes-on s marks mark h al st.are_bytes;
  clients = λ l. true_false l;
  server = λ l. true_false l;
  there = λ l k a p. true_false l;
  strange = λ j a. let v : IsStrange s (mark ∷ marks) closed j = strange-on s marks closed mark j h al st.strange a in record { not_here = v.not_here; not_closed_yet = v.not_closed_yet; no_bytes = v.no_bytes };
}

-- what the server's stream does, while the run goes on
pub ends-by : (s : EngineState) (mark : Mark) (cause : Ended) → IsStreamEvent mark
    → ((picks : List ℕ) (replies : List HouseReply) (taken : ℕ) (dn : List Asked) (marks : List Mark) (closed : List ℕ) → EngineRepresents picks replies taken dn s marks closed → is_run_over (log s picks replies marks) ≡ false
    → (item : Item) × (IsEndItem item × (log s picks replies (mark ∷ marks) ≡ end_row item cause ∷ log s picks replies marks)))
    → s.ended ≡ None → GoesAlone s (run_ended_by s cause) mark
ends-by s mark cause h makes live picked given marks closed st al = record {
  asks = st.asks;
  each = st.each;
  at = λ picks replies.
      let v : EngineRepresents (picked ++ picks) (given ++ replies) (length picked) st.asks s marks closed = st.at picks replies in
      let rows : List Row = log s (picked ++ picks) (given ++ replies) marks in
      let e : is_run_over rows ≡ false = sym (some-end rows) ∙ ap is_some (sym v.rows.ended_is ∙ live) in
      let m = makes (picked ++ picks) (given ++ replies) (length picked) st.asks marks closed v e in
      record {
        rows = subst (RowsFit (length picked) st.asks (run_ended_by s cause) closed) (sym m.1.1) (rows-end (length picked) st.asks s m.0 cause closed rows m.1.0 v.rows);
        bytes = subst (BytesFit (run_ended_by s cause) (mark ∷ marks) closed) (sym m.1.1) (bytes-end s m.0 cause mark marks closed rows h al v.bytes);
      };
}

pub next-live : (rows : List Row) (item : Item) → is_run_over rows ≡ false → makes_next rows item ≡ makes_row rows item
next-live rows item live = ap (λ b. elim b as (λ _. Bool) [ true ↦ is_took item | false ↦ makes_row rows item ]) live

pub one-more : (s : EngineState) (picks : List ℕ) (replies : List HouseReply) (rows : List Row) (item : Item) → is_run_over rows ≡ false → makes_row rows item ≡ true → more_of (run_setting s picks replies) rows item ≡ next_row (run_setting s picks replies) rows item ∷ rows
one-more s picks replies rows item live m = more-yes (run_setting s picks replies) rows item (next-live rows item live ∙ m)

pub goes-failed : (s : EngineState) → s.ended ≡ None → GoesAlone s (run_ended_by s ended.ServerFailed) (Fails 0)
goes-failed s live = ends-by s (Fails 0) ended.ServerFailed tt (λ picks replies taken dn marks closed v l. (ServerFailed, (tt, one-more s picks replies (log s picks replies marks) ServerFailed l refl))) live

pub goes-unwritten : (s : EngineState) → s.ended ≡ None → GoesAlone s (run_ended_by s ended.ServerFailed) (WriteFails 0)
goes-unwritten s live = ends-by s (WriteFails 0) ended.ServerFailed tt (λ picks replies taken dn marks closed v l. (ServerFailed, (tt, one-more s picks replies (log s picks replies marks) ServerFailed l refl))) live

abbrev cause_by : ℕ → List ℕ → Ended
cause_by index [] = ended.ServerEnd
cause_by index (b ∷ rest) = ended.Broke index (broke.Cut (length (b ∷ rest)))

ends-row : (s : EngineState) (picks : List ℕ) (replies : List HouseReply) (rows : List Row) (rest : List ℕ) → is_run_over rows ≡ false → IsEndItem (server_end rest) × (more_of (run_setting s picks replies) rows (server_end rest) ≡ end_row (server_end rest) (cause_by (next_frame_place rows) rest) ∷ rows)
ends-row s picks replies rows [] l = (tt, one-more s picks replies rows ServerEnd l refl)
ends-row s picks replies rows (b ∷ rest) l = (tt, one-more s picks replies rows (ServerCut (length (b ∷ rest))) l refl)

cause-is : (s : EngineState) (rest : List ℕ) → s.server.rest ≡ rest → server_cause s ≡ cause_by s.server.index rest
cause-is s [] e = ap (λ (r : List ℕ). elim r as (λ _. Ended) [ [] ↦ ended.ServerEnd | b ∷ rest ↦ ended.Broke s.server.index (broke.Cut (length (b ∷ rest))) ]) e
cause-is s (b ∷ rest) e = ap (λ (r : List ℕ). elim r as (λ _. Ended) [ [] ↦ ended.ServerEnd | b ∷ rest ↦ ended.Broke s.server.index (broke.Cut (length (b ∷ rest))) ]) e

pub goes-ended : (s : EngineState) → s.ended ≡ None → GoesAlone s (run_ended_by s (server_cause s)) (Ends 0)
goes-ended s live = ends-by s (Ends 0) (server_cause s) tt (λ picks replies taken dn marks closed v l.
    let rows : List Row = log s picks replies marks in
    let reads : ServerReads (bytes_of 0 marks) s.server = v.bytes.server l in
    let rest : List ℕ = (parse InProxy (bytes_of 0 marks)).rest in
    let w = ends-row s picks replies rows rest l in
    let c : server_cause s ≡ cause_by (next_frame_place rows) rest = cause-is s rest (sym reads.rest_is) ∙ ap (λ i. cause_by i rest) (v.rows.place_is l) in
    (server_end rest, (w.0, w.1 ∙ ap (λ x. end_row (server_end rest) x ∷ rows) (sym c)))) live
