-- An engine goes on with a client that comes.
use Rattle.std.proofs.Common.{◌≡◌, ◌≢◌, ℕ, Bool, true, false, not, ◌||◌, List, [], ◌∷◌, ◌++◌, length, Option, None, refl, sym, ap, ◌∙◌, subst, inl, inr, cond, append-nil}
use Rattle.std.specs.Prelude.{filter, ◌==◌, is_some}
use Rattle.std.proofs.lemmas.Bool.{eq-eqb}
use Rattle.std.proofs.lemmas.Bool.Decides.{eqb_tells}
use Rattle.std.proofs.lemmas.List.Folds.{list_any-append}
use Rattle.mux_outside.specs.declared.house_mark.HouseMark.{HouseMark as Asked}
use Rattle.mux_outside.specs.Streams.{among}
use Rattle.mux_outside.specs.declared.house.HouseReply.{HouseReply}
use Rattle.mux_outside.specs.declared.mark.Mark.{Mark}
use Rattle.mux_outside.specs.declared.mark.Mark.TheVariants.{Accepts}
use Rattle.proxy_frames.specs.State.{QueueState}
use Rattle.mux_history.specs.declared.why.Why.{Why}
use Rattle.mux_history.specs.Policy.{Policy}
use Rattle.mux_history.specs.Rows.{Row, rows_of, any_of, is_admit, is_out, is_run_over, losses, Admit}
use Rattle.mux_history.specs.Choices.{numbers_taken, replies_given}
use Rattle.mux_history.specs.Right.{AreFresh}
use Rattle.mux_history.specs.Settings.{by_lists}
use Rattle.mux_history.specs.Solo.{run_end_of}
use Rattle.mux_history.specs.Log.{admitted_clients as came, next_row}
use Rattle.mux_history.specs.Journal.{bytes_of, is_accepted, log_of_journal}
use Rattle.mux_core.specs.State.{CoreState}
use Rattle.mux_peers.specs.State.{ClientState}
use Rattle.mux_peers.specs.Among.{AllFit, is_present}
use Rattle.mux_peers.specs.Asked.{asks_of_rows}
use Rattle.mux_peers.specs.Entering.{PeerEnters, EntersBy, new_client}
use Rattle.mux_peers.proofs.PeerEnters.{let-in, present-end, present-last, refused, row-let-in, row-refused}
use Rattle.mux_peers.proofs.Stood.{own_row}
use Rattle.mux_state.specs.State.{EngineState, after_admission, is_here, numbers, waiting_streams}
use Rattle.mux_state.specs.Stands.{BytesFit, ClientReads, EachReads, GoesAlone, IsAllowed, IsKnown, IsStrange, RowsFit, ServerReads, RepresentsSoFar, EngineRepresents, log, not_closed, refused_client_row}
use Rattle.mux_state.proofs.Closes.{other_row, out_more}
use Rattle.mux_state.proofs.Grows.{filter-append, served-more}
use Rattle.mux_state.proofs.Lists.{test_other, true_false}
use Rattle.mux_state.proofs.Over.{are-bytes-on, one-more, some-end, strange-on}
use Rattle.mux_state.proofs.Refused.{refused-out}

-- ---- numbers at the end of a list

pub numbers-last : (cs : List ClientState) (c : ClientState) → numbers (cs ++ c ∷ []) ≡ numbers cs ++ c.peer.number ∷ []
numbers-last [] c = refl
numbers-last (d ∷ cs) c = ap (λ l. d.peer.number ∷ l) (numbers-last cs c)

among-last : (j k : ℕ) (js : List ℕ) → among j (js ++ k ∷ []) ≡ (among j js || ((k == j) || false))
among-last j k js = list_any-append (λ (i : ℕ). i == j) js (k ∷ [])

or-none : (a b : Bool) → b ≡ false → (a || b) ≡ a
or-none true b e = refl
or-none false b e = e

or-one : (a b : Bool) → b ≡ true → (a || b) ≡ true
or-one true b e = refl
or-one false b e = e

-- ---- who is here

here-new : (s : EngineState) (core' : CoreState) (up' : QueueState) (k : ℕ) (b : Bool) → is_here (after_admission s core' up' k b) k ≡ true
here-new s core' up' k true = ap (λ t. t || among k s.refused) (present-end s.clients (new_client k) k (eq-eqb k k refl))
here-new s core' up' k false = or-one (is_present s.clients k) (among k (s.refused ++ k ∷ [])) (among-last k k s.refused ∙ or-one (among k s.refused) ((k == k) || false) (ap (λ t. t || false) (eq-eqb k k refl)))

here-old : (s : EngineState) (core' : CoreState) (up' : QueueState) (k j : ℕ) (b : Bool) → k ≢ j → is_here (after_admission s core' up' k b) j ≡ is_here s j
here-old s core' up' k j true ne = ap (λ t. t || among j s.refused) (present-last s.clients (new_client k) j (test_other k j ne))
here-old s core' up' k j false ne = ap (λ t. is_present s.clients j || t) (among-last j k s.refused ∙ or-none (among j s.refused) ((k == j) || false) (ap (λ t. t || false) (test_other k j ne)))

-- ---- the row

abbrev new_row : ℕ → Bool → Row
new_row k true = let-in k
new_row k false = refused k

abbrev come : ℕ → Bool → List ℕ
come k true = k ∷ []
come k false = []

abbrev loss_new : ℕ → Bool → List (ℕ × Option Why)
loss_new k true = []
loss_new k false = (k, None) ∷ []

came-is : (k : ℕ) (b : Bool) (rows : List Row) → came (new_row k b ∷ rows) ≡ came rows ++ come k b
came-is k true rows = refl
came-is k false rows = refl

losses-new : (k : ℕ) (b : Bool) (rows : List Row) → losses (new_row k b ∷ rows) ≡ losses rows ++ loss_new k b
losses-new k true rows = refl
losses-new k false rows = refl

client-new : (k : ℕ) (b : Bool) → (new_row k b).client ≡ k
client-new k true = refl
client-new k false = refl

taken-new : (k : ℕ) (b : Bool) (rows : List Row) → numbers_taken (new_row k b ∷ rows) ≡ numbers_taken rows
taken-new k true rows = refl
taken-new k false rows = refl

replies-new : (k : ℕ) (b : Bool) (rows : List Row) → replies_given (new_row k b ∷ rows) ≡ replies_given rows
replies-new k true rows = refl
replies-new k false rows = refl

asked-new : (k : ℕ) (b : Bool) (rows : List Row) → asks_of_rows (new_row k b ∷ rows) ≡ asks_of_rows rows
asked-new k true rows = append-nil (asks_of_rows rows)
asked-new k false rows = append-nil (asks_of_rows rows)

fresh-new : (k : ℕ) (b : Bool) (rows : List Row) → AreFresh rows → AreFresh (new_row k b ∷ rows)
fresh-new k true rows f = (tt, f)
fresh-new k false rows f = (tt, f)

end-new : (k : ℕ) (b : Bool) (rows : List Row) → run_end_of (new_row k b ∷ rows) ≡ run_end_of rows
end-new k true rows = refl
end-new k false rows = refl

ended-new : (k : ℕ) (b : Bool) (rows : List Row) → is_run_over (new_row k b ∷ rows) ≡ is_run_over rows
ended-new k true rows = refl
ended-new k false rows = refl

listens-new : (k : ℕ) (b : Bool) (rows : List Row) → Rattle.mux_history.specs.Promises.is_still_accepting (new_row k b ∷ rows) ≡ Rattle.mux_history.specs.Promises.is_still_accepting rows
listens-new k true rows = refl
listens-new k false rows = refl

place-new : (k : ℕ) (b : Bool) (rows : List Row) → Rattle.mux_state.specs.Stands.next_frame_place (new_row k b ∷ rows) ≡ Rattle.mux_state.specs.Stands.next_frame_place rows
place-new k true rows = refl
place-new k false rows = refl

known-new : (k : ℕ) → IsKnown (let-in k ∷ [])
known-new k = record { admitted = refl; out_is = refl }

-- what an engine keeps besides
pub record Comes (s : EngineState) (core' : CoreState) (up' : QueueState) (k : ℕ) (b : Bool) (rows : List Row) : Type 0 where
  pub fit : AllFit (new_row k b ∷ rows) core' (after_admission s core' up' k b).clients up'
  pub nonzero : k ≢ 0
  pub none : rows_of k rows ≡ []
  pub unclosed : (closed : List ℕ) → among k closed ≡ false → filter (not_closed closed) (loss_new k b) ≡ loss_new k b

unclosed-new : (k : ℕ) (b : Bool) (closed : List ℕ) → among k closed ≡ false → filter (not_closed closed) (loss_new k b) ≡ loss_new k b
unclosed-new k true closed e = refl
unclosed-new k false closed e = ap (λ t. cond (not t) ((k, None) ∷ []) []) e

known-on : (k : ℕ) (b : Bool) (rows : List Row) → k ≢ 0 → rows_of k rows ≡ [] → ((j : ℕ) → among j (came rows) ≡ true → IsKnown (rows_of j rows)) → (j : ℕ) → among j (came rows ++ come k b) ≡ true → IsKnown (rows_of j (new_row k b ∷ rows))
known-on k true rows nz new was j a = elim (eqb_tells k j) [
  | inl q ↦ subst IsKnown (sym (own_row j (let-in k) rows q.1 ∙ ap (λ l. let-in k ∷ l) (ap (λ i. rows_of i rows) (sym q.1) ∙ new))) (known-new k)
  | inr q ↦ subst IsKnown (sym (other_row k j (let-in k) rows refl q.1)) (was j (sym (among-last j k (came rows) ∙ or-none (among j (came rows)) ((k == j) || false) (ap (λ t. t || false) q.0)) ∙ a))
]
known-on k false rows nz new was j a = let w : IsKnown (rows_of j rows) = was j (ap (among j) (sym (append-nil (came rows))) ∙ a) in elim (eqb_tells k j) [
  | inl q ↦ true_false (sym w.admitted ∙ ap (any_of is_admit) (ap (λ i. rows_of i rows) (sym q.1) ∙ new))
  | inr q ↦ subst IsKnown (sym (other_row k j (refused k) rows refl q.1)) w
]

refused-on : (k : ℕ) (b : Bool) (s : EngineState) (core' : CoreState) (up' : QueueState) (rows : List Row) → rows_of k rows ≡ [] → ((j : ℕ) → among j s.refused ≡ true → rows_of j rows ≡ refused_client_row j ∷ []) → (j : ℕ) → among j (after_admission s core' up' k b).refused ≡ true → rows_of j (new_row k b ∷ rows) ≡ refused_client_row j ∷ []
refused-on k true s core' up' rows new was j a = elim (eqb_tells k j) [
  | inl q ↦ true_false (sym (refused-out j rows (was j a)) ∙ ap is_out (ap (λ i. rows_of i rows) (sym q.1) ∙ new))
  | inr q ↦ other_row k j (let-in k) rows refl q.1 ∙ was j a
]
refused-on k false s core' up' rows new was j a = elim (eqb_tells k j) [
  | inl q ↦ own_row j (refused k) rows q.1 ∙ (ap (λ l. refused k ∷ l) (ap (λ i. rows_of i rows) (sym q.1) ∙ new) ∙ ap (λ i. refused_client_row i ∷ []) q.1)
  | inr q ↦ other_row k j (refused k) rows refl q.1 ∙ was j (sym (among-last j k s.refused ∙ or-none (among j s.refused) ((k == j) || false) (ap (λ t. t || false) q.0)) ∙ a)
]

still-zero : (k : ℕ) (b : Bool) (js : List ℕ) → k ≢ 0 → among 0 js ≡ false → among 0 (js ++ come k b) ≡ false
still-zero k true js nz e = among-last 0 k js ∙ (or-none (among 0 js) ((k == 0) || false) (ap (λ t. t || false) (test_other k 0 nz)) ∙ e)
still-zero k false js nz e = ap (among 0) (append-nil js) ∙ e

numbers-new : (k : ℕ) (b : Bool) (s : EngineState) (core' : CoreState) (up' : QueueState) → numbers (after_admission s core' up' k b).clients ≡ numbers s.clients ++ come k b
numbers-new k true s core' up' = numbers-last s.clients (new_client k)
numbers-new k false s core' up' = sym (append-nil (numbers s.clients))

pub record Kept (s new : EngineState) (k : ℕ) (b : Bool) : Type 0 where
  pub pid : new.pid ≡ s.pid
  pub server : new.server ≡ s.server
  pub listening : new.listening ≡ s.listening
  pub ended : new.ended ≡ s.ended
  pub waiting : new.waiting ≡ waiting_streams new
  pub leaving : new.leaving ≡ s.leaving ++ loss_new k b

kept-new : (s : EngineState) (core' : CoreState) (up' : QueueState) (k : ℕ) (b : Bool) → Kept s (after_admission s core' up' k b) k b
kept-new s core' up' k true = record { pid = refl; server = refl; listening = refl; ended = refl; waiting = refl; leaving = sym (append-nil s.leaving) }
kept-new s core' up' k false = record { pid = refl; server = refl; listening = refl; ended = refl; waiting = refl; leaving = refl }

up-new : (s : EngineState) (core' : CoreState) (up' : QueueState) (k : ℕ) (b : Bool) → ((after_admission s core' up' k b).core ≡ core') × ((after_admission s core' up' k b).up ≡ up')
up-new s core' up' k true = (refl, refl)
up-new s core' up' k false = (refl, refl)

fit-as : (s : EngineState) (core' : CoreState) (up' : QueueState) (k : ℕ) (b : Bool) (rows : List Row) → AllFit rows core' (after_admission s core' up' k b).clients up' → AllFit rows (after_admission s core' up' k b).core (after_admission s core' up' k b).clients (after_admission s core' up' k b).up
fit-as s core' up' k true rows f = f
fit-as s core' up' k false rows f = f

rows-new : (taken : ℕ) (dn : List Asked) (s : EngineState) (core' : CoreState) (up' : QueueState) (k : ℕ) (b : Bool) (closed : List ℕ) (rows : List Row) → among k closed ≡ false → Comes s core' up' k b rows → RowsFit taken dn s closed rows → RowsFit taken dn (after_admission s core' up' k b) closed (new_row k b ∷ rows)
rows-new taken dn s core' up' k b closed rows unclosed c st =
    let new : EngineState = after_admission s core' up' k b in
    let w : Kept s new k b = kept-new s core' up' k b in
    let row : Row = new_row k b in
    record {
      taken_is = taken-new k b rows ∙ st.taken_is;
      drawn_is = replies-new k b rows ∙ st.drawn_is;
      asked_is = asked-new k b rows ∙ st.asked_is;
      fresh = fresh-new k b rows st.fresh;
      fit = fit-as s core' up' k b (row ∷ rows) c.fit;
      ended_is = w.ended ∙ (st.ended_is ∙ sym (end-new k b rows));
      listening_is = w.listening ∙ (st.listening_is ∙ sym (listens-new k b rows));
      waiting_is = w.waiting;
      leaving_are = w.leaving ∙ (ap (λ l. l ++ loss_new k b) st.leaving_are ∙ (ap (λ l. filter (not_closed closed) (losses rows) ++ l) (sym (c.unclosed closed unclosed)) ∙ (sym (filter-append (not_closed closed) (losses rows) (loss_new k b)) ∙ ap (filter (not_closed closed)) (sym (losses-new k b rows)))));
      served_are = served-more rows (row ∷ rows) (come k b) s.clients new.clients (λ j o. out_more j row rows o) st.fit.each c.fit.each (numbers-new k b s core' up') (came-is k b rows) st.served_are;
      place_is = λ l. ap (λ (v : Rattle.mux_peers.specs.Server.ServerState). v.index) w.server ∙ (st.place_is (sym (ended-new k b rows) ∙ l) ∙ sym (place-new k b rows));
      absent = λ j nz p q. elim (eqb_tells k j) [
        | inl t ↦ true_false (sym (here-new s core' up' k b) ∙ (ap (is_here new) t.1 ∙ p))
        | inr t ↦ other_row k j row rows (client-new k b) t.1 ∙ st.absent j nz (sym (here-old s core' up' k j b t.1) ∙ p) q
      ];
      closed_gone = λ j q. elim (eqb_tells k j) [
        | inl t ↦ true_false (sym q ∙ (ap (λ i. among i closed) (sym t.1) ∙ unclosed))
        | inr t ↦ here-old s core' up' k j b t.1 ∙ st.closed_gone j q
      ];
      refused_only = refused-on k b s core' up' rows c.none st.refused_only;
      closed_out = λ j q. out_more j row rows (st.closed_out j q);
      known = λ j a. known-on k b rows c.nonzero c.none st.known j (ap (among j) (sym (came-is k b rows)) ∙ a);
      unentered = ap (among 0) (came-is k b rows) ∙ still-zero k b (came rows) c.nonzero st.unentered;
      server_in = ap is_out (other_row k 0 row rows (client-new k b) c.nonzero) ∙ st.server_in;
    }

-- ---- the bytes

reads-new : (marks : List Mark) (k : ℕ) (cs : List ClientState) → EachReads marks cs → EachReads (Accepts k ∷ marks) cs
reads-new marks k [] e = tt
reads-new marks k (c ∷ cs) e = (subst (λ b. ClientReads b c) (sym (append-nil (bytes_of c.peer.number marks))) e.0, reads-new marks k cs e.1)

reads-last : (marks : List Mark) (cs : List ClientState) (c : ClientState) → EachReads marks cs → ClientReads (bytes_of c.peer.number marks) c → EachReads marks (cs ++ c ∷ [])
reads-last marks [] c e r = (r, tt)
reads-last marks (d ∷ cs) c e r = (e.0, reads-last marks cs c e.1 r)

first-reads : (k : ℕ) → ClientReads [] (new_client k)
first-reads k = record { mode_is = λ l. refl; rest_is = λ l. refl }

reads-by : (s : EngineState) (core' : CoreState) (up' : QueueState) (k : ℕ) (b : Bool) (marks : List Mark) → bytes_of k marks ≡ [] → EachReads marks s.clients → EachReads (Accepts k ∷ marks) (after_admission s core' up' k b).clients
reads-by s core' up' k true marks none e = reads-last (Accepts k ∷ marks) s.clients (new_client k) (reads-new marks k s.clients e) (subst (λ b. ClientReads b (new_client k)) (sym (append-nil (bytes_of k marks) ∙ none)) (first-reads k))
reads-by s core' up' k false marks none e = reads-new marks k s.clients e

accepted-other : (k j : ℕ) (marks : List Mark) → k ≢ j → is_accepted j (Accepts k ∷ marks) ≡ is_accepted j marks
accepted-other k j marks ne = ap (λ b. cond b true (is_accepted j marks)) (test_other k j ne)

bytes-new : (s : EngineState) (core' : CoreState) (up' : QueueState) (k : ℕ) (b : Bool) (marks : List Mark) (closed : List ℕ) (rows : List Row) → IsAllowed s marks (Accepts k) → BytesFit s marks closed rows → BytesFit (after_admission s core' up' k b) (Accepts k ∷ marks) closed (new_row k b ∷ rows)
bytes-new s core' up' k b marks closed rows al st =
    let new : EngineState = after_admission s core' up' k b in
    let v : IsStrange s marks closed k = st.strange k al.1 in
    record {
      are_bytes = are-bytes-on s marks (Accepts k) tt al st.are_bytes;
      clients = λ l. reads-by s core' up' k b marks (v.no_bytes (al.0, al.2)) (st.clients (sym (ended-new k b rows) ∙ l));
      server = λ l. subst (ServerReads (bytes_of 0 marks ++ [])) (sym (kept-new s core' up' k b).server) (subst (λ x. ServerReads x s.server) (sym (append-nil (bytes_of 0 marks))) (st.server (sym (ended-new k b rows) ∙ l)));
      there = λ l j a p. elim (eqb_tells k j) [
        | inl t ↦ true_false (sym (here-new s core' up' k b) ∙ (ap (is_here new) t.1 ∙ p))
        | inr t ↦ st.there (sym (ended-new k b rows) ∙ l) j (sym (accepted-other k j marks t.1) ∙ a) (sym (here-old s core' up' k j b t.1) ∙ p)
      ];
      strange = λ j a. elim (eqb_tells k j) [
        | inl t ↦ true_false (sym (ap (λ b. cond b true (is_accepted j marks)) t.0) ∙ a)
        | inr t ↦ let w : IsStrange s (Accepts k ∷ marks) closed j = strange-on s marks closed (Accepts k) j tt al st.strange a in record { not_here = here-old s core' up' k j b t.1 ∙ w.not_here; not_closed_yet = w.not_closed_yet; no_bytes = w.no_bytes }
      ];
    }

-- ---- all of it

row-by : (policy : Policy) (pid : ℕ) (picks : List ℕ) (given : List HouseReply) (k : ℕ) (b : Bool) (rows : List Row) → rows_of k rows ≡ [] → b ≡ Rattle.std.specs.Prelude.nat_lt (Rattle.mux_history.specs.Log.open_matters rows) Rattle.mux_history.specs.declared.limits.TheConstants.MAX_CLIENTS → next_row (by_lists policy pid picks given) rows (Admit k) ≡ new_row k b
row-by policy pid picks given k true rows new e = row-let-in policy pid picks given k rows new (sym e)
row-by policy pid picks given k false rows new e = row-refused policy pid picks given k rows new (sym e)

roomy : (rows : List Row) (c : CoreState) (cs : List ClientState) (up up' : QueueState) → up'.waiting ≡ up.waiting → AllFit rows c cs up → AllFit rows c cs up'
roomy rows c cs up up' e f = record { core = f.core; each = f.each; apart = f.apart; up = e ∙ f.up }

pub goes-in : (s : EngineState) (core' : CoreState) (up' : QueueState) (k : ℕ) (b : Bool) → s.ended ≡ None → core'.policy ≡ s.core.policy → up'.waiting ≡ s.up.waiting → PeerEnters k s.core core' s.clients (after_admission s core' up' k b).clients b → GoesAlone s (after_admission s core' up' k b) (Accepts k)
goes-in s core' up' k b live pol waits enters picked given marks closed st al = record {
  asks = st.asks;
  each = st.each;
  at = λ picks replies.
      let v : EngineRepresents (picked ++ picks) (given ++ replies) (length picked) st.asks s marks closed = st.at picks replies in
      let rows : List Row = log s (picked ++ picks) (given ++ replies) marks in
      let on : is_run_over rows ≡ false = sym (some-end rows) ∙ ap is_some (sym v.rows.ended_is ∙ live) in
      let strange : IsStrange s marks closed k = v.bytes.strange k al.1 in
      let none : rows_of k rows ≡ [] = v.rows.absent k al.0 strange.not_here strange.not_closed_yet in
      let e : EntersBy core' s.clients (after_admission s core' up' k b).clients up' b rows (next_row (by_lists s.core.policy s.pid (picked ++ picks) (given ++ replies)) rows (Admit k)) =
      enters s.core.policy s.pid (picked ++ picks) (given ++ replies) up' rows (roomy rows s.core s.clients s.up up' waits v.rows.fit) on record { nonzero = al.0; fresh = none } in
      let row = row-by s.core.policy s.pid (picked ++ picks) (given ++ replies) k b rows none e.exact in
      let comes : Comes s core' up' k b rows = record { fit = subst (λ r. AllFit (r ∷ rows) core' (after_admission s core' up' k b).clients up') row e.fit; nonzero = al.0; none = none; unclosed = unclosed-new k b } in
      let is : log (after_admission s core' up' k b) (picked ++ picks) (given ++ replies) (Accepts k ∷ marks) ≡ new_row k b ∷ rows =
      log-as (picked ++ picks) (given ++ replies) (Accepts k ∷ marks) ∙ (one-more s (picked ++ picks) (given ++ replies) rows (Admit k) on refl ∙ ap (λ r. r ∷ rows) row) in
      record {
        rows = subst (RowsFit (length picked) st.asks (after_admission s core' up' k b) closed) (sym is) (rows-new (length picked) st.asks s core' up' k b closed rows strange.not_closed_yet comes v.rows);
        bytes = subst (BytesFit (after_admission s core' up' k b) (Accepts k ∷ marks) closed) (sym is) (bytes-new s core' up' k b marks closed rows al v.bytes);
      };
}
  where
    log-as : (picks : List ℕ) (replies : List HouseReply) (marks : List Mark) → log (after_admission s core' up' k b) picks replies marks ≡ log s picks replies marks
    log-as picks replies marks =
        ap (λ (c : CoreState). log_of_journal (by_lists c.policy (after_admission s core' up' k b).pid picks replies) marks) (up-new s core' up' k b).0
        ∙ (ap (λ p. log_of_journal (by_lists p (after_admission s core' up' k b).pid picks replies) marks) pol ∙ ap (λ p. log_of_journal (by_lists s.core.policy p picks replies) marks) (kept-new s core' up' k b).pid)
