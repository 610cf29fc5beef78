-- An engine goes on with a client closed.
use Rattle.std.proofs.Common.{◌≡◌, ◌≢◌, ℕ, Bool, true, false, not, ◌||◌, ◌&&◌, List, [], ◌∷◌, ◌++◌, Option, refl, sym, ap, ◌∙◌, subst, inl, inr, ◌⊎◌, cond, length}
use Rattle.std.specs.Prelude.{filter, ◌==◌}
use Rattle.std.specs.List.{list_any}
use Rattle.std.proofs.lemmas.Bool.{eq-eqb, eqb-true}
use Rattle.std.proofs.lemmas.Bool.Decides.{eqb_tells}
use Rattle.std.proofs.lemmas.List.Folds.{list_any-append}
use Rattle.mux_outside.specs.Streams.{among, without}
use Rattle.mux_outside.specs.declared.house_mark.HouseMark.{HouseMark as Asked}
use Rattle.mux_outside.specs.declared.mark.Mark.{Mark}
use Rattle.mux_history.specs.declared.why.Why.{Why}
use Rattle.mux_history.specs.Rows.{Row, rows_of, is_out, losses, loss_by, Item, Gone, Fate, Goes, Refused, Drop, End}
use Rattle.mux_history.specs.Promises.{is_empty}
use Rattle.mux_peers.specs.Among.{is_present}
use Rattle.mux_peers.specs.State.{ClientState}
use Rattle.mux_peers.proofs.Stood.{out_is, out_row, or_true, own_row, puts_out}
use Rattle.mux_state.specs.State.{EngineState, closed_by, is_here, waiting_clients, waiting_streams, without_client}
use Rattle.mux_state.specs.Stands.{BytesFit, Closes, EachReads, IsFirstLost, IsStrange, RowsFit, is_accepted, log, not_closed}
use Rattle.mux_state.proofs.Lists.{apart_less, each_less, gone_less, lost_less, present_less, test_other, true_false, waiting_less, among-gone, among-less, among-was}

-- ---- who is out

pub other_row : (k j : ℕ) (row : Row) (rows : List Row) → row.client ≡ k → k ≢ j → rows_of j (row ∷ rows) ≡ rows_of j rows
other_row k j row rows e ne = let t : (row.client == j) ≡ false = ap (λ c. c == j) e ∙ test_other k j ne in rw t refl

abbrev pub in_losses : ℕ → List (ℕ × Option Why) → Bool
in_losses k ls = list_any (λ l. l.0 == k) ls

pub first_in : (k : ℕ) (ls : List (ℕ × Option Why)) → IsFirstLost k ls → in_losses k ls ≡ true
first_in k [] f = absurd f
first_in k (l ∷ ls) f = ap (λ b. b || in_losses k ls) (eq-eqb l.0 k f)

pub unfiltered : (k : ℕ) (p : ℕ × Option Why → Bool) (ls : List (ℕ × Option Why)) → in_losses k (filter p ls) ≡ true → in_losses k ls ≡ true
unfiltered k p [] h = h
unfiltered k p (l ∷ ls) h = by_test (p l) (unfiltered k p ls) h
  where
    by_test : (b : Bool) → (in_losses k (filter p ls) ≡ true → in_losses k ls ≡ true) → in_losses k (cond b (l ∷ filter p ls) (filter p ls)) ≡ true → ((l.0 == k) || in_losses k ls) ≡ true
    by_test true ih h = by_own (l.0 == k) h
      where
        by_own : (c : Bool) → (c || in_losses k (filter p ls)) ≡ true → (c || in_losses k ls) ≡ true
        by_own true h = refl
        by_own false h = ih h
    by_test false ih h = ap (λ b. (l.0 == k) || b) (ih h) ∙ or_true (l.0 == k)

pub out_more : (k : ℕ) (row : Row) (rows : List Row) → is_out (rows_of k rows) ≡ true → is_out (rows_of k (row ∷ rows)) ≡ true
out_more k row rows out = elim (eqb_tells row.client k) [
  | inl q ↦ ap is_out (own_row k row rows q.1) ∙ (out_row row.item row.fate row (rows_of k rows) refl refl ∙ (ap (λ b. puts_out row.fate row.item || b) out ∙ or_true (puts_out row.fate row.item)))
  | inr q ↦ ap is_out (other_row row.client k row rows refl q.1) ∙ out
]

pub own_out : (k : ℕ) (row : Row) (rows : List Row) → row.client ≡ k → puts_out row.fate row.item ≡ true → is_out (rows_of k (row ∷ rows)) ≡ true
own_out k row rows e p = ap is_out (own_row k row rows e) ∙ (out_row row.item row.fate row (rows_of k rows) refl refl ∙ ap (λ b. b || is_out (rows_of k rows)) p)

or_one : (a : Bool) → (a || false) ≡ true → a ≡ true
or_one true e = refl
or_one false e = e

loss_out : (k : ℕ) (row : Row) (rows : List Row) (f : Fate) (i : Item) → row.fate ≡ f → row.item ≡ i → in_losses k (loss_by row) ≡ true → is_out (rows_of k (row ∷ rows)) ≡ true
loss_out k row rows (Drop cause) i e j h = own_out k row rows (number (rw e at h)) (ap (λ x. puts_out x row.item) e)
  where
    number : ((row.client == k) || false) ≡ true → row.client ≡ k
    number t = eqb-true row.client k (or_one (row.client == k) t)
loss_out k row rows Refused i e j h = own_out k row rows (number (rw e at h)) (ap (λ x. puts_out x row.item) e)
  where
    number : ((row.client == k) || false) ≡ true → row.client ≡ k
    number t = eqb-true row.client k (or_one (row.client == k) t)
loss_out k row rows (End cause) i e j h = true_false (sym (rw e at h))
loss_out k row rows Goes (Gone n) e j h = own_out k row rows (number (rw (e, j) at h)) (ap (λ x. puts_out x row.item) e ∙ ap (puts_out Goes) j)
  where
    number : ((row.client == k) || false) ≡ true → row.client ≡ k
    number t = eqb-true row.client k (or_one (row.client == k) t)
loss_out k row rows Goes i e j h = true_false (sym (rw (e, j) at h))

split_losses : (k : ℕ) (a b : List (ℕ × Option Why)) → in_losses k (a ++ b) ≡ true → (in_losses k a ≡ true) ⊎ (in_losses k b ≡ true)
split_losses k a b h = by_first (in_losses k a) refl (sym (list_any-append (λ (l : ℕ × Option Why). l.0 == k) a b) ∙ h)
  where
    by_first : (x : Bool) → in_losses k a ≡ x → (in_losses k a || in_losses k b) ≡ true → (in_losses k a ≡ true) ⊎ (in_losses k b ≡ true)
    by_first true e t = inl e
    by_first false e t = inr (sym (ap (λ y. y || in_losses k b) e) ∙ t)

-- a client that was lost or refused is out
pub loss_is_out : (k : ℕ) (rows : List Row) → in_losses k (losses rows) ≡ true → is_out (rows_of k rows) ≡ true
loss_is_out k [] h = true_false (sym h)
loss_is_out k (row ∷ rows) h = elim (split_losses k (losses rows) (loss_by row) h) [
  | inl a ↦ out_more k row rows (loss_is_out k rows a)
  | inr b ↦ loss_out k row rows row.fate row.item refl refl b
]

twice_head : {A : Type 0} (p : A → Bool) (b c : Bool) (x : A) (l m : List A) → c ≡ (b && p x) → filter p l ≡ m → filter p (cond b (x ∷ l) l) ≡ cond c (x ∷ m) m
twice_head p true c x l m e ih = ap (λ t. cond (p x) (x ∷ t) t) ih ∙ ap (λ t. cond t (x ∷ m) m) (sym e)
twice_head p false c x l m e ih = ih ∙ ap (λ t. cond t (x ∷ m) m) (sym e)

both_tests : (k j : ℕ) (closed : List ℕ) → not ((k == j) || among j closed) ≡ (not (among j closed) && not (j == k))
both_tests k j closed = by_test (k == j) (j == k) (among j closed) (swap k j)
  where
    swap : (k j : ℕ) → (k == j) ≡ (j == k)
    swap k j = elim (eqb_tells k j) [ inl t ↦ t.0 ∙ sym (eq-eqb j k (sym t.1)) | inr t ↦ t.0 ∙ sym (test_other j k (λ e. t.1 (sym e))) ]

    by_test : (a b c : Bool) → a ≡ b → not (a || c) ≡ (not c && not b)
    by_test true true true e = refl
    by_test true true false e = refl
    by_test false false true e = refl
    by_test false false false e = refl
    by_test true false c e = true_false e
    by_test false true c e = true_false (sym e)

filter_twice : {A : Type 0} (p q r : A → Bool) (xs : List A) → ((x : A) → r x ≡ (q x && p x)) → filter p (filter q xs) ≡ filter r xs
filter_twice p q r [] h = refl
filter_twice p q r (x ∷ xs) h = twice_head p (q x) (r x) x (filter q xs) (filter r xs) (h x) (filter_twice p q r xs h)

-- ---- the parts of it

-- the streams that wait, without one
waiting_closed : (k : ℕ) (s : EngineState) → k ≢ 0 → without k (waiting_streams s) ≡ waiting_streams (closed_by s k)
waiting_closed k s nz = by_up (is_empty s.up.waiting)
  where
    by_up : (b : Bool) → without k (cond b (waiting_clients s.clients) (0 ∷ waiting_clients s.clients)) ≡ cond b (waiting_clients (without_client k s.clients)) (0 ∷ waiting_clients (without_client k s.clients))
    by_up true = waiting_less k s.clients
    by_up false = ap (λ b. cond (not b) (0 ∷ without k (waiting_clients s.clients)) (without k (waiting_clients s.clients))) (test_other 0 k (λ e. nz (sym e))) ∙ ap (λ l. 0 ∷ l) (waiting_less k s.clients)

reads_less : (k : ℕ) (marks : List Mark) (cs : List ClientState) → EachReads marks cs → EachReads marks (without_client k cs)
reads_less k marks [] each = tt
reads_less k marks (c ∷ cs) each = by_test (not (c.peer.number == k)) (reads_less k marks cs each.1)
  where
    by_test : (b : Bool) → EachReads marks (without_client k cs) → EachReads marks (cond b (c ∷ without_client k cs) (without_client k cs))
    by_test true h = (each.0, h)
    by_test false h = h

-- whether a client is among those that were closed, with one more
closed_test : (k j : ℕ) (closed : List ℕ) (b : Bool) → (k == j) ≡ b → among j (k ∷ closed) ≡ (b || among j closed)
closed_test k j closed b e = ap (λ x. x || among j closed) e

-- who is here with one closed
here-other : (k j : ℕ) (s : EngineState) → k ≢ j → is_here (closed_by s k) j ≡ is_here s j
here-other k j s ne = ap (λ b. b || among j (without k s.refused)) (present_less k j s.clients ne) ∙ ap (λ b. is_present s.clients j || b) (among-less k j s.refused ne)

here-gone : (k : ℕ) (s : EngineState) → is_here (closed_by s k) k ≡ false
here-gone k s = ap (λ b. b || among k (without k s.refused)) (gone_less k s.clients) ∙ among-gone k s.refused

rows_closed : (taken : ℕ) (dn : List Asked) (s : EngineState) (k : ℕ) (closed : List ℕ) (rows : List Row) → is_out (rows_of k rows) ≡ true → k ≢ 0 → RowsFit taken dn s closed rows → RowsFit taken dn (closed_by s k) (k ∷ closed) rows
rows_closed taken dn s k closed rows out nz st = record {
  taken_is = st.taken_is;
  drawn_is = st.drawn_is;
  asked_is = st.asked_is;
  fresh = st.fresh;
  fit = record { core = st.fit.core; each = each_less rows k s.clients st.fit.each; apart = apart_less k s.clients st.fit.apart; up = st.fit.up };
  ended_is = st.ended_is;
  listening_is = st.listening_is;
  waiting_is = ap (without k) st.waiting_is ∙ waiting_closed k s nz;
  leaving_are = ap (filter (λ (l : ℕ × Option Why). not (l.0 == k))) st.leaving_are ∙ filter_twice (λ (l : ℕ × Option Why). not (l.0 == k)) (not_closed closed) (not_closed (k ∷ closed)) (losses rows) (λ l. both_tests k l.0 closed);
  served_are = lost_less rows k s.clients (λ c num v. sym (out_is (rows_of c.peer.number rows) ∙ ap Rattle.mux_peers.specs.Stands.is_standing_lost (sym v.peer.standing_is)) ∙ (ap (λ j. is_out (rows_of j rows)) num ∙ out)) st.fit.each ∙ st.served_are;
  place_is = st.place_is;
  absent = λ j z p q. elim (eqb_tells k j) [
    | inl t ↦ true_false (sym (closed_test k j closed true t.0) ∙ q)
    | inr t ↦ st.absent j z (sym (here-other k j s t.1) ∙ p) (sym (closed_test k j closed false t.0) ∙ q)
  ];
  closed_gone = λ j q. elim (eqb_tells k j) [
    | inl t ↦ ap (is_here (closed_by s k)) (sym t.1) ∙ here-gone k s
    | inr t ↦ here-other k j s t.1 ∙ st.closed_gone j (sym (closed_test k j closed false t.0) ∙ q)
  ];
  refused_only = λ j q. st.refused_only j (among-was k j s.refused q);
  closed_out = λ j q. elim (eqb_tells k j) [
    | inl t ↦ ap (λ i. is_out (rows_of i rows)) (sym t.1) ∙ out
    | inr t ↦ st.closed_out j (sym (closed_test k j closed false t.0) ∙ q)
  ];
  known = st.known;
  unentered = st.unentered;
  server_in = st.server_in;
}

bytes_closed : (s : EngineState) (k : ℕ) (marks : List Mark) (closed : List ℕ) (rows : List Row) → is_out (rows_of k rows) ≡ true → k ≢ 0 → ((j : ℕ) → j ≢ 0 → is_here s j ≡ false → among j closed ≡ false → rows_of j rows ≡ []) → BytesFit s marks closed rows → BytesFit (closed_by s k) marks (k ∷ closed) rows
bytes_closed s k marks closed rows out nz absent st = record {
  are_bytes = st.are_bytes;
  clients = λ l. reads_less k marks s.clients (st.clients l);
  server = st.server;
  there = λ live j a p. elim (eqb_tells k j) [
    | inl t ↦ closed_test k j closed true t.0
    | inr t ↦ closed_test k j closed false t.0 ∙ st.there live j a (sym (here-other k j s t.1) ∙ p)
  ];
  strange = λ j a. let v : IsStrange s marks closed j = st.strange j a in elim (eqb_tells k j) [
    | inl t ↦ let w : IsStrange s marks closed k = st.strange k (ap (λ i. is_accepted i marks) t.1 ∙ a) in true_false (sym out ∙ ap is_out (absent k nz w.not_here w.not_closed_yet))
    | inr t ↦ record { not_here = here-other k j s t.1 ∙ v.not_here; not_closed_yet = closed_test k j closed false t.0 ∙ v.not_closed_yet; no_bytes = v.no_bytes }
  ];
}

-- the client that is closed is out
first_out : (taken : ℕ) (dn : List Asked) (s : EngineState) (k : ℕ) (closed : List ℕ) (rows : List Row) → IsFirstLost k s.leaving → RowsFit taken dn s closed rows → is_out (rows_of k rows) ≡ true
first_out taken dn s k closed rows first st = loss_is_out k rows (unfiltered k (not_closed closed) (losses rows) (subst (λ ls. in_losses k ls ≡ true) st.leaving_are (first_in k s.leaving first)))

pub closes : (s : EngineState) (k : ℕ) → IsFirstLost k s.leaving → Closes s (closed_by s k) k
closes s k first picked given marks closed st = record {
  asks = st.asks;
  each = st.each;
  at = λ picks replies.
      let v = st.at picks replies in
      let rows : List Row = log s (picked ++ picks) (given ++ replies) marks in
      let out : is_out (rows_of k rows) ≡ true = first_out (length picked) st.asks s k closed rows first v.rows in
      let nz : k ≢ 0 = λ e. true_false (sym out ∙ (ap (λ j. is_out (rows_of j rows)) e ∙ v.rows.server_in)) in
      record { rows = rows_closed (length picked) st.asks s k closed rows out nz v.rows; bytes = bytes_closed s k marks closed rows out nz v.rows.absent v.bytes };
}
