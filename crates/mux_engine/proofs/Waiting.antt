-- A call of wait: which streams are waited for.
use Rattle.std.proofs.Common.{◌≡◌, ◌≢◌, ◌≤◌, ℕ, Bool, true, false, not, ◌||◌, List, [], ◌∷◌, ◌++◌, Option, refl, sym, ap, ◌∙◌, subst, inl, inr, ◌⊎◌, cond}
use Rattle.std.specs.Prelude.{◌==◌, filter, nat_lt, All, ◌↔◌}
use Rattle.std.specs.List.{list_any}
use Rattle.std.proofs.lemmas.Bool.{eq-eqb, le-ltb, ltb-false}
use Rattle.std.proofs.lemmas.Bool.Decides.{eqb_tells}
use Rattle.std.proofs.lemmas.List.Elements.{All-nil, All-cons}
use Rattle.std.proofs.lemmas.List.Folds.{list_any-append}
use Rattle.mux_outside.specs.Streams.{among}
use Rattle.mux_outside.specs.declared.house_mark.HouseMark.{HouseMark}
use Rattle.mux_outside.specs.declared.turn.Want.TheVariants.{Read, WriteOnly}
use Rattle.mux_history.specs.declared.why.Why.{Why}
use Rattle.mux_history.specs.Rows.{Row, rows_of, is_out, is_refusal, loses, losses, loss_by, Item, Gone, Fate, Goes, Refused, Drop, End}
use Rattle.mux_history.specs.Pending.{pending, pending_down, pending_up}
use Rattle.mux_history.specs.Promises.{has_output, is_empty}
use Rattle.mux_history.proofs.OwnRows.{idle_row}
use Rattle.mux_peers.specs.State.{ClientState}
use Rattle.mux_peers.specs.Stands.{is_standing_lost}
use Rattle.mux_peers.specs.Among.{EachFits, is_present}
use Rattle.mux_peers.proofs.Stood.{out_is, own_row}
use Rattle.mux_state.specs.State.{EngineState, is_here, numbers, served_in, waiting_clients}
use Rattle.mux_state.specs.Stands.{RowsFit, not_closed}
use Rattle.mux_engine.proofs.Lists.{or-true, true-false}

-- ---- no client is lost where no client leaves

abbrev in-losses : ℕ → List (ℕ × Option Why) → Bool
in-losses k ls = list_any (λ l. l.0 == k) ls

-- one that is out was lost or refused
out-loss : (k : ℕ) (rows : List Row) → is_out (rows_of k rows) ≡ true → in-losses k (losses rows) ≡ true
out-loss k [] e = true-false (sym e)
out-loss k (row ∷ rows) e = elim (eqb_tells row.client k) [
  | inl q ↦ mine (λ h. out-loss k rows h) q.0 (sym (ap is_out (own_row k row rows q.1)) ∙ e)
  | inr q ↦ before (out-loss k rows (sym (ap is_out (idle_row k row rows q.0)) ∙ e))
]
  where
    or-last : (a b : Bool) → b ≡ true → (a || b) ≡ true
    or-last true b e = refl
    or-last false b e = e

    before : in-losses k (losses rows) ≡ true → in-losses k (losses rows ++ loss_by row) ≡ true
    before h = list_any-append (λ (l : ℕ × Option Why). l.0 == k) (losses rows) (loss_by row) ∙ ap (λ t. t || in-losses k (loss_by row)) h

    now : in-losses k (loss_by row) ≡ true → in-losses k (losses rows ++ loss_by row) ≡ true
    now h = list_any-append (λ (l : ℕ × Option Why). l.0 == k) (losses rows) (loss_by row) ∙ or-last (in-losses k (losses rows)) (in-losses k (loss_by row)) h

    loss-at : (f : Fate) (i : Item) → row.fate ≡ f → row.item ≡ i → (row.client == k) ≡ true → (loses row || is_refusal row.fate) ≡ true → in-losses k (loss_by row) ≡ true
    loss-at (Drop why) i e j c h = rw e (ap (λ b. b || false) c)
    loss-at Refused i e j c h = rw e (ap (λ b. b || false) c)
    loss-at Goes (Gone n) e j c h = rw (e, j) (ap (λ b. b || false) c)
    loss-at Goes i e j c h = true-false (sym (rw (e, j) at h))
    loss-at (End cause) i e j c h = true-false (sym (rw e at h))

    by_row : (is_out (rows_of k rows) ≡ true → in-losses k (losses rows) ≡ true) → (a b : Bool) → (loses row || is_refusal row.fate) ≡ a → is_out (rows_of k rows) ≡ b → (a || b) ≡ true → (row.client == k) ≡ true → in-losses k (losses rows ++ loss_by row) ≡ true
    by_row ih true b e f h c = now (loss-at row.fate row.item refl refl c e)
    by_row ih false b e f h c = before (ih (f ∙ h))

    mine : (is_out (rows_of k rows) ≡ true → in-losses k (losses rows) ≡ true) → (row.client == k) ≡ true → is_out (row ∷ rows_of k rows) ≡ true → in-losses k (losses rows ++ loss_by row) ≡ true
    mine ih c h = by_row ih (loses row || is_refusal row.fate) (is_out (rows_of k rows)) refl refl h c

kept-loss : (k : ℕ) (closed : List ℕ) (ls : List (ℕ × Option Why)) → among k closed ≡ false → in-losses k ls ≡ true → in-losses k (filter (not_closed closed) ls) ≡ true
kept-loss k closed [] c h = h
kept-loss k closed (l ∷ ls) c h = elim (eqb_tells l.0 k) [
  | inl q ↦ ap (λ b. in-losses k (cond (not b) (l ∷ filter (not_closed closed) ls) (filter (not_closed closed) ls))) (ap (λ i. among i closed) q.1 ∙ c) ∙ ap (λ b. b || in-losses k (filter (not_closed closed) ls)) q.0
  | inr q ↦ by_kept (not_closed closed l) (kept-loss k closed ls c (sym (ap (λ b. b || in-losses k ls) q.0) ∙ h))
]
  where
    by_kept : (b : Bool) → in-losses k (filter (not_closed closed) ls) ≡ true → in-losses k (cond b (l ∷ filter (not_closed closed) ls) (filter (not_closed closed) ls)) ≡ true
    by_kept true ih = ap (λ b. (l.0 == k) || b) ih ∙ or-true (l.0 == k)
    by_kept false ih = ih

pub none-lost : {taken : ℕ} {drawn : List HouseMark} {s : EngineState} {closed : List ℕ} {rows : List Row} → RowsFit taken drawn s closed rows → s.leaving ≡ [] → (k : ℕ) → is_here s k ≡ true → is_out (rows_of k rows) ≡ false
none-lost {taken} {drawn} {s} {closed} {rows} fit none k here_is = by_out (is_out (rows_of k rows)) refl
  where
    open_is : (b : Bool) → among k closed ≡ b → b ≡ false
    open_is false e = refl
    open_is true e = true-false (sym here_is ∙ fit.closed_gone k e)

    by_out : (b : Bool) → is_out (rows_of k rows) ≡ b → b ≡ false
    by_out false e = refl
    by_out true e = true-false (sym (kept-loss k closed (losses rows) (open_is (among k closed) refl) (out-loss k rows e)) ∙ ap (in-losses k) (sym fit.leaving_are ∙ none))

-- the head of a list is there, or else one after it
abbrev either : Bool → Bool → Bool
either rest b = elim b as (λ _. Bool) [ true ↦ true | false ↦ rest ]

-- all clients are served then
pub all-served : (rows : List Row) (cs : List ClientState) → EachFits rows cs → ((k : ℕ) → is_present cs k ≡ true → is_out (rows_of k rows) ≡ false) → numbers cs ≡ served_in cs
all-served rows [] each h = refl
all-served rows (c ∷ cs) each h =
    let going : is_standing_lost c.peer.standing ≡ false = ap is_standing_lost each.0.peer.standing_is ∙ (sym (out_is (rows_of c.peer.number rows)) ∙ h c.peer.number (ap (either (is_present cs c.peer.number)) (eq-eqb c.peer.number c.peer.number refl))) in
    ap (λ l. c.peer.number ∷ l) (all-served rows cs each.1 (λ k p. h k (by_head (c.peer.number == k) k p))) ∙ sym (ap (λ b. cond b (served_in cs) (c.peer.number ∷ served_in cs)) going)
  where
    by_head : (b : Bool) (k : ℕ) → is_present cs k ≡ true → either (is_present cs k) b ≡ true
    by_head true k p = refl
    by_head false k p = p

-- ---- the streams that are waited for

waiting-filter : (rows : List Row) (cs : List ClientState) → EachFits rows cs → waiting_clients cs ≡ filter (has_output rows) (numbers cs)
waiting-filter rows [] each = refl
waiting-filter rows (c ∷ cs) each =
    let same : c.peer.queue ≡ pending c.peer.number rows = each.0.peer.queue_is ∙ sym (ap (λ b. elim b as (λ _. List ℕ) [ true ↦ pending_up rows | false ↦ pending_down (rows_of c.peer.number rows) ]) each.0.nonzero) in
    ap (λ l. cond (is_empty c.peer.queue) l (c.peer.number ∷ l)) (waiting-filter rows cs each.1)
    ∙ (ap (λ q. cond (is_empty q) (filter (has_output rows) (numbers cs)) (c.peer.number ∷ filter (has_output rows) (numbers cs))) same ∙ flip (is_empty (pending c.peer.number rows)) (filter (has_output rows) (numbers cs)))
  where
    flip : (b : Bool) (l : List ℕ) → cond b l (c.peer.number ∷ l) ≡ cond (not b) (c.peer.number ∷ l) l
    flip true l = refl
    flip false l = refl

-- they are the open ones for which something waits
pub waiting-are : {taken : ℕ} {drawn : List HouseMark} {s : EngineState} {closed : List ℕ} {rows : List Row} → RowsFit taken drawn s closed rows → s.waiting ≡ filter (has_output rows) (0 ∷ numbers s.clients)
waiting-are {taken} {drawn} {s} {closed} {rows} fit =
    fit.waiting_is
    ∙ (ap (λ l. cond (is_empty s.up.waiting) l (0 ∷ l)) (waiting-filter rows s.clients fit.fit.each)
    ∙ (ap (λ q. cond (is_empty q) (filter (has_output rows) (numbers s.clients)) (0 ∷ filter (has_output rows) (numbers s.clients))) fit.fit.up ∙ flip (is_empty (pending_up rows)) (filter (has_output rows) (numbers s.clients))))
  where
    flip : (b : Bool) (l : List ℕ) → cond b l (0 ∷ l) ≡ cond (not b) (0 ∷ l) l
    flip true l = refl
    flip false l = refl

-- what passes a filter was in the list, and passes
pub passed : (P : ℕ → Bool) (t : ℕ) (xs : List ℕ) → among t (filter P xs) ≡ true → (among t xs ≡ true) × (P t ≡ true)
passed P t [] h = true-false (sym h)
passed P t (x ∷ xs) h = by_test (P x) refl h (λ i. passed P t xs i)
  where
    rest : (among t xs ≡ true) × (P t ≡ true) → (among t (x ∷ xs) ≡ true) × (P t ≡ true)
    rest r = (ap (λ b. (x == t) || b) r.0 ∙ or-true (x == t), r.1)

    head : (P x ≡ true) → (b : Bool) → (x == t) ≡ b → (b || among t (filter P xs)) ≡ true → (among t (filter P xs) ≡ true → (among t xs ≡ true) × (P t ≡ true)) → (among t (x ∷ xs) ≡ true) × (P t ≡ true)
    head p true e h ih = (ap (λ b. b || among t xs) e, subst (λ i. P i ≡ true) (same (eqb_tells x t)) p)
      where
        same : (((x == t) ≡ true) × (x ≡ t)) ⊎ (((x == t) ≡ false) × (x ≢ t)) → x ≡ t
        same (inl q) = q.1
        same (inr q) = true-false (sym e ∙ q.0)
    head p false e h ih = rest (ih h)

    by_test : (b : Bool) → P x ≡ b → among t (cond b (x ∷ filter P xs) (filter P xs)) ≡ true → (among t (filter P xs) ≡ true → (among t xs ≡ true) × (P t ≡ true)) → (among t (x ∷ xs) ≡ true) × (P t ≡ true)
    by_test true p h ih = head p (x == t) refl h ih
    by_test false p h ih = rest (ih h)

pub all-of : (P : ℕ → Type 0) (xs : List ℕ) → ((t : ℕ) → among t xs ≡ true → P t) → All P xs
all-of P [] h = All-nil P
all-of P (x ∷ xs) h = All-cons P x xs (h x (ap (λ b. b || among x xs) (eq-eqb x x refl))) (all-of P xs (λ t a. h t (ap (λ b. (x == t) || b) a ∙ or-true (x == t))))

-- nothing is read while so much waits
pub want-is : (m n : ℕ) → ((cond (nat_lt m n) Read WriteOnly) ≡ WriteOnly) ↔ (n ≤ m)
want-is m n = (λ e. by_less e (nat_lt m n) refl, λ le. ap (λ b. cond b Read WriteOnly) (le-ltb m n le))
  where
    by_less : (cond (nat_lt m n) Read WriteOnly ≡ WriteOnly) → (b : Bool) → nat_lt m n ≡ b → n ≤ m
    by_less e false f = ltb-false m n f
    by_less e true f = let bad : Read ≡ WriteOnly = sym (ap (λ b. cond b Read WriteOnly) f) ∙ e in absurd (let h = bad in cc)

pub not-empty : (q : List ℕ) → not (is_empty q) ≡ true → q ≢ []
not-empty q e z = true-false (sym e ∙ ap (λ x. not (is_empty x)) z)
