-- A log that goes on without a client more: what it leaves as it was, and whom it loses.
use Rattle.std.proofs.Common.{◌≡◌, ℕ, Bool, true, false, ◌||◌, not, List, [], ◌∷◌, ◌++◌, Option, refl, sym, ap, ◌∙◌, subst, append-nil, append_assoc, inl, inr, cond}
use Rattle.std.specs.Prelude.{filter}
use Rattle.std.proofs.lemmas.Bool.Decides.{eqb_tells}
use Rattle.mux_history.specs.declared.why.Why.{Why}
use Rattle.mux_history.specs.Rows.{Row, rows_of, loses, is_out, is_refusal, is_admit, loss_by, losses, Item, Admit, Fate, Goes, Refused, Drop, End}
use Rattle.mux_history.specs.Log.{admitted_clients, served}
use Rattle.mux_peers.specs.State.{ClientState}
use Rattle.mux_peers.specs.Stands as stands
use Rattle.mux_peers.specs.Among.{EachFits}
use Rattle.mux_peers.proofs.Stood.{out_is, or_true, own_row}
use Rattle.mux_state.specs.State.{numbers, served_in}
use Rattle.mux_state.specs.Stands.{IsKnown}
use Rattle.mux_state.proofs.Lists.{true_false}
use Rattle.mux_state.proofs.Closes.{other_row, out_more}

pub record Grows (rows rows' : List Row) (loss : List (ℕ × Option Why)) : Type 0 where
  pub entered_is : admitted_clients rows' ≡ admitted_clients rows
  pub known : (k : ℕ) → IsKnown (rows_of k rows) → IsKnown (rows_of k rows')
  pub out_stays : (k : ℕ) → is_out (rows_of k rows) ≡ true → is_out (rows_of k rows') ≡ true
  pub losses_are : losses rows' ≡ losses rows ++ loss

pub grows-none : (rows : List Row) → Grows rows rows []
grows-none rows = record { entered_is = refl; known = λ k h. h; out_stays = λ k h. h; losses_are = sym (append-nil (losses rows)) }

pub grows-on : (a b c : List Row) (x y : List (ℕ × Option Why)) → Grows a b x → Grows b c y → Grows a c (x ++ y)
grows-on a b c x y g h = record {
  entered_is = h.entered_is ∙ g.entered_is;
  known = λ k i. h.known k (g.known k i);
  out_stays = λ k o. h.out_stays k (g.out_stays k o);
  losses_are = h.losses_are ∙ (ap (λ l. l ++ y) g.losses_are ∙ append_assoc (losses a) x y);
}

-- ---- one row

abbrev pub NotAdmit : Item → Type 0
NotAdmit (Admit k) = ⊥
NotAdmit item = Unit {0}

not-admit : (f : Fate) (item : Item) (row : Row) → row.fate ≡ f → row.item ≡ item → NotAdmit item → is_admit row ≡ false
not-admit Refused item row e i n = rw e refl
not-admit f (Admit k) row e i n = absurd n
not-admit Goes item row e i n = rw (e, i) refl
not-admit (Drop why) item row e i n = rw (e, i) refl
not-admit (End cause) item row e i n = rw (e, i) refl

or-false : (a : Bool) → (a || false) ≡ a
or-false true = refl
or-false false = refl

known-row : (row : Row) (own : List Row) → is_refusal row.fate ≡ false → IsKnown own → IsKnown (row ∷ own)
known-row row own r h = record {
  admitted = ap (λ b. is_admit row || b) h.admitted ∙ or_true (is_admit row);
  out_is = ap (λ b. (loses row || b) || is_out own) r ∙ (ap (λ b. b || is_out own) (or-false (loses row)) ∙ ap (λ b. loses row || b) h.out_is);
}

-- a row that admits no client and refuses no client
pub grows-row : (item : Item) (row : Row) (rows : List Row) → row.item ≡ item → NotAdmit item → is_refusal row.fate ≡ false → Grows rows (row ∷ rows) (loss_by row)
grows-row item row rows i admit fate = record {
  entered_is = ap (λ b. admitted_clients rows ++ elim b as (λ _. List ℕ) [ true ↦ row.client ∷ [] | false ↦ [] ]) (not-admit row.fate item row refl i admit) ∙ append-nil (admitted_clients rows);
  known = λ k h. elim (eqb_tells row.client k) [
    | inl q ↦ subst IsKnown (sym (own_row k row rows q.1)) (known-row row (rows_of k rows) fate h)
    | inr q ↦ subst IsKnown (sym (other_row row.client k row rows refl q.1)) h
  ];
  out_stays = λ k o. out_more k row rows o;
  losses_are = refl;
}

-- ---- who is served

abbrev here_in : List Row → ℕ → Bool
here_in rows k = not (is_out (rows_of k rows))

-- those that are served are the numbers of the clients that aren't out
served-numbers : (rows : List Row) (cs : List ClientState) → EachFits rows cs → served_in cs ≡ filter (here_in rows) (numbers cs)
served-numbers rows [] each = refl
served-numbers rows (c ∷ cs) each =
    let lost : stands.is_standing_lost c.peer.standing ≡ is_out (rows_of c.peer.number rows) = ap stands.is_standing_lost each.0.peer.standing_is ∙ sym (out_is (rows_of c.peer.number rows)) in
    ap (λ b. cond b (served_in cs) (c.peer.number ∷ served_in cs)) lost
    ∙ (ap (λ l. cond (is_out (rows_of c.peer.number rows)) l (c.peer.number ∷ l)) (served-numbers rows cs each.1)
    ∙ turned (is_out (rows_of c.peer.number rows)) c.peer.number (filter (here_in rows) (numbers cs)))
  where
    turned : (b : Bool) (x : ℕ) (l : List ℕ) → cond b l (x ∷ l) ≡ cond (not b) (x ∷ l) l
    turned true x l = refl
    turned false x l = refl

-- what is filtered more strictly may be filtered before
filter-first : (p q : ℕ → Bool) (xs : List ℕ) → ((x : ℕ) → q x ≡ false → p x ≡ false) → filter p (filter q xs) ≡ filter p xs
filter-first p q [] h = refl
filter-first p q (x ∷ xs) h = by_test (q x) refl (filter-first p q xs h)
  where
    by_test : (b : Bool) → q x ≡ b → filter p (filter q xs) ≡ filter p xs → filter p (filter q (x ∷ xs)) ≡ filter p (x ∷ xs)
    by_test true e ih = ap (λ b. filter p (cond b (x ∷ filter q xs) (filter q xs))) e ∙ ap (λ l. cond (p x) (x ∷ l) l) ih
    by_test false e ih = ap (λ b. filter p (cond b (x ∷ filter q xs) (filter q xs))) e ∙ (ih ∙ sym (ap (λ b. cond b (x ∷ filter p xs) (filter p xs)) (h x e)))

not-here : (rows rows' : List Row) (k : ℕ) → (is_out (rows_of k rows) ≡ true → is_out (rows_of k rows') ≡ true) → here_in rows k ≡ false → here_in rows' k ≡ false
not-here rows rows' k stays e = ap not (stays (turn (is_out (rows_of k rows)) e))
  where
    turn : (b : Bool) → not b ≡ false → b ≡ true
    turn true e = refl
    turn false e = true_false e

pub filter-append : {A : Type 0} (p : A → Bool) (xs ys : List A) → filter p (xs ++ ys) ≡ filter p xs ++ filter p ys
filter-append p [] ys = refl
filter-append p (x ∷ xs) ys = ap (λ l. cond (p x) (x ∷ l) l) (filter-append p xs ys) ∙ head (p x) (filter p xs) (filter p ys)
  where
    head : (b : Bool) (l m : List _) → cond b (x ∷ (l ++ m)) (l ++ m) ≡ cond b (x ∷ l) l ++ m
    head true l m = refl
    head false l m = refl

-- those that are served stay those that the rows serve, also where some come
pub served-more : (rows rows' : List Row) (more : List ℕ) (cs cs' : List ClientState) → ((k : ℕ) → is_out (rows_of k rows) ≡ true → is_out (rows_of k rows') ≡ true) → EachFits rows cs → EachFits rows' cs' → numbers cs' ≡ numbers cs ++ more → admitted_clients rows' ≡ admitted_clients rows ++ more → served_in cs ≡ served rows → served_in cs' ≡ served rows'
served-more rows rows' more cs cs' stays each each' same come was =
    let old : filter (here_in rows') (numbers cs) ≡ filter (here_in rows') (admitted_clients rows) =
    sym (filter-first (here_in rows') (here_in rows) (numbers cs) (λ k. not-here rows rows' k (stays k)))
    ∙ (ap (filter (here_in rows')) (sym (served-numbers rows cs each) ∙ was)
    ∙ filter-first (here_in rows') (here_in rows) (admitted_clients rows) (λ k. not-here rows rows' k (stays k))) in
    served-numbers rows' cs' each'
    ∙ (ap (filter (here_in rows')) same
    ∙ (filter-append (here_in rows') (numbers cs) more
    ∙ (ap (λ l. l ++ filter (here_in rows') more) old
    ∙ (sym (filter-append (here_in rows') (admitted_clients rows) more) ∙ ap (filter (here_in rows')) (sym come)))))

pub served-grows : (rows rows' : List Row) (loss : List (ℕ × Option Why)) (cs cs' : List ClientState) → Grows rows rows' loss → EachFits rows cs → EachFits rows' cs' → numbers cs' ≡ numbers cs → served_in cs ≡ served rows → served_in cs' ≡ served rows'
served-grows rows rows' loss cs cs' g each each' same was = served-more rows rows' [] cs cs' g.out_stays each each' (same ∙ sym (append-nil (numbers cs))) (g.entered_is ∙ sym (append-nil (admitted_clients rows))) was
