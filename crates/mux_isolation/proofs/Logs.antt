-- The facts of a right log, by induction over its items, and the isolation of each client.
use Rattle.std.proofs.Common.{◌≡◌, ℕ, List, [], ◌∷◌, ◌++◌, true, false, Bool, refl, ◌∙◌, ap, map, sym, Option, Some, None, subst}
use Rattle.std.specs.Prelude.{◌==◌, ◌||◌}
use Rattle.mux_history.specs.Channels.{channels_of, own_number_of}
use Rattle.mux_history.specs.Choices.{Choices, FromLists, pick_of, sent_number, with_reply}
use Rattle.mux_history.specs.Journal.{items}
use Rattle.mux_history.specs.Log.{Setting, admits, bare_row, log_of, makes_next, more_of, next_row, treat}
use Rattle.mux_history.specs.Policy.{Policy}
use Rattle.mux_history.specs.Requests.{replies}
use Rattle.mux_history.specs.Right.{AreFresh}
use Rattle.mux_history.specs.Rows.{Admit, BadServer, Gone, Heard, HouseSays, Item, Row, RunEnd, Says, ServerCut, ServerEnd, ServerFailed, Took, any_of, is_admit, is_end, is_run_over, rows_of}
use Rattle.mux_history.specs.Said.{silent}
use Rattle.mux_history.specs.Settings.{by_lists, by_own}
use Rattle.mux_history.specs.Solo.{IsUnshared, run_end_of, item_for, items_for, run_end, seen_alone}
use Rattle.mux_history.specs.declared.ended.Ended.{Ended}
use Rattle.mux_outside.specs.declared.house.HouseReply.{HouseReply}
use Rattle.mux_history.proofs.Apart.{AreApart}
use Rattle.mux_history.proofs.Askers.{Orderly, orderly-none, orderly-treat}
use Rattle.mux_history.proofs.Bools.{is-of, or-left, or-right, same-number}
use Rattle.mux_history.proofs.Finds.{filter-no, filter-yes}
use Rattle.mux_history.proofs.KeepsApart.{good-treat}
use Rattle.mux_history.proofs.LawfulItems.{LawfulIn, LawfulItems, client-of, reply-lawful, reply-next, rows-admits}
use Rattle.mux_history.proofs.Nexts.{by-next, next-live, next-took}
use Rattle.mux_history.proofs.SentApart.{IsFresh, LawfulItem, admits_client}
use Rattle.mux_isolation.proofs.Numbers.{AllNamed}
use Rattle.mux_isolation.proofs.Rows.{AllSmall, SmallItem}
use Rattle.mux_isolation.proofs.Solos.{alone, alone_row}
use Rattle.mux_isolation.proofs.Treats.{AdmitFact, AdmitOnce, OwnFacts, Unrefused, admit-item, any-part, ended-part, no-admits, own-took, own-treat}
use Rattle.mux_isolation.proofs.Unshared.{AllOwn, ended-alone, unshared}

-- ---- what is known of a log

abbrev pub AllUnrefused : List Row → Type 0
AllUnrefused [] = Unit {0}
AllUnrefused (row ∷ before) = Unrefused row.item (is_admit row) × AllUnrefused before

pub record LogFacts (policy : Policy) (pid k : ℕ) (rows : List Row) : Type 0 where
  pub good : AreApart (channels_of rows)
  pub orderly : is_run_over rows ≡ false → Orderly rows
  pub named : AllNamed (rows_of k rows)
  pub small : AllSmall (rows_of k rows)
  pub once : AdmitOnce k (rows_of k rows)
  pub own : AllUnrefused (rows_of k rows) → AllOwn policy pid (rows_of k rows)

facts-none : (policy : Policy) (pid k : ℕ) → LogFacts policy pid k []
facts-none policy pid k = record {
  good = record { each = tt; apart = tt };
  orderly = λ going. orderly-none;
  named = tt;
  small = tt;
  once = tt;
  own = λ un. tt;
}

module _ (policy : Policy) (pid pick k : ℕ) (real : k ≡ 0 → ⊥) (before : List Row) (item : Item) (facts : LogFacts policy pid k before) (may : makes_next before item ≡ true) (lawful : LawfulItem before item) (fresh : IsFresh before (treat policy pid pick before item)) where
  once-item : (item : Item) → LawfulItem before item → (treat policy pid pick before item).client ≡ k → AdmitFact k (rows_of k before) item
  once-item (Admit j) lawful mine =
      let same : j ≡ k = sym (client-of (Admit j) j (admits before) (rows_of j before)) ∙ mine in
      (is-of j k same, any-part (λ row. admits_client k row.item) k before (subst (λ (i : ℕ). any_of (λ row. admits_client i row.item) before ≡ false) same lawful))
  once-item (Says j outgoing reply) lawful mine = tt
  once-item (HouseSays j id given) lawful mine = tt
  once-item (Gone j) lawful mine = tt
  once-item (Heard p) lawful mine = tt
  once-item (BadServer fault) lawful mine = tt
  once-item ServerEnd lawful mine = tt
  once-item (ServerCut left) lawful mine = tt
  once-item ServerFailed lawful mine = tt
  once-item (Took stream size) lawful mine = tt
  once-item (RunEnd cause) lawful mine = tt

  next-good : AreApart (channels_of (treat policy pid pick before item ∷ before))
  next-good = good-treat policy pid pick before item facts.good lawful fresh

  next-orderly : is_run_over (treat policy pid pick before item ∷ before) ≡ false → Orderly (treat policy pid pick before item ∷ before)
  next-orderly on = orderly-treat policy pid pick before item (facts.orderly (or-right (is_end (treat policy pid pick before item).fate) (is_run_over before) on)) (or-left (is_end (treat policy pid pick before item).fate) (is_run_over before) on)

  took-facts : (j size : ℕ) → j ≡ k → OwnFacts policy pid k (rows_of k before) (Took j size) (bare_row (Took j size) j silent)
  took-facts j size same = subst (λ (i : ℕ). OwnFacts policy pid k (rows_of k before) (Took i size) (bare_row (Took i size) i silent)) (sym same) (own-took policy pid before facts.good k size facts.named)

  own-facts : (treat policy pid pick before item).client ≡ k → OwnFacts policy pid k (rows_of k before) item (treat policy pid pick before item)
  own-facts mine =
      by-next before item may
      (λ going makes. own-treat policy pid pick before facts.good (facts.orderly going) k real facts.named facts.small facts.once item lawful makes mine)
      (λ j size e. subst (λ (i : Item). (treat policy pid pick before i).client ≡ k → OwnFacts policy pid k (rows_of k before) i (treat policy pid pick before i)) (sym e) (took-facts j size) mine)

  own-makes : OwnFacts policy pid k (rows_of k before) item (treat policy pid pick before item) → makes_next (alone (rows_of k before)) (item_for (rows_of k before) item) ≡ true
  own-makes f =
      by-next before item may
      (λ going makes. next-live (alone (rows_of k before)) (item_for (rows_of k before) item) (ended-alone (rows_of k before) ∙ ended-part k before going) ∙ f.makes)
      (λ j size e. subst (λ (i : Item). makes_next (alone (rows_of k before)) (item_for (rows_of k before) i) ≡ true) (sym e) (next-took (alone (rows_of k before)) j size))

  pub record Parts (own : List Row) : Type 0 where
    pub named : AllNamed own
    pub small : AllSmall own
    pub once : AdmitOnce k own
    pub own_rows : AllUnrefused own → AllOwn policy pid own

  next-mine : (treat policy pid pick before item).client ≡ k → Parts (treat policy pid pick before item ∷ rows_of k before)
  next-mine mine =
      let f : OwnFacts policy pid k (rows_of k before) item (treat policy pid pick before item) = own-facts mine in
      record {
        named = (f.named, facts.named);
        small = (subst (SmallItem (rows_of k before)) (sym f.is) f.small, facts.small);
        once = (subst (AdmitFact k (rows_of k before)) (sym f.is) (once-item item lawful mine), facts.once);
        own_rows = λ un. (
          record {
            makes = subst (λ (i : Item). makes_next (alone (rows_of k before)) (item_for (rows_of k before) i) ≡ true) (sym f.is) (own-makes f);
            treats = subst (λ (i : Item). treat policy pid (sent_number (own_number_of (item_for (rows_of k before) i))) (alone (rows_of k before)) (item_for (rows_of k before) i) ≡ alone_row (rows_of k before) (treat policy pid pick before item)) (sym f.is) (f.treats (subst (λ (i : Item). Unrefused i (is_admit (treat policy pid pick before item))) f.is un.0));
          },
          facts.own un.1,
        );
      }

  next-parts : (b : Bool) → ((treat policy pid pick before item).client == k) ≡ b → Parts (rows_of k (treat policy pid pick before item ∷ before))
  next-parts true e = subst Parts (sym (filter-yes (λ (r : Row). r.client == k) (treat policy pid pick before item) before e)) (next-mine (same-number (treat policy pid pick before item).client k e))
  next-parts false e = subst Parts (sym (filter-no (λ (r : Row). r.client == k) (treat policy pid pick before item) before e)) (record { named = facts.named; small = facts.small; once = facts.once; own_rows = facts.own })

  pub next-facts : LogFacts policy pid k (treat policy pid pick before item ∷ before)
  next-facts =
      let parts : Parts (rows_of k (treat policy pid pick before item ∷ before)) = next-parts ((treat policy pid pick before item).client == k) refl in
      record { good = next-good; orderly = next-orderly; named = parts.named; small = parts.small; once = parts.once; own = parts.own_rows }

module _ (policy : Policy) (pid : ℕ) (picks : List ℕ) (replies : List HouseReply) where
  abbrev lists : Choices
  lists = FromLists picks replies

  more-facts : (k : ℕ) → (k ≡ 0 → ⊥) → (rows : List Row) (before : List Item) (item : Item) → ((j : ℕ) → any_of (admits_client j) before ≡ false → any_of (λ row. admits_client j row.item) rows ≡ false) → LawfulIn before item → (AreFresh rows → LogFacts policy pid k rows) → AreFresh (more_of (by_lists policy pid picks replies) rows item) → LogFacts policy pid k (more_of (by_lists policy pid picks replies) rows item)
  more-facts k real rows before item none lawful ih fresh = by_next (makes_next rows item) refl fresh
    where
      by_next : (b : Bool) → makes_next rows item ≡ b → AreFresh (elim b as (λ _. List Row) [ false ↦ rows | true ↦ treat policy pid (pick_of lists rows item) rows (with_reply lists rows item) ∷ rows ]) → LogFacts policy pid k (elim b as (λ _. List Row) [ false ↦ rows | true ↦ treat policy pid (pick_of lists rows item) rows (with_reply lists rows item) ∷ rows ])
      by_next false e fresh = ih fresh
      by_next true e fresh = next-facts policy pid (pick_of lists rows item) k real rows (with_reply lists rows item) (ih fresh.1) (reply-next policy pid picks replies rows item e) (reply-lawful policy pid picks replies rows before item none lawful) fresh.0

  pub log-facts : (k : ℕ) → (k ≡ 0 → ⊥) → (items : List Item) → LawfulItems items → AreFresh (log_of (by_lists policy pid picks replies) items) → LogFacts policy pid k (log_of (by_lists policy pid picks replies) items)
  log-facts k real [] lawful fresh = facts-none policy pid k
  log-facts k real (item ∷ before) lawful fresh = more-facts k real (log_of (by_lists policy pid picks replies) before) before item (λ j none. rows-admits policy pid picks replies j before none) lawful.0 (λ f. log-facts k real before lawful.1 f) fresh

-- ---- the client that is admitted

no-refused : (k : ℕ) (own : List Row) → AdmitOnce k own → any_of (λ row. admits_client k row.item) own ≡ false → AllUnrefused own
no-refused k [] once none = tt
no-refused k (row ∷ own) once none = (by_item row.item once.0 (or-left (admits_client k row.item) (any_of (λ r. admits_client k r.item) own) none), no-refused k own once.1 (or-right (admits_client k row.item) (any_of (λ r. admits_client k r.item) own) none))
  where
    by_item : (item : Item) → AdmitFact k own item → admits_client k item ≡ false → Unrefused item (is_admit row)
    by_item (Admit j) fact other = absurd (let bad : true ≡ false = sym fact.0 ∙ other in cc)
    by_item item fact other = tt

or-first : (a b : Bool) → b ≡ false → (a || b) ≡ true → a ≡ true
or-first true b e f = refl
or-first false b e f = let bad : true ≡ false = sym f ∙ e in cc

or-second : (a b : Bool) → a ≡ false → (a || b) ≡ true → b ≡ true
or-second true b e f = cc
or-second false b e f = f

pub admitted-all : (k : ℕ) (own : List Row) → AdmitOnce k own → any_of is_admit own ≡ true → AllUnrefused own
admitted-all k [] once admitted = tt
admitted-all k (row ∷ own) once admitted = by_case (λ h. admitted-all k own once.1 h) (admits_client k row.item) refl
  where
    none_before : (item : Item) → AdmitFact k own item → admits_client k item ≡ true → any_of (λ r. admits_client k r.item) own ≡ false
    none_before (Admit j) fact e = fact.1
    none_before item fact e = cc

    as_admitted : (item : Item) (b : Bool) → b ≡ true → Unrefused item b
    as_admitted (Admit j) b e = e
    as_admitted item b e = tt

    other : (item : Item) (b : Bool) → AdmitFact k own item → admits_client k item ≡ false → Unrefused item b
    other (Admit j) b fact none = absurd (let bad : true ≡ false = sym fact.0 ∙ none in cc)
    other item b fact none = tt

    by_case : (any_of is_admit own ≡ true → AllUnrefused own) → (b : Bool) → admits_client k row.item ≡ b → Unrefused row.item (is_admit row) × AllUnrefused own
    by_case ih true e =
        let none : any_of (λ r. admits_client k r.item) own ≡ false = none_before row.item once.0 e in
        (as_admitted row.item (is_admit row) (or-first (is_admit row) (any_of is_admit own) (no-admits k own once.1 none) admitted), no-refused k own once.1 none)
    by_case ih false e = (other row.item (is_admit row) once.0 e, ih (or-second (is_admit row) (any_of is_admit own) (admit-item row k own once.0 e) admitted))

-- what ends the run makes no row of the client's
pub run-end-same : (setting : Setting) (rows : List Row) (items : List Item) → log_of setting (run_end rows ++ items) ≡ log_of setting items
run-end-same setting rows items = by_end (run_end_of rows)
  where
    by_ended : (cause : Ended) (b : Bool) → (elim (elim b as (λ _. Bool) [ true ↦ false | false ↦ false ]) as (λ _. List Row) [ false ↦ log_of setting items | true ↦ next_row setting (log_of setting items) (RunEnd cause) ∷ log_of setting items ]) ≡ log_of setting items
    by_ended cause true = refl
    by_ended cause false = refl

    by_end : (o : Option Ended) → log_of setting (elim o as (λ _. List Item) [ None ↦ [] | Some cause ↦ RunEnd cause ∷ [] ] ++ items) ≡ log_of setting items
    by_end None = refl
    by_end (Some cause) = by_ended cause (is_run_over (log_of setting items))

pub isolated : (policy : Policy) (pid k : ℕ) (picks : List ℕ) (replies : List HouseReply) (rows : List Row) → LogFacts policy pid k rows → any_of is_admit (rows_of k rows) ≡ true → IsUnshared (by_lists policy pid picks replies) k rows
isolated policy pid k picks replies rows facts admitted =
    unshared policy pid (rows_of k rows) (facts.own (admitted-all k (rows_of k rows) facts.once admitted))
    ∙ sym (ap (map seen_alone) (run-end-same (by_own policy pid) rows (items_for (rows_of k rows))))
