-- The items of a lawful wire, and the rows that they make.
use Rattle.std.proofs.Common.{◌≡◌, ℕ, List, [], ◌∷◌, true, false, Bool, refl, ◌∙◌, ap, Some, None}
use Rattle.std.specs.Prelude.{◌||◌, ◌&&◌}
use Rattle.mux_history.specs.Choices.{Choices, FromLists, pick_of, replies_given, reply_at, with_reply}
use Rattle.mux_history.specs.Controls.{body_asks, client_has_greeted, house_sends}
use Rattle.mux_history.specs.Heard.{Breaks, Dest, Disconnects, ToClient, ToMaster, dest, received_for}
use Rattle.mux_history.specs.Log.{admits, received_row, log_of, makes_next, more_of, row_of, sent_by_client, treat}
use Rattle.mux_history.specs.Policy.{Policy}
use Rattle.mux_history.specs.Rows.{Admit, Gone, Heard, HouseSays, Item, Row, Says, any_of, rows_of}
use Rattle.mux_history.specs.Said.{Outcome, silent}
use Rattle.mux_history.specs.Settings.{by_lists}
use Rattle.mux_outside.specs.declared.house.HouseReply.{HouseReply}
use Rattle.ssh_grammar.specs.Said.{BadFraming, Body, Payload}
use Rattle.mux_history.proofs.Bools.{or-left, or-right}
use Rattle.mux_history.proofs.SentApart.{LawfulItem, SendingBytes, admits_client}
use Rattle.mux_history.proofs.Sends.{row-parts}

pub client-of : (item : Item) (k : ℕ) (o : Outcome) (own : List Row) → (row_of item k o own).client ≡ k
client-of item k o own = row-parts (λ r. r.client ≡ k) item k o own (λ fw parting down fate. refl)

pub item-of : (item : Item) (k : ℕ) (o : Outcome) (own : List Row) → (row_of item k o own).item ≡ item
item-of item k o own = row-parts (λ r. r.item ≡ item) item k o own (λ fw parting down fate. refl)

-- ---- the items

abbrev pub LawfulIn : List Item → Item → Type 0
LawfulIn before (Admit k) = any_of (admits_client k) before ≡ false
LawfulIn before (Says k outgoing reply) = (k ≡ 0 → ⊥) × SendingBytes outgoing
LawfulIn before item = Unit {0}

abbrev pub LawfulItems : List Item → Type 0
LawfulItems [] = Unit {0}
LawfulItems (item ∷ before) = LawfulIn before item × LawfulItems before

pub treat-item : (policy : Policy) (pid pick : ℕ) (before : List Row) (item : Item) → (treat policy pid pick before item).item ≡ item
treat-item policy pid pick before (Admit k) = item-of (Admit k) k (admits before) (rows_of k before)
treat-item policy pid pick before (Says k outgoing reply) = item-of (Says k outgoing reply) k (sent_by_client policy pid k (rows_of k before) pick outgoing reply) (rows_of k before)
treat-item policy pid pick before (HouseSays k id given) = item-of (HouseSays k id given) k (house_sends (rows_of k before) id given) (rows_of k before)
treat-item policy pid pick before (Gone k) = item-of (Gone k) k silent (rows_of k before)
treat-item policy pid pick before (Heard p) = by_dest (dest before p)
  where
    by_dest : (d : Dest) → (received_row before p d).item ≡ Heard p
    by_dest ToMaster = refl
    by_dest (ToClient k) = item-of (Heard p) k (received_for (rows_of k before) p) (rows_of k before)
    by_dest Disconnects = refl
    by_dest (Breaks why) = refl
treat-item policy pid pick before item = refl

module _ (policy : Policy) (pid : ℕ) (picks : List ℕ) (replies : List HouseReply) where
  abbrev lists : Choices
  lists = FromLists picks replies

  -- the reply changes nothing of what is asked of an item
  pub reply-admits : (k : ℕ) (rows : List Row) (item : Item) → admits_client k (with_reply lists rows item) ≡ admits_client k item
  reply-admits k rows (Says j (Body body) reply) = elim (client_has_greeted (rows_of j rows) && body_asks body) as (λ b. admits_client k (elim b as (λ _. Item) [ true ↦ Says j (Body body) (Some (reply_at replies (replies_given rows))) | false ↦ Says j (Body body) None ]) ≡ false) [ true ↦ refl | false ↦ refl ]
  reply-admits k rows (Says j (Payload p) reply) = refl
  reply-admits k rows (Says j (BadFraming fault) reply) = refl
  reply-admits k rows item = refl

  pub reply-next : (rows : List Row) (item : Item) → makes_next rows item ≡ true → makes_next rows (with_reply lists rows item) ≡ true
  reply-next rows (Says j (Body body) reply) may = elim (client_has_greeted (rows_of j rows) && body_asks body) as (λ b. makes_next rows (elim b as (λ _. Item) [ true ↦ Says j (Body body) (Some (reply_at replies (replies_given rows))) | false ↦ Says j (Body body) None ]) ≡ true) [ true ↦ may | false ↦ may ]
  reply-next rows (Says j (Payload p) reply) may = may
  reply-next rows (Says j (BadFraming fault) reply) may = may
  reply-next rows item may = may

  pub reply-lawful : (rows : List Row) (before : List Item) (item : Item) → ((k : ℕ) → any_of (admits_client k) before ≡ false → any_of (λ row. admits_client k row.item) rows ≡ false) → LawfulIn before item → LawfulItem rows (with_reply lists rows item)
  reply-lawful rows before (Says j (Body body) reply) none lawful = elim (client_has_greeted (rows_of j rows) && body_asks body) as (λ b. LawfulItem rows (elim b as (λ _. Item) [ true ↦ Says j (Body body) (Some (reply_at replies (replies_given rows))) | false ↦ Says j (Body body) None ])) [ true ↦ lawful | false ↦ lawful ]
  reply-lawful rows before (Says j (Payload p) reply) none lawful = lawful
  reply-lawful rows before (Says j (BadFraming fault) reply) none lawful = lawful
  reply-lawful rows before (Admit k) none lawful = none k lawful
  reply-lawful rows before item none lawful = tt

  -- the rows of items that do not admit a client do not
  more-admits : (k : ℕ) (rows : List Row) (item : Item) → admits_client k item ≡ false → any_of (λ row. admits_client k row.item) rows ≡ false → any_of (λ row. admits_client k row.item) (more_of (by_lists policy pid picks replies) rows item) ≡ false
  more-admits k rows item other none = by_next (makes_next rows item)
    where
      by_next : (b : Bool) → any_of (λ row. admits_client k row.item) (elim b as (λ _. List Row) [ false ↦ rows | true ↦ treat policy pid (pick_of lists rows item) rows (with_reply lists rows item) ∷ rows ]) ≡ false
      by_next false = none
      by_next true = ap (λ b. b || any_of (λ (row : Row). admits_client k row.item) rows) (ap (admits_client k) (treat-item policy pid (pick_of lists rows item) rows (with_reply lists rows item)) ∙ (reply-admits k rows item ∙ other)) ∙ none

  pub rows-admits : (k : ℕ) (items : List Item) → any_of (admits_client k) items ≡ false → any_of (λ row. admits_client k row.item) (log_of (by_lists policy pid picks replies) items) ≡ false
  rows-admits k [] none = refl
  rows-admits k (item ∷ before) none = more-admits k (log_of (by_lists policy pid picks replies) before) item (or-left (admits_client k item) (any_of (admits_client k) before) none) (rows-admits k before (or-right (admits_client k item) (any_of (admits_client k) before) none))
