-- The rows of what one client sends: what they leave as it was, and whom they lose.
use Rattle.std.proofs.Common.{◌≡◌, ◌+◌, ℕ, Bool, true, false, not, ◌&&◌, List, [], ◌∷◌, ◌++◌, map, Option, Some, None, refl, sym, ap, ◌∙◌, subst, cond, append-nil}
use Rattle.mux_outside.specs.declared.house.HouseReply.{HouseReply}
use Rattle.ssh_grammar.specs.Said.{Outgoing, Body, Payload, BadFraming}
use Rattle.mux_history.specs.Policy.{Policy}
use Rattle.mux_history.specs.Rows.{Row, rows_of, is_out, is_run_over, loss_by, Item, Says}
use Rattle.mux_history.specs.Heard.{is_server_payload, next_index}
use Rattle.mux_history.specs.Controls.{body_asks, client_has_greeted}
use Rattle.mux_history.specs.Choices.{FromLists, pick_of, reply_at, replies_given}
use Rattle.mux_history.specs.Settings.{by_lists}
use Rattle.mux_history.specs.Log.{sent_by_client, treat, makes_next, more_all, more_of, next_row}
use Rattle.mux_history.specs.Journal.{sent_item}
use Rattle.mux_peers.specs.declared.standing.Standing.{Standing}
use Rattle.mux_peers.specs.declared.standing.Standing.TheVariants.{Lost}
use Rattle.mux_peers.specs.Stands.{is_standing_lost, standing_of}
use Rattle.mux_peers.proofs.Adds.{IsOwn, said-own}
use Rattle.mux_peers.proofs.Mores.{parts-of}
use Rattle.mux_peers.proofs.Stood.{out_is, own_row}
use Rattle.mux_state.specs.State.{loss_between, loss_in}
use Rattle.mux_state.proofs.Grows.{Grows, grows-none, grows-on, grows-row}
use Rattle.mux_state.proofs.Lists.{true_false}
use Rattle.mux_state.proofs.OneClient.{loss-row}

-- ---- an item of a saying

record IsSent (k : ℕ) (x : Outgoing) (row : Row) : Type 0 where
  reply : Option HouseReply
  is : row.item ≡ Says k x reply

said-item : (policy : Policy) (pid : ℕ) (picks : List ℕ) (given : List HouseReply) (k : ℕ) (x : Outgoing) (rows : List Row) → IsSent k x (next_row (by_lists policy pid picks given) rows (sent_item k x))
said-item policy pid picks given k (Payload p) rows = record { reply = None; is = (parts-of (Says k (Payload p) None) k (sent_by_client policy pid k (rows_of k rows) (pick_of (FromLists picks given) rows (Says k (Payload p) None)) (Payload p) None) (rows_of k rows)).0 }
said-item policy pid picks given k (BadFraming fault) rows = record { reply = None; is = (parts-of (Says k (BadFraming fault) None) k (sent_by_client policy pid k (rows_of k rows) (pick_of (FromLists picks given) rows (Says k (BadFraming fault) None)) (BadFraming fault) None) (rows_of k rows)).0 }
said-item policy pid picks given k (Body body) rows = by_ask (client_has_greeted (rows_of k rows) && body_asks body)
  where
    by_ask : (b : Bool) → IsSent k (Body body) (treat policy pid (pick_of (FromLists picks given) rows (Says k (Body body) None)) rows (elim b as (λ _. Item) [ true ↦ Says k (Body body) (Some (reply_at given (replies_given rows))) | false ↦ Says k (Body body) None ]))
    by_ask true = record { reply = Some (reply_at given (replies_given rows)); is = (parts-of (Says k (Body body) (Some (reply_at given (replies_given rows)))) k (sent_by_client policy pid k (rows_of k rows) (pick_of (FromLists picks given) rows (Says k (Body body) None)) (Body body) (Some (reply_at given (replies_given rows)))) (rows_of k rows)).0 }
    by_ask false = record { reply = None; is = (parts-of (Says k (Body body) None) k (sent_by_client policy pid k (rows_of k rows) (pick_of (FromLists picks given) rows (Says k (Body body) None)) (Body body) None) (rows_of k rows)).0 }

-- ---- losses, one after another

-- a client that is lost stays so
stays-lost : (a b c : Standing) (k : ℕ) → (is_standing_lost a ≡ true → is_standing_lost b ≡ true) → (is_standing_lost b ≡ true → c ≡ b) → loss_between a b k ++ loss_between b c k ≡ loss_between a c k
stays-lost a b c k h same = by_lost (is_standing_lost a) (is_standing_lost b) refl refl
  where
    by_lost : (x y : Bool) → is_standing_lost a ≡ x → is_standing_lost b ≡ y → cond x [] (loss_in b k) ++ cond y [] (loss_in c k) ≡ cond x [] (loss_in c k)
    by_lost true true e f = refl
    by_lost true false e f = true_false (sym (h e) ∙ f)
    by_lost false true e f = append-nil (loss_in b k) ∙ ap (λ s. loss_in s k) (sym (same f))
    by_lost false false e f = ap (λ l. l ++ loss_in c k) (none b f)
      where
        none : (s : Standing) → is_standing_lost s ≡ false → loss_in s k ≡ []
        none (Lost why) e = true_false e
        none s e = refl

none-between : (s : Standing) (k : ℕ) → loss_between s s k ≡ []
none-between (Lost why) k = refl
none-between s k = refl

-- ---- all of them

abbrev own_standing : ℕ → List Row → Standing
own_standing k rows = standing_of (rows_of k rows)

pub record SendsOn (k : ℕ) (rows rows' : List Row) : Type 0 where
  pub grows : Grows rows rows' (loss_between (own_standing k rows) (own_standing k rows') k)
  pub index : next_index rows' ≡ next_index rows
  -- one that is lost sends nothing more
  pub over : is_standing_lost (own_standing k rows) ≡ true → own_standing k rows' ≡ own_standing k rows

says-none : (k : ℕ) (rows : List Row) → SendsOn k rows rows
says-none k rows = record { grows = subst (Grows rows rows) (sym (none-between (own_standing k rows) k)) (grows-none rows); index = refl; over = λ e. refl }

says-then : (k : ℕ) (a b c : List Row) → SendsOn k a b → SendsOn k b c → SendsOn k a c
says-then k a b c x y = record {
  grows = subst (Grows a c) (stays-lost (own_standing k a) (own_standing k b) (own_standing k c) k (λ e. ap is_standing_lost (x.over e) ∙ e) y.over) (grows-on a b c _ _ x.grows y.grows);
  index = y.index ∙ x.index;
  over = λ e. y.over (ap is_standing_lost (x.over e) ∙ e) ∙ x.over e;
}

index-row : (row : Row) (rows : List Row) → is_server_payload row.item ≡ false → next_index (row ∷ rows) ≡ next_index rows
index-row row rows e = ap (λ b. elim b as (λ _. ℕ) [ true ↦ next_index rows + 1 | false ↦ next_index rows ]) e

says-row : (k : ℕ) (x : Outgoing) (row : Row) (rows : List Row) → IsOwn k row → IsSent k x row → is_out (rows_of k rows) ≡ false → SendsOn k rows (row ∷ rows)
says-row k x row rows own said in' =
    let mine : rows_of k (row ∷ rows) ≡ row ∷ rows_of k rows = own_row k row rows own.client_is in
    let here : is_standing_lost (own_standing k rows) ≡ false = sym (out_is (rows_of k rows)) ∙ in' in
    let loss : loss_by row ≡ loss_between (own_standing k rows) (own_standing k (row ∷ rows)) k =
    loss-row row (rows_of k rows) row.fate row.item refl refl here own.unrefused
    ∙ (ap (loss_in (standing_of (row ∷ rows_of k rows))) own.client_is
    ∙ (ap (λ l. loss_in (standing_of l) k) (sym mine) ∙ sym (ap (λ b. cond b [] (loss_in (own_standing k (row ∷ rows)) k)) here))) in
    record {
      grows = subst (Grows rows (row ∷ rows)) loss (grows-row (Says k x said.reply) row rows said.is tt own.unrefused);
      index = index-row row rows (ap is_server_payload said.is);
      over = λ e. true_false (sym e ∙ here);
    }

says-one : (policy : Policy) (pid : ℕ) (picks : List ℕ) (given : List HouseReply) (k : ℕ) (x : Outgoing) (rows : List Row) → SendsOn k rows (more_of (by_lists policy pid picks given) rows (sent_item k x))
says-one policy pid picks given k x rows = by_makes (makes_next rows (sent_item k x)) refl
  where
    row : Row
    row = next_row (by_lists policy pid picks given) rows (sent_item k x)

    in-of : (b : Bool) → is_run_over rows ≡ b → makes_next rows (sent_item k x) ≡ true → is_out (rows_of k rows) ≡ false
    in-of true e m = true_false (sym (sym (ap (λ b. elim b as (λ _. Bool) [ true ↦ false | false ↦ not (is_out (rows_of k rows)) ]) e) ∙ m))
    in-of false e m = unnot (is_out (rows_of k rows)) (sym (ap (λ b. elim b as (λ _. Bool) [ true ↦ false | false ↦ not (is_out (rows_of k rows)) ]) e) ∙ m)
      where
        unnot : (b : Bool) → not b ≡ true → b ≡ false
        unnot true e = true_false (sym e)
        unnot false e = refl

    by_makes : (b : Bool) → makes_next rows (sent_item k x) ≡ b → SendsOn k rows (elim b as (λ _. List Row) [ false ↦ rows | true ↦ row ∷ rows ])
    by_makes true e = says-row k x row rows (said-own policy pid picks given k x rows) (said-item policy pid picks given k x rows) (in-of (is_run_over rows) refl e)
    by_makes false e = says-none k rows

pub says-on : (policy : Policy) (pid : ℕ) (picks : List ℕ) (given : List HouseReply) (k : ℕ) (xs : List Outgoing) (rows : List Row) → SendsOn k rows (more_all (by_lists policy pid picks given) rows (map (sent_item k) xs))
says-on policy pid picks given k [] rows = says-none k rows
says-on policy pid picks given k (x ∷ xs) rows =
    let next : List Row = more_of (by_lists policy pid picks given) rows (sent_item k x) in
    says-then k rows next (more_all (by_lists policy pid picks given) next (map (sent_item k) xs)) (says-one policy pid picks given k x rows) (says-on policy pid picks given k xs next)
