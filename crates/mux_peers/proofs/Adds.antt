-- The rows of what one client sends, and of its loss, concern it alone.
use Rattle.std.proofs.Common.{◌≡◌, ℕ, Bool, true, false, ◌||◌, ◌&&◌, List, [], ◌∷◌, Option, Some, None, Ok, Err, Result, refl, sym, ap, ◌∙◌}
use Rattle.std.specs.Prelude.{◌==◌}
use Rattle.mux_outside.specs.declared.house.HouseReply.{HouseReply}
use Rattle.ssh_grammar.specs.declared.fault.BadControl.{BadControl}
use Rattle.ssh_grammar.specs.declared.fault.BadControl.TheVariants as bad
use Rattle.ssh_grammar.specs.declared.numbers.TheConstants.{VERSION}
use Rattle.ssh_grammar.specs.Control.{Answer, Control, Hello, OpenForward, CloseForward}
use Rattle.ssh_grammar.specs.ReadControl.{read_control}
use Rattle.ssh_grammar.specs.Said.{Outgoing, Body, Payload, BadFraming}
use Rattle.mux_history.specs.declared.why.Why.TheVariants as why
use Rattle.mux_history.specs.Policy.{Policy}
use Rattle.mux_history.specs.Rows.{Row, rows_of, any_of, is_admit, is_lost, is_refusal, loses, Item, Admit, Says, HouseSays, Gone, Fate, Refused}
use Rattle.mux_history.specs.Choices.{FromLists, pick_of, replies_given, reply_at}
use Rattle.mux_history.specs.Controls.{answers_maybe, body_asks, client_has_greeted, house_answer, later_control, later_unread, sent_body, sent_first, sent_later}
use Rattle.mux_history.specs.Said.{Outcome, drops, silent, sent_payload}
use Rattle.mux_history.specs.Settings.{by_lists}
use Rattle.mux_history.specs.Treat.{row_of, treat}
use Rattle.mux_history.specs.Journal.{sent_item}
use Rattle.mux_history.specs.Log.{makes_next, more_of, next_row}
use Rattle.mux_history.proofs.OwnRows.{idle_row}
use Rattle.mux_peers.specs.Among.{AddsFor}
use Rattle.mux_peers.specs.Laws.{LossesAddForOne}
use Rattle.mux_peers.specs.Pieces.{rows_sent}
use Rattle.mux_peers.proofs.Mores.{parts-of}
use Rattle.mux_peers.proofs.Ones.{differs, unrefused-row}
use Rattle.mux_peers.proofs.Outcomes.{said-unrefused}
use Rattle.mux_peers.proofs.Served.{or-first}
use Rattle.mux_peers.proofs.Stood.{own_row}

-- ---- a row of one client that admits no client and refuses no client

pub record IsOwn (k : ℕ) (row : Row) : Type 0 where
  pub client_is : row.client ≡ k
  pub unadmitted : is_admit row ≡ false
  pub unrefused : is_refusal row.fate ≡ false

abbrev admits_one : Item → Bool
admits_one (Admit k) = true
admits_one item = false

admit-by : (f : Fate) (item : Item) → admits_one item ≡ false → (elim f as (λ _. Bool) [ Refused ↦ false | _ ↦ elim item as (λ _. Bool) [ Admit k ↦ true | _ ↦ false ] ]) ≡ false
admit-by Refused item e = refl
admit-by f (Admit k) e = absurd (let d : true ≡ false = e in cc)
admit-by f item e = refl

own-row-of : (item : Item) (k : ℕ) (o : Outcome) (own : List Row) → admits_one item ≡ false → is_refusal o.ends ≡ false → IsOwn k (row_of item k o own)
own-row-of item k o own none fine =
    let row : Row = row_of item k o own in
    let parts = parts-of item k o own in
    record {
      client_is = parts.1;
      unadmitted = ap (λ (i : Item). elim row.fate as (λ _. Bool) [ Refused ↦ false | _ ↦ elim i as (λ _. Bool) [ Admit k ↦ true | _ ↦ false ] ]) parts.0 ∙ admit-by row.fate item none;
      unrefused = unrefused-row item k o own fine;
    }

-- ---- what is sent refuses no client

maybe-fine : (o : Option Answer) → is_refusal (answers_maybe o).ends ≡ false
maybe-fine None = refl
maybe-fine (Some answer) = refl

later-fine : (pid k : ℕ) (given : Option HouseReply) (c : Control) → is_refusal (later_control pid k given c).ends ≡ false
later-fine pid k None (OpenForward id what) = refl
later-fine pid k (Some given) (OpenForward id what) = maybe-fine (house_answer true id given)
later-fine pid k None (CloseForward id what) = refl
later-fine pid k (Some given) (CloseForward id what) = maybe-fine (house_answer false id given)
later-fine pid k given c = refl

unread-fine : (fault : BadControl) → is_refusal (later_unread fault).ends ≡ false
unread-fine (bad.Unknown kind (Some id)) = refl
unread-fine (bad.Unknown kind None) = refl
unread-fine fault = refl

hello-fine : (b : Bool) (version : ℕ) → is_refusal (elim b as (λ _. Outcome) [ true ↦ silent | false ↦ drops (why.Version version) ]).ends ≡ false
hello-fine true version = refl
hello-fine false version = refl

first-fine : (r : Result Control BadControl) → is_refusal (sent_first r).ends ≡ false
first-fine (Ok (Hello version extensions)) = hello-fine (version == VERSION) version
first-fine (Ok c) = refl
first-fine (Err (bad.Unknown kind id)) = refl
first-fine (Err fault) = refl

body-fine : (pid k : ℕ) (given : Option HouseReply) (b : Bool) (r : Result Control BadControl) → is_refusal (elim b as (λ _. Outcome) [ true ↦ sent_later pid k given r | false ↦ sent_first r ]).ends ≡ false
body-fine pid k given true (Ok c) = later-fine pid k given c
body-fine pid k given true (Err fault) = unread-fine fault
body-fine pid k given false r = first-fine r

-- ---- the log's rows

pub said-own : (policy : Policy) (pid : ℕ) (picks : List ℕ) (given : List HouseReply) (k : ℕ) (x : Outgoing) (rows : List Row) → IsOwn k (next_row (by_lists policy pid picks given) rows (sent_item k x))
said-own policy pid picks given k (Payload p) rows =
    own-row-of (Says k (Payload p) None) k (sent_payload policy k (rows_of k rows) (pick_of (FromLists picks given) rows (Says k (Payload p) None)) p) (rows_of k rows) refl
    (said-unrefused policy k (rows_of k rows) (pick_of (FromLists picks given) rows (Says k (Payload p) None)) p)
said-own policy pid picks given k (BadFraming fault) rows = own-row-of (Says k (BadFraming fault) None) k (drops (why.BadFrame fault)) (rows_of k rows) refl refl
said-own policy pid picks given k (Body body) rows = by_ask (client_has_greeted (rows_of k rows) && body_asks body)
  where
    own : List Row
    own = rows_of k rows

    pick : ℕ
    pick = pick_of (FromLists picks given) rows (Says k (Body body) None)

    by_ask : (b : Bool) → IsOwn k (treat policy pid pick rows (elim b as (λ _. Item) [ true ↦ Says k (Body body) (Some (reply_at given (replies_given rows))) | false ↦ Says k (Body body) None ]))
    by_ask true = own-row-of (Says k (Body body) (Some (reply_at given (replies_given rows)))) k (sent_body pid k (Some (reply_at given (replies_given rows))) (client_has_greeted own) body) own refl
        (body-fine pid k (Some (reply_at given (replies_given rows))) (client_has_greeted own) (read_control body))
    by_ask false = own-row-of (Says k (Body body) None) k (sent_body pid k None (client_has_greeted own) body) own refl (body-fine pid k None (client_has_greeted own) (read_control body))

pub gone-own : (policy : Policy) (pid : ℕ) (picks : List ℕ) (given : List HouseReply) (k : ℕ) (rows : List Row) → IsOwn k (next_row (by_lists policy pid picks given) rows (Gone k))
gone-own policy pid picks given k rows = own-row-of (Gone k) k silent (rows_of k rows) refl refl

-- ---- they concern it alone

adds-row : (k : ℕ) (row : Row) (rows : List Row) → IsOwn k row → AddsFor k rows (row ∷ rows)
adds-row k row rows o =
    let mine : rows_of k (row ∷ rows) ≡ row ∷ rows_of k rows = own_row k row rows o.client_is in
    record {
      others = λ j ne. idle_row j row rows (ap (λ i. i == j) o.client_is ∙ differs k j ne);
      admitted = ap (any_of is_admit) mine ∙ ap (λ b. b || any_of is_admit (rows_of k rows)) o.unadmitted;
      unrefused = ap (any_of (λ (r : Row). is_refusal r.fate)) mine ∙ ap (λ b. b || any_of (λ (r : Row). is_refusal r.fate) (rows_of k rows)) o.unrefused;
      lost = λ l. or-first (loses row) (is_lost (rows_of k rows)) (sym (ap is_lost mine) ∙ l);
    }

adds-none : (k : ℕ) (rows : List Row) → AddsFor k rows rows
adds-none k rows = record { others = λ j ne. refl; admitted = refl; unrefused = refl; lost = λ l. l }

adds-then : (k : ℕ) (a b c : List Row) → AddsFor k a b → AddsFor k b c → AddsFor k a c
adds-then k a b c x y = record {
  others = λ j ne. y.others j ne ∙ x.others j ne;
  admitted = y.admitted ∙ x.admitted;
  unrefused = y.unrefused ∙ x.unrefused;
  lost = λ l. x.lost (y.lost l);
}

adds-more : (policy : Policy) (pid : ℕ) (picks : List ℕ) (given : List HouseReply) (k : ℕ) (x : Outgoing) (rows : List Row) → AddsFor k rows (more_of (by_lists policy pid picks given) rows (sent_item k x))
adds-more policy pid picks given k x rows = by_makes (makes_next rows (sent_item k x))
  where
    row : Row
    row = next_row (by_lists policy pid picks given) rows (sent_item k x)

    by_makes : (b : Bool) → AddsFor k rows (elim b as (λ _. List Row) [ false ↦ rows | true ↦ row ∷ rows ])
    by_makes true = adds-row k row rows (said-own policy pid picks given k x rows)
    by_makes false = adds-none k rows

pub said-adds : (policy : Policy) (pid : ℕ) (picks : List ℕ) (given : List HouseReply) (k : ℕ) (xs : List Outgoing) (rows : List Row) → AddsFor k rows (rows_sent policy pid picks given k rows xs)
said-adds policy pid picks given k [] rows = adds-none k rows
said-adds policy pid picks given k (x ∷ xs) rows =
    let next : List Row = more_of (by_lists policy pid picks given) rows (sent_item k x) in
    adds-then k rows next (rows_sent policy pid picks given k next xs) (adds-more policy pid picks given k x rows) (said-adds policy pid picks given k xs next)

-- and of a reply of the forwarder
pub house-own : (k id : ℕ) (given : HouseReply) (row : Row) → row.item ≡ HouseSays k id given → row.client ≡ k → is_refusal row.fate ≡ false → IsOwn k row
house-own k id given row item client fine = record {
  client_is = client;
  unadmitted = ap (λ (i : Item). elim row.fate as (λ _. Bool) [ Refused ↦ false | _ ↦ elim i as (λ _. Bool) [ Admit k ↦ true | _ ↦ false ] ]) item ∙ admit-by row.fate (HouseSays k id given) refl;
  unrefused = fine;
}

pub house-adds : (k id : ℕ) (given : HouseReply) (row : Row) (rows : List Row) → row.item ≡ HouseSays k id given → row.client ≡ k → is_refusal row.fate ≡ false → AddsFor k rows (row ∷ rows)
house-adds k id given row rows item client fine = adds-row k row rows (house-own k id given row item client fine)

pub losses-add-for-one : LossesAddForOne
losses-add-for-one policy pid picks given k rows = adds-row k (next_row (by_lists policy pid picks given) rows (Gone k)) rows (gone-own policy pid picks given k rows)
