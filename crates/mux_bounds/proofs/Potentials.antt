-- What waits for the server, with what its clients can still cost, grows by no more than what is
-- read.
use Rattle.std.proofs.Common.{◌≡◌, ℕ, ◌+◌, ◌*◌, ◌≤◌, List, [], ◌∷◌, ◌++◌, map, length, drop, false, refl, ◌∙◌, ap, arith, sym, subst, Option, None}
use Rattle.std.proofs.lemmas.List.{append-nil}
use Rattle.mux_outside.specs.declared.house.HouseReply.{HouseReply}
use Rattle.ssh_grammar.specs.Said.{BadFraming, Body, Payload, Outgoing}
use Rattle.mux_history.specs.Choices.{pick_of, with_reply}
use Rattle.mux_history.specs.Journal.{received_item, sent_item}
use Rattle.mux_history.specs.Kept.{ForEach}
use Rattle.mux_history.specs.Log.{more_all, more_of}
use Rattle.mux_history.specs.Pending.{pending_up}
use Rattle.mux_history.specs.Policy.{Policy}
use Rattle.mux_history.specs.Requests.{wanted_requests, asks_of, is_sent, replies, reply_in, wanted_by}
use Rattle.mux_history.specs.Rows.{Admit, BadServer, Gone, Heard, HouseSays, Item, Row, RunEnd, Says, ServerCut, ServerEnd, ServerFailed, Took}
use Rattle.mux_history.specs.Steps.{one_if}
use Rattle.mux_history.proofs.LawfulItems.{treat-item}
use Rattle.mux_history.proofs.MattersSteps.{admits_one}
use Rattle.mux_history.proofs.RightLogs.{RowKnown}
use Rattle.mux_bounds.proofs.AddsLittle.{grows-by}
use Rattle.mux_bounds.proofs.Covers.{forwards_in}
use Rattle.mux_bounds.proofs.Entries.{EachItem, by-more, lists, next, setting, tails, with-reply}
use Rattle.mux_bounds.proofs.Farewells.{leaves-little}
use Rattle.mux_bounds.proofs.Knowns.{LetFirst}
use Rattle.mux_bounds.proofs.Lengths.{NoBodies, payloads_bytes}
use Rattle.mux_bounds.proofs.LiveSteps.{live-step}
use Rattle.mux_bounds.proofs.Owed.{asks-none}
use Rattle.mux_bounds.proofs.OwedSteps.{heard-step}
use Rattle.mux_bounds.proofs.Totals.{live, owed}
use Rattle.mux_bounds.proofs.Ups.{brought, row-brings}
use Rattle.mux_bounds.proofs.Weights.{weight-append}

-- what waits, and a farewell for each client that can be lost
abbrev pub with_live : List Row → ℕ
with_live rows = length (pending_up rows) + 28928 * live rows

-- and a cancel for each request that can be answered late
abbrev pub with_owed : List Row → ℕ
with_owed rows = with_live rows + 308 * owed rows

-- what an item adds to the first
abbrev pub live_cost : Item → ℕ
live_cost item = brought item + 28928 * one_if (admits_one item)

-- what an item that is no client's word adds to the second
abbrev pub owed_cost : Item → ℕ
owed_cost (Heard p) = 3 * (length p + 5)
owed_cost item = 0

abbrev pub IsMute : Item → Type 0
IsMute (Admit k) = ⊥
IsMute (Says k outgoing given) = ⊥
IsMute item = Unit {0}

pub record Facts (policy : Policy) (pid : ℕ) (rows : List Row) : Type 0 where
  pub known : ForEach (RowKnown policy pid) rows
  pub first : ForEach LetFirst rows

pub facts-back : (policy : Policy) (pid : ℕ) (row : Row) (rows : List Row) → Facts policy pid (row ∷ rows) → Facts policy pid rows
facts-back policy pid row rows facts = record { known = facts.known.1; first = facts.first.1 }

-- ---- one row

live-row : (policy : Policy) (pid : ℕ) (before : List Row) (row : Row) → Facts policy pid (row ∷ before) → with_live (row ∷ before) ≤ with_live before + live_cost row.item
live-row policy pid before row facts =
    let g = grows-by row before in
    let w = weight-append row.up row.farewell in
    let b = row-brings policy pid before row facts.known.0 facts.known.1 in
    let l = live-step policy pid before row facts.known.0 facts.known.1 facts.first (leaves-little policy pid (row ∷ before) facts.known).0 in
    omega (arith, g, w, b, l)

-- a row that neither asks nor replies
owed-still : (row : Row) (before : List Row) → reply_in row.item ≡ [] → wanted_by row ≡ None → owed (row ∷ before) ≡ owed before
owed-still row before reply wants = ap forwards_in (
    ap (λ r. drop (length (replies before ++ r)) (wanted_requests before ++ asks_of row.client (is_sent row) (wanted_by row))) reply
    ∙ (ap (λ (rs : List (List ℕ)). drop (length rs) (wanted_requests before ++ asks_of row.client (is_sent row) (wanted_by row))) (append-nil (replies before))
    ∙ ap (drop (length (replies before))) (ap (λ o. wanted_requests before ++ asks_of row.client (is_sent row) o) wants ∙ (ap (λ xs. wanted_requests before ++ xs) (asks-none row.client (is_sent row)) ∙ append-nil (wanted_requests before)))))

owed-row : (policy : Policy) (pid : ℕ) (before : List Row) (row : Row) → Facts policy pid (row ∷ before) → IsMute row.item → with_owed (row ∷ before) ≤ with_owed before + owed_cost row.item
owed-row policy pid before row facts mute = by_item row.item refl mute
  where
    still : (i : Item) → row.item ≡ i → brought i ≡ 0 → admits_one i ≡ false → reply_in i ≡ [] → wanted_by (record row { item = i }) ≡ None → with_owed (row ∷ before) ≤ with_owed before
    still i e none plain reply wants =
        let l = live-row policy pid before row facts in
        let a = ap brought e ∙ none in
        let b = ap (λ (x : Item). one_if (admits_one x)) e ∙ ap one_if plain in
        let o = owed-still row before (ap reply_in e ∙ reply) (ap (λ (x : Item). wanted_by (record row { item = x })) e ∙ wants) in
        omega (arith, l, a, b, o)

    by_item : (i : Item) → row.item ≡ i → IsMute i → with_owed (row ∷ before) ≤ with_owed before + owed_cost i
    by_item (Admit k) e m = absurd m
    by_item (Says k outgoing given) e m = absurd m
    by_item (Heard p) e m =
        let g = grows-by row before in
        let w = weight-append row.up row.farewell in
        let h = heard-step policy pid before row p facts.known.0 facts.known.1 e in
        let l = live-step policy pid before row facts.known.0 facts.known.1 facts.first (leaves-little policy pid (row ∷ before) facts.known).0 in
        let b = ap (λ (x : Item). one_if (admits_one x)) e in
        omega (arith, g, w, h, l, b)
    by_item (HouseSays k id answer) e m = let s = still (HouseSays k id answer) e refl refl refl refl in omega (arith, s)
    by_item (Gone k) e m = let s = still (Gone k) e refl refl refl refl in omega (arith, s)
    by_item (BadServer fault) e m = let s = still (BadServer fault) e refl refl refl refl in omega (arith, s)
    by_item ServerEnd e m = let s = still ServerEnd e refl refl refl refl in omega (arith, s)
    by_item (ServerCut left) e m = let s = still (ServerCut left) e refl refl refl refl in omega (arith, s)
    by_item ServerFailed e m = let s = still ServerFailed e refl refl refl refl in omega (arith, s)
    by_item (Took stream size) e m = let s = still (Took stream size) e refl refl refl refl in omega (arith, s)
    by_item (RunEnd cause) e m = let s = still (RunEnd cause) e refl refl refl refl in omega (arith, s)

-- ---- the rows of some items

abbrev pub total : (Item → ℕ) → List Item → ℕ
total cost [] = 0
total cost (item ∷ xs) = cost item + total cost xs

module _ (policy : Policy) (pid : ℕ) (picks : List ℕ) (given : List HouseReply) where
  grows : (measure : List Row → ℕ) (cost : Item → ℕ) (Fine : Item → Type 0)
      → ((before : List Row) (row : Row) → Facts policy pid (row ∷ before) → Fine row.item → measure (row ∷ before) ≤ measure before + cost row.item)
      → ((k : ℕ) (body : List ℕ) (a b : Option HouseReply) → cost (Says k (Body body) a) ≡ cost (Says k (Body body) b))
      → ((k : ℕ) (body : List ℕ) (a b : Option HouseReply) → Fine (Says k (Body body) a) → Fine (Says k (Body body) b))
      → (rows : List Row) (xs : List Item) → EachItem Fine xs → Facts policy pid (more_all (setting policy pid picks given) rows xs) → measure (more_all (setting policy pid picks given) rows xs) ≤ measure rows + total cost xs
  grows measure cost Fine step alike fine rows [] all facts = omega arith
  grows measure cost Fine step alike fine rows (item ∷ xs) all facts =
      let later = grows measure cost Fine step alike fine (more_of (setting policy pid picks given) rows item) xs all.1 facts in
      let now : Facts policy pid (more_of (setting policy pid picks given) rows item) = tails policy pid picks given (Facts policy pid) (facts-back policy pid) (more_of (setting policy pid picks given) rows item) xs facts in
      let one : measure (more_of (setting policy pid picks given) rows item) ≤ measure rows + cost item = by-more policy pid picks given (λ rs. Facts policy pid rs → measure rs ≤ measure rows + cost item) rows item (λ e f. omega arith) (λ e f. this f) now in
      omega (arith, later, one)
    where
      is_item : (next policy pid picks given rows item).item ≡ with_reply (lists policy pid picks given) rows item
      is_item = treat-item policy pid (pick_of (lists policy pid picks given) rows item) rows (with_reply (lists policy pid picks given) rows item)

      same : cost (next policy pid picks given rows item).item ≡ cost item
      same = ap cost is_item ∙ with-reply policy pid picks given (λ i. cost i ≡ cost item) (λ k body a b h. alike k body b a ∙ h) rows item refl

      may : Fine (next policy pid picks given rows item).item
      may = subst Fine (sym is_item) (with-reply policy pid picks given Fine fine rows item all.0)

      this : Facts policy pid (next policy pid picks given rows item ∷ rows) → measure (next policy pid picks given rows item ∷ rows) ≤ measure rows + cost item
      this f = let s = step rows (next policy pid picks given rows item) f may in let c = same in omega (arith, s, c)

  pub live-grows : (rows : List Row) (xs : List Item) → Facts policy pid (more_all (setting policy pid picks given) rows xs) → with_live (more_all (setting policy pid picks given) rows xs) ≤ with_live rows + total live_cost xs
  live-grows rows xs facts = grows with_live live_cost (λ i. Unit {0}) (λ before row f m. live-row policy pid before row f) (λ k body a b. refl) (λ k body a b h. tt) rows xs (each xs) facts
    where
      each : (ys : List Item) → EachItem (λ i. Unit {0}) ys
      each [] = tt
      each (y ∷ ys) = (tt, each ys)

  pub owed-grows : (rows : List Row) (xs : List Item) → EachItem IsMute xs → Facts policy pid (more_all (setting policy pid picks given) rows xs) → with_owed (more_all (setting policy pid picks given) rows xs) ≤ with_owed rows + total owed_cost xs
  owed-grows rows xs mute facts = grows with_owed owed_cost IsMute (λ before row f m. owed-row policy pid before row f m) (λ k body a b. refl) (λ k body a b h. h) rows xs mute facts

-- ---- what the items of a piece cost

pub said-cost : (k : ℕ) (ss : List Outgoing) → total live_cost (map (sent_item k) ss) ≡ payloads_bytes ss
said-cost k [] = refl
said-cost k (Payload p ∷ ss) = let e = said-cost k ss in omega arith
said-cost k (Body body ∷ ss) = let e = said-cost k ss in omega arith
said-cost k (BadFraming fault ∷ ss) = let e = said-cost k ss in omega arith

pub heard-cost : (ss : List Outgoing) → NoBodies ss → total owed_cost (map received_item ss) ≡ 3 * payloads_bytes ss
heard-cost [] none = refl
heard-cost (Payload p ∷ ss) none = let e = heard-cost ss none.1 in omega arith
heard-cost (Body body ∷ ss) none = absurd none.0
heard-cost (BadFraming fault ∷ ss) none = let e = heard-cost ss none.1 in omega arith

pub heard-mute : (ss : List Outgoing) → EachItem IsMute (map received_item ss)
heard-mute [] = tt
heard-mute (Payload p ∷ ss) = (tt, heard-mute ss)
heard-mute (Body body ∷ ss) = (tt, heard-mute ss)
heard-mute (BadFraming fault ∷ ss) = (tt, heard-mute ss)
