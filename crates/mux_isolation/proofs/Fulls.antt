-- What the server sends drops a client only where its queue is full.
use Rattle.std.proofs.Common.{◌≡◌, ℕ, ◌+◌, ◌<◌, List, [], ◌∷◌, length, true, false, Bool, refl, ◌∙◌, ap, arith, sym, Option, Some, None, subst, Ok, Err, length-append}
use Rattle.std.specs.Prelude.{Result, nat_lt, nat_le, codes}
use Rattle.std.proofs.lemmas.Bool.Decides.{nat_tests}
use Rattle.mux_history.specs.Channels.{held_of}
use Rattle.mux_history.specs.Farewell.{farewell}
use Rattle.mux_history.specs.Summary.{Summary, Open, Requests, read_summary}
use Rattle.mux_history.specs.Heard.{Breaks, Dest, Disconnects, ToClient, ToMaster, dest, for_client, for_lost, for_master, received_for, received_summary, received_master}
use Rattle.mux_history.specs.Kept.{DropsIfFull, GoesUnlessFull}
use Rattle.mux_history.specs.Log.{all_recorded, bare_row, fate_with, frames_that_fit, received_row, overflow, queued, row_of, treat}
use Rattle.mux_history.specs.Pending.{joined, waiting_down}
use Rattle.mux_history.specs.Policy.{Policy}
use Rattle.mux_history.specs.Rows.{Fate, Goes, Heard, Item, Row, is_lost, loses, rows_of}
use Rattle.mux_history.specs.Said.{Outcome, sends_payload, silent, records}
use Rattle.ssh_grammar.specs.Frames.{frame_payload}
use Rattle.ssh_grammar.specs.SpellMessage.{open_failure}
use Rattle.ssh_grammar.specs.declared.fault.Bad.{Bad}
use Rattle.mux_history.specs.declared.why.Why.{Why}
use Rattle.mux_history.specs.declared.why.Why.TheVariants as why
use Rattle.mux_history.proofs.LawfulItems.{treat-item}
use Rattle.mux_history.proofs.Sends.{as_row}

-- a row of a client, from its parts
pub row-whole : (P : Row → Type 0) (item : Item) (k : ℕ) (o : Outcome) (own : List Row) → ((fw : List (List ℕ)) → P (as_row item k o.sent fw (frames_that_fit (waiting_down own) (all_recorded (bare_row item k o) own)) (fate_with o.ends (overflow (waiting_down own) (all_recorded (bare_row item k o) own))))) → P (row_of item k o own)
row-whole P item k o own each = by_case (loses (queued (all_recorded (bare_row item k o) own) (bare_row item k o) own))
  where
    by_case : (b : Bool) → P (elim b as (λ _. Row) [ true ↦ record (queued (all_recorded (bare_row item k o) own) (bare_row item k o) own) { farewell = farewell (queued (all_recorded (bare_row item k o) own) (bare_row item k o) own) own } | false ↦ queued (all_recorded (bare_row item k o) own) (bare_row item k o) own ])
    by_case true = each (farewell (queued (all_recorded (bare_row item k o) own) (bare_row item k o) own) own)
    by_case false = each []

-- ---- frames that fit, and the first that does not

-- where no frame is left out, all are recorded
pub all-fit : (n : ℕ) (fs : List (List ℕ)) → overflow n fs ≡ None → frames_that_fit n fs ≡ fs
all-fit n [] none = refl
all-fit n (f ∷ fs) none = by_case (nat_le (n + length f) 33554432) refl none (λ h. all-fit (n + length f) fs h)
  where
    by_case : (b : Bool) → nat_le (n + length f) 33554432 ≡ b → (elim b as (λ _. Option Why) [ true ↦ overflow (n + length f) fs | false ↦ Some (why.QueueFull n (length f)) ]) ≡ None → (overflow (n + length f) fs ≡ None → frames_that_fit (n + length f) fs ≡ fs) → (elim b as (λ _. List (List ℕ)) [ true ↦ f ∷ frames_that_fit (n + length f) fs | false ↦ [] ]) ≡ f ∷ fs
    by_case true e none ih = ap (λ xs. f ∷ xs) (ih none)
    by_case false e none ih = cc

pub no-overflow : (o : Option Why) → fate_with Goes o ≡ Goes → o ≡ None
no-overflow None e = refl
no-overflow (Some why) e = cc

-- with one more frame before them
one-before : (n : ℕ) (f : List ℕ) (recorded : List (List ℕ)) (o : Option Why) → GoesUnlessFull (n + length f) recorded (fate_with Goes o) → GoesUnlessFull n (f ∷ recorded) (fate_with Goes o)
one-before n f recorded None full = tt
one-before n f recorded (Some (why.QueueFull have want)) full = let both = length-append f (joined recorded) in (omega arith, full.1)
one-before n f recorded (Some cause) full = full

past : (n : ℕ) → nat_le n 33554432 ≡ false → 33554432 < n
past n e = grind (arith, nat_tests)

-- the first frame that does not fit would pass the bound
full-of : (n : ℕ) (fs : List (List ℕ)) → GoesUnlessFull n (frames_that_fit n fs) (fate_with Goes (overflow n fs))
full-of n [] = tt
full-of n (f ∷ fs) = by_case (nat_le (n + length f) 33554432) refl (full-of (n + length f) fs)
  where
    by_case : (b : Bool) → nat_le (n + length f) 33554432 ≡ b → GoesUnlessFull (n + length f) (frames_that_fit (n + length f) fs) (fate_with Goes (overflow (n + length f) fs)) → GoesUnlessFull n (elim b as (λ _. List (List ℕ)) [ true ↦ f ∷ frames_that_fit (n + length f) fs | false ↦ [] ]) (fate_with Goes (elim b as (λ _. Option Why) [ true ↦ overflow (n + length f) fs | false ↦ Some (why.QueueFull n (length f)) ]))
    by_case true e ih = one-before n f (frames_that_fit (n + length f) fs) (overflow (n + length f) fs) ih
    by_case false e ih = (omega arith, past (n + length f) e)

-- ---- what the server sends drops no other client

pub heard-goes : (own : List Row) (p : List ℕ) → (received_for own p).ends ≡ Goes
heard-goes own p = by_case (read_summary p)
  where
    by_message : (m : Summary) → (for_client own p m).ends ≡ Goes
    by_message (Open what s w max) = elim (nat_lt (length (held_of own)) 256) as (λ b. (elim b as (λ _. Outcome) [ true ↦ records (frame_payload p) | false ↦ sends_payload (open_failure s 4 (codes "too many channels")) ]).ends ≡ Goes) [ true ↦ refl | false ↦ refl ]
    by_message m = refl

    by_lost : (m : Summary) (b : Bool) → (elim b as (λ _. Outcome) [ true ↦ for_lost own m | false ↦ for_client own p m ]).ends ≡ Goes
    by_lost m true = refl
    by_lost m false = by_message m

    by_case : (r : Result Summary Bad) → (elim r as (λ _. Outcome) [ Err bad ↦ silent | Ok m ↦ received_summary own p m ]).ends ≡ Goes
    by_case (Err bad) = refl
    by_case (Ok m) = by_lost m (is_lost own)

master-goes : (p : List ℕ) → (received_master p).ends ≡ Goes
master-goes p = by_case (read_summary p)
  where
    by_message : (m : Summary) → (for_master m).ends ≡ Goes
    by_message (Requests what true) = refl
    by_message (Requests what false) = refl
    by_message m = refl

    by_case : (r : Result Summary Bad) → (elim r as (λ _. Outcome) [ Err bad ↦ silent | Ok m ↦ for_master m ]).ends ≡ Goes
    by_case (Err bad) = refl
    by_case (Ok m) = by_message m

abbrev FullOnly : List Row → Row → Type 0
FullOnly before row = GoesUnlessFull (waiting_down (rows_of row.client before)) row.down row.fate

heard-full : (before : List Row) (p : List ℕ) (d : Dest) → FullOnly before (received_row before p d)
heard-full before p ToMaster = subst (GoesUnlessFull (waiting_down (rows_of 0 before)) (received_master p).recorded) (sym (master-goes p)) tt
heard-full before p (ToClient k) = row-whole (FullOnly before) (Heard p) k (received_for (rows_of k before) p) (rows_of k before) (λ fw. by_ends (all_recorded (bare_row (Heard p) k (received_for (rows_of k before) p)) (rows_of k before)) (received_for (rows_of k before) p).ends (heard-goes (rows_of k before) p))
  where
    by_ends : (fs : List (List ℕ)) (fate : Fate) → fate ≡ Goes → GoesUnlessFull (waiting_down (rows_of k before)) (frames_that_fit (waiting_down (rows_of k before)) fs) (fate_with fate (overflow (waiting_down (rows_of k before)) fs))
    by_ends fs fate e = subst (λ (f : Fate). GoesUnlessFull (waiting_down (rows_of k before)) (frames_that_fit (waiting_down (rows_of k before)) fs) (fate_with f (overflow (waiting_down (rows_of k before)) fs))) (sym e) (full-of (waiting_down (rows_of k before)) fs)
heard-full before p Disconnects = tt
heard-full before p (Breaks cause) = tt

pub drops-if-full : (policy : Policy) (pid pick : ℕ) (before : List Row) (item : Item) → DropsIfFull before (treat policy pid pick before item)
drops-if-full policy pid pick before item p is = by_item item (sym (treat-item policy pid pick before item) ∙ is)
  where
    by_item : (i : Item) → i ≡ Heard p → FullOnly before (treat policy pid pick before i)
    by_item (Heard q) e = heard-full before q (dest before q)
    by_item i e = absurd (let h = e in cc)
