-- How a client stands after its rows, and whose rows they are.
use Rattle.std.proofs.Common.{◌≡◌, ℕ, Bool, true, false, ◌||◌, List, [], ◌∷◌, Some, None, refl, sym, ap, ◌∙◌}
use Rattle.std.specs.Prelude.{◌==◌}
use Rattle.std.proofs.lemmas.Bool.{eq-eqb}
use Rattle.ssh_grammar.specs.Said.{Outgoing, Body, Payload, BadFraming, Mode, InControl, InProxy, Stopped, after_body}
use Rattle.mux_history.specs.Rows.{Row, rows_of, loses, is_lost, is_out, is_refusal, Item, Says, Gone, Fate, Goes, Refused, Drop, End}
use Rattle.mux_peers.specs.declared.standing.Standing.{Standing}
use Rattle.mux_peers.specs.declared.standing.Standing.TheVariants.{Awaited, Greeted, Proxied, Unread, Lost}
use Rattle.mux_peers.specs.Stands as stands
use Rattle.mux_peers.specs.Stands.{is_greeted, keep_lost, standing_in, stands_by, standing_by, standing_of}

pub own_row : (k : ℕ) (row : Row) (rows : List Row) → row.client ≡ k → rows_of k (row ∷ rows) ≡ row ∷ rows_of k rows
own_row k row rows e = let t : (row.client == k) ≡ true = eq-eqb row.client k e in rw t refl

lost_kept : (s next : Standing) → stands.is_standing_lost next ≡ false → stands.is_standing_lost (keep_lost s next) ≡ stands.is_standing_lost s
lost_kept Awaited next e = e
lost_kept Greeted next e = e
lost_kept Proxied next e = e
lost_kept Unread next e = e
lost_kept (Lost why) next e = refl

read_by : (m : Mode) → (stands.is_standing_lost (standing_in m) ≡ false) × (is_greeted (standing_in m) ≡ true)
read_by InControl = (refl, refl)
read_by InProxy = (refl, refl)
read_by Stopped = (refl, refl)

-- what is sent leaves no client lost, and each one greeted
pub stands_here : (x : Outgoing) → stands.is_standing_lost (stands_by x) ≡ false
stands_here (Body body) = (read_by (after_body body)).0
stands_here (Payload p) = refl
stands_here (BadFraming f) = refl

pub stands_greeted : (x : Outgoing) → is_greeted (stands_by x) ≡ true
stands_greeted (Body body) = (read_by (after_body body)).1
stands_greeted (Payload p) = refl
stands_greeted (BadFraming f) = refl

-- how a row leaves its client
abbrev pub standing_step : Fate → Item → Standing → Standing
standing_step (Drop cause) item s = Lost (Some cause)
standing_step Refused item s = Lost None
standing_step Goes item s = standing_by item s
standing_step (End cause) item s = keep_lost s Unread

step_at : (f : Fate) (row : Row) (own : List Row) → row.fate ≡ f → standing_of (row ∷ own) ≡ standing_step f row.item (standing_of own)
step_at f row own e = ap (λ (f : Fate). elim f as (λ _. Standing) [ Drop cause ↦ Lost (Some cause) | Refused ↦ Lost None | Goes ↦ standing_by row.item (standing_of own) | End cause ↦ keep_lost (standing_of own) Unread ]) e ∙ by_fate f
  where
    by_fate : (f : Fate) → (elim f as (λ _. Standing) [ Drop cause ↦ Lost (Some cause) | Refused ↦ Lost None | Goes ↦ standing_by row.item (standing_of own) | End cause ↦ keep_lost (standing_of own) Unread ]) ≡ standing_step f row.item (standing_of own)
    by_fate Goes = refl
    by_fate Refused = refl
    by_fate (Drop cause) = refl
    by_fate (End cause) = refl

pub standing_row : (item : Item) (f : Fate) (row : Row) (own : List Row) → row.item ≡ item → row.fate ≡ f → standing_of (row ∷ own) ≡ standing_step f item (standing_of own)
standing_row item f row own i e = step_at f row own e ∙ ap (λ x. standing_step f x (standing_of own)) i

pub kept_here : (s next : Standing) → stands.is_standing_lost s ≡ false → keep_lost s next ≡ next
kept_here Awaited next l = refl
kept_here Greeted next l = refl
kept_here Proxied next l = refl
kept_here Unread next l = refl
kept_here (Lost why) next l = absurd (cc)

-- whether a row puts its client out
abbrev pub puts_out : Fate → Item → Bool
puts_out (Drop cause) item = true
puts_out Refused item = true
puts_out Goes (Gone k) = true
puts_out Goes item = false
puts_out (End cause) item = false

puts_at : (f : Fate) (item : Item) (row : Row) → row.fate ≡ f → row.item ≡ item → (loses row || is_refusal row.fate) ≡ puts_out f item
puts_at (Drop cause) item row e i = rw e refl
puts_at Refused item row e i = rw e refl
puts_at (End cause) item row e i = rw e refl
puts_at Goes (Gone k) row e i = rw (e, i) refl
puts_at Goes item row e i = rw (e, i) refl

pub out_row : (item : Item) (f : Fate) (row : Row) (own : List Row) → row.item ≡ item → row.fate ≡ f → is_out (row ∷ own) ≡ (puts_out f item || is_out own)
out_row item f row own i e = ap (λ b. b || is_out own) (puts_at f item row e i)

out_step : (f : Fate) (item : Item) (s : Standing) (out : Bool) → out ≡ stands.is_standing_lost s → (puts_out f item || out) ≡ stands.is_standing_lost (standing_step f item s)
out_step (Drop cause) item s out e = refl
out_step Refused item s out e = refl
out_step (End cause) item s out e = e ∙ sym (lost_kept s Unread refl)
out_step Goes (Gone k) s out e = refl
out_step Goes (Says k x given) s out e = e ∙ sym (lost_kept s (stands_by x) (stands_here x))
out_step Goes item s out e = e

-- a client is out exactly where it stands as lost
pub out_is : (own : List Row) → is_out own ≡ stands.is_standing_lost (standing_of own)
out_is [] = refl
out_is (row ∷ own) = out_row row.item row.fate row own refl refl ∙ (out_step row.fate row.item (standing_of own) (is_out own) (out_is own) ∙ ap stands.is_standing_lost (sym (standing_row row.item row.fate row own refl refl)))

or_left : (a b c : Bool) → ((a || b) || c) ≡ false → (a ≡ false) × (c ≡ false)
or_left true b c e = absurd (cc)
or_left false true c e = absurd (cc)
or_left false false c e = (refl, e)

-- one that isn't out was not lost
pub not_lost : (own : List Row) → is_out own ≡ false → is_lost own ≡ false
not_lost [] e = refl
not_lost (row ∷ own) e = let q = or_left (loses row) (is_refusal row.fate) (is_out own) e in ap (λ b. b || is_lost own) q.0 ∙ not_lost own q.1

pub or_true : (a : Bool) → (a || true) ≡ true
or_true true = refl
or_true false = refl
