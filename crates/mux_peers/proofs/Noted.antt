-- Who is noted as lost by what the server sends.
use Rattle.std.proofs.Common.{◌≡◌, ℕ, Bool, true, false, List, [], ◌∷◌, Option, Some, None, refl, sym, ap, ◌∙◌, cond}
use Rattle.std.specs.Prelude.{◌==◌, MatchBool}
use Rattle.mux_history.specs.declared.why.Why.{Why}
use Rattle.mux_history.specs.Rows.{Row, loss_by, Heard, Fate, Goes, Refused, Drop, End}
use Rattle.mux_history.proofs.Bools.{same-number}
use Rattle.mux_peers.specs.declared.standing.Standing.{Standing}
use Rattle.mux_peers.specs.declared.standing.Standing.TheVariants.{Awaited, Greeted, Proxied, Unread, Lost}
use Rattle.mux_peers.specs.State.{ClientState}
use Rattle.mux_peers.specs.Stands.{PeerFits, standing_of}
use Rattle.mux_peers.specs.Stands as stands
use Rattle.mux_peers.specs.Among.{ChangesOne, EachFits, InFits, is_present}
use Rattle.mux_peers.specs.Losing.{loss_between, loss_in}
use Rattle.mux_peers.proofs.Stood.{kept_here, standing_row, standing_step}

-- ---- the loss by a row of the server's

abbrev loss_received : Fate → ℕ → List (ℕ × Option Why)
loss_received (Drop cause) k = (k, Some cause) ∷ []
loss_received Refused k = (k, None) ∷ []
loss_received Goes k = []
loss_received (End cause) k = []

loss-row : (f : Fate) (p : List ℕ) (row : Row) → row.fate ≡ f → row.item ≡ Heard p → loss_by row ≡ loss_received f row.client
loss-row (Drop cause) p row e i = rw e refl
loss-row Refused p row e i = rw e refl
loss-row (End cause) p row e i = rw e refl
loss-row Goes p row e i = rw (e, i) refl

none-lost : (s : Standing) (k : ℕ) → stands.is_standing_lost s ≡ false → loss_in s k ≡ []
none-lost Awaited k e = refl
none-lost Greeted k e = refl
none-lost Proxied k e = refl
none-lost Unread k e = refl
none-lost (Lost why) k e = absurd (cc)

loss-stands : (f : Fate) (p : List ℕ) (s : Standing) (k : ℕ) → stands.is_standing_lost s ≡ false → loss_received f k ≡ loss_in (standing_step f (Heard p) s) k
loss-stands (Drop cause) p s k e = refl
loss-stands Refused p s k e = refl
loss-stands Goes p s k e = sym (none-lost s k e)
loss-stands (End cause) p s k e = sym (ap (λ (t : Standing). loss_in t k) (kept_here s Unread e))

-- of a client that stood before and after it
pub loss-shown : (p : List ℕ) (row : Row) (own : List Row) (s s' : Standing) → row.item ≡ Heard p → stands.is_standing_lost s ≡ false → s ≡ standing_of own → s' ≡ standing_of (row ∷ own) → loss_by row ≡ loss_between s s' row.client
loss-shown p row own s s' item here before after =
    let then : s' ≡ standing_step row.fate (Heard p) s = after ∙ (standing_row (Heard p) row.fate row own item refl ∙ ap (standing_step row.fate (Heard p)) (sym before)) in
    loss-row row.fate p row refl item
    ∙ (loss-stands row.fate p s row.client here
    ∙ (ap (λ (t : Standing). loss_in t row.client) (sym then) ∙ sym (ap (λ b. cond b [] (loss_in s' row.client)) here)))

-- ---- from one among all

-- what follows of the client that goes on
pub one-gives : (k : ℕ) (rows : List Row) (R : ClientState → ClientState → Type 0) (P : Type 0) (cs cs' : List ClientState) → EachFits rows cs → is_present cs k ≡ true → ((x y : ClientState) → x.peer.number ≡ k → InFits rows x → R x y → P) → ChangesOne k R cs cs' → P
one-gives k rows R P [] cs' each here f h = absurd (let d : false ≡ true = here in cc)
one-gives k rows R P (c ∷ cs) cs' each here f h = by_head (c.peer.number == k) refl here h (λ ds p g. one-gives k rows R P cs ds each.1 p f g)
  where
    by_head : (b : Bool) → (c.peer.number == k) ≡ b → (elim b as (λ _. Bool) [ true ↦ true | false ↦ is_present cs k ]) ≡ true
        → MatchBool b ((y : ClientState) × (R c y × (cs' ≡ y ∷ cs))) ((ds : List ClientState) × (ChangesOne k R cs ds × (cs' ≡ c ∷ ds)))
        → ((ds : List ClientState) → is_present cs k ≡ true → ChangesOne k R cs ds → P) → P
    by_head true t p w ih = f c w.0 (same-number c.peer.number k t) each.0 w.1.0
    by_head false t p w ih = ih w.0 p w.1.0

pub loss-same : (a b a' b' : Standing) (k : ℕ) → a ≡ a' → b ≡ b' → loss_between a b k ≡ loss_between a' b' k
loss-same a b a' b' k e f = ap (λ s. loss_between s b k) e ∙ ap (λ s. loss_between a' s k) f
