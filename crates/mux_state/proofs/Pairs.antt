-- The client that goes on, before and afterwards, among all.
use Rattle.std.proofs.Common.{◌≡◌, ℕ, Bool, true, false, List, [], ◌∷◌, refl, sym, subst}
use Rattle.std.specs.Prelude.{◌==◌, MatchBool}
use Rattle.std.proofs.lemmas.Bool.{eqb-true}
use Rattle.mux_outside.specs.declared.mark.Mark.{Mark}
use Rattle.mux_history.specs.Rows.{Row}
use Rattle.mux_history.specs.Journal.{bytes_of}
use Rattle.mux_peers.specs.State.{ClientState}
use Rattle.mux_peers.specs.Among.{ChangesOne, EachFits, InFits, is_present}
use Rattle.mux_state.specs.Stands.{ClientReads, EachReads}
use Rattle.mux_state.proofs.Lists.{either}
use Rattle.mux_state.proofs.OneClient.{changes-to}

-- ---- the client that goes on, before and afterwards

abbrev pub IsPair : ClientState → ClientState → ClientState → ClientState → Type 0
IsPair x y a b = (a ≡ x) × (b ≡ y)

pub record Pair (k : ℕ) (R : ClientState → ClientState → Type 0) (cs cs' : List ClientState) : Type 0 where
  pub first : ClientState
  pub now : ClientState
  pub number : first.peer.number ≡ k
  pub is : R first now
  pub one : ChangesOne k (IsPair first now) cs cs'
  pub fits : (rows : List Row) → EachFits rows cs → InFits rows first
  pub reads : (marks : List Mark) → EachReads marks cs → ClientReads (bytes_of first.peer.number marks) first

pub pair : (k : ℕ) (R : ClientState → ClientState → Type 0) (cs cs' : List ClientState) → is_present cs k ≡ true → ChangesOne k R cs cs' → Pair k R cs cs'
pair k R [] cs' p h = absurd (cc)
pair k R (c ∷ cs) cs' p h = by_head (c.peer.number == k) refl p h (λ ds q w. pair k R cs ds q w)
  where
    Head : Bool → (ClientState → ClientState → Type 0) → Type 0
    Head b S = MatchBool b ((c' : ClientState) × (S c c' × (cs' ≡ c' ∷ cs))) ((ds : List ClientState) × (ChangesOne k S cs ds × (cs' ≡ c ∷ ds)))

    by_head : (b : Bool) → (c.peer.number == k) ≡ b → either b (is_present cs k) ≡ true → Head b R → ((ds : List ClientState) → is_present cs k ≡ true → ChangesOne k R cs ds → Pair k R cs ds) → Pair k R (c ∷ cs) cs'
    by_head true e q w ih = record {
      first = c;
      now = w.0;
      number = eqb-true c.peer.number k e;
      is = w.1.0;
      one = subst (λ b. Head b (IsPair c w.0)) (sym e) (w.0, ((refl, refl), w.1.1));
      fits = λ rows each. each.0;
      reads = λ marks each. each.0;
    }
    by_head false e q w ih = let r : Pair k R cs w.0 = ih w.0 q w.1.0 in record {
      first = r.first;
      now = r.now;
      number = r.number;
      is = r.is;
      one = subst (λ b. Head b (IsPair r.first r.now)) (sym e) (w.0, (r.one, w.1.1));
      fits = λ rows each. r.fits rows each.1;
      reads = λ marks each. r.reads marks each.1;
    }

-- any other relation of the two
pub redo : (k : ℕ) (S : ClientState → ClientState → Type 0) (x y : ClientState) (cs cs' : List ClientState) → ChangesOne k (IsPair x y) cs cs' → S x y → ChangesOne k S cs cs'
redo k S x y cs cs' h s = changes-to k (IsPair x y) S (λ c. Unit {0}) cs cs' (λ a b e u p. subst (λ c. S c b) (sym p.0) (subst (λ d. S x d) (sym p.1) s)) (units cs) h
  where
    units : (cs : List ClientState) → Rattle.std.specs.List.AllByRecursion (λ (c : ClientState). Unit {0}) cs
    units [] = tt
    units (c ∷ cs) = (tt, units cs)
