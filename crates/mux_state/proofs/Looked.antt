-- What a look-up of a client records of all clients.
use Rattle.std.proofs.Common.{◌≡◌, ◌≢◌, ℕ, Bool, true, false, List, [], ◌∷◌, refl, sym, ap, ◌∙◌, cond}
use Rattle.std.specs.Prelude.{◌==◌, MatchBool}
use Rattle.std.proofs.lemmas.Bool.{eqb-true}
use Rattle.mux_peers.specs.declared.standing.Standing.{Standing}
use Rattle.mux_peers.specs.State.{ClientState}
use Rattle.mux_peers.specs.Among.{ArePeersApart, ChangesOne, is_present}
use Rattle.mux_state.specs.Moves.{NoneStands}
use Rattle.mux_state.specs.State.{in_client}
use Rattle.mux_state.proofs.Lists.{either, not_here, true_false}

-- the client of a number is here and stands so
abbrev pub stands_so : (Standing → Bool) → List ClientState → ℕ → Bool
stands_so test cs k = in_client false (λ c. test c.peer.standing) cs k

pub so-here : (test : Standing → Bool) (k : ℕ) (cs : List ClientState) → stands_so test cs k ≡ true → is_present cs k ≡ true
so-here test k [] e = true_false (sym e)
so-here test k (c ∷ cs) e = by_head (c.peer.number == k) e (so-here test k cs)
  where
    by_head : (b : Bool) → cond b (test c.peer.standing) (stands_so test cs k) ≡ true → (stands_so test cs k ≡ true → is_present cs k ≡ true) → either b (is_present cs k) ≡ true
    by_head true e ih = refl
    by_head false e ih = ih e

none-absent : (test : Standing → Bool) (k : ℕ) (cs : List ClientState) → is_present cs k ≡ false → NoneStands test k cs
none-absent test k [] gone = tt
none-absent test k (c ∷ cs) gone = let q : (c.peer.number ≢ k) × (is_present cs k ≡ false) = not_here k c cs gone in (λ e. absurd (q.0 (eqb-true c.peer.number k e)), none-absent test k cs q.1)

-- where it doesn't stand so no client of the number does
pub none-so : (test : Standing → Bool) (k : ℕ) (cs : List ClientState) → ArePeersApart cs → stands_so test cs k ≡ false → NoneStands test k cs
none-so test k [] apart e = tt
none-so test k (c ∷ cs) apart e = by_head (c.peer.number == k) refl e (none-so test k cs apart.1)
  where
    by_head : (b : Bool) → (c.peer.number == k) ≡ b → cond b (test c.peer.standing) (stands_so test cs k) ≡ false → (stands_so test cs k ≡ false → NoneStands test k cs) → ((c.peer.number == k) ≡ true → test c.peer.standing ≡ false) × NoneStands test k cs
    by_head true t e ih = (λ q. e, none-absent test k cs (ap (is_present cs) (sym (eqb-true c.peer.number k t)) ∙ apart.0))
    by_head false t e ih = (λ q. true_false (sym q ∙ t), ih e)

-- of the one that goes on
pub changes-so : (test : Standing → Bool) (k : ℕ) (R : ClientState → ClientState → Type 0) (cs cs' : List ClientState) → stands_so test cs k ≡ true → ChangesOne k R cs cs' → ChangesOne k (λ x y. (test x.peer.standing ≡ true) × R x y) cs cs'
changes-so test k R [] cs' e h = h
changes-so test k R (c ∷ cs) cs' e h = by_head (c.peer.number == k) e h (λ ds q w. changes-so test k R cs ds q w)
  where
    by_head : (b : Bool) → cond b (test c.peer.standing) (stands_so test cs k) ≡ true
        → MatchBool b ((c' : ClientState) × (R c c' × (cs' ≡ c' ∷ cs))) ((ds : List ClientState) × (ChangesOne k R cs ds × (cs' ≡ c ∷ ds)))
        → ((ds : List ClientState) → stands_so test cs k ≡ true → ChangesOne k R cs ds → ChangesOne k (λ x y. (test x.peer.standing ≡ true) × R x y) cs ds)
        → MatchBool b ((c' : ClientState) × (((test c.peer.standing ≡ true) × R c c') × (cs' ≡ c' ∷ cs))) ((ds : List ClientState) × (ChangesOne k (λ x y. (test x.peer.standing ≡ true) × R x y) cs ds × (cs' ≡ c ∷ ds)))
    by_head true e w ih = (w.0, ((e, w.1.0), w.1.1))
    by_head false e w ih = (w.0, (ih w.0 e w.1.0, w.1.1))
