-- All clients are read on as before, and whoever is noted is one of them.
use Rattle.std.proofs.Common.{◌≡◌, ◌<◌, ℕ, zero, suc, get_or, set, arith, Bool, true, false, List, [], ◌∷◌, ◌++◌, length, Option, refl, sym, ap, ◌∙◌, cond}
use Rattle.mux_history.specs.declared.why.Why.{Why}
use Rattle.mux_peers.specs.declared.standing.Standing.{Standing}
use Rattle.mux_peers.specs.declared.standing.Standing.TheVariants.{Awaited, Greeted, Proxied, Unread, Lost}
use Rattle.mux_peers.specs.State.{ClientState}
use Rattle.mux_peers.specs.Stands as stands
use Rattle.mux_peers.specs.Among.{AreAmong, KeepReading, is_present}
use Rattle.mux_peers.specs.Losing.{loss_between, loss_in}

pub keep-same : (cs : List ClientState) → KeepReading cs cs
keep-same [] = refl
keep-same (c ∷ cs) = ((refl, λ l. (refl, refl)), keep-same cs)

pub keep-then : (cs ds es : List ClientState) → KeepReading cs ds → KeepReading ds es → KeepReading cs es
keep-then [] ds es h g = none ds es h g
  where
    none : (ds es : List ClientState) → ds ≡ [] → KeepReading ds es → es ≡ []
    none [] es h g = g
    none (d ∷ ds) es h g = absurd (cc)
keep-then (c ∷ cs) [] es h g = absurd h
keep-then (c ∷ cs) (d ∷ ds) [] h g = absurd g
keep-then (c ∷ cs) (d ∷ ds) (e ∷ es) h g =
    ((g.0.0 ∙ h.0.0, λ l. let v = g.0.1 l in let w = h.0.1 (ap stands.is_standing_lost (sym v.0) ∙ l) in (v.0 ∙ w.0, v.1 ∙ w.1)), keep-then cs ds es h.1 g.1)

-- one of them, at its place
pub keep-set : (i : ℕ) (x y : ClientState) (cs : List ClientState) → i < length cs → y.peer.number ≡ (get_or cs i x).peer.number
    → (stands.is_standing_lost y.peer.standing ≡ false → (y.peer.standing ≡ (get_or cs i x).peer.standing) × (y.rest ≡ (get_or cs i x).rest)) → KeepReading cs (set cs i y)
keep-set i x y [] lt n r = absurd (omega arith)
keep-set zero x y (c ∷ cs) lt n r = ((n, r), keep-same cs)
keep-set (suc i) x y (c ∷ cs) lt n r = ((refl, λ l. (refl, refl)), keep-set i x y cs (omega arith) n r)

pub among-loss : (cs : List ClientState) (before now : Standing) (k : ℕ) → is_present cs k ≡ true → AreAmong cs (loss_between before now k)
among-loss cs before now k here = by_before (stands.is_standing_lost before) now
  where
    by_before : (b : Bool) (now : Standing) → AreAmong cs (cond b [] (loss_in now k))
    by_before true now = tt
    by_before false Awaited = tt
    by_before false Greeted = tt
    by_before false Proxied = tt
    by_before false Unread = tt
    by_before false (Lost why) = (here, tt)

-- those of later among those of before
pub among-then : (cs ds : List ClientState) (a b : List (ℕ × Option Why)) → ((j : ℕ) → is_present ds j ≡ is_present cs j) → AreAmong cs a → AreAmong ds b → AreAmong cs (a ++ b)
among-then cs ds [] b same x y = moved b y
  where
    moved : (b : List (ℕ × Option Why)) → AreAmong ds b → AreAmong cs b
    moved [] y = tt
    moved (l ∷ ls) y = (sym (same l.0) ∙ y.0, moved ls y.1)
among-then cs ds (l ∷ a) b same x y = (x.0, among-then cs ds a b same x.1 y)
