-- What a mark adds to the calls of the forwarder.
use Rattle.std.proofs.Common.{◌≡◌, ℕ, Bool, true, false, List, [], ◌∷◌, ◌++◌, sym, ap, ◌∙◌, subst, append_assoc, append-nil, cond}
use Rattle.mux_outside.specs.HouseCalls.{HandsOn, Receives, HouseCall, calls_of}
use Rattle.mux_outside.specs.OwnStreams.{is_own}
use Rattle.mux_outside.specs.declared.house_mark.HouseMark.{HouseMark}
use Rattle.mux_outside.specs.declared.house_mark.HouseMark.TheVariants.{HouseTook}
use Rattle.mux_outside.proofs.HouseCalls.{calls-append, hands-then}
use Rattle.mux_engine.specs.Called.{Handed, if_own}
use Rattle.mux_engine.specs.Sides.{Side}

-- a forwarder with these calls
abbrev pub calling : Side → List HouseCall → Side
calling now more = record now { calls = now.calls ++ more }

-- after a mark with these calls the calls of the forwarder are those of the journal still
abbrev pub CallsOn : Side → Side → List HouseCall → Type 0
CallsOn now now' here = (all : List HouseCall) → all ++ calls_of now.unnoted ≡ now.calls → (all ++ here) ++ calls_of now'.unnoted ≡ now'.calls

-- a mark that has none
pub calls-none : (now : Side) → CallsOn now now []
calls-none now all e = ap (λ (l : List HouseCall). l ++ calls_of now.unnoted) (append-nil all) ∙ e

-- a mark with a call where there is one for streams of the master's own alone
pub calls-other : (now : Side) (t : ℕ) (one : HouseCall) → is_own t ≡ false → CallsOn now now (if_own t one)
calls-other now t one client = subst (λ (b : Bool). CallsOn now now (cond b (one ∷ []) [])) (sym client) (calls-none now)

-- where all was noted the calls of the mark come after
pub calls-behind : (now : Side) (here : List HouseCall) → now.unnoted ≡ [] → CallsOn now (calling now here) here
calls-behind now here none all was =
    ap (λ (l : List HouseMark). (all ++ here) ++ calls_of l) none ∙ (append-nil (all ++ here)
    ∙ ap (λ (l : List HouseCall). l ++ here) (sym (append-nil all) ∙ (ap (λ (l : List HouseMark). all ++ calls_of l) (sym none) ∙ was)))

-- where there is one
pub calls-own : (now : Side) (t : ℕ) (one : HouseCall) → is_own t ≡ true → now.unnoted ≡ [] → CallsOn now (calling now (one ∷ [])) (if_own t one)
calls-own now t one own none = subst (λ (b : Bool). CallsOn now (calling now (one ∷ [])) (cond b (one ∷ []) [])) (sym own) (calls-behind now (one ∷ []) none)

-- with what the forwarder recorded meanwhile
pub calls-recorded : (now now' : Side) (mark more : List HouseMark) → mark ++ now'.unnoted ≡ now.unnoted ++ more → now'.calls ≡ now.calls ++ calls_of more → CallsOn now now' (calls_of mark)
calls-recorded now now' mark more e c all was =
    append_assoc all (calls_of mark) (calls_of now'.unnoted)
    ∙ (ap (λ (l : List HouseCall). all ++ l) (sym (calls-append mark now'.unnoted) ∙ (ap calls_of e ∙ calls-append now.unnoted more))
    ∙ (sym (append_assoc all (calls_of now.unnoted) (calls_of more)) ∙ (ap (λ (l : List HouseCall). l ++ calls_of more) was ∙ sym c)))

-- it received these bytes as a client, which is noted at once
pub calls-heard : (now : Side) (size : ℕ) (bytes : List ℕ) → now.unnoted ≡ HouseTook size ∷ [] → CallsOn now (record now { unnoted = []; calls = now.calls ++ Receives bytes ∷ [] }) (Receives bytes ∷ [])
calls-heard now size bytes took all was =
    append-nil (all ++ Receives bytes ∷ []) ∙ ap (λ (l : List HouseCall). l ++ Receives bytes ∷ []) (sym (append-nil all) ∙ (ap (λ (l : List HouseMark). all ++ calls_of l) (sym took) ∙ was))

-- ---- from forwarder to forwarder

pub handed-none : {stands stands' : List HouseCall → Type 0} {So : List HouseCall → Type 0} (calls : List HouseCall) → HandsOn stands stands' calls → So calls → Handed stands stands' So
handed-none calls hands so = record { all = calls; hands = hands; so = so }

-- the forwarder had some more calls
pub handed-more : {stands mid stands' : List HouseCall → Type 0} {So : List HouseCall → Type 0} (calls more : List HouseCall) → HandsOn stands mid calls → HandsOn mid stands' more → So (calls ++ more) → Handed stands stands' So
handed-more {stands} {mid} {stands'} calls more hands step so = record { all = calls ++ more; hands = hands-then stands mid stands' calls more hands step; so = so }

pub handed-so : {stands stands' : List HouseCall → Type 0} {Was So : List HouseCall → Type 0} (h : Handed stands stands' Was) → So h.all → Handed stands stands' So
handed-so h so = record { all = h.all; hands = h.hands; so = so }
