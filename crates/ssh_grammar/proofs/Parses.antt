-- What is sent in pieces is what is sent by all bytes.
use Rattle.std.proofs.Common.{◌≡◌, ℕ, zero, suc, ◌-◌, ◌≤◌, List, [], ◌∷◌, ◌++◌, length, refl, sym, ◌∙◌, ap, arith, subst}
use Rattle.ssh_grammar.specs.declared.framing.Framing.TheVariants as framing
use Rattle.ssh_grammar.specs.Frames.{Front, Frame, More, Faulty}
use Rattle.ssh_grammar.specs.Said.{Mode, InControl, InProxy, Stopped, BadFraming, first_in, sending_in, mode_after, Parsed, with_sending, parse_front, parse_by, parse, and_then}
use Rattle.ssh_grammar.proofs.Cuts.{IsShorter, first-shorter, Extends, first-extends}

pub in-extends : (mode : Mode) (a b : List ℕ) → Extends b (first_in mode a) (first_in mode (a ++ b))
in-extends InControl a b = first-extends framing.Control a b
in-extends InProxy a b = first-extends framing.Proxy a b
in-extends Stopped a b = tt

pub in-shorter : (mode : Mode) (a : List ℕ) → IsShorter (length a - 4) (first_in mode a)
in-shorter InControl a = first-shorter framing.Control a
in-shorter InProxy a = first-shorter framing.Proxy a
in-shorter Stopped a = tt

nothing-yet : (mode : Mode) → first_in mode [] ≡ More
nothing-yet InControl = refl
nothing-yet InProxy = refl
nothing-yet Stopped = refl

pub parse-nothing : (n : ℕ) (mode : Mode) → parse_by n mode [] ≡ record { says = []; mode = mode; rest = [] }
parse-nothing zero mode = refl
parse-nothing (suc n) mode = ap (parse_front (parse_by n) mode []) (nothing-yet mode)

-- any fuel that serves gives the same
pub parse-fuel : (n m : ℕ) (mode : Mode) (a : List ℕ) → length a ≤ n → length a ≤ m → parse_by n mode a ≡ parse_by m mode a
parse-fuel zero m mode [] h k = sym (parse-nothing m mode)
parse-fuel zero m mode (x ∷ a) h k = absurd (omega arith)
parse-fuel (suc n) zero mode [] h k = parse-nothing (suc n) mode
parse-fuel (suc n) zero mode (x ∷ a) h k = absurd (omega arith)
parse-fuel (suc n) (suc m) mode a h k = by_case (first_in mode a) (in-shorter mode a) (λ mode rest i j. parse-fuel n m mode rest i j)
  where
    by_case : (f : Front) → IsShorter (length a - 4) f → ((mode : Mode) (rest : List ℕ) → length rest ≤ n → length rest ≤ m → parse_by n mode rest ≡ parse_by m mode rest)
        → parse_front (parse_by n) mode a f ≡ parse_front (parse_by m) mode a f
    by_case (Frame content rest) s ih = ap (with_sending (sending_in mode content)) (ih (mode_after mode content) rest (omega arith) (omega arith))
    by_case More s ih = refl
    by_case (Faulty f) s ih = refl

-- one step of reading, with no fuel
pub parse-step : (mode : Mode) (a : List ℕ) → parse mode a ≡ parse_front parse mode a (first_in mode a)
parse-step mode [] = sym (ap (parse_front parse mode []) (nothing-yet mode))
parse-step mode (x ∷ a) = by_case (first_in mode (x ∷ a)) (in-shorter mode (x ∷ a))
  where
    by_case : (f : Front) → IsShorter (length (x ∷ a) - 4) f → parse_front (parse_by (length a)) mode (x ∷ a) f ≡ parse_front parse mode (x ∷ a) f
    by_case (Frame content rest) s = ap (with_sending (sending_in mode content)) (parse-fuel (length a) (length rest) (mode_after mode content) rest (omega arith) (omega arith))
    by_case More s = refl
    by_case (Faulty f) s = refl

pub parse-at : (mode : Mode) (a : List ℕ) (f : Front) → first_in mode a ≡ f → parse mode a ≡ parse_front parse mode a f
parse-at mode a f e = parse-step mode a ∙ ap (parse_front parse mode a) e

pub parse-stopped : (a : List ℕ) → parse Stopped a ≡ record { says = []; mode = Stopped; rest = a }
parse-stopped a = parse-step Stopped a

append-at : (mode : Mode) (a b : List ℕ) (f : Front) → first_in mode a ≡ f → Extends b f (first_in mode (a ++ b)) → ((content rest : List ℕ) → f ≡ Frame content rest → parse (mode_after mode content) (rest ++ b) ≡ and_then (parse (mode_after mode content) rest) b)
    → parse mode (a ++ b) ≡ and_then (parse mode a) b
append-at mode a b (Frame content rest) e x ih =
    parse-at mode (a ++ b) (Frame content (rest ++ b)) x
    ∙ (ap (with_sending (sending_in mode content)) (ih content rest refl)
    ∙ sym (ap (λ p. and_then p b) (parse-at mode a (Frame content rest) e)))
append-at mode a b More e x ih = sym (ap (λ p. and_then p b) (parse-at mode a More e))
append-at mode a b (Faulty f) e x ih =
    parse-at mode (a ++ b) (Faulty f) x
    ∙ (sym (ap (λ (p : Parsed). record { says = BadFraming f ∷ p.says; mode = p.mode; rest = p.rest }) (parse-stopped (a ++ b)))
    ∙ sym (ap (λ p. and_then p b) (parse-at mode a (Faulty f) e)))

append-by : (n : ℕ) (mode : Mode) (a b : List ℕ) → length a ≤ n → parse mode (a ++ b) ≡ and_then (parse mode a) b
append-by zero mode [] b h = sym (ap (λ p. and_then p b) (parse-nothing 0 mode))
append-by zero mode (x ∷ a) b h = absurd (omega arith)
append-by (suc n) mode a b h = append-at mode a b (first_in mode a) refl (in-extends mode a b) (λ content rest e. append-by n (mode_after mode content) rest b (let s : length rest ≤ length a - 4 = subst (IsShorter (length a - 4)) e (in-shorter mode a) in omega arith))

-- what was read stays, and what comes is read where reading stood
pub parse-append : (mode : Mode) (a b : List ℕ) → parse mode (a ++ b) ≡ and_then (parse mode a) b
parse-append mode a b = append-by (length a) mode a b (omega arith)
