-- A message that breaks no rule of its channel's account fits.
use Rattle.std.proofs.Common.{◌≡◌, ℕ, ◌≤◌, true, false, Bool, refl, arith, Option, Some, None}
use Rattle.std.specs.Prelude.{nat_lt}
use Rattle.std.proofs.lemmas.Bool.Decides.{nat_tests}
use Rattle.mux_history.specs.Channels.{Channel, any_by, is_closes, is_confirmed, is_ends}
use Rattle.mux_history.specs.Summary.{Carries}
use Rattle.mux_history.specs.Kept.{Fits}
use Rattle.mux_history.specs.Ledger.{breach, maximum_of, room}
use Rattle.ssh_grammar.specs.declared.fault.Breach.{Breach}
use Rattle.ssh_grammar.specs.declared.fault.Breach.TheVariants.{AfterClose, AfterEof, NotOpen, PastPacket, PastWindow}
use Rattle.ssh_grammar.specs.declared.side.Side.{Side}

-- ---- a legal message fits

le-of : (a b : ℕ) → nat_lt a b ≡ false → b ≤ a
le-of a b e = grind (arith, nat_tests)

pub fits-of : (way : Side) (size : ℕ) (x : Channel) → breach way (Carries size) x ≡ None → Fits way size (Some x)
fits-of way size x fine = by_case (is_confirmed x) (any_by way is_closes x.acts) (any_by way is_ends x.acts) (nat_lt (maximum_of way x) size) refl (nat_lt (room way x) size) refl fine
  where
    by_case : (a b c d : Bool) → nat_lt (maximum_of way x) size ≡ d → (e : Bool) → nat_lt (room way x) size ≡ e
        → (elim a as (λ _. Option Breach) [ false ↦ Some NotOpen | true ↦ elim b as (λ _. Option Breach) [ true ↦ Some AfterClose | false ↦ elim c as (λ _. Option Breach) [ true ↦ Some AfterEof | false ↦ elim d as (λ _. Option Breach) [ true ↦ Some (PastPacket (maximum_of way x) size) | false ↦ elim e as (λ _. Option Breach) [ true ↦ Some (PastWindow (room way x) size) | false ↦ None ] ] ] ] ]) ≡ None
        → Fits way size (Some x)
    by_case true false false false m_is false r_is fine = (le-of (room way x) size r_is, le-of (maximum_of way x) size m_is)
    by_case true false false false m_is true r_is fine = cc
    by_case true false false true m_is e r_is fine = cc
    by_case true false true d m_is e r_is fine = cc
    by_case true true c d m_is e r_is fine = cc
    by_case false b c d m_is e r_is fine = cc
