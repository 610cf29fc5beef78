-- What a reader returned, where it is what the grammar gives.
use Rattle.std.proofs.Common.{◌≡◌, ℕ, List, [], Result, Ok, Err, IfOk, subst, sym}
use Rattle.ssh_fields.specs.Fields.{AreBytes}
use Rattle.ssh_grammar.specs.declared.fault.BadControl.{BadControl}
use Rattle.ssh_grammar.specs.Control as grammar
use Rattle.ssh_grammar.specs.ReadControl.{read_unknown, control_forms, read_control}
use Rattle.ssh_grammar.specs.Tables.{by_number}
use Rattle.ssh_grammar.specs.IsControl.{SpellsControl}
use Rattle.ssh_grammar.proofs.ControlReads.{reads_is_spelled}
use Rattle.ssh_grammar.proofs.ControlSpelled.{spelled_reads}
use Rattle.mux_messages.specs.declared.control.Control.{Control}
use Rattle.mux_messages.specs.Control.{GivesControl, Skipped, control_of}

pub is_spelled : (body : List ℕ) (r : Result Control BadControl) → AreBytes body → GivesControl r (read_control body) → IfOk r (λ c. (skipped : Skipped) × SpellsControl (control_of skipped c) body)
is_spelled body (Ok c) h gives = (gives.0, subst (λ r. IfOk r (λ c. SpellsControl c body)) gives.1 (reads_is_spelled body h))
is_spelled body (Err e) h gives = tt

pub is_read : (body : List ℕ) (r : Result Control BadControl) → GivesControl r (read_control body) → (c : grammar.Control) → SpellsControl c body → GivesControl r (Ok c)
is_read body r gives c is = subst (GivesControl r) (spelled_reads c body is) gives

-- a message is read as its type says
pub of_type : (kind k : ℕ) (rest : List ℕ) (r : Result grammar.Control BadControl) → kind ≡ k → by_number control_forms k (read_unknown k) rest ≡ r → by_number control_forms kind (read_unknown kind) rest ≡ r
of_type kind k rest r same reads = subst (λ k. by_number control_forms k (read_unknown k) rest ≡ r) (sym same) reads

-- these bytes are skipped
abbrev pub skips : List ℕ → Skipped
skips rest = record { extensions = []; rest = rest }
