use Rattle.std.proofs.Common.{sym}
use Rattle.ssh_mux.proofs.LineLemmas.{joined}
use Rattle.ssh_mux.proofs.diagnostics.put_cause_text.Goals as goal

pub returns-in_ok-add-in-UnknownKeyword : goal.returns-in_ok-add-in-UnknownKeyword
returns-in_ok-add-in-UnknownKeyword c = rw (c.in-UnknownKeyword.is, sym c.as_bytes.ensures) (joined _ _ _ _ _ _ c.in_ok-add-in-UnknownKeyword.ensures.ok c.add-in-UnknownKeyword.ensures.ok)

pub returns-in-TooDeep : goal.returns-in-TooDeep
returns-in-TooDeep c = rw c.in-TooDeep.is c.add-in-TooDeep.ensures.ok

pub returns-in-TooLarge : goal.returns-in-TooLarge
returns-in-TooLarge c = rw c.in-TooLarge.is c.add-in-TooLarge.ensures.ok

pub returns-in-TooManyLines : goal.returns-in-TooManyLines
returns-in-TooManyLines c = rw c.in-TooManyLines.is c.add-in-TooManyLines.ensures.ok

pub returns-in-ReadFault : goal.returns-in-ReadFault
returns-in-ReadFault c = rw c.in-ReadFault.is c.add-in-ReadFault.ensures.ok
