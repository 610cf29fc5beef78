use Rattle.std.proofs.Common.{sym}
use Rattle.ssh_mux.proofs.LineLemmas.{joined}
use Rattle.ssh_mux.proofs.diagnostics.put_token_text.Goals as goal

pub returns-in_ok-add-in-NoVariable : goal.returns-in_ok-add-in-NoVariable
returns-in_ok-add-in-NoVariable c = rw (c.in-NoVariable.is, sym c.as_bytes.ensures) (joined _ _ _ _ _ _ c.in_ok-add-in-NoVariable.ensures.ok c.add-in-NoVariable-2.ensures.ok)
