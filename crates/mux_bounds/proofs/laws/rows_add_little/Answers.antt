-- A row adds little.
use Rattle.mux_history.proofs.RightLogs.{right-known}
use Rattle.mux_bounds.proofs.AddsLittle.{rows-add}
use Rattle.mux_bounds.proofs.Sizes.{rows-small}
use Rattle.mux_bounds.proofs.laws.rows_add_little.Goals as goal

pub returns : goal.returns
returns c = λ policy pid picks given marks left rows lawful right. rows-add policy pid rows (right-known policy pid picks given marks left rows lawful right).each (rows-small policy pid picks given marks left rows right)
