-- Cancels and farewells are short.
use Rattle.mux_history.proofs.RightLogs.{right-known}
use Rattle.mux_bounds.proofs.AddsLittle.{leaves-few}
use Rattle.mux_bounds.proofs.Shorts.{askable-brief}
use Rattle.mux_bounds.proofs.Weights.{cancel-weight}
use Rattle.mux_bounds.proofs.laws.farewells_are_short.Goals as goal

pub returns-clause-cancel : goal.returns-clause-cancel
returns-clause-cancel c = λ key askable. cancel-weight key (askable-brief key askable)

pub returns-clause-farewell : goal.returns-clause-farewell
returns-clause-farewell c = λ policy pid picks given marks left rows lawful right. leaves-few policy pid rows (right-known policy pid picks given marks left rows lawful right).each
