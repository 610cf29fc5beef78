use Rattle.std.proofs.Common.{arith, refl}
use Rattle.mux_pieces.proofs.Intrusion.{is-asked, is-lawful, is-right, takes-front}
use Rattle.mux_pieces.proofs.worked.one_run_meets_all_premises.Goals as goal

pub returns-clause-intruder : goal.returns-clause-intruder
returns-clause-intruder c = record { lawful = is-lawful; asked = is-asked; right = is-right; takes = takes-front; client = omega arith; admitted = refl }

pub returns-clause-victim : goal.returns-clause-victim
returns-clause-victim c = record { lawful = is-lawful; asked = is-asked; right = is-right; takes = takes-front; client = omega arith; admitted = refl }
