-- All promises of the rows at once.
use Rattle.mux_history.proofs.RightLogs.{right-known, numbers-apart}
use Rattle.mux_isolation.proofs.AllRuns.{isolation}
use Rattle.mux_isolation.proofs.Allowed.{ups-allowed}
use Rattle.mux_isolation.proofs.Delivered.{delivered}
use Rattle.mux_isolation.proofs.Passed.{passed}
use Rattle.mux_isolation.proofs.Recorded.{downs-allowed}
use Rattle.mux_isolation.proofs.Mays.{permissions, windows}
use Rattle.mux_isolation.proofs.Replied.{askers-served}
use Rattle.mux_isolation.proofs.laws.all_is_kept.Goals as goal

pub returns : goal.returns
returns c = λ policy pid picks given marks left rows lawful right.
    let known = right-known policy pid picks given marks left rows lawful right in
    record {
      window = windows policy rows (ups-allowed policy pid rows known) (downs-allowed policy pid rows known);
      permission = permissions policy rows (ups-allowed policy pid rows known) (downs-allowed policy pid rows known);
      asker = askers-served policy pid rows known;
      delivers = delivered policy pid rows known;
      passes = passed policy pid rows known;
      apart = numbers-apart policy pid picks given marks left rows lawful right;
      unshared = isolation policy pid picks given marks left rows lawful right;
    }
