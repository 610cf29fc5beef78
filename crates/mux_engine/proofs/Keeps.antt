-- What every run keeps of its rows.
use Rattle.std.proofs.Common.{ℕ, List, sym, subst, inl, inr}
use Rattle.mux_outside.specs.declared.house.HouseReply.{HouseReply}
use Rattle.mux_outside.specs.declared.mark.Mark.{Mark}
use Rattle.ssh_grammar.specs.Said.{InControl, InProxy}
use Rattle.mux_history.specs.Policy.{Policy}
use Rattle.mux_history.specs.Rows.{Row}
use Rattle.mux_history.specs.Log.{Setting}
use Rattle.mux_history.specs.Settings.{by_lists}
use Rattle.mux_history.specs.Right.{AreFresh, IsRight}
use Rattle.mux_history.specs.Journal.{bytes_of}
use Rattle.mux_history.specs.Promises.{SpeaksInTime, Throughout, WaitsAt}
use Rattle.mux_history.proofs.Journals.{logs-right}
use Rattle.mux_history.proofs.Picks.{picks-taken}
use Rattle.mux_history.proofs.RightLogs.{right-known, numbers-apart}
use Rattle.mux_isolation.proofs.AllRuns.{isolation, gives-alone, sends-alone}
use Rattle.mux_isolation.proofs.Allowed.{ups-allowed}
use Rattle.mux_isolation.proofs.Bounded.{queues-bounded}
use Rattle.mux_isolation.proofs.Delivered.{delivered}
use Rattle.mux_isolation.proofs.Mays.{permissions, windows}
use Rattle.mux_isolation.proofs.OwnSayings.{own-words}
use Rattle.mux_isolation.proofs.Passed.{passed}
use Rattle.mux_isolation.proofs.Replied.{askers-served}
use Rattle.mux_isolation.proofs.Recorded.{downs-allowed}
use Rattle.mux_bounds.specs.Bounds.{IsLog, RestsShort}
use Rattle.mux_bounds.proofs.Asked.{requests-bounded}
use Rattle.mux_bounds.proofs.Closed.{leaves-nothing}
use Rattle.mux_bounds.proofs.Few.{channels-bounded}
use Rattle.mux_bounds.proofs.Lengths.{rest-few}
use Rattle.mux_bounds.proofs.Matters.{matters-bounded}
use Rattle.mux_bounds.proofs.Offers.{forwardings-bounded}
use Rattle.mux_bounds.proofs.Unanswered.{unanswered-bounded}
use Rattle.mux_bounds.proofs.WireRuns.{runs-bounded}
use Rattle.mux_engine.specs.Run.{IsOfWire, KeepsRows}

module _ (policy : Policy) (pid : ℕ) (picks : List ℕ) (given : List HouseReply) where
  abbrev setting : Setting
  setting = by_lists policy pid picks given

  -- a right log
  pub of-right : (journal : List Mark) (left : ℕ) (rows : List Row) → IsOfWire journal → Throughout (WaitsAt setting) journal → Throughout (SpeaksInTime setting) journal → IsLog setting journal rows → IsRight setting journal left rows → KeepsRows setting rows
  of-right journal left rows wire waits speaks is right =
      let known = right-known policy pid picks given journal left rows wire.lawful right in
      record {
        kept = record {
          window = windows policy rows (ups-allowed policy pid rows known) (downs-allowed policy pid rows known);
          permission = permissions policy rows (ups-allowed policy pid rows known) (downs-allowed policy pid rows known);
          asker = askers-served policy pid rows known;
          delivers = delivered policy pid rows known;
          passes = passed policy pid rows known;
          apart = numbers-apart policy pid picks given journal left rows wire.lawful right;
          unshared = isolation policy pid picks given journal left rows wire.lawful right;
        };
        gives = gives-alone policy pid picks given journal left rows wire.lawful right;
        sends = sends-alone policy pid picks given journal left rows wire.lawful right;
        picks = picks-taken policy pid picks given journal left rows wire.lawful right;
        own_words = own-words policy pid rows known;
        channels = channels-bounded policy pid rows known;
        forwardings = forwardings-bounded policy pid rows known;
        requests = requests-bounded policy pid rows known;
        unanswered = unanswered-bounded policy pid rows known;
        clients = matters-bounded policy pid rows known;
        nothing_left = leaves-nothing policy pid rows known;
        client_queues = queues-bounded policy pid rows known;
        server_queue = runs-bounded policy pid picks given journal rows wire.lawful is right.fresh wire.asked waits speaks;
      }

  -- the log of a journal, whole or cut
  pub keeps-rows : (journal : List Mark) (rows : List Row) → IsOfWire journal → Throughout (WaitsAt setting) journal → Throughout (SpeaksInTime setting) journal → IsLog setting journal rows → AreFresh rows → KeepsRows setting rows
  keeps-rows journal rows wire waits speaks (inl e) fresh =
      of-right journal 0 rows wire waits speaks (inl e)
      (subst (IsRight setting journal 0) (sym e) ((logs-right policy pid picks given journal).whole (subst AreFresh e fresh)))
  keeps-rows journal rows wire waits speaks (inr cut) fresh =
      let right = (logs-right policy pid picks given journal).cut rows cut fresh in
      of-right journal right.0 rows wire waits speaks (inr cut) right.1

pub rests-short : (journal : List Mark) (t : ℕ) → RestsShort (bytes_of t journal)
rests-short journal t = record { client = rest-few InControl (bytes_of t journal); server = rest-few InProxy (bytes_of t journal) }
