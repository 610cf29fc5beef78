-- What may come after the row that ended the connection.
use Rattle.std.specs.Prelude.{◌≡◌, false, List}
use Rattle.mux_outside.specs.declared.house_mark.HouseMark.TheVariants.{HouseSaid, HouseAnswer, HouseOrder}
use Rattle.mux_outside.specs.declared.mark.Mark.{Mark}
use Rattle.mux_outside.specs.declared.mark.Mark.TheVariants.{House}
use Rattle.mux_history.specs.Journal.{log_of_journal}
use Rattle.mux_history.specs.Log.{Setting}
use Rattle.mux_history.specs.Rows.{is_run_over}

-- no row has ended the run
abbrev pub NoneEnded : Setting → List Mark → Type 0
NoneEnded setting before = is_run_over (log_of_journal setting before) ≡ false

-- After a row ended the connection, the forwarder gives no order, sends nothing and answers nothing.
-- What waits for it may be handed over to it, and its streams may accept what waits for them.
abbrev pub AfterEnd : Setting → List Mark → Mark → Type 0
AfterEnd setting before (House (HouseOrder order number)) = NoneEnded setting before
AfterEnd setting before (House (HouseSaid bytes)) = NoneEnded setting before
AfterEnd setting before (House (HouseAnswer client id reply)) = NoneEnded setting before
AfterEnd setting before mark = Unit {0}
