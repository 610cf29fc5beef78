-- What the ledger's acts are in the history.
use Rattle.mux_history.specs.Summary as summary
use Rattle.window_ledger.specs.declared.act.Act.{Act}
use Rattle.window_ledger.specs.declared.act.Act.TheVariants.{Data, Grant, Eof, Close, Request, Reply}

abbrev pub summary_act_of : Act → summary.Act
summary_act_of (Data size) = summary.Carries size
summary_act_of (Grant add) = summary.Grants add
summary_act_of Eof = summary.Ends
summary_act_of Close = summary.Closes
summary_act_of (Request want) = summary.Asks want
summary_act_of Reply = summary.Answers
