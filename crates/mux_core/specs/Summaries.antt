-- The summary of a message, as the history has it.
use Rattle.mux_history.specs.Summary as history
use Rattle.window_ledger.specs.Act.{summary_act_of}
use Rattle.conn_messages.specs.Message.{opening_of, grammar_request_of}
use Rattle.mux_core.specs.declared.reading.Summary.{Summary}
use Rattle.mux_core.specs.declared.reading.Summary.TheVariants as summary

abbrev pub summary_of : Summary → history.Summary
summary_of (summary.Transport number) = history.Transport number
summary_of (summary.Requests what want) = history.Requests (grammar_request_of what) want
summary_of (summary.Succeeds rest) = history.Succeeds rest.now
summary_of summary.Refuses = history.Refuses
summary_of (summary.Open what sender window maximum) =
    history.Open (opening_of what) sender window maximum
summary_of (summary.Confirmation recipient sender window maximum) =
    history.Confirmation recipient sender window maximum
summary_of (summary.Fails recipient) = history.Within recipient history.Fails
summary_of (summary.Within recipient act) = history.Within recipient (summary_act_of act)
