-- What the code says of a reply, and the lines that it shows.
use Rattle.std.specs.Prelude.{ℕ, List, [], Bool, true, false, Option, Some, None}
use Rattle.mux_client.specs.declared.asks.Asks.{Asks}
use Rattle.mux_client.specs.declared.asks.Asks.TheVariants.{Check, Exit, Stop, Forwards}
use Rattle.mux_client.specs.declared.answer.Answer.{Answer}
use Rattle.mux_client.specs.declared.answer.Answer.TheVariants as read
use Rattle.mux_client.specs.declared.verdict.OutLine.{OutLine}
use Rattle.mux_client.specs.declared.verdict.OutLine.TheVariants.{Running, ExitSent, StopSent, Port, Nothing}
use Rattle.mux_client.specs.declared.verdict.ReplyVerdict.{ReplyVerdict as TheVerdict}
use Rattle.mux_client.specs.declared.verdict.ReplyVerdict.TheVariants as said
use Rattle.mux_client.specs.Replies.{ReplyVerdict, Grants, Refuses, Breaks, running_line, exit_line, stop_line, port_line, for_id}

-- a line, as it is shown
abbrev pub text_of_line : OutLine → List ℕ
text_of_line (Running pid) = running_line pid
text_of_line ExitSent = exit_line
text_of_line StopSent = stop_line
text_of_line (Port port) = port_line port
text_of_line Nothing = []

-- the same, if there is one
abbrev pub text_of_some : Option OutLine → List ℕ
text_of_some (Some line) = text_of_line line
text_of_some None = []

-- what the code means by a verdict
abbrev pub meant_by : TheVerdict → ReplyVerdict
meant_by (said.Grants line) = Grants (text_of_line line)
meant_by said.Refuses = Refuses
meant_by said.Breaks = Breaks

-- ---- by what is asked and the answer's type

abbrev pub on_okay : Asks → ReplyVerdict
on_okay Check = Breaks
on_okay Exit = Grants exit_line
on_okay Stop = Grants stop_line
on_okay (Forwards opening what) = Grants []

abbrev pub on_alive : Asks → ℕ → ReplyVerdict
on_alive Check pid = Grants (running_line pid)
on_alive Exit pid = Breaks
on_alive Stop pid = Breaks
on_alive (Forwards opening what) pid = Breaks

abbrev pub on_bound : Bool → ℕ → ReplyVerdict
on_bound true port = Grants (port_line port)
on_bound false port = Breaks

abbrev pub on_port : Asks → ℕ → ReplyVerdict
on_port Check port = Breaks
on_port Exit port = Breaks
on_port Stop port = Breaks
on_port (Forwards opening what) port = on_bound opening port

abbrev pub verdict_by : Asks → ℕ → Answer → ReplyVerdict
verdict_by asks id (read.Okay of) = for_id id of (on_okay asks)
verdict_by asks id (read.Refusal of) = for_id id of Refuses
verdict_by asks id (read.Alive of pid) = for_id id of (on_alive asks pid)
verdict_by asks id (read.RemotePort of port) = for_id id of (on_port asks port)
verdict_by asks id read.Other = Breaks
