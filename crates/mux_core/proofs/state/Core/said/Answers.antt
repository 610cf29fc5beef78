use Rattle.std.proofs.Common.{rules, sym, ◌∙◌}
use Rattle.conn_messages.specs.Message.{opening_of}
use Rattle.window_ledger.specs.Act.{summary_act_of}
use Rattle.mux_history.specs.Summary.{Confirmation, Fails, Within}
use Rattle.mux_core.proofs.Dispatch.{not-one, on-all, on-bad, on-judged, on-open, on-other, on-refusal, on-some, on-success}
use Rattle.mux_core.proofs.state.Core.said.Goals as goal

pub returns-in-Err-clause-stands : goal.returns-in-Err-clause-stands
returns-in-Err-clause-stands c = on-bad c.args.self.now c.args.client c.args.payload.now c.args.up.now c.in-Err.bad (search rules)

pub returns-in-Ok-Transport-clause-stands : goal.returns-in-Ok-Transport-clause-stands
returns-in-Ok-Transport-clause-stands c = on-other c.args.self.now c.args.client c.in-Ok-Transport.field-0-0 c.args.payload.now c.args.up.now (not-one c.in-Ok-Transport.field-0-0 c.in-Ok-Transport.field-0-0-test.1) (search rules)

pub returns-in-Ok-Succeeds-clause-stands : goal.returns-in-Ok-Succeeds-clause-stands
returns-in-Ok-Succeeds-clause-stands c = on-success c.args.self.now c.args.client c.args.payload.now c.in-Ok-Succeeds.field-0-0.now c.args.up.now (search rules)

pub returns-in-Ok-Refuses-clause-stands : goal.returns-in-Ok-Refuses-clause-stands
returns-in-Ok-Refuses-clause-stands c = on-refusal c.args.self.now c.args.client c.args.payload.now c.args.up.now (search rules)

pub returns-in-Ok-Fails-clause-stands : goal.returns-in-Ok-Fails-clause-stands
returns-in-Ok-Fails-clause-stands c = on-all c.args.self.now c.send_failure.new.self c.args.client c.args.payload.now (Within c.in-Ok-Fails.recipient Fails) c.args.up.now c.send_failure.new.up c.send_failure.result (search rules) c.send_failure.ensures.stands

pub returns-in-Ok-Within-clause-stands : goal.returns-in-Ok-Within-clause-stands
returns-in-Ok-Within-clause-stands c = on-all c.args.self.now c.send_within.new.self c.args.client c.args.payload.now (Within c.in-Ok-Within.recipient (summary_act_of c.in-Ok-Within.act)) c.args.up.now c.send_within.new.up c.send_within.result (search rules) c.send_within.ensures.stands

pub send_confirmation-requires-clause-bytes : goal.send_confirmation-requires-clause-bytes
send_confirmation-requires-clause-bytes c = c.are_bytes.ensures

pub returns-in-Ok-Confirmation-clause-stands : goal.returns-in-Ok-Confirmation-clause-stands
returns-in-Ok-Confirmation-clause-stands c = on-some c.args.self.now c.send_confirmation.new.self c.args.client c.args.payload.now (Confirmation c.in-Ok-Confirmation.recipient c.in-Ok-Confirmation.sender c.in-Ok-Confirmation.window c.in-Ok-Confirmation.maximum) c.args.up.now c.send_confirmation.new.up c.send_confirmation.result (search rules) c.send_confirmation.ensures.stands

pub returns-in-Some-clause-stands : goal.returns-in-Some-clause-stands
returns-in-Some-clause-stands c = on-judged c.args.self.now c.args.client c.args.payload.now (opening_of c.in-Ok-Open.what) c.in-Ok-Open.sender c.in-Ok-Open.window c.in-Ok-Open.maximum c.args.up.now c.in-Some.verdict (search rules) (sym c.judge_open.ensures.exact ∙ c.in-Some.is)

pub start-requires-clause-bytes : goal.start-requires-clause-bytes
start-requires-clause-bytes c = c.are_bytes.ensures

pub returns-clause-stands : goal.returns-clause-stands
returns-clause-stands c = on-open c.args.self.now c.start.new.self c.args.client c.args.payload.now (opening_of c.in-Ok-Open.what) c.in-Ok-Open.sender c.in-Ok-Open.window c.in-Ok-Open.maximum c.args.up.now c.start.new.up c.start.result (search rules) (sym c.judge_open.ensures.exact ∙ search rules) c.start.ensures.stands
