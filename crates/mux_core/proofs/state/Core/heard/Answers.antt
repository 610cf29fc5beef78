use Rattle.std.proofs.Common.{rules}
use Rattle.mux_history.specs.Summary.{Confirmation, Fails, Open, Refuses, Succeeds, Transport, Within}
use Rattle.window_ledger.specs.Act.{summary_act_of}
use Rattle.mux_core.specs.declared.heard.Delivery.TheVariants as heard
use Rattle.conn_messages.specs.Message.{opening_of}
use Rattle.mux_core.proofs.Dispatch.{not-one}
use Rattle.mux_core.proofs.ReceivesRequest.{transport-passed}
use Rattle.mux_core.proofs.Recording.{receives-on, receives-quiet, receives-result}
use Rattle.mux_core.proofs.state.Core.heard.Goals as goal

pub returns-in-Ok-Transport-clause-stands : goal.returns-in-Ok-Transport-clause-stands
returns-in-Ok-Transport-clause-stands c = receives-on c.args.self.now c.args.self.now c.args.payload.now c.args.payload.now (Transport c.in-Ok-Transport.field-0-0) c.args.up.now c.args.up.now heard.Master (search rules) (transport-passed c.args.self.now c.in-Ok-Transport.field-0-0 c.args.payload.now c.args.payload.now c.args.up.now (not-one c.in-Ok-Transport.field-0-0 c.in-Ok-Transport.field-0-0-test.1))

pub returns-in-Ok-Succeeds-clause-stands : goal.returns-in-Ok-Succeeds-clause-stands
returns-in-Ok-Succeeds-clause-stands c = receives-result c.args.self.now c.receive_success.new.self c.args.payload.now c.args.payload.now (Succeeds c.in-Ok-Succeeds.rest.now) c.args.up.now c.receive_success.new.up c.receive_success.result (search rules) c.receive_success.ensures.stands

pub returns-in-Ok-Refuses-clause-stands : goal.returns-in-Ok-Refuses-clause-stands
returns-in-Ok-Refuses-clause-stands c = receives-result c.args.self.now c.receive_refusal.new.self c.args.payload.now c.args.payload.now Refuses c.args.up.now c.receive_refusal.new.up c.receive_refusal.result (search rules) c.receive_refusal.ensures.stands

pub returns-in-Ok-Open-clause-stands : goal.returns-in-Ok-Open-clause-stands
returns-in-Ok-Open-clause-stands c = receives-result c.args.self.now c.receive_open.new.self c.args.payload.now c.args.payload.now (Open (opening_of c.in-Ok-Open.what) c.in-Ok-Open.sender c.in-Ok-Open.window c.in-Ok-Open.maximum) c.args.up.now c.receive_open.new.up c.receive_open.result (search rules) c.receive_open.ensures.stands

pub returns-in-Ok-Confirmation-clause-stands : goal.returns-in-Ok-Confirmation-clause-stands
returns-in-Ok-Confirmation-clause-stands c = receives-result c.args.self.now c.receive_confirmation.new.self c.args.payload.now c.receive_confirmation.new.payload (Confirmation c.in-Ok-Confirmation.recipient c.in-Ok-Confirmation.sender c.in-Ok-Confirmation.window c.in-Ok-Confirmation.maximum) c.args.up.now c.receive_confirmation.new.up c.receive_confirmation.result (search rules) c.receive_confirmation.ensures.stands

pub returns-in-Ok-Fails-clause-stands : goal.returns-in-Ok-Fails-clause-stands
returns-in-Ok-Fails-clause-stands c = receives-quiet c.args.self.now c.receive_failure.new.self c.args.payload.now c.receive_failure.new.payload (Within c.in-Ok-Fails.recipient Fails) c.args.up.now c.receive_failure.result (search rules) c.receive_failure.ensures.stands

pub returns-in-Ok-Within-clause-stands : goal.returns-in-Ok-Within-clause-stands
returns-in-Ok-Within-clause-stands c = receives-quiet c.args.self.now c.receive_within.new.self c.args.payload.now c.receive_within.new.payload (Within c.in-Ok-Within.recipient (summary_act_of c.in-Ok-Within.act)) c.args.up.now c.receive_within.result (search rules) c.receive_within.ensures.stands
