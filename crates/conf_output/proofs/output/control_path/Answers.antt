use Rattle.std.proofs.Common.{Ok, Err, Some, None}
use Rattle.conf_tokens.specs.Known.{known}
use Rattle.conf_output.proofs.PathLemmas.{path-none, path-some, path-refused}
use Rattle.conf_output.proofs.SettledLemmas.{has-path}
use Rattle.conf_output.proofs.output.control_path.Goals as goal

pub returns-in_default : goal.returns-in_default
returns-in_default c = record { exact = has-path (Ok None) c.args.settings.now c.args.original.now c.args.facts.now (path-none c.args.settings.now c.args.original.now (known c.args.facts.now) c.in_default.ensures) }

pub returns-in-Ok : goal.returns-in-Ok
returns-in-Ok c = record { exact = has-path (Ok (Some c.in-Ok.path)) c.args.settings.now c.args.original.now c.args.facts.now (path-some c.args.settings.now c.args.original.now _ (known c.args.facts.now) _ c.in-Some.text.now _ c.in-Some.ensures c.in_ok-host.ensures (rw c.as_bytes.ensures at c.view-view.ensures) c.in-Ok.ensures) }

pub returns : goal.returns
returns c = record { exact = has-path (Err c.refusal.result) c.args.settings.now c.args.original.now c.args.facts.now (path-refused c.args.settings.now c.args.original.now _ (known c.args.facts.now) _ c.in-Some.text.now c.in-Err.error _ c.in-Some.ensures c.in_ok-host.ensures (rw c.as_bytes.ensures at c.view-view.ensures) c.refusal.ensures c.in-Err.ensures) }
