use Rattle.std.proofs.Common.{Ok}
use Rattle.std.proofs.lemmas.Result.{err_from_is_err_and}
use Rattle.conf_tokens.specs.Known.{known}
use Rattle.conf_output.proofs.ListLemmas.{listed-all, listed-refused}
use Rattle.conf_output.proofs.SettledLemmas.{lists}
use Rattle.conf_output.proofs.output.listing.Goals as goal

pub returns-in_err-put_keys : goal.returns-in_err-put_keys
returns-in_err-put_keys c =
    let p = err_from_is_err_and c.from_residual-in_err-put_keys.result c.from_residual-in_err-put_keys.ensures.1 in
    record { exact = lists _ c.args.settings.now c.args.original.now c.args.facts.now (rw (p.1, p.2) (listed-refused c.args.settings.now c.args.original.now _ (known c.args.facts.now) _ _ c.in_ok-host.ensures (rw c.as_bytes.ensures at c.view-view.ensures) c.in_err-put_keys.ensures)) }

pub returns : goal.returns
returns c = record { exact = lists (Ok c.put_keys.new.out) c.args.settings.now c.args.original.now c.args.facts.now (listed-all c.args.settings.now c.args.original.now _ (known c.args.facts.now) _ _ _ c.in_ok-host.ensures (rw c.as_bytes.ensures at c.view-view.ensures) (rw c.new-out.ensures at c.in_ok-put_line.ensures) c.in_ok-put_keys.ensures) }
