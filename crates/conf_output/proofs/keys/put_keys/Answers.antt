use Rattle.std.proofs.Common.{drop, arith}
use Rattle.std.proofs.Math.ListN.{drop_of_length-le}
use Rattle.conf_rules.specs.declared.key.Key.TheVariants.{AddressFamily}
use Rattle.conf_tokens.specs.Seen.{view_as_defined}
use Rattle.conf_output.proofs.KeyLemmas.{next, goes_on, fails, done}
use Rattle.conf_output.proofs.keys.put_keys.Goals as goal

pub returns-in-Err : goal.returns-in-Err
returns-in-Err c = fails c.args.settings.now (view_as_defined c.args.view.now) c.args.out.now c.loop-key.out c.args.keys.now (drop c.loop-key.key-index c.args.keys.now) _ _ c.in-Err.error c.refusal.result (next c.args.keys.now c.loop-key.key-index AddressFamily c.loop-key-test.true) c.refusal.ensures c.in-Err.ensures c.loop-key.invariant

pub loop-key-preserved : goal.loop-key-preserved
loop-key-preserved c = goes_on c.args.settings.now (view_as_defined c.args.view.now) c.loop-key.out c.put_key.new.out (drop c.loop-key.key-index c.args.keys.now) _ _ _ (next c.args.keys.now c.loop-key.key-index AddressFamily c.loop-key-test.true) c.in-Ok.ensures c.loop-key.invariant

pub returns : goal.returns
returns c = done c.args.settings.now (view_as_defined c.args.view.now) c.args.out.now c.loop-key.out c.args.keys.now (drop c.loop-key.key-index c.args.keys.now) (drop_of_length-le c.args.keys.now (omega (arith, c.loop-key-test.false))) c.loop-key.invariant
