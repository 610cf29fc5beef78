use Rattle.mux_client.proofs.VerdictLemmas.{means}
use Rattle.mux_client.proofs.verdict.verdict_of.Goals as goal

pub returns-in-Some : goal.returns-in-Some
returns-in-Some c = λ request asked. means c.args.asks.now request c.args.id c.args.body.now c.in-Some.answer c.meaning.result c.in-Some.ensures c.meaning.ensures asked
