use Rattle.std.proofs.Common.{◌∙◌, ◌++◌, ℕ, List, ap}
use Rattle.std.specs.Prelude.{filter}
use Rattle.mux_outside.specs.House.{has_waiting}
use Rattle.mux_outside.specs.OwnStreams.{numbers_of}
use Rattle.mux_engine.proofs.Arms.{on-ok}
use Rattle.mux_engine.proofs.Owning.{waits-same}
use Rattle.mux_engine.proofs.owned.list_waiting.Goals as goal

pub returns : goal.returns
returns g c =
    let house = g.H.Asks.state c.args.house.now in let own : List ℕ = numbers_of house.known.streams in
    on-ok c.list_waiting.result (λ e. e ∙ (ap (λ (l : List ℕ). l ++ filter (has_waiting house.queue c.args.failed.now) own) (c.in_ok-refill.ensures.ok ∙ c.as_slice.ensures)
    ∙ ap (λ (l : List ℕ). c.args.waiting.now ++ l) (waits-same house.queue c.args.failed.now own))) c.list_waiting.ensures
