use Rattle.std.proofs.Common.{sym, ap, ◌∙◌, false, List}
use Rattle.channel_table.specs.Entries.{TableEntry}
use Rattle.channel_table.specs.Entries.{changed_at, with_ledger}
use Rattle.mux_core.specs.State.{CoreState}
use Rattle.mux_core.proofs.Acts.{all-stay}
use Rattle.mux_core.proofs.state.Core.put.Goals as goal

pub returns-else-closed : goal.returns-else-closed
returns-else-closed c =
    let now : List TableEntry = changed_at c.args.number (with_ledger c.args.ledger) c.args.self.now.channels in
    record {
      over = false;
      closed = λ x stands. sym c.if-closed.false ∙ c.closed.ensures.exact x stands;
      after =
          ap (λ (s : CoreState). let t : CoreState = record s { channels = c.set_ledger.new.self } in t) c.self.view_is
          ∙ ap (λ (es : List TableEntry). let t : CoreState = record c.args.self.now { channels = es } in t) (c.set_ledger.ensures ∙ (ap (λ (s : CoreState). changed_at c.args.number (with_ledger c.args.ledger) s.channels) c.self.view_is ∙ sym (all-stay c.args.number now)));
    }
