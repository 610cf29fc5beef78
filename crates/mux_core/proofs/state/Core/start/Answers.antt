use Rattle.std.proofs.Common.{rules}
use Rattle.mux_core.proofs.OpensJudged.{free-own, has-room, is-full, no-room, none-own}
use Rattle.mux_core.proofs.OpensSent.{goes-up}
use Rattle.mux_core.proofs.state.Core.start.Goals as goal

pub returns-in-Err-Full-clause-stands : goal.returns-in-Err-Full-clause-stands
returns-in-Err-Full-clause-stands c =
    record {
      pick = 0;
      goes = λ what judges rows st serves e.
          let free = free-own c.args.self.now c.args.client c.args.sender what judges in
          let full = is-full c.args.self.now c.args.client c.args.sender c.in-Err-Full.field-0-0 free (search rules) in
          rw (c.in-Err-Full.ensures.unchanged, c.refuse.ensures) (no-room c.args.self.now c.args.client c.args.sender c.args.window c.args.maximum what c.args.payload.now c.args.up.now rows st serves e judges full);
    }

pub returns-clause-stands : goal.returns-clause-stands
returns-clause-stands c =
    record {
      pick = c.in-Ok.number;
      goes = λ what judges rows st serves e.
          let free = free-own c.args.self.now c.args.client c.args.sender what judges in
          let room = has-room c.args.self.now c.args.client c.args.sender free (search rules) in
          rw (c.in_ok-push_payload.ensures.ok, c.put_sender.ensures) (goes-up c.args.self.now c.args.client c.in-Ok.number c.args.sender c.args.window c.args.maximum what c.args.payload.now c.opened-ledger.result c.args.up.now _ rows st serves c.requires.bytes e judges (search rules) (none-own c.args.self.now c.args.client c.args.sender free) room c.opened-ledger.ensures.confirmed c.opened-ledger.ensures.stands (search rules));
    }
