use Rattle.std.proofs.Common.{◌≡◌, ap, subst, Result, Ok, Err, IfOk, Bool, ℕ, List, length}
use Rattle.std.specs.Prelude.{nat_lt}
use Rattle.ssh_fields.specs.declared.out_of_memory.OutOfMemory.{OutOfMemory}
use Rattle.mux_history.specs.declared.limits.TheConstants.{MAX_CLIENTS}
use Rattle.mux_core.specs.State.{MemberState, CoreState}
use Rattle.mux_core.specs.Entering.{with_client}
use Rattle.mux_core.specs.Calls.{AdmitsOn}
use Rattle.mux_core.proofs.Admits.{on-admit}
use Rattle.mux_core.proofs.state.Core.admit.Goals as goal

by-result : (s : CoreState) (k : ℕ) (cs : List MemberState) (r : Result Bool OutOfMemory) → IfOk r (λ b. b ≡ nat_lt (length s.clients) MAX_CLIENTS) → IfOk r (λ b. cs ≡ with_client b k s.clients) → IfOk r (λ b. AdmitsOn s (record s { clients = cs }) k b)
by-result s k cs (Ok b) exact after = on-admit s (record s { clients = cs }) k b exact (ap (λ (ds : List MemberState). let t : CoreState = record s { clients = ds } in t) after)
by-result s k cs (Err e) exact after = exact

pub returns-clause-stands : goal.returns-clause-stands
returns-clause-stands c =
    let old : CoreState = record {
      policy = c.self.inside.policy;
      channels = c.self.inside.table;
      asks = c.self.inside.askers;
      clients = c.self.inside.clients;
      forwards = c.self.inside.forwards;
    } in
    let new : CoreState = record old { clients = c.enter.new.self } in
    subst (λ (s : CoreState). IfOk c.enter.result (λ b. AdmitsOn s new c.args.client b)) c.self.view_is (by-result old c.args.client c.enter.new.self c.enter.result c.enter.ensures.exact c.enter.ensures.ok)
