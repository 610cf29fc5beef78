use Rattle.std.proofs.Common.{◌≡◌, List, [], true, inl, refl, ◌∙◌}
use Rattle.std.specs.Prelude.{IsOk}
use Rattle.conf_rules.specs.Texts.{Bytes}
use Rattle.forward_rules.specs.Allows.{read_policy}
use Rattle.mux_history.specs.Policy.{any_policy}
use Rattle.ssh_mux.specs.Sharing.{policy_of}
use Rattle.std.proofs.lemmas.Result.{err_from_is_err_and}
use Rattle.ssh_mux.proofs.MasterLemmas.{starved-counts}
use Rattle.ssh_mux.proofs.drill.serve_drill.Goals as goal

-- lists without an entry permit anything
any-read : (os ls : List Bytes) → os ≡ [] → ls ≡ [] → IsOk (read_policy os ls true)
any-read os ls e f = rw (e, f) refl

any-lists : (os ls hs : List Bytes) → os ≡ [] → ls ≡ [] → policy_of (record { opens = os; listens = ls; sessions = true; here = hs }) ≡ any_policy
any-lists os ls hs e f = rw (e, f) refl

pub policy_of-requires : goal.policy_of-requires
policy_of-requires g c = record { permitted = any-read c.new-opens.result c.new-listens.result c.new-opens.ensures c.new-listens.ensures }

pub returns-in_err-transport-clause-ends : goal.returns-in_err-transport-clause-ends
returns-in_err-transport-clause-ends g c = let p = err_from_is_err_and c.from_residual.result c.from_residual.ensures.1 in rw (p.1, p.2) refl

pub returns-in_err-transport-clause-opened : goal.returns-in_err-transport-clause-opened
returns-in_err-transport-clause-opened g c = let p = err_from_is_err_and c.from_residual.result c.from_residual.ensures.1 in rw (p.1, p.2) (inl refl)

pub returns-in_err-transport-clause-served : goal.returns-in_err-transport-clause-served
returns-in_err-transport-clause-served g c = let p = err_from_is_err_and c.from_residual.result c.from_residual.ensures.1 in rw (p.1, p.2) (inl (record { same_wire = refl; same_house = refl }))

pub returns-in_err-transport-clause-start : goal.returns-in_err-transport-clause-start
returns-in_err-transport-clause-start g c = let p = err_from_is_err_and c.from_residual.result c.from_residual.ensures.1 in rw (p.1, p.2) tt

pub returns-in_err-transport-clause-wire : goal.returns-in_err-transport-clause-wire
returns-in_err-transport-clause-wire g c = let p = err_from_is_err_and c.from_residual.result c.from_residual.ensures.1 in rw (p.1, p.2) (starved-counts _ _ _ _)

pub returns-in_err-policy-clause-ends : goal.returns-in_err-policy-clause-ends
returns-in_err-policy-clause-ends g c = let p = err_from_is_err_and c.from_residual-in_err-policy.result c.from_residual-in_err-policy.ensures.1 in let e = c.in_err-policy.ensures.err in rw (p.1, p.2, e) refl

pub returns-in_err-policy-clause-opened : goal.returns-in_err-policy-clause-opened
returns-in_err-policy-clause-opened g c = let p = err_from_is_err_and c.from_residual-in_err-policy.result c.from_residual-in_err-policy.ensures.1 in let e = c.in_err-policy.ensures.err in rw (p.1, p.2, e) (inl refl)

pub returns-in_err-policy-clause-served : goal.returns-in_err-policy-clause-served
returns-in_err-policy-clause-served g c = let p = err_from_is_err_and c.from_residual-in_err-policy.result c.from_residual-in_err-policy.ensures.1 in let e = c.in_err-policy.ensures.err in rw (p.1, p.2, e) (inl (record { same_wire = refl; same_house = refl }))

pub returns-in_err-policy-clause-start : goal.returns-in_err-policy-clause-start
returns-in_err-policy-clause-start g c = let p = err_from_is_err_and c.from_residual-in_err-policy.result c.from_residual-in_err-policy.ensures.1 in let e = c.in_err-policy.ensures.err in rw (p.1, p.2, e) tt

pub returns-in_err-policy-clause-wire : goal.returns-in_err-policy-clause-wire
returns-in_err-policy-clause-wire g c = let p = err_from_is_err_and c.from_residual-in_err-policy.result c.from_residual-in_err-policy.ensures.1 in let e = c.in_err-policy.ensures.err in rw (p.1, p.2, e) (starved-counts _ _ _ _)

pub returns-clause-opened : goal.returns-clause-opened
returns-clause-opened g c = rw (c.new-control.ensures, c.in_ok-transport.ensures, c.as_slice.ensures) at c.open_and_serve.ensures.opened

pub returns-clause-served : goal.returns-clause-served
returns-clause-served g c = rw (c.in_ok-policy.ensures.exact ∙ any-lists c.new-opens.result c.new-listens.result c.new-here.result c.new-opens.ensures c.new-listens.ensures) at c.open_and_serve.ensures.served

pub returns-clause-start : goal.returns-clause-start
returns-clause-start g c = c.open_and_serve.ensures.start

pub returns-clause-wire : goal.returns-clause-wire
returns-clause-wire g c = c.open_and_serve.ensures.wire
