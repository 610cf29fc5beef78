-- The answers of the functions for a client's requests.
use Rattle.std.proofs.Common.{◌≡◌, ◌≤◌, ◌<◌, ℕ, List, [], ◌∷◌, ◌++◌, true, false, Bool, refl, ◌∙◌, ap, Ok, Err, Result, IfOk, OnOk, arith}
use Rattle.std.specs.Prelude.{◌&&◌, nat_lt}
use Rattle.std.proofs.lemmas.Bool.Decides.{nat_tests}
use Rattle.ssh_fields.specs.declared.out_of_memory.OutOfMemory.{OutOfMemory}
use Rattle.ssh_grammar.specs.Messages.{Global, Key, Forward, Cancel}
use Rattle.ssh_grammar.specs.Frames.{frame_payload}
use Rattle.proxy_frames.specs.State.{QueueState}
use Rattle.proxy_frames.specs.Queued.{with_bytes}
use Rattle.mux_history.specs.declared.limits.TheConstants.{MAX_FORWARDINGS}
use Rattle.mux_history.specs.Keys.{is_askable}
use Rattle.mux_history.specs.Summary.{Requests}
use Rattle.mux_history.specs.Policy.{permits}
use Rattle.mux_history.specs.Rows.{Row, rows_of}
use Rattle.mux_history.specs.Said.{sent_request, sends_if, silent}
use Rattle.forward_rules.specs.Step.{asked_forward, forward_count_of, some_free}
use Rattle.mux_core.specs.declared.verdict.Verdict.{Verdict}
use Rattle.mux_core.specs.declared.verdict.Verdict.TheVariants as verdict
use Rattle.mux_core.specs.State.{CoreState}
use Rattle.mux_core.specs.Stands.{CoreRepresents}
use Rattle.mux_core.specs.Calls.{SendsAs}
use Rattle.mux_core.specs.Requesting.{SendsRoomy, after_refusal, is_one_too_many, may_ask, more_awaited, refusal_verdict, member_waiting_of, with_waiting}
use Rattle.mux_core.proofs.Requested.{ask_of}
use Rattle.mux_core.proofs.SendsRequests.{cancel-does, forward-does, forward-sent}
use Rattle.mux_core.proofs.Refused.{refused}

pub refused-result : (s new : CoreState) (k : ℕ) (p : List ℕ) (what : Global) (want : Bool) (up : QueueState) (r : Result Verdict OutOfMemory) → IfOk r (λ v. v ≡ refusal_verdict want (member_waiting_of k s.clients)) → OnOk r (new ≡ record s { clients = after_refusal want k s.clients }) → ((rows : List Row) → CoreRepresents s rows → sent_request s.policy k (rows_of k rows) p what want ≡ silent) → IfOk r (λ v. SendsRoomy s new k p what want up up v)
refused-result s new k p what want up (Ok v) is after does = refused s new k p what want v up is after does
refused-result s new k p what want up (Err x) is after does = is

pub roomy-result : (s new : CoreState) (k : ℕ) (p : List ℕ) (what : Global) (want : Bool) (up up' : QueueState) (r : Result Verdict OutOfMemory) → is_one_too_many want (member_waiting_of k s.clients) ≡ false → IfOk r (λ v. SendsRoomy s new k p what want up up' v) → IfOk r (λ v. SendsAs s new k p (Requests what want) 0 up up' v)
roomy-result s new k p what want up up' (Ok v) room says = says room
roomy-result s new k p what want up up' (Err x) room says = says

pub forward-not : (s : CoreState) (k : ℕ) (p : List ℕ) (key : Key) (want : Bool) → may_ask s.policy key want ≡ false → (rows : List Row) → CoreRepresents s rows → sent_request s.policy k (rows_of k rows) p (Forward key) want ≡ silent
forward-not s k p key want deny rows st = forward-does s k p key want rows st ∙ ap (λ b. sends_if b p) (none want (is_askable key) (permits s.policy.listens key) (nat_lt (forward_count_of s.forwards k) MAX_FORWARDINGS) deny)
  where
    none : (a b c d : Bool) → (a && (b && c)) ≡ false → (a && (b && (c && d))) ≡ false
    none false b c d h = refl
    none true false c d h = refl
    none true true false d h = refl
    none true true true d h = cc

pub forward-full : (s : CoreState) (k : ℕ) (p : List ℕ) (key : Key) (want : Bool) → MAX_FORWARDINGS ≤ forward_count_of s.forwards k → (rows : List Row) → CoreRepresents s rows → sent_request s.policy k (rows_of k rows) p (Forward key) want ≡ silent
forward-full s k p key want full rows st = forward-does s k p key want rows st ∙ ap (λ b. sends_if b p) (none want (is_askable key) (permits s.policy.listens key) (nat_lt (forward_count_of s.forwards k) MAX_FORWARDINGS) (lt-no (forward_count_of s.forwards k) MAX_FORWARDINGS full))
  where
    lt-no : (a b : ℕ) → b ≤ a → nat_lt a b ≡ false
    lt-no a b h = grind (arith, nat_tests)

    none : (a b c d : Bool) → d ≡ false → (a && (b && (c && d))) ≡ false
    none false b c d h = refl
    none true false c d h = refl
    none true true false d h = refl
    none true true true d h = h

pub forward-goes : (s new : CoreState) (k : ℕ) (p : List ℕ) (key : Key) (want : Bool) (up : QueueState) → may_ask s.policy key want ≡ true → forward_count_of s.forwards k < MAX_FORWARDINGS → new ≡ record s { asks = s.asks ++ ask_of k (Forward key) ∷ []; clients = with_waiting k more_awaited s.clients; forwards = s.forwards ++ asked_forward k key ∷ [] } → SendsRoomy s new k p (Forward key) want up (with_bytes (frame_payload p) up) verdict.Sent
forward-goes s new k p key false up may few after = absurd (cc)
forward-goes s new k p key true up may few after = forward-sent s new k p key up (first (is_askable key) (permits s.policy.listens key) may) (last (is_askable key) (permits s.policy.listens key) may) few after
  where
    first : (a b : Bool) → (a && b) ≡ true → a ≡ true
    first true b h = refl
    first false b h = cc

    last : (a b : Bool) → (a && b) ≡ true → b ≡ true
    last true b h = h
    last false b h = cc

pub cancel-not : (s : CoreState) (k : ℕ) (p : List ℕ) (key : Key) (want : Bool) → some_free k key s.forwards ≡ false → (rows : List Row) → CoreRepresents s rows → sent_request s.policy k (rows_of k rows) p (Cancel key) want ≡ silent
cancel-not s k p key want none rows st = cancel-does s k p key want rows st ∙ ap (λ b. sends_if b p) none
