-- The parts of an engine after bytes were accepted or a stream was closed.
use Rattle.std.proofs.Common.{◌≡◌, ℕ, Bool, true, false, not, List, [], Option, length, sym, ap, ◌∙◌, subst, cond}
use Rattle.std.specs.Prelude.{◌==◌, filter}
use Rattle.proxy_frames.specs.Queued.{without_first_bytes}
use Rattle.proxy_frames.specs.State.{QueueState}
use Rattle.mux_outside.specs.Streams.{without}
use Rattle.mux_outside.specs.declared.mark.Mark.TheVariants.{Takes}
use Rattle.mux_history.specs.Promises.{is_empty}
use Rattle.mux_history.specs.declared.why.Why.{Why}
use Rattle.mux_peers.specs.State.{ClientState, ClientsState}
use Rattle.mux_state.specs.Ready.{IsEngineSound}
use Rattle.mux_state.specs.Stands.{GoesAlone}
use Rattle.mux_state.specs.State.{EngineState, at_client, client_took, closed_by, in_client, took_and_listed, without_client}
use Rattle.mux_state.specs.Steps.{bytes_waiting_for}
use Rattle.mux_state.proofs.Sound.{sound-taken}
use Rattle.mux_state.proofs.Takes.{goes-took}

pub record TakeParts (parts : EngineState) (t n : ℕ) (cs : ClientsState) (up : QueueState) (empty : Bool) (ws : List ℕ) : Type 0 where
  pub up_is : up ≡ cond (t == 0) (without_first_bytes n parts.up) parts.up
  pub clients_are : cs.all ≡ cond (t == 0) parts.clients (at_client t (client_took n) parts.clients)
  pub leaving_is : cs.leaving ≡ parts.leaving
  pub empty_is : empty ≡ is_empty (bytes_waiting_for up cs.all t)
  pub waits : ws ≡ cond empty (without t parts.waiting) parts.waiting

-- where nothing waits for the stream any more it is removed from the list of those that wait
pub take-parts : (parts : EngineState) (t n : ℕ) (cs : ClientsState) (up : QueueState) (empty left : Bool) (ws : List ℕ) → up ≡ cond (t == 0) (without_first_bytes n parts.up) parts.up → cs.all ≡ cond (t == 0) parts.clients (at_client t (client_took n) parts.clients) → cs.leaving ≡ parts.leaving → empty ≡ is_empty (bytes_waiting_for up cs.all t)
    → empty ≡ left → ws ≡ cond left (without t parts.waiting) parts.waiting → TakeParts parts t n cs up empty ws
take-parts parts t n cs up empty left ws up_is clients_are leaving_is empty_is is waits = record {
  up_is = up_is;
  clients_are = clients_are;
  leaving_is = leaving_is;
  empty_is = empty_is;
  waits = waits ∙ sym (ap (λ b. cond b (without t parts.waiting) parts.waiting) is);
}

abbrev pub take_new : EngineState → ClientsState → QueueState → List ℕ → EngineState
take_new parts cs up ws = record parts { up = up; clients = cs.all; leaving = cs.leaving; waiting = ws }

-- with the clients as they are
take-as : (parts : EngineState) (t n : ℕ) (cs : List ClientState) (up : QueueState) (empty : Bool) (ws : List ℕ) → up ≡ cond (t == 0) (without_first_bytes n parts.up) parts.up → cs ≡ cond (t == 0) parts.clients (at_client t (client_took n) parts.clients) → empty ≡ is_empty (bytes_waiting_for up cs t) → ws ≡ cond empty (without t parts.waiting) parts.waiting
    → record parts { up = up; clients = cs; waiting = ws } ≡ took_and_listed parts t n
take-as parts t n cs up empty ws u k e w = by_server (t == 0) u k (w ∙ ap (λ b. cond b (without t parts.waiting) parts.waiting) e)
  where
    after : Bool → EngineState
    after b = cond b (record parts { up = without_first_bytes n parts.up }) (record parts { clients = at_client t (client_took n) parts.clients })

    left : Bool → EngineState → List ℕ
    left b s = cond b s.up.waiting (in_client [] (λ c. c.peer.queue) s.clients t)

    by_server : (b : Bool) → up ≡ cond b (without_first_bytes n parts.up) parts.up → cs ≡ cond b parts.clients (at_client t (client_took n) parts.clients) → ws ≡ cond (is_empty (cond b up.waiting (in_client [] (λ c. c.peer.queue) cs t))) (without t parts.waiting) parts.waiting
        → record parts { up = up; clients = cs; waiting = ws } ≡ record (after b) { waiting = cond (is_empty (left b (after b))) (without t parts.waiting) parts.waiting }
    by_server true u k w =
        ap (λ (l : List ℕ). record parts { up = up; clients = cs; waiting = l }) w
        ∙ (ap (λ (q : QueueState). record parts { up = q; clients = cs; waiting = cond (is_empty q.waiting) (without t parts.waiting) parts.waiting }) u
        ∙ ap (λ (l : List ClientState). record parts { up = without_first_bytes n parts.up; clients = l; waiting = cond (is_empty (without_first_bytes n parts.up).waiting) (without t parts.waiting) parts.waiting }) k)
    by_server false u k w =
        ap (λ (l : List ℕ). record parts { up = up; clients = cs; waiting = l }) w
        ∙ (ap (λ (q : QueueState). record parts { up = q; clients = cs; waiting = cond (is_empty (in_client [] (λ c. c.peer.queue) cs t)) (without t parts.waiting) parts.waiting }) u
        ∙ ap (λ (l : List ClientState). record parts { clients = l; waiting = cond (is_empty (in_client [] (λ c. c.peer.queue) l t)) (without t parts.waiting) parts.waiting }) k)

pub take-written : (parts : EngineState) (t n : ℕ) (cs : ClientsState) (up : QueueState) (empty : Bool) (ws : List ℕ) → TakeParts parts t n cs up empty ws → take_new parts cs up ws ≡ took_and_listed parts t n
take-written parts t n cs up empty ws p =
    ap (λ (l : List (ℕ × Option Why)). record parts { up = up; clients = cs.all; leaving = l; waiting = ws }) p.leaving_is
    ∙ take-as parts t n cs.all up empty ws p.up_is p.clients_are p.empty_is p.waits

pub sound-take : (parts : EngineState) (t n : ℕ) (cs : ClientsState) (up : QueueState) (empty : Bool) (ws : List ℕ) → IsEngineSound parts → TakeParts parts t n cs up empty ws → IsEngineSound (take_new parts cs up ws)
sound-take parts t n cs up empty ws h p = subst IsEngineSound (sym (take-written parts t n cs up empty ws p)) (sound-taken parts t n h)

pub goes-take : (now parts : EngineState) (t n : ℕ) (cs : ClientsState) (up : QueueState) (empty : Bool) (ws : List ℕ) → parts ≡ now → TakeParts parts t n cs up empty ws → (bytes : List ℕ) (accepts : Bool) → length bytes ≡ n → GoesAlone now (take_new parts cs up ws) (Takes t bytes accepts)
goes-take now parts t n cs up empty ws view p bytes accepts size = subst (λ (x : EngineState). GoesAlone now x (Takes t bytes accepts)) (sym (take-written parts t n cs up empty ws p ∙ ap (λ (x : EngineState). took_and_listed x t n) view)) (goes-took now t n bytes accepts size)

-- ---- a stream that was closed

abbrev pub close_new : EngineState → List ClientState → List ℕ → List (ℕ × Option Why) → List ℕ → EngineState
close_new parts cs refused ls ws = record parts { clients = cs; refused = refused; leaving = ls; waiting = ws }

pub close-written : (parts : EngineState) (k : ℕ) (cs : List ClientState) (refused : List ℕ) (ls : List (ℕ × Option Why)) (ws : List ℕ) → cs ≡ without_client k parts.clients → refused ≡ without k parts.refused → ls ≡ filter (λ (l : ℕ × Option Why). not (l.0 == k)) parts.leaving → ws ≡ without k parts.waiting
    → close_new parts cs refused ls ws ≡ closed_by parts k
close-written parts k cs refused ls ws a b c d =
    ap (λ (x : List ClientState). close_new parts x refused ls ws) a
    ∙ (ap (λ (x : List ℕ). close_new parts (without_client k parts.clients) x ls ws) b
    ∙ (ap (λ (x : List (ℕ × Option Why)). close_new parts (without_client k parts.clients) (without k parts.refused) x ws) c
    ∙ ap (λ (x : List ℕ). close_new parts (without_client k parts.clients) (without k parts.refused) (filter (λ (l : ℕ × Option Why). not (l.0 == k)) parts.leaving) x) d))
