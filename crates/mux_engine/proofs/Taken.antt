-- An engine from which bytes were accepted, and one with a client closed.
use Rattle.std.proofs.Common.{◌≡◌, ◌≢◌, ◌≤◌, ◌<◌, ◌-◌, ℕ, zero, suc, Bool, true, false, not, List, [], ◌∷◌, ◌++◌, length, drop, refl, sym, ap, ◌∙◌, subst, cond, arith, length-drop, append-nil}
use Rattle.std.specs.Prelude.{◌==◌}
use Rattle.std.proofs.lemmas.List.Elements.{filter-append}
use Rattle.mux_outside.specs.Streams.{without}
use Rattle.mux_outside.specs.declared.house.HouseReply.{HouseReply}
use Rattle.mux_outside.specs.declared.mark.Mark.{Mark}
use Rattle.mux_outside.specs.declared.mark.Mark.TheVariants.{Takes}
use Rattle.proxy_frames.specs.Queued.{without_first_bytes}
use Rattle.mux_history.specs.Settings.{by_lists}
use Rattle.mux_history.specs.Rows.{Item, Took}
use Rattle.mux_history.specs.Log.{more_all}
use Rattle.mux_history.specs.Journal.{is_own_stream, log_of_journal}
use Rattle.mux_peers.specs.State.{ClientState}
use Rattle.mux_peers.specs.Among.{is_present}
use Rattle.mux_peers.specs.Asked.{asks_of_rows}
use Rattle.mux_state.specs.State.{EngineState, at_client, client_took, closed_by, in_client, numbers, queue_in, took_and_listed, without_client}
use Rattle.mux_state.specs.Events.{here}
use Rattle.mux_state.specs.Stands.{log}
use Rattle.mux_engine.proofs.Lists.{look-none, test-other}
use Rattle.mux_engine.proofs.Logs.{took-log}
use Rattle.mux_engine.proofs.Offers.{SameRun}

-- ---- what stays

numbers-took : (t n : ℕ) (cs : List ClientState) → numbers (at_client t (client_took n) cs) ≡ numbers cs
numbers-took t n [] = refl
numbers-took t n (c ∷ cs) = by_head (c.peer.number == t) (numbers-took t n cs)
  where
    by_head : (b : Bool) → numbers (at_client t (client_took n) cs) ≡ numbers cs → numbers (cond b (client_took n c ∷ cs) (c ∷ at_client t (client_took n) cs)) ≡ c.peer.number ∷ numbers cs
    by_head true ih = refl
    by_head false ih = ap (λ l. c.peer.number ∷ l) ih

abbrev after : EngineState → ℕ → ℕ → Bool → EngineState
after s t n b = cond b (record s { up = without_first_bytes n s.up }) (record s { clients = at_client t (client_took n) s.clients })

taken-run : (s : EngineState) (t n : ℕ) → SameRun s (took_and_listed s t n)
taken-run s t n = by_server (t == 0)
  where
    by_server : (b : Bool) → SameRun s (record (after s t n b) { waiting = (took_and_listed s t n).waiting })
    by_server true = record { policy = refl; pid = refl; streams = refl; ended = refl; listening = refl }
    by_server false = record { policy = refl; pid = refl; streams = ap (λ l. l ++ s.refused) (numbers-took t n s.clients); ended = refl; listening = refl }

pub took-run : (s s' : EngineState) (t n : ℕ) → s' ≡ took_and_listed s t n → SameRun s s'
took-run s s' t n e = subst (SameRun s) (sym e) (taken-run s t n)

-- nothing is asked by it
pub took-asks : (s s' : EngineState) (t : ℕ) (bytes : List ℕ) (accepts : Bool) (marks : List Mark) → SameRun s s' → (picks : List ℕ) (replies : List HouseReply) → asks_of_rows (log s' picks replies (Takes t bytes accepts ∷ marks)) ≡ asks_of_rows (log s picks replies marks)
took-asks s s' t bytes accepts marks same picks replies =
    ap (λ x. asks_of_rows (log_of_journal (by_lists x s'.pid picks replies) (Takes t bytes accepts ∷ marks))) same.policy
    ∙ (ap (λ x. asks_of_rows (log_of_journal (by_lists s.core.policy x picks replies) (Takes t bytes accepts ∷ marks))) same.pid
    ∙ by_own (is_own_stream t))
  where
    by_own : (b : Bool) → asks_of_rows (more_all (by_lists s.core.policy s.pid picks replies) (log s picks replies marks) (elim b as (λ _. List Item) [ true ↦ [] | false ↦ Took t (length bytes) ∷ [] ])) ≡ asks_of_rows (log s picks replies marks)
    by_own true = refl
    by_own false = ap asks_of_rows (took-log s.core.policy s.pid picks replies (log s picks replies marks) t (length bytes)) ∙ append-nil (asks_of_rows (log s picks replies marks))

-- ---- what waits is less

drop-none : (n : ℕ) → drop {A = ℕ} n [] ≡ []
drop-none zero = refl
drop-none (suc n) = refl

look-took : (k n : ℕ) (cs : List ClientState) → in_client [] (λ c. c.peer.queue) (at_client k (client_took n) cs) k ≡ drop n (in_client [] (λ c. c.peer.queue) cs k)
look-took k n [] = sym (drop-none n)
look-took k n (c ∷ cs) = by_head (c.peer.number == k) refl (look-took k n cs)
  where
    by_head : (b : Bool) → (c.peer.number == k) ≡ b → in_client [] (λ c. c.peer.queue) (at_client k (client_took n) cs) k ≡ drop n (in_client [] (λ c. c.peer.queue) cs k)
        → in_client [] (λ c. c.peer.queue) (cond b (client_took n c ∷ cs) (c ∷ at_client k (client_took n) cs)) k ≡ drop n (cond b c.peer.queue (in_client [] (λ c. c.peer.queue) cs k))
    by_head true e ih = ap (λ b. cond b (drop n c.peer.queue) (in_client [] (λ c. c.peer.queue) cs k)) e
    by_head false e ih = ap (λ b. cond b c.peer.queue (in_client [] (λ c. c.peer.queue) (at_client k (client_took n) cs) k)) e ∙ ih

taken-queue : (s : EngineState) (k n : ℕ) → queue_in (took_and_listed s k n) k ≡ drop n (queue_in s k)
taken-queue s k n = by_server (k == 0) refl
  where
    by_server : (b : Bool) → (k == 0) ≡ b → cond b (after s k n b).up.waiting (in_client [] (λ c. c.peer.queue) (after s k n b).clients k) ≡ drop n (cond b s.up.waiting (in_client [] (λ c. c.peer.queue) s.clients k))
    by_server true e = refl
    by_server false e = look-took k n s.clients

pub took-less : (s s' : EngineState) (k n : ℕ) → s' ≡ took_and_listed s k n → 1 ≤ n → n ≤ length (queue_in s k) → length (queue_in s' k) < length (queue_in s k)
took-less s s' k n e one fits =
    let q : queue_in s' k ≡ drop n (queue_in s k) = ap (λ (t : EngineState). queue_in t k) e ∙ taken-queue s k n in
    let l : length (queue_in s' k) ≡ length (queue_in s k) - n = ap length q ∙ length-drop n (queue_in s k) in
    omega arith

-- a client for which something waits was admitted
pub queue-present : (s : EngineState) (k : ℕ) (bytes : List ℕ) → bytes ≡ queue_in s k → 0 < length bytes → k ≢ 0 → is_present s.clients k ≡ true
queue-present s k bytes e some nz = by_present (is_present s.clients k) refl
  where
    by_present : (b : Bool) → is_present s.clients k ≡ b → b ≡ true
    by_present true h = refl
    by_present false h =
        let q : queue_in s k ≡ [] = ap (λ b. cond b s.up.waiting (in_client [] (λ c. c.peer.queue) s.clients k)) (test-other k 0 nz) ∙ look-none [] (λ c. c.peer.queue) k s.clients h in
        let l : length bytes ≡ 0 = ap length (e ∙ q) in
        absurd (omega arith)

-- ---- a client less

without-numbers : (k : ℕ) (cs : List ClientState) → without k (numbers cs) ≡ numbers (without_client k cs)
without-numbers k [] = refl
without-numbers k (c ∷ cs) = by_test (c.peer.number == k) (without-numbers k cs)
  where
    by_test : (b : Bool) → without k (numbers cs) ≡ numbers (without_client k cs) → cond (not b) (c.peer.number ∷ without k (numbers cs)) (without k (numbers cs)) ≡ numbers (cond (not b) (c ∷ without_client k cs) (without_client k cs))
    by_test true ih = ih
    by_test false ih = ap (λ l. c.peer.number ∷ l) ih

pub here-less : (s : EngineState) (k : ℕ) → without k (here s) ≡ here (closed_by s k)
here-less s k = filter-append (λ (j : ℕ). not (j == k)) (numbers s.clients) s.refused ∙ ap (λ l. l ++ without k s.refused) (without-numbers k s.clients)
