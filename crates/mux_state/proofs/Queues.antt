-- What waits for each stream, by the rows.
use Rattle.std.proofs.Common.{◌≡◌, ◌≢◌, ℕ, Bool, true, false, not, ◌||◌, List, [], ◌∷◌, refl, sym, ap, ◌∙◌, inl, inr, cond}
use Rattle.std.specs.Prelude.{◌==◌}
use Rattle.std.proofs.lemmas.Bool.{eqb-true}
use Rattle.std.proofs.lemmas.Bool.Decides.{eqb_tells}
use Rattle.mux_outside.specs.declared.house_mark.HouseMark.{HouseMark as Asked}
use Rattle.mux_outside.specs.Streams.{among}
use Rattle.mux_history.specs.Rows.{Row, rows_of}
use Rattle.mux_history.specs.Pending.{pending, pending_down, pending_up}
use Rattle.mux_history.specs.Promises.{has_output, is_empty}
use Rattle.mux_peers.specs.State.{ClientState}
use Rattle.mux_peers.specs.Among.{ArePeersApart, EachFits, is_present}
use Rattle.mux_state.specs.State.{EngineState, queue_in, waiting_clients, waiting_streams}
use Rattle.mux_state.specs.Stands.{RowsFit}
use Rattle.mux_state.proofs.Lists.{either, not_here, test_other}
use Rattle.mux_state.proofs.Waits.{queue_at}

-- ---- the queue of one client

found-queue : (rows : List Row) (cs : List ClientState) (k : ℕ) → EachFits rows cs → is_present cs k ≡ true → queue_at cs k ≡ pending_down (rows_of k rows)
found-queue rows [] k each here = absurd (cc)
found-queue rows (c ∷ cs) k each here = by_head (c.peer.number == k) refl here (found-queue rows cs k each.1)
  where
    by_head : (b : Bool) → (c.peer.number == k) ≡ b → either b (is_present cs k) ≡ true → (is_present cs k ≡ true → queue_at cs k ≡ pending_down (rows_of k rows)) → cond b c.peer.queue (queue_at cs k) ≡ pending_down (rows_of k rows)
    by_head true e p ih = each.0.peer.queue_is ∙ ap (λ j. pending_down (rows_of j rows)) (eqb-true c.peer.number k e)
    by_head false e p ih = ih p

no-queue : (cs : List ClientState) (k : ℕ) → is_present cs k ≡ false → queue_at cs k ≡ []
no-queue [] k gone = refl
no-queue (c ∷ cs) k gone = let q : (c.peer.number ≢ k) × (is_present cs k ≡ false) = not_here k c cs gone in
    ap (λ b. cond b c.peer.queue (queue_at cs k)) (test_other c.peer.number k q.0) ∙ no-queue cs k q.1

client-pending : (taken : ℕ) (dn : List Asked) (s : EngineState) (closed : List ℕ) (rows : List Row) (k : ℕ) → RowsFit taken dn s closed rows → k ≢ 0 → among k closed ≡ false → queue_at s.clients k ≡ pending_down (rows_of k rows)
client-pending taken dn s closed rows k st nz unclosed = by_here (is_present s.clients k) (among k s.refused) refl refl
  where
    by_here : (a b : Bool) → is_present s.clients k ≡ a → among k s.refused ≡ b → queue_at s.clients k ≡ pending_down (rows_of k rows)
    by_here true b e r = found-queue rows s.clients k st.fit.each e
    by_here false true e r = no-queue s.clients k e ∙ sym (ap pending_down (st.refused_only k r))
    by_here false false e r = no-queue s.clients k e ∙ sym (ap pending_down (st.absent k nz (ap (λ b. b || among k s.refused) e ∙ r) unclosed))

-- what waits for a stream that is not closed is pending
pub queue-pending : (taken : ℕ) (dn : List Asked) (s : EngineState) (closed : List ℕ) (rows : List Row) (k : ℕ) → RowsFit taken dn s closed rows → among k closed ≡ false → queue_in s k ≡ pending k rows
queue-pending taken dn s closed rows k st unclosed = elim (eqb_tells k 0) [
  | inl q ↦ ap (λ b. cond b s.up.waiting (queue_at s.clients k)) q.0 ∙ (st.fit.up ∙ sym (ap (λ b. by_stream b) q.0))
  | inr q ↦ ap (λ b. cond b s.up.waiting (queue_at s.clients k)) q.0 ∙ (client-pending taken dn s closed rows k st q.1 unclosed ∙ sym (ap (λ b. by_stream b) q.0))
]
  where
    by_stream : Bool → List ℕ
    by_stream b = elim b as (λ _. List ℕ) [ true ↦ pending_up rows | false ↦ pending_down (rows_of k rows) ]

-- ---- the streams that wait

none-waits : (k : ℕ) (cs : List ClientState) → is_present cs k ≡ false → among k (waiting_clients cs) ≡ false
none-waits k [] p = refl
none-waits k (c ∷ cs) p = let q : (c.peer.number ≢ k) × (is_present cs k ≡ false) = not_here k c cs p in by_empty (is_empty c.peer.queue) (test_other c.peer.number k q.0) (none-waits k cs q.1)
  where
    by_empty : (b : Bool) → (c.peer.number == k) ≡ false → among k (waiting_clients cs) ≡ false → among k (cond b (waiting_clients cs) (c.peer.number ∷ waiting_clients cs)) ≡ false
    by_empty true e h = h
    by_empty false e h = ap (λ b. b || among k (waiting_clients cs)) e ∙ h

waits-head : (k : ℕ) (c : ClientState) (cs : List ClientState) (b e : Bool) → (c.peer.number == k) ≡ b → is_empty c.peer.queue ≡ e → (b ≡ true → among k (waiting_clients cs) ≡ false) → among k (waiting_clients cs) ≡ not (is_empty (queue_at cs k))
    → among k (cond e (waiting_clients cs) (c.peer.number ∷ waiting_clients cs)) ≡ not (is_empty (cond b c.peer.queue (queue_at cs k)))
waits-head k c cs true true t e none ih = none refl ∙ sym (ap not e)
waits-head k c cs true false t e none ih = ap (λ b. b || among k (waiting_clients cs)) t ∙ sym (ap not e)
waits-head k c cs false true t e none ih = ih
waits-head k c cs false false t e none ih = ap (λ b. b || among k (waiting_clients cs)) t ∙ ih

-- a client waits where something waits for it
client-waits : (k : ℕ) (cs : List ClientState) → ArePeersApart cs → among k (waiting_clients cs) ≡ not (is_empty (queue_at cs k))
client-waits k [] apart = refl
client-waits k (c ∷ cs) apart = waits-head k c cs (c.peer.number == k) (is_empty c.peer.queue) refl refl (λ t. none-waits k cs (ap (is_present cs) (sym (eqb-true c.peer.number k t)) ∙ apart.0)) (client-waits k cs apart.1)

no-server : (rows : List Row) (cs : List ClientState) → EachFits rows cs → is_present cs 0 ≡ false
no-server rows [] e = refl
no-server rows (c ∷ cs) e = ap (λ b. either b (is_present cs 0)) e.0.nonzero ∙ no-server rows cs e.1

-- a stream waits where something waits for it
stream-waits : (rows : List Row) (s : EngineState) (k : ℕ) → EachFits rows s.clients → ArePeersApart s.clients → among k (waiting_streams s) ≡ not (is_empty (queue_in s k))
stream-waits rows s k each apart = elim (eqb_tells k 0) [
  | inl q ↦ by_up (is_empty s.up.waiting) q.1 ∙ sym (ap (λ b. not (is_empty (cond b s.up.waiting (queue_at s.clients k)))) q.0)
  | inr q ↦ others (is_empty s.up.waiting) q.1 ∙ (client-waits k s.clients apart ∙ sym (ap (λ b. not (is_empty (cond b s.up.waiting (queue_at s.clients k)))) q.0))
]
  where
    none : k ≡ 0 → among k (waiting_clients s.clients) ≡ false
    none z = none-waits k s.clients (ap (is_present s.clients) z ∙ no-server rows s.clients each)

    by_up : (e : Bool) → k ≡ 0 → among k (cond e (waiting_clients s.clients) (0 ∷ waiting_clients s.clients)) ≡ not e
    by_up true z = none z
    by_up false z = ap (λ b. b || among k (waiting_clients s.clients)) (Rattle.std.proofs.lemmas.Bool.eq-eqb 0 k (sym z))

    others : (e : Bool) → k ≢ 0 → among k (cond e (waiting_clients s.clients) (0 ∷ waiting_clients s.clients)) ≡ among k (waiting_clients s.clients)
    others true nz = refl
    others false nz = ap (λ b. b || among k (waiting_clients s.clients)) (test_other 0 k (λ e. nz (sym e)))

pub waits-output : (taken : ℕ) (dn : List Asked) (s : EngineState) (closed : List ℕ) (rows : List Row) (k : ℕ) → RowsFit taken dn s closed rows → among k closed ≡ false → among k s.waiting ≡ has_output rows k
waits-output taken dn s closed rows k st unclosed = ap (among k) st.waiting_is ∙ (stream-waits rows s k st.fit.each st.fit.apart ∙ ap (λ q. not (is_empty q)) (queue-pending taken dn s closed rows k st unclosed))
