-- The streams that wait, after bytes were accepted by one.
use Rattle.std.proofs.Common.{◌≡◌, ◌≢◌, ℕ, Bool, true, false, List, [], ◌∷◌, drop, refl, sym, ap, ◌∙◌, inl, inr, cond, arith}
use Rattle.std.specs.Prelude.{◌==◌}
use Rattle.std.proofs.lemmas.Bool.{eqb-true}
use Rattle.std.proofs.lemmas.Bool.Decides.{eqb_tells}
use Rattle.std.proofs.lemmas.Grind.{common_steps}
use Rattle.mux_outside.specs.Streams.{without}
use Rattle.mux_history.specs.Rows.{Row}
use Rattle.mux_history.specs.Promises.{is_empty}
use Rattle.mux_peers.specs.State.{ClientState}
use Rattle.mux_peers.specs.Among.{ArePeersApart, EachFits, is_present}
use Rattle.mux_state.specs.State.{EngineState, at_client, client_took, in_client, took_and_listed, waiting_clients, waiting_streams}
use Rattle.mux_state.proofs.Lists.{either, not_here, test_other, without_head}

abbrev pub queue_at : List ClientState → ℕ → List ℕ
queue_at cs k = in_client [] (λ c. c.peer.queue) cs k

pub absent_waiting : (k : ℕ) (cs : List ClientState) → is_present cs k ≡ false → without k (waiting_clients cs) ≡ waiting_clients cs
absent_waiting k [] p = refl
absent_waiting k (c ∷ cs) p = let q : (c.peer.number ≢ k) × (is_present cs k ≡ false) = not_here k c cs p in by_empty (is_empty c.peer.queue) (test_other c.peer.number k q.0) (absent_waiting k cs q.1)
  where
    by_empty : (b : Bool) → (c.peer.number == k) ≡ false → without k (waiting_clients cs) ≡ waiting_clients cs → without k (cond b (waiting_clients cs) (c.peer.number ∷ waiting_clients cs)) ≡ cond b (waiting_clients cs) (c.peer.number ∷ waiting_clients cs)
    by_empty true e ih = ih
    by_empty false e ih = without_head k c.peer.number (waiting_clients cs) false e ∙ ap (λ l. c.peer.number ∷ l) ih

abbrev pub no_bytes : List ℕ
no_bytes = []

drop_empty : (n : ℕ) (q : List ℕ) → is_empty q ≡ true → is_empty (drop n q) ≡ true
drop_empty n [] e = ap is_empty (drop_nothing n)
  where
    nothing : List ℕ
    nothing = []

    drop_nothing : (n : ℕ) → drop n nothing ≡ nothing
    drop_nothing n = grind (arith, common_steps)
drop_empty n (b ∷ q) e = absurd (cc)

took_own : (k n : ℕ) (c : ClientState) (cs : List ClientState) (e' e : Bool) → (c.peer.number == k) ≡ true → is_empty (drop n c.peer.queue) ≡ e' → is_empty c.peer.queue ≡ e → without k (waiting_clients cs) ≡ waiting_clients cs
    → cond e' (waiting_clients cs) (c.peer.number ∷ waiting_clients cs) ≡ cond e' (without k (cond e (waiting_clients cs) (c.peer.number ∷ waiting_clients cs))) (cond e (waiting_clients cs) (c.peer.number ∷ waiting_clients cs))
took_own k n c cs true true t p q a = sym a
took_own k n c cs true false t p q a = sym (without_head k c.peer.number (waiting_clients cs) true t ∙ a)
took_own k n c cs false true t p q a = absurd (let z : true ≡ false = sym (drop_empty n c.peer.queue q) ∙ p in cc)
took_own k n c cs false false t p q a = refl

took_next : (k : ℕ) (c : ClientState) (w w' : List ℕ) (e' e : Bool) → (c.peer.number == k) ≡ false → w' ≡ cond e' (without k w) w → cond e w' (c.peer.number ∷ w') ≡ cond e' (without k (cond e w (c.peer.number ∷ w))) (cond e w (c.peer.number ∷ w))
took_next k c w w' true true t h = h
took_next k c w w' true false t h = ap (λ l. c.peer.number ∷ l) h ∙ sym (without_head k c.peer.number w false t)
took_next k c w w' false true t h = h
took_next k c w w' false false t h = ap (λ l. c.peer.number ∷ l) h

took_head : (b : Bool) (k n : ℕ) (c : ClientState) (cs ds : List ClientState) → (c.peer.number == k) ≡ b → (b ≡ true → without k (waiting_clients cs) ≡ waiting_clients cs) → (b ≡ false → waiting_clients ds ≡ cond (is_empty (queue_at ds k)) (without k (waiting_clients cs)) (waiting_clients cs))
    → waiting_clients (cond b (client_took n c ∷ cs) (c ∷ ds)) ≡ cond (is_empty (queue_at (cond b (client_took n c ∷ cs) (c ∷ ds)) k)) (without k (waiting_clients (c ∷ cs))) (waiting_clients (c ∷ cs))
took_head true k n c cs ds e a ih =
    took_own k n c cs (is_empty (drop n c.peer.queue)) (is_empty c.peer.queue) e refl refl (a refl)
    ∙ ap (λ (b : Bool). cond (is_empty (cond b (drop n c.peer.queue) (queue_at cs k))) (without k (waiting_clients (c ∷ cs))) (waiting_clients (c ∷ cs))) (sym e)
took_head false k n c cs ds e a ih =
    took_next k c (waiting_clients cs) (waiting_clients ds) (is_empty (queue_at ds k)) (is_empty c.peer.queue) e (ih refl)
    ∙ ap (λ (b : Bool). cond (is_empty (cond b c.peer.queue (queue_at ds k))) (without k (waiting_clients (c ∷ cs))) (waiting_clients (c ∷ cs))) (sym e)

-- after bytes were accepted by a stream it waits as long as some are left
pub waiting_took : (k n : ℕ) (cs : List ClientState) → ArePeersApart cs → is_present cs k ≡ true → waiting_clients (at_client k (client_took n) cs) ≡ cond (is_empty (queue_at (at_client k (client_took n) cs) k)) (without k (waiting_clients cs)) (waiting_clients cs)
waiting_took k n [] apart p = absurd (cc)
waiting_took k n (c ∷ cs) apart p =
    took_head (c.peer.number == k) k n c cs (at_client k (client_took n) cs) refl
    (λ e. absent_waiting k cs (ap (is_present cs) (sym (eqb-true c.peer.number k e)) ∙ apart.0))
    (λ e. waiting_took k n cs apart.1 (sym (ap (λ b. either b (is_present cs k)) e) ∙ p))

-- the server is no client
no-server : (rows : List Row) (cs : List ClientState) → EachFits rows cs → without 0 (waiting_clients cs) ≡ waiting_clients cs
no-server rows [] each = refl
no-server rows (c ∷ cs) each = by_empty (is_empty c.peer.queue) each.0.nonzero (no-server rows cs each.1)
  where
    by_empty : (b : Bool) → (c.peer.number == 0) ≡ false → without 0 (waiting_clients cs) ≡ waiting_clients cs → without 0 (cond b (waiting_clients cs) (c.peer.number ∷ waiting_clients cs)) ≡ cond b (waiting_clients cs) (c.peer.number ∷ waiting_clients cs)
    by_empty true e ih = ih
    by_empty false e ih = without_head 0 c.peer.number (waiting_clients cs) false e ∙ ap (λ l. c.peer.number ∷ l) ih

-- of the server
up-took : (n : ℕ) (q ws : List ℕ) → without 0 ws ≡ ws → cond (is_empty (drop n q)) (without 0 (cond (is_empty q) ws (0 ∷ ws))) (cond (is_empty q) ws (0 ∷ ws)) ≡ cond (is_empty (drop n q)) ws (0 ∷ ws)
up-took n q ws e = by_empty (is_empty (drop n q)) (is_empty q) refl refl
  where
    by_empty : (b a : Bool) → is_empty (drop n q) ≡ b → is_empty q ≡ a → cond b (without 0 (cond a ws (0 ∷ ws))) (cond a ws (0 ∷ ws)) ≡ cond b ws (0 ∷ ws)
    by_empty true true f g = e
    by_empty true false f g = e
    by_empty false true f g = absurd (let z : true ≡ false = sym (drop_empty n q g) ∙ f in cc)
    by_empty false false f g = refl

-- of a client
down-took : (k : ℕ) (empty out : Bool) (ws : List ℕ) → k ≢ 0 → cond empty (without k (cond out ws (0 ∷ ws))) (cond out ws (0 ∷ ws)) ≡ cond out (cond empty (without k ws) ws) (0 ∷ cond empty (without k ws) ws)
down-took k true true ws nz = refl
down-took k true false ws nz = without_head k 0 ws false (test_other 0 k (λ e. nz (sym e)))
down-took k false true ws nz = refl
down-took k false false ws nz = refl

pub waiting-taken : (rows : List Row) (s : EngineState) (t n : ℕ) → EachFits rows s.clients → ArePeersApart s.clients → (t ≢ 0 → is_present s.clients t ≡ true) → s.waiting ≡ waiting_streams s → (took_and_listed s t n).waiting ≡ waiting_streams (took_and_listed s t n)
waiting-taken rows s t n each apart here was = elim (eqb_tells t 0) [
  | inl q ↦ server (t == 0) q.0 q.1
  | inr q ↦ client (t == 0) q.0 q.1
]
  where
    after : Bool → EngineState
    after b = cond b (record s { up = Rattle.proxy_frames.specs.Queued.without_first_bytes n s.up }) (record s { clients = at_client t (client_took n) s.clients })

    queue_of : Bool → Bool → List ℕ
    queue_of b z = cond z (after b).up.waiting (queue_at (after b).clients t)

    server : (b : Bool) → b ≡ true → t ≡ 0 → cond (is_empty (queue_of b b)) (without t s.waiting) s.waiting ≡ waiting_streams (after b)
    server true e z = ap (λ j. cond (is_empty (drop n s.up.waiting)) (without j s.waiting) s.waiting) z ∙ (ap (λ w. cond (is_empty (drop n s.up.waiting)) (without 0 w) w) was ∙ up-took n s.up.waiting (waiting_clients s.clients) (no-server rows s.clients each))
    server false e z = absurd (cc)

    client : (b : Bool) → b ≡ false → t ≢ 0 → cond (is_empty (queue_of b b)) (without t s.waiting) s.waiting ≡ waiting_streams (after b)
    client true e nz = absurd (cc)
    client false e nz =
        let empty : Bool = is_empty (queue_at (at_client t (client_took n) s.clients) t) in
        ap (λ w. cond empty (without t w) w) was
        ∙ (down-took t empty (is_empty s.up.waiting) (waiting_clients s.clients) nz
        ∙ ap (λ l. cond (is_empty s.up.waiting) l (0 ∷ l)) (sym (waiting_took t n s.clients apart (here nz))))
