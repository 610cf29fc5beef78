-- What an engine keeps, where a stream is closed, bytes are accepted or clients leave.
use Rattle.std.proofs.Common.{◌≡◌, ◌≤◌, ℕ, Bool, true, false, not, ◌||◌, List, [], ◌∷◌, length, map, Option, refl, sym, ap, ◌∙◌, inl, inr, cond, arith}
use Rattle.std.specs.Prelude.{◌==◌, filter}
use Rattle.std.proofs.lemmas.Bool.{eq-eqb}
use Rattle.std.proofs.lemmas.Bool.Decides.{eqb_tells}
use Rattle.proxy_frames.specs.Queued.{without_first_bytes}
use Rattle.mux_outside.specs.Streams.{among, without}
use Rattle.mux_history.specs.declared.why.Why.{Why}
use Rattle.mux_peers.specs.State.{ClientState}
use Rattle.mux_peers.specs.Stands.{is_standing_lost}
use Rattle.mux_peers.specs.Room.{HasRoom, served_in}
use Rattle.mux_state.specs.Ready.{AreListed, IsEngineReady, IsEngineSound}
use Rattle.mux_state.specs.State.{EngineState, at_client, client_took, closed_by, took_and_listed, without_client}
use Rattle.mux_state.proofs.Lists.{among-gone, among-less, among-was, true_false}
use Rattle.mux_state.proofs.Takes.{Same, taken-same}

-- ---- those that are to be closed

abbrev pub listed : List (ℕ × Option Why) → List ℕ
listed ls = map (λ (l : ℕ × Option Why). l.0) ls

-- one less
listed-less : (k : ℕ) (ls : List (ℕ × Option Why)) → listed (filter (λ (l : ℕ × Option Why). not (l.0 == k)) ls) ≡ without k (listed ls)
listed-less k [] = refl
listed-less k (l ∷ ls) = by_test (not (l.0 == k)) (listed-less k ls)
  where
    by_test : (b : Bool) → listed (filter (λ (l : ℕ × Option Why). not (l.0 == k)) ls) ≡ without k (listed ls) → listed (cond b (l ∷ filter (λ (l : ℕ × Option Why). not (l.0 == k)) ls) (filter (λ (l : ℕ × Option Why). not (l.0 == k)) ls)) ≡ cond b (l.0 ∷ without k (listed ls)) (without k (listed ls))
    by_test true ih = ap (λ js. l.0 ∷ js) ih
    by_test false ih = ih

listed-closed : (k : ℕ) (ks : List ℕ) (ls : List (ℕ × Option Why)) → AreListed ks ls → AreListed (without k ks) (filter (λ (l : ℕ × Option Why). not (l.0 == k)) ls)
listed-closed k ks ls h j a = elim (eqb_tells k j) [
  | inl q ↦ true_false (sym a ∙ (ap (λ i. among i (without k ks)) (sym q.1) ∙ among-gone k ks))
  | inr q ↦ ap (among j) (listed-less k ls) ∙ (among-less k j (listed ls) q.1 ∙ h j (among-was k j ks a))
]

-- where no client is to be closed none was refused
pub none-refused : (s : EngineState) → IsEngineSound s → s.leaving ≡ [] → s.refused ≡ []
none-refused s h e = by_list s.refused s.leaving h.refused e
  where
    by_list : (ks : List ℕ) (ls : List (ℕ × Option Why)) → AreListed ks ls → ls ≡ [] → ks ≡ []
    by_list [] ls h e = refl
    by_list (k ∷ ks) ls h e = true_false (sym (h k (ap (λ b. b || among k ks) (eq-eqb k k refl))) ∙ ap (λ l. among k (listed l)) e)

-- ---- the room

served-less : (k : ℕ) (cs : List ClientState) → length (served_in (without_client k cs)) ≤ length (served_in cs)
served-less k [] = omega arith
served-less k (c ∷ cs) = by_test (not (c.peer.number == k)) (served-less k cs)
  where
    less : List ClientState
    less = without_client k cs

    kept : (lost : Bool) → length (served_in less) ≤ length (served_in cs) → length (cond lost (served_in less) (c.peer.number ∷ served_in less)) ≤ length (cond lost (served_in cs) (c.peer.number ∷ served_in cs))
    kept true ih = ih
    kept false ih = omega (arith, ih)

    gone : (lost : Bool) → length (served_in less) ≤ length (served_in cs) → length (served_in less) ≤ length (cond lost (served_in cs) (c.peer.number ∷ served_in cs))
    gone true ih = ih
    gone false ih = omega (arith, ih)

    by_test : (b : Bool) → length (served_in less) ≤ length (served_in cs) → length (served_in (cond b (c ∷ less) less)) ≤ length (cond (is_standing_lost c.peer.standing) (served_in cs) (c.peer.number ∷ served_in cs))
    by_test true ih = kept (is_standing_lost c.peer.standing) ih
    by_test false ih = gone (is_standing_lost c.peer.standing) ih

served-took : (t n : ℕ) (cs : List ClientState) → served_in (at_client t (client_took n) cs) ≡ served_in cs
served-took t n [] = refl
served-took t n (c ∷ cs) = by_head (c.peer.number == t) (served-took t n cs)
  where
    by_head : (b : Bool) → served_in (at_client t (client_took n) cs) ≡ served_in cs → served_in (cond b (client_took n c ∷ cs) (c ∷ at_client t (client_took n) cs)) ≡ cond (is_standing_lost c.peer.standing) (served_in cs) (c.peer.number ∷ served_in cs)
    by_head true ih = refl
    by_head false ih = ap (λ l. cond (is_standing_lost c.peer.standing) l (c.peer.number ∷ l)) ih

room-taken : (s : EngineState) (t n : ℕ) → HasRoom s.clients s.up → HasRoom (took_and_listed s t n).clients (took_and_listed s t n).up
room-taken s t n room = by_server (t == 0)
  where
    by_server : (b : Bool) → (let s' : EngineState = cond b (record s { up = without_first_bytes n s.up }) (record s { clients = at_client t (client_took n) s.clients }) in HasRoom s'.clients s'.up)
    by_server true = room
    by_server false = omega (arith, ap length (served-took t n s.clients), room)

-- ---- an engine

pub sound-closed : (s : EngineState) (k : ℕ) → IsEngineSound s → IsEngineSound (closed_by s k)
sound-closed s k h = record {
  ready = λ fed on. let r : IsEngineReady s = h.ready fed on in record { room = omega (arith, served-less k s.clients, r.room); cuts = r.cuts; well = r.well };
  refused = listed-closed k s.refused s.leaving h.refused;
}

pub sound-taken : (s : EngineState) (t n : ℕ) → IsEngineSound s → IsEngineSound (took_and_listed s t n)
sound-taken s t n h =
    let same : Same s (took_and_listed s t n) = taken-same s t n in
    record {
      ready = λ fed on.
          let r : IsEngineReady s = h.ready (sym same.starved ∙ fed) (sym same.ended ∙ on) in
          record { room = room-taken s t n r.room; cuts = ap (λ (v : _). v.framing) same.server ∙ r.cuts; well = ap (λ (v : _). v.fault) same.server ∙ r.well };
      refused = λ k a. ap (λ ls. among k (listed ls)) same.leaving ∙ h.refused k (ap (among k) (sym same.refused) ∙ a);
    }
