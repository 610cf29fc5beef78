-- What a stream gave and isn't cut yet is less than a frame.
use Rattle.std.proofs.Common.{◌≡◌, ◌≢◌, ◌≤◌, ℕ, Bool, true, false, List, [], ◌∷◌, length, ◌++◌, refl, sym, ap, ◌∙◌, cond, arith}
use Rattle.std.specs.Prelude.{◌==◌, is_some}
use Rattle.ssh_grammar.specs.Said.{InControl, InProxy, Stopped, parse}
use Rattle.mux_outside.specs.declared.mark.Mark.{Mark}
use Rattle.mux_outside.specs.declared.house.HouseReply.{HouseReply}
use Rattle.mux_history.specs.Rows.{is_run_over}
use Rattle.mux_history.specs.Journal.{bytes_of}
use Rattle.mux_bounds.proofs.Lengths.{rest-few}
use Rattle.mux_peers.specs.declared.standing.Standing.{Standing}
use Rattle.mux_peers.specs.declared.standing.Standing.TheVariants.{Awaited, Greeted, Proxied, Unread, Lost}
use Rattle.mux_peers.specs.State.{ClientState}
use Rattle.mux_peers.specs.Stands.{is_standing_lost, is_read, parse_mode_of}
use Rattle.mux_state.specs.State.{EngineState, in_client}
use Rattle.mux_state.specs.Stands.{ClientReads, EachReads, RepresentsSoFar, log}
use Rattle.mux_state.specs.Steps.{is_client_read}
use Rattle.mux_state.proofs.Lists.{true_false}
use Rattle.mux_state.proofs.Looked.{stands_so}
use Rattle.mux_state.proofs.Over.{some-end}

read-mode : (s : Standing) → is_read s ≡ true → (is_standing_lost s ≡ false) × (parse_mode_of s ≢ Stopped)
read-mode Awaited e = (refl, λ m. cc)
read-mode Greeted e = (refl, λ m. cc)
read-mode Proxied e = (refl, λ m. cc)
read-mode Unread e = true_false (sym e)
read-mode (Lost why) e = true_false (sym e)

client-short : (bytes : List ℕ) (c : ClientState) → ClientReads bytes c → is_read c.peer.standing ≡ true → length c.rest ≤ 262147
client-short bytes c r read =
    let m = read-mode c.peer.standing read in
    let le = rest-few InControl bytes (λ e. m.1 (sym (r.mode_is m.0) ∙ e)) in
    omega (arith, le, ap (length {A = ℕ}) (r.rest_is read))

server-short : (bytes rest : List ℕ) → (parse InProxy bytes).mode ≡ InProxy → (parse InProxy bytes).rest ≡ rest → length rest ≤ 262147
server-short bytes rest mode is =
    let le = rest-few InProxy bytes (λ e. absurd (let z : InProxy ≡ Stopped = sym mode ∙ e in cc)) in
    omega (arith, le, ap (length {A = ℕ}) is)

-- of a client that is read
heard-short : (marks : List Mark) (k : ℕ) (cs : List ClientState) → EachReads marks cs → stands_so is_read cs k ≡ true → length (in_client [] (λ c. c.rest) cs k) ≤ 262147
heard-short marks k [] reads e = true_false (sym e)
heard-short marks k (c ∷ cs) reads e = by_head (c.peer.number == k) e (heard-short marks k cs reads.1)
  where
    by_head : (b : Bool) → cond b (is_read c.peer.standing) (stands_so is_read cs k) ≡ true → (stands_so is_read cs k ≡ true → length (in_client [] (λ c. c.rest) cs k) ≤ 262147) → length (cond b c.rest (in_client [] (λ c. c.rest) cs k)) ≤ 262147
    by_head true e ih = client-short (bytes_of c.peer.number marks) c reads.0 e
    by_head false e ih = ih e

-- ---- of an engine whose run goes on

live-now : (s : EngineState) (picked : List ℕ) (given : List HouseReply) (marks : List Mark) (closed : List ℕ) → RepresentsSoFar picked given s marks closed → is_some s.ended ≡ false → is_run_over (log s (picked ++ []) (given ++ []) marks) ≡ false
live-now s picked given marks closed st on = sym (some-end (log s (picked ++ []) (given ++ []) marks)) ∙ (ap is_some (sym (st.at [] []).rows.ended_is) ∙ on)

pub server-rest : (s parts : EngineState) (n : ℕ) (picked : List ℕ) (given : List HouseReply) (marks : List Mark) (closed : List ℕ) → parts ≡ s → n ≡ length parts.server.rest → is_some parts.ended ≡ false → RepresentsSoFar picked given s marks closed → n ≤ 262147
server-rest s parts n picked given marks closed view is on st =
    let r = (st.at [] []).bytes.server (live-now s picked given marks closed st (ap (λ (x : EngineState). is_some x.ended) (sym view) ∙ on)) in
    let le : length s.server.rest ≤ 262147 = server-short (bytes_of 0 marks) s.server.rest r.mode_is r.rest_is in
    omega (arith, le, is, ap (λ (x : EngineState). length x.server.rest) view)

pub client-rest : (s parts : EngineState) (k n : ℕ) (picked : List ℕ) (given : List HouseReply) (marks : List Mark) (closed : List ℕ) → parts ≡ s → n ≡ length (in_client [] (λ c. c.rest) parts.clients k) → (is_client_read parts.clients k ≡ false → n ≡ 0) → is_some parts.ended ≡ false → RepresentsSoFar picked given s marks closed → n ≤ 262147
client-rest s parts k n picked given marks closed view exact unheard on st = by_received (is_client_read s.clients k) refl
  where
    same : parts.clients ≡ s.clients
    same = ap (λ (x : EngineState). x.clients) view

    by_received : (b : Bool) → is_client_read s.clients k ≡ b → n ≤ 262147
    by_received true e =
        let reads : EachReads marks s.clients = (st.at [] []).bytes.clients (live-now s picked given marks closed st (ap (λ (x : EngineState). is_some x.ended) (sym view) ∙ on)) in
        let le : length (in_client [] (λ c. c.rest) s.clients k) ≤ 262147 = heard-short marks k s.clients reads e in
        omega (arith, le, exact, ap (λ (l : List ClientState). length (in_client [] (λ c. c.rest) l k)) same)
    by_received false e = omega (arith, unheard (ap (λ (l : List ClientState). is_client_read l k) same ∙ e))
