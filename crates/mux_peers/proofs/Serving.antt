-- What the server sends next, from the steps of the code.
use Rattle.std.proofs.Common.{◌≡◌, ◌+◌, ◌-◌, ◌^◌, min, ℕ, List, [], ◌++◌, length, drop, true, Option, Some, None, sym, ap, ◌∙◌, subst, arith}
use Rattle.std.proofs.lemmas.Grind.{common_steps}
use Rattle.ssh_grammar.specs.declared.framing.Framing.{Framing}
use Rattle.ssh_grammar.specs.declared.framing.Framing.TheVariants as framing
use Rattle.ssh_grammar.specs.declared.fault.BadFrame.{BadFrame}
use Rattle.ssh_grammar.specs.Frames.{Front, Frame, Faulty, first_frame}
use Rattle.proxy_frames.specs.declared.next.Next.TheVariants as next
use Rattle.proxy_frames.specs.State.{FramerState}
use Rattle.proxy_frames.specs.Steps.{once_recorded, front_of, answer_to, after_front, written_over, with_written}
use Rattle.mux_history.specs.declared.ended.Ended.{Ended}
use Rattle.mux_peers.specs.State.{ClientsAndQueue}
use Rattle.mux_peers.specs.Among.{is_present}
use Rattle.mux_peers.specs.Receivings.{ReceivesPayload}
use Rattle.mux_peers.specs.Server.{ServerNext, ServerState}
use Rattle.mux_peers.proofs.Fronts.{front_was, framed}

rest-kept : (content w rest : List ℕ) → length w ≡ length content → drop (length content) (written_over w (content ++ rest)) ≡ rest
rest-kept content w rest e = grind (arith, common_steps, e)

pub written-rest : (f : FramerState) (content w : List ℕ) → f.current ≡ Some content → length w ≡ length content → (with_written f w).rest ≡ f.rest
written-rest f content w e l = ap (λ (x : List ℕ). drop (length x) (written_over w (x ++ f.rest))) (ap (λ (o : Option (List ℕ)). elim o as (λ _. List ℕ) [ None ↦ [] | Some c ↦ c ]) e) ∙ rest-kept content w f.rest l

abbrev pub server_of : FramerState → ℕ → ServerState
server_of f i = record { framing = f.framing; fault = f.fault; rest = f.rest; index = i }

pub server_frame : (old new : ClientsAndQueue) (f f' f'' : FramerState) (now : ServerState) (i i' : ℕ) (content : List ℕ) (ended ended' : Option Ended)
    → server_of f i ≡ now → now.framing ≡ framing.Proxy → now.fault ≡ None → next.Frame ≡ answer_to (front_of f) → f' ≡ after_front (front_of f) f → f'.current ≡ Some content → f''.rest ≡ f'.rest → f''.framing ≡ f'.framing → f''.fault ≡ f'.fault
    → ReceivesPayload content i old new ended' → ((j : ℕ) → is_present new.clients.all j ≡ is_present old.clients.all j) → i' ≡ min (i + 1) (2 ^ 64 - 1)
    → ServerNext true (first_frame framing.Proxy now.rest) old new now (server_of f'' i') ended ended'
server_frame old new f f' f'' now i i' content ended ended' view cuts well whole after current left fr fa receives present next' =
    let c : f.framing ≡ framing.Proxy = ap (λ (x : ServerState). x.framing) view ∙ cuts in
    let w : f.fault ≡ None = ap (λ (x : ServerState). x.fault) view ∙ well in
    let front : first_frame framing.Proxy f.rest ≡ Frame content f'.rest =
    sym (ap (λ (x : Option BadFrame). once_recorded x Faulty (first_frame f.framing f.rest)) w ∙ ap (λ (m : Framing). first_frame m f.rest) c) ∙ front_was (front_of f) f f' content whole after current in
    let k = framed (front_of f) f f' whole after in
    subst (λ (x : ServerState). ServerNext true (first_frame framing.Proxy x.rest) old new x (server_of f'' i') ended ended') view
    (subst (λ (x : Front). ServerNext true x old new (server_of f i) (server_of f'' i') ended ended') (sym front) (record {
      receives = receives;
      present = present;
      left = left;
      framing = fr ∙ k.0;
      fault = fa ∙ (k.1 ∙ w);
      next = next';
    }))
