-- A client whose framer shows what it sends next.
use Rattle.std.proofs.Common.{◌≡◌, ℕ, Bool, true, false, List, Option, Some, None, refl, sym, ap, ◌∙◌, subst}
use Rattle.mux_outside.specs.declared.house_mark.HouseMark.{HouseMark as Asked}
use Rattle.mux_outside.specs.declared.house.HouseReply.{HouseReply}
use Rattle.ssh_grammar.specs.Frames.{Front, Frame, More, Faulty, first_frame}
use Rattle.ssh_grammar.specs.declared.fault.BadFrame.{BadFrame}
use Rattle.ssh_grammar.specs.declared.framing.Framing.{Framing}
use Rattle.ssh_grammar.specs.declared.framing.Framing.TheVariants as framing
use Rattle.ssh_grammar.specs.Said.{first_in}
use Rattle.proxy_frames.specs.declared.next.Next.TheVariants as next
use Rattle.proxy_frames.specs.State.{FramerState, QueueState}
use Rattle.proxy_frames.specs.Steps.{once_recorded, front_of, answer_to, after_front}
use Rattle.mux_core.specs.State.{CoreState}
use Rattle.mux_peers.specs.declared.run_change.RunChange.{RunChange}
use Rattle.mux_peers.specs.declared.decision.Decision.{Decision}
use Rattle.mux_peers.specs.declared.standing.Standing.{Standing}
use Rattle.mux_peers.specs.declared.standing.Standing.TheVariants.{Awaited, Greeted, Proxied, Unread, Lost}
use Rattle.mux_peers.specs.State.{ClientState, PeerState, part}
use Rattle.mux_peers.specs.Stands.{framing_of, is_greeted, is_proxied, is_read, parse_mode_of, rest_if}
use Rattle.mux_peers.specs.Decisions.{DecidesBy}
use Rattle.mux_peers.specs.Bodies.{FollowsBy}
use Rattle.mux_peers.specs.Nexts.{FaultBy, NextFrame, SendsNext}

-- ---- how it is cut

read_in : (s : Standing) (bytes : List ℕ) → is_read s ≡ true → first_in (parse_mode_of s) bytes ≡ first_frame (framing_of s) bytes
read_in Awaited bytes e = refl
read_in Greeted bytes e = refl
read_in Proxied bytes e = refl
read_in Unread bytes e = absurd (cc)
read_in (Lost why) bytes e = absurd (cc)

-- a framer that cuts so and reported no fault shows the front of its bytes
pub front_at : (s : Standing) (f : FramerState) → is_read s ≡ true → f.framing ≡ framing_of s → f.fault ≡ None → first_in (parse_mode_of s) (rest_if (is_read s) f.rest) ≡ front_of f
front_at s f read cuts well =
    ap (λ b. first_in (parse_mode_of s) (rest_if b f.rest)) read
    ∙ (read_in s f.rest read
    ∙ (ap (λ (m : Framing). first_frame m f.rest) (sym cuts) ∙ sym (ap (λ (x : Option BadFrame). once_recorded x Faulty (first_frame f.framing f.rest)) well)))

-- the front was a frame where one is the current one then
pub front_was : (fr : Front) (f f' : FramerState) (content : List ℕ) → next.Frame ≡ answer_to fr → f' ≡ after_front fr f → f'.current ≡ Some content → fr ≡ Frame content f'.rest
front_was (Frame c rest) f f' content e after current =
    let same : c ≡ content = cc in
    ap (λ (x : List ℕ). Frame x rest) same ∙ ap (Frame content) (sym (ap (λ (x : FramerState). x.rest) after))
front_was More f f' content e after current = absurd (cc)
front_was (Faulty fault) f f' content e after current = absurd (cc)

fault_was : (fr : Front) (fault : BadFrame) → next.Bad fault ≡ answer_to fr → fr ≡ Faulty fault
fault_was (Frame c rest) fault e = absurd (cc)
fault_was More fault e = absurd (cc)
fault_was (Faulty f) fault e = cc

-- a frame leaves how it is cut
pub framed : (fr : Front) (f f' : FramerState) → next.Frame ≡ answer_to fr → f' ≡ after_front fr f → (f'.framing ≡ f.framing) × (f'.fault ≡ f.fault)
framed (Frame c rest) f f' e after = (ap (λ (x : FramerState). x.framing) after, ap (λ (x : FramerState). x.fault) after)
framed More f f' e after = absurd (cc)
framed (Faulty fault) f f' e after = absurd (cc)

-- a framer of a client
abbrev pub Cuts : Standing → FramerState → Type 0
Cuts s f = is_read s ≡ true → (f.framing ≡ framing_of s) × (f.fault ≡ None)

pub frame_kept : (s s' : Standing) (f f' : FramerState) → is_read s ≡ true → Cuts s f → next.Frame ≡ answer_to (front_of f) → f' ≡ after_front (front_of f) f → framing_of s' ≡ framing_of s → (f'.framing ≡ framing_of s') × (f'.fault ≡ None)
frame_kept s s' f f' read cuts e after same =
    let k = framed (front_of f) f f' e after in
    (k.0 ∙ ((cuts read).0 ∙ sym same), k.1 ∙ (cuts read).1)

-- one that isn't in proxy mode is cut in control frames
pub control_of : (s : Standing) → is_proxied s ≡ false → framing_of s ≡ framing.Control
control_of Awaited e = refl
control_of Greeted e = refl
control_of Proxied e = absurd (cc)
control_of Unread e = refl
control_of (Lost why) e = refl

-- ---- what it sends next

abbrev pub client_of : PeerState → FramerState → ClientState
client_of peer f = record { peer = peer; rest = rest_if (is_read peer.standing) f.rest }

pub sends_fault : (May : HouseReply → Type 0) (recorded : Option (List Asked)) (pid : ℕ) (core core' : CoreState) (up up' : QueueState) (peer peer' : PeerState) (f f' : FramerState) (now : ClientState) (heard : RunChange) (fault : BadFrame)
    → client_of peer f ≡ now → is_read now.peer.standing ≡ true → Cuts peer.standing f → next.Bad fault ≡ answer_to (front_of f)
    → FaultBy fault (part core peer up) heard (part core' peer' up') heard → is_read peer'.standing ≡ false
    → SendsNext May recorded recorded pid true (first_in (parse_mode_of now.peer.standing) now.rest) core core' up up' now heard (client_of peer' f') heard
sends_fault May recorded pid core core' up up' peer peer' f f' now heard fault view read cuts recorded-so faults out =
    let reads : is_read peer.standing ≡ true = ap (λ (x : ClientState). is_read x.peer.standing) view ∙ read in
    let front : first_in (parse_mode_of peer.standing) (client_of peer f).rest ≡ Faulty fault = front_at peer.standing f reads (cuts reads).0 (cuts reads).1 ∙ fault_was (front_of f) fault recorded-so in
    subst (λ (x : ClientState). SendsNext May recorded recorded pid true (first_in (parse_mode_of x.peer.standing) x.rest) core core' up up' x heard (client_of peer' f') heard) view
    (subst (λ (x : Front). SendsNext May recorded recorded pid true x core core' up up' (client_of peer f) heard (client_of peer' f') heard) (sym front) (record {
      faults = faults;
      left = ap (λ b. rest_if b f'.rest) out;
      out = out;
      recorded = refl;
    }))

-- a body, by what was decided of it; after it the bytes are cut as before, or in proxy frames
pub sends_decided : (May : HouseReply → Type 0) (before recorded' : Option (List Asked)) (pid k : ℕ) (core core' : CoreState) (up up' : QueueState) (peer peer' : PeerState) (f f' f'' : FramerState) (body : List ℕ) (now : ClientState) (greeted : Bool) (heard heard' : RunChange) (d : Decision)
    → client_of peer f ≡ now → is_read now.peer.standing ≡ true → Cuts peer.standing f → is_proxied peer.standing ≡ false
    → next.Frame ≡ answer_to (front_of f) → f' ≡ after_front (front_of f) f → f'.current ≡ Some body → f''.rest ≡ f'.rest
    → k ≡ peer.number → greeted ≡ is_greeted peer.standing → DecidesBy May before recorded' pid k greeted body d
    → FollowsBy d (part core peer up) heard (part core' peer' up') heard'
    → SendsNext May before recorded' pid true (first_in (parse_mode_of now.peer.standing) now.rest) core core' up up' now heard (client_of peer' f'') heard'
sends_decided May before recorded' pid k core core' up up' peer peer' f f' f'' body now greeted heard heard' d view read cuts control whole after current same num awaits decides follows =
    let reads : is_read peer.standing ≡ true = ap (λ (x : ClientState). is_read x.peer.standing) view ∙ read in
    let front : first_in (parse_mode_of peer.standing) (client_of peer f).rest ≡ Frame body f'.rest = front_at peer.standing f reads (cuts reads).0 (cuts reads).1 ∙ front_was (front_of f) f f' body whole after current in
    subst (λ (x : ClientState). SendsNext May before recorded' pid true (first_in (parse_mode_of x.peer.standing) x.rest) core core' up up' x heard (client_of peer' f'') heard') view
    (subst (λ (x : Front). SendsNext May before recorded' pid true x core core' up up' (client_of peer f) heard (client_of peer' f'') heard') (sym front)
    (subst (λ (b : Bool). NextFrame b May before recorded' pid body f'.rest core core' up up' (client_of peer f) heard (client_of peer' f'') heard') (sym control) (record {
      decision = d;
      decides = subst (λ (j : ℕ). DecidesBy May before recorded' pid j (is_greeted peer.standing) body d) num (subst (λ (b : Bool). DecidesBy May before recorded' pid k b body d) awaits decides);
      follows = follows;
      left = ap (λ (l : List ℕ). rest_if (is_read peer'.standing) l) same;
    })))

pub reads_now : (peer : ClientState) (now : ClientState) → peer ≡ now → is_read now.peer.standing ≡ true → is_read peer.peer.standing ≡ true
reads_now peer now view read = ap (λ (x : ClientState). is_read x.peer.standing) view ∙ read
