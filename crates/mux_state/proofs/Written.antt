-- The parts of an engine after its code has written them.
use Rattle.std.proofs.Common.{◌≡◌, ◌≤◌, ◌+◌, ◌*◌, ◌&&◌, ℕ, Bool, true, false, not, List, [], ◌∷◌, ◌++◌, length, Option, None, refl, sym, ap, ◌∙◌, subst, cond, arith}
use Rattle.std.specs.Prelude.{MatchBool}
use Rattle.std.specs.List.{AllByRecursion}
use Rattle.proxy_frames.specs.State.{QueueState}
use Rattle.mux_outside.specs.declared.house_mark.HouseMark.{HouseMark as Asked}
use Rattle.mux_outside.specs.declared.house.HouseReply.{HouseReply}
use Rattle.mux_history.specs.declared.why.Why.{Why}
use Rattle.mux_history.specs.declared.ended.Ended.{Ended}
use Rattle.client_teardown.specs.declared.farewell.TheConstants.{FAREWELL_ROOM}
use Rattle.mux_core.specs.State.{CoreState}
use Rattle.mux_peers.specs.declared.run_change.RunChange.{RunChange}
use Rattle.mux_peers.specs.State.{ClientState, ClientsState, clients_of, clients_and_queue, part}
use Rattle.mux_peers.specs.Stands.{is_standing_lost, is_read}
use Rattle.mux_peers.specs.Among.{ChangesOne, Noting, NotesOne, is_present}
use Rattle.mux_peers.specs.Answering.{AnswersAt, AnswersNoting}
use Rattle.mux_peers.specs.Entering.{new_client}
use Rattle.mux_peers.specs.Losing.{Loses, LosesIn, LosesNothing, loss_between}
use Rattle.mux_peers.specs.Pieces.{ReceivesIn, ReceivesPiece}
use Rattle.mux_peers.specs.Room.{HasRoom, served_in}
use Rattle.mux_peers.specs.Server.{ServerReceivesBytes, ServerState}
use Rattle.mux_peers.proofs.Found.{receives-of}
use Rattle.mux_state.specs.Moves.{AnsweredAt, GainsAt, ReceivedAt, LosesAt, not_lost}
use Rattle.mux_state.specs.State.{EngineState, clients_and_queue_of, after_admission}
use Rattle.mux_state.specs.Steps.{EntersAt, ReceivesFrom, is_client_read, is_client_served, streams_waiting_of}
use Rattle.mux_state.proofs.Lists.{true_false}
use Rattle.mux_state.proofs.Looked.{changes-so, so-here}
use Rattle.mux_state.proofs.OneClient.{changes-to}

-- any other relation of the client that goes on
units : (cs : List ClientState) → AllByRecursion (λ (c : ClientState). Unit {0}) cs
units [] = tt
units (c ∷ cs) = (tt, units cs)

changes-as : (k : ℕ) (R S : ClientState → ClientState → Type 0) (cs cs' : List ClientState) → ((x y : ClientState) → R x y → S x y) → ChangesOne k R cs cs' → ChangesOne k S cs cs'
changes-as k R S cs cs' f h = changes-to k R S (λ c. Unit {0}) cs cs' (λ x y e u r. f x y r) (units cs) h

-- ---- a client whose stream is gone

loses-of : (old new : CoreState) (up up' : QueueState) (x y : ClientState) → not_lost x.peer.standing ≡ true → LosesIn old new up up' x y → (is_standing_lost x.peer.standing ≡ false) × Loses (part old x.peer up) (part new y.peer up')
loses-of old new up up' x y e h = by_lost (is_standing_lost x.peer.standing) refl h
  where
    by_lost : (b : Bool) → is_standing_lost x.peer.standing ≡ b → MatchBool b (LosesNothing old new up up' x y) (Loses (part old x.peer up) (part new y.peer up')) → (is_standing_lost x.peer.standing ≡ false) × Loses (part old x.peer up) (part new y.peer up')
    by_lost true t h = true_false (sym (sym (ap not t) ∙ e))
    by_lost false t h = (t, h)

-- an engine whose clients went on
abbrev pub gone_on : EngineState → ClientsState → CoreState → QueueState → List ℕ → EngineState
gone_on parts cs core up ws = record parts { core = core; up = up; clients = cs.all; leaving = cs.leaving; waiting = ws }

pub record LoseParts (parts : EngineState) (k : ℕ) (cs : ClientsState) (core : CoreState) (up : QueueState) (ws : List ℕ) : Type 0 where
  pub served : is_client_served parts.clients k ≡ true
  pub policy : core.policy ≡ parts.core.policy
  pub loses : is_present parts.clients k ≡ true → ChangesOne k (LosesIn parts.core core parts.up up) parts.clients cs.all
  pub notes : cs.leaving ≡ parts.leaving ++ cond (is_client_served parts.clients k) ((k, None) ∷ []) []
  pub waits : ws ≡ streams_waiting_of up.waiting cs.all

pub lose-written : (s parts new : EngineState) (k : ℕ) (cs : ClientsState) (core : CoreState) (up : QueueState) (ws : List ℕ) → parts ≡ s → new ≡ gone_on parts cs core up ws → LoseParts parts k cs core up ws → LosesAt s new k
lose-written s parts new k cs core up ws view is p =
    let here : is_present parts.clients k ≡ true = so-here not_lost k parts.clients p.served in
    let two : ChangesOne k (λ x y. (is_standing_lost x.peer.standing ≡ false) × Loses (part parts.core x.peer parts.up) (part core y.peer up)) parts.clients cs.all =
    changes-as k (λ x y. (not_lost x.peer.standing ≡ true) × LosesIn parts.core core parts.up up x y) (λ x y. (is_standing_lost x.peer.standing ≡ false) × Loses (part parts.core x.peer parts.up) (part core y.peer up)) parts.clients cs.all
    (λ x y r. loses-of parts.core core parts.up up x y r.0 r.1) (changes-so not_lost k (LosesIn parts.core core parts.up up) parts.clients cs.all p.served (p.loses here)) in
    subst (λ (x : EngineState). LosesAt x new k) view
    (subst (λ (y : EngineState). LosesAt parts y k) (sym is) record {
      pid = refl;
      policy = p.policy;
      server = refl;
      refused = refl;
      listening = refl;
      ended = refl;
      changes = two;
      leaving = p.notes ∙ ap (λ b. parts.leaving ++ cond b ((k, None) ∷ []) []) p.served;
      waiting = p.waits;
    })

-- ---- a client to which the forwarder replies

replies-of : (k id : ℕ) (given : HouseReply) (noted : List (ℕ × Option Why)) (old new : CoreState) (up up' : QueueState) (x y : ClientState) → not_lost x.peer.standing ≡ true → AnswersNoting k id given noted old new up up' x y → (is_standing_lost x.peer.standing ≡ false) × AnswersNoting k id given noted old new up up' x y
replies-of k id given noted old new up up' x y e h = (by_lost (is_standing_lost x.peer.standing) refl, h)
  where
    by_lost : (b : Bool) → is_standing_lost x.peer.standing ≡ b → is_standing_lost x.peer.standing ≡ false
    by_lost true t = true_false (sym (sym (ap not t) ∙ e))
    by_lost false t = t

pub record AnswerParts (parts : EngineState) (k id : ℕ) (given : HouseReply) (cs : ClientsState) (core : CoreState) (up : QueueState) (ws : List ℕ) : Type 0 where
  pub served : is_client_served parts.clients k ≡ true
  pub policy : core.policy ≡ parts.core.policy
  pub answers : AnswersAt k id given (clients_and_queue_of parts) (clients_and_queue cs core up)
  pub waits : ws ≡ streams_waiting_of up.waiting cs.all

pub answer-written : (s parts new : EngineState) (k id : ℕ) (given : HouseReply) (cs : ClientsState) (core : CoreState) (up : QueueState) (ws : List ℕ) → parts ≡ s → new ≡ gone_on parts cs core up ws → AnswerParts parts k id given cs core up ws → AnsweredAt s new k id given
answer-written s parts new k id given cs core up ws view is p =
    let a = p.answers in
    let here : is_present parts.clients k ≡ true = so-here not_lost k parts.clients p.served in
    let two : ChangesOne k (λ x y. (is_standing_lost x.peer.standing ≡ false) × AnswersNoting k id given a.noted parts.core core parts.up up x y) parts.clients cs.all =
    changes-as k (λ x y. (not_lost x.peer.standing ≡ true) × AnswersNoting k id given a.noted parts.core core parts.up up x y) (λ x y. (is_standing_lost x.peer.standing ≡ false) × AnswersNoting k id given a.noted parts.core core parts.up up x y) parts.clients cs.all
    (λ x y r. replies-of k id given a.noted parts.core core parts.up up x y r.0 r.1) (changes-so not_lost k (AnswersNoting k id given a.noted parts.core core parts.up up) parts.clients cs.all p.served (a.changes here)) in
    subst (λ (x : EngineState). AnsweredAt x new k id given) view
    (subst (λ (y : EngineState). AnsweredAt parts y k id given) (sym is) record {
      pid = refl;
      policy = p.policy;
      server = refl;
      refused = refl;
      listening = refl;
      ended = refl;
      noted = a.noted;
      leaving = a.leaves;
      changes = two;
      reading = a.reading;
      waiting = p.waits;
    })

-- ---- a client that sends something

pub record GainParts (May : HouseReply → Type 0) (before recorded : Option (List Asked)) (parts : EngineState) (k : ℕ) (bytes : List ℕ) (cs : ClientsState) (core : CoreState) (up : QueueState) (heard : RunChange) (ws : List ℕ) (listening : Bool) : Type 0 where
  pub read : is_client_read parts.clients k ≡ true
  pub receives : NotesOne k (ReceivesIn May before recorded parts.pid bytes parts.core core parts.up up heard) (clients_of parts.clients parts.leaving) cs
  pub listens : listening ≡ (parts.listening && not heard.stops)
  pub waits : ws ≡ streams_waiting_of up.waiting cs.all

abbrev pub gain_new : EngineState → ClientsState → CoreState → QueueState → RunChange → List ℕ → Bool → EngineState
gain_new parts cs core up heard ws listening = record parts { core = core; up = up; clients = cs.all; leaving = cs.leaving; waiting = ws; listening = listening; ended = heard.ended }

pub gain-written : (May : HouseReply → Type 0) (before recorded : Option (List Asked)) (s parts new : EngineState) (k : ℕ) (bytes : List ℕ) (cs : ClientsState) (core : CoreState) (up : QueueState) (heard : RunChange) (ws : List ℕ) (listening : Bool)
    → parts ≡ s → new ≡ gain_new parts cs core up heard ws listening → GainParts May before recorded parts k bytes cs core up heard ws listening → GainsAt May before recorded s new k bytes
gain-written May before recorded s parts new k bytes cs core up heard ws listening view is p =
    let here : is_present parts.clients k ≡ true = so-here is_read k parts.clients p.read in
    let R : ClientState → ClientState → Type 0 = Noting k p.receives.noted (ReceivesIn May before recorded parts.pid bytes parts.core core parts.up up heard) in
    let S : ClientState → ClientState → Type 0 = λ x y. (is_read x.peer.standing ≡ true) × (ReceivesPiece May before recorded parts.pid bytes parts.core parts.up x core up y heard × (cs.leaving ≡ parts.leaving ++ loss_between x.peer.standing y.peer.standing k)) in
    let two : ChangesOne k S parts.clients cs.all =
    changes-as k (λ x y. (is_read x.peer.standing ≡ true) × R x y) S parts.clients cs.all
    (λ x y r. (r.0, (receives-of May before recorded parts.pid bytes parts.core core parts.up up heard x y r.0 r.1.goes, p.receives.leaves ∙ ap (λ (l : List (ℕ × Option Why)). parts.leaving ++ l) r.1.noted_is)))
    (changes-so is_read k R parts.clients cs.all p.read (p.receives.changes here)) in
    subst (λ (x : EngineState). GainsAt May before recorded x new k bytes) view
    (subst (λ (y : EngineState). GainsAt May before recorded parts y k bytes) (sym is) record {
      heard = heard;
      pid = refl;
      server = refl;
      refused = refl;
      changes = two;
      listening = p.listens;
      ended = refl;
      waiting = p.waits;
    })

-- ---- the server

pub record ReceiveParts (parts : EngineState) (bytes : List ℕ) (cs : ClientsState) (core : CoreState) (up : QueueState) (server : ServerState) (ws : List ℕ) (ended : Option Ended) : Type 0 where
  pub receives : ServerReceivesBytes bytes (clients_and_queue_of parts) (clients_and_queue cs core up) parts.server server ended
  pub waits : ws ≡ streams_waiting_of up.waiting cs.all

abbrev pub receive_new : EngineState → ClientsState → CoreState → QueueState → ServerState → List ℕ → Option Ended → EngineState
receive_new parts cs core up server ws ended = record parts { core = core; server = server; up = up; clients = cs.all; leaving = cs.leaving; waiting = ws; ended = ended }

pub receive-written : (s parts new : EngineState) (bytes : List ℕ) (cs : ClientsState) (core : CoreState) (up : QueueState) (server : ServerState) (ws : List ℕ) (ended : Option Ended)
    → parts ≡ s → new ≡ receive_new parts cs core up server ws ended → ReceiveParts parts bytes cs core up server ws ended → ReceivedAt s new bytes
receive-written s parts new bytes cs core up server ws ended view is p =
    subst (λ (x : EngineState). ReceivedAt x new bytes) view
    (subst (λ (y : EngineState). ReceivedAt parts y bytes) (sym is) record {
      pid = refl;
      refused = refl;
      listening = refl;
      piece = p.receives;
      waiting = p.waits;
    })

-- ---- a client that comes

pub record EnterParts (parts : EngineState) (k : ℕ) (cs : ClientsState) (core : CoreState) (up : QueueState) (refused : List ℕ) (ws : List ℕ) : Type 0 where
  pub policy : core.policy ≡ parts.core.policy
  pub waiting : up.waiting ≡ parts.up.waiting
  pub takes_in : ReceivesFrom k parts.core core (clients_of parts.clients parts.leaving) cs parts.refused refused
  pub waits : ws ≡ streams_waiting_of up.waiting cs.all

abbrev pub enter_new : EngineState → List ClientState → CoreState → QueueState → List ℕ → List (ℕ × Option Why) → List ℕ → EngineState
enter_new parts cs core up refused ls ws = record parts { core = core; up = up; clients = cs; refused = refused; leaving = ls; waiting = ws }

enters-as : (parts : EngineState) (k : ℕ) (core : CoreState) (up : QueueState) (b : Bool) (cs : List ClientState) (refused : List ℕ) (ls : List (ℕ × Option Why)) (ws : List ℕ) → cs ≡ cond b (parts.clients ++ new_client k ∷ []) parts.clients → refused ≡ cond b parts.refused (parts.refused ++ k ∷ []) → ls ≡ cond b parts.leaving (parts.leaving ++ (k, None) ∷ []) → ws ≡ streams_waiting_of up.waiting cs
    → enter_new parts cs core up refused ls ws ≡ after_admission parts core up k b
enters-as parts k core up true cs refused ls ws e f g w =
    ap (λ (l : List ClientState). enter_new parts l core up refused ls ws) e
    ∙ (ap (λ (l : List ℕ). enter_new parts (parts.clients ++ new_client k ∷ []) core up l ls ws) f
    ∙ (ap (λ (l : List (ℕ × Option Why)). enter_new parts (parts.clients ++ new_client k ∷ []) core up parts.refused l ws) g
    ∙ ap (λ (l : List ℕ). enter_new parts (parts.clients ++ new_client k ∷ []) core up parts.refused parts.leaving l) (w ∙ ap (streams_waiting_of up.waiting) e)))
enters-as parts k core up false cs refused ls ws e f g w =
    ap (λ (l : List ClientState). enter_new parts l core up refused ls ws) e
    ∙ (ap (λ (l : List ℕ). enter_new parts parts.clients core up l ls ws) f
    ∙ (ap (λ (l : List (ℕ × Option Why)). enter_new parts parts.clients core up (parts.refused ++ k ∷ []) l ws) g
    ∙ ap (λ (l : List ℕ). enter_new parts parts.clients core up (parts.refused ++ k ∷ []) (parts.leaving ++ (k, None) ∷ []) l) (w ∙ ap (streams_waiting_of up.waiting) e)))

pub enter-written : (s parts new : EngineState) (k : ℕ) (cs : ClientsState) (core : CoreState) (up : QueueState) (refused : List ℕ) (ws : List ℕ)
    → parts ≡ s → new ≡ enter_new parts cs.all core up refused cs.leaving ws → EnterParts parts k cs core up refused ws → EntersAt s new k
enter-written s parts new k cs core up refused ws view is p =
    subst (λ (x : EngineState). EntersAt x new k) view
    (subst (λ (y : EngineState). EntersAt parts y k) (sym is) record {
      let_in = p.takes_in.let_in;
      policy = p.policy;
      waiting = p.waiting;
      enters = p.takes_in.enters;
      new_is = enters-as parts k core up p.takes_in.let_in cs.all refused cs.leaving ws p.takes_in.clients_are p.takes_in.refused_are p.takes_in.leaving_are p.waits;
    })

-- ---- the room

served-last : (k : ℕ) (cs : List ClientState) → length (served_in (cs ++ new_client k ∷ [])) ≡ length (served_in cs) + 1
served-last k [] = refl
served-last k (c ∷ cs) = by_lost (is_standing_lost c.peer.standing) (served-last k cs)
  where
    by_lost : (b : Bool) → length (served_in (cs ++ new_client k ∷ [])) ≡ length (served_in cs) + 1 → length (cond b (served_in (cs ++ new_client k ∷ [])) (c.peer.number ∷ served_in (cs ++ new_client k ∷ []))) ≡ length (cond b (served_in cs) (c.peer.number ∷ served_in cs)) + 1
    by_lost true ih = ih
    by_lost false ih = omega (arith, ih)

pub room-entered : (k : ℕ) (b : Bool) (cs cs' : List ClientState) (up : QueueState) → cs' ≡ cond b (cs ++ new_client k ∷ []) cs → FAREWELL_ROOM * (length (served_in cs) + 1) ≤ up.spare → HasRoom cs' up
room-entered k b cs cs' up e room = subst (λ (l : List ClientState). HasRoom l up) (sym e) (by_let_in b)
  where
    by_let_in : (b : Bool) → HasRoom (cond b (cs ++ new_client k ∷ []) cs) up
    by_let_in true = omega (arith, served-last k cs, room)
    by_let_in false = omega (arith, room)
