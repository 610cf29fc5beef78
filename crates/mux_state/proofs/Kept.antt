-- What each event leaves as it was.
use Rattle.std.proofs.Common.{◌≡◌, ◌≢◌, ℕ, Bool, true, false, List, [], ◌∷◌, ◌++◌, Option, Some, None, refl, sym, ap, ◌∙◌, subst, inl, inr, ◌⊎◌, cond, append-nil, length}
use Rattle.std.specs.Prelude.{◌==◌, MatchBool}
use Rattle.std.proofs.lemmas.Bool.{eqb-true}
use Rattle.mux_outside.specs.declared.house_mark.HouseMark.{HouseMark as Asked}
use Rattle.mux_outside.specs.declared.house.HouseReply.{HouseReply}
use Rattle.mux_history.specs.declared.why.Why.{Why}
use Rattle.mux_history.specs.declared.broke.Break.TheVariants as broke
use Rattle.mux_history.specs.declared.ended.Ended.{Ended}
use Rattle.mux_history.specs.declared.ended.Ended.TheVariants as ended
use Rattle.mux_peers.specs.State.{ClientState, part}
use Rattle.mux_peers.specs.Stands.{is_standing_lost, is_read}
use Rattle.mux_peers.specs.Among.{ChangesOne}
use Rattle.mux_peers.specs.Entering.{new_client}
use Rattle.mux_peers.specs.Losing.{Loses, loss_between}
use Rattle.mux_peers.specs.Pieces.{ReceivesPiece}
use Rattle.mux_state.specs.declared.event.Event.{Event}
use Rattle.mux_state.specs.declared.event.Event.TheVariants as event
use Rattle.mux_state.specs.Events.{Arrives, EngineKeeps, LetsClientIn, MayEnd, Refuses, SameStreams}
use Rattle.mux_state.specs.Moves.{GainsAt, LosesAt}
use Rattle.mux_state.specs.State.{EngineState, SameClient, after_admission, in_client, numbers, run_ended_by, server_cause}
use Rattle.mux_state.specs.Steps.{EntersAt, is_client_read, is_client_served}
use Rattle.mux_state.proofs.Comes.{numbers-last}
use Rattle.mux_state.proofs.Pairs.{pair}
use Rattle.mux_state.proofs.Receiving.{numbers-kept}
use Rattle.mux_state.proofs.Lists.{test_other}
use Rattle.mux_state.proofs.Looked.{so-here}
use Rattle.mux_state.proofs.OneClient.{numbers-one, same-one}
use Rattle.mux_state.proofs.Stepped.{Replied, DidAlone, DidAsking, Gained, Lost, SameRun, same-run}

-- ---- one client goes on, or none

pub record KeepsOthers (k : ℕ) (s new : EngineState) : Type 0 where
  pub others : (j : ℕ) → k ≢ j → SameClient j s.clients new.clients
  pub streams : SameStreams s new
  pub more_leaving : List (ℕ × Option Why)
  pub leaving : new.leaving ≡ s.leaving ++ more_leaving

keeps-all : (k : ℕ) (s new : EngineState) → new ≡ s → KeepsOthers k s new
keeps-all k s new is = subst (λ (t : EngineState). KeepsOthers k s t) (sym is) record {
  others = λ j ne. refl;
  streams = record { clients = refl; refused = refl };
  more_leaving = [];
  leaving = sym (append-nil s.leaving);
}

loses-others : (k : ℕ) (s new : EngineState) → LosesAt s new k → KeepsOthers k s new
loses-others k s new h =
    let R : ClientState → ClientState → Type 0 = λ x y. (is_standing_lost x.peer.standing ≡ false) × Loses (part s.core x.peer s.up) (part new.core y.peer new.up) in
    record {
      others = λ j ne. same-one k j R s.clients new.clients ne (λ x y r. r.1.number) h.changes;
      streams = record { clients = numbers-one k R s.clients new.clients (λ x y r. r.1.number) h.changes; refused = h.refused };
      more_leaving = (k, None) ∷ [];
      leaving = h.leaving;
    }

lost-others : (k : ℕ) (s new : EngineState) → Lost s new k → KeepsOthers k s new
lost-others k s new h = by_served (is_client_served s.clients k) refl
  where
    by_served : (b : Bool) → is_client_served s.clients k ≡ b → KeepsOthers k s new
    by_served true e = loses-others k s new (h.loses e)
    by_served false e = keeps-all k s new (h.stays e)

lost-ends : (k : ℕ) (s new : EngineState) → s.ended ≡ None → Lost s new k → new.ended ≡ None
lost-ends k s new live h = by_served (is_client_served s.clients k) refl
  where
    by_served : (b : Bool) → is_client_served s.clients k ≡ b → new.ended ≡ None
    by_served true e = (h.loses e).ended ∙ live
    by_served false e = ap (λ (t : EngineState). t.ended) (h.stays e) ∙ live

-- the one that goes on keeps its number where all numbers stay
same-others : (k j : ℕ) (R : ClientState → ClientState → Type 0) (cs cs' : List ClientState) → k ≢ j → numbers cs' ≡ numbers cs → ChangesOne k R cs cs' → SameClient j cs cs'
same-others k j R [] cs' ne n h = ap (λ ds. in_client None (λ c. Some c) ds j) h
same-others k j R (c ∷ cs) cs' ne n h = by_head (c.peer.number == k) refl h (λ ds m w. same-others k j R cs ds ne m w)
  where
    look : Bool → ClientState → List ClientState → Option ClientState
    look b c ds = cond b (Some c) (in_client None (λ c. Some c) ds j)

    by_head : (b : Bool) → (c.peer.number == k) ≡ b → MatchBool b ((c' : ClientState) × (R c c' × (cs' ≡ c' ∷ cs))) ((ds : List ClientState) × (ChangesOne k R cs ds × (cs' ≡ c ∷ ds)))
        → ((ds : List ClientState) → numbers ds ≡ numbers cs → ChangesOne k R cs ds → SameClient j cs ds) → SameClient j (c ∷ cs) cs'
    by_head true e w ih =
        let all : w.0.peer.number ∷ numbers cs ≡ c.peer.number ∷ numbers cs = sym (ap numbers w.1.1) ∙ n in
        let same : w.0.peer.number ≡ c.peer.number = cc in
        let other : (c.peer.number == j) ≡ false = test_other c.peer.number j (λ d. ne (sym (eqb-true c.peer.number k e) ∙ d)) in
        ap (λ ds. in_client None (λ c. Some c) ds j) w.1.1 ∙ (ap (λ b. look b w.0 cs) (ap (λ m. m == j) same ∙ other) ∙ sym (ap (λ b. look b c cs) other))
    by_head false e w ih =
        let all : c.peer.number ∷ numbers w.0 ≡ c.peer.number ∷ numbers cs = sym (ap numbers w.1.1) ∙ n in
        let rest : numbers w.0 ≡ numbers cs = cc in
        ap (λ ds. in_client None (λ c. Some c) ds j) w.1.1 ∙ ap (λ o. cond (c.peer.number == j) (Some c) o) (ih w.0 rest w.1.0)

gains-leaving : (May : HouseReply → Type 0) (before recorded : Option (List Asked)) (s new : EngineState) (k : ℕ) (bytes : List ℕ) → is_client_read s.clients k ≡ true → GainsAt May before recorded s new k bytes → (more : List (ℕ × Option Why)) × (new.leaving ≡ s.leaving ++ more)
gains-leaving May before recorded s new k bytes e h =
    let p = pair k (λ x y. (is_read x.peer.standing ≡ true) × (ReceivesPiece May before recorded s.pid bytes s.core s.up x new.core new.up y h.heard × (new.leaving ≡ s.leaving ++ loss_between x.peer.standing y.peer.standing k))) s.clients new.clients (so-here is_read k s.clients e) h.changes in
    (loss_between p.first.peer.standing p.now.peer.standing k, p.is.1.1)

gained-others : (May : HouseReply → Type 0) (before recorded : Option (List Asked)) (s new : EngineState) (k : ℕ) (bytes : List ℕ) → Gained May before recorded s new k bytes → KeepsOthers k s new
gained-others May before recorded s new k bytes h = by_received (is_client_read s.clients k) refl
  where
    by_received : (b : Bool) → is_client_read s.clients k ≡ b → KeepsOthers k s new
    by_received true e = let g = h.gains e in let l = gains-leaving May before recorded s new k bytes e g in record {
      others = λ j ne. same-others k j _ s.clients new.clients ne h.numbers_are g.changes;
      streams = record { clients = h.numbers_are; refused = g.refused };
      more_leaving = l.0;
      leaving = l.1;
    }
    by_received false e = keeps-all k s new (h.stays e)

pub gained-pid : (May : HouseReply → Type 0) (before recorded : Option (List Asked)) (s new : EngineState) (k : ℕ) (bytes : List ℕ) → Gained May before recorded s new k bytes → new.pid ≡ s.pid
gained-pid May before recorded s new k bytes h = by_received (is_client_read s.clients k) refl
  where
    by_received : (b : Bool) → is_client_read s.clients k ≡ b → new.pid ≡ s.pid
    by_received true e = (h.gains e).pid
    by_received false e = ap (λ (t : EngineState). t.pid) (h.stays e)

-- ---- a client to which the forwarder replies

replied-others : (k id : ℕ) (given : HouseReply) (s new : EngineState) → Replied s new k id given → KeepsOthers k s new
replied-others k id given s new h = by_served (is_client_served s.clients k) refl
  where
    by_served : (b : Bool) → is_client_served s.clients k ≡ b → KeepsOthers k s new
    by_served true e = let c = h.answers e in record {
      others = λ j ne. same-others k j _ s.clients new.clients ne (numbers-kept s.clients new.clients c.reading) c.changes;
      streams = record { clients = numbers-kept s.clients new.clients c.reading; refused = c.refused };
      more_leaving = c.noted;
      leaving = c.leaving;
    }
    by_served false e = keeps-all k s new (h.stays e)

replied-ends : (k id : ℕ) (given : HouseReply) (s new : EngineState) → s.ended ≡ None → Replied s new k id given → new.ended ≡ None
replied-ends k id given s new live h = by_served (is_client_served s.clients k) refl
  where
    by_served : (b : Bool) → is_client_served s.clients k ≡ b → new.ended ≡ None
    by_served true e = (h.answers e).ended ∙ live
    by_served false e = ap (λ (t : EngineState). t.ended) (h.stays e) ∙ live

-- ---- a client that comes

look-last : (k j : ℕ) (cs : List ClientState) → k ≢ j → SameClient j cs (cs ++ new_client k ∷ [])
look-last k j [] ne = ap (λ b. cond b (Some (new_client k)) None) (test_other k j ne)
look-last k j (c ∷ cs) ne = ap (λ o. cond (c.peer.number == j) (Some c) o) (look-last k j cs ne)

-- who is here then
pub record Comes (k : ℕ) (s new : EngineState) : Type 0 where
  pub others : (j : ℕ) → k ≢ j → SameClient j s.clients new.clients
  pub arrives : LetsClientIn k s new ⊎ Refuses k s new
  pub ended_is : new.ended ≡ s.ended
  pub more_leaving : List (ℕ × Option Why)
  pub leaving : new.leaving ≡ s.leaving ++ more_leaving

comes : (k : ℕ) (s new : EngineState) → EntersAt s new k → Comes k s new
comes k s new h = subst (Comes k s) (sym h.new_is) (by_let_in h.let_in)
  where
    by_let_in : (b : Bool) → Comes k s (after_admission s new.core new.up k b)
    by_let_in true = record {
      others = λ j ne. look-last k j s.clients ne;
      arrives = inl record { clients = numbers-last s.clients (new_client k); refused = refl };
      ended_is = refl;
      more_leaving = [];
      leaving = sym (append-nil s.leaving);
    }
    by_let_in false = record {
      others = λ j ne. refl;
      arrives = inr record { clients = refl; refused = refl };
      ended_is = refl;
      more_leaving = (k, None) ∷ [];
      leaving = refl;
    }

-- ---- each event

not-over : (s new : EngineState) → s.ended ≡ None → (cause : Ended) → s.ended ≡ Some cause → new ≡ s
not-over s new live cause e = absurd (let z : None ≡ Some cause = sym live ∙ e in cc)

server-cause : (s : EngineState) → server_cause s ≢ ended.ServerFailed
server-cause s = by_rest s.server.rest
  where
    by_rest : (rest : List ℕ) → (elim rest as (λ _. Ended) [ [] ↦ ended.ServerEnd | b ∷ more ↦ ended.Broke s.server.index (broke.Cut (length (b ∷ more))) ]) ≢ ended.ServerFailed
    by_rest [] e = cc
    by_rest (b ∷ more) e = cc

server-unspent : (s : EngineState) → server_cause s ≢ ended.Spent
server-unspent s = by_rest s.server.rest
  where
    by_rest : (rest : List ℕ) → (elim rest as (λ _. Ended) [ [] ↦ ended.ServerEnd | b ∷ more ↦ ended.Broke s.server.index (broke.Cut (length (b ∷ more))) ]) ≢ ended.Spent
    by_rest [] e = cc
    by_rest (b ∷ more) e = cc

server-permitted : (s : EngineState) (index : ℕ) → server_cause s ≢ ended.StartRefused index
server-permitted s index = by_rest s.server.rest
  where
    by_rest : (rest : List ℕ) → (elim rest as (λ _. Ended) [ [] ↦ ended.ServerEnd | b ∷ more ↦ ended.Broke s.server.index (broke.Cut (length (b ∷ more))) ]) ≢ ended.StartRefused index
    by_rest [] e = cc
    by_rest (b ∷ more) e = cc

over-keeps : (s new : EngineState) (e : Event) (cause : Ended) → s.ended ≡ None → new ≡ run_ended_by s cause → Rattle.mux_state.specs.Events.LeavesOthers e s (run_ended_by s cause) → Arrives e s (run_ended_by s cause) → EngineKeeps e s new
over-keeps s new e cause live is others arrives = subst (λ (t : EngineState). EngineKeeps e s t) (sym is) record {
  pid = refl;
  policy = refl;
  others = others;
  streams = λ on. arrives;
  more_leaving = [];
  leaving = sym (append-nil s.leaving);
  over = not-over s (run_ended_by s cause) live;
}

client-keeps : (k : ℕ) (s new : EngineState) (e : Event) → s.ended ≡ None → SameRun s new → KeepsOthers k s new → (KeepsOthers k s new → Rattle.mux_state.specs.Events.LeavesOthers e s new) → (SameStreams s new → Arrives e s new) → EngineKeeps e s new
client-keeps k s new e live same h others arrives = record {
  pid = same.pid;
  policy = same.policy;
  others = others h;
  streams = λ on. arrives h.streams;
  more_leaving = h.more_leaving;
  leaving = h.leaving;
  over = not-over s new live;
}

pub did-keeps : (s new : EngineState) (e : Event) → s.ended ≡ None → DidAlone s new e → EngineKeeps e s new
did-keeps s new (event.Accepted k) live d = let c : Comes k s new = comes k s new d in record {
  pid = (same-run s new (event.Accepted k) d).pid;
  policy = d.policy;
  others = c.others;
  streams = λ on. c.arrives;
  more_leaving = c.more_leaving;
  leaving = c.leaving;
  over = not-over s new live;
}
did-keeps s new (event.FromClient k bytes) live d = absurd d
did-keeps s new (event.ClientEnd k) live d = client-keeps k s new (event.ClientEnd k) live (same-run s new (event.ClientEnd k) d) (lost-others k s new d) (λ h. h.others) (λ h. h)
did-keeps s new (event.ClientFailed k) live d = client-keeps k s new (event.ClientFailed k) live (same-run s new (event.ClientFailed k) d) (lost-others k s new d) (λ h. h.others) (λ h. h)
did-keeps s new (event.HouseSays k id given) live d = client-keeps k s new (event.HouseSays k id given) live (same-run s new (event.HouseSays k id given) d) (replied-others k id given s new d) (λ h. h.others) (λ h. h)
did-keeps s new (event.FromServer bytes) live d = record {
  pid = d.pid;
  policy = d.piece.receiving.policy;
  others = tt;
  streams = λ on. record { clients = numbers-kept s.clients new.clients d.piece.receiving.reading; refused = d.refused };
  more_leaving = d.piece.receiving.noted;
  leaving = d.piece.receiving.leaves;
  over = not-over s new live;
}
did-keeps s new event.ServerEnd live d = over-keeps s new event.ServerEnd (server_cause s) live d refl record { clients = refl; refused = refl }
did-keeps s new event.ServerFailed live d = over-keeps s new event.ServerFailed ended.ServerFailed live d refl record { clients = refl; refused = refl }

-- how it may end, where that follows from the event alone
pub did-ends : (s new : EngineState) (e : Event) → s.ended ≡ None → DidAlone s new e → ((bytes : _) → e ≡ event.FromServer bytes → MayEnd e new.ended) → MayEnd e new.ended
did-ends s new (event.Accepted k) live d server = (comes k s new d).ended_is ∙ live
did-ends s new (event.FromClient k bytes) live d server = absurd d
did-ends s new (event.ClientEnd k) live d server = lost-ends k s new live d
did-ends s new (event.ClientFailed k) live d server = lost-ends k s new live d
did-ends s new (event.HouseSays k id given) live d server = replied-ends k id given s new live d
did-ends s new (event.FromServer bytes) live d server = server bytes refl
did-ends s new event.ServerEnd live d server = (
  λ e. server-cause s (let f : Some (server_cause s) ≡ Some ended.ServerFailed = sym (ap (λ (t : EngineState). t.ended) d) ∙ e in cc),
  λ e. server-unspent s (let f : Some (server_cause s) ≡ Some ended.Spent = sym (ap (λ (t : EngineState). t.ended) d) ∙ e in cc),
  λ index e. server-permitted s index (let f : Some (server_cause s) ≡ Some (ended.StartRefused index) = sym (ap (λ (t : EngineState). t.ended) d) ∙ e in cc),
)
did-ends s new event.ServerFailed live d server = ap (λ (t : EngineState). t.ended) d

pub asking-keeps : (May : HouseReply → Type 0) (before recorded : Option (List Asked)) (s new : EngineState) (e : Event) → s.ended ≡ None → DidAsking May before recorded s new e → EngineKeeps e s new
asking-keeps May before recorded s new (event.FromClient k bytes) live d =
    client-keeps k s new (event.FromClient k bytes) live record { pid = gained-pid May before recorded s new k bytes.now d; policy = d.policy } (gained-others May before recorded s new k bytes.now d) (λ o. o.others) (λ o. o)
asking-keeps May before recorded s new e live d = absurd d
