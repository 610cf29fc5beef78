-- What the code of each event does is what the laws take.
use Rattle.std.proofs.Common.{◌≡◌, ◌≢◌, ℕ, Bool, true, false, List, [], ◌∷◌, Option, Some, None, refl, sym, ap, ◌∙◌, subst, inl, inr, length, Result, Ok, Err, OnOk}
use Rattle.mux_outside.specs.declared.house_mark.HouseMark.{HouseMark as Asked}
use Rattle.mux_outside.specs.declared.house.HouseReply.{HouseReply}
use Rattle.mux_outside.specs.declared.mark.Mark.{Mark}
use Rattle.mux_outside.specs.declared.mark.Mark.TheVariants.{Accepts, Gets, Ends, Fails, WriteFails, House}
use Rattle.mux_outside.specs.declared.house_mark.HouseMark.TheVariants.{HouseAnswer}
use Rattle.mux_history.specs.declared.broke.Break.TheVariants as broke
use Rattle.mux_history.specs.declared.ended.Ended.{Ended}
use Rattle.mux_history.specs.declared.ended.Ended.TheVariants as ended
use Rattle.mux_peers.specs.Stands.{is_read}
use Rattle.mux_peers.specs.Server.{stream_end}
use Rattle.mux_state.specs.declared.event.Event.{Event}
use Rattle.mux_state.specs.declared.event.Event.TheVariants as event
use Rattle.mux_state.specs.Events.{MarkRecords}
use Rattle.mux_state.specs.Moves.{AnsweredAt, GainsAt, ReceivedAt, IsStreamEvent, IsGone, LosesAt, not_lost}
use Rattle.mux_state.specs.State.{EngineState, after_admission, numbers, run_ended_by, server_cause}
use Rattle.mux_state.specs.Stands.{GoesAlone, GoesOn}
use Rattle.mux_state.specs.Steps.{EntersAt, GainsFrom, is_client_read, is_client_served}
use Rattle.mux_state.proofs.Asking.{alone-goes}
use Rattle.mux_state.proofs.Comes.{goes-in}
use Rattle.mux_state.proofs.Gains.{goes-gained}
use Rattle.mux_state.proofs.Receiving.{goes-heard}
use Rattle.mux_state.proofs.Looked.{none-so, so-here}
use Rattle.mux_state.proofs.Loses.{goes-lost}
use Rattle.mux_state.proofs.Replied.{goes-replied, goes-unreplied}
use Rattle.mux_state.proofs.Over.{goes-ended, goes-failed, goes-over, goes-unwritten}
use Rattle.mux_state.proofs.Still.{goes-unheard, goes-unlost}

-- ---- what the code does

-- a client's stream is gone
pub record Lost (s new : EngineState) (k : ℕ) : Type 0 where
  pub loses : is_client_served s.clients k ≡ true → LosesAt s new k
  pub stays : is_client_served s.clients k ≡ false → new ≡ s

-- a client's stream gave bytes
pub record Gained (May : HouseReply → Type 0) (before recorded : Option (List Asked)) (s new : EngineState) (k : ℕ) (bytes : List ℕ) : Type 0 where
  pub gains : is_client_read s.clients k ≡ true → GainsAt May before recorded s new k bytes
  pub stays : is_client_read s.clients k ≡ false → new ≡ s
  pub untold : is_client_read s.clients k ≡ false → recorded ≡ before
  pub policy : new.core.policy ≡ s.core.policy
  pub numbers_are : numbers new.clients ≡ numbers s.clients

-- the forwarder replied to a client
pub record Replied (s new : EngineState) (k id : ℕ) (given : HouseReply) : Type 0 where
  pub answers : is_client_served s.clients k ≡ true → AnsweredAt s new k id given
  pub stays : is_client_served s.clients k ≡ false → new ≡ s

-- an event, of those at which nothing is requested of the forwarder
abbrev pub DidAlone : EngineState → EngineState → Event → Type 0
DidAlone s new (event.Accepted k) = EntersAt s new k
DidAlone s new (event.FromClient k bytes) = ⊥
DidAlone s new (event.ClientEnd k) = Lost s new k
DidAlone s new (event.ClientFailed k) = Lost s new k
DidAlone s new (event.HouseSays k id given) = Replied s new k id given
DidAlone s new (event.FromServer bytes) = ReceivedAt s new bytes.now
DidAlone s new event.ServerEnd = new ≡ run_ended_by s (server_cause s)
DidAlone s new event.ServerFailed = new ≡ run_ended_by s ended.ServerFailed

-- the event at which it may be
abbrev pub DidAsking : (HouseReply → Type 0) → Option (List Asked) → Option (List Asked) → EngineState → EngineState → Event → Type 0
DidAsking May before recorded s new (event.FromClient k bytes) = Gained May before recorded s new k bytes.now
DidAsking May before recorded s new e = ⊥

-- ---- a client that comes

enters-goes : (s new : EngineState) (k : ℕ) → s.ended ≡ None → EntersAt s new k → GoesAlone s new (Accepts k)
enters-goes s new k live h =
    subst (λ (t : EngineState). GoesAlone s t (Accepts k)) (sym h.new_is)
    (goes-in s new.core new.up k h.let_in live h.policy h.waiting
    (subst (λ (t : EngineState). Rattle.mux_peers.specs.Entering.PeerEnters k s.core new.core s.clients t.clients h.let_in) h.new_is h.enters))

entered-pid : (s new : EngineState) (k : ℕ) → EntersAt s new k → new.pid ≡ s.pid
entered-pid s new k h = ap (λ (t : EngineState). t.pid) h.new_is ∙ by_let_in h.let_in
  where
    by_let_in : (b : Bool) → (after_admission s new.core new.up k b).pid ≡ s.pid
    by_let_in true = refl
    by_let_in false = refl

-- ---- a client whose stream is gone

lost-goes : (s new : EngineState) (k : ℕ) (mark : Mark) → k ≢ 0 → IsGone mark k → s.ended ≡ None → Lost s new k → GoesAlone s new mark
lost-goes s new k mark nz gone live h = by_served (is_client_served s.clients k) refl
  where
    by_served : (b : Bool) → is_client_served s.clients k ≡ b → GoesAlone s new mark
    by_served true e = goes-lost s new k mark nz gone live (so-here not_lost k s.clients e) (h.loses e)
    by_served false e = λ picked given marks closed st al.
        subst (λ (t : EngineState). Rattle.mux_state.specs.Stands.RepresentsSoFar picked given t (mark ∷ marks) closed) (sym (h.stays e))
        (goes-unlost s k mark nz gone live (none-so not_lost k s.clients (st.at [] []).rows.fit.apart e) picked given marks closed st al)

lost-pid : (s new : EngineState) (k : ℕ) → Lost s new k → (new.pid ≡ s.pid) × (new.core.policy ≡ s.core.policy)
lost-pid s new k h = by_served (is_client_served s.clients k) refl
  where
    by_served : (b : Bool) → is_client_served s.clients k ≡ b → (new.pid ≡ s.pid) × (new.core.policy ≡ s.core.policy)
    by_served true e = ((h.loses e).pid, (h.loses e).policy)
    by_served false e = (ap (λ (t : EngineState). t.pid) (h.stays e), ap (λ (t : EngineState). t.core.policy) (h.stays e))

-- ---- a client to which the forwarder replies

replied-goes : (s new : EngineState) (k id : ℕ) (given : HouseReply) → k ≢ 0 → s.ended ≡ None → Replied s new k id given → GoesAlone s new (House (HouseAnswer k id given))
replied-goes s new k id given nz live h = by_served (is_client_served s.clients k) refl
  where
    by_served : (b : Bool) → is_client_served s.clients k ≡ b → GoesAlone s new (House (HouseAnswer k id given))
    by_served true e = goes-replied s new k id given nz live (so-here not_lost k s.clients e) (h.answers e)
    by_served false e = λ picked used marks closed st al.
        subst (λ (t : EngineState). Rattle.mux_state.specs.Stands.RepresentsSoFar picked used t (House (HouseAnswer k id given) ∷ marks) closed) (sym (h.stays e))
        (goes-unreplied s k id given live (none-so not_lost k s.clients (st.at [] []).rows.fit.apart e) picked used marks closed st al)

replied-pid : (s new : EngineState) (k id : ℕ) (given : HouseReply) → Replied s new k id given → (new.pid ≡ s.pid) × (new.core.policy ≡ s.core.policy)
replied-pid s new k id given h = by_served (is_client_served s.clients k) refl
  where
    by_served : (b : Bool) → is_client_served s.clients k ≡ b → (new.pid ≡ s.pid) × (new.core.policy ≡ s.core.policy)
    by_served true e = ((h.answers e).pid, (h.answers e).policy)
    by_served false e = (ap (λ (t : EngineState). t.pid) (h.stays e), ap (λ (t : EngineState). t.core.policy) (h.stays e))

-- ---- a client that sends something

pub gained-goes : (May : HouseReply → Type 0) (before recorded : Option (List Asked)) (s new : EngineState) (k : ℕ) (bytes : List ℕ) → k ≢ 0 → s.ended ≡ None → Gained May before recorded s new k bytes → GoesOn May before recorded s new (Gets k bytes)
gained-goes May before recorded s new k bytes nz live h = by_received (is_client_read s.clients k) refl
  where
    by_received : (b : Bool) → is_client_read s.clients k ≡ b → GoesOn May before recorded s new (Gets k bytes)
    by_received true e = goes-gained May before recorded s new k bytes live (so-here is_read k s.clients e) nz (h.gains e)
    by_received false e =
        subst (λ (t : EngineState). GoesOn May before recorded s t (Gets k bytes)) (sym (h.stays e))
        (subst (λ (o : Option (List Asked)). GoesOn May before o s s (Gets k bytes)) (sym (h.untold e))
        (λ picked given marks closed st al. goes-unheard May before s k bytes nz live (none-so is_read k s.clients (st.at [] []).rows.fit.apart e) picked given marks closed st al))

-- ---- an event at which nothing is requested of the forwarder

over-goes : (s new : EngineState) (cause : Ended) (mark : Mark) → new ≡ run_ended_by s cause → GoesAlone s (run_ended_by s cause) mark → GoesAlone s new mark
over-goes s new cause mark is h = subst (λ (t : EngineState). GoesAlone s t mark) (sym is) h

alone : (s new : EngineState) (e : Event) (mark : Mark) → s.ended ≡ None → DidAlone s new e → MarkRecords e mark → GoesAlone s new mark
alone s new (event.Accepted k) mark live d t = subst (GoesAlone s new) (sym t) (enters-goes s new k live d)
alone s new (event.FromClient k bytes) mark live d t = absurd d
alone s new (event.ClientEnd k) mark live d t = subst (GoesAlone s new) (sym t.1) (lost-goes s new k (Ends k) t.0 refl live d)
alone s new (event.ClientFailed k) mark live d t = elim t.1 [
  | inl m ↦ subst (GoesAlone s new) (sym m) (lost-goes s new k (Fails k) t.0 refl live d)
  | inr m ↦ subst (GoesAlone s new) (sym m) (lost-goes s new k (WriteFails k) t.0 refl live d)
]
alone s new (event.HouseSays k id given) mark live d t = subst (GoesAlone s new) (sym t.1) (replied-goes s new k id given t.0 live d)
alone s new (event.FromServer bytes) mark live d t = subst (GoesAlone s new) (sym t) (goes-heard s new bytes.now live d)
alone s new event.ServerEnd mark live d t = subst (GoesAlone s new) (sym t) (over-goes s new (server_cause s) (Ends 0) d (goes-ended s live))
alone s new event.ServerFailed mark live d t = elim t [
  | inl m ↦ subst (GoesAlone s new) (sym m) (over-goes s new ended.ServerFailed (Fails 0) d (goes-failed s live))
  | inr m ↦ subst (GoesAlone s new) (sym m) (over-goes s new ended.ServerFailed (WriteFails 0) d (goes-unwritten s live))
]

-- the process id and the policy stay
pub record SameRun (s new : EngineState) : Type 0 where
  pub pid : new.pid ≡ s.pid
  pub policy : new.core.policy ≡ s.core.policy

pub same-run : (s new : EngineState) (e : Event) → DidAlone s new e → SameRun s new
same-run s new (event.Accepted k) d = record { pid = entered-pid s new k d; policy = d.policy }
same-run s new (event.FromClient k bytes) d = absurd d
same-run s new (event.ClientEnd k) d = record { pid = (lost-pid s new k d).0; policy = (lost-pid s new k d).1 }
same-run s new (event.ClientFailed k) d = record { pid = (lost-pid s new k d).0; policy = (lost-pid s new k d).1 }
same-run s new (event.HouseSays k id given) d = record { pid = (replied-pid s new k id given d).0; policy = (replied-pid s new k id given d).1 }
same-run s new (event.FromServer bytes) d = record { pid = d.pid; policy = d.piece.receiving.policy }
same-run s new event.ServerEnd d = record { pid = ap (λ (t : EngineState). t.pid) d; policy = ap (λ (t : EngineState). t.core.policy) d }
same-run s new event.ServerFailed d = record { pid = ap (λ (t : EngineState). t.pid) d; policy = ap (λ (t : EngineState). t.core.policy) d }

pub did-goes : (May : HouseReply → Type 0) (recorded : Option (List Asked)) (s new : EngineState) (e : Event) (mark : Mark) → s.ended ≡ None → DidAlone s new e → MarkRecords e mark → GoesOn May recorded recorded s new mark
did-goes May recorded s new e mark live d t = let same : SameRun s new = same-run s new e d in alone-goes May recorded s new mark same.pid same.policy (alone s new e mark live d t)

pub asking-goes : (May : HouseReply → Type 0) (before recorded : Option (List Asked)) (s new : EngineState) (e : Event) (mark : Mark) → s.ended ≡ None → DidAsking May before recorded s new e → MarkRecords e mark → GoesOn May before recorded s new mark
asking-goes May before recorded s new (event.FromClient k bytes) mark live d t = subst (λ (m : Mark). GoesOn May before recorded s new m) (sym t.1) (gained-goes May before recorded s new k bytes.now t.0 live d)
asking-goes May before recorded s new e mark live d t = absurd d

-- ---- from the clauses of the calls

pub lost-on : {T E : Type 0} (r : Result T E) (s new : EngineState) (k : ℕ) → OnOk r (is_client_served s.clients k ≡ true → LosesAt s new k) → OnOk r (is_client_served s.clients k ≡ false → new ≡ s) → OnOk r (Lost s new k)
lost-on (Ok x) s new k loses stays = record { loses = loses; stays = stays }
lost-on (Err e) s new k loses stays = tt

pub replied-on : {T E : Type 0} (r : Result T E) (s new : EngineState) (k id : ℕ) (given : HouseReply) → OnOk r (is_client_served s.clients k ≡ true → AnsweredAt s new k id given) → OnOk r (is_client_served s.clients k ≡ false → new ≡ s) → OnOk r (Replied s new k id given)
replied-on (Ok x) s new k id given answers stays = record { answers = answers; stays = stays }
replied-on (Err e) s new k id given answers stays = tt

pub gained-on : {T E : Type 0} (r : Result T E) (May : HouseReply → Type 0) (before recorded : Option (List Asked)) (s new : EngineState) (k : ℕ) (bytes : List ℕ) → OnOk r (GainsFrom May before recorded s new k bytes) → (is_client_read s.clients k ≡ false → recorded ≡ before) → OnOk r (Gained May before recorded s new k bytes)
gained-on (Ok x) May before recorded s new k bytes g untold = record { gains = g.gains; stays = g.stays; untold = untold; policy = g.policy; numbers_are = g.numbers_are }
gained-on (Err e) May before recorded s new k bytes g untold = tt

pub cause-as : (s : EngineState) → stream_end s.server.rest s.server.index ≡ server_cause s
cause-as s = by_rest s.server.rest
  where
    by_rest : (rest : List ℕ) → stream_end rest s.server.index ≡ (elim rest as (λ _. Ended) [ [] ↦ ended.ServerEnd | b ∷ more ↦ ended.Broke s.server.index (broke.Cut (length (b ∷ more))) ])
    by_rest [] = refl
    by_rest (b ∷ more) = refl

-- ---- an event after the end of the run

records-event : (e : Event) (mark : Mark) → MarkRecords e mark → IsStreamEvent mark
records-event (event.Accepted k) mark t = subst IsStreamEvent (sym t) tt
records-event (event.FromClient k bytes) mark t = subst IsStreamEvent (sym t.1) tt
records-event (event.ClientEnd k) mark t = subst IsStreamEvent (sym t.1) tt
records-event (event.ClientFailed k) mark t = elim t.1 [ inl m ↦ subst IsStreamEvent (sym m) tt | inr m ↦ subst IsStreamEvent (sym m) tt ]
records-event (event.HouseSays k id given) mark t = subst IsStreamEvent (sym t.1) tt
records-event (event.FromServer bytes) mark t = subst IsStreamEvent (sym t) tt
records-event event.ServerEnd mark t = subst IsStreamEvent (sym t) tt
records-event event.ServerFailed mark t = elim t [ inl m ↦ subst IsStreamEvent (sym m) tt | inr m ↦ subst IsStreamEvent (sym m) tt ]

pub over-stays : (May : HouseReply → Type 0) (recorded : Option (List Asked)) (s : EngineState) (e : Event) (mark : Mark) (cause : Ended) → s.ended ≡ Some cause → MarkRecords e mark → GoesOn May recorded recorded s s mark
over-stays May recorded s e mark cause run_ended_by t = alone-goes May recorded s s mark refl refl (goes-over s mark cause (records-event e mark t) run_ended_by)
