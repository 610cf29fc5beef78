-- A piece of the server's bytes leaves each client as it was for which it makes no row.
use Rattle.std.proofs.Common.{◌≡◌, ℕ, Bool, true, false, not, List, [], ◌∷◌, ◌++◌, Option, Some, None, refl, sym, ap, ◌∙◌, subst, cond, is_some}
use Rattle.std.specs.Prelude.{◌==◌}
use Rattle.std.proofs.lemmas.Bool.{eqb-true}
use Rattle.mux_outside.specs.declared.house.HouseReply.{HouseReply}
use Rattle.mux_outside.specs.declared.mark.Mark.{Mark}
use Rattle.mux_outside.specs.declared.mark.Mark.TheVariants.{Gets}
use Rattle.mux_history.specs.declared.ended.Ended.{Ended}
use Rattle.mux_history.specs.Pending.{pending_down}
use Rattle.mux_history.specs.Rows.{Row, rows_of, is_run_over}
use Rattle.mux_history.specs.Settings.{by_lists}
use Rattle.mux_history.specs.Solo.{run_end_of}
use Rattle.mux_history.specs.Journal.{log_of_journal}
use Rattle.mux_peers.specs.declared.standing.Standing.{Standing}
use Rattle.mux_peers.specs.State.{ClientState, PeerState}
use Rattle.mux_peers.specs.Stands.{is_standing_lost, standing_of}
use Rattle.mux_peers.specs.Among.{AllFit, EachFits, InFits, KeepReading, is_present}
use Rattle.mux_state.specs.declared.event.Event.{Event}
use Rattle.mux_state.specs.declared.event.Event.TheVariants as event
use Rattle.mux_state.specs.Moves.{not_lost}
use Rattle.mux_state.specs.Others.{ReceivedLeavesIdle, KeptByOwnRows, LeavesIdle, ServerLeavesIdle, StaysAsItWas, peer_in}
use Rattle.mux_state.specs.Stands.{RowsFit, RepresentsSoFar, log}
use Rattle.mux_state.specs.State.{EngineState, SameClient, in_client}
use Rattle.mux_state.specs.Steps.{is_client_served}
use Rattle.mux_state.proofs.Fed.{allowed-fed, fed, stands-fed}
use Rattle.mux_state.proofs.Receiving.{goes-heard}
use Rattle.mux_state.proofs.Lists.{true_false}
use Rattle.mux_state.proofs.Matters.{matters-are, matters-by}
use Rattle.mux_state.proofs.Over.{some-end}

-- ---- how a client stands and what waits for it follow from its own rows

abbrev peer-with : ℕ → Standing → List ℕ → PeerState
peer-with number standing queue = record { number = number; standing = standing; queue = queue }

abbrev peer-by : ℕ → List Row → PeerState
peer-by k own = peer-with k (standing_of own) (pending_down own)

peer-is : (k : ℕ) (rows : List Row) (c : ClientState) → c.peer.number ≡ k → InFits rows c → c.peer ≡ peer-by k (rows_of k rows)
peer-is k rows c num fit =
    ap (λ n. peer-with n c.peer.standing c.peer.queue) num
    ∙ (ap (λ s. peer-with k s c.peer.queue) (fit.peer.standing_is ∙ ap (λ n. standing_of (rows_of n rows)) num)
    ∙ ap (peer-with k (standing_of (rows_of k rows))) (fit.peer.queue_is ∙ ap (λ n. pending_down (rows_of n rows)) num))

peer-as : (k : ℕ) (rows : List Row) (cs : List ClientState) → EachFits rows cs → peer_in cs k ≡ cond (is_present cs k) (Some (peer-by k (rows_of k rows))) None
peer-as k rows [] each = refl
peer-as k rows (c ∷ cs) each = by_head (c.peer.number == k) refl (peer-as k rows cs each.1)
  where
    by_head : (b : Bool) → (c.peer.number == k) ≡ b → peer_in cs k ≡ cond (is_present cs k) (Some (peer-by k (rows_of k rows))) None → cond b (Some c.peer) (peer_in cs k) ≡ cond (elim b as (λ _. Bool) [ true ↦ true | false ↦ is_present cs k ]) (Some (peer-by k (rows_of k rows))) None
    by_head true e ih = ap (λ s. Some s) (peer-is k rows c (eqb-true c.peer.number k e) each.0)
    by_head false e ih = ih

-- ---- and one that isn't lost is read on as before

not-not : (b : Bool) → not b ≡ true → b ≡ false
not-not true e = true_false (sym e)
not-not false e = refl

abbrev client-with : PeerState → List ℕ → ClientState
client-with peer rest = record { peer = peer; rest = rest }

same-served : (k : ℕ) (cs ds : List ClientState) → KeepReading cs ds → peer_in ds k ≡ peer_in cs k → is_client_served cs k ≡ true → SameClient k cs ds
same-served k [] ds h e s = ap (λ xs. in_client None (λ c. Some c) xs k) h
same-served k (c ∷ cs) [] h e s = absurd h
same-served k (c ∷ cs) (d ∷ ds) h e s = by_head (c.peer.number == k) (d.peer.number == k) (ap (λ n. n == k) h.0.0) e s (λ f t. same-served k cs ds h.1 f t)
  where
    by_head : (b a : Bool) → a ≡ b → cond a (Some d.peer) (peer_in ds k) ≡ cond b (Some c.peer) (peer_in cs k) → cond b (not_lost c.peer.standing) (is_client_served cs k) ≡ true → (peer_in ds k ≡ peer_in cs k → is_client_served cs k ≡ true → SameClient k cs ds)
        → cond a (Some d) (in_client None (λ c. Some c) ds k) ≡ cond b (Some c) (in_client None (λ c. Some c) cs k)
    by_head true true t e s ih =
        let peer : d.peer ≡ c.peer = cc in
        let live : is_standing_lost d.peer.standing ≡ false = ap (λ (x : PeerState). is_standing_lost x.standing) peer ∙ not-not (is_standing_lost c.peer.standing) s in
        ap (λ x. Some (client-with x d.rest)) peer ∙ ap (λ r. Some (client-with c.peer r)) (h.0.1 live).1
    by_head false false t e s ih = ih e s
    by_head true false t e s ih = true_false (sym t)
    by_head false true t e s ih = true_false t

-- the run goes on
live : (rows : List Row) (now : Option Ended) → now ≡ None → now ≡ run_end_of rows → is_run_over rows ≡ false
live rows now on is = sym (some-end rows) ∙ ap is_some (sym is ∙ on)

-- ---- a client whose rows are those of before

untouched : (k : ℕ) (s new : EngineState) (rows rows' : List Row) → AllFit rows s.core s.clients s.up → AllFit rows' new.core new.clients new.up → is_run_over rows ≡ false → (new.ended ≡ None → is_run_over rows' ≡ false) → KeepReading s.clients new.clients → is_present new.clients k ≡ is_present s.clients k → rows_of k rows' ≡ rows_of k rows → StaysAsItWas k s new
untouched k s new rows rows' fit fit' live live' kept here same =
    let peer : peer_in new.clients k ≡ peer_in s.clients k =
    peer-as k rows' new.clients fit'.each
    ∙ (ap (λ b. cond b (Some (peer-by k (rows_of k rows'))) None) here
    ∙ (ap (λ own. cond (is_present s.clients k) (Some (peer-by k own)) None) same
    ∙ sym (peer-as k rows s.clients fit.each))) in
    record {
      peer = peer;
      client = λ served. same-served k s.clients new.clients kept peer served;
      matters = λ on. matters-are new.core k rows' (fit'.core (live' on)) ∙ (ap (matters-by k) same ∙ sym (matters-are s.core k rows (fit.core live)));
    }

pub heard-leaves-idle : ReceivedLeavesIdle
heard-leaves-idle s new bytes none c picked given marks closed st al picks replies k same =
    let p : List ℕ = picked ++ picks in
    let r : List HouseReply = given ++ replies in
    let mark : Mark = Gets 0 bytes in
    let old : RowsFit _ st.asks s closed (log s p r marks) = (st.at picks replies).rows in
    let on : RepresentsSoFar picked given new (mark ∷ marks) closed = goes-heard s new bytes none c picked given marks closed st al in
    let now : RowsFit _ on.asks new closed (log new p r (mark ∷ marks)) = (on.at picks replies).rows in
    untouched k s new (log s p r marks) (log new p r (mark ∷ marks)) old.fit now.fit
    (live (log s p r marks) s.ended none old.ended_is)
    (λ on. live (log new p r (mark ∷ marks)) new.ended on now.ended_is)
    c.piece.receiving.reading
    (c.piece.receiving.present k)
    (ap (rows_of k) (log-as p r (mark ∷ marks)) ∙ same)
  where
    log-as : (picks : List ℕ) (replies : List HouseReply) (marks : List Mark) → log new picks replies marks ≡ log s picks replies marks
    log-as picks replies marks = ap (λ p. log_of_journal (by_lists p new.pid picks replies) marks) c.piece.receiving.policy ∙ ap (λ p. log_of_journal (by_lists s.core.policy p picks replies) marks) c.pid

-- ---- whatever happens

peer-here : (k : ℕ) (rows : List Row) (cs : List ClientState) → EachFits rows cs → is_present cs k ≡ true → peer_in cs k ≡ Some (peer-by k (rows_of k rows))
peer-here k rows cs each here = peer-as k rows cs each ∙ ap (λ b. cond b (Some (peer-by k (rows_of k rows))) None) here

pub kept-by-own-rows : KeptByOwnRows
kept-by-own-rows s t picked picked' given given' marks marks' closed closed' st st' picks picks' replies replies' k same =
    let rows : List Row = log s (picked ++ picks) (given ++ replies) marks in
    let rows' : List Row = log t (picked' ++ picks') (given' ++ replies') marks' in
    let old : RowsFit _ st.asks s closed rows = (st.at picks replies).rows in
    let now : RowsFit _ st'.asks t closed' rows' = (st'.at picks' replies').rows in
    record {
      peer = λ here here'. peer-here k rows' t.clients now.fit.each here' ∙ (ap (λ own. Some (peer-by k own)) same ∙ sym (peer-here k rows s.clients old.fit.each here));
      matters = λ on on'. matters-are t.core k rows' (now.fit.core (live rows' t.ended on' now.ended_is)) ∙ (ap (matters-by k) same ∙ sym (matters-are s.core k rows (old.fit.core (live rows s.ended on old.ended_is))));
    }

-- ---- an event

-- after the end of the run nothing changes
same-idle : (bytes : List ℕ) (s : EngineState) → LeavesIdle bytes s s
same-idle bytes s picked given marks closed st al picks replies k same = record { peer = refl; client = λ served. refl; matters = λ on. refl }

pub over-idle : (e : Event) (s : EngineState) → ServerLeavesIdle e s s
over-idle (event.Accepted k) s = tt
over-idle (event.FromClient k bytes) s = tt
over-idle (event.ClientEnd k) s = tt
over-idle (event.ClientFailed k) s = tt
over-idle (event.HouseSays k id given) s = tt
over-idle (event.FromServer bytes) s = same-idle bytes.now s
over-idle event.ServerEnd s = tt
over-idle event.ServerFailed s = tt

-- whether there was memory or not
idle-fed : (bytes : List ℕ) (s t : EngineState) (a b : Bool) → LeavesIdle bytes (fed a s) t → LeavesIdle bytes s (fed b t)
idle-fed bytes s t a b h picked given marks closed st al picks replies k same =
    let stays : StaysAsItWas k (fed a s) t = h picked given marks closed (stands-fed picked given s a marks closed st) (allowed-fed s a marks (Gets 0 bytes) al) picks replies k same in
    record { peer = stays.peer; client = stays.client; matters = stays.matters }

event-fed : (e : Event) (s t : EngineState) (a b : Bool) → ServerLeavesIdle e (fed a s) t → ServerLeavesIdle e s (fed b t)
event-fed (event.Accepted k) s t a b h = tt
event-fed (event.FromClient k bytes) s t a b h = tt
event-fed (event.ClientEnd k) s t a b h = tt
event-fed (event.ClientFailed k) s t a b h = tt
event-fed (event.HouseSays k id given) s t a b h = tt
event-fed (event.FromServer bytes) s t a b h = idle-fed bytes.now s t a b h
event-fed event.ServerEnd s t a b h = tt
event-fed event.ServerFailed s t a b h = tt

-- as the code shows them: the parts before a step, what it is, and those after it
pub idle-shown : (parts s parts' t : EngineState) (e : Event) → parts ≡ s → parts' ≡ t → ServerLeavesIdle e (fed true parts) t → ServerLeavesIdle e s (fed false parts')
idle-shown parts s parts' t e is is' h =
    subst (λ (x : EngineState). ServerLeavesIdle e x (fed false parts')) is
    (subst (λ (y : EngineState). ServerLeavesIdle e parts (fed false y)) (sym is') (event-fed e parts t true false h))
