-- How an event ends a run, by the rows that it makes, and what came where a turn reported it.
use Rattle.std.proofs.Common.{◌≡◌, ◌≢◌, ℕ, Bool, true, false, List, [], ◌∷◌, ◌++◌, length, drop, Option, Some, None, refl, sym, ap, ◌∙◌, subst, append_assoc}
use Rattle.std.specs.Prelude.{◌==◌, ◌&&◌, not}
use Rattle.std.proofs.lemmas.Bool.{eq-eqb, eqb-true}
use Rattle.ssh_grammar.specs.Said.{InProxy, parse, said}
use Rattle.mux_outside.specs.OwnStreams.{is_own}
use Rattle.mux_outside.specs.CallCounts.{CallCounts, calls_after_wait, is_client_piece}
use Rattle.mux_outside.specs.declared.house.HouseReply.{HouseReply}
use Rattle.mux_outside.specs.declared.house_mark.HouseMark.{HouseMark as Asked}
use Rattle.mux_outside.specs.declared.mark.Mark.{Mark}
use Rattle.mux_outside.specs.declared.mark.Mark.TheVariants.{Gets, Ends}
use Rattle.mux_outside.specs.declared.turn.Turn.{Turn}
use Rattle.mux_outside.specs.declared.turn.Turn.TheVariants as turn
use Rattle.mux_history.specs.declared.broke.Break.{Break}
use Rattle.mux_history.specs.declared.broke.Break.TheVariants as broke
use Rattle.mux_history.specs.declared.ended.Ended.{Ended}
use Rattle.mux_history.specs.declared.ended.Ended.TheVariants as ended
use Rattle.mux_history.specs.Rows.{Item, Row}
use Rattle.mux_history.specs.Solo.{run_end_of}
use Rattle.mux_history.specs.Journal.{bytes_of, is_own_stream, new_received, new_sayings, unless_own}
use Rattle.mux_history.specs.Log.{more_all}
use Rattle.mux_state.specs.State.{EngineState}
use Rattle.mux_state.specs.Stands.{GoesBy, RepresentsSoFar, log, run_setting}
use Rattle.mux_state.specs.Events.{MayEnd, MarkRecords}
use Rattle.mux_state.specs.declared.event.Event.{Event}
use Rattle.mux_state.specs.declared.event.Event.TheVariants.{Accepted, FromClient, ClientEnd, ClientFailed, HouseSays, FromServer, ServerEnd, ServerFailed}
use Rattle.mux_engine.specs.Came.{BrokenBy, EndsFor, OverBy, WentUp}
use Rattle.mux_engine.specs.Turns.{IsEventOf}
use Rattle.mux_engine.proofs.Comes.{over-live, up-if}
use Rattle.mux_engine.proofs.Fates.{EndsCut, EndsReceived, Uncut, end-cuts, receives-ends, says-for}
use Rattle.mux_engine.proofs.Marks.{log-same}

-- what a client sent may end the run for it, what the server sent by its own words, and its end so
abbrev ByEvent : Event → Option Ended → Type 0
ByEvent (FromClient k bytes) o = EndsFor k o
ByEvent (FromServer bytes) o = EndsReceived o
ByEvent ServerEnd o = EndsCut o
ByEvent e o = Unit {0}

pub record EndsSo (e : Event) (o : Option Ended) : Type 0 where
  pub may : MayEnd e o
  pub by : ByEvent e o

-- ---- the rows of a mark

module _ (s : EngineState) (picks : List ℕ) (replies : List HouseReply) (marks : List Mark) where
  abbrev rows : List Row
  rows = log s picks replies marks

  client-ends : (k : ℕ) (bytes : List ℕ) → k ≢ 0 → EndsFor k (run_end_of rows) → EndsFor k (run_end_of (log s picks replies (Gets k bytes ∷ marks)))
  client-ends k bytes nz n = by_stream (k == 0) refl
    where
      by_own : (b : Bool) → EndsFor k (run_end_of (more_all (run_setting s picks replies) rows (elim b as (λ _. List Item) [ true ↦ [] | false ↦ new_sayings k (bytes_of k marks) (bytes_of k marks ++ bytes) ])))
      by_own true = n
      by_own false = says-for s.core.policy s.pid picks replies k (drop (length (said (bytes_of k marks))) (said (bytes_of k marks ++ bytes))) rows n

      by_stream : (b : Bool) → (k == 0) ≡ b → EndsFor k (run_end_of (log s picks replies (Gets k bytes ∷ marks)))
      by_stream true e = absurd (nz (eqb-true k 0 e))
      by_stream false e = subst (λ (b : Bool). EndsFor k (run_end_of (more_all (run_setting s picks replies) rows (elim b as (λ _. List Item) [ true ↦ new_received (bytes_of 0 marks) (bytes_of 0 marks ++ bytes) | false ↦ unless_own k (new_sayings k (bytes_of k marks) (bytes_of k marks ++ bytes)) ])))) (sym e) (by_own (is_own_stream k))

  server-ends : (bytes : List ℕ) → EndsReceived (run_end_of rows) → EndsReceived (run_end_of (log s picks replies (Gets 0 bytes ∷ marks)))
  server-ends bytes n = receives-ends s.core.policy s.pid picks replies (drop (length (parse InProxy (bytes_of 0 marks)).says) (parse InProxy (bytes_of 0 marks ++ bytes)).says) rows n

  end-ends : EndsCut (run_end_of rows) → EndsCut (run_end_of (log s picks replies (Ends 0 ∷ marks)))
  end-ends n = end-cuts s.core.policy s.pid picks replies (parse InProxy (bytes_of 0 marks)).rest rows n

-- ---- an event

module _ {May : HouseReply → Type 0} {recorded recorded' : Option (List Asked)} {picked : List ℕ} {given : List HouseReply} {s s' : EngineState} {mark : Mark} {marks : List Mark} {closed : List ℕ}
    (st : RepresentsSoFar picked given s marks closed) (g : GoesBy May recorded recorded' picked given s s' mark marks closed) (policy : s'.core.policy ≡ s.core.policy) (pid : s'.pid ≡ s.pid) (live : s.ended ≡ None) where
  abbrev picks-then : List ℕ
  picks-then = (picked ++ g.picks) ++ []

  abbrev replies-then : List HouseReply
  replies-then = (given ++ g.replies) ++ []

  went-on : run_end_of (log s picks-then replies-then marks) ≡ None
  went-on = subst (λ (q : List ℕ). run_end_of (log s q replies-then marks) ≡ None) (sym (append_assoc picked g.picks []))
      (subst (λ (q : List HouseReply). run_end_of (log s (picked ++ (g.picks ++ [])) q marks) ≡ None) (sym (append_assoc given g.replies []))
      (sym (st.at (g.picks ++ []) (g.replies ++ [])).rows.ended_is ∙ live))

  -- the run ends as its rows do
  ends-as : (P : Option Ended → Type 0) (m : Mark) → mark ≡ m → P None → (P (run_end_of (log s picks-then replies-then marks)) → P (run_end_of (log s picks-then replies-then (m ∷ marks)))) → P s'.ended
  ends-as P m is none step = subst P (sym ((g.stands.at [] []).rows.ended_is ∙ (ap run_end_of (log-same s s' picks-then replies-then (mark ∷ marks) policy pid) ∙ ap (λ (x : Mark). run_end_of (log s picks-then replies-then (x ∷ marks))) is)))
      (step (subst P (sym went-on) none))

  pub event-by : (e : Event) → MarkRecords e mark → ByEvent e s'.ended
  event-by (FromClient k bytes) t = ends-as (EndsFor k) (Gets k bytes.now) t.1 tt (client-ends s picks-then replies-then marks k bytes.now t.0)
  event-by (FromServer bytes) t = ends-as EndsReceived (Gets 0 bytes.now) t tt (server-ends s picks-then replies-then marks bytes.now)
  event-by ServerEnd t = ends-as EndsCut (Ends 0) t tt (end-ends s picks-then replies-then marks)
  event-by (Accepted k) t = tt
  event-by (ClientEnd k) t = tt
  event-by (ClientFailed k) t = tt
  event-by (HouseSays k id reply) t = tt
  event-by ServerFailed t = tt

-- ---- the turn that reported it

abbrev stream-of : Mark → ℕ
stream-of (Gets k bytes) = k
stream-of (Ends k) = k
stream-of mark = 0

-- it is that of a client's piece
by-client : (p : Bool) (k : ℕ) (said : List ℕ) (o : Option Ended) (j : ℕ) (bytes : List ℕ) (c : CallCounts) → k ≢ 0 → Gets j bytes ≡ Gets k said → is_own j ≡ false → EndsFor k o → OverBy p o c (calls_after_wait (turn.Got j) c)
by-client p k said o j bytes c nz is own h = by_end o h
  where
    same : j ≡ k
    same = ap stream-of is

    other : (b : Bool) → (j == 0) ≡ b → b ≡ false
    other true e = absurd (nz (sym same ∙ eqb-true j 0 e))
    other false e = refl

    piece : is_client_piece (turn.Got j) ≡ true
    piece = ap (λ b. not b && not (is_own j)) (other (j == 0) refl) ∙ ap (λ b. true && not b) own

    by_end : (o : Option Ended) → EndsFor k o → OverBy p o c (calls_after_wait (turn.Got j) c)
    by_end None h = tt
    by_end (Some (ended.Terminated client id)) h = λ house. up-if (is_client_piece (turn.Got j)) c.client_pieces piece
    by_end (Some ended.ServerEnd) h = absurd h
    by_end (Some ended.Disconnected) h = absurd h
    by_end (Some ended.ServerFailed) h = absurd h
    by_end (Some (ended.Broke index why)) h = absurd h
    by_end (Some (ended.StartRefused index)) h = absurd h
    by_end (Some ended.Spent) h = absurd h
    by_end (Some ended.OutOfMemory) h = absurd h

uncut-broken : (why : Break) (a b : CallCounts) → Uncut why → WentUp a.server_pieces b.server_pieces → BrokenBy why a b
uncut-broken (broke.Cut have) a b h up = absurd h
uncut-broken (broke.Frame fault) a b h up = up
uncut-broken (broke.Message bad) a b h up = up
uncut-broken broke.NoAsker a b h up = up
uncut-broken (broke.BadReply size) a b h up = up
uncut-broken (broke.NumberInUse n) a b h up = up
uncut-broken (broke.NotPending n) a b h up = up
uncut-broken (broke.NoChannel n) a b h up = up
uncut-broken (broke.Channel n breach) a b h up = up

-- that of a piece of the server
by-server : (p : Bool) (said : List ℕ) (o : Option Ended) (j : ℕ) (bytes : List ℕ) (c : CallCounts) → Gets j bytes ≡ Gets 0 said → EndsReceived o → OverBy p o c (calls_after_wait (turn.Got j) c)
by-server p said o j bytes c is h = by_end o h
  where
    up : WentUp c.server_pieces (calls_after_wait (turn.Got j) c).server_pieces
    up = up-if (j == 0) c.server_pieces (eq-eqb j 0 (ap stream-of is))

    by_end : (o : Option Ended) → EndsReceived o → OverBy p o c (calls_after_wait (turn.Got j) c)
    by_end None h = tt
    by_end (Some ended.Disconnected) h = up
    by_end (Some (ended.Broke index why)) h = uncut-broken why c (calls_after_wait (turn.Got j) c) h up
    by_end (Some ended.ServerEnd) h = absurd h
    by_end (Some (ended.Terminated client id)) h = absurd h
    by_end (Some ended.ServerFailed) h = absurd h
    by_end (Some (ended.StartRefused index)) h = absurd h
    by_end (Some ended.Spent) h = absurd h
    by_end (Some ended.OutOfMemory) h = absurd h

-- that of its end
by-its-end : (p : Bool) (o : Option Ended) (j : ℕ) (c : CallCounts) → Ends j ≡ Ends 0 → EndsCut o → OverBy p o c (calls_after_wait (turn.End j) c)
by-its-end p o j c is h = by_end o h
  where
    up : WentUp c.server_ends (calls_after_wait (turn.End j) c).server_ends
    up = up-if (j == 0) c.server_ends (eq-eqb j 0 (ap stream-of is))

    by_end : (o : Option Ended) → EndsCut o → OverBy p o c (calls_after_wait (turn.End j) c)
    by_end None h = tt
    by_end (Some ended.ServerEnd) h = up
    by_end (Some (ended.Broke index (broke.Cut have))) h = up
    by_end (Some (ended.Broke index (broke.Frame fault))) h = absurd h
    by_end (Some (ended.Broke index (broke.Message bad))) h = absurd h
    by_end (Some (ended.Broke index broke.NoAsker)) h = absurd h
    by_end (Some (ended.Broke index (broke.BadReply size))) h = absurd h
    by_end (Some (ended.Broke index (broke.NumberInUse n))) h = absurd h
    by_end (Some (ended.Broke index (broke.NotPending n))) h = absurd h
    by_end (Some (ended.Broke index (broke.NoChannel n))) h = absurd h
    by_end (Some (ended.Broke index (broke.Channel n breach))) h = absurd h
    by_end (Some ended.Disconnected) h = absurd h
    by_end (Some (ended.Terminated client id)) h = absurd h
    by_end (Some ended.ServerFailed) h = absurd h
    by_end (Some (ended.StartRefused index)) h = absurd h
    by_end (Some ended.Spent) h = absurd h
    by_end (Some ended.OutOfMemory) h = absurd h

-- what came where a turn ended the run
pub turn-over : (p : Bool) (e : Event) (o : Option Ended) (t : Turn) (bytes : List ℕ) (c : CallCounts) → EndsSo e o → IsEventOf e t bytes → OverBy p o c (calls_after_wait t c)
turn-over p (Accepted k) o t bytes c h next = over-live p o c (calls_after_wait t c) h.may
turn-over p (ClientEnd k) o t bytes c h next = over-live p o c (calls_after_wait t c) h.may
turn-over p (ClientFailed k) o t bytes c h next = over-live p o c (calls_after_wait t c) h.may
turn-over p (HouseSays k id reply) o t bytes c h next = over-live p o c (calls_after_wait t c) h.may
turn-over p ServerFailed o t bytes c h next = subst (λ (x : Option Ended). OverBy p x c (calls_after_wait t c)) (sym h.may) tt
turn-over p (FromClient k said) o (turn.Got j) bytes c h next = by-client p k said.now o j bytes c next.1.0 next.1.1 next.0 h.by
turn-over p (FromClient k said) o (turn.Accepted j) bytes c h next = absurd (let z = next.1 in cc)
turn-over p (FromClient k said) o (turn.End j) bytes c h next = absurd (let z = next.1.1 in cc)
turn-over p (FromClient k said) o (turn.Failed j) bytes c h next = absurd (let z = next.1.1 in cc)
turn-over p (FromClient k said) o (turn.Writable j) bytes c h next = absurd next
turn-over p (FromClient k said) o (turn.Joined l j) bytes c h next = absurd next
turn-over p (FromClient k said) o turn.NoMemory bytes c h next = absurd next
turn-over p (FromServer said) o (turn.Got j) bytes c h next = by-server p said.now o j bytes c next.1 h.by
turn-over p (FromServer said) o (turn.Accepted j) bytes c h next = absurd (let z = next in cc)
turn-over p (FromServer said) o (turn.End j) bytes c h next = absurd (let z = next.1 in cc)
turn-over p (FromServer said) o (turn.Failed j) bytes c h next = absurd (let z = next.1 in cc)
turn-over p (FromServer said) o (turn.Writable j) bytes c h next = absurd next
turn-over p (FromServer said) o (turn.Joined l j) bytes c h next = absurd next
turn-over p (FromServer said) o turn.NoMemory bytes c h next = absurd next
turn-over p ServerEnd o (turn.End j) bytes c h next = by-its-end p o j c next.1 h.by
turn-over p ServerEnd o (turn.Accepted j) bytes c h next = absurd (let z = next in cc)
turn-over p ServerEnd o (turn.Got j) bytes c h next = absurd (let z = next.1 in cc)
turn-over p ServerEnd o (turn.Failed j) bytes c h next = absurd (let z = next.1 in cc)
turn-over p ServerEnd o (turn.Writable j) bytes c h next = absurd next
turn-over p ServerEnd o (turn.Joined l j) bytes c h next = absurd next
turn-over p ServerEnd o turn.NoMemory bytes c h next = absurd next
