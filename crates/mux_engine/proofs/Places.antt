-- Where the wire's streams are after one mark more.
use Rattle.std.proofs.Common.{◌≡◌, ◌≢◌, ◌≤◌, ◌<◌, ℕ, Bool, true, false, ◌||◌, List, [], ◌∷◌, ◌++◌, length, Option, refl, sym, ap, ◌∙◌, subst, inl, inr, arith}
use Rattle.std.specs.Prelude.{◌==◌, IsTrue}
use Rattle.std.proofs.lemmas.Bool.Decides.{eqb_tells, nat_tests}
use Rattle.mux_outside.specs.OwnStreams.{is_own}
use Rattle.mux_outside.specs.Seen.{Seen, seen_after_write}
use Rattle.mux_outside.specs.Streams.{among}
use Rattle.mux_outside.specs.declared.house.HouseReply.{HouseReply}
use Rattle.mux_outside.specs.declared.house_mark.HouseMark.{HouseMark}
use Rattle.mux_outside.specs.declared.mark.Mark.{Mark}
use Rattle.mux_outside.specs.declared.own_streams.TheConstants.{LAST_CLIENT}
use Rattle.mux_outside.specs.declared.turn.Wrote.{Wrote}
use Rattle.mux_history.specs.declared.limits.TheConstants.{HOUSE}
use Rattle.mux_history.specs.Policy.{Policy}
use Rattle.mux_history.specs.Rows.{rows_of, is_out}
use Rattle.mux_history.specs.Journal.{is_accepted, is_blocked, is_known, is_own_stream}
use Rattle.mux_history.specs.Promises.{has_failed, not_own}
use Rattle.mux_history.specs.Wires.{OfWire}
use Rattle.mux_state.specs.State.{EngineState}
use Rattle.mux_state.specs.Events.{here}
use Rattle.mux_state.specs.Stands.{RepresentsSoFar, EngineRepresents, log}
use Rattle.mux_engine.specs.Serving.{IsFreeForOwn, IsUnseen, IsUnused, Serving, is_stream_open}
use Rattle.mux_engine.specs.Sides.{Resting, SameSockets, Side}
use Rattle.mux_engine.proofs.Lists.{among-not-own, among-open, not-own-stream, open-here, own-or-house, test-other, true-false}
use Rattle.mux_engine.proofs.Logs.{failed-more}
use Rattle.mux_engine.proofs.Marks.{Placed}
use Rattle.mux_engine.proofs.Owns.{Owns}

-- ---- a stream that is open

pub record AtStream (s : EngineState) (marks : List Mark) (closed : List ℕ) (k : ℕ) : Type 0 where
  pub not_closed : among k closed ≡ false
  pub accepted : k ≢ 0 → is_accepted k marks ≡ true

pub at-stream : {picked : List ℕ} {replies : List HouseReply} {s : EngineState} {marks : List Mark} {closed : List ℕ} (st : RepresentsSoFar picked replies s marks closed) (k : ℕ) → is_stream_open s k ≡ true → AtStream s marks closed k
at-stream {picked} {replies} {s} {marks} {closed} st k opened = record { not_closed = by_closed (among k closed) refl; accepted = λ nz. by_accepted nz (is_accepted k marks) refl }
  where
    v : EngineRepresents (picked ++ []) (replies ++ []) (length picked) st.asks s marks closed
    v = st.at [] []

    by_closed : (b : Bool) → among k closed ≡ b → b ≡ false
    by_closed false e = refl
    by_closed true e = elim (eqb_tells k 0) [
      | inl q ↦ true-false (sym (v.rows.closed_out k e) ∙ (ap (λ i. is_out (rows_of i (log s (picked ++ []) (replies ++ []) marks))) q.1 ∙ v.rows.server_in))
      | inr q ↦ true-false (sym (open-here s k opened q.1) ∙ v.rows.closed_gone k e)
    ]

    by_accepted : k ≢ 0 → (b : Bool) → is_accepted k marks ≡ b → b ≡ true
    by_accepted nz true e = refl
    by_accepted nz false e = true-false (sym (open-here s k opened nz) ∙ (v.bytes.strange k e).not_here)

server-own : is_own 0 ≡ false
server-own = refl

module _ {May : HouseReply → Type 0} {Rest : Resting} {before : Option (List HouseMark)} {now : Side} {policy : Policy} {pid : ℕ} {start : Option (List Mark)} {seen : Seen} {held failed : List ℕ} {given : ℕ} {todo : List ℕ} {s : EngineState} (v : Serving May Rest before now policy pid start seen held failed given todo s) where
  -- the streams that are open but for the master's own are those of the engine
  among-places : (k : ℕ) → is_own k ≡ false → among k seen.streams ≡ is_stream_open s k
  among-places k e = sym (among-not-own k seen.streams e) ∙ (ap (among k) v.open_are ∙ (ap (λ b. (0 == k) || b) (among-not-own k (here s) e) ∙ among-open s k))

  -- a client that is here is none of the master's own streams
  pub open-own : (k : ℕ) → is_stream_open s k ≡ true → k ≢ HOUSE → is_own k ≡ false
  open-own k opened ne = elim (eqb_tells k 0) [
    | inl q ↦ ap is_own q.1 ∙ server-own
    | inr q ↦ own-or-house k (v.apart k (sym (ap (λ b. b || among k (here s)) (test-other 0 k (λ z. q.1 (sym z)))) ∙ (among-open s k ∙ opened))) ne
  ]

  -- the wire has it open
  pub stream-open : (k : ℕ) → is_stream_open s k ≡ true → k ≢ HOUSE → among k seen.streams ≡ true
  stream-open k opened ne = among-places k (open-own k opened ne) ∙ opened

  -- a stream that the wire has open is open
  pub open-stream : (k : ℕ) → is_own k ≡ false → among k seen.streams ≡ true → is_stream_open s k ≡ true
  open-stream k e found = sym (among-places k e) ∙ found

  -- so is the server's
  pub server-open : among 0 seen.streams ≡ true
  server-open = among-places 0 server-own ∙ refl

  -- none of the forwarder
  pub house-shut : among HOUSE seen.streams ≡ false
  house-shut = (v.unused HOUSE (inr refl)).not_open

  -- so an open stream is another
  pub house-other : (k : ℕ) → among k seen.streams ≡ true → (k == HOUSE) ≡ false
  house-other k found = test-other k HOUSE (λ e. true-false (sym found ∙ (ap (λ i. among i seen.streams) e ∙ house-shut)))

  -- a client that did not come yet has none of the streams
  pub apart-unseen : (k j : ℕ) → among k seen.streams ≡ true → seen.last < j → j ≤ LAST_CLIENT → k ≢ j
  apart-unseen k j found lt le e =
      let u : IsUnseen v.journal seen.blocked j = v.unseen j lt le in
      let known : is_known j v.journal ≡ true = v.of_wire.known j (subst (λ (i : ℕ). among i seen.streams ≡ true) e found) in
      true-false (sym known ∙ (ap (λ b. b || (is_own_stream j || is_accepted j v.journal)) (test-other j 0 (λ z. absurd (omega arith)))
      ∙ (ap (λ b. b || is_accepted j v.journal) (not-own-stream j (no-own j le)) ∙ u.not_accepted)))
    where
      no-own : (j : ℕ) → j ≤ LAST_CLIENT → is_own j ≡ false
      no-own j le = grind (arith, nat_tests)

  -- nor has a number that is still free
  pub apart-unused : (k j : ℕ) → among k seen.streams ≡ true → IsFreeForOwn seen.last_own j → k ≢ j
  apart-unused k j found free e = true-false (sym found ∙ (ap (λ i. among i seen.streams) e ∙ (v.unused j free).not_open))

  -- after a mark of this stream of the wire, where the same are open
  pub placed-by : (mark : Mark) (seen' : Seen) (held' failed' : List ℕ) (s' : EngineState) (k : ℕ) → among k seen.streams ≡ true → OfWire seen'.streams seen'.blocked seen'.last (mark ∷ v.journal)
      → seen'.streams ≡ seen.streams → seen'.last ≡ seen.last → seen'.last_own ≡ seen.last_own → seen'.listens ≡ seen.listens → here s' ≡ here s → held' ≡ seen'.blocked
      → among k seen'.blocked ≡ is_blocked k (mark ∷ v.journal) → ((t : ℕ) → k ≢ t → among t seen'.blocked ≡ among t seen.blocked) → ((t : ℕ) → k ≢ t → is_blocked t (mark ∷ v.journal) ≡ is_blocked t v.journal)
      → ((t : ℕ) → is_accepted t (mark ∷ v.journal) ≡ is_accepted t v.journal) → ((t : ℕ) → k ≢ t → has_failed t (mark ∷ v.journal) ≡ has_failed t v.journal)
      → (IsTrue (is_own k) → has_failed k (mark ∷ v.journal) ≡ true → among k failed' ≡ true) → ((t : ℕ) → among t failed ≡ true → among t failed' ≡ true) → ((t : ℕ) → among t failed' ≡ true → has_failed t (mark ∷ v.journal) ≡ true) → Owns v.journal seen' mark → Placed s' v.journal seen seen' held' failed' mark
  placed-by mark seen' held' failed' s' k found of streams last last_own listens same held_is mine blocked never accepted fails mine_failed grows did owns = record {
    of_wire = of;
    open_are = ap not_own streams ∙ (v.open_are ∙ ap (λ l. 0 ∷ not_own l) (sym same));
    apart = λ j a. v.apart j (ap (among j) (sym same) ∙ a);
    held_is = held_is;
    blocked_is = λ t a. elim (eqb_tells k t) [
      | inl q ↦ subst (λ (i : ℕ). among i seen'.blocked ≡ is_blocked i (mark ∷ v.journal)) q.1 mine
      | inr q ↦ blocked t q.1 ∙ (v.blocked_is t (ap (among t) (sym streams) ∙ a) ∙ sym (never t q.1))
    ];
    unseen = λ j lt le.
        let lt' : seen.last < j = subst (λ n. n < j) last lt in
        let u : IsUnseen v.journal seen.blocked j = v.unseen j lt' le in
        let ne : k ≢ j = apart-unseen k j found lt' le in
        record { not_accepted = accepted j ∙ u.not_accepted; never_blocked = never j ne ∙ u.never_blocked; not_blocked = blocked j ne ∙ u.not_blocked };
    unused = λ j free.
        let free' : IsFreeForOwn seen.last_own j = subst (λ (n : ℕ). IsFreeForOwn n j) last_own free in
        let u : IsUnused v.journal seen j = v.unused j free' in
        let ne : k ≢ j = apart-unused k j found free' in
        record { not_open = ap (among j) streams ∙ u.not_open; never_blocked = never j ne ∙ u.never_blocked; not_blocked = blocked j ne ∙ u.not_blocked; never_failed = fails j ne ∙ u.never_failed };
    failed_are = λ t own a f. elim (eqb_tells k t) [
      | inl q ↦ subst (λ (i : ℕ). among i failed' ≡ true) q.1 (mine_failed (subst (λ (i : ℕ). IsTrue (is_own i)) (sym q.1) own) (subst (λ (i : ℕ). has_failed i (mark ∷ v.journal) ≡ true) (sym q.1) f))
      | inr q ↦ grows t (v.failed_are t own (ap (among t) (sym streams) ∙ a) (sym (fails t q.1) ∙ f))
    ];
    failed_did = did;
    listens = λ l. listens ∙ l;
    owns = owns;
  }

  -- after one that records nothing of a stream
  pub placed-still : (mark : Mark) (seen' : Seen) (s' : EngineState) → OfWire seen'.streams seen'.blocked seen'.last (mark ∷ v.journal)
      → seen'.streams ≡ seen.streams → seen'.blocked ≡ seen.blocked → seen'.last ≡ seen.last → seen'.last_own ≡ seen.last_own → seen'.listens ≡ seen.listens → here s' ≡ here s
      → ((t : ℕ) → is_blocked t (mark ∷ v.journal) ≡ is_blocked t v.journal) → ((t : ℕ) → is_accepted t (mark ∷ v.journal) ≡ is_accepted t v.journal) → ((t : ℕ) → has_failed t (mark ∷ v.journal) ≡ has_failed t v.journal)
      → Owns v.journal seen' mark → Placed s' v.journal seen seen' held failed mark
  placed-still mark seen' s' of streams blocked last last_own listens same never accepted fails owns =
      placed-by mark seen' held failed s' 0 server-open of streams last last_own listens same (v.held_is ∙ sym blocked)
      (ap (among 0) blocked ∙ (v.blocked_is 0 server-open ∙ sym (never 0))) (λ t ne. ap (among t) blocked) (λ t ne. never t) accepted (λ t ne. fails t)
      (λ own f. v.failed_are 0 own server-open (sym (fails 0) ∙ f)) (λ t a. a) (λ t a. failed-more mark v.journal t (v.failed_did t a)) owns

-- ---- the same streams and listeners

pub places-same : (old new : Seen) → new ≡ old → SameSockets old new
places-same old new e = subst (SameSockets old) (sym e) record { streams = refl; listeners = refl; own = refl; last_own = refl; silence = λ l. l }

pub places-write : (answer : Wrote) (k : ℕ) (bytes : List ℕ) (old new : Seen) → new ≡ seen_after_write answer k bytes old → SameSockets old new
places-write answer k bytes old new e = subst (SameSockets old) (sym e) record { streams = refl; listeners = refl; own = refl; last_own = refl; silence = λ l. l }

pub places-then : (a b c : Seen) → SameSockets a b → SameSockets b c → SameSockets a c
places-then a b c x y = record { streams = y.streams ∙ x.streams; listeners = y.listeners ∙ x.listeners; own = y.own ∙ x.own; last_own = y.last_own ∙ x.last_own; silence = λ l. x.silence (y.silence l) }
