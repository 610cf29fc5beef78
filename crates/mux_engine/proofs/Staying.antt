-- A run of which the journal stays as it is.
use Rattle.std.proofs.Common.{◌≡◌, ℕ, Bool, true, false, List, [], ◌++◌, Option, None, inl, inr, ◌⊎◌}
use Rattle.std.specs.Prelude.{All, IsTrue}
use Rattle.mux_outside.specs.House.{OpenAsk}
use Rattle.mux_outside.specs.HouseCalls.{calls_of}
use Rattle.mux_outside.specs.Seen.{Seen}
use Rattle.mux_outside.specs.Streams.{among}
use Rattle.mux_outside.specs.declared.house.HouseReply.{HouseReply}
use Rattle.mux_outside.specs.declared.house_mark.HouseMark.{HouseMark}
use Rattle.mux_outside.specs.declared.mark.Mark.{Mark}
use Rattle.mux_history.specs.declared.limits.TheConstants.{HOUSE}
use Rattle.mux_history.specs.Policy.{Policy}
use Rattle.mux_history.specs.Settings.{by_lists}
use Rattle.mux_history.specs.Journal.{is_accepted}
use Rattle.mux_history.specs.Promises.{IsSettled}
use Rattle.mux_peers.specs.Asked.{RecordsAsks}
use Rattle.mux_state.specs.State.{EngineState}
use Rattle.mux_engine.specs.Answers.{opens_after}
use Rattle.mux_engine.specs.Called.{calls_in}
use Rattle.mux_engine.specs.Serving.{IsRunSound, IsUnused, Serving}
use Rattle.mux_engine.specs.Sides.{Resting, Side, ask_marks_in, house_marks}

module _ {May : HouseReply → Type 0} {Rest : Resting} {before : Option (List HouseMark)} {now : Side} {policy : Policy} {pid : ℕ} {start : Option (List Mark)} {seen : Seen} {held failed : List ℕ} {given : ℕ} {todo : List ℕ} {s : EngineState} where
  -- of the forwarder this is noted after the journal
  pub record IsNoted (v : Serving May Rest before now policy pid start seen held failed given todo s) (now' : Side) : Type 0 where
    pub house : RecordsAsks before now'.recorded (house_marks v.journal ++ now'.unnoted)
    pub asked : ask_marks_in (house_marks v.journal ++ now'.unnoted) ≡ v.stands.asks
    pub called : (picks : List ℕ) (later : List HouseReply) → calls_in (by_lists policy pid (v.picked ++ picks) (v.replies ++ later)) v.journal ++ calls_of now'.unnoted ≡ now'.calls
    pub askers : All (λ (a : OpenAsk). IsTrue (is_accepted a.client v.journal)) now'.asks
    pub opens : now'.asks ≡ opens_after (house_marks v.journal ++ now'.unnoted) []
    pub house_in : is_accepted HOUSE v.journal ≡ now'.let_in
    pub house_there : now'.let_in ≡ true → Rest.present ≡ true

  -- as before
  pub still-noted : (v : Serving May Rest before now policy pid start seen held failed given todo s) → IsNoted v now
  still-noted v = record { house = v.house; asked = v.asked; called = v.called; askers = v.askers; opens = v.opens; house_in = v.house_in; house_there = v.house_there }

  -- these streams are to be offered what waits for them: another was so before, or is settled
  abbrev pub Covers : Serving May Rest before now policy pid start seen held failed given todo s → List ℕ → Type 0
  Covers v todo' = (t : ℕ) → among t todo' ≡ false → (among t todo ≡ false) ⊎ ((picks : List ℕ) (later : List HouseReply) → IsSettled (by_lists policy pid (v.picked ++ picks) (v.replies ++ later)) v.journal t)

  -- of the forwarder this is noted now, clients may be accepted no more where the engine wants
  -- none, and other streams are to be offered what waits for them
  unfoldable pub serve-as : (v : Serving May Rest before now policy pid start seen held failed given todo s) (now' : Side) (listens : Bool) (todo' : List ℕ) → IsNoted v now' → (s.ended ≡ None → s.listening ≡ true → listens ≡ true) → Covers v todo' → Serving May Rest before now' policy pid start (record seen { listens = listens }) held failed given todo' s
  serve-as v now' listens todo' noted receives covers = record {
    journal = v.journal;
    closed = v.closed;
    picked = v.picked;
    replies = v.replies;
    policy_is = v.policy_is;
    pid_is = v.pid_is;
    may = v.may;
    stands = v.stands;
    house = noted.house;
    asked = noted.asked;
    called = noted.called;
    askers = noted.askers;
    opens = noted.opens;
    house_in = noted.house_in;
    house_there = noted.house_there;
    rested = v.rested;
    absent = v.absent;
    records = v.records;
    of_wire = v.of_wire;
    places = record { own = v.places.own; listeners = v.places.listeners; streams = v.places.streams };
    own_streams = v.own_streams;
    turns = v.turns;
    open_are = v.open_are;
    apart = v.apart;
    held_is = v.held_is;
    blocked_is = v.blocked_is;
    unseen = v.unseen;
    unused = λ k free. let u : IsUnused v.journal seen k = v.unused k free in record { not_open = u.not_open; never_blocked = u.never_blocked; not_blocked = u.not_blocked; never_failed = u.never_failed };
    failed_are = v.failed_are;
    failed_did = v.failed_did;
    receives = receives;
    sound = λ picks later. let old : IsRunSound (by_lists policy pid (v.picked ++ picks) (v.replies ++ later)) v.journal todo s = v.sound picks later in
        record { kept = old.kept; failed_out = old.failed_out; settled = λ t client a. elim (covers t a) [ inl b ↦ old.settled t client b | inr d ↦ d picks later ] };
  }
