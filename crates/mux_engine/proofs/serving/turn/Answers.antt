use Rattle.std.proofs.Common.{◌≡◌, ◌++◌, ◌∙◌, refl, sym, ap, subst, ℕ, List}
use Rattle.std.specs.Prelude.{All, IsTrue, length, ◌<◌, filter}
use Rattle.ssh_fields.specs.declared.out_of_memory.OutOfMemory.{OutOfMemory}
use Rattle.mux_outside.specs.CallCounts.{is_starved}
use Rattle.mux_outside.specs.Streams.{among}
use Rattle.mux_outside.specs.WireState.{WireState}
use Rattle.mux_state.specs.Events.{went_of}
use Rattle.mux_state.specs.declared.event.Went.{Went}
use Rattle.mux_state.specs.declared.event.Went.TheVariants.{On}
use Rattle.mux_engine.specs.Owned.{waits_for_own}
use Rattle.mux_engine.specs.Turns.{IsEventOf, IsOwnOf}
use Rattle.mux_engine.specs.Wires.{IsIdleWire}
use Rattle.mux_engine.proofs.Arms.{on-err}
use Rattle.mux_engine.proofs.Handed.{BeginsTurn, HasWaited, at-wait, has-waited, turn-fits}
use Rattle.mux_engine.proofs.OneWait.{turn-event, turn-freed, turn-heard, turn-unheard, turn-unlisted, turn-wanting, works-event, works-own-turn, works-unlisted}
use Rattle.mux_engine.proofs.Owning.{numbers-own}
use Rattle.mux_engine.proofs.OwnAsks.{applied-counted, turn-comes}
use Rattle.mux_engine.proofs.Places.{server-open}
use Rattle.mux_engine.proofs.Waits.{some-waits, waiting-blocked, waiting-open}
use Rattle.mux_engine.proofs.Wired.{works-wait, works-wait-err}
use Rattle.mux_engine.proofs.serving.turn.Given.{Over}
use Rattle.mux_engine.proofs.serving.turn.Goals.{After-next_of, In-Own, In_ok-list_waiting, Start}
use Rattle.mux_engine.proofs.serving.turn.Goals as goal

-- ---- what the turn begins with, and what was waited for

begins : (g : Over) (c : Start g) → BeginsTurn (g.H.Asks.state c.args.house.now) (g.W.Wire.state c.args.wire.now) c.args.lists.now c.args.engine.now
begins g c = let q = c.requires in record { together = q.together; ready = q.ready; permitted = q.permitted; closed = q.closed; on = q.on; receives = q.receives }

listed : (g : Over) (c : In_ok-list_waiting g) → c.list_waiting.new.todo ≡ c.waiting.result.now ++ filter (waits_for_own (g.H.Asks.state c.args.house.now).queue c.args.lists.now.failed) c.args.lists.now.own
listed g c = c.in_ok-list_waiting.ensures ∙ ap (λ (l : List ℕ). c.waiting.result.now ++ filter (waits_for_own (g.H.Asks.state c.args.house.now).queue c.args.lists.now.failed) l) (numbers-own c.requires.together.housed)

-- the streams that wait
todo-is : (g : Over) (c : In_ok-list_waiting g) → c.list_waiting.new.todo ≡ c.args.engine.now.waiting ++ filter (waits_for_own (g.H.Asks.state c.args.house.now).queue c.args.lists.now.failed) c.args.lists.now.own
todo-is g c = listed g c ∙ ap (λ (l : List ℕ). l ++ filter (waits_for_own (g.H.Asks.state c.args.house.now).queue c.args.lists.now.failed) c.args.lists.now.own) c.waiting.ensures.exact

waited : (g : Over) (c : After-next_of g) → HasWaited (g.W.Wire.state c.args.wire.now).seen (g.W.Wire.state c.wait-recorded.new.self).seen c.args.lists.now.own c.args.lists.now.failed (g.H.Asks.state c.args.house.now).queue c.args.engine.now c.wait-recorded.result c.wait-recorded.new.into
waited g c =
    let k = c.wait-recorded in
    let lists = c.args.lists.now in
    has-waited (g.W.Wire.state c.args.wire.now) (g.W.Wire.state k.new.self) lists.own lists.failed (g.H.Asks.state c.args.house.now).queue c.args.engine.now k.result k.new.into c.as_bytes.result.now c.list_waiting.new.todo c.waiting.result.now c.wanted.result (g.W.Wire.state k.new.self).tally
    k.ensures.state (c.in_ok-list_waiting.ensures ∙ ap (λ (l : List ℕ). c.waiting.result.now ++ filter (waits_for_own (g.H.Asks.state c.args.house.now).queue c.args.lists.now.failed) l) (numbers-own c.requires.together.housed)) c.waiting.ensures.exact c.wanted.ensures c.next_of.ensures.bytes c.as_bytes.ensures.bytes k.ensures.turn k.ensures.own_turn

recorded-own : (g : Over) (c : In-Own g) → IsOwnOf c.in-Own.recorded c.wait-recorded.result c.wait-recorded.new.into
recorded-own g c = subst (λ (x : List ℕ). IsOwnOf c.in-Own.recorded c.wait-recorded.result x) c.as_bytes.ensures.bytes c.in-Own.ensures.next

-- ---- before the wait

pub returns-in_err-list_waiting : goal.returns-in_err-list_waiting
returns-in_err-list_waiting g c =
    let r = c.from_residual in
    let lists = c.args.lists.now in
    let d = turn-unlisted r.result g.H.Asks.may g.H.Asks.state c.args.house.now (g.W.Wire.state c.args.wire.now) (g.W.Wire.faults c.args.wire.now) lists lists.held lists.own lists.failed c.args.engine.now r.ensures.0 in record {
      serving = d.serving;
      together = d.together _ refl refl;
      house = d.stays;
      went = on-err r.result _ _ r.ensures.0 tt;
      ended = d.ended;
      wire = works-unlisted r.result (g.W.Wire.state c.args.wire.now) (g.W.Wire.faults c.args.wire.now) r.ensures.0;
    }

pub wait-recorded-requires : goal.wait-recorded-requires
wait-recorded-requires g c =
    let p = goal.at.wait-recorded-requires g c in
    let a = at-wait g.H.Asks.state c.requires.served.first c.args.house.now c.requires.served.calls (g.W.Wire.state c.args.wire.now) c.args.lists.now c.args.engine.now (begins g p.Start) c.requires.served.hands in
    let seen = (g.W.Wire.state c.args.wire.now).seen in
    let todo = sym (todo-is g p.In_ok-list_waiting) in record {
      may = record {
        are_blocked = subst (λ (l : List ℕ). All (λ t. IsTrue (among t seen.blocked)) l) todo (waiting-blocked c.requires.served.serving a.none a.admitted a.live a.offered);
        are_open = subst (λ (l : List ℕ). All (λ t. IsTrue (among t seen.streams)) l) todo (waiting-open c.requires.served.serving a.none a.admitted a.live a.offered);
        server = server-open c.requires.served.serving;
        some = λ write. subst (λ (l : List ℕ). 0 < length l) todo (some-waits c.requires.served.serving a.none a.admitted a.live a.offered (sym c.wanted.ensures ∙ write));
      };
    }

-- ---- an event

pub returns-in-Event : goal.returns-in-Event
returns-in-Event g c =
    let p = goal.at.returns-in-Event g c in
    let k = c.wait-recorded in
    let next : IsEventOf c.in-Event.e k.result k.new.into = subst (λ (x : List ℕ). IsEventOf c.in-Event.e k.result x) c.as_bytes.ensures.bytes c.in-Event.ensures.next in
    let applied : IsIdleWire (g.W.Wire.state k.new.self) (g.W.Wire.state c.apply.new.wire) (g.W.Wire.faults k.new.self) (g.W.Wire.faults c.apply.new.wire) = record {
      untouched = c.apply.ensures.wire;
      own_faults = applied-counted c.requires.served.serving.stands (turn-comes c.requires.served.serving c.in-Event.e k.result c.wanted.result k.new.into c.as_bytes.result.now c.next_of.ensures.bytes k.ensures.turn c.in-Event.ensures.next)
          c.apply.result g.H.Asks.may c.apply.new.engine c.apply.new.asks _ _ _ _ _ _ _ _ c.apply.ensures.own_faults c.apply.ensures.applied;
    } in
    let d = turn-event (g.W.Wire.state k.new.self) (g.W.Wire.faults c.args.wire.now) (g.W.Wire.faults k.new.self) c.requires.served (begins g p.Start) (waited g p.After-next_of)
    c.apply.result c.apply.new.house (g.W.Wire.state c.apply.new.wire) (g.W.Wire.faults c.apply.new.wire) c.apply.new.engine c.apply.new.asks c.in-Event.e next c.apply.ensures.applied c.apply.ensures.handed c.apply.ensures.must k.ensures.cause
    (ap (λ (x : WireState). x.calls) k.ensures.state) c.apply.ensures.wire in record {
      serving = d.serving;
      together = d.together _ refl refl;
      house = d.stays;
      went = c.apply.ensures.went;
      ended = d.ended;
      wire = works-event c.apply.result c.in-Event.e k.result c.list_waiting.new.todo c.wanted.result k.new.into next k.ensures.state k.ensures.cause applied;
    }

-- ---- something of the master's own listeners and streams

pub hand_on-requires-clause-fits : goal.hand_on-requires-clause-fits
hand_on-requires-clause-fits g c =
    let p = goal.at.hand_on-requires-clause-fits g c in
    let k = c.wait-recorded in
    turn-fits (waited g p.After-next_of) c.in-Own.recorded (recorded-own g p.In-Own) (g.H.Asks.state c.args.house.now).known (g.H.Asks.state c.args.house.now).quiet c.requires.together.housed c.requires.together.alone c.requires.ready

pub returns-in_err-hand_on-in-Own : goal.returns-in_err-hand_on-in-Own
returns-in_err-hand_on-in-Own g c =
    let p = goal.at.returns-in_err-hand_on-in-Own g c in
    let k = c.wait-recorded in
    let r = c.from_residual-in_err-hand_on-in-Own in
    let d = turn-unheard (g.W.Wire.state k.new.self) (g.W.Wire.faults c.args.wire.now) (g.W.Wire.faults k.new.self) c.requires.served (begins g p.Start) (waited g p.After-next_of)
    c.hand_on.new.house c.in-Own.recorded (recorded-own g p.In-Own) c.hand_on.ensures.recorded c.hand_on.ensures.must r.result c.hand_on.new.lists.held c.hand_on.new.lists.own c.hand_on.new.lists.failed r.ensures.0 in record {
      serving = d.serving;
      together = d.together _ refl refl;
      house = d.stays;
      went = on-err r.result _ _ r.ensures.0 tt;
      ended = d.ended;
      wire = works-own-turn r.result c.in-Own.recorded k.result c.list_waiting.new.todo c.wanted.result k.new.into (recorded-own g p.In-Own) k.ensures.state k.ensures.cause;
    }

pub returns-in_ok-hand_on-in-Own : goal.returns-in_ok-hand_on-in-Own
returns-in_ok-hand_on-in-Own g c =
    let p = goal.at.returns-in_ok-hand_on-in-Own g c in
    let k = c.wait-recorded in
    let heard = c.in_ok-hand_on-in-Own.ensures in
    let d = turn-heard (g.W.Wire.state k.new.self) (g.W.Wire.faults c.args.wire.now) (g.W.Wire.faults k.new.self) c.requires.served (begins g p.Start) (waited g p.After-next_of)
    c.hand_on.new.house c.in-Own.recorded (recorded-own g p.In-Own) c.hand_on.ensures.recorded c.hand_on.ensures.must {E = OutOfMemory} On c.hand_on.new.lists.held c.hand_on.new.lists.own c.hand_on.new.lists.failed heard.known heard.lists.held heard.lists.own heard.lists.failed heard.stands in record {
      serving = d.serving;
      together = d.together _ refl refl;
      house = d.stays;
      went = sym (ap went_of c.requires.on);
      ended = d.ended;
      wire = works-own-turn _ c.in-Own.recorded k.result c.list_waiting.new.todo c.wanted.result k.new.into (recorded-own g p.In-Own) k.ensures.state k.ensures.cause;
    }

-- ---- a stream accepts bytes again

pub returns-in-Freed : goal.returns-in-Freed
returns-in-Freed g c =
    let p = goal.at.returns-in-Freed g c in
    let k = c.wait-recorded in
    let d = turn-freed (g.W.Wire.state k.new.self) (g.W.Wire.faults c.args.wire.now) (g.W.Wire.faults k.new.self) c.requires.served (begins g p.Start) (waited g p.After-next_of)
    {E = OutOfMemory} On c.in-Freed.stream c.remove.new.self c.in-Freed.ensures.next.0 c.in-Freed.ensures.next.1 c.remove.ensures in record {
      serving = d.serving;
      together = d.together _ refl refl;
      house = d.stays;
      went = sym (ap went_of c.requires.on);
      ended = d.ended;
      wire = works-wait _ k.result c.list_waiting.new.todo c.wanted.result k.new.into (ap is_starved c.in-Freed.ensures.next.1) k.ensures.state k.ensures.cause;
    }

-- ---- no memory

pub returns-in-NoMemory : goal.returns-in-NoMemory
returns-in-NoMemory g c =
    let p = goal.at.returns-in-NoMemory g c in
    let k = c.wait-recorded in
    let d = turn-wanting (g.W.Wire.state k.new.self) (g.W.Wire.faults c.args.wire.now) (g.W.Wire.faults k.new.self) c.requires.served (begins g p.Start) (waited g p.After-next_of) {A = Went} {E = OutOfMemory} (record {}) c.in-NoMemory.ensures.next c.args.lists.now.held c.args.lists.now.own c.args.lists.now.failed in record {
      serving = d.serving;
      together = tt;
      house = d.stays;
      went = tt;
      ended = d.ended;
      wire = works-wait-err _ k.result c.list_waiting.new.todo c.wanted.result k.new.into k.ensures.state k.ensures.cause;
    }
