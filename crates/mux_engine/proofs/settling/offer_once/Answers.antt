use Rattle.std.proofs.Common.{◌≤◌, ◌<◌, ◌∷◌, [], ◌++◌, ◌∙◌, sym, ap, subst, refl, ℕ, List, length, take}
use Rattle.std.proofs.lemmas.List.{length-take-le}
use Rattle.mux_outside.specs.Seen.{Seen, seen_after_write}
use Rattle.mux_outside.specs.Streams.{among, without}
use Rattle.mux_outside.specs.declared.mark.Mark.TheVariants.{Takes, Holds, WriteFails}
use Rattle.mux_outside.specs.declared.turn.Wrote.TheVariants as wrote
use Rattle.mux_state.specs.State.{EngineState}
use Rattle.mux_engine.specs.Serving.{Serving}
use Rattle.mux_engine.specs.Sides.{RestsOf}
use Rattle.mux_engine.specs.SilentAnswers.{AcceptsAs}
use Rattle.mux_engine.proofs.Arms.{Failing, empty-is, failing, offered-fails, offered-none, offered-same, on-err, some-bytes, unless-empty}
use Rattle.mux_engine.proofs.Asks.{goes-asked, goes-unasked, none-asked, unasked-none}
use Rattle.mux_engine.proofs.Holding.{held-more, none-finished}
use Rattle.mux_engine.proofs.Lists.{not-own-stream}
use Rattle.mux_engine.proofs.Marks.{accepts-then, listening-lost, serve-alone, serve-next}
use Rattle.mux_engine.proofs.Offers.{SameRun, cut-fails, cut-holds, cut-starved, next-fails, next-holds, next-takes}
use Rattle.mux_engine.proofs.Owns.{client-apart, writes-client}
use Rattle.mux_engine.proofs.Places.{AtStream, at-stream, open-own, places-same, places-write, stream-open}
use Rattle.mux_engine.proofs.Silent.{holds-alike}
use Rattle.mux_engine.proofs.Taken.{queue-present, took-asks, took-less, took-run}
use Rattle.mux_engine.proofs.Todo.{nothing-left}
use Rattle.mux_engine.proofs.Wired.{seen-is, works-none, works-starved, works-write}
use Rattle.mux_state.proofs.Twins.{stands-alike}
use Rattle.mux_engine.proofs.settling.offer_once.Given as given_to
use Rattle.mux_engine.proofs.settling.offer_once.Goals as goal

pub returns-then-is_empty-clause-serving : goal.returns-then-is_empty-clause-serving
returns-then-is_empty-clause-serving g c todo zero present first before now policy pid start failed given v =
    nothing-left v c.args.stream c.queue_of-bytes.result.now (c.queue_of-bytes.ensures.waits v.picked v.replies v.journal v.closed v.stands (at-stream v.stands c.args.stream c.requires.stream.opened).not_closed) (empty-is c.queue_of-bytes.result.now (sym c.if-is_empty.ensures))

pub write-requires : goal.write-requires
write-requires g c = let w = c.requires.served in record {
  may = record {
    is_open = stream-open w.serving c.args.stream c.requires.stream.opened c.requires.stream.no_house;
    unblocked = c.requires.free;
    unfinished = none-finished c.args.stream (g.W.Wire.state c.args.wire.now).seen.own (client-apart _ _ w.serving.places c.args.stream (open-own w.serving c.args.stream c.requires.stream.opened c.requires.stream.no_house));
    some = some-bytes c.queue_of-bytes.result.now (sym c.if-is_empty.ensures);
  };
}

-- ---- bytes that were accepted

pub returns-in-Took-clause-serving : goal.returns-in-Took-clause-serving
returns-in-Took-clause-serving g c todo zero present first before now policy pid start failed given v =
    let s : EngineState = c.args.engine.now in
    let k : ℕ = c.args.stream in
    let n : ℕ = c.in-Took.n in
    let bytes : List ℕ = c.queue_of-bytes.result.now in
    let fits : n ≤ length bytes = c.in-Took.ensures.wrote.1 in
    let some : 0 < length bytes = some-bytes bytes (sym c.if-is_empty.ensures) in
    let same : SameRun s c.took.new.self = took-run s c.took.new.self k n c.took.ensures.exact in
    let at : AtStream s v.journal v.closed k = at-stream v.stands k c.requires.stream.opened in
    subst (λ (x : Seen). Serving g.H.Asks.may (RestsOf g.H.Asks.state present first) before now policy pid start x c.args.held.now failed given (k ∷ todo) c.took.new.self) (sym (seen-is c.in-Took.ensures.state))
    (serve-alone v now (seen_after_write (wrote.Took n) k bytes (g.W.Wire.state c.args.wire.now).seen) c.args.held.now failed given (k ∷ todo) c.took.new.self (Takes k (take n bytes) (g.W.Wire.state c.args.wire.now).seen.listens)
    (c.took.ensures.stands (take n bytes) (g.W.Wire.state c.args.wire.now).seen.listens (length-take-le n bytes fits) v.picked v.replies v.journal v.closed v.stands ((λ nz. queue-present s k bytes c.queue_of-bytes.ensures.exact some nz), not-own-stream k (open-own v k c.requires.stream.opened c.requires.stream.no_house)))
    (took-asks s c.took.new.self k (take n bytes) (g.W.Wire.state c.args.wire.now).seen.listens v.journal same)
    (next-takes v c.took.new.self k n bytes c.requires.stream.opened c.requires.stream.no_house same c.queue_of-bytes.ensures.bytes c.in-Took.ensures.wrote.0 fits c.requires.silence (c.queue_of-bytes.ensures.waits v.picked v.replies v.journal v.closed v.stands at.not_closed)))

pub took-requires : goal.took-requires
took-requires g c = subst (λ (b : List ℕ). c.in-Took.n ≤ length b) c.queue_of-bytes.ensures.exact c.in-Took.ensures.wrote.1

-- ---- a stream that is blocked now

pub returns-in_ok-push-in-Later-clause-serving : goal.returns-in_ok-push-in-Later-clause-serving
returns-in_ok-push-in-Later-clause-serving g c todo zero present first before now policy pid start failed given v =
    let s : EngineState = c.args.engine.now in
    let k : ℕ = c.args.stream in
    let bytes : List ℕ = c.queue_of-bytes.result.now in
    subst (λ (x : Seen). Serving g.H.Asks.may (RestsOf g.H.Asks.state present first) before now policy pid start x c.push.new.self failed given (without k todo) s) (sym (seen-is c.in-Later.ensures.state))
    (subst (λ (h : List ℕ). Serving g.H.Asks.may (RestsOf g.H.Asks.state present first) before now policy pid start (seen_after_write wrote.Later k bytes (g.W.Wire.state c.args.wire.now).seen) h failed given (without k todo) s) (sym c.in_ok-push-in-Later.ensures.ok)
    (serve-alone v now (seen_after_write wrote.Later k bytes (g.W.Wire.state c.args.wire.now).seen) (c.args.held.now ++ k ∷ []) failed given (without k todo) s (Holds k)
    (stands-alike v.journal (Holds k ∷ v.journal) v.picked v.replies s v.closed (holds-alike k v.journal) v.stands) (λ picks replies. refl)
    (next-holds v k bytes c.requires.stream.opened c.requires.stream.no_house c.queue_of-bytes.ensures.bytes (some-bytes c.queue_of-bytes.result.now (sym c.if-is_empty.ensures)))))

pub returns-in_ok-push-in-Later-clause-holds : goal.returns-in_ok-push-in-Later-clause-holds
returns-in_ok-push-in-Later-clause-holds g c = λ t a. ap (among t) c.in_ok-push-in-Later.ensures.ok ∙ held-more c.args.stream t c.args.held.now a

pub returns-in_err-push-in-Later-clause-serving : goal.returns-in_err-push-in-Later-clause-serving
returns-in_err-push-in-Later-clause-serving g c todo zero present first before now policy pid start failed given v = on-err c.from_residual.result _ _ c.from_residual.ensures.0
    (cut-holds v _ c.args.stream c.queue_of-bytes.result.now (writes-client v.journal c.args.stream (open-own v c.args.stream c.requires.stream.opened c.requires.stream.no_house)) (stream-open v c.args.stream c.requires.stream.opened c.requires.stream.no_house) c.queue_of-bytes.ensures.bytes (some-bytes c.queue_of-bytes.result.now (sym c.if-is_empty.ensures)) (seen-is c.in-Later.ensures.state))

-- ---- a stream that failed

lost : (g : given_to.Over) (c : goal.In_ok-event-in-Failed g) → Failing c.args.stream c.args.engine.now c.event.new.self
lost g c =
    let w = c.requires.served.serving in
    failing c.event_of_fault.result c.args.stream c.args.engine.now c.event.new.self c.event_of_fault.ensures.write c.in_ok-event-in-Failed.ensures.keeps
    (c.in_ok-event-in-Failed.ensures.takes.ends (WriteFails c.args.stream) c.event_of_fault.ensures.write w.picked w.replies w.journal w.closed w.stands ((at-stream w.stands c.args.stream c.requires.stream.opened).accepted, not-own-stream c.args.stream (open-own w c.args.stream c.requires.stream.opened c.requires.stream.no_house)))

pub returns-in_ok-event-in-Failed-clause-serving : goal.returns-in_ok-event-in-Failed-clause-serving
returns-in_ok-event-in-Failed-clause-serving g c todo zero present first before now policy pid start failed given v =
    let s : EngineState = c.args.engine.now in
    let k : ℕ = c.args.stream in
    let bytes : List ℕ = c.queue_of-bytes.result.now in
    let at : AtStream s v.journal v.closed k = at-stream v.stands k c.requires.stream.opened in
    let f : Failing k s c.event.new.self = lost g c in
    let said = c.in_ok-event-in-Failed.ensures.takes.stands (WriteFails k) c.event_of_fault.ensures.write v.picked v.replies v.journal v.closed v.stands (at.accepted, not-own-stream k (open-own v k c.requires.stream.opened c.requires.stream.no_house)) in
    let none = none-asked said.asks (goes-asked (λ j. ⊥) said f.policy f.pid tt) in
    let on = goes-unasked {May = g.H.Asks.may} v.stands said none in
    subst (λ (x : Seen). Serving g.H.Asks.may (RestsOf g.H.Asks.state present first) before now policy pid start x c.args.held.now failed given (without k todo) c.event.new.self) (sym (seen-is c.in-Failed.ensures.state))
    (serve-next v now (seen_after_write wrote.Failed k bytes (g.W.Wire.state c.args.wire.now).seen) c.args.held.now failed given (without k todo) c.event.new.self (WriteFails k) on
    (next-fails v k bytes on (unasked-none g.H.Asks.may v.stands said none) c.requires.stream.opened c.requires.stream.no_house c.queue_of-bytes.ensures.bytes (some-bytes c.queue_of-bytes.result.now (sym c.if-is_empty.ensures)) zero f.policy f.pid f.streams f.live f.over))

pub returns-in_err-event-in-Failed-clause-serving : goal.returns-in_err-event-in-Failed-clause-serving
returns-in_err-event-in-Failed-clause-serving g c todo zero present first before now policy pid start failed given v = on-err c.from_residual-in_err-event-in-Failed.result _ _ c.from_residual-in_err-event-in-Failed.ensures.0
    (cut-fails v _ c.args.stream c.queue_of-bytes.result.now (writes-client v.journal c.args.stream (open-own v c.args.stream c.requires.stream.opened c.requires.stream.no_house)) (stream-open v c.args.stream c.requires.stream.opened c.requires.stream.no_house) c.queue_of-bytes.ensures.bytes (some-bytes c.queue_of-bytes.result.now (sym c.if-is_empty.ensures)) (seen-is c.in-Failed.ensures.state))

-- ---- no memory for the write

pub returns-in-NoMemory-clause-serving : goal.returns-in-NoMemory-clause-serving
returns-in-NoMemory-clause-serving g c todo zero present first before now policy pid start failed given v = cut-starved v _ c.args.stream c.queue_of-bytes.result.now (seen-is c.in-NoMemory.ensures.state)

-- ---- where nothing waits

pub returns-in-Took-clause-idle : goal.returns-in-Took-clause-idle
returns-in-Took-clause-idle g c = unless-empty c.queue_of-bytes.result.now _ c.queue_of-bytes.ensures.exact (sym c.if-is_empty.ensures)

pub returns-in_ok-push-in-Later-clause-idle : goal.returns-in_ok-push-in-Later-clause-idle
returns-in_ok-push-in-Later-clause-idle g c = unless-empty c.queue_of-bytes.result.now _ c.queue_of-bytes.ensures.exact (sym c.if-is_empty.ensures)

pub returns-in_err-push-in-Later-clause-idle : goal.returns-in_err-push-in-Later-clause-idle
returns-in_err-push-in-Later-clause-idle g c = unless-empty c.queue_of-bytes.result.now _ c.queue_of-bytes.ensures.exact (sym c.if-is_empty.ensures)

pub returns-in_ok-event-in-Failed-clause-idle : goal.returns-in_ok-event-in-Failed-clause-idle
returns-in_ok-event-in-Failed-clause-idle g c = unless-empty c.queue_of-bytes.result.now _ c.queue_of-bytes.ensures.exact (sym c.if-is_empty.ensures)

pub returns-in_err-event-in-Failed-clause-idle : goal.returns-in_err-event-in-Failed-clause-idle
returns-in_err-event-in-Failed-clause-idle g c = unless-empty c.queue_of-bytes.result.now _ c.queue_of-bytes.ensures.exact (sym c.if-is_empty.ensures)

pub returns-in-NoMemory-clause-idle : goal.returns-in-NoMemory-clause-idle
returns-in-NoMemory-clause-idle g c = unless-empty c.queue_of-bytes.result.now _ c.queue_of-bytes.ensures.exact (sym c.if-is_empty.ensures)

pub returns-then-is_empty-clause-idle : goal.returns-then-is_empty-clause-idle
returns-then-is_empty-clause-idle g c = λ none. (refl, refl)

pub returns-in-Took-clause-places : goal.returns-in-Took-clause-places
returns-in-Took-clause-places g c = places-write (wrote.Took c.in-Took.n) c.args.stream c.queue_of-bytes.result.now _ _ (seen-is c.in-Took.ensures.state)

pub returns-in_ok-push-in-Later-clause-places : goal.returns-in_ok-push-in-Later-clause-places
returns-in_ok-push-in-Later-clause-places g c = places-write wrote.Later c.args.stream c.queue_of-bytes.result.now _ _ (seen-is c.in-Later.ensures.state)

pub returns-in_err-push-in-Later-clause-places : goal.returns-in_err-push-in-Later-clause-places
returns-in_err-push-in-Later-clause-places g c = places-write wrote.Later c.args.stream c.queue_of-bytes.result.now _ _ (seen-is c.in-Later.ensures.state)

pub returns-in_ok-event-in-Failed-clause-places : goal.returns-in_ok-event-in-Failed-clause-places
returns-in_ok-event-in-Failed-clause-places g c = places-write wrote.Failed c.args.stream c.queue_of-bytes.result.now _ _ (seen-is c.in-Failed.ensures.state)

pub returns-in_err-event-in-Failed-clause-places : goal.returns-in_err-event-in-Failed-clause-places
returns-in_err-event-in-Failed-clause-places g c = places-write wrote.Failed c.args.stream c.queue_of-bytes.result.now _ _ (seen-is c.in-Failed.ensures.state)

pub returns-in-NoMemory-clause-places : goal.returns-in-NoMemory-clause-places
returns-in-NoMemory-clause-places g c = places-write wrote.NoMemory c.args.stream c.queue_of-bytes.result.now _ _ (seen-is c.in-NoMemory.ensures.state)

pub returns-then-is_empty-clause-places : goal.returns-then-is_empty-clause-places
returns-then-is_empty-clause-places g c = places-same _ _ refl

-- ---- clients are accepted only as the engine does

took-accepts : (g : given_to.Over) (c : goal.After-took g) → AcceptsAs (g.W.Wire.state c.write.new.self).seen c.took.new.self
took-accepts g c = let same = took-run c.args.engine.now c.took.new.self c.args.stream c.in-Took.n c.took.ensures.exact in
    accepts-then (g.W.Wire.state c.args.wire.now).seen (g.W.Wire.state c.write.new.self).seen c.args.engine.now c.took.new.self c.requires.silence (places-write (wrote.Took c.in-Took.n) c.args.stream c.queue_of-bytes.result.now _ _ (seen-is c.in-Took.ensures.state)).silence same.ended same.listening

pub returns-then-is_empty-clause-silence : goal.returns-then-is_empty-clause-silence
returns-then-is_empty-clause-silence g c = λ nz. c.requires.silence

pub returns-in-Took-clause-silence : goal.returns-in-Took-clause-silence
returns-in-Took-clause-silence g c = λ nz. took-accepts g c

pub returns-in_ok-push-in-Later-clause-silence : goal.returns-in_ok-push-in-Later-clause-silence
returns-in_ok-push-in-Later-clause-silence g c = λ nz.
    accepts-then (g.W.Wire.state c.args.wire.now).seen (g.W.Wire.state c.write.new.self).seen c.args.engine.now c.args.engine.now c.requires.silence (places-write wrote.Later c.args.stream c.queue_of-bytes.result.now _ _ (seen-is c.in-Later.ensures.state)).silence refl refl

pub returns-in_ok-event-in-Failed-clause-silence : goal.returns-in_ok-event-in-Failed-clause-silence
returns-in_ok-event-in-Failed-clause-silence g c = λ nz.
    let k : ℕ = c.args.stream in
    let v = c.requires.served.serving in
    let client = not-own-stream k (open-own v k c.requires.stream.opened c.requires.stream.no_house) in
    let f : Failing k c.args.engine.now c.event.new.self = lost g c in
    let said = c.in_ok-event-in-Failed.ensures.takes.stands (WriteFails k) c.event_of_fault.ensures.write v.picked v.replies v.journal v.closed v.stands ((at-stream v.stands k c.requires.stream.opened).accepted, client) in
    let on = goes-unasked {May = g.H.Asks.may} v.stands said (none-asked said.asks (goes-asked (λ j. ⊥) said f.policy f.pid tt)) in
    accepts-then (g.W.Wire.state c.args.wire.now).seen (g.W.Wire.state c.write.new.self).seen c.args.engine.now c.event.new.self c.requires.silence (places-write wrote.Failed k c.queue_of-bytes.result.now _ _ (seen-is c.in-Failed.ensures.state)).silence (f.client nz)
    (listening-lost v.stands c.event.new.self k on.picks on.replies f.policy f.pid on.stands nz client)

-- ---- the engine, and what it can still apply

pub returns-then-is_empty-clause-engine : goal.returns-then-is_empty-clause-engine
returns-then-is_empty-clause-engine g c = offered-none _ _ _

pub returns-in-Took-clause-engine : goal.returns-in-Took-clause-engine
returns-in-Took-clause-engine g c = let same = took-run c.args.engine.now c.took.new.self c.args.stream c.in-Took.n c.took.ensures.exact in
    offered-same _ _ _ _ _ same.streams same.ended c.in-Took.ensures.cause

pub returns-in-Took-clause-more : goal.returns-in-Took-clause-more
returns-in-Took-clause-more g c = λ more. record {
  less = took-less c.args.engine.now c.took.new.self c.args.stream c.in-Took.n c.took.ensures.exact c.in-Took.ensures.wrote.0 (subst (λ (b : List ℕ). c.in-Took.n ≤ length b) c.queue_of-bytes.ensures.exact c.in-Took.ensures.wrote.1);
  free = ap (λ (x : Seen). among c.args.stream x.blocked) (seen-is c.in-Took.ensures.state) ∙ c.requires.free;
  silence = took-accepts g c;
}

pub returns-in_ok-push-in-Later-clause-engine : goal.returns-in_ok-push-in-Later-clause-engine
returns-in_ok-push-in-Later-clause-engine g c = offered-same _ _ _ _ _ refl refl c.in-Later.ensures.cause

pub returns-in_ok-event-in-Failed-clause-engine : goal.returns-in_ok-event-in-Failed-clause-engine
returns-in_ok-event-in-Failed-clause-engine g c = offered-fails _ _ _ _ _ (lost g c) c.in-Failed.ensures.cause

-- ---- the wire

pub returns-then-is_empty-clause-wire : goal.returns-then-is_empty-clause-wire
returns-then-is_empty-clause-wire g c = works-none _ _ _

pub returns-in-Took-clause-wire : goal.returns-in-Took-clause-wire
returns-in-Took-clause-wire g c = works-write _ (wrote.Took c.in-Took.n) c.args.stream c.queue_of-bytes.result.now refl c.in-Took.ensures.state c.in-Took.ensures.cause

pub returns-in_ok-push-in-Later-clause-wire : goal.returns-in_ok-push-in-Later-clause-wire
returns-in_ok-push-in-Later-clause-wire g c = works-write _ wrote.Later c.args.stream c.queue_of-bytes.result.now refl c.in-Later.ensures.state c.in-Later.ensures.cause

pub returns-in_err-push-in-Later-clause-wire : goal.returns-in_err-push-in-Later-clause-wire
returns-in_err-push-in-Later-clause-wire g c = works-write _ wrote.Later c.args.stream c.queue_of-bytes.result.now refl c.in-Later.ensures.state c.in-Later.ensures.cause

pub returns-in_ok-event-in-Failed-clause-wire : goal.returns-in_ok-event-in-Failed-clause-wire
returns-in_ok-event-in-Failed-clause-wire g c = works-write _ wrote.Failed c.args.stream c.queue_of-bytes.result.now refl c.in-Failed.ensures.state c.in-Failed.ensures.cause

pub returns-in_err-event-in-Failed-clause-wire : goal.returns-in_err-event-in-Failed-clause-wire
returns-in_err-event-in-Failed-clause-wire g c = works-write _ wrote.Failed c.args.stream c.queue_of-bytes.result.now refl c.in-Failed.ensures.state c.in-Failed.ensures.cause

pub returns-in-NoMemory-clause-wire : goal.returns-in-NoMemory-clause-wire
returns-in-NoMemory-clause-wire g c = works-starved _ c.args.stream c.queue_of-bytes.result.now c.in-NoMemory.ensures.state c.in-NoMemory.ensures.cause
