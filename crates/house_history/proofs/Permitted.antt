-- The forwarder of a run listens on this machine only where the list of its start permits it.
use Rattle.std.proofs.Common.{◌≡◌, refl, ℕ, Bool, true, false, List, [], ◌∷◌, ◌++◌, take, Option}
use Rattle.std.specs.Prelude.{if◌then◌else◌}
use Rattle.std.specs.List.{All}
use Rattle.std.proofs.lemmas.List.Elements.{All-append, All-cons, All-nil}
use Rattle.mux_outside.specs.House.{HouseState}
use Rattle.mux_outside.specs.HouseCalls.{Begins, HouseCall}
use Rattle.mux_outside.specs.HouseCalls as call
use Rattle.mux_outside.specs.OwnStreams.{is_own}
use Rattle.mux_outside.specs.declared.house.HouseReply.{HouseReply}
use Rattle.mux_outside.specs.declared.house_mark.HouseMark.{HouseMark}
use Rattle.mux_outside.specs.declared.house_mark.HouseMark.TheVariants.{HouseIn, HouseSaid, HouseTook, HouseAsked, HouseAnswer, HouseOrder}
use Rattle.mux_outside.specs.declared.mark.Mark.{Mark}
use Rattle.mux_outside.specs.declared.mark.Mark.TheVariants.{Waits, Accepts, Gets, Ends, Frees, Fails, Takes, Holds, WriteFails, Joins, House}
use Rattle.mux_outside.specs.declared.order.Order.TheVariants as order
use Rattle.mux_outside.specs.declared.starts.Starts.{Starts}
use Rattle.mux_history.specs.Journal.{log_of_journal}
use Rattle.mux_history.specs.Log.{Setting}
use Rattle.mux_history.specs.Pending.{pending}
use Rattle.mux_history.specs.Settings.{by_lists}
use Rattle.mux_history.specs.declared.limits.TheConstants.{HOUSE}
use Rattle.mux_engine.specs.Called.{calls_at, calls_in, house_calls, if_own}
use Rattle.house_forward.specs.Permitted.{BeginsNone}
use Rattle.house_forward.specs.RelayTraces.{Trace, TraceReaches, first_trace}
use Rattle.house_forward.proofs.Permitting.{each-order-is-permitted}
use Rattle.house_history.specs.Listening.{IsPermittedMark, ListensWherePermitted, RunsListen}
use Rattle.house_history.specs.Runs.{LeadsOn}

-- ---- no call of a journal is a beginning

none-one : (one : HouseCall) → BeginsNone one → All BeginsNone (one ∷ [])
none-one one h = All-cons BeginsNone one [] h (All-nil BeginsNone)

none-if : (b : Bool) (one : HouseCall) → BeginsNone one → All BeginsNone (if b then one ∷ [] else [])
none-if true one h = none-one one h
none-if false one h = All-nil BeginsNone

none-house : (waiting : List ℕ) (mark : HouseMark) → All BeginsNone (house_calls waiting mark)
none-house waiting HouseIn = All-nil BeginsNone
none-house waiting (HouseSaid bytes) = none-one (call.Marks (HouseSaid bytes)) tt
none-house waiting (HouseTook size) = none-one (call.Receives (take size waiting)) tt
none-house waiting (HouseAsked client id opening ask reply) = none-one (call.Marks (HouseAsked client id opening ask reply)) tt
none-house waiting (HouseAnswer client id reply) = none-one (call.Marks (HouseAnswer client id reply)) tt
none-house waiting (HouseOrder o number) = none-one (call.Marks (HouseOrder o number)) tt

none-at : (setting : Setting) (before : List Mark) (mark : Mark) → All BeginsNone (calls_at setting before mark)
none-at setting before (Waits waiting want streams shown) = All-nil BeginsNone
none-at setting before (Accepts t) = All-nil BeginsNone
none-at setting before (Gets t bytes) = none-if (is_own t) (call.Turns (call.Got t bytes)) tt
none-at setting before (Ends t) = none-if (is_own t) (call.Turns (call.End t)) tt
none-at setting before (Frees t) = none-if (is_own t) (call.Turns (call.Writable t)) tt
none-at setting before (Fails t) = none-if (is_own t) (call.Turns (call.Failed t)) tt
none-at setting before (Takes t bytes accepts) = none-if (is_own t) (call.Takes t bytes) tt
none-at setting before (Holds t) = All-nil BeginsNone
none-at setting before (WriteFails t) = none-if (is_own t) (call.Turns (call.Failed t)) tt
none-at setting before (Joins l t) = none-one (call.Turns (call.Joined l t)) tt
none-at setting before (House mark) = none-house (pending HOUSE (log_of_journal setting before)) mark

none-begins : (setting : Setting) (journal : List Mark) → All BeginsNone (calls_in setting journal)
none-begins setting [] = All-nil BeginsNone
none-begins setting (mark ∷ before) =
    All-append BeginsNone (calls_in setting before) (calls_at setting before mark) (none-begins setting before) (none-at setting before mark)

-- ---- each order

record Split (calls more : List HouseCall) (a c : Trace) : Type 0 where
  middle : Trace
  first : TraceReaches a calls middle
  rest : TraceReaches middle more c

reach-split : (calls more : List HouseCall) (a c : Trace) → TraceReaches a (calls ++ more) c → Split calls more a c
reach-split [] more a c h = record { middle = a; first = refl; rest = h }
reach-split (one ∷ calls) more a c h =
    let s = reach-split calls more h.0 c h.2 in
    record { middle = s.middle; first = (h.0, h.1, s.first); rest = s.rest }

permitted-mark : (starts : Starts) (calls : List HouseCall) (waiting : List ℕ) (mark : HouseMark) (old new : Trace) → All BeginsNone calls
    → TraceReaches first_trace (Begins starts ∷ calls) old → TraceReaches old (house_calls waiting mark) new → IsPermittedMark starts.here mark
permitted-mark starts calls waiting HouseIn old new none reached h = tt
permitted-mark starts calls waiting (HouseSaid bytes) old new none reached h = tt
permitted-mark starts calls waiting (HouseTook size) old new none reached h = tt
permitted-mark starts calls waiting (HouseAsked client id opening ask reply) old new none reached h = tt
permitted-mark starts calls waiting (HouseAnswer client id reply) old new none reached h = tt
permitted-mark starts calls waiting (HouseOrder (order.Listen host port) number) old new none reached h =
    each-order-is-permitted starts calls host port number old h.0 none reached h.1
permitted-mark starts calls waiting (HouseOrder (order.Connect host port) number) old new none reached h = tt
permitted-mark starts calls waiting (HouseOrder (order.Unlisten l) number) old new none reached h = tt
permitted-mark starts calls waiting (HouseOrder (order.Pause t) number) old new none reached h = tt
permitted-mark starts calls waiting (HouseOrder (order.Resume t) number) old new none reached h = tt
permitted-mark starts calls waiting (HouseOrder (order.Finish t) number) old new none reached h = tt
permitted-mark starts calls waiting (HouseOrder (order.Close t) number) old new none reached h = tt

permitted-at : (starts : Starts) (setting : Setting) (before : List Mark) (mark : Mark) (old new : Trace)
    → TraceReaches first_trace (Begins starts ∷ calls_in setting before) old → TraceReaches old (calls_at setting before mark) new
    → ListensWherePermitted starts.here mark
permitted-at starts setting before (Waits waiting want streams shown) old new reached h = tt
permitted-at starts setting before (Accepts t) old new reached h = tt
permitted-at starts setting before (Gets t bytes) old new reached h = tt
permitted-at starts setting before (Ends t) old new reached h = tt
permitted-at starts setting before (Frees t) old new reached h = tt
permitted-at starts setting before (Fails t) old new reached h = tt
permitted-at starts setting before (Takes t bytes accepts) old new reached h = tt
permitted-at starts setting before (Holds t) old new reached h = tt
permitted-at starts setting before (WriteFails t) old new reached h = tt
permitted-at starts setting before (Joins l t) old new reached h = tt
permitted-at starts setting before (House mark) old new reached h =
    permitted-mark starts (calls_in setting before) (pending HOUSE (log_of_journal setting before)) mark old new (none-begins setting before) reached h

permitted-in : (starts : Starts) (setting : Setting) (journal : List Mark) (trace : Trace)
    → TraceReaches first_trace (Begins starts ∷ calls_in setting journal) trace → All (ListensWherePermitted starts.here) journal
permitted-in starts setting [] trace reached = All-nil (ListensWherePermitted starts.here)
permitted-in starts setting (mark ∷ before) trace reached =
    let s = reach-split (calls_in setting before) (calls_at setting before mark) reached.0 trace reached.2 in
    let first : TraceReaches first_trace (Begins starts ∷ calls_in setting before) s.middle = (reached.0, reached.1, s.first) in
    All-cons (ListensWherePermitted starts.here) mark before (permitted-at starts setting before mark s.middle trace first s.rest)
    (permitted-in starts setting before s.middle first)

-- ---- a run of the program

pub runs-listen : {T : Type 0} (May : HouseReply → Type 0) (state : T → HouseState) (house : T) → LeadsOn (state house).stands → RunsListen May state house
runs-listen May state house leads present starts policy pid turns before start seen refused answer run ne small =
    let setting : Setting = by_lists policy pid run.choices.picks run.choices.replies in
    let trace = leads (Begins starts ∷ calls_in setting run.wire.journal) (run.forwarder.handed ne (Begins starts ∷ []) refl) small in
    permitted-in starts setting run.wire.journal trace.0 trace.1
