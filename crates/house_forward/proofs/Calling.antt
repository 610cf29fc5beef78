-- How the forwarder goes on representing its calls.
use Rattle.std.proofs.Common.{◌≡◌, ◌∙◌, refl, sym, ap, subst, ℕ, Bool, true, false, List, [], ◌∷◌, ◌++◌, Option, Some, None}
use Rattle.std.specs.Prelude.{IfSome, IsSome}
use Rattle.std.proofs.lemmas.List.{append-nil}
use Rattle.std.proofs.lemmas.List.Elements.{All-nil}
use Rattle.ssh_grammar.specs.declared.framing.Framing.TheVariants as framing
use Rattle.proxy_frames.specs.State.{FramerState}
use Rattle.proxy_frames.specs.Steps.{new_framer, pushed}
use Rattle.house_relay.specs.Relay.{RelayRepresents}
use Rattle.mux_outside.specs.House.{Known, order_marks, ordered_marks, known_after_order}
use Rattle.mux_outside.specs.HouseCalls.{HouseCall, Marks, calls_of}
use Rattle.mux_outside.specs.HouseCalls.{Receives as ReceivesBytes}
use Rattle.mux_outside.specs.declared.house_mark.HouseMark.TheVariants.{HouseOrder}
use Rattle.mux_outside.specs.declared.order.Order.{Order}
use Rattle.mux_outside.specs.declared.order.Order.TheVariants as order
use Rattle.house_forward.specs.ForwardingState.{empty_forwarding_state, forwarding_state_of}
use Rattle.house_forward.specs.Known.{ordering_of}
use Rattle.house_forward.specs.RelayTraces.{Life, first_trace, HasLived, Trace, Held, GoesFurther, ForwarderRepresents, StandsSince, AwaitsNumber, GetsNumber, as_held, forwarder_held_of, Follows, GivesOrder, OrdersInTrace, ReceivesNext, accepted_length_in}
use Rattle.house_forward.specs.State.{held_in}
use Rattle.house_forward.specs.declared.forwarder_state.ForwarderState.{ForwarderState}
use Rattle.house_forward.specs.declared.forwarder_state.ForwarderStage.TheVariants.{Control}
use Rattle.house_forward.specs.declared.ordering.Ordering.{Ordering}
use Rattle.house_forward.specs.declared.ordering.Ordering.TheVariants as ordering
use Rattle.house_forward.proofs.Traces.{stands-on}
use Rattle.house_forward.proofs.Leading.{LeadsOn, leads-next, leads-last}

-- the forwarder goes on from what is the same
pub from-same : (P : Trace → Trace → Type 0) (old middle : ForwarderState) (new : Held) → middle ≡ old
    → GoesFurther P (held_in middle) new → GoesFurther P (held_in old) new
from-same P old middle new e goes = subst (λ (h : ForwarderState). GoesFurther P (held_in h) new) e goes

-- ---- where no number is awaited

pub since-none : (at : Option Ordering) (calls : List HouseCall) (h : Held) → at ≡ None → StandsSince at calls h
    → ForwarderRepresents calls h
since-none None calls h e s = subst (λ (x : Held). ForwarderRepresents calls x) (sym s.2) s.1
since-none (Some o) calls h e s = cc

pub none-since : (at : Option Ordering) (calls : List HouseCall) (h : Held) → at ≡ None → ForwarderRepresents calls h
    → StandsSince at calls h
none-since None calls h e s = (h, s, refl)
none-since (Some o) calls h e s = cc

pub no-ordering : (at : Option Ordering) → ordering_of at ≡ None → at ≡ None
no-ordering None e = refl
no-ordering (Some (ordering.Listen host port)) e = cc
no-ordering (Some (ordering.Connect host port)) e = cc

-- a call after which none is awaited
pub since-on : (at at' : Option Ordering) (calls : List HouseCall) (call : HouseCall) (old new : Held) → at ≡ None → at' ≡ None
    → accepted_length_in (call ∷ []) ≡ 0 → GoesFurther (Follows call) old new → StandsSince at calls old
    → StandsSince at' (calls ++ call ∷ []) new
since-on at at' calls call old new e f none goes h =
    none-since at' (calls ++ call ∷ []) new f (stands-on calls call old new none goes (since-none at calls old e h))

-- one in which bytes are accepted
pub since-taken : (at at' : Option Ordering) (calls : List HouseCall) (call : HouseCall) (old new : Held) → at ≡ None → at' ≡ None
    → (ForwarderRepresents calls old → ForwarderRepresents (calls ++ call ∷ []) new) → StandsSince at calls old
    → StandsSince at' (calls ++ call ∷ []) new
since-taken at at' calls call old new e f goes h =
    none-since at' (calls ++ call ∷ []) new f (goes (since-none at calls old e h))

-- none
pub since-same : (at at' : Option Ordering) (calls : List HouseCall) (old new : Held) → at ≡ None → at' ≡ None → new ≡ old
    → StandsSince at calls old → StandsSince at' (calls ++ []) new
since-same at at' calls old new e f same h =
    none-since at' (calls ++ []) new f
    (subst (λ (cs : List HouseCall). ForwarderRepresents cs new) (sym (append-nil calls))
    (subst (λ (x : Held). ForwarderRepresents calls x) (sym same) (since-none at calls old e h)))

-- ---- orders

-- what is ordered is what is awaited
awaited : (at : Option Ordering) (calls : List HouseCall) (old new : Held) → ForwarderRepresents calls old → AwaitsNumber at old new
    → StandsSince at (calls ++ []) new
awaited at calls old new h awaits =
    (old, subst (λ (cs : List HouseCall). ForwarderRepresents cs old) (sym (append-nil calls)) h, awaits)

-- an order
pub stands-given : (o : Option Order) (known : Known) (at at' : Option Ordering) (calls : List HouseCall) (old new : Held) → at ≡ None
    → known.ordering ≡ None → ordering_of at' ≡ (known_after_order o known).ordering → GivesOrder o at' old new
    → StandsSince at calls old → StandsSince at' (calls ++ calls_of (order_marks o)) new
stands-given None known at at' calls old new e none is goes h =
    since-same at at' calls old new e (no-ordering at' (is ∙ none)) goes h
stands-given (Some (order.Listen host port)) known at at' calls old new e none is goes h =
    awaited at' calls old new (since-none at calls old e h) goes
stands-given (Some (order.Connect host port)) known at at' calls old new e none is goes h =
    awaited at' calls old new (since-none at calls old e h) goes
stands-given (Some (order.Unlisten l)) known at at' calls old new e none is goes h =
    since-on at at' calls (Marks (HouseOrder (order.Unlisten l) None)) old new e (no-ordering at' (is ∙ none)) refl goes h
stands-given (Some (order.Pause t)) known at at' calls old new e none is goes h =
    since-on at at' calls (Marks (HouseOrder (order.Pause t) None)) old new e (no-ordering at' (is ∙ none)) refl goes h
stands-given (Some (order.Resume t)) known at at' calls old new e none is goes h =
    since-on at at' calls (Marks (HouseOrder (order.Resume t) None)) old new e (no-ordering at' (is ∙ none)) refl goes h
stands-given (Some (order.Finish t)) known at at' calls old new e none is goes h =
    since-on at at' calls (Marks (HouseOrder (order.Finish t) None)) old new e (no-ordering at' (is ∙ none)) refl goes h
stands-given (Some (order.Close t)) known at at' calls old new e none is goes h =
    since-on at at' calls (Marks (HouseOrder (order.Close t) None)) old new e (no-ordering at' (is ∙ none)) refl goes h

numbered-by : (o : Option Order) (number : Option ℕ) (calls : List HouseCall) (before new : Held) → IsSome o
    → IfSome o (λ given. GoesFurther (OrdersInTrace given number) before new) → ForwarderRepresents calls before
    → ForwarderRepresents (calls ++ calls_of (ordered_marks o number)) new
numbered-by None number calls before new is goes h = cc
numbered-by (Some given) number calls before new is goes h =
    stands-on calls (Marks (HouseOrder given number)) before new refl goes h

goes-from : (o : Option Order) (at : Option Ordering) (number : Option ℕ) (before old new : Held)
    → IfSome o (λ given. (b : Held) → AwaitsNumber at b old → GoesFurther (OrdersInTrace given number) b new)
    → AwaitsNumber at before old → IfSome o (λ given. GoesFurther (OrdersInTrace given number) before new)
goes-from None at number before old new goes awaits = tt
goes-from (Some given) at number before old new goes awaits = goes before awaits

-- the number of what was ordered
pub stands-made : (at at' : Option Ordering) (number : Option ℕ) (calls : List HouseCall) (old new : Held) → IsSome (ordering_of at)
    → at' ≡ None → GetsNumber at number old new → StandsSince at calls old
    → StandsSince at' (calls ++ calls_of (ordered_marks (ordering_of at) number)) new
stands-made at at' number calls old new is none goes h =
    none-since at' (calls ++ calls_of (ordered_marks (ordering_of at) number)) new none
    (numbered-by (ordering_of at) number calls h.0 new is (goes-from (ordering_of at) at number h.0 old new goes h.2) h.1)

-- no call
pub lived-first : (h : Held) → h ≡ as_held [] (new_framer framing.Control) Control empty_forwarding_state → HasLived [] h
lived-first h e =
    subst (λ (x : Held). HasLived [] x) (sym e) (record {
      trace = first_trace;
      reached = refl;
      is = record {
        relay_traces = tt;
        past = All-nil (λ (l : Life). RelayRepresents l.dials l.acts l.relay);
        framer_is = refl;
        stage_is = refl;
        forwarding_state_is = refl;
      };
    })

-- ---- what is received

-- one frame more
pub leads-on : (one : Bool) (old : Held) (now middle : ForwarderState) (new : Held) → one ≡ true → middle ≡ now
    → LeadsOn old (held_in now) → GoesFurther (ReceivesNext one) (held_in middle) new → LeadsOn old new
leads-on one old now middle new is same leads goes =
    leads-next old (held_in now) new leads
    (subst (λ (b : Bool). GoesFurther (ReceivesNext b) (held_in now) new) is (from-same (ReceivesNext one) now middle new same goes))

-- none more
pub takes-in : (bytes : List ℕ) (old taken now middle : ForwarderState) (one : Bool) (new : Held)
    → taken ≡ record old { framer = taken.framer } → taken.framer ≡ pushed bytes old.framer → LeadsOn (held_in taken) (held_in now)
    → middle ≡ now → one ≡ false → GoesFurther (ReceivesNext one) (held_in middle) new
    → GoesFurther (Follows (ReceivesBytes bytes)) (held_in old) new
takes-in bytes old taken now middle one new others framer leads same none goes =
    let forwarding_state = forwarding_state_of old.rules old.greeted old.forwardings old.asks in
    let first : held_in taken ≡ as_held old.relays.all.items (pushed bytes old.framer) old.stage forwarding_state =
    ap (λ (x : ForwarderState). forwarder_held_of x.relays taken.framer x.stage x.rules x.greeted x.forwardings x.asks) others
    ∙ ap (λ (f : FramerState). as_held old.relays.all.items f old.stage forwarding_state) framer in
    leads-last bytes old.relays.all.items old.framer old.stage forwarding_state (held_in now) new
    (subst (λ (h : Held). LeadsOn h (held_in now)) first leads)
    (subst (λ (b : Bool). GoesFurther (ReceivesNext b) (held_in now) new) none (from-same (ReceivesNext one) now middle new same goes))
