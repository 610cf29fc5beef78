-- A request that is refused at once has its cause.
use Rattle.std.proofs.Common.{◌≡◌, ◌∙◌, refl, ap, inl, inr, ℕ, Bool, true, false, List, Option, Some, None}
use Rattle.std.specs.Prelude.{◌⊎◌, ◌||◌, nat_lt, if◌then◌else◌}
use Rattle.std.proofs.lemmas.Bool.{ltb-false}
use Rattle.mux_outside.specs.declared.house.HouseReply.TheVariants as given
use Rattle.mux_outside.specs.declared.start_ask.StartAsk.{StartAsk}
use Rattle.house_forward.specs.Asks.{turns_away}
use Rattle.house_forward.specs.Causes.{IsRequestRefused, TurnedAway, RefusedAlone, NotPermittedHere, ConnectsElsewhere, NoRoom, NoneThere, ClosesAlready, EachRefused}
use Rattle.house_forward.specs.ForwardingState.{ForwardingState}
use Rattle.house_forward.specs.Forwardings.{ComesIf, ComesUnless, comes_of_ends, opens_of, closes_of, as_first, standing, how_many, connects_same_end, forwarding_outcome_of, outcome_at, reply_to}
use Rattle.house_forward.specs.Rules.{AreEnds, is_refused_alone, is_ruled_out, is_unpermitted}
use Rattle.house_forward.specs.declared.asks.ImmediateOutcome.{ImmediateOutcome as Comes}
use Rattle.house_forward.specs.declared.asks.ImmediateOutcome.TheVariants.{Now, Later}
use Rattle.house_forward.specs.declared.asks.RequestOutcome.{RequestOutcome}
use Rattle.house_forward.specs.declared.asks.RequestOutcome.TheVariants.{Done, Port, Refused}
use Rattle.house_forward.specs.declared.forwarding.Forwarding.{Forwarding}
use Rattle.house_forward.specs.declared.forwarding.Stage.{Stage}
use Rattle.house_forward.specs.declared.forwarding.Stage.TheVariants.{ToListen, Ordered, Listening, ToRequest, Requested, Live, Cancelling}
use Rattle.house_forward.specs.declared.rules.Ends.{Ends}
use Rattle.house_forward.specs.declared.rules.TheConstants.{MOST_FORWARDINGS}

waits : (comes : Comes) (serial : ℕ) (P : Type 0) → given.Refused ≡ reply_to comes → comes ≡ Later serial → P
waits comes serial P e f = let g : given.Refused ≡ given.Later = e ∙ ap reply_to f in cc

-- none that asks again is refused
grant-if : (b : Bool) (port : ℕ) (o : RequestOutcome) (P : Type 0) → Some (if b then Port port else Done) ≡ Some o
    → given.Refused ≡ reply_to (Now o) → P
grant-if true port o P e f =
    let same : o ≡ Port port = cc in
    let g : given.Refused ≡ given.Port port = f ∙ ap (λ x. reply_to (Now x)) same in cc
grant-if false port o P e f =
    let same : o ≡ Done = cc in
    let g : given.Refused ≡ given.Done = f ∙ ap (λ x. reply_to (Now x)) same in cc

served : (s : Stage) (asked : ℕ) (o : RequestOutcome) (P : Type 0) → outcome_at s asked ≡ Some o → given.Refused ≡ reply_to (Now o) → P
served (ToListen host) asked o P e f = cc
served Ordered asked o P e f = cc
served (Listening l) asked o P e f =
    let same : o ≡ Done = cc in
    let g : given.Refused ≡ given.Done = f ∙ ap (λ x. reply_to (Now x)) same in cc
served ToRequest asked o P e f = cc
served Requested asked o P e f = cc
served (Live port) asked o P e f = grant-if _ port o P e f
served (Cancelling port) asked o P e f = grant-if _ port o P e f

again : (f : Forwarding) (o : Option RequestOutcome) (comes : Comes) (P : Type 0) → forwarding_outcome_of f ≡ o → given.Refused ≡ reply_to comes
    → comes ≡ as_first f o → P
again f None comes P is e c = waits comes f.serial P e c
again f (Some o) comes P is e c = served f.stage f.listen_port o P is (e ∙ ap reply_to c)

connects-if : (client id : ℕ) (ask : StartAsk) (d : ForwardingState) (comes : Comes) (ends : Ends) (f : Forwarding) (b : Bool)
    → given.Refused ≡ reply_to comes → AreEnds d.rules ask ends → standing ends d.all ≡ Some f → connects_same_end ends f ≡ b
    → comes ≡ (if b then as_first f (forwarding_outcome_of f) else Now Refused) → IsRequestRefused client id true ask d
connects-if client id ask d comes ends f true e are is to c =
    again f (forwarding_outcome_of f) comes (IsRequestRefused client id true ask d) refl e c
connects-if client id ask d comes ends f false e are is to c = ConnectsElsewhere ends f refl are is to

room-if : (client id : ℕ) (ask : StartAsk) (d : ForwardingState) (comes : Comes) (ends : Ends) (b : Bool)
    → given.Refused ≡ reply_to comes → AreEnds d.rules ask ends → standing ends d.all ≡ None
    → nat_lt (how_many d.all) MOST_FORWARDINGS ≡ b → comes ≡ (if b then Later d.serials else Now Refused)
    → IsRequestRefused client id true ask d
room-if client id ask d comes ends true e are is room c = waits comes d.serials (IsRequestRefused client id true ask d) e c
room-if client id ask d comes ends false e are is room c =
    NoRoom ends refl are is (ltb-false (how_many d.all) MOST_FORWARDINGS room)

opens-by : (client id : ℕ) (ask : StartAsk) (d : ForwardingState) (comes : Comes) (ends : Ends) (o : Option Forwarding)
    → given.Refused ≡ reply_to comes → AreEnds d.rules ask ends → standing ends d.all ≡ o
    → comes ≡ opens_of d.serials ends d.all o → IsRequestRefused client id true ask d
opens-by client id ask d comes ends None e are is c = room-if client id ask d comes ends _ e are is refl c
opens-by client id ask d comes ends (Some f) e are is c =
    connects-if client id ask d comes ends f (connects_same_end ends f) e are is refl c

closes-if : (client id : ℕ) (ask : StartAsk) (d : ForwardingState) (comes : Comes) (ends : Ends) (f : Forwarding) (b : Bool)
    → given.Refused ≡ reply_to comes → AreEnds d.rules ask ends → standing ends d.all ≡ Some f → f.closing ≡ b
    → comes ≡ (if b then Now Refused else Later f.serial) → IsRequestRefused client id false ask d
closes-if client id ask d comes ends f true e are is closing c = ClosesAlready ends f refl are is closing
closes-if client id ask d comes ends f false e are is closing c = waits comes f.serial (IsRequestRefused client id false ask d) e c

closes-by : (client id : ℕ) (ask : StartAsk) (d : ForwardingState) (comes : Comes) (ends : Ends) (o : Option Forwarding)
    → given.Refused ≡ reply_to comes → AreEnds d.rules ask ends → standing ends d.all ≡ o → comes ≡ closes_of o
    → IsRequestRefused client id false ask d
closes-by client id ask d comes ends None e are is c = NoneThere ends refl are is
closes-by client id ask d comes ends (Some f) e are is c = closes-if client id ask d comes ends f f.closing e are is refl c

refused-by : (opening : Bool) (client id : ℕ) (ask : StartAsk) (d : ForwardingState) (comes : Comes) (ends : Ends)
    → given.Refused ≡ reply_to comes → AreEnds d.rules ask ends → comes ≡ comes_of_ends opening d.serials ends d.all
    → IsRequestRefused client id opening ask d
refused-by true client id ask d comes ends e are c = opens-by client id ask d comes ends (standing ends d.all) e are refl c
refused-by false client id ask d comes ends e are c = closes-by client id ask d comes ends (standing ends d.all) e are refl c

either : (a b : Bool) → (a || b) ≡ true → (a ≡ true) ⊎ (b ≡ true)
either true b e = inl refl
either false b e = inr e

refused-if : (alone opening : Bool) (client id : ℕ) (ask : StartAsk) (d : ForwardingState) (comes : Comes) (new : List Forwarding)
    → is_ruled_out d.rules ask ≡ alone → given.Refused ≡ reply_to comes
    → ComesIf alone d.rules opening ask d.serials d.all new comes → IsRequestRefused client id opening ask d
refused-if true opening client id ask d comes new is e c = elim (either (is_refused_alone ask) (is_unpermitted d.rules ask) is) [
  | inl alone ↦ RefusedAlone alone
  | inr unpermitted ↦ NotPermittedHere unpermitted
]
refused-if false opening client id ask d comes new is e c = refused-by opening client id ask d comes c.0 e c.1 c.2

refused-unless : (away opening : Bool) (client id : ℕ) (ask : StartAsk) (d : ForwardingState) (comes : Comes) (new : List Forwarding)
    → turns_away client id d.waiting ≡ away → given.Refused ≡ reply_to comes
    → ComesUnless away d.rules opening ask d.serials d.all new comes → IsRequestRefused client id opening ask d
refused-unless true opening client id ask d comes new is e c = TurnedAway is
refused-unless false opening client id ask d comes new is e c =
    refused-if (is_ruled_out d.rules ask) opening client id ask d comes new refl e c

pub each-refused : EachRefused
each-refused client id opening ask old new a =
    refused-unless (turns_away client id old.waiting) opening client id ask old a.came_to new.all refl a.replies a.comes
