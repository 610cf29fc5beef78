-- How the state of the forwarder goes on.
use Rattle.std.proofs.Common.{◌≡◌, ◌∙◌, sym, ℕ, Bool, true, false, List, [], ◌∷◌, None}
use Rattle.std.specs.Prelude.{IfOk, Result, Ok, Err}
use Rattle.std.proofs.lemmas.Bool.{false≢true}
use Rattle.mux_outside.specs.HouseCalls.{HouseCall, HandsOn}
use Rattle.house_forward.specs.Greeting.{sent_in}
use Rattle.house_forward.specs.RelayTraces.{GoesFurther, Follows, RelaySendsIn, accepted_length_in}
use Rattle.house_forward.specs.State.{held_in, HasSent, StandsIn}
use Rattle.house_forward.specs.declared.forwarder_state.ForwarderState.{ForwarderState}
use Rattle.house_forward.proofs.Calling.{since-on}
use Rattle.house_forward.proofs.Greeted.{greeted-on}

-- a call in which nothing is sent and nothing is accepted
pub hands-on : (call : HouseCall) (old new : ForwarderState) → old.ordering ≡ None → new.ordering ≡ None → accepted_length_in (call ∷ []) ≡ 0
    → sent_in (call ∷ []) ≡ [] → new.greeted ≡ old.greeted → GoesFurther (Follows call) (held_in old) (held_in new)
    → HandsOn (StandsIn old) (StandsIn new) (call ∷ [])
hands-on call old new e f none silent same goes = λ calls h. record {
  since = since-on old.ordering new.ordering calls call (held_in old) (held_in new) e f none goes h.since;
  greeting = greeted-on old.greeted new.greeted calls (call ∷ []) same silent h.greeting;
}

-- where something is sent, it was greeted before
pub says-so : {E : Type 0} (r : Result Bool E) (bytes : List ℕ) (old new : ForwarderState) → old.greeted ≡ true → new.greeted ≡ old.greeted
    → IfOk r (λ said. said ≡ true → GoesFurther (RelaySendsIn bytes) (held_in old) (held_in new))
    → IfOk r (λ said. said ≡ true → HasSent bytes old new)
says-so (Ok said) bytes old new so same h = λ is. record {
  goes = h is;
  greeted = same ∙ so;
  first = λ no. absurd (false≢true (sym no ∙ so));
}
says-so (Err e) bytes old new so same h = tt
