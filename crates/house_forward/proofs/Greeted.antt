-- The forwarder greeted first, whatever its calls were.
use Rattle.std.proofs.Common.{◌≡◌, ◌∙◌, refl, sym, ap, subst, ℕ, Bool, true, false, List, [], ◌∷◌, ◌++◌, Option, Some, None}
use Rattle.std.proofs.Common.{append-nil, append_assoc}
use Rattle.mux_outside.specs.Greeting.{GreetsFirst}
use Rattle.mux_outside.specs.House.{order_marks, ordered_marks}
use Rattle.mux_outside.specs.HouseCalls.{HouseCall, calls_of}
use Rattle.mux_outside.specs.HouseCalls.{Begins, Marks, Receives, Turns, Takes}
use Rattle.mux_outside.specs.declared.greeting.TheConstants.{GREETING}
use Rattle.mux_outside.specs.declared.house_mark.HouseMark.TheVariants.{HouseIn, HouseSaid, HouseTook, HouseAsked, HouseAnswer, HouseOrder}
use Rattle.mux_outside.specs.declared.order.Order.{Order}
use Rattle.mux_outside.specs.declared.order.Order.TheVariants as order
use Rattle.house_forward.specs.Greeting.{sent_in, sent_on}
use Rattle.house_forward.specs.State.{HasGreeted}

pub greets-first : (greeted : Bool) (calls : List HouseCall) → HasGreeted greeted (sent_in calls) → GreetsFirst calls
greets-first greeted [] h = tt
greets-first greeted (Begins starts ∷ calls) h = greets-first greeted calls h
greets-first greeted (Marks HouseIn ∷ calls) h = greets-first greeted calls h
greets-first true (Marks (HouseSaid bytes) ∷ calls) h = h
greets-first false (Marks (HouseSaid bytes) ∷ calls) h = cc
greets-first greeted (Marks (HouseTook size) ∷ calls) h = greets-first greeted calls h
greets-first greeted (Marks (HouseAsked client id opening ask reply) ∷ calls) h = greets-first greeted calls h
greets-first greeted (Marks (HouseAnswer client id reply) ∷ calls) h = greets-first greeted calls h
greets-first greeted (Marks (HouseOrder o number) ∷ calls) h = greets-first greeted calls h
greets-first greeted (Receives bytes ∷ calls) h = greets-first greeted calls h
greets-first greeted (Turns happening ∷ calls) h = greets-first greeted calls h
greets-first greeted (Takes t bytes ∷ calls) h = greets-first greeted calls h

said-more : (calls more : List HouseCall) → sent_in (calls ++ more) ≡ sent_in calls ++ sent_in more
said-more [] more = refl
said-more (call ∷ calls) more =
    ap (λ (s : List (List ℕ)). sent_on call ++ s) (said-more calls more) ∙ sym (append_assoc (sent_on call) (sent_in calls) (sent_in more))

-- nothing more is sent
pub greeted-on : (old new : Bool) (calls more : List HouseCall) → new ≡ old → sent_in more ≡ [] → HasGreeted old (sent_in calls)
    → HasGreeted new (sent_in (calls ++ more))
greeted-on old new calls more same none h =
    subst (λ (b : Bool). HasGreeted b (sent_in (calls ++ more))) (sym same)
    (subst (HasGreeted old) (sym (said-more calls more ∙ ap (λ (s : List (List ℕ)). sent_in calls ++ s) none ∙ append-nil (sent_in calls))) h)

says-first : (greeted : Bool) (said : List (List ℕ)) (bytes : List ℕ) → (greeted ≡ false → bytes ≡ GREETING.now) → HasGreeted greeted said
    → HasGreeted true (said ++ bytes ∷ [])
says-first false [] bytes first h = first refl
says-first false (one ∷ said) bytes first h = cc
says-first true [] bytes first h = absurd h
says-first true (one ∷ said) bytes first h = h

-- this is sent
pub greeted-said : (old new : Bool) (calls : List HouseCall) (bytes : List ℕ) → new ≡ true → (old ≡ false → bytes ≡ GREETING.now)
    → HasGreeted old (sent_in calls) → HasGreeted new (sent_in (calls ++ Marks (HouseSaid bytes) ∷ []))
greeted-said old new calls bytes so first h =
    subst (λ (b : Bool). HasGreeted b (sent_in (calls ++ Marks (HouseSaid bytes) ∷ []))) (sym so)
    (subst (HasGreeted true) (sym (said-more calls (Marks (HouseSaid bytes) ∷ []))) (says-first old (sent_in calls) bytes first h))

-- orders send nothing
pub given-silent : (o : Option Order) → sent_in (calls_of (order_marks o)) ≡ []
given-silent None = refl
given-silent (Some (order.Listen host port)) = refl
given-silent (Some (order.Connect host port)) = refl
given-silent (Some (order.Unlisten l)) = refl
given-silent (Some (order.Pause t)) = refl
given-silent (Some (order.Resume t)) = refl
given-silent (Some (order.Finish t)) = refl
given-silent (Some (order.Close t)) = refl

pub made-silent : (o : Option Order) (number : Option ℕ) → sent_in (calls_of (ordered_marks o number)) ≡ []
made-silent None number = refl
made-silent (Some given) number = refl
