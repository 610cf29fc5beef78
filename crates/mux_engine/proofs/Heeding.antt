-- The requests of an event are noted one by one, right after it.
use Rattle.std.proofs.Common.{◌≡◌, ◌<◌, ◌+◌, ℕ, List, [], ◌∷◌, ◌++◌, length, take, get_or, Option, Some, None, refl, sym, ap, ◌∙◌, subst, inl, inr, append_assoc, append-nil}
use Rattle.std.specs.Prelude.{map, Result, Ok, Err, IsErr}
use Rattle.std.specs.Option.{option_map}
use Rattle.std.proofs.lemmas.List.{map-append, take_more}
use Rattle.mux_outside.specs.House.{HouseState, Known}
use Rattle.mux_outside.specs.Seen.{Seen}
use Rattle.mux_outside.specs.declared.house.HouseReply.{HouseReply}
use Rattle.mux_outside.specs.declared.house_mark.HouseMark.{HouseMark}
use Rattle.mux_outside.specs.declared.mark.Mark.{Mark}
use Rattle.mux_outside.specs.declared.mark.Mark.TheVariants.{House}
use Rattle.mux_outside.specs.HouseCalls.{HandsOn, calls_of}
use Rattle.mux_peers.specs.Asked.{Applies, RecordsAsks, known_after}
use Rattle.mux_state.specs.declared.event.Event.{Event}
use Rattle.mux_state.specs.Events.{EndsBy, EngineKeeps, MarkRecords}
use Rattle.mux_state.specs.Stands.{GoesOn}
use Rattle.mux_state.specs.State.{EngineState}
use Rattle.mux_engine.specs.Asking.{Applied, AppliesSo}
use Rattle.mux_engine.specs.Sides.{SameStreamsSeen}
use Rattle.mux_engine.proofs.HouseCalls.{streams-same}
use Rattle.mux_engine.proofs.Lists.{true-false}
use Rattle.mux_engine.proofs.Noted.{seen-with}

with-streams : (n : ℕ) (asks : List HouseMark) (seen seen' : Seen) → seen' ≡ seen-with (take n asks) seen → SameStreamsSeen seen seen'
with-streams n asks seen seen' e = subst (SameStreamsSeen seen) (sym e) record { places = record { streams = refl; listeners = refl; own = refl; last_own = refl; silence = λ l. l }; blocked = refl }

-- ---- so many are noted

one-more : (m : HouseMark) (ms : List HouseMark) (recorded : Option (List Mark)) → option_map (λ (l : List Mark). l ++ House m ∷ []) (option_map (λ (l : List Mark). l ++ map (λ (a : HouseMark). House a) ms) recorded) ≡ option_map (λ (l : List Mark). l ++ map (λ (a : HouseMark). House a) (ms ++ m ∷ [])) recorded
one-more m ms None = refl
one-more m ms (Some l) = ap (λ (x : List Mark). Some x) (append_assoc l (map (λ (a : HouseMark). House a) ms) (House m ∷ []) ∙ ap (λ (x : List Mark). l ++ x) (sym (map-append (λ (a : HouseMark). House a) ms (m ∷ []))))

-- the next
pub noted-next : (asks : List HouseMark) (i : ℕ) (m : HouseMark) (seen mid seen' : Seen) → i < length asks → m ≡ get_or asks i m → mid ≡ seen-with (take i asks) seen → seen' ≡ record mid { recorded = option_map (λ (l : List Mark). l ++ House m ∷ []) mid.recorded } → seen' ≡ seen-with (take (i + 1) asks) seen
noted-next asks i m seen mid seen' less is so next =
    next ∙ (ap (λ (x : Seen). record x { recorded = option_map (λ (l : List Mark). l ++ House m ∷ []) x.recorded }) so
    ∙ (ap (λ (recorded : Option (List Mark)). record seen { recorded = recorded }) (one-more m (take i asks) seen.recorded)
    ∙ ap (λ (l : List HouseMark). seen-with l seen) (ap (λ (a : HouseMark). take i asks ++ a ∷ []) is ∙ sym (take_more asks i m less))))

-- ---- the engine applied the event

-- what was asked is all that is noted, where nothing was before
all-asked : {A E : Type 0} {x : A} (none asks : List HouseMark) (old new : HouseState) → none ≡ [] → (h : Applies {A = A} {E = E} (Ok x) none asks old new) → asks ≡ h.more
all-asked none asks old new empty h = h.noted ∙ ap (λ (l : List HouseMark). l ++ h.more) empty

pub applies-so : {A E : Type 0} {x : A} {May : HouseReply → Type 0} (e : Event) (s s' : EngineState) (none asks : List HouseMark) (old new : HouseState) (seen seen' : Seen) (n : ℕ) → none ≡ [] → ((mark : Mark) → MarkRecords e mark → GoesOn May (Some none) (Some asks) s s' mark) → Applies {A = A} {E = E} (Ok x) none asks old new
    → EngineKeeps e s s' → ((mark : Mark) → MarkRecords e mark → EndsBy e s s' mark) → seen' ≡ seen-with (take n asks) seen → AppliesSo May e s s' asks old.recorded new.recorded old.known new.known seen seen' n
applies-so {May = May} e s s' none asks old new seen seen' n empty goes applies keeps ends is =
    let same : asks ≡ applies.more = all-asked none asks old new empty applies in
    record {
      goes = subst (λ (l : List HouseMark). (mark : Mark) → MarkRecords e mark → GoesOn May (Some l) (Some asks) s s' mark) empty goes;
      keeps = keeps;
      ends = ends;
      recorded_is = subst (RecordsAsks old.recorded new.recorded) (ap (λ (l : List HouseMark). applies.more ++ l) applies.all_noted ∙ (append-nil applies.more ∙ sym same)) applies.recorded;
      known_is = applies.known ∙ ap (λ (l : List HouseMark). known_after l old.known) (sym same);
      seen_is = is;
    }

-- there was no memory to note all of them
pub applied-some : {A E : Type 0} (r : Result A E) {May : HouseReply → Type 0} (e : Event) (s s' : EngineState) (asks : List HouseMark) (recorded recorded' : Option (List HouseMark)) (known known' : Known) (seen seen' : Seen) (n : ℕ) → IsErr r → AppliesSo May e s s' asks recorded recorded' known known' seen seen' n → Applied r May e s s' asks recorded recorded' known known' seen seen'
applied-some (Ok x) e s s' asks recorded recorded' known known' seen seen' n h so = true-false (sym h)
applied-some (Err x) e s s' asks recorded recorded' known known' seen seen' n h so = inr (n, so)

-- the forwarder represents all requests, where none was there before
pub hands-so : {A E : Type 0} {x : A} (none asks : List HouseMark) (old new : HouseState) → none ≡ [] → Applies {A = A} {E = E} (Ok x) none asks old new → HandsOn old.stands new.stands (calls_of asks)
hands-so none asks old new empty h = subst (λ (l : List HouseMark). HandsOn old.stands new.stands (calls_of l)) (sym (all-asked none asks old new empty h)) h.stands

-- the streams stay
pub applied-streams : {A E : Type 0} (r : Result A E) (May : HouseReply → Type 0) (e : Event) (s s' : EngineState) (asks : List HouseMark) (recorded recorded' : Option (List HouseMark)) (known known' : Known) (seen seen' : Seen) → Applied r May e s s' asks recorded recorded' known known' seen seen' → SameStreamsSeen seen seen'
applied-streams (Ok x) May e s s' asks recorded recorded' known known' seen seen' h = with-streams (length asks) asks seen seen' h.seen_is
applied-streams (Err x) May e s s' asks recorded recorded' known known' seen seen' (inl u) = streams-same seen seen' u.seen_is
applied-streams (Err x) May e s s' asks recorded recorded' known known' seen seen' (inr p) = let h = p.1 in with-streams p.0 asks seen seen' h.seen_is
