-- The steps of a script: those that are skipped, and the turn of the first that isn't.
use Rattle.std.proofs.Common.{◌≡◌, ◌∙◌, refl, sym, ap, subst, arith, ℕ, ◌+◌, ◌<◌, Bool, true, false, if◌then◌else◌, List, [], ◌∷◌, length, drop, get_or, IsTrue, not, ◌&&◌, ◌==◌, ◌≤◌, ◌-◌, min, take, lit<, length-take}
use Rattle.std.specs.Prelude.{nat_lt}
use Rattle.std.proofs.lemmas.Grind.{common_steps}
use Rattle.std.proofs.lemmas.List.{drop_more, drop_min, drop-drop, take_rest}
use Rattle.mux_outside.specs.OwnStreams.{is_own, is_silent}
use Rattle.mux_outside.specs.Script.{is_given, cut_step, cut_first, from_first, FirstGives, turn_of, piece_of}
use Rattle.mux_outside.specs.Seen.{Seen, without_record}
use Rattle.mux_outside.specs.Streams.{among}
use Rattle.mux_outside.specs.Wire.{TurnFits, OwnFits, IsNewOwn}
use Rattle.mux_outside.specs.declared.own_streams.OwnStream.{OwnStream}
use Rattle.mux_outside.specs.declared.own_streams.TheConstants.{LAST_CLIENT, LAST_OWN}
use Rattle.mux_outside.specs.declared.piece.TheConstants.{LONGEST_PIECE}
use Rattle.mux_outside.specs.declared.script.Step.{Step}
use Rattle.mux_outside.specs.declared.script.Step.TheVariants.{Accept, Bytes, End, Fail, Writable, Join}
use Rattle.mux_outside.specs.declared.turn.Turn.{Turn}
use Rattle.mux_outside.specs.declared.turn.Turn.TheVariants.{Joined}
use Rattle.mux_outside.specs.declared.turn.Want.{Want}
use Rattle.mux_outside.specs.declared.turn.Want.TheVariants.{Read}

-- the first step passes the test
abbrev pub FirstPasses : (Step → Bool) → List Step → Type 0
FirstPasses test [] = Unit {0}
FirstPasses test (step ∷ steps) = test step ≡ true

-- the steps from the first one that passes begin with one that passes
pub first_passes : (test : Step → Bool) (steps : List Step)
    → FirstPasses test (from_first test steps)
first_passes test [] = tt
first_passes test (step ∷ steps) = by_case (test step) refl (first_passes test steps)
  where
    by_case : (b : Bool) → test step ≡ b → FirstPasses test (from_first test steps)
        → FirstPasses test (if b then step ∷ steps else from_first test steps)
    by_case true e later = e
    by_case false e later = later

-- a step of which nothing was given is the step
pub cut_first-zero : (steps : List Step) → cut_first 0 steps ≡ steps
cut_first-zero [] = refl
cut_first-zero (Accept ∷ steps) = refl
cut_first-zero (Bytes t text ∷ steps) = refl
cut_first-zero (End t ∷ steps) = refl
cut_first-zero (Fail t ∷ steps) = refl
cut_first-zero (Writable t ∷ steps) = refl
cut_first-zero (Join l t ∷ steps) = refl

-- a step that fails the test is passed over
pub over_one : (test : Step → Bool) (step : Step) (steps : List Step) → test step ≡ false
    → from_first test (step ∷ steps) ≡ from_first test steps
over_one test step steps e = ap (λ b. if b then step ∷ steps else from_first test steps) e

-- the same at a place in a list of which the first step has given some bytes
pub over_place : (test : Step → Bool) (steps : List Step) (i offset : ℕ) (step : Step)
    → i < length steps → step ≡ get_or steps i step → test (cut_step offset step) ≡ false
    → from_first test (cut_first 0 (drop (i + 1) steps)) ≡ from_first test (cut_first offset (drop i steps))
over_place test steps i offset step l at e =
    ap (from_first test) (cut_first-zero (drop (i + 1) steps))
    ∙ sym (over_one test (cut_step offset step) (drop (i + 1) steps) e)
    ∙ ap (λ s. from_first test (cut_step offset s ∷ drop (i + 1) steps)) at
    ∙ sym (ap (λ s. from_first test (cut_first offset s)) (drop_more steps i step l))

-- both parts of what passes
pub both : (a b : Bool) → (a && b) ≡ true → IsTrue a × IsTrue b
both true b e = (refl, e)
both false b e = (e, cc)

-- what isn't so
pub isn't : (b : Bool) → IsTrue (not b) → b ≡ false
isn't true e = cc
isn't false e = refl

-- a step that isn't skipped can be given
pub gives_first : (seen : Seen) (steps : List Step) → FirstPasses (is_given seen) steps
    → FirstGives seen.last steps
gives_first seen [] p = tt
gives_first seen (Accept ∷ steps) p = let parts = both seen.listens _ p in grind (arith, common_steps)
gives_first seen (Bytes t text ∷ steps) p = tt
gives_first seen (End t ∷ steps) p = tt
gives_first seen (Fail t ∷ steps) p = tt
gives_first seen (Writable t ∷ steps) p = tt
gives_first seen (Join l t ∷ steps) p = tt

-- a piece of bytes that aren't none isn't empty, and is short enough
pub piece_fits : (n : ℕ) (text : List ℕ) → 0 < n → IsTrue (not (length text == 0))
    → (0 < length (take n text)) × (length (take n text) ≤ n)
piece_fits n text l some = grind (arith, length-take)

-- its turn is one that a wire may give
pub first_fits : (seen : Seen) (steps : List Step)
    (piece : List ℕ) → IsTrue (among 0 seen.streams) → FirstPasses (is_given seen) steps
    → TurnFits (turn_of seen.last steps) Read seen (piece_of steps piece)
first_fits seen [] piece server p = (refl, server)
first_fits seen (Accept ∷ steps) piece server p =
    let parts = both seen.listens _ p in (refl, parts.0, refl, gives_first seen (Accept ∷ steps) p)
first_fits seen (Bytes t text ∷ steps) piece server p =
    let parts = both (among t seen.streams) _ p in
    let more = both (not (is_silent t seen.own)) _ parts.1 in
    let bounds = piece_fits LONGEST_PIECE text (lit< tt) more.1 in
    (refl, parts.0, bounds.0, bounds.1)
first_fits seen (End t ∷ steps) piece server p = (refl, (both (among t seen.streams) _ p).0)
first_fits seen (Fail t ∷ steps) piece server p = p
first_fits seen (Writable t ∷ steps) piece server p = both _ _ p
first_fits seen (Join l t ∷ steps) piece server p = refl

-- a number above the last one of the master's own is one of the master's own
pub new_own : (last n : ℕ) → LAST_CLIENT ≤ last → IsTrue (nat_lt last n) → IsTrue (not (nat_lt LAST_OWN n))
    → IsNewOwn last n
new_own last n least above most =
    record {
      own = grind (arith, common_steps);
      above = grind (arith, common_steps);
      at_most = grind (arith, common_steps);
    }

-- its turn is one that a wire may give of the master's own
pub first_owns : (seen : Seen) (steps : List Step) → LAST_CLIENT ≤ seen.last_own
    → FirstPasses (is_given seen) steps
    → OwnFits (turn_of seen.last steps) seen
first_owns seen [] least p = λ e. cc
first_owns seen (Accept ∷ steps) least p = tt
first_owns seen (Bytes t text ∷ steps) least p = λ e.
    let parts = both (among t seen.streams) _ p in
    isn't _ (both (not (is_silent t seen.own)) _ parts.1).0
first_owns seen (End t ∷ steps) least p = λ e. isn't _ (both (among t seen.streams) _ p).1
first_owns seen (Fail t ∷ steps) least p = tt
first_owns seen (Writable t ∷ steps) least p = tt
first_owns seen (Join l t ∷ steps) least p =
    let parts = both (among l seen.listeners) _ p in
    let more = both (nat_lt seen.last_own t) _ parts.1 in
    (parts.0, new_own seen.last_own t least more.0 more.1)

-- the turn at a place that was found is one of the master's own
pub given_owns : (seen : Seen) (all steps : List Step) (turn : Turn)
    → steps ≡ from_first (is_given seen) all → turn ≡ turn_of seen.last steps → LAST_CLIENT ≤ seen.last_own
    → OwnFits turn seen
given_owns seen all steps turn found gives least =
    rw (gives, found) (first_owns seen _ least (first_passes _ all))

-- the turn at a place that was found
pub given_fits : (seen : Seen) (all steps : List Step)
    (piece piece' : List ℕ) (turn : Turn) (want : Want) → want ≡ Read
    → steps ≡ from_first (is_given seen) all
    → turn ≡ turn_of seen.last steps → piece' ≡ piece_of steps piece → IsTrue (among 0 seen.streams)
    → TurnFits turn want seen piece'
given_fits seen all steps piece piece' turn want reads found gives fills server =
    rw (reads, gives, fills, found)
    (first_fits seen _ piece server (first_passes _ all))

-- a place that was found can be given
pub found_gives : (seen : Seen) (all steps : List Step)
    → steps ≡ from_first (is_given seen) all → FirstGives seen.last steps
found_gives seen all steps found =
    rw found (gives_first seen _ (first_passes _ all))

-- what is left of a text after a piece
pub behind_piece : (n offset start count : ℕ) (text : List ℕ) → start ≡ min offset (length text)
    → count ≡ min n (length (take (length text - start) (drop start text)))
    → drop (start + count) text ≡ drop n (drop offset text)
behind_piece n offset start count text at many =
    let cut : drop start text ≡ drop offset text =
    ap (λ i. drop i text) at ∙ drop_min offset text in
    let all : take (length text - start) (drop start text) ≡ drop start text =
    take_rest text start in
    sym (drop-drop count start text)
    ∙ ap (λ i. drop i (drop start text)) (many ∙ ap (λ xs. min n (length xs)) all)
    ∙ drop_min n (drop start text)
    ∙ ap (drop n) cut

-- a new number of the master's own is above those of the clients
pub own_above : (last n : ℕ) → IsNewOwn last n → LAST_CLIENT ≤ n
own_above last n new =
    let own : IsTrue (nat_lt LAST_CLIENT n) = new.own in
    grind (arith, common_steps)

-- whether a step is skipped doesn't hang on what is recorded
pub given_untold : (seen : Seen) (step : Step) → is_given (without_record seen) step ≡ is_given seen step
given_untold seen Accept = refl
given_untold seen (Bytes t text) = refl
given_untold seen (End t) = refl
given_untold seen (Fail t) = refl
given_untold seen (Writable t) = refl
given_untold seen (Join l t) = refl

-- nor do the steps from the first one that isn't skipped
pub same_steps : (a b : Seen) → without_record a ≡ without_record b → (steps : List Step)
    → from_first (is_given a) steps ≡ from_first (is_given b) steps
same_steps a b e [] = refl
same_steps a b e (step ∷ steps) =
    let given : is_given a step ≡ is_given b step =
    sym (given_untold a step) ∙ ap (λ s. is_given s step) e ∙ given_untold b step in
    ap (λ g. if g then step ∷ steps else from_first (is_given a) steps) given
    ∙ ap (λ later. if is_given b step then step ∷ steps else later) (same_steps a b e steps)
