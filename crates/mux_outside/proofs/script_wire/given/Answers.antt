use Rattle.std.proofs.Common.{◌≡◌, ◌≤◌, ◌∙◌, ap, sym, ℕ, List}
use Rattle.std.specs.Prelude.{Option, unwrap_or}
use Rattle.mux_outside.specs.Script.{is_given, steps_from, from_first, turn_of, piece_of, steps_after}
use Rattle.mux_outside.specs.declared.own_streams.TheConstants.{LAST_CLIENT}
use Rattle.mux_outside.proofs.ScriptLemmas.{found_gives, given_fits, given_owns, same_steps}
use Rattle.mux_outside.proofs.script_wire.given.Goals as goal

pub give-requires : goal.give-requires
give-requires c =
    let seen = c.args.log.now.state.seen in
    let all = steps_from c.args.steps.now c.args.place in
    let found : steps_from c.args.steps.now c.find-place.result ≡ from_first (is_given seen) all =
    c.find-place.ensures ∙ same_steps c.state.result.now.seen seen c.state.ensures all in
    rw c.last.ensures.value (found_gives seen all _ found)

pub returns-in-Read-clause-turn : goal.returns-in-Read-clause-turn
returns-in-Read-clause-turn c = λ piece.
    let seen = c.args.log.now.state.seen in
    let all = steps_from c.args.steps.now c.args.place in
    let found : steps_from c.args.steps.now c.find-place.result ≡ from_first (is_given seen) all =
    c.find-place.ensures ∙ same_steps c.state.result.now.seen seen c.state.ensures all in
    let gives = c.give.ensures.turn
    ∙ ap (λ last. turn_of last (steps_from c.args.steps.now c.find-place.result)) c.last.ensures.value in
    let fills = ap (λ (b : Option (List ℕ)). unwrap_or b piece) c.give.ensures.bytes in
    given_fits seen all _ piece _ _ _ c.in-Read.is found gives fills c.requires.may.server

pub returns-in-Read-clause-own_turn : goal.returns-in-Read-clause-own_turn
returns-in-Read-clause-own_turn c =
    let seen = c.args.log.now.state.seen in
    let all = steps_from c.args.steps.now c.args.place in
    let found : steps_from c.args.steps.now c.find-place.result ≡ from_first (is_given seen) all =
    c.find-place.ensures ∙ same_steps c.state.result.now.seen seen c.state.ensures all in
    let gives = c.give.ensures.turn
    ∙ ap (λ last. turn_of last (steps_from c.args.steps.now c.find-place.result)) c.last.ensures.value in
    let least : LAST_CLIENT ≤ seen.last_own = c.last.ensures.own_above in
    given_owns seen all _ _ found gives least

pub returns-in-Read-clause-script : goal.returns-in-Read-clause-script
returns-in-Read-clause-script c = λ piece.
    let seen = c.args.log.now.state.seen in
    let all = steps_from c.args.steps.now c.args.place in
    let ahead : steps_from c.args.steps.now c.find-place.result ≡ from_first (is_given seen) all =
    c.find-place.ensures ∙ same_steps c.state.result.now.seen seen c.state.ensures all in
    rw c.in-Read.is (record {
      turn_is = c.give.ensures.turn
          ∙ ap (λ last. turn_of last (steps_from c.args.steps.now c.find-place.result)) c.last.ensures.value
          ∙ ap (turn_of seen.last) ahead;
      piece_is = ap (λ (b : Option (List ℕ)). unwrap_or b piece) c.give.ensures.bytes
          ∙ ap (λ s. piece_of s piece) ahead;
      left_are = c.give.ensures.place ∙ ap steps_after ahead;
    })
