-- One turn of the walk over steps.
use Rattle.std.proofs.Common.{◌≡◌, ℕ, ◌+◌, ◌<◌, ◌≤◌, Bool, true, false, cond, List, [], ◌∷◌, ◌++◌, length, get_or, take, drop, Option, Some, None, refl, sym, ap, ◌∙◌, append_assoc, append-nil, add-one, is_none}
use Rattle.std.proofs.lemmas.List.{take_all}
use Rattle.std.proofs.Math.ListN.{drop_of_length-le}
use Rattle.std.proofs.Math.Seq.{take-suc}
use Rattle.conf_rules.specs.declared.usage.Usage.{Usage}
use Rattle.conf_rules.specs.declared.usage.Usage.TheVariants.{TwoModes, TwoDestinations, BadDestination}
use Rattle.conf_rules.specs.Options.{CommandMode, WordAct, Chooses, Reads, Asks, Connects, Permits, Sessions, Controls, Goes, Fails, WordStep, step}
use Rattle.conf_rules.specs.Destinations.{destination}
use Rattle.conf_rules.specs.CommandLine.{other_mode, or_mode, Walk, faulty, onto_walk, walk_from}
use Rattle.conf_command.specs.Walks.{fault_of, mode_in, mode_behind, going_behind, behind_sound}
use Rattle.conf_command.proofs.Loops.{split}

-- what a walk does at a step, by whether it is bad
abbrev at_step : Option Usage → WordStep → Walk → Walk
at_step (Some cause) s later = faulty s.word cause
at_step None s later = onto_walk s later

chosen : (mode : Option CommandMode) (m : CommandMode) → or_mode mode m ≡ mode_behind mode (Chooses m)
chosen None m = refl
chosen (Some first) m = refl

same-mode : (mode : Option CommandMode) (a : WordAct) → mode_in a ≡ None → mode ≡ mode_behind mode a
same-mode None a e = sym e
same-mode (Some first) a e = refl

by-modes : (t : Bool) (s : WordStep) (later : Walk) (cause : Usage) → cond t (faulty s.word cause) (onto_walk s later) ≡ at_step (cond t (Some cause) None) s later
by-modes true s later cause = refl
by-modes false s later cause = refl

by-going : (t u : Bool) (s : WordStep) (later : Walk) (a b : Usage) → cond t (faulty s.word a) (cond u (faulty s.word b) (onto_walk s later)) ≡ at_step (cond t (Some a) (cond u (Some b) None)) s later
by-going true u s later a b = refl
by-going false true s later a b = refl
by-going false false s later a b = refl

walk-first : (mode : Option CommandMode) (going : Bool) (w : ℕ) (a : WordAct) (ss : List WordStep)
    → walk_from mode going (step w a ∷ ss) ≡ at_step (fault_of mode going a) (step w a) (walk_from (mode_behind mode a) (going_behind going a) ss)
unfolding walk_from
walk-first mode going w (Chooses m) ss =
    by-modes (other_mode mode m) (step w (Chooses m)) (walk_from (or_mode mode m) going ss) TwoModes
    ∙ ap (λ n. at_step (fault_of mode going (Chooses m)) (step w (Chooses m)) (walk_from n going ss)) (chosen mode m)
walk-first mode going w (Reads from) ss = ap (λ n. onto_walk (step w (Reads from)) (walk_from n going ss)) (same-mode mode (Reads from) refl)
walk-first mode going w (Asks line) ss = ap (λ n. onto_walk (step w (Asks line)) (walk_from n going ss)) (same-mode mode (Asks line) refl)
walk-first mode going w (Connects transport) ss = ap (λ n. onto_walk (step w (Connects transport)) (walk_from n going ss)) (same-mode mode (Connects transport) refl)
walk-first mode going w (Sessions may) ss = ap (λ n. onto_walk (step w (Sessions may)) (walk_from n going ss)) (same-mode mode (Sessions may) refl)
walk-first mode going w (Permits list word entry) ss = ap (λ n. onto_walk (step w (Permits list word entry)) (walk_from n going ss)) (same-mode mode (Permits list word entry) refl)
walk-first mode going w (Controls control) ss = ap (λ n. onto_walk (step w (Controls control)) (walk_from n going ss)) (same-mode mode (Controls control) refl)
walk-first mode going w (Goes to) ss =
    by-going going (is_none (destination to)) (step w (Goes to)) (walk_from mode true ss) TwoDestinations BadDestination
    ∙ ap (λ n. at_step (fault_of mode going (Goes to)) (step w (Goes to)) (walk_from n true ss)) (same-mode mode (Goes to) refl)
walk-first mode going w (Fails cause) ss = refl

front-onto : (before : List WordStep) (s : WordStep) (walk : Walk) → behind_sound before (onto_walk s walk) ≡ behind_sound (before ++ s ∷ []) walk
front-onto before s walk = rw append_assoc refl

-- a step that is not bad
pub walks_on : (steps : List WordStep) (i : ℕ) (s : WordStep) (mode now : Option CommandMode) (going there : Bool) (total : Walk) → i < length steps → s ≡ get_or steps i s
    → None ≡ fault_of mode going s.act → now ≡ mode_behind mode s.act → there ≡ going_behind going s.act
    → total ≡ behind_sound (take i steps) (walk_from mode going (drop i steps)) → total ≡ behind_sound (take (i + 1) steps) (walk_from now there (drop (i + 1) steps))
walks_on steps i s mode now going there total h e sound m g so_far =
    let here : walk_from mode going (drop i steps) ≡ onto_walk s (walk_from now there (drop (i + 1) steps)) =
    ap (walk_from mode going) (split steps i s h e)
    ∙ (walk-first mode going s.word s.act (drop (i + 1) steps)
    ∙ (ap (λ f. at_step f s (walk_from (mode_behind mode s.act) (going_behind going s.act) (drop (i + 1) steps))) (sym sound)
    ∙ (ap (λ n. onto_walk s (walk_from n (going_behind going s.act) (drop (i + 1) steps))) (sym m)
    ∙ ap (λ t. onto_walk s (walk_from now t (drop (i + 1) steps))) (sym g)))) in
    let more : take (i + 1) steps ≡ take i steps ++ s ∷ [] = rw add-one (take-suc steps i s h ∙ ap (λ x. take i steps ++ x ∷ []) (sym e)) in
    so_far ∙ (ap (behind_sound (take i steps)) here ∙ (front-onto (take i steps) s _ ∙ ap (λ l. behind_sound l (walk_from now there (drop (i + 1) steps))) (sym more)))

-- a bad step
pub walk_ends : (steps : List WordStep) (i : ℕ) (s : WordStep) (mode : Option CommandMode) (going : Bool) (cause : Usage) (total : Walk) → i < length steps → s ≡ get_or steps i s
    → Some cause ≡ fault_of mode going s.act → total ≡ behind_sound (take i steps) (walk_from mode going (drop i steps))
    → record { sound = take i steps; fault = Some (record { word = s.word; cause = cause }) } ≡ total
walk_ends steps i s mode going cause total h e bad so_far =
    let here : walk_from mode going (drop i steps) ≡ faulty s.word cause =
    ap (walk_from mode going) (split steps i s h e)
    ∙ (walk-first mode going s.word s.act (drop (i + 1) steps)
    ∙ ap (λ f. at_step f s (walk_from (mode_behind mode s.act) (going_behind going s.act) (drop (i + 1) steps))) (sym bad)) in
    sym (so_far ∙ (ap (behind_sound (take i steps)) here ∙ ap (λ (l : List WordStep). let w : Walk = record { sound = l; fault = Some (record { word = s.word; cause = cause }) } in w) (append-nil (take i steps))))

-- no bad step
pub walk_done : (steps : List WordStep) (i : ℕ) (mode : Option CommandMode) (going : Bool) (total : Walk) → length steps ≤ i → total ≡ behind_sound (take i steps) (walk_from mode going (drop i steps)) → record { sound = steps; fault = None } ≡ total
unfolding walk_from
walk_done steps i mode going total h so_far =
    let end : walk_from mode going (drop i steps) ≡ record { sound = []; fault = None } = rw (drop_of_length-le steps h) refl in
    let all : take i steps ++ [] ≡ steps = append-nil (take i steps) ∙ take_all i steps h in
    sym (so_far ∙ (ap (behind_sound (take i steps)) end ∙ ap (λ (l : List WordStep). let w : Walk = record { sound = l; fault = None } in w) all))
