-- Criteria that held so far, and the commands that were run for them.
use Rattle.std.proofs.Common.{◌≡◌, ℕ, Bool, true, false, List, [], ◌∷◌, ◌++◌, Option, Some, None, Result, Ok, Err, refl, sym, ap, ◌∙◌, append_assoc, append-nil}
use Rattle.conf_rules.specs.declared.criterion.Criterion.{Criterion}
use Rattle.conf_rules.specs.declared.causes.TokenError.{TokenError}
use Rattle.conf_rules.specs.Texts.{Bytes}
use Rattle.conf_rules.specs.Tokens.{View}
use Rattle.conf_rules.specs.Evaluation.{Verdict, exec_verdict, criterion_verdict, verdict}
use Rattle.conf_match.specs.declared.evaluation.EvalError.{EvalError}
use Rattle.conf_match.specs.declared.evaluation.EvalError.TheVariants.{RunFault, Token, OutOfMemory}
use Rattle.conf_match.specs.Evaluated.{Evaluated, RanAll, RanSome, FailsOne, FailsIn, Ran}

-- ---- what was run

both_ran : (old now new : Option (List Bytes)) (a b : List Bytes) → RanAll old now a → RanAll now new b → RanAll old new (a ++ b)
both_ran None now new a b h k = k ∙ rw h refl
both_ran (Some cs) now new a b h k = k ∙ rw (h, append_assoc) refl

-- ---- verdicts

-- a verdict after commands that were run before
abbrev behind : List Bytes → Verdict → Verdict
behind commands v = record { holds = v.holds; ran = commands ++ v.ran }

with_answer : (v : Verdict) (h : Result Bool TokenError) → v.holds ≡ h → v ≡ record { holds = h; ran = v.ran }
with_answer v h e = ap (λ (x : Result Bool TokenError). let w : Verdict = record { holds = x; ran = v.ran } in w) e

on_true : (status : Bytes → ℕ) (view : View) (c : Criterion) (cs : List Criterion) → (criterion_verdict status view c).holds ≡ Ok true → verdict status view (c ∷ cs) ≡ behind (criterion_verdict status view c).ran (verdict status view cs)
unfolding verdict
on_true status view c cs e = rw (e, verdict) refl

on_false : (status : Bytes → ℕ) (view : View) (c : Criterion) (cs : List Criterion) → (criterion_verdict status view c).holds ≡ Ok false → verdict status view (c ∷ cs) ≡ record { holds = Ok false; ran = (criterion_verdict status view c).ran }
unfolding verdict
on_false status view c cs e = rw (e, verdict) (with_answer (criterion_verdict status view c) (Ok false) e)

on_error : (status : Bytes → ℕ) (view : View) (c : Criterion) (cs : List Criterion) (e : TokenError) → (criterion_verdict status view c).holds ≡ Err e → verdict status view (c ∷ cs) ≡ record { holds = Err e; ran = (criterion_verdict status view c).ran }
unfolding verdict
on_error status view c cs e h = rw (h, verdict) (with_answer (criterion_verdict status view c) (Err e) h)

-- all but the last have held, and these commands were run
pub record Held (status : Bytes → ℕ) (view : View) (all left : List Criterion) (old now : Option (List Bytes)) : Type 0 where
  pub commands : List Bytes
  pub ran : RanAll old now commands
  pub rest : verdict status view all ≡ behind commands (verdict status view left)

at_first : (status : Bytes → ℕ) (view : View) (all left : List Criterion) (commands : List Bytes) (v : Verdict) → verdict status view all ≡ behind commands (verdict status view left) → verdict status view left ≡ v → verdict status view all ≡ behind commands v
at_first status view all left commands v e h = e ∙ ap (behind commands) h

pub goes_on : (status : Bytes → ℕ) (view : View) (all left : List Criterion) (old now new : Option (List Bytes)) (c : Criterion) (rest : List Criterion) → left ≡ c ∷ rest → (criterion_verdict status view c).holds ≡ Ok true → RanAll now new (criterion_verdict status view c).ran → Held status view all left old now → Held status view all rest old new
goes_on status view all left old now new c rest e h k held = record {
  commands = held.commands ++ (criterion_verdict status view c).ran;
  ran = both_ran old now new held.commands (criterion_verdict status view c).ran held.ran k;
  rest = at_first status view all left held.commands _ held.rest (ap (verdict status view) e ∙ on_true status view c rest h)
      ∙ ap (λ (cs : List Bytes). record { holds = (verdict status view rest).holds; ran = cs }) (sym (append_assoc held.commands (criterion_verdict status view c).ran (verdict status view rest).ran));
}

-- a criterion that doesn't hold
pub fails : (status : Bytes → ℕ) (view : View) (all left : List Criterion) (old now : Option (List Bytes)) (c : Criterion) (rest : List Criterion) → left ≡ c ∷ rest → (criterion_verdict status view c).holds ≡ Ok false → Held status view all left old now → (verdict status view all).holds ≡ Ok false
fails status view all left old now c rest e h held = ap (λ (v : Verdict). v.holds) (at_first status view all left held.commands _ held.rest (ap (verdict status view) e ∙ on_false status view c rest h))

pub fails_ran : (status : Bytes → ℕ) (view : View) (all left : List Criterion) (old now new : Option (List Bytes)) (c : Criterion) (rest : List Criterion) → left ≡ c ∷ rest → (criterion_verdict status view c).holds ≡ Ok false → RanAll now new (criterion_verdict status view c).ran → Held status view all left old now → RanAll old new (verdict status view all).ran
fails_ran status view all left old now new c rest e h k held =
    let w : (verdict status view all).ran ≡ held.commands ++ (criterion_verdict status view c).ran = ap (λ (v : Verdict). v.ran) (at_first status view all left held.commands _ held.rest (ap (verdict status view) e ∙ on_false status view c rest h)) in
    rw w (both_ran old now new held.commands (criterion_verdict status view c).ran held.ran k)

pub holds_all : (status : Bytes → ℕ) (view : View) (all left : List Criterion) (old now : Option (List Bytes)) → left ≡ [] → Held status view all left old now → (verdict status view all).holds ≡ Ok true
unfolding verdict
holds_all status view all left old now e held = ap (λ (v : Verdict). v.holds) (at_first status view all left held.commands _ held.rest (ap (verdict status view) e))

pub holds_all_ran : (status : Bytes → ℕ) (view : View) (all left : List Criterion) (old now : Option (List Bytes)) → left ≡ [] → Held status view all left old now → RanAll old now (verdict status view all).ran
unfolding verdict
holds_all_ran status view all left old now e held =
    let w : (verdict status view all).ran ≡ held.commands ++ [] = ap (λ (v : Verdict). v.ran) (at_first status view all left held.commands _ held.rest (ap (verdict status view) e)) in
    rw (w, append-nil) held.ran

-- ---- a criterion without an answer

pub refused : (status : Bytes → ℕ) (view : View) (all left : List Criterion) (old now : Option (List Bytes)) (c : Criterion) (rest : List Criterion) (e : EvalError) → left ≡ c ∷ rest → Evaluated (Err e) (criterion_verdict status view c).holds → Held status view all left old now → Evaluated (Err e) (verdict status view all).holds
refused status view all left old now c rest RunFault l h held = tt
refused status view all left old now c rest OutOfMemory l h held = tt
refused status view all left old now c rest (Token e) l h held = ap (λ (v : Verdict). v.holds) (at_first status view all left held.commands _ held.rest (ap (verdict status view) l ∙ on_error status view c rest e h))

-- what a first criterion runs is run first
first_of : (status : Bytes → ℕ) (view : View) (c : Criterion) (cs : List Criterion) (r : Result Bool TokenError) → (criterion_verdict status view c).holds ≡ r → (more : List Bytes) × ((verdict status view (c ∷ cs)).ran ≡ (criterion_verdict status view c).ran ++ more)
first_of status view c cs (Ok true) e = ((verdict status view cs).ran, ap (λ (v : Verdict). v.ran) (on_true status view c cs e))
first_of status view c cs (Ok false) e = ([], ap (λ (v : Verdict). v.ran) (on_false status view c cs e) ∙ sym (append-nil (criterion_verdict status view c).ran))
first_of status view c cs (Err x) e = ([], ap (λ (v : Verdict). v.ran) (on_error status view c cs x e) ∙ sym (append-nil (criterion_verdict status view c).ran))

some_ran : (status : Bytes → ℕ) (view : View) (all left : List Criterion) (old now new : Option (List Bytes)) (c : Criterion) (rest : List Criterion) → left ≡ c ∷ rest → RanSome now new (criterion_verdict status view c).ran → Held status view all left old now → RanSome old new (verdict status view all).ran
some_ran status view all left old now new c rest l k held =
    let more = first_of status view c rest (criterion_verdict status view c).holds refl in
    let here : (verdict status view left).ran ≡ k.done ++ (k.others ++ more.0) = ap (λ cs. (verdict status view cs).ran) l ∙ more.1 ∙ ap (λ cs. cs ++ more.0) k.parts ∙ append_assoc k.done k.others more.0 in
    record {
      done = held.commands ++ k.done;
      others = k.others ++ more.0;
      parts = ap (λ (v : Verdict). v.ran) held.rest ∙ ap (λ cs. held.commands ++ cs) here ∙ sym (append_assoc held.commands k.done (k.others ++ more.0));
      ran = both_ran old now new held.commands k.done held.ran k.ran;
    }

pub refused_ran : (status : Bytes → ℕ) (view : View) (all left : List Criterion) (old now new : Option (List Bytes)) (c : Criterion) (rest : List Criterion) (e : EvalError) → left ≡ c ∷ rest → Evaluated (Err e) (criterion_verdict status view c).holds → Ran (Err e) now new (criterion_verdict status view c).ran → Held status view all left old now → Ran (Err e) old new (verdict status view all).ran
refused_ran status view all left old now new c rest RunFault l h k held = some_ran status view all left old now new c rest l k held
refused_ran status view all left old now new c rest OutOfMemory l h k held = some_ran status view all left old now new c rest l k held
refused_ran status view all left old now new c rest (Token e) l h k held =
    let w : (verdict status view all).ran ≡ held.commands ++ (criterion_verdict status view c).ran = ap (λ (v : Verdict). v.ran) (at_first status view all left held.commands _ held.rest (ap (verdict status view) l ∙ on_error status view c rest e h)) in
    rw w (both_ran old now new held.commands (criterion_verdict status view c).ran held.ran k)

-- ---- a command that could not be run

-- the command of an exec is the one that failed
pub exec_failed : (status : Bytes → ℕ) (given : Result Bytes TokenError) (command : Bytes) (old new : Option (List Bytes)) → given ≡ Ok command → RanAll old new [] → FailsOne old new (exec_verdict status given).ran
exec_failed status given command old new e k = record { done = []; failed = command; others = []; parts = rw e refl; ran = k }

-- a command that failed, said of any answer
pub failed_in : (result : Result Bool EvalError) (old new : Option (List Bytes)) (commands : List Bytes) → FailsOne old new commands → FailsIn result old new commands
failed_in (Ok b) old new commands k = tt
failed_in (Err RunFault) old new commands k = k
failed_in (Err OutOfMemory) old new commands k = tt
failed_in (Err (Token e)) old new commands k = tt

one_failed : (status : Bytes → ℕ) (view : View) (all left : List Criterion) (old now new : Option (List Bytes)) (c : Criterion) (rest : List Criterion) → left ≡ c ∷ rest → FailsOne now new (criterion_verdict status view c).ran → Held status view all left old now → FailsOne old new (verdict status view all).ran
one_failed status view all left old now new c rest l k held =
    let more = first_of status view c rest (criterion_verdict status view c).holds refl in
    let here : (verdict status view left).ran ≡ k.done ++ (k.failed ∷ k.others ++ more.0) = ap (λ cs. (verdict status view cs).ran) l ∙ more.1 ∙ ap (λ cs. cs ++ more.0) k.parts ∙ append_assoc k.done (k.failed ∷ k.others) more.0 in
    record {
      done = held.commands ++ k.done;
      failed = k.failed;
      others = k.others ++ more.0;
      parts = ap (λ (v : Verdict). v.ran) held.rest ∙ ap (λ cs. held.commands ++ cs) here ∙ sym (append_assoc held.commands k.done (k.failed ∷ k.others ++ more.0));
      ran = both_ran old now new held.commands k.done held.ran k.ran;
    }

pub refused_failed : (status : Bytes → ℕ) (view : View) (all left : List Criterion) (old now new : Option (List Bytes)) (c : Criterion) (rest : List Criterion) (e : EvalError) → left ≡ c ∷ rest → FailsIn (Err e) now new (criterion_verdict status view c).ran → Held status view all left old now → FailsIn (Err e) old new (verdict status view all).ran
refused_failed status view all left old now new c rest RunFault l k held = one_failed status view all left old now new c rest l k held
refused_failed status view all left old now new c rest OutOfMemory l k held = tt
refused_failed status view all left old now new c rest (Token e) l k held = tt
