-- Where a command's fault comes from.
use Rattle.std.proofs.Common.{◌≡◌, ℕ, Option, Err, refl, subst}
use Rattle.conf_rules.specs.declared.causes.Cause.TheVariants as causes
use Rattle.conf_rules.specs.declared.causes.ResolveError.{ResolveError}
use Rattle.conf_rules.specs.declared.causes.ResolveError.TheVariants as errors
use Rattle.conf_reader.specs.declared.line.ConfLine.{ConfLine}
use Rattle.conf_reader.specs.Results.{HasFilesCause}
use Rattle.conf_fold.specs.Results.{HasRunCause}
use Rattle.conf_resolve.specs.Causes.{HasCauses}

line-causes : (e : ResolveError) (files before now : ℕ) → HasRunCause {A = Unit {0}} (Err e) before now → HasCauses {A = Unit {0}} (Err e) files files before now
line-causes errors.OutOfMemory files before now h = (refl, h)
line-causes (errors.At file line causes.RunFault) files before now h = (refl, h)
line-causes (errors.At file line causes.ReadFault) files before now h = absurd h
line-causes (errors.At file line cause) files before now h = (refl, h)

-- where the counts stand as they did before
pub run-causes : (e : ResolveError) (files mid before later now : ℕ) → mid ≡ files → later ≡ before → HasRunCause {A = Unit {0}} (Err e) later now → HasCauses {A = Unit {0}} (Err e) files mid before now
run-causes e files mid before later now f r h = subst (λ n. HasCauses {A = Unit {0}} (Err e) n mid before now) f (subst (λ n. HasCauses {A = Unit {0}} (Err e) mid mid n now) r (line-causes e mid later now h))

reader-causes : (e : ResolveError) (before now runner : ℕ) → HasFilesCause {A = Option ConfLine} (Err e) before now → HasCauses {A = Unit {0}} (Err e) before now runner runner
reader-causes errors.OutOfMemory before now runner h = (h, refl)
reader-causes (errors.At file line causes.RunFault) before now runner h = absurd (let k : causes.RunFault ≡ causes.ReadFault = h.0 in cc)
reader-causes (errors.At file line causes.ReadFault) before now runner h = (h.1, refl)
reader-causes (errors.At file line cause) before now runner h = (h, refl)

-- the same of a reader's
pub read-causes : (e : ResolveError) (files mid now runner later : ℕ) → mid ≡ files → later ≡ runner → HasFilesCause {A = Option ConfLine} (Err e) mid now → HasCauses {A = Unit {0}} (Err e) files now runner later
read-causes e files mid now runner later f r h = subst (λ n. HasCauses {A = Unit {0}} (Err e) n now runner later) f (subst (λ n. HasCauses {A = Unit {0}} (Err e) mid now n later) r (reader-causes e mid now later h))
