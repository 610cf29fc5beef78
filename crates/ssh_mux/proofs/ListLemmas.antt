-- A listing that was found and handed over.
use Rattle.std.proofs.Common.{◌≡◌, ◌⊎◌, inl, inr, ℕ, true, List, Option, Result, Ok, Err, refl, sym, subst}
use Rattle.conf_rules.specs.declared.causes.Cause.TheVariants.{ReadFault, RunFault}
use Rattle.conf_rules.specs.declared.causes.ResolveError.TheVariants.{At}
use Rattle.conf_rules.specs.Diagnostics as ends
use Rattle.conf_rules.specs.Diagnostics.{Ending}
use Rattle.conf_rules.specs.CommandOutcome.{Writes}
use Rattle.conf_rules.specs.Texts.{Bytes}
use Rattle.ssh_mux.specs.declared.ending.Ending.{Ending as MeantEnding}
use Rattle.ssh_mux.specs.declared.ending.Ending.TheVariants as endings
use Rattle.ssh_mux.specs.declared.status.Status.{Status}
use Rattle.ssh_mux.specs.declared.status.Status.TheVariants as statuses
use Rattle.ssh_mux.specs.Answers.{IsDue, IsWell, Comes, may_write, so_far}
use Rattle.ssh_mux.specs.Ending.{ending_shown}
use Rattle.ssh_mux.specs.Out.{HandsOver, OutTakes}
use Rattle.ssh_mux.specs.Outcomes.{KnownCommand, Certain, Listing, writes_out}

-- what was found of a listing
abbrev pub IsListing : KnownCommand → Bytes → Type 0
IsListing k text = (k ≡ Certain (Writes text)) ⊎ (k ≡ Listing)

well : (text : Bytes) (status : Status) → IsWell (Certain (Writes text)) status → IsWell Listing status
well text statuses.Done h = refl
well text statuses.Write h = refl
well text status h = h

due : (text : Bytes) (ending : Ending) → IsDue (Certain (Writes text)) ending → IsDue Listing ending
due text ends.NoMemory h = tt
due text (ends.BadLine (At file line ReadFault)) h = refl
due text (ends.BadLine (At file line RunFault)) h = refl
due text ending h = absurd h

some-comes : (text : Bytes) (result : Result Status MeantEnding) → Comes (Certain (Writes text)) result → Comes Listing result
some-comes text (Ok status) h = well text status h
some-comes text (Err ending) h = due text (ending_shown ending) h

some-taken : (text : Bytes) (status : Status) (before now : Option (List ℕ)) → OutTakes status (Certain (Writes text)) before now → OutTakes status Listing before now
some-taken text statuses.Done before now h = tt
some-taken text statuses.Write before now h = tt
some-taken text status before now h = h

-- a text that was handed over, as of a listing
pub handed-comes : (text : Bytes) (result : Result Status MeantEnding) (before now : Option (List ℕ)) → HandsOver result text before now → Comes (Certain (Writes text)) result
handed-comes text (Ok statuses.Done) before now h = refl
handed-comes text (Ok statuses.Write) before now h = refl
handed-comes text (Ok status) before now h = absurd h
handed-comes text (Err endings.NoMemory) before now h = tt
handed-comes text (Err ending) before now h = absurd h

pub handed-taken : (text : Bytes) (result : Result Status MeantEnding) (before now : Option (List ℕ)) → HandsOver result text before now → OutTakes (so_far result) (Certain (Writes text)) before now
handed-taken text (Ok statuses.Done) before now h = h
handed-taken text (Ok statuses.Write) before now h = h
handed-taken text (Ok status) before now h = absurd h
handed-taken text (Err endings.NoMemory) before now h = h
handed-taken text (Err ending) before now h = absurd h

pub handed-tried : (text : Bytes) (result : Result Status MeantEnding) (before now : Option (List ℕ)) → HandsOver result text before now → may_write (so_far result) ≡ true
handed-tried text (Ok statuses.Done) before now h = refl
handed-tried text (Ok statuses.Write) before now h = refl
handed-tried text (Ok status) before now h = absurd h
handed-tried text (Err endings.NoMemory) before now h = refl
handed-tried text (Err ending) before now h = absurd h

pub list-comes : (k : KnownCommand) (text : Bytes) (result : Result Status MeantEnding) → IsListing k text → Comes (Certain (Writes text)) result → Comes k result
list-comes k text result (inl e) h = subst (λ x. Comes x result) (sym e) h
list-comes k text result (inr e) h = subst (λ x. Comes x result) (sym e) (some-comes text result h)

pub list-taken : (k : KnownCommand) (text : Bytes) (status : Status) (before now : Option (List ℕ)) → IsListing k text → OutTakes status (Certain (Writes text)) before now → OutTakes status k before now
list-taken k text status before now (inl e) h = subst (λ x. OutTakes status x before now) (sym e) h
list-taken k text status before now (inr e) h = subst (λ x. OutTakes status x before now) (sym e) (some-taken text status before now h)

pub list-writes : (k : KnownCommand) (text : Bytes) → IsListing k text → writes_out k ≡ true
list-writes k text (inl e) = subst (λ x. writes_out x ≡ true) (sym e) refl
list-writes k text (inr e) = subst (λ x. writes_out x ≡ true) (sym e) refl
