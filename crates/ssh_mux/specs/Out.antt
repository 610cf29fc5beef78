-- What the standard output has accepted.
use Rattle.std.specs.Prelude.{◌≡◌, ℕ, List, Option, Result, Ok, Err}
use Rattle.std.specs.Bool.{OnFalse}
use Rattle.conf_rules.specs.CommandOutcome.{Writes, Drills, Joins}
use Rattle.conf_rules.specs.Texts.{Bytes}
use Rattle.mux_outside.specs.declared.file_error.FileError.TheVariants.{Failed}
use Rattle.mux_outside.specs.Sink.{TakesRecorded}
use Rattle.ssh_mux.specs.declared.ending.Ending.{Ending}
use Rattle.ssh_mux.specs.declared.ending.Ending.TheVariants as endings
use Rattle.ssh_mux.specs.declared.status.Status.{Status}
use Rattle.ssh_mux.specs.declared.status.Status.TheVariants.{Done, Write}
use Rattle.ssh_mux.specs.Answers.{may_open_wire}
use Rattle.ssh_mux.specs.Outcomes.{KnownCommand, Certain, Listing, Client}

-- a text was handed over: all of it was accepted, a prefix where that failed, or nothing if memory
-- ran out
abbrev pub HandsOver :
    Result Status Ending → Bytes → Option (List ℕ) → Option (List ℕ) → Type 0
HandsOver (Ok Done) text before now = TakesRecorded (Ok tt) before now text
HandsOver (Ok Write) text before now = TakesRecorded (Err Failed) before now text
HandsOver (Err endings.NoMemory) text before now = now ≡ before
HandsOver result text before now = ⊥

-- nothing more; but for a client that may have joined its wire, of which `AnswersFor` defines what
abbrev pub OutStays : Status → KnownCommand → Option (List ℕ) → Option (List ℕ) → Type 0
OutStays status (Certain (Joins control asked what)) before now =
    OnFalse (may_open_wire status) (now ≡ before)
OutStays status (Client asked what) before now = OnFalse (may_open_wire status) (now ≡ before)
OutStays status known before now = now ≡ before

-- the listing, of which a prefix where it failed, and nothing with any other status; where it isn't
-- known, some listing; of a drill that writes, `IsDrill` defines what
abbrev pub OutTakes : Status → KnownCommand → Option (List ℕ) → Option (List ℕ) → Type 0
OutTakes Done (Certain (Writes text)) before now = TakesRecorded (Ok tt) before now text
OutTakes Write (Certain (Writes text)) before now = TakesRecorded (Err Failed) before now text
OutTakes Done (Certain (Drills seed clients messages)) before now = Unit
OutTakes Write (Certain (Drills seed clients messages)) before now = Unit
OutTakes Done Listing before now = Unit
OutTakes Write Listing before now = Unit
OutTakes status known before now = OutStays status known before now
