-- What a client leaves whose wire was joined, or not.
use Rattle.std.proofs.Common.{◌≡◌, ◌⊎◌, inl, inr, ℕ, Bool, ◌&&◌, true, false, List, Option, Some, None, Result, Ok, Err, refl, sym, subst}
use Rattle.std.specs.Bool.{OnTrue}
use Rattle.conf_rules.specs.declared.causes.Cause.TheVariants.{ReadFault, RunFault}
use Rattle.conf_rules.specs.declared.causes.ListError.TheVariants as list_errors
use Rattle.conf_rules.specs.declared.causes.ResolveError.{ResolveError}
use Rattle.conf_rules.specs.declared.causes.ResolveError.TheVariants.{At, OutOfMemory}
use Rattle.conf_rules.specs.Diagnostics.{Ending}
use Rattle.conf_rules.specs.Diagnostics as ends
use Rattle.conf_rules.specs.CommandOutcome.{Ends, Writes, Opens, Drills, Joins}
use Rattle.conf_rules.specs.Texts.{Bytes}
use Rattle.mux_client.specs.declared.asks.Asks.{Asks}
use Rattle.mux_outside.specs.declared.mark.Mark.{Mark}
use Rattle.mux_outside.specs.Faults.{Faults}
use Rattle.mux_outside.specs.CallCounts.{CallCounts}
use Rattle.ssh_mux.specs.declared.ending.Ending.{Ending as MeantEnding}
use Rattle.ssh_mux.specs.declared.ending.Ending.TheVariants as endings
use Rattle.ssh_mux.specs.declared.status.Status.{Status}
use Rattle.ssh_mux.specs.declared.status.Status.TheVariants as statuses
use Rattle.ssh_mux.specs.Answers.{IsRunRefused, may_have_joined, may_open_wire}
use Rattle.ssh_mux.specs.Client.{ConversesBy, ConversesFor, JoinsOnce, TalksFor, client_asks_in}
use Rattle.ssh_mux.specs.Ending.{ending_shown}
use Rattle.ssh_mux.specs.Outcomes.{KnownCommand, Certain, Client, Listing, Master, may_ask_master}
use Rattle.ssh_mux.specs.Sharing.{WireCause}
use Rattle.ssh_mux.specs.Status.{status_of, refusal_status}
use Rattle.ssh_mux.proofs.StillLemmas.{not_true, on_true, only-memory}

-- ---- a client that is refused before

-- no wire is joined by it, but maybe if memory runs out
abbrev pub Unjoined : KnownCommand → Ending → Type 0
Unjoined k ending = (may_have_joined k (status_of ending) ≡ false) ⊎ (status_of ending ≡ statuses.Memory)

none-asks : (k : KnownCommand) (ending : Ending) → may_ask_master k ≡ false → Unjoined k ending
none-asks k ending e = inl (rw e (and-false (may_open_wire (status_of ending)))) where
  and-false : (b : Bool) → (b && false) ≡ false
  and-false true = refl
  and-false false = refl

unjoined : (k : KnownCommand) (ending : Ending) → IsRunRefused k ending → Unjoined k ending
unjoined (Certain (Ends due)) ending h = none-asks (Certain (Ends due)) ending refl
unjoined (Certain (Writes text)) ending h = none-asks (Certain (Writes text)) ending refl
unjoined (Certain (Drills seed clients messages)) ending h = none-asks (Certain (Drills seed clients messages)) ending refl
unjoined (Certain (Opens control transport ps)) ending h = none-asks (Certain (Opens control transport ps)) ending refl
unjoined Listing ending h = none-asks Listing ending refl
unjoined (Master transport ps) ending h = none-asks (Master transport ps) ending refl
unjoined (Certain (Joins control asked what)) ends.NoMemory h = inr refl
unjoined (Certain (Joins control asked what)) (ends.BadLine (At file line ReadFault)) h = inl refl
unjoined (Certain (Joins control asked what)) (ends.BadLine (At file line RunFault)) h = inl refl
unjoined (Certain (Joins control asked what)) ending h = absurd h
unjoined (Client asked what) ending h = some-unjoined ending h where
  some-unjoined : (x : Ending) → IsRunRefused (Client asked what) x → Unjoined (Client asked what) x
  some-unjoined ends.NoMemory g = inr refl
  some-unjoined ends.NoControlPath g = inl refl
  some-unjoined (ends.BadLine e) g = by_status (refusal_status e) (plain-status e) where
    by_status : (s : Status) → (may_open_wire s ≡ false) ⊎ (s ≡ statuses.Memory) → (may_have_joined (Client asked what) s ≡ false) ⊎ (s ≡ statuses.Memory)
    by_status s (inl o) = inl (rw o refl)
    by_status s (inr o) = inr o

    plain-status : (x : ResolveError) → (may_open_wire (refusal_status x) ≡ false) ⊎ (refusal_status x ≡ statuses.Memory)
    plain-status OutOfMemory = inr refl
    plain-status (At file line ReadFault) = inl refl
    plain-status (At file line RunFault) = inl refl
    plain-status (At file line cause) = inl refl
  some-unjoined (ends.BadListing list_errors.OutOfMemory) g = inr refl
  some-unjoined (ends.BadListing (list_errors.Token key error)) g = inl refl
  some-unjoined x g = absurd cc

-- what isn't joined asks no client
pub still-talked : (k : KnownCommand) (meant : MeantEnding) (start : Option (List Mark)) (out : Option (List ℕ)) → Unjoined k (ending_shown meant) → ConversesFor k start start out out (Err meant)
still-talked k meant start out (inl e) = not_true (may_have_joined k (status_of (ending_shown meant))) (ConversesBy (client_asks_in k) start start out out (Err meant)) e
still-talked k meant start out (inr e) = on_true (may_have_joined k (status_of (ending_shown meant))) (ConversesBy (client_asks_in k) start start out out (Err meant))
    (subst (λ m. ConversesBy (client_asks_in k) start start out out (Err m)) (sym (only-memory meant e)) (by_asks (client_asks_in k))) where
      by_asks : (r : Option (Result Asks ResolveError)) → ConversesBy r start start out out (Err endings.NoMemory)
      by_asks None = tt
      by_asks (Some (Ok what)) = inl (record { same_wire = refl; same_out = refl })
      by_asks (Some (Err e)) = record { same_wire = refl; same_out = refl }

pub still-asked-cause : (k : KnownCommand) (ending : Ending) (w w' : Faults) → Unjoined k ending → OnTrue (may_have_joined k (status_of ending)) (WireCause (status_of ending) w w')
still-asked-cause k ending w w' (inl e) = not_true (may_have_joined k (status_of ending)) (WireCause (status_of ending) w w') e
still-asked-cause k ending w w' (inr e) = subst (λ x. OnTrue (may_have_joined k x) (WireCause x w w')) (sym e) (on_true (may_have_joined k statuses.Memory) (WireCause statuses.Memory w w') tt)

pub still-asked-waits : (k : KnownCommand) (ending : Ending) (turns : ℕ) (old new : CallCounts) → Unjoined k ending → OnTrue (may_have_joined k (status_of ending)) (TalksFor turns (status_of ending) old new)
still-asked-waits k ending turns old new (inl e) = not_true (may_have_joined k (status_of ending)) (TalksFor turns (status_of ending) old new) e
still-asked-waits k ending turns old new (inr e) = subst (λ x. OnTrue (may_have_joined k x) (TalksFor turns x old new)) (sym e) (on_true (may_have_joined k statuses.Memory) (TalksFor turns statuses.Memory old new) tt)

pub refused-unjoined : (k : KnownCommand) (ending : Ending) → IsRunRefused k ending → Unjoined k ending
refused-unjoined k ending h = unjoined k ending h

pub still-joined : (k : KnownCommand) (ending : Ending) (before : Option (List Bytes)) → IsRunRefused k ending → JoinsOnce k (status_of ending) before before
still-joined (Certain (Ends due)) ending before h = refl
still-joined (Certain (Writes text)) ending before h = refl
still-joined (Certain (Drills seed clients messages)) ending before h = refl
still-joined (Certain (Opens control transport ps)) ending before h = refl
still-joined Listing ending before h = refl
still-joined (Master transport ps) ending before h = refl
still-joined (Certain (Joins control asked what)) ends.NoMemory before h = inl refl
still-joined (Certain (Joins control asked what)) (ends.BadLine (At file line ReadFault)) before h = refl
still-joined (Certain (Joins control asked what)) (ends.BadLine (At file line RunFault)) before h = refl
still-joined (Certain (Joins control asked what)) ending before h = absurd h
still-joined (Client asked what) ends.NoMemory before h = inl refl
still-joined (Client asked what) (ends.BadLine OutOfMemory) before h = inl refl
still-joined (Client asked what) (ends.BadLine (At file line ReadFault)) before h = refl
still-joined (Client asked what) (ends.BadLine (At file line RunFault)) before h = refl
still-joined (Client asked what) (ends.BadLine (At file line cause)) before h = refl
still-joined (Client asked what) (ends.BadListing (list_errors.Token key error)) before h = refl
still-joined (Client asked what) (ends.BadListing list_errors.OutOfMemory) before h = inl refl
still-joined (Client asked what) ends.NoControlPath before h = refl
still-joined (Client asked what) ending before h = absurd cc

-- ---- who asks no client

pub unasked : (k : KnownCommand) (status : Status) → may_ask_master k ≡ false → may_have_joined k status ≡ false
unasked k status e = rw e (and-false (may_open_wire status)) where
  and-false : (b : Bool) → (b && false) ≡ false
  and-false true = refl
  and-false false = refl

pub none-joined : (k : KnownCommand) (status : Status) (before now : Option (List Bytes)) → may_ask_master k ≡ false → now ≡ before → JoinsOnce k status before now
none-joined (Certain (Ends due)) status before now e h = h
none-joined (Certain (Writes text)) status before now e h = h
none-joined (Certain (Drills seed clients messages)) status before now e h = h
none-joined (Certain (Opens control transport ps)) status before now e h = h
none-joined Listing status before now e h = h
none-joined (Master transport ps) status before now e h = h
none-joined (Certain (Joins control asked what)) status before now e h = absurd cc
none-joined (Client asked what) status before now e h = absurd cc
