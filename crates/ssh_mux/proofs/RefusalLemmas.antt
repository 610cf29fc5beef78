-- From a resolution and what is listed of it to the outcome of a command.
use Rattle.std.proofs.Common.{◌≡◌, ◌⊎◌, inl, inr, ℕ, true, false, List, Option, Some, None, Result, Ok, Err, refl, sym, ap, subst, ◌∙◌}
use Rattle.std.specs.Prelude.{IsTrue}
use Rattle.conf_rules.specs.declared.asked.Asked.{Asked}
use Rattle.conf_rules.specs.declared.command.Command.TheVariants as commands
use Rattle.conf_rules.specs.declared.key.TheConstants.{LISTING_ORDER}
use Rattle.conf_rules.specs.declared.causes.Cause.{Cause}
use Rattle.conf_rules.specs.declared.causes.Cause.TheVariants.{ReadFault, RunFault}
use Rattle.conf_rules.specs.declared.causes.ListError.{ListError}
use Rattle.conf_rules.specs.declared.causes.ListError.TheVariants as list_errors
use Rattle.conf_rules.specs.declared.causes.ResolveError.{ResolveError}
use Rattle.conf_rules.specs.declared.causes.ResolveError.TheVariants as errors
use Rattle.conf_rules.specs.Diagnostics.{Ending, BadLine, BadListing, NoControlPath, is_fault}
use Rattle.conf_rules.specs.Listing.{listing_over, control_path_at}
use Rattle.conf_rules.specs.CommandOutcome.{CommandOutcome, Ends, Writes, Opens, Drills, Joins, recorded_of, listed_end, opened_end, unrefused, Machine}
use Rattle.conf_rules.specs.Resolution.{all_rows, refusal_in, first_refusal}
use Rattle.conf_rules.specs.Rows.{LineRow}
use Rattle.conf_rules.specs.Texts.{Bytes}
use Rattle.conf_rules.specs.Recorded.{Recorded}
use Rattle.conf_match.specs.Evaluated.{RecordsStatus}
use Rattle.conf_options.specs.Kept.{Given}
use Rattle.conf_output.specs.SettledListing.{SettledListing, ListsSettings, HasControlPath}
use Rattle.conf_reader.specs.Known.{RecordsFiles}
use Rattle.conf_resolve.specs.PassGives.{Resolved}
use Rattle.conf_tokens.specs.Known.{known}
use Rattle.mux_outside.specs.declared.facts.Facts.{Facts}
use Rattle.mux_outside.specs.declared.pairs.Pair.{Pair}
use Rattle.mux_outside.specs.declared.statuses.CommandStatus.{CommandStatus}
use Rattle.ssh_mux.specs.Answers.{IsRunRefused, is_refusal_ending, refuses_master}
use Rattle.ssh_mux.specs.Ending.{ending_shown, refused_as, unlisted_as}
use Rattle.ssh_mux.specs.Outcomes.{KnownCommand, Certain, Listing, Master, Client, machine, machine_of, of_command, opens_at, looks, writes_out, opens, drills}
use Rattle.conf_rules.specs.declared.command.Permissions.{Permissions}

-- ---- outcomes of rows

-- an outcome of rows for whose command files are read
pub looks-rows : (rows : List LineRow) (x : CommandOutcome) → looks (Certain x) ≡ true → looks (Certain (unrefused rows x)) ≡ true
looks-rows rows x h = on (refusal_in rows) where
  on : (r : Option ResolveError) → looks (Certain (elim r [ Some e ↦ Ends (BadLine e) | None ↦ x ])) ≡ true
  on (Some e) = refl
  on None = h

-- one that opens no wire
pub shut-rows : (rows : List LineRow) (x : CommandOutcome) → opens (Certain x) ≡ false → opens (Certain (unrefused rows x)) ≡ false
shut-rows rows x h = on (refusal_in rows) where
  on : (r : Option ResolveError) → opens (Certain (elim r [ Some e ↦ Ends (BadLine e) | None ↦ x ])) ≡ false
  on (Some e) = refl
  on None = h

-- one that writes nothing
quiet-rows : (rows : List LineRow) (x : CommandOutcome) → writes_out (Certain x) ≡ false → writes_out (Certain (unrefused rows x)) ≡ false
quiet-rows rows x h = on (refusal_in rows) where
  on : (r : Option ResolveError) → writes_out (Certain (elim r [ Some e ↦ Ends (BadLine e) | None ↦ x ])) ≡ false
  on (Some e) = refl
  on None = h

-- one that is no drill
pub undrilled-rows : (rows : List LineRow) (x : CommandOutcome) → drills (Certain x) ≡ false → drills (Certain (unrefused rows x)) ≡ false
undrilled-rows rows x h = on (refusal_in rows) where
  on : (r : Option ResolveError) → drills (Certain (elim r [ Some e ↦ Ends (BadLine e) | None ↦ x ])) ≡ false
  on (Some e) = refl
  on None = h

looks-listed : (r : Result Bytes ListError) → looks (Certain (listed_end r)) ≡ true
looks-listed (Ok text) = refl
looks-listed (Err e) = refl

shut-listed : (r : Result Bytes ListError) → opens (Certain (listed_end r)) ≡ false
shut-listed (Ok text) = refl
shut-listed (Err e) = refl

undrilled-listed : (r : Result Bytes ListError) → drills (Certain (listed_end r)) ≡ false
undrilled-listed (Ok text) = refl
undrilled-listed (Err e) = refl

looks-opened : (transport : Bytes) (ps : Permissions) (r : Result (Option Bytes) ListError) → looks (Certain (opened_end transport ps r)) ≡ true
looks-opened transport ps (Ok (Some path)) = refl
looks-opened transport ps (Ok None) = refl
looks-opened transport ps (Err e) = refl

quiet-opened : (transport : Bytes) (ps : Permissions) (r : Result (Option Bytes) ListError) → writes_out (Certain (opened_end transport ps r)) ≡ false
quiet-opened transport ps (Ok (Some path)) = refl
quiet-opened transport ps (Ok None) = refl
quiet-opened transport ps (Err e) = refl

undrilled-opened : (transport : Bytes) (ps : Permissions) (r : Result (Option Bytes) ListError) → drills (Certain (opened_end transport ps r)) ≡ false
undrilled-opened transport ps (Ok (Some path)) = refl
undrilled-opened transport ps (Ok None) = refl
undrilled-opened transport ps (Err e) = refl

-- ---- what commands use

pub list-looks : (m : Option Machine) (asked : Asked) → looks (of_command m (commands.List asked)) ≡ true
unfolding of_command
list-looks None asked = refl
list-looks (Some m) asked = looks-rows (all_rows (recorded_of m asked)) (listed_end (listing_over LISTING_ORDER (recorded_of m asked) (all_rows (recorded_of m asked)))) (looks-listed (listing_over LISTING_ORDER (recorded_of m asked) (all_rows (recorded_of m asked))))

pub list-shut : (m : Option Machine) (asked : Asked) → opens (of_command m (commands.List asked)) ≡ false
unfolding of_command
list-shut None asked = refl
list-shut (Some m) asked = shut-rows (all_rows (recorded_of m asked)) (listed_end (listing_over LISTING_ORDER (recorded_of m asked) (all_rows (recorded_of m asked)))) (shut-listed (listing_over LISTING_ORDER (recorded_of m asked) (all_rows (recorded_of m asked))))

pub master-looks : (m : Option Machine) (asked : Asked) (transport : Bytes) (ps : Permissions) → looks (of_command m (commands.Master asked transport ps)) ≡ true
unfolding of_command
master-looks None asked transport ps = refl
master-looks (Some m) asked transport ps = looks-rows (all_rows (recorded_of m asked)) (opened_end transport ps (control_path_at (recorded_of m asked) (all_rows (recorded_of m asked)))) (looks-opened transport ps (control_path_at (recorded_of m asked) (all_rows (recorded_of m asked))))

pub master-quiet : (m : Option Machine) (asked : Asked) (transport : Bytes) (ps : Permissions) → writes_out (of_command m (commands.Master asked transport ps)) ≡ false
unfolding of_command
master-quiet None asked transport ps = refl
master-quiet (Some m) asked transport ps = quiet-rows (all_rows (recorded_of m asked)) (opened_end transport ps (control_path_at (recorded_of m asked) (all_rows (recorded_of m asked)))) (quiet-opened transport ps (control_path_at (recorded_of m asked) (all_rows (recorded_of m asked))))

pub list-undrilled : (m : Option Machine) (asked : Asked) → drills (of_command m (commands.List asked)) ≡ false
unfolding of_command
list-undrilled None asked = refl
list-undrilled (Some m) asked = undrilled-rows (all_rows (recorded_of m asked)) (listed_end (listing_over LISTING_ORDER (recorded_of m asked) (all_rows (recorded_of m asked)))) (undrilled-listed (listing_over LISTING_ORDER (recorded_of m asked) (all_rows (recorded_of m asked))))

pub master-undrilled : (m : Option Machine) (asked : Asked) (transport : Bytes) (ps : Permissions) → drills (of_command m (commands.Master asked transport ps)) ≡ false
unfolding of_command
master-undrilled None asked transport ps = refl
master-undrilled (Some m) asked transport ps = undrilled-rows (all_rows (recorded_of m asked)) (opened_end transport ps (control_path_at (recorded_of m asked) (all_rows (recorded_of m asked)))) (undrilled-opened transport ps (control_path_at (recorded_of m asked) (all_rows (recorded_of m asked))))

-- ---- a configuration that is refused

-- an ending that is due, faults and running out of memory aside
abbrev Plain : KnownCommand → Ending → Type 0
Plain (Certain (Ends due)) ending = ending ≡ due
Plain (Certain other) ending = ⊥
Plain Listing ending = IsTrue (is_refusal_ending ending)
Plain (Master transport ps) ending = IsTrue (refuses_master ending)
Plain (Client asked what) ending = IsTrue (refuses_master ending)

pub by-cause : (k : KnownCommand) (file : Bytes) (line : ℕ) (cause : Cause) → looks k ≡ true → (is_fault cause ≡ false → Plain k (BadLine (errors.At file line cause))) → IsRunRefused k (BadLine (errors.At file line cause))
by-cause k file line ReadFault l h = l
by-cause k file line RunFault l h = l
by-cause (Certain (Ends due)) file line cause l h = h refl
by-cause (Certain (Writes text)) file line cause l h = h refl
by-cause (Certain (Opens control transport ps)) file line cause l h = h refl
by-cause (Certain (Drills seed clients messages)) file line cause l h = absurd (h refl)
by-cause (Certain (Joins control asked what)) file line cause l h = absurd (h refl)
by-cause Listing file line cause l h = h refl
by-cause (Master transport ps) file line cause l h = h refl
by-cause (Client asked what) file line cause l h = h refl

plain-rows : (rows : List LineRow) (x : CommandOutcome) (e : ResolveError) → refusal_in rows ≡ Some e → Plain (Certain (unrefused rows x)) (BadLine e)
plain-rows rows x e h = subst (λ o. Plain (Certain o) (BadLine e)) (sym (ap (λ (r : Option ResolveError). elim r [ Some e ↦ Ends (BadLine e) | None ↦ x ]) h)) refl

-- what files, commands and facts that record promise of a resolution
abbrev pub Promise : Option (List Pair) → Option (List CommandStatus) → Facts → Asked → (Recorded → Type 0) → Type 0
Promise files statuses facts asked P = (recorded : Recorded) → recorded.asked ≡ asked → recorded.facts ≡ known facts → RecordsFiles files recorded → RecordsStatus statuses recorded.status → P recorded

-- it is a promise of the machine
pub kept : (files : List Pair) (statuses : List CommandStatus) (facts : Facts) (asked : Asked) (P : Recorded → Type 0) → Promise (Some files) (Some statuses) facts asked P → P (recorded_of (machine_of files statuses facts) asked)
kept files statuses facts asked P h = h (recorded_of (machine_of files statuses facts) asked) refl refl (refl, refl) refl

pub refused-rows : (recorded : Recorded) (x : CommandOutcome) (e : ResolveError) → looks (Certain x) ≡ true → Resolved recorded (Err e) → IsRunRefused (Certain (unrefused (all_rows recorded) x)) (ending_shown (refused_as e))
refused-rows recorded x errors.OutOfMemory l h = tt
refused-rows recorded x (errors.At file line cause) l h = by-cause (Certain (unrefused (all_rows recorded) x)) file line cause (looks-rows (all_rows recorded) x l) (λ plain. plain-rows (all_rows recorded) x (errors.At file line cause) (h plain))

refused-listing : (e : ResolveError) → IsRunRefused Listing (ending_shown (refused_as e))
refused-listing errors.OutOfMemory = tt
refused-listing (errors.At file line cause) = by-cause Listing file line cause refl (λ plain. refl)

refused-master : (transport : Bytes) (ps : Permissions) (e : ResolveError) → IsRunRefused (Master transport ps) (ending_shown (refused_as e))
refused-master transport ps errors.OutOfMemory = tt
refused-master transport ps (errors.At file line cause) = by-cause (Master transport ps) file line cause refl (λ plain. refl)

pub list-refused : (files : Option (List Pair)) (statuses : Option (List CommandStatus)) (facts : Facts) (asked : Asked) (e : ResolveError) → Promise files statuses facts asked (λ recorded. Resolved recorded (Err e)) → IsRunRefused (of_command (machine files statuses facts) (commands.List asked)) (ending_shown (refused_as e))
unfolding of_command machine
list-refused None statuses facts asked e h = refused-listing e
list-refused (Some files) None facts asked e h = refused-listing e
list-refused (Some files) (Some statuses) facts asked e h =
    let recorded = recorded_of (machine_of files statuses facts) asked in
    let listed = listing_over LISTING_ORDER recorded (all_rows recorded) in
    refused-rows recorded (listed_end listed) e (looks-listed listed) (kept files statuses facts asked (λ t. Resolved t (Err e)) h)

pub master-refused : (files : Option (List Pair)) (statuses : Option (List CommandStatus)) (facts : Facts) (asked : Asked) (transport : Bytes) (ps : Permissions) (e : ResolveError) → Promise files statuses facts asked (λ recorded. Resolved recorded (Err e)) → IsRunRefused (of_command (machine files statuses facts) (commands.Master asked transport ps)) (ending_shown (refused_as e))
unfolding of_command machine
master-refused None statuses facts asked transport ps e h = refused-master transport ps e
master-refused (Some files) None facts asked transport ps e h = refused-master transport ps e
master-refused (Some files) (Some statuses) facts asked transport ps e h =
    let recorded = recorded_of (machine_of files statuses facts) asked in
    let path = control_path_at recorded (all_rows recorded) in
    refused-rows recorded (opened_end transport ps path) e (looks-opened transport ps path) (kept files statuses facts asked (λ t. Resolved t (Err e)) h)

-- ---- settings

pub settled : (files : List Pair) (statuses : List CommandStatus) (facts : Facts) (asked : Asked) (settings : List Given) → Promise (Some files) (Some statuses) facts asked (λ recorded. Resolved recorded (Ok settings)) → SettledListing (recorded_of (machine_of files statuses facts) asked) (all_rows (recorded_of (machine_of files statuses facts) asked)) settings asked.original facts
settled files statuses facts asked settings h =
    record { name = refl; facts = refl; keeps = (kept files statuses facts asked (λ t. Resolved t (Ok settings)) h).1 }

pub unrefused-rows : (rows : List LineRow) (x : CommandOutcome) → refusal_in rows ≡ None → unrefused rows x ≡ x
unrefused-rows rows x h = ap (λ (r : Option ResolveError). elim r [ Some e ↦ Ends (BadLine e) | None ↦ x ]) h

pub list-found : (files : Option (List Pair)) (statuses : Option (List CommandStatus)) (facts : Facts) (asked : Asked) (settings : List Given) (text : Bytes) → Promise files statuses facts asked (λ recorded. Resolved recorded (Ok settings)) → ListsSettings (Ok text) settings asked.original facts → (of_command (machine files statuses facts) (commands.List asked) ≡ Certain (Writes text)) ⊎ (of_command (machine files statuses facts) (commands.List asked) ≡ Listing)
unfolding of_command machine
list-found None statuses facts asked settings text h l = inr refl
list-found (Some files) None facts asked settings text h l = inr refl
list-found (Some files) (Some statuses) facts asked settings text h l =
    let recorded = recorded_of (machine_of files statuses facts) asked in
    let none : first_refusal recorded ≡ None = (kept files statuses facts asked (λ t. Resolved t (Ok settings)) h).0 in
    let lists : listing_over LISTING_ORDER recorded (all_rows recorded) ≡ Ok text = l recorded (all_rows recorded) (settled files statuses facts asked settings h) in
    inl (ap (λ o. Certain o) (unrefused-rows (all_rows recorded) (listed_end (listing_over LISTING_ORDER recorded (all_rows recorded))) none ∙ ap listed_end lists))

pub list-unlisted : (files : Option (List Pair)) (statuses : Option (List CommandStatus)) (facts : Facts) (asked : Asked) (settings : List Given) (e : ListError) → Promise files statuses facts asked (λ recorded. Resolved recorded (Ok settings)) → ListsSettings (Err e) settings asked.original facts → IsRunRefused (of_command (machine files statuses facts) (commands.List asked)) (ending_shown (unlisted_as e))
unfolding of_command machine
list-unlisted files statuses facts asked settings list_errors.OutOfMemory h l = tt
list-unlisted None statuses facts asked settings (list_errors.Token key error) h l = refl
list-unlisted (Some files) None facts asked settings (list_errors.Token key error) h l = refl
list-unlisted (Some files) (Some statuses) facts asked settings (list_errors.Token key error) h l =
    let recorded = recorded_of (machine_of files statuses facts) asked in
    let none : first_refusal recorded ≡ None = (kept files statuses facts asked (λ t. Resolved t (Ok settings)) h).0 in
    let lists : listing_over LISTING_ORDER recorded (all_rows recorded) ≡ Err (list_errors.Token key error) = l recorded (all_rows recorded) (settled files statuses facts asked settings h) in
    let is = unrefused-rows (all_rows recorded) (listed_end (listing_over LISTING_ORDER recorded (all_rows recorded))) none ∙ ap listed_end lists in
    subst (λ o. IsRunRefused (Certain o) (BadListing (list_errors.Token key error))) (sym is) refl

-- the outcome of a control path
abbrev Path : Recorded → Bytes → Permissions → CommandOutcome
Path recorded transport ps = unrefused (all_rows recorded) (opened_end transport ps (control_path_at recorded (all_rows recorded)))

path-is : (files : List Pair) (statuses : List CommandStatus) (facts : Facts) (asked : Asked) (transport : Bytes) (ps : Permissions) (settings : List Given) (r : Result (Option Bytes) ListError) → Promise (Some files) (Some statuses) facts asked (λ recorded. Resolved recorded (Ok settings)) → control_path_at (recorded_of (machine_of files statuses facts) asked) (all_rows (recorded_of (machine_of files statuses facts) asked)) ≡ r → Path (recorded_of (machine_of files statuses facts) asked) transport ps ≡ opened_end transport ps r
path-is files statuses facts asked transport ps settings r h is =
    let recorded = recorded_of (machine_of files statuses facts) asked in
    let none : first_refusal recorded ≡ None = (kept files statuses facts asked (λ t. Resolved t (Ok settings)) h).0 in
    unrefused-rows (all_rows recorded) (opened_end transport ps (control_path_at recorded (all_rows recorded))) none ∙ ap (opened_end transport ps) is

pub path-found : (files : Option (List Pair)) (statuses : Option (List CommandStatus)) (facts : Facts) (asked : Asked) (transport : Bytes) (ps : Permissions) (settings : List Given) (path : Bytes) → Promise files statuses facts asked (λ recorded. Resolved recorded (Ok settings)) → HasControlPath (Ok (Some path)) settings asked.original facts → (of_command (machine files statuses facts) (commands.Master asked transport ps) ≡ Certain (opens_at transport ps path)) ⊎ (of_command (machine files statuses facts) (commands.Master asked transport ps) ≡ Master transport ps)
unfolding of_command machine
path-found None statuses facts asked transport ps settings path h p = inr refl
path-found (Some files) None facts asked transport ps settings path h p = inr refl
path-found (Some files) (Some statuses) facts asked transport ps settings path h p =
    let recorded = recorded_of (machine_of files statuses facts) asked in
    inl (ap (λ o. Certain o) (path-is files statuses facts asked transport ps settings (Ok (Some path)) h (p recorded (all_rows recorded) (settled files statuses facts asked settings h))))

pub path-unset : (files : Option (List Pair)) (statuses : Option (List CommandStatus)) (facts : Facts) (asked : Asked) (transport : Bytes) (ps : Permissions) (settings : List Given) → Promise files statuses facts asked (λ recorded. Resolved recorded (Ok settings)) → HasControlPath (Ok None) settings asked.original facts → IsRunRefused (of_command (machine files statuses facts) (commands.Master asked transport ps)) NoControlPath
unfolding of_command machine
path-unset None statuses facts asked transport ps settings h p = refl
path-unset (Some files) None facts asked transport ps settings h p = refl
path-unset (Some files) (Some statuses) facts asked transport ps settings h p =
    let recorded = recorded_of (machine_of files statuses facts) asked in
    subst (λ o. IsRunRefused (Certain o) NoControlPath) (sym (path-is files statuses facts asked transport ps settings (Ok None) h (p recorded (all_rows recorded) (settled files statuses facts asked settings h)))) refl

pub path-unlisted : (files : Option (List Pair)) (statuses : Option (List CommandStatus)) (facts : Facts) (asked : Asked) (transport : Bytes) (ps : Permissions) (settings : List Given) (e : ListError) → Promise files statuses facts asked (λ recorded. Resolved recorded (Ok settings)) → HasControlPath (Err e) settings asked.original facts → IsRunRefused (of_command (machine files statuses facts) (commands.Master asked transport ps)) (ending_shown (unlisted_as e))
unfolding of_command machine
path-unlisted files statuses facts asked transport ps settings list_errors.OutOfMemory h p = tt
path-unlisted None statuses facts asked transport ps settings (list_errors.Token key error) h p = refl
path-unlisted (Some files) None facts asked transport ps settings (list_errors.Token key error) h p = refl
path-unlisted (Some files) (Some statuses) facts asked transport ps settings (list_errors.Token key error) h p =
    let recorded = recorded_of (machine_of files statuses facts) asked in
    subst (λ o. IsRunRefused (Certain o) (BadListing (list_errors.Token key error))) (sym (path-is files statuses facts asked transport ps settings (Err (list_errors.Token key error)) h (p recorded (all_rows recorded) (settled files statuses facts asked settings h)))) refl
