-- From a resolution and its control path to the outcome of a client.
use Rattle.std.proofs.Common.{◌≡◌, ◌⊎◌, inl, inr, ℕ, Bool, ◌&&◌, true, false, List, Option, Some, None, Result, Ok, Err, refl, sym, ap, subst, ◌∙◌}
use Rattle.std.specs.Bool.{OnFalse}
use Rattle.conf_rules.specs.declared.asked.Asked.{Asked}
use Rattle.conf_rules.specs.declared.command.Command.TheVariants as commands
use Rattle.conf_rules.specs.declared.control.MasterCommand.{MasterCommand}
use Rattle.conf_rules.specs.declared.key.TheConstants.{LISTING_ORDER}
use Rattle.conf_rules.specs.declared.causes.ListError.{ListError}
use Rattle.conf_rules.specs.declared.causes.ListError.TheVariants as list_errors
use Rattle.conf_rules.specs.declared.causes.ResolveError.{ResolveError}
use Rattle.conf_rules.specs.declared.causes.ResolveError.TheVariants as errors
use Rattle.conf_rules.specs.Diagnostics.{Ending, BadLine, BadListing, NoControlPath}
use Rattle.conf_rules.specs.Listing.{listing_over, control_path_at}
use Rattle.conf_rules.specs.CommandOutcome.{CommandOutcome, Ends, recorded_of, listed_end, opened_end, joined_end, unrefused, Machine}
use Rattle.conf_rules.specs.Resolution.{all_rows, refusal_in, first_refusal}
use Rattle.conf_rules.specs.Rows.{LineRow}
use Rattle.conf_rules.specs.Texts.{Bytes}
use Rattle.conf_options.specs.Kept.{Given}
use Rattle.conf_output.specs.SettledListing.{HasControlPath}
use Rattle.conf_resolve.specs.PassGives.{Resolved}
use Rattle.mux_outside.specs.declared.facts.Facts.{Facts}
use Rattle.mux_outside.specs.declared.pairs.Pair.{Pair}
use Rattle.mux_outside.specs.declared.statuses.CommandStatus.{CommandStatus}
use Rattle.ssh_mux.specs.declared.status.Status.{Status}
use Rattle.ssh_mux.specs.declared.status.Status.TheVariants as statuses
use Rattle.ssh_mux.specs.Answers.{IsRunRefused, may_have_joined, may_open_wire}
use Rattle.ssh_mux.specs.Ending.{ending_shown, refused_as, unlisted_as}
use Rattle.ssh_mux.specs.Out.{OutTakes}
use Rattle.ssh_mux.specs.Outcomes.{Certain, Client, machine, machine_of, of_command, joins_at, may_ask_master, looks, opens, drills, writes_out}
use Rattle.ssh_mux.proofs.RefusalLemmas.{Promise, by-cause, kept, looks-rows, refused-rows, settled, shut-rows, undrilled-rows, unrefused-rows}
use Rattle.conf_rules.specs.declared.command.Permissions.{Permissions}

-- ---- what a client uses

looks-joined : (asked : Asked) (what : MasterCommand) (r : Result (Option Bytes) ListError) → looks (Certain (joined_end asked what r)) ≡ true
looks-joined asked what (Ok (Some path)) = refl
looks-joined asked what (Ok None) = refl
looks-joined asked what (Err e) = refl

shut-joined : (asked : Asked) (what : MasterCommand) (r : Result (Option Bytes) ListError) → opens (Certain (joined_end asked what r)) ≡ false
shut-joined asked what (Ok (Some path)) = refl
shut-joined asked what (Ok None) = refl
shut-joined asked what (Err e) = refl

undrilled-joined : (asked : Asked) (what : MasterCommand) (r : Result (Option Bytes) ListError) → drills (Certain (joined_end asked what r)) ≡ false
undrilled-joined asked what (Ok (Some path)) = refl
undrilled-joined asked what (Ok None) = refl
undrilled-joined asked what (Err e) = refl

pub client-looks : (m : Option Machine) (asked : Asked) (what : MasterCommand) → looks (of_command m (commands.Control asked what)) ≡ true
unfolding of_command
client-looks None asked what = refl
client-looks (Some m) asked what = looks-rows (all_rows (recorded_of m asked)) (joined_end asked what (control_path_at (recorded_of m asked) (all_rows (recorded_of m asked)))) (looks-joined asked what (control_path_at (recorded_of m asked) (all_rows (recorded_of m asked))))

pub client-shut : (m : Option Machine) (asked : Asked) (what : MasterCommand) → opens (of_command m (commands.Control asked what)) ≡ false
unfolding of_command
client-shut None asked what = refl
client-shut (Some m) asked what = shut-rows (all_rows (recorded_of m asked)) (joined_end asked what (control_path_at (recorded_of m asked) (all_rows (recorded_of m asked)))) (shut-joined asked what (control_path_at (recorded_of m asked) (all_rows (recorded_of m asked))))

pub client-undrilled : (m : Option Machine) (asked : Asked) (what : MasterCommand) → drills (of_command m (commands.Control asked what)) ≡ false
unfolding of_command
client-undrilled None asked what = refl
client-undrilled (Some m) asked what = undrilled-rows (all_rows (recorded_of m asked)) (joined_end asked what (control_path_at (recorded_of m asked) (all_rows (recorded_of m asked)))) (undrilled-joined asked what (control_path_at (recorded_of m asked) (all_rows (recorded_of m asked))))

-- ---- who asks no running master

unasked-rows : (rows : List LineRow) (x : CommandOutcome) → may_ask_master (Certain x) ≡ false → may_ask_master (Certain (unrefused rows x)) ≡ false
unasked-rows rows x h = on (refusal_in rows) where
  on : (r : Option ResolveError) → may_ask_master (Certain (elim r [ Some e ↦ Ends (BadLine e) | None ↦ x ])) ≡ false
  on (Some e) = refl
  on None = h

unasked-listed : (r : Result Bytes ListError) → may_ask_master (Certain (listed_end r)) ≡ false
unasked-listed (Ok text) = refl
unasked-listed (Err e) = refl

unasked-opened : (transport : Bytes) (ps : Permissions) (r : Result (Option Bytes) ListError) → may_ask_master (Certain (opened_end transport ps r)) ≡ false
unasked-opened transport ps (Ok (Some path)) = refl
unasked-opened transport ps (Ok None) = refl
unasked-opened transport ps (Err e) = refl

pub list-unasked : (m : Option Machine) (asked : Asked) → may_ask_master (of_command m (commands.List asked)) ≡ false
unfolding of_command
list-unasked None asked = refl
list-unasked (Some m) asked = unasked-rows (all_rows (recorded_of m asked)) (listed_end (listing_over LISTING_ORDER (recorded_of m asked) (all_rows (recorded_of m asked)))) (unasked-listed (listing_over LISTING_ORDER (recorded_of m asked) (all_rows (recorded_of m asked))))

pub master-unasked : (m : Option Machine) (asked : Asked) (transport : Bytes) (ps : Permissions) → may_ask_master (of_command m (commands.Master asked transport ps)) ≡ false
unfolding of_command
master-unasked None asked transport ps = refl
master-unasked (Some m) asked transport ps = unasked-rows (all_rows (recorded_of m asked)) (opened_end transport ps (control_path_at (recorded_of m asked) (all_rows (recorded_of m asked)))) (unasked-opened transport ps (control_path_at (recorded_of m asked) (all_rows (recorded_of m asked))))

-- ---- what its output accepts

-- where the wire may have been joined another clause says it
ends-taken : (e : Ending) (status : Status) (before now : Option (List ℕ)) → OnFalse (may_open_wire status && false) (now ≡ before) → OutTakes status (Certain (Ends e)) before now
ends-taken e statuses.Done before now h = h
ends-taken e statuses.Write before now h = h
ends-taken e statuses.Usage before now h = h
ends-taken e statuses.Config before now h = h
ends-taken e statuses.Outside before now h = h
ends-taken e statuses.Open before now h = h
ends-taken e statuses.Transport before now h = h
ends-taken e statuses.Broke before now h = h
ends-taken e statuses.Spent before now h = h
ends-taken e statuses.Memory before now h = h
ends-taken e statuses.StartRefused before now h = h
ends-taken e statuses.Refused before now h = h
ends-taken e statuses.BadMaster before now h = h

joins-taken : (asked : Asked) (what : MasterCommand) (path : Bytes) (status : Status) (before now : Option (List ℕ)) → OnFalse (may_open_wire status && true) (now ≡ before) → OutTakes status (Certain (joins_at asked what path)) before now
joins-taken asked what path statuses.Done before now h = tt
joins-taken asked what path statuses.Write before now h = tt
joins-taken asked what path statuses.Usage before now h = h
joins-taken asked what path statuses.Config before now h = h
joins-taken asked what path statuses.Outside before now h = h
joins-taken asked what path status before now h = tt

some-taken : (asked : Asked) (what : MasterCommand) (status : Status) (before now : Option (List ℕ)) → OnFalse (may_open_wire status && true) (now ≡ before) → OutTakes status (Client asked what) before now
some-taken asked what statuses.Done before now h = tt
some-taken asked what statuses.Write before now h = tt
some-taken asked what statuses.Usage before now h = h
some-taken asked what statuses.Config before now h = h
some-taken asked what statuses.Outside before now h = h
some-taken asked what status before now h = tt

end-taken : (asked : Asked) (what : MasterCommand) (r : Result (Option Bytes) ListError) (status : Status) (before now : Option (List ℕ)) → OnFalse (may_have_joined (Certain (joined_end asked what r)) status) (now ≡ before) → OutTakes status (Certain (joined_end asked what r)) before now
end-taken asked what (Ok (Some path)) status before now h = joins-taken asked what path status before now h
end-taken asked what (Ok None) status before now h = ends-taken NoControlPath status before now h
end-taken asked what (Err e) status before now h = ends-taken (BadListing e) status before now h

rows-taken : (rows : List LineRow) (x : CommandOutcome) (status : Status) (before now : Option (List ℕ)) → (OnFalse (may_have_joined (Certain x) status) (now ≡ before) → OutTakes status (Certain x) before now) → OnFalse (may_have_joined (Certain (unrefused rows x)) status) (now ≡ before) → OutTakes status (Certain (unrefused rows x)) before now
rows-taken rows x status before now = on (refusal_in rows) where
  on : (r : Option ResolveError) → (OnFalse (may_have_joined (Certain x) status) (now ≡ before) → OutTakes status (Certain x) before now) → OnFalse (may_have_joined (Certain (elim r [ Some e ↦ Ends (BadLine e) | None ↦ x ])) status) (now ≡ before) → OutTakes status (Certain (elim r [ Some e ↦ Ends (BadLine e) | None ↦ x ])) before now
  on (Some e) f h = ends-taken (BadLine e) status before now h
  on None f h = f h

pub client-taken : (m : Option Machine) (asked : Asked) (what : MasterCommand) (status : Status) (before now : Option (List ℕ)) → OnFalse (may_have_joined (of_command m (commands.Control asked what)) status) (now ≡ before) → OutTakes status (of_command m (commands.Control asked what)) before now
unfolding of_command
client-taken None asked what status before now h = some-taken asked what status before now h
client-taken (Some m) asked what status before now h =
    let recorded = recorded_of m asked in
    let path = control_path_at recorded (all_rows recorded) in
    rows-taken (all_rows recorded) (joined_end asked what path) status before now (end-taken asked what path status before now) h

-- where nothing may be shown at all, as where the configuration is refused
ends-unlisted : (asking : Bool) (status : Status) (P : Type 0) → OnFalse (may_open_wire status && asking) P → OnFalse asking P
ends-unlisted true status P h = tt
ends-unlisted false status P h = closed-off (may_open_wire status) h where
  closed-off : (opened : Bool) → OnFalse (opened && false) P → P
  closed-off true h = h
  closed-off false h = h

writes-joined : (asked : Asked) (what : MasterCommand) (r : Result (Option Bytes) ListError) → writes_out (Certain (joined_end asked what r)) ≡ may_ask_master (Certain (joined_end asked what r))
writes-joined asked what (Ok (Some path)) = refl
writes-joined asked what (Ok None) = refl
writes-joined asked what (Err e) = refl

writes-rows : (rows : List LineRow) (x : CommandOutcome) → writes_out (Certain x) ≡ may_ask_master (Certain x) → writes_out (Certain (unrefused rows x)) ≡ may_ask_master (Certain (unrefused rows x))
writes-rows rows x h = on (refusal_in rows) where
  on : (r : Option ResolveError) → writes_out (Certain (elim r [ Some e ↦ Ends (BadLine e) | None ↦ x ])) ≡ may_ask_master (Certain (elim r [ Some e ↦ Ends (BadLine e) | None ↦ x ]))
  on (Some e) = refl
  on None = h

client-writes : (m : Option Machine) (asked : Asked) (what : MasterCommand) → writes_out (of_command m (commands.Control asked what)) ≡ may_ask_master (of_command m (commands.Control asked what))
unfolding of_command
client-writes None asked what = refl
client-writes (Some m) asked what = writes-rows (all_rows (recorded_of m asked)) (joined_end asked what (control_path_at (recorded_of m asked) (all_rows (recorded_of m asked)))) (writes-joined asked what (control_path_at (recorded_of m asked) (all_rows (recorded_of m asked))))

pub unlisted-client : (m : Option Machine) (asked : Asked) (what : MasterCommand) (status : Status) (P : Type 0) → OnFalse (may_have_joined (of_command m (commands.Control asked what)) status) P → OnFalse (writes_out (of_command m (commands.Control asked what))) P
unlisted-client m asked what status P h = subst (λ b. OnFalse b P) (sym (client-writes m asked what)) (ends-unlisted (may_ask_master (of_command m (commands.Control asked what))) status P h)

-- ---- the control path of a client

refused-client : (asked : Asked) (what : MasterCommand) (e : ResolveError) → IsRunRefused (Client asked what) (ending_shown (refused_as e))
refused-client asked what errors.OutOfMemory = tt
refused-client asked what (errors.At file line cause) = by-cause (Client asked what) file line cause refl (λ plain. refl)

pub client-refused : (files : Option (List Pair)) (statuses : Option (List CommandStatus)) (facts : Facts) (asked : Asked) (what : MasterCommand) (e : ResolveError) → Promise files statuses facts asked (λ recorded. Resolved recorded (Err e)) → IsRunRefused (of_command (machine files statuses facts) (commands.Control asked what)) (ending_shown (refused_as e))
unfolding of_command machine
client-refused None statuses facts asked what e h = refused-client asked what e
client-refused (Some files) None facts asked what e h = refused-client asked what e
client-refused (Some files) (Some statuses) facts asked what e h =
    let recorded = recorded_of (machine_of files statuses facts) asked in
    let path = control_path_at recorded (all_rows recorded) in
    refused-rows recorded (joined_end asked what path) e (looks-joined asked what path) (kept files statuses facts asked (λ t. Resolved t (Err e)) h)

path-is : (files : List Pair) (statuses : List CommandStatus) (facts : Facts) (asked : Asked) (what : MasterCommand) (settings : List Given) (r : Result (Option Bytes) ListError) → Promise (Some files) (Some statuses) facts asked (λ recorded. Resolved recorded (Ok settings)) → control_path_at (recorded_of (machine_of files statuses facts) asked) (all_rows (recorded_of (machine_of files statuses facts) asked)) ≡ r
    → unrefused (all_rows (recorded_of (machine_of files statuses facts) asked)) (joined_end asked what (control_path_at (recorded_of (machine_of files statuses facts) asked) (all_rows (recorded_of (machine_of files statuses facts) asked)))) ≡ joined_end asked what r
path-is files statuses facts asked what settings r h is =
    let recorded = recorded_of (machine_of files statuses facts) asked in
    let none : first_refusal recorded ≡ None = (kept files statuses facts asked (λ t. Resolved t (Ok settings)) h).0 in
    unrefused-rows (all_rows recorded) (joined_end asked what (control_path_at recorded (all_rows recorded))) none ∙ ap (joined_end asked what) is

pub client-found : (files : Option (List Pair)) (statuses : Option (List CommandStatus)) (facts : Facts) (asked : Asked) (what : MasterCommand) (settings : List Given) (path : Bytes) → Promise files statuses facts asked (λ recorded. Resolved recorded (Ok settings)) → HasControlPath (Ok (Some path)) settings asked.original facts → (of_command (machine files statuses facts) (commands.Control asked what) ≡ Certain (joins_at asked what path)) ⊎ (of_command (machine files statuses facts) (commands.Control asked what) ≡ Client asked what)
unfolding of_command machine
client-found None statuses facts asked what settings path h p = inr refl
client-found (Some files) None facts asked what settings path h p = inr refl
client-found (Some files) (Some statuses) facts asked what settings path h p =
    let recorded = recorded_of (machine_of files statuses facts) asked in
    inl (ap (λ o. Certain o) (path-is files statuses facts asked what settings (Ok (Some path)) h (p recorded (all_rows recorded) (settled files statuses facts asked settings h))))

pub client-unset : (files : Option (List Pair)) (statuses : Option (List CommandStatus)) (facts : Facts) (asked : Asked) (what : MasterCommand) (settings : List Given) → Promise files statuses facts asked (λ recorded. Resolved recorded (Ok settings)) → HasControlPath (Ok None) settings asked.original facts → IsRunRefused (of_command (machine files statuses facts) (commands.Control asked what)) NoControlPath
unfolding of_command machine
client-unset None statuses facts asked what settings h p = refl
client-unset (Some files) None facts asked what settings h p = refl
client-unset (Some files) (Some statuses) facts asked what settings h p =
    let recorded = recorded_of (machine_of files statuses facts) asked in
    subst (λ o. IsRunRefused (Certain o) NoControlPath) (sym (path-is files statuses facts asked what settings (Ok None) h (p recorded (all_rows recorded) (settled files statuses facts asked settings h)))) refl

pub client-unlisted : (files : Option (List Pair)) (statuses : Option (List CommandStatus)) (facts : Facts) (asked : Asked) (what : MasterCommand) (settings : List Given) (e : ListError) → Promise files statuses facts asked (λ recorded. Resolved recorded (Ok settings)) → HasControlPath (Err e) settings asked.original facts → IsRunRefused (of_command (machine files statuses facts) (commands.Control asked what)) (ending_shown (unlisted_as e))
unfolding of_command machine
client-unlisted files statuses facts asked what settings list_errors.OutOfMemory h p = tt
client-unlisted None statuses facts asked what settings (list_errors.Token key error) h p = refl
client-unlisted (Some files) None facts asked what settings (list_errors.Token key error) h p = refl
client-unlisted (Some files) (Some statuses) facts asked what settings (list_errors.Token key error) h p =
    let recorded = recorded_of (machine_of files statuses facts) asked in
    subst (λ o. IsRunRefused (Certain o) (BadListing (list_errors.Token key error))) (sym (path-is files statuses facts asked what settings (Err (list_errors.Token key error)) h (p recorded (all_rows recorded) (settled files statuses facts asked settings h)))) refl
