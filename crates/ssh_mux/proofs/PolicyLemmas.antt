-- The permissions of a master that opens its wire are those of its words, and words that were read
-- have lists that read.
use Rattle.std.proofs.Common.{◌≡◌, ◌&&◌, Bool, true, false, List, Option, Some, None, Result, Ok, Err, refl, sym, ap, subst}
use Rattle.std.specs.Prelude.{IsOk, is_ok}
use Rattle.std.specs.Bool.{OnTrue}
use Rattle.conf_rules.specs.declared.asked.Asked.{Asked}
use Rattle.conf_rules.specs.declared.causes.ListError.{ListError}
use Rattle.conf_rules.specs.declared.causes.ResolveError.{ResolveError}
use Rattle.conf_rules.specs.declared.command.Command.TheVariants as commands
use Rattle.conf_rules.specs.Diagnostics.{BadLine}
use Rattle.conf_rules.specs.Listing.{control_path_at}
use Rattle.conf_rules.specs.CommandOutcome.{Machine, CommandOutcome, Ends, recorded_of, opened_end, unrefused}
use Rattle.conf_rules.specs.Reading.{reading}
use Rattle.conf_rules.specs.Resolution.{all_rows, refusal_in}
use Rattle.conf_rules.specs.Rows.{LineRow}
use Rattle.conf_rules.specs.Texts.{Bytes}
use Rattle.forward_rules.specs.Allows.{read_policy}
use Rattle.mux_history.specs.Policy.{read_list}
use Rattle.ssh_mux.specs.declared.status.Status.{Status}
use Rattle.ssh_mux.specs.Answers.{may_open_wire, may_share}
use Rattle.ssh_mux.specs.Outcomes.{Certain, of_command, opens}
use Rattle.ssh_mux.specs.Sharing.{permissions_in}
use Rattle.ssh_mux.proofs.Permits.{here-read, permits-read}
use Rattle.conf_rules.specs.declared.command.Permissions.{Permissions}

-- the permissions of words that were read
pub are-permitted : (words : List Bytes) (asked : Asked) (transport : Bytes) (ps : Permissions) → reading words ≡ Ok (commands.Master asked transport ps) → IsOk (read_policy ps.opens ps.listens ps.sessions)
are-permitted words asked transport ps e = ap is_ok (permits-read words asked transport ps e).1

-- words that were read permit listening here where each text is an entry
pub here-permitted : (words : List Bytes) (asked : Asked) (transport : Bytes) (ps : Permissions) → reading words ≡ Ok (commands.Master asked transport ps) → IsOk (read_list ps.here)
here-permitted words asked transport ps e = ap is_ok (here-read words asked transport ps e).1

rows-permits : (rows : List LineRow) (x : CommandOutcome) (ps : Permissions) → (opens (Certain x) ≡ true → permissions_in (Certain x) ≡ ps) → opens (Certain (unrefused rows x)) ≡ true → permissions_in (Certain (unrefused rows x)) ≡ ps
rows-permits rows x ps h = on (refusal_in rows) where
  on : (r : Option ResolveError) → opens (Certain (elim r [ Some e ↦ Ends (BadLine e) | None ↦ x ])) ≡ true → permissions_in (Certain (elim r [ Some e ↦ Ends (BadLine e) | None ↦ x ])) ≡ ps
  on (Some e) p = absurd cc
  on None p = h p

end-permits : (transport : Bytes) (ps : Permissions) (r : Result (Option Bytes) ListError) → opens (Certain (opened_end transport ps r)) ≡ true → permissions_in (Certain (opened_end transport ps r)) ≡ ps
end-permits transport ps (Ok (Some path)) p = refl
end-permits transport ps (Ok None) p = absurd cc
end-permits transport ps (Err e) p = absurd cc

opened-permits : (m : Option Machine) (asked : Asked) (transport : Bytes) (ps : Permissions) → opens (of_command m (commands.Master asked transport ps)) ≡ true → permissions_in (of_command m (commands.Master asked transport ps)) ≡ ps
unfolding of_command
opened-permits None asked transport ps p = refl
opened-permits (Some m) asked transport ps p =
    let recorded = recorded_of m asked in
    let path = control_path_at recorded (all_rows recorded) in
    rows-permits (all_rows recorded) (opened_end transport ps path) ps (end-permits transport ps path) p

carried : (opened shares : Bool) (P : Permissions → Type 0) (due ps : Permissions) → (shares ≡ true → ps ≡ due) → OnTrue (opened && shares) (P due) → OnTrue (opened && shares) (P ps)
carried true true P due ps is h = subst P (sym (is refl)) h
carried true false P due ps is h = tt
carried false shares P due ps is h = tt

-- what holds of the permissions of the words where a wire may be opened
pub with-permissions : (m : Option Machine) (asked : Asked) (transport : Bytes) (ps : Permissions) (status : Status) (P : Permissions → Type 0) → OnTrue (may_share (of_command m (commands.Master asked transport ps)) status) (P ps) → OnTrue (may_share (of_command m (commands.Master asked transport ps)) status) (P (permissions_in (of_command m (commands.Master asked transport ps))))
with-permissions m asked transport ps status P h =
    let k = of_command m (commands.Master asked transport ps) in
    carried (may_open_wire status) (opens k) P ps (permissions_in k) (opened-permits m asked transport ps) h
