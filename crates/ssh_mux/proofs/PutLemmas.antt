-- How often bytes are handed over.
use Rattle.std.proofs.Common.{◌≡◌, inl, inr, ℕ, Bool, true, false, List, Option, Some, None, Result, Ok, Err, refl}
use Rattle.std.specs.Bool.{OnTrue, OnFalse}
use Rattle.conf_rules.specs.declared.asked.Asked.{Asked}
use Rattle.conf_rules.specs.declared.causes.ListError.{ListError}
use Rattle.conf_rules.specs.declared.causes.ResolveError.{ResolveError}
use Rattle.conf_rules.specs.declared.command.Command.TheVariants as commands
use Rattle.conf_rules.specs.declared.control.MasterCommand.{MasterCommand}
use Rattle.conf_rules.specs.Diagnostics.{Ending, BadLine}
use Rattle.conf_rules.specs.Listing.{control_path_at}
use Rattle.conf_rules.specs.CommandOutcome.{CommandOutcome, Ends, Writes, Opens, Drills, Joins, Machine, joined_end, recorded_of, unrefused}
use Rattle.conf_rules.specs.Resolution.{all_rows, refusal_in}
use Rattle.conf_rules.specs.Rows.{LineRow}
use Rattle.conf_rules.specs.Texts.{Bytes}
use Rattle.mux_outside.specs.Counts.{counted}
use Rattle.ssh_mux.specs.declared.ending.Ending.{Ending as MeantEnding}
use Rattle.ssh_mux.specs.declared.ending.Ending.TheVariants as endings
use Rattle.ssh_mux.specs.declared.status.Status.{Status}
use Rattle.ssh_mux.specs.declared.status.Status.TheVariants as statuses
use Rattle.ssh_mux.specs.Answers.{IsWell, has_no_line, so_far}
use Rattle.ssh_mux.specs.Err.{Reports}
use Rattle.ssh_mux.specs.Out.{HandsOver}
use Rattle.ssh_mux.specs.Outcomes.{KnownCommand, Certain, Listing, Master, Client, of_command, writes_out}
use Rattle.ssh_mux.specs.Puts.{PutsOnce, prints}
use Rattle.ssh_mux.specs.Status.{status_of}
use Rattle.ssh_mux.proofs.EndLemmas.{carried, reported}
use Rattle.ssh_mux.proofs.StillLemmas.{loud}

-- an ending before anything is handed over
pub quiet-puts : (status : Status) (count : ℕ) → has_no_line status ≡ false → PutsOnce status count count
quiet-puts statuses.Done count e = absurd cc
quiet-puts statuses.Write count e = absurd cc
quiet-puts statuses.Memory count e = inl refl
quiet-puts status count e = refl

-- a text was handed over
pub handed-puts : (text : Bytes) (result : Result Status MeantEnding) (before now : Option (List ℕ)) (n m : ℕ) → HandsOver result text before now → m ≡ counted n → PutsOnce (so_far result) n m
handed-puts text (Ok statuses.Done) before now n m h e = e
handed-puts text (Ok statuses.Write) before now n m h e = e
handed-puts text (Ok status) before now n m h e = absurd h
handed-puts text (Err endings.NoMemory) before now n m h e = inr e
handed-puts text (Err ending) before now n m h e = absurd h

-- after the line
puts-starved : (status : Status) (n m : ℕ) → has_no_line status ≡ false → PutsOnce status n m → PutsOnce statuses.Memory n m
puts-starved statuses.Done n m e h = absurd cc
puts-starved statuses.Write n m e h = absurd cc
puts-starved statuses.Memory n m e h = h
puts-starved status n m e h = inl h

on-starved : (b : Bool) (status : Status) (n m : ℕ) → has_no_line status ≡ false → OnTrue b (PutsOnce status n m) → OnTrue b (PutsOnce statuses.Memory n m)
on-starved true status n m e h = puts-starved status n m e h
on-starved false status n m e h = tt

pub puts_after : (b : Bool) (status : Status) (ending : Ending) (x y : Option (List ℕ)) (f f' n m : ℕ) → Reports status ending x y f f' → OnTrue b (PutsOnce (status_of ending) n m) → OnTrue b (PutsOnce status n m)
puts_after b status ending x y f f' n m r h = carried (λ s. OnTrue b (PutsOnce s n m)) status ending (reported status ending x y f f' r) (on-starved b (status_of ending) n m (loud ending) h) h

-- a status without a line
pub well-puts : (k : KnownCommand) (status : Status) (P : Type 0) → IsWell k status → OnFalse (has_no_line status) P
well-puts k statuses.Done P w = tt
well-puts k statuses.Write P w = tt
well-puts k status P w = absurd w

pub loud-puts : (b : Bool) (P : Type 0) → P → OnFalse b P
loud-puts true P h = tt
loud-puts false P h = h

-- what neither lists nor drills prints nothing
pub unprinted : (k : KnownCommand) → writes_out k ≡ false → prints k ≡ false
unprinted (Certain (Ends ending)) e = refl
unprinted (Certain (Writes text)) e = absurd cc
unprinted (Certain (Opens control transport ps)) e = refl
unprinted (Certain (Drills seed clients messages)) e = absurd cc
unprinted (Certain (Joins control asked what)) e = refl
unprinted Listing e = absurd cc
unprinted (Master transport ps) e = refl
unprinted (Client asked what) e = refl

unprinted-rows : (rows : List LineRow) (x : CommandOutcome) → prints (Certain x) ≡ false → prints (Certain (unrefused rows x)) ≡ false
unprinted-rows rows x h = on (refusal_in rows) where
  on : (r : Option ResolveError) → prints (Certain (elim r [ Some e ↦ Ends (BadLine e) | None ↦ x ])) ≡ false
  on (Some e) = refl
  on None = h

unprinted-joined : (asked : Asked) (what : MasterCommand) (r : Result (Option Bytes) ListError) → prints (Certain (joined_end asked what r)) ≡ false
unprinted-joined asked what (Ok (Some path)) = refl
unprinted-joined asked what (Ok None) = refl
unprinted-joined asked what (Err e) = refl

pub client-unprinted : (m : Option Machine) (asked : Asked) (what : MasterCommand) → prints (of_command m (commands.Control asked what)) ≡ false
unfolding of_command
client-unprinted None asked what = refl
client-unprinted (Some m) asked what = unprinted-rows (all_rows (recorded_of m asked)) (joined_end asked what (control_path_at (recorded_of m asked) (all_rows (recorded_of m asked)))) (unprinted-joined asked what (control_path_at (recorded_of m asked) (all_rows (recorded_of m asked))))
