-- The outcome of words before a line is written of it, from what each command does, and to a run.
use Rattle.std.proofs.Common.{◌≡◌, ◌||◌, ℕ, true, false, List, Option, Result, Ok, Err, refl, sym, ap, subst}
use Rattle.std.specs.Prelude.{IsTrue}
use Rattle.std.specs.Bool.{OnFalse, OnTrue}
use Rattle.conf_command.specs.declared.reader.WordsError.{WordsError}
use Rattle.conf_command.specs.Results.{CommandFails}
use Rattle.conf_rules.specs.declared.asked.Asked.{Asked}
use Rattle.conf_rules.specs.declared.command.Command.TheVariants as commands
use Rattle.conf_rules.specs.declared.control.MasterCommand.{MasterCommand}
use Rattle.conf_rules.specs.CommandOutcome.{Drills, Machine}
use Rattle.conf_rules.specs.Reading.{reading}
use Rattle.conf_rules.specs.Texts.{Bytes}
use Rattle.conf_rules.specs.Recorded.{Recorded}
use Rattle.mux_engine.specs.OwnFaults.{OwnCounted}
use Rattle.mux_engine.specs.Rests.{refusal_after}
use Rattle.mux_outside.specs.declared.facts.Facts.{Facts}
use Rattle.mux_outside.specs.declared.house.HouseReply.{HouseReply}
use Rattle.mux_outside.specs.Counts.{counted}
use Rattle.mux_outside.specs.Faults.{Faults}
use Rattle.mux_outside.specs.House.{HouseState}
use Rattle.mux_outside.specs.WireState.{WireState}
use Rattle.ssh_mux.specs.declared.ending.Ending.{Ending}
use Rattle.ssh_mux.specs.declared.status.Status.{Status}
use Rattle.ssh_mux.specs.Answers.{Comes, may_have_joined, may_open_wire, may_share, may_show, may_write, reaches, serves_house, so_far, touches}
use Rattle.ssh_mux.specs.Causes.{Caused, OutCause}
use Rattle.ssh_mux.specs.Client.{ClientLeaves, ConversesFor, JoinsOnce, TalksFor}
use Rattle.ssh_mux.specs.Commands.{RunsFor, commands_for, commands_of}
use Rattle.ssh_mux.specs.Drill.{DrillGoes}
use Rattle.ssh_mux.specs.Ending.{misread_as, ending_shown}
use Rattle.ssh_mux.specs.Err.{IsRecordedBy, Reports}
use Rattle.ssh_mux.specs.Looks.{Looks, coming, machine_of_sources}
use Rattle.ssh_mux.specs.Out.{OutTakes}
use Rattle.ssh_mux.specs.Outcomes.{KnownCommand, Certain, drills, of_words, opens}
use Rattle.ssh_mux.specs.Places.{Placed, recorded_for, recorded_over}
use Rattle.ssh_mux.specs.Puts.{PutsOnce, prints}
use Rattle.ssh_mux.specs.Reads.{RunReadsFor}
use Rattle.ssh_mux.specs.Runs.{Runs}
use Rattle.ssh_mux.specs.Sharing.{CallsEnd, CameFor, CountsFor, IdleCause, MasterLeaves, OpensOnce, SharesFor, StartCause, WaitsFor, WireCause, here_in, pid_of, policy_in}
use Rattle.ssh_mux.specs.Starts.{BegunRests, MustsAs, must_for}
use Rattle.ssh_mux.specs.World.{OutState, Sockets, Sources, world}
use Rattle.ssh_mux.proofs.AnswerLemmas.{asked_after, asked_cause_after, asked_waits_after, asked_well, joined_after}
use Rattle.ssh_mux.proofs.DrillLemmas.{drill-cause, drill-comes, drill-takes, drill-touches, drill_after, drill_well, drilled-placed, still-drill}
use Rattle.ssh_mux.proofs.EndLemmas.{calls_after, came_after, ended, ended-well, fault_after, idle_after, must_after, opened_after, out_after, runs_after, shared_after, shared_well, sink_after, start_after, stays_after, waits_after, well-cause, wire_after}
use Rattle.ssh_mux.proofs.JoinLemmas.{client-shut, client-taken, client-undrilled, list-unasked, master-unasked}
use Rattle.ssh_mux.proofs.MisreadLemmas.{drilled-runs, misread, misread-cause, misread-runs}
use Rattle.ssh_mux.proofs.OwnLemmas.{neither, still-own}
use Rattle.ssh_mux.proofs.PlaceLemmas.{misread-place}
use Rattle.ssh_mux.proofs.PutLemmas.{client-unprinted, loud-puts, puts_after, quiet-puts, unprinted, well-puts}
use Rattle.ssh_mux.proofs.ReadLemmas.{drilled-reads, misread-reads, reads_after}
use Rattle.ssh_mux.proofs.RefusalLemmas.{list-shut, list-undrilled, master-quiet, master-undrilled}
use Rattle.ssh_mux.proofs.SharingLemmas.{none-counted, none-opened, none-taken}
use Rattle.ssh_mux.proofs.StillLemmas.{else-or, follows, for-master, loud, not_false, not_true, on_false, on_true, or-else, quiet-count, quiet-out, refused-came, refused-waits, shut, shut-all, still-calls, still-caused, still-due, still-idle, still-must, still-opened, still-shared, still-start, unopened-waits, untouched, where_false}
use Rattle.ssh_mux.proofs.TalkLemmas.{none-joined, refused-unjoined, still-asked-cause, still-asked-waits, still-joined, still-talked, unasked}
use Rattle.conf_rules.specs.declared.command.Permissions.{Permissions}

-- ---- the outcome of words

-- By what is known of them, what is recorded for them and the commands that are due: from what
-- sources, sockets and the output showed to what they show.
pub record Obeyed {T : Type 0} (known : KnownCommand) (recorded : Option Recorded) (due : Option (List Bytes)) (words : List Bytes) (pid turns : ℕ) (May : HouseReply → Type 0) (state : T → HouseState) (result : Result Status Ending) (s s' : Sources) (k k' : Sockets) (out out' : OutState) : Type 0 where
  pub exact : Comes known result
  pub place : Placed recorded result s.commands.ran s'.commands.ran s.files.failed s'.files.failed
  pub cause : Caused result s.files.faults s'.files.faults s.commands.faults s'.commands.faults
  pub takes : OutTakes (so_far result) known out.recorded out'.recorded
  pub out_cause : OutCause (so_far result) out.faults out'.faults
  pub out_once : OnTrue (prints known) (PutsOnce (so_far result) out.puts out'.puts)
  pub ran : RunsFor due (so_far result) s.commands.ran s'.commands.ran
  pub read : RunReadsFor recorded (so_far result) s.files.readings s'.files.readings
  pub opened : OpensOnce known (so_far result) k.wire.openings k'.wire.openings
  pub joined : JoinsOnce known (so_far result) k.wire.joinings k'.wire.joinings
  pub shared : SharesFor May state known recorded pid turns k k' result
  pub start : OnTrue (may_share known (so_far result)) (StartCause (so_far result) (refusal_after k.house k'.house))
  pub must : IsTrue k.house.known.present → OnTrue (may_share known (so_far result)) (MustsAs (so_far result) (must_for recorded) k'.house.must)
  pub wire_cause : OnTrue (touches known (so_far result)) (WireCause (so_far result) k.faults k'.faults)
  pub own_faults : OnTrue (opens known || drills known) (OwnCounted k.wire.seen.recorded k'.wire.seen.recorded k.faults.own k'.faults.own)
  pub asked : ConversesFor known k.wire.seen.recorded k'.wire.seen.recorded out.recorded out'.recorded result
  pub asked_cause : OnTrue (may_have_joined known (so_far result)) (WireCause (so_far result) k.faults k'.faults)
  pub asked_waits : OnTrue (may_have_joined known (so_far result)) (TalksFor turns (so_far result) k.wire.calls k'.wire.calls)
  pub calls : CallsEnd turns (so_far result) k.wire.calls k'.wire.calls
  pub unopened : OnFalse (touches known (so_far result)) (k'.wire.calls.opens ≡ k.wire.calls.opens)
  pub came : OnTrue (touches known (so_far result)) (CameFor (so_far result) k.wire.calls k'.wire.calls)
  pub waited : OnFalse (serves_house k.house.known.present known) (OnTrue (touches known (so_far result)) (WaitsFor turns (so_far result) k.wire.calls k'.wire.calls))
  pub idle : turns ≡ 0 → OnFalse (serves_house k.house.known.present known) (IdleCause (so_far result) k.faults k'.faults)
  pub drill : OnTrue (drills known) (DrillGoes words turns result k.wire k'.wire out.recorded out'.recorded)
  pub still_wire : OnFalse (reaches known (so_far result)) (k'.wire.seen.recorded ≡ k.wire.seen.recorded)
  pub still_house : OnFalse (may_share known (so_far result)) (k'.house.recorded ≡ k.house.recorded)
  pub still_out : OnFalse (may_show known (so_far result)) (out'.recorded ≡ out.recorded)

-- ---- a run

module _ {T : Type 0} (words : List Bytes) (facts : Facts) (turns : ℕ) (May : HouseReply → Type 0) (state : T → HouseState) (s s' : Sources) (k k' : Sockets) (out out' : OutState) where
  abbrev Known_ : KnownCommand
  Known_ = of_words (machine_of_sources s facts) words

  abbrev Recorded_ : Option Recorded
  Recorded_ = recorded_for (machine_of_sources s facts) words

  abbrev Obeys : Result Status Ending → Type 0
  Obeys result = Obeyed Known_ Recorded_ (commands_for (machine_of_sources s facts) words) words (pid_of facts.pid) turns May state result s s' k k' out out'

  -- without a line
  well-runs : (status : Status) (err : OutState) → Obeys (Ok status) → Runs words facts (world k s out err) May state turns status (world k' s' out' err)
  well-runs status err h = record {
    shared = shared_well May (BegunRests state k.house.known.present) k'.house (here_in Known_) Recorded_ (policy_in Known_) (pid_of facts.pid) turns k.house.recorded k'.house.recorded k.wire.seen.recorded k'.wire.seen (refusal_after k.house k'.house) err.recorded err.faults (may_share Known_ status) status h.shared;
    ended = ended-well Known_ Recorded_ status (world k s out err) (world k' s' out' err) refl h.exact;
    err_once = well-puts Known_ status (err.puts ≡ counted err.puts) h.exact;
    fault_cause = well-cause Known_ status s.files.faults s'.files.faults s.commands.faults s'.commands.faults h.exact h.cause;
    out = h.takes;
    out_cause = h.out_cause;
    out_once = h.out_once;
    ran = h.ran;
    read = h.read;
    asked = asked_well k.wire.seen.recorded k'.wire.seen.recorded out.recorded out'.recorded err.recorded err.faults Known_ status h.asked;
    joined = h.joined;
    asked_cause = h.asked_cause;
    asked_waits = h.asked_waits;
    must = h.must;
    start = h.start;
    drill = drill_well (drills Known_) words turns status k k' s s' out out' err h.drill;
    opened = h.opened;
    unopened = h.unopened;
    wire_cause = h.wire_cause;
    own_faults = h.own_faults;
    calls = h.calls;
    came = h.came;
    waited = h.waited;
    idle = h.idle;
  }

  -- with one
  recorded-runs : (meant : Ending) (status : Status) (err err' : OutState) → Obeys (Err meant) → Reports status (ending_shown meant) err.recorded err'.recorded err.faults err'.faults → err'.puts ≡ counted err.puts → Runs words facts (world k s out err) May state turns status (world k' s' out' err')
  recorded-runs meant status err err' h r once = let e : Rattle.conf_rules.specs.Diagnostics.Ending = ending_shown meant in record {
    shared = shared_after May (BegunRests state k.house.known.present) k'.house (here_in Known_) Recorded_ (policy_in Known_) (pid_of facts.pid) turns k.house.recorded k'.house.recorded k.wire.seen.recorded k'.wire.seen (refusal_after k.house k'.house) err.recorded err'.recorded err.faults err'.faults Known_ status meant r h.shared h.still_wire h.still_house;
    ended = ended Known_ Recorded_ status e (world k s out err) (world k' s' out' err') h.exact h.cause h.place r;
    err_once = loud-puts _ (err'.puts ≡ counted err.puts) once;
    fault_cause = fault_after status e err.recorded err'.recorded err.faults err'.faults _ _ _ _ r h.cause;
    out = out_after Known_ status e err.recorded err'.recorded err.faults err'.faults _ _ r h.takes;
    out_cause = sink_after status e err.recorded err'.recorded err.faults err'.faults _ _ r h.out_cause;
    out_once = puts_after (prints Known_) status e err.recorded err'.recorded err.faults err'.faults out.puts out'.puts r h.out_once;
    ran = runs_after _ status e err.recorded err'.recorded err.faults err'.faults _ _ r h.ran;
    read = reads_after Recorded_ status e err.recorded err'.recorded err.faults err'.faults _ _ r h.read;
    asked = asked_after k.wire.seen.recorded k'.wire.seen.recorded out.recorded out'.recorded err.recorded err'.recorded err.faults err'.faults Known_ status meant r h.asked h.still_wire h.still_out;
    joined = joined_after Known_ status e err.recorded err'.recorded err.faults err'.faults _ _ r h.joined;
    asked_cause = asked_cause_after Known_ status e err.recorded err'.recorded err.faults err'.faults k.faults k'.faults r h.asked_cause;
    asked_waits = asked_waits_after Known_ turns status e err.recorded err'.recorded err.faults err'.faults k.wire.calls k'.wire.calls r h.asked_waits;
    must = λ p. must_after Known_ (must_for Recorded_) k'.house.must status e err.recorded err'.recorded err.faults err'.faults r (h.must p);
    start = start_after Known_ status e err.recorded err'.recorded err.faults err'.faults (refusal_after k.house k'.house) r h.start;
    drill = drill_after (drills Known_) words turns meant status k k' s s' out out' err err' r h.drill;
    opened = opened_after Known_ status e err.recorded err'.recorded err.faults err'.faults _ _ r h.opened;
    unopened = stays_after _ _ status e err.recorded err'.recorded err.faults err'.faults r h.unopened;
    wire_cause = wire_after Known_ status e err.recorded err'.recorded err.faults err'.faults k.faults k'.faults r h.wire_cause;
    own_faults = h.own_faults;
    calls = calls_after turns status e err.recorded err'.recorded err.faults err'.faults k.wire.calls k'.wire.calls r h.calls;
    came = came_after Known_ status e err.recorded err'.recorded err.faults err'.faults k.wire.calls k'.wire.calls r h.came;
    waited = follows _ _ _ (waits_after Known_ turns status e err.recorded err'.recorded err.faults err'.faults k.wire.calls k'.wire.calls r) h.waited;
    idle = λ z. follows _ _ _ (idle_after status e err.recorded err'.recorded err.faults err'.faults k.faults k'.faults r) (h.idle z);
  }

  -- whatever line was written of it
  obeys-runs : (result : Result Status Ending) → Obeys result → (status : Status) (err err' : OutState) → IsRecordedBy result status err err' → Runs words facts (world k s out err) May state turns status (world k' s' out' err')
  obeys-runs (Ok due) h status err err' e = subst (λ x. Runs words facts (world k s out err) May state turns x (world k' s' out' err')) (sym e.0) (subst (λ x. Runs words facts (world k s out err) May state turns due (world k' s' out' x)) (sym e.1) (well-runs due err h))
  obeys-runs (Err meant) h status err err' e = recorded-runs meant status err err' h e.0 e.1

  -- where it is so much that is known, recorded and due
  pub obeyed-runs : (known : KnownCommand) (recorded : Option Recorded) (due : Option (List Bytes)) (result : Result Status Ending) → of_words (machine_of_sources s facts) words ≡ known → recorded_for (machine_of_sources s facts) words ≡ recorded → commands_for (machine_of_sources s facts) words ≡ due → Obeyed known recorded due words (pid_of facts.pid) turns May state result s s' k k' out out' → (status : Status) (err err' : OutState) → IsRecordedBy result status err err' → Runs words facts (world k s out err) May state turns status (world k' s' out' err')
  obeyed-runs known recorded due result a b c h = obeys-runs result (subst (λ x. Obeyed x Recorded_ (commands_for (machine_of_sources s facts) words) words (pid_of facts.pid) turns May state result s s' k k' out out') (sym a) (subst (λ x. Obeyed known x (commands_for (machine_of_sources s facts) words) words (pid_of facts.pid) turns May state result s s' k k' out out') (sym b) (subst (λ x. Obeyed known recorded x words (pid_of facts.pid) turns May state result s s' k k' out out') (sym c) h)))

-- ---- from what each command does

module _ {T : Type 0} (words : List Bytes) (pid turns : ℕ) (May : HouseReply → Type 0) (state : T → HouseState) where
  -- words that have no reading
  pub misread-obeyed : (m : Option Machine) (e : WordsError) (s : Sources) (k : Sockets) (out : OutState) → CommandFails e (reading words) → Obeyed (of_words m words) (recorded_for m words) (commands_for m words) words pid turns May state (Err (misread_as e)) s s k k out out
  misread-obeyed m e s k out fails = let r = misread m words e fails in record {
    exact = still-due _ _ r;
    place = misread-place _ _ _ _ _ _;
    cause = misread-cause _ _ _;
    takes = quiet-out _ _ _ (loud _);
    out_cause = quiet-count _ _ (loud _);
    out_once = on_true _ _ (quiet-puts _ _ (loud _));
    ran = misread-runs m words e _ fails;
    read = misread-reads m words e _ fails;
    opened = still-opened _ _ _ r;
    joined = still-joined _ _ _ r;
    shared = still-shared (of_words m words) (misread_as e) May (BegunRests state k.house.known.present) k.house (here_in (of_words m words)) (recorded_for m words) (policy_in (of_words m words)) pid turns k.house.recorded k.wire.seen (refusal_after k.house k.house) r;
    start = still-start _ _ _ r;
    must = λ p. still-must _ _ _ _ r;
    wire_cause = still-caused _ _ _ _ r;
    own_faults = on_true _ _ (still-own k.wire.seen.recorded k.faults.own);
    asked = still-talked _ _ _ _ (refused-unjoined _ _ r);
    asked_cause = still-asked-cause _ _ _ _ (refused-unjoined _ _ r);
    asked_waits = still-asked-waits _ _ turns k.wire.calls k.wire.calls (refused-unjoined _ _ r);
    calls = still-calls turns _ k.wire.calls;
    unopened = where_false _ _ refl;
    came = refused-came _ _ k.wire.calls k.wire.calls r;
    waited = refused-waits (serves_house k.house.known.present (of_words m words)) _ _ turns k.wire.calls k.wire.calls r;
    idle = λ z. where_false _ _ (still-idle _ k.faults);
    drill = still-drill _ (misread_as e) words turns k.wire out.recorded r;
    still_wire = on_false _ _;
    still_house = on_false _ _;
    still_out = on_false _ _;
  }

  -- a listing
  pub list-obeyed : (facts : Facts) (asked : Asked) (result : Result Status Ending) (s s' : Sources) (k : Sockets) (out out' : OutState) → Looks facts (commands.List asked) asked result s s' → OutTakes (so_far result) (coming s facts (commands.List asked)) out.recorded out'.recorded → OutCause (so_far result) out.faults out'.faults → PutsOnce (so_far result) out.puts out'.puts → OnFalse (may_write (so_far result)) (out'.recorded ≡ out.recorded)
      → Obeyed (coming s facts (commands.List asked)) (recorded_over (machine_of_sources s facts) asked) (commands_of (machine_of_sources s facts) (commands.List asked)) words pid turns May state result s s' k k out out'
  list-obeyed facts asked result s s' k out out' looks takes out_cause once unwritten = let m = machine_of_sources s facts in let known = coming s facts (commands.List asked) in record {
    exact = looks.exact;
    place = looks.place;
    cause = looks.cause;
    takes = takes;
    out_cause = out_cause;
    out_once = on_true _ _ once;
    ran = looks.ran;
    read = looks.read;
    opened = none-opened _ _ _ (list-shut m asked);
    joined = none-joined _ _ _ _ (list-unasked m asked) refl;
    shared = not_true _ _ (shut _ _ (list-shut m asked));
    start = not_true _ _ (shut _ _ (list-shut m asked));
    must = λ p. not_true _ _ (shut _ _ (list-shut m asked));
    wire_cause = not_true _ _ (shut-all _ _ (list-shut m asked) (list-undrilled m asked));
    own_faults = on_true _ _ (still-own k.wire.seen.recorded k.faults.own);
    asked = not_true _ _ (unasked _ _ (list-unasked m asked));
    asked_cause = not_true _ _ (unasked _ _ (list-unasked m asked));
    asked_waits = not_true _ _ (unasked _ _ (list-unasked m asked));
    calls = still-calls turns _ k.wire.calls;
    unopened = where_false _ _ refl;
    came = not_true _ _ (shut-all _ _ (list-shut m asked) (list-undrilled m asked));
    waited = unopened-waits (serves_house k.house.known.present known) known (so_far result) turns k.wire.calls k.wire.calls (list-shut m asked) (list-undrilled m asked);
    idle = λ z. where_false _ _ (still-idle _ k.faults);
    drill = not_true _ _ (list-undrilled m asked);
    still_wire = on_false _ _;
    still_house = on_false _ _;
    still_out = or-else (may_write (so_far result)) (may_have_joined known (so_far result)) (out'.recorded ≡ out.recorded) unwritten;
  }

  -- a master
  pub master-obeyed : (facts : Facts) (asked : Asked) (transport : Bytes) (ps : Permissions) (result : Result Status Ending) (s s' : Sources) (k k' : Sockets) (out : OutState) → Looks facts (commands.Master asked transport ps) asked result s s' → MasterLeaves May state (coming s facts (commands.Master asked transport ps)) (recorded_over (machine_of_sources s facts) asked) pid turns result k k' → OnFalse (may_share (coming s facts (commands.Master asked transport ps)) (so_far result)) ((k'.wire ≡ k.wire) × (k'.house.recorded ≡ k.house.recorded))
      → Obeyed (coming s facts (commands.Master asked transport ps)) (recorded_over (machine_of_sources s facts) asked) (commands_of (machine_of_sources s facts) (commands.Master asked transport ps)) words pid turns May state result s s' k k' out out
  master-obeyed facts asked transport ps result s s' k k' out looks leaves still =
      let m = machine_of_sources s facts in
      let known : KnownCommand = coming s facts (commands.Master asked transport ps) in
      let status : Status = so_far result in
      let none : drills known ≡ false = master-undrilled m asked transport ps in
      let quiet = master-quiet m asked transport ps in
      let apart = master-unasked m asked transport ps in
      record {
        exact = looks.exact;
        place = looks.place;
        cause = looks.cause;
        takes = none-taken known status out.recorded quiet;
        out_cause = none-counted known result out.faults quiet looks.exact;
        out_once = not_true _ _ (unprinted known quiet);
        ran = looks.ran;
        read = looks.read;
        opened = leaves.opened;
        joined = none-joined known status k.wire.joinings k'.wire.joinings apart leaves.joinings;
        shared = leaves.served;
        start = leaves.start;
        must = leaves.must;
        wire_cause = for-master (may_open_wire status) (opens known) (drills known) (WireCause status k.faults k'.faults) none leaves.wire_cause;
        own_faults = on_true _ _ leaves.own_faults;
        asked = not_true _ _ (unasked known status apart);
        asked_cause = not_true _ _ (unasked known status apart);
        asked_waits = not_true _ _ (unasked known status apart);
        calls = leaves.calls;
        unopened = untouched (may_open_wire status) (opens known) (drills known) (k'.wire.calls.opens ≡ k.wire.calls.opens) (follows (may_share known status) ((k'.wire ≡ k.wire) × (k'.house.recorded ≡ k.house.recorded)) (k'.wire.calls.opens ≡ k.wire.calls.opens) (λ e. ap (λ (w : WireState). w.calls.opens) e.0) still);
        came = for-master (may_open_wire status) (opens known) (drills known) (CameFor status k.wire.calls k'.wire.calls) none leaves.came;
        waited = follows (serves_house k.house.known.present known) (OnTrue (may_share known status) (WaitsFor turns status k.wire.calls k'.wire.calls)) (OnTrue (touches known status) (WaitsFor turns status k.wire.calls k'.wire.calls)) (for-master (may_open_wire status) (opens known) (drills known) (WaitsFor turns status k.wire.calls k'.wire.calls) none) leaves.waited;
        idle = leaves.idle;
        drill = not_true _ _ none;
        still_wire = or-else (touches known status) (may_have_joined known status) (k'.wire.seen.recorded ≡ k.wire.seen.recorded) (untouched (may_open_wire status) (opens known) (drills known) (k'.wire.seen.recorded ≡ k.wire.seen.recorded) (follows (may_share known status) ((k'.wire ≡ k.wire) × (k'.house.recorded ≡ k.house.recorded)) (k'.wire.seen.recorded ≡ k.wire.seen.recorded) (λ e. ap (λ (w : WireState). w.seen.recorded) e.0) still));
        still_house = follows (may_share known status) ((k'.wire ≡ k.wire) × (k'.house.recorded ≡ k.house.recorded)) (k'.house.recorded ≡ k.house.recorded) (λ e. e.1) still;
        still_out = on_false _ _;
      }

  -- a client
  pub client-obeyed : (facts : Facts) (asked : Asked) (what : MasterCommand) (result : Result Status Ending) (s s' : Sources) (w w' : WireState) (f f' : Faults) (house : HouseState) (out out' : OutState) → Looks facts (commands.Control asked what) asked result s s' → ClientLeaves (coming s facts (commands.Control asked what)) turns result w w' f f' out out' → OnFalse (may_have_joined (coming s facts (commands.Control asked what)) (so_far result)) ((w' ≡ w) × (out'.recorded ≡ out.recorded))
      → Obeyed (coming s facts (commands.Control asked what)) (recorded_over (machine_of_sources s facts) asked) (commands_of (machine_of_sources s facts) (commands.Control asked what)) words pid turns May state result s s' (record { wire = w; faults = f; house = house }) (record { wire = w'; faults = f'; house = house }) out out'
  client-obeyed facts asked what result s s' w w' f f' house out out' looks leaves still =
      let m = machine_of_sources s facts in
      let known : KnownCommand = coming s facts (commands.Control asked what) in
      let status : Status = so_far result in
      let none = client-undrilled m asked what in
      let closed = client-shut m asked what in
      let unwritten : OnFalse (may_have_joined known status) (out'.recorded ≡ out.recorded) = follows (may_have_joined known status) ((w' ≡ w) × (out'.recorded ≡ out.recorded)) (out'.recorded ≡ out.recorded) (λ e. e.1) still in
      record {
        exact = looks.exact;
        place = looks.place;
        cause = looks.cause;
        takes = client-taken m asked what status out.recorded out'.recorded unwritten;
        out_cause = leaves.out_cause;
        out_once = not_true _ _ (client-unprinted m asked what);
        ran = looks.ran;
        read = looks.read;
        opened = subst (λ x. OpensOnce known status w.openings x) (sym leaves.openings) (none-opened known status w.openings closed);
        joined = leaves.joined;
        shared = not_true _ _ (shut known status closed);
        start = not_true _ _ (shut known status closed);
        must = λ p. not_true _ _ (shut known status closed);
        wire_cause = not_true _ _ (shut-all known status closed none);
        own_faults = not_true _ _ (neither (opens known) (drills known) closed none);
        asked = leaves.talked;
        asked_cause = leaves.wire_cause;
        asked_waits = leaves.waited;
        calls = leaves.calls;
        unopened = where_false _ _ leaves.unopened;
        came = not_true _ _ (shut-all known status closed none);
        waited = unopened-waits (serves_house house.known.present known) known status turns w.calls w'.calls closed none;
        idle = λ z. where_false _ _ (leaves.idle z);
        drill = not_true _ _ none;
        still_wire = else-or (touches known status) (may_have_joined known status) (w'.seen.recorded ≡ w.seen.recorded) (follows (may_have_joined known status) ((w' ≡ w) × (out'.recorded ≡ out.recorded)) (w'.seen.recorded ≡ w.seen.recorded) (λ e. ap (λ (x : WireState). x.seen.recorded) e.0) still);
        still_house = on_false _ _;
        still_out = else-or (may_write status) (may_have_joined known status) (out'.recorded ≡ out.recorded) unwritten;
      }

  -- a drill
  pub drill-obeyed : (m : Option Machine) (seed clients messages : ℕ) (result : Result Status Ending) (s : Sources) (w w' : WireState) (f f' : Faults) (house : HouseState) (out out' : OutState) → reading words ≡ Ok (commands.Drill seed clients messages) → DrillGoes words turns result w w' out.recorded out'.recorded → CountsFor false turns (so_far result) w w' f f' → OutCause (so_far result) out.faults out'.faults → PutsOnce (so_far result) out.puts out'.puts → OnFalse (may_write (so_far result)) (out'.recorded ≡ out.recorded)
      → Obeyed (Certain (Drills seed clients messages)) (recorded_for m words) (commands_for m words) words pid turns May state result s s (record { wire = w; faults = f; house = house }) (record { wire = w'; faults = f'; house = house }) out out'
  drill-obeyed m seed clients messages result s w w' f f' house out out' e goes counts out_cause once unwritten =
      let known : KnownCommand = Certain (Drills seed clients messages) in
      let status : Status = so_far result in
      let touched : touches known status ≡ true = drill-touches seed clients messages result goes.ends in
      record {
        exact = drill-comes seed clients messages result goes.ends;
        place = drilled-placed _ result _ _ _ _ goes.ends;
        cause = drill-cause result _ _ goes.ends;
        takes = drill-takes seed clients messages words turns result w w' out.recorded out'.recorded goes;
        out_cause = out_cause;
        out_once = once;
        ran = drilled-runs m words seed clients messages status _ e;
        read = drilled-reads m words seed clients messages status _ e;
        opened = tt;
        joined = none-joined known status w.joinings w'.joinings refl counts.joinings;
        shared = not_true _ _ (shut known status refl);
        start = not_true _ _ (shut known status refl);
        must = λ p. not_true _ _ (shut known status refl);
        wire_cause = on_true _ _ counts.cause;
        own_faults = on_true (opens (Certain (Drills seed clients messages)) || drills (Certain (Drills seed clients messages))) _ counts.own_faults;
        asked = not_true _ _ (unasked known status refl);
        asked_cause = not_true _ _ (unasked known status refl);
        asked_waits = not_true _ _ (unasked known status refl);
        calls = counts.calls;
        unopened = not_false _ _ touched;
        came = on_true _ _ counts.came;
        waited = where_false _ _ (on_true _ _ counts.waited);
        idle = λ z. where_false _ _ (counts.idle z);
        drill = goes;
        still_wire = or-else (touches known status) (may_have_joined known status) (w'.seen.recorded ≡ w.seen.recorded) (not_false (touches known status) (w'.seen.recorded ≡ w.seen.recorded) touched);
        still_house = on_false _ _;
        still_out = or-else (may_write status) (may_have_joined known status) (out'.recorded ≡ out.recorded) unwritten;
      }
