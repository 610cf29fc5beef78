-- What a run of the program does.
use Rattle.std.specs.Prelude.{◌≡◌, ◌||◌, ℕ, Bool, IsTrue, List, Option}
use Rattle.std.specs.Bool.{OnFalse, OnTrue}
use Rattle.conf_rules.specs.CommandOutcome.{Machine}
use Rattle.conf_rules.specs.Texts.{Bytes}
use Rattle.conf_rules.specs.Recorded.{Recorded}
use Rattle.mux_engine.specs.OwnFaults.{OwnCounted}
use Rattle.mux_engine.specs.Rests.{refusal_after}
use Rattle.mux_outside.specs.Counts.{counted}
use Rattle.mux_outside.specs.declared.facts.Facts.{Facts}
use Rattle.mux_outside.specs.declared.house.HouseReply.{HouseReply}
use Rattle.mux_outside.specs.House.{HouseState}
use Rattle.ssh_mux.specs.declared.status.Status.{Status}
use Rattle.ssh_mux.specs.Answers.{has_no_line, may_have_joined, may_share, serves_house, touches}
use Rattle.ssh_mux.specs.Causes.{FaultCause, OutCause}
use Rattle.ssh_mux.specs.Client.{AnswersFor, JoinsOnce, TalksFor}
use Rattle.ssh_mux.specs.Commands.{RunsFor, commands_for}
use Rattle.ssh_mux.specs.Drill.{IsDrill}
use Rattle.ssh_mux.specs.Err.{Ended}
use Rattle.ssh_mux.specs.Out.{OutTakes}
use Rattle.ssh_mux.specs.Outcomes.{KnownCommand, drills, machine, of_words, opens}
use Rattle.ssh_mux.specs.Places.{recorded_for}
use Rattle.ssh_mux.specs.Puts.{PutsOnce, prints}
use Rattle.ssh_mux.specs.Reads.{RunReadsFor}
use Rattle.ssh_mux.specs.Sharing.{CallsEnd, CameFor, IdleCause, OpensOnce, ServesFor}
use Rattle.ssh_mux.specs.Sharing.{StartCause, WaitsFor, WireCause, pid_of}
use Rattle.ssh_mux.specs.Starts.{MustsAs, must_for}
use Rattle.ssh_mux.specs.World.{World}

-- by these words and facts, and by what the world showed before
module _ (words : List Bytes) (facts : Facts) (before : World) where
  -- the machine, where files and commands record
  abbrev pub machine_before : Option Machine
  machine_before = machine before.files.recorded before.commands.recorded facts

  -- what is known of the words' outcome: where the machine is recorded all, and else what they ask
  -- for
  abbrev pub known : KnownCommand
  known = of_words machine_before words

  -- what files and commands record for them
  abbrev pub recorded : Option Recorded
  recorded = recorded_for machine_before words

  -- the commands that are due for them
  abbrev pub due : Option (List Bytes)
  due = commands_for machine_before words

  -- whether a forwarder is served
  abbrev pub housed : Bool
  housed = serves_house before.house.known.present known

  -- a run of so many turns at most, with a forwarder that may give such replies, which ends with
  -- this status, by what the world shows after
  pub record Runs {T : Type 0} (May : HouseReply → Type 0) (state : T → HouseState) (turns : ℕ)
      (status : Status) (after : World) : Type 0 where
    -- a master shares the connection by all its promises, with a forwarder that begins as is due
    pub shared : ServesFor May state known recorded (pid_of facts.pid) turns before after status
    -- the run ends as is due, with the one line of that end or none
    pub ended : Ended known recorded status before after
    -- that line was handed over once
    pub err_once : OnFalse (has_no_line status) (after.err.puts ≡ counted before.err.puts)
    -- a fault of a file or a command was counted exactly where its status says so
    pub fault_cause : FaultCause status before.files.faults after.files.faults
        before.commands.faults after.commands.faults
    -- the output accepted exactly the listing
    pub out : OutTakes status known before.out.recorded after.out.recorded
    -- it failed only where its status says so
    pub out_cause : OutCause status before.out.faults after.out.faults
    -- a listing or a summary was handed over once
    pub out_once : OnTrue (prints known) (PutsOnce status before.out.puts after.out.puts)
    -- exactly the commands were run that are due
    pub ran : RunsFor due status before.commands.ran after.commands.ran
    -- and exactly the files were read that the lines name
    pub read : RunReadsFor recorded status before.files.readings after.files.readings
    -- a client sends, shows and waits as its talk does, and ends as that came out
    pub asked : AnswersFor known status before after
    -- it joined the socket of the running master once
    pub joined : JoinsOnce known status before.wire.joinings after.wire.joinings
    -- its sockets failed to open, and the connection failed, only where that was counted
    pub asked_cause : OnTrue (may_have_joined known status) (WireCause status before.faults after.faults)
    -- it waited once for each turn where these are spent, and before it ended by an answer
    pub asked_waits : OnTrue (may_have_joined known status)
        (TalksFor turns status before.wire.calls after.wire.calls)
    -- with a forwarder, a forwarding of the start may be refused unless the settings say that none
    -- may
    pub must : IsTrue before.house.known.present → OnTrue (may_share known status)
        (MustsAs status (must_for recorded) after.house.must)
    -- one is recorded as refused only where one was, and none may be
    pub start : OnTrue (may_share known status)
        (StartCause status (refusal_after before.house after.house))
    -- a drill serves as a master does, with everything permitted, and sums up what was counted
    pub drill : OnTrue (drills known) (IsDrill words turns status before after)
    -- the sockets were opened once, and by a master or a drill alone
    pub opened : OpensOnce known status before.wire.openings after.wire.openings
    -- and else not
    pub unopened : OnFalse (touches known status)
        (after.wire.calls.opens ≡ before.wire.calls.opens)
    -- they failed to open, and the transport failed, only where that was counted
    pub wire_cause : OnTrue (touches known status) (WireCause status before.faults after.faults)
    -- each order of a listener or a connection that got no number was counted as an own fault
    pub own_faults : OnTrue (opens known || drills known) (OwnCounted before.wire.seen.recorded
        after.wire.seen.recorded before.faults.own after.faults.own)
    -- calls of the wire were few, and none came after one that wanted memory
    pub calls : CallsEnd turns status before.wire.calls after.wire.calls
    -- the run ended only where that came which ends it so
    pub came : OnTrue (touches known status)
        (CameFor status before.wire.calls after.wire.calls)
    -- without a forwarder it waited once for each turn where these are spent, and before it ended
    -- else
    pub waited : OnFalse housed (OnTrue (touches known status)
        (WaitsFor turns status before.wire.calls after.wire.calls))
    -- and without turns nothing failed but the opening
    pub idle : turns ≡ 0 → OnFalse housed (IdleCause status before.faults after.faults)
