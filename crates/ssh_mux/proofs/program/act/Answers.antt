use Rattle.std.proofs.Common.{◌≡◌, refl}
use Rattle.std.proofs.lemmas.Result.{err_from_is_err_and}
use Rattle.conf_rules.specs.declared.command.Command.TheVariants as commands
use Rattle.conf_rules.specs.CommandOutcome.{Drills}
use Rattle.ssh_mux.specs.Answers.{may_have_joined, may_open_wire, may_write, so_far, touches}
use Rattle.ssh_mux.specs.Looks.{coming, coming_of_words, machine_of_sources}
use Rattle.ssh_mux.specs.Outcomes.{Certain, drills, opens}
use Rattle.ssh_mux.specs.Sharing.{pid_of}
use Rattle.ssh_mux.specs.World.{output, sockets, sources}
use Rattle.ssh_mux.proofs.DrillLemmas.{drill-touches}
use Rattle.ssh_mux.proofs.EndLemmas.{same_recorded}
use Rattle.ssh_mux.proofs.JoinLemmas.{client-looks, unlisted-client}
use Rattle.ssh_mux.proofs.MisreadLemmas.{for-read, of-drill, of-read}
use Rattle.ssh_mux.proofs.NamedLemmas.{names-forwards}
use Rattle.ssh_mux.proofs.Obeyed.{client-obeyed, drill-obeyed, list-obeyed, master-obeyed, misread-obeyed, obeyed-runs}
use Rattle.ssh_mux.proofs.PlaceLemmas.{client-recorded, list-recorded, master-recorded}
use Rattle.ssh_mux.proofs.PolicyLemmas.{are-permitted, here-permitted}
use Rattle.ssh_mux.proofs.RefusalLemmas.{list-looks, master-looks}
use Rattle.ssh_mux.proofs.StillLemmas.{both-shown, else-or, first-still, not_false, on_false, or-else, second-still, untouched}
use Rattle.ssh_mux.proofs.program.act.Goals as goal

pub share-requires : goal.share-requires
share-requires g c = record { permitted = are-permitted _ _ _ _ (rw c.in-Master.is at c.requires.read); here = here-permitted _ _ _ _ (rw c.in-Master.is at c.requires.read); fresh = c.requires.fresh }

pub ask_master-requires : goal.ask_master-requires
ask_master-requires g c = record { named = names-forwards _ _ _ (rw c.in-Control.is at c.requires.read) }

pub returns-in-List-clause-runs : goal.returns-in-List-clause-runs
returns-in-List-clause-runs g c = let e = rw c.in-List.is at c.requires.read in obeyed-runs c.args.words.now c.args.facts.now c.args.turns g.H.Asks.may g.H.Asks.state (sources g.F.Files g.R.Runner c.args.files.now c.args.runner.now) (sources g.F.Files g.R.Runner c.list.new.files c.list.new.runner) (sockets g.W.Wire g.H.Asks c.args.wire.now c.args.house.now) (sockets g.W.Wire g.H.Asks c.args.wire.now c.args.house.now) (output g.S.Sink c.args.out.now) (output g.S.Sink c.list.new.out) _ _ _ c.list.result (of-read _ _ _ e) (list-recorded _ _ _ e) (for-read _ _ _ e)
    (list-obeyed c.args.words.now (pid_of c.args.facts.now.pid) c.args.turns g.H.Asks.may g.H.Asks.state c.args.facts.now c.in-List.asked c.list.result (sources g.F.Files g.R.Runner c.args.files.now c.args.runner.now) (sources g.F.Files g.R.Runner c.list.new.files c.list.new.runner) (sockets g.W.Wire g.H.Asks c.args.wire.now c.args.house.now) (output g.S.Sink c.args.out.now) (output g.S.Sink c.list.new.out) c.list.ensures.looks c.list.ensures.out c.list.ensures.out_cause c.list.ensures.once (same_recorded _ g.S.Sink.recorded _ _ c.list.ensures.unwritten))

pub returns-in-List-clause-leaves : goal.returns-in-List-clause-leaves
returns-in-List-clause-leaves g c = record {
  unwritten = or-else (may_write (so_far c.list.result)) (may_have_joined (coming_of_words (sources g.F.Files g.R.Runner c.args.files.now c.args.runner.now) c.args.facts.now c.args.words.now) (so_far c.list.result)) (c.list.new.out ≡ c.args.out.now) c.list.ensures.unwritten;
  unlisted = rw (of-read _ _ _ (rw c.in-List.is at c.requires.read)) c.list.ensures.unlisted;
  files = rw (of-read _ _ _ (rw c.in-List.is at c.requires.read)) (not_false _ _ (list-looks _ _));
  runner = rw (of-read _ _ _ (rw c.in-List.is at c.requires.read)) (not_false _ _ (list-looks _ _));
  wire = on_false _ _;
  house = on_false _ _;
}

pub returns-in-Master-clause-runs : goal.returns-in-Master-clause-runs
returns-in-Master-clause-runs g c = let e = rw c.in-Master.is at c.requires.read in obeyed-runs c.args.words.now c.args.facts.now c.args.turns g.H.Asks.may g.H.Asks.state (sources g.F.Files g.R.Runner c.args.files.now c.args.runner.now) (sources g.F.Files g.R.Runner c.share.new.files c.share.new.runner) (sockets g.W.Wire g.H.Asks c.args.wire.now c.args.house.now) (sockets g.W.Wire g.H.Asks c.share.new.wire c.share.new.house) (output g.S.Sink c.args.out.now) (output g.S.Sink c.args.out.now) _ _ _ c.share.result (of-read _ _ _ e) (master-recorded _ _ _ _ _ e) (for-read _ _ _ e)
    (master-obeyed c.args.words.now (pid_of c.args.facts.now.pid) c.args.turns g.H.Asks.may g.H.Asks.state c.args.facts.now c.in-Master.asked c.in-Master.transport c.in-Master.permits c.share.result (sources g.F.Files g.R.Runner c.args.files.now c.args.runner.now) (sources g.F.Files g.R.Runner c.share.new.files c.share.new.runner) (sockets g.W.Wire g.H.Asks c.args.wire.now c.args.house.now) (sockets g.W.Wire g.H.Asks c.share.new.wire c.share.new.house) (output g.S.Sink c.args.out.now) c.share.ensures.looks c.share.ensures.leaves (both-shown _ g.W.Wire.state (λ h. (g.H.Asks.state h).recorded) _ _ _ _ c.share.ensures.untouched))

pub returns-in-Master-clause-leaves : goal.returns-in-Master-clause-leaves
returns-in-Master-clause-leaves g c = record {
  unwritten = on_false _ _;
  unlisted = on_false _ _;
  files = rw (of-read _ _ _ (rw c.in-Master.is at c.requires.read)) (not_false _ _ (master-looks _ _ _ _));
  runner = rw (of-read _ _ _ (rw c.in-Master.is at c.requires.read)) (not_false _ _ (master-looks _ _ _ _));
  wire = rw (of-read _ _ _ (rw c.in-Master.is at c.requires.read)) (or-else (touches (coming (sources g.F.Files g.R.Runner c.args.files.now c.args.runner.now) c.args.facts.now (commands.Master c.in-Master.asked c.in-Master.transport c.in-Master.permits)) (so_far c.share.result)) (may_have_joined (coming (sources g.F.Files g.R.Runner c.args.files.now c.args.runner.now) c.args.facts.now (commands.Master c.in-Master.asked c.in-Master.transport c.in-Master.permits)) (so_far c.share.result)) (c.share.new.wire ≡ c.args.wire.now) (untouched (may_open_wire (so_far c.share.result)) (opens (coming (sources g.F.Files g.R.Runner c.args.files.now c.args.runner.now) c.args.facts.now (commands.Master c.in-Master.asked c.in-Master.transport c.in-Master.permits))) (drills (coming (sources g.F.Files g.R.Runner c.args.files.now c.args.runner.now) c.args.facts.now (commands.Master c.in-Master.asked c.in-Master.transport c.in-Master.permits))) (c.share.new.wire ≡ c.args.wire.now) (first-still _ _ _ c.share.ensures.untouched)));
  house = rw (of-read _ _ _ (rw c.in-Master.is at c.requires.read)) (second-still _ _ _ c.share.ensures.untouched);
}

pub returns-in-Control-clause-runs : goal.returns-in-Control-clause-runs
returns-in-Control-clause-runs g c = let e = rw c.in-Control.is at c.requires.read in obeyed-runs c.args.words.now c.args.facts.now c.args.turns g.H.Asks.may g.H.Asks.state (sources g.F.Files g.R.Runner c.args.files.now c.args.runner.now) (sources g.F.Files g.R.Runner c.ask_master.new.files c.ask_master.new.runner) (sockets g.W.Wire g.H.Asks c.args.wire.now c.args.house.now) (sockets g.W.Wire g.H.Asks c.ask_master.new.wire c.args.house.now) (output g.S.Sink c.args.out.now) (output g.S.Sink c.ask_master.new.out) _ _ _ c.ask_master.result (of-read _ _ _ e) (client-recorded _ _ _ _ e) (for-read _ _ _ e)
    (client-obeyed c.args.words.now (pid_of c.args.facts.now.pid) c.args.turns g.H.Asks.may g.H.Asks.state c.args.facts.now c.in-Control.asked c.in-Control.control c.ask_master.result (sources g.F.Files g.R.Runner c.args.files.now c.args.runner.now) (sources g.F.Files g.R.Runner c.ask_master.new.files c.ask_master.new.runner) (g.W.Wire.state c.args.wire.now) (g.W.Wire.state c.ask_master.new.wire) (g.W.Wire.faults c.args.wire.now) (g.W.Wire.faults c.ask_master.new.wire) (g.H.Asks.state c.args.house.now) (output g.S.Sink c.args.out.now) (output g.S.Sink c.ask_master.new.out) c.ask_master.ensures.looks c.ask_master.ensures.leaves (both-shown _ g.W.Wire.state g.S.Sink.recorded _ _ _ _ c.ask_master.ensures.untouched))

pub returns-in-Control-clause-leaves : goal.returns-in-Control-clause-leaves
returns-in-Control-clause-leaves g c = record {
  unwritten = rw (of-read _ _ _ (rw c.in-Control.is at c.requires.read)) (else-or (may_write (so_far c.ask_master.result)) (may_have_joined (coming (sources g.F.Files g.R.Runner c.args.files.now c.args.runner.now) c.args.facts.now (commands.Control c.in-Control.asked c.in-Control.control)) (so_far c.ask_master.result)) (c.ask_master.new.out ≡ c.args.out.now) (second-still _ _ _ c.ask_master.ensures.untouched));
  unlisted = rw (of-read _ _ _ (rw c.in-Control.is at c.requires.read)) (unlisted-client (machine_of_sources (sources g.F.Files g.R.Runner c.args.files.now c.args.runner.now) c.args.facts.now) c.in-Control.asked c.in-Control.control (so_far c.ask_master.result) (c.ask_master.new.out ≡ c.args.out.now) (second-still _ _ _ c.ask_master.ensures.untouched));
  files = rw (of-read _ _ _ (rw c.in-Control.is at c.requires.read)) (not_false _ _ (client-looks _ _ _));
  runner = rw (of-read _ _ _ (rw c.in-Control.is at c.requires.read)) (not_false _ _ (client-looks _ _ _));
  wire = rw (of-read _ _ _ (rw c.in-Control.is at c.requires.read)) (else-or (touches (coming (sources g.F.Files g.R.Runner c.args.files.now c.args.runner.now) c.args.facts.now (commands.Control c.in-Control.asked c.in-Control.control)) (so_far c.ask_master.result)) (may_have_joined (coming (sources g.F.Files g.R.Runner c.args.files.now c.args.runner.now) c.args.facts.now (commands.Control c.in-Control.asked c.in-Control.control)) (so_far c.ask_master.result)) (c.ask_master.new.wire ≡ c.args.wire.now) (first-still _ _ _ c.ask_master.ensures.untouched));
  house = on_false _ _;
}

pub returns-in-Drill-clause-runs : goal.returns-in-Drill-clause-runs
returns-in-Drill-clause-runs g c = let e = rw c.in-Drill.is at c.requires.read in obeyed-runs c.args.words.now c.args.facts.now c.args.turns g.H.Asks.may g.H.Asks.state (sources g.F.Files g.R.Runner c.args.files.now c.args.runner.now) (sources g.F.Files g.R.Runner c.args.files.now c.args.runner.now) (sockets g.W.Wire g.H.Asks c.args.wire.now c.args.house.now) (sockets g.W.Wire g.H.Asks c.drill.new.wire c.args.house.now) (output g.S.Sink c.args.out.now) (output g.S.Sink c.drill.new.out) _ _ _ c.drill.result (of-drill _ _ _ _ _ e) refl refl
    (drill-obeyed c.args.words.now (pid_of c.args.facts.now.pid) c.args.turns g.H.Asks.may g.H.Asks.state (machine_of_sources (sources g.F.Files g.R.Runner c.args.files.now c.args.runner.now) c.args.facts.now) c.in-Drill.seed c.in-Drill.clients c.in-Drill.messages c.drill.result (sources g.F.Files g.R.Runner c.args.files.now c.args.runner.now) (g.W.Wire.state c.args.wire.now) (g.W.Wire.state c.drill.new.wire) (g.W.Wire.faults c.args.wire.now) (g.W.Wire.faults c.drill.new.wire) (g.H.Asks.state c.args.house.now) (output g.S.Sink c.args.out.now) (output g.S.Sink c.drill.new.out) e c.drill.ensures.goes c.drill.ensures.wire c.drill.ensures.out_cause c.drill.ensures.once (same_recorded _ g.S.Sink.recorded _ _ c.drill.ensures.unwritten))

pub returns-in-Drill-clause-leaves : goal.returns-in-Drill-clause-leaves
returns-in-Drill-clause-leaves g c = record {
  unwritten = or-else (may_write (so_far c.drill.result)) (may_have_joined (coming_of_words (sources g.F.Files g.R.Runner c.args.files.now c.args.runner.now) c.args.facts.now c.args.words.now) (so_far c.drill.result)) (c.drill.new.out ≡ c.args.out.now) c.drill.ensures.unwritten;
  unlisted = rw (of-drill _ _ _ _ _ (rw c.in-Drill.is at c.requires.read)) tt;
  files = on_false _ _;
  runner = on_false _ _;
  wire = rw (of-drill _ _ _ _ _ (rw c.in-Drill.is at c.requires.read)) (or-else (touches (Certain (Drills c.in-Drill.seed c.in-Drill.clients c.in-Drill.messages)) (so_far c.drill.result)) (may_have_joined (Certain (Drills c.in-Drill.seed c.in-Drill.clients c.in-Drill.messages)) (so_far c.drill.result)) (c.drill.new.wire ≡ c.args.wire.now) (not_false (touches (Certain (Drills c.in-Drill.seed c.in-Drill.clients c.in-Drill.messages)) (so_far c.drill.result)) (c.drill.new.wire ≡ c.args.wire.now) (drill-touches c.in-Drill.seed c.in-Drill.clients c.in-Drill.messages c.drill.result c.drill.ensures.goes.ends)));
  house = on_false _ _;
}
