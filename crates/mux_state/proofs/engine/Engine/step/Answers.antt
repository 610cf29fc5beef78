use Rattle.std.proofs.Common.{List, Some, sym, ap, ◌∙◌, subst}
use Rattle.std.proofs.lemmas.Result.{on_ok_weaker}
use Rattle.mux_peers.specs.Server.{stream_end}
use Rattle.mux_outside.specs.declared.house_mark.HouseMark.{HouseMark}
use Rattle.mux_state.specs.State.{EngineState, run_ended_by}
use Rattle.mux_peers.proofs.Heeding.{applies_none}
use Rattle.mux_state.proofs.Kept.{asking-keeps, did-keeps}
use Rattle.mux_state.proofs.Stepped.{DidAlone, DidAsking, cause-as, gained-on, lost-on, replied-on}
use Rattle.mux_peers.proofs.Starved.{err-then, on-err}
use Rattle.mux_state.proofs.Starved.{CutsOne, cut-alone, cut-asking}
use Rattle.mux_state.proofs.TakingIn.{asking-takes, did-takes}
use Rattle.mux_state.proofs.engine.Engine.step.Goals as goal

pub returns-in-Accepted-clause-takes : goal.returns-in-Accepted-clause-takes
returns-in-Accepted-clause-takes g c = on_ok_weaker c.enter.result (λ d. did-takes g.H.Asks.may (Some c.args.asks.now) c.args.self.now c.enter.new.self c.args.e c.requires.goes (subst (DidAlone c.args.self.now c.enter.new.self) (sym c.in-Accepted.is) d)) c.enter.ensures.enters

pub returns-in-Accepted-clause-keeps : goal.returns-in-Accepted-clause-keeps
returns-in-Accepted-clause-keeps g c = on_ok_weaker c.enter.result (λ d. did-keeps c.args.self.now c.enter.new.self c.args.e c.requires.goes (subst (DidAlone c.args.self.now c.enter.new.self) (sym c.in-Accepted.is) d)) c.enter.ensures.enters

pub returns-in-ClientEnd-clause-takes : goal.returns-in-ClientEnd-clause-takes
returns-in-ClientEnd-clause-takes g c = on_ok_weaker c.lose.result (λ d. did-takes g.H.Asks.may (Some c.args.asks.now) c.args.self.now c.lose.new.self c.args.e c.requires.goes (subst (DidAlone c.args.self.now c.lose.new.self) (sym c.in-ClientEnd.is) d)) (lost-on c.lose.result c.args.self.now c.lose.new.self c.in-ClientEnd.client c.lose.ensures.loses c.lose.ensures.stays)

pub returns-in-ClientEnd-clause-keeps : goal.returns-in-ClientEnd-clause-keeps
returns-in-ClientEnd-clause-keeps g c = on_ok_weaker c.lose.result (λ d. did-keeps c.args.self.now c.lose.new.self c.args.e c.requires.goes (subst (DidAlone c.args.self.now c.lose.new.self) (sym c.in-ClientEnd.is) d)) (lost-on c.lose.result c.args.self.now c.lose.new.self c.in-ClientEnd.client c.lose.ensures.loses c.lose.ensures.stays)

pub returns-in-ClientFailed-clause-takes : goal.returns-in-ClientFailed-clause-takes
returns-in-ClientFailed-clause-takes g c = on_ok_weaker c.lose-in-ClientFailed.result (λ d. did-takes g.H.Asks.may (Some c.args.asks.now) c.args.self.now c.lose-in-ClientFailed.new.self c.args.e c.requires.goes (subst (DidAlone c.args.self.now c.lose-in-ClientFailed.new.self) (sym c.in-ClientFailed.is) d)) (lost-on c.lose-in-ClientFailed.result c.args.self.now c.lose-in-ClientFailed.new.self c.in-ClientFailed.client c.lose-in-ClientFailed.ensures.loses c.lose-in-ClientFailed.ensures.stays)

pub returns-in-ClientFailed-clause-keeps : goal.returns-in-ClientFailed-clause-keeps
returns-in-ClientFailed-clause-keeps g c = on_ok_weaker c.lose-in-ClientFailed.result (λ d. did-keeps c.args.self.now c.lose-in-ClientFailed.new.self c.args.e c.requires.goes (subst (DidAlone c.args.self.now c.lose-in-ClientFailed.new.self) (sym c.in-ClientFailed.is) d)) (lost-on c.lose-in-ClientFailed.result c.args.self.now c.lose-in-ClientFailed.new.self c.in-ClientFailed.client c.lose-in-ClientFailed.ensures.loses c.lose-in-ClientFailed.ensures.stays)

pub returns-in-HouseSays-clause-takes : goal.returns-in-HouseSays-clause-takes
returns-in-HouseSays-clause-takes g c = on_ok_weaker c.answer.result (λ d. did-takes g.H.Asks.may (Some c.args.asks.now) c.args.self.now c.answer.new.self c.args.e c.requires.goes (subst (DidAlone c.args.self.now c.answer.new.self) (sym c.in-HouseSays.is) d)) (replied-on c.answer.result c.args.self.now c.answer.new.self c.in-HouseSays.client c.in-HouseSays.id c.in-HouseSays.reply c.answer.ensures.answers c.answer.ensures.stays)

pub returns-in-HouseSays-clause-keeps : goal.returns-in-HouseSays-clause-keeps
returns-in-HouseSays-clause-keeps g c = on_ok_weaker c.answer.result (λ d. did-keeps c.args.self.now c.answer.new.self c.args.e c.requires.goes (subst (DidAlone c.args.self.now c.answer.new.self) (sym c.in-HouseSays.is) d)) (replied-on c.answer.result c.args.self.now c.answer.new.self c.in-HouseSays.client c.in-HouseSays.id c.in-HouseSays.reply c.answer.ensures.answers c.answer.ensures.stays)

pub returns-in-FromServer-clause-takes : goal.returns-in-FromServer-clause-takes
returns-in-FromServer-clause-takes g c = on_ok_weaker c.got_from_server.result (λ d. did-takes g.H.Asks.may (Some c.args.asks.now) c.args.self.now c.got_from_server.new.self c.args.e c.requires.goes (subst (DidAlone c.args.self.now c.got_from_server.new.self) (sym c.in-FromServer.is) d)) c.got_from_server.ensures.heard

pub returns-in-FromServer-clause-keeps : goal.returns-in-FromServer-clause-keeps
returns-in-FromServer-clause-keeps g c = on_ok_weaker c.got_from_server.result (λ d. did-keeps c.args.self.now c.got_from_server.new.self c.args.e c.requires.goes (subst (DidAlone c.args.self.now c.got_from_server.new.self) (sym c.in-FromServer.is) d)) c.got_from_server.ensures.heard

pub returns-in-ServerEnd-clause-takes : goal.returns-in-ServerEnd-clause-takes
returns-in-ServerEnd-clause-takes g c = did-takes g.H.Asks.may (Some c.args.asks.now) c.args.self.now c.end.new.self c.args.e c.requires.goes (subst (DidAlone c.args.self.now c.end.new.self) (sym c.in-ServerEnd.is) (c.end.ensures ∙ ap (run_ended_by c.args.self.now) (c.end-cause.ensures ∙ (ap (λ (x : EngineState). stream_end x.server.rest x.server.index) c.self.view_is ∙ cause-as c.args.self.now))))

pub returns-in-ServerFailed-clause-takes : goal.returns-in-ServerFailed-clause-takes
returns-in-ServerFailed-clause-takes g c = did-takes g.H.Asks.may (Some c.args.asks.now) c.args.self.now c.end-in-ServerFailed.new.self c.args.e c.requires.goes (subst (DidAlone c.args.self.now c.end-in-ServerFailed.new.self) (sym c.in-ServerFailed.is) c.end-in-ServerFailed.ensures)

pub returns-in-FromClient-clause-takes : goal.returns-in-FromClient-clause-takes
returns-in-FromClient-clause-takes g c = on_ok_weaker c.got_from_client.result (λ d. asking-takes g.H.Asks.may (Some c.args.asks.now) (Some c.got_from_client.new.asks) c.args.self.now c.got_from_client.new.self c.args.e c.requires.goes (subst (DidAsking g.H.Asks.may (Some c.args.asks.now) (Some c.got_from_client.new.asks) c.args.self.now c.got_from_client.new.self) (sym c.in-FromClient.is) d)) (gained-on c.got_from_client.result g.H.Asks.may (Some c.args.asks.now) (Some c.got_from_client.new.asks) c.args.self.now c.got_from_client.new.self c.in-FromClient.client c.in-FromClient.bytes.now c.got_from_client.ensures.gains (λ h. ap (λ (l : List HouseMark). Some l) (c.got_from_client.ensures.untold h)))

pub returns-in-FromClient-clause-keeps : goal.returns-in-FromClient-clause-keeps
returns-in-FromClient-clause-keeps g c = on_ok_weaker c.got_from_client.result (λ d. asking-keeps g.H.Asks.may (Some c.args.asks.now) (Some c.got_from_client.new.asks) c.args.self.now c.got_from_client.new.self c.args.e c.requires.goes (subst (DidAsking g.H.Asks.may (Some c.args.asks.now) (Some c.got_from_client.new.asks) c.args.self.now c.got_from_client.new.self) (sym c.in-FromClient.is) d)) (gained-on c.got_from_client.result g.H.Asks.may (Some c.args.asks.now) (Some c.got_from_client.new.asks) c.args.self.now c.got_from_client.new.self c.in-FromClient.client c.in-FromClient.bytes.now c.got_from_client.ensures.gains (λ h. ap (λ (l : List HouseMark). Some l) (c.got_from_client.ensures.untold h)))

pub returns-in-Accepted-clause-applies : goal.returns-in-Accepted-clause-applies
returns-in-Accepted-clause-applies g c = applies_none c.enter.result c.args.asks.now (g.H.Asks.state c.args.house.now)

pub returns-in-ClientEnd-clause-applies : goal.returns-in-ClientEnd-clause-applies
returns-in-ClientEnd-clause-applies g c = applies_none c.lose.result c.args.asks.now (g.H.Asks.state c.args.house.now)

pub returns-in-ClientFailed-clause-applies : goal.returns-in-ClientFailed-clause-applies
returns-in-ClientFailed-clause-applies g c = applies_none c.lose-in-ClientFailed.result c.args.asks.now (g.H.Asks.state c.args.house.now)

pub returns-in-HouseSays-clause-applies : goal.returns-in-HouseSays-clause-applies
returns-in-HouseSays-clause-applies g c = applies_none c.answer.result c.args.asks.now (g.H.Asks.state c.args.house.now)

pub returns-in-FromServer-clause-applies : goal.returns-in-FromServer-clause-applies
returns-in-FromServer-clause-applies g c = applies_none c.got_from_server.result c.args.asks.now (g.H.Asks.state c.args.house.now)

-- ---- what was requested if memory ran out

pub returns-in-Accepted-clause-cut : goal.returns-in-Accepted-clause-cut
returns-in-Accepted-clause-cut g c = on-err c.enter.result (λ mark t. cut-alone g.H.Asks.may (g.H.Asks.state c.args.house.now).recorded c.args.self.now mark)

pub returns-in-ClientEnd-clause-cut : goal.returns-in-ClientEnd-clause-cut
returns-in-ClientEnd-clause-cut g c = on-err c.lose.result (λ mark t. cut-alone g.H.Asks.may (g.H.Asks.state c.args.house.now).recorded c.args.self.now mark)

pub returns-in-ClientFailed-clause-cut : goal.returns-in-ClientFailed-clause-cut
returns-in-ClientFailed-clause-cut g c = on-err c.lose-in-ClientFailed.result (λ mark t. cut-alone g.H.Asks.may (g.H.Asks.state c.args.house.now).recorded c.args.self.now mark)

pub returns-in-HouseSays-clause-cut : goal.returns-in-HouseSays-clause-cut
returns-in-HouseSays-clause-cut g c = on-err c.answer.result (λ mark t. cut-alone g.H.Asks.may (g.H.Asks.state c.args.house.now).recorded c.args.self.now mark)

pub returns-in-FromServer-clause-cut : goal.returns-in-FromServer-clause-cut
returns-in-FromServer-clause-cut g c = on-err c.got_from_server.result (λ mark t. cut-alone g.H.Asks.may (g.H.Asks.state c.args.house.now).recorded c.args.self.now mark)

pub returns-in-FromClient-clause-cut : goal.returns-in-FromClient-clause-cut
returns-in-FromClient-clause-cut g c = err-then c.got_from_client.result (λ one mark t. cut-asking g.H.Asks.may (g.H.Asks.state c.args.house.now).recorded (g.H.Asks.state c.got_from_client.new.house).recorded c.args.self.now c.args.e c.requires.goes (subst (CutsOne g.H.Asks.may (g.H.Asks.state c.args.house.now).recorded (g.H.Asks.state c.got_from_client.new.house).recorded c.args.self.now) (sym c.in-FromClient.is) one) mark t) c.got_from_client.ensures.cut
