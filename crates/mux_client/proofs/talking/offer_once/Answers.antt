use Rattle.std.proofs.Common.{◌∙◌, ◌++◌, ◌∷◌, [], ap, subst, sym, ℕ, Bool, List, take, Option}
use Rattle.mux_outside.specs.Seen.{Seen}
use Rattle.std.specs.Option.{option_map}
use Rattle.std.proofs.lemmas.List.{append-nil}
use Rattle.mux_outside.specs.declared.mark.Mark.{Mark}
use Rattle.mux_outside.specs.declared.mark.Mark.TheVariants.{Takes}
use Rattle.mux_client.specs.declared.talked.Talked.TheVariants.{OutOfMemory, ServerFailed}
use Rattle.mux_client.specs.Client.{TalkState, without_sent}
use Rattle.mux_client.specs.Talking.{IsTalk, Talking}
use Rattle.mux_client.proofs.TalkSteps.{talk-holds, talk-starved, talk-takes, talk-write-fails, want-of-memory}
use Rattle.mux_client.proofs.JournalGrows.{recorded-none}
use Rattle.mux_outside.specs.WireState.{WireState}
use Rattle.mux_client.proofs.talking.offer_once.Goals as goal

pub returns-in_err-push-in-Later-clause-talking : goal.returns-in_err-push-in-Later-clause-talking
returns-in_err-push-in-Later-clause-talking g c asks start shown v =
    want-of-memory c.from_residual.result _ _ c.from_residual.ensures.1
    (subst (λ (x : Seen). IsTalk asks OutOfMemory start x.recorded shown shown) (sym (ap (λ (s : WireState). s.seen) c.in-Later.ensures.state))
    (talk-starved (talk-holds v) shown [] (sym (append-nil shown))))

pub returns-in-Took-clause-talking : goal.returns-in-Took-clause-talking
returns-in-Took-clause-talking g c asks start shown v =
    let s : TalkState = c.args.client.now in
    let recorded : Option (List Mark) = (g.W.Wire.state c.args.wire.now).seen.recorded in
    let accepts : Bool = (g.W.Wire.state c.args.wire.now).seen.listens in
    subst (λ k. Talking asks start (g.W.Wire.state c.write.new.self).seen.recorded c.args.held.now shown k) (sym c.took.ensures.exact)
    (subst (λ (x : Seen). Talking asks start x.recorded c.args.held.now shown (without_sent c.in-Took.n s)) (sym (ap (λ (s : WireState). s.seen) c.in-Took.ensures.state))
    (subst (λ (q : List ℕ). Talking asks start (option_map (λ l. l ++ Takes 0 (take c.in-Took.n q) accepts ∷ []) recorded) c.args.held.now shown (without_sent c.in-Took.n s)) (sym c.front-bytes.ensures)
    (talk-takes c.in-Took.n accepts v)))

pub returns-in_ok-push-in-Later-clause-talking : goal.returns-in_ok-push-in-Later-clause-talking
returns-in_ok-push-in-Later-clause-talking g c asks start shown v =
    subst (λ (h : List ℕ). Talking asks start (g.W.Wire.state c.write.new.self).seen.recorded h shown c.args.client.now) (sym (c.in_ok-push-in-Later.ensures.ok ∙ ap (λ h. h ++ 0 ∷ []) c.requires.free))
    (subst (λ (x : Seen). Talking asks start x.recorded (0 ∷ []) shown c.args.client.now) (sym (ap (λ (s : WireState). s.seen) c.in-Later.ensures.state)) (talk-holds v))

pub returns-in-Failed-clause-talking : goal.returns-in-Failed-clause-talking
returns-in-Failed-clause-talking g c asks start shown v =
    subst (λ (x : Seen). IsTalk asks ServerFailed start x.recorded shown shown) (sym (ap (λ (s : WireState). s.seen) c.in-Failed.ensures.state)) (talk-write-fails v c.requires.between.settled)

pub returns-in-NoMemory-clause-talking : goal.returns-in-NoMemory-clause-talking
returns-in-NoMemory-clause-talking g c asks start shown v =
    subst (λ (x : Seen). IsTalk asks OutOfMemory start x.recorded shown shown) (sym (ap (λ (s : WireState). s.seen) c.in-NoMemory.ensures.state))
    (subst (λ t. IsTalk asks OutOfMemory start t shown shown) (sym (recorded-none (g.W.Wire.state c.args.wire.now).seen.recorded))
    (talk-starved v shown [] (sym (append-nil shown))))
