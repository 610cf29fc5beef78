use Rattle.std.proofs.Common.{◌≡◌, subst, Ok}
use Rattle.conf_rules.specs.Includes.{CommandLine}
use Rattle.conf_rules.specs.Sources.{asked_line}
use Rattle.conf_rules.specs.Entries.{content_entry}
use Rattle.conf_fold.specs.Results.{FailsLine}
use Rattle.conf_fold.proofs.AskedLemmas.{asked-taken, asked-refused}
use Rattle.conf_fold.proofs.fold.Fold.asked_line.Goals as goal

pub returns-in-Err-clause-takes : goal.returns-in-Err-clause-takes
returns-in-Err-clause-takes c = λ recorded rows s.
    asked-refused recorded c.args.self.now _ rows c.args.line.now c.in-Err.e _ c.refuse.result s
    (subst (λ i. FailsLine c.in-Err.e (content_entry i CommandLine (asked_line c.args.line.now).content)) c.text.ensures c.in-Err.ensures.read)
    c.number_of.ensures c.refuse.ensures

pub returns-clause-takes : goal.returns-clause-takes
returns-clause-takes c = λ recorded rows s.
    asked-taken recorded c.args.self.now c.take_asked.new.self rows c.args.line.now c.in-Ok.entry s
    (subst (λ i. content_entry i CommandLine (asked_line c.args.line.now).content ≡ Ok c.in-Ok.entry) c.text.ensures c.in-Ok.ensures.read)
    c.in_ok-take_asked.ensures.keeps c.in_ok-take_asked.ensures.others
