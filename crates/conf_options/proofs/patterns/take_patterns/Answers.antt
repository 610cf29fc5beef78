use Rattle.std.proofs.Common.{◌≡◌, sym, refl, ◌∙◌, true, false}
use Rattle.std.specs.List.{list_any}
use Rattle.conf_rules.specs.Rows.{with_patterns}
use Rattle.conf_options.specs.Kept.{removes, same_texts}
use Rattle.conf_options.proofs.ChangeLemmas.{all-plain, other-texts, same_texts-true, more-texts}
use Rattle.conf_options.proofs.patterns.take_patterns.Goals as goal

pub returns-then-same_texts-clause-becomes : goal.returns-then-same_texts-clause-becomes
returns-then-same_texts-clause-becomes c =
    let same : same_texts c.args.kept.now c.in_ok-left.left ≡ true = cc in
    let made : c.in_ok-left.left ≡ with_patterns c.args.kept.now c.args.patterns.now = let k = c.in_ok-left.ensures in cc in
    same_texts-true _ _ same ∙ made

pub returns-then-some_removes-clause-changed : goal.returns-then-some_removes-clause-changed
returns-then-some_removes-clause-changed c =
    let other : same_texts c.args.kept.now c.in_ok-left.left ≡ false = cc in
    (λ _. other-texts _ _ other, λ _. refl)

pub returns-clause-becomes : goal.returns-clause-becomes
returns-clause-becomes c =
    let plain : list_any removes c.args.patterns.now ≡ false = cc in
    c.in_ok-push_copies.ensures.ok ∙ sym (all-plain c.args.kept.now c.args.patterns.now plain)

pub returns-clause-changed : goal.returns-clause-changed
returns-clause-changed c = more-texts c.args.kept.now c.args.patterns.now c.push_copies.new.kept c.is_empty.result c.in_ok-push_copies.ensures.ok c.is_empty.ensures
