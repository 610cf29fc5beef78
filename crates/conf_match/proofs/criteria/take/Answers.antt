use Rattle.std.proofs.Common.{◌∷◌, ◌+◌, ◌∙◌, sym, ap, drop}
use Rattle.std.specs.Option.{option_copied}
use Rattle.conf_match.specs.Spelled.{spelled_shown}
use Rattle.conf_match.proofs.ListLemmas.{next}
use Rattle.conf_match.proofs.CriteriaLemmas.{plain_word, plain_with_value, value_word, next_word, unsupported_word, no_name_word}
use Rattle.conf_match.proofs.criteria.take.Goals as goal

pub returns-in-None : goal.returns-in-None
returns-in-None c = rw (plain_word c.args.place.word c.args.place.may c.as_bytes.result.now (drop c.args.place.word c.args.words.now) (drop (c.args.place.word + 1) c.args.words.now) c.in-Plain.kind (spelled_shown c.read_word-own.result) (next c.args.words.now c.args.place.word c.index-words-at.result c.requires.place c.index-words-at.is ∙ ap (λ w. w ∷ drop (c.args.place.word + 1) c.args.words.now) (sym c.as_bytes.ensures)) c.read_word-own.ensures c.in-Plain.is (ap option_copied c.in-None.is)) c.take_plain.ensures

pub returns-in-Some : goal.returns-in-Some
returns-in-Some c = plain_with_value c.args.place.word c.args.place.may c.as_bytes.result.now (drop c.args.place.word c.args.words.now) (drop (c.args.place.word + 1) c.args.words.now) c.in-Plain.kind (spelled_shown c.read_word-own.result) c.in-Some.field-0.now (next c.args.words.now c.args.place.word c.index-words-at.result c.requires.place c.index-words-at.is ∙ ap (λ w. w ∷ drop (c.args.place.word + 1) c.args.words.now) (sym c.as_bytes.ensures)) c.read_word-own.ensures c.in-Plain.is (ap option_copied c.in-Some.is)

pub returns-in-None-value : goal.returns-in-None-value
returns-in-None-value c = rw (next_word c.args.place.word c.args.place.may c.as_bytes.result.now (drop c.args.place.word c.args.words.now) (drop (c.args.place.word + 1) c.args.words.now) c.in-Valued.kind (spelled_shown c.read_word-own.result) (next c.args.words.now c.args.place.word c.index-words-at.result c.requires.place c.index-words-at.is ∙ ap (λ w. w ∷ drop (c.args.place.word + 1) c.args.words.now) (sym c.as_bytes.ensures)) c.read_word-own.ensures c.in-Valued.is (ap option_copied c.in-None-value.is)) c.take_next.ensures

pub returns-in-Some-value : goal.returns-in-Some-value
returns-in-Some-value c = rw (value_word c.args.place.word c.args.place.may c.as_bytes.result.now (drop c.args.place.word c.args.words.now) (drop (c.args.place.word + 1) c.args.words.now) c.in-Valued.kind (spelled_shown c.read_word-own.result) c.in-Some-value.value.now (next c.args.words.now c.args.place.word c.index-words-at.result c.requires.place c.index-words-at.is ∙ ap (λ w. w ∷ drop (c.args.place.word + 1) c.args.words.now) (sym c.as_bytes.ensures)) c.read_word-own.ensures c.in-Valued.is (ap option_copied c.in-Some-value.is)) c.take_value.ensures

pub returns-in-NotSupported : goal.returns-in-NotSupported
returns-in-NotSupported c = unsupported_word c.args.place.word c.args.place.may c.as_bytes.result.now (drop c.args.place.word c.args.words.now) (drop (c.args.place.word + 1) c.args.words.now) (spelled_shown c.read_word-own.result) (next c.args.words.now c.args.place.word c.index-words-at.result c.requires.place c.index-words-at.is ∙ ap (λ w. w ∷ drop (c.args.place.word + 1) c.args.words.now) (sym c.as_bytes.ensures)) c.read_word-own.ensures c.in-NotSupported.is

pub returns-in-NoName : goal.returns-in-NoName
returns-in-NoName c = no_name_word c.args.place.word c.args.place.may c.as_bytes.result.now (drop c.args.place.word c.args.words.now) (drop (c.args.place.word + 1) c.args.words.now) (spelled_shown c.read_word-own.result) (next c.args.words.now c.args.place.word c.index-words-at.result c.requires.place c.index-words-at.is ∙ ap (λ w. w ∷ drop (c.args.place.word + 1) c.args.words.now) (sym c.as_bytes.ensures)) c.read_word-own.ensures c.in-NoName.is
