use Rattle.std.proofs.Common.{ap, length, arith}
use Rattle.conf_lexer.proofs.Steps.{longer, goes_escaped, stops, goes, puts, ends, done_between, done_bare, done_quoted}
use Rattle.conf_lexer.proofs.words.all_words.Goals as goal
use Rattle.conf_lexer.proofs.words.all_words.Goals.{in-Go, in-Put+in_ok-push-in-Put, in-End+in_ok-push-in-End}

pub loop-byte-smaller-in-Some-escaped : goal.loop-byte-smaller-in-Some-escaped
loop-byte-smaller-in-Some-escaped c =
    omega (arith, longer _ _ _ _ _ c.in-Some-escaped.ensures, ap length c.in-Some.ensures)

pub loop-byte-preserved-in-Some-escaped : goal.loop-byte-preserved-in-Some-escaped
loop-byte-preserved-in-Some-escaped c = record {
  whole = omega (arith, longer _ _ _ _ _ c.in-Some-escaped.ensures, ap length c.in-Some.ensures, c.loop-byte.invariant.whole);
  read = rw c.inside-quoting.ensures (goes_escaped _ _ _ _ _ _ _ _ _ _ _ c.in-Some.ensures c.in-Some-escaped.ensures c.in_ok-push.ensures.ok c.loop-byte.invariant.read);
}

pub returns-in-Stop : goal.returns-in-Stop
returns-in-Stop c = stops _ _ _ _ _ _ _ _ c.in-Some.ensures c.in_default-escaped.ensures c.in-Stop.ensures c.loop-byte.invariant.read

pub loop-byte-preserved : goal.loop-byte-preserved
loop-byte-preserved c = record {
  whole = omega (arith, ap length c.in-Some.ensures, c.loop-byte.invariant.whole);
  read = elim c.match-move_of.branch [
    | in-Go w ↦ rw (w.words-is, w.word-is, w.quoting-is) (goes _ _ _ _ _ _ _ _ _ c.in-Some.ensures c.in_default-escaped.ensures w.in-Go.ensures c.loop-byte.invariant.read)
    | in-Put+in_ok-push-in-Put w ↦ rw (w.words-is, w.word-is, w.quoting-is, w.in_ok-push-in-Put.ensures.ok) (puts _ _ _ _ _ _ _ _ _ c.in-Some.ensures c.in_default-escaped.ensures w.in-Put.ensures c.loop-byte.invariant.read)
    | in-End+in_ok-push-in-End w ↦ rw (w.words-is, w.word-is, w.quoting-is, w.in_ok-push-in-End.ensures.ok, w.replace.ensures.value, w.replace.ensures.after, w.new.ensures) (ends _ _ _ _ _ _ _ _ c.in-Some.ensures c.in_default-escaped.ensures w.in-End.ensures c.loop-byte.invariant.read)
  ];
}

pub returns-in-Between : goal.returns-in-Between
returns-in-Between c = done_between _ _ _ _ _ _ c.in_default.ensures c.in-Between.is c.loop-byte.invariant.read

pub returns-in_ok-push-in-Bare : goal.returns-in_ok-push-in-Bare
returns-in_ok-push-in-Bare c = rw c.in_ok-push-in-Bare.ensures.ok (done_bare _ _ _ _ _ _ c.in_default.ensures c.in-Bare.is c.loop-byte.invariant.read)

pub returns-in-Quoted : goal.returns-in-Quoted
returns-in-Quoted c = done_quoted _ _ _ _ _ _ _ _ c.in_default.ensures c.in-Quoted.is c.loop-byte.invariant.read
