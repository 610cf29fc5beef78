-- Which files are read in a pass, and in both.
use Rattle.std.proofs.Common.{◌≡◌, Bool, true, false, List, [], ◌++◌, Option, Some, None, Result, Ok, Err, refl, sym, ap, subst, ◌∙◌}
use Rattle.std.specs.Prelude.{map}
use Rattle.std.specs.List.{list_any}
use Rattle.std.specs.Option.{option_map}
use Rattle.std.proofs.lemmas.List.{append-nil}
use Rattle.conf_rules.specs.declared.causes.ResolveError.{ResolveError}
use Rattle.conf_rules.specs.Texts.{Bytes}
use Rattle.conf_rules.specs.Recorded.{Recorded}
use Rattle.conf_rules.specs.Resolution.{wants_second, refusal_in}
use Rattle.conf_rules.specs.ReadOrder.{all_reads, asks_second, read_once}
use Rattle.conf_reader.specs.declared.line.ConfLine.{ConfLine}
use Rattle.conf_reader.specs.declared.lines.Lines.{Lines}
use Rattle.conf_reader.specs.ToRead.{reading_of, ReadsSome, ReadsTo}
use Rattle.conf_reader.specs.Uses.{behind_call}
use Rattle.conf_reader.proofs.ToReadLemmas.{more-left, then-read, then-some}
use Rattle.conf_resolve.specs.PassGives.{first_rows}
use Rattle.conf_resolve.specs.Readings.{Readings, ReadsAll, ReadsUnless}
use Rattle.conf_resolve.proofs.PartsLemmas.{none-refused}

-- nothing is left
pub to-all : (paths : List Bytes) (before now : Readings) → ReadsTo paths [] before now → ReadsAll paths before now
to-all paths before now h = h.noted ∙ ap (λ ps. option_map (λ rs. rs ++ map reading_of ps) before) (sym (h.parts ∙ append-nil h.read))

pub all-some : (paths : List Bytes) (before now : Readings) → ReadsAll paths before now → ReadsSome paths before now
all-some paths before now h = ([], record { read = paths; parts = sym (append-nil paths); noted = h })

of-all : (paths : List Bytes) (before now : Readings) → ReadsAll paths before now → ReadsTo paths [] before now
of-all paths before now h = record { read = paths; parts = sym (append-nil paths); noted = h }

-- no line is left
pub no-line : (recorded : Recorded) (a : List Bytes) (v : Option ConfLine) (new : Lines) (before now : Readings) → ((line : ConfLine) → v ≡ Some line → ⊥) → ReadsTo a ((behind_call (Ok v) new).paths recorded) before now → ReadsTo a [] before now
no-line recorded a None new before now n h = h
no-line recorded a (Some line) new before now n h = absurd (n line refl)

some-more : (a b : List Bytes) (before now : Readings) → ReadsSome a before now → ReadsSome (a ++ b) before now
some-more a b before now h = (h.0 ++ b, more-left a h.0 b before now h.1)

-- what is read in the first pass stands in front
front : (recorded : Recorded) → (more : List Bytes) × (all_reads recorded ≡ read_once recorded recorded.asked.from ++ more)
unfolding all_reads
front recorded = (_, refl)

pub first-some : (recorded : Recorded) (before now : Readings) → ReadsSome (read_once recorded recorded.asked.from) before now → ReadsSome (all_reads recorded) before now
first-some recorded before now h =
    let f = front recorded in
    subst (λ ps. ReadsSome ps before now) (sym f.1) (some-more (read_once recorded recorded.asked.from) f.0 before now h)

pub first-all : (recorded : Recorded) (before now : Readings) → ReadsAll (read_once recorded recorded.asked.from) before now → ReadsSome (all_reads recorded) before now
first-all recorded before now h = first-some recorded before now ([], of-all (read_once recorded recorded.asked.from) before now h)

second-asked : (recorded : Recorded) (t : Bool) → refusal_in (first_rows recorded) ≡ None → list_any wants_second (first_rows recorded) ≡ t → asks_second (first_rows recorded) ≡ t
second-asked recorded t none e = rw (none-refused (first_rows recorded) none) e

-- where there is no second pass
pub once-all : (recorded : Recorded) (before now : Readings) → refusal_in (first_rows recorded) ≡ None → list_any wants_second (first_rows recorded) ≡ false → ReadsAll (read_once recorded recorded.asked.from) before now → ReadsAll (all_reads recorded) before now
unfolding all_reads
once-all recorded before now none e h = rw (second-asked recorded false none e, append-nil (read_once recorded recorded.asked.from)) h

both-reads : (recorded : Recorded) → refusal_in (first_rows recorded) ≡ None → list_any wants_second (first_rows recorded) ≡ true → all_reads recorded ≡ read_once recorded recorded.asked.from ++ read_once recorded recorded.asked.from
unfolding all_reads
both-reads recorded none e = rw (second-asked recorded true none e) refl

-- where there is one
pub twice-read : {A : Type 0} (recorded : Recorded) (result : Result A ResolveError) (before mid now : Readings) → refusal_in (first_rows recorded) ≡ None → list_any wants_second (first_rows recorded) ≡ true
    → ReadsAll (read_once recorded recorded.asked.from) before mid → ReadsUnless (read_once recorded recorded.asked.from) result mid now → ReadsUnless (all_reads recorded) result before now
twice-read recorded (Ok x) before mid now none e h k =
    let once = read_once recorded recorded.asked.from in
    let first = more-left once [] once before mid (of-all once before mid h) in
    subst (λ ps. ReadsAll ps before now) (sym (both-reads recorded none e)) (to-all (once ++ once) before now (then-read (once ++ once) once [] before mid now first (of-all once mid now k)))
twice-read recorded (Err x) before mid now none e h k =
    let once = read_once recorded recorded.asked.from in
    let first = more-left once [] once before mid (of-all once before mid h) in
    subst (λ ps. ReadsSome ps before now) (sym (both-reads recorded none e)) (then-some (once ++ once) once before mid now first k)
