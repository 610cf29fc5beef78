-- The files that an Include line names.
use Rattle.std.proofs.Common.{◌≡◌, ℕ, ◌+◌, ◌-◌, Bool, true, false, cond, List, [], ◌∷◌, ◌++◌, length, take, drop, Option, Some, None, Result, Ok, Err, refl, sym, ap, ◌∙◌, arith}
use Rattle.std.specs.Prelude.{flat_map, option_to_list}
use Rattle.std.specs.List.{slice_get}
use Rattle.std.specs.Option.{option_and_then}
use Rattle.std.proofs.lemmas.Grind.{flat_map-append}
use Rattle.conf_rules.specs.declared.causes.TokenError.{TokenError}
use Rattle.conf_rules.specs.declared.causes.LexError.{LexError}
use Rattle.conf_rules.specs.declared.causes.Cause.{Cause}
use Rattle.conf_rules.specs.declared.causes.Cause.TheVariants as causes
use Rattle.conf_rules.specs.declared.causes.ResolveError.{ResolveError}
use Rattle.conf_rules.specs.declared.causes.ResolveError.TheVariants as errors
use Rattle.conf_reader.specs.declared.errors.LineError.{LineError}
use Rattle.conf_reader.specs.declared.errors.LineError.TheVariants as line_errors
use Rattle.conf_rules.specs.Results.{◌>>=◌}
use Rattle.conf_rules.specs.Texts.{Bytes}
use Rattle.conf_rules.specs.Words.{words_of}
use Rattle.conf_rules.specs.Recorded.{Recorded}
use Rattle.conf_rules.specs.Diagnostics.{is_fault}
use Rattle.conf_rules.specs.Includes.{Source, file_at, globbed, files_of, paths_of, words_named}
use Rattle.conf_rules.specs.Sources.{Line, Refused}
use Rattle.conf_reader.specs.declared.open_file.OpenFile.{OpenFile}
use Rattle.conf_reader.specs.declared.stack.OpenFiles.{OpenFiles}
use Rattle.conf_reader.specs.Results.{RefusesLine}
use Rattle.conf_reader.specs.Blocks.{Blocks, or_none}
use Rattle.conf_reader.specs.Left.{source_of, frame_files, frames_left, deeper, cur, open_left, RefusesFirst, named_by, FoundPaths, named_as}
use Rattle.conf_reader.proofs.LeftLemmas.{top_depth, top_outer, ReadStep, under, stays, Alike, refuses, token-refuses}
use Rattle.conf_reader.proofs.RefusalLemmas.{first-refused, moves-refused, moved}

twice : {X Y Z : Type 0} (f : X → List Y) (g : Y → List Z) (xs : List X) → flat_map g (flat_map f xs) ≡ flat_map (λ x. flat_map g (f x)) xs
twice f g [] = refl
twice f g (x ∷ xs) = flat_map-append g (f x) (flat_map f xs) ∙ ap (λ ys. flat_map g (f x) ++ ys) (twice f g xs)

-- the files of paths that were found
paths-files : (recorded : Recorded) (source : Source) (read : Result (List Bytes) TokenError) (paths : List Bytes) → (read >>= λ ps. Ok (flat_map (globbed recorded) ps)) ≡ Ok paths → (read >>= λ ps. Ok (files_of recorded ps)) ≡ Ok (flat_map (file_at recorded) paths)
paths-files recorded source (Err e) paths h = absurd cc
paths-files recorded source (Ok ps) paths h = let k : flat_map (globbed recorded) ps ≡ paths = cc in ap (λ x. Ok x) (sym (twice (globbed recorded) (file_at recorded) ps) ∙ ap (flat_map (file_at recorded)) k)

words-files : (recorded : Recorded) (source : Source) (words : Result (List Bytes) LexError) (paths : List Bytes) → named_by source recorded words ≡ Ok paths → words_named source recorded words ≡ Ok (flat_map (file_at recorded) paths)
words-files recorded source (Err e) paths h = let k : [] ≡ paths = cc in ap (λ ps. Ok (flat_map (file_at recorded) ps)) k
words-files recorded source (Ok words) paths h = paths-files recorded source (paths_of source recorded words) paths h

words-refused : (recorded : Recorded) (source : Source) (words : Result (List Bytes) LexError) (e : TokenError) → named_by source recorded words ≡ Err e → words_named source recorded words ≡ Err e
words-refused recorded source (Err l) e h = absurd cc
words-refused recorded source (Ok words) e h = by (paths_of source recorded words) h
  where
    by : (read : Result (List Bytes) TokenError) → (read >>= λ ps. Ok (flat_map (globbed recorded) ps)) ≡ Err e → (read >>= λ ps. Ok (files_of recorded ps)) ≡ Err e
    by (Err t) h = let k : t ≡ e = cc in ap (λ x. Err x) k
    by (Ok ps) h = absurd cc

-- the paths are known, and what is left is the same
pub names-left : (recorded : Recorded) (place : ℕ) (blocks : Blocks) (o : OpenFiles) (f : OpenFile) (rest : Bytes) (paths : List Bytes) → o.top ≡ Some f → f.include ≡ Some rest → named_by (source_of o.system) recorded (words_of rest) ≡ Ok paths
    → open_left recorded place blocks o ≡ open_left recorded place blocks (record o { top = Some (named_as paths f) })
names-left recorded place blocks o f rest paths top include named =
    let fs = o.below.items in
    let source = source_of o.system in
    let cur-o = cond o.fresh (take (length fs) blocks) blocks in
    let g = named_as paths f in
    let z : place + 0 ≡ place = omega arith in
    let alike : Alike recorded source f g = record { path = refl; text = refl; at = refl; number = refl; files = rw include (sym (words-files recorded source (words_of rest) paths named)) } in
    let all : ReadStep recorded source 0 [] (fs ++ f ∷ []) (fs ++ g ∷ []) cur-o cur-o place [] = under recorded source 0 [] fs (f ∷ []) (g ∷ []) cur-o cur-o place [] refl (stays recorded source (top_depth 0 fs) (top_outer [] fs cur-o) f g (drop (length fs) cur-o) place alike) in
    ap (λ t. frames_left recorded source 0 [] (fs ++ option_to_list t) cur-o place) top ∙ all ∙ ap (frames_left recorded source 0 [] (fs ++ g ∷ []) cur-o) z

token-refused : (recorded : Recorded) (place : ℕ) (blocks : Blocks) (o : OpenFiles) (f : OpenFile) (rest : Bytes) (e : TokenError) → o.top ≡ Some f → f.include ≡ Some rest → named_by (source_of o.system) recorded (words_of rest) ≡ Err e
    → RefusesFirst (open_left recorded place blocks o) f.path (f.number - 1) (causes.Token e)
token-refused recorded place blocks o f rest e top include named =
    let fs = o.below.items in
    let source = source_of o.system in
    let depth = top_depth 0 fs in
    let outer = top_outer [] fs (cur o blocks) in
    let at = drop (length fs) (cur o blocks) in
    let inside = outer ++ option_to_list (or_none (slice_get at 0)) in
    let line : Line = record { source = source; file = f.path; number = f.number - 1; depth = depth; blocks = []; content = Refused (causes.Token e) } in
    let files : frame_files recorded source f ≡ Err e = rw include (words-refused recorded source (words_of rest) e named) in
    let left = refuses recorded source depth outer f at place (line ∷ []) [] (ap (deeper recorded source depth inside f.path (f.number - 1) (place + 0)) files ∙ token-refuses recorded source depth inside f.path (f.number - 1) (place + 0) e) in
    first-refused recorded place blocks o f line left.0 f.path (f.number - 1) (causes.Token e) top left.1 refl refl refl

no-fault : (b : Bool) → b ≡ true → b ≡ false → ⊥
no-fault b e f = let k : true ≡ false = sym e ∙ f in cc

faulty : (before : List Line) (file : Bytes) (number : ℕ) (cause : Cause) (d : ResolveError) → is_fault cause ≡ true → RefusesLine (line_errors.Refused cause) file number d → moved before [] d
faulty before file number cause errors.OutOfMemory f r = tt
faulty before file number cause (errors.At g n c) f r = λ fault. absurd (no-fault (is_fault c) (let k : c ≡ cause = cc in ap is_fault k ∙ f) fault)

pub include-refused : (recorded : Recorded) (place : ℕ) (blocks : Blocks) (o : OpenFiles) (f : OpenFile) (rest : Bytes) (e : LineError) (d : ResolveError) → o.top ≡ Some f → f.include ≡ Some rest
    → FoundPaths (Err e) (named_by (source_of o.system) recorded (words_of rest)) → RefusesLine e f.path (f.number - 1) d → moved (open_left recorded place blocks o) [] d
include-refused recorded place blocks o f rest line_errors.OutOfMemory errors.OutOfMemory top include found r = tt
include-refused recorded place blocks o f rest line_errors.OutOfMemory (errors.At g n c) top include found r = absurd cc
include-refused recorded place blocks o f rest (line_errors.Refused (causes.Token t)) d top include found r = moves-refused (open_left recorded place blocks o) [] f.path (f.number - 1) (causes.Token t) d r (token-refused recorded place blocks o f rest t top include found)
include-refused recorded place blocks o f rest (line_errors.Refused cause) d top include found r = faulty (open_left recorded place blocks o) f.path (f.number - 1) cause d found r

-- the top of some files that may be there, and what it includes
pub top-include : (t : Option OpenFile) (rest : Bytes) → Some rest ≡ option_and_then (λ f. f.include) t → (f : OpenFile) × ((t ≡ Some f) × (f.include ≡ Some rest))
top-include None rest e = absurd cc
top-include (Some f) rest e = (f, (refl, sym e))
