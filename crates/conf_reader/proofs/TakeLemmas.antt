-- The next line of the last open file.
use Rattle.std.proofs.Common.{◌≡◌, ℕ, zero, suc, ◌<◌, ◌≤◌, Bool, true, false, cond, List, [], ◌∷◌, ◌++◌, length, take, drop, Option, Some, None, Ok, Err, refl, sym, ap, ◌∙◌, arith, codes}
use Rattle.std.specs.Prelude.{flat_map, option_to_list, IfSome, IsSome}
use Rattle.std.specs.List.{slice_get}
use Rattle.std.specs.Option.{option_map}
use Rattle.std.proofs.lemmas.Slice.Eq.{bytes_eq-Decides}
use Rattle.std.proofs.Math.ListN.{drop_of_length-le}
use Rattle.conf_rules.specs.declared.causes.LexError.{LexError}
use Rattle.conf_rules.specs.declared.causes.Cause.{Cause}
use Rattle.conf_rules.specs.declared.causes.Cause.TheVariants as causes
use Rattle.conf_rules.specs.declared.causes.ResolveError.{ResolveError}
use Rattle.conf_rules.specs.declared.causes.ResolveError.TheVariants as errors
use Rattle.conf_reader.specs.declared.errors.LineError.{LineError}
use Rattle.conf_reader.specs.declared.errors.LineError.TheVariants as line_errors
use Rattle.conf_reader.specs.declared.open_file.NextFile.{NextFile}
use Rattle.conf_reader.specs.Results.{RefusesLine}
use Rattle.conf_rules.specs.Texts.{Bytes, same_word, lower}
use Rattle.conf_rules.specs.Heads.{Comment, Says, head_of, lines_of}
use Rattle.conf_rules.specs.Recorded.{Recorded}
use Rattle.conf_rules.specs.Includes.{Source, included_files}
use Rattle.conf_rules.specs.Sources.{Line, is_opening, own_block, block_behind, depth_limit}
use Rattle.conf_rules.specs.Resolution.{is_of_command_line}
use Rattle.conf_reader.specs.declared.line.ConfLine.{ConfLine}
use Rattle.conf_reader.specs.declared.open_file.OpenFile.{OpenFile}
use Rattle.conf_reader.specs.declared.stack.OpenFiles.{OpenFiles}
use Rattle.conf_reader.specs.declared.open_file.Said.{Said}
use Rattle.conf_reader.specs.Blocks.{Blocks, or_none, own_block_of, keyword_opens_block, open_behind}
use Rattle.conf_reader.specs.Left.{source_of, frame_files, frames_left, cur, open_left, IsFileSettled, NextLine, SkipsComment, GivesLine, GivenBy, gone, include_of, HeadIs, heading_of, RefusesHead, TakesLine}
use Rattle.conf_reader.proofs.LeftLemmas.{top_depth, top_outer, top-depth, top-outer, ReadStep, under, takes, Taken, file_line, head-left, front}
use Rattle.conf_reader.proofs.OpenLemmas.{cur-below, settled-files}

pub file-source : (system : Bool) → is_of_command_line (source_of system) ≡ false
file-source true = refl
file-source false = refl

-- ---- comments

comment-files : (recorded : Recorded) (source : Source) (bytes : Bytes) → head_of bytes ≡ Ok Comment → included_files source recorded bytes ≡ Ok []
unfolding included_files
comment-files recorded source bytes h = rw h refl

comment-opens : (bytes : Bytes) → head_of bytes ≡ Ok Comment → is_opening bytes ≡ false
unfolding is_opening
comment-opens bytes h = rw h refl

gone-none : (recorded : Recorded) (source : Source) (f : OpenFile) (next : ℕ) → IsFileSettled f → frame_files recorded source (gone next None f) ≡ Ok []
gone-none recorded source f next s = let none : drop f.next f.named ≡ [] = drop_of_length-le f.named s.1 in rw none refl

low-top : (o : OpenFiles) → length o.below.items ≤ depth_limit → top_depth 0 o.below.items ≤ depth_limit
low-top o few = let k = top-depth 0 o.below.items in omega (arith, k, few)

pub comment-left : (recorded : Recorded) (place : ℕ) (blocks : Blocks) (o : OpenFiles) (f : OpenFile) (next : ℕ) → length o.below.items ≤ depth_limit → o.top ≡ Some f → IsFileSettled f → NextLine f next (Ok Comment)
    → SkipsComment recorded place blocks o (record o { top = Some (gone next None f) })
comment-left recorded place blocks o f next few top s n =
    let fs = o.below.items in
    let source = source_of o.system in
    let cur-o = cond o.fresh (take (length fs) blocks) blocks in
    let at = drop (length fs) cur-o in
    let depth = top_depth 0 fs in
    let outer = top_outer [] fs cur-o in
    let g = gone next None f in
    let line = file_line source depth outer (or_none (slice_get at 0)) f n.bytes in
    let taken : Taken recorded source f g n.bytes = record {
      files = settled-files recorded source f s;
      read = n.is;
      path = refl;
      number = refl;
      named = gone-none recorded source f next s ∙ sym (comment-files recorded source n.bytes n.head);
      opening = λ e. comment-files recorded source n.bytes n.head;
    } in
    let step = takes recorded source depth outer f g at at place n.bytes (low-top o few) taken (rw (comment-opens n.bytes n.head) refl) in
    let all : ReadStep recorded source 0 [] (fs ++ f ∷ []) (fs ++ g ∷ []) cur-o cur-o place (line ∷ []) = under recorded source 0 [] fs (f ∷ []) (g ∷ []) cur-o cur-o place (line ∷ []) refl step in
    record {
      line = line;
      left = ap (λ t. frames_left recorded source 0 [] (fs ++ option_to_list t) cur-o place) top ∙ all;
      comment = record { bytes = n.bytes; spelled = refl; head = n.head; asked = file-source o.system };
    }

-- ---- lines that say something

not-both : (keyword : Bytes) → same_word keyword (codes "include") ≡ true → keyword_opens_block keyword ≡ false
not-both keyword same =
    let lowered : lower keyword ≡ lower (codes "include") = (bytes_eq-Decides (lower keyword) (lower (codes "include"))).0 same in
    rw lowered refl

said-opens : (bytes keyword rest : Bytes) → head_of bytes ≡ Ok (Says keyword rest) → is_opening bytes ≡ keyword_opens_block keyword
unfolding is_opening
said-opens bytes keyword rest h = rw h refl

include-files : (recorded : Recorded) (source : Source) (f : OpenFile) (next : ℕ) (said : Said) (bytes : Bytes) (t : Bool) → same_word said.keyword (codes "include") ≡ t → IsFileSettled f → head_of bytes ≡ Ok (Says said.keyword said.rest)
    → frame_files recorded source (gone next (include_of said) f) ≡ included_files source recorded bytes
unfolding included_files
include-files recorded source f next said bytes true same s h = rw (h, same) refl
include-files recorded source f next said bytes false same s h = let none : drop f.next f.named ≡ [] = drop_of_length-le f.named s.1 in rw (h, same, none) refl

opening-files : (recorded : Recorded) (source : Source) (said : Said) (bytes : Bytes) (t : Bool) → same_word said.keyword (codes "include") ≡ t → head_of bytes ≡ Ok (Says said.keyword said.rest) → is_opening bytes ≡ true → included_files source recorded bytes ≡ Ok []
unfolding included_files
opening-files recorded source said bytes true same h e = absurd (let k : true ≡ false = sym e ∙ said-opens bytes said.keyword said.rest h ∙ not-both said.keyword same in cc)
opening-files recorded source said bytes false same h e = rw (h, same) refl

-- blocks of a file and below it
take-front : (d : ℕ) (blocks : Blocks) (b : Option ℕ) → d ≤ length blocks → take d (take d blocks ++ b ∷ []) ≡ take d blocks
take-front zero blocks b h = refl
take-front (suc d) [] b h = absurd (omega (arith, h))
take-front (suc d) (x ∷ xs) b h = ap (λ ys. x ∷ ys) (take-front d xs b (omega (arith, h)))

drop-front : (d : ℕ) (blocks : Blocks) (b : Option ℕ) → d ≤ length blocks → drop d (take d blocks ++ b ∷ []) ≡ b ∷ []
drop-front zero blocks b h = refl
drop-front (suc d) [] b h = absurd (omega (arith, h))
drop-front (suc d) (x ∷ xs) b h = drop-front d xs b (omega (arith, h))

own-fresh : (d : ℕ) (blocks : Blocks) → or_none (slice_get (drop d (take d blocks)) 0) ≡ None
own-fresh zero blocks = refl
own-fresh (suc d) [] = refl
own-fresh (suc d) (x ∷ xs) = own-fresh d xs

own-old : (d : ℕ) (blocks : Blocks) → or_none (slice_get (drop d blocks) 0) ≡ or_none (slice_get blocks d)
own-old zero blocks = refl
own-old (suc d) [] = refl
own-old (suc d) (x ∷ xs) = own-old d xs

own-is : (fresh : Bool) (d : ℕ) (blocks : Blocks) → or_none (slice_get (drop d (cond fresh (take d blocks) blocks)) 0) ≡ cond fresh None (or_none (slice_get blocks d))
own-is true d blocks = own-fresh d blocks
own-is false d blocks = own-old d blocks

pub gives-line : (recorded : Recorded) (place : ℕ) (blocks : Blocks) (o : OpenFiles) (f : OpenFile) (next : ℕ) (said : Said) (given : ConfLine) → length o.below.items ≤ depth_limit → length o.below.items ≤ length blocks → o.top ≡ Some f → IsFileSettled f
    → NextLine f next (Ok (Says said.keyword said.rest)) → GivenBy o f said given
    → GivesLine recorded place blocks o (record o { top = Some (gone next (include_of said) f); fresh = false }) given
gives-line recorded place blocks o f next said given few size top s n by =
    let fs = o.below.items in
    let source = source_of o.system in
    let d = length fs in
    let cur-o = cond o.fresh (take d blocks) blocks in
    let at = drop d cur-o in
    let own = or_none (slice_get at 0) in
    let depth = top_depth 0 fs in
    let outer = top_outer [] fs cur-o in
    let g = gone next (include_of said) f in
    let behind = open_behind given place blocks in
    let own-same : own ≡ own_block_of given blocks = own-is o.fresh d blocks ∙ ap (λ t. cond t None (or_none (slice_get blocks d))) (sym by.opens) ∙ ap (λ m. cond given.opens None (or_none (slice_get blocks m))) (sym by.depth) in
    let opening : is_opening n.bytes ≡ keyword_opens_block given.keyword = said-opens n.bytes said.keyword said.rest n.head ∙ ap keyword_opens_block (sym by.keyword) in
    let behind-is : behind ≡ take d blocks ++ block_behind (is_opening n.bytes) place own ∷ [] =
    ap (λ m. take m blocks ++ block_behind (keyword_opens_block given.keyword) place (own_block_of given blocks) ∷ []) by.depth
    ∙ ap (λ w. take d blocks ++ block_behind (keyword_opens_block given.keyword) place w ∷ []) (sym own-same)
    ∙ ap (λ t. take d blocks ++ block_behind t place own ∷ []) (sym opening) in
    let others-top : drop d behind ≡ block_behind (is_opening n.bytes) place own ∷ [] = ap (drop d) behind-is ∙ drop-front d blocks (block_behind (is_opening n.bytes) place own) size in
    let same : take d cur-o ≡ take d behind = cur-below o.fresh d blocks ∙ sym (take-front d blocks (block_behind (is_opening n.bytes) place own) size) ∙ sym (ap (take d) behind-is) in
    let line = file_line source depth outer own f n.bytes in
    let taken : Taken recorded source f g n.bytes = record {
      files = settled-files recorded source f s;
      read = n.is;
      path = refl;
      number = refl;
      named = include-files recorded source f next said n.bytes (same_word said.keyword (codes "include")) refl s n.head;
      opening = opening-files recorded source said n.bytes (same_word said.keyword (codes "include")) refl n.head;
    } in
    let step = takes recorded source depth outer f g at (drop d behind) place n.bytes (low-top o few) taken (ap (λ bs. or_none (slice_get bs 0)) others-top) in
    let all : ReadStep recorded source 0 [] (fs ++ f ∷ []) (fs ++ g ∷ []) cur-o behind place (line ∷ []) = under recorded source 0 [] fs (f ∷ []) (g ∷ []) cur-o behind place (line ∷ []) same step in
    let outer-is : outer ≡ flat_map option_to_list (take given.depth blocks) = top-outer [] fs cur-o ∙ ap (flat_map option_to_list) (cur-below o.fresh d blocks) ∙ ap (λ m. flat_map option_to_list (take m blocks)) (sym by.depth) in
    record {
      line = line;
      left = ap (λ t. frames_left recorded source 0 [] (fs ++ option_to_list t) cur-o place) top ∙ all;
      is_line = record {
        asked = file-source o.system;
        file = sym by.file;
        number = sym by.number;
        bytes = n.bytes;
        spelled = refl;
        says = n.head ∙ ap (λ k. Ok (Says k said.rest)) (sym by.keyword) ∙ ap (λ r. Ok (Says given.keyword r)) (sym by.rest);
        stands = ap (λ xs. xs ++ own_block (is_opening n.bytes) own) outer-is ∙ ap (λ t. flat_map option_to_list (take given.depth blocks) ++ own_block t own) opening ∙ ap (λ w. flat_map option_to_list (take given.depth blocks) ++ own_block (keyword_opens_block given.keyword) w) own-same;
      };
      source = refl;
    }

-- ---- as the code needs them

pub comment-top : (recorded : Recorded) (place : ℕ) (blocks : Blocks) (o : OpenFiles) (t : Option OpenFile) (next : NextFile) → o.top ≡ t → IsSome t → length o.below.items ≤ depth_limit → IfSome t (λ f. IsFileSettled f × (f.at < length f.text)) → IfSome t (λ f. HeadIs f (Ok next)) → next.said ≡ None
    → SkipsComment recorded place blocks o (record o { top = option_map (gone next.next None) t })
comment-top recorded place blocks o None next top some few line head said = absurd (let k : false ≡ true = some in cc)
comment-top recorded place blocks o (Some f) next top some few line head said =
    comment-left recorded place blocks o f next.next few top line.0 (rw (ap heading_of said) at head)

pub gives-top : (recorded : Recorded) (place : ℕ) (blocks : Blocks) (o : OpenFiles) (t : Option OpenFile) (next : NextFile) (said : Said) (given : ConfLine) → o.top ≡ t → IsSome t → length o.below.items ≤ depth_limit → length o.below.items ≤ length blocks
    → IfSome t (λ f. IsFileSettled f × (f.at < length f.text)) → IfSome t (λ f. HeadIs f (Ok next)) → next.said ≡ Some said → IfSome t (λ f. GivenBy o f said given)
    → GivesLine recorded place blocks o (record o { top = option_map (gone next.next (include_of said)) t; fresh = false }) given
gives-top recorded place blocks o None next said given top some few size line head says by = absurd (let k : false ≡ true = some in cc)
gives-top recorded place blocks o (Some f) next said given top some few size line head says by =
    gives-line recorded place blocks o f next.next said given few size top line.0 (rw (ap heading_of says) at head) by

refuses-line : (recorded : Recorded) (place : ℕ) (blocks : Blocks) (o : OpenFiles) (f : OpenFile) (next : ℕ) (e : LexError) → o.top ≡ Some f → IsFileSettled f → NextLine f next (Err e) → RefusesHead (open_left recorded place blocks o) f.path f.number (causes.Lex e)
refuses-line recorded place blocks o f next e top s n =
    let fs = o.below.items in
    let source = source_of o.system in
    let at = drop (length fs) (cur o blocks) in
    let depth = top_depth 0 fs in
    let outer = top_outer [] fs (cur o blocks) in
    let first = head-left recorded source depth outer f at place n.bytes (lines_of (drop next f.text)) (settled-files recorded source f s) n.is in
    let line = file_line source depth outer (or_none (slice_get at 0)) f n.bytes in
    let all = front recorded source 0 [] fs (f ∷ []) (cur o blocks) place (line ∷ []) first.0 first.1 in
    record {
      line = line;
      rest = all.0;
      is = ap (λ t. frames_left recorded source 0 [] (fs ++ option_to_list t) (cur o blocks) place) top ∙ all.1;
      file_is = refl;
      number_is = refl;
      bytes = n.bytes;
      spelled = refl;
      error = e;
      head = n.head;
      cause_is = refl;
    }

head-as : (left : List Line) (f g : Bytes) (m n : ℕ) (c d : Cause) → RefusesHead left f m c → g ≡ f → n ≡ m → d ≡ c → RefusesHead left g n d
head-as left f g m n c d r file number cause = record { line = r.line; rest = r.rest; is = r.is; file_is = r.file_is ∙ sym file; number_is = r.number_is ∙ sym number; bytes = r.bytes; spelled = r.spelled; error = r.error; head = r.head; cause_is = cause ∙ r.cause_is }

refused-by : (recorded : Recorded) (place : ℕ) (blocks : Blocks) (o n : OpenFiles) (f : OpenFile) (e : LineError) (d : ResolveError) → o.top ≡ Some f → IsFileSettled f → HeadIs f (Err e) → RefusesLine e f.path f.number d → TakesLine recorded place blocks o n (Err d)
refused-by recorded place blocks o n f e errors.OutOfMemory top s head r = tt
refused-by recorded place blocks o n f line_errors.OutOfMemory (errors.At file number cause) top s head r = absurd cc
refused-by recorded place blocks o n f (line_errors.Refused c) (errors.At file number cause) top s head r =
    head-as (open_left recorded place blocks o) f.path file f.number number (causes.Lex head.1.0) cause (refuses-line recorded place blocks o f head.0 head.1.0 top s head.1.1.1) (cc) (cc) (let k : cause ≡ c = cc in k ∙ head.1.1.0)

pub refused-top : (recorded : Recorded) (place : ℕ) (blocks : Blocks) (o n : OpenFiles) (t : Option OpenFile) (e : LineError) (d : ResolveError) → o.top ≡ t → IsSome t → IfSome t (λ f. IsFileSettled f × (f.at < length f.text)) → IfSome t (λ f. HeadIs f (Err e)) → IfSome t (λ f. RefusesLine e f.path f.number d)
    → TakesLine recorded place blocks o n (Err d)
refused-top recorded place blocks o n None e d top some line head r = absurd (let k : false ≡ true = some in cc)
refused-top recorded place blocks o n (Some f) e d top some line head r = refused-by recorded place blocks o n f e d top line.0 head r
