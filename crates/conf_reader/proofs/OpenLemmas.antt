-- Steps of open files: one is closed, a path is skipped, a file is opened.
use Rattle.std.proofs.Common.{◌≡◌, ℕ, zero, suc, ◌+◌, ◌<◌, ◌≤◌, Bool, true, false, cond, eqb, List, [], ◌∷◌, ◌++◌, length, take, drop, Option, Some, None, Ok, refl, sym, ap, ◌∙◌, append_assoc, arith}
use Rattle.std.specs.Prelude.{flat_map, option_to_list, nat_lt, IfSome, IsSome}
use Rattle.std.specs.List.{slice_get}
use Rattle.std.proofs.lemmas.List.{append-nil, length-append}
use Rattle.std.proofs.lemmas.Bool.{ne_eqb}
use Rattle.std.proofs.Math.ListN.{drop_of_length-le}
use Rattle.conf_rules.specs.Texts.{Bytes}
use Rattle.conf_rules.specs.Heads.{lines_of}
use Rattle.conf_rules.specs.Recorded.{Recorded}
use Rattle.conf_rules.specs.Includes.{Source, file_at, file_of}
use Rattle.conf_rules.specs.Sources.{depth_limit, size_limit}
use Rattle.conf_reader.specs.declared.open_file.OpenFile.{OpenFile}
use Rattle.conf_reader.specs.declared.stack.OpenFiles.{OpenFiles}
use Rattle.conf_reader.specs.Blocks.{Blocks, or_none}
use Rattle.conf_reader.specs.Left.{source_of, frame_files, frames_left, stack, open_left, parts_left, IsFileSettled, AreFilesReady, Names}
use Rattle.conf_reader.proofs.LeftLemmas.{top_depth, top_outer, top-depth, ReadStep, under, closes, stays, opens-file, Opened, Alike}

-- ---- lists

pub drop-at : {X : Type 0} (xs : List X) (i : ℕ) (x : X) → slice_get xs i ≡ Some x → drop i xs ≡ x ∷ drop (suc i) xs
drop-at [] i x e = absurd cc
drop-at (y ∷ ys) zero x e = let k : y ≡ x = cc in ap (λ z. z ∷ ys) k
drop-at (y ∷ ys) (suc i) x e = drop-at ys i x e

take-twice : (n : ℕ) (bs : Blocks) → take n (take n bs) ≡ take n bs
take-twice zero bs = refl
take-twice (suc n) [] = refl
take-twice (suc n) (b ∷ bs) = ap (λ xs. b ∷ xs) (take-twice n bs)

take-more : (n : ℕ) (bs : Blocks) → take n (take (suc n) bs) ≡ take n bs
take-more zero bs = refl
take-more (suc n) [] = refl
take-more (suc n) (b ∷ bs) = ap (λ xs. b ∷ xs) (take-more n bs)

one-left : (n : ℕ) (bs : Blocks) → drop n (take (suc n) bs) ≡ take 1 (drop n bs)
one-left zero bs = refl
one-left (suc n) [] = refl
one-left (suc n) (b ∷ bs) = one-left n bs

first-same : (bs : Blocks) → or_none (slice_get (take 1 bs) 0) ≡ or_none (slice_get bs 0)
first-same [] = refl
first-same (b ∷ bs) = refl

first-alone : (bs : Blocks) → or_none (slice_get (drop 1 (take 1 bs)) 0) ≡ None
first-alone [] = refl
first-alone (b ∷ bs) = refl

-- ---- one step

-- whether no line of the top was given yet or not, the blocks below it are the same
pub cur-below : (fresh : Bool) (n : ℕ) (blocks : Blocks) → take n (cond fresh (take n blocks) blocks) ≡ take n blocks
cur-below true n blocks = take-twice n blocks
cur-below false n blocks = refl

pub settled-files : (recorded : Recorded) (source : Source) (f : OpenFile) → IsFileSettled f → frame_files recorded source f ≡ Ok []
settled-files recorded source f s = let none : drop f.next f.named ≡ [] = drop_of_length-le f.named s.1 in rw (s.0, none) refl

pub open-closes : (recorded : Recorded) (place : ℕ) (blocks : Blocks) (o : OpenFiles) (below : List OpenFile) (t : Option OpenFile) (f : OpenFile) → o.top ≡ Some f → IsFileSettled f → length f.text ≤ f.at
    → o.below.items ≡ below ++ option_to_list t → open_left recorded place blocks o ≡ parts_left recorded place blocks o.system below t false
unfolding lines_of
open-closes recorded place blocks o below t f top s ended same =
    let fs = o.below.items in
    let source = source_of o.system in
    let cur-o = cond o.fresh (take (length fs) blocks) blocks in
    let z : place + 0 ≡ place = omega arith in
    let ended-lines : lines_of (drop f.at f.text) ≡ [] = ap lines_of (drop_of_length-le f.text ended) in
    let step : frames_left recorded source (top_depth 0 fs) (top_outer [] fs cur-o) (f ∷ []) (drop (length fs) cur-o) place ≡ [] =
    closes recorded source (top_depth 0 fs) (top_outer [] fs cur-o) f (drop (length fs) cur-o) place (settled-files recorded source f s) ended-lines in
    let all : ReadStep recorded source 0 [] (fs ++ f ∷ []) (fs ++ []) cur-o blocks place [] = under recorded source 0 [] fs (f ∷ []) [] cur-o blocks place [] (cur-below o.fresh (length fs) blocks) step in
    ap (λ t. frames_left recorded source 0 [] (fs ++ option_to_list t) cur-o place) top
    ∙ all
    ∙ ap (λ x. frames_left recorded source 0 [] x blocks (place + 0)) (append-nil fs ∙ same)
    ∙ ap (frames_left recorded source 0 [] (below ++ option_to_list t) blocks) z

-- the same of a top that may be there
pub closes-top : (recorded : Recorded) (place : ℕ) (blocks : Blocks) (o : OpenFiles) (below : List OpenFile) (n t : Option OpenFile) → o.top ≡ n → IsSome n → IfSome n (λ f. IsFileSettled f × (length f.text ≤ f.at))
    → o.below.items ≡ below ++ option_to_list t → open_left recorded place blocks o ≡ parts_left recorded place blocks o.system below t false
closes-top recorded place blocks o below None t top some ended same = absurd (let k : false ≡ true = some in cc)
closes-top recorded place blocks o below (Some f) t top some ended same = open-closes recorded place blocks o below t f top ended.0 ended.1 same

-- a path that names no file is skipped
skipped-files : (recorded : Recorded) (source : Source) (f : OpenFile) (path : Bytes) → f.include ≡ None → slice_get f.named f.next ≡ Some path → recorded.content path ≡ None
    → frame_files recorded source (record f { next = f.next + 1 }) ≡ frame_files recorded source f
skipped-files recorded source f path include named none =
    let next : f.next + 1 ≡ suc f.next = omega arith in
    let files : flat_map (file_at recorded) (drop f.next f.named) ≡ flat_map (file_at recorded) (drop (f.next + 1) f.named) =
    ap (flat_map (file_at recorded)) (drop-at f.named f.next path named) ∙ ap (λ t. file_of path t ++ flat_map (file_at recorded) (drop (suc f.next) f.named)) none ∙ ap (λ i. flat_map (file_at recorded) (drop i f.named)) (sym next) in
    rw include (ap (λ x. Ok x) (sym files))

pub open-skips : (recorded : Recorded) (place : ℕ) (blocks : Blocks) (o : OpenFiles) (f : OpenFile) (path : Bytes) → o.top ≡ Some f → f.include ≡ None → slice_get f.named f.next ≡ Some path → recorded.content path ≡ None
    → open_left recorded place blocks o ≡ open_left recorded place blocks (record o { top = Some (record f { next = f.next + 1 }) })
open-skips recorded place blocks o f path top include named none =
    let fs = o.below.items in
    let source = source_of o.system in
    let cur-o = cond o.fresh (take (length fs) blocks) blocks in
    let g = record f { next = f.next + 1 } in
    let z : place + 0 ≡ place = omega arith in
    let alike : Alike recorded source f g = record { path = refl; text = refl; at = refl; number = refl; files = skipped-files recorded source f path include named none } in
    let all : ReadStep recorded source 0 [] (fs ++ f ∷ []) (fs ++ g ∷ []) cur-o cur-o place [] = under recorded source 0 [] fs (f ∷ []) (g ∷ []) cur-o cur-o place [] refl (stays recorded source (top_depth 0 fs) (top_outer [] fs cur-o) f g (drop (length fs) cur-o) place alike) in
    ap (λ t. frames_left recorded source 0 [] (fs ++ option_to_list t) cur-o place) top ∙ all ∙ ap (frames_left recorded source 0 [] (fs ++ g ∷ []) cur-o) z

pub skips-top : (recorded : Recorded) (place : ℕ) (blocks : Blocks) (o : OpenFiles) (f : OpenFile) → o.top ≡ Some f → f.include ≡ None → f.next < length f.named → Names (Some f) (λ path. recorded.content path ≡ None)
    → open_left recorded place blocks o ≡ open_left recorded place blocks (record o { top = Some (record f { next = f.next + 1 }) })
skips-top recorded place blocks o f top include low names = by-path (slice_get f.named f.next) refl names
  where
    past : (xs : List Bytes) (i : ℕ) → i < length xs → slice_get xs i ≡ None → ⊥
    past [] i h e = omega (arith, h)
    past (x ∷ xs) zero h e = cc
    past (x ∷ xs) (suc i) h e = past xs i (omega (arith, h)) e

    by-path : (p : Option Bytes) → slice_get f.named f.next ≡ p → IfSome p (λ path. recorded.content path ≡ None) → open_left recorded place blocks o ≡ open_left recorded place blocks (record o { top = Some (record f { next = f.next + 1 }) })
    by-path None e none = absurd (past f.named f.next low e)
    by-path (Some path) e none = open-skips recorded place blocks o f path top include e none

-- ---- a file is opened

not-fresh : (o : OpenFiles) (f : OpenFile) (t : Bool) → o.fresh ≡ t → (t ≡ true → IfSome o.top IsFileSettled) → o.top ≡ Some f → f.next < length f.named → t ≡ false
not-fresh o f false e h top low = refl
not-fresh o f true e h top low = let s : IsFileSettled f = rw top at (h refl) in absurd (let k = s.1 in omega (arith, low, k))

pub open-enters : (recorded : Recorded) (place : ℕ) (blocks : Blocks) (o : OpenFiles) (below : List OpenFile) (f g new : OpenFile) (path text : Bytes) → AreFilesReady o → length o.below.items < depth_limit
    → o.top ≡ Some f → f.include ≡ None → f.next < length f.named → slice_get f.named f.next ≡ Some path → recorded.content path ≡ Some text → nat_lt size_limit (length text) ≡ false
    → below ≡ o.below.items ++ g ∷ []
    → g ≡ record f { next = f.next + 1 } → new ≡ record { path = path; text = text; at = 0; number = 1; include = None; named = []; next = 0 }
    → open_left recorded place blocks o ≡ parts_left recorded place blocks o.system below (Some new) true
open-enters recorded place blocks o below f g new path text ready deep top include low named content small below-is g-is new-is =
    let fs = o.below.items in
    let source = source_of o.system in
    let plain : o.fresh ≡ false = not-fresh o f o.fresh refl ready.fresh top low in
    let others = take (suc (length fs)) blocks in
    let z : place + 0 ≡ place = omega arith in
    let rest = flat_map (file_at recorded) (drop (f.next + 1) f.named) in
    let next : suc f.next ≡ f.next + 1 = omega arith in
    let files : frame_files recorded source f ≡ Ok (record { path = path; text = text } ∷ rest) =
    rw include (ap (λ x. Ok x) (ap (flat_map (file_at recorded)) (drop-at f.named f.next path named) ∙ ap (λ t. file_of path t ++ flat_map (file_at recorded) (drop (suc f.next) f.named)) content ∙ ap (λ i. record { path = path; text = text } ∷ flat_map (file_at recorded) (drop i f.named)) next)) in
    let g' : OpenFile = record f { next = f.next + 1 } in
    let new' : OpenFile = record { path = path; text = text; at = 0; number = 1; include = None; named = []; next = 0 } in
    let opened : Opened recorded source f g' new' = record {
      rest = rest;
      files = files;
      small = small;
      path = refl;
      text = refl;
      at = refl;
      number = refl;
      others = rw include refl;
      begins = refl;
      first = refl;
      none = refl;
    } in
    let depth-is : top_depth 0 fs ≡ length fs = top-depth 0 fs ∙ Rattle.std.proofs.Common.zero-add (length fs) in
    let not-deep : eqb (top_depth 0 fs) depth_limit ≡ false = ne_eqb (top_depth 0 fs) depth_limit (λ h. absurd (omega (arith, deep, h, depth-is))) in
    let same : or_none (slice_get (drop (length fs) others) 0) ≡ or_none (slice_get (drop (length fs) blocks) 0) = rw (one-left (length fs) blocks) (first-same (drop (length fs) blocks)) in
    let alone : or_none (slice_get (drop 1 (drop (length fs) others)) 0) ≡ None = rw (one-left (length fs) blocks) (first-alone (drop (length fs) blocks)) in
    let all : ReadStep recorded source 0 [] (fs ++ f ∷ []) (fs ++ g' ∷ new' ∷ []) blocks others place [] =
    under recorded source 0 [] fs (f ∷ []) (g' ∷ new' ∷ []) blocks others place [] (sym (take-more (length fs) blocks))
    (opens-file recorded source (top_depth 0 fs) (top_outer [] fs blocks) f g' new' (drop (length fs) blocks) (drop (length fs) others) place not-deep opened same alone) in
    let count : length below ≡ suc (length fs) = let k = length-append fs (g ∷ []) in ap length below-is ∙ k ∙ (let j : length fs + 1 ≡ suc (length fs) = omega arith in j) in
    let stack-is : fs ++ g' ∷ new' ∷ [] ≡ below ++ new ∷ [] = ap (λ x. fs ++ x ∷ new' ∷ []) (sym g-is) ∙ ap (λ x. fs ++ g ∷ x ∷ []) (sym new-is) ∙ sym (append_assoc fs (g ∷ []) (new ∷ [])) ∙ ap (λ xs. xs ++ new ∷ []) (sym below-is) in
    ap (λ b. frames_left recorded source 0 [] (stack o) (cond b (take (length fs) blocks) blocks) place) plain
    ∙ ap (λ t. frames_left recorded source 0 [] (fs ++ option_to_list t) blocks place) top
    ∙ all
    ∙ ap (frames_left recorded source 0 [] (fs ++ g' ∷ new' ∷ []) others) z
    ∙ ap (λ x. frames_left recorded source 0 [] x others place) stack-is
    ∙ ap (λ m. frames_left recorded source 0 [] (below ++ new ∷ []) (take m blocks) place) (sym count)
