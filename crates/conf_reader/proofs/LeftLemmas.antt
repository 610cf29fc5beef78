-- How what is left changes as lines are given and files are opened and closed.
use Rattle.std.proofs.Common.{◌≡◌, ℕ, zero, suc, ◌+◌, ◌-◌, ◌≤◌, Bool, true, false, cond, eqb, List, [], ◌∷◌, ◌++◌, length, take, drop, Option, Some, None, Ok, Err, refl, sym, ap, ◌∙◌, append_assoc, arith}
use Rattle.std.specs.Prelude.{flat_map, option_to_list}
use Rattle.std.specs.List.{slice_get}
use Rattle.std.proofs.lemmas.List.{append-nil, length-append}
use Rattle.std.proofs.lemmas.Bool.{ne_eqb, eq-eqb}
use Rattle.conf_rules.specs.declared.causes.TokenError.{TokenError}
use Rattle.conf_rules.specs.Texts.{Bytes}
use Rattle.conf_rules.specs.Heads.{lines_of}
use Rattle.conf_rules.specs.Recorded.{Recorded}
use Rattle.conf_rules.specs.Includes.{Source, ConfFile, included_files}
use Rattle.conf_rules.specs.Sources.{Line, Spelled, Where, is_opening, own_block, block_behind, lines_in, file_lines, each_file, too_deep, with_files, included, depth_limit, refused_at_line}
use Rattle.conf_reader.specs.declared.open_file.OpenFile.{OpenFile}
use Rattle.conf_reader.specs.Blocks.{Blocks, or_none}
use Rattle.conf_reader.specs.Left.{frame_files, one_below, deeper, frame_left, frames_left}

-- what a line includes is what lies deeper
pub included-deeper : (recorded : Recorded) (source : Source) (depth place : ℕ) (blocks : List ℕ) (file : Bytes) (number : ℕ) (bytes : Bytes) → depth ≤ depth_limit
    → included source recorded (depth_limit - depth) depth place blocks file number bytes ≡ deeper recorded source depth blocks file number (place + 1) (included_files source recorded bytes)
unfolding included deeper
included-deeper recorded source depth place blocks file number bytes low = by-depth (depth_limit - depth) refl
  where
    by-depth : (more : ℕ) → depth_limit - depth ≡ more → included source recorded more depth place blocks file number bytes ≡ deeper recorded source depth blocks file number (place + 1) (included_files source recorded bytes)
    by-depth zero e = let k : depth ≡ depth_limit = omega (arith, e, low) in rw (eq-eqb depth depth_limit k) refl
    by-depth (suc more) e =
        let k : eqb depth depth_limit ≡ false = ne_eqb depth depth_limit (λ h. absurd (omega (arith, e, h))) in
        let m : depth_limit - (depth + 1) ≡ more = omega (arith, e) in
        let here : Where = record { source = source; depth = depth; outer = blocks } in
        let inner : Where = record { source = source; depth = depth + 1; outer = blocks } in
        rw k (ap (λ n. with_files here file number (each_file (λ start f. file_lines (included source recorded n (depth + 1)) inner start f) (place + 1)) (included_files source recorded bytes)) (sym m))

-- the depth of the file on top of some, and the blocks in which its lines stand
abbrev pub top_depth : ℕ → List OpenFile → ℕ
top_depth depth [] = depth
top_depth depth (f ∷ fs) = top_depth (depth + 1) fs

abbrev pub top_outer : List ℕ → List OpenFile → Blocks → List ℕ
top_outer outer [] blocks = outer
top_outer outer (f ∷ fs) blocks = top_outer (outer ++ option_to_list (or_none (slice_get blocks 0))) fs (drop 1 blocks)

pub top-depth : (depth : ℕ) (fs : List OpenFile) → top_depth depth fs ≡ depth + length fs
top-depth depth [] = omega arith
top-depth depth (f ∷ fs) = let h = top-depth (depth + 1) fs in omega (arith, h)

pub top-outer : (outer : List ℕ) (fs : List OpenFile) (blocks : Blocks) → top_outer outer fs blocks ≡ outer ++ flat_map option_to_list (take (length fs) blocks)
top-outer outer [] blocks = sym (append-nil outer)
top-outer outer (f ∷ fs) [] = top-outer (outer ++ []) fs [] ∙ ap (λ o. o ++ flat_map option_to_list (take (length fs) (let xs : Blocks = [] in xs))) (append-nil outer) ∙ ap (λ xs. outer ++ flat_map option_to_list xs) (no-more (length fs))
  where
    no-more : (n : ℕ) → take n (let xs : Blocks = [] in xs) ≡ []
    no-more zero = refl
    no-more (suc n) = refl
top-outer outer (f ∷ fs) (b ∷ bs) = top-outer (outer ++ option_to_list b) fs bs ∙ append_assoc outer (option_to_list b) (flat_map option_to_list (take (length fs) bs))

-- what is left begins with these lines, and then others are left
abbrev pub ReadStep : Recorded → Source → ℕ → List ℕ → List OpenFile → List OpenFile → Blocks → Blocks → ℕ → List Line → Type 0
ReadStep recorded source depth outer gs hs blocks others place first =
    frames_left recorded source depth outer gs blocks place ≡ first ++ frames_left recorded source depth outer hs others (place + length first)

one-under : (recorded : Recorded) (source : Source) (depth : ℕ) (outer : List ℕ) (own : Option ℕ) (f : OpenFile) (inner after first : List Line) (place : ℕ) → inner ≡ first ++ after
    → inner ++ frame_left recorded source depth outer own f (place + length inner) ≡ first ++ (after ++ frame_left recorded source depth outer own f (place + length first + length after))
one-under recorded source depth outer own f inner after first place e =
    let k : place + length (first ++ after) ≡ place + length first + length after = omega (arith, length-append first after) in
    ap (λ xs. xs ++ frame_left recorded source depth outer own f (place + length xs)) e
    ∙ append_assoc first after _
    ∙ ap (λ n. first ++ (after ++ frame_left recorded source depth outer own f n)) k

-- a step of the files on top is one of all open files
pub under : (recorded : Recorded) (source : Source) (depth : ℕ) (outer : List ℕ) (fs gs hs : List OpenFile) (blocks others : Blocks) (place : ℕ) (first : List Line)
    → take (length fs) blocks ≡ take (length fs) others
    → ReadStep recorded source (top_depth depth fs) (top_outer outer fs blocks) gs hs (drop (length fs) blocks) (drop (length fs) others) place first
    → ReadStep recorded source depth outer (fs ++ gs) (fs ++ hs) blocks others place first
under recorded source depth outer [] gs hs blocks others place first same step = step
under recorded source depth outer (f ∷ fs) gs hs [] [] place first same step =
    one-under recorded source depth outer None f _ _ first place (under recorded source (depth + 1) (outer ++ []) fs gs hs [] [] place first refl (rw (nil (length fs)) step))
  where
    nil : (n : ℕ) → drop n (let xs : Blocks = [] in xs) ≡ []
    nil zero = refl
    nil (suc n) = refl
under recorded source depth outer (f ∷ fs) gs hs [] (o ∷ os) place first same step = absurd cc
under recorded source depth outer (f ∷ fs) gs hs (b ∷ bs) [] place first same step = absurd cc
under recorded source depth outer (f ∷ fs) gs hs (b ∷ bs) (o ∷ os) place first same step =
    let head : b ≡ o = cc in
    let tail : take (length fs) bs ≡ take (length fs) os = cc in
    one-under recorded source depth outer b f _ _ first place (under recorded source (depth + 1) (outer ++ option_to_list b) fs gs hs bs os place first tail step)
    ∙ ap (λ c. first ++ (frames_left recorded source (depth + 1) (outer ++ option_to_list c) (fs ++ hs) os (place + length first) ++ frame_left recorded source depth outer c f (place + length first + length (frames_left recorded source (depth + 1) (outer ++ option_to_list c) (fs ++ hs) os (place + length first))))) head

-- ---- the steps of the file on top

pub deeper-none : (recorded : Recorded) (source : Source) (depth : ℕ) (blocks : List ℕ) (file : Bytes) (number place : ℕ) → deeper recorded source depth blocks file number place (Ok []) ≡ []
unfolding deeper
deeper-none recorded source depth blocks file number place = by (eqb depth depth_limit)
  where
    here : Where
    here = record { source = source; depth = depth; outer = blocks }

    by : (t : Bool) → with_files here file number (cond t (too_deep here file number) (each_file (one_below recorded source depth blocks) place)) (Ok []) ≡ []
    by true = refl
    by false = refl

-- a file at its end is closed
pub closes : (recorded : Recorded) (source : Source) (depth : ℕ) (outer : List ℕ) (f : OpenFile) (blocks : Blocks) (place : ℕ) → frame_files recorded source f ≡ Ok [] → lines_of (drop f.at f.text) ≡ []
    → ReadStep recorded source depth outer (f ∷ []) [] blocks blocks place []
unfolding frame_left lines_in
closes recorded source depth outer f blocks place files ended =
    let own = or_none (slice_get blocks 0) in
    let none : deeper recorded source depth (outer ++ option_to_list own) f.path (f.number - 1) (place + 0) (frame_files recorded source f) ≡ [] =
    ap (deeper recorded source depth (outer ++ option_to_list own) f.path (f.number - 1) (place + 0)) files ∙ deeper-none recorded source depth (outer ++ option_to_list own) f.path (f.number - 1) (place + 0) in
    rw (none, ended) refl

-- the line of a file
abbrev pub file_line : Source → ℕ → List ℕ → Option ℕ → OpenFile → Bytes → Line
file_line source depth outer own f bytes = record { source = source; file = f.path; number = f.number; depth = depth; blocks = outer ++ own_block (is_opening bytes) own; content = Spelled bytes }

-- what is left after a line
pub record Taken (recorded : Recorded) (source : Source) (f g : OpenFile) (bytes : Bytes) : Type 0 where
  pub files : frame_files recorded source f ≡ Ok []
  pub read : lines_of (drop f.at f.text) ≡ bytes ∷ lines_of (drop g.at g.text)
  pub path : g.path ≡ f.path
  pub number : g.number ≡ f.number + 1
  pub named : frame_files recorded source g ≡ included_files source recorded bytes
  pub opening : is_opening bytes ≡ true → included_files source recorded bytes ≡ Ok []

-- what a line includes lies in the blocks that are open after it
includes-same : (recorded : Recorded) (source : Source) (depth : ℕ) (outer : List ℕ) (own : Option ℕ) (file : Bytes) (number place at : ℕ) (bytes : Bytes) (t : Bool) → is_opening bytes ≡ t
    → (is_opening bytes ≡ true → included_files source recorded bytes ≡ Ok [])
    → deeper recorded source depth (outer ++ own_block t own) file number place (included_files source recorded bytes)
    ≡ deeper recorded source depth (outer ++ option_to_list (block_behind t at own)) file number place (included_files source recorded bytes)
includes-same recorded source depth outer own file number place at bytes true t none =
    ap (deeper recorded source depth (outer ++ own_block true own) file number place) (none t) ∙ deeper-none recorded source depth (outer ++ own_block true own) file number place
    ∙ sym (ap (deeper recorded source depth (outer ++ option_to_list (Some at)) file number place) (none t) ∙ deeper-none recorded source depth (outer ++ option_to_list (Some at)) file number place)
includes-same recorded source depth outer None file number place at bytes false t none = refl
includes-same recorded source depth outer (Some p) file number place at bytes false t none = refl

pub takes : (recorded : Recorded) (source : Source) (depth : ℕ) (outer : List ℕ) (f g : OpenFile) (blocks others : Blocks) (place : ℕ) (bytes : Bytes) → depth ≤ depth_limit
    → Taken recorded source f g bytes → or_none (slice_get others 0) ≡ block_behind (is_opening bytes) place (or_none (slice_get blocks 0))
    → ReadStep recorded source depth outer (f ∷ []) (g ∷ []) blocks others place (file_line source depth outer (or_none (slice_get blocks 0)) f bytes ∷ [])
unfolding frame_left lines_in
takes recorded source depth outer f g blocks others place bytes low t behind =
    let own = or_none (slice_get blocks 0) in
    let own' = block_behind (is_opening bytes) place own in
    let here : Where = record { source = source; depth = depth; outer = outer } in
    let reads = included source recorded (depth_limit - depth) depth in
    let none : deeper recorded source depth (outer ++ option_to_list own) f.path (f.number - 1) (place + 0) (frame_files recorded source f) ≡ [] =
    ap (deeper recorded source depth (outer ++ option_to_list own) f.path (f.number - 1) (place + 0)) t.files ∙ deeper-none recorded source depth (outer ++ option_to_list own) f.path (f.number - 1) (place + 0) in
    let inner = reads place (outer ++ own_block (is_opening bytes) own) f.path f.number bytes in
    let now : ℕ = place + 1 + 0 in
    let inner-is : inner ≡ deeper recorded source depth (outer ++ option_to_list (or_none (slice_get others 0))) g.path (g.number - 1) (place + 1 + 0) (frame_files recorded source g) =
    included-deeper recorded source depth place (outer ++ own_block (is_opening bytes) own) f.path f.number bytes low
    ∙ includes-same recorded source depth outer own f.path f.number (place + 1) place bytes (is_opening bytes) refl t.opening
    ∙ rw (behind, t.path, t.named, t.number) (let k : f.number + 1 - 1 ≡ f.number = omega arith in let m : place + 1 + 0 ≡ place + 1 = omega arith in rw (k, m) refl) in
    let rest = lines_of (drop g.at g.text) in
    let line = file_line source depth outer own f bytes in
    let i1 = deeper recorded source depth (outer ++ option_to_list (or_none (slice_get others 0))) g.path (g.number - 1) (place + 1 + 0) (frame_files recorded source g) in
    let first : frame_left recorded source depth outer own f (place + 0) ≡ lines_in reads here f.path place f.number own (bytes ∷ rest) = let z : place + 0 + 0 ≡ place = omega arith in rw (none, t.read, z) refl in
    let n : place + 1 + length i1 ≡ place + 1 + 0 + length i1 = omega arith in
    first
    ∙ ap (λ xs. line ∷ (xs ++ lines_in reads here f.path (place + 1 + length xs) (f.number + 1) own' rest)) inner-is
    ∙ ap (λ b. line ∷ (i1 ++ lines_in reads here f.path (place + 1 + length i1) (f.number + 1) b rest)) (sym behind)
    ∙ ap (λ p. line ∷ (i1 ++ lines_in reads here p (place + 1 + length i1) (f.number + 1) (or_none (slice_get others 0)) rest)) (sym t.path)
    ∙ ap (λ m. line ∷ (i1 ++ lines_in reads here g.path (place + 1 + length i1) m (or_none (slice_get others 0)) rest)) (sym t.number)
    ∙ ap (λ m. line ∷ (i1 ++ lines_in reads here g.path m g.number (or_none (slice_get others 0)) rest)) n

-- two open files of which the same is left
pub record Alike (recorded : Recorded) (source : Source) (f g : OpenFile) : Type 0 where
  pub path : g.path ≡ f.path
  pub text : g.text ≡ f.text
  pub at : g.at ≡ f.at
  pub number : g.number ≡ f.number
  pub files : frame_files recorded source g ≡ frame_files recorded source f

pub alike-left : (recorded : Recorded) (source : Source) (depth : ℕ) (outer : List ℕ) (own : Option ℕ) (f g : OpenFile) (place : ℕ) → Alike recorded source f g → frame_left recorded source depth outer own g place ≡ frame_left recorded source depth outer own f place
unfolding frame_left
alike-left recorded source depth outer own f g place a = rw (a.path, a.text, a.at, a.number, a.files) refl

pub stays : (recorded : Recorded) (source : Source) (depth : ℕ) (outer : List ℕ) (f g : OpenFile) (blocks : Blocks) (place : ℕ) → Alike recorded source f g → ReadStep recorded source depth outer (f ∷ []) (g ∷ []) blocks blocks place []
stays recorded source depth outer f g blocks place a =
    let z : place + 0 + 0 ≡ place + 0 = omega arith in
    sym (alike-left recorded source depth outer (or_none (slice_get blocks 0)) f g (place + 0) a) ∙ ap (frame_left recorded source depth outer (or_none (slice_get blocks 0)) g) (sym z)

-- a file that is named is opened
pub record Opened (recorded : Recorded) (source : Source) (f g new : OpenFile) : Type 0 where
  pub rest : List ConfFile
  pub files : frame_files recorded source f ≡ Ok (record { path = new.path; text = new.text } ∷ rest)
  pub small : Rattle.std.specs.Prelude.nat_lt Rattle.conf_rules.specs.Sources.size_limit (length new.text) ≡ false
  pub path : g.path ≡ f.path
  pub text : g.text ≡ f.text
  pub at : g.at ≡ f.at
  pub number : g.number ≡ f.number
  pub others : frame_files recorded source g ≡ Ok rest
  pub begins : new.at ≡ 0
  pub first : new.number ≡ 1
  pub none : frame_files recorded source new ≡ Ok []

pub new-left : (recorded : Recorded) (source : Source) (depth : ℕ) (outer : List ℕ) (new : OpenFile) (place : ℕ) → frame_files recorded source new ≡ Ok [] → new.at ≡ 0 → new.number ≡ 1
    → frame_left recorded source depth outer None new place ≡ lines_in (included source recorded (depth_limit - depth) depth) (record { source = source; depth = depth; outer = outer }) new.path place 1 None (lines_of new.text)
unfolding frame_left
new-left recorded source depth outer new place files at number =
    let none : deeper recorded source depth (outer ++ []) new.path (new.number - 1) place (frame_files recorded source new) ≡ [] =
    ap (deeper recorded source depth (outer ++ []) new.path (new.number - 1) place) files ∙ deeper-none recorded source depth (outer ++ []) new.path (new.number - 1) place in
    let z : place + 0 ≡ place = omega arith in
    rw (none, at, number, z) refl

pub opens-file : (recorded : Recorded) (source : Source) (depth : ℕ) (outer : List ℕ) (f g new : OpenFile) (blocks others : Blocks) (place : ℕ) → eqb depth depth_limit ≡ false → Opened recorded source f g new
    → or_none (slice_get others 0) ≡ or_none (slice_get blocks 0) → or_none (slice_get (drop 1 others) 0) ≡ None
    → ReadStep recorded source depth outer (f ∷ []) (g ∷ new ∷ []) blocks others place []
unfolding frame_left deeper file_lines
opens-file recorded source depth outer f g new blocks others place low o same none =
    let own = or_none (slice_get blocks 0) in
    let here : Where = record { source = source; depth = depth; outer = outer } in
    let reads = included source recorded (depth_limit - depth) depth in
    let one = one_below recorded source depth (outer ++ option_to_list own) in
    let file : ConfFile = record { path = new.path; text = new.text } in
    let lines = lines_of (drop f.at f.text) in
    let now : ℕ = place + 0 in
    let here-lines = one now file in
    let more = each_file one (now + length here-lines) o.rest in
    let left : frame_left recorded source depth outer own f now ≡ (here-lines ++ more) ++ lines_in reads here f.path (now + length (here-lines ++ more)) f.number own lines =
    rw (o.files, low) refl in
    let z : place + 0 + 0 ≡ place + 0 = omega arith in
    let inner : frame_left recorded source (depth + 1) (outer ++ option_to_list own) None new (place + 0 + 0) ≡ here-lines =
    ap (frame_left recorded source (depth + 1) (outer ++ option_to_list own) None new) z ∙ new-left recorded source (depth + 1) (outer ++ option_to_list own) new (place + 0) o.none o.begins o.first ∙ rw o.small refl
    in
    let k : now + length (here-lines ++ more) ≡ now + length here-lines + length more = omega (arith, length-append here-lines more) in
    let right : more ++ lines_in reads here f.path (now + length (here-lines ++ more)) f.number own lines ≡ frame_left recorded source depth outer own g (now + length here-lines) =
    ap (λ n. more ++ lines_in reads here f.path n f.number own lines) k ∙ rw (o.others, low, o.path, o.text, o.at, o.number) refl in
    rw (same, none) (
    left ∙ append_assoc here-lines more _ ∙ ap (λ xs. here-lines ++ xs) right
    ∙ ap (λ a. a ++ frame_left recorded source depth outer own g (now + length a)) (sym inner))

-- ---- refusals

-- what is left at the front of some open files is left at the front of all
pub front : (recorded : Recorded) (source : Source) (depth : ℕ) (outer : List ℕ) (fs gs : List OpenFile) (blocks : Blocks) (place : ℕ) (first rest : List Line)
    → frames_left recorded source (top_depth depth fs) (top_outer outer fs blocks) gs (drop (length fs) blocks) place ≡ first ++ rest
    → (more : List Line) × (frames_left recorded source depth outer (fs ++ gs) blocks place ≡ first ++ more)
front recorded source depth outer [] gs blocks place first rest e = (rest, e)
front recorded source depth outer (f ∷ fs) gs [] place first rest e =
    let inner = front recorded source (depth + 1) (outer ++ []) fs gs [] place first rest (rw (nil (length fs)) e) in
    (inner.0 ++ _, ap (λ xs. xs ++ frame_left recorded source depth outer None f (place + length (frames_left recorded source (depth + 1) (outer ++ []) (fs ++ gs) [] place))) inner.1 ∙ append_assoc first inner.0 _)
  where
    nil : (n : ℕ) → drop n (let xs : Blocks = [] in xs) ≡ []
    nil zero = refl
    nil (suc n) = refl
front recorded source depth outer (f ∷ fs) gs (b ∷ bs) place first rest e =
    let inner = front recorded source (depth + 1) (outer ++ option_to_list b) fs gs bs place first rest e in
    (inner.0 ++ _, ap (λ xs. xs ++ frame_left recorded source depth outer b f (place + length (frames_left recorded source (depth + 1) (outer ++ option_to_list b) (fs ++ gs) bs place))) inner.1 ∙ append_assoc first inner.0 _)

-- the refusal that comes where the files that an open file names can't be given
pub refuses : (recorded : Recorded) (source : Source) (depth : ℕ) (outer : List ℕ) (f : OpenFile) (blocks : Blocks) (place : ℕ) (first rest : List Line)
    → deeper recorded source depth (outer ++ option_to_list (or_none (slice_get blocks 0))) f.path (f.number - 1) (place + 0) (frame_files recorded source f) ≡ first ++ rest
    → (more : List Line) × (frames_left recorded source depth outer (f ∷ []) blocks place ≡ first ++ more)
unfolding frame_left
refuses recorded source depth outer f blocks place first rest e =
    let own = or_none (slice_get blocks 0) in
    let inner = deeper recorded source depth (outer ++ option_to_list own) f.path (f.number - 1) (place + 0) (frame_files recorded source f) in
    let lines = lines_in (included source recorded (depth_limit - depth) depth) (record { source = source; depth = depth; outer = outer }) f.path (place + 0 + length inner) f.number own (lines_of (drop f.at f.text)) in
    (rest ++ lines, ap (λ xs. xs ++ lines) e ∙ append_assoc first rest lines)

-- a token of an Include line
pub token-refuses : (recorded : Recorded) (source : Source) (depth : ℕ) (blocks : List ℕ) (file : Bytes) (number place : ℕ) (t : TokenError)
    → deeper recorded source depth blocks file number place (Err t) ≡ refused_at_line (record { source = source; depth = depth; outer = blocks }) file number (Rattle.conf_rules.specs.declared.causes.Cause.TheVariants.Token t) ++ []
unfolding deeper
token-refuses recorded source depth blocks file number place t = refl

-- a file that would lie too deep
pub depth-refuses : (recorded : Recorded) (source : Source) (depth : ℕ) (blocks : List ℕ) (file : Bytes) (number place : ℕ) (f : ConfFile) (fs : List ConfFile) → eqb depth depth_limit ≡ true
    → deeper recorded source depth blocks file number place (Ok (f ∷ fs)) ≡ refused_at_line (record { source = source; depth = depth; outer = blocks }) file number Rattle.conf_rules.specs.declared.causes.Cause.TheVariants.TooDeep ++ []
unfolding deeper
depth-refuses recorded source depth blocks file number place f fs low = rw low refl

-- a file that is too large
pub size-refuses : (recorded : Recorded) (source : Source) (depth : ℕ) (blocks : List ℕ) (file : Bytes) (number place : ℕ) (f : ConfFile) (fs : List ConfFile) → eqb depth depth_limit ≡ false
    → Rattle.std.specs.Prelude.nat_lt Rattle.conf_rules.specs.Sources.size_limit (length f.text) ≡ true
    → deeper recorded source depth blocks file number place (Ok (f ∷ fs)) ≡ refused_at_line (record { source = source; depth = depth + 1; outer = blocks }) f.path 0 Rattle.conf_rules.specs.declared.causes.Cause.TheVariants.TooLarge ++ each_file (one_below recorded source depth blocks) (place + 1) fs
unfolding deeper file_lines
size-refuses recorded source depth blocks file number place f fs low large = rw (low, large) refl

-- the line of a file that is left first
pub head-left : (recorded : Recorded) (source : Source) (depth : ℕ) (outer : List ℕ) (f : OpenFile) (blocks : Blocks) (place : ℕ) (bytes : Bytes) (rest : List Bytes) → frame_files recorded source f ≡ Ok [] → lines_of (drop f.at f.text) ≡ bytes ∷ rest
    → (more : List Line) × (frames_left recorded source depth outer (f ∷ []) blocks place ≡ file_line source depth outer (or_none (slice_get blocks 0)) f bytes ∷ more)
unfolding frame_left lines_in
head-left recorded source depth outer f blocks place bytes rest files read =
    let own = or_none (slice_get blocks 0) in
    let here : Where = record { source = source; depth = depth; outer = outer } in
    let reads = included source recorded (depth_limit - depth) depth in
    let none : deeper recorded source depth (outer ++ option_to_list own) f.path (f.number - 1) (place + 0) (frame_files recorded source f) ≡ [] =
    ap (deeper recorded source depth (outer ++ option_to_list own) f.path (f.number - 1) (place + 0)) files ∙ deeper-none recorded source depth (outer ++ option_to_list own) f.path (f.number - 1) (place + 0) in
    let z : place + 0 + 0 ≡ place = omega arith in
    let first : frame_left recorded source depth outer own f (place + 0) ≡ lines_in reads here f.path place f.number own (bytes ∷ rest) = rw (none, read, z) refl in
    let inner = reads place (outer ++ own_block (is_opening bytes) own) f.path f.number bytes in
    (inner ++ lines_in reads here f.path (place + 1 + length inner) (f.number + 1) (block_behind (is_opening bytes) place own) rest, first)
