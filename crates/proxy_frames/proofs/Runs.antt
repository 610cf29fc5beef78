-- Frames that are removed as pieces come are those of the whole stream.
use Rattle.std.proofs.Common.{arith, ◌≡◌, ℕ, zero, suc, ◌+◌, ◌-◌, ◌<◌, ◌≤◌, List, [], ◌∷◌, ◌++◌, length, refl, sym, ◌∙◌, ap, subst, Option, Some, None, append_assoc}
use Rattle.std.proofs.lemmas.List.{append-nil}
use Rattle.ssh_grammar.specs.declared.fault.BadFrame.{BadFrame}
use Rattle.ssh_grammar.specs.declared.framing.Framing.{Framing}
use Rattle.ssh_grammar.specs.Frames.{Cut, cut, with_frame, Front, Frame, More, Faulty, first_frame}
use Rattle.ssh_grammar.specs.Laws.{cut_then}
use Rattle.ssh_grammar.proofs.Cuts.{IsShorter, first-shorter, Extends, first-extends, cut-at, cut-append}
use Rattle.proxy_frames.specs.State.{FramerState}
use Rattle.proxy_frames.specs.Steps.{new_framer, pushed, once_recorded, front_of, after_front}
use Rattle.proxy_frames.specs.Runs.{Taken, taken_front, frames_taken_by, frames_taken, taken_of, stream_of_pieces, cut_taken}
use Rattle.proxy_frames.specs.FramerHistory.{cut_of, to_come}
use Rattle.proxy_frames.specs.Laws.{PiecesGiveTheCut, AnyPiecesGiveTheSame, AnyTimeGivesTheSame}
use Rattle.proxy_frames.proofs.Stands.{to_come-is, fault-is}

-- ---- all frames that are there

-- what was removed is the cut, and the framer cuts as before
pub record IsCut (framing : Framing) (c : Cut) (t : Taken) : Type 0 where
  pub made : cut_taken t ≡ c
  pub cuts : t.framer.framing ≡ framing

-- a frame has a header
has_header : (framing : Framing) (bytes content rest : List ℕ) → first_frame framing bytes ≡ Frame content rest → 4 ≤ length bytes
has_header framing [] content rest e = absurd (cc)
has_header framing (a ∷ []) content rest e = absurd (cc)
has_header framing (a ∷ b ∷ []) content rest e = absurd (cc)
has_header framing (a ∷ b ∷ c ∷ []) content rest e = absurd (cc)
has_header framing (a ∷ b ∷ c ∷ d ∷ bytes) content rest e = omega arith

front-untold : (f : FramerState) → f.fault ≡ None → front_of f ≡ first_frame f.framing f.rest
front-untold f e = ap (λ (t : Option BadFrame). once_recorded t Faulty (first_frame f.framing f.rest)) e

taken-is : (n : ℕ) (f : FramerState) → f.fault ≡ None → length f.rest < n → IsCut f.framing (cut f.framing f.rest) (frames_taken_by n f)
taken-is zero f none h = absurd (omega arith)
taken-is (suc n) f none h = subst (λ (front : Front). IsCut f.framing (cut f.framing f.rest) (taken_front (frames_taken_by n) f front)) (sym (front-untold f none)) (by_front (first_frame f.framing f.rest) refl (first-shorter f.framing f.rest) (λ g e k. taken-is n g e k))
  where
    by_front : (front : Front) → first_frame f.framing f.rest ≡ front → IsShorter (length f.rest - 4) front → ((g : FramerState) → g.fault ≡ None → length g.rest < n → IsCut g.framing (cut g.framing g.rest) (frames_taken_by n g)) → IsCut f.framing (cut f.framing f.rest) (taken_front (frames_taken_by n) f front)
    by_front (Frame content rest) e s go =
        let tail : IsCut f.framing (cut f.framing rest) (frames_taken_by n (after_front (Frame content rest) f)) = go (after_front (Frame content rest) f) none (let long : 4 ≤ length f.rest = has_header f.framing f.rest content rest e in omega arith) in
        record { made = ap (with_frame content) tail.made ∙ sym (cut-at f.framing f.rest (Frame content rest) e); cuts = tail.cuts }
    by_front More e s go = record { made = (λ i. record { frames = []; rest = f.rest; fault = none i }) ∙ sym (cut-at f.framing f.rest More e); cuts = refl }
    by_front (Faulty bad) e s go = record { made = sym (cut-at f.framing f.rest (Faulty bad) e); cuts = refl }

-- after a fault nothing is removed
taken-recorded : (f : FramerState) (bad : BadFrame) → f.fault ≡ Some bad → IsCut f.framing (record { frames = []; rest = f.rest; fault = Some bad }) (frames_taken f)
taken-recorded f bad e =
    let n : length f.rest + 1 ≡ suc (length f.rest) = omega arith in
    let front : front_of f ≡ Faulty bad = ap (λ (t : Option BadFrame). once_recorded t Faulty (first_frame f.framing f.rest)) e in
    subst (IsCut f.framing (record { frames = []; rest = f.rest; fault = Some bad })) (sym (ap (λ k. frames_taken_by k f) n ∙ ap (taken_front (frames_taken_by (length f.rest)) f) front)) (record { made = refl; cuts = refl })

-- ---- of each piece

-- the fault of a cut stands at the front of its rest
fault-stands : (n : ℕ) (framing : Framing) (bytes : List ℕ) (bad : BadFrame) → length bytes < n → (cut framing bytes).fault ≡ Some bad → first_frame framing (cut framing bytes).rest ≡ Faulty bad
fault-stands zero framing bytes bad h e = absurd (omega arith)
fault-stands (suc n) framing bytes bad h e = by_front (first_frame framing bytes) refl (first-shorter framing bytes) (λ l k is. fault-stands n framing l bad k is)
  where
    by_front : (front : Front) → first_frame framing bytes ≡ front → IsShorter (length bytes - 4) front → ((l : List ℕ) → length l < n → (cut framing l).fault ≡ Some bad → first_frame framing (cut framing l).rest ≡ Faulty bad) → first_frame framing (cut framing bytes).rest ≡ Faulty bad
    by_front (Frame content rest) is s go =
        let c : cut framing bytes ≡ with_frame content (cut framing rest) = cut-at framing bytes (Frame content rest) is in
        let there : (cut framing rest).fault ≡ Some bad = sym (ap (λ (x : Cut). x.fault) c) ∙ e in
        ap (λ (x : Cut). first_frame framing x.rest) c ∙ go rest (let long : 4 ≤ length bytes = has_header framing bytes content rest is in omega arith) there
    by_front More is s go =
        let c : cut framing bytes ≡ record { frames = []; rest = bytes; fault = None } = cut-at framing bytes More is in
        let no : None ≡ Some bad = sym (ap (λ (x : Cut). x.fault) c) ∙ e in absurd (cc)
    by_front (Faulty other) is s go =
        let c : cut framing bytes ≡ record { frames = []; rest = bytes; fault = Some other } = cut-at framing bytes (Faulty other) is in
        let some : Some other ≡ Some bad = sym (ap (λ (x : Cut). x.fault) c) ∙ e in
        let same : other ≡ bad = cc in
        ap (λ (x : Cut). first_frame framing x.rest) c ∙ (is ∙ ap Faulty same)

-- a framer after some bytes, all of whose frames were removed
record Follows (framing : Framing) (bytes : List ℕ) (f : FramerState) : Type 0 where
  cuts : f.framing ≡ framing
  rest : f.rest ≡ (cut framing bytes).rest
  fault : f.fault ≡ (cut framing bytes).fault

-- one more piece
piece-taken : (framing : Framing) (bytes piece : List ℕ) (f : FramerState) → Follows framing bytes f → IsCut framing (cut framing ((cut framing bytes).rest ++ piece)) (frames_taken (pushed piece f))
piece-taken framing bytes piece f is = by_fault (cut framing bytes).fault refl
  where
    by_fault : (t : Option BadFrame) → (cut framing bytes).fault ≡ t → IsCut framing (cut framing ((cut framing bytes).rest ++ piece)) (frames_taken (pushed piece f))
    by_fault None e =
        let all : IsCut f.framing (cut f.framing (f.rest ++ piece)) (frames_taken (pushed piece f)) = taken-is (length (f.rest ++ piece) + 1) (pushed piece f) (is.fault ∙ e) (omega arith) in
        record { made = all.made ∙ (ap (λ k. cut k (f.rest ++ piece)) is.cuts ∙ ap (λ l. cut framing (l ++ piece)) is.rest); cuts = all.cuts ∙ is.cuts }
    by_fault (Some bad) e =
        let old : List ℕ = (cut framing bytes).rest in
        let there : first_frame framing old ≡ Faulty bad = fault-stands (length bytes + 1) framing bytes bad (omega arith) e in
        let stays : first_frame framing (old ++ piece) ≡ Faulty bad = subst (λ (front : Front). Extends piece front (first_frame framing (old ++ piece))) there (first-extends framing old piece) in
        let all : IsCut f.framing (record { frames = []; rest = f.rest ++ piece; fault = Some bad }) (frames_taken (pushed piece f)) = taken-recorded (pushed piece f) bad (is.fault ∙ e) in
        record { made = all.made ∙ (ap (λ l. record { frames = []; rest = l ++ piece; fault = Some bad }) is.rest ∙ sym (cut-at framing (old ++ piece) (Faulty bad) stays)); cuts = all.cuts ∙ is.cuts }

pieces-taken : (framing : Framing) (bytes : List ℕ) (f : FramerState) (pieces : List (List ℕ)) → Follows framing bytes f → cut_then (cut framing bytes) (cut_taken (taken_of f pieces)) ≡ cut framing (bytes ++ stream_of_pieces pieces)
pieces-taken framing bytes f [] is =
    (λ i. record { frames = append-nil (cut framing bytes).frames i; rest = is.rest i; fault = is.fault i }) ∙ ap (cut framing) (sym (append-nil bytes))
pieces-taken framing bytes f (piece ∷ pieces) is =
    let t : Taken = frames_taken (pushed piece f) in
    let one : IsCut framing (cut framing ((cut framing bytes).rest ++ piece)) t = piece-taken framing bytes piece f is in
    let grown : cut framing (bytes ++ piece) ≡ cut_then (cut framing bytes) (cut_taken t) = cut-append framing bytes piece ∙ ap (cut_then (cut framing bytes)) (sym one.made) in
    let next : Follows framing (bytes ++ piece) t.framer = record { cuts = one.cuts; rest = sym (ap (λ (x : Cut). x.rest) grown); fault = sym (ap (λ (x : Cut). x.fault) grown) } in
    let all : cut_then (cut framing (bytes ++ piece)) (cut_taken (taken_of t.framer pieces)) ≡ cut framing ((bytes ++ piece) ++ stream_of_pieces pieces) = pieces-taken framing (bytes ++ piece) t.framer pieces next in
    ap (λ l. record { frames = l; rest = (taken_of t.framer pieces).framer.rest; fault = (taken_of t.framer pieces).framer.fault }) (sym (append_assoc (cut framing bytes).frames t.frames (taken_of t.framer pieces).frames))
    ∙ (ap (λ c. cut_then c (cut_taken (taken_of t.framer pieces))) (sym grown) ∙ (all ∙ ap (cut framing) (append_assoc bytes piece (stream_of_pieces pieces))))

pub pieces-cut : PiecesGiveTheCut
pieces-cut framing pieces = pieces-taken framing [] (new_framer framing) pieces (record { cuts = refl; rest = refl; fault = refl })

pub pieces-same : AnyPiecesGiveTheSame
pieces-same framing pieces others e = pieces-cut framing pieces ∙ (ap (cut framing) e ∙ sym (pieces-cut framing others))

-- ---- at any time

pub any-time : AnyTimeGivesTheSame
any-time h i f g sh si framing bytes =
    let same : cut_of h ≡ cut_of i = ap (λ k. cut k h.bytes) framing ∙ ap (cut i.framing) bytes in
    let ours : (cut_of h).frames ≡ h.given ++ to_come h = ap (λ (x : Cut). x.frames) sh.frames ∙ ap (λ l. h.given ++ l) (sym (to_come-is h f sh)) in
    let theirs : (cut_of i).frames ≡ i.given ++ to_come i = ap (λ (x : Cut). x.frames) si.frames ∙ ap (λ l. i.given ++ l) (sym (to_come-is i g si)) in
    record {
      frames = sym ours ∙ (ap (λ (x : Cut). x.frames) same ∙ theirs);
      rest = sym (ap (λ (x : Cut). x.rest) sh.frames) ∙ (ap (λ (x : Cut). x.rest) same ∙ ap (λ (x : Cut). x.rest) si.frames);
      fault = sym (fault-is h f sh) ∙ (ap (λ (x : Cut). x.fault) same ∙ fault-is i g si);
    }
