-- What a framer represents, by what was given and what is left.
use Rattle.std.proofs.Common.{◌≡◌, ℕ, List, [], ◌∷◌, ◌++◌, length, drop, refl, sym, ◌∙◌, ap, subst, append_assoc}
use Rattle.std.specs.List.{AllByRecursion}
use Rattle.std.proofs.lemmas.List.{drop_at, append-nil}
use Rattle.ssh_grammar.specs.declared.framing.Framing.{Framing}
use Rattle.ssh_grammar.specs.declared.framing.Framing.TheVariants as kind
use Rattle.ssh_grammar.specs.Frames.{Cut, cut, frame, with_frame}
use Rattle.ssh_grammar.specs.IsFrame.{IsContent, bytes_of_frames}
use Rattle.ssh_grammar.specs.Said.{said}
use Rattle.ssh_grammar.proofs.Frames.{cut-frame}
use Rattle.ssh_grammar.proofs.Said.{proxy_is_sent}
use Rattle.proxy_frames.specs.Laws.{NothingIsLost, SwitchedIsSent}
use Rattle.proxy_frames.specs.State.{FramerState}
use Rattle.proxy_frames.specs.FramerHistory.{FramerHistory, FramerRepresents, HasRecorded, with_frames_before, cut_of, bytes_after_frames, to_come}

-- frames that stand before bytes are cut first
pub cut-joined : (framing : Framing) (given : List (List ℕ)) (rest : List ℕ) → AllByRecursion (IsContent framing) given → cut framing (bytes_of_frames framing given ++ rest) ≡ with_frames_before given (cut framing rest)
cut-joined framing [] rest valid = refl
cut-joined framing (content ∷ given) rest valid =
    ap (cut framing) (append_assoc (frame framing content) (bytes_of_frames framing given) rest)
    ∙ (cut-frame framing content (bytes_of_frames framing given ++ rest) valid.0 ∙ ap (with_frame content) (cut-joined framing given rest valid.1))

-- what was given and what is left say all
pub stands_by : (h : FramerHistory) (f : FramerState) → AllByRecursion (IsContent h.framing) h.given → h.bytes ≡ bytes_of_frames h.framing h.given ++ f.rest → f.fault ≡ h.recorded → HasRecorded h.recorded h f → FramerRepresents h f
stands_by h f valid filled fault recorded = record {
  valid = valid;
  filled = filled;
  frames = ap (cut h.framing) filled ∙ cut-joined h.framing h.given f.rest valid;
  fault = fault;
  recorded = recorded;
}

-- the frames to come are those of the rest
pub to_come-is : (h : FramerHistory) (f : FramerState) → FramerRepresents h f → to_come h ≡ (cut h.framing f.rest).frames
to_come-is h f st = ap (λ (c : Cut). drop (length h.given) c.frames) st.frames ∙ drop_at h.given (cut h.framing f.rest).frames (length h.given) refl

-- and so is the fault
pub fault-is : (h : FramerHistory) (f : FramerState) → FramerRepresents h f → (cut_of h).fault ≡ (cut h.framing f.rest).fault
fault-is h f st = ap (λ (c : Cut). c.fault) st.frames

-- the bytes that are left are the rest
pub left-is : (h : FramerHistory) (f : FramerState) → FramerRepresents h f → bytes_after_frames h ≡ f.rest
left-is h f st = ap (drop (length (bytes_of_frames h.framing h.given))) st.filled ∙ drop_at (bytes_of_frames h.framing h.given) f.rest (length (bytes_of_frames h.framing h.given)) refl

-- one more frame
pub valid-and : (framing : Framing) (given : List (List ℕ)) (content : List ℕ) → AllByRecursion (IsContent framing) given → IsContent framing content → AllByRecursion (IsContent framing) (given ++ content ∷ [])
valid-and framing [] content valid is = (is, tt)
valid-and framing (x ∷ given) content valid is = (valid.0, valid-and framing given content valid.1 is)

pub joined-and : (framing : Framing) (given : List (List ℕ)) (content : List ℕ) → bytes_of_frames framing (given ++ content ∷ []) ≡ bytes_of_frames framing given ++ frame framing content
joined-and framing [] content = append-nil (frame framing content)
joined-and framing (x ∷ given) content = ap (λ l. frame framing x ++ l) (joined-and framing given content) ∙ sym (append_assoc (frame framing x) (bytes_of_frames framing given) (frame framing content))

-- ---- through a switch

valid-but_last : (framing : Framing) (given : List (List ℕ)) (content : List ℕ) → AllByRecursion (IsContent framing) (given ++ content ∷ []) → AllByRecursion (IsContent framing) given × IsContent framing content
valid-but_last framing [] content valid = (tt, valid.0)
valid-but_last framing (x ∷ given) content valid =
    let others : AllByRecursion (IsContent framing) given × IsContent framing content = valid-but_last framing given content valid.1 in
    ((valid.0, others.0), others.1)

pub nothing-lost : NothingIsLost
nothing-lost h f st = st.filled ∙ ap (λ l. bytes_of_frames h.framing h.given ++ l) (sym (left-is h f st))

pub switched-said : SwitchedIsSent
switched-said h f bodies last more st cuts given keep begins =
    let valid : AllByRecursion (IsContent kind.Control) bodies × IsContent kind.Control last =
    valid-but_last kind.Control bodies last (subst (AllByRecursion (IsContent kind.Control)) given (subst (λ k. AllByRecursion (IsContent k) h.given) cuts st.valid)) in
    let filled : h.bytes ≡ (bytes_of_frames kind.Control bodies ++ frame kind.Control last) ++ bytes_after_frames h =
    nothing-lost h f st ∙ (ap (λ k. bytes_of_frames k h.given ++ bytes_after_frames h) cuts ∙ (ap (λ l. bytes_of_frames kind.Control l ++ bytes_after_frames h) given ∙ ap (λ l. l ++ bytes_after_frames h) (joined-and kind.Control bodies last))) in
    let whole : h.bytes ++ more ≡ bytes_of_frames kind.Control bodies ++ (frame kind.Control last ++ (bytes_after_frames h ++ more)) =
    ap (λ b. b ++ more) filled ∙ (append_assoc (bytes_of_frames kind.Control bodies ++ frame kind.Control last) (bytes_after_frames h) more ∙ append_assoc (bytes_of_frames kind.Control bodies) (frame kind.Control last) (bytes_after_frames h ++ more)) in
    ap said whole ∙ proxy_is_sent bodies last (bytes_after_frames h ++ more) valid.0 keep valid.1 begins
