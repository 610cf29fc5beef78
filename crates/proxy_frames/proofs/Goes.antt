-- A framer goes on to represent what its history became.
use Rattle.std.proofs.Common.{◌≡◌, ℕ, List, [], ◌∷◌, ◌++◌, refl, sym, ◌∙◌, ap, subst, Option, Some, None, append_assoc}
use Rattle.ssh_fields.specs.Fields.{AreBytes}
use Rattle.ssh_grammar.specs.declared.fault.BadFrame.{BadFrame}
use Rattle.ssh_grammar.specs.Frames.{Cut, cut, frame, Front, Frame, More, Faulty, first_frame}
use Rattle.ssh_grammar.specs.IsFrame.{bytes_of_frames}
use Rattle.ssh_grammar.proofs.Cuts.{Extends, first-extends, cut-at}
use Rattle.ssh_grammar.proofs.Frames.{IsFirst, first-is}
use Rattle.proxy_frames.specs.declared.next.Next.TheVariants as next
use Rattle.proxy_frames.specs.State.{FramerState}
use Rattle.proxy_frames.specs.Steps.{pushed, once_recorded, front_of, answer_to, after_front}
use Rattle.proxy_frames.specs.FramerHistory.{FramerHistory, FramerRepresents, FramerGoesOn, HasRecorded, and_bytes, and_frame, and_fault, and_next, and_next_in, next_in, next_frame, first_given_frame, frame_next, cut_of, to_come}
use Rattle.proxy_frames.proofs.Stands.{stands_by, to_come-is, fault-is, valid-and, joined-and}

-- ---- more bytes

pub pushed-stands : (h : FramerHistory) (f : FramerState) (piece : List ℕ) → FramerRepresents h f → FramerRepresents (and_bytes piece h) (pushed piece f)
pushed-stands h f piece st = stands_by (and_bytes piece h) (pushed piece f) st.valid
    (ap (λ b. b ++ piece) st.filled ∙ append_assoc (bytes_of_frames h.framing h.given) f.rest piece) st.fault (by_recorded h.recorded st.recorded)
  where
    by_recorded : (t : Option BadFrame) → HasRecorded t h f → HasRecorded t (and_bytes piece h) (pushed piece f)
    by_recorded None is = is
    by_recorded (Some fault) is = subst (λ (front : Front). Extends piece front (first_frame h.framing (f.rest ++ piece))) is (first-extends h.framing f.rest piece)

-- ---- what comes next

-- what is answered to a front, and what it leaves, is what the history says
pub record Goes (h : FramerHistory) (f : FramerState) (front : Front) : Type 0 where
  pub answer : answer_to front ≡ next_frame h
  pub current : (after_front front f).current ≡ frame_next h
  pub stands : FramerRepresents (and_next h) (after_front front f)

-- before a fault was reported the history goes by the frames to come
goes-on : (h : FramerHistory) (f : FramerState) (front : Front) (after : FramerHistory) → h.recorded ≡ None → answer_to front ≡ next_in (to_come h) (cut_of h).fault → (after_front front f).current ≡ first_given_frame (to_come h)
    → and_next_in (to_come h) (cut_of h).fault h ≡ after → FramerRepresents after (after_front front f) → Goes h f front
goes-on h f front after e answer current goes stands = record {
  answer = answer ∙ sym (ap (λ (t : Option BadFrame). once_recorded t next.Bad (next_in (to_come h) (cut_of h).fault)) e);
  current = current ∙ sym (ap (λ (t : Option BadFrame). once_recorded t (λ _. None) (first_given_frame (to_come h))) e);
  stands = subst (λ (x : FramerHistory). FramerRepresents x (after_front front f)) (sym (ap (λ (t : Option BadFrame). once_recorded t (λ _. h) (and_next_in (to_come h) (cut_of h).fault h)) e ∙ goes)) stands;
}

-- a fault that was reported is reported again
goes-recorded : (h : FramerHistory) (f : FramerState) (fault : BadFrame) → h.recorded ≡ Some fault → FramerRepresents h f → Goes h f (Faulty fault)
goes-recorded h f fault e st = record {
  answer = sym (ap (λ (t : Option BadFrame). once_recorded t next.Bad (next_in (to_come h) (cut_of h).fault)) e);
  current = sym (ap (λ (t : Option BadFrame). once_recorded t (λ _. None) (first_given_frame (to_come h))) e);
  stands = subst (λ (x : FramerHistory). FramerRepresents x (after_front (Faulty fault) f)) (sym (ap (λ (t : Option BadFrame). once_recorded t (λ _. h) (and_next_in (to_come h) (cut_of h).fault h)) e))
      (record {
        valid = st.valid;
        filled = st.filled;
        frames = st.frames;
        fault = sym e;
        recorded = subst (λ (t : Option BadFrame). HasRecorded t h (after_front (Faulty fault) f)) (sym e) (subst (λ (t : Option BadFrame). HasRecorded t h f) e st.recorded);
      });
}

-- a frame is given
goes-frame : (h : FramerHistory) (f : FramerState) (content rest : List ℕ) → h.recorded ≡ None → FramerRepresents h f → f.framing ≡ h.framing → first_frame h.framing f.rest ≡ Frame content rest → IsFirst h.framing f.rest (Frame content rest) → Goes h f (Frame content rest)
goes-frame h f content rest e st framing front is =
    let c : cut h.framing f.rest ≡ record { frames = content ∷ (cut h.framing rest).frames; rest = (cut h.framing rest).rest; fault = (cut h.framing rest).fault } = cut-at h.framing f.rest (Frame content rest) front in
    let coming : to_come h ≡ content ∷ (cut h.framing rest).frames = to_come-is h f st ∙ ap (λ (x : Cut). x.frames) c in
    let fault = (cut_of h).fault in
    let filled : h.bytes ≡ bytes_of_frames h.framing (h.given ++ content ∷ []) ++ rest =
    st.filled ∙ (ap (λ l. bytes_of_frames h.framing h.given ++ l) is.1 ∙ (sym (append_assoc (bytes_of_frames h.framing h.given) (frame h.framing content) rest) ∙ ap (λ l. l ++ rest) (sym (joined-and h.framing h.given content)))) in
    goes-on h f (Frame content rest) (and_frame content h) e
    (sym (ap (λ (l : List (List ℕ)). next_in l fault) coming))
    (sym (ap first_given_frame coming))
    (ap (λ (l : List (List ℕ)). and_next_in l fault h) coming)
    (stands_by (and_frame content h) (after_front (Frame content rest) f) (valid-and h.framing h.given content st.valid is.0) filled st.fault
    (subst (λ (t : Option BadFrame). HasRecorded t (and_frame content h) (after_front (Frame content rest) f)) (sym e) framing))

-- nothing whole is there
goes-more : (h : FramerHistory) (f : FramerState) → h.recorded ≡ None → FramerRepresents h f → f.framing ≡ h.framing → first_frame h.framing f.rest ≡ More → Goes h f More
goes-more h f e st framing front =
    let c : cut h.framing f.rest ≡ record { frames = []; rest = f.rest; fault = None } = cut-at h.framing f.rest More front in
    let coming : to_come h ≡ [] = to_come-is h f st ∙ ap (λ (x : Cut). x.frames) c in
    let fault : (cut_of h).fault ≡ None = fault-is h f st ∙ ap (λ (x : Cut). x.fault) c in
    goes-on h f More h e
    (sym (ap (λ (l : List (List ℕ)). next_in l (cut_of h).fault) coming ∙ ap (next_in []) fault))
    (sym (ap first_given_frame coming))
    (ap (λ (l : List (List ℕ)). and_next_in l (cut_of h).fault h) coming ∙ ap (λ (t : Option BadFrame). and_next_in [] t h) fault)
    (stands_by h (after_front More f) st.valid st.filled st.fault (subst (λ (t : Option BadFrame). HasRecorded t h (after_front More f)) (sym e) framing))

-- a fault is reported
goes-fault : (h : FramerHistory) (f : FramerState) (bad : BadFrame) → h.recorded ≡ None → FramerRepresents h f → first_frame h.framing f.rest ≡ Faulty bad → Goes h f (Faulty bad)
goes-fault h f bad e st front =
    let c : cut h.framing f.rest ≡ record { frames = []; rest = f.rest; fault = Some bad } = cut-at h.framing f.rest (Faulty bad) front in
    let coming : to_come h ≡ [] = to_come-is h f st ∙ ap (λ (x : Cut). x.frames) c in
    let fault : (cut_of h).fault ≡ Some bad = fault-is h f st ∙ ap (λ (x : Cut). x.fault) c in
    goes-on h f (Faulty bad) (and_fault bad h) e
    (sym (ap (λ (l : List (List ℕ)). next_in l (cut_of h).fault) coming ∙ ap (next_in []) fault))
    (sym (ap first_given_frame coming))
    (ap (λ (l : List (List ℕ)). and_next_in l (cut_of h).fault h) coming ∙ ap (λ (t : Option BadFrame). and_next_in [] t h) fault)
    (stands_by (and_fault bad h) (after_front (Faulty bad) f) st.valid st.filled refl front)

pub next-goes : (h : FramerHistory) (f : FramerState) → AreBytes f.rest → FramerRepresents h f → Goes h f (front_of f)
next-goes h f bytes st = by_recorded h.recorded refl
  where
    by_front : (framing : f.framing ≡ h.framing) (e : h.recorded ≡ None) (front : Front) → first_frame h.framing f.rest ≡ front → IsFirst h.framing f.rest front → Goes h f front
    by_front framing e (Frame content rest) front is = goes-frame h f content rest e st framing front is
    by_front framing e More front is = goes-more h f e st framing front
    by_front framing e (Faulty bad) front is = goes-fault h f bad e st front

    by_recorded : (t : Option BadFrame) → h.recorded ≡ t → Goes h f (front_of f)
    by_recorded (Some fault) e = subst (Goes h f) (sym (ap (λ (t : Option BadFrame). once_recorded t Faulty (first_frame f.framing f.rest)) (st.fault ∙ e))) (goes-recorded h f fault e st)
    by_recorded None e =
        let framing : f.framing ≡ h.framing = subst (λ (t : Option BadFrame). HasRecorded t h f) e st.recorded in
        let front : front_of f ≡ first_frame h.framing f.rest = ap (λ (t : Option BadFrame). once_recorded t Faulty (first_frame f.framing f.rest)) (st.fault ∙ e) ∙ ap (λ k. first_frame k f.rest) framing in
        subst (Goes h f) (sym front) (by_front framing e (first_frame h.framing f.rest) refl (first-is h.framing f.rest bytes))

-- ---- at the calls

pub push-stands : (old new : FramerState) (piece : List ℕ) → new ≡ pushed piece old → FramerGoesOn old new (and_bytes piece)
push-stands old new piece is h st = subst (FramerRepresents (and_bytes piece h)) (sym is) (pushed-stands h old piece st)

pub next-stands : (old new : FramerState) → AreBytes old.rest → new ≡ after_front (front_of old) old → FramerGoesOn old new and_next
next-stands old new bytes is h st = subst (FramerRepresents (and_next h)) (sym is) (next-goes h old bytes st).stands
