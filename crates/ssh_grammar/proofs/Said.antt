-- What is sent by bytes, by the frames of the whole.
use Rattle.std.proofs.Common.{◌≡◌, ℕ, zero, suc, ◌-◌, ◌≤◌, List, [], ◌∷◌, ◌++◌, length, map, Option, Some, None, refl, sym, ◌∙◌, ap, subst, arith, append_assoc}
use Rattle.ssh_fields.specs.Fields.{AreBytes}
use Rattle.ssh_grammar.specs.declared.fault.BadFrame.{BadFrame}
use Rattle.ssh_grammar.specs.declared.framing.Framing.TheVariants as framing
use Rattle.ssh_grammar.specs.Frames.{Front, Frame, More, Faulty, frame, first_frame, Cut, cut}
use Rattle.ssh_grammar.specs.IsFrame.{IsContent, bytes_of_frames, EndsAt, Cuts}
use Rattle.ssh_grammar.specs.Said.{Mode, InControl, InProxy, Stopped, Outgoing, Body, Payload, after_body, Parsed, with_sending, parse, said}
use Rattle.ssh_grammar.specs.Laws.{faults, says, KeepControl, AreBodies}
use Rattle.ssh_grammar.proofs.Cuts.{IsShorter, first-shorter, cut-at}
use Rattle.ssh_grammar.proofs.Frames.{first-frame, cut-is}
use Rattle.ssh_grammar.proofs.Parses.{parse-at, parse-append, parse-stopped}

-- ---- payloads

payloads-at : (bytes : List ℕ) (f : Front) → first_frame framing.Proxy bytes ≡ f → ((content rest : List ℕ) → f ≡ Frame content rest → (parse InProxy rest).says ≡ says framing.Proxy Payload rest) → (parse InProxy bytes).says ≡ says framing.Proxy Payload bytes
payloads-at bytes (Frame content rest) e ih =
    ap (λ (p : Parsed). p.says) (parse-at InProxy bytes (Frame content rest) e)
    ∙ (ap (λ xs. Payload content ∷ xs) (ih content rest refl) ∙ sym (ap (λ (c : Cut). map Payload c.frames ++ faults c.fault) (cut-at framing.Proxy bytes (Frame content rest) e)))
payloads-at bytes More e ih =
    ap (λ (p : Parsed). p.says) (parse-at InProxy bytes More e) ∙ sym (ap (λ (c : Cut). map Payload c.frames ++ faults c.fault) (cut-at framing.Proxy bytes More e))
payloads-at bytes (Faulty f) e ih =
    ap (λ (p : Parsed). p.says) (parse-at InProxy bytes (Faulty f) e) ∙ sym (ap (λ (c : Cut). map Payload c.frames ++ faults c.fault) (cut-at framing.Proxy bytes (Faulty f) e))

payloads-by : (n : ℕ) (bytes : List ℕ) → length bytes ≤ n → (parse InProxy bytes).says ≡ says framing.Proxy Payload bytes
payloads-by n [] le = refl
payloads-by zero (b ∷ bytes) le = absurd (omega arith)
payloads-by (suc n) (b ∷ bytes) le = payloads-at (b ∷ bytes) (first_frame framing.Proxy (b ∷ bytes)) refl (λ content rest e. payloads-by n rest
    (let s : length rest ≤ length (b ∷ bytes) - 4 = subst (IsShorter (length (b ∷ bytes) - 4)) e (first-shorter framing.Proxy (b ∷ bytes)) in omega arith))

-- what is sent from the proxy's first byte on
pub payloads : (bytes : List ℕ) → (parse InProxy bytes).says ≡ says framing.Proxy Payload bytes
payloads bytes = payloads-by (length bytes) bytes (omega arith)

-- ---- control messages

pub parse-body : (body rest : List ℕ) → IsContent framing.Control body → parse InControl (frame framing.Control body ++ rest) ≡ with_sending (Body body) (parse (after_body body) rest)
parse-body body rest is = parse-at InControl (frame framing.Control body ++ rest) (Frame body rest) (first-frame framing.Control body rest is)

pub parse-bodies : (bodies : List (List ℕ)) (rest : List ℕ) → AreBodies bodies → KeepControl bodies → (parse InControl (bytes_of_frames framing.Control bodies ++ rest)).says ≡ map Body bodies ++ (parse InControl rest).says
parse-bodies [] rest are keep = refl
parse-bodies (body ∷ bodies) rest are keep =
    ap (λ x. (parse InControl x).says) (append_assoc (frame framing.Control body) (bytes_of_frames framing.Control bodies) rest)
    ∙ (ap (λ (p : Parsed). p.says) (parse-body body (bytes_of_frames framing.Control bodies ++ rest) are.0)
    ∙ ap (λ xs. Body body ∷ xs) (ap (λ mode. (parse mode (bytes_of_frames framing.Control bodies ++ rest)).says) keep.0 ∙ parse-bodies bodies rest are.1 keep.1))

ends : (rest : List ℕ) (fault : Option BadFrame) → EndsAt fault (first_frame framing.Control rest) → (parse InControl rest).says ≡ faults fault
ends rest None e = ap (λ (p : Parsed). p.says) (parse-at InControl rest More e)
ends rest (Some f) e = ap (λ (p : Parsed). p.says) (parse-at InControl rest (Faulty f) e)

pub control_is_sent : (bytes : List ℕ) → AreBytes bytes → KeepControl (cut framing.Control bytes).frames → said bytes ≡ says framing.Control Body bytes
control_is_sent bytes h keep =
    let is : Cuts framing.Control bytes (cut framing.Control bytes) = cut-is framing.Control bytes h in
    ap (λ x. (parse InControl x).says) is.filled
    ∙ (parse-bodies (cut framing.Control bytes).frames (cut framing.Control bytes).rest is.valid keep
    ∙ ap (λ xs. map Body (cut framing.Control bytes).frames ++ xs) (ends (cut framing.Control bytes).rest (cut framing.Control bytes).fault is.longest))

after-last : (bodies : List (List ℕ)) (last rest : List ℕ) (mode : Mode) → AreBodies bodies → KeepControl bodies → IsContent framing.Control last → after_body last ≡ mode
    → said (bytes_of_frames framing.Control bodies ++ (frame framing.Control last ++ rest)) ≡ map Body bodies ++ (Body last ∷ (parse mode rest).says)
after-last bodies last rest mode are keep is after =
    parse-bodies bodies (frame framing.Control last ++ rest) are keep
    ∙ ap (λ xs. map Body bodies ++ xs) (ap (λ (p : Parsed). p.says) (parse-body last rest is) ∙ ap (λ m. Body last ∷ (parse m rest).says) after)

pub proxy_is_sent : (bodies : List (List ℕ)) (last rest : List ℕ) → AreBodies bodies → KeepControl bodies → IsContent framing.Control last → after_body last ≡ InProxy
    → said (bytes_of_frames framing.Control bodies ++ (frame framing.Control last ++ rest)) ≡ map Body bodies ++ (Body last ∷ says framing.Proxy Payload rest)
proxy_is_sent bodies last rest are keep is after = after-last bodies last rest InProxy are keep is after ∙ ap (λ xs. map Body bodies ++ (Body last ∷ xs)) (payloads rest)

pub nothing_more_is_sent : (bodies : List (List ℕ)) (last rest : List ℕ) → AreBodies bodies → KeepControl bodies → IsContent framing.Control last → after_body last ≡ Stopped
    → said (bytes_of_frames framing.Control bodies ++ (frame framing.Control last ++ rest)) ≡ map Body bodies ++ (Body last ∷ [])
nothing_more_is_sent bodies last rest are keep is after = after-last bodies last rest Stopped are keep is after ∙ ap (λ (p : Parsed). map Body bodies ++ (Body last ∷ p.says)) (parse-stopped rest)

pub sent_stays : (a b : List ℕ) → (more : List Outgoing) × (said (a ++ b) ≡ said a ++ more)
sent_stays a b = ((parse (parse InControl a).mode ((parse InControl a).rest ++ b)).says, ap (λ (p : Parsed). p.says) (parse-append InControl a b))
