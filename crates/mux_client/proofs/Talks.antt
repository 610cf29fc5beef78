-- Talks frame by frame: what frames that come later change.
use Rattle.std.proofs.Common.{◌≡◌, ◌≢◌, ◌∙◌, refl, sym, ap, subst, ℕ, ◌+◌, Bool, true, false, List, [], ◌∷◌, ◌++◌, Option, Some, None, append_assoc}
use Rattle.std.proofs.lemmas.List.{append-nil}
use Rattle.ssh_fields.specs.Fields.{AreBytes}
use Rattle.ssh_grammar.specs.declared.fault.BadFrame.{BadFrame}
use Rattle.ssh_grammar.specs.declared.framing.Framing.TheVariants as framing
use Rattle.ssh_grammar.specs.Frames.{Faulty, first_frame, Cut, cut}
use Rattle.ssh_grammar.specs.IsFrame.{EndsAt}
use Rattle.ssh_grammar.specs.Laws.{cut_then}
use Rattle.ssh_grammar.proofs.Cuts.{cut-at, first-extends, cut-append, Extends}
use Rattle.ssh_grammar.proofs.Frames.{cut-is}
use Rattle.mux_client.specs.declared.asks.Asks.{Asks}
use Rattle.mux_client.specs.Requests.{Request, requests_of, request_frame, hello_frame}
use Rattle.mux_client.specs.Replies.{ReplyVerdict, Grants, Refuses, Breaks, verdict, is_hello}
use Rattle.mux_client.specs.Talk.{TalkOutcome, Finished, RefusedAt, BrokenAt, Talk, talk_stops, talk_sending, talk_showing, place_after_frame, broken_by, tail_outcome, on_reply, talk_on, on_hello, talk_from_hello, talk_by, talk}
use Rattle.mux_client.specs.Laws.{Adds}

adds-itself : (t : Talk) → Adds t t
adds-itself t = record { sent = []; sent_is = sym (append-nil t.sent); out = []; out_is = sym (append-nil t.out) }

adds-sending : (bytes : List ℕ) (a b : Talk) → Adds a b → Adds (talk_sending bytes a) (talk_sending bytes b)
adds-sending bytes a b h = record {
  sent = h.sent;
  sent_is = ap (λ s. bytes ++ s) h.sent_is ∙ sym (append_assoc bytes a.sent h.sent);
  out = h.out;
  out_is = h.out_is;
}

adds-stop : (t : Talk) → Adds (talk_stops None) t
adds-stop t = record { sent = t.sent; sent_is = refl; out = t.out; out_is = refl }

adds-reply : (v : ReplyVerdict) (id at : ℕ) (a b : Talk) → Adds a b → Adds (on_reply v id at a) (on_reply v id at b)
adds-reply (Grants line) id at a b h = record {
  sent = h.sent;
  sent_is = h.sent_is;
  out = h.out;
  out_is = ap (λ s. line ++ s) h.out_is ∙ sym (append_assoc line a.out h.out);
}
adds-reply Refuses id at a b h = adds-itself (talk_stops (Some (RefusedAt id)))
adds-reply Breaks id at a b h = adds-itself (talk_stops (Some (BrokenAt at)))

-- ---- from a request on

grows-on : (requests : List Request) (id at : ℕ) (fs gs : List (List ℕ)) (x : Bool)
    → Adds (talk_on requests id at fs false) (talk_on requests id at (fs ++ gs) x)
grows-on [] id at fs gs x = adds-itself (talk_stops (Some Finished))
grows-on (request ∷ requests) id at [] [] x =
    adds-sending (request_frame id request) (talk_stops None) (talk_stops (tail_outcome x at)) (adds-stop (talk_stops (tail_outcome x at)))
grows-on (request ∷ requests) id at [] (g ∷ gs) x =
    adds-sending (request_frame id request) (talk_stops None)
    (on_reply (verdict request id g) id at (talk_on requests (id + 1) (place_after_frame at g) gs x))
    (adds-stop (on_reply (verdict request id g) id at (talk_on requests (id + 1) (place_after_frame at g) gs x)))
grows-on (request ∷ requests) id at (f ∷ fs) gs x =
    adds-sending (request_frame id request)
    (on_reply (verdict request id f) id at (talk_on requests (id + 1) (place_after_frame at f) fs false))
    (on_reply (verdict request id f) id at (talk_on requests (id + 1) (place_after_frame at f) (fs ++ gs) x))
    (adds-reply (verdict request id f) id at (talk_on requests (id + 1) (place_after_frame at f) fs false)
    (talk_on requests (id + 1) (place_after_frame at f) (fs ++ gs) x)
    (grows-on requests (id + 1) (place_after_frame at f) fs gs x))

stays-reply : (v : ReplyVerdict) (id at : ℕ) (a b : Talk) → (on_reply v id at a).outcome ≢ None
    → (a.outcome ≢ None → b ≡ a) → on_reply v id at b ≡ on_reply v id at a
stays-reply (Grants line) id at a b ne h = ap (talk_showing line) (h ne)
stays-reply Refuses id at a b ne h = refl
stays-reply Breaks id at a b ne h = refl

stays-on : (requests : List Request) (id at : ℕ) (fs gs : List (List ℕ)) (x : Bool)
    → (talk_on requests id at fs false).outcome ≢ None
    → talk_on requests id at (fs ++ gs) x ≡ talk_on requests id at fs false
stays-on [] id at fs gs x ne = refl
stays-on (request ∷ requests) id at [] gs x ne = absurd (ne refl)
stays-on (request ∷ requests) id at (f ∷ fs) gs x ne =
    ap (talk_sending (request_frame id request))
    (stays-reply (verdict request id f) id at (talk_on requests (id + 1) (place_after_frame at f) fs false)
    (talk_on requests (id + 1) (place_after_frame at f) (fs ++ gs) x) ne
    (stays-on requests (id + 1) (place_after_frame at f) fs gs x))

some_outcome : (o : TalkOutcome) → Some o ≢ None
some_outcome o e = cc

ends-reply : (v : ReplyVerdict) (id at : ℕ) (a : Talk) → a.outcome ≢ None → (on_reply v id at a).outcome ≢ None
ends-reply (Grants line) id at a h = h
ends-reply Refuses id at a h = some_outcome (RefusedAt id)
ends-reply Breaks id at a h = some_outcome (BrokenAt at)

ends-on : (requests : List Request) (id at : ℕ) (fs : List (List ℕ)) → (talk_on requests id at fs true).outcome ≢ None
ends-on [] id at fs = some_outcome Finished
ends-on (request ∷ requests) id at [] = some_outcome (BrokenAt at)
ends-on (request ∷ requests) id at (f ∷ fs) =
    ends-reply (verdict request id f) id at (talk_on requests (id + 1) (place_after_frame at f) fs true)
    (ends-on requests (id + 1) (place_after_frame at f) fs)

-- ---- from the hello on

adds-hello : (b : Bool) (s t : Talk) → Adds s t → Adds (on_hello b s) (on_hello b t)
adds-hello true s t h = h
adds-hello false s t h = adds-itself (talk_stops (Some (BrokenAt 0)))

grows-greeted : (requests : List Request) (fs gs : List (List ℕ)) (x : Bool)
    → Adds (talk_from_hello requests fs false) (talk_from_hello requests (fs ++ gs) x)
grows-greeted requests [] [] x = adds-stop (talk_stops (tail_outcome x 0))
grows-greeted requests [] (g ∷ gs) x = adds-stop (on_hello (is_hello g) (talk_on requests 0 (place_after_frame 0 g) gs x))
grows-greeted requests (f ∷ fs) gs x =
    adds-hello (is_hello f) (talk_on requests 0 (place_after_frame 0 f) fs false) (talk_on requests 0 (place_after_frame 0 f) (fs ++ gs) x)
    (grows-on requests 0 (place_after_frame 0 f) fs gs x)

stays-hello : (b : Bool) (s t : Talk) → (on_hello b s).outcome ≢ None → (s.outcome ≢ None → t ≡ s)
    → on_hello b t ≡ on_hello b s
stays-hello true s t ne h = h ne
stays-hello false s t ne h = refl

stays-greeted : (requests : List Request) (fs gs : List (List ℕ)) (x : Bool)
    → (talk_from_hello requests fs false).outcome ≢ None → talk_from_hello requests (fs ++ gs) x ≡ talk_from_hello requests fs false
stays-greeted requests [] gs x ne = absurd (ne refl)
stays-greeted requests (f ∷ fs) gs x ne =
    stays-hello (is_hello f) (talk_on requests 0 (place_after_frame 0 f) fs false) (talk_on requests 0 (place_after_frame 0 f) (fs ++ gs) x) ne
    (stays-on requests 0 (place_after_frame 0 f) fs gs x)

ends-hello : (b : Bool) (s : Talk) → s.outcome ≢ None → (on_hello b s).outcome ≢ None
ends-hello true s h = h
ends-hello false s h = some_outcome (BrokenAt 0)

ends-greeted : (requests : List Request) (fs : List (List ℕ)) → (talk_from_hello requests fs true).outcome ≢ None
ends-greeted requests [] = some_outcome (BrokenAt 0)
ends-greeted requests (f ∷ fs) =
    ends-hello (is_hello f) (talk_on requests 0 (place_after_frame 0 f) fs true) (ends-on requests 0 (place_after_frame 0 f) fs)

-- ---- by the bytes

-- after a fault nothing is cut
pub cut-fault : (rest more : List ℕ) (f : BadFrame) → first_frame framing.Control rest ≡ Faulty f
    → cut framing.Control (rest ++ more) ≡ record { frames = []; rest = rest ++ more; fault = Some f }
cut-fault rest more f e =
    cut-at framing.Control (rest ++ more) (Faulty f)
    (subst (λ front. Extends more front (first_frame framing.Control (rest ++ more))) e (first-extends framing.Control rest more))

-- so a talk whose bytes have a fault stays
same_talk : (asks : Asks) (c d : Cut) (f g : BadFrame) (ended : Bool) → c.fault ≡ Some f → d.frames ≡ [] → d.fault ≡ Some g
    → talk_by asks (cut_then c d) ended ≡ talk_by asks c false
same_talk asks c d f g ended broken none still =
    ap (λ fs. talk_sending hello_frame (talk_from_hello (requests_of asks) (c.frames ++ fs) (broken_by d.fault ended))) none
    ∙ ap (λ fs. talk_sending hello_frame (talk_from_hello (requests_of asks) fs (broken_by d.fault ended))) (append-nil c.frames)
    ∙ ap (λ o. talk_sending hello_frame (talk_from_hello (requests_of asks) c.frames (broken_by o ended))) still
    ∙ ap (λ o. talk_sending hello_frame (talk_from_hello (requests_of asks) c.frames (broken_by o false))) (sym broken)

faulty-talk : (asks : Asks) (a b : List ℕ) (ended : Bool) (f : BadFrame) → AreBytes a
    → (cut framing.Control a).fault ≡ Some f → talk asks (a ++ b) ended ≡ talk asks a false
faulty-talk asks a b ended f bytes e =
    let front : first_frame framing.Control (cut framing.Control a).rest ≡ Faulty f =
    subst (λ o. EndsAt o (first_frame framing.Control (cut framing.Control a).rest)) e (cut-is framing.Control a bytes).longest in
    let later = cut-fault (cut framing.Control a).rest b f front in
    ap (λ c. talk_by asks c ended) (cut-append framing.Control a b)
    ∙ same_talk asks (cut framing.Control a) (cut framing.Control ((cut framing.Control a).rest ++ b)) f f ended e
    (ap (λ (c : Cut). c.frames) later) (ap (λ (c : Cut). c.fault) later)

pub talk-grows : (asks : Asks) (a b : List ℕ) (ended : Bool) → AreBytes a → Adds (talk asks a false) (talk asks (a ++ b) ended)
talk-grows asks a b ended bytes = by_case (cut framing.Control a).fault refl
  where
    by_case : (o : Option BadFrame) → (cut framing.Control a).fault ≡ o → Adds (talk asks a false) (talk asks (a ++ b) ended)
    by_case (Some f) e = subst (Adds (talk asks a false)) (sym (faulty-talk asks a b ended f bytes e)) (adds-itself (talk asks a false))
    by_case None e =
        let c = cut framing.Control a in
        let d = cut framing.Control (c.rest ++ b) in
        subst (λ k. Adds (talk_by asks c false) (talk_by asks k ended)) (sym (cut-append framing.Control a b))
        (subst (λ o. Adds (talk_sending hello_frame (talk_from_hello (requests_of asks) c.frames (broken_by o false))) (talk_by asks (cut_then c d) ended)) (sym e)
        (adds-sending hello_frame (talk_from_hello (requests_of asks) c.frames false) (talk_from_hello (requests_of asks) (c.frames ++ d.frames) (broken_by d.fault ended))
        (grows-greeted (requests_of asks) c.frames d.frames (broken_by d.fault ended))))

pub talk-stays : (asks : Asks) (a b : List ℕ) (ended : Bool) → AreBytes a → (talk asks a false).outcome ≢ None
    → talk asks (a ++ b) ended ≡ talk asks a false
talk-stays asks a b ended bytes ne = by_case (cut framing.Control a).fault refl
  where
    by_case : (o : Option BadFrame) → (cut framing.Control a).fault ≡ o → talk asks (a ++ b) ended ≡ talk asks a false
    by_case (Some f) e = faulty-talk asks a b ended f bytes e
    by_case None e =
        let c = cut framing.Control a in
        let d = cut framing.Control (c.rest ++ b) in
        let waits : talk asks a false ≡ talk_sending hello_frame (talk_from_hello (requests_of asks) c.frames false) =
        ap (λ o. talk_sending hello_frame (talk_from_hello (requests_of asks) c.frames (broken_by o false))) e in
        ap (λ k. talk_by asks k ended) (cut-append framing.Control a b)
        ∙ ap (talk_sending hello_frame) (stays-greeted (requests_of asks) c.frames d.frames (broken_by d.fault ended)
        (λ none. ne (ap (λ (t : Talk). t.outcome) waits ∙ none)))
        ∙ sym waits

broken-ended : (o : Option BadFrame) → broken_by o true ≡ true
broken-ended (Some f) = refl
broken-ended None = refl

pub talk-ends : (asks : Asks) (a : List ℕ) → (talk asks a true).outcome ≢ None
talk-ends asks a = λ e. ends-greeted (requests_of asks) (cut framing.Control a).frames
    (ap (λ x. (talk_from_hello (requests_of asks) (cut framing.Control a).frames x).outcome) (sym (broken-ended (cut framing.Control a).fault)) ∙ e)
