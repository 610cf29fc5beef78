-- A client reads a frame: what it represents then.
use Rattle.std.proofs.Common.{◌≡◌, ◌≢◌, ◌≤◌, ◌<◌, ◌∙◌, refl, sym, ap, subst, ℕ, zero, suc, ◌+◌, ◌-◌, Bool, true, false, List, [], ◌∷◌, ◌++◌, length, drop, Option, Some, None, append_assoc, arith}
use Rattle.std.specs.Prelude.{IsSome, IsTrue, ◌↔◌, slice_get}
use Rattle.std.proofs.lemmas.List.{append-nil}
use Rattle.ssh_grammar.specs.declared.framing.Framing.TheVariants.{Control}
use Rattle.ssh_grammar.specs.Frames.{Front, Frame, More, Faulty, first_frame, with_frame, cut}
use Rattle.ssh_grammar.proofs.Cuts.{IsShorter, first-shorter, cut-at, first-extends, Extends}
use Rattle.mux_client.specs.declared.asks.Asks.{Asks}
use Rattle.mux_client.specs.declared.stage.TalkStage.{TalkStage}
use Rattle.mux_client.specs.declared.stage.TalkStage.TheVariants.{Greets, Asks as Asked, Granted, Refused, Broken}
use Rattle.mux_client.specs.declared.verdict.OutLine.{OutLine}
use Rattle.mux_client.specs.declared.verdict.OutLine.TheVariants.{Nothing}
use Rattle.mux_client.specs.Requests.{Request, requests_of, request_at, request_frame, frame_due}
use Rattle.mux_client.specs.Replies.{ReplyVerdict, Grants, Refuses, Breaks, verdict, is_hello}
use Rattle.mux_client.specs.Verdicts.{text_of_line}
use Rattle.mux_client.specs.Talk.{BrokenAt, Talk, talk_stops, talk_sending, talk_showing, place_after_frame, broken_by, tail_outcome, on_reply, on_hello, talk_on}
use Rattle.mux_client.proofs.Talks.{cut-fault}
use Rattle.mux_client.specs.Client.{TalkState, awaited_place, after_cut, stage_due, request_is_sent, talk_after_request, later_at, later_by, later, HasRequest, TalkRepresents, IsSettledAt, ReadsNextTo}

-- ---- from one client to the next

regroup : (a b c d : List ℕ) (t : Talk) → talk_sending a (talk_showing b (talk_sending c (talk_showing d t))) ≡ talk_sending (a ++ c) (talk_showing (b ++ d) t)
regroup a b c d t =
    ap (λ s. stop s (b ++ (d ++ t.out))) (sym (append_assoc a c t.sent))
    ∙ ap (λ o. stop ((a ++ c) ++ t.sent) o) (sym (append_assoc b d t.out))
  where
    stop : List ℕ → List ℕ → Talk
    stop s o = record { sent = s; out = o; outcome = t.outcome }

-- where what is still to come for the old client begins with what the new one has added
pub stands-on : (asks : Asks) (bytes taken shown added line : List ℕ) (old new : TalkState) → new.queue ≡ old.queue ++ added
    → ((more : List ℕ) (ended : Bool) → later old asks more ended ≡ talk_sending added (talk_showing line (later new asks more ended)))
    → HasRequest asks new.stage → TalkRepresents asks bytes taken shown old → TalkRepresents asks bytes taken (shown ++ line) new
stands-on asks bytes taken shown added line old new queue step request h = record {
  goes = λ more ended.
      h.goes more ended ∙ ap (λ t. talk_sending (taken ++ old.queue) (talk_showing shown t)) (step more ended)
      ∙ regroup (taken ++ old.queue) shown added line (later new asks more ended)
      ∙ ap (λ q. talk_sending q (talk_showing (shown ++ line) (later new asks more ended))) (append_assoc taken old.queue added ∙ ap (λ q. taken ++ q) (sym queue));
  request = request;
}

-- ---- fronts

frame-cut : (rest more content place_after_frame : List ℕ) → first_frame Control rest ≡ Frame content place_after_frame
    → cut Control (rest ++ more) ≡ with_frame content (cut Control (place_after_frame ++ more))
frame-cut rest more content place_after_frame e =
    cut-at Control (rest ++ more) (Frame content (place_after_frame ++ more)) (subst (λ front. Extends more front (first_frame Control (rest ++ more))) e (first-extends Control rest more))

shorter : (rest content place_after_frame : List ℕ) → first_frame Control rest ≡ Frame content place_after_frame → length place_after_frame < length rest
shorter [] content place_after_frame e = absurd (let z : More ≡ Frame content place_after_frame = e in cc)
shorter (x ∷ rest) content place_after_frame e = let s : length place_after_frame ≤ length (x ∷ rest) - 4 = subst (IsShorter (length (x ∷ rest) - 4)) e (first-shorter Control (x ∷ rest)) in omega arith

-- a frame was cut: its body is the current frame now
pub record IsCut (old new : TalkState) (body : List ℕ) : Type 0 where
  pub front : first_frame Control old.framer.rest ≡ Frame body new.framer.rest
  pub queue : new.queue ≡ old.queue
  pub stage : new.stage ≡ old.stage

pub cut-frame : (old new : TalkState) (at : ℕ) (body : List ℕ) → new ≡ after_cut (first_frame Control old.framer.rest) at old → new.framer.current ≡ Some body → IsCut old new body
cut-frame old new at body e current = by_front (first_frame Control old.framer.rest) refl e
  where
    by_front : (f : Front) → first_frame Control old.framer.rest ≡ f → new ≡ after_cut f at old → IsCut old new body
    by_front (Frame content rest) is e =
        let same : content ≡ body = let z : Some content ≡ Some body = ap (λ (s : TalkState). s.framer.current) (sym e) ∙ current in cc in
        record {
          front = is ∙ ap (λ b. Frame b rest) same ∙ ap (λ (s : TalkState). Frame body s.framer.rest) (sym e);
          queue = ap (λ (s : TalkState). s.queue) e;
          stage = ap (λ (s : TalkState). s.stage) e;
        }
    by_front More is e = absurd (let z : None ≡ Some body = ap (λ (s : TalkState). s.framer.current) (sym e) ∙ current in cc)
    by_front (Faulty f) is e = absurd (let z : None ≡ Some body = ap (λ (s : TalkState). s.framer.current) (sym e) ∙ current in cc)

-- ---- requests in order

drop-none : {A : Type 0} (xs : List A) (i : ℕ) → slice_get xs i ≡ None → drop i xs ≡ []
drop-none [] zero e = refl
drop-none [] (suc i) e = refl
drop-none (x ∷ xs) zero e = absurd (let z : Some x ≡ None = e in cc)
drop-none (x ∷ xs) (suc i) e = drop-none xs i e

drop-suc : {A : Type 0} (xs : List A) (i : ℕ) (x : A) → slice_get xs i ≡ Some x → drop i xs ≡ x ∷ drop (suc i) xs
drop-suc [] i x e = absurd (let z : None ≡ Some x = e in cc)
drop-suc (y ∷ xs) zero x e = let z : y ≡ x = (let w : Some y ≡ Some x = e in cc) in ap (λ w. w ∷ xs) z
drop-suc (y ∷ xs) (suc i) x e = drop-suc xs i x e

drop-some : {A : Type 0} (xs : List A) (i : ℕ) (x : A) → slice_get xs i ≡ Some x → drop i xs ≡ x ∷ drop (i + 1) xs
drop-some xs i x e = drop-suc xs i x e ∙ ap (λ n. x ∷ drop n xs) (let z : suc i ≡ i + 1 = omega arith in z)

sent-first : (request : Request) (requests : List Request) (id at : ℕ) (bodies : List (List ℕ)) (broken : Bool)
    → talk_on (request ∷ requests) id at bodies broken ≡ talk_sending (request_frame id request) (talk_after_request (request ∷ requests) id at bodies broken)
sent-first request requests id at [] broken = refl
sent-first request requests id at (body ∷ bodies) broken = refl

-- the request that is due is sent first
pub due-first : (requests : List Request) (id at : ℕ) (bodies : List (List ℕ)) (broken : Bool)
    → talk_on (drop id requests) id at bodies broken
    ≡ talk_sending (frame_due id (slice_get requests id)) (later_at (stage_due (slice_get requests id) id at) requests bodies broken)
due-first requests id at bodies broken = by_case (slice_get requests id) refl
  where
    by_case : (o : Option Request) → slice_get requests id ≡ o → talk_on (drop id requests) id at bodies broken ≡ talk_sending (frame_due id o) (later_at (stage_due o id at) requests bodies broken)
    by_case None e = ap (λ rs. talk_on rs id at bodies broken) (drop-none requests id e)
    by_case (Some r) e =
        ap (λ rs. talk_on rs id at bodies broken) (drop-some requests id r e) ∙ sent-first r (drop (id + 1) requests) id at bodies broken
        ∙ ap (λ rs. talk_sending (request_frame id r) (talk_after_request rs id at bodies broken)) (sym (drop-some requests id r e))

has-due : (asks : Asks) (id at : ℕ) → HasRequest asks (stage_due (request_at asks id) id at)
has-due asks id at = by_case (request_at asks id) refl
  where
    by_case : (o : Option Request) → request_at asks id ≡ o → HasRequest asks (stage_due o id at)
    by_case None e = tt
    by_case (Some r) e = (r, e)

-- ---- after a fault, or while more is wanted

pub replied-none : (asks : Asks) (id at : ℕ) (broken : Bool) (request : Request) → request_at asks id ≡ Some request → talk_after_request (drop id (requests_of asks)) id at [] broken ≡ talk_stops (tail_outcome broken at)
replied-none asks id at broken request e = ap (λ rs. talk_after_request rs id at [] broken) (drop-some (requests_of asks) id request e)

-- a talk breaks at the place of a fault
broken-here : (asks : Asks) (stage : TalkStage) (at : ℕ) → awaited_place stage ≡ Some at → HasRequest asks stage → later_at stage (requests_of asks) [] true ≡ talk_stops (Some (BrokenAt at))
broken-here asks Greets at p h = ap (λ n. talk_stops (Some (BrokenAt n))) (let z : Some 0 ≡ Some at = p in cc)
broken-here asks (Asked id n) at p h =
    ap (λ rs. talk_after_request rs id n [] true) (drop-some (requests_of asks) id h.0 h.1) ∙ ap (λ m. talk_stops (Some (BrokenAt m))) (let z : Some n ≡ Some at = p in cc)
broken-here asks Granted at p h = absurd (let z : None ≡ Some at = p in cc)
broken-here asks (Refused id) at p h = absurd (let z : None ≡ Some at = p in cc)
broken-here asks (Broken n) at p h = absurd (let z : None ≡ Some at = p in cc)

settled-more : (stage : TalkStage) (at : ℕ) (rest : List ℕ) → awaited_place stage ≡ Some at → first_frame Control rest ≡ More → IsSettledAt stage rest
settled-more Greets at rest p e = e
settled-more (Asked id n) at rest p e = e
settled-more Granted at rest p e = tt
settled-more (Refused id) at rest p e = tt
settled-more (Broken n) at rest p e = tt

no-line : {P : Type 0} → IsSome {T = OutLine} None → P
no-line h = absurd (let z : false ≡ true = h in cc)

-- no frame was cut
pub not-cut : (asks : Asks) (old new : TalkState) (at : ℕ) → awaited_place old.stage ≡ Some at → new ≡ after_cut (first_frame Control old.framer.rest) at old
    → (IsSome new.framer.current → ⊥) → ReadsNextTo asks old new None
not-cut asks old new at place e none = subst (λ s. ReadsNextTo asks old s None) (sym e)
    (by_front (first_frame Control old.framer.rest) refl (subst (λ (s : TalkState). IsSome s.framer.current → ⊥) e none))
  where
    by_front : (f : Front) → first_frame Control old.framer.rest ≡ f → (IsSome (after_cut f at old).framer.current → ⊥) → ReadsNextTo asks old (after_cut f at old) None
    by_front (Frame content rest) is none = absurd (none refl)
    by_front More is none = record {
      stands = λ bytes taken shown h. stands-on asks bytes taken shown [] [] old (after_cut More at old) (sym (append-nil old.queue)) (λ more ended. refl) h.request h;
      settled = λ z. settled-more old.stage at old.framer.rest place is;
      less = λ z. no-line z;
      over = λ z. absurd (let w : Some at ≡ None = sym place ∙ z in cc);
    }
    by_front (Faulty f) is none = record {
      stands = λ bytes taken shown h. stands-on asks bytes taken shown [] [] old (after_cut (Faulty f) at old) (sym (append-nil old.queue))
          (λ more ended. ap (λ c. later_by old.stage (requests_of asks) c ended) (cut-fault old.framer.rest more f is) ∙ broken-here asks old.stage at place h.request) tt h;
      settled = λ z. tt;
      less = λ z. no-line z;
      over = λ z. absurd (let w : Some at ≡ None = sym place ∙ z in cc);
    }

-- the same, as the code has it
pub none-cut : (asks : Asks) (old new : TalkState) (at : ℕ) (b : Bool) → awaited_place old.stage ≡ Some at → new ≡ after_cut (first_frame Control old.framer.rest) at old
    → IsTrue b ↔ IsSome new.framer.current → b ≡ false → ReadsNextTo asks old new None
none-cut asks old new at true place e frame empty = absurd (let z : true ≡ false = empty in cc)
none-cut asks old new at false place e frame empty = not-cut asks old new at place e (λ some. let z : false ≡ true = frame.1 some in cc)

-- ---- a frame was cut

-- and the talk is over with it
pub record TalkStops (asks : Asks) (old : TalkState) (body : List ℕ) (stage : TalkStage) : Type 0 where
  pub over : (bodies : List (List ℕ)) (broken : Bool) → HasRequest asks old.stage → later_at old.stage (requests_of asks) (body ∷ bodies) broken ≡ later_at stage (requests_of asks) [] broken
  pub stays : (bodies : List (List ℕ)) (broken : Bool) → later_at stage (requests_of asks) bodies broken ≡ later_at stage (requests_of asks) [] broken
  pub request : HasRequest asks stage
  pub settled : (rest : List ℕ) → IsSettledAt stage rest
  pub ends : awaited_place stage ≡ None

pub cut-stops : (asks : Asks) (old new : TalkState) (body : List ℕ) (stage : TalkStage) → IsCut old new body → TalkStops asks old body stage → ReadsNextTo asks old (record new { stage = stage }) None
cut-stops asks old new body stage k s = record {
  stands = λ bytes taken shown h. stands-on asks bytes taken shown [] [] old (record new { stage = stage }) (k.queue ∙ sym (append-nil old.queue))
      (λ more ended. let c = cut Control (new.framer.rest ++ more) in
      ap (λ d. later_by old.stage (requests_of asks) d ended) (frame-cut old.framer.rest more body new.framer.rest k.front)
      ∙ s.over c.frames (broken_by c.fault ended) h.request ∙ sym (s.stays c.frames (broken_by c.fault ended))) s.request h;
  settled = λ z. s.settled new.framer.rest;
  less = λ z. no-line z;
  over = λ z. s.ends;
}

-- no hello
pub bad-hello : (asks : Asks) (old : TalkState) (body : List ℕ) → old.stage ≡ Greets → is_hello body ≡ false → TalkStops asks old body (Broken 0)
bad-hello asks old body greets other = record {
  over = λ bodies broken h. ap (λ g. later_at g (requests_of asks) (body ∷ bodies) broken) greets ∙ ap (λ b. on_hello b (talk_on (requests_of asks) 0 (place_after_frame 0 body) bodies broken)) other;
  stays = λ bodies broken. refl;
  request = tt;
  settled = λ rest. tt;
  ends = refl;
}

-- what follows a reply
reply-is : (asks : Asks) (id at : ℕ) (body : List ℕ) (bodies : List (List ℕ)) (broken : Bool) (request : Request) (v : ReplyVerdict) → request_at asks id ≡ Some request → v ≡ verdict request id body
    → talk_after_request (drop id (requests_of asks)) id at (body ∷ bodies) broken ≡ on_reply v id at (talk_on (drop (id + 1) (requests_of asks)) (id + 1) (place_after_frame at body) bodies broken)
reply-is asks id at body bodies broken request v due means =
    ap (λ rs. talk_after_request rs id at (body ∷ bodies) broken) (drop-some (requests_of asks) id request due)
    ∙ ap (λ w. on_reply w id at (talk_on (drop (id + 1) (requests_of asks)) (id + 1) (place_after_frame at body) bodies broken)) (sym means)

abbrev MeansTo : Asks → ℕ → List ℕ → ReplyVerdict → Type 0
MeansTo asks id body v = (request : Request) → request_at asks id ≡ Some request → v ≡ verdict request id body

reply-at : (asks : Asks) (stage : TalkStage) (id at : ℕ) (body : List ℕ) (bodies : List (List ℕ)) (broken : Bool) (v : ReplyVerdict) → stage ≡ Asked id at → HasRequest asks stage → MeansTo asks id body v
    → later_at stage (requests_of asks) (body ∷ bodies) broken ≡ on_reply v id at (talk_on (drop (id + 1) (requests_of asks)) (id + 1) (place_after_frame at body) bodies broken)
reply-at asks stage id at body bodies broken v is h means =
    let r : HasRequest asks (Asked id at) = subst (HasRequest asks) is h in
    ap (λ g. later_at g (requests_of asks) (body ∷ bodies) broken) is ∙ reply-is asks id at body bodies broken r.0 v r.1 (means r.0 r.1)

pub refuses : (asks : Asks) (old : TalkState) (id at : ℕ) (body : List ℕ) → old.stage ≡ Asked id at → MeansTo asks id body Refuses → TalkStops asks old body (Refused id)
refuses asks old id at body is means = record {
  over = λ bodies broken h. reply-at asks old.stage id at body bodies broken Refuses is h means;
  stays = λ bodies broken. refl;
  request = tt;
  settled = λ rest. tt;
  ends = refl;
}

pub breaks : (asks : Asks) (old : TalkState) (id at : ℕ) (body : List ℕ) → old.stage ≡ Asked id at → MeansTo asks id body Breaks → TalkStops asks old body (Broken at)
breaks asks old id at body is means = record {
  over = λ bodies broken h. reply-at asks old.stage id at body bodies broken Breaks is h means;
  stays = λ bodies broken. refl;
  request = tt;
  settled = λ rest. tt;
  ends = refl;
}

-- ---- the next request is due

-- where the talk goes on with it, after this line
pub record Goes (asks : Asks) (old : TalkState) (body : List ℕ) (id at : ℕ) (line : List ℕ) : Type 0 where
  pub on : (bodies : List (List ℕ)) (broken : Bool) → HasRequest asks old.stage
      → later_at old.stage (requests_of asks) (body ∷ bodies) broken ≡ talk_showing line (talk_on (drop id (requests_of asks)) id at bodies broken)
  pub awaits : awaited_place old.stage ≢ None

pub cut-goes : (asks : Asks) (old cutoff new : TalkState) (body : List ℕ) (id at : ℕ) (line : OutLine) → IsCut old cutoff body → Goes asks old body id at (text_of_line line)
    → new ≡ request_is_sent (request_at asks id) id at cutoff → ReadsNextTo asks old new (Some line)
cut-goes asks old cutoff new body id at line k g e = subst (λ s. ReadsNextTo asks old s (Some line)) (sym e) (record {
  stands = λ bytes taken shown h. stands-on asks bytes taken shown (frame_due id (request_at asks id)) (text_of_line line) old (request_is_sent (request_at asks id) id at cutoff)
      (ap (λ q. q ++ frame_due id (request_at asks id)) k.queue)
      (λ more ended. let c = cut Control (cutoff.framer.rest ++ more) in
      ap (λ d. later_by old.stage (requests_of asks) d ended) (frame-cut old.framer.rest more body cutoff.framer.rest k.front)
      ∙ g.on c.frames (broken_by c.fault ended) h.request
      ∙ ap (talk_showing (text_of_line line)) (due-first (requests_of asks) id at c.frames (broken_by c.fault ended)))
      (has-due asks id at) h;
  settled = λ z. absurd (let w : Some line ≡ None = z in cc);
  less = λ z. shorter old.framer.rest body cutoff.framer.rest k.front;
  over = λ z. absurd (g.awaits z);
})

pub hello-goes : (asks : Asks) (old : TalkState) (body : List ℕ) (at : ℕ) → old.stage ≡ Greets → is_hello body ≡ true → at ≡ place_after_frame 0 body → Goes asks old body 0 at (text_of_line Nothing)
hello-goes asks old body at greets hello place = record {
  on = λ bodies broken h. ap (λ g. later_at g (requests_of asks) (body ∷ bodies) broken) greets
      ∙ ap (λ b. on_hello b (talk_on (requests_of asks) 0 (place_after_frame 0 body) bodies broken)) hello
      ∙ ap (λ n. talk_on (requests_of asks) 0 n bodies broken) (sym place);
  awaits = λ z. let w : Some 0 ≡ None = sym (ap awaited_place greets) ∙ z in cc;
}

pub reply-goes : (asks : Asks) (old : TalkState) (body : List ℕ) (id next at behind_it : ℕ) (line : OutLine) → old.stage ≡ Asked id at → MeansTo asks id body (Grants (text_of_line line))
    → next ≡ id + 1 → behind_it ≡ place_after_frame at body → Goes asks old body next behind_it (text_of_line line)
reply-goes asks old body id next at behind_it line is means one place = record {
  on = λ bodies broken h. reply-at asks old.stage id at body bodies broken (Grants (text_of_line line)) is h means
      ∙ ap (λ n. talk_showing (text_of_line line) (talk_on (drop n (requests_of asks)) n (place_after_frame at body) bodies broken)) (sym one)
      ∙ ap (λ p. talk_showing (text_of_line line) (talk_on (drop next (requests_of asks)) next p bodies broken)) (sym place);
  awaits = λ z. let w : Some at ≡ None = sym (ap awaited_place is) ∙ z in cc;
}
