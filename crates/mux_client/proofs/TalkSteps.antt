-- A talk goes on mark by mark, or is over.
use Rattle.std.proofs.Common.{◌≡◌, ◌≢◌, ◌∙◌, refl, sym, ap, subst, ℕ, Bool, true, false, ◌||◌, List, [], ◌∷◌, ◌++◌, take, drop, Option, Some, None, ◌⊎◌, inl, inr, append_assoc}
use Rattle.std.specs.Prelude.{Result, Ok, Err, IsErrAnd}
use Rattle.std.specs.Option.{option_map}
use Rattle.std.proofs.lemmas.List.{append-nil, append_cancel_left, take-append-drop}
use Rattle.ssh_grammar.specs.declared.framing.Framing.TheVariants.{Control}
use Rattle.ssh_grammar.specs.Frames.{More, first_frame, cut}
use Rattle.ssh_grammar.proofs.Cuts.{cut-at}
use Rattle.mux_outside.specs.Marks.{bytes_taken, accepted_at_mark}
use Rattle.mux_outside.specs.declared.mark.Mark.{Mark}
use Rattle.mux_outside.specs.declared.mark.Mark.TheVariants.{Waits, Accepts, Gets, Ends, Frees, Fails, Takes, Holds, WriteFails, Joins, House}
use Rattle.mux_outside.specs.declared.shown.Shown.{Shown}
use Rattle.mux_outside.specs.declared.turn.Want.TheVariants.{Read}
use Rattle.mux_client.specs.declared.asks.Asks.{Asks}
use Rattle.mux_client.specs.declared.stage.TalkStage.{TalkStage}
use Rattle.mux_client.specs.declared.stage.TalkStage.TheVariants.{Greets, Asks as Asked, Granted, Refused, Broken}
use Rattle.mux_client.specs.declared.talked.Talked.{Talked}
use Rattle.mux_client.specs.declared.talked.Talked.TheVariants as talked
use Rattle.mux_client.specs.declared.verdict.OutLine.{OutLine}
use Rattle.mux_client.specs.Verdicts.{text_of_some}
use Rattle.mux_client.specs.Requests.{requests_of}
use Rattle.mux_client.specs.Talk.{TalkOutcome, BrokenAt, Talk, talk, talk_stops, talk_sending, talk_showing, tail_outcome}
use Rattle.mux_client.specs.Journal.{given_at, bytes_given, talk_ends_at, talk_has_ended, held_by, is_reply_held, held_streams, talk_of, TookFront, TookAll, TalkWaitsRight, WaitOpen, IsAnswerOfTalk, TalkShows, is_of_house}
use Rattle.mux_client.specs.Client.{TalkState, talk_received, without_sent, awaited_place, later_by, later, HasRequest, TalkRepresents, IsTalkSettled, IsSettledAt, talk_outcome_of, ReadsNextTo}
use Rattle.mux_client.specs.Talking.{IsGoing, IsAnswerAt, IsTalkOffered, IsJournal, Talking, IsTalk, TalksOn}
use Rattle.mux_client.proofs.JournalGrows.{given-more, taken-more, ended-more, held-more, journal-more, recorded-one}
use Rattle.mux_client.proofs.ReadFrames.{replied-none}

-- out of memory that a `?` hands on
pub want-of-memory : {A : Type 0} (r : Result A Talked) (On : A → Type 0) (Over : Talked → Type 0) → IsErrAnd r (λ e. e ≡ talked.OutOfMemory) → Over talked.OutOfMemory → TalksOn r On Over
want-of-memory (Ok x) On Over h o = absurd h
want-of-memory (Err e) On Over h o = subst Over (sym h) o

-- an answer that a `?` hands on
pub handed-on : {A : Type 0} (r : Result A Talked) (answer : Talked) (On : A → Type 0) (Over : Talked → Type 0) → IsErrAnd r (λ e. e ≡ answer) → Over answer → TalksOn r On Over
handed-on (Ok x) answer On Over h o = absurd h
handed-on (Err e) answer On Over h o = subst Over (sym h) o

-- ---- the talk that a client represents

pub talk-now : {asks : Asks} {bytes taken shown : List ℕ} {s : TalkState} (h : TalkRepresents asks bytes taken shown s) (ended : Bool)
    → talk asks bytes ended ≡ talk_sending (taken ++ s.queue) (talk_showing shown (later s asks [] ended))
talk-now {asks} {bytes} h ended = ap (λ b. talk asks b ended) (sym (append-nil bytes)) ∙ h.goes [] ended

nothing-cut : (rest : List ℕ) → first_frame Control rest ≡ More → cut Control (rest ++ []) ≡ record { frames = []; rest = rest; fault = None }
nothing-cut rest e = ap (cut Control) (append-nil rest) ∙ cut-at Control rest More e

-- nothing is to come once all frames were read
later-settled : (asks : Asks) (stage : TalkStage) (rest : List ℕ) (ended : Bool) → IsSettledAt stage rest → HasRequest asks stage → (ended ≡ true → awaited_place stage ≡ None)
    → later_by stage (requests_of asks) (cut Control (rest ++ [])) ended ≡ talk_stops (talk_outcome_of stage)
later-settled asks stage rest ended settled request over = by_stage stage settled request over
  where
    by_end : (ended : Bool) (at : ℕ) → (ended ≡ true → Some at ≡ None) → tail_outcome ended at ≡ None
    by_end true at over = absurd (let z : Some at ≡ None = over refl in cc)
    by_end false at over = refl

    by_stage : (stage : TalkStage) → IsSettledAt stage rest → HasRequest asks stage → (ended ≡ true → awaited_place stage ≡ None) → later_by stage (requests_of asks) (cut Control (rest ++ [])) ended ≡ talk_stops (talk_outcome_of stage)
    by_stage Greets e h over = ap (λ c. later_by Greets (requests_of asks) c ended) (nothing-cut rest e) ∙ ap talk_stops (by_end ended 0 over)
    by_stage (Asked id at) e h over = ap (λ c. later_by (Asked id at) (requests_of asks) c ended) (nothing-cut rest e) ∙ replied-none asks id at ended h.0 h.1 ∙ ap talk_stops (by_end ended at over)
    by_stage Granted e h over = refl
    by_stage (Refused id) e h over = refl
    by_stage (Broken at) e h over = refl

-- what was sent, what was shown and the outcome then
abbrev pub talk_at : List ℕ → List ℕ → Option TalkOutcome → Talk
talk_at sent out outcome = record { sent = sent; out = out; outcome = outcome }

stopped : (sent out : List ℕ) (outcome : Option TalkOutcome) → talk_sending sent (talk_showing out (talk_stops outcome)) ≡ talk_at sent out outcome
stopped sent out outcome = ap (λ s. talk_at s (out ++ []) outcome) (append-nil sent) ∙ ap (λ o. talk_at sent o outcome) (append-nil out)

pub settled-talk : {asks : Asks} {bytes taken shown : List ℕ} {s : TalkState} (h : TalkRepresents asks bytes taken shown s) (ended : Bool) → IsTalkSettled s → (ended ≡ true → awaited_place s.stage ≡ None)
    → talk asks bytes ended ≡ talk_at (taken ++ s.queue) shown (talk_outcome_of s.stage)
settled-talk {asks} {bytes} {taken} {shown} {s} h ended settled over =
    talk-now h ended ∙ ap (λ t. talk_sending (taken ++ s.queue) (talk_showing shown t)) (later-settled asks s.stage s.framer.rest ended settled h.request over)
    ∙ stopped (taken ++ s.queue) shown (talk_outcome_of s.stage)

-- ---- the calls of a client

pub stands-receives : {asks : Asks} {bytes taken shown : List ℕ} {s : TalkState} (piece : List ℕ) → TalkRepresents asks bytes taken shown s → TalkRepresents asks (bytes ++ piece) taken shown (talk_received piece s)
stands-receives {asks} {bytes} {taken} {shown} {s} piece h = record {
  goes = λ more ended. ap (λ b. talk asks b ended) (append_assoc bytes piece more) ∙ h.goes (piece ++ more) ended
      ∙ ap (λ r. talk_sending (taken ++ s.queue) (talk_showing shown (later_by s.stage (requests_of asks) (cut Control r) ended))) (sym (append_assoc s.framer.rest piece more));
  request = h.request;
}

pub stands-took : {asks : Asks} {bytes taken shown : List ℕ} {s : TalkState} (n : ℕ) → TalkRepresents asks bytes taken shown s → TalkRepresents asks bytes (taken ++ take n s.queue) shown (without_sent n s)
stands-took {asks} {bytes} {taken} {shown} {s} n h = record {
  goes = λ more ended. h.goes more ended
      ∙ ap (λ q. talk_sending q (talk_showing shown (later s asks more ended)))
      (ap (λ q. taken ++ q) (sym (take-append-drop n s.queue)) ∙ sym (append_assoc taken (take n s.queue) (drop n s.queue)));
  request = h.request;
}

-- ---- one mark more

-- what holds of it
pub record NextMark (asks : Asks) (marks : List Mark) (shown : List ℕ) (s : TalkState) (m : Mark) : Type 0 where
  pub right : TalkWaitsRight asks marks m
  pub opens : WaitOpen asks marks m
  pub no_house : is_of_house m ≡ false
  pub stands : TalkRepresents asks (bytes_given marks ++ given_at m) (bytes_taken 0 marks ++ accepted_at_mark 0 m) shown s

stands-there : {asks : Asks} {marks : List Mark} {shown : List ℕ} {s : TalkState} {m : Mark} → NextMark asks marks shown s m
    → TalkRepresents asks (bytes_given (marks ++ m ∷ [])) (bytes_taken 0 (marks ++ m ∷ [])) shown s
stands-there {asks} {marks} {shown} {s} {m} n =
    subst (λ b. TalkRepresents asks b (bytes_taken 0 (marks ++ m ∷ [])) shown s) (sym (given-more marks m))
    (subst (λ t. TalkRepresents asks (bytes_given marks ++ given_at m) t shown s) (sym (taken-more marks m)) n.stands)

front-of : {asks : Asks} {marks : List Mark} {shown : List ℕ} {s : TalkState} → TalkRepresents asks (bytes_given marks) (bytes_taken 0 marks) shown s → TookFront asks marks
front-of {asks} {marks} {shown} {s} h = let l = later s asks [] (talk_has_ended marks) in record {
  rest = s.queue ++ l.sent;
  whole = ap (λ (t : Talk). t.sent) (talk-now h (talk_has_ended marks)) ∙ append_assoc (bytes_taken 0 marks) s.queue l.sent;
}

journal-next : {asks : Asks} {marks : List Mark} {shown : List ℕ} {s : TalkState} {m : Mark} → IsJournal asks marks → NextMark asks marks shown s m → IsJournal asks (marks ++ m ∷ [])
journal-next {asks} {marks} {shown} {s} {m} j n = journal-more asks marks m j n.right n.opens n.no_house (front-of (stands-there n))

-- the talk goes on with it
pub talking-next : {asks : Asks} {start recorded : Option (List Mark)} {held shown : List ℕ} {s : TalkState} (v : Talking asks start recorded held shown s) (held' shown' : List ℕ) (s' : TalkState) (m : Mark)
    → NextMark asks v.marks shown' s' m → ((talk_has_ended v.marks || talk_ends_at m) ≡ true → awaited_place s'.stage ≡ None) → held' ≡ held_streams (held_by (is_reply_held v.marks) m)
    → Talking asks start (option_map (λ l. l ++ m ∷ []) recorded) held' shown' s'
talking-next {asks} {start} {recorded} v held' shown' s' m n ended held = record {
  marks = v.marks ++ m ∷ [];
  records = recorded-one start recorded v.marks m v.records;
  journal = journal-next v.journal n;
  stands = stands-there n;
  ended = λ e. ended (sym (ended-more v.marks m) ∙ e);
  held_is = held ∙ ap held_streams (sym (held-more v.marks m));
}

-- a mark that is no wait and of which the client receives nothing
abbrev IsOther : Mark → Type 0
IsOther (Waits waiting want streams shown) = ⊥
IsOther (Accepts k) = Unit {0}
IsOther (Gets k bytes) = Unit {0}
IsOther (Ends k) = Unit {0}
IsOther (Frees k) = Unit {0}
IsOther (Fails k) = Unit {0}
IsOther (Takes k bytes accepts) = Unit {0}
IsOther (Holds k) = Unit {0}
IsOther (WriteFails k) = Unit {0}
IsOther (Joins l t) = Unit {0}
IsOther (House mark) = ⊥

right-other : (asks : Asks) (marks : List Mark) (m : Mark) → IsOther m → TalkWaitsRight asks marks m
right-other asks marks (Waits waiting want streams shown) o = absurd o
right-other asks marks (Accepts k) o = tt
right-other asks marks m o = tt

open-other : (asks : Asks) (marks : List Mark) (m : Mark) → IsOther m → WaitOpen asks marks m
open-other asks marks (Waits waiting want streams shown) o = absurd o
open-other asks marks (Accepts k) o = tt
open-other asks marks m o = tt

alone-other : (m : Mark) → IsOther m → is_of_house m ≡ false
alone-other (House mark) o = absurd o
alone-other (Waits waiting want streams shown) o = absurd o
alone-other m o = refl

pub next-other : {asks : Asks} {marks : List Mark} {shown : List ℕ} {s : TalkState} (m : Mark) → IsOther m → TalkRepresents asks (bytes_given marks ++ given_at m) (bytes_taken 0 marks ++ accepted_at_mark 0 m) shown s → NextMark asks marks shown s m
next-other {asks} {marks} m o h = record { right = right-other asks marks m o; opens = open-other asks marks m o; no_house = alone-other m o; stands = h }

-- nothing came, and nothing was accepted
pub same-stands : {asks : Asks} {bytes taken shown : List ℕ} {s : TalkState} → TalkRepresents asks bytes taken shown s → TalkRepresents asks (bytes ++ []) (taken ++ []) shown s
same-stands {asks} {bytes} {taken} {shown} {s} h =
    subst (λ b. TalkRepresents asks b (taken ++ []) shown s) (sym (append-nil bytes)) (subst (λ t. TalkRepresents asks bytes t shown s) (sym (append-nil taken)) h)

or-none : {P : Type 0} (b : Bool) → (b ≡ true → P) → (b || false) ≡ true → P
or-none true f e = f refl
or-none false f e = absurd (let z : false ≡ true = e in cc)

-- ---- a write

pub talk-takes : {asks : Asks} {start recorded : Option (List Mark)} {held shown : List ℕ} {s : TalkState} (n : ℕ) (accepts : Bool) → Talking asks start recorded held shown s
    → Talking asks start (option_map (λ l. l ++ Takes 0 (take n s.queue) accepts ∷ []) recorded) held shown (without_sent n s)
talk-takes {asks = asks} {held = held} {shown = shown} {s = s} n accepts v = talking-next v held shown (without_sent n s) (Takes 0 (take n s.queue) accepts)
    (next-other (Takes 0 (take n s.queue) accepts) tt (subst (λ b. TalkRepresents asks b (bytes_taken 0 v.marks ++ take n s.queue) shown (without_sent n s)) (sym (append-nil (bytes_given v.marks))) (stands-took n v.stands)))
    (or-none (talk_has_ended v.marks) v.ended) v.held_is

pub talk-holds : {asks : Asks} {start recorded : Option (List Mark)} {held shown : List ℕ} {s : TalkState} → Talking asks start recorded held shown s
    → Talking asks start (option_map (λ l. l ++ Holds 0 ∷ []) recorded) (0 ∷ []) shown s
talk-holds {shown = shown} {s = s} v = talking-next v (0 ∷ []) shown s (Holds 0) (next-other (Holds 0) tt (same-stands v.stands)) (or-none (talk_has_ended v.marks) v.ended) refl

-- ---- it is over

-- if memory runs out, whatever was shown of what was due
pub talk-starved : {asks : Asks} {start recorded : Option (List Mark)} {held shown : List ℕ} {s : TalkState} → Talking asks start recorded held shown s → (more rest : List ℕ) → shown ≡ more ++ rest
    → IsTalk asks talked.OutOfMemory start recorded more shown
talk-starved {asks} {shown = shown} {s = s} v more rest e = let l = later s asks [] (talk_has_ended v.marks) in
    let out : (talk_of asks v.marks).out ≡ shown ++ l.out = ap (λ (t : Talk). t.out) (talk-now v.stands (talk_has_ended v.marks)) in record {
      marks = v.marks;
      records = v.records;
      journal = v.journal;
      answers = tt;
      shows = record { rest = rest ++ l.out; whole = out ∙ ap (λ b. b ++ l.out) e ∙ append_assoc more rest l.out };
      due_front = record { rest = l.out; whole = out };
      fault = λ z. absurd (let w : talked.OutOfMemory ≡ talked.WriteFault = z in cc);
      offered = λ z. absurd (let w : talked.OutOfMemory ≡ talked.Spent = z in cc);
    }

-- for a fault of the sink
pub talk-faulted : {asks : Asks} {start recorded : Option (List Mark)} {held shown : List ℕ} {s : TalkState} → Talking asks start recorded held shown s → (more rest : List ℕ) → shown ≡ more ++ rest → shown ≢ []
    → IsTalk asks talked.WriteFault start recorded more shown
talk-faulted {asks} {shown = shown} {s = s} v more rest e some = let l = later s asks [] (talk_has_ended v.marks) in
    let out : (talk_of asks v.marks).out ≡ shown ++ l.out = ap (λ (t : Talk). t.out) (talk-now v.stands (talk_has_ended v.marks)) in record {
      marks = v.marks;
      records = v.records;
      journal = v.journal;
      answers = tt;
      shows = record { rest = rest ++ l.out; whole = out ∙ ap (λ b. b ++ l.out) e ∙ append_assoc more rest l.out };
      due_front = record { rest = l.out; whole = out };
      fault = λ z. some;
      offered = λ z. absurd (let w : talked.WriteFault ≡ talked.Spent = z in cc);
    }

-- for a fault of the stream
pub talk-failed : {asks : Asks} {start recorded : Option (List Mark)} {held shown : List ℕ} {s : TalkState} → Talking asks start recorded held shown s → IsTalkSettled s → IsTalk asks talked.ServerFailed start recorded shown shown
talk-failed {asks} {shown = shown} {s = s} v settled =
    let out : (talk_of asks v.marks).out ≡ shown = ap (λ (t : Talk). t.out) (settled-talk v.stands (talk_has_ended v.marks) settled v.ended) in record {
      marks = v.marks;
      records = v.records;
      journal = v.journal;
      answers = tt;
      shows = sym out;
      due_front = record { rest = []; whole = out ∙ sym (append-nil shown) };
      fault = λ z. absurd (let w : talked.ServerFailed ≡ talked.WriteFault = z in cc);
      offered = λ z. absurd (let w : talked.ServerFailed ≡ talked.Spent = z in cc);
    }

-- by what the master sent
answers-at : (asks : Asks) (marks : List Mark) (answer : Talked) (queue shown : List ℕ) (stage : TalkStage) → talk_of asks marks ≡ talk_at (bytes_taken 0 marks ++ queue) shown (talk_outcome_of stage) → IsAnswerAt answer stage queue
    → IsAnswerOfTalk answer asks marks × (TalkShows answer shown (talk_of asks marks).out) × (answer ≢ talked.WriteFault) × (answer ≢ talked.Spent)
answers-at asks marks talked.Done queue shown stage t a =
    ((ap (λ (k : Talk). k.outcome) t ∙ ap talk_outcome_of a.0, sym (ap (λ (k : Talk). k.sent) t ∙ ap (λ q. bytes_taken 0 marks ++ q) a.1 ∙ append-nil (bytes_taken 0 marks))), sym (ap (λ (k : Talk). k.out) t), (λ z. cc), (λ z. cc))
answers-at asks marks (talked.Refused id) queue shown stage t a = (ap (λ (k : Talk). k.outcome) t ∙ ap talk_outcome_of a, sym (ap (λ (k : Talk). k.out) t), (λ z. cc), (λ z. cc))
answers-at asks marks (talked.BadMaster at) queue shown stage t a = (ap (λ (k : Talk). k.outcome) t ∙ ap talk_outcome_of a, sym (ap (λ (k : Talk). k.out) t), (λ z. cc), (λ z. cc))
answers-at asks marks talked.WriteFault queue shown stage t a = absurd a
answers-at asks marks talked.ServerFailed queue shown stage t a = absurd a
answers-at asks marks talked.Spent queue shown stage t a = absurd a
answers-at asks marks talked.OutOfMemory queue shown stage t a = absurd a

pub talk-decided : {asks : Asks} {start recorded : Option (List Mark)} {held shown : List ℕ} {s : TalkState} → Talking asks start recorded held shown s → IsTalkSettled s → (answer : Talked) → IsAnswerAt answer s.stage s.queue
    → IsTalk asks answer start recorded shown shown
talk-decided {asks} {shown = shown} {s = s} v settled answer a =
    let t : talk_of asks v.marks ≡ talk_at (bytes_taken 0 v.marks ++ s.queue) shown (talk_outcome_of s.stage) = settled-talk v.stands (talk_has_ended v.marks) settled v.ended in
    let k = answers-at asks v.marks answer s.queue shown s.stage t a in record {
      marks = v.marks;
      records = v.records;
      journal = v.journal;
      answers = k.0;
      shows = k.1;
      due_front = record { rest = []; whole = ap (λ (x : Talk). x.out) t ∙ sym (append-nil shown) };
      fault = λ z. absurd (k.2 z);
      offered = λ z. absurd (k.3 z);
    }

-- with all turns given
open-at : (asks : Asks) (marks : List Mark) (queue shown : List ℕ) (stage : TalkStage) → talk_of asks marks ≡ talk_at (bytes_taken 0 marks ++ queue) shown (talk_outcome_of stage) → IsGoing stage queue → IsAnswerOfTalk talked.Spent asks marks
open-at asks marks queue shown Greets t g = inl (ap (λ (k : Talk). k.outcome) t)
open-at asks marks queue shown (Asked id at) t g = inl (ap (λ (k : Talk). k.outcome) t)
open-at asks marks queue shown Granted t g =
    inr (ap (λ (k : Talk). k.outcome) t, λ all. g (append_cancel_left (bytes_taken 0 marks) queue [] (sym (all ∙ ap (λ (k : Talk). k.sent) t) ∙ sym (append-nil (bytes_taken 0 marks)))))
open-at asks marks queue shown (Refused id) t g = absurd g
open-at asks marks queue shown (Broken at) t g = absurd g

pub talk-open : {asks : Asks} {start recorded : Option (List Mark)} {held shown : List ℕ} {s : TalkState} (v : Talking asks start recorded held shown s) → IsTalkSettled s → IsGoing s.stage s.queue → IsAnswerOfTalk talked.Spent asks v.marks
talk-open {asks} {shown = shown} {s = s} v settled going = open-at asks v.marks s.queue shown s.stage (settled-talk v.stands (talk_has_ended v.marks) settled v.ended) going

held-true : (b : Bool) → held_streams b ≡ 0 ∷ [] → b ≡ true
held-true true e = refl
held-true false e = absurd (let z : [] ≡ 0 ∷ [] = e in cc)

-- what was offered was accepted, or stream 0 is blocked
talk-offered : {asks : Asks} {start recorded : Option (List Mark)} {held shown : List ℕ} {s : TalkState} (v : Talking asks start recorded held shown s) → IsTalkSettled s → IsTalkOffered held s → TookAll asks v.marks ⊎ (is_reply_held v.marks ≡ true)
talk-offered v settled (inl none) =
    inl (sym (ap (λ (k : Talk). k.sent) (settled-talk v.stands (talk_has_ended v.marks) settled v.ended) ∙ ap (λ q. bytes_taken 0 v.marks ++ q) none ∙ append-nil (bytes_taken 0 v.marks)))
talk-offered v settled (inr blocked) = inr (held-true (is_reply_held v.marks) (sym v.held_is ∙ blocked))

pub talk-spent : {asks : Asks} {start recorded : Option (List Mark)} {held shown : List ℕ} {s : TalkState} (v : Talking asks start recorded held shown s) → IsTalkSettled s → IsGoing s.stage s.queue → (v.marks ≢ [] → IsTalkOffered held s)
    → IsTalk asks talked.Spent start recorded shown shown
talk-spent {asks} {shown = shown} {s = s} v settled going offered =
    let t : talk_of asks v.marks ≡ talk_at (bytes_taken 0 v.marks ++ s.queue) shown (talk_outcome_of s.stage) = settled-talk v.stands (talk_has_ended v.marks) settled v.ended in record {
      marks = v.marks;
      records = v.records;
      journal = v.journal;
      answers = talk-open v settled going;
      shows = sym (ap (λ (x : Talk). x.out) t);
      due_front = record { rest = []; whole = ap (λ (x : Talk). x.out) t ∙ sym (append-nil shown) };
      fault = λ z. absurd (let w : talked.Spent ≡ talked.WriteFault = z in cc);
      offered = λ z some. talk-offered v settled (offered some);
    }

pub talk-write-fails : {asks : Asks} {start recorded : Option (List Mark)} {held shown : List ℕ} {s : TalkState} → Talking asks start recorded held shown s → IsTalkSettled s
    → IsTalk asks talked.ServerFailed start (option_map (λ l. l ++ WriteFails 0 ∷ []) recorded) shown shown
talk-write-fails {held = held} {shown = shown} {s = s} v settled =
    talk-failed (talking-next v held shown s (WriteFails 0) (next-other (WriteFails 0) tt (same-stands v.stands)) (or-none (talk_has_ended v.marks) v.ended) v.held_is) settled

-- ---- a turn

-- what it waits for
pub talk-waits : {asks : Asks} {start recorded : Option (List Mark)} {held shown : List ℕ} {s : TalkState} → Talking asks start recorded held shown s → IsTalkSettled s → IsTalkOffered held s → IsGoing s.stage s.queue
    → (streams : List ℕ) (of_wire : Shown) → Talking asks start (option_map (λ l. l ++ Waits held Read streams of_wire ∷ []) recorded) held shown s
talk-waits {asks} {held = held} {shown = shown} {s = s} v settled offered going streams of_wire =
    talking-next v held shown s (Waits held Read streams of_wire) (record {
      right = talk-offered v settled offered;
      opens = record { opens = talk-open v settled going; reads = refl; waits_for = v.held_is };
      no_house = refl;
      stands = same-stands v.stands;
    }) (or-none (talk_has_ended v.marks) v.ended) v.held_is

pub talk-gets : {asks : Asks} {start recorded : Option (List Mark)} {held shown : List ℕ} {s : TalkState} → Talking asks start recorded held shown s → (bytes : List ℕ)
    → Talking asks start (option_map (λ l. l ++ Gets 0 bytes ∷ []) recorded) held shown (talk_received bytes s)
talk-gets {asks = asks} {held = held} {shown = shown} {s = s} v bytes = talking-next v held shown (talk_received bytes s) (Gets 0 bytes)
    (next-other (Gets 0 bytes) tt (subst (λ t. TalkRepresents asks (bytes_given v.marks ++ bytes) t shown (talk_received bytes s)) (sym (append-nil (bytes_taken 0 v.marks))) (stands-receives bytes v.stands)))
    (or-none (talk_has_ended v.marks) v.ended) v.held_is

pub talk-frees : {asks : Asks} {start recorded : Option (List Mark)} {held shown : List ℕ} {s : TalkState} → Talking asks start recorded held shown s
    → Talking asks start (option_map (λ l. l ++ Frees 0 ∷ []) recorded) [] shown s
talk-frees {shown = shown} {s = s} v = talking-next v [] shown s (Frees 0) (next-other (Frees 0) tt (same-stands v.stands)) (or-none (talk_has_ended v.marks) v.ended) refl

pub talk-fails : {asks : Asks} {start recorded : Option (List Mark)} {held shown : List ℕ} {s : TalkState} → Talking asks start recorded held shown s → IsTalkSettled s
    → IsTalk asks talked.ServerFailed start (option_map (λ l. l ++ Fails 0 ∷ []) recorded) shown shown
talk-fails {held = held} {shown = shown} {s = s} v settled =
    talk-failed (talking-next v held shown s (Fails 0) (next-other (Fails 0) tt (same-stands v.stands)) (or-none (talk_has_ended v.marks) v.ended) v.held_is) settled

-- the master's bytes end, and the last reply came before
pub talk-ends : {asks : Asks} {start recorded : Option (List Mark)} {held shown : List ℕ} {s : TalkState} → Talking asks start recorded held shown s → awaited_place s.stage ≡ None
    → Talking asks start (option_map (λ l. l ++ Ends 0 ∷ []) recorded) held shown s
talk-ends {held = held} {shown = shown} {s = s} v none = talking-next v held shown s (Ends 0) (next-other (Ends 0) tt (same-stands v.stands)) (λ e. none) v.held_is

or-true : (b : Bool) → (b || true) ≡ true
or-true true = refl
or-true false = refl

later-broken : (asks : Asks) (stage : TalkStage) (rest : List ℕ) (at : ℕ) → IsSettledAt stage rest → HasRequest asks stage → awaited_place stage ≡ Some at
    → later_by stage (requests_of asks) (cut Control (rest ++ [])) true ≡ talk_stops (Some (BrokenAt at))
later-broken asks stage rest at settled request place = by_stage stage settled request place
  where
    by_stage : (stage : TalkStage) → IsSettledAt stage rest → HasRequest asks stage → awaited_place stage ≡ Some at → later_by stage (requests_of asks) (cut Control (rest ++ [])) true ≡ talk_stops (Some (BrokenAt at))
    by_stage Greets e h p = ap (λ c. later_by Greets (requests_of asks) c true) (nothing-cut rest e) ∙ ap (λ n. talk_stops (Some (BrokenAt n))) (let z : Some 0 ≡ Some at = p in cc)
    by_stage (Asked id n) e h p = ap (λ c. later_by (Asked id n) (requests_of asks) c true) (nothing-cut rest e) ∙ replied-none asks id n true h.0 h.1 ∙ ap (λ m. talk_stops (Some (BrokenAt m))) (let z : Some n ≡ Some at = p in cc)
    by_stage Granted e h p = absurd (let z : None ≡ Some at = p in cc)
    by_stage (Refused id) e h p = absurd (let z : None ≡ Some at = p in cc)
    by_stage (Broken n) e h p = absurd (let z : None ≡ Some at = p in cc)

-- they end before it
pub talk-breaks-off : {asks : Asks} {start recorded : Option (List Mark)} {held shown : List ℕ} {s : TalkState} → Talking asks start recorded held shown s → IsTalkSettled s → (at : ℕ) → awaited_place s.stage ≡ Some at
    → IsTalk asks (talked.BadMaster at) start (option_map (λ l. l ++ Ends 0 ∷ []) recorded) shown shown
talk-breaks-off {asks} {start} {recorded} {shown = shown} {s = s} v settled at place =
    let m : Mark = Ends 0 in
    let n : NextMark asks v.marks shown s m = next-other m tt (same-stands v.stands) in
    let stands = stands-there n in
    let over : talk_has_ended (v.marks ++ m ∷ []) ≡ true = ended-more v.marks m ∙ or-true (talk_has_ended v.marks) in
    let t : talk_of asks (v.marks ++ m ∷ []) ≡ talk_at (bytes_taken 0 (v.marks ++ m ∷ []) ++ s.queue) shown (Some (BrokenAt at)) =
    ap (talk asks (bytes_given (v.marks ++ m ∷ []))) over ∙ talk-now stands true
    ∙ ap (λ k. talk_sending (bytes_taken 0 (v.marks ++ m ∷ []) ++ s.queue) (talk_showing shown k)) (later-broken asks s.stage s.framer.rest at settled v.stands.request place)
    ∙ stopped (bytes_taken 0 (v.marks ++ m ∷ []) ++ s.queue) shown (Some (BrokenAt at)) in record {
      marks = v.marks ++ m ∷ [];
      records = recorded-one start recorded v.marks m v.records;
      journal = journal-next v.journal n;
      answers = ap (λ (x : Talk). x.outcome) t;
      shows = sym (ap (λ (x : Talk). x.out) t);
      due_front = record { rest = []; whole = ap (λ (x : Talk). x.out) t ∙ sym (append-nil shown) };
      fault = λ z. absurd (let w : talked.BadMaster at ≡ talked.WriteFault = z in cc);
      offered = λ z. absurd (let w : talked.BadMaster at ≡ talked.Spent = z in cc);
    }

-- ---- a frame is read

pub talk-reads : {asks : Asks} {start recorded : Option (List Mark)} {held shown : List ℕ} {s s' : TalkState} {line : Option OutLine} → Talking asks start recorded held shown s → ReadsNextTo asks s s' line
    → Talking asks start recorded held (shown ++ text_of_some line) s'
talk-reads v r = record {
  marks = v.marks;
  records = v.records;
  journal = v.journal;
  stands = r.stands _ _ _ v.stands;
  ended = λ e. r.over (v.ended e);
  held_is = v.held_is;
}
