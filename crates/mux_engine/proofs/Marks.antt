-- One mark more: what holds while a wire is served goes on with it.
use Rattle.std.proofs.Common.{◌≡◌, ◌≢◌, ◌≤◌, ◌<◌, ℕ, true, false, List, [], ◌∷◌, ◌++◌, length, Option, Some, None, refl, sym, ap, ◌∙◌, subst, append_assoc, append-nil}
use Rattle.std.specs.Prelude.{All, IsTrue, is_some}
use Rattle.std.specs.Option.{option_map}
use Rattle.std.proofs.lemmas.List.Elements.{All-cons, filter-append}
use Rattle.mux_outside.specs.House.{OpenAsk}
use Rattle.mux_outside.specs.OwnStreams.{is_own}
use Rattle.mux_outside.specs.Seen.{Seen}
use Rattle.mux_outside.specs.Streams.{among}
use Rattle.mux_outside.specs.declared.house.HouseReply.{HouseReply}
use Rattle.mux_outside.specs.declared.house_mark.HouseMark.{HouseMark}
use Rattle.mux_outside.specs.declared.house_mark.HouseMark.TheVariants.{HouseIn, HouseSaid, HouseTook, HouseAsked, HouseAnswer, HouseOrder}
use Rattle.mux_outside.specs.declared.mark.Mark.{Mark}
use Rattle.mux_outside.specs.declared.mark.Mark.TheVariants.{Waits, Accepts, Gets, Ends, Frees, Fails, Takes, Holds, WriteFails, Joins, House}
use Rattle.mux_outside.specs.declared.own_streams.TheConstants.{LAST_CLIENT}
use Rattle.mux_history.specs.declared.limits.TheConstants.{HOUSE}
use Rattle.mux_history.specs.Policy.{Policy}
use Rattle.mux_history.specs.declared.ended.Ended.{Ended}
use Rattle.mux_history.specs.Rows.{Row, rows_of, is_out}
use Rattle.mux_history.specs.Solo.{run_end_of}
use Rattle.mux_history.specs.Log.{Setting}
use Rattle.mux_history.specs.Settings.{by_lists}
use Rattle.mux_history.specs.Journal.{is_accepted, is_blocked, is_own_stream, log_of_journal}
use Rattle.mux_history.specs.Promises.{IsSettled, MayGive, OpenAt, SpeaksInTime, TakesFront, WaitsAt, has_failed, not_own, turns_in, write_failed}
use Rattle.mux_history.specs.Wires.{OfWire}
use Rattle.mux_peers.specs.Asked.{asks_of_rows, RecordsAsks}
use Rattle.mux_state.specs.State.{EngineState}
use Rattle.mux_state.specs.Events.{here}
use Rattle.mux_state.specs.Stands.{GoesBy, RepresentsSoFar, EngineRepresents, log}
use Rattle.mux_outside.specs.HouseCalls.{calls_of}
use Rattle.mux_engine.specs.AfterEnd.{AfterEnd, NoneEnded}
use Rattle.mux_engine.specs.Answers.{AnswersOpen, opens_after}
use Rattle.mux_engine.specs.Called.{calls_at, calls_in}
use Rattle.mux_engine.specs.Run.{KeepsMarks, Rested, RestedAt, is_by_house}
use Rattle.mux_engine.specs.Serving.{IsFreeForOwn, IsRunSound, IsUnseen, IsUnused, Serving}
use Rattle.mux_engine.specs.SilentAnswers.{AcceptsAs, AnswersInSilence, MayLetIn}
use Rattle.mux_engine.specs.Sides.{Resting, Side, ask_marks_in, house_mark, house_marks}
use Rattle.mux_state.proofs.Over.{some-end}
use Rattle.mux_engine.proofs.Called.{CallsOn}
use Rattle.mux_engine.proofs.Lists.{true-false}
use Rattle.mux_engine.proofs.Logs.{log-listens, log-live, lost-listens}
use Rattle.mux_engine.proofs.Opens.{opens-append}
use Rattle.mux_engine.proofs.Owns.{Owns, keeps-more}
use Rattle.mux_engine.proofs.Recorded.{may-more, records-more, records-then}

-- ---- what stood before, with the numbers and replies of now

pub log-is : (s : EngineState) (policy : Policy) (pid : ℕ) (picks : List ℕ) (replies : List HouseReply) (marks : List Mark) → s.core.policy ≡ policy → s.pid ≡ pid → log s picks replies marks ≡ log_of_journal (by_lists policy pid picks replies) marks
log-is s policy pid picks replies marks e f = ap (λ x. log_of_journal (by_lists x s.pid picks replies) marks) e ∙ ap (λ x. log_of_journal (by_lists policy x picks replies) marks) f

-- an engine that goes on has the same rows
pub log-same : (s s' : EngineState) (picks : List ℕ) (replies : List HouseReply) (marks : List Mark) → s'.core.policy ≡ s.core.policy → s'.pid ≡ s.pid → log s' picks replies marks ≡ log s picks replies marks
log-same s s' picks replies marks e f = log-is s' s.core.policy s.pid picks replies marks e f

more-picks : {A : Type 0} (xs' xs more later : List A) → xs' ≡ xs ++ more → xs' ++ later ≡ xs ++ (more ++ later)
more-picks xs' xs more later e = ap (λ l. l ++ later) e ∙ append_assoc xs more later

pub stood-at : {picked : List ℕ} {replies : List HouseReply} {s : EngineState} {marks : List Mark} {closed : List ℕ} (st : RepresentsSoFar picked replies s marks closed) (p : List ℕ) (r : List HouseReply) (picked' : List ℕ) (replies' : List HouseReply) → picked' ≡ picked ++ p → replies' ≡ replies ++ r
    → (picks : List ℕ) (later : List HouseReply) → EngineRepresents (picked' ++ picks) (replies' ++ later) (length picked) st.asks s marks closed
stood-at {picked} {replies} {s} {marks} {closed} st p r picked' replies' e f picks later =
    subst (λ ps. EngineRepresents ps (replies' ++ later) (length picked) st.asks s marks closed) (sym (more-picks picked' picked p picks e))
    (subst (λ rs. EngineRepresents (picked ++ (p ++ picks)) rs (length picked) st.asks s marks closed) (sym (more-picks replies' replies r later f)) (st.at (p ++ picks) (r ++ later)))

pub sound-at : {May : HouseReply → Type 0} {Rest : Resting} {before : Option (List HouseMark)} {now : Side} {policy : Policy} {pid : ℕ} {start : Option (List Mark)} {seen : Seen} {held failed : List ℕ} {given : ℕ} {todo : List ℕ} {s : EngineState} (v : Serving May Rest before now policy pid start seen held failed given todo s) (p : List ℕ) (r : List HouseReply) (picked' : List ℕ) (replies' : List HouseReply)
    → picked' ≡ v.picked ++ p → replies' ≡ v.replies ++ r → (picks : List ℕ) (later : List HouseReply) → IsRunSound (by_lists policy pid (picked' ++ picks) (replies' ++ later)) v.journal todo s
sound-at {policy = policy} {pid = pid} {todo = todo} {s = s} v p r picked' replies' e f picks later =
    subst (λ ps. IsRunSound (by_lists policy pid ps (replies' ++ later)) v.journal todo s) (sym (more-picks picked' v.picked p picks e))
    (subst (λ rs. IsRunSound (by_lists policy pid (v.picked ++ (p ++ picks)) rs) v.journal todo s) (sym (more-picks replies' v.replies r later f)) (v.sound (p ++ picks) (r ++ later)))

pub called-at : {May : HouseReply → Type 0} {Rest : Resting} {before : Option (List HouseMark)} {now : Side} {policy : Policy} {pid : ℕ} {start : Option (List Mark)} {seen : Seen} {held failed : List ℕ} {given : ℕ} {todo : List ℕ} {s : EngineState} (v : Serving May Rest before now policy pid start seen held failed given todo s) (p : List ℕ) (r : List HouseReply) (picked' : List ℕ) (replies' : List HouseReply)
    → picked' ≡ v.picked ++ p → replies' ≡ v.replies ++ r → (picks : List ℕ) (later : List HouseReply) → calls_in (by_lists policy pid (picked' ++ picks) (replies' ++ later)) v.journal ++ calls_of now.unnoted ≡ now.calls
called-at {now = now} {policy = policy} {pid = pid} v p r picked' replies' e f picks later =
    subst (λ ps. calls_in (by_lists policy pid ps (replies' ++ later)) v.journal ++ calls_of now.unnoted ≡ now.calls) (sym (more-picks picked' v.picked p picks e))
    (subst (λ rs. calls_in (by_lists policy pid (v.picked ++ (p ++ picks)) rs) v.journal ++ calls_of now.unnoted ≡ now.calls) (sym (more-picks replies' v.replies r later f)) (v.called (p ++ picks) (r ++ later)))

pub rested-at : {May : HouseReply → Type 0} {Rest : Resting} {before : Option (List HouseMark)} {now : Side} {policy : Policy} {pid : ℕ} {start : Option (List Mark)} {seen : Seen} {held failed : List ℕ} {given : ℕ} {todo : List ℕ} {s : EngineState} (v : Serving May Rest before now policy pid start seen held failed given todo s) (p : List ℕ) (r : List HouseReply) (picked' : List ℕ) (replies' : List HouseReply)
    → picked' ≡ v.picked ++ p → replies' ≡ v.replies ++ r → (picks : List ℕ) (later : List HouseReply) → Rested Rest.rests (by_lists policy pid (picked' ++ picks) (replies' ++ later)) before v.journal
rested-at {Rest = Rest} {before = before} {policy = policy} {pid = pid} v p r picked' replies' e f picks later =
    subst (λ ps. Rested Rest.rests (by_lists policy pid ps (replies' ++ later)) before v.journal) (sym (more-picks picked' v.picked p picks e))
    (subst (λ rs. Rested Rest.rests (by_lists policy pid (v.picked ++ (p ++ picks)) rs) before v.journal) (sym (more-picks replies' v.replies r later f)) (v.rested (p ++ picks) (r ++ later)))

-- what the rows so far ask
pub asked-at : {May : HouseReply → Type 0} {Rest : Resting} {before : Option (List HouseMark)} {now : Side} {policy : Policy} {pid : ℕ} {start : Option (List Mark)} {seen : Seen} {held failed : List ℕ} {given : ℕ} {todo : List ℕ} {s : EngineState} (v : Serving May Rest before now policy pid start seen held failed given todo s) (p : List ℕ) (r : List HouseReply) (picked' : List ℕ) (replies' : List HouseReply)
    → picked' ≡ v.picked ++ p → replies' ≡ v.replies ++ r → (picks : List ℕ) (later : List HouseReply) → asks_of_rows (log_of_journal (by_lists policy pid (picked' ++ picks) (replies' ++ later)) v.journal) ≡ v.stands.asks
asked-at {policy = policy} {pid = pid} {s = s} v p r picked' replies' e f picks later =
    ap asks_of_rows (sym (log-is s policy pid (picked' ++ picks) (replies' ++ later) v.journal v.policy_is v.pid_is)) ∙ (stood-at v.stands p r picked' replies' e f picks later).rows.asked_is

-- while the engine goes on no row has ended the run
pub rows-go-on : {May : HouseReply → Type 0} {Rest : Resting} {before : Option (List HouseMark)} {now : Side} {policy : Policy} {pid : ℕ} {start : Option (List Mark)} {seen : Seen} {held failed : List ℕ} {given : ℕ} {todo : List ℕ} {s : EngineState} (v : Serving May Rest before now policy pid start seen held failed given todo s)
    → s.ended ≡ None → (picks : List ℕ) (later : List HouseReply) → NoneEnded (by_lists policy pid (v.picked ++ picks) (v.replies ++ later)) v.journal
rows-go-on {policy = policy} {pid = pid} {s = s} v live picks later =
    let ps : List ℕ = v.picked ++ picks in
    let rs : List HouseReply = v.replies ++ later in
    sym (some-end (log_of_journal (by_lists policy pid ps rs) v.journal)) ∙ ap is_some (ap run_end_of (sym (log-is s policy pid ps rs v.journal v.policy_is v.pid_is)) ∙ (sym (v.stands.at picks later).rows.ended_is ∙ live))

-- where the wire accepts clients only as the engine does, they may be accepted then
pub may-let-in : {May : HouseReply → Type 0} {Rest : Resting} {before : Option (List HouseMark)} {now : Side} {policy : Policy} {pid : ℕ} {start : Option (List Mark)} {seen : Seen} {held failed : List ℕ} {given : ℕ} {todo : List ℕ} {s : EngineState} (v : Serving May Rest before now policy pid start seen held failed given todo s)
    → AcceptsAs seen s → seen.listens ≡ true → (picks : List ℕ) (later : List HouseReply) → MayLetIn (log_of_journal (by_lists policy pid (v.picked ++ picks) (v.replies ++ later)) v.journal)
may-let-in {policy = policy} {pid = pid} {s = s} v accepts l picks later = record {
  goes_on = rows-go-on v (accepts l).0 picks later;
  listening = ap Rattle.mux_history.specs.Promises.is_still_accepting (sym (log-is s policy pid (v.picked ++ picks) (v.replies ++ later) v.journal v.policy_is v.pid_is)) ∙ (sym (v.stands.at picks later).rows.listening_is ∙ (accepts l).1);
}

-- clients are accepted as before where the engine goes on as before
pub accepts-then : (seen seen' : Seen) (s s' : EngineState) → AcceptsAs seen s → (seen'.listens ≡ true → seen.listens ≡ true) → s'.ended ≡ s.ended → s'.listening ≡ s.listening → AcceptsAs seen' s'
accepts-then seen seen' s s' accepts silence ended listening l = let a = accepts (silence l) in (ended ∙ a.0, listening ∙ a.1)

-- then any mark may come
pub after-live : (set : Setting) (journal : List Mark) (mark : Mark) → NoneEnded set journal → AfterEnd set journal mark
after-live set journal (House (HouseOrder order number)) on = on
after-live set journal (House (HouseSaid bytes)) on = on
after-live set journal (House (HouseAnswer client id reply)) on = on
after-live set journal (House HouseIn) on = tt
after-live set journal (House (HouseTook size)) on = tt
after-live set journal (House (HouseAsked client id opening ask reply)) on = tt
after-live set journal (Waits waiting want streams shown) on = tt
after-live set journal (Accepts k) on = tt
after-live set journal (Gets k bytes) on = tt
after-live set journal (Ends k) on = tt
after-live set journal (Frees k) on = tt
after-live set journal (Fails k) on = tt
after-live set journal (Takes k bytes accepts) on = tt
after-live set journal (Holds k) on = tt
after-live set journal (WriteFails k) on = tt
after-live set journal (Joins l k) on = tt

-- ---- what is to be shown of a mark

-- what was promised of it
pub record PromiseAt (setting : Setting) (before : List Mark) (mark : Mark) : Type 0 where
  pub takes : TakesFront setting before mark
  pub waits : WaitsAt setting before mark
  pub speaks : SpeaksInTime setting before mark
  pub open_streams : OpenAt setting before mark
  pub answers : AnswersOpen setting before mark
  pub after_end : AfterEnd setting before mark
  pub silence : AnswersInSilence setting before mark

pub kept-more : (setting : Setting) (journal : List Mark) (mark : Mark) → KeepsMarks setting journal → PromiseAt setting journal mark → KeepsMarks setting (mark ∷ journal)
kept-more setting journal mark k p = record {
  written = record { takes = (p.takes, k.written.takes); waits = (p.waits, k.written.waits); speaks = (p.speaks, k.written.speaks) };
  open_streams = (p.open_streams, k.open_streams);
  answered = (p.answers, k.answered);
  after_end = (p.after_end, k.after_end);
  silence = (p.silence, k.silence);
}

-- and who is out and settled after it
pub record SoundAt (setting : Setting) (journal : List Mark) (mark : Mark) (todo : List ℕ) (s : EngineState) : Type 0 where
  pub promise : PromiseAt setting journal mark
  pub failed_out : (t : ℕ) → is_own_stream t ≡ false → write_failed t (mark ∷ journal) ≡ true → s.ended ≡ None → is_out (rows_of t (log_of_journal setting (mark ∷ journal))) ≡ true
  pub settled : (t : ℕ) → is_own_stream t ≡ false → among t todo ≡ false → IsSettled setting (mark ∷ journal) t

-- the state of the streams after it
pub record Placed (s' : EngineState) (journal : List Mark) (seen seen' : Seen) (held' failed' : List ℕ) (mark : Mark) : Type 0 where
  pub of_wire : OfWire seen'.streams seen'.blocked seen'.last (mark ∷ journal)
  pub open_are : not_own seen'.streams ≡ 0 ∷ not_own (here s')
  pub apart : (k : ℕ) → among k (here s') ≡ true → is_own_stream k ≡ false
  pub held_is : held' ≡ seen'.blocked
  pub blocked_is : (t : ℕ) → among t seen'.streams ≡ true → among t seen'.blocked ≡ is_blocked t (mark ∷ journal)
  pub unseen : (k : ℕ) → seen'.last < k → k ≤ LAST_CLIENT → IsUnseen (mark ∷ journal) seen'.blocked k
  pub unused : (k : ℕ) → IsFreeForOwn seen'.last_own k → IsUnused (mark ∷ journal) seen' k
  pub failed_are : (t : ℕ) → IsTrue (is_own t) → among t seen'.streams ≡ true → has_failed t (mark ∷ journal) ≡ true → among t failed' ≡ true
  pub failed_did : (t : ℕ) → among t failed' ≡ true → has_failed t (mark ∷ journal) ≡ true
  pub listens : seen.listens ≡ true → seen'.listens ≡ true
  pub owns : Owns journal seen' mark

-- what the forwarder recorded with it, and what is noted of it: this was requested of it
pub record Notes (now now' : Side) (mark : Mark) (asks : List HouseMark) : Type 0 where
  pub more : List HouseMark
  pub recorded_is : RecordsAsks now.recorded now'.recorded more
  pub noted_is : house_mark mark ++ now'.unnoted ≡ now.unnoted ++ more
  pub asks_are : ask_marks_in more ≡ asks
  pub opens_are : now'.asks ≡ opens_after more now.asks

-- how the wire, the forwarder and the engine, which was `s` and is `s'`, stand after it, with the
-- numbers and replies of now
pub record NextEvent (Rest : Resting) (before : Option (List HouseMark)) (now now' : Side) (policy : Policy) (pid : ℕ) (picked : List ℕ) (replies : List HouseReply) (asks : List HouseMark) (s s' : EngineState) (journal : List Mark) (seen seen' : Seen) (held' failed' : List ℕ) (given' : ℕ) (todo' : List ℕ) (mark : Mark) : Type 0 where
  pub recorded : seen'.recorded ≡ option_map (λ m. m ++ mark ∷ []) seen.recorded
  pub policy_is : s'.core.policy ≡ s.core.policy
  pub pid_is : s'.pid ≡ s.pid
  pub notes : Notes now now' mark asks
  pub called : (picks : List ℕ) (later : List HouseReply) → CallsOn now now' (calls_at (by_lists policy pid (picked ++ picks) (replies ++ later)) journal mark)
  pub askers : All (λ (a : OpenAsk). IsTrue (is_accepted a.client (mark ∷ journal))) now'.asks
  pub house_in : is_accepted HOUSE (mark ∷ journal) ≡ now'.let_in
  pub house_there : now'.let_in ≡ true → Rest.present ≡ true
  pub rested : (picks : List ℕ) (later : List HouseReply) → RestedAt Rest.rests (by_lists policy pid (picked ++ picks) (replies ++ later)) before journal mark
  pub absent : Rest.present ≡ false → is_by_house mark ≡ false
  pub turns : turns_in (mark ∷ journal) ≡ given'
  pub placed : Placed s' journal seen seen' held' failed' mark
  pub sound : (picks : List ℕ) (later : List HouseReply) → SoundAt (by_lists policy pid (picked ++ picks) (replies ++ later)) journal mark todo' s'

-- ---- one mark more

-- where the run goes on, it went on before
none-unended : (o : Option Ended) → is_some o ≡ false → o ≡ None
none-unended None e = refl
none-unended (Some cause) e = true-false e

pub live-before : {picked : List ℕ} {replies : List HouseReply} {s : EngineState} {marks : List Mark} {closed : List ℕ} (st : RepresentsSoFar picked replies s marks closed) (s' : EngineState) (mark : Mark) (p : List ℕ) (r : List HouseReply) (picked' : List ℕ) (replies' : List HouseReply)
    → picked' ≡ picked ++ p → replies' ≡ replies ++ r → s'.core.policy ≡ s.core.policy → s'.pid ≡ s.pid → RepresentsSoFar picked' replies' s' (mark ∷ marks) closed → s'.ended ≡ None → s.ended ≡ None
live-before {s = s} {marks = marks} {closed = closed} st s' mark p r picked' replies' e f g h st' live =
    let set : Setting = by_lists s.core.policy s.pid (picked' ++ []) (replies' ++ []) in
    let old = stood-at st p r picked' replies' e f [] [] in
    let new = st'.at [] [] in
    none-unended s.ended (ap is_some old.rows.ended_is ∙ (some-end (log_of_journal set marks) ∙ log-live set mark marks
    (sym (some-end (log_of_journal set (mark ∷ marks))) ∙ (ap (λ (rows : List Row). is_some (run_end_of rows)) (sym (log-same s s' (picked' ++ []) (replies' ++ []) (mark ∷ marks) g h)) ∙ (sym (ap is_some new.rows.ended_is) ∙ ap is_some live)))))

-- where clients are accepted, they were accepted before
pub receives-before : {picked : List ℕ} {replies : List HouseReply} {s : EngineState} {marks : List Mark} {closed : List ℕ} (st : RepresentsSoFar picked replies s marks closed) (s' : EngineState) (mark : Mark) (p : List ℕ) (r : List HouseReply) (picked' : List ℕ) (replies' : List HouseReply)
    → picked' ≡ picked ++ p → replies' ≡ replies ++ r → s'.core.policy ≡ s.core.policy → s'.pid ≡ s.pid → RepresentsSoFar picked' replies' s' (mark ∷ marks) closed → s'.listening ≡ true → s.listening ≡ true
receives-before {s = s} {marks = marks} {closed = closed} st s' mark p r picked' replies' e f g h st' l =
    let old = stood-at st p r picked' replies' e f [] [] in
    let new = st'.at [] [] in
    old.rows.listening_is ∙ log-listens (by_lists s.core.policy s.pid (picked' ++ []) (replies' ++ [])) mark marks (ap Rattle.mux_history.specs.Promises.is_still_accepting (sym (log-same s s' (picked' ++ []) (replies' ++ []) (mark ∷ marks) g h)) ∙ (sym new.rows.listening_is ∙ l))

-- a client that is lost requests nothing
pub listening-lost : {picked : List ℕ} {replies : List HouseReply} {s : EngineState} {marks : List Mark} {closed : List ℕ} (st : RepresentsSoFar picked replies s marks closed) (s' : EngineState) (k : ℕ) (p : List ℕ) (r : List HouseReply)
    → s'.core.policy ≡ s.core.policy → s'.pid ≡ s.pid → RepresentsSoFar (picked ++ p) (replies ++ r) s' (WriteFails k ∷ marks) closed → k ≢ 0 → is_own_stream k ≡ false → s'.listening ≡ s.listening
listening-lost {picked} {replies} {s} {marks} st s' k p r g h st' nz client =
    let ps : List ℕ = (picked ++ p) ++ [] in
    let rs : List HouseReply = (replies ++ r) ++ [] in
    let old = stood-at st p r (picked ++ p) (replies ++ r) refl refl [] [] in
    let new = st'.at [] [] in
    new.rows.listening_is ∙ (ap Rattle.mux_history.specs.Promises.is_still_accepting (log-same s s' ps rs (WriteFails k ∷ marks) g h) ∙ (lost-listens s.core.policy s.pid ps rs k marks nz client ∙ sym old.rows.listening_is))

-- the marks of the forwarder with those that are not noted
pub noted-more : (old mark unnoted' unnoted more : List HouseMark) → mark ++ unnoted' ≡ unnoted ++ more → (old ++ unnoted) ++ more ≡ (old ++ mark) ++ unnoted'
noted-more old mark unnoted' unnoted more e = append_assoc old unnoted more ∙ (ap (λ l. old ++ l) (sym e) ∙ sym (append_assoc old mark unnoted'))

-- with so many numbers and replies more, where this was requested of the forwarder
unfoldable pub serve-on : {May : HouseReply → Type 0} {Rest : Resting} {before : Option (List HouseMark)} {now : Side} {policy : Policy} {pid : ℕ} {start : Option (List Mark)} {seen : Seen} {held failed : List ℕ} {given : ℕ} {todo : List ℕ} {s : EngineState} (v : Serving May Rest before now policy pid start seen held failed given todo s) (now' : Side) (seen' : Seen) (held' failed' : List ℕ) (given' : ℕ) (todo' : List ℕ) (s' : EngineState) (mark : Mark) (p : List ℕ) (r : List HouseReply) (asks : List HouseMark) (picked' : List ℕ) (replies' : List HouseReply)
    → picked' ≡ v.picked ++ p → replies' ≡ v.replies ++ r → MayGive May r → (st : RepresentsSoFar picked' replies' s' (mark ∷ v.journal) v.closed) → st.asks ≡ v.stands.asks ++ asks
    → NextEvent Rest before now now' policy pid picked' replies' asks s s' v.journal seen seen' held' failed' given' todo' mark → Serving May Rest before now' policy pid start seen' held' failed' given' todo' s'
serve-on {May} {Rest} {before} {now} {policy} {pid} {start} {seen} {held} {failed} {given} {todo} {s} v now' seen' held' failed' given' todo' s' mark p r asks picked' replies' e f may st a n =
    let same : (house_marks v.journal ++ now.unnoted) ++ n.notes.more ≡ (house_marks v.journal ++ house_mark mark) ++ now'.unnoted = noted-more (house_marks v.journal) (house_mark mark) now'.unnoted now.unnoted n.notes.more n.notes.noted_is in
    record {
      journal = mark ∷ v.journal;
      closed = v.closed;
      picked = picked';
      replies = replies';
      policy_is = n.policy_is ∙ v.policy_is;
      pid_is = n.pid_is ∙ v.pid_is;
      may = subst (MayGive May) (sym f) (may-more May v.replies r v.may may);
      stands = st;
      house = subst (RecordsAsks before now'.recorded) same (records-then before now.recorded now'.recorded (house_marks v.journal ++ now.unnoted) n.notes.more v.house n.notes.recorded_is);
      asked = ap ask_marks_in (sym same) ∙ (filter-append Rattle.mux_history.specs.Promises.is_house_request (house_marks v.journal ++ now.unnoted) n.notes.more ∙ (ap (λ l. l ++ ask_marks_in n.notes.more) v.asked ∙ (ap (λ l. v.stands.asks ++ l) n.notes.asks_are ∙ sym a)));
      called = λ picks later. n.called picks later (calls_in (by_lists policy pid (picked' ++ picks) (replies' ++ later)) v.journal) (called-at v p r picked' replies' e f picks later);
      askers = n.askers;
      opens = n.notes.opens_are ∙ (ap (opens_after n.notes.more) v.opens ∙ (sym (opens-append (house_marks v.journal ++ now.unnoted) n.notes.more []) ∙ ap (λ (l : List HouseMark). opens_after l []) same));
      house_in = n.house_in;
      house_there = n.house_there;
      rested = λ picks later. (n.rested picks later, rested-at v p r picked' replies' e f picks later);
      absent = λ e. All-cons (λ (m : Mark). is_by_house m ≡ false) mark v.journal (n.absent e) (v.absent e);
      records = records-more start seen.recorded seen'.recorded v.journal (mark ∷ []) v.records n.recorded;
      of_wire = n.placed.of_wire;
      places = n.placed.owns.places;
      own_streams = keeps-more v.journal mark n.placed.owns.right v.own_streams;
      turns = n.turns;
      open_are = n.placed.open_are;
      apart = n.placed.apart;
      held_is = n.placed.held_is;
      blocked_is = n.placed.blocked_is;
      unseen = n.placed.unseen;
      unused = n.placed.unused;
      failed_are = n.placed.failed_are;
      failed_did = n.placed.failed_did;
      receives = λ live l. n.placed.listens (v.receives (live-before v.stands s' mark p r picked' replies' e f n.policy_is n.pid_is st live)
          (receives-before v.stands s' mark p r picked' replies' e f n.policy_is n.pid_is st l));
      sound = λ picks later.
          let set : Setting = by_lists policy pid (picked' ++ picks) (replies' ++ later) in
          let at : SoundAt set v.journal mark todo' s' = n.sound picks later in
          record {
            kept = kept-more set v.journal mark (sound-at v p r picked' replies' e f picks later).kept at.promise;
            failed_out = at.failed_out;
            settled = at.settled;
          };
    }

-- the requests of what stands now
pub asks-more : {May : HouseReply → Type 0} {recorded recorded' : Option (List HouseMark)} {old new : EngineState} {mark : Mark} {picked : List ℕ} {replies : List HouseReply} {marks : List Mark} {closed : List ℕ} (st : RepresentsSoFar picked replies old marks closed) (g : GoesBy May recorded recorded' picked replies old new mark marks closed) → g.stands.asks ≡ st.asks ++ g.asks
asks-more {picked = picked} {replies = replies} st g =
    let was = stood-at st g.picks g.replies (picked ++ g.picks) (replies ++ g.replies) refl refl [] [] in
    sym (g.stands.at [] []).rows.asked_is ∙ (g.asked [] [] ∙ ap (λ l. l ++ g.asks) was.rows.asked_is)

-- with what an event picks and the forwarder replies to it
unfoldable pub serve-next : {May : HouseReply → Type 0} {Rest : Resting} {before : Option (List HouseMark)} {now : Side} {policy : Policy} {pid : ℕ} {start : Option (List Mark)} {seen : Seen} {held failed : List ℕ} {given : ℕ} {todo : List ℕ} {s : EngineState} (v : Serving May Rest before now policy pid start seen held failed given todo s) (now' : Side) (seen' : Seen) (held' failed' : List ℕ) (given' : ℕ) (todo' : List ℕ) (s' : EngineState) (mark : Mark) {recorded recorded' : Option (List HouseMark)}
    → (g : GoesBy May recorded recorded' v.picked v.replies s s' mark v.journal v.closed) → NextEvent Rest before now now' policy pid (v.picked ++ g.picks) (v.replies ++ g.replies) g.asks s s' v.journal seen seen' held' failed' given' todo' mark → Serving May Rest before now' policy pid start seen' held' failed' given' todo' s'
serve-next v now' seen' held' failed' given' todo' s' mark g n =
    serve-on v now' seen' held' failed' given' todo' s' mark g.picks g.replies g.asks (v.picked ++ g.picks) (v.replies ++ g.replies) refl refl g.may g.stands (asks-more v.stands g) n

-- where nothing is picked and nothing is requested of the forwarder
unfoldable pub serve-alone : {May : HouseReply → Type 0} {Rest : Resting} {before : Option (List HouseMark)} {now : Side} {policy : Policy} {pid : ℕ} {start : Option (List Mark)} {seen : Seen} {held failed : List ℕ} {given : ℕ} {todo : List ℕ} {s : EngineState} (v : Serving May Rest before now policy pid start seen held failed given todo s) (now' : Side) (seen' : Seen) (held' failed' : List ℕ) (given' : ℕ) (todo' : List ℕ) (s' : EngineState) (mark : Mark)
    → RepresentsSoFar v.picked v.replies s' (mark ∷ v.journal) v.closed → ((picks : List ℕ) (replies : List HouseReply) → asks_of_rows (log s' picks replies (mark ∷ v.journal)) ≡ asks_of_rows (log s picks replies v.journal))
    → NextEvent Rest before now now' policy pid v.picked v.replies [] s s' v.journal seen seen' held' failed' given' todo' mark → Serving May Rest before now' policy pid start seen' held' failed' given' todo' s'
serve-alone v now' seen' held' failed' given' todo' s' mark st same n =
    let asks : st.asks ≡ v.stands.asks = sym (st.at [] []).rows.asked_is ∙ (same (v.picked ++ []) (v.replies ++ []) ∙ (v.stands.at [] []).rows.asked_is) in
    serve-on v now' seen' held' failed' given' todo' s' mark [] [] [] v.picked v.replies (sym (append-nil v.picked)) (sym (append-nil v.replies)) tt st (asks ∙ sym (append-nil v.stands.asks)) n
