-- What is left if memory runs out.
use Rattle.std.proofs.Common.{◌≡◌, ◌≤◌, ℕ, false, List, [], ◌∷◌, ◌++◌, length, Option, refl, sym, ap, ◌∙◌, subst, inl, arith, append_assoc, append-nil}
use Rattle.std.specs.Prelude.{All, IsTrue}
use Rattle.std.specs.Option.{option_map}
use Rattle.std.proofs.lemmas.List.Elements.{All-cons, filter-append}
use Rattle.mux_outside.specs.House.{OpenAsk}
use Rattle.mux_outside.specs.Seen.{Seen}
use Rattle.mux_outside.specs.declared.house.HouseReply.{HouseReply}
use Rattle.mux_outside.specs.declared.house_mark.HouseMark.{HouseMark}
use Rattle.mux_outside.specs.declared.mark.Mark.{Mark}
use Rattle.mux_history.specs.Policy.{Policy}
use Rattle.mux_history.specs.Rows.{Row}
use Rattle.mux_history.specs.Log.{Setting}
use Rattle.mux_history.specs.Settings.{by_lists}
use Rattle.mux_history.specs.Journal.{is_accepted, items_in, log_of_journal}
use Rattle.mux_history.specs.Promises.{is_house_request, turns_in}
use Rattle.mux_history.specs.Wires.{OfWire}
use Rattle.mux_bounds.specs.Bounds.{IsLog}
use Rattle.mux_peers.specs.Asked.{RecordsAsks, asks_of_rows}
use Rattle.mux_peers.specs.Starved.{BeginsWithAsked}
use Rattle.mux_peers.proofs.Starved.{all-begin}
use Rattle.mux_state.specs.State.{EngineState}
use Rattle.mux_state.specs.Stands.{RowsFit}
use Rattle.mux_outside.specs.HouseCalls.{HouseCall, calls_of}
use Rattle.mux_outside.proofs.HouseCalls.{calls-append}
use Rattle.mux_engine.specs.Called.{calls_in}
use Rattle.mux_engine.specs.Answers.{opens_after}
use Rattle.mux_engine.specs.Places.{IsMarkPlaced}
use Rattle.mux_engine.specs.Run.{AsksOn, IsOfWire, KeepsMarks, RestedAt, is_by_house}
use Rattle.mux_engine.specs.Serving.{IsLeft, Promised, Serving}
use Rattle.mux_engine.specs.Sides.{Resting, Side, ask_marks_in, house_mark, house_marks}
use Rattle.mux_engine.proofs.Marks.{PromiseAt, kept-more, log-is, noted-more}
use Rattle.mux_engine.proofs.Opens.{opens-append}
use Rattle.mux_engine.proofs.Owns.{keeps-more}
use Rattle.mux_engine.proofs.Staying.{serve-as}
use Rattle.mux_engine.proofs.Recorded.{records-more, records-none, records-then}

pub of-streams : (streams blocked : List ℕ) (last : ℕ) (journal : List Mark) → OfWire streams blocked last journal → IsOfWire journal
of-streams streams blocked last journal of = record { lawful = of.lawful; asked = of.asked }

pub rows-left : (setting : Setting) (journal : List Mark) (taken : ℕ) (drawn : List HouseMark) (s : EngineState) (closed : List ℕ) (rows : List Row) → KeepsMarks setting journal → IsLog setting journal rows → RowsFit taken drawn s closed rows → IsLeft setting journal taken drawn
rows-left setting journal taken drawn s closed rows k l fit = record { kept = k; rows = rows; is_log = l; fresh = fit.fresh; taken_is = fit.taken_is; given_is = fit.drawn_is; asked_is = fit.asked_is }

-- the requests in the forwarder's marks with some more
pub asks-left : (old more : List HouseMark) (asks : List HouseMark) → ask_marks_in old ≡ asks → ask_marks_in (old ++ more) ≡ asks ++ ask_marks_in more
asks-left old more asks e = filter-append is_house_request old more ∙ ap (λ l. l ++ ask_marks_in more) e

-- what the rows so far ask
pub now-asked : {May : HouseReply → Type 0} {Rest : Resting} {before : Option (List HouseMark)} {now : Side} {policy : Policy} {pid : ℕ} {start : Option (List Mark)} {seen : Seen} {held failed : List ℕ} {given : ℕ} {todo : List ℕ} {s : EngineState} (v : Serving May Rest before now policy pid start seen held failed given todo s) (picks : List ℕ) (later : List HouseReply) → asks_of_rows (log_of_journal (by_lists policy pid (v.picked ++ picks) (v.replies ++ later)) v.journal) ≡ v.stands.asks
now-asked {May} {Rest} {before} {now} {policy} {pid} {start} {seen} {held} {failed} {given} {todo} {s} v picks later = ap asks_of_rows (sym (log-is s policy pid (v.picked ++ picks) (v.replies ++ later) v.journal v.policy_is v.pid_is)) ∙ (v.stands.at picks later).rows.asked_is

-- nothing more was asked: where the wire recorded no mark, and where it recorded one
pub on-here : {May : HouseReply → Type 0} {Rest : Resting} {before : Option (List HouseMark)} {now : Side} {policy : Policy} {pid : ℕ} {start : Option (List Mark)} {seen : Seen} {held failed : List ℕ} {given : ℕ} {todo : List ℕ} {s : EngineState} (v : Serving May Rest before now policy pid start seen held failed given todo s) → AsksOn May policy pid v.picked v.replies v.journal v.stands.asks []
on-here v = record { more_picks = []; more_replies = []; may = tt; begins = record { rest = []; all_is = now-asked v [] [] ∙ sym (append-nil v.stands.asks) } }

pub on-next : {May : HouseReply → Type 0} {Rest : Resting} {before : Option (List HouseMark)} {now : Side} {policy : Policy} {pid : ℕ} {start : Option (List Mark)} {seen : Seen} {held failed : List ℕ} {given : ℕ} {todo : List ℕ} {s : EngineState} (v : Serving May Rest before now policy pid start seen held failed given todo s) (mark : Mark) → AsksOn May policy pid v.picked v.replies (mark ∷ v.journal) v.stands.asks []
on-next {May} {Rest} {before} {now} {policy} {pid} {start} {seen} {held} {failed} {given} {todo} {s} v mark =
    let set : Setting = by_lists policy pid (v.picked ++ []) (v.replies ++ []) in
    record {
      more_picks = [];
      more_replies = [];
      may = tt;
      begins = subst (λ (l : List HouseMark). BeginsWithAsked l [] (asks_of_rows (log_of_journal set (mark ∷ v.journal)))) (now-asked v [] []) (all-begin set (log_of_journal set v.journal) (items_in v.journal mark));
    }

-- the rows before the mark are left, whatever the forwarder recorded at the mark
unfoldable pub cut-next : {May : HouseReply → Type 0} {Rest : Resting} {before : Option (List HouseMark)} {now : Side} {policy : Policy} {pid : ℕ} {start : Option (List Mark)} {seen : Seen} {held failed : List ℕ} {given : ℕ} {todo : List ℕ} {s : EngineState} (v : Serving May Rest before now policy pid start seen held failed given todo s) (now' : Option (List HouseMark)) (recorded' : Option (List Mark)) (given' : ℕ) (mark : Mark) (more left : List HouseMark)
    → recorded' ≡ option_map (λ m. m ++ mark ∷ []) seen.recorded → RecordsAsks now.recorded now' more → house_mark mark ++ left ≡ now.unnoted ++ more → IsOfWire (mark ∷ v.journal) → IsMarkPlaced v.journal mark → turns_in (mark ∷ v.journal) ≤ given' → ((set : Setting) → RestedAt Rest.rests set before v.journal mark) → (Rest.present ≡ false → is_by_house mark ≡ false) → AsksOn May policy pid v.picked v.replies (mark ∷ v.journal) v.stands.asks (ask_marks_in more)
    → ((set : Setting) → IsLog set (mark ∷ v.journal) (log_of_journal set v.journal)) → ((picks : List ℕ) (later : List HouseReply) → PromiseAt (by_lists policy pid (v.picked ++ picks) (v.replies ++ later)) v.journal mark) → Promised May Rest before now' policy pid start recorded' given'
cut-next {May} {Rest} {before} {now} {policy} {pid} {start} {seen} {held} {failed} {given} {todo} {s} v now' recorded' given' mark more left e h is of placed le rested absent on cut promise =
    let same : (house_marks v.journal ++ now.unnoted) ++ more ≡ (house_marks v.journal ++ house_mark mark) ++ left = noted-more (house_marks v.journal) (house_mark mark) left now.unnoted more is in
    record {
      journal = mark ∷ v.journal;
      picked = v.picked;
      replies = v.replies;
      asks = v.stands.asks;
      more = left;
      more_asks = ask_marks_in more;
      may = v.may;
      each = v.stands.each;
      house = subst (RecordsAsks before now') same (records-then before now.recorded now' (house_marks v.journal ++ now.unnoted) more v.house h);
      asked = ap ask_marks_in (sym same) ∙ asks-left (house_marks v.journal ++ now.unnoted) more v.stands.asks v.asked;
      asks_on = on;
      rested = λ picks later. (rested (by_lists policy pid (v.picked ++ picks) (v.replies ++ later)), v.rested picks later);
      absent = λ e. All-cons (λ (m : Mark). is_by_house m ≡ false) mark v.journal (absent e) (v.absent e);
      records = records-more start seen.recorded recorded' v.journal (mark ∷ []) v.records e;
      of_wire = of;
      own_streams = keeps-more v.journal mark placed v.own_streams;
      turns = le;
      left = λ picks later.
          let set : Setting = by_lists policy pid (v.picked ++ picks) (v.replies ++ later) in
          let rows : List Row = log_of_journal set v.journal in
          rows-left set (mark ∷ v.journal) (length v.picked) v.stands.asks s v.closed rows (kept-more set v.journal mark (v.sound picks later).kept (promise picks later)) (cut set)
          (subst (RowsFit (length v.picked) v.stands.asks s v.closed) (log-is s policy pid (v.picked ++ picks) (v.replies ++ later) v.journal v.policy_is v.pid_is) (v.stands.at picks later).rows);
    }

-- all rows are left where the wire recorded no mark
unfoldable pub cut-here : {May : HouseReply → Type 0} {Rest : Resting} {before : Option (List HouseMark)} {now : Side} {policy : Policy} {pid : ℕ} {start : Option (List Mark)} {seen : Seen} {held failed : List ℕ} {given : ℕ} {todo : List ℕ} {s : EngineState} (v : Serving May Rest before now policy pid start seen held failed given todo s) (now' : Option (List HouseMark)) (recorded' : Option (List Mark)) (given' : ℕ) (more : List HouseMark)
    → recorded' ≡ seen.recorded → RecordsAsks now.recorded now' more → ask_marks_in more ≡ [] → given ≤ given' → Promised May Rest before now' policy pid start recorded' given'
cut-here {May} {Rest} {before} {now} {policy} {pid} {start} {seen} {held} {failed} {given} {todo} {s} v now' recorded' given' more e h none le = record {
  journal = v.journal;
  picked = v.picked;
  replies = v.replies;
  asks = v.stands.asks;
  more = now.unnoted ++ more;
  more_asks = [];
  may = v.may;
  each = v.stands.each;
  house = subst (RecordsAsks before now') (append_assoc (house_marks v.journal) now.unnoted more) (records-then before now.recorded now' (house_marks v.journal ++ now.unnoted) more v.house h);
  asked = ap ask_marks_in (sym (append_assoc (house_marks v.journal) now.unnoted more)) ∙ (asks-left (house_marks v.journal ++ now.unnoted) more v.stands.asks v.asked ∙ ap (λ l. v.stands.asks ++ l) none);
  asks_on = on-here v;
  rested = v.rested;
  absent = v.absent;
  records = e ∙ v.records;
  of_wire = of-streams seen.streams seen.blocked seen.last v.journal v.of_wire;
  own_streams = v.own_streams;
  turns = let w : turns_in v.journal ≡ given = v.turns in omega arith;
  left = λ picks later.
      let set : Setting = by_lists policy pid (v.picked ++ picks) (v.replies ++ later) in
      let rows : List Row = log_of_journal set v.journal in
      rows-left set v.journal (length v.picked) v.stands.asks s v.closed rows (v.sound picks later).kept (inl refl)
      (subst (RowsFit (length v.picked) v.stands.asks s v.closed) (log-is s policy pid (v.picked ++ picks) (v.replies ++ later) v.journal v.policy_is v.pid_is) (v.stands.at picks later).rows);
}

-- where the forwarder recorded nothing meanwhile
pub cut-still : {May : HouseReply → Type 0} {Rest : Resting} {before : Option (List HouseMark)} {now : Side} {policy : Policy} {pid : ℕ} {start : Option (List Mark)} {seen : Seen} {held failed : List ℕ} {given : ℕ} {todo : List ℕ} {s : EngineState} (v : Serving May Rest before now policy pid start seen held failed given todo s) (recorded' : Option (List Mark)) → recorded' ≡ seen.recorded → Promised May Rest before now.recorded policy pid start recorded' given
cut-still {now = now} {given = given} v recorded' e = cut-here v now.recorded recorded' given [] e (records-none now.recorded) refl (omega arith)

-- what the forwarder records is not noted yet
unfoldable pub serve-recorded : {May : HouseReply → Type 0} {Rest : Resting} {before : Option (List HouseMark)} {now : Side} {policy : Policy} {pid : ℕ} {start : Option (List Mark)} {seen : Seen} {held failed : List ℕ} {given : ℕ} {todo : List ℕ} {s : EngineState} (v : Serving May Rest before now policy pid start seen held failed given todo s) (now' : Side) (more : List HouseMark) → RecordsAsks now.recorded now'.recorded more → now'.unnoted ≡ now.unnoted ++ more → ask_marks_in more ≡ [] → All (λ (a : OpenAsk). IsTrue (is_accepted a.client v.journal)) now'.asks → now'.asks ≡ opens_after more now.asks → now'.let_in ≡ now.let_in → now'.calls ≡ now.calls ++ calls_of more → Serving May Rest before now' policy pid start seen held failed given todo s
serve-recorded {May} {Rest} {before} {now} {policy} {pid} {start} {seen} {held} {failed} {given} {todo} {s} v now' more h is none askers opens within calls =
    let same : (house_marks v.journal ++ now.unnoted) ++ more ≡ house_marks v.journal ++ now'.unnoted = append_assoc (house_marks v.journal) now.unnoted more ∙ ap (λ l. house_marks v.journal ++ l) (sym is) in
    serve-as v now' seen.listens todo record {
      house = subst (RecordsAsks before now'.recorded) same (records-then before now.recorded now'.recorded (house_marks v.journal ++ now.unnoted) more v.house h);
      asked = ap ask_marks_in (sym same) ∙ (asks-left (house_marks v.journal ++ now.unnoted) more v.stands.asks v.asked ∙ (ap (λ l. v.stands.asks ++ l) none ∙ append-nil v.stands.asks));
      called = λ picks later.
          let set : Setting = by_lists policy pid (v.picked ++ picks) (v.replies ++ later) in
          ap (λ (l : List HouseCall). calls_in set v.journal ++ l) (ap calls_of is ∙ calls-append now.unnoted more) ∙ (sym (append_assoc (calls_in set v.journal) (calls_of now.unnoted) (calls_of more)) ∙ (ap (λ (l : List HouseCall). l ++ calls_of more) (v.called picks later) ∙ sym calls));
      askers = askers;
      opens = opens ∙ (ap (opens_after more) v.opens ∙ (sym (opens-append (house_marks v.journal ++ now.unnoted) more []) ∙ ap (λ (l : List HouseMark). opens_after l []) same));
      house_in = v.house_in ∙ sym within;
      house_there = λ e. v.house_there (sym within ∙ e);
    } v.receives (λ t a. inl a)
