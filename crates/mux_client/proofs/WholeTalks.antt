-- Whole talks, from their beginning.
use Rattle.std.proofs.Common.{◌≡◌, ◌∙◌, refl, sym, subst, ℕ, true, false, List, [], Option, ◌++◌, Some, None}
use Rattle.std.specs.Option.{option_map}
use Rattle.std.specs.Prelude.{Result, Ok, Err, IsErrAnd}
use Rattle.std.proofs.lemmas.List.Elements.{All-nil}
use Rattle.mux_outside.specs.declared.mark.Mark.{Mark}
use Rattle.mux_outside.specs.Seen.{Seen}
use Rattle.mux_outside.specs.WireState.{WireState}
use Rattle.mux_client.specs.declared.asks.Asks.{Asks}
use Rattle.mux_client.specs.declared.talked.Talked.{Talked}
use Rattle.mux_client.specs.declared.talked.Talked.TheVariants as talked
use Rattle.mux_client.specs.Client.{TalkState, new_talk, TalkRepresents, IsTalkSettled}
use Rattle.mux_client.specs.Talking.{AcceptsNone, HasTalked, IsTalkDecided, IsTalkOffered, SameWire, Talking, IsTalk, WholeTalk, talked_of}
use Rattle.mux_client.specs.Journal.{TalksRecorded, ShowsRecorded, is_of_house}
use Rattle.mux_client.proofs.JournalGrows.{recorded-none}
use Rattle.mux_client.proofs.TalkSteps.{talk-decided, talk-spent, talk-starved}

-- an answer that a `?` hands on
pub handed-as : (r : Result (Unit {0}) Talked) (answer : Talked) (P : Talked → Type 0) → IsErrAnd r (λ e. e ≡ answer) → P answer → P (talked_of r)
handed-as (Ok x) answer P h p = absurd h
handed-as (Err e) answer P h p = subst P (sym h) p

-- one step, and then one more
pub accepts-then : {a b c : Seen} → AcceptsNone a b → AcceptsNone b c → AcceptsNone a c
accepts-then x y = record { streams = y.streams ∙ x.streams; listens = y.listens ∙ x.listens; last = y.last ∙ x.last; listeners = y.listeners ∙ x.listeners; own = y.own ∙ x.own }

pub wire-none : (s : WireState) → SameWire s s
wire-none s = record { none_accepted = record { streams = refl; listens = refl; last = refl; listeners = refl; own = refl }; openings = refl; joinings = refl }

pub wire-then : {a b c : WireState} → SameWire a b → SameWire b c → SameWire a c
wire-then x y = record { none_accepted = accepts-then x.none_accepted y.none_accepted; openings = y.openings ∙ x.openings; joinings = y.joinings ∙ x.joinings }

stands-new : (asks : Asks) → TalkRepresents asks [] [] [] new_talk
stands-new asks = record { goes = λ more ended. refl; request = tt }

pub talk-starts : (asks : Asks) (start : Option (List Mark)) → Talking asks start start [] [] new_talk
talk-starts asks start = record {
  marks = [];
  records = sym (recorded-none start);
  journal = record { throughout = tt; opens = tt; no_house = All-nil (λ (mark : Mark). is_of_house mark ≡ false) };
  stands = stands-new asks;
  ended = λ e. absurd (let z : false ≡ true = e in cc);
  held_is = refl;
}

pub starts-starved : (asks : Asks) (start : Option (List Mark)) → IsTalk asks talked.OutOfMemory start start [] []
starts-starved asks start = talk-starved (talk-starts asks start) [] [] refl

-- and with no turn at all
pub starts-spent : (asks : Asks) (start : Option (List Mark)) → IsTalk asks talked.Spent start start [] []
unfolding talk-starts
starts-spent asks start = talk-spent (talk-starts asks start) refl tt (λ some. absurd (some refl))

-- what was decided, and what wasn't with all turns given
pub decided-talk : {asks : Asks} {start recorded : Option (List Mark)} {held shown : List ℕ} {s : TalkState} → Talking asks start recorded held shown s → IsTalkSettled s → IsTalkOffered held s → (r : Result (Unit {0}) Talked) → IsTalkDecided s r
    → IsTalk asks (talked_of r) start recorded shown shown
decided-talk v settled offered (Ok x) d = talk-spent v settled d (λ some. offered)
decided-talk v settled offered (Err answer) d = talk-decided v settled answer d

-- ---- if the wire records, and the sink

pub talks-recorded : (asks : Asks) (answer : Talked) (start recorded : Option (List Mark)) (shown due : List ℕ) → IsTalk asks answer start recorded shown due → TalksRecorded asks answer start recorded
talks-recorded asks answer None None shown due t = tt
talks-recorded asks answer None (Some new) shown due t = absurd (let z : Some new ≡ None = t.records in cc)
talks-recorded asks answer (Some old) None shown due t = absurd (let z : None ≡ Some (old ++ t.marks) = t.records in cc)
talks-recorded asks answer (Some old) (Some new) shown due t = record {
  marks = t.marks;
  added = let z : Some new ≡ Some (old ++ t.marks) = t.records in cc;
  throughout = t.journal.throughout;
  opens = t.journal.opens;
  no_house = t.journal.no_house;
  answers = t.answers;
  offered = t.offered;
}

shows-recorded : (asks : Asks) (answer : Talked) (start recorded : Option (List Mark)) (before now : Option (List ℕ)) (shown due : List ℕ) → IsTalk asks answer start recorded shown due → now ≡ option_map (λ b. b ++ shown) before → ShowsRecorded asks answer start recorded before now
shows-recorded asks answer (Some old) (Some new) (Some before) (Some now) shown due t e = record {
  marks = t.marks;
  shown = shown;
  added = let z : Some new ≡ Some (old ++ t.marks) = t.records in cc;
  put = let z : Some now ≡ Some (before ++ shown) = e in cc;
  shows = t.shows;
}
shows-recorded asks answer None recorded before now shown due t e = tt
shows-recorded asks answer (Some old) None before now shown due t e = tt
shows-recorded asks answer (Some old) (Some new) None now shown due t e = tt
shows-recorded asks answer (Some old) (Some new) (Some before) None shown due t e = tt

pub has-talked : {V : Type 0} (asks : Asks) (answer : Talked) (start recorded : Option (List Mark)) (before now : Option (List ℕ)) (old new : V) → WholeTalk asks answer start recorded before now old new → HasTalked asks answer start recorded before now old new
has-talked asks answer start recorded before now old new w = record {
  whole = w;
  talks = talks-recorded asks answer start recorded w.more w.due w.holds;
  shows = shows-recorded asks answer start recorded before now w.more w.due w.holds w.put;
}
