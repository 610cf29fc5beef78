-- What an event makes of what holds while a wire is served: who is settled after it.
use Rattle.std.proofs.Common.{◌≡◌, ◌≢◌, ℕ, Bool, true, false, ◌||◌, List, ◌∷◌, ◌++◌, length, Option, None, refl, sym, ap, ◌∙◌, subst, inl}
use Rattle.std.specs.Prelude.{◌==◌, is_some}
use Rattle.std.proofs.lemmas.Bool.{eq-eqb}
use Rattle.mux_outside.specs.Seen.{Seen}
use Rattle.mux_outside.specs.Streams.{among}
use Rattle.mux_outside.specs.declared.house.HouseReply.{HouseReply}
use Rattle.mux_outside.specs.declared.house_mark.HouseMark.{HouseMark}
use Rattle.mux_outside.specs.declared.house_mark.HouseMark.TheVariants.{HouseIn, HouseSaid, HouseAnswer}
use Rattle.mux_outside.specs.declared.mark.Mark.{Mark}
use Rattle.mux_outside.specs.declared.mark.Mark.TheVariants.{Accepts, Gets, Ends, Fails, House}
use Rattle.mux_history.specs.Policy.{Policy}
use Rattle.mux_history.specs.Rows.{Row, rows_of}
use Rattle.mux_history.specs.Pending.{pending, pending_down, pending_up}
use Rattle.mux_history.specs.Settings.{by_lists}
use Rattle.mux_history.specs.Log.{Setting}
use Rattle.mux_history.specs.Journal.{IsLawful, is_blocked, is_own_stream, log_of_journal}
use Rattle.mux_history.specs.Promises.{IsSettled, SpeaksInTime, write_failed}
use Rattle.mux_history.proofs.Bools.{or-left, or-right}
use Rattle.mux_state.specs.State.{EngineState, is_here}
use Rattle.mux_state.specs.Events.{here}
use Rattle.mux_state.specs.Stands.{GoesBy, RowsFit}
use Rattle.mux_state.proofs.Over.{some-end}
use Rattle.mux_engine.specs.AfterEnd.{NoneEnded}
use Rattle.mux_engine.specs.Answers.{AnswersOpen}
use Rattle.mux_engine.specs.Serving.{IsRunSound, Serving}
use Rattle.mux_engine.specs.Sides.{Resting, Side}
use Rattle.mux_engine.proofs.Lists.{among-open, true-false}
use Rattle.mux_engine.proofs.Logs.{log-out, settled-as}
use Rattle.mux_engine.proofs.Marks.{PromiseAt, SoundAt, after-live, log-is, sound-at, stood-at}
use Rattle.mux_engine.proofs.Outs.{Spares, waits-closed}

-- what waits for a client
client-pending : (t : ℕ) (rows : List Row) → (t == 0) ≡ false → pending t rows ≡ pending_down (rows_of t rows)
client-pending t rows e = ap (λ b. elim b as (λ _. List ℕ) [ true ↦ pending_up rows | false ↦ pending_down (rows_of t rows) ]) e

-- an event's mark
abbrev pub IsRecorded : Mark → Type 0
IsRecorded (Accepts k) = Unit {0}
IsRecorded (Gets k bytes) = Unit {0}
IsRecorded (Ends k) = Unit {0}
IsRecorded (Fails k) = Unit {0}
IsRecorded (House HouseIn) = Unit {0}
IsRecorded (House (HouseSaid bytes)) = Unit {0}
IsRecorded (House (HouseAnswer client id reply)) = Unit {0}
IsRecorded mark = ⊥

-- it records nothing of writing
recorded-blocked : (mark : Mark) (journal : List Mark) (t : ℕ) → IsRecorded mark → is_blocked t (mark ∷ journal) ≡ is_blocked t journal
recorded-blocked (Accepts k) journal t h = refl
recorded-blocked (Gets k bytes) journal t h = refl
recorded-blocked (Ends k) journal t h = refl
recorded-blocked (Fails k) journal t h = refl
recorded-blocked (House HouseIn) journal t h = refl
recorded-blocked (House (HouseSaid bytes)) journal t h = refl
recorded-blocked (House (HouseAnswer client id reply)) journal t h = refl
recorded-blocked mark journal t h = absurd h

recorded-failed : (mark : Mark) (journal : List Mark) (t : ℕ) → IsRecorded mark → write_failed t (mark ∷ journal) ≡ write_failed t journal
recorded-failed (Accepts k) journal t h = refl
recorded-failed (Gets k bytes) journal t h = refl
recorded-failed (Ends k) journal t h = refl
recorded-failed (Fails k) journal t h = refl
recorded-failed (House m) journal t h = refl
recorded-failed mark journal t h = absurd h

pub recorded-promise : (set : Setting) (mark : Mark) (journal : List Mark) → IsRecorded mark → NoneEnded set journal → SpeaksInTime set journal mark → AnswersOpen set journal mark → PromiseAt set journal mark
recorded-promise set (Accepts k) journal h on speaks answers = record { takes = tt; waits = tt; speaks = tt; open_streams = tt; answers = tt; after_end = tt; silence = tt }
recorded-promise set (Gets k bytes) journal h on speaks answers = record { takes = tt; waits = tt; speaks = tt; open_streams = tt; answers = tt; after_end = tt; silence = tt }
recorded-promise set (Ends k) journal h on speaks answers = record { takes = tt; waits = tt; speaks = tt; open_streams = tt; answers = tt; after_end = tt; silence = tt }
recorded-promise set (Fails k) journal h on speaks answers = record { takes = tt; waits = tt; speaks = tt; open_streams = tt; answers = tt; after_end = tt; silence = tt }
recorded-promise set (House m) journal h on speaks answers = record { takes = tt; waits = tt; speaks = speaks; open_streams = tt; answers = answers; after_end = after-live set journal (House m) on; silence = tt }
recorded-promise set mark journal h on speaks answers = absurd h

module _ {May : HouseReply → Type 0} {Rest : Resting} {before : Option (List HouseMark)} {now : Side} {policy : Policy} {pid : ℕ} {start : Option (List Mark)} {seen : Seen} {held failed : List ℕ} {given : ℕ} {todo : List ℕ} {s : EngineState}
    (v : Serving May Rest before now policy pid start seen held failed given todo s) {recorded recorded' : Option (List HouseMark)} {s' : EngineState} (mark : Mark) (g : GoesBy May recorded recorded' v.picked v.replies s s' mark v.journal v.closed)
    (same_policy : s'.core.policy ≡ s.core.policy) (same_pid : s'.pid ≡ s.pid) (is : IsRecorded mark) (lawful : IsLawful (mark ∷ v.journal)) (covers : (t : ℕ) → among t (0 ∷ here s') ≡ false → among t todo ≡ false) where
  abbrev picks-then : List ℕ → List ℕ
  picks-then picks = (v.picked ++ g.picks) ++ picks

  abbrev replies-then : List HouseReply → List HouseReply
  replies-then later = (v.replies ++ g.replies) ++ later

  abbrev setting : List ℕ → List HouseReply → Setting
  setting picks later = by_lists policy pid (picks-then picks) (replies-then later)

  fits-before : (picks : List ℕ) (later : List HouseReply) → RowsFit (length v.picked) v.stands.asks s v.closed (log_of_journal (setting picks later) v.journal)
  fits-before picks later = subst (RowsFit (length v.picked) v.stands.asks s v.closed) (log-is s policy pid (picks-then picks) (replies-then later) v.journal v.policy_is v.pid_is)
      (stood-at v.stands g.picks g.replies (v.picked ++ g.picks) (v.replies ++ g.replies) refl refl picks later).rows

  fits-after : (picks : List ℕ) (later : List HouseReply) → RowsFit (length (v.picked ++ g.picks)) g.stands.asks s' v.closed (log_of_journal (setting picks later) (mark ∷ v.journal))
  fits-after picks later = subst (RowsFit (length (v.picked ++ g.picks)) g.stands.asks s' v.closed) (log-is s' policy pid (picks-then picks) (replies-then later) (mark ∷ v.journal) (same_policy ∙ v.policy_is) (same_pid ∙ v.pid_is)) (g.stands.at picks later).rows

  -- a client whose stream isn't open is settled as before, or has nothing
  rest-settled : ((k : ℕ) → among k v.closed ≡ true → Spares k mark) → (picks : List ℕ) (later : List HouseReply) (t : ℕ) → is_own_stream t ≡ false → among t (0 ∷ here s') ≡ false → IsSettled (setting picks later) (mark ∷ v.journal) t
  rest-settled spares picks later t client a = by_closed (among t v.closed) refl
    where
      shut : ((t == 0) || is_here s' t) ≡ false
      shut = sym (among-open s' t) ∙ a

      real : (t == 0) ≡ false
      real = or-left (t == 0) (is_here s' t) shut

      nonzero : t ≢ 0
      nonzero z = true-false (sym (eq-eqb t 0 z) ∙ real)

      old : List Row
      old = log_of_journal (setting picks later) v.journal

      new : List Row
      new = log_of_journal (setting picks later) (mark ∷ v.journal)

      by_closed : (b : Bool) → among t v.closed ≡ b → IsSettled (setting picks later) (mark ∷ v.journal) t
      by_closed false e = inl (client-pending t new real ∙ ap pending_down ((fits-after picks later).absent t nonzero (or-right (t == 0) (is_here s' t) shut) e))
      by_closed true e = settled-as (setting picks later) mark v.journal t
          (client-pending t new real ∙ (waits-closed policy pid (picks-then picks) (replies-then later) mark v.journal (fits-before picks later) lawful (fits-after picks later).fresh t nonzero e (spares t e) ∙ sym (client-pending t old real)))
          (recorded-blocked mark v.journal t is) (recorded-failed mark v.journal t is)
          ((sound-at v g.picks g.replies (v.picked ++ g.picks) (v.replies ++ g.replies) refl refl picks later).settled t client (covers t a))

  rows-on : (picks : List ℕ) (later : List HouseReply) → s.ended ≡ None → NoneEnded (setting picks later) v.journal
  rows-on picks later live = sym (some-end (log_of_journal (setting picks later) v.journal)) ∙ ap is_some (sym (fits-before picks later).ended_is ∙ live)

  -- all of it, where the run went on before
  pub recorded-sound : s.ended ≡ None → ((k : ℕ) → among k v.closed ≡ true → Spares k mark) → ((picks : List ℕ) (later : List HouseReply) → SpeaksInTime (setting picks later) v.journal mark) → ((picks : List ℕ) (later : List HouseReply) → AnswersOpen (setting picks later) v.journal mark) → (picks : List ℕ) (later : List HouseReply) → SoundAt (setting picks later) v.journal mark (0 ∷ here s') s'
  recorded-sound live spares speaks answers picks later =
      let old : IsRunSound (setting picks later) v.journal todo s = sound-at v g.picks g.replies (v.picked ++ g.picks) (v.replies ++ g.replies) refl refl picks later in
      record {
        promise = recorded-promise (setting picks later) mark v.journal is (rows-on picks later live) (speaks picks later) (answers picks later);
        failed_out = λ t client w on. log-out (setting picks later) mark v.journal t (old.failed_out t client (sym (recorded-failed mark v.journal t is) ∙ w) live);
        settled = λ t client a. rest-settled spares picks later t client a;
      }
