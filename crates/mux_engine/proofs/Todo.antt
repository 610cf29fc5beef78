-- The streams that are left to be offered what waits for them.
use Rattle.std.proofs.Common.{◌≡◌, ◌≢◌, ℕ, true, ◌||◌, List, [], ◌∷◌, ◌++◌, Option, sym, ap, ◌∙◌, inl, inr}
use Rattle.std.proofs.lemmas.Bool.Decides.{eqb_tells}
use Rattle.mux_outside.specs.Seen.{Seen}
use Rattle.mux_outside.specs.Streams.{among, without}
use Rattle.mux_outside.specs.declared.house.HouseReply.{HouseReply}
use Rattle.mux_outside.specs.declared.house_mark.HouseMark.{HouseMark}
use Rattle.mux_outside.specs.declared.mark.Mark.{Mark}
use Rattle.mux_history.specs.declared.limits.TheConstants.{HOUSE}
use Rattle.mux_history.specs.Policy.{Policy}
use Rattle.mux_history.specs.Pending.{pending}
use Rattle.mux_history.specs.Settings.{by_lists}
use Rattle.mux_history.specs.Journal.{is_blocked, log_of_journal}
use Rattle.mux_state.specs.State.{EngineState}
use Rattle.mux_engine.specs.Serving.{Serving, is_stream_open}
use Rattle.mux_engine.specs.Sides.{Resting, Side}
use Rattle.mux_engine.proofs.Lists.{apart-or-left, none-without, without-other}
use Rattle.mux_engine.proofs.Marks.{log-is}
use Rattle.mux_engine.proofs.Offers.{Waiting}
use Rattle.mux_engine.proofs.Places.{stream-open}
use Rattle.mux_engine.proofs.Staying.{Covers, serve-as, still-noted}

-- other streams are to be offered what waits for them, where those that are not were so before or are
-- settled
pub serve-todo : {May : HouseReply → Type 0} {Rest : Resting} {before : Option (List HouseMark)} {now : Side} {policy : Policy} {pid : ℕ} {start : Option (List Mark)} {seen : Seen} {held failed : List ℕ} {given : ℕ} {todo : List ℕ} {s : EngineState} (v : Serving May Rest before now policy pid start seen held failed given todo s) (todo' : List ℕ)
    → Covers v todo'
    → Serving May Rest before now policy pid start seen held failed given todo' s
serve-todo {now = now} {seen = seen} v todo' h = serve-as v now seen.listens todo' (still-noted v) v.receives h

-- nothing waits for it
pub nothing-left : {May : HouseReply → Type 0} {Rest : Resting} {before : Option (List HouseMark)} {now : Side} {policy : Policy} {pid : ℕ} {start : Option (List Mark)} {seen : Seen} {held failed : List ℕ} {given : ℕ} {todo : List ℕ} {s : EngineState} (v : Serving May Rest before now policy pid start seen held failed given todo s) (k : ℕ) (bytes : List ℕ)
    → Waiting bytes k s v.picked v.replies v.journal → bytes ≡ [] → Serving May Rest before now policy pid start seen held failed given (without k todo) s
nothing-left {policy = policy} {pid = pid} {todo = todo} {s = s} v k bytes waiting none = serve-todo v (without k todo) (λ t a. elim (eqb_tells k t) [
  | inl q ↦ inr (λ picks later. inl (ap (λ i. pending i (log_of_journal (by_lists policy pid (v.picked ++ picks) (v.replies ++ later)) v.journal)) (sym q.1)
      ∙ (sym (waiting picks later ∙ ap (pending k) (log-is s policy pid (v.picked ++ picks) (v.replies ++ later) v.journal v.policy_is v.pid_is)) ∙ none)))
  | inr q ↦ inl (sym (without-other k t todo q.1) ∙ a)
])

-- it is blocked
pub held-back : {May : HouseReply → Type 0} {Rest : Resting} {before : Option (List HouseMark)} {now : Side} {policy : Policy} {pid : ℕ} {start : Option (List Mark)} {seen : Seen} {held failed : List ℕ} {given : ℕ} {todo : List ℕ} {s : EngineState} (k : ℕ) (v : Serving May Rest before now policy pid start seen held failed given (k ∷ todo) s)
    → is_stream_open s k ≡ true → k ≢ HOUSE → among k held ≡ true → Serving May Rest before now policy pid start seen held failed given todo s
held-back {seen = seen} {todo = todo} {s = s} k v opened ne h = serve-todo v todo (λ t a. elim (eqb_tells k t) [
  | inl q ↦ inr (λ picks later. inr (inl (ap (λ i. is_blocked i v.journal) (sym q.1) ∙ (sym (v.blocked_is k (stream-open v k opened ne)) ∙ (ap (among k) (sym v.held_is) ∙ h)))))
  | inr q ↦ inl (ap (λ b. b || among t todo) q.0 ∙ a)
])

-- one stream more is to be offered what waits for it
pub wider : {May : HouseReply → Type 0} {Rest : Resting} {before : Option (List HouseMark)} {now : Side} {policy : Policy} {pid : ℕ} {start : Option (List Mark)} {seen : Seen} {held failed : List ℕ} {given : ℕ} {todo : List ℕ} {s : EngineState} (k : ℕ) (v : Serving May Rest before now policy pid start seen held failed given todo s) → Serving May Rest before now policy pid start seen held failed given (k ∷ todo) s
wider {todo = todo} k v = serve-todo v (k ∷ todo) (λ t a. inl (apart-or-left k t todo a).1)

-- the stream that was offered is done with
pub narrower : {May : HouseReply → Type 0} {Rest : Resting} {before : Option (List HouseMark)} {now : Side} {policy : Policy} {pid : ℕ} {start : Option (List Mark)} {seen : Seen} {held failed : List ℕ} {given : ℕ} {todo : List ℕ} {s : EngineState} (k : ℕ) (v : Serving May Rest before now policy pid start seen held failed given (without k (k ∷ todo)) s) → Serving May Rest before now policy pid start seen held failed given todo s
narrower {todo = todo} k v = serve-todo v todo (λ t a. inl (elim (eqb_tells k t) [
  | inl q ↦ ap (λ i. among i (without k (k ∷ todo))) (sym q.1) ∙ none-without k (k ∷ todo)
  | inr q ↦ without-other k t (k ∷ todo) q.1 ∙ (ap (λ b. b || among t todo) q.0 ∙ a)
]))
