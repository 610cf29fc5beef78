-- The loops over streams that are offered what waits for them.
use Rattle.std.proofs.Common.{◌≡◌, ◌≢◌, ℕ, Bool, true, false, not, ◌||◌, List, [], ◌∷◌, ◌++◌, Option, refl, sym, ap, ◌∙◌, subst, inl, inr, ◌⊎◌, cond, arith, None}
use Rattle.std.specs.Prelude.{◌==◌, Result, Ok, Err, IsErr}
use Rattle.std.proofs.lemmas.Bool.Decides.{eqb_tells}
use Rattle.std.proofs.lemmas.List.Folds.{list_any-append}
use Rattle.mux_outside.specs.Seen.{Seen}
use Rattle.mux_outside.specs.CallCounts.{CallCounts}
use Rattle.mux_outside.specs.Streams.{among, without}
use Rattle.mux_outside.specs.declared.house.HouseReply.{HouseReply}
use Rattle.mux_outside.specs.declared.house_mark.HouseMark.{HouseMark}
use Rattle.mux_outside.specs.declared.mark.Mark.{Mark}
use Rattle.mux_history.specs.declared.limits.TheConstants.{HOUSE}
use Rattle.mux_history.specs.Policy.{Policy}
use Rattle.mux_history.specs.Pending.{pending}
use Rattle.mux_history.specs.Settings.{by_lists}
use Rattle.mux_history.specs.Promises.{IsSettled, has_output, is_empty}
use Rattle.mux_peers.specs.State.{ClientState}
use Rattle.mux_peers.specs.Among.{is_present}
use Rattle.mux_state.specs.State.{EngineState, queue_in, waiting_clients, waiting_streams}
use Rattle.mux_state.specs.Events.{here}
use Rattle.mux_state.specs.Stands.{log}
use Rattle.mux_engine.specs.Counted.{CountsOfCall, CountsOfCutCall}
use Rattle.mux_engine.specs.Serving.{Serving, is_stream_open}
use Rattle.mux_engine.specs.Sides.{Resting, Side}
use Rattle.mux_engine.proofs.Lists.{among-here, among-less, apart-or-left, either, here-open, none-without, or-true, test-other, true-false, without-other}
use Rattle.mux_engine.proofs.Marks.{log-is}
use Rattle.mux_engine.proofs.Places.{AtStream, at-stream}
use Rattle.mux_engine.proofs.Staying.{serve-as, still-noted}
use Rattle.mux_engine.proofs.Todo.{narrower, serve-todo}

-- ---- offers of one stream

pub twice-among : (k : ℕ) (todo : List ℕ) → among 0 (k ∷ todo) ≡ true → among 0 (k ∷ (k ∷ todo)) ≡ true
twice-among k todo e = ap (λ b. (k == 0) || b) e ∙ or-true (k == 0)

pub zero-among : (k : ℕ) (todo : List ℕ) → among 0 (k ∷ (0 ∷ todo)) ≡ true
zero-among k todo = or-true (k == 0)

-- after one offer more is to be offered, or nothing
pub on-more : {May : HouseReply → Type 0} {Rest : Resting} {before : Option (List HouseMark)} {now : Side} {policy : Policy} {pid : ℕ} {start : Option (List Mark)} {seen : Seen} {held failed : List ℕ} {given : ℕ} {s : EngineState} (k : ℕ) (todo : List ℕ) (more : Bool) → more ≡ true
    → Serving May Rest before now policy pid start seen held failed given (cond more (k ∷ (k ∷ todo)) (without k (k ∷ todo))) s → Serving May Rest before now policy pid start seen held failed given (k ∷ todo) s
on-more {May} {Rest} {before} {now} {policy} {pid} {start} {seen} {held} {failed} {given} {s} k todo more e v =
    serve-todo (subst (λ (m : Bool). Serving May Rest before now policy pid start seen held failed given (cond m (k ∷ (k ∷ todo)) (without k (k ∷ todo))) s) e v) (k ∷ todo) (λ t a. inl (by_test t (k == t) a))
  where
    by_test : (t : ℕ) (b : Bool) → (b || among t todo) ≡ false → (b || (b || among t todo)) ≡ false
    by_test t true a = true-false a
    by_test t false a = a

pub on-done : {May : HouseReply → Type 0} {Rest : Resting} {before : Option (List HouseMark)} {now : Side} {policy : Policy} {pid : ℕ} {start : Option (List Mark)} {seen : Seen} {held failed : List ℕ} {given : ℕ} {s : EngineState} (k : ℕ) (todo : List ℕ) (more : Bool) → more ≡ false
    → Serving May Rest before now policy pid start seen held failed given (cond more (k ∷ (k ∷ todo)) (without k (k ∷ todo))) s → Serving May Rest before now policy pid start seen held failed given todo s
on-done {May} {Rest} {before} {now} {policy} {pid} {start} {seen} {held} {failed} {given} {s} k todo more e v =
    narrower k (subst (λ (m : Bool). Serving May Rest before now policy pid start seen held failed given (cond m (k ∷ (k ∷ todo)) (without k (k ∷ todo))) s) e v)

pub counts-err : {A E : Type 0} (r : Result A E) (waits : ℕ) (old new : CallCounts) → IsErr r → CountsOfCutCall waits old new → CountsOfCall waits r old new
counts-err (Ok x) waits old new h c = absurd (let z : false ≡ true = h in cc)
counts-err (Err e) waits old new h c = c

-- ---- the streams that wait

not-empty : (q : List ℕ) → not (is_empty q) ≡ false → q ≡ []
not-empty [] e = refl
not-empty (b ∷ q) e = true-false e

-- what is in neither of two lists
neither : (t : ℕ) (xs ys : List ℕ) → among t (xs ++ ys) ≡ false → (among t xs ≡ false) × (among t ys ≡ false)
neither t xs ys e = split (among t xs) (among t ys) (sym (list_any-append (λ (i : ℕ). i == t) xs ys) ∙ e)
  where
    split : (a b : Bool) → (a || b) ≡ false → (a ≡ false) × (b ≡ false)
    split true b e = true-false e
    split false b e = (refl, e)

pub in-neither : (t : ℕ) (xs ys : List ℕ) → among t xs ≡ false → among t ys ≡ false → among t (xs ++ ys) ≡ false
in-neither t xs ys a b = list_any-append (λ (i : ℕ). i == t) xs ys ∙ (ap (λ c. c || among t ys) a ∙ b)

-- the server is among these
pub server-behind : (xs ys : List ℕ) → among 0 (xs ++ (0 ∷ ys)) ≡ true
server-behind xs ys = list_any-append (λ (i : ℕ). i == 0) xs (0 ∷ ys) ∙ or-true (among 0 xs)

-- the clients that wait
abbrev pub clients-of : List ℕ → List ℕ
clients-of waiting = without HOUSE (without 0 waiting)

-- those that wait and the server's stream are left to be offered something
pub only-waiting : {May : HouseReply → Type 0} {Rest : Resting} {before : Option (List HouseMark)} {now : Side} {policy : Policy} {pid : ℕ} {start : Option (List Mark)} {seen : Seen} {held failed : List ℕ} {given : ℕ} {s : EngineState} (left : List ℕ) (v : Serving May Rest before now policy pid start seen held failed given (0 ∷ (without HOUSE (here s) ++ left)) s) (waiting : List ℕ)
    → ((t : ℕ) → among t v.closed ≡ false → (picks : List ℕ) (later : List HouseReply) → among t waiting ≡ has_output (log s (v.picked ++ picks) (v.replies ++ later) v.journal) t)
    → Serving May Rest before now policy pid start seen held failed given (clients-of waiting ++ (0 ∷ left)) s
only-waiting {policy = policy} {pid = pid} {s = s} left v waiting waits = serve-todo v (clients-of waiting ++ (0 ∷ left)) (λ t a. by_part t (neither t (clients-of waiting) (0 ∷ left) a))
  where
    by_part : (t : ℕ) → (among t (clients-of waiting) ≡ false) × (among t (0 ∷ left) ≡ false) → (among t (0 ∷ (without HOUSE (here s) ++ left)) ≡ false) ⊎ ((picks : List ℕ) (later : List HouseReply) → IsSettled (by_lists policy pid (v.picked ++ picks) (v.replies ++ later)) v.journal t)
    by_part t p = by_here t p.0 (apart-or-left 0 t left p.1) (among t (here s)) refl
      where
        out : (t : ℕ) → (0 ≢ t) × (among t left ≡ false) → among t (without HOUSE (here s)) ≡ false → among t (0 ∷ (without HOUSE (here s) ++ left)) ≡ false
        out t q h = ap (λ b. b || among t (without HOUSE (here s) ++ left)) (test-other 0 t q.0) ∙ in-neither t (without HOUSE (here s)) left h q.1

        by_here : (t : ℕ) → among t (clients-of waiting) ≡ false → (0 ≢ t) × (among t left ≡ false) → (b : Bool) → among t (here s) ≡ b → (among t (0 ∷ (without HOUSE (here s) ++ left)) ≡ false) ⊎ ((picks : List ℕ) (later : List HouseReply) → IsSettled (by_lists policy pid (v.picked ++ picks) (v.replies ++ later)) v.journal t)
        by_here t none q false h = inl (out t q (among-less HOUSE t (here s) h))
        by_here t none q true h = elim (eqb_tells HOUSE t) [
          | inl r ↦ inl (out t q (ap (λ i. among i (without HOUSE (here s))) (sym r.1) ∙ none-without HOUSE (here s)))
          | inr r ↦
              let at : AtStream s v.journal v.closed t = at-stream v.stands t (here-open s t (sym (among-here s t) ∙ h)) in
              let idle : among t waiting ≡ false = sym (without-other 0 t waiting q.0) ∙ (sym (without-other HOUSE t (without 0 waiting) r.1) ∙ none) in
              inr (λ picks later. inl (ap (pending t) (sym (log-is s policy pid (v.picked ++ picks) (v.replies ++ later) v.journal v.policy_is v.pid_is))
              ∙ not-empty (pending t (log s (v.picked ++ picks) (v.replies ++ later) v.journal)) (sym (waits t at.not_closed picks later) ∙ idle)))
        ]

waiting-present : (t : ℕ) (cs : List ClientState) → among t (waiting_clients cs) ≡ true → is_present cs t ≡ true
waiting-present t [] a = absurd (let z : false ≡ true = a in cc)
waiting-present t (c ∷ cs) a = by_empty (waiting-present t cs) (is_empty c.peer.queue) a
  where
    by_head : (among t (waiting_clients cs) ≡ true → is_present cs t ≡ true) → (b : Bool) → (b || among t (waiting_clients cs)) ≡ true → either b (is_present cs t) ≡ true
    by_head ih true e = refl
    by_head ih false e = ih e

    or-rest : (b : Bool) → is_present cs t ≡ true → either b (is_present cs t) ≡ true
    or-rest true e = refl
    or-rest false e = e

    by_empty : (among t (waiting_clients cs) ≡ true → is_present cs t ≡ true) → (b : Bool) → among t (cond b (waiting_clients cs) (c.peer.number ∷ waiting_clients cs)) ≡ true → either (c.peer.number == t) (is_present cs t) ≡ true
    by_empty ih true e = or-rest (c.peer.number == t) (ih e)
    by_empty ih false e = by_head ih (c.peer.number == t) e

-- more are left to be offered something
pub more-left : {May : HouseReply → Type 0} {Rest : Resting} {before : Option (List HouseMark)} {now : Side} {policy : Policy} {pid : ℕ} {start : Option (List Mark)} {seen : Seen} {held failed : List ℕ} {given : ℕ} {s : EngineState} (left : List ℕ) (v : Serving May Rest before now policy pid start seen held failed given left s) → Serving May Rest before now policy pid start seen held failed given (0 ∷ (without HOUSE (here s) ++ left)) s
more-left {s = s} left v = serve-todo v (0 ∷ (without HOUSE (here s) ++ left)) (λ t a. inl (neither t (without HOUSE (here s)) left (apart-or-left 0 t (without HOUSE (here s) ++ left) a).1).1)

-- the server is not the forwarder
pub no-zero : 0 ≢ HOUSE
no-zero e = absurd (omega (arith, e))

-- a client that waits is here, and is not the forwarder
pub record IsClient (s : EngineState) (t : ℕ) : Type 0 where
  pub opened : is_stream_open s t ≡ true
  pub no_server : t ≢ 0
  pub no_house : t ≢ HOUSE

gone-from : (k t : ℕ) (xs : List ℕ) → among t (without k xs) ≡ true → t ≢ k
gone-from k t xs a e = true-false (sym a ∙ (ap (λ i. among i (without k xs)) e ∙ none-without k xs))

pub waits-open : (s : EngineState) (t : ℕ) → among t (clients-of (waiting_streams s)) ≡ true → IsClient s t
waits-open s t a = record {
  opened = here-open s t (ap (λ b. b || among t s.refused) (waiting-present t s.clients (by_server (is_empty s.up.waiting) (test-other 0 t (λ e. server (sym e))) (sym (without-other 0 t (waiting_streams s) (λ e. server (sym e))) ∙ inside))));
  no_server = server;
  no_house = gone-from HOUSE t (without 0 (waiting_streams s)) a;
}
  where
    inside : among t (without 0 (waiting_streams s)) ≡ true
    inside = sym (without-other HOUSE t (without 0 (waiting_streams s)) (λ e. gone-from HOUSE t (without 0 (waiting_streams s)) a (sym e))) ∙ a

    server : t ≢ 0
    server = gone-from 0 t (waiting_streams s) inside

    by_server : (b : Bool) → (0 == t) ≡ false → among t (cond b (waiting_clients s.clients) (0 ∷ waiting_clients s.clients)) ≡ true → among t (waiting_clients s.clients) ≡ true
    by_server true e h = h
    by_server false e h = sym (ap (λ b. b || among t (waiting_clients s.clients)) e) ∙ h

pub todo-is : {May : HouseReply → Type 0} {Rest : Resting} {before : Option (List HouseMark)} {now : Side} {policy : Policy} {pid : ℕ} {start : Option (List Mark)} {seen : Seen} {held failed : List ℕ} {given : ℕ} {s : EngineState} (todo todo' : List ℕ) → todo ≡ todo'
    → Serving May Rest before now policy pid start seen held failed given todo s → Serving May Rest before now policy pid start seen held failed given todo' s
todo-is {May} {Rest} {before} {now} {policy} {pid} {start} {seen} {held} {failed} {given} {s} todo todo' e v = subst (λ x. Serving May Rest before now policy pid start seen held failed given x s) e v

-- ---- clients are accepted no more

pub serve-hushed : {May : HouseReply → Type 0} {Rest : Resting} {before : Option (List HouseMark)} {now : Side} {policy : Policy} {pid : ℕ} {start : Option (List Mark)} {seen : Seen} {held failed : List ℕ} {given : ℕ} {todo : List ℕ} {s : EngineState} (v : Serving May Rest before now policy pid start seen held failed given todo s)
    → (s.ended ≡ None → s.listening ≡ false) → Serving May Rest before now policy pid start (record seen { listens = false }) held failed given todo s
serve-hushed {now = now} {todo = todo} v none = serve-as v now false todo (still-noted v) (λ live l. true-false (sym l ∙ none live)) (λ t a. inl a)

-- ---- where nothing waits

none-waits : (q rest : List ℕ) → cond (is_empty q) rest (0 ∷ rest) ≡ [] → q ≡ []
none-waits [] rest e = refl
none-waits (b ∷ q) rest e = absurd (let z : (0 ∷ rest) ≡ [] = e in cc)

-- nothing waits for the server
pub server-idle : {May : HouseReply → Type 0} {Rest : Resting} {before : Option (List HouseMark)} {now : Side} {policy : Policy} {pid : ℕ} {start : Option (List Mark)} {seen : Seen} {held failed : List ℕ} {given : ℕ} {todo : List ℕ} {s : EngineState} → Serving May Rest before now policy pid start seen held failed given todo s → s.waiting ≡ [] → queue_in s 0 ≡ []
server-idle {s = s} v none = none-waits s.up.waiting (waiting_clients s.clients) (sym (v.stands.at [] []).rows.waiting_is ∙ none)
