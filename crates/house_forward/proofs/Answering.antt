-- The next answer, and what it leaves of the requests.
use Rattle.std.proofs.Common.{◌≡◌, ◌∙◌, refl, sym, ap, subst, ℕ, zero, suc, ◌+◌, ◌<◌, Bool, true, false, List, [], ◌∷◌, length, get_or, Option, Some, None, arith}
use Rattle.std.specs.Prelude.{◌||◌, ◌&&◌, nat_lt, not, is_some, IsTrue, if◌then◌else◌}
use Rattle.std.specs.List.{list_any, fold, position, remove}
use Rattle.std.proofs.lemmas.Bool.{or_left, or_right, both_ways, and_from, eq-eqb}
use Rattle.std.proofs.lemmas.List.Edits.{length-remove}
use Rattle.std.proofs.lemmas.List.Quantifiers.{position-Some}
use Rattle.mux_outside.specs.House.{AnswerFits, gives_none, ReplyFits, is_ask, has_ask, without_ask, OpenAsk}
use Rattle.mux_outside.specs.declared.house.HouseReply.{HouseReply}
use Rattle.house_forward.specs.Asks.{has_outcome, is_settled, earlier_outcome, earlier_at, earliest, reply_of, ask_reply_in, stamp_of, is_waiting, without_request_at, answer_in, next_answer, after_answer, answers_in}
use Rattle.house_forward.specs.Known.{open_ask, open_asks, asks_after_answer}
use Rattle.house_forward.specs.Quiet.{answers_none}
use Rattle.house_forward.specs.declared.asks.RequestOutcome.{RequestOutcome}
use Rattle.house_forward.specs.declared.asks.RequestOutcome.TheVariants.{Done, Port, Refused}
use Rattle.house_forward.specs.declared.asks.Waiting.{Waiting}
use Rattle.house_forward.proofs.Lists.{any-map, none-passes}

-- ---- there is one where a request has an outcome

one-of : (b : Bool) (v w : Waiting) → is_some (if b then Some v else Some w) ≡ true
one-of true v w = refl
one-of false v w = refl

some-step : (o : Option (ℕ × RequestOutcome)) (a : Option Waiting) (w : Waiting) (b : Bool)
    → (is_some (earlier_at o a w) || b) ≡ (is_some a || (is_settled o || b))
some-step None a w b = refl
some-step (Some o) None w b = refl
some-step (Some o) (Some f) w b = or_left _ b (one-of (nat_lt o.0 (stamp_of f.outcome)) w f)

some-fold : (ws : List Waiting) (a : Option Waiting)
    → is_some (fold earlier_outcome a ws) ≡ (is_some a || list_any has_outcome ws)
some-fold [] None = refl
some-fold [] (Some f) = refl
some-fold (w ∷ ws) a = some-fold ws (earlier_outcome a w) ∙ some-step w.outcome a w (list_any has_outcome ws)

pub none-earliest : (ws : List Waiting) → earliest ws ≡ None → true ≡ answers_none ws
none-earliest ws e = ap (λ b. not b) (ap is_some (sym e) ∙ some-fold ws None)

pub some-earliest : (ws : List Waiting) (w : Waiting) → earliest ws ≡ Some w → false ≡ answers_none ws
some-earliest ws w e = ap (λ b. not b) (ap is_some (sym e) ∙ some-fold ws None)

-- ---- it is one of them

abbrev passes : (Waiting → Bool) → Option Waiting → Bool
passes q None = false
passes q (Some f) = q f

weaker : (x y b : Bool) → (x || b) ≡ true → (x || (y || b)) ≡ true
weaker true y b h = refl
weaker false true b h = refl
weaker false false b h = h

pick-one : (c : Bool) (q : Waiting → Bool) (f v : Waiting) (b : Bool)
    → (passes q (if c then Some v else Some f) || b) ≡ true → (q f || (q v || b)) ≡ true
pick-one true q f v b h = or_right (q f) _ h
pick-one false q f v b h = weaker (q f) (q v) b h

pick : (o : Option (ℕ × RequestOutcome)) (q : Waiting → Bool) (a : Option Waiting) (v : Waiting) (b : Bool)
    → (passes q (earlier_at o a v) || b) ≡ true → (passes q a || (q v || b)) ≡ true
pick None q a v b h = weaker (passes q a) (q v) b h
pick (Some o) q None v b h = h
pick (Some o) q (Some f) v b h = pick-one (nat_lt o.0 (stamp_of f.outcome)) q f v b h

found : (ws : List Waiting) (a : Option Waiting) (w : Waiting) (q : Waiting → Bool) → fold earlier_outcome a ws ≡ Some w
    → q w ≡ true → (passes q a || list_any q ws) ≡ true
found [] None w q e h = cc
found [] (Some f) w q e h = or_left (q f) false (let same : f ≡ w = cc in rw same h)
found (v ∷ ws) a w q e h = pick v.outcome q a v (list_any q ws) (found ws (earlier_outcome a v) w q e h)

pub among-them : (ws : List Waiting) (w : Waiting) (q : Waiting → Bool) → earliest ws ≡ Some w → q w ≡ true
    → list_any q ws ≡ true
among-them ws w q e h = found ws None w q e h

-- ---- its reply fits

is-own : (w : Waiting) → is_ask w.client w.id (open_ask w) ≡ true
is-own w = and_from _ _ (eq-eqb w.client w.client refl) (eq-eqb w.id w.id refl)

fits-in : (o : Option (ℕ × RequestOutcome)) (b : Bool) (client id : ℕ) (asks : List OpenAsk)
    → IsTrue (list_any (is_ask client id) asks) → (b ≡ true → IsTrue (has_ask client id true asks))
    → ReplyFits (ask_reply_in o b) client id asks
fits-in None b client id asks one may = one
fits-in (Some (at, Done)) b client id asks one may = one
fits-in (Some (at, Port port)) true client id asks one may = may refl
fits-in (Some (at, Port port)) false client id asks one may = one
fits-in (Some (at, Refused)) b client id asks one may = one

pub reply-fits : (ws : List Waiting) (w : Waiting) → earliest ws ≡ Some w
    → ReplyFits (reply_of w) w.client w.id (open_asks ws)
reply-fits ws w e = fits-in w.outcome w.opening w.client w.id (open_asks ws)
    (any-map (is_ask w.client w.id) open_ask ws ∙ among-them ws w (λ v. is_ask w.client w.id (open_ask v)) e (is-own w))
    (λ opens. any-map (λ a. is_ask w.client w.id a && a.opening) open_ask ws
    ∙ among-them ws w (λ v. is_ask w.client w.id (open_ask v) && v.opening) e (and_from _ _ (is-own w) opens))

-- ---- the first with its client and id is answered

answered : (ws : List Waiting) (client id i : ℕ) (d : Waiting) → i < length ws
    → is_ask client id (open_ask (get_or ws i d)) ≡ true
    → ((k : ℕ) → k < i → is_ask client id (open_ask (get_or ws k d)) ≡ false)
    → open_asks (remove ws i) ≡ without_ask client id (open_asks ws)
answered [] client id i d l is before = absurd (omega arith)
answered (w ∷ ws) client id zero d l is before = rw is refl
answered (w ∷ ws) client id (suc i) d l is before =
    rw (before 0 (omega arith)) (ap (λ asks. open_ask w ∷ asks)
    (answered ws client id i d (omega arith) is (λ k lt. before (suc k) (omega arith))))

pub without-first : (ws : List Waiting) (client id i : ℕ) (d : Waiting)
    → position (λ v. is_ask client id (open_ask v)) ws ≡ Some i
    → open_asks (remove ws i) ≡ without_ask client id (open_asks ws)
without-first ws client id i d e =
    let at = position-Some (λ v. is_ask client id (open_ask v)) ws i d e in
    answered ws client id i d at.0 at.1 at.2

pub is-there : (ws : List Waiting) (w : Waiting) → earliest ws ≡ Some w
    → position (λ v. is_ask w.client w.id (open_ask v)) ws ≡ None → ⊥
is-there ws w e none = both_ways (list_any (λ v. is_ask w.client w.id (open_ask v)) ws)
    (none-passes (λ v. is_ask w.client w.id (open_ask v)) ws none)
    (among-them ws w (λ v. is_ask w.client w.id (open_ask v)) e (is-own w))

-- ---- the next answer

-- what is known of an answer, and of the requests that it leaves
pub record IsAnswer (ws : List Waiting) (o : Option (ℕ × ℕ × HouseReply)) (new : List Waiting) : Type 0 where
  pub fits : AnswerFits o (open_asks ws)
  pub silent : gives_none o ≡ answers_none ws
  pub asks : open_asks new ≡ asks_after_answer o (open_asks ws)
  pub count : length new + answers_in o ≡ length ws

taken-out : (ws : List Waiting) (w : Waiting) (o : Option ℕ) → earliest ws ≡ Some w → position (is_waiting w.client w.id) ws ≡ o
    → IsAnswer ws (Some (w.client, w.id, reply_of w)) (without_request_at o ws)
taken-out ws w None e at = absurd (is-there ws w e at)
taken-out ws w (Some i) e at = record {
  fits = reply-fits ws w e;
  silent = some-earliest ws w e;
  asks = without-first ws w.client w.id i w at;
  count =
      let one = length-remove ws i (position-Some (is_waiting w.client w.id) ws i w at).0 in
      omega (arith, one);
}

is-known : (ws : List Waiting) (o : Option Waiting) → earliest ws ≡ o → IsAnswer ws (answer_in o) (after_answer (answer_in o) ws)
is-known ws None e = record { fits = tt; silent = none-earliest ws e; asks = refl; count = omega arith }
is-known ws (Some w) e = taken-out ws w (position (is_waiting w.client w.id) ws) e refl

pub is-answer : (ws : List Waiting) (o : Option (ℕ × ℕ × HouseReply)) (new : List Waiting) → o ≡ next_answer ws
    → new ≡ after_answer o ws → IsAnswer ws o new
is-answer ws o new exact taken = subst (IsAnswer ws o) (sym taken)
    (subst (λ (a : Option (ℕ × ℕ × HouseReply)). IsAnswer ws a (after_answer a ws)) (sym exact) (is-known ws (earliest ws) refl))
