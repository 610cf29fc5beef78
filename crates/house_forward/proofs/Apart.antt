-- No two requests that wait have one client and one id.
use Rattle.std.proofs.Common.{◌≡◌, ◌∙◌, refl, sym, ap, subst, arith, ℕ, zero, suc, ◌<◌, Bool, true, false, List, [], ◌∷◌, ◌++◌, length, get_or, Option, Some, None, inl, inr}
use Rattle.std.specs.Prelude.{◌||◌, ◌&&◌, ◌==◌, find, if◌then◌else◌}
use Rattle.std.specs.List.{All, list_any, position, remove}
use Rattle.std.proofs.lemmas.Bool.{and_parts, and_from, or_parts, or_from, both_ways, cases_Bool, eqb-true, eq-eqb}
use Rattle.std.proofs.lemmas.List.Elements.{All-nil, All-cons}
use Rattle.std.proofs.lemmas.List.Quantifiers.{position-Some}
use Rattle.house_forward.specs.Asks.{has_open, is_waiting, requests_settled, ask_settled_at, is_ask_about, all_requests_refused, one_more_outcome, without_request_at}
use Rattle.house_forward.specs.Forwardings.{opened_asks, replied_asks, ordered_asks, live_outcome_in, is_listen_unanswered}
use Rattle.house_forward.specs.declared.asks.RequestOutcome.{RequestOutcome}
use Rattle.house_forward.specs.declared.asks.RequestOutcome.TheVariants.{Done, Refused}
use Rattle.house_forward.specs.declared.asks.Waiting.{Waiting}
use Rattle.house_forward.specs.declared.forwarding.Forwarding.{Forwarding}
use Rattle.house_forward.specs.declared.forwarding.ForwardingRequest.{ForwardingRequest}
use Rattle.house_forward.specs.declared.forwarding.ForwardingRequest.TheVariants.{Listen, Cancel}
use Rattle.house_forward.proofs.Lists.{none-passes}

abbrev pub Apart : List Waiting → Type 0
Apart [] = Unit {0}
Apart (w ∷ ws) = (has_open w.client w.id ws ≡ false) × Apart ws

-- ---- one more

none-more : (p : Waiting → Bool) (ws : List Waiting) (v : Waiting) → list_any p ws ≡ false → p v ≡ false
    → list_any p (ws ++ v ∷ []) ≡ false
none-more p [] v e f = or_from (p v) false f refl
none-more p (w ∷ ws) v e f =
    let both = or_parts (p w) (list_any p ws) e in
    or_from (p w) (list_any p (ws ++ v ∷ [])) both.0 (none-more p ws v both.1 f)

other-way : (a b c d : ℕ) → ((a == b) && (c == d)) ≡ false → ((b == a) && (d == c)) ≡ false
other-way a b c d e = elim (cases_Bool ((b == a) && (d == c))) [
  | inl is ↦ (let both = and_parts (b == a) (d == c) is in
      absurd (both_ways ((a == b) && (c == d)) e
      (and_from _ _ (eq-eqb a b (sym (eqb-true b a both.0))) (eq-eqb c d (sym (eqb-true d c both.1))))))
  | inr isnt ↦ isnt
]

pub apart-more : (ws : List Waiting) (v : Waiting) → Apart ws → has_open v.client v.id ws ≡ false → Apart (ws ++ v ∷ [])
apart-more [] v h e = (refl, tt)
apart-more (w ∷ ws) v h e =
    let both = or_parts ((w.client == v.client) && (w.id == v.id)) (has_open v.client v.id ws) e in (
      none-more (λ x. (x.client == w.client) && (x.id == w.id)) ws v h.0 (other-way w.client v.client w.id v.id both.0),
      apart-more ws v h.1 both.1,
    )

-- ---- they have an outcome

settle-same : (b : Bool) (w : Waiting) (o : Option (ℕ × RequestOutcome)) (c i : ℕ)
    → (((if b then record w { outcome = o } else w).client == c) && ((if b then record w { outcome = o } else w).id == i))
    ≡ ((w.client == c) && (w.id == i))
settle-same true w o c i = refl
settle-same false w o c i = refl

settled-open : (serial : ℕ) (opening : Bool) (at : ℕ) (outcome : RequestOutcome) (ws : List Waiting) (c i : ℕ)
    → has_open c i (requests_settled serial opening at outcome ws) ≡ has_open c i ws
settled-open serial opening at outcome [] c i = refl
settled-open serial opening at outcome (w ∷ ws) c i =
    ap (λ b. b || has_open c i (requests_settled serial opening at outcome ws))
    (settle-same (is_ask_about serial opening w) w (ask_settled_at at outcome w.outcome) c i)
    ∙ ap (λ b. ((w.client == c) && (w.id == i)) || b) (settled-open serial opening at outcome ws c i)

one-apart : (b : Bool) (w : Waiting) (o : Option (ℕ × RequestOutcome)) (ws : List Waiting) → has_open w.client w.id ws ≡ false
    → has_open (if b then record w { outcome = o } else w).client (if b then record w { outcome = o } else w).id ws ≡ false
one-apart true w o ws h = h
one-apart false w o ws h = h

pub apart-settled : (serial : ℕ) (opening : Bool) (at : ℕ) (outcome : RequestOutcome) (ws : List Waiting) → Apart ws
    → Apart (requests_settled serial opening at outcome ws)
apart-settled serial opening at outcome [] h = tt
apart-settled serial opening at outcome (w ∷ ws) h = (
  one-apart (is_ask_about serial opening w) w (ask_settled_at at outcome w.outcome) (requests_settled serial opening at outcome ws)
      (settled-open serial opening at outcome ws w.client w.id ∙ h.0),
  apart-settled serial opening at outcome ws h.1,
)

pub apart-refused : (serial at : ℕ) (ws : List Waiting) → Apart ws → Apart (all_requests_refused serial at ws)
apart-refused serial at ws h =
    apart-settled serial false (one_more_outcome at) Refused (requests_settled serial true at Refused ws) (apart-settled serial true at Refused ws h)

pub apart-opened : (o : Option RequestOutcome) (serial at : ℕ) (ws : List Waiting) → Apart ws → Apart (opened_asks o serial at ws)
apart-opened None serial at ws h = h
apart-opened (Some outcome) serial at ws h = apart-settled serial true at outcome ws h

pub apart-replied : (success : Bool) (port : Option ℕ) (r : Option ForwardingRequest) (fs : List Forwarding) (at : ℕ) (ws : List Waiting) → Apart ws
    → Apart (replied_asks success port r fs at ws)
apart-replied true port None fs at ws h = h
apart-replied false port None fs at ws h = h
apart-replied true port (Some (Listen serial)) fs at ws h = apart-opened (live_outcome_in port (find (is_listen_unanswered serial) fs)) serial at ws h
apart-replied false port (Some (Listen serial)) fs at ws h = apart-refused serial at ws h
apart-replied true port (Some (Cancel serial)) fs at ws h = apart-settled serial false at Done ws h
apart-replied false port (Some (Cancel serial)) fs at ws h = apart-settled serial false at Refused ws h

pub apart-ordered : (number : Option ℕ) (serial at : ℕ) (ws : List Waiting) → Apart ws → Apart (ordered_asks number serial at ws)
apart-ordered None serial at ws h = apart-refused serial at ws h
apart-ordered (Some l) serial at ws h = apart-settled serial true at Done ws h

-- ---- one is answered

none-left : (p : Waiting → Bool) (ws : List Waiting) (n : ℕ) → list_any p ws ≡ false → list_any p (remove ws n) ≡ false
none-left p [] zero e = refl
none-left p [] (suc n) e = refl
none-left p (w ∷ ws) zero e = (or_parts (p w) (list_any p ws) e).1
none-left p (w ∷ ws) (suc n) e =
    let both = or_parts (p w) (list_any p ws) e in
    or_from (p w) (list_any p (remove ws n)) both.0 (none-left p ws n both.1)

apart-remove : (ws : List Waiting) (n : ℕ) → Apart ws → Apart (remove ws n)
apart-remove [] zero h = tt
apart-remove [] (suc n) h = tt
apart-remove (w ∷ ws) zero h = h.1
apart-remove (w ∷ ws) (suc n) h =
    (none-left (λ v. (v.client == w.client) && (v.id == w.id)) ws n h.0, apart-remove ws n h.1)

pub apart-taken : (o : Option ℕ) (ws : List Waiting) → Apart ws → Apart (without_request_at o ws)
apart-taken None ws h = h
apart-taken (Some n) ws h = apart-remove ws n h

gone-at : (ws : List Waiting) (c i n : ℕ) (d : Waiting) → n < length ws → is_waiting c i (get_or ws n d) ≡ true
    → ((k : ℕ) → k < n → is_waiting c i (get_or ws k d) ≡ false) → Apart ws → list_any (is_waiting c i) (remove ws n) ≡ false
gone-at [] c i n d l is before h = absurd (omega arith)
gone-at (w ∷ ws) c i zero d l is before h =
    let both = and_parts (w.client == c) (w.id == i) is in
    subst (λ (x : ℕ). has_open x i ws ≡ false) (eqb-true w.client c both.0)
    (subst (λ (x : ℕ). has_open w.client x ws ≡ false) (eqb-true w.id i both.1) h.0)
gone-at (w ∷ ws) c i (suc n) d l is before h =
    or_from (is_waiting c i w) (list_any (is_waiting c i) (remove ws n)) (before 0 (omega arith))
    (gone-at ws c i n d (omega arith) is (λ k lt. before (suc k) (omega arith)) h.1)

-- no other has its client and its id
gone : (ws : List Waiting) (c i : ℕ) (o : Option ℕ) → position (is_waiting c i) ws ≡ o → Apart ws
    → list_any (is_waiting c i) (without_request_at o ws) ≡ false
gone ws c i None e h = none-passes (is_waiting c i) ws e
gone [] c i (Some n) e h = cc
gone (w ∷ ws) c i (Some n) e h =
    let first = position-Some (is_waiting c i) (w ∷ ws) n w e in
    gone-at (w ∷ ws) c i n w first.0 first.1 first.2 h

none-all : (p : Waiting → Bool) (ws : List Waiting) → list_any p ws ≡ false → All (λ w. p w ≡ false) ws
none-all p [] e = All-nil (λ (w : Waiting). p w ≡ false)
none-all p (w ∷ ws) e =
    let both = or_parts (p w) (list_any p ws) e in
    All-cons (λ (w : Waiting). p w ≡ false) w ws both.0 (none-all p ws both.1)

pub others : (ws : List Waiting) (c i : ℕ) (o : Option ℕ) → position (is_waiting c i) ws ≡ o → Apart ws
    → All (λ w. is_waiting c i w ≡ false) (without_request_at o ws)
others ws c i o e h = none-all (is_waiting c i) (without_request_at o ws) (gone ws c i o e h)
