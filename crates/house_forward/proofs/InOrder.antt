-- The listeners of the forwardings, in the order in which they were made.
use Rattle.std.proofs.Common.{◌≡◌, ◌∙◌, refl, sym, ap, subst, ℕ, zero, suc, ◌+◌, ◌<◌, ◌≤◌, Bool, true, false, cond, List, [], ◌∷◌, ◌++◌, length, get_or, set, map, filter, Option, Some, None, arith}
use Rattle.std.specs.Prelude.{◌||◌, ◌&&◌, ◌==◌, not, is_some, find, if◌then◌else◌}
use Rattle.std.specs.List.{cons_option, sum_by, position, remove}
use Rattle.std.proofs.lemmas.Bool.{or_left, or_right, or_parts, or_from, and_parts, and_from, both_ways, not-true, not_from_false, eq-eqb}
use Rattle.std.proofs.lemmas.List.Quantifiers.{position-Some}
use Rattle.std.proofs.lemmas.List.Sums.{sum_by-cons, sum_by-set, sum_by-remove}
use Rattle.mux_outside.specs.Streams.{among, without}
use Rattle.house_forward.specs.Asks.{owes_opening}
use Rattle.house_forward.specs.Due.{forwarding_due, listener_due}
use Rattle.house_forward.specs.Forwardings.{listener_of, listener_at, listeners_of, has_a_listener, to_listen, waits_at, is_in_order, has_listener, is_listener, forwarding_changed, listener_stage_after, next_listener_order, next_at, is_ordered_first, is_to_listen, is_first, asks_at, cancels_at, is_listen_unanswered, is_cancelled, serial_of, want_in, pends, is_order_pending, is_first_to_listen}
use Rattle.house_forward.specs.declared.asks.Waiting.{Waiting}
use Rattle.house_forward.specs.declared.forwarding.Change.{Change}
use Rattle.house_forward.specs.declared.forwarding.Change.TheVariants as change
use Rattle.house_forward.specs.declared.forwarding.Forwarding.{Forwarding}
use Rattle.house_forward.specs.declared.forwarding.Stage.{Stage}
use Rattle.house_forward.specs.declared.forwarding.Stage.TheVariants.{ToListen, Ordered, Listening, ToRequest, Requested, Live, Cancelling}
use Rattle.house_forward.specs.declared.forwardings.ForwardingWant.{ForwardingWant}
use Rattle.house_forward.specs.declared.forwardings.ForwardingWant.TheVariants as want
use Rattle.house_forward.proofs.Lists.{kept-remove, kept-set, none-found, none-passes, found-first}

-- ---- in order, of what is after a forwarding

abbrev before : Stage → List Forwarding → Bool
before s fs = not (waits_at s && has_a_listener fs)

-- ---- what changes no listener

stage-listener : (c : Change) (port : ℕ) (s : Stage) → listener_at (listener_stage_after c port s) ≡ listener_at s
stage-listener c port (ToListen host) = refl
stage-listener c port Ordered = refl
stage-listener c port (Listening l) = refl
stage-listener change.Close port ToRequest = refl
stage-listener change.ForwardingRequest port ToRequest = refl
stage-listener change.Cancel port ToRequest = refl
stage-listener (change.Live p) port ToRequest = refl
stage-listener change.Stay port ToRequest = refl
stage-listener change.Close port Requested = refl
stage-listener change.ForwardingRequest port Requested = refl
stage-listener change.Cancel port Requested = refl
stage-listener (change.Live p) port Requested = refl
stage-listener change.Stay port Requested = refl
stage-listener change.Close port (Live p) = refl
stage-listener change.ForwardingRequest port (Live p) = refl
stage-listener change.Cancel port (Live p) = refl
stage-listener (change.Live q) port (Live p) = refl
stage-listener change.Stay port (Live p) = refl
stage-listener change.Close port (Cancelling p) = refl
stage-listener change.ForwardingRequest port (Cancelling p) = refl
stage-listener change.Cancel port (Cancelling p) = refl
stage-listener (change.Live q) port (Cancelling p) = refl
stage-listener change.Stay port (Cancelling p) = refl

stage-waits : (c : Change) (port : ℕ) (s : Stage) → waits_at (listener_stage_after c port s) ≡ waits_at s
stage-waits c port (ToListen host) = refl
stage-waits c port Ordered = refl
stage-waits c port (Listening l) = refl
stage-waits change.Close port ToRequest = refl
stage-waits change.ForwardingRequest port ToRequest = refl
stage-waits change.Cancel port ToRequest = refl
stage-waits (change.Live p) port ToRequest = refl
stage-waits change.Stay port ToRequest = refl
stage-waits change.Close port Requested = refl
stage-waits change.ForwardingRequest port Requested = refl
stage-waits change.Cancel port Requested = refl
stage-waits (change.Live p) port Requested = refl
stage-waits change.Stay port Requested = refl
stage-waits change.Close port (Live p) = refl
stage-waits change.ForwardingRequest port (Live p) = refl
stage-waits change.Cancel port (Live p) = refl
stage-waits (change.Live q) port (Live p) = refl
stage-waits change.Stay port (Live p) = refl
stage-waits change.Close port (Cancelling p) = refl
stage-waits change.ForwardingRequest port (Cancelling p) = refl
stage-waits change.Cancel port (Cancelling p) = refl
stage-waits (change.Live q) port (Cancelling p) = refl
stage-waits change.Stay port (Cancelling p) = refl

listener-if : (b : Bool) (x y : Forwarding) → listener_of x ≡ listener_of y → listener_of (if b then x else y) ≡ listener_of y
listener-if true x y e = e
listener-if false x y e = refl

waits-if : (b : Bool) (x y : Forwarding) → to_listen x ≡ to_listen y → to_listen (if b then x else y) ≡ to_listen y
waits-if true x y e = e
waits-if false x y e = refl

pub changed-listener : (c : Change) (serial : ℕ) (f : Forwarding) → listener_of (forwarding_changed c serial f) ≡ listener_of f
changed-listener c serial f = listener-if (f.serial == serial) _ f (stage-listener c f.listen_port f.stage)

changed-waits : (c : Change) (serial : ℕ) (f : Forwarding) → to_listen (forwarding_changed c serial f) ≡ to_listen f
changed-waits c serial f = waits-if (f.serial == serial) _ f (stage-waits c f.listen_port f.stage)

pub changed-listeners : (c : Change) (serial : ℕ) (fs : List Forwarding) → listeners_of (map (forwarding_changed c serial) fs) ≡ listeners_of fs
changed-listeners c serial [] = refl
changed-listeners c serial (f ∷ fs) =
    ap (λ o. cons_option o (listeners_of (map (forwarding_changed c serial) fs))) (changed-listener c serial f)
    ∙ ap (λ ls. cons_option (listener_of f) ls) (changed-listeners c serial fs)

changed-listens : (c : Change) (serial : ℕ) (fs : List Forwarding) → has_a_listener (map (forwarding_changed c serial) fs) ≡ has_a_listener fs
changed-listens c serial [] = refl
changed-listens c serial (f ∷ fs) =
    ap (λ o. is_some o || has_a_listener (map (forwarding_changed c serial) fs)) (changed-listener c serial f)
    ∙ ap (λ b. is_some (listener_of f) || b) (changed-listens c serial fs)

pub changed-order : (c : Change) (serial : ℕ) (fs : List Forwarding) → is_in_order (map (forwarding_changed c serial) fs) ≡ is_in_order fs
changed-order c serial [] = refl
changed-order c serial (f ∷ fs) =
    ap (λ b. not (b && has_a_listener (map (forwarding_changed c serial) fs)) && is_in_order (map (forwarding_changed c serial) fs)) (changed-waits c serial f)
    ∙ ap (λ b. not (to_listen f && b) && is_in_order (map (forwarding_changed c serial) fs)) (changed-listens c serial fs)
    ∙ ap (λ b. not (to_listen f && has_a_listener fs) && b) (changed-order c serial fs)

-- ---- one more, that has no listener

listens-more : (fs : List Forwarding) (f : Forwarding) → listener_of f ≡ None → has_a_listener (fs ++ f ∷ []) ≡ has_a_listener fs
listens-more [] f e = rw e refl
listens-more (g ∷ fs) f e = ap (λ b. is_some (listener_of g) || b) (listens-more fs f e)

pub listeners_more : (fs : List Forwarding) (f : Forwarding) → listener_of f ≡ None → listeners_of (fs ++ f ∷ []) ≡ listeners_of fs
listeners_more [] f e = rw e refl
listeners_more (g ∷ fs) f e = ap (λ ls. cons_option (listener_of g) ls) (listeners_more fs f e)

last-in : (b : Bool) → (not (b && false) && true) ≡ true
last-in true = refl
last-in false = refl

pub order_more : (fs : List Forwarding) (f : Forwarding) → listener_of f ≡ None → is_in_order (fs ++ f ∷ []) ≡ is_in_order fs
order_more [] f e = last-in (to_listen f)
order_more (g ∷ fs) f e =
    ap (λ b. not (to_listen g && b) && is_in_order (fs ++ f ∷ [])) (listens-more fs f e)
    ∙ ap (λ b. not (to_listen g && has_a_listener fs) && b) (order_more fs f e)

-- ---- some are gone

part-in : (w b c : Bool) → (b ≡ false → c ≡ false) → not (w && b) ≡ true → not (w && c) ≡ true
part-in false b c less e = refl
part-in true b c less e = not_from_false c (less (not-true b e))

listens-remove : (fs : List Forwarding) (i : ℕ) → has_a_listener fs ≡ false → has_a_listener (remove fs i) ≡ false
listens-remove [] zero e = refl
listens-remove [] (suc i) e = refl
listens-remove (f ∷ fs) zero e = (or_parts (is_some (listener_of f)) (has_a_listener fs) e).1
listens-remove (f ∷ fs) (suc i) e =
    let both = or_parts (is_some (listener_of f)) (has_a_listener fs) e in
    or_from (is_some (listener_of f)) _ both.0 (listens-remove fs i both.1)

pub order-remove : (fs : List Forwarding) (i : ℕ) → is_in_order fs ≡ true → is_in_order (remove fs i) ≡ true
order-remove [] zero e = refl
order-remove [] (suc i) e = refl
order-remove (f ∷ fs) zero e = (and_parts (before f.stage fs) (is_in_order fs) e).1
order-remove (f ∷ fs) (suc i) e =
    let both = and_parts (before f.stage fs) (is_in_order fs) e in
    and_from _ _ (part-in (to_listen f) (has_a_listener fs) (has_a_listener (remove fs i)) (listens-remove fs i) both.0) (order-remove fs i both.1)

listens-cond : (b : Bool) (f : Forwarding) (fs : List Forwarding) → is_some (listener_of f) ≡ false → has_a_listener fs ≡ false
    → has_a_listener (cond b (f ∷ fs) fs) ≡ false
listens-cond true f fs e n = or_from (is_some (listener_of f)) (has_a_listener fs) e n
listens-cond false f fs e n = n

listens-filter : (p : Forwarding → Bool) (fs : List Forwarding) → has_a_listener fs ≡ false → has_a_listener (filter p fs) ≡ false
listens-filter p [] e = refl
listens-filter p (f ∷ fs) e =
    let both = or_parts (is_some (listener_of f)) (has_a_listener fs) e in
    listens-cond (p f) f (filter p fs) both.0 (listens-filter p fs both.1)

order-cond : (b : Bool) (f : Forwarding) (fs : List Forwarding) → before f.stage fs ≡ true → is_in_order fs ≡ true
    → is_in_order (cond b (f ∷ fs) fs) ≡ true
order-cond true f fs e n = and_from _ _ e n
order-cond false f fs e n = n

pub order-filter : (p : Forwarding → Bool) (fs : List Forwarding) → is_in_order fs ≡ true → is_in_order (filter p fs) ≡ true
order-filter p [] e = refl
order-filter p (f ∷ fs) e =
    let both = and_parts (before f.stage fs) (is_in_order fs) e in
    order-cond (p f) f (filter p fs) (part-in (to_listen f) (has_a_listener fs) (has_a_listener (filter p fs)) (listens-filter p fs) both.0)
    (order-filter p fs both.1)

-- ---- the one of a listener is gone

gone-one : (b : Bool) (k : ℕ) (f : Forwarding) (fs : List Forwarding) (ls : List ℕ) → listener_of f ≡ Some k → listeners_of fs ≡ ls
    → listeners_of (cond (not b) (f ∷ fs) fs) ≡ cond (not b) (k ∷ ls) ls
gone-one true k f fs ls e n = n
gone-one false k f fs ls e n = rw e (ap (λ ms. k ∷ ms) n)

gone-in : (o : Option ℕ) (l : ℕ) (f : Forwarding) (fs : List Forwarding) (ls : List ℕ) → listener_of f ≡ o → listeners_of fs ≡ without l ls
    → listeners_of (cond (not (is_listener l o)) (f ∷ fs) fs) ≡ without l (cons_option o ls)
gone-in None l f fs ls e n = rw e n
gone-in (Some k) l f fs ls e n = gone-one (k == l) k f fs (without l ls) e n

pub listeners-without : (l : ℕ) (fs : List Forwarding)
    → listeners_of (filter (λ f. not (has_listener l f)) fs) ≡ without l (listeners_of fs)
listeners-without l [] = refl
listeners-without l (f ∷ fs) =
    gone-in (listener_of f) l f (filter (λ g. not (has_listener l g)) fs) (listeners_of fs) refl (listeners-without l fs)

-- ---- which order is next

pub among-more : (o : Option ℕ) (l : ℕ) (ls : List ℕ) → among l ls ≡ true → among l (cons_option o ls) ≡ true
among-more None l ls e = e
among-more (Some k) l ls e = or_right (k == l) _ e

pub among-first : (l : ℕ) (ls : List ℕ) → among l (l ∷ ls) ≡ true
among-first l ls = or_left _ _ (eq-eqb l l refl)

-- a listener that is to be closed is that of a forwarding, which uses room for one mark
pub record Unlistens (l : ℕ) (fs : List Forwarding) : Type 0 where
  pub among : among l (listeners_of fs) ≡ true
  pub due : sum_by forwarding_due (filter (λ f. not (has_listener l f)) fs) + 1 ≤ sum_by forwarding_due fs

sum-cond : (b : Bool) (f : Forwarding) (fs : List Forwarding)
    → sum_by forwarding_due (cond b (f ∷ fs) fs) ≤ forwarding_due f + sum_by forwarding_due fs
sum-cond true f fs = let one = sum_by-cons forwarding_due f fs in omega (arith, one)
sum-cond false f fs = omega arith

sum-filter : (p : Forwarding → Bool) (fs : List Forwarding) → sum_by forwarding_due (filter p fs) ≤ sum_by forwarding_due fs
sum-filter p [] = omega arith
sum-filter p (f ∷ fs) =
    let one = sum-cond (p f) f (filter p fs) in
    let two = sum_by-cons forwarding_due f fs in
    omega (arith, one, two, sum-filter p fs)

due-of : (s : Stage) (l : ℕ) → listener_at s ≡ Some l → 1 ≤ listener_due s
due-of (ToListen host) l e = cc
due-of Ordered l e = cc
due-of (Listening k) l e = omega arith
due-of ToRequest l e = cc
due-of Requested l e = cc
due-of (Live port) l e = cc
due-of (Cancelling port) l e = cc

unlistens-first : (f : Forwarding) (fs : List Forwarding) (l : ℕ) → listener_of f ≡ Some l → Unlistens l (f ∷ fs)
unlistens-first f fs l e = record {
  among = rw e (among-first l (listeners_of fs));
  due =
      let is : has_listener l f ≡ true = rw e (eq-eqb l l refl) in
      let one = sum-filter (λ g. not (has_listener l g)) fs in
      let two = sum_by-cons forwarding_due f fs in
      let three = due-of f.stage l e in
      rw is (omega (arith, one, two, three));
}

unlistens-more : (f : Forwarding) (fs : List Forwarding) (l : ℕ) → Unlistens l fs → Unlistens l (f ∷ fs)
unlistens-more f fs l u = record {
  among = among-more (listener_of f) l (listeners_of fs) u.among;
  due =
      let one = sum-cond (not (has_listener l f)) f (filter (λ g. not (has_listener l g)) fs) in
      let two = sum_by-cons forwarding_due f fs in
      omega (arith, one, two, u.due);
}

ends-with : (b : Bool) (serial serial' l k : ℕ) → (if b then None else Some (want.Unlisten serial k)) ≡ Some (want.Unlisten serial' l) → k ≡ l
ends-with true serial serial' l k e = cc
ends-with false serial serial' l k e = cc

unlistens-at : (s : Stage) (b : Bool) (ws : List Waiting) (f : Forwarding) (fs : List Forwarding) (serial l : ℕ) → f.stage ≡ s
    → next_at s b f.serial ws (next_listener_order ws fs) ≡ Some (want.Unlisten serial l)
    → (next_listener_order ws fs ≡ Some (want.Unlisten serial l) → Unlistens l fs) → Unlistens l (f ∷ fs)
unlistens-at (ToListen host) b ws f fs serial l is e more = cc
unlistens-at Ordered b ws f fs serial l is e more = cc
unlistens-at (Listening k) true ws f fs serial l is e more =
    let same : k ≡ l = ends-with (owes_opening f.serial ws) f.serial serial l k e in
    unlistens-first f fs l (ap listener_at is ∙ ap (λ n. Some n) same)
unlistens-at (Listening k) false ws f fs serial l is e more = unlistens-more f fs l (more e)
unlistens-at ToRequest b ws f fs serial l is e more = unlistens-more f fs l (more e)
unlistens-at Requested b ws f fs serial l is e more = unlistens-more f fs l (more e)
unlistens-at (Live port) b ws f fs serial l is e more = unlistens-more f fs l (more e)
unlistens-at (Cancelling port) b ws f fs serial l is e more = unlistens-more f fs l (more e)

pub unlistens : (ws : List Waiting) (fs : List Forwarding) (serial l : ℕ) → next_listener_order ws fs ≡ Some (want.Unlisten serial l) → Unlistens l fs
unlistens ws [] serial l e = cc
unlistens ws (f ∷ fs) serial l e = unlistens-at f.stage f.closing ws f fs serial l refl e (unlistens ws fs serial l)

never : (b : Bool) (serial k : ℕ) → (if b then None else Some (want.Unlisten serial k)) ≡ Some want.Listen → ⊥
never true serial k e = cc
never false serial k e = cc

-- where one is to listen next, the first that has no listener yet isn't ordered
listens-at : (s : Stage) (b : Bool) (ws : List Waiting) (f : Forwarding) (fs : List Forwarding) → f.stage ≡ s
    → next_at s b f.serial ws (next_listener_order ws fs) ≡ Some want.Listen
    → (next_listener_order ws fs ≡ Some want.Listen → is_first_to_listen (find to_listen fs) ≡ true)
    → is_first_to_listen (find to_listen (f ∷ fs)) ≡ true
listens-at (ToListen host) b ws f fs is e more = rw is refl
listens-at Ordered b ws f fs is e more = cc
listens-at (Listening k) true ws f fs is e more = absurd (never (owes_opening f.serial ws) f.serial k e)
listens-at (Listening k) false ws f fs is e more = rw is (more e)
listens-at ToRequest b ws f fs is e more = rw is (more e)
listens-at Requested b ws f fs is e more = rw is (more e)
listens-at (Live port) b ws f fs is e more = rw is (more e)
listens-at (Cancelling port) b ws f fs is e more = rw is (more e)

pub listens-first : (ws : List Waiting) (fs : List Forwarding) → next_listener_order ws fs ≡ Some want.Listen
    → is_first_to_listen (find to_listen fs) ≡ true
listens-first ws [] e = cc
listens-first ws (f ∷ fs) e = listens-at f.stage f.closing ws f fs refl e (listens-first ws fs)

-- ---- a listener is made

waits-less : (w v b : Bool) → (w ≡ true → v ≡ true) → not (v && b) ≡ true → not (w && b) ≡ true
waits-less false v b keeps e = refl
waits-less true v b keeps e = let is : v ≡ true = keeps refl in subst (λ u. not (u && b) ≡ true) is e

behind-it : (w b : Bool) → w ≡ true → not (w && b) ≡ true → b ≡ false
behind-it true b e n = not-true b n
behind-it false b e n = cc

cons-more : (o : Option ℕ) (ls : List ℕ) (l : ℕ) → cons_option o (ls ++ l ∷ []) ≡ cons_option o ls ++ l ∷ []
cons-more None ls l = refl
cons-more (Some k) ls l = refl

-- nothing that is written at the first that has no listener yet changes what is before it
pub set-order : (fs : List Forwarding) (i : ℕ) (g d : Forwarding) → i < length fs
    → ((k : ℕ) → k < i → to_listen (get_or fs k d) ≡ false) → (to_listen g ≡ true → to_listen (get_or fs i d) ≡ true)
    → is_in_order fs ≡ true → is_in_order (set fs i g) ≡ true
set-order [] i g d l first keeps e = absurd (omega arith)
set-order (f ∷ fs) zero g d l first keeps e =
    let both = and_parts (before f.stage fs) (is_in_order fs) e in
    and_from _ _ (waits-less (to_listen g) (to_listen f) (has_a_listener fs) keeps both.0) both.1
set-order (f ∷ fs) (suc i) g d l first keeps e =
    let both = and_parts (before f.stage fs) (is_in_order fs) e in
    let not-yet : to_listen f ≡ false = first 0 (omega arith) in
    and_from _ _ (rw not-yet refl) (set-order fs i g d (omega arith) (λ k lt. first (suc k) (omega arith)) keeps both.1)

none-at : (o : Option ℕ) (ls : List ℕ) → is_some o ≡ false → ls ≡ [] → cons_option o ls ≡ []
none-at None ls e n = n
none-at (Some k) ls e n = cc

none-listen : (fs : List Forwarding) → has_a_listener fs ≡ false → listeners_of fs ≡ []
none-listen [] e = refl
none-listen (f ∷ fs) e =
    let both = or_parts (is_some (listener_of f)) (has_a_listener fs) e in
    none-at (listener_of f) (listeners_of fs) both.0 (none-listen fs both.1)

waits-none : (s : Stage) → waits_at s ≡ true → listener_at s ≡ None
waits-none (ToListen host) e = refl
waits-none Ordered e = refl
waits-none (Listening l) e = cc
waits-none ToRequest e = cc
waits-none Requested e = cc
waits-none (Live port) e = cc
waits-none (Cancelling port) e = cc

pub made-listeners : (fs : List Forwarding) (i : ℕ) (g d : Forwarding) (l : ℕ) → i < length fs
    → to_listen (get_or fs i d) ≡ true → listener_of g ≡ Some l → is_in_order fs ≡ true
    → listeners_of (set fs i g) ≡ listeners_of fs ++ l ∷ []
made-listeners [] i g d l lt is e o = absurd (omega arith)
made-listeners (f ∷ fs) zero g d l lt is e o =
    let both = and_parts (before f.stage fs) (is_in_order fs) o in
    let none : listeners_of fs ≡ [] = none-listen fs (behind-it (to_listen f) (has_a_listener fs) is both.0) in
    rw (e, waits-none f.stage is, none) refl
made-listeners (f ∷ fs) (suc i) g d l lt is e o =
    let both = and_parts (before f.stage fs) (is_in_order fs) o in
    ap (λ ls. cons_option (listener_of f) ls) (made-listeners fs i g d l (omega arith) is e both.1)
    ∙ cons-more (listener_of f) (listeners_of fs) l

pub waits-remove : (fs : List Forwarding) (i : ℕ) (d : Forwarding) → i < length fs → to_listen (get_or fs i d) ≡ true
    → listeners_of (remove fs i) ≡ listeners_of fs
waits-remove fs i d l is = kept-remove listener_of fs i d l (waits-none (get_or fs i d).stage is)

first-none : (s : Stage) → is_first s ≡ true → listener_at s ≡ None
first-none (ToListen host) e = refl
first-none Ordered e = cc
first-none (Listening l) e = cc
first-none ToRequest e = refl
first-none Requested e = cc
first-none (Live port) e = cc
first-none (Cancelling port) e = cc

-- one that is asked for has no listener yet
pub first_listens : (f : Forwarding) → is_first f.stage ≡ true → listener_of f ≡ None
first_listens f e = first-none f.stage e

asked-none : (s : Stage) → asks_at s ≡ true → listener_at s ≡ None
asked-none (ToListen host) e = cc
asked-none Ordered e = cc
asked-none (Listening l) e = cc
asked-none ToRequest e = cc
asked-none Requested e = refl
asked-none (Live port) e = cc
asked-none (Cancelling port) e = cc

cancels-none : (s : Stage) → cancels_at s ≡ true → listener_at s ≡ None
cancels-none (ToListen host) e = cc
cancels-none Ordered e = cc
cancels-none (Listening l) e = cc
cancels-none ToRequest e = cc
cancels-none Requested e = cc
cancels-none (Live port) e = cc
cancels-none (Cancelling port) e = refl

-- the request of the forwarding at this place is refused, or its cancel granted
pub asked-remove : (serial : ℕ) (fs : List Forwarding) (i : ℕ) (d : Forwarding) → position (is_listen_unanswered serial) fs ≡ Some i
    → listeners_of (remove fs i) ≡ listeners_of fs
asked-remove serial fs i d e =
    let at = position-Some (is_listen_unanswered serial) fs i d e in
    kept-remove listener_of fs i d at.0 (asked-none (get_or fs i d).stage (and_parts ((get_or fs i d).serial == serial) _ at.1).1)

cancelled-remove : (serial : ℕ) (fs : List Forwarding) (i : ℕ) (d : Forwarding) → position (is_cancelled serial) fs ≡ Some i
    → listeners_of (remove fs i) ≡ listeners_of fs
cancelled-remove serial fs i d e =
    let at = position-Some (is_cancelled serial) fs i d e in
    kept-remove listener_of fs i d at.0 (cancels-none (get_or fs i d).stage (and_parts ((get_or fs i d).serial == serial) _ at.1).1)

-- ---- what waits for its number

pub none-waits : (fs : List Forwarding) → position to_listen fs ≡ None → is_ordered_first (find to_listen fs) ≡ true → ⊥
none-waits fs e is =
    let none = none-found to_listen fs (none-passes to_listen fs e) in
    both_ways (is_ordered_first (find to_listen fs)) (ap is_ordered_first none) is

pub waits-serial : (fs : List Forwarding) (i : ℕ) (x : Forwarding) → position to_listen fs ≡ Some i → x ≡ get_or fs i x
    → serial_of (find to_listen fs) ≡ x.serial
waits-serial fs i x e at =
    let first = position-Some to_listen fs i x e in
    ap serial_of (found-first to_listen fs i x first.0 first.1 first.2) ∙ ap (λ (f : Forwarding). f.serial) (sym at)

waits-two : (s : Stage) → waits_at s ≡ true → listener_due s ≡ 2
waits-two (ToListen host) e = refl
waits-two Ordered e = refl
waits-two (Listening l) e = cc
waits-two ToRequest e = cc
waits-two Requested e = cc
waits-two (Live port) e = cc
waits-two (Cancelling port) e = cc

-- its listener is made
pub record Made (l : ℕ) (old new : List Forwarding) : Type 0 where
  pub in_order : is_in_order new ≡ true
  pub listeners : listeners_of new ≡ listeners_of old ++ l ∷ []
  pub due : sum_by forwarding_due new + 1 ≤ sum_by forwarding_due old

pub made : (fs : List Forwarding) (i l : ℕ) (g x : Forwarding) → position to_listen fs ≡ Some i → is_in_order fs ≡ true
    → g.stage ≡ Listening l → Made l fs (set fs i g)
made fs i l g x e o is =
    let first = position-Some to_listen fs i x e in
    record {
      in_order = set-order fs i g x first.0 first.2 (λ h. absurd (both_ways (waits_at g.stage) (ap waits_at is) h)) o;
      listeners = made-listeners fs i g x l first.0 first.1 (ap listener_at is) o;
      due =
          let one = sum_by-set forwarding_due fs i g x first.0 in
          let two = waits-two (get_or fs i x).stage first.1 in
          let three = ap listener_due is in
          omega (arith, one, two, three);
    }

nil-last : (ls : List ℕ) → ls ≡ ls ++ []
nil-last [] = refl
nil-last (l ∷ ls) = ap (λ ms. l ∷ ms) (nil-last ls)

-- it couldn't be made
pub record Failed (old new : List Forwarding) : Type 0 where
  pub listeners : listeners_of new ≡ listeners_of old ++ []
  pub due : sum_by forwarding_due new + 1 ≤ sum_by forwarding_due old

pub fails : (fs : List Forwarding) (i : ℕ) (x : Forwarding) → position to_listen fs ≡ Some i → Failed fs (remove fs i)
fails fs i x e =
    let first = position-Some to_listen fs i x e in
    record {
      listeners = waits-remove fs i x first.0 first.1 ∙ nil-last (listeners_of fs);
      due =
          let one = sum_by-remove forwarding_due fs i x first.0 in
          let two = waits-two (get_or fs i x).stage first.1 in
          omega (arith, one, two);
    }

-- ---- the first that is to be ordered or closed

found-at : (s : Stage) (b : Bool) (ws : List Waiting) (f : Forwarding) (o : Option ForwardingWant) (r : Option Forwarding) → f.stage ≡ s → f.closing ≡ b
    → o ≡ want_in ws r → next_at s b f.serial ws o ≡ want_in ws (cond (pends s b) (Some f) r)
found-at (ToListen host) b ws f o r is closing e = rw is refl
found-at Ordered b ws f o r is closing e = rw is refl
found-at (Listening l) true ws f o r is closing e = rw (is, closing) refl
found-at (Listening l) false ws f o r is closing e = e
found-at ToRequest b ws f o r is closing e = e
found-at Requested b ws f o r is closing e = e
found-at (Live port) b ws f o r is closing e = e
found-at (Cancelling port) b ws f o r is closing e = e

pub found_next : (ws : List Waiting) (fs : List Forwarding) → next_listener_order ws fs ≡ want_in ws (find is_order_pending fs)
found_next ws [] = refl
found_next ws (f ∷ fs) = found-at f.stage f.closing ws f (next_listener_order ws fs) (find is_order_pending fs) refl refl (found_next ws fs)

pub asked-there : (serial : ℕ) (fs : List Forwarding) (i : ℕ) → position (is_listen_unanswered serial) fs ≡ Some i
    → listeners_of (remove fs i) ≡ listeners_of fs
asked-there serial [] i e = cc
asked-there serial (f ∷ fs) i e = asked-remove serial (f ∷ fs) i f e

pub cancelled-there : (serial : ℕ) (fs : List Forwarding) (i : ℕ) → position (is_cancelled serial) fs ≡ Some i
    → listeners_of (remove fs i) ≡ listeners_of fs
cancelled-there serial [] i e = cc
cancelled-there serial (f ∷ fs) i e = cancelled-remove serial (f ∷ fs) i f e

-- ---- the first is ordered

first-place : (fs : List Forwarding) (i : ℕ) (x : Forwarding) → position to_listen fs ≡ Some i → x ≡ get_or fs i x
    → is_first_to_listen (find to_listen fs) ≡ true → is_to_listen x.stage ≡ true
first-place fs i x e at is =
    let first = position-Some to_listen fs i x e in
    subst (λ (f : Forwarding). is_to_listen f.stage ≡ true) (sym at)
    (subst (λ (o : Option Forwarding). is_first_to_listen o ≡ true) (found-first to_listen fs i x first.0 first.1 first.2) is)

first-set : (fs : List Forwarding) (i : ℕ) (g d : Forwarding) → i < length fs → ((k : ℕ) → k < i → to_listen (get_or fs k d) ≡ false)
    → g.stage ≡ Ordered → is_ordered_first (find to_listen (set fs i g)) ≡ true
first-set [] i g d l before' is = absurd (omega arith)
first-set (f ∷ fs) zero g d l before' is = rw is refl
first-set (f ∷ fs) (suc i) g d l before' is =
    rw (before' 0 (omega arith)) (first-set fs i g d (omega arith) (λ k lt. before' (suc k) (omega arith)) is)

-- the first that is to listen is ordered
pub record IsOrdered (old new : List Forwarding) : Type 0 where
  pub in_order : is_in_order new ≡ true
  pub listeners : listeners_of new ≡ listeners_of old
  pub first : is_ordered_first (find to_listen new) ≡ true
  pub due : sum_by forwarding_due new ≡ sum_by forwarding_due old

pub orders : (fs : List Forwarding) (i : ℕ) (x g : Forwarding) → position to_listen fs ≡ Some i → x ≡ get_or fs i x
    → is_in_order fs ≡ true → g ≡ record x { stage = Ordered } → IsOrdered fs (set fs i g)
orders fs i x g e at o same =
    let first = position-Some to_listen fs i x e in
    let is : g.stage ≡ Ordered = ap (λ (f : Forwarding). f.stage) same in
    record {
      in_order = set-order fs i g x first.0 first.2 (λ h. first.1) o;
      listeners = kept-set listener_of fs i g x first.0 (ap listener_at is ∙ sym (waits-none (get_or fs i x).stage first.1));
      first = first-set fs i g x first.0 first.2 is;
      due =
          let one = sum_by-set forwarding_due fs i g x first.0 in
          let two = waits-two (get_or fs i x).stage first.1 in
          let three : listener_due g.stage ≡ 2 = ap listener_due is in
          omega (arith, one, two, three);
    }

pub to-listen-at : (fs : List Forwarding) (i : ℕ) (x : Forwarding) → position to_listen fs ≡ Some i → x ≡ get_or fs i x
    → is_first_to_listen (find to_listen fs) ≡ true → is_to_listen x.stage ≡ true
to-listen-at fs i x e at is = first-place fs i x e at is

pub none-first : (fs : List Forwarding) → position to_listen fs ≡ None → is_first_to_listen (find to_listen fs) ≡ true → ⊥
none-first fs e is =
    let none = none-found to_listen fs (none-passes to_listen fs e) in
    both_ways (is_first_to_listen (find to_listen fs)) (ap is_first_to_listen none) is
