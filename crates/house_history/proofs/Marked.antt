-- The calls that the marks of a journal have: of its first marks they are the first, and of the own
-- streams they record what the marks record.
use Rattle.std.proofs.Common.{◌≡◌, ℕ, Bool, true, false, List, [], ◌∷◌, ◌++◌, map, Option, Some, None, cond, refl, sym, ap, ◌∙◌, arith, append_assoc, append-nil}
use Rattle.std.specs.Prelude.{◌==◌, not, ◌≤◌, ◌+◌, if◌then◌else◌, length}
use Rattle.std.specs.Option.{option_to_list}
use Rattle.std.proofs.lemmas.Bool.{and_parts, both_ways, eq-eqb, eqb-true, not-true}
use Rattle.std.proofs.lemmas.List.{append_cancel_left, map-append}
use Rattle.mux_outside.specs.HouseCalls.{Begins, End, Failed, Got, HouseCall, Joined, Marks, Receives, Turns, Writable}
use Rattle.mux_outside.specs.HouseCalls as call
use Rattle.mux_outside.specs.OwnStreams.{end_one, finish_one, is_own, new_stream, numbers_of, pause_one, without_stream}
use Rattle.mux_outside.specs.Streams.{without}
use Rattle.mux_outside.specs.declared.house_mark.HouseMark.{HouseMark}
use Rattle.mux_outside.specs.declared.house_mark.HouseMark.TheVariants.{HouseIn, HouseSaid, HouseTook, HouseAsked, HouseAnswer, HouseOrder}
use Rattle.mux_outside.specs.declared.mark.Mark.{Mark}
use Rattle.mux_outside.specs.declared.mark.Mark.TheVariants.{Waits, Accepts, Gets, Ends, Frees, Fails, Takes, Holds, WriteFails, Joins, House}
use Rattle.mux_outside.specs.declared.order.Order.{Order}
use Rattle.mux_outside.specs.declared.order.Order.TheVariants as order
use Rattle.mux_outside.specs.declared.own_streams.OwnStream.{OwnStream}
use Rattle.mux_outside.specs.declared.starts.Starts.{Starts}
use Rattle.mux_history.specs.declared.limits.TheConstants.{HOUSE}
use Rattle.mux_history.specs.Journal.{bytes_in, bytes_of, bytes_taken_in, house_sent, is_own_stream, log_of_journal, taken_by}
use Rattle.mux_history.specs.Log.{Setting}
use Rattle.mux_history.specs.Pending.{pending}
use Rattle.mux_engine.specs.Called.{calls_at, calls_in, house_calls, if_own}
use Rattle.mux_engine.specs.Places.{own_in, own_marked, own_ordered}
use Rattle.house_relay.specs.Acts.{RelayAct}
use Rattle.house_forward.specs.Numbers.{made_by, stream_closed_by, streams_open_after, without_closed}
use Rattle.house_forward.specs.RelayTraces.{accepted_length_in}
use Rattle.house_forward.specs.Streaming.{IsOfStream, got_call, got_in, took_call, took_in}
use Rattle.house_history.specs.RunsRelay.{IsOfSocket, stream_opened_at}

-- ---- the first marks

pub record MoreCalls (setting : Setting) (later earlier : List Mark) : Type 0 where
  pub more : List HouseCall
  pub are : calls_in setting (later ++ earlier) ≡ calls_in setting earlier ++ more

pub calls-more : (setting : Setting) (later earlier : List Mark) → MoreCalls setting later earlier
calls-more setting [] earlier = record { more = []; are = sym (append-nil (calls_in setting earlier)) }
calls-more setting (mark ∷ later) earlier =
    let rest = calls-more setting later earlier in
    let here = calls_at setting (later ++ earlier) mark in
    record {
      more = rest.more ++ here;
      are = ap (λ (l : List HouseCall). l ++ here) rest.are ∙ append_assoc (calls_in setting earlier) rest.more here;
    }

taken-append : (xs ys : List HouseCall) → accepted_length_in (xs ++ ys) ≡ accepted_length_in xs + accepted_length_in ys
taken-append [] ys = omega arith
taken-append (call.Takes t bytes ∷ xs) ys =
    ap (λ n. length bytes + n) (taken-append xs ys) ∙ sum (length bytes) (accepted_length_in xs) (accepted_length_in ys)
  where
    sum : (a b c : ℕ) → a + (b + c) ≡ (a + b) + c
    sum a b c = omega arith
taken-append (Begins starts ∷ xs) ys = taken-append xs ys
taken-append (Marks mark ∷ xs) ys = taken-append xs ys
taken-append (Receives bytes ∷ xs) ys = taken-append xs ys
taken-append (Turns happening ∷ xs) ys = taken-append xs ys

-- no more was accepted at first
pub taken-first : (setting : Setting) (later earlier : List Mark) → accepted_length_in (calls_in setting earlier) ≤ accepted_length_in (calls_in setting (later ++ earlier))
taken-first setting later earlier =
    let all = calls-more setting later earlier in
    let sum = ap accepted_length_in all.are ∙ taken-append (calls_in setting earlier) all.more in
    omega (arith, sum)

-- ---- the mark of a call

head-same : {X : Type 0} (x y : X) (xs ys : List X) → x ∷ xs ≡ y ∷ ys → x ≡ y
head-same x y xs ys e = cc

tail-same : {X : Type 0} (x y : X) (xs ys : List X) → x ∷ xs ≡ y ∷ ys → xs ≡ ys
tail-same x y xs ys e = cc

none-there : {X : Type 0} {P : Type 0} (front : List X) (b : X) (since : List X) → [] ≡ front ++ b ∷ since → P
none-there [] b since e = cc
none-there (x ∷ front) b since e = cc

-- a list with one more at its end, split at one of its items
data Last {X : Type 0} (xs : List X) (x : X) (front : List X) (b : X) (since : List X) : Type 0 where
  AtEnd : since ≡ [] → b ≡ x → Last xs x front b since
  Earlier : (less : List X) → since ≡ less ++ x ∷ [] → xs ≡ front ++ b ∷ less → Last xs x front b since

last-later : {X : Type 0} (y f : X) (xs : List X) (x : X) (front : List X) (b : X) (since : List X) → y ≡ f → Last xs x front b since → Last (y ∷ xs) x (f ∷ front) b since
last-later y f xs x front b since e (AtEnd none is) = AtEnd none is
last-later y f xs x front b since e (Earlier less are were) = Earlier less are (ap (λ z. z ∷ xs) e ∙ ap (λ l. f ∷ l) were)

last-of : {X : Type 0} (xs : List X) (x : X) (front : List X) (b : X) (since : List X) → xs ++ x ∷ [] ≡ front ++ b ∷ since → Last xs x front b since
last-of [] x [] b since e = AtEnd (sym (tail-same x b [] since e)) (sym (head-same x b [] since e))
last-of [] x (f ∷ front) b since e = none-there front b since (tail-same x f [] (front ++ b ∷ since) e)
last-of (y ∷ xs) x [] b since e =
    Earlier xs (sym (tail-same y b (xs ++ x ∷ []) since e)) (ap (λ z. z ∷ xs) (head-same y b (xs ++ x ∷ []) since e))
last-of (y ∷ xs) x (f ∷ front) b since e =
    last-later y f xs x front b since (head-same y f (xs ++ x ∷ []) (front ++ b ∷ since) e)
    (last-of xs x front b since (tail-same y f (xs ++ x ∷ []) (front ++ b ∷ since) e))

-- a mark has one call at most
data IsFew (calls : List HouseCall) : Type 0 where
  NoCall : calls ≡ [] → IsFew calls
  OneCall : (one : HouseCall) → calls ≡ one ∷ [] → IsFew calls

few-own : (t : ℕ) (one : HouseCall) → IsFew (if_own t one)
few-own t one = by_test (is_own t)
  where
    by_test : (b : Bool) → IsFew (if b then one ∷ [] else [])
    by_test true = OneCall one refl
    by_test false = NoCall refl

few-house : (waiting : List ℕ) (mark : HouseMark) → IsFew (house_calls waiting mark)
few-house waiting HouseIn = NoCall refl
few-house waiting (HouseSaid bytes) = OneCall (Marks (HouseSaid bytes)) refl
few-house waiting (HouseTook size) = OneCall _ refl
few-house waiting (HouseAsked client id opening ask reply) = OneCall (Marks (HouseAsked client id opening ask reply)) refl
few-house waiting (HouseAnswer client id reply) = OneCall (Marks (HouseAnswer client id reply)) refl
few-house waiting (HouseOrder o number) = OneCall (Marks (HouseOrder o number)) refl

few : (setting : Setting) (before : List Mark) (mark : Mark) → IsFew (calls_at setting before mark)
few setting before (Joins l t) = OneCall (Turns (Joined l t)) refl
few setting before (Gets t bytes) = few-own t (Turns (Got t bytes))
few setting before (Ends t) = few-own t (Turns (End t))
few setting before (Frees t) = few-own t (Turns (Writable t))
few setting before (Fails t) = few-own t (Turns (Failed t))
few setting before (WriteFails t) = few-own t (Turns (Failed t))
few setting before (Takes t bytes accepts) = few-own t (call.Takes t bytes)
few setting before (House mark) = few-house (pending HOUSE (log_of_journal setting before)) mark
few setting before (Waits waiting want streams shown) = NoCall refl
few setting before (Accepts k) = NoCall refl
few setting before (Holds t) = NoCall refl

-- the mark of a call, and those since it, which have the calls since it
pub record CameAt (setting : Setting) (journal : List Mark) (birth : HouseCall) (since : List HouseCall) : Type 0 where
  pub later : List Mark
  pub mark : Mark
  pub before : List Mark
  pub are : journal ≡ later ++ mark ∷ before
  pub is : calls_at setting before mark ≡ birth ∷ []
  pub calls : calls_in setting journal ≡ calls_in setting (mark ∷ before) ++ since

module _ (setting : Setting) where
  came-none : (journal : List Mark) (mark : Mark) (birth : HouseCall) (since : List HouseCall) → calls_at setting journal mark ≡ []
      → CameAt setting journal birth since → CameAt setting (mark ∷ journal) birth since
  came-none journal mark birth since none came = record {
    later = mark ∷ came.later;
    mark = came.mark;
    before = came.before;
    are = ap (λ l. mark ∷ l) came.are;
    is = came.is;
    calls = ap (λ (l : List HouseCall). calls_in setting journal ++ l) none ∙ (append-nil (calls_in setting journal) ∙ came.calls);
  }

  came-one : (journal : List Mark) (mark : Mark) (one birth : HouseCall) (less since : List HouseCall) → calls_at setting journal mark ≡ one ∷ []
      → since ≡ less ++ one ∷ [] → CameAt setting journal birth less → CameAt setting (mark ∷ journal) birth since
  came-one journal mark one birth less since is are came = record {
    later = mark ∷ came.later;
    mark = came.mark;
    before = came.before;
    are = ap (λ l. mark ∷ l) came.are;
    is = came.is;
    calls = ap (λ (l : List HouseCall). calls_in setting journal ++ l) is
        ∙ (ap (λ (l : List HouseCall). l ++ one ∷ []) came.calls
        ∙ (append_assoc (calls_in setting (came.mark ∷ came.before)) less (one ∷ [])
        ∙ ap (λ (l : List HouseCall). calls_in setting (came.mark ∷ came.before) ++ l) (sym are)));
  }

  came-here : (journal : List Mark) (mark : Mark) (one birth : HouseCall) (since : List HouseCall) → calls_at setting journal mark ≡ one ∷ []
      → since ≡ [] → birth ≡ one → CameAt setting (mark ∷ journal) birth since
  came-here journal mark one birth since is none same = record {
    later = [];
    mark = mark;
    before = journal;
    are = refl;
    is = is ∙ ap (λ c. c ∷ []) (sym same);
    calls = sym (append-nil (calls_in setting (mark ∷ journal))) ∙ ap (λ (l : List HouseCall). calls_in setting (mark ∷ journal) ++ l) (sym none);
  }

  came-last : (journal : List Mark) (mark : Mark) (one : HouseCall) (front : List HouseCall) (birth : HouseCall) (since : List HouseCall)
      → ((less : List HouseCall) → calls_in setting journal ≡ front ++ birth ∷ less → CameAt setting journal birth less)
      → calls_at setting journal mark ≡ one ∷ [] → Last (calls_in setting journal) one front birth since → CameAt setting (mark ∷ journal) birth since
  came-last journal mark one front birth since before is (AtEnd none same) = came-here journal mark one birth since is none same
  came-last journal mark one front birth since before is (Earlier less are were) =
      came-one journal mark one birth less since is are (before less were)

  came-few : (journal : List Mark) (mark : Mark) (front : List HouseCall) (birth : HouseCall) (since : List HouseCall)
      → ((less : List HouseCall) → calls_in setting journal ≡ front ++ birth ∷ less → CameAt setting journal birth less)
      → calls_in setting (mark ∷ journal) ≡ front ++ birth ∷ since → IsFew (calls_at setting journal mark) → CameAt setting (mark ∷ journal) birth since
  came-few journal mark front birth since before e (NoCall none) =
      came-none journal mark birth since none (before since
      (sym (append-nil (calls_in setting journal)) ∙ (ap (λ (l : List HouseCall). calls_in setting journal ++ l) (sym none) ∙ e)))
  came-few journal mark front birth since before e (OneCall one is) =
      came-last journal mark one front birth since before is (last-of (calls_in setting journal) one front birth since
      (ap (λ (l : List HouseCall). calls_in setting journal ++ l) (sym is) ∙ e))

  pub came-at : (journal : List Mark) (front : List HouseCall) (birth : HouseCall) (since : List HouseCall) → calls_in setting journal ≡ front ++ birth ∷ since
      → CameAt setting journal birth since
  came-at [] front birth since e = none-there front birth since e
  came-at (mark ∷ journal) front birth since e =
      came-few journal mark front birth since (λ less were. came-at journal front birth less were) e (few setting journal mark)

-- ---- the bytes since a mark

of-later : (t : ℕ) (later earlier : List Mark) → bytes_of t (later ++ earlier) ≡ bytes_of t earlier ++ bytes_of t later
of-later t [] earlier = sym (append-nil (bytes_of t earlier))
of-later t (mark ∷ later) earlier =
    ap (λ (l : List ℕ). l ++ bytes_in t mark) (of-later t later earlier) ∙ append_assoc (bytes_of t earlier) (bytes_of t later) (bytes_in t mark)

taken-later : (t : ℕ) (later earlier : List Mark) → taken_by t (later ++ earlier) ≡ taken_by t earlier ++ taken_by t later
taken-later t [] earlier = sym (append-nil (taken_by t earlier))
taken-later t (mark ∷ later) earlier =
    ap (λ (l : List ℕ). l ++ bytes_taken_in t mark) (taken-later t later earlier) ∙ append_assoc (taken_by t earlier) (taken_by t later) (bytes_taken_in t mark)

-- ---- the bytes of a stream of the master's own

flip : (a b : ℕ) → (a == b) ≡ (b == a)
flip a b = by_test (a == b) refl
  where
    other : (a == b) ≡ false → (c : Bool) → (b == a) ≡ c → (b == a) ≡ false
    other e false f = f
    other e true f = absurd (both_ways (a == b) e (eq-eqb a b (sym (eqb-true b a f))))

    by_test : (c : Bool) → (a == b) ≡ c → (a == b) ≡ (b == a)
    by_test true e = e ∙ sym (eq-eqb b a (sym (eqb-true a b e)))
    by_test false e = e ∙ sym (other e (b == a) refl)

is-own : (t : ℕ) → is_own_stream t ≡ true → is_own t ≡ true
is-own t own = (and_parts (is_own t) (not (t == HOUSE)) own).0

no-house : (t : ℕ) → is_own_stream t ≡ true → (HOUSE == t) ≡ false
no-house t own = flip HOUSE t ∙ not-true (t == HOUSE) (and_parts (is_own t) (not (t == HOUSE)) own).1

-- by a call of the stream itself
own-bytes : (t k : ℕ) (bytes : List ℕ) (f : List HouseCall → List ℕ) (one : HouseCall) → is_own t ≡ true → f [] ≡ [] → f (one ∷ []) ≡ (if t == k then bytes else [])
    → f (if_own k one) ≡ elim (k == t) as (λ _. List ℕ) [ true ↦ bytes | false ↦ [] ]
own-bytes t k bytes f one own none some = by_own (is_own k) refl
  where
    same : (b : Bool) → (if b then bytes else []) ≡ elim b as (λ _. List ℕ) [ true ↦ bytes | false ↦ [] ]
    same true = refl
    same false = refl

    other : is_own k ≡ false → (b : Bool) → (k == t) ≡ b → (k == t) ≡ false
    other e false f = f
    other e true f = absurd (both_ways (is_own k) e (ap is_own (eqb-true k t f) ∙ own))

    by_own : (c : Bool) → is_own k ≡ c → f (if c then one ∷ [] else []) ≡ elim (k == t) as (λ _. List ℕ) [ true ↦ bytes | false ↦ [] ]
    by_own true e = some ∙ (ap (λ (b : Bool). if b then bytes else []) (flip t k) ∙ same (k == t))
    by_own false e = none ∙ sym (ap (λ (b : Bool). elim b as (λ _. List ℕ) [ true ↦ bytes | false ↦ [] ]) (other e (k == t) refl))

-- by a call that gives none
own-none : (k : ℕ) (f : List HouseCall → List ℕ) (one : HouseCall) → f [] ≡ [] → f (one ∷ []) ≡ [] → f (if_own k one) ≡ []
own-none k f one none some = by_own (is_own k)
  where
    by_own : (c : Bool) → f (if c then one ∷ [] else []) ≡ []
    by_own true = some
    by_own false = none

got-more : (t : ℕ) (xs ys : List HouseCall) → got_in t (xs ++ ys) ≡ got_in t xs ++ got_in t ys
got-more t [] ys = refl
got-more t (one ∷ xs) ys = ap (λ l. got_call t one ++ l) (got-more t xs ys) ∙ sym (append_assoc (got_call t one) (got_in t xs) (got_in t ys))

took-more : (t : ℕ) (xs ys : List HouseCall) → took_in t (xs ++ ys) ≡ took_in t xs ++ took_in t ys
took-more t [] ys = refl
took-more t (one ∷ xs) ys = ap (λ l. took_call t one ++ l) (took-more t xs ys) ∙ sym (append_assoc (took_call t one) (took_in t xs) (took_in t ys))

house-none : (t : ℕ) (bytes : List ℕ) → is_own_stream t ≡ true → [] ≡ elim (HOUSE == t) as (λ _. List ℕ) [ true ↦ bytes | false ↦ [] ]
house-none t bytes own = sym (ap (λ (b : Bool). elim b as (λ _. List ℕ) [ true ↦ bytes | false ↦ [] ]) (no-house t own))

got-house : (t : ℕ) (waiting : List ℕ) (mark : HouseMark) → got_in t (house_calls waiting mark) ≡ []
got-house t waiting HouseIn = refl
got-house t waiting (HouseSaid bytes) = refl
got-house t waiting (HouseTook size) = refl
got-house t waiting (HouseAsked client id opening ask reply) = refl
got-house t waiting (HouseAnswer client id reply) = refl
got-house t waiting (HouseOrder o number) = refl

got-at : (setting : Setting) (before : List Mark) (mark : Mark) (t : ℕ) → is_own_stream t ≡ true → got_in t (calls_at setting before mark) ≡ bytes_in t mark
got-at setting before (Gets k bytes) t own =
    own-bytes t k bytes (got_in t) (Turns (Got k bytes)) (is-own t own) refl (append-nil (if t == k then bytes else []))
got-at setting before (Joins l k) t own = refl
got-at setting before (Ends k) t own = own-none k (got_in t) (Turns (End k)) refl refl
got-at setting before (Frees k) t own = own-none k (got_in t) (Turns (Writable k)) refl refl
got-at setting before (Fails k) t own = own-none k (got_in t) (Turns (Failed k)) refl refl
got-at setting before (WriteFails k) t own = own-none k (got_in t) (Turns (Failed k)) refl refl
got-at setting before (Takes k bytes accepts) t own = own-none k (got_in t) (call.Takes k bytes) refl refl
got-at setting before (House mark) t own = got-house t (pending HOUSE (log_of_journal setting before)) mark ∙ house-none t (house_sent mark) own
got-at setting before (Waits waiting want streams shown) t own = refl
got-at setting before (Accepts k) t own = refl
got-at setting before (Holds k) t own = refl

got-all : (setting : Setting) (journal : List Mark) (t : ℕ) → is_own_stream t ≡ true → got_in t (calls_in setting journal) ≡ bytes_of t journal
got-all setting [] t own = refl
got-all setting (mark ∷ before) t own =
    got-more t (calls_in setting before) (calls_at setting before mark)
    ∙ (ap (λ l. l ++ got_in t (calls_at setting before mark)) (got-all setting before t own)
    ∙ ap (λ l. bytes_of t before ++ l) (got-at setting before mark t own))

took-house : (t : ℕ) (waiting : List ℕ) (mark : HouseMark) → took_in t (house_calls waiting mark) ≡ []
took-house t waiting HouseIn = refl
took-house t waiting (HouseSaid bytes) = refl
took-house t waiting (HouseTook size) = refl
took-house t waiting (HouseAsked client id opening ask reply) = refl
took-house t waiting (HouseAnswer client id reply) = refl
took-house t waiting (HouseOrder o number) = refl

took-at : (setting : Setting) (before : List Mark) (mark : Mark) (t : ℕ) → is_own_stream t ≡ true → took_in t (calls_at setting before mark) ≡ bytes_taken_in t mark
took-at setting before (Takes k bytes accepts) t own =
    own-bytes t k bytes (took_in t) (call.Takes k bytes) (is-own t own) refl (append-nil (if t == k then bytes else []))
took-at setting before (Joins l k) t own = refl
took-at setting before (Gets k bytes) t own = own-none k (took_in t) (Turns (Got k bytes)) refl refl
took-at setting before (Ends k) t own = own-none k (took_in t) (Turns (End k)) refl refl
took-at setting before (Frees k) t own = own-none k (took_in t) (Turns (Writable k)) refl refl
took-at setting before (Fails k) t own = own-none k (took_in t) (Turns (Failed k)) refl refl
took-at setting before (WriteFails k) t own = own-none k (took_in t) (Turns (Failed k)) refl refl
took-at setting before (House mark) t own = took-house t (pending HOUSE (log_of_journal setting before)) mark
took-at setting before (Waits waiting want streams shown) t own = refl
took-at setting before (Accepts k) t own = refl
took-at setting before (Holds k) t own = refl

took-all : (setting : Setting) (journal : List Mark) (t : ℕ) → is_own_stream t ≡ true → took_in t (calls_in setting journal) ≡ taken_by t journal
took-all setting [] t own = refl
took-all setting (mark ∷ before) t own =
    took-more t (calls_in setting before) (calls_at setting before mark)
    ∙ (ap (λ l. l ++ took_in t (calls_at setting before mark)) (took-all setting before t own)
    ∙ ap (λ l. taken_by t before ++ l) (took-at setting before mark t own))

module _ (setting : Setting) (journal : List Mark) (birth : HouseCall) (since : List HouseCall) (t : ℕ) (own : is_own_stream t ≡ true) (came : CameAt setting journal birth since) where
  abbrev till : List Mark
  till = came.mark ∷ came.before

  got-since : got_in t since ≡ bytes_of t came.later
  got-since =
      append_cancel_left (bytes_of t till) (got_in t since) (bytes_of t came.later)
      (ap (λ l. l ++ got_in t since) (sym (got-all setting till t own))
      ∙ (sym (got-more t (calls_in setting till) since)
      ∙ (ap (got_in t) (sym came.calls)
      ∙ (got-all setting journal t own ∙ (ap (bytes_of t) came.are ∙ of-later t came.later till)))))

  took-since : took_in t since ≡ taken_by t came.later
  took-since =
      append_cancel_left (taken_by t till) (took_in t since) (taken_by t came.later)
      (ap (λ l. l ++ took_in t since) (sym (took-all setting till t own))
      ∙ (sym (took-more t (calls_in setting till) since)
      ∙ (ap (took_in t) (sym came.calls)
      ∙ (took-all setting journal t own ∙ (ap (taken_by t) came.are ∙ taken-later t came.later till)))))

-- ---- which stream a mark opens

abbrev made_first : List HouseCall → Option ℕ
made_first [] = None
made_first (one ∷ calls) = made_by one

made-own : (t : ℕ) (one : HouseCall) → made_by one ≡ None → made_first (if_own t one) ≡ None
made-own t one e = by_test (is_own t)
  where
    by_test : (b : Bool) → made_first (if b then one ∷ [] else []) ≡ None
    by_test true = e
    by_test false = refl

made-house : (waiting : List ℕ) (mark : HouseMark) → made_first (house_calls waiting mark) ≡ stream_opened_at (House mark)
made-house waiting HouseIn = refl
made-house waiting (HouseSaid bytes) = refl
made-house waiting (HouseTook size) = refl
made-house waiting (HouseAsked client id opening ask reply) = refl
made-house waiting (HouseAnswer client id reply) = refl
made-house waiting (HouseOrder o number) = refl

made-at : (setting : Setting) (before : List Mark) (mark : Mark) → made_first (calls_at setting before mark) ≡ stream_opened_at mark
made-at setting before (Joins l t) = refl
made-at setting before (Gets t bytes) = made-own t (Turns (Got t bytes)) refl
made-at setting before (Ends t) = made-own t (Turns (End t)) refl
made-at setting before (Frees t) = made-own t (Turns (Writable t)) refl
made-at setting before (Fails t) = made-own t (Turns (Failed t)) refl
made-at setting before (WriteFails t) = made-own t (Turns (Failed t)) refl
made-at setting before (Takes t bytes accepts) = made-own t (call.Takes t bytes) refl
made-at setting before (House mark) = made-house (pending HOUSE (log_of_journal setting before)) mark
made-at setting before (Waits waiting want streams shown) = refl
made-at setting before (Accepts k) = refl
made-at setting before (Holds t) = refl

-- what was read and accepted of a stream by the calls is so by the journal
socket-at : (setting : Setting) (journal : List Mark) (t : ℕ) (acts : List RelayAct) (calls : List HouseCall) (of : IsOfStream calls t acts) → is_own_stream t ≡ true
    → CameAt setting journal of.birth of.since → IsOfSocket journal t acts
socket-at setting journal t acts calls of own came = record {
  since = came.later;
  opening = came.mark;
  before = came.before;
  are = came.are;
  opens = sym (made-at setting came.before came.mark) ∙ (ap made_first came.is ∙ of.brings);
  gave = of.reads ∙ got-since setting journal of.birth of.since t own came;
  accepted = of.takes ∙ took-since setting journal of.birth of.since t own came;
}

none-some : {P : Type 0} (t : ℕ) → None ≡ Some t → P
none-some t e = cc

not-begun : {P : Type 0} (starts : Starts) (birth : HouseCall) (t : ℕ) → Begins starts ≡ birth → made_by birth ≡ Some t → P
not-begun starts birth t e brings = none-some t (ap made_by e ∙ brings)

came-behind : (setting : Setting) (starts : Starts) (journal : List Mark) (t : ℕ) (front : List HouseCall) (birth : HouseCall) (since : List HouseCall)
    → made_by birth ≡ Some t → Begins starts ∷ calls_in setting journal ≡ front ++ birth ∷ since → CameAt setting journal birth since
came-behind setting starts journal t [] birth since brings e =
    not-begun starts birth t (head-same (Begins starts) birth (calls_in setting journal) since e) brings
came-behind setting starts journal t (f ∷ front) birth since brings e =
    came-at setting journal front birth since (tail-same (Begins starts) f (calls_in setting journal) (front ++ birth ∷ since) e)

pub socket-of : (setting : Setting) (starts : Starts) (journal : List Mark) (t : ℕ) (acts : List RelayAct) → IsOfStream (Begins starts ∷ calls_in setting journal) t acts
    → is_own_stream t ≡ true → IsOfSocket journal t acts
socket-of setting starts journal t acts of own =
    socket-at setting journal t acts (Begins starts ∷ calls_in setting journal) of own
    (came-behind setting starts journal t of.before of.birth of.since of.brings of.are)

-- ---- the streams that are open

same-numbers : (f : OwnStream → OwnStream) → ((s : OwnStream) → (f s).number ≡ s.number) → (own : List OwnStream) → numbers_of (map f own) ≡ numbers_of own
same-numbers f same [] = refl
same-numbers f same (s ∷ own) = ap (λ n. n ∷ numbers_of (map f own)) (same s) ∙ ap (λ l. s.number ∷ l) (same-numbers f same own)

end-numbers : (k : ℕ) (own : List OwnStream) → numbers_of (map (end_one k) own) ≡ numbers_of own
end-numbers k own = same-numbers (end_one k) (λ s. by_test s (s.number == k)) own
  where
    by_test : (s : OwnStream) (c : Bool) → (cond c (record s { ended = true }) s).number ≡ s.number
    by_test s true = refl
    by_test s false = refl

pause-numbers : (b : Bool) (k : ℕ) (own : List OwnStream) → numbers_of (map (pause_one b k) own) ≡ numbers_of own
pause-numbers b k own = same-numbers (pause_one b k) (λ s. by_test s (s.number == k)) own
  where
    by_test : (s : OwnStream) (c : Bool) → (cond c (record s { paused = b }) s).number ≡ s.number
    by_test s true = refl
    by_test s false = refl

finish-numbers : (k : ℕ) (own : List OwnStream) → numbers_of (map (finish_one k) own) ≡ numbers_of own
finish-numbers k own = same-numbers (finish_one k) (λ s. by_test s (s.number == k)) own
  where
    by_test : (s : OwnStream) (c : Bool) → (cond c (record s { finished = true }) s).number ≡ s.number
    by_test s true = refl
    by_test s false = refl

less-numbers : (k : ℕ) (own : List OwnStream) → without k (numbers_of own) ≡ numbers_of (without_stream k own)
less-numbers k [] = refl
less-numbers k (s ∷ own) = by_test (s.number == k) (less-numbers k own)
  where
    by_test : (b : Bool) → without k (numbers_of own) ≡ numbers_of (without_stream k own) → cond (not b) (s.number ∷ without k (numbers_of own)) (without k (numbers_of own)) ≡ numbers_of (cond (not b) (s ∷ without_stream k own) (without_stream k own))
    by_test true ih = ih
    by_test false ih = ap (λ l. s.number ∷ l) ih

open-more : (there : List ℕ) (xs ys : List HouseCall) → streams_open_after there (xs ++ ys) ≡ streams_open_after (streams_open_after there xs) ys
open-more there [] ys = refl
open-more there (one ∷ xs) ys =
    open-more (without_closed (stream_closed_by one) there ++ option_to_list (made_by one)) xs ys

open-own : (there : List ℕ) (t : ℕ) (one : HouseCall) → streams_open_after there (one ∷ []) ≡ there → there ≡ streams_open_after there (if_own t one)
open-own there t one e = by_test (is_own t)
  where
    by_test : (b : Bool) → there ≡ streams_open_after there (if b then one ∷ [] else [])
    by_test true = sym e
    by_test false = refl

open-order : (own : List OwnStream) (o : Order) (number : Option ℕ)
    → numbers_of (own_ordered o number own) ≡ streams_open_after (numbers_of own) (Marks (HouseOrder o number) ∷ [])
open-order own (order.Listen host port) number = sym (append-nil (numbers_of own))
open-order own (order.Connect host port) (Some t) = map-append (λ (s : OwnStream). s.number) own (new_stream t ∷ [])
open-order own (order.Connect host port) None = sym (append-nil (numbers_of own))
open-order own (order.Unlisten l) number = sym (append-nil (numbers_of own))
open-order own (order.Pause t) number = pause-numbers true t own ∙ sym (append-nil (numbers_of own))
open-order own (order.Resume t) number = pause-numbers false t own ∙ sym (append-nil (numbers_of own))
open-order own (order.Finish t) number = finish-numbers t own ∙ sym (append-nil (numbers_of own))
open-order own (order.Close t) number = sym (less-numbers t own) ∙ sym (append-nil _)

open-house : (waiting : List ℕ) (own : List OwnStream) (mark : HouseMark)
    → numbers_of (own_marked (House mark) own) ≡ streams_open_after (numbers_of own) (house_calls waiting mark)
open-house waiting own HouseIn = refl
open-house waiting own (HouseSaid bytes) = sym (append-nil (numbers_of own))
open-house waiting own (HouseTook size) = sym (append-nil (numbers_of own))
open-house waiting own (HouseAsked client id opening ask reply) = sym (append-nil (numbers_of own))
open-house waiting own (HouseAnswer client id reply) = sym (append-nil (numbers_of own))
open-house waiting own (HouseOrder o number) = open-order own o number

open-at : (setting : Setting) (before : List Mark) (own : List OwnStream) (mark : Mark)
    → numbers_of (own_marked mark own) ≡ streams_open_after (numbers_of own) (calls_at setting before mark)
open-at setting before own (Joins l t) = map-append (λ (s : OwnStream). s.number) own (new_stream t ∷ [])
open-at setting before own (Gets t bytes) = open-own (numbers_of own) t (Turns (Got t bytes)) (append-nil (numbers_of own))
open-at setting before own (Ends t) =
    end-numbers t own ∙ open-own (numbers_of own) t (Turns (End t)) (append-nil (numbers_of own))
open-at setting before own (Frees t) = open-own (numbers_of own) t (Turns (Writable t)) (append-nil (numbers_of own))
open-at setting before own (Fails t) = open-own (numbers_of own) t (Turns (Failed t)) (append-nil (numbers_of own))
open-at setting before own (WriteFails t) = open-own (numbers_of own) t (Turns (Failed t)) (append-nil (numbers_of own))
open-at setting before own (Takes t bytes accepts) = open-own (numbers_of own) t (call.Takes t bytes) (append-nil (numbers_of own))
open-at setting before own (House mark) = open-house (pending HOUSE (log_of_journal setting before)) own mark
open-at setting before own (Waits waiting want streams shown) = refl
open-at setting before own (Accepts k) = refl
open-at setting before own (Holds t) = refl

-- those that the calls leave open are those of the journal
pub open-in : (setting : Setting) (journal : List Mark) → numbers_of (own_in journal) ≡ streams_open_after [] (calls_in setting journal)
open-in setting [] = refl
open-in setting (mark ∷ before) =
    open-at setting before (own_in before) mark
    ∙ (ap (λ (there : List ℕ). streams_open_after there (calls_at setting before mark)) (open-in setting before)
    ∙ sym (open-more [] (calls_in setting before) (calls_at setting before mark)))
