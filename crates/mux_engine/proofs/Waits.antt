-- A call of wait: what is promised of it where each stream was offered what waits for it.
use Rattle.std.proofs.Common.{◌≡◌, ◌≢◌, ◌≤◌, ◌<◌, ◌+◌, ℕ, Bool, true, false, not, ◌||◌, ◌&&◌, List, [], ◌∷◌, ◌++◌, length, length-append, Option, None, refl, sym, ap, ◌∙◌, subst, inl, inr, ◌⊎◌, cond, arith, append-nil}
use Rattle.std.specs.Prelude.{is_some, ◌==◌, filter, nat_lt, All, IsTrue, ◌↔◌}
use Rattle.std.specs.Option.{option_map}
use Rattle.std.proofs.lemmas.Bool.Decides.{eqb_tells}
use Rattle.std.proofs.lemmas.List.Elements.{filter-append}
use Rattle.std.proofs.lemmas.List.Folds.{list_any-append}
use Rattle.mux_outside.specs.HouseCalls.{HouseCall, calls_of}
use Rattle.mux_outside.specs.OwnStreams.{is_one, is_own, numbers_of}
use Rattle.mux_outside.specs.Seen.{Seen, shown_of}
use Rattle.mux_outside.specs.Streams.{among}
use Rattle.mux_outside.specs.declared.own_streams.OwnStream.{OwnStream}
use Rattle.mux_outside.specs.declared.house.HouseReply.{HouseReply}
use Rattle.mux_outside.specs.declared.house_mark.HouseMark.{HouseMark}
use Rattle.mux_outside.specs.declared.mark.Mark.{Mark}
use Rattle.mux_outside.specs.declared.mark.Mark.TheVariants.{Waits, Accepts, Gets, Ends, Frees, Fails, Takes, Holds, WriteFails, Joins, House}
use Rattle.mux_outside.specs.declared.turn.Want.TheVariants.{Read, WriteOnly}
use Rattle.mux_history.specs.declared.limits.TheConstants.{HOUSE, READING_STOPS_AT}
use Rattle.mux_history.specs.Policy.{Policy}
use Rattle.mux_history.specs.Rows.{Row, rows_of, is_out}
use Rattle.mux_history.specs.Pending.{pending}
use Rattle.mux_history.specs.Settings.{by_lists}
use Rattle.mux_history.specs.Log.{Setting}
use Rattle.mux_history.specs.Journal.{is_blocked, is_own_stream, log_of_journal}
use Rattle.mux_history.specs.Promises.{MayWaitForOwn, WaitsRight, OpenRight, has_failed, has_output, is_empty, not_own, write_failed}
use Rattle.mux_state.proofs.Over.{some-end}
use Rattle.mux_state.specs.State.{EngineState, numbers, waiting_clients}
use Rattle.mux_state.specs.Events.{here}
use Rattle.mux_state.specs.Stands.{RowsFit}
use Rattle.mux_state.proofs.Twins.{stands-alike}
use Rattle.mux_engine.specs.Called.{calls_in}
use Rattle.mux_engine.specs.Owned.{IsOwnOffered, waits_for_own}
use Rattle.mux_engine.specs.Places.{listeners_in, own_in, unfailed_in}
use Rattle.mux_engine.specs.Serving.{IsRunSound, Serving, is_stream_open}
use Rattle.mux_engine.specs.Sides.{Resting, Side, house_marks}
use Rattle.mux_engine.specs.Turns.{want_of}
use Rattle.mux_engine.proofs.Called.{calls-none}
use Rattle.mux_engine.proofs.Closed.{both-tests}
use Rattle.mux_engine.proofs.Lists.{among-filter, among-open, and-first, and-second, not-own-stream, open-here, or-true, test-same, true-false}
use Rattle.mux_engine.proofs.Marks.{log-is, serve-alone}
use Rattle.mux_engine.proofs.Owns.{among-one, owns-as}
use Rattle.mux_engine.proofs.Places.{open-own, placed-still, stream-open}
use Rattle.mux_engine.proofs.Quiet.{askers-more, notes-none}
use Rattle.mux_engine.proofs.Silent.{waits-alike}
use Rattle.mux_engine.proofs.Waiting.{all-of, all-served, none-lost, not-empty, passed, waiting-are, want-is}

-- the last failure of a stream at a write is a failure
failed-has : (t : ℕ) (journal : List Mark) → write_failed t journal ≡ true → has_failed t journal ≡ true
failed-has t [] f = f
failed-has t (WriteFails k ∷ j) f = by_test (k == t) f (failed-has t j)
  where
    by_test : (b : Bool) → (elim b as (λ _. Bool) [ true ↦ true | false ↦ write_failed t j ]) ≡ true → (write_failed t j ≡ true → has_failed t j ≡ true) → (elim b as (λ _. Bool) [ true ↦ true | false ↦ has_failed t j ]) ≡ true
    by_test true f ih = refl
    by_test false f ih = ih f
failed-has t (Fails k ∷ j) f = by_test (k == t) (failed-has t j f)
  where
    by_test : (b : Bool) → has_failed t j ≡ true → (elim b as (λ _. Bool) [ true ↦ true | false ↦ has_failed t j ]) ≡ true
    by_test true f = refl
    by_test false f = f
failed-has t (Takes k bytes accepts ∷ j) f = by_test (k == t) f (failed-has t j)
  where
    by_test : (b : Bool) → (elim b as (λ _. Bool) [ true ↦ false | false ↦ write_failed t j ]) ≡ true → (write_failed t j ≡ true → has_failed t j ≡ true) → has_failed t j ≡ true
    by_test true f ih = true-false (sym f)
    by_test false f ih = ih f
failed-has t (Holds k ∷ j) f = by_test (k == t) f (failed-has t j)
  where
    by_test : (b : Bool) → (elim b as (λ _. Bool) [ true ↦ false | false ↦ write_failed t j ]) ≡ true → (write_failed t j ≡ true → has_failed t j ≡ true) → has_failed t j ≡ true
    by_test true f ih = true-false (sym f)
    by_test false f ih = ih f
failed-has t (Waits waiting want streams shown ∷ j) f = failed-has t j f
failed-has t (Accepts k ∷ j) f = failed-has t j f
failed-has t (Gets k bytes ∷ j) f = failed-has t j f
failed-has t (Ends k ∷ j) f = failed-has t j f
failed-has t (Frees k ∷ j) f = failed-has t j f
failed-has t (Joins l k ∷ j) f = failed-has t j f
failed-has t (House m ∷ j) f = failed-has t j f

none-left : (xs : List ℕ) → ((t : ℕ) → among t xs ≡ true → is_own t ≡ true) → not_own xs ≡ []
none-left [] h = refl
none-left (x ∷ xs) h = ap (λ b. cond (not b) (x ∷ not_own xs) (not_own xs)) (h x (ap (λ b. b || among x xs) (same x))) ∙ none-left xs (λ t a. h t (later (x == t) a))
  where
    same : (i : ℕ) → (i == i) ≡ true
    same i = elim (eqb_tells i i) [ inl q ↦ q.0 | inr q ↦ absurd (q.1 refl) ]

    later : {c : Bool} (b : Bool) → c ≡ true → (b || c) ≡ true
    later true e = refl
    later false e = e

-- ---- lists of which each, none, or each of another is kept

head-among : (x : ℕ) (xs : List ℕ) → among x (x ∷ xs) ≡ true
head-among x xs = ap (λ b. b || among x xs) (test-same x)

tail-among : (x t : ℕ) (xs : List ℕ) → among t xs ≡ true → among t (x ∷ xs) ≡ true
tail-among x t xs a = ap (λ b. (x == t) || b) a ∙ or-true (x == t)

keeps-every : (P : ℕ → Bool) (xs : List ℕ) → ((t : ℕ) → among t xs ≡ true → P t ≡ true) → filter P xs ≡ xs
keeps-every P [] h = refl
keeps-every P (x ∷ xs) h = ap (λ b. cond b (x ∷ filter P xs) (filter P xs)) (h x (head-among x xs)) ∙ ap (λ l. x ∷ l) (keeps-every P xs (λ t a. h t (tail-among x t xs a)))

keeps-none : (P : ℕ → Bool) (xs : List ℕ) → ((t : ℕ) → among t xs ≡ true → P t ≡ false) → filter P xs ≡ []
keeps-none P [] h = refl
keeps-none P (x ∷ xs) h = ap (λ b. cond b (x ∷ filter P xs) (filter P xs)) (h x (head-among x xs)) ∙ keeps-none P xs (λ t a. h t (tail-among x t xs a))

keeps-alike : (P Q : ℕ → Bool) (xs : List ℕ) → ((t : ℕ) → among t xs ≡ true → P t ≡ Q t) → filter P xs ≡ filter Q xs
keeps-alike P Q [] h = refl
keeps-alike P Q (x ∷ xs) h = ap (λ b. cond b (x ∷ filter P xs) (filter P xs)) (h x (head-among x xs)) ∙ ap (λ l. cond (Q x) (x ∷ l) l) (keeps-alike P Q xs (λ t a. h t (tail-among x t xs a)))

-- two tests at once, or one after the other
pub filter-both : (P Q : ℕ → Bool) (xs : List ℕ) → filter (λ t. P t && Q t) xs ≡ filter Q (filter P xs)
filter-both P Q [] = refl
filter-both P Q (x ∷ xs) = by_first (P x) (filter-both P Q xs)
  where
    by_first : (b : Bool) → filter (λ t. P t && Q t) xs ≡ filter Q (filter P xs) → cond (b && Q x) (x ∷ filter (λ t. P t && Q t) xs) (filter (λ t. P t && Q t) xs) ≡ filter Q (cond b (x ∷ filter P xs) (filter P xs))
    by_first true ih = ap (λ l. cond (Q x) (x ∷ l) l) ih
    by_first false ih = ih

-- where all streams were offered what waits for them, the forwarder was handed over all
pub handed-all : {May : HouseReply → Type 0} {Rest : Resting} {before : Option (List HouseMark)} {now : Side} {policy : Policy} {pid : ℕ} {start : Option (List Mark)} {seen : Seen} {held failed : List ℕ} {given : ℕ} {s : EngineState}
    (v : Serving May Rest before now policy pid start seen held failed given [] s) (picks : List ℕ) (later : List HouseReply) → pending HOUSE (log_of_journal (by_lists policy pid (v.picked ++ picks) (v.replies ++ later)) v.journal) ≡ []
handed-all v picks later = elim ((v.sound picks later).settled HOUSE refl refl) [
  | inl e ↦ e
  | inr r ↦ elim r [
    | inl b ↦ true-false (sym b ∙ (v.unused HOUSE (inr refl)).never_blocked)
    | inr f ↦ true-false (sym (failed-has HOUSE v.journal f) ∙ (v.unused HOUSE (inr refl)).never_failed)
  ]
]

-- ---- where all streams were offered what waits for them, while a run goes on and no client leaves

-- how the master's own streams stand then
pub record Offered (seen : Seen) (own held failed : List ℕ) (queue : ℕ → List ℕ) : Type 0 where
  pub own_is : own ≡ numbers_of seen.own
  pub opened : (t : ℕ) → IsTrue (is_one t seen.own) → IsTrue (among t seen.streams)
  pub numbered : (t : ℕ) → IsTrue (is_one t seen.own) → IsTrue (is_own t)
  pub offered : (t : ℕ) → among t own ≡ true → IsOwnOffered (queue t) held failed t

module _ {May : HouseReply → Type 0} {Rest : Resting} {before : Option (List HouseMark)} {now : Side} {policy : Policy} {pid : ℕ} {start : Option (List Mark)} {seen : Seen} {held failed : List ℕ} {given : ℕ} {s : EngineState}
    (v : Serving May Rest before now policy pid start seen held failed given [] s) (none : s.leaving ≡ []) (admitted : s.refused ≡ []) (live : s.ended ≡ None) {own : List ℕ} {queue : ℕ → List ℕ} (o : Offered seen own held failed queue) where
  abbrev setting : List ℕ → List HouseReply → Setting
  setting picks later = by_lists policy pid (v.picked ++ picks) (v.replies ++ later)

  abbrev rows : List ℕ → List HouseReply → List Row
  rows picks later = log_of_journal (setting picks later) v.journal

  -- of the master's own those for which something waits
  abbrev pub own-waiting : List ℕ
  own-waiting = filter (waits_for_own queue failed) own

  abbrev pub all-waiting : List ℕ
  all-waiting = s.waiting ++ own-waiting

  fits : (picks : List ℕ) (later : List HouseReply) → RowsFit (length v.picked) v.stands.asks s v.closed (rows picks later)
  fits picks later = subst (RowsFit (length v.picked) v.stands.asks s v.closed) (log-is s policy pid (v.picked ++ picks) (v.replies ++ later) v.journal v.policy_is v.pid_is) (v.stands.at picks later).rows

  here-are : here s ≡ numbers s.clients
  here-are = ap (λ l. numbers s.clients ++ l) admitted ∙ append-nil (numbers s.clients)

  streams-are : not_own seen.streams ≡ 0 ∷ not_own (numbers s.clients)
  streams-are = v.open_are ∙ ap (λ l. 0 ∷ not_own l) here-are

  waits-are : (picks : List ℕ) (later : List HouseReply) → s.waiting ≡ filter (has_output (rows picks later)) (0 ∷ numbers s.clients)
  waits-are picks later = waiting-are (fits picks later)

  -- a stream of a client or the server that is waited for is open, and something waits for it
  pub record IsWaiting (t : ℕ) : Type 0 where
    pub open_is : is_stream_open s t ≡ true
    pub output : has_output (rows [] []) t ≡ true
    pub no_house : t ≢ HOUSE

  waits-of : (t : ℕ) → among t s.waiting ≡ true → IsWaiting t
  waits-of t a =
      let p : (among t (0 ∷ numbers s.clients) ≡ true) × (has_output (rows [] []) t ≡ true) = passed (has_output (rows [] [])) t (0 ∷ numbers s.clients) (ap (among t) (sym (waits-are [] [])) ∙ a) in
      record {
        open_is = sym (among-open s t) ∙ (ap (λ l. among t (0 ∷ l)) here-are ∙ p.0);
        output = p.1;
        no_house = λ e. not-empty (pending t (rows [] [])) p.1 (ap (λ i. pending i (rows [] [])) e ∙ handed-all v [] []);
      }

  not-out : (t : ℕ) → is_stream_open s t ≡ true → is_out (rows_of t (rows [] [])) ≡ false
  not-out t shown = elim (eqb_tells t 0) [
    | inl q ↦ ap (λ i. is_out (rows_of i (rows [] []))) q.1 ∙ (fits [] []).server_in
    | inr q ↦ none-lost (fits [] []) none t (open-here s t shown q.1)
  ]

  held-back : (t : ℕ) → among t s.waiting ≡ true → is_blocked t v.journal ≡ true
  held-back t a =
      let w : IsWaiting t = waits-of t a in
      let client : is_own_stream t ≡ false = not-own-stream t (open-own v t w.open_is w.no_house) in
      let old : IsRunSound (setting [] []) v.journal [] s = v.sound [] [] in
      elim (old.settled t client refl) [
        | inl e ↦ absurd (not-empty (pending t (rows [] [])) w.output e)
        | inr r ↦ elim r [ inl b ↦ b | inr f ↦ true-false (sym (old.failed_out t client f live) ∙ not-out t w.open_is) ]
      ]

  -- one of the master's own that is waited for did not fail, and is blocked
  pub record OwnWaits (t : ℕ) : Type 0 where
    pub own_is : is_own t ≡ true
    pub there : among t seen.streams ≡ true
    pub unfailed : among t failed ≡ false
    pub blocked : among t seen.blocked ≡ true

  own-waits : (t : ℕ) → among t own-waiting ≡ true → OwnWaits t
  own-waits t a =
      let both : (waits_for_own queue failed t && among t own) ≡ true = sym (among-filter (waits_for_own queue failed) t own) ∙ a in
      let mine : among t own ≡ true = and-second (waits_for_own queue failed t) (among t own) both in
      let wants : waits_for_own queue failed t ≡ true = and-first (waits_for_own queue failed t) (among t own) both in
      let one : IsTrue (is_one t seen.own) = sym (among-one t seen.own) ∙ (sym (ap (among t) o.own_is) ∙ mine) in
      let sound : among t failed ≡ false = flip (among t failed) (and-first (not (among t failed)) (not (is_empty (queue t))) wants) in
      record {
        own_is = o.numbered t one;
        there = o.opened t one;
        unfailed = sound;
        blocked = elim (o.offered t mine) [
          | inl e ↦ true-false (sym (and-second (not (among t failed)) (not (is_empty (queue t))) wants) ∙ ap (λ q. not (is_empty q)) e)
          | inr r ↦ elim r [ inl h ↦ ap (among t) (sym v.held_is) ∙ h | inr f ↦ true-false (sym f ∙ sound) ]
        ];
      }
    where
      flip : (b : Bool) → not b ≡ true → b ≡ false
      flip false e = refl
      flip true e = true-false (sym e)

  either-waits : (t : ℕ) → among t all-waiting ≡ true → (among t s.waiting ≡ true) ⊎ (among t own-waiting ≡ true)
  either-waits t a = split (among t s.waiting) refl (sym (list_any-append (λ (i : ℕ). i == t) s.waiting own-waiting) ∙ a)
    where
      split : (b : Bool) → among t s.waiting ≡ b → (b || among t own-waiting) ≡ true → (among t s.waiting ≡ true) ⊎ (among t own-waiting ≡ true)
      split true e h = inl e
      split false e h = inr h

  pub blocked-of : (t : ℕ) → among t all-waiting ≡ true → is_blocked t v.journal ≡ true
  blocked-of t a = elim (either-waits t a) [
    | inl c ↦ held-back t c
    | inr m ↦ let w : OwnWaits t = own-waits t m in sym (v.blocked_is t w.there) ∙ w.blocked
  ]

  pub waiting-open : All (λ t. IsTrue (among t seen.streams)) all-waiting
  waiting-open = all-of (λ t. IsTrue (among t seen.streams)) all-waiting (λ t a. elim (either-waits t a) [
    | inl c ↦ let w : IsWaiting t = waits-of t c in stream-open v t w.open_is w.no_house
    | inr m ↦ (own-waits t m).there
  ])

  pub waiting-blocked : All (λ t. IsTrue (among t seen.blocked)) all-waiting
  waiting-blocked = all-of (λ t. IsTrue (among t seen.blocked)) all-waiting (λ t a. elim (either-waits t a) [
    | inl c ↦ let w : IsWaiting t = waits-of t c in v.blocked_is t (stream-open v t w.open_is w.no_house) ∙ held-back t c
    | inr m ↦ (own-waits t m).blocked
  ])

  -- the server is waited for where nothing is to be read
  pub some-waits : want_of s ≡ WriteOnly → 0 < length all-waiting
  some-waits e =
      let much : READING_STOPS_AT ≤ length s.up.waiting = (want-is (length s.up.waiting) READING_STOPS_AT).0 e in
      ap-less (by_queue s.up.waiting much)
    where
      by_queue : (q : List ℕ) → READING_STOPS_AT ≤ length q → is_empty q ≡ false
      by_queue [] le = absurd (omega arith)
      by_queue (b ∷ q) le = refl

      ap-less : is_empty s.up.waiting ≡ false → 0 < length all-waiting
      ap-less f =
          let n : s.waiting ≡ 0 ∷ waiting_clients s.clients = (fits [] []).waiting_is ∙ ap (λ b. cond b (waiting_clients s.clients) (0 ∷ waiting_clients s.clients)) f in
          let m : length s.waiting ≡ length (0 ∷ waiting_clients s.clients) = ap length n in
          let l : length all-waiting ≡ length s.waiting + length own-waiting = length-append s.waiting own-waiting in omega arith

  own-none : not_own own-waiting ≡ []
  own-none = none-left own-waiting (λ t a. (own-waits t a).own_is)

  may-wait : (t : ℕ) → among t all-waiting ≡ true → MayWaitForOwn v.journal t
  may-wait t a is = elim (either-waits t a) [
    | inl c ↦ let w : IsWaiting t = waits-of t c in true-false (sym is ∙ open-own v t w.open_is w.no_house)
    | inr m ↦ let w : OwnWaits t = own-waits t m in by_failed w (has_failed t v.journal) refl
  ]
    where
      by_failed : OwnWaits t → (b : Bool) → has_failed t v.journal ≡ b → b ≡ false
      by_failed w false e = refl
      by_failed w true e = true-false (sym (v.failed_are t is w.there e) ∙ w.unfailed)

  pub waits-right : (picks : List ℕ) (later : List HouseReply) → WaitsRight (setting picks later) v.journal all-waiting (want_of s) seen.streams
  waits-right picks later = record {
    goes_on = sym (some-end (rows picks later)) ∙ ap is_some (sym (fits picks later).ended_is ∙ live);
    waits_for = filter-append (λ (t : ℕ). not (is_own t)) s.waiting own-waiting
        ∙ (ap (λ l. not_own s.waiting ++ l) own-none ∙ (append-nil (not_own s.waiting)
        ∙ (ap not_own (waits-are picks later) ∙ (both-tests (λ t. not (is_own t)) (has_output (rows picks later)) (0 ∷ numbers s.clients) ∙ ap (filter (has_output (rows picks later))) (sym streams-are)))));
    own = all-of (MayWaitForOwn v.journal) all-waiting may-wait;
    blocked = all-of (λ t. IsTrue (is_blocked t v.journal)) all-waiting blocked-of;
    write_only = subst (λ q. ((cond (nat_lt (length s.up.waiting) READING_STOPS_AT) Read WriteOnly) ≡ WriteOnly) ↔ (READING_STOPS_AT ≤ length q)) (fits picks later).fit.up (want-is (length s.up.waiting) READING_STOPS_AT);
    settled = λ t client. (v.sound picks later).settled t (not-own-stream t client) refl;
    house = handed-all v picks later;
  }

  pub open-right : (receives : seen.listens ≡ s.listening) (picks : List ℕ) (later : List HouseReply) → OpenRight (rows picks later) seen.streams seen.listens
  open-right receives picks later = record {
    open_streams = streams-are ∙ ap (λ l. 0 ∷ not_own l) (all-served (rows picks later) s.clients (fits picks later).fit.each (λ k p. none-lost (fits picks later) none k (ap (λ b. b || among k s.refused) p)) ∙ (fits picks later).served_are);
    listening = receives ∙ (fits picks later).listening_is;
  }

  -- ---- the master's own streams then

  -- the streams of the master's own that are waited for
  pub own-are : filter is_own all-waiting ≡ own-waiting
  own-are = filter-append is_own s.waiting own-waiting
      ∙ (ap (λ l. l ++ filter is_own own-waiting) (keeps-none is_own s.waiting (λ t a. let w : IsWaiting t = waits-of t a in open-own v t w.open_is w.no_house))
      ∙ keeps-every is_own own-waiting (λ t a. (own-waits t a).own_is))

  -- one failed where the journal has that it did
  same-failed : (t : ℕ) → among t own ≡ true → has_failed t v.journal ≡ among t failed
  same-failed t mine = by_both (has_failed t v.journal) refl (among t failed) refl
    where
      one : IsTrue (is_one t seen.own)
      one = sym (among-one t seen.own) ∙ (sym (ap (among t) o.own_is) ∙ mine)

      by_both : (a : Bool) → has_failed t v.journal ≡ a → (b : Bool) → among t failed ≡ b → a ≡ b
      by_both true e true f = refl
      by_both false e false f = refl
      by_both true e false f = sym (v.failed_are t (o.numbered t one) (o.opened t one) e) ∙ f
      by_both false e true f = sym e ∙ v.failed_did t f

  -- those that have not failed
  pub unfailed-are : unfailed_in v.journal ≡ filter (λ t. not (among t failed)) own
  unfailed-are = ap (λ (l : List OwnStream). filter (λ t. not (has_failed t v.journal)) (numbers_of l)) (sym v.places.own)
      ∙ (ap (filter (λ t. not (has_failed t v.journal))) (sym o.own_is)
      ∙ keeps-alike (λ t. not (has_failed t v.journal)) (λ t. not (among t failed)) own (λ t mine. ap not (same-failed t mine)))

  -- the mark of the call, and what is seen with it
  abbrev pub wait-mark : Mark
  wait-mark = Waits all-waiting (want_of s) seen.streams (shown_of seen)

  abbrev pub seen-waiting : Seen
  seen-waiting = record seen { recorded = option_map (λ m. m ++ wait-mark ∷ []) seen.recorded }

  -- the call was recorded
  unfoldable pub waited : seen.listens ≡ s.listening → now.unnoted ≡ [] → Rest.rests (want_of s) now.recorded now.calls seen.listeners seen.own own-waiting (filter (λ t. not (among t failed)) own) → Serving May Rest before now policy pid start seen-waiting held failed (given + 1) [] s
  waited receives noted rests =
      let alike = waits-alike all-waiting seen.streams (want_of s) (shown_of seen) v.journal in
      let recorded : now.recorded ≡ option_map (λ l. l ++ house_marks v.journal) before = v.house ∙ ap (λ (ms : List HouseMark). option_map (λ (l : List HouseMark). l ++ ms) before) (ap (λ l. house_marks v.journal ++ l) noted ∙ append-nil (house_marks v.journal)) in
      serve-alone v now seen-waiting held failed (given + 1) [] s wait-mark
      (stands-alike v.journal (wait-mark ∷ v.journal) v.picked v.replies s v.closed alike v.stands) (λ picks replies. refl) record {
        recorded = refl;
        policy_is = refl;
        pid_is = refl;
        notes = notes-none now wait-mark refl;
        called = λ picks later. calls-none now;
        askers = askers-more v wait-mark;
        house_in = v.house_in;
        house_there = v.house_there;
        rested = λ picks later.
            let set : Setting = by_lists policy pid (v.picked ++ picks) (v.replies ++ later) in
            let called : calls_in set v.journal ≡ now.calls = sym (ap (λ l. calls_in set v.journal ++ calls_of l) noted ∙ append-nil (calls_in set v.journal)) ∙ v.called picks later in
            let ls : List ℕ = listeners_in v.journal in
            let os : List OwnStream = own_in v.journal in
            let ws : List ℕ = filter is_own all-waiting in
            let us : List ℕ = unfailed_in v.journal in
            subst (λ (l : List HouseCall). Rest.rests (want_of s) (option_map (λ recorded. recorded ++ house_marks v.journal) before) l ls os ws us) (sym called)
            (subst (λ (o : Option (List HouseMark)). Rest.rests (want_of s) o now.calls ls os ws us) recorded
            (subst (λ (l : List ℕ). Rest.rests (want_of s) now.recorded now.calls l os ws us) v.places.listeners
            (subst (λ (l : List OwnStream). Rest.rests (want_of s) now.recorded now.calls seen.listeners l ws us) v.places.own
            (subst (λ (l : List ℕ). Rest.rests (want_of s) now.recorded now.calls seen.listeners seen.own l us) (sym own-are)
            (subst (λ (l : List ℕ). Rest.rests (want_of s) now.recorded now.calls seen.listeners seen.own own-waiting l) (sym unfailed-are) rests)))));
        absent = λ e. refl;
        turns = ap (λ n. n + 1) v.turns;
        placed = placed-still v wait-mark seen-waiting s record {
          lawful = (all-of (λ t. IsTrue (is_blocked t v.journal)) all-waiting blocked-of, v.of_wire.lawful);
          asked = (λ reads. true-false (sym reads), v.of_wire.asked);
          known = v.of_wire.known;
          holds = v.of_wire.holds;
          below = v.of_wire.below;
        } refl refl refl refl refl refl (λ t. refl) (λ t. refl) (λ t. refl)
            (owns-as v.journal seen seen-waiting wait-mark v.places (record { opened = record { numbers = v.places.streams ∙ ap numbers_of v.places.own; own = v.places.own; listeners = v.places.listeners }; gives = tt; writes = tt; joins = tt; others = refl }) (λ o. refl) (λ l. refl) refl refl refl);
        sound = λ picks later.
            let old : IsRunSound (setting picks later) v.journal [] s = v.sound picks later in
            record {
              promise = record { takes = tt; waits = waits-right picks later; speaks = tt; open_streams = open-right receives picks later; answers = tt; after_end = tt; silence = tt };
              failed_out = old.failed_out;
              settled = old.settled;
            };
      }
