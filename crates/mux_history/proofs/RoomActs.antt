-- An act, or a message, that its channel's account allows leaves the channel accounted; what a
-- client sends in a confirmed channel is such an act.
use Rattle.std.proofs.Common.{◌≡◌, ℕ, ◌≤◌, List, [], ◌∷◌, true, false, Bool, refl, ◌∙◌, ap, arith, sym, Option, Some, None, inl, inr, Ok, Err}
use Rattle.std.specs.Prelude.{◌==◌, ◌&&◌, ◌⊎◌, filter, find, Result}
use Rattle.std.proofs.lemmas.Bool.Decides.{nat_tests}
use Rattle.mux_history.specs.Channels.{Channel, any_by, channels_of, holder, is_closes, is_confirmed, is_channel_held, is_number, live_in, with_down, with_up, with_ups}
use Rattle.mux_history.specs.Summary.{Act, Answers, Asks, Carries, Closes, Confirmation, Confirms, Ends, Fails, Summary, Grants, Open, Refuses, Requests, Succeeds, Transport, Within, read_summary, reading}
use Rattle.mux_history.specs.Kept.{Every}
use Rattle.mux_history.specs.Laws.{IsAccounted, IsWithin, with_act}
use Rattle.mux_history.specs.Ledger.{reply_count, request_count, breach, carried, other_side, room, sum_of, unanswered}
use Rattle.mux_history.specs.Rows.{Row}
use Rattle.mux_history.specs.Said.{Outcome, confirmed_at, is_failing, on_breach, on_confirmed, on_waiting, sent_within, sends_payload, waiting_at}
use Rattle.ssh_grammar.specs.declared.fault.Bad.{Bad}
use Rattle.ssh_grammar.specs.declared.fault.Breach.{Breach}
use Rattle.ssh_grammar.specs.declared.fault.Breach.TheVariants.{AfterClose, NotOpen, Unasked}
use Rattle.ssh_grammar.specs.declared.side.Side.{Side}
use Rattle.ssh_grammar.specs.declared.side.Side.TheVariants.{Down, Up}
use Rattle.mux_history.proofs.Apart.{AllApart, ApartFrom, AreApart, each-both}
use Rattle.mux_history.proofs.Finds.{Each, filter-no, filter-yes, find-no, find-yes}
use Rattle.mux_history.proofs.Harmless.{Harmless, IsHarmless}
use Rattle.mux_history.proofs.Legal.{fits-of}
use Rattle.mux_history.proofs.Sends.{and-left, and-right}

-- ---- one more act

-- an act that its channel's account allows
abbrev pub MayAct : Side → Act → Channel → Type 0
MayAct way (Carries n) x = n ≤ room way x
MayAct way Answers x = 1 ≤ unanswered (other_side way) x
MayAct way act x = Unit {0}

carries-may : (way : Side) (act : Act) (x : Channel) → MayAct way act x → carried act ≤ room way x
carries-may way (Carries n) x may = may
carries-may way (Confirms w m) x may = omega arith
carries-may way Fails x may = omega arith
carries-may way (Grants n) x may = omega arith
carries-may way Ends x may = omega arith
carries-may way Closes x may = omega arith
carries-may way (Asks wants) x may = omega arith
carries-may way Answers x may = omega arith

answers-may : (way : Side) (act : Act) (x : Channel) → MayAct way act x → reply_count act ≤ unanswered (other_side way) x
answers-may way Answers x may = may
answers-may way (Carries n) x may = omega arith
answers-may way (Confirms w m) x may = omega arith
answers-may way Fails x may = omega arith
answers-may way (Grants n) x may = omega arith
answers-may way Ends x may = omega arith
answers-may way Closes x may = omega arith
answers-may way (Asks wants) x may = omega arith

abbrev pub Accounted : Channel → Type 0
Accounted x = (way : Side) → IsAccounted way x

within-act : (way v : Side) (act : Act) (x : Channel) → carried act ≤ room way x → IsWithin v x → IsWithin v (with_act way act x)
within-act Up Up act x may within = by_side x.by may within
  where
    by_side : (side : Side) → carried act ≤ room Up (record x { by = side }) → IsWithin Up (record x { by = side }) → IsWithin Up (record x { by = side; acts = (Up, act) ∷ x.acts })
    by_side Up may within = omega arith
    by_side Down may within = omega arith
within-act Down Down act x may within = by_side x.by may within
  where
    by_side : (side : Side) → carried act ≤ room Down (record x { by = side }) → IsWithin Down (record x { by = side }) → IsWithin Down (record x { by = side; acts = (Down, act) ∷ x.acts })
    by_side Up may within = omega arith
    by_side Down may within = omega arith
within-act Up Down act x may within = by_side x.by within
  where
    by_side : (side : Side) → IsWithin Down (record x { by = side }) → IsWithin Down (record x { by = side; acts = (Up, act) ∷ x.acts })
    by_side Up within = omega arith
    by_side Down within = omega arith
within-act Down Up act x may within = by_side x.by within
  where
    by_side : (side : Side) → IsWithin Up (record x { by = side }) → IsWithin Up (record x { by = side; acts = (Down, act) ∷ x.acts })
    by_side Up within = omega arith
    by_side Down within = omega arith

answered-act : (way v : Side) (act : Act) (x : Channel) → reply_count act ≤ unanswered (other_side way) x → sum_of reply_count (other_side v) x.acts ≤ sum_of request_count v x.acts → sum_of reply_count (other_side v) ((way, act) ∷ x.acts) ≤ sum_of request_count v ((way, act) ∷ x.acts)
answered-act Up Up act x may fewer = omega arith
answered-act Up Down act x may fewer = omega arith
answered-act Down Up act x may fewer = omega arith
answered-act Down Down act x may fewer = omega arith

pub accounted-act : (way : Side) (act : Act) (x : Channel) → MayAct way act x → Accounted x → Accounted (with_act way act x)
accounted-act way act x may known v = record { within = within-act way v act x (carries-may way act x may) (known v).within; answered = answered-act way v act x (answers-may way act x may) (known v).answered }

-- its numbers are not looked at
accounted-named : (own number remote : Option ℕ) (x : Channel) → Accounted x → Accounted (record x { own = own; number = number; remote = remote })
accounted-named own number remote x known v = record { within = (known v).within; answered = (known v).answered }

-- a message that breaks no rule
pub may-of : (way : Side) (act : Act) (x : Channel) → breach way act x ≡ None → MayAct way act x
may-of way (Carries n) x fine = (fits-of way n x fine).0
may-of way Answers x fine = by_case (is_confirmed x) (any_by way is_closes x.acts) (unanswered (other_side way) x == 0) refl fine
  where
    by_case : (a b c : Bool) → (unanswered (other_side way) x == 0) ≡ c → (elim a as (λ _. Option Breach) [ false ↦ Some NotOpen | true ↦ elim b as (λ _. Option Breach) [ true ↦ Some AfterClose | false ↦ elim c as (λ _. Option Breach) [ true ↦ Some Unasked | false ↦ None ] ] ]) ≡ None → 1 ≤ unanswered (other_side way) x
    by_case true false false e fine = grind (arith, nat_tests)
    by_case true false true e fine = cc
    by_case true true c e fine = cc
    by_case false b c e fine = cc
may-of way (Confirms w m) x fine = tt
may-of way Fails x fine = tt
may-of way (Grants n) x fine = tt
may-of way Ends x fine = tt
may-of way Closes x fine = tt
may-of way (Asks wants) x fine = tt

-- ---- one message

abbrev pub SafeUp : Summary → Channel → Type 0
SafeUp (Within s act) x = is_number x.remote s ≡ true → is_channel_held x ≡ true → MayAct Up act x
SafeUp m x = Unit {0}

abbrev pub SafeDown : Summary → Channel → Type 0
SafeDown (Within n act) x = is_number x.number n ≡ true → is_channel_held x ≡ true → MayAct Down act x
SafeDown m x = Unit {0}

pub accounted-up : (own : Option ℕ) (m : Summary) (x : Channel) → SafeUp m x → Accounted x → Accounted (with_up own m x)
accounted-up own (Confirmation s n w max) x safe known = elim (is_number x.remote s && is_channel_held x) as (λ b. Accounted (elim b as (λ _. Channel) [ true ↦ record x { own = own; number = Some n; acts = (Up, Confirms w max) ∷ x.acts } | false ↦ x ])) [ true ↦ accounted-named own (Some n) x.remote (with_act Up (Confirms w max) x) (accounted-act Up (Confirms w max) x tt known) | false ↦ known ]
accounted-up own (Within s act) x safe known = by_case (is_number x.remote s && is_channel_held x) refl
  where
    by_case : (b : Bool) → (is_number x.remote s && is_channel_held x) ≡ b → Accounted (elim b as (λ _. Channel) [ true ↦ record x { acts = (Up, act) ∷ x.acts } | false ↦ x ])
    by_case true e = accounted-act Up act x (safe (and-left (is_number x.remote s) (is_channel_held x) e) (and-right (is_number x.remote s) (is_channel_held x) e)) known
    by_case false e = known
accounted-up own (Transport number) x safe known = known
accounted-up own (Requests what want) x safe known = known
accounted-up own (Succeeds rest) x safe known = known
accounted-up own Refuses x safe known = known
accounted-up own (Open what s w max) x safe known = known

pub accounted-down : (m : Summary) (x : Channel) → SafeDown m x → Accounted x → Accounted (with_down m x)
accounted-down (Confirmation n s w max) x safe known = elim (is_number x.number n && is_channel_held x) as (λ b. Accounted (elim b as (λ _. Channel) [ true ↦ record x { remote = Some s; acts = (Down, Confirms w max) ∷ x.acts } | false ↦ x ])) [ true ↦ accounted-named x.own x.number (Some s) (with_act Down (Confirms w max) x) (accounted-act Down (Confirms w max) x tt known) | false ↦ known ]
accounted-down (Within n act) x safe known = by_case (is_number x.number n && is_channel_held x) refl
  where
    by_case : (b : Bool) → (is_number x.number n && is_channel_held x) ≡ b → Accounted (elim b as (λ _. Channel) [ true ↦ record x { acts = (Down, act) ∷ x.acts } | false ↦ x ])
    by_case true e = accounted-act Down act x (safe (and-left (is_number x.number n) (is_channel_held x) e) (and-right (is_number x.number n) (is_channel_held x) e)) known
    by_case false e = known
accounted-down (Transport number) x safe known = known
accounted-down (Requests what want) x safe known = known
accounted-down (Succeeds rest) x safe known = known
accounted-down Refuses x safe known = known
accounted-down (Open what s w max) x safe known = known

pub accounted-reading : (p : List ℕ) (f : Summary → Channel) (x : Channel) → Accounted x → ((m : Summary) → read_summary p ≡ Ok m → Accounted (f m)) → Accounted (reading p f x)
accounted-reading p f x known each = by_case (read_summary p) refl
  where
    by_case : (r : Result Summary Bad) → read_summary p ≡ r → Accounted (elim r as (λ _. Channel) [ Err e ↦ x | Ok m ↦ f m ])
    by_case (Err e) reads = known
    by_case (Ok m) reads = each m reads

safe-harmless : (m : Summary) (x : Channel) → IsHarmless m → SafeUp m x
safe-harmless (Within s Closes) x h = λ a b. tt
safe-harmless (Within s Fails) x h = λ a b. tt
safe-harmless (Within s act) x h = absurd h
safe-harmless m x h = tt

pub accounted-harmless : (own : Option ℕ) (ups : List (List ℕ)) → Every Harmless ups → (x : Channel) → Accounted x → Accounted (with_ups own ups x)
accounted-harmless own [] harmless x known = known
accounted-harmless own (p ∷ ups) harmless x known =
    accounted-harmless own ups harmless.1 (reading p (λ m. with_up own m x) x)
    (accounted-reading p (λ m. with_up own m x) x known (λ m reads. accounted-up own m x (safe-harmless m x (harmless.0 m reads)) known))

-- ---- the channel that is meant

found-in : (test : Channel → Bool) → ((x y : Channel) → ApartFrom x y → is_channel_held x ≡ true → is_channel_held y ≡ true → test x ≡ true → test y ≡ false) → (xs : List Channel) → AllApart xs → Each (λ z. is_channel_held z ≡ true → test z ≡ true → find test (filter is_channel_held xs) ≡ Some z) xs
found-in test pair [] apart = tt
found-in test pair (x ∷ xs) apart = (
  (λ held has. ap (find test) (filter-yes is_channel_held x xs held) ∙ find-yes test x (filter is_channel_held xs) has),
  each-both (ApartFrom x) (λ z. is_channel_held z ≡ true → test z ≡ true → find test (filter is_channel_held xs) ≡ Some z) (λ z. is_channel_held z ≡ true → test z ≡ true → find test (filter is_channel_held (x ∷ xs)) ≡ Some z) behind xs apart.0 (found-in test pair xs apart.1),
)
  where
    behind : (z : Channel) → ApartFrom x z → (is_channel_held z ≡ true → test z ≡ true → find test (filter is_channel_held xs) ≡ Some z) → is_channel_held z ≡ true → test z ≡ true → find test (filter is_channel_held (x ∷ xs)) ≡ Some z
    behind z a found held has = by_held (is_channel_held x) refl (test x) refl
      where
        by_held : (b : Bool) → is_channel_held x ≡ b → (t : Bool) → test x ≡ t → find test (filter is_channel_held (x ∷ xs)) ≡ Some z
        by_held false e t f = ap (find test) (filter-no is_channel_held x xs e) ∙ found held has
        by_held true e false f = ap (find test) (filter-yes is_channel_held x xs e) ∙ (find-no test x (filter is_channel_held xs) f ∙ found held has)
        by_held true e true f = absurd (let no : test z ≡ false = pair x z a e held f in let bad : true ≡ false = sym has ∙ no in cc)

-- what is known of a channel of the log
pub record KnownIn (before : List Row) (x : Channel) : Type 0 where
  pub accounted : Accounted x
  pub live : (s : ℕ) → is_channel_held x ≡ true → is_number x.remote s ≡ true → live_in before s ≡ Some x
  pub holds : (n : ℕ) → is_channel_held x ≡ true → is_number x.number n ≡ true → holder before n ≡ Some x

pub known-in : (before : List Row) → AreApart (channels_of before) → Each Accounted (channels_of before) → Each (KnownIn before) (channels_of before)
known-in before good known = by_all (channels_of before) known (λ s. found-in (λ y. is_number y.remote s) (λ x y a h k e. a.remotes h k s e) (channels_of before) good.apart) (λ n. found-in (λ y. is_number y.number n) (λ x y a h k e. a.numbers h k n e) (channels_of before) good.apart)
  where
    by_all : (xs : List Channel) → Each Accounted xs → ((s : ℕ) → Each (λ z. is_channel_held z ≡ true → is_number z.remote s ≡ true → live_in before s ≡ Some z) xs) → ((n : ℕ) → Each (λ z. is_channel_held z ≡ true → is_number z.number n ≡ true → holder before n ≡ Some z) xs) → Each (KnownIn before) xs
    by_all [] known lives holds = tt
    by_all (x ∷ xs) known lives holds = (record { accounted = known.0; live = λ s. (lives s).0; holds = λ n. (holds n).0 }, by_all xs known.1 (λ s. (lives s).1) (λ n. (holds n).1))

pub some-same : (x y : Channel) → Some x ≡ Some y → x ≡ y
some-same x y e = cc

-- ---- what a client sends in a confirmed channel

abbrev pub UpLegal : List Row → ℕ → Act → Type 0
UpLegal own s act = (is_failing act ≡ true) ⊎ ((y : Channel) × (confirmed_at own s ≡ Some y) × (breach Up act y ≡ None))

-- what goes up of a message within a channel is legal
pub within-up : (own : List Row) (p : List ℕ) (s : ℕ) (act : Act) → ((sent_within own p s act).sent ≡ []) ⊎ (((sent_within own p s act).sent ≡ p ∷ []) × UpLegal own s act)
within-up own p s act = by_failing (is_failing act) refl
  where
    by_waiting : is_failing act ≡ true → (o : Option Channel) → ((on_waiting s (sends_payload p) o).sent ≡ []) ⊎ (((on_waiting s (sends_payload p) o).sent ≡ p ∷ []) × UpLegal own s act)
    by_waiting e None = inl refl
    by_waiting e (Some x) = inr (refl, inl e)

    by_breach : (x : Channel) → confirmed_at own s ≡ Some x → (o : Option Breach) → breach Up act x ≡ o → ((on_breach p s o).sent ≡ []) ⊎ (((on_breach p s o).sent ≡ p ∷ []) × UpLegal own s act)
    by_breach x at None fine = inr (refl, inr (x, at, fine))
    by_breach x at (Some b) fine = inl refl

    by_confirmed : (o : Option Channel) → confirmed_at own s ≡ o → ((on_confirmed p s act o).sent ≡ []) ⊎ (((on_confirmed p s act o).sent ≡ p ∷ []) × UpLegal own s act)
    by_confirmed None at = inl refl
    by_confirmed (Some x) at = by_breach x at (breach Up act x) refl

    by_failing : (b : Bool) → is_failing act ≡ b → ((elim b as (λ _. Outcome) [ true ↦ on_waiting s (sends_payload p) (waiting_at own s) | false ↦ on_confirmed p s act (confirmed_at own s) ]).sent ≡ []) ⊎ (((elim b as (λ _. Outcome) [ true ↦ on_waiting s (sends_payload p) (waiting_at own s) | false ↦ on_confirmed p s act (confirmed_at own s) ]).sent ≡ p ∷ []) × UpLegal own s act)
    by_failing true e = by_waiting e (waiting_at own s)
    by_failing false e = by_confirmed (confirmed_at own s) refl
