-- What a change of the forwardings leaves of it that each request without a reply has a forwarding
-- of its own.
use Rattle.std.proofs.Common.{◌≡◌, ℕ, ◌+◌, ◌≤◌, List, [], ◌∷◌, ◌++◌, map, length, true, false, Bool, refl, ◌∙◌, ap, arith, sym, subst, Option, Some, None}
use Rattle.std.specs.Prelude.{◌==◌, ◌&&◌, ◌||◌, not, is_none}
use Rattle.std.proofs.lemmas.Bool.Decides.{nat_tests}
use Rattle.ssh_grammar.specs.Messages.{Key}
use Rattle.mux_history.specs.Channels.{is_number}
use Rattle.mux_history.specs.Forwardings.{Forwarding, change_first, is_forwarding_free_at, is_request, of_client, forwarding_after_reply, stopped}
use Rattle.mux_history.specs.Summary.{Summary, Refuses, Succeeds}
use Rattle.mux_history.specs.Keys.{bound, has_key}
use Rattle.mux_history.specs.Requests.{Ask}
use Rattle.mux_history.specs.Rows.{any_of}
use Rattle.mux_history.proofs.Sends.{and-left, and-right}
use Rattle.mux_history.proofs.Bools.{or-yes, self}
use Rattle.mux_bounds.proofs.Covers.{CoverFrom, Sound, covered, covers, covers-once, none-number}
use Rattle.mux_bounds.proofs.Weights.{EachOf}

-- ---- changes

pub cover-from : (i : ℕ) (us : List Ask) (fs gs : List Forwarding) → ((j : ℕ) → i ≤ j → covered j fs ≡ true → covered j gs ≡ true) → CoverFrom i us fs → CoverFrom i us gs
cover-from i [] fs gs step cover = tt
cover-from i (a ∷ us) fs gs step cover = (λ is. step i (omega arith) (cover.0 is), cover-from (i + 1) us fs gs (λ j le. step j (omega (arith, le))) cover.1)

pub cover-append : (i : ℕ) (us new : List Ask) (fs : List Forwarding) → CoverFrom i us fs → CoverFrom (i + length us) new fs → CoverFrom i (us ++ new) fs
cover-append i [] new fs cover more = let e : i + 0 ≡ i = omega arith in subst (λ (j : ℕ). CoverFrom j new fs) e more
cover-append i (a ∷ us) new fs cover more = let e : i + length (a ∷ us) ≡ i + 1 + length us = omega arith in (cover.0, cover-append (i + 1) us new fs cover.1 (subst (λ (j : ℕ). CoverFrom j new fs) e more))

pub covered-append : (j : ℕ) (fs gs : List Forwarding) → covered j fs ≡ true → covered j (fs ++ gs) ≡ true
covered-append j [] gs e = cc
covered-append j (f ∷ fs) gs e = by_case (covers j f) (λ h. covered-append j fs gs h) e
  where
    by_case : (b : Bool) → (covered j fs ≡ true → covered j (fs ++ gs) ≡ true) → (b || covered j fs) ≡ true → (b || covered j (fs ++ gs)) ≡ true
    by_case true ih e = refl
    by_case false ih e = ih e

pub covered-last : (j : ℕ) (fs gs : List Forwarding) → covered j gs ≡ true → covered j (fs ++ gs) ≡ true
covered-last j [] gs e = e
covered-last j (f ∷ fs) gs e = or-yes (covers j f) (covered j (fs ++ gs)) (covered-last j fs gs e)

-- a change of each that leaves it waiting
pub covered-map : (j : ℕ) (g : Forwarding → Forwarding) (fs : List Forwarding) → EachOf Sound fs → ((f : Forwarding) → Sound f → covers j f ≡ true → covers j (g f) ≡ true) → covered j fs ≡ true → covered j (map g fs) ≡ true
covered-map j g [] sound step e = cc
covered-map j g (f ∷ fs) sound step e = by_case (covers j f) refl (λ h. covered-map j g fs sound.1 step h) e
  where
    by_case : (b : Bool) → covers j f ≡ b → (covered j fs ≡ true → covered j (map g fs) ≡ true) → (b || covered j fs) ≡ true → (covers j (g f) || covered j (map g fs)) ≡ true
    by_case true here ih e = ap (λ b. b || covered j (map g fs)) (step f sound.0 here)
    by_case false here ih e = or-yes (covers j (g f)) (covered j (map g fs)) (ih e)

-- a change of the first that passes, which waited for nothing
pub covered-first : (j : ℕ) (test : Forwarding → Bool) (g : Forwarding → Forwarding) (fs : List Forwarding) → ((f : Forwarding) → test f ≡ true → covers j f ≡ false) → covered j fs ≡ true → covered j (change_first test g fs) ≡ true
covered-first j test g [] free e = cc
covered-first j test g (f ∷ fs) free e = by_case (test f) refl (covers j f) refl (λ h. covered-first j test g fs free h) e
  where
    by_case : (t : Bool) → test f ≡ t → (b : Bool) → covers j f ≡ b → (covered j fs ≡ true → covered j (change_first test g fs) ≡ true) → (b || covered j fs) ≡ true → covered j (elim t as (λ _. List Forwarding) [ true ↦ g f ∷ fs | false ↦ f ∷ change_first test g fs ]) ≡ true
    by_case true t true b ih e = let bad : true ≡ false = sym b ∙ free f t in absurd (let h = bad in cc)
    by_case true t false b ih e = or-yes (covers j (g f)) (covered j fs) e
    by_case false t true b ih e = ap (λ c. c || covered j (change_first test g fs)) b
    by_case false t false b ih e = or-yes (covers j f) (covered j (change_first test g fs)) (ih e)

-- and waits then
pub covered-hit : (j : ℕ) (test : Forwarding → Bool) (g : Forwarding → Forwarding) (fs : List Forwarding) → any_of test fs ≡ true → ((f : Forwarding) → test f ≡ true → covers j (g f) ≡ true) → covered j (change_first test g fs) ≡ true
covered-hit j test g [] some step = cc
covered-hit j test g (f ∷ fs) some step = by_case (test f) refl (λ h. covered-hit j test g fs h step) some
  where
    by_case : (t : Bool) → test f ≡ t → (any_of test fs ≡ true → covered j (change_first test g fs) ≡ true) → (t || any_of test fs) ≡ true → covered j (elim t as (λ _. List Forwarding) [ true ↦ g f ∷ fs | false ↦ f ∷ change_first test g fs ]) ≡ true
    by_case true t ih some = ap (λ b. b || covered j fs) (step f t)
    by_case false t ih some = or-yes (covers j f) (covered j (change_first test g fs)) (ih some)

-- ---- of one forwarding

-- what a free one is
pub record IsFree (f : Forwarding) : Type 0 where
  pub on : not f.over ≡ true
  pub cancel : is_none f.cancel ≡ true
  pub live : is_none f.live ≡ false

some-key : (o : Option Key) (key : Key) → has_key o key ≡ true → is_none o ≡ false
some-key None key e = cc
some-key (Some k) key e = refl

pub free-is : (k : ℕ) (key : Key) (f : Forwarding) → is_forwarding_free_at k key f ≡ true → IsFree f
free-is k key f e =
    let mine = and-right (f.client == k) (not f.over && (is_none f.cancel && has_key f.live key)) e in
    let rest = and-right (not f.over) (is_none f.cancel && has_key f.live key) mine in
    let last = and-right (is_none f.cancel) (has_key f.live key) rest in
    record {
      on = and-left (not f.over) (is_none f.cancel && has_key f.live key) mine;
      cancel = and-left (is_none f.cancel) (has_key f.live key) rest;
      live = some-key f.live key last;
    }

and-none : (a : Bool) → (a && false) ≡ false
and-none true = refl
and-none false = refl

live-request : (f : Forwarding) (j : ℕ) → is_none f.live ≡ false → is_request f j ≡ false
live-request f j live = ap (λ b. (f.request == j) && b) live ∙ and-none (f.request == j)

pub free-waits-not : (f : Forwarding) (j : ℕ) → IsFree f → covers j f ≡ false
free-waits-not f j free =
    ap (λ b. not f.over && (b || is_number f.cancel j)) (live-request f j free.live)
    ∙ (ap (λ b. not f.over && (false || b)) (none-number f.cancel j free.cancel) ∙ and-none (not f.over))

pub stopped-waits : (n : ℕ) (f : Forwarding) → IsFree f → covers n (stopped true n f) ≡ true
stopped-waits n f free =
    ap (λ b. b && (is_request f n || (n == n))) free.on
    ∙ or-yes (is_request f n) (n == n) (self n)

pub stopped-sound : (wants : Bool) (n : ℕ) (f : Forwarding) → IsFree f → Sound (stopped wants n f)
stopped-sound true n f free = λ none. absurd (let bad : true ≡ false = sym none ∙ free.live in let h = bad in cc)
stopped-sound false n f free = λ none. free.cancel

pub sound-first : (test : Forwarding → Bool) (g : Forwarding → Forwarding) → ((f : Forwarding) → test f ≡ true → Sound (g f)) → (fs : List Forwarding) → EachOf Sound fs → EachOf Sound (change_first test g fs)
sound-first test g step [] all = tt
sound-first test g step (f ∷ fs) all = by_case (test f) refl (sound-first test g step fs all.1)
  where
    by_case : (b : Bool) → test f ≡ b → EachOf Sound (change_first test g fs) → EachOf Sound (elim b as (λ _. List Forwarding) [ true ↦ g f ∷ fs | false ↦ f ∷ change_first test g fs ])
    by_case true e ih = (step f e, all.1)
    by_case false e ih = (all.0, ih)

pub sound-map : (g : Forwarding → Forwarding) → ((f : Forwarding) → Sound f → Sound (g f)) → (fs : List Forwarding) → EachOf Sound fs → EachOf Sound (map g fs)
sound-map g step [] all = tt
sound-map g step (f ∷ fs) all = (step f all.0, sound-map g step fs all.1)

pub sound-append : (fs gs : List Forwarding) → EachOf Sound fs → EachOf Sound gs → EachOf Sound (fs ++ gs)
sound-append [] gs a b = b
sound-append (f ∷ fs) gs a b = (a.0, sound-append fs gs a.1 b)

-- what waits at one place waits at no other
waits-once : (n j : ℕ) (f : Forwarding) → (n == j) ≡ false → Sound f → covers j f ≡ true → (is_request f n || is_number f.cancel n) ≡ true → ⊥
waits-once n j f apart sound waits some = by_place (covers n f) refl
  where
    apart-is : (a b : ℕ) → (a == b) ≡ false → a ≡ b → ⊥
    apart-is a b e same = grind (arith, nat_tests)

    by_place : (b : Bool) → covers n f ≡ b → ⊥
    by_place true e = let same : n ≡ j = covers-once f n j sound e waits in absurd (apart-is n j apart same)
    by_place false e =
        let yes : covers n f ≡ true = ap (λ b. b && (is_request f n || is_number f.cancel n)) (and-left (not f.over) (is_request f j || is_number f.cancel j) waits) ∙ some in
        let bad : true ≡ false = sym yes ∙ e in absurd (let h = bad in cc)

-- a reply at a place leaves what waits at another
pub replied-other : (n j : ℕ) (m : Summary) (f : Forwarding) → (n == j) ≡ false → Sound f → covers j f ≡ true → forwarding_after_reply n m f ≡ f
replied-other n j (Succeeds rest) f apart sound waits = by_case (is_request f n) refl (is_number f.cancel n) refl
  where
    by_case : (a : Bool) → is_request f n ≡ a → (b : Bool) → is_number f.cancel n ≡ b → (elim a as (λ _. Forwarding) [ true ↦ record f { live = Some (bound f.key rest) } | false ↦ elim b as (λ _. Forwarding) [ true ↦ record f { over = true } | false ↦ f ] ]) ≡ f
    by_case true a b be = absurd (waits-once n j f apart sound waits (ap (λ x. x || is_number f.cancel n) a))
    by_case false a true be = absurd (waits-once n j f apart sound waits (or-yes (is_request f n) (is_number f.cancel n) be))
    by_case false a false be = refl
replied-other n j Refuses f apart sound waits = by_case (is_request f n) refl (is_number f.cancel n) refl
  where
    by_case : (a : Bool) → is_request f n ≡ a → (b : Bool) → is_number f.cancel n ≡ b → (elim a as (λ _. Forwarding) [ true ↦ record f { over = true } | false ↦ elim b as (λ _. Forwarding) [ true ↦ record f { cancel = None } | false ↦ f ] ]) ≡ f
    by_case true a b be = absurd (waits-once n j f apart sound waits (ap (λ x. x || is_number f.cancel n) a))
    by_case false a true be = absurd (waits-once n j f apart sound waits (or-yes (is_request f n) (is_number f.cancel n) be))
    by_case false a false be = refl
replied-other n j m f apart sound waits = refl

pub replied-sound : (n : ℕ) (m : Summary) (f : Forwarding) → Sound f → Sound (forwarding_after_reply n m f)
replied-sound n (Succeeds rest) f sound = by_case (is_request f n) (is_number f.cancel n)
  where
    by_case : (a b : Bool) → Sound (elim a as (λ _. Forwarding) [ true ↦ record f { live = Some (bound f.key rest) } | false ↦ elim b as (λ _. Forwarding) [ true ↦ record f { over = true } | false ↦ f ] ])
    by_case true b = λ none. cc
    by_case false true = sound
    by_case false false = sound
replied-sound n Refuses f sound = by_case (is_request f n) (is_number f.cancel n)
  where
    by_case : (a b : Bool) → Sound (elim a as (λ _. Forwarding) [ true ↦ record f { over = true } | false ↦ elim b as (λ _. Forwarding) [ true ↦ record f { cancel = None } | false ↦ f ] ])
    by_case true b = sound
    by_case false true = λ none. refl
    by_case false false = sound
replied-sound n m f sound = sound

pub client-sound : (c : ℕ) (g : Forwarding → Forwarding) (f : Forwarding) → (Sound f → Sound (g f)) → Sound f → Sound (of_client c g f)
client-sound c g f step sound = elim (f.client == c) as (λ b. Sound (elim b as (λ _. Forwarding) [ true ↦ g f | false ↦ f ])) [ true ↦ step sound | false ↦ sound ]

pub client-waits : (c j : ℕ) (g : Forwarding → Forwarding) (f : Forwarding) → (covers j f ≡ true → covers j (g f) ≡ true) → covers j f ≡ true → covers j (of_client c g f) ≡ true
client-waits c j g f step waits = elim (f.client == c) as (λ b. covers j (elim b as (λ _. Forwarding) [ true ↦ g f | false ↦ f ]) ≡ true) [ true ↦ step waits | false ↦ waits ]
