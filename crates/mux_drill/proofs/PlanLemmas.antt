-- What a text says is a plan.
use Rattle.std.proofs.Common.{◌≡◌, refl, ℕ, ◌≤◌, ◌&&◌, Bool, true, false, if◌then◌else◌, nat_le, List, [], ◌∷◌, Option, Some, None, Result, Ok, Err, IfSome, arith}
use Rattle.std.proofs.lemmas.Bool.Decides.{nat_tests}
use Rattle.std.specs.Char.{is_ascii_digit}
use Rattle.std.specs.List.{list_all}
use Rattle.conf_rules.specs.Numbers.{number_within, digits_from}
use Rattle.conf_rules.specs.Reading.{drill_of, drill_number, no_more, seed_limit}
use Rattle.conf_rules.specs.Results.{◌>>=◌}
use Rattle.conf_rules.specs.Texts.{Bytes, split_at_each}
use Rattle.conf_rules.specs.declared.command.Command.{Command}
use Rattle.conf_rules.specs.declared.command.Command.TheVariants.{List as Listing, Master, Control, Drill}
use Rattle.conf_rules.specs.CommandLine.{refused_word}
use Rattle.conf_rules.specs.declared.usage.Usage.TheVariants.{BadDrill}
use Rattle.conf_rules.specs.declared.usage.UsageError.{UsageError}
use Rattle.mux_drill.specs.Plan.{IsPlan, plan_in, plan_of}

-- both numbers that a reading after another one needs
bound : {A B E : Type 0} (r : Result A E) (f : A → Result B E) (y : B) → (r >>= f) ≡ Ok y
    → (x : A) × (r ≡ Ok x) × (f x ≡ Ok y)
bound (Ok x) f y e = (x, refl, e)
bound (Err e) f y absent = cc

-- a number that was read is in its range
within : (low high : ℕ) (text : Bytes) (n : ℕ) → number_within low high text ≡ Some n → (low ≤ n) × (n ≤ high)
within low high [] n e = cc
within low high (d ∷ ds) n e =
    by_case (list_all is_ascii_digit (d ∷ ds)) (digits_from 0 (d ∷ ds)) (nat_le low (digits_from 0 (d ∷ ds))) refl (nat_le (digits_from 0 (d ∷ ds)) high) refl e
  where
    by_case : (a : Bool) (m : ℕ) (b : Bool) → nat_le low m ≡ b → (c : Bool) → nat_le m high ≡ c
        → (if a && (b && c) then Some m else None) ≡ Some n → (low ≤ n) × (n ≤ high)
    by_case true m true least true most e =
        let is : m ≡ n = cc in
        let above : low ≤ m = grind (arith, nat_tests) in
        let below : m ≤ high = grind (arith, nat_tests) in
        (omega (arith, is, above), omega (arith, is, below))
    by_case true m true least false most e = cc
    by_case true m false least c most e = cc
    by_case false m b least c most e = cc

-- what a number is reported as
abbrev recorded : ℕ → Option ℕ → Result ℕ UsageError
recorded word None = refused_word word BadDrill
recorded word (Some n) = Ok n

-- the same of a number of the drill
number_in : (word low high : ℕ) (text : Bytes) (n : ℕ) → drill_number word low high text ≡ Ok n → (low ≤ n) × (n ≤ high)
number_in word low high text n e = by_case (number_within low high text) refl e
  where
    by_case : (o : Option ℕ) → number_within low high text ≡ o → recorded word o ≡ Ok n → (low ≤ n) × (n ≤ high)
    by_case None is none = cc
    by_case (Some k) is some = let found : number_within low high text ≡ Some n = cc in within low high text n found

-- the words of a drill are a plan
in_range : (words : List Bytes) (s c m : ℕ) → drill_of words ≡ Ok (Drill s c m)
    → IsPlan (record { seed = s; clients = c; messages = m })
unfolding drill_of seed_limit
in_range [] s c m e = cc
in_range (a ∷ []) s c m e = cc
in_range (a ∷ b ∷ []) s c m e = cc
in_range (a ∷ b ∷ d ∷ more) s c m e =
    let seed = bound (drill_number 2 0 seed_limit a) (λ s. drill_number 3 1 64 b >>= λ c. drill_number 4 0 100000 d >>= λ m. no_more more (Drill s c m)) (Drill s c m) e in
    let clients = bound (drill_number 3 1 64 b) (λ c. drill_number 4 0 100000 d >>= λ m. no_more more (Drill seed.0 c m)) (Drill s c m) seed.2 in
    let messages = bound (drill_number 4 0 100000 d) (λ m. no_more more (Drill seed.0 clients.0 m)) (Drill s c m) clients.2 in
    let low = number_in 3 1 64 b clients.0 clients.1 in
    let high = number_in 4 0 100000 d messages.0 messages.1 in
    let same = last more (Drill seed.0 clients.0 messages.0) (Drill s c m) messages.2 in
    let clients_are : clients.0 ≡ c = cc in
    let messages_are : messages.0 ≡ m = cc in
    record { some = omega (arith, clients_are, low.0); few = omega (arith, clients_are, low.1); short = omega (arith, messages_are, high.1) }
  where
    last : (more : List Bytes) (x y : Command) → no_more more x ≡ Ok y → x ≡ y
    last [] x y e = cc
    last (w ∷ ws) x y e = cc

-- what the words are read as
read_sound : (words : List Bytes) (r : Result Command UsageError) → drill_of words ≡ r → IfSome (plan_in r) IsPlan
read_sound words (Ok (Drill s c m)) e = in_range words s c m e
read_sound words (Ok (Listing asked)) e = tt
read_sound words (Ok (Master asked transport permits)) e = tt
read_sound words (Ok (Control asked control)) e = tt
read_sound words (Err error) e = tt

-- what a text says
pub plan_sound : (text : List ℕ) → IfSome (plan_of text) IsPlan
unfolding plan_of
plan_sound text = read_sound (split_at_each 32 text) _ refl
