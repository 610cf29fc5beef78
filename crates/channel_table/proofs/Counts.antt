-- How many channels a client has, after each step.
use Rattle.std.proofs.Common.{◌≡◌, ℕ, ◌<◌, ◌≤◌, Bool, true, false, cond, not, List, [], ◌∷◌, ◌++◌, length, ap, sym, ◌∙◌, subst, refl, arith, length-append}
use Rattle.std.specs.Prelude.{filter, ◌==◌}
use Rattle.std.proofs.lemmas.Bool.{eqb-true}
use Rattle.std.proofs.lemmas.List.{length-map}
use Rattle.mux_history.specs.declared.limits.TheConstants.{MAX_CHANNELS}
use Rattle.channel_table.specs.Entries.{TableEntry, changed_at, channel_count_of, freed, is_channel_of}
use Rattle.channel_table.specs.Indices.{channel_numbers_of}
use Rattle.channel_table.proofs.Steps.{Keeps, numbers-append, numbers-changed, numbers-without}

-- as many as numbers
pub length-numbers : (xs : List TableEntry) (k : ℕ) → length (channel_numbers_of xs k) ≡ channel_count_of xs k
length-numbers xs k = length-map (filter (is_channel_of k) xs) (λ (x : TableEntry). x.number)

count-append : (xs : List TableEntry) (x : TableEntry) (k : ℕ) (b : Bool) → is_channel_of k x ≡ b → length (channel_numbers_of (xs ++ x ∷ []) k) ≡ length (cond b (channel_numbers_of xs k ++ x.number ∷ []) (channel_numbers_of xs k))
count-append xs x k b e = ap length (numbers-append k xs x ∙ ap (λ c. cond c (channel_numbers_of xs k ++ x.number ∷ []) (channel_numbers_of xs k)) e)

pub few-append : (x : TableEntry) (xs : List TableEntry) → ((k : ℕ) → channel_count_of xs k ≤ MAX_CHANNELS) → channel_count_of xs x.channel.client < MAX_CHANNELS → (k : ℕ) → channel_count_of (xs ++ x ∷ []) k ≤ MAX_CHANNELS
few-append x xs few room k = by (is_channel_of k x) refl
  where
    by : (b : Bool) → is_channel_of k x ≡ b → channel_count_of (xs ++ x ∷ []) k ≤ MAX_CHANNELS
    by true e =
        let mine : channel_count_of xs k < MAX_CHANNELS = subst (λ i. channel_count_of xs i < MAX_CHANNELS) (eqb-true x.channel.client k e) room in
        omega (arith, length-numbers (xs ++ x ∷ []) k, length-numbers xs k, count-append xs x k true e, length-append (channel_numbers_of xs k) (x.number ∷ []), mine)
    by false e = omega (arith, length-numbers (xs ++ x ∷ []) k, length-numbers xs k, count-append xs x k false e, few k)

pub few-changed : (n : ℕ) (f : TableEntry → TableEntry) (xs : List TableEntry) → Keeps f → ((k : ℕ) → channel_count_of xs k ≤ MAX_CHANNELS) → (k : ℕ) → channel_count_of (changed_at n f xs) k ≤ MAX_CHANNELS
few-changed n f xs keeps few k =
    let same : length (channel_numbers_of (changed_at n f xs) k) ≡ length (channel_numbers_of xs k) = ap length (numbers-changed k n f xs keeps) in
    omega (arith, length-numbers (changed_at n f xs) k, length-numbers xs k, same, few k)

length-kept : (p : ℕ → Bool) (ns : List ℕ) → length (filter p ns) ≤ length ns
length-kept p [] = omega arith
length-kept p (n ∷ ns) = let ih = length-kept p ns in elim (p n) as (λ b. length (cond b (n ∷ filter p ns) (filter p ns)) ≤ length (n ∷ ns)) [ true ↦ omega arith | false ↦ omega arith ]

pub few-freed : (n : ℕ) (xs : List TableEntry) → ((k : ℕ) → channel_count_of xs k ≤ MAX_CHANNELS) → (k : ℕ) → channel_count_of (freed n xs) k ≤ MAX_CHANNELS
few-freed n xs few k =
    let fewer : length (channel_numbers_of (freed n xs) k) ≤ length (channel_numbers_of xs k) = subst (λ ns. length ns ≤ length (channel_numbers_of xs k)) (sym (numbers-without k n xs)) (length-kept (λ m. not (m == n)) (channel_numbers_of xs k)) in
    omega (arith, length-numbers (freed n xs) k, length-numbers xs k, fewer, few k)
