-- One step of a farewell: what was queued and what is still to come are all that there is to say.
use Rattle.std.proofs.Common.{◌≡◌, ℕ, suc, ◌+◌, ◌≤◌, true, false, List, [], ◌∷◌, ◌++◌, drop, length, refl, ap, sym, ◌∙◌, arith}
use Rattle.std.specs.Prelude.{Option, Some, None, filter, flat_map, option_map}
use Rattle.std.specs.List.{AllByRecursion}
use Rattle.std.proofs.lemmas.Bool.{eq-eqb, ne_eqb}
use Rattle.std.proofs.lemmas.Option.{none-some, same_Some, slice_get_past}
use Rattle.proxy_frames.specs.State.{QueueState}
use Rattle.channel_table.specs.Entries.{AreApart, TableEntry, changed_at, channel_count_of, entry_at, freed, is_at, is_channel_of, nth_entry, nth_number}
use Rattle.channel_table.proofs.Counts.{length-numbers}
use Rattle.channel_table.proofs.Lookups.{none-behind}
use Rattle.channel_table.proofs.Steps.{Keeps, numbers-changed}
use Rattle.client_teardown.specs.Leaving.{SendsFarewell, entry_after_close, farewell_of, is_channel_open}
use Rattle.client_teardown.specs.Steps.{farewell_at, farewell_in, left_at, stays_at, stays_in}
use Rattle.client_teardown.proofs.Leaves.{freed-count, freed-later, freed-left, left_from, nth-of, stays-later, stays-left}
use Rattle.client_teardown.proofs.Lists.{drop-none, drop-some}
use Rattle.client_teardown.proofs.Noting.{left-at}
use Rattle.client_teardown.proofs.Sending.{frames, sends-all, sends-then}

-- what is still to be sent from a client's channel on
abbrev pub farewells_from : (client place : ℕ) → List TableEntry → List (List ℕ)
farewells_from k i es = flat_map farewell_of (drop i (filter (is_channel_of k) es))

-- ---- the channel at a place

-- each is found under its number
all-at : (es : List TableEntry) → AreApart es → AllByRecursion (λ e. entry_at es e.number ≡ Some e) es
all-at [] apart = tt
all-at (y ∷ ys) apart = (rw (eq-eqb y.number y.number refl) refl, later ys (all-at ys apart.1))
  where
    later : (zs : List TableEntry) → AllByRecursion (λ e. entry_at ys e.number ≡ Some e) zs → AllByRecursion (λ e. entry_at (y ∷ ys) e.number ≡ Some e) zs
    later [] all = tt
    later (z ∷ zs) all =
        let ne : is_at z.number y ≡ false = ne_eqb y.number z.number (λ q. none-some z (sym (none-behind y ys apart.0) ∙ (ap (entry_at ys) q ∙ all.0))) in
        (rw ne all.0, later zs all.1)

record IsNth (es : List TableEntry) (k i n : ℕ) : Type 0 where
  entry : TableEntry
  nth : nth_entry es k i ≡ Some entry
  number : entry.number ≡ n
  at : entry_at es n ≡ Some entry

is-nth : (es : List TableEntry) (k i n : ℕ) → AreApart es → Some n ≡ nth_number es k i → IsNth es k i n
is-nth es k i n apart h = by (nth_entry es k i) refl
  where
    by : (o : Option TableEntry) → nth_entry es k i ≡ o → IsNth es k i n
    by None f = absurd (none-some n (sym (h ∙ ap (option_map (λ (e : TableEntry). e.number)) f)))
    by (Some e) f =
        let number : e.number ≡ n = same_Some e.number n (sym (h ∙ ap (option_map (λ (e : TableEntry). e.number)) f)) in
        record { entry = e; nth = f; number = number; at = ap (entry_at es) (sym number) ∙ nth-of (λ e. entry_at es e.number ≡ Some e) k i es e f (all-at es apart) }

-- ---- one step

-- from one place and table to the next
pub record IsStep (k i j : ℕ) (es fs : List TableEntry) (u v : QueueState) : Type 0 where
  pub sent : v.waiting ++ frames (farewells_from k j fs) ≡ u.waiting ++ frames (farewells_from k i es)
  pub entries : left_from k j fs ≡ left_from k i es
  pub count : channel_count_of fs k + (i + 1) ≡ channel_count_of es k + j

said : (k i n : ℕ) (es : List TableEntry) (u v : QueueState) (h : IsNth es k i n) → SendsFarewell (farewell_at es n) u v → v.waiting ++ frames (farewells_from k (suc i) es) ≡ u.waiting ++ frames (farewells_from k i es)
said k i n es u v h sends =
    sends-then (farewell_at es n) (farewells_from k (suc i) es) u v sends
    ∙ ap (λ ps. u.waiting ++ frames ps) (ap (λ o. farewell_in o ++ farewells_from k (suc i) es) h.at ∙ sym (ap (flat_map farewell_of) (drop-some (filter (is_channel_of k) es) i h.entry h.nth)))

keeps-closing : Keeps entry_after_close
keeps-closing = record { number = λ _. refl; client = λ _. refl }

count-changed : (k n : ℕ) (es : List TableEntry) → channel_count_of (changed_at n entry_after_close es) k ≡ channel_count_of es k
count-changed k n es = sym (length-numbers (changed_at n entry_after_close es) k) ∙ (ap length (numbers-changed k n entry_after_close es keeps-closing) ∙ length-numbers es k)

pub held-step : (k i j n : ℕ) (es fs : List TableEntry) (u v : QueueState) → AreApart es → Some n ≡ nth_number es k i → j ≡ suc i → true ≡ stays_at es n → fs ≡ left_at n es → SendsFarewell (farewell_at es n) u v → IsStep k i j es fs u v
held-step k i j n es fs u v apart nth next held is sends =
    let h = is-nth es k i n apart nth in
    let open_ : is_channel_open (entry_after_close h.entry) ≡ true = sym (held ∙ ap stays_in h.at) in
    let changed : fs ≡ changed_at h.entry.number entry_after_close es = is ∙ (left-at es n true (sym held) ∙ ap (λ m. changed_at m entry_after_close es) (sym h.number)) in
    let later : farewells_from k j fs ≡ farewells_from k (suc i) es = (λ q. farewells_from k (next q) (changed q)) ∙ ap (flat_map farewell_of) (stays-later k i es h.entry apart h.nth) in
    record {
      sent = ap (λ ps. v.waiting ++ frames ps) later ∙ said k i n es u v h sends;
      entries = (λ q. left_from k (next q) (changed q)) ∙ stays-left k i es h.entry apart h.nth open_;
      count = let same : channel_count_of fs k ≡ channel_count_of es k = ap (λ gs. channel_count_of gs k) changed ∙ count-changed k h.entry.number es in omega (arith, same, next);
    }

pub freed-step : (k i j n : ℕ) (es fs : List TableEntry) (u v : QueueState) → AreApart es → Some n ≡ nth_number es k i → j ≡ i → false ≡ stays_at es n → fs ≡ left_at n es → SendsFarewell (farewell_at es n) u v → IsStep k i j es fs u v
freed-step k i j n es fs u v apart nth next held is sends =
    let h = is-nth es k i n apart nth in
    let open_ : is_channel_open (entry_after_close h.entry) ≡ false = sym (held ∙ ap stays_in h.at) in
    let changed : fs ≡ freed h.entry.number es = is ∙ (left-at es n false (sym held) ∙ ap (λ m. freed m es) (sym h.number)) in
    let later : farewells_from k j fs ≡ farewells_from k (suc i) es = (λ q. farewells_from k (next q) (changed q)) ∙ ap (flat_map farewell_of) (freed-later k i es h.entry apart h.nth) in
    record {
      sent = ap (λ ps. v.waiting ++ frames ps) later ∙ said k i n es u v h sends;
      entries = (λ q. left_from k (next q) (changed q)) ∙ freed-left k i es h.entry apart h.nth open_;
      count = let less : channel_count_of fs k + 1 ≡ channel_count_of es k = ap (λ gs. channel_count_of gs k + 1) changed ∙ freed-count k i es h.entry apart h.nth in omega (arith, less, next);
    }

-- ---- no channel is at the place

pub no-nth : (es : List TableEntry) (k i : ℕ) → None ≡ nth_number es k i → nth_entry es k i ≡ None
no-nth es k i h = by (nth_entry es k i) refl
  where
    by : (o : Option TableEntry) → nth_entry es k i ≡ o → nth_entry es k i ≡ None
    by None f = f
    by (Some e) f = absurd (none-some e.number (h ∙ ap (option_map (λ (e : TableEntry). e.number)) f))

pub past-nth : (es : List TableEntry) (k i : ℕ) → channel_count_of es k ≤ i → nth_entry es k i ≡ None
past-nth es k i l = slice_get_past (filter (is_channel_of k) es) i l

-- all is sent
pub all-said : (k i : ℕ) (es : List TableEntry) (u v : QueueState) (qs : List (List ℕ)) → nth_entry es k i ≡ None → v.waiting ++ frames (farewells_from k i es) ≡ u.waiting ++ frames qs → SendsFarewell qs u v
all-said k i es u v qs none h =
    sends-all qs u v (ap (λ ps. v.waiting ++ frames ps) (sym (ap (flat_map farewell_of) (drop-none (filter (is_channel_of k) es) i none))) ∙ h)
