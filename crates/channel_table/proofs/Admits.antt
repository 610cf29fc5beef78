-- The indices agree with the list after each step.
use Rattle.std.proofs.Common.{◌≡◌, ℕ, ◌<◌, ◌^◌, Bool, true, false, cond, not, List, [], ◌∷◌, ◌++◌, refl, ap, sym, ◌∙◌, arith}
use Rattle.std.specs.Prelude.{Option, Some, None, find, filter, option_map, ◌==◌, nat_eq, nat_lt, if◌then◌else◌}
use Rattle.std.proofs.lemmas.Bool.{eqb-false}
use Rattle.std.proofs.lemmas.Bool.Decides.{nat_tests}
use Rattle.std.proofs.lemmas.Option.{none-some}
use Rattle.window_ledger.specs.declared.ledger.Ledger.{Ledger}
use Rattle.indexmap.specs.IndexMap.{IndexMap, get}
use Rattle.mux_history.specs.declared.limits.TheConstants.{MAX_CHANNELS, NUMBERS_END}
use Rattle.channel_table.specs.declared.channel.Refused.TheVariants.{Full}
use Rattle.channel_table.specs.Entries.{TableEntry, changed_at, channel_count_of, entry_at, freed, full_refusal, has_remote, holder_of, number_of_own, own_entry, remote_entry, unless, with_ledger, entry_with_own, with_remote}
use Rattle.channel_table.specs.Indices.{ChannelNumbers, Agrees, AreInOrder, is_index_key, numbers_or_empty, channel_numbers_of, owner_at, owner_in, pair_eq, paired, remote_at, remote_in}
use Rattle.channel_table.proofs.Inverse.{IsInverse-drop, IsInverse-move, IsInverse-put, IsInverse-same}
use Rattle.channel_table.proofs.Steps.{AreDistinct-append, AreDistinct-changed, AreDistinct-without, Keeps, numbers-append, numbers-changed, numbers-others, numbers-without}
use Rattle.channel_table.proofs.Counts.{few-append, few-changed, few-freed}
use Rattle.channel_table.proofs.Smalls.{small-append, small-changed, small-freed, small-own_entry, small-remote_entry, small-with_ledger, small-entry_with_own, small-with_remote}
use Rattle.channel_table.proofs.Agree.{exact_number, exact_pair, named-append_none, named-append_other, named-append_same, named-changed_kept, named-changed_other, named-changed_same, named-without_other, named-without_same, own-lookup, remote-lookup}

-- ---- what is not refused

pub not-full : (k : ℕ) (xs : List TableEntry) → full_refusal xs k ≡ None → channel_count_of xs k < MAX_CHANNELS
not-full k xs e = by (nat_lt (channel_count_of xs k) MAX_CHANNELS) refl
  where
    by : (b : Bool) → nat_lt (channel_count_of xs k) MAX_CHANNELS ≡ b → channel_count_of xs k < MAX_CHANNELS
    by true f = grind (arith, nat_tests)
    by false f = absurd (none-some (Full (channel_count_of xs k)) (sym e ∙ ap (λ b. unless (not b) (Full (channel_count_of xs k)) None) f))

-- no holder is found
pub not-held : (s : ℕ) (xs : List TableEntry) → holder_of xs s ≡ None → find (has_remote s) xs ≡ None
not-held s xs e = by (find (has_remote s) xs) refl
  where
    by : (o : Option TableEntry) → find (has_remote s) xs ≡ o → find (has_remote s) xs ≡ None
    by None f = f
    by (Some x) f = absurd (none-some x.channel.client (sym e ∙ ap (option_map (λ (y : TableEntry). y.channel.client)) f))

number-none : (o : Option TableEntry) → o ≡ None → option_map (λ (x : TableEntry). x.number) o ≡ None
number-none o e = ap (option_map (λ (x : TableEntry). x.number)) e

-- ---- changes

pub Keeps-entry_with_own : (c : ℕ) → Keeps (entry_with_own c)
Keeps-entry_with_own c = record { number = λ _. refl; client = λ _. refl }

pub Keeps-with_remote : (s : ℕ) → Keeps (with_remote s)
Keeps-with_remote s = record { number = λ _. refl; client = λ _. refl }

pub Keeps-with_ledger : (ledger : Ledger) → Keeps (with_ledger ledger)
Keeps-with_ledger ledger = record { number = λ _. refl; client = λ _. refl }

module _ {S T U : Type 0} (own own' : IndexMap (ℕ × ℕ) ℕ S) (remote remote' : IndexMap ℕ ℕ T) (clients clients' : IndexMap ℕ ChannelNumbers U) where
  -- ---- admissions

  orders-append : (xs : List TableEntry) (x : TableEntry) → AreInOrder clients xs → ((k : ℕ) → numbers_or_empty (get nat_eq clients' k) ≡ (if nat_eq x.channel.client k then numbers_or_empty (get nat_eq clients k) ++ x.number ∷ [] else numbers_or_empty (get nat_eq clients k))) → AreInOrder clients' (xs ++ x ∷ [])
  orders-append xs x o e k = e k ∙ (ap (λ l. cond (nat_eq x.channel.client k) (l ++ x.number ∷ []) l) (o k) ∙ sym (numbers-append k xs x))

  pub Agrees-admit_own : (xs : List TableEntry) (n k c : ℕ) (ledger : Ledger) → Agrees own remote clients xs → entry_at xs n ≡ None → n < NUMBERS_END → c < 2 ^ 32 → number_of_own xs k c ≡ None → full_refusal xs k ≡ None → ((i j : ℕ) → get pair_eq own' (i, j) ≡ (if pair_eq (k, c) (i, j) then Some n else get pair_eq own (i, j))) → ((i : ℕ) → numbers_or_empty (get nat_eq clients' i) ≡ (if nat_eq k i then numbers_or_empty (get nat_eq clients i) ++ n ∷ [] else numbers_or_empty (get nat_eq clients i))) → Agrees own' remote clients' (xs ++ own_entry n k c ledger ∷ [])
  Agrees-admit_own xs n k c ledger a none below short unused room eo ec =
      let x = own_entry n k c ledger in
      let gone : get pair_eq own (k, c) ≡ None = own-lookup own xs k c a.distinct a.owns ∙ unused in
      record {
        distinct = AreDistinct-append xs x none a.distinct;
        owns = λ i j m. IsInverse-put pair_eq exact_pair (get pair_eq own) (get pair_eq own') (λ m. owner_at xs m) (λ m. owner_at (xs ++ x ∷ []) m) (k, c) n (λ q. eo q.0 q.1) (named-append_same owner_in refl xs x none) (named-append_other owner_in refl xs x) gone (ap owner_in none) (λ q m. a.owns q.0 q.1 m) (i, j) m;
        remotes = IsInverse-same (get nat_eq remote) (get nat_eq remote) (λ m. remote_at xs m) (λ m. remote_at (xs ++ x ∷ []) m) (λ _. refl) (named-append_none remote_in refl xs x none refl) a.remotes;
        orders = orders-append xs x a.orders ec;
        few = few-append x xs a.few (not-full k xs room);
        small = small-append xs x (small-own_entry n k c ledger below short) a.small;
      }

  pub Agrees-admit_remote : (xs : List TableEntry) (n k s : ℕ) (ledger : Ledger) → Agrees own remote clients xs → entry_at xs n ≡ None → n < NUMBERS_END → s < 2 ^ 32 → holder_of xs s ≡ None → full_refusal xs k ≡ None → ((i : ℕ) → get nat_eq remote' i ≡ (if nat_eq s i then Some n else get nat_eq remote i)) → ((i : ℕ) → numbers_or_empty (get nat_eq clients' i) ≡ (if nat_eq k i then numbers_or_empty (get nat_eq clients i) ++ n ∷ [] else numbers_or_empty (get nat_eq clients i))) → Agrees own remote' clients' (xs ++ remote_entry n k s ledger ∷ [])
  Agrees-admit_remote xs n k s ledger a none below short unused room er ec =
      let x = remote_entry n k s ledger in
      let gone : get nat_eq remote s ≡ None = remote-lookup remote xs s a.distinct a.remotes ∙ number-none (find (has_remote s) xs) (not-held s xs unused) in
      record {
        distinct = AreDistinct-append xs x none a.distinct;
        owns = λ i j m. IsInverse-same (get pair_eq own) (get pair_eq own) (λ m. owner_at xs m) (λ m. owner_at (xs ++ x ∷ []) m) (λ _. refl) (named-append_none owner_in refl xs x none refl) (λ q m. a.owns q.0 q.1 m) (i, j) m;
        remotes = IsInverse-put nat_eq exact_number (get nat_eq remote) (get nat_eq remote') (λ m. remote_at xs m) (λ m. remote_at (xs ++ x ∷ []) m) s n er (named-append_same remote_in refl xs x none) (named-append_other remote_in refl xs x) gone (ap remote_in none) a.remotes;
        orders = orders-append xs x a.orders ec;
        few = few-append x xs a.few (not-full k xs room);
        small = small-append xs x (small-remote_entry n k s ledger below short) a.small;
      }

  -- ---- the numbers that come later

  pub Agrees-set_own : (xs : List TableEntry) (n c : ℕ) (x : TableEntry) → Agrees own remote clients xs → entry_at xs n ≡ Some x → c < 2 ^ 32 → number_of_own xs x.channel.client c ≡ None → ((i j : ℕ) → get pair_eq own' (i, j) ≡ (if is_index_key pair_eq (paired x.channel.client x.channel.own) (i, j) then None else (if pair_eq (x.channel.client, c) (i, j) then Some n else get pair_eq own (i, j)))) → Agrees own' remote clients (changed_at n (entry_with_own c) xs)
  Agrees-set_own xs n c x a at short unused eo =
      let f = entry_with_own c in
      let k = x.channel.client in
      let keeps = Keeps-entry_with_own c in
      let gone : get pair_eq own (k, c) ≡ None = own-lookup own xs k c a.distinct a.owns ∙ unused in
      record {
        distinct = AreDistinct-changed n f xs keeps a.distinct;
        owns = λ i j m. IsInverse-move pair_eq exact_pair (get pair_eq own) (get pair_eq own') (λ m. owner_at xs m) (λ m. owner_at (changed_at n f xs) m) (k, c) (paired k x.channel.own) n (λ q. eo q.0 q.1) (named-changed_same owner_in refl n f xs x keeps at) (named-changed_other owner_in refl n f xs keeps) gone (ap owner_in at) (λ q m. a.owns q.0 q.1 m) (i, j) m;
        remotes = IsInverse-same (get nat_eq remote) (get nat_eq remote) (λ m. remote_at xs m) (λ m. remote_at (changed_at n f xs) m) (λ _. refl) (named-changed_kept remote_in refl n f xs x keeps at refl) a.remotes;
        orders = λ i. a.orders i ∙ sym (numbers-changed i n f xs keeps);
        few = few-changed n f xs keeps a.few;
        small = small-changed n f xs (small-entry_with_own c short) a.small;
      }

  pub Agrees-set_remote : (xs : List TableEntry) (n s : ℕ) (x : TableEntry) → Agrees own remote clients xs → entry_at xs n ≡ Some x → s < 2 ^ 32 → holder_of xs s ≡ None → ((i : ℕ) → get nat_eq remote' i ≡ (if is_index_key nat_eq x.channel.remote i then None else (if nat_eq s i then Some n else get nat_eq remote i))) → Agrees own remote' clients (changed_at n (with_remote s) xs)
  Agrees-set_remote xs n s x a at short unused er =
      let f = with_remote s in
      let keeps = Keeps-with_remote s in
      let gone : get nat_eq remote s ≡ None = remote-lookup remote xs s a.distinct a.remotes ∙ number-none (find (has_remote s) xs) (not-held s xs unused) in
      record {
        distinct = AreDistinct-changed n f xs keeps a.distinct;
        owns = λ i j m. IsInverse-same (get pair_eq own) (get pair_eq own) (λ m. owner_at xs m) (λ m. owner_at (changed_at n f xs) m) (λ _. refl) (named-changed_kept owner_in refl n f xs x keeps at refl) (λ q m. a.owns q.0 q.1 m) (i, j) m;
        remotes = IsInverse-move nat_eq exact_number (get nat_eq remote) (get nat_eq remote') (λ m. remote_at xs m) (λ m. remote_at (changed_at n f xs) m) s x.channel.remote n er (named-changed_same remote_in refl n f xs x keeps at) (named-changed_other remote_in refl n f xs keeps) gone (ap remote_in at) a.remotes;
        orders = λ i. a.orders i ∙ sym (numbers-changed i n f xs keeps);
        few = few-changed n f xs keeps a.few;
        small = small-changed n f xs (small-with_remote s short) a.small;
      }

  pub Agrees-set_ledger : (xs : List TableEntry) (n : ℕ) (ledger : Ledger) (x : TableEntry) → Agrees own remote clients xs → entry_at xs n ≡ Some x → Agrees own remote clients (changed_at n (with_ledger ledger) xs)
  Agrees-set_ledger xs n ledger x a at =
      let f = with_ledger ledger in
      let keeps = Keeps-with_ledger ledger in
      record {
        distinct = AreDistinct-changed n f xs keeps a.distinct;
        owns = λ i j m. IsInverse-same (get pair_eq own) (get pair_eq own) (λ m. owner_at xs m) (λ m. owner_at (changed_at n f xs) m) (λ _. refl) (named-changed_kept owner_in refl n f xs x keeps at refl) (λ q m. a.owns q.0 q.1 m) (i, j) m;
        remotes = IsInverse-same (get nat_eq remote) (get nat_eq remote) (λ m. remote_at xs m) (λ m. remote_at (changed_at n f xs) m) (λ _. refl) (named-changed_kept remote_in refl n f xs x keeps at refl) a.remotes;
        orders = λ i. a.orders i ∙ sym (numbers-changed i n f xs keeps);
        few = few-changed n f xs keeps a.few;
        small = small-changed n f xs (small-with_ledger ledger) a.small;
      }

  -- ---- a channel is freed

  pub Agrees-free : (xs : List TableEntry) (n : ℕ) (x : TableEntry) → Agrees own remote clients xs → entry_at xs n ≡ Some x → ((i j : ℕ) → get pair_eq own' (i, j) ≡ (if is_index_key pair_eq (paired x.channel.client x.channel.own) (i, j) then None else get pair_eq own (i, j))) → ((i : ℕ) → get nat_eq remote' i ≡ (if is_index_key nat_eq x.channel.remote i then None else get nat_eq remote i)) → ((i : ℕ) → numbers_or_empty (get nat_eq clients' i) ≡ (if nat_eq x.channel.client i then filter (λ m. not (m == n)) (numbers_or_empty (get nat_eq clients i)) else numbers_or_empty (get nat_eq clients i))) → Agrees own' remote' clients' (freed n xs)
  Agrees-free xs n x a at eo er ec =
      record {
        distinct = AreDistinct-without n xs a.distinct;
        owns = λ i j m. IsInverse-drop pair_eq exact_pair (get pair_eq own) (get pair_eq own') (λ m. owner_at xs m) (λ m. owner_at (freed n xs) m) (paired x.channel.client x.channel.own) n (λ q. eo q.0 q.1) (named-without_same owner_in refl n xs) (named-without_other owner_in refl n xs) (ap owner_in at) (λ q m. a.owns q.0 q.1 m) (i, j) m;
        remotes = IsInverse-drop nat_eq exact_number (get nat_eq remote) (get nat_eq remote') (λ m. remote_at xs m) (λ m. remote_at (freed n xs) m) x.channel.remote n er (named-without_same remote_in refl n xs) (named-without_other remote_in refl n xs) (ap remote_in at) a.remotes;
        orders = orders;
        few = few-freed n xs a.few;
        small = small-freed n xs a.small;
      }
    where
      orders : (i : ℕ) → numbers_or_empty (get nat_eq clients' i) ≡ channel_numbers_of (freed n xs) i
      orders i = by (nat_eq x.channel.client i) refl
        where
          by : (b : Bool) → nat_eq x.channel.client i ≡ b → numbers_or_empty (get nat_eq clients' i) ≡ channel_numbers_of (freed n xs) i
          by true e =
              ec i ∙ (ap (λ b. cond b (filter (λ m. not (m == n)) (numbers_or_empty (get nat_eq clients i))) (numbers_or_empty (get nat_eq clients i))) e ∙ (ap (filter (λ m. not (m == n))) (a.orders i) ∙ sym (numbers-without i n xs)))
          by false e =
              ec i ∙ (ap (λ b. cond b (filter (λ m. not (m == n)) (numbers_or_empty (get nat_eq clients i))) (numbers_or_empty (get nat_eq clients i))) e ∙ (a.orders i ∙ sym (numbers-others i n xs x a.distinct at (eqb-false x.channel.client i e))))
