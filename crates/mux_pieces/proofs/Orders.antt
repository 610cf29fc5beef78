-- The bytes of each stream and the order of what they complete make the items.
use Rattle.std.proofs.Common.{◌≡◌, ◌∙◌, refl, ap, sym, ℕ, Bool, true, false, List, [], ◌∷◌, map, ◌==◌, ◌<◌, arith}
use Rattle.std.specs.Prelude.{filter, reverse}
use Rattle.std.proofs.lemmas.Bool.Decides.{nat_tests}
use Rattle.std.proofs.lemmas.List.{reverse-reverse}
use Rattle.ssh_grammar.specs.Said.{heard, said}
use Rattle.mux_outside.specs.declared.mark.Mark.{Mark}
use Rattle.mux_history.specs.Journal.{bytes_of, received_item, is_own_stream, items, sent_item}
use Rattle.mux_history.specs.Rows.{BadServer, Heard, Item, Says}
use Rattle.mux_history.proofs.Bools.{self}
use Rattle.mux_history.proofs.Finds.{filter-no, filter-yes}
use Rattle.mux_pieces.specs.Pieces.{is_by_server, is_sent_by, order_of, without_words}
use Rattle.mux_pieces.proofs.Sayings.{heard-are, none-said, own-nobody, sayings-are, zero-nobody}

-- ---- who sends an item is seen without its words

said-without : (k : ℕ) (x : Item) → is_sent_by k (without_words x) ≡ is_sent_by k x
said-without k (Says j outgoing given) = refl
said-without k (Heard p) = refl
said-without k (BadServer fault) = refl
said-without k x = refl

server-without : (x : Item) → is_by_server (without_words x) ≡ is_by_server x
server-without (Says j outgoing given) = refl
server-without (Heard p) = refl
server-without (BadServer fault) = refl
server-without x = refl

-- an item that sends nothing
abbrev is_plain : Item → Bool
is_plain (Says k outgoing given) = false
is_plain (Heard p) = false
is_plain (BadServer fault) = false
is_plain x = true

plain-without : (x : Item) → is_plain (without_words x) ≡ is_plain x
plain-without (Says j outgoing given) = refl
plain-without (Heard p) = refl
plain-without (BadServer fault) = refl
plain-without x = refl

plain-same : (x : Item) → is_plain x ≡ true → without_words x ≡ x
plain-same (Says j outgoing given) plain = cc
plain-same (Heard p) plain = cc
plain-same (BadServer fault) plain = cc
plain-same x plain = refl

-- ---- two lists of the same order, of which each sends the same

cons-heads : (x y : Item) (xs ys : List Item) → (x ∷ xs) ≡ (y ∷ ys) → x ≡ y
cons-heads x y xs ys e = cc

cons-tails : (x y : Item) (xs ys : List Item) → (x ∷ xs) ≡ (y ∷ ys) → xs ≡ ys
cons-tails x y xs ys e = cc

-- by a test that sees no words
module _ (test : Item → Bool) (blind : (x : Item) → test (without_words x) ≡ test x) where
  tests-same : (x y : Item) → without_words x ≡ without_words y → test x ≡ test y
  tests-same x y e = sym (blind x) ∙ (ap test e ∙ blind y)

  head-same : (x y : Item) (xs ys : List Item) → without_words x ≡ without_words y → test x ≡ true → filter test (x ∷ xs) ≡ filter test (y ∷ ys) → x ≡ y
  head-same x y xs ys e passes same =
      cons-heads x y (filter test xs) (filter test ys)
      (sym (filter-yes test x xs passes) ∙ (same ∙ filter-yes test y ys (sym (tests-same x y e) ∙ passes)))

  tail-same : (x y : Item) (xs ys : List Item) → without_words x ≡ without_words y → filter test (x ∷ xs) ≡ filter test (y ∷ ys) → filter test xs ≡ filter test ys
  tail-same x y xs ys e same = by_test (test x) refl
    where
      by_test : (b : Bool) → test x ≡ b → filter test xs ≡ filter test ys
      by_test true p = cons-tails x y (filter test xs) (filter test ys) (sym (filter-yes test x xs p) ∙ (same ∙ filter-yes test y ys (sym (tests-same x y e) ∙ p)))
      by_test false p = sym (filter-no test x xs p) ∙ (same ∙ filter-no test y ys (sym (tests-same x y e) ∙ p))

record SendSame (xs ys : List Item) : Type 0 where
  clients : (k : ℕ) → filter (is_sent_by k) xs ≡ filter (is_sent_by k) ys
  server : filter is_by_server xs ≡ filter is_by_server ys

first-same : (x y : Item) (xs ys : List Item) → without_words x ≡ without_words y → SendSame (x ∷ xs) (y ∷ ys) → x ≡ y
first-same (Says k outgoing given) y xs ys e says = head-same (is_sent_by k) (said-without k) (Says k outgoing given) y xs ys e (self k) (says.clients k)
first-same (Heard p) y xs ys e says = head-same is_by_server server-without (Heard p) y xs ys e refl says.server
first-same (BadServer fault) y xs ys e says = head-same is_by_server server-without (BadServer fault) y xs ys e refl says.server
first-same x y xs ys e says = e ∙ plain-same y (sym (tests-same is_plain plain-without x y e))

all-same : (xs ys : List Item) → map without_words xs ≡ map without_words ys → SendSame xs ys → xs ≡ ys
all-same [] [] e says = refl
all-same [] (y ∷ ys) e says = cc
all-same (x ∷ xs) [] e says = cc
all-same (x ∷ xs) (y ∷ ys) e says =
    let one : without_words x ≡ without_words y = cons-heads (without_words x) (without_words y) (map without_words xs) (map without_words ys) e in
    let rest : map without_words xs ≡ map without_words ys = cons-tails (without_words x) (without_words y) (map without_words xs) (map without_words ys) e in
    let first : x ≡ y = first-same x y xs ys one says in
    let more : xs ≡ ys = all-same xs ys rest (record {
      clients = λ k. tail-same (is_sent_by k) (said-without k) x y xs ys one (says.clients k);
      server = tail-same is_by_server server-without x y xs ys one says.server;
    }) in
    ap (λ (z : Item). z ∷ xs) first ∙ ap (λ (zs : List Item). y ∷ zs) more

-- ---- journals

is-zero : (k : ℕ) → (k == 0) ≡ true → k ≡ 0
is-zero k e = grind (arith, nat_tests)

is-above : (k : ℕ) → (k == 0) ≡ false → 0 < k
is-above k e = grind (arith, nat_tests)

module _ (marks others : List Mark) (same : (t : ℕ) → bytes_of t marks ≡ bytes_of t others) where
  clients-same : (k : ℕ) → filter (is_sent_by k) (reverse (items marks)) ≡ filter (is_sent_by k) (reverse (items others))
  clients-same k = by_zero (k == 0) refl
    where
      by_own : (k == 0) ≡ false → (b : Bool) → is_own_stream k ≡ b → filter (is_sent_by k) (reverse (items marks)) ≡ filter (is_sent_by k) (reverse (items others))
      by_own e true own = none-said k (own-nobody k own) marks ∙ sym (none-said k (own-nobody k own) others)
      by_own e false client = sayings-are marks k (is-above k e) client ∙ (ap (λ b. map (sent_item k) (said b)) (same k) ∙ sym (sayings-are others k (is-above k e) client))

      by_zero : (b : Bool) → (k == 0) ≡ b → filter (is_sent_by k) (reverse (items marks)) ≡ filter (is_sent_by k) (reverse (items others))
      by_zero true e = none-said k (zero-nobody k (is-zero k e)) marks ∙ sym (none-said k (zero-nobody k (is-zero k e)) others)
      by_zero false e = by_own e (is_own_stream k) refl

  server-same : filter is_by_server (reverse (items marks)) ≡ filter is_by_server (reverse (items others))
  server-same = heard-are marks ∙ (ap (λ b. map received_item (heard b)) (same 0) ∙ sym (heard-are others))

pub bytes-make : (marks others : List Mark) → ((t : ℕ) → bytes_of t marks ≡ bytes_of t others) → order_of marks ≡ order_of others → items marks ≡ items others
bytes-make marks others same order =
    sym (reverse-reverse (items marks))
    ∙ (ap reverse (all-same (reverse (items marks)) (reverse (items others)) order (record { clients = clients-same marks others same; server = server-same marks others same }))
    ∙ reverse-reverse (items others))
