-- The channels of a client are those of its rows.
use Rattle.std.proofs.Common.{◌≡◌, ℕ, List, [], ◌∷◌, ◌++◌, true, false, Bool, refl, ◌∙◌, ap, arith, map, sym, cond, Option, Some, None, subst, Ok, Err}
use Rattle.std.specs.Prelude.{◌==◌, ◌&&◌, filter}
use Rattle.std.proofs.lemmas.List.Elements.{filter-append}
use Rattle.std.proofs.lemmas.List.{append-nil}
use Rattle.std.proofs.lemmas.Bool.Decides.{nat_tests}
use Rattle.mux_history.specs.Channels.{Channel, after_farewell, after_item, begun_by, channels_of, channel_after_item, is_channel_held, is_number, opened_down, opened_up, own_number_of, with_down, with_up, with_ups}
use Rattle.mux_history.specs.Summary.{Confirmation, Confirms, Summary, Open, Within, read_summary, reading}
use Rattle.mux_history.specs.Rows.{Heard, Item, Row, Says, rows_of}
use Rattle.ssh_grammar.specs.Said.{Payload}
use Rattle.ssh_grammar.specs.declared.side.Side.TheVariants.{Down, Up}
use Rattle.mux_history.proofs.Bools.{self}

-- ---- each step keeps a channel's client

up-client : (own : Option ℕ) (m : Summary) (x : Channel) → (with_up own m x).client ≡ x.client
up-client own (Confirmation s n w max) x = elim (is_number x.remote s && is_channel_held x) as (λ b. (elim b as (λ _. Channel) [ true ↦ record x { own = own; number = Some n; acts = (Up, Confirms w max) ∷ x.acts } | false ↦ x ]).client ≡ x.client) [ true ↦ refl | false ↦ refl ]
up-client own (Within s act) x = elim (is_number x.remote s && is_channel_held x) as (λ b. (elim b as (λ _. Channel) [ true ↦ record x { acts = (Up, act) ∷ x.acts } | false ↦ x ]).client ≡ x.client) [ true ↦ refl | false ↦ refl ]
up-client own m x = refl

down-client : (m : Summary) (x : Channel) → (with_down m x).client ≡ x.client
down-client (Confirmation n s w max) x = elim (is_number x.number n && is_channel_held x) as (λ b. (elim b as (λ _. Channel) [ true ↦ record x { remote = Some s; acts = (Down, Confirms w max) ∷ x.acts } | false ↦ x ]).client ≡ x.client) [ true ↦ refl | false ↦ refl ]
down-client (Within n act) x = elim (is_number x.number n && is_channel_held x) as (λ b. (elim b as (λ _. Channel) [ true ↦ record x { acts = (Down, act) ∷ x.acts } | false ↦ x ]).client ≡ x.client) [ true ↦ refl | false ↦ refl ]
down-client m x = refl

read-client : (p : List ℕ) (f : Summary → Channel) (x : Channel) → ((m : Summary) → (f m).client ≡ x.client) → (reading p f x).client ≡ x.client
read-client p f x keeps = elim (read_summary p) as (λ r. (elim r as (λ _. Channel) [ Err e ↦ x | Ok m ↦ f m ]).client ≡ x.client) [ Err e ↦ refl | Ok m ↦ keeps m ]

ups-client : (own : Option ℕ) (ps : List (List ℕ)) (x : Channel) → (with_ups own ps x).client ≡ x.client
ups-client own [] x = refl
ups-client own (p ∷ ps) x = ups-client own ps (reading p (λ m. with_up own m x) x) ∙ read-client p (λ m. with_up own m x) x (λ m. up-client own m x)

heard-client : (item : Item) (x : Channel) → (channel_after_item item x).client ≡ x.client
heard-client (Heard p) x = read-client p (λ m. with_down m x) x (λ m. down-client m x)
heard-client item x = refl

pub item-client : (row : Row) (x : Channel) → (after_item row x).client ≡ x.client
item-client row x = elim (x.client == row.client) as (λ b. (elim b as (λ _. Channel) [ true ↦ with_ups (own_number_of row.item) row.up (channel_after_item row.item x) | false ↦ x ]).client ≡ x.client)
    [ true ↦ ups-client (own_number_of row.item) row.up (channel_after_item row.item x) ∙ heard-client row.item x | false ↦ refl ]

pub farewell-client : (row : Row) (x : Channel) → (after_farewell row x).client ≡ x.client
farewell-client row x = elim (x.client == row.client) as (λ b. (elim b as (λ _. Channel) [ true ↦ with_ups None row.farewell x | false ↦ x ]).client ≡ x.client)
    [ true ↦ ups-client None row.farewell x | false ↦ refl ]

abbrev pub is_of : ℕ → Channel → Bool
is_of k x = x.client == k

filter-yes : {X : Type 0} (test : X → Bool) (x : X) (xs : List X) → test x ≡ true → filter test (x ∷ xs) ≡ x ∷ filter test xs
filter-yes test x xs h = rw h refl

filter-no : {X : Type 0} (test : X → Bool) (x : X) (xs : List X) → test x ≡ false → filter test (x ∷ xs) ≡ filter test xs
filter-no test x xs h = rw h refl

-- a change that keeps clients commutes with the choice of a client's channels
filter-change : (k : ℕ) (f : Channel → Channel) → ((x : Channel) → (f x).client ≡ x.client) → (xs : List Channel) → filter (is_of k) (map f xs) ≡ map f (filter (is_of k) xs)
filter-change k f keeps [] = refl
filter-change k f keeps (x ∷ xs) = choose (filter-change k f keeps xs) (x.client == k) refl
  where
    choose : filter (is_of k) (map f xs) ≡ map f (filter (is_of k) xs) → (b : Bool) → (x.client == k) ≡ b → filter (is_of k) (f x ∷ map f xs) ≡ map f (filter (is_of k) (x ∷ xs))
    choose ih true e = filter-yes (is_of k) (f x) (map f xs) (ap (λ c. c == k) (keeps x) ∙ e) ∙ (ap (λ ys. f x ∷ ys) ih ∙ sym (ap (map f) (filter-yes (is_of k) x xs e)))
    choose ih false e = filter-no (is_of k) (f x) (map f xs) (ap (λ c. c == k) (keeps x) ∙ e) ∙ (ih ∙ sym (ap (map f) (filter-no (is_of k) x xs e)))

-- a change that leaves a client's channels alone leaves the list of them
filter-other : (k : ℕ) (f : Channel → Channel) → ((x : Channel) → (f x).client ≡ x.client) → ((x : Channel) → (x.client == k) ≡ true → f x ≡ x) → (xs : List Channel) → filter (is_of k) (map f xs) ≡ filter (is_of k) xs
filter-other k f keeps stays [] = refl
filter-other k f keeps stays (x ∷ xs) = choose (filter-other k f keeps stays xs) (x.client == k) refl
  where
    choose : filter (is_of k) (map f xs) ≡ filter (is_of k) xs → (b : Bool) → (x.client == k) ≡ b → filter (is_of k) (f x ∷ map f xs) ≡ filter (is_of k) (x ∷ xs)
    choose ih true e = filter-yes (is_of k) (f x) (map f xs) (ap (λ c. c == k) (keeps x) ∙ e) ∙ (ap (λ y. y ∷ filter (is_of k) (map f xs)) (stays x e) ∙ (ap (λ ys. x ∷ ys) ih ∙ sym (filter-yes (is_of k) x xs e)))
    choose ih false e = filter-no (is_of k) (f x) (map f xs) (ap (λ c. c == k) (keeps x) ∙ e) ∙ (ih ∙ sym (filter-no (is_of k) x xs e))

-- other clients' rows leave a channel
differ : (a b k : ℕ) → (a == k) ≡ true → (b == k) ≡ false → (a == b) ≡ false
differ a b k mine other = grind (arith, nat_tests)

item-other : (k : ℕ) (row : Row) → (row.client == k) ≡ false → (x : Channel) → (x.client == k) ≡ true → after_item row x ≡ x
item-other k row other x mine = rw (differ x.client row.client k mine other, after_item) refl

leave-other : (k : ℕ) (row : Row) → (row.client == k) ≡ false → (x : Channel) → (x.client == k) ≡ true → after_farewell row x ≡ x
leave-other k row other x mine = rw (differ x.client row.client k mine other, after_farewell) refl

-- a row begins channels of its client alone
abbrev Begun : ℕ → List Channel → Type 0
Begun k xs = (filter (is_of k) xs ≡ xs) × ((j : ℕ) → (k == j) ≡ false → filter (is_of j) xs ≡ [])

begun-up : (k : ℕ) (up : List (List ℕ)) (m : Summary) → Begun k (opened_up k up m)
begun-up k [] m = (refl, λ j e. refl)
begun-up k (p ∷ ps) (Open what c w max) = (rw (self k) refl, λ j e. rw e refl)
begun-up k (p ∷ ps) m = (refl, λ j e. refl)

begun-down : (k : ℕ) (up : List (List ℕ)) (m : Summary) → Begun k (opened_down k up m)
begun-down k [] (Open what s w max) = (rw (self k) refl, λ j e. rw e refl)
begun-down k up m = (refl, λ j e. refl)

begun-reading : (k : ℕ) (p : List ℕ) (f : Summary → List Channel) → ((m : Summary) → Begun k (f m)) → Begun k (reading p f [])
begun-reading k p f each = elim (read_summary p) as (λ r. Begun k (elim r as (λ _. List Channel) [ Err e ↦ [] | Ok m ↦ f m ])) [ Err e ↦ (refl, λ j e. refl) | Ok m ↦ each m ]

begun : (k : ℕ) (up : List (List ℕ)) (item : Item) → Begun k (begun_by k up item)
begun k up (Says client (Payload p) reply) = begun-reading k p (opened_up k up) (begun-up k up)
begun k up (Heard p) = elim (k == 0) as (λ b. Begun k (elim b as (λ _. List Channel) [ true ↦ [] | false ↦ reading p (opened_down k up) [] ])) [ true ↦ (refl, λ j e. refl) | false ↦ begun-reading k p (opened_down k up) (begun-down k up) ]
begun k up item = (refl, λ j e. refl)

-- the channels of a client are looked up in its rows alone
pub channels-local : (k : ℕ) (rows : List Row) → filter (is_of k) (channels_of rows) ≡ channels_of (rows_of k rows)
channels-local k [] = refl
channels-local k (row ∷ before) = choose (channels-local k before) (row.client == k) refl
  where
    choose : filter (is_of k) (channels_of before) ≡ channels_of (rows_of k before) → (b : Bool) → (row.client == k) ≡ b → filter (is_of k) (channels_of (row ∷ before)) ≡ channels_of (cond b (row ∷ rows_of k before) (rows_of k before))
    choose ih true e =
        let same : row.client ≡ k = grind (arith, nat_tests) in
        let mine : filter (is_of k) (begun_by row.client row.up row.item) ≡ begun_by row.client row.up row.item = subst (λ (j : ℕ). filter (is_of j) (begun_by row.client row.up row.item) ≡ begun_by row.client row.up row.item) same ((begun row.client row.up row.item).0) in
        filter-change k (after_farewell row) (farewell-client row) (map (after_item row) (channels_of before) ++ begun_by row.client row.up row.item)
        ∙ ap (map (after_farewell row)) (filter-append (is_of k) (map (after_item row) (channels_of before)) (begun_by row.client row.up row.item)
        ∙ (ap (λ ys. filter (is_of k) (map (after_item row) (channels_of before)) ++ ys) mine
        ∙ ap (λ ys. ys ++ begun_by row.client row.up row.item) (filter-change k (after_item row) (item-client row) (channels_of before) ∙ ap (map (after_item row)) ih)))
    choose ih false e =
        filter-other k (after_farewell row) (farewell-client row) (leave-other k row e) (map (after_item row) (channels_of before) ++ begun_by row.client row.up row.item)
        ∙ (filter-append (is_of k) (map (after_item row) (channels_of before)) (begun_by row.client row.up row.item)
        ∙ (ap (λ ys. filter (is_of k) (map (after_item row) (channels_of before)) ++ ys) ((begun row.client row.up row.item).1 k e)
        ∙ (append-nil _ ∙ (filter-other k (after_item row) (item-client row) (item-other k row e) (channels_of before) ∙ ih))))
