-- The forwardings of a client are those of its rows.
use Rattle.std.proofs.Common.{◌≡◌, ℕ, List, [], ◌∷◌, ◌++◌, length, true, false, Bool, refl, ◌∙◌, ap, arith, map, sym, Some, None, Ok, Err}
use Rattle.std.specs.Prelude.{◌==◌, filter, find, not, Result}
use Rattle.std.proofs.lemmas.List.{append-nil}
use Rattle.std.proofs.lemmas.List.Elements.{filter-append}
use Rattle.std.proofs.lemmas.Bool.Decides.{nat_tests}
use Rattle.mux_history.specs.Channels.{is_number}
use Rattle.mux_history.specs.Forwardings.{Forwarding, change_first, dropped, forwarded, forwardings_of, is_forwarding_free_at, is_request, live_at, of_client, forwarding_after_reply, forwardings_after_request, stopped}
use Rattle.mux_history.specs.Summary.{Summary, Refuses, Requests, Succeeds, read_summary, reading}
use Rattle.mux_history.specs.Keys.{bound, has_key}
use Rattle.mux_history.specs.Requests.{wanted_requests, is_sent, replies}
use Rattle.mux_history.specs.Rows.{Heard, Item, Row, Says, loses, rows_of}
use Rattle.ssh_grammar.specs.Messages.{Cancel, Forward, KeepAlive, Key, OtherName}
use Rattle.ssh_grammar.specs.Said.{Payload}
use Rattle.ssh_grammar.specs.SpellMessage.{wants_reply}
use Rattle.ssh_grammar.specs.declared.fault.Bad.{Bad}
use Rattle.mux_history.proofs.Finds.{filter-no, filter-yes, find-no, find-yes}
use Rattle.mux_history.proofs.OwnRows.{rows-twice, same-client}
use Rattle.mux_history.proofs.Bools.{is-of}

abbrev pub for_of : ℕ → Forwarding → Bool
for_of k f = f.client == k

-- the first of all that passes, where it is of the part, is the first of the part
pub find-part : {X : Type 0} (held mine test : X → Bool) (x : X) (xs : List X) → find test (filter held xs) ≡ Some x → mine x ≡ true → find test (filter held (filter mine xs)) ≡ Some x
find-part held mine test x [] found is_mine = found
find-part {X} held mine test x (y ∷ ys) found is_mine = by_case (λ h. find-part held mine test x ys h is_mine) (mine y) refl (held y) refl (test y) refl
  where
    by_case : (find test (filter held ys) ≡ Some x → find test (filter held (filter mine ys)) ≡ Some x) → (a : Bool) → mine y ≡ a → (b : Bool) → held y ≡ b → (t : Bool) → test y ≡ t → find test (filter held (filter mine (y ∷ ys))) ≡ Some x
    by_case ih false e false f t g = ap (λ zs. find test (filter held zs)) (filter-no mine y ys e) ∙ ih (sym (ap (find test) (filter-no held y ys f)) ∙ found)
    by_case ih true e false f t g = ap (λ zs. find test (filter held zs)) (filter-yes mine y ys e) ∙ (ap (find test) (filter-no held y (filter mine ys) f) ∙ ih (sym (ap (find test) (filter-no held y ys f)) ∙ found))
    by_case ih false e true f false g = ap (λ zs. find test (filter held zs)) (filter-no mine y ys e) ∙ ih (sym (ap (find test) (filter-yes held y ys f) ∙ find-no test y (filter held ys) g) ∙ found)
    by_case ih true e true f false g = ap (λ zs. find test (filter held zs)) (filter-yes mine y ys e) ∙ (ap (find test) (filter-yes held y (filter mine ys) f) ∙ (find-no test y (filter held (filter mine ys)) g ∙ ih (sym (ap (find test) (filter-yes held y ys f) ∙ find-no test y (filter held ys) g) ∙ found)))
    by_case ih true e true f true g = ap (λ zs. find test (filter held zs)) (filter-yes mine y ys e) ∙ (ap (find test) (filter-yes held y (filter mine ys) f) ∙ (find-yes test y (filter held (filter mine ys)) g ∙ (sym (ap (find test) (filter-yes held y ys f) ∙ find-yes test y (filter held ys) g) ∙ found)))
    by_case ih false e true f true g =
        let here : find test (filter held (y ∷ ys)) ≡ Some y = ap (find test) (filter-yes held y ys f) ∙ find-yes test y (filter held ys) g in
        let same : Some y ≡ Some x = sym here ∙ found in
        let eq : y ≡ x = cc in
        let bad : true ≡ false = sym is_mine ∙ (ap mine (sym eq) ∙ e) in absurd (let h = bad in cc)

-- ---- changes

keep-map : (k : ℕ) (g : Forwarding → Forwarding) → ((f : Forwarding) → (g f).client ≡ f.client) → (fs : List Forwarding) → filter (for_of k) (map g fs) ≡ map g (filter (for_of k) fs)
keep-map k g keeps [] = refl
keep-map k g keeps (f ∷ fs) = by_case (keep-map k g keeps fs) (f.client == k) refl
  where
    by_case : filter (for_of k) (map g fs) ≡ map g (filter (for_of k) fs) → (b : Bool) → (f.client == k) ≡ b → filter (for_of k) (map g (f ∷ fs)) ≡ map g (filter (for_of k) (f ∷ fs))
    by_case ih true e = filter-yes (for_of k) (g f) (map g fs) (ap (λ c. c == k) (keeps f) ∙ e) ∙ (ap (λ ys. g f ∷ ys) ih ∙ sym (ap (map g) (filter-yes (for_of k) f fs e)))
    by_case ih false e = filter-no (for_of k) (g f) (map g fs) (ap (λ c. c == k) (keeps f) ∙ e) ∙ (ih ∙ sym (ap (map g) (filter-no (for_of k) f fs e)))

other-map : (k : ℕ) (g : Forwarding → Forwarding) → ((f : Forwarding) → (g f).client ≡ f.client) → ((f : Forwarding) → (f.client == k) ≡ true → g f ≡ f) → (fs : List Forwarding) → filter (for_of k) (map g fs) ≡ filter (for_of k) fs
other-map k g keeps stays [] = refl
other-map k g keeps stays (f ∷ fs) = by_case (other-map k g keeps stays fs) (f.client == k) refl
  where
    by_case : filter (for_of k) (map g fs) ≡ filter (for_of k) fs → (b : Bool) → (f.client == k) ≡ b → filter (for_of k) (map g (f ∷ fs)) ≡ filter (for_of k) (f ∷ fs)
    by_case ih true e = filter-yes (for_of k) (g f) (map g fs) (ap (λ c. c == k) (keeps f) ∙ e) ∙ (ap (λ y. y ∷ filter (for_of k) (map g fs)) (stays f e) ∙ (ap (λ ys. f ∷ ys) ih ∙ sym (filter-yes (for_of k) f fs e)))
    by_case ih false e = filter-no (for_of k) (g f) (map g fs) (ap (λ c. c == k) (keeps f) ∙ e) ∙ (ih ∙ sym (filter-no (for_of k) f fs e))

of-client-keeps : (c : ℕ) (g : Forwarding → Forwarding) → ((f : Forwarding) → (g f).client ≡ f.client) → (f : Forwarding) → (of_client c g f).client ≡ f.client
of-client-keeps c g keeps f = elim (f.client == c) as (λ b. (elim b as (λ _. Forwarding) [ true ↦ g f | false ↦ f ]).client ≡ f.client) [ true ↦ keeps f | false ↦ refl ]

apart : (a c k : ℕ) → (a == k) ≡ true → (c == k) ≡ false → (a == c) ≡ false
apart a c k e f = grind (arith, nat_tests)

of-client-other : (k c : ℕ) (g : Forwarding → Forwarding) → (c == k) ≡ false → (f : Forwarding) → (f.client == k) ≡ true → of_client c g f ≡ f
of-client-other k c g other f mine = rw (apart f.client c k mine other, of_client) refl

replied-keeps : (n : ℕ) (m : Summary) (f : Forwarding) → (forwarding_after_reply n m f).client ≡ f.client
replied-keeps n (Succeeds rest) f = by_case (is_request f n) (is_number f.cancel n)
  where
    by_case : (a b : Bool) → (elim a as (λ _. Forwarding) [ true ↦ record f { live = Some (bound f.key rest) } | false ↦ elim b as (λ _. Forwarding) [ true ↦ record f { over = true } | false ↦ f ] ]).client ≡ f.client
    by_case true b = refl
    by_case false true = refl
    by_case false false = refl
replied-keeps n Refuses f = by_case (is_request f n) (is_number f.cancel n)
  where
    by_case : (a b : Bool) → (elim a as (λ _. Forwarding) [ true ↦ record f { over = true } | false ↦ elim b as (λ _. Forwarding) [ true ↦ record f { cancel = None } | false ↦ f ] ]).client ≡ f.client
    by_case true b = refl
    by_case false true = refl
    by_case false false = refl
replied-keeps n m f = refl

-- ---- cancels

stopped-keeps : (wants_reply : Bool) (n : ℕ) (f : Forwarding) → (stopped wants_reply n f).client ≡ f.client
stopped-keeps true n f = refl
stopped-keeps false n f = refl

first-mine : (k : ℕ) (test : Forwarding → Bool) (g : Forwarding → Forwarding) → ((f : Forwarding) → (g f).client ≡ f.client) → ((f : Forwarding) → (f.client == k) ≡ false → test f ≡ false) → (fs : List Forwarding) → filter (for_of k) (change_first test g fs) ≡ change_first test g (filter (for_of k) fs)
first-mine k test g keeps only_mine [] = refl
first-mine k test g keeps only_mine (f ∷ fs) = by_case (first-mine k test g keeps only_mine fs) (f.client == k) refl (test f) refl
  where
    pick_yes : (h : Forwarding) (hs : List Forwarding) → test h ≡ true → change_first test g (h ∷ hs) ≡ g h ∷ hs
    pick_yes h hs e = ap (λ b. elim b as (λ _. List Forwarding) [ true ↦ g h ∷ hs | false ↦ h ∷ change_first test g hs ]) e

    pick_no : (h : Forwarding) (hs : List Forwarding) → test h ≡ false → change_first test g (h ∷ hs) ≡ h ∷ change_first test g hs
    pick_no h hs e = ap (λ b. elim b as (λ _. List Forwarding) [ true ↦ g h ∷ hs | false ↦ h ∷ change_first test g hs ]) e

    by_case : filter (for_of k) (change_first test g fs) ≡ change_first test g (filter (for_of k) fs) → (b : Bool) → (f.client == k) ≡ b → (t : Bool) → test f ≡ t → filter (for_of k) (change_first test g (f ∷ fs)) ≡ change_first test g (filter (for_of k) (f ∷ fs))
    by_case ih true e true t = ap (filter (for_of k)) (pick_yes f fs t) ∙ (filter-yes (for_of k) (g f) fs (ap (λ c. c == k) (keeps f) ∙ e) ∙ sym (ap (change_first test g) (filter-yes (for_of k) f fs e) ∙ pick_yes f (filter (for_of k) fs) t))
    by_case ih true e false t = ap (filter (for_of k)) (pick_no f fs t) ∙ (filter-yes (for_of k) f (change_first test g fs) e ∙ (ap (λ ys. f ∷ ys) ih ∙ sym (ap (change_first test g) (filter-yes (for_of k) f fs e) ∙ pick_no f (filter (for_of k) fs) t)))
    by_case ih false e true t = absurd (let bad : true ≡ false = sym t ∙ only_mine f e in cc)
    by_case ih false e false t = ap (filter (for_of k)) (pick_no f fs t) ∙ (filter-no (for_of k) f (change_first test g fs) e ∙ (ih ∙ sym (ap (change_first test g) (filter-no (for_of k) f fs e))))

first-other : (k : ℕ) (test : Forwarding → Bool) (g : Forwarding → Forwarding) → ((f : Forwarding) → (g f).client ≡ f.client) → ((f : Forwarding) → (f.client == k) ≡ true → test f ≡ false) → (fs : List Forwarding) → filter (for_of k) (change_first test g fs) ≡ filter (for_of k) fs
first-other k test g keeps never [] = refl
first-other k test g keeps never (f ∷ fs) = by_case (first-other k test g keeps never fs) (f.client == k) refl (test f) refl
  where
    pick_yes : (h : Forwarding) (hs : List Forwarding) → test h ≡ true → change_first test g (h ∷ hs) ≡ g h ∷ hs
    pick_yes h hs e = ap (λ b. elim b as (λ _. List Forwarding) [ true ↦ g h ∷ hs | false ↦ h ∷ change_first test g hs ]) e

    pick_no : (h : Forwarding) (hs : List Forwarding) → test h ≡ false → change_first test g (h ∷ hs) ≡ h ∷ change_first test g hs
    pick_no h hs e = ap (λ b. elim b as (λ _. List Forwarding) [ true ↦ g h ∷ hs | false ↦ h ∷ change_first test g hs ]) e

    by_case : filter (for_of k) (change_first test g fs) ≡ filter (for_of k) fs → (b : Bool) → (f.client == k) ≡ b → (t : Bool) → test f ≡ t → filter (for_of k) (change_first test g (f ∷ fs)) ≡ filter (for_of k) (f ∷ fs)
    by_case ih true e true t = absurd (let bad : true ≡ false = sym t ∙ never f e in cc)
    by_case ih true e false t = ap (filter (for_of k)) (pick_no f fs t) ∙ (filter-yes (for_of k) f (change_first test g fs) e ∙ (ap (λ ys. f ∷ ys) ih ∙ sym (filter-yes (for_of k) f fs e)))
    by_case ih false e true t = ap (filter (for_of k)) (pick_yes f fs t) ∙ (filter-no (for_of k) (g f) fs (ap (λ c. c == k) (keeps f) ∙ e) ∙ sym (filter-no (for_of k) f fs e))
    by_case ih false e false t = ap (filter (for_of k)) (pick_no f fs t) ∙ (filter-no (for_of k) f (change_first test g fs) e ∙ (ih ∙ sym (filter-no (for_of k) f fs e)))

free-mine : (k c : ℕ) → (c == k) ≡ true → (key : Key) (f : Forwarding) → (f.client == k) ≡ false → is_forwarding_free_at c key f ≡ false
free-mine k c e key f other = rw (differ f.client c k e other, is_forwarding_free_at) refl
  where
    differ : (a c k : ℕ) → (c == k) ≡ true → (a == k) ≡ false → (a == c) ≡ false
    differ a c k e f = grind (arith, nat_tests)

free-other : (k c : ℕ) → (c == k) ≡ false → (key : Key) (f : Forwarding) → (f.client == k) ≡ true → is_forwarding_free_at c key f ≡ false
free-other k c e key f mine = rw (apart f.client c k mine e, is_forwarding_free_at) refl

-- ---- what a row does

requested-mine : (k c n : ℕ) (m : Summary) (fs : List Forwarding) → (c == k) ≡ true → filter (for_of k) (forwardings_after_request c n m fs) ≡ forwardings_after_request c n m (filter (for_of k) fs)
requested-mine k c n (Requests (Forward key) wants_reply) fs e = filter-append (for_of k) fs _ ∙ ap (λ ys. filter (for_of k) fs ++ ys) (filter-yes (for_of k) (record { client = c; key = key; request = n; live = None; cancel = None; over = false }) [] e)
requested-mine k c n (Requests (Cancel key) wants_reply) fs e = first-mine k (is_forwarding_free_at c key) (stopped wants_reply n) (stopped-keeps wants_reply n) (free-mine k c e key) fs
requested-mine k c n (Requests KeepAlive wants_reply) fs e = refl
requested-mine k c n (Requests OtherName wants_reply) fs e = refl
requested-mine k c n m fs e = refl

requested-other : (k c n : ℕ) (m : Summary) (fs : List Forwarding) → (c == k) ≡ false → filter (for_of k) (forwardings_after_request c n m fs) ≡ filter (for_of k) fs
requested-other k c n (Requests (Forward key) wants_reply) fs e = filter-append (for_of k) fs _ ∙ (ap (λ ys. filter (for_of k) fs ++ ys) (filter-no (for_of k) (record { client = c; key = key; request = n; live = None; cancel = None; over = false }) [] e) ∙ append-nil (filter (for_of k) fs))
requested-other k c n (Requests (Cancel key) wants_reply) fs e = first-other k (is_forwarding_free_at c key) (stopped wants_reply n) (stopped-keeps wants_reply n) (free-other k c e key) fs
requested-other k c n (Requests KeepAlive wants_reply) fs e = refl
requested-other k c n (Requests OtherName wants_reply) fs e = refl
requested-other k c n m fs e = refl

pub forwarded-mine : (k : ℕ) (row : Row) (own : List Row) (fs : List Forwarding) → (row.client == k) ≡ true → filter (for_of k) (forwarded row own fs) ≡ forwarded row own (filter (for_of k) fs)
forwarded-mine k row own fs e = by_item row.item
  where
    by_reading : (r : Result Summary Bad) (g : Summary → List Forwarding → List Forwarding) → ((m : Summary) → filter (for_of k) (g m fs) ≡ g m (filter (for_of k) fs)) → filter (for_of k) (elim r as (λ _. List Forwarding) [ Err e ↦ fs | Ok m ↦ g m fs ]) ≡ (elim r as (λ _. List Forwarding) [ Err e ↦ filter (for_of k) fs | Ok m ↦ g m (filter (for_of k) fs) ])
    by_reading (Err bad) g each = refl
    by_reading (Ok m) g each = each m

    by_sent : (b : Bool) (p : List ℕ) → filter (for_of k) (elim b as (λ _. List Forwarding) [ true ↦ reading p (λ m. forwardings_after_request row.client (length (wanted_requests own)) m fs) fs | false ↦ fs ]) ≡ (elim b as (λ _. List Forwarding) [ true ↦ reading p (λ m. forwardings_after_request row.client (length (wanted_requests own)) m (filter (for_of k) fs)) (filter (for_of k) fs) | false ↦ filter (for_of k) fs ])
    by_sent true p = by_reading (read_summary p) (forwardings_after_request row.client (length (wanted_requests own))) (λ m. requested-mine k row.client (length (wanted_requests own)) m fs e)
    by_sent false p = refl

    by_item : (item : Item) → filter (for_of k) (forwarded (record row { item = item }) own fs) ≡ forwarded (record row { item = item }) own (filter (for_of k) fs)
    by_item (Says j (Payload p) reply) = by_sent (is_sent row) p
    by_item (Heard p) = by_reading (read_summary p) (λ m. map (of_client row.client (forwarding_after_reply (length (replies own)) m))) (λ m. keep-map k (of_client row.client (forwarding_after_reply (length (replies own)) m)) (of-client-keeps row.client (forwarding_after_reply (length (replies own)) m) (replied-keeps (length (replies own)) m)) fs)
    by_item item = refl

forwarded-other : (k : ℕ) (row : Row) (own : List Row) (fs : List Forwarding) → (row.client == k) ≡ false → filter (for_of k) (forwarded row own fs) ≡ filter (for_of k) fs
forwarded-other k row own fs e = by_item row.item
  where
    by_reading : (r : Result Summary Bad) (g : Summary → List Forwarding → List Forwarding) → ((m : Summary) → filter (for_of k) (g m fs) ≡ filter (for_of k) fs) → filter (for_of k) (elim r as (λ _. List Forwarding) [ Err e ↦ fs | Ok m ↦ g m fs ]) ≡ filter (for_of k) fs
    by_reading (Err bad) g each = refl
    by_reading (Ok m) g each = each m

    by_sent : (b : Bool) (p : List ℕ) → filter (for_of k) (elim b as (λ _. List Forwarding) [ true ↦ reading p (λ m. forwardings_after_request row.client (length (wanted_requests own)) m fs) fs | false ↦ fs ]) ≡ filter (for_of k) fs
    by_sent true p = by_reading (read_summary p) (forwardings_after_request row.client (length (wanted_requests own))) (λ m. requested-other k row.client (length (wanted_requests own)) m fs e)
    by_sent false p = refl

    by_item : (item : Item) → filter (for_of k) (forwarded (record row { item = item }) own fs) ≡ filter (for_of k) fs
    by_item (Says j (Payload p) reply) = by_sent (is_sent row) p
    by_item (Heard p) = by_reading (read_summary p) (λ m. map (of_client row.client (forwarding_after_reply (length (replies own)) m))) (λ m. other-map k (of_client row.client (forwarding_after_reply (length (replies own)) m)) (of-client-keeps row.client (forwarding_after_reply (length (replies own)) m) (replied-keeps (length (replies own)) m)) (of-client-other k row.client (forwarding_after_reply (length (replies own)) m) e) fs)
    by_item item = refl

dropped-mine : (k : ℕ) (row : Row) (fs : List Forwarding) → filter (for_of k) (dropped row fs) ≡ dropped row (filter (for_of k) fs)
dropped-mine k row fs = by_case (loses row)
  where
    by_case : (b : Bool) → filter (for_of k) (elim b as (λ _. List Forwarding) [ true ↦ map (of_client row.client (λ f. record f { over = true })) fs | false ↦ fs ]) ≡ (elim b as (λ _. List Forwarding) [ true ↦ map (of_client row.client (λ f. record f { over = true })) (filter (for_of k) fs) | false ↦ filter (for_of k) fs ])
    by_case true = keep-map k (of_client row.client (λ f. record f { over = true })) (of-client-keeps row.client (λ f. record f { over = true }) (λ f. refl)) fs
    by_case false = refl

dropped-other : (k : ℕ) (row : Row) (fs : List Forwarding) → (row.client == k) ≡ false → filter (for_of k) (dropped row fs) ≡ filter (for_of k) fs
dropped-other k row fs e = by_case (loses row)
  where
    by_case : (b : Bool) → filter (for_of k) (elim b as (λ _. List Forwarding) [ true ↦ map (of_client row.client (λ f. record f { over = true })) fs | false ↦ fs ]) ≡ filter (for_of k) fs
    by_case true = other-map k (of_client row.client (λ f. record f { over = true })) (of-client-keeps row.client (λ f. record f { over = true }) (λ f. refl)) (of-client-other k row.client (λ f. record f { over = true }) e) fs
    by_case false = refl

pub forwardings-local : (k : ℕ) (rows : List Row) → filter (for_of k) (forwardings_of rows) ≡ forwardings_of (rows_of k rows)
forwardings-local k [] = refl
forwardings-local k (row ∷ before) = by_case (forwardings-local k before) (row.client == k) refl
  where
    by_case : filter (for_of k) (forwardings_of before) ≡ forwardings_of (rows_of k before) → (b : Bool) → (row.client == k) ≡ b → filter (for_of k) (forwardings_of (row ∷ before)) ≡ forwardings_of (rows_of k (row ∷ before))
    by_case ih true e =
        dropped-mine k row (forwarded row (rows_of row.client before) (forwardings_of before))
        ∙ (ap (dropped row) (forwarded-mine k row (rows_of row.client before) (forwardings_of before) e
        ∙ (ap (forwarded row (rows_of row.client before)) ih
        ∙ ap (λ own. forwarded row own (forwardings_of (rows_of k before))) (ap (λ j. rows_of j before) (same-client row.client k e) ∙ (sym (rows-twice k before) ∙ sym (ap (λ j. rows_of j (rows_of k before)) (same-client row.client k e))))))
        ∙ sym (ap forwardings_of (filter-yes (λ (r : Row). r.client == k) row before e)))
    by_case ih false e =
        dropped-other k row (forwarded row (rows_of row.client before) (forwardings_of before)) e
        ∙ (forwarded-other k row (rows_of row.client before) (forwardings_of before) e
        ∙ (ih ∙ sym (ap forwardings_of (filter-no (λ (r : Row). r.client == k) row before e))))

-- the earliest that is live at a place, where it is a client's, is the earliest of the client's
pub live-local : (k : ℕ) (rows : List Row) (key : Key) (f : Forwarding) → live_at rows key ≡ Some f → f.client ≡ k → live_at (rows_of k rows) key ≡ Some f
live-local k rows key f live mine =
    ap (λ fs. find (λ (f : Forwarding). has_key f.live key) (filter (λ (f : Forwarding). not f.over) fs)) (sym (forwardings-local k rows))
    ∙ find-part (λ (f : Forwarding). not f.over) (for_of k) (λ (f : Forwarding). has_key f.live key) f (forwardings_of rows) live (is-of f.client k mine)
