-- A client that is lost, and forgotten once nothing of it is left.
use Rattle.std.proofs.Common.{◌≡◌, ◌≤◌, ℕ, List, [], ◌∷◌, length, map, true, false, Bool, refl, ◌∙◌, ap, sym, subst, arith, suc}
use Rattle.std.specs.Prelude.{filter, ◌==◌, ◌&&◌, ◌||◌, not, nat_lt, ◌-◌}
use Rattle.std.specs.List.{AllByRecursion}
use Rattle.std.proofs.lemmas.List.{length-drop}
use Rattle.std.proofs.lemmas.Bool.Decides.{nat_tests}
use Rattle.mux_history.specs.Rows.{Row, rows_of, any_of, is_admit}
use Rattle.mux_history.specs.Channels.{Channel, channels_of, held_of, is_channel_held}
use Rattle.mux_history.specs.Requests.{Ask, wanted_requests, replies}
use Rattle.mux_history.specs.Farewell.{has_open_matters}
use Rattle.mux_history.proofs.Bools.{same-number}
use Rattle.mux_history.proofs.Finds.{filter-no, filter-yes}
use Rattle.channel_table.specs.Entries.{TableEntry}
use Rattle.channel_table.specs.Entries.{channel_count_of, is_channel_of}
use Rattle.forward_rules.specs.State.{Forward}
use Rattle.global_replies.specs.Replies as answers
use Rattle.mux_core.specs.State.{MemberState, CoreState, is_member_served}
use Rattle.mux_core.specs.Stands.{AreKnown, AreOnce, AsksFit, ClientFits, ClientsFit, Look, CoreRepresents, TableFits, has_matters, is_member_known, look}
use Rattle.mux_core.specs.Settling.{has_left, is_lost_in, is_other, clients_kept, client_settled}
use Rattle.mux_core.proofs.Found.{held-local}
use Rattle.mux_core.proofs.OpensJudged.{count-fit}
use Rattle.mux_history.proofs.OwnRows.{idle_row}
use Rattle.forward_rules.specs.Stands.{AreFit}
use Rattle.mux_core.proofs.Quiet.{IsQuiet, look-same}
use Rattle.mux_core.proofs.Served.{served}

-- ---- lists

all-filter : {X : Type 0} (P : X → Type 0) (keep : X → Bool) (xs : List X) → AllByRecursion P xs → AllByRecursion P (filter keep xs)
all-filter P keep [] all = tt
all-filter P keep (x ∷ xs) all = by_case (all-filter P keep xs all.1) (keep x) refl
  where
    by_case : AllByRecursion P (filter keep xs) → (b : Bool) → keep x ≡ b → AllByRecursion P (filter keep (x ∷ xs))
    by_case ih true h = subst (AllByRecursion P) (sym (filter-yes keep x xs h)) (all.0, ih)
    by_case ih false h = subst (AllByRecursion P) (sym (filter-no keep x xs h)) ih

fewer : {X : Type 0} (keep : X → Bool) (xs : List X) → length (filter keep xs) ≤ length xs
fewer keep [] = omega arith
fewer keep (x ∷ xs) = by_case (fewer keep xs) (keep x) refl
  where
    by_case : length (filter keep xs) ≤ length xs → (b : Bool) → keep x ≡ b → length (filter keep (x ∷ xs)) ≤ length (x ∷ xs)
    by_case ih true h = rw (filter-yes keep x xs h) (omega arith)
    by_case ih false h = rw (filter-no keep x xs h) (omega arith)

once-filter : (keep : MemberState → Bool) (cs : List MemberState) → AreOnce cs → AreOnce (filter keep cs)
once-filter keep [] once = tt
once-filter keep (c ∷ cs) once = by_case (once-filter keep cs once.1) (keep c) refl
  where
    by_case : AreOnce (filter keep cs) → (b : Bool) → keep c ≡ b → AreOnce (filter keep (c ∷ cs))
    by_case ih true h = subst AreOnce (sym (filter-yes keep c cs h)) (all-filter (λ d. (c.number == d.number) ≡ false) keep cs once.0, ih)
    by_case ih false h = subst AreOnce (sym (filter-no keep c cs h)) ih

numbers-filter : (k : ℕ) (cs : List MemberState) → map (λ (c : MemberState). c.number) (filter (is_other k) cs) ≡ filter (λ j. not (j == k)) (map (λ (c : MemberState). c.number) cs)
numbers-filter k [] = refl
numbers-filter k (c ∷ cs) = by_case (numbers-filter k cs) (is_other k c) refl
  where
    by_case : map (λ (c : MemberState). c.number) (filter (is_other k) cs) ≡ filter (λ j. not (j == k)) (map (λ (c : MemberState). c.number) cs) → (b : Bool) → is_other k c ≡ b → map (λ (c : MemberState). c.number) (filter (is_other k) (c ∷ cs)) ≡ filter (λ j. not (j == k)) (map (λ (c : MemberState). c.number) (c ∷ cs))
    by_case ih true h = ap (map (λ (c : MemberState). c.number)) (filter-yes (is_other k) c cs h) ∙ (ap (λ js. c.number ∷ js) ih ∙ sym (filter-yes (λ j. not (j == k)) c.number (map (λ (c : MemberState). c.number) cs) h))
    by_case ih false h = ap (map (λ (c : MemberState). c.number)) (filter-no (is_other k) c cs h) ∙ (ih ∙ sym (filter-no (λ j. not (j == k)) c.number (map (λ (c : MemberState). c.number) cs) h))

-- the clients with matters but one
filter-but : (k : ℕ) (m m' : ℕ → Bool) → ((j : ℕ) → (j == k) ≡ false → m' j ≡ m j) → m' k ≡ false → (js : List ℕ) → filter (λ j. not (j == k)) (filter m js) ≡ filter m' js
filter-but k m m' same none [] = refl
filter-but k m m' same none (j ∷ js) = by_case (filter-but k m m' same none js) (j == k) refl (m j) refl
  where
    other : ℕ → Bool
    other i = not (i == k)

    by_case : filter (λ j. not (j == k)) (filter m js) ≡ filter m' js → (b : Bool) → (j == k) ≡ b → (c : Bool) → m j ≡ c → filter (λ j. not (j == k)) (filter m (j ∷ js)) ≡ filter m' (j ∷ js)
    by_case ih true e true h = ap (filter (λ (i : ℕ). not (i == k))) (filter-yes m j js h) ∙ (filter-no (λ (i : ℕ). not (i == k)) j (filter m js) (ap not e) ∙ (ih ∙ sym (filter-no m' j js (ap m' (same-number j k e) ∙ none))))
    by_case ih true e false h = ap (filter (λ (i : ℕ). not (i == k))) (filter-no m j js h) ∙ (ih ∙ sym (filter-no m' j js (ap m' (same-number j k e) ∙ none)))
    by_case ih false e true h = ap (filter (λ (i : ℕ). not (i == k))) (filter-yes m j js h) ∙ (filter-yes (λ (i : ℕ). not (i == k)) j (filter m js) (ap not e) ∙ (ap (λ is. j ∷ is) ih ∙ sym (filter-yes m' j js (same j e ∙ h))))
    by_case ih false e false h = ap (filter (λ (i : ℕ). not (i == k))) (filter-no m j js h) ∙ (ih ∙ sym (filter-no m' j js (same j e ∙ h)))

-- ---- the clients

pub clients-settle : (k : ℕ) (b : Bool) (cs : List MemberState) (m m' : ℕ → Bool) (l : Look) → ClientsFit cs m l → ((j : ℕ) → (j == k) ≡ false → m' j ≡ m j) → m' k ≡ b → m k ≡ true → ClientsFit (clients_kept k b cs) m' l
clients-settle k true cs m m' l fit same here there = subst (λ n. ClientsFit cs n l) (λ i j. pointwise j i) fit
  where
    pointwise : (j : ℕ) → m j ≡ m' j
    pointwise j = by_case (j == k) refl
      where
        by_case : (b : Bool) → (j == k) ≡ b → m j ≡ m' j
        by_case true e = ap m (same-number j k e) ∙ (there ∙ (sym here ∙ sym (ap m' (same-number j k e))))
        by_case false e = sym (same j e)
clients-settle k false cs m m' l fit same here there = record {
  numbers = numbers-filter k cs ∙ (ap (filter (λ (j : ℕ). not (j == k))) fit.numbers ∙ filter-but k m m' same here l.entered);
  each = all-filter (ClientFits l) (is_other k) cs fit.each;
  once = once-filter (is_other k) cs fit.once;
  few = let a = fewer (is_other k) cs in let b = fit.few in omega arith;
}

-- ---- what is left of a client that is lost

some-more : (n : ℕ) → not (suc n == 0) ≡ true
some-more n = grind (arith, nat_tests)

any-held : (xs : List Channel) → any_of is_channel_held (filter is_channel_held xs) ≡ not (length (filter is_channel_held xs) == 0)
any-held [] = refl
any-held (x ∷ xs) = by_case (any-held xs) (is_channel_held x) refl
  where
    some : (n : ℕ) → not (suc n == 0) ≡ true
    some n = grind (arith, nat_tests)

    by_case : any_of is_channel_held (filter is_channel_held xs) ≡ not (length (filter is_channel_held xs) == 0) → (b : Bool) → is_channel_held x ≡ b → any_of is_channel_held (filter is_channel_held (x ∷ xs)) ≡ not (length (filter is_channel_held (x ∷ xs)) == 0)
    by_case ih true h = ap (any_of is_channel_held) (filter-yes is_channel_held x xs h) ∙ (ap (λ b. b || any_of is_channel_held (filter is_channel_held xs)) h ∙ (sym (some (length (filter is_channel_held xs))) ∙ ap (λ (ys : List Channel). not (length ys == 0)) (sym (filter-yes is_channel_held x xs h))))
    by_case ih false h = ap (any_of is_channel_held) (filter-no is_channel_held x xs h) ∙ (ih ∙ ap (λ (ys : List Channel). not (length ys == 0)) (sym (filter-no is_channel_held x xs h)))

below : (r a d : ℕ) → r ≤ a → d ≡ a - r → nat_lt r a ≡ not (d == 0)
below r a d h e = grind (arith, nat_tests)

pub lost-matters : (s : CoreState) (k : ℕ) (rows : List Row) → TableFits s.channels (held_of rows) → AsksFit s.asks (look rows) → (look rows).lost k ≡ true → has_matters rows k ≡ has_left s k
lost-matters s k rows table fit lost =
    ap (λ (b : Bool). (any_of is_admit (rows_of k rows) && not b) || (any_of is_channel_held (held_of (rows_of k rows)) || nat_lt (length (replies (rows_of k rows))) (length (wanted_requests (rows_of k rows))))) lost
    ∙ (ap (λ b. b || (any_of is_channel_held (held_of (rows_of k rows)) || nat_lt (length (replies (rows_of k rows))) (length (wanted_requests (rows_of k rows))))) (never (any_of is_admit (rows_of k rows)))
    ∙ (ap (λ b. b || nat_lt (length (replies (rows_of k rows))) (length (wanted_requests (rows_of k rows)))) channels ∙ ap (λ b. not (channel_count_of s.channels k == 0) || b) requests))
  where
    never : (b : Bool) → (b && false) ≡ false
    never true = refl
    never false = refl

    channels : any_of is_channel_held (held_of (rows_of k rows)) ≡ not (channel_count_of s.channels k == 0)
    channels = any-held (channels_of (rows_of k rows)) ∙ ap (λ n. not (n == 0)) (ap length (sym (held-local k rows)) ∙ count-fit k s.channels (held_of rows) table.fit)

    requests : nat_lt (length (replies (rows_of k rows))) (length (wanted_requests (rows_of k rows))) ≡ not (length (filter (answers.is_request_of k) s.asks) == 0)
    requests =
        below (length (replies (rows_of k rows))) (length (wanted_requests (rows_of k rows))) (length (filter (answers.is_request_of k) s.asks)) (fit.each k).awaited
        (ap (λ q. length (filter (answers.is_request_of k) q)) fit.waiting ∙ (ap length (sym (fit.each k).waiting) ∙ length-drop (length (replies (rows_of k rows))) (wanted_requests (rows_of k rows))))

-- ---- who is known

without : (k : ℕ) (test : MemberState → Bool) (cs : List MemberState) → ((c : MemberState) → (c.number == k) ≡ true → test c ≡ false) → any_of test (filter (is_other k) cs) ≡ any_of test cs
without k test [] none = refl
without k test (c ∷ cs) none = by_case (without k test cs none) (c.number == k) refl
  where
    by_case : any_of test (filter (is_other k) cs) ≡ any_of test cs → (b : Bool) → (c.number == k) ≡ b → any_of test (filter (is_other k) (c ∷ cs)) ≡ any_of test (c ∷ cs)
    by_case ih true h = ap (any_of test) (filter-no (is_other k) c cs (ap not h)) ∙ (ih ∙ sym (ap (λ b. b || any_of test cs) (none c h)))
    by_case ih false h = ap (any_of test) (filter-yes (is_other k) c cs (ap not h)) ∙ ap (λ b. test c || b) ih

other-test : (i j k : ℕ) → (j == k) ≡ false → (i == k) ≡ true → (i == j) ≡ false
other-test i j k a b = grind (arith, nat_tests)

known-without : (k j : ℕ) (cs : List MemberState) → (j == k) ≡ false → is_member_known cs j ≡ true → is_member_known (filter (is_other k) cs) j ≡ true
known-without k j cs other known = without k (λ c. c.number == j) cs (λ c h. other-test c.number j k other h) ∙ known

served-without : (k j : ℕ) (cs : List MemberState) → (j == k) ≡ false → is_member_served cs j ≡ true → is_member_served (filter (is_other k) cs) j ≡ true
served-without k j cs other known = without k (λ c. (c.number == j) && not c.lost) cs (λ c h. ap (λ b. b && not c.lost) (other-test c.number j k other h)) ∙ known

none-of : {X : Type 0} (test : X → Bool) (xs : List X) → not (length (filter test xs) == 0) ≡ false → AllByRecursion (λ x. test x ≡ false) xs
none-of test [] h = tt
none-of {X} test (x ∷ xs) h = by_case (none-of test xs) (test x) refl
  where
    by_case : (not (length (filter test xs) == 0) ≡ false → AllByRecursion (λ x. test x ≡ false) xs) → (b : Bool) → test x ≡ b → AllByRecursion (λ x. test x ≡ false) (x ∷ xs)
    by_case ih true t = absurd (let c : true ≡ false = sym (some-more (length (filter test xs))) ∙ (ap (λ (ys : List X). not (length ys == 0)) (sym (filter-yes test x xs t)) ∙ h) in cc)
    by_case ih false t = (t, ih (ap (λ (ys : List X). not (length ys == 0)) (sym (filter-no test x xs t)) ∙ h))

all-both : {X : Type 0} (P Q R : X → Type 0) → ((x : X) → P x → Q x → R x) → (xs : List X) → AllByRecursion P xs → AllByRecursion Q xs → AllByRecursion R xs
all-both P Q R each [] a b = tt
all-both P Q R each (x ∷ xs) a b = (each x a.0 b.0, all-both P Q R each xs a.1 b.1)

neither : (a b : Bool) → (a || b) ≡ false → (a ≡ false) × (b ≡ false)
neither true b h = absurd (cc)
neither false b h = (refl, h)

pub known-settle : (s : CoreState) (k : ℕ) → AreKnown s → AllByRecursion (λ f. (f.client == k) ≡ false) s.forwards → AreKnown (client_settled s k)
known-settle s k known elsewhere = by_left (has_left s k) refl
  where
    by_left : (b : Bool) → has_left s k ≡ b → AreKnown (client_settled s k)
    by_left true h = subst (λ b. AreKnown (record s { clients = clients_kept k b s.clients })) (sym h) known
    by_left false h =
        let none = neither (not (channel_count_of s.channels k == 0)) (not (length (filter (answers.is_request_of k) s.asks) == 0)) h in
        subst (λ b. AreKnown (record s { clients = clients_kept k b s.clients })) (sym h) (record {
          channels = all-both (λ (e : TableEntry). is_channel_of k e ≡ false) (λ (e : TableEntry). is_member_known s.clients e.channel.client ≡ true) (λ (e : TableEntry). is_member_known (filter (is_other k) s.clients) e.channel.client ≡ true) (λ e a b. known-without k e.channel.client s.clients a b) s.channels (none-of (is_channel_of k) s.channels none.0) known.channels;
          asks = all-both (λ (a : Ask). answers.is_request_of k a ≡ false) (λ (a : Ask). is_member_known s.clients a.client ≡ true) (λ (a : Ask). is_member_known (filter (is_other k) s.clients) a.client ≡ true) (λ a x y. known-without k a.client s.clients x y) s.asks (none-of (answers.is_request_of k) s.asks none.1) known.asks;
          forwards = all-both (λ (f : Forward). (f.client == k) ≡ false) (λ (f : Forward). is_member_served s.clients f.client ≡ true) (λ (f : Forward). is_member_served (filter (is_other k) s.clients) f.client ≡ true) (λ f a b. served-without k f.client s.clients a b) s.forwards elsewhere known.forwards;
        })

-- ---- the row of a client that is lost

pub listed : (j : ℕ) (m : ℕ → Bool) (js : List ℕ) (cs : List MemberState) → map (λ (c : MemberState). c.number) cs ≡ filter m js → is_member_known cs j ≡ true → m j ≡ true
listed j m js cs e known = within (filter m js) (passing js) (sym (any-map cs) ∙ known ∙ refl) e
  where
    passing : (is : List ℕ) → AllByRecursion (λ i. m i ≡ true) (filter m is)
    passing [] = tt
    passing (i ∷ is) = by_case (passing is) (m i) refl
      where
        by_case : AllByRecursion (λ i. m i ≡ true) (filter m is) → (b : Bool) → m i ≡ b → AllByRecursion (λ i. m i ≡ true) (filter m (i ∷ is))
        by_case ih true h = subst (AllByRecursion (λ i. m i ≡ true)) (sym (filter-yes m i is h)) (h, ih)
        by_case ih false h = subst (AllByRecursion (λ i. m i ≡ true)) (sym (filter-no m i is h)) ih

    any-map : (ds : List MemberState) → is_member_known ds j ≡ any_of (λ i. i == j) (map (λ (c : MemberState). c.number) ds)
    any-map [] = refl
    any-map (d ∷ ds) = ap (λ b. (d.number == j) || b) (any-map ds)

    found : (is : List ℕ) → AllByRecursion (λ i. m i ≡ true) is → any_of (λ i. i == j) is ≡ true → m j ≡ true
    found [] all h = absurd (cc)
    found (i ∷ is) all h = by_case (found is all.1) (i == j) refl h
      where
        by_case : (any_of (λ i. i == j) is ≡ true → m j ≡ true) → (b : Bool) → (i == j) ≡ b → ((i == j) || any_of (λ i. i == j) is) ≡ true → m j ≡ true
        by_case ih true t h = subst (λ x. m x ≡ true) (same-number i j t) all.0
        by_case ih false t h = ih (sym (ap (λ b. b || any_of (λ i. i == j) is) t) ∙ h)

    within : (is : List ℕ) → AllByRecursion (λ i. m i ≡ true) is → any_of (λ i. i == j) (map (λ (c : MemberState). c.number) cs) ≡ true → map (λ (c : MemberState). c.number) cs ≡ is → m j ≡ true
    within is all h e = found is all (ap (any_of (λ i. i == j)) (sym e) ∙ h)

-- the client is lost in the log
pub lost-there : (l : Look) (k : ℕ) (cs : List MemberState) → AllByRecursion (ClientFits l) cs → is_lost_in cs k ≡ true → l.lost k ≡ true
lost-there l k [] all h = absurd (cc)
lost-there l k (c ∷ cs) all h = by_case (lost-there l k cs all.1) (c.number == k) refl c.lost refl h
  where
    by_case : (is_lost_in cs k ≡ true → l.lost k ≡ true) → (b : Bool) → (c.number == k) ≡ b → (d : Bool) → c.lost ≡ d → (((c.number == k) && c.lost) || is_lost_in cs k) ≡ true → l.lost k ≡ true
    by_case ih true n true d h = subst (λ j. l.lost j ≡ true) (same-number c.number k n) (sym all.0.lost ∙ d)
    by_case ih true n false d h = ih (sym (ap (λ b. b || is_lost_in cs k) (ap (λ b. b && c.lost) n ∙ d)) ∙ h)
    by_case ih false n d e h = ih (sym (ap (λ b. (b && c.lost) || is_lost_in cs k) n) ∙ h)

pub lost-known : (k : ℕ) (cs : List MemberState) → is_lost_in cs k ≡ true → is_member_known cs k ≡ true
lost-known k [] h = h
lost-known k (c ∷ cs) h = by_case (lost-known k cs) (c.number == k) refl h
  where
    by_case : (is_lost_in cs k ≡ true → is_member_known cs k ≡ true) → (b : Bool) → (c.number == k) ≡ b → (((c.number == k) && c.lost) || is_lost_in cs k) ≡ true → is_member_known (c ∷ cs) k ≡ true
    by_case ih true n h = ap (λ b. b || is_member_known cs k) n
    by_case ih false n h = ap (λ b. b || is_member_known cs k) n ∙ ih (sym (ap (λ b. (b && c.lost) || is_lost_in cs k) n) ∙ h)

-- a client that is served is not lost, so none with a forwarding is
pub elsewhere : (l : Look) (s : CoreState) (k : ℕ) → AllByRecursion (ClientFits l) s.clients → l.lost k ≡ true → AllByRecursion (λ f. is_member_served s.clients f.client ≡ true) s.forwards → AllByRecursion (λ f. (f.client == k) ≡ false) s.forwards
elsewhere l s k all lost known = each s.forwards known
  where
    one : (f : Forward) → is_member_served s.clients f.client ≡ true → (f.client == k) ≡ false
    one f h = by_case (f.client == k) refl
      where
        by_case : (b : Bool) → (f.client == k) ≡ b → (f.client == k) ≡ false
        by_case true e = absurd (let a : l.lost k ≡ false = subst (λ j. l.lost j ≡ false) (same-number f.client k e) (served l f.client s.clients all h).here in let c = sym lost ∙ a in cc)
        by_case false e = e

    each : (fs : List Forward) → AllByRecursion (λ f. is_member_served s.clients f.client ≡ true) fs → AllByRecursion (λ f. (f.client == k) ≡ false) fs
    each [] all = tt
    each (f ∷ fs) all = (one f all.0, each fs all.1)

-- a quiet row of a client that is lost, which may be forgotten by it
pub lost-stands : (s : CoreState) (es : List TableEntry) (row : Row) (rows : List Row) → CoreRepresents s rows → IsQuiet row → is_lost_in s.clients row.client ≡ true → TableFits es (held_of (row ∷ rows)) → AllByRecursion (λ e. is_member_known s.clients e.channel.client ≡ true) es → CoreRepresents (client_settled (record s { channels = es }) row.client) (row ∷ rows)
lost-stands s es row rows st q lost channels known =
    let after = sym (look-same row rows q) in
    let t : CoreState = record s { channels = es } in
    let gone : (look rows).lost row.client ≡ true = lost-there (look rows) row.client s.clients st.clients.each lost in
    let wanted_requests : AsksFit s.asks (look (row ∷ rows)) = subst (AsksFit s.asks) after st.asks in
    let here : has_matters (row ∷ rows) row.client ≡ has_left (record s { channels = es }) row.client = lost-matters (record s { channels = es }) row.client (row ∷ rows) channels wanted_requests (subst (λ (l : Look). l.lost row.client ≡ true) after gone) in
    record {
      channels = channels;
      asks = wanted_requests;
      forwards = subst (λ (l : Look). AreFit s.forwards l.current l.own l.lost) after st.forwards;
      clients = subst (ClientsFit (clients_kept row.client (has_left (record s { channels = es }) row.client) s.clients) (has_matters (row ∷ rows))) after
          (clients-settle row.client (has_left (record s { channels = es }) row.client) s.clients (has_matters rows) (has_matters (row ∷ rows)) (look rows) st.clients (λ j other. ap has_open_matters (idle_row j row rows (turned j row.client other))) here (listed row.client (has_matters rows) (look rows).entered s.clients st.clients.numbers (lost-known row.client s.clients lost)));
      known = known-settle (record s { channels = es }) row.client (record { channels = known; asks = st.known.asks; forwards = st.known.forwards }) (elsewhere (look rows) s row.client st.clients.each gone st.known.forwards);
    }
  where
    turned : (a b : ℕ) → (a == b) ≡ false → (b == a) ≡ false
    turned a b h = grind (arith, nat_tests)
