-- A client comes.
use Rattle.std.proofs.Common.{◌≡◌, ◌≢◌, ◌≤◌, ◌<◌, ◌+◌, ℕ, List, [], ◌∷◌, ◌++◌, length, map, true, false, Bool, refl, ◌∙◌, ap, sym, subst, None, arith, suc}
use Rattle.std.specs.Prelude.{filter, ◌==◌, ◌&&◌, ◌||◌, not, nat_lt}
use Rattle.std.specs.List.{AllByRecursion}
use Rattle.std.proofs.lemmas.List.{append-nil}
use Rattle.std.proofs.lemmas.List.Elements.{filter-append}
use Rattle.std.proofs.lemmas.Bool.Decides.{nat_tests}
use Rattle.mux_history.specs.declared.limits.TheConstants.{MAX_CLIENTS}
use Rattle.mux_history.specs.Rows.{Admit, Refused, Row, any_of, is_admit, is_lost, rows_of}
use Rattle.mux_history.specs.Channels.{Channel, after_item, held_of, is_channel_held}
use Rattle.mux_history.specs.Farewell.{has_open_matters}
use Rattle.mux_history.specs.Forwardings.{current}
use Rattle.mux_history.specs.Log.{bare_row, admitted_clients, matters_of, open_matters}
use Rattle.mux_history.specs.Requests.{Ask, wanted_requests, replies, wanted}
use Rattle.mux_history.specs.Said.{Outcome, records}
use Rattle.ssh_grammar.specs.declared.numbers.TheConstants.{VERSION}
use Rattle.ssh_grammar.specs.Control.{Greets}
use Rattle.ssh_grammar.specs.Frames.{frame_answer}
use Rattle.mux_core.specs.Entering.{with_client}
use Rattle.mux_core.specs.Calls.{AdmitsOn}
use Rattle.mux_history.proofs.Bools.{same-number, self}
use Rattle.mux_history.proofs.Finds.{filter-no, filter-yes}
use Rattle.mux_history.proofs.OwnRows.{idle_row, own_row}
use Rattle.mux_isolation.specs.LogView.{waiting_left_of}
use Rattle.mux_core.specs.State.{MemberState, CoreState, is_member_served}
use Rattle.channel_table.specs.Entries.{TableEntry}
use Rattle.forward_rules.specs.State as kept
use Rattle.forward_rules.specs.Stands.{AreFit, Places, places_of}
use Rattle.mux_history.specs.Channels.{with_ups}
use Rattle.mux_core.specs.Stands.{AreOnce, AsksFit, ClientFits, ClientsFit, Look, OwnRequests, CoreRepresents, TableFits, has_matters, is_member_known, look, unreplied_in}
use Rattle.mux_core.proofs.Bare.{held-bare}
use Rattle.mux_core.proofs.Quiet.{IsQuiet, look-same, own-same}
use Rattle.mux_core.proofs.Says.{held-held, map-same}

-- how many clients have open matters
pub count-matters : (rows : List Row) (js : List ℕ) → matters_of rows js ≡ length (filter (has_matters rows) js)
count-matters rows [] = refl
count-matters rows (j ∷ js) = by_case (count-matters rows js) (has_matters rows j) refl
  where
    more : (n : ℕ) → n + 1 ≡ suc n
    more n = omega arith

    by_case : matters_of rows js ≡ length (filter (has_matters rows) js) → (b : Bool) → has_matters rows j ≡ b → matters_of rows (j ∷ js) ≡ length (filter (has_matters rows) (j ∷ js))
    by_case ih true h = ap (λ (b : Bool). elim b as (λ _. ℕ) [ true ↦ matters_of rows js + 1 | false ↦ matters_of rows js ]) h ∙ (ap (λ n. n + 1) ih ∙ (more (length (filter (has_matters rows) js)) ∙ sym (ap length (filter-yes (has_matters rows) j js h))))
    by_case ih false h = ap (λ (b : Bool). elim b as (λ _. ℕ) [ true ↦ matters_of rows js + 1 | false ↦ matters_of rows js ]) h ∙ (ih ∙ sym (ap length (filter-no (has_matters rows) j js h)))

length-map : (cs : List MemberState) → length (map (λ (c : MemberState). c.number) cs) ≡ length cs
length-map [] = refl
length-map (c ∷ cs) = ap suc (length-map cs)

pub matters-are : (s : CoreState) (rows : List Row) → CoreRepresents s rows → open_matters rows ≡ length s.clients
matters-are s rows st = count-matters rows (admitted_clients rows) ∙ (ap length (sym st.clients.numbers) ∙ length-map s.clients)

pub matters-few : (s : CoreState) (rows : List Row) (n : ℕ) → CoreRepresents s rows → (length s.clients < 4294967296 → n ≡ length s.clients) → n ≡ open_matters rows
matters-few s rows n st exact = exact (let f = st.clients.few in omega arith) ∙ sym (matters-are s rows st)

-- ---- the rows of a new client

-- a client that was admitted has rows
in-rows : (j : ℕ) (rows : List Row) → any_of (λ i. i == j) (admitted_clients rows) ≡ true → any_of is_admit (rows_of j rows) ≡ true
in-rows j [] h = absurd (cc)
in-rows j (row ∷ rows) h = by_admit (in-rows j rows) (is_admit row) refl (row.client == j) refl
  where
    split : (xs ys : List ℕ) → any_of (λ i. i == j) (xs ++ ys) ≡ (any_of (λ i. i == j) xs || any_of (λ i. i == j) ys)
    split [] ys = refl
    split (x ∷ xs) ys = ap (λ b. (x == j) || b) (split xs ys) ∙ assoc (x == j) (any_of (λ i. i == j) xs) (any_of (λ i. i == j) ys)
      where
        assoc : (a b c : Bool) → (a || (b || c)) ≡ ((a || b) || c)
        assoc true b c = refl
        assoc false b c = refl

    none : (a : Bool) → (a || false) ≡ a
    none true = refl
    none false = refl

    here : (b : Bool) → is_admit row ≡ b → any_of (λ i. i == j) (admitted_clients (row ∷ rows)) ≡ (any_of (λ i. i == j) (admitted_clients rows) || any_of (λ i. i == j) (elim b as (λ _. List ℕ) [ true ↦ row.client ∷ [] | false ↦ [] ]))
    here b e = split (admitted_clients rows) (elim (is_admit row) as (λ _. List ℕ) [ true ↦ row.client ∷ [] | false ↦ [] ]) ∙ ap (λ (b : Bool). any_of (λ i. i == j) (admitted_clients rows) || any_of (λ i. i == j) (elim b as (λ _. List ℕ) [ true ↦ row.client ∷ [] | false ↦ [] ])) e

    by_admit : (any_of (λ i. i == j) (admitted_clients rows) ≡ true → any_of is_admit (rows_of j rows) ≡ true) → (b : Bool) → is_admit row ≡ b → (c : Bool) → (row.client == j) ≡ c → any_of is_admit (rows_of j (row ∷ rows)) ≡ true
    by_admit ih true a true c = ap (any_of is_admit) (own_row j row rows c) ∙ ap (λ b. b || any_of is_admit (rows_of j rows)) a
    by_admit ih true a false c = ap (any_of is_admit) (idle_row j row rows c) ∙ ih (sym (here true a ∙ (ap (λ b. any_of (λ i. i == j) (admitted_clients rows) || (b || false)) c ∙ none (any_of (λ i. i == j) (admitted_clients rows)))) ∙ h)
    by_admit ih false a true c = ap (any_of is_admit) (own_row j row rows c) ∙ (ap (λ b. b || any_of is_admit (rows_of j rows)) a ∙ ih (sym (here false a ∙ none (any_of (λ i. i == j) (admitted_clients rows))) ∙ h))
    by_admit ih false a false c = ap (any_of is_admit) (idle_row j row rows c) ∙ ih (sym (here false a ∙ none (any_of (λ i. i == j) (admitted_clients rows))) ∙ h)

-- so a new one wasn't
pub not-in : (k : ℕ) (rows : List Row) → rows_of k rows ≡ [] → any_of (λ i. i == k) (admitted_clients rows) ≡ false
not-in k rows new = by_case (any_of (λ i. i == k) (admitted_clients rows)) refl
  where
    by_case : (b : Bool) → any_of (λ i. i == k) (admitted_clients rows) ≡ b → any_of (λ i. i == k) (admitted_clients rows) ≡ false
    by_case true h = absurd (let a : any_of is_admit (rows_of k rows) ≡ true = in-rows k rows h in let b : any_of is_admit (rows_of k rows) ≡ false = ap (any_of is_admit) new in let c = sym a ∙ b in cc)
    by_case false h = h

-- ---- the row

-- one that is refused changes nothing
pub refused-quiet : (k : ℕ) → IsQuiet (bare_row (Admit k) k (record { sent = []; recorded = []; ends = Refused }))
refused-quiet k = record { asks = refl; flags = refl; replies = refl; forwards = λ own fs. refl; keeps = refl; admits = refl }

admit-held : (k : ℕ) (o : Outcome) (rows : List Row) → o.sent ≡ [] → held_of (bare_row (Admit k) k o ∷ rows) ≡ held_of rows
admit-held k o rows none =
    held-bare (Admit k) k o rows
    ∙ (ap (filter is_channel_held) (append-nil (map (after_item (bare_row (Admit k) k o)) (held_of rows)) ∙ map-same (after_item (bare_row (Admit k) k o)) (λ x. same x) (held_of rows)) ∙ held-held rows)
  where
    same : (x : Channel) → after_item (bare_row (Admit k) k o) x ≡ x
    same x =
        ap (λ (ups : List (List ℕ)). elim (x.client == k) as (λ _. Channel) [ true ↦ with_ups None ups x | false ↦ x ]) none
        ∙ (elim (x.client == k) as (λ b. (elim b as (λ _. Channel) [ true ↦ x | false ↦ x ]) ≡ x) [ true ↦ refl | false ↦ refl ])

-- the matters of a refused client are closed, as they were
refused-matters : (k : ℕ) (rows : List Row) → rows_of k rows ≡ [] → (j : ℕ) → has_matters (bare_row (Admit k) k (record { sent = []; recorded = []; ends = Refused }) ∷ rows) j ≡ has_matters rows j
refused-matters k rows new j = by_case (k == j) refl
  where
    row : Row
    row = bare_row (Admit k) k (record { sent = []; recorded = []; ends = Refused })

    by_case : (b : Bool) → (k == j) ≡ b → has_matters (bare_row (Admit k) k (record { sent = []; recorded = []; ends = Refused }) ∷ rows) j ≡ has_matters rows j
    by_case false e = ap has_open_matters (idle_row j (bare_row (Admit k) k (record { sent = []; recorded = []; ends = Refused })) rows e)
    by_case true e =
        let none : rows_of j rows ≡ [] = subst (λ i. rows_of i rows ≡ []) (same-number k j e) new in
        ap has_open_matters (own_row j (bare_row (Admit k) k (record { sent = []; recorded = []; ends = Refused })) rows e ∙ ap (λ own. bare_row (Admit k) k (record { sent = []; recorded = []; ends = Refused }) ∷ own) none) ∙ sym (ap has_open_matters none)

pub refused-stands : (s : CoreState) (k : ℕ) (rows : List Row) → CoreRepresents s rows → rows_of k rows ≡ [] → CoreRepresents s (bare_row (Admit k) k (record { sent = []; recorded = []; ends = Refused }) ∷ rows)
refused-stands s k rows st new =
    let row : Row = bare_row (Admit k) k (record { sent = []; recorded = []; ends = Refused }) in
    let after = sym (look-same (bare_row (Admit k) k (record { sent = []; recorded = []; ends = Refused })) rows (refused-quiet k)) in
    let matters : has_matters rows ≡ has_matters (bare_row (Admit k) k (record { sent = []; recorded = []; ends = Refused }) ∷ rows) = λ i j. sym (refused-matters k rows new j) i in
    record {
      channels = subst (TableFits s.channels) (sym (admit-held k (record { sent = []; recorded = []; ends = Refused }) rows refl)) st.channels;
      asks = subst (AsksFit s.asks) after st.asks;
      forwards = subst (λ (l : Look). AreFit s.forwards l.current l.own l.lost) after st.forwards;
      clients = subst (λ m. ClientsFit s.clients m (look (bare_row (Admit k) k (record { sent = []; recorded = []; ends = Refused }) ∷ rows))) matters (subst (ClientsFit s.clients (has_matters rows)) after st.clients);
      known = st.known;
    }

-- ---- one that is admitted

abbrev pub admit_row : ℕ → List ℕ → Row
admit_row k frame = bare_row (Admit k) k (records frame)

abbrev pub new_client : ℕ → MemberState
new_client k = record { number = k; lost = false; waiting = [] }

all-others : (k : ℕ) (js : List ℕ) → any_of (λ i. i == k) js ≡ false → AllByRecursion (λ i. (i == k) ≡ false) js
all-others k [] h = tt
all-others k (j ∷ js) h = by_case (all-others k js) (j == k) refl h
  where
    by_case : (any_of (λ i. i == k) js ≡ false → AllByRecursion (λ i. (i == k) ≡ false) js) → (b : Bool) → (j == k) ≡ b → ((j == k) || any_of (λ i. i == k) js) ≡ false → AllByRecursion (λ i. (i == k) ≡ false) (j ∷ js)
    by_case ih true e h = absurd (let a = sym (ap (λ b. b || any_of (λ i. i == k) js) e) ∙ h in cc)
    by_case ih false e h = (e, ih (sym (ap (λ b. b || any_of (λ i. i == k) js) e) ∙ h))

filter-on : (k : ℕ) (m m' : ℕ → Bool) → ((j : ℕ) → (j == k) ≡ false → m' j ≡ m j) → (js : List ℕ) → AllByRecursion (λ i. (i == k) ≡ false) js → filter m' js ≡ filter m js
filter-on k m m' same [] all = refl
filter-on k m m' same (j ∷ js) all = by_case (filter-on k m m' same js all.1) (m j) refl
  where
    by_case : filter m' js ≡ filter m js → (b : Bool) → m j ≡ b → filter m' (j ∷ js) ≡ filter m (j ∷ js)
    by_case ih true h = filter-yes m' j js (same j all.0 ∙ h) ∙ (ap (λ is. j ∷ is) ih ∙ sym (filter-yes m j js h))
    by_case ih false h = filter-no m' j js (same j all.0 ∙ h) ∙ (ih ∙ sym (filter-no m j js h))

turned : (a b : ℕ) → (a == b) ≡ false → (b == a) ≡ false
turned a b h = grind (arith, nat_tests)

numbers-append : (k : ℕ) (cs : List MemberState) → map (λ (c : MemberState). c.number) (cs ++ new_client k ∷ []) ≡ map (λ (c : MemberState). c.number) cs ++ k ∷ []
numbers-append k [] = refl
numbers-append k (c ∷ cs) = ap (λ ns. c.number ∷ ns) (numbers-append k cs)

length-append : (k : ℕ) (cs : List MemberState) → length (cs ++ new_client k ∷ []) ≡ suc (length cs)
length-append k [] = refl
length-append k (c ∷ cs) = ap suc (length-append k cs)

once-append : (k : ℕ) (cs : List MemberState) → AllByRecursion (λ c. (c.number == k) ≡ false) cs → AreOnce cs → AreOnce (cs ++ new_client k ∷ [])
once-append k [] all once = (tt, tt)
once-append k (c ∷ cs) all once = (each cs once.0, once-append k cs all.1 once.1)
  where
    each : (ds : List MemberState) → AllByRecursion (λ d. (c.number == d.number) ≡ false) ds → AllByRecursion (λ d. (c.number == d.number) ≡ false) (ds ++ new_client k ∷ [])
    each [] one = (all.0, tt)
    each (d ∷ ds) one = (one.0, each ds one.1)

known-append : (k j : ℕ) (cs : List MemberState) → is_member_known cs j ≡ true → is_member_known (cs ++ new_client k ∷ []) j ≡ true
known-append k j [] h = absurd (cc)
known-append k j (c ∷ cs) h = by_case (known-append k j cs) (c.number == j) h
  where
    by_case : (is_member_known cs j ≡ true → is_member_known (cs ++ new_client k ∷ []) j ≡ true) → (b : Bool) → (b || is_member_known cs j) ≡ true → (b || is_member_known (cs ++ new_client k ∷ []) j) ≡ true
    by_case ih true h = refl
    by_case ih false h = ih h

served-append : (k j : ℕ) (cs : List MemberState) → is_member_served cs j ≡ true → is_member_served (cs ++ new_client k ∷ []) j ≡ true
served-append k j [] h = absurd (cc)
served-append k j (c ∷ cs) h = by_case (served-append k j cs) ((c.number == j) && not c.lost) h
  where
    by_case : (is_member_served cs j ≡ true → is_member_served (cs ++ new_client k ∷ []) j ≡ true) → (b : Bool) → (b || is_member_served cs j) ≡ true → (b || is_member_served (cs ++ new_client k ∷ []) j) ≡ true
    by_case ih true h = refl
    by_case ih false h = ih h

all-of : {X : Type 0} (P Q : X → Type 0) → ((x : X) → P x → Q x) → (xs : List X) → AllByRecursion P xs → AllByRecursion Q xs
all-of P Q each [] all = tt
all-of P Q each (x ∷ xs) all = (each x all.0, all-of P Q each xs all.1)

all-last : {X : Type 0} (P : X → Type 0) (x : X) → P x → (xs : List X) → AllByRecursion P xs → AllByRecursion P (xs ++ x ∷ [])
all-last P x one [] all = (one, tt)
all-last P x one (y ∷ ys) all = (all.0, all-last P x one ys all.1)

-- none of the clients has its number
strangers : (k : ℕ) (rows : List Row) (cs : List MemberState) → rows_of k rows ≡ [] → AllByRecursion (ClientFits (look rows)) cs → AllByRecursion (λ c. (c.number == k) ≡ false) cs
strangers k rows cs new all = all-of (ClientFits (look rows)) (λ c. (c.number == k) ≡ false) (λ c fits. one c fits (c.number == k) refl) cs all
  where
    one : (c : MemberState) → ClientFits (look rows) c → (b : Bool) → (c.number == k) ≡ b → (c.number == k) ≡ false
    one c fits true e = absurd (let a : any_of is_admit (rows_of k rows) ≡ true = subst (λ j. any_of is_admit (rows_of j rows) ≡ true) (same-number c.number k e) fits.admitted in let b : any_of is_admit (rows_of k rows) ≡ false = ap (any_of is_admit) new in let d = sym a ∙ b in cc)
    one c fits false e = e

-- a client that was there stands as before
stays : (k : ℕ) (frame : List ℕ) (rows : List Row) (c : MemberState) → (c.number == k) ≡ false → ClientFits (look rows) c → ClientFits (look (admit_row k frame ∷ rows)) c
stays k frame rows c other fits =
    let same = idle_row c.number (admit_row k frame) rows (turned c.number k other) in
    record {
      nonzero = fits.nonzero;
      admitted = ap (any_of is_admit) same ∙ fits.admitted;
      lost = fits.lost ∙ sym (ap is_lost same);
      answers = λ here. ap (λ own. waiting_left_of (wanted own) (replies own)) same ∙ fits.answers here;
    }

comes : (k : ℕ) (frame : List ℕ) (rows : List Row) → k ≢ 0 → rows_of k rows ≡ [] → ClientFits (look (admit_row k frame ∷ rows)) (new_client k)
comes k frame rows nonzero new =
    let same : rows_of k (admit_row k frame ∷ rows) ≡ admit_row k frame ∷ [] = own_row k (admit_row k frame) rows (self k) ∙ ap (λ own. admit_row k frame ∷ own) new in
    record {
      nonzero = nonzero;
      admitted = ap (any_of is_admit) same;
      lost = sym (ap is_lost same);
      answers = λ here. ap (λ own. waiting_left_of (wanted own) (replies own)) same;
    }

nothing-asked : (k : ℕ) (frame : List ℕ) (own : List Row) → places_of (admit_row k frame ∷ own) ≡ places_of own
nothing-asked k frame own = ap (λ (us : List Ask). let x : Places = record { asked = us; replied = length (replies own ++ []) } in x) (append-nil (wanted_requests own)) ∙ ap (λ (rs : List (List ℕ)). let x : Places = record { asked = wanted_requests own; replied = length rs } in x) (append-nil (replies own))

pub admitted-stands : (s : CoreState) (k : ℕ) (frame : List ℕ) (rows : List Row) → CoreRepresents s rows → k ≢ 0 → rows_of k rows ≡ [] → length s.clients < MAX_CLIENTS → CoreRepresents (record s { clients = s.clients ++ new_client k ∷ [] }) (admit_row k frame ∷ rows)
admitted-stands s k frame rows st nonzero new room =
    let own : (look (admit_row k frame ∷ rows)).own ≡ (look rows).own = λ i j. own-same places_of (admit_row k frame) rows (nothing-asked k frame) j i in
    let lost : (look (admit_row k frame ∷ rows)).lost ≡ (look rows).lost = λ i j. own-same is_lost (admit_row k frame) rows (λ own. refl) j i in
    let others = strangers k rows s.clients new st.clients.each in
    let same : (j : ℕ) → (j == k) ≡ false → has_matters (admit_row k frame ∷ rows) j ≡ has_matters rows j = λ j other. ap has_open_matters (idle_row j (admit_row k frame) rows (turned j k other)) in
    let here : has_matters (admit_row k frame ∷ rows) k ≡ true = ap has_open_matters (own_row k (admit_row k frame) rows (self k) ∙ ap (λ own. admit_row k frame ∷ own) new) in
    record {
      channels = subst (TableFits s.channels) (sym (admit-held k (records frame) rows refl)) st.channels;
      asks = record {
        waiting = st.asks.waiting ∙ sym (ap unreplied_in (nothing-asked k frame rows));
        awaited = subst (λ (x : Places). x.replied ≤ length x.asked) (sym (nothing-asked k frame rows)) st.asks.awaited;
        each = λ j. subst (λ (f : ℕ → Places). OwnRequests j (places_of (admit_row k frame ∷ rows)) (f j)) (sym own) (subst (λ (x : Places). OwnRequests j x (places_of (rows_of j rows))) (sym (nothing-asked k frame rows)) (st.asks.each j));
      };
      forwards = subst (λ f. AreFit s.forwards (current rows) f (look (admit_row k frame ∷ rows)).lost) (sym own) (subst (AreFit s.forwards (current rows) (look rows).own) (sym lost) st.forwards);
      clients = record {
        numbers =
            numbers-append k s.clients
            ∙ (ap (λ ns. ns ++ k ∷ []) (st.clients.numbers ∙ sym (filter-on k (has_matters rows) (has_matters (admit_row k frame ∷ rows)) same (admitted_clients rows) (all-others k (admitted_clients rows) (not-in k rows new))))
            ∙ (ap (λ ks. filter (has_matters (admit_row k frame ∷ rows)) (admitted_clients rows) ++ ks) (sym (filter-yes (has_matters (admit_row k frame ∷ rows)) k [] here))
            ∙ sym (filter-append (has_matters (admit_row k frame ∷ rows)) (admitted_clients rows) (k ∷ []))));
        each = all-last (ClientFits (look (admit_row k frame ∷ rows))) (new_client k) (comes k frame rows nonzero new) s.clients (old s.clients others st.clients.each);
        once = once-append k s.clients others st.clients.once;
        few = let e = length-append k s.clients in omega arith;
      };
      known = record {
        channels = all-of (λ (f : TableEntry). is_member_known s.clients f.channel.client ≡ true) (λ (f : TableEntry). is_member_known (s.clients ++ new_client k ∷ []) f.channel.client ≡ true) (λ f h. known-append k f.channel.client s.clients h) s.channels st.known.channels;
        asks = all-of (λ (a : Ask). is_member_known s.clients a.client ≡ true) (λ (a : Ask). is_member_known (s.clients ++ new_client k ∷ []) a.client ≡ true) (λ a h. known-append k a.client s.clients h) s.asks st.known.asks;
        forwards = all-of (λ (f : kept.Forward). is_member_served s.clients f.client ≡ true) (λ (f : kept.Forward). is_member_served (s.clients ++ new_client k ∷ []) f.client ≡ true) (λ f h. served-append k f.client s.clients h) s.forwards st.known.forwards;
      };
    }
  where
    old : (cs : List MemberState) → AllByRecursion (λ c. (c.number == k) ≡ false) cs → AllByRecursion (ClientFits (look rows)) cs → AllByRecursion (ClientFits (look (admit_row k frame ∷ rows))) cs
    old [] a b = tt
    old (c ∷ cs) a b = (stays k frame rows c a.0 b.0, old cs a.1 b.1)

-- ---- both

pub on-admit : (s new : CoreState) (k : ℕ) (b : Bool) → b ≡ nat_lt (length s.clients) MAX_CLIENTS → new ≡ record s { clients = with_client b k s.clients } → AdmitsOn s new k b
on-admit s new k true exact after = λ rows st fresh.
    let room : nat_lt (open_matters rows) MAX_CLIENTS ≡ true = ap (λ n. nat_lt n MAX_CLIENTS) (matters-are s rows st) ∙ sym exact in
    let few : length s.clients < MAX_CLIENTS = below (length s.clients) exact in
    record {
      exact = sym room;
      stands = subst (λ o. CoreRepresents new (bare_row (Admit k) k o ∷ rows)) (sym (ap (λ (b : Bool). elim b as (λ _. Outcome) [ true ↦ records (frame_answer (Greets VERSION)) | false ↦ record { sent = []; recorded = []; ends = Refused } ]) room))
          (subst (λ u. CoreRepresents u (admit_row k (frame_answer (Greets VERSION)) ∷ rows)) (sym after) (admitted-stands s k (frame_answer (Greets VERSION)) rows st fresh.nonzero fresh.fresh few));
    }
  where
    below : (n : ℕ) → true ≡ nat_lt n MAX_CLIENTS → n < MAX_CLIENTS
    below n h = grind (arith, nat_tests)
on-admit s new k false exact after = λ rows st fresh.
    let full : nat_lt (open_matters rows) MAX_CLIENTS ≡ false = ap (λ n. nat_lt n MAX_CLIENTS) (matters-are s rows st) ∙ sym exact in
    record {
      exact = sym full;
      stands = subst (λ o. CoreRepresents new (bare_row (Admit k) k o ∷ rows)) (sym (ap (λ (b : Bool). elim b as (λ _. Outcome) [ true ↦ records (frame_answer (Greets VERSION)) | false ↦ record { sent = []; recorded = []; ends = Refused } ]) full))
          (subst (λ u. CoreRepresents u (bare_row (Admit k) k (record { sent = []; recorded = []; ends = Refused }) ∷ rows)) (sym after) (refused-stands s k rows st fresh.fresh));
    }
