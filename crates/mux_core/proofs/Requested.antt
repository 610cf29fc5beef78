-- A request that wants a reply and is no forwarding's: it is sent, and its answer is awaited.
use Rattle.std.proofs.Common.{◌≡◌, ◌≤◌, ℕ, List, [], ◌∷◌, ◌++◌, length, map, true, false, Bool, refl, ◌∙◌, ap, sym, subst, Some, None, Ok, arith, suc, zero}
use Rattle.std.specs.Prelude.{filter, ◌==◌, ◌&&◌, ◌||◌, not, slice_get, ◌⊎◌}
use Rattle.std.specs.List.{AllByRecursion}
use Rattle.std.proofs.lemmas.List.{append-nil}
use Rattle.std.proofs.Common.{inl, inr}
use Rattle.std.proofs.lemmas.Bool.Decides.{nat_tests}
use Rattle.ssh_grammar.specs.Messages.{Global, KeepAlive, OtherName, Forward, Cancel}
use Rattle.ssh_grammar.specs.Said.{Payload}
use Rattle.mux_history.specs.Summary.{Requests, read_summary, reading}
use Rattle.mux_history.specs.Rows.{Row, Says, any_of, is_admit, is_lost, rows_of}
use Rattle.mux_history.specs.Forwardings.{Forwarding, current, forwardings_of, forwardings_after_request}
use Rattle.mux_history.specs.Requests.{Ask, wanted_requests, asks_of, replies, sent_flags, wanted, wanted_in}
use Rattle.mux_history.specs.Said.{sends_payload}
use Rattle.mux_history.proofs.Bools.{same-number}
use Rattle.mux_history.proofs.OwnRows.{idle_row, own_row}
use Rattle.mux_history.proofs.Readings.{reading-ok}
use Rattle.mux_isolation.specs.LogView.{waiting_left_of}
use Rattle.forward_rules.specs.State as kept
use Rattle.forward_rules.specs.Stands.{AreFit, EachHas, HasAt, IsAwaited, Places, places_of}
use Rattle.mux_history.specs.declared.limits.TheConstants.{MAX_CLIENTS}
use Rattle.mux_history.specs.Summary.{summary_sender_of}
use Rattle.mux_history.specs.Channels.{Channel, after_item, held_of, is_channel_held, opened_up, with_up}
use Rattle.mux_history.specs.Farewell.{has_open_matters}
use Rattle.mux_history.specs.Log.{admitted_clients}
use Rattle.channel_table.specs.Entries.{TableEntry}
use Rattle.mux_core.specs.State.{MemberState, CoreState, is_member_served}
use Rattle.mux_core.specs.Stands.{AreOnce, ClientFits, CoreRepresents, TableFits, has_matters, is_member_known, look}
use Rattle.mux_core.proofs.Bare.{held-bare}
use Rattle.mux_core.proofs.OpensSent.{served-known}
use Rattle.mux_core.proofs.Quiet.{own-same}
use Rattle.mux_core.proofs.Served.{IsServed, open-by, served}
use Rattle.mux_core.proofs.Answering.{Waits, asked_more, asks-sent, sent-waits}
use Rattle.mux_core.proofs.Says.{held-held, map-same, sent_as}

-- ---- in the rows

-- the row of one
abbrev pub request_row : ℕ → List ℕ → Row
request_row k p = sent_as k p (sends_payload p)

abbrev pub ask_of : ℕ → Global → Ask
ask_of k what = record { client = k; what = what }

places-more : (k : ℕ) (p : List ℕ) (what : Global) (own : List Row) → read_summary p ≡ Ok (Requests what true) → places_of (request_row k p ∷ own) ≡ asked_more (places_of own) (ask_of k what)
places-more k p what own e =
    ap (λ (us : List Ask). let x : Places = record { asked = wanted_requests own ++ us; replied = length (replies own ++ []) } in x) (ap (asks_of k true) (reading-ok p (Requests what true) wanted_in None e))
    ∙ ap (λ (rs : List (List ℕ)). let x : Places = record { asked = wanted_requests own ++ ask_of k what ∷ []; replied = length rs } in x) (append-nil (replies own))

pub all-more : (k : ℕ) (p : List ℕ) (what : Global) (rows : List Row) → read_summary p ≡ Ok (Requests what true) → (look (request_row k p ∷ rows)).all ≡ asked_more (look rows).all (ask_of k what)
all-more k p what rows e = places-more k p what rows e

pub own-more : (k : ℕ) (p : List ℕ) (what : Global) (rows : List Row) → read_summary p ≡ Ok (Requests what true) → (j : ℕ) → (k == j) ≡ true → (look (request_row k p ∷ rows)).own j ≡ asked_more ((look rows).own j) (ask_of k what)
own-more k p what rows e j mine = ap places_of (own_row j (request_row k p) rows mine) ∙ places-more k p what (rows_of j rows) e

pub others-stay : (k : ℕ) (p : List ℕ) (rows : List Row) (j : ℕ) → (k == j) ≡ false → (look (request_row k p ∷ rows)).own j ≡ (look rows).own j
others-stay k p rows j other = ap places_of (idle_row j (request_row k p) rows other)

waits-more : (k : ℕ) (p : List ℕ) (what : Global) (own : List Row) (w : List Bool) → read_summary p ≡ Ok (Requests what true) → Waits (wanted own) (replies own) w → Waits (wanted (request_row k p ∷ own)) (replies (request_row k p ∷ own)) (w ++ true ∷ [])
waits-more k p what own w e h =
    ap (λ fs. waiting_left_of (wanted own ++ fs) (replies own ++ [])) (ap (sent_flags true) (reading-ok p (Requests what true) wanted_in None e))
    ∙ (ap (waiting_left_of (wanted own ++ true ∷ [])) (append-nil (replies own)) ∙ sent-waits (wanted own) (replies own) w h)

-- ---- the clients

-- one client awaits one more answer
abbrev pub awaits : ℕ → MemberState → MemberState
awaits k c = elim (c.number == k) [ true ↦ record c { waiting = c.waiting ++ true ∷ [] } | false ↦ c ]

number-same : (k : ℕ) (c : MemberState) → (awaits k c).number ≡ c.number
number-same k c = elim (c.number == k) as (λ b. (elim b as (λ _. MemberState) [ true ↦ record c { waiting = c.waiting ++ true ∷ [] } | false ↦ c ]).number ≡ c.number) [ true ↦ refl | false ↦ refl ]

pub client-more : (k : ℕ) (p : List ℕ) (what : Global) (rows : List Row) (c : MemberState) → read_summary p ≡ Ok (Requests what true) → ClientFits (look rows) c → ClientFits (look (request_row k p ∷ rows)) (awaits k c)
client-more k p what rows c e fits = by_number (c.number == k) refl (k == c.number) refl
  where
    after-own : (j : ℕ) → (k == j) ≡ true → rows_of j (request_row k p ∷ rows) ≡ request_row k p ∷ rows_of j rows
    after-own j h = own_row j (request_row k p) rows h

    clash : (a b : ℕ) → (a == b) ≡ true → (b == a) ≡ false → ⊥
    clash a b h g = grind (arith, nat_tests)

    by_number : (b : Bool) → (c.number == k) ≡ b → (d : Bool) → (k == c.number) ≡ d → ClientFits (look (request_row k p ∷ rows)) (awaits k c)
    by_number true h true g = subst (ClientFits (look (request_row k p ∷ rows))) (sym (rw (h, awaits) refl)) (record {
      nonzero = fits.nonzero;
      admitted = ap (any_of is_admit) (after-own c.number g) ∙ fits.admitted;
      lost = fits.lost ∙ sym (ap is_lost (after-own c.number g));
      answers = λ here. ap (λ own. waiting_left_of (wanted own) (replies own)) (after-own c.number g) ∙ waits-more k p what (rows_of c.number rows) c.waiting e (fits.answers here);
    })
    by_number false h false g = subst (ClientFits (look (request_row k p ∷ rows))) (sym (rw (h, awaits) refl)) (record {
      nonzero = fits.nonzero;
      admitted = ap (any_of is_admit) (idle_row c.number (request_row k p) rows g) ∙ fits.admitted;
      lost = fits.lost ∙ sym (ap is_lost (idle_row c.number (request_row k p) rows g));
      answers = λ here. ap (λ own. waiting_left_of (wanted own) (replies own)) (idle_row c.number (request_row k p) rows g) ∙ fits.answers here;
    })
    by_number true h false g = absurd (clash c.number k h g)
    by_number false h true g = absurd (clash k c.number g h)

-- ---- the forwardings

-- one that is no forwarding's
abbrev pub is_plain : Global → Bool
is_plain KeepAlive = true
is_plain OtherName = true
is_plain (Forward key) = false
is_plain (Cancel key) = false

plain-has : (place : ℕ) (what : Global) (gs : List Forwarding) → is_plain what ≡ true → HasAt place what gs
plain-has place KeepAlive gs h = tt
plain-has place OtherName gs h = tt
plain-has place (Forward key) gs h = absurd (cc)
plain-has place (Cancel key) gs h = absurd (cc)

get-more : (us : List Ask) (a b : Ask) (i : ℕ) → slice_get us i ≡ Some b → slice_get (us ++ a ∷ []) i ≡ Some b
get-more [] a b i h = absurd (cc)
get-more (u ∷ us) a b zero h = h
get-more (u ∷ us) a b (suc i) h = get-more us a b i h

-- what stands at a place is what stood there, or the new one
pub get-back : (us : List Ask) (a b : Ask) (i : ℕ) → slice_get (us ++ a ∷ []) i ≡ Some b → (slice_get us i ≡ Some b) ⊎ (a ≡ b)
get-back [] a b zero h = inr (cc)
get-back [] a b (suc i) h = absurd (cc)
get-back (u ∷ us) a b zero h = inl h
get-back (u ∷ us) a b (suc i) h = get-back us a b i h

pub awaited-more : (own : Places) (a : Ask) (g : Forwarding) → IsAwaited own g → IsAwaited (asked_more own a) g
awaited-more own a g w = record {
  asked = λ h. ((w.asked h).0, get-more own.asked a _ g.request (w.asked h).1);
  leaving = λ q h. ((w.leaving q h).0, get-more own.asked a _ q (w.leaving q h).1);
  either = w.either;
}

pub forwards-more : (fs : List kept.Forward) (gs : List Forwarding) (own own' : ℕ → Places) (lost : ℕ → Bool) (a : Ask) → is_plain a.what ≡ true → AreFit fs gs own lost → ((j : ℕ) → (a.client == j) ≡ true → own' j ≡ asked_more (own j) a) → ((j : ℕ) → (a.client == j) ≡ false → own' j ≡ own j) → AreFit fs gs own' lost
forwards-more fs gs own own' lost a plain fit mine others = record {
  listed = fit.listed;
  in_order = fit.in_order;
  awaited = each gs fit.awaited;
  two = fit.two;
  few = fit.few;
  ranked = fit.ranked;
  each = λ k here. by_mine k here (a.client == k) refl;
}
  where
    one : (g : Forwarding) → IsAwaited (own g.client) g → (b : Bool) → (a.client == g.client) ≡ b → IsAwaited (own' g.client) g
    one g w true h = subst (λ x. IsAwaited x g) (sym (mine g.client h)) (awaited-more (own g.client) a g w)
    one g w false h = subst (λ x. IsAwaited x g) (sym (others g.client h)) w

    each : (hs : List Forwarding) → AllByRecursion (λ g. IsAwaited (own g.client) g) hs → AllByRecursion (λ g. IsAwaited (own' g.client) g) hs
    each [] all = tt
    each (h ∷ hs) all = (one h all.0 (a.client == h.client) refl, each hs all.1)

    by_mine : (k : ℕ) → lost k ≡ false → (b : Bool) → (a.client == k) ≡ b → EachHas (own' k) (filter (λ g. g.client == k) gs)
    by_mine k here false h = subst (λ x. EachHas x (filter (λ g. g.client == k) gs)) (sym (others k h)) (fit.each k here)
    by_mine k here true h = subst (λ x. EachHas x (filter (λ g. g.client == k) gs)) (sym (mine k h)) (λ place b le got. by_place place b le (get-back (own k).asked a b place got))
      where
        by_place : (place : ℕ) (b : Ask) → (own k).replied ≤ place → (slice_get (own k).asked place ≡ Some b) ⊎ (a ≡ b) → HasAt place b.what (filter (λ g. g.client == k) gs)
        by_place place b le (inl old) = fit.each k here place b le old
        by_place place b le (inr same) = plain-has place b.what (filter (λ g. g.client == k) gs) (ap (λ (u : Ask). is_plain u.what) (sym same) ∙ plain)

-- ---- the whole core

request-lost : (k : ℕ) (p : List ℕ) (own : List Row) → is_lost (request_row k p ∷ own) ≡ is_lost own
request-lost k p own = refl

-- a request that changes no forwarding
same-forwardings : (k : ℕ) (p : List ℕ) (what : Global) (rows : List Row) → read_summary p ≡ Ok (Requests what true) → ((place : ℕ) (fs : List Forwarding) → forwardings_after_request k place (Requests what true) fs ≡ fs) → current (request_row k p ∷ rows) ≡ current rows
same-forwardings k p what rows e none = ap (filter (λ (f : Forwarding). not f.over)) (reading-ok p (Requests what true) (λ m. forwardings_after_request k (length (wanted_requests (rows_of k rows))) m (forwardings_of rows)) (forwardings_of rows) e ∙ none (length (wanted_requests (rows_of k rows))) (forwardings_of rows))

no-change : (k : ℕ) (p : List ℕ) (what : Global) (want : Bool) (x : Channel) → read_summary p ≡ Ok (Requests what want) → after_item (request_row k p) x ≡ x
no-change k p what want x e =
    ap (λ (y : Channel). elim (x.client == k) as (λ _. Channel) [ true ↦ y | false ↦ x ]) (reading-ok p (Requests what want) (λ m. with_up (reading p summary_sender_of None) m x) x e)
    ∙ (elim (x.client == k) as (λ b. (elim b as (λ _. Channel) [ true ↦ x | false ↦ x ]) ≡ x) [ true ↦ refl | false ↦ refl ])

pub same-channels : (k : ℕ) (p : List ℕ) (what : Global) (want : Bool) (rows : List Row) → read_summary p ≡ Ok (Requests what want) → held_of (request_row k p ∷ rows) ≡ held_of rows
same-channels k p what want rows e =
    held-bare (Says k (Payload p) None) k (sends_payload p) rows
    ∙ (ap (filter is_channel_held) (ap (λ ys. map (after_item (request_row k p)) (held_of rows) ++ ys) (reading-ok p (Requests what want) (opened_up k (p ∷ [])) [] e) ∙ (append-nil (map (after_item (request_row k p)) (held_of rows)) ∙ map-same (after_item (request_row k p)) (λ x. no-change k p what want x e) (held_of rows)))
    ∙ held-held rows)

numbers-same : (k : ℕ) (cs : List MemberState) → map (λ (c : MemberState). c.number) (map (awaits k) cs) ≡ map (λ (c : MemberState). c.number) cs
numbers-same k [] = refl
numbers-same k (c ∷ cs) = ap (λ n. n ∷ map (λ (c : MemberState). c.number) (map (awaits k) cs)) (number-same k c) ∙ ap (λ ns. c.number ∷ ns) (numbers-same k cs)

lost-same : (k : ℕ) (c : MemberState) → (awaits k c).lost ≡ c.lost
lost-same k c = elim (c.number == k) as (λ b. (elim b as (λ _. MemberState) [ true ↦ record c { waiting = c.waiting ++ true ∷ [] } | false ↦ c ]).lost ≡ c.lost) [ true ↦ refl | false ↦ refl ]

known-same : (k j : ℕ) (cs : List MemberState) → is_member_known (map (awaits k) cs) j ≡ is_member_known cs j
known-same k j [] = refl
known-same k j (c ∷ cs) = ap (λ n. (n == j) || is_member_known (map (awaits k) cs) j) (number-same k c) ∙ ap (λ b. (c.number == j) || b) (known-same k j cs)

served-same : (k j : ℕ) (cs : List MemberState) → is_member_served (map (awaits k) cs) j ≡ is_member_served cs j
served-same k j [] = refl
served-same k j (c ∷ cs) = ap (λ n. ((n == j) && not (awaits k c).lost) || is_member_served (map (awaits k) cs) j) (number-same k c) ∙ (ap (λ b. ((c.number == j) && not b) || is_member_served (map (awaits k) cs) j) (lost-same k c) ∙ ap (λ b. ((c.number == j) && not c.lost) || b) (served-same k j cs))

once-same : (k : ℕ) (cs : List MemberState) → AreOnce cs → AreOnce (map (awaits k) cs)
once-same k [] once = tt
once-same k (c ∷ cs) once = (each cs once.0, once-same k cs once.1)
  where
    each : (ds : List MemberState) → AllByRecursion (λ d. (c.number == d.number) ≡ false) ds → AllByRecursion (λ d. ((awaits k c).number == d.number) ≡ false) (map (awaits k) ds)
    each [] all = tt
    each (d ∷ ds) all = (ap (λ n. n == (awaits k d).number) (number-same k c) ∙ (ap (λ n. c.number == n) (number-same k d) ∙ all.0), each ds all.1)

length-same : (k : ℕ) (cs : List MemberState) → length (map (awaits k) cs) ≡ length cs
length-same k [] = refl
length-same k (c ∷ cs) = ap suc (length-same k cs)

clients-more : (k : ℕ) (p : List ℕ) (what : Global) (rows : List Row) (cs : List MemberState) → read_summary p ≡ Ok (Requests what true) → AllByRecursion (ClientFits (look rows)) cs → AllByRecursion (ClientFits (look (request_row k p ∷ rows))) (map (awaits k) cs)
clients-more k p what rows [] e all = tt
clients-more k p what rows (c ∷ cs) e all = (client-more k p what rows c e all.0, clients-more k p what rows cs e all.1)

-- the matters of the client stay open
pub matters-more : (k : ℕ) (p : List ℕ) (rows : List Row) → IsServed k (look rows) → (j : ℕ) → has_matters (request_row k p ∷ rows) j ≡ has_matters rows j
matters-more k p rows s j = by_case (k == j) refl
  where
    by_case : (b : Bool) → (k == j) ≡ b → has_matters (request_row k p ∷ rows) j ≡ has_matters rows j
    by_case false e = ap has_open_matters (idle_row j (request_row k p) rows e)
    by_case true e =
        let same : k ≡ j = same-number k j e in
        let admitted : any_of is_admit (rows_of j rows) ≡ true = subst (λ i. (look rows).admitted i ≡ true) same s.admitted in
        let here : is_lost (rows_of j rows) ≡ false = subst (λ i. (look rows).lost i ≡ false) same s.here in
        ap has_open_matters (own_row j (request_row k p) rows e) ∙ (open-by (request_row k p ∷ rows_of j rows) admitted here ∙ sym (open-by (rows_of j rows) admitted here))

pub all-known : {X : Type 0} (client : X → ℕ) (cs cs' : List MemberState) → ((j : ℕ) → is_member_known cs' j ≡ is_member_known cs j) → (xs : List X) → AllByRecursion (λ x. is_member_known cs (client x) ≡ true) xs → AllByRecursion (λ x. is_member_known cs' (client x) ≡ true) xs
all-known client cs cs' same [] all = tt
all-known client cs cs' same (x ∷ xs) all = (same (client x) ∙ all.0, all-known client cs cs' same xs all.1)

pub all-served : (cs cs' : List MemberState) → ((j : ℕ) → is_member_served cs' j ≡ is_member_served cs j) → (fs : List kept.Forward) → AllByRecursion (λ f. is_member_served cs f.client ≡ true) fs → AllByRecursion (λ f. is_member_served cs' f.client ≡ true) fs
all-served cs cs' same [] all = tt
all-served cs cs' same (f ∷ fs) all = (same f.client ∙ all.0, all-served cs cs' same fs all.1)

pub all-last : {X : Type 0} (P : X → Type 0) (x : X) → P x → (xs : List X) → AllByRecursion P xs → AllByRecursion P (xs ++ x ∷ [])
all-last P x one [] all = (one, tt)
all-last P x one (y ∷ ys) all = (all.0, all-last P x one ys all.1)

-- whatever forwardings are kept then
pub wanted-stands : (s : CoreState) (k : ℕ) (p : List ℕ) (what : Global) (rows : List Row) (fs : List kept.Forward) → CoreRepresents s rows → is_member_served s.clients k ≡ true → read_summary p ≡ Ok (Requests what true) → AreFit fs (current (request_row k p ∷ rows)) (look (request_row k p ∷ rows)).own (look rows).lost → AllByRecursion (λ f. is_member_served s.clients f.client ≡ true) fs → CoreRepresents (record s { asks = s.asks ++ ask_of k what ∷ []; clients = map (awaits k) s.clients; forwards = fs }) (request_row k p ∷ rows)
wanted-stands s k p what rows fs st serves e fit theirs =
    let is : IsServed k (look rows) = served (look rows) k s.clients st.clients.each serves in
    let lost : (look (request_row k p ∷ rows)).lost ≡ (look rows).lost = λ i j. own-same is_lost (request_row k p) rows (request-lost k p) j i in
    let matters : has_matters rows ≡ has_matters (request_row k p ∷ rows) = λ i j. sym (matters-more k p rows is j) i in
    record {
      channels = subst (TableFits s.channels) (sym (same-channels k p what true rows e)) st.channels;
      asks = asks-sent s.asks (ask_of k what) (look rows) (look (request_row k p ∷ rows)) st.asks (all-more k p what rows e) (own-more k p what rows e) (others-stay k p rows);
      forwards = subst (AreFit fs (current (request_row k p ∷ rows)) (look (request_row k p ∷ rows)).own) (sym lost) fit;
      clients = record {
        numbers = numbers-same k s.clients ∙ (st.clients.numbers ∙ (ap (λ m. filter m (admitted_clients rows)) matters ∙ ap (filter (has_matters (request_row k p ∷ rows))) (sym (append-nil (admitted_clients rows)))));
        each = clients-more k p what rows s.clients e st.clients.each;
        once = once-same k s.clients st.clients.once;
        few = subst (λ n. n ≤ MAX_CLIENTS) (sym (length-same k s.clients)) st.clients.few;
      };
      known = record {
        channels = all-known (λ (f : TableEntry). f.channel.client) s.clients (map (awaits k) s.clients) (λ j. known-same k j s.clients) s.channels st.known.channels;
        asks = all-last (λ (a : Ask). is_member_known (map (awaits k) s.clients) a.client ≡ true) (ask_of k what) (known-same k k s.clients ∙ served-known k s.clients serves) s.asks (all-known (λ (a : Ask). a.client) s.clients (map (awaits k) s.clients) (λ j. known-same k j s.clients) s.asks st.known.asks);
        forwards = all-served s.clients (map (awaits k) s.clients) (λ j. served-same k j s.clients) fs theirs;
      };
    }

pub request-stands : (s : CoreState) (k : ℕ) (p : List ℕ) (what : Global) (rows : List Row) → CoreRepresents s rows → is_member_served s.clients k ≡ true → read_summary p ≡ Ok (Requests what true) → is_plain what ≡ true → ((place : ℕ) (fs : List Forwarding) → forwardings_after_request k place (Requests what true) fs ≡ fs) → CoreRepresents (record s { asks = s.asks ++ ask_of k what ∷ []; clients = map (awaits k) s.clients }) (request_row k p ∷ rows)
request-stands s k p what rows st serves e plain none =
    wanted-stands s k p what rows s.forwards st serves e
    (subst (λ gs. AreFit s.forwards gs (look (request_row k p ∷ rows)).own (look rows).lost) (sym (same-forwardings k p what rows e none)) (forwards-more s.forwards (current rows) (look rows).own (look (request_row k p ∷ rows)).own (look rows).lost (ask_of k what) plain st.forwards (own-more k p what rows e) (others-stay k p rows)))
    st.known.forwards
