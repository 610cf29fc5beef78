-- The addresses of forwardings and of requests for them have at most 255 bytes.
use Rattle.std.proofs.Common.{◌≡◌, ℕ, ◌≤◌, List, [], ◌∷◌, ◌++◌, map, length, true, false, Bool, refl, ◌∙◌, ap, arith, sym, subst, Option, Some, None, Ok, Err}
use Rattle.std.specs.Prelude.{◌==◌, ◌&&◌, ◌||◌, not, filter, is_none, nat_le, nat_lt, Result}
use Rattle.std.proofs.lemmas.Bool.Decides.{nat_tests}
use Rattle.mux_outside.specs.declared.house.HouseReply.{HouseReply}
use Rattle.ssh_grammar.specs.Messages.{Cancel, Forward, Global, KeepAlive, Key, OtherName, Path, Tcp}
use Rattle.ssh_grammar.specs.Said.{BadFraming, Body, Payload}
use Rattle.ssh_grammar.specs.declared.fault.Bad.{Bad}
use Rattle.mux_history.specs.Channels.{is_number}
use Rattle.mux_history.specs.Forwardings.{Forwarding, change_first, current, dropped, forwarded, forwardings_of, is_forwarding_free_at, is_request, of_client, forwarding_after_reply, forwardings_after_request, stopped}
use Rattle.mux_history.specs.Summary.{Summary, Refuses, Requests, Succeeds, read_summary, reading}
use Rattle.mux_history.specs.Kept.{ForEach}
use Rattle.mux_history.specs.Keys.{bound, has_key, is_askable}
use Rattle.mux_history.specs.Policy.{Policy, permits}
use Rattle.mux_history.specs.Requests.{Ask, wanted_requests, asks_of, is_sent, replies, wanted_by, wanted_in}
use Rattle.mux_history.specs.Rows.{Heard, Item, Row, Says, any_of, loses, rows_of}
use Rattle.mux_history.specs.Said.{sent_request, sends_if}
use Rattle.mux_history.proofs.Finds.{filter-no, filter-yes}
use Rattle.mux_history.proofs.ForwardsLocal.{for_of, forwardings-local}
use Rattle.mux_history.proofs.RightLogs.{RowKnown}
use Rattle.mux_history.proofs.SameKeys.{key-is}
use Rattle.mux_history.proofs.Sends.{and-left, and-right}
use Rattle.mux_bounds.proofs.SentRequests.{flag, row-said}
use Rattle.mux_bounds.proofs.Weights.{EachOf, IsBriefKey, IsBriefLive, IsShort, bound-brief}

-- ---- of lists

each-filter : (test : Forwarding → Bool) (fs : List Forwarding) → EachOf IsShort fs → EachOf IsShort (filter test fs)
each-filter test [] all = tt
each-filter test (f ∷ fs) all = by_case (each-filter test fs all.1) (test f) refl
  where
    by_case : EachOf IsShort (filter test fs) → (b : Bool) → test f ≡ b → EachOf IsShort (filter test (f ∷ fs))
    by_case ih true e = subst (EachOf IsShort) (sym (filter-yes test f fs e)) (all.0, ih)
    by_case ih false e = subst (EachOf IsShort) (sym (filter-no test f fs e)) ih

each-append : (fs gs : List Forwarding) → EachOf IsShort fs → EachOf IsShort gs → EachOf IsShort (fs ++ gs)
each-append [] gs a b = b
each-append (f ∷ fs) gs a b = (a.0, each-append fs gs a.1 b)

-- a change that keeps keys short
abbrev Stays : (Forwarding → Forwarding) → Type 0
Stays g = (f : Forwarding) → IsShort f → IsShort (g f)

each-map : (g : Forwarding → Forwarding) → Stays g → (fs : List Forwarding) → EachOf IsShort fs → EachOf IsShort (map g fs)
each-map g stays [] all = tt
each-map g stays (f ∷ fs) all = (stays f all.0, each-map g stays fs all.1)

each-first : (test : Forwarding → Bool) (g : Forwarding → Forwarding) → Stays g → (fs : List Forwarding) → EachOf IsShort fs → EachOf IsShort (change_first test g fs)
each-first test g stays [] all = tt
each-first test g stays (f ∷ fs) all = by_case (test f) (each-first test g stays fs all.1)
  where
    by_case : (b : Bool) → EachOf IsShort (change_first test g fs) → EachOf IsShort (elim b as (λ _. List Forwarding) [ true ↦ g f ∷ fs | false ↦ f ∷ change_first test g fs ])
    by_case true ih = (stays f all.0, all.1)
    by_case false ih = (all.0, ih)

replied-stays : (n : ℕ) (m : Summary) → Stays (forwarding_after_reply n m)
replied-stays n (Succeeds rest) f short = by_case (is_request f n) (is_number f.cancel n)
  where
    by_case : (a b : Bool) → IsShort (elim a as (λ _. Forwarding) [ true ↦ record f { live = Some (bound f.key rest) } | false ↦ elim b as (λ _. Forwarding) [ true ↦ record f { over = true } | false ↦ f ] ])
    by_case true b = (short.0, bound-brief f.key rest short.0)
    by_case false true = short
    by_case false false = short
replied-stays n Refuses f short = by_case (is_request f n) (is_number f.cancel n)
  where
    by_case : (a b : Bool) → IsShort (elim a as (λ _. Forwarding) [ true ↦ record f { over = true } | false ↦ elim b as (λ _. Forwarding) [ true ↦ record f { cancel = None } | false ↦ f ] ])
    by_case true b = short
    by_case false true = short
    by_case false false = short
replied-stays n m f short = short

stopped-stays : (wants : Bool) (n : ℕ) → Stays (stopped wants n)
stopped-stays true n f short = short
stopped-stays false n f short = short

client-stays : (k : ℕ) (g : Forwarding → Forwarding) → Stays g → Stays (of_client k g)
client-stays k g stays f short = elim (f.client == k) as (λ b. IsShort (elim b as (λ _. Forwarding) [ true ↦ g f | false ↦ f ])) [ true ↦ stays f short | false ↦ short ]

-- ---- a request that is sent

abbrev pub AskShort : Global → Type 0
AskShort (Forward key) = IsBriefKey key
AskShort (Cancel key) = IsBriefKey key
AskShort what = Unit {0}

le-of : (a b : ℕ) → nat_le a b ≡ true → a ≤ b
le-of a b e = grind (arith, nat_tests)

pub askable-brief : (key : Key) → is_askable key ≡ true → IsBriefKey key
askable-brief (Tcp address port) e = le-of (length address) 255 e
askable-brief (Path path) e = le-of (length path) 255 (and-right (nat_lt 0 (length path)) (nat_le (length path) 255) e)

live-brief : (live : Option Key) (key : Key) → has_key live key ≡ true → IsBriefLive live → IsBriefKey key
live-brief None key e short = cc
live-brief (Some k) key e short = subst IsBriefKey (key-is k key e) short

-- one that is free has the key
free-short : (k : ℕ) (key : Key) (fs : List Forwarding) → EachOf IsShort fs → any_of (is_forwarding_free_at k key) fs ≡ true → IsBriefKey key
free-short k key [] all some = cc
free-short k key (f ∷ fs) all some = by_case (λ h. free-short k key fs all.1 h) (is_forwarding_free_at k key f) refl some
  where
    by_case : (any_of (is_forwarding_free_at k key) fs ≡ true → IsBriefKey key) → (b : Bool) → is_forwarding_free_at k key f ≡ b → (b || any_of (is_forwarding_free_at k key) fs) ≡ true → IsBriefKey key
    by_case ih true e some =
        let mine = and-right (f.client == k) (not f.over && (is_none f.cancel && has_key f.live key)) e in
        let on = and-right (not f.over) (is_none f.cancel && has_key f.live key) mine in
        live-brief f.live key (and-right (is_none f.cancel) (has_key f.live key) on) all.0.1
    by_case ih false e some = ih some

request-short : (policy : Policy) (k : ℕ) (own : List Row) (p : List ℕ) (what : Global) (wants : Bool) → EachOf IsShort (current own) → flag (sent_request policy k own p what wants).sent ≡ true → AskShort what
request-short policy k own p (Forward key) wants all sent = by_case (wants && (is_askable key && (permits policy.listens key && nat_lt (length (current own)) 64))) refl sent
  where
    by_case : (b : Bool) → (wants && (is_askable key && (permits policy.listens key && nat_lt (length (current own)) 64))) ≡ b → flag (sends_if b p).sent ≡ true → IsBriefKey key
    by_case true e sent = askable-brief key (and-left (is_askable key) (permits policy.listens key && nat_lt (length (current own)) 64) (and-right wants _ e))
    by_case false e sent = cc
request-short policy k own p (Cancel key) wants all sent = by_case (any_of (is_forwarding_free_at k key) (current own)) refl sent
  where
    by_case : (b : Bool) → any_of (is_forwarding_free_at k key) (current own) ≡ b → flag (sends_if b p).sent ≡ true → IsBriefKey key
    by_case true e sent = free-short k key (current own) all e
    by_case false e sent = cc
request-short policy k own p KeepAlive wants all sent = tt
request-short policy k own p OtherName wants all sent = tt

-- ---- all forwardings

abbrev Asked : Row → Type 0
Asked row = (k : ℕ) (p : List ℕ) (given : Option HouseReply) (what : Global) (wants : Bool) → row.item ≡ Says k (Payload p) given → read_summary p ≡ Ok (Requests what wants) → is_sent row ≡ true → AskShort what

requested-short : (k n : ℕ) (m : Summary) (fs : List Forwarding) → ((what : Global) (wants : Bool) → m ≡ Requests what wants → AskShort what) → EachOf IsShort fs → EachOf IsShort (forwardings_after_request k n m fs)
requested-short k n (Requests (Forward key) wants) fs new all = each-append fs _ all ((new (Forward key) wants refl, tt), tt)
requested-short k n (Requests (Cancel key) wants) fs new all = each-first (is_forwarding_free_at k key) (stopped wants n) (stopped-stays wants n) fs all
requested-short k n (Requests KeepAlive wants) fs new all = all
requested-short k n (Requests OtherName wants) fs new all = all
requested-short k n m fs new all = all

pub forwarded-short : (row : Row) (own : List Row) (fs : List Forwarding) → Asked row → EachOf IsShort fs → EachOf IsShort (forwarded row own fs)
forwarded-short row own fs new all = by_item row.item refl
  where
    by_reading : (p : List ℕ) (r : Result Summary Bad) → read_summary p ≡ r → (g : Summary → List Forwarding) → ((m : Summary) → read_summary p ≡ Ok m → EachOf IsShort (g m)) → EachOf IsShort (elim r as (λ _. List Forwarding) [ Err e ↦ fs | Ok m ↦ g m ])
    by_reading p (Err bad) reads g each = all
    by_reading p (Ok m) reads g each = each m reads

    by_sent : (j : ℕ) (p : List ℕ) (given : Option HouseReply) → row.item ≡ Says j (Payload p) given → (b : Bool) → is_sent row ≡ b → EachOf IsShort (elim b as (λ _. List Forwarding) [ true ↦ reading p (λ m. forwardings_after_request row.client (length (wanted_requests own)) m fs) fs | false ↦ fs ])
    by_sent j p given item true sent = by_reading p (read_summary p) refl (λ m. forwardings_after_request row.client (length (wanted_requests own)) m fs) (λ m reads. requested-short row.client (length (wanted_requests own)) m fs (λ what wants e. new j p given what wants item (reads ∙ ap Ok e) sent) all)
    by_sent j p given item false sent = all

    by_item : (i : Item) → row.item ≡ i → EachOf IsShort (forwarded (record row { item = i }) own fs)
    by_item (Says j (Payload p) given) item = by_sent j p given item (is_sent row) refl
    by_item (Heard p) item = by_reading p (read_summary p) refl (λ m. map (of_client row.client (forwarding_after_reply (length (replies own)) m)) fs) (λ m reads. each-map (of_client row.client (forwarding_after_reply (length (replies own)) m)) (client-stays row.client (forwarding_after_reply (length (replies own)) m) (replied-stays (length (replies own)) m)) fs all)
    by_item i item = all

dropped-short : (row : Row) (fs : List Forwarding) → EachOf IsShort fs → EachOf IsShort (dropped row fs)
dropped-short row fs all = by_case (loses row)
  where
    by_case : (b : Bool) → EachOf IsShort (elim b as (λ _. List Forwarding) [ true ↦ map (of_client row.client (λ f. record f { over = true })) fs | false ↦ fs ])
    by_case true = each-map (of_client row.client (λ f. record f { over = true })) (client-stays row.client (λ f. record f { over = true }) (λ f short. short)) fs all
    by_case false = all

own-short : (k : ℕ) (rows : List Row) → EachOf IsShort (forwardings_of rows) → EachOf IsShort (forwardings_of (rows_of k rows))
own-short k rows all = subst (EachOf IsShort) (forwardings-local k rows) (each-filter (for_of k) (forwardings_of rows) all)

pub asked-short : (policy : Policy) (pid : ℕ) (before : List Row) (row : Row) → RowKnown policy pid before row → EachOf IsShort (forwardings_of before) → Asked row
asked-short policy pid before row known all k p given what wants item reads sent = request-short policy k (rows_of k before) p what wants (each-filter (λ f. not f.over) (forwardings_of (rows_of k before)) (own-short k before all)) (row-said policy pid before row known k p given what wants item reads sent).1

pub forwardings-short : (policy : Policy) (pid : ℕ) (rows : List Row) → ForEach (RowKnown policy pid) rows → EachOf IsShort (forwardings_of rows)
forwardings-short policy pid [] each = tt
forwardings-short policy pid (row ∷ before) each =
    let all : EachOf IsShort (forwardings_of before) = forwardings-short policy pid before each.1 in
    dropped-short row (forwarded row (rows_of row.client before) (forwardings_of before))
    (forwarded-short row (rows_of row.client before) (forwardings_of before) (asked-short policy pid before row each.0 all) all)

pub part-short : (test : Forwarding → Bool) (fs : List Forwarding) → EachOf IsShort fs → EachOf IsShort (filter test fs)
part-short test fs all = each-filter test fs all

pub owned-short : (k : ℕ) (rows : List Row) → EachOf IsShort (forwardings_of rows) → EachOf IsShort (forwardings_of (rows_of k rows))
owned-short k rows all = own-short k rows all

-- ---- all requests

abbrev pub EachAsk : (Ask → Type 0) → List Ask → Type 0
EachAsk P [] = Unit {0}
EachAsk P (a ∷ asked) = P a × EachAsk P asked

pub each-asks : (P : Ask → Type 0) (xs ys : List Ask) → EachAsk P xs → EachAsk P ys → EachAsk P (xs ++ ys)
each-asks P [] ys a b = b
each-asks P (x ∷ xs) ys a b = (a.0, each-asks P xs ys a.1 b)

abbrev pub IsBrief : Ask → Type 0
IsBrief a = AskShort a.what

wants-true : (m : Summary) (what : Global) → wanted_in m ≡ Some what → m ≡ Requests what true
wants-true (Requests other true) what e = let same : other ≡ what = cc in ap (λ g. Requests g true) same
wants-true (Requests other false) what e = cc
wants-true m what e = cc

-- what is asked for is sent in a payload
pub record Wanted (row : Row) (what : Global) : Type 0 where
  pub k : ℕ
  pub payload : List ℕ
  pub given : Option HouseReply
  pub item : row.item ≡ Says k (Payload payload) given
  pub reads : read_summary payload ≡ Ok (Requests what true)

pub wanted-is : (row : Row) (what : Global) → wanted_by row ≡ Some what → Wanted row what
wanted-is row what e = by_item row.item refl e
  where
    by_reading : (j : ℕ) (p : List ℕ) (given : Option HouseReply) → row.item ≡ Says j (Payload p) given → (r : Result Summary Bad) → read_summary p ≡ r → (elim r as (λ _. Option Global) [ Err e ↦ None | Ok m ↦ wanted_in m ]) ≡ Some what → Wanted row what
    by_reading j p given item (Err bad) reads e = cc
    by_reading j p given item (Ok m) reads e = record { k = j; payload = p; given = given; item = item; reads = reads ∙ ap Ok (wants-true m what e) }

    by_item : (i : Item) → row.item ≡ i → wanted_by (record row { item = i }) ≡ Some what → Wanted row what
    by_item (Says j (Payload p) given) item e = by_reading j p given item (read_summary p) refl e
    by_item (Says j (Body body) given) item e = cc
    by_item (Says j (BadFraming fault) given) item e = cc
    by_item i item e = cc

new-brief : (row : Row) → Asked row → EachAsk IsBrief (asks_of row.client (is_sent row) (wanted_by row))
new-brief row new = by_case (is_sent row) refl (wanted_by row) refl
  where
    by_case : (b : Bool) → is_sent row ≡ b → (o : Option Global) → wanted_by row ≡ o → EachAsk IsBrief (asks_of row.client b o)
    by_case true sent (Some what) e = let w = wanted-is row what e in (new w.k w.payload w.given what true w.item w.reads sent, tt)
    by_case true sent None e = tt
    by_case false sent o e = tt

pub asks-brief : (policy : Policy) (pid : ℕ) (rows : List Row) → ForEach (RowKnown policy pid) rows → EachAsk IsBrief (wanted_requests rows)
asks-brief policy pid [] each = tt
asks-brief policy pid (row ∷ before) each = each-asks IsBrief (wanted_requests before) (asks_of row.client (is_sent row) (wanted_by row)) (asks-brief policy pid before each.1) (new-brief row (asked-short policy pid before row each.0 (forwardings-short policy pid before each.1)))
