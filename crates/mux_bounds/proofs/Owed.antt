-- At most 64 requests of a client for forwardings have no reply.
use Rattle.std.proofs.Common.{◌≡◌, ℕ, ◌+◌, ◌≤◌, List, [], ◌∷◌, ◌++◌, map, drop, length, true, false, Bool, refl, ◌∙◌, ap, arith, sym, subst, Option, Some, None, Ok, Err}
use Rattle.std.specs.Prelude.{◌==◌, ◌&&◌, ◌||◌, filter, nat_lt, Result}
use Rattle.std.proofs.lemmas.Bool.Decides.{nat_tests}
use Rattle.std.proofs.lemmas.List.{append-nil}
use Rattle.mux_outside.specs.declared.house.HouseReply.{HouseReply}
use Rattle.ssh_grammar.specs.Messages.{Cancel, Forward, Global, KeepAlive, Key, OtherName}
use Rattle.ssh_grammar.specs.Said.{BadFraming, Body, Payload}
use Rattle.ssh_grammar.specs.declared.fault.Bad.{Bad}
use Rattle.mux_history.specs.Forwardings.{Forwarding, change_first, current, forwarded, forwardings_of, is_forwarding_free_at, of_client, forwarding_after_reply, forwardings_after_request, stopped}
use Rattle.mux_history.specs.Summary.{Summary, Refuses, Requests, Succeeds, read_summary}
use Rattle.mux_history.specs.Keys.{is_askable}
use Rattle.mux_history.specs.Policy.{Policy, permits}
use Rattle.mux_history.specs.Requests.{Ask, wanted_requests, asks_of, is_reply, is_sent, replies, reply_in, wanted_by, wanted_in}
use Rattle.mux_history.specs.Rows.{Heard, Item, Row, Says, any_of}
use Rattle.mux_history.specs.Said.{sent_request, sends_if}
use Rattle.mux_history.proofs.Finds.{filter-no, filter-yes}
use Rattle.mux_history.proofs.Sends.{and-left}
use Rattle.mux_bounds.proofs.Counts.{is_on}
use Rattle.mux_bounds.proofs.CoverSteps.{client-sound, client-waits, cover-append, cover-from, covered-append, covered-first, covered-hit, covered-last, covered-map, free-is, free-waits-not, replied-other, replied-sound, sound-append, sound-first, sound-map, stopped-sound, stopped-waits}
use Rattle.mux_bounds.proofs.Covers.{CoverFrom, Sound, covered, covers, is_forward}
use Rattle.mux_bounds.proofs.SentRequests.{flag}
use Rattle.mux_bounds.proofs.Weights.{EachOf}
use Rattle.mux_history.proofs.Bools.{self}

-- ---- what a request that is sent records

sends-yes : (b : Bool) (p : List ℕ) → flag (sends_if b p).sent ≡ true → b ≡ true
sends-yes true p e = refl
sends-yes false p e = cc

pub forward-wants : (policy : Policy) (k : ℕ) (own : List Row) (p : List ℕ) (key : Key) (wants : Bool) → flag (sent_request policy k own p (Forward key) wants).sent ≡ true → wants ≡ true
forward-wants policy k own p key wants sent =
    and-left wants (is_askable key && (permits policy.listens key && nat_lt (length (current own)) 64))
    (sends-yes (wants && (is_askable key && (permits policy.listens key && nat_lt (length (current own)) 64))) p sent)

pub cancel-free : (policy : Policy) (k : ℕ) (own : List Row) (p : List ℕ) (key : Key) (wants : Bool) → flag (sent_request policy k own p (Cancel key) wants).sent ≡ true → any_of (is_forwarding_free_at k key) (forwardings_of own) ≡ true
cancel-free policy k own p key wants sent = part (forwardings_of own) (sends-yes (any_of (is_forwarding_free_at k key) (current own)) p sent)
  where
    part : (fs : List Forwarding) → any_of (is_forwarding_free_at k key) (filter is_on fs) ≡ true → any_of (is_forwarding_free_at k key) fs ≡ true
    part [] e = cc
    part (f ∷ fs) e = by_case (λ h. part fs h) (is_on f) refl
      where
        by_case : (any_of (is_forwarding_free_at k key) (filter is_on fs) ≡ true → any_of (is_forwarding_free_at k key) fs ≡ true) → (b : Bool) → is_on f ≡ b → any_of (is_forwarding_free_at k key) (f ∷ fs) ≡ true
        by_case ih true on = by_head (is_forwarding_free_at k key f) refl (sym (ap (any_of (is_forwarding_free_at k key)) (filter-yes is_on f fs on)) ∙ e) ih
          where
            by_head : (b : Bool) → is_forwarding_free_at k key f ≡ b → (b || any_of (is_forwarding_free_at k key) (filter is_on fs)) ≡ true → (any_of (is_forwarding_free_at k key) (filter is_on fs) ≡ true → any_of (is_forwarding_free_at k key) fs ≡ true) → (b || any_of (is_forwarding_free_at k key) fs) ≡ true
            by_head true he some ih = refl
            by_head false he some ih = ih some
        by_case ih false on = or-yes (is_forwarding_free_at k key f) (any_of (is_forwarding_free_at k key) fs) (ih (sym (ap (any_of (is_forwarding_free_at k key)) (filter-no is_on f fs on)) ∙ e))
          where
            or-yes : (a b : Bool) → b ≡ true → (a || b) ≡ true
            or-yes true b e = refl
            or-yes false b e = e

-- ---- one more row of a client

pub asks-none : (k : ℕ) (sent : Bool) → asks_of k sent None ≡ []
asks-none k true = refl
asks-none k false = refl

-- what holds of the forwardings, as they are for these requests from this place on
pub record Held (place : ℕ) (us : List Ask) (fs : List Forwarding) : Type 0 where
  pub cover : CoverFrom place us fs
  pub sound : EachOf Sound fs

held-still : (place : ℕ) (us new : List Ask) (fs : List Forwarding) → new ≡ [] → Held place us fs → Held (place + 0) (us ++ new) fs
held-still place us new fs none held =
    let at : place ≡ place + 0 = omega arith in
    subst (λ (n : ℕ). Held n (us ++ new) fs) at (subst (λ (xs : List Ask). Held place xs fs) (sym (ap (λ xs. us ++ xs) none ∙ append-nil us)) held)

-- with a new request at the end
held-more : (place last k : ℕ) (us : List Ask) (what : Global) (fs gs : List Forwarding) → place + length us ≡ last → ((j : ℕ) → covered j fs ≡ true → covered j gs ≡ true) → (is_forward what ≡ true → covered last gs ≡ true) → EachOf Sound gs → Held place us fs → Held (place + 0) (us ++ asks_of k true (Some what)) gs
held-more place last k us what fs gs here stays new sound held =
    let at : place ≡ place + 0 = omega arith in
    subst (λ (n : ℕ). Held n (us ++ asks_of k true (Some what)) gs) at (record {
      cover = cover-append place us (asks_of k true (Some what)) gs (cover-from place us fs gs (λ j le. stays j) held.cover) (subst (λ (n : ℕ). CoverFrom n (asks_of k true (Some what)) gs) (sym here) (new, tt));
      sound = sound;
    })

-- with the forwardings changed
held-changed : (place : ℕ) (us : List Ask) (fs gs : List Forwarding) → ((j : ℕ) → covered j fs ≡ true → covered j gs ≡ true) → EachOf Sound gs → Held place us fs → Held (place + 0) (us ++ []) gs
held-changed place us fs gs stays sound held = held-still place us [] gs refl (record { cover = cover-from place us fs gs (λ j le. stays j) held.cover; sound = sound })

-- what is asked, where it is sent
asked-held : (place last k : ℕ) (us : List Ask) (fs : List Forwarding) (what : Global) (wants : Bool) → place + length us ≡ last → ((key : Key) → what ≡ Forward key → wants ≡ true) → ((key : Key) → what ≡ Cancel key → any_of (is_forwarding_free_at k key) fs ≡ true) → Held place us fs → Held (place + 0) (us ++ asks_of k true (wanted_in (Requests what wants))) (forwardings_after_request k last (Requests what wants) fs)
asked-held place last k us fs (Forward key) true here wanted free held = held-more place last k us (Forward key) fs (fs ++ new ∷ []) here (λ j. covered-append j fs (new ∷ [])) (λ is. covered-last last fs (new ∷ []) (ap (λ b. ((b && true) || false) || false) (self last))) (sound-append fs (new ∷ []) held.sound ((λ none. refl), tt)) held
  where
    new : Forwarding
    new = record { client = k; key = key; request = last; live = None; cancel = None; over = false }
asked-held place last k us fs (Forward key) false here wanted free held = let bad : false ≡ true = wanted key refl in absurd (let h = bad in cc)
asked-held place last k us fs (Cancel key) true here wanted free held =
    held-more place last k us (Cancel key) fs (change_first (is_forwarding_free_at k key) (stopped true last) fs) here
    (λ j. covered-first j (is_forwarding_free_at k key) (stopped true last) fs (λ f e. free-waits-not f j (free-is k key f e)))
    (λ is. covered-hit last (is_forwarding_free_at k key) (stopped true last) fs (free key refl) (λ f e. stopped-waits last f (free-is k key f e)))
    (sound-first (is_forwarding_free_at k key) (stopped true last) (λ f e. stopped-sound true last f (free-is k key f e)) fs held.sound)
    held
asked-held place last k us fs (Cancel key) false here wanted free held =
    held-changed place us fs (change_first (is_forwarding_free_at k key) (stopped false last) fs)
    (λ j. covered-first j (is_forwarding_free_at k key) (stopped false last) fs (λ f e. free-waits-not f j (free-is k key f e)))
    (sound-first (is_forwarding_free_at k key) (stopped false last) (λ f e. stopped-sound false last f (free-is k key f e)) fs held.sound)
    held
asked-held place last k us fs KeepAlive true here wanted free held = held-more place last k us KeepAlive fs fs here (λ j e. e) (λ is. cc) held.sound held
asked-held place last k us fs KeepAlive false here wanted free held = held-still place us [] fs refl held
asked-held place last k us fs OtherName true here wanted free held = held-more place last k us OtherName fs fs here (λ j e. e) (λ is. cc) held.sound held
asked-held place last k us fs OtherName false here wanted free held = held-still place us [] fs refl held

-- a reply
reply-held : (place k : ℕ) (us : List Ask) (m : Summary) (fs : List Forwarding) → Held place us fs → Held (place + 1) (drop 1 us) (map (of_client k (forwarding_after_reply place m)) fs)
reply-held place k us m fs held = record {
  cover = by_asks us held.cover;
  sound = sound-map (of_client k (forwarding_after_reply place m)) (λ f. client-sound k (forwarding_after_reply place m) f (replied-sound place m f)) fs held.sound;
}
  where
    apart : (j : ℕ) → place + 1 ≤ j → (place == j) ≡ false
    apart j le = grind (arith, nat_tests)

    step : (j : ℕ) → place + 1 ≤ j → covered j fs ≡ true → covered j (map (of_client k (forwarding_after_reply place m)) fs) ≡ true
    step j le = covered-map j (of_client k (forwarding_after_reply place m)) fs held.sound (λ f sound waits. client-waits k j (forwarding_after_reply place m) f (λ w. ap (covers j) (replied-other place j m f (apart j le) sound w) ∙ w) waits)

    by_asks : (xs : List Ask) → CoverFrom place xs fs → CoverFrom (place + 1) (drop 1 xs) (map (of_client k (forwarding_after_reply place m)) fs)
    by_asks [] cover = tt
    by_asks (x ∷ xs) cover = cover-from (place + 1) xs fs (map (of_client k (forwarding_after_reply place m)) fs) step cover.1

-- a message that is none
other-held : (place k : ℕ) (us new : List Ask) (m : Summary) (fs : List Forwarding) → new ≡ [] → ((f : Forwarding) → forwarding_after_reply place m f ≡ f) → Held place us fs → Held (place + 0) (us ++ new) (map (of_client k (forwarding_after_reply place m)) fs)
other-held place k us new m fs none same held = held-still place us new (map (of_client k (forwarding_after_reply place m)) fs) none (record {
  cover = cover-from place us fs (map (of_client k (forwarding_after_reply place m)) fs) (λ j le. covered-map j (of_client k (forwarding_after_reply place m)) fs held.sound (λ f sound waits. client-waits k j (forwarding_after_reply place m) f (λ w. ap (covers j) (same f) ∙ w) waits)) held.cover;
  sound = sound-map (of_client k (forwarding_after_reply place m)) (λ f. client-sound k (forwarding_after_reply place m) f (replied-sound place m f)) fs held.sound;
})

abbrev Next : Row → List Row → List Ask → List Forwarding → Type 0
Next row own us fs = Held (length (replies own) + length (reply_in row.item)) (drop (length (reply_in row.item)) (us ++ asks_of row.client (is_sent row) (wanted_by row))) (forwarded row own fs)

-- what is known of the request of a row
pub record Asks (row : Row) (fs : List Forwarding) : Type 0 where
  pub wants : (j : ℕ) (p : List ℕ) (given : Option HouseReply) (key : Key) (want : Bool) → row.item ≡ Says j (Payload p) given → read_summary p ≡ Ok (Requests (Forward key) want) → is_sent row ≡ true → want ≡ true
  pub free : (j : ℕ) (p : List ℕ) (given : Option HouseReply) (key : Key) (want : Bool) → row.item ≡ Says j (Payload p) given → read_summary p ≡ Ok (Requests (Cancel key) want) → is_sent row ≡ true → any_of (is_forwarding_free_at row.client key) fs ≡ true

pub next-held : (row : Row) (own : List Row) (us : List Ask) (fs : List Forwarding) → length (replies own) + length us ≡ length (wanted_requests own) → Asks row fs → Held (length (replies own)) us fs → Next row own us fs
next-held row own us fs here known held = by_item row.item refl
  where
    by_summary : (j : ℕ) (p : List ℕ) (given : Option HouseReply) → row.item ≡ Says j (Payload p) given → is_sent row ≡ true → (m : Summary) → read_summary p ≡ Ok m → Held (length (replies own) + 0) (us ++ asks_of row.client true (wanted_in m)) (forwardings_after_request row.client (length (wanted_requests own)) m fs)
    by_summary j p given item sent (Requests what wants) reads = asked-held (length (replies own)) (length (wanted_requests own)) row.client us fs what wants here
        (λ key e. known.wants j p given key wants item (reads ∙ ap (λ g. Ok (Requests g wants)) e) sent)
        (λ key e. known.free j p given key wants item (reads ∙ ap (λ g. Ok (Requests g wants)) e) sent)
        held
    by_summary j p given item sent m reads = held-still (length (replies own)) us [] fs refl held

    by_sent : (j : ℕ) (p : List ℕ) (given : Option HouseReply) → row.item ≡ Says j (Payload p) given → (b : Bool) → is_sent row ≡ b → (r : Result Summary Bad) → read_summary p ≡ r
        → Held (length (replies own) + 0) (us ++ asks_of row.client b (elim r as (λ _. Option Global) [ Err e ↦ None | Ok m ↦ wanted_in m ])) (elim b as (λ _. List Forwarding) [ true ↦ elim r as (λ _. List Forwarding) [ Err e ↦ fs | Ok m ↦ forwardings_after_request row.client (length (wanted_requests own)) m fs ] | false ↦ fs ])
    by_sent j p given item false sent r reads = held-still (length (replies own)) us _ fs refl held
    by_sent j p given item true sent (Err e) reads = held-still (length (replies own)) us [] fs refl held
    by_sent j p given item true sent (Ok m) reads = by_summary j p given item sent m reads

    none : asks_of row.client (is_sent row) None ≡ []
    none = asks-none row.client (is_sent row)

    by_reply : (p : List ℕ) (m : Summary) → Held (length (replies own) + length (elim (is_reply m) as (λ _. List (List ℕ)) [ true ↦ p ∷ [] | false ↦ [] ])) (drop (length (elim (is_reply m) as (λ _. List (List ℕ)) [ true ↦ p ∷ [] | false ↦ [] ])) (us ++ asks_of row.client (is_sent row) None)) (map (of_client row.client (forwarding_after_reply (length (replies own)) m)) fs)
    by_reply p (Succeeds rest) = subst (λ (xs : List Ask). Held (length (replies own) + 1) (drop 1 xs) (map (of_client row.client (forwarding_after_reply (length (replies own)) (Succeeds rest))) fs)) (sym (ap (λ xs. us ++ xs) none ∙ append-nil us)) (reply-held (length (replies own)) row.client us (Succeeds rest) fs held)
    by_reply p Refuses = subst (λ (xs : List Ask). Held (length (replies own) + 1) (drop 1 xs) (map (of_client row.client (forwarding_after_reply (length (replies own)) Refuses)) fs)) (sym (ap (λ xs. us ++ xs) none ∙ append-nil us)) (reply-held (length (replies own)) row.client us Refuses fs held)
    by_reply p m = other-held (length (replies own)) row.client us (asks_of row.client (is_sent row) None) m fs none (λ f. refl) held

    by_received : (p : List ℕ) (r : Result Summary Bad) → Held (length (replies own) + length (elim (elim r as (λ _. Bool) [ Err e ↦ false | Ok m ↦ is_reply m ]) as (λ _. List (List ℕ)) [ true ↦ p ∷ [] | false ↦ [] ])) (drop (length (elim (elim r as (λ _. Bool) [ Err e ↦ false | Ok m ↦ is_reply m ]) as (λ _. List (List ℕ)) [ true ↦ p ∷ [] | false ↦ [] ])) (us ++ asks_of row.client (is_sent row) None)) (elim r as (λ _. List Forwarding) [ Err e ↦ fs | Ok m ↦ map (of_client row.client (forwarding_after_reply (length (replies own)) m)) fs ])
    by_received p (Err e) = held-still (length (replies own)) us (asks_of row.client (is_sent row) None) fs none held
    by_received p (Ok m) = by_reply p m

    by_item : (i : Item) → row.item ≡ i → Next (record row { item = i }) own us fs
    by_item (Says j (Payload p) given) item = by_sent j p given item (is_sent row) refl (read_summary p) refl
    by_item (Says j (Body body) given) item = held-still (length (replies own)) us (asks_of row.client (is_sent row) None) fs none held
    by_item (Says j (BadFraming fault) given) item = held-still (length (replies own)) us (asks_of row.client (is_sent row) None) fs none held
    by_item (Heard p) item = by_received p (read_summary p)
    by_item i item = held-still (length (replies own)) us (asks_of row.client (is_sent row) None) fs none held
