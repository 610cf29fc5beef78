-- The row of a server's reply: it answers the request that waits longest, of all and of its client.
use Rattle.std.proofs.Common.{◌≡◌, ◌<◌, ◌+◌, ℕ, List, [], ◌∷◌, ◌++◌, length, drop, map, true, false, Bool, refl, ◌∙◌, ap, sym, subst, Option, Some, None, Ok, arith, suc, zero}
use Rattle.std.specs.Prelude.{filter, ◌==◌, slice_get}
use Rattle.std.proofs.lemmas.List.{append-nil}
use Rattle.ssh_grammar.specs.Messages as full
use Rattle.mux_history.specs.Summary.{Summary, Refuses, Succeeds, read_summary, reading}
use Rattle.mux_history.specs.Rows.{Goes, Heard, Row, rows_of}
use Rattle.mux_history.specs.Channels.{Channel, after_item, begun_by, held_of, is_channel_held, opened_down, with_down, with_ups}
use Rattle.mux_history.specs.Forwardings.{current, forwardings_of, of_client, forwarding_after_reply}
use Rattle.mux_history.specs.Requests.{Ask, asker, wanted_requests, asks_of, is_reply, is_sent, replies, reply_in, sent_flags, wanted, wanted_by}
use Rattle.mux_history.specs.Treat.{bare_row}
use Rattle.mux_history.proofs.Bools.{self}
use Rattle.mux_history.proofs.CurrentSteps.{is_on, on-forwarded}
use Rattle.mux_history.proofs.Finds.{filter-yes}
use Rattle.mux_history.proofs.OwnRows.{idle_row, own_row}
use Rattle.mux_history.proofs.Readings.{reading-ok}
use Rattle.mux_isolation.specs.LogView.{Waiting}
use Rattle.forward_rules.specs.Stands.{Places, places_of}
use Rattle.mux_core.specs.State.{CoreState}
use Rattle.mux_core.specs.Stands.{CoreRepresents, look}
use Rattle.mux_core.proofs.Answering.{Waits, replied_more}
use Rattle.mux_core.proofs.Bare.{held-bare}
use Rattle.mux_core.proofs.Replied.{Replies, after}
use Rattle.mux_core.proofs.Says.{held-held, map-same}

-- ---- its row, with what it sends

abbrev pub reply_row : ℕ → List ℕ → List (List ℕ) → Row
reply_row k p sent = bare_row (Heard p) k (record { sent = sent; recorded = []; ends = Goes })

-- what a reply is
pub record IsReply (p : List ℕ) (m : Summary) : Type 0 where
  pub reads : read_summary p ≡ Ok m
  pub reply : is_reply m ≡ true

pub came : (p : List ℕ) (m : Summary) → IsReply p m → reply_in (Heard p) ≡ p ∷ []
came p m is = ap (λ (b : Bool). elim b as (λ _. List (List ℕ)) [ true ↦ p ∷ [] | false ↦ [] ]) (reading-ok p m is_reply false is.reads ∙ is.reply)

no-ask : (k : ℕ) (b : Bool) → asks_of k b None ≡ []
no-ask k true = refl
no-ask k false = refl

length-more : {X : Type 0} (xs : List X) (x : X) → length (xs ++ x ∷ []) ≡ length xs + 1
length-more [] x = omega arith
length-more (y ∷ ys) x = let i = length-more ys x in omega arith

places-next : (k : ℕ) (p : List ℕ) (m : Summary) (sent : List (List ℕ)) (own : List Row) → IsReply p m → places_of (reply_row k p sent ∷ own) ≡ replied_more (places_of own)
places-next k p m sent own is =
    ap (λ (us : List Ask). let x : Places = record { asked = wanted_requests own ++ us; replied = length (replies own ++ reply_in (Heard p)) } in x) (no-ask k (is_sent (reply_row k p sent)))
    ∙ (ap (λ (us : List Ask). let x : Places = record { asked = us; replied = length (replies own ++ reply_in (Heard p)) } in x) (append-nil (wanted_requests own))
    ∙ ap (λ (n : ℕ). let x : Places = record { asked = wanted_requests own; replied = n } in x) (ap (λ (rs : List (List ℕ)). length (replies own ++ rs)) (came p m is) ∙ length-more (replies own) p))

pub all-next : (k : ℕ) (p : List ℕ) (m : Summary) (sent : List (List ℕ)) (rows : List Row) → IsReply p m → (look (reply_row k p sent ∷ rows)).all ≡ replied_more (look rows).all
all-next k p m sent rows is = places-next k p m sent rows is

pub own-next : (k : ℕ) (p : List ℕ) (m : Summary) (sent : List (List ℕ)) (rows : List Row) → IsReply p m → Replies k (look rows).own (look (reply_row k p sent ∷ rows)).own
own-next k p m sent rows is = record {
  mine = λ j h. ap places_of (own_row j (reply_row k p sent) rows h) ∙ places-next k p m sent (rows_of j rows) is;
  others = λ j h. ap places_of (idle_row j (reply_row k p sent) rows h);
}

pub current-next : (k : ℕ) (p : List ℕ) (m : Summary) (sent : List (List ℕ)) (rows : List Row) → IsReply p m → current (reply_row k p sent ∷ rows) ≡ filter is_on (map (after k ((look rows).own k).replied m) (current rows))
current-next k p m sent rows is =
    on-forwarded (reply_row k p sent) (length (wanted_requests (rows_of k rows))) (length (replies (rows_of k rows))) (forwardings_of rows)
    ∙ ap (filter is_on) (reading-ok p m (λ g. map (of_client k (forwarding_after_reply (length (replies (rows_of k rows))) g)) (current rows)) (current rows) is.reads)

-- no channel is changed by a reply, nor by what it sends
pub same-held : (k : ℕ) (p : List ℕ) (m : Summary) (sent : List (List ℕ)) (rows : List Row) → IsReply p m → ((x : Channel) → with_ups None sent x ≡ x) → held_of (reply_row k p sent ∷ rows) ≡ held_of rows
same-held k p m sent rows is ups =
    held-bare (Heard p) k (record { sent = sent; recorded = []; ends = Goes }) rows
    ∙ (ap (λ ys. filter is_channel_held (map (after_item (reply_row k p sent)) (held_of rows) ++ ys)) begun
    ∙ (ap (filter is_channel_held) (append-nil (map (after_item (reply_row k p sent)) (held_of rows)) ∙ map-same (after_item (reply_row k p sent)) same (held_of rows)) ∙ held-held rows))
  where
    none : (us : List (List ℕ)) (g : Summary) → is_reply g ≡ true → opened_down k us g ≡ []
    none [] (Succeeds rest) h = refl
    none (u ∷ us) (Succeeds rest) h = refl
    none [] Refuses h = refl
    none (u ∷ us) Refuses h = refl
    none us g h = absurd (cc)

    no-down : (g : Summary) (x : Channel) → is_reply g ≡ true → with_down g x ≡ x
    no-down (Succeeds rest) x h = refl
    no-down Refuses x h = refl
    no-down g x h = absurd (cc)

    by_zero : (b : Bool) → (elim b as (λ _. List Channel) [ true ↦ [] | false ↦ reading p (opened_down k sent) [] ]) ≡ []
    by_zero true = refl
    by_zero false = reading-ok p m (opened_down k sent) [] is.reads ∙ none sent m is.reply

    begun : begun_by k sent (Heard p) ≡ []
    begun = by_zero (k == 0)

    same : (x : Channel) → after_item (reply_row k p sent) x ≡ x
    same x =
        ap (λ y. elim (x.client == k) as (λ _. Channel) [ true ↦ with_ups None sent y | false ↦ x ]) (reading-ok p m (λ g. with_down g x) x is.reads ∙ no-down m x is.reply)
        ∙ (ap (λ y. elim (x.client == k) as (λ _. Channel) [ true ↦ y | false ↦ x ]) (ups x)
        ∙ (elim (x.client == k) as (λ b. (elim b as (λ _. Channel) [ true ↦ x | false ↦ x ]) ≡ x) [ true ↦ refl | false ↦ refl ]))

-- ---- who asked

get-drop : (n : ℕ) (us : List Ask) (a : Ask) (later : List Ask) → drop n us ≡ a ∷ later → slice_get us n ≡ Some a
get-drop zero [] a later h = absurd (cc)
get-drop zero (u ∷ us) a later h = cc
get-drop (suc n) [] a later h = absurd (cc)
get-drop (suc n) (u ∷ us) a later h = get-drop n us a later h

get-end : (n : ℕ) (us : List Ask) → drop n us ≡ [] → slice_get us n ≡ None
get-end zero [] h = refl
get-end zero (u ∷ us) h = absurd (cc)
get-end (suc n) [] h = refl
get-end (suc n) (u ∷ us) h = get-end n us h

drop-some : (n : ℕ) (us : List Ask) (a : Ask) (later : List Ask) → drop n us ≡ a ∷ later → n < length us
drop-some zero [] a later h = absurd (cc)
drop-some zero (u ∷ us) a later h = omega arith
drop-some (suc n) [] a later h = absurd (cc)
drop-some (suc n) (u ∷ us) a later h = let i = drop-some n us a later h in omega arith

-- the first that waits, of all and of its client
pub record Asked (s : CoreState) (rows : List Row) (a : Ask) (queue : List Ask) : Type 0 where
  pub all : asker rows ≡ Some a
  pub own : asker (rows_of a.client rows) ≡ Some a
  pub place : slice_get ((look rows).own a.client).asked ((look rows).own a.client).replied ≡ Some a
  pub waits : length (replies (rows_of a.client rows)) < length (wanted_requests (rows_of a.client rows))

pub asked-first : (s : CoreState) (rows : List Row) (a : Ask) (queue : List Ask) → CoreRepresents s rows → s.asks ≡ a ∷ queue → Asked s rows a queue
asked-first s rows a queue st first =
    let all : drop (length (replies rows)) (wanted_requests rows) ≡ a ∷ queue = sym st.asks.waiting ∙ first in
    let own : drop (length (replies (rows_of a.client rows))) (wanted_requests (rows_of a.client rows)) ≡ a ∷ filter (λ (b : Ask). b.client == a.client) queue =
    (st.asks.each a.client).waiting ∙ (ap (filter (λ (b : Ask). b.client == a.client)) all ∙ filter-yes (λ (b : Ask). b.client == a.client) a queue (self a.client)) in
    record {
      all = get-drop (length (replies rows)) (wanted_requests rows) a queue all;
      own = get-drop (length (replies (rows_of a.client rows))) (wanted_requests (rows_of a.client rows)) a _ own;
      place = get-drop (length (replies (rows_of a.client rows))) (wanted_requests (rows_of a.client rows)) a _ own;
      waits = drop-some (length (replies (rows_of a.client rows))) (wanted_requests (rows_of a.client rows)) a _ own;
    }

pub nobody-asked : (s : CoreState) (rows : List Row) → CoreRepresents s rows → s.asks ≡ [] → asker rows ≡ None
nobody-asked s rows st none = get-end (length (replies rows)) (wanted_requests rows) (sym st.asks.waiting ∙ none)

-- ---- what its client waits for begins with that request

abbrev sent_in : List Bool → ℕ
sent_in [] = 0
sent_in (true ∷ flags) = sent_in flags + 1
sent_in (false ∷ flags) = sent_in flags

sent-append : (a b : List Bool) → sent_in (a ++ b) ≡ sent_in a + sent_in b
sent-append [] b = omega arith
sent-append (true ∷ a) b = let i = sent-append a b in omega arith
sent-append (false ∷ a) b = sent-append a b

sent-flags : (k : ℕ) (b : Bool) (o : Option full.Global) → sent_in (sent_flags b o) ≡ length (asks_of k b o)
sent-flags k true None = refl
sent-flags k false None = refl
sent-flags k true (Some what) = refl
sent-flags k false (Some what) = refl

length-append : {X : Type 0} (xs ys : List X) → length (xs ++ ys) ≡ length xs + length ys
length-append [] ys = omega arith
length-append (x ∷ xs) ys = let i = length-append xs ys in omega arith

sent-asks : (own : List Row) → sent_in (wanted own) ≡ length (wanted_requests own)
sent-asks [] = refl
sent-asks (row ∷ own) =
    let i = sent-asks own in
    let a = sent-append (wanted own) (sent_flags (is_sent row) (wanted_by row)) in
    let b = sent-flags row.client (is_sent row) (wanted_by row) in
    let c = length-append (wanted_requests own) (asks_of row.client (is_sent row) (wanted_by row)) in
    omega arith

pub record Starts (w : List Bool) : Type 0 where
  pub later : List Bool
  pub is : w ≡ true ∷ later

starts : (flags : List Bool) (heard : List (List ℕ)) (w : List Bool) → Waits flags heard w → length heard < sent_in flags → Starts w
starts [] heard w h lt = absurd (omega arith)
starts (false ∷ flags) heard w h lt = starts flags heard w h lt
starts (true ∷ flags) [] w h lt = record { later = flags; is = sym (ap (λ (x : Waiting). x.requests) h) }
starts (true ∷ flags) (p ∷ heard) w h lt = starts flags heard w h (omega arith)

pub waits-start : (own : List Row) (w : List Bool) → Waits (wanted own) (replies own) w → length (replies own) < length (wanted_requests own) → Starts w
waits-start own w h lt = starts (wanted own) (replies own) w h (subst (λ n. length (replies own) < n) (sym (sent-asks own)) lt)
