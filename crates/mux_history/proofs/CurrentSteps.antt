-- The forwardings that are asked or live go on by one row: what is over stays out.
use Rattle.std.proofs.Common.{◌≡◌, ℕ, List, [], ◌∷◌, ◌++◌, length, true, false, Bool, refl, ◌∙◌, ap, map, sym, Some, None, Ok, Err}
use Rattle.std.specs.Prelude.{◌==◌, ◌&&◌, filter, not, is_none, Result}
use Rattle.std.proofs.lemmas.List.Elements.{filter-append}
use Rattle.mux_history.specs.Channels.{is_number}
use Rattle.mux_history.specs.Forwardings.{Forwarding, change_first, current, dropped, forwarded, forwardings_of, is_forwarding_free_at, is_request, of_client, forwarding_after_reply, forwardings_after_request, stopped}
use Rattle.mux_history.specs.Summary.{Summary, Refuses, Requests, Succeeds, read_summary, reading}
use Rattle.mux_history.specs.Keys.{bound, has_key}
use Rattle.mux_history.specs.Requests.{wanted_requests, is_sent, replies}
use Rattle.mux_history.specs.Rows.{Heard, Item, Row, Says, loses, rows_of}
use Rattle.mux_history.specs.Steps.{CurrentStep, SamePlaces, next_current}
use Rattle.ssh_grammar.specs.Messages.{Cancel, Forward, KeepAlive, Key, OtherName}
use Rattle.ssh_grammar.specs.Said.{Payload}
use Rattle.ssh_grammar.specs.declared.fault.Bad.{Bad}
use Rattle.mux_history.proofs.Finds.{filter-no, filter-yes}

abbrev pub is_on : Forwarding → Bool
is_on f = not f.over

-- a change that brings none back
abbrev pub StaysOver : (Forwarding → Forwarding) → Type 0
StaysOver change = (f : Forwarding) → f.over ≡ true → (change f).over ≡ true

pub over-of : (f : Forwarding) → is_on f ≡ false → f.over ≡ true
over-of f off = by_over f.over off
  where
    by_over : (b : Bool) → not b ≡ false → b ≡ true
    by_over true e = refl
    by_over false e = cc

pub off-after : (g : Forwarding → Forwarding) → StaysOver g → (f : Forwarding) → is_on f ≡ false → is_on (g f) ≡ false
off-after g stays f off = ap not (stays f (over-of f off))

on-twice : (fs : List Forwarding) → filter is_on (filter is_on fs) ≡ filter is_on fs
on-twice [] = refl
on-twice (f ∷ fs) = by_case (on-twice fs) (is_on f) refl
  where
    by_case : filter is_on (filter is_on fs) ≡ filter is_on fs → (b : Bool) → is_on f ≡ b → filter is_on (filter is_on (f ∷ fs)) ≡ filter is_on (f ∷ fs)
    by_case ih true e = ap (filter is_on) (filter-yes is_on f fs e) ∙ (filter-yes is_on f (filter is_on fs) e ∙ (ap (λ ys. f ∷ ys) ih ∙ sym (filter-yes is_on f fs e)))
    by_case ih false e = ap (filter is_on) (filter-no is_on f fs e) ∙ (ih ∙ sym (filter-no is_on f fs e))

on-cons : (f : Forwarding) (xs ys : List Forwarding) → filter is_on xs ≡ filter is_on ys → filter is_on (f ∷ xs) ≡ filter is_on (f ∷ ys)
on-cons f xs ys same = by_case (is_on f) refl
  where
    by_case : (b : Bool) → is_on f ≡ b → filter is_on (f ∷ xs) ≡ filter is_on (f ∷ ys)
    by_case true e = filter-yes is_on f xs e ∙ (ap (λ zs. f ∷ zs) same ∙ sym (filter-yes is_on f ys e))
    by_case false e = filter-no is_on f xs e ∙ (same ∙ sym (filter-no is_on f ys e))

-- a change of each
on-map : (g : Forwarding → Forwarding) → StaysOver g → (fs : List Forwarding) → filter is_on (map g fs) ≡ filter is_on (map g (filter is_on fs))
on-map g stays [] = refl
on-map g stays (f ∷ fs) = by_case (on-map g stays fs) (is_on f) refl
  where
    by_case : filter is_on (map g fs) ≡ filter is_on (map g (filter is_on fs)) → (b : Bool) → is_on f ≡ b → filter is_on (map g (f ∷ fs)) ≡ filter is_on (map g (filter is_on (f ∷ fs)))
    by_case ih true e = on-cons (g f) (map g fs) (map g (filter is_on fs)) ih ∙ sym (ap (λ ys. filter is_on (map g ys)) (filter-yes is_on f fs e))
    by_case ih false e = filter-no is_on (g f) (map g fs) (off-after g stays f e) ∙ (ih ∙ sym (ap (λ ys. filter is_on (map g ys)) (filter-no is_on f fs e)))

-- a change of the first that passes, where what is over doesn't
on-first : (test : Forwarding → Bool) (g : Forwarding → Forwarding) → ((f : Forwarding) → is_on f ≡ false → test f ≡ false) → (fs : List Forwarding) → filter is_on (change_first test g fs) ≡ filter is_on (change_first test g (filter is_on fs))
on-first test g never [] = refl
on-first test g never (f ∷ fs) = by_case (on-first test g never fs) (is_on f) refl (test f) refl
  where
    first_yes : (hs : List Forwarding) → test f ≡ true → change_first test g (f ∷ hs) ≡ g f ∷ hs
    first_yes hs e = ap (λ b. elim b as (λ _. List Forwarding) [ true ↦ g f ∷ hs | false ↦ f ∷ change_first test g hs ]) e

    first_no : (hs : List Forwarding) → test f ≡ false → change_first test g (f ∷ hs) ≡ f ∷ change_first test g hs
    first_no hs e = ap (λ b. elim b as (λ _. List Forwarding) [ true ↦ g f ∷ hs | false ↦ f ∷ change_first test g hs ]) e

    by_case : filter is_on (change_first test g fs) ≡ filter is_on (change_first test g (filter is_on fs)) → (b : Bool) → is_on f ≡ b → (t : Bool) → test f ≡ t → filter is_on (change_first test g (f ∷ fs)) ≡ filter is_on (change_first test g (filter is_on (f ∷ fs)))
    by_case ih false e true t = absurd (let bad : true ≡ false = sym t ∙ never f e in cc)
    by_case ih false e false t = ap (filter is_on) (first_no fs t) ∙ (filter-no is_on f (change_first test g fs) e ∙ (ih ∙ sym (ap (λ ys. filter is_on (change_first test g ys)) (filter-no is_on f fs e))))
    by_case ih true e true t = ap (filter is_on) (first_yes fs t) ∙ (on-cons (g f) fs (filter is_on fs) (sym (on-twice fs)) ∙ sym (ap (λ ys. filter is_on (change_first test g ys)) (filter-yes is_on f fs e) ∙ ap (filter is_on) (first_yes (filter is_on fs) t)))
    by_case ih true e false t = ap (filter is_on) (first_no fs t) ∙ (on-cons f (change_first test g fs) (change_first test g (filter is_on fs)) ih ∙ sym (ap (λ ys. filter is_on (change_first test g ys)) (filter-yes is_on f fs e) ∙ ap (filter is_on) (first_no (filter is_on fs) t)))

-- ---- what a row does

replied-stays : (n : ℕ) (m : Summary) → StaysOver (forwarding_after_reply n m)
replied-stays n (Succeeds rest) f over = by_case (is_request f n) (is_number f.cancel n)
  where
    by_case : (a b : Bool) → (elim a as (λ _. Forwarding) [ true ↦ record f { live = Some (bound f.key rest) } | false ↦ elim b as (λ _. Forwarding) [ true ↦ record f { over = true } | false ↦ f ] ]).over ≡ true
    by_case true b = over
    by_case false true = refl
    by_case false false = over
replied-stays n Refuses f over = by_case (is_request f n) (is_number f.cancel n)
  where
    by_case : (a b : Bool) → (elim a as (λ _. Forwarding) [ true ↦ record f { over = true } | false ↦ elim b as (λ _. Forwarding) [ true ↦ record f { cancel = None } | false ↦ f ] ]).over ≡ true
    by_case true b = refl
    by_case false true = over
    by_case false false = over
replied-stays n m f over = over

of-client-stays : (k : ℕ) (g : Forwarding → Forwarding) → StaysOver g → StaysOver (of_client k g)
of-client-stays k g stays f over = elim (f.client == k) as (λ b. (elim b as (λ _. Forwarding) [ true ↦ g f | false ↦ f ]).over ≡ true) [ true ↦ stays f over | false ↦ over ]

free-on : (k : ℕ) (key : Key) (f : Forwarding) → is_on f ≡ false → is_forwarding_free_at k key f ≡ false
free-on k key f off = ap (λ b. (f.client == k) && (b && (is_none f.cancel && (has_key f.live key)))) off ∙ by_client (f.client == k)
  where
    by_client : (b : Bool) → (b && false) ≡ false
    by_client true = refl
    by_client false = refl

on-append : (fs new : List Forwarding) → filter is_on (fs ++ new) ≡ filter is_on (filter is_on fs ++ new)
on-append fs new = filter-append is_on fs new ∙ (ap (λ ys. ys ++ filter is_on new) (sym (on-twice fs)) ∙ sym (filter-append is_on (filter is_on fs) new))

on-requested : (k n : ℕ) (m : Summary) (fs : List Forwarding) → filter is_on (forwardings_after_request k n m fs) ≡ filter is_on (forwardings_after_request k n m (filter is_on fs))
on-requested k n (Requests (Forward key) wants) fs = on-append fs _
on-requested k n (Requests (Cancel key) wants) fs = on-first (is_forwarding_free_at k key) (stopped wants n) (free-on k key) fs
on-requested k n (Requests KeepAlive wants) fs = sym (on-twice fs)
on-requested k n (Requests OtherName wants) fs = sym (on-twice fs)
on-requested k n m fs = sym (on-twice fs)

-- a row's request or reply, by the places of its client's next request and next reply
abbrev pub forwarded_at : Row → ℕ → ℕ → List Forwarding → List Forwarding
forwarded_at row request reply fs = elim row.item [
  | Says k outgoing given ↦ elim outgoing [ Payload p ↦ elim (is_sent row) [ true ↦ reading p (λ m. forwardings_after_request row.client request m fs) fs | false ↦ fs ] | _ ↦ fs ]
  | Heard p ↦ reading p (λ m. map (of_client row.client (forwarding_after_reply reply m)) fs) fs
  | _ ↦ fs
]

pub on-forwarded : (row : Row) (a r : ℕ) (fs : List Forwarding) → filter is_on (forwarded_at row a r fs) ≡ filter is_on (forwarded_at row a r (filter is_on fs))
on-forwarded row a r fs = by_item row.item
  where
    by_reading : (x : Result Summary Bad) (g : Summary → List Forwarding → List Forwarding) → ((m : Summary) → filter is_on (g m fs) ≡ filter is_on (g m (filter is_on fs))) → filter is_on (elim x as (λ _. List Forwarding) [ Err e ↦ fs | Ok m ↦ g m fs ]) ≡ filter is_on (elim x as (λ _. List Forwarding) [ Err e ↦ filter is_on fs | Ok m ↦ g m (filter is_on fs) ])
    by_reading (Err bad) g each = sym (on-twice fs)
    by_reading (Ok m) g each = each m

    by_sent : (b : Bool) (p : List ℕ) → filter is_on (elim b as (λ _. List Forwarding) [ true ↦ reading p (λ m. forwardings_after_request row.client a m fs) fs | false ↦ fs ]) ≡ filter is_on (elim b as (λ _. List Forwarding) [ true ↦ reading p (λ m. forwardings_after_request row.client a m (filter is_on fs)) (filter is_on fs) | false ↦ filter is_on fs ])
    by_sent true p = by_reading (read_summary p) (forwardings_after_request row.client a) (λ m. on-requested row.client a m fs)
    by_sent false p = sym (on-twice fs)

    by_item : (item : Item) → filter is_on (forwarded_at (record row { item = item }) a r fs) ≡ filter is_on (forwarded_at (record row { item = item }) a r (filter is_on fs))
    by_item (Says j (Payload p) given) = by_sent (is_sent row) p
    by_item (Heard p) = by_reading (read_summary p) (λ m. map (of_client row.client (forwarding_after_reply r m))) (λ m. on-map (of_client row.client (forwarding_after_reply r m)) (of-client-stays row.client (forwarding_after_reply r m) (replied-stays r m)) fs)
    by_item item = sym (on-twice fs)

pub on-dropped : (row : Row) (xs ys : List Forwarding) → filter is_on xs ≡ filter is_on ys → filter is_on (dropped row xs) ≡ filter is_on (dropped row ys)
on-dropped row xs ys same = by_case (loses row)
  where
    ends : Forwarding → Forwarding
    ends = of_client row.client (λ f. record f { over = true })

    by_case : (b : Bool) → filter is_on (elim b as (λ _. List Forwarding) [ true ↦ map ends xs | false ↦ xs ]) ≡ filter is_on (elim b as (λ _. List Forwarding) [ true ↦ map ends ys | false ↦ ys ])
    by_case true =
        on-map ends (of-client-stays row.client (λ f. record f { over = true }) (λ f over. refl)) xs
        ∙ (ap (λ zs. filter is_on (map ends zs)) same
        ∙ sym (on-map ends (of-client-stays row.client (λ f. record f { over = true }) (λ f over. refl)) ys))
    by_case false = same

pub same-places : (row : Row) (own others : List Row) (fs : List Forwarding) → SamePlaces own others → next_current row own fs ≡ next_current row others fs
same-places row own others fs same =
    ap (λ n. filter is_on (dropped row (forwarded_at row n (length (replies own)) fs))) same.request
    ∙ ap (λ n. filter is_on (dropped row (forwarded_at row (length (wanted_requests others)) n fs))) same.reply

pub current-step : (row : Row) (before : List Row) → CurrentStep row before
current-step row before = record {
  goes_on = on-dropped row (forwarded row (rows_of row.client before) (forwardings_of before)) (forwarded row (rows_of row.client before) (current before))
      (on-forwarded row (length (wanted_requests (rows_of row.client before))) (length (replies (rows_of row.client before))) (forwardings_of before));
  places = λ others same. same-places row (rows_of row.client before) others (current before) same;
}
