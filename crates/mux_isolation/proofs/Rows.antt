-- The row of a client, here and alone.
use Rattle.std.proofs.Common.{◌≡◌, ℕ, ◌<◌, List, [], ◌∷◌, ◌++◌, length, true, false, Bool, refl, ◌∙◌, ap, arith, map, sym, Option, Some, None, Ok, Err, drop}
use Rattle.std.specs.Prelude.{◌==◌, ◌&&◌, not, filter, Result, flat_map}
use Rattle.std.proofs.lemmas.Bool.Decides.{nat_tests}
use Rattle.mux_history.specs.Channels.{Channel, channels_of, held_of, holder, is_channel_held, own_number_of}
use Rattle.mux_history.specs.Farewell.{farewell, leave_channel, leave_forwarding}
use Rattle.mux_history.specs.Forwardings.{Forwarding, dropped, forwarded, forwardings_of, of_client, forwarding_after_reply, forwardings_after_request}
use Rattle.mux_history.specs.Summary.{Confirmation, Summary, Within, read_summary, reading, summary_recipient_of}
use Rattle.mux_history.specs.Heard.{own_number, renamed}
use Rattle.mux_history.specs.Log.{all_recorded, bare_row, fate_with, frames_that_fit, goes, new_answers, overflow, queued, row_of, with_farewell}
use Rattle.mux_history.specs.Requests.{answers, answers_to, wanted_requests, is_reply, is_sent, replies, reply_in, wanted}
use Rattle.mux_history.specs.Rows.{Heard, Item, Row, Says, is_lost, loses, rows_of}
use Rattle.mux_history.specs.Said.{Outcome}
use Rattle.mux_history.specs.Solo.{item_for, own_ups}
use Rattle.ssh_grammar.specs.Frames.{frame_payload}
use Rattle.ssh_grammar.specs.Said.{Payload}
use Rattle.ssh_grammar.specs.SpellMessage.{with_recipient}
use Rattle.ssh_grammar.specs.declared.fault.Bad.{Bad}
use Rattle.mux_history.proofs.OwnRows.{AllOf, rows-all}
use Rattle.mux_history.proofs.Readings.{reading-err, reading-ok}
use Rattle.mux_history.proofs.Renumbered.{read-renamed, readdressed}
use Rattle.mux_isolation.proofs.Alike.{held-own, numbered}
use Rattle.mux_isolation.proofs.Alone.{asks-alone, loses-alone, lost-alone, waiting-alone, wanted-alone}
use Rattle.mux_isolation.proofs.Meets.{own_numbered}
use Rattle.mux_isolation.proofs.Numbers.{AllNamed, RowNamed, channels-alone}
use Rattle.mux_isolation.proofs.Solos.{alone, alone_row}

-- the own number at the recipient's place fits
abbrev pub IsSmall : List Row → List ℕ → Type 0
IsSmall before p = (m : Summary) (n : ℕ) → read_summary p ≡ Ok m → summary_recipient_of m ≡ Some n → own_number (holder before n) < 4294967296

abbrev pub seen_payload : List Row → List ℕ → List ℕ
seen_payload before p = reading p (λ m. renamed before p (summary_recipient_of m)) p

-- what looks at a message but not at its recipient finds the same in the payload that the client
-- sees
pub same-use : {A : Type 0} (before : List Row) (p : List ℕ) (f : Summary → A) (other : A) → IsSmall before p → ((m : Summary) (c : ℕ) → f (readdressed c m) ≡ f m) → reading (seen_payload before p) f other ≡ reading p f other
same-use {A} before p f other small blind = by_case (read_summary p) refl
  where
    by_some : (m : Summary) → read_summary p ≡ Ok m → (o : Option ℕ) → summary_recipient_of m ≡ o → reading (renamed before p o) f other ≡ f m
    by_some m reads None none = reading-ok p m f other reads
    by_some m reads (Some n) some = reading-ok (with_recipient p (own_number (holder before n))) (readdressed (own_number (holder before n)) m) f other (read-renamed p m (own_number (holder before n)) (small m n reads some) reads) ∙ blind m (own_number (holder before n))

    by_case : (r : Result Summary Bad) → read_summary p ≡ r → reading (seen_payload before p) f other ≡ reading p f other
    by_case (Err e) reads = ap (λ q. reading q f other) (reading-err p e (λ m. renamed before p (summary_recipient_of m)) p reads)
    by_case (Ok m) reads = ap (λ q. reading q f other) (reading-ok p m (λ m. renamed before p (summary_recipient_of m)) p reads) ∙ (by_some m reads (summary_recipient_of m) refl ∙ sym (reading-ok p m f other reads))

-- a payload with no recipient is seen as it is
pub same-payload : (before : List Row) (p : List ℕ) (m : Summary) → read_summary p ≡ Ok m → summary_recipient_of m ≡ None → seen_payload before p ≡ p
same-payload before p m reads none = reading-ok p m (λ m. renamed before p (summary_recipient_of m)) p reads ∙ ap (renamed before p) none

replied-all : (place : ℕ) (m : Summary) (c : ℕ) → forwarding_after_reply place (readdressed c m) ≡ forwarding_after_reply place m
replied-all place (Confirmation n s w max) c = refl
replied-all place (Within n act) c = refl
replied-all place m c = refl

reply-blind : (m : Summary) (c : ℕ) → is_reply (readdressed c m) ≡ is_reply m
reply-blind (Confirmation n s w max) c = refl
reply-blind (Within n act) c = refl
reply-blind m c = refl

reply-none : (m : Summary) → is_reply m ≡ true → summary_recipient_of m ≡ None
reply-none (Confirmation n s w max) reply = cc
reply-none (Within n act) reply = cc
reply-none m reply = refl

abbrev pub SmallItem : List Row → Item → Type 0
SmallItem before (Heard p) = IsSmall before p
SmallItem before item = Unit {0}

abbrev pub AllSmall : List Row → Type 0
AllSmall [] = Unit {0}
AllSmall (row ∷ before) = SmallItem before row.item × AllSmall before

reply-item : (before : List Row) (item : Item) → SmallItem before item → reply_in (item_for before item) ≡ reply_in item
reply-item before (Heard p) small = ap (λ b. elim b as (λ _. List (List ℕ)) [ true ↦ seen_payload before p ∷ [] | false ↦ [] ]) (same-use before p is_reply false small reply-blind) ∙ by_case (read_summary p) refl
  where
    by_flag : (b : Bool) → (b ≡ true → seen_payload before p ≡ p) → (elim b as (λ _. List (List ℕ)) [ true ↦ seen_payload before p ∷ [] | false ↦ [] ]) ≡ (elim b as (λ _. List (List ℕ)) [ true ↦ p ∷ [] | false ↦ [] ])
    by_flag true same = ap (λ q. q ∷ []) (same refl)
    by_flag false same = refl

    by_case : (r : Result Summary Bad) → read_summary p ≡ r → (elim (reading p is_reply false) as (λ _. List (List ℕ)) [ true ↦ seen_payload before p ∷ [] | false ↦ [] ]) ≡ (elim (reading p is_reply false) as (λ _. List (List ℕ)) [ true ↦ p ∷ [] | false ↦ [] ])
    by_case (Err e) reads = by_flag (reading p is_reply false) (λ t. reading-err p e (λ m. renamed before p (summary_recipient_of m)) p reads)
    by_case (Ok m) reads = by_flag (reading p is_reply false) (λ t. same-payload before p m reads (reply-none m (sym (reading-ok p m is_reply false reads) ∙ t)))
reply-item before item small = refl

pub replies-alone : (own : List Row) → AllSmall own → replies (alone own) ≡ replies own
replies-alone [] small = refl
replies-alone (row ∷ own) small = ap (λ rs. rs ++ reply_in (item_for own row.item)) (replies-alone own small.1) ∙ ap (λ r. replies own ++ r) (reply-item own row.item small.0)

-- ---- forwardings

forwarded-alone : (own : List Row) (row : Row) (fs : List Forwarding) → SmallItem own row.item → AllSmall own → forwarded (alone_row own row) (alone own) fs ≡ forwarded row own fs
forwarded-alone own row fs small all = by_item row.item small
  where
    by_ups : (c : Option ℕ) (ups : List (List ℕ)) (item : Item) (k : ℕ) (r : Row) → is_sent (record r { item = item; up = own_ups c ups }) ≡ is_sent (record r { item = item; up = ups })
    by_ups None ups item k r = refl
    by_ups (Some c) [] item k r = refl
    by_ups (Some c) (p ∷ ps) item k r = refl

    by_item : (item : Item) → SmallItem own item → forwarded (record row { item = item_for own item; up = own_ups (own_number_of row.item) row.up }) (alone own) fs ≡ forwarded (record row { item = item }) own fs
    by_item (Heard p) small =
        ap (λ n. reading (seen_payload own p) (λ m. map (of_client row.client (forwarding_after_reply n m)) fs) fs) (ap length (replies-alone own all))
        ∙ same-use own p (λ m. map (of_client row.client (forwarding_after_reply (length (replies own)) m)) fs) fs small (λ m c. ap (λ g. map (of_client row.client g) fs) (replied-all (length (replies own)) m c))
    by_item (Says k (Payload p) reply) small =
        ap (λ b. elim b as (λ _. List Forwarding) [ true ↦ reading p (λ m. forwardings_after_request row.client (length (wanted_requests (alone own))) m fs) fs | false ↦ fs ]) (by_ups (own_number_of row.item) row.up row.item k row)
        ∙ ap (λ n. elim (is_sent row) as (λ _. List Forwarding) [ true ↦ reading p (λ m. forwardings_after_request row.client n m fs) fs | false ↦ fs ]) (ap length (asks-alone own))
    by_item item small = refl

dropped-alone : (own : List Row) (row : Row) (fs : List Forwarding) → dropped (alone_row own row) fs ≡ dropped row fs
dropped-alone own row fs = ap (λ b. elim b as (λ _. List Forwarding) [ true ↦ map (of_client row.client (λ f. record f { over = true })) fs | false ↦ fs ]) (loses-alone own row)

pub alone-all : (k : ℕ) (own : List Row) → AllOf k own → AllOf k (alone own)
alone-all k [] all = tt
alone-all k (row ∷ own) all = (all.0, alone-all k own all.1)

client-is : (a k : ℕ) → (a == k) ≡ true → a ≡ k
client-is a k e = grind (arith, nat_tests)

-- the forwardings of a client alone are those that it has here
pub forwardings-alone : (k : ℕ) (own : List Row) → AllOf k own → AllSmall own → forwardings_of (alone own) ≡ forwardings_of own
forwardings-alone k [] all small = refl
forwardings-alone k (row ∷ own) all small =
    let mine : row.client ≡ k = client-is row.client k all.0 in
    let here : rows_of row.client own ≡ own = ap (λ j. rows_of j own) mine ∙ rows-all k own all.1 in
    let there : rows_of row.client (alone own) ≡ alone own = ap (λ j. rows_of j (alone own)) mine ∙ rows-all k (alone own) (alone-all k own all.1) in
    dropped-alone own row (forwarded (alone_row own row) (rows_of row.client (alone own)) (forwardings_of (alone own)))
    ∙ ap (dropped row)
    (ap (λ rs. forwarded (alone_row own row) rs (forwardings_of (alone own))) there
    ∙ (ap (forwarded (alone_row own row) (alone own)) (forwardings-alone k own all.1 small.1)
    ∙ (forwarded-alone own row (forwardings_of own) small.0 small.1
    ∙ sym (ap (λ rs. forwarded row rs (forwardings_of own)) here))))

-- ---- the whole row

answers-alone : (own : List Row) → AllSmall own → answers (alone own) ≡ answers own
answers-alone own small = ap (λ w. answers_to w (replies (alone own))) (wanted-alone own) ∙ ap (answers_to (wanted own)) (replies-alone own small)

part-blind : (xs : List Channel) → flat_map leave_channel (map own_numbered xs) ≡ flat_map leave_channel xs
part-blind [] = refl
part-blind (x ∷ xs) = ap (λ ys. leave_channel x ++ ys) (part-blind xs)

farewell-alone : (k : ℕ) (own : List Row) (row : Row) → AllOf k own → AllSmall (row ∷ own) → AllNamed (row ∷ own) → farewell (alone_row own row) (alone own) ≡ farewell row own
farewell-alone k own row all small named =
    ap (λ cs. flat_map leave_channel (filter is_channel_held cs) ++ flat_map leave_forwarding (filter (λ (f : Forwarding). not f.over) (forwarded (alone_row own row) (alone own) (forwardings_of (alone own))))) (channels-alone (row ∷ own) named)
    ∙ (ap (λ cs. flat_map leave_channel cs ++ flat_map leave_forwarding (filter (λ (f : Forwarding). not f.over) (forwarded (alone_row own row) (alone own) (forwardings_of (alone own))))) (held-own (channels_of (row ∷ own)))
    ∙ (ap (λ cs. cs ++ flat_map leave_forwarding (filter (λ (f : Forwarding). not f.over) (forwarded (alone_row own row) (alone own) (forwardings_of (alone own))))) (part-blind (held_of (row ∷ own)))
    ∙ ap (λ fs. flat_map leave_channel (held_of (row ∷ own)) ++ flat_map leave_forwarding (filter (λ (f : Forwarding). not f.over) fs))
    (ap (forwarded (alone_row own row) (alone own)) (forwardings-alone k own all small.1) ∙ forwarded-alone own row (forwardings_of own) small.0 small.1)))

recorded-alone : (own : List Row) (row : Row) → AllSmall (row ∷ own) → all_recorded (alone_row own row) (alone own) ≡ all_recorded row own
recorded-alone own row small =
    ap (λ b. elim (goes row.fate && not b) as (λ _. List (List ℕ)) [ true ↦ row.down ++ new_answers (alone_row own row) (alone own) | false ↦ row.down ]) (lost-alone own)
    ∙ ap (λ fs. elim (goes row.fate && not (is_lost own)) as (λ _. List (List ℕ)) [ true ↦ row.down ++ fs | false ↦ row.down ])
    (ap (λ a. map frame_payload (drop (length a) (answers (alone_row own row ∷ alone own)))) (answers-alone own small.1)
    ∙ ap (λ a. map frame_payload (drop (length (answers own)) a)) (answers-alone (row ∷ own) small))

queued-alone : (own : List Row) (row : Row) (frames : List (List ℕ)) → queued frames (alone_row own row) (alone own) ≡ alone_row own (queued frames row own)
queued-alone own row frames = ap (λ n. record (alone_row own row) { down = frames_that_fit n frames; fate = fate_with row.fate (overflow n frames) }) (waiting-alone own)

parting-alone : (k : ℕ) (own : List Row) (row : Row) → AllOf k own → AllSmall (row ∷ own) → AllNamed (row ∷ own) → with_farewell (alone_row own row) (alone own) ≡ alone_row own (with_farewell row own)
parting-alone k own row all small named =
    ap (λ b. elim b as (λ _. Row) [ true ↦ record (alone_row own row) { farewell = farewell (alone_row own row) (alone own) } | false ↦ alone_row own row ]) (loses-alone own row)
    ∙ (ap (λ f. elim (loses row) as (λ _. Row) [ true ↦ record (alone_row own row) { farewell = f } | false ↦ alone_row own row ]) (farewell-alone k own row all small named)
    ∙ by_case (loses row))
  where
    by_case : (b : Bool) → (elim b as (λ _. Row) [ true ↦ record (alone_row own row) { farewell = farewell row own } | false ↦ alone_row own row ]) ≡ alone_row own (elim b as (λ _. Row) [ true ↦ record row { farewell = farewell row own } | false ↦ row ])
    by_case true = refl
    by_case false = refl

-- the row of an outcome, and alone the row of the same outcome under the client's own number
pub row-alone : (k : ℕ) (own : List Row) (item : Item) (o : Outcome) → AllOf k own → AllSmall own → SmallItem own item → AllNamed own → RowNamed own (queued (all_recorded (bare_row item k o) own) (bare_row item k o) own) → row_of (item_for own item) k (numbered (own_number_of item) o) (alone own) ≡ alone_row own (row_of item k o own)
row-alone k own item o all small small_item named row_named =
    ap (λ frames. with_farewell (queued frames (alone_row own (bare_row item k o)) (alone own)) (alone own)) (recorded-alone own (bare_row item k o) (small_item, small))
    ∙ (ap (λ r. with_farewell r (alone own)) (queued-alone own (bare_row item k o) (all_recorded (bare_row item k o) own))
    ∙ parting-alone k own (queued (all_recorded (bare_row item k o) own) (bare_row item k o) own) all (small_item, small) (row_named, named))
