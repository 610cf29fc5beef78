-- What a client's row gives, and what is seen after it, where the same is seen before it.
use Rattle.std.proofs.Common.{◌≡◌, ℕ, zero, suc, ◌+◌, List, [], ◌∷◌, ◌++◌, map, length, drop, length-append, true, false, Bool, refl, ◌∙◌, ap, arith, sym}
use Rattle.std.specs.Prelude.{◌-◌, ◌||◌, ◌&&◌, not, filter, flat_map}
use Rattle.std.proofs.lemmas.List.{drop-drop}
use Rattle.std.proofs.Math.Seq.{drop-append_seam}
use Rattle.ssh_grammar.specs.Frames.{frame_payload}
use Rattle.ssh_grammar.specs.SpellMessage.{request_failure}
use Rattle.mux_history.specs.Channels.{held_of}
use Rattle.mux_history.specs.Controls.{is_sends, proxies_by}
use Rattle.mux_history.specs.Farewell.{farewell, leave_channel, leave_forwarding}
use Rattle.mux_history.specs.Forwardings.{Forwarding, current, dropped, forwarded, forwardings_of}
use Rattle.mux_history.specs.Log.{all_recorded, bare_row, fate_with, frames_that_fit, goes, new_answers, overflow, queued, row_of, with_farewell}
use Rattle.mux_history.specs.Pending.{joined, took_by}
use Rattle.mux_history.specs.Requests.{Ask, answers, answers_to, wanted_requests, asks_of, is_sent, replies, reply_in, sent_flags, wanted, wanted_by}
use Rattle.mux_history.specs.Rows.{Item, Row, Says, is_admit, is_lost, is_refusal, loses, rows_of}
use Rattle.mux_history.specs.Said.{Outcome}
use Rattle.mux_isolation.specs.LogView.{ChannelView, LogView, Waiting, waiting_left_of}
use Rattle.mux_history.proofs.CurrentSteps.{current-step, forwarded_at, is_on, on-forwarded}
use Rattle.mux_isolation.proofs.ViewChannels.{channels-step, leaves-same, next_channels}
use Rattle.mux_isolation.proofs.ViewSent.{channels, own_view, waiting}

-- ---- answers

-- more requests and more replies go on from what was left
answers-left : (flags more : List Bool) (heard later : List (List ℕ)) → answers_to (flags ++ more) (heard ++ later) ≡ answers_to flags heard ++ answers_to ((waiting_left_of flags heard).requests ++ more) ((waiting_left_of flags heard).early ++ later)
answers-left [] more heard later = refl
answers-left (false ∷ flags) more heard later = ap (λ xs. request_failure ∷ xs) (answers-left flags more heard later)
answers-left (true ∷ flags) more [] later = refl
answers-left (true ∷ flags) more (p ∷ heard) later = ap (λ xs. p ∷ xs) (answers-left flags more heard later)

left-more : (flags more : List Bool) (heard later : List (List ℕ)) → waiting_left_of (flags ++ more) (heard ++ later) ≡ waiting_left_of ((waiting_left_of flags heard).requests ++ more) ((waiting_left_of flags heard).early ++ later)
left-more [] more heard later = refl
left-more (false ∷ flags) more heard later = left-more flags more heard later
left-more (true ∷ flags) more [] later = refl
left-more (true ∷ flags) more (p ∷ heard) later = left-more flags more heard later

abbrev answers_after : Row → Waiting → List (List ℕ)
answers_after row w = map frame_payload (answers_to (w.requests ++ sent_flags (is_sent row) (wanted_by row)) (w.early ++ reply_in row.item))

new-answers : (row : Row) (own : List Row) → new_answers row own ≡ answers_after row (waiting_left_of (wanted own) (replies own))
new-answers row own = ap (map frame_payload) (
    ap (drop (length (answers own))) (answers-left (wanted own) (sent_flags (is_sent row) (wanted_by row)) (replies own) (reply_in row.item))
    ∙ drop-append_seam (answers own) (answers_to ((waiting_left_of (wanted own) (replies own)).requests ++ sent_flags (is_sent row) (wanted_by row)) ((waiting_left_of (wanted own) (replies own)).early ++ reply_in row.item)))

-- ---- the row

module _ (own others : List Row) (same : own_view own ≡ own_view others) where
  recorded-same : (row : Row) → all_recorded row own ≡ all_recorded row others
  recorded-same row =
      ap (λ b. elim (goes row.fate && not b) as (λ _. List (List ℕ)) [ true ↦ row.down ++ new_answers row own | false ↦ row.down ]) (ap (λ (v : LogView). v.lost) same)
      ∙ ap (λ (new : List (List ℕ)). elim (goes row.fate && not (is_lost others)) as (λ _. List (List ℕ)) [ true ↦ row.down ++ new | false ↦ row.down ])
      (new-answers row own ∙ (ap (answers_after row) (waiting own others same) ∙ sym (new-answers row others)))

  queued-same : (frames : List (List ℕ)) (row : Row) → queued frames row own ≡ queued frames row others
  queued-same frames row = ap (λ n. record row { down = frames_that_fit n frames; fate = fate_with row.fate (overflow n frames) }) (ap (λ (v : LogView). length v.pending) same)

  cancels-same : (row : Row) → filter is_on (forwarded row own (forwardings_of own)) ≡ filter is_on (forwarded row others (forwardings_of others))
  cancels-same row =
      on-forwarded row (length (wanted_requests own)) (length (replies own)) (forwardings_of own)
      ∙ (ap (λ (v : LogView). filter is_on (forwarded_at row v.requests v.replied v.forwardings)) same
      ∙ sym (on-forwarded row (length (wanted_requests others)) (length (replies others)) (forwardings_of others)))

  farewell-same : (row : Row) → farewell row own ≡ farewell row others
  farewell-same row =
      ap (λ xs. xs ++ flat_map leave_forwarding (filter is_on (forwarded row own (forwardings_of own)))) (leaves-same row own others (channels own others same))
      ∙ ap (λ fs. flat_map leave_channel (held_of (row ∷ others)) ++ flat_map leave_forwarding fs) (cancels-same row)

  leaving-same : (row : Row) → with_farewell row own ≡ with_farewell row others
  leaving-same row = ap (λ fw. elim (loses row) as (λ _. Row) [ true ↦ record row { farewell = fw } | false ↦ row ]) (farewell-same row)

  pub row-alike : (item : Item) (k : ℕ) (o : Outcome) → row_of item k o own ≡ row_of item k o others
  row-alike item k o =
      ap (λ frames. with_farewell (queued frames (bare_row item k o) own) own) (recorded-same (bare_row item k o))
      ∙ (ap (λ row. with_farewell row own) (queued-same (all_recorded (bare_row item k o) others) (bare_row item k o))
      ∙ leaving-same (queued (all_recorded (bare_row item k o) others) (bare_row item k o) others))

-- ---- the view after it

drop-append : (xs ys : List Ask) (n : ℕ) → drop n (xs ++ ys) ≡ drop n xs ++ drop (n - length xs) ys
drop-append [] ys zero = refl
drop-append [] ys (suc n) = let e : suc n ≡ suc n - 0 = omega arith in ap (λ i. drop i ys) e
drop-append (x ∷ xs) ys zero = let e : 0 ≡ 0 - length (x ∷ xs) = omega arith in ap (λ i. (x ∷ xs) ++ drop i ys) e
drop-append (x ∷ xs) ys (suc n) = let e : n - length xs ≡ suc n - length (x ∷ xs) = omega arith in drop-append xs ys n ∙ ap (λ i. drop n xs ++ drop i ys) e

-- what is seen of a client after a row
abbrev pub next_view : Row → LogView → LogView
next_view row v = record {
  admitted = is_admit row || v.admitted;
  has_greeted = is_sends row.item || v.has_greeted;
  proxied = elim row.item as (λ _. Bool) [ Says k outgoing given ↦ proxies_by outgoing | _ ↦ v.proxied ];
  lost = loses row || v.lost;
  out = (loses row || is_refusal row.fate) || v.out;
  channels = next_channels row v.channels;
  requests = v.requests + length (asks_of row.client (is_sent row) (wanted_by row));
  replied = v.replied + length (reply_in row.item);
  unreplied = drop (length (reply_in row.item)) (v.unreplied ++ drop (v.replied - v.requests) (asks_of row.client (is_sent row) (wanted_by row)));
  waiting = waiting_left_of (v.waiting.requests ++ sent_flags (is_sent row) (wanted_by row)) (v.waiting.early ++ reply_in row.item);
  forwardings = filter is_on (dropped row (forwarded_at row v.requests v.replied v.forwardings));
  pending = drop (took_by row.item) (v.pending ++ joined row.down);
}

pub view-step : (row : Row) (own : List Row) → rows_of row.client own ≡ own → own_view (row ∷ own) ≡ next_view row (own_view own)
view-step row own all =
    ap (λ x. with_parts x (length (wanted_requests (row ∷ own))) (length (replies (row ∷ own))) (drop (length (replies (row ∷ own))) (wanted_requests (row ∷ own))) (waiting_left_of (wanted (row ∷ own)) (replies (row ∷ own))) (current (row ∷ own))) (channels-step row own)
    ∙ (ap (λ x. with_parts (next_channels row v.channels) x (length (replies (row ∷ own))) (drop (length (replies (row ∷ own))) (wanted_requests (row ∷ own))) (waiting_left_of (wanted (row ∷ own)) (replies (row ∷ own))) (current (row ∷ own))) (length-append (wanted_requests own) new)
    ∙ (ap (λ x. with_parts (next_channels row v.channels) (v.requests + length new) x (drop (length (replies (row ∷ own))) (wanted_requests (row ∷ own))) (waiting_left_of (wanted (row ∷ own)) (replies (row ∷ own))) (current (row ∷ own))) (length-append (replies own) (reply_in row.item))
    ∙ (ap (λ x. with_parts (next_channels row v.channels) (v.requests + length new) (v.replied + length (reply_in row.item)) x (waiting_left_of (wanted (row ∷ own)) (replies (row ∷ own))) (current (row ∷ own))) unreplied-next
    ∙ (ap (λ x. with_parts (next_channels row v.channels) (v.requests + length new) (v.replied + length (reply_in row.item)) (drop (length (reply_in row.item)) (v.unreplied ++ drop (v.replied - v.requests) new)) x (current (row ∷ own))) (left-more (wanted own) (sent_flags (is_sent row) (wanted_by row)) (replies own) (reply_in row.item))
    ∙ ap (λ x. with_parts (next_channels row v.channels) (v.requests + length new) (v.replied + length (reply_in row.item)) (drop (length (reply_in row.item)) (v.unreplied ++ drop (v.replied - v.requests) new)) (waiting_left_of (v.waiting.requests ++ sent_flags (is_sent row) (wanted_by row)) (v.waiting.early ++ reply_in row.item)) x) current-next))))
  where
    v : LogView
    v = own_view own

    new : List Ask
    new = asks_of row.client (is_sent row) (wanted_by row)

    with_parts : List ChannelView → ℕ → ℕ → List Ask → Waiting → List Forwarding → LogView
    with_parts vs a r us w fs = record (own_view (row ∷ own)) { channels = vs; requests = a; replied = r; unreplied = us; waiting = w; forwardings = fs }

    unreplied-next : drop (length (replies (row ∷ own))) (wanted_requests (row ∷ own)) ≡ drop (length (reply_in row.item)) (drop (length (replies own)) (wanted_requests own) ++ drop (length (replies own) - length (wanted_requests own)) new)
    unreplied-next =
        ap (λ n. drop n (wanted_requests own ++ new)) (length-append (replies own) (reply_in row.item))
        ∙ (sym (drop-drop (length (reply_in row.item)) (length (replies own)) (wanted_requests own ++ new))
        ∙ ap (drop (length (reply_in row.item))) (drop-append (wanted_requests own) new (length (replies own))))

    current-next : current (row ∷ own) ≡ filter is_on (dropped row (forwarded_at row (length (wanted_requests own)) (length (replies own)) (current own)))
    current-next = (current-step row own).goes_on ∙ ap (λ rs. filter is_on (dropped row (forwarded row rs (current own)))) all
