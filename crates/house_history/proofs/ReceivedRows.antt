-- A payload of the server, and the forwarder: what a run has with its forwarder goes on by its row,
-- or the run ends.
use Rattle.std.proofs.Common.{◌≡◌, ◌≤◌, ◌<◌, ◌+◌, ◌*◌, ℕ, Bool, true, false, not, ◌||◌, Option, Some, None, Result, Ok, Err, IfOk, List, [], ◌∷◌, ◌++◌, refl, sym, ap, ◌∙◌, subst, arith, map, append-nil, append_assoc, take, length, length-append, inl, inr, ◌⊎◌}
use Rattle.std.specs.Prelude.{◌==◌, filter, find, nat_lt, slice_get}
use Rattle.std.proofs.lemmas.Bool.Decides.{nat_tests}
use Rattle.std.proofs.lemmas.List.{map-append}
use Rattle.ssh_fields.specs.Fields.{AreBytes}
use Rattle.ssh_fields.proofs.Fields.{length-with_u32}
use Rattle.ssh_grammar.specs.Frames.{frame_payload}
use Rattle.ssh_grammar.specs.IsMessage.{Spells}
use Rattle.ssh_grammar.specs.Messages.{Opens}
use Rattle.ssh_grammar.specs.Messages as full
use Rattle.ssh_grammar.specs.ReadMessage.{Form, OfChannel, OfNone, OfPlain, MessageReading, message_forms, read_as, read_message, with_reading}
use Rattle.ssh_grammar.specs.SpellMessage.{in_payload, open_failure, recipient_place, request_failure, too_many_channels, payload_with_number, with_recipient}
use Rattle.ssh_grammar.specs.Tables.{by_number}
use Rattle.ssh_grammar.specs.declared.fault.Bad.{Bad}
use Rattle.ssh_grammar.specs.declared.numbers.TheConstants.{DISCONNECT, RESOURCE_SHORTAGE}
use Rattle.ssh_grammar.specs.declared.side.Side.TheVariants.{Down}
use Rattle.ssh_grammar.proofs.MessageReads.{reads_is_spelled}
use Rattle.ssh_grammar.proofs.MessageSpelled.{spelled_reads}
use Rattle.mux_history.specs.declared.limits.TheConstants.{HOUSE, MAX_CHANNELS}
use Rattle.mux_history.specs.declared.why.Why.{Why}
use Rattle.mux_history.specs.Channels.{Channel, channels_of, held_of, holder, is_confirmed, is_confirms, is_fails, is_channel_held, is_number, is_up, live_in}
use Rattle.mux_history.specs.Farewell.{farewell}
use Rattle.mux_history.specs.Forwardings.{live_at}
use Rattle.mux_history.specs.Summary.{Act, Answers, Asks, Carries, Closes, Confirmation, Confirms, Ends as EndsData, Fails, Summary, Grants, Open, Refuses, Requests, Succeeds, Transport, Within, summary, read_summary, reading}
use Rattle.mux_history.specs.Heard.{Breaks, Dest, Disconnects, ToClient, ToMaster, dest, dest_summary, for_client, for_master, received_for, for_lost, received_summary, received_master, own_number, renamed}
use Rattle.mux_history.specs.Log.{all_recorded, bare_row, fate_with, received_row, new_answers, overflow, queued, row_of, treat, with_farewell}
use Rattle.mux_history.specs.Pending.{joined, pending, pending_down, waiting_down}
use Rattle.mux_history.specs.Policy.{Policy}
use Rattle.mux_history.specs.Requests.{Ask, wanted_requests, is_reply, replies, unanswered_asks}
use Rattle.mux_history.specs.Rows.{Drop, End, Fate, Goes, Heard, Item, Refused, Row, any_of, is_end, is_lost, loses, rows_of}
use Rattle.mux_history.specs.Said.{Outcome, sends_payload, silent, records}
use Rattle.mux_history.proofs.Askers.{asks-local, asks_for, get-filter}
use Rattle.mux_history.proofs.Dests.{Asked, Awaited, Legal, Offered, Reached, confirmed, dest-err, dest-ok, fails-awaited, offered, reached, refuses-asked, succeeds-asked, within-legal}
use Rattle.mux_history.proofs.Finds.{filter-no, filter-yes}
use Rattle.mux_history.proofs.ForwardsLocal.{find-part, live-local}
use Rattle.mux_history.proofs.Local.{channels-local, is_of}
use Rattle.mux_history.proofs.Readings.{summary-from, summary-ok, reading-ok}
use Rattle.mux_history.proofs.Renumbered.{read-renamed}
use Rattle.mux_history.proofs.SentApart.{own-small}
use Rattle.mux_history.proofs.Sends.{and-left, and-right}
use Rattle.mux_bounds.proofs.Weights.{frame-weight, weight-append, weight-one}
use Rattle.house_forward.specs.RelayTraces.{Trace, Life}
use Rattle.house_history.proofs.Lists.{Each, each-append, each-behind, each-found, each-of, find-at, found, none-pass, some-same}
use Rattle.house_history.proofs.Views.{IsLive, IsOffered, IsOpened, NoChannel, View}
use Rattle.house_history.proofs.Fitting.{Entry, Fit, Fits, FitsAs, KnownBy, number-is, numbers, owned-at, same-at}
use Rattle.house_history.proofs.Turns.{AllFar, Far, Good, far-front}
use Rattle.house_history.proofs.Notes.{Accepts, Bound, Does, Later, Note, Nothing, Offers, later-more, note-of, noted}
use Rattle.house_history.proofs.Seen.{Seen, note-in}
use Rattle.house_history.proofs.Receiving.{GrantedOrProxy, IsSizedPayload, Recorded, Waits}
use Rattle.house_history.proofs.RowsOf.{AllUsed, IsReplyFrame, asks-go-on, heard-little, new-replies, plain-row, plain_row, reply-some}
use Rattle.house_history.proofs.AnswersOf.{failure-short, heard-answers, no-reply-in, replies-all, replies-append, replies-in}
use Rattle.house_history.proofs.Records.{recorded-act, recorded-confirmed, recorded-failed, recorded-nothing, recorded-offered}
use Rattle.house_history.proofs.Channels.{heard-act, heard-confirmation, heard-open, heard-other, heard-refused}
use Rattle.house_history.proofs.Going.{Ends, GoesOn, Going, IsYoung, Next, Phase, RightAt, going-others, in-kept, more-recorded, others-stay, recorded-all, still-of, still-same}

-- ---- what is small

same-number : (a b : ℕ) → (a == b) ≡ true → a ≡ b
same-number a b e = grind (arith, nat_tests)

-- ---- the rows of others go on

master-summary : (m : Summary) → is_end (for_master m).ends ≡ false
master-summary (Requests what true) = refl
master-summary (Requests what false) = refl
master-summary m = refl

master-goes : (p : List ℕ) → is_end (received_master p).ends ≡ false
master-goes p = elim (read_summary p) as (λ r. is_end (elim r as (λ _. Outcome) [ Err bad ↦ silent | Ok m ↦ for_master m ]).ends ≡ false) [ Err bad ↦ refl | Ok m ↦ master-summary m ]

client-summary : (own : List Row) (p : List ℕ) (m : Summary) → is_end (for_client own p m).ends ≡ false
client-summary own p (Open what s w m) = elim (nat_lt (length (held_of own)) MAX_CHANNELS) as (λ b. is_end (elim b as (λ _. Outcome) [ true ↦ records (frame_payload p) | false ↦ sends_payload (open_failure s RESOURCE_SHORTAGE too_many_channels) ]).ends ≡ false) [ true ↦ refl | false ↦ refl ]
client-summary own p m = refl

client-goes : (own : List Row) (p : List ℕ) → is_end (received_for own p).ends ≡ false
client-goes own p = by_read (read_summary p)
  where
    by_read : (r : Result Summary Bad) → is_end (elim r as (λ _. Outcome) [ Err bad ↦ silent | Ok m ↦ received_summary own p m ]).ends ≡ false
    by_read (Err bad) = refl
    by_read (Ok m) = elim (is_lost own) as (λ b. is_end (elim b as (λ _. Outcome) [ true ↦ for_lost own m | false ↦ for_client own p m ]).ends ≡ false) [ true ↦ refl | false ↦ client-summary own p m ]

fate-goes : (f : Fate) (full : Option Why) → is_end f ≡ false → is_end (fate_with f full) ≡ false
fate-goes (End cause) full e = e
fate-goes (Drop cause) full e = refl
fate-goes Goes None e = refl
fate-goes Goes (Some cause) e = refl
fate-goes Refused None e = refl
fate-goes Refused (Some cause) e = refl

farewell-fate : (row : Row) (own : List Row) → (with_farewell row own).fate ≡ row.fate
farewell-fate row own = elim (loses row) as (λ b. (elim b as (λ _. Row) [ true ↦ record row { farewell = farewell row own } | false ↦ row ]).fate ≡ row.fate) [ true ↦ refl | false ↦ refl ]

farewell-client : (row : Row) (own : List Row) → (with_farewell row own).client ≡ row.client
farewell-client row own = elim (loses row) as (λ b. (elim b as (λ _. Row) [ true ↦ record row { farewell = farewell row own } | false ↦ row ]).client ≡ row.client) [ true ↦ refl | false ↦ refl ]

row-goes : (item : Item) (k : ℕ) (o : Outcome) (own : List Row) → is_end o.ends ≡ false → is_end (row_of item k o own).fate ≡ false
row-goes item k o own e =
    let row = queued (all_recorded (bare_row item k o) own) (bare_row item k o) own in
    ap is_end (farewell-fate row own) ∙ fate-goes o.ends (overflow (waiting_down own) (all_recorded (bare_row item k o) own)) e

row-client : (item : Item) (k : ℕ) (o : Outcome) (own : List Row) → (row_of item k o own).client ≡ k
row-client item k o own = farewell-client (queued (all_recorded (bare_row item k o) own) (bare_row item k o) own) own

others-go : (row : Row) (rows : List Row) (trace : Trace) (recorded : Recorded) (most : ℕ) → (row.client == HOUSE) ≡ false → is_end row.fate ≡ false → Going rows trace recorded → Next rows (row ∷ rows) trace most
others-go row rows trace recorded most other unended going =
    let same : length (pending HOUSE (row ∷ rows)) ≡ length (pending HOUSE rows) = ap (λ (own : List Row). length (pending_down own)) (others-stay row rows other) in
    GoesOn recorded (going-others row rows trace recorded other unended going) (omega (arith, same))

-- ---- a forwarder that sent nothing yet receives nothing

holder-local : (k : ℕ) (rows : List Row) (n : ℕ) (x : Channel) → holder rows n ≡ Some x → x.client ≡ k → holder (rows_of k rows) n ≡ Some x
holder-local k rows n x is mine =
    ap (λ (cs : List Channel). find (λ (y : Channel). is_number y.number n) (filter is_channel_held cs)) (sym (channels-local k rows))
    ∙ find-part is_channel_held (is_of k) (λ (y : Channel). is_number y.number n) x (channels_of rows) is (ap (λ (i : ℕ). i == k) mine ∙ same-at k)

young-holds : (rows : List Row) (n : ℕ) → IsYoung (rows_of HOUSE rows) → Reached rows n HOUSE → ⊥
young-holds rows n young r =
    let at = holder-local HOUSE rows n r.channel r.is r.client in
    let none : holder (rows_of HOUSE rows) n ≡ None = ap (λ (cs : List Channel). find (λ (y : Channel). is_number y.number n) (filter is_channel_held cs)) young.channels in
    let bad : Some r.channel ≡ None = sym at ∙ none in
    absurd cc

young-asks : (rows : List Row) → IsYoung (rows_of HOUSE rows) → Asked rows HOUSE → ⊥
young-asks rows young a =
    let i = length (replies rows) in
    let mine : asks_for HOUSE a.ask ≡ true = ap (λ (j : ℕ). j == HOUSE) a.client ∙ same-at HOUSE in
    let got = get-filter (asks_for HOUSE) (wanted_requests rows) i a.ask a.is mine in
    let none : filter (asks_for HOUSE) (wanted_requests rows) ≡ [] = asks-local HOUSE rows ∙ young.asked in
    let bad : None ≡ Some a.ask = sym (ap (λ (l : List Ask). slice_get l (length (filter (asks_for HOUSE) (take i (wanted_requests rows))))) none) ∙ got in
    absurd cc

young-forwards : (rows : List Row) (s : ℕ) (what : Opens) → IsYoung (rows_of HOUSE rows) → Offered rows s what HOUSE → ⊥
young-forwards rows s what young o =
    let at = live-local HOUSE rows o.key o.forwarding o.live o.client in
    let none : live_at (rows_of HOUSE rows) o.key ≡ None = rw (young.forwardings, live_at) refl in
    let bad : Some o.forwarding ≡ None = sym at ∙ none in
    absurd cc

not-transport : (number k : ℕ) → (elim (number == DISCONNECT) as (λ _. Dest) [ true ↦ Disconnects | false ↦ ToMaster ]) ≡ ToClient k → ⊥
not-transport number k e = by_test (number == DISCONNECT) e
  where
    by_test : (b : Bool) → (elim b as (λ _. Dest) [ true ↦ Disconnects | false ↦ ToMaster ]) ≡ ToClient k → ⊥
    by_test true e = cc
    by_test false e = cc

young-summary : (rows : List Row) (m : Summary) → IsYoung (rows_of HOUSE rows) → dest_summary rows m ≡ ToClient HOUSE → ⊥
young-summary rows (Transport number) young e = not-transport number HOUSE e
young-summary rows (Requests what wants) young e = cc
young-summary rows (Succeeds rest) young e = young-asks rows young (succeeds-asked rows rest HOUSE e)
young-summary rows Refuses young e = young-asks rows young (refuses-asked rows HOUSE e)
young-summary rows (Open what s w m) young e = young-forwards rows s what young (offered rows s what HOUSE e)
young-summary rows (Confirmation n s w m) young e = young-holds rows n young (reached rows (Confirmation n s w m) n HOUSE refl e)
young-summary rows (Within n act) young e = young-holds rows n young (reached rows (Within n act) n HOUSE refl e)

pub dest-young : (rows : List Row) (p : List ℕ) → IsYoung (rows_of HOUSE rows) → dest rows p ≡ ToClient HOUSE → ⊥
dest-young rows p young to = by_read (read_summary p) refl
  where
    by_read : (r : Result Summary Bad) → read_summary p ≡ r → ⊥
    by_read (Err bad) e = let d = dest-err rows p bad e in cc
    by_read (Ok m) e = young-summary rows m young (sym (dest-ok rows p m e) ∙ to)

-- ---- the answers of a row, as payloads

frame-as : (q r : List ℕ) → frame_payload q ≡ frame_payload r → length q ≡ length r
frame-as q r e =
    let a = frame-weight q in
    let b = frame-weight r in
    let c = ap length e in
    omega (arith, a, b, c)

abbrev IsReply : List ℕ → Type 0
IsReply q = reading q is_reply false ≡ true

record AnswerList (frames : List (List ℕ)) : Type 0 where
  qs : List (List ℕ)
  are : frames ≡ map frame_payload qs
  replies : Each IsReply qs
  sized : Each IsSizedPayload qs

answer-size : (p q frame : List ℕ) → frame ≡ frame_payload q → (frame ≡ frame_payload p) ⊎ (frame ≡ frame_payload request_failure) → length p + 1 ≤ 262144 → length q + 1 ≤ 262144
answer-size p q frame is (inl as_p) short = let e = frame-as q p (sym is ∙ as_p) in omega (arith, e, short)
answer-size p q frame is (inr refused) short = let e = frame-as q request_failure (sym is ∙ refused) in let f = failure-short in omega (arith, e, f)

answer-list : (p : List ℕ) → length p + 1 ≤ 262144 → (frames : List (List ℕ)) → Each IsReplyFrame frames → Each (λ frame. (frame ≡ frame_payload p) ⊎ (frame ≡ frame_payload request_failure)) frames → AnswerList frames
answer-list p short [] are ours = record { qs = []; are = refl; replies = tt; sized = tt }
answer-list p short (f ∷ fs) are ours =
    let l = answer-list p short fs are.1 ours.1 in
    let q = are.0.0 in
    record {
      qs = q ∷ l.qs;
      are = ap (λ (x : List ℕ). x ∷ fs) are.0.1 ∙ ap (λ (xs : List (List ℕ)). frame_payload q ∷ xs) l.are;
      replies = (are.0.2, l.replies);
      sized = ((reply-some q are.0.2, answer-size p q f are.0.1 ours.0 short), l.sized);
    }

-- a reply is no note
reply-summary : (g : Summary) → is_reply g ≡ true → note-of g ≡ Nothing
reply-summary (Succeeds rest) e = refl
reply-summary Refuses e = refl
reply-summary (Transport number) e = refl
reply-summary (Requests what wants) e = refl
reply-summary (Open what s w m) e = absurd (let bad : false ≡ true = e in cc)
reply-summary (Confirmation n s w m) e = absurd (let bad : false ≡ true = e in cc)
reply-summary (Within n act) e = absurd (let bad : false ≡ true = e in cc)

reply-note : (q : List ℕ) → IsReply q → note-in q ≡ Nothing
reply-note q e = by_read (read_summary q) e
  where
    by_read : (r : Result Summary Bad) → (elim r as (λ _. Bool) [ Err bad ↦ false | Ok m ↦ is_reply m ]) ≡ true → (elim r as (λ _. Note) [ Ok g ↦ note-of g | Err bad ↦ Nothing ]) ≡ Nothing
    by_read (Err bad) e = refl
    by_read (Ok m) e = reply-summary m e

append-one : (xs ys : List Note) (y : Note) → (xs ++ y ∷ []) ++ ys ≡ xs ++ y ∷ ys
append-one [] ys y = refl
append-one (x ∷ xs) ys y = ap (λ (l : List Note). x ∷ l) (append-one xs ys y)

later-replies : (hs : List Channel) (qs : List (List ℕ)) → Each IsReply qs → (notes : List Note) (vs : List Entry) → Later hs vs notes → Later hs vs (notes ++ map note-in qs)
later-replies hs [] all notes vs l = subst (λ (ns : List Note). Later hs vs ns) (sym (append-nil notes)) l
later-replies hs (q ∷ qs) all notes vs l =
    let one : Later hs vs (notes ++ Nothing ∷ []) = later-more hs hs Nothing (recorded-nothing hs) notes vs l in
    let next : Later hs vs ((notes ++ Nothing ∷ []) ++ map note-in qs) = later-replies hs qs all.1 (notes ++ Nothing ∷ []) vs one in
    subst (λ (n : Note). Later hs vs (notes ++ n ∷ map note-in qs)) (sym (reply-note q all.0))
    (subst (λ (ns : List Note). Later hs vs ns) (append-one notes (map note-in qs) Nothing) next)

-- ---- what a payload does of itself

record ForwarderEvent (own : List Row) (p : List ℕ) : Type 0 where
  sent : List (List ℕ)
  first : List (List ℕ)
  is : received_for own p ≡ record { sent = sent; recorded = map frame_payload first; ends = Goes }
  little : length (joined (map frame_payload first)) ≤ length p + 5
  sized : Each IsSizedPayload first
  quiet : replies-in first ≡ 0
  later : (down : List (List ℕ)) (notes : List Note) (vs : List Entry) → Later (held_of own) vs notes → Later (held_of (plain_row (Heard p) HOUSE sent down ∷ own)) vs (notes ++ map note-in first)

-- the row of the forwarder
abbrev outcome-of : (own : List Row) (p : List ℕ) → ForwarderEvent own p → Outcome
outcome-of own p d = record { sent = d.sent; recorded = map frame_payload d.first; ends = Goes }

record Plain (own : List Row) (p : List ℕ) (d : ForwarderEvent own p) : Type 0 where
  qs : List (List ℕ)
  is : row_of (Heard p) HOUSE (received_for own p) own ≡ plain_row (Heard p) HOUSE d.sent (map frame_payload (d.first ++ qs))
  replies : Each IsReply qs
  sized : Each IsSizedPayload (d.first ++ qs)
  count : length (new_answers (bare_row (Heard p) HOUSE (outcome-of own p d)) own) ≡ length qs
  little : length (joined (map frame_payload (d.first ++ qs))) ≤ 65 * (length p + 5)

count-map : (qs : List (List ℕ)) → length (map frame_payload qs) ≡ length qs
count-map [] = refl
count-map (q ∷ qs) = let ih = count-map qs in omega (arith, ih)

plain-of : (own : List Row) (p : List ℕ) (d : ForwarderEvent own p) → is_lost own ≡ false → AllUsed own → unanswered_asks own ≤ 64 → length p + 1 ≤ 262144 → length (pending_down own) + 65 * (length p + 5) ≤ 33554432 → Plain own p d
plain-of own p d lost used few short room =
    let o : Outcome = outcome-of own p d in
    let new = new_answers (bare_row (Heard p) HOUSE o) own in
    let l = answer-list p short new (new-replies (bare_row (Heard p) HOUSE o) own) (heard-answers HOUSE p o own used) in
    let all : map frame_payload d.first ++ new ≡ map frame_payload (d.first ++ l.qs) = ap (λ (fs : List (List ℕ)). map frame_payload d.first ++ fs) l.are ∙ sym (map-append frame_payload d.first l.qs) in
    let many : length (joined new) ≤ 64 * (length p + 5) = heard-little HOUSE p o own used few in
    let many' : length (joined (map frame_payload l.qs)) ≤ 64 * (length p + 5) = subst (λ (fs : List (List ℕ)). length (joined fs) ≤ 64 * (length p + 5)) l.are many in
    let sum : length (joined (map frame_payload (d.first ++ l.qs))) ≡ length (joined (map frame_payload d.first)) + length (joined (map frame_payload l.qs)) = weight-append d.first l.qs in
    let one = d.little in
    let most : length (joined (map frame_payload (d.first ++ l.qs))) ≤ 65 * (length p + 5) = omega (arith, many', sum, one) in
    let most' : length (joined (map frame_payload d.first ++ new)) ≤ 65 * (length p + 5) = subst (λ (fs : List (List ℕ)). length (joined fs) ≤ 65 * (length p + 5)) (sym all) most in
    let fits : waiting_down own + length (joined (map frame_payload d.first ++ new)) ≤ 33554432 = omega (arith, most', room) in
    record {
      qs = l.qs;
      is = ap (λ (x : Outcome). row_of (Heard p) HOUSE x own) d.is
          ∙ (plain-row (Heard p) HOUSE o own refl refl lost fits
          ∙ ap (λ (fs : List (List ℕ)). plain_row (Heard p) HOUSE d.sent fs) all);
      replies = l.replies;
      sized = each-append IsSizedPayload d.first l.qs d.sized l.sized;
      count = ap length l.are ∙ count-map l.qs;
      little = most;
    }

-- a run goes on by it
seen-on : (own : List Row) (p : List ℕ) (d : ForwarderEvent own p) (relay_traces : List Life) (payloads qs : List (List ℕ)) (down : List (List ℕ)) → Each IsReply qs
    → Seen (held_of own) relay_traces (map note-in payloads) → Seen (held_of (plain_row (Heard p) HOUSE d.sent down ∷ own)) relay_traces (map note-in (payloads ++ (d.first ++ qs)))
seen-on own p d relay_traces payloads qs down replies s =
    let hs' = held_of (plain_row (Heard p) HOUSE d.sent down ∷ own) in
    let vs = s.entries ++ s.orphans in
    let one = d.later down (map note-in payloads) vs s.later in
    let two : Later hs' vs ((map note-in payloads ++ map note-in d.first) ++ map note-in qs) = later-replies hs' qs replies (map note-in payloads ++ map note-in d.first) vs one in
    let same : (map note-in payloads ++ map note-in d.first) ++ map note-in qs ≡ map note-in (payloads ++ (d.first ++ qs)) =
    append_assoc (map note-in payloads) (map note-in d.first) (map note-in qs)
    ∙ (ap (λ (ns : List Note). map note-in payloads ++ ns) (sym (map-append note-in d.first qs))
    ∙ sym (map-append note-in payloads (d.first ++ qs))) in
    record {
      entries = s.entries;
      orphans = s.orphans;
      views = s.views;
      unnumbered = s.unnumbered;
      later = subst (λ (ns : List Note). Later hs' vs ns) same two;
    }

asked-on : (own : List Row) (p : List ℕ) (d : ForwarderEvent own p) (payloads qs : List (List ℕ)) (down : List (List ℕ)) (n : ℕ) → Each IsReply qs
    → length (new_answers (bare_row (Heard p) HOUSE (outcome-of own p d)) own) ≡ length qs → n ≡ unanswered_asks own + replies-in payloads
    → n ≡ unanswered_asks (plain_row (Heard p) HOUSE d.sent down ∷ own) + replies-in (payloads ++ (d.first ++ qs))
asked-on own p d payloads qs down n replies count was =
    let a : unanswered_asks (plain_row (Heard p) HOUSE d.sent down ∷ own) + length (new_answers (bare_row (Heard p) HOUSE (outcome-of own p d)) own) ≡ unanswered_asks own + 0 = asks-go-on (bare_row (Heard p) HOUSE (outcome-of own p d)) own in
    let b = replies-append payloads (d.first ++ qs) in
    let c = replies-append d.first qs in
    let e = replies-all qs replies in
    let q = d.quiet in
    omega (arith, a, b, c, e, q, count, was)

forwarder_event-goes : (rows : List Row) (p : List ℕ) (trace : Trace) (recorded : Recorded) (d : ForwarderEvent (rows_of HOUSE rows) p) (down : List (List ℕ)) (qs : List (List ℕ)) → Going rows trace recorded → trace.forwarding_state.greeted ≡ true → GrantedOrProxy trace.stage recorded
    → down ≡ map frame_payload (d.first ++ qs) → Each IsReply qs → Each IsSizedPayload (d.first ++ qs) → length (new_answers (bare_row (Heard p) HOUSE (outcome-of (rows_of HOUSE rows) p d)) (rows_of HOUSE rows)) ≡ length qs
    → Going (plain_row (Heard p) HOUSE d.sent down ∷ rows) trace (more-recorded recorded (d.first ++ qs))
forwarder_event-goes rows p trace recorded d down qs going greeted granted are replies sized count =
    let own = rows_of HOUSE rows in
    let all = recorded-all trace (d.first ++ qs) (pending HOUSE rows) recorded going.waits granted sized in
    record {
      on = going.on;
      inside = going.inside;
      waits = subst (λ (fs : List (List ℕ)). Waits trace (pending HOUSE rows ++ joined fs) (more-recorded recorded (d.first ++ qs))) (sym are) all.0;
      seen = seen-on own p d trace.relay_traces recorded.payloads qs down replies going.seen;
      requests = asked-on own p d recorded.payloads qs down (length trace.forwarding_state.requests) replies count going.requests;
      phase = subst (λ (b : Bool). Phase b trace.stage (more-recorded recorded (d.first ++ qs)) (plain_row (Heard p) HOUSE d.sent down ∷ own)) (sym greeted) all.1;
    }

by-forwarder_event : (rows : List Row) (p : List ℕ) (trace : Trace) (recorded : Recorded) → ForwarderEvent (rows_of HOUSE rows) p → RightAt rows → Going rows trace recorded → length trace.forwarding_state.requests ≤ 64 → length p + 1 ≤ 262144
    → length (pending HOUSE rows) + 65 * (length p + 5) ≤ 33554432 → trace.forwarding_state.greeted ≡ true → GrantedOrProxy trace.stage recorded
    → Next rows (row_of (Heard p) HOUSE (received_for (rows_of HOUSE rows) p) (rows_of HOUSE rows) ∷ rows) trace (65 * (length p + 5))
by-forwarder_event rows p trace recorded d right going few short room greeted granted =
    let own = rows_of HOUSE rows in
    let requests = going.requests in
    let asked : unanswered_asks own ≤ 64 = omega (arith, requests, few) in
    let l = plain-of own p d (in-kept own going.inside) (right.used going.on) asked short room in
    let row = plain_row (Heard p) HOUSE d.sent (map frame_payload (d.first ++ l.qs)) in
    let sum = length-append (pending HOUSE rows) (joined (map frame_payload (d.first ++ l.qs))) in
    let little = l.little in
    let more : length (pending HOUSE (row ∷ rows)) ≤ length (pending HOUSE rows) + 65 * (length p + 5) = omega (arith, sum, little) in
    subst (λ (r : Row). Next rows (r ∷ rows) trace (65 * (length p + 5))) (sym l.is)
    (GoesOn (more-recorded recorded (d.first ++ l.qs)) (forwarder_event-goes rows p trace recorded d (map frame_payload (d.first ++ l.qs)) l.qs going greeted granted refl l.replies l.sized l.count) more)

-- ---- what payloads read as

is-spelled : (p : List ℕ) (m : full.Message) → AreBytes p → read_message p ≡ Ok m → Spells m p
is-spelled p m bytes e = by_case (read_message p) e (reads_is_spelled p bytes)
  where
    by_case : (r : Result full.Message Bad) → r ≡ Ok m → IfOk r (λ m. Spells m p) → Spells m p
    by_case (Ok x) e holds = let same : x ≡ m = cc in subst (λ (m : full.Message). Spells m p) same holds
    by_case (Err x) e holds = cc

window-small : (p : List ℕ) (n s w m : ℕ) → AreBytes p → read_summary p ≡ Ok (Confirmation n s w m) → w < 4294967296
window-small p n s w m bytes reads =
    let r = summary-from p (Confirmation n s w m) reads in
    by_message r.message (is-spelled p r.message bytes r.reads) r.is
  where
    by_message : (message : full.Message) → Spells message p → summary message ≡ Confirmation n s w m → w < 4294967296
    by_message (full.To k (full.Confirmation s' w' m' rest)) spells e = let same : w' ≡ w = cc in subst (λ (i : ℕ). i < 4294967296) same spells.is_message.1.1
    by_message (full.Plain (full.Transport number rest)) spells e = cc
    by_message (full.Plain (full.GlobalRequest name want rest what)) spells e = cc
    by_message (full.Plain (full.RequestSuccess rest)) spells e = cc
    by_message (full.Plain full.RequestFailure) spells e = cc
    by_message (full.Plain (full.Open kind sender window maximum rest what)) spells e = cc
    by_message (full.To k (full.OpenFailure reason text language)) spells e = cc
    by_message (full.To k (full.Adjust add)) spells e = cc
    by_message (full.To k (full.Data load)) spells e = cc
    by_message (full.To k (full.Extended code load)) spells e = cc
    by_message (full.To k full.Eof) spells e = cc
    by_message (full.To k full.Close) spells e = cc
    by_message (full.To k (full.Request kind want rest)) spells e = cc
    by_message (full.To k full.Success) spells e = cc
    by_message (full.To k full.Failure) spells e = cc

abbrev within-confirms : Summary → Bool
within-confirms (Within n act) = is_confirms act
within-confirms m = false

message-plain : (m : full.Message) → within-confirms (summary m) ≡ false
message-plain (full.Plain (full.Transport number rest)) = refl
message-plain (full.Plain (full.GlobalRequest name want rest what)) = refl
message-plain (full.Plain (full.RequestSuccess rest)) = refl
message-plain (full.Plain full.RequestFailure) = refl
message-plain (full.Plain (full.Open kind sender window maximum rest what)) = refl
message-plain (full.To k (full.Confirmation s w m rest)) = refl
message-plain (full.To k (full.OpenFailure reason text language)) = refl
message-plain (full.To k (full.Adjust add)) = refl
message-plain (full.To k (full.Data load)) = refl
message-plain (full.To k (full.Extended code load)) = refl
message-plain (full.To k full.Eof) = refl
message-plain (full.To k full.Close) = refl
message-plain (full.To k (full.Request kind want rest)) = refl
message-plain (full.To k full.Success) = refl
message-plain (full.To k full.Failure) = refl

-- what is done within a channel confirms none
within-plain : (p : List ℕ) (n : ℕ) (act : Act) → read_summary p ≡ Ok (Within n act) → is_confirms act ≡ false
within-plain p n act reads = let r = summary-from p (Within n act) reads in sym (ap within-confirms r.is) ∙ message-plain r.message

-- with another recipient it is as long
recipient-fits : (n : ℕ) (form : Form) (rest : List ℕ) (r : ℕ) (m : full.ChannelMessage) → read_as n form rest ≡ Ok (full.To r m) → 4 ≤ length rest
recipient-fits n (OfPlain read) rest r m e = by_case (read rest) e
  where
    by_case : (x : MessageReading full.PlainMessage) → with_reading x full.Plain ≡ Ok (full.To r m) → 4 ≤ length rest
    by_case (Ok x) e = cc
    by_case (Err x) e = cc
recipient-fits n (OfChannel read) [] r m e = cc
recipient-fits n (OfChannel read) (v ∷ []) r m e = cc
recipient-fits n (OfChannel read) (v ∷ w ∷ []) r m e = cc
recipient-fits n (OfChannel read) (v ∷ w ∷ x ∷ []) r m e = cc
recipient-fits n (OfChannel read) (v ∷ w ∷ x ∷ y ∷ tail) r m e = omega arith
recipient-fits n OfNone rest r m e = cc

message-length : (p : List ℕ) (m : full.Message) (c : ℕ) → read_message p ≡ Ok m → length (with_recipient p c) ≡ length p
message-length p m c e =
    let at : in_payload recipient_place p ≡ recipient_place m = ap (λ (r : Result full.Message Bad). elim r as (λ _. Option ℕ) [ Err x ↦ None | Ok m ↦ recipient_place m ]) e in
    ap (λ (o : Option ℕ). length (payload_with_number p o c)) at ∙ by_message p m e
  where
    by_message : (p : List ℕ) (m : full.Message) → read_message p ≡ Ok m → length (payload_with_number p (recipient_place m) c) ≡ length p
    by_message p (full.Plain m) e = refl
    by_message [] (full.To r m) e = cc
    by_message (n ∷ rest) (full.To r m) e =
        let four = recipient-fits n (by_number (message_forms n) n OfNone) rest r m e in
        length-with_u32 (n ∷ rest) 1 c (omega (arith, four))

renamed-length : (p : List ℕ) (g : Summary) (c : ℕ) → read_summary p ≡ Ok g → length (with_recipient p c) ≡ length p
renamed-length p g c reads = let r = summary-from p g reads in message-length p r.message c r.reads

reads-shortage : (s : ℕ) → s < 4294967296 → read_summary (open_failure s RESOURCE_SHORTAGE too_many_channels) ≡ Ok (Within s Fails)
reads-shortage s small = summary-ok (open_failure s RESOURCE_SHORTAGE too_many_channels) (full.To s (full.OpenFailure RESOURCE_SHORTAGE too_many_channels []))
    (spelled_reads (full.To s (full.OpenFailure RESOURCE_SHORTAGE too_many_channels [])) (open_failure s RESOURCE_SHORTAGE too_many_channels) (record { is_message = (small, (omega arith, omega arith, omega arith)); flag = 0; boolean = refl; spelled = refl }))

-- ---- what a payload does, by what it records

for-house : (own : List Row) (p : List ℕ) (m : Summary) → is_lost own ≡ false → read_summary p ≡ Ok m → received_for own p ≡ for_client own p m
for-house own p m lost reads =
    ap (λ (r : Result Summary Bad). elim r as (λ _. Outcome) [ Err bad ↦ silent | Ok m ↦ received_summary own p m ]) reads
    ∙ ap (λ (b : Bool). elim b as (λ _. Outcome) [ true ↦ for_lost own m | false ↦ for_client own p m ]) lost

-- it, or it with another recipient
forwarder_event-one : (own : List Row) (p q : List ℕ) (g : Summary) → received_for own p ≡ records (frame_payload q) → read_summary q ≡ Ok g → is_reply g ≡ false → length q ≡ length p → 1 ≤ length p → length p + 1 ≤ 262144
    → ((down : List (List ℕ)) (vs : List Entry) → Fit (held_of own) vs → Each (Bound (note-of g)) vs × Fit (held_of (plain_row (Heard p) HOUSE [] down ∷ own)) (noted (note-of g) vs)) → ForwarderEvent own p
forwarder_event-one own p q g is reads silent_g same some short step =
    let note : note-in q ≡ note-of g = ap (λ (r : Result Summary Bad). elim r as (λ _. Note) [ Ok g ↦ note-of g | Err bad ↦ Nothing ]) reads in
    let one = weight-one q in
    record {
      sent = [];
      first = q ∷ [];
      is = is;
      little = omega (arith, one, same);
      sized = ((omega (arith, same, some), omega (arith, same, short)), tt);
      quiet = no-reply-in (q ∷ []) ((reading-ok q g is_reply false reads ∙ silent_g), tt);
      later = λ down notes vs l. subst (λ (n : Note). Later (held_of (plain_row (Heard p) HOUSE [] down ∷ own)) vs (notes ++ n ∷ [])) (sym note)
          (later-more (held_of own) (held_of (plain_row (Heard p) HOUSE [] down ∷ own)) (note-of g) (step down) notes vs l);
    }

-- nothing
forwarder_event-none : (own : List Row) (p : List ℕ) (sent : List (List ℕ)) → received_for own p ≡ record { sent = sent; recorded = []; ends = Goes } → ((down : List (List ℕ)) → held_of (plain_row (Heard p) HOUSE sent down ∷ own) ≡ held_of own) → ForwarderEvent own p
forwarder_event-none own p sent is stays = record {
  sent = sent;
  first = [];
  is = is;
  little = omega arith;
  sized = tt;
  quiet = refl;
  later = λ down notes vs l. subst (λ (hs : List Channel). Later hs vs (notes ++ [])) (sym (stays down)) (subst (λ (ns : List Note). Later (held_of own) vs ns) (sym (append-nil notes)) l);
}

-- ---- the channel of a number

record Place (own : List Row) (n : ℕ) (x : Channel) : Type 0 where
  front : List Channel
  behind : List Channel
  are : held_of own ≡ front ++ x ∷ behind
  is : holder own n ≡ Some x
  number : x.number ≡ Some n
  c : ℕ
  owned : x.own ≡ Some c
  small : c < 4294967296

place-of : (rows : List Row) (n : ℕ) (x : Channel) → RightAt rows → holder rows n ≡ Some x → x.client ≡ HOUSE → Place (rows_of HOUSE rows) n x
place-of rows n x right is mine =
    let own = rows_of HOUSE rows in
    let at = holder-local HOUSE rows n x is mine in
    let f = found (λ (y : Channel). is_number y.number n) x (held_of own) at in
    let number = number-is x.number n f.is in
    let o = each-found (λ (y : Channel). (n : ℕ) → y.number ≡ Some n → (c : ℕ) × (y.own ≡ Some c) × (c < 4294967296)) (λ (y : Channel). is_number y.number n) x (held_of own) at right.owned n number in
    record { front = f.before; behind = f.behind; are = f.are; is = at; number = number; c = o.0; owned = o.1; small = o.2 }

named : (own : List Row) (p : List ℕ) (n : ℕ) (x : Channel) (pl : Place own n x) → renamed own p (Some n) ≡ with_recipient p pl.c
named own p n x pl =
    ap (λ (o : Option Channel). with_recipient p (own_number o)) pl.is
    ∙ ap (λ (o : Option ℕ). with_recipient p (elim o as (λ _. ℕ) [ None ↦ 0 | Some c ↦ c ])) pl.owned

forwarder_event-act : (rows : List Row) (p : List ℕ) (n : ℕ) (act : Act) → RightAt rows → is_lost (rows_of HOUSE rows) ≡ false → 1 ≤ length p → length p + 1 ≤ 262144
    → read_summary p ≡ Ok (Within n act) → is_fails act ≡ false → Legal rows n act HOUSE → ForwarderEvent (rows_of HOUSE rows) p
forwarder_event-act rows p n act right lost some short reads fails l =
    let own = rows_of HOUSE rows in
    let x = l.channel in
    let pl = place-of rows n x right l.is l.client in
    forwarder_event-one own p (with_recipient p pl.c) (Within pl.c act)
    (for-house own p (Within n act) lost reads ∙ ap (λ (q : List ℕ). records (frame_payload q)) (named own p n x pl))
    (read-renamed p (Within n act) pl.c pl.small reads) refl (renamed-length p (Within n act) pl.c reads) some short
    (λ down vs fit. subst (λ (hs : List Channel). Each (Bound (Does pl.c act)) vs × Fit hs (noted (Does pl.c act) vs))
    (sym (heard-act HOUSE own p down n act reads right.good right.mine pl.front pl.behind x pl.are pl.number))
    (recorded-act (held_of own) pl.front pl.behind x pl.c act right.good pl.are pl.owned (within-plain p n act reads) fails l.fine vs fit))

is-not : (b : Bool) → not b ≡ true → b ≡ false
is-not true e = absurd (let bad : false ≡ true = e in cc)
is-not false e = refl

forwarder_event-failed : (rows : List Row) (p : List ℕ) (n : ℕ) → RightAt rows → is_lost (rows_of HOUSE rows) ≡ false → 1 ≤ length p → length p + 1 ≤ 262144
    → read_summary p ≡ Ok (Within n Fails) → Awaited rows n HOUSE → ForwarderEvent (rows_of HOUSE rows) p
forwarder_event-failed rows p n right lost some short reads l =
    let own = rows_of HOUSE rows in
    let x = l.channel in
    let pl = place-of rows n x right l.is l.client in
    let up = and-left (is_up x.by) (not (is_confirmed x)) l.waits in
    let none = is-not (is_confirmed x) (and-right (is_up x.by) (not (is_confirmed x)) l.waits) in
    forwarder_event-one own p (with_recipient p pl.c) (Within pl.c Fails)
    (for-house own p (Within n Fails) lost reads ∙ ap (λ (q : List ℕ). records (frame_payload q)) (named own p n x pl))
    (read-renamed p (Within n Fails) pl.c pl.small reads) refl (renamed-length p (Within n Fails) pl.c reads) some short
    (λ down vs fit. subst (λ (hs : List Channel). Each (Bound (Does pl.c Fails)) vs × Fit hs (noted (Does pl.c Fails) vs))
    (sym (heard-act HOUSE own p down n Fails reads right.good right.mine pl.front pl.behind x pl.are pl.number))
    (recorded-failed (held_of own) pl.front pl.behind x pl.c right.good pl.are pl.owned up none vs fit))

-- ---- one that waits for its confirmation has no acts

later-fit : (hs : List Channel) (notes : List Note) (vs : List Entry) → Later hs vs notes → (ws : List Entry) × Fit hs ws
later-fit hs [] vs l = (vs, l)
later-fit hs (note ∷ notes) vs l = later-fit hs notes (noted note vs) l.1

view-acts : (hs : List Channel) (c : ℕ) (x : Channel) (v : View) → find (owned-at c) hs ≡ Some x → is_confirmed x ≡ false → FitsAs hs (Some c) v → x.acts ≡ []
view-acts hs c x NoChannel own none fits = absurd (let bad : None ≡ Some x = sym fits ∙ own in cc)
view-acts hs c x IsOpened own none fits = subst (λ (y : Channel). y.acts ≡ []) (some-same fits.0 x (sym fits.1 ∙ own)) fits.2.acts
view-acts hs c x (IsOffered s w m) own none fits = absurd (let unowned = fits.0 in let bad : None ≡ Some x = sym unowned ∙ own in cc)
view-acts hs c x (IsLive a) own none fits =
    let is = subst (λ (y : Channel). is_confirmed y ≡ true) (some-same fits.0 x (sym fits.1 ∙ own)) fits.2.confirmed in
    absurd (let bad : true ≡ false = sym is ∙ none in cc)

entry-acts : (hs : List Channel) (c : ℕ) (x : Channel) (vs : List Entry) → find (owned-at c) hs ≡ Some x → is_confirmed x ≡ false → any_of (λ o. is_number o c) (numbers vs) ≡ true → Each (Fits hs) vs → x.acts ≡ []
entry-acts hs c x [] own none known fits = absurd (let bad : false ≡ true = known in cc)
entry-acts hs c x (e ∷ es) own none known fits = go (is_number e.0 c) refl known (λ h. entry-acts hs c x es own none h fits.1)
  where
    go : (b : Bool) → is_number e.0 c ≡ b → (is_number e.0 c || any_of (λ o. is_number o c) (numbers es)) ≡ true → (any_of (λ o. is_number o c) (numbers es) ≡ true → x.acts ≡ []) → x.acts ≡ []
    go true t h more = view-acts hs c x e.1 own none (subst (λ (o : Option ℕ). FitsAs hs o e.1) (number-is e.0 c t) fits.0)
    go false t h more = more (sym (ap (λ (b : Bool). b || any_of (λ o. is_number o c) (numbers es)) t) ∙ h)

fit-acts : (hs fs bs : List Channel) (x : Channel) (c : ℕ) (vs : List Entry) → Good hs → hs ≡ fs ++ x ∷ bs → x.own ≡ Some c → is_confirmed x ≡ false → Fit hs vs → x.acts ≡ []
fit-acts hs fs bs x c vs good are own none fit =
    let is : owned-at c x ≡ true = ap (λ (p : Option ℕ). is_number p c) own ∙ same-at c in
    let apart = each-of (Far x) (λ (y : Channel). owned-at c y ≡ false) (λ y far. far.owns c is) fs (far-front fs bs x (subst AllFar are good.far)) in
    let at : find (owned-at c) hs ≡ Some x = ap (find (owned-at c)) are ∙ find-at (owned-at c) fs bs x apart is in
    let known : any_of (λ o. is_number o c) (numbers vs) ≡ true = (each-behind (KnownBy (numbers vs)) fs (x ∷ bs) (subst (λ (l : List Channel). Each (KnownBy (numbers vs)) l) are fit.known)).0 c own in
    entry-acts hs c x vs at none known fit.fits

forwarder_event-confirmed : (rows : List Row) (p : List ℕ) (n s w m : ℕ) → RightAt rows → is_lost (rows_of HOUSE rows) ≡ false → AreBytes p → 1 ≤ length p → length p + 1 ≤ 262144
    → (ws : List Entry) → Fit (held_of (rows_of HOUSE rows)) ws → read_summary p ≡ Ok (Confirmation n s w m) → Awaited rows n HOUSE → ForwarderEvent (rows_of HOUSE rows) p
forwarder_event-confirmed rows p n s w m right lost bytes some short ws fit-once reads l =
    let own = rows_of HOUSE rows in
    let x = l.channel in
    let pl = place-of rows n x right l.is l.client in
    let up = and-left (is_up x.by) (not (is_confirmed x)) l.waits in
    let none = is-not (is_confirmed x) (and-right (is_up x.by) (not (is_confirmed x)) l.waits) in
    let small = window-small p n s w m bytes reads in
    let little : w ≤ 4294967295 = omega (arith, small) in
    let fresh = fit-acts (held_of own) pl.front pl.behind x pl.c ws right.good pl.are pl.owned none fit-once in
    forwarder_event-one own p (with_recipient p pl.c) (Confirmation pl.c s w m)
    (for-house own p (Confirmation n s w m) lost reads ∙ ap (λ (q : List ℕ). records (frame_payload q)) (named own p n x pl))
    (read-renamed p (Confirmation n s w m) pl.c pl.small reads) refl (renamed-length p (Confirmation n s w m) pl.c reads) some short
    (λ down vs fit. subst (λ (hs : List Channel). Each (Bound (Accepts pl.c s w m)) vs × Fit hs (noted (Accepts pl.c s w m) vs))
    (sym (heard-confirmation HOUSE own p down n s w m reads right.good right.mine pl.front pl.behind x pl.are pl.number fresh))
    (recorded-confirmed (held_of own) pl.front pl.behind x pl.c s w m right.good pl.are pl.owned up none little vs fit))

-- ---- an open of the server

each-part : {X : Type 0} (P : X → Type 0) (held mine : X → Bool) (xs : List X) → Each P (filter held xs) → Each P (filter held (filter mine xs))
each-part P held mine [] all = tt
each-part {X} P held mine (x ∷ xs) all = go (each-part P held mine xs) (mine x) refl (held x) refl
  where
    go : (Each P (filter held xs) → Each P (filter held (filter mine xs))) → (a : Bool) → mine x ≡ a → (b : Bool) → held x ≡ b → Each P (filter held (filter mine (x ∷ xs)))
    go ih false e false f = subst (λ (l : List X). Each P (filter held l)) (sym (filter-no mine x xs e)) (ih (subst (Each P) (filter-no held x xs f) all))
    go ih false e true f = subst (λ (l : List X). Each P (filter held l)) (sym (filter-no mine x xs e)) (ih (subst (Each P) (filter-yes held x xs f) all).1)
    go ih true e false f = subst (λ (l : List X). Each P (filter held l)) (sym (filter-yes mine x xs e)) (subst (Each P) (sym (filter-no held x (filter mine xs) f)) (ih (subst (Each P) (filter-no held x xs f) all)))
    go ih true e true f =
        let both = subst (Each P) (filter-yes held x xs f) all in
        subst (λ (l : List X). Each P (filter held l)) (sym (filter-yes mine x xs e)) (subst (Each P) (sym (filter-yes held x (filter mine xs) f)) (both.0, ih both.1))

none-remote : (k : ℕ) (rows : List Row) (s : ℕ) → live_in rows s ≡ None → Each (λ (z : Channel). is_number z.remote s ≡ false) (held_of (rows_of k rows))
none-remote k rows s unused =
    subst (λ (cs : List Channel). Each (λ (z : Channel). is_number z.remote s ≡ false) (filter is_channel_held cs)) (channels-local k rows)
    (each-part (λ (z : Channel). is_number z.remote s ≡ false) is_channel_held (is_of k) (channels_of rows) (none-pass (λ (z : Channel). is_number z.remote s) (held_of rows) unused))

forwarder_event-open : (rows : List Row) (p : List ℕ) (what : Opens) (s w m : ℕ) → is_lost (rows_of HOUSE rows) ≡ false → AreBytes p → 1 ≤ length p → length p + 1 ≤ 262144
    → read_summary p ≡ Ok (Open what s w m) → live_in rows s ≡ None → ForwarderEvent (rows_of HOUSE rows) p
forwarder_event-open rows p what s w m lost bytes some short reads unused = by_room (nat_lt (length (held_of (rows_of HOUSE rows))) MAX_CHANNELS) refl
  where
    none : Each (λ (z : Channel). is_number z.remote s ≡ false) (held_of (rows_of HOUSE rows))
    none = none-remote HOUSE rows s unused

    is : (b : Bool) → nat_lt (length (held_of (rows_of HOUSE rows))) MAX_CHANNELS ≡ b → received_for (rows_of HOUSE rows) p ≡ elim b as (λ _. Outcome) [ true ↦ records (frame_payload p) | false ↦ sends_payload (open_failure s RESOURCE_SHORTAGE too_many_channels) ]
    is b e = for-house (rows_of HOUSE rows) p (Open what s w m) lost reads ∙ ap (λ (b : Bool). elim b as (λ _. Outcome) [ true ↦ records (frame_payload p) | false ↦ sends_payload (open_failure s RESOURCE_SHORTAGE too_many_channels) ]) e

    by_room : (b : Bool) → nat_lt (length (held_of (rows_of HOUSE rows))) MAX_CHANNELS ≡ b → ForwarderEvent (rows_of HOUSE rows) p
    by_room true e =
        let own = rows_of HOUSE rows in
        let y : Channel = record { client = HOUSE; by = Down; own = None; number = None; remote = Some s; window = w; maximum = m; acts = [] } in
        forwarder_event-one own p p (Open what s w m) (is true e) reads refl refl some short
        (λ down vs fit. subst (λ (hs : List Channel). Each (Bound (Offers s w m)) vs × Fit hs (noted (Offers s w m) vs))
        (sym (heard-open HOUSE own p down what s w m reads (omega arith)))
        (recorded-offered (held_of own) s w m y none refl (record { by = refl; own = refl; number = refl; acts = refl; window = refl; maximum = refl }) vs fit))
    by_room false e =
        let q = open_failure s RESOURCE_SHORTAGE too_many_channels in
        forwarder_event-none (rows_of HOUSE rows) p (q ∷ []) (is false e)
        (λ down. heard-refused HOUSE (rows_of HOUSE rows) p q down what s w m reads (reads-shortage s (own-small p (Open what s w m) s bytes reads refl)) none)

-- ---- each payload does so

forwarder_event-summary : (rows : List Row) (p : List ℕ) (m : Summary) → RightAt rows → is_lost (rows_of HOUSE rows) ≡ false → AreBytes p → 1 ≤ length p → length p + 1 ≤ 262144
    → (ws : List Entry) → Fit (held_of (rows_of HOUSE rows)) ws → read_summary p ≡ Ok m → dest_summary rows m ≡ ToClient HOUSE → ForwarderEvent (rows_of HOUSE rows) p
forwarder_event-summary rows p (Transport number) right lost bytes some short ws fit reads to = absurd (not-transport number HOUSE to)
forwarder_event-summary rows p (Requests what wants) right lost bytes some short ws fit reads to = absurd (let bad : ToMaster ≡ ToClient HOUSE = to in cc)
forwarder_event-summary rows p (Succeeds rest) right lost bytes some short ws fit reads to =
    forwarder_event-none (rows_of HOUSE rows) p [] (for-house (rows_of HOUSE rows) p (Succeeds rest) lost reads) (λ down. heard-other HOUSE (rows_of HOUSE rows) p down (Succeeds rest) reads tt)
forwarder_event-summary rows p Refuses right lost bytes some short ws fit reads to =
    forwarder_event-none (rows_of HOUSE rows) p [] (for-house (rows_of HOUSE rows) p Refuses lost reads) (λ down. heard-other HOUSE (rows_of HOUSE rows) p down Refuses reads tt)
forwarder_event-summary rows p (Open what s w m) right lost bytes some short ws fit reads to = forwarder_event-open rows p what s w m lost bytes some short reads (offered rows s what HOUSE to).unused
forwarder_event-summary rows p (Confirmation n s w m) right lost bytes some short ws fit reads to = forwarder_event-confirmed rows p n s w m right lost bytes some short ws fit reads (confirmed rows n s HOUSE to).awaited
forwarder_event-summary rows p (Within n Fails) right lost bytes some short ws fit reads to = forwarder_event-failed rows p n right lost some short reads (fails-awaited rows n HOUSE to)
forwarder_event-summary rows p (Within n (Confirms w m)) right lost bytes some short ws fit reads to = absurd (let plain = within-plain p n (Confirms w m) reads in let bad : true ≡ false = plain in cc)
forwarder_event-summary rows p (Within n (Grants add)) right lost bytes some short ws fit reads to = forwarder_event-act rows p n (Grants add) right lost some short reads refl (within-legal rows n (Grants add) HOUSE refl to)
forwarder_event-summary rows p (Within n (Carries size)) right lost bytes some short ws fit reads to = forwarder_event-act rows p n (Carries size) right lost some short reads refl (within-legal rows n (Carries size) HOUSE refl to)
forwarder_event-summary rows p (Within n EndsData) right lost bytes some short ws fit reads to = forwarder_event-act rows p n EndsData right lost some short reads refl (within-legal rows n EndsData HOUSE refl to)
forwarder_event-summary rows p (Within n Closes) right lost bytes some short ws fit reads to = forwarder_event-act rows p n Closes right lost some short reads refl (within-legal rows n Closes HOUSE refl to)
forwarder_event-summary rows p (Within n (Asks wants)) right lost bytes some short ws fit reads to = forwarder_event-act rows p n (Asks wants) right lost some short reads refl (within-legal rows n (Asks wants) HOUSE refl to)
forwarder_event-summary rows p (Within n Answers) right lost bytes some short ws fit reads to = forwarder_event-act rows p n Answers right lost some short reads refl (within-legal rows n Answers HOUSE refl to)

forwarder_event-of : (rows : List Row) (p : List ℕ) (trace : Trace) (recorded : Recorded) → RightAt rows → Going rows trace recorded → AreBytes p → 1 ≤ length p → length p + 1 ≤ 262144 → dest rows p ≡ ToClient HOUSE → ForwarderEvent (rows_of HOUSE rows) p
forwarder_event-of rows p trace recorded right going bytes some short to = by_read (read_summary p) refl
  where
    by_read : (r : Result Summary Bad) → read_summary p ≡ r → ForwarderEvent (rows_of HOUSE rows) p
    by_read (Err bad) e = absurd (let d = dest-err rows p bad e in cc)
    by_read (Ok m) e =
        let once = later-fit (held_of (rows_of HOUSE rows)) (map note-in recorded.payloads) (going.seen.entries ++ going.seen.orphans) going.seen.later in
        forwarder_event-summary rows p m right (in-kept (rows_of HOUSE rows) going.inside) bytes some short once.0 once.1 e (sym (dest-ok rows p m e) ∙ to)

-- ---- the row of a payload

pub heard-row : (policy : Policy) (pid pick : ℕ) (rows : List Row) (p : List ℕ) (trace : Trace) (recorded : Recorded) → RightAt rows → Going rows trace recorded → AreBytes p → length trace.forwarding_state.requests ≤ 64 → 1 ≤ length p → length p + 1 ≤ 262144
    → length (pending HOUSE rows) + 65 * (length p + 5) ≤ 33554432 → Next rows (treat policy pid pick rows (Heard p) ∷ rows) trace (65 * (length p + 5))
heard-row policy pid pick rows p trace recorded right going bytes few some short room = by_dest (dest rows p) refl
  where
    lost : is_lost (rows_of HOUSE rows) ≡ false
    lost = in-kept (rows_of HOUSE rows) going.inside

    by_house : (b : Bool) → trace.forwarding_state.greeted ≡ b → dest rows p ≡ ToClient HOUSE → Next rows (row_of (Heard p) HOUSE (received_for (rows_of HOUSE rows) p) (rows_of HOUSE rows) ∷ rows) trace (65 * (length p + 5))
    by_house false e to = absurd (dest-young rows p (subst (λ (b : Bool). Phase b trace.stage recorded (rows_of HOUSE rows)) e going.phase).1 to)
    by_house true e to = by-forwarder_event rows p trace recorded (forwarder_event-of rows p trace recorded right going bytes some short to) right going few short room e (subst (λ (b : Bool). Phase b trace.stage recorded (rows_of HOUSE rows)) e going.phase)

    by_client : (k : ℕ) (b : Bool) → (k == HOUSE) ≡ b → dest rows p ≡ ToClient k → Next rows (row_of (Heard p) k (received_for (rows_of k rows) p) (rows_of k rows) ∷ rows) trace (65 * (length p + 5))
    by_client k false e to =
        others-go (row_of (Heard p) k (received_for (rows_of k rows) p) (rows_of k rows)) rows trace recorded (65 * (length p + 5))
        (ap (λ (j : ℕ). j == HOUSE) (row-client (Heard p) k (received_for (rows_of k rows) p) (rows_of k rows)) ∙ e)
        (row-goes (Heard p) k (received_for (rows_of k rows) p) (rows_of k rows) (client-goes (rows_of k rows) p)) going
    by_client k true e to =
        let same : k ≡ HOUSE = same-number k HOUSE e in
        subst (λ (j : ℕ). Next rows (row_of (Heard p) j (received_for (rows_of j rows) p) (rows_of j rows) ∷ rows) trace (65 * (length p + 5))) (sym same)
        (by_house trace.forwarding_state.greeted refl (to ∙ ap (λ (j : ℕ). ToClient j) same))

    by_dest : (d : Dest) → dest rows p ≡ d → Next rows (received_row rows p d ∷ rows) trace (65 * (length p + 5))
    by_dest ToMaster e = others-go (received_row rows p ToMaster) rows trace recorded (65 * (length p + 5)) refl (master-goes p) going
    by_dest (ToClient k) e = by_client k (k == HOUSE) refl e
    by_dest Disconnects e = Ends refl lost (still-same rows (received_row rows p Disconnects ∷ rows) trace refl (still-of rows trace recorded going))
    by_dest (Breaks cause) e = Ends refl lost (still-same rows (received_row rows p (Breaks cause) ∷ rows) trace refl (still-of rows trace recorded going))

-- nothing that is received is for a forwarder that has no rows
pub heard-client : (rows : List Row) (p : List ℕ) → rows_of HOUSE rows ≡ [] → ((received_row rows p (dest rows p)).client == HOUSE) ≡ false
heard-client rows p none = by_dest (dest rows p) refl
  where
    young : IsYoung (rows_of HOUSE rows)
    young = subst IsYoung (sym none) (record { channels = refl; asked = refl; forwardings = refl; silent = refl })

    by_client : (k : ℕ) (b : Bool) → (k == HOUSE) ≡ b → dest rows p ≡ ToClient k → ((row_of (Heard p) k (received_for (rows_of k rows) p) (rows_of k rows)).client == HOUSE) ≡ false
    by_client k false e to = ap (λ (j : ℕ). j == HOUSE) (row-client (Heard p) k (received_for (rows_of k rows) p) (rows_of k rows)) ∙ e
    by_client k true e to = absurd (dest-young rows p young (to ∙ ap (λ (j : ℕ). ToClient j) (same-number k HOUSE e)))

    by_dest : (d : Dest) → dest rows p ≡ d → ((received_row rows p d).client == HOUSE) ≡ false
    by_dest ToMaster e = refl
    by_dest (ToClient k) e = by_client k (k == HOUSE) refl e
    by_dest Disconnects e = refl
    by_dest (Breaks cause) e = refl
