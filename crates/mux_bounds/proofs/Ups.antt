-- What a row sends for its item: a payload of the client as long as it was sent, or one message of
-- the master.
use Rattle.std.proofs.Common.{◌≡◌, ℕ, zero, suc, ◌+◌, ◌≤◌, List, [], ◌∷◌, length, true, false, Bool, refl, ap, arith, sym, subst, Option, Some, None, Ok, Err, inl, inr}
use Rattle.std.specs.Prelude.{filter, nat_lt, slice_get, IfSome, Result}
use Rattle.ssh_fields.specs.Fields.{AreBytes}
use Rattle.ssh_fields.proofs.Fields.{length-with_u32}
use Rattle.ssh_grammar.specs.Frames.{frame_payload}
use Rattle.ssh_grammar.specs.Messages.{Cancel, Forward, Global, KeepAlive, OtherName}
use Rattle.ssh_grammar.specs.Said.{BadFraming, Body, Payload}
use Rattle.ssh_grammar.specs.SpellMessage.{not_permitted, open_failure, sender_at, too_many_channels, payload_with_number, with_sender}
use Rattle.ssh_grammar.specs.declared.fault.Bad.{Bad}
use Rattle.ssh_grammar.specs.declared.numbers.TheConstants.{ADMINISTRATIVELY_PROHIBITED, RESOURCE_SHORTAGE}
use Rattle.ssh_grammar.proofs.Renumbered.{sender_within}
use Rattle.mux_history.specs.declared.why.Why.TheVariants as why
use Rattle.mux_history.specs.Channels.{held_of}
use Rattle.mux_history.specs.Controls.{client_has_greeted, house_sends, sent_body}
use Rattle.mux_history.specs.Farewell.{late, late_refusal, late_success, with_ask}
use Rattle.mux_history.specs.Summary.{Confirmation, Summary, Open, Refuses, Requests, Succeeds, Within, read_summary}
use Rattle.mux_history.specs.Heard.{Breaks, Dest, Disconnects, ToClient, ToMaster, dest, for_client, for_lost, for_master, received_for, received_summary, received_master}
use Rattle.mux_history.specs.Kept.{ForEach}
use Rattle.mux_history.specs.Keys.{bound}
use Rattle.mux_history.specs.Log.{admits, received_row, row_of, treat}
use Rattle.mux_history.specs.Policy.{Policy}
use Rattle.mux_history.specs.Requests.{Ask, asker, wanted_requests, replies}
use Rattle.mux_history.specs.Rows.{Admit, Gone, Heard, HouseSays, Item, Row, Says, is_lost, rows_of}
use Rattle.mux_history.specs.Said.{Outcome, drops, sent_summary, sent_payload, sends_payload, silent, records}
use Rattle.mux_bounds.specs.Bounds.{weight}
use Rattle.mux_history.proofs.Askers.{asks-local, asks_for}
use Rattle.mux_history.proofs.Finds.{filter-no, filter-yes}
use Rattle.mux_history.proofs.RightLogs.{RowKnown}
use Rattle.mux_history.proofs.SentApart.{LawfulItem}
use Rattle.mux_history.proofs.Sends.{Sent, admits-sent, body-sent, house-sent, row-parts, sent-by}
use Rattle.mux_bounds.proofs.Shorts.{AskShort, EachAsk, IsBrief, asks-brief}
use Rattle.mux_bounds.proofs.Weights.{bound-brief, cancel-weight, close-weight, failure-weight, weight-one}

-- ---- what a client sends

with-length : (p : List ℕ) (o : Option ℕ) (n : ℕ) → IfSome o (λ at. at + 4 ≤ length p) → length (payload_with_number p o n) ≡ length p
with-length p None n fits = refl
with-length p (Some at) n fits = length-with_u32 p at n fits

sender-length : (p : List ℕ) (n : ℕ) → AreBytes p → length (with_sender p n) ≡ length p
sender-length p n bytes = with-length p (sender_at p) n (sender_within p bytes)

sent-weight : (own : List Row) (pick : ℕ) (p : List ℕ) (m : Summary) (ups : List (List ℕ)) → AreBytes p → Sent own pick p m ups → weight ups ≤ length p + 5
sent-weight own pick p m ups bytes (inl none) = let e = ap weight none in omega arith
sent-weight own pick p m ups bytes (inr (inl plain)) = let e = ap weight plain.up in let w = weight-one p in omega arith
sent-weight own pick p m ups bytes (inr (inr new)) = let e = ap weight new.up in let w = weight-one (with_sender p pick) in let l = sender-length p pick bytes in omega arith

payload-weight : (policy : Policy) (k : ℕ) (own : List Row) (pick : ℕ) (p : List ℕ) → AreBytes p → weight (sent_payload policy k own pick p).sent ≤ length p + 5
payload-weight policy k own pick p bytes = by_case (read_summary p)
  where
    by_case : (r : Result Summary Bad) → weight (elim r as (λ _. Outcome) [ Err bad ↦ drops (why.BadMessage bad) | Ok m ↦ sent_summary policy k own pick p m ]).sent ≤ length p + 5
    by_case (Err bad) = omega arith
    by_case (Ok m) = sent-weight own pick p m (sent_summary policy k own pick p m).sent bytes (sent-by policy k own pick p m)

-- ---- what the server sends

pub get-each : (P : Ask → Type 0) (xs : List Ask) (n : ℕ) (a : Ask) → EachAsk P xs → slice_get xs n ≡ Some a → P a
get-each P [] n a all got = cc
get-each P (x ∷ xs) zero a all got = let same : x ≡ a = cc in subst P same all.0
get-each P (x ∷ xs) (suc n) a all got = get-each P xs n a all.1 got

success-weight : (rest : List ℕ) (what : Global) → AskShort what → weight (late_success rest what) ≤ 308
success-weight rest (Forward key) short = cancel-weight (bound key rest) (bound-brief key rest short)
success-weight rest (Cancel key) short = omega arith
success-weight rest KeepAlive short = omega arith
success-weight rest OtherName short = omega arith

refusal-weight : (what : Global) → AskShort what → weight (late_refusal what) ≤ 308
refusal-weight (Cancel key) short = cancel-weight key short
refusal-weight (Forward key) short = omega arith
refusal-weight KeepAlive short = omega arith
refusal-weight OtherName short = omega arith

asked-weight : (own : List Row) (f : Global → List (List ℕ)) → ((what : Global) → AskShort what → weight (f what) ≤ 308) → EachAsk IsBrief (wanted_requests own) → weight (with_ask (asker own) f) ≤ 308
asked-weight own f each brief = by_case (asker own) refl
  where
    by_case : (o : Option Ask) → asker own ≡ o → weight (with_ask o f) ≤ 308
    by_case None e = omega arith
    by_case (Some a) e = each a.what (get-each IsBrief (wanted_requests own) (length (replies own)) a brief e)

pub late-weight : (m : Summary) (own : List Row) → EachAsk IsBrief (wanted_requests own) → weight (late m own) ≤ 308
late-weight (Confirmation n s w max) own brief = let a = close-weight s in omega arith
late-weight (Succeeds rest) own brief = asked-weight own (late_success rest) (success-weight rest) brief
late-weight Refuses own brief = asked-weight own late_refusal refusal-weight brief
late-weight m own brief = omega arith

pub client-weight : (own : List Row) (p : List ℕ) (m : Summary) → weight (for_client own p m).sent ≤ 39
client-weight own p (Open what s w max) = by_case (nat_lt (length (held_of own)) 256)
  where
    by_case : (b : Bool) → weight (elim b as (λ _. Outcome) [ true ↦ records (frame_payload p) | false ↦ sends_payload (open_failure s RESOURCE_SHORTAGE too_many_channels) ]).sent ≤ 39
    by_case true = omega arith
    by_case false = let a = failure-weight s RESOURCE_SHORTAGE too_many_channels in omega arith
client-weight own p (Confirmation n s w max) = omega arith
client-weight own p (Within n act) = omega arith
client-weight own p m = omega arith

heard-weight : (own : List Row) (p : List ℕ) → EachAsk IsBrief (wanted_requests own) → weight (received_for own p).sent ≤ 308
heard-weight own p brief = by_case (read_summary p)
  where
    by_lost : (m : Summary) (b : Bool) → weight (elim b as (λ _. Outcome) [ true ↦ for_lost own m | false ↦ for_client own p m ]).sent ≤ 308
    by_lost m true = late-weight m own brief
    by_lost m false = let a = client-weight own p m in omega arith

    by_case : (r : Result Summary Bad) → weight (elim r as (λ _. Outcome) [ Err bad ↦ silent | Ok m ↦ received_summary own p m ]).sent ≤ 308
    by_case (Err bad) = omega arith
    by_case (Ok m) = by_lost m (is_lost own)

pub master-weight : (p : List ℕ) → weight (received_master p).sent ≤ 35
master-weight p = by_case (read_summary p)
  where
    by_message : (m : Summary) → weight (for_master m).sent ≤ 35
    by_message (Requests what true) = omega arith
    by_message (Requests what false) = omega arith
    by_message (Open what s w max) = let a = failure-weight s ADMINISTRATIVELY_PROHIBITED not_permitted in omega arith
    by_message m = omega arith

    by_case : (r : Result Summary Bad) → weight (elim r as (λ _. Outcome) [ Err bad ↦ silent | Ok m ↦ for_master m ]).sent ≤ 35
    by_case (Err bad) = omega arith
    by_case (Ok m) = by_message m

-- ---- any row

-- the most that an item sends
abbrev pub brought : Item → ℕ
brought (Says k (Payload p) given) = length p + 5
brought (Heard p) = 308
brought item = 0

abbrev Brings : Row → Type 0
Brings row = weight row.up ≤ brought row.item

brings-none : (row : Row) → row.up ≡ [] → Brings row
brings-none row none = let e = ap weight none in omega arith

brings-row : (item : Item) (k : ℕ) (o : Outcome) (own : List Row) → weight o.sent ≤ brought item → Brings (row_of item k o own)
brings-row item k o own le = row-parts Brings item k o own (λ fw parting down fate. le)

none-weight : (ps : List (List ℕ)) (n : ℕ) → ps ≡ [] → weight ps ≤ n
none-weight ps n none = let e = ap weight none in omega arith

brings-dest : (before : List Row) (p : List ℕ) (d : Dest) → ((k : ℕ) → EachAsk IsBrief (wanted_requests (rows_of k before))) → Brings (received_row before p d)
brings-dest before p ToMaster brief = let w = master-weight p in omega arith
brings-dest before p (ToClient k) brief = brings-row (Heard p) k (received_for (rows_of k before) p) (rows_of k before) (heard-weight (rows_of k before) p (brief k))
brings-dest before p Disconnects brief = omega arith
brings-dest before p (Breaks cause) brief = omega arith

brings-treat : (policy : Policy) (pid pick : ℕ) (before : List Row) (item : Item) → LawfulItem before item → ((k : ℕ) → EachAsk IsBrief (wanted_requests (rows_of k before))) → Brings (treat policy pid pick before item)
brings-treat policy pid pick before (Admit k) lawful brief = brings-row (Admit k) k (admits before) (rows_of k before) (none-weight (admits before).sent 0 (admits-sent before))
brings-treat policy pid pick before (Says k (Payload p) given) lawful brief = brings-row (Says k (Payload p) given) k (sent_payload policy k (rows_of k before) pick p) (rows_of k before) (payload-weight policy k (rows_of k before) pick p lawful.1)
brings-treat policy pid pick before (Says k (Body body) given) lawful brief = brings-row (Says k (Body body) given) k (sent_body pid k given (client_has_greeted (rows_of k before)) body) (rows_of k before) (none-weight (sent_body pid k given (client_has_greeted (rows_of k before)) body).sent 0 (body-sent pid k given (client_has_greeted (rows_of k before)) body))
brings-treat policy pid pick before (Says k (BadFraming fault) given) lawful brief = brings-row (Says k (BadFraming fault) given) k (drops (why.BadFrame fault)) (rows_of k before) (omega arith)
brings-treat policy pid pick before (HouseSays k id given) lawful brief = brings-row (HouseSays k id given) k (house_sends (rows_of k before) id given) (rows_of k before) (none-weight (house_sends (rows_of k before) id given).sent 0 (house-sent (rows_of k before) id given))
brings-treat policy pid pick before (Gone k) lawful brief = brings-row (Gone k) k silent (rows_of k before) (omega arith)
brings-treat policy pid pick before (Heard p) lawful brief = brings-dest before p (dest before p) brief
brings-treat policy pid pick before item lawful brief = brings-none (treat policy pid pick before item) refl

ask-filter : (test : Ask → Bool) (xs : List Ask) → EachAsk IsBrief xs → EachAsk IsBrief (filter test xs)
ask-filter test [] all = tt
ask-filter test (x ∷ xs) all = by_case (ask-filter test xs all.1) (test x) refl
  where
    by_case : EachAsk IsBrief (filter test xs) → (b : Bool) → test x ≡ b → EachAsk IsBrief (filter test (x ∷ xs))
    by_case ih true e = subst (EachAsk IsBrief) (sym (filter-yes test x xs e)) (all.0, ih)
    by_case ih false e = subst (EachAsk IsBrief) (sym (filter-no test x xs e)) ih

pub owned-brief : (policy : Policy) (pid : ℕ) (rows : List Row) → ForEach (RowKnown policy pid) rows → (k : ℕ) → EachAsk IsBrief (wanted_requests (rows_of k rows))
owned-brief policy pid rows each k = subst (EachAsk IsBrief) (asks-local k rows) (ask-filter (asks_for k) (wanted_requests rows) (asks-brief policy pid rows each))

pub row-brings : (policy : Policy) (pid : ℕ) (before : List Row) (row : Row) → RowKnown policy pid before row → ForEach (RowKnown policy pid) before → weight row.up ≤ brought row.item
row-brings policy pid before row known each = subst Brings known.is (brings-treat policy pid known.pick before known.item known.lawful (owned-brief policy pid before each))
