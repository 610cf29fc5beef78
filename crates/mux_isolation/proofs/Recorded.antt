-- What goes down is within its window and permitted.
use Rattle.std.proofs.Common.{◌≡◌, ℕ, List, [], ◌∷◌, length, true, false, Bool, refl, ◌∙◌, ap, sym, Some, subst, Ok, Err}
use Rattle.std.specs.Prelude.{◌&&◌, filter, find, Result, nat_lt, codes, option_map}
use Rattle.mux_history.specs.Channels.{Channel, channels_of, held_of, is_channel_held, is_number, with_own}
use Rattle.mux_history.specs.Controls.{client_has_greeted, house_sends, sent_body}
use Rattle.mux_history.specs.Forwardings.{Forwarding}
use Rattle.mux_history.specs.Summary.{Act, Carries, Confirmation, Summary, Open, Refuses, Requests, Succeeds, Transport, Within, read_summary, summary_recipient_of}
use Rattle.mux_history.specs.Heard.{Breaks, Dest, Disconnects, ToClient, ToMaster, dest, dest_summary, for_client, for_lost, for_master, received_for, received_summary, received_master, renamed}
use Rattle.mux_history.specs.Kept.{Every, Fits, ForEach}
use Rattle.mux_history.specs.Ledger.{breach}
use Rattle.mux_history.specs.Log.{admits, all_recorded, bare_row, received_row, row_of, treat}
use Rattle.mux_history.specs.Pending.{waiting_down}
use Rattle.mux_history.specs.Policy.{Policy}
use Rattle.mux_history.specs.Rows.{Admit, Gone, Heard, HouseSays, Item, Row, Says, is_lost, rows_of}
use Rattle.mux_history.specs.Said.{Outcome, drops, sent_payload, sends_payload, silent, records}
use Rattle.ssh_grammar.specs.Frames.{frame_payload}
use Rattle.ssh_grammar.specs.Messages.{Opens}
use Rattle.ssh_grammar.specs.Said.{BadFraming, Body, Payload}
use Rattle.ssh_grammar.specs.SpellMessage.{open_failure, with_recipient}
use Rattle.ssh_grammar.specs.declared.fault.Bad.{Bad}
use Rattle.ssh_grammar.specs.declared.side.Side.TheVariants.{Down}
use Rattle.mux_history.specs.declared.why.Why.TheVariants as why
use Rattle.mux_history.proofs.Apart.{AreApart}
use Rattle.mux_history.proofs.Dests.{Legal, Offered, dest-ok, offered, reached, within-legal}
use Rattle.mux_history.proofs.Finds.{Each, filter-no, filter-yes, find-no, find-yes}
use Rattle.mux_history.proofs.Legal.{fits-of}
use Rattle.mux_history.proofs.Renumbered.{read-renamed, readdressed}
use Rattle.mux_history.proofs.RightLogs.{LogKnown, by-treat}
use Rattle.mux_history.proofs.SentApart.{ok-same}
use Rattle.mux_history.proofs.Sends.{row-split}
use Rattle.mux_isolation.proofs.Mays.{MayRecord, RecordsAllowed}
use Rattle.mux_isolation.proofs.Meets.{Meets}
use Rattle.mux_isolation.proofs.Named.{Met, holder-local, met, number-met}
use Rattle.mux_isolation.proofs.SentRecorded.{RecordOk, admits-report, all-report, body-report, fitting-report, house-report, payload-report}

-- ---- what is recorded for what the server sends

same-flags : (a t : Bool) → (a && true) ≡ (t && true) → a ≡ t
same-flags true true e = refl
same-flags false false e = refl
same-flags true false e = cc
same-flags false true e = cc

find-own-met : (n c : ℕ) (xs : List Channel) → Each (Meets n c) xs → find (λ x. is_number x.own c) (filter is_channel_held xs) ≡ find (λ x. is_number x.number n) (filter is_channel_held xs)
find-own-met n c [] meets = refl
find-own-met n c (x ∷ xs) meets = by_held (find-own-met n c xs meets.1) (is_channel_held x) refl (is_number x.number n) refl
  where
    by_held : find (λ y. is_number y.own c) (filter is_channel_held xs) ≡ find (λ y. is_number y.number n) (filter is_channel_held xs) → (b : Bool) → is_channel_held x ≡ b → (t : Bool) → is_number x.number n ≡ t → find (λ y. is_number y.own c) (filter is_channel_held (x ∷ xs)) ≡ find (λ y. is_number y.number n) (filter is_channel_held (x ∷ xs))
    by_held ih false e t f = ap (find (λ (y : Channel). is_number y.own c)) (filter-no is_channel_held x xs e) ∙ (ih ∙ sym (ap (find (λ (y : Channel). is_number y.number n)) (filter-no is_channel_held x xs e)))
    by_held ih true e t f = by_test t f (sym (same-flags (is_number x.number n) (is_number x.own c) (subst (λ (b : Bool). (is_number x.number n && b) ≡ (is_number x.own c && b)) e meets.0)) ∙ f)
      where
        by_test : (t : Bool) → is_number x.number n ≡ t → is_number x.own c ≡ t → find (λ y. is_number y.own c) (filter is_channel_held (x ∷ xs)) ≡ find (λ y. is_number y.number n) (filter is_channel_held (x ∷ xs))
        by_test true f g =
            ap (find (λ (y : Channel). is_number y.own c)) (filter-yes is_channel_held x xs e)
            ∙ (find-yes (λ (y : Channel). is_number y.own c) x (filter is_channel_held xs) g
            ∙ sym (ap (find (λ (y : Channel). is_number y.number n)) (filter-yes is_channel_held x xs e) ∙ find-yes (λ (y : Channel). is_number y.number n) x (filter is_channel_held xs) f))
        by_test false f g =
            ap (find (λ (y : Channel). is_number y.own c)) (filter-yes is_channel_held x xs e)
            ∙ (find-no (λ (y : Channel). is_number y.own c) x (filter is_channel_held xs) g
            ∙ (ih ∙ sym (ap (find (λ (y : Channel). is_number y.number n)) (filter-yes is_channel_held x xs e) ∙ find-no (λ (y : Channel). is_number y.number n) x (filter is_channel_held xs) f)))

module _ (before : List Row) (good : AreApart (channels_of before)) (k : ℕ) (p : List ℕ) where
  some-same : (x y : Channel) → Some x ≡ Some y → x ≡ y
  some-same x y e = cc

  -- a message in a channel, under the client's own number
  renamed-report : (m : Summary) (n : ℕ) → read_summary p ≡ Ok m → summary_recipient_of m ≡ Some n → (r : Met (rows_of k before) n) → MayRecord before k (readdressed r.c m) → RecordOk before k (frame_payload (renamed (rows_of k before) p (Some n)))
  renamed-report m n reads some r may m' reads' =
      let at : with_recipient p r.c ≡ renamed (rows_of k before) p (Some n) = sym (ap (with_recipient p) (number-met before good k n r)) in
      subst (MayRecord before k) (ok-same (with_recipient p r.c) (readdressed r.c m) m' (read-renamed p m r.c r.small reads) (ap read_summary at ∙ reads')) may

  act-may : (n : ℕ) (act : Act) → dest_summary before (Within n act) ≡ ToClient k → (r : Met (rows_of k before) n) → MayRecord before k (Within r.c act)
  act-may n (Carries size) to r =
      let f : Legal before n (Carries size) k = within-legal before n (Carries size) k refl to in
      let same : f.channel ≡ r.channel = some-same f.channel r.channel (sym (holder-local before good k n f.channel f.is f.client) ∙ r.is) in
      let at : with_own (rows_of k before) r.c ≡ Some r.channel = find-own-met n r.c (channels_of (rows_of k before)) r.meets ∙ r.is in
      subst (Fits Down size) (sym at) (fits-of Down size r.channel (sym (ap (breach Down (Carries size)) same) ∙ f.fine))
  act-may n act to r = tt

  client-report : (m : Summary) → read_summary p ≡ Ok m → dest_summary before m ≡ ToClient k → Every (RecordOk before k) (for_client (rows_of k before) p m).recorded
  client-report (Open what s w max) reads to = elim (nat_lt (length (held_of (rows_of k before))) 256) as (λ b. Every (RecordOk before k) (elim b as (λ _. Outcome) [ true ↦ records (frame_payload p) | false ↦ sends_payload (open_failure s 4 (codes "too many channels")) ]).recorded) [ true ↦ (open_record, tt) | false ↦ tt ]
    where
      offer : Offered before s what k
      offer = offered before s what k to

      may : MayRecord before k (Open what s w max)
      may = subst (λ (t : Opens). MayRecord before k (Open t s w max)) (sym offer.is) (ap (option_map (λ (f : Forwarding). f.client)) offer.live ∙ ap Some offer.client)

      open_record : RecordOk before k (frame_payload p)
      open_record m' reads' = subst (MayRecord before k) (ok-same p (Open what s w max) m' reads reads') may
  client-report (Confirmation n s w max) reads to = let r : Met (rows_of k before) n = met before good k n (reached before (Confirmation n s w max) n k refl to) in (renamed-report (Confirmation n s w max) n reads refl r tt, tt)
  client-report (Within n act) reads to = let r : Met (rows_of k before) n = met before good k n (reached before (Within n act) n k refl to) in (renamed-report (Within n act) n reads refl r (act-may n act to r), tt)
  client-report (Transport number) reads to = tt
  client-report (Requests what wants) reads to = tt
  client-report (Succeeds rest) reads to = tt
  client-report Refuses reads to = tt

  heard-report : dest before p ≡ ToClient k → Every (RecordOk before k) (received_for (rows_of k before) p).recorded
  heard-report to = by_case (read_summary p) refl
    where
      by_lost : (m : Summary) → read_summary p ≡ Ok m → dest_summary before m ≡ ToClient k → (b : Bool) → Every (RecordOk before k) (elim b as (λ _. Outcome) [ true ↦ for_lost (rows_of k before) m | false ↦ for_client (rows_of k before) p m ]).recorded
      by_lost m reads e true = tt
      by_lost m reads e false = client-report m reads e

      by_case : (r : Result Summary Bad) → read_summary p ≡ r → Every (RecordOk before k) (elim r as (λ _. Outcome) [ Err bad ↦ silent | Ok m ↦ received_summary (rows_of k before) p m ]).recorded
      by_case (Err bad) reads = tt
      by_case (Ok m) reads = by_lost m reads (sym (dest-ok before p m reads) ∙ to) (is_lost (rows_of k before))

-- ---- any row

pub down-row : (before : List Row) (item : Item) (k : ℕ) (o : Outcome) → Every (RecordOk before k) o.recorded → RecordsAllowed before (row_of item k o (rows_of k before))
down-row before item k o recorded = row-split (RecordsAllowed before) item k o (rows_of k before) (λ fw parting fate. fitting-report before k (waiting_down (rows_of k before)) (all_recorded (bare_row item k o) (rows_of k before)) (all-report before k (bare_row item k o) (rows_of k before) recorded))

pub master-recorded : (p : List ℕ) → (received_master p).recorded ≡ []
master-recorded p = by_case (read_summary p)
  where
    by_message : (m : Summary) → (for_master m).recorded ≡ []
    by_message (Requests what true) = refl
    by_message (Requests what false) = refl
    by_message m = refl

    by_case : (r : Result Summary Bad) → (elim r as (λ _. Outcome) [ Err bad ↦ silent | Ok m ↦ for_master m ]).recorded ≡ []
    by_case (Err bad) = refl
    by_case (Ok m) = by_message m

down-heard : (before : List Row) → AreApart (channels_of before) → (p : List ℕ) (d : Dest) → dest before p ≡ d → RecordsAllowed before (received_row before p d)
down-heard before good p ToMaster e = subst (Every (RecordOk before 0)) (sym (master-recorded p)) tt
down-heard before good p (ToClient k) e = down-row before (Heard p) k (received_for (rows_of k before) p) (heard-report before good k p e)
down-heard before good p Disconnects e = tt
down-heard before good p (Breaks why) e = tt

pub down-treat : (policy : Policy) (pid pick : ℕ) (before : List Row) (item : Item) → AreApart (channels_of before) → RecordsAllowed before (treat policy pid pick before item)
down-treat policy pid pick before (Admit k) good = down-row before (Admit k) k (admits before) (admits-report before k)
down-treat policy pid pick before (Says k (Payload p) reply) good = down-row before (Says k (Payload p) reply) k (sent_payload policy k (rows_of k before) pick p) (payload-report before k policy (rows_of k before) pick p)
down-treat policy pid pick before (Says k (Body body) reply) good = down-row before (Says k (Body body) reply) k (sent_body pid k reply (client_has_greeted (rows_of k before)) body) (body-report before k pid reply (client_has_greeted (rows_of k before)) body)
down-treat policy pid pick before (Says k (BadFraming fault) reply) good = down-row before (Says k (BadFraming fault) reply) k (drops (why.BadFrame fault)) tt
down-treat policy pid pick before (HouseSays k id given) good = down-row before (HouseSays k id given) k (house_sends (rows_of k before) id given) (house-report before k (rows_of k before) id given)
down-treat policy pid pick before (Gone k) good = down-row before (Gone k) k silent tt
down-treat policy pid pick before (Heard p) good = down-heard before good p (dest before p) refl
down-treat policy pid pick before item good = tt

pub downs-allowed : (policy : Policy) (pid : ℕ) (rows : List Row) → LogKnown policy pid rows → ForEach RecordsAllowed rows
downs-allowed policy pid rows known = by-treat RecordsAllowed policy pid (λ pick before item good orderly may makes. down-treat policy pid pick before item good) (λ before stream size. tt) rows known.each
