-- What the server sends to a client's channel or forwarding is recorded as it came.
use Rattle.std.proofs.Common.{◌≡◌, ℕ, List, [], ◌∷◌, ◌++◌, length, true, false, Bool, refl, ◌∙◌, ap, map, sym, Option, Some, None, subst, Ok, Err, drop}
use Rattle.std.specs.Prelude.{MatchBool, not, ◌&&◌, nat_lt, codes}
use Rattle.std.proofs.Math.Seq.{drop-append_seam}
use Rattle.std.proofs.lemmas.List.{append-nil}
use Rattle.mux_history.specs.Channels.{Channel, channels_of, held_of, holder, live_in}
use Rattle.mux_history.specs.Forwardings.{Forwarding, live_at}
use Rattle.mux_history.specs.Summary.{Act, Confirmation, Fails, Summary, Open, Within, read_summary, reading, summary_recipient_of}
use Rattle.mux_history.specs.Heard.{Breaks, Dest, Disconnects, ToClient, ToMaster, dest, dest_confirmation, dest_summary, dest_open, dest_within, for_client, for_lost, received_for, received_summary, pending_open, renamed}
use Rattle.mux_history.specs.Kept.{Delivers, FailsOpen, ForEach, LeavesLate, Reaches, ReachesChannel, ReachesForwarding}
use Rattle.mux_history.specs.Ledger.{breach}
use Rattle.mux_history.specs.Log.{all_recorded, bare_row, fate_with, frames_that_fit, goes, received_row, new_answers, overflow, row_of, treat}
use Rattle.mux_history.specs.Pending.{waiting_down}
use Rattle.mux_history.specs.Policy.{Policy}
use Rattle.mux_history.specs.Requests.{answers, answers_to, is_reply, replies, reply_in, wanted}
use Rattle.mux_history.specs.Rows.{Goes, Heard, Item, Row, is_end, is_lost, rows_of}
use Rattle.mux_history.specs.Said.{Outcome, sends_payload, silent, records}
use Rattle.ssh_grammar.specs.Frames.{frame_payload}
use Rattle.ssh_grammar.specs.Messages.{Forwarded, Key}
use Rattle.ssh_grammar.specs.SpellMessage.{open_failure, with_recipient}
use Rattle.ssh_grammar.specs.declared.fault.Breach.{Breach}
use Rattle.ssh_grammar.specs.declared.side.Side.TheVariants.{Down}
use Rattle.mux_history.specs.declared.broke.Break.TheVariants as broke
use Rattle.mux_history.proofs.Apart.{AreApart}
use Rattle.mux_history.proofs.Dests.{Offered, Reached, dest-ok, offered, reached}
use Rattle.mux_history.proofs.LawfulItems.{client-of, treat-item}
use Rattle.mux_history.proofs.Readings.{reading-ok}
use Rattle.mux_history.proofs.RightLogs.{LogKnown, by-treat}
use Rattle.mux_isolation.proofs.Fulls.{all-fit, drops-if-full, heard-goes, no-overflow, row-whole}
use Rattle.mux_isolation.proofs.Named.{Met, holder-local, met, number-met}

-- ---- what a row of the server's payload records

-- no answer comes with it, unless it is a reply
none-new : (k : ℕ) (p : List ℕ) (o : Outcome) (own : List Row) → reading p is_reply false ≡ false → new_answers (bare_row (Heard p) k o) own ≡ []
none-new k p o own other =
    ap (λ a. map frame_payload (drop (length (answers own)) a)) (same ∙ sym (append-nil (answers own)))
    ∙ ap (map frame_payload) (drop-append_seam (answers own) [])
  where
    none_in : reply_in (Heard p) ≡ []
    none_in = ap (λ b. elim b as (λ _. List (List ℕ)) [ true ↦ p ∷ [] | false ↦ [] ]) other

    same : answers (bare_row (Heard p) k o ∷ own) ≡ answers own
    same =
        ap (λ w. answers_to w (replies own ++ reply_in (Heard p))) (append-nil (wanted own))
        ∙ (ap (λ r. answers_to (wanted own) (replies own ++ r)) none_in
        ∙ ap (answers_to (wanted own)) (append-nil (replies own)))

-- what the message does is recorded, where the row goes on
heard-recorded : (k : ℕ) (p : List ℕ) (own : List Row) → reading p is_reply false ≡ false → (row_of (Heard p) k (received_for own p) own).fate ≡ Goes → (row_of (Heard p) k (received_for own p) own).down ≡ (received_for own p).recorded
heard-recorded k p own other = row-whole (λ row. row.fate ≡ Goes → row.down ≡ (received_for own p).recorded) (Heard p) k (received_for own p) own fits
  where
    no_more : (b : Bool) → (elim b as (λ _. List (List ℕ)) [ true ↦ (received_for own p).recorded ++ new_answers (bare_row (Heard p) k (received_for own p)) own | false ↦ (received_for own p).recorded ]) ≡ (received_for own p).recorded
    no_more true = ap (λ fs. (received_for own p).recorded ++ fs) (none-new k p (received_for own p) own other) ∙ append-nil (received_for own p).recorded
    no_more false = refl

    fits : (fw : List (List ℕ)) → fate_with (received_for own p).ends (overflow (waiting_down own) (all_recorded (bare_row (Heard p) k (received_for own p)) own)) ≡ Goes → frames_that_fit (waiting_down own) (all_recorded (bare_row (Heard p) k (received_for own p)) own) ≡ (received_for own p).recorded
    fits fw going =
        all-fit (waiting_down own) (all_recorded (bare_row (Heard p) k (received_for own p)) own) (no-overflow (overflow (waiting_down own) (all_recorded (bare_row (Heard p) k (received_for own p)) own)) (sym (ap (λ fate. fate_with fate (overflow (waiting_down own) (all_recorded (bare_row (Heard p) k (received_for own p)) own))) (heard-goes own p)) ∙ going))
        ∙ no_more (goes (received_for own p).ends && not (is_lost own))

-- of a client that is not lost
alive-does : (own : List Row) (p : List ℕ) (m : Summary) → read_summary p ≡ Ok m → is_lost own ≡ false → received_for own p ≡ for_client own p m
alive-does own p m reads alive =
    ap (λ r. elim r as (λ _. Outcome) [ Err bad ↦ silent | Ok m ↦ received_summary own p m ]) reads
    ∙ ap (λ b. elim b as (λ _. Outcome) [ true ↦ for_lost own m | false ↦ for_client own p m ]) alive

sent-up : (k : ℕ) (p : List ℕ) (own : List Row) → (row_of (Heard p) k (received_for own p) own).up ≡ (received_for own p).sent
sent-up k p own = row-whole (λ row. row.up ≡ (received_for own p).sent) (Heard p) k (received_for own p) own (λ fw. refl)

-- ---- to a client

some-same : {X : Type 0} (x y : X) → Some x ≡ Some y → x ≡ y
some-same x y e = cc

module _ (before : List Row) (good : AreApart (channels_of before)) (p : List ℕ) (k : ℕ) where
  mine : (row_of (Heard p) k (received_for (rows_of k before) p) (rows_of k before)).client ≡ k
  mine = client-of (Heard p) k (received_for (rows_of k before) p) (rows_of k before)

  other-reads : (m : Summary) → read_summary p ≡ Ok m → is_reply m ≡ false → reading p is_reply false ≡ false
  other-reads m reads other = reading-ok p m is_reply false reads ∙ other

  channel-reached : (m : Summary) (n : ℕ) → read_summary p ≡ Ok m → summary_recipient_of m ≡ Some n → is_reply m ≡ false → for_client (rows_of k before) p m ≡ records (frame_payload (renamed (rows_of k before) p (Some n))) → dest before p ≡ ToClient k → ReachesChannel before (received_row before p (ToClient k)) p n
  channel-reached m n reads some other does to = record {
    channel = at.channel;
    held = at.is;
    client = mine ∙ sym at.client;
    number = own.c;
    named = ap (λ (x : Channel). x.own) (some-same at.channel own.channel (sym (holder-local before good k n at.channel at.is at.client) ∙ own.is)) ∙ own.owns;
    recorded = λ alive going.
        let here : is_lost (rows_of k before) ≡ false = subst (λ (j : ℕ). is_lost (rows_of j before) ≡ false) mine alive in
        heard-recorded k p (rows_of k before) (other-reads m reads other) going
        ∙ (ap (λ (o : Outcome). o.recorded) (alive-does (rows_of k before) p m reads here ∙ does)
        ∙ ap (λ c. frame_payload (with_recipient p c) ∷ []) (number-met before good k n own));
  }
    where
      at : Reached before n k
      at = reached before m n k some (sym (dest-ok before p m reads) ∙ to)

      own : Met (rows_of k before) n
      own = met before good k n at

  open-reached : (key : Key) (s w max : ℕ) (f : Forwarding) → read_summary p ≡ Ok (Open (Forwarded key) s w max) → dest before p ≡ ToClient k → live_at before key ≡ Some f → ReachesForwarding before (received_row before p (ToClient k)) p s f
  open-reached key s w max f reads to live = record {
    client = mine ∙ (sym offer.client ∙ ap (λ (x : Forwarding). x.client) same);
    recorded = λ alive going. subst (λ (j : ℕ). MatchBool (nat_lt (length (held_of (rows_of j before))) 256) ((received_row before p (ToClient k)).down ≡ frame_payload p ∷ []) (FailsOpen (received_row before p (ToClient k)) s)) (sym mine)
        (by_room (subst (λ (j : ℕ). is_lost (rows_of j before) ≡ false) mine alive) going (nat_lt (length (held_of (rows_of k before))) 256) refl);
  }
    where
      offer : Offered before s (Forwarded key) k
      offer = offered before s (Forwarded key) k (sym (dest-ok before p (Open (Forwarded key) s w max) reads) ∙ to)

      same_key : key ≡ offer.key
      same_key = let e : Forwarded key ≡ Forwarded offer.key = offer.is in cc

      same : offer.forwarding ≡ f
      same = some-same offer.forwarding f (sym offer.live ∙ (ap (live_at before) (sym same_key) ∙ live))

      by_room : is_lost (rows_of k before) ≡ false → (received_row before p (ToClient k)).fate ≡ Goes → (b : Bool) → nat_lt (length (held_of (rows_of k before))) 256 ≡ b → MatchBool b ((received_row before p (ToClient k)).down ≡ frame_payload p ∷ []) (FailsOpen (received_row before p (ToClient k)) s)
      by_room alive going true e = records_it ∙ ap (λ (o : Outcome). o.recorded) (does true e)
        where
          records_it : (received_row before p (ToClient k)).down ≡ (received_for (rows_of k before) p).recorded
          records_it = heard-recorded k p (rows_of k before) (other-reads (Open (Forwarded key) s w max) reads refl) going

          does : (b : Bool) → nat_lt (length (held_of (rows_of k before))) 256 ≡ b → received_for (rows_of k before) p ≡ (elim b as (λ _. Outcome) [ true ↦ records (frame_payload p) | false ↦ sends_payload (open_failure s 4 (codes "too many channels")) ])
          does b e = alive-does (rows_of k before) p (Open (Forwarded key) s w max) reads alive ∙ ap (λ b. elim b as (λ _. Outcome) [ true ↦ records (frame_payload p) | false ↦ sends_payload (open_failure s 4 (codes "too many channels")) ]) e
      by_room alive going false e = record { recorded = records_it ∙ ap (λ (o : Outcome). o.recorded) does; sent = sent-up k p (rows_of k before) ∙ ap (λ (o : Outcome). o.sent) does }
        where
          records_it : (received_row before p (ToClient k)).down ≡ (received_for (rows_of k before) p).recorded
          records_it = heard-recorded k p (rows_of k before) (other-reads (Open (Forwarded key) s w max) reads refl) going

          does : received_for (rows_of k before) p ≡ sends_payload (open_failure s 4 (codes "too many channels"))
          does = alive-does (rows_of k before) p (Open (Forwarded key) s w max) reads alive ∙ ap (λ b. elim b as (λ _. Outcome) [ true ↦ records (frame_payload p) | false ↦ sends_payload (open_failure s 4 (codes "too many channels")) ]) e

  client-reached : (m : Summary) → read_summary p ≡ Ok m → dest before p ≡ ToClient k → Reaches before (received_row before p (ToClient k)) p m
  client-reached (Open (Forwarded key) s w max) reads to = λ f live. open-reached key s w max f reads to live
  client-reached (Confirmation n s w max) reads to = channel-reached (Confirmation n s w max) n reads refl refl refl to
  client-reached (Within n act) reads to = channel-reached (Within n act) n reads refl refl refl to
  client-reached m reads to = tt

-- ---- to the master goes no message of a channel, and no open for a forwarding that is live

awaited-never : (before : List Row) (n : ℕ) (d : Channel → Dest) → ((x : Channel) → d x ≡ ToMaster → ⊥) → (o : Option Channel) → (elim o as (λ _. Dest) [ None ↦ Breaks (broke.NotPending n) | Some x ↦ d x ]) ≡ ToMaster → ⊥
awaited-never before n d never None e = cc
awaited-never before n d never (Some x) e = never x e

confirmation-never : (before : List Row) (n s : ℕ) → dest_confirmation before n s ≡ ToMaster → ⊥
confirmation-never before n s = awaited-never before n (λ x. elim (live_in before s) as (λ _. Dest) [ Some y ↦ Breaks (broke.NumberInUse s) | None ↦ ToClient x.client ]) (λ x e. by_live x (live_in before s) e) (pending_open before n)
  where
    by_live : (x : Channel) (o : Option Channel) → (elim o as (λ _. Dest) [ Some y ↦ Breaks (broke.NumberInUse s) | None ↦ ToClient x.client ]) ≡ ToMaster → ⊥
    by_live x (Some y) e = cc
    by_live x None e = cc

within-never : (before : List Row) (n : ℕ) (act : Act) → dest_within before n act ≡ ToMaster → ⊥
within-never before n Fails = awaited-never before n (λ x. ToClient x.client) (λ x e. to_client x e) (pending_open before n)
  where
    to_client : (x : Channel) → ToClient x.client ≡ ToMaster → ⊥
    to_client x e = cc
within-never before n act = by_holder (holder before n)
  where
    by_breach : (x : Channel) (o : Option Breach) → (elim o as (λ _. Dest) [ Some b ↦ Breaks (broke.Channel n b) | None ↦ ToClient x.client ]) ≡ ToMaster → ⊥
    by_breach x (Some b) e = cc
    by_breach x None e = cc

    by_holder : (o : Option Channel) → (elim o as (λ _. Dest) [ None ↦ Breaks (broke.NoChannel n) | Some x ↦ elim (breach Down act x) as (λ _. Dest) [ Some b ↦ Breaks (broke.Channel n b) | None ↦ ToClient x.client ] ]) ≡ ToMaster → ⊥
    by_holder None e = cc
    by_holder (Some x) e = by_breach x (breach Down act x) e

open-never : (before : List Row) (s : ℕ) (key : Key) (f : Forwarding) → live_at before key ≡ Some f → dest_open before s (Forwarded key) ≡ ToMaster → ⊥
open-never before s key f live = by_live (live_in before s)
  where
    by_at : (o : Option Forwarding) → live_at before key ≡ o → (elim o as (λ _. Dest) [ Some g ↦ ToClient g.client | None ↦ ToMaster ]) ≡ ToMaster → ⊥
    by_at (Some g) at e = cc
    by_at None at e = let bad : Some f ≡ None = sym live ∙ at in absurd (let h = bad in cc)

    by_live : (o : Option Channel) → (elim o as (λ _. Dest) [ Some x ↦ Breaks (broke.NumberInUse s) | None ↦ elim (live_at before key) as (λ _. Dest) [ Some g ↦ ToClient g.client | None ↦ ToMaster ] ]) ≡ ToMaster → ⊥
    by_live (Some x) e = cc
    by_live None e = by_at (live_at before key) refl e

master-reached : (before : List Row) (row : Row) (p : List ℕ) (m : Summary) → dest_summary before m ≡ ToMaster → Reaches before row p m
master-reached before row p (Open (Forwarded key) s w max) to = λ f live. absurd (open-never before s key f live to)
master-reached before row p (Confirmation n s w max) to = absurd (confirmation-never before n s to)
master-reached before row p (Within n act) to = absurd (within-never before n act to)
master-reached before row p m to = tt

ended-never : true ≡ false → ⊥
ended-never e = cc

heard-reached : (before : List Row) → AreApart (channels_of before) → (p : List ℕ) (m : Summary) → read_summary p ≡ Ok m → (d : Dest) → dest before p ≡ d → is_end (received_row before p d).fate ≡ false → Reaches before (received_row before p d) p m
heard-reached before good p m reads ToMaster to on = master-reached before (received_row before p ToMaster) p m (sym (dest-ok before p m reads) ∙ to)
heard-reached before good p m reads (ToClient k) to on = client-reached before good p k m reads to
heard-reached before good p m reads Disconnects to on = absurd (ended-never on)
heard-reached before good p m reads (Breaks cause) to on = absurd (ended-never on)

reaches-treat : (policy : Policy) (pid pick : ℕ) (before : List Row) (item : Item) → AreApart (channels_of before) → (p : List ℕ) (m : Summary) → (treat policy pid pick before item).item ≡ Heard p → read_summary p ≡ Ok m → is_end (treat policy pid pick before item).fate ≡ false → Reaches before (treat policy pid pick before item) p m
reaches-treat policy pid pick before item good p m is reads on = by_item item (sym (treat-item policy pid pick before item) ∙ is) on
  where
    by_item : (i : Item) → i ≡ Heard p → is_end (treat policy pid pick before i).fate ≡ false → Reaches before (treat policy pid pick before i) p m
    by_item (Heard q) e on = let same : p ≡ q = cc in subst (λ (r : List ℕ). is_end (received_row before r (dest before r)).fate ≡ false → Reaches before (received_row before r (dest before r)) p m) same (heard-reached before good p m reads (dest before p) refl) on
    by_item i e on = absurd (let h = e in cc)

-- ---- a client that was lost before

lost-does : (own : List Row) (p : List ℕ) (m : Summary) → read_summary p ≡ Ok m → is_lost own ≡ true → received_for own p ≡ for_lost own m
lost-does own p m reads lost =
    ap (λ r. elim r as (λ _. Outcome) [ Err bad ↦ silent | Ok m ↦ received_summary own p m ]) reads
    ∙ ap (λ b. elim b as (λ _. Outcome) [ true ↦ for_lost own m | false ↦ for_client own p m ]) lost

late-row : (k : ℕ) (p : List ℕ) (m : Summary) (own : List Row) → read_summary p ≡ Ok m → is_lost own ≡ true → LeavesLate own (row_of (Heard p) k (received_for own p) own) m
late-row k p m own reads lost = subst (λ (o : Outcome). LeavesLate own (row_of (Heard p) k o own) m) (sym (lost-does own p m reads lost)) (row-whole (λ row. LeavesLate own row m) (Heard p) k (for_lost own m) own (λ fw. record { recorded = ap (frames_that_fit (waiting_down own)) nothing; sent = refl }))
  where
    nothing : all_recorded (bare_row (Heard p) k (for_lost own m)) own ≡ []
    nothing = ap (λ b. elim (true && not b) as (λ _. List (List ℕ)) [ true ↦ [] ++ new_answers (bare_row (Heard p) k (for_lost own m)) own | false ↦ [] ]) lost

late-heard : (before : List Row) (p : List ℕ) (m : Summary) → read_summary p ≡ Ok m → (d : Dest) → ((received_row before p d).client ≡ 0 → ⊥) → is_lost (rows_of (received_row before p d).client before) ≡ true → LeavesLate (rows_of (received_row before p d).client before) (received_row before p d) m
late-heard before p m reads ToMaster real lost = absurd (real refl)
late-heard before p m reads (ToClient k) real lost =
    subst (λ (j : ℕ). is_lost (rows_of j before) ≡ true → LeavesLate (rows_of j before) (received_row before p (ToClient k)) m)
    (sym (client-of (Heard p) k (received_for (rows_of k before) p) (rows_of k before)))
    (λ here. late-row k p m (rows_of k before) reads here) lost
late-heard before p m reads Disconnects real lost = absurd (real refl)
late-heard before p m reads (Breaks cause) real lost = absurd (real refl)

late-treat : (policy : Policy) (pid pick : ℕ) (before : List Row) (item : Item) (p : List ℕ) (m : Summary) → (treat policy pid pick before item).item ≡ Heard p → read_summary p ≡ Ok m → ((treat policy pid pick before item).client ≡ 0 → ⊥) → is_lost (rows_of (treat policy pid pick before item).client before) ≡ true → LeavesLate (rows_of (treat policy pid pick before item).client before) (treat policy pid pick before item) m
late-treat policy pid pick before item p m is reads = subst (λ (i : Item). ((treat policy pid pick before i).client ≡ 0 → ⊥) → is_lost (rows_of (treat policy pid pick before i).client before) ≡ true → LeavesLate (rows_of (treat policy pid pick before i).client before) (treat policy pid pick before i) m) (sym (sym (treat-item policy pid pick before item) ∙ is)) (late-heard before p m reads (dest before p))

pub delivered : (policy : Policy) (pid : ℕ) (rows : List Row) → LogKnown policy pid rows → ForEach Delivers rows
delivered policy pid rows known = by-treat Delivers policy pid (λ pick before item good orderly lawful makes. record { reaches = reaches-treat policy pid pick before item good; lost = late-treat policy pid pick before item; full = drops-if-full policy pid pick before item }) (λ before stream size. record { reaches = λ p m is. cc; lost = λ p m is. cc; full = λ p is. cc }) rows known.each
