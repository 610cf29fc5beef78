-- What a reply records for its asker: the reply, and the refusals that waited after it.
use Rattle.std.proofs.Common.{◌≡◌, ℕ, zero, suc, ◌+◌, ◌<◌, List, [], ◌∷◌, ◌++◌, length, true, false, Bool, refl, ◌∙◌, ap, arith, map, sym, Option, Some, None, subst, Ok, Err, drop, length-append}
use Rattle.std.specs.Prelude.{option_map, ◌&&◌, not, Result, replicate}
use Rattle.std.proofs.Math.Seq.{drop-append_seam}
use Rattle.std.proofs.lemmas.List.{append-nil}
use Rattle.std.proofs.lemmas.Option.{slice_get_within}
use Rattle.mux_history.specs.Farewell.{farewell}
use Rattle.mux_history.specs.Summary.{Summary, Refuses, Succeeds, read_summary, reading}
use Rattle.mux_history.specs.Heard.{Breaks, Dest, Disconnects, ToClient, ToMaster, dest, dest_summary, dest_success, for_client, for_lost, received_for, received_summary}
use Rattle.mux_history.specs.Kept.{Asker, ForEach, ReachesAsker, RecordsNext, RecordsReply}
use Rattle.mux_history.specs.Log.{all_recorded, bare_row, fate_with, frames_that_fit, received_row, new_answers, overflow, queued, row_of, treat}
use Rattle.mux_history.specs.Pending.{waiting_down}
use Rattle.mux_history.specs.Policy.{Policy}
use Rattle.mux_history.specs.Requests.{Ask, answers, answers_to, asker, wanted_requests, asks_of, is_reply, is_sent, replies, reply_in, sent_flags, wanted, wanted_by}
use Rattle.mux_history.specs.Rows.{Goes, Heard, Item, Row, is_end, is_lost, loses, rows_of}
use Rattle.mux_history.specs.Said.{Outcome, silent}
use Rattle.ssh_grammar.specs.Frames.{frame_payload}
use Rattle.ssh_grammar.specs.Messages.{Global}
use Rattle.ssh_grammar.specs.Said.{heard}
use Rattle.ssh_grammar.specs.SpellMessage.{request_failure}
use Rattle.ssh_grammar.specs.declared.fault.Bad.{Bad}
use Rattle.mux_history.proofs.Askers.{Orderly, asker-local, master-asker, success-never}
use Rattle.mux_history.proofs.Dests.{Asked, dest-err, dest-ok, refuses-asked, succeeds-asked}
use Rattle.mux_history.proofs.LawfulItems.{client-of, treat-item}
use Rattle.mux_history.proofs.Readings.{reading-ok}
use Rattle.mux_history.proofs.RightLogs.{LogKnown, by-treat}
use Rattle.mux_isolation.proofs.Fulls.{all-fit, drops-if-full, no-overflow}

-- ---- each reply reaches its asker

pub reply-asked : (before : List Row) (k : ℕ) (p : List ℕ) → reading p is_reply false ≡ true → dest before p ≡ ToClient k → Asked before k
reply-asked before k p reply to = by_case (read_summary p) refl
  where
    by_message : (m : Summary) → is_reply m ≡ true → dest_summary before m ≡ ToClient k → Asked before k
    by_message (Succeeds rest) r e = succeeds-asked before rest k e
    by_message Refuses r e = refuses-asked before k e
    by_message m r e = cc

    by_case : (r : Result Summary Bad) → read_summary p ≡ r → Asked before k
    by_case (Err bad) reads = let x : Breaks _ ≡ ToClient k = sym (dest-err before p bad reads) ∙ to in absurd (let h = x in cc)
    by_case (Ok m) reads = by_message m (sym (reading-ok p m is_reply false reads) ∙ reply) (sym (dest-ok before p m reads) ∙ to)

pub reply-never : (before : List Row) (p : List ℕ) → reading p is_reply false ≡ true → dest before p ≡ ToMaster → ⊥
reply-never before p reply to = by_case (read_summary p) refl
  where
    to_client_never : (a : Ask) → ToClient a.client ≡ ToMaster → ⊥
    to_client_never a e = cc

    by_message : (m : Summary) → is_reply m ≡ true → dest_summary before m ≡ ToMaster → ⊥
    by_message (Succeeds rest) r e = master-asker (asker before) (dest_success rest) (success-never rest) e
    by_message Refuses r e = master-asker (asker before) (λ a. ToClient a.client) to_client_never e
    by_message m r e = cc

    by_case : (r : Result Summary Bad) → read_summary p ≡ r → ⊥
    by_case (Err bad) reads = let x : Breaks _ ≡ ToMaster = sym (dest-err before p bad reads) ∙ to in absurd (let h = x in cc)
    by_case (Ok m) reads = by_message m (sym (reading-ok p m is_reply false reads) ∙ reply) (sym (dest-ok before p m reads) ∙ to)

pub serves : (policy : Policy) (pid pick : ℕ) (before : List Row) (item : Item) → ReachesAsker before (treat policy pid pick before item)
serves policy pid pick before item p is reply on = by_item item (sym (treat-item policy pid pick before item) ∙ is) on
  where
    by_dest : (d : Dest) → dest before p ≡ d → is_end (received_row before p d).fate ≡ false → option_map (λ a. a.client) (asker before) ≡ Some (received_row before p d).client
    by_dest ToMaster to on = absurd (reply-never before p reply to)
    by_dest (ToClient k) to on = let a : Asked before k = reply-asked before k p reply to in ap (option_map (λ (a : Ask). a.client)) a.is ∙ ap Some (a.client ∙ sym (client-of (Heard p) k (received_for (rows_of k before) p) (rows_of k before)))
    by_dest Disconnects to on = cc
    by_dest (Breaks why) to on = cc

    by_item : (i : Item) → i ≡ Heard p → is_end (treat policy pid pick before i).fate ≡ false → option_map (λ a. a.client) (asker before) ≡ Some (treat policy pid pick before i).client
    by_item (Heard q) e on = let same : p ≡ q = cc in subst (λ (r : List ℕ). is_end (received_row before r (dest before r)).fate ≡ false → option_map (λ a. a.client) (asker before) ≡ Some (received_row before r (dest before r)).client) same (by_dest (dest before p) refl) on
    by_item i e on = cc

-- ---- one more reply answers one request and those refused after it

count_sent : List Bool → ℕ
count_sent [] = 0
count_sent (true ∷ flags) = suc (count_sent flags)
count_sent (false ∷ flags) = count_sent flags

refused-only : (flags : List Bool) → (n : ℕ) × (answers_to flags [] ≡ replicate n request_failure)
refused-only [] = (0, refl)
refused-only (true ∷ flags) = (0, refl)
refused-only (false ∷ flags) = let r = refused-only flags in (suc r.0, ap (λ xs. request_failure ∷ xs) r.1)

next-answers : (flags : List Bool) (heard : List (List ℕ)) (p : List ℕ) → length heard < count_sent flags → (n : ℕ) × (answers_to flags (heard ++ p ∷ []) ≡ answers_to flags heard ++ (p ∷ replicate n request_failure))
unfolding count_sent
next-answers [] heard p lt = absurd (omega arith)
next-answers (false ∷ flags) heard p lt = let r = next-answers flags heard p lt in (r.0, ap (λ xs. request_failure ∷ xs) r.1)
next-answers (true ∷ flags) [] p lt = let r = refused-only flags in (r.0, ap (λ xs. p ∷ xs) r.1)
next-answers (true ∷ flags) (h ∷ heard) p lt = let r = next-answers flags heard p (omega arith) in (r.0, ap (λ xs. h ∷ xs) r.1)

count-append : (xs ys : List Bool) → count_sent (xs ++ ys) ≡ count_sent xs + count_sent ys
unfolding count_sent
count-append [] ys = omega arith
count-append (true ∷ xs) ys = let h = count-append xs ys in omega arith
count-append (false ∷ xs) ys = count-append xs ys

count-flags : (k : ℕ) (sent : Bool) (o : Option Global) → count_sent (sent_flags sent o) ≡ length (asks_of k sent o)
unfolding count_sent
count-flags k true None = refl
count-flags k false None = refl
count-flags k true (Some what) = refl
count-flags k false (Some what) = refl

count-asks : (rows : List Row) → count_sent (wanted rows) ≡ length (wanted_requests rows)
unfolding count_sent
count-asks [] = refl
count-asks (row ∷ rows) =
    let a = count-append (wanted rows) (sent_flags (is_sent row) (wanted_by row)) in
    let b = count-flags row.client (is_sent row) (wanted_by row) in
    let c = count-asks rows in
    let d = length-append (wanted_requests rows) (asks_of row.client (is_sent row) (wanted_by row)) in
    omega arith

framed-all : (n : ℕ) (p : List ℕ) → map frame_payload (replicate n p) ≡ replicate n (frame_payload p)
framed-all zero p = refl
framed-all (suc n) p = ap (λ xs. frame_payload p ∷ xs) (framed-all n p)

-- ---- the row

module _ (before : List Row) (orderly : Orderly before) (k : ℕ) (p : List ℕ) (reply : reading p is_reply false ≡ true) (asked : Asked before k) (alive : is_lost (rows_of k before) ≡ false) where
  abbrev mute_row : Row
  mute_row = bare_row (Heard p) k silent

  reply-is : reply_in (Heard p) ≡ p ∷ []
  reply-is = ap (λ b. elim b as (λ _. List (List ℕ)) [ true ↦ p ∷ [] | false ↦ [] ]) reply

  fewer : length (replies (rows_of k before)) < count_sent (wanted (rows_of k before))
  fewer = let a = slice_get_within (wanted_requests (rows_of k before)) (length (replies (rows_of k before))) asked.ask (asker-local before k orderly asked) in let b = count-asks (rows_of k before) in omega arith

  answers-row : answers (mute_row ∷ rows_of k before) ≡ answers_to (wanted (rows_of k before)) (replies (rows_of k before) ++ p ∷ [])
  answers-row = ap (λ w. answers_to w (replies (rows_of k before) ++ reply_in (Heard p))) (append-nil (wanted (rows_of k before))) ∙ ap (λ r. answers_to (wanted (rows_of k before)) (replies (rows_of k before) ++ r)) reply-is

  next-row : (n : ℕ) × (answers (mute_row ∷ rows_of k before) ≡ answers (rows_of k before) ++ (p ∷ replicate n request_failure))
  next-row =
      let r = next-answers (wanted (rows_of k before)) (replies (rows_of k before)) p fewer in (r.0, answers-row ∙ r.1)

  new-row : new_answers mute_row (rows_of k before) ≡ frame_payload p ∷ replicate next-row.0 (frame_payload request_failure)
  new-row =
      ap (λ a. map frame_payload (drop (length (answers (rows_of k before))) a)) next-row.1
      ∙ (ap (map frame_payload) (drop-append_seam (answers (rows_of k before)) (p ∷ replicate next-row.0 request_failure))
      ∙ ap (λ xs. frame_payload p ∷ xs) (framed-all next-row.0 request_failure))

  recorded-row : all_recorded mute_row (rows_of k before) ≡ new_answers mute_row (rows_of k before)
  recorded-row = ap (λ b. elim (true && not b) as (λ _. List (List ℕ)) [ true ↦ [] ++ new_answers mute_row (rows_of k before) | false ↦ [] ]) alive

  -- what it does is nothing but the answers
  does-nothing : received_for (rows_of k before) p ≡ silent
  does-nothing = by_case (read_summary p) refl
    where
      by_message : (m : Summary) → is_reply m ≡ true → for_client (rows_of k before) p m ≡ silent
      by_message (Succeeds rest) r = refl
      by_message Refuses r = refl
      by_message m r = cc

      by_case : (r : Result Summary Bad) → read_summary p ≡ r → (elim r as (λ _. Outcome) [ Err bad ↦ silent | Ok m ↦ received_summary (rows_of k before) p m ]) ≡ silent
      by_case (Err bad) reads = refl
      by_case (Ok m) reads = ap (λ b. elim b as (λ _. Outcome) [ true ↦ for_lost (rows_of k before) m | false ↦ for_client (rows_of k before) p m ]) alive ∙ by_message m (sym (reading-ok p m is_reply false reads) ∙ reply)

  silent-records : (row_of (Heard p) k silent (rows_of k before)).fate ≡ Goes → RecordsNext (rows_of k before) (row_of (Heard p) k silent (rows_of k before)) p
  silent-records fate = record {
    refusals = next-row.0;
    recorded = down-is ∙ (all-fit (waiting_down (rows_of k before)) (all_recorded mute_row (rows_of k before)) (no-overflow (overflow (waiting_down (rows_of k before)) (all_recorded mute_row (rows_of k before))) (sym fate-is ∙ fate)) ∙ (recorded-row ∙ new-row));
    in_order = answers-are ∙ next-row.1;
  }
    where
      answers-are : answers (row_of (Heard p) k silent (rows_of k before) ∷ rows_of k before) ≡ answers (mute_row ∷ rows_of k before)
      answers-are = by_case (loses (queued (all_recorded (bare_row (Heard p) k silent) (rows_of k before)) (bare_row (Heard p) k silent) (rows_of k before)))
        where
          by_case : (b : Bool) → answers ((elim b as (λ _. Row) [ true ↦ record (queued (all_recorded (bare_row (Heard p) k silent) (rows_of k before)) (bare_row (Heard p) k silent) (rows_of k before)) { farewell = farewell (queued (all_recorded (bare_row (Heard p) k silent) (rows_of k before)) (bare_row (Heard p) k silent) (rows_of k before)) (rows_of k before) } | false ↦ queued (all_recorded (bare_row (Heard p) k silent) (rows_of k before)) (bare_row (Heard p) k silent) (rows_of k before) ]) ∷ rows_of k before) ≡ answers (mute_row ∷ rows_of k before)
          by_case true = refl
          by_case false = refl

      down-is : (row_of (Heard p) k silent (rows_of k before)).down ≡ frames_that_fit (waiting_down (rows_of k before)) (all_recorded mute_row (rows_of k before))
      down-is = by_case (loses (queued (all_recorded (bare_row (Heard p) k silent) (rows_of k before)) (bare_row (Heard p) k silent) (rows_of k before)))
        where
          by_case : (b : Bool) → (elim b as (λ _. Row) [ true ↦ record (queued (all_recorded (bare_row (Heard p) k silent) (rows_of k before)) (bare_row (Heard p) k silent) (rows_of k before)) { farewell = farewell (queued (all_recorded (bare_row (Heard p) k silent) (rows_of k before)) (bare_row (Heard p) k silent) (rows_of k before)) (rows_of k before) } | false ↦ queued (all_recorded (bare_row (Heard p) k silent) (rows_of k before)) (bare_row (Heard p) k silent) (rows_of k before) ]).down ≡ frames_that_fit (waiting_down (rows_of k before)) (all_recorded mute_row (rows_of k before))
          by_case true = refl
          by_case false = refl

      fate-is : (row_of (Heard p) k silent (rows_of k before)).fate ≡ fate_with Goes (overflow (waiting_down (rows_of k before)) (all_recorded mute_row (rows_of k before)))
      fate-is = by_case (loses (queued (all_recorded (bare_row (Heard p) k silent) (rows_of k before)) (bare_row (Heard p) k silent) (rows_of k before)))
        where
          by_case : (b : Bool) → (elim b as (λ _. Row) [ true ↦ record (queued (all_recorded (bare_row (Heard p) k silent) (rows_of k before)) (bare_row (Heard p) k silent) (rows_of k before)) { farewell = farewell (queued (all_recorded (bare_row (Heard p) k silent) (rows_of k before)) (bare_row (Heard p) k silent) (rows_of k before)) (rows_of k before) } | false ↦ queued (all_recorded (bare_row (Heard p) k silent) (rows_of k before)) (bare_row (Heard p) k silent) (rows_of k before) ]).fate ≡ fate_with Goes (overflow (waiting_down (rows_of k before)) (all_recorded mute_row (rows_of k before)))
          by_case true = refl
          by_case false = refl

  pub records-reply : (row_of (Heard p) k (received_for (rows_of k before) p) (rows_of k before)).fate ≡ Goes → RecordsNext (rows_of k before) (row_of (Heard p) k (received_for (rows_of k before) p) (rows_of k before)) p
  records-reply = subst (λ (o : Outcome). (row_of (Heard p) k o (rows_of k before)).fate ≡ Goes → RecordsNext (rows_of k before) (row_of (Heard p) k o (rows_of k before)) p) (sym does-nothing) silent-records

records-treat : (policy : Policy) (pid pick : ℕ) (before : List Row) (item : Item) → Orderly before → RecordsReply before (treat policy pid pick before item)
records-treat policy pid pick before item orderly p is reply on alive = by_item item (sym (treat-item policy pid pick before item) ∙ is) on alive
  where
    by_dest : (d : Dest) → dest before p ≡ d → (received_row before p d).fate ≡ Goes → is_lost (rows_of (received_row before p d).client before) ≡ false → RecordsNext (rows_of (received_row before p d).client before) (received_row before p d) p
    by_dest ToMaster to on alive = absurd (reply-never before p reply to)
    by_dest (ToClient k) to on alive =
        let mine = client-of (Heard p) k (received_for (rows_of k before) p) (rows_of k before) in
        subst (λ (j : ℕ). RecordsNext (rows_of j before) (received_row before p (ToClient k)) p) (sym mine)
        (records-reply before orderly k p reply (reply-asked before k p reply to) (subst (λ (j : ℕ). is_lost (rows_of j before) ≡ false) mine alive) on)
    by_dest Disconnects to on alive = cc
    by_dest (Breaks why) to on alive = cc

    by_item : (i : Item) → i ≡ Heard p → (treat policy pid pick before i).fate ≡ Goes → is_lost (rows_of (treat policy pid pick before i).client before) ≡ false → RecordsNext (rows_of (treat policy pid pick before i).client before) (treat policy pid pick before i) p
    by_item (Heard q) e on alive = let same : p ≡ q = cc in subst (λ (r : List ℕ). (received_row before r (dest before r)).fate ≡ Goes → is_lost (rows_of (received_row before r (dest before r)).client before) ≡ false → RecordsNext (rows_of (received_row before r (dest before r)).client before) (received_row before r (dest before r)) p) same (by_dest (dest before p) refl) on alive
    by_item i e on alive = cc

pub askers-served : (policy : Policy) (pid : ℕ) (rows : List Row) → LogKnown policy pid rows → ForEach Asker rows
askers-served policy pid rows known = by-treat Asker policy pid (λ pick before item good orderly may makes. record { reaches = serves policy pid pick before item; records = records-treat policy pid pick before item orderly; full = drops-if-full policy pid pick before item }) (λ before stream size. record { reaches = λ p is. cc; records = λ p is. cc; full = λ p is. cc }) rows known.each
