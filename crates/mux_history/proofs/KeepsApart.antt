-- One more row keeps the channels apart.
use Rattle.std.proofs.Common.{◌≡◌, ℕ, List, [], ◌∷◌, ◌++◌, true, false, Bool, refl, ◌∙◌, ap, arith, map, sym, None, subst, inl, Ok, Err}
use Rattle.std.specs.Prelude.{◌==◌, Result, min, ◌^◌, ◌-◌}
use Rattle.std.proofs.lemmas.List.{append-nil}
use Rattle.std.proofs.lemmas.Bool.Decides.{nat_tests}
use Rattle.mux_history.specs.Channels.{Channel, after_item, begun_by, channels_of, channel_after_item, is_number, live_in, opened_down, with_down, with_ups}
use Rattle.mux_history.specs.Controls.{client_has_greeted, house_sends, sent_body}
use Rattle.mux_history.specs.Summary.{Confirmation, Summary, Open, Refuses, Requests, Succeeds, Transport, Within, read_summary, reading}
use Rattle.mux_history.specs.Heard.{Breaks, Dest, Disconnects, ToClient, ToMaster, dest, dest_summary, outcome_of_end, received_for, received_master, next_index}
use Rattle.mux_history.specs.Kept.{Every}
use Rattle.mux_history.specs.Log.{admits, bare_row, received_row, sent_by_client, treat}
use Rattle.mux_history.specs.Policy.{Policy}
use Rattle.mux_history.specs.Rows.{Admit, BadServer, Fate, Gone, Heard, HouseSays, Item, Row, RunEnd, Says, ServerCut, ServerEnd, ServerFailed, Took, rows_of}
use Rattle.mux_history.specs.Said.{Outcome, sent_payload, silent}
use Rattle.ssh_grammar.specs.Messages.{Opens}
use Rattle.ssh_grammar.specs.Said.{BadFraming, Body, Payload}
use Rattle.ssh_grammar.specs.declared.fault.Bad.{Bad}
use Rattle.mux_history.specs.declared.broke.Break.TheVariants as broke
use Rattle.mux_history.specs.declared.ended.Ended.TheVariants as ended
use Rattle.mux_history.proofs.Apart.{AreApart, DownStep, Ids, NotLive, find-none, good-down, good-ids, good-offers, ids-self}
use Rattle.mux_history.proofs.Dests.{confirmed, dest-err, dest-ok, offered}
use Rattle.mux_history.proofs.Finds.{Each}
use Rattle.mux_history.proofs.Quiets.{IsQuiet, Quiet}
use Rattle.mux_history.proofs.Readings.{reading-ok}
use Rattle.mux_history.proofs.SentApart.{IsFresh, LawfulItem, Next, good-parted, good-said, good-still, item-ids, item-master}
use Rattle.mux_history.proofs.Sends.{admits-sent, as_row, body-sent, down-ids, down-step, down-then, house-sent, quiet-heard, quiet-master, row-parts, ups-ids}

-- ---- what the server sends

opened-down-confirmed : (k n s w max : ℕ) (up : List (List ℕ)) → opened_down k up (Confirmation n s w max) ≡ []
opened-down-confirmed k n s w max [] = refl
opened-down-confirmed k n s w max (q ∷ qs) = refl

is_zero : (k : ℕ) → (k == 0) ≡ false → k ≡ 0 → ⊥
is_zero k e z = grind (arith, nat_tests)

module _ (before : List Row) (good : AreApart (channels_of before)) (k : ℕ) (p : List ℕ) (up : List (List ℕ)) (quiet : Every Quiet up) (fw : List (List ℕ)) (parting : Every Quiet fw) (down : List (List ℕ)) (fate : Fate) where
  abbrev received_one : Row
  received_one = as_row (Heard p) k up fw down fate

  heard-still : (m : Summary) → read_summary p ≡ Ok m → IsQuiet m → (x : Channel) → Ids x (after_item received_one x)
  heard-still m reads still x = item-ids received_one x quiet (subst (Ids x) (sym (reading-ok p m (λ m. with_down m x) x reads)) (down-ids m still x))

  begun-heard : (m : Summary) → read_summary p ≡ Ok m → opened_down k up m ≡ [] → begun_by k up (Heard p) ≡ []
  begun-heard m reads none = by_case (k == 0)
    where
      by_case : (b : Bool) → (elim b as (λ _. List Channel) [ true ↦ [] | false ↦ reading p (opened_down k up) [] ]) ≡ []
      by_case true = refl
      by_case false = reading-ok p m (opened_down k up) [] reads ∙ none

  good-confirms : (n s w max : ℕ) → read_summary p ≡ Ok (Confirmation n s w max) → live_in before s ≡ None → AreApart (Next received_one (channels_of before))
  good-confirms n s w max reads unused =
      good-parted received_one parting (map (after_item received_one) (channels_of before) ++ begun_by k up (Heard p))
      (subst (λ (bs : List Channel). AreApart (map (after_item received_one) (channels_of before) ++ bs)) (sym (begun-heard (Confirmation n s w max) reads (opened-down-confirmed k n s w max up)))
      (subst AreApart (sym (append-nil (map (after_item received_one) (channels_of before))))
      (good-down n s w max (after_item received_one) step (channels_of before) (find-none (λ x. is_number x.remote s) (channels_of before) unused) good)))
    where
      step : (x : Channel) → DownStep n s w max x (after_item received_one x)
      step x = by_client (x.client == k)
        where
          by_client : (b : Bool) → DownStep n s w max x (elim b as (λ _. Channel) [ true ↦ with_ups None up (reading p (λ m. with_down m x) x) | false ↦ x ])
          by_client true = subst (λ (y : Channel). DownStep n s w max x (with_ups None up y)) (sym (reading-ok p (Confirmation n s w max) (λ m. with_down m x) x reads)) (down-then n s w max x (with_down (Confirmation n s w max) x) (with_ups None up (with_down (Confirmation n s w max) x)) (down-step n s w max x) (ups-ids None up quiet (with_down (Confirmation n s w max) x)))
          by_client false = inl (ids-self x)

  unused-still : (m : Summary) → read_summary p ≡ Ok m → IsQuiet m → (s : ℕ) (xs : List Channel) → Each (NotLive s) xs → Each (NotLive s) (map (after_item received_one) xs)
  unused-still m reads still s [] all = tt
  unused-still m reads still s (x ∷ xs) all = let i = heard-still m reads still x in ((λ h. ap (λ o. is_number o s) i.remote ∙ all.0 (i.held h)), unused-still m reads still s xs all.1)

  good-offer : (what : Opens) (s w max : ℕ) → read_summary p ≡ Ok (Open what s w max) → live_in before s ≡ None → AreApart (Next received_one (channels_of before))
  good-offer what s w max reads unused =
      good-parted received_one parting (map (after_item received_one) (channels_of before) ++ begun_by k up (Heard p)) (by_zero (k == 0) refl)
    where
      moved : AreApart (map (after_item received_one) (channels_of before))
      moved = good-ids (after_item received_one) (λ x s'. heard-still (Open what s w max) reads tt x) (channels_of before) good

      nothing : AreApart (map (after_item received_one) (channels_of before) ++ [])
      nothing = subst AreApart (sym (append-nil (map (after_item received_one) (channels_of before)))) moved

      by_up : (ups : List (List ℕ)) → (k == 0) ≡ false → AreApart (map (after_item received_one) (channels_of before) ++ opened_down k ups (Open what s w max))
      by_up [] e = good-offers k s w max (map (after_item received_one) (channels_of before)) (is_zero k e) (unused-still (Open what s w max) reads tt s (channels_of before) (find-none (λ x. is_number x.remote s) (channels_of before) unused)) moved
      by_up (q ∷ qs) e = nothing

      by_zero : (b : Bool) → (k == 0) ≡ b → AreApart (map (after_item received_one) (channels_of before) ++ elim b as (λ _. List Channel) [ true ↦ [] | false ↦ reading p (opened_down k up) [] ])
      by_zero true e = nothing
      by_zero false e = subst (λ (bs : List Channel). AreApart (map (after_item received_one) (channels_of before) ++ bs)) (sym (reading-ok p (Open what s w max) (opened_down k up) [] reads)) (by_up up e)

  good-other : (m : Summary) → read_summary p ≡ Ok m → IsQuiet m → opened_down k up m ≡ [] → AreApart (Next received_one (channels_of before))
  good-other m reads still none = good-still received_one (channels_of before) parting (λ x s. heard-still m reads still x) (begun-heard m reads none) good

  opened-end : (ups : List (List ℕ)) (m : Summary) → ((what : Opens) (s w max : ℕ) → m ≡ Open what s w max → ⊥) → opened_down k ups m ≡ []
  opened-end [] (Open what s w max) other = absurd (other what s w max refl)
  opened-end [] m other = refl
  opened-end (q ∷ qs) m other = refl

  pub good-heard : dest before p ≡ ToClient k → AreApart (Next received_one (channels_of before))
  good-heard to = by_case (read_summary p) refl
    where
      by_message : (m : Summary) → read_summary p ≡ Ok m → dest_summary before m ≡ ToClient k → AreApart (Next received_one (channels_of before))
      by_message (Confirmation n s w max) reads e = good-confirms n s w max reads ((confirmed before n s k e).unused)
      by_message (Open what s w max) reads e = good-offer what s w max reads ((offered before s what k e).unused)
      by_message (Within n act) reads e = good-other (Within n act) reads tt (opened-end up (Within n act) (λ what s w max same. cc))
      by_message (Transport number) reads e = good-other (Transport number) reads tt (opened-end up (Transport number) (λ what s w max same. cc))
      by_message (Requests what wants) reads e = good-other (Requests what wants) reads tt (opened-end up (Requests what wants) (λ what s w max same. cc))
      by_message (Succeeds rest) reads e = good-other (Succeeds rest) reads tt (opened-end up (Succeeds rest) (λ what s w max same. cc))
      by_message Refuses reads e = good-other Refuses reads tt (opened-end up Refuses (λ what s w max same. cc))

      by_case : (r : Result Summary Bad) → read_summary p ≡ r → AreApart (Next received_one (channels_of before))
      by_case (Err bad) reads = let bad : Breaks _ ≡ ToClient k = sym (dest-err before p bad reads) ∙ to in cc
      by_case (Ok m) reads = by_message m reads (sym (dest-ok before p m reads) ∙ to)

-- ---- any row

good-bare : (before : List Row) → AreApart (channels_of before) → (item : Item) (o : Outcome) → Every Quiet o.sent → begun_by 0 o.sent item ≡ [] → AreApart (Next (bare_row item 0 o) (channels_of before))
good-bare before good item o quiet none = good-still (bare_row item 0 o) (channels_of before) tt (item-master (bare_row item 0 o) refl) none good

good-mute : (before : List Row) → AreApart (channels_of before) → (row : Row) → Every Quiet row.farewell → row.up ≡ [] → ((x : Channel) → channel_after_item row.item x ≡ x) → begun_by row.client [] row.item ≡ [] → AreApart (Next row (channels_of before))
good-mute before good row parting none stays begun = good-still row (channels_of before) parting (λ x s. item-ids row x (subst (Every Quiet) (sym none) tt) (subst (Ids x) (sym (stays x)) (ids-self x))) (ap (λ u. begun_by row.client u row.item) none ∙ begun) good

abbrev GoodNext : List Row → Row → Type 0
GoodNext before row = IsFresh before row → AreApart (channels_of (row ∷ before))

good-heard-row : (before : List Row) → AreApart (channels_of before) → (p : List ℕ) (d : Dest) → dest before p ≡ d → GoodNext before (received_row before p d)
good-heard-row before good p ToMaster e fresh = good-bare before good (Heard p) (received_master p) (quiet-master p) refl
good-heard-row before good p (ToClient k) e fresh = row-parts (GoodNext before) (Heard p) k (received_for (rows_of k before) p) (rows_of k before) (λ fw parting down fate fresh'. good-heard before good k p (received_for (rows_of k before) p).sent (quiet-heard (rows_of k before) p) fw parting down fate e) fresh
good-heard-row before good p Disconnects e fresh = good-bare before good (Heard p) (outcome_of_end ended.Disconnected) tt refl
good-heard-row before good p (Breaks why) e fresh = good-bare before good (Heard p) (outcome_of_end (ended.Broke (min (next_index before) (2 ^ 64 - 1)) why)) tt refl

-- the channels stay apart by each right row
pub good-treat : (policy : Policy) (pid pick : ℕ) (before : List Row) (item : Item) → AreApart (channels_of before) → LawfulItem before item → IsFresh before (treat policy pid pick before item) → AreApart (channels_of (treat policy pid pick before item ∷ before))
good-treat policy pid pick before (Admit k) good lawful fresh = row-parts (GoodNext before) (Admit k) k (admits before) (rows_of k before) (λ fw parting down fate fresh'. good-mute before good (as_row (Admit k) k (admits before).sent fw down fate) parting (admits-sent before) (λ x. refl) refl) fresh
good-treat policy pid pick before (Says k (Payload p) reply) good lawful fresh = row-parts (GoodNext before) (Says k (Payload p) reply) k (sent_payload policy k (rows_of k before) pick p) (rows_of k before) (λ fw parting down fate fresh'. good-said before good k lawful.0 p reply fw parting down fate policy pick lawful.1 fresh') fresh
good-treat policy pid pick before (Says k (Body body) reply) good lawful fresh = row-parts (GoodNext before) (Says k (Body body) reply) k (sent_body pid k reply (client_has_greeted (rows_of k before)) body) (rows_of k before) (λ fw parting down fate fresh'. good-mute before good (as_row (Says k (Body body) reply) k (sent_body pid k reply (client_has_greeted (rows_of k before)) body).sent fw down fate) parting (body-sent pid k reply (client_has_greeted (rows_of k before)) body) (λ x. refl) refl) fresh
good-treat policy pid pick before (Says k (BadFraming fault) reply) good lawful fresh = row-parts (GoodNext before) (Says k (BadFraming fault) reply) k (sent_by_client policy pid k (rows_of k before) pick (BadFraming fault) reply) (rows_of k before) (λ fw parting down fate fresh'. good-mute before good (as_row (Says k (BadFraming fault) reply) k [] fw down fate) parting refl (λ x. refl) refl) fresh
good-treat policy pid pick before (HouseSays k id given) good lawful fresh = row-parts (GoodNext before) (HouseSays k id given) k (house_sends (rows_of k before) id given) (rows_of k before) (λ fw parting down fate fresh'. good-mute before good (as_row (HouseSays k id given) k (house_sends (rows_of k before) id given).sent fw down fate) parting (house-sent (rows_of k before) id given) (λ x. refl) refl) fresh
good-treat policy pid pick before (Gone k) good lawful fresh = row-parts (GoodNext before) (Gone k) k silent (rows_of k before) (λ fw parting down fate fresh'. good-mute before good (as_row (Gone k) k [] fw down fate) parting refl (λ x. refl) refl) fresh
good-treat policy pid pick before (Heard p) good lawful fresh = good-heard-row before good p (dest before p) refl fresh
good-treat policy pid pick before (BadServer fault) good lawful fresh = good-bare before good (BadServer fault) (outcome_of_end (ended.Broke (min (next_index before) (2 ^ 64 - 1)) (broke.Frame fault))) tt refl
good-treat policy pid pick before ServerEnd good lawful fresh = good-bare before good ServerEnd (outcome_of_end ended.ServerEnd) tt refl
good-treat policy pid pick before (ServerCut left) good lawful fresh = good-bare before good (ServerCut left) (outcome_of_end (ended.Broke (min (next_index before) (2 ^ 64 - 1)) (broke.Cut left))) tt refl
good-treat policy pid pick before ServerFailed good lawful fresh = good-bare before good ServerFailed (outcome_of_end ended.ServerFailed) tt refl
good-treat policy pid pick before (Took stream size) good lawful fresh = good-mute before good (bare_row (Took stream size) stream silent) tt refl (λ x. refl) refl
good-treat policy pid pick before (RunEnd cause) good lawful fresh = good-bare before good (RunEnd cause) silent tt refl
