-- A client holds at most 256 channels.
use Rattle.std.proofs.Common.{◌≡◌, ℕ, ◌+◌, ◌≤◌, List, [], ◌∷◌, length, true, false, Bool, refl, ◌∙◌, ap, arith, sym, Option, Some, None, subst, Ok, Err}
use Rattle.std.specs.Prelude.{◌==◌, Result, nat_lt, ◌⊎◌}
use Rattle.std.proofs.Common.{inl, inr}
use Rattle.std.proofs.lemmas.Bool.Decides.{nat_tests}
use Rattle.mux_history.specs.Channels.{Channel, begun_by, held_of, opened_down, opened_up, with_own}
use Rattle.mux_history.specs.Controls.{client_has_greeted, house_sends, sent_body}
use Rattle.mux_history.specs.Summary.{Confirmation, Summary, Open, Refuses, Requests, Succeeds, Transport, Within, read_summary, reading}
use Rattle.mux_history.specs.Heard.{Breaks, Dest, Disconnects, ToClient, ToMaster, dest, for_client, for_lost, received_for, received_summary}
use Rattle.mux_history.specs.Kept.{AtEach, ForEach}
use Rattle.mux_history.specs.Ledger.{room}
use Rattle.mux_history.specs.Log.{admits, received_row, row_of, treat}
use Rattle.mux_history.specs.Policy.{Policy, may_open}
use Rattle.mux_history.specs.Rows.{Admit, Fate, Gone, Heard, HouseSays, Item, Row, Says, is_lost, rows_of}
use Rattle.mux_history.specs.Said.{Outcome, drops, fails_open, on_unused, sent_summary, open_outcome, sent_payload, sends_payload, sends_as, sends_open, silent, records, reason_for, text_for}
use Rattle.mux_bounds.specs.Few.{ChannelsBounded}
use Rattle.mux_outside.specs.declared.house.HouseReply.{HouseReply}
use Rattle.ssh_grammar.specs.Frames.{frame_payload}
use Rattle.ssh_grammar.specs.Messages.{Opens}
use Rattle.ssh_grammar.specs.Said.{BadFraming, Body, Payload}
use Rattle.ssh_grammar.specs.SpellMessage.{open_failure, too_many_channels}
use Rattle.ssh_grammar.specs.declared.fault.Bad.{Bad}
use Rattle.mux_history.specs.declared.why.Why.TheVariants as why
use Rattle.mux_history.proofs.Dests.{dest-ok}
use Rattle.mux_history.proofs.Finds.{filter-no, filter-yes}
use Rattle.mux_history.proofs.OwnRows.{same-client}
use Rattle.mux_history.proofs.RightLogs.{LogKnown, RowKnown}
use Rattle.mux_history.proofs.SentApart.{opened-plain}
use Rattle.mux_history.proofs.Sends.{as_row, row-parts}
use Rattle.mux_bounds.proofs.Begun.{held-count, lost-offers, opened-down-not}

-- what a row begins fits
abbrev pub Few : List Row → Row → Type 0
Few before row = length (held_of (rows_of row.client before)) ≤ 256 → length (held_of (rows_of row.client before)) + length (begun_by row.client row.up row.item) ≤ 256

few-none : (before : List Row) (row : Row) → begun_by row.client row.up row.item ≡ [] → Few before row
few-none before row none le = let l = ap length none in omega arith

-- ---- what a client opens

is-less : (a b : ℕ) → nat_lt a b ≡ true → a + 1 ≤ b
is-less a b e = grind (arith, nat_tests)

opened-one : (k : ℕ) (up : List (List ℕ)) (m : Summary) → length (opened_up k up m) ≤ 1
opened-one k [] m = omega arith
opened-one k (p ∷ ps) (Open what c w max) = omega arith
opened-one k (p ∷ ps) (Transport number) = omega arith
opened-one k (p ∷ ps) (Requests what want) = omega arith
opened-one k (p ∷ ps) (Succeeds rest) = omega arith
opened-one k (p ∷ ps) Refuses = omega arith
opened-one k (p ∷ ps) (Confirmation s c w max) = omega arith
opened-one k (p ∷ ps) (Within s act) = omega arith

opened-not : (k : ℕ) (up : List (List ℕ)) → up ≡ [] → (m : Summary) → opened_up k up m ≡ []
opened-not k up none m = ap (λ u. opened_up k u m) none

other-not : (k : ℕ) (up : List (List ℕ)) (s c w max : ℕ) → opened_up k up (Confirmation s c w max) ≡ []
other-not k [] s c w max = refl
other-not k (p ∷ ps) s c w max = refl

-- an open is sent only where there is room
room-or-none : (policy : Policy) (own : List Row) (pick : ℕ) (p : List ℕ) (c : ℕ) (what : Opens) → ((on_unused c (open_outcome policy own pick p c what) (with_own own c)).sent ≡ []) ⊎ (length (held_of own) + 1 ≤ 256)
room-or-none policy own pick p c what = by_unused (with_own own c)
  where
    by_room : (b : Bool) → nat_lt (length (held_of own)) 256 ≡ b → ((elim b as (λ _. Outcome) [ true ↦ sends_as pick p | false ↦ fails_open c 4 (too_many_channels) ]).sent ≡ []) ⊎ (length (held_of own) + 1 ≤ 256)
    by_room true e = inr (is-less (length (held_of own)) 256 e)
    by_room false e = inl refl

    by_permit : (b : Bool) → ((elim b as (λ _. Outcome) [ true ↦ sends_open own pick p c | false ↦ fails_open c (reason_for what) (text_for what) ]).sent ≡ []) ⊎ (length (held_of own) + 1 ≤ 256)
    by_permit true = by_room (nat_lt (length (held_of own)) 256) refl
    by_permit false = inl refl

    by_unused : (o : Option Channel) → ((on_unused c (open_outcome policy own pick p c what) o).sent ≡ []) ⊎ (length (held_of own) + 1 ≤ 256)
    by_unused None = by_permit (may_open policy what)
    by_unused (Some x) = inl refl

few-said : (policy : Policy) (before : List Row) (k pick : ℕ) (p : List ℕ) (reply : Option HouseReply) (fw down : List (List ℕ)) (fate : Fate) → Few before (as_row (Says k (Payload p) reply) k (sent_payload policy k (rows_of k before) pick p).sent fw down fate)
few-said policy before k pick p reply fw down fate le = by_case (read_summary p) refl
  where
    own : ℕ
    own = length (held_of (rows_of k before))

    by_summary : (m : Summary) → length (held_of (rows_of k before)) + length (opened_up k (sent_summary policy k (rows_of k before) pick p m).sent m) ≤ 256
    by_summary (Open what c w max) = by_room (room-or-none policy (rows_of k before) pick p c what)
      where
        by_room : ((on_unused c (open_outcome policy (rows_of k before) pick p c what) (with_own (rows_of k before) c)).sent ≡ []) ⊎ (length (held_of (rows_of k before)) + 1 ≤ 256) → length (held_of (rows_of k before)) + length (opened_up k (sent_summary policy k (rows_of k before) pick p (Open what c w max)).sent (Open what c w max)) ≤ 256
        by_room (inl none) = let l = ap length (opened-not k (sent_summary policy k (rows_of k before) pick p (Open what c w max)).sent none (Open what c w max)) in omega (arith, le)
        by_room (inr room) = let l = opened-one k (sent_summary policy k (rows_of k before) pick p (Open what c w max)).sent (Open what c w max) in omega arith
    by_summary (Confirmation s c w max) = let l = ap length (other-not k (sent_summary policy k (rows_of k before) pick p (Confirmation s c w max)).sent s c w max) in omega (arith, le)
    by_summary (Transport number) = let l = ap length (opened-plain k (sent_summary policy k (rows_of k before) pick p (Transport number)).sent (Transport number) refl) in omega (arith, le)
    by_summary (Requests what want) = let l = ap length (opened-plain k (sent_summary policy k (rows_of k before) pick p (Requests what want)).sent (Requests what want) refl) in omega (arith, le)
    by_summary (Succeeds rest) = let l = ap length (opened-plain k (sent_summary policy k (rows_of k before) pick p (Succeeds rest)).sent (Succeeds rest) refl) in omega (arith, le)
    by_summary Refuses = let l = ap length (opened-plain k (sent_summary policy k (rows_of k before) pick p Refuses).sent Refuses refl) in omega (arith, le)
    by_summary (Within s act) = let l = ap length (opened-plain k (sent_summary policy k (rows_of k before) pick p (Within s act)).sent (Within s act) refl) in omega (arith, le)

    by_case : (r : Result Summary Bad) → read_summary p ≡ r → length (held_of (rows_of k before)) + length (elim r as (λ _. List Channel) [ Err e ↦ [] | Ok m ↦ opened_up k (elim r as (λ _. Outcome) [ Err bad ↦ drops (why.BadMessage bad) | Ok m ↦ sent_summary policy k (rows_of k before) pick p m ]).sent m ]) ≤ 256
    by_case (Err e) reads = omega (arith, le)
    by_case (Ok m) reads = by_summary m

-- ---- what the server opens

few-heard : (policy : Policy) (pid : ℕ) (before : List Row) (k : ℕ) (p : List ℕ) (fw down : List (List ℕ)) (fate : Fate) → ForEach (RowKnown policy pid) before → dest before p ≡ ToClient k → Few before (as_row (Heard p) k (received_for (rows_of k before) p).sent fw down fate)
few-heard policy pid before k p fw down fate each to le = by_zero (k == 0)
  where
    by_summary : (m : Summary) → read_summary p ≡ Ok m → length (held_of (rows_of k before)) + length (opened_down k (received_summary (rows_of k before) p m).sent m) ≤ 256
    by_summary (Open what s w max) reads = by_lost (is_lost (rows_of k before)) refl
      where
        by_room : (b : Bool) → nat_lt (length (held_of (rows_of k before))) 256 ≡ b → length (held_of (rows_of k before)) + length (opened_down k (elim b as (λ _. Outcome) [ true ↦ records (frame_payload p) | false ↦ sends_payload (open_failure s 4 too_many_channels) ]).sent (Open what s w max)) ≤ 256
        by_room true e = is-less (length (held_of (rows_of k before))) 256 e
        by_room false e = omega (arith, le)

        by_lost : (b : Bool) → is_lost (rows_of k before) ≡ b → length (held_of (rows_of k before)) + length (opened_down k (elim b as (λ _. Outcome) [ true ↦ for_lost (rows_of k before) (Open what s w max) | false ↦ for_client (rows_of k before) p (Open what s w max) ]).sent (Open what s w max)) ≤ 256
        by_lost true lost = absurd (lost-offers policy pid before k s what each lost (sym (dest-ok before p (Open what s w max) reads) ∙ to))
        by_lost false alive = by_room (nat_lt (length (held_of (rows_of k before))) 256) refl
    by_summary (Transport number) reads = let l = ap length (opened-down-not k (received_summary (rows_of k before) p (Transport number)).sent (Transport number) (λ a b c d e. cc)) in omega (arith, le)
    by_summary (Requests what want) reads = let l = ap length (opened-down-not k (received_summary (rows_of k before) p (Requests what want)).sent (Requests what want) (λ a b c d e. cc)) in omega (arith, le)
    by_summary (Succeeds rest) reads = let l = ap length (opened-down-not k (received_summary (rows_of k before) p (Succeeds rest)).sent (Succeeds rest) (λ a b c d e. cc)) in omega (arith, le)
    by_summary Refuses reads = let l = ap length (opened-down-not k (received_summary (rows_of k before) p Refuses).sent Refuses (λ a b c d e. cc)) in omega (arith, le)
    by_summary (Confirmation n s w max) reads = let l = ap length (opened-down-not k (received_summary (rows_of k before) p (Confirmation n s w max)).sent (Confirmation n s w max) (λ a b c d e. cc)) in omega (arith, le)
    by_summary (Within n act) reads = let l = ap length (opened-down-not k (received_summary (rows_of k before) p (Within n act)).sent (Within n act) (λ a b c d e. cc)) in omega (arith, le)

    by_case : (r : Result Summary Bad) → read_summary p ≡ r → length (held_of (rows_of k before)) + length (elim r as (λ _. List Channel) [ Err e ↦ [] | Ok m ↦ opened_down k (elim r as (λ _. Outcome) [ Err bad ↦ silent | Ok m ↦ received_summary (rows_of k before) p m ]).sent m ]) ≤ 256
    by_case (Err e) reads = omega (arith, le)
    by_case (Ok m) reads = by_summary m reads

    by_zero : (b : Bool) → length (held_of (rows_of k before)) + length (elim b as (λ _. List Channel) [ true ↦ [] | false ↦ reading p (opened_down k (received_for (rows_of k before) p).sent) [] ]) ≤ 256
    by_zero true = omega (arith, le)
    by_zero false = by_case (read_summary p) refl

-- ---- any row

few-row : (before : List Row) (item : Item) (k : ℕ) (o : Outcome) → begun_by k o.sent item ≡ [] → Few before (row_of item k o (rows_of k before))
few-row before item k o none = row-parts (Few before) item k o (rows_of k before) (λ fw parting down fate. few-none before (as_row item k o.sent fw down fate) none)

few-dest : (policy : Policy) (pid : ℕ) (before : List Row) (p : List ℕ) → ForEach (RowKnown policy pid) before → (d : Dest) → dest before p ≡ d → Few before (received_row before p d)
few-dest policy pid before p each ToMaster e = few-none before (received_row before p ToMaster) refl
few-dest policy pid before p each (ToClient k) e = row-parts (Few before) (Heard p) k (received_for (rows_of k before) p) (rows_of k before) (λ fw parting down fate. few-heard policy pid before k p fw down fate each e)
few-dest policy pid before p each Disconnects e = few-none before (received_row before p Disconnects) refl
few-dest policy pid before p each (Breaks cause) e = few-none before (received_row before p (Breaks cause)) refl

few-treat : (policy : Policy) (pid pick : ℕ) (before : List Row) (item : Item) → ForEach (RowKnown policy pid) before → Few before (treat policy pid pick before item)
few-treat policy pid pick before (Admit k) each = few-row before (Admit k) k (admits before) refl
few-treat policy pid pick before (Says k (Payload p) reply) each = row-parts (Few before) (Says k (Payload p) reply) k (sent_payload policy k (rows_of k before) pick p) (rows_of k before) (λ fw parting down fate. few-said policy before k pick p reply fw down fate)
few-treat policy pid pick before (Says k (Body body) reply) each = few-row before (Says k (Body body) reply) k (sent_body pid k reply (client_has_greeted (rows_of k before)) body) refl
few-treat policy pid pick before (Says k (BadFraming fault) reply) each = few-row before (Says k (BadFraming fault) reply) k (drops (why.BadFrame fault)) refl
few-treat policy pid pick before (HouseSays k id given) each = few-row before (HouseSays k id given) k (house_sends (rows_of k before) id given) refl
few-treat policy pid pick before (Gone k) each = few-row before (Gone k) k silent refl
few-treat policy pid pick before (Heard p) each = few-dest policy pid before p each (dest before p) refl
few-treat policy pid pick before item each = few-none before (treat policy pid pick before item) refl

pub few-rows : (policy : Policy) (pid : ℕ) (rows : List Row) → ForEach (RowKnown policy pid) rows → ForEach Few rows
few-rows policy pid [] each = tt
few-rows policy pid (row ∷ before) each = (subst (Few before) each.0.is (few-treat policy pid each.0.pick before each.0.item each.1), few-rows policy pid before each.1)

pub few-held : (rows : List Row) → ForEach Few rows → ChannelsBounded rows
few-held [] each k = omega arith
few-held (row ∷ before) each k = by_case (few-held before each.1 k) (row.client == k) refl
  where
    by_case : length (held_of (rows_of k before)) ≤ 256 → (b : Bool) → (row.client == k) ≡ b → length (held_of (rows_of k (row ∷ before))) ≤ 256
    by_case ih true e =
        let mine : row.client ≡ k = same-client row.client k e in
        let fits : length (held_of (rows_of k before)) + length (begun_by row.client row.up row.item) ≤ 256 = subst (λ (j : ℕ). length (held_of (rows_of j before)) ≤ 256 → length (held_of (rows_of j before)) + length (begun_by row.client row.up row.item) ≤ 256) mine each.0 ih in
        let at = ap (λ rs. length (held_of rs)) (filter-yes (λ (r : Row). r.client == k) row before e) in
        let grows = held-count row (rows_of k before) in
        omega arith
    by_case ih false e = subst (λ (rs : List Row). length (held_of rs) ≤ 256) (sym (filter-no (λ (r : Row). r.client == k) row before e)) ih

at-each : (rows : List Row) → ForEach Few rows → AtEach ChannelsBounded rows
at-each [] each = few-held [] each
at-each (row ∷ before) each = (few-held (row ∷ before) each, at-each before each.1)

pub channels-bounded : (policy : Policy) (pid : ℕ) (rows : List Row) → LogKnown policy pid rows → AtEach ChannelsBounded rows
channels-bounded policy pid rows known = at-each rows (few-rows policy pid rows known.each)
