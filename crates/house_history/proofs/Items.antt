-- Items of others leave the forwarder's run as it is, and what the server sends at once.
use Rattle.std.proofs.Common.{◌≡◌, ◌≤◌, ◌+◌, ◌*◌, ℕ, zero, suc, Bool, true, false, ◌||◌, Some, None, List, [], ◌∷◌, ◌++◌, refl, sym, ap, ◌∙◌, subst, arith, map, length}
use Rattle.std.specs.Prelude.{◌==◌, ◌&&◌, drop}
use Rattle.mux_outside.specs.declared.house.HouseReply.{HouseReply}
use Rattle.ssh_fields.specs.Fields.{AreBytes}
use Rattle.ssh_fields.proofs.Fields.{AreBytes-append}
use Rattle.ssh_grammar.specs.Frames.{Faulty, Frame, Front, More, first_frame}
use Rattle.ssh_grammar.specs.Said.{BadFraming, Body, InProxy, Payload, Outgoing, parse, parse_by, parse_front, said}
use Rattle.ssh_grammar.specs.declared.framing.Framing.TheVariants as framing
use Rattle.mux_history.specs.declared.limits.TheConstants.{HOUSE}
use Rattle.mux_history.specs.Choices.{FromLists, pick_of, replies_given, reply_at, with_reply}
use Rattle.mux_history.specs.Controls.{body_asks, client_has_greeted, house_sends}
use Rattle.mux_history.specs.Heard.{is_server_payload}
use Rattle.mux_history.specs.Journal.{received_item, new_received, new_sayings, sent_item}
use Rattle.mux_history.specs.Kept.{AtEach}
use Rattle.mux_history.specs.Log.{Setting, admits, is_took, makes_next, makes_row, more_all, more_of, next_row, sent_by_client, treat}
use Rattle.mux_history.specs.Pending.{pending}
use Rattle.mux_history.specs.Policy.{Policy}
use Rattle.mux_history.specs.Rows.{Admit, BadServer, Gone, Heard, HouseSays, Item, Row, RunEnd, Says, ServerCut, ServerEnd, ServerFailed, Took, is_end, is_run_over, is_lost, rows_of}
use Rattle.mux_history.specs.Said.{silent}
use Rattle.mux_history.specs.Settings.{by_lists}
use Rattle.mux_history.proofs.Bools.{or-yes}
use Rattle.mux_history.proofs.LawfulItems.{client-of}
use Rattle.mux_history.proofs.Marks.{FrontBytes, in-bytes}
use Rattle.house_forward.specs.RelayTraces.{Trace}
use Rattle.house_history.proofs.Lists.{Each}
use Rattle.house_history.proofs.Receiving.{Recorded}
use Rattle.house_history.proofs.RowsOf.{item_size, total}
use Rattle.house_history.proofs.AnswersOf.{IsSizedItem, atEach-down, atEach-here}
use Rattle.house_history.proofs.Going.{After, Ends, GoesOn, Going, IsOn, IsOver, Next, RightAt, Still, going-others, in-kept, others-stay, still-of, still-same}

-- ---- whose row an item makes

-- the client that an item names, 0 where it names none
abbrev pub client_of : Item → ℕ
client_of (Admit k) = k
client_of (Says k outgoing reply) = k
client_of (HouseSays k id reply) = k
client_of (Gone k) = k
client_of (Took stream size) = stream
client_of item = 0

pub client-is : (policy : Policy) (pid pick : ℕ) (rows : List Row) (item : Item) → is_server_payload item ≡ false → (treat policy pid pick rows item).client ≡ client_of item
client-is policy pid pick rows (Admit k) e = client-of (Admit k) k (admits rows) (rows_of k rows)
client-is policy pid pick rows (Says k outgoing reply) e = client-of (Says k outgoing reply) k (sent_by_client policy pid k (rows_of k rows) pick outgoing reply) (rows_of k rows)
client-is policy pid pick rows (HouseSays k id reply) e = client-of (HouseSays k id reply) k (house_sends (rows_of k rows) id reply) (rows_of k rows)
client-is policy pid pick rows (Gone k) e = client-of (Gone k) k silent (rows_of k rows)
client-is policy pid pick rows (Heard p) e = absurd (let h : true ≡ false = e in cc)
client-is policy pid pick rows item e = refl

-- ---- items of others

abbrev pub IsOther : Item → Type 0
IsOther (Admit k) = (k == HOUSE) ≡ false
IsOther (Says k outgoing reply) = (k == HOUSE) ≡ false
IsOther (HouseSays k id reply) = (k == HOUSE) ≡ false
IsOther (Gone k) = (k == HOUSE) ≡ false
IsOther (Took stream size) = (stream == HOUSE) ≡ false
IsOther (Heard p) = ⊥
IsOther (RunEnd cause) = ⊥
IsOther item = Unit {0}

other-client : (item : Item) → IsOther item → (is_server_payload item ≡ false) × ((client_of item == HOUSE) ≡ false)
other-client (Admit k) o = (refl, o)
other-client (Says k outgoing reply) o = (refl, o)
other-client (HouseSays k id reply) o = (refl, o)
other-client (Gone k) o = (refl, o)
other-client (Took stream size) o = (refl, o)
other-client (Heard p) o = absurd o
other-client (RunEnd cause) o = absurd o
other-client item o = (refl, refl)

pub other-row : (policy : Policy) (pid pick : ℕ) (rows : List Row) (item : Item) → IsOther item → ((treat policy pid pick rows item).client == HOUSE) ≡ false
other-row policy pid pick rows item o =
    let c = other-client item o in
    ap (λ (k : ℕ). k == HOUSE) (client-is policy pid pick rows item c.0) ∙ c.1

-- the reply of the forwarder doesn't change whose item it is
reply-other : (picks : List ℕ) (given : List HouseReply) (rows : List Row) (item : Item) → IsOther item → IsOther (with_reply (FromLists picks given) rows item)
reply-other picks given rows (Says k (Body body) reply) o = elim (client_has_greeted (rows_of k rows) && body_asks body) as (λ b. IsOther (elim b as (λ _. Item) [ true ↦ Says k (Body body) (Some (reply_at given (replies_given rows))) | false ↦ Says k (Body body) None ])) [ true ↦ o | false ↦ o ]
reply-other picks given rows (Says k (Payload p) reply) o = o
reply-other picks given rows (Says k (BadFraming fault) reply) o = o
reply-other picks given rows item o = o

-- a row of another client
pub after-row : (row : Row) (rows : List Row) (trace : Trace) → (row.client == HOUSE) ≡ false → After rows trace → After (row ∷ rows) trace
after-row row rows trace other (IsOver ended kept still) =
    IsOver (or-yes (is_end row.fate) (is_run_over rows) ended) (ap is_lost (others-stay row rows other) ∙ kept)
    (still-same rows (row ∷ rows) trace (others-stay row rows other) still)
after-row row rows trace other (IsOn recorded g) = by_case (is_end row.fate) refl
  where
    by_case : (b : Bool) → is_end row.fate ≡ b → After (row ∷ rows) trace
    by_case true e =
        IsOver (ap (λ (b : Bool). b || is_run_over rows) e) (ap is_lost (others-stay row rows other) ∙ in-kept (rows_of HOUSE rows) g.inside)
        (still-same rows (row ∷ rows) trace (others-stay row rows other) (still-of rows trace recorded g))
    by_case false e = IsOn recorded (going-others row rows trace recorded other e g)

pub next-other : (policy : Policy) (pid : ℕ) (picks : List ℕ) (given : List HouseReply) (rows : List Row) (item : Item) → IsOther item → ((next_row (by_lists policy pid picks given) rows item).client == HOUSE) ≡ false
next-other policy pid picks given rows item o =
    other-row policy pid (pick_of (FromLists picks given) rows item) rows (with_reply (FromLists picks given) rows item) (reply-other picks given rows item o)

pub others-item : (policy : Policy) (pid : ℕ) (picks : List ℕ) (given : List HouseReply) (item : Item) (rows : List Row) (trace : Trace) → IsOther item → After rows trace
    → After (more_of (by_lists policy pid picks given) rows item) trace
others-item policy pid picks given item rows trace o after = by_next (makes_next rows item)
  where
    by_next : (b : Bool) → After (elim b as (λ _. List Row) [ false ↦ rows | true ↦ next_row (by_lists policy pid picks given) rows item ∷ rows ]) trace
    by_next false = after
    by_next true = after-row (next_row (by_lists policy pid picks given) rows item) rows trace (next-other policy pid picks given rows item o) after

pub others-items : (policy : Policy) (pid : ℕ) (picks : List ℕ) (given : List HouseReply) (items : List Item) (rows : List Row) (trace : Trace) → Each IsOther items → After rows trace
    → After (more_all (by_lists policy pid picks given) rows items) trace
others-items policy pid picks given [] rows trace all after = after
others-items policy pid picks given (item ∷ items) rows trace all after =
    others-items policy pid picks given items (more_of (by_lists policy pid picks given) rows item) trace all.1
    (others-item policy pid picks given item rows trace all.0 after)

-- ---- what the server sends at once

abbrev pub IsReceivedItem : Item → Type 0
IsReceivedItem (Heard p) = Unit {0}
IsReceivedItem (BadServer fault) = Unit {0}
IsReceivedItem item = ⊥

-- what is received are bytes
abbrev pub IsBytesItem : Item → Type 0
IsBytesItem (Heard p) = AreBytes p
IsBytesItem item = Unit {0}

-- as After, and so much more may wait for the forwarder
pub data AfterWith (rows : List Row) (trace : Trace) (most : ℕ) : Type 0 where
  OverWith : is_run_over rows ≡ true → is_lost (rows_of HOUSE rows) ≡ false → Still rows trace → AfterWith rows trace most
  OnWith : (recorded : Recorded) → Going rows trace recorded → length (pending HOUSE rows) + most ≤ 33554432 → AfterWith rows trace most

-- what ReceivedRows proves
abbrev pub ReceivedRow : Policy → ℕ → Type 0
ReceivedRow policy pid = (pick : ℕ) (rows : List Row) (p : List ℕ) (trace : Trace) (recorded : Recorded) → RightAt rows → Going rows trace recorded
    → AreBytes p → length trace.forwarding_state.requests ≤ 64 → 1 ≤ length p → length p + 1 ≤ 262144 → length (pending HOUSE rows) + 65 * (length p + 5) ≤ 33554432
    → Next rows (treat policy pid pick rows (Heard p) ∷ rows) trace (65 * (length p + 5))

module _ (policy : Policy) (pid : ℕ) (picks : List ℕ) (given : List HouseReply) (heard : ReceivedRow policy pid) where
  abbrev setting : Setting
  setting = by_lists policy pid picks given

  -- after the end nothing is received
  over-stays : (item : Item) (rows : List Row) → is_took item ≡ false → is_run_over rows ≡ true → more_of setting rows item ≡ rows
  over-stays item rows none ended =
      ap (λ (b : Bool). elim (elim b as (λ _. Bool) [ true ↦ is_took item | false ↦ makes_row rows item ]) as (λ _. List Row) [ false ↦ rows | true ↦ next_row setting rows item ∷ rows ]) ended
      ∙ ap (λ (b : Bool). elim b as (λ _. List Row) [ false ↦ rows | true ↦ next_row setting rows item ∷ rows ]) none

  on-more : (item : Item) (rows : List Row) → makes_row rows item ≡ true → is_run_over rows ≡ false → more_of setting rows item ≡ next_row setting rows item ∷ rows
  on-more item rows makes on =
      ap (λ (b : Bool). elim (elim b as (λ _. Bool) [ true ↦ is_took item | false ↦ makes_row rows item ]) as (λ _. List Row) [ false ↦ rows | true ↦ next_row setting rows item ∷ rows ]) on
      ∙ ap (λ (b : Bool). elim b as (λ _. List Row) [ false ↦ rows | true ↦ next_row setting rows item ∷ rows ]) makes

  heard-took : (item : Item) → IsReceivedItem item → is_took item ≡ false
  heard-took (Took stream size) is = absurd is
  heard-took item is = refl

  heard-on : (item : Item) (rows : List Row) (trace : Trace) (most : ℕ) (recorded : Recorded) → IsReceivedItem item → IsSizedItem item → IsBytesItem item → RightAt rows → length trace.forwarding_state.requests ≤ 64
      → Going rows trace recorded → length (pending HOUSE rows) + 65 * (item_size item + most) ≤ 33554432
      → AfterWith (more_of setting rows item) trace (65 * most)
  heard-on (Heard p) rows trace most recorded is sized bytes right few g le =
      subst (λ (more : List Row). AfterWith more trace (65 * most)) (sym (on-more (Heard p) rows refl g.on))
      (by_next (heard (pick_of (FromLists picks given) rows (Heard p)) rows p trace recorded right g bytes few sized.0 sized.1 (omega (arith, le))))
    where
      by_next : Next rows (next_row setting rows (Heard p) ∷ rows) trace (65 * (length p + 5)) → AfterWith (next_row setting rows (Heard p) ∷ rows) trace (65 * most)
      by_next (Ends ended kept still) = OverWith ended kept still
      by_next (GoesOn recorded' g' more) = OnWith recorded' g' (omega (arith, le, more))
  heard-on (BadServer fault) rows trace most recorded is sized bytes right few g le =
      subst (λ (more : List Row). AfterWith more trace (65 * most)) (sym (on-more (BadServer fault) rows refl g.on))
      (OverWith refl (ap is_lost (others-stay (next_row setting rows (BadServer fault)) rows refl) ∙ in-kept (rows_of HOUSE rows) g.inside)
      (still-same rows (next_row setting rows (BadServer fault) ∷ rows) trace (others-stay (next_row setting rows (BadServer fault)) rows refl) (still-of rows trace recorded g)))
  heard-on (Admit k) rows trace most recorded is sized bytes right few g le = absurd is
  heard-on (Says k outgoing reply) rows trace most recorded is sized bytes right few g le = absurd is
  heard-on (HouseSays k id reply) rows trace most recorded is sized bytes right few g le = absurd is
  heard-on (Gone k) rows trace most recorded is sized bytes right few g le = absurd is
  heard-on ServerEnd rows trace most recorded is sized bytes right few g le = absurd is
  heard-on (ServerCut left) rows trace most recorded is sized bytes right few g le = absurd is
  heard-on ServerFailed rows trace most recorded is sized bytes right few g le = absurd is
  heard-on (Took stream size) rows trace most recorded is sized bytes right few g le = absurd is
  heard-on (RunEnd cause) rows trace most recorded is sized bytes right few g le = absurd is

  heard-item : (item : Item) (rows : List Row) (trace : Trace) (most : ℕ) → IsReceivedItem item → IsSizedItem item → IsBytesItem item → RightAt rows → length trace.forwarding_state.requests ≤ 64
      → AfterWith rows trace (65 * (item_size item + most)) → AfterWith (more_of setting rows item) trace (65 * most)
  heard-item item rows trace most is sized bytes right few (OverWith ended kept still) =
      subst (λ (more : List Row). AfterWith more trace (65 * most)) (sym (over-stays item rows (heard-took item is) ended)) (OverWith ended kept still)
  heard-item item rows trace most is sized bytes right few (OnWith recorded g le) = heard-on item rows trace most recorded is sized bytes right few g le

  pub heard-items : (items : List Item) (rows : List Row) (trace : Trace) → Each IsReceivedItem items → Each IsSizedItem items → Each IsBytesItem items → AtEach RightAt (more_all setting rows items)
      → length trace.forwarding_state.requests ≤ 64 → AfterWith rows trace (65 * total items) → After (more_all setting rows items) trace
  heard-items [] rows trace are sized bytes each few (OverWith ended kept still) = IsOver ended kept still
  heard-items [] rows trace are sized bytes each few (OnWith recorded g le) = IsOn recorded g
  heard-items (item ∷ items) rows trace are sized bytes each few after =
      let right : RightAt rows = atEach-here RightAt rows (atEach-down RightAt setting rows (item ∷ items) each) in
      heard-items items (more_of setting rows item) trace are.1 sized.1 bytes.1 each few
      (heard-item item rows trace (total items) are.0 sized.0 bytes.0 right few after)

-- ---- what marks give

heard-says : (n : ℕ) (ss : List Outgoing) → Each IsReceivedItem (map received_item (drop n ss))
heard-says n ss = all (drop n ss)
  where
    one : (s : Outgoing) → IsReceivedItem (received_item s)
    one (Body body) = tt
    one (Payload p) = tt
    one (BadFraming fault) = tt

    all : (xs : List Outgoing) → Each IsReceivedItem (map received_item xs)
    all [] = tt
    all (x ∷ xs) = (one x, all xs)

pub is-heard-all : (before bytes : List ℕ) → Each IsReceivedItem (new_received before (before ++ bytes))
is-heard-all before bytes = heard-says (length (parse InProxy before).says) (parse InProxy (before ++ bytes)).says

abbrev BytesSending : Outgoing → Type 0
BytesSending s = IsBytesItem (received_item s)

parse-bytes : (n : ℕ) (bytes : List ℕ) → AreBytes bytes → Each BytesSending (parse_by n InProxy bytes).says
parse-bytes zero bytes a = tt
parse-bytes (suc n) bytes a = by_front (first_frame framing.Proxy bytes) (in-bytes InProxy bytes a) (λ rest b. parse-bytes n rest b)
  where
    by_front : (f : Front) → FrontBytes f → ((rest : List ℕ) → AreBytes rest → Each BytesSending (parse_by n InProxy rest).says) → Each BytesSending (parse_front (parse_by n) InProxy bytes f).says
    by_front (Frame content rest) b ih = (b.0, ih rest b.1)
    by_front More b ih = tt
    by_front (Faulty fault) b ih = (tt, tt)

bytes-each : (n : ℕ) (ss : List Outgoing) → Each BytesSending ss → Each IsBytesItem (map received_item (drop n ss))
bytes-each zero [] all = tt
bytes-each zero (s ∷ ss) all = (all.0, bytes-each zero ss all.1)
bytes-each (suc n) [] all = tt
bytes-each (suc n) (s ∷ ss) all = bytes-each n ss all.1

pub is-bytes-all : (before bytes : List ℕ) → AreBytes before → AreBytes bytes → Each IsBytesItem (new_received before (before ++ bytes))
is-bytes-all before bytes b b' =
    bytes-each (length (parse InProxy before).says) (parse InProxy (before ++ bytes)).says
    (parse-bytes (length (before ++ bytes)) (before ++ bytes) (AreBytes-append before bytes b b'))

other-says : (k : ℕ) → (k == HOUSE) ≡ false → (xs : List Outgoing) → Each IsOther (map (sent_item k) xs)
other-says k other [] = tt
other-says k other (x ∷ xs) = (other, other-says k other xs)

pub is-other-all : (k : ℕ) (before bytes : List ℕ) → (k == HOUSE) ≡ false → Each IsOther (new_sayings k before (before ++ bytes))
is-other-all k before bytes other = other-says k other (drop (length (said before)) (said (before ++ bytes)))
