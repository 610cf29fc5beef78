-- No room falls below zero: what is carried was granted before.
use Rattle.std.proofs.Common.{◌≡◌, ℕ, ◌≤◌, List, [], ◌∷◌, ◌++◌, map, true, false, Bool, refl, ◌∙◌, ap, arith, sym, Option, Some, None, subst, inl, inr, Ok, Err}
use Rattle.std.specs.Prelude.{◌==◌, ◌&&◌, ◌⊎◌, Result}
use Rattle.std.specs.List.{AllByRecursion}
use Rattle.std.proofs.lemmas.Bool.Decides.{nat_tests}
use Rattle.mux_history.specs.Channels.{Channel, after_farewell, after_item, begun_by, channels_of, channel_after_item, is_confirmed, is_channel_held, is_number, opened_down, opened_up, own_number_of, with_down, with_up, with_ups}
use Rattle.mux_history.specs.Controls.{client_has_greeted, house_sends, sent_body}
use Rattle.mux_history.specs.Summary.{Act, Answers, Asks, Carries, Closes, Confirmation, Confirms, Ends, Fails, Summary, Grants, Open, Refuses, Requests, Succeeds, Transport, Within, read_summary, reading}
use Rattle.mux_history.specs.Heard.{Breaks, Dest, Disconnects, ToClient, ToMaster, dest, dest_within, received_for, received_master}
use Rattle.mux_history.specs.Kept.{AtEach, Every, ForEach}
use Rattle.mux_history.specs.Laws.{IsWithin, RoomsHold, if_passes}
use Rattle.mux_history.specs.Ledger.{reply_count, request_count, breach, carried, sum_of}
use Rattle.mux_history.specs.Log.{admits, all_recorded, bare_row, received_row, queued, row_of, treat}
use Rattle.mux_history.specs.Policy.{Policy}
use Rattle.mux_history.specs.Rows.{Admit, BadServer, Fate, Gone, Heard, HouseSays, Item, Row, RunEnd, Says, ServerCut, ServerEnd, ServerFailed, Took, rows_of}
use Rattle.mux_history.specs.Said.{Outcome, drops, is_failing, sent_summary, sent_payload, sent_within, silent}
use Rattle.mux_outside.specs.declared.house.HouseReply.{HouseReply}
use Rattle.ssh_fields.specs.Fields.{AreBytes}
use Rattle.ssh_grammar.specs.Said.{BadFraming, Body, Payload}
use Rattle.ssh_grammar.specs.SpellMessage.{with_sender}
use Rattle.ssh_grammar.specs.declared.fault.Bad.{Bad}
use Rattle.ssh_grammar.specs.declared.side.Side.{Side}
use Rattle.ssh_grammar.specs.declared.side.Side.TheVariants.{Down, Up}
use Rattle.mux_history.specs.declared.why.Why.TheVariants as why
use Rattle.mux_history.proofs.Apart.{AreApart, Sound}
use Rattle.mux_history.proofs.Dests.{Legal, dest-ok, is_plain, within-legal}
use Rattle.mux_history.proofs.Finds.{Each}
use Rattle.mux_history.proofs.Harmless.{Harmless, harmless-each, harmless-heard}
use Rattle.mux_history.proofs.Indexed.{looks-up}
use Rattle.mux_history.proofs.Readings.{reading-ok}
use Rattle.mux_history.proofs.Renumbered.{reads-sent, resent, sender-in, word}
use Rattle.mux_history.proofs.RightLogs.{LogKnown, RowKnown}
use Rattle.mux_history.proofs.RoomActs.{Accounted, KnownIn, MayAct, SafeDown, SafeUp, UpLegal, accounted-down, accounted-harmless, accounted-reading, accounted-up, known-in, may-of, some-same, within-up}
use Rattle.mux_history.proofs.SentApart.{LawfulItem}
use Rattle.mux_history.proofs.Sends.{Sent, admits-sent, as_row, body-sent, house-sent, row-split, sent-by}

-- ---- a row

abbrev Accounts : List Row → Row → Type 0
Accounts before row = Each Accounted (channels_of before) → Each Accounted (channels_of (row ∷ before))

accounted-farewell : (row : Row) → Every Harmless row.farewell → (x : Channel) → Accounted x → Accounted (after_farewell row x)
accounted-farewell row harmless x known = elim (x.client == row.client) as (λ b. Accounted (elim b as (λ _. Channel) [ true ↦ with_ups None row.farewell x | false ↦ x ])) [ true ↦ accounted-harmless None row.farewell harmless x known | false ↦ known ]

each-append : (P : Channel → Type 0) (xs ys : List Channel) → Each P xs → Each P ys → Each P (xs ++ ys)
each-append P [] ys a b = b
each-append P (x ∷ xs) ys a b = (a.0, each-append P xs ys a.1 b)

each-mapped : (P Q : Channel → Type 0) (f : Channel → Channel) → ((x : Channel) → P x → Q (f x)) → (xs : List Channel) → Each P xs → Each Q (map f xs)
each-mapped P Q f step [] a = tt
each-mapped P Q f step (x ∷ xs) a = (step x a.0, each-mapped P Q f step xs a.1)

-- a channel begins with nothing done in it
accounted-new : (x : Channel) → x.acts ≡ [] → Accounted x
accounted-new x none Up = record { within = by_side x.by; answered = ap_none }
  where
    by_side : (side : Side) → IsWithin Up (record x { by = side })
    by_side side = let c = ap (sum_of carried Up) none in omega (arith, c)

    ap_none : sum_of reply_count Down x.acts ≤ sum_of request_count Up x.acts
    ap_none = let c = ap (sum_of reply_count Down) none in omega (arith, c)
accounted-new x none Down = record { within = by_side x.by; answered = ap_none }
  where
    by_side : (side : Side) → IsWithin Down (record x { by = side })
    by_side side = let c = ap (sum_of carried Down) none in omega (arith, c)

    ap_none : sum_of reply_count Up x.acts ≤ sum_of request_count Down x.acts
    ap_none = let c = ap (sum_of reply_count Up) none in omega (arith, c)

begun-reading : (p : List ℕ) (f : Summary → List Channel) → ((m : Summary) → Each Accounted (f m)) → Each Accounted (reading p f [])
begun-reading p f each = elim (read_summary p) as (λ r. Each Accounted (elim r as (λ _. List Channel) [ Err e ↦ [] | Ok m ↦ f m ])) [ Err e ↦ tt | Ok m ↦ each m ]

begun-up : (k : ℕ) (up : List (List ℕ)) (m : Summary) → Each Accounted (opened_up k up m)
begun-up k [] m = tt
begun-up k (p ∷ ps) (Open what c w max) = (accounted-new _ refl, tt)
begun-up k (p ∷ ps) m = tt

begun-down : (k : ℕ) (up : List (List ℕ)) (m : Summary) → Each Accounted (opened_down k up m)
begun-down k [] (Open what s w max) = (accounted-new _ refl, tt)
begun-down k [] m = tt
begun-down k (p ∷ ps) m = tt

begun-accounted : (k : ℕ) (up : List (List ℕ)) (item : Item) → Each Accounted (begun_by k up item)
begun-accounted k up (Says j (Payload p) reply) = begun-reading p (opened_up k up) (begun-up k up)
begun-accounted k up (Heard p) = elim (k == 0) as (λ b. Each Accounted (elim b as (λ _. List Channel) [ true ↦ [] | false ↦ reading p (opened_down k up) [] ])) [ true ↦ tt | false ↦ begun-reading p (opened_down k up) (begun-down k up) ]
begun-accounted k up item = tt

-- what the item does to each channel, and then the farewell
by-items : (before : List Row) (row : Row) → AreApart (channels_of before) → Every Harmless row.farewell → ((x : Channel) → KnownIn before x → Accounted (after_item row x)) → Accounts before row
by-items before row good harmless step known =
    each-mapped Accounted Accounted (after_farewell row) (accounted-farewell row harmless) (map (after_item row) (channels_of before) ++ begun_by row.client row.up row.item)
    (each-append Accounted (map (after_item row) (channels_of before)) (begun_by row.client row.up row.item)
    (each-mapped (KnownIn before) Accounted (after_item row) step (channels_of before) (known-in before good known))
    (begun-accounted row.client row.up row.item))

-- a row that sends nothing in a channel
still-item : (before : List Row) (row : Row) → Every Harmless row.up → ((x : Channel) → channel_after_item row.item x ≡ x) → (x : Channel) → KnownIn before x → Accounted (after_item row x)
still-item before row harmless stays x known = elim (x.client == row.client) as (λ b. Accounted (elim b as (λ _. Channel) [ true ↦ with_ups (own_number_of row.item) row.up (channel_after_item row.item x) | false ↦ x ])) [ true ↦ accounted-harmless (own_number_of row.item) row.up harmless (channel_after_item row.item x) (subst Accounted (sym (stays x)) known.accounted) | false ↦ known.accounted ]

-- ---- what a client sends

module _ (before : List Row) (good : AreApart (channels_of before)) (k : ℕ) where
  -- the confirmed channel that was found is the one that is meant
  meant-up : (x : Channel) → KnownIn before x → (x.client == k) ≡ true → (s : ℕ) (act : Act) → UpLegal (rows_of k before) s act → SafeUp (Within s act) x
  meant-up x known mine s act (inl failing) has held = by_act act failing
    where
      by_act : (act : Act) → is_failing act ≡ true → MayAct Up act x
      by_act Fails e = tt
      by_act act e = cc
  meant-up x known mine s act (inr found) has held = by_passes ((x.client == k) && is_confirmed x) refl
    where
      at : if_passes (λ y. (y.client == k) && is_confirmed y) (Some x) ≡ Some found.0
      at = sym (ap (if_passes (λ y. (y.client == k) && is_confirmed y)) (known.live s held has)) ∙ (sym (looks-up before good k s).confirmed ∙ found.1)

      by_passes : (b : Bool) → ((x.client == k) && is_confirmed x) ≡ b → MayAct Up act x
      by_passes true e = let same : x ≡ found.0 = some-same x found.0 (sym (ap (λ b. elim b as (λ _. Option Channel) [ true ↦ Some x | false ↦ None ]) e) ∙ at) in may-of Up act x (ap (breach Up act) same ∙ found.2)
      by_passes false e = let bad : None ≡ Some found.0 = sym (ap (λ b. elim b as (λ _. Option Channel) [ true ↦ Some x | false ↦ None ]) e) ∙ at in absurd cc

  said-item : (p : List ℕ) (reply : Option HouseReply) (up fw down : List (List ℕ)) (fate : Fate) → ((x : Channel) → KnownIn before x → (x.client == k) ≡ true → (own : Option ℕ) → Accounted (with_ups own up x)) → (x : Channel) → KnownIn before x → Accounted (after_item (as_row (Says k (Payload p) reply) k up fw down fate) x)
  said-item p reply up fw down fate each x known = by_client (x.client == k) refl
    where
      by_client : (b : Bool) → (x.client == k) ≡ b → Accounted (elim b as (λ _. Channel) [ true ↦ with_ups (own_number_of (Says k (Payload p) reply)) up x | false ↦ x ])
      by_client true e = each x known e (own_number_of (Says k (Payload p) reply))
      by_client false e = known.accounted

  one-up : (q : List ℕ) (m : Summary) → read_summary q ≡ Ok m → (x : Channel) → KnownIn before x → SafeUp m x → (own : Option ℕ) → Accounted (with_ups own (q ∷ []) x)
  one-up q m reads x known safe own = subst Accounted (sym (reading-ok q m (λ m. with_up own m x) x reads)) (accounted-up own m x safe known.accounted)

  said-ups : (policy : Policy) (pick : ℕ) (p : List ℕ) → AreBytes p → (x : Channel) → KnownIn before x → (x.client == k) ≡ true → (own : Option ℕ) → Accounted (with_ups own (sent_payload policy k (rows_of k before) pick p).sent x)
  said-ups policy pick p bytes x known mine own = by_case (read_summary p) refl
    where
      at : (up : List (List ℕ)) → Type 0
      at up = Accounted (with_ups own up x)

      others : (m : Summary) → read_summary p ≡ Ok m → ((c : ℕ) → SafeUp (resent c m) x) → SafeUp m x → Sent (rows_of k before) pick p m (sent_summary policy k (rows_of k before) pick p m).sent → Accounted (with_ups own (sent_summary policy k (rows_of k before) pick p m).sent x)
      others m reads safe_sent safe (inl none) = subst (λ (up : List (List ℕ)). Accounted (with_ups own up x)) (sym none) known.accounted
      others m reads safe_sent safe (inr (inl plain)) = subst (λ (up : List (List ℕ)). Accounted (with_ups own up x)) (sym plain.up) (one-up p m reads x known safe own)
      others m reads safe_sent safe (inr (inr new)) = subst (λ (up : List (List ℕ)). Accounted (with_ups own up x)) (sym new.up) (one-up (with_sender p pick) (resent (word pick) m) (reads-sent p m (sender-in p m new.c bytes reads new.owned) pick) x known (safe_sent (word pick)) own)

      by_summary : (m : Summary) → read_summary p ≡ Ok m → Accounted (with_ups own (sent_summary policy k (rows_of k before) pick p m).sent x)
      by_summary (Within s act) reads = by_within (within-up (rows_of k before) p s act)
        where
          by_within : ((sent_within (rows_of k before) p s act).sent ≡ []) ⊎ (((sent_within (rows_of k before) p s act).sent ≡ p ∷ []) × UpLegal (rows_of k before) s act) → Accounted (with_ups own (sent_within (rows_of k before) p s act).sent x)
          by_within (inl none) = subst (λ (up : List (List ℕ)). Accounted (with_ups own up x)) (sym none) known.accounted
          by_within (inr sent) = subst (λ (up : List (List ℕ)). Accounted (with_ups own up x)) (sym sent.0) (one-up p (Within s act) reads x known (meant-up x known mine s act sent.1) own)
      by_summary (Confirmation s c w max) reads = others (Confirmation s c w max) reads (λ c. tt) tt (sent-by policy k (rows_of k before) pick p (Confirmation s c w max))
      by_summary (Open what c w max) reads = others (Open what c w max) reads (λ c. tt) tt (sent-by policy k (rows_of k before) pick p (Open what c w max))
      by_summary (Transport number) reads = others (Transport number) reads (λ c. tt) tt (sent-by policy k (rows_of k before) pick p (Transport number))
      by_summary (Requests what want) reads = others (Requests what want) reads (λ c. tt) tt (sent-by policy k (rows_of k before) pick p (Requests what want))
      by_summary (Succeeds rest) reads = others (Succeeds rest) reads (λ c. tt) tt (sent-by policy k (rows_of k before) pick p (Succeeds rest))
      by_summary Refuses reads = others Refuses reads (λ c. tt) tt (sent-by policy k (rows_of k before) pick p Refuses)

      by_case : (r : Result Summary Bad) → read_summary p ≡ r → Accounted (with_ups own (elim r as (λ _. Outcome) [ Err bad ↦ drops (why.BadMessage bad) | Ok m ↦ sent_summary policy k (rows_of k before) pick p m ]).sent x)
      by_case (Err bad) reads = known.accounted
      by_case (Ok m) reads = by_summary m reads

  -- ---- what the server sends to it

  meant-down : (p : List ℕ) → dest before p ≡ ToClient k → (m : Summary) → read_summary p ≡ Ok m → (x : Channel) → KnownIn before x → SafeDown m x
  meant-down p to (Within n act) reads x known = by_act act (sym (dest-ok before p (Within n act) reads) ∙ to)
    where
      legal : (act : Act) → is_plain act ≡ true → dest_within before n act ≡ ToClient k → is_number x.number n ≡ true → is_channel_held x ≡ true → MayAct Down act x
      legal act plain to has held =
          let l : Legal before n act k = within-legal before n act k plain to in
          let same : x ≡ l.channel = some-same x l.channel (sym (known.holds n held has) ∙ l.is) in
          may-of Down act x (ap (breach Down act) same ∙ l.fine)

      by_act : (act : Act) → dest_within before n act ≡ ToClient k → is_number x.number n ≡ true → is_channel_held x ≡ true → MayAct Down act x
      by_act Fails to = λ has held. tt
      by_act (Confirms w max) to = legal (Confirms w max) refl to
      by_act (Grants g) to = legal (Grants g) refl to
      by_act (Carries size) to = legal (Carries size) refl to
      by_act Ends to = legal Ends refl to
      by_act Closes to = legal Closes refl to
      by_act (Asks want) to = legal (Asks want) refl to
      by_act Answers to = legal Answers refl to
  meant-down p to (Confirmation n s w max) reads x known = tt
  meant-down p to (Transport number) reads x known = tt
  meant-down p to (Requests what want) reads x known = tt
  meant-down p to (Succeeds rest) reads x known = tt
  meant-down p to Refuses reads x known = tt
  meant-down p to (Open what s w max) reads x known = tt

  heard-item : (p : List ℕ) → dest before p ≡ ToClient k → (up fw down : List (List ℕ)) (fate : Fate) → Every Harmless up → (x : Channel) → KnownIn before x → Accounted (after_item (as_row (Heard p) k up fw down fate) x)
  heard-item p to up fw down fate harmless x known = elim (x.client == k) as (λ b. Accounted (elim b as (λ _. Channel) [ true ↦ with_ups None up (reading p (λ m. with_down m x) x) | false ↦ x ])) [
    | true ↦ accounted-harmless None up harmless (reading p (λ m. with_down m x) x) (accounted-reading p (λ m. with_down m x) x known.accounted (λ m reads. accounted-down m x (meant-down p to m reads x known) known.accounted))
    | false ↦ known.accounted
  ]

-- ---- any row

master-item : (before : List Row) (row : Row) → AreApart (channels_of before) → row.client ≡ 0 → Every Harmless row.farewell → Accounts before row
master-item before row good none harmless = λ known. by-each (channels_of before) good.each known
  where
    stays : (x : Channel) → Sound x → after_item row x ≡ x
    stays x sound = ap (λ b. elim b as (λ _. Channel) [ true ↦ with_ups (own_number_of row.item) row.up (channel_after_item row.item x) | false ↦ x ]) (ap (λ c. x.client == c) none ∙ not_zero x.client sound.client)
      where
        not_zero : (c : ℕ) → (c ≡ 0 → ⊥) → (c == 0) ≡ false
        not_zero c real = by_test (c == 0) refl
          where
            zero_is : (c == 0) ≡ true → c ≡ 0
            zero_is e = grind (arith, nat_tests)

            by_test : (b : Bool) → (c == 0) ≡ b → (c == 0) ≡ false
            by_test false e = e
            by_test true e = absurd (real (zero_is e))

    by-each : (xs : List Channel) → Each Sound xs → Each Accounted xs → Each Accounted (map (after_farewell row) (map (after_item row) xs ++ begun_by row.client row.up row.item))
    by-each xs sound known =
        each-mapped Accounted Accounted (after_farewell row) (accounted-farewell row harmless) (map (after_item row) xs ++ begun_by row.client row.up row.item)
        (each-append Accounted (map (after_item row) xs) (begun_by row.client row.up row.item)
        (each-mapped (λ x. Sound x × Accounted x) Accounted (after_item row) (λ x both. subst Accounted (sym (stays x both.0)) both.1) xs (both-each xs sound known))
        (begun-accounted row.client row.up row.item))
      where
        both-each : (xs : List Channel) → Each Sound xs → Each Accounted xs → Each (λ x. Sound x × Accounted x) xs
        both-each [] a b = tt
        both-each (x ∷ xs) a b = ((a.0, b.0), both-each xs a.1 b.1)

-- a row by its parts
row-any : (P : Row → Type 0) (item : Item) (k : ℕ) (o : Outcome) (own : List Row) → ((fw : List (List ℕ)) → Every Harmless fw → (down : List (List ℕ)) (fate : Fate) → P (as_row item k o.sent fw down fate)) → P (row_of item k o own)
row-any P item k o own each = row-split P item k o own (λ fw parting fate. each fw (harmless-each fw parting) (queued (all_recorded (bare_row item k o) own) (bare_row item k o) own).down fate)

none-harmless : (ups : List (List ℕ)) → ups ≡ [] → Every Harmless ups
none-harmless ups none = subst (Every Harmless) (sym none) tt

mute-row : (before : List Row) → AreApart (channels_of before) → (item : Item) (k : ℕ) (o : Outcome) → Every Harmless o.sent → ((x : Channel) → channel_after_item item x ≡ x) → Accounts before (row_of item k o (rows_of k before))
mute-row before good item k o harmless stays = row-any (Accounts before) item k o (rows_of k before) (λ fw parting down fate. by-items before (as_row item k o.sent fw down fate) good parting (still-item before (as_row item k o.sent fw down fate) harmless stays))

heard-accounts : (before : List Row) → AreApart (channels_of before) → (p : List ℕ) (d : Dest) → dest before p ≡ d → Accounts before (received_row before p d)
heard-accounts before good p ToMaster e = master-item before (bare_row (Heard p) 0 (received_master p)) good refl tt
heard-accounts before good p (ToClient k) e = row-any (Accounts before) (Heard p) k (received_for (rows_of k before) p) (rows_of k before) (λ fw parting down fate. by-items before (as_row (Heard p) k (received_for (rows_of k before) p).sent fw down fate) good parting (heard-item before good k p e (received_for (rows_of k before) p).sent fw down fate (harmless-heard (rows_of k before) p)))
heard-accounts before good p Disconnects e = master-item before (received_row before p Disconnects) good refl tt
heard-accounts before good p (Breaks cause) e = master-item before (received_row before p (Breaks cause)) good refl tt

accounts-treat : (policy : Policy) (pid pick : ℕ) (before : List Row) (item : Item) → AreApart (channels_of before) → LawfulItem before item → Accounts before (treat policy pid pick before item)
accounts-treat policy pid pick before (Admit k) good lawful = mute-row before good (Admit k) k (admits before) (none-harmless (admits before).sent (admits-sent before)) (λ x. refl)
accounts-treat policy pid pick before (Says k (Payload p) reply) good lawful = row-any (Accounts before) (Says k (Payload p) reply) k (sent_payload policy k (rows_of k before) pick p) (rows_of k before) (λ fw parting down fate. by-items before (as_row (Says k (Payload p) reply) k (sent_payload policy k (rows_of k before) pick p).sent fw down fate) good parting (said-item before good k p reply (sent_payload policy k (rows_of k before) pick p).sent fw down fate (said-ups before good k policy pick p lawful.1)))
accounts-treat policy pid pick before (Says k (Body body) reply) good lawful = mute-row before good (Says k (Body body) reply) k (sent_body pid k reply (client_has_greeted (rows_of k before)) body) (none-harmless _ (body-sent pid k reply (client_has_greeted (rows_of k before)) body)) (λ x. refl)
accounts-treat policy pid pick before (Says k (BadFraming fault) reply) good lawful = mute-row before good (Says k (BadFraming fault) reply) k (drops (why.BadFrame fault)) tt (λ x. refl)
accounts-treat policy pid pick before (HouseSays k id given) good lawful = mute-row before good (HouseSays k id given) k (house_sends (rows_of k before) id given) (none-harmless _ (house-sent (rows_of k before) id given)) (λ x. refl)
accounts-treat policy pid pick before (Gone k) good lawful = mute-row before good (Gone k) k silent tt (λ x. refl)
accounts-treat policy pid pick before (Heard p) good lawful = heard-accounts before good p (dest before p) refl
accounts-treat policy pid pick before (Took stream size) good lawful = by-items before (bare_row (Took stream size) stream silent) good tt (still-item before (bare_row (Took stream size) stream silent) tt (λ x. refl))
accounts-treat policy pid pick before (BadServer fault) good lawful = master-item before (treat policy pid pick before (BadServer fault)) good refl tt
accounts-treat policy pid pick before ServerEnd good lawful = master-item before (treat policy pid pick before ServerEnd) good refl tt
accounts-treat policy pid pick before (ServerCut left) good lawful = master-item before (treat policy pid pick before (ServerCut left)) good refl tt
accounts-treat policy pid pick before ServerFailed good lawful = master-item before (treat policy pid pick before ServerFailed) good refl tt
accounts-treat policy pid pick before (RunEnd cause) good lawful = master-item before (treat policy pid pick before (RunEnd cause)) good refl tt

-- ---- every row

as-all : (xs : List Channel) → Each Accounted xs → AllByRecursion Accounted xs
as-all [] a = tt
as-all (x ∷ xs) a = (a.0, as-all xs a.1)

record RoomsKnown (rows : List Row) : Type 0 where
  each : Each Accounted (channels_of rows)
  all : AtEach RoomsHold rows

rooms-known : (policy : Policy) (pid : ℕ) (rows : List Row) → ForEach (RowKnown policy pid) rows → RoomsKnown rows
rooms-known policy pid [] known = record { each = tt; all = tt }
rooms-known policy pid (row ∷ before) known =
    let ih : RoomsKnown before = rooms-known policy pid before known.1 in
    let k : RowKnown policy pid before row = known.0 in
    let here : Each Accounted (channels_of (row ∷ before)) = subst (Accounts before) k.is (accounts-treat policy pid k.pick before k.item k.good k.lawful) ih.each in
    record { each = here; all = (as-all (channels_of (row ∷ before)) here, ih.all) }

pub rooms-hold : (policy : Policy) (pid : ℕ) (rows : List Row) → LogKnown policy pid rows → AtEach RoomsHold rows
rooms-hold policy pid rows known = (rooms-known policy pid rows known.each).all
