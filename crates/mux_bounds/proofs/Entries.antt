-- What a client sends itself comes after it was admitted.
use Rattle.std.proofs.Common.{◌≡◌, ℕ, List, [], ◌∷◌, ◌++◌, map, true, false, Bool, refl, ◌∙◌, ap, arith, sym, subst, Option, Some, None, inl, inr, zero, suc, take, length}
use Rattle.std.specs.Prelude.{◌==◌, ◌⊎◌, ◌||◌, ◌&&◌, not, IsTrue, if◌then◌else◌}
use Rattle.std.proofs.lemmas.Bool.Decides.{nat_tests}
use Rattle.mux_outside.specs.declared.house.HouseReply.{HouseReply}
use Rattle.mux_outside.specs.declared.mark.Mark.{Mark}
use Rattle.mux_outside.specs.declared.mark.Mark.TheVariants as wire
use Rattle.ssh_grammar.specs.Said.{BadFraming, Body, InProxy, Payload, Outgoing, parse}
use Rattle.mux_outside.specs.declared.house_mark.HouseMark.{HouseMark}
use Rattle.mux_outside.specs.declared.house_mark.HouseMark.TheVariants.{HouseAnswer, HouseAsked, HouseIn, HouseOrder, HouseSaid, HouseTook}
use Rattle.mux_history.specs.declared.limits.TheConstants.{HOUSE}
use Rattle.mux_history.specs.Choices.{Choices, FromLists, pick_of, replies_given, reply_at, with_reply}
use Rattle.mux_history.specs.Controls.{body_asks, client_has_greeted, house_sends}
use Rattle.mux_history.specs.Journal.{IsLawful, LawfulMark, bytes_of, received_item, is_accepted, is_known, is_own_stream, items_in, log_of_journal, new_received, new_sayings, sent_item, server_end, unless_own}
use Rattle.mux_history.specs.Kept.{ForEach}
use Rattle.mux_history.specs.Log.{Setting, admits, is_took, makes_next, makes_row, more_all, more_of, sent_by_client, treat}
use Rattle.mux_history.specs.Policy.{Policy}
use Rattle.mux_history.specs.Rows.{Admit, Fate, Gone, HouseSays, Item, Refused, Row, Says, ServerFailed, Took, any_of, is_admit, is_end, is_run_over, is_out, is_refusal, loses, rows_of}
use Rattle.mux_history.specs.Said.{silent}
use Rattle.mux_history.specs.Settings.{by_lists}
use Rattle.mux_history.proofs.Bools.{or-left, or-right, or-yes, self}
use Rattle.mux_history.proofs.Finds.{filter-no, filter-yes}
use Rattle.mux_history.proofs.LawfulItems.{client-of, reply-next, treat-item}
use Rattle.mux_history.proofs.Nexts.{next-live}
use Rattle.mux_history.proofs.RightLogs.{RowKnown}
use Rattle.mux_history.proofs.SentApart.{admits_client}
use Rattle.mux_bounds.proofs.Knowns.{LetFirst, is_own}
use Rattle.mux_bounds.proofs.Matters.{still-in}

-- ---- a client whose admission made a row, and that isn't out, was admitted

abbrev pub Has : ℕ → List Row → Type 0
Has k rows = any_of (λ row. admits_client k row.item) rows ≡ true

admits-own : (policy : Policy) (pid k : ℕ) (before : List Row) (row : Row) → RowKnown policy pid before row → admits_client k row.item ≡ true → (row.client == k) ≡ true
admits-own policy pid k before row known admitted = by_item known.item refl (sym (ap (admits_client k) is_item) ∙ admitted)
  where
    is_item : row.item ≡ known.item
    is_item = sym (ap (λ (r : Row). r.item) known.is) ∙ treat-item policy pid known.pick before known.item

    by_item : (i : Item) → known.item ≡ i → admits_client k i ≡ true → (row.client == k) ≡ true
    by_item (Admit j) e is = ap (λ c. c == k) (sym (ap (λ (r : Row). r.client) known.is) ∙ (ap (λ (i : Item). (treat policy pid known.pick before i).client) e ∙ client-of (Admit j) j (admits before) (rows_of j before))) ∙ is
    by_item i e is = cc

admit-or-refused : (k : ℕ) (row : Row) → admits_client k row.item ≡ true → is_refusal row.fate ≡ false → is_admit row ≡ true
admit-or-refused k row admitted kept = by_item row.item row.fate admitted kept
  where
    by_item : (i : Item) (fate : Fate) → admits_client k i ≡ true → is_refusal fate ≡ false → is_admit (record row { item = i; fate = fate }) ≡ true
    by_item (Admit j) Refused a b = cc
    by_item (Admit j) fate a b = refl
    by_item i fate a b = cc

admitted-of : (policy : Policy) (pid k : ℕ) (rows : List Row) → ForEach (RowKnown policy pid) rows → Has k rows → is_out (rows_of k rows) ≡ false → any_of is_admit (rows_of k rows) ≡ true
admitted-of policy pid k [] each has going = cc
admitted-of policy pid k (row ∷ before) each has going = by_case (admits_client k row.item) refl has (λ h g. admitted-of policy pid k before each.1 h g)
  where
    out-is : (row.client == k) ≡ true → ((loses row || is_refusal row.fate) || is_out (rows_of k before)) ≡ false
    out-is e = sym (ap is_out (filter-yes (λ (r : Row). r.client == k) row before e)) ∙ going

    by_row : Has k before → (Has k before → is_out (rows_of k before) ≡ false → any_of is_admit (rows_of k before) ≡ true) → (b : Bool) → (row.client == k) ≡ b → any_of is_admit (rows_of k (row ∷ before)) ≡ true
    by_row has ih true e = still-in row before k (ih has (or-right (loses row || is_refusal row.fate) (is_out (rows_of k before)) (out-is e)))
    by_row has ih false e = still-in row before k (ih has (sym (ap is_out (filter-no (λ (r : Row). r.client == k) row before e)) ∙ going))

    by_case : (b : Bool) → admits_client k row.item ≡ b → (b || any_of (λ r. admits_client k r.item) before) ≡ true → (Has k before → is_out (rows_of k before) ≡ false → any_of is_admit (rows_of k before) ≡ true) → any_of is_admit (rows_of k (row ∷ before)) ≡ true
    by_case true e some ih =
        let mine = admits-own policy pid k before row each.0 e in
        let kept = or-right (loses row) (is_refusal row.fate) (or-left (loses row || is_refusal row.fate) (is_out (rows_of k before)) (out-is mine)) in
        ap (any_of is_admit) (filter-yes (λ (r : Row). r.client == k) row before mine) ∙ ap (λ b. b || any_of is_admit (rows_of k before)) (admit-or-refused k row e kept)
    by_case false e some ih = by_row some ih (row.client == k) refl

-- ---- the next row

-- the run is over, or the client's admission made a row
abbrev pub Entered : ℕ → List Row → Type 0
Entered k rows = (is_run_over rows ≡ true) ⊎ Has k rows

abbrev pub OwnKnown : List Row → Item → Type 0
OwnKnown rows (Says k outgoing given) = Entered k rows
OwnKnown rows (HouseSays k id given) = Entered k rows
OwnKnown rows (Gone k) = Entered k rows
OwnKnown rows item = Unit {0}

entered-next : (k : ℕ) (row : Row) (rows : List Row) → Entered k rows → Entered k (row ∷ rows)
entered-next k row rows (inl ended) = inl (or-yes (is_end row.fate) (is_run_over rows) ended)
entered-next k row rows (inr has) = inr (or-yes (admits_client k row.item) (any_of (λ r. admits_client k r.item) rows) has)

own-next : (row : Row) (rows : List Row) (item : Item) → OwnKnown rows item → OwnKnown (row ∷ rows) item
own-next row rows (Says k outgoing given) known = entered-next k row rows known
own-next row rows (HouseSays k id given) known = entered-next k row rows known
own-next row rows (Gone k) known = entered-next k row rows known
own-next row rows item known = tt

took-not : (rows : List Row) (item : Item) → is_took item ≡ false → is_run_over rows ≡ true → makes_next rows item ≡ true → ⊥
took-not rows item other ended makes =
    let no : makes_next rows item ≡ false = ap (λ b. elim b as (λ _. Bool) [ true ↦ is_took item | false ↦ makes_row rows item ]) ended ∙ other in
    let bad : true ≡ false = sym makes ∙ no in absurd (let h = bad in cc)

not-true : (b : Bool) → not b ≡ true → b ≡ false
not-true true e = cc
not-true false e = refl

going-in : (policy : Policy) (pid k : ℕ) (rows : List Row) (item : Item) → ForEach (RowKnown policy pid) rows → is_took item ≡ false → makes_row rows item ≡ not (is_out (rows_of k rows)) → Entered k rows → makes_next rows item ≡ true → any_of is_admit (rows_of k rows) ≡ true
going-in policy pid k rows item each other row entered makes = by_ended (is_run_over rows) refl entered
  where
    by_ended : (b : Bool) → is_run_over rows ≡ b → Entered k rows → any_of is_admit (rows_of k rows) ≡ true
    by_ended true e known = absurd (took-not rows item other e makes)
    by_ended false e (inl ended) = let bad : true ≡ false = sym ended ∙ e in absurd (let h = bad in cc)
    by_ended false e (inr has) = admitted-of policy pid k rows each has (not-true (is_out (rows_of k rows)) (sym row ∙ (sym (next-live rows item e) ∙ makes)))

first-treat : (policy : Policy) (pid pick : ℕ) (rows : List Row) (item : Item) → ForEach (RowKnown policy pid) rows → OwnKnown rows item → makes_next rows item ≡ true → LetFirst rows (treat policy pid pick rows item)
first-treat policy pid pick rows (Says k outgoing given) each known makes = λ own. ap (λ c. any_of is_admit (rows_of c rows)) (client-of (Says k outgoing given) k (sent_by_client policy pid k (rows_of k rows) pick outgoing given) (rows_of k rows)) ∙ going-in policy pid k rows (Says k outgoing given) each refl refl known makes
first-treat policy pid pick rows (HouseSays k id given) each known makes = λ own. ap (λ c. any_of is_admit (rows_of c rows)) (client-of (HouseSays k id given) k (house_sends (rows_of k rows) id given) (rows_of k rows)) ∙ going-in policy pid k rows (HouseSays k id given) each refl refl known makes
first-treat policy pid pick rows (Gone k) each known makes = λ own. ap (λ c. any_of is_admit (rows_of c rows)) (client-of (Gone k) k silent (rows_of k rows)) ∙ going-in policy pid k rows (Gone k) each refl refl known makes
first-treat policy pid pick rows item each known makes = λ own. absurd (let bad : false ≡ true = sym (ap is_own (treat-item policy pid pick rows item)) ∙ own in let h = bad in cc)

-- each item
abbrev pub EachItem : (Item → Type 0) → List Item → Type 0
EachItem P [] = Unit {0}
EachItem P (item ∷ rest) = P item × EachItem P rest

-- a stream of the master's own gives none
pub each-unless : (P : Item → Type 0) (stream : ℕ) (xs : List Item) → (is_own_stream stream ≡ false → EachItem P xs) → EachItem P (unless_own stream xs)
each-unless P stream xs all = by_own (is_own_stream stream) refl
  where
    by_own : (b : Bool) → is_own_stream stream ≡ b → EachItem P (elim b as (λ _. List Item) [ true ↦ [] | false ↦ xs ])
    by_own true e = tt
    by_own false e = all e

each-item : (P Q : Item → Type 0) → ((i : Item) → P i → Q i) → (xs : List Item) → EachItem P xs → EachItem Q xs
each-item P Q step [] all = tt
each-item P Q step (x ∷ xs) all = (step x all.0, each-item P Q step xs all.1)

module _ (policy : Policy) (pid : ℕ) (picks : List ℕ) (given : List HouseReply) where
  abbrev pub lists : Choices
  lists = FromLists picks given

  abbrev pub setting : Setting
  setting = by_lists policy pid picks given

  abbrev pub next : List Row → Item → Row
  next rows item = treat policy pid (pick_of lists rows item) rows (with_reply lists rows item)

  -- by whether an item makes a row
  pub by-more : (P : List Row → Type 0) (rows : List Row) (item : Item) → (makes_next rows item ≡ false → P rows) → (makes_next rows item ≡ true → P (next rows item ∷ rows)) → P (more_of setting rows item)
  by-more P rows item none one = by_next (makes_next rows item) refl
    where
      by_next : (b : Bool) → makes_next rows item ≡ b → P (elim b as (λ _. List Row) [ false ↦ rows | true ↦ next rows item ∷ rows ])
      by_next false e = none e
      by_next true e = one e

  -- what holds of a log holds of the log before its newest items
  pub tails : (P : List Row → Type 0) → ((row : Row) (rows : List Row) → P (row ∷ rows) → P rows) → (rows : List Row) (xs : List Item) → P (more_all setting rows xs) → P rows
  tails P back rows [] p = p
  tails P back rows (item ∷ xs) p = by-more (λ rs. P rs → P rows) rows item (λ e h. h) (λ e h. back (next rows item) rows h) (tails P back (more_of setting rows item) xs p)

  -- a reply changes nothing but the reply
  pub with-reply : (P : Item → Type 0) → ((k : ℕ) (body : List ℕ) (a b : Option HouseReply) → P (Says k (Body body) a) → P (Says k (Body body) b)) → (rows : List Row) (item : Item) → P item → P (with_reply lists rows item)
  with-reply P any rows (Says k (Body body) old) p = elim (client_has_greeted (rows_of k rows) && body_asks body) as (λ b. P (elim b as (λ _. Item) [ true ↦ Says k (Body body) (Some (reply_at given (replies_given rows))) | false ↦ Says k (Body body) None ])) [ true ↦ any k body old (Some (reply_at given (replies_given rows))) p | false ↦ any k body old None p ]
  with-reply P any rows (Says k (Payload q) old) p = p
  with-reply P any rows (Says k (BadFraming fault) old) p = p
  with-reply P any rows item p = p

  first-next : (rows : List Row) (item : Item) → ForEach (RowKnown policy pid) rows → OwnKnown rows item → makes_next rows item ≡ true → LetFirst rows (next rows item)
  first-next rows item each known makes = first-treat policy pid (pick_of lists rows item) rows (with_reply lists rows item) each (with-reply (OwnKnown rows) (λ k body a b h. h) rows item known) (reply-next policy pid picks given rows item makes)

  firsts : (rows : List Row) (xs : List Item) → EachItem (OwnKnown rows) xs → ForEach (RowKnown policy pid) (more_all setting rows xs) → ForEach LetFirst rows → ForEach LetFirst (more_all setting rows xs)
  firsts rows [] known each first = first
  firsts rows (item ∷ xs) known each first =
      let now : ForEach (RowKnown policy pid) (more_of setting rows item) = tails (ForEach (RowKnown policy pid)) (λ row rs h. h.1) (more_of setting rows item) xs each in
      let both = by-more (λ rs. ForEach (RowKnown policy pid) rs → ForEach LetFirst rs × EachItem (OwnKnown rs) xs) rows item
      (λ e h. (first, known.1))
      (λ e h. ((first-next rows item h.1 known.0 e, first), each-item (OwnKnown rows) (OwnKnown (next rows item ∷ rows)) (λ i k. own-next (next rows item) rows i k) xs known.1))
      now in
      firsts (more_of setting rows item) xs both.1 each both.0

  -- ---- accepted clients

  entered-more : (k : ℕ) (rows : List Row) (xs : List Item) → Entered k rows → Entered k (more_all setting rows xs)
  entered-more k rows [] e = e
  entered-more k rows (item ∷ xs) e = entered-more k (more_of setting rows item) xs (by-more (Entered k) rows item (λ stays. e) (λ makes. entered-next k (next rows item) rows e))

  accepted-row : (k : ℕ) (rows : List Row) → Entered k (more_of setting rows (Admit k))
  accepted-row k rows = by_ended (is_run_over rows) refl
    where
      by_ended : (b : Bool) → is_run_over rows ≡ b → Entered k (more_of setting rows (Admit k))
      by_ended true e = by-more (Entered k) rows (Admit k) (λ stays. inl e) (λ makes. entered-next k (next rows (Admit k)) rows (inl e))
      by_ended false e = by-more (Entered k) rows (Admit k)
          (λ stays. absurd (let bad : true ≡ false = sym (next-live rows (Admit k) e) ∙ stays in let h = bad in cc))
          (λ makes. inr (ap (λ b. b || any_of (λ (r : Row). admits_client k r.item) rows) (ap (admits_client k) (treat-item policy pid (pick_of lists rows (Admit k)) rows (Admit k)) ∙ self k)))

  same-number : (a b : ℕ) → (a == b) ≡ true → a ≡ b
  same-number a b e = grind (arith, nat_tests)

  accepted-entered : (marks : List Mark) (t : ℕ) → is_accepted t marks ≡ true → Entered t (log_of_journal setting marks)
  accepted-entered [] t accepted = cc
  accepted-entered (mark ∷ before) t accepted = by_mark mark accepted (λ h. accepted-entered before t h)
    where
      by_mark : (m : Mark) → is_accepted t (m ∷ before) ≡ true → (is_accepted t before ≡ true → Entered t (log_of_journal setting before)) → Entered t (more_all setting (log_of_journal setting before) (items_in before m))
      by_mark (wire.Accepts k) accepted ih = by_same (k == t) refl accepted
        where
          by_same : (b : Bool) → (k == t) ≡ b → (if b then true else is_accepted t before) ≡ true → Entered t (more_of setting (log_of_journal setting before) (Admit k))
          by_same true e some = subst (λ (j : ℕ). Entered j (more_of setting (log_of_journal setting before) (Admit k))) (same-number k t e) (accepted-row k (log_of_journal setting before))
          by_same false e some = entered-more t (log_of_journal setting before) (Admit k ∷ []) (ih some)
      by_mark (wire.House m) accepted ih = by_house m accepted
        where
          by_same : (b : Bool) → (HOUSE == t) ≡ b → (if b then true else is_accepted t before) ≡ true → Entered t (more_of setting (log_of_journal setting before) (Admit HOUSE))
          by_same true e some = subst (λ (j : ℕ). Entered j (more_of setting (log_of_journal setting before) (Admit HOUSE))) (same-number HOUSE t e) (accepted-row HOUSE (log_of_journal setting before))
          by_same false e some = entered-more t (log_of_journal setting before) (Admit HOUSE ∷ []) (ih some)

          by_house : (m : HouseMark) → is_accepted t (wire.House m ∷ before) ≡ true → Entered t (more_all setting (log_of_journal setting before) (items_in before (wire.House m)))
          by_house HouseIn some = by_same (HOUSE == t) refl some
          by_house m some = entered-more t (log_of_journal setting before) (items_in before (wire.House m)) (ih some)
      by_mark m accepted ih = entered-more t (log_of_journal setting before) (items_in before m) (ih accepted)

  -- a stream that is known and not the server's
  known-entered : (marks : List Mark) (t : ℕ) → IsTrue (is_known t marks) → (t == 0) ≡ false → is_own_stream t ≡ false → Entered t (log_of_journal setting marks)
  known-entered marks t known real client = accepted-entered marks t (sym (ap (λ b. b || (is_own_stream t || is_accepted t marks)) real ∙ ap (λ b. b || is_accepted t marks) client) ∙ known)

  -- ---- the items of a mark

  heard-own : (rows : List Row) (ss : List Outgoing) → EachItem (OwnKnown rows) (map received_item ss)
  heard-own rows [] = tt
  heard-own rows (Body body ∷ ss) = (tt, heard-own rows ss)
  heard-own rows (Payload p ∷ ss) = (tt, heard-own rows ss)
  heard-own rows (BadFraming fault ∷ ss) = (tt, heard-own rows ss)

  said-own : (rows : List Row) (k : ℕ) (ss : List Outgoing) → Entered k rows → EachItem (OwnKnown rows) (map (sent_item k) ss)
  said-own rows k [] known = tt
  said-own rows k (s ∷ ss) known = (known, said-own rows k ss known)

  end-own : (rows : List Row) (rest : List ℕ) → OwnKnown rows (server_end rest)
  end-own rows [] = tt
  end-own rows (b ∷ rest) = tt

  gone-own : (before : List Mark) (stream : ℕ) (item : Item) → OwnKnown (log_of_journal setting before) item → IsTrue (is_known stream before) → EachItem (OwnKnown (log_of_journal setting before)) (elim (stream == 0) as (λ _. List Item) [ true ↦ item ∷ [] | false ↦ unless_own stream (Gone stream ∷ []) ])
  gone-own before stream item own known = by_stream (stream == 0) refl
    where
      by_stream : (b : Bool) → (stream == 0) ≡ b → EachItem (OwnKnown (log_of_journal setting before)) (elim b as (λ _. List Item) [ true ↦ item ∷ [] | false ↦ unless_own stream (Gone stream ∷ []) ])
      by_stream true e = (own, tt)
      by_stream false e = each-unless (OwnKnown (log_of_journal setting before)) stream (Gone stream ∷ []) (λ client. (known-entered before stream known e client, tt))

  mark-own : (before : List Mark) (mark : Mark) → LawfulMark before mark → EachItem (OwnKnown (log_of_journal setting before)) (items_in before mark)
  mark-own before (wire.Accepts k) known = (tt, tt)
  mark-own before (wire.Gets stream bytes) known = by_stream (stream == 0) refl
    where
      by_stream : (b : Bool) → (stream == 0) ≡ b → EachItem (OwnKnown (log_of_journal setting before)) (elim b as (λ _. List Item) [ true ↦ new_received (bytes_of 0 before) (bytes_of 0 before ++ bytes) | false ↦ unless_own stream (new_sayings stream (bytes_of stream before) (bytes_of stream before ++ bytes)) ])
      by_stream true e = heard-own (log_of_journal setting before) _
      by_stream false e = each-unless (OwnKnown (log_of_journal setting before)) stream _ (λ client. said-own (log_of_journal setting before) stream _ (known-entered before stream known.0 e client))
  mark-own before (wire.Ends stream) known = gone-own before stream (server_end (parse InProxy (bytes_of 0 before)).rest) (end-own (log_of_journal setting before) (parse InProxy (bytes_of 0 before)).rest) known
  mark-own before (wire.Fails stream) known = gone-own before stream ServerFailed tt known
  mark-own before (wire.WriteFails stream) known = gone-own before stream ServerFailed tt known
  mark-own before (wire.Takes stream bytes accepts) known = each-unless (OwnKnown (log_of_journal setting before)) stream (Took stream (length bytes) ∷ []) (λ client. (tt, tt))
  mark-own before (wire.Joins listener stream) known = tt
  mark-own before (wire.House HouseIn) known = (tt, tt)
  mark-own before (wire.House (HouseSaid bytes)) known = said-own (log_of_journal setting before) HOUSE _ (accepted-entered before HOUSE known.0)
  mark-own before (wire.House (HouseTook size)) known = (tt, tt)
  mark-own before (wire.House (HouseAnswer k id given)) known = (accepted-entered before k known, tt)
  mark-own before (wire.House (HouseAsked k id opening ask given)) known = tt
  mark-own before (wire.House (HouseOrder order number)) known = tt
  mark-own before (wire.Holds stream) known = tt
  mark-own before (wire.Frees stream) known = tt
  mark-own before (wire.Waits waiting want streams shown) known = tt

  pub log-first : (marks : List Mark) → ForEach (RowKnown policy pid) (log_of_journal setting marks) → IsLawful marks → ForEach LetFirst (log_of_journal setting marks)
  log-first [] each known = tt
  log-first (mark ∷ before) each known =
      firsts (log_of_journal setting before) (items_in before mark) (mark-own before mark known.0) each
      (log-first before (tails (ForEach (RowKnown policy pid)) (λ row rs h. h.1) (log_of_journal setting before) (items_in before mark) each) known.1)

  each-take : (P : Item → Type 0) (n : ℕ) (xs : List Item) → EachItem P xs → EachItem P (take n xs)
  each-take P zero xs all = tt
  each-take P (suc n) [] all = tt
  each-take P (suc n) (x ∷ xs) all = (all.0, each-take P n xs all.1)

  -- the same of some of the newest mark's items
  pub cut-first : (before : List Mark) (mark : Mark) (n : ℕ) → ForEach (RowKnown policy pid) (more_all setting (log_of_journal setting before) (take n (items_in before mark))) → LawfulMark before mark → IsLawful before → ForEach LetFirst (more_all setting (log_of_journal setting before) (take n (items_in before mark)))
  cut-first before mark n each known earlier =
      firsts (log_of_journal setting before) (take n (items_in before mark)) (each-take (OwnKnown (log_of_journal setting before)) n (items_in before mark) (mark-own before mark known)) each
      (log-first before (tails (ForEach (RowKnown policy pid)) (λ row rs h. h.1) (log_of_journal setting before) (take n (items_in before mark)) each) earlier)
