-- What a stream accepted and what waits for it make up what it is given.
use Rattle.std.proofs.Common.{◌≡◌, ℕ, Some, None, List, [], ◌∷◌, ◌++◌, true, false, Bool, refl, ◌∙◌, ap, sym, subst, map, drop, length, append_assoc, arith}
use Rattle.std.specs.Prelude.{◌==◌, ◌&&◌, MatchBool, not}
use Rattle.std.proofs.lemmas.List.{append-nil}
use Rattle.std.proofs.Math.Seq.{drop-append_seam}
use Rattle.std.proofs.lemmas.Bool.Decides.{nat_tests}
use Rattle.mux_history.specs.Choices.{Choices, FromLists, TheirOwn, pick_of, replies_given, reply_at, with_reply}
use Rattle.mux_history.specs.Controls.{body_asks, client_has_greeted}
use Rattle.mux_history.specs.Journal.{bytes_of, received_item, house_items, is_own_stream, unless_own, items, items_in, log_of_journal, new_received, new_sayings, sent_item, server_end, taken_by, bytes_taken_in}
use Rattle.mux_history.specs.Laws.{AddsUp}
use Rattle.mux_history.specs.Log.{Setting, bare_row, is_took, makes_next, more_all, more_of, next_row, treat}
use Rattle.mux_history.specs.Pending.{given_by, given_to, joined, pending, pending_down, pending_up, took_by, took_up}
use Rattle.mux_history.specs.Promises.{IsFront, TakesFront, Throughout}
use Rattle.mux_history.specs.Rows.{Gone, Item, Row, Says, ServerFailed, Took, rows_of, sent_by}
use Rattle.mux_history.specs.Said.{silent}
use Rattle.mux_outside.specs.OwnStreams.{is_own}
use Rattle.mux_outside.specs.declared.house_mark.HouseMark.{HouseMark}
use Rattle.mux_outside.specs.declared.house_mark.HouseMark.TheVariants.{HouseAnswer, HouseAsked, HouseIn, HouseOrder, HouseSaid, HouseTook}
use Rattle.mux_outside.specs.declared.mark.Mark.{Mark}
use Rattle.mux_history.specs.declared.limits.TheConstants.{HOUSE}
use Rattle.mux_outside.specs.declared.mark.Mark.TheVariants.{Accepts, Frees, Gets, Takes, Waits, WriteFails}
use Rattle.ssh_grammar.specs.Frames.{frame_payload}
use Rattle.ssh_grammar.specs.Said.{BadFraming, Body, InProxy, Payload, Outgoing, parse}
use Rattle.mux_outside.specs.declared.mark.Mark.TheVariants as wire
use Rattle.mux_history.proofs.Finds.{filter-no, filter-yes}
use Rattle.mux_history.proofs.LawfulItems.{treat-item}
use Rattle.mux_history.proofs.Nexts.{next-took}

-- ---- a row that is not taken adds to what waits

abbrev pub IsStill : Row → Type 0
IsStill row = is_took row.item ≡ false

still-up : (item : Item) → is_took item ≡ false → took_up item ≡ 0
still-up (Took t n) still = cc
still-up item still = refl

still-down : (item : Item) → is_took item ≡ false → took_by item ≡ 0
still-down (Took t n) still = cc
still-down item still = refl

pending-still : (t : ℕ) (row : Row) (rows : List Row) → IsStill row → pending t (row ∷ rows) ≡ pending t rows ++ given_by t row
pending-still t row rows still = by_stream (t == 0)
  where
    by_client : (b : Bool) → (row.client == t) ≡ b → pending_down (rows_of t (row ∷ rows)) ≡ pending_down (rows_of t rows) ++ elim b as (λ _. List ℕ) [ true ↦ joined row.down | false ↦ [] ]
    by_client true e = ap pending_down (filter-yes (λ (r : Row). r.client == t) row rows e) ∙ ap (λ n. drop n (pending_down (rows_of t rows) ++ joined row.down)) (still-down row.item still)
    by_client false e = ap pending_down (filter-no (λ (r : Row). r.client == t) row rows e) ∙ sym (append-nil (pending_down (rows_of t rows)))

    by_stream : (b : Bool) → (elim b as (λ _. List ℕ) [ true ↦ pending_up (row ∷ rows) | false ↦ pending_down (rows_of t (row ∷ rows)) ]) ≡ (elim b as (λ _. List ℕ) [ true ↦ pending_up rows | false ↦ pending_down (rows_of t rows) ]) ++ (elim b as (λ _. List ℕ) [ true ↦ joined (map frame_payload (sent_by row)) | false ↦ elim (row.client == t) as (λ _. List ℕ) [ true ↦ joined row.down | false ↦ [] ] ])
    by_stream true = ap (λ n. drop n (pending_up rows ++ joined (map frame_payload (sent_by row)))) (still-up row.item still)
    by_stream false = by_client (row.client == t) refl

-- ---- what makes a row

reply-took : (choices : Choices) (rows : List Row) (item : Item) → is_took (with_reply choices rows item) ≡ is_took item
reply-took (FromLists picks given) rows (Says k (Body body) old) = elim (client_has_greeted (rows_of k rows) && body_asks body) as (λ b. is_took (elim b as (λ _. Item) [ true ↦ Says k (Body body) (Some (reply_at given (replies_given rows))) | false ↦ Says k (Body body) None ]) ≡ false) [ true ↦ refl | false ↦ refl ]
reply-took (FromLists picks given) rows (Says k (Payload p) old) = refl
reply-took (FromLists picks given) rows (Says k (BadFraming fault) old) = refl
reply-took (FromLists picks given) rows item = refl
reply-took TheirOwn rows item = refl

next-still : (setting : Setting) (rows : List Row) (item : Item) → is_took item ≡ false → IsStill (next_row setting rows item)
next-still setting rows item still =
    ap is_took (treat-item setting.policy setting.pid (pick_of setting.choices rows item) rows (with_reply setting.choices rows item))
    ∙ (reply-took setting.choices rows item ∙ still)

-- ---- items that are not taken

abbrev Holds : ℕ → List ℕ → List Row → Type 0
Holds t taken rows = taken ++ pending t rows ≡ given_to t rows

holds-row : (t : ℕ) (taken : List ℕ) (row : Row) (rows : List Row) → IsStill row → Holds t taken rows → Holds t taken (row ∷ rows)
holds-row t taken row rows still h =
    ap (λ xs. taken ++ xs) (pending-still t row rows still)
    ∙ (sym (append_assoc taken (pending t rows) (given_by t row)) ∙ ap (λ xs. xs ++ given_by t row) h)

holds-more : (setting : Setting) (t : ℕ) (taken : List ℕ) (rows : List Row) (item : Item) → is_took item ≡ false → Holds t taken rows → Holds t taken (more_of setting rows item)
holds-more setting t taken rows item still h = by_next (makes_next rows item)
  where
    by_next : (b : Bool) → Holds t taken (elim b as (λ _. List Row) [ false ↦ rows | true ↦ next_row setting rows item ∷ rows ])
    by_next false = h
    by_next true = holds-row t taken (next_row setting rows item) rows (next-still setting rows item still) h

abbrev AreStill : List Item → Type 0
AreStill [] = Unit {0}
AreStill (item ∷ items) = (is_took item ≡ false) × AreStill items

holds-all : (setting : Setting) (t : ℕ) (taken : List ℕ) (rows : List Row) (items : List Item) → AreStill items → Holds t taken rows → Holds t taken (more_all setting rows items)
holds-all setting t taken rows [] still h = h
holds-all setting t taken rows (item ∷ items) still h = holds-all setting t taken (more_of setting rows item) items still.1 (holds-more setting t taken rows item still.0 h)

-- ---- what is accepted

more-took : (setting : Setting) (rows : List Row) (t n : ℕ) → more_of setting rows (Took t n) ≡ bare_row (Took t n) t silent ∷ rows
more-took setting rows t n =
    ap (λ b. elim b as (λ _. List Row) [ false ↦ rows | true ↦ next_row setting rows (Took t n) ∷ rows ]) (next-took rows t n)
    ∙ ap (λ row. row ∷ rows) (by_choices setting.choices)
  where
    by_choices : (choices : Choices) → treat setting.policy setting.pid (pick_of choices rows (Took t n)) rows (with_reply choices rows (Took t n)) ≡ bare_row (Took t n) t silent
    by_choices (FromLists picks given) = refl
    by_choices TheirOwn = refl

given-took : (t s n : ℕ) → given_by t (bare_row (Took s n) s silent) ≡ []
given-took t s n = by_stream (t == 0) (s == t)
  where
    by_stream : (a b : Bool) → (elim a as (λ _. List ℕ) [ true ↦ [] | false ↦ elim b as (λ _. List ℕ) [ true ↦ [] | false ↦ [] ] ]) ≡ []
    by_stream true b = refl
    by_stream false true = refl
    by_stream false false = refl

-- from the stream itself
pending-took : (t n : ℕ) (rows : List Row) → pending t (bare_row (Took t n) t silent ∷ rows) ≡ drop n (pending t rows)
pending-took t n rows = by_stream (t == 0) refl
  where
    self : (t == t) ≡ true
    self = grind (arith, nat_tests)

    by_stream : (b : Bool) → (t == 0) ≡ b → (elim b as (λ _. List ℕ) [ true ↦ pending_up (bare_row (Took t n) t silent ∷ rows) | false ↦ pending_down (rows_of t (bare_row (Took t n) t silent ∷ rows)) ]) ≡ drop n (elim b as (λ _. List ℕ) [ true ↦ pending_up rows | false ↦ pending_down (rows_of t rows) ])
    by_stream true e = ap (λ c. drop (elim c as (λ _. ℕ) [ true ↦ n | false ↦ 0 ]) (pending_up rows ++ [])) e ∙ ap (drop n) (append-nil (pending_up rows))
    by_stream false e = ap pending_down (filter-yes (λ (r : Row). r.client == t) (bare_row (Took t n) t silent) rows self) ∙ ap (drop n) (append-nil (pending_down (rows_of t rows)))

-- from another
pending-other : (t s n : ℕ) (rows : List Row) → (s == t) ≡ false → pending t (bare_row (Took s n) s silent ∷ rows) ≡ pending t rows
pending-other t s n rows other = by_stream (t == 0) refl
  where
    not_zero : (t == 0) ≡ true → (s == 0) ≡ false
    not_zero e = grind (arith, nat_tests)

    by_stream : (b : Bool) → (t == 0) ≡ b → (elim b as (λ _. List ℕ) [ true ↦ pending_up (bare_row (Took s n) s silent ∷ rows) | false ↦ pending_down (rows_of t (bare_row (Took s n) s silent ∷ rows)) ]) ≡ (elim b as (λ _. List ℕ) [ true ↦ pending_up rows | false ↦ pending_down (rows_of t rows) ])
    by_stream true e = ap (λ c. drop (elim c as (λ _. ℕ) [ true ↦ n | false ↦ 0 ]) (pending_up rows ++ [])) (not_zero e) ∙ append-nil (pending_up rows)
    by_stream false e = ap pending_down (filter-no (λ (r : Row). r.client == t) (bare_row (Took s n) s silent) rows other)

holds-took : (t s : ℕ) (taken bytes : List ℕ) (rows : List Row) → IsFront bytes (pending s rows) → Holds t taken rows → Holds t (taken ++ elim (s == t) as (λ _. List ℕ) [ true ↦ bytes | false ↦ [] ]) (bare_row (Took s (length bytes)) s silent ∷ rows)
holds-took t s taken bytes rows front h = by_same (s == t) refl ∙ sym (ap (λ xs. given_to t rows ++ xs) (given-took t s (length bytes)) ∙ append-nil (given_to t rows))
  where
    same : (a b : ℕ) → (a == b) ≡ true → a ≡ b
    same a b e = grind (arith, nat_tests)

    own : pending s rows ≡ bytes ++ front.0 → taken ++ pending s rows ≡ given_to s rows → (taken ++ bytes) ++ pending s (bare_row (Took s (length bytes)) s silent ∷ rows) ≡ given_to s rows
    own is h =
        ap (λ xs. (taken ++ bytes) ++ xs) (pending-took s (length bytes) rows ∙ (ap (drop (length bytes)) is ∙ drop-append_seam bytes front.0))
        ∙ (append_assoc taken bytes front.0 ∙ (ap (λ xs. taken ++ xs) (sym is) ∙ h))

    by_same : (b : Bool) → (s == t) ≡ b → (taken ++ elim b as (λ _. List ℕ) [ true ↦ bytes | false ↦ [] ]) ++ pending t (bare_row (Took s (length bytes)) s silent ∷ rows) ≡ given_to t rows
    by_same true e = subst (λ (j : ℕ). taken ++ pending j rows ≡ given_to j rows → (taken ++ bytes) ++ pending j (bare_row (Took s (length bytes)) s silent ∷ rows) ≡ given_to j rows) (same s t e) (own front.1) h
    by_same false e = ap (λ xs. xs ++ pending t (bare_row (Took s (length bytes)) s silent ∷ rows)) (append-nil taken) ∙ (ap (λ xs. taken ++ xs) (pending-other t s (length bytes) rows e) ∙ h)

-- ---- the items of a mark

said-still : (k : ℕ) (ss : List Outgoing) → AreStill (map (sent_item k) ss)
said-still k [] = tt
said-still k (s ∷ ss) = (refl, said-still k ss)

heard-still : (ss : List Outgoing) → AreStill (map received_item ss)
heard-still [] = tt
heard-still (Body body ∷ ss) = (refl, heard-still ss)
heard-still (Payload p ∷ ss) = (refl, heard-still ss)
heard-still (BadFraming fault ∷ ss) = (refl, heard-still ss)

end-still : (rest : List ℕ) → is_took (server_end rest) ≡ false
end-still [] = refl
end-still (b ∷ rest) = refl

unless-still : (stream : ℕ) (items : List Item) → AreStill items → AreStill (unless_own stream items)
unless-still stream items still = elim (is_own_stream stream) as (λ b. AreStill (elim b as (λ _. List Item) [ true ↦ [] | false ↦ items ])) [ true ↦ tt | false ↦ still ]

gone-still : (stream : ℕ) (item : Item) → is_took item ≡ false → AreStill (elim (stream == 0) as (λ _. List Item) [ true ↦ item ∷ [] | false ↦ unless_own stream (Gone stream ∷ []) ])
gone-still stream item still = elim (stream == 0) as (λ b. AreStill (elim b as (λ _. List Item) [ true ↦ item ∷ [] | false ↦ unless_own stream (Gone stream ∷ []) ])) [ true ↦ (still, tt) | false ↦ unless-still stream (Gone stream ∷ []) (refl, tt) ]

-- a stream that is no own one is another than one that is
other-own : (t s : ℕ) → is_own t ≡ false → is_own s ≡ true → (s == t) ≡ false
other-own t s e f = by_case (s == t) refl
  where
    same : (s == t) ≡ true → s ≡ t
    same g = grind (arith, nat_tests)

    by_case : (b : Bool) → (s == t) ≡ b → (s == t) ≡ false
    by_case false g = g
    by_case true g = let bad : true ≡ false = sym f ∙ (ap is_own (same g) ∙ e) in let h = bad in cc

own-of : (s : ℕ) → is_own_stream s ≡ true → is_own s ≡ true
own-of s e = by_case (is_own s) e
  where
    by_case : (b : Bool) → (b && not (s == HOUSE)) ≡ true → b ≡ true
    by_case true e = refl
    by_case false e = e

-- what another accepts
holds-other : (t s n : ℕ) (taken : List ℕ) (rows : List Row) → (s == t) ≡ false → Holds t taken rows → Holds t taken (bare_row (Took s n) s silent ∷ rows)
holds-other t s n taken rows other h = ap (λ xs. taken ++ xs) (pending-other t s n rows other) ∙ (h ∙ sym (ap (λ xs. given_to t rows ++ xs) (given-took t s n) ∙ append-nil (given_to t rows)))

module _ (setting : Setting) (before : List Mark) (t : ℕ) (client : is_own t ≡ false) (known : Holds t (taken_by t before) (log_of_journal setting before)) where
  abbrev log : List Row
  log = log_of_journal setting before

  nothing : (m : Mark) → bytes_taken_in t m ≡ [] → AreStill (items_in before m) → taken_by t (m ∷ before) ++ pending t (log_of_journal setting (m ∷ before)) ≡ given_to t (log_of_journal setting (m ∷ before))
  nothing m none still =
      ap (λ xs. (taken_by t before ++ xs) ++ pending t (log_of_journal setting (m ∷ before))) none
      ∙ (ap (λ xs. xs ++ pending t (log_of_journal setting (m ∷ before))) (append-nil (taken_by t before))
      ∙ holds-all setting t (taken_by t before) log (items_in before m) still known)

  pub one-mark : (m : Mark) → TakesFront setting before m → taken_by t (m ∷ before) ++ pending t (log_of_journal setting (m ∷ before)) ≡ given_to t (log_of_journal setting (m ∷ before))
  one-mark (wire.Accepts k) front = nothing (wire.Accepts k) refl (refl, tt)
  one-mark (wire.Gets stream bytes) front = nothing (wire.Gets stream bytes) refl (elim (stream == 0) as (λ b. AreStill (elim b as (λ _. List Item) [ true ↦ new_received (bytes_of 0 before) (bytes_of 0 before ++ bytes) | false ↦ unless_own stream (new_sayings stream (bytes_of stream before) (bytes_of stream before ++ bytes)) ])) [ true ↦ heard-still _ | false ↦ unless-still stream _ (said-still stream _) ])
  one-mark (wire.Ends stream) front = nothing (wire.Ends stream) refl (gone-still stream (server_end (parse InProxy (bytes_of 0 before)).rest) (end-still (parse InProxy (bytes_of 0 before)).rest))
  one-mark (wire.Fails stream) front = nothing (wire.Fails stream) refl (gone-still stream ServerFailed refl)
  one-mark (wire.WriteFails stream) front = nothing (wire.WriteFails stream) refl (gone-still stream ServerFailed refl)
  one-mark (wire.Holds stream) front = nothing (wire.Holds stream) refl tt
  one-mark (wire.Frees stream) front = nothing (wire.Frees stream) refl tt
  one-mark (wire.Waits waiting want streams shown) front = nothing (wire.Waits waiting want streams shown) refl tt
  one-mark (wire.Joins listener stream) front = nothing (wire.Joins listener stream) refl tt
  one-mark (wire.House mark) front = by_mark mark
    where
      by_house : (xs : List ℕ) → (HOUSE == t) ≡ false → (elim (HOUSE == t) as (λ _. List ℕ) [ true ↦ xs | false ↦ [] ]) ≡ []
      by_house xs e = ap (λ b. elim b as (λ _. List ℕ) [ true ↦ xs | false ↦ [] ]) e

      by_mark : (mark : HouseMark) → taken_by t (wire.House mark ∷ before) ++ pending t (log_of_journal setting (wire.House mark ∷ before)) ≡ given_to t (log_of_journal setting (wire.House mark ∷ before))
      by_mark HouseIn = nothing (wire.House HouseIn) refl (refl, tt)
      by_mark (HouseSaid bytes) = nothing (wire.House (HouseSaid bytes)) refl (said-still HOUSE _)
      by_mark (HouseTook n) =
          subst (λ (rows : List Row). (taken_by t before ++ []) ++ pending t rows ≡ given_to t rows) (sym (more-took setting log HOUSE n))
          (ap (λ xs. xs ++ pending t (bare_row (Took HOUSE n) HOUSE silent ∷ log)) (append-nil (taken_by t before)) ∙ holds-other t HOUSE n (taken_by t before) log (other-own t HOUSE client refl) known)
      by_mark (HouseAnswer k id given) = nothing (wire.House (HouseAnswer k id given)) refl (refl, tt)
      by_mark (HouseAsked k id opening ask given) = nothing (wire.House (HouseAsked k id opening ask given)) refl tt
      by_mark (HouseOrder order number) = nothing (wire.House (HouseOrder order number)) refl tt
  one-mark (wire.Takes stream bytes accepts) front = by_own (is_own_stream stream) refl front
    where
      none : (stream == t) ≡ false → bytes_taken_in t (wire.Takes stream bytes accepts) ≡ []
      none e = ap (λ b. elim b as (λ _. List ℕ) [ true ↦ bytes | false ↦ [] ]) e

      items_are : (b : Bool) → is_own_stream stream ≡ b → items_in before (wire.Takes stream bytes accepts) ≡ (elim b as (λ _. List Item) [ true ↦ [] | false ↦ Took stream (length bytes) ∷ [] ])
      items_are b e = ap (λ c. elim c as (λ _. List Item) [ true ↦ [] | false ↦ Took stream (length bytes) ∷ [] ]) e

      rows_are : is_own_stream stream ≡ false → log_of_journal setting (wire.Takes stream bytes accepts ∷ before) ≡ bare_row (Took stream (length bytes)) stream silent ∷ log
      rows_are e = ap (more_all setting log) (items_are false e) ∙ more-took setting log stream (length bytes)

      by_own : (b : Bool) → is_own_stream stream ≡ b → MatchBool b (Unit {0}) (IsFront bytes (pending stream log)) → taken_by t (wire.Takes stream bytes accepts ∷ before) ++ pending t (log_of_journal setting (wire.Takes stream bytes accepts ∷ before)) ≡ given_to t (log_of_journal setting (wire.Takes stream bytes accepts ∷ before))
      by_own true e front = nothing (wire.Takes stream bytes accepts) (none (other-own t stream client (own-of stream e))) (subst AreStill (sym (items_are true e)) tt)
      by_own false e front = subst (λ (rows : List Row). taken_by t (wire.Takes stream bytes accepts ∷ before) ++ pending t rows ≡ given_to t rows) (sym (rows_are e)) (holds-took t stream (taken_by t before) bytes log front known)

pub adds-up : (setting : Setting) (marks : List Mark) → Throughout (TakesFront setting) marks → AddsUp setting marks
adds-up setting [] fronts t client = by_stream (t == 0)
  where
    by_stream : (b : Bool) → (elim b as (λ _. List ℕ) [ true ↦ [] | false ↦ [] ]) ≡ []
    by_stream true = refl
    by_stream false = refl
adds-up setting (m ∷ before) fronts t client = one-mark setting before t client (adds-up setting before fronts.1 t client) m fronts.0
