-- What waits for the server is bounded over all runs.
use Rattle.std.proofs.Common.{◌≡◌, ℕ, ◌+◌, ◌*◌, ◌≤◌, ◌<◌, List, [], ◌∷◌, ◌++◌, length, true, false, Bool, refl, ◌∙◌, ap, arith, sym, subst, inl, inr, zero, suc, take, drop, append_assoc}
use Rattle.std.specs.Prelude.{◌==◌, ◌⊎◌, ◌||◌, reverse}
use Rattle.std.proofs.Math.Seq.{drop-append_seam}
use Rattle.mux_outside.specs.declared.house.HouseReply.{HouseReply}
use Rattle.mux_outside.specs.declared.mark.Mark.{Mark}
use Rattle.mux_outside.specs.declared.mark.Mark.TheVariants as wire
use Rattle.ssh_grammar.specs.Said.{InControl, InProxy, parse}
use Rattle.mux_outside.specs.declared.house_mark.HouseMark.{HouseMark}
use Rattle.mux_outside.specs.declared.house_mark.HouseMark.TheVariants.{HouseAnswer, HouseAsked, HouseIn, HouseOrder, HouseSaid, HouseTook}
use Rattle.mux_outside.specs.declared.start_ask.StartAsk.{StartAsk}
use Rattle.mux_history.specs.declared.limits.TheConstants.{HOUSE}
use Rattle.mux_history.specs.Kept.{AtEach}
use Rattle.mux_history.specs.Journal.{items, IsLawful, LawfulMark, bytes_of, is_own_stream, items_in, log_of_journal, new_received, new_sayings, server_end, unless_own}
use Rattle.mux_history.specs.Log.{log_of, more_all, more_of}
use Rattle.mux_history.specs.Pending.{pending_up}
use Rattle.mux_history.specs.Policy.{Policy}
use Rattle.mux_history.specs.Promises.{Throughout}
use Rattle.mux_history.specs.Right.{AreFresh, IsRight}
use Rattle.mux_history.specs.Wires.{reads}
use Rattle.mux_history.specs.Rows.{Admit, Item, Row, ServerFailed, Took, is_run_over}
use Rattle.mux_bounds.specs.Bounds.{AddsAtOnce, IsLog, ReadsWithRoom, StaysBelow, house_speaks}
use Rattle.std.proofs.lemmas.List.{reverse-append, take-append-drop, take_all}
use Rattle.mux_history.proofs.Journals.{journal-items, log-more, logs-right}
use Rattle.mux_history.proofs.RightLogs.{LogKnown, right-known}
use Rattle.mux_bounds.proofs.AddsNothing.{unless-free, gone-free, gone-mute, mute-take, over-all, server-free, server-mute, total-take, waits}
use Rattle.mux_bounds.proofs.Entries.{EachItem, by-more, each-unless, cut-first, log-first, setting, tails}
use Rattle.mux_bounds.proofs.Lengths.{new-bodies, new-bytes, new_sends, payloads_bytes}
use Rattle.mux_bounds.proofs.Potentials.{Facts, IsMute, heard-cost, heard-mute, live-grows, live_cost, owed-grows, owed_cost, said-cost, total, with_live, with_owed}
use Rattle.mux_bounds.proofs.Totals.{live, live-few, owed, owed-all-few}

module _ (policy : Policy) (pid : ℕ) (picks : List ℕ) (given : List HouseReply) where
  abbrev log : List Mark → List Row
  log marks = log_of_journal (setting policy pid picks given) marks

  -- ---- one mark, or some of its items

  abbrev cut : List Mark → Mark → ℕ → List Row
  cut before mark n = more_all (setting policy pid picks given) (log before) (take n (items_in before mark))

  record Known (marks : List Mark) : Type 0 where
    lawful : IsLawful marks
    fresh : AreFresh (log marks)

  log-known : (marks : List Mark) → Known marks → LogKnown policy pid (log marks)
  log-known marks known = right-known policy pid picks given marks 0 (log marks) known.lawful ((logs-right policy pid picks given marks).whole known.fresh)

  facts-of : (marks : List Mark) → Known marks → Facts policy pid (log marks)
  facts-of marks known = let each = (log-known marks known).each in record { known = each; first = log-first policy pid picks given marks each known.lawful }

  record KnownCut (before : List Mark) (mark : Mark) (n : ℕ) : Type 0 where
    lawful : LawfulMark before mark × IsLawful before
    fresh : AreFresh (cut before mark n)

  -- so many items more of a mark make a right log
  cut-items : (n : ℕ) (xs ys : List Item) → drop (length (reverse (drop n xs))) (reverse xs ++ ys) ≡ reverse (take n xs) ++ ys
  cut-items n xs ys =
      ap (λ zs. drop (length (reverse (drop n xs))) (zs ++ ys)) (ap reverse (sym (take-append-drop n xs)) ∙ reverse-append (take n xs) (drop n xs))
      ∙ (ap (drop (length (reverse (drop n xs)))) (append_assoc (reverse (drop n xs)) (reverse (take n xs)) ys)
      ∙ drop-append_seam (reverse (drop n xs)) (reverse (take n xs) ++ ys))

  cut-right : (before : List Mark) (mark : Mark) (n : ℕ) → AreFresh (cut before mark n) → (left : ℕ) × IsRight (setting policy pid picks given) (mark ∷ before) left (cut before mark n)
  cut-right before mark n fresh = (
    length (reverse (drop n (items_in before mark))),
    record {
      determined = ap (λ rows. more_all (setting policy pid picks given) rows (take n (items_in before mark))) (journal-items policy pid picks given before)
          ∙ (sym (log-more (setting policy pid picks given) (take n (items_in before mark)) (items before))
          ∙ ap (log_of (setting policy pid picks given)) (sym (cut-items n (items_in before mark) (items before))));
      fresh = fresh;
    },
  )

  cut-known : (before : List Mark) (mark : Mark) (n : ℕ) → KnownCut before mark n → LogKnown policy pid (cut before mark n)
  cut-known before mark n known = let r = cut-right before mark n known.fresh in right-known policy pid picks given (mark ∷ before) r.0 (cut before mark n) known.lawful r.1

  cut-facts : (before : List Mark) (mark : Mark) (n : ℕ) → KnownCut before mark n → Facts policy pid (cut before mark n)
  cut-facts before mark n known = let each = (cut-known before mark n known).each in record { known = each; first = cut-first policy pid picks given before mark n each known.lawful.0 known.lawful.1 }

  known-before : (before : List Mark) (mark : Mark) (n : ℕ) → KnownCut before mark n → Known before
  known-before before mark n known = record {
    lawful = known.lawful.1;
    fresh = tails policy pid picks given AreFresh (λ row rs h. h.1) (log before) (take n (items_in before mark)) known.fresh;
  }

  -- what a mark does: nothing is read, the server sends something, or a client does or comes
  abbrev Still : List Mark → Mark → ℕ → Type 0
  Still before mark n = with_owed (cut before mark n) ≤ with_owed (log before)

  record Receives (before : List Mark) (mark : Mark) (n : ℕ) : Type 0 where
    reads : (reads mark || house_speaks mark) ≡ true
    grows : with_owed (cut before mark n) ≤ with_owed (log before) + 983049

  record Says (before : List Mark) (mark : Mark) (n : ℕ) : Type 0 where
    reads : (reads mark || house_speaks mark) ≡ true
    grows : with_live (cut before mark n) ≤ with_live (log before) + 327683

  abbrev Moves : List Mark → Mark → ℕ → Type 0
  Moves before mark n = Still before mark n ⊎ (Receives before mark n ⊎ Says before mark n)

  still-mark : (before : List Mark) (mark : Mark) (n : ℕ) → Facts policy pid (cut before mark n) → EachItem IsMute (items_in before mark) → total owed_cost (items_in before mark) ≡ 0 → Still before mark n
  still-mark before mark n facts mute none =
      let g = owed-grows policy pid picks given (log before) (take n (items_in before mark)) (mute-take n (items_in before mark) mute) facts in
      let t = total-take owed_cost n (items_in before mark) in
      omega (arith, g, t, none)

  unless-cost : (stream : ℕ) (xs : List Item) → total live_cost (unless_own stream xs) ≤ total live_cost xs
  unless-cost stream xs = elim (is_own_stream stream) as (λ b. total live_cost (elim b as (λ _. List Item) [ true ↦ [] | false ↦ xs ]) ≤ total live_cost xs) [ true ↦ omega arith | false ↦ omega arith ]

  -- what the forwarder sends
  house-mark : (before : List Mark) (bytes : List ℕ) (n : ℕ) → length bytes ≤ 65536 → Facts policy pid (cut before (wire.House (HouseSaid bytes)) n) → Moves before (wire.House (HouseSaid bytes)) n
  house-mark before bytes n short facts = inr (inr (record {
    reads = refl;
    grows =
        let g = live-grows policy pid picks given (log before) (take n (items_in before (wire.House (HouseSaid bytes)))) facts in
        let t = total-take live_cost n (items_in before (wire.House (HouseSaid bytes))) in
        let c = said-cost HOUSE (new_sends InControl (bytes_of HOUSE before) bytes) in
        let m = new-bytes InControl (bytes_of HOUSE before) bytes in
        omega (arith, g, t, c, m, short);
  }))

  gets-mark : (before : List Mark) (stream : ℕ) (bytes : List ℕ) (n : ℕ) → length bytes ≤ 65536 → Facts policy pid (cut before (wire.Gets stream bytes) n) → Moves before (wire.Gets stream bytes) n
  gets-mark before stream bytes n short facts = by_stream (stream == 0) refl
    where
      items-are : (b : Bool) → (stream == 0) ≡ b → items_in before (wire.Gets stream bytes) ≡ (elim b as (λ _. List Item) [ true ↦ new_received (bytes_of 0 before) (bytes_of 0 before ++ bytes) | false ↦ unless_own stream (new_sayings stream (bytes_of stream before) (bytes_of stream before ++ bytes)) ])
      items-are b e = ap (λ c. elim c as (λ _. List Item) [ true ↦ new_received (bytes_of 0 before) (bytes_of 0 before ++ bytes) | false ↦ unless_own stream (new_sayings stream (bytes_of stream before) (bytes_of stream before ++ bytes)) ]) e

      by_stream : (b : Bool) → (stream == 0) ≡ b → Moves before (wire.Gets stream bytes) n
      by_stream true e = inr (inl (record {
        reads = refl;
        grows =
            let mute : EachItem IsMute (items_in before (wire.Gets stream bytes)) = subst (EachItem IsMute) (sym (items-are true e)) (heard-mute (new_sends InProxy (bytes_of 0 before) bytes)) in
            let g = owed-grows policy pid picks given (log before) (take n (items_in before (wire.Gets stream bytes))) (mute-take n (items_in before (wire.Gets stream bytes)) mute) facts in
            let t = total-take owed_cost n (items_in before (wire.Gets stream bytes)) in
            let c : total owed_cost (items_in before (wire.Gets stream bytes)) ≡ 3 * payloads_bytes (new_sends InProxy (bytes_of 0 before) bytes) = ap (total owed_cost) (items-are true e) ∙ heard-cost (new_sends InProxy (bytes_of 0 before) bytes) (new-bodies (bytes_of 0 before) bytes) in
            let m = new-bytes InProxy (bytes_of 0 before) bytes in
            omega (arith, g, t, c, m, short);
      }))
      by_stream false e = inr (inr (record {
        reads = refl;
        grows =
            let g = live-grows policy pid picks given (log before) (take n (items_in before (wire.Gets stream bytes))) facts in
            let t = total-take live_cost n (items_in before (wire.Gets stream bytes)) in
            let c : total live_cost (items_in before (wire.Gets stream bytes)) ≤ payloads_bytes (new_sends InControl (bytes_of stream before) bytes) = subst (λ (xs : List Item). total live_cost xs ≤ payloads_bytes (new_sends InControl (bytes_of stream before) bytes)) (sym (items-are false e)) (let u = unless-cost stream (new_sayings stream (bytes_of stream before) (bytes_of stream before ++ bytes)) in let w = said-cost stream (new_sends InControl (bytes_of stream before) bytes) in omega (arith, u, w)) in
            let m = new-bytes InControl (bytes_of stream before) bytes in
            omega (arith, g, t, c, m, short);
      }))

  moves : (before : List Mark) (mark : Mark) (n : ℕ) → LawfulMark before mark → Facts policy pid (cut before mark n) → Moves before mark n
  moves before (wire.Accepts k) n lawful facts = inr (inr (record { reads = refl; grows = let g = live-grows policy pid picks given (log before) (take n (Admit k ∷ [])) facts in let t = total-take live_cost n (Admit k ∷ []) in omega (arith, g, t) }))
  moves before (wire.Gets stream bytes) n lawful facts = gets-mark before stream bytes n lawful.2 facts
  moves before (wire.Ends stream) n lawful facts = inl (still-mark before (wire.Ends stream) n facts (gone-mute stream (server_end (parse InProxy (bytes_of 0 before)).rest) (server-mute (parse InProxy (bytes_of 0 before)).rest)) (gone-free stream (server_end (parse InProxy (bytes_of 0 before)).rest) (server-free (parse InProxy (bytes_of 0 before)).rest)))
  moves before (wire.Fails stream) n lawful facts = inl (still-mark before (wire.Fails stream) n facts (gone-mute stream ServerFailed (tt, tt)) (gone-free stream ServerFailed refl))
  moves before (wire.WriteFails stream) n lawful facts = inl (still-mark before (wire.WriteFails stream) n facts (gone-mute stream ServerFailed (tt, tt)) (gone-free stream ServerFailed refl))
  moves before (wire.Takes stream bytes accepts) n lawful facts = inl (still-mark before (wire.Takes stream bytes accepts) n facts (each-unless IsMute stream (Took stream (length bytes) ∷ []) (λ client. (tt, tt))) (unless-free stream (Took stream (length bytes) ∷ []) refl))
  moves before (wire.Joins listener stream) n lawful facts = inl (still-mark before (wire.Joins listener stream) n facts tt refl)
  moves before (wire.House HouseIn) n lawful facts = inr (inr (record { reads = refl; grows = let g = live-grows policy pid picks given (log before) (take n (Admit HOUSE ∷ [])) facts in let t = total-take live_cost n (Admit HOUSE ∷ []) in omega (arith, g, t) }))
  moves before (wire.House (HouseSaid bytes)) n lawful facts = house-mark before bytes n lawful.2 facts
  moves before (wire.House (HouseTook size)) n lawful facts = inl (still-mark before (wire.House (HouseTook size)) n facts (tt, tt) refl)
  moves before (wire.House (HouseAnswer k id answer)) n lawful facts = inl (still-mark before (wire.House (HouseAnswer k id answer)) n facts (tt, tt) refl)
  moves before (wire.House (HouseAsked k id opening ask answer)) n lawful facts = inl (still-mark before (wire.House (HouseAsked k id opening ask answer)) n facts tt refl)
  moves before (wire.House (HouseOrder order number)) n lawful facts = inl (still-mark before (wire.House (HouseOrder order number)) n facts tt refl)
  moves before (wire.Holds stream) n lawful facts = inl (still-mark before (wire.Holds stream) n facts tt refl)
  moves before (wire.Frees stream) n lawful facts = inl (still-mark before (wire.Frees stream) n facts tt refl)
  moves before (wire.Waits waiting want streams shown) n lawful facts = inl (still-mark before (wire.Waits waiting want streams shown) n facts tt refl)

  -- ---- what one mark adds

  adds-cut : (before : List Mark) (mark : Mark) (n : ℕ) → KnownCut before mark n → waits (cut before mark n) ≤ waits (log before) + 4096009
  adds-cut before mark n known = by_end (is_run_over (log before)) refl
    where
      was : Known before
      was = known-before before mark n known

      few : live (log before) ≤ 64
      few = live-few policy pid (log before) (log-known before was)

      by_end : (b : Bool) → is_run_over (log before) ≡ b → waits (cut before mark n) ≤ waits (log before) + 4096009
      by_end true e = let o = (over-all policy pid picks given (log before) (take n (items_in before mark)) e).0 in omega (arith, o)
      by_end false e = by_move (moves before mark n known.lawful.0 (cut-facts before mark n known)) (owed-all-few policy pid (log before) (log-known before was) (facts-of before was).first e)
        where
          by_move : Moves before mark n → owed (log before) ≤ 4096 → waits (cut before mark n) ≤ waits (log before) + 4096009
          by_move (inl still) late = let f = few in omega (arith, still, late, f)
          by_move (inr (inl receives)) late = let f = few in let g = receives.grows in omega (arith, g, late, f)
          by_move (inr (inr says)) late = let f = few in let g = says.grows in omega (arith, g, late, f)

  -- ---- all marks

  record Bound (rows : List Row) : Type 0 where
    waits : waits rows ≤ 8290313
    going : is_run_over rows ≡ false → with_owed rows ≤ 8290313

  bound-next : (before : List Mark) (mark : Mark) (n : ℕ) → KnownCut before mark n → ((reads mark || house_speaks mark) ≡ true → waits (log before) < 4194304) → Bound (log before) → Bound (cut before mark n)
  bound-next before mark n known room bound = by_end (is_run_over (log before)) refl
    where
      was : Known before
      was = known-before before mark n known

      few : live (log before) ≤ 64
      few = live-few policy pid (log before) (log-known before was)

      late-after : is_run_over (cut before mark n) ≡ false → owed (cut before mark n) ≤ 4096
      late-after going = owed-all-few policy pid (cut before mark n) (cut-known before mark n known) (cut-facts before mark n known).first going

      by_end : (b : Bool) → is_run_over (log before) ≡ b → Bound (cut before mark n)
      by_end true e =
          let o = over-all policy pid picks given (log before) (take n (items_in before mark)) e in
          let w = o.0 in
          let h = bound.waits in
          record {
            waits = omega (arith, w, h);
            going = λ going. absurd (let bad : true ≡ false = sym o.1 ∙ going in let g = bad in cc);
          }
      by_end false e = by_move (moves before mark n known.lawful.0 (cut-facts before mark n known)) (owed-all-few policy pid (log before) (log-known before was) (facts-of before was).first e)
        where
          by_move : Moves before mark n → owed (log before) ≤ 4096 → Bound (cut before mark n)
          by_move (inl still) late = let h = bound.going e in record { waits = omega (arith, still, h); going = λ going. omega (arith, still, h) }
          by_move (inr (inl receives)) late =
              let f = few in
              let g = receives.grows in
              let r = room receives.reads in
              record { waits = omega (arith, g, late, f, r); going = λ going. omega (arith, g, late, f, r) }
          by_move (inr (inr says)) late =
              let f = few in
              let g = says.grows in
              let r = room says.reads in
              record { waits = omega (arith, g, late, f, r); going = λ going. (let l = late-after going in omega (arith, g, l, f, r)) }

  -- all items of a mark
  all-of-mark : (before : List Mark) (mark : Mark) → cut before mark (length (items_in before mark)) ≡ log (mark ∷ before)
  all-of-mark before mark = ap (more_all (setting policy pid picks given) (log before)) (take_all (length (items_in before mark)) (items_in before mark) (omega arith))

  whole-known : (before : List Mark) (mark : Mark) → Known (mark ∷ before) → KnownCut before mark (length (items_in before mark))
  whole-known before mark known = record { lawful = known.lawful; fresh = subst AreFresh (sym (all-of-mark before mark)) known.fresh }

  bounds : (marks : List Mark) → Known marks → Throughout (ReadsWithRoom (setting policy pid picks given)) marks → Bound (log marks)
  bounds [] known rooms = record { waits = omega arith; going = λ going. omega arith }
  bounds (mark ∷ before) known rooms =
      let whole = whole-known before mark known in
      subst Bound (all-of-mark before mark) (bound-next before mark (length (items_in before mark)) whole rooms.0 (bounds before (known-before before mark (length (items_in before mark)) whole) rooms.1))

  -- ---- every log

  -- it is made of the log before the newest mark and some of that mark's items
  abbrev Cut : List Mark → Mark → List Row → Type 0
  Cut before mark rows = (rows ≡ log (mark ∷ before)) ⊎ ((n : ℕ) × (rows ≡ cut before mark n))

  cut-of : (before : List Mark) (mark : Mark) (rows : List Row) → Cut before mark rows → (n : ℕ) × (rows ≡ cut before mark n)
  cut-of before mark rows (inl whole) = (length (items_in before mark), whole ∙ sym (all-of-mark before mark))
  cut-of before mark rows (inr part) = (part.0, part.1)

  nothing-yet : (rows : List Row) → IsLog (setting policy pid picks given) [] rows → rows ≡ []
  nothing-yet rows (inl whole) = whole
  nothing-yet rows (inr part) = part

  -- a request of a client adds nothing: the rows are those of the mark before
  asked-log : (k id : ℕ) (opening : Bool) (ask : StartAsk) (answer : HouseReply) (before : List Mark) (rows : List Row) → IsLog (setting policy pid picks given) (wire.House (HouseAsked k id opening ask answer) ∷ before) rows → IsLog (setting policy pid picks given) before rows
  asked-log k id opening ask answer before rows (inl whole) = inl whole
  asked-log k id opening ask answer before rows (inr part) = inr part

  adds-here : (mark : Mark) (before : List Mark) (rows : List Row) → IsLawful (mark ∷ before) → Cut before mark rows → AreFresh rows → waits rows ≤ waits (log before) + 4096009
  adds-here mark before rows lawful is fresh =
      let c = cut-of before mark rows is in
      subst (λ rs. waits rs ≤ waits (log before) + 4096009) (sym c.1) (adds-cut before mark c.0 (record { lawful = lawful; fresh = subst AreFresh c.1 fresh }))

  adds-house : (mark : HouseMark) (before : List Mark) (rows : List Row) → IsLawful (wire.House mark ∷ before) → IsLog (setting policy pid picks given) (wire.House mark ∷ before) rows → AreFresh rows → (IsLog (setting policy pid picks given) before rows → AddsAtOnce (setting policy pid picks given) before rows) → AddsAtOnce (setting policy pid picks given) (wire.House mark ∷ before) rows
  adds-house (HouseAsked k id opening ask answer) before rows lawful is fresh earlier = earlier (asked-log k id opening ask answer before rows is)
  adds-house mark before rows lawful is fresh earlier = adds-here (wire.House mark) before rows lawful is fresh

  pub adds-at-once : (marks : List Mark) (rows : List Row) → IsLawful marks → IsLog (setting policy pid picks given) marks rows → AreFresh rows → AddsAtOnce (setting policy pid picks given) marks rows
  adds-at-once [] rows lawful is fresh = ap pending_up (nothing-yet rows is)
  adds-at-once (wire.House mark ∷ before) rows lawful is fresh = adds-house mark before rows lawful is fresh (λ was. adds-at-once before rows lawful.1 was fresh)
  adds-at-once (mark ∷ before) rows lawful is fresh = adds-here mark before rows lawful is fresh

  below : (rows : List Row) → Bound rows → StaysBelow rows
  below rows bound = let b = bound.waits in record { within = omega (arith, b); below = omega (arith, b) }

  -- ---- at each row

  -- what holds at each row, and of the log after each of some items, holds at each row after them
  each-row : (P : List Row → Type 0) (rows : List Row) (n : ℕ) (xs : List Item) → ((m : ℕ) → P (more_all (setting policy pid picks given) rows (take m xs))) → AtEach P rows → AtEach P (more_all (setting policy pid picks given) rows (take n xs))
  each-row P rows zero xs all each = each
  each-row P rows (suc n) [] all each = each
  each-row P rows (suc n) (item ∷ xs) all each =
      each-row P (more_of (setting policy pid picks given) rows item) n xs (λ m. all (suc m))
      (by-more policy pid picks given (λ rs. P rs → AtEach P rs) rows item (λ stays p. each) (λ makes p. (p, each)) (all (suc zero)))

  -- where its numbers are fresh
  abbrev Low : List Row → Type 0
  Low rows = AreFresh rows → StaysBelow rows

  each-fresh : (rows : List Row) → AreFresh rows → AtEach Low rows → AtEach StaysBelow rows
  each-fresh [] fresh each = each fresh
  each-fresh (row ∷ before) fresh each = (each.0 fresh, each-fresh before fresh.1 each.1)

  each-cut : (before : List Mark) (mark : Mark) (n : ℕ) → IsLawful (mark ∷ before) → Throughout (ReadsWithRoom (setting policy pid picks given)) (mark ∷ before) → AtEach Low (log before) → AtEach Low (cut before mark n)
  each-cut before mark n lawful rooms = each-row Low (log before) n (items_in before mark) (λ m fresh.
      let known : KnownCut before mark m = record { lawful = lawful; fresh = fresh } in
      below (cut before mark m) (bound-next before mark m known rooms.0 (bounds before (known-before before mark m known) rooms.1)))

  none-below : StaysBelow []
  none-below = record { within = omega arith; below = omega arith }

  each-log : (marks : List Mark) → IsLawful marks → Throughout (ReadsWithRoom (setting policy pid picks given)) marks → AtEach Low (log marks)
  each-log [] lawful rooms = λ fresh. none-below
  each-log (mark ∷ before) lawful rooms = subst (AtEach Low) (all-of-mark before mark) (each-cut before mark (length (items_in before mark)) lawful rooms (each-log before lawful.1 rooms.1))

  stays-here : (mark : Mark) (before : List Mark) (rows : List Row) → IsLawful (mark ∷ before) → Cut before mark rows → AreFresh rows → Throughout (ReadsWithRoom (setting policy pid picks given)) (mark ∷ before) → AtEach StaysBelow rows
  stays-here mark before rows lawful is fresh rooms =
      let c = cut-of before mark rows is in
      each-fresh rows fresh (subst (AtEach Low) (sym c.1) (each-cut before mark c.0 lawful rooms (each-log before lawful.1 rooms.1)))

  stays-house : (mark : HouseMark) (before : List Mark) (rows : List Row) → IsLawful (wire.House mark ∷ before) → IsLog (setting policy pid picks given) (wire.House mark ∷ before) rows → AreFresh rows → Throughout (ReadsWithRoom (setting policy pid picks given)) (wire.House mark ∷ before) → (IsLog (setting policy pid picks given) before rows → AtEach StaysBelow rows) → AtEach StaysBelow rows
  stays-house (HouseAsked k id opening ask answer) before rows lawful is fresh rooms earlier = earlier (asked-log k id opening ask answer before rows is)
  stays-house mark before rows lawful is fresh rooms earlier = stays-here (wire.House mark) before rows lawful is fresh rooms

  pub stays-below : (marks : List Mark) (rows : List Row) → IsLawful marks → IsLog (setting policy pid picks given) marks rows → AreFresh rows → Throughout (ReadsWithRoom (setting policy pid picks given)) marks → AtEach StaysBelow rows
  stays-below [] rows lawful is fresh rooms = subst (AtEach StaysBelow) (sym (nothing-yet rows is)) none-below
  stays-below (wire.House mark ∷ before) rows lawful is fresh rooms = stays-house mark before rows lawful is fresh rooms (λ was. stays-below before rows lawful.1 was fresh rooms.1)
  stays-below (mark ∷ before) rows lawful is fresh rooms = stays-here mark before rows lawful is fresh rooms
