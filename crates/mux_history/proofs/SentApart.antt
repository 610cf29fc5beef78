-- What is required of an item; and what a client sends keeps the channels apart.
use Rattle.std.proofs.Common.{◌≡◌, ℕ, ◌<◌, List, [], ◌∷◌, ◌++◌, true, false, Bool, refl, ◌∙◌, ap, arith, map, sym, Option, Some, None, subst, inl, inr, Ok, Err}
use Rattle.std.specs.Prelude.{◌==◌, filter, find, Result, MatchBool, is_some}
use Rattle.std.proofs.lemmas.List.{append-nil}
use Rattle.std.proofs.lemmas.Bool.Decides.{nat_tests}
use Rattle.mux_history.specs.Channels.{Channel, after_farewell, after_item, begun_by, channels_of, channel_after_item, holder, is_channel_held, is_number, opened_up, own_number_of, with_own, with_up, with_ups}
use Rattle.mux_history.specs.Choices.{sent_number, takes_number}
use Rattle.mux_history.specs.Summary.{Confirmation, Summary, Open, read_summary, reading, summary_sender_of}
use Rattle.mux_history.specs.Kept.{Every}
use Rattle.mux_history.specs.Policy.{Policy}
use Rattle.mux_history.specs.Right.{carried_number}
use Rattle.mux_history.specs.Rows.{Admit, Fate, Item, Row, Says, any_of, rows_of}
use Rattle.mux_history.specs.Said.{Outcome, drops, sent_summary, sent_payload}
use Rattle.mux_outside.specs.declared.house.HouseReply.{HouseReply}
use Rattle.ssh_fields.specs.Fields.{AreBytes}
use Rattle.ssh_grammar.specs.Said.{BadFraming, Body, Payload, Outgoing}
use Rattle.ssh_grammar.specs.SpellMessage.{with_sender}
use Rattle.ssh_grammar.specs.declared.fault.Bad.{Bad}
use Rattle.ssh_grammar.specs.declared.side.Side.TheVariants.{Up}
use Rattle.mux_history.specs.declared.why.Why.TheVariants as why
use Rattle.mux_history.proofs.Apart.{AreApart, Ids, Sound, Unused, UpStep, each-both, filter-each, find-none, good-ids, good-opens, good-up, ids-self, ids-then}
use Rattle.mux_history.proofs.Finds.{Each}
use Rattle.mux_history.proofs.Local.{channels-local, is_of}
use Rattle.mux_history.proofs.Quiets.{IsQuiet, Quiet}
use Rattle.mux_history.proofs.Readings.{reading-ok}
use Rattle.mux_history.proofs.Renumbered.{SenderIn, number-sent, reads-sent, resent, sender-in, word}
use Rattle.mux_history.proofs.Sends.{Sent, as_row, sent-by, up-step, ups-ids}

-- ---- what is asked of an item

abbrev pub admits_client : ℕ → Item → Bool
admits_client k (Admit j) = j == k
admits_client k _ = false

abbrev pub SendingBytes : Outgoing → Type 0
SendingBytes (Payload p) = AreBytes p
SendingBytes (Body body) = Unit {0}
SendingBytes (BadFraming fault) = Unit {0}

abbrev pub LawfulItem : List Row → Item → Type 0
LawfulItem rows (Admit k) = any_of (λ row. admits_client k row.item) rows ≡ false
LawfulItem rows (Says k outgoing reply) = (k ≡ 0 → ⊥) × SendingBytes outgoing
LawfulItem rows item = Unit {0}

-- the number that it uses is one that no channel holds
abbrev pub IsFresh : List Row → Row → Type 0
IsFresh before row = MatchBool (takes_number row) ((carried_number row.up < 16384) × (holder before (carried_number row.up) ≡ None)) (Unit {0})

-- ---- a client's own numbers are small

pub own-small : (p : List ℕ) (m : Summary) (c : ℕ) → AreBytes p → read_summary p ≡ Ok m → summary_sender_of m ≡ Some c → c < 4294967296
own-small p m c bytes reads owned =
    let s : SenderIn p m = sender-in p m c bytes reads owned in
    let said : Some s.old ≡ Some c = sym s.said ∙ owned in
    let same : s.old ≡ c = cc in
    subst (λ (i : ℕ). i < 4294967296) same s.small

-- ---- the parts of a step

abbrev pub Next : Row → List Channel → List Channel
Next row cs = map (after_farewell row) (map (after_item row) cs ++ begun_by row.client row.up row.item)

pub good-parted : (row : Row) → Every Quiet row.farewell → (xs : List Channel) → AreApart xs → AreApart (map (after_farewell row) xs)
good-parted row quiet xs good = good-ids (after_farewell row) ids xs good
  where
    ids : (x : Channel) → Sound x → Ids x (after_farewell row x)
    ids x sound = elim (x.client == row.client) as (λ b. Ids x (elim b as (λ _. Channel) [ true ↦ with_ups None row.farewell x | false ↦ x ])) [ true ↦ ups-ids None row.farewell quiet x | false ↦ ids-self x ]

pub good-still : (row : Row) (cs : List Channel) → Every Quiet row.farewell → ((x : Channel) → Sound x → Ids x (after_item row x)) → begun_by row.client row.up row.item ≡ [] → AreApart cs → AreApart (Next row cs)
good-still row cs parting ids begun good =
    good-parted row parting (map (after_item row) cs ++ begun_by row.client row.up row.item)
    (subst (λ (bs : List Channel). AreApart (map (after_item row) cs ++ bs)) (sym begun) (subst AreApart (sym (append-nil (map (after_item row) cs))) (good-ids (after_item row) ids cs good)))

pub item-ids : (row : Row) (x : Channel) → Every Quiet row.up → Ids x (channel_after_item row.item x) → Ids x (after_item row x)
item-ids row x quiet heard = elim (x.client == row.client) as (λ b. Ids x (elim b as (λ _. Channel) [ true ↦ with_ups (own_number_of row.item) row.up (channel_after_item row.item x) | false ↦ x ])) [ true ↦ ids-then x (channel_after_item row.item x) (with_ups (own_number_of row.item) row.up (channel_after_item row.item x)) heard (ups-ids (own_number_of row.item) row.up quiet (channel_after_item row.item x)) | false ↦ ids-self x ]

unequal : (a b : ℕ) → (a == b) ≡ true → b ≡ 0 → (a ≡ 0 → ⊥) → ⊥
unequal a b e z real = real (same a b e ∙ z)
  where
    same : (a b : ℕ) → (a == b) ≡ true → a ≡ b
    same a b e = grind (arith, nat_tests)

-- a row of no client moves no channel
pub item-master : (row : Row) → row.client ≡ 0 → (x : Channel) → Sound x → Ids x (after_item row x)
item-master row zero_client x sound = by_case (x.client == row.client) refl
  where
    by_case : (b : Bool) → (x.client == row.client) ≡ b → Ids x (elim b as (λ _. Channel) [ true ↦ with_ups (own_number_of row.item) row.up (channel_after_item row.item x) | false ↦ x ])
    by_case true e = absurd (unequal x.client row.client e zero_client sound.client)
    by_case false e = ids-self x

-- ---- what a client sends

unowned-quiet : (m : Summary) → summary_sender_of m ≡ None → IsQuiet m
unowned-quiet (Confirmation s c w max) e = cc
unowned-quiet m e = tt

pub ok-same : (p : List ℕ) (m m' : Summary) → read_summary p ≡ Ok m → read_summary p ≡ Ok m' → m ≡ m'
ok-same p m m' a b = cc

pub quiet-plain : (p : List ℕ) (m : Summary) → read_summary p ≡ Ok m → summary_sender_of m ≡ None → Quiet p
quiet-plain p m reads unowned m' reads' = subst IsQuiet (ok-same p m m' reads reads') (unowned-quiet m unowned)

pub opened-none : (k : ℕ) (m : Summary) → opened_up k [] m ≡ []
opened-none k (Open what c w max) = refl
opened-none k m = refl

pub opened-plain : (k : ℕ) (ups : List (List ℕ)) (m : Summary) → summary_sender_of m ≡ None → opened_up k ups m ≡ []
opened-plain k [] m e = opened-none k m
opened-plain k (q ∷ qs) (Open what c w max) e = cc
opened-plain k (q ∷ qs) m e = refl

begun-none : (k : ℕ) (client : ℕ) (p : List ℕ) (reply : Option HouseReply) → begun_by k [] (Says client (Payload p) reply) ≡ []
begun-none k client p reply = by_case (read_summary p)
  where
    by_case : (r : Result Summary Bad) → (elim r as (λ _. List Channel) [ Err e ↦ [] | Ok m ↦ opened_up k [] m ]) ≡ []
    by_case (Err e) = refl
    by_case (Ok m) = opened-none k m

pub unused-own : (k c : ℕ) (before : List Row) → with_own (rows_of k before) c ≡ None → Each (λ x. (x.client == k) ≡ true → is_channel_held x ≡ true → is_number x.own c ≡ false) (channels_of before)
unused-own k c before none =
    filter-each k (λ x. is_channel_held x ≡ true → is_number x.own c ≡ false) (channels_of before)
    (find-none (λ x. is_number x.own c) (filter (is_of k) (channels_of before)) (ap (λ cs. find (λ (x : Channel). is_number x.own c) (filter is_channel_held cs)) (channels-local k before) ∙ none))

unused-both : (n k c : ℕ) (before : List Row) → holder before n ≡ None → with_own (rows_of k before) c ≡ None → Each (Unused n k c) (channels_of before)
unused-both n k c before fresh none = each-both _ _ (Unused n k c) (λ x a b. record { number = a; own = λ h e. b e h }) (channels_of before) (find-none (λ x. is_number x.number n) (channels_of before) fresh) (unused-own k c before none)

module _ (before : List Row) (good : AreApart (channels_of before)) (k : ℕ) (real : k ≡ 0 → ⊥) (p : List ℕ) (reply : Option HouseReply) (fw : List (List ℕ)) (parting : Every Quiet fw) (down : List (List ℕ)) (fate : Fate) where
  abbrev the_row : List (List ℕ) → Row
  the_row up = as_row (Says k (Payload p) reply) k up fw down fate

  good-nothing : AreApart (Next (the_row []) (channels_of before))
  good-nothing = good-still (the_row []) (channels_of before) parting (λ x s. item-ids (the_row []) x tt (ids-self x)) (begun-none k k p reply) good

  good-plain : (m : Summary) → read_summary p ≡ Ok m → summary_sender_of m ≡ None → AreApart (Next (the_row (p ∷ [])) (channels_of before))
  good-plain m reads unowned = good-still (the_row (p ∷ [])) (channels_of before) parting (λ x s. item-ids (the_row (p ∷ [])) x (quiet-plain p m reads unowned, tt) (ids-self x)) (reading-ok p m (opened_up k (p ∷ [])) [] reads ∙ opened-plain k (p ∷ []) m unowned) good

  good-fresh : (pick c : ℕ) (m : Summary) → AreBytes p → read_summary p ≡ Ok m → summary_sender_of m ≡ Some c → with_own (rows_of k before) c ≡ None → IsFresh before (the_row (with_sender p pick ∷ [])) → AreApart (Next (the_row (with_sender p pick ∷ [])) (channels_of before))
  good-fresh pick c m bytes reads owned unused fresh = by_message m reads owned (reads-sent p m sender pick)
    where
      sender : SenderIn p m
      sender = sender-in p m c bytes reads owned

      q : List ℕ
      q = with_sender p pick

      small : c < 4294967296
      small = own-small p m c bytes reads owned

      has_own : own_number_of (Says k (Payload p) reply) ≡ Some c
      has_own = reading-ok p m summary_sender_of None reads ∙ owned

      numbered : (carried_number (with_sender p pick ∷ []) < 16384) × (holder before (carried_number (with_sender p pick ∷ [])) ≡ None)
      numbered = subst (λ (b : Bool). MatchBool b ((carried_number (with_sender p pick ∷ []) < 16384) × (holder before (carried_number (with_sender p pick ∷ [])) ≡ None)) (Unit {0})) (ap is_some has_own) fresh

      all_unused : Each (Unused (word pick) k c) (channels_of before)
      all_unused = unused-both (word pick) k c before (ap (holder before) (sym (ap sent_number (number-sent p m sender pick))) ∙ numbered.1) unused

      by_message : (m' : Summary) → read_summary p ≡ Ok m' → summary_sender_of m' ≡ Some c → read_summary (with_sender p pick) ≡ Ok (resent (word pick) m') → AreApart (Next (the_row (with_sender p pick ∷ [])) (channels_of before))
      by_message (Open what c' w max) reads' owned' again =
          good-parted (the_row (with_sender p pick ∷ [])) parting (map (after_item (the_row (with_sender p pick ∷ []))) (channels_of before) ++ begun_by k (with_sender p pick ∷ []) (Says k (Payload p) reply))
          (subst (λ (bs : List Channel). AreApart (map (after_item (the_row (with_sender p pick ∷ []))) (channels_of before) ++ bs)) (sym begun)
          (good-opens k c (word pick) w max (map (after_item (the_row (with_sender p pick ∷ []))) (channels_of before)) real small (unused-moved (channels_of before) all_unused) (good-ids (after_item (the_row (with_sender p pick ∷ []))) (λ x s. moved x) (channels_of before) good)))
        where
          stays : (x : Channel) → after_item (the_row (with_sender p pick ∷ [])) x ≡ x
          stays x = by_client (x.client == k)
            where
              by_client : (b : Bool) → (elim b as (λ _. Channel) [ true ↦ reading (with_sender p pick) (λ m. with_up (own_number_of (Says k (Payload p) reply)) m x) x | false ↦ x ]) ≡ x
              by_client true = reading-ok (with_sender p pick) (Open what (word pick) w max) (λ m. with_up (own_number_of (Says k (Payload p) reply)) m x) x again
              by_client false = refl

          moved : (x : Channel) → Ids x (after_item (the_row (with_sender p pick ∷ [])) x)
          moved x = subst (Ids x) (sym (stays x)) (ids-self x)

          unused-moved : (xs : List Channel) → Each (Unused (word pick) k c) xs → Each (Unused (word pick) k c) (map (after_item (the_row (with_sender p pick ∷ []))) xs)
          unused-moved [] all = tt
          unused-moved (x ∷ xs) all = (subst (Unused (word pick) k c) (sym (stays x)) all.0, unused-moved xs all.1)

          begun : begun_by k (with_sender p pick ∷ []) (Says k (Payload p) reply) ≡ record { client = k; by = Up; own = Some c; number = Some (word pick); remote = None; window = w; maximum = max; acts = [] } ∷ []
          begun = reading-ok p (Open what c' w max) (opened_up k (with_sender p pick ∷ [])) [] reads'
              ∙ (ap (λ (i : Option ℕ). record { client = k; by = Up; own = Some c'; number = i; remote = None; window = w; maximum = max; acts = [] } ∷ []) (number-sent p m sender pick)
              ∙ ap (λ (o : Option ℕ). record { client = k; by = Up; own = o; number = Some (word pick); remote = None; window = w; maximum = max; acts = [] } ∷ []) owned')
      by_message (Confirmation s c' w max) reads' owned' again =
          good-parted (the_row (with_sender p pick ∷ [])) parting (map (after_item (the_row (with_sender p pick ∷ []))) (channels_of before) ++ begun_by k (with_sender p pick ∷ []) (Says k (Payload p) reply))
          (subst (λ (bs : List Channel). AreApart (map (after_item (the_row (with_sender p pick ∷ []))) (channels_of before) ++ bs)) (sym begun)
          (subst AreApart (sym (append-nil (map (after_item (the_row (with_sender p pick ∷ []))) (channels_of before))))
          (good-up k c (word pick) s w max (after_item (the_row (with_sender p pick ∷ []))) small step (channels_of before) all_unused good)))
        where
          begun : begun_by k (with_sender p pick ∷ []) (Says k (Payload p) reply) ≡ []
          begun = reading-ok p (Confirmation s c' w max) (opened_up k (with_sender p pick ∷ [])) [] reads'

          step : (x : Channel) → UpStep k c (word pick) s w max x (after_item (the_row (with_sender p pick ∷ [])) x)
          step x = by_client (x.client == k) refl
            where
              same : (a b : ℕ) → (a == b) ≡ true → a ≡ b
              same a b e = grind (arith, nat_tests)

              by_client : (b : Bool) → (x.client == k) ≡ b → UpStep k c (word pick) s w max x (elim b as (λ _. Channel) [ true ↦ reading (with_sender p pick) (λ m. with_up (own_number_of (Says k (Payload p) reply)) m x) x | false ↦ x ])
              by_client true e = subst (UpStep k c (word pick) s w max x) (sym (reading-ok (with_sender p pick) (Confirmation s (word pick) w max) (λ m. with_up (own_number_of (Says k (Payload p) reply)) m x) x again ∙ ap (λ o. with_up o (Confirmation s (word pick) w max) x) has_own)) (up-step k c s (word pick) w max x (same x.client k e))
              by_client false e = inl (ids-self x)
      by_message m' reads' owned' again = cc

  pub good-sent : (pick : ℕ) (m : Summary) (up : List (List ℕ)) → AreBytes p → read_summary p ≡ Ok m → Sent (rows_of k before) pick p m up → IsFresh before (the_row up) → AreApart (Next (the_row up) (channels_of before))
  good-sent pick m up bytes reads (inl none) fresh = subst (λ (u : List (List ℕ)). AreApart (Next (the_row u) (channels_of before))) (sym none) good-nothing
  good-sent pick m up bytes reads (inr (inl plain)) fresh = subst (λ (u : List (List ℕ)). AreApart (Next (the_row u) (channels_of before))) (sym plain.up) (good-plain m reads plain.unowned)
  good-sent pick m up bytes reads (inr (inr new)) fresh = subst (λ (u : List (List ℕ)). AreApart (Next (the_row u) (channels_of before))) (sym new.up) (good-fresh pick new.c m bytes reads new.owned new.unused (subst (λ (u : List (List ℕ)). IsFresh before (the_row u)) new.up fresh))

  pub good-said : (policy : Policy) (pick : ℕ) → AreBytes p → IsFresh before (the_row (sent_payload policy k (rows_of k before) pick p).sent) → AreApart (Next (the_row (sent_payload policy k (rows_of k before) pick p).sent) (channels_of before))
  good-said policy pick bytes fresh = by_case (read_summary p) refl fresh
    where
      by_case : (r : Result Summary Bad) → read_summary p ≡ r → IsFresh before (the_row (elim r as (λ _. Outcome) [ Err bad ↦ drops (why.BadMessage bad) | Ok m ↦ sent_summary policy k (rows_of k before) pick p m ]).sent) → AreApart (Next (the_row (elim r as (λ _. Outcome) [ Err bad ↦ drops (why.BadMessage bad) | Ok m ↦ sent_summary policy k (rows_of k before) pick p m ]).sent) (channels_of before))
      by_case (Err bad) reads fresh = good-nothing
      by_case (Ok m) reads fresh = good-sent pick m (sent_summary policy k (rows_of k before) pick p m).sent bytes reads (sent-by policy k (rows_of k before) pick p m) fresh
