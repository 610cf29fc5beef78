-- The bytes of a dialog among all bytes of its client.
use Rattle.std.proofs.Common.{◌≡◌, ◌≢◌, ◌⊎◌, inl, inr, ◌∙◌, refl, sym, ap, arith, ℕ, ◌+◌, ◌-◌, ◌<◌, ◌≤◌, List, [], ◌++◌, length, take, drop, min, true, false, subst, append_assoc, length-append, length-take, length-drop, drop_of_length-le}
use Rattle.std.proofs.Math.Dec.{leb}
use Rattle.std.proofs.Math.Seq.{take-append_seam, drop-append_seam, drop-append-add}
use Rattle.std.proofs.lemmas.Bool.Decides.{leb_tells}
use Rattle.std.proofs.lemmas.List.{append-nil, take-append-le, take-append-drop, length-take-le}
use Rattle.ssh_fields.specs.Fields.{AreBytes}
use Rattle.socks_dialog.specs.Socks.{Dialog, socks}
use Rattle.socks_dialog.specs.State.{dialog_bytes, AreBytesWithin}
use Rattle.socks_dialog.specs.Laws.{followed}
use Rattle.socks_dialog.specs.declared.outcome.Outcome.{Outcome}
use Rattle.socks_dialog.specs.declared.outcome.Outcome.TheVariants.{Wants, Connects, Breaks}
use Rattle.socks_dialog.proofs.Dialogs.{ended, socks-parse, socks-ends}

not_breaks : (reply : List ℕ) → Breaks reply ≡ Wants → ⊥
not_breaks reply e = cc

not_connects : (host : List ℕ) (port : ℕ) → Connects host port ≡ Wants → ⊥
not_connects host port e = cc

-- more bytes are wanted, or not
pub wants_or_not : (o : Outcome) → (o ≡ Wants) ⊎ (o ≢ Wants)
wants_or_not Wants = inl refl
wants_or_not (Connects host port) = inr (not_connects host port)
wants_or_not (Breaks reply) = inr (not_breaks reply)

-- they are the front of the bytes
pub kept_is : (a : List ℕ) → dialog_bytes a ≡ (socks-parse.front a).front
kept_is a =
    let front = (socks-parse.front a).front in
    let rest = (socks a).rest in
    let whole : a ≡ front ++ rest = (socks-parse.front a).whole in
    let sizes : length a ≡ length front + length rest = ap length whole ∙ length-append front rest in
    let size : length a - length rest ≡ length front = omega arith in
    ap (λ n. take n a) size ∙ ap (take (length front)) whole ∙ take-append_seam front rest

-- read alone they are the dialog
pub kept_alone : (a : List ℕ) → socks (dialog_bytes a) ≡ ended (socks a)
kept_alone a = ap socks (kept_is a) ∙ (socks-parse.front a).alone

-- with what follows they are all bytes
pub kept_whole : (a : List ℕ) → a ≡ dialog_bytes a ++ (socks a).rest
kept_whole a = (socks-parse.front a).whole ∙ ap (λ f. f ++ (socks a).rest) (sym (kept_is a))

-- while more are wanted they are all
pub kept_wanting : (a : List ℕ) → (socks a).outcome ≡ Wants → dialog_bytes a ≡ a
kept_wanting a e =
    sym (append-nil (dialog_bytes a))
    ∙ ap (λ r. dialog_bytes a ++ r) (sym ((socks-parse.front a).wanting e))
    ∙ sym (kept_whole a)

-- bytes with nothing after their dialog are that dialog
pub kept_none : (a : List ℕ) → (socks a).rest ≡ [] → dialog_bytes a ≡ a
kept_none a e =
    sym (append-nil (dialog_bytes a)) ∙ ap (λ r. dialog_bytes a ++ r) (sym e) ∙ sym (kept_whole a)

-- once it ended they stay
pub kept_stays : (a b : List ℕ) → (socks a).outcome ≢ Wants → dialog_bytes (a ++ b) ≡ dialog_bytes a
kept_stays a b ne =
    let after : (socks (a ++ b)).rest ≡ (socks a).rest ++ b = ap (λ (d : Dialog). d.rest) (socks-parse.stays a b ne) in
    let sizes : length (a ++ b) ≡ length a + length b = length-append a b in
    let rests : length (socks (a ++ b)).rest ≡ length (socks a).rest + length b = ap length after ∙ length-append (socks a).rest b in
    let size : length (a ++ b) - length (socks (a ++ b)).rest ≡ length a - length (socks a).rest = omega arith in
    ap (λ n. take n (a ++ b)) size ∙ take-append-le (length a - length (socks a).rest) a b (omega arith)

-- the outcome of a dialog read alone
pub kept_outcome : (a : List ℕ) → (socks (dialog_bytes a)).outcome ≡ (socks a).outcome
kept_outcome a = ap (λ (d : Dialog). d.outcome) (kept_alone a)

-- the dialog's bytes represent all of them
pub kept_joins : (a b : List ℕ) → dialog_bytes (dialog_bytes a ++ b) ≡ dialog_bytes (a ++ b)
kept_joins a b = elim (wants_or_not (socks a).outcome) [
  | inl e ↦ ap (λ c. dialog_bytes (c ++ b)) (kept_wanting a e)
  | inr ne ↦ kept_stays (dialog_bytes a) b (λ e. ne (sym (kept_outcome a) ∙ e))
      ∙ kept_none (dialog_bytes a) (ap (λ (d : Dialog). d.rest) (kept_alone a))
      ∙ sym (kept_stays a b ne)
]

-- bytes with nothing after their dialog stay at the front
pub kept_grows : (a b : List ℕ) → (socks a).rest ≡ [] → length a ≤ length (dialog_bytes (a ++ b))
kept_grows a b none = elim (wants_or_not (socks (a ++ b)).outcome) [
  | inl e ↦ omega (arith, ap length (kept_wanting (a ++ b) e), length-append a b)
  | inr ne ↦ elim (wants_or_not (socks a).outcome) [
    | inr ne' ↦ omega (arith, ap length (kept_stays a b ne' ∙ kept_none a none))
    | inl e ↦ elim (leb_tells (length a) (length (dialog_bytes (a ++ b)))) [
      | inl le ↦ le.1
      | inr lt ↦ absurd (ne (shorter e ne lt.1))
    ]
  ]
]
  where
    -- a dialog that ended in a shorter front would have ended in the bytes
    shorter : (socks a).outcome ≡ Wants → (socks (a ++ b)).outcome ≢ Wants
        → length (dialog_bytes (a ++ b)) < length a → (socks (a ++ b)).outcome ≡ Wants
    shorter e ne lt =
        let kept = dialog_bytes (a ++ b) in
        let front : take (length kept) a ≡ kept =
        sym (take-append-le (length kept) a b (omega arith))
        ∙ ap (take (length kept)) (kept_whole (a ++ b))
        ∙ take-append_seam kept (socks (a ++ b)).rest in
        let more = drop (length kept) a in
        let whole : kept ++ more ≡ a = ap (λ f. f ++ more) (sym front) ∙ take-append-drop (length kept) a in
        let same : (socks kept).outcome ≡ (socks (a ++ b)).outcome = kept_outcome (a ++ b) in
        let later : socks (kept ++ more) ≡ followed more (socks kept) =
        socks-parse.stays kept more (λ e'. ne (sym same ∙ e')) in
        sym same ∙ ap (λ (d : Dialog). d.outcome) (sym later) ∙ ap (λ c. (socks c).outcome) whole ∙ e

-- what follows the dialog, once more bytes came
pub kept_rest : (all kept piece : List ℕ) (taken : ℕ) → kept ≡ dialog_bytes all
    → length kept + taken ≡ length (dialog_bytes (kept ++ piece))
    → (socks (all ++ piece)).rest ≡ (socks all).rest ++ drop taken piece
kept_rest all kept piece taken is count = elim (wants_or_not (socks all).outcome) [
  | inr ne ↦
      let size : length (dialog_bytes (kept ++ piece)) ≡ length kept =
      ap (λ k. length (dialog_bytes (k ++ piece))) is
      ∙ ap length (kept_joins all piece ∙ kept_stays all piece ne)
      ∙ ap length (sym is) in
      let none : taken ≡ 0 = omega arith in
      ap (λ (d : Dialog). d.rest) (socks-parse.stays all piece ne)
      ∙ ap (λ n. (socks all).rest ++ drop n piece) (sym none)
  | inl e ↦
      let same : kept ≡ all = is ∙ kept_wanting all e in
      let size : length (dialog_bytes (all ++ piece)) ≡ length all + taken =
      ap (λ k. length (dialog_bytes (k ++ piece))) (sym same) ∙ sym count ∙ ap (λ k. length k + taken) same in
      let kept' = dialog_bytes (all ++ piece) in
      let behind : drop (length kept') (all ++ piece) ≡ (socks (all ++ piece)).rest =
      ap (drop (length kept')) (kept_whole (all ++ piece)) ∙ drop-append_seam kept' (socks (all ++ piece)).rest in
      sym behind
      ∙ ap (λ n. drop n (all ++ piece)) size
      ∙ drop-append-add all piece taken
      ∙ ap (λ r. r ++ drop taken piece) (sym ((socks-parse.front all).wanting e))
]

-- as many bytes as a dialog can have are enough
pub kept_first : (kept more : List ℕ) → AreBytes kept → (more ≡ []) ⊎ (520 ≤ length kept)
    → dialog_bytes (kept ++ more) ≡ dialog_bytes kept
kept_first kept more bytes (inl none) = ap (λ m. dialog_bytes (kept ++ m)) none ∙ ap dialog_bytes (append-nil kept)
kept_first kept more bytes (inr long) =
    kept_stays kept more (λ e. let short : length kept < 520 = socks-ends kept bytes e in absurd (omega arith))

-- with what follows them they are as many as all
pub kept_size : (a : List ℕ) → length a ≡ length (dialog_bytes a) + length (socks a).rest
kept_size a = ap length (kept_whole a) ∙ length-append (dialog_bytes a) (socks a).rest

-- bytes that stand before a dialog's are followed in it by the first of those after them
pub front_of : (a piece kept rest : List ℕ) → a ++ piece ≡ kept ++ rest → length a ≤ length kept
    → kept ≡ a ++ take (length kept - length a) piece
front_of a piece kept rest e le =
    let more = drop (length a) kept in
    let first : take (length a) kept ≡ a =
    sym (take-append-le (length a) kept rest le) ∙ ap (take (length a)) (sym e) ∙ take-append_seam a piece in
    let whole : kept ≡ a ++ more = sym (take-append-drop (length a) kept) ∙ ap (λ f. f ++ more) first in
    let behind : piece ≡ more ++ rest =
    sym (drop-append_seam a piece)
    ∙ ap (drop (length a)) (e ∙ ap (λ k. k ++ rest) whole ∙ append_assoc a more rest)
    ∙ drop-append_seam a (more ++ rest) in
    let size : length more ≡ length kept - length a = length-drop (length a) kept in
    whole
    ∙ ap (λ m. a ++ m) (sym (take-append_seam more rest) ∙ ap (take (length more)) (sym behind)
    ∙ ap (λ n. take n piece) size)

-- ---- as the code keeps them

-- the first bytes of a longer room
pub kept_front : (room : List ℕ) (n : ℕ) → take (length (dialog_bytes (take n room))) room ≡ dialog_bytes (take n room)
kept_front room n =
    let kept = dialog_bytes (take n room) in
    let rest = (socks (take n room)).rest in
    let whole : kept ++ (rest ++ drop n room) ≡ room =
    sym (append_assoc kept rest (drop n room))
    ∙ ap (λ f. f ++ drop n room) (sym (kept_whole (take n room)))
    ∙ take-append-drop n room in
    ap (take (length kept)) (sym whole) ∙ take-append_seam kept (rest ++ drop n room)

-- more bytes, as many as there is room for
pub kept_more : (front piece : List ℕ) (n : ℕ) → n ≡ min (length piece) (520 - length front)
    → length front ≤ 520 → AreBytes (front ++ take n piece)
    → dialog_bytes (front ++ take n piece) ≡ dialog_bytes (front ++ piece)
kept_more front piece n least most bytes =
    sym (kept_first (front ++ take n piece) (drop n piece) bytes (enough (leb_tells (length piece) (520 - length front))))
    ∙ ap dialog_bytes (append_assoc front (take n piece) (drop n piece) ∙ ap (λ p. front ++ p) (take-append-drop n piece))
  where
    enough : ((leb (length piece) (520 - length front) ≡ true) × (length piece ≤ 520 - length front))
        ⊎ ((leb (length piece) (520 - length front) ≡ false) × (520 - length front < length piece))
        → (drop n piece ≡ []) ⊎ (520 ≤ length (front ++ take n piece))
    enough (inl all) =
        let fits : length piece ≤ 520 - length front = all.1 in
        let size : length piece ≤ n = omega arith in
        inl (drop_of_length-le piece size)
    enough (inr more) =
        let over : 520 - length front < length piece = more.1 in
        inr (omega (arith, length-append front (take n piece), length-take n piece))

-- what is kept of a room after a piece was put after what was kept
pub record Behind (room room' piece : List ℕ) (len result : ℕ) : Type 0 where
  pub exact : take result room' ≡ dialog_bytes (take len room ++ piece)
  pub kept : AreBytesWithin result (take result room')
  pub grows : len ≤ result
  pub count : result ≤ len + length piece
  pub front : take result room' ≡ take len room ++ take (result - len) piece

pub behind : (room room' piece : List ℕ) (len last result : ℕ) → length room ≡ 520
    → AreBytesWithin len (take len room) → last ≡ len + min (length piece) (length room - len)
    → take last room' ≡ take len room ++ take (last - len) piece → AreBytes (take last room')
    → result ≡ length (dialog_bytes (take last room')) → Behind room room' piece len result
behind room room' piece len last result size within is front bytes count =
    let most : len ≤ 520 = within.most in
    let first : length (take len room) ≡ len = length-take-le len room (omega arith) in
    let taken : last - len ≡ min (length piece) (520 - length (take len room)) = omega arith in
    let same : dialog_bytes (take last room') ≡ dialog_bytes (take len room ++ piece) =
    ap dialog_bytes front
    ∙ kept_more (take len room) piece (last - len) taken (omega arith) (subst AreBytes front bytes) in
    let exact : take result room' ≡ dialog_bytes (take last room') =
    ap (λ n. take n room') count ∙ kept_front room' last in
    let sizes = kept_size (take last room') in
    let long : length (take last room') ≡ len + length (take (last - len) piece) =
    ap length front ∙ length-append (take len room) (take (last - len) piece) ∙ ap (λ n. n + length (take (last - len) piece)) first in
    record {
      exact = exact ∙ same;
      kept = record {
        most = omega (arith, length-take (last - len) piece);
        none = ap (λ b. (socks b).rest) exact ∙ ap (λ (d : Dialog). d.rest) (kept_alone (take last room'));
      };
      grows =
          let more : length (take len room) ≤ length (dialog_bytes (take len room ++ take (last - len) piece)) =
          kept_grows (take len room) (take (last - len) piece) within.none in
          omega (arith, more, ap (λ b. length (dialog_bytes b)) front);
      count = omega (arith, length-take (last - len) piece);
      front =
          let kept = dialog_bytes (take len room ++ piece) in
          let count' : result ≡ length kept = count ∙ ap length same in
          let more : length (take len room) ≤ length kept = kept_grows (take len room) piece within.none in
          let size : length kept - length (take len room) ≡ result - len = omega arith in
          exact ∙ same
          ∙ front_of (take len room) piece kept (socks (take len room ++ piece)).rest (kept_whole (take len room ++ piece)) more
          ∙ ap (λ n. take len room ++ take n piece) size;
    }
