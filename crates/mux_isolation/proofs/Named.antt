-- What is known of each row of a client: its payloads are resent alike, and its numbers name the
-- same channels.
use Rattle.std.proofs.Common.{◌≡◌, ℕ, ◌<◌, List, [], ◌∷◌, true, false, Bool, refl, ◌∙◌, ap, arith, map, sym, Option, Some, None, subst, inl, inr, Ok, Err}
use Rattle.std.specs.Prelude.{◌==◌, filter, find, Result}
use Rattle.std.proofs.lemmas.Bool.Decides.{nat_tests}
use Rattle.mux_history.specs.Channels.{Channel, begun_by, channels_of, held_of, holder, is_channel_held, is_number, opened_down, opened_up, own_number_of}
use Rattle.mux_history.specs.Summary.{Confirmation, Summary, Open, Within, read_summary, reading, summary_recipient_of, summary_sender_of}
use Rattle.mux_history.specs.Heard.{Breaks, ToClient, dest, own_number}
use Rattle.mux_history.specs.Kept.{Every}
use Rattle.mux_history.specs.Policy.{Policy}
use Rattle.mux_history.specs.Rows.{Admit, BadServer, Fate, Gone, Heard, HouseSays, Item, Row, RunEnd, Says, ServerCut, ServerEnd, ServerFailed, Took, rows_of}
use Rattle.mux_history.specs.Said.{Outcome, drops, sent_summary, sent_payload}
use Rattle.mux_history.specs.Solo.{item_for, own_ups}
use Rattle.mux_outside.specs.declared.house.HouseReply.{HouseReply}
use Rattle.ssh_fields.specs.Fields.{AreBytes}
use Rattle.ssh_grammar.specs.Said.{Payload, heard}
use Rattle.ssh_grammar.specs.SpellMessage.{with_sender}
use Rattle.ssh_grammar.specs.declared.fault.Bad.{Bad}
use Rattle.ssh_grammar.specs.declared.side.Side.TheVariants.{Up}
use Rattle.mux_history.specs.declared.why.Why.TheVariants as why
use Rattle.mux_history.proofs.Apart.{AreApart, Sound, each-filter, each-of, find-of}
use Rattle.mux_history.proofs.Dests.{Reached, dest-err, dest-ok, reached}
use Rattle.mux_history.proofs.Finds.{Each, filter-no, filter-yes, find-no, find-yes}
use Rattle.mux_history.proofs.Local.{channels-local}
use Rattle.mux_history.proofs.Quiets.{Quiet}
use Rattle.mux_history.proofs.Readings.{reading-ok}
use Rattle.mux_history.proofs.Renumbered.{SenderIn, number-sent, readdressed, reads-sent, resent, sender-in, sent-again, spelled, word}
use Rattle.mux_history.proofs.SentApart.{ok-same, opened-none, opened-plain, own-small, quiet-plain}
use Rattle.mux_history.proofs.Sends.{Sent, as_row, sent-by}
use Rattle.mux_isolation.proofs.Heard.{Named}
use Rattle.mux_isolation.proofs.Meets.{Distinct, Meets, distinct-of, meets-all, own_numbered}
use Rattle.mux_isolation.proofs.Numbers.{ReceivedOne, Numbered, RowNamed, UpsNamed}
use Rattle.mux_isolation.proofs.Rows.{SmallItem, same-use, seen_payload}
use Rattle.mux_history.proofs.Bools.{is-of}

-- ---- what was found

pub found-true : {X : Type 0} (test : X → Bool) (x : X) (xs : List X) → find test xs ≡ Some x → test x ≡ true
found-true test x [] found = cc
found-true test x (y ∷ ys) found = by_case (λ h. found-true test x ys h) (test y) refl
  where
    by_case : (find test ys ≡ Some x → test x ≡ true) → (b : Bool) → test y ≡ b → test x ≡ true
    by_case ih true e = let here = sym (find-yes test y ys e) ∙ found in let same : y ≡ x = cc in ap test (sym same) ∙ e
    by_case ih false e = ih (sym (find-no test y ys e) ∙ found)

found-each : (P : Channel → Type 0) (held test : Channel → Bool) (x : Channel) (xs : List Channel) → Each P xs → find test (filter held xs) ≡ Some x → P x
found-each P held test x [] all found = cc
found-each P held test x (y ∷ ys) all found = by_case (λ h. found-each P held test x ys all.1 h) (held y) refl (test y) refl
  where
    by_case : (find test (filter held ys) ≡ Some x → P x) → (b : Bool) → held y ≡ b → (t : Bool) → test y ≡ t → P x
    by_case ih false e t f = ih (sym (ap (find test) (filter-no held y ys e)) ∙ found)
    by_case ih true e false f = ih (sym (ap (find test) (filter-yes held y ys e) ∙ find-no test y (filter held ys) f) ∙ found)
    by_case ih true e true f = let here = sym (ap (find test) (filter-yes held y ys e) ∙ find-yes test y (filter held ys) f) ∙ found in let same : y ≡ x = cc in subst P same all.0

number-is : (o : Option ℕ) (n : ℕ) → is_number o n ≡ true → o ≡ Some n
number-is None n e = cc
number-is (Some m) n e = ap Some (same m n e)
  where
    same : (a b : ℕ) → (a == b) ≡ true → a ≡ b
    same a b e = grind (arith, nat_tests)

each-unit : (P : Channel → Type 0) → ((x : Channel) → P x) → (xs : List Channel) → Each P xs
each-unit P all [] = tt
each-unit P all (x ∷ xs) = (all x, each-unit P all xs)

-- a number that reaches the client's channel, and the client's own number of it
pub record Met (own : List Row) (n : ℕ) : Type 0 where
  pub channel : Channel
  pub is : holder own n ≡ Some channel
  pub c : ℕ
  pub owns : channel.own ≡ Some c
  pub small : c < 4294967296
  pub meets : Each (Meets n c) (channels_of own)

module _ (before : List Row) (good : AreApart (channels_of before)) (k : ℕ) where
  pub sound-own : Each Sound (channels_of (rows_of k before))
  sound-own = subst (Each Sound) (channels-local k before) (each-filter k Sound (channels_of before) good.each)

  pub distinct-own : Distinct (channels_of (rows_of k before))
  distinct-own = subst Distinct (channels-local k before) (distinct-of k (channels_of before) good.apart)

  pub small-own : (n : ℕ) → own_number (holder (rows_of k before) n) < 4294967296
  small-own n = by_holder (holder (rows_of k before) n) refl
    where
      by_own : (x : Channel) (o : Option ℕ) → x.own ≡ o → Sound x → (elim o as (λ _. ℕ) [ None ↦ 0 | Some c ↦ c ]) < 4294967296
      by_own x None e sound = omega arith
      by_own x (Some c) e sound = sound.small c e

      by_holder : (o : Option Channel) → holder (rows_of k before) n ≡ o → own_number o < 4294967296
      by_holder None e = omega arith
      by_holder (Some x) e = by_own x x.own refl (found-each Sound is_channel_held (λ (y : Channel). is_number y.number n) x (channels_of (rows_of k before)) sound-own e)

  pub small-item : (item : Item) → SmallItem (rows_of k before) item
  small-item (Heard p) = λ m n reads some. small-own n
  small-item (Admit j) = tt
  small-item (Says j outgoing reply) = tt
  small-item (HouseSays j id given) = tt
  small-item (Gone j) = tt
  small-item (BadServer fault) = tt
  small-item ServerEnd = tt
  small-item (ServerCut left) = tt
  small-item ServerFailed = tt
  small-item (Took stream size) = tt
  small-item (RunEnd cause) = tt

  pub holder-local : (n : ℕ) (x : Channel) → holder before n ≡ Some x → x.client ≡ k → holder (rows_of k before) n ≡ Some x
  holder-local n x held mine =
      ap (λ cs. find (λ (y : Channel). is_number y.number n) (filter is_channel_held cs)) (sym (channels-local k before))
      ∙ find-of k (λ y. is_number y.number n) x (channels_of before) held (is-of x.client k mine)

  pub met : (n : ℕ) → Reached before n k → Met (rows_of k before) n
  met n r =
      let is : holder (rows_of k before) n ≡ Some r.channel = holder-local n r.channel r.is r.client in
      let sound : Sound r.channel = found-each Sound is_channel_held (λ (y : Channel). is_number y.number n) r.channel (channels_of before) good.each r.is in
      let named : r.channel.number ≡ Some n = number-is r.channel.number n (found-true (λ (y : Channel). is_number y.number n) r.channel (held_of before) r.is) in
      let own : (c : ℕ) × (r.channel.own ≡ Some c) = sound.owned n named in
      record {
        channel = r.channel;
        is = is;
        c = own.0;
        owns = own.1;
        small = sound.small own.0 own.1;
        meets = meets-all n own.0 r.channel own.1 (channels_of (rows_of k before)) distinct-own is;
      }

  pub number-met : (n : ℕ) (r : Met (rows_of k before) n) → own_number (holder (rows_of k before) n) ≡ r.c
  number-met n r = ap own_number r.is ∙ ap (λ o. elim o as (λ _. ℕ) [ None ↦ 0 | Some c ↦ c ]) r.owns

  heard-each : (p : List ℕ) → dest before p ≡ ToClient k → Each (ReceivedOne (rows_of k before) (Heard p)) (channels_of (rows_of k before))
  heard-each p to = by_case (read_summary p) refl
    where
      none-named : (m : Summary) → read_summary p ≡ Ok m → summary_recipient_of m ≡ None → (x : Channel) → Named (rows_of k before) p x
      none-named m reads none x = record {
        small = λ m' n reads' some. small-own n;
        meets = λ m' n reads' some. let same : m ≡ m' = ok-same p m m' reads reads' in absurd (let bad : None ≡ Some n = sym none ∙ (ap summary_recipient_of same ∙ some) in cc);
      }

      some-named : (m : Summary) (n : ℕ) → read_summary p ≡ Ok m → summary_recipient_of m ≡ Some n → (r : Met (rows_of k before) n) → (x : Channel) → Meets n r.c x → Named (rows_of k before) p x
      some-named m n reads some r x meets = record {
        small = λ m' n' reads' some'. small-own n';
        meets = λ m' n' reads' some'.
            let same : m ≡ m' = ok-same p m m' reads reads' in
            let at : Some n ≡ Some n' = sym some ∙ (ap summary_recipient_of same ∙ some') in
            let eq : n ≡ n' = cc in
            subst (λ (i : ℕ). Meets i (own_number (holder (rows_of k before) i)) x) eq (subst (λ (c : ℕ). Meets n c x) (sym (number-met n r)) meets);
      }

      by_some : (m : Summary) → read_summary p ≡ Ok m → (o : Option ℕ) → summary_recipient_of m ≡ o → Each (ReceivedOne (rows_of k before) (Heard p)) (channels_of (rows_of k before))
      by_some m reads None none = each-unit (ReceivedOne (rows_of k before) (Heard p)) (none-named m reads none) (channels_of (rows_of k before))
      by_some m reads (Some n) some =
          let r : Met (rows_of k before) n = met n (reached before m n k some (sym (dest-ok before p m reads) ∙ to)) in
          each-of (Meets n r.c) (ReceivedOne (rows_of k before) (Heard p)) (some-named m n reads some r) (channels_of (rows_of k before)) r.meets

      by_case : (r : Result Summary Bad) → read_summary p ≡ r → Each (ReceivedOne (rows_of k before) (Heard p)) (channels_of (rows_of k before))
      by_case (Err bad) reads = let x : Breaks _ ≡ ToClient k = sym (dest-err before p bad reads) ∙ to in absurd (let h = x in cc)
      by_case (Ok m) reads = by_some m reads (summary_recipient_of m) refl

  -- what the server sends to the client
  down-same : (up : List (List ℕ)) (m : Summary) (c : ℕ) → opened_down k up (readdressed c m) ≡ opened_down k up m
  down-same [] (Confirmation n s w max) c = refl
  down-same [] (Within n act) c = refl
  down-same [] m c = refl
  down-same (q ∷ qs) (Confirmation n s w max) c = refl
  down-same (q ∷ qs) (Within n act) c = refl
  down-same (q ∷ qs) m c = refl

  down-own : (up : List (List ℕ)) (m : Summary) → map own_numbered (opened_down k up m) ≡ opened_down k up m
  down-own [] (Open what s w max) = refl
  down-own [] m = refl
  down-own (q ∷ qs) m = refl

  reading-own : (p : List ℕ) (up : List (List ℕ)) → map own_numbered (reading p (opened_down k up) []) ≡ reading p (opened_down k up) []
  reading-own p up = elim (read_summary p) as (λ r. map own_numbered (elim r as (λ _. List Channel) [ Err e ↦ [] | Ok m ↦ opened_down k up m ]) ≡ (elim r as (λ _. List Channel) [ Err e ↦ [] | Ok m ↦ opened_down k up m ])) [ Err e ↦ refl | Ok m ↦ down-own up m ]

  pub named-heard : (p : List ℕ) → dest before p ≡ ToClient k → (up : List (List ℕ)) → Every Quiet up → (fw : List (List ℕ)) → Every Quiet fw → (down : List (List ℕ)) (fate : Fate) → RowNamed (rows_of k before) (as_row (Heard p) k up fw down fate)
  named-heard p to up quiet fw parting down fate = record {
    heard = heard-each p to;
    ups = quiet;
    parting = parting;
    begun = by_zero (k == 0);
  }
    where
      by_zero : (b : Bool) → (elim b as (λ _. List Channel) [ true ↦ [] | false ↦ reading (seen_payload (rows_of k before) p) (opened_down k up) [] ]) ≡ map own_numbered (elim b as (λ _. List Channel) [ true ↦ [] | false ↦ reading p (opened_down k up) [] ])
      by_zero true = refl
      by_zero false = same-use (rows_of k before) p (opened_down k up) [] (λ m n reads some. small-own n) (down-same up) ∙ sym (reading-own p up)

  -- rows that send nothing and begin nothing
  pub named-mute : (item : Item) → (up : List (List ℕ)) → up ≡ [] → ((x : Channel) → ReceivedOne (rows_of k before) item x) → own_number_of item ≡ None → begun_by k [] (item_for (rows_of k before) item) ≡ [] → begun_by k [] item ≡ [] → (fw : List (List ℕ)) → Every Quiet fw → (down : List (List ℕ)) (fate : Fate) → RowNamed (rows_of k before) (as_row item k up fw down fate)
  named-mute item up none heard unowned begun begun' fw parting down fate = record {
    heard = each-unit (ReceivedOne (rows_of k before) item) heard (channels_of (rows_of k before));
    ups = subst (λ (o : Option ℕ). UpsNamed o up) (sym unowned) (subst (Every Quiet) (sym none) tt);
    parting = parting;
    begun = ap (λ o. begun_by k (own_ups o up) (item_for (rows_of k before) item)) unowned ∙ (ap (λ u. begun_by k u (item_for (rows_of k before) item)) none ∙ (begun ∙ sym (ap (map own_numbered) (ap (λ u. begun_by k u item) none ∙ begun'))));
  }

  -- what the client sends
  ups-nil : (o : Option ℕ) → own_ups o [] ≡ []
  ups-nil None = refl
  ups-nil (Some c) = refl

  named-nil : (o : Option ℕ) → UpsNamed o []
  named-nil None = tt
  named-nil (Some c) = tt

  begun-nil : (j : ℕ) (p : List ℕ) (reply : Option HouseReply) → begun_by k [] (Says j (Payload p) reply) ≡ []
  begun-nil j p reply = elim (read_summary p) as (λ r. (elim r as (λ _. List Channel) [ Err e ↦ [] | Ok m ↦ opened_up k [] m ]) ≡ []) [ Err e ↦ refl | Ok m ↦ opened-none k m ]

  resent-twice : (c n : ℕ) (m : Summary) → resent c (resent n m) ≡ resent c m
  resent-twice c n (Open what s w max) = refl
  resent-twice c n (Confirmation r s w max) = refl
  resent-twice c n m = refl

  module _ (p : List ℕ) (reply : Option HouseReply) (fw : List (List ℕ)) (parting : Every Quiet fw) (down : List (List ℕ)) (fate : Fate) where
    abbrev row_sent : List (List ℕ) → Row
    row_sent up = as_row (Says k (Payload p) reply) k up fw down fate

    named-nothing : RowNamed (rows_of k before) (row_sent [])
    named-nothing = record {
      heard = each-unit (ReceivedOne (rows_of k before) (Says k (Payload p) reply)) (λ x. tt) (channels_of (rows_of k before));
      ups = named-nil (own_number_of (Says k (Payload p) reply));
      parting = parting;
      begun = ap (λ u. begun_by k u (Says k (Payload p) reply)) (ups-nil (own_number_of (Says k (Payload p) reply))) ∙ (begun-nil k p reply ∙ sym (ap (map own_numbered) (begun-nil k p reply)));
    }

    named-plain : (m : Summary) → read_summary p ≡ Ok m → summary_sender_of m ≡ None → RowNamed (rows_of k before) (row_sent (p ∷ []))
    named-plain m reads unowned = record {
      heard = each-unit (ReceivedOne (rows_of k before) (Says k (Payload p) reply)) (λ x. tt) (channels_of (rows_of k before));
      ups = subst (λ (o : Option ℕ). UpsNamed o (p ∷ [])) (sym none) (quiet-plain p m reads unowned, tt);
      parting = parting;
      begun = ap (λ o. begun_by k (own_ups o (p ∷ [])) (Says k (Payload p) reply)) none ∙ (begun ∙ sym (ap (map own_numbered) begun));
    }
      where
        none : own_number_of (Says k (Payload p) reply) ≡ None
        none = reading-ok p m summary_sender_of None reads ∙ unowned

        begun : begun_by k (p ∷ []) (Says k (Payload p) reply) ≡ []
        begun = reading-ok p m (opened_up k (p ∷ [])) [] reads ∙ opened-plain k (p ∷ []) m unowned

    named-fresh : (pick c : ℕ) (m : Summary) → AreBytes p → read_summary p ≡ Ok m → summary_sender_of m ≡ Some c → RowNamed (rows_of k before) (row_sent (with_sender p pick ∷ []))
    named-fresh pick c m bytes reads owned = record {
      heard = each-unit (ReceivedOne (rows_of k before) (Says k (Payload p) reply)) (λ x. tt) (channels_of (rows_of k before));
      ups = subst (λ (o : Option ℕ). UpsNamed o (with_sender p pick ∷ [])) (sym has_own) (numbered, tt);
      parting = parting;
      begun = ap (λ o. begun_by k (own_ups o (with_sender p pick ∷ [])) (Says k (Payload p) reply)) has_own
          ∙ (reading-ok p m (opened_up k (with_sender (with_sender p pick) c ∷ [])) [] reads
          ∙ (begun m owned
          ∙ sym (ap (map own_numbered) (reading-ok p m (opened_up k (with_sender p pick ∷ [])) [] reads))));
    }
      where
        sender : SenderIn p m
        sender = sender-in p m c bytes reads owned

        small : c < 4294967296
        small = own-small p m c bytes reads owned

        has_own : own_number_of (Says k (Payload p) reply) ≡ Some c
        has_own = reading-ok p m summary_sender_of None reads ∙ owned

        numbered : Numbered c (with_sender p pick)
        numbered = record {
          said = resent (word pick) m;
          reads = reads-sent p m sender pick;
          again = ap read_summary (sent-again p m sender pick c) ∙ (reads-sent p m sender c ∙ (ap (λ i. Ok (resent i m)) (spelled c small) ∙ sym (ap Ok (resent-twice c (word pick) m))));
        }

        at : reading (with_sender (with_sender p pick) c) summary_sender_of None ≡ Some c
        at = ap (λ q. reading q summary_sender_of None) (sent-again p m sender pick c) ∙ (number-sent p m sender c ∙ ap Some (spelled c small))

        begun : (m' : Summary) → summary_sender_of m' ≡ Some c → opened_up k (with_sender (with_sender p pick) c ∷ []) m' ≡ map own_numbered (opened_up k (with_sender p pick ∷ []) m')
        begun (Open what c' w max) e = ap (λ (i : Option ℕ). record { client = k; by = Up; own = Some c'; number = i; remote = None; window = w; maximum = max; acts = [] } ∷ []) at ∙ ap (λ (o : Option ℕ). record { client = k; by = Up; own = Some c'; number = o; remote = None; window = w; maximum = max; acts = [] } ∷ []) (sym e)
        begun m' e = refl

    pub named-said : (policy : Policy) (pick : ℕ) → AreBytes p → RowNamed (rows_of k before) (row_sent (sent_payload policy k (rows_of k before) pick p).sent)
    named-said policy pick bytes = by_case (read_summary p) refl
      where
        by_sent : (m : Summary) (up : List (List ℕ)) → read_summary p ≡ Ok m → Sent (rows_of k before) pick p m up → RowNamed (rows_of k before) (row_sent up)
        by_sent m up reads (inl none) = subst (λ (u : List (List ℕ)). RowNamed (rows_of k before) (row_sent u)) (sym none) named-nothing
        by_sent m up reads (inr (inl plain)) = subst (λ (u : List (List ℕ)). RowNamed (rows_of k before) (row_sent u)) (sym plain.up) (named-plain m reads plain.unowned)
        by_sent m up reads (inr (inr new)) = subst (λ (u : List (List ℕ)). RowNamed (rows_of k before) (row_sent u)) (sym new.up) (named-fresh pick new.c m bytes reads new.owned)

        by_case : (r : Result Summary Bad) → read_summary p ≡ r → RowNamed (rows_of k before) (row_sent (elim r as (λ _. Outcome) [ Err bad ↦ drops (why.BadMessage bad) | Ok m ↦ sent_summary policy k (rows_of k before) pick p m ]).sent)
        by_case (Err bad) reads = named-nothing
        by_case (Ok m) reads = by_sent m (sent_summary policy k (rows_of k before) pick p m).sent reads (sent-by policy k (rows_of k before) pick p m)
