-- A payload with another recipient or sender reads as the same message with that number.
use Rattle.std.proofs.Common.{◌≡◌, ℕ, ◌/◌, ◌%◌, ◌<◌, List, [], ◌∷◌, ◌++◌, length, drop, refl, ◌∙◌, ap, arith, sym, Option, Some, None, Result, Ok, Err, IfOk, subst}
use Rattle.ssh_fields.specs.Fields.{AreBytes, u32, str, of_four, is_true}
use Rattle.ssh_grammar.specs.declared.fault.Bad.{Bad}
use Rattle.ssh_grammar.specs.Messages as full
use Rattle.ssh_grammar.specs.ReadMessage.{MessageReading, Form, OfPlain, OfChannel, OfNone, message_forms, read_as, with_reading, read_message}
use Rattle.ssh_grammar.specs.Tables.{by_number}
use Rattle.ssh_grammar.specs.SpellMessage.{spell_with, wants_reply, sender_at, recipient_place, sender_place, in_payload, payload_with_number, with_recipient, with_sender}
use Rattle.ssh_grammar.specs.IsMessage.{IsMessage, Spells}
use Rattle.ssh_grammar.specs.Renumber.{to_recipient, to_sender}
use Rattle.ssh_grammar.proofs.MessageReads.{reads_is_spelled}
use Rattle.ssh_grammar.proofs.MessageSpelled.{spelled_reads}
use Rattle.ssh_grammar.proofs.Renumbered.{with_u32-between}
use Rattle.mux_history.specs.Summary.{Summary, Open, Confirmation, Within, summary, read_summary, reading, summary_sender_of}
use Rattle.mux_history.proofs.Readings.{summary-from, summary-ok, reading-ok}

-- ---- summaries with another number

abbrev pub readdressed : ℕ → Summary → Summary
readdressed c (Confirmation n s w m) = Confirmation c s w m
readdressed c (Within n act) = Within c act
readdressed c m = m

abbrev pub resent : ℕ → Summary → Summary
resent c (Open what a w m) = Open what c w m
resent c (Confirmation s a w m) = Confirmation s c w m
resent c m = m

summary-readdressed : (c : ℕ) (m : full.Message) → summary (to_recipient c m) ≡ readdressed c (summary m)
summary-readdressed c (full.Plain (full.Transport n rest)) = refl
summary-readdressed c (full.Plain (full.GlobalRequest name want rest what)) = refl
summary-readdressed c (full.Plain (full.RequestSuccess rest)) = refl
summary-readdressed c (full.Plain full.RequestFailure) = refl
summary-readdressed c (full.Plain (full.Open kind s w m rest what)) = refl
summary-readdressed c (full.To r (full.Confirmation s w m rest)) = refl
summary-readdressed c (full.To r (full.OpenFailure reason text language)) = refl
summary-readdressed c (full.To r (full.Adjust add)) = refl
summary-readdressed c (full.To r (full.Data bytes)) = refl
summary-readdressed c (full.To r (full.Extended code bytes)) = refl
summary-readdressed c (full.To r full.Eof) = refl
summary-readdressed c (full.To r full.Close) = refl
summary-readdressed c (full.To r (full.Request kind want rest)) = refl
summary-readdressed c (full.To r full.Success) = refl
summary-readdressed c (full.To r full.Failure) = refl

-- ---- the number that four bytes of it spell

abbrev pub word : ℕ → ℕ
word n = of_four ((n / 16777216) % 256) ((n / 65536) % 256) ((n / 256) % 256) (n % 256)

pub spelled : (c : ℕ) → c < 4294967296 → word c ≡ c
spelled c lt = omega arith

pub word-small : (n : ℕ) → word n < 4294967296
word-small n = omega arith

-- the bytes of a number are those of what they spell
four-again : (a b c d : ℕ) → a < 256 → b < 256 → c < 256 → d < 256 → u32 (of_four a b c d) ≡ a ∷ b ∷ c ∷ d ∷ []
four-again a b c d la lb lc ld =
    ap (λ x. x ∷ (of_four a b c d / 65536) % 256 ∷ (of_four a b c d / 256) % 256 ∷ of_four a b c d % 256 ∷ []) first
    ∙ (ap (λ x. a ∷ x ∷ (of_four a b c d / 256) % 256 ∷ of_four a b c d % 256 ∷ []) second
    ∙ (ap (λ x. a ∷ b ∷ x ∷ of_four a b c d % 256 ∷ []) third ∙ ap (λ x. a ∷ b ∷ c ∷ x ∷ []) fourth))
  where
    first : (of_four a b c d / 16777216) % 256 ≡ a
    first = omega arith

    second : (of_four a b c d / 65536) % 256 ≡ b
    second = omega arith

    third : (of_four a b c d / 256) % 256 ≡ c
    third = omega arith

    fourth : of_four a b c d % 256 ≡ d
    fourth = omega arith

pub u32-word : (n : ℕ) → u32 (word n) ≡ u32 n
u32-word n = four-again ((n / 16777216) % 256) ((n / 65536) % 256) ((n / 256) % 256) (n % 256) (omega arith) (omega arith) (omega arith) (omega arith)

-- ---- another recipient: it is read before all that follows

in-form : (n : ℕ) (form : Form) (rest : List ℕ) (r c : ℕ) (m : full.ChannelMessage) → read_as n form rest ≡ Ok (full.To r m) → read_as n form (u32 c ++ drop 4 rest) ≡ Ok (full.To (word c) m)
in-form n (OfPlain read) rest r c m e = by_case (read rest) e
  where
    by_case : (x : MessageReading full.PlainMessage) → with_reading x full.Plain ≡ Ok (full.To r m) → read_as n (OfPlain read) (u32 c ++ drop 4 rest) ≡ Ok (full.To (word c) m)
    by_case (Ok x) e = cc
    by_case (Err x) e = cc
in-form n (OfChannel read) [] r c m e = cc
in-form n (OfChannel read) (v ∷ []) r c m e = cc
in-form n (OfChannel read) (v ∷ w ∷ []) r c m e = cc
in-form n (OfChannel read) (v ∷ w ∷ x ∷ []) r c m e = cc
in-form n (OfChannel read) (v ∷ w ∷ x ∷ y ∷ tail) r c m e = by_case (read tail) e
  where
    by_case : (z : MessageReading full.ChannelMessage) → with_reading z (full.To (of_four v w x y)) ≡ Ok (full.To r m) → with_reading z (full.To (word c)) ≡ Ok (full.To (word c) m)
    by_case (Ok z) e = let same : z ≡ m = cc in ap (λ m. Ok (full.To (word c) m)) same
    by_case (Err z) e = cc
in-form n OfNone rest r c m e = cc

place-of : (f : full.Message → Option ℕ) (p : List ℕ) (m : full.Message) → read_message p ≡ Ok m → in_payload f p ≡ f m
place-of f p m e = ap (λ (r : Result full.Message Bad). elim r as (λ _. Option ℕ) [ Err x ↦ None | Ok m ↦ f m ]) e

message-renamed : (p : List ℕ) (m : full.Message) (c : ℕ) → c < 4294967296 → read_message p ≡ Ok m → read_message (with_recipient p c) ≡ Ok (to_recipient c m)
message-renamed p (full.Plain m) c lt e = ap (λ at. read_message (payload_with_number p at c)) (place-of recipient_place p (full.Plain m) e) ∙ e
message-renamed [] (full.To r m) c lt e = cc
message-renamed (n ∷ rest) (full.To r m) c lt e =
    ap (λ at. read_message (payload_with_number (n ∷ rest) at c)) (place-of recipient_place (n ∷ rest) (full.To r m) e)
    ∙ (in-form n (by_number (message_forms n) n OfNone) rest r c m e ∙ ap (λ c. Ok (full.To c m)) (spelled c lt))

-- a payload to another recipient reads as the same summary with that recipient
pub read-renamed : (p : List ℕ) (g : Summary) (c : ℕ) → c < 4294967296 → read_summary p ≡ Ok g → read_summary (with_recipient p c) ≡ Ok (readdressed c g)
read-renamed p g c lt reads =
    let r = summary-from p g reads in
    summary-ok (with_recipient p c) (to_recipient c r.message) (message-renamed p r.message c lt r.reads) ∙ (ap Ok (summary-readdressed c r.message) ∙ ap (λ g. Ok (readdressed c g)) r.is)

message-twice : (p : List ℕ) (m : full.Message) (c : ℕ) → c < 4294967296 → read_message p ≡ Ok m → with_recipient (with_recipient p c) c ≡ with_recipient p c
message-twice p (full.Plain m) c lt e = ap (λ q. with_recipient q c) (ap (λ at. payload_with_number p at c) (place-of recipient_place p (full.Plain m) e))
message-twice [] (full.To r m) c lt e = cc
message-twice (n ∷ rest) (full.To r m) c lt e =
    ap (λ at. payload_with_number (with_recipient (n ∷ rest) c) at c) (place-of recipient_place (with_recipient (n ∷ rest) c) (full.To c m) (message-renamed (n ∷ rest) (full.To r m) c lt e))
    ∙ (ap (λ q. payload_with_number q (Some 1) c) once ∙ sym once)
  where
    once : with_recipient (n ∷ rest) c ≡ n ∷ (u32 c ++ drop 4 rest)
    once = ap (λ at. payload_with_number (n ∷ rest) at c) (place-of recipient_place (n ∷ rest) (full.To r m) e)

-- the same recipient twice
pub renamed-twice : (p : List ℕ) (g : Summary) (c : ℕ) → c < 4294967296 → read_summary p ≡ Ok g → with_recipient (with_recipient p c) c ≡ with_recipient p c
renamed-twice p g c lt reads = let r = summary-from p g reads in message-twice p r.message c lt r.reads

-- ---- another sender: the payload is a front, four bytes and a tail

pub record SenderIn (p : List ℕ) (m : Summary) : Type 0 where
  pub front : List ℕ
  pub tail : List ℕ
  pub old : ℕ
  pub small : old < 4294967296
  pub said : summary_sender_of m ≡ Some old
  pub whole : p ≡ front ++ (u32 old ++ tail)
  pub place : (n : ℕ) → sender_at (front ++ (u32 n ++ tail)) ≡ Some (length front)
  pub reads : (n : ℕ) → read_summary (front ++ (u32 n ++ tail)) ≡ Ok (resent (word n) m)

-- what a message with a sender spells
sender-spelled : (flag : ℕ) (m : full.Message) (front tail : List ℕ) (old : ℕ) → IsMessage m → is_true flag ≡ wants_reply m → old < 4294967296 → summary_sender_of (summary m) ≡ Some old
    → ((n : ℕ) → spell_with flag (to_sender n m) ≡ front ++ (u32 n ++ tail)) → ((n : ℕ) → n < 4294967296 → IsMessage (to_sender n m)) → ((n : ℕ) → is_true flag ≡ wants_reply (to_sender n m)) → ((n : ℕ) → sender_place (to_sender n m) ≡ Some (length front)) → ((n : ℕ) → summary (to_sender n m) ≡ resent n (summary m))
    → (p : List ℕ) → p ≡ front ++ (u32 old ++ tail) → SenderIn p (summary m)
sender-spelled flag m front tail old is same small said spells fits flags places summaries p whole = record {
  front = front;
  tail = tail;
  old = old;
  small = small;
  said = said;
  whole = whole;
  place = λ n. place-of sender_place (front ++ (u32 n ++ tail)) (to_sender (word n) m) (read n) ∙ places (word n);
  reads = λ n. summary-ok (front ++ (u32 n ++ tail)) (to_sender (word n) m) (read n) ∙ ap Ok (summaries (word n));
}
  where
    read : (n : ℕ) → read_message (front ++ (u32 n ++ tail)) ≡ Ok (to_sender (word n) m)
    read n =
        ap (λ four. read_message (front ++ (four ++ tail))) (sym (u32-word n))
        ∙ spelled_reads (to_sender (word n) m) (front ++ (u32 (word n) ++ tail)) (record { is_message = fits (word n) (word-small n); flag = flag; boolean = flags (word n); spelled = sym (spells (word n)) })

pub sender-in : (p : List ℕ) (g : Summary) (c : ℕ) → AreBytes p → read_summary p ≡ Ok g → summary_sender_of g ≡ Some c → SenderIn p g
sender-in p g c bytes reads own =
    let r = summary-from p g reads in
    subst (SenderIn p) r.is (by_message r.message (always r.message r.reads (reads_is_spelled p bytes)) (ap summary_sender_of r.is ∙ own))
  where
    always : (m : full.Message) → read_message p ≡ Ok m → IfOk (read_message p) (λ m. Spells m p) → Spells m p
    always m e holds = by_case (read_message p) e holds
      where
        by_case : (r : Result full.Message Bad) → r ≡ Ok m → IfOk r (λ m. Spells m p) → Spells m p
        by_case (Ok x) e holds = let same : x ≡ m = cc in subst (λ (m : full.Message). Spells m p) same holds
        by_case (Err x) e holds = cc

    by_message : (m : full.Message) → Spells m p → summary_sender_of (summary m) ≡ Some c → SenderIn p (summary m)
    by_message (full.Plain (full.Open kind s w x rest what)) spells own =
        sender-spelled spells.flag (full.Plain (full.Open kind s w x rest what)) (90 ∷ str kind) (u32 w ++ (u32 x ++ rest)) s spells.is_message spells.boolean spells.is_message.1 refl
        (λ n. refl) (λ n lt. (spells.is_message.0, lt, spells.is_message.2, spells.is_message.3, spells.is_message.4)) (λ n. spells.boolean) (λ n. ap Some (omega arith)) (λ n. refl) p spells.spelled
    by_message (full.To r (full.Confirmation s w x rest)) spells own =
        sender-spelled spells.flag (full.To r (full.Confirmation s w x rest)) (91 ∷ u32 r) (u32 w ++ (u32 x ++ rest)) s spells.is_message spells.boolean spells.is_message.1.0 refl
        (λ n. refl) (λ n lt. (spells.is_message.0, (lt, spells.is_message.1.1, spells.is_message.1.2))) (λ n. spells.boolean) (λ n. refl) (λ n. refl) p spells.spelled
    by_message (full.Plain (full.Transport n rest)) spells own = cc
    by_message (full.Plain (full.GlobalRequest name want rest what)) spells own = cc
    by_message (full.Plain (full.RequestSuccess rest)) spells own = cc
    by_message (full.Plain full.RequestFailure) spells own = cc
    by_message (full.To r (full.OpenFailure reason text language)) spells own = cc
    by_message (full.To r (full.Adjust add)) spells own = cc
    by_message (full.To r (full.Data bytes)) spells own = cc
    by_message (full.To r (full.Extended code bytes)) spells own = cc
    by_message (full.To r full.Eof) spells own = cc
    by_message (full.To r full.Close) spells own = cc
    by_message (full.To r (full.Request kind want rest)) spells own = cc
    by_message (full.To r full.Success) spells own = cc
    by_message (full.To r full.Failure) spells own = cc

-- ---- what follows

module _ (p : List ℕ) (m : Summary) (s : SenderIn p m) where
  pub sent-as : (n : ℕ) → with_sender p n ≡ s.front ++ (u32 n ++ s.tail)
  sent-as n =
      ap (λ at. payload_with_number p at n) (ap sender_at s.whole ∙ s.place s.old)
      ∙ (ap (λ q. payload_with_number q (Some (length s.front)) n) s.whole ∙ with_u32-between s.front s.tail s.old (length s.front) n refl)

  -- with the number that was picked, and then the client's own
  pub sent-again : (n c : ℕ) → with_sender (with_sender p n) c ≡ with_sender p c
  sent-again n c =
      ap (λ at. payload_with_number (with_sender p n) at c) (ap sender_at (sent-as n) ∙ s.place n)
      ∙ (ap (λ q. payload_with_number q (Some (length s.front)) c) (sent-as n)
      ∙ (with_u32-between s.front s.tail n (length s.front) c refl ∙ sym (sent-as c)))

  pub reads-sent : (n : ℕ) → read_summary (with_sender p n) ≡ Ok (resent (word n) m)
  reads-sent n = ap read_summary (sent-as n) ∙ s.reads n

  -- the number that stands there then
  pub number-sent : (n : ℕ) → reading (with_sender p n) summary_sender_of None ≡ Some (word n)
  number-sent n = reading-ok (with_sender p n) (resent (word n) m) summary_sender_of None (reads-sent n) ∙ sender-resent m (word n) s.said
    where
      sender-resent : (m : Summary) (c : ℕ) → summary_sender_of m ≡ Some s.old → summary_sender_of (resent c m) ≡ Some c
      sender-resent (Open what a w x) c e = refl
      sender-resent (Confirmation n a w x) c e = refl
      sender-resent m c e = cc
