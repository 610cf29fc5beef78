-- A payload with one channel number replaced.
use Rattle.std.proofs.Common.{◌≡◌, ℕ, ◌+◌, ◌<◌, ◌≤◌, ◌^◌, List, [], ◌∷◌, ◌++◌, length, Bool, true, false, drop, Option, Some, None, Result, Ok, Err, IfOk, refl, sym, ◌∙◌, ap, subst, arith, append_assoc, length-append, IfSome}
use Rattle.std.proofs.lemmas.Result.{IfOk-weaker}
use Rattle.std.proofs.lemmas.List.{take_at, drop_at}
use Rattle.ssh_fields.specs.Fields.{AreBytes, u32, str, is_true, take_u32, u32_at, with_u32}
use Rattle.ssh_fields.proofs.Fields.{of_four-u32}
use Rattle.ssh_grammar.specs.declared.fault.Bad.{Bad}
use Rattle.ssh_grammar.specs.Messages.{Transport, GlobalRequest, RequestSuccess, RequestFailure, Open, Confirmation, OpenFailure, Adjust, Data, Extended, Eof, Close, Request, Success, Failure, Message, Plain, To}
use Rattle.ssh_grammar.specs.ReadMessage.{read_message}
use Rattle.ssh_grammar.specs.SpellMessage.{spell, spell_with, fields_of, channel_message_number, flag_byte_of, wants_reply, recipient_of, sender_of, recipient_place, sender_place, in_payload, payload_with_number, with_recipient, with_sender, sender_at}
use Rattle.ssh_grammar.specs.IsMessage.{IsMessage, Spells}
use Rattle.ssh_grammar.specs.Renumber.{to_recipient, to_sender, NumberStandsAt}
use Rattle.ssh_grammar.proofs.MessageReads.{reads_is_spelled}
use Rattle.ssh_grammar.proofs.MessageSpelled.{spelled_reads}

-- four bytes between a front and a tail
pub with_u32-between : (front tail : List ℕ) (old at n : ℕ) → length front ≡ at → with_u32 (front ++ (u32 old ++ tail)) at n ≡ front ++ (u32 n ++ tail)
with_u32-between front tail old at n len =
    ap (λ x. x ++ (u32 n ++ drop (at + 4) (front ++ (u32 old ++ tail)))) (take_at front (u32 old ++ tail) at len)
    ∙ ap (λ x. front ++ (u32 n ++ x)) (ap (drop (at + 4)) (sym (append_assoc front (u32 old) tail)) ∙ drop_at (front ++ u32 old) tail (at + 4) (omega (arith, length-append front (u32 old), len)))

pub u32_at-between : (front tail : List ℕ) (n at : ℕ) → length front ≡ at → n < 2 ^ 32 → u32_at at (front ++ (u32 n ++ tail)) ≡ n
u32_at-between front tail n at len fits = ap (λ b. elim (take_u32 b) as (λ _. ℕ) [ None ↦ 0 | Some p ↦ p.0 ]) (drop_at front (u32 n ++ tail) at len) ∙ of_four-u32 n fits

fits-between : (front tail : List ℕ) (n at : ℕ) → length front ≡ at → at + 4 ≤ length (front ++ (u32 n ++ tail))
fits-between front tail n at len = omega (arith, length-append front (u32 n ++ tail), len)

-- ---- where the numbers stand

recipient_stands : (m : Message) (flag : ℕ) → IsMessage m → NumberStandsAt (recipient_of m) (recipient_place m) (spell_with flag m)
recipient_stands (Plain m) flag is = tt
recipient_stands (To recipient m) flag is = (fits-between (channel_message_number m ∷ []) (fields_of flag m) recipient 1 refl, u32_at-between (channel_message_number m ∷ []) (fields_of flag m) recipient 1 refl is.0)

sender_stands : (m : Message) (flag : ℕ) → IsMessage m → NumberStandsAt (sender_of m) (sender_place m) (spell_with flag m)
sender_stands (Plain (Transport n rest)) flag is = tt
sender_stands (Plain (GlobalRequest name want rest what)) flag is = tt
sender_stands (Plain (RequestSuccess rest)) flag is = tt
sender_stands (Plain RequestFailure) flag is = tt
sender_stands (Plain (Open kind sender window maximum rest what)) flag is =
    (fits-between (90 ∷ str kind) (u32 window ++ (u32 maximum ++ rest)) sender (5 + length kind) (omega arith), u32_at-between (90 ∷ str kind) (u32 window ++ (u32 maximum ++ rest)) sender (5 + length kind) (omega arith) is.1)
sender_stands (To recipient (Confirmation sender window maximum rest)) flag is =
    (fits-between (91 ∷ u32 recipient) (u32 window ++ (u32 maximum ++ rest)) sender 5 refl, u32_at-between (91 ∷ u32 recipient) (u32 window ++ (u32 maximum ++ rest)) sender 5 refl is.1.0)
sender_stands (To recipient (OpenFailure reason text language)) flag is = tt
sender_stands (To recipient (Adjust add)) flag is = tt
sender_stands (To recipient (Data bytes)) flag is = tt
sender_stands (To recipient (Extended code bytes)) flag is = tt
sender_stands (To recipient Eof) flag is = tt
sender_stands (To recipient Close) flag is = tt
sender_stands (To recipient (Request kind want rest)) flag is = tt
sender_stands (To recipient Success) flag is = tt
sender_stands (To recipient Failure) flag is = tt

-- what holds of a message that spells a payload holds of what the payload reads as
by_spelling : (Q : Message → Type 0) (p : List ℕ) → AreBytes p → ((m : Message) → read_message p ≡ Ok m → Spells m p → Q m) → IfOk (read_message p) Q
by_spelling Q p h go = by_case (read_message p) refl (reads_is_spelled p h)
  where
    by_case : (r : Result Message Bad) → read_message p ≡ r → IfOk r (λ m. Spells m p) → IfOk r Q
    by_case (Ok m) e is = go m e is
    by_case (Err x) e is = tt

pub numbers_stand : (p : List ℕ) → AreBytes p → IfOk (read_message p) (λ m. NumberStandsAt (recipient_of m) (recipient_place m) p × NumberStandsAt (sender_of m) (sender_place m) p)
numbers_stand p h = by_spelling (λ m. NumberStandsAt (recipient_of m) (recipient_place m) p × NumberStandsAt (sender_of m) (sender_place m) p) p h (λ m e is.
    (subst (NumberStandsAt (recipient_of m) (recipient_place m)) (sym is.spelled) (recipient_stands m is.flag is.is_message), subst (NumberStandsAt (sender_of m) (sender_place m)) (sym is.spelled) (sender_stands m is.flag is.is_message)))

-- ---- replaced numbers

recipient_spells : (m : Message) (flag n : ℕ) → n < 2 ^ 32 → IsMessage m → is_true flag ≡ wants_reply m → Spells (to_recipient n m) (payload_with_number (spell_with flag m) (recipient_place m) n)
recipient_spells (Plain m) flag n fits is same = record { is_message = is; flag = flag; boolean = same; spelled = refl }
recipient_spells (To recipient m) flag n fits is same = record { is_message = (fits, is.1); flag = flag; boolean = same; spelled = with_u32-between (channel_message_number m ∷ []) (fields_of flag m) recipient 1 n refl }

-- a message without a sender stays
same_spells : (m : Message) (flag : ℕ) → IsMessage m → is_true flag ≡ wants_reply m → Spells m (spell_with flag m)
same_spells m flag is same = record { is_message = is; flag = flag; boolean = same; spelled = refl }

sender_spells : (m : Message) (flag n : ℕ) → n < 2 ^ 32 → IsMessage m → is_true flag ≡ wants_reply m → Spells (to_sender n m) (payload_with_number (spell_with flag m) (sender_place m) n)
sender_spells (Plain (Transport k rest)) flag n fits is same = same_spells (Plain (Transport k rest)) flag is same
sender_spells (Plain (GlobalRequest name want rest what)) flag n fits is same = same_spells (Plain (GlobalRequest name want rest what)) flag is same
sender_spells (Plain (RequestSuccess rest)) flag n fits is same = same_spells (Plain (RequestSuccess rest)) flag is same
sender_spells (Plain RequestFailure) flag n fits is same = same_spells (Plain RequestFailure) flag is same
sender_spells (Plain (Open kind sender window maximum rest what)) flag n fits is same = record {
  is_message = (is.0, fits, is.2, is.3, is.4);
  flag = flag;
  boolean = same;
  spelled = with_u32-between (90 ∷ str kind) (u32 window ++ (u32 maximum ++ rest)) sender (5 + length kind) n (omega arith);
}
sender_spells (To recipient (Confirmation sender window maximum rest)) flag n fits is same = record {
  is_message = (is.0, (fits, is.1.1, is.1.2));
  flag = flag;
  boolean = same;
  spelled = with_u32-between (91 ∷ u32 recipient) (u32 window ++ (u32 maximum ++ rest)) sender 5 n refl;
}
sender_spells (To recipient (OpenFailure reason text language)) flag n fits is same = same_spells (To recipient (OpenFailure reason text language)) flag is same
sender_spells (To recipient (Adjust add)) flag n fits is same = same_spells (To recipient (Adjust add)) flag is same
sender_spells (To recipient (Data bytes)) flag n fits is same = same_spells (To recipient (Data bytes)) flag is same
sender_spells (To recipient (Extended code bytes)) flag n fits is same = same_spells (To recipient (Extended code bytes)) flag is same
sender_spells (To recipient Eof) flag n fits is same = same_spells (To recipient Eof) flag is same
sender_spells (To recipient Close) flag n fits is same = same_spells (To recipient Close) flag is same
sender_spells (To recipient (Request kind want rest)) flag n fits is same = same_spells (To recipient (Request kind want rest)) flag is same
sender_spells (To recipient Success) flag n fits is same = same_spells (To recipient Success) flag is same
sender_spells (To recipient Failure) flag n fits is same = same_spells (To recipient Failure) flag is same

-- the place that a payload shows is the place in its message
place : (f : Message → Option ℕ) (p : List ℕ) (m : Message) → read_message p ≡ Ok m → in_payload f p ≡ f m
place f p m e = ap (λ (r : Result Message Bad). elim r as (λ _. Option ℕ) [ Err x ↦ None | Ok m ↦ f m ]) e

pub recipient_is_replaced : (p : List ℕ) (n : ℕ) → AreBytes p → n < 2 ^ 32 → IfOk (read_message p) (λ m. read_message (with_recipient p n) ≡ Ok (to_recipient n m))
recipient_is_replaced p n h fits = by_spelling (λ m. read_message (with_recipient p n) ≡ Ok (to_recipient n m)) p h (λ m e is.
    ap (λ at. read_message (payload_with_number p at n)) (place recipient_place p m e)
    ∙ (ap (λ x. read_message (payload_with_number x (recipient_place m) n)) is.spelled
    ∙ spelled_reads (to_recipient n m) _ (recipient_spells m is.flag n fits is.is_message is.boolean)))

pub sender_is_replaced : (p : List ℕ) (n : ℕ) → AreBytes p → n < 2 ^ 32 → IfOk (read_message p) (λ m. read_message (with_sender p n) ≡ Ok (to_sender n m))
sender_is_replaced p n h fits = by_spelling (λ m. read_message (with_sender p n) ≡ Ok (to_sender n m)) p h (λ m e is.
    ap (λ at. read_message (payload_with_number p at n)) (place sender_place p m e)
    ∙ (ap (λ x. read_message (payload_with_number x (sender_place m) n)) is.spelled
    ∙ spelled_reads (to_sender n m) _ (sender_spells m is.flag n fits is.is_message is.boolean)))

-- ---- one payload, one message

flag_is : (want : Bool) → is_true (flag_byte_of want) ≡ want
flag_is true = refl
flag_is false = refl

pub no_payload_for_two : (a b : Message) → IsMessage a → IsMessage b → spell a ≡ spell b → a ≡ b
no_payload_for_two a b is_a is_b e =
    let left : read_message (spell a) ≡ Ok a = spelled_reads a (spell a) (record { is_message = is_a; flag = flag_byte_of (wants_reply a); boolean = flag_is (wants_reply a); spelled = refl }) in
    let right : read_message (spell a) ≡ Ok b = spelled_reads b (spell a) (record { is_message = is_b; flag = flag_byte_of (wants_reply b); boolean = flag_is (wants_reply b); spelled = e }) in
    let both : Ok a ≡ Ok b = sym left ∙ right in
    cc

-- a place that a payload shows is within it
within : (n at : Option ℕ) (p : List ℕ) → NumberStandsAt n at p → IfSome at (λ at. at + 4 ≤ length p)
within None None p is = tt
within (Some n) (Some at) p is = is.0
within None (Some at) p is = absurd is
within (Some n) None p is = absurd is

place_within : (f : Message → Option ℕ) (p : List ℕ) → IfOk (read_message p) (λ m. IfSome (f m) (λ at. at + 4 ≤ length p)) → IfSome (in_payload f p) (λ at. at + 4 ≤ length p)
place_within f p h = by_case (read_message p) h
  where
    by_case : (r : Result Message Bad) → IfOk r (λ m. IfSome (f m) (λ at. at + 4 ≤ length p)) → IfSome (elim r as (λ _. Option ℕ) [ Err e ↦ None | Ok m ↦ f m ]) (λ at. at + 4 ≤ length p)
    by_case (Ok m) h = h
    by_case (Err e) h = tt

pub sender_within : (p : List ℕ) → AreBytes p → IfSome (sender_at p) (λ at. at + 4 ≤ length p)
sender_within p h = place_within sender_place p (IfOk-weaker (read_message p) _ (λ m. IfSome (sender_place m) (λ at. at + 4 ≤ length p)) (λ m is. within (sender_of m) (sender_place m) p is.1) (numbers_stand p h))
