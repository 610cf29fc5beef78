-- What a client sends goes up as it was sent.
use Rattle.std.proofs.Common.{◌≡◌, ℕ, List, [], ◌∷◌, length, true, false, Bool, refl, ◌∙◌, ap, sym, Option, Some, None, subst, Ok, Err, inl, inr}
use Rattle.std.specs.Prelude.{Result, ◌&&◌, nat_lt, codes}
use Rattle.mux_history.specs.Channels.{held_of, own_number_of, with_own}
use Rattle.mux_history.specs.Forwardings.{current}
use Rattle.mux_history.specs.Summary.{Confirmation, Fails, Summary, Open, Requests, Within, read_summary, reading, summary_sender_of}
use Rattle.mux_history.specs.Kept.{ForEach, GoesUp, MustAsk, MustGoUp, MustOpen, Passes}
use Rattle.mux_history.specs.Keys.{is_askable}
use Rattle.mux_history.specs.Log.{treat}
use Rattle.mux_history.specs.Policy.{Policy, permits}
use Rattle.mux_history.specs.Rows.{Item, Row, Says, rows_of}
use Rattle.mux_history.specs.Said.{Outcome, drops, fails_open, is_full_of_asks, on_breach, on_confirmed, on_unused, on_waiting, reason_for, sent_summary, open_outcome, sent_payload, sent_request, sends_payload, sends_as, sends_if, sends_open, text_for}
use Rattle.mux_outside.specs.declared.house.HouseReply.{HouseReply}
use Rattle.ssh_grammar.specs.Messages.{Cancel, Forward, Global, KeepAlive}
use Rattle.ssh_grammar.specs.Said.{Payload}
use Rattle.ssh_grammar.specs.SpellMessage.{with_sender}
use Rattle.ssh_grammar.specs.declared.fault.Bad.{Bad}
use Rattle.mux_history.specs.declared.why.Why.TheVariants as why
use Rattle.mux_history.proofs.LawfulItems.{treat-item}
use Rattle.mux_history.proofs.Readings.{reading-err, reading-ok}
use Rattle.mux_history.proofs.RightLogs.{LogKnown, by-treat}
use Rattle.mux_history.proofs.SentApart.{ok-same}
use Rattle.mux_history.proofs.Sends.{Sent, sent-by}
use Rattle.mux_isolation.proofs.Fulls.{row-whole}

-- ---- what a client sends

goes-up : (p : List ℕ) (own : List Row) (pick : ℕ) (m : Summary) (ups : List (List ℕ)) → Sent own pick p m ups → GoesUp ups p (summary_sender_of m)
goes-up p own pick m ups (inl none) = by_own (summary_sender_of m)
  where
    by_own : (o : Option ℕ) → GoesUp ups p o
    by_own None = inl none
    by_own (Some c) = inl none
goes-up p own pick m ups (inr (inl plain)) = subst (GoesUp ups p) (sym plain.unowned) (inr plain.up)
goes-up p own pick m ups (inr (inr new)) = subst (GoesUp ups p) (sym new.owned) (inr (pick, new.up))

-- a channel is opened
must-open : (own : List Row) (pick : ℕ) (p : List ℕ) (c : ℕ) (o : Outcome) → (nat_lt (length (held_of own)) 256 ≡ true → o.sent ≡ with_sender p pick ∷ []) → MustOpen own (on_unused c o (with_own own c)).sent p c
must-open own pick p c o opens unused few = (pick, ap (λ x. (on_unused c o x).sent) unused ∙ opens few)

room-left : (own : List Row) (pick : ℕ) (p : List ℕ) (c : ℕ) → nat_lt (length (held_of own)) 256 ≡ true → (sends_open own pick p c).sent ≡ with_sender p pick ∷ []
room-left own pick p c few = ap (λ b. (elim b as (λ _. Outcome) [ true ↦ sends_as pick p | false ↦ fails_open c 4 (codes "too many channels") ]).sent) few

-- a request is asked
must-ask : (policy : Policy) (k : ℕ) (own : List Row) (p : List ℕ) (what : Global) (wants : Bool) → (sent_request policy k own p what wants).sent ≡ p ∷ [] → MustAsk own (elim (is_full_of_asks wants own) as (λ _. Outcome) [ true ↦ drops (why.TooManyAsks 1024) | false ↦ sent_request policy k own p what wants ]).sent p wants
must-ask policy k own p what wants asked full = ap (λ b. (elim b as (λ _. Outcome) [ true ↦ drops (why.TooManyAsks 1024) | false ↦ sent_request policy k own p what wants ]).sent) full ∙ asked

all-three : (a b c : Bool) → a ≡ true → b ≡ true → c ≡ true → (a && (b && c)) ≡ true
all-three true true true e f g = refl
all-three false b c e f g = cc
all-three true false c e f g = cc
all-three true true false e f g = cc

must-go : (policy : Policy) (k : ℕ) (own : List Row) (pick : ℕ) (p : List ℕ) (m : Summary) → MustGoUp policy k own (sent_summary policy k own pick p m).sent p m
must-go policy k own pick p (Open what c w max) = λ permitted. must-open own pick p c (open_outcome policy own pick p c what) (λ few. ap (λ b. (elim b as (λ _. Outcome) [ true ↦ sends_open own pick p c | false ↦ fails_open c (reason_for what) (text_for what) ]).sent) permitted ∙ room-left own pick p c few)
must-go policy k own pick p (Requests (Forward key) true) = λ askable permitted few. must-ask policy k own p (Forward key) true (ap (λ b. (sends_if b p).sent) (all-three (is_askable key) (permits policy.listens key) (nat_lt (length (current own)) 64) askable permitted few))
must-go policy k own pick p (Requests (Cancel key) wants) = λ free. must-ask policy k own p (Cancel key) wants (ap (λ b. (sends_if b p).sent) free)
must-go policy k own pick p (Requests KeepAlive wants) = must-ask policy k own p KeepAlive wants refl
must-go policy k own pick p (Confirmation s c w max) = λ x waits unused. (pick, ap (λ o. (on_waiting s (on_unused c (sends_as pick p) (with_own own c)) o).sent) waits ∙ ap (λ o. (on_unused c (sends_as pick p) o).sent) unused)
must-go policy k own pick p (Within s Fails) = λ x waits. ap (λ o. (on_waiting s (sends_payload p) o).sent) waits
must-go policy k own pick p (Within s act) = λ x confirmed fine. ap (λ o. (on_confirmed p s act o).sent) confirmed ∙ ap (λ o. (on_breach p s o).sent) fine
must-go policy k own pick p m = tt

-- of a payload
record SentUp (policy : Policy) (k : ℕ) (own : List Row) (p : List ℕ) (client : ℕ) (ups : List (List ℕ)) : Type 0 where
  mine : client ≡ k
  unchanged : GoesUp ups p (reading p summary_sender_of None)
  must : (m : Summary) → read_summary p ≡ Ok m → MustGoUp policy k own ups p m

payload-up : (policy : Policy) (k : ℕ) (own : List Row) (pick : ℕ) (p : List ℕ) → SentUp policy k own p k (sent_payload policy k own pick p).sent
payload-up policy k own pick p = by_case (read_summary p) refl
  where
    never : (r : Result Summary Bad) (bad : Bad) (m : Summary) → r ≡ Err bad → r ≡ Ok m → ⊥
    never r bad m e f = cc

    by_case : (r : Result Summary Bad) → read_summary p ≡ r → SentUp policy k own p k (elim r as (λ _. Outcome) [ Err bad ↦ drops (why.BadMessage bad) | Ok m ↦ sent_summary policy k own pick p m ]).sent
    by_case (Err bad) reads = record {
      mine = refl;
      unchanged = subst (GoesUp [] p) (sym (reading-err p bad summary_sender_of None reads)) (inl refl);
      must = λ m reads'. absurd (never (read_summary p) bad m reads reads');
    }
    by_case (Ok m) reads = record {
      mine = refl;
      unchanged = subst (GoesUp (sent_summary policy k own pick p m).sent p) (sym (reading-ok p m summary_sender_of None reads)) (goes-up p own pick m (sent_summary policy k own pick p m).sent (sent-by policy k own pick p m));
      must = λ m' reads'. subst (MustGoUp policy k own (sent_summary policy k own pick p m).sent p) (ok-same p m m' reads reads') (must-go policy k own pick p m);
    }

passes-treat : (policy : Policy) (pid pick : ℕ) (before : List Row) (item : Item) (k : ℕ) (p : List ℕ) (given : Option HouseReply) → (treat policy pid pick before item).item ≡ Says k (Payload p) given → SentUp policy k (rows_of k before) p (treat policy pid pick before item).client (treat policy pid pick before item).up
passes-treat policy pid pick before item k p given is = subst (λ (i : Item). SentUp policy k (rows_of k before) p (treat policy pid pick before i).client (treat policy pid pick before i).up) (sym (sym (treat-item policy pid pick before item) ∙ is)) (row-whole (λ row. SentUp policy k (rows_of k before) p row.client row.up) (Says k (Payload p) given) k (sent_payload policy k (rows_of k before) pick p) (rows_of k before) (λ fw. payload-up policy k (rows_of k before) pick p))

passes-row : (policy : Policy) (pid pick : ℕ) (before : List Row) (item : Item) → Passes policy before (treat policy pid pick before item)
passes-row policy pid pick before item = record {
  client = λ k p given is. (passes-treat policy pid pick before item k p given is).mine;
  unchanged = λ k p given is. subst (GoesUp (treat policy pid pick before item).up p) (sym (ap own_number_of is)) (passes-treat policy pid pick before item k p given is).unchanged;
  must = λ k p given m is reads. (passes-treat policy pid pick before item k p given is).must m reads;
}

pub passed : (policy : Policy) (pid : ℕ) (rows : List Row) → LogKnown policy pid rows → ForEach (Passes policy) rows
passed policy pid rows known = by-treat (Passes policy) policy pid (λ pick before item good orderly lawful makes. passes-row policy pid pick before item) (λ before stream size. record { client = λ k p given is. cc; unchanged = λ k p given is. cc; must = λ k p given m is. cc }) rows known.each
