-- What goes up is within its window and permitted.
use Rattle.std.proofs.Common.{◌≡◌, ℕ, List, [], length, true, false, Bool, refl, sym, Option, Some, None, subst, Ok, Err}
use Rattle.std.specs.Prelude.{◌==◌, ◌&&◌, Result, nat_lt, codes}
use Rattle.mux_history.specs.Channels.{Channel, held_of, with_own}
use Rattle.mux_history.specs.Controls.{client_has_greeted, house_sends, sent_body}
use Rattle.mux_history.specs.Forwardings.{current, is_forwarding_free_at}
use Rattle.mux_history.specs.Summary.{Act, Carries, Closes, Confirmation, Fails, Summary, Open, Refuses, Requests, Succeeds, Transport, Within, read_summary}
use Rattle.mux_history.specs.Heard.{Breaks, Dest, Disconnects, ToClient, ToMaster, dest, received_for, received_master}
use Rattle.mux_history.specs.Kept.{Every, Fits, ForEach}
use Rattle.mux_history.specs.Keys.{is_askable}
use Rattle.mux_history.specs.Ledger.{breach}
use Rattle.mux_history.specs.Log.{admits, bare_row, received_row, row_of, treat}
use Rattle.mux_history.specs.Policy.{Policy, may_open, permits}
use Rattle.mux_history.specs.Rows.{Admit, Gone, Heard, HouseSays, Item, Row, Says, any_of, rows_of}
use Rattle.mux_history.specs.Said.{Outcome, confirmed_at, drops, fails_open, is_failing, is_full_of_asks, on_breach, on_confirmed, on_unused, on_waiting, reason_for, sent_summary, open_outcome, sent_payload, sent_request, sends_payload, sends_as, sends_if, sends_open, silent, text_for, waiting_at}
use Rattle.ssh_fields.specs.Fields.{AreBytes}
use Rattle.ssh_grammar.specs.Messages.{Cancel, Forward, Global, KeepAlive, OtherName}
use Rattle.ssh_grammar.specs.Said.{BadFraming, Body, Payload}
use Rattle.ssh_grammar.specs.SpellMessage.{wants_reply, with_sender}
use Rattle.ssh_grammar.specs.declared.fault.Bad.{Bad}
use Rattle.ssh_grammar.specs.declared.fault.Breach.{Breach}
use Rattle.ssh_grammar.specs.declared.side.Side.TheVariants.{Up}
use Rattle.mux_history.specs.declared.why.Why.TheVariants as why
use Rattle.mux_history.proofs.Harmless.{Harmless, IsHarmless, every-append, every-of, harmless-each, harmless-heard, harmless-master}
use Rattle.mux_history.proofs.Legal.{fits-of}
use Rattle.mux_history.proofs.Renumbered.{reads-sent, sender-in, word}
use Rattle.mux_history.proofs.RightLogs.{LogKnown, by-treat}
use Rattle.mux_history.proofs.SentApart.{LawfulItem, ok-same}
use Rattle.mux_history.proofs.Sends.{admits-sent, body-sent, house-sent, row-split}
use Rattle.mux_isolation.proofs.Mays.{MaySend, SendsAllowed}

-- ---- what goes up

abbrev SendOk : Policy → List Row → List ℕ → Type 0
SendOk policy own q = (m : Summary) → read_summary q ≡ Ok m → MaySend policy own m

harmless-may : (policy : Policy) (own : List Row) (m : Summary) → IsHarmless m → MaySend policy own m
harmless-may policy own (Within s Closes) h = tt
harmless-may policy own (Within s Fails) h = tt
harmless-may policy own (Requests (Cancel key) wants_reply) h = tt
harmless-may policy own Refuses h = tt
harmless-may policy own (Within s act) h = absurd h
harmless-may policy own (Requests what wants_reply) h = absurd h
harmless-may policy own (Open what c w max) h = absurd h
harmless-may policy own m h = tt

pub all-may : (policy : Policy) (own : List Row) (qs : List (List ℕ)) → Every Harmless qs → Every (SendOk policy own) qs
all-may policy own qs all = every-of Harmless (SendOk policy own) (λ q h m reads. harmless-may policy own m (h m reads)) qs all

up-said : (policy : Policy) (k : ℕ) (own : List Row) (pick : ℕ) (p : List ℕ) (m : Summary) → AreBytes p → read_summary p ≡ Ok m → Every (SendOk policy own) (sent_summary policy k own pick p m).sent
up-said policy k own pick p (Transport number) bytes reads = elim (number == 1) as (λ b. Every (SendOk policy own) (elim b as (λ _. Outcome) [ true ↦ drops why.Disconnected | false ↦ silent ]).sent) [ true ↦ tt | false ↦ tt ]
up-said policy k own pick p (Succeeds rest) bytes reads = tt
up-said policy k own pick p Refuses bytes reads = tt
up-said policy k own pick p (Requests what wants_reply) bytes reads = by_full (is_full_of_asks wants_reply own)
  where
    as_was_sent : MaySend policy own (Requests what wants_reply) → SendOk policy own p
    as_was_sent may m' reads' = subst (MaySend policy own) (ok-same p (Requests what wants_reply) m' reads reads') may

    by_if : (b : Bool) → (b ≡ true → MaySend policy own (Requests what wants_reply)) → Every (SendOk policy own) (sends_if b p).sent
    by_if true may = (as_was_sent (may refl), tt)
    by_if false may = tt

    third : (a b c d : Bool) → (a && (b && (c && d))) ≡ true → c ≡ true
    third true true true d e = refl
    third true true false d e = cc
    third true false c d e = cc
    third false b c d e = cc

    by_what : (g : Global) → what ≡ g → Every (SendOk policy own) (sent_request policy k own p g wants_reply).sent
    by_what (Forward key) is = by_if (wants_reply && (is_askable key && (permits policy.listens key && nat_lt (length (current own)) 64))) (λ e. subst (λ (g : Global). MaySend policy own (Requests g wants_reply)) (sym is) (third wants_reply (is_askable key) (permits policy.listens key) (nat_lt (length (current own)) 64) e))
    by_what (Cancel key) is = by_if (any_of (is_forwarding_free_at k key) (current own)) (λ e. subst (λ (g : Global). MaySend policy own (Requests g wants_reply)) (sym is) tt)
    by_what KeepAlive is = by_if true (λ e. subst (λ (g : Global). MaySend policy own (Requests g wants_reply)) (sym is) tt)
    by_what OtherName is = tt

    by_full : (b : Bool) → Every (SendOk policy own) (elim b as (λ _. Outcome) [ true ↦ drops (why.TooManyAsks 1024) | false ↦ sent_request policy k own p what wants_reply ]).sent
    by_full true = tt
    by_full false = by_what what refl
up-said policy k own pick p (Open what c w max) bytes reads = by_unused (with_own own c)
  where
    as_sent : MaySend policy own (Open what (word pick) w max) → SendOk policy own (with_sender p pick)
    as_sent may m' reads' = subst (MaySend policy own) (ok-same (with_sender p pick) (Open what (word pick) w max) m' (reads-sent p (Open what c w max) (sender-in p (Open what c w max) c bytes reads refl) pick) reads') may

    by_room : MaySend policy own (Open what (word pick) w max) → (b : Bool) → Every (SendOk policy own) (elim b as (λ _. Outcome) [ true ↦ sends_as pick p | false ↦ fails_open c 4 (codes "too many channels") ]).sent
    by_room may true = (as_sent may, tt)
    by_room may false = tt

    by_permit : (b : Bool) → may_open policy what ≡ b → Every (SendOk policy own) (elim b as (λ _. Outcome) [ true ↦ sends_open own pick p c | false ↦ fails_open c (reason_for what) (text_for what) ]).sent
    by_permit true e = by_room e (nat_lt (length (held_of own)) 256)
    by_permit false e = tt

    by_unused : (o : Option Channel) → Every (SendOk policy own) (on_unused c (open_outcome policy own pick p c what) o).sent
    by_unused None = by_permit (may_open policy what) refl
    by_unused (Some x) = tt
up-said policy k own pick p (Confirmation s c w max) bytes reads = by_waiting (waiting_at own s)
  where
    as_sent : SendOk policy own (with_sender p pick)
    as_sent m' reads' = subst (MaySend policy own) (ok-same (with_sender p pick) (Confirmation s (word pick) w max) m' (reads-sent p (Confirmation s c w max) (sender-in p (Confirmation s c w max) c bytes reads refl) pick) reads') tt

    by_unused : (o : Option Channel) → Every (SendOk policy own) (on_unused c (sends_as pick p) o).sent
    by_unused None = (as_sent, tt)
    by_unused (Some x) = tt

    by_waiting : (o : Option Channel) → Every (SendOk policy own) (on_waiting s (on_unused c (sends_as pick p) (with_own own c)) o).sent
    by_waiting None = tt
    by_waiting (Some x) = by_unused (with_own own c)
up-said policy k own pick p (Within s act) bytes reads = by_failing (is_failing act) refl
  where
    as_was_sent : MaySend policy own (Within s act) → SendOk policy own p
    as_was_sent may m' reads' = subst (MaySend policy own) (ok-same p (Within s act) m' reads reads') may

    by_talk : (t : Act) (x : Channel) → confirmed_at own s ≡ Some x → breach Up t x ≡ None → MaySend policy own (Within s t)
    by_talk (Carries size) x at fine = subst (Fits Up size) (sym at) (fits-of Up size x fine)
    by_talk t x at fine = tt

    by_breach : (x : Channel) → confirmed_at own s ≡ Some x → (o : Option Breach) → breach Up act x ≡ o → Every (SendOk policy own) (on_breach p s o).sent
    by_breach x at None fine = (as_was_sent (by_talk act x at fine), tt)
    by_breach x at (Some b) fine = tt

    by_confirmed : (o : Option Channel) → confirmed_at own s ≡ o → Every (SendOk policy own) (on_confirmed p s act o).sent
    by_confirmed None at = tt
    by_confirmed (Some x) at = by_breach x at (breach Up act x) refl

    failing_may : (t : Act) → is_failing t ≡ true → MaySend policy own (Within s t)
    failing_may Fails e = tt
    failing_may t e = cc

    by_waiting : is_failing act ≡ true → (o : Option Channel) → Every (SendOk policy own) (on_waiting s (sends_payload p) o).sent
    by_waiting e None = tt
    by_waiting e (Some x) = (as_was_sent (failing_may act e), tt)

    by_failing : (b : Bool) → is_failing act ≡ b → Every (SendOk policy own) (elim b as (λ _. Outcome) [ true ↦ on_waiting s (sends_payload p) (waiting_at own s) | false ↦ on_confirmed p s act (confirmed_at own s) ]).sent
    by_failing true e = by_waiting e (waiting_at own s)
    by_failing false e = by_confirmed (confirmed_at own s) refl

up-payload : (policy : Policy) (k : ℕ) (own : List Row) (pick : ℕ) (p : List ℕ) → AreBytes p → Every (SendOk policy own) (sent_payload policy k own pick p).sent
up-payload policy k own pick p bytes = by_case (read_summary p) refl
  where
    by_case : (r : Result Summary Bad) → read_summary p ≡ r → Every (SendOk policy own) (elim r as (λ _. Outcome) [ Err bad ↦ drops (why.BadMessage bad) | Ok m ↦ sent_summary policy k own pick p m ]).sent
    by_case (Err bad) reads = tt
    by_case (Ok m) reads = up-said policy k own pick p m bytes reads

up-row : (policy : Policy) (before : List Row) (item : Item) (k : ℕ) (o : Outcome) → Every (SendOk policy (rows_of k before)) o.sent → SendsAllowed policy before (row_of item k o (rows_of k before))
up-row policy before item k o sent = row-split (SendsAllowed policy before) item k o (rows_of k before) (λ fw parting fate. every-append (SendOk policy (rows_of k before)) o.sent fw sent (all-may policy (rows_of k before) fw (harmless-each fw parting)))

up-bare : (policy : Policy) (before : List Row) (item : Item) (k : ℕ) (o : Outcome) → Every Harmless o.sent → SendsAllowed policy before (bare_row item k o)
up-bare policy before item k o sent = every-append (SendOk policy (rows_of k before)) o.sent [] (all-may policy (rows_of k before) o.sent sent) tt

up-none : (policy : Policy) (own : List Row) (ups : List (List ℕ)) → ups ≡ [] → Every (SendOk policy own) ups
up-none policy own ups none = subst (Every (SendOk policy own)) (sym none) tt

up-heard : (policy : Policy) (before : List Row) (p : List ℕ) (d : Dest) → SendsAllowed policy before (received_row before p d)
up-heard policy before p ToMaster = up-bare policy before (Heard p) 0 (received_master p) (harmless-master p)
up-heard policy before p (ToClient k) = up-row policy before (Heard p) k (received_for (rows_of k before) p) (all-may policy (rows_of k before) (received_for (rows_of k before) p).sent (harmless-heard (rows_of k before) p))
up-heard policy before p Disconnects = tt
up-heard policy before p (Breaks why) = tt

up-treat : (policy : Policy) (pid pick : ℕ) (before : List Row) (item : Item) → LawfulItem before item → SendsAllowed policy before (treat policy pid pick before item)
up-treat policy pid pick before (Admit k) lawful = up-row policy before (Admit k) k (admits before) (up-none policy (rows_of k before) (admits before).sent (admits-sent before))
up-treat policy pid pick before (Says k (Payload p) reply) lawful = up-row policy before (Says k (Payload p) reply) k (sent_payload policy k (rows_of k before) pick p) (up-payload policy k (rows_of k before) pick p lawful.1)
up-treat policy pid pick before (Says k (Body body) reply) lawful = up-row policy before (Says k (Body body) reply) k (sent_body pid k reply (client_has_greeted (rows_of k before)) body) (up-none policy (rows_of k before) (sent_body pid k reply (client_has_greeted (rows_of k before)) body).sent (body-sent pid k reply (client_has_greeted (rows_of k before)) body))
up-treat policy pid pick before (Says k (BadFraming fault) reply) lawful = up-row policy before (Says k (BadFraming fault) reply) k (drops (why.BadFrame fault)) tt
up-treat policy pid pick before (HouseSays k id given) lawful = up-row policy before (HouseSays k id given) k (house_sends (rows_of k before) id given) (up-none policy (rows_of k before) (house_sends (rows_of k before) id given).sent (house-sent (rows_of k before) id given))
up-treat policy pid pick before (Gone k) lawful = up-row policy before (Gone k) k silent tt
up-treat policy pid pick before (Heard p) lawful = up-heard policy before p (dest before p)
up-treat policy pid pick before item lawful = tt

pub ups-allowed : (policy : Policy) (pid : ℕ) (rows : List Row) → LogKnown policy pid rows → ForEach (SendsAllowed policy) rows
ups-allowed policy pid rows known = by-treat (SendsAllowed policy) policy pid (λ pick before item good orderly lawful makes. up-treat policy pid pick before item lawful) (λ before stream size. tt) rows known.each
