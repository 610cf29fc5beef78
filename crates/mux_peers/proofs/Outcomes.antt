-- What the outcome of a payload depends on, what one gives that drops its client, and that none
-- refuses it.
use Rattle.std.proofs.Common.{◌≡◌, ℕ, List, [], ◌∷◌, true, false, Bool, refl, ◌∙◌, ap, sym, subst, Option, Some, None, Ok, Err, Result, length}
use Rattle.std.specs.Prelude.{◌&&◌, ◌==◌, is_some, nat_lt}
use Rattle.ssh_grammar.specs.declared.side.Side.TheVariants.{Up}
use Rattle.ssh_grammar.specs.declared.fault.Bad.{Bad}
use Rattle.ssh_grammar.specs.declared.fault.Breach.{Breach}
use Rattle.ssh_grammar.specs.declared.numbers.TheConstants.{DISCONNECT, RESOURCE_SHORTAGE}
use Rattle.ssh_grammar.specs.SpellMessage.{too_many_channels}
use Rattle.ssh_grammar.specs.Messages.{Opens, Global, Forward, Cancel, KeepAlive, OtherName}
use Rattle.ssh_grammar.specs.Said.{Payload}
use Rattle.mux_history.specs.declared.limits.TheConstants.{MAX_CHANNELS, MAX_GLOBAL_REQUESTS}
use Rattle.mux_history.specs.declared.why.Why.{Why}
use Rattle.mux_history.specs.declared.why.Why.TheVariants as why
use Rattle.mux_history.specs.Summary.{Summary, Transport, Requests, Succeeds, Refuses, Open, Confirmation, Within, Act, read_summary, summary_sender_of}
use Rattle.mux_history.specs.Rows.{Row, Says, Fate, Goes, Drop, Refused, End, is_refusal}
use Rattle.mux_history.specs.Channels.{Channel, held_of, own_number_of, with_own}
use Rattle.mux_history.specs.Choices.{takes_number}
use Rattle.mux_history.specs.Ledger.{breach}
use Rattle.mux_history.specs.Policy.{Policy, may_open}
use Rattle.mux_history.specs.Said.{Outcome, silent, sends_payload, drops, confirmed_at, waiting_at, fails_open, is_failing, is_full_of_asks, on_breach, on_confirmed, on_unused, on_waiting, sent_summary, open_outcome, sent_payload, sent_request, sends_as, sends_if, sends_open, reason_for, text_for}
use Rattle.mux_history.specs.Treat.{bare_row}
use Rattle.mux_history.proofs.Readings.{reading-ok}

-- something is sent
abbrev sends_some : List (List ℕ) → Bool
sends_some [] = false
sends_some (p ∷ ps) = true

-- ---- the number that is picked is looked at only where one is used

-- the same with either number, unless the outcome sends
abbrev FreeOf : Outcome → Outcome → Type 0
FreeOf o o' = sends_some o.sent ≡ false → o' ≡ o

free-open : (own : List Row) (n pick : ℕ) (p : List ℕ) (sender : ℕ) (b : Bool)
    → FreeOf (elim b as (λ _. Outcome) [ true ↦ sends_as pick p | false ↦ fails_open sender RESOURCE_SHORTAGE too_many_channels ]) (elim b as (λ _. Outcome) [ true ↦ sends_as n p | false ↦ fails_open sender RESOURCE_SHORTAGE too_many_channels ])
free-open own n pick p sender true h = absurd (cc)
free-open own n pick p sender false h = refl

free-kind : (policy : Policy) (own : List Row) (n pick : ℕ) (p : List ℕ) (sender : ℕ) (what : Opens) → FreeOf (open_outcome policy own pick p sender what) (open_outcome policy own n p sender what)
free-kind policy own n pick p sender what = by_permit (may_open policy what)
  where
    by_permit : (b : Bool) → FreeOf (elim b as (λ _. Outcome) [ true ↦ sends_open own pick p sender | false ↦ fails_open sender (reason_for what) (text_for what) ]) (elim b as (λ _. Outcome) [ true ↦ sends_open own n p sender | false ↦ fails_open sender (reason_for what) (text_for what) ])
    by_permit true = free-open own n pick p sender (nat_lt (length (held_of own)) MAX_CHANNELS)
    by_permit false = λ h. refl

free-unused : (c : ℕ) (o o' : Outcome) (x : Option Channel) → FreeOf o o' → FreeOf (on_unused c o x) (on_unused c o' x)
free-unused c o o' None f = f
free-unused c o o' (Some x) f = λ h. refl

free-waiting : (s : ℕ) (o o' : Outcome) (x : Option Channel) → FreeOf o o' → FreeOf (on_waiting s o x) (on_waiting s o' x)
free-waiting s o o' None f = λ h. refl
free-waiting s o o' (Some x) f = f

free-sent : (n pick : ℕ) (p : List ℕ) → FreeOf (sends_as pick p) (sends_as n p)
free-sent n pick p h = absurd (cc)

and-some : (a : Bool) (c : ℕ) → (a && is_some (Some c)) ≡ false → a ≡ false
and-some true c h = h
and-some false c h = refl

free-summary : (policy : Policy) (k : ℕ) (own : List Row) (n pick : ℕ) (p : List ℕ) (m : Summary) → (sends_some (sent_summary policy k own pick p m).sent && is_some (summary_sender_of m)) ≡ false → sent_summary policy k own n p m ≡ sent_summary policy k own pick p m
free-summary policy k own n pick p (Open what sender w x) h =
    free-unused sender (open_outcome policy own pick p sender what) (open_outcome policy own n p sender what) (with_own own sender) (free-kind policy own n pick p sender what) (and-some _ sender h)
free-summary policy k own n pick p (Confirmation s sender w x) h =
    free-waiting s (on_unused sender (sends_as pick p) (with_own own sender)) (on_unused sender (sends_as n p) (with_own own sender)) (waiting_at own s)
    (free-unused sender (sends_as pick p) (sends_as n p) (with_own own sender) (free-sent n pick p)) (and-some _ sender h)
free-summary policy k own n pick p (Transport number) h = refl
free-summary policy k own n pick p (Requests what wants) h = refl
free-summary policy k own n pick p (Succeeds rest) h = refl
free-summary policy k own n pick p Refuses h = refl
free-summary policy k own n pick p (Within r a) h = refl

-- where no number is used the outcome is the same with any
pub pick-free : (policy : Policy) (k : ℕ) (own : List Row) (n pick : ℕ) (p : List ℕ) → takes_number (bare_row (Says k (Payload p) None) k (sent_payload policy k own pick p)) ≡ false → sent_payload policy k own n p ≡ sent_payload policy k own pick p
pick-free policy k own n pick p h = by_read (read_summary p) refl
  where
    by_read : (r : Result Summary Bad) → read_summary p ≡ r → sent_payload policy k own n p ≡ sent_payload policy k own pick p
    by_read (Err bad) e = ap (λ (r : Result Summary Bad). elim r as (λ _. Outcome) [ Err bad ↦ drops (why.BadMessage bad) | Ok m ↦ sent_summary policy k own n p m ]) e ∙ sym (ap (λ (r : Result Summary Bad). elim r as (λ _. Outcome) [ Err bad ↦ drops (why.BadMessage bad) | Ok m ↦ sent_summary policy k own pick p m ]) e)
    by_read (Ok m) e =
        let a : sent_payload policy k own n p ≡ sent_summary policy k own n p m = ap (λ (r : Result Summary Bad). elim r as (λ _. Outcome) [ Err bad ↦ drops (why.BadMessage bad) | Ok m ↦ sent_summary policy k own n p m ]) e in
        let b : sent_payload policy k own pick p ≡ sent_summary policy k own pick p m = ap (λ (r : Result Summary Bad). elim r as (λ _. Outcome) [ Err bad ↦ drops (why.BadMessage bad) | Ok m ↦ sent_summary policy k own pick p m ]) e in
        let t : (sends_some (sent_summary policy k own pick p m).sent && is_some (summary_sender_of m)) ≡ false =
        sym (ap (λ (o : Outcome). sends_some o.sent && is_some (own_number_of (Says k (Payload p) None))) b ∙ ap (λ (c : Option ℕ). sends_some (sent_summary policy k own pick p m).sent && is_some c) (reading-ok p m summary_sender_of None e)) ∙ h in
        a ∙ (free-summary policy k own n pick p m t ∙ sym b)

-- ---- what drops its client gives it nothing

abbrev RecordsUndropped : Outcome → Type 0
RecordsUndropped o = elim o.ends [ Drop cause ↦ o.recorded ≡ [] | Goes ↦ Unit {0} | Refused ↦ ⊥ | End cause ↦ Unit {0} ]

quiet-open : (own : List Row) (pick : ℕ) (p : List ℕ) (sender : ℕ) (b : Bool) → RecordsUndropped (elim b as (λ _. Outcome) [ true ↦ sends_as pick p | false ↦ fails_open sender RESOURCE_SHORTAGE too_many_channels ])
quiet-open own pick p sender true = tt
quiet-open own pick p sender false = tt

quiet-kind : (policy : Policy) (own : List Row) (pick : ℕ) (p : List ℕ) (sender : ℕ) (what : Opens) → RecordsUndropped (open_outcome policy own pick p sender what)
quiet-kind policy own pick p sender what = by_permit (may_open policy what)
  where
    by_permit : (b : Bool) → RecordsUndropped (elim b as (λ _. Outcome) [ true ↦ sends_open own pick p sender | false ↦ fails_open sender (reason_for what) (text_for what) ])
    by_permit true = quiet-open own pick p sender (nat_lt (length (held_of own)) MAX_CHANNELS)
    by_permit false = tt

quiet-unused : (c : ℕ) (o : Outcome) (x : Option Channel) → RecordsUndropped o → RecordsUndropped (on_unused c o x)
quiet-unused c o None q = q
quiet-unused c o (Some x) q = refl

quiet-waiting : (s : ℕ) (o : Outcome) (x : Option Channel) → RecordsUndropped o → RecordsUndropped (on_waiting s o x)
quiet-waiting s o None q = refl
quiet-waiting s o (Some x) q = q

quiet-breach : (p : List ℕ) (s : ℕ) (b : Option Breach) → RecordsUndropped (on_breach p s b)
quiet-breach p s None = tt
quiet-breach p s (Some b) = refl

quiet-confirmed : (p : List ℕ) (s : ℕ) (act : Act) (x : Option Channel) → RecordsUndropped (on_confirmed p s act x)
quiet-confirmed p s act None = refl
quiet-confirmed p s act (Some x) = quiet-breach p s (breach Up act x)

quiet-within : (own : List Row) (p : List ℕ) (s : ℕ) (act : Act) (b : Bool) → RecordsUndropped (elim b as (λ _. Outcome) [ true ↦ on_waiting s (sends_payload p) (waiting_at own s) | false ↦ on_confirmed p s act (confirmed_at own s) ])
quiet-within own p s act true = quiet-waiting s (sends_payload p) (waiting_at own s) tt
quiet-within own p s act false = quiet-confirmed p s act (confirmed_at own s)

quiet-if : (b : Bool) (p : List ℕ) → RecordsUndropped (sends_if b p)
quiet-if true p = tt
quiet-if false p = tt

quiet-request : (policy : Policy) (k : ℕ) (own : List Row) (p : List ℕ) (what : Global) (wants : Bool) → RecordsUndropped (sent_request policy k own p what wants)
quiet-request policy k own p KeepAlive wants = tt
quiet-request policy k own p OtherName wants = tt
quiet-request policy k own p (Forward key) wants = quiet-if _ p
quiet-request policy k own p (Cancel key) wants = quiet-if _ p

quiet-asks : (policy : Policy) (k : ℕ) (own : List Row) (p : List ℕ) (what : Global) (wants b : Bool) → RecordsUndropped (elim b as (λ _. Outcome) [ true ↦ drops (why.TooManyAsks MAX_GLOBAL_REQUESTS) | false ↦ sent_request policy k own p what wants ])
quiet-asks policy k own p what wants true = refl
quiet-asks policy k own p what wants false = quiet-request policy k own p what wants

quiet-transport : (b : Bool) → RecordsUndropped (elim b as (λ _. Outcome) [ true ↦ drops why.Disconnected | false ↦ silent ])
quiet-transport true = refl
quiet-transport false = tt

quiet-summary : (policy : Policy) (k : ℕ) (own : List Row) (pick : ℕ) (p : List ℕ) (m : Summary) → RecordsUndropped (sent_summary policy k own pick p m)
quiet-summary policy k own pick p (Open what sender w x) = quiet-unused sender (open_outcome policy own pick p sender what) (with_own own sender) (quiet-kind policy own pick p sender what)
quiet-summary policy k own pick p (Confirmation s sender w x) = quiet-waiting s (on_unused sender (sends_as pick p) (with_own own sender)) (waiting_at own s) (quiet-unused sender (sends_as pick p) (with_own own sender) tt)
quiet-summary policy k own pick p (Transport number) = quiet-transport (number == DISCONNECT)
quiet-summary policy k own pick p (Requests what wants) = quiet-asks policy k own p what wants (is_full_of_asks wants own)
quiet-summary policy k own pick p (Succeeds rest) = refl
quiet-summary policy k own pick p Refuses = refl
quiet-summary policy k own pick p (Within r a) = quiet-within own p r a (is_failing a)

undropped : (policy : Policy) (k : ℕ) (own : List Row) (pick : ℕ) (p : List ℕ) → RecordsUndropped (sent_payload policy k own pick p)
undropped policy k own pick p = by_read (read_summary p)
  where
    by_read : (r : Result Summary Bad) → RecordsUndropped (elim r as (λ _. Outcome) [ Err bad ↦ drops (why.BadMessage bad) | Ok m ↦ sent_summary policy k own pick p m ])
    by_read (Err bad) = refl
    by_read (Ok m) = quiet-summary policy k own pick p m

by-drop : (o : Outcome) (f : Fate) (cause : Why) → o.ends ≡ f → f ≡ Drop cause → RecordsUndropped o → o.recorded ≡ []
by-drop o f cause e d q = subst (λ (f : Fate). elim f as (λ _. Type 0) [ Drop cause ↦ o.recorded ≡ [] | Goes ↦ Unit {0} | Refused ↦ ⊥ | End cause ↦ Unit {0} ]) (e ∙ d) q

pub dropped-untold : (policy : Policy) (k : ℕ) (own : List Row) (pick : ℕ) (p : List ℕ) (cause : Why) → (sent_payload policy k own pick p).ends ≡ Drop cause → (sent_payload policy k own pick p).recorded ≡ []
dropped-untold policy k own pick p cause e = by-drop (sent_payload policy k own pick p) (sent_payload policy k own pick p).ends cause refl e (undropped policy k own pick p)

unrefused-by : (o : Outcome) (f : Fate) → o.ends ≡ f → RecordsUndropped o → is_refusal f ≡ false
unrefused-by o Goes e q = refl
unrefused-by o (Drop cause) e q = refl
unrefused-by o (End cause) e q = refl
unrefused-by o Refused e q = absurd (subst (λ (f : Fate). elim f as (λ _. Type 0) [ Drop cause ↦ o.recorded ≡ [] | Goes ↦ Unit {0} | Refused ↦ ⊥ | End cause ↦ Unit {0} ]) e q)

pub said-unrefused : (policy : Policy) (k : ℕ) (own : List Row) (pick : ℕ) (p : List ℕ) → is_refusal (sent_payload policy k own pick p).ends ≡ false
said-unrefused policy k own pick p = unrefused-by (sent_payload policy k own pick p) (sent_payload policy k own pick p).ends refl (undropped policy k own pick p)
