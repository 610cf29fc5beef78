-- What each row sends up, and how its messages move channels.
use Rattle.std.proofs.Common.{◌≡◌, ℕ, List, [], ◌∷◌, length, true, false, Bool, refl, Option, Some, None, inl, inr, Ok, Err}
use Rattle.std.specs.Prelude.{◌==◌, ◌&&◌, ◌⊎◌, Result, nat_lt, codes}
use Rattle.mux_history.specs.Channels.{Channel, held_of, is_channel_held, is_number, with_down, with_own, with_up, with_ups}
use Rattle.mux_history.specs.Controls.{answers_ask, answers_maybe, house_answer, house_sends, in_proxy, sent_body, sent_first, sent_later}
use Rattle.mux_history.specs.Farewell.{farewell}
use Rattle.mux_history.specs.Forwardings.{current, is_forwarding_free_at}
use Rattle.mux_history.specs.Summary.{Confirmation, Summary, Open, Refuses, Requests, Succeeds, Transport, Within, read_summary, reading, summary_sender_of}
use Rattle.mux_history.specs.Heard.{received_for, received_master}
use Rattle.mux_history.specs.Kept.{Every, IsMasters}
use Rattle.mux_history.specs.Keys.{is_askable}
use Rattle.mux_history.specs.Ledger.{breach}
use Rattle.mux_history.specs.Log.{admits, all_recorded, bare_row, open_matters, queued, row_of}
use Rattle.mux_history.specs.Policy.{Policy, may_open, permits}
use Rattle.mux_history.specs.Rows.{Fate, Item, Refused, Row, any_of, loses}
use Rattle.mux_history.specs.Said.{Outcome, confirmed_at, drops, fails_open, is_failing, is_full_of_asks, on_breach, on_confirmed, on_unused, on_waiting, reason_for, sent_summary, open_outcome, sent_request, sends_payload, sends_as, sends_if, sends_open, silent, records, text_for, waiting_at}
use Rattle.mux_outside.specs.declared.house.HouseReply.{HouseReply}
use Rattle.ssh_grammar.specs.Control.{Answer, CloseForward, Control, Greets, Hello, OpenForward}
use Rattle.ssh_grammar.specs.Frames.{frame_answer}
use Rattle.ssh_grammar.specs.Messages.{Cancel, Forward, Global, KeepAlive, Opens, OtherName}
use Rattle.ssh_grammar.specs.ReadControl.{read_control}
use Rattle.ssh_grammar.specs.SpellMessage.{wants_reply, with_sender}
use Rattle.ssh_grammar.specs.declared.fault.Bad.{Bad}
use Rattle.ssh_grammar.specs.declared.fault.BadControl.{BadControl}
use Rattle.ssh_grammar.specs.declared.fault.Breach.{Breach}
use Rattle.ssh_grammar.specs.declared.numbers.TheConstants.{VERSION}
use Rattle.ssh_grammar.specs.declared.side.Side.TheVariants.{Down, Up}
use Rattle.mux_history.specs.declared.why.Why.TheVariants as why
use Rattle.ssh_grammar.specs.declared.fault.BadControl.TheVariants as bad_control
use Rattle.mux_history.proofs.Apart.{DownStep, Ids, UpStep, brought_down, brought_up, ids-self, ids-then}
use Rattle.mux_history.proofs.Harmless.{harmless-each, harmless-heard, harmless-master, masters-farewell}
use Rattle.mux_history.proofs.Quiets.{IsQuiet, Quiet, quiet-each}

-- ---- payloads that bring no number

pub quiet-farewell : (row : Row) (own : List Row) → Every Quiet (farewell row own)
quiet-farewell row own = quiet-each (farewell row own) (harmless-each (farewell row own) (masters-farewell row own))

pub quiet-heard : (own : List Row) (p : List ℕ) → Every Quiet (received_for own p).sent
quiet-heard own p = quiet-each (received_for own p).sent (harmless-heard own p)

pub quiet-master : (p : List ℕ) → Every Quiet (received_master p).sent
quiet-master p = quiet-each (received_master p).sent (harmless-master p)

-- ---- what goes up for what a client sends

pub record SentPlain (p : List ℕ) (m : Summary) (ups : List (List ℕ)) : Type 0 where
  pub up : ups ≡ p ∷ []
  pub unowned : summary_sender_of m ≡ None

pub record SentFresh (own : List Row) (pick : ℕ) (p : List ℕ) (m : Summary) (ups : List (List ℕ)) : Type 0 where
  pub c : ℕ
  pub owned : summary_sender_of m ≡ Some c
  pub up : ups ≡ with_sender p pick ∷ []
  pub unused : with_own own c ≡ None

abbrev pub Sent : List Row → ℕ → List ℕ → Summary → List (List ℕ) → Type 0
Sent own pick p m ups = (ups ≡ []) ⊎ (SentPlain p m ups ⊎ SentFresh own pick p m ups)

pub sent-by : (policy : Policy) (k : ℕ) (own : List Row) (pick : ℕ) (p : List ℕ) (m : Summary) → Sent own pick p m (sent_summary policy k own pick p m).sent
sent-by policy k own pick p (Transport number) = elim (number == 1) as (λ b. Sent own pick p (Transport number) (elim b as (λ _. Outcome) [ true ↦ drops why.Disconnected | false ↦ silent ]).sent) [ true ↦ inl refl | false ↦ inl refl ]
sent-by policy k own pick p (Succeeds rest) = inl refl
sent-by policy k own pick p Refuses = inl refl
sent-by policy k own pick p (Requests what wants_reply) = by_full (is_full_of_asks wants_reply own)
  where
    by_if : (b : Bool) → Sent own pick p (Requests what wants_reply) (sends_if b p).sent
    by_if true = inr (inl (record { up = refl; unowned = refl }))
    by_if false = inl refl

    by_what : (g : Global) → Sent own pick p (Requests what wants_reply) (sent_request policy k own p g wants_reply).sent
    by_what (Forward key) = by_if (wants_reply && (is_askable key && (permits policy.listens key && nat_lt (length (current own)) 64)))
    by_what (Cancel key) = by_if (any_of (is_forwarding_free_at k key) (current own))
    by_what KeepAlive = by_if true
    by_what OtherName = inl refl

    by_full : (b : Bool) → Sent own pick p (Requests what wants_reply) (elim b as (λ _. Outcome) [ true ↦ drops (why.TooManyAsks 1024) | false ↦ sent_request policy k own p what wants_reply ]).sent
    by_full true = inl refl
    by_full false = by_what what
sent-by policy k own pick p (Open what c w max) = by_unused (with_own own c) refl
  where
    by_room : (b : Bool) → with_own own c ≡ None → Sent own pick p (Open what c w max) (elim b as (λ _. Outcome) [ true ↦ sends_as pick p | false ↦ fails_open c 4 (codes "too many channels") ]).sent
    by_room true unused = inr (inr (record { c = c; owned = refl; up = refl; unused = unused }))
    by_room false unused = inl refl

    by_type : (t : Opens) → with_own own c ≡ None → Sent own pick p (Open what c w max) (open_outcome policy own pick p c t).sent
    by_type t unused = elim (may_open policy t) as (λ b. Sent own pick p (Open what c w max) (elim b as (λ _. Outcome) [ true ↦ sends_open own pick p c | false ↦ fails_open c (reason_for t) (text_for t) ]).sent) [ true ↦ by_room (nat_lt (length (held_of own)) 256) unused | false ↦ inl refl ]

    by_unused : (o : Option Channel) → with_own own c ≡ o → Sent own pick p (Open what c w max) (on_unused c (open_outcome policy own pick p c what) o).sent
    by_unused None unused = by_type what unused
    by_unused (Some x) used = inl refl
sent-by policy k own pick p (Confirmation s c w max) = by_waiting (waiting_at own s)
  where
    by_unused : (o : Option Channel) → with_own own c ≡ o → Sent own pick p (Confirmation s c w max) (on_unused c (sends_as pick p) o).sent
    by_unused None unused = inr (inr (record { c = c; owned = refl; up = refl; unused = unused }))
    by_unused (Some x) used = inl refl

    by_waiting : (o : Option Channel) → Sent own pick p (Confirmation s c w max) (on_waiting s (on_unused c (sends_as pick p) (with_own own c)) o).sent
    by_waiting None = inl refl
    by_waiting (Some x) = by_unused (with_own own c) refl
sent-by policy k own pick p (Within s act) = by_failing (is_failing act)
  where
    by_breach : (o : Option Breach) → Sent own pick p (Within s act) (on_breach p s o).sent
    by_breach None = inr (inl (record { up = refl; unowned = refl }))
    by_breach (Some b) = inl refl

    by_confirmed : (o : Option Channel) → Sent own pick p (Within s act) (on_confirmed p s act o).sent
    by_confirmed None = inl refl
    by_confirmed (Some x) = by_breach (breach Up act x)

    by_waiting : (o : Option Channel) → Sent own pick p (Within s act) (on_waiting s (sends_payload p) o).sent
    by_waiting None = inl refl
    by_waiting (Some x) = inr (inl (record { up = refl; unowned = refl }))

    by_failing : (b : Bool) → Sent own pick p (Within s act) (elim b as (λ _. Outcome) [ true ↦ on_waiting s (sends_payload p) (waiting_at own s) | false ↦ on_confirmed p s act (confirmed_at own s) ]).sent
    by_failing true = by_waiting (waiting_at own s)
    by_failing false = by_confirmed (confirmed_at own s)

-- a control message sends nothing
maybe-sent : (o : Option Answer) → (answers_maybe o).sent ≡ []
maybe-sent None = refl
maybe-sent (Some answer) = refl

ask-sent : (opening : Bool) (id : ℕ) (o : Option HouseReply) → (answers_ask opening id o).sent ≡ []
ask-sent opening id None = refl
ask-sent opening id (Some given) = maybe-sent (house_answer opening id given)

pub house-sent : (own : List Row) (id : ℕ) (given : HouseReply) → (house_sends own id given).sent ≡ []
house-sent own id given = elim (in_proxy own) as (λ b. (elim b as (λ _. Outcome) [ true ↦ silent | false ↦ answers_ask true id (Some given) ]).sent ≡ []) [ true ↦ refl | false ↦ ask-sent true id (Some given) ]

later-sent : (pid k : ℕ) (given : Option HouseReply) (r : Result Control BadControl) → (sent_later pid k given r).sent ≡ []
later-sent pid k given (Ok (OpenForward id what)) = ask-sent true id given
later-sent pid k given (Ok (CloseForward id what)) = ask-sent false id given
later-sent pid k given (Ok c) = refl
later-sent pid k given (Err (bad_control.Unknown kind (Some id))) = refl
later-sent pid k given (Err (bad_control.Unknown kind None)) = refl
later-sent pid k given (Err fault) = refl

first-sent : (r : Result Control BadControl) → (sent_first r).sent ≡ []
first-sent (Ok (Hello version extensions)) = elim (version == 4) as (λ b. (elim b as (λ _. Outcome) [ true ↦ silent | false ↦ drops (why.Version version) ]).sent ≡ []) [ true ↦ refl | false ↦ refl ]
first-sent (Ok c) = refl
first-sent (Err (bad_control.Unknown kind id)) = refl
first-sent (Err fault) = refl

pub body-sent : (pid k : ℕ) (given : Option HouseReply) (greeted_yet : Bool) (body : List ℕ) → (sent_body pid k given greeted_yet body).sent ≡ []
body-sent pid k given true body = later-sent pid k given (read_control body)
body-sent pid k given false body = first-sent (read_control body)

pub admits-sent : (rows : List Row) → (admits rows).sent ≡ []
admits-sent rows = elim (nat_lt (open_matters rows) 64) as (λ b. (elim b as (λ _. Outcome) [ true ↦ records (frame_answer (Greets VERSION)) | false ↦ record { sent = []; recorded = []; ends = Refused } ]).sent ≡ []) [ true ↦ refl | false ↦ refl ]

-- ---- any fact of a row of a client, from its parts

abbrev pub as_row : Item → ℕ → List (List ℕ) → List (List ℕ) → List (List ℕ) → Fate → Row
as_row item k up fw down fate = record { item = item; client = k; up = up; farewell = fw; down = down; fate = fate }

-- with all that the row gives
pub row-split : (P : Row → Type 0) (item : Item) (k : ℕ) (o : Outcome) (own : List Row) → ((fw : List (List ℕ)) → Every IsMasters fw → (fate : Fate) → P (as_row item k o.sent fw (queued (all_recorded (bare_row item k o) own) (bare_row item k o) own).down fate)) → P (row_of item k o own)
row-split P item k o own each = by_case (loses (queued (all_recorded (bare_row item k o) own) (bare_row item k o) own))
  where
    by_case : (b : Bool) → P (elim b as (λ _. Row) [ true ↦ record (queued (all_recorded (bare_row item k o) own) (bare_row item k o) own) { farewell = farewell (queued (all_recorded (bare_row item k o) own) (bare_row item k o) own) own } | false ↦ queued (all_recorded (bare_row item k o) own) (bare_row item k o) own ])
    by_case true = each (farewell (queued (all_recorded (bare_row item k o) own) (bare_row item k o) own) own) (masters-farewell (queued (all_recorded (bare_row item k o) own) (bare_row item k o) own) own) _
    by_case false = each [] tt _

pub row-parts : (P : Row → Type 0) (item : Item) (k : ℕ) (o : Outcome) (own : List Row) → ((fw : List (List ℕ)) → Every Quiet fw → (down : List (List ℕ)) (fate : Fate) → P (as_row item k o.sent fw down fate)) → P (row_of item k o own)
row-parts P item k o own each = by_case (loses parted_row)
  where
    parted_row : Row
    parted_row = queued (all_recorded (bare_row item k o) own) (bare_row item k o) own

    by_case : (b : Bool) → P (elim b as (λ _. Row) [ true ↦ record (queued (all_recorded (bare_row item k o) own) (bare_row item k o) own) { farewell = farewell (queued (all_recorded (bare_row item k o) own) (bare_row item k o) own) own } | false ↦ queued (all_recorded (bare_row item k o) own) (bare_row item k o) own ])
    by_case true = each (farewell (queued (all_recorded (bare_row item k o) own) (bare_row item k o) own) own) (quiet-farewell (queued (all_recorded (bare_row item k o) own) (bare_row item k o) own) own) _ _
    by_case false = each [] tt _ _

-- ---- moves of one channel

pub and-right : (a b : Bool) → (a && b) ≡ true → b ≡ true
and-right true b e = e
and-right false b e = cc

pub and-left : (a b : Bool) → (a && b) ≡ true → a ≡ true
and-left true b e = refl
and-left false b e = cc

up-ids : (own : Option ℕ) (m : Summary) → IsQuiet m → (x : Channel) → Ids x (with_up own m x)
up-ids own (Confirmation s n w m) quiet x = absurd quiet
up-ids own (Within s act) quiet x = by_case (is_number x.remote s && is_channel_held x) refl
  where
    by_case : (b : Bool) → (is_number x.remote s && is_channel_held x) ≡ b → Ids x (elim b as (λ _. Channel) [ true ↦ record x { acts = (Up, act) ∷ x.acts } | false ↦ x ])
    by_case true e = record { client = refl; number = refl; own = refl; remote = refl; held = λ h. and-right (is_number x.remote s) (is_channel_held x) e }
    by_case false e = ids-self x
up-ids own m quiet x = ids-self x

pub ups-ids : (own : Option ℕ) (ups : List (List ℕ)) → Every Quiet ups → (x : Channel) → Ids x (with_ups own ups x)
ups-ids own [] quiet x = ids-self x
ups-ids own (q ∷ ups) quiet x = ids-then x (reading q (λ m. with_up own m x) x) (with_ups own ups (reading q (λ m. with_up own m x) x)) (one (read_summary q) (λ m e. quiet.0 m e)) (ups-ids own ups quiet.1 (reading q (λ m. with_up own m x) x))
  where
    one : (r : Result Summary Bad) → ((m : Summary) → r ≡ Ok m → IsQuiet m) → Ids x (elim r as (λ _. Channel) [ Err e ↦ x | Ok m ↦ with_up own m x ])
    one (Err e) quiet = ids-self x
    one (Ok m) quiet = up-ids own m (quiet m refl) x

pub up-step : (k c s n w max : ℕ) (x : Channel) → x.client ≡ k → UpStep k c n s w max x (with_up (Some c) (Confirmation s n w max) x)
up-step k c s n w max x mine = by_case (is_number x.remote s && is_channel_held x) refl
  where
    by_case : (b : Bool) → (is_number x.remote s && is_channel_held x) ≡ b → UpStep k c n s w max x (elim b as (λ _. Channel) [ true ↦ brought_up c n w max x | false ↦ x ])
    by_case true e = inr (record { client = mine; held = and-right (is_number x.remote s) (is_channel_held x) e; remote = and-left (is_number x.remote s) (is_channel_held x) e; ids = ids-self (brought_up c n w max x) })
    by_case false e = inl (ids-self x)

pub down-ids : (m : Summary) → IsQuiet m → (x : Channel) → Ids x (with_down m x)
down-ids (Confirmation s n w m) quiet x = absurd quiet
down-ids (Within n act) quiet x = by_case (is_number x.number n && is_channel_held x) refl
  where
    by_case : (b : Bool) → (is_number x.number n && is_channel_held x) ≡ b → Ids x (elim b as (λ _. Channel) [ true ↦ record x { acts = (Down, act) ∷ x.acts } | false ↦ x ])
    by_case true e = record { client = refl; number = refl; own = refl; remote = refl; held = λ h. and-right (is_number x.number n) (is_channel_held x) e }
    by_case false e = ids-self x
down-ids m quiet x = ids-self x

pub down-step : (n s w max : ℕ) (x : Channel) → DownStep n s w max x (with_down (Confirmation n s w max) x)
down-step n s w max x = by_case (is_number x.number n && is_channel_held x) refl
  where
    by_case : (b : Bool) → (is_number x.number n && is_channel_held x) ≡ b → DownStep n s w max x (elim b as (λ _. Channel) [ true ↦ brought_down s w max x | false ↦ x ])
    by_case true e = inr (record { held = and-right (is_number x.number n) (is_channel_held x) e; number = and-left (is_number x.number n) (is_channel_held x) e; ids = ids-self (brought_down s w max x) })
    by_case false e = inl (ids-self x)

pub down-then : (n s w max : ℕ) (x y z : Channel) → DownStep n s w max x y → Ids y z → DownStep n s w max x z
down-then n s w max x y z (inl a) b = inl (ids-then x y z a b)
down-then n s w max x y z (inr a) b = inr (record { held = a.held; number = a.number; ids = ids-then (brought_down s w max x) y z a.ids b })
