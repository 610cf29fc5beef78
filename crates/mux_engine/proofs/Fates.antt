-- How what is sent, and the end of the server's stream, may end a run.
use Rattle.std.proofs.Common.{ℕ, Bool, true, false, ◌&&◌, List, [], ◌∷◌, length, map, Option, Some, None, Result, Ok, Err, refl, sym, subst}
use Rattle.std.specs.Prelude.{◌==◌, nat_lt, not}
use Rattle.ssh_grammar.specs.declared.fault.Bad.{Bad}
use Rattle.ssh_grammar.specs.declared.fault.BadControl.{BadControl}
use Rattle.ssh_grammar.specs.declared.fault.BadControl.TheVariants as bad
use Rattle.ssh_grammar.specs.declared.fault.Breach.{Breach}
use Rattle.ssh_grammar.specs.declared.numbers.TheConstants.{DISCONNECT, RESOURCE_SHORTAGE, VERSION}
use Rattle.ssh_grammar.specs.declared.side.Side.TheVariants.{Down, Up}
use Rattle.ssh_grammar.specs.Control.{Answer, Control, Hello, Terminate, OpenForward, CloseForward}
use Rattle.ssh_grammar.specs.Messages.{Global, Opens, Forward, Forwarded, Cancel, KeepAlive, OtherName}
use Rattle.ssh_grammar.specs.ReadControl.{read_control}
use Rattle.ssh_grammar.specs.Said.{Outgoing, Body, Payload, BadFraming}
use Rattle.ssh_grammar.specs.SpellMessage.{too_many_channels}
use Rattle.mux_outside.specs.declared.house.HouseReply.{HouseReply}
use Rattle.mux_history.specs.declared.broke.Break.{Break}
use Rattle.mux_history.specs.declared.broke.Break.TheVariants as broke
use Rattle.mux_history.specs.declared.why.Why.{Why}
use Rattle.mux_history.specs.declared.why.Why.TheVariants as why
use Rattle.mux_history.specs.declared.limits.TheConstants.{MAX_CHANNELS, MAX_GLOBAL_REQUESTS}
use Rattle.mux_history.specs.declared.ended.Ended.{Ended}
use Rattle.mux_history.specs.declared.ended.Ended.TheVariants as ended
use Rattle.mux_history.specs.Channels.{Channel, held_of, holder, live_in, with_own}
use Rattle.mux_history.specs.Choices.{FromLists, pick_of, replies_given, reply_at}
use Rattle.mux_history.specs.Controls.{answers_ask, answers_maybe, body_asks, first_control, first_unread, client_has_greeted, house_answer, later_control, later_unread, sent_body, sent_first, sent_later}
use Rattle.mux_history.specs.Forwardings.{Forwarding, live_at}
use Rattle.mux_history.specs.Summary.{Act, Confirmation, Fails, Summary, Open, Refuses, Requests, Succeeds, Transport, Within, read_summary}
use Rattle.mux_history.specs.Heard.{Breaks, Dest, Disconnects, ToClient, ToMaster, dest, dest_asker, dest_confirmation, dest_summary, dest_open, dest_success, dest_within, for_master, received_for, received_master, pending_open}
use Rattle.mux_history.specs.Keys.{learns_port}
use Rattle.mux_history.specs.Ledger.{breach}
use Rattle.mux_history.specs.Policy.{Policy, may_open}
use Rattle.mux_history.specs.Requests.{Ask, asker}
use Rattle.mux_history.specs.Rows.{Row, rows_of, loses, Item, Heard, Says, Fate, Goes, Refused, Drop, End}
use Rattle.mux_history.specs.Said.{Outcome, confirmed_at, drops, fails_open, is_failing, is_full_of_asks, on_breach, on_confirmed, on_unused, on_waiting, sent_summary, open_outcome, sent_payload, sent_request, sends_payload, sends_as, sends_if, sends_open, silent, waiting_at, reason_for, text_for}
use Rattle.mux_history.specs.Settings.{by_lists}
use Rattle.mux_history.specs.Solo.{run_end_of}
use Rattle.mux_history.specs.Journal.{received_item, sent_item, server_end}
use Rattle.mux_history.specs.Log.{all_recorded, bare_row, fate_with, received_row, makes_next, more_all, more_of, next_row, overflow, queued, row_of, sent_by_client, treat}
use Rattle.mux_history.specs.Pending.{waiting_down}
use Rattle.mux_history.specs.Farewell.{farewell}
use Rattle.mux_peers.proofs.Receivings.{heard-goes}
use Rattle.mux_engine.specs.Came.{EndsFor}

-- ---- a fate

-- where a row ends the run, it ends it so
abbrev pub EndsAs : (Option Ended → Type 0) → Fate → Type 0
EndsAs P (End cause) = P (Some cause)
EndsAs P fate = Unit {0}

-- a row doesn't end it
abbrev pub Lives : Fate → Type 0
Lives (End cause) = ⊥
Lives fate = Unit {0}

pub lives-as : (P : Option Ended → Type 0) (f : Fate) → Lives f → EndsAs P f
lives-as P (End cause) h = absurd h
lives-as P (Drop cause) h = tt
lives-as P Goes h = tt
lives-as P Refused h = tt

with-full : (P : Option Ended → Type 0) (f : Fate) (full : Option Why) → EndsAs P f → EndsAs P (fate_with f full)
with-full P (End cause) full h = h
with-full P (Drop cause) full h = tt
with-full P Goes None h = tt
with-full P Goes (Some cause) h = tt
with-full P Refused None h = tt
with-full P Refused (Some cause) h = tt

pub row-as : (P : Option Ended → Type 0) (item : Item) (k : ℕ) (o : Outcome) (own : List Row) → EndsAs P o.ends → EndsAs P (row_of item k o own).fate
row-as P item k o own h = by_loss (loses q) (with-full P o.ends (overflow (waiting_down own) (all_recorded (bare_row item k o) own)) h)
  where
    q : Row
    q = queued (all_recorded (bare_row item k o) own) (bare_row item k o) own

    by_loss : (b : Bool) → EndsAs P q.fate → EndsAs P (elim b as (λ _. Row) [ true ↦ record q { farewell = farewell q own } | false ↦ q ]).fate
    by_loss true h = h
    by_loss false h = h

-- ---- a payload of a client ends no run

abbrev pub Fine : Outcome → Type 0
Fine o = Lives o.ends

fine-open : (own : List Row) (pick : ℕ) (p : List ℕ) (sender : ℕ) → Fine (sends_open own pick p sender)
fine-open own pick p sender = by_room (nat_lt (length (held_of own)) MAX_CHANNELS)
  where
    by_room : (b : Bool) → Fine (elim b as (λ _. Outcome) [ true ↦ sends_as pick p | false ↦ fails_open sender RESOURCE_SHORTAGE too_many_channels ])
    by_room true = tt
    by_room false = tt

fine-kind : (policy : Policy) (own : List Row) (pick : ℕ) (p : List ℕ) (sender : ℕ) (what : Opens) → Fine (open_outcome policy own pick p sender what)
fine-kind policy own pick p sender what = by_permit (may_open policy what)
  where
    by_permit : (b : Bool) → Fine (elim b as (λ _. Outcome) [ true ↦ sends_open own pick p sender | false ↦ fails_open sender (reason_for what) (text_for what) ])
    by_permit true = fine-open own pick p sender
    by_permit false = tt

fine-unused : (c : ℕ) (o : Outcome) (x : Option Channel) → Fine o → Fine (on_unused c o x)
fine-unused c o None q = q
fine-unused c o (Some x) q = tt

fine-waiting : (s : ℕ) (o : Outcome) (x : Option Channel) → Fine o → Fine (on_waiting s o x)
fine-waiting s o None q = tt
fine-waiting s o (Some x) q = q

fine-breach : (p : List ℕ) (s : ℕ) (b : Option Breach) → Fine (on_breach p s b)
fine-breach p s None = tt
fine-breach p s (Some b) = tt

fine-confirmed : (p : List ℕ) (s : ℕ) (act : Act) (x : Option Channel) → Fine (on_confirmed p s act x)
fine-confirmed p s act None = tt
fine-confirmed p s act (Some x) = fine-breach p s (breach Up act x)

fine-within : (own : List Row) (p : List ℕ) (s : ℕ) (act : Act) (b : Bool) → Fine (elim b as (λ _. Outcome) [ true ↦ on_waiting s (sends_payload p) (waiting_at own s) | false ↦ on_confirmed p s act (confirmed_at own s) ])
fine-within own p s act true = fine-waiting s (sends_payload p) (waiting_at own s) tt
fine-within own p s act false = fine-confirmed p s act (confirmed_at own s)

fine-if : (b : Bool) (p : List ℕ) → Fine (sends_if b p)
fine-if true p = tt
fine-if false p = tt

fine-request : (policy : Policy) (k : ℕ) (own : List Row) (p : List ℕ) (what : Global) (wants : Bool) → Fine (sent_request policy k own p what wants)
fine-request policy k own p KeepAlive wants = tt
fine-request policy k own p OtherName wants = tt
fine-request policy k own p (Forward key) wants = fine-if _ p
fine-request policy k own p (Cancel key) wants = fine-if _ p

fine-asks : (policy : Policy) (k : ℕ) (own : List Row) (p : List ℕ) (what : Global) (wants b : Bool) → Fine (elim b as (λ _. Outcome) [ true ↦ drops (why.TooManyAsks MAX_GLOBAL_REQUESTS) | false ↦ sent_request policy k own p what wants ])
fine-asks policy k own p what wants true = tt
fine-asks policy k own p what wants false = fine-request policy k own p what wants

fine-transport : (b : Bool) → Fine (elim b as (λ _. Outcome) [ true ↦ drops why.Disconnected | false ↦ silent ])
fine-transport true = tt
fine-transport false = tt

fine-summary : (policy : Policy) (k : ℕ) (own : List Row) (pick : ℕ) (p : List ℕ) (m : Summary) → Fine (sent_summary policy k own pick p m)
fine-summary policy k own pick p (Open what sender w x) = fine-unused sender (open_outcome policy own pick p sender what) (with_own own sender) (fine-kind policy own pick p sender what)
fine-summary policy k own pick p (Confirmation s sender w x) = fine-waiting s (on_unused sender (sends_as pick p) (with_own own sender)) (waiting_at own s) (fine-unused sender (sends_as pick p) (with_own own sender) tt)
fine-summary policy k own pick p (Transport number) = fine-transport (number == DISCONNECT)
fine-summary policy k own pick p (Requests what wants) = fine-asks policy k own p what wants (is_full_of_asks wants own)
fine-summary policy k own pick p (Succeeds rest) = tt
fine-summary policy k own pick p Refuses = tt
fine-summary policy k own pick p (Within r a) = fine-within own p r a (is_failing a)

pub fine-payload : (policy : Policy) (k : ℕ) (own : List Row) (pick : ℕ) (p : List ℕ) → Fine (sent_payload policy k own pick p)
fine-payload policy k own pick p = by_read (read_summary p)
  where
    by_read : (r : Result Summary Bad) → Fine (elim r as (λ _. Outcome) [ Err bad ↦ drops (why.BadMessage bad) | Ok m ↦ sent_summary policy k own pick p m ])
    by_read (Err bad) = tt
    by_read (Ok m) = fine-summary policy k own pick p m

-- ---- and a control message ends it for its client alone

abbrev For : ℕ → Outcome → Type 0
For k o = EndsAs (EndsFor k) o.ends

first-for : (k : ℕ) (c : Control) → For k (first_control c)
first-for k (Hello version extensions) = by_version (version == VERSION)
  where
    by_version : (b : Bool) → For k (elim b as (λ _. Outcome) [ true ↦ silent | false ↦ drops (why.Version version) ])
    by_version true = tt
    by_version false = tt
first-for k c = tt

unread-for : (k : ℕ) (fault : BadControl) → For k (first_unread fault)
unread-for k (bad.Unknown kind id) = tt
unread-for k fault = tt

maybe-for : (k : ℕ) (o : Option Answer) → For k (answers_maybe o)
maybe-for k None = tt
maybe-for k (Some answer) = tt

ask-for : (k : ℕ) (opening : Bool) (id : ℕ) (given : Option HouseReply) → For k (answers_ask opening id given)
ask-for k opening id None = tt
ask-for k opening id (Some reply) = maybe-for k (house_answer opening id reply)

later-for : (pid k : ℕ) (given : Option HouseReply) (c : Control) → For k (later_control pid k given c)
later-for pid k given (Terminate id) = refl
later-for pid k given (OpenForward id what) = ask-for k true id given
later-for pid k given (CloseForward id what) = ask-for k false id given
later-for pid k given c = tt

unknown-for : (k : ℕ) (fault : BadControl) → For k (later_unread fault)
unknown-for k (bad.Unknown kind (Some id)) = tt
unknown-for k (bad.Unknown kind None) = tt
unknown-for k fault = tt

body-for : (pid k : ℕ) (given : Option HouseReply) (has_greeted : Bool) (body : List ℕ) → For k (sent_body pid k given has_greeted body)
body-for pid k given has_greeted body = by_read (read_control body) has_greeted
  where
    by_read : (r : Result Control BadControl) (b : Bool) → For k (elim b as (λ _. Outcome) [ true ↦ sent_later pid k given r | false ↦ sent_first r ])
    by_read (Ok c) true = later-for pid k given c
    by_read (Err fault) true = unknown-for k fault
    by_read (Ok c) false = first-for k c
    by_read (Err fault) false = unread-for k fault

outgoing-for : (policy : Policy) (pid k : ℕ) (own : List Row) (pick : ℕ) (x : Outgoing) (given : Option HouseReply) → For k (sent_by_client policy pid k own pick x given)
outgoing-for policy pid k own pick (Body body) given = body-for pid k given (client_has_greeted own) body
outgoing-for policy pid k own pick (Payload p) given = lives-as (EndsFor k) (sent_payload policy k own pick p).ends (fine-payload policy k own pick p)
outgoing-for policy pid k own pick (BadFraming fault) given = tt

-- what a client sends ends it so, whatever it sent before
abbrev pub SendsAs : (Option Ended → Type 0) → Policy → ℕ → ℕ → Outgoing → Type 0
SendsAs P policy pid k x = (own : List Row) (pick : ℕ) (reply : Option HouseReply) → EndsAs P (sent_by_client policy pid k own pick x reply).ends

-- a row of what a client sends ends as that does
pub said-as : (P : Option Ended → Type 0) (policy : Policy) (pid : ℕ) (picks : List ℕ) (given : List HouseReply) (k : ℕ) (x : Outgoing) → SendsAs P policy pid k x → (rows : List Row) → EndsAs P (next_row (by_lists policy pid picks given) rows (sent_item k x)).fate
said-as P policy pid picks given k x ends rows = by_outgoing x ends
  where
    pick : Outgoing → ℕ
    pick x = pick_of (FromLists picks given) rows (Says k x None)

    plain : (x : Outgoing) → SendsAs P policy pid k x → (n : ℕ) (reply : Option HouseReply) → EndsAs P (treat policy pid n rows (Says k x reply)).fate
    plain x ends n reply = row-as P (Says k x reply) k (sent_by_client policy pid k (rows_of k rows) n x reply) (rows_of k rows) (ends (rows_of k rows) n reply)

    by_ask : (body : List ℕ) → SendsAs P policy pid k (Body body) → (b : Bool) → EndsAs P (treat policy pid (pick (Body body)) rows (elim b as (λ _. Item) [ true ↦ Says k (Body body) (Some (reply_at given (replies_given rows))) | false ↦ Says k (Body body) None ])).fate
    by_ask body ends true = plain (Body body) ends (pick (Body body)) (Some (reply_at given (replies_given rows)))
    by_ask body ends false = plain (Body body) ends (pick (Body body)) None

    by_outgoing : (x : Outgoing) → SendsAs P policy pid k x → EndsAs P (next_row (by_lists policy pid picks given) rows (sent_item k x)).fate
    by_outgoing (Payload p) ends = plain (Payload p) ends (pick (Payload p)) None
    by_outgoing (BadFraming fault) ends = plain (BadFraming fault) ends (pick (BadFraming fault)) None
    by_outgoing (Body body) ends = by_ask body ends (client_has_greeted (rows_of k rows) && body_asks body)

pub said-for : (policy : Policy) (pid : ℕ) (picks : List ℕ) (given : List HouseReply) (k : ℕ) (x : Outgoing) (rows : List Row) → EndsAs (EndsFor k) (next_row (by_lists policy pid picks given) rows (sent_item k x)).fate
said-for policy pid picks given k x rows = said-as (EndsFor k) policy pid picks given k x (λ own pick reply. outgoing-for policy pid k own pick x reply) rows

-- ---- what the server sends

-- a break that no end of the stream makes
abbrev pub Uncut : Break → Type 0
Uncut (broke.Cut have) = ⊥
Uncut cause = Unit {0}

-- a run goes on, or a piece of the server ended it
abbrev pub EndsReceived : Option Ended → Type 0
EndsReceived None = Unit {0}
EndsReceived (Some ended.Disconnected) = Unit {0}
EndsReceived (Some (ended.Broke index cause)) = Uncut cause
EndsReceived (Some cause) = ⊥

-- a payload goes somewhere, or breaks the protocol as a piece does
abbrev Whole : Dest → Type 0
Whole (Breaks cause) = Uncut cause
Whole d = Unit {0}

whole-asker : (o : Option Ask) (f : Ask → Dest) → ((a : Ask) → Whole (f a)) → Whole (dest_asker o f)
whole-asker None f h = tt
whole-asker (Some a) f h = h a

whole-success : (rest : List ℕ) (a : Ask) → Whole (dest_success rest a)
whole-success rest a = by_what a.what
  where
    by_bad : (b : Bool) → Whole (elim b as (λ _. Dest) [ true ↦ Breaks (broke.BadReply (length rest)) | false ↦ ToClient a.client ])
    by_bad true = tt
    by_bad false = tt

    by_what : (g : Global) → Whole (elim g as (λ _. Dest) [ Forward key ↦ elim (learns_port key && not (length rest == 4)) as (λ _. Dest) [ true ↦ Breaks (broke.BadReply (length rest)) | false ↦ ToClient a.client ] | _ ↦ ToClient a.client ])
    by_what (Forward key) = by_bad (learns_port key && not (length rest == 4))
    by_what (Cancel key) = tt
    by_what KeepAlive = tt
    by_what OtherName = tt

whole-open : (rows : List Row) (s : ℕ) (what : Opens) → Whole (dest_open rows s what)
whole-open rows s (Forwarded key) = by_live (live_in rows s)
  where
    by_at : (o : Option Forwarding) → Whole (elim o as (λ _. Dest) [ Some f ↦ ToClient f.client | None ↦ ToMaster ])
    by_at None = tt
    by_at (Some f) = tt

    by_live : (o : Option Channel) → Whole (elim o as (λ _. Dest) [ Some x ↦ Breaks (broke.NumberInUse s) | None ↦ elim (live_at rows key) as (λ _. Dest) [ Some f ↦ ToClient f.client | None ↦ ToMaster ] ])
    by_live None = by_at (live_at rows key)
    by_live (Some x) = tt
whole-open rows s what = by_live (live_in rows s)
  where
    by_live : (o : Option Channel) → Whole (elim o as (λ _. Dest) [ Some x ↦ Breaks (broke.NumberInUse s) | None ↦ ToMaster ])
    by_live None = tt
    by_live (Some x) = tt

whole-pending : (rows : List Row) (n : ℕ) (d : Channel → Dest) → ((x : Channel) → Whole (d x)) → Whole (elim (pending_open rows n) as (λ _. Dest) [ None ↦ Breaks (broke.NotPending n) | Some x ↦ d x ])
whole-pending rows n d h = by_pending (pending_open rows n)
  where
    by_pending : (o : Option Channel) → Whole (elim o as (λ _. Dest) [ None ↦ Breaks (broke.NotPending n) | Some x ↦ d x ])
    by_pending None = tt
    by_pending (Some x) = h x

whole-confirmation : (rows : List Row) (n s : ℕ) → Whole (dest_confirmation rows n s)
whole-confirmation rows n s = whole-pending rows n (λ x. elim (live_in rows s) as (λ _. Dest) [ Some y ↦ Breaks (broke.NumberInUse s) | None ↦ ToClient x.client ]) (λ x. by_live x (live_in rows s))
  where
    by_live : (x : Channel) (o : Option Channel) → Whole (elim o as (λ _. Dest) [ Some y ↦ Breaks (broke.NumberInUse s) | None ↦ ToClient x.client ])
    by_live x None = tt
    by_live x (Some y) = tt

whole-held : (rows : List Row) (n : ℕ) (act : Act) → Whole (elim (holder rows n) as (λ _. Dest) [ None ↦ Breaks (broke.NoChannel n) | Some x ↦ elim (breach Down act x) as (λ _. Dest) [ Some b ↦ Breaks (broke.Channel n b) | None ↦ ToClient x.client ] ])
whole-held rows n act = by_holder (holder rows n)
  where
    by_breach : (x : Channel) (o : Option Breach) → Whole (elim o as (λ _. Dest) [ Some b ↦ Breaks (broke.Channel n b) | None ↦ ToClient x.client ])
    by_breach x None = tt
    by_breach x (Some b) = tt

    by_holder : (o : Option Channel) → Whole (elim o as (λ _. Dest) [ None ↦ Breaks (broke.NoChannel n) | Some x ↦ elim (breach Down act x) as (λ _. Dest) [ Some b ↦ Breaks (broke.Channel n b) | None ↦ ToClient x.client ] ])
    by_holder None = tt
    by_holder (Some x) = by_breach x (breach Down act x)

whole-within : (rows : List Row) (n : ℕ) (act : Act) → Whole (dest_within rows n act)
whole-within rows n Fails = whole-pending rows n (λ x. ToClient x.client) (λ x. tt)
whole-within rows n act = whole-held rows n act

whole-transport : (b : Bool) → Whole (elim b as (λ _. Dest) [ true ↦ Disconnects | false ↦ ToMaster ])
whole-transport true = tt
whole-transport false = tt

whole-summary : (rows : List Row) (m : Summary) → Whole (dest_summary rows m)
whole-summary rows (Transport number) = whole-transport (number == DISCONNECT)
whole-summary rows (Requests what wants) = tt
whole-summary rows (Succeeds rest) = whole-asker (asker rows) (dest_success rest) (whole-success rest)
whole-summary rows Refuses = whole-asker (asker rows) (λ a. ToClient a.client) (λ a. tt)
whole-summary rows (Open what s w max) = whole-open rows s what
whole-summary rows (Confirmation n s w max) = whole-confirmation rows n s
whole-summary rows (Within n act) = whole-within rows n act

whole-dest : (rows : List Row) (p : List ℕ) → Whole (dest rows p)
whole-dest rows p = by_read (read_summary p)
  where
    by_read : (r : Result Summary Bad) → Whole (elim r as (λ _. Dest) [ Err bad ↦ Breaks (broke.Message bad) | Ok m ↦ dest_summary rows m ])
    by_read (Err bad) = tt
    by_read (Ok m) = whole-summary rows m

fine-master : (p : List ℕ) → Fine (received_master p)
fine-master p = by_read (read_summary p)
  where
    by_request : (b : Bool) (what : Global) → Fine (for_master (Requests what b))
    by_request true what = tt
    by_request false what = tt

    by_message : (m : Summary) → Fine (for_master m)
    by_message (Requests what wants) = by_request wants what
    by_message (Open what s w max) = tt
    by_message (Transport number) = tt
    by_message (Succeeds rest) = tt
    by_message Refuses = tt
    by_message (Confirmation n s w max) = tt
    by_message (Within n act) = tt

    by_read : (r : Result Summary Bad) → Fine (elim r as (λ _. Outcome) [ Err bad ↦ silent | Ok m ↦ for_master m ])
    by_read (Err bad) = tt
    by_read (Ok m) = by_message m

payload-heard : (rows : List Row) (p : List ℕ) (d : Dest) → Whole d → EndsAs EndsReceived (received_row rows p d).fate
payload-heard rows p ToMaster h = lives-as EndsReceived (received_master p).ends (fine-master p)
payload-heard rows p (ToClient k) h = row-as EndsReceived (Heard p) k (received_for (rows_of k rows) p) (rows_of k rows) (subst (EndsAs EndsReceived) (sym (heard-goes (rows_of k rows) p)) tt)
payload-heard rows p Disconnects h = tt
payload-heard rows p (Breaks cause) h = h

pub heard-ends : (policy : Policy) (pid : ℕ) (picks : List ℕ) (given : List HouseReply) (x : Outgoing) (rows : List Row) → EndsAs EndsReceived (next_row (by_lists policy pid picks given) rows (received_item x)).fate
heard-ends policy pid picks given (Body p) rows = payload-heard rows p (dest rows p) (whole-dest rows p)
heard-ends policy pid picks given (Payload p) rows = payload-heard rows p (dest rows p) (whole-dest rows p)
heard-ends policy pid picks given (BadFraming fault) rows = tt

-- ---- the end of its stream

-- a run goes on, or the end of the server's stream ended it
abbrev pub EndsCut : Option Ended → Type 0
EndsCut None = Unit {0}
EndsCut (Some ended.ServerEnd) = Unit {0}
EndsCut (Some (ended.Broke index (broke.Cut have))) = Unit {0}
EndsCut (Some cause) = ⊥

cut-ends : (policy : Policy) (pid : ℕ) (picks : List ℕ) (given : List HouseReply) (rest : List ℕ) (rows : List Row) → EndsAs EndsCut (next_row (by_lists policy pid picks given) rows (server_end rest)).fate
cut-ends policy pid picks given [] rows = tt
cut-ends policy pid picks given (b ∷ rest) rows = tt

-- ---- all rows

abbrev fate_end : Option Ended → Fate → Option Ended
fate_end before fate = elim fate as (λ _. Option Ended) [ End cause ↦ Some cause | Goes ↦ before | Refused ↦ before | Drop why ↦ before ]

module _ (P : Option Ended → Type 0) (policy : Policy) (pid : ℕ) (picks : List ℕ) (given : List HouseReply) where
  fate-ends : (before : Option Ended) (f : Fate) → EndsAs P f → P before → P (fate_end before f)
  fate-ends before (End cause) h n = h
  fate-ends before Goes h n = n
  fate-ends before Refused h n = n
  fate-ends before (Drop cause) h n = n

  pub one-ends : (item : Item) (rows : List Row) → EndsAs P (next_row (by_lists policy pid picks given) rows item).fate → P (run_end_of rows) → P (run_end_of (more_of (by_lists policy pid picks given) rows item))
  one-ends item rows h n = by_makes (makes_next rows item)
    where
      row : Row
      row = next_row (by_lists policy pid picks given) rows item

      by_makes : (b : Bool) → P (run_end_of (elim b as (λ _. List Row) [ false ↦ rows | true ↦ row ∷ rows ]))
      by_makes true = fate-ends (run_end_of rows) row.fate h n
      by_makes false = n

pub says-for : (policy : Policy) (pid : ℕ) (picks : List ℕ) (given : List HouseReply) (k : ℕ) (xs : List Outgoing) (rows : List Row) → EndsFor k (run_end_of rows) → EndsFor k (run_end_of (more_all (by_lists policy pid picks given) rows (map (sent_item k) xs)))
says-for policy pid picks given k [] rows n = n
says-for policy pid picks given k (x ∷ xs) rows n = says-for policy pid picks given k xs (more_of (by_lists policy pid picks given) rows (sent_item k x)) (one-ends (EndsFor k) policy pid picks given (sent_item k x) rows (said-for policy pid picks given k x rows) n)

pub receives-ends : (policy : Policy) (pid : ℕ) (picks : List ℕ) (given : List HouseReply) (xs : List Outgoing) (rows : List Row) → EndsReceived (run_end_of rows) → EndsReceived (run_end_of (more_all (by_lists policy pid picks given) rows (map received_item xs)))
receives-ends policy pid picks given [] rows n = n
receives-ends policy pid picks given (x ∷ xs) rows n = receives-ends policy pid picks given xs (more_of (by_lists policy pid picks given) rows (received_item x)) (one-ends EndsReceived policy pid picks given (received_item x) rows (heard-ends policy pid picks given x rows) n)

pub end-cuts : (policy : Policy) (pid : ℕ) (picks : List ℕ) (given : List HouseReply) (rest : List ℕ) (rows : List Row) → EndsCut (run_end_of rows) → EndsCut (run_end_of (more_all (by_lists policy pid picks given) rows (server_end rest ∷ [])))
end-cuts policy pid picks given rest rows n = one-ends EndsCut policy pid picks given (server_end rest) rows (cut-ends policy pid picks given rest rows) n
