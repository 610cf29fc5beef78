-- What a client or the server sends never ends the run as a failure of the server's stream, nor as
-- one whose turns are spent.
use Rattle.std.proofs.Common.{◌≡◌, ◌≢◌, ℕ, Bool, true, false, ◌&&◌, List, [], ◌∷◌, length, map, Option, Some, None, Result, Ok, Err, sym, subst}
use Rattle.std.specs.Prelude.{◌==◌, nat_lt}
use Rattle.ssh_grammar.specs.declared.fault.Bad.{Bad}
use Rattle.ssh_grammar.specs.declared.fault.BadControl.{BadControl}
use Rattle.ssh_grammar.specs.declared.fault.BadControl.TheVariants as bad
use Rattle.ssh_grammar.specs.declared.fault.Breach.{Breach}
use Rattle.ssh_grammar.specs.declared.numbers.TheConstants.{DISCONNECT, VERSION}
use Rattle.ssh_grammar.specs.declared.side.Side.TheVariants.{Up}
use Rattle.ssh_grammar.specs.Control.{Control, Hello, Terminate, OpenForward, CloseForward}
use Rattle.ssh_grammar.specs.Messages.{Global, Opens, Forward, Cancel, KeepAlive, OtherName}
use Rattle.ssh_grammar.specs.ReadControl.{read_control}
use Rattle.ssh_grammar.specs.Said.{Outgoing, Body, Payload, BadFraming}
use Rattle.mux_outside.specs.declared.house.HouseReply.{HouseReply}
use Rattle.mux_history.specs.declared.why.Why.{Why}
use Rattle.mux_history.specs.declared.why.Why.TheVariants as why
use Rattle.mux_history.specs.declared.limits.TheConstants.{MAX_CHANNELS, MAX_GLOBAL_REQUESTS}
use Rattle.mux_history.specs.declared.ended.Ended.{Ended}
use Rattle.mux_history.specs.declared.ended.Ended.TheVariants as ended
use Rattle.mux_history.specs.Channels.{Channel, held_of, with_own}
use Rattle.mux_history.specs.Choices.{FromLists, pick_of, replies_given, reply_at}
use Rattle.mux_history.specs.Controls.{body_asks, first_control, first_unread, client_has_greeted, later_control, later_unread, sent_body, sent_first, sent_later}
use Rattle.mux_history.specs.Summary.{Act, Confirmation, Summary, Open, Refuses, Requests, Succeeds, Transport, Within, read_summary}
use Rattle.mux_history.specs.Heard.{Breaks, Dest, Disconnects, ToClient, ToMaster, dest, for_master, received_for, received_master}
use Rattle.mux_history.specs.Ledger.{breach}
use Rattle.mux_history.specs.Policy.{Policy, may_open}
use Rattle.mux_history.specs.Rows.{Row, rows_of, loses, Item, Heard, Says, Fate, Goes, Refused, Drop, End}
use Rattle.mux_history.specs.Said.{Outcome, confirmed_at, drops, fails_open, is_failing, is_full_of_asks, on_breach, on_confirmed, on_unused, on_waiting, sent_summary, open_outcome, sent_payload, sent_request, sends_payload, sends_as, sends_if, sends_open, silent, waiting_at, reason_for, text_for}
use Rattle.mux_history.specs.Settings.{by_lists}
use Rattle.mux_history.specs.Solo.{run_end_of}
use Rattle.mux_history.specs.Journal.{received_item, sent_item}
use Rattle.mux_history.specs.Log.{all_recorded, bare_row, fate_with, received_row, makes_next, more_all, more_of, next_row, overflow, queued, row_of, sent_by_client, treat}
use Rattle.mux_history.specs.Pending.{waiting_down}
use Rattle.mux_history.specs.Farewell.{farewell}
use Rattle.mux_peers.proofs.Receivings.{heard-goes}

-- ---- a row

abbrev pub IsUnfailed : Fate → Type 0
IsUnfailed (End cause) = (cause ≢ ended.ServerFailed) × (cause ≢ ended.Spent) × ((index : ℕ) → cause ≢ ended.StartRefused index)
IsUnfailed fate = Unit {0}

with-full : (f : Fate) (full : Option Why) → IsUnfailed f → IsUnfailed (fate_with f full)
with-full (End cause) full h = h
with-full (Drop cause) full h = tt
with-full Goes None h = tt
with-full Goes (Some cause) h = tt
with-full Refused None h = tt
with-full Refused (Some cause) h = tt

row-unfailed : (item : Item) (k : ℕ) (o : Outcome) (own : List Row) → IsUnfailed o.ends → IsUnfailed (row_of item k o own).fate
row-unfailed item k o own h = by_loss (loses q) (with-full o.ends (overflow (waiting_down own) (all_recorded (bare_row item k o) own)) h)
  where
    q : Row
    q = queued (all_recorded (bare_row item k o) own) (bare_row item k o) own

    by_loss : (b : Bool) → IsUnfailed q.fate → IsUnfailed (elim b as (λ _. Row) [ true ↦ record q { farewell = farewell q own } | false ↦ q ]).fate
    by_loss true h = h
    by_loss false h = h

-- ---- a payload of a client

abbrev IsFine : Outcome → Type 0
IsFine o = IsUnfailed o.ends

fine-open : (own : List Row) (pick : ℕ) (p : List ℕ) (sender : ℕ) → IsFine (sends_open own pick p sender)
fine-open own pick p sender = by_room (nat_lt (length (held_of own)) MAX_CHANNELS)
  where
    by_room : (b : Bool) → IsFine (elim b as (λ _. Outcome) [ true ↦ sends_as pick p | false ↦ fails_open sender Rattle.ssh_grammar.specs.declared.numbers.TheConstants.RESOURCE_SHORTAGE Rattle.ssh_grammar.specs.SpellMessage.too_many_channels ])
    by_room true = tt
    by_room false = tt

fine-kind : (policy : Policy) (own : List Row) (pick : ℕ) (p : List ℕ) (sender : ℕ) (what : Opens) → IsFine (open_outcome policy own pick p sender what)
fine-kind policy own pick p sender what = by_permit (may_open policy what)
  where
    by_permit : (b : Bool) → IsFine (elim b as (λ _. Outcome) [ true ↦ sends_open own pick p sender | false ↦ fails_open sender (reason_for what) (text_for what) ])
    by_permit true = fine-open own pick p sender
    by_permit false = tt

fine-unused : (c : ℕ) (o : Outcome) (x : Option Channel) → IsFine o → IsFine (on_unused c o x)
fine-unused c o None q = q
fine-unused c o (Some x) q = tt

fine-waiting : (s : ℕ) (o : Outcome) (x : Option Channel) → IsFine o → IsFine (on_waiting s o x)
fine-waiting s o None q = tt
fine-waiting s o (Some x) q = q

fine-breach : (p : List ℕ) (s : ℕ) (b : Option Breach) → IsFine (on_breach p s b)
fine-breach p s None = tt
fine-breach p s (Some b) = tt

fine-confirmed : (p : List ℕ) (s : ℕ) (act : Act) (x : Option Channel) → IsFine (on_confirmed p s act x)
fine-confirmed p s act None = tt
fine-confirmed p s act (Some x) = fine-breach p s (breach Up act x)

fine-within : (own : List Row) (p : List ℕ) (s : ℕ) (act : Act) (b : Bool) → IsFine (elim b as (λ _. Outcome) [ true ↦ on_waiting s (sends_payload p) (waiting_at own s) | false ↦ on_confirmed p s act (confirmed_at own s) ])
fine-within own p s act true = fine-waiting s (sends_payload p) (waiting_at own s) tt
fine-within own p s act false = fine-confirmed p s act (confirmed_at own s)

fine-if : (b : Bool) (p : List ℕ) → IsFine (sends_if b p)
fine-if true p = tt
fine-if false p = tt

fine-request : (policy : Policy) (k : ℕ) (own : List Row) (p : List ℕ) (what : Global) (wants : Bool) → IsFine (sent_request policy k own p what wants)
fine-request policy k own p KeepAlive wants = tt
fine-request policy k own p OtherName wants = tt
fine-request policy k own p (Forward key) wants = fine-if _ p
fine-request policy k own p (Cancel key) wants = fine-if _ p

fine-asks : (policy : Policy) (k : ℕ) (own : List Row) (p : List ℕ) (what : Global) (wants b : Bool) → IsFine (elim b as (λ _. Outcome) [ true ↦ drops (why.TooManyAsks MAX_GLOBAL_REQUESTS) | false ↦ sent_request policy k own p what wants ])
fine-asks policy k own p what wants true = tt
fine-asks policy k own p what wants false = fine-request policy k own p what wants

fine-transport : (b : Bool) → IsFine (elim b as (λ _. Outcome) [ true ↦ drops why.Disconnected | false ↦ silent ])
fine-transport true = tt
fine-transport false = tt

fine-summary : (policy : Policy) (k : ℕ) (own : List Row) (pick : ℕ) (p : List ℕ) (m : Summary) → IsFine (sent_summary policy k own pick p m)
fine-summary policy k own pick p (Open what sender w x) = fine-unused sender (open_outcome policy own pick p sender what) (with_own own sender) (fine-kind policy own pick p sender what)
fine-summary policy k own pick p (Confirmation s sender w x) = fine-waiting s (on_unused sender (sends_as pick p) (with_own own sender)) (waiting_at own s) (fine-unused sender (sends_as pick p) (with_own own sender) tt)
fine-summary policy k own pick p (Transport number) = fine-transport (number == DISCONNECT)
fine-summary policy k own pick p (Requests what wants) = fine-asks policy k own p what wants (is_full_of_asks wants own)
fine-summary policy k own pick p (Succeeds rest) = tt
fine-summary policy k own pick p Refuses = tt
fine-summary policy k own pick p (Within r a) = fine-within own p r a (is_failing a)

fine-payload : (policy : Policy) (k : ℕ) (own : List Row) (pick : ℕ) (p : List ℕ) → IsFine (sent_payload policy k own pick p)
fine-payload policy k own pick p = by_read (read_summary p)
  where
    by_read : (r : Result Summary Bad) → IsFine (elim r as (λ _. Outcome) [ Err bad ↦ drops (why.BadMessage bad) | Ok m ↦ sent_summary policy k own pick p m ])
    by_read (Err bad) = tt
    by_read (Ok m) = fine-summary policy k own pick p m

-- ---- a control message

fine-first : (c : Control) → IsFine (first_control c)
fine-first (Hello version extensions) = by_version (version == VERSION)
  where
    by_version : (b : Bool) → IsFine (elim b as (λ _. Outcome) [ true ↦ silent | false ↦ drops (why.Version version) ])
    by_version true = tt
    by_version false = tt
fine-first c = tt

fine-unread : (fault : BadControl) → IsFine (first_unread fault)
fine-unread (bad.Unknown kind id) = tt
fine-unread fault = tt

fine-maybe : (o : Option Rattle.ssh_grammar.specs.Control.Answer) → IsFine (Rattle.mux_history.specs.Controls.answers_maybe o)
fine-maybe None = tt
fine-maybe (Some answer) = tt

fine-ask : (opening : Bool) (id : ℕ) (given : Option HouseReply) → IsFine (Rattle.mux_history.specs.Controls.answers_ask opening id given)
fine-ask opening id None = tt
fine-ask opening id (Some reply) = fine-maybe (Rattle.mux_history.specs.Controls.house_answer opening id reply)

fine-later : (pid k : ℕ) (given : Option HouseReply) (c : Control) → IsFine (later_control pid k given c)
fine-later pid k given (Terminate id) = (λ e. cc, λ e. cc, λ index e. cc)
fine-later pid k given (OpenForward id what) = fine-ask true id given
fine-later pid k given (CloseForward id what) = fine-ask false id given
fine-later pid k given c = tt

fine-unknown : (fault : BadControl) → IsFine (later_unread fault)
fine-unknown (bad.Unknown kind (Some id)) = tt
fine-unknown (bad.Unknown kind None) = tt
fine-unknown fault = tt

fine-body : (pid k : ℕ) (given : Option HouseReply) (has_greeted : Bool) (body : List ℕ) → IsFine (sent_body pid k given has_greeted body)
fine-body pid k given has_greeted body = by_read (read_control body) has_greeted
  where
    by_read : (r : Result Control BadControl) (b : Bool) → IsFine (elim b as (λ _. Outcome) [ true ↦ sent_later pid k given r | false ↦ sent_first r ])
    by_read (Ok c) true = fine-later pid k given c
    by_read (Err fault) true = fine-unknown fault
    by_read (Ok c) false = fine-first c
    by_read (Err fault) false = fine-unread fault

-- ---- what is sent

fine-outgoing : (policy : Policy) (pid k : ℕ) (own : List Row) (pick : ℕ) (x : Outgoing) (given : Option HouseReply) → IsFine (sent_by_client policy pid k own pick x given)
fine-outgoing policy pid k own pick (Body body) given = fine-body pid k given (client_has_greeted own) body
fine-outgoing policy pid k own pick (Payload p) given = fine-payload policy k own pick p
fine-outgoing policy pid k own pick (BadFraming fault) given = tt

said-unfailed : (policy : Policy) (pid : ℕ) (picks : List ℕ) (given : List HouseReply) (k : ℕ) (x : Outgoing) (rows : List Row) → IsUnfailed (next_row (by_lists policy pid picks given) rows (sent_item k x)).fate
said-unfailed policy pid picks given k (Payload p) rows = row-unfailed (Says k (Payload p) None) k (sent_by_client policy pid k (rows_of k rows) (pick_of (FromLists picks given) rows (Says k (Payload p) None)) (Payload p) None) (rows_of k rows) (fine-outgoing policy pid k (rows_of k rows) (pick_of (FromLists picks given) rows (Says k (Payload p) None)) (Payload p) None)
said-unfailed policy pid picks given k (BadFraming fault) rows = row-unfailed (Says k (BadFraming fault) None) k (sent_by_client policy pid k (rows_of k rows) (pick_of (FromLists picks given) rows (Says k (BadFraming fault) None)) (BadFraming fault) None) (rows_of k rows) (fine-outgoing policy pid k (rows_of k rows) (pick_of (FromLists picks given) rows (Says k (BadFraming fault) None)) (BadFraming fault) None)
said-unfailed policy pid picks given k (Body body) rows = by_ask (client_has_greeted (rows_of k rows) && body_asks body)
  where
    pick : ℕ
    pick = pick_of (FromLists picks given) rows (Says k (Body body) None)

    by_ask : (b : Bool) → IsUnfailed (treat policy pid pick rows (elim b as (λ _. Item) [ true ↦ Says k (Body body) (Some (reply_at given (replies_given rows))) | false ↦ Says k (Body body) None ])).fate
    by_ask true = row-unfailed (Says k (Body body) (Some (reply_at given (replies_given rows)))) k (sent_by_client policy pid k (rows_of k rows) pick (Body body) (Some (reply_at given (replies_given rows)))) (rows_of k rows) (fine-outgoing policy pid k (rows_of k rows) pick (Body body) (Some (reply_at given (replies_given rows))))
    by_ask false = row-unfailed (Says k (Body body) None) k (sent_by_client policy pid k (rows_of k rows) pick (Body body) None) (rows_of k rows) (fine-outgoing policy pid k (rows_of k rows) pick (Body body) None)

master-fine : (p : List ℕ) → IsFine (received_master p)
master-fine p = by_read (read_summary p)
  where
    by_request : (b : Bool) (what : Global) → IsFine (for_master (Requests what b))
    by_request true what = tt
    by_request false what = tt

    by_message : (m : Summary) → IsFine (for_master m)
    by_message (Requests what wants) = by_request wants what
    by_message (Open what s w max) = tt
    by_message (Transport number) = tt
    by_message (Succeeds rest) = tt
    by_message Refuses = tt
    by_message (Confirmation n s w max) = tt
    by_message (Within n act) = tt

    by_read : (r : Result Summary Bad) → IsFine (elim r as (λ _. Outcome) [ Err bad ↦ silent | Ok m ↦ for_master m ])
    by_read (Err bad) = tt
    by_read (Ok m) = by_message m

payload-unfailed : (rows : List Row) (p : List ℕ) (d : Dest) → IsUnfailed (received_row rows p d).fate
payload-unfailed rows p ToMaster = master-fine p
payload-unfailed rows p (ToClient k) = row-unfailed (Heard p) k (received_for (rows_of k rows) p) (rows_of k rows) (subst IsUnfailed (sym (heard-goes (rows_of k rows) p)) tt)
payload-unfailed rows p Disconnects = (λ e. cc, λ e. cc, λ index e. cc)
payload-unfailed rows p (Breaks cause) = (λ e. cc, λ e. cc, λ index e. cc)

heard-unfailed : (policy : Policy) (pid : ℕ) (picks : List ℕ) (given : List HouseReply) (x : Outgoing) (rows : List Row) → IsUnfailed (next_row (by_lists policy pid picks given) rows (received_item x)).fate
heard-unfailed policy pid picks given (Body p) rows = payload-unfailed rows p (dest rows p)
heard-unfailed policy pid picks given (Payload p) rows = payload-unfailed rows p (dest rows p)
heard-unfailed policy pid picks given (BadFraming fault) rows = (λ e. cc, λ e. cc, λ index e. cc)

-- ---- the end of the run

abbrev pub NotFailed : Option Ended → Type 0
NotFailed o = (o ≢ Some ended.ServerFailed) × (o ≢ Some ended.Spent) × ((index : ℕ) → o ≢ Some (ended.StartRefused index))

abbrev fate_end : Option Ended → Fate → Option Ended
fate_end before fate = elim fate as (λ _. Option Ended) [ End cause ↦ Some cause | Goes ↦ before | Refused ↦ before | Drop why ↦ before ]

fate-unfailed : (before : Option Ended) (f : Fate) → IsUnfailed f → NotFailed before → NotFailed (fate_end before f)
fate-unfailed before (End cause) h n = (λ t. h.0 (let s : Some cause ≡ Some ended.ServerFailed = t in cc), λ t. h.1 (let s : Some cause ≡ Some ended.Spent = t in cc), λ index t. h.2 index (let s : Some cause ≡ Some (ended.StartRefused index) = t in cc))
fate-unfailed before Goes h n = n
fate-unfailed before Refused h n = n
fate-unfailed before (Drop cause) h n = n

one-unfailed : (policy : Policy) (pid : ℕ) (picks : List ℕ) (given : List HouseReply) (item : Item) (rows : List Row) → IsUnfailed (next_row (by_lists policy pid picks given) rows item).fate → NotFailed (run_end_of rows) → NotFailed (run_end_of (more_of (by_lists policy pid picks given) rows item))
one-unfailed policy pid picks given item rows h n = by_makes (makes_next rows item)
  where
    row : Row
    row = next_row (by_lists policy pid picks given) rows item

    by_makes : (b : Bool) → NotFailed (run_end_of (elim b as (λ _. List Row) [ false ↦ rows | true ↦ row ∷ rows ]))
    by_makes true = fate-unfailed (run_end_of rows) row.fate h n
    by_makes false = n

pub says-unfailed : (policy : Policy) (pid : ℕ) (picks : List ℕ) (given : List HouseReply) (k : ℕ) (xs : List Outgoing) (rows : List Row) → NotFailed (run_end_of rows) → NotFailed (run_end_of (more_all (by_lists policy pid picks given) rows (map (sent_item k) xs)))
says-unfailed policy pid picks given k [] rows n = n
says-unfailed policy pid picks given k (x ∷ xs) rows n = says-unfailed policy pid picks given k xs (more_of (by_lists policy pid picks given) rows (sent_item k x)) (one-unfailed policy pid picks given (sent_item k x) rows (said-unfailed policy pid picks given k x rows) n)

pub receives-unfailed : (policy : Policy) (pid : ℕ) (picks : List ℕ) (given : List HouseReply) (xs : List Outgoing) (rows : List Row) → NotFailed (run_end_of rows) → NotFailed (run_end_of (more_all (by_lists policy pid picks given) rows (map received_item xs)))
receives-unfailed policy pid picks given [] rows n = n
receives-unfailed policy pid picks given (x ∷ xs) rows n = receives-unfailed policy pid picks given xs (more_of (by_lists policy pid picks given) rows (received_item x)) (one-unfailed policy pid picks given (received_item x) rows (heard-unfailed policy pid picks given x rows) n)
