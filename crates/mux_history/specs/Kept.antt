-- What a run promises of each row: windows, permissions, askers, what is delivered, numbers, and
-- the unshared connection.
use Rattle.std.specs.Prelude.{ℕ, ◌≡◌, ◌≢◌, ◌≤◌, ◌<◌, ◌+◌, ◌⊎◌, List, [], ◌∷◌, ◌++◌, Option, Some, None, Ok, Bool, MatchBool, true, false, length, filter, drop, nat_lt, option_map, replicate, flat_map, reverse}
use Rattle.mux_outside.specs.declared.house.HouseReply.{HouseReply}
use Rattle.ssh_grammar.specs.declared.side.Side.{Side}
use Rattle.ssh_grammar.specs.declared.side.Side.TheVariants.{Up, Down}
use Rattle.ssh_grammar.specs.declared.numbers.TheConstants.{ADMINISTRATIVELY_PROHIBITED, CONNECT_FAILED, RESOURCE_SHORTAGE}
use Rattle.ssh_grammar.specs.Messages.{Key, Forwarded, Forward, Cancel, KeepAlive}
use Rattle.ssh_grammar.specs.Said.{Payload}
use Rattle.ssh_grammar.specs.SpellMessage.{cancel_forward, client_is_gone, close, not_permitted, open_failure, request_failure, too_many_channels, with_recipient, with_sender}
use Rattle.ssh_grammar.specs.Frames.{frame_payload}
use Rattle.mux_history.specs.declared.limits.TheConstants.{MAX_CHANNELS, MAX_FORWARDINGS, MAX_QUEUE}
use Rattle.mux_history.specs.declared.why.Why.{Why}
use Rattle.mux_history.specs.declared.why.Why.TheVariants.{QueueFull}
use Rattle.mux_history.specs.Summary.{Carries, Confirmation, Fails, Summary, Open, Requests, Within, read_summary, reading}
use Rattle.mux_history.specs.Rows.{Row, rows_of, any_of, sent_by, is_lost, is_end, Heard, Says, Fate, Goes, Refused, Drop, End}
use Rattle.mux_history.specs.Channels.{Channel, held_of, holder, is_number, own_number_of, with_own}
use Rattle.mux_history.specs.Ledger.{breach, room, maximum_of}
use Rattle.mux_history.specs.Pending.{joined, waiting_down}
use Rattle.mux_history.specs.Requests.{answers, asker, is_reply}
use Rattle.mux_history.specs.Controls.{is_sends}
use Rattle.mux_history.specs.Keys.{is_askable}
use Rattle.mux_history.specs.Policy.{Policy, may_open, permits}
use Rattle.mux_history.specs.Farewell.{late}
use Rattle.mux_history.specs.Forwardings.{Forwarding, current, is_forwarding_free_at, live_at}
use Rattle.mux_history.specs.Said.{confirmed_at, is_full_of_asks, waiting_at}
use Rattle.mux_history.specs.Log.{Setting}
use Rattle.mux_history.specs.Solo.{IsUnshared}
use Rattle.mux_history.specs.Right.{IsAdmitted}

-- a fact of the log up to each row
abbrev pub AtEach : (List Row → Type 0) → List Row → Type 0
AtEach P [] = P []
AtEach P (row ∷ before) = P (row ∷ before) × AtEach P before

-- a fact of each row and the rows before it
abbrev pub ForEach : (List Row → Row → Type 0) → List Row → Type 0
ForEach P [] = Unit {0}
ForEach P (row ∷ before) = P before row × ForEach P before

-- a fact of each payload
abbrev pub Every : (List ℕ → Type 0) → List (List ℕ) → Type 0
Every P [] = Unit {0}
Every P (p ∷ ps) = P p × Every P ps

-- a fact of what each payload is, where it reads
abbrev pub EachSends : (Summary → Type 0) → List (List ℕ) → Type 0
EachSends P payloads = Every (λ p. (m : Summary) → read_summary p ≡ Ok m → P m) payloads

-- the same of what each frame holds: the payload follows the five bytes of its header
abbrev pub EachRecords : (Summary → Type 0) → List (List ℕ) → Type 0
EachRecords P frames = Every (λ frame. (m : Summary) → read_summary (drop 5 frame) ≡ Ok m → P m) frames

-- ---- Sent for it: the payloads that were sent for a client, in order

-- what the rows of a client send up
abbrev pub sent_for : ℕ → List Row → List (List ℕ)
sent_for k rows = flat_map sent_by (reverse (rows_of k rows))

-- ---- Window: no data passes the room and the maximum of its channel, as they were before its row

-- data of this size is within the room and the receiver's maximum of the channel
abbrev pub Fits : Side → ℕ → Option Channel → Type 0
Fits way size None = ⊥
Fits way size (Some x) = (size ≤ room way x) × (size ≤ maximum_of way x)

-- of what goes up, from the client's rows before it
abbrev pub UpFits : List Row → Summary → Type 0
UpFits own (Within s (Carries size)) = Fits Up size (confirmed_at own s)
UpFits own m = Unit {0}

-- of what goes down, from the client's rows before it
abbrev pub DownFits : List Row → Summary → Type 0
DownFits own (Within c (Carries size)) = Fits Down size (with_own own c)
DownFits own m = Unit {0}

-- data in a row fits
pub record Window (before : List Row) (row : Row) : Type 0 where
  pub up : EachSends (UpFits (rows_of row.client before)) (sent_by row)
  pub down : EachRecords (DownFits (rows_of row.client before)) row.down

-- ---- Permission: nothing is opened and no forwarding is asked that isn't permitted, and each
-- forwarded open meets a live forwarding

-- the server is asked to open permitted sessions and direct channels alone, and for forwardings on
-- their list alone, be it by address and port or by path
abbrev pub IsPermitted : Policy → Summary → Type 0
IsPermitted policy (Open what c window maximum) = may_open policy what ≡ true
IsPermitted policy (Requests (Forward key) wants) = permits policy.listens key ≡ true
IsPermitted policy m = Unit {0}

-- a forwarded open is for the client of the earliest live forwarding of its key
abbrev pub MeetsLive : List Row → ℕ → Summary → Type 0
MeetsLive before k (Open (Forwarded key) s window maximum) =
    option_map (λ f. f.client) (live_at before key) ≡ Some k
MeetsLive before k m = Unit {0}

-- what a row sends and gives is permitted
pub record Permission (policy : Policy) (before : List Row) (row : Row) : Type 0 where
  pub up : EachSends (IsPermitted policy) (sent_by row)
  pub down : EachRecords (MeetsLive before row.client) row.down

-- ---- a full queue: the one cause for which what the server sends drops a client

-- the next frame does not fit after what waited and what was given: the bytes that wait then, and
-- its length
abbrev pub IsFull : ℕ → List (List ℕ) → Why → Type 0
IsFull waited recorded (QueueFull have want) =
    (have ≡ waited + length (joined recorded)) × (MAX_QUEUE < have + want)
IsFull waited recorded _ = ⊥

-- the client and the run go on; or the run ends; or the client is dropped since its queue is full
abbrev pub GoesUnlessFull : ℕ → List (List ℕ) → Fate → Type 0
GoesUnlessFull waited recorded Goes = Unit {0}
GoesUnlessFull waited recorded Refused = ⊥
GoesUnlessFull waited recorded (Drop cause) = IsFull waited recorded cause
GoesUnlessFull waited recorded (End cause) = Unit {0}

-- of a row of what the server sends
abbrev pub DropsIfFull : List Row → Row → Type 0
DropsIfFull before row =
    (p : List ℕ) → row.item ≡ Heard p
    → GoesUnlessFull (waiting_down (rows_of row.client before)) row.down row.fate

-- ---- Asker: each global reply that does not break the run reaches its asker

-- it is a row of the client that asked
abbrev pub ReachesAsker : List Row → Row → Type 0
ReachesAsker before row =
    (p : List ℕ) → row.item ≡ Heard p → reading p is_reply false ≡ true → is_end row.fate ≡ false
    → option_map (λ a. a.client) (asker before) ≡ Some row.client

-- it is the first that the row gives, before the refusals that waited after it, and these are
-- the client's next answers, in the order of its requests
pub record RecordsNext (own : List Row) (row : Row) (p : List ℕ) : Type 0 where
  pub refusals : ℕ
  pub recorded : row.down ≡ frame_payload p ∷ replicate refusals (frame_payload request_failure)
  pub in_order : answers (row ∷ own) ≡ answers own ++ (p ∷ replicate refusals request_failure)

-- unless the client was lost before, or is dropped by this row since its queue is full
abbrev pub RecordsReply : List Row → Row → Type 0
RecordsReply before row =
    (p : List ℕ) → row.item ≡ Heard p → reading p is_reply false ≡ true → row.fate ≡ Goes
    → is_lost (rows_of row.client before) ≡ false → RecordsNext (rows_of row.client before) row p

-- a reply in a row is its asker's
pub record Asker (before : List Row) (row : Row) : Type 0 where
  pub reaches : ReachesAsker before row
  pub records : RecordsReply before row
  pub full : DropsIfFull before row

-- ---- Delivers: what the server sends to a channel or a forwarding reaches its client

-- a message to the number of a channel is its client's: it is given as it came, but with the
-- client's own number at the recipient's place
pub record ReachesChannel (before : List Row) (row : Row) (p : List ℕ) (n : ℕ) : Type 0 where
  pub channel : Channel
  pub held : holder before n ≡ Some channel
  pub client : row.client ≡ channel.client
  pub number : ℕ
  pub named : channel.own ≡ Some number
  pub recorded : is_lost (rows_of row.client before) ≡ false → row.fate ≡ Goes
      → row.down ≡ frame_payload (with_recipient p number) ∷ []

-- where the client has 256 channels, a server's open fails in place of being given
pub record FailsOpen (row : Row) (s : ℕ) : Type 0 where
  pub recorded : row.down ≡ []
  pub sent : row.up ≡ open_failure s RESOURCE_SHORTAGE too_many_channels ∷ []

-- an open for a forwarding that is live is its client's: it is given as it came, or fails there
pub record ReachesForwarding (before : List Row) (row : Row) (p : List ℕ) (s : ℕ)
    (forwarding : Forwarding) : Type 0 where
  pub client : row.client ≡ forwarding.client
  pub recorded : is_lost (rows_of row.client before) ≡ false → row.fate ≡ Goes
      → MatchBool (nat_lt (length (held_of (rows_of row.client before))) MAX_CHANNELS)
      (row.down ≡ frame_payload p ∷ []) (FailsOpen row s)

-- by what the payload says
abbrev pub Reaches : List Row → Row → List ℕ → Summary → Type 0
Reaches before row p (Open (Forwarded key) s window maximum) =
    (f : Forwarding) → live_at before key ≡ Some f → ReachesForwarding before row p s f
Reaches before row p (Confirmation n s window maximum) = ReachesChannel before row p n
Reaches before row p (Within n act) = ReachesChannel before row p n
Reaches before row p m = Unit {0}

-- a client that was lost before is given nothing; what goes up then undoes what the server confirms
-- or replies
pub record LeavesLate (own : List Row) (row : Row) (m : Summary) : Type 0 where
  pub recorded : row.down ≡ []
  pub sent : row.up ≡ late m own

-- unless the run ends; and nothing that the server sends drops a client but a full queue
pub record Delivers (before : List Row) (row : Row) : Type 0 where
  pub reaches : (p : List ℕ) (m : Summary) → row.item ≡ Heard p → read_summary p ≡ Ok m
      → is_end row.fate ≡ false → Reaches before row p m
  pub lost : (p : List ℕ) (m : Summary) → row.item ≡ Heard p → read_summary p ≡ Ok m → row.client ≢ 0
      → is_lost (rows_of row.client before) ≡ true → LeavesLate (rows_of row.client before) row m
  pub full : DropsIfFull before row

-- ---- Passes: what a client sends goes up where it may

-- with another number at the sender's place
abbrev pub GoesUpNumbered : List (List ℕ) → List ℕ → Type 0
GoesUpNumbered ups p = (number : ℕ) × (ups ≡ with_sender p number ∷ [])

-- what is sent goes up as it was sent, or not at all; where it brings a number of the client's own,
-- another one stands at the sender's place
abbrev pub GoesUp : List (List ℕ) → List ℕ → Option ℕ → Type 0
GoesUp ups p None = (ups ≡ []) ⊎ (ups ≡ p ∷ [])
GoesUp ups p (Some own) = (ups ≡ []) ⊎ GoesUpNumbered ups p

-- the client opens a channel under a number that it does not use, and has fewer than 256
abbrev pub MustOpen : List Row → List (List ℕ) → List ℕ → ℕ → Type 0
MustOpen own ups p c =
    with_own own c ≡ None → nat_lt (length (held_of own)) MAX_CHANNELS ≡ true → GoesUpNumbered ups p

-- its global request is within the limit of those without an answer
abbrev pub MustAsk : List Row → List (List ℕ) → List ℕ → Bool → Type 0
MustAsk own ups p wants = is_full_of_asks wants own ≡ false → ups ≡ p ∷ []

-- a session and a direct channel that are permitted; a forwarding that is permitted, where fewer
-- than 64 are asked or live; a cancel of one that is live, and a keepalive; a confirmation or
-- failure of a server's open that waits for it; and every other message to a confirmed channel
-- whose account allows it
abbrev pub MustGoUp : Policy → ℕ → List Row → List (List ℕ) → List ℕ → Summary → Type 0
MustGoUp policy k own ups p (Open what c window maximum) =
    may_open policy what ≡ true → MustOpen own ups p c
MustGoUp policy k own ups p (Requests (Forward key) true) =
    is_askable key ≡ true → permits policy.listens key ≡ true
    → nat_lt (length (current own)) MAX_FORWARDINGS ≡ true → MustAsk own ups p true
MustGoUp policy k own ups p (Requests (Cancel key) wants) =
    any_of (is_forwarding_free_at k key) (current own) ≡ true → MustAsk own ups p wants
MustGoUp policy k own ups p (Requests KeepAlive wants) = MustAsk own ups p wants
MustGoUp policy k own ups p (Confirmation s c window maximum) =
    (x : Channel) → waiting_at own s ≡ Some x → with_own own c ≡ None → GoesUpNumbered ups p
MustGoUp policy k own ups p (Within s Fails) =
    (x : Channel) → waiting_at own s ≡ Some x → ups ≡ p ∷ []
MustGoUp policy k own ups p (Within s act) =
    (x : Channel) → confirmed_at own s ≡ Some x → breach Up act x ≡ None → ups ≡ p ∷ []
MustGoUp policy k own ups p m = Unit {0}

-- of a row of what a client in proxy mode sends, which is its own
pub record Passes (policy : Policy) (before : List Row) (row : Row) : Type 0 where
  pub client : (k : ℕ) (p : List ℕ) (given : Option HouseReply)
      → row.item ≡ Says k (Payload p) given → row.client ≡ k
  pub unchanged : (k : ℕ) (p : List ℕ) (given : Option HouseReply)
      → row.item ≡ Says k (Payload p) given → GoesUp row.up p (own_number_of row.item)
  pub must : (k : ℕ) (p : List ℕ) (given : Option HouseReply) (m : Summary)
      → row.item ≡ Says k (Payload p) given → read_summary p ≡ Ok m
      → MustGoUp policy k (rows_of k before) row.up p m

-- ---- The master's own words: all that it sends that no client sent

-- a refused request; a CLOSE; a failed open, of what is not permitted, of a channel too many, or of
-- a client that is gone; and a cancel
pub data OwnWord : Type 0 where
  Refusal : OwnWord
  Closing : (channel : ℕ) → OwnWord
  NotPermitted : (channel : ℕ) → OwnWord
  TooManyChannels : (channel : ℕ) → OwnWord
  ClientIsGone : (channel : ℕ) → OwnWord
  Cancelling : (key : Key) → OwnWord

-- its payload: a cancel wants no reply
abbrev pub spelled_word : OwnWord → List ℕ
spelled_word Refusal = request_failure
spelled_word (Closing s) = close s
spelled_word (NotPermitted s) = open_failure s ADMINISTRATIVELY_PROHIBITED not_permitted
spelled_word (TooManyChannels s) = open_failure s RESOURCE_SHORTAGE too_many_channels
spelled_word (ClientIsGone s) = open_failure s CONNECT_FAILED client_is_gone
spelled_word (Cancelling key) = cancel_forward key

-- the payload is one of them, byte for byte
abbrev pub IsMasters : List ℕ → Type 0
IsMasters p = (word : OwnWord) × (p ≡ spelled_word word)

-- the farewell of a row, what a row of no client sends, and what a row sends of which the client
-- sent something nothing
pub record OwnWords (before : List Row) (row : Row) : Type 0 where
  pub farewell : Every IsMasters row.farewell
  pub up : row.client ≡ 0 → Every IsMasters row.up
  pub unsaid : is_sends row.item ≡ false → Every IsMasters row.up

-- ---- Numbers: none is held by two channels, and none of the server's is live in two

-- of one number
pub record HeldOnce (rows : List Row) (n : ℕ) : Type 0 where
  pub number : length (filter (λ x. is_number x.number n) (held_of rows)) ≤ 1
  pub remote : length (filter (λ x. is_number x.remote n) (held_of rows)) ≤ 1

-- of every number
abbrev pub NumbersApart : List Row → Type 0
NumbersApart rows = (n : ℕ) → HeldOnce rows n

-- ---- Unshared connection

-- of every admitted client
abbrev pub Unshared : Setting → List Row → Type 0
Unshared setting rows = (k : ℕ) → 0 < k → IsAdmitted k rows → IsUnshared setting k rows

-- ---- all of them

-- what every right log keeps
pub record Kept (setting : Setting) (rows : List Row) : Type 0 where
  pub window : ForEach Window rows
  pub permission : ForEach (Permission setting.policy) rows
  pub asker : ForEach Asker rows
  pub delivers : ForEach Delivers rows
  pub passes : ForEach (Passes setting.policy) rows
  pub apart : AtEach NumbersApart rows
  pub unshared : Unshared setting rows
