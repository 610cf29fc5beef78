-- Where the server's messages go (RFC 4254, sections 4 and 5), and what becomes of them.
use Rattle.std.specs.Prelude.{ℕ, ◌+◌, ◌-◌, ◌==◌, List, [], ◌∷◌, Option, Some, None, Ok, Err, Bool, true, false, not, ◌&&◌, length, nat_lt, min, ◌^◌}
use Rattle.ssh_grammar.specs.declared.side.Side.TheVariants.{Down}
use Rattle.ssh_grammar.specs.declared.numbers.TheConstants.{DISCONNECT, ADMINISTRATIVELY_PROHIBITED, RESOURCE_SHORTAGE}
use Rattle.ssh_grammar.specs.Messages.{Opens, Forwarded, Forward}
use Rattle.ssh_grammar.specs.SpellMessage.{open_failure, request_failure, not_permitted, too_many_channels, with_recipient}
use Rattle.ssh_grammar.specs.Frames.{frame_payload}
use Rattle.mux_history.specs.declared.limits.TheConstants.{MAX_CHANNELS}
use Rattle.mux_history.specs.declared.broke.Break.{Break}
use Rattle.mux_history.specs.declared.broke.Break.TheVariants as broke
use Rattle.mux_history.specs.declared.ended.Ended.{Ended}
use Rattle.mux_history.specs.declared.ended.Ended.TheVariants as ended
use Rattle.mux_history.specs.Summary.{Summary, Transport, Requests, Succeeds, Refuses, Open, Confirmation, Within, Act, Fails, read_summary}
use Rattle.mux_history.specs.Rows.{Row, is_lost, Item, Heard, Goes, End}
use Rattle.mux_history.specs.Channels.{Channel, held_of, holder, live_in, is_confirmed, is_up}
use Rattle.mux_history.specs.Ledger.{breach}
use Rattle.mux_history.specs.Requests.{Ask, asker}
use Rattle.mux_history.specs.Keys.{learns_port}
use Rattle.mux_history.specs.Forwardings.{live_at}
use Rattle.mux_history.specs.Farewell.{late}
use Rattle.mux_history.specs.Said.{Outcome, silent, sends_payload, records}

-- ---- where a payload goes: this alone looks at all rows

-- the master, a client, the end of the run, or a break
pub data Dest : Type 0 where
  ToMaster : Dest
  ToClient : (client : ℕ) → Dest
  Disconnects : Dest
  Breaks : (why : Break) → Dest

-- to the client whose request is answered
abbrev pub dest_asker : Option Ask → (Ask → Dest) → Dest
dest_asker None f = Breaks broke.NoAsker
dest_asker (Some a) f = f a

-- a success must have four bytes where a port is to be learnt
abbrev pub dest_success : List ℕ → Ask → Dest
dest_success rest a = elim a.what [
  | Forward key ↦ elim (learns_port key && not (length rest == 4))
      [ true ↦ Breaks (broke.BadReply (length rest)) | false ↦ ToClient a.client ]
  | _ ↦ ToClient a.client
]

-- a number of the server that is live may not be used again; a forwarded connection goes to the
-- client of the earliest live forwarding
abbrev pub dest_open : List Row → ℕ → Opens → Dest
dest_open rows s (Forwarded key) = elim (live_in rows s) [
  | Some x ↦ Breaks (broke.NumberInUse s)
  | None ↦ elim (live_at rows key) [ Some f ↦ ToClient f.client | None ↦ ToMaster ]
]
dest_open rows s _ = elim (live_in rows s) [
  | Some x ↦ Breaks (broke.NumberInUse s)
  | None ↦ ToMaster
]

-- a channel that a client opened and that has no answer
abbrev pub is_open_pending : Channel → Bool
is_open_pending x = is_up x.by && not (is_confirmed x)

-- the unanswered open that holds a number
abbrev pub pending_open : List Row → ℕ → Option Channel
pending_open rows n = elim (holder rows n) [
  | None ↦ None
  | Some x ↦ elim (is_open_pending x) [ true ↦ Some x | false ↦ None ]
]

-- to the client that opened
abbrev pub dest_confirmation : List Row → ℕ → ℕ → Dest
dest_confirmation rows n s = elim (pending_open rows n) [
  | None ↦ Breaks (broke.NotPending n)
  | Some x ↦ elim (live_in rows s) [
    | Some y ↦ Breaks (broke.NumberInUse s)
    | None ↦ ToClient x.client
  ]
]

-- a failure to the client that opened; all else to the client whose channel it is, where the
-- account allows it
abbrev pub dest_within : List Row → ℕ → Act → Dest
dest_within rows n Fails = elim (pending_open rows n) [
  | None ↦ Breaks (broke.NotPending n)
  | Some x ↦ ToClient x.client
]
dest_within rows n act = elim (holder rows n) [
  | None ↦ Breaks (broke.NoChannel n)
  | Some x ↦ elim (breach Down act x) [
    | Some b ↦ Breaks (broke.Channel n b)
    | None ↦ ToClient x.client
  ]
]

-- where a message goes
abbrev pub dest_summary : List Row → Summary → Dest
dest_summary rows (Transport number) =
    elim (number == DISCONNECT) [ true ↦ Disconnects | false ↦ ToMaster ]
dest_summary rows (Requests what wants) = ToMaster
dest_summary rows (Succeeds rest) = dest_asker (asker rows) (dest_success rest)
dest_summary rows Refuses = dest_asker (asker rows) (λ a. ToClient a.client)
dest_summary rows (Open what s window maximum) = dest_open rows s what
dest_summary rows (Confirmation n s window maximum) = dest_confirmation rows n s
dest_summary rows (Within n act) = dest_within rows n act

-- where a payload goes
abbrev pub dest : List Row → List ℕ → Dest
dest rows p = elim (read_summary p) [ Err bad ↦ Breaks (broke.Message bad) | Ok m ↦ dest_summary rows m ]

-- ---- what it gives, after the rows of the client that it goes to

-- what the master answers itself
abbrev pub for_master : Summary → Outcome
for_master (Requests what true) = sends_payload request_failure
for_master (Open what s window maximum) =
    sends_payload (open_failure s ADMINISTRATIVELY_PROHIBITED not_permitted)
for_master _ = silent

-- the client's own number of a channel
abbrev pub own_number : Option Channel → ℕ
own_number None = 0
own_number (Some x) = elim x.own [ None ↦ 0 | Some c ↦ c ]

-- the payload with the client's own number at the recipient's place
abbrev pub renamed : List Row → List ℕ → Option ℕ → List ℕ
renamed own p None = p
renamed own p (Some n) = with_recipient p (own_number (holder own n))

-- of a client that is not lost; replies are given by the row's answers
abbrev pub for_client : List Row → List ℕ → Summary → Outcome
for_client own p (Open what s window maximum) = elim (nat_lt (length (held_of own)) MAX_CHANNELS) [
  | true ↦ records (frame_payload p)
  | false ↦ sends_payload (open_failure s RESOURCE_SHORTAGE too_many_channels)
]
for_client own p (Confirmation n s w m) = records (frame_payload (renamed own p (Some n)))
for_client own p (Within n act) = records (frame_payload (renamed own p (Some n)))
for_client own p _ = silent

-- of a client that is lost
abbrev pub for_lost : List Row → Summary → Outcome
for_lost own m = record { sent = late m own; recorded = []; ends = Goes }

-- what a message gives its client
abbrev pub received_summary : List Row → List ℕ → Summary → Outcome
received_summary own p m = elim (is_lost own) [ true ↦ for_lost own m | false ↦ for_client own p m ]

-- what a payload gives its client
abbrev pub received_for : List Row → List ℕ → Outcome
received_for own p = elim (read_summary p) [ Err bad ↦ silent | Ok m ↦ received_summary own p m ]

-- what a payload gives that goes to the master
abbrev pub received_master : List ℕ → Outcome
received_master p = elim (read_summary p) [ Err bad ↦ silent | Ok m ↦ for_master m ]

-- nothing but the end
abbrev pub outcome_of_end : Ended → Outcome
outcome_of_end cause = record { sent = []; recorded = []; ends = End cause }

-- ---- breaks

-- a payload of the server
abbrev pub is_server_payload : Item → Bool
is_server_payload (Heard p) = true
is_server_payload _ = false

-- the place of the server's next frame, counted from 1
abbrev pub next_index : List Row → ℕ
next_index [] = 1
next_index (row ∷ before) = elim (is_server_payload row.item) [
  | true ↦ next_index before + 1
  | false ↦ next_index before
]

-- the count stays at its type's end
abbrev pub broken : List Row → Break → Outcome
broken rows cause = outcome_of_end (ended.Broke (min (next_index rows) (2 ^ 64 - 1)) cause)
