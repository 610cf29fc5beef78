-- For how many marks a forwarder needs room: of all orders and answers that can come without a call
-- that may run out of memory.
use Rattle.std.specs.Prelude.{ℕ, Bool, true, false, not, ◌&&◌, ◌+◌, ◌*◌, ◌==◌, if◌then◌else◌, List, length}
use Rattle.std.specs.List.{sum_by}
use Rattle.mux_outside.specs.declared.own_streams.OwnStream.{OwnStream}
use Rattle.house_relay.specs.Relay.{stuck_in}
use Rattle.house_relay.specs.declared.relay.Relay.{Relay}
use Rattle.house_forward.specs.declared.asks.Waiting.{Waiting}
use Rattle.house_forward.specs.declared.forwarding.Forwarding.{Forwarding}
use Rattle.house_forward.specs.declared.forwarding.Stage.{Stage}
use Rattle.house_forward.specs.declared.forwarding.Stage.TheVariants.{ToListen, Ordered, Listening, ToRequest, Requested, Live, Cancelling}
use Rattle.house_forward.specs.declared.link.Link.{Link}
use Rattle.house_forward.specs.declared.link.LinkStream.{LinkStream}
use Rattle.house_forward.specs.declared.link.LinkStream.TheVariants.{Offered, Awaited, Made, Gone}

-- whether a stream is to be paused, or to give again
abbrev pub turns : Relay → OwnStream → Bool
turns r own = if length r.held.waiting == 0 then own.paused else (stuck_in r.line && not own.paused)

abbrev pub count_if : Bool → ℕ
count_if true = 1
count_if false = 0

-- of a stream: Pause or Resume, Finish and Close; of one that is to be made, its Connect before
abbrev pub stream_due : LinkStream → Relay → ℕ
stream_due (Offered host port) r = 4
stream_due Awaited r = 4
stream_due (Made own) r = 1 + (count_if (not own.finished) + count_if (turns r own))
stream_due Gone r = 0

abbrev pub link_due : Link → ℕ
link_due l = stream_due l.stream l.relay

-- of a listener: its Listen and its Unlisten
abbrev pub listener_due : Stage → ℕ
listener_due (ToListen host) = 2
listener_due Ordered = 2
listener_due (Listening l) = 1
listener_due ToRequest = 0
listener_due Requested = 0
listener_due (Live port) = 0
listener_due (Cancelling port) = 0

abbrev pub forwarding_due : Forwarding → ℕ
forwarding_due f = listener_due f.stage

-- of a request: its answer
abbrev pub due : List Forwarding → List Link → List Waiting → ℕ
due forwardings links waiting =
    sum_by forwarding_due forwardings + (sum_by link_due links + length waiting)

-- the most that so many forwardings, relays and requests need
abbrev pub most_due : ℕ → ℕ → ℕ → ℕ
most_due forwardings links asks = forwardings * 2 + (links * 4 + asks)
