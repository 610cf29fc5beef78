-- How a channel goes on: what each step leaves of it.
use Rattle.std.specs.Prelude.{◌+◌, ◌-◌, ◌^◌, ◌&&◌, ℕ, Bool, true, false, not, min, nat_lt, if◌then◌else◌}
use Rattle.house_relay.specs.declared.line.Live.{Live as LiveState}
use Rattle.house_relay.specs.declared.line.ChannelState.{ChannelState}
use Rattle.house_relay.specs.declared.line.ChannelState.TheVariants.{Dialing, Asked, Opened, Offered, Live, Over}

-- whether it counts as a channel
abbrev pub is_counted_channel : ChannelState → Bool
is_counted_channel (Dialing dialog) = false
is_counted_channel (Asked host port version) = true
is_counted_channel (Opened version) = true
is_counted_channel (Offered remote window maximum) = true
is_counted_channel (Live live) = true
is_counted_channel Over = false

-- whether the server's EOF came
abbrev pub receives_end : ChannelState → Bool
receives_end (Dialing dialog) = false
receives_end (Asked host port version) = false
receives_end (Opened version) = false
receives_end (Offered remote window maximum) = false
receives_end (Live live) = live.eof_received
receives_end Over = false

-- whether nothing more comes from it: it has ended, or the client ended before its dialog asked for
-- an end
abbrev pub has_no_more : Bool → ChannelState → Bool
has_no_more ended (Dialing dialog) = ended
has_no_more ended (Asked host port version) = false
has_no_more ended (Opened version) = false
has_no_more ended (Offered remote window maximum) = false
has_no_more ended (Live live) = false
has_no_more ended Over = true

-- for how many bytes room is to be given back
abbrev pub owed_in : ChannelState → ℕ
owed_in (Dialing dialog) = 0
owed_in (Asked host port version) = 0
owed_in (Opened version) = 0
owed_in (Offered remote window maximum) = 0
owed_in (Live live) = live.owed
owed_in Over = 0

-- a step of a channel that is confirmed; another stays
abbrev pub step_if_live : (LiveState → ChannelState) → ChannelState → ChannelState
step_if_live step (Dialing dialog) = Dialing dialog
step_if_live step (Asked host port version) = Asked host port version
step_if_live step (Opened version) = Opened version
step_if_live step (Offered remote window maximum) = Offered remote window maximum
step_if_live step (Live live) = step live
step_if_live step Over = Over

-- a channel as it is confirmed, while so many bytes of replies wait
abbrev pub fresh_live : ℕ → ℕ → ℕ → ℕ → LiveState
fresh_live remote window maximum replies = record {
  remote = remote;
  room = window;
  maximum = maximum;
  eof_sent = false;
  eof_received = false;
  close_sent = false;
  close_received = false;
  failures = 0;
  owed = 0;
  replies = replies;
}

-- how many bytes of data the server accepts in one message now
abbrev pub takes : LiveState → ℕ
takes live = min live.room live.maximum

-- it is over where CLOSE went both ways
abbrev pub over_if : Bool → LiveState → ChannelState
over_if b live = if b then Over else Live live

abbrev pub live_after_close : LiveState → ChannelState
live_after_close live = over_if live.close_received (record live { close_sent = true; failures = 0; owed = 0 })

abbrev pub answers_failure : LiveState → LiveState
answers_failure live = record live { failures = live.failures - 1 }

abbrev pub live_after_sending : ℕ → LiveState → LiveState
live_after_sending n live = record live { room = live.room - n }

abbrev pub ends : LiveState → LiveState
ends live = record live { eof_sent = true }

abbrev pub live_after_grant : ℕ → LiveState → LiveState
live_after_grant n live = record live { owed = live.owed - n }

-- too much room isn't accepted
abbrev pub receives_room : ℕ → LiveState → LiveState
receives_room n live =
    if nat_lt (live.room + n) (2 ^ 32) then record live { room = live.room + n } else live

abbrev pub receives_eof : LiveState → LiveState
receives_eof live = record live { eof_received = true }

abbrev pub receives_close : LiveState → ChannelState
receives_close live = over_if live.close_sent (record live { close_received = true })

abbrev pub receives_request : Bool → LiveState → LiveState
receives_request want live = if want && not live.close_sent
    then record live { failures = min (live.failures + 1) (2 ^ 32 - 1) } else live

-- the replies are accepted first, and aren't owed
abbrev pub takes_more : ℕ → LiveState → LiveState
takes_more n live = if live.close_sent then live else record live {
  owed = live.owed + (n - live.replies);
  replies = live.replies - n;
}

-- the socket accepted so many bytes
abbrev pub takes_in : ℕ → ChannelState → ChannelState
takes_in n = step_if_live (λ live. Live (takes_more n live))
