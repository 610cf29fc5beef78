-- How much waits in an engine: from every lawful journal for which it stands.
use Rattle.std.specs.Prelude.{◌≡◌, ◌≤◌, ◌<◌, ◌++◌, ℕ, true, false, List, length}
use Rattle.mux_outside.specs.Streams.{among}
use Rattle.mux_outside.specs.Whose.{is_server}
use Rattle.mux_outside.specs.declared.house.HouseReply.{HouseReply}
use Rattle.mux_outside.specs.declared.mark.Mark.{Mark}
use Rattle.mux_history.specs.declared.limits.TheConstants.{MAX_QUEUE}
use Rattle.mux_history.specs.Journal.{IsLawful}
use Rattle.mux_history.specs.Promises.{Throughout}
use Rattle.mux_bounds.specs.Bounds.{ReadsWithRoom, longest_server_queue}
use Rattle.mux_state.specs.Stands.{RepresentsSoFar, run_setting}
use Rattle.mux_state.specs.State.{EngineState, queue_in}

-- bytes are read, clients accepted and the forwarder read only while less than 4,194,304 bytes wait
-- for the server
abbrev pub ReadsInTime : List ℕ → List HouseReply → EngineState → List Mark → Type 0
ReadsInTime picked given s marks =
    (picks : List ℕ) (replies : List HouseReply)
    → Throughout (ReadsWithRoom (run_setting s (picked ++ picks) (given ++ replies))) marks

-- no more than 33,554,432 bytes wait for a client, and less than 8,388,608 for the server, where
-- reading stops in time
pub record QueueShort (picked : List ℕ) (given : List HouseReply) (s : EngineState) (marks : List Mark)
    (stream : ℕ) (bytes : List ℕ) : Type 0 where
  pub client : is_server stream ≡ false → length bytes ≤ MAX_QUEUE
  pub server : is_server stream ≡ true → ReadsInTime picked given s marks → length bytes < longest_server_queue

-- from every lawful journal for which an engine stands, for each stream that was not closed
abbrev pub QueuesShort : EngineState → Type 0
QueuesShort s =
    (picked : List ℕ) (given : List HouseReply) (marks : List Mark) (closed : List ℕ)
    → RepresentsSoFar picked given s marks closed → IsLawful marks
    → (stream : ℕ) → among stream closed ≡ false
    → QueueShort picked given s marks stream (queue_in s stream)
