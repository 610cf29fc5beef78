-- The rows of a piece are those that the log has for it, and its bytes are read so afterwards.
use Rattle.std.specs.Prelude.{◌≡◌, ◌+◌, ◌&&◌, not, ℕ, true, false, List, ◌∷◌, ◌++◌, length, Option, None}
use Rattle.mux_outside.specs.declared.house_mark.HouseMark.{HouseMark as Asked}
use Rattle.mux_outside.specs.declared.house.HouseReply.{HouseReply}
use Rattle.ssh_fields.specs.Fields.{AreBytes}
use Rattle.ssh_grammar.specs.Frames.{More}
use Rattle.ssh_grammar.specs.Said.{InControl, InProxy, Stopped, first_in, parse}
use Rattle.proxy_frames.specs.State.{QueueState}
use Rattle.mux_history.specs.declared.ended.Ended.{Ended}
use Rattle.mux_history.specs.Policy.{Policy}
use Rattle.mux_history.specs.declared.why.Why.{Why}
use Rattle.mux_history.specs.Rows.{Row, Gone, is_run_over, losses}
use Rattle.mux_history.specs.Choices.{numbers_taken, replies_given}
use Rattle.mux_history.specs.Promises.{is_still_accepting}
use Rattle.mux_history.specs.Solo.{run_end_of}
use Rattle.mux_history.specs.Right.{AreFresh}
use Rattle.mux_history.specs.Settings.{by_lists}
use Rattle.mux_history.specs.Journal.{new_received, new_sayings}
use Rattle.mux_history.specs.Log.{more_all, next_row}
use Rattle.mux_core.specs.State.{CoreState}
use Rattle.mux_peers.specs.declared.run_change.RunChange.{RunChange}
use Rattle.mux_peers.specs.State.{ClientState, part}
use Rattle.mux_peers.specs.Stands.{PartFits, is_standing_lost, is_read, parse_mode_of}
use Rattle.mux_peers.specs.Asked.{asks_of_rows}
use Rattle.mux_peers.specs.Pieces.{RunsTo, ended_then}
use Rattle.mux_peers.specs.Among.{AddsFor, AllFit, ChangesOne, MovesTo, is_present}
use Rattle.mux_peers.specs.Receivings.{AreHere}
use Rattle.mux_peers.specs.Server.{AllAwait, ReceivedTo}

-- ---- a client

-- of all its bytes so far these are not read yet, and are to be read so
pub record ReadsClientAs (bytes : List ℕ) (c : ClientState) : Type 0 where
  pub mode : (parse InControl bytes).mode ≡ parse_mode_of c.peer.standing
  pub rest : (parse InControl bytes).rest ≡ c.rest

-- the rows of the log after a piece of a client that gave other bytes before
abbrev pub rows_given : Policy → ℕ → List ℕ → List HouseReply → ℕ → List ℕ → List ℕ
    → List Row → List Row
rows_given policy pid picks given k before bytes rows =
    more_all (by_lists policy pid picks given) rows (new_sayings k before (before ++ bytes))

-- how a piece leaves its client, by these rows
pub record IsReadTo (k : ℕ) (before bytes picked : List ℕ) (used : List HouseReply)
    (asks : List Asked) (rows rows' : List Row) (core : CoreState) (up : QueueState)
    (now : ClientState) (heard : RunChange) : Type 0 where
  pub number : now.peer.number ≡ k
  pub adds : AddsFor k rows rows'
  pub fits : PartFits rows' (part core now.peer up)
  pub taken : numbers_taken rows' ≡ numbers_taken rows + length picked
  pub given_is : replies_given rows' ≡ replies_given rows + length used
  pub asked : asks_of_rows rows' ≡ asks_of_rows rows ++ asks
  pub fresh : AreBytes before → AreBytes bytes → AreFresh rows → AreFresh rows'
  pub stops_is : is_still_accepting rows' ≡ (not heard.stops && is_still_accepting rows)
  pub ended_is : run_end_of rows' ≡ ended_then heard.ended (run_end_of rows)
  pub live : is_read now.peer.standing ≡ true → is_run_over rows' ≡ false
  -- one that isn't read any more, nor lost, has stopped for good
  pub stopped : is_read now.peer.standing ≡ false → is_standing_lost now.peer.standing ≡ false
      → is_run_over rows' ≡ false → (parse InControl (before ++ bytes)).mode ≡ Stopped
  pub reads : is_read now.peer.standing ≡ true → ReadsClientAs (before ++ bytes) now

-- what was sent so far is all of the piece where nothing whole is left
abbrev pub PiecesOfAClient : Type 0
PiecesOfAClient =
    (policy : Policy) (pid : ℕ) (picks : List ℕ) (given : List HouseReply) (k : ℕ)
    (before bytes : List ℕ) (first now : ClientState) (picked : List ℕ) (used : List HouseReply)
    (asks : List Asked) (rows : List Row) (core : CoreState) (up : QueueState) (heard : RunChange)
    → ReadsClientAs before first
    → (is_read now.peer.standing ≡ true → first_in (parse_mode_of now.peer.standing) now.rest ≡ More)
    → RunsTo policy pid picks given k (parse_mode_of first.peer.standing) (first.rest ++ bytes) picked
    used asks rows core up now heard
    → IsReadTo k before bytes picked used asks rows
    (rows_given policy pid picks given k before bytes rows) core up now heard

-- ---- the server

-- of all its bytes so far these are not read yet
pub record PeersReadServer (bytes left : List ℕ) : Type 0 where
  pub mode : (parse InProxy bytes).mode ≡ InProxy
  pub rest : (parse InProxy bytes).rest ≡ left

-- the rows of the log after a piece of the server, which gave other bytes before
abbrev pub rows_recorded : Policy → ℕ → List ℕ → List HouseReply → List ℕ → List ℕ → List Row → List Row
rows_recorded policy pid picks given before bytes rows =
    more_all (by_lists policy pid picks given) rows (new_received before (before ++ bytes))

-- how a piece leaves all clients, by these rows: it uses no number and no reply, and stops no
-- client, and these are the losses by it
pub record IsReceivedTo (before bytes : List ℕ) (noted : List (ℕ × Option Why)) (rows rows' : List Row)
    (core : CoreState) (cs : List ClientState) (queue : QueueState) (rest : List ℕ) (index : ℕ)
    (ended : Option Ended) : Type 0 where
  pub fit : AllFit rows' core cs queue
  pub lost : losses rows' ≡ losses rows ++ noted
  pub ended_is : ended ≡ run_end_of rows'
  pub taken : numbers_taken rows' ≡ numbers_taken rows
  pub given_is : replies_given rows' ≡ replies_given rows
  pub fresh : AreFresh rows → AreFresh rows'
  pub stops_is : is_still_accepting rows' ≡ is_still_accepting rows
  pub awaits : ended ≡ None → AllAwait rows' core cs queue index
  pub reads : ended ≡ None → PeersReadServer (before ++ bytes) rest

abbrev pub PiecesOfTheServer : Type 0
PiecesOfTheServer =
    (policy : Policy) (pid : ℕ) (picks : List ℕ) (given : List HouseReply)
    (before bytes rest rest' : List ℕ) (noted : List (ℕ × Option Why)) (rows : List Row)
    (core : CoreState) (cs : List ClientState) (queue : QueueState) (index : ℕ)
    (ended : Option Ended)
    → PeersReadServer before rest → (ended ≡ None → first_in InProxy rest' ≡ More)
    → ReceivedTo policy pid picks given (rest ++ bytes) noted rows core cs queue rest' index ended
    → IsReceivedTo before bytes noted rows (rows_recorded policy pid picks given before bytes rows) core cs
    queue rest' index ended

-- ---- all clients

-- they represent the rows with the one that went on, and each of them that isn't lost is here still
pub record AllMoved (rows rows' : List Row) (core' : CoreState) (cs cs' : List ClientState)
    (up' : QueueState) : Type 0 where
  pub fit : AllFit rows' core' cs' up'
  pub here : AreHere rows cs → AreHere rows' cs'
  pub present : (j : ℕ) → is_present cs' j ≡ is_present cs j

-- where one of them goes on and the others stay
abbrev pub OneMovesAll : Type 0
OneMovesAll =
    (k : ℕ) (rows rows' : List Row) (core core' : CoreState) (cs cs' : List ClientState)
    (up up' : QueueState)
    → AllFit rows core cs up → AddsFor k rows rows' → is_present cs k ≡ true
    → ChangesOne k (MovesTo rows' core' up') cs cs' → AllMoved rows rows' core' cs cs' up'

-- the row of a client whose stream is gone concerns it alone
abbrev pub LossesAddForOne : Type 0
LossesAddForOne = (policy : Policy) (pid : ℕ) (picks : List ℕ) (given : List HouseReply) (k : ℕ)
    (rows : List Row) → AddsFor k rows
    (next_row (by_lists policy pid picks given) rows (Gone k) ∷ rows)
