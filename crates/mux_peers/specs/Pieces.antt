-- What a piece of a client's bytes does, from every log that the part represented.
use Rattle.std.specs.Prelude.{◌≡◌, ◌⊎◌, ◌+◌, ◌&&◌, not, Some, None, ℕ, true, false, List, [], ◌∷◌, ◌++◌, drop, length, map, Option, MatchBool}
use Rattle.mux_outside.specs.declared.house_mark.HouseMark.{HouseMark as Asked}
use Rattle.mux_outside.specs.declared.house.HouseReply.{HouseReply}
use Rattle.ssh_grammar.specs.Frames.{More}
use Rattle.ssh_grammar.specs.Said.{Mode, Outgoing, Stopped, Parsed, first_in, parse}
use Rattle.proxy_frames.specs.State.{QueueState}
use Rattle.mux_history.specs.Policy.{Policy}
use Rattle.mux_history.specs.Rows.{Row, rows_of, is_run_over, is_out}
use Rattle.mux_history.specs.Choices.{numbers_taken, replies_given}
use Rattle.mux_history.specs.Promises.{MayGive, is_still_accepting}
use Rattle.mux_history.specs.Solo.{run_end_of}
use Rattle.mux_history.specs.declared.ended.Ended.{Ended}
use Rattle.mux_history.specs.Right.{AreFresh}
use Rattle.mux_history.specs.Settings.{by_lists}
use Rattle.mux_history.specs.Journal.{sent_item}
use Rattle.mux_history.specs.Log.{more_all}
use Rattle.mux_core.specs.State.{CoreState}
use Rattle.mux_peers.specs.declared.run_change.RunChange.{RunChange}
use Rattle.mux_peers.specs.State.{ClientState, part}
use Rattle.mux_peers.specs.Stands.{PartFits, is_standing_lost, is_read, parse_mode_of}
use Rattle.mux_peers.specs.Says.{ComeNext, IsOfBytes}
use Rattle.mux_peers.specs.Asked.{RecordsAsks, asks_of_rows}

-- the rows after what a client sends
abbrev pub rows_sent : Policy → ℕ → List ℕ → List HouseReply → ℕ → List Row → List Outgoing → List Row
rows_sent policy pid picks given k rows says =
    more_all (by_lists policy pid picks given) rows (map (sent_item k) says)

-- these replies come next
abbrev pub ReplyNext : List HouseReply → List Row → List HouseReply → Type 0
ReplyNext used rows given = (later : List HouseReply)
    × (drop (replies_given rows) given ≡ used ++ later)

-- what was sent before what is sent by the rest
abbrev pub with_sent_before : List Outgoing → Parsed → Parsed
with_sent_before says p = record { says = says ++ p.says; mode = p.mode; rest = p.rest }

-- while the client is read the run goes on, and the rest says the rest
pub record ReadsOn (all : List ℕ) (mode : Mode) (now : ClientState) (rows' : List Row)
    (says : List Outgoing) : Type 0 where
  pub live : is_run_over rows' ≡ false
  pub rest : parse mode all ≡ with_sent_before says (parse (parse_mode_of now.peer.standing) now.rest)

-- once it isn't, nothing more makes a row: the run is over, or the client is out, or nothing more
-- is sent
pub record ReadsNoMore (all : List ℕ) (mode : Mode) (now : ClientState) (rows' : List Row)
    (says : List Outgoing) : Type 0 where
  pub more : List Outgoing
  pub sends_all : (parse mode all).says ≡ says ++ more
  pub none : ((is_run_over rows' ≡ true) ⊎ (is_out (rows_of now.peer.number rows') ≡ true))
      ⊎ (more ≡ [])
  pub stopped : is_standing_lost now.peer.standing ≡ false → is_run_over rows' ≡ false
      → (parse mode all).mode ≡ Stopped
  pub empty : now.rest ≡ []

-- what is sent is bytes
abbrev pub AreOfBytes : ℕ → List Outgoing → Type 0
AreOfBytes k [] = Unit {0}
AreOfBytes k (x ∷ says) = IsOfBytes (sent_item k x) × AreOfBytes k says

-- the end that comes later counts
abbrev pub ended_then : Option Ended → Option Ended → Option Ended
ended_then (Some cause) before = Some cause
ended_then None before = before

-- what was sent so far, in rows, what they requested of the forwarder, and what it did beyond the
-- client
pub record RunsTo (policy : Policy) (pid : ℕ) (picks : List ℕ) (given : List HouseReply) (k : ℕ)
    (mode : Mode) (all : List ℕ) (picked : List ℕ) (used : List HouseReply) (asks : List Asked)
    (rows : List Row) (core : CoreState) (up : QueueState) (now : ClientState) (heard : RunChange) :
    Type 0 where
  pub says : List Outgoing
  pub number : now.peer.number ≡ k
  pub fits : PartFits (rows_sent policy pid picks given k rows says) (part core now.peer up)
  pub taken : numbers_taken (rows_sent policy pid picks given k rows says)
      ≡ numbers_taken rows + length picked
  pub given_is : replies_given (rows_sent policy pid picks given k rows says)
      ≡ replies_given rows + length used
  pub asked : asks_of_rows (rows_sent policy pid picks given k rows says) ≡ asks_of_rows rows ++ asks
  pub fresh : AreOfBytes k says → AreFresh rows
      → AreFresh (rows_sent policy pid picks given k rows says)
  pub stops_is : is_still_accepting (rows_sent policy pid picks given k rows says)
      ≡ (not heard.stops && is_still_accepting rows)
  pub ended_is : run_end_of (rows_sent policy pid picks given k rows says)
      ≡ ended_then heard.ended (run_end_of rows)
  pub reads : is_read now.peer.standing ≡ true
      → ReadsOn all mode now (rows_sent policy pid picks given k rows says) says
  pub over : is_read now.peer.standing ≡ false
      → ReadsNoMore all mode now (rows_sent policy pid picks given k rows says) says

-- the numbers that were picked and the replies that were given so far, with one ask to each reply
pub record Receiving (May : HouseReply → Type 0) (start recorded : Option (List Asked)) (pid : ℕ)
    (all : List ℕ) (core0 : CoreState) (up0 : QueueState) (first : ClientState) (core : CoreState)
    (up : QueueState) (now : ClientState) (heard : RunChange) : Type 0 where
  pub picked : List ℕ
  pub used : List HouseReply
  pub asks : List Asked
  pub may : MayGive May used
  pub each : length asks ≡ length used
  pub records : RecordsAsks start recorded asks
  pub policy : core.policy ≡ core0.policy
  pub goes : (picks : List ℕ) (given : List HouseReply) (rows : List Row)
      → PartFits rows (part core0 first.peer up0) → is_run_over rows ≡ false → ComeNext picked rows picks
      → ReplyNext used rows given
      → RunsTo core0.policy pid picks given first.peer.number (parse_mode_of first.peer.standing) all
      picked used asks rows core up now heard

-- a piece of a client that is read: all that is sent by it was handled
pub record ReceivesPiece (May : HouseReply → Type 0) (start recorded : Option (List Asked)) (pid : ℕ)
    (bytes : List ℕ) (core0 : CoreState) (up0 : QueueState) (first : ClientState) (core : CoreState)
    (up : QueueState) (now : ClientState) (heard : RunChange) : Type 0 where
  pub receiving : Receiving May start recorded pid (first.rest ++ bytes) core0 up0 first core up now heard
  pub whole : is_read now.peer.standing ≡ true
      → first_in (parse_mode_of now.peer.standing) now.rest ≡ More

-- what was done beyond a client of which nothing was received
abbrev pub unheard : RunChange
unheard = record { stops = false; ended = None }

-- of a client that isn't read any more nothing is received
pub record ReceivesNothing (start recorded : Option (List Asked)) (core0 : CoreState) (up0 : QueueState)
    (first : ClientState) (core : CoreState) (up : QueueState) (now : ClientState) (heard : RunChange) :
    Type 0 where
  pub same : now ≡ first
  pub core_same : core ≡ core0
  pub up_same : up ≡ up0
  pub recorded_same : recorded ≡ start
  pub stops : heard.stops ≡ false
  pub ended : heard.ended ≡ None

-- a piece of one among all
abbrev pub ReceivesIn : (HouseReply → Type 0) → Option (List Asked) → Option (List Asked) → ℕ → List ℕ
    → CoreState → CoreState → QueueState → QueueState → RunChange → ClientState → ClientState → Type 0
ReceivesIn May start recorded pid bytes core0 core up0 up heard x y =
    MatchBool (is_read x.peer.standing)
    (ReceivesPiece May start recorded pid bytes core0 up0 x core up y heard)
    (ReceivesNothing start recorded core0 up0 x core up y heard)
