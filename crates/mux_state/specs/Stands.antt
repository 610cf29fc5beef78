-- An engine represents a journal, the newest mark first, and the clients that were closed: one
-- clause a part.
use Rattle.std.specs.Prelude.{◌≡◌, ◌≢◌, ◌^◌, ◌-◌, min, ℕ, Bool, true, false, not, List, [], ◌∷◌, ◌++◌, length, filter, Option}
use Rattle.ssh_fields.specs.Fields.{AreBytes}
use Rattle.ssh_grammar.specs.Said.{InControl, InProxy, parse}
use Rattle.mux_outside.specs.declared.house_mark.HouseMark.{HouseMark as Asked}
use Rattle.mux_outside.specs.declared.house.HouseReply.{HouseReply}
use Rattle.mux_outside.specs.Streams.{among}
use Rattle.mux_outside.specs.declared.mark.Mark.{Mark}
use Rattle.mux_outside.specs.declared.mark.Mark.TheVariants.{Waits, Accepts, Gets, Ends, Frees, Fails, Takes, Holds, WriteFails, Joins, House}
use Rattle.mux_outside.specs.declared.house_mark.HouseMark.{HouseMark}
use Rattle.mux_outside.specs.declared.house_mark.HouseMark.TheVariants.{HouseAnswer}
use Rattle.mux_history.specs.declared.why.Why.{Why}
use Rattle.mux_history.specs.Rows.{Row, rows_of, is_out, is_run_over, losses, any_of, is_lost as has_loss, is_admit, Admit, Refused}
use Rattle.mux_history.specs.Choices.{numbers_taken, replies_given}
use Rattle.mux_history.specs.Right.{AreFresh}
use Rattle.mux_history.specs.Heard.{next_index}
use Rattle.mux_history.specs.Settings.{by_lists}
use Rattle.mux_history.specs.Log.{Setting, bare_row, served, admitted_clients}
use Rattle.mux_history.specs.Solo.{run_end_of}
use Rattle.mux_history.specs.Journal.{bytes_of, is_own_stream, log_of_journal}
pub use Rattle.mux_history.specs.Journal.{is_accepted}
use Rattle.mux_history.specs.Promises.{is_still_accepting, MayGive}
use Rattle.mux_peers.specs.State.{ClientState}
use Rattle.mux_peers.specs.Stands.{is_standing_lost, is_read, parse_mode_of}
use Rattle.mux_peers.specs.Among.{AllFit, is_present}
use Rattle.mux_peers.specs.Asked.{asks_of_rows, RecordsAsks}
use Rattle.mux_peers.specs.Starved.{BeginsWithAsked}
use Rattle.mux_peers.specs.Server.{ServerState}
use Rattle.mux_state.specs.State.{EngineState, is_here, served_in, waiting_streams}

-- the run of an engine with these numbers and replies
abbrev pub run_setting : EngineState → List ℕ → List HouseReply → Setting
run_setting s picks replies = by_lists s.core.policy s.pid picks replies

-- its rows
abbrev pub log : EngineState → List ℕ → List HouseReply → List Mark → List Row
log s picks replies marks = log_of_journal (run_setting s picks replies) marks

-- ---- for rows

abbrev pub not_closed : List ℕ → ℕ × Option Why → Bool
not_closed closed l = not (among l.0 closed)

-- the rows of a client that was admitted: it was never refused
pub record IsKnown (own : List Row) : Type 0 where
  pub admitted : any_of is_admit own ≡ true
  pub out_is : is_out own ≡ has_loss own

-- the only row of a client that was refused
abbrev pub refused_client_row : ℕ → Row
refused_client_row k = bare_row (Admit k) k (record { sent = []; recorded = []; ends = Refused })

-- the place of the server's next frame
abbrev pub next_frame_place : List Row → ℕ
next_frame_place rows = min (next_index rows) (2 ^ 64 - 1)

-- with so many numbers used, and this requested of the forwarder: the shared connection, the
-- clients and what waits for the server represent the rows, and everything else that is kept is
-- what the rows define
pub record RowsFit (taken : ℕ) (drawn : List Asked) (s : EngineState) (closed : List ℕ)
    (rows : List Row) : Type 0 where
  pub taken_is : numbers_taken rows ≡ taken
  pub drawn_is : replies_given rows ≡ length drawn
  pub asked_is : asks_of_rows rows ≡ drawn
  pub fresh : AreFresh rows
  pub fit : AllFit rows s.core s.clients s.up
  pub ended_is : s.ended ≡ run_end_of rows
  pub listening_is : s.listening ≡ is_still_accepting rows
  pub waiting_is : s.waiting ≡ waiting_streams s
  pub leaving_are : s.leaving ≡ filter (not_closed closed) (losses rows)
  pub served_are : served_in s.clients ≡ served rows
  pub place_is : is_run_over rows ≡ false → s.server.index ≡ next_frame_place rows
  -- a client that is neither here nor closed has no rows
  pub absent : (k : ℕ) → k ≢ 0 → is_here s k ≡ false → among k closed ≡ false → rows_of k rows ≡ []
  pub closed_gone : (k : ℕ) → among k closed ≡ true → is_here s k ≡ false
  pub refused_only : (k : ℕ) → among k s.refused ≡ true → rows_of k rows ≡ refused_client_row k ∷ []
  pub closed_out : (k : ℕ) → among k closed ≡ true → is_out (rows_of k rows) ≡ true
  pub known : (k : ℕ) → among k (admitted_clients rows) ≡ true → IsKnown (rows_of k rows)
  -- the server is no client
  pub unentered : among 0 (admitted_clients rows) ≡ false
  pub server_in : is_out (rows_of 0 rows) ≡ false

-- ---- for bytes

-- a client that isn't lost has read its bytes so far
pub record ClientReads (bytes : List ℕ) (c : ClientState) : Type 0 where
  pub mode_is : is_standing_lost c.peer.standing ≡ false → (parse InControl bytes).mode
      ≡ parse_mode_of c.peer.standing
  pub rest_is : is_read c.peer.standing ≡ true → (parse InControl bytes).rest ≡ c.rest

abbrev pub EachReads : List Mark → List ClientState → Type 0
EachReads marks [] = Unit {0}
EachReads marks (c ∷ cs) = ClientReads (bytes_of c.peer.number marks) c × EachReads marks cs

pub record ServerReads (bytes : List ℕ) (server : ServerState) : Type 0 where
  pub mode_is : (parse InProxy bytes).mode ≡ InProxy
  pub rest_is : (parse InProxy bytes).rest ≡ server.rest

-- a client that was never accepted: it is not known, and it sent nothing, unless its number is that
-- of a stream of the master's own
pub record IsStrange (s : EngineState) (marks : List Mark) (closed : List ℕ) (k : ℕ) : Type 0 where
  pub not_here : is_here s k ≡ false
  pub not_closed_yet : among k closed ≡ false
  pub no_bytes : (k ≢ 0) × (is_own_stream k ≡ false) → bytes_of k marks ≡ []

pub record BytesFit (s : EngineState) (marks : List Mark) (closed : List ℕ) (rows : List Row) :
    Type 0 where
  pub are_bytes : (t : ℕ) → AreBytes (bytes_of t marks)
  pub clients : is_run_over rows ≡ false → EachReads marks s.clients
  pub server : is_run_over rows ≡ false → ServerReads (bytes_of 0 marks) s.server
  -- while the run goes on, one that was accepted is here or closed
  pub there : is_run_over rows ≡ false → (k : ℕ) → is_accepted k marks ≡ true → is_here s k ≡ false
      → among k closed ≡ true
  pub strange : (k : ℕ) → is_accepted k marks ≡ false → IsStrange s marks closed k

-- ---- for a journal

-- with these picks and replies
pub record EngineRepresents (picks : List ℕ) (replies : List HouseReply) (taken : ℕ) (drawn : List Asked)
    (s : EngineState) (marks : List Mark) (closed : List ℕ) : Type 0 where
  pub rows : RowsFit taken drawn s closed (log s picks replies marks)
  pub bytes : BytesFit s marks closed (log s picks replies marks)

-- these numbers were used and these replies given so far, one to each request, and whatever is
-- picked and replied later, the engine represents the marks and the clients that were closed
pub record RepresentsSoFar (picked : List ℕ) (given : List HouseReply) (s : EngineState) (marks : List Mark)
    (closed : List ℕ) : Type 0 where
  pub asks : List Asked
  pub each : length asks ≡ length given
  pub at : (picks : List ℕ) (replies : List HouseReply)
      → EngineRepresents (picked ++ picks) (given ++ replies) (length picked) asks s marks closed

-- ---- one step more

-- a reply of the forwarder is for a client that was accepted
abbrev pub HouseAllowed : List Mark → HouseMark → Type 0
HouseAllowed marks (HouseAnswer client id given) = (client ≢ 0) × (is_accepted client marks ≡ true)
HouseAllowed marks mark = Unit {0}

-- what may come after these marks: a client is accepted once, and other marks name one that was
-- accepted; none names a stream of the master's own
abbrev pub IsAllowed : EngineState → List Mark → Mark → Type 0
IsAllowed s marks (Accepts k) =
    (k ≢ 0) × (is_accepted k marks ≡ false) × (is_own_stream k ≡ false)
IsAllowed s marks (Gets k bytes) =
    (k ≢ 0 → is_accepted k marks ≡ true) × AreBytes bytes × (is_own_stream k ≡ false)
IsAllowed s marks (Ends k) = (k ≢ 0 → is_accepted k marks ≡ true) × (is_own_stream k ≡ false)
IsAllowed s marks (Fails k) = (k ≢ 0 → is_accepted k marks ≡ true) × (is_own_stream k ≡ false)
IsAllowed s marks (WriteFails k) = (k ≢ 0 → is_accepted k marks ≡ true) × (is_own_stream k ≡ false)
IsAllowed s marks (Takes k bytes accepts) =
    (k ≢ 0 → is_present s.clients k ≡ true) × (is_own_stream k ≡ false)
IsAllowed s marks (House mark) = HouseAllowed marks mark
IsAllowed s marks (Joins listener stream) = Unit {0}
IsAllowed s marks (Frees k) = Unit {0}
IsAllowed s marks (Holds k) = Unit {0}
IsAllowed s marks (Waits waiting want streams shown) = Unit {0}

-- Some numbers more were picked and some replies given, each of which the forwarder may give, and
-- the engine represents the journal with the mark. To the forwarder, which recorded `before` and
-- records `now`, exactly these requests were reported, which are those that the new rows have.
pub record GoesBy (May : HouseReply → Type 0) (before now : Option (List Asked)) (picked : List ℕ)
    (given : List HouseReply) (old new : EngineState) (mark : Mark) (marks : List Mark)
    (closed : List ℕ) : Type 0 where
  pub picks : List ℕ
  pub replies : List HouseReply
  pub asks : List Asked
  pub may : MayGive May replies
  pub stands : RepresentsSoFar (picked ++ picks) (given ++ replies) new (mark ∷ marks) closed
  pub recorded : RecordsAsks before now asks
  pub asked : (p : List ℕ) (r : List HouseReply)
      → asks_of_rows (log new ((picked ++ picks) ++ p) ((given ++ replies) ++ r) (mark ∷ marks))
      ≡ asks_of_rows (log old ((picked ++ picks) ++ p) ((given ++ replies) ++ r) marks) ++ asks

-- from every journal that the engine represented, it stands afterwards for that journal with the
-- mark
abbrev pub GoesOn : (HouseReply → Type 0) → Option (List Asked) → Option (List Asked) → EngineState
    → EngineState → Mark → Type 0
GoesOn May before now old new mark =
    (picked : List ℕ) (given : List HouseReply) (marks : List Mark) (closed : List ℕ)
    → RepresentsSoFar picked given old marks closed → IsAllowed old marks mark
    → GoesBy May before now picked given old new mark marks closed

-- Memory ran out for the mark. Some numbers more were picked and some replies given, each of which
-- the forwarder may give. To the forwarder, which recorded `before` and records `now`, these
-- requests were reported, which are the first of those that the rows of the mark have.
pub record AsksFirst (May : HouseReply → Type 0) (before now : Option (List Asked))
    (picked : List ℕ) (given : List HouseReply) (s : EngineState) (mark : Mark) (marks : List Mark) :
    Type 0 where
  pub picks : List ℕ
  pub replies : List HouseReply
  pub asks : List Asked
  pub may : MayGive May replies
  pub recorded : RecordsAsks before now asks
  pub begins : (p : List ℕ) (r : List HouseReply)
      → BeginsWithAsked (asks_of_rows (log s ((picked ++ picks) ++ p) ((given ++ replies) ++ r) marks)) asks
      (asks_of_rows (log s ((picked ++ picks) ++ p) ((given ++ replies) ++ r) (mark ∷ marks)))

-- from every journal that the engine represented
abbrev pub CutsShort : (HouseReply → Type 0) → Option (List Asked) → Option (List Asked) → EngineState
    → Mark → Type 0
CutsShort May before now s mark =
    (picked : List ℕ) (given : List HouseReply) (marks : List Mark) (closed : List ℕ)
    → RepresentsSoFar picked given s marks closed → IsAllowed s marks mark
    → AsksFirst May before now picked given s mark marks

-- an engine goes on where nothing is picked and nothing is requested of the forwarder
abbrev pub GoesAlone : EngineState → EngineState → Mark → Type 0
GoesAlone old new mark =
    (picked : List ℕ) (given : List HouseReply) (marks : List Mark) (closed : List ℕ)
    → RepresentsSoFar picked given old marks closed → IsAllowed old marks mark
    → RepresentsSoFar picked given new (mark ∷ marks) closed

-- the client is the first of those that are lost and not closed
abbrev pub IsFirstLost : ℕ → List (ℕ × Option Why) → Type 0
IsFirstLost k [] = ⊥
IsFirstLost k (l ∷ ls) = l.0 ≡ k

-- and from every list of clients that were closed, for that list with the client
abbrev pub Closes : EngineState → EngineState → ℕ → Type 0
Closes old new k =
    (picked : List ℕ) (given : List HouseReply) (marks : List Mark) (closed : List ℕ)
    → RepresentsSoFar picked given old marks closed → RepresentsSoFar picked given new marks (k ∷ closed)
