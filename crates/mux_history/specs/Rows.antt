-- The log: what happened, in rows. Lists of rows have the newest row first.
use Rattle.std.specs.Prelude.{ℕ, ◌==◌, ◌++◌, ◌||◌, List, [], ◌∷◌, Option, Some, None, Bool, true, false, filter}
use Rattle.mux_outside.specs.declared.house.HouseReply.{HouseReply}
use Rattle.ssh_grammar.specs.declared.fault.BadFrame.{BadFrame}
use Rattle.ssh_grammar.specs.Said.{Outgoing}
use Rattle.mux_history.specs.declared.why.Why.{Why}
use Rattle.mux_history.specs.declared.ended.Ended.{Ended}

-- What happened at once.
--
-- - A client came in; sent something, with the reply of the forwarder if it is a request to it; the
--   forwarder replied to a request of it later; or its stream is gone.
-- - The server sent a payload, or a frame that is none; its stream ended, ended so many bytes into
--   a frame, or failed.
-- - A stream accepted bytes.
-- - RunEnd shows a client alone how the run ended.
pub data Item : Type 0 where
  Admit : (client : ℕ) → Item
  Says : (client : ℕ) (outgoing : Outgoing) (reply : Option HouseReply) → Item
  HouseSays : (client id : ℕ) (reply : HouseReply) → Item
  Gone : (client : ℕ) → Item
  Heard : (payload : List ℕ) → Item
  BadServer : (fault : BadFrame) → Item
  ServerEnd : Item
  ServerCut : (left : ℕ) → Item
  ServerFailed : Item
  Took : (stream size : ℕ) → Item
  RunEnd : (cause : Ended) → Item

-- what becomes of the run and of the row's client
pub data Fate : Type 0 where
  Goes : Fate
  Refused : Fate
  Drop : (why : Why) → Fate
  End : (cause : Ended) → Fate

-- one row: its item, the client that it concerns (0 where it concerns none), the payloads that the
-- item sends to the server, those that are sent after them because the row loses its client, the
-- frames for that client, and the fate
pub record Row : Type 0 where
  pub item : Item
  pub client : ℕ
  pub up : List (List ℕ)
  pub farewell : List (List ℕ)
  pub down : List (List ℕ)
  pub fate : Fate

-- some element passes
abbrev pub any_of : {X : Type 0} → (X → Bool) → List X → Bool
any_of test [] = false
any_of test (x ∷ xs) = test x || any_of test xs

-- the rows that concern a client
abbrev pub rows_of : ℕ → List Row → List Row
rows_of k rows = filter (λ row. row.client == k) rows

-- all payloads that a row sends to the server
abbrev pub sent_by : Row → List (List ℕ)
sent_by row = row.up ++ row.farewell

-- a row that loses its client: its stream is gone, or it is dropped
abbrev pub loses : Row → Bool
loses row = elim row.fate [
  | Drop why ↦ true
  | Goes ↦ elim row.item [ Gone k ↦ true | _ ↦ false ]
  | _ ↦ false
]

-- some row lost the client
abbrev pub is_lost : List Row → Bool
is_lost own = any_of loses own

-- a row that lets its client in
abbrev pub is_admit : Row → Bool
is_admit row = elim row.fate [ Refused ↦ false | _ ↦ elim row.item [ Admit k ↦ true | _ ↦ false ] ]

-- the client was not admitted
abbrev pub is_refusal : Fate → Bool
is_refusal Refused = true
is_refusal _ = false

-- the client is out: lost, or refused
abbrev pub is_out : List Row → Bool
is_out own = any_of (λ row. loses row || is_refusal row.fate) own

-- the run ends
abbrev pub is_end : Fate → Bool
is_end (End cause) = true
is_end _ = false

-- the run is over
abbrev pub is_run_over : List Row → Bool
is_run_over rows = any_of (λ row. is_end row.fate) rows

-- the loss of one row
abbrev pub loss_by : Row → List (ℕ × Option Why)
loss_by row = elim row.fate [
  | Drop cause ↦ (row.client, Some cause) ∷ []
  | Refused ↦ (row.client, None) ∷ []
  | Goes ↦ elim row.item [ Gone k ↦ (row.client, None) ∷ [] | _ ↦ [] ]
  | End cause ↦ []
]

-- the clients that were lost or refused, in that order, each with why it was dropped, if it was
abbrev pub losses : List Row → List (ℕ × Option Why)
losses [] = []
losses (row ∷ before) = losses before ++ loss_by row
