-- What was requested of the forwarder, read from the rows.
use Rattle.std.specs.Prelude.{◌≡◌, ℕ, Bool, true, false, List, [], ◌∷◌, ◌++◌, OnOk, Option, Some, option_map, Result, Ok}
use Rattle.mux_outside.specs.House.{HouseState, Known, known_after_ask}
use Rattle.mux_outside.specs.HouseCalls.{HandsOn, calls_of}
use Rattle.mux_outside.specs.declared.house_mark.HouseMark.{HouseMark}
use Rattle.mux_outside.specs.declared.house_mark.HouseMark.TheVariants.{HouseAsked}
use Rattle.mux_outside.specs.declared.house.HouseReply.{HouseReply}
use Rattle.ssh_grammar.specs.declared.fault.BadControl.{BadControl}
use Rattle.ssh_grammar.specs.Control.{Control, ForwardAsk, OpenForward, CloseForward}
use Rattle.ssh_grammar.specs.ReadControl.{read_control}
use Rattle.ssh_grammar.specs.Said.{Outgoing, Body}
use Rattle.mux_history.specs.Rows.{Row, Item, Says}

-- a client's ask, to open a forwarding or to close it, with the reply
abbrev pub ask_of : ℕ → ℕ → Bool → ForwardAsk → HouseReply → HouseMark
ask_of k id opening what reply = HouseAsked k id opening (record {
  kind = what.kind;
  listen_host = what.listen_host;
  listen_port = what.listen_port;
  connect_host = what.connect_host;
  connect_port = what.connect_port;
  path = false;
}) reply

-- what a client's control message that reads so requests
abbrev pub reading_asks : ℕ → HouseReply → Result Control BadControl → List HouseMark
reading_asks k reply (Ok (OpenForward id what)) = ask_of k id true what reply ∷ []
reading_asks k reply (Ok (CloseForward id what)) = ask_of k id false what reply ∷ []
reading_asks k reply reading = []

-- what an item that a client sent requests, to which the forwarder replied so
abbrev pub sending_asks : ℕ → Outgoing → Option HouseReply → List HouseMark
sending_asks k (Body body) (Some reply) = reading_asks k reply (read_control body)
sending_asks k outgoing reply = []

-- the request of an item, where it has one
abbrev pub item_asks : Item → List HouseMark
item_asks (Says k outgoing reply) = sending_asks k outgoing reply
item_asks item = []

-- the request of a row, where it has one
abbrev pub asked_by : Row → List HouseMark
asked_by row = item_asks row.item

-- the requests of the rows, the oldest first
abbrev pub asks_of_rows : List Row → List HouseMark
asks_of_rows [] = []
asks_of_rows (row ∷ before) = asks_of_rows before ++ asked_by row

-- what a forwarder records now, if it recorded `before` then and these requests were made of it
-- since
abbrev pub RecordsAsks : Option (List HouseMark) → Option (List HouseMark) → List HouseMark → Type 0
RecordsAsks before now asks = now ≡ option_map (λ recorded. recorded ++ asks) before

-- ---- what is noted of the requests, and what is known of the forwarder that they went to

-- what is known of a forwarder after these requests
abbrev pub known_after : List HouseMark → Known → Known
known_after [] known = known
known_after (HouseAsked client id opening ask reply ∷ marks) known =
    known_after marks (known_after_ask reply client id opening known)
known_after (mark ∷ marks) known = known_after marks known

-- what was requested of the forwarder since is what was added to the list of requests: it recorded
-- that, and represents it. If memory ran out, perhaps more was requested of it than was noted
pub record Applies {A E : Type 0} (result : Result A E) (asks asks' : List HouseMark)
    (old new : HouseState) : Type 0 where
  pub more : List HouseMark
  pub unnoted : List HouseMark
  pub noted : asks' ≡ asks ++ more
  pub all_noted : OnOk result (unnoted ≡ [])
  pub recorded : RecordsAsks old.recorded new.recorded (more ++ unnoted)
  pub known : OnOk result (new.known ≡ known_after more old.known)
  pub must : new.must ≡ old.must
  pub stands : OnOk result (HandsOn old.stands new.stands (calls_of more))
