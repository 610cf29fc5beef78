-- The forwarder's marks and those of its streams and listeners: what an engine represents by them.
use Rattle.std.specs.Prelude.{◌≡◌, ℕ, Bool, true, List, ◌∷◌, length, Option}
use Rattle.mux_outside.specs.declared.house.HouseReply.{HouseReply}
use Rattle.mux_outside.specs.declared.house_mark.HouseMark.TheVariants.{HouseIn, HouseSaid, HouseTook, HouseAsked, HouseOrder}
use Rattle.mux_outside.specs.declared.mark.Mark.{Mark}
use Rattle.mux_outside.specs.declared.mark.Mark.TheVariants.{Accepts, Gets, Ends, Fails, Takes, WriteFails, Joins, House}
use Rattle.mux_outside.specs.declared.order.Order.{Order}
use Rattle.mux_outside.specs.declared.start_ask.StartAsk.{StartAsk}
use Rattle.mux_history.specs.declared.limits.TheConstants.{HOUSE}
use Rattle.mux_history.specs.Journal.{bytes_of, is_accepted, is_own_stream, log_of_journal}
use Rattle.mux_history.specs.Log.{Setting}
use Rattle.mux_state.specs.State.{EngineState}
use Rattle.mux_state.specs.Stands.{RepresentsSoFar}

-- two journals have the same rows, bytes and clients
pub record AreTwins (a b : List Mark) : Type 0 where
  pub log : (setting : Setting) → log_of_journal setting a ≡ log_of_journal setting b
  pub bytes : (t : ℕ) → bytes_of t a ≡ bytes_of t b
  pub accepted : (k : ℕ) → is_accepted k a ≡ is_accepted k b

-- an engine that represents one represents the other
abbrev pub StandsAlike : Type 0
StandsAlike = (a b : List Mark) (picked : List ℕ) (given : List HouseReply) (s : EngineState)
    (closed : List ℕ) → AreTwins a b → RepresentsSoFar picked given s a closed → RepresentsSoFar picked given s b closed

-- the forwarder is admitted, sends and accepts as a client does
pub record HouseIsClient : Type 0 where
  pub let_in : (marks : List Mark) → AreTwins (Accepts HOUSE ∷ marks) (House HouseIn ∷ marks)
  pub says : (marks : List Mark) (bytes : List ℕ)
      → AreTwins (Gets HOUSE bytes ∷ marks) (House (HouseSaid bytes) ∷ marks)
  pub takes : (marks : List Mark) (bytes : List ℕ) (accepts : Bool) (n : ℕ) → length bytes ≡ n
      → AreTwins (Takes HOUSE bytes accepts ∷ marks) (House (HouseTook n) ∷ marks)

-- what it was asked and what it ordered leave all as it was, and so do its listeners, and its streams
-- where they end, fail or accept bytes
pub record OwnIsSilent : Type 0 where
  pub asked : (marks : List Mark) (client id : ℕ) (opening : Bool) (ask : StartAsk)
      (reply : HouseReply) → AreTwins marks (House (HouseAsked client id opening ask reply) ∷ marks)
  pub ordered : (marks : List Mark) (order : Order) (number : Option ℕ)
      → AreTwins marks (House (HouseOrder order number) ∷ marks)
  pub joins : (marks : List Mark) (listener stream : ℕ)
      → AreTwins marks (Joins listener stream ∷ marks)
  pub ends : (marks : List Mark) (t : ℕ) → is_own_stream t ≡ true → AreTwins marks (Ends t ∷ marks)
  pub fails : (marks : List Mark) (t : ℕ) → is_own_stream t ≡ true → AreTwins marks (Fails t ∷ marks)
  pub unwritten : (marks : List Mark) (t : ℕ) → is_own_stream t ≡ true
      → AreTwins marks (WriteFails t ∷ marks)
  pub takes : (marks : List Mark) (t : ℕ) (bytes : List ℕ) (accepts : Bool)
      → is_own_stream t ≡ true
      → AreTwins marks (Takes t bytes accepts ∷ marks)
