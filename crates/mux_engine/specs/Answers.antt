-- Which requests the forwarder answers later.
use Rattle.std.specs.Prelude.{◌≡◌, ℕ, List, [], ◌∷◌}
use Rattle.mux_outside.specs.House.{OpenAsk, ReplyFits, asks_after, without_ask}
use Rattle.mux_outside.specs.declared.house.HouseReply.{HouseReply}
use Rattle.mux_outside.specs.declared.house_mark.HouseMark.{HouseMark}
use Rattle.mux_outside.specs.declared.house_mark.HouseMark.TheVariants.{HouseAsked, HouseAnswer}
use Rattle.mux_outside.specs.declared.mark.Mark.{Mark}
use Rattle.mux_outside.specs.declared.mark.Mark.TheVariants.{House}
use Rattle.mux_history.specs.Journal.{log_of_journal}
use Rattle.mux_history.specs.Log.{Setting}
use Rattle.mux_peers.specs.Asked.{asks_of_rows}
use Rattle.mux_engine.specs.Sides.{ask_marks_in, house_marks}

-- the open requests after a mark of the forwarder: one that it defers is open until it answers it
abbrev pub requests_after_mark : HouseMark → List OpenAsk → List OpenAsk
requests_after_mark (HouseAsked client id opening ask reply) opens = asks_after reply client id opening opens
requests_after_mark (HouseAnswer client id reply) opens = without_ask client id opens
requests_after_mark mark opens = opens

-- those after such marks, the oldest first
abbrev pub opens_after : List HouseMark → List OpenAsk → List OpenAsk
opens_after [] opens = opens
opens_after (mark ∷ marks) opens = opens_after marks (requests_after_mark mark opens)

-- it gives a client's request with this id a later reply
pub record AnswersOne (setting : Setting) (before : List Mark) (client id : ℕ) (reply : HouseReply) :
    Type 0 where
  -- the requests that it recorded by then are those of the rows so far
  pub asked : ask_marks_in (house_marks before) ≡ asks_of_rows (log_of_journal setting before)
  -- the reply fits one that is open then: a port only one that opens a forwarding
  pub fits : ReplyFits reply client id (opens_after (house_marks before) [])

-- of an answer
abbrev pub AnswersOpen : Setting → List Mark → Mark → Type 0
AnswersOpen setting before (House (HouseAnswer client id reply)) =
    AnswersOne setting before client id reply
AnswersOpen setting before mark = Unit {0}
