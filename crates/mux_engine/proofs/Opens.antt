-- The open requests after more marks.
use Rattle.std.proofs.Common.{◌≡◌, List, [], ◌∷◌, ◌++◌, refl}
use Rattle.mux_outside.specs.House.{OpenAsk}
use Rattle.mux_outside.specs.declared.house_mark.HouseMark.{HouseMark}
use Rattle.mux_engine.specs.Answers.{opens_after, requests_after_mark}

pub opens-append : (marks more : List HouseMark) (opens : List OpenAsk) → opens_after (marks ++ more) opens ≡ opens_after more (opens_after marks opens)
opens-append [] more opens = refl
opens-append (mark ∷ marks) more opens = opens-append marks more (requests_after_mark mark opens)
