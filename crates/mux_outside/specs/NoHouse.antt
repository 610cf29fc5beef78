-- What is known of a master with no forwardings of its own.
use Rattle.std.specs.Prelude.{true, false, [], None}
use Rattle.mux_outside.specs.House.{HouseState, nothing_known}

-- it records nothing, has nothing, and may have been called in any way
abbrev pub no_house : HouseState
no_house = record {
  recorded = None;
  known = nothing_known false;
  quiet = record { says = true; orders = true; answers = true };
  queue = λ t. [];
  refused = None;
  must = false;
  stands = λ calls. Unit {0};
}
