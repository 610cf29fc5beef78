-- What a wire counts.
use Rattle.mux_outside.specs.declared.turn.Tally.{Tally}

-- nothing was counted
abbrev pub no_tally : Tally
no_tally = record { clients = 0; messages = 0; data_up = 0; data_down = 0; closed = 0 }
