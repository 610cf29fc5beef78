-- A client that is kept, as contracts see it.
use Rattle.mux_core.specs.State.{MemberState}
use Rattle.mux_core.specs.declared.members.Member.{Member}

abbrev pub member_state : Member → MemberState
member_state c = record { number = c.number; lost = c.lost; waiting = c.answers }
