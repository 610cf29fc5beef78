-- What the fields of an engine show.
use Rattle.mux_state.specs.declared.engine.Engine.TheInside.{Inside}
use Rattle.mux_state.specs.State.{EngineState}

-- the state that an engine is in
abbrev pub state_of : Inside → EngineState
state_of a = record {
  pid = a.pid;
  core = a.core;
  server = a.server;
  up = a.up;
  clients = a.clients.all;
  refused = a.refused;
  leaving = a.clients.leaving;
  waiting = a.waiting;
  listening = a.listening;
  ended = a.ended;
  starved = a.starved;
}
