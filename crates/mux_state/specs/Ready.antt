-- What an engine keeps so that every event can be applied.
use Rattle.std.specs.Prelude.{◌≡◌, ℕ, true, false, List, Option, None, map}
use Rattle.ssh_grammar.specs.declared.framing.Framing.TheVariants.{Proxy}
use Rattle.mux_outside.specs.Streams.{among}
use Rattle.mux_history.specs.declared.why.Why.{Why}
use Rattle.mux_peers.specs.Room.{HasRoom}
use Rattle.mux_state.specs.State.{EngineState}

-- there is room for the farewells of all clients that are served, and the server's bytes are cut
-- into frames
pub record IsEngineReady (s : EngineState) : Type 0 where
  pub room : HasRoom s.clients s.up
  pub cuts : s.server.framing ≡ Proxy
  pub well : s.server.fault ≡ None

-- each of these clients is to be closed
abbrev pub AreListed : List ℕ → List (ℕ × Option Why) → Type 0
AreListed ks leaving = (k : ℕ) → among k ks ≡ true → among k (map (λ l. l.0) leaving) ≡ true

-- an engine is ready while the run goes on and there was memory; and each client that was refused
-- is to be closed
pub record IsEngineSound (s : EngineState) : Type 0 where
  pub ready : s.starved ≡ false → s.ended ≡ None → IsEngineReady s
  pub refused : AreListed s.refused s.leaving
