-- A client that comes, from every list of rows for which the core and all clients stood.
use Rattle.std.specs.Prelude.{◌≡◌, ℕ, Bool, false, List, [], ◌∷◌, nat_lt}
use Rattle.mux_outside.specs.declared.house.HouseReply.{HouseReply}
use Rattle.ssh_grammar.specs.declared.numbers.TheConstants.{VERSION}
use Rattle.ssh_grammar.specs.Control.{Greets}
use Rattle.ssh_grammar.specs.Frames.{frame_answer}
use Rattle.proxy_frames.specs.State.{QueueState}
use Rattle.mux_history.specs.declared.limits.TheConstants.{MAX_CLIENTS}
use Rattle.mux_history.specs.Policy.{Policy}
use Rattle.mux_history.specs.Rows.{Row, Admit, is_run_over}
use Rattle.mux_history.specs.Settings.{by_lists}
use Rattle.mux_history.specs.Log.{next_row, open_matters}
use Rattle.mux_core.specs.State.{CoreState}
use Rattle.mux_core.specs.Calls.{IsNewClient}
use Rattle.mux_peers.specs.declared.standing.Standing.TheVariants.{Awaited}
use Rattle.mux_peers.specs.State.{ClientState}
use Rattle.mux_peers.specs.Among.{AllFit}
use Rattle.mux_peers.specs.Receivings.{AreHere}

-- the master's hello waits for it, and its own is awaited
abbrev pub new_client : ℕ → ClientState
new_client k = record {
  peer =
      record { number = k; standing = Awaited; queue = frame_answer (Greets VERSION) };
  rest = [];
}

-- with its row all clients represent the longer log, and it is admitted exactly if fewer than 64
-- have open matters
pub record EntersBy (core' : CoreState) (cs cs' : List ClientState) (queue : QueueState)
    (let_in : Bool) (rows : List Row) (row : Row) : Type 0 where
  pub exact : let_in ≡ nat_lt (open_matters rows) MAX_CLIENTS
  pub fit : AllFit (row ∷ rows) core' cs' queue
  pub here : AreHere rows cs → AreHere (row ∷ rows) cs'

abbrev pub PeerEnters : ℕ → CoreState → CoreState → List ClientState → List ClientState → Bool → Type 0
PeerEnters k core core' cs cs' let_in =
    (policy : Policy) (pid : ℕ) (picks : List ℕ) (given : List HouseReply) (queue : QueueState)
    (rows : List Row) → AllFit rows core cs queue → is_run_over rows ≡ false → IsNewClient k rows
    → EntersBy core' cs cs' queue let_in rows
    (next_row (by_lists policy pid picks given) rows (Admit k))
