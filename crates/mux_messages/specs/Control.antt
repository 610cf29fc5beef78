-- A control message as the grammar sees it.
use Rattle.std.specs.Prelude.{◌≡◌, ℕ, List, length, Result, Ok, Err}
use Rattle.mux_outside.specs.declared.house.FwdAsk.{FwdAsk}
use Rattle.ssh_grammar.specs.declared.fault.BadControl.{BadControl}
use Rattle.mux_messages.specs.declared.control.Control.{Control}
use Rattle.mux_messages.specs.declared.control.Control.TheVariants as control
use Rattle.ssh_grammar.specs.ReadControl.{on_pairs}
use Rattle.ssh_grammar.specs.Control as grammar

-- what is not kept of a message: the extensions of a hello, and bytes that are not read
pub record Skipped : Type 0 where
  pub extensions : List (List ℕ × List ℕ)
  pub rest : List ℕ

abbrev pub grammar_ask_of : FwdAsk → grammar.ForwardAsk
grammar_ask_of a = record {
  kind = a.kind;
  listen_host = a.listen_host.now;
  listen_port = a.listen_port;
  connect_host = a.connect_host.now;
  connect_port = a.connect_port;
}

abbrev pub control_of : Skipped → Control → grammar.Control
control_of skipped (control.Hello version) = grammar.Hello version skipped.extensions
control_of skipped (control.NewSession id) = grammar.NewSession id skipped.rest
control_of skipped (control.Alive id) = grammar.AliveCheck id
control_of skipped (control.Terminate id) = grammar.Terminate id
control_of skipped (control.OpenForward id what) = grammar.OpenForward id (grammar_ask_of what)
control_of skipped (control.CloseForward id what) = grammar.CloseForward id (grammar_ask_of what)
control_of skipped (control.StdioForward id) = grammar.StdioForward id skipped.rest
control_of skipped (control.StopListening id) = grammar.StopListening id
control_of skipped (control.Proxy id) = grammar.Proxy id

-- what was returned is what reading gives: the message but for what is skipped, or that very fault
abbrev pub GivesControl : Result Control BadControl → Result grammar.Control BadControl → Type 0
GivesControl (Ok c) reading = (skipped : Skipped) × (reading ≡ Ok (control_of skipped c))
GivesControl (Err e) reading = reading ≡ Err e

-- the bytes are pairs of name and value up to the end
abbrev pub ArePairs : List ℕ → ℕ → Type 0
ArePairs bytes at =
    (pairs : List (List ℕ × List ℕ))
    × ((next : List (List ℕ × List ℕ) → grammar.Control) → on_pairs (length bytes) bytes at next
    ≡ Ok (next pairs))

-- they are none, with that fault
abbrev pub AreNoPairs : List ℕ → ℕ → BadControl → Type 0
AreNoPairs bytes at fault = (next : List (List ℕ × List ℕ) → grammar.Control)
    → on_pairs (length bytes) bytes at next ≡ Err fault
