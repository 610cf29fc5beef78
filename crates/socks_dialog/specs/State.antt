-- What contracts see of a dialog, and what it represents.
use Rattle.std.specs.Prelude.{◌≡◌, ℕ, ◌+◌, ◌-◌, ◌≤◌, Bool, true, false, List, [], ◌∷◌, ◌++◌, length, take, drop, slice_index}
use Rattle.socks_dialog.specs.Socks.{Dialog, socks}
use Rattle.socks_dialog.specs.declared.outcome.Outcome.{Outcome}
use Rattle.socks_dialog.specs.declared.outcome.Outcome.TheVariants.{Wants, Connects, Breaks}
use Rattle.socks_dialog.specs.declared.step.DialogStep.{DialogStep}
use Rattle.socks_dialog.specs.declared.step.DialogStep.TheVariants as step

-- the bytes of the dialog so far, and how many of its replies were given
pub record DialogState : Type 0 where
  pub bytes : List ℕ
  pub given : ℕ

-- how many replies were given
abbrev pub count_given : Bool → ℕ
count_given true = 1
count_given false = 0

-- of all bytes, those of the dialog
abbrev pub dialog_bytes : List ℕ → List ℕ
dialog_bytes bytes = take (length bytes - length (socks bytes).rest) bytes

-- as many bytes are kept as are counted, and none after the dialog
pub record AreBytesWithin (kept : ℕ) (bytes : List ℕ) : Type 0 where
  pub most : kept ≤ 520
  pub none : (socks bytes).rest ≡ []

-- ---- calls

-- no byte came
abbrev pub new_dialog : DialogState
new_dialog = record { bytes = []; given = 0 }

-- after more bytes
abbrev pub dialog_pushed : List ℕ → DialogState → DialogState
dialog_pushed piece d = record d { bytes = dialog_bytes (d.bytes ++ piece) }

-- the outcome as a step
abbrev pub step_to : Outcome → DialogStep
step_to Wants = step.More
step_to (Connects host port) = step.Connect host port
step_to (Breaks reply) = step.Bad reply

-- the first reply that wasn't given, and after the last one the outcome
abbrev pub step_in : List (List ℕ) → Outcome → DialogStep
step_in (reply ∷ more) outcome = step.Reply reply
step_in [] outcome = step_to outcome

-- how many replies are given by that step
abbrev pub gives_in : List (List ℕ) → ℕ
gives_in (reply ∷ more) = 1
gives_in [] = 0

-- the replies that weren't given
abbrev pub to_give : ℕ → Dialog → List (List ℕ)
to_give given d = drop given d.replies

abbrev pub step_of : DialogState → DialogStep
step_of d = step_in (to_give d.given (socks d.bytes)) (socks d.bytes).outcome

abbrev pub dialog_stepped : DialogState → DialogState
dialog_stepped d = record d { given = d.given + gives_in (to_give d.given (socks d.bytes)) }

-- this end was given
abbrev pub IsConnect : Outcome → Type 0
IsConnect Wants = ⊥
IsConnect (Connects host port) = Unit {0}
IsConnect (Breaks reply) = ⊥

abbrev pub HasConnect : DialogState → Type 0
HasConnect d = IsConnect (socks d.bytes).outcome

-- a step gives it
abbrev pub GivesConnect : DialogStep → Type 0
GivesConnect (step.Connect host port) = Unit {0}
GivesConnect step.More = ⊥
GivesConnect (step.Reply reply) = ⊥
GivesConnect (step.Bad reply) = ⊥

-- the version that the dialog began with
abbrev pub version_of : DialogState → ℕ
version_of d = slice_index d.bytes 0

-- ---- over all that came

-- all bytes of the client, what follows the dialog too, and the replies that were given
pub record DialogHistory : Type 0 where
  pub bytes : List ℕ
  pub given : List (List ℕ)

abbrev pub new_dialog_history : DialogHistory
new_dialog_history = record { bytes = []; given = [] }

-- more bytes came
abbrev pub and_dialog_bytes : List ℕ → DialogHistory → DialogHistory
and_dialog_bytes piece h = record h { bytes = h.bytes ++ piece }

-- what comes next: the first reply that wasn't given, and after the last one the outcome
abbrev pub next_dialog_step : DialogHistory → DialogStep
next_dialog_step h = step_in (to_give (length h.given) (socks h.bytes)) (socks h.bytes).outcome

-- a reply was given by this step, or none
abbrev pub and_step : DialogStep → DialogHistory → DialogHistory
and_step (step.Reply reply) h = record h { given = h.given ++ reply ∷ [] }
and_step _ h = h

-- the dialog is that of all bytes, and the replies given are its first ones
pub record DialogRepresents (h : DialogHistory) (d : DialogState) : Type 0 where
  pub bytes : d.bytes ≡ dialog_bytes h.bytes
  pub given : h.given ≡ take d.given (socks h.bytes).replies
  pub some : d.given ≤ length (socks h.bytes).replies

-- of each history that it represented before a call, it represents afterwards what that became
abbrev pub DialogGoesOn : DialogState → DialogState → (DialogHistory → DialogHistory) → Type 0
DialogGoesOn old new event = (h : DialogHistory) → DialogRepresents h old → DialogRepresents (event h) new

-- of each history that it represented, this is what comes next
abbrev pub IsNextStep : DialogState → DialogStep → Type 0
IsNextStep old answer = (h : DialogHistory) → DialogRepresents h old → answer ≡ next_dialog_step h

-- of each history that it represented, what follows the dialog is what followed it, and then these
-- bytes but for so many
abbrev pub RestIs : DialogState → List ℕ → ℕ → Type 0
RestIs old piece taken = (h : DialogHistory) → DialogRepresents h old
    → (socks (h.bytes ++ piece)).rest ≡ (socks h.bytes).rest ++ drop taken piece
