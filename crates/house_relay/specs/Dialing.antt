-- What more bytes are to a dialog.
use Rattle.std.specs.Prelude.{◌≡◌, ◌≤◌, ℕ, List, [], ◌++◌, length, drop, slice_index, Option, Some, None}
use Rattle.std.specs.List.{concat}
use Rattle.proxy_frames.specs.Queued.{with_bytes}
use Rattle.proxy_frames.specs.State.{QueueState}
use Rattle.socks_dialog.specs.Replies.{granted_to, refused_to}
use Rattle.socks_dialog.specs.State.{DialogState, step_to}
use Rattle.socks_dialog.specs.declared.outcome.Outcome.TheVariants.{Wants, Connects, Breaks}
use Rattle.socks_dialog.specs.declared.step.DialogStep.{DialogStep}
use Rattle.socks_dialog.specs.declared.step.DialogStep.TheVariants as step
use Rattle.house_relay.specs.Acts.{Unanswered, outcome_in, before_in, behind_in, replies_in}
use Rattle.house_relay.specs.declared.dialing.Came.{Came}
use Rattle.house_relay.specs.declared.dialing.Came.TheVariants.{Nothing, Connect, Fault}
use Rattle.house_relay.specs.declared.dialing.DialogReceived.{DialogReceived}

-- the replies that weren't given
abbrev pub replies_left_in : DialogState → List ℕ
replies_left_in dialog = concat (drop dialog.given (before_in dialog.bytes))

-- all of them are given, into a queue, and the outcome is the next step
pub record GivesAll (old new : DialogState) (step : DialogStep) (queue queue' : QueueState) : Type 0 where
  pub outcome : step ≡ step_to (outcome_in old.bytes)
  pub bytes : new.bytes ≡ old.bytes
  pub given : new.given ≡ length (before_in old.bytes)
  pub waiting : queue' ≡ with_bytes (replies_left_in old) queue

-- no more replies were given than there are
abbrev pub GaveSome : DialogState → Type 0
GaveSome dialog = dialog.given ≤ length (before_in dialog.bytes)

-- its outcome by a step, in this version; the reply to a fault goes into the queue
abbrev pub IsCame : DialogStep → ℕ → Came → QueueState → QueueState → Type 0
IsCame step.More version came queue queue' = (came ≡ Nothing) × (queue' ≡ queue)
IsCame (step.Reply reply) version came queue queue' = (came ≡ Nothing) × (queue' ≡ queue)
IsCame (step.Connect host port) version came queue queue' =
    (came ≡ Connect host port version) × (queue' ≡ queue)
IsCame (step.Bad reply) version came queue queue' =
    (came ≡ Fault) × (queue' ≡ with_bytes reply queue)

-- a dialog that has given all replies, and wants more bytes
pub record IsDialogReading (dialog : DialogState) : Type 0 where
  pub given : dialog.given ≡ length (before_in dialog.bytes)
  pub wants : outcome_in dialog.bytes ≡ Wants

-- its outcome by all bytes
abbrev pub DialogCameTo : Came → List ℕ → DialogState → Type 0
DialogCameTo Nothing bytes new =
    (outcome_in bytes ≡ Wants) × (new.bytes ≡ bytes) × (new.given ≡ length (before_in bytes))
DialogCameTo (Connect host port version) bytes new =
    (outcome_in bytes ≡ Connects host port) × (version ≡ slice_index bytes 0)
DialogCameTo Fault bytes new = (reply : List ℕ) × (outcome_in bytes ≡ Breaks reply)

-- more bytes were received: its outcome is that, all bytes but so many of them are after it, and as
-- many bytes wait in the queue as there are more of its replies
pub record AreBytesReceived (old new : DialogState) (bytes : List ℕ) (heard : DialogReceived) (queue queue' : QueueState) : Type 0 where
  pub came : DialogCameTo heard.came (old.bytes ++ bytes) new
  pub behind : behind_in (old.bytes ++ bytes) ≡ drop heard.count bytes
  pub more : List ℕ
  pub waiting : queue'.waiting ≡ queue.waiting ++ more
  pub replies : replies_in (old.bytes ++ bytes) Unanswered ≡ replies_in old.bytes Unanswered ++ more

-- ---- the answer to the OPEN

-- what is written to a dialog of this version where its end is reached, if one waits
abbrev pub grant_of : Option ℕ → List ℕ
grant_of None = []
grant_of (Some version) = granted_to version

-- and where it isn't, for a reason
abbrev pub dialog_refusal_of : Option ℕ → ℕ → List ℕ
dialog_refusal_of None reason = []
dialog_refusal_of (Some version) reason = refused_to version reason
