-- What happens in one relay, the newest first, and the outcome of it. Some begin with a dialog of
-- SOCKS, which specifies the end of the channel.
use Rattle.std.specs.Prelude.{◌≡◌, ◌+◌, ◌-◌, ◌≤◌, ℕ, Bool, true, false, List, [], ◌∷◌, ◌++◌, length, drop, slice_index, IsTrue}
use Rattle.std.specs.List.{concat}
use Rattle.mux_outside.specs.declared.piece.TheConstants.{LONGEST_PIECE}
use Rattle.socks_dialog.specs.Replies.{granted_to, refused_to}
use Rattle.socks_dialog.specs.Socks.{socks}
use Rattle.socks_dialog.specs.declared.outcome.Outcome.{Outcome}
use Rattle.socks_dialog.specs.declared.outcome.Outcome.TheVariants.{Wants, Connects, Breaks}

-- the socket gave bytes, or its end, or accepted some of those that waited, or failed; the OPEN
-- was confirmed, or refused for a reason; data was delivered in the channel; EOF or CLOSE was
-- received there; data, room for so many bytes, EOF or CLOSE was sent there; or nothing of this
pub data RelayAct : Type 0 where
  Reads : (bytes : List ℕ) → RelayAct
  Ends : RelayAct
  Takes : (bytes : List ℕ) → RelayAct
  Fails : RelayAct
  Confirms : RelayAct
  Refuses : (reason : ℕ) → RelayAct
  Delivers : (bytes : List ℕ) → RelayAct
  ReceivesEof : RelayAct
  ReceivesClose : RelayAct
  SendsData : (bytes : List ℕ) → RelayAct
  SendsAdjust : (n : ℕ) → RelayAct
  SendsEof : RelayAct
  SendsClose : RelayAct
  Other : RelayAct

-- all bytes read from the socket
abbrev pub read : List RelayAct → List ℕ
read [] = []
read (Reads bytes ∷ acts) = read acts ++ bytes
read (_ ∷ acts) = read acts

-- all data sent in the channel
abbrev pub all_data_sent : List RelayAct → List ℕ
all_data_sent [] = []
all_data_sent (SendsData bytes ∷ acts) = all_data_sent acts ++ bytes
all_data_sent (_ ∷ acts) = all_data_sent acts

-- all data delivered in the channel
abbrev pub delivered : List RelayAct → List ℕ
delivered [] = []
delivered (Delivers bytes ∷ acts) = delivered acts ++ bytes
delivered (_ ∷ acts) = delivered acts

-- all bytes that the socket accepted
abbrev pub socket_accepted : List RelayAct → List ℕ
socket_accepted [] = []
socket_accepted (Takes bytes ∷ acts) = socket_accepted acts ++ bytes
socket_accepted (_ ∷ acts) = socket_accepted acts

-- how many they are
abbrev pub accepted_length : List RelayAct → ℕ
accepted_length [] = 0
accepted_length (Takes bytes ∷ acts) = accepted_length acts + length bytes
accepted_length (_ ∷ acts) = accepted_length acts

-- for how many bytes room was given back
abbrev pub adjusted : List RelayAct → ℕ
adjusted [] = 0
adjusted (SendsAdjust n ∷ acts) = adjusted acts + n
adjusted (_ ∷ acts) = adjusted acts

-- whether the socket gave its end
abbrev pub socket_has_ended : List RelayAct → Bool
socket_has_ended [] = false
socket_has_ended (Ends ∷ acts) = true
socket_has_ended (_ ∷ acts) = socket_has_ended acts

-- whether EOF was received
abbrev pub received_eof : List RelayAct → Bool
received_eof [] = false
received_eof (ReceivesEof ∷ acts) = true
received_eof (_ ∷ acts) = received_eof acts

-- whether CLOSE was received
abbrev pub received_close : List RelayAct → Bool
received_close [] = false
received_close (ReceivesClose ∷ acts) = true
received_close (_ ∷ acts) = received_close acts

-- whether EOF was sent
abbrev pub sent_eof : List RelayAct → Bool
sent_eof [] = false
sent_eof (SendsEof ∷ acts) = true
sent_eof (_ ∷ acts) = sent_eof acts

-- whether CLOSE was sent
abbrev pub was_close_sent : List RelayAct → Bool
was_close_sent [] = false
was_close_sent (SendsClose ∷ acts) = true
was_close_sent (_ ∷ acts) = was_close_sent acts

-- ---- the dialog in front

-- what the server answered to the OPEN
pub data OpenAnswer : Type 0 where
  Unanswered : OpenAnswer
  Confirmed : OpenAnswer
  Refused : (reason : ℕ) → OpenAnswer

abbrev pub answer : List RelayAct → OpenAnswer
answer [] = Unanswered
answer (Confirms ∷ acts) = Confirmed
answer (Refuses reason ∷ acts) = Refused reason
answer (_ ∷ acts) = answer acts

-- the outcome of the dialog of these bytes
unfoldable pub outcome_in : List ℕ → Outcome
outcome_in bytes = (socks bytes).outcome

-- its replies before that
unfoldable pub before_in : List ℕ → List (List ℕ)
before_in bytes = (socks bytes).replies

-- the bytes after it
unfoldable pub behind_in : List ℕ → List ℕ
behind_in bytes = (socks bytes).rest

-- its last reply: where it breaks the reply to that, and where it asks for an end that the end is
-- reached once the OPEN is confirmed, or that it isn't once it is refused
abbrev pub last_reply : Outcome → ℕ → OpenAnswer → List ℕ
last_reply Wants version a = []
last_reply (Breaks reply) version a = reply
last_reply (Connects host port) version Unanswered = []
last_reply (Connects host port) version Confirmed = granted_to version
last_reply (Connects host port) version (Refused reason) = refused_to version reason

-- all its replies
unfoldable pub replies_in : List ℕ → OpenAnswer → List ℕ
replies_in bytes a =
    concat (before_in bytes) ++ last_reply (outcome_in bytes) (slice_index bytes 0) a

-- where a relay begins with a dialog, the replies to it
abbrev pub replies_if : Bool → List ℕ → OpenAnswer → List ℕ
replies_if false bytes a = []
replies_if true bytes a = replies_in bytes a

abbrev pub dialog_replies : Bool → List RelayAct → List ℕ
dialog_replies dials acts = replies_if dials (read acts) (answer acts)

-- and what is for the channel are the bytes after it
abbrev pub behind_if : Bool → List ℕ → List ℕ
behind_if false bytes = bytes
behind_if true bytes = behind_in bytes

abbrev pub read_after_dialog : Bool → List RelayAct → List ℕ
read_after_dialog dials acts = behind_if dials (read acts)

-- ---- what is left

-- the bytes for the channel that were read and not sent
abbrev pub read_not_sent : Bool → List RelayAct → List ℕ
read_not_sent dials acts = drop (length (all_data_sent acts)) (read_after_dialog dials acts)

-- what the socket is to be given: the replies, and then what was delivered
abbrev pub to_take : Bool → List RelayAct → List ℕ
to_take dials acts = dialog_replies dials acts ++ delivered acts

-- that of it which the socket didn't accept
abbrev pub waiting : Bool → List RelayAct → List ℕ
waiting dials acts = drop (accepted_length acts) (to_take dials acts)

-- how many bytes of data the socket accepted: those that it accepted after the replies
abbrev pub taken_data : Bool → List RelayAct → ℕ
taken_data dials acts = accepted_length acts - length (dialog_replies dials acts)

-- ---- what holds at every moment

-- what is sent was read before it, after the dialog; what the socket accepts are the replies to the
-- dialog, and then what was delivered before it; all is in order; no more room is given back than
-- data was accepted; EOF goes on after everything alone; and no more is held than one piece has at
-- most
pub record Relays (dials : Bool) (acts : List RelayAct) : Type 0 where
  pub prefix : all_data_sent acts ++ read_not_sent dials acts ≡ read_after_dialog dials acts
  pub in_order : socket_accepted acts ++ waiting dials acts ≡ to_take dials acts
  pub fits : accepted_length acts ≤ length (to_take dials acts)
  pub granted : adjusted acts ≤ taken_data dials acts
  pub last : IsTrue (sent_eof acts) → IsTrue (socket_has_ended acts) × (read_not_sent dials acts ≡ [])
  pub few : length (read_not_sent dials acts) ≤ LONGEST_PIECE
