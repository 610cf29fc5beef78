-- What the grammar promises, over all bytes.
use Rattle.std.specs.Prelude.{◌≡◌, ℕ, ◌^◌, ◌<◌, List, [], ◌∷◌, ◌++◌, map, Option, Some, None, Ok, IfOk}
use Rattle.std.specs.List.{AllByRecursion}
use Rattle.ssh_fields.specs.Fields.{AreBytes}
use Rattle.ssh_grammar.specs.declared.fault.BadFrame.{BadFrame}
use Rattle.ssh_grammar.specs.declared.framing.Framing.{Framing}
use Rattle.ssh_grammar.specs.declared.framing.Framing.TheVariants as framing
use Rattle.ssh_grammar.specs.Messages.{Message}
use Rattle.ssh_grammar.specs.ReadMessage.{read_message}
use Rattle.ssh_grammar.specs.SpellMessage.{spell, recipient_of, sender_of, recipient_place, sender_place, with_recipient, with_sender}
use Rattle.ssh_grammar.specs.IsMessage.{IsMessage, Spells}
use Rattle.ssh_grammar.specs.Renumber.{to_recipient, to_sender, NumberStandsAt}
use Rattle.ssh_grammar.specs.Control.{Control, Answer}
use Rattle.ssh_grammar.specs.ReadControl.{read_control}
use Rattle.ssh_grammar.specs.SpellControl.{spell_control, spell_answer}
use Rattle.ssh_grammar.specs.IsControl.{IsControl, SpellsControl}
use Rattle.ssh_grammar.specs.ReadAnswer.{read_answer, IsAnswer}
use Rattle.ssh_grammar.specs.Frames.{Cut, cut, frame}
use Rattle.ssh_grammar.specs.IsFrame.{IsContent, bytes_of_frames, Cuts}
use Rattle.ssh_grammar.specs.Said.{Mode, InControl, InProxy, Stopped, Outgoing, Body, Payload, BadFraming, after_body, parse, and_then, said, heard}

-- ---- messages

-- what reads as a message is a payload of it
abbrev pub MessagesAreSpelledSo : Type 0
MessagesAreSpelledSo = (p : List ℕ) → AreBytes p → IfOk (read_message p) (λ m. Spells m p)

-- a payload of a message reads as it
abbrev pub MessagesReadBack : Type 0
MessagesReadBack = (m : Message) (p : List ℕ) → Spells m p → read_message p ≡ Ok m

-- no payload is written for two messages
abbrev pub NoPayloadForTwo : Type 0
NoPayloadForTwo = (a b : Message) → IsMessage a → IsMessage b → spell a ≡ spell b → a ≡ b

-- the numbers of recipient and sender stand at their places
abbrev pub NumbersStand : Type 0
NumbersStand =
    (p : List ℕ) → AreBytes p
    → IfOk (read_message p) (λ m. NumberStandsAt (recipient_of m) (recipient_place m) p
    × NumberStandsAt (sender_of m) (sender_place m) p)

-- with one number replaced in place, a payload reads as the same message but for that number
abbrev pub RecipientIsReplaced : Type 0
RecipientIsReplaced =
    (p : List ℕ) (n : ℕ) → AreBytes p → n < 2 ^ 32
    → IfOk (read_message p) (λ m. read_message (with_recipient p n) ≡ Ok (to_recipient n m))

abbrev pub SenderIsReplaced : Type 0
SenderIsReplaced =
    (p : List ℕ) (n : ℕ) → AreBytes p → n < 2 ^ 32
    → IfOk (read_message p) (λ m. read_message (with_sender p n) ≡ Ok (to_sender n m))

-- ---- control messages

abbrev pub ControlsAreSpelledSo : Type 0
ControlsAreSpelledSo = (body : List ℕ) → AreBytes body
    → IfOk (read_control body) (λ c. SpellsControl c body)

abbrev pub ControlsReadBack : Type 0
ControlsReadBack = (c : Control) (body : List ℕ) → SpellsControl c body → read_control body ≡ Ok c

-- no body is written for two control messages
abbrev pub NoBodyForTwo : Type 0
NoBodyForTwo = (a b : Control) → IsControl a → IsControl b
    → spell_control a ≡ spell_control b → a ≡ b

-- ---- answers

-- what a master sends reads as it
abbrev pub AnswersReadBack : Type 0
AnswersReadBack = (a : Answer) → IsAnswer a → read_answer (spell_answer a) ≡ Some a

-- no body is written for two answers
abbrev pub NoBodyForTwoAnswers : Type 0
NoBodyForTwoAnswers = (a b : Answer) → IsAnswer a → IsAnswer b
    → spell_answer a ≡ spell_answer b → a ≡ b

-- ---- frames

-- a cut gives the longest list of valid frames that is a front of the bytes, and no other list is
-- that
abbrev pub CutIsLongest : Type 0
CutIsLongest = (framing : Framing) (bytes : List ℕ) → AreBytes bytes
    → Cuts framing bytes (cut framing bytes)

abbrev pub NoOtherCut : Type 0
NoOtherCut =
    (framing : Framing) (bytes : List ℕ) (frames : List (List ℕ)) (rest : List ℕ)
    (fault : Option BadFrame)
    → Cuts framing bytes (record { frames = frames; rest = rest; fault = fault })
    → cut framing bytes ≡ record { frames = frames; rest = rest; fault = fault }

-- one cut after the other
abbrev pub cut_then : Cut → Cut → Cut
cut_then c more = record { frames = c.frames ++ more.frames; rest = more.rest; fault = more.fault }

-- bytes that come later are cut after the rest, and add frames only
abbrev pub CutsJoin : Type 0
CutsJoin =
    (framing : Framing) (a b : List ℕ)
    → cut framing (a ++ b) ≡ cut_then (cut framing a) (cut framing ((cut framing a).rest ++ b))

-- ---- what is sent

-- bytes that come later are read where reading stood
abbrev pub ParsesJoin : Type 0
ParsesJoin = (mode : Mode) (a b : List ℕ) → parse mode (a ++ b) ≡ and_then (parse mode a) b

-- what was sent stays sent
abbrev pub SentStays : Type 0
SentStays = (a b : List ℕ) → (more : List Outgoing) × (said (a ++ b) ≡ said a ++ more)

abbrev pub faults : Option BadFrame → List Outgoing
faults None = []
faults (Some fault) = BadFraming fault ∷ []

-- all frames of some bytes, and then their fault
abbrev pub says : Framing → (List ℕ → Outgoing) → List ℕ → List Outgoing
says framing outgoing bytes = map outgoing (cut framing bytes).frames
    ++ faults (cut framing bytes).fault

-- control messages after which control messages are read
abbrev pub KeepControl : List (List ℕ) → Type 0
KeepControl bodies = AllByRecursion (λ body. after_body body ≡ InControl) bodies

abbrev pub AreBodies : List (List ℕ) → Type 0
AreBodies bodies = AllByRecursion (IsContent framing.Control) bodies

-- where no control message begins the proxy or ends the reading, all control messages are sent, and
-- then the fault
abbrev pub ControlIsSent : Type 0
ControlIsSent =
    (bytes : List ℕ) → AreBytes bytes → KeepControl (cut framing.Control bytes).frames
    → said bytes ≡ says framing.Control Body bytes

-- after the first that begins the proxy, the frames of all bytes after it are payloads
abbrev pub ProxyIsSent : Type 0
ProxyIsSent =
    (bodies : List (List ℕ)) (last rest : List ℕ) → AreBodies bodies → KeepControl bodies
    → IsContent framing.Control last → after_body last ≡ InProxy
    → said (bytes_of_frames framing.Control bodies ++ (frame framing.Control last ++ rest))
    ≡ map Body bodies ++ (Body last ∷ says framing.Proxy Payload rest)

-- after the first that ends the reading, nothing is sent
abbrev pub NothingMoreIsSent : Type 0
NothingMoreIsSent =
    (bodies : List (List ℕ)) (last rest : List ℕ) → AreBodies bodies → KeepControl bodies
    → IsContent framing.Control last → after_body last ≡ Stopped
    → said (bytes_of_frames framing.Control bodies ++ (frame framing.Control last ++ rest))
    ≡ map Body bodies ++ (Body last ∷ [])

-- the server sends payloads from its first byte on
abbrev pub ServerIsReceived : Type 0
ServerIsReceived = (bytes : List ℕ) → heard bytes ≡ says framing.Proxy Payload bytes
