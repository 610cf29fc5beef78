-- The summary of a message: what the log looks at, without the texts and data that only pass.
use Rattle.std.specs.Prelude.{ℕ, List, length, Option, Some, None, Result, Ok, Err, Bool}
use Rattle.ssh_grammar.specs.declared.fault.Bad.{Bad}
use Rattle.ssh_grammar.specs.Messages.{Global, Opens}
use Rattle.ssh_grammar.specs.Messages as full
use Rattle.ssh_grammar.specs.ReadMessage.{read_message}

-- what a message does in its channel (RFC 4254, section 5), without the numbers that name the
-- channel
pub data Act : Type 0 where
  Confirms : (window maximum : ℕ) → Act
  Fails : Act
  Grants : (add : ℕ) → Act
  Carries : (size : ℕ) → Act
  Ends : Act
  Closes : Act
  Asks : (wants : Bool) → Act
  Answers : Act

-- what the log looks at of a message
pub data Summary : Type 0 where
  Transport : (number : ℕ) → Summary
  Requests : (what : Global) (wants : Bool) → Summary
  Succeeds : (rest : List ℕ) → Summary
  Refuses : Summary
  Open : (what : Opens) (sender window maximum : ℕ) → Summary
  Confirmation : (recipient sender window maximum : ℕ) → Summary
  -- every other message to a channel
  Within : (recipient : ℕ) (act : Act) → Summary

-- of a message to no channel
abbrev pub summary_of_plain : full.PlainMessage → Summary
summary_of_plain (full.Transport number rest) = Transport number
summary_of_plain (full.GlobalRequest name want rest what) = Requests what want
summary_of_plain (full.RequestSuccess rest) = Succeeds rest
summary_of_plain full.RequestFailure = Refuses
summary_of_plain (full.Open kind sender window maximum rest what) = Open what sender window maximum

-- of a message to a channel
abbrev pub summary_to : ℕ → full.ChannelMessage → Summary
summary_to recipient (full.Confirmation sender window maximum rest) =
    Confirmation recipient sender window maximum
summary_to recipient (full.OpenFailure reason text language) = Within recipient Fails
summary_to recipient (full.Adjust add) = Within recipient (Grants add)
summary_to recipient (full.Data bytes) = Within recipient (Carries (length bytes))
summary_to recipient (full.Extended code bytes) = Within recipient (Carries (length bytes))
summary_to recipient full.Eof = Within recipient Ends
summary_to recipient full.Close = Within recipient Closes
summary_to recipient (full.Request kind want rest) = Within recipient (Asks want)
summary_to recipient full.Success = Within recipient Answers
summary_to recipient full.Failure = Within recipient Answers

-- of any message
abbrev pub summary : full.Message → Summary
summary (full.Plain m) = summary_of_plain m
summary (full.To recipient m) = summary_to recipient m

-- the summary of a payload, or why it does not read
abbrev pub read_summary : List ℕ → Result Summary Bad
read_summary p = elim (read_message p) [ Ok m ↦ Ok (summary m) | Err e ↦ Err e ]

-- what is made of the summary, or the last answer where the payload does not read
abbrev pub reading : {A : Type 0} → List ℕ → (Summary → A) → A → A
reading p f other = elim (read_summary p) [ Err e ↦ other | Ok m ↦ f m ]

-- the channel that the message is for
abbrev pub summary_recipient_of : Summary → Option ℕ
summary_recipient_of (Confirmation recipient sender window maximum) = Some recipient
summary_recipient_of (Within recipient act) = Some recipient
summary_recipient_of _ = None

-- the number by which the sender names a channel that it opens or confirms
abbrev pub summary_sender_of : Summary → Option ℕ
summary_sender_of (Open what sender window maximum) = Some sender
summary_sender_of (Confirmation recipient sender window maximum) = Some sender
summary_sender_of _ = None
