-- What clients, server and master write in a drill, as frames.
use Rattle.std.specs.Prelude.{ℕ, List, [], ◌++◌, replicate, codes}
use Rattle.ssh_fields.specs.Fields.{u32_at}
use Rattle.ssh_grammar.specs.Control.{Hello, Proxy, Greets, Proxies}
use Rattle.ssh_grammar.specs.Frames.{frame_body, frame_payload, frame_answer}
use Rattle.ssh_grammar.specs.Messages.{Session, Plain, To, Open, Confirmation, Adjust, Data, Close}
use Rattle.ssh_grammar.specs.SpellControl.{spell_control}
use Rattle.ssh_grammar.specs.SpellMessage.{spell}

-- a session is opened
unfoldable pub open_frame : ℕ → List ℕ
open_frame sender = frame_payload
    (spell (Plain (Open (codes "session") sender 2097152 32768 [] Session)))

-- an open is confirmed
unfoldable pub confirmation_frame : ℕ → ℕ → List ℕ
confirmation_frame recipient sender =
    frame_payload (spell (To recipient (Confirmation sender 2097152 32768 [])))

-- so many bytes more may come
unfoldable pub adjust_frame : ℕ → ℕ → List ℕ
adjust_frame recipient len = frame_payload (spell (To recipient (Adjust len)))

-- data of so many bytes, each the same
unfoldable pub data_frame : ℕ → ℕ → ℕ → List ℕ
data_frame recipient len byte = frame_payload (spell (To recipient (Data (replicate len byte))))

-- a channel is closed
unfoldable pub close_frame : ℕ → List ℕ
close_frame recipient = frame_payload (spell (To recipient Close))

-- what a client sends first: HELLO, PROXY and an open
unfoldable pub greeting : List ℕ
greeting = (frame_body (spell_control (Hello 4 [])) ++ frame_body (spell_control (Proxy 0)))
    ++ open_frame 0

-- what a client reads first: the master's answers, and the confirmation with the server's number
unfoldable pub welcome : ℕ → List ℕ
welcome number = (frame_answer (Greets 4) ++ frame_answer (Proxies 0))
    ++ confirmation_frame 0 number

-- the sender's number in an open of a session, which stands after its length, its padding length,
-- its number and its type
unfoldable pub opener_in : List ℕ → ℕ
opener_in bytes = u32_at 17 bytes
