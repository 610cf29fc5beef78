-- How many bytes the socket accepted.
use Rattle.std.proofs.Common.{◌≡◌, ◌∙◌, refl, ap, ◌+◌, List, [], ◌∷◌, length, length-append}
use Rattle.house_relay.specs.Acts.{RelayAct, Reads, Ends, Takes, Fails, Confirms, Refuses, Delivers, ReceivesEof, ReceivesClose, SendsData, SendsAdjust, SendsEof, SendsClose, Other, socket_accepted, accepted_length}

pub took-length : (acts : List RelayAct) → length (socket_accepted acts) ≡ accepted_length acts
took-length [] = refl
took-length (Takes bytes ∷ acts) =
    length-append (socket_accepted acts) bytes ∙ ap (λ n. n + length bytes) (took-length acts)
took-length (Reads bytes ∷ acts) = took-length acts
took-length (Ends ∷ acts) = took-length acts
took-length (Fails ∷ acts) = took-length acts
took-length (Confirms ∷ acts) = took-length acts
took-length (Refuses reason ∷ acts) = took-length acts
took-length (Delivers bytes ∷ acts) = took-length acts
took-length (ReceivesEof ∷ acts) = took-length acts
took-length (ReceivesClose ∷ acts) = took-length acts
took-length (SendsData bytes ∷ acts) = took-length acts
took-length (SendsAdjust n ∷ acts) = took-length acts
took-length (SendsEof ∷ acts) = took-length acts
took-length (SendsClose ∷ acts) = took-length acts
took-length (Other ∷ acts) = took-length acts
