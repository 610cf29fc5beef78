-- What is sent by bytes is of bytes.
use Rattle.std.proofs.Common.{ℕ, zero, suc, List, [], ◌∷◌, ◌++◌}
use Rattle.ssh_fields.specs.Fields.{AreBytes}
use Rattle.ssh_grammar.specs.Frames.{Faulty, Frame, Front, More}
use Rattle.ssh_grammar.specs.Said.{InControl, InProxy, Mode, Outgoing, Stopped, first_in, mode_after, parse_by, parse_front, sending_in}
use Rattle.mux_peers.specs.Pieces.{AreOfBytes}
use Rattle.mux_peers.specs.Says.{IsOfBytes}
use Rattle.mux_history.specs.Journal.{sent_item}
use Rattle.mux_history.proofs.Marks.{FrontBytes, in-bytes}

outgoing-bytes : (k : ℕ) (mode : Mode) (content : List ℕ) → AreBytes content → IsOfBytes (sent_item k (sending_in mode content))
outgoing-bytes k InControl content a = tt
outgoing-bytes k InProxy content a = a
outgoing-bytes k Stopped content a = a

-- what is sent by bytes, and the rest
pub parse-bytes : (k n : ℕ) (mode : Mode) (bytes : List ℕ) → AreBytes bytes → AreOfBytes k (parse_by n mode bytes).says × AreBytes (parse_by n mode bytes).rest
parse-bytes k zero mode bytes a = (tt, a)
parse-bytes k (suc n) mode bytes a = by_front (first_in mode bytes) (in-bytes mode bytes a) (λ mode rest b. parse-bytes k n mode rest b)
  where
    by_front : (f : Front) → FrontBytes f → ((mode : Mode) (rest : List ℕ) → AreBytes rest → AreOfBytes k (parse_by n mode rest).says × AreBytes (parse_by n mode rest).rest)
        → AreOfBytes k (parse_front (parse_by n) mode bytes f).says × AreBytes (parse_front (parse_by n) mode bytes f).rest
    by_front (Frame content rest) b ih = let r = ih (mode_after mode content) rest b.1 in ((outgoing-bytes k mode content b.0, r.0), r.1)
    by_front More b ih = (tt, a)
    by_front (Faulty fault) b ih = ((tt, tt), a)

pub front-of-bytes : (k : ℕ) (xs ys : List Outgoing) → AreOfBytes k (xs ++ ys) → AreOfBytes k xs
front-of-bytes k [] ys a = tt
front-of-bytes k (x ∷ xs) ys a = (a.0, front-of-bytes k xs ys a.1)
