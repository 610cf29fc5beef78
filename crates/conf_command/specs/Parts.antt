-- The words of a forwarding's parts.
use Rattle.std.specs.Prelude.{Bool, if◌then◌else◌, List, [], ◌∷◌, ◌++◌, Option, Some, None}
use Rattle.conf_rules.specs.Texts.{Bytes}

-- one end, if that may be
abbrev pub words_of_one_end : Bool → Bytes → Option (List Bytes)
words_of_one_end one word = if one then Some (word ∷ []) else None

-- two ends, if that may be
abbrev pub words_of_two_ends : Bool → Bytes → Bytes → Option (List Bytes)
words_of_two_ends two listen connect = if two then Some (listen ∷ connect ∷ []) else None

-- the ends of parts: a port with a host or none, after it where it connects to
unfoldable pub ends_among : Bool → Bool → List Bytes → Option (List Bytes)
ends_among one two (p ∷ []) = words_of_one_end one p
ends_among one two (b ∷ p ∷ []) = words_of_one_end one (b ++ 58 ∷ p)
ends_among one two (p ∷ h ∷ t ∷ []) = words_of_two_ends two p (h ++ 58 ∷ t)
ends_among one two (b ∷ p ∷ h ∷ t ∷ []) = words_of_two_ends two (b ++ 58 ∷ p) (h ++ 58 ∷ t)
ends_among one two parts = None

-- bytes before the first part, which is there
abbrev pub onto_first_part : Bytes → List Bytes → List Bytes
onto_first_part bytes [] = bytes ∷ []
onto_first_part bytes (p ∷ ps) = (bytes ++ p) ∷ ps
