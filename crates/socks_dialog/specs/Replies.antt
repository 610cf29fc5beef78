-- What is written to a SOCKS client.
use Rattle.std.specs.Prelude.{ℕ, List, [], ◌∷◌, ◌==◌, if◌then◌else◌}

-- six zero bytes: a port and an address
abbrev pub nowhere : List ℕ
nowhere = 0 ∷ 0 ∷ 0 ∷ 0 ∷ 0 ∷ 0 ∷ []

-- ---- SOCKS 4

-- a zero byte, a code, a port and an address
abbrev pub reply4 : ℕ → List ℕ
reply4 code = 0 ∷ code ∷ nowhere

-- the request is granted
abbrev pub granted4 : List ℕ
granted4 = reply4 90

-- it is refused
abbrev pub refused4 : List ℕ
refused4 = reply4 91

-- ---- SOCKS 5 (RFC 1928, sections 3 and 6)

-- the method is to need no authentication
abbrev pub no_authentication : List ℕ
no_authentication = 5 ∷ 0 ∷ []

-- no method is acceptable
abbrev pub no_method : List ℕ
no_method = 5 ∷ 255 ∷ []

-- the version, a code, a reserved byte, the type of an IPv4 address, that address and a port
abbrev pub reply5 : ℕ → List ℕ
reply5 code = 5 ∷ code ∷ 0 ∷ 1 ∷ nowhere

-- the codes: success, a general failure, not allowed, a command and an address type that are not
-- supported
abbrev pub succeeded : ℕ
succeeded = 0

abbrev pub general_failure : ℕ
general_failure = 1

abbrev pub not_allowed : ℕ
not_allowed = 2

abbrev pub unknown_command : ℕ
unknown_command = 7

abbrev pub unknown_address : ℕ
unknown_address = 8

-- ---- to the end that a dialog asks for

-- to a dialog that begins with this byte: the end is reached
abbrev pub granted_to : ℕ → List ℕ
granted_to version = if version == 4 then granted4 else reply5 succeeded

-- it isn't, for a reason of an open failure (RFC 4254, section 5.1), of which 1 is that it is
-- prohibited
abbrev pub refused_to : ℕ → ℕ → List ℕ
refused_to version reason =
    if version == 4 then refused4 else if reason == 1 then reply5 not_allowed else reply5 general_failure
