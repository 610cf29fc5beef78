-- Hosts that are addresses.
use Rattle.std.specs.Prelude.{◌≡◌, ◌⊎◌, List, ℕ, ◌++◌, codes}
use Rattle.std.specs.Net.Grammar.{IsIpText, IsIpv6Text}
use Rattle.std.specs.declared.net.ip_addr.IpAddr.{IpAddr}
use Rattle.std.specs.declared.net.ip_addr.IpAddr.TheVariants.{V4, V6}

-- a text stands in brackets
abbrev pub IsInBrackets : List ℕ → List ℕ → Type 0
IsInBrackets text inner = text ≡ codes "[" ++ inner ++ codes "]"

-- a text is an address of IPv6
abbrev pub IsIpv6 : List ℕ → IpAddr → Type 0
IsIpv6 text (V4 a) = ⊥
IsIpv6 text (V6 a) = IsIpv6Text text a

-- a host is an address: one of IPv6 in brackets, or one that isn't in brackets
abbrev pub IsHost : List ℕ → IpAddr → Type 0
IsHost host ip =
    ((inner : List ℕ) × IsInBrackets host inner × IsIpv6 inner ip)
    ⊎ (((inner : List ℕ) → ¬ (IsInBrackets host inner)) × IsIpText host ip)
