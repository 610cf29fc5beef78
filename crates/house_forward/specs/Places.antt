-- Where the streams of the relays are in their list.
use Rattle.std.specs.Prelude.{◌≡◌, ℕ, List, nat_eq, slice_get, IfSome, IsSomeAnd, Some}
use Rattle.std.specs.HashMap.{get}
use Rattle.house_forward.specs.Links.{stream_number_in}
use Rattle.house_forward.specs.declared.link.Link.{Link}
use Rattle.house_forward.specs.declared.places.Places.{Places}

-- each stream that is noted is there
abbrev pub AreNotedAt : Places → List Link → Type 0
AreNotedAt places links = (stream : ℕ) → IfSome (get nat_eq places.noted stream)
    (λ i. IsSomeAnd (slice_get links i) (λ l. stream_number_in l.stream ≡ Some stream))
