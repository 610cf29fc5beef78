-- What a look at a connection that was begun shows, where it is recorded whether it is made.
use Rattle.std.specs.Prelude.{◌≡◌, Bool, Option, Some, None, Result, Ok, Err, IsSome, IsNone}

-- an error is reported exactly where the connection failed
abbrev pub RecordsError : {E F : Type 0} → Option (Option Bool) → Result (Option E) F → Type 0
RecordsError None answer = Unit {0}
RecordsError (Some None) (Ok error) = IsSome error
RecordsError (Some None) (Err e) = Unit {0}
RecordsError (Some (Some is)) (Ok error) = IsNone error
RecordsError (Some (Some is)) (Err e) = Unit {0}

-- another side is there exactly where the connection is made
abbrev pub RecordsPeer : Option (Option Bool) → Bool → Type 0
RecordsPeer None has_peer = Unit {0}
RecordsPeer (Some None) has_peer = Unit {0}
RecordsPeer (Some (Some is)) has_peer = has_peer ≡ is

-- whether a connection is made is reported as it is, and one that failed is never reported as made
abbrev pub RecordsMade : {F : Type 0} → Option (Option Bool) → Result Bool F → Type 0
RecordsMade None answer = Unit {0}
RecordsMade (Some None) (Ok is) = ⊥
RecordsMade (Some None) (Err e) = Unit {0}
RecordsMade (Some (Some made)) (Ok is) = is ≡ made
RecordsMade (Some (Some made)) (Err e) = Unit {0}
