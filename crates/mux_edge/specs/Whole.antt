-- What a whole write leaves in a writer that records the bytes it holds.
use Rattle.std.specs.Prelude.{ℕ, List, Result, Option, Some, None}
use Rattle.mux_outside.specs.declared.file_error.FileError.{FileError}
use Rattle.mux_outside.specs.Sink.{SinkTakes}

-- all bytes were added after those that it held, and after a fault a prefix of them
abbrev pub WritesWhole : Result (Unit {0}) FileError → Option (List ℕ) → Option (List ℕ)
    → List ℕ → Type 0
WritesWhole answer None now bytes = Unit {0}
WritesWhole answer (Some before) None bytes = ⊥
WritesWhole answer (Some before) (Some now) bytes = SinkTakes answer before now bytes
