-- Which files a resolution reads.
use Rattle.std.specs.Prelude.{◌≡◌, List, ◌++◌, map, Option, Result, Ok, Err}
use Rattle.std.specs.Option.{option_map}
use Rattle.mux_outside.specs.declared.reading.Reading.{Reading}
use Rattle.conf_rules.specs.declared.causes.ResolveError.{ResolveError}
use Rattle.conf_rules.specs.Texts.{Bytes}
use Rattle.conf_reader.specs.ToRead.{reading_of, ReadsSome}

-- calls of `read`, if they are recorded
abbrev pub Readings : Type 0
Readings = Option (List Reading)

-- these paths were read, in their order
abbrev pub ReadsAll : List Bytes → Readings → Readings → Type 0
ReadsAll paths before now = now ≡ option_map (λ rs. rs ++ map reading_of paths) before

-- the same, or, where a line is refused or something broke off, the first of them
abbrev pub ReadsUnless : {A : Type 0} → List Bytes → Result A ResolveError → Readings → Readings
    → Type 0
ReadsUnless paths (Ok x) before now = ReadsAll paths before now
ReadsUnless paths (Err e) before now = ReadsSome paths before now
