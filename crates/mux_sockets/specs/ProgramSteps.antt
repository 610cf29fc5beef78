-- What is done with programs, step by step, the newest first.
use Rattle.std.specs.Prelude.{◌≡◌, ℕ, List, [], ◌∷◌, Option, option_map, codes}

-- a call about a program
pub data ProgramStep : Type 0 where
  -- it was started, with these words
  Started : List ℕ → List (List ℕ) → ProgramStep
  -- it was waited for
  Waited : ProgramStep

-- the steps after one more, where they are recorded
abbrev pub after_step : ProgramStep → Option (List ProgramStep) → Option (List ProgramStep)
after_step step steps = option_map (λ before. step ∷ before) steps

-- the shell runs a command
abbrev pub starts_shell : List ℕ → ProgramStep
starts_shell command = Started (codes "/bin/sh") (codes "-c" ∷ command ∷ [])

-- a child looks up a name
abbrev pub starts_lookup : List ℕ → ProgramStep
starts_lookup name = Started (codes "getent") (codes "ahosts" ∷ name ∷ [])

-- the shell was started once, for this command, and waited for
abbrev pub ShellRan : List ℕ → Option (List ProgramStep) → Option (List ProgramStep) → Type 0
ShellRan command old new = new ≡ after_step Waited (after_step (starts_shell command) old)
