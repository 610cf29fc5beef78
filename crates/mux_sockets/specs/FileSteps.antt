-- What is done to the names of sockets, step by step, the newest first.
use Rattle.std.specs.Prelude.{◌≡◌, ◌≢◌, ℕ, List, [], ◌∷◌, Option, Some, None, option_map, bit_and, ◌⊎◌}
use Rattle.mux_sockets.specs.declared.socket_files.SocketFile.{SocketFile}

-- a call on the file system, with its outcome
pub data FileStep : Type 0 where
  -- what stands at a path was looked up
  Found : List ℕ → Option SocketFile → FileStep
  -- a socket without a name was made
  Made : FileStep
  -- it was given a mode
  Moded : ℕ → FileStep
  -- it was given its first name
  Bound : List ℕ → FileStep
  -- it listens
  Listening : FileStep
  -- the file of a name got a further one
  Linked : List ℕ → List ℕ → FileStep
  -- a name was removed
  Removed : List ℕ → FileStep

-- the steps after one more, where they are recorded
abbrev pub after : FileStep → Option (List FileStep) → Option (List FileStep)
after step steps = option_map (λ before. step ∷ before) steps

-- the steps after these, of which the first is the newest
abbrev pub steps_added : List FileStep → Option (List FileStep) → Option (List FileStep)
steps_added [] steps = steps
steps_added (step ∷ earlier) steps = after step (steps_added earlier steps)

-- the bits of a mode that say who may use a file, and those of a file that its owner alone may
abbrev pub IsPrivate : SocketFile → Type 0
IsPrivate file = bit_and file.mode 0o777 ≡ 0o600

-- two looks found the same file
abbrev pub IsSameFile : SocketFile → SocketFile → Type 0
IsSameFile a b = (a.dev ≡ b.dev) × (a.ino ≡ b.ino)

-- what was found isn't this file
abbrev pub IsOther : SocketFile → Option SocketFile → Type 0
IsOther own None = Unit {0}
IsOther own (Some file) = IsSameFile own file → ⊥

-- a socket of mode 0600 listens under this name, at which this file was found
abbrev pub listening_steps : List ℕ → SocketFile → List FileStep
listening_steps name own =
    Found name (Some own) ∷ Listening ∷ Bound name ∷ Moded 0o600 ∷ Made ∷ []

-- its temporary name gave way to its name
abbrev pub named_steps : List ℕ → List ℕ → List FileStep
named_steps path name = Removed name ∷ Linked name path ∷ []

-- nothing was at the path; the socket got a temporary name that isn't the path, listened, and then
-- got its name, at which nothing was removed
abbrev pub IsLaid : List ℕ → SocketFile → Option (List FileStep) → Option (List FileStep) → Type 0
IsLaid path own old new = (name : List ℕ) × (name ≢ path)
    × (new ≡ steps_added (named_steps path name) (steps_added (listening_steps name own) (after (Found path None) old)))

-- the names that these steps gave are removed again, and no other; the first argument is one whose
-- removal came after them
abbrev pub LeaveNoName : Option (List ℕ) → List FileStep → Type 0
LeaveNoName None [] = Unit {0}
LeaveNoName (Some later) [] = ⊥
LeaveNoName later (Found path file ∷ earlier) = LeaveNoName later earlier
LeaveNoName later (Made ∷ earlier) = LeaveNoName later earlier
LeaveNoName later (Moded mode ∷ earlier) = LeaveNoName later earlier
LeaveNoName None (Bound name ∷ earlier) = ⊥
LeaveNoName (Some later) (Bound name ∷ earlier) = (name ≡ later) × LeaveNoName None earlier
LeaveNoName later (Listening ∷ earlier) = LeaveNoName later earlier
LeaveNoName later (Linked name path ∷ earlier) = ⊥
LeaveNoName None (Removed name ∷ earlier) = LeaveNoName (Some name) earlier
LeaveNoName (Some later) (Removed name ∷ earlier) = ⊥

-- no name was given that wasn't removed again, and no other was removed
abbrev pub IsUndone : Option (List FileStep) → Option (List FileStep) → Type 0
IsUndone old new = (steps : List FileStep) × (new ≡ steps_added steps old) × LeaveNoName None steps

-- a socket of this name didn't listen, or another file was found there
abbrev pub FailsToListen : List ℕ → Option (List FileStep) → Option (List FileStep) → Type 0
FailsToListen name old new =
    (new ≡ old)
    ⊎ ((found : Option SocketFile) × (new ≡ after (Found name found) (after Listening old)))

-- a file is removed only where it is this one, and always then
abbrev pub RemovesOwn : List ℕ → SocketFile → Option (List FileStep) → Option (List FileStep) → Type 0
RemovesOwn path own old new =
    ((found : Option SocketFile) × IsOther own found × (new ≡ after (Found path found) old))
    ⊎ ((file : SocketFile) × IsSameFile own file
    × (new ≡ after (Removed path) (after (Found path (Some file)) old)))
