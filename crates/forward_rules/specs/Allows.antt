-- The lists of a policy as the history has them, and how both are read.
use Rattle.std.specs.Prelude.{◌≡◌, ℕ, Bool, true, false, List, map, Option, option_map, Vec, Result, Ok, Err}
use Rattle.std.specs.Borrow.{Bor}
use Rattle.std.specs.declared.alloc.Global.{Global}
use Rattle.mux_history.specs.Policy as history
use Rattle.forward_rules.specs.declared.entry.Parts.{Parts}
use Rattle.forward_rules.specs.declared.entry.Parts.TheVariants as parts
use Rattle.forward_rules.specs.declared.entry.Entry.{Entry}
use Rattle.forward_rules.specs.declared.entry.Entry.TheVariants as entry
use Rattle.forward_rules.specs.declared.entry.Allowed.{Allowed}
use Rattle.forward_rules.specs.declared.entry.Allowed.TheVariants as allowed
use Rattle.forward_rules.specs.declared.reading.ListFault.{ListFault}
use Rattle.forward_rules.specs.declared.reading.ListFault.TheVariants as fault
use Rattle.forward_rules.specs.declared.policy.PolicyError.{PolicyError}
use Rattle.forward_rules.specs.declared.policy.PolicyError.TheVariants as error

-- a host that is lent
abbrev pub lent_host_of : Option (Bor (List ℕ)) → Option (List ℕ)
lent_host_of host = option_map (λ h. h.now) host

-- two texts that are lent
abbrev pub sides_of : Bor (List ℕ) × Bor (List ℕ) → List ℕ × List ℕ
sides_of sides = (sides.0.now, sides.1.now)

-- an entry as its text has it
abbrev pub parts_of : Parts → history.Entry
parts_of (parts.Ports host port) = history.Ports (lent_host_of host) port
parts_of (parts.Path path) = history.Paths path.now

-- one with bytes of its own
abbrev pub owned_entry_of : Entry → history.Entry
owned_entry_of (entry.Ports host port) = history.Ports host port
owned_entry_of (entry.Path path) = history.Paths path

-- a list
abbrev pub allow_of : Allowed → history.Allow
allow_of allowed.Anything = history.Anything
allow_of (allowed.Entries entries) = history.Entries (map owned_entry_of entries.items)

-- ---- one list

-- what was returned is what reading gives; running out of memory is free
abbrev pub EntriesReadAs : Result (Vec Entry Global) ListFault
    → Result (List history.Entry) ℕ → Type 0
EntriesReadAs (Ok entries) read = read ≡ Ok (map owned_entry_of entries.items)
EntriesReadAs (Err (fault.Bad at)) read = read ≡ Err at
EntriesReadAs (Err fault.OutOfMemory) read = Unit {0}

-- and of a list with its words
abbrev pub ListReadsAs : Result Allowed ListFault → Result history.Allow ℕ → Type 0
ListReadsAs (Ok allow) read = read ≡ Ok (allow_of allow)
ListReadsAs (Err (fault.Bad at)) read = read ≡ Err at
ListReadsAs (Err fault.OutOfMemory) read = Unit {0}

-- ---- both lists, and whether sessions are permitted

-- a text that is no entry: in which list it stands, and its place there
pub record BadText : Type 0 where
  pub for_open : Bool
  pub at : ℕ

-- both lists once the first is read
abbrev pub read_listens : history.Allow → List (List ℕ) → Bool → Result history.Policy BadText
read_listens opens texts sessions = elim (history.read_list texts) [
  | Ok listens ↦ Ok (record { opens = opens; listens = listens; sessions = sessions })
  | Err at ↦ Err (record { for_open = false; at = at })
]

-- the list for opens is read first
abbrev pub read_policy : List (List ℕ) → List (List ℕ) → Bool → Result history.Policy BadText
read_policy opens listens sessions = elim (history.read_list opens) [
  | Ok allow ↦ read_listens allow listens sessions
  | Err at ↦ Err (record { for_open = true; at = at })
]

-- what was returned is what reading gives; running out of memory is free
abbrev pub ReadsPolicyAs : Result history.Policy PolicyError → Result history.Policy BadText → Type 0
ReadsPolicyAs (Ok policy) read = read ≡ Ok policy
ReadsPolicyAs (Err (error.BadEntry for_open at)) read =
    read ≡ Err (record { for_open = for_open; at = at })
ReadsPolicyAs (Err error.OutOfMemory) read = Unit {0}

-- a fault of one of the lists
abbrev pub error_in : Bool → ListFault → PolicyError
error_in for_open (fault.Bad at) = error.BadEntry for_open at
error_in for_open fault.OutOfMemory = error.OutOfMemory
