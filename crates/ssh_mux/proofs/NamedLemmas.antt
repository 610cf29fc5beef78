-- Words that are read name forwardings where they ask for them.
use Rattle.std.proofs.Common.{◌≡◌, ℕ, ◌+◌, Bool, true, false, List, [], ◌∷◌, ◌++◌, length, flat_map, Option, Some, None, Result, Ok, Err, refl, sym, subst}
use Rattle.std.specs.Prelude.{◌&&◌, ◌||◌, not, if◌then◌else◌, bytes_eq, codes, IsTrue}
use Rattle.std.specs.Bool.{OnTrue}
use Rattle.std.specs.List.{list_any}
use Rattle.conf_rules.specs.declared.asked.Asked.{Asked}
use Rattle.conf_rules.specs.declared.asked.AskedLine.{AskedLine}
use Rattle.conf_rules.specs.declared.command.Command.TheVariants as commands
use Rattle.conf_rules.specs.declared.control.MasterCommand.{MasterCommand}
use Rattle.conf_rules.specs.declared.control.MasterCommand.TheVariants.{Check}
use Rattle.conf_rules.specs.declared.usage.UsageError.{UsageError}
use Rattle.conf_rules.specs.declared.usage.Usage.TheVariants.{BadEntry, NoForward, OnlyForMaster}
use Rattle.conf_rules.specs.Results.{◌>>=◌}
use Rattle.conf_rules.specs.Texts.{Bytes}
use Rattle.conf_rules.specs.Options.{CommandMode, Listing, Master, Client, Chooses, Reads, Asks, Connects, Permits, Sessions, Controls, Goes, Fails, WordAct, WordStep, Free}
use Rattle.conf_rules.specs.CommandLine.{ReadCommand, refused_word, Walk, walk_from, steps_from, walked, not_for_others, first_mode, host_in, transport_in, control_in, command_of, command_with, host_command, master_of, client_of, permitted, bad_permission, asked_of, line_in, is_forwarding, asks_forwarding, is_about_forwardings, permissions_of}
use Rattle.conf_rules.specs.Reading.{reading, drill_of, drill_number, seed_limit, no_more}
use Rattle.ssh_mux.specs.Asks.{NamesForwards}

-- a forwarding among the lines in front, or among those after
any-left : (xs ys : List AskedLine) → list_any is_forwarding xs ≡ true → list_any is_forwarding (xs ++ ys) ≡ true
any-left [] ys h = absurd cc
any-left (x ∷ xs) ys h = by_case (is_forwarding x) h (any-left xs ys)
  where
    by_case : (t : Bool) → (t || list_any is_forwarding xs) ≡ true → (list_any is_forwarding xs ≡ true → list_any is_forwarding (xs ++ ys) ≡ true) → (t || list_any is_forwarding (xs ++ ys)) ≡ true
    by_case true e later = refl
    by_case false e later = later e

any-right : (xs ys : List AskedLine) → list_any is_forwarding ys ≡ true → list_any is_forwarding (xs ++ ys) ≡ true
any-right [] ys h = h
any-right (x ∷ xs) ys h = by_case (is_forwarding x) (any-right xs ys h)
  where
    by_case : (t : Bool) → list_any is_forwarding (xs ++ ys) ≡ true → (t || list_any is_forwarding (xs ++ ys)) ≡ true
    by_case true later = refl
    by_case false later = later

-- a step that asks for a forwarding gives its line
step-line : (word : ℕ) (act : WordAct) → asks_forwarding (record { word = word; act = act }) ≡ true → list_any is_forwarding (line_in (record { word = word; act = act })) ≡ true
step-line word (Asks line) h = by_case (is_forwarding line) h
  where
    by_case : (t : Bool) → t ≡ true → (t || false) ≡ true
    by_case true e = refl
    by_case false e = absurd cc
step-line word (Chooses mode) h = absurd cc
step-line word (Reads from) h = absurd cc
step-line word (Connects transport) h = absurd cc
step-line word (Permits list at entry) h = absurd cc
step-line word (Sessions may) h = absurd cc
step-line word (Controls control) h = absurd cc
step-line word (Goes to) h = absurd cc
step-line word (Fails cause) h = absurd cc

steps-lines : (steps : List WordStep) → list_any asks_forwarding steps ≡ true → list_any is_forwarding (flat_map line_in steps) ≡ true
steps-lines [] h = absurd cc
steps-lines (s ∷ ss) h = by_case (asks_forwarding s) refl (steps-lines ss) h
  where
    by_case : (t : Bool) → asks_forwarding s ≡ t → (list_any asks_forwarding ss ≡ true → list_any is_forwarding (flat_map line_in ss) ≡ true) → (t || list_any asks_forwarding ss) ≡ true → list_any is_forwarding (line_in s ++ flat_map line_in ss) ≡ true
    by_case true e later g = any-left (line_in s) (flat_map line_in ss) (step-line s.word s.act e)
    by_case false e later g = any-right (line_in s) (flat_map line_in ss) (later g)

-- the lines of a client that was read
abbrev OfClient : ReadCommand → Type 0
OfClient (Ok (commands.Control asked control)) = NamesForwards control asked.lines
OfClient read = Unit {0}

client-named : (n : ℕ) (host : Bytes) (steps : List WordStep) (control : MasterCommand) → OfClient (client_of n host steps control)
client-named n host steps control = by_case (is_about_forwardings control) refl (list_any asks_forwarding steps) refl
  where
    unasked : is_about_forwardings control ≡ false → OfClient (Ok (commands.Control (asked_of host steps) control))
    unasked e = subst (λ t. OnTrue t (IsTrue (list_any is_forwarding (flat_map line_in steps)))) (sym e) tt

    named : list_any asks_forwarding steps ≡ true → (t : Bool) → OnTrue t (IsTrue (list_any is_forwarding (flat_map line_in steps)))
    named e true = steps-lines steps e
    named e false = tt

    by_case : (about : Bool) → is_about_forwardings control ≡ about → (some : Bool) → list_any asks_forwarding steps ≡ some
        → OfClient (if about && not some then refused_word (n + 1) NoForward else Ok (commands.Control (asked_of host steps) control))
    by_case true a true s = named s (is_about_forwardings control)
    by_case true a false s = tt
    by_case false a true s = unasked a
    by_case false a false s = unasked a

permitted-none : (steps : List WordStep) (asked : Asked) (transport : Bytes) → OfClient (permitted steps (commands.Master asked transport (permissions_of steps)))
permitted-none steps asked transport = by_case (bad_permission steps)
  where
    by_case : (o : Option ℕ) → OfClient (elim o as (λ _. ReadCommand) [ Some word ↦ refused_word word BadEntry | None ↦ Ok (commands.Master asked transport (permissions_of steps)) ])
    by_case (Some word) = tt
    by_case None = tt

command-named : (n : ℕ) (steps : List WordStep) → OfClient (command_of n steps)
unfolding command_of
command-named n steps = by_mode (first_mode steps)
  where
    by_transport : (host : Bytes) (transport : Option Bytes) → OfClient (master_of n host steps transport)
    by_transport host None = tt
    by_transport host (Some t) = permitted-none steps (asked_of host steps) t

    by_host : (mode : CommandMode) (host : Option Bytes) → OfClient (host_command n steps mode host)
    by_host mode None = tt
    by_host Listing (Some host) = tt
    by_host Master (Some host) = by_transport host (transport_in None steps)
    by_host Client (Some host) = client-named n host steps (control_in Check steps)

    by_mode : (mode : Option CommandMode) → OfClient (command_with n steps mode)
    by_mode None = tt
    by_mode (Some mode) = by_host mode (host_in steps)

walked-named : (n : ℕ) (walk : Walk) → OfClient (walked n walk)
walked-named n walk = by_word (not_for_others (first_mode walk.sound) walk.sound)
  where
    by_fault : (fault : Option UsageError) → OfClient (elim fault as (λ _. ReadCommand) [ Some e ↦ Err e | None ↦ command_of n walk.sound ])
    by_fault (Some e) = tt
    by_fault None = command-named n walk.sound

    by_word : (word : Option ℕ) → OfClient (elim word as (λ _. ReadCommand) [ Some word ↦ refused_word word OnlyForMaster | None ↦ elim walk.fault [ Some e ↦ Err e | None ↦ command_of n walk.sound ] ])
    by_word (Some word) = tt
    by_word None = by_fault walk.fault

-- after a reading
then-named : {X : Type 0} (read : Result X UsageError) (next : X → ReadCommand) → ((x : X) → OfClient (next x)) → OfClient (read >>= next)
then-named (Ok x) next each = each x
then-named (Err e) next each = tt

-- a drill is no client
drill-named : (words : List Bytes) → OfClient (drill_of words)
unfolding drill_of
drill-named [] = tt
drill-named (seed ∷ []) = tt
drill-named (seed ∷ clients ∷ []) = tt
drill-named (seed ∷ clients ∷ messages ∷ more) =
    then-named (drill_number 2 0 seed_limit seed) (λ s. drill_number 3 1 64 clients >>= λ c. drill_number 4 0 100000 messages >>= λ m. no_more more (commands.Drill s c m)) λ s.
    then-named (drill_number 3 1 64 clients) (λ c. drill_number 4 0 100000 messages >>= λ m. no_more more (commands.Drill s c m)) λ c.
    then-named (drill_number 4 0 100000 messages) (λ m. no_more more (commands.Drill s c m)) λ m. by_more s c m more
  where
    by_more : (seed clients messages : ℕ) (words : List Bytes) → OfClient (no_more words (commands.Drill seed clients messages))
    by_more seed clients messages [] = tt
    by_more seed clients messages (w ∷ ws) = tt

reading-named : (words : List Bytes) → OfClient (reading words)
unfolding reading
reading-named [] = walked-named 0 (walk_from None false [])
reading-named (w ∷ ws) = by_case (bytes_eq w (codes "--drill"))
  where
    by_case : (t : Bool) → OfClient (if t then drill_of ws else walked (length (w ∷ ws)) (walk_from None false (steps_from 1 Free (w ∷ ws))))
    by_case true = drill-named ws
    by_case false = walked-named (length (w ∷ ws)) (walk_from None false (steps_from 1 Free (w ∷ ws)))

-- words that are read name forwardings where they ask for them
pub names-forwards : (words : List Bytes) (asked : Asked) (control : MasterCommand) → reading words ≡ Ok (commands.Control asked control) → NamesForwards control asked.lines
names-forwards words asked control e = subst OfClient e (reading-named words)
