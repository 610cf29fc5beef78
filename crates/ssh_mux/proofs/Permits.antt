-- Words that are read give lists that a policy reads.
use Rattle.std.proofs.Common.{◌≡◌, ℕ, ◌+◌, Bool, true, false, List, [], ◌∷◌, length, Option, Some, None, Result, Ok, Err, refl, sym, subst, ◌∙◌}
use Rattle.std.specs.Prelude.{◌||◌, ◌&&◌, not, nat_lt, if◌then◌else◌, bytes_eq, codes, is_some}
use Rattle.conf_rules.specs.declared.asked.Asked.{Asked}
use Rattle.conf_rules.specs.declared.command.Command.TheVariants as commands
use Rattle.conf_rules.specs.declared.permit_list.PermitList.TheVariants.{Open, Listen, Here}
use Rattle.std.specs.List.{list_any}
use Rattle.conf_rules.specs.declared.control.MasterCommand.{MasterCommand}
use Rattle.conf_rules.specs.declared.control.MasterCommand.TheVariants.{Check}
use Rattle.conf_rules.specs.declared.usage.UsageError.{UsageError}
use Rattle.conf_rules.specs.declared.usage.Usage.TheVariants.{BadEntry, NoForward, OnlyForMaster}
use Rattle.conf_rules.specs.Results.{◌>>=◌}
use Rattle.conf_rules.specs.Texts.{Bytes}
use Rattle.conf_rules.specs.Options.{CommandMode, Listing, Master, Client, WordStep, Free}
use Rattle.conf_rules.specs.Permissions.{PermitWord, is_alone, is_entry, first_not_entry, bad_entry, earlier_word}
use Rattle.conf_rules.specs.CommandLine.{ReadCommand, refused_word, Walk, walk_from, steps_from, walked, not_for_others, first_mode, host_in, transport_in, command_of, command_with, host_command, master_of, client_of, control_in, is_about_forwardings, asks_forwarding, permitted, bad_permission, permit_words, texts_of, asked_of, permissions_of}
use Rattle.conf_rules.specs.Reading.{reading, drill_of, drill_number, seed_limit, no_more}
use Rattle.mux_history.specs.Policy.{Allow, Anything, Entries, Entry, Policy, read_entry, read_entries, read_word, read_list}
use Rattle.forward_rules.specs.Allows.{read_policy, read_listens}
use Rattle.ssh_mux.proofs.PermitWords.{entry-same}
use Rattle.conf_rules.specs.declared.command.Permissions.{Permissions}

-- ---- lists

-- the entries of texts are read
abbrev AreRead : ℕ → List Bytes → Type 0
AreRead at texts = (entries : List Entry) × (read_entries at texts ≡ Ok entries)

-- one more entry in front
more-read : (at : ℕ) (text : Bytes) (texts : List Bytes) → is_some (read_entry text) ≡ true → AreRead (at + 1) texts → AreRead at (text ∷ texts)
more-read at text texts good rest = by_case (read_entry text) refl good
  where
    by_case : (o : Option Entry) → read_entry text ≡ o → is_some o ≡ true → AreRead at (text ∷ texts)
    by_case None e h = absurd cc
    by_case (Some entry) e h = (entry ∷ rest.0, rw (e, rest.1, read_entries) refl)

-- texts of which none is no entry
entries-read : (at : ℕ) (es : List PermitWord) → first_not_entry es ≡ None → AreRead at (texts_of es)
entries-read at [] good = ([], refl)
entries-read at (e ∷ es) good = by_case (entries-read (at + 1) es) (is_entry e.text) refl good
  where
    by_case : (first_not_entry es ≡ None → AreRead (at + 1) (texts_of es)) → (t : Bool) → is_entry e.text ≡ t → (if t then first_not_entry es else Some e.word) ≡ None → AreRead at (texts_of (e ∷ es))
    by_case later true word h = more-read at e.text (texts_of es) (sym (entry-same e.text) ∙ word) (later h)
    by_case later false word h = absurd cc

-- a list is read
abbrev IsRead : List Bytes → Type 0
IsRead texts = (allow : Allow) × (read_list texts ≡ Ok allow)

-- a text that stands alone is a word
alone-word : (text : Bytes) → is_alone text ≡ is_some (read_word text)
alone-word text = by_case (bytes_eq text (codes "any")) (bytes_eq text (codes "none"))
  where
    by_case : (any none : Bool) → (any || none) ≡ is_some (elim any as (λ _. Option Allow) [ true ↦ Some Anything | false ↦ elim none [ true ↦ Some (Entries []) | false ↦ None ] ])
    by_case true none = refl
    by_case false true = refl
    by_case false false = refl

-- a list of one text that stands alone
word-read : (text : Bytes) → is_alone text ≡ true → IsRead (text ∷ [])
word-read text alone = by_case (read_word text) refl (sym (alone-word text) ∙ alone)
  where
    by_case : (o : Option Allow) → read_word text ≡ o → is_some o ≡ true → IsRead (text ∷ [])
    by_case None e h = absurd cc
    by_case (Some allow) e h = (allow, rw (e, read_list) refl)

-- a list of entries, of which the first is no such text
texts-read : (text : Bytes) (texts : List Bytes) → is_alone text ≡ false → AreRead 0 (text ∷ texts) → IsRead (text ∷ texts)
texts-read text texts other entries = by_case (read_word text) refl (sym (alone-word text) ∙ other)
  where
    by_case : (o : Option Allow) → read_word text ≡ o → is_some o ≡ false → IsRead (text ∷ texts)
    by_case None e h = (Entries entries.0, rw (e, entries.1, read_list) refl)
    by_case (Some allow) e h = absurd cc

-- a list without a bad text is read
list-read : (es : List PermitWord) → bad_entry es ≡ None → IsRead (texts_of es)
list-read [] good = (Anything, refl)
list-read (e ∷ []) good = by_case (is_alone e.text) refl good
  where
    by_case : (t : Bool) → is_alone e.text ≡ t → (if t then None else first_not_entry (e ∷ [])) ≡ None → IsRead (e.text ∷ [])
    by_case true alone h = word-read e.text alone
    by_case false alone h = texts-read e.text [] alone (entries-read 0 (e ∷ []) h)
list-read (e ∷ f ∷ es) good = by_case (is_alone e.text) refl good
  where
    by_case : (t : Bool) → is_alone e.text ≡ t → (if t then Some f.word else first_not_entry (e ∷ f ∷ es)) ≡ None → IsRead (texts_of (e ∷ f ∷ es))
    by_case true alone h = absurd cc
    by_case false alone h = texts-read e.text (texts_of (f ∷ es)) alone (entries-read 0 (e ∷ f ∷ es) h)

-- both lists make a policy
policy-read : (opens listens : List Bytes) (sessions : Bool) → IsRead opens → IsRead listens → (policy : Policy) × (read_policy opens listens sessions ≡ Ok policy)
policy-read opens listens sessions opened listened = (record { opens = opened.0; listens = listened.0; sessions = sessions }, rw (opened.1, listened.1, read_policy, read_listens) refl)

-- ---- the permissions of words that are read

-- the lists are those of steps, and have no bad text
record ArePermitted (ps : Permissions) : Type 0 where
  steps : List WordStep
  good_opens : bad_entry (permit_words Open steps) ≡ None
  good_listens : bad_entry (permit_words Listen steps) ≡ None
  good_here : bad_entry (permit_words Here steps) ≡ None
  are_opens : texts_of (permit_words Open steps) ≡ ps.opens
  are_listens : texts_of (permit_words Listen steps) ≡ ps.listens
  are_here : texts_of (permit_words Here steps) ≡ ps.here

-- the lists of a master that was read
abbrev OfMaster : ReadCommand → Type 0
OfMaster (Ok (commands.Master asked transport ps)) = ArePermitted ps
OfMaster read = Unit {0}

none-earlier : (a b : Option ℕ) → earlier_word a b ≡ None → (a ≡ None) × (b ≡ None)
none-earlier None None e = (refl, refl)
none-earlier None (Some b) e = absurd cc
none-earlier (Some a) None e = absurd cc
none-earlier (Some a) (Some b) e = absurd (by_case (nat_lt a b) e)
  where
    by_case : (t : Bool) → (if t then Some a else Some b) ≡ None → ⊥
    by_case true e = cc
    by_case false e = cc

-- the lists of sound steps
permitted-master : (steps : List WordStep) (asked : Asked) (transport : Bytes) → OfMaster (permitted steps (commands.Master asked transport (permissions_of steps)))
permitted-master steps asked transport = by_case (bad_permission steps) refl
  where
    by_case : (o : Option ℕ) → bad_permission steps ≡ o
        → OfMaster (elim o as (λ _. ReadCommand) [ Some word ↦ refused_word word BadEntry | None ↦ Ok (commands.Master asked transport (permissions_of steps)) ])
    by_case (Some word) e = tt
    by_case None e =
        let good = none-earlier (bad_entry (permit_words Open steps)) (earlier_word (bad_entry (permit_words Listen steps)) (bad_entry (permit_words Here steps))) e in
        let others = none-earlier (bad_entry (permit_words Listen steps)) (bad_entry (permit_words Here steps)) good.1 in
        record { steps = steps; good_opens = good.0; good_listens = others.0; good_here = others.1; are_opens = refl; are_listens = refl; are_here = refl }

command-master : (n : ℕ) (steps : List WordStep) → OfMaster (command_of n steps)
unfolding command_of
command-master n steps = by_mode (first_mode steps)
  where
    by_transport : (host : Bytes) (transport : Option Bytes) → OfMaster (master_of n host steps transport)
    by_transport host None = tt
    by_transport host (Some t) = permitted-master steps (asked_of host steps) t

    by_control : (host : Bytes) (control : MasterCommand) → OfMaster (client_of n host steps control)
    by_control host control = by_named (is_about_forwardings control && not (list_any asks_forwarding steps))
      where
        by_named : (t : Bool) → OfMaster (if t then refused_word (n + 1) NoForward else Ok (commands.Control (asked_of host steps) control))
        by_named true = tt
        by_named false = tt

    by_host : (mode : CommandMode) (host : Option Bytes) → OfMaster (host_command n steps mode host)
    by_host mode None = tt
    by_host Listing (Some host) = tt
    by_host Master (Some host) = by_transport host (transport_in None steps)
    by_host Client (Some host) = by_control host (control_in Check steps)

    by_mode : (mode : Option CommandMode) → OfMaster (command_with n steps mode)
    by_mode None = tt
    by_mode (Some mode) = by_host mode (host_in steps)

walked-master : (n : ℕ) (walk : Walk) → OfMaster (walked n walk)
walked-master n walk = by_word (not_for_others (first_mode walk.sound) walk.sound)
  where
    by_fault : (fault : Option UsageError) → OfMaster (elim fault as (λ _. ReadCommand) [ Some e ↦ Err e | None ↦ command_of n walk.sound ])
    by_fault (Some e) = tt
    by_fault None = command-master n walk.sound

    by_word : (word : Option ℕ) → OfMaster (elim word as (λ _. ReadCommand) [ Some word ↦ refused_word word OnlyForMaster | None ↦ elim walk.fault [ Some e ↦ Err e | None ↦ command_of n walk.sound ] ])
    by_word (Some word) = tt
    by_word None = by_fault walk.fault

-- after a reading
then-master : {X : Type 0} (read : Result X UsageError) (next : X → ReadCommand) → ((x : X) → OfMaster (next x)) → OfMaster (read >>= next)
then-master (Ok x) next each = each x
then-master (Err e) next each = tt

-- a drill is no master
drill-master : (words : List Bytes) → OfMaster (drill_of words)
unfolding drill_of
drill-master [] = tt
drill-master (seed ∷ []) = tt
drill-master (seed ∷ clients ∷ []) = tt
drill-master (seed ∷ clients ∷ messages ∷ more) =
    then-master (drill_number 2 0 seed_limit seed) (λ s. drill_number 3 1 64 clients >>= λ c. drill_number 4 0 100000 messages >>= λ m. no_more more (commands.Drill s c m)) λ s.
    then-master (drill_number 3 1 64 clients) (λ c. drill_number 4 0 100000 messages >>= λ m. no_more more (commands.Drill s c m)) λ c.
    then-master (drill_number 4 0 100000 messages) (λ m. no_more more (commands.Drill s c m)) λ m. by_more s c m more
  where
    by_more : (seed clients messages : ℕ) (words : List Bytes) → OfMaster (no_more words (commands.Drill seed clients messages))
    by_more seed clients messages [] = tt
    by_more seed clients messages (w ∷ ws) = tt

reading-master : (words : List Bytes) → OfMaster (reading words)
unfolding reading
reading-master [] = walked-master 0 (walk_from None false [])
reading-master (w ∷ ws) = by_case (bytes_eq w (codes "--drill"))
  where
    by_case : (t : Bool) → OfMaster (if t then drill_of ws else walked (length (w ∷ ws)) (walk_from None false (steps_from 1 Free (w ∷ ws))))
    by_case true = drill-master ws
    by_case false = walked-master (length (w ∷ ws)) (walk_from None false (steps_from 1 Free (w ∷ ws)))

-- words that are read give lists that a policy reads
pub permits-read : (words : List Bytes) (asked : Asked) (transport : Bytes) (ps : Permissions) → reading words ≡ Ok (commands.Master asked transport ps)
    → (policy : Policy) × (read_policy ps.opens ps.listens ps.sessions ≡ Ok policy)
permits-read words asked transport ps e =
    let known : ArePermitted ps = subst OfMaster e (reading-master words) in
    let opened : IsRead ps.opens = subst IsRead known.are_opens (list-read (permit_words Open known.steps) known.good_opens) in
    let listened : IsRead ps.listens = subst IsRead known.are_listens (list-read (permit_words Listen known.steps) known.good_listens) in
    policy-read ps.opens ps.listens ps.sessions opened listened

-- and one of where the master may listen that is read
pub here-read : (words : List Bytes) (asked : Asked) (transport : Bytes) (ps : Permissions) → reading words ≡ Ok (commands.Master asked transport ps)
    → (allow : Allow) × (read_list ps.here ≡ Ok allow)
here-read words asked transport ps e =
    let known : ArePermitted ps = subst OfMaster e (reading-master words) in
    subst IsRead known.are_here (list-read (permit_words Here known.steps) known.good_here)
