-- A text that words may give for a permission is one that a list reads as an entry, and no other
-- is.
use Rattle.std.proofs.Common.{◌≡◌, ℕ, Bool, true, false, [], ◌∷◌, ◌++◌, Option, Some, None, refl, sym, ap, ◌∙◌, append_assoc, arith}
use Rattle.std.specs.Prelude.{not, ◌&&◌, ◌||◌, ◌==◌, if◌then◌else◌, bytes_eq, codes, is_some}
use Rattle.std.specs.List.{list_any}
use Rattle.std.proofs.lemmas.Bool.Decides.{nat_tests}
use Rattle.std.proofs.lemmas.Slice.Eq.{bytes_eq-Decides}
use Rattle.conf_rules.specs.Texts.{Bytes, is_empty_list, split_last}
use Rattle.conf_rules.specs.Forwardings.{before_bracket, is_host_byte}
use Rattle.conf_rules.specs.Permissions.{is_entry_port, is_path_text, is_entry_host, is_entry}
use Rattle.mux_history.specs.Policy.{Entry, Paths, read_port, read_host, entry_of, before_last, is_mark, read_colon_port, read_bracketed, read_bare, read_entry}
use Rattle.mux_history.specs.Rows.{any_of}
use Rattle.mux_history.proofs.Bools.{same-number}
use Rattle.mux_history.proofs.Sends.{and-left, and-right}
use Rattle.ssh_mux.proofs.PermitParts.{port-same, last-same, parts-make, parts-here, port-none, last-here, closed-is}

-- ---- hosts

-- both parts of an entry are wanted
both-parts : (host : Option (Option Bytes)) (port : Option (Option ℕ)) → is_some (entry_of host port) ≡ (is_some host && is_some port)
both-parts None port = refl
both-parts (Some host) None = refl
both-parts (Some host) (Some port) = refl

-- a port alone
port-alone : (port : Option (Option ℕ)) → is_some (entry_of (Some None) port) ≡ is_some port
port-alone None = refl
port-alone (Some port) = refl

turned : (b c : ℕ) (t : Bool) → (b == c) ≡ t → (c == b) ≡ t
turned b c true e = grind (arith, nat_tests)
turned b c false e = grind (arith, nat_tests)

-- a host that is not empty and no path is one that is read
host-same : (host : Bytes) → not (is_empty_list host || is_path_text host) ≡ is_some (read_host host)
host-same [] = refl
host-same (b ∷ bs) = by_case (bytes_eq (b ∷ bs) (codes "*")) refl (b == 47) refl
  where
    by_case : (star : Bool) → bytes_eq (b ∷ bs) (codes "*") ≡ star → (slash : Bool) → (b == 47) ≡ slash
        → not (is_path_text (b ∷ bs)) ≡ is_some (elim star as (λ _. Option (Option Bytes)) [ true ↦ Some None | false ↦ elim slash [ true ↦ None | false ↦ Some (Some (b ∷ bs)) ] ])
    by_case true e slash at = ap (λ l. not (is_path_text l)) ((bytes_eq-Decides (b ∷ bs) (codes "*")).0 e)
    by_case false e true at = rw (turned b 47 true at) refl
    by_case false e false at = rw (turned b 47 false at) refl

-- a host has no mark alike
marks-same : (host : Bytes) → list_any is_host_byte host ≡ any_of is_mark host
marks-same [] = refl
marks-same (b ∷ bs) = ap (λ t. is_mark b || t) (marks-same bs)

-- a host without brackets, by whether it has a mark
abbrev unmarked_host : Bytes → Bool → Bool
unmarked_host host marked = elim (if marked then None else Some host) as (λ _. Bool) [ None ↦ false | Some h ↦ not (is_empty_list h || is_path_text h) ]

-- a host that doesn't begin with a bracket
bare-host : (b : ℕ) (bs : Bytes) → (b == 91) ≡ false → is_entry_host (b ∷ bs) ≡ (not (any_of is_mark (b ∷ bs)) && is_some (read_host (b ∷ bs)))
bare-host b bs plain = rw (turned b 91 false plain, is_entry_host) (ap (unmarked_host (b ∷ bs)) (marks-same (b ∷ bs)) ∙ by_case (any_of is_mark (b ∷ bs)))
  where
    by_case : (marked : Bool) → unmarked_host (b ∷ bs) marked ≡ (not marked && is_some (read_host (b ∷ bs)))
    by_case true = refl
    by_case false = host-same (b ∷ bs)

-- ---- entries without brackets

-- the host and the port, if there is no mark in the host
marked-parts : (marked : Bool) (host : Option (Option Bytes)) (port : Option (Option ℕ))
    → ((not marked && is_some host) && is_some port) ≡ is_some (elim marked as (λ _. Option Entry) [ true ↦ None | false ↦ entry_of host port ])
marked-parts true host port = refl
marked-parts false host port = sym (both-parts host port)

-- what a word has by its parts
abbrev by_parts : Bytes → Option (Bytes × Bytes) → Bool
by_parts text None = is_entry_port text
by_parts text (Some p) = is_entry_host p.0 && is_entry_port p.1

bare-same : (b : ℕ) (bs : Bytes) → (b == 91) ≡ false → by_parts (b ∷ bs) (before_last 58 (b ∷ bs)) ≡ is_some (read_bare (b ∷ bs))
bare-same b bs plain = by_case (before_last 58 bs) (b == 58)
  where
    by_case : (rest : Option (Bytes × Bytes)) (colon : Bool)
        → by_parts (b ∷ bs) (elim rest [ Some p ↦ Some (b ∷ p.0, p.1) | None ↦ elim colon [ true ↦ Some ([], bs) | false ↦ None ] ])
        ≡ is_some (elim (elim rest as (λ _. Option (Bytes × Bytes)) [ Some p ↦ Some (b ∷ p.0, p.1) | None ↦ elim colon [ true ↦ Some ([], bs) | false ↦ None ] ]) as (λ _. Option Entry) [
          | None ↦ entry_of (Some None) (read_port (b ∷ bs))
          | Some parts ↦ elim (any_of is_mark parts.0) [ true ↦ None | false ↦ entry_of (read_host parts.0) (read_port parts.1) ]
        ])
    by_case (Some p) colon = ap (λ t. t && is_entry_port p.1) (bare-host b p.0 plain) ∙ (ap (λ t. (not (any_of is_mark (b ∷ p.0)) && is_some (read_host (b ∷ p.0))) && t) (port-same p.1)
        ∙ marked-parts (any_of is_mark (b ∷ p.0)) (read_host (b ∷ p.0)) (read_port p.1))
    by_case None true = refl
    by_case None false = port-same (b ∷ bs) ∙ sym (port-alone (read_port (b ∷ bs)))

-- ---- entries with brackets

-- the host in what stands after the opening bracket
abbrev inner_host : Bytes → Bool
inner_host text = elim (before_bracket (split_last text)) as (λ _. Bool) [ None ↦ false | Some h ↦ not (is_empty_list h || is_path_text h) ]

-- what a word has after the opening bracket
abbrev by_inner : Option (Bytes × Bytes) → Bool
by_inner None = false
by_inner (Some p) = inner_host p.0 && is_entry_port p.1

closed-host : (host : Bytes) → inner_host (host ++ 93 ∷ []) ≡ is_some (read_host host)
closed-host host = rw (last-here host 93, inner_host) (host-same host)

-- what is read after the opening bracket
abbrev read_inner : Option (Bytes × Bytes) → Bool
read_inner None = false
read_inner (Some p) = is_some (entry_of (read_host p.0) (read_colon_port p.1))

bracketed-inner : (text : Bytes) → is_some (read_bracketed text) ≡ read_inner (before_last 93 text)
bracketed-inner text = by_case (before_last 93 text)
  where
    by_case : (o : Option (Bytes × Bytes)) → is_some (elim o as (λ _. Option Entry) [ None ↦ None | Some p ↦ entry_of (read_host p.0) (read_colon_port p.1) ]) ≡ read_inner o
    by_case None = refl
    by_case (Some p) = refl

-- a text of a bracketed host and a port, as it is read
bracketed-text : (host port : Bytes) → is_entry_port port ≡ true → read_inner (before_last 93 (host ++ 93 ∷ 58 ∷ port)) ≡ (is_some (read_host host) && is_some (read_port port))
bracketed-text host port good =
    let none : before_last 93 (58 ∷ port) ≡ None = rw (port-none 93 (omega arith) port good, before_last) refl in
    ap read_inner (parts-here 93 host (58 ∷ port) none) ∙ both-parts (read_host host) (read_port port)

-- and as a word has it
inner-text : (host port : Bytes) → is_entry_port port ≡ true → by_inner (before_last 58 (host ++ 93 ∷ 58 ∷ port)) ≡ (is_some (read_host host) && is_entry_port port)
inner-text host port good =
    let none : before_last 58 port ≡ None = port-none 58 (omega arith) port good in
    ap (λ text. by_inner (before_last 58 text)) (sym (append_assoc host (93 ∷ []) (58 ∷ port)))
    ∙ (ap by_inner (parts-here 58 (host ++ 93 ∷ []) port none) ∙ ap (λ t. t && is_entry_port port) (closed-host host))

-- where both tests hold alike they are the same
alike : (a b : Bool) → (a ≡ true → b ≡ true) → (b ≡ true → a ≡ true) → a ≡ b
alike true b there back = sym (there refl)
alike false true there back = back refl
alike false false there back = refl

-- a text of a host and a port is read where a word may have it
text-same : (host port : Bytes) → is_entry_port port ≡ true → by_inner (before_last 58 (host ++ 93 ∷ 58 ∷ port)) ≡ read_inner (before_last 93 (host ++ 93 ∷ 58 ∷ port))
text-same host port good = inner-text host port good ∙ (ap (λ t. is_some (read_host host) && t) (port-same port) ∙ sym (bracketed-text host port good))

-- what a word may have is read
word-is-read : (text : Bytes) → by_inner (before_last 58 text) ≡ true → read_inner (before_last 93 text) ≡ true
word-is-read text good = by_case (before_last 58 text) refl good
  where
    by_host : (p : Bytes × Bytes) → before_last 58 text ≡ Some p → is_entry_port p.1 ≡ true → (o : Option Bytes) → before_bracket (split_last p.0) ≡ o
        → (elim o as (λ _. Bool) [ None ↦ false | Some h ↦ not (is_empty_list h || is_path_text h) ]) ≡ true → read_inner (before_last 93 text) ≡ true
    by_host p parts port None inner h = absurd cc
    by_host p parts port (Some host) inner h =
        let made : text ≡ host ++ 93 ∷ 58 ∷ p.1 = parts-make 58 text p parts ∙ (ap (λ l. l ++ 58 ∷ p.1) (closed-is p.0 host inner) ∙ append_assoc host (93 ∷ []) (58 ∷ p.1)) in
        sym (ap (λ l. by_inner (before_last 58 l)) made ∙ (text-same host p.1 port ∙ ap (λ l. read_inner (before_last 93 l)) (sym made))) ∙ good

    by_case : (o : Option (Bytes × Bytes)) → before_last 58 text ≡ o → by_inner o ≡ true → read_inner (before_last 93 text) ≡ true
    by_case None parts h = absurd cc
    by_case (Some p) parts h = by_host p parts (and-right (inner_host p.0) (is_entry_port p.1) h) (before_bracket (split_last p.0)) refl (and-left (inner_host p.0) (is_entry_port p.1) h)

-- what is read a word may have
read-is-word : (text : Bytes) → read_inner (before_last 93 text) ≡ true → by_inner (before_last 58 text) ≡ true
read-is-word text good = by_case (before_last 93 text) refl good
  where
    by_colon : (host : Bytes) (b : ℕ) (port : Bytes) → text ≡ host ++ 93 ∷ b ∷ port → (t : Bool) → (b == 58) ≡ t
        → is_some (elim t as (λ _. Option (Option ℕ)) [ true ↦ read_port port | false ↦ None ]) ≡ true → by_inner (before_last 58 text) ≡ true
    by_colon host b port parts true colon h =
        let made : text ≡ host ++ 93 ∷ 58 ∷ port = parts ∙ ap (λ c. host ++ 93 ∷ c ∷ port) (same-number b 58 colon) in
        ap (λ l. by_inner (before_last 58 l)) made ∙ (text-same host port (port-same port ∙ h) ∙ (ap (λ l. read_inner (before_last 93 l)) (sym made) ∙ good))
    by_colon host b port parts false colon h = absurd cc

    by_rest : (host rest : Bytes) → text ≡ host ++ 93 ∷ rest → is_some (read_colon_port rest) ≡ true → by_inner (before_last 58 text) ≡ true
    by_rest host [] parts h = absurd cc
    by_rest host (b ∷ port) parts h = by_colon host b port parts (b == 58) refl h

    by_case : (o : Option (Bytes × Bytes)) → before_last 93 text ≡ o → read_inner o ≡ true → by_inner (before_last 58 text) ≡ true
    by_case None parts h = absurd cc
    by_case (Some p) parts h = by_rest p.0 p.1 (parts-make 93 text p parts)
        (and-right (is_some (read_host p.0)) (is_some (read_colon_port p.1)) (sym (both-parts (read_host p.0) (read_colon_port p.1)) ∙ h))

-- ---- all entries

-- a word that begins with a bracket
bracket-word : (text : Bytes) → is_entry (91 ∷ text) ≡ by_inner (before_last 58 text)
bracket-word text = ap word_of (last-same 58 text) ∙ by_case (before_last 58 text)
  where
    word_of : Option (Bytes × Bytes) → Bool
    word_of o = elim (elim o as (λ _. Option (Bytes × Bytes)) [ Some p ↦ Some (91 ∷ p.0, p.1) | None ↦ None ]) as (λ _. Bool) [ None ↦ is_entry_port (91 ∷ text) | Some p ↦ is_entry_host p.0 && is_entry_port p.1 ]

    by_case : (o : Option (Bytes × Bytes)) → word_of o ≡ by_inner o
    by_case None = refl
    by_case (Some p) = refl

-- a text is read as an entry exactly where a word may have it
pub entry-same : (text : Bytes) → is_entry text ≡ is_some (read_entry text)
entry-same [] = refl
entry-same (b ∷ bs) = by_case (b == 47) refl (b == 91) refl
  where
    by_case : (slash : Bool) → (b == 47) ≡ slash → (bracket : Bool) → (b == 91) ≡ bracket
        → is_entry (b ∷ bs) ≡ is_some (elim slash as (λ _. Option Entry) [ true ↦ Some (Paths (b ∷ bs)) | false ↦ elim bracket [ true ↦ read_bracketed bs | false ↦ read_bare (b ∷ bs) ] ])
    by_case true path bracket e = ap (λ c. is_entry (c ∷ bs)) (same-number b 47 path)
    by_case false path true e = ap (λ c. is_entry (c ∷ bs)) (same-number b 91 e)
        ∙ (bracket-word bs ∙ (alike (by_inner (before_last 58 bs)) (read_inner (before_last 93 bs)) (word-is-read bs) (read-is-word bs) ∙ sym (bracketed-inner bs)))
    by_case false path false e = rw (turned b 47 false path, is_entry) (ap (by_parts (b ∷ bs)) (last-same 58 (b ∷ bs)) ∙ bare-same b bs e)
