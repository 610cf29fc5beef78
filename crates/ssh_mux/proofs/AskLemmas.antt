-- What words ask of a running master may be asked.
use Rattle.std.proofs.Common.{◌≡◌, ◌≤◌, inl, inr, ℕ, Bool, ◌||◌, true, false, List, [], ◌∷◌, ◌++◌, length, Option, Some, None, Result, Ok, Err, refl, subst, arith}
use Rattle.std.specs.Prelude.{nat_lt, if◌then◌else◌, bytes_eq, codes, is_some}
use Rattle.std.specs.List.{AllByRecursion, list_any}
use Rattle.std.proofs.lemmas.Bool.{cases_lt, lt-ltb}
use Rattle.conf_rules.specs.declared.asked.AskedLine.{AskedLine}
use Rattle.conf_rules.specs.declared.asked.AskedLine.TheVariants as lines
use Rattle.conf_rules.specs.declared.causes.ResolveError.{ResolveError}
use Rattle.conf_rules.specs.declared.causes.ValueError.{ValueError}
use Rattle.conf_rules.specs.declared.key.Key.{Key}
use Rattle.conf_rules.specs.declared.key.Key.TheVariants.{LocalForward, RemoteForward, DynamicForward}
use Rattle.conf_rules.specs.declared.value.End.{End}
use Rattle.conf_rules.specs.declared.value.End.TheVariants.{Path, Port}
use Rattle.conf_rules.specs.declared.value.Forward.{Forward}
use Rattle.conf_rules.specs.declared.value.Value.{Value}
use Rattle.conf_rules.specs.declared.value.Value.TheVariants as values
use Rattle.conf_rules.specs.CommandLine.{is_forwarding}
use Rattle.conf_rules.specs.Results.{◌>>=◌}
use Rattle.conf_rules.specs.Texts.{Bytes}
use Rattle.conf_rules.specs.Values.{value_for}
use Rattle.mux_client.specs.Requests.{HasShortHosts}
use Rattle.mux_outside.specs.declared.start_ask.StartAsk.{StartAsk}
use Rattle.ssh_mux.specs.declared.asks.AskedEnd.{AskedEnd}
use Rattle.ssh_mux.specs.Asks.{forward_key, forward_kind_of_key, host_or_empty, end_at, connect_at, both_ends, start_ask, recorded_ask, value_ask, named_ask, line_ask, onto_asks, asks_from}

-- ---- hosts are short

abbrev ShortEnd : Option AskedEnd → Type 0
ShortEnd None = Unit {0}
ShortEnd (Some end) = length end.host ≤ 255

short-host : (host : Bytes) (port : ℕ) → ShortEnd (if nat_lt 255 (length host) then None else Some (record { host = host; port = port }))
short-host host port = by_case (nat_lt 255 (length host)) refl
  where
    by_case : (t : Bool) → nat_lt 255 (length host) ≡ t → ShortEnd (if t then None else Some (record { host = host; port = port }))
    by_case true e = tt
    by_case false e = elim (cases_lt 255 (length host)) [ inl h ↦ absurd (let k : nat_lt 255 (length host) ≡ true = lt-ltb 255 (length host) h in cc) | inr h ↦ h ]

short-end : (end : End) → ShortEnd (end_at end)
short-end (Path path) = tt
short-end (Port host port) = short-host (host_or_empty host) port

short-connect : (connect : Option End) → ShortEnd (connect_at connect)
short-connect None = omega arith
short-connect (Some end) = short-end end

-- a forwarding, if there is one
abbrev ShortAsk : Option StartAsk → Type 0
ShortAsk None = Unit {0}
ShortAsk (Some ask) = HasShortHosts ask

short-both : (kind : ℕ) (listen connect : Option AskedEnd) → ShortEnd listen → ShortEnd connect → ShortAsk (both_ends kind listen connect)
short-both kind (Some listen) (Some connect) l c = record { listen = l; connect = c }
short-both kind (Some listen) None l c = tt
short-both kind None (Some connect) l c = tt
short-both kind None None l c = tt

short-start : (kind : ℕ) (f : Forward) → ShortAsk (start_ask kind f)
short-start kind f = short-both kind (end_at f.listen) (connect_at f.connect) (short-end f.listen) (short-connect f.connect)

-- ---- a line

-- its forwarding has short hosts
abbrev ShortLine : Result (Option StartAsk) ResolveError → Type 0
ShortLine (Ok ask) = ShortAsk ask
ShortLine (Err e) = Unit {0}

-- it names one
abbrev SomeLine : Result (Option StartAsk) ResolveError → Type 0
SomeLine (Ok None) = ⊥
SomeLine (Ok (Some ask)) = Unit {0}
SomeLine (Err e) = Unit {0}

short-recorded : (word : ℕ) (ask : Option StartAsk) → ShortAsk ask → ShortLine (recorded_ask word ask >>= λ a. Ok (Some a))
short-recorded word None h = tt
short-recorded word (Some ask) h = h

some-recorded : (word : ℕ) (ask : Option StartAsk) → SomeLine (recorded_ask word ask >>= λ a. Ok (Some a))
some-recorded word None = tt
some-recorded word (Some ask) = tt

short-value : (word : ℕ) (key : Key) (value : Result Value ValueError) → ShortLine (value_ask word key value >>= λ a. Ok (Some a))
short-value word key (Err e) = tt
short-value word key (Ok (values.Forward f)) = short-recorded word (start_ask (forward_kind_of_key key) f) (short-start (forward_kind_of_key key) f)
short-value word key (Ok (values.Flag b)) = tt
short-value word key (Ok (values.Number n)) = tt
short-value word key (Ok (values.Seconds n)) = tt
short-value word key (Ok (values.Word text)) = tt
short-value word key (Ok (values.Names texts)) = tt

some-value : (word : ℕ) (key : Key) (value : Result Value ValueError) → SomeLine (value_ask word key value >>= λ a. Ok (Some a))
some-value word key (Err e) = tt
some-value word key (Ok (values.Forward f)) = some-recorded word (start_ask (forward_kind_of_key key) f)
some-value word key (Ok (values.Flag b)) = tt
some-value word key (Ok (values.Number n)) = tt
some-value word key (Ok (values.Seconds n)) = tt
some-value word key (Ok (values.Word text)) = tt
some-value word key (Ok (values.Names texts)) = tt

short-line : (line : AskedLine) → ShortLine (line_ask line)
short-line (lines.Line word line) = tt
short-line (lines.Parts word keyword words) = by_key (forward_key keyword)
  where
    by_key : (key : Option Key) → ShortLine (named_ask word key words)
    by_key None = tt
    by_key (Some key) = short-value word key (value_for key [] words)

-- a keyword of a forwarding has a key
some-key : (l r d : Bool) → (l || (r || d)) ≡ true → is_some (if l then Some LocalForward else (if r then Some RemoteForward else (if d then Some DynamicForward else None))) ≡ true
some-key true r d e = refl
some-key false true d e = refl
some-key false false true e = refl
some-key false false false e = absurd cc

some-line : (line : AskedLine) → is_forwarding line ≡ true → SomeLine (line_ask line)
some-line (lines.Line word line) e = absurd cc
some-line (lines.Parts word keyword words) e = by_key (forward_key keyword) (some-key (bytes_eq keyword (codes "localforward")) (bytes_eq keyword (codes "remoteforward")) (bytes_eq keyword (codes "dynamicforward")) e)
  where
    by_key : (key : Option Key) → is_some key ≡ true → SomeLine (named_ask word key words)
    by_key None h = absurd cc
    by_key (Some key) h = some-value word key (value_for key [] words)

-- ---- all lines

abbrev ShortAsks : Result (List StartAsk) ResolveError → Type 0
ShortAsks (Ok what) = AllByRecursion HasShortHosts what
ShortAsks (Err e) = Unit {0}

abbrev SomeAsks : Result (List StartAsk) ResolveError → Type 0
SomeAsks (Ok what) = 1 ≤ length what
SomeAsks (Err e) = Unit {0}

-- the forwardings of a line and of those after it
abbrev then_asks : Result (Option StartAsk) ResolveError → Result (List StartAsk) ResolveError → Result (List StartAsk) ResolveError
then_asks here later = here >>= λ h. later >>= λ l. Ok (onto_asks h l)

short-asks : (ls : List AskedLine) → ShortAsks (asks_from ls)
short-asks [] = tt
short-asks (line ∷ ls) = by_case (line_ask line) (asks_from ls) (short-line line) (short-asks ls)
  where
    by_case : (here : Result (Option StartAsk) ResolveError) (later : Result (List StartAsk) ResolveError) → ShortLine here → ShortAsks later → ShortAsks (then_asks here later)
    by_case (Err e) later h l = tt
    by_case (Ok None) (Err e) h l = tt
    by_case (Ok (Some ask)) (Err e) h l = tt
    by_case (Ok None) (Ok what) h l = l
    by_case (Ok (Some ask)) (Ok what) h l = (h, l)

some-at : (here : Result (Option StartAsk) ResolveError) (later : Result (List StartAsk) ResolveError) → SomeLine here → SomeAsks (then_asks here later)
some-at (Err e) later h = tt
some-at (Ok None) later h = absurd h
some-at (Ok (Some ask)) (Err e) h = tt
some-at (Ok (Some ask)) (Ok what) h = omega arith

some-behind : (here : Result (Option StartAsk) ResolveError) (later : Result (List StartAsk) ResolveError) → SomeAsks later → SomeAsks (then_asks here later)
some-behind (Err e) later h = tt
some-behind (Ok None) (Err e) h = tt
some-behind (Ok (Some ask)) (Err e) h = tt
some-behind (Ok None) (Ok what) h = h
some-behind (Ok (Some ask)) (Ok what) h = omega arith

some-asks : (ls : List AskedLine) → list_any is_forwarding ls ≡ true → SomeAsks (asks_from ls)
some-asks [] e = absurd cc
some-asks (line ∷ ls) e = by_line (is_forwarding line) refl (some-asks ls) e
  where
    by_line : (t : Bool) → is_forwarding line ≡ t → (list_any is_forwarding ls ≡ true → SomeAsks (asks_from ls)) → (t || list_any is_forwarding ls) ≡ true → SomeAsks (then_asks (line_ask line) (asks_from ls))
    by_line true is later g = some-at (line_ask line) (asks_from ls) (some-line line is)
    by_line false is later g = some-behind (line_ask line) (asks_from ls) (later g)

-- ---- what may be asked

pub may-forward : (ls : List AskedLine) (what : List StartAsk) → list_any is_forwarding ls ≡ true → asks_from ls ≡ Ok what → (1 ≤ length what) × AllByRecursion HasShortHosts what
may-forward ls what named is = (subst SomeAsks is (some-asks ls named), subst ShortAsks is (short-asks ls))

-- ---- the loop over the lines

-- the forwardings so far, and those of the lines that are left
abbrev pub behind : List StartAsk → Result (List StartAsk) ResolveError → Result (List StartAsk) ResolveError
behind before later = later >>= λ l. Ok (before ++ l)
