-- What is read for a key is one of its values.
use Rattle.std.proofs.Common.{◌≡◌, ℕ, Bool, true, false, cond, ◌&&◌, ◌||◌, List, [], ◌∷◌, Option, Some, None, Result, Ok, Err, refl}
use Rattle.std.specs.Prelude.{nat_le, bytes_eq, codes}
use Rattle.std.specs.List.{list_all}
use Rattle.std.specs.Char.{is_ascii_digit}
use Rattle.std.proofs.lemmas.Slice.Eq.{bytes_eq-Decides}
use Rattle.conf_rules.specs.declared.key.Key.{Key}
use Rattle.conf_rules.specs.declared.value.End.{End}
use Rattle.conf_rules.specs.declared.value.End.TheVariants.{Path, Port}
use Rattle.conf_rules.specs.declared.value.Value.{Value}
use Rattle.conf_rules.specs.declared.value.Value.TheVariants as values
use Rattle.conf_rules.specs.declared.causes.ValueError.{ValueError}
use Rattle.conf_rules.specs.declared.causes.ValueError.TheVariants.{BadFlag, BadNumber, BadTime, BadChoice}
use Rattle.conf_rules.specs.Results.{◌>>=◌, or_refused}
use Rattle.conf_rules.specs.Texts.{Bytes, same_word, has, split_at_last}
use Rattle.conf_rules.specs.Numbers.{digits_from, number_within}
use Rattle.conf_rules.specs.Times.{seconds_from, some_seconds, time_of}
use Rattle.conf_rules.specs.Kinds.{ValueKind, Flag, Number, Time, Choice, OneWord, HostWord, Raw, FlagOrWord, FlagOrChoice, Names, TwoEnds, OneOrTwoEnds, PortAlone, most, value_kind}
use Rattle.conf_rules.specs.Values.{flag_of, flag_or, listed_choice, choice_among, choice_value, has_name_tokens, value_of, values_of, value_for}
use Rattle.conf_rules.specs.Forwardings.{end_with_port, lone_port, listening_host, connect_host, listen_port, listen_end, connect_end, forwarding_of_one_end, forwarding_of_two_ends}
use Rattle.conf_rules.specs.Fits.{is_choice, is_port_within, end_fits, connect_fits, alone_fits, fits_kind, fits}

-- ---- numbers, times, flags

number-on : (low high n m : ℕ) (a : Bool) → cond (a && (nat_le low n && nat_le n high)) (Some n) None ≡ Some m → (nat_le low m && nat_le m high) ≡ true
number-on low high n m a h = on a (nat_le low n && nat_le n high) refl h
  where
    on : (a b : Bool) → (nat_le low n && nat_le n high) ≡ b → cond (a && b) (Some n) None ≡ Some m → (nat_le low m && nat_le m high) ≡ true
    on true true e h = let k : n ≡ m = cc in rw (← k) e
    on true false e h = absurd cc
    on false b e h = absurd cc

number-range : (low high : ℕ) (word : Bytes) (n : ℕ) → number_within low high word ≡ Some n → (nat_le low n && nat_le n high) ≡ true
number-range low high [] n h = absurd cc
number-range low high (d ∷ ds) n h = number-on low high (digits_from 0 (d ∷ ds)) n (list_all is_ascii_digit (d ∷ ds)) h

number-fits : (low high : ℕ) (o : Option ℕ) (v : Value) → ((n : ℕ) → o ≡ Some n → (nat_le low n && nat_le n high) ≡ true) → (or_refused BadNumber o >>= λ n. Ok (values.Number n)) ≡ Ok v → fits_kind (Number low high) v ≡ true
number-fits low high None v r h = absurd cc
number-fits low high (Some n) v r h = let k : values.Number n ≡ v = cc in rw (← k) (r n refl)

seconds-on : (high : ℕ) (o : Option ℕ) (n : ℕ) → some_seconds high o ≡ Some (Some n) → nat_le n high ≡ true
seconds-on high None n h = absurd cc
seconds-on high (Some m) n h = on (nat_le m high) refl h
  where
    on : (t : Bool) → nat_le m high ≡ t → cond t (Some (Some m)) None ≡ Some (Some n) → nat_le n high ≡ true
    on true e h = let k : m ≡ n = cc in rw (← k) e
    on false e h = absurd cc

time-range : (high : ℕ) (word : Bytes) (n : ℕ) → time_of high word ≡ Some (Some n) → nat_le n high ≡ true
time-range high [] n h = absurd cc
time-range high (b ∷ bs) n h = on (same_word (b ∷ bs) (codes "none")) h
  where
    on : (t : Bool) → cond t (Some None) (some_seconds high (seconds_from 0 None (b ∷ bs))) ≡ Some (Some n) → nat_le n high ≡ true
    on true h = absurd cc
    on false h = seconds-on high (seconds_from 0 None (b ∷ bs)) n h

time-fits : (o : Option (Option ℕ)) (v : Value) → ((n : ℕ) → o ≡ Some (Some n) → nat_le n most ≡ true) → (or_refused BadTime o >>= λ t. Ok (values.Seconds t)) ≡ Ok v → fits_kind Time v ≡ true
time-fits None v r h = absurd cc
time-fits (Some None) v r h = let k : values.Seconds None ≡ v = cc in rw (← k) refl
time-fits (Some (Some n)) v r h = let k : values.Seconds (Some n) ≡ v = cc in rw (← k) (r n refl)

flag-fits : (o : Option Bool) (v : Value) → (or_refused BadFlag o >>= λ b. Ok (values.Flag b)) ≡ Ok v → fits_kind Flag v ≡ true
flag-fits None v h = absurd cc
flag-fits (Some b) v h = let k : values.Flag b ≡ v = cc in rw (← k) refl

-- ---- choices

or-right : (a b : Bool) → b ≡ true → (a || b) ≡ true
or-right true b e = refl
or-right false b e = e

choice-is : (choices : List Bytes) (word c : Bytes) → choice_among choices word ≡ Some c → is_choice choices c ≡ true
choice-is [] word c h = absurd cc
choice-is (x ∷ xs) word c h = on (same_word word x) (choice-is xs word c) h
  where
    on : (t : Bool) → (choice_among xs word ≡ Some c → is_choice xs c ≡ true) → cond t (Some (listed_choice x)) (choice_among xs word) ≡ Some c → is_choice (x ∷ xs) c ≡ true
    on true later h = let k : listed_choice x ≡ c = cc in rw ((bytes_eq-Decides (listed_choice x) c).1 k) refl
    on false later h = or-right (bytes_eq (listed_choice x) c) (is_choice xs c) (later h)

chosen-is : (choices : List Bytes) (o : Option Bytes) (v : Value) → ((c : Bytes) → o ≡ Some c → is_choice choices c ≡ true) → (or_refused BadChoice o >>= λ c. Ok (values.Word c)) ≡ Ok v → fits_kind (Choice choices) v ≡ true
chosen-is choices None v r h = absurd cc
chosen-is choices (Some c) v r h = let k : values.Word c ≡ v = cc in rw (← k) (r c refl)

choice-fits : (choices : List Bytes) (word : Bytes) (v : Value) → choice_value choices word ≡ Ok v → fits_kind (Choice choices) v ≡ true
choice-fits choices word v h = chosen-is choices (choice_among choices word) v (choice-is choices word) h

-- a choice is also a value where a flag may stand
also-choice : (choices : List Bytes) (v : Value) → fits_kind (Choice choices) v ≡ true → fits_kind (FlagOrChoice choices) v ≡ true
also-choice choices (values.Word c) h = h
also-choice choices v h = absurd cc

flag-or-choice : (choices : List Bytes) (o : Option Bool) (word : Bytes) (v : Value) → flag_or o (choice_value choices word) ≡ Ok v → fits_kind (FlagOrChoice choices) v ≡ true
flag-or-choice choices None word v h = also-choice choices v (choice-fits choices word v h)
flag-or-choice choices (Some b) word v h = let k : values.Flag b ≡ v = cc in rw (← k) refl

flag-or-word : (o : Option Bool) (word : Bytes) (v : Value) → flag_or o (Ok (values.Word word)) ≡ Ok v → fits_kind FlagOrWord v ≡ true
flag-or-word None word v h = let k : values.Word word ≡ v = cc in rw (← k) refl
flag-or-word (Some b) word v h = let k : values.Flag b ≡ v = cc in rw (← k) refl

name-fits : (word : Bytes) (v : Value) (cause : ValueError) (t : Bool) → has_name_tokens word ≡ t → cond t (Ok (values.Word word)) (Err cause) ≡ Ok v → fits_kind HostWord v ≡ true
name-fits word v cause true e h = let k : values.Word word ≡ v = cc in rw (← k) e
name-fits word v cause false e h = absurd cc

-- a value that is read
abbrev ok : Value → Result Value ValueError
ok v = Ok v

word-fits : (word : Bytes) (v : Value) → ok (values.Word word) ≡ Ok v → fits_kind OneWord v ≡ true
word-fits word v h = let k : values.Word word ≡ v = cc in rw (← k) refl

raw-fits : (word : Bytes) (v : Value) → ok (values.Word word) ≡ Ok v → fits_kind Raw v ≡ true
raw-fits word v h = let k : values.Word word ≡ v = cc in rw (← k) refl

names-fit : (words : List Bytes) (v : Value) → ok (values.Names words) ≡ Ok v → fits_kind Names v ≡ true
names-fit words v h = let k : values.Names words ≡ v = cc in rw (← k) refl

-- ---- forwardings

-- an end with a host and a port of its range
hosted : ℕ → End → Bool
hosted low (Port (Some host) port) = is_port_within low port
hosted low end = false

-- an end with a port of its range
ported : ℕ → End → Bool
ported low (Port host port) = is_port_within low port
ported low (Path path) = false

-- a port, if there is one, with its host
at_port : Option Bytes → Option ℕ → Option End
at_port host None = None
at_port host (Some n) = Some (Port host n)

with-port-is : (low : ℕ) (port : Bytes) (host : Option Bytes) (e : End) → end_with_port low port host ≡ Some e → hosted low e ≡ true
unfolding hosted at_port
with-port-is low port None e h = absurd cc
with-port-is low port (Some host) e h = on (number_within low 65535 port) (number-range low 65535 port) h
  where
    on : (o : Option ℕ) → ((n : ℕ) → o ≡ Some n → is_port_within low n ≡ true) → at_port (Some host) o ≡ Some e → hosted low e ≡ true
    on None r h = absurd cc
    on (Some n) r h = let k : Port (Some host) n ≡ e = cc in rw (← k) (r n refl)

lone-port-is : (low : ℕ) (port : Bytes) (e : End) → lone_port low port ≡ Some e → ported low e ≡ true
unfolding ported at_port
lone-port-is low port e h = on (number_within low 65535 port) (number-range low 65535 port) h
  where
    on : (o : Option ℕ) → ((n : ℕ) → o ≡ Some n → is_port_within low n ≡ true) → at_port None o ≡ Some e → ported low e ≡ true
    on None r h = absurd cc
    on (Some n) r h = let k : Port None n ≡ e = cc in rw (← k) (r n refl)

hosted-ported : (low : ℕ) (e : End) → hosted low e ≡ true → ported low e ≡ true
unfolding hosted ported
hosted-ported low (Port (Some host) port) h = h
hosted-ported low (Port None port) h = absurd cc
hosted-ported low (Path path) h = absurd cc

-- the end of a word, by how its last colon parts it
listen_by : ℕ → Bytes → Option (Bytes × Bytes) → Option End
listen_by low word None = lone_port low word
listen_by low word (Some p) = end_with_port low p.1 (listening_host p.0)

listen-port-is : (low : ℕ) (word : Bytes) (e : End) → listen_port low word ≡ Some e → ported low e ≡ true
unfolding listen_by
listen-port-is low word e h = on (split_at_last 58 word) h
  where
    on : (o : Option (Bytes × Bytes)) → listen_by low word o ≡ Some e → ported low e ≡ true
    on None h = lone-port-is low word e h
    on (Some p) h = hosted-ported low e (with-port-is low p.1 (listening_host p.0) e h)

ported-fits : (low : ℕ) (e : End) → ported low e ≡ true → end_fits low e ≡ true
unfolding ported
ported-fits low (Port host port) h = h
ported-fits low (Path path) h = absurd cc

listen-fits : (low : ℕ) (word : Bytes) (e : End) → listen_end low word ≡ Some e → end_fits low e ≡ true
listen-fits low word e h = on (has 47 word) h
  where
    on : (t : Bool) → cond t (Some (Path word)) (listen_port low word) ≡ Some e → end_fits low e ≡ true
    on true h = let k : Path word ≡ e = cc in rw (← k) refl
    on false h = ported-fits low e (listen-port-is low word e h)

hosted-connects : (e : End) → hosted 1 e ≡ true → connect_fits (Some e) ≡ true
unfolding hosted
hosted-connects (Port (Some host) port) h = h
hosted-connects (Port None port) h = absurd cc
hosted-connects (Path path) h = absurd cc

connect_by : Option (Bytes × Bytes) → Option End
connect_by None = None
connect_by (Some p) = end_with_port 1 p.1 (connect_host p.0)

connect-is : (word : Bytes) (e : End) → connect_end word ≡ Some e → connect_fits (Some e) ≡ true
unfolding connect_by
connect-is word e h = on (has 47 word) h
  where
    split : (o : Option (Bytes × Bytes)) → connect_by o ≡ Some e → connect_fits (Some e) ≡ true
    split None h = absurd cc
    split (Some p) h = hosted-connects e (with-port-is 1 p.1 (connect_host p.0) e h)

    on : (t : Bool) → cond t (Some (Path word)) (connect_by (split_at_last 58 word)) ≡ Some e → connect_fits (Some e) ≡ true
    on true h = let k : Path word ≡ e = cc in rw (← k) refl
    on false h = split (split_at_last 58 word) h

ported-alone : (e : End) → ported 1 e ≡ true → alone_fits None e ≡ true
unfolding ported
ported-alone (Port host port) h = h
ported-alone (Path path) h = absurd cc

alone-fits : (o : Option End) (v : Value) → ((e : End) → o ≡ Some e → ported 1 e ≡ true) → forwarding_of_one_end o ≡ Ok v → fits_kind PortAlone v ≡ true
alone-fits None v r h = absurd cc
alone-fits (Some e) v r h = let k : values.Forward (record { listen = e; connect = None }) ≡ v = cc in rw (← k) (ported-alone e (r e refl))

one-fits : (o : Option End) (v : Value) → ((e : End) → o ≡ Some e → end_fits 0 e ≡ true) → forwarding_of_one_end o ≡ Ok v → fits_kind OneOrTwoEnds v ≡ true
one-fits None v r h = absurd cc
one-fits (Some e) v r h = let k : values.Forward (record { listen = e; connect = None }) ≡ v = cc in rw (← k, r e refl) refl

two-fits : (l c : Option End) (v : Value) → ((e : End) → l ≡ Some e → end_fits 1 e ≡ true) → ((e : End) → c ≡ Some e → connect_fits (Some e) ≡ true) → forwarding_of_two_ends l c ≡ Ok v → fits_kind TwoEnds v ≡ true
two-fits None c v r s h = absurd cc
two-fits (Some e) None v r s h = absurd cc
two-fits (Some e) (Some f) v r s h = let k : values.Forward (record { listen = e; connect = Some f }) ≡ v = cc in rw (← k, r e refl) (s f refl)

both-fit : (l c : Option End) (v : Value) → ((e : End) → l ≡ Some e → end_fits 0 e ≡ true) → ((e : End) → c ≡ Some e → connect_fits (Some e) ≡ true) → forwarding_of_two_ends l c ≡ Ok v → fits_kind OneOrTwoEnds v ≡ true
both-fit None c v r s h = absurd cc
both-fit (Some e) None v r s h = absurd cc
both-fit (Some e) (Some f) v r s h = let k : values.Forward (record { listen = e; connect = Some f }) ≡ v = cc in rw (← k, r e refl) (s f refl)

alone-word : (t : Bool) (cause : ValueError) (word : Bytes) (v : Value) → cond t (Err cause) (forwarding_of_one_end (listen_port 1 word)) ≡ Ok v → fits_kind PortAlone v ≡ true
alone-word true cause word v h = absurd cc
alone-word false cause word v h = alone-fits (listen_port 1 word) v (listen-port-is 1 word) h

-- ---- words

word-of : (k : ValueKind) (word : Bytes) (v : Value) → values_of k (word ∷ []) ≡ Ok v → fits_kind k v ≡ true
unfolding values_of value_of
word-of Flag word v h = flag-fits (flag_of word) v h
word-of (Number low high) word v h = number-fits low high (number_within low high word) v (number-range low high word) h
word-of Time word v h = time-fits (time_of most word) v (time-range most word) h
word-of (Choice choices) word v h = choice-fits choices word v h
word-of OneWord word v h = word-fits word v h
word-of HostWord word v h = name-fits word v _ (has_name_tokens word) refl h
word-of Raw word v h = raw-fits word v h
word-of FlagOrWord word v h = flag-or-word (flag_of word) word v h
word-of (FlagOrChoice choices) word v h = flag-or-choice choices (flag_of word) word v h
word-of Names word v h = names-fit (word ∷ []) v h
word-of TwoEnds word v h = absurd cc
word-of OneOrTwoEnds word v h = one-fits (listen_end 0 word) v (listen-fits 0 word) h
word-of PortAlone word v h = alone-word (has 47 word) _ word v h

words-of : (k : ValueKind) (words : List Bytes) (v : Value) → values_of k words ≡ Ok v → fits_kind k v ≡ true
unfolding values_of
words-of Names words v h = names-fit words v h
words-of k [] v h = absurd cc
words-of k (w ∷ []) v h = word-of k w v h
words-of TwoEnds (l ∷ c ∷ []) v h = two-fits (listen_end 1 l) (connect_end c) v (listen-fits 1 l) (connect-is c) h
words-of OneOrTwoEnds (l ∷ c ∷ []) v h = both-fit (listen_end 0 l) (connect_end c) v (listen-fits 0 l) (connect-is c) h
words-of k words v h = absurd cc

-- what a kind makes of a line
unfoldable pub said : ValueKind → Bytes → List Bytes → Result Value ValueError
said k rest words = elim k [ Raw ↦ Ok (values.Word rest) | other ↦ values_of other words ]

said-fits : (k : ValueKind) (rest : Bytes) (words : List Bytes) (v : Value) → said k rest words ≡ Ok v → fits_kind k v ≡ true
unfolding said
said-fits Raw rest words v h = raw-fits rest v h
said-fits Flag rest words v h = words-of Flag words v h
said-fits (Number low high) rest words v h = words-of (Number low high) words v h
said-fits Time rest words v h = words-of Time words v h
said-fits (Choice choices) rest words v h = words-of (Choice choices) words v h
said-fits OneWord rest words v h = words-of OneWord words v h
said-fits HostWord rest words v h = words-of HostWord words v h
said-fits FlagOrWord rest words v h = words-of FlagOrWord words v h
said-fits (FlagOrChoice choices) rest words v h = words-of (FlagOrChoice choices) words v h
said-fits Names rest words v h = words-of Names words v h
said-fits TwoEnds rest words v h = words-of TwoEnds words v h
said-fits OneOrTwoEnds rest words v h = words-of OneOrTwoEnds words v h
said-fits PortAlone rest words v h = words-of PortAlone words v h

pub value-fits : (key : Key) (rest : Bytes) (words : List Bytes) (v : Value) → value_for key rest words ≡ Ok v → fits key v ≡ true
unfolding fits said
value-fits key rest words v h = said-fits (value_kind key) rest words v h
