-- What payloads read as: the summary of their messages, and what all messages of a number have.
use Rattle.std.proofs.Common.{◌≡◌, ℕ, ◌+◌, List, [], ◌∷◌, ◌++◌, length, Some, None, Result, Ok, Err, Bool, false, refl, sym, ap, arith, subst}
use Rattle.ssh_fields.specs.Fields.{u32, str, take_bool, take_u32, take_str}
use Rattle.ssh_grammar.specs.declared.fault.Bad.{Bad}
use Rattle.ssh_grammar.specs.declared.fault.Bad.TheVariants as bad
use Rattle.ssh_grammar.specs.Messages.{Key, Tcp, Path, Message, PlainMessage, Plain, To, GlobalRequest, Cancel, OpenFailure, Close, cancel_name, cancel_path_name}
use Rattle.ssh_grammar.specs.SpellMessage.{cancel_forward}
use Rattle.ssh_fields.proofs.Fields.{take_str-str}
use Rattle.ssh_grammar.specs.ReadMessage.{MessageReading, on_bool, message_on_u32, message_on_str, message_on_end, with_reading, read_message, read_open_failure, read_global_request, read_global, read_key, read_path}
use Rattle.mux_history.specs.Summary.{Summary, Requests, Within, Fails, Closes, summary, summary_to, summary_of_plain, read_summary, reading}

-- ---- a payload and its summary

pub summary-ok : (p : List ℕ) (m : Message) → read_message p ≡ Ok m → read_summary p ≡ Ok (summary m)
summary-ok p m e = ap (λ (r : Result Message Bad). elim r as (λ _. Result Summary Bad) [ Ok m ↦ Ok (summary m) | Err x ↦ Err x ]) e

-- the message of a summary
pub record Read (p : List ℕ) (g : Summary) : Type 0 where
  pub message : Message
  pub reads : read_message p ≡ Ok message
  pub is : summary message ≡ g

pub summary-from : (p : List ℕ) (g : Summary) → read_summary p ≡ Ok g → Read p g
summary-from p g e = by_case (read_message p) refl e
  where
    by_case : (r : Result Message Bad) → read_message p ≡ r → (elim r as (λ _. Result Summary Bad) [ Ok m ↦ Ok (summary m) | Err x ↦ Err x ]) ≡ Ok g → Read p g
    by_case (Ok m) reads e = record { message = m; reads = reads; is = cc }
    by_case (Err x) reads e = cc

pub reading-ok : {A : Type 0} (p : List ℕ) (m : Summary) (f : Summary → A) (other : A) → read_summary p ≡ Ok m → reading p f other ≡ f m
reading-ok {A} p m f other reads = ap (λ r. elim r as (λ _. A) [ Err e ↦ other | Ok m ↦ f m ]) reads

pub reading-err : {A : Type 0} (p : List ℕ) (e : Bad) (f : Summary → A) (other : A) → read_summary p ≡ Err e → reading p f other ≡ other
reading-err {A} p e f other reads = ap (λ r. elim r as (λ _. A) [ Err e ↦ other | Ok m ↦ f m ]) reads

-- ---- what holds of all that is read

abbrev pub Always : {A : Type 0} → (A → Type 0) → MessageReading A → Type 0
Always P (Ok a) = P a
Always P (Err e) = Unit {0}

pub always-ok : {A : Type 0} (P : A → Type 0) (r : MessageReading A) (a : A) → Always P r → r ≡ Ok a → P a
always-ok P (Ok b) a holds e = let same : b ≡ a = cc in subst P same holds
always-ok P (Err x) a holds e = cc

pub u32-always : {A : Type 0} (P : A → Type 0) (bytes : List ℕ) (at : ℕ) (f : ℕ → List ℕ → ℕ → MessageReading A) → ((x : ℕ) (rest : List ℕ) (at : ℕ) → Always P (f x rest at)) → Always P (message_on_u32 bytes at f)
u32-always {A} P bytes at f each = elim (take_u32 bytes) as (λ t. Always P (elim t as (λ _. MessageReading A) [ None ↦ Err (bad.Short at) | Some p ↦ f p.0 p.1 (at + 4) ])) [ None ↦ tt | Some p ↦ each p.0 p.1 (at + 4) ]

pub bool-always : {A : Type 0} (P : A → Type 0) (bytes : List ℕ) (at : ℕ) (f : Bool → List ℕ → ℕ → MessageReading A) → ((x : Bool) (rest : List ℕ) (at : ℕ) → Always P (f x rest at)) → Always P (on_bool bytes at f)
bool-always {A} P bytes at f each = elim (take_bool bytes) as (λ t. Always P (elim t as (λ _. MessageReading A) [ None ↦ Err (bad.Short at) | Some p ↦ f p.0 p.1 (at + 1) ])) [ None ↦ tt | Some p ↦ each p.0 p.1 (at + 1) ]

pub str-always : {A : Type 0} (P : A → Type 0) (bytes : List ℕ) (at : ℕ) (f : List ℕ → List ℕ → ℕ → MessageReading A) → ((x : List ℕ) (rest : List ℕ) (at : ℕ) → Always P (f x rest at)) → Always P (message_on_str bytes at f)
str-always {A} P bytes at f each = elim (take_str bytes) as (λ t. Always P (elim t as (λ _. MessageReading A) [ None ↦ Err (bad.Short at) | Some p ↦ f p.0 p.1 (at + 4 + length p.0) ])) [ None ↦ tt | Some p ↦ each p.0 p.1 (at + 4 + length p.0) ]

pub end-always : {A : Type 0} (P : A → Type 0) (bytes : List ℕ) (at : ℕ) (m : A) → P m → Always P (message_on_end bytes at m)
end-always P [] at m holds = holds
end-always P (b ∷ bytes) at m holds = tt

pub with-always : {A : Type 0} {B : Type 0} (P : B → Type 0) (r : MessageReading A) (f : A → B) → ((a : A) → P (f a)) → Always P (with_reading r f)
with-always P (Ok a) f each = each a
with-always P (Err e) f each = tt

-- the summary of what always is read
pub summary-always : (P : Summary → Type 0) (p : List ℕ) (g : Summary) → Always (λ m. P (summary m)) (read_message p) → read_summary p ≡ Ok g → P g
summary-always P p g always reads = let r = summary-from p g reads in subst P r.is (always-ok (λ m. P (summary m)) (read_message p) r.message always r.reads)

-- ---- what payloads of a number read as

pub then-always : {A : Type 0} {B : Type 0} (P : B → Type 0) (r : MessageReading A) (f : A → B) → Always (λ a. P (f a)) r → Always P (with_reading r f)
then-always P (Ok a) f always = always
then-always P (Err e) f always = tt

pub failure-always : (P : Summary → Type 0) (rest : List ℕ) → ((n : ℕ) → P (Within n Fails)) → Always (λ m. P (summary m)) (read_message (92 ∷ rest))
failure-always P rest each =
    u32-always (λ m. P (summary m)) rest 1 _ (λ n rest at. then-always (λ m. P (summary m)) (read_open_failure rest) (To n)
    (u32-always (λ m. P (summary_to n m)) rest 5 _ (λ reason rest at. str-always (λ m. P (summary_to n m)) rest at _ (λ text rest at. str-always (λ m. P (summary_to n m)) rest at _ (λ language rest at.
    end-always (λ m. P (summary_to n m)) rest at (OpenFailure reason text language) (each n))))))

pub close-always : (P : Summary → Type 0) (rest : List ℕ) → ((n : ℕ) → P (Within n Closes)) → Always (λ m. P (summary m)) (read_message (97 ∷ rest))
close-always P rest each = u32-always (λ m. P (summary m)) rest 1 _ (λ n rest at. then-always (λ m. P (summary m)) (message_on_end rest 5 Close) (To n) (end-always (λ m. P (summary_to n m)) rest 5 Close (each n)))

-- the master's cancel reads as one
pub cancel-always : (P : Summary → Type 0) (key : Key) → ((key : Key) → P (Requests (Cancel key) false)) → Always (λ m. P (summary m)) (read_message (cancel_forward key))
cancel-always P (Tcp address port) each =
    then-always (λ m. P (summary m)) (read_global_request (str cancel_name ++ (0 ∷ (str address ++ u32 port)))) Plain
    (subst (λ t. Always (λ m. P (summary_of_plain m)) (elim t as (λ _. MessageReading PlainMessage) [ None ↦ Err (bad.Short 1) | Some p ↦ on_bool p.1 (1 + 4 + length p.0) (λ want rest at. with_reading (read_global p.0 rest at) (GlobalRequest p.0 want rest)) ]))
    (sym (take_str-str cancel_name (0 ∷ (str address ++ u32 port)) (omega arith)))
    (then-always (λ m. P (summary_of_plain m)) (read_key (str address ++ u32 port) 26 Cancel) (GlobalRequest cancel_name false (str address ++ u32 port))
    (str-always (λ what. P (Requests what false)) (str address ++ u32 port) 26 _ (λ a rest at. u32-always (λ what. P (Requests what false)) rest at _ (λ p rest at. end-always (λ what. P (Requests what false)) rest at (Cancel (Tcp a p)) (each (Tcp a p)))))))
cancel-always P (Path path) each =
    then-always (λ m. P (summary m)) (read_global_request (str cancel_path_name ++ (0 ∷ str path))) Plain
    (subst (λ t. Always (λ m. P (summary_of_plain m)) (elim t as (λ _. MessageReading PlainMessage) [ None ↦ Err (bad.Short 1) | Some p ↦ on_bool p.1 (1 + 4 + length p.0) (λ want rest at. with_reading (read_global p.0 rest at) (GlobalRequest p.0 want rest)) ]))
    (sym (take_str-str cancel_path_name (0 ∷ str path) (omega arith)))
    (then-always (λ m. P (summary_of_plain m)) (read_path (str path) 44 Cancel) (GlobalRequest cancel_path_name false (str path))
    (str-always (λ what. P (Requests what false)) (str path) 44 _ (λ a rest at. end-always (λ what. P (Requests what false)) rest at (Cancel (Path a)) (each (Path a))))))
