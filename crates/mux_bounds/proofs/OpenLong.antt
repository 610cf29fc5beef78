-- A payload that opens a channel has eight bytes at least.
use Rattle.std.proofs.Common.{◌≡◌, ℕ, ◌+◌, ◌≤◌, List, [], ◌∷◌, length, take, drop, length-drop, true, false, Bool, arith, Some, None, Ok, Err}
use Rattle.std.specs.Prelude.{nat_le, Option}
use Rattle.ssh_fields.specs.Fields.{of_four}
use Rattle.ssh_grammar.specs.Messages.{Adjust, ChannelMessage, Close, Confirmation, Data, Eof, Extended, Failure, GlobalRequest, Open, OpenFailure, Opens, Plain, Request, RequestFailure, Success, To}
use Rattle.ssh_grammar.specs.ReadMessage.{Form, OfChannel, OfNone, MessageReading, message_forms, on_bool, message_on_str, message_on_u32, read_as, read_global, read_opens, with_reading}
use Rattle.ssh_grammar.specs.Tables.{by_number}
use Rattle.ssh_grammar.specs.declared.fault.Bad.TheVariants as bad
use Rattle.ssh_grammar.proofs.Tables.{by_number-holds}
use Rattle.mux_history.specs.Summary.{Summary, summary, summary_to, summary_of_plain, read_summary}
use Rattle.mux_history.specs.Summary as short
use Rattle.mux_history.proofs.Readings.{Always, bool-always, end-always, summary-always, str-always, then-always, u32-always, with-always}

-- ---- fields have bytes

u32-deep : {A : Type 0} (P : A → Type 0) (bytes : List ℕ) (at : ℕ) (f : ℕ → List ℕ → ℕ → MessageReading A) → ((x : ℕ) (rest : List ℕ) (at : ℕ) → length rest + 4 ≤ length bytes → Always P (f x rest at)) → Always P (message_on_u32 bytes at f)
u32-deep P [] at f each = tt
u32-deep P (a ∷ []) at f each = tt
u32-deep P (a ∷ b ∷ []) at f each = tt
u32-deep P (a ∷ b ∷ c ∷ []) at f each = tt
u32-deep P (a ∷ b ∷ c ∷ d ∷ rest) at f each = each (of_four a b c d) rest (at + 4) (omega arith)

str-deep : {A : Type 0} (P : A → Type 0) (bytes : List ℕ) (at : ℕ) (f : List ℕ → List ℕ → ℕ → MessageReading A) → ((x : List ℕ) (rest : List ℕ) (at : ℕ) → length rest + 4 ≤ length bytes → Always P (f x rest at)) → Always P (message_on_str bytes at f)
str-deep P [] at f each = tt
str-deep P (a ∷ []) at f each = tt
str-deep P (a ∷ b ∷ []) at f each = tt
str-deep P (a ∷ b ∷ c ∷ []) at f each = tt
str-deep {A} P (a ∷ b ∷ c ∷ d ∷ more) at f each = by_case (nat_le (of_four a b c d) (length more))
  where
    by_case : (t : Bool) → Always P (elim (elim t as (λ _. Option (List ℕ × List ℕ)) [ true ↦ Some (take (of_four a b c d) more, drop (of_four a b c d) more) | false ↦ None ]) as (λ _. MessageReading A) [ None ↦ Err (bad.Short at) | Some p ↦ f p.0 p.1 (at + 4 + length p.0) ])
    by_case true = each (take (of_four a b c d) more) (drop (of_four a b c d) more) (at + 4 + length (take (of_four a b c d) more)) (let l = length-drop (of_four a b c d) more in omega (arith, l))
    by_case false = tt

-- ---- an open

abbrev Long : ℕ → Summary → Type 0
Long n (short.Open what s w max) = 8 ≤ n + 1
Long n g = Unit {0}

to-long : (n recipient : ℕ) (m : ChannelMessage) → Long n (summary_to recipient m)
to-long n recipient (Confirmation sender window maximum rest) = tt
to-long n recipient (OpenFailure reason text language) = tt
to-long n recipient (Adjust add) = tt
to-long n recipient (Data bytes) = tt
to-long n recipient (Extended code bytes) = tt
to-long n recipient Eof = tt
to-long n recipient Close = tt
to-long n recipient (Request kind want rest) = tt
to-long n recipient Success = tt
to-long n recipient Failure = tt

abbrev LongForm : ℕ → List ℕ → Form → Type 0
LongForm n rest form = Always (λ m. Long (length rest) (summary m)) (read_as n form rest)

channel-long : (n : ℕ) (rest : List ℕ) (read : List ℕ → MessageReading ChannelMessage) → LongForm n rest (OfChannel read)
channel-long n rest read = u32-always (λ m. Long (length rest) (summary m)) rest 1 _ (λ recipient more at. with-always (λ m. Long (length rest) (summary m)) (read more) (To recipient) (λ m. to-long (length rest) recipient m))

request-long : (n : ℕ) (rest : List ℕ) → Always (λ m. Long (length rest) (summary_of_plain m)) (message_on_str rest 1 (λ name more at. on_bool more at (λ want more at. with_reading (read_global name more at) (GlobalRequest name want more))))
request-long n rest = str-always (λ m. Long (length rest) (summary_of_plain m)) rest 1 _ (λ name more at. bool-always (λ m. Long (length rest) (summary_of_plain m)) more at _ (λ want more at. with-always (λ m. Long (length rest) (summary_of_plain m)) (read_global name more at) (GlobalRequest name want more) (λ what. tt)))

open-long : (rest : List ℕ) → Always (λ m. Long (length rest) (summary_of_plain m)) (message_on_str rest 1 (λ kind more at. message_on_u32 more at (λ sender more at. message_on_u32 more at (λ window more at. message_on_u32 more at (λ maximum more at. with_reading (read_opens kind more at) (Open kind sender window maximum more))))))
open-long rest =
    str-deep (λ m. Long (length rest) (summary_of_plain m)) rest 1 _ (λ kind a at le. u32-deep (λ m. Long (length rest) (summary_of_plain m)) a at _ (λ sender b at le'.
    u32-always (λ m. Long (length rest) (summary_of_plain m)) b at _ (λ window c at. u32-always (λ m. Long (length rest) (summary_of_plain m)) c at _ (λ maximum d at.
    with-always (λ m. Long (length rest) (summary_of_plain m)) (read_opens kind d at) (Open kind sender window maximum d) (λ what. omega (arith, le, le'))))))

all-long : (n : ℕ) (rest : List ℕ) → LongForm n rest (by_number (message_forms n) n OfNone)
all-long n rest = by_number-holds (LongForm n rest) (message_forms n) n OfNone
    ((λ e. tt), ((λ e. tt), ((λ e. tt), ((λ e. tt), ((λ e. then-always (λ m. Long (length rest) (summary m)) _ Plain (request-long n rest)), ((λ e. tt), ((λ e. then-always (λ m. Long (length rest) (summary m)) _ Plain (end-always (λ m. Long (length rest) (summary_of_plain m)) rest 1 RequestFailure tt)), ((λ e. then-always (λ m. Long (length rest) (summary m)) _ Plain (open-long rest)), ((λ e. channel-long n rest _), ((λ e. channel-long n rest _), ((λ e. channel-long n rest _), ((λ e. channel-long n rest _), ((λ e. channel-long n rest _), ((λ e. channel-long n rest _), ((λ e. channel-long n rest _), ((λ e. channel-long n rest _), ((λ e. channel-long n rest _), ((λ e. channel-long n rest _), tt))))))))))))))))))
    tt

pub opens-long : (p : List ℕ) (what : Opens) (s w max : ℕ) → read_summary p ≡ Ok (short.Open what s w max) → 8 ≤ length p
opens-long [] what s w max reads = cc
opens-long (n ∷ rest) what s w max reads = let l = summary-always (Long (length rest)) (n ∷ rest) (short.Open what s w max) (all-long n rest) reads in omega (arith, l)
