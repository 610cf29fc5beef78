-- What an act breaks in the accounts is what it breaks in the channel.
use Rattle.std.proofs.Common.{◌≡◌, ◌+◌, true, false, Bool, refl, sym, ap, ◌∙◌, Option, Some, None}
use Rattle.std.specs.Prelude.{nat_lt, ◌==◌}
use Rattle.ssh_grammar.specs.declared.side.Side.{Side}
use Rattle.ssh_grammar.specs.declared.side.Side.TheVariants.{Up, Down}
use Rattle.ssh_grammar.specs.declared.fault.Breach.{Breach}
use Rattle.ssh_grammar.specs.declared.fault.Breach.TheVariants.{AfterClose, AfterEof, NotOpen, Overflow, TooManyAsks, Unasked}
use Rattle.mux_history.specs.declared.limits.TheConstants.{MAX_CHANNEL_REQUESTS, MAX_WINDOW}
use Rattle.mux_history.specs.Channels.{Channel, any_act, any_by, is_closes, is_confirms, is_ends}
use Rattle.mux_history.specs.Ledger.{act_breach, breach, maximum_of, other_side, packet_breach, room, unanswered}
use Rattle.window_ledger.specs.Act.{summary_act_of}
use Rattle.window_ledger.specs.Stands.{IsStateOf, account_of}
use Rattle.window_ledger.specs.Step.{between, breach_in, first_breach, while_open, while_speaking}
use Rattle.window_ledger.specs.declared.account.Speech.{Speech}
use Rattle.window_ledger.specs.declared.account.Speech.TheVariants.{Closed, Ended, Speaking}
use Rattle.window_ledger.specs.declared.act.Act.{Act}
use Rattle.window_ledger.specs.declared.act.Act.TheVariants.{Close, Data, Eof, Grant, Reply, Request}
use Rattle.window_ledger.specs.declared.ledger.State.{State}
use Rattle.window_ledger.specs.declared.ledger.State.TheVariants.{Confirmed, Opened}

abbrev speech : Bool → Bool → Speech
speech c e = elim c as (λ _. Speech) [ true ↦ Closed | false ↦ elim e as (λ _. Speech) [ true ↦ Ended | false ↦ Speaking ] ]

abbrev unless_closed : Bool → Option Breach → Option Breach
unless_closed c other = elim c as (λ _. Option Breach) [ true ↦ Some AfterClose | false ↦ other ]

alone : (b : Option Breach) → first_breach b None ≡ b
alone None = refl
alone (Some b) = refl

data-case : (c e : Bool) (b : Option Breach) → first_breach (while_open (speech c e) (while_speaking (speech c e) b)) None ≡ unless_closed c (elim e as (λ _. Option Breach) [ true ↦ Some AfterEof | false ↦ b ])
data-case true e b = refl
data-case false true b = refl
data-case false false b = alone b

-- of what only the speaker's own close and one account show
plain-case : (c e : Bool) (b : Option Breach) → first_breach (while_open (speech c e) b) None ≡ unless_closed c b
plain-case true e b = refl
plain-case false true b = alone b
plain-case false false b = alone b

other-case : (c e : Bool) (b : Option Breach) → first_breach (while_open (speech c e) None) b ≡ unless_closed c b
other-case true e b = refl
other-case false true b = refl
other-case false false b = refl

between-is : (way : Side) (act : Act) (x : Channel) → between act (account_of way x) (account_of (other_side way) x) ≡ unless_closed (any_by way is_closes x.acts) (act_breach way (summary_act_of act) x)
between-is way (Data size) x = data-case (any_by way is_closes x.acts) (any_by way is_ends x.acts) (packet_breach (maximum_of way x) (room way x) size)
between-is way Eof x = data-case (any_by way is_closes x.acts) (any_by way is_ends x.acts) None
between-is way (Request true) x = plain-case (any_by way is_closes x.acts) (any_by way is_ends x.acts) (elim (nat_lt (unanswered way x) MAX_CHANNEL_REQUESTS) as (λ _. Option Breach) [ true ↦ None | false ↦ Some (TooManyAsks (unanswered way x)) ])
between-is way (Request false) x = plain-case (any_by way is_closes x.acts) (any_by way is_ends x.acts) None
between-is way Close x = plain-case (any_by way is_closes x.acts) (any_by way is_ends x.acts) None
between-is way (Grant add) x = other-case (any_by way is_closes x.acts) (any_by way is_ends x.acts) (elim (nat_lt MAX_WINDOW (room (other_side way) x + add)) as (λ _. Option Breach) [ true ↦ Some (Overflow (room (other_side way) x) add) | false ↦ None ])
between-is way Reply x = other-case (any_by way is_closes x.acts) (any_by way is_ends x.acts) (elim (unanswered (other_side way) x == 0) as (λ _. Option Breach) [ true ↦ Some Unasked | false ↦ None ])

abbrev if_confirmed : Bool → Option Breach → Option Breach
if_confirmed b other = elim b as (λ _. Option Breach) [ false ↦ Some NotOpen | true ↦ other ]

pub breach-is : (way : Side) (act : Act) (state : State) (x : Channel) → IsStateOf state x → breach_in way act state ≡ breach way (summary_act_of act) x
breach-is way act (Opened by window maximum) x stands = ap (λ acts. if_confirmed (any_act is_confirms acts) (unless_closed (any_by way is_closes x.acts) (act_breach way (summary_act_of act) x))) (sym stands.fresh)
breach-is Up act (Confirmed up down) x stands =
    ap (λ a. between act a down) stands.upward
    ∙ ap (λ a. between act (account_of Up x) a) stands.downward
    ∙ between-is Up act x
    ∙ ap (λ b. if_confirmed b (unless_closed (any_by Up is_closes x.acts) (act_breach Up (summary_act_of act) x))) (sym stands.answered)
breach-is Down act (Confirmed up down) x stands =
    ap (λ a. between act down a) stands.upward
    ∙ ap (λ a. between act a (account_of Up x)) stands.downward
    ∙ between-is Down act x
    ∙ ap (λ b. if_confirmed b (unless_closed (any_by Down is_closes x.acts) (act_breach Down (summary_act_of act) x))) (sym stands.answered)
