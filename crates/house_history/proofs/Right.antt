-- What is known of the forwarder's channels at each row of a right log.
use Rattle.std.proofs.Common.{◌≡◌, ◌<◌, ℕ, Some, List, [], ◌∷◌, subst}
use Rattle.std.specs.Prelude.{filter}
use Rattle.mux_outside.specs.declared.house.HouseReply.{HouseReply}
use Rattle.mux_outside.specs.declared.mark.Mark.{Mark}
use Rattle.mux_history.specs.declared.limits.TheConstants.{HOUSE}
use Rattle.mux_history.specs.Channels.{Channel, channels_of, held_of, is_channel_held}
use Rattle.mux_history.specs.Journal.{IsLawful, log_of_journal}
use Rattle.mux_history.specs.Kept.{AtEach, ForEach}
use Rattle.mux_history.specs.Policy.{Policy}
use Rattle.mux_history.specs.Right.{AreFresh}
use Rattle.mux_history.specs.Rows.{Row, rows_of}
use Rattle.mux_history.specs.Settings.{by_lists}
use Rattle.mux_history.proofs.Apart.{AreApart, Sound}
use Rattle.mux_history.proofs.Finds as finds
use Rattle.mux_history.proofs.Finds.{filter-no, filter-yes}
use Rattle.mux_history.proofs.Journals.{logs-right}
use Rattle.mux_history.proofs.Local.{channels-local, is_of}
use Rattle.mux_history.proofs.RightLogs.{LogKnown, RowKnown, right-known}
use Rattle.house_history.proofs.Lists.{Each, each-filter}
use Rattle.house_history.proofs.AnswersOf.{AllAreUsed, used-next}
use Rattle.house_history.proofs.Channels.{good-own, mine-held}
use Rattle.house_history.proofs.Going.{RightAt}

-- a channel with a number of the master's has one of its client's
abbrev pub IsOwned : Channel → Type 0
IsOwned x = (n : ℕ) → x.number ≡ Some n → (c : ℕ) × (x.own ≡ Some c) × (c < 4294967296)

all-owned : (xs : List Channel) → finds.Each Sound xs → Each IsOwned xs
all-owned [] all = tt
all-owned (x ∷ xs) all = ((λ n e. let o = all.0.owned n e in (o.0, o.1, all.0.small o.0 o.1)), all-owned xs all.1)

owned-held : (k : ℕ) (rows : List Row) → AreApart (channels_of rows) → Each IsOwned (held_of (rows_of k rows))
owned-held k rows apart = subst (λ (xs : List Channel). Each IsOwned (filter is_channel_held xs)) (channels-local k rows)
    (each-filter IsOwned is_channel_held (filter (is_of k) (channels_of rows)) (each-filter IsOwned (is_of k) (channels_of rows) (all-owned (channels_of rows) apart.each)))

right-one : (rows : List Row) → AreApart (channels_of rows) → AllAreUsed rows → RightAt rows
right-one rows apart used = record {
  good = good-own HOUSE rows apart;
  mine = mine-held HOUSE rows;
  owned = owned-held HOUSE rows apart;
  used = λ on. used HOUSE on;
}

right-each : (policy : Policy) (pid : ℕ) (rows : List Row) → ForEach (RowKnown policy pid) rows → AreApart (channels_of rows) → AtEach AllAreUsed rows → AtEach RightAt rows
right-each policy pid [] each good used = right-one [] good used
right-each policy pid (row ∷ before) each good used = (right-one (row ∷ before) good used.0, right-each policy pid before each.1 each.0.good used.1)

pub right-held : (policy : Policy) (pid : ℕ) (picks : List ℕ) (given : List HouseReply) (marks : List Mark) → IsLawful marks → AreFresh (log_of_journal (by_lists policy pid picks given) marks)
    → AtEach RightAt (log_of_journal (by_lists policy pid picks given) marks)
right-held policy pid picks given marks lawful fresh =
    let rows = log_of_journal (by_lists policy pid picks given) marks in
    let known : LogKnown policy pid rows = right-known policy pid picks given marks 0 rows lawful ((logs-right policy pid picks given marks).whole fresh) in
    right-each policy pid rows known.each known.good (used-next policy pid picks given marks lawful fresh)
