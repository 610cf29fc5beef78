-- A look-up among a client's channels by the server's number is the one among all.
use Rattle.std.proofs.Common.{◌≡◌, ℕ, List, [], ◌∷◌, true, false, Bool, refl, ◌∙◌, ap, sym, Option, Some, None}
use Rattle.std.specs.Prelude.{◌==◌, ◌&&◌, not, filter, find}
use Rattle.mux_history.specs.Channels.{Channel, channels_of, is_confirmed, is_channel_held, is_number, is_up}
use Rattle.mux_history.specs.Kept.{AtEach, ForEach}
use Rattle.mux_history.specs.Laws.{LooksUp, if_passes}
use Rattle.mux_history.specs.Policy.{Policy}
use Rattle.mux_history.specs.Rows.{Row}
use Rattle.mux_history.proofs.Apart.{AllApart, ApartFrom, AreApart, NotLive, each-filter, each-of}
use Rattle.mux_history.proofs.Finds.{Each, filter-no, filter-yes, find-no, find-yes}
use Rattle.mux_history.proofs.Local.{channels-local, is_of}
use Rattle.mux_history.proofs.RightLogs.{LogKnown, RowKnown}

-- nothing passes where nothing has the number
none-passes : (s : ℕ) (test : Channel → Bool) (xs : List Channel) → Each (NotLive s) xs → find (λ x. is_number x.remote s && test x) (filter is_channel_held xs) ≡ None
none-passes s test [] all = refl
none-passes s test (x ∷ xs) all = by_held (none-passes s test xs all.1) (is_channel_held x) refl
  where
    by_held : find (λ x. is_number x.remote s && test x) (filter is_channel_held xs) ≡ None → (b : Bool) → is_channel_held x ≡ b → find (λ x. is_number x.remote s && test x) (filter is_channel_held (x ∷ xs)) ≡ None
    by_held ih false e = ap (find (λ (x : Channel). is_number x.remote s && test x)) (filter-no is_channel_held x xs e) ∙ ih
    by_held ih true e = ap (find (λ (x : Channel). is_number x.remote s && test x)) (filter-yes is_channel_held x xs e) ∙ (find-no (λ (x : Channel). is_number x.remote s && test x) x (filter is_channel_held xs) (ap (λ b. b && test x) (all.0 e)) ∙ ih)

find-kept : (k s : ℕ) (test : Channel → Bool) (xs : List Channel) → AllApart xs → find (λ x. is_number x.remote s && test x) (filter is_channel_held (filter (is_of k) xs)) ≡ if_passes (λ x. (x.client == k) && test x) (find (λ x. is_number x.remote s) (filter is_channel_held xs))
find-kept k s test [] apart = refl
find-kept k s test (x ∷ xs) apart = by_all (find-kept k s test xs apart.1) (x.client == k) refl (is_channel_held x) refl (is_number x.remote s) refl (test x) refl
  where
    others : is_channel_held x ≡ true → is_number x.remote s ≡ true → find (λ y. is_number y.remote s && test y) (filter is_channel_held (filter (is_of k) xs)) ≡ None
    others held has = none-passes s test (filter (is_of k) xs) (each-filter k (NotLive s) xs (each-of (ApartFrom x) (NotLive s) (λ y a h. a.remotes held h s has) xs apart.0))

    here : is_channel_held x ≡ true → is_number x.remote s ≡ true → find (λ y. is_number y.remote s) (filter is_channel_held (x ∷ xs)) ≡ Some x
    here held has = ap (find (λ (y : Channel). is_number y.remote s)) (filter-yes is_channel_held x xs held) ∙ find-yes (λ (y : Channel). is_number y.remote s) x (filter is_channel_held xs) has

    behind : is_channel_held x ≡ true → is_number x.remote s ≡ false → find (λ y. is_number y.remote s) (filter is_channel_held (x ∷ xs)) ≡ find (λ y. is_number y.remote s) (filter is_channel_held xs)
    behind held lacks = ap (find (λ (y : Channel). is_number y.remote s)) (filter-yes is_channel_held x xs held) ∙ find-no (λ (y : Channel). is_number y.remote s) x (filter is_channel_held xs) lacks

    by_all : find (λ y. is_number y.remote s && test y) (filter is_channel_held (filter (is_of k) xs)) ≡ if_passes (λ y. (y.client == k) && test y) (find (λ y. is_number y.remote s) (filter is_channel_held xs))
        → (a : Bool) → (x.client == k) ≡ a → (b : Bool) → is_channel_held x ≡ b → (c : Bool) → is_number x.remote s ≡ c → (d : Bool) → test x ≡ d
        → find (λ y. is_number y.remote s && test y) (filter is_channel_held (filter (is_of k) (x ∷ xs))) ≡ if_passes (λ y. (y.client == k) && test y) (find (λ y. is_number y.remote s) (filter is_channel_held (x ∷ xs)))
    by_all ih false a true b true c d' d = ap (λ ys. find (λ (y : Channel). is_number y.remote s && test y) (filter is_channel_held ys)) (filter-no (is_of k) x xs a) ∙ (others b c ∙ sym (ap (if_passes (λ (y : Channel). (y.client == k) && test y)) (here b c) ∙ ap (λ t. elim (t && test x) as (λ _. Option Channel) [ true ↦ Some x | false ↦ None ]) a))
    by_all ih false a true b false c d' d = ap (λ ys. find (λ (y : Channel). is_number y.remote s && test y) (filter is_channel_held ys)) (filter-no (is_of k) x xs a) ∙ (ih ∙ sym (ap (if_passes (λ (y : Channel). (y.client == k) && test y)) (behind b c)))
    by_all ih false a false b c' c d' d = ap (λ ys. find (λ (y : Channel). is_number y.remote s && test y) (filter is_channel_held ys)) (filter-no (is_of k) x xs a) ∙ (ih ∙ sym (ap (λ ys. if_passes (λ (y : Channel). (y.client == k) && test y) (find (λ (y : Channel). is_number y.remote s) ys)) (filter-no is_channel_held x xs b)))
    by_all ih true a false b c' c d' d = ap (λ ys. find (λ (y : Channel). is_number y.remote s && test y) (filter is_channel_held ys)) (filter-yes (is_of k) x xs a) ∙ (ap (find (λ (y : Channel). is_number y.remote s && test y)) (filter-no is_channel_held x (filter (is_of k) xs) b) ∙ (ih ∙ sym (ap (λ ys. if_passes (λ (y : Channel). (y.client == k) && test y) (find (λ (y : Channel). is_number y.remote s) ys)) (filter-no is_channel_held x xs b))))
    by_all ih true a true b false c d' d = ap (λ ys. find (λ (y : Channel). is_number y.remote s && test y) (filter is_channel_held ys)) (filter-yes (is_of k) x xs a) ∙ (ap (find (λ (y : Channel). is_number y.remote s && test y)) (filter-yes is_channel_held x (filter (is_of k) xs) b) ∙ (find-no (λ (y : Channel). is_number y.remote s && test y) x (filter is_channel_held (filter (is_of k) xs)) (ap (λ t. t && test x) c) ∙ (ih ∙ sym (ap (if_passes (λ (y : Channel). (y.client == k) && test y)) (behind b c)))))
    by_all ih true a true b true c false d = ap (λ ys. find (λ (y : Channel). is_number y.remote s && test y) (filter is_channel_held ys)) (filter-yes (is_of k) x xs a) ∙ (ap (find (λ (y : Channel). is_number y.remote s && test y)) (filter-yes is_channel_held x (filter (is_of k) xs) b) ∙ (find-no (λ (y : Channel). is_number y.remote s && test y) x (filter is_channel_held (filter (is_of k) xs)) (ap (λ t. t && test x) c ∙ d) ∙ (others b c ∙ sym (ap (if_passes (λ (y : Channel). (y.client == k) && test y)) (here b c) ∙ (ap (λ t. elim (t && test x) as (λ _. Option Channel) [ true ↦ Some x | false ↦ None ]) a ∙ ap (λ t. elim t as (λ _. Option Channel) [ true ↦ Some x | false ↦ None ]) d)))))
    by_all ih true a true b true c true d = ap (λ ys. find (λ (y : Channel). is_number y.remote s && test y) (filter is_channel_held ys)) (filter-yes (is_of k) x xs a) ∙ (ap (find (λ (y : Channel). is_number y.remote s && test y)) (filter-yes is_channel_held x (filter (is_of k) xs) b) ∙ (find-yes (λ (y : Channel). is_number y.remote s && test y) x (filter is_channel_held (filter (is_of k) xs)) (ap (λ t. t && test x) c ∙ d) ∙ sym (ap (if_passes (λ (y : Channel). (y.client == k) && test y)) (here b c) ∙ (ap (λ t. elim (t && test x) as (λ _. Option Channel) [ true ↦ Some x | false ↦ None ]) a ∙ ap (λ t. elim t as (λ _. Option Channel) [ true ↦ Some x | false ↦ None ]) d))))

pub looks-up : (rows : List Row) → AreApart (channels_of rows) → LooksUp rows
looks-up rows good k s = record {
  confirmed = ap (λ cs. find (λ (x : Channel). is_number x.remote s && is_confirmed x) (filter is_channel_held cs)) (sym (channels-local k rows)) ∙ find-kept k s is_confirmed (channels_of rows) good.apart;
  waiting = ap (λ cs. find (λ (x : Channel). is_number x.remote s && (not (is_up x.by) && not (is_confirmed x))) (filter is_channel_held cs)) (sym (channels-local k rows)) ∙ find-kept k s (λ x. not (is_up x.by) && not (is_confirmed x)) (channels_of rows) good.apart;
}

at-each : (policy : Policy) (pid : ℕ) (rows : List Row) → ForEach (RowKnown policy pid) rows → AreApart (channels_of rows) → AtEach LooksUp rows
at-each policy pid [] each good = looks-up [] good
at-each policy pid (row ∷ before) each good = (looks-up (row ∷ before) good, at-each policy pid before each.1 each.0.good)

pub one-index : (policy : Policy) (pid : ℕ) (rows : List Row) → LogKnown policy pid rows → AtEach LooksUp rows
one-index policy pid rows known = at-each policy pid rows known.each known.good
