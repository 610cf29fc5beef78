-- The server confirms a client's open: the row, its entry and channel, and the table after it.
use Rattle.std.proofs.Common.{◌≡◌, ◌<◌, ℕ, List, [], ◌∷◌, ◌++◌, length, map, true, false, Bool, refl, ◌∙◌, ap, sym, subst, Some, None, Ok}
use Rattle.std.specs.Prelude.{filter, find, ◌==◌, ◌&&◌, not, is_some, is_none}
use Rattle.std.specs.List.{AllByRecursion}
use Rattle.std.proofs.lemmas.List.{append-nil}
use Rattle.ssh_grammar.specs.declared.side.Side.{Side}
use Rattle.ssh_grammar.specs.declared.side.Side.TheVariants.{Down, Up}
use Rattle.ssh_grammar.specs.SpellMessage.{close}
use Rattle.mux_history.specs.Summary.{Closes, Confirmation, Confirms, Within, read_summary, reading}
use Rattle.mux_history.specs.Rows.{Fate, Goes, Heard, Row, is_admit, loses}
use Rattle.mux_history.specs.Channels.{Channel, after_item, any_by, held_of, channel_after_item, is_closes, is_channel_held, is_number, is_up, opened_down, with_down, with_up, with_ups}
use Rattle.mux_history.specs.Forwardings.{Forwarding, of_client, forwarding_after_reply}
use Rattle.mux_history.specs.Laws.{with_act}
use Rattle.mux_history.specs.Ledger.{other_side}
use Rattle.mux_history.specs.Requests.{asks_of, is_reply, is_sent, replies}
use Rattle.mux_history.specs.Said.{Outcome}
use Rattle.mux_history.specs.Treat.{bare_row}
use Rattle.mux_history.proofs.Bools.{self}
use Rattle.mux_history.proofs.Readings.{reading-ok}
use Rattle.mux_history.proofs.Sends.{and-left, and-right}
use Rattle.window_ledger.specs.declared.ledger.Ledger.{Ledger}
use Rattle.window_ledger.specs.declared.ledger.State.{State}
use Rattle.window_ledger.specs.declared.ledger.State.TheVariants.{Opened, Confirmed}
use Rattle.window_ledger.specs.Stands.{IsConfirmed, IsStateOf, is_open_confirmed, is_answered}
use Rattle.window_ledger.specs.Stands as ledger
use Rattle.window_ledger.specs.Leaving as account
use Rattle.window_ledger.proofs.Leaves.{left-now}
use Rattle.window_ledger.proofs.Named.{stands-named}
use Rattle.channel_table.specs.Entries.{TableEntry}
use Rattle.channel_table.specs.Entries.{changed_at, has_remote, shown_at}
use Rattle.mux_core.proofs.Confirms.{confirm_remote}
use Rattle.channel_table.specs.Stands.{EntryFits}
use Rattle.mux_core.specs.State.{CoreState}
use Rattle.mux_core.specs.Stands.{CoreRepresents, TableFits, has_numbers, is_member_known, is_whole}
use Rattle.mux_core.specs.Lookups.{waits}
use Rattle.mux_core.proofs.Acts.{held-after}
use Rattle.mux_core.proofs.Altered.{altered-table, apart-remote}
use Rattle.mux_core.proofs.Apart.{all-map, alone, found-of, none-pass, passes}
use Rattle.mux_core.proofs.Bare.{held-bare}
use Rattle.mux_core.proofs.ChannelReceived.{is_theirs, shown-number, sole, theirs-found}
use Rattle.mux_core.proofs.Leaves.{reads-close}
use Rattle.mux_core.proofs.Quiet.{IsQuiet}

-- ---- the row

pub quiet-confirmed : (k n s w m : ℕ) (p : List ℕ) (o : Outcome) → read_summary p ≡ Ok (Confirmation n s w m) → o.ends ≡ Goes → IsQuiet (bare_row (Heard p) k o)
quiet-confirmed k n s w m p o e ends = record {
  asks = none (is_sent (bare_row (Heard p) k o));
  flags = refl;
  replies = ap (λ (b : Bool). elim b as (λ _. List (List ℕ)) [ true ↦ p ∷ [] | false ↦ [] ]) (reading-ok p (Confirmation n s w m) is_reply false e);
  forwards = λ own fs. reading-ok p (Confirmation n s w m) (λ g. map (of_client k (forwarding_after_reply (length (replies own)) g)) fs) fs e ∙ stay (length (replies own)) fs;
  keeps = ap (λ (f : Fate). loses (record { item = Heard p; client = k; up = o.sent; farewell = []; down = o.recorded; fate = f })) ends;
  admits = ap (λ (f : Fate). is_admit (record { item = Heard p; client = k; up = o.sent; farewell = []; down = o.recorded; fate = f })) ends;
}
  where
    none : (b : Bool) → asks_of k b None ≡ []
    none true = refl
    none false = refl

    stay : (place : ℕ) (fs : List Forwarding) → map (of_client k (forwarding_after_reply place (Confirmation n s w m))) fs ≡ fs
    stay place [] = refl
    stay place (f ∷ fs) = ap (λ g. g ∷ map (of_client k (forwarding_after_reply place (Confirmation n s w m))) fs) (elim (f.client == k) as (λ b. (elim b as (λ _. Forwarding) [ true ↦ f | false ↦ f ]) ≡ f) [ true ↦ refl | false ↦ refl ]) ∙ ap (λ gs. f ∷ gs) (stay place fs)

-- what it does to a channel of the client, and CLOSE after it
abbrev given : ℕ → ℕ → ℕ → Channel → Channel
given s w m x = record x { remote = Some s; acts = (Down, Confirms w m) ∷ x.acts }

abbrev pub plain : Channel → Channel
plain x = x

abbrev pub closes : ℕ → Channel → Channel
closes s x = with_up None (Within s Closes) x

abbrev confirm : (Channel → Channel) → ℕ → ℕ → ℕ → ℕ → ℕ → Channel → Channel
confirm after k n s w m x = elim (x.client == k) [
  | true ↦ after (elim (is_number x.number n && is_channel_held x) as (λ _. Channel) [ true ↦ given s w m x | false ↦ x ])
  | false ↦ x
]

no-begun : (k n s w m : ℕ) (p : List ℕ) (ups : List (List ℕ)) → read_summary p ≡ Ok (Confirmation n s w m) → (elim (k == 0) as (λ _. List Channel) [ true ↦ [] | false ↦ reading p (opened_down k ups) [] ]) ≡ []
no-begun k n s w m p ups e = elim (k == 0) as (λ b. (elim b as (λ _. List Channel) [ true ↦ [] | false ↦ reading p (opened_down k ups) [] ]) ≡ []) [
  | true ↦ refl
  | false ↦ reading-ok p (Confirmation n s w m) (opened_down k ups) [] e ∙ by_ups ups
]
  where
    by_ups : (us : List (List ℕ)) → opened_down k us (Confirmation n s w m) ≡ []
    by_ups [] = refl
    by_ups (u ∷ us) = refl

pub confirmed-channels : (k n s w m : ℕ) (p : List ℕ) (o : Outcome) (rows : List Row) → read_summary p ≡ Ok (Confirmation n s w m) → o.sent ≡ [] → held_of (bare_row (Heard p) k o ∷ rows) ≡ filter is_channel_held (map (confirm plain k n s w m) (held_of rows))
confirmed-channels k n s w m p o rows e none =
    held-bare (Heard p) k o rows
    ∙ ap (filter is_channel_held) (ap (λ ys. map (after_item (bare_row (Heard p) k o)) (held_of rows) ++ ys) (no-begun k n s w m p o.sent e) ∙ (append-nil (map (after_item (bare_row (Heard p) k o)) (held_of rows)) ∙ ap (λ (g : Channel → Channel). map g (held_of rows)) (λ i x. one x i)))
  where
    one : (x : Channel) → after_item (bare_row (Heard p) k o) x ≡ confirm plain k n s w m x
    one x =
        ap (λ ups. elim (x.client == k) as (λ _. Channel) [ true ↦ with_ups None ups (channel_after_item (Heard p) x) | false ↦ x ]) none
        ∙ ap (λ y. elim (x.client == k) as (λ _. Channel) [ true ↦ y | false ↦ x ]) (reading-ok p (Confirmation n s w m) (λ g. with_down g x) x e)

pub closed-channels : (k n s w m : ℕ) (p : List ℕ) (o : Outcome) (rows : List Row) → read_summary p ≡ Ok (Confirmation n s w m) → s < 4294967296 → o.sent ≡ close s ∷ [] → held_of (bare_row (Heard p) k o ∷ rows) ≡ filter is_channel_held (map (confirm (closes s) k n s w m) (held_of rows))
closed-channels k n s w m p o rows e small sent =
    held-bare (Heard p) k o rows
    ∙ ap (filter is_channel_held) (ap (λ ys. map (after_item (bare_row (Heard p) k o)) (held_of rows) ++ ys) (no-begun k n s w m p o.sent e) ∙ (append-nil (map (after_item (bare_row (Heard p) k o)) (held_of rows)) ∙ ap (λ (g : Channel → Channel). map g (held_of rows)) (λ i x. one x i)))
  where
    one : (x : Channel) → after_item (bare_row (Heard p) k o) x ≡ confirm (closes s) k n s w m x
    one x =
        ap (λ ups. elim (x.client == k) as (λ _. Channel) [ true ↦ with_ups None ups (channel_after_item (Heard p) x) | false ↦ x ]) sent
        ∙ (ap (λ y. elim (x.client == k) as (λ _. Channel) [ true ↦ with_ups None (close s ∷ []) y | false ↦ x ]) (reading-ok p (Confirmation n s w m) (λ g. with_down g x) x e)
        ∙ ap (λ y. elim (x.client == k) as (λ _. Channel) [ true ↦ y | false ↦ x ]) (reading-ok (close s) (Within s Closes) (λ g. with_up None g (with_down (Confirmation n s w m) x)) (with_down (Confirmation n s w m) x) (reads-close s small)))

-- ---- the entry and its channel

-- a ledger that waits represents a channel in which nothing was done
pub fresh-acts : (st : State) (x : Channel) → IsStateOf st x → is_answered st ≡ false → x.acts ≡ []
fresh-acts (Opened by window maximum) x is h = is.fresh
fresh-acts (Confirmed up down) x is h = absurd (cc)

up-is : (by : Side) → is_up by ≡ true → by ≡ Up
up-is Up h = refl
up-is Down h = absurd (cc)

pub not-false : (b : Bool) → not b ≡ true → b ≡ false
not-false true h = absurd (cc)
not-false false h = refl

-- it is confirmed
pub given-fits : (e0 : TableEntry) (s w m : ℕ) (l : Ledger) (x : Channel) → waits e0.channel e0.ledger ≡ true → IsConfirmed e0.ledger l w m → EntryFits e0 x → EntryFits (confirm_remote s l e0) (given s w m x)
given-fits e0 s w m l x pend confirms fits = record {
  client = fits.client;
  by = fits.by;
  own = fits.own;
  number = fits.number;
  remote = refl;
  ledger = stands-named x.own x.number (Some s) l (with_act Down (Confirms w m) x) (subst (λ (d : Side). ledger.LedgerRepresents l (with_act d (Confirms w m) x)) (ap other_side (up-is x.by (ap is_up (sym fits.by) ∙ and-left (is_up e0.channel.by) (not (is_open_confirmed e0.ledger)) pend))) (confirms x fits.ledger));
  held = fits.held;
}

-- and closed by the master
pub closed-fits : (e0 : TableEntry) (s w m : ℕ) (l : Ledger) (x : Channel) → waits e0.channel e0.ledger ≡ true → IsConfirmed e0.ledger l w m → is_open_confirmed l ≡ true → EntryFits e0 x → EntryFits (confirm_remote s (account.ledger_after_close l) e0) (with_act Up Closes (given s w m x))
closed-fits e0 s w m l x pend confirms so fits =
    let first = given-fits e0 s w m l x pend confirms fits in
    let none : x.acts ≡ [] = fresh-acts e0.ledger.state x fits.ledger (not-false (is_open_confirmed e0.ledger) (and-right (is_up e0.channel.by) (not (is_open_confirmed e0.ledger)) pend)) in
    record {
      client = fits.client;
      by = fits.by;
      own = fits.own;
      number = fits.number;
      remote = refl;
      ledger = left-now l.state (given s w m x) first.ledger so (ap (any_by Up is_closes) none);
      held = held-after Up Closes (given s w m x) refl fits.held ∙ ap (λ b. not b) (ap (λ acts. any_by Down is_closes acts) none);
    }

whole-given : (e0 : TableEntry) (s : ℕ) (l : Ledger) → waits e0.channel e0.ledger ≡ true → is_open_confirmed l ≡ true → is_whole e0 ≡ true → is_whole (confirm_remote s l e0) ≡ true
whole-given e0 s l pend so whole =
    ap (λ b. has_numbers b e0.channel.by e0.channel.own (Some s)) so ∙ (plain-and (is_some e0.channel.own) ∙ by_opener (is_open_confirmed e0.ledger) e0.channel.by (not-false (is_open_confirmed e0.ledger) (and-right (is_up e0.channel.by) (not (is_open_confirmed e0.ledger)) pend)) (and-left (is_up e0.channel.by) (not (is_open_confirmed e0.ledger)) pend) whole)
  where
    plain-and : (b : Bool) → (b && true) ≡ b
    plain-and true = refl
    plain-and false = refl

    by_opener : (c : Bool) (by : Side) → c ≡ false → is_up by ≡ true → has_numbers c by e0.channel.own e0.channel.remote ≡ true → is_some e0.channel.own ≡ true
    by_opener true by h u wh = absurd (cc)
    by_opener false Up h u wh = and-left (is_some e0.channel.own) (is_none e0.channel.remote) wh
    by_opener false Down h u wh = absurd (cc)

-- ---- the table after it

abbrev free_of : ℕ → TableEntry → Type 0
free_of s e = has_remote s e ≡ false

pub some-small : (s t : ℕ) → Some s ≡ Some t → s < 4294967296 → t < 4294967296
some-small s t h small = subst (λ i. i < 4294967296) (let e : s ≡ t = cc in e) small

theirs-here : (n : ℕ) (e : TableEntry) (x : Channel) → EntryFits e x → shown_at n e ≡ is_number x.number n
theirs-here n e x fits = shown-number n e ∙ ap (λ o. is_number o n) fits.number

confirm-others : (after : Channel → Channel) (k n s w m : ℕ) (e : TableEntry) (x : Channel) → (is_number x.remote s ≡ false → after x ≡ x) → free_of s e → EntryFits e x → is_theirs k n e ≡ false → confirm after k n s w m x ≡ x
confirm-others after k n s w m e x stays free fits h = by_client (x.client == k) refl
  where
    by_client : (b : Bool) → (x.client == k) ≡ b → confirm after k n s w m x ≡ x
    by_client false c = ap (λ (b : Bool). elim b as (λ _. Channel) [ true ↦ after (elim (is_number x.number n && is_channel_held x) as (λ _. Channel) [ true ↦ given s w m x | false ↦ x ]) | false ↦ x ]) c
    by_client true c =
        let not_here : (is_number x.number n && is_channel_held x) ≡ false = ap (λ b. b && is_channel_held x) (sym (theirs-here n e x fits) ∙ (ap (λ b. b && shown_at n e) (sym (ap (λ i. i == k) fits.client ∙ c)) ∙ h)) in
        ap (λ (b : Bool). elim b as (λ _. Channel) [ true ↦ after (elim (is_number x.number n && is_channel_held x) as (λ _. Channel) [ true ↦ given s w m x | false ↦ x ]) | false ↦ x ]) c
        ∙ (ap (λ (b : Bool). after (elim b as (λ _. Channel) [ true ↦ given s w m x | false ↦ x ])) not_here ∙ stays (ap (λ o. is_number o s) (sym fits.remote) ∙ free))

confirm-it : (after : Channel → Channel) (k n s w m : ℕ) (e : TableEntry) (x : Channel) → EntryFits e x → is_theirs k n e ≡ true → confirm after k n s w m x ≡ after (given s w m x)
confirm-it after k n s w m e x fits h =
    let mine : (x.client == k) ≡ true = ap (λ i. i == k) (sym fits.client) ∙ and-left (e.channel.client == k) (shown_at n e) h in
    let there : (is_number x.number n && is_channel_held x) ≡ true = ap (λ b. b && is_channel_held x) (sym (theirs-here n e x fits) ∙ and-right (e.channel.client == k) (shown_at n e) h) ∙ fits.held in
    ap (λ (b : Bool). elim b as (λ _. Channel) [ true ↦ after (elim (is_number x.number n && is_channel_held x) as (λ _. Channel) [ true ↦ given s w m x | false ↦ x ]) | false ↦ x ]) mine
    ∙ ap (λ (b : Bool). after (elim b as (λ _. Channel) [ true ↦ given s w m x | false ↦ x ])) there

pub confirmed-table : (after : Channel → Channel) (s : CoreState) (n r w m : ℕ) (l : Ledger) (e0 : TableEntry) (rows : List Row) → CoreRepresents s rows → find (shown_at n) s.channels ≡ Some e0 → find (has_remote r) s.channels ≡ None → r < 4294967296 → waits e0.channel e0.ledger ≡ true → is_open_confirmed l ≡ true
    → ((x : Channel) → EntryFits e0 x → EntryFits (confirm_remote r l e0) (after (given r w m x))) → ((x : Channel) → is_number x.remote r ≡ false → after x ≡ x)
    → TableFits (changed_at e0.number (confirm_remote r l) s.channels) (filter is_channel_held (map (confirm after e0.channel.client n r w m) (held_of rows)))
confirmed-table after s n r w m l e0 rows st found none small pend so it stays =
    let free = none-pass (has_remote r) s.channels none in
    let mine : is_theirs e0.channel.client n e0 ≡ true = passes (is_theirs e0.channel.client n) e0 s.channels (theirs-found s n e0 rows st found) in
    altered-table (free_of r) (is_theirs e0.channel.client n) (confirm_remote r l) (confirm after e0.channel.client n r w m) e0 s.channels (held_of rows)
    (λ x fits. subst (EntryFits (confirm_remote r l e0)) (sym (confirm-it after e0.channel.client n r w m e0 x fits mine)) (it x fits))
    (λ e x f fits h. confirm-others after e0.channel.client n r w m e x (stays x) f fits h)
    (λ e. refl) refl (whole-given e0 r l pend so (found-of (λ e. is_whole e ≡ true) (shown_at n) e0 s.channels st.channels.whole found)) (λ t h. some-small r t h small)
    (apart-remote e0.number r l s.channels free st.channels.apart) free
    (alone (is_theirs e0.channel.client n) (sole e0.channel.client n) e0 s.channels st.channels.apart (theirs-found s n e0 rows st found)) st.channels

-- CLOSE changes no channel of another number
pub close-others : (s : ℕ) (x : Channel) → is_number x.remote s ≡ false → closes s x ≡ x
close-others s x h = rw (ap (λ b. b && is_channel_held x) h, with_up) refl

pub close-it : (s w m : ℕ) (x : Channel) → is_channel_held x ≡ true → closes s (given s w m x) ≡ with_act Up Closes (given s w m x)
close-it s w m x held = rw (ap (λ b. b && is_channel_held x) (same s) ∙ held, with_up) refl
  where
    same : (i : ℕ) → (i == i) ≡ true
    same i = self i

pub known-altered : (s : CoreState) (n r : ℕ) (l : Ledger) → AllByRecursion (λ e. is_member_known s.clients e.channel.client ≡ true) s.channels → AllByRecursion (λ e. is_member_known s.clients e.channel.client ≡ true) (changed_at n (confirm_remote r l) s.channels)
known-altered s n r l known = all-map (λ e. is_member_known s.clients e.channel.client ≡ true) (λ e. is_member_known s.clients e.channel.client ≡ true) (λ e. elim (e.number == n) as (λ _. TableEntry) [ true ↦ confirm_remote r l e | false ↦ e ]) (λ e h. elim (e.number == n) as (λ b. is_member_known s.clients (elim b as (λ _. TableEntry) [ true ↦ confirm_remote r l e | false ↦ e ]).channel.client ≡ true) [ true ↦ h | false ↦ h ]) s.channels known
