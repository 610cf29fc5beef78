-- What the tables send for a client that is lost is what the history sends, and what they keep
-- represents what it keeps.
use Rattle.std.proofs.Common.{◌≡◌, ℕ, List, [], ◌∷◌, ◌++◌, true, false, Bool, refl, ◌∙◌, ap, sym, subst, Option, Some, None}
use Rattle.std.specs.Prelude.{not, ◌==◌, ◌&&◌, ◌||◌, is_some, is_none, flat_map, unwrap_or}
use Rattle.std.specs.List.{AllByRecursion}
use Rattle.ssh_grammar.specs.declared.numbers.TheConstants.{CONNECT_FAILED}
use Rattle.ssh_grammar.specs.declared.side.Side.TheVariants.{Up}
use Rattle.ssh_grammar.specs.Messages.{Key}
use Rattle.ssh_grammar.specs.SpellMessage.{cancel_forward, client_is_gone, close, open_failure}
use Rattle.mux_history.specs.Channels.{Channel, any_act, any_by, is_closes, is_confirmed, is_fails, is_channel_held, is_up}
use Rattle.mux_history.specs.Farewell.{cancel_live, leave_channel, leave_forwarding, to_number}
use Rattle.mux_history.specs.Forwardings.{Forwarding}
use Rattle.mux_history.specs.Summary.{Closes, Fails}
use Rattle.mux_history.specs.Laws.{with_act}
use Rattle.mux_history.proofs.Finds.{filter-no, filter-yes}
use Rattle.window_ledger.specs.declared.ledger.Ledger.{Ledger}
use Rattle.window_ledger.specs.Leaving as account
use Rattle.window_ledger.specs.Stands.{both_closed, is_open_confirmed}
use Rattle.window_ledger.proofs.Named.{confirmed-is}
use Rattle.window_ledger.proofs.Leaves.{left-answered, left-now, left-opened, left-said, over-is, said-is}
use Rattle.channel_table.specs.Entries.{TableEntry, is_channel_of}
use Rattle.channel_table.specs.Stands.{ChannelsFit, EntryFits}
use Rattle.channel_table.proofs.EntryFits.{Goes, changed-fit}
use Rattle.forward_rules.specs.State.{Forward}
use Rattle.forward_rules.specs.Stands.{AreForwardsListed}
use Rattle.forward_rules.specs.Stands as kept
use Rattle.forward_rules.specs.Step as forwards
use Rattle.client_teardown.specs.Laws.{client_channels_of, client_forwardings_of, channel_after_farewell, left_by, left_channels}
use Rattle.client_teardown.specs.Leaving.{farewell_cancel_of, channel_farewells, entry_after_close, farewell_of, forward_farewells, is_channel_open, left_entries, left_entry, stays}

so-confirmed : (e : TableEntry) (x : Channel) → EntryFits e x → is_open_confirmed e.ledger ≡ is_confirmed x
so-confirmed e x fits = confirmed-is e.ledger x fits.ledger

-- ---- what is sent for a channel

abbrev sent_for : Bool → Bool → Bool → Option ℕ → List (List ℕ)
sent_for b c d o = elim b as (λ _. List (List ℕ)) [
  | true ↦ elim c as (λ _. List (List ℕ)) [ true ↦ [] | false ↦ to_number o close ]
  | false ↦ elim d as (λ _. List (List ℕ)) [ true ↦ [] | false ↦ to_number o (λ s. open_failure s CONNECT_FAILED client_is_gone) ]
]

same-farewell : (e : TableEntry) (x : Channel) → EntryFits e x → farewell_of e ≡ leave_channel x
same-farewell e x fits = by_case (is_open_confirmed e.ledger) refl
  where
    by_case : (b : Bool) → is_open_confirmed e.ledger ≡ b → sent_for (is_open_confirmed e.ledger) (account.has_sent_close e.ledger) (is_up e.channel.by) e.channel.remote ≡ sent_for (is_confirmed x) (any_by Up is_closes x.acts) (is_up x.by) x.remote
    by_case true h =
        ap (λ b. sent_for b (account.has_sent_close e.ledger) (is_up e.channel.by) e.channel.remote) h
        ∙ (ap (λ c. sent_for true c (is_up e.channel.by) e.channel.remote) (said-is e.ledger.state x fits.ledger)
        ∙ (ap (λ o. sent_for true (any_by Up is_closes x.acts) (is_up x.by) o) fits.remote
        ∙ ap (λ b. sent_for b (any_by Up is_closes x.acts) (is_up x.by) x.remote) (sym h ∙ so-confirmed e x fits)))
    by_case false h =
        ap (λ b. sent_for b (account.has_sent_close e.ledger) (is_up e.channel.by) e.channel.remote) h
        ∙ (ap (λ by. sent_for false (any_by Up is_closes x.acts) (is_up by) e.channel.remote) fits.by
        ∙ (ap (λ o. sent_for false (any_by Up is_closes x.acts) (is_up x.by) o) fits.remote
        ∙ ap (λ b. sent_for b (any_by Up is_closes x.acts) (is_up x.by) x.remote) (sym h ∙ so-confirmed e x fits)))

pub channels-sent : (k : ℕ) (es : List TableEntry) (xs : List Channel) → ChannelsFit es xs → channel_farewells k es ≡ flat_map leave_channel (client_channels_of k xs)
channels-sent k [] [] fit = refl
channels-sent k [] (x ∷ xs) fit = absurd fit
channels-sent k (e ∷ es) [] fit = absurd fit
channels-sent k (e ∷ es) (x ∷ xs) fit = by_case (channels-sent k es xs fit.1) (is_channel_of k e) refl
  where
    mine : (x.client == k) ≡ is_channel_of k e
    mine = ap (λ i. i == k) (sym fit.0.client)

    by_case : channel_farewells k es ≡ flat_map leave_channel (client_channels_of k xs) → (b : Bool) → is_channel_of k e ≡ b → channel_farewells k (e ∷ es) ≡ flat_map leave_channel (client_channels_of k (x ∷ xs))
    by_case ih true h =
        ap (flat_map farewell_of) (filter-yes (is_channel_of k) e es h)
        ∙ (ap (λ ps. ps ++ channel_farewells k es) (same-farewell e x fit.0) ∙ (ap (λ ps. leave_channel x ++ ps) ih
        ∙ sym (ap (flat_map leave_channel) (filter-yes (λ (y : Channel). y.client == k) x xs (mine ∙ h)))))
    by_case ih false h =
        ap (flat_map farewell_of) (filter-no (is_channel_of k) e es h)
        ∙ (ih ∙ sym (ap (flat_map leave_channel) (filter-no (λ (y : Channel). y.client == k) x xs (mine ∙ h))))

-- ---- what is sent for a forwarding

none-same : (a b : Option ℕ) → is_some a ≡ is_some b → is_none a ≡ is_none b
none-same None None h = refl
none-same None (Some n) h = absurd (cc)
none-same (Some m) None h = absurd (cc)
none-same (Some m) (Some n) h = refl

same-cancel : (f : Forward) (g : Forwarding) → kept.ForwardingFits f g → farewell_cancel_of f ≡ leave_forwarding g
same-cancel f g fits = by_live g.live refl
  where
    never : (b : Bool) → [] ≡ elim b as (λ _. List (List ℕ)) [ true ↦ [] | false ↦ [] ]
    never true = refl
    never false = refl

    by_live : (o : Option Key) → g.live ≡ o → farewell_cancel_of f ≡ leave_forwarding g
    by_live None h =
        ap (λ b. elim (b && is_none f.cancel) as (λ _. List (List ℕ)) [ true ↦ cancel_forward f.key ∷ [] | false ↦ [] ]) (fits.live ∙ ap is_some h)
        ∙ (never (is_none g.cancel) ∙ ap (λ o. elim (is_none g.cancel) as (λ _. List (List ℕ)) [ true ↦ cancel_live o | false ↦ [] ]) (sym h))
    by_live (Some key) h =
        ap (λ b. elim (b && is_none f.cancel) as (λ _. List (List ℕ)) [ true ↦ cancel_forward f.key ∷ [] | false ↦ [] ]) (fits.live ∙ ap is_some h)
        ∙ (ap (λ b. elim b as (λ _. List (List ℕ)) [ true ↦ cancel_forward f.key ∷ [] | false ↦ [] ]) (none-same f.cancel g.cancel fits.cancel)
        ∙ (ap (λ q. elim (is_none g.cancel) as (λ _. List (List ℕ)) [ true ↦ cancel_forward q ∷ [] | false ↦ [] ]) (fits.key ∙ ap (λ o. unwrap_or o g.key) h)
        ∙ ap (λ o. elim (is_none g.cancel) as (λ _. List (List ℕ)) [ true ↦ cancel_live o | false ↦ [] ]) (sym h)))

pub cancels-sent : (k : ℕ) (fs : List Forward) (gs : List Forwarding) → AreForwardsListed fs gs → forward_farewells k fs ≡ flat_map leave_forwarding (client_forwardings_of k gs)
cancels-sent k [] [] fit = refl
cancels-sent k [] (g ∷ gs) fit = absurd fit
cancels-sent k (f ∷ fs) [] fit = absurd fit
cancels-sent k (f ∷ fs) (g ∷ gs) fit = by_case (cancels-sent k fs gs fit.1) (forwards.is_forward_of k f) refl
  where
    mine : (g.client == k) ≡ forwards.is_forward_of k f
    mine = ap (λ i. i == k) (sym fit.0.client)

    by_case : forward_farewells k fs ≡ flat_map leave_forwarding (client_forwardings_of k gs) → (b : Bool) → forwards.is_forward_of k f ≡ b → forward_farewells k (f ∷ fs) ≡ flat_map leave_forwarding (client_forwardings_of k (g ∷ gs))
    by_case ih true h =
        ap (flat_map farewell_cancel_of) (filter-yes (forwards.is_forward_of k) f fs h)
        ∙ (ap (λ ps. ps ++ forward_farewells k fs) (same-cancel f g fit.0) ∙ (ap (λ ps. leave_forwarding g ++ ps) ih
        ∙ sym (ap (flat_map leave_forwarding) (filter-yes (λ (h : Forwarding). h.client == k) g gs (mine ∙ h)))))
    by_case ih false h =
        ap (flat_map farewell_cancel_of) (filter-no (forwards.is_forward_of k) f fs h)
        ∙ (ih ∙ sym (ap (flat_map leave_forwarding) (filter-no (λ (h : Forwarding). h.client == k) g gs (mine ∙ h))))

pub farewells-sent : (k : ℕ) (es : List TableEntry) (xs : List Channel) (fs : List Forward) (gs : List Forwarding) → ChannelsFit es xs → AreForwardsListed fs gs
    → channel_farewells k es ++ forward_farewells k fs ≡ flat_map leave_channel (client_channels_of k xs) ++ flat_map leave_forwarding (client_forwardings_of k gs)
farewells-sent k es xs fs gs fit listed = ap (λ ps. ps ++ forward_farewells k fs) (channels-sent k es xs fit) ∙ ap (λ ps. flat_map leave_channel (client_channels_of k xs) ++ ps) (cancels-sent k fs gs listed)

-- ---- what stays

not-both : (x : Channel) → is_channel_held x ≡ true → both_closed x ≡ false
not-both x held = by_case (any_act is_fails x.acts) (both_closed x) refl held
  where
    by_case : (b c : Bool) → both_closed x ≡ c → not (b || c) ≡ true → both_closed x ≡ false
    by_case true c e h = absurd (cc)
    by_case false true e h = absurd (cc)
    by_case false false e h = e

-- a channel that was held is held after CLOSE, unless that closes it both ways
held-closing : (x : Channel) → is_channel_held x ≡ true → is_channel_held (with_act Up Closes x) ≡ not (both_closed (with_act Up Closes x))
held-closing x held = by_fails (any_act is_fails x.acts) refl
  where
    by_fails : (b : Bool) → any_act is_fails x.acts ≡ b → is_channel_held (with_act Up Closes x) ≡ not (both_closed (with_act Up Closes x))
    by_fails true e = absurd (let c : is_channel_held x ≡ false = rw (e, is_channel_held) refl in let d = sym held ∙ c in cc)
    by_fails false e = ap (λ b. not (b || both_closed (with_act Up Closes x))) e

open-if : (e : TableEntry) (b : Bool) → is_open_confirmed e.ledger ≡ b → is_channel_open e ≡ elim b as (λ _. Bool) [ true ↦ not (account.is_account_over e.ledger) | false ↦ is_up e.channel.by ]
open-if e b h = ap (λ c. elim c as (λ _. Bool) [ true ↦ not (account.is_account_over e.ledger) | false ↦ is_up e.channel.by ]) h

left-if : (x : Channel) (b c d : Bool) → is_confirmed x ≡ b → any_by Up is_closes x.acts ≡ c → is_up x.by ≡ d → channel_after_farewell x ≡ elim b as (λ _. Channel) [ true ↦ elim c as (λ _. Channel) [ true ↦ x | false ↦ with_act Up Closes x ] | false ↦ elim d as (λ _. Channel) [ true ↦ x | false ↦ with_act Up Fails x ] ]
left-if x b c d p q r =
    ap (λ (b' : Bool). elim b' as (λ _. Channel) [ true ↦ elim (any_by Up is_closes x.acts) as (λ _. Channel) [ true ↦ x | false ↦ with_act Up Closes x ] | false ↦ elim (is_up x.by) as (λ _. Channel) [ true ↦ x | false ↦ with_act Up Fails x ] ]) p
    ∙ (ap (λ (c' : Bool). elim b as (λ _. Channel) [ true ↦ elim c' as (λ _. Channel) [ true ↦ x | false ↦ with_act Up Closes x ] | false ↦ elim (is_up x.by) as (λ _. Channel) [ true ↦ x | false ↦ with_act Up Fails x ] ]) q
    ∙ ap (λ (d' : Bool). elim b as (λ _. Channel) [ true ↦ elim c as (λ _. Channel) [ true ↦ x | false ↦ with_act Up Closes x ] | false ↦ elim d' as (λ _. Channel) [ true ↦ x | false ↦ with_act Up Fails x ] ]) r)

-- one of the client's
mine-goes : (k : ℕ) (e : TableEntry) (x : Channel) → EntryFits e x → is_channel_of k e ≡ true → Goes (stays k) (entry_after_close e) (channel_after_farewell x)
mine-goes k e x fits mine = by_case (is_open_confirmed e.ledger) refl (any_by Up is_closes x.acts) refl (is_up x.by) refl
  where
    so : is_open_confirmed e.ledger ≡ is_confirmed x
    so = so-confirmed e x fits

    answered : is_open_confirmed (entry_after_close e).ledger ≡ is_open_confirmed e.ledger
    answered = left-answered e.ledger.state

    goes : (y : Channel) → channel_after_farewell x ≡ y → is_channel_open (entry_after_close e) ≡ is_channel_held y → (is_channel_held y ≡ true → EntryFits (entry_after_close e) y) → Goes (stays k) (entry_after_close e) (channel_after_farewell x)
    goes y same open_ fit =
        let here : stays k (entry_after_close e) ≡ is_channel_open (entry_after_close e) = ap (λ b. not b || is_channel_open (entry_after_close e)) mine in
        subst (Goes (stays k) (entry_after_close e)) (sym same) (record { stays = λ s. fit (sym open_ ∙ (sym here ∙ s)); gone = λ s. sym open_ ∙ (sym here ∙ s) })

    by_case : (b : Bool) → is_open_confirmed e.ledger ≡ b → (c : Bool) → any_by Up is_closes x.acts ≡ c → (d : Bool) → is_up x.by ≡ d → Goes (stays k) (entry_after_close e) (channel_after_farewell x)
    by_case true p true q d r =
        let stands = left-said e.ledger.state x fits.ledger q in
        goes x (left-if x true true d (sym so ∙ p) q r)
        (open-if (entry_after_close e) true (answered ∙ p) ∙ (ap not (over-is (entry_after_close e).ledger.state x stands ∙ not-both x fits.held) ∙ sym fits.held))
        (λ held. record { client = fits.client; by = fits.by; own = fits.own; number = fits.number; remote = fits.remote; ledger = stands; held = held })
    by_case true p false q d r =
        let stands = left-now e.ledger.state x fits.ledger p q in
        goes (with_act Up Closes x) (left-if x true false d (sym so ∙ p) q r)
        (open-if (entry_after_close e) true (answered ∙ p) ∙ (ap not (over-is (entry_after_close e).ledger.state (with_act Up Closes x) stands) ∙ sym (held-closing x fits.held)))
        (λ held. record { client = fits.client; by = fits.by; own = fits.own; number = fits.number; remote = fits.remote; ledger = stands; held = held })
    by_case false p c q true r =
        let same : entry_after_close e ≡ e = ap (λ s. let l : Ledger = record e.ledger { state = s } in let f : TableEntry = record e { ledger = l } in f) (left-opened e.ledger.state p) in
        goes x (left-if x false c true (sym so ∙ p) q r)
        (open-if (entry_after_close e) false (answered ∙ p) ∙ (ap is_up fits.by ∙ (r ∙ sym fits.held)))
        (λ held. subst (λ f. EntryFits f x) (sym same) fits)
    by_case false p c q false r =
        goes (with_act Up Fails x) (left-if x false c false (sym so ∙ p) q r)
        (open-if (entry_after_close e) false (answered ∙ p) ∙ (ap is_up fits.by ∙ r))
        (λ held. absurd (cc))

left-goes : (k : ℕ) (e : TableEntry) (x : Channel) → EntryFits e x → Goes (stays k) (left_entry k e) (left_by k x)
left-goes k e x fits = by_client (is_channel_of k e) refl
  where
    there : (b : Bool) → is_channel_of k e ≡ b → (f : TableEntry) (y : Channel) → (elim b as (λ _. TableEntry) [ true ↦ entry_after_close e | false ↦ e ]) ≡ f → (elim b as (λ _. Channel) [ true ↦ channel_after_farewell x | false ↦ x ]) ≡ y → Goes (stays k) f y → Goes (stays k) (left_entry k e) (left_by k x)
    there b h f y s t goes =
        subst (λ g. Goes (stays k) g (left_by k x)) (sym (ap (λ (c : Bool). elim c as (λ _. TableEntry) [ true ↦ entry_after_close e | false ↦ e ]) h ∙ s))
        (subst (Goes (stays k) f) (sym (ap (λ (c : Bool). elim c as (λ _. Channel) [ true ↦ channel_after_farewell x | false ↦ x ]) (ap (λ i. i == k) (sym fits.client) ∙ h) ∙ t)) goes)

    by_client : (b : Bool) → is_channel_of k e ≡ b → Goes (stays k) (left_entry k e) (left_by k x)
    by_client true h = there true h (entry_after_close e) (channel_after_farewell x) refl refl (mine-goes k e x fits h)
    by_client false h = there false h e x refl refl (record {
      stays = λ _. fits;
      gone = λ s. absurd (let c : stays k e ≡ true = ap (λ b. not b || is_channel_open e) h in let d = sym s ∙ c in cc);
    })

all-unit : (es : List TableEntry) → AllByRecursion (λ _. Unit {0}) es
all-unit [] = tt
all-unit (e ∷ es) = (tt, all-unit es)

pub table-left : (k : ℕ) (es : List TableEntry) (xs : List Channel) → ChannelsFit es xs → ChannelsFit (left_entries k es) (left_channels k xs)
table-left k es xs fit = changed-fit (λ _. Unit {0}) (stays k) (left_entry k) (left_by k) (λ e x u f. left-goes k e x f) es xs (all-unit es) fit
