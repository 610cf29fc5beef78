-- What a core keeps of a client follows from the client's own rows.
use Rattle.std.proofs.Common.{◌≡◌, ℕ, Bool, true, false, not, ◌&&◌, ◌||◌, List, [], ◌∷◌, map, Option, Some, None, refl, sym, ap, ◌∙◌, unwrap_or, is_some}
use Rattle.std.specs.Prelude.{◌==◌, filter, find}
use Rattle.std.specs.List.{AllByRecursion}
use Rattle.std.proofs.lemmas.Bool.{eqb-true}
use Rattle.ssh_grammar.specs.declared.side.Side.{Side}
use Rattle.ssh_grammar.specs.declared.side.Side.TheVariants.{Up, Down}
use Rattle.mux_history.specs.Rows.{Row, rows_of, any_of, is_admit, is_lost}
use Rattle.mux_history.specs.Channels as history
use Rattle.mux_history.specs.Channels.{held_of, is_confirmed}
use Rattle.mux_history.specs.Forwardings.{Forwarding, current, forwardings_of}
use Rattle.mux_history.specs.Requests.{replies, wanted}
use Rattle.mux_history.proofs.Finds.{filter-no, filter-yes, find-no, find-yes}
use Rattle.mux_history.proofs.ForwardsLocal.{for_of, forwardings-local}
use Rattle.mux_history.proofs.Local as local
use Rattle.mux_isolation.specs.LogView.{Waiting, waiting_left_of}
use Rattle.window_ledger.specs.declared.ledger.State.{State as Account}
use Rattle.window_ledger.specs.declared.ledger.State.TheVariants.{Opened, Confirmed}
use Rattle.window_ledger.specs.Stands.{IsStateOf, account_of}
use Rattle.channel_table.specs.declared.channel.Channel.{Channel}
use Rattle.channel_table.specs.Entries.{TableEntry, is_channel_of}
use Rattle.channel_table.specs.Stands.{ChannelsFit, EntryFits}
use Rattle.forward_rules.specs.State.{Forward}
use Rattle.forward_rules.specs.Stands as forwards
use Rattle.forward_rules.specs.Stands.{AreForwardsListed, places_of}
use Rattle.mux_core.specs.State.{CoreState}
use Rattle.mux_core.specs.State as core
use Rattle.mux_core.specs.Stands.{ClientFits, Look, CoreRepresents, look, unreplied_in}
use Rattle.mux_core.proofs.Found.{filters-turn, held-local}
use Rattle.mux_peers.proofs.Steps.{served-of}
use Rattle.mux_state.specs.Others.{HeldChannel, HeldForward, Matters, held_channel, held_forward, matters_of_core}
use Rattle.mux_state.proofs.Lists.{true_false}

-- ---- channels

-- the account of a channel of the history
abbrev account-of : history.Channel → Account
account-of x = elim (is_confirmed x) [ true ↦ Confirmed (account_of Up x) (account_of Down x) | false ↦ Opened x.by x.window x.maximum ]

abbrev channel-with : ℕ → Option ℕ → Option ℕ → Side → Channel
channel-with client own remote by = record { client = client; own = own; remote = remote; by = by }

abbrev held-with : Channel → Option ℕ → Account → HeldChannel
held-with channel number state = record { channel = channel; number = number; ledger = record { state = state } }

abbrev held-of : history.Channel → HeldChannel
held-of x = held-with (channel-with x.client x.own x.remote x.by) x.number (account-of x)

account-is : (state : Account) (x : history.Channel) → IsStateOf state x → state ≡ account-of x
account-is (Opened by window maximum) x h =
    ap (λ b. Opened b window maximum) (sym h.opener)
    ∙ (ap (λ n. Opened x.by n maximum) (sym h.first)
    ∙ (ap (Opened x.by x.window) (sym h.longest)
    ∙ sym (ap (λ b. elim b as (λ _. Account) [ true ↦ Confirmed (account_of Up x) (account_of Down x) | false ↦ Opened x.by x.window x.maximum ]) (ap (λ acts. history.any_act history.is_confirms acts) h.fresh))))
account-is (Confirmed up down) x h =
    ap (λ a. Confirmed a down) h.upward
    ∙ (ap (Confirmed (account_of Up x)) h.downward
    ∙ sym (ap (λ b. elim b as (λ _. Account) [ true ↦ Confirmed (account_of Up x) (account_of Down x) | false ↦ Opened x.by x.window x.maximum ]) h.answered))

held-is : (e : TableEntry) (x : history.Channel) → EntryFits e x → held_channel e ≡ held-of x
held-is e x h =
    ap (λ n. held-with e.channel n e.ledger.state) h.number
    ∙ (ap (held-with e.channel x.number) (account-is e.ledger.state x h.ledger)
    ∙ (ap (λ n. held-with (channel-with n e.channel.own e.channel.remote e.channel.by) x.number (account-of x)) h.client
    ∙ (ap (λ o. held-with (channel-with x.client o e.channel.remote e.channel.by) x.number (account-of x)) h.own
    ∙ (ap (λ o. held-with (channel-with x.client x.own o e.channel.by) x.number (account-of x)) h.remote
    ∙ ap (λ b. held-with (channel-with x.client x.own x.remote b) x.number (account-of x)) h.by))))

-- those of a client, one by one
channels-are : (k : ℕ) (es : List TableEntry) (xs : List history.Channel) → ChannelsFit es xs → map held_channel (filter (is_channel_of k) es) ≡ map held-of (filter (local.is_of k) xs)
channels-are k [] [] fit = refl
channels-are k [] (x ∷ xs) fit = absurd fit
channels-are k (e ∷ es) [] fit = absurd fit
channels-are k (e ∷ es) (x ∷ xs) fit = by_case (channels-are k es xs fit.1) (is_channel_of k e) refl
  where
    same : local.is_of k x ≡ is_channel_of k e
    same = ap (λ i. i == k) (sym fit.0.client)

    by_case : map held_channel (filter (is_channel_of k) es) ≡ map held-of (filter (local.is_of k) xs) → (b : Bool) → is_channel_of k e ≡ b → map held_channel (filter (is_channel_of k) (e ∷ es)) ≡ map held-of (filter (local.is_of k) (x ∷ xs))
    by_case ih true h =
        ap (map held_channel) (filter-yes (is_channel_of k) e es h)
        ∙ (ap (λ l. held_channel e ∷ l) ih
        ∙ (ap (λ y. y ∷ map held-of (filter (local.is_of k) xs)) (held-is e x fit.0)
        ∙ sym (ap (map held-of) (filter-yes (local.is_of k) x xs (same ∙ h)))))
    by_case ih false h = ap (map held_channel) (filter-no (is_channel_of k) e es h) ∙ (ih ∙ sym (ap (map held-of) (filter-no (local.is_of k) x xs (same ∙ h))))

-- ---- forwardings

abbrev forward-with : Rattle.ssh_grammar.specs.Messages.Key → Bool → Bool → HeldForward
forward-with key live leaves = record { key = key; live = live; leaves = leaves }

abbrev forward-of : Forwarding → HeldForward
forward-of g = forward-with (unwrap_or g.live g.key) (is_some g.live) (is_some g.cancel)

forward-is : (f : Forward) (g : Forwarding) → forwards.ForwardingFits f g → held_forward f ≡ forward-of g
forward-is f g h =
    ap (λ key. forward-with key f.live (is_some f.cancel)) h.key
    ∙ (ap (λ b. forward-with (unwrap_or g.live g.key) b (is_some f.cancel)) h.live
    ∙ ap (forward-with (unwrap_or g.live g.key) (is_some g.live)) h.cancel)

abbrev of_client : ℕ → Forward → Bool
of_client k f = f.client == k

forwards-are : (k : ℕ) (fs : List Forward) (gs : List Forwarding) → AreForwardsListed fs gs → map held_forward (filter (of_client k) fs) ≡ map forward-of (filter (for_of k) gs)
forwards-are k [] [] fit = refl
forwards-are k [] (g ∷ gs) fit = absurd fit
forwards-are k (f ∷ fs) [] fit = absurd fit
forwards-are k (f ∷ fs) (g ∷ gs) fit = by_case (forwards-are k fs gs fit.1) (of_client k f) refl
  where
    same : for_of k g ≡ of_client k f
    same = ap (λ i. i == k) (sym fit.0.client)

    by_case : map held_forward (filter (of_client k) fs) ≡ map forward-of (filter (for_of k) gs) → (b : Bool) → of_client k f ≡ b → map held_forward (filter (of_client k) (f ∷ fs)) ≡ map forward-of (filter (for_of k) (g ∷ gs))
    by_case ih true h =
        ap (map held_forward) (filter-yes (of_client k) f fs h)
        ∙ (ap (λ l. held_forward f ∷ l) ih
        ∙ (ap (λ y. y ∷ map forward-of (filter (for_of k) gs)) (forward-is f g fit.0)
        ∙ sym (ap (map forward-of) (filter-yes (for_of k) g gs (same ∙ h)))))
    by_case ih false h = ap (map held_forward) (filter-no (of_client k) f fs h) ∙ (ih ∙ sym (ap (map forward-of) (filter-no (for_of k) g gs (same ∙ h))))

abbrev is-on : Forwarding → Bool
is-on f = not f.over

current-local : (k : ℕ) (rows : List Row) → filter (for_of k) (current rows) ≡ current (rows_of k rows)
current-local k rows = filters-turn (for_of k) is-on (forwardings_of rows) ∙ ap (filter is-on) (forwardings-local k rows)

-- ---- what a client is still to be answered

abbrev is-mine : ℕ → core.MemberState → Bool
is-mine k x = (x.number == k) && not x.lost

abbrev client-with : ℕ → Bool → List Bool → core.MemberState
client-with number lost waiting = record { number = number; lost = lost; waiting = waiting }

-- a client of these rows that was admitted and isn't lost
abbrev answers-of : ℕ → List Row → Option core.MemberState
answers-of k own = elim (any_of is_admit own && not (is_lost own)) [ true ↦ Some (client-with k false (waiting_left_of (wanted own) (replies own)).requests) | false ↦ None ]

-- the first that passes is one of them
abbrev FoundOne : Look → (core.MemberState → Bool) → Option core.MemberState → Type 0
FoundOne l test None = Unit {0}
FoundOne l test (Some c) = (test c ≡ true) × ClientFits l c

found-one : (l : Look) (test : core.MemberState → Bool) (cs : List core.MemberState) → AllByRecursion (ClientFits l) cs → FoundOne l test (find test cs)
found-one l test [] all = tt
found-one l test (c ∷ cs) all = by_case (test c) refl (found-one l test cs all.1)
  where
    by_case : (b : Bool) → test c ≡ b → FoundOne l test (find test cs) → FoundOne l test (find test (c ∷ cs))
    by_case true e ih = Rattle.std.proofs.Common.subst (FoundOne l test) (sym (find-yes test c cs e)) (e, all.0)
    by_case false e ih = Rattle.std.proofs.Common.subst (FoundOne l test) (sym (find-no test c cs e)) ih

-- one that is found is there
none-there : (test : core.MemberState → Bool) (cs : List core.MemberState) → find test cs ≡ None → any_of test cs ≡ false
none-there test [] e = refl
none-there test (c ∷ cs) e = by_case (test c) refl (λ n. none-there test cs n)
  where
    by_case : (b : Bool) → test c ≡ b → (find test cs ≡ None → any_of test cs ≡ false) → (test c || any_of test cs) ≡ false
    by_case true t ih = absurd (let z : Some c ≡ None = sym (find-yes test c cs t) ∙ e in cc)
    by_case false t ih = ap (λ b. b || any_of test cs) t ∙ ih (sym (find-no test c cs t) ∙ e)

both-true : (a b : Bool) → (a && b) ≡ true → (a ≡ true) × (b ≡ true)
both-true true b e = (refl, e)
both-true false b e = true_false (sym e)

not-true : (b : Bool) → not b ≡ true → b ≡ false
not-true true e = true_false (sym e)
not-true false e = refl

answers-are : (s : CoreState) (k : ℕ) (rows : List Row) → CoreRepresents s rows → find (is-mine k) s.clients ≡ answers-of k (rows_of k rows)
answers-are s k rows st = by_found (find (is-mine k) s.clients) refl (found-one (look rows) (is-mine k) s.clients st.clients.each)
  where
    own : List Row
    own = rows_of k rows

    here : Bool → Option core.MemberState
    here b = elim b as (λ _. Option core.MemberState) [ true ↦ Some (client-with k false (waiting_left_of (wanted own) (replies own)).requests) | false ↦ None ]

    by_here : (a b : Bool) → any_of is_admit own ≡ a → is_lost own ≡ b → find (is-mine k) s.clients ≡ None → None ≡ here (a && not b)
    by_here true true e f n = refl
    by_here false b e f n = refl
    by_here true false e f n = true_false (sym (served-of s rows k st e f) ∙ none-there (is-mine k) s.clients n)

    by_found : (o : Option core.MemberState) → find (is-mine k) s.clients ≡ o → FoundOne (look rows) (is-mine k) o → o ≡ answers-of k own
    by_found None e one = by_here (any_of is_admit own) (is_lost own) refl refl e
    by_found (Some c) e one =
        let both : ((c.number == k) ≡ true) × (not c.lost ≡ true) = both-true (c.number == k) (not c.lost) one.0 in
        let num : c.number ≡ k = eqb-true c.number k both.0 in
        let live : c.lost ≡ false = not-true c.lost both.1 in
        let admitted : any_of is_admit own ≡ true = ap (look rows).admitted (sym num) ∙ one.1.admitted in
        let unlost : is_lost own ≡ false = ap (look rows).lost (sym num) ∙ (sym one.1.lost ∙ live) in
        let waits : (look rows).waiting k ≡ record { requests = c.waiting; early = [] } = ap (look rows).waiting (sym num) ∙ one.1.answers live in
        ap (λ n. Some (client-with n c.lost c.waiting)) num
        ∙ (ap (λ b. Some (client-with k b c.waiting)) live
        ∙ (ap (λ (w : Waiting). Some (client-with k false w.requests)) (sym waits)
        ∙ sym (ap (λ a. here (a && not (is_lost own))) admitted ∙ ap (λ b. here (not b)) unlost)))

-- ---- all of it

abbrev matters-with : List HeldChannel → List Rattle.mux_history.specs.Requests.Ask → List HeldForward → Option core.MemberState → Matters
matters-with channels requests forwards answers = record { channels = channels; requests = requests; forwards = forwards; answers = answers }

-- the matters of a client that has these rows
pub matters-by : ℕ → List Row → Matters
matters-by k own = matters-with (map held-of (held_of own)) (unreplied_in (places_of own)) (map forward-of (current own)) (answers-of k own)

pub matters-are : (s : CoreState) (k : ℕ) (rows : List Row) → CoreRepresents s rows → matters_of_core k s ≡ matters-by k (rows_of k rows)
unfolding matters-by
matters-are s k rows st =
    let own : List Row = rows_of k rows in
    let asks = filter (λ (a : Rattle.mux_history.specs.Requests.Ask). a.client == k) s.asks in
    let forwards = map held_forward (filter (of_client k) s.forwards) in
    let answers = find (is-mine k) s.clients in
    ap (λ l. matters-with l asks forwards answers) (channels-are k s.channels (held_of rows) st.channels.fit ∙ ap (map held-of) (held-local k rows))
    ∙ (ap (λ l. matters-with (map held-of (held_of own)) l forwards answers) (ap (filter (λ (a : Rattle.mux_history.specs.Requests.Ask). a.client == k)) st.asks.waiting ∙ sym (st.asks.each k).waiting)
    ∙ (ap (λ l. matters-with (map held-of (held_of own)) (unreplied_in (places_of own)) l answers) (forwards-are k s.forwards (current rows) st.forwards.listed ∙ ap (map forward-of) (current-local k rows))
    ∙ ap (matters-with (map held-of (held_of own)) (unreplied_in (places_of own)) (map forward-of (current own))) (answers-are s k rows st)))
