-- What a client sends has the same effect under its own numbers.
use Rattle.std.proofs.Common.{◌≡◌, ℕ, ◌-◌, List, [], ◌∷◌, length, true, false, Bool, refl, ◌∙◌, ap, map, sym, Option, Some, None}
use Rattle.std.specs.Prelude.{◌&&◌, not, filter, find, option_map, nat_lt, nat_le, codes}
use Rattle.std.proofs.lemmas.List.{length-map}
use Rattle.mux_history.specs.Channels.{Channel, channels_of, held_of, is_confirmed, is_channel_held, is_number, is_up, with_own}
use Rattle.mux_history.specs.Choices.{sent_number}
use Rattle.mux_history.specs.Forwardings.{current, forwardings_of, is_forwarding_free_at}
use Rattle.mux_history.specs.Summary.{Act, Asks, Confirmation, Summary, Open, Refuses, Requests, Succeeds, Transport, Within, summary_sender_of}
use Rattle.mux_history.specs.Keys.{is_askable}
use Rattle.mux_history.specs.Ledger.{breach}
use Rattle.mux_history.specs.Pending.{waiting_down}
use Rattle.mux_history.specs.Policy.{Policy, permits, may_open}
use Rattle.mux_history.specs.Requests.{answers_to, wanted_requests, replies, unanswered_asks, wanted}
use Rattle.mux_history.specs.Rows.{Row, any_of}
use Rattle.mux_history.specs.Said.{Outcome, confirmed_at, drops, fails_open, is_failing, on_breach, on_confirmed, on_unused, on_waiting, sent_summary, open_outcome, sent_request, sent_within, sends_payload, sends_as, sends_if, sends_open, waiting_at, reason_for, text_for}
use Rattle.mux_history.specs.Solo.{own_ups}
use Rattle.ssh_grammar.specs.Messages.{Cancel, Forward, Global, KeepAlive, Opens, OtherName}
use Rattle.ssh_grammar.specs.SpellMessage.{wants_reply, with_sender}
use Rattle.ssh_grammar.specs.declared.side.Side.{Side}
use Rattle.ssh_grammar.specs.declared.side.Side.TheVariants.{Up}
use Rattle.mux_history.specs.declared.why.Why.TheVariants as why
use Rattle.mux_history.proofs.Finds.{filter-no, filter-yes, find-no, find-yes}
use Rattle.mux_isolation.proofs.Meets.{own_numbered}

-- the client's rows here, and alone: the same look-ups, but for the numbers
pub record Alike (own own' : List Row) : Type 0 where
  pub channels : channels_of own' ≡ map own_numbered (channels_of own)
  pub forwardings : forwardings_of own' ≡ forwardings_of own
  pub wanted : wanted own' ≡ wanted own
  pub replies : replies own' ≡ replies own
  pub asks : wanted_requests own' ≡ wanted_requests own
  pub waiting : waiting_down own' ≡ waiting_down own

-- the outcome under the client's own number
abbrev pub numbered : Option ℕ → Outcome → Outcome
numbered c o = record o { sent = own_ups c o.sent }

pub held-own : (xs : List Channel) → filter is_channel_held (map own_numbered xs) ≡ map own_numbered (filter is_channel_held xs)
held-own [] = refl
held-own (x ∷ xs) = choose (held-own xs) (is_channel_held x) refl
  where
    choose : filter is_channel_held (map own_numbered xs) ≡ map own_numbered (filter is_channel_held xs) → (b : Bool) → is_channel_held x ≡ b → filter is_channel_held (map own_numbered (x ∷ xs)) ≡ map own_numbered (filter is_channel_held (x ∷ xs))
    choose ih true e = filter-yes is_channel_held (own_numbered x) (map own_numbered xs) e ∙ (ap (λ ys. own_numbered x ∷ ys) ih ∙ sym (ap (map own_numbered) (filter-yes is_channel_held x xs e)))
    choose ih false e = filter-no is_channel_held (own_numbered x) (map own_numbered xs) e ∙ (ih ∙ sym (ap (map own_numbered) (filter-no is_channel_held x xs e)))

find-own : (test : Channel → Bool) → ((x : Channel) → test (own_numbered x) ≡ test x) → (xs : List Channel) → find test (map own_numbered xs) ≡ option_map own_numbered (find test xs)
find-own test blind [] = refl
find-own test blind (x ∷ xs) = choose (find-own test blind xs) (test x) refl
  where
    choose : find test (map own_numbered xs) ≡ option_map own_numbered (find test xs) → (b : Bool) → test x ≡ b → find test (map own_numbered (x ∷ xs)) ≡ option_map own_numbered (find test (x ∷ xs))
    choose ih true e = find-yes test (own_numbered x) (map own_numbered xs) (blind x ∙ e) ∙ sym (ap (option_map own_numbered) (find-yes test x xs e))
    choose ih false e = find-no test (own_numbered x) (map own_numbered xs) (blind x ∙ e) ∙ (ih ∙ sym (ap (option_map own_numbered) (find-no test x xs e)))

-- the payload with the number that was picked, and then with the client's own
abbrev pub Resent : ℕ → ℕ → List ℕ → Type 0
Resent pick c p = with_sender (with_sender p pick) c ≡ with_sender p c

pub breach-blind : (way : Side) (act : Act) (x : Channel) → breach way act (own_numbered x) ≡ breach way act x
breach-blind way (Asks true) x = refl
breach-blind way (Asks false) x = refl
breach-blind way act x = refl

module _ (own own' : List Row) (alike : Alike own own') where
  pub held-alike : held_of own' ≡ map own_numbered (held_of own)
  held-alike = ap (filter is_channel_held) alike.channels ∙ held-own (channels_of own)

  pub find-alike : (test : Channel → Bool) → ((x : Channel) → test (own_numbered x) ≡ test x) → find test (held_of own') ≡ option_map own_numbered (find test (held_of own))
  find-alike test blind = ap (find test) held-alike ∙ find-own test blind (held_of own)

  -- a look-up's answer is used for its fields that have no number in them
  by-found : {A : Type 0} (then : Option Channel → A) → ((o : Option Channel) → then (option_map own_numbered o) ≡ then o) → (test : Channel → Bool) → ((x : Channel) → test (own_numbered x) ≡ test x) → then (find test (held_of own')) ≡ then (find test (held_of own))
  by-found then blind test same = ap then (find-alike test same) ∙ blind (find test (held_of own))

  waiting-blind : (s : ℕ) (o : Outcome) (x : Option Channel) → on_waiting s o (option_map own_numbered x) ≡ on_waiting s o x
  waiting-blind s o None = refl
  waiting-blind s o (Some x) = refl

  confirmed-blind : (p : List ℕ) (s : ℕ) (act : Act) (x : Option Channel) → on_confirmed p s act (option_map own_numbered x) ≡ on_confirmed p s act x
  confirmed-blind p s act None = refl
  confirmed-blind p s act (Some x) = ap (on_breach p s) (breach-blind Up act x)

  unused-blind : (c : ℕ) (o : Outcome) (x : Option Channel) → on_unused c o (option_map own_numbered x) ≡ on_unused c o x
  unused-blind c o None = refl
  unused-blind c o (Some x) = refl

  within-said : (p : List ℕ) (s : ℕ) (act : Act) → sent_within own' p s act ≡ sent_within own p s act
  within-said p s act = by_case (is_failing act)
    where
      by_case : (b : Bool) → (elim b as (λ _. Outcome) [ true ↦ on_waiting s (sends_payload p) (waiting_at own' s) | false ↦ on_confirmed p s act (confirmed_at own' s) ]) ≡ (elim b as (λ _. Outcome) [ true ↦ on_waiting s (sends_payload p) (waiting_at own s) | false ↦ on_confirmed p s act (confirmed_at own s) ])
      by_case true = by-found (on_waiting s (sends_payload p)) (waiting-blind s (sends_payload p)) (λ x. is_number x.remote s && (not (is_up x.by) && not (is_confirmed x))) (λ x. refl)
      by_case false = by-found (on_confirmed p s act) (confirmed-blind p s act) (λ x. is_number x.remote s && is_confirmed x) (λ x. refl)

  pub count-alike : length (held_of own') ≡ length (held_of own)
  count-alike = ap length held-alike ∙ length-map (held_of own) own_numbered

  -- an open or a confirmation, whatever its outcome where it is accepted
  unused-said : (c : ℕ) (o o' : Outcome) → on_unused c o (with_own own' c) ≡ on_unused c o (with_own own c)
  unused-said c o o' = by-found (on_unused c o) (unused-blind c o) (λ x. is_number x.own c) (λ x. refl)

  current-alike : current own' ≡ current own
  current-alike = ap (filter (λ f. not f.over)) alike.forwardings

  unanswered-alike : unanswered_asks own' ≡ unanswered_asks own
  unanswered-alike = ap (λ w. length w - length (answers_to w (replies own'))) alike.wanted ∙ ap (λ r. length (wanted own) - length (answers_to (wanted own) r)) alike.replies

  requests-said : (policy : Policy) (k : ℕ) (p : List ℕ) (what : Global) (wants_reply : Bool) → sent_request policy k own' p what wants_reply ≡ sent_request policy k own p what wants_reply
  requests-said policy k p KeepAlive wants_reply = refl
  requests-said policy k p OtherName wants_reply = refl
  requests-said policy k p (Forward key) wants_reply = ap (λ fs. sends_if (wants_reply && (is_askable key && (permits policy.listens key && nat_lt (length fs) 64))) p) current-alike
  requests-said policy k p (Cancel key) wants_reply = ap (λ fs. sends_if (any_of (is_forwarding_free_at k key) fs) p) current-alike

  sends-said : (pick c : ℕ) (p : List ℕ) → Resent pick c p → sends_as c p ≡ numbered (Some c) (sends_as pick p)
  sends-said pick c p again = ap sends_payload (sym again)

  sends_open-said : (pick c : ℕ) (p : List ℕ) → Resent pick c p → sends_open own' c p c ≡ numbered (Some c) (sends_open own pick p c)
  sends_open-said pick c p again = ap (λ n. elim (nat_lt n 256) as (λ _. Outcome) [ true ↦ sends_as c p | false ↦ fails_open c 4 (codes "too many channels") ]) count-alike ∙ by_case (nat_lt (length (held_of own)) 256)
    where
      by_case : (b : Bool) → (elim b as (λ _. Outcome) [ true ↦ sends_as c p | false ↦ fails_open c 4 (codes "too many channels") ]) ≡ numbered (Some c) (elim b as (λ _. Outcome) [ true ↦ sends_as pick p | false ↦ fails_open c 4 (codes "too many channels") ])
      by_case true = sends-said pick c p again
      by_case false = refl

  open-said : (policy : Policy) (pick c : ℕ) (p : List ℕ) (what : Opens) → Resent pick c p → open_outcome policy own' c p c what ≡ numbered (Some c) (open_outcome policy own pick p c what)
  open-said policy pick c p what again = by_case (may_open policy what)
    where
      by_case : (b : Bool) → (elim b as (λ _. Outcome) [ true ↦ sends_open own' c p c | false ↦ fails_open c (reason_for what) (text_for what) ]) ≡ numbered (Some c) (elim b as (λ _. Outcome) [ true ↦ sends_open own pick p c | false ↦ fails_open c (reason_for what) (text_for what) ])
      by_case true = sends_open-said pick c p again
      by_case false = refl

  unused-numbered : (c : ℕ) (o o' : Outcome) (x : Option Channel) → o' ≡ numbered (Some c) o → on_unused c o' x ≡ numbered (Some c) (on_unused c o x)
  unused-numbered c o o' None same = same
  unused-numbered c o o' (Some x) same = refl

  waiting-numbered : (s c : ℕ) (o o' : Outcome) (x : Option Channel) → o' ≡ numbered (Some c) o → on_waiting s o' x ≡ numbered (Some c) (on_waiting s o x)
  waiting-numbered s c o o' None same = refl
  waiting-numbered s c o o' (Some x) same = same

  -- what a client sends has the same effect alone, with its own number as the pick
  pub message-said : (policy : Policy) (k pick : ℕ) (p : List ℕ) (m : Summary) → ((c : ℕ) → summary_sender_of m ≡ Some c → Resent pick c p) → sent_summary policy k own' (sent_number (summary_sender_of m)) p m ≡ numbered (summary_sender_of m) (sent_summary policy k own pick p m)
  message-said policy k pick p (Transport number) again = refl
  message-said policy k pick p (Requests what wants_reply) again = ap (λ n. elim (wants_reply && nat_le 1024 n) as (λ _. Outcome) [ true ↦ drops (why.TooManyAsks 1024) | false ↦ sent_request policy k own' p what wants_reply ]) unanswered-alike ∙ ap (λ o. elim (wants_reply && nat_le 1024 (unanswered_asks own)) as (λ _. Outcome) [ true ↦ drops (why.TooManyAsks 1024) | false ↦ o ]) (requests-said policy k p what wants_reply)
  message-said policy k pick p (Succeeds rest) again = refl
  message-said policy k pick p Refuses again = refl
  message-said policy k pick p (Open what c w max) again =
      unused-said c (open_outcome policy own' c p c what) (open_outcome policy own' c p c what)
      ∙ unused-numbered c (open_outcome policy own pick p c what) (open_outcome policy own' c p c what) (with_own own c) (open-said policy pick c p what (again c refl))
  message-said policy k pick p (Confirmation s c w max) again =
      by-found (on_waiting s (on_unused c (sends_as c p) (with_own own' c))) (waiting-blind s (on_unused c (sends_as c p) (with_own own' c))) (λ x. is_number x.remote s && (not (is_up x.by) && not (is_confirmed x))) (λ x. refl)
      ∙ waiting-numbered s c (on_unused c (sends_as pick p) (with_own own c)) (on_unused c (sends_as c p) (with_own own' c)) (waiting_at own s)
      (unused-said c (sends_as c p) (sends_as c p) ∙ unused-numbered c (sends_as pick p) (sends_as c p) (with_own own c) (sends-said pick c p (again c refl)))
  message-said policy k pick p (Within s act) again = within-said p s act
