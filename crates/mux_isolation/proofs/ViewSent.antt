-- What a client sends does the same where the same is seen of it.
use Rattle.std.proofs.Common.{◌≡◌, ℕ, ◌+◌, List, [], ◌∷◌, map, length, drop, true, false, Bool, refl, ◌∙◌, ap, arith, sym, Option, Some, None, Ok, Err}
use Rattle.std.specs.Prelude.{◌==◌, ◌&&◌, not, find, option_map, nat_le, nat_lt, Result}
use Rattle.std.proofs.lemmas.List.{length-map}
use Rattle.mux_outside.specs.declared.house.HouseReply.{HouseReply}
use Rattle.ssh_grammar.specs.Messages.{Cancel, Forward, Global, KeepAlive, Opens, OtherName}
use Rattle.ssh_grammar.specs.Said.{BadFraming, Body, Payload, Outgoing}
use Rattle.ssh_grammar.specs.SpellMessage.{too_many_channels}
use Rattle.ssh_grammar.specs.declared.fault.Bad.{Bad}
use Rattle.ssh_grammar.specs.declared.fault.Breach.{Breach}
use Rattle.ssh_grammar.specs.declared.fault.Breach.TheVariants.{AfterClose, AfterEof, NotOpen, Overflow, TooManyAsks, Unasked}
use Rattle.ssh_grammar.specs.declared.numbers.TheConstants.{RESOURCE_SHORTAGE}
use Rattle.ssh_grammar.specs.declared.side.Side.TheVariants.{Up}
use Rattle.mux_history.specs.declared.limits.TheConstants.{MAX_CHANNELS, MAX_CHANNEL_REQUESTS, MAX_FORWARDINGS, MAX_GLOBAL_REQUESTS, MAX_WINDOW}
use Rattle.mux_history.specs.declared.why.Why.TheVariants as why
use Rattle.mux_history.specs.Channels.{Channel, held_of, is_number, is_up, with_own}
use Rattle.mux_history.specs.Controls.{client_has_greeted, in_proxy, sent_body}
use Rattle.mux_history.specs.Forwardings.{Forwarding, current, is_forwarding_free_at}
use Rattle.mux_history.specs.Summary.{Act, Answers, Asks, Carries, Confirmation, Ends, Summary, Grants, Open, Refuses, Requests, Succeeds, Transport, Within, read_summary}
use Rattle.mux_history.specs.Keys.{is_askable}
use Rattle.mux_history.specs.Ledger.{breach, packet_breach}
use Rattle.mux_history.specs.Log.{sent_by_client}
use Rattle.mux_history.specs.Pending.{pending_down}
use Rattle.mux_history.specs.Policy.{Policy, permits, may_open}
use Rattle.mux_history.specs.Requests.{answers_to, wanted_requests, replies, unanswered_asks, wanted}
use Rattle.mux_history.specs.Rows.{Row, any_of, is_admit, is_lost, is_out}
use Rattle.mux_history.specs.Said.{Outcome, confirmed_at, drops, fails_open, is_failing, is_full_of_asks, on_breach, on_confirmed, on_unused, on_waiting, sent_summary, open_outcome, sent_payload, sent_request, sends_payload, sends_as, sends_if, sends_open, waiting_at, reason_for, text_for}
use Rattle.mux_isolation.specs.LogView.{ChannelView, LogView, Waiting, channel_view, waiting_left_of, room_in, unanswered_in}
use Rattle.mux_isolation.proofs.ViewChannels.{find-view}

-- ---- the view of a client's own rows

abbrev pub own_view : List Row → LogView
own_view own = record {
  admitted = any_of is_admit own;
  has_greeted = client_has_greeted own;
  proxied = in_proxy own;
  lost = is_lost own;
  out = is_out own;
  channels = map channel_view (held_of own);
  requests = length (wanted_requests own);
  replied = length (replies own);
  unreplied = drop (length (replies own)) (wanted_requests own);
  waiting = waiting_left_of (wanted own) (replies own);
  forwardings = current own;
  pending = pending_down own;
}

-- ---- what is looked up in it

-- the requests without an answer are those that are left
left-count : (flags : List Bool) (heard : List (List ℕ)) → length flags ≡ length (answers_to flags heard) + length (waiting_left_of flags heard).requests
left-count [] heard = omega arith
left-count (false ∷ flags) heard = let l = left-count flags heard in omega arith
left-count (true ∷ flags) [] = omega arith
left-count (true ∷ flags) (p ∷ heard) = let l = left-count flags heard in omega arith

unanswered-left : (own : List Row) → unanswered_asks own ≡ length (waiting_left_of (wanted own) (replies own)).requests
unanswered-left own = let l = left-count (wanted own) (replies own) in omega arith

-- the breach of what goes up
abbrev act_up : Act → ChannelView → Option Breach
act_up (Carries n) v = elim v.up.eof [ true ↦ Some AfterEof | false ↦ packet_breach v.up.maximum (room_in v.up) n ]
act_up Ends v = elim v.up.eof [ true ↦ Some AfterEof | false ↦ None ]
act_up (Grants n) v = elim (nat_lt MAX_WINDOW (room_in v.down + n)) [ true ↦ Some (Overflow (room_in v.down) n) | false ↦ None ]
act_up Answers v = elim (unanswered_in v.down == 0) [ true ↦ Some Unasked | false ↦ None ]
act_up (Asks true) v = elim (nat_lt (unanswered_in v.up) MAX_CHANNEL_REQUESTS) [ true ↦ None | false ↦ Some (TooManyAsks (unanswered_in v.up)) ]
act_up _ v = None

abbrev breach_up : Act → ChannelView → Option Breach
breach_up act v = elim v.confirmed [
  | false ↦ Some NotOpen
  | true ↦ elim v.up.closed [ true ↦ Some AfterClose | false ↦ act_up act v ]
]

breach-up : (act : Act) (x : Channel) → breach Up act x ≡ breach_up act (channel_view x)
breach-up (Carries n) x = refl
breach-up Ends x = refl
breach-up (Grants n) x = refl
breach-up Answers x = refl
breach-up (Asks true) x = refl
breach-up (Asks false) x = refl
breach-up act x = refl

-- ---- what depends on a channel that is looked up

abbrev pub SeenSame : Option Channel → Option Channel → Type 0
SeenSame a b = option_map channel_view a ≡ option_map channel_view b

on-unused : (c : ℕ) (o : Outcome) (a b : Option Channel) → SeenSame a b → on_unused c o a ≡ on_unused c o b
on-unused c o None None same = refl
on-unused c o (Some x) (Some y) same = refl
on-unused c o None (Some y) same = cc
on-unused c o (Some x) None same = cc

on-waiting : (s : ℕ) (o : Outcome) (a b : Option Channel) → SeenSame a b → on_waiting s o a ≡ on_waiting s o b
on-waiting s o None None same = refl
on-waiting s o (Some x) (Some y) same = refl
on-waiting s o None (Some y) same = cc
on-waiting s o (Some x) None same = cc

some-same : (x y : ChannelView) → Some x ≡ Some y → x ≡ y
some-same x y e = cc

on-confirmed : (p : List ℕ) (s : ℕ) (act : Act) (a b : Option Channel) → SeenSame a b → on_confirmed p s act a ≡ on_confirmed p s act b
on-confirmed p s act None None same = refl
on-confirmed p s act (Some x) (Some y) same = ap (on_breach p s) (breach-up act x ∙ (ap (breach_up act) (some-same (channel_view x) (channel_view y) same) ∙ sym (breach-up act y)))
on-confirmed p s act None (Some y) same = cc
on-confirmed p s act (Some x) None same = cc

module _ (own others : List Row) (same : own_view own ≡ own_view others) where
  pub channels : map channel_view (held_of own) ≡ map channel_view (held_of others)
  channels = ap (λ (v : LogView). v.channels) same

  pub forwardings : current own ≡ current others
  forwardings = ap (λ (v : LogView). v.forwardings) same

  pub waiting : waiting_left_of (wanted own) (replies own) ≡ waiting_left_of (wanted others) (replies others)
  waiting = ap (λ (v : LogView). v.waiting) same

  pub count : length (held_of own) ≡ length (held_of others)
  count = sym (length-map (held_of own) channel_view) ∙ (ap length channels ∙ length-map (held_of others) channel_view)

  pub found : (test : ChannelView → Bool) → SeenSame (find (λ x. test (channel_view x)) (held_of own)) (find (λ x. test (channel_view x)) (held_of others))
  found test = find-view test (held_of own) ∙ (ap (find test) channels ∙ sym (find-view test (held_of others)))

  owned : (c : ℕ) → SeenSame (with_own own c) (with_own others c)
  owned c = found (λ v. is_number v.own c)

  waits : (s : ℕ) → SeenSame (waiting_at own s) (waiting_at others s)
  waits s = found (λ v. is_number v.remote s && (not (is_up v.by) && not v.confirmed))

  confirms : (s : ℕ) → SeenSame (confirmed_at own s) (confirmed_at others s)
  confirms s = found (λ v. is_number v.remote s && v.confirmed)

  unanswered : unanswered_asks own ≡ unanswered_asks others
  unanswered = unanswered-left own ∙ (ap (λ (w : Waiting). length w.requests) waiting ∙ sym (unanswered-left others))

  -- ---- what the client sends

  sends-open : (pick : ℕ) (p : List ℕ) (sender : ℕ) → sends_open own pick p sender ≡ sends_open others pick p sender
  sends-open pick p sender = ap (λ n. elim (nat_lt n MAX_CHANNELS) as (λ _. Outcome) [ true ↦ sends_as pick p | false ↦ fails_open sender RESOURCE_SHORTAGE too_many_channels ]) count

  said-open : (policy : Policy) (pick : ℕ) (p : List ℕ) (sender : ℕ) (what : Opens) → open_outcome policy own pick p sender what ≡ open_outcome policy others pick p sender what
  said-open policy pick p sender what = by_case (may_open policy what)
    where
      by_case : (b : Bool) → (elim b as (λ _. Outcome) [ true ↦ sends_open own pick p sender | false ↦ fails_open sender (reason_for what) (text_for what) ]) ≡ (elim b as (λ _. Outcome) [ true ↦ sends_open others pick p sender | false ↦ fails_open sender (reason_for what) (text_for what) ])
      by_case true = sends-open pick p sender
      by_case false = refl

  said-request : (policy : Policy) (k : ℕ) (p : List ℕ) (what : Global) (wants : Bool) → sent_request policy k own p what wants ≡ sent_request policy k others p what wants
  said-request policy k p (Forward key) wants = ap (λ (fs : List Forwarding). sends_if (wants && (is_askable key && (permits policy.listens key && nat_lt (length fs) MAX_FORWARDINGS))) p) forwardings
  said-request policy k p (Cancel key) wants = ap (λ (fs : List Forwarding). sends_if (any_of (is_forwarding_free_at k key) fs) p) forwardings
  said-request policy k p KeepAlive wants = refl
  said-request policy k p OtherName wants = refl

  said-summary : (policy : Policy) (k pick : ℕ) (p : List ℕ) (m : Summary) → sent_summary policy k own pick p m ≡ sent_summary policy k others pick p m
  said-summary policy k pick p (Transport number) = refl
  said-summary policy k pick p (Requests what wants) =
      ap (λ n. elim (wants && nat_le MAX_GLOBAL_REQUESTS n) as (λ _. Outcome) [ true ↦ drops (why.TooManyAsks MAX_GLOBAL_REQUESTS) | false ↦ sent_request policy k own p what wants ]) unanswered
      ∙ ap (λ o. elim (is_full_of_asks wants others) as (λ _. Outcome) [ true ↦ drops (why.TooManyAsks MAX_GLOBAL_REQUESTS) | false ↦ o ]) (said-request policy k p what wants)
  said-summary policy k pick p (Succeeds rest) = refl
  said-summary policy k pick p Refuses = refl
  said-summary policy k pick p (Open what sender window maximum) =
      on-unused sender (open_outcome policy own pick p sender what) (with_own own sender) (with_own others sender) (owned sender)
      ∙ ap (λ o. on_unused sender o (with_own others sender)) (said-open policy pick p sender what)
  said-summary policy k pick p (Confirmation s sender window maximum) =
      on-waiting s (on_unused sender (sends_as pick p) (with_own own sender)) (waiting_at own s) (waiting_at others s) (waits s)
      ∙ ap (λ o. on_waiting s o (waiting_at others s)) (on-unused sender (sends_as pick p) (with_own own sender) (with_own others sender) (owned sender))
  said-summary policy k pick p (Within s act) = by_case (is_failing act)
    where
      by_case : (b : Bool) → (elim b as (λ _. Outcome) [ true ↦ on_waiting s (sends_payload p) (waiting_at own s) | false ↦ on_confirmed p s act (confirmed_at own s) ]) ≡ (elim b as (λ _. Outcome) [ true ↦ on_waiting s (sends_payload p) (waiting_at others s) | false ↦ on_confirmed p s act (confirmed_at others s) ])
      by_case true = on-waiting s (sends_payload p) (waiting_at own s) (waiting_at others s) (waits s)
      by_case false = on-confirmed p s act (confirmed_at own s) (confirmed_at others s) (confirms s)

  said-payload : (policy : Policy) (k pick : ℕ) (p : List ℕ) → sent_payload policy k own pick p ≡ sent_payload policy k others pick p
  said-payload policy k pick p = by_case (read_summary p)
    where
      by_case : (r : Result Summary Bad) → (elim r as (λ _. Outcome) [ Err bad ↦ drops (why.BadMessage bad) | Ok m ↦ sent_summary policy k own pick p m ]) ≡ (elim r as (λ _. Outcome) [ Err bad ↦ drops (why.BadMessage bad) | Ok m ↦ sent_summary policy k others pick p m ])
      by_case (Err bad) = refl
      by_case (Ok m) = said-summary policy k pick p m

  pub said-alike : (policy : Policy) (pid k pick : ℕ) (outgoing : Outgoing) (given : Option HouseReply) → sent_by_client policy pid k own pick outgoing given ≡ sent_by_client policy pid k others pick outgoing given
  said-alike policy pid k pick (Body body) given = ap (λ b. sent_body pid k given b body) (ap (λ (v : LogView). v.has_greeted) same)
  said-alike policy pid k pick (Payload p) given = said-payload policy k pick p
  said-alike policy pid k pick (BadFraming fault) given = refl
