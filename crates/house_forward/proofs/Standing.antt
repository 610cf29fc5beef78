-- A relay represents one thing more, where that is nothing that is counted of its channel.
use Rattle.std.proofs.Common.{◌≡◌, ◌∙◌, refl, sym, ap, subst, arith, ℕ, ◌+◌, ◌-◌, ◌≤◌, Bool, true, List, ◌∷◌, ◌++◌, length, slice_index, Option, Some, None}
use Rattle.std.specs.Prelude.{IsTrue}
use Rattle.socks_dialog.specs.declared.outcome.Outcome.{Outcome}
use Rattle.socks_dialog.specs.declared.outcome.Outcome.TheVariants.{Connects}
use Rattle.house_relay.specs.Acts.{RelayAct, Ends, Fails, Other, read, all_data_sent, delivered, socket_accepted, accepted_length, adjusted, socket_has_ended, received_eof, received_close, sent_eof, was_close_sent, answer, outcome_in, before_in, dialog_replies, replies_if, to_take, behind_if, taken_data}
use Rattle.house_relay.specs.Relay.{RelayRepresents, RelayGoesOn, LineStands, IsLive, NothingYet, DialogWaitsFor, IsDialogSettled, HasAsked}
use Rattle.house_relay.specs.declared.line.Live.{Live as LiveState}
use Rattle.house_relay.specs.declared.line.ChannelState.{ChannelState}
use Rattle.house_relay.specs.declared.line.ChannelState.TheVariants.{Dialing, Asked, Opened, Offered, Live, Over}
use Rattle.house_relay.specs.declared.relay.Relay.{Relay}
use Rattle.house_relay.specs.declared.relay.RelaySocket.{RelaySocket}
use Rattle.house_relay.specs.declared.relay.RelaySocket.TheVariants as socket
use Rattle.house_relay.specs.Steps.{socket_connected, failing}
use Rattle.house_forward.specs.Links.{relay_after}
use Rattle.house_forward.specs.RelayTraces.{relay_act_of}
use Rattle.house_forward.specs.declared.link.LinkStep.{LinkStep}
use Rattle.house_forward.specs.declared.link.LinkStep.TheVariants.{Pause, Finish, End, Close, Writable, Failed as Fail}

-- what is counted of a channel is the same
record SameIn (old new : List RelayAct) : Type 0 where
  bytes : read new ≡ read old
  data_sent : all_data_sent new ≡ all_data_sent old
  data_received : delivered new ≡ delivered old
  took : socket_accepted new ≡ socket_accepted old
  takes : accepted_length new ≡ accepted_length old
  grants : adjusted new ≡ adjusted old
  eof_received : received_eof new ≡ received_eof old
  close_received : received_close new ≡ received_close old
  eof_sent : sent_eof new ≡ sent_eof old
  close_sent : was_close_sent new ≡ was_close_sent old
  answers : answer new ≡ answer old

replies-same : (dials : Bool) (old new : List RelayAct) → SameIn old new → dialog_replies dials new ≡ dialog_replies dials old
replies-same dials old new same =
    ap (λ b. replies_if dials b (answer new)) same.bytes ∙ ap (λ a. replies_if dials (read old) a) same.answers

nothing-same : (dials : Bool) (old new : List RelayAct) → SameIn old new → NothingYet dials old → NothingYet dials new
nothing-same dials old new same s =
    let sizes = ap length (replies-same dials old new same) in
    let most : accepted_length old ≤ length (dialog_replies dials old) = s.no_take in
    let socket_accepted = same.takes in
    record {
      no_answer = same.answers ∙ s.no_answer;
      no_data = same.data_received ∙ s.no_data;
      no_take = omega (arith, sizes, most, socket_accepted);
      no_room = same.grants ∙ s.no_room;
      no_eof = same.eof_sent ∙ s.no_eof;
      no_close = same.close_sent ∙ s.no_close;
      none_received = same.eof_received ∙ s.none_received;
      none_closed = same.close_received ∙ s.none_closed;
    }

waits-same : (version : Option ℕ) (outcome : Outcome) (dials : Bool) (old new : List RelayAct) → SameIn old new
    → DialogWaitsFor version outcome dials old → DialogWaitsFor version outcome dials new
waits-same None outcome dials old new same s = s
waits-same (Some version) outcome dials old new same s =
    (s.0, s.1 ∙ ap (λ b. slice_index b 0) (sym same.bytes), ap outcome_in same.bytes ∙ s.2)

data-same : (dials : Bool) (old new : List RelayAct) → SameIn old new → taken_data dials new ≡ taken_data dials old
data-same dials old new same =
    ap (λ n. n - length (dialog_replies dials new)) same.takes ∙ ap (λ r. accepted_length old - length r) (replies-same dials old new same)

live-same : (live : LiveState) (dials : Bool) (old new : List RelayAct) → SameIn old new → IsLive live dials old
    → IsLive live dials new
live-same live dials old new same s = record {
  eof_sent = s.eof_sent ∙ sym same.eof_sent;
  eof_received = s.eof_received ∙ sym same.eof_received;
  close_sent = s.close_sent ∙ sym same.close_sent;
  close_received = s.close_received ∙ sym same.close_received;
  replies = λ f. s.replies f ∙ ap (λ r. length r - accepted_length old) (sym (replies-same dials old new same))
      ∙ ap (λ n. length (dialog_replies dials new) - n) (sym same.takes);
  owed = λ f. ap (λ n. n + live.owed) same.grants ∙ s.owed f ∙ sym (data-same dials old new same);
  most = subst (λ n. n ≤ taken_data dials new) (sym same.grants)
      (subst (λ n. adjusted old ≤ n) (sym (data-same dials old new same)) s.most);
  settled = subst (IsDialogSettled dials) (sym same.bytes) s.settled;
  asked = subst (HasAsked dials) (sym same.bytes) s.asked;
}

line-same : (line : ChannelState) (dials : Bool) (old new : List RelayAct) → SameIn old new → LineStands line dials old
    → LineStands line dials new
line-same (Dialing dialog) dials old new same s = record {
  socks = s.socks;
  bytes = s.bytes ∙ sym same.bytes;
  given = s.given ∙ ap (λ b. length (before_in b)) (sym same.bytes);
  wants = ap outcome_in same.bytes ∙ s.wants;
  nothing = nothing-same dials old new same s.nothing;
}
line-same (Asked host port version) dials old new same s = record {
  waits = waits-same version (Connects host port) dials old new same s.waits;
  nothing = nothing-same dials old new same s.nothing;
}
line-same (Opened version) dials old new same s = record {
  host = s.host;
  port = s.port;
  waits = waits-same version (Connects s.host s.port) dials old new same s.waits;
  nothing = nothing-same dials old new same s.nothing;
}
line-same (Offered remote window maximum) dials old new same s = record {
  plain = s.plain;
  nothing = nothing-same dials old new same s.nothing;
}
line-same (Live live) dials old new same s = live-same live dials old new same s
line-same Over dials old new same s = record {
  most = subst (λ n. n ≤ taken_data dials new) (sym same.grants)
      (subst (λ n. adjusted old ≤ n) (sym (data-same dials old new same)) s.most);
  settled = subst (IsDialogSettled dials) (sym same.bytes) s.settled;
}

take-same : (dials : Bool) (old new : List RelayAct) → SameIn old new → to_take dials new ≡ to_take dials old
take-same dials old new same =
    ap (λ r. r ++ delivered new) (replies-same dials old new same) ∙ ap (λ b. dialog_replies dials old ++ b) same.data_received

-- another socket, and its end
stands-same : (dials : Bool) (old new : List RelayAct) (r : Relay) (s : RelaySocket) (ended : Bool) → SameIn old new
    → ended ≡ socket_has_ended new → (IsTrue (socket_has_ended old) → IsTrue (socket_has_ended new)) → RelayRepresents dials old r
    → RelayRepresents dials new (record r { socket = s; ended = ended })
stands-same dials old new r s ended same is more h = record {
  sends = ap (λ b. b ++ r.held.waiting) same.data_sent ∙ h.sends ∙ ap (behind_if dials) (sym same.bytes);
  delivers = ap (λ b. b ++ r.queue.waiting) same.took ∙ h.delivers ∙ sym (take-same dials old new same);
  ends = is;
  last = λ said. let both = h.last (sym same.eof_sent ∙ said) in (more both.0, both.1);
  few = h.few;
  line = line-same r.line dials old new same h.line;
}

same-behind : (act : RelayAct) (acts : List RelayAct) → read (act ∷ acts) ≡ read acts → all_data_sent (act ∷ acts) ≡ all_data_sent acts → delivered (act ∷ acts) ≡ delivered acts → socket_accepted (act ∷ acts) ≡ socket_accepted acts → accepted_length (act ∷ acts) ≡ accepted_length acts
    → adjusted (act ∷ acts) ≡ adjusted acts → received_eof (act ∷ acts) ≡ received_eof acts → received_close (act ∷ acts) ≡ received_close acts
    → sent_eof (act ∷ acts) ≡ sent_eof acts → was_close_sent (act ∷ acts) ≡ was_close_sent acts → answer (act ∷ acts) ≡ answer acts
    → SameIn acts (act ∷ acts)
same-behind act acts a b c t d e f g h i j = record {
  bytes = a;
  data_sent = b;
  data_received = c;
  took = t;
  takes = d;
  grants = e;
  eof_received = f;
  close_received = g;
  eof_sent = h;
  close_sent = i;
  answers = j;
}

same-other : (acts : List RelayAct) → SameIn acts (Other ∷ acts)
same-other acts = same-behind Other acts refl refl refl refl refl refl refl refl refl refl refl

same-ends : (acts : List RelayAct) → SameIn acts (Ends ∷ acts)
same-ends acts = same-behind Ends acts refl refl refl refl refl refl refl refl refl refl refl

same-fails : (acts : List RelayAct) → SameIn acts (Fails ∷ acts)
same-fails acts = same-behind Fails acts refl refl refl refl refl refl refl refl refl refl refl

-- its socket is another
pub goes-other : (r : Relay) (s : RelaySocket) → RelayGoesOn r (record r { socket = s }) Other
goes-other r s = λ dials acts h. stands-same dials acts (Other ∷ acts) r s r.ended (same-other acts) h.ends (λ e. e) h

-- a step of its stream
pub goes-after : (step : LinkStep) (r : Relay) → RelayGoesOn r (relay_after step r) (relay_act_of step)
goes-after (Pause b) r = goes-other r r.socket
goes-after Finish r = goes-other r r.socket
goes-after End r = λ dials acts h. stands-same dials acts (Ends ∷ acts) r r.socket true (same-ends acts) refl (λ e. refl) h
goes-after Close r = goes-other r socket.Closed
goes-after Writable r = goes-other r (socket_connected r.socket)
goes-after Fail r = λ dials acts h. stands-same dials acts (Fails ∷ acts) r (failing r.socket) r.ended (same-fails acts) h.ends (λ e. e) h
