-- A socket accepts some of what waits for it.
use Rattle.std.proofs.Common.{◌≡◌, ◌∙◌, refl, sym, ap, subst, arith, ℕ, ◌+◌, ◌-◌, ◌≤◌, Bool, true, false, if◌then◌else◌, List, ◌∷◌, ◌++◌, length, take, drop, length-take, length-append, Option, Some, None}
use Rattle.std.proofs.lemmas.Grind.{common_steps}
use Rattle.std.proofs.lemmas.List.{append_assoc, take-append-drop}
use Rattle.house_relay.specs.Acts.{RelayAct, Takes, socket_accepted, accepted_length, delivered, adjusted, dialog_replies, to_take, taken_data}
use Rattle.house_relay.specs.ChannelState.{takes_in, takes_more}
use Rattle.house_relay.specs.Steps.{relay_taken_of}
use Rattle.socks_dialog.specs.declared.outcome.Outcome.{Outcome}
use Rattle.socks_dialog.specs.declared.outcome.Outcome.TheVariants.{Connects}
use Rattle.house_relay.specs.Relay.{RelayRepresents, LineStands, IsLive, NothingYet, DialogWaitsFor}
use Rattle.house_relay.specs.declared.line.Live.{Live as LiveState}
use Rattle.house_relay.specs.declared.line.ChannelState.{ChannelState}
use Rattle.house_relay.specs.declared.line.ChannelState.TheVariants.{Dialing, Asked, Opened, Offered, Live, Over}
use Rattle.house_relay.specs.declared.relay.Relay.{Relay}
use Rattle.house_relay.proofs.Taken.{took-length}

-- one that is confirmed owes as much more room as is accepted after the replies, until CLOSE is
-- sent
pub live-takes : (live : LiveState) (bytes : List ℕ) (dials : Bool) (acts : List RelayAct) → IsLive live dials acts
    → IsLive (takes_more (length bytes) live) dials (Takes bytes ∷ acts)
live-takes live bytes dials acts s = by_case live.close_sent refl
  where
    n : ℕ
    n = length bytes

    by_case : (b : Bool) → live.close_sent ≡ b
        → IsLive (if b then live else record live { owed = live.owed + (n - live.replies); replies = live.replies - n }) dials (Takes bytes ∷ acts)
    by_case true e = record {
      eof_sent = s.eof_sent;
      eof_received = s.eof_received;
      close_sent = s.close_sent;
      close_received = s.close_received;
      replies = λ f. let z : true ≡ false = sym e ∙ f in cc;
      owed = λ f. let z : true ≡ false = sym e ∙ f in cc;
      most = let m : adjusted acts ≤ taken_data dials acts = s.most in omega arith;
      settled = s.settled;
      asked = s.asked;
    }
    by_case false e = record {
      eof_sent = s.eof_sent;
      eof_received = s.eof_received;
      close_sent = s.close_sent;
      close_received = s.close_received;
      replies = λ f. let r : live.replies ≡ length (dialog_replies dials acts) - accepted_length acts = s.replies e in omega arith;
      owed = λ f.
          let r : live.replies ≡ length (dialog_replies dials acts) - accepted_length acts = s.replies e in
          let o : adjusted acts + live.owed ≡ taken_data dials acts = s.owed e in
          omega arith;
      most = let m : adjusted acts ≤ taken_data dials acts = s.most in omega arith;
      settled = s.settled;
      asked = s.asked;
    }

-- before the OPEN is answered no more than the replies is accepted
pub nothing-takes : (bytes : List ℕ) (dials : Bool) (acts : List RelayAct) (queue : List ℕ) → NothingYet dials acts
    → socket_accepted acts ++ queue ≡ to_take dials acts → length bytes ≤ length queue
    → NothingYet dials (Takes bytes ∷ acts)
nothing-takes bytes dials acts queue s whole few =
    let before = socket_accepted acts in
    let had : length before ≡ accepted_length acts = took-length acts in
    let sizes : length before + length queue ≡ length (dialog_replies dials acts) + length (delivered acts) =
    sym (length-append before queue) ∙ ap length whole ∙ length-append (dialog_replies dials acts) (delivered acts) in
    let none : length (delivered acts) ≡ 0 = ap length s.no_data in
    record {
      no_answer = s.no_answer;
      no_data = s.no_data;
      no_take = omega arith;
      no_room = s.no_room;
      no_eof = s.no_eof;
      no_close = s.no_close;
      none_received = s.none_received;
      none_closed = s.none_closed;
    }

waits-takes : (bytes : List ℕ) (dials : Bool) (acts : List RelayAct) (version : Option ℕ) (outcome : Outcome)
    → DialogWaitsFor version outcome dials acts → DialogWaitsFor version outcome dials (Takes bytes ∷ acts)
waits-takes bytes dials acts None outcome s = s
waits-takes bytes dials acts (Some version) outcome s = s

pub line-takes : (line : ChannelState) (bytes : List ℕ) (dials : Bool) (acts : List RelayAct) (queue : List ℕ)
    → socket_accepted acts ++ queue ≡ to_take dials acts → length bytes ≤ length queue
    → LineStands line dials acts → LineStands (takes_in (length bytes) line) dials (Takes bytes ∷ acts)
line-takes (Dialing dialog) bytes dials acts queue whole few s = record {
  socks = s.socks;
  bytes = s.bytes;
  given = s.given;
  wants = s.wants;
  nothing = nothing-takes bytes dials acts queue s.nothing whole few;
}
line-takes (Asked host port version) bytes dials acts queue whole few s = record {
  waits = waits-takes bytes dials acts version (Connects host port) s.waits;
  nothing = nothing-takes bytes dials acts queue s.nothing whole few;
}
line-takes (Opened version) bytes dials acts queue whole few s = record {
  host = s.host;
  port = s.port;
  waits = waits-takes bytes dials acts version (Connects s.host s.port) s.waits;
  nothing = nothing-takes bytes dials acts queue s.nothing whole few;
}
line-takes (Offered remote window maximum) bytes dials acts queue whole few s = record {
  plain = s.plain;
  nothing = nothing-takes bytes dials acts queue s.nothing whole few;
}
line-takes (Live live) bytes dials acts queue whole few s = live-takes live bytes dials acts s
line-takes Over bytes dials acts queue whole few s = record {
  most = let m : adjusted acts ≤ taken_data dials acts = s.most in omega arith;
  settled = s.settled;
}

-- the relay goes on
goes-front : (r : Relay) (bytes rest : List ℕ) (dials : Bool) (acts : List RelayAct) → r.queue.waiting ≡ bytes ++ rest
    → drop (length bytes) r.queue.waiting ≡ rest → RelayRepresents dials acts r
    → RelayRepresents dials (Takes bytes ∷ acts) (relay_taken_of (length bytes) r)
goes-front r bytes rest dials acts front left s =
    let few : length bytes ≤ length r.queue.waiting = omega (arith, ap length front, length-append bytes rest) in
    record {
      sends = s.sends;
      delivers = append_assoc (socket_accepted acts) bytes (drop (length bytes) r.queue.waiting)
          ∙ ap (λ q. socket_accepted acts ++ (bytes ++ q)) left
          ∙ ap (λ q. socket_accepted acts ++ q) (sym front)
          ∙ s.delivers;
      ends = s.ends;
      last = s.last;
      few = s.few;
      line = line-takes r.line bytes dials acts r.queue.waiting s.delivers few s.line;
    }

pub goes : (r : Relay) (n : ℕ) (dials : Bool) (acts : List RelayAct) → n ≤ length r.queue.waiting → RelayRepresents dials acts r
    → RelayRepresents dials (Takes (take n r.queue.waiting) ∷ acts) (relay_taken_of n r)
goes r n dials acts few s =
    let queue = r.queue.waiting in
    let size : length (take n queue) ≡ n = grind (arith, common_steps, length-take) in
    subst (λ k. RelayRepresents dials (Takes (take n queue) ∷ acts) (relay_taken_of k r)) size
    (goes-front r (take n queue) (drop n queue) dials acts (sym (take-append-drop n queue))
    (ap (λ k. drop k queue) size) s)
