-- The server answers an OPEN.
use Rattle.std.proofs.Common.{◌≡◌, ◌∙◌, refl, sym, ap, subst, arith, ℕ, ◌+◌, ◌-◌, ◌≤◌, Bool, true, false, List, [], ◌∷◌, ◌++◌, length, append_assoc, length-append, Option, Some, None}
use Rattle.std.specs.Prelude.{slice_index}
use Rattle.std.proofs.lemmas.List.{append-nil}
use Rattle.std.specs.List.{concat}
use Rattle.proxy_frames.specs.Queued.{with_bytes}
use Rattle.socks_dialog.specs.declared.outcome.Outcome.TheVariants.{Connects}
use Rattle.house_relay.specs.Acts.{RelayAct, Confirms, Refuses, OpenAnswer, Unanswered, Confirmed, Refused, read, delivered, socket_accepted, accepted_length, adjusted, before_in, last_reply, replies_in, replies_if, dialog_replies}
use Rattle.house_relay.specs.Dialing.{grant_of, dialog_refusal_of}
use Rattle.house_relay.specs.ChannelState.{fresh_live}
use Rattle.house_relay.specs.Relay.{RelayRepresents, LineStands, IsChannelOpened, DialogWaitsFor}
use Rattle.house_relay.specs.declared.line.ChannelState.TheVariants.{Opened, Live, Over}
use Rattle.house_relay.specs.declared.relay.Relay.{Relay}
use Rattle.house_relay.proofs.Readings.{settled-waits, asked-waits}
use Rattle.house_relay.proofs.Taken.{took-length}

-- the last reply by an answer
abbrev reply_of : Option ℕ → OpenAnswer → List ℕ
reply_of None a = []
reply_of (Some version) Unanswered = []
reply_of (Some version) Confirmed = grant_of (Some version)
reply_of (Some version) (Refused reason) = dialog_refusal_of (Some version) reason

true_is : (P : Type 0) → true ≡ false → P
true_is P e = cc

-- it comes after the others
one-more : (version : Option ℕ) (host : List ℕ) (port : ℕ) (a : OpenAnswer) (dials : Bool) (acts : List RelayAct)
    → DialogWaitsFor version (Connects host port) dials acts
    → replies_if dials (read acts) a ≡ replies_if dials (read acts) Unanswered ++ reply_of version a
unfolding replies_in
one-more None host port a false acts s = refl
one-more None host port a true acts s =
    true_is (replies_if true (read acts) a ≡ replies_if true (read acts) Unanswered ++ []) s
one-more (Some version) host port a false acts s =
    true_is (replies_if false (read acts) a ≡ replies_if false (read acts) Unanswered ++ reply_of (Some version) a) (sym s.0)
one-more (Some version) host port a true acts s =
    ap (λ o. front ++ last_reply o first a) s.2
    ∙ ap (λ r. front ++ r) (last a)
    ∙ ap (λ f. f ++ reply_of (Some version) a) (sym (append-nil front))
    ∙ ap (λ o. (front ++ last_reply o first Unanswered) ++ reply_of (Some version) a) (sym s.2)
  where
    front : List ℕ
    front = concat (before_in (read acts))

    first : ℕ
    first = slice_index (read acts) 0

    last : (b : OpenAnswer) → last_reply (Connects host port) first b ≡ reply_of (Some version) b
    last Unanswered = refl
    last Confirmed = ap (λ n. grant_of (Some n)) (sym s.1)
    last (Refused reason) = ap (λ n. dialog_refusal_of (Some n) reason) (sym s.1)

-- what the socket is to be given then
record Answered (r : Relay) (more : List ℕ) (a : OpenAnswer) (dials : Bool) (acts : List RelayAct) : Type 0 where
  pub whole : socket_accepted acts ++ (r.queue.waiting ++ more) ≡ replies_if dials (read acts) a ++ delivered acts
  pub size : length (r.queue.waiting ++ more) ≡ length (replies_if dials (read acts) a) - accepted_length acts
  pub within : accepted_length acts ≤ length (replies_if dials (read acts) a)

answered : (r : Relay) (version : Option ℕ) (a : OpenAnswer) (dials : Bool) (acts : List RelayAct) → IsChannelOpened version dials acts
    → RelayRepresents dials acts r → Answered r (reply_of version a) a dials acts
answered r version a dials acts o s =
    let more = reply_of version a in
    let front = replies_if dials (read acts) Unanswered in
    let then = replies_if dials (read acts) a in
    let grows : then ≡ front ++ more = one-more version o.host o.port a dials acts o.waits in
    let none : delivered acts ≡ [] = o.nothing.no_data in
    let before = socket_accepted acts in
    let waits : before ++ r.queue.waiting ≡ front =
    s.delivers
    ∙ ap (λ b. dialog_replies dials acts ++ b) none
    ∙ append-nil (dialog_replies dials acts)
    ∙ ap (replies_if dials (read acts)) o.nothing.no_answer in
    let had : length before ≡ accepted_length acts = took-length acts in
    let all : before ++ (r.queue.waiting ++ more) ≡ then =
    sym (append_assoc before r.queue.waiting more) ∙ ap (λ b. b ++ more) waits ∙ sym grows in
    let sizes : length before + length (r.queue.waiting ++ more) ≡ length then =
    sym (length-append before (r.queue.waiting ++ more)) ∙ ap length all in
    record {
      whole = all ∙ sym (append-nil then) ∙ ap (λ b. then ++ b) (sym none);
      size = omega arith;
      within = omega arith;
    }

grants : (version : Option ℕ) → reply_of version Confirmed ≡ grant_of version
grants None = refl
grants (Some version) = refl

refusals : (version : Option ℕ) (reason : ℕ) → reply_of version (Refused reason) ≡ dialog_refusal_of version reason
refusals None reason = refl
refusals (Some version) reason = refl

-- it is confirmed
pub confirms : (r : Relay) (version : Option ℕ) (remote window maximum : ℕ) (dials : Bool) (acts : List RelayAct)
    → r.line ≡ Opened version → RelayRepresents dials acts r
    → RelayRepresents dials (Confirms ∷ acts) (record r {
      line = Live (fresh_live remote window maximum (length (r.queue.waiting ++ grant_of version)));
      queue = with_bytes (grant_of version) r.queue;
    })
confirms r version remote window maximum dials acts is s =
    subst (λ more. RelayRepresents dials (Confirms ∷ acts) (record r {
      line = Live (fresh_live remote window maximum (length (r.queue.waiting ++ more)));
      queue = with_bytes more r.queue;
    })) (grants version) (
    let o : IsChannelOpened version dials acts = subst (λ l. LineStands l dials acts) is s.line in
    let n = o.nothing in
    let a = answered r version Confirmed dials acts o s in
    let within : accepted_length acts ≤ length (replies_if dials (read acts) Confirmed) = a.within in
    let no_room : adjusted acts ≡ 0 = n.no_room in
    record {
      sends = s.sends;
      delivers = a.whole;
      ends = s.ends;
      last = s.last;
      few = s.few;
      line = record {
        eof_sent = sym n.no_eof;
        eof_received = sym n.none_received;
        close_sent = sym n.no_close;
        close_received = sym n.none_closed;
        replies = λ f. a.size;
        owed = λ f. omega arith;
        most = omega arith;
        settled = settled-waits version o.host o.port dials acts o.waits;
        asked = asked-waits version o.host o.port dials acts o.waits;
      };
    })

-- it is refused
pub refuses : (r : Relay) (version : Option ℕ) (reason : ℕ) (dials : Bool) (acts : List RelayAct)
    → r.line ≡ Opened version → RelayRepresents dials acts r
    → RelayRepresents dials (Refuses reason ∷ acts)
    (record r { line = Over; queue = with_bytes (dialog_refusal_of version reason) r.queue })
refuses r version reason dials acts is s =
    subst (λ more. RelayRepresents dials (Refuses reason ∷ acts) (record r { line = Over; queue = with_bytes more r.queue }))
    (refusals version reason) (
    let o : IsChannelOpened version dials acts = subst (λ l. LineStands l dials acts) is s.line in
    let a = answered r version (Refused reason) dials acts o s in
    let no_room : adjusted acts ≡ 0 = o.nothing.no_room in
    record {
      sends = s.sends;
      delivers = a.whole;
      ends = s.ends;
      last = s.last;
      few = s.few;
      line = record {
        most = omega arith;
        settled = settled-waits version o.host o.port dials acts o.waits;
      };
    })
