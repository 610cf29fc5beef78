-- What the forwarder receives of replies: one request less is unanswered for each.
use Rattle.std.proofs.Common.{◌≡◌, ◌+◌, ◌-◌, ℕ, Bool, true, false, Option, Some, None, List, [], ◌∷◌, refl, sym, ap, ◌∙◌, subst, arith, length, inl, inr}
use Rattle.std.specs.Prelude.{drop, find, Result, Ok, Err}
use Rattle.ssh_grammar.specs.Messages.{Message as Said}
use Rattle.ssh_grammar.specs.ReadMessage.{read_message as reading}
use Rattle.ssh_grammar.specs.declared.fault.Bad.{Bad}
use Rattle.conn_messages.specs.Message.{message_of}
use Rattle.conn_messages.specs.declared.message.Message.{Message}
use Rattle.conn_messages.specs.declared.message.Message.TheVariants as message
use Rattle.conn_messages.specs.declared.message.Opening.{Opening}
use Rattle.conn_messages.specs.declared.message.Opening.TheVariants as opens
use Rattle.conn_messages.specs.declared.key.Key.TheVariants as keys
use Rattle.mux_history.specs.Summary.{summary, reading as summary-reading}
use Rattle.mux_history.specs.Requests.{is_reply}
use Rattle.house_forward.specs.Forwardings.{served_at}
use Rattle.house_forward.specs.RelayTraces.{Trace, RelayReceivesAt, ReceivesMessage, ReceivesOpen, ReceivesReading, OpensFor}
use Rattle.house_forward.specs.declared.forwarding.Forwarding.{Forwarding}
use Rattle.house_history.proofs.Receiving.{ReceivesAll}
use Rattle.house_history.proofs.AnswersOf.{replies-in}

-- so many replies were received
pub record ForwardingStateReceived (replies : ℕ) (old new : Trace) : Type 0 where
  pub greeted : new.forwarding_state.greeted ≡ old.forwarding_state.greeted
  pub requests : length new.forwarding_state.requests ≡ length old.forwarding_state.requests - replies

same-forwarding_state : (old new : Trace) → new.forwarding_state ≡ old.forwarding_state → ForwardingStateReceived 0 old new
same-forwarding_state old new e = record { greeted = ap (λ d. d.greeted) e; requests = let l : length new.forwarding_state.requests ≡ length old.forwarding_state.requests = ap (λ d. length d.requests) e in omega (arith, l) }

at-same : (n : ℕ) (m : Message) (old new : Trace) → RelayReceivesAt n m old new → new.forwarding_state ≡ old.forwarding_state
at-same n m old new (inl h) = ap (λ c. c.forwarding_state) h.2
at-same n m old new (inr h) = ap (λ c. c.forwarding_state) h.1

opens-same : (o : Option Forwarding) (s w m : ℕ) (old new : Trace) → OpensFor o s w m old new → new.forwarding_state ≡ old.forwarding_state
opens-same None s w m old new h = ap (λ c. c.forwarding_state) h
opens-same (Some f) s w m old new h = ap (λ c. c.forwarding_state) h.more

open-same : (what : Opening) (s w m : ℕ) (old new : Trace) → ReceivesOpen what s w m old new → new.forwarding_state ≡ old.forwarding_state
open-same (opens.Forwarded (keys.Tcp address port)) s w m old new h = opens-same (find (served_at address.now port) old.forwarding_state.all) s w m old new h
open-same (opens.Forwarded (keys.Path path)) s w m old new h = ap (λ c. c.forwarding_state) h
open-same opens.Session s w m old new h = ap (λ c. c.forwarding_state) h
open-same (opens.Direct key) s w m old new h = ap (λ c. c.forwarding_state) h
open-same opens.Other s w m old new h = ap (λ c. c.forwarding_state) h

one-less : {X : Type 0} (xs : List X) → length (drop 1 xs) ≡ length xs - 1
one-less [] = refl
one-less (x ∷ xs) = omega arith

-- one if it is a reply
abbrev pub one-if : Bool → ℕ
one-if true = 1
one-if false = 0

message-heard : (m : Message) (old new : Trace) → ReceivesMessage m old new → ForwardingStateReceived (one-if (is_reply (summary (message_of m)))) old new
message-heard (message.Transport number rest) old new h = same-forwarding_state old new (ap (λ c. c.forwarding_state) h)
message-heard (message.GlobalRequest name want rest what) old new h = same-forwarding_state old new (ap (λ c. c.forwarding_state) h)
message-heard (message.RequestSuccess rest) old new h = record { greeted = ap (λ c. c.forwarding_state.greeted) h; requests = ap (λ c. length c.forwarding_state.requests) h ∙ one-less old.forwarding_state.requests }
message-heard message.RequestFailure old new h = record { greeted = ap (λ c. c.forwarding_state.greeted) h; requests = ap (λ c. length c.forwarding_state.requests) h ∙ one-less old.forwarding_state.requests }
message-heard (message.Open kind sender window maximum rest what) old new h = same-forwarding_state old new (open-same what sender window maximum old new h)
message-heard (message.Confirmation recipient sender window maximum rest) old new h = same-forwarding_state old new (at-same recipient (message.Confirmation recipient sender window maximum rest) old new h)
message-heard (message.OpenFailure recipient reason text language) old new h = same-forwarding_state old new (at-same recipient (message.OpenFailure recipient reason text language) old new h)
message-heard (message.Adjust recipient add) old new h = same-forwarding_state old new (at-same recipient (message.Adjust recipient add) old new h)
message-heard (message.Data recipient bytes) old new h = same-forwarding_state old new (at-same recipient (message.Data recipient bytes) old new h)
message-heard (message.Extended recipient code bytes) old new h = same-forwarding_state old new (at-same recipient (message.Extended recipient code bytes) old new h)
message-heard (message.Eof recipient) old new h = same-forwarding_state old new (at-same recipient (message.Eof recipient) old new h)
message-heard (message.Close recipient) old new h = same-forwarding_state old new (at-same recipient (message.Close recipient) old new h)
message-heard (message.Request recipient kind want rest) old new h = same-forwarding_state old new (at-same recipient (message.Request recipient kind want rest) old new h)
message-heard (message.Success recipient) old new h = same-forwarding_state old new (at-same recipient (message.Success recipient) old new h)
message-heard (message.Failure recipient) old new h = same-forwarding_state old new (at-same recipient (message.Failure recipient) old new h)

pub reading-heard : (p : List ℕ) (r : Result Said Bad) → reading p ≡ r → (old new : Trace) → ReceivesReading r old new → ForwardingStateReceived (one-if (summary-reading p is_reply false)) old new
reading-heard p (Err bad) e old new h =
    let is : summary-reading p is_reply false ≡ false = rw (e, summary-reading) refl in
    subst (λ (b : Bool). ForwardingStateReceived (one-if b) old new) (sym is) (same-forwarding_state old new (ap (λ c. c.forwarding_state) h))
reading-heard p (Ok said) e old new h =
    let is : summary-reading p is_reply false ≡ is_reply (summary said) = rw (e, summary-reading) refl in
    subst (λ (b : Bool). ForwardingStateReceived (one-if b) old new) (sym is)
    (subst (λ (s : Said). ForwardingStateReceived (one-if (is_reply (summary s))) old new) h.1 (message-heard h.0 old new h.2))

replies-one : (q : List ℕ) (qs : List (List ℕ)) → replies-in (q ∷ qs) ≡ one-if (summary-reading q is_reply false) + replies-in qs
replies-one q qs = go (summary-reading q is_reply false)
  where
    go : (b : Bool) → ((elim b as (λ _. ℕ) [ true ↦ 1 | false ↦ 0 ]) + replies-in qs) ≡ one-if b + replies-in qs
    go true = refl
    go false = refl

pub forwarding_state-heard : (ps : List (List ℕ)) (old new : Trace) → ReceivesAll ps old new → ForwardingStateReceived (replies-in ps) old new
forwarding_state-heard [] old new h = same-forwarding_state old new h.forwarding_state
forwarding_state-heard (p ∷ ps) old new h =
    let one = reading-heard p (reading p) refl h.0 h.1 h.3 in
    let rest = forwarding_state-heard ps h.1 new h.4 in
    let same = h.2.forwarding_state in
    record {
      greeted = rest.greeted ∙ (one.greeted ∙ ap (λ d. d.greeted) same);
      requests =
          let a = rest.requests in let b = one.requests in let c : length h.0.forwarding_state.requests ≡ length old.forwarding_state.requests = ap (λ d. length d.requests) same in let n = replies-one p ps in
          omega (arith, a, b, c, n);
    }
