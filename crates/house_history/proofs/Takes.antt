-- What the forwarder accepts of what waits for it, and its calls by which nothing is sent or
-- received: the run goes on with it.
use Rattle.std.proofs.Common.{◌≡◌, ◌+◌, ◌-◌, ℕ, Bool, true, false, Option, List, [], ◌∷◌, ◌++◌, refl, sym, ap, ◌∙◌, subst, arith, map, append-nil, length, take, drop}
use Rattle.std.proofs.lemmas.List.{map-append}
use Rattle.mux_outside.specs.HouseCalls.{HouseCall, Begins, Marks, Receives, Turns, Takes as TakesBytes}
use Rattle.mux_outside.specs.declared.house_mark.HouseMark.{HouseMark}
use Rattle.mux_outside.specs.declared.house_mark.HouseMark.TheVariants.{HouseIn, HouseSaid, HouseTook, HouseAsked, HouseAnswer, HouseOrder}
use Rattle.mux_outside.specs.declared.order.Order.{Order}
use Rattle.mux_outside.specs.declared.order.Order.TheVariants as order
use Rattle.mux_history.specs.declared.limits.TheConstants.{HOUSE}
use Rattle.mux_history.specs.Channels.{Channel, after_farewell, after_item, held_of}
use Rattle.mux_history.specs.Choices.{Choices, FromLists, TheirOwn, pick_of, with_reply}
use Rattle.mux_history.specs.Log.{Setting, more_all, new_answers, next_row, treat}
use Rattle.mux_history.specs.Pending.{pending, pending_down}
use Rattle.mux_history.specs.Requests.{wanted_requests, unanswered_asks}
use Rattle.mux_history.specs.Rows.{Item, Row, Took, is_out, rows_of}
use Rattle.mux_history.proofs.Nexts.{next-took}
use Rattle.house_forward.specs.ForwardingState.{ForwardingState}
use Rattle.house_forward.specs.RelayTraces.{Trace, Follows, MarksIn, OrdersInTrace, with_forwarding_state}
use Rattle.house_forward.specs.declared.forwarder_state.ForwarderStage.{ForwarderStage}
use Rattle.house_forward.proofs.Sound.{All, Sound}
use Rattle.house_history.proofs.Receiving.{Heard, Recorded, Waits, receives, waits-same}
use Rattle.house_history.proofs.RowsOf.{asks-go-on, no-answers, plain_row}
use Rattle.house_history.proofs.Channels.{plain-other}
use Rattle.house_history.proofs.Seen.{Seen, note-in}
use Rattle.house_history.proofs.AnswersOf.{replies-append, replies-in}
use Rattle.house_history.proofs.ForwardingStates.{forwarding_state-heard}
use Rattle.house_history.proofs.Calm.{Distinct, IsCalm, IsCalmMark, calm, heard-all}
use Rattle.house_history.proofs.Going.{After, Going, IsOn, IsYoung, Phase, Still, own-more}

-- ---- calls by which nothing is sent or received

-- they leave what was received, how it is read, and what was sent
pub record CalmRest (old new : Trace) : Type 0 where
  pub framer : new.framer ≡ old.framer
  pub stage : new.stage ≡ old.stage
  pub greeted : new.forwarding_state.greeted ≡ old.forwarding_state.greeted
  pub requests : new.forwarding_state.requests ≡ old.forwarding_state.requests

rest-is : (old new c : Trace) → new ≡ c → CalmRest old c → CalmRest old new
rest-is old new c e r = subst (CalmRest old) (sym e) r

rest-same : (old : Trace) → CalmRest old old
rest-same old = record { framer = refl; stage = refl; greeted = refl; requests = refl }

rest-forwarding_state : (old new : Trace) (d : ForwardingState) → new ≡ with_forwarding_state d old → d.greeted ≡ old.forwarding_state.greeted → d.requests ≡ old.forwarding_state.requests → CalmRest old new
rest-forwarding_state old new d e g r = rest-is old new (with_forwarding_state d old) e (record { framer = refl; stage = refl; greeted = g; requests = r })

rest-orders : (o : Order) (number : Option ℕ) (old new : Trace) → OrdersInTrace o number old new → CalmRest old new
rest-orders (order.Listen host port) number old new h =
    let first = h.1.orders.others in
    let then = h.1.makes.others in
    rest-forwarding_state old new h.0 h.2
    (ap (λ (d : ForwardingState). d.greeted) then ∙ ap (λ (d : ForwardingState). d.greeted) first)
    (ap (λ (d : ForwardingState). d.requests) then ∙ ap (λ (d : ForwardingState). d.requests) first)
rest-orders (order.Connect host port) number old new h = rest-is old new _ h.are (record { framer = refl; stage = refl; greeted = refl; requests = refl })
rest-orders (order.Unlisten l) number old new h = rest-forwarding_state old new h.0 h.2 (ap (λ (d : ForwardingState). d.greeted) h.1.others) (ap (λ (d : ForwardingState). d.requests) h.1.others)
rest-orders (order.Pause t) number old new h = rest-is old new _ h.1 (record { framer = refl; stage = refl; greeted = refl; requests = refl })
rest-orders (order.Resume t) number old new h = rest-is old new _ h.1 (record { framer = refl; stage = refl; greeted = refl; requests = refl })
rest-orders (order.Finish t) number old new h = rest-is old new _ h.1 (record { framer = refl; stage = refl; greeted = refl; requests = refl })
rest-orders (order.Close t) number old new h = rest-is old new _ h.1 (record { framer = refl; stage = refl; greeted = refl; requests = refl })

rest-mark : (mark : HouseMark) (old new : Trace) → IsCalmMark mark → MarksIn mark old new → CalmRest old new
rest-mark HouseIn old new c h = rest-is old new old h (rest-same old)
rest-mark (HouseSaid bytes) old new c h = absurd c
rest-mark (HouseTook size) old new c h = rest-is old new old h (rest-same old)
rest-mark (HouseAsked client id opening ask reply) old new c h = rest-forwarding_state old new h.0 h.2 (ap (λ (d : ForwardingState). d.greeted) h.1.others) (ap (λ (d : ForwardingState). d.requests) h.1.others)
rest-mark (HouseAnswer client id reply) old new c h = rest-forwarding_state old new h.0 h.2 (ap (λ (d : ForwardingState). d.greeted) h.1.others) (ap (λ (d : ForwardingState). d.requests) h.1.others)
rest-mark (HouseOrder o number) old new c h = rest-orders o number old new h

pub calm-rest : (call : HouseCall) (old new : Trace) → IsCalm call → Follows call old new → CalmRest old new
calm-rest (Begins starts) old new c h = rest-forwarding_state old new h.0 h.2 (ap (λ (d : ForwardingState). d.greeted) h.1.others) (ap (λ (d : ForwardingState). d.requests) h.1.others)
calm-rest (Marks mark) old new c h = rest-mark mark old new c h
calm-rest (Receives bytes) old new c h = absurd c
calm-rest (Turns happening) old new c h = rest-is old new _ h.2 (record { framer = refl; stage = refl; greeted = refl; requests = refl })
calm-rest (TakesBytes t bytes) old new c h = rest-is old new _ h.2 (record { framer = refl; stage = refl; greeted = refl; requests = refl })

-- where the relays are sound a run goes on after such a call
pub calm-step : (rows : List Row) (trace new : Trace) (call : HouseCall) (recorded : Recorded) → All Sound trace → IsCalm call → Follows call trace new → Going rows trace recorded → Going rows new recorded
calm-step rows trace new call recorded sound c h g =
    let rest = calm-rest call trace new c h in
    let own = rows_of HOUSE rows in
    record {
      on = g.on;
      inside = g.inside;
      waits = waits-same trace new (pending HOUSE rows) recorded rest.framer rest.stage g.waits;
      seen = calm (held_of own) (map note-in recorded.payloads) call trace new sound c h g.seen;
      requests = ap length rest.requests ∙ g.requests;
      phase =
          subst (λ (b : Bool). Phase b new.stage recorded own) (sym rest.greeted)
          (subst (λ (s : ForwarderStage). Phase trace.forwarding_state.greeted s recorded own) (sym rest.stage) g.phase);
    }

-- and what waited for the forwarder still waits
pub calm-still : (rows : List Row) (trace new : Trace) (call : HouseCall) → All Sound trace → IsCalm call → Follows call trace new → Still rows trace → Still rows new
calm-still rows trace new call sound c h s =
    let rest = calm-rest call trace new c h in
    record {
      recorded = s.recorded;
      channels = s.channels;
      waits = waits-same trace new (pending HOUSE rows) s.recorded rest.framer rest.stage s.waits;
      seen = calm s.channels (map note-in s.recorded.payloads) call trace new sound c h s.seen;
    }

-- ---- what it accepts

abbrev pub took_row : ℕ → Row
took_row n = plain_row (Took HOUSE n) HOUSE [] []

-- nothing is sent by it
pub young-took : (n : ℕ) (own : List Row) → IsYoung own → IsYoung (plain_row (Took HOUSE n) HOUSE [] [] ∷ own)
young-took n own y = record {
  channels = ap (λ (xs : List Channel). map (after_farewell (took_row n)) (map (after_item (took_row n)) xs ++ [])) y.channels;
  asked = append-nil (wanted_requests own) ∙ y.asked;
  forwardings = y.forwardings;
  silent = y.silent;
}

same-took : (choices : Choices) (rows : List Row) (n : ℕ) → with_reply choices rows (Took HOUSE n) ≡ Took HOUSE n
same-took (FromLists picks replies) rows n = refl
same-took TheirOwn rows n = refl

pub took-more : (setting : Setting) (rows : List Row) (n : ℕ) → more_all setting rows (Took HOUSE n ∷ []) ≡ took_row n ∷ rows
took-more setting rows n =
    ap (λ (b : Bool). elim b as (λ _. List Row) [ false ↦ rows | true ↦ next_row setting rows (Took HOUSE n) ∷ rows ]) (next-took rows HOUSE n)
    ∙ ap (λ (item : Item). treat setting.policy setting.pid (pick_of setting.choices rows (Took HOUSE n)) rows item ∷ rows) (same-took setting.choices rows n)

took-phase : (b : Bool) (n : ℕ) (trace new : Trace) (bytes : List ℕ) (recorded : Recorded) (own : List Row) (h : Heard trace new bytes recorded) → Phase b trace.stage recorded own → Phase b new.stage h.left (took_row n ∷ own)
took-phase false n trace new bytes recorded own h p = (h.ungranted p.0, young-took n own p.1)
took-phase true n trace new bytes recorded own h p = h.granted p

fewer : (now was left heard all asked before : ℕ) → now ≡ was - heard → was ≡ before + all → all ≡ heard + left → asked ≡ before → now ≡ asked + left
fewer now was left heard all asked before a b c d = omega (arith, a, b, c, d)

took-going : (rows : List Row) (trace new : Trace) (n : ℕ) (recorded : Recorded) → Distinct trace.relay_traces → Going rows trace recorded → (h : Heard trace new (drop n (pending HOUSE rows)) recorded)
    → Going (took_row n ∷ rows) new h.left
took-going rows trace new n recorded apart g h =
    let row = took_row n in
    let own = rows_of HOUSE rows in
    let same : rows_of HOUSE (row ∷ rows) ≡ row ∷ own = own-more row rows refl in
    let forwarding_state = forwarding_state-heard h.heard trace new h.goes in
    let split : map note-in recorded.payloads ≡ map note-in h.heard ++ map note-in h.left.payloads =
    ap (map note-in) h.split ∙ map-append note-in h.heard h.left.payloads in
    let seen : Seen (held_of own) new.relay_traces (map note-in h.left.payloads) =
    heard-all (held_of own) (map note-in h.left.payloads) h.heard trace new apart h.goes (subst (λ notes. Seen (held_of own) trace.relay_traces notes) split g.seen) in
    let held : held_of (row ∷ own) ≡ held_of own = plain-other HOUSE own (Took HOUSE n) [] tt in
    let none : length (new_answers row own) ≡ 0 = ap length (no-answers row own refl refl) in
    let go-on : unanswered_asks (row ∷ own) + length (new_answers row own) ≡ unanswered_asks own + 0 = asks-go-on row own in
    let asked : unanswered_asks (row ∷ own) ≡ unanswered_asks own = omega (arith, none, go-on) in
    record {
      on = g.on;
      inside = ap is_out same ∙ g.inside;
      waits =
          subst (λ (rs : List Row). Waits new (pending_down rs) h.left) (sym same)
          (subst (λ (bytes : List ℕ). Waits new (drop n bytes) h.left) (sym (append-nil (pending_down own))) h.waits);
      seen =
          subst (λ (rs : List Row). Seen (held_of rs) new.relay_traces (map note-in h.left.payloads)) (sym same)
          (subst (λ (hs : List Channel). Seen hs new.relay_traces (map note-in h.left.payloads)) (sym held) seen);
      requests =
          fewer (length new.forwarding_state.requests) (length trace.forwarding_state.requests) (replies-in h.left.payloads) (replies-in h.heard) (replies-in recorded.payloads) (unanswered_asks (row ∷ own)) (unanswered_asks own)
          forwarding_state.requests g.requests (ap replies-in h.split ∙ replies-append h.heard h.left.payloads) asked
          ∙ ap (λ (rs : List Row). unanswered_asks rs + replies-in h.left.payloads) (sym same);
      phase =
          subst (Phase new.forwarding_state.greeted new.stage h.left) (sym same)
          (subst (λ (b : Bool). Phase b new.stage h.left (row ∷ own)) (sym forwarding_state.greeted)
          (took-phase trace.forwarding_state.greeted n trace new (drop n (pending HOUSE rows)) recorded own h g.phase));
    }

-- what waits besides still waits, once the forwarder has received what it accepts
pub took-still : (rows : List Row) (trace new : Trace) (n : ℕ) → Distinct trace.relay_traces → Still rows trace → Follows (Receives (take n (pending HOUSE rows))) trace new
    → Still (took_row n ∷ rows) new
took-still rows trace new n apart s follows =
    let h = receives trace new n (pending HOUSE rows) s.recorded s.waits follows in
    let own = rows_of HOUSE rows in
    let same : rows_of HOUSE (took_row n ∷ rows) ≡ took_row n ∷ own = own-more (took_row n) rows refl in
    let split : map note-in s.recorded.payloads ≡ map note-in h.heard ++ map note-in h.left.payloads =
    ap (map note-in) h.split ∙ map-append note-in h.heard h.left.payloads in
    record {
      recorded = h.left;
      channels = s.channels;
      waits =
          subst (λ (rs : List Row). Waits new (pending_down rs) h.left) (sym same)
          (subst (λ (bytes : List ℕ). Waits new (drop n bytes) h.left) (sym (append-nil (pending_down own))) h.waits);
      seen = heard-all s.channels (map note-in h.left.payloads) h.heard trace new apart h.goes (subst (λ notes. Seen s.channels trace.relay_traces notes) split s.seen);
    }

-- a run goes on after what the forwarder accepts, once it has received it
pub took-step : (setting : Setting) (rows : List Row) (trace new : Trace) (n : ℕ) (recorded : Recorded) → Distinct trace.relay_traces → Going rows trace recorded
    → Follows (Receives (take n (pending HOUSE rows))) trace new → After (more_all setting rows (Took HOUSE n ∷ [])) new
took-step setting rows trace new n recorded apart g h =
    let heard = receives trace new n (pending HOUSE rows) recorded g.waits h in
    subst (λ (more : List Row). After more new) (sym (took-more setting rows n))
    (IsOn heard.left (took-going rows trace new n recorded apart g heard))
