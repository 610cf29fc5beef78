-- What a relay keeps is what is left of what happened in it.
use Rattle.std.proofs.Common.{◌≡◌, ◌∙◌, sym, ap, subst, arith, ℕ, ◌+◌, ◌≤◌, ◌<◌, Bool, true, false, List, ◌++◌, length, drop, Option, Some, None, [], IsTrue, ◌∷◌, refl}
use Rattle.std.specs.Prelude.{◌||◌, ◌==◌}
use Rattle.mux_outside.specs.declared.own_streams.OwnStream.{OwnStream}
use Rattle.house_relay.specs.ChannelState.{takes}
use Rattle.std.proofs.lemmas.List.{length-append}
use Rattle.std.proofs.Math.Seq.{drop-append_seam}
use Rattle.house_relay.specs.Acts.{RelayAct, Relays, read, all_data_sent, socket_accepted, accepted_length, adjusted, read_not_sent, waiting, to_take, taken_data, outcome_in}
use Rattle.house_relay.specs.Relay.{RelayRepresents, RelayKeeps, OwesRight, AsksRight, SilentIn, IsResting, stuck_in, is_stuck, LineStands, NothingYet, DialogWaitsFor}
use Rattle.mux_outside.specs.declared.piece.TheConstants.{LONGEST_PIECE}
use Rattle.socks_dialog.specs.declared.outcome.Outcome.TheVariants.{Connects}
use Rattle.house_relay.specs.declared.line.ChannelState.{ChannelState}
use Rattle.house_relay.proofs.Readings.{asked-waits}
use Rattle.house_relay.specs.declared.line.ChannelState.TheVariants.{Dialing, Asked, Opened, Offered, Live, Over}
use Rattle.house_relay.specs.declared.relay.Relay.{Relay}
use Rattle.house_relay.proofs.Taken.{took-length}

pub holds : (dials : Bool) (acts : List RelayAct) (r : Relay) → RelayRepresents dials acts r → r.held.waiting ≡ read_not_sent dials acts
holds dials acts r s = sym (drop-append_seam (all_data_sent acts) r.held.waiting) ∙ ap (drop (length (all_data_sent acts))) s.sends

pub waits : (dials : Bool) (acts : List RelayAct) (r : Relay) → RelayRepresents dials acts r → r.queue.waiting ≡ waiting dials acts
waits dials acts r s =
    sym (drop-append_seam (socket_accepted acts) r.queue.waiting)
    ∙ ap (drop (length (socket_accepted acts))) s.delivers
    ∙ ap (λ n. drop n (to_take dials acts)) (took-length acts)

few : (dials : Bool) (acts : List RelayAct) (r : Relay) → RelayRepresents dials acts r → accepted_length acts ≤ length (to_take dials acts)
few dials acts r s =
    let e : length (socket_accepted acts) + length r.queue.waiting ≡ length (to_take dials acts) =
    sym (length-append (socket_accepted acts) r.queue.waiting) ∙ ap length s.delivers in
    let t : length (socket_accepted acts) ≡ accepted_length acts = took-length acts in
    omega arith

none-yet : (dials : Bool) (acts : List RelayAct) → NothingYet dials acts → adjusted acts ≤ taken_data dials acts
none-yet dials acts s = let a : adjusted acts ≡ 0 = s.no_room in omega arith

most : (line : ChannelState) (dials : Bool) (acts : List RelayAct) → LineStands line dials acts → adjusted acts ≤ taken_data dials acts
most (Dialing dialog) dials acts s = none-yet dials acts s.nothing
most (Asked host port version) dials acts s = none-yet dials acts s.nothing
most (Opened version) dials acts s = none-yet dials acts s.nothing
most (Offered remote window maximum) dials acts s = none-yet dials acts s.nothing
most (Live live) dials acts s = s.most
most Over dials acts s = s.most

owes : (line : ChannelState) (dials : Bool) (acts : List RelayAct) → LineStands line dials acts → OwesRight line dials acts
owes (Dialing dialog) dials acts s = tt
owes (Asked host port version) dials acts s = tt
owes (Opened version) dials acts s = tt
owes (Offered remote window maximum) dials acts s = tt
owes (Live live) dials acts s = λ unsaid none.
    let o : adjusted acts + live.owed ≡ taken_data dials acts = s.owed (s.close_sent ∙ unsaid) in
    omega arith
owes Over dials acts s = tt

true_or : (P : Type 0) (b : Bool) → b ≡ false → b ≡ true → P
true_or P b e f = let z : false ≡ true = sym e ∙ f in cc

asks-end : (version : Option ℕ) (host : List ℕ) (port : ℕ) (dials : Bool) (acts : List RelayAct)
    → DialogWaitsFor version (Connects host port) dials acts → dials ≡ true → outcome_in (read acts) ≡ Connects host port
asks-end None host port dials acts s e = true_or (outcome_in (read acts) ≡ Connects host port) dials s e
asks-end (Some version) host port dials acts s e = s.2

asks : (line : ChannelState) (dials : Bool) (acts : List RelayAct) → LineStands line dials acts → AsksRight line dials acts
asks (Dialing dialog) dials acts s = s.wants
asks (Asked host port version) dials acts s = asks-end version host port dials acts s.waits
asks (Opened version) dials acts s = asked-waits version s.host s.port dials acts s.waits
asks (Offered remote window maximum) dials acts s = s.plain
asks (Live live) dials acts s = s.asked
asks Over dials acts s = s.settled

pub relays : (dials : Bool) (acts : List RelayAct) (r : Relay) → RelayRepresents dials acts r → Relays dials acts
relays dials acts r s = record {
  prefix = ap (λ h. all_data_sent acts ++ h) (sym (holds dials acts r s)) ∙ s.sends;
  in_order = ap (λ w. socket_accepted acts ++ w) (sym (waits dials acts r s)) ∙ s.delivers;
  fits = few dials acts r s;
  granted = most r.line dials acts s.line;
  last = λ said. ((s.last said).0, sym (holds dials acts r s) ∙ (s.last said).1);
  few = subst (λ h. length h ≤ LONGEST_PIECE) (holds dials acts r s) s.few;
}

pub keeps : (dials : Bool) (acts : List RelayAct) (r : Relay) → RelayRepresents dials acts r → RelayKeeps dials acts r
keeps dials acts r s = record {
  holds = holds dials acts r s;
  waits = waits dials acts r s;
  owes = owes r.line dials acts s.line;
  asks = asks r.line dials acts s.line;
}

-- ---- at rest

-- what is held is stuck
stuck : (line : ChannelState) (r : Relay) → SilentIn line r → 0 < length r.held.waiting → IsTrue (stuck_in line)
stuck (Dialing dialog) r silent some = refl
stuck (Asked host port version) r silent some = absurd silent
stuck (Opened version) r silent some = refl
stuck (Offered remote window maximum) r silent some = refl
stuck (Live live) r silent some = by_close live.close_sent refl
  where
    by_close : (b : Bool) → live.close_sent ≡ b → IsTrue (b || (takes live == 0))
    by_close true e = refl
    by_close false e = subst (λ n. IsTrue (n == 0)) (sym (((silent e).3) some)) refl
stuck Over r silent some = refl

pub empty-at-rest : (r : Relay) (stream : OwnStream) → SilentIn r.line r → IsResting r stream
    → stream.paused ≡ false → r.held.waiting ≡ []
empty-at-rest r stream silent rests going = by_held r.held.waiting refl
  where
    by_held : (read_not_sent : List ℕ) → r.held.waiting ≡ read_not_sent → read_not_sent ≡ []
    by_held [] e = refl
    by_held (byte ∷ read_not_sent) e =
        let some : 0 < length r.held.waiting = omega (arith, ap length e) in
        let is : IsTrue (is_stuck r.line r.held.waiting) =
        subst (λ h. IsTrue (is_stuck r.line h)) (sym e) (stuck r.line r silent some) in
        true_or (byte ∷ read_not_sent ≡ []) stream.paused going (rests.paused is)
