-- What a forwarder begins with, from settings to what is recorded, and what is so of it then.
use Rattle.std.proofs.Common.{◌≡◌, inl, inr, ℕ, Bool, List, [], ◌∷◌, Option, Some, None, Result, Ok, Err, refl, ap, sym, subst}
use Rattle.std.specs.Prelude.{◌++◌, flat_map, if◌then◌else◌}
use Rattle.std.specs.List.{slice_get}
use Rattle.conf_options.specs.Kept.{Given, KeepsSettings, first_value}
use Rattle.conf_resolve.specs.PassGives.{Resolved}
use Rattle.conf_rules.specs.declared.asked.Asked.{Asked}
use Rattle.conf_rules.specs.declared.key.Key.{Key}
use Rattle.conf_rules.specs.declared.key.Key.TheVariants.{ClearAllForwardings, DynamicForward, ExitOnForwardFailure, GatewayPorts, LocalForward, RemoteForward}
use Rattle.conf_rules.specs.declared.value.Value.{Value}
use Rattle.conf_rules.specs.Listing.{is_set}
use Rattle.conf_rules.specs.Resolution.{all_rows}
use Rattle.conf_rules.specs.Rows.{LineRow, given, value, values, values_among}
use Rattle.conf_rules.specs.Recorded.{Recorded}
use Rattle.mux_engine.specs.Run.{IsRun, Rested, RestedAt}
use Rattle.mux_engine.specs.Sides.{AtWaits, Resting, RestsOf}
use Rattle.mux_history.specs.Log.{Setting}
use Rattle.mux_history.specs.Policy.{Policy}
use Rattle.mux_history.specs.Settings.{by_lists}
use Rattle.mux_history.specs.declared.ended.Ended.{Ended}
use Rattle.mux_outside.specs.House.{HouseState}
use Rattle.mux_outside.specs.HouseCalls.{Begins, HouseCall}
use Rattle.mux_outside.specs.Seen.{Seen}
use Rattle.mux_outside.specs.declared.facts.Facts.{Facts}
use Rattle.mux_outside.specs.declared.house.HouseReply.{HouseReply}
use Rattle.mux_outside.specs.declared.house_mark.HouseMark.{HouseMark}
use Rattle.mux_outside.specs.declared.mark.Mark.{Mark}
use Rattle.mux_outside.specs.declared.mark.Mark.TheVariants.{Waits}
use Rattle.mux_outside.specs.declared.pairs.Pair.{Pair}
use Rattle.mux_outside.specs.declared.starts.ListenPermit.{ListenPermit}
use Rattle.mux_outside.specs.declared.starts.Starts.{Starts}
use Rattle.mux_outside.specs.declared.statuses.CommandStatus.{CommandStatus}
use Rattle.mux_outside.specs.declared.own_streams.OwnStream.{OwnStream}
use Rattle.mux_outside.specs.declared.turn.Want.{Want}
use Rattle.ssh_mux.specs.declared.ending.Ending.{Ending}
use Rattle.ssh_mux.specs.declared.ending.Ending.TheVariants as endings
use Rattle.ssh_mux.specs.declared.status.Status.{Status}
use Rattle.ssh_mux.specs.declared.status.Status.TheVariants as statuses
use Rattle.ssh_mux.specs.Outcomes.{machine}
use Rattle.ssh_mux.specs.Places.{recorded_over}
use Rattle.ssh_mux.specs.Asks.{forward_kind_of_key}
use Rattle.ssh_mux.specs.Sharing.{IsShared, Shares}
use Rattle.ssh_mux.specs.Starts.{BeganWith, BegunRests, MustsAs, SettledFor, StartsAs, must_for, starts_due, starts_for, value_starts}
use Rattle.ssh_mux.proofs.RefusalLemmas.{Promise, kept}

-- the settings of a resolution
pub settled-for : (files : Option (List Pair)) (ends_with : Option (List CommandStatus)) (facts : Facts) (asked : Asked) (settings : List Given) → Promise files ends_with facts asked (λ recorded. Resolved recorded (Ok settings)) → SettledFor (recorded_over (machine files ends_with facts) asked) settings
unfolding machine
settled-for None ends_with facts asked settings h = tt
settled-for (Some files) None facts asked settings h = tt
settled-for (Some files) (Some ends_with) facts asked settings h = (kept files ends_with facts asked (λ t. Resolved t (Ok settings)) h).1

-- the first value of a key is that of the rows
same-first : (rows : List LineRow) (settings : List Given) → KeepsSettings settings (flat_map given rows) → (key : Key) → first_value key settings ≡ value key rows
unfolding values
same-first rows settings keeps key = ap (λ vs. slice_get vs 0) (keeps.each key)

same-values : (rows : List LineRow) (settings : List Given) → KeepsSettings settings (flat_map given rows) → (key : Key) → values_among key settings ≡ values key rows
unfolding values
same-values rows settings keeps key = keeps.each key

-- what is made of these values
abbrev made : ListenPermit → Option Value → Option Value → Option Value → List Value → List Value → List Value → Starts
made here clears gateway must locals remotes dynamics = record {
  asks = if is_set clears then [] else flat_map (value_starts (forward_kind_of_key LocalForward)) locals
      ++ flat_map (value_starts (forward_kind_of_key RemoteForward)) remotes
      ++ flat_map (value_starts (forward_kind_of_key DynamicForward)) dynamics;
  gateway = is_set gateway;
  must = is_set must;
  here = here;
}

same-made : (here : ListenPermit) (c c' g g' m m' : Option Value) (l l' r r' d d' : List Value) → c ≡ c' → g ≡ g' → m ≡ m' → l ≡ l' → r ≡ r' → d ≡ d' → made here c g m l r d ≡ made here c' g' m' l' r' d'
same-made here c c' g g' m m' l l' r r' d d' ec eg em el er ed = rw (ec, eg, em, el, er, ed) refl

same-starts : (here : ListenPermit) (rows : List LineRow) (settings : List Given) → KeepsSettings settings (flat_map given rows) → starts_for here settings ≡ starts_due here rows
same-starts here rows settings keeps = same-made here (first_value ClearAllForwardings settings) (value ClearAllForwardings rows) (first_value GatewayPorts settings) (value GatewayPorts rows) (first_value ExitOnForwardFailure settings) (value ExitOnForwardFailure rows) (values_among LocalForward settings) (values LocalForward rows) (values_among RemoteForward settings) (values RemoteForward rows) (values_among DynamicForward settings) (values DynamicForward rows)
    (same-first rows settings keeps ClearAllForwardings) (same-first rows settings keeps GatewayPorts) (same-first rows settings keeps ExitOnForwardFailure) (same-values rows settings keeps LocalForward) (same-values rows settings keeps RemoteForward) (same-values rows settings keeps DynamicForward)

-- a forwarder begins as is due by what is recorded
pub starts-recorded : (here : ListenPermit) (recorded : Option Recorded) (settings : List Given) → SettledFor recorded settings → StartsAs here recorded (starts_for here settings)
starts-recorded here None settings s = tt
starts-recorded here (Some recorded) settings s = same-starts here (all_rows recorded) settings s

-- ---- a run with a forwarder that has begun

rested-at : (R R' : AtWaits) → ((want : Want) (now : Option (List HouseMark)) (calls : List HouseCall) (ls : List ℕ) (os : List OwnStream) (ws us : List ℕ) → R want now calls ls os ws us → R' want now calls ls os ws us) → (setting : Setting) (before : Option (List HouseMark)) (journal : List Mark) (mark : Mark) → RestedAt R setting before journal mark → RestedAt R' setting before journal mark
rested-at R R' f setting before journal (Waits waiting want streams shown) h = f _ _ _ _ _ _ _ h
rested-at R R' f setting before journal mark h = tt

rested : (R R' : AtWaits) → ((want : Want) (now : Option (List HouseMark)) (calls : List HouseCall) (ls : List ℕ) (os : List OwnStream) (ws us : List ℕ) → R want now calls ls os ws us → R' want now calls ls os ws us) → (setting : Setting) (before : Option (List HouseMark)) (journal : List Mark) → Rested R setting before journal → Rested R' setting before journal
rested R R' f setting before [] h = tt
rested R R' f setting before (mark ∷ journal) h = (rested-at R R' f setting before journal mark h.0, rested R R' f setting before journal h.1)

module _ (May : HouseReply → Type 0) (R R' : AtWaits) (stands begun : List HouseCall → Type 0) (last : HouseState) (present : Bool) (policy : Policy) (pid turns : ℕ) (before now : Option (List HouseMark)) (start : Option (List Mark)) (seen : Seen) (refused : Option ℕ) (rests : (want : Want) (now : Option (List HouseMark)) (calls : List HouseCall) (ls : List ℕ) (os : List OwnStream) (ws us : List ℕ) → R want now calls ls os ws us → R' want now calls ls os ws us) (stood : (calls : List HouseCall) → begun calls → stands calls) where
  run-of : (answer : Ended) → IsRun May R stands last present policy pid turns before now start seen refused answer → IsRun May R' begun last present policy pid turns before now start seen refused answer
  run-of answer h = record {
    choices = h.choices;
    wire = h.wire;
    marks = h.marks;
    log = h.log;
    forwarder = let f = h.forwarder in record {
      more = f.more;
      more_asks = f.more_asks;
      house = f.house;
      asked = f.asked;
      asks_on = f.asks_on;
      house_whole = f.house_whole;
      asks_whole = f.asks_whole;
      handed = λ e calls b. f.handed e calls (stood calls b);
      rested = rested R R' rests (by_lists policy pid h.choices.picks h.choices.replies) before h.wire.journal f.rested;
      absent = f.absent;
    };
    ends = h.ends;
  }

module _ {T : Type 0} (state : T → HouseState) (present : Bool) (first : T) (starts : Starts) (begun : (state first).stands (Begins starts ∷ [])) (May : HouseReply → Type 0) (last : HouseState) (policy : Policy) (pid turns : ℕ) (before now : Option (List HouseMark)) (start : Option (List Mark)) (seen : Seen) (refused : Option ℕ) where
  abbrev First : Resting
  First = RestsOf state present first

  abbrev Second : Resting
  Second = BegunRests state present starts

  at-rest : (want : Want) (now : Option (List HouseMark)) (calls : List HouseCall) (ls : List ℕ) (os : List OwnStream) (ws us : List ℕ) → First.rests want now calls ls os ws us → Second.rests want now calls ls os ws us
  at-rest want now calls ls os ws us h = λ p. let r = h p in let x = r.1 in (r.0, (x.0, x.1, x.2 (Begins starts ∷ []) begun, x.3, x.4))

  stood-for : (calls : List HouseCall) → BeganWith starts calls → (state first).stands calls
  stood-for calls e = subst (state first).stands (sym e) begun

  shared-begun : (result : Result Status Ending) → IsShared May First (state first).stands last policy pid turns before now start seen refused result → IsShared May Second (BeganWith starts) last policy pid turns before now start seen refused result
  shared-begun result h = record {
    answer = h.answer;
    is_recorded = h.is_recorded;
    run = run-of May First.rests Second.rests (state first).stands (BeganWith starts) last present policy pid turns before now start seen refused at-rest stood-for h.answer h.run;
  }

  pub shares-begun : (result : Result Status Ending) → Shares May First (state first).stands last policy pid turns before now start seen refused result → Shares May Second (BeganWith starts) last policy pid turns before now start seen refused result
  shares-begun (Err endings.NotOpened) h = h
  shares-begun (Err endings.NoMemory) (inl h) = inl h
  shares-begun (Err endings.NoMemory) (inr h) = inr (shared-begun (Err endings.NoMemory) h)
  shares-begun result h = shared-begun result h

-- ---- ExitOnForwardFailure

-- a forwarder that was begun as the settings specify
pub musts-begun : (status : Status) (due must : Bool) → must ≡ due → MustsAs status (Some due) must
musts-begun statuses.Memory due must e = tt
musts-begun status due must e = e

pub musts-recorded : (recorded : Option Recorded) (settings : List Given) (status : Status) (must : Bool) → SettledFor recorded settings → MustsAs status (Some (is_set (first_value ExitOnForwardFailure settings))) must → MustsAs status (must_for recorded) must
musts-recorded None settings statuses.Memory must s h = tt
musts-recorded None settings status must s h = tt
musts-recorded (Some recorded) settings status must s h = subst (λ x. MustsAs status (Some x) must) (ap is_set (same-first (all_rows recorded) settings s ExitOnForwardFailure)) h
