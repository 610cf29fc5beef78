-- From how a talk came out, and the line that was written of it, to how a client ended.
use Rattle.std.proofs.Common.{◌≡◌, ◌⊎◌, ◌&&◌, ◌||◌, inl, inr, ℕ, Bool, true, false, List, Option, Some, None, Result, Ok, Err, refl, sym, ap, subst}
use Rattle.std.specs.Bool.{OnFalse, OnTrue}
use Rattle.conf_rules.specs.declared.causes.ResolveError.{ResolveError}
use Rattle.conf_rules.specs.Diagnostics.{Ending}
use Rattle.conf_rules.specs.CommandOutcome.{Ends, Writes, Opens, Drills, Joins}
use Rattle.conf_rules.specs.Texts.{Bytes}
use Rattle.mux_client.specs.declared.asks.Asks.{Asks}
use Rattle.mux_client.specs.declared.talked.Talked.{Talked}
use Rattle.mux_client.specs.declared.talked.Talked.TheVariants as talks
use Rattle.mux_outside.specs.declared.mark.Mark.{Mark}
use Rattle.mux_outside.specs.Faults.{Faults}
use Rattle.mux_outside.specs.CallCounts.{CallCounts}
use Rattle.ssh_mux.specs.declared.ending.Ending.{Ending as MeantEnding}
use Rattle.ssh_mux.specs.declared.ending.Ending.TheVariants as endings
use Rattle.ssh_mux.specs.declared.status.Status.{Status}
use Rattle.ssh_mux.specs.declared.status.Status.TheVariants as statuses
use Rattle.ssh_mux.specs.Answers.{may_have_joined, may_open_wire, may_show, may_write, reaches}
use Rattle.ssh_mux.specs.Client.{ProgramAnswers, AnswersBy, Converses, ConversesBy, ConversesFor, IsTalkAnswered, IsTalkAsked, IsUnasked, JoinsOnce, TalksFor, client_asks_in, ends_asking, talk_recorded}
use Rattle.ssh_mux.specs.Ending.{ending_shown}
use Rattle.ssh_mux.specs.Err.{Reports}
use Rattle.ssh_mux.specs.Outcomes.{KnownCommand, Certain, Client, Listing, Master, may_ask_master, drills, opens}
use Rattle.ssh_mux.specs.Sharing.{RecordsEnd, WireCause}
use Rattle.ssh_mux.specs.Status.{status_of}
use Rattle.ssh_mux.proofs.EndLemmas.{carried, on-memory, reported}

-- ---- the joining

unjoined : (k : KnownCommand) (status : Status) (before now : Option (List Bytes)) → JoinsOnce k status before now → JoinsOnce k statuses.Memory before now
unjoined (Certain (Joins control asked what)) statuses.Memory before now h = h
unjoined (Certain (Joins control asked what)) statuses.Config before now h = inl h
unjoined (Certain (Joins control asked what)) statuses.Outside before now h = inl h
unjoined (Certain (Joins control asked what)) status before now h = inr h
unjoined (Client asked what) statuses.Memory before now h = h
unjoined (Client asked what) statuses.Config before now h = inl h
unjoined (Client asked what) statuses.Outside before now h = inl h
unjoined (Client asked what) status before now h = inr h
unjoined (Certain (Ends ending)) status before now h = h
unjoined (Certain (Writes text)) status before now h = h
unjoined (Certain (Drills seed clients messages)) status before now h = h
unjoined (Certain (Opens control transport ps)) status before now h = h
unjoined Listing status before now h = h
unjoined (Master transport ps) status before now h = h

pub joined_after : (k : KnownCommand) (status : Status) (ending : Ending) (b n : Option (List ℕ)) (f f' : ℕ) (before now : Option (List Bytes)) → Reports status ending b n f f' → JoinsOnce k (status_of ending) before now → JoinsOnce k status before now
joined_after k status ending b n f f' before now r h = carried (λ s. JoinsOnce k s before now) status ending (reported status ending b n f f' r) (unjoined k (status_of ending) before now h) h

-- ---- counts

pub asked_cause_after : (k : KnownCommand) (status : Status) (ending : Ending) (b n : Option (List ℕ)) (f f' : ℕ) (w w' : Faults) → Reports status ending b n f f' → OnTrue (may_have_joined k (status_of ending)) (WireCause (status_of ending) w w') → OnTrue (may_have_joined k status) (WireCause status w w')
asked_cause_after k status ending b n f f' w w' r h = carried (λ x. OnTrue (may_have_joined k x) (WireCause x w w')) status ending (reported status ending b n f f' r) (on-memory (may_ask_master k)) h

pub asked_waits_after : (k : KnownCommand) (turns : ℕ) (status : Status) (ending : Ending) (b n : Option (List ℕ)) (f f' : ℕ) (old calls : CallCounts) → Reports status ending b n f f' → OnTrue (may_have_joined k (status_of ending)) (TalksFor turns (status_of ending) old calls) → OnTrue (may_have_joined k status) (TalksFor turns status old calls)
asked_waits_after k turns status ending b n f f' old calls r h = carried (λ x. OnTrue (may_have_joined k x) (TalksFor turns x old calls)) status ending (reported status ending b n f f' r) (on-memory (may_ask_master k)) h

-- ---- the talk

-- where nothing may have been opened nothing is written
closed : (status : Status) → may_open_wire status ≡ false → may_write status ≡ false
closed statuses.Usage e = refl
closed statuses.Config e = refl
closed statuses.Outside e = refl
closed statuses.Done e = absurd cc
closed statuses.Write e = absurd cc
closed statuses.Open e = absurd cc
closed statuses.Transport e = absurd cc
closed statuses.Broke e = absurd cc
closed statuses.Spent e = absurd cc
closed statuses.Memory e = absurd cc
closed statuses.StartRefused e = absurd cc
closed statuses.Refused e = absurd cc
closed statuses.BadMaster e = absurd cc

module _ (start recorded : Option (List Mark)) (out out' : Option (List ℕ)) (b n : Option (List ℕ)) (f f' : ℕ) where
  -- an end with the line that was handed over
  with-line : (what : Asks) (meant : MeantEnding) (status : Status) → IsTalkAsked what start recorded out out' (Err meant) → Reports status (ending_shown meant) b n f f' → IsTalkAnswered what start recorded out out' status b n f f'
  with-line what meant status h r = record { answer = h.answer; talks = h.talks; shows = h.shows; line = subst (λ x. RecordsEnd x status b n f f') h.is_recorded r }

  memory-answers : (what : Asks) (meant : MeantEnding) → Converses what start recorded out out' (Err meant) → Reports statuses.Memory (ending_shown meant) b n f f' → ProgramAnswers what start recorded out out' statuses.Memory b n f f'
  memory-answers what endings.NotOpened h r = inl h
  memory-answers what endings.NoMemory (inl h) r = inl h
  memory-answers what endings.NoMemory (inr h) r = inr (with-line what endings.NoMemory statuses.Memory h r)
  memory-answers what meant h r = inr (with-line what meant statuses.Memory h r)

  -- no talk ends as words and configurations do, nor as a master
  none-ends : (what : Asks) (meant : MeantEnding) → ends_asking meant ≡ false → IsTalkAsked what start recorded out out' (Err meant) → ⊥
  none-ends what meant e h = by_end h.answer h.is_recorded
    where
      by_end : (x : Talked) → Err meant ≡ talk_recorded x → ⊥
      by_end talks.Done t = absurd cc
      by_end talks.WriteFault t = absurd cc
      by_end (talks.Refused id) t = let m : meant ≡ endings.MasterRefused = cc in let z : ends_asking meant ≡ true = ap ends_asking m in absurd cc
      by_end (talks.BadMaster at) t = let m : meant ≡ endings.MasterBroke = cc in let z : ends_asking meant ≡ true = ap ends_asking m in absurd cc
      by_end talks.ServerFailed t = let m : meant ≡ endings.TransportFailed = cc in let z : ends_asking meant ≡ true = ap ends_asking m in absurd cc
      by_end talks.Spent t = let m : meant ≡ endings.TurnsSpent = cc in let z : ends_asking meant ≡ true = ap ends_asking m in absurd cc
      by_end talks.OutOfMemory t = let m : meant ≡ endings.NoMemory = cc in let z : ends_asking meant ≡ true = ap ends_asking m in absurd cc

  own-answers : (what : Asks) (meant : MeantEnding) → Converses what start recorded out out' (Err meant) → Reports (status_of (ending_shown meant)) (ending_shown meant) b n f f' → ProgramAnswers what start recorded out out' (status_of (ending_shown meant)) b n f f'
  own-answers what endings.NotOpened h r = h
  own-answers what endings.NoMemory h r = memory-answers what endings.NoMemory h r
  own-answers what endings.TransportFailed h r = with-line what endings.TransportFailed statuses.Transport h r
  own-answers what endings.TurnsSpent h r = with-line what endings.TurnsSpent statuses.Spent h r
  own-answers what endings.MasterRefused h r = with-line what endings.MasterRefused statuses.Refused h r
  own-answers what endings.MasterBroke h r = with-line what endings.MasterBroke statuses.BadMaster h r
  own-answers what endings.StartRefused h r = absurd (none-ends what endings.StartRefused refl h)
  own-answers what (endings.ServerBroke index why) h r = absurd (none-ends what (endings.ServerBroke index why) refl h)
  own-answers what (endings.BadWords e) h r = absurd (none-ends what (endings.BadWords e) refl h)
  own-answers what (endings.BadLine file line cause) h r = absurd (none-ends what (endings.BadLine file line cause) refl h)
  own-answers what (endings.BadListing key error) h r = absurd (none-ends what (endings.BadListing key error) refl h)
  own-answers what endings.NoControlPath h r = absurd (none-ends what endings.NoControlPath refl h)

  abbrev Reading : Type 0
  Reading = Option (Result Asks ResolveError)

  memory-by : (x : Reading) (meant : MeantEnding) → ConversesBy x start recorded out out' (Err meant) → Reports statuses.Memory (ending_shown meant) b n f f' → AnswersBy x start recorded out out' statuses.Memory b n f f'
  memory-by None meant h r = tt
  memory-by (Some (Ok what)) meant h r = memory-answers what meant h r
  memory-by (Some (Err e)) meant h r = h

  own-by : (x : Reading) (meant : MeantEnding) → ConversesBy x start recorded out out' (Err meant) → Reports (status_of (ending_shown meant)) (ending_shown meant) b n f f' → AnswersBy x start recorded out out' (status_of (ending_shown meant)) b n f f'
  own-by None meant h r = tt
  own-by (Some (Ok what)) meant h r = own-answers what meant h r
  own-by (Some (Err e)) meant h r = h

  untold-by : (x : Reading) → IsUnasked start recorded out out' → AnswersBy x start recorded out out' statuses.Memory b n f f'
  untold-by None h = tt
  untold-by (Some (Ok what)) h = inl h
  untold-by (Some (Err e)) h = h

  -- over a wire that wasn't joined no client was asked
  memory-asks : (opened touched asking written : Bool) (x : Reading) (meant : MeantEnding) → (opened ≡ false → written ≡ false) → OnTrue (opened && asking) (ConversesBy x start recorded out out' (Err meant)) → OnFalse ((opened && touched) || (opened && asking)) (recorded ≡ start) → OnFalse (written || (opened && asking)) (out' ≡ out) → Reports statuses.Memory (ending_shown meant) b n f f' → OnTrue asking (AnswersBy x start recorded out out' statuses.Memory b n f f')
  memory-asks opened touched false written x meant q h w o r = tt
  memory-asks true touched true written x meant q h w o r = memory-by x meant h r
  memory-asks false touched true written x meant q h w o r = untold-by x (record { same_wire = w; same_out = subst (λ y. OnFalse (y || false) (out' ≡ out)) (q refl) o })

  own-asks : (asking : Bool) (x : Reading) (meant : MeantEnding) → OnTrue asking (ConversesBy x start recorded out out' (Err meant)) → Reports (status_of (ending_shown meant)) (ending_shown meant) b n f f' → OnTrue asking (AnswersBy x start recorded out out' (status_of (ending_shown meant)) b n f f')
  own-asks false x meant h r = tt
  own-asks true x meant h r = own-by x meant h r

  abbrev Answered : KnownCommand → Status → Type 0
  Answered k status = OnTrue (may_have_joined k status) (AnswersBy (client_asks_in k) start recorded out out' status b n f f')

  asked-by : (k : KnownCommand) (status : Status) (meant : MeantEnding) → (status ≡ statuses.Memory) ⊎ (status ≡ status_of (ending_shown meant)) → Reports status (ending_shown meant) b n f f' → ConversesFor k start recorded out out' (Err meant) → OnFalse (reaches k (status_of (ending_shown meant))) (recorded ≡ start) → OnFalse (may_show k (status_of (ending_shown meant))) (out' ≡ out) → Answered k status
  asked-by k status meant (inl e) r h w o = subst (λ s. Answered k s) (sym e) (memory-asks (may_open_wire (status_of (ending_shown meant))) (opens k || drills k) (may_ask_master k) (may_write (status_of (ending_shown meant))) (client_asks_in k) meant (closed (status_of (ending_shown meant))) h w o (subst (λ s. Reports s (ending_shown meant) b n f f') e r))
  asked-by k status meant (inr e) r h w o = subst (λ s. Answered k s) (sym e) (own-asks (may_have_joined k (status_of (ending_shown meant))) (client_asks_in k) meant h (subst (λ s. Reports s (ending_shown meant) b n f f') e r))

  pub asked_after : (k : KnownCommand) (status : Status) (meant : MeantEnding) → Reports status (ending_shown meant) b n f f' → ConversesFor k start recorded out out' (Err meant) → OnFalse (reaches k (status_of (ending_shown meant))) (recorded ≡ start) → OnFalse (may_show k (status_of (ending_shown meant))) (out' ≡ out) → Answered k status
  asked_after k status meant r h w o = asked-by k status meant (reported status (ending_shown meant) b n f f' r) r h w o

-- ---- an end without a line

silent-is : (status : Status) (x : Talked) → Ok status ≡ talk_recorded x → (status ≡ statuses.Done) ⊎ (status ≡ statuses.Write)
silent-is status talks.Done t = inl cc
silent-is status talks.WriteFault t = inr cc
silent-is status (talks.Refused id) t = absurd cc
silent-is status (talks.BadMaster at) t = absurd cc
silent-is status talks.ServerFailed t = absurd cc
silent-is status talks.Spent t = absurd cc
silent-is status talks.OutOfMemory t = absurd cc

module _ (start recorded : Option (List Mark)) (out out' : Option (List ℕ)) (b : Option (List ℕ)) (f : ℕ) where
  well-answered : (what : Asks) (status : Status) → IsTalkAsked what start recorded out out' (Ok status) → IsTalkAnswered what start recorded out out' status b b f f
  well-answered what status h = record { answer = h.answer; talks = h.talks; shows = h.shows; line = subst (λ x. RecordsEnd x status b b f f) h.is_recorded (refl, refl) }

  well-answers : (what : Asks) (status : Status) → IsTalkAsked what start recorded out out' (Ok status) → ProgramAnswers what start recorded out out' status b b f f
  well-answers what status h = by_status (silent-is status h.answer h.is_recorded)
    where
      by_status : (status ≡ statuses.Done) ⊎ (status ≡ statuses.Write) → ProgramAnswers what start recorded out out' status b b f f
      by_status (inl e) = subst (λ s. IsTalkAsked what start recorded out out' (Ok s) → ProgramAnswers what start recorded out out' s b b f f) (sym e) (λ g. well-answered what statuses.Done g) h
      by_status (inr e) = subst (λ s. IsTalkAsked what start recorded out out' (Ok s) → ProgramAnswers what start recorded out out' s b b f f) (sym e) (λ g. well-answered what statuses.Write g) h

  well-by : (x : Option (Result Asks ResolveError)) (status : Status) → ConversesBy x start recorded out out' (Ok status) → AnswersBy x start recorded out out' status b b f f
  well-by None status h = tt
  well-by (Some (Ok what)) status h = well-answers what status h
  well-by (Some (Err e)) status h = h

  well-on : (asking : Bool) (x : Option (Result Asks ResolveError)) (status : Status) → OnTrue asking (ConversesBy x start recorded out out' (Ok status)) → OnTrue asking (AnswersBy x start recorded out out' status b b f f)
  well-on false x status h = tt
  well-on true x status h = well-by x status h

  pub asked_well : (k : KnownCommand) (status : Status) → ConversesFor k start recorded out out' (Ok status) → OnTrue (may_have_joined k status) (AnswersBy (client_asks_in k) start recorded out out' status b b f f)
  asked_well k status h = well-on (may_have_joined k status) (client_asks_in k) status h
