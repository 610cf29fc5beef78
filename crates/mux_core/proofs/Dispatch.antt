-- What a client sends, by its message.
use Rattle.std.proofs.Common.{◌≡◌, ◌<◌, ℕ, List, [], ◌∷◌, true, false, Bool, refl, ◌∙◌, ap, sym, subst, Some, None, Ok, Result, Err, IfOk, zero, suc, slice_index_or}
use Rattle.std.specs.Prelude.{◌==◌, is_some}
use Rattle.mux_history.specs.Requests.{wanted_in}
use Rattle.mux_history.proofs.Readings.{reading-ok}
use Rattle.std.proofs.Common.{arith}
use Rattle.std.proofs.lemmas.Bool.Decides.{nat_tests}
use Rattle.ssh_fields.specs.declared.out_of_memory.OutOfMemory.{OutOfMemory}
use Rattle.ssh_fields.specs.Fields.{AreBytes}
use Rattle.ssh_grammar.specs.declared.fault.Bad.{Bad}
use Rattle.ssh_grammar.specs.Messages.{Opens}
use Rattle.ssh_grammar.specs.declared.fault.Bad.{Bad}
use Rattle.proxy_frames.specs.State.{QueueState}
use Rattle.mux_history.specs.declared.why.Why.{Why}
use Rattle.mux_history.specs.declared.why.Why.TheVariants as why
use Rattle.mux_history.specs.Summary.{Summary, Open, Refuses, Succeeds, Transport, read_summary}
use Rattle.mux_history.specs.Rows.{Row, rows_of}
use Rattle.mux_history.specs.Said.{Outcome, drops, sent_summary, sent_payload, silent}
use Rattle.mux_core.specs.declared.verdict.Verdict.{Verdict}
use Rattle.mux_core.specs.declared.verdict.Verdict.TheVariants as verdict
use Rattle.mux_core.specs.State.{CoreState, is_member_served}
use Rattle.mux_core.specs.Stands.{CoreRepresents, TableFits, look}
use Rattle.mux_core.specs.Opening.{open_verdict}
use Rattle.mux_core.specs.Calls.{SendsAs, CoreSendsIn, CoreSendsOn, SendsRow, SendsSome, StartsOn}
use Rattle.mux_history.specs.Channels.{held_of}
use Rattle.mux_core.proofs.OpensJudged.{judged}
use Rattle.mux_core.proofs.Says.{AsksNothing, quiet-says, sent_as, same-queue, takes-unsent, records-own, unsent-held}
use Rattle.mux_core.proofs.SendsWithin.{dropped-row, said-ok}
use Rattle.mux_core.proofs.Served.{quiet-stands, served}

pub on-all : (old new : CoreState) (k : ℕ) (p : List ℕ) (m : Summary) (up up' : QueueState) (r : Result Verdict OutOfMemory) → read_summary p ≡ Ok m → IfOk r (λ v. SendsAs old new k p m 0 up up' v) → IfOk r (λ v. CoreSendsOn old new k p up up' v)
on-all old new k p m up up' (Ok v) e says = record { pick = 0; goes = λ rows st serves. says rows st serves e }
on-all old new k p m up up' (Err x) e says = says

pub on-some : (old new : CoreState) (k : ℕ) (p : List ℕ) (m : Summary) (up up' : QueueState) (r : Result Verdict OutOfMemory) → read_summary p ≡ Ok m → IfOk r (λ v. SendsSome old new k p m up up' v) → IfOk r (λ v. CoreSendsOn old new k p up up' v)
on-some old new k p m up up' (Ok v) e says = record { pick = says.pick; goes = λ rows st serves. says.goes rows st serves e }
on-some old new k p m up up' (Err x) e says = says

pub on-open : (old new : CoreState) (k : ℕ) (p : List ℕ) (what : Opens) (c w m : ℕ) (up up' : QueueState) (r : Result Verdict OutOfMemory) → read_summary p ≡ Ok (Open what c w m) → open_verdict old k c what ≡ None → IfOk r (λ v. StartsOn old new k p c w m up up' v) → IfOk r (λ v. CoreSendsOn old new k p up up' v)
on-open old new k p what c w m up up' (Ok v) e judges says = record { pick = says.pick; goes = λ rows st serves. says.goes what judges rows st serves e }
on-open old new k p what c w m up up' (Err x) e judges says = says

pub on-judged : (s : CoreState) (k : ℕ) (p : List ℕ) (what : Opens) (c w m : ℕ) (up : QueueState) (v : Verdict) → read_summary p ≡ Ok (Open what c w m) → open_verdict s k c what ≡ Some v → CoreSendsOn s s k p up up v
on-judged s k p what c w m up v e judges = record { pick = 0; goes = λ rows st serves. judged s k c w m what p up v rows st serves e judges }

-- ---- messages that only drop, or do nothing

drops-all : (s : CoreState) (k : ℕ) (p : List ℕ) (up : QueueState) (m : Summary) (cause : Why) → read_summary p ≡ Ok m → ((rows : List Row) → sent_summary s.policy k (rows_of k rows) 0 p m ≡ drops cause) → CoreSendsOn s s k p up up (verdict.Drop cause)
drops-all s k p up m cause e each = record { pick = 0; goes = λ rows st serves. dropped-row s k 0 p up cause rows (said-ok s.policy k 0 (rows_of k rows) p m e ∙ each rows) }

pub on-bad : (s : CoreState) (k : ℕ) (p : List ℕ) (up : QueueState) (bad : Bad) → read_summary p ≡ Err bad → CoreSendsOn s s k p up up (verdict.Drop (why.BadMessage bad))
on-bad s k p up bad e = record { pick = 0; goes = λ rows st serves. dropped-row s k 0 p up (why.BadMessage bad) rows (rw (e, sent_payload) refl) }

pub on-success : (s : CoreState) (k : ℕ) (p rest : List ℕ) (up : QueueState) → read_summary p ≡ Ok (Succeeds rest) → CoreSendsOn s s k p up up (verdict.Drop (why.Unasked 81))
on-success s k p rest up e = drops-all s k p up (Succeeds rest) (why.Unasked 81) e (λ rows. refl)

pub on-refusal : (s : CoreState) (k : ℕ) (p : List ℕ) (up : QueueState) → read_summary p ≡ Ok Refuses → CoreSendsOn s s k p up up (verdict.Drop (why.Unasked 82))
on-refusal s k p up e = drops-all s k p up Refuses (why.Unasked 82) e (λ rows. refl)

pub on-other : (s : CoreState) (k n : ℕ) (p : List ℕ) (up : QueueState) → (n == 1) ≡ false → read_summary p ≡ Ok (Transport n) → CoreSendsOn s s k p up up verdict.Silent
on-other s k n p up other e = record { pick = 0; goes = one }
  where
    nothing : AsksNothing (Transport n)
    nothing = record { wants = refl; requests = λ k place fs. refl }

    one : (rows : List Row) → CoreRepresents s rows → is_member_served s.clients k ≡ true → CoreSendsIn s s k p 0 up up verdict.Silent rows
    one rows st serves =
        let q = quiet-says k p (Transport n) silent e nothing refl in
        let does : sent_payload s.policy k (rows_of k rows) 0 p ≡ silent = said-ok s.policy k 0 (rows_of k rows) p (Transport n) e ∙ ap (λ (b : Bool). elim b as (λ _. Outcome) [ true ↦ drops why.Disconnected | false ↦ silent ]) other in
        let channels : TableFits s.channels (held_of (sent_as k p silent ∷ rows)) = subst (TableFits s.channels) (sym (unsent-held k p silent rows refl)) st.channels in
        subst (λ o. SendsRow s s (sent_as k p o) 0 up up verdict.Silent rows) (sym does) (record {
          sent = same-queue up;
          shows = (refl, refl, records-own (sent_as k p silent) q (rows_of k rows), ap is_some (reading-ok p (Transport n) wanted_in None e));
          fresh = λ h. absurd (let d = sym h ∙ takes-unsent k p silent refl in cc);
          stands = quiet-stands s s.channels (sent_as k p silent) rows st q (served (look rows) k s.clients st.clients.each serves) channels st.known.channels;
        })

-- ---- bytes

pub are-bytes : (p : List ℕ) → ((i : ℕ) → slice_index_or p i 0 < 256) → AreBytes p
are-bytes [] each = tt
are-bytes (b ∷ bs) each = (each zero, are-bytes bs (λ i. each (suc i)))

pub not-one : (n : ℕ) → (n ≡ 1 → ⊥) → (n == 1) ≡ false
not-one n h = grind (arith, nat_tests)
