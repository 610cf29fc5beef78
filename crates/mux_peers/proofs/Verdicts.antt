-- The verdicts on a client's payload.
use Rattle.std.proofs.Common.{◌≡◌, ◌<◌, ◌≤◌, ◌^◌, ℕ, Bool, true, false, ◌&&◌, List, [], ◌∷◌, ◌++◌, length, Option, Some, None, Ok, Err, Result, refl, sym, ap, ◌∙◌, subst, append-nil, arith, inl, inr, ◌⊎◌}
use Rattle.std.specs.Prelude.{is_some}
use Rattle.ssh_fields.specs.Fields.{AreBytes, u32, u32_at}
use Rattle.ssh_grammar.specs.declared.fault.Bad.{Bad}
use Rattle.ssh_grammar.specs.Frames.{frame_payload}
use Rattle.ssh_grammar.proofs.Renumbered.{u32_at-between}
use Rattle.proxy_frames.specs.State.{QueueState}
use Rattle.mux_history.specs.declared.limits.TheConstants.{NUMBERS_END}
use Rattle.mux_history.specs.declared.why.Why.{Why}
use Rattle.mux_history.specs.declared.why.Why.TheVariants as why
use Rattle.mux_history.specs.Summary.{Summary, read_summary, summary_sender_of}
use Rattle.mux_history.specs.Rows.{Row, rows_of}
use Rattle.mux_history.specs.Channels.{holder, own_number_of}
use Rattle.mux_history.specs.Choices.{sent_number, takes_number}
use Rattle.mux_history.specs.Pending.{joined}
use Rattle.mux_history.specs.Policy.{Policy}
use Rattle.mux_history.specs.Right.{carried_number}
use Rattle.mux_history.specs.Said.{Outcome, drops, sent_summary, sent_payload}
use Rattle.mux_history.specs.Treat.{bare_row, frames_that_fit, overflow}
use Rattle.mux_history.proofs.Readings.{reading-ok}
use Rattle.mux_history.proofs.Renumbered.{number-sent, sender-in, word}
use Rattle.mux_history.proofs.Sends.{Sent, sent-by}
use Rattle.mux_core.specs.declared.verdict.Verdict.{Verdict}
use Rattle.mux_core.specs.declared.verdict.Verdict.TheVariants as verdict
use Rattle.mux_core.specs.State.{CoreState}
use Rattle.mux_core.specs.Calls.{IsFreshNumber, LeavesRecorded, LeavesUnsent, CoreSendsIn, CoreSendsOn, row_sent}
use Rattle.mux_peers.specs.declared.standing.Standing.{Standing}
use Rattle.mux_peers.specs.declared.standing.Standing.TheVariants.{Awaited, Greeted, Proxied, Unread, Lost}
use Rattle.mux_peers.specs.State.{PeerState, part, KeepsRoom}
use Rattle.mux_peers.specs.Says.{SendsPayload}
use Rattle.mux_peers.proofs.Saids.{Answered, Before, FreshBy, picked_if, said, said-drops, said-full, said-on, served-before}

-- ---- the number that is carried

abbrev sends_some : List (List ℕ) → Bool
sends_some [] = false
sends_some (p ∷ ps) = true

word-same : (n : ℕ) → n < 2 ^ 32 → word n ≡ n
word-same n below = ap (u32_at 0) (sym (append-nil (u32 n))) ∙ u32_at-between [] [] n 0 refl below

carries-sent : (own : List Row) (pick : ℕ) (p : List ℕ) (m : Summary) (ups : List (List ℕ)) → AreBytes p → read_summary p ≡ Ok m → Sent own pick p m ups → (sends_some ups && is_some (summary_sender_of m)) ≡ true → carried_number ups ≡ word pick
carries-sent own pick p m ups bytes reads (inl none) h = absurd (let d : false ≡ true = sym (ap (λ (us : List (List ℕ)). sends_some us && is_some (summary_sender_of m)) none) ∙ h in cc)
carries-sent own pick p m ups bytes reads (inr (inl plain)) h = absurd (let d : false ≡ true = sym (ap (λ (us : List (List ℕ)). sends_some us && is_some (summary_sender_of m)) plain.up ∙ ap is_some plain.unowned) ∙ h in cc)
carries-sent own pick p m ups bytes reads (inr (inr new)) h = ap carried_number new.up ∙ ap sent_number (number-sent p m (sender-in p m new.c bytes reads new.owned) pick)

carries : (policy : Policy) (k : ℕ) (own : List Row) (pick : ℕ) (p : List ℕ) → AreBytes p → takes_number (bare_row (said k p) k (sent_payload policy k own pick p)) ≡ true → carried_number (sent_payload policy k own pick p).sent ≡ word pick
carries policy k own pick p bytes takes = by_read (read_summary p) refl
  where
    by_read : (r : Result Summary Bad) → read_summary p ≡ r → carried_number (sent_payload policy k own pick p).sent ≡ word pick
    by_read (Err bad) e =
        let b : sent_payload policy k own pick p ≡ drops (why.BadMessage bad) = ap (λ (r : Result Summary Bad). elim r as (λ _. Outcome) [ Err bad ↦ drops (why.BadMessage bad) | Ok m ↦ sent_summary policy k own pick p m ]) e in
        absurd (let d : false ≡ true = sym (ap (λ (o : Outcome). sends_some o.sent && is_some (own_number_of (said k p))) b) ∙ takes in cc)
    by_read (Ok m) e =
        let b : sent_payload policy k own pick p ≡ sent_summary policy k own pick p m = ap (λ (r : Result Summary Bad). elim r as (λ _. Outcome) [ Err bad ↦ drops (why.BadMessage bad) | Ok m ↦ sent_summary policy k own pick p m ]) e in
        let t : (sends_some (sent_summary policy k own pick p m).sent && is_some (summary_sender_of m)) ≡ true =
        sym (ap (λ (o : Outcome). sends_some o.sent && is_some (own_number_of (said k p))) b ∙ ap (λ (c : Option ℕ). sends_some (sent_summary policy k own pick p m).sent && is_some c) (reading-ok p m summary_sender_of None e)) ∙ takes in
        ap (λ (o : Outcome). carried_number o.sent) b ∙ carries-sent own pick p m (sent_summary policy k own pick p m).sent bytes e (sent-by policy k own pick p m) t

fresh-carried : (policy : Policy) (k : ℕ) (own : List Row) (pick : ℕ) (p : List ℕ) (rows : List Row) (tk : Bool) → takes_number (bare_row (said k p) k (sent_payload policy k own pick p)) ≡ tk
    → (takes_number (bare_row (said k p) k (sent_payload policy k own pick p)) ≡ true → IsFreshNumber rows pick) → FreshBy tk p rows (sent_payload policy k own pick p).sent
fresh-carried policy k own pick p rows tk e fresh bytes t =
    let f : IsFreshNumber rows pick = fresh (e ∙ t) in
    let below : pick < 16384 = f.below in
    let same : carried_number (sent_payload policy k own pick p).sent ≡ pick = carries policy k own pick p bytes (e ∙ t) ∙ word-same pick (omega arith) in
    (subst (λ n. n < NUMBERS_END) (sym same) f.below, subst (λ n. holder rows n ≡ None) (sym same) f.unheld)

-- ---- whether a number is used, by the verdict

abbrev pub takes_by : Verdict → List ℕ → Bool
takes_by verdict.Sent p = is_some (own_number_of (said 0 p))
takes_by v p = false

unsent : (k : ℕ) (p : List ℕ) (o : Outcome) → o.sent ≡ [] → takes_number (bare_row (said k p) k o) ≡ false
unsent k p o e = ap (λ (ups : List (List ℕ)). sends_some ups && is_some (own_number_of (said k p))) e

takes-shown : (v : Verdict) (old new : CoreState) (k : ℕ) (p : List ℕ) (pick : ℕ) (up up' : QueueState) (rows : List Row) → CoreSendsIn old new k p pick up up' v rows → takes_number (row_sent old k p pick rows) ≡ takes_by v p
takes-shown verdict.Sent old new k p pick up up' rows s = ap (λ b. b && is_some (own_number_of (said k p))) s.shows.1
takes-shown (verdict.Answer a) old new k p pick up up' rows s = unsent k p (sent_payload old.policy k (rows_of k rows) pick p) s.shows.1
takes-shown verdict.Held old new k p pick up up' rows s = unsent k p (sent_payload old.policy k (rows_of k rows) pick p) s.shows.1
takes-shown verdict.Silent old new k p pick up up' rows s = unsent k p (sent_payload old.policy k (rows_of k rows) pick p) s.shows.1
takes-shown (verdict.Drop cause) old new k p pick up up' rows s = unsent k p (sent_payload old.policy k (rows_of k rows) pick p) s.shows.1

answered-by : (v : Verdict) (old new : CoreState) (k : ℕ) (p : List ℕ) (pick : ℕ) (up up' : QueueState) (rows : List Row) → CoreSendsIn old new k p pick up up' v rows → Answered old k p pick (takes_by v p) up up' rows
answered-by v old new k p pick up up' rows s =
    let takes = takes-shown v old new k p pick up up' rows s in
    record { sent = s.sent; takes = takes; fresh = fresh-carried old.policy k (rows_of k rows) pick p rows (takes_by v p) takes s.fresh }

-- ---- each verdict

abbrev pub IsQuiet : Verdict → Type 0
IsQuiet verdict.Sent = Unit {0}
IsQuiet (verdict.Answer a) = ⊥
IsQuiet verdict.Held = Unit {0}
IsQuiet verdict.Silent = Unit {0}
IsQuiet (verdict.Drop cause) = ⊥

in-row : (core0 core1 : CoreState) (peer : PeerState) (p : List ℕ) (up up1 : QueueState) (v : Verdict) (rows : List Row) → Before core0 peer up rows → (s : CoreSendsOn core0 core1 peer.number p up up1 v) → CoreSendsIn core0 core1 peer.number p s.pick up up1 v rows
in-row core0 core1 peer p up up1 v rows b s = s.goes rows (b.fits.core b.live) (served-before core0 peer up rows b)

-- it is sent, or nothing is recorded now
pub says-quiet : (v : Verdict) (p : List ℕ) (core0 core1 : CoreState) (peer : PeerState) (up up1 : QueueState) → IsQuiet v → CoreSendsOn core0 core1 peer.number p up up1 v → SendsPayload p (part core0 peer up) (part core1 peer up1)
says-quiet (verdict.Answer a) p core0 core1 peer up up1 q s = absurd q
says-quiet (verdict.Drop cause) p core0 core1 peer up up1 q s = absurd q
says-quiet verdict.Sent p core0 core1 peer up up1 q s = record {
  picked = picked_if (takes_by verdict.Sent p) s.pick;
  goes = λ pid picks given rows fits live proxied next.
      let b : Before core0 peer up rows = record { fits = fits; live = live; proxied = proxied } in
      let r = in-row core0 core1 peer p up up1 verdict.Sent rows b s in
      said-on pid picks given p core0 core1 peer peer up up1 s.pick (takes_by verdict.Sent p) rows [] b (answered-by verdict.Sent core0 core1 peer.number p s.pick up up1 rows r) r.shows.0 r.shows.2 r.stands refl refl proxied (sym (append-nil peer.queue)) next;
}
says-quiet verdict.Held p core0 core1 peer up up1 q s = record {
  picked = [];
  goes = λ pid picks given rows fits live proxied next.
      let b : Before core0 peer up rows = record { fits = fits; live = live; proxied = proxied } in
      let r = in-row core0 core1 peer p up up1 verdict.Held rows b s in
      said-on pid picks given p core0 core1 peer peer up up1 s.pick false rows [] b (answered-by verdict.Held core0 core1 peer.number p s.pick up up1 rows r) r.shows.0 r.shows.2 r.stands refl refl proxied (sym (append-nil peer.queue)) next;
}
says-quiet verdict.Silent p core0 core1 peer up up1 q s = record {
  picked = [];
  goes = λ pid picks given rows fits live proxied next.
      let b : Before core0 peer up rows = record { fits = fits; live = live; proxied = proxied } in
      let r = in-row core0 core1 peer p up up1 verdict.Silent rows b s in
      said-on pid picks given p core0 core1 peer peer up up1 s.pick false rows [] b (answered-by verdict.Silent core0 core1 peer.number p s.pick up up1 rows r) r.shows.0 r.shows.2 r.stands refl refl proxied (sym (append-nil peer.queue)) next;
}

-- it is answered, and the answer fits
pub says-answer : (a p : List ℕ) (core0 core1 : CoreState) (peer peer' : PeerState) (up up1 : QueueState) → CoreSendsOn core0 core1 peer.number p up up1 (verdict.Answer a)
    → peer' ≡ record peer { queue = peer.queue ++ joined (frames_that_fit (length peer.queue) (frame_payload a ∷ [])) } → overflow (length peer.queue) (frame_payload a ∷ []) ≡ None
    → SendsPayload p (part core0 peer up) (part core1 peer' up1)
says-answer a p core0 core1 peer peer' up up1 s recorded fit =
    let fs : List (List ℕ) = frame_payload a ∷ [] in record {
      picked = [];
      goes = λ pid picks given rows fits live proxied next.
          let b : Before core0 peer up rows = record { fits = fits; live = live; proxied = proxied } in
          let r = in-row core0 core1 peer p up up1 (verdict.Answer a) rows b s in
          said-on pid picks given p core0 core1 peer peer' up up1 s.pick false rows fs b (answered-by (verdict.Answer a) core0 core1 peer.number p s.pick up up1 rows r) r.shows.0 r.shows.2 r.stands fit
          (ap (λ (t : PeerState). t.number) recorded) (ap (λ (t : PeerState). t.standing) recorded ∙ proxied)
          (ap (λ (t : PeerState). t.queue) recorded ∙ ap (λ gs. peer.queue ++ joined gs) (Rattle.mux_peers.proofs.RowForms.fits-all (length peer.queue) fs fit)) next;
    }

-- it is answered, and the answer doesn't fit
pub says-full : (a p : List ℕ) (cause : Why) (core0 core1 core2 : CoreState) (peer seat1 peer' : PeerState) (up up1 up2 : QueueState) → CoreSendsOn core0 core1 peer.number p up up1 (verdict.Answer a)
    → seat1 ≡ record peer { queue = peer.queue ++ joined (frames_that_fit (length peer.queue) (frame_payload a ∷ [])) } → overflow (length peer.queue) (frame_payload a ∷ []) ≡ Some cause
    → peer' ≡ record seat1 { standing = Lost (Some cause) } → LeavesRecorded core1 core2 seat1.number up1 up2
    → SendsPayload p (part core0 peer up) (part core2 peer' up2)
says-full a p cause core0 core1 core2 peer seat1 peer' up up1 up2 s recorded full left leaves =
    let fs : List (List ℕ) = frame_payload a ∷ [] in record {
      picked = [];
      goes = λ pid picks given rows fits live proxied next.
          let b : Before core0 peer up rows = record { fits = fits; live = live; proxied = proxied } in
          let r = in-row core0 core1 peer p up up1 (verdict.Answer a) rows b s in
          said-full pid picks given p core0 core1 core2 peer peer' up up1 up2 s.pick false rows fs cause b (answered-by (verdict.Answer a) core0 core1 peer.number p s.pick up up1 rows r) r.shows.0 r.shows.2 r.stands full
          (subst (λ k. LeavesRecorded core1 core2 k up1 up2) (ap (λ (t : PeerState). t.number) recorded) leaves)
          (ap (λ (t : PeerState). t.number) left ∙ ap (λ (t : PeerState). t.number) recorded) (ap (λ (t : PeerState). t.standing) left)
          (ap (λ (t : PeerState). t.queue) left ∙ ap (λ (t : PeerState). t.queue) recorded) next;
    }

-- it drops its client
pub says-drop : (p : List ℕ) (cause : Why) (core0 core1 core2 : CoreState) (peer peer' : PeerState) (up up1 up2 : QueueState) → CoreSendsOn core0 core1 peer.number p up up1 (verdict.Drop cause)
    → peer' ≡ record peer { standing = Lost (Some cause) } → LeavesUnsent core1 core2 peer.number up1 up2
    → SendsPayload p (part core0 peer up) (part core2 peer' up2)
says-drop p cause core0 core1 core2 peer peer' up up1 up2 s left leaves = record {
  picked = [];
  goes = λ pid picks given rows fits live proxied next.
      let b : Before core0 peer up rows = record { fits = fits; live = live; proxied = proxied } in
      let r = in-row core0 core1 peer p up up1 (verdict.Drop cause) rows b s in
      said-drops pid picks given p core0 core1 core2 peer peer' up up1 up2 s.pick false rows cause b (answered-by (verdict.Drop cause) core0 core1 peer.number p s.pick up up1 rows r) r.shows.0 r.shows.1 r.stands leaves
      (ap (λ (t : PeerState). t.number) left) (ap (λ (t : PeerState). t.standing) left) (ap (λ (t : PeerState). t.queue) left) next;
}

-- ---- the room

pub keeps_room : (old new : QueueState) (s : Standing) → old.spare ≤ new.spare → KeepsRoom old new s
keeps_room old new Awaited le = le
keeps_room old new Greeted le = le
keeps_room old new Proxied le = le
keeps_room old new Unread le = le
keeps_room old new (Lost why) le = omega arith

-- ---- from the code's steps, where the client's number is its field

pub quiet-of : (v : Verdict) → (v ≡ verdict.Sent) ⊎ ((v ≡ verdict.Held) ⊎ (v ≡ verdict.Silent)) → IsQuiet v
quiet-of v (inl e) = subst IsQuiet (sym e) tt
quiet-of v (inr (inl e)) = subst IsQuiet (sym e) tt
quiet-of v (inr (inr e)) = subst IsQuiet (sym e) tt

-- what the core answered, of this verdict and this client
pub on-verdict : (v v' : Verdict) (p : List ℕ) (core0 core1 : CoreState) (k k' : ℕ) (up up1 : QueueState) → v ≡ v' → k' ≡ k → CoreSendsOn core0 core1 k p up up1 v → CoreSendsOn core0 core1 k' p up up1 v'
on-verdict v v' p core0 core1 k k' up up1 e n s = subst (λ w. CoreSendsOn core0 core1 k' p up up1 w) e (subst (λ j. CoreSendsOn core0 core1 j p up up1 v) (sym n) s)
