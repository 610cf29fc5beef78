-- What a client's payload does, from the core's verdict to the next row.
use Rattle.std.proofs.Common.{◌≡◌, ◌<◌, ℕ, zero, suc, ◌+◌, Bool, true, false, ◌||◌, List, [], ◌∷◌, ◌++◌, length, drop, map, Some, None, refl, sym, ap, ◌∙◌, subst, append-nil, append_assoc, arith}
use Rattle.std.specs.Prelude.{slice_index, MatchBool}
use Rattle.mux_outside.specs.declared.house.HouseReply.{HouseReply}
use Rattle.ssh_fields.specs.Fields.{AreBytes}
use Rattle.ssh_grammar.specs.Frames.{frame_payload}
use Rattle.ssh_grammar.specs.Said.{Payload}
use Rattle.proxy_frames.specs.State.{QueueState}
use Rattle.mux_history.specs.declared.limits.TheConstants.{NUMBERS_END}
use Rattle.mux_history.specs.declared.why.Why.{Why}
use Rattle.mux_history.specs.Rows.{Row, rows_of, any_of, is_admit, is_end, is_run_over, is_lost, loses, Item, Says, Fate, Goes, Drop}
use Rattle.mux_history.specs.Channels.{holder}
use Rattle.mux_history.specs.Pending.{joined, waiting_down}
use Rattle.mux_history.specs.Choices.{FromLists, numbers_taken, pick_of, takes_number}
use Rattle.mux_history.specs.Farewell.{farewell}
use Rattle.mux_history.specs.Policy.{Policy}
use Rattle.mux_history.specs.Right.{AreFresh, carried_number}
use Rattle.mux_history.specs.Said.{Outcome, sent_payload}
use Rattle.mux_history.specs.Settings.{by_lists}
use Rattle.mux_history.specs.Treat.{bare_row, all_recorded, frames_that_fit, overflow, row_of}
use Rattle.mux_history.specs.Log.{next_row}
use Rattle.client_teardown.specs.Leaving.{with_payloads}
use Rattle.mux_core.specs.State.{CoreState}
use Rattle.mux_core.specs.State as core
use Rattle.mux_core.specs.Stands.{CoreRepresents}
use Rattle.mux_core.specs.Calls.{Leaves, LeavesRecorded, LeavesUnsent}
use Rattle.mux_peers.specs.declared.standing.Standing.{Standing}
use Rattle.mux_peers.specs.declared.standing.Standing.TheVariants.{Lost, Proxied}
use Rattle.mux_peers.specs.State.{PeerState, Part, part}
use Rattle.mux_peers.specs.Stands.{PartFits, PeerFits}
use Rattle.mux_peers.specs.Stands as stands
use Rattle.mux_peers.specs.Says.{ComeNext, Makes}
use Rattle.mux_peers.proofs.Free.{down-free}
use Rattle.mux_peers.proofs.Outcomes.{pick-free, dropped-untold}
use Rattle.mux_peers.proofs.RowForms.{made, row-goes, row-full, row-drops}
use Rattle.mux_peers.proofs.Steps.{frames-append, row-fits, served-of}
use Rattle.mux_peers.proofs.Stood.{own_row, not_lost, or_true, out_is}

abbrev pub said : ℕ → List ℕ → Item
said k p = Says k (Payload p) None

-- ---- the number

-- the numbers that are used
abbrev pub picked_if : Bool → ℕ → List ℕ
picked_if true pick = pick ∷ []
picked_if false pick = []

index-drop : (xs : List ℕ) (n x : ℕ) (ys : List ℕ) → drop n xs ≡ x ∷ ys → slice_index xs n ≡ x
index-drop [] zero x ys e = absurd (cc)
index-drop [] (suc n) x ys e = absurd (cc)
index-drop (y ∷ xs) zero x ys e = cc
index-drop (y ∷ xs) (suc n) x ys e = index-drop xs n x ys e

-- whatever number the log has for the row, the outcome is that of the number that the core picked
same-outcome : (policy : Policy) (k pick : ℕ) (own : List Row) (p : List ℕ) (picks : List ℕ) (given : List HouseReply) (rows : List Row) (tk : Bool) → takes_number (bare_row (said k p) k (sent_payload policy k own pick p)) ≡ tk → ComeNext (picked_if tk pick) rows picks
    → sent_payload policy k own (pick_of (FromLists picks given) rows (said k p)) p ≡ sent_payload policy k own pick p
same-outcome policy k pick own p picks given rows true takes next = ap (λ n. sent_payload policy k own n p) (index-drop picks (numbers_taken rows) pick next.0 next.1)
same-outcome policy k pick own p picks given rows false takes next = pick-free policy k own (slice_index picks (numbers_taken rows)) pick p takes

-- so the log's row is that of this outcome
logs-row : (policy : Policy) (pid k pick : ℕ) (p : List ℕ) (picks : List ℕ) (given : List HouseReply) (rows : List Row) (tk : Bool) → takes_number (bare_row (said k p) k (sent_payload policy k (rows_of k rows) pick p)) ≡ tk → ComeNext (picked_if tk pick) rows picks
    → next_row (by_lists policy pid picks given) rows (said k p) ≡ row_of (said k p) k (sent_payload policy k (rows_of k rows) pick p) (rows_of k rows)
logs-row policy pid k pick p picks given rows tk takes next = ap (λ (o : Outcome). row_of (said k p) k o (rows_of k rows)) (same-outcome policy k pick (rows_of k rows) p picks given rows tk takes next)

-- ---- the row with its number

abbrev pub FreshBy : Bool → List ℕ → List Row → List (List ℕ) → Type 0
FreshBy tk p rows ups = AreBytes p → tk ≡ true → (carried_number ups < NUMBERS_END) × (holder rows (carried_number ups) ≡ None)

taken-by : (row : Row) (rows : List Row) (tk : Bool) (pick : ℕ) → takes_number row ≡ tk → numbers_taken (row ∷ rows) ≡ numbers_taken rows + length (picked_if tk pick)
taken-by row rows true pick e = ap (λ b. elim b as (λ _. ℕ) [ true ↦ numbers_taken rows + 1 | false ↦ numbers_taken rows ]) e
taken-by row rows false pick e = ap (λ b. elim b as (λ _. ℕ) [ true ↦ numbers_taken rows + 1 | false ↦ numbers_taken rows ]) e ∙ omega arith

fresh-by : (row : Row) (p : List ℕ) (rows : List Row) (tk : Bool) → takes_number row ≡ tk → FreshBy tk p rows row.up → AreBytes p → AreFresh rows → AreFresh (row ∷ rows)
fresh-by row p rows true e f bytes all = (subst (λ b. MatchBool b ((carried_number row.up < NUMBERS_END) × (holder rows (carried_number row.up) ≡ None)) (Unit {0})) (sym e) (f bytes refl), all)
fresh-by row p rows false e f bytes all = (subst (λ b. MatchBool b ((carried_number row.up < NUMBERS_END) × (holder rows (carried_number row.up) ≡ None)) (Unit {0})) (sym e) tt, all)

makes : (k : ℕ) (p : List ℕ) (ups fw down : List (List ℕ)) (f : Fate) (rows : List Row) (row : Row) (new : Part) (pick : ℕ) (tk : Bool) → row ≡ made (said k p) k ups fw down f → new.peer.number ≡ k
    → takes_number (made (said k p) k ups fw down f) ≡ tk → FreshBy tk p rows ups → is_end f ≡ false → PartFits (made (said k p) k ups fw down f ∷ rows) new → Makes (picked_if tk pick) (said k p) new rows row
makes k p ups fw down f rows row new pick tk e num takes fresh runs fits = subst (Makes (picked_if tk pick) (said k p) new rows) (sym e) (record {
  item_is = refl;
  client_is = sym num;
  fits = fits;
  runs = runs;
  taken = taken-by (made (said k p) k ups fw down f) rows tk pick takes;
  fresh = fresh-by (made (said k p) k ups fw down f) p rows tk takes fresh;
})

-- ---- what is known before the row, of a client in proxy mode

pub record Before (core0 : CoreState) (peer : PeerState) (up : QueueState) (rows : List Row) : Type 0 where
  pub fits : PartFits rows (part core0 peer up)
  pub live : is_run_over rows ≡ false
  pub proxied : peer.standing ≡ Proxied

here-of : (core0 : CoreState) (peer : PeerState) (up : QueueState) (rows : List Row) → Before core0 peer up rows → stands.is_standing_lost peer.standing ≡ false
here-of core0 peer up rows b = ap stands.is_standing_lost b.proxied

unlost : (core0 : CoreState) (peer : PeerState) (up : QueueState) (rows : List Row) → Before core0 peer up rows → is_lost (rows_of peer.number rows) ≡ false
unlost core0 peer up rows b = not_lost (rows_of peer.number rows) (out_is (rows_of peer.number rows) ∙ (ap stands.is_standing_lost (sym b.fits.peer.standing_is) ∙ here-of core0 peer up rows b))

-- so the core serves it
pub served-before : (core0 : CoreState) (peer : PeerState) (up : QueueState) (rows : List Row) → Before core0 peer up rows → core.is_member_served core0.clients peer.number ≡ true
served-before core0 peer up rows b = served-of core0 rows peer.number (b.fits.core b.live) b.fits.peer.admitted (unlost core0 peer up rows b)

-- what is known of the core's answer: the number, and the outcome as far as it goes
pub record Answered (core0 : CoreState) (k : ℕ) (p : List ℕ) (pick : ℕ) (tk : Bool) (up up1 : QueueState) (rows : List Row) : Type 0 where
  pub sent : up1 ≡ with_payloads (sent_payload core0.policy k (rows_of k rows) pick p).sent up
  pub takes : takes_number (bare_row (said k p) k (sent_payload core0.policy k (rows_of k rows) pick p)) ≡ tk
  pub fresh : FreshBy tk p rows (sent_payload core0.policy k (rows_of k rows) pick p).sent

-- ---- it goes on

waits-long : (own : List Row) (standing : Standing) (q : List ℕ) → PeerFits own standing q → waiting_down own ≡ length q
waits-long own standing q fits = ap length (sym fits.queue_is)

pub said-on : (pid : ℕ) (picks : List ℕ) (given : List HouseReply) (p : List ℕ) (core0 core1 : CoreState) (peer peer' : PeerState) (up up1 : QueueState) (pick : ℕ) (tk : Bool) (rows : List Row) (fs : List (List ℕ))
    → Before core0 peer up rows → Answered core0 peer.number p pick tk up up1 rows → (sent_payload core0.policy peer.number (rows_of peer.number rows) pick p).ends ≡ Goes
    → all_recorded (bare_row (said peer.number p) peer.number (sent_payload core0.policy peer.number (rows_of peer.number rows) pick p)) (rows_of peer.number rows) ≡ fs
    → CoreRepresents core1 (bare_row (said peer.number p) peer.number (sent_payload core0.policy peer.number (rows_of peer.number rows) pick p) ∷ rows)
    → overflow (length peer.queue) fs ≡ None → peer'.number ≡ peer.number → peer'.standing ≡ Proxied → peer'.queue ≡ peer.queue ++ joined fs → ComeNext (picked_if tk pick) rows picks
    → Makes (picked_if tk pick) (said peer.number p) (part core1 peer' up1) rows (next_row (by_lists core0.policy pid picks given) rows (said peer.number p))
said-on pid picks given p core0 core1 peer peer' up up1 pick tk rows fs b a ends recorded st fit num standing queue next =
    let k : ℕ = peer.number in
    let own : List Row = rows_of k rows in
    let o : Outcome = sent_payload core0.policy k own pick p in
    let fit' : overflow (waiting_down own) fs ≡ None = ap (λ n. overflow n fs) (waits-long own peer.standing peer.queue b.fits.peer) ∙ fit in
    let is : next_row (by_lists core0.policy pid picks given) rows (said k p) ≡ made (said k p) k o.sent [] fs Goes =
    logs-row core0.policy pid k pick p picks given rows tk a.takes next ∙ row-goes k k (Payload p) None o own fs ends recorded fit' in
    let st' : CoreRepresents core1 (made (said k p) k o.sent [] fs Goes ∷ rows) = subst (λ (f : Fate). CoreRepresents core1 (made (said k p) k o.sent [] fs f ∷ rows)) ends (down-free core1 (bare_row (said k p) k o) rows fs st) in
    let waits : up1.waiting ≡ up.waiting ++ joined (map frame_payload (o.sent ++ [])) =
    ap (λ (q : QueueState). q.waiting) a.sent ∙ ap (λ (l : List (List ℕ)). up.waiting ++ joined (map frame_payload l)) (sym (append-nil o.sent)) in
    makes k p o.sent [] fs Goes rows _ (part core1 peer' up1) pick tk is num a.takes a.fresh refl
    (row-fits k (Payload p) None o.sent [] fs Goes rows peer peer' core1 up up1 tt num (here-of core0 peer up rows b) b.fits.peer b.fits.up standing queue waits st')

-- ---- it goes on, and what it records doesn't fit

pub after-served : (core1 : CoreState) (k : ℕ) (row : Row) (rows : List Row) → CoreRepresents core1 (row ∷ rows) → row.client ≡ k → loses row ≡ false → any_of is_admit (rows_of k rows) ≡ true → is_lost (rows_of k rows) ≡ false → core.is_member_served core1.clients k ≡ true
after-served core1 k row rows st c keeps admitted here =
    served-of core1 (row ∷ rows) k st
    (ap (any_of is_admit) (own_row k row rows c) ∙ (ap (λ b. is_admit row || b) admitted ∙ or_true (is_admit row)))
    (ap is_lost (own_row k row rows c) ∙ (ap (λ b. b || is_lost (rows_of k rows)) keeps ∙ here))

going : (k : ℕ) (p : List ℕ) (o : Outcome) → o.ends ≡ Goes → loses (bare_row (said k p) k o) ≡ false
going k p o e = ap (λ (f : Fate). loses (made (said k p) k o.sent [] o.recorded f)) e

both-wait : (up up1 up2 : QueueState) (ups fw : List (List ℕ)) → up1 ≡ with_payloads ups up → up2.waiting ≡ (with_payloads fw up1).waiting → up2.waiting ≡ up.waiting ++ joined (map frame_payload (ups ++ fw))
both-wait up up1 up2 ups fw e f =
    f ∙ (ap (λ (q : QueueState). q.waiting ++ joined (map frame_payload fw)) e
    ∙ (append_assoc up.waiting (joined (map frame_payload ups)) (joined (map frame_payload fw)) ∙ ap (λ l. up.waiting ++ l) (sym (frames-append ups fw))))

pub said-full : (pid : ℕ) (picks : List ℕ) (given : List HouseReply) (p : List ℕ) (core0 core1 core2 : CoreState) (peer peer' : PeerState) (up up1 up2 : QueueState) (pick : ℕ) (tk : Bool) (rows : List Row) (fs : List (List ℕ)) (cause : Why)
    → Before core0 peer up rows → Answered core0 peer.number p pick tk up up1 rows → (sent_payload core0.policy peer.number (rows_of peer.number rows) pick p).ends ≡ Goes
    → all_recorded (bare_row (said peer.number p) peer.number (sent_payload core0.policy peer.number (rows_of peer.number rows) pick p)) (rows_of peer.number rows) ≡ fs
    → CoreRepresents core1 (bare_row (said peer.number p) peer.number (sent_payload core0.policy peer.number (rows_of peer.number rows) pick p) ∷ rows)
    → overflow (length peer.queue) fs ≡ Some cause → LeavesRecorded core1 core2 peer.number up1 up2
    → peer'.number ≡ peer.number → peer'.standing ≡ Lost (Some cause) → peer'.queue ≡ peer.queue ++ joined (frames_that_fit (length peer.queue) fs) → ComeNext (picked_if tk pick) rows picks
    → Makes (picked_if tk pick) (said peer.number p) (part core2 peer' up2) rows (next_row (by_lists core0.policy pid picks given) rows (said peer.number p))
said-full pid picks given p core0 core1 core2 peer peer' up up1 up2 pick tk rows fs cause b a ends recorded st full leaves num standing queue next =
    let k : ℕ = peer.number in
    let own : List Row = rows_of k rows in
    let o : Outcome = sent_payload core0.policy k own pick p in
    let wait = waits-long own peer.standing peer.queue b.fits.peer in
    let down : List (List ℕ) = frames_that_fit (waiting_down own) fs in
    let q : Row = made (said k p) k o.sent [] down (Drop cause) in
    let served = after-served core1 k (bare_row (said k p) k o) rows st refl (going k p o ends) b.fits.peer.admitted (unlost core0 peer up rows b) in
    let left : Leaves core2 q up1 up2 rows = leaves rows (bare_row (said k p) k o) down cause st served refl ends (going k p o ends) refl in
    let fw : List (List ℕ) = farewell q own in
    let row : Row = made (said k p) k o.sent fw down (Drop cause) in
    let mine : rows_of q.client rows ≡ own = refl in
    let is : next_row (by_lists core0.policy pid picks given) rows (said k p) ≡ row =
    logs-row core0.policy pid k pick p picks given rows tk a.takes next ∙ row-full (said k p) k o own fs cause ends recorded (ap (λ n. overflow n fs) wait ∙ full) in
    makes k p o.sent fw down (Drop cause) rows _ (part core2 peer' up2) pick tk is num a.takes a.fresh refl
    (row-fits k (Payload p) None o.sent fw down (Drop cause) rows peer peer' core2 up up2 tt num (here-of core0 peer up rows b) b.fits.peer b.fits.up standing
    (queue ∙ ap (λ n. peer.queue ++ joined (frames_that_fit n fs)) (sym wait)) (both-wait up up1 up2 o.sent fw a.sent left.sent) left.stands)

-- ---- it drops its client

pub said-drops : (pid : ℕ) (picks : List ℕ) (given : List HouseReply) (p : List ℕ) (core0 core1 core2 : CoreState) (peer peer' : PeerState) (up up1 up2 : QueueState) (pick : ℕ) (tk : Bool) (rows : List Row) (cause : Why)
    → Before core0 peer up rows → Answered core0 peer.number p pick tk up up1 rows → (sent_payload core0.policy peer.number (rows_of peer.number rows) pick p).ends ≡ Drop cause
    → (sent_payload core0.policy peer.number (rows_of peer.number rows) pick p).sent ≡ [] → core1 ≡ core0 → LeavesUnsent core1 core2 peer.number up1 up2
    → peer'.number ≡ peer.number → peer'.standing ≡ Lost (Some cause) → peer'.queue ≡ peer.queue → ComeNext (picked_if tk pick) rows picks
    → Makes (picked_if tk pick) (said peer.number p) (part core2 peer' up2) rows (next_row (by_lists core0.policy pid picks given) rows (said peer.number p))
said-drops pid picks given p core0 core1 core2 peer peer' up up1 up2 pick tk rows cause b a ends unsent same leaves num standing queue next =
    let k : ℕ = peer.number in
    let own : List Row = rows_of k rows in
    let o : Outcome = sent_payload core0.policy k own pick p in
    let q : Row = made (said k p) k o.sent [] [] (Drop cause) in
    let st : CoreRepresents core1 rows = subst (λ (s : CoreState). CoreRepresents s rows) (sym same) (b.fits.core b.live) in
    let served : core.is_member_served core1.clients k ≡ true = subst (λ (s : CoreState). core.is_member_served s.clients k ≡ true) (sym same) (served-before core0 peer up rows b) in
    let left : Leaves core2 q up1 up2 rows = leaves rows q st served refl refl unsent refl refl in
    let fw : List (List ℕ) = farewell q own in
    let is : next_row (by_lists core0.policy pid picks given) rows (said k p) ≡ made (said k p) k o.sent fw [] (Drop cause) =
    logs-row core0.policy pid k pick p picks given rows tk a.takes next ∙ row-drops (said k p) k o own cause ends (dropped-untold core0.policy k own pick p cause ends) in
    makes k p o.sent fw [] (Drop cause) rows _ (part core2 peer' up2) pick tk is num a.takes a.fresh refl
    (row-fits k (Payload p) None o.sent fw [] (Drop cause) rows peer peer' core2 up up2 tt num (here-of core0 peer up rows b) b.fits.peer b.fits.up standing
    (queue ∙ sym (append-nil peer.queue)) (both-wait up up1 up2 o.sent fw a.sent left.sent) left.stands)
