-- What a client's control message does, from the decision to the next row.
use Rattle.std.proofs.Common.{◌≡◌, ℕ, Bool, true, false, ◌||◌, List, [], ◌∷◌, ◌++◌, length, map, Option, Some, None, Ok, Err, Result, refl, sym, ap, ◌∙◌, subst, append-nil, inl, inr, ◌⊎◌}
use Rattle.std.specs.Prelude.{◌==◌}
use Rattle.mux_outside.specs.declared.house.HouseReply.{HouseReply}
use Rattle.ssh_grammar.specs.declared.numbers.TheConstants.{VERSION}
use Rattle.ssh_grammar.specs.declared.fault.BadControl.{BadControl}
use Rattle.ssh_grammar.specs.declared.fault.BadControl.TheVariants.{Unknown}
use Rattle.ssh_grammar.specs.Control.{Answer, Control, Hello, OpenForward, CloseForward}
use Rattle.ssh_grammar.specs.ReadControl.{read_control}
use Rattle.ssh_grammar.specs.Frames.{frame_payload}
use Rattle.ssh_grammar.specs.Said.{Body, BadFraming}
use Rattle.proxy_frames.specs.State.{QueueState}
use Rattle.mux_history.specs.declared.why.Why.{Why}
use Rattle.mux_history.specs.declared.why.Why.TheVariants as why
use Rattle.mux_history.specs.Rows.{Row, rows_of, is_lost, Says, Fate, Goes, Drop, Refused, End}
use Rattle.mux_history.specs.Pending.{joined, waiting_down}
use Rattle.mux_history.specs.Farewell.{farewell}
use Rattle.mux_history.specs.Said.{Outcome, silent, drops}
use Rattle.mux_history.specs.Controls.{answers_ask, answers_maybe, client_has_greeted, house_answer, sent_body}
use Rattle.mux_history.specs.Treat.{all_recorded, bare_row, frames_that_fit, overflow, row_of}
use Rattle.mux_core.specs.State.{CoreState}
use Rattle.mux_core.specs.Stands.{CoreRepresents}
use Rattle.mux_core.specs.Calls.{Leaves, LeavesRecorded, LeavesUnsent}
use Rattle.mux_core.proofs.Says.{records-own}
use Rattle.mux_peers.specs.declared.standing.Standing.{Standing}
use Rattle.mux_peers.specs.declared.standing.Standing.TheVariants.{Lost}
use Rattle.mux_peers.specs.declared.decision.Decision.{Decision}
use Rattle.mux_peers.specs.declared.decision.Effect as declared
use Rattle.mux_peers.specs.declared.decision.Effect.TheVariants as effect
use Rattle.mux_peers.specs.declared.run_change.RunChange.{RunChange}
use Rattle.mux_peers.specs.State.{PeerState, Part, part}
use Rattle.mux_peers.specs.Stands.{PartFits, PeerFits, stands_by}
use Rattle.mux_peers.specs.Stands as stands
use Rattle.mux_peers.specs.Decisions.{DecisionGoesOn, StandsAs, fate_of, frames, is_stops, outcome_of, reading_answer}
use Rattle.mux_peers.specs.Bodies.{DoesBody, FollowsBy, IsDecided}
use Rattle.mux_peers.specs.Nexts.{FaultBy}
use Rattle.mux_peers.proofs.Idle.{body-quiet, body-stands, body_row}
use Rattle.mux_peers.proofs.Refusing.{Recorded}
use Rattle.mux_peers.proofs.RowForms.{made, fits-all, row-on, row-full, row-drops}
use Rattle.mux_peers.proofs.Saids.{after-served}
use Rattle.mux_peers.proofs.Steps.{row-fits, served-of}
use Rattle.mux_peers.proofs.Stood.{not_lost, out_is}

-- ---- what drops its client sends it nothing

abbrev RecordsUndropped : Outcome → Type 0
RecordsUndropped o = elim o.ends [ Drop cause ↦ o.recorded ≡ [] | Goes ↦ Unit {0} | Refused ↦ Unit {0} | End cause ↦ Unit {0} ]

quiet-version : (v : ℕ) (b : Bool) → RecordsUndropped (elim b as (λ _. Outcome) [ true ↦ silent | false ↦ drops (why.Version v) ])
quiet-version v true = tt
quiet-version v false = refl

quiet-maybe : (o : Option Answer) → RecordsUndropped (answers_maybe o)
quiet-maybe None = tt
quiet-maybe (Some answer) = tt

quiet-ask : (opening : Bool) (id : ℕ) (given : Option HouseReply) → RecordsUndropped (answers_ask opening id given)
quiet-ask opening id None = tt
quiet-ask opening id (Some reply) = quiet-maybe (house_answer opening id reply)

quiet-reading : (pid k : ℕ) (given : Option HouseReply) (g : Bool) (r : Result Control BadControl) → RecordsUndropped (reading_answer pid k given g r)
quiet-reading pid k given true (Ok (OpenForward id what)) = quiet-ask true id given
quiet-reading pid k given true (Ok (CloseForward id what)) = quiet-ask false id given
quiet-reading pid k given true (Ok (Hello v es)) = refl
quiet-reading pid k given true (Ok c) = tt
quiet-reading pid k given true (Err (Unknown kind None)) = refl
quiet-reading pid k given true (Err (Unknown kind (Some id))) = tt
quiet-reading pid k given true (Err f) = refl
quiet-reading pid k given false (Ok (Hello v es)) = quiet-version v (v == VERSION)
quiet-reading pid k given false (Ok c) = refl
quiet-reading pid k given false (Err (Unknown kind id)) = refl
quiet-reading pid k given false (Err f) = refl

by-drop : (o : Outcome) (cause : Why) → o.ends ≡ Drop cause → RecordsUndropped o → o.recorded ≡ []
by-drop o cause e q = subst (λ (f : Fate). elim f as (λ _. Type 0) [ Drop cause ↦ o.recorded ≡ [] | Goes ↦ Unit {0} | Refused ↦ Unit {0} | End cause ↦ Unit {0} ]) e q

-- ---- before the row

unlost : (peer : PeerState) (c : CoreState) (up : QueueState) (rows : List Row) → PartFits rows (part c peer up) → stands.is_standing_lost peer.standing ≡ false → is_lost (rows_of peer.number rows) ≡ false
unlost peer c up rows fits here = not_lost (rows_of peer.number rows) (out_is (rows_of peer.number rows) ∙ (ap stands.is_standing_lost (sym fits.peer.standing_is) ∙ here))

said-row : (pid : ℕ) (given : Option HouseReply) (body : List ℕ) (rows : List Row) (old : Part) (d : Decision) → IsDecided pid given body rows old d
    → row_of (Says old.peer.number (Body body) given) old.peer.number (sent_body pid old.peer.number given (client_has_greeted (rows_of old.peer.number rows)) body) (rows_of old.peer.number rows) ≡ row_of (Says old.peer.number (Body body) given) old.peer.number (outcome_of d) (rows_of old.peer.number rows)
said-row pid given body rows old d h = ap (λ (o : Outcome). row_of (Says old.peer.number (Body body) given) old.peer.number o (rows_of old.peer.number rows)) h.answers

or-false : (b : Bool) → b ≡ (b || false)
or-false true = refl
or-false false = refl

no-more : (up : QueueState) → up.waiting ≡ up.waiting ++ joined (map frame_payload [])
no-more up = sym (append-nil up.waiting)

-- ---- it goes on, and the frame fits

abbrev pub Going : declared.Effect → Type 0
Going f = fate_of f ≡ Goes

pub follows-on : (d : Decision) (c : CoreState) (peer mid peer' : PeerState) (up : QueueState) (heard heard' : RunChange) → Going d.effect → Recorded (frames d.recorded) peer mid → overflow (length peer.queue) (frames d.recorded) ≡ None
    → peer'.number ≡ mid.number → ((s : Standing) → StandsAs d.effect s → peer'.standing ≡ s) → peer'.queue ≡ mid.queue → heard'.stops ≡ (heard.stops || is_stops d.effect) → heard'.ended ≡ heard.ended
    → FollowsBy d (part c peer up) heard (part c peer' up) heard'
follows-on d c peer mid peer' up heard heard' goes recorded fit num standing queue stop ended pid given body rows h =
    let k : ℕ = peer.number in
    let own : List Row = rows_of k rows in
    let fs : List (List ℕ) = frames d.recorded in
    let wait : waiting_down own ≡ length peer.queue = ap length (sym h.fits.peer.queue_is) in
    let row : Row = body_row k body given fs in
    let recorded' : all_recorded (bare_row (Says k (Body body) given) k (outcome_of d)) own ≡ fs =
    ap (λ (f : Fate). all_recorded (made (Says k (Body body) given) k [] [] fs f) own) goes ∙ records-own row (body-quiet k body given fs) own in
    let is = said-row pid given body rows (part c peer up) d h ∙ row-on (Says k (Body body) given) k (outcome_of d) own fs refl goes recorded' (ap (λ n. overflow n fs) wait ∙ fit) in
    let st : CoreRepresents c (row ∷ rows) = body-stands c k body given fs rows (h.fits.core h.live) h.fits.peer.admitted (unlost peer c up rows h.fits h.here) in
    let num' : peer'.number ≡ k = num ∙ ap (λ (t : PeerState). t.number) recorded in
    subst (DoesBody (part c peer' up) heard heard' rows) (sym is) (record {
      client_is = sym num';
      fits = row-fits k (Body body) given [] [] fs Goes rows peer peer' c up up tt num' h.here h.fits.peer h.fits.up (standing (stands_by (Body body)) h.stands)
          (queue ∙ (ap (λ (t : PeerState). t.queue) recorded ∙ ap (λ gs. peer.queue ++ joined gs) (fits-all (length peer.queue) fs fit))) (no-more up) st;
      stops_is = stop ∙ ap (λ b. heard.stops || b) (sym h.stops);
      ended_is = ended;
    })

-- ---- it goes on, and the frame doesn't fit

pub follows-full : (d : Decision) (cause : Why) (c c2 : CoreState) (peer mid peer' : PeerState) (up up2 : QueueState) (heard : RunChange) → Going d.effect → Recorded (frames d.recorded) peer mid → overflow (length peer.queue) (frames d.recorded) ≡ Some cause
    → peer' ≡ record mid { standing = Lost (Some cause) } → LeavesRecorded c c2 mid.number up up2
    → FollowsBy d (part c peer up) heard (part c2 peer' up2) heard
follows-full d cause c c2 peer mid peer' up up2 heard goes recorded full left leaves pid given body rows h =
    let k : ℕ = peer.number in
    let own : List Row = rows_of k rows in
    let fs : List (List ℕ) = frames d.recorded in
    let wait : waiting_down own ≡ length peer.queue = ap length (sym h.fits.peer.queue_is) in
    let b : Row = body_row k body given fs in
    let recorded' : all_recorded (bare_row (Says k (Body body) given) k (outcome_of d)) own ≡ fs =
    ap (λ (f : Fate). all_recorded (made (Says k (Body body) given) k [] [] fs f) own) goes ∙ records-own b (body-quiet k body given fs) own in
    let down : List (List ℕ) = frames_that_fit (waiting_down own) fs in
    let q : Row = made (Says k (Body body) given) k [] [] down (Drop cause) in
    let here = unlost peer c up rows h.fits h.here in
    let st : CoreRepresents c (b ∷ rows) = body-stands c k body given fs rows (h.fits.core h.live) h.fits.peer.admitted here in
    let served = after-served c k b rows st refl refl h.fits.peer.admitted here in
    let gone : Leaves c2 q up up2 rows = (subst (λ j. LeavesRecorded c c2 j up up2) (ap (λ (t : PeerState). t.number) recorded) leaves) rows b down cause st served refl refl refl refl in
    let fw : List (List ℕ) = farewell q own in
    let is = said-row pid given body rows (part c peer up) d h ∙ row-full (Says k (Body body) given) k (outcome_of d) own fs cause goes recorded' (ap (λ n. overflow n fs) wait ∙ full) in
    let num' : peer'.number ≡ k = ap (λ (t : PeerState). t.number) left ∙ ap (λ (t : PeerState). t.number) recorded in
    subst (DoesBody (part c2 peer' up2) heard heard rows) (sym is) (record {
      client_is = sym num';
      fits = row-fits k (Body body) given [] fw down (Drop cause) rows peer peer' c2 up up2 tt num' h.here h.fits.peer h.fits.up (ap (λ (t : PeerState). t.standing) left)
          (ap (λ (t : PeerState). t.queue) left ∙ (ap (λ (t : PeerState). t.queue) recorded ∙ ap (λ n. peer.queue ++ joined (frames_that_fit n fs)) (sym wait))) gone.sent gone.stands;
      stops_is = or-false heard.stops;
      ended_is = refl;
    })

-- ---- it drops its client

pub follows-drop : (d : Decision) (cause : Why) (c c2 : CoreState) (peer peer' : PeerState) (up up2 : QueueState) (heard : RunChange) → d.effect ≡ effect.Drops cause
    → peer' ≡ record peer { standing = Lost (Some cause) } → LeavesUnsent c c2 peer.number up up2
    → FollowsBy d (part c peer up) heard (part c2 peer' up2) heard
follows-drop d cause c c2 peer peer' up up2 heard is-drop left leaves pid given body rows h =
    let k : ℕ = peer.number in
    let own : List Row = rows_of k rows in
    let ends : fate_of d.effect ≡ Drop cause = ap fate_of is-drop in
    let q : Row = made (Says k (Body body) given) k [] [] [] (Drop cause) in
    let here = unlost peer c up rows h.fits h.here in
    let served = served-of c rows k (h.fits.core h.live) h.fits.peer.admitted here in
    let gone : Leaves c2 q up up2 rows = leaves rows q (h.fits.core h.live) served refl refl refl refl refl in
    let fw : List (List ℕ) = farewell q own in
    let untold : frames d.recorded ≡ [] =
    sym (ap (λ (o : Outcome). o.recorded) h.answers) ∙ by-drop (reading_answer pid k given (client_has_greeted own) (read_control body)) cause (ap (λ (o : Outcome). o.ends) h.answers ∙ ends) (quiet-reading pid k given (client_has_greeted own) (read_control body)) in
    let is = said-row pid given body rows (part c peer up) d h ∙ row-drops (Says k (Body body) given) k (outcome_of d) own cause ends untold in
    let num' : peer'.number ≡ k = ap (λ (t : PeerState). t.number) left in
    subst (DoesBody (part c2 peer' up2) heard heard rows) (sym is) (record {
      client_is = sym num';
      fits = row-fits k (Body body) given [] fw [] (Drop cause) rows peer peer' c2 up up2 tt num' h.here h.fits.peer h.fits.up (ap (λ (t : PeerState). t.standing) left)
          (ap (λ (t : PeerState). t.queue) left ∙ sym (append-nil peer.queue)) gone.sent gone.stands;
      stops_is = or-false heard.stops;
      ended_is = refl;
    })

-- ---- from the code's arms

abbrev pub GoesBy : declared.Effect → Type 0
GoesBy f = (f ≡ effect.Goes) ⊎ ((f ≡ effect.Switches) ⊎ ((f ≡ effect.Unreads) ⊎ (f ≡ effect.Stops)))

pub goes-by : (f : declared.Effect) → GoesBy f → Going f × DecisionGoesOn f
goes-by f (inl e) = (ap fate_of e, subst DecisionGoesOn (sym e) tt)
goes-by f (inr (inl e)) = (ap fate_of e, subst DecisionGoesOn (sym e) tt)
goes-by f (inr (inr (inl e))) = (ap fate_of e, subst DecisionGoesOn (sym e) tt)
goes-by f (inr (inr (inr e))) = (ap fate_of e, subst DecisionGoesOn (sym e) tt)

-- ---- a frame that is none

pub faults-drop : (fault : _) (c c2 : CoreState) (peer peer' : PeerState) (up up2 : QueueState) (heard : RunChange)
    → peer' ≡ record peer { standing = Lost (Some (why.BadFrame fault)) } → LeavesUnsent c c2 peer.number up up2
    → FaultBy fault (part c peer up) heard (part c2 peer' up2) heard
faults-drop fault c c2 peer peer' up up2 heard left leaves rows fits live not-lost =
    let k : ℕ = peer.number in
    let own : List Row = rows_of k rows in
    let cause : Why = why.BadFrame fault in
    let q : Row = made (Says k (BadFraming fault) None) k [] [] [] (Drop cause) in
    let here = unlost peer c up rows fits not-lost in
    let served = served-of c rows k (fits.core live) fits.peer.admitted here in
    let gone : Leaves c2 q up up2 rows = leaves rows q (fits.core live) served refl refl refl refl refl in
    let fw : List (List ℕ) = farewell q own in
    let is = row-drops (Says k (BadFraming fault) None) k (drops cause) own cause refl refl in
    let num' : peer'.number ≡ k = ap (λ (t : PeerState). t.number) left in
    subst (DoesBody (part c2 peer' up2) heard heard rows) (sym is) (record {
      client_is = sym num';
      fits = row-fits k (BadFraming fault) None [] fw [] (Drop cause) rows peer peer' c2 up up2 tt num' not-lost fits.peer fits.up (ap (λ (t : PeerState). t.standing) left)
          (ap (λ (t : PeerState). t.queue) left ∙ sym (append-nil peer.queue)) gone.sent gone.stands;
      stops_is = or-false heard.stops;
      ended_is = refl;
    })
