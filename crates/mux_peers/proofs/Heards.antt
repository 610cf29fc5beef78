-- What the server sends to a client, from the core's row to the whole one.
use Rattle.std.proofs.Common.{◌≡◌, ℕ, false, ◌||◌, List, [], ◌∷◌, ◌++◌, length, map, Some, None, refl, sym, ap, ◌∙◌, subst, append-nil, append_assoc}
use Rattle.ssh_grammar.specs.Frames.{frame_payload}
use Rattle.proxy_frames.specs.State.{QueueState}
use Rattle.mux_history.specs.declared.why.Why.{Why}
use Rattle.mux_history.specs.Rows.{Row, rows_of, is_admit, is_lost, loses, Heard, Fate, Goes, Drop}
use Rattle.mux_history.specs.Pending.{joined, pending_up, waiting_down}
use Rattle.mux_history.specs.Controls.{client_has_greeted}
use Rattle.mux_history.specs.Farewell.{farewell}
use Rattle.mux_history.specs.Treat.{bare_row, frames_that_fit, overflow, row_of}
use Rattle.mux_core.specs.State.{CoreState}
use Rattle.mux_core.specs.Stands.{CoreRepresents}
use Rattle.mux_core.specs.Calls.{Leaves, LeavesRecorded}
use Rattle.mux_peers.specs.declared.standing.Standing.{Standing}
use Rattle.mux_peers.specs.declared.standing.Standing.TheVariants.{Lost}
use Rattle.mux_peers.specs.State.{PeerState, part}
use Rattle.mux_peers.specs.Stands.{PartFits, PeerFits, is_greeted}
use Rattle.mux_peers.specs.Stands as stands
use Rattle.mux_peers.specs.Receives.{ReceivesRecorded}
use Rattle.mux_peers.proofs.Free.{down-free}
use Rattle.mux_peers.proofs.Refusing.{Recorded}
use Rattle.mux_peers.proofs.RowForms.{made, fits-all, row-on, row-full}
use Rattle.mux_peers.proofs.Saids.{after-served}
use Rattle.mux_peers.proofs.Steps.{frames-append}
use Rattle.mux_peers.proofs.Stood.{own_row, not_lost, or_true, out_is}

-- the state of a client after a row of what it receives
abbrev pub standing_received : Fate → Standing → Standing
standing_received (Drop cause) s = Lost (Some cause)
standing_received f s = s

abbrev pub GoesOrDrops : Fate → Type 0
GoesOrDrops Goes = Unit {0}
GoesOrDrops (Drop cause) = Unit {0}
GoesOrDrops f = ⊥

stands-heard : (p : List ℕ) (k : ℕ) (ups fw down : List (List ℕ)) (f : Fate) (own : List Row) → GoesOrDrops f → stands.standing_of (made (Heard p) k ups fw down f ∷ own) ≡ standing_received f (stands.standing_of own)
stands-heard p k ups fw down Goes own g = refl
stands-heard p k ups fw down (Drop cause) own g = refl
stands-heard p k ups fw down f own g = absurd g

greets-heard : (f : Fate) (own : List Row) (s : Standing) → GoesOrDrops f → (stands.is_standing_lost s ≡ false → client_has_greeted own ≡ is_greeted s) → stands.is_standing_lost (standing_received f s) ≡ false → client_has_greeted own ≡ is_greeted (standing_received f s)
greets-heard Goes own s g h l = h l
greets-heard (Drop cause) own s g h l = absurd (cc)
greets-heard f own s g h l = absurd g

-- the client's own rows with the row
pub peer-heard : (p : List ℕ) (k : ℕ) (ups fw down : List (List ℕ)) (f : Fate) (own : List Row) (s s' : Standing) (q q' : List ℕ) → GoesOrDrops f → PeerFits own s q → s' ≡ standing_received f s → q' ≡ q ++ joined down → PeerFits (made (Heard p) k ups fw down f ∷ own) s' q'
peer-heard p k ups fw down f own s s' q q' fine fits standing queue =
    let row : Row = made (Heard p) k ups fw down f in
    subst (λ (t : Standing). PeerFits (row ∷ own) t q') (sym standing) (record {
      admitted = ap (λ b. is_admit row || b) fits.admitted ∙ or_true (is_admit row);
      standing_is = ap (standing_received f) fits.standing_is ∙ sym (stands-heard p k ups fw down f own fine);
      greeted_is = greets-heard f own s fine fits.greeted_is;
      queue_is = queue ∙ ap (λ z. z ++ joined down) fits.queue_is;
    })

heard-fits : (p : List ℕ) (k : ℕ) (ups fw down : List (List ℕ)) (f : Fate) (rows : List Row) (peer peer' : PeerState) (s' : CoreState) (up' : QueueState) → GoesOrDrops f → peer'.number ≡ k → PeerFits (rows_of k rows) peer.standing peer.queue
    → peer'.standing ≡ standing_received f peer.standing → peer'.queue ≡ peer.queue ++ joined down → up'.waiting ≡ pending_up rows ++ joined (map frame_payload (ups ++ fw)) → CoreRepresents s' (made (Heard p) k ups fw down f ∷ rows)
    → PartFits (made (Heard p) k ups fw down f ∷ rows) (part s' peer' up')
heard-fits p k ups fw down f rows peer peer' s' up' fine num fits standing queue waits st =
    let row : Row = made (Heard p) k ups fw down f in
    record {
      core = λ live. st;
      peer = subst (λ (own : List Row). PeerFits own peer'.standing peer'.queue) (sym (own_row k row rows refl) ∙ ap (λ j. rows_of j (row ∷ rows)) (sym num))
          (peer-heard p k ups fw down f (rows_of k rows) peer.standing peer'.standing peer.queue peer'.queue fine fits standing queue);
      up = waits;
    }

-- all of it fits
pub receives-on : (fs : List (List ℕ)) (c : CoreState) (peer peer' : PeerState) (up : QueueState) → Recorded fs peer peer' → overflow (length peer.queue) fs ≡ None → ReceivesRecorded fs (part c peer up) (part c peer' up)
receives-on fs c peer peer' up recorded fit = record {
  number = ap (λ (t : PeerState). t.number) recorded;
  goes = λ p o rows h.
      let k : ℕ = peer.number in
      let own : List Row = rows_of k rows in
      let wait : waiting_down own ≡ length peer.queue = ap length (sym h.peer.queue_is) in
      let is : row_of (Heard p) k o own ≡ made (Heard p) k o.sent [] fs Goes = row-on (Heard p) k o own fs refl h.ends h.recorded (ap (λ n. overflow n fs) wait ∙ fit) in
      let st : CoreRepresents c (made (Heard p) k o.sent [] fs Goes ∷ rows) = subst (λ (f : Fate). CoreRepresents c (made (Heard p) k o.sent [] fs f ∷ rows)) h.ends (down-free c (bare_row (Heard p) k o) rows fs h.core) in
      subst (λ (row : Row). PartFits (row ∷ rows) (part c peer' up)) (sym is)
      (heard-fits p k o.sent [] fs Goes rows peer peer' c up tt (ap (λ (t : PeerState). t.number) recorded) h.peer (ap (λ (t : PeerState). t.standing) recorded)
      (ap (λ (t : PeerState). t.queue) recorded ∙ ap (λ gs. peer.queue ++ joined gs) (fits-all (length peer.queue) fs fit))
      (h.up ∙ ap (λ (l : List (List ℕ)). pending_up rows ++ joined (map frame_payload l)) (sym (append-nil o.sent))) st);
}

-- something doesn't
pub receives-full : (fs : List (List ℕ)) (cause : Why) (c c2 : CoreState) (peer mid peer' : PeerState) (up up2 : QueueState) → Recorded fs peer mid → overflow (length peer.queue) fs ≡ Some cause → peer' ≡ record mid { standing = Lost (Some cause) } → LeavesRecorded c c2 mid.number up up2
    → ReceivesRecorded fs (part c peer up) (part c2 peer' up2)
receives-full fs cause c c2 peer mid peer' up up2 recorded full left leaves = record {
  number = num;
  goes = λ p o rows h.
      let k : ℕ = peer.number in
      let own : List Row = rows_of k rows in
      let wait : waiting_down own ≡ length peer.queue = ap length (sym h.peer.queue_is) in
      let down : List (List ℕ) = frames_that_fit (waiting_down own) fs in
      let q : Row = made (Heard p) k o.sent [] down (Drop cause) in
      let here : is_lost own ≡ false = not_lost own (out_is own ∙ (ap stands.is_standing_lost (sym h.peer.standing_is) ∙ h.here)) in
      let goes : loses (bare_row (Heard p) k o) ≡ false = ap (λ (f : Fate). loses (made (Heard p) k o.sent [] o.recorded f)) h.ends in
      let served = after-served c k (bare_row (Heard p) k o) rows h.core refl goes h.peer.admitted here in
      let gone : Leaves c2 q up up2 rows = (subst (λ j. LeavesRecorded c c2 j up up2) (ap (λ (t : PeerState). t.number) recorded) leaves) rows (bare_row (Heard p) k o) down cause h.core served refl h.ends goes refl in
      let fw : List (List ℕ) = farewell q own in
      let is : row_of (Heard p) k o own ≡ made (Heard p) k o.sent fw down (Drop cause) = row-full (Heard p) k o own fs cause h.ends h.recorded (ap (λ n. overflow n fs) wait ∙ full) in
      subst (λ (row : Row). PartFits (row ∷ rows) (part c2 peer' up2)) (sym is)
      (heard-fits p k o.sent fw down (Drop cause) rows peer peer' c2 up2 tt num h.peer (ap (λ (t : PeerState). t.standing) left)
      (ap (λ (t : PeerState). t.queue) left ∙ (ap (λ (t : PeerState). t.queue) recorded ∙ ap (λ n. peer.queue ++ joined (frames_that_fit n fs)) (sym wait)))
      (gone.sent ∙ (ap (λ l. l ++ joined (map frame_payload fw)) h.up
      ∙ (append_assoc (pending_up rows) (joined (map frame_payload o.sent)) (joined (map frame_payload fw)) ∙ ap (λ l. pending_up rows ++ l) (sym (frames-append o.sent fw)))))
      gone.stands);
}
  where
    num : peer'.number ≡ peer.number
    num = ap (λ (t : PeerState). t.number) left ∙ ap (λ (t : PeerState). t.number) recorded
