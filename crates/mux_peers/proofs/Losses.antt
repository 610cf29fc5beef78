-- A client whose stream is gone.
use Rattle.std.proofs.Common.{◌≡◌, ℕ, List, [], ◌∷◌, ◌++◌, length, drop, map, true, false, Bool, None, refl, sym, ap, ◌∙◌, subst, append-nil}
use Rattle.std.specs.Prelude.{not, ◌||◌}
use Rattle.mux_outside.specs.declared.house.HouseReply.{HouseReply}
use Rattle.ssh_grammar.specs.Frames.{frame_payload}
use Rattle.proxy_frames.specs.State.{QueueState}
use Rattle.mux_history.specs.Policy.{Policy}
use Rattle.mux_history.specs.Rows.{Row, rows_of, is_admit, is_lost, Gone, Goes}
use Rattle.mux_history.specs.Requests.{answers, answers_to, replies, wanted}
use Rattle.mux_history.specs.Pending.{joined, pending_down}
use Rattle.mux_history.specs.Farewell.{farewell}
use Rattle.mux_history.specs.Settings.{by_lists}
use Rattle.mux_history.specs.Treat.{all_recorded, new_answers, queued, with_farewell}
use Rattle.mux_history.specs.Log.{next_row}
use Rattle.mux_core.specs.State.{CoreState}
use Rattle.mux_core.specs.Stands.{CoreRepresents}
use Rattle.mux_core.specs.Calls.{Leaves, LeavesUnsent}
use Rattle.mux_peers.specs.declared.standing.Standing.TheVariants.{Lost}
use Rattle.mux_peers.specs.State.{PeerState, part}
use Rattle.mux_peers.specs.Stands.{PartFits, PeerFits}
use Rattle.mux_peers.specs.Stands as stands
use Rattle.mux_peers.specs.Losing.{Loses}
use Rattle.mux_peers.proofs.RowForms.{made}
use Rattle.mux_peers.proofs.Steps.{served-of}
use Rattle.mux_peers.proofs.Stood.{not_lost, out_is, own_row}

-- ---- the row records nothing

drop-all : (xs : List (List ℕ)) → drop (length xs) xs ≡ []
drop-all [] = refl
drop-all (x ∷ xs) = drop-all xs

abbrev pub gone : ℕ → Row
gone k = made (Gone k) k [] [] [] Goes

answers-same : (k : ℕ) (own : List Row) → answers (gone k ∷ own) ≡ answers own
answers-same k own = ap (λ flags. answers_to flags (replies own ++ [])) (append-nil (wanted own)) ∙ ap (answers_to (wanted own)) (append-nil (replies own))

untold : (k : ℕ) (own : List Row) → all_recorded (gone k) own ≡ []
untold k own = by_loss (not (is_lost own))
  where
    none : new_answers (gone k) own ≡ []
    none = ap (λ l. map frame_payload (drop (length (answers own)) l)) (answers-same k own) ∙ ap (map frame_payload) (drop-all (answers own))

    by_loss : (b : Bool) → (elim b as (λ _. List (List ℕ)) [ true ↦ new_answers (gone k) own | false ↦ [] ]) ≡ []
    by_loss true = none
    by_loss false = refl

-- so it has its farewell alone
pub gone-row : (policy : Policy) (pid : ℕ) (picks : List ℕ) (given : List HouseReply) (k : ℕ) (rows : List Row) → next_row (by_lists policy pid picks given) rows (Gone k) ≡ made (Gone k) k [] (farewell (gone k) (rows_of k rows)) [] Goes
gone-row policy pid picks given k rows = ap (λ gs. with_farewell (queued gs (gone k) (rows_of k rows)) (rows_of k rows)) (untold k (rows_of k rows))

-- ---- with it the part represents the longer log

peer-gone : (k : ℕ) (fw : List (List ℕ)) (own : List Row) (standing : _) (queue : List ℕ) → PeerFits own standing queue → PeerFits (made (Gone k) k [] fw [] Goes ∷ own) (Lost None) queue
peer-gone k fw own standing queue f = record {
  admitted = ap (λ b. is_admit (made (Gone k) k [] fw [] Goes) || b) f.admitted;
  standing_is = refl;
  greeted_is = λ l. absurd (cc);
  queue_is = f.queue_is ∙ sym (append-nil (pending_down own));
}

pub gone-loses : (c c' : CoreState) (peer peer' : PeerState) (up up' : QueueState) → peer'.number ≡ peer.number → peer'.standing ≡ Lost None → peer'.queue ≡ peer.queue → LeavesUnsent c c' peer.number up up' → Loses (part c peer up) (part c' peer' up')
gone-loses c c' peer peer' up up' num standing queue leaves = record {
  number = num;
  standing = standing;
  goes = λ policy pid picks given rows fits live here.
      let k : ℕ = peer.number in
      let own : List Row = rows_of k rows in
      let fw : List (List ℕ) = farewell (gone k) own in
      let row : Row = made (Gone k) k [] fw [] Goes in
      let st : CoreRepresents c rows = fits.core live in
      let unlost : is_lost own ≡ false = not_lost own (out_is own ∙ (ap stands.is_standing_lost (sym fits.peer.standing_is) ∙ here)) in
      let left : Leaves c' (gone k) up up' rows = leaves rows (gone k) st (served-of c rows k st fits.peer.admitted unlost) refl refl refl refl refl in
      let mine : rows_of peer'.number (row ∷ rows) ≡ row ∷ own = ap (λ j. rows_of j (row ∷ rows)) num ∙ own_row k row rows refl in
      subst (λ (r : Row). PartFits (r ∷ rows) (part c' peer' up')) (sym (gone-row policy pid picks given k rows)) (record {
        core = λ l. left.stands;
        peer = subst (λ (o : List Row). PeerFits o peer'.standing peer'.queue) (sym mine)
            (subst (λ (s : _). PeerFits (row ∷ own) s peer'.queue) (sym standing) (subst (PeerFits (row ∷ own) (Lost None)) (sym queue) (peer-gone k fw own peer.standing peer.queue fits.peer)));
        up = left.sent ∙ ap (λ l. l ++ joined (map frame_payload fw)) fits.up;
      });
}
