-- An engine stays as it is where no client is read.
use Rattle.std.proofs.Common.{◌≡◌, ◌≢◌, ℕ, zero, suc, Bool, true, false, not, ◌||◌, List, [], ◌∷◌, ◌++◌, length, drop, map, Option, None, refl, sym, ap, ◌∙◌, subst, append-nil}
use Rattle.std.specs.Prelude.{◌==◌, is_some}
use Rattle.std.proofs.lemmas.Bool.{eq-eqb, eqb-true}
use Rattle.ssh_grammar.specs.Said.{InControl, Parsed, Outgoing, Stopped, parse, said}
use Rattle.ssh_grammar.proofs.Parses.{parse-append}
use Rattle.mux_outside.specs.declared.house_mark.HouseMark.{HouseMark as Asked}
use Rattle.mux_outside.specs.Streams.{among}
use Rattle.mux_outside.specs.declared.house.HouseReply.{HouseReply}
use Rattle.mux_outside.specs.declared.mark.Mark.{Mark}
use Rattle.mux_outside.specs.declared.mark.Mark.TheVariants.{Gets}
use Rattle.mux_history.specs.Rows.{Row, rows_of, is_out, is_run_over}
use Rattle.mux_history.specs.Log.{Setting, more_all, more_of, next_row}
use Rattle.mux_history.specs.Journal.{bytes_of, is_accepted, new_sayings, sent_item}
use Rattle.mux_peers.specs.declared.standing.Standing.{Standing}
use Rattle.mux_peers.specs.declared.standing.Standing.TheVariants.{Awaited, Greeted, Proxied, Unread, Lost}
use Rattle.mux_peers.specs.State.{ClientState}
use Rattle.mux_peers.specs.Stands.{is_standing_lost, is_read, parse_mode_of}
use Rattle.mux_peers.specs.Among.{EachFits, is_present}
use Rattle.mux_peers.specs.Asked.{asks_of_rows}
use Rattle.mux_peers.proofs.Heeding.{records_none}
use Rattle.mux_peers.proofs.Stood.{out_is}
use Rattle.mux_state.specs.Moves.{IsGone, NoneStands, not_lost}
use Rattle.mux_state.specs.State.{EngineState}
use Rattle.mux_state.specs.Stands.{BytesFit, ClientReads, EachReads, GoesAlone, GoesOn, IsAllowed, RowsFit, ServerReads, RepresentsSoFar, EngineRepresents, log, run_setting}
use Rattle.mux_state.proofs.Gains.{gets-log, gets-own, gets-quiet}
use Rattle.mux_state.proofs.Lists.{either, true_false}
use Rattle.mux_state.proofs.Loses.{still-gone}
use Rattle.mux_state.proofs.Refused.{refused-out}
use Rattle.mux_state.proofs.Over.{are-bytes-on, next-live, some-end, strange-on}

-- ---- whoever isn't read

no-said : (s : Setting) (k : ℕ) (x : Outgoing) (rows : List Row) → is_run_over rows ≡ false → is_out (rows_of k rows) ≡ true → more_of s rows (sent_item k x) ≡ rows
no-said s k x rows live out = ap (λ b. elim b as (λ _. List Row) [ false ↦ rows | true ↦ next_row s rows (sent_item k x) ∷ rows ]) (next-live rows (sent_item k x) live ∙ ap not out)

none-said : (s : Setting) (k : ℕ) (xs : List Outgoing) (rows : List Row) → is_run_over rows ≡ false → is_out (rows_of k rows) ≡ true → more_all s rows (map (sent_item k) xs) ≡ rows
none-said s k [] rows live out = refl
none-said s k (x ∷ xs) rows live out = ap (λ r. more_all s r (map (sent_item k) xs)) (no-said s k x rows live out) ∙ none-said s k xs rows live out

drop-same : (xs : List Outgoing) → drop (length xs) (xs ++ []) ≡ []
drop-same [] = refl
drop-same (x ∷ xs) = drop-same xs

stopped-parse : (bytes : List ℕ) → ((parse Stopped bytes).says ≡ []) × ((parse Stopped bytes).mode ≡ Stopped)
stopped-parse bytes = by_length (length bytes)
  where
    by_length : (n : ℕ) → ((Rattle.ssh_grammar.specs.Said.parse_by n Stopped bytes).says ≡ []) × ((Rattle.ssh_grammar.specs.Said.parse_by n Stopped bytes).mode ≡ Stopped)
    by_length zero = (refl, refl)
    by_length (suc n) = (refl, refl)

-- what is sent where the reading has stopped
stopped-says : (a b : List ℕ) → (parse InControl a).mode ≡ Stopped → drop (length (said a)) (said (a ++ b)) ≡ []
stopped-says a b e =
    ap (λ (p : Parsed). drop (length (said a)) p.says) (parse-append InControl a b)
    ∙ (ap (λ l. drop (length (said a)) (said a ++ l)) (ap (λ m. (parse m ((parse InControl a).rest ++ b)).says) e ∙ (stopped-parse ((parse InControl a).rest ++ b)).0) ∙ drop-same (said a))

stopped-mode : (a b : List ℕ) → (parse InControl a).mode ≡ Stopped → (parse InControl (a ++ b)).mode ≡ Stopped
stopped-mode a b e = ap (λ (p : Parsed). p.mode) (parse-append InControl a b) ∙ (ap (λ m. (parse m ((parse InControl a).rest ++ b)).mode) e ∙ (stopped-parse ((parse InControl a).rest ++ b)).1)

-- a client that isn't out and isn't read has stopped for good
unread-mode : (s : Standing) → is_standing_lost s ≡ false → is_read s ≡ false → parse_mode_of s ≡ Stopped
unread-mode Awaited l e = true_false e
unread-mode Greeted l e = true_false e
unread-mode Proxied l e = true_false e
unread-mode Unread l e = refl
unread-mode (Lost why) l e = refl

-- ---- one that is out isn't among those that are served

abbrev IsStopped : List ℕ → Type 0
IsStopped bytes = (parse InControl bytes).mode ≡ Stopped

-- of a client that is here: it is out, or it has stopped
here-stopped : (k : ℕ) (rows : List Row) (marks : List Mark) (cs : List ClientState) → is_present cs k ≡ true → NoneStands is_read k cs → EachFits rows cs → EachReads marks cs → is_out (rows_of k rows) ≡ false → IsStopped (bytes_of k marks)
here-stopped k rows marks [] p n fit reads in' = absurd (cc)
here-stopped k rows marks (c ∷ cs) p n fit reads in' = by_head (c.peer.number == k) refl p (λ q. here-stopped k rows marks cs q n.1 fit.1 reads.1 in')
  where
    by_head : (b : Bool) → (c.peer.number == k) ≡ b → either b (is_present cs k) ≡ true → (is_present cs k ≡ true → IsStopped (bytes_of k marks)) → IsStopped (bytes_of k marks)
    by_head true e q ih =
        let num : c.peer.number ≡ k = eqb-true c.peer.number k e in
        let here : is_standing_lost c.peer.standing ≡ false = ap is_standing_lost fit.0.peer.standing_is ∙ (sym (out_is (rows_of c.peer.number rows)) ∙ (ap (λ j. is_out (rows_of j rows)) num ∙ in')) in
        ap (λ j. (parse InControl (bytes_of j marks)).mode) (sym num) ∙ (reads.0.mode_is here ∙ unread-mode c.peer.standing here (n.0 e))
    by_head false e q ih = ih q

-- of one that isn't lost and is here
here-in : (k : ℕ) (rows : List Row) (cs : List ClientState) → is_present cs k ≡ true → NoneStands not_lost k cs → EachFits rows cs → is_out (rows_of k rows) ≡ true
here-in k rows [] p n fit = absurd (cc)
here-in k rows (c ∷ cs) p n fit = by_head (c.peer.number == k) refl p (λ q. here-in k rows cs q n.1 fit.1)
  where
    lost : (b : Bool) → not b ≡ false → b ≡ true
    lost true e = refl
    lost false e = true_false e

    by_head : (b : Bool) → (c.peer.number == k) ≡ b → either b (is_present cs k) ≡ true → (is_present cs k ≡ true → is_out (rows_of k rows) ≡ true) → is_out (rows_of k rows) ≡ true
    by_head true e q ih = ap (λ j. is_out (rows_of j rows)) (sym (eqb-true c.peer.number k e)) ∙ (out_is (rows_of c.peer.number rows) ∙ (ap is_standing_lost (sym fit.0.peer.standing_is) ∙ lost (is_standing_lost c.peer.standing) (n.0 e)))
    by_head false e q ih = ih q

-- one that was accepted and isn't among the clients is out
pub gone-out : (taken : ℕ) (dn : List Asked) (s : EngineState) (marks : List Mark) (closed : List ℕ) (rows : List Row) (k : ℕ) → is_run_over rows ≡ false → is_accepted k marks ≡ true → is_present s.clients k ≡ false → RowsFit taken dn s closed rows → BytesFit s marks closed rows → is_out (rows_of k rows) ≡ true
gone-out taken dn s marks closed rows k live al gone fit st = by_refused (among k s.refused) refl
  where
    by_refused : (b : Bool) → among k s.refused ≡ b → is_out (rows_of k rows) ≡ true
    by_refused true e = refused-out k rows (fit.refused_only k e)
    by_refused false e = fit.closed_out k (st.there live k al (ap (λ b. b || among k s.refused) gone ∙ e))

-- all clients of this number are lost, or there is none
pub lost-out : (taken : ℕ) (dn : List Asked) (s : EngineState) (marks : List Mark) (closed : List ℕ) (rows : List Row) (k : ℕ) → is_run_over rows ≡ false → is_accepted k marks ≡ true → NoneStands not_lost k s.clients → RowsFit taken dn s closed rows → BytesFit s marks closed rows → is_out (rows_of k rows) ≡ true
lost-out taken dn s marks closed rows k live al none fit st = by_present (is_present s.clients k) refl
  where
    by_present : (b : Bool) → is_present s.clients k ≡ b → is_out (rows_of k rows) ≡ true
    by_present true e = here-in k rows s.clients e none fit.fit.each
    by_present false e = gone-out taken dn s marks closed rows k live al e fit st

-- ---- bytes of a client that isn't read

says-nothing : (taken : ℕ) (dn : List Asked) (s : EngineState) (picks : List ℕ) (replies : List HouseReply) (marks : List Mark) (closed : List ℕ) (rows : List Row) (k : ℕ) (bytes : List ℕ) → is_run_over rows ≡ false → is_accepted k marks ≡ true → NoneStands is_read k s.clients → RowsFit taken dn s closed rows → BytesFit s marks closed rows
    → more_all (run_setting s picks replies) rows (new_sayings k (bytes_of k marks) (bytes_of k marks ++ bytes)) ≡ rows
says-nothing taken dn s picks replies marks closed rows k bytes live al none fit st = by_out (is_out (rows_of k rows)) refl
  where
    set : Setting
    set = run_setting s picks replies

    said-now : List Outgoing
    said-now = drop (length (said (bytes_of k marks))) (said (bytes_of k marks ++ bytes))

    by_present : (b : Bool) → is_present s.clients k ≡ b → is_out (rows_of k rows) ≡ false → IsStopped (bytes_of k marks)
    by_present true e o = here-stopped k rows marks s.clients e none fit.fit.each (st.clients live) o
    by_present false e o = true_false (sym (gone-out taken dn s marks closed rows k live al e fit st) ∙ o)

    by_out : (b : Bool) → is_out (rows_of k rows) ≡ b → more_all set rows (map (sent_item k) said-now) ≡ rows
    by_out true e = none-said set k said-now rows live e
    by_out false e = ap (λ xs. more_all set rows (map (sent_item k) xs)) (stopped-says (bytes_of k marks) bytes (by_present (is_present s.clients k) refl e))

reads-still : (k : ℕ) (bytes : List ℕ) (marks : List Mark) (cs : List ClientState) → NoneStands is_read k cs → EachReads marks cs → EachReads (Gets k bytes ∷ marks) cs
reads-still k bytes marks [] n e = tt
reads-still k bytes marks (c ∷ cs) n e = (by_head (c.peer.number == k) refl, reads-still k bytes marks cs n.1 e.1)
  where
    by_head : (b : Bool) → (c.peer.number == k) ≡ b → ClientReads (bytes_of c.peer.number (Gets k bytes ∷ marks)) c
    by_head true t =
        let num : c.peer.number ≡ k = eqb-true c.peer.number k t in
        let unread : is_read c.peer.standing ≡ false = n.0 t in
        subst (λ u. ClientReads u c) (sym (ap (λ j. bytes_of j (Gets k bytes ∷ marks)) num ∙ (gets-own k bytes marks ∙ ap (λ j. bytes_of j marks ++ bytes) (sym num)))) record {
          mode_is = λ l. stopped-mode (bytes_of c.peer.number marks) bytes (e.0.mode_is l ∙ unread-mode c.peer.standing l unread) ∙ sym (unread-mode c.peer.standing l unread);
          rest_is = λ r. true_false (sym r ∙ unread);
        }
    by_head false t = subst (λ u. ClientReads u c) (sym (ap (λ b. bytes_of c.peer.number marks ++ b) (gets-quiet k c.peer.number bytes (λ d. true_false (sym (eq-eqb c.peer.number k (sym d)) ∙ t))) ∙ append-nil (bytes_of c.peer.number marks))) e.0

pub goes-unheard : (May : HouseReply → Type 0) (recorded : Option (List Asked)) (s : EngineState) (k : ℕ) (bytes : List ℕ) → k ≢ 0 → s.ended ≡ None → NoneStands is_read k s.clients → GoesOn May recorded recorded s s (Gets k bytes)
goes-unheard May recorded s k bytes nz none unread picked given marks closed st al = record {
  picks = [];
  replies = [];
  asks = [];
  may = tt;
  stands = subst (λ p. RepresentsSoFar p (given ++ []) s (Gets k bytes ∷ marks) closed) (sym (append-nil picked)) (subst (λ r. RepresentsSoFar picked r s (Gets k bytes ∷ marks) closed) (sym (append-nil given)) stands);
  recorded = records_none recorded;
  asked = λ picks replies. ap asks_of_rows (at ((picked ++ []) ++ picks) ((given ++ []) ++ replies) picks replies (ap (λ l. l ++ picks) (append-nil picked), ap (λ l. l ++ replies) (append-nil given))) ∙ sym (append-nil (asks_of_rows (log s ((picked ++ []) ++ picks) ((given ++ []) ++ replies) marks)));
}
  where
    stood : (picks : List ℕ) (replies : List HouseReply) → EngineRepresents (picked ++ picks) (given ++ replies) (length picked) st.asks s marks closed
    stood picks replies = st.at picks replies

    at : (p : List ℕ) (r : List HouseReply) (picks : List ℕ) (replies : List HouseReply) → (p ≡ picked ++ picks) × (r ≡ given ++ replies) → log s p r (Gets k bytes ∷ marks) ≡ log s p r marks
    at p r picks replies e =
        let v = stood picks replies in
        let rows : List Row = log s (picked ++ picks) (given ++ replies) marks in
        let live : is_run_over rows ≡ false = sym (some-end rows) ∙ ap is_some (sym v.rows.ended_is ∙ none) in
        let is : log s (picked ++ picks) (given ++ replies) (Gets k bytes ∷ marks) ≡ rows = gets-log s (picked ++ picks) (given ++ replies) k bytes marks nz al.2 ∙ says-nothing (length picked) st.asks s (picked ++ picks) (given ++ replies) marks closed rows k bytes live (al.0 nz) unread v.rows v.bytes in
        subst (λ q. log s q r (Gets k bytes ∷ marks) ≡ log s q r marks) (sym e.0) (subst (λ q. log s (picked ++ picks) q (Gets k bytes ∷ marks) ≡ log s (picked ++ picks) q marks) (sym e.1) is)

    stands : RepresentsSoFar picked given s (Gets k bytes ∷ marks) closed
    stands = record {
      asks = st.asks;
      each = st.each;
      at = λ picks replies.
          let v = stood picks replies in
          let rows : List Row = log s (picked ++ picks) (given ++ replies) marks in
          let live : is_run_over rows ≡ false = sym (some-end rows) ∙ ap is_some (sym v.rows.ended_is ∙ none) in
          let is : log s (picked ++ picks) (given ++ replies) (Gets k bytes ∷ marks) ≡ rows = at (picked ++ picks) (given ++ replies) picks replies (refl, refl) in
          record {
            rows = subst (RowsFit (length picked) st.asks s closed) (sym is) v.rows;
            bytes = subst (BytesFit s (Gets k bytes ∷ marks) closed) (sym is) record {
              are_bytes = are-bytes-on s marks (Gets k bytes) tt al v.bytes.are_bytes;
              clients = λ l. reads-still k bytes marks s.clients unread (v.bytes.clients l);
              server = λ l. subst (λ b. ServerReads b s.server) (sym (ap (λ b. bytes_of 0 marks ++ b) (gets-quiet k 0 bytes nz) ∙ append-nil (bytes_of 0 marks))) (v.bytes.server l);
              there = v.bytes.there;
              strange = λ j a. strange-on s marks closed (Gets k bytes) j tt al v.bytes.strange a;
            };
          };
    }

-- ---- a client that is lost already, or isn't there

pub goes-unlost : (s : EngineState) (k : ℕ) (mark : Mark) → k ≢ 0 → IsGone mark k → s.ended ≡ None → NoneStands not_lost k s.clients → GoesAlone s s mark
goes-unlost s k mark nz g live none = still-gone s s k mark nz g live refl (λ picks replies taken dn marks closed v al on. lost-out taken dn s marks closed (log s picks replies marks) k on (accepted marks mark al g) none v.rows v.bytes)
  where
    accepted : (marks : List Mark) (mark : Mark) → IsAllowed s marks mark → IsGone mark k → is_accepted k marks ≡ true
    accepted marks (Rattle.mux_outside.specs.declared.mark.Mark.TheVariants.Ends j) al g = ap (λ i. is_accepted i marks) (sym g) ∙ al.0 (λ z. nz (sym g ∙ z))
    accepted marks (Rattle.mux_outside.specs.declared.mark.Mark.TheVariants.Fails j) al g = ap (λ i. is_accepted i marks) (sym g) ∙ al.0 (λ z. nz (sym g ∙ z))
    accepted marks (Rattle.mux_outside.specs.declared.mark.Mark.TheVariants.WriteFails j) al g = ap (λ i. is_accepted i marks) (sym g) ∙ al.0 (λ z. nz (sym g ∙ z))
    accepted marks mark al g = absurd g
