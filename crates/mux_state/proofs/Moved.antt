-- An engine goes on where no client more comes.
use Rattle.std.proofs.Common.{◌≡◌, ◌≢◌, ℕ, Bool, true, false, ◌||◌, List, [], ◌∷◌, ◌++◌, length, Option, refl, sym, ap, ◌∙◌}
use Rattle.std.specs.Prelude.{filter, ◌==◌}
use Rattle.mux_outside.specs.Streams.{among}
use Rattle.mux_outside.specs.declared.house_mark.HouseMark.{HouseMark as Asked}
use Rattle.mux_history.specs.declared.why.Why.{Why}
use Rattle.mux_history.specs.Rows.{Row, rows_of, is_out, is_run_over, losses}
use Rattle.mux_history.specs.Choices.{numbers_taken, replies_given}
use Rattle.mux_history.specs.Right.{AreFresh}
use Rattle.mux_history.specs.Solo.{run_end_of}
use Rattle.mux_history.specs.Promises.{is_still_accepting}
use Rattle.mux_peers.specs.State.{ClientState}
use Rattle.mux_peers.specs.Among.{AllFit, is_present}
use Rattle.mux_peers.specs.Asked.{asks_of_rows}
use Rattle.mux_state.specs.State.{EngineState, is_here, numbers, waiting_streams}
use Rattle.mux_state.specs.Stands.{RowsFit, not_closed, next_frame_place, refused_client_row}
use Rattle.mux_state.proofs.Grows.{Grows, filter-append, served-grows}
use Rattle.mux_state.proofs.Lists.{either}

-- who is there depends on the numbers alone
pub present-numbers : (cs cs' : List ClientState) (k : ℕ) → numbers cs' ≡ numbers cs → is_present cs' k ≡ is_present cs k
present-numbers cs cs' k e = present-in cs' ∙ (ap (λ l. in-list l) e ∙ sym (present-in cs))
  where
    in-list : List ℕ → Bool
    in-list [] = false
    in-list (j ∷ js) = either (j == k) (in-list js)

    present-in : (cs : List ClientState) → is_present cs k ≡ in-list (numbers cs)
    present-in [] = refl
    present-in (c ∷ cs) = ap (either (c.peer.number == k)) (present-in cs)

-- what a move says of its own
pub record Moves (taken : ℕ) (drawn : List Asked) (loss : List (ℕ × Option Why)) (closed : List ℕ) (old new : EngineState) (rows rows' : List Row) : Type 0 where
  pub grows : Grows rows rows' loss
  pub numbers_are : numbers new.clients ≡ numbers old.clients
  pub refused_is : new.refused ≡ old.refused
  pub taken_is : numbers_taken rows' ≡ taken
  pub drawn_is : replies_given rows' ≡ length drawn
  pub asked_is : asks_of_rows rows' ≡ drawn
  pub fresh : AreFresh rows'
  pub fit : AllFit rows' new.core new.clients new.up
  pub ended_is : new.ended ≡ run_end_of rows'
  pub listening_is : new.listening ≡ is_still_accepting rows'
  pub waiting_is : new.waiting ≡ waiting_streams new
  pub leaving_are : new.leaving ≡ old.leaving ++ loss
  -- those that are lost now were not closed before
  pub unclosed : filter (not_closed closed) loss ≡ loss
  pub place_is : is_run_over rows' ≡ false → new.server.index ≡ next_frame_place rows'
  pub absent : (k : ℕ) → k ≢ 0 → is_here old k ≡ false → rows_of k rows ≡ [] → rows_of k rows' ≡ []
  -- a client that was refused has no row more
  pub refused_stay : (k : ℕ) → rows_of k rows ≡ refused_client_row k ∷ [] → rows_of k rows' ≡ refused_client_row k ∷ []
  pub server_in : is_out (rows_of 0 rows') ≡ false

pub here-same : (old new : EngineState) (k : ℕ) → numbers new.clients ≡ numbers old.clients → new.refused ≡ old.refused → is_here new k ≡ is_here old k
here-same old new k e r = ap (λ b. b || among k new.refused) (present-numbers old.clients new.clients k e) ∙ ap (λ js. is_present old.clients k || among k js) r

pub moved : (taken taken' : ℕ) (drawn drawn' : List Asked) (loss : List (ℕ × Option Why)) (closed : List ℕ) (old new : EngineState) (rows rows' : List Row) → RowsFit taken drawn old closed rows → Moves taken' drawn' loss closed old new rows rows' → RowsFit taken' drawn' new closed rows'
moved taken taken' drawn drawn' loss closed old new rows rows' st m = record {
  taken_is = m.taken_is;
  drawn_is = m.drawn_is;
  asked_is = m.asked_is;
  fresh = m.fresh;
  fit = m.fit;
  ended_is = m.ended_is;
  listening_is = m.listening_is;
  waiting_is = m.waiting_is;
  leaving_are = m.leaving_are ∙ (ap (λ l. l ++ loss) st.leaving_are ∙ (ap (λ l. filter (not_closed closed) (losses rows) ++ l) (sym m.unclosed) ∙ (sym (filter-append (not_closed closed) (losses rows) loss) ∙ ap (filter (not_closed closed)) (sym m.grows.losses_are))));
  served_are = served-grows rows rows' loss old.clients new.clients m.grows st.fit.each m.fit.each m.numbers_are st.served_are;
  place_is = m.place_is;
  absent = λ k z p q. let here : is_here old k ≡ false = sym (here-same old new k m.numbers_are m.refused_is) ∙ p in m.absent k z here (st.absent k z here q);
  closed_gone = λ k q. here-same old new k m.numbers_are m.refused_is ∙ st.closed_gone k q;
  refused_only = λ k q. let was : among k old.refused ≡ true = ap (among k) (sym m.refused_is) ∙ q in m.refused_stay k (st.refused_only k was);
  closed_out = λ k q. m.grows.out_stays k (st.closed_out k q);
  known = λ k a. m.grows.known k (st.known k (ap (among k) (sym m.grows.entered_is) ∙ a));
  unentered = ap (among 0) m.grows.entered_is ∙ st.unentered;
  server_in = m.server_in;
}
