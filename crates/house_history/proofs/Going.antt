-- A run goes on with its forwarder: what the history has of it, and what it has received.
use Rattle.std.proofs.Common.{◌≡◌, ◌≤◌, ◌<◌, ◌+◌, ℕ, Bool, true, false, ◌||◌, Some, List, [], ◌∷◌, ◌++◌, refl, sym, ap, ◌∙◌, subst, map, append-nil, length}
use Rattle.std.specs.Prelude.{◌==◌}
use Rattle.mux_history.specs.declared.limits.TheConstants.{HOUSE}
use Rattle.mux_history.specs.Channels.{Channel, channels_of, held_of}
use Rattle.mux_history.specs.Controls.{client_has_greeted}
use Rattle.mux_history.specs.Forwardings.{forwardings_of}
use Rattle.mux_history.specs.Pending.{joined, pending, pending_down}
use Rattle.mux_history.specs.Requests.{wanted_requests, unanswered_asks}
use Rattle.mux_history.specs.Rows.{Row, is_end, is_run_over, is_lost, is_out, rows_of}
use Rattle.mux_bounds.proofs.Closed.{lost-out}
use Rattle.mux_history.proofs.Finds.{filter-no, filter-yes}
use Rattle.ssh_grammar.specs.Frames.{frame_payload}
use Rattle.ssh_grammar.specs.Said.{InControl, InProxy, parse}
use Rattle.house_forward.specs.RelayTraces.{Trace}
use Rattle.house_forward.specs.declared.forwarder_state.ForwarderStage.{ForwarderStage}
use Rattle.house_history.proofs.Lists.{Each}
use Rattle.house_history.proofs.Receiving.{GrantedOrProxy, IsSizedPayload, Recorded, Ungranted, Waits, more-granted, recorded-more}
use Rattle.house_history.proofs.RowsOf.{AllUsed}
use Rattle.house_history.proofs.Turns.{Good}
use Rattle.house_history.proofs.Seen.{Seen, note-in}
use Rattle.house_history.proofs.AnswersOf.{replies-in}

-- nothing was sent yet: no channel, no request and no forwarding
pub record IsYoung (own : List Row) : Type 0 where
  pub channels : channels_of own ≡ []
  pub asked : wanted_requests own ≡ []
  pub forwardings : forwardings_of own ≡ []
  pub silent : client_has_greeted own ≡ false

-- whether the forwarder greeted
abbrev pub Phase : Bool → ForwarderStage → Recorded → List Row → Type 0
Phase false stage recorded own = Ungranted stage recorded × IsYoung own
Phase true stage recorded own = GrantedOrProxy stage recorded

-- A run goes on, with its forwarder. What waits for that and what it has not read yet is what it
-- was sent and didn't receive. Once it receives it, its relays fit its channels. Its unanswered
-- requests are those of the history and those whose reply it didn't receive.
pub record Going (rows : List Row) (trace : Trace) (recorded : Recorded) : Type 0 where
  pub on : is_run_over rows ≡ false
  pub inside : is_out (rows_of HOUSE rows) ≡ false
  pub waits : Waits trace (pending HOUSE rows) recorded
  pub seen : Seen (held_of (rows_of HOUSE rows)) trace.relay_traces (map note-in recorded.payloads)
  pub requests : length trace.forwarding_state.requests ≡ unanswered_asks (rows_of HOUSE rows) + replies-in recorded.payloads
  pub phase : Phase trace.forwarding_state.greeted trace.stage recorded (rows_of HOUSE rows)

-- a client that is not out is not lost
pub in-kept : (own : List Row) → is_out own ≡ false → is_lost own ≡ false
in-kept own inside = by_case (is_lost own) refl
  where
    by_case : (b : Bool) → is_lost own ≡ b → is_lost own ≡ false
    by_case false e = e
    by_case true e = absurd (let out = lost-out own e in cc)

-- ---- rows of others

pub others-stay : (row : Row) (rows : List Row) → (row.client == HOUSE) ≡ false → rows_of HOUSE (row ∷ rows) ≡ rows_of HOUSE rows
others-stay row rows e = filter-no (λ (r : Row). r.client == HOUSE) row rows e

pub own-more : (row : Row) (rows : List Row) → (row.client == HOUSE) ≡ true → rows_of HOUSE (row ∷ rows) ≡ row ∷ rows_of HOUSE rows
own-more row rows e = filter-yes (λ (r : Row). r.client == HOUSE) row rows e

ended-more : (row : Row) (rows : List Row) → is_end row.fate ≡ false → is_run_over rows ≡ false → is_run_over (row ∷ rows) ≡ false
ended-more row rows e f = ap (λ (b : Bool). b || is_run_over rows) e ∙ f

-- what a run has by the forwarder's rows and what waits for it alone
pub going-by : (rows more : List Row) (trace : Trace) (recorded : Recorded) → is_run_over more ≡ false → rows_of HOUSE more ≡ rows_of HOUSE rows → Going rows trace recorded → Going more trace recorded
going-by rows more trace recorded on same g = record {
  on = on;
  inside = ap is_out same ∙ g.inside;
  waits = subst (λ (own : List Row). Waits trace (pending_down own) recorded) (sym same) g.waits;
  seen = subst (λ (own : List Row). Seen (held_of own) trace.relay_traces (map note-in recorded.payloads)) (sym same) g.seen;
  requests = g.requests ∙ ap (λ (own : List Row). unanswered_asks own + replies-in recorded.payloads) (sym same);
  phase = subst (Phase trace.forwarding_state.greeted trace.stage recorded) (sym same) g.phase;
}

pub going-others : (row : Row) (rows : List Row) (trace : Trace) (recorded : Recorded) → (row.client == HOUSE) ≡ false → is_end row.fate ≡ false → Going rows trace recorded → Going (row ∷ rows) trace recorded
going-others row rows trace recorded other unended g = going-by rows (row ∷ rows) trace recorded (ended-more row rows unended g.on) (others-stay row rows other) g

-- ---- a row that records payloads for the forwarder

abbrev pub more-recorded : Recorded → List (List ℕ) → Recorded
more-recorded t qs = record t { payloads = t.payloads ++ qs }

append-one : (xs ys : List (List ℕ)) (y : List ℕ) → (xs ++ y ∷ []) ++ ys ≡ xs ++ y ∷ ys
append-one [] ys y = refl
append-one (x ∷ xs) ys y = ap (λ (l : List (List ℕ)). x ∷ l) (append-one xs ys y)

append-three : (xs ys zs : List ℕ) → (xs ++ ys) ++ zs ≡ xs ++ (ys ++ zs)
append-three [] ys zs = refl
append-three (x ∷ xs) ys zs = ap (λ (l : List ℕ). x ∷ l) (append-three xs ys zs)

pub recorded-all : (trace : Trace) (qs : List (List ℕ)) (pending : List ℕ) (t : Recorded) → Waits trace pending t → GrantedOrProxy trace.stage t → Each IsSizedPayload qs
    → Waits trace (pending ++ joined (map frame_payload qs)) (more-recorded t qs) × GrantedOrProxy trace.stage (more-recorded t qs)
recorded-all trace [] pending t w g sized = (
  subst (λ (p : List ℕ). Waits trace p (more-recorded t [])) (sym (append-nil pending)) (subst (λ (ps : List (List ℕ)). Waits trace pending (record t { payloads = ps })) (sym (append-nil t.payloads)) w),
  subst (λ (ps : List (List ℕ)). GrantedOrProxy trace.stage (record t { payloads = ps })) (sym (append-nil t.payloads)) g,
)
recorded-all trace (q ∷ qs) pending t w g sized =
    let one = recorded-more trace pending t q w g sized.0.0 sized.0.1 in
    let next = recorded-all trace qs (pending ++ frame_payload q) (record t { payloads = t.payloads ++ q ∷ [] }) one (more-granted trace.stage t q g) sized.1 in (
      subst (λ (p : List ℕ). Waits trace p (more-recorded t (q ∷ qs))) (append-three pending (frame_payload q) (joined (map frame_payload qs)))
          (subst (λ (ps : List (List ℕ)). Waits trace ((pending ++ frame_payload q) ++ joined (map frame_payload qs)) (record t { payloads = ps })) (append-one t.payloads qs q) next.0),
      subst (λ (ps : List (List ℕ)). GrantedOrProxy trace.stage (record t { payloads = ps })) (append-one t.payloads qs q) next.1,
    )

-- ---- what is known of a right log at these rows

pub record RightAt (rows : List Row) : Type 0 where
  pub good : Good (held_of (rows_of HOUSE rows))
  pub mine : Each (λ (x : Channel). x.client ≡ HOUSE) (held_of (rows_of HOUSE rows))
  pub owned : Each (λ (x : Channel). (n : ℕ) → x.number ≡ Some n → (c : ℕ) × (x.own ≡ Some c) × (c < 4294967296)) (held_of (rows_of HOUSE rows))
  pub used : is_run_over rows ≡ false → AllUsed (rows_of HOUSE rows)

-- What waits for the forwarder and what it has not read yet is what it was sent and didn't receive.
-- Once it receives it, its relays fit channels that the history had of it.
pub record Still (rows : List Row) (trace : Trace) : Type 0 where
  pub recorded : Recorded
  pub channels : List Channel
  pub waits : Waits trace (pending HOUSE rows) recorded
  pub seen : Seen channels trace.relay_traces (map note-in recorded.payloads)

pub still-same : (rows more : List Row) (trace : Trace) → rows_of HOUSE more ≡ rows_of HOUSE rows → Still rows trace → Still more trace
still-same rows more trace same s = record {
  recorded = s.recorded;
  channels = s.channels;
  waits = subst (λ (own : List Row). Waits trace (pending_down own) s.recorded) (sym same) s.waits;
  seen = s.seen;
}

-- while the run goes on it is so
pub still-of : (rows : List Row) (trace : Trace) (recorded : Recorded) → Going rows trace recorded → Still rows trace
still-of rows trace recorded g = record {
  recorded = recorded;
  channels = held_of (rows_of HOUSE rows);
  waits = g.waits;
  seen = g.seen;
}

-- the run ends by a row, and the forwarder isn't dropped; or it goes on, and not much more waits
-- for the forwarder
pub data Next (rows more : List Row) (trace : Trace) (most : ℕ) : Type 0 where
  Ends : is_run_over more ≡ true → is_lost (rows_of HOUSE more) ≡ false → Still more trace → Next rows more trace most
  GoesOn : (recorded : Recorded) → Going more trace recorded → length (pending HOUSE more) ≤ length (pending HOUSE rows) + most → Next rows more trace most

-- what is so after some rows and calls: the run is over, and the forwarder wasn't dropped; or it
-- goes on
pub data After (more : List Row) (trace : Trace) : Type 0 where
  IsOver : is_run_over more ≡ true → is_lost (rows_of HOUSE more) ≡ false → Still more trace → After more trace
  IsOn : (recorded : Recorded) → Going more trace recorded → After more trace

-- all bytes that the forwarder sent: none before it greets, and whole frames after
abbrev pub SentSo : Bool → List ℕ → Type 0
SentSo false bytes = bytes ≡ []
SentSo true bytes = ((parse InControl bytes).mode ≡ InProxy) × ((parse InControl bytes).rest ≡ [])
