-- What waits in an engine is bounded.
use Rattle.std.proofs.Common.{◌≡◌, ◌≤◌, ◌<◌, ◌++◌, ◌∙◌, ℕ, true, false, List, [], ◌∷◌, length, refl, sym, ap, subst, inl}
use Rattle.std.proofs.lemmas.Bool.{eqb-true}
use Rattle.mux_outside.specs.Streams.{among}
use Rattle.mux_outside.specs.Whose.{is_server}
use Rattle.mux_outside.specs.declared.house.HouseReply.{HouseReply}
use Rattle.mux_outside.specs.declared.mark.Mark.{Mark}
use Rattle.mux_outside.specs.declared.house_mark.HouseMark.{HouseMark as Asked}
use Rattle.mux_history.specs.declared.limits.TheConstants.{MAX_QUEUE}
use Rattle.mux_history.specs.Journal.{IsLawful}
use Rattle.mux_history.specs.Kept.{AtEach}
use Rattle.mux_history.specs.Pending.{pending, pending_down, pending_up}
use Rattle.mux_history.specs.Right.{IsRight}
use Rattle.mux_history.specs.Rows.{Row, rows_of}
use Rattle.mux_history.proofs.Journals.{journal-items}
use Rattle.mux_history.proofs.RightLogs.{right-known}
use Rattle.mux_isolation.specs.Laws.{WaitsBounded}
use Rattle.mux_isolation.proofs.Bounded.{queues-bounded}
use Rattle.mux_bounds.specs.Bounds.{StaysBelow, longest_server_queue}
use Rattle.mux_bounds.proofs.ServerQueue.{stays-below}
use Rattle.mux_state.specs.Bounds.{QueueShort, QueuesShort, ReadsInTime}
use Rattle.mux_state.specs.State.{EngineState, queue_in}
use Rattle.mux_state.specs.Stands.{RowsFit, RepresentsSoFar, log, run_setting}
use Rattle.mux_state.proofs.Queues.{queue-pending}

at-last : (P : List Row → Type 0) (rows : List Row) → AtEach P rows → P rows
at-last P [] all = all
at-last P (row ∷ before) all = all.0

-- the log of an engine is right
right : (picks : List ℕ) (replies : List HouseReply) (taken : ℕ) (s : EngineState) (closed : List ℕ) (marks : List Mark) (dn : List Asked) → RowsFit taken dn s closed (log s picks replies marks) → IsRight (run_setting s picks replies) marks 0 (log s picks replies marks)
right picks replies taken s closed marks dn st = record { determined = journal-items s.core.policy s.pid picks replies marks; fresh = st.fresh }

-- a client's stream has what its rows leave
of-client : (k : ℕ) (rows : List Row) → is_server k ≡ false → pending k rows ≡ pending_down (rows_of k rows)
of-client k rows nz = ap (λ b. elim b as (λ _. List ℕ) [ true ↦ pending_up rows | false ↦ pending_down (rows_of k rows) ]) nz

pub short : (s : EngineState) → QueuesShort s
short s picked given marks closed st lawful stream unclosed = record { client = client; server = server }
  where
    rows : List Row
    rows = log s (picked ++ []) (given ++ []) marks

    client : is_server stream ≡ false → length (queue_in s stream) ≤ MAX_QUEUE
    client nz =
        let fit = (st.at [] []).rows in
        let bounds : WaitsBounded rows = at-last WaitsBounded rows (queues-bounded s.core.policy s.pid rows (right-known s.core.policy s.pid (picked ++ []) (given ++ []) marks 0 rows lawful (right (picked ++ []) (given ++ []) (length picked) s closed marks st.asks fit))) in
        let waits : queue_in s stream ≡ pending_down (rows_of stream rows) = queue-pending (length picked) st.asks s closed rows stream fit unclosed ∙ of-client stream rows nz in
        subst (λ bytes. length bytes ≤ MAX_QUEUE) (sym waits) (bounds stream)

    server : is_server stream ≡ true → ReadsInTime picked given s marks → length (queue_in s stream) < longest_server_queue
    server zero rooms =
        let fit = (st.at [] []).rows in
        let bounds : StaysBelow rows = at-last StaysBelow rows (stays-below s.core.policy s.pid (picked ++ []) (given ++ []) marks rows lawful (inl refl) fit.fresh (rooms [] [])) in
        let waits : queue_in s stream ≡ pending 0 rows = queue-pending (length picked) st.asks s closed rows stream fit unclosed ∙ ap (λ t. pending t rows) (eqb-true stream 0 zero) in
        subst (λ bytes. length bytes < longest_server_queue) (sym waits) bounds.below

-- the same of bytes that are what waits
pub short-here : (s : EngineState) (stream : ℕ) (bytes : List ℕ) (picked : List ℕ) (given : List HouseReply) (marks : List Mark) (closed : List ℕ) → bytes ≡ queue_in s stream → RepresentsSoFar picked given s marks closed → IsLawful marks → among stream closed ≡ false → QueueShort picked given s marks stream bytes
short-here s stream bytes picked given marks closed is st lawful unclosed = subst (QueueShort picked given s marks stream) (sym is) (short s picked given marks closed st lawful stream unclosed)
