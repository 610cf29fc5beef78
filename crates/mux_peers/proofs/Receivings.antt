-- From the core's answer to a payload of the server to the next row.
use Rattle.std.proofs.Common.{◌≡◌, ℕ, Bool, true, false, ◌&&◌, ◌||◌, List, [], ◌∷◌, ◌++◌, length, map, Ok, Err, Result, refl, sym, ap, ◌∙◌, subst, append-nil}
use Rattle.std.specs.Prelude.{◌==◌, nat_lt}
use Rattle.mux_outside.specs.declared.house.HouseReply.{HouseReply}
use Rattle.ssh_grammar.specs.declared.fault.Bad.{Bad}
use Rattle.ssh_grammar.specs.Frames.{frame_payload}
use Rattle.proxy_frames.specs.State.{QueueState}
use Rattle.mux_history.specs.declared.limits.TheConstants.{MAX_CHANNELS}
use Rattle.mux_history.specs.declared.broke.Break.{Break}
use Rattle.mux_history.specs.declared.ended.Ended.TheVariants as ended
use Rattle.mux_history.specs.Summary.{Summary, Transport, Requests, Succeeds, Refuses, Open, Confirmation, Within, read_summary}
use Rattle.mux_history.specs.Rows.{Row, rows_of, is_run_over, is_lost, Heard, Fate, Goes, End}
use Rattle.mux_history.specs.Channels.{held_of}
use Rattle.mux_history.specs.Choices.{takes_number}
use Rattle.mux_history.specs.Pending.{joined, pending_up}
use Rattle.mux_history.specs.Policy.{Policy}
use Rattle.mux_history.specs.Said.{Outcome, silent}
use Rattle.mux_history.specs.Heard.{Dest, ToMaster, ToClient, Disconnects, Breaks, broken, dest, outcome_of_end, for_client, for_lost, for_master, received_for, received_summary, received_master}
use Rattle.mux_history.specs.Settings.{by_lists}
use Rattle.mux_history.specs.Treat.{all_recorded, bare_row, goes, received_row, new_answers, row_of}
use Rattle.mux_history.specs.Log.{next_row}
use Rattle.mux_core.specs.declared.heard.Delivery as declared
use Rattle.mux_core.specs.declared.heard.Delivery.TheVariants as heard
use Rattle.mux_core.specs.State.{CoreState}
use Rattle.std.specs.List.{AllByRecursion}
use Rattle.mux_history.proofs.Bools.{same-number}
use Rattle.mux_core.specs.State as core
use Rattle.mux_core.specs.Stands.{ClientFits, Look, CoreRepresents, is_member_known}
use Rattle.mux_core.specs.Calls.{ReceivesAs, ReceivesClient, CoreReceivesOn, recorded_by}
use Rattle.mux_peers.specs.State.{PeerState, Part, part}
use Rattle.mux_peers.specs.Stands.{PartFits}
use Rattle.mux_peers.specs.Stands as stands
use Rattle.mux_peers.specs.Receives.{ReceivesRecorded, IsPayloadReceived}
use Rattle.mux_peers.proofs.Free.{down-free}
use Rattle.mux_peers.proofs.RowForms.{made, row-on}

-- ---- what is received goes on

going-full : (b : Bool) (o o' : Outcome) → o.ends ≡ Goes → o'.ends ≡ Goes → (elim b as (λ _. Outcome) [ true ↦ o | false ↦ o' ]).ends ≡ Goes
going-full true o o' e f = e
going-full false o o' e f = f

going-client : (own : List Row) (p : List ℕ) (m : Summary) → (for_client own p m).ends ≡ Goes
going-client own p (Open what s w x) = going-full (nat_lt (length (held_of own)) MAX_CHANNELS) _ _ refl refl
going-client own p (Confirmation n s w x) = refl
going-client own p (Within n a) = refl
going-client own p (Transport n) = refl
going-client own p (Requests what wants) = refl
going-client own p (Succeeds rest) = refl
going-client own p Refuses = refl

pub heard-goes : (own : List Row) (p : List ℕ) → (received_for own p).ends ≡ Goes
heard-goes own p = by_read (read_summary p)
  where
    by_read : (r : Result Summary Bad) → (elim r as (λ _. Outcome) [ Err bad ↦ silent | Ok m ↦ received_summary own p m ]).ends ≡ Goes
    by_read (Err bad) = refl
    by_read (Ok m) = going-full (is_lost own) (for_lost own m) (for_client own p m) refl (going-client own p m)

going-master : (m : Summary) → (for_master m).ends ≡ Goes
going-master (Requests what true) = refl
going-master (Requests what false) = refl
going-master (Open what s w x) = refl
going-master (Confirmation n s w x) = refl
going-master (Within n a) = refl
going-master (Transport n) = refl
going-master (Succeeds rest) = refl
going-master Refuses = refl

-- the log's row of what the server sends
pub heard-next : (policy : Policy) (pid : ℕ) (picks : List ℕ) (given : List HouseReply) (rows : List Row) (p : List ℕ) (d : Dest) → dest rows p ≡ d → next_row (by_lists policy pid picks given) rows (Heard p) ≡ received_row rows p d
heard-next policy pid picks given rows p d e = ap (received_row rows p) e

-- ---- a client that isn't lost

-- a client that the core knows was admitted
pub known-admitted : (l : Look) (k : ℕ) (cs : List core.MemberState) → AllByRecursion (ClientFits l) cs → is_member_known cs k ≡ true → l.admitted k ≡ true
known-admitted l k [] all h = absurd (cc)
known-admitted l k (c ∷ cs) all h = by_head (c.number == k) refl (λ t. known-admitted l k cs all.1 t)
  where
    by_head : (b : Bool) → (c.number == k) ≡ b → (is_member_known cs k ≡ true → l.admitted k ≡ true) → l.admitted k ≡ true
    by_head true e ih = subst (λ j. l.admitted j ≡ true) (same-number c.number k e) all.0.admitted
    by_head false e ih = ih (sym (ap (λ b. b || is_member_known cs k) e) ∙ h)

pub record IsTo (core1 : CoreState) (k n : ℕ) (p p' : List ℕ) (up up1 : QueueState) (rows : List Row) : Type 0 where
  pub to : dest rows p ≡ ToClient k
  pub here : is_lost (rows_of k rows) ≡ false
  pub receives : ReceivesClient core1 k p p' up up1 (heard.Client k n) rows

pub is-to : (core1 : CoreState) (k n : ℕ) (p p' : List ℕ) (up up1 : QueueState) (rows : List Row) (d : Dest) → dest rows p ≡ d → ReceivesAs core1 p p' up up1 (heard.Client k n) rows d → IsTo core1 k n p p' up up1 rows
is-to core1 k n p p' up up1 rows ToMaster e h = absurd (let d = h.to in cc)
is-to core1 k n p p' up up1 rows Disconnects e h = absurd (let d = h.to in cc)
is-to core1 k n p p' up up1 rows (Breaks why) e h = absurd (let d = h.to in cc)
is-to core1 k n p p' up up1 rows (ToClient j) e h =
    let same : k ≡ j = h.to.1 in
    record {
      to = e ∙ ap ToClient (sym same);
      here = subst (λ i. is_lost (rows_of i rows) ≡ false) (sym same) h.to.0;
      receives = subst (λ i. ReceivesClient core1 i p p' up up1 (heard.Client k n) rows) (sym same) h;
    }

-- the row of what it receives, with which the part represents the longer log; no number is used
pub record ReceivedRow (p : List ℕ) (new : Part) (rows : List Row) (row : Row) : Type 0 where
  pub item_is : row.item ≡ Heard p
  pub client_is : row.client ≡ new.peer.number
  pub fits : PartFits (row ∷ rows) new
  pub untaken : takes_number row ≡ false

parts-of : (p : List ℕ) (k : ℕ) (o : Outcome) (own : List Row) → ((row_of (Heard p) k o own).item ≡ Heard p) × ((row_of (Heard p) k o own).client ≡ k)
parts-of p k o own = by_loss (Rattle.mux_history.specs.Rows.loses (Rattle.mux_history.specs.Treat.queued (all_recorded (bare_row (Heard p) k o) own) (bare_row (Heard p) k o) own))
  where
    q : Row
    q = Rattle.mux_history.specs.Treat.queued (all_recorded (bare_row (Heard p) k o) own) (bare_row (Heard p) k o) own

    by_loss : (b : Bool) → (let row : Row = elim b as (λ _. Row) [ true ↦ record q { farewell = Rattle.mux_history.specs.Farewell.farewell q own } | false ↦ q ] in (row.item ≡ Heard p) × (row.client ≡ k))
    by_loss true = (refl, refl)
    by_loss false = (refl, refl)

no-number : (p : List ℕ) (row : Row) → row.item ≡ Heard p → takes_number row ≡ false
no-number p row e = ap (λ (item : Rattle.mux_history.specs.Rows.Item). Rattle.mux_history.specs.Requests.is_sent row && Rattle.std.specs.Prelude.is_some (Rattle.mux_history.specs.Channels.own_number_of item)) e ∙ and-no (Rattle.mux_history.specs.Requests.is_sent row)
  where
    and-no : (b : Bool) → (b && false) ≡ false
    and-no true = refl
    and-no false = refl

pub heard-client : (pid : ℕ) (picks : List ℕ) (given : List HouseReply) (p p' : List ℕ) (core0 core1 : CoreState) (peer : PeerState) (new : Part) (up up1 : QueueState) (n : ℕ) (rows : List Row)
    → PartFits rows (part core0 peer up) → is_run_over rows ≡ false → stands.is_standing_lost peer.standing ≡ false → CoreReceivesOn core0 core1 p p' up up1 (heard.Client peer.number n) → ReceivesRecorded (recorded_by (heard.Client peer.number n) p') (part core1 peer up1) new
    → ReceivedRow p new rows (next_row (by_lists core0.policy pid picks given) rows (Heard p))
heard-client pid picks given p p' core0 core1 peer new up up1 n rows fits live here receives recorded =
    let k : ℕ = peer.number in
    let own : List Row = rows_of k rows in
    let o : Outcome = received_for own p in
    let t : IsTo core1 k n p p' up up1 rows = is-to core1 k n p p' up up1 rows (dest rows p) refl (receives rows (fits.core live)).row in
    let is : next_row (by_lists core0.policy pid picks given) rows (Heard p) ≡ row_of (Heard p) k o own = heard-next core0.policy pid picks given rows p (ToClient k) t.to in
    let h : IsPayloadReceived (recorded_by (heard.Client k n) p') p o rows (part core1 peer up1) = record {
      core = t.receives.stands;
      peer = fits.peer;
      up = t.receives.sent ∙ ap (λ l. l ++ joined (map frame_payload o.sent)) fits.up;
      here = here;
      ends = heard-goes own p;
      recorded = t.receives.recorded;
    } in
    let parts = parts-of p k o own in
    subst (ReceivedRow p new rows) (sym is) (record {
      item_is = parts.0;
      client_is = parts.1 ∙ sym recorded.number;
      fits = recorded.goes p o rows h;
      untaken = no-number p (row_of (Heard p) k o own) parts.0;
    })

-- ---- nothing goes to a client

-- the row of a client, or of no client, for whom nothing is recorded: what waits for the server
-- goes on, and so does the core
pub record QuietRow (p : List ℕ) (core1 : CoreState) (up1 : QueueState) (rows : List Row) (row : Row) : Type 0 where
  pub k : ℕ
  pub ups : List (List ℕ)
  pub is : row ≡ made (Heard p) k ups [] [] Goes
  pub core : CoreRepresents core1 (row ∷ rows)
  pub up : up1.waiting ≡ pending_up (row ∷ rows)

quiet-row : (p : List ℕ) (k : ℕ) (o : Outcome) (core1 : CoreState) (up up1 : QueueState) (rows : List Row) → o.ends ≡ Goes → up.waiting ≡ pending_up rows → up1.waiting ≡ up.waiting ++ joined (map frame_payload o.sent) → CoreRepresents core1 (bare_row (Heard p) k o ∷ rows)
    → QuietRow p core1 up1 rows (made (Heard p) k o.sent [] [] Goes)
quiet-row p k o core1 up up1 rows ends waits sent st = record {
  k = k;
  ups = o.sent;
  is = refl;
  core = subst (λ (f : Fate). CoreRepresents core1 (made (Heard p) k o.sent [] [] f ∷ rows)) ends (down-free core1 (bare_row (Heard p) k o) rows [] st);
  up = sent ∙ (ap (λ l. l ++ joined (map frame_payload o.sent)) waits ∙ ap (λ (l : List (List ℕ)). pending_up rows ++ joined (map frame_payload l)) (sym (append-nil o.sent)));
}

-- of a client for whom nothing is recorded
silent-client : (pid : ℕ) (picks : List ℕ) (given : List HouseReply) (policy : Policy) (p p' : List ℕ) (core1 : CoreState) (up up1 : QueueState) (k : ℕ) (h : declared.Delivery) (rows : List Row) → dest rows p ≡ ToClient k → recorded_by h p' ≡ [] → up.waiting ≡ pending_up rows → ReceivesClient core1 k p p' up up1 h rows
    → QuietRow p core1 up1 rows (next_row (by_lists policy pid picks given) rows (Heard p))
silent-client pid picks given policy p p' core1 up up1 k h rows to none waits c =
    let own : List Row = rows_of k rows in
    let o : Outcome = received_for own p in
    subst (QuietRow p core1 up1 rows) (sym (heard-next policy pid picks given rows p (ToClient k) to ∙ row-on (Heard p) k o own [] refl (heard-goes own p) (c.recorded ∙ none) refl))
    (quiet-row p k o core1 up up1 rows (heard-goes own p) waits c.sent c.stands)

master-goes : (p : List ℕ) → (received_master p).ends ≡ Goes
master-goes p = by_read (read_summary p)
  where
    by_read : (r : Result Summary Bad) → (elim r as (λ _. Outcome) [ Err bad ↦ silent | Ok m ↦ for_master m ]).ends ≡ Goes
    by_read (Err bad) = refl
    by_read (Ok m) = going-master m

-- the master's, where nothing goes to a client; or an open that is answered for it
pub heard-master : (pid : ℕ) (picks : List ℕ) (given : List HouseReply) (policy : Policy) (p p' : List ℕ) (core0 core1 : CoreState) (up up1 : QueueState) (rows : List Row) → CoreRepresents core0 rows → up.waiting ≡ pending_up rows → CoreReceivesOn core0 core1 p p' up up1 heard.Master
    → QuietRow p core1 up1 rows (next_row (by_lists policy pid picks given) rows (Heard p))
heard-master pid picks given policy p p' core0 core1 up up1 rows st waits receives = by_dest (dest rows p) refl (receives rows st).row
  where
    by_dest : (d : Dest) → dest rows p ≡ d → ReceivesAs core1 p p' up up1 heard.Master rows d → QuietRow p core1 up1 rows (next_row (by_lists policy pid picks given) rows (Heard p))
    by_dest ToMaster e h =
        subst (QuietRow p core1 up1 rows) (sym (heard-next policy pid picks given rows p ToMaster e ∙ (ap (λ (f : Fate). made (Heard p) 0 (received_master p).sent [] (received_master p).recorded f) (master-goes p) ∙ ap (λ (l : List (List ℕ)). made (Heard p) 0 (received_master p).sent [] l Goes) untold)))
        (quiet-row p 0 (received_master p) core1 up up1 rows (master-goes p) waits h.sent h.stands)
      where
        untold : (received_master p).recorded ≡ []
        untold = by_read (read_summary p)
          where
            untold-master : (m : Summary) → (for_master m).recorded ≡ []
            untold-master (Requests what true) = refl
            untold-master (Requests what false) = refl
            untold-master (Open what s w x) = refl
            untold-master (Confirmation n s w x) = refl
            untold-master (Within n a) = refl
            untold-master (Transport n) = refl
            untold-master (Succeeds rest) = refl
            untold-master Refuses = refl

            by_read : (r : Result Summary Bad) → (elim r as (λ _. Outcome) [ Err bad ↦ silent | Ok m ↦ for_master m ]).recorded ≡ []
            by_read (Err bad) = refl
            by_read (Ok m) = untold-master m
    by_dest (ToClient k) e h = silent-client pid picks given policy p p' core1 up up1 k heard.Master rows e refl waits h
    by_dest Disconnects e h = absurd (let d = h.to in cc)
    by_dest (Breaks why) e h = absurd (let d = h.to in cc)

-- a client that is lost
pub heard-lost : (pid : ℕ) (picks : List ℕ) (given : List HouseReply) (policy : Policy) (p p' : List ℕ) (core0 core1 : CoreState) (up up1 : QueueState) (k : ℕ) (rows : List Row) → CoreRepresents core0 rows → up.waiting ≡ pending_up rows → CoreReceivesOn core0 core1 p p' up up1 (heard.Lost k)
    → QuietRow p core1 up1 rows (next_row (by_lists policy pid picks given) rows (Heard p))
heard-lost pid picks given policy p p' core0 core1 up up1 k rows st waits receives = by_dest (dest rows p) refl (receives rows st).row
  where
    by_dest : (d : Dest) → dest rows p ≡ d → ReceivesAs core1 p p' up up1 (heard.Lost k) rows d → QuietRow p core1 up1 rows (next_row (by_lists policy pid picks given) rows (Heard p))
    by_dest (ToClient j) e h = silent-client pid picks given policy p p' core1 up up1 j (heard.Lost k) rows e refl waits h
    by_dest ToMaster e h = absurd (let d = h.to in cc)
    by_dest Disconnects e h = absurd (let d = h.to in cc)
    by_dest (Breaks why) e h = absurd (let d = h.to in cc)

-- ---- the run ends: nothing more is asked of the core

pub record EndRow (p : List ℕ) (up1 : QueueState) (cause : _) (rows : List Row) (row : Row) : Type 0 where
  pub is : row ≡ made (Heard p) 0 [] [] [] (End cause)
  pub up : up1.waiting ≡ pending_up (row ∷ rows)

end-row : (p : List ℕ) (up up1 : QueueState) (cause : Rattle.mux_history.specs.declared.ended.Ended.Ended) (rows : List Row) (row : Row) → row ≡ made (Heard p) 0 [] [] [] (End cause) → up.waiting ≡ pending_up rows → up1 ≡ up → EndRow p up1 cause rows row
end-row p up up1 cause rows row e waits same = record { is = e; up = ap (λ (q : QueueState). q.waiting) same ∙ (waits ∙ (sym (append-nil (pending_up rows)) ∙ ap (λ (r : Row). pending_up (r ∷ rows)) (sym e))) }

pub heard-disconnects : (pid : ℕ) (picks : List ℕ) (given : List HouseReply) (policy : Policy) (p p' : List ℕ) (core0 core1 : CoreState) (up up1 : QueueState) (rows : List Row) → CoreRepresents core0 rows → up.waiting ≡ pending_up rows → CoreReceivesOn core0 core1 p p' up up1 heard.Disconnect
    → EndRow p up1 ended.Disconnected rows (next_row (by_lists policy pid picks given) rows (Heard p))
heard-disconnects pid picks given policy p p' core0 core1 up up1 rows st waits receives = by_dest (dest rows p) refl (receives rows st).row
  where
    by_dest : (d : Dest) → dest rows p ≡ d → ReceivesAs core1 p p' up up1 heard.Disconnect rows d → EndRow p up1 ended.Disconnected rows (next_row (by_lists policy pid picks given) rows (Heard p))
    by_dest Disconnects e h = end-row p up up1 ended.Disconnected rows _ (heard-next policy pid picks given rows p Disconnects e) waits h.sent
    by_dest ToMaster e h = absurd (let d = h.to in cc)
    by_dest (ToClient k) e h = absurd h.to
    by_dest (Breaks why) e h = absurd (let d = h.to in cc)

pub heard-broke : (pid : ℕ) (picks : List ℕ) (given : List HouseReply) (policy : Policy) (p p' : List ℕ) (core0 core1 : CoreState) (up up1 : QueueState) (why : Break) (index : ℕ) (rows : List Row) → CoreRepresents core0 rows → up.waiting ≡ pending_up rows
    → index ≡ Rattle.std.specs.Prelude.min (Rattle.mux_history.specs.Heard.next_index rows) 18446744073709551615 → CoreReceivesOn core0 core1 p p' up up1 (heard.Broke why)
    → EndRow p up1 (ended.Broke index why) rows (next_row (by_lists policy pid picks given) rows (Heard p))
heard-broke pid picks given policy p p' core0 core1 up up1 why index rows st waits place receives = by_dest (dest rows p) refl (receives rows st).row
  where
    by_dest : (d : Dest) → dest rows p ≡ d → ReceivesAs core1 p p' up up1 (heard.Broke why) rows d → EndRow p up1 (ended.Broke index why) rows (next_row (by_lists policy pid picks given) rows (Heard p))
    by_dest (Breaks other) e h =
        let same : why ≡ other = (let d = h.to in cc) in
        end-row p up up1 (ended.Broke index why) rows _
        (heard-next policy pid picks given rows p (Breaks other) e ∙ (ap (λ n. made (Heard p) 0 [] [] [] (End (ended.Broke n other))) (sym place) ∙ ap (λ w. made (Heard p) 0 [] [] [] (End (ended.Broke index w))) (sym same))) waits h.sent
    by_dest ToMaster e h = absurd (let d = h.to in cc)
    by_dest (ToClient k) e h = absurd h.to
    by_dest Disconnects e h = absurd (let d = h.to in cc)
