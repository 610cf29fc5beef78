-- The rows of a piece of the server's bytes are those that the journal gives it.
use Rattle.std.proofs.Common.{◌≡◌, ◌<◌, ◌&&◌, ℕ, ◌+◌, Bool, true, false, not, List, [], ◌∷◌, ◌++◌, length, drop, map, Option, Some, None, refl, sym, ap, ◌∙◌, subst, append-nil}
use Rattle.std.specs.Prelude.{MatchBool, is_some}
use Rattle.mux_outside.specs.declared.house.HouseReply.{HouseReply}
use Rattle.ssh_grammar.specs.Frames.{More}
use Rattle.ssh_grammar.specs.Said.{Body, Payload, BadFraming, InProxy, Mode, Parsed, Outgoing, first_in, parse}
use Rattle.ssh_grammar.proofs.Parses.{parse-append, parse-at}
use Rattle.proxy_frames.specs.State.{QueueState}
use Rattle.mux_history.specs.declared.ended.Ended.{Ended}
use Rattle.mux_history.specs.declared.why.Why.{Why}
use Rattle.mux_history.specs.Policy.{Policy}
use Rattle.mux_history.specs.Rows.{Row, Item, Says, Heard, BadServer, rows_of, is_run_over}
use Rattle.mux_history.specs.declared.limits.TheConstants.{NUMBERS_END}
use Rattle.mux_history.specs.Channels.{holder, own_number_of}
use Rattle.mux_history.specs.Choices.{has_reply, numbers_taken, replies_given, takes_number}
use Rattle.mux_history.specs.Controls.{body_stops, client_has_greeted}
use Rattle.mux_history.specs.Promises.{is_still_accepting, serves_stop}
use Rattle.mux_history.specs.Requests.{is_sent}
use Rattle.mux_history.specs.Right.{AreFresh, carried_number}
use Rattle.mux_history.specs.Settings.{by_lists}
use Rattle.mux_history.specs.Journal.{received_item}
use Rattle.mux_history.specs.Log.{Setting, goes, makes_next, more_all, more_of, next_row}
use Rattle.mux_core.specs.State.{CoreState}
use Rattle.mux_peers.specs.State.{ClientState}
use Rattle.mux_peers.specs.Pieces.{with_sent_before}
use Rattle.mux_peers.specs.Server.{ReceivedTo, ReceivesOnwards, rows_received}
use Rattle.mux_peers.specs.Laws.{IsReceivedTo, PiecesOfTheServer, PeersReadServer, rows_recorded}
use Rattle.mux_peers.proofs.Journaled.{drop-front, map-append, more-append}
use Rattle.mux_peers.proofs.Served.{heard-item}
use Rattle.mux_peers.proofs.ServerPieces.{ended-some}

-- ---- what the server sends uses no number and no reply, and stops no client

record Quiet (rows rows' : List Row) : Type 0 where
  taken : numbers_taken rows' ≡ numbers_taken rows
  given_is : replies_given rows' ≡ replies_given rows
  fresh : AreFresh rows → AreFresh rows'
  stops_is : is_still_accepting rows' ≡ is_still_accepting rows

-- a control message of an item that stops the run's accepting, where its row goes on
abbrev stops_by : Item → List Row → Bool
stops_by item own = elim item [ Says k outgoing given ↦ elim outgoing [ Body body ↦ client_has_greeted own && body_stops body | _ ↦ false ] | _ ↦ false ]

and-false : (b : Bool) → (b && false) ≡ false
and-false true = refl
and-false false = refl

quiet-row : (row : Row) (rows : List Row) → takes_number row ≡ false → has_reply row.item ≡ false → serves_stop row (rows_of row.client rows) ≡ false → Quiet rows (row ∷ rows)
quiet-row row rows takes reply stop = record {
  taken = ap (λ b. elim b as (λ _. ℕ) [ true ↦ numbers_taken rows + 1 | false ↦ numbers_taken rows ]) takes;
  given_is = ap (λ b. elim b as (λ _. ℕ) [ true ↦ replies_given rows + 1 | false ↦ replies_given rows ]) reply;
  fresh = λ f. (subst (λ b. MatchBool b ((carried_number row.up < NUMBERS_END) × (holder rows (carried_number row.up) ≡ None)) (Unit {0})) (sym takes) tt, f);
  stops_is = ap (λ b. not b && is_still_accepting rows) stop;
}

-- of an item that is no client's saying
quiet-item : (item : Item) (row : Row) (rows : List Row) → row.item ≡ item → own_number_of item ≡ None → has_reply item ≡ false → stops_by item (rows_of row.client rows) ≡ false → Quiet rows (row ∷ rows)
quiet-item item row rows e own reply stop = quiet-row row rows
    (ap (λ (i : Item). is_sent row && is_some (own_number_of i)) e ∙ (ap (λ (o : Option ℕ). is_sent row && is_some o) own ∙ and-false (is_sent row)))
    (ap has_reply e ∙ reply)
    (ap (λ (i : Item). goes row.fate && stops_by i (rows_of row.client rows)) e ∙ (ap (λ b. goes row.fate && b) stop ∙ and-false (goes row.fate)))

quiet-heard : (x : Outgoing) (row : Row) (rows : List Row) → row.item ≡ received_item x → Quiet rows (row ∷ rows)
quiet-heard (Body p) row rows e = quiet-item (Heard p) row rows e refl refl refl
quiet-heard (Payload p) row rows e = quiet-item (Heard p) row rows e refl refl refl
quiet-heard (BadFraming fault) row rows e = quiet-item (BadServer fault) row rows e refl refl refl

-- ---- the item of the log's row

item-heard : (policy : Policy) (pid : ℕ) (picks : List ℕ) (given : List HouseReply) (x : Outgoing) (rows : List Row) → (next_row (by_lists policy pid picks given) rows (received_item x)).item ≡ received_item x
item-heard policy pid picks given (Body p) rows = heard-item policy pid picks given p rows
item-heard policy pid picks given (Payload p) rows = heard-item policy pid picks given p rows
item-heard policy pid picks given (BadFraming fault) rows = refl

quiet-more : (policy : Policy) (pid : ℕ) (picks : List ℕ) (given : List HouseReply) (x : Outgoing) (rows : List Row) → Quiet rows (more_of (by_lists policy pid picks given) rows (received_item x))
quiet-more policy pid picks given x rows = by_makes (makes_next rows (received_item x))
  where
    row : Row
    row = next_row (by_lists policy pid picks given) rows (received_item x)

    by_makes : (b : Bool) → Quiet rows (elim b as (λ _. List Row) [ false ↦ rows | true ↦ row ∷ rows ])
    by_makes true = quiet-heard x row rows (item-heard policy pid picks given x rows)
    by_makes false = record { taken = refl; given_is = refl; fresh = λ f. f; stops_is = refl }

quiet-all : (policy : Policy) (pid : ℕ) (picks : List ℕ) (given : List HouseReply) (xs : List Outgoing) (rows : List Row) → Quiet rows (rows_received policy pid picks given rows xs)
quiet-all policy pid picks given [] rows = record { taken = refl; given_is = refl; fresh = λ f. f; stops_is = refl }
quiet-all policy pid picks given (x ∷ xs) rows =
    let one = quiet-more policy pid picks given x rows in
    let more = quiet-all policy pid picks given xs (more_of (by_lists policy pid picks given) rows (received_item x)) in
    record { taken = more.taken ∙ one.taken; given_is = more.given_is ∙ one.given_is; fresh = λ f. more.fresh (one.fresh f); stops_is = more.stops_is ∙ one.stops_is }

-- ---- once the run is over nothing more makes a row

no-row : (s : Setting) (x : Outgoing) (rows : List Row) → is_run_over rows ≡ true → more_of s rows (received_item x) ≡ rows
no-row s (Body p) rows e = ap (λ b. elim (elim b as (λ _. Bool) [ true ↦ false | false ↦ true ]) as (λ _. List Row) [ false ↦ rows | true ↦ next_row s rows (Heard p) ∷ rows ]) e
no-row s (Payload p) rows e = ap (λ b. elim (elim b as (λ _. Bool) [ true ↦ false | false ↦ true ]) as (λ _. List Row) [ false ↦ rows | true ↦ next_row s rows (Heard p) ∷ rows ]) e
no-row s (BadFraming fault) rows e = ap (λ b. elim (elim b as (λ _. Bool) [ true ↦ false | false ↦ true ]) as (λ _. List Row) [ false ↦ rows | true ↦ next_row s rows (BadServer fault) ∷ rows ]) e

no-rows : (s : Setting) (xs : List Outgoing) (rows : List Row) → is_run_over rows ≡ true → more_all s rows (map received_item xs) ≡ rows
no-rows s [] rows e = refl
no-rows s (x ∷ xs) rows e = ap (λ l. more_all s l (map received_item xs)) (no-row s x rows e) ∙ no-rows s xs rows e

-- ---- the rows of the mark

-- what is new in what is sent by more bytes
says-new : (before bytes rest : List ℕ) → PeersReadServer before rest → drop (length (parse InProxy before).says) (parse InProxy (before ++ bytes)).says ≡ (parse InProxy (rest ++ bytes)).says
says-new before bytes rest r =
    ap (λ (p : Parsed). drop (length (parse InProxy before).says) p.says) (parse-append InProxy before bytes)
    ∙ (drop-front (parse InProxy before).says (parse (parse InProxy before).mode ((parse InProxy before).rest ++ bytes)).says
    ∙ (ap (λ (m : Mode). (parse m ((parse InProxy before).rest ++ bytes)).says) r.mode ∙ ap (λ (l : List ℕ). (parse InProxy (l ++ bytes)).says) r.rest))

-- with all that was received in a piece, the rows are those of the mark
rows-same : (policy : Policy) (pid : ℕ) (picks : List ℕ) (given : List HouseReply) (before bytes rest rest' : List ℕ) (noted : List (ℕ × Option Why)) (rows : List Row) (core : CoreState) (cs : List ClientState) (queue : QueueState) (index : ℕ) (ended : Option Ended)
    → PeersReadServer before rest → (ended ≡ None → first_in InProxy rest' ≡ More) → (r : ReceivedTo policy pid picks given (rest ++ bytes) noted rows core cs queue rest' index ended)
    → rows_recorded policy pid picks given before bytes rows ≡ rows_received policy pid picks given rows r.says
rows-same policy pid picks given before bytes rest rest' noted rows core cs queue index ended reads whole r =
    ap (λ xs. more_all s rows (map received_item xs)) (says-new before bytes rest reads) ∙ by_end ended refl
  where
    s : Setting
    s = by_lists policy pid picks given

    rows' : List Row
    rows' = rows_received policy pid picks given rows r.says

    all : Parsed
    all = parse InProxy (rest ++ bytes)

    by_end : (o : Option Ended) → ended ≡ o → more_all s rows (map received_item all.says) ≡ rows'
    by_end None e =
        let on : ReceivesOnwards (rest ++ bytes) cs rest' index rows' r.says = r.on e in
        ap (λ xs. more_all s rows (map received_item xs)) (ap (λ (p : Parsed). p.says) (on.sent_is ∙ ap (with_sent_before r.says) (parse-at InProxy rest' More (whole e))) ∙ append-nil r.says)
    by_end (Some cause) e =
        ap (λ xs. more_all s rows (map received_item xs)) r.over.1
        ∙ (ap (more_all s rows) (map-append received_item r.says r.over.0)
        ∙ (more-append s rows (map received_item r.says) (map received_item r.over.0) ∙ no-rows s r.over.0 rows' (ended-some rows' cause (sym e ∙ r.ended_is))))

-- and while the run goes on all its bytes are read so
reads-on : (policy : Policy) (pid : ℕ) (picks : List ℕ) (given : List HouseReply) (before bytes rest rest' : List ℕ) (noted : List (ℕ × Option Why)) (rows : List Row) (core : CoreState) (cs : List ClientState) (queue : QueueState) (index : ℕ) (ended : Option Ended)
    → PeersReadServer before rest → first_in InProxy rest' ≡ More → ended ≡ None → ReceivedTo policy pid picks given (rest ++ bytes) noted rows core cs queue rest' index ended → PeersReadServer (before ++ bytes) rest'
reads-on policy pid picks given before bytes rest rest' noted rows core cs queue index ended reads whole e r =
    let on = r.on e in
    let more : parse (parse InProxy before).mode ((parse InProxy before).rest ++ bytes) ≡ with_sent_before r.says (record { says = []; mode = InProxy; rest = rest' }) =
    ap (λ (m : Mode). parse m ((parse InProxy before).rest ++ bytes)) reads.mode
    ∙ (ap (λ (l : List ℕ). parse InProxy (l ++ bytes)) reads.rest ∙ (on.sent_is ∙ ap (with_sent_before r.says) (parse-at InProxy rest' More whole))) in
    record {
      mode = ap (λ (p : Parsed). p.mode) (parse-append InProxy before bytes) ∙ ap (λ (p : Parsed). p.mode) more;
      rest = ap (λ (p : Parsed). p.rest) (parse-append InProxy before bytes) ∙ ap (λ (p : Parsed). p.rest) more;
    }

pub pieces-of-the-server : PiecesOfTheServer
pieces-of-the-server policy pid picks given before bytes rest rest' noted rows core cs queue index ended reads whole r =
    let same : rows_recorded policy pid picks given before bytes rows ≡ rows_received policy pid picks given rows r.says = rows-same policy pid picks given before bytes rest rest' noted rows core cs queue index ended reads whole r in
    let quiet = quiet-all policy pid picks given r.says rows in
    subst (λ (rows' : List Row). IsReceivedTo before bytes noted rows rows' core cs queue rest' index ended) (sym same) (record {
      fit = r.fit;
      lost = r.lost;
      ended_is = r.ended_is;
      taken = quiet.taken;
      given_is = quiet.given_is;
      fresh = quiet.fresh;
      stops_is = quiet.stops_is;
      awaits = λ e. let on = r.on e in record { fit = r.fit; live = on.live; here = on.here; place = on.place };
      reads = λ e. reads-on policy pid picks given before bytes rest rest' noted rows core cs queue index ended reads (whole e) e r;
    })
