-- The rows of what the server sends: what they leave as it was.
use Rattle.std.proofs.Common.{◌≡◌, ◌≢◌, ℕ, zero, suc, Bool, true, false, List, [], ◌∷◌, ◌++◌, length, map, take, Option, Some, None, Ok, Err, refl, sym, ap, ◌∙◌, subst, append-nil}
use Rattle.std.specs.Prelude.{◌==◌, Result, filter, find, slice_get}
use Rattle.std.proofs.lemmas.Bool.{eq-eqb}
use Rattle.ssh_grammar.specs.declared.fault.Bad.{Bad}
use Rattle.ssh_grammar.specs.Said.{Outgoing, Body, Payload, BadFraming}
use Rattle.mux_history.specs.declared.why.Why.{Why}
use Rattle.mux_outside.specs.declared.house.HouseReply.{HouseReply}
use Rattle.mux_history.specs.Channels.{Channel, channels_of, is_channel_held, is_number}
use Rattle.mux_history.specs.Forwardings.{live_at}
use Rattle.mux_history.specs.Summary.{Confirmation, Summary, Open, Refuses, Requests, Succeeds, Transport, Within, read_summary}
use Rattle.mux_history.specs.Heard.{Breaks, Dest, Disconnects, ToClient, ToMaster, dest, dest_summary, for_master, received_for, received_master}
use Rattle.mux_history.specs.Policy.{Policy}
use Rattle.mux_history.specs.Requests.{Ask, wanted_requests, replies}
use Rattle.mux_history.specs.Rows.{Row, rows_of, is_refusal, loss_by, Item, BadServer, Heard}
use Rattle.mux_history.specs.Settings.{by_lists}
use Rattle.mux_history.specs.Log.{received_row, makes_next, more_all, more_of, next_row}
use Rattle.mux_history.specs.Journal.{received_item}
use Rattle.mux_history.proofs.Askers.{asks-local, asks_for, get-filter}
use Rattle.mux_history.proofs.Dests.{Asked, Offered, Reached, dest-err, dest-ok, offered, reached, refuses-asked, succeeds-asked}
use Rattle.mux_history.proofs.ForwardsLocal.{find-part, live-local}
use Rattle.mux_history.proofs.Local.{channels-local, is_of}
use Rattle.mux_peers.specs.Asked.{asks_of_rows}
use Rattle.mux_peers.proofs.Receivings.{heard-goes}
use Rattle.mux_peers.proofs.Mores.{parts-of}
use Rattle.mux_peers.proofs.Ones.{unrefused-row}
use Rattle.mux_state.specs.Stands.{refused_client_row}
use Rattle.mux_state.proofs.Closes.{other_row}
use Rattle.mux_state.proofs.Grows.{Grows, grows-none, grows-on, grows-row}

-- ---- nothing goes to a client that holds nothing

-- no request, no channel and no forwarding
pub record IsIdle (own : List Row) : Type 0 where
  pub asks_none : wanted_requests own ≡ []
  pub channels_none : channels_of own ≡ []
  pub live_none : (key : _) → live_at own key ≡ None

pub idle-none : (own : List Row) → own ≡ [] → IsIdle own
idle-none own e = record { asks_none = ap wanted_requests e; channels_none = ap channels_of e; live_none = λ key. ap (λ l. live_at l key) e }

pub idle-refused : (k : ℕ) (own : List Row) → own ≡ refused_client_row k ∷ [] → IsIdle own
idle-refused k own e = record { asks_none = ap wanted_requests e; channels_none = ap channels_of e; live_none = λ key. ap (λ l. live_at l key) e }

never-asked : (rows : List Row) (k : ℕ) → IsIdle (rows_of k rows) → Asked rows k → ⊥
never-asked rows k none a =
    let got = get-filter (asks_for k) (wanted_requests rows) (length (replies rows)) a.ask a.is (ap (λ c. c == k) a.client ∙ eq-eqb k k refl) in
    let at = ap (λ xs. slice_get xs (length (filter (asks_for k) (take (length (replies rows)) (wanted_requests rows))))) (asks-local k rows ∙ none.asks_none) in
    none-get (length (filter (asks_for k) (take (length (replies rows)) (wanted_requests rows)))) a.ask (sym at ∙ got)
  where
    none-get : (n : ℕ) (a : Ask) → slice_get [] n ≡ Some a → ⊥
    none-get zero a e = cc
    none-get (suc n) a e = cc

never-reached : (rows : List Row) (n k : ℕ) → IsIdle (rows_of k rows) → Reached rows n k → ⊥
never-reached rows n k none there =
    let found = find-part is_channel_held (is_of k) (λ (x : Channel). is_number x.number n) there.channel (channels_of rows) there.is (ap (λ c. c == k) there.client ∙ eq-eqb k k refl) in
    let nobody = ap (λ xs. find (λ (x : Channel). is_number x.number n) (filter is_channel_held xs)) (channels-local k rows ∙ none.channels_none) in
    let bad : None ≡ Some there.channel = sym nobody ∙ found in absurd (let h = bad in cc)

never-offered : (rows : List Row) (k s : ℕ) (what : _) → IsIdle (rows_of k rows) → Offered rows s what k → ⊥
never-offered rows k s what none o =
    let found = live-local k rows o.key o.forwarding o.live o.client in
    let bad : None ≡ Some o.forwarding = sym (none.live_none o.key) ∙ found in absurd (let h = bad in cc)

pub never-recorded : (rows : List Row) (p : List ℕ) (k : ℕ) → IsIdle (rows_of k rows) → dest rows p ≡ ToClient k → ⊥
never-recorded rows p k none to = by_read (read_summary p) refl
  where
    by_number : (b : Bool) → (elim b as (λ _. Dest) [ true ↦ Disconnects | false ↦ ToMaster ]) ≡ ToClient k → ⊥
    by_number true e = cc
    by_number false e = cc

    by_message : (m : Summary) → dest_summary rows m ≡ ToClient k → ⊥
    by_message (Succeeds rest) e = never-asked rows k none (succeeds-asked rows rest k e)
    by_message Refuses e = never-asked rows k none (refuses-asked rows k e)
    by_message (Open what s w max) e = never-offered rows k s what none (offered rows s what k e)
    by_message (Confirmation n s w max) e = never-reached rows n k none (reached rows (Confirmation n s w max) n k refl e)
    by_message (Within n act) e = never-reached rows n k none (reached rows (Within n act) n k refl e)
    by_message (Transport number) e = by_number (number == Rattle.ssh_grammar.specs.declared.numbers.TheConstants.DISCONNECT) e
    by_message (Requests what wants) e = cc

    by_read : (r : Result Summary Bad) → read_summary p ≡ r → ⊥
    by_read (Err bad) reads = let x : Breaks _ ≡ ToClient k = sym (dest-err rows p bad reads) ∙ to in cc
    by_read (Ok m) reads = by_message m (sym (dest-ok rows p m reads) ∙ to)

-- ---- one row

-- what a row of the server is
record IsReceived (rows : List Row) (row : Row) : Type 0 where
  item : Item
  is : row.item ≡ item
  admits : Rattle.mux_state.proofs.Grows.NotAdmit item
  asks_none : Rattle.mux_peers.specs.Asked.item_asks row.item ≡ []
  unrefused : is_refusal row.fate ≡ false
  apart : (j : ℕ) → j ≢ 0 → IsIdle (rows_of j rows) → row.client ≢ j

master-goes : (p : List ℕ) → is_refusal (received_master p).ends ≡ false
master-goes p = by_read (read_summary p)
  where
    by_request : (b : Bool) (what : _) → is_refusal (for_master (Requests what b)).ends ≡ false
    by_request true what = refl
    by_request false what = refl

    by_message : (m : Summary) → is_refusal (for_master m).ends ≡ false
    by_message (Requests what wants) = by_request wants what
    by_message (Open what s w max) = refl
    by_message (Transport number) = refl
    by_message (Succeeds rest) = refl
    by_message Refuses = refl
    by_message (Confirmation n s w max) = refl
    by_message (Within n act) = refl

    by_read : (r : Result Summary Bad) → is_refusal (elim r as (λ _. Rattle.mux_history.specs.Said.Outcome) [ Err bad ↦ Rattle.mux_history.specs.Said.silent | Ok m ↦ for_master m ]).ends ≡ false
    by_read (Err bad) = refl
    by_read (Ok m) = by_message m

heard-is : (rows : List Row) (p : List ℕ) (d : Dest) → dest rows p ≡ d → IsReceived rows (received_row rows p d)
heard-is rows p ToMaster e = record { item = Heard p; is = refl; admits = tt; asks_none = refl; unrefused = master-goes p; apart = λ j nz none c. nz (sym c) }
heard-is rows p Disconnects e = record { item = Heard p; is = refl; admits = tt; asks_none = refl; unrefused = refl; apart = λ j nz none c. nz (sym c) }
heard-is rows p (Breaks why) e = record { item = Heard p; is = refl; admits = tt; asks_none = refl; unrefused = refl; apart = λ j nz none c. nz (sym c) }
heard-is rows p (ToClient k) e =
    let parts = parts-of (Heard p) k (received_for (rows_of k rows) p) (rows_of k rows) in record {
      item = Heard p;
      is = parts.0;
      admits = tt;
      asks_none = ap Rattle.mux_peers.specs.Asked.item_asks parts.0;
      unrefused = unrefused-row (Heard p) k (received_for (rows_of k rows) p) (rows_of k rows) (ap is_refusal (heard-goes (rows_of k rows) p));
      apart = λ j nz none c. never-recorded rows p j none (e ∙ ap ToClient (sym parts.1 ∙ c));
    }

outgoing-is : (policy : Policy) (pid : ℕ) (picks : List ℕ) (given : List HouseReply) (x : Outgoing) (rows : List Row) → IsReceived rows (next_row (by_lists policy pid picks given) rows (received_item x))
outgoing-is policy pid picks given (Body p) rows = heard-is rows p (dest rows p) refl
outgoing-is policy pid picks given (Payload p) rows = heard-is rows p (dest rows p) refl
outgoing-is policy pid picks given (BadFraming fault) rows = record { item = BadServer fault; is = refl; admits = tt; asks_none = refl; unrefused = refl; apart = λ j nz none c. nz (sym c) }

-- ---- all of them

pub record ReceivedOn (rows rows' : List Row) : Type 0 where
  pub loss : List (ℕ × Option Why)
  pub grows : Grows rows rows' loss
  pub asked : asks_of_rows rows' ≡ asks_of_rows rows
  pub idle : (j : ℕ) → j ≢ 0 → IsIdle (rows_of j rows) → rows_of j rows' ≡ rows_of j rows

heard-row : (rows : List Row) (row : Row) → IsReceived rows row → ReceivedOn rows (row ∷ rows)
heard-row rows row h = record {
  loss = loss_by row;
  grows = grows-row h.item row rows h.is h.admits h.unrefused;
  asked = ap (λ l. asks_of_rows rows ++ l) h.asks_none ∙ append-nil (asks_of_rows rows);
  idle = λ j nz none. other_row row.client j row rows refl (h.apart j nz none);
}

heard-none : (rows : List Row) → ReceivedOn rows rows
heard-none rows = record { loss = []; grows = grows-none rows; asked = refl; idle = λ j nz e. refl }

heard-then : (a b c : List Row) → ReceivedOn a b → ReceivedOn b c → ReceivedOn a c
heard-then a b c x y = record { loss = x.loss ++ y.loss; grows = grows-on a b c x.loss y.loss x.grows y.grows; asked = y.asked ∙ x.asked; idle = λ j nz e. y.idle j nz (subst IsIdle (sym (x.idle j nz e)) e) ∙ x.idle j nz e }

heard-one : (policy : Policy) (pid : ℕ) (picks : List ℕ) (given : List HouseReply) (x : Outgoing) (rows : List Row) → ReceivedOn rows (more_of (by_lists policy pid picks given) rows (received_item x))
heard-one policy pid picks given x rows = by_makes (makes_next rows (received_item x))
  where
    row : Row
    row = next_row (by_lists policy pid picks given) rows (received_item x)

    by_makes : (b : Bool) → ReceivedOn rows (elim b as (λ _. List Row) [ false ↦ rows | true ↦ row ∷ rows ])
    by_makes true = heard-row rows row (outgoing-is policy pid picks given x rows)
    by_makes false = heard-none rows

pub heard-on : (policy : Policy) (pid : ℕ) (picks : List ℕ) (given : List HouseReply) (xs : List Outgoing) (rows : List Row) → ReceivedOn rows (more_all (by_lists policy pid picks given) rows (map received_item xs))
heard-on policy pid picks given [] rows = heard-none rows
heard-on policy pid picks given (x ∷ xs) rows =
    let next : List Row = more_of (by_lists policy pid picks given) rows (received_item x) in
    heard-then rows next (more_all (by_lists policy pid picks given) next (map received_item xs)) (heard-one policy pid picks given x rows) (heard-on policy pid picks given xs next)
