-- What each call of a core does, from every log that the core represented.
use Rattle.std.specs.Prelude.{◌≡◌, ◌≢◌, ◌<◌, ℕ, Bool, true, false, List, [], ◌∷◌, nat_lt, is_some, None, Ok, replicate}
use Rattle.ssh_grammar.specs.Messages.{Opens}
use Rattle.ssh_grammar.specs.declared.framing.Framing.TheVariants.{Proxy}
use Rattle.ssh_grammar.specs.Frames.{frame_payload}
use Rattle.ssh_grammar.specs.IsFrame.{IsContent}
use Rattle.ssh_grammar.specs.SpellMessage.{request_failure}
use Rattle.ssh_grammar.specs.Said.{Payload}
use Rattle.proxy_frames.specs.State.{QueueState}
use Rattle.mux_history.specs.declared.limits.TheConstants.{MAX_CLIENTS, NUMBERS_END}
use Rattle.mux_history.specs.declared.why.Why.{Why}
use Rattle.mux_history.specs.Summary.{Summary, Open, read_summary}
use Rattle.mux_history.specs.Rows.{Row, rows_of, is_lost, loses, Item, Admit, Says, Gone, Heard, Goes, Drop}
use Rattle.mux_history.specs.Channels.{holder}
use Rattle.mux_history.specs.Requests.{is_sent, wanted_by}
use Rattle.mux_history.specs.Choices.{takes_number}
use Rattle.mux_history.specs.Farewell.{farewell}
use Rattle.mux_history.specs.Said.{sent_payload}
use Rattle.mux_history.specs.Heard.{Dest, ToMaster, ToClient, Disconnects, Breaks, dest, received_for, received_master}
use Rattle.mux_history.specs.Log.{all_recorded, admits, bare_row, open_matters, with_farewell}
use Rattle.client_teardown.specs.Leaving.{with_payloads}
use Rattle.mux_core.specs.declared.verdict.Verdict.{Verdict}
use Rattle.mux_core.specs.declared.verdict.Verdict.TheVariants as verdict
use Rattle.mux_core.specs.declared.heard.Delivery as declared
use Rattle.mux_core.specs.declared.heard.Delivery.TheVariants as heard
use Rattle.mux_core.specs.State.{CoreState, is_member_served}
use Rattle.mux_core.specs.Opening.{open_verdict}
use Rattle.mux_core.specs.Stands.{CoreRepresents, is_member_known}

-- ---- admit

-- a client that no row concerns yet
pub record IsNewClient (k : ℕ) (rows : List Row) : Type 0 where
  pub nonzero : k ≢ 0
  pub fresh : rows_of k rows ≡ []

-- it is admitted exactly where fewer than 64 clients have open matters
pub record Admits (old new : CoreState) (k : ℕ) (let_in : Bool) (rows : List Row) : Type 0 where
  pub exact : let_in ≡ nat_lt (open_matters rows) MAX_CLIENTS
  pub stands : CoreRepresents new (bare_row (Admit k) k (admits rows) ∷ rows)

abbrev pub AdmitsOn : CoreState → CoreState → ℕ → Bool → Type 0
AdmitsOn old new k let_in = (rows : List Row) → CoreRepresents old rows → IsNewClient k rows
    → Admits old new k let_in rows

-- ---- sent

-- the row of what a client sends, as far as the item goes
abbrev pub row_sent : CoreState → ℕ → List ℕ → ℕ → List Row → Row
row_sent s k p pick rows =
    bare_row (Says k (Payload p) None) k (sent_payload s.policy k (rows_of k rows) pick p)

-- the number is below the bound, and no channel holds it
pub record IsFreshNumber (rows : List Row) (n : ℕ) : Type 0 where
  pub below : n < NUMBERS_END
  pub unheld : holder rows n ≡ None

-- the verdict is what the row shows, exactly
abbrev pub VerdictShows : Row → List Row → Verdict → Type 0
VerdictShows row own verdict.Sent = (row.fate ≡ Goes) × (is_sent row ≡ true) × (all_recorded row own ≡ [])
VerdictShows row own (verdict.Answer payload) = (row.fate ≡ Goes) × (row.up ≡ [])
    × (all_recorded row own ≡ frame_payload payload ∷ [])
VerdictShows row own verdict.Held = (row.fate ≡ Goes) × (row.up ≡ []) × (all_recorded row own ≡ [])
    × (is_some (wanted_by row) ≡ true)
VerdictShows row own verdict.Silent = (row.fate ≡ Goes) × (row.up ≡ []) × (all_recorded row own ≡ [])
    × (is_some (wanted_by row) ≡ false)
VerdictShows row own (verdict.Drop why) = (row.fate ≡ Drop why) × (row.up ≡ [])

-- the core after it: where the client is dropped nothing was changed
abbrev pub StandsAfter : CoreState → CoreState → Row → List Row → Verdict → Type 0
StandsAfter old new row rows (verdict.Drop why) = new ≡ old
StandsAfter old new row rows v = CoreRepresents new (row ∷ rows)

-- a row that the log has: what it sends and shows, its number, and the core after it
pub record SendsRow (old new : CoreState) (row : Row) (pick : ℕ) (up up' : QueueState) (v : Verdict)
    (rows : List Row) : Type 0 where
  pub sent : up' ≡ with_payloads row.up up
  pub shows : VerdictShows row (rows_of row.client rows) v
  pub fresh : takes_number row ≡ true → IsFreshNumber rows pick
  pub stands : StandsAfter old new row rows v

-- of one log
abbrev pub CoreSendsIn : CoreState → CoreState → ℕ → List ℕ → ℕ → QueueState → QueueState → Verdict
    → List Row → Type 0
CoreSendsIn old new k p pick up up' v rows =
    SendsRow old new (row_sent old k p pick rows) pick up up' v rows

-- of all logs, where this message is sent by a client that is served
abbrev pub SendsAs : CoreState → CoreState → ℕ → List ℕ → Summary → ℕ → QueueState → QueueState
    → Verdict → Type 0
SendsAs old new k p m pick up up' v =
    (rows : List Row) → CoreRepresents old rows → is_member_served old.clients k ≡ true → read_summary p ≡ Ok m
    → CoreSendsIn old new k p pick up up' v rows

-- with some number
pub record SendsSome (old new : CoreState) (k : ℕ) (p : List ℕ) (m : Summary) (up up' : QueueState)
    (v : Verdict) : Type 0 where
  pub pick : ℕ
  pub goes : SendsAs old new k p m pick up up' v

-- the same with some number, of each open that may be sent
pub record StartsOn (old new : CoreState) (k : ℕ) (p : List ℕ) (c w m : ℕ) (up up' : QueueState)
    (v : Verdict) : Type 0 where
  pub pick : ℕ
  pub goes : (what : Opens) → open_verdict old k c what ≡ None
      → SendsAs old new k p (Open what c w m) pick up up' v

-- with one number for all logs, of a client that is served
pub record CoreSendsOn (old new : CoreState) (k : ℕ) (p : List ℕ) (up up' : QueueState) (v : Verdict) :
    Type 0 where
  pub pick : ℕ
  pub goes : (rows : List Row) → CoreRepresents old rows → is_member_served old.clients k ≡ true
      → CoreSendsIn old new k p pick up up' v rows

-- an answer fits into a frame
abbrev pub VerdictFits : Verdict → Type 0
VerdictFits (verdict.Answer payload) = IsContent Proxy payload
VerdictFits v = Unit {0}

-- ---- received

-- what is recorded for a client by an answer
abbrev pub recorded_by : declared.Delivery → List ℕ → List (List ℕ)
recorded_by (heard.Client k refusals) p =
    frame_payload p ∷ replicate refusals (frame_payload request_failure)
recorded_by h p = []

-- a client that is lost is named so; of one that isn't, an open that is answered for it is the
-- master's
abbrev pub GoesTo : ℕ → Bool → declared.Delivery → Type 0
GoesTo k lost heard.Master = lost ≡ false
GoesTo k lost (heard.Client j refusals) = (lost ≡ false) × (j ≡ k)
GoesTo k lost (heard.Lost j) = (lost ≡ true) × (j ≡ k)
GoesTo k lost h = ⊥

-- the row of what the server sends to a client, as far as the item goes
abbrev pub received_row_of : ℕ → List ℕ → List Row → Row
received_row_of k p rows = bare_row (Heard p) k (received_for (rows_of k rows) p)

pub record ReceivesClient (new : CoreState) (k : ℕ) (p p' : List ℕ) (up up' : QueueState)
    (h : declared.Delivery) (rows : List Row) : Type 0 where
  pub sent : up'.waiting ≡ (with_payloads (received_row_of k p rows).up up).waiting
  pub to : GoesTo k (is_lost (rows_of k rows)) h
  pub recorded : all_recorded (received_row_of k p rows) (rows_of k rows) ≡ recorded_by h p'
  pub stands : CoreRepresents new (received_row_of k p rows ∷ rows)

pub record ReceivesMaster (new : CoreState) (p : List ℕ) (up up' : QueueState) (h : declared.Delivery)
    (rows : List Row) : Type 0 where
  pub sent : up'.waiting ≡ (with_payloads (received_master p).sent up).waiting
  pub to : h ≡ heard.Master
  pub stands : CoreRepresents new (bare_row (Heard p) 0 (received_master p) ∷ rows)

-- nothing is sent where the run ends
pub record ReceivesEnd (expected : declared.Delivery) (up up' : QueueState) (h : declared.Delivery) :
    Type 0 where
  pub sent : up' ≡ up
  pub to : h ≡ expected

abbrev pub ReceivesAs : CoreState → List ℕ → List ℕ → QueueState → QueueState → declared.Delivery
    → List Row → Dest → Type 0
ReceivesAs new p p' up up' h rows ToMaster = ReceivesMaster new p up up' h rows
ReceivesAs new p p' up up' h rows (ToClient k) = ReceivesClient new k p p' up up' h rows
ReceivesAs new p p' up up' h rows Disconnects = ReceivesEnd heard.Disconnect up up' h
ReceivesAs new p p' up up' h rows (Breaks why) = ReceivesEnd (heard.Broke why) up up' h

-- a client for which something is recorded was admitted
abbrev pub IsLetIn : CoreState → declared.Delivery → Type 0
IsLetIn s (heard.Client k refusals) = is_member_known s.clients k ≡ true
IsLetIn s (heard.Lost k) = is_member_known s.clients k ≡ true
IsLetIn s h = Unit {0}

pub record CoreReceivesIn (old new : CoreState) (p p' : List ℕ) (up up' : QueueState) (h : declared.Delivery)
    (rows : List Row) : Type 0 where
  pub row : ReceivesAs new p p' up up' h rows (dest rows p)
  pub let_in : IsLetIn old h

abbrev pub CoreReceivesOn : CoreState → CoreState → List ℕ → List ℕ → QueueState → QueueState
    → declared.Delivery → Type 0
CoreReceivesOn old new p p' up up' h = (rows : List Row) → CoreRepresents old rows
    → CoreReceivesIn old new p p' up up' h rows

-- ---- gone

-- a row that loses its client and sent nothing: its stream is gone, or it is dropped for what it
-- sends
abbrev pub IsUnsent : Item → ℕ → Type 0
IsUnsent (Gone j) k = j ≡ k
IsUnsent (Says j outgoing given) k = j ≡ k
IsUnsent item k = ⊥

-- the farewell of a row
pub record Leaves (new : CoreState) (row : Row) (up up' : QueueState) (rows : List Row) :
    Type 0 where
  pub sent : up'.waiting ≡ (with_payloads (farewell row (rows_of row.client rows)) up).waiting
  pub stands : CoreRepresents new (with_farewell row (rows_of row.client rows) ∷ rows)

-- of a row that wasn't reported to the core, or that changed nothing
abbrev pub LeavesUnsent : CoreState → CoreState → ℕ → QueueState → QueueState → Type 0
LeavesUnsent old new k up up' =
    (rows : List Row) (row : Row) → CoreRepresents old rows → is_member_served old.clients k ≡ true
    → IsUnsent row.item k → row.client ≡ k → row.up ≡ [] → row.farewell ≡ [] → loses row ≡ true
    → Leaves new row up up' rows

-- of a row that the core represents, and that drops its client after all
abbrev pub LeavesRecorded : CoreState → CoreState → ℕ → QueueState → QueueState → Type 0
LeavesRecorded old new k up up' =
    (rows : List Row) (row : Row) (down : List (List ℕ)) (why : Why) → CoreRepresents old (row ∷ rows)
    → is_member_served old.clients k ≡ true → row.client ≡ k → row.fate ≡ Goes → loses row ≡ false
    → row.farewell ≡ [] → Leaves new (record row { down = down; fate = Drop why }) up up' rows

-- of all logs, where the server sends this message and nothing goes up
abbrev pub ReceivesSummary : CoreState → CoreState → List ℕ → List ℕ → Summary → declared.Delivery → Type 0
ReceivesSummary old new p p' m h = (rows : List Row) (up : QueueState) → CoreRepresents old rows
    → read_summary p ≡ Ok m → ReceivesAs new p p' up up h rows (dest rows p)

-- the same where something goes up
abbrev pub ReceivesWith : CoreState → CoreState → List ℕ → List ℕ → Summary → QueueState → QueueState
    → declared.Delivery → Type 0
ReceivesWith old new p p' m up up' h = (rows : List Row) → CoreRepresents old rows → read_summary p ≡ Ok m
    → ReceivesAs new p p' up up' h rows (dest rows p)
