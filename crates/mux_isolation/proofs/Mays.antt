-- What a client's row may send and give: data within its window, and what is permitted.
use Rattle.std.proofs.Common.{◌≡◌, ℕ, List, [], ◌∷◌, true, Some}
use Rattle.std.specs.Prelude.{option_map}
use Rattle.mux_history.specs.Channels.{with_own}
use Rattle.mux_history.specs.Forwardings.{live_at}
use Rattle.mux_history.specs.Summary.{Carries, Summary, Open, Requests, Within}
use Rattle.mux_history.specs.Kept.{DownFits, EachSends, EachRecords, Fits, ForEach, IsPermitted, MeetsLive, Permission, UpFits, Window}
use Rattle.mux_history.specs.Policy.{Policy, may_open, permits}
use Rattle.mux_history.specs.Rows.{Row, rows_of, sent_by}
use Rattle.mux_history.specs.Said.{confirmed_at, sends_payload, records}
use Rattle.ssh_grammar.specs.Messages.{Forward, Forwarded}
use Rattle.ssh_grammar.specs.SpellMessage.{wants_reply}
use Rattle.ssh_grammar.specs.declared.side.Side.TheVariants.{Down, Up}

-- from the client's rows before it
abbrev pub MaySend : Policy → List Row → Summary → Type 0
MaySend policy own (Within s (Carries size)) = Fits Up size (confirmed_at own s)
MaySend policy own (Open what c window maximum) = may_open policy what ≡ true
MaySend policy own (Requests (Forward key) wants_reply) = permits policy.listens key ≡ true
MaySend policy own m = Unit {0}

abbrev pub SendsAllowed : Policy → List Row → Row → Type 0
SendsAllowed policy before row = EachSends (MaySend policy (rows_of row.client before)) (sent_by row)

abbrev pub MayRecord : List Row → ℕ → Summary → Type 0
MayRecord before k (Within c (Carries size)) = Fits Down size (with_own (rows_of k before) c)
MayRecord before k (Open (Forwarded key) s window maximum) = option_map (λ f. f.client) (live_at before key) ≡ Some k
MayRecord before k m = Unit {0}

abbrev pub RecordsAllowed : List Row → Row → Type 0
RecordsAllowed before row = EachRecords (MayRecord before row.client) row.down

-- ---- the parts

send-fits : (policy : Policy) (own : List Row) (m : Summary) → MaySend policy own m → UpFits own m
send-fits policy own (Within s (Carries size)) may = may
send-fits policy own m may = tt

send-permitted : (policy : Policy) (own : List Row) (m : Summary) → MaySend policy own m → IsPermitted policy m
send-permitted policy own (Open what c window maximum) may = may
send-permitted policy own (Requests (Forward key) wants_reply) may = may
send-permitted policy own m may = tt

report-fits : (before : List Row) (k : ℕ) (m : Summary) → MayRecord before k m → DownFits (rows_of k before) m
report-fits before k (Within c (Carries size)) may = may
report-fits before k m may = tt

report-meets : (before : List Row) (k : ℕ) (m : Summary) → MayRecord before k m → MeetsLive before k m
report-meets before k (Open (Forwarded key) s window maximum) may = may
report-meets before k m may = tt

says-each : (P Q : Summary → Type 0) → ((m : Summary) → P m → Q m) → (ps : List (List ℕ)) → EachSends P ps → EachSends Q ps
says-each P Q step [] each = tt
says-each P Q step (p ∷ ps) each = ((λ m reads. step m (each.0 m reads)), says-each P Q step ps each.1)

records-each : (P Q : Summary → Type 0) → ((m : Summary) → P m → Q m) → (fs : List (List ℕ)) → EachRecords P fs → EachRecords Q fs
records-each P Q step [] each = tt
records-each P Q step (f ∷ fs) each = ((λ m reads. step m (each.0 m reads)), records-each P Q step fs each.1)

pub windows : (policy : Policy) (rows : List Row) → ForEach (SendsAllowed policy) rows → ForEach RecordsAllowed rows → ForEach Window rows
windows policy [] sends_payload records = tt
windows policy (row ∷ before) sends_payload records = (
  record {
    up = says-each (MaySend policy (rows_of row.client before)) (UpFits (rows_of row.client before)) (send-fits policy (rows_of row.client before)) (sent_by row) sends_payload.0;
    down = records-each (MayRecord before row.client) (DownFits (rows_of row.client before)) (report-fits before row.client) row.down records.0;
  },
  windows policy before sends_payload.1 records.1,
)

pub permissions : (policy : Policy) (rows : List Row) → ForEach (SendsAllowed policy) rows → ForEach RecordsAllowed rows → ForEach (Permission policy) rows
permissions policy [] sends_payload records = tt
permissions policy (row ∷ before) sends_payload records = (
  record {
    up = says-each (MaySend policy (rows_of row.client before)) (IsPermitted policy) (send-permitted policy (rows_of row.client before)) (sent_by row) sends_payload.0;
    down = records-each (MayRecord before row.client) (MeetsLive before row.client) (report-meets before row.client) row.down records.0;
  },
  permissions policy before sends_payload.1 records.1,
)
