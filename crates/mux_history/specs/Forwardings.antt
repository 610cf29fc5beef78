-- Remote forwardings of ports (RFC 4254, section 7.1) and of paths (OpenSSH's PROTOCOL, section
-- 2.4), looked up in the rows. A request is known by its place among its client's sent wanted
-- requests.
use Rattle.std.specs.Prelude.{ℕ, ◌==◌, List, [], ◌∷◌, ◌++◌, Option, Some, None, Bool, true, false, not, ◌&&◌, length, map, filter, find, is_none}
use Rattle.ssh_grammar.specs.Messages.{Key, Forward, Cancel}
use Rattle.ssh_grammar.specs.Said.{Payload}
use Rattle.mux_history.specs.Summary.{Summary, Requests, Succeeds, Refuses, reading}
use Rattle.mux_history.specs.Rows.{Row, rows_of, loses, Says, Heard}
use Rattle.mux_history.specs.Channels.{is_number}
use Rattle.mux_history.specs.Keys.{has_key, bound}
use Rattle.mux_history.specs.Requests.{wanted_requests, replies, is_sent}

-- a forwarding: its client, the key that was asked, the place of its request, its key once the
-- server's success came, and the place of the unanswered cancel that means it
pub record Forwarding : Type 0 where
  pub client : ℕ
  pub key : Key
  pub request : ℕ
  pub live : Option Key
  pub cancel : Option ℕ
  pub over : Bool

-- the forwarding was asked at this place, and has no success yet
abbrev pub is_request : Forwarding → ℕ → Bool
is_request f place = (f.request == place) && is_none f.live

-- the reply to the request at a place: a success makes live what was asked there and ends what was
-- to be cancelled there; a refusal ends what was asked there and leaves what was to be cancelled
-- there
abbrev pub forwarding_after_reply : ℕ → Summary → Forwarding → Forwarding
forwarding_after_reply place (Succeeds rest) f = elim (is_request f place) [
  | true ↦ record f { live = Some (bound f.key rest) }
  | false ↦ elim (is_number f.cancel place) [ true ↦ record f { over = true } | false ↦ f ]
]
forwarding_after_reply place Refuses f = elim (is_request f place) [
  | true ↦ record f { over = true }
  | false ↦ elim (is_number f.cancel place) [ true ↦ record f { cancel = None } | false ↦ f ]
]
forwarding_after_reply place _ f = f

-- live with this key, and no unanswered cancel means it
abbrev pub is_forwarding_free_at : ℕ → Key → Forwarding → Bool
is_forwarding_free_at k key f = (f.client == k) && (not f.over && (is_none f.cancel && has_key f.live key))

-- what a cancel leaves of the forwarding that it means: one that wants no reply ends it at once
abbrev pub stopped : Bool → ℕ → Forwarding → Forwarding
stopped true place f = record f { cancel = Some place }
stopped false place f = record f { over = true }

-- the earliest forwarding that passes, changed
abbrev pub change_first : (Forwarding → Bool) → (Forwarding → Forwarding) → List Forwarding
    → List Forwarding
change_first test change [] = []
change_first test change (f ∷ fs) = elim (test f) [
  | true ↦ change f ∷ fs
  | false ↦ f ∷ change_first test change fs
]

-- what a client's request that is sent makes of the forwardings
abbrev pub forwardings_after_request : ℕ → ℕ → Summary → List Forwarding → List Forwarding
forwardings_after_request k place (Requests (Forward key) wants) fs =
    fs ++ record {
      client = k;
      key = key;
      request = place;
      live = None;
      cancel = None;
      over =
          false;
    } ∷ []
forwardings_after_request k place (Requests (Cancel key) wants) fs =
    change_first (is_forwarding_free_at k key) (stopped wants place) fs
forwardings_after_request k place _ fs = fs

-- a change of one client's forwardings
abbrev pub of_client : ℕ → (Forwarding → Forwarding) → Forwarding → Forwarding
of_client k change f = elim (f.client == k) [ true ↦ change f | false ↦ f ]

-- the forwardings after what one more row sends; `own` are the rows of its client before it
abbrev pub forwarded : Row → List Row → List Forwarding → List Forwarding
forwarded row own fs = elim row.item [
  | Says k outgoing reply ↦ elim outgoing [
    | Payload p ↦ elim (is_sent row) [
      | true ↦ reading p (λ m. forwardings_after_request row.client (length (wanted_requests own)) m fs) fs
      | false ↦ fs
    ]
    | _ ↦ fs
  ]
  | Heard p ↦ reading p (λ m. map (of_client row.client (forwarding_after_reply (length (replies own)) m)) fs) fs
  | _ ↦ fs
]

-- all of a client end with its loss
abbrev pub dropped : Row → List Forwarding → List Forwarding
dropped row fs = elim (loses row) [
  | true ↦ map (of_client row.client (λ f. record f { over = true })) fs
  | false ↦ fs
]

-- all forwardings of all clients, those that are over too, in order of asking
abbrev pub forwardings_of : List Row → List Forwarding
forwardings_of [] = []
forwardings_of (row ∷ before) =
    dropped row (forwarded row (rows_of row.client before) (forwardings_of before))

-- those that are asked or live
abbrev pub current : List Row → List Forwarding
current rows = filter (λ f. not f.over) (forwardings_of rows)

-- the earliest forwarding that is live with this key
abbrev pub live_at : List Row → Key → Option Forwarding
live_at rows key = find (λ f. has_key f.live key) (current rows)
