-- What was requested of the forwarder by a call that found no memory: the first requests of what
-- was to be applied.
use Rattle.std.specs.Prelude.{◌≡◌, ◌⊎◌, ◌&&◌, ◌==◌, ℕ, Bool, true, false, List, [], ◌∷◌, ◌++◌, Option, Some, MatchBool}
use Rattle.mux_outside.specs.declared.house_mark.HouseMark.{HouseMark as Asked}
use Rattle.mux_outside.specs.declared.house.HouseReply.{HouseReply}
use Rattle.ssh_grammar.specs.Frames.{Front, Frame}
use Rattle.ssh_grammar.specs.Said.{Body, parse}
use Rattle.proxy_frames.specs.State.{QueueState}
use Rattle.mux_history.specs.Controls.{body_asks}
use Rattle.mux_history.specs.Rows.{Row, is_run_over}
use Rattle.mux_history.specs.Promises.{MayGive}
use Rattle.mux_core.specs.State.{CoreState}
use Rattle.mux_peers.specs.declared.standing.Standing.{Standing}
use Rattle.mux_peers.specs.State.{ClientState, part}
use Rattle.mux_peers.specs.Stands.{PartFits, is_greeted, is_proxied, is_read, parse_mode_of}
use Rattle.mux_peers.specs.Asked.{RecordsAsks, asks_of_rows, sending_asks}
use Rattle.mux_peers.specs.Says.{ComeNext}
use Rattle.mux_peers.specs.Pieces.{ReplyNext, rows_sent}

-- ---- one control message

-- this was requested of the forwarder, with some reply that it may give
abbrev pub AsksThis : (HouseReply → Type 0) → Option (List Asked) → Option (List Asked)
    → (HouseReply → List Asked) → Type 0
AsksThis May recorded recorded' asks =
    (given : HouseReply) × (May given × RecordsAsks recorded recorded' (asks given))

-- what a body requests, if it is a request to the forwarder
pub record AsksBody (May : HouseReply → Type 0) (recorded recorded' : Option (List Asked)) (k : ℕ)
    (greeted : Bool) (body : List ℕ) : Type 0 where
  pub asks : (greeted && body_asks body) ≡ true
  pub this : AsksThis May recorded recorded' (λ given. sending_asks k (Body body) (Some given))

-- nothing was asked, or what the body asks
abbrev pub AsksAtMost : (HouseReply → Type 0) → Option (List Asked) → Option (List Asked) → ℕ → Bool
    → List ℕ → Type 0
AsksAtMost May recorded recorded' k greeted body =
    (recorded' ≡ recorded) ⊎ AsksBody May recorded recorded' k greeted body

-- ---- what a client sends next

-- what the frame at the front asks, of a client that sends control messages
pub record AsksFront (May : HouseReply → Type 0) (recorded recorded' : Option (List Asked)) (k : ℕ)
    (standing : Standing) (front : Front) : Type 0 where
  pub body : List ℕ
  pub rest : List ℕ
  pub control : is_proxied standing ≡ false
  pub front_is : front ≡ Frame body rest
  pub asks : AsksBody May recorded recorded' k (is_greeted standing) body

-- nothing was asked, or what the front asks
abbrev pub AsksNext : (HouseReply → Type 0) → Option (List Asked) → Option (List Asked) → ℕ
    → Standing → Front → Type 0
AsksNext May recorded recorded' k standing front =
    (recorded' ≡ recorded) ⊎ AsksFront May recorded recorded' k standing front

-- ---- a piece

-- these are the first that come after those
pub record BeginsWithAsked (before asks all : List Asked) : Type 0 where
  pub rest : List Asked
  pub all_is : all ≡ before ++ (asks ++ rest)

-- a piece of a client that is read: the first requests of all that is sent by it were made of the
-- forwarder, with replies that it may give
pub record ReceivesSome (May : HouseReply → Type 0) (recorded recorded' : Option (List Asked)) (pid : ℕ)
    (bytes : List ℕ) (core : CoreState) (up : QueueState) (first : ClientState) : Type 0 where
  pub read : is_read first.peer.standing ≡ true
  pub picked : List ℕ
  pub used : List HouseReply
  pub asks : List Asked
  pub may : MayGive May used
  pub records : RecordsAsks recorded recorded' asks
  pub begins : (picks : List ℕ) (given : List HouseReply) (rows : List Row)
      → PartFits rows (part core first.peer up) → is_run_over rows ≡ false → ComeNext picked rows picks
      → ReplyNext used rows given
      → BeginsWithAsked (asks_of_rows rows) asks
      (asks_of_rows (rows_sent core.policy pid picks given first.peer.number rows
      (parse (parse_mode_of first.peer.standing) (first.rest ++ bytes)).says))

-- the client of a number is so
abbrev pub OneIs : ℕ → (ClientState → Type 0) → List ClientState → Type 0
OneIs k P [] = ⊥
OneIs k P (c ∷ cs) = MatchBool (c.peer.number == k) (P c) (OneIs k P cs)
