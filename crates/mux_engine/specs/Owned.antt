-- What was offered to the master's own streams.
use Rattle.std.specs.Prelude.{◌≡◌, ◌<◌, ◌≤◌, ◌+◌, ◌⊎◌, ◌&&◌, ℕ, Bool, true, false, not, List, [], ◌∷◌, filter, length, IsTrue, None}
use Rattle.mux_history.specs.Promises.{is_empty}
use Rattle.mux_outside.specs.House.{HouseState}
use Rattle.mux_outside.specs.OwnStreams.{is_one, is_own}
use Rattle.mux_outside.specs.Seen.{Seen}
use Rattle.mux_outside.specs.Streams.{among}

-- nothing waits for it, or it is blocked, or it failed
abbrev pub IsOwnOffered : List ℕ → List ℕ → List ℕ → ℕ → Type 0
IsOwnOffered queue held failed t = (queue ≡ []) ⊎ (IsTrue (among t held) ⊎ IsTrue (among t failed))

-- something waits for it, and it did not fail
abbrev pub waits_for_own : (ℕ → List ℕ) → List ℕ → ℕ → Bool
waits_for_own queue failed t = not (among t failed) && not (is_empty (queue t))

-- how many did not fail
abbrev pub streams_left_of : List ℕ → List ℕ → ℕ
streams_left_of failed own = length (filter (λ t. not (among t failed)) own)

-- a forwarder and the wire know the same streams, and which are blocked; it waits for no number
pub record OwnsStreams (house : HouseState) (seen : Seen) (held : List ℕ) : Type 0 where
  pub ordering : house.known.ordering ≡ None
  pub same : house.known.streams ≡ seen.own
  pub held_is : held ≡ seen.blocked

-- an open stream of the master's own
pub record IsOpenOwn (house : HouseState) (seen : Seen) (t : ℕ) : Type 0 where
  pub one : IsTrue (is_one t house.known.streams)
  pub own : IsTrue (is_own t)
  pub stream_open : IsTrue (among t seen.streams)

-- an open stream of the master's own, of a forwarder and a wire that know the same streams
pub record CanOfferOwn (house : HouseState) (seen : Seen) (held : List ℕ) (t : ℕ) : Type 0 where
  pub knows : OwnsStreams house seen held
  pub stream : IsOpenOwn house seen t

-- a stream accepted some of what waits for it, or it was offered that
abbrev pub TookOrOffered : Bool → (queue queue' : ℕ → List ℕ) → List ℕ → List ℕ → ℕ → Type 0
TookOrOffered true queue queue' held failed t = length (queue' t) < length (queue t)
TookOrOffered false queue queue' held failed t = IsOwnOffered (queue' t) held failed t

-- as long as none failed, what was offered to the others stays offered
abbrev pub StayOffered : (queue queue' : ℕ → List ℕ) → (held held' failed failed' : List ℕ) → Type 0
StayOffered queue queue' held held' failed failed' =
    length failed' ≡ length failed → (t : ℕ) → IsOwnOffered (queue t) held failed t
    → IsOwnOffered (queue' t) held' failed' t

-- those that failed get no fewer, and by each one more of them there is one less that did not
pub record FailsFurther (todo failed failed' : List ℕ) : Type 0 where
  pub grows : length failed ≤ length failed'
  pub fewer : (own : List ℕ) → ((t : ℕ) → among t todo ≡ true → among t own ≡ true)
      → streams_left_of failed' own + length failed' ≤ streams_left_of failed own + length failed

-- what the lists of the blocked streams and of those that failed say once a stream was offered what
-- waits for it
pub record KeepsOffers (stream : ℕ) (old new : HouseState) (seen : Seen)
    (held held' failed failed' : List ℕ) : Type 0 where
  pub held_is : held' ≡ seen.blocked
  pub keeps : StayOffered old.queue new.queue held held' failed failed'
  pub fails : FailsFurther (stream ∷ []) failed failed'
