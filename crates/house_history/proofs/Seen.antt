-- The relays of the forwarder as the history sees them.
use Rattle.std.proofs.Common.{◌≡◌, ◌≤◌, ℕ, false, Some, None, List, [], ◌∷◌, ◌++◌}
use Rattle.std.specs.Prelude.{length, Ok, Err}
use Rattle.house_relay.specs.Acts.{RelayAct, adjusted, delivered}
use Rattle.house_relay.specs.declared.line.ChannelState.{ChannelState}
use Rattle.house_relay.specs.declared.line.ChannelState.TheVariants.{Asked, Dialing, Live, Offered, Opened, Over}
use Rattle.house_relay.specs.declared.line.Live.{Live as LiveState}
use Rattle.house_relay.specs.declared.relay.Relay.{Relay}
use Rattle.house_relay.specs.declared.relay.Outgoing.{Outgoing}
use Rattle.house_relay.specs.declared.relay.Outgoing.TheVariants as outgoing
use Rattle.house_relay.specs.Next.{sends_of}
use Rattle.house_forward.specs.RelayTraces.{Life}
use Rattle.house_forward.specs.Said.{framed, payload_of}
use Rattle.mux_history.specs.Channels.{Channel}
use Rattle.mux_history.specs.Summary as summary
use Rattle.mux_history.specs.Summary.{read_summary}
use Rattle.house_history.proofs.Lists.{Each}
use Rattle.house_history.proofs.Views.{Acct, IsLive, IsOffered, IsOpened, MaySend, NoChannel, View, says}
use Rattle.house_history.proofs.Fitting.{Entry, Fit}
use Rattle.house_history.proofs.Notes.{Later, Note, Nothing, fresh-acct, note-of, unless-over}

-- nothing went through its channel
abbrev pub Untouched : List RelayAct → Type 0
Untouched acts = (adjusted acts ≡ 0) × (delivered acts ≡ [])

-- a channel that is confirmed has this account
pub record LiveIs (live : LiveState) (acts : List RelayAct) (a : Acct) : Type 0 where
  pub remote : live.remote ≡ a.remote
  pub room : live.room ≡ a.room
  pub maximum : live.maximum ≡ a.maximum
  pub eof_sent : live.eof_sent ≡ a.eof_sent
  pub close_sent : live.close_sent ≡ a.close_sent
  pub close_received : live.close_received ≡ a.close_received
  pub failures : live.close_sent ≡ false → live.failures ≡ a.failures
  pub given : adjusted acts ≡ a.given
  pub came : length (delivered acts) ≤ a.came

abbrev pub ViewOf : ChannelState → List RelayAct → View → Type 0
ViewOf (Dialing dialog) acts v = (v ≡ NoChannel) × Untouched acts
ViewOf (Asked host port version) acts v = (v ≡ NoChannel) × Untouched acts
ViewOf (Opened version) acts v = (v ≡ IsOpened) × Untouched acts
ViewOf (Offered remote window maximum) acts v = (v ≡ IsOffered remote window maximum) × Untouched acts
ViewOf (Live live) acts v = (a : Acct) × (v ≡ IsLive a) × LiveIs live acts a
ViewOf Over acts v = v ≡ NoChannel

pub record IsView (l : Life) (e : Entry) : Type 0 where
  pub number : e.0 ≡ Some l.relay.number
  pub view : ViewOf l.relay.line l.acts e.1

abbrev pub AreViews : List Life → List Entry → Type 0
AreViews [] [] = Unit {0}
AreViews [] (e ∷ es) = ⊥
AreViews (l ∷ ls) [] = ⊥
AreViews (l ∷ ls) (e ∷ es) = IsView l e × AreViews ls es

-- opens of the server that the forwarder doesn't accept have no number of the forwarder
abbrev pub Unnumbered : Entry → Type 0
Unnumbered e = e.0 ≡ None

-- once the forwarder has received these notes, its relays fit the channels that the history has of
-- it
pub record Seen (hs : List Channel) (relay_traces : List Life) (notes : List Note) : Type 0 where
  pub entries : List Entry
  pub orphans : List Entry
  pub views : AreViews relay_traces entries
  pub unnumbered : Each Unnumbered orphans
  pub later : Later hs (entries ++ orphans) notes

-- the note of a payload
abbrev pub note-in : List ℕ → Note
note-in p = elim (read_summary p) [ Ok g ↦ note-of g | Err bad ↦ Nothing ]

-- ---- what a relay sends

abbrev pub act-of : Outgoing → summary.Act
act-of outgoing.Open = summary.Fails
act-of outgoing.Confirmation = summary.Fails
act-of outgoing.OpenFailure = summary.Fails
act-of outgoing.Close = summary.Closes
act-of outgoing.Failure = summary.Answers
act-of (outgoing.Data n) = summary.Carries n
act-of outgoing.Eof = summary.Ends
act-of (outgoing.Adjust n) = summary.Grants n

-- the view of a channel after it
abbrev pub said-view : summary.Act → Acct → View
said-view summary.Closes a = unless-over a.close_received (says summary.Closes a)
said-view (summary.Carries n) a = IsLive (says (summary.Carries n) a)
said-view (summary.Grants n) a = IsLive (says (summary.Grants n) a)
said-view summary.Ends a = IsLive (says summary.Ends a)
said-view summary.Answers a = IsLive (says summary.Answers a)
said-view (summary.Asks wants) a = IsLive a
said-view summary.Fails a = IsLive a
said-view (summary.Confirms w m) a = IsLive a

pub record SendsLive (live : LiveState) (s : Outgoing) (v v' : View) : Type 0 where
  pub acct : Acct
  pub was : v ≡ IsLive acct
  pub remote : acct.remote ≡ live.remote
  pub may : MaySend (act-of s) acct
  pub now : v' ≡ said-view (act-of s) acct

abbrev pub SendsOffer : ℕ → ℕ → ℕ → Outgoing → View → View → Type 0
SendsOffer remote w m outgoing.Confirmation v v' = (v ≡ IsOffered remote w m) × (v' ≡ IsLive (fresh-acct remote w m))
SendsOffer remote w m outgoing.OpenFailure v v' = (v ≡ IsOffered remote w m) × (v' ≡ NoChannel)
SendsOffer remote w m s v v' = ⊥

abbrev pub SendsOpen : Outgoing → View → View → Type 0
SendsOpen outgoing.Open v v' = (v ≡ NoChannel) × (v' ≡ IsOpened)
SendsOpen s v v' = ⊥

-- a view goes on by what is sent
abbrev pub SentAs : ChannelState → Outgoing → View → View → Type 0
SentAs (Asked host port version) s v v' = SendsOpen s v v'
SentAs (Offered remote w m) s v v' = SendsOffer remote w m s v v'
SentAs (Live live) s v v' = SendsLive live s v v'
SentAs (Dialing dialog) s v v' = ⊥
SentAs (Opened version) s v v' = ⊥
SentAs Over s v v' = ⊥

-- a relay sent this, where all that the forwarder was sent is received
pub record Spoken (hs : List Channel) (bytes : List ℕ) (relay_traces : List Life) : Type 0 where
  pub relay : Relay
  pub said : Outgoing
  pub next : sends_of relay ≡ Some said
  pub spelled : bytes ≡ framed (payload_of relay said)
  pub front : List Entry
  pub behind : List Entry
  pub was : View
  pub now : View
  pub does : SentAs relay.line said was now
  pub fit : Fit hs (front ++ (Some relay.number, was) ∷ behind)
  pub goes : (hs' : List Channel) (notes : List Note) → Later hs' (front ++ (Some relay.number, now) ∷ behind) notes → Seen hs' relay_traces notes
