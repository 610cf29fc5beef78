-- A forwarder that replies: of what is known of it only its requests change meanwhile.
use Rattle.std.proofs.Common.{◌≡◌, List, ℕ, refl, ◌∙◌}
use Rattle.mux_outside.specs.Faults.{Faults}
use Rattle.mux_outside.specs.House.{HouseState}
use Rattle.mux_outside.specs.WireState.{WireState}
use Rattle.mux_outside.specs.declared.house.HouseReply.{HouseReply}
use Rattle.mux_engine.specs.Serving.{Scene}
use Rattle.mux_engine.specs.Sides.{SameHouse, SameSockets}
use Rattle.mux_engine.proofs.Following.{Ran, ran-none, ran-then}
use Rattle.mux_engine.proofs.HouseCalls.{house-then, same-house}
use Rattle.mux_engine.proofs.Places.{places-same, places-then}
use Rattle.mux_engine.proofs.Wired.{WorkedOwn, worked-own-none, works-own-then}

-- from one forwarder to another, over a wire: a run was served on with no turn, no stream of the
-- wire came or went, and only the master's own were written to
pub record Goes {T : Type 0} (May : HouseReply → Type 0) (state : T → HouseState) (a b : T) (old new : WireState) (f f' : Faults) (s s' : Scene) (todo rest : List ℕ) : Type 0 where
  pub ran : Ran May state a b s s' 0 todo rest
  pub known : SameHouse (state a).known (state b).known
  pub must : (state b).must ≡ (state a).must
  pub places : SameSockets old.seen new.seen
  pub wire : WorkedOwn old new f f'

module _ {T : Type 0} {May : HouseReply → Type 0} {state : T → HouseState} where
  pub goes-none : (a : T) (w : WireState) (f : Faults) (s : Scene) (todo : List ℕ) → Goes May state a a w w f f s s todo todo
  goes-none a w f s todo = record { ran = ran-none a s todo; known = same-house _ _ refl; must = refl; places = places-same _ _ refl; wire = worked-own-none w f }

  pub goes-then : {a b c : T} {x y z : WireState} {f g h : Faults} {s t u : Scene} {todo todo' rest : List ℕ} → Goes May state a b x y f g s t todo todo' → Goes May state b c y z g h t u todo' rest → Goes May state a c x z f h s u todo rest
  goes-then v w = record {
    ran = ran-then v.known.present v.ran w.ran;
    known = house-then _ _ _ v.known w.known;
    must = w.must ∙ v.must;
    places = places-then _ _ _ v.places w.places;
    wire = works-own-then v.wire w.wire;
  }
