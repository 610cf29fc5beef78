-- A client that was found by its number, and what follows where it goes on.
use Rattle.std.proofs.Common.{◌≡◌, ◌≤◌, ◌<◌, ℕ, Bool, true, false, not, List, [], ◌∷◌, length, get_or, set, Option, Some, None, Result, Ok, refl, sym, ap, ◌∙◌, ◌++◌, subst, arith, append-nil, cond}
use Rattle.std.specs.Prelude.{MatchBool, OnOk}
use Rattle.mux_outside.specs.House.{HouseState}
use Rattle.mux_outside.specs.declared.house_mark.HouseMark.{HouseMark as Asked}
use Rattle.mux_outside.specs.declared.house.HouseReply.{HouseReply}
use Rattle.proxy_frames.specs.State.{QueueState}
use Rattle.client_teardown.specs.declared.farewell.TheConstants.{FAREWELL_ROOM}
use Rattle.mux_history.specs.declared.why.Why.{Why}
use Rattle.mux_core.specs.State.{CoreState}
use Rattle.mux_peers.specs.declared.run_change.RunChange.{RunChange}
use Rattle.mux_peers.specs.declared.standing.Standing.{Standing}
use Rattle.mux_peers.specs.State.{ClientState, ClientsState, clients_of, clients_and_queue, part}
use Rattle.mux_peers.specs.Stands as stands
use Rattle.mux_peers.specs.Among.{ChangesOne, PeerGoesAt, KeepReading, at_client, client_index, in_client, is_present}
use Rattle.mux_peers.specs.Losing.{Loses, LosesIn, LosesNothing, NotesMore, loss_between, loss_in}
use Rattle.mux_peers.specs.Asked.{Applies}
use Rattle.mux_peers.specs.Pieces.{ReceivesIn, ReceivesNothing, ReceivesPiece}
use Rattle.mux_peers.specs.Starved.{ReceivesSome, OneIs}
use Rattle.mux_peers.specs.Room.{HasRoom, KeepsAll, LeavesRest, LeavesRoom}
use Rattle.mux_peers.proofs.Keeping.{among-loss, keep-same, keep-set}
use Rattle.mux_peers.proofs.Placed.{numbers-set, placed-absent, placed-here, placed-present, present-set, set-changes}
use Rattle.mux_peers.proofs.Places.{at_client_set, look_at}
use Rattle.mux_peers.proofs.Rooms.{room-at, room-set}
use Rattle.mux_peers.proofs.Starved.{receives-all, one-is}

-- it is the first of the number, at this place
pub record Found (k i : ℕ) (x : ClientState) (cs : List ClientState) : Type 0 where
  pub place : i ≡ client_index k cs
  pub within : i < length cs
  pub is : x ≡ get_or cs i x

pub found : (k i n m : ℕ) (x : ClientState) (lent cs : List ClientState) → i ≡ client_index k lent → lent ≡ cs → i < n → n ≡ m → m ≡ length cs → x ≡ get_or cs i x → Found k i x cs
found k i n m x lent cs place same lt len all is = record { place = place ∙ ap (client_index k) same; within = omega (arith, lt, len, all); is = is }

pub found-changes : (k i : ℕ) (R : ClientState → ClientState → Type 0) (x y : ClientState) (cs : List ClientState) → Found k i x cs → R x y → ChangesOne k R cs (set cs i y)
found-changes k i R x y cs f r = set-changes k i R x y cs f.place f.within (subst (λ (z : ClientState). R z y) f.is r)

pub found-keeps : (k i : ℕ) (x y : ClientState) (cs : List ClientState) (up up' : QueueState) → Found k i x cs → y.peer.number ≡ x.peer.number → LeavesRoom up up' x y → KeepsAll cs (set cs i y) up up'
found-keeps k i x y cs up up' f same room =
    let number : y.peer.number ≡ (get_or cs i x).peer.number = same ∙ ap (λ (z : ClientState). z.peer.number) f.is in
    record {
      present = present-set i x y cs f.within number;
      numbers_same = numbers-set i x y cs f.within number;
      room = room-set i x y cs up up' f.within (subst (λ (z : ClientState). LeavesRoom up up' z y) f.is room);
    }

pub found-reading : (k i : ℕ) (x y : ClientState) (cs : List ClientState) → Found k i x cs → y.peer.number ≡ x.peer.number
    → (stands.is_standing_lost y.peer.standing ≡ false → (y.peer.standing ≡ x.peer.standing) × (y.rest ≡ x.rest)) → KeepReading cs (set cs i y)
found-reading k i x y cs f same reads =
    keep-set i x y cs f.within (same ∙ ap (λ (z : ClientState). z.peer.number) f.is)
    (λ l. let r = reads l in (r.0 ∙ ap (λ (z : ClientState). z.peer.standing) f.is, r.1 ∙ ap (λ (z : ClientState). z.rest) f.is))

-- there is room for its farewell where it isn't lost
pub found-room : (k i : ℕ) (x : ClientState) (cs : List ClientState) (up : QueueState) → Found k i x cs → HasRoom cs up → stands.is_standing_lost x.peer.standing ≡ false → FAREWELL_ROOM ≤ up.spare
found-room k i x cs up f room here = room-at i x cs up f.within (ap (λ (z : ClientState). stands.is_standing_lost z.peer.standing) (sym f.is) ∙ here) room

pub found-here : {A : Type 0} (k i : ℕ) (x : ClientState) (cs : List ClientState) → Found k i x cs → is_present cs k ≡ false → A
found-here k i x cs f gone = placed-here k i cs f.place f.within gone

pub found-present : (k i : ℕ) (x : ClientState) (cs : List ClientState) → Found k i x cs → is_present cs k ≡ true
found-present k i x cs f = placed-present k i cs f.place f.within

pub found-look : {A : Type 0} (none : A) (look : ClientState → A) (k i : ℕ) (x : ClientState) (cs : List ClientState) → Found k i x cs → in_client none look cs k ≡ look x
found-look none look k i x cs f = look_at none look k i x cs f.place f.within ∙ ap look (sym f.is)

pub found-at : (k i : ℕ) (f : ClientState → ClientState) (x y : ClientState) (cs : List ClientState) → Found k i x cs → y ≡ f x → set cs i y ≡ at_client k f cs
found-at k i f x y cs fd e = at_client_set k i f x y cs fd.place (e ∙ ap f fd.is)

-- it goes on so, and its loss is noted
pub found-goes : (k i : ℕ) (R : List (ℕ × Option Why) → ClientState → ClientState → Type 0) (before now : Standing) (x y : ClientState) (cs : List ClientState) (leaving leaving' : List (ℕ × Option Why)) (core core' : CoreState) (up up' : QueueState)
    → Found k i x cs → leaving' ≡ leaving ++ loss_between before now k → R (loss_between before now k) x y → y.peer.number ≡ x.peer.number → (stands.is_standing_lost y.peer.standing ≡ false → (y.peer.standing ≡ x.peer.standing) × (y.rest ≡ x.rest))
    → PeerGoesAt k R (clients_and_queue (clients_of cs leaving) core up) (clients_and_queue (clients_of (set cs i y) leaving') core' up')
found-goes k i R before now x y cs leaving leaving' core core' up up' f leaves goes same reads = record {
  noted = loss_between before now k;
  leaves = leaves;
  changes = λ here. found-changes k i (R (loss_between before now k)) x y cs f goes;
  among = among-loss cs before now k (found-present k i x cs f);
  reading = found-reading k i x y cs f same reads;
}

pub found-rest : {A E : Type 0} (result : Result A E) (k i : ℕ) (x y : ClientState) (cs : List ClientState) (leaving leaving' : List (ℕ × Option Why)) (core core' : CoreState) (up up' : QueueState)
    → Found k i x cs → NotesMore leaving leaving' → OnOk result (KeepsAll cs (set cs i y) up up') → core'.policy ≡ core.policy
    → LeavesRest result k (clients_and_queue (clients_of cs leaving) core up) (clients_and_queue (clients_of (set cs i y) leaving') core' up')
found-rest result k i x y cs leaving leaving' core core' up up' f more keeps policy = record { absent = λ gone. found-here k i x cs f gone; more = more; keeps = keeps; policy = policy }

-- ---- none was found

pub none-found : (k i n m : ℕ) (lent cs : List ClientState) → i ≡ client_index k lent → lent ≡ cs → n ≤ i → n ≡ m → m ≡ length cs → length cs ≤ client_index k cs
none-found k i n m lent cs place same le len all = omega (arith, place ∙ ap (client_index k) same, le, len, all)

pub none-here : {A : Type 0} (k : ℕ) (cs : List ClientState) → length cs ≤ client_index k cs → is_present cs k ≡ true → A
none-here k cs le here = absurd (let gone : is_present cs k ≡ false = placed-absent k cs le in let d : false ≡ true = sym gone ∙ here in cc)

-- with the clients as they are shown
pub none-present : (k i n m : ℕ) (lent cs : List ClientState) (leaving : List (ℕ × Option Why)) (s : ClientsState) → clients_of cs leaving ≡ s → i ≡ client_index k lent → lent ≡ cs → n ≤ i → n ≡ m → m ≡ length cs → is_present s.all k ≡ false
none-present k i n m lent cs leaving s view place same le len all = sym (ap (λ (c : ClientsState). is_present c.all k) view) ∙ placed-absent k cs (none-found k i n m lent cs place same le len all)

pub keeps-same : (cs : List ClientState) (up : QueueState) → KeepsAll cs cs up up
keeps-same cs up = record { present = λ j. refl; numbers_same = refl; room = λ h. h }

-- ---- what is noted

pub none-noted : (l : List (ℕ × Option Why)) → NotesMore l l
none-noted l = record { more = []; longer = sym (append-nil l) }

pub none-goes : (k : ℕ) (R : List (ℕ × Option Why) → ClientState → ClientState → Type 0) (s : ClientsState) (core : CoreState) (up : QueueState) → is_present s.all k ≡ false → PeerGoesAt k R (clients_and_queue s core up) (clients_and_queue s core up)
none-goes k R s core up gone = record {
  noted = [];
  leaves = sym (append-nil s.leaving);
  changes = λ here. absurd (let d : false ≡ true = sym gone ∙ here in cc);
  among = tt;
  reading = keep-same s.all;
}

pub none-rest : {A E : Type 0} (a : A) (k : ℕ) (s : ClientsState) (core : CoreState) (up : QueueState) → LeavesRest {A = A} {E = E} (Ok a) k (clients_and_queue s core up) (clients_and_queue s core up)
none-rest a k s core up = record { absent = λ gone. refl; more = none-noted s.leaving; keeps = keeps-same s.all up; policy = refl }

-- one that is lost by its stream
pub loss-lost : (k : ℕ) (old new : CoreState) (up up' : QueueState) (x y : ClientState) → LosesIn old new up up' x y → loss_between x.peer.standing y.peer.standing k ≡ cond (stands.not_lost x.peer.standing) ((k, None) ∷ []) []
loss-lost k old new up up' x y h = by_lost (stands.is_standing_lost x.peer.standing) h
  where
    by_lost : (b : Bool) → MatchBool b (LosesNothing old new up up' x y) (Loses (part old x.peer up) (part new y.peer up')) → cond b [] (loss_in y.peer.standing k) ≡ cond (not b) ((k, None) ∷ []) []
    by_lost true h = refl
    by_lost false h = ap (λ (s : Standing). loss_in s k) h.standing

-- ---- what was requested of the forwarder

pub receives-of : (May : HouseReply → Type 0) (before recorded : Option (List Asked)) (pid : ℕ) (bytes : List ℕ) (core core' : CoreState) (up up' : QueueState) (heard : RunChange) (x y : ClientState) → stands.is_read x.peer.standing ≡ true → ReceivesIn May before recorded pid bytes core core' up up' heard x y → ReceivesPiece May before recorded pid bytes core up x core' up' y heard
receives-of May before recorded pid bytes core core' up up' heard x y e h = by_read (stands.is_read x.peer.standing) e h
  where
    by_read : (b : Bool) → b ≡ true → MatchBool b (ReceivesPiece May before recorded pid bytes core up x core' up' y heard) (ReceivesNothing before recorded core up x core' up' y heard) → ReceivesPiece May before recorded pid bytes core up x core' up' y heard
    by_read true t h = h
    by_read false t h = absurd (cc)

-- the client was lost by its piece, and there was no memory to note that
pub cut-noted : {A E : Type 0} {a : A} (May : HouseReply → Type 0) {asks asks' : List Asked} {old new : HouseState} (pid : ℕ) (bytes : List ℕ) (core core' : CoreState) (up up' : QueueState) (heard : RunChange) (k i : ℕ) (x y : ClientState) (cs : List ClientState)
    → Found k i x cs → (stands.is_standing_lost x.peer.standing ≡ false) × (stands.is_standing_lost y.peer.standing ≡ true) → ReceivesIn May (Some asks) (Some asks') pid bytes core core' up up' heard x y → Applies {A = A} {E = E} (Ok a) asks asks' old new
    → OneIs k (ReceivesSome May old.recorded new.recorded pid bytes core up) cs
cut-noted May {asks} {asks'} {old} {new} pid bytes core core' up up' heard k i x y cs f lost h a =
    one-is k i P x cs f.place f.within (subst P f.is (by_read (stands.is_read x.peer.standing) refl h))
  where
    P : ClientState → Type 0
    P = ReceivesSome May old.recorded new.recorded pid bytes core up

    by_read : (b : Bool) → stands.is_read x.peer.standing ≡ b → MatchBool b (ReceivesPiece May (Some asks) (Some asks') pid bytes core up x core' up' y heard) (ReceivesNothing (Some asks) (Some asks') core up x core' up' y heard) → P x
    by_read true e h = receives-all May pid bytes core core' up up' x y heard e h a
    by_read false e h = absurd (let d : true ≡ false = sym lost.1 ∙ (ap (λ (z : ClientState). stands.is_standing_lost z.peer.standing) h.same ∙ lost.0) in cc)
