-- An engine is the same for a journal whether there was memory or not.
use Rattle.std.proofs.Common.{◌≡◌, ℕ, Bool, true, false, List, ◌∷◌, ◌++◌, Option, sym, subst}
use Rattle.mux_outside.specs.declared.house_mark.HouseMark.{HouseMark as Asked}
use Rattle.mux_outside.specs.declared.house.HouseReply.{HouseReply}
use Rattle.mux_outside.specs.declared.mark.Mark.{Mark}
use Rattle.mux_outside.specs.declared.mark.Mark.TheVariants.{Waits, Accepts, Gets, Ends, Frees, Fails, Takes, Holds, WriteFails, House, Joins}
use Rattle.mux_history.specs.Rows.{Row}
use Rattle.mux_state.specs.declared.event.Event.{Event}
use Rattle.mux_state.specs.Events.{EndsBy}
use Rattle.mux_state.specs.State.{EngineState}
use Rattle.mux_state.specs.Stands.{BytesFit, GoesBy, GoesOn, IsAllowed, RowsFit, RepresentsSoFar}

abbrev pub fed : Bool → EngineState → EngineState
fed b s = record s { starved = b }

rows-fed : (taken : ℕ) (dn : List Asked) (s : EngineState) (b : Bool) (closed : List ℕ) (rows : List Row) → RowsFit taken dn s closed rows → RowsFit taken dn (fed b s) closed rows
rows-fed taken dn s b closed rows h = record {
  taken_is = h.taken_is;
  drawn_is = h.drawn_is;
  asked_is = h.asked_is;
  fresh = h.fresh;
  fit = h.fit;
  ended_is = h.ended_is;
  listening_is = h.listening_is;
  waiting_is = h.waiting_is;
  leaving_are = h.leaving_are;
  served_are = h.served_are;
  place_is = h.place_is;
  absent = h.absent;
  closed_gone = h.closed_gone;
  refused_only = h.refused_only;
  closed_out = h.closed_out;
  known = h.known;
  unentered = h.unentered;
  server_in = h.server_in;
}

bytes-fed : (s : EngineState) (b : Bool) (marks : List Mark) (closed : List ℕ) (rows : List Row) → BytesFit s marks closed rows → BytesFit (fed b s) marks closed rows
bytes-fed s b marks closed rows h = record {
  are_bytes = h.are_bytes;
  clients = h.clients;
  server = h.server;
  there = h.there;
  strange = λ k a. let v = h.strange k a in record { not_here = v.not_here; not_closed_yet = v.not_closed_yet; no_bytes = v.no_bytes };
}

pub stands-fed : (picked : List ℕ) (given : List HouseReply) (s : EngineState) (b : Bool) (marks : List Mark) (closed : List ℕ) → RepresentsSoFar picked given s marks closed → RepresentsSoFar picked given (fed b s) marks closed
stands-fed picked given s b marks closed st = record {
  asks = st.asks;
  each = st.each;
  at = λ picks replies. let v = st.at picks replies in record { rows = rows-fed _ st.asks s b closed _ v.rows; bytes = bytes-fed s b marks closed _ v.bytes };
}

pub allowed-fed : (s : EngineState) (b : Bool) (marks : List Mark) (mark : Mark) → IsAllowed s marks mark → IsAllowed (fed b s) marks mark
allowed-fed s b marks (Accepts k) al = al
allowed-fed s b marks (Gets k bytes) al = al
allowed-fed s b marks (Ends k) al = al
allowed-fed s b marks (Fails k) al = al
allowed-fed s b marks (WriteFails k) al = al
allowed-fed s b marks (Takes k bytes accepts) al = al
allowed-fed s b marks (Frees k) al = al
allowed-fed s b marks (Holds k) al = al
allowed-fed s b marks (Waits waiting want streams shown) al = al
allowed-fed s b marks (House mark) al = al
allowed-fed s b marks (Joins listener stream) al = al

goes-fed : (May : HouseReply → Type 0) (before recorded : Option (List Asked)) (s t : EngineState) (a b : Bool) (mark : Mark) → GoesOn May before recorded (fed a s) t mark → GoesOn May before recorded s (fed b t) mark
goes-fed May before recorded s t a b mark h picked given marks closed st al =
    let g : GoesBy May before recorded picked given (fed a s) t mark marks closed = h picked given marks closed (stands-fed picked given s a marks closed st) (allowed-fed s a marks mark al) in
    record {
      picks = g.picks;
      replies = g.replies;
      asks = g.asks;
      may = g.may;
      stands = stands-fed (picked ++ g.picks) (given ++ g.replies) t b (mark ∷ marks) closed g.stands;
      recorded = g.recorded;
      asked = g.asked;
    }

-- ---- as the code shows them: the parts before a step, what it is, and those after it

pub goes-shown : (May : HouseReply → Type 0) (before recorded : Option (List Asked)) (parts s parts' t : EngineState) (mark : Mark) → parts ≡ s → parts' ≡ t → GoesOn May before recorded (fed true parts) t mark → GoesOn May before recorded s (fed false parts') mark
goes-shown May before recorded parts s parts' t mark is is' h =
    subst (λ (x : EngineState). GoesOn May before recorded x (fed false parts') mark) is
    (subst (λ (y : EngineState). GoesOn May before recorded parts (fed false y) mark) (sym is') (goes-fed May before recorded parts t true false mark h))

-- the same of how it may end
pub ends-shown : (parts s parts' t : EngineState) (e : Event) (mark : Mark) → parts ≡ s → parts' ≡ t → EndsBy e (fed true parts) t mark → EndsBy e s (fed false parts') mark
ends-shown parts s parts' t e mark is is' h =
    subst (λ (x : EngineState). EndsBy e x (fed false parts') mark) is
    (subst (λ (y : EngineState). EndsBy e parts (fed false y) mark) (sym is') (λ picked given marks closed st al live. h picked given marks closed (stands-fed picked given parts true marks closed st) (allowed-fed parts true marks mark al) live))
