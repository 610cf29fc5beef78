-- One row more of what a client sends: what the part touches represents the longer log.
use Rattle.std.proofs.Common.{◌≡◌, ℕ, ◌+◌, Bool, true, false, ◌||◌, ◌&&◌, not, List, [], ◌∷◌, ◌++◌, map, Option, Some, None, refl, sym, ap, ◌∙◌, subst, append_assoc}
use Rattle.std.specs.Prelude.{filter, ◌==◌}
use Rattle.std.specs.List.{AllByRecursion}
use Rattle.mux_outside.specs.declared.house.HouseReply.{HouseReply}
use Rattle.mux_outside.specs.Streams.{among}
use Rattle.ssh_grammar.specs.Frames.{frame_payload}
use Rattle.ssh_grammar.specs.Said.{Outgoing}
use Rattle.proxy_frames.specs.State.{QueueState}
use Rattle.mux_history.specs.Rows.{Row, rows_of, any_of, is_admit, is_lost, Says, Fate, Goes, Refused, Drop, End}
use Rattle.mux_history.specs.Pending.{joined, pending_up}
use Rattle.mux_history.specs.Farewell.{has_open_matters}
use Rattle.mux_history.specs.Treat.{admitted_clients}
use Rattle.mux_history.proofs.Bools.{same-number}
use Rattle.mux_core.specs.State as core
use Rattle.mux_core.specs.Stands.{CoreRepresents, ClientFits, Look, look, has_matters}
use Rattle.mux_peers.specs.declared.standing.Standing.{Standing}
use Rattle.mux_peers.specs.declared.standing.Standing.TheVariants.{Lost, Unread}
use Rattle.mux_peers.specs.State.{PeerState, part}
use Rattle.mux_peers.specs.Stands.{PartFits, PeerFits, is_greeted, keep_lost, stands_by, standing_of}
use Rattle.mux_peers.specs.Stands as stands
use Rattle.mux_peers.proofs.RowForms.{made}
use Rattle.mux_peers.proofs.Stood.{own_row, standing_row, standing_step, kept_here, stands_greeted, or_true}

-- ---- payloads that wait for the server

joined-append : (xs ys : List (List ℕ)) → joined (xs ++ ys) ≡ joined xs ++ joined ys
joined-append [] ys = refl
joined-append (x ∷ xs) ys = ap (λ l. x ++ l) (joined-append xs ys) ∙ sym (append_assoc x (joined xs) (joined ys))

map-frames : (xs ys : List (List ℕ)) → map frame_payload (xs ++ ys) ≡ map frame_payload xs ++ map frame_payload ys
map-frames [] ys = refl
map-frames (x ∷ xs) ys = ap (λ l. frame_payload x ∷ l) (map-frames xs ys)

pub frames-append : (xs ys : List (List ℕ)) → joined (map frame_payload (xs ++ ys)) ≡ joined (map frame_payload xs) ++ joined (map frame_payload ys)
frames-append xs ys = ap joined (map-frames xs ys) ∙ joined-append (map frame_payload xs) (map frame_payload ys)

-- ---- the row

-- the state of a client after a row of what it sent
abbrev pub standing_after : Fate → Outgoing → Standing
standing_after Goes x = stands_by x
standing_after Refused x = Lost None
standing_after (Drop why) x = Lost (Some why)
standing_after (End cause) x = Unread

abbrev pub NotRefused : Fate → Type 0
NotRefused Refused = ⊥
NotRefused f = Unit {0}

sends_standing : (f : Fate) (k : ℕ) (x : Outgoing) (given : Option HouseReply) (s : Standing) → NotRefused f → stands.is_standing_lost s ≡ false → standing_step f (Says k x given) s ≡ standing_after f x
sends_standing Goes k x given s n l = kept_here s (stands_by x) l
sends_standing (Drop why) k x given s n l = refl
sends_standing Refused k x given s n l = absurd n
sends_standing (End cause) k x given s n l = kept_here s Unread l

sends_greets : (f : Fate) (x : Outgoing) → NotRefused f → stands.is_standing_lost (standing_after f x) ≡ false → true ≡ is_greeted (standing_after f x)
sends_greets Goes x n l = sym (stands_greeted x)
sends_greets (Drop why) x n l = absurd (cc)
sends_greets Refused x n l = absurd n
sends_greets (End cause) x n l = refl

-- the client's own rows with the row
peer-row : (k : ℕ) (x : Outgoing) (given : Option HouseReply) (ups fw down : List (List ℕ)) (f : Fate) (own : List Row) (s s' : Standing) (q q' : List ℕ) → NotRefused f → stands.is_standing_lost s ≡ false → PeerFits own s q
    → s' ≡ standing_after f x → q' ≡ q ++ joined down → PeerFits (made (Says k x given) k ups fw down f ∷ own) s' q'
peer-row k x given ups fw down f own s s' q q' fine here fits stands' queue' =
    let row : Row = made (Says k x given) k ups fw down f in
    record {
      admitted = ap (λ b. is_admit row || b) fits.admitted ∙ or_true (is_admit row);
      standing_is = stands' ∙ sym (standing_row (Says k x given) f row own refl refl ∙ (ap (standing_step f (Says k x given)) (sym fits.standing_is) ∙ sends_standing f k x given s fine here));
      greeted_is = λ l. sends_greets f x fine (sym (ap stands.is_standing_lost stands') ∙ l) ∙ ap is_greeted (sym stands');
      queue_is = queue' ∙ ap (λ z. z ++ joined down) fits.queue_is;
    }

pub row-fits : (k : ℕ) (x : Outgoing) (given : Option HouseReply) (ups fw down : List (List ℕ)) (f : Fate) (rows : List Row) (peer peer' : PeerState) (s' : core.CoreState) (up up' : QueueState) → NotRefused f
    → peer'.number ≡ k → stands.is_standing_lost peer.standing ≡ false → PeerFits (rows_of k rows) peer.standing peer.queue → up.waiting ≡ pending_up rows
    → peer'.standing ≡ standing_after f x → peer'.queue ≡ peer.queue ++ joined down → up'.waiting ≡ up.waiting ++ joined (map frame_payload (ups ++ fw))
    → CoreRepresents s' (made (Says k x given) k ups fw down f ∷ rows) → PartFits (made (Says k x given) k ups fw down f ∷ rows) (part s' peer' up')
row-fits k x given ups fw down f rows peer peer' s' up up' fine num here fits waits standing queue sent st =
    let row : Row = made (Says k x given) k ups fw down f in
    record {
      core = λ live. st;
      peer = subst (λ (own : List Row). PeerFits own peer'.standing peer'.queue) (sym (own_row k row rows refl) ∙ ap (λ j. rows_of j (row ∷ rows)) (sym num))
          (peer-row k x given ups fw down f (rows_of k rows) peer.standing peer'.standing peer.queue peer'.queue fine here fits standing queue);
      up = sent ∙ ap (λ z. z ++ joined (map frame_payload (ups ++ fw))) waits;
    }

-- ---- a client that is served is served by the core

member-more : (k : ℕ) (xs ys : List ℕ) → among k xs ≡ true → among k (xs ++ ys) ≡ true
member-more k [] ys h = absurd (cc)
member-more k (x ∷ xs) ys h = by_head (x == k) refl (λ t. member-more k xs ys t)
  where
    by_head : (b : Bool) → (x == k) ≡ b → (among k xs ≡ true → among k (xs ++ ys) ≡ true) → among k (x ∷ (xs ++ ys)) ≡ true
    by_head true e ih = ap (λ b. b || among k (xs ++ ys)) e
    by_head false e ih = ap (λ b. b || among k (xs ++ ys)) e ∙ ih (sym (ap (λ b. b || among k xs) e) ∙ h)

member-last : (k x : ℕ) (xs : List ℕ) → (x == k) ≡ true → among k (xs ++ x ∷ []) ≡ true
member-last k x [] e = ap (λ b. b || false) e
member-last k x (y ∷ xs) e = ap (λ b. (y == k) || b) (member-last k x xs e) ∙ or_true (y == k)

-- one that was admitted is among those
pub entered-among : (k : ℕ) (rows : List Row) → any_of is_admit (rows_of k rows) ≡ true → among k (admitted_clients rows) ≡ true
entered-among k [] h = absurd (cc)
entered-among k (row ∷ rows) h = by_client (row.client == k) refl (is_admit row) refl (λ t. entered-among k rows t)
  where
    by_client : (b : Bool) → (row.client == k) ≡ b → (c : Bool) → is_admit row ≡ c → (any_of is_admit (rows_of k rows) ≡ true → among k (admitted_clients rows) ≡ true) → among k (admitted_clients (row ∷ rows)) ≡ true
    by_client true e true a ih = ap (λ (c : Bool). among k (admitted_clients rows ++ elim c as (λ _. List ℕ) [ true ↦ row.client ∷ [] | false ↦ [] ])) a ∙ member-last k row.client (admitted_clients rows) e
    by_client true e false a ih =
        member-more k (admitted_clients rows) (elim (is_admit row) as (λ _. List ℕ) [ true ↦ row.client ∷ [] | false ↦ [] ])
        (ih (sym (ap (any_of is_admit) (own_row k row rows (same-number row.client k e)) ∙ ap (λ c. c || any_of is_admit (rows_of k rows)) a) ∙ h))
    by_client false e c a ih =
        member-more k (admitted_clients rows) (elim (is_admit row) as (λ _. List ℕ) [ true ↦ row.client ∷ [] | false ↦ [] ])
        (ih (sym (ap (λ (b : Bool). any_of is_admit (Rattle.std.proofs.Common.cond b (row ∷ rows_of k rows) (rows_of k rows))) e) ∙ h))

kept-among : (k : ℕ) (test : ℕ → Bool) (xs : List ℕ) → among k xs ≡ true → test k ≡ true → among k (filter test xs) ≡ true
kept-among k test [] h t = absurd (cc)
kept-among k test (x ∷ xs) h t = by_head (x == k) refl (test x) refl (λ a. kept-among k test xs a t)
  where
    by_head : (b : Bool) → (x == k) ≡ b → (c : Bool) → test x ≡ c → (among k xs ≡ true → among k (filter test xs) ≡ true) → among k (Rattle.std.proofs.Common.cond (test x) (x ∷ filter test xs) (filter test xs)) ≡ true
    by_head true e true p ih = ap (λ c. among k (Rattle.std.proofs.Common.cond c (x ∷ filter test xs) (filter test xs))) p ∙ ap (λ b. b || among k (filter test xs)) e
    by_head true e false p ih = absurd (let d : false ≡ true = sym p ∙ (ap test (same-number x k e) ∙ t) in cc)
    by_head false e true p ih = ap (λ c. among k (Rattle.std.proofs.Common.cond c (x ∷ filter test xs) (filter test xs))) p ∙ (ap (λ b. b || among k (filter test xs)) e ∙ ih (sym (ap (λ b. b || among k xs) e) ∙ h))
    by_head false e false p ih = ap (λ c. among k (Rattle.std.proofs.Common.cond c (x ∷ filter test xs) (filter test xs))) p ∙ ih (sym (ap (λ b. b || among k xs) e) ∙ h)

is-served : (l : Look) (k : ℕ) (cs : List core.MemberState) → AllByRecursion (ClientFits l) cs → among k (map (λ c. c.number) cs) ≡ true → l.lost k ≡ false → core.is_member_served cs k ≡ true
is-served l k [] all h here = absurd (cc)
is-served l k (c ∷ cs) all h here = by_head (c.number == k) refl (λ t. is-served l k cs all.1 t here)
  where
    by_head : (b : Bool) → (c.number == k) ≡ b → (among k (map (λ c. c.number) cs) ≡ true → core.is_member_served cs k ≡ true) → core.is_member_served (c ∷ cs) k ≡ true
    by_head true e ih =
        let lost : c.lost ≡ false = all.0.lost ∙ (ap l.lost (same-number c.number k e) ∙ here) in
        ap (λ b. (b && not c.lost) || core.is_member_served cs k) e ∙ ap (λ b. not b || core.is_member_served cs k) lost
    by_head false e ih = ap (λ b. (b && not c.lost) || core.is_member_served cs k) e ∙ ih (sym (ap (λ b. b || among k (map (λ c. c.number) cs)) e) ∙ h)

open-here : (own : List Row) (a b : Bool) → any_of is_admit own ≡ a → is_lost own ≡ b → a ≡ true → b ≡ false → has_open_matters own ≡ true
open-here own a b e f t u = rw (e, f, t, u, has_open_matters) refl

pub served-of : (s : core.CoreState) (rows : List Row) (k : ℕ) → CoreRepresents s rows → any_of is_admit (rows_of k rows) ≡ true → is_lost (rows_of k rows) ≡ false → core.is_member_served s.clients k ≡ true
served-of s rows k st admitted here =
    is-served (look rows) k s.clients st.clients.each
    (ap (among k) st.clients.numbers ∙ kept-among k (has_matters rows) (admitted_clients rows) (entered-among k rows admitted) (open-here (rows_of k rows) true false admitted here refl refl)) here
