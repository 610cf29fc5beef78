-- An engine goes on where one client does.
use Rattle.std.proofs.Common.{◌≡◌, ◌≢◌, ℕ, Bool, true, false, not, ◌||◌, List, [], ◌∷◌, ◌++◌, Option, Some, None, refl, sym, ap, ◌∙◌, subst, cond, append-nil}
use Rattle.std.specs.Prelude.{filter, ◌==◌, MatchBool}
use Rattle.std.proofs.lemmas.Bool.{eq-eqb, eqb-true}
use Rattle.mux_outside.specs.Streams.{among}
use Rattle.mux_outside.specs.declared.mark.Mark.{Mark}
use Rattle.mux_history.specs.Rows.{Row, is_refusal, loss_by, Item, Says, Gone, Fate, Goes, Refused, Drop, End}
use Rattle.mux_history.specs.Journal.{bytes_in, bytes_of}
use Rattle.mux_peers.specs.declared.standing.Standing.{Standing}
use Rattle.mux_peers.specs.declared.standing.Standing.TheVariants.{Awaited, Greeted, Proxied, Unread, Lost}
use Rattle.mux_peers.specs.State.{ClientState}
use Rattle.mux_peers.specs.Stands.{is_standing_lost, standing_of}
use Rattle.mux_peers.specs.Among.{ChangesOne, EachFits, InFits, is_present}
use Rattle.mux_peers.proofs.Stood.{kept_here, stands_here}
use Rattle.mux_state.specs.State.{EngineState, SameClient, in_client, is_here, loss_between, loss_in, numbers}
use Rattle.mux_state.specs.Stands.{ClientReads, EachReads, RowsFit, not_closed}
use Rattle.mux_state.proofs.Lists.{either, test_other, true_false}

-- ---- in a list of clients

-- what holds of the one that goes on
pub changes-to : (k : ℕ) (R S : ClientState → ClientState → Type 0) (P : ClientState → Type 0) (cs cs' : List ClientState) → ((x y : ClientState) → x.peer.number ≡ k → P x → R x y → S x y) → Rattle.std.specs.List.AllByRecursion P cs → ChangesOne k R cs cs' → ChangesOne k S cs cs'
changes-to k R S P [] cs' f all h = h
changes-to k R S P (c ∷ cs) cs' f all h = by_head (c.peer.number == k) refl h (λ ds w. changes-to k R S P cs ds f all.1 w)
  where
    by_head : (b : Bool) → (c.peer.number == k) ≡ b
        → MatchBool b ((c' : ClientState) × (R c c' × (cs' ≡ c' ∷ cs))) ((ds : List ClientState) × (ChangesOne k R cs ds × (cs' ≡ c ∷ ds)))
        → ((ds : List ClientState) → ChangesOne k R cs ds → ChangesOne k S cs ds)
        → MatchBool b ((c' : ClientState) × (S c c' × (cs' ≡ c' ∷ cs))) ((ds : List ClientState) × (ChangesOne k S cs ds × (cs' ≡ c ∷ ds)))
    by_head true e w ih = (w.0, (f c w.0 (eqb-true c.peer.number k e) all.0 w.1.0, w.1.1))
    by_head false e w ih = (w.0, (ih w.0 w.1.0, w.1.1))

pub all-fit : (rows : List Row) (cs : List ClientState) → EachFits rows cs → Rattle.std.specs.List.AllByRecursion (InFits rows) cs
all-fit rows [] e = tt
all-fit rows (c ∷ cs) e = (e.0, all-fit rows cs e.1)

pub numbers-one : (k : ℕ) (R : ClientState → ClientState → Type 0) (cs cs' : List ClientState) → ((x y : ClientState) → R x y → y.peer.number ≡ x.peer.number) → ChangesOne k R cs cs' → numbers cs' ≡ numbers cs
numbers-one k R [] cs' f h = ap numbers h
numbers-one k R (c ∷ cs) cs' f h = by_head (c.peer.number == k) h (λ ds w. numbers-one k R cs ds f w)
  where
    by_head : (b : Bool) → MatchBool b ((c' : ClientState) × (R c c' × (cs' ≡ c' ∷ cs))) ((ds : List ClientState) × (ChangesOne k R cs ds × (cs' ≡ c ∷ ds))) → ((ds : List ClientState) → ChangesOne k R cs ds → numbers ds ≡ numbers cs) → numbers cs' ≡ c.peer.number ∷ numbers cs
    by_head true w ih = ap numbers w.1.1 ∙ ap (λ n. n ∷ numbers cs) (f c w.0 w.1.0)
    by_head false w ih = ap numbers w.1.1 ∙ ap (λ l. c.peer.number ∷ l) (ih w.0 w.1.0)

pub same-one : (k j : ℕ) (R : ClientState → ClientState → Type 0) (cs cs' : List ClientState) → k ≢ j → ((x y : ClientState) → R x y → y.peer.number ≡ x.peer.number) → ChangesOne k R cs cs' → SameClient j cs cs'
same-one k j R [] cs' ne f h = ap (λ ds. in_client None (λ c. Some c) ds j) h
same-one k j R (c ∷ cs) cs' ne f h = by_head (c.peer.number == k) refl h (λ ds w. same-one k j R cs ds ne f w)
  where
    look : Bool → ClientState → List ClientState → Option ClientState
    look b c ds = cond b (Some c) (in_client None (λ c. Some c) ds j)

    by_head : (b : Bool) → (c.peer.number == k) ≡ b → MatchBool b ((c' : ClientState) × (R c c' × (cs' ≡ c' ∷ cs))) ((ds : List ClientState) × (ChangesOne k R cs ds × (cs' ≡ c ∷ ds))) → ((ds : List ClientState) → ChangesOne k R cs ds → SameClient j cs ds) → SameClient j (c ∷ cs) cs'
    by_head true e w ih =
        let other : (c.peer.number == j) ≡ false = test_other c.peer.number j (λ d. ne (sym (eqb-true c.peer.number k e) ∙ d)) in
        let other' : (w.0.peer.number == j) ≡ false = ap (λ n. n == j) (f c w.0 w.1.0) ∙ other in
        ap (λ ds. in_client None (λ c. Some c) ds j) w.1.1 ∙ (ap (λ b. look b w.0 cs) other' ∙ sym (ap (λ b. look b c cs) other))
    by_head false e w ih = ap (λ ds. in_client None (λ c. Some c) ds j) w.1.1 ∙ ap (λ o. cond (c.peer.number == j) (Some c) o) (ih w.0 w.1.0)

-- ---- the bytes

pub reads-one : (k : ℕ) (R : ClientState → ClientState → Type 0) (mark : Mark) (marks : List Mark) (cs cs' : List ClientState) → ((j : ℕ) → k ≢ j → bytes_in j mark ≡ []) → ((x y : ClientState) → x.peer.number ≡ k → ClientReads (bytes_of k marks) x → R x y → (y.peer.number ≡ k) × ClientReads (bytes_of k (mark ∷ marks)) y)
    → is_present cs k ≡ true → (is_present cs k ≡ true → EachReads marks cs) → Rattle.mux_peers.specs.Among.ArePeersApart cs → ChangesOne k R cs cs' → EachReads (mark ∷ marks) cs'
reads-one k R mark marks [] cs' quiet f p e apart h = absurd (cc)
reads-one k R mark marks (c ∷ cs) cs' quiet f p e apart h = by_head (c.peer.number == k) refl p h (e p) (λ ds q w. reads-one k R mark marks cs ds quiet f q (λ x. (e p).1) apart.1 w)
  where
    other : (d : ClientState) → d.peer.number ≢ k → ClientReads (bytes_of d.peer.number marks) d → ClientReads (bytes_of d.peer.number (mark ∷ marks)) d
    other d ne r = subst (λ b. ClientReads b d) (sym (ap (λ b. bytes_of d.peer.number marks ++ b) (quiet d.peer.number (λ q. ne (sym q))) ∙ append-nil (bytes_of d.peer.number marks))) r

    rest : (ds : List ClientState) → is_present ds k ≡ false → EachReads marks ds → EachReads (mark ∷ marks) ds
    rest [] q r = tt
    rest (d ∷ ds) q r = let n = Rattle.mux_state.proofs.Lists.not_here k d ds q in (other d n.0 r.0, rest ds n.1 r.1)

    by_head : (b : Bool) → (c.peer.number == k) ≡ b → either b (is_present cs k) ≡ true → MatchBool b ((c' : ClientState) × (R c c' × (cs' ≡ c' ∷ cs))) ((ds : List ClientState) × (ChangesOne k R cs ds × (cs' ≡ c ∷ ds)))
        → ClientReads (bytes_of c.peer.number marks) c × EachReads marks cs → ((ds : List ClientState) → is_present cs k ≡ true → ChangesOne k R cs ds → EachReads (mark ∷ marks) ds) → EachReads (mark ∷ marks) cs'
    by_head true t q w r ih =
        let n : c.peer.number ≡ k = eqb-true c.peer.number k t in
        let one = f c w.0 n (subst (λ j. ClientReads (bytes_of j marks) c) n r.0) w.1.0 in
        subst (EachReads (mark ∷ marks)) (sym w.1.1) (subst (λ j. ClientReads (bytes_of j (mark ∷ marks)) w.0) (sym one.0) one.1, rest cs (ap (is_present cs) (sym n) ∙ apart.0) r.1)
    by_head false t q w r ih =
        let n : c.peer.number ≢ k = λ x. true_false (sym (eq-eqb c.peer.number k x) ∙ t) in
        subst (EachReads (mark ∷ marks)) (sym w.1.1) (other c n r.0, ih w.0 q w.1.0)

-- ---- losses

lost-in : (s : Standing) (k : ℕ) → is_standing_lost s ≡ false → loss_in s k ≡ []
lost-in Awaited k e = refl
lost-in Greeted k e = refl
lost-in Proxied k e = refl
lost-in Unread k e = refl
lost-in (Lost why) k e = true_false e

-- the loss of a row, by how its client stands after it
pub loss-row : (row : Row) (own : List Row) (f : Fate) (item : Item) → row.fate ≡ f → row.item ≡ item → is_standing_lost (standing_of own) ≡ false → is_refusal row.fate ≡ false → loss_by row ≡ loss_in (standing_of (row ∷ own)) row.client
loss-row row own (Drop cause) item e i here fine = rw e refl
loss-row row own Refused item e i here fine = true_false (sym (ap is_refusal e) ∙ fine)
loss-row row own (End cause) item e i here fine =
    rw e (sym (ap (λ s. loss_in s row.client) (kept_here (standing_of own) Unread here)))
loss-row row own Goes (Gone j) e i here fine = rw (e, i) refl
loss-row row own Goes (Says j x given) e i here fine =
    rw (e, i) (sym (ap (λ s. loss_in s row.client) (kept_here (standing_of own) (Rattle.mux_peers.specs.Stands.stands_by x) here) ∙ lost-in (Rattle.mux_peers.specs.Stands.stands_by x) row.client (stands_here x)))
loss-row row own Goes item e i here fine = rw (e, i) (sym (lost-in (standing_of own) row.client here))

-- of one client that wasn't closed
pub unclosed-one : (closed : List ℕ) (k : ℕ) (before now : Standing) → among k closed ≡ false → filter (not_closed closed) (loss_between before now k) ≡ loss_between before now k
unclosed-one closed k before now e = by_before (is_standing_lost before) now
  where
    by_before : (b : Bool) (now : Standing) → filter (not_closed closed) (cond b [] (loss_in now k)) ≡ cond b [] (loss_in now k)
    by_before true now = refl
    by_before false Awaited = refl
    by_before false Greeted = refl
    by_before false Proxied = refl
    by_before false Unread = refl
    by_before false (Lost why) = ap (λ t. cond (not t) ((k, why) ∷ []) []) e

-- a client that is here wasn't closed
pub open-here : (taken : ℕ) (dn : List _) (s : EngineState) (closed : List ℕ) (rows : List Row) (k : ℕ) → RowsFit taken dn s closed rows → is_present s.clients k ≡ true → among k closed ≡ false
open-here taken dn s closed rows k st here = by_closed (among k closed) refl
  where
    by_closed : (b : Bool) → among k closed ≡ b → b ≡ false
    by_closed false e = refl
    by_closed true e = true_false (sym (ap (λ b. b || among k s.refused) here) ∙ st.closed_gone k e)

-- one that is here is another than one that isn't
pub apart-here : (s : EngineState) (k j : ℕ) → is_present s.clients k ≡ true → is_here s j ≡ false → k ≢ j
apart-here s k j here gone e = true_false (sym (ap (λ b. b || among k s.refused) here) ∙ (ap (is_here s) e ∙ gone))
