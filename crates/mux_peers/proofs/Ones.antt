-- One client goes on among all, and the others stay.
use Rattle.std.proofs.Common.{◌≡◌, ℕ, Bool, true, false, List, [], ◌∷◌, Option, Some, None, refl, sym, ap, ◌∙◌, subst}
use Rattle.std.specs.Prelude.{◌==◌, MatchBool}
use Rattle.proxy_frames.specs.State.{QueueState}
use Rattle.mux_history.specs.declared.why.Why.{Why}
use Rattle.mux_history.specs.Rows.{Row, rows_of, any_of, is_admit, is_run_over, is_lost, is_refusal, loses, Item, Fate, Goes, Refused, Drop, End}
use Rattle.mux_history.specs.Pending.{pending_up, waiting_down}
use Rattle.mux_history.specs.Farewell.{farewell}
use Rattle.mux_history.specs.Said.{Outcome}
use Rattle.mux_history.specs.Treat.{all_recorded, bare_row, fate_with, overflow, queued, row_of}
use Rattle.mux_history.proofs.Bools.{same-number}
use Rattle.mux_history.proofs.OwnRows.{idle_row}
use Rattle.mux_core.specs.State.{CoreState}
use Rattle.mux_core.specs.Stands.{CoreRepresents}
use Rattle.mux_peers.specs.State.{ClientState, part}
use Rattle.mux_peers.specs.Stands.{PartFits, PeerFits}
use Rattle.mux_peers.specs.Receivings.{AreHere}
use Rattle.mux_peers.specs.Among.{AddsFor, ArePeersApart, ChangesOne, EachFits, InFits, MovesTo, is_present}
use Rattle.mux_peers.specs.Laws.{OneMovesAll}

-- a row refuses no client whose outcome doesn't
unrefused-with : (f : Fate) (w : Option Why) → is_refusal f ≡ false → is_refusal (fate_with f w) ≡ false
unrefused-with Goes None e = refl
unrefused-with Goes (Some cause) e = refl
unrefused-with (Drop why) w e = refl
unrefused-with (End cause) w e = refl
unrefused-with Refused w e = absurd (cc)

pub unrefused-row : (item : Item) (k : ℕ) (o : Outcome) (own : List Row) → is_refusal o.ends ≡ false → is_refusal (row_of item k o own).fate ≡ false
unrefused-row item k o own e = by_loss (loses (queued (all_recorded (bare_row item k o) own) (bare_row item k o) own))
  where
    q : Row
    q = queued (all_recorded (bare_row item k o) own) (bare_row item k o) own

    fine : is_refusal q.fate ≡ false
    fine = unrefused-with o.ends (overflow (waiting_down own) (all_recorded (bare_row item k o) own)) e

    by_loss : (b : Bool) → (let row : Row = elim b as (λ _. Row) [ true ↦ record q { farewell = farewell q own } | false ↦ q ] in is_refusal row.fate ≡ false)
    by_loss true = fine
    by_loss false = fine

-- ---- the others stay

pub differs : (a b : ℕ) → (b == a) ≡ false → (a == b) ≡ false
differs a b n = by_test (a == b) refl
  where
    by_test : (t : Bool) → (a == b) ≡ t → t ≡ false
    by_test false e = refl
    by_test true e = absurd (let d : true ≡ false = sym (Rattle.std.proofs.lemmas.Bool.eq-eqb b a (sym (same-number a b e))) ∙ n in cc)

same-fits : (rows rows' : List Row) (c : ClientState) → rows_of c.peer.number rows' ≡ rows_of c.peer.number rows → InFits rows c → InFits rows' c
same-fits rows rows' c same f = record {
  nonzero = f.nonzero;
  peer = subst (λ (own : List Row). PeerFits own c.peer.standing c.peer.queue) (sym same) f.peer;
  unrefused = ap (any_of (λ (row : Row). is_refusal row.fate)) same ∙ f.unrefused;
}

pub other-fits : (k : ℕ) (row : Row) (rows : List Row) (c : ClientState) → row.client ≡ k → (c.peer.number == k) ≡ false → InFits rows c → InFits (row ∷ rows) c
other-fits k row rows c e ne f = same-fits rows (row ∷ rows) c (idle_row c.peer.number row rows (ap (λ j. j == c.peer.number) e ∙ differs k c.peer.number ne)) f

-- the rows of the others are as before
abbrev pub OthersStay : ℕ → List Row → List Row → Type 0
OthersStay k rows rows' = (j : ℕ) → (j == k) ≡ false → rows_of j rows' ≡ rows_of j rows

pub others-fit : (k : ℕ) (rows rows' : List Row) (cs : List ClientState) → OthersStay k rows rows' → is_present cs k ≡ false → EachFits rows cs → EachFits rows' cs
others-fit k rows rows' [] e gone f = tt
others-fit k rows rows' (c ∷ cs) e gone f = by_head (c.peer.number == k) refl gone (λ g. others-fit k rows rows' cs e g f.1)
  where
    by_head : (b : Bool) → (c.peer.number == k) ≡ b → (elim b as (λ _. Bool) [ true ↦ true | false ↦ is_present cs k ]) ≡ false → (is_present cs k ≡ false → EachFits rows' cs) → EachFits rows' (c ∷ cs)
    by_head true t g ih = absurd (cc)
    by_head false t g ih = (same-fits rows rows' c (e c.peer.number t) f.0, ih g)

-- ---- one client's change, in rows

pub record OneMoved (rows' : List Row) (cs' : List ClientState) (c : CoreState) (up : QueueState) (here : Bool) : Type 0 where
  pub each : EachFits rows' cs'
  pub rest : here ≡ true → (is_run_over rows' ≡ false → CoreRepresents c rows') × (up.waiting ≡ pending_up rows')

pub one-moves : (k : ℕ) (rows rows' : List Row) → OthersStay k rows rows' → (R : ClientState → ClientState → Type 0) (cs cs' : List ClientState) (c' : CoreState) (up' : QueueState) → EachFits rows cs → ArePeersApart cs → ChangesOne k R cs cs'
    → ((x y : ClientState) → x.peer.number ≡ k → InFits rows x → R x y → InFits rows' y × PartFits rows' (part c' y.peer up')) → OneMoved rows' cs' c' up' (is_present cs k)
one-moves k rows rows' e R [] cs' c' up' each apart change step = record { each = subst (EachFits rows') (sym change) tt; rest = λ h. absurd (let d : false ≡ true = h in cc) }
one-moves k rows rows' e R (c ∷ cs) cs' c' up' each apart change step = by_head (c.peer.number == k) refl change (λ ds h. one-moves k rows rows' e R cs ds c' up' each.1 apart.1 h step)
  where
    by_head : (b : Bool) → (c.peer.number == k) ≡ b → MatchBool b ((y : ClientState) × (R c y × (cs' ≡ y ∷ cs))) ((ds : List ClientState) × (ChangesOne k R cs ds × (cs' ≡ c ∷ ds)))
        → ((ds : List ClientState) → ChangesOne k R cs ds → OneMoved rows' ds c' up' (is_present cs k)) → OneMoved rows' cs' c' up' (elim b as (λ _. Bool) [ true ↦ true | false ↦ is_present cs k ])
    by_head true t w ih =
        let num : c.peer.number ≡ k = same-number c.peer.number k t in
        let s = step c w.0 num each.0 w.1.0 in
        record {
          each = subst (EachFits rows') (sym w.1.1) (s.0, others-fit k rows rows' cs e (ap (is_present cs) (sym num) ∙ apart.0) each.1);
          rest = λ h. (s.1.core, s.1.up);
        }
    by_head false t w ih =
        let o = ih w.0 w.1.0 in
        record {
          each = subst (EachFits rows') (sym w.1.1) (same-fits rows rows' c (e c.peer.number t) each.0, o.each);
          rest = o.rest;
        }

pub apart-changed : (k : ℕ) (R : ClientState → ClientState → Type 0) → ((x y : ClientState) → R x y → y.peer.number ≡ x.peer.number) → (cs cs' : List ClientState) → ChangesOne k R cs cs' → ((j : ℕ) → is_present cs' j ≡ is_present cs j) × (ArePeersApart cs → ArePeersApart cs')
apart-changed k R same [] cs' h = ((λ j. ap (λ l. is_present l j) h), λ a. subst ArePeersApart (sym h) tt)
apart-changed k R same (c ∷ cs) cs' h = by_head (c.peer.number == k) h (λ ds g. apart-changed k R same cs ds g)
  where
    by_head : (b : Bool) → MatchBool b ((y : ClientState) × (R c y × (cs' ≡ y ∷ cs))) ((ds : List ClientState) × (ChangesOne k R cs ds × (cs' ≡ c ∷ ds)))
        → ((ds : List ClientState) → ChangesOne k R cs ds → ((j : ℕ) → is_present ds j ≡ is_present cs j) × (ArePeersApart cs → ArePeersApart ds)) → ((j : ℕ) → is_present cs' j ≡ is_present (c ∷ cs) j) × (ArePeersApart (c ∷ cs) → ArePeersApart cs')
    by_head true w ih =
        let n : w.0.peer.number ≡ c.peer.number = same c w.0 w.1.0 in (
          (λ j. ap (λ l. is_present l j) w.1.1 ∙ ap (λ i. elim (i == j) as (λ _. Bool) [ true ↦ true | false ↦ is_present cs j ]) n),
          λ a. subst ArePeersApart (sym w.1.1) (ap (is_present cs) n ∙ a.0, a.1),
        )
    by_head false w ih =
        let i = ih w.0 w.1.0 in (
          (λ j. ap (λ l. is_present l j) w.1.1 ∙ ap (λ (b : Bool). elim (c.peer.number == j) as (λ _. Bool) [ true ↦ true | false ↦ b ]) (i.0 j)),
          λ a. subst ArePeersApart (sym w.1.1) (i.0 c.peer.number ∙ a.0, i.1 a.1),
        )

-- by another relation, which the client's part in the rows gives
pub changes-map : (k : ℕ) (rows : List Row) (R S : ClientState → ClientState → Type 0) (cs cs' : List ClientState) → EachFits rows cs → ((x y : ClientState) → x.peer.number ≡ k → InFits rows x → R x y → S x y) → ChangesOne k R cs cs' → ChangesOne k S cs cs'
changes-map k rows R S [] cs' each f h = h
changes-map k rows R S (c ∷ cs) cs' each f h = by_head (c.peer.number == k) refl h (λ ds g. changes-map k rows R S cs ds each.1 f g)
  where
    by_head : (b : Bool) → (c.peer.number == k) ≡ b → MatchBool b ((y : ClientState) × (R c y × (cs' ≡ y ∷ cs))) ((ds : List ClientState) × (ChangesOne k R cs ds × (cs' ≡ c ∷ ds)))
        → ((ds : List ClientState) → ChangesOne k R cs ds → ChangesOne k S cs ds) → MatchBool b ((y : ClientState) × (S c y × (cs' ≡ y ∷ cs))) ((ds : List ClientState) × (ChangesOne k S cs ds × (cs' ≡ c ∷ ds)))
    by_head true t w ih = (w.0, (f c w.0 (same-number c.peer.number k t) each.0 w.1.0, w.1.1))
    by_head false t w ih = (w.0, (ih w.0 w.1.0, w.1.1))

-- ---- all clients

here-still : (k : ℕ) (rows rows' : List Row) (cs cs' : List ClientState) → AddsFor k rows rows' → ((j : ℕ) → is_present cs' j ≡ is_present cs j) → AreHere rows cs → AreHere rows' cs'
here-still k rows rows' cs cs' adds same here j a l = same j ∙ by_client (j == k) refl
  where
    by_client : (b : Bool) → (j == k) ≡ b → is_present cs j ≡ true
    by_client false t = here j (ap (any_of is_admit) (sym (adds.others j t)) ∙ a) (ap is_lost (sym (adds.others j t)) ∙ l)
    by_client true t =
        let e : j ≡ k = same-number j k t in
        here j (ap (λ i. any_of is_admit (rows_of i rows)) e ∙ (sym adds.admitted ∙ (ap (λ i. any_of is_admit (rows_of i rows')) (sym e) ∙ a)))
        (ap (λ i. is_lost (rows_of i rows)) e ∙ adds.lost (ap (λ i. is_lost (rows_of i rows')) (sym e) ∙ l))

pub one-moves-all : OneMovesAll
one-moves-all k rows rows' core core' cs cs' up up' fit adds here change =
    let apart = apart-changed k (MovesTo rows' core' up') (λ x y r. r.number) cs cs' change in
    let all = one-moves k rows rows' adds.others (MovesTo rows' core' up') cs cs' core' up' fit.each fit.apart change
    (λ x y num f r. (
      record {
        nonzero = ap (λ i. i == 0) r.number ∙ f.nonzero;
        peer = r.fits.peer;
        unrefused = ap (λ i. any_of (λ (row : Row). is_refusal row.fate) (rows_of i rows')) (r.number ∙ num)
            ∙ (adds.unrefused ∙ (ap (λ i. any_of (λ (row : Row). is_refusal row.fate) (rows_of i rows)) (sym num) ∙ f.unrefused));
      },
      r.fits,
    )) in
    let rest = all.rest here in
    record {
      fit = record { core = rest.0; each = all.each; apart = apart.1 fit.apart; up = rest.1 };
      here = here-still k rows rows' cs cs' adds apart.0;
      present = apart.0;
    }
