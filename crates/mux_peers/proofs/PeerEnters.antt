-- A client that comes among all.
use Rattle.std.proofs.Common.{◌≡◌, ◌≢◌, ℕ, Bool, true, false, List, [], ◌∷◌, ◌++◌, refl, sym, ap, ◌∙◌, subst, append-nil}
use Rattle.std.specs.Prelude.{◌==◌, nat_lt}
use Rattle.mux_outside.specs.declared.house.HouseReply.{HouseReply}
use Rattle.ssh_grammar.specs.declared.numbers.TheConstants.{VERSION}
use Rattle.ssh_grammar.specs.Control.{Greets}
use Rattle.ssh_grammar.specs.Frames.{frame_answer}
use Rattle.mux_history.specs.declared.limits.TheConstants.{MAX_CLIENTS}
use Rattle.mux_history.specs.Policy.{Policy}
use Rattle.mux_history.specs.Rows.{Row, rows_of, any_of, is_admit, is_lost, is_refusal, Admit, Goes, Refused}
use Rattle.mux_history.specs.Pending.{pending_up}
use Rattle.mux_history.specs.Said.{Outcome, records}
use Rattle.mux_history.specs.Settings.{by_lists}
use Rattle.mux_history.specs.Treat.{bare_row, open_matters, row_of}
use Rattle.mux_history.specs.Log.{next_row}
use Rattle.mux_history.proofs.Bools.{same-number}
use Rattle.mux_history.proofs.OwnRows.{idle_row}
use Rattle.mux_core.specs.State.{CoreState}
use Rattle.mux_core.specs.Stands.{CoreRepresents}
use Rattle.mux_core.specs.Calls.{Admits, AdmitsOn}
use Rattle.mux_peers.specs.declared.standing.Standing.TheVariants.{Awaited}
use Rattle.mux_peers.specs.State.{ClientState}
use Rattle.mux_peers.specs.Stands.{PeerFits}
use Rattle.mux_peers.specs.Among.{ArePeersApart, EachFits, InFits, is_present}
use Rattle.mux_peers.specs.Receivings.{AreHere}
use Rattle.mux_peers.specs.Entering.{PeerEnters, EntersBy, new_client}
use Rattle.mux_peers.proofs.Ones.{OthersStay, differs, others-fit}
use Rattle.mux_peers.proofs.RowForms.{made, row-on}
use Rattle.mux_peers.proofs.Stood.{own_row}

-- ---- the row

abbrev pub let-in : ℕ → Row
let-in k = made (Admit k) k [] [] (frame_answer (Greets VERSION) ∷ []) Goes

abbrev pub refused : ℕ → Row
refused k = made (Admit k) k [] [] [] Refused

abbrev admits_if : Bool → Outcome
admits_if b = elim b [ true ↦ records (frame_answer (Greets VERSION)) | false ↦ record { sent = []; recorded = []; ends = Refused } ]

pub row-let-in : (policy : Policy) (pid : ℕ) (picks : List ℕ) (given : List HouseReply) (k : ℕ) (rows : List Row) → rows_of k rows ≡ [] → nat_lt (open_matters rows) MAX_CLIENTS ≡ true → next_row (by_lists policy pid picks given) rows (Admit k) ≡ let-in k
row-let-in policy pid picks given k rows new few =
    ap (λ b. row_of (Admit k) k (admits_if b) (rows_of k rows)) few
    ∙ (ap (row_of (Admit k) k (admits_if true)) new ∙ row-on (Admit k) k (admits_if true) [] (frame_answer (Greets VERSION) ∷ []) refl refl refl refl)

pub row-refused : (policy : Policy) (pid : ℕ) (picks : List ℕ) (given : List HouseReply) (k : ℕ) (rows : List Row) → rows_of k rows ≡ [] → nat_lt (open_matters rows) MAX_CLIENTS ≡ false → next_row (by_lists policy pid picks given) rows (Admit k) ≡ refused k
row-refused policy pid picks given k rows new many = ap (λ b. row_of (Admit k) k (admits_if b) (rows_of k rows)) many ∙ ap (row_of (Admit k) k (admits_if false)) new

-- ---- the others

-- none of them has the number of a client that is new
absent : (k : ℕ) (rows : List Row) (cs : List ClientState) → rows_of k rows ≡ [] → EachFits rows cs → is_present cs k ≡ false
absent k rows [] new f = refl
absent k rows (c ∷ cs) new f = by_head (c.peer.number == k) refl (absent k rows cs new f.1)
  where
    by_head : (b : Bool) → (c.peer.number == k) ≡ b → is_present cs k ≡ false → (elim b as (λ _. Bool) [ true ↦ true | false ↦ is_present cs k ]) ≡ false
    by_head true t g = absurd (let d : false ≡ true = sym (ap (λ j. any_of is_admit (rows_of j rows)) (same-number c.peer.number k t) ∙ ap (any_of is_admit) new) ∙ f.0.peer.admitted in cc)
    by_head false t g = g

stay : (k : ℕ) (row : Row) (rows : List Row) → row.client ≡ k → OthersStay k rows (row ∷ rows)
stay k row rows e j ne = idle_row j row rows (ap (λ i. i == j) e ∙ differs k j ne)

abbrev present_by : Bool → Bool → Bool
present_by b rest = elim b [ true ↦ true | false ↦ rest ]

pub present-last : (cs : List ClientState) (c : ClientState) (j : ℕ) → (c.peer.number == j) ≡ false → is_present (cs ++ c ∷ []) j ≡ is_present cs j
present-last [] c j ne = ap (λ b. present_by b false) ne
present-last (d ∷ cs) c j ne = ap (λ r. present_by (d.peer.number == j) r) (present-last cs c j ne)

pub present-end : (cs : List ClientState) (c : ClientState) (j : ℕ) → (c.peer.number == j) ≡ true → is_present (cs ++ c ∷ []) j ≡ true
present-end [] c j e = ap (λ b. present_by b false) e
present-end (d ∷ cs) c j e = ap (λ r. present_by (d.peer.number == j) r) (present-end cs c j e) ∙ either (d.peer.number == j)
  where
    either : (b : Bool) → present_by b true ≡ true
    either true = refl
    either false = refl

each-last : (rows : List Row) (cs : List ClientState) (c : ClientState) → EachFits rows cs → InFits rows c → EachFits rows (cs ++ c ∷ [])
each-last rows [] c f g = (g, tt)
each-last rows (d ∷ cs) c f g = (f.0, each-last rows cs c f.1 g)

apart-last : (cs : List ClientState) (c : ClientState) → ArePeersApart cs → is_present cs c.peer.number ≡ false → ArePeersApart (cs ++ c ∷ [])
apart-last [] c a gone = (refl, tt)
apart-last (d ∷ cs) c a gone = by_head (d.peer.number == c.peer.number) refl gone (λ g. apart-last cs c a.1 g)
  where
    by_head : (b : Bool) → (d.peer.number == c.peer.number) ≡ b → present_by b (is_present cs c.peer.number) ≡ false → (is_present cs c.peer.number ≡ false → ArePeersApart (cs ++ c ∷ [])) → (is_present (cs ++ c ∷ []) d.peer.number ≡ false) × ArePeersApart (cs ++ c ∷ [])
    by_head true t g ih = absurd (let z : true ≡ false = g in cc)
    by_head false t g ih = (present-last cs c d.peer.number (differs c.peer.number d.peer.number t) ∙ a.0, ih g)

-- ---- it is admitted

new-fits : (k : ℕ) (rows : List Row) → k ≢ 0 → rows_of k rows ≡ [] → InFits (let-in k ∷ rows) (new_client k)
new-fits k rows nonzero new = record {
  nonzero = by_zero (k == 0) refl;
  peer = subst (λ (own : List Row). PeerFits own Awaited (frame_answer (Greets VERSION))) (sym mine) (record { admitted = refl; standing_is = refl; greeted_is = λ l. refl; queue_is = refl });
  unrefused = ap (any_of (λ (row : Row). is_refusal row.fate)) mine;
}
  where
    mine : rows_of k (let-in k ∷ rows) ≡ let-in k ∷ []
    mine = own_row k (let-in k) rows refl ∙ ap (λ l. let-in k ∷ l) new

    by_zero : (b : Bool) → (k == 0) ≡ b → b ≡ false
    by_zero true e = absurd (nonzero (same-number k 0 e))
    by_zero false e = refl

here-new : (k : ℕ) (rows : List Row) (cs : List ClientState) → rows_of k rows ≡ [] → AreHere rows cs → AreHere (let-in k ∷ rows) (cs ++ new_client k ∷ [])
here-new k rows cs new here j a l = by_client (k == j) refl
  where
    by_client : (b : Bool) → (k == j) ≡ b → is_present (cs ++ new_client k ∷ []) j ≡ true
    by_client true t = present-end cs (new_client k) j t
    by_client false t =
        let idle : rows_of j (let-in k ∷ rows) ≡ rows_of j rows = idle_row j (let-in k) rows t in
        present-last cs (new_client k) j t ∙ here j (ap (any_of is_admit) (sym idle) ∙ a) (ap is_lost (sym idle) ∙ l)

pub enters-new : (k : ℕ) (core core' : CoreState) (cs cs' : List ClientState) (c : ClientState) → AdmitsOn core core' k true → c ≡ new_client k → cs' ≡ cs ++ c ∷ [] → PeerEnters k core core' cs cs' true
enters-new k core core' cs cs' c admit is items policy pid picks given queue rows fit live new =
    subst (λ (ds : List ClientState). EntersBy core' cs ds queue true rows (next_row (by_lists policy pid picks given) rows (Admit k))) (sym (items ∙ ap (λ (d : ClientState). cs ++ d ∷ []) is))
    (subst (EntersBy core' cs (cs ++ new_client k ∷ []) queue true rows) (sym (row-let-in policy pid picks given k rows new.fresh few)) (record {
      exact = a.exact;
      fit = record {
        core = λ l. subst (λ b. CoreRepresents core' (bare_row (Admit k) k (admits_if b) ∷ rows)) few a.stands;
        each = each-last (let-in k ∷ rows) cs (new_client k) (others-fit k rows (let-in k ∷ rows) cs (stay k (let-in k) rows refl) gone fit.each) (new-fits k rows new.nonzero new.fresh);
        apart = apart-last cs (new_client k) fit.apart gone;
        up = fit.up ∙ sym (append-nil (pending_up rows));
      };
      here = here-new k rows cs new.fresh;
    }))
  where
    a : Admits core core' k true rows
    a = admit rows (fit.core live) new

    few : nat_lt (open_matters rows) MAX_CLIENTS ≡ true
    few = sym a.exact

    gone : is_present cs k ≡ false
    gone = absent k rows cs new.fresh fit.each

-- ---- it is refused

here-refused : (k : ℕ) (rows : List Row) (cs : List ClientState) → rows_of k rows ≡ [] → AreHere rows cs → AreHere (refused k ∷ rows) cs
here-refused k rows cs new here j a l = by_client (k == j) refl
  where
    by_client : (b : Bool) → (k == j) ≡ b → is_present cs j ≡ true
    by_client true t =
        let mine : rows_of j (refused k ∷ rows) ≡ refused k ∷ [] = own_row j (refused k) rows (same-number k j t) ∙ ap (λ l. refused k ∷ l) (ap (λ i. rows_of i rows) (sym (same-number k j t)) ∙ new) in
        absurd (let d : false ≡ true = sym (ap (any_of is_admit) mine) ∙ a in cc)
    by_client false t =
        let idle : rows_of j (refused k ∷ rows) ≡ rows_of j rows = idle_row j (refused k) rows t in
        here j (ap (any_of is_admit) (sym idle) ∙ a) (ap is_lost (sym idle) ∙ l)

pub enters-refused : (k : ℕ) (core core' : CoreState) (cs : List ClientState) → AdmitsOn core core' k false → PeerEnters k core core' cs cs false
enters-refused k core core' cs admit policy pid picks given queue rows fit live new =
    subst (EntersBy core' cs cs queue false rows) (sym (row-refused policy pid picks given k rows new.fresh many)) (record {
      exact = a.exact;
      fit = record {
        core = λ l. subst (λ b. CoreRepresents core' (bare_row (Admit k) k (admits_if b) ∷ rows)) many a.stands;
        each = others-fit k rows (refused k ∷ rows) cs (stay k (refused k) rows refl) (absent k rows cs new.fresh fit.each) fit.each;
        apart = fit.apart;
        up = fit.up ∙ sym (append-nil (pending_up rows));
      };
      here = here-refused k rows cs new.fresh;
    })
  where
    a : Admits core core' k false rows
    a = admit rows (fit.core live) new

    many : nat_lt (open_matters rows) MAX_CLIENTS ≡ false
    many = sym a.exact
