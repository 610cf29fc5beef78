-- The clients, with what one of them is still to be answered changed.
use Rattle.std.proofs.Common.{◌≡◌, ◌≤◌, ◌<◌, ◌+◌, ℕ, List, [], ◌∷◌, length, map, true, false, Bool, refl, ◌∙◌, ap, sym, subst, arith, suc, zero, slice_set, slice_index_or}
use Rattle.std.specs.Prelude.{◌==◌, ◌&&◌, not}
use Rattle.std.specs.List.{AllByRecursion}
use Rattle.std.proofs.lemmas.Bool.Decides.{nat_tests}
use Rattle.mux_history.specs.Rows.{Row, rows_of}
use Rattle.mux_history.specs.Requests.{replies, unanswered_asks, wanted}
use Rattle.mux_history.proofs.Bools.{same-number}
use Rattle.mux_core.specs.declared.members.Member.{Member}
use Rattle.mux_core.specs.Members.{member_state}
use Rattle.mux_core.specs.State.{MemberState, is_member_served}
use Rattle.mux_core.specs.Stands.{AreOnce, ClientFits, look}
use Rattle.mux_core.specs.Requesting.{place_of_client, member_waiting_of, with_waiting}
use Rattle.mux_core.proofs.Answering.{Waits, unanswered}
use Rattle.mux_core.proofs.Pairs.{or-found}

-- ---- the code's

place-at : (k : ℕ) (c : MemberState) (cs : List MemberState) (b : Bool) → (c.number == k) ≡ b → place_of_client k (c ∷ cs) ≡ elim b as (λ _. ℕ) [ true ↦ 0 | false ↦ place_of_client k cs + 1 ]
place-at k c cs b h = ap (λ (d : Bool). elim d as (λ _. ℕ) [ true ↦ 0 | false ↦ place_of_client k cs + 1 ]) h

with-at : (k : ℕ) (change : List Bool → List Bool) (c : MemberState) (cs : List MemberState) (b : Bool) → (c.number == k) ≡ b → with_waiting k change (c ∷ cs) ≡ elim b as (λ _. List MemberState) [ true ↦ record c { waiting = change c.waiting } ∷ cs | false ↦ c ∷ with_waiting k change cs ]
with-at k change c cs b h = ap (λ (d : Bool). elim d as (λ _. List MemberState) [ true ↦ record c { waiting = change c.waiting } ∷ cs | false ↦ c ∷ with_waiting k change cs ]) h

waiting-at : (k : ℕ) (c : MemberState) (cs : List MemberState) (b : Bool) → (c.number == k) ≡ b → member_waiting_of k (c ∷ cs) ≡ elim b as (λ _. List Bool) [ true ↦ c.waiting | false ↦ member_waiting_of k cs ]
waiting-at k c cs b h = ap (λ (d : Bool). elim d as (λ _. List Bool) [ true ↦ c.waiting | false ↦ member_waiting_of k cs ]) h

-- where the client isn't there nothing changes
pub not-there : (k : ℕ) (change : List Bool → List Bool) (cs : List MemberState) → length cs ≤ place_of_client k cs → (with_waiting k change cs ≡ cs) × (member_waiting_of k cs ≡ [])
not-there k change [] le = (refl, refl)
not-there k change (c ∷ cs) le = by_case (not-there k change cs) (c.number == k) refl
  where
    by_case : (length cs ≤ place_of_client k cs → (with_waiting k change cs ≡ cs) × (member_waiting_of k cs ≡ [])) → (b : Bool) → (c.number == k) ≡ b → (with_waiting k change (c ∷ cs) ≡ c ∷ cs) × (member_waiting_of k (c ∷ cs) ≡ [])
    by_case ih true h = absurd (let e = place-at k c cs true h in omega (arith, e, le))
    by_case ih false h =
        let e = place-at k c cs false h in
        let i = ih (omega (arith, e, le)) in
        (with-at k change c cs false h ∙ ap (λ ds. c ∷ ds) i.0, waiting-at k c cs false h ∙ i.1)

pub set-client : (k : ℕ) (change : List Bool → List Bool) (cs : List Member) (i : ℕ) (x d : Member) → i ≡ place_of_client k (map member_state cs) → i < length cs → member_state x ≡ record (member_state (slice_index_or cs i d)) { waiting = change (member_state (slice_index_or cs i d)).waiting } → (map member_state (slice_set cs i x) ≡ with_waiting k change (map member_state cs)) × (member_waiting_of k (map member_state cs) ≡ (member_state (slice_index_or cs i d)).waiting)
set-client k change [] i x d at lt is = absurd (omega arith)
set-client k change (c ∷ cs) zero x d at lt is = by_case ((member_state c).number == k) refl
  where
    by_case : (b : Bool) → ((member_state c).number == k) ≡ b → (map member_state (slice_set (c ∷ cs) zero x) ≡ with_waiting k change (map member_state (c ∷ cs))) × (member_waiting_of k (map member_state (c ∷ cs)) ≡ (member_state c).waiting)
    by_case true h = (ap (λ y. y ∷ map member_state cs) is ∙ sym (with-at k change (member_state c) (map member_state cs) true h), waiting-at k (member_state c) (map member_state cs) true h)
    by_case false h = absurd (let e = place-at k (member_state c) (map member_state cs) false h in omega (arith, e, at))
set-client k change (c ∷ cs) (suc n) x d at lt is = by_case (set-client k change cs n x d) ((member_state c).number == k) refl
  where
    by_case : (n ≡ place_of_client k (map member_state cs) → n < length cs → member_state x ≡ record (member_state (slice_index_or cs n d)) { waiting = change (member_state (slice_index_or cs n d)).waiting } → (map member_state (slice_set cs n x) ≡ with_waiting k change (map member_state cs)) × (member_waiting_of k (map member_state cs) ≡ (member_state (slice_index_or cs n d)).waiting)) → (b : Bool) → ((member_state c).number == k) ≡ b → (map member_state (slice_set (c ∷ cs) (suc n) x) ≡ with_waiting k change (map member_state (c ∷ cs))) × (member_waiting_of k (map member_state (c ∷ cs)) ≡ (member_state (slice_index_or cs n d)).waiting)
    by_case ih true h = absurd (let e = place-at k (member_state c) (map member_state cs) true h in omega (arith, e, at))
    by_case ih false h =
        let e = place-at k (member_state c) (map member_state cs) false h in
        let i = ih (omega (arith, e, at)) (omega arith) is in
        (ap (λ ds. member_state c ∷ ds) i.0 ∙ sym (with-at k change (member_state c) (map member_state cs) false h), waiting-at k (member_state c) (map member_state cs) false h ∙ i.1)

pub length-clients : (cs : List Member) → length (map member_state cs) ≡ length cs
length-clients [] = refl
length-clients (c ∷ cs) = ap suc (length-clients cs)

-- ---- all with that number are one

abbrev pub changes : ℕ → (List Bool → List Bool) → MemberState → MemberState
changes k change c = elim (c.number == k) [ true ↦ record c { waiting = change c.waiting } | false ↦ c ]

pub changes-at : (k : ℕ) (change : List Bool → List Bool) (c : MemberState) (b : Bool) → (c.number == k) ≡ b → changes k change c ≡ elim b as (λ _. MemberState) [ true ↦ record c { waiting = change c.waiting } | false ↦ c ]
changes-at k change c b h = ap (λ (d : Bool). elim d as (λ _. MemberState) [ true ↦ record c { waiting = change c.waiting } | false ↦ c ]) h

clash : (a b k : ℕ) → (a == k) ≡ true → (a == b) ≡ false → (b == k) ≡ false
clash a b k h g = grind (arith, nat_tests)

pub with-map : (k : ℕ) (change : List Bool → List Bool) (cs : List MemberState) → AreOnce cs → with_waiting k change cs ≡ map (changes k change) cs
with-map k change [] once = refl
with-map k change (c ∷ cs) once = by_case (with-map k change cs once.1) (c.number == k) refl
  where
    others : (ds : List MemberState) → (c.number == k) ≡ true → AllByRecursion (λ d. (c.number == d.number) ≡ false) ds → map (changes k change) ds ≡ ds
    others [] h all = refl
    others (d ∷ ds) h all = ap (λ y. y ∷ map (changes k change) ds) (changes-at k change d false (clash c.number d.number k h all.0)) ∙ ap (λ ys. d ∷ ys) (others ds h all.1)

    by_case : with_waiting k change cs ≡ map (changes k change) cs → (b : Bool) → (c.number == k) ≡ b → with_waiting k change (c ∷ cs) ≡ map (changes k change) (c ∷ cs)
    by_case ih true h = with-at k change c cs true h ∙ (ap (λ ds. record c { waiting = change c.waiting } ∷ ds) (sym (others cs h once.0)) ∙ ap (λ y. y ∷ map (changes k change) cs) (sym (changes-at k change c true h)))
    by_case ih false h = with-at k change c cs false h ∙ (ap (λ ds. c ∷ ds) ih ∙ ap (λ y. y ∷ map (changes k change) cs) (sym (changes-at k change c false h)))

-- ---- what a client that is served waits for

none-served : (k : ℕ) (cs : List MemberState) → AllByRecursion (λ d. (d.number == k) ≡ false) cs → is_member_served cs k ≡ true → ⊥
none-served k [] all h = cc
none-served k (c ∷ cs) all h = none-served k cs all.1 (or-found ((c.number == k) && not c.lost) (is_member_served cs k) h (ap (λ b. b && not c.lost) all.0))

pub waits-are : (rows : List Row) (k : ℕ) (cs : List MemberState) → AllByRecursion (ClientFits (look rows)) cs → AreOnce cs → is_member_served cs k ≡ true → Waits (wanted (rows_of k rows)) (replies (rows_of k rows)) (member_waiting_of k cs)
waits-are rows k [] all once serves = absurd (cc)
waits-are rows k (c ∷ cs) all once serves = by_case (waits-are rows k cs all.1 once.1) (c.number == k) refl c.lost refl
  where
    others : (ds : List MemberState) → (c.number == k) ≡ true → AllByRecursion (λ d. (c.number == d.number) ≡ false) ds → AllByRecursion (λ d. (d.number == k) ≡ false) ds
    others [] h more = tt
    others (d ∷ ds) h more = (clash c.number d.number k h more.0, others ds h more.1)

    by_case : (is_member_served cs k ≡ true → Waits (wanted (rows_of k rows)) (replies (rows_of k rows)) (member_waiting_of k cs)) → (b : Bool) → (c.number == k) ≡ b → (l : Bool) → c.lost ≡ l → Waits (wanted (rows_of k rows)) (replies (rows_of k rows)) (member_waiting_of k (c ∷ cs))
    by_case ih true h false l = subst (Waits (wanted (rows_of k rows)) (replies (rows_of k rows))) (sym (waiting-at k c cs true h)) (subst (λ i. Waits (wanted (rows_of i rows)) (replies (rows_of i rows)) c.waiting) (same-number c.number k h) (all.0.answers l))
    by_case ih true h true l = absurd (none-served k cs (others cs h once.0) (or-found ((c.number == k) && not c.lost) (is_member_served cs k) serves (ap (λ b. b && not c.lost) h ∙ ap not l)))
    by_case ih false h l e = subst (Waits (wanted (rows_of k rows)) (replies (rows_of k rows))) (sym (waiting-at k c cs false h)) (ih (or-found ((c.number == k) && not c.lost) (is_member_served cs k) serves (ap (λ b. b && not c.lost) h)))

pub how-many : (own : List Row) (w : List Bool) → Waits (wanted own) (replies own) w → unanswered_asks own ≡ length w
how-many own w h = let e = unanswered (wanted own) (replies own) w h in omega arith
