-- A core after the loss of a client, for any two logs of which the one is the other with that loss.
use Rattle.std.proofs.Common.{◌≡◌, ◌≤◌, ◌<◌, ℕ, List, [], ◌∷◌, length, map, true, false, Bool, refl, ◌∙◌, ap, sym, subst, arith, suc}
use Rattle.std.specs.Prelude.{filter, not, ◌==◌, ◌&&◌, ◌||◌, is_some}
use Rattle.std.specs.List.{AllByRecursion}
use Rattle.std.proofs.lemmas.Bool.Decides.{nat_tests}
use Rattle.mux_history.specs.Rows.{Row, rows_of}
use Rattle.mux_history.specs.Channels.{held_of}
use Rattle.mux_history.specs.Forwardings.{Forwarding}
use Rattle.mux_history.specs.Requests.{Ask}
use Rattle.mux_history.proofs.Bools.{same-number}
use Rattle.mux_history.proofs.Finds.{filter-no, filter-yes}
use Rattle.channel_table.specs.Entries.{TableEntry}
use Rattle.forward_rules.specs.State.{Forward}
use Rattle.forward_rules.specs.Step.{unanswered_cancels, forward_count_of, is_leaving, is_forward_of, forwards_without_client}
use Rattle.forward_rules.specs.Stands.{AreFit, AreForwardingsInOrder, AreForwardsListed, AreTwoPlaces, EachHas, EachTwo, InOrderWith, IsAwaited, IsRanked, Places}
use Rattle.client_teardown.specs.Leaving.{left_entries}
use Rattle.client_teardown.specs.Laws.{left_channels}
use Rattle.mux_core.specs.State.{MemberState, CoreState, is_member_served}
use Rattle.mux_core.specs.Stands.{AreKnown, AreOnce, AsksFit, ClientFits, OwnRequests, CoreRepresents, TableFits, has_matters, is_member_known, look, unreplied_in}
use Rattle.mux_core.specs.Settling.{has_left, client_settled}
use Rattle.mux_core.specs.Losing.{lose, lost_clients, lost_core}
use Rattle.mux_core.proofs.LeftTable.{all-left-in, client-left, left-table}
use Rattle.mux_core.proofs.Served.{IsServed, open-by, served}
use Rattle.mux_core.proofs.Settles.{clients-settle, known-settle, lost-matters}

-- what else is looked up in both
pub record IsLoss (k : ℕ) (old new : List Row) : Type 0 where
  pub all : (look new).all ≡ (look old).all
  pub own : (j : ℕ) → (look new).own j ≡ (look old).own j
  pub current : (look new).current ≡ filter (λ g. not (g.client == k)) (look old).current
  pub entered : (look new).entered ≡ (look old).entered
  pub admitted : (j : ℕ) → (look new).admitted j ≡ (look old).admitted j
  pub lost : (look new).lost k ≡ true
  pub others : (j : ℕ) → (k == j) ≡ false → (look new).lost j ≡ (look old).lost j
  pub waiting : (j : ℕ) → (k == j) ≡ false → (look new).waiting j ≡ (look old).waiting j
  pub matters : (j : ℕ) → (k == j) ≡ false → has_matters new j ≡ has_matters old j
  pub held : held_of new ≡ left_channels k (held_of old)

turned : (a b : ℕ) → (a == b) ≡ false → (b == a) ≡ false
turned a b h = grind (arith, nat_tests)

-- ---- the forwardings

abbrev other : ℕ → Forwarding → Bool
other k g = not (g.client == k)

abbrev other_kept : ℕ → Forward → Bool
other_kept k f = not (is_forward_of k f)

same-client : (k : ℕ) (f : Forward) (g : Forwarding) → f.client ≡ g.client → other_kept k f ≡ other k g
same-client k f g h = ap (λ i. not (i == k)) h

listed-without : (k : ℕ) (fs : List Forward) (gs : List Forwarding) → AreForwardsListed fs gs → AreForwardsListed (forwards_without_client k fs) (filter (λ g. not (g.client == k)) gs)
listed-without k [] [] fit = tt
listed-without k [] (g ∷ gs) fit = absurd fit
listed-without k (f ∷ fs) [] fit = absurd fit
listed-without k (f ∷ fs) (g ∷ gs) fit = by_case (listed-without k fs gs fit.1) (other k g) refl
  where
    by_case : AreForwardsListed (forwards_without_client k fs) (filter (λ g. not (g.client == k)) gs) → (b : Bool) → other k g ≡ b → AreForwardsListed (forwards_without_client k (f ∷ fs)) (filter (λ g. not (g.client == k)) (g ∷ gs))
    by_case ih true h = subst (λ xs. AreForwardsListed xs (filter (other k) (g ∷ gs))) (sym (filter-yes (other_kept k) f fs (same-client k f g fit.0.client ∙ h))) (subst (AreForwardsListed (f ∷ forwards_without_client k fs)) (sym (filter-yes (other k) g gs h)) (fit.0, ih))
    by_case ih false h = subst (λ xs. AreForwardsListed xs (filter (other k) (g ∷ gs))) (sym (filter-no (other_kept k) f fs (same-client k f g fit.0.client ∙ h))) (subst (AreForwardsListed (forwards_without_client k fs)) (sym (filter-no (other k) g gs h)) ih)

order-with : (k : ℕ) (f : Forward) (g : Forwarding) (fs : List Forward) (gs : List Forwarding) → AreForwardsListed fs gs → InOrderWith f g fs gs → InOrderWith f g (forwards_without_client k fs) (filter (λ g. not (g.client == k)) gs)
order-with k f g [] [] fit all = tt
order-with k f g [] (y ∷ ys) fit all = absurd fit
order-with k f g (x ∷ xs) [] fit all = absurd fit
order-with k f g (x ∷ xs) (y ∷ ys) fit all = by_case (order-with k f g xs ys fit.1 all.1) (other k y) refl
  where
    by_case : InOrderWith f g (forwards_without_client k xs) (filter (λ g. not (g.client == k)) ys) → (b : Bool) → other k y ≡ b → InOrderWith f g (forwards_without_client k (x ∷ xs)) (filter (λ g. not (g.client == k)) (y ∷ ys))
    by_case ih true h = subst (λ zs. InOrderWith f g zs (filter (other k) (y ∷ ys))) (sym (filter-yes (other_kept k) x xs (same-client k x y fit.0.client ∙ h))) (subst (InOrderWith f g (x ∷ forwards_without_client k xs)) (sym (filter-yes (other k) y ys h)) (all.0, ih))
    by_case ih false h = subst (λ zs. InOrderWith f g zs (filter (other k) (y ∷ ys))) (sym (filter-no (other_kept k) x xs (same-client k x y fit.0.client ∙ h))) (subst (InOrderWith f g (forwards_without_client k xs)) (sym (filter-no (other k) y ys h)) ih)

order-without : (k : ℕ) (fs : List Forward) (gs : List Forwarding) → AreForwardsListed fs gs → AreForwardingsInOrder fs gs → AreForwardingsInOrder (forwards_without_client k fs) (filter (λ g. not (g.client == k)) gs)
order-without k [] [] fit all = tt
order-without k [] (g ∷ gs) fit all = absurd fit
order-without k (f ∷ fs) [] fit all = absurd fit
order-without k (f ∷ fs) (g ∷ gs) fit all = by_case (order-without k fs gs fit.1 all.1) (other k g) refl
  where
    by_case : AreForwardingsInOrder (forwards_without_client k fs) (filter (λ g. not (g.client == k)) gs) → (b : Bool) → other k g ≡ b → AreForwardingsInOrder (forwards_without_client k (f ∷ fs)) (filter (λ g. not (g.client == k)) (g ∷ gs))
    by_case ih true h = subst (λ zs. AreForwardingsInOrder zs (filter (other k) (g ∷ gs))) (sym (filter-yes (other_kept k) f fs (same-client k f g fit.0.client ∙ h))) (subst (AreForwardingsInOrder (f ∷ forwards_without_client k fs)) (sym (filter-yes (other k) g gs h)) (order-with k f g fs gs fit.1 all.0, ih))
    by_case ih false h = subst (λ zs. AreForwardingsInOrder zs (filter (other k) (g ∷ gs))) (sym (filter-no (other_kept k) f fs (same-client k f g fit.0.client ∙ h))) (subst (AreForwardingsInOrder (forwards_without_client k fs)) (sym (filter-no (other k) g gs h)) ih)

all-filter : {X : Type 0} (P : X → Type 0) (keep : X → Bool) (xs : List X) → AllByRecursion P xs → AllByRecursion P (filter keep xs)
all-filter P keep [] all = tt
all-filter P keep (x ∷ xs) all = by_case (all-filter P keep xs all.1) (keep x) refl
  where
    by_case : AllByRecursion P (filter keep xs) → (b : Bool) → keep x ≡ b → AllByRecursion P (filter keep (x ∷ xs))
    by_case ih true h = subst (AllByRecursion P) (sym (filter-yes keep x xs h)) (all.0, ih)
    by_case ih false h = subst (AllByRecursion P) (sym (filter-no keep x xs h)) ih

all-of : {X : Type 0} (P Q : X → Type 0) → ((x : X) → P x → Q x) → (xs : List X) → AllByRecursion P xs → AllByRecursion Q xs
all-of P Q each [] all = tt
all-of P Q each (x ∷ xs) all = (each x all.0, all-of P Q each xs all.1)

two-without : (keep : Forwarding → Bool) (gs : List Forwarding) → EachTwo gs → EachTwo (filter keep gs)
two-without keep [] two = tt
two-without keep (g ∷ gs) two = by_case (two-without keep gs two.1) (keep g) refl
  where
    by_case : EachTwo (filter keep gs) → (b : Bool) → keep g ≡ b → EachTwo (filter keep (g ∷ gs))
    by_case ih true h = subst EachTwo (sym (filter-yes keep g gs h)) (all-filter (AreTwoPlaces g) keep gs two.0, ih)
    by_case ih false h = subst EachTwo (sym (filter-no keep g gs h)) ih

fewer : (j : ℕ) (keep : Forward → Bool) (fs : List Forward) → forward_count_of (filter keep fs) j ≤ forward_count_of fs j
fewer j keep [] = omega arith
fewer j keep (f ∷ fs) = by_case (fewer j keep fs) (keep f) refl (is_forward_of j f) refl
  where
    by_case : forward_count_of (filter keep fs) j ≤ forward_count_of fs j → (b : Bool) → keep f ≡ b → (c : Bool) → is_forward_of j f ≡ c → forward_count_of (filter keep (f ∷ fs)) j ≤ forward_count_of (f ∷ fs) j
    by_case ih true h true m = rw (filter-yes keep f fs h, filter-yes (is_forward_of j) f (filter keep fs) m, filter-yes (is_forward_of j) f fs m) (omega arith)
    by_case ih true h false m = rw (filter-yes keep f fs h, filter-no (is_forward_of j) f (filter keep fs) m, filter-no (is_forward_of j) f fs m) (omega arith)
    by_case ih false h true m = rw (filter-no keep f fs h, filter-yes (is_forward_of j) f fs m) (omega arith)
    by_case ih false h false m = rw (filter-no keep f fs h, filter-no (is_forward_of j) f fs m) (omega arith)

-- another client's are as they were
others-stay : (k j : ℕ) → (k == j) ≡ false → (gs : List Forwarding) → filter (λ g. g.client == j) (filter (λ g. not (g.client == k)) gs) ≡ filter (λ g. g.client == j) gs
others-stay k j apart [] = refl
others-stay k j apart (g ∷ gs) = by_case (others-stay k j apart gs) (g.client == j) refl (g.client == k) refl
  where
    clash : (a : ℕ) → (a == j) ≡ true → (a == k) ≡ true → (k == j) ≡ false → ⊥
    clash a p q r = grind (arith, nat_tests)

    by_case : filter (λ g. g.client == j) (filter (λ g. not (g.client == k)) gs) ≡ filter (λ g. g.client == j) gs → (b : Bool) → (g.client == j) ≡ b → (c : Bool) → (g.client == k) ≡ c → filter (λ g. g.client == j) (filter (λ g. not (g.client == k)) (g ∷ gs)) ≡ filter (λ g. g.client == j) (g ∷ gs)
    by_case ih true p true q = absurd (clash g.client p q apart)
    by_case ih true p false q = ap (filter (λ (h : Forwarding). h.client == j)) (filter-yes (other k) g gs (ap not q)) ∙ (filter-yes (λ (h : Forwarding). h.client == j) g (filter (other k) gs) p ∙ (ap (λ hs. g ∷ hs) ih ∙ sym (filter-yes (λ (h : Forwarding). h.client == j) g gs p)))
    by_case ih false p true q = ap (filter (λ (h : Forwarding). h.client == j)) (filter-no (other k) g gs (ap not q)) ∙ (ih ∙ sym (filter-no (λ (h : Forwarding). h.client == j) g gs p))
    by_case ih false p false q = ap (filter (λ (h : Forwarding). h.client == j)) (filter-yes (other k) g gs (ap not q)) ∙ (filter-no (λ (h : Forwarding). h.client == j) g (filter (other k) gs) p ∙ (ih ∙ sym (filter-no (λ (h : Forwarding). h.client == j) g gs p)))

-- no cancel of another client goes along
same-cancels : (k j : ℕ) → (j == k) ≡ false → (fs : List Forward) → unanswered_cancels j (forwards_without_client k fs) ≡ unanswered_cancels j fs
same-cancels k j apart [] = refl
same-cancels k j apart (f ∷ fs) = by_case (same-cancels k j apart fs) (f.client == k) refl (is_leaving j f) refl
  where
    clash : (a : ℕ) → (a == j) ≡ true → (a == k) ≡ true → (j == k) ≡ false → ⊥
    clash a p q r = grind (arith, nat_tests)

    left : (a b : Bool) → (a && b) ≡ true → a ≡ true
    left true b e = refl
    left false b e = cc

    by_case : unanswered_cancels j (forwards_without_client k fs) ≡ unanswered_cancels j fs → (b : Bool) → (f.client == k) ≡ b → (c : Bool) → is_leaving j f ≡ c → unanswered_cancels j (forwards_without_client k (f ∷ fs)) ≡ unanswered_cancels j (f ∷ fs)
    by_case ih true p true q = absurd (clash f.client (left (f.client == j) (is_some f.cancel) q) p apart)
    by_case ih true p false q = ap (unanswered_cancels j) (filter-no (other_kept k) f fs (ap not p)) ∙ (ih ∙ sym (ap length (filter-no (is_leaving j) f fs q)))
    by_case ih false p true q = ap (unanswered_cancels j) (filter-yes (other_kept k) f fs (ap not p)) ∙ (ap length (filter-yes (is_leaving j) f (forwards_without_client k fs) q) ∙ (ap suc ih ∙ sym (ap length (filter-yes (is_leaving j) f fs q))))
    by_case ih false p false q = ap (unanswered_cancels j) (filter-yes (other_kept k) f fs (ap not p)) ∙ (ap length (filter-no (is_leaving j) f (forwards_without_client k fs) q) ∙ (ih ∙ sym (ap length (filter-no (is_leaving j) f fs q))))

ranked-without : (k : ℕ) (all fs : List Forward) → AllByRecursion (IsRanked all) fs → AllByRecursion (IsRanked (forwards_without_client k all)) (forwards_without_client k fs)
ranked-without k all [] ranked = tt
ranked-without k all (f ∷ fs) ranked = by_case (ranked-without k all fs ranked.1) (f.client == k) refl
  where
    by_case : AllByRecursion (IsRanked (forwards_without_client k all)) (forwards_without_client k fs) → (b : Bool) → (f.client == k) ≡ b → AllByRecursion (IsRanked (forwards_without_client k all)) (forwards_without_client k (f ∷ fs))
    by_case ih true p = subst (AllByRecursion (IsRanked (forwards_without_client k all))) (sym (filter-no (other_kept k) f fs (ap not p))) ih
    by_case ih false p = subst (AllByRecursion (IsRanked (forwards_without_client k all))) (sym (filter-yes (other_kept k) f fs (ap not p))) ((λ r e. subst (λ n. r < n) (sym (same-cancels k f.client p all)) (ranked.0 r e)), ih)

forwards-lost : (k : ℕ) (fs : List Forward) (gs : List Forwarding) (own own' : ℕ → Places) (lost lost' : ℕ → Bool) → ((j : ℕ) → own' j ≡ own j) → lost' k ≡ true → ((j : ℕ) → (k == j) ≡ false → lost' j ≡ lost j) → AreFit fs gs own lost → AreFit (forwards_without_client k fs) (filter (λ g. not (g.client == k)) gs) own' lost'
forwards-lost k fs gs own own' lost lost' same gone others fit = record {
  listed = listed-without k fs gs fit.listed;
  in_order = order-without k fs gs fit.listed fit.in_order;
  awaited = all-filter (λ g. IsAwaited (own' g.client) g) (λ g. not (g.client == k)) gs (all-of (λ g. IsAwaited (own g.client) g) (λ g. IsAwaited (own' g.client) g) (λ g w. subst (λ p. IsAwaited p g) (sym (same g.client)) w) gs fit.awaited);
  two = two-without (λ g. not (g.client == k)) gs fit.two;
  few = λ j. let a = fewer j (λ f. not (is_forward_of k f)) fs in let b = fit.few j in omega arith;
  each = λ j here. by_mine j here (k == j) refl;
  ranked = ranked-without k fs fs fit.ranked;
}
  where
    by_mine : (j : ℕ) → lost' j ≡ false → (b : Bool) → (k == j) ≡ b → EachHas (own' j) (filter (λ g. g.client == j) (filter (λ g. not (g.client == k)) gs))
    by_mine j here true h = absurd (let a : lost' j ≡ true = subst (λ i. lost' i ≡ true) (same-number k j h) gone in let c = sym a ∙ here in cc)
    by_mine j here false h = subst (λ p. EachHas p (filter (λ g. g.client == j) (filter (λ g. not (g.client == k)) gs))) (sym (same j)) (subst (EachHas (own j)) (sym (others-stay k j h gs)) (fit.each j (sym (others j h) ∙ here)))

-- ---- the clients

known-lost : (k j : ℕ) (cs : List MemberState) → is_member_known (lost_clients k cs) j ≡ is_member_known cs j
known-lost k j [] = refl
known-lost k j (c ∷ cs) = ap (λ b. (c.number == j) || b) (known-lost k j cs)

served-lost : (k j : ℕ) (cs : List MemberState) → (k == j) ≡ false → is_member_served (lost_clients k cs) j ≡ is_member_served cs j
served-lost k j [] apart = refl
served-lost k j (c ∷ cs) apart = ap (λ b. ((c.number == j) && not (c.lost || (c.number == k))) || b) (served-lost k j cs apart) ∙ ap (λ b. b || is_member_served cs j) (by_case (c.number == j) refl (c.number == k) refl)
  where
    clash : (a : ℕ) → (a == j) ≡ true → (a == k) ≡ true → (k == j) ≡ false → ⊥
    clash a p q r = grind (arith, nat_tests)

    plain : (b : Bool) → (b || false) ≡ b
    plain true = refl
    plain false = refl

    by_case : (b : Bool) → (c.number == j) ≡ b → (d : Bool) → (c.number == k) ≡ d → ((c.number == j) && not (c.lost || (c.number == k))) ≡ ((c.number == j) && not c.lost)
    by_case true p true q = absurd (clash c.number p q apart)
    by_case true p false q = ap (λ d. (c.number == j) && not (c.lost || d)) q ∙ ap (λ d. (c.number == j) && not d) (plain c.lost)
    by_case false p d q = ap (λ b. b && not (c.lost || (c.number == k))) p ∙ sym (ap (λ b. b && not c.lost) p)

numbers-lost : (k : ℕ) (cs : List MemberState) → map (λ (c : MemberState). c.number) (lost_clients k cs) ≡ map (λ (c : MemberState). c.number) cs
numbers-lost k [] = refl
numbers-lost k (c ∷ cs) = ap (λ ns. c.number ∷ ns) (numbers-lost k cs)

once-lost : (k : ℕ) (cs : List MemberState) → AreOnce cs → AreOnce (lost_clients k cs)
once-lost k [] once = tt
once-lost k (c ∷ cs) once = (each cs once.0, once-lost k cs once.1)
  where
    each : (ds : List MemberState) → AllByRecursion (λ d. (c.number == d.number) ≡ false) ds → AllByRecursion (λ d. (c.number == d.number) ≡ false) (lost_clients k ds)
    each [] all = tt
    each (d ∷ ds) all = (all.0, each ds all.1)

length-lost : (k : ℕ) (cs : List MemberState) → length (lost_clients k cs) ≡ length cs
length-lost k [] = refl
length-lost k (c ∷ cs) = ap suc (length-lost k cs)

-- a client represents the log with the loss
client-lost : (k : ℕ) (old new : List Row) (c : MemberState) → IsLoss k old new → ClientFits (look old) c → ClientFits (look new) (lose k c)
client-lost k old new c loss fits = record {
  nonzero = fits.nonzero;
  admitted = loss.admitted c.number ∙ fits.admitted;
  lost = by_number (c.number == k) refl;
  answers = λ here. by_here (c.number == k) refl here;
}
  where
    end : (b : Bool) → (b || true) ≡ true
    end true = refl
    end false = refl

    plain : (b : Bool) → (b || false) ≡ b
    plain true = refl
    plain false = refl

    by_number : (b : Bool) → (c.number == k) ≡ b → (c.lost || (c.number == k)) ≡ (look new).lost c.number
    by_number true h = ap (λ b. c.lost || b) h ∙ (end c.lost ∙ sym (subst (λ i. (look new).lost i ≡ true) (sym (same-number c.number k h)) loss.lost))
    by_number false h = ap (λ b. c.lost || b) h ∙ (plain c.lost ∙ (fits.lost ∙ sym (loss.others c.number (turned c.number k h))))

    by_here : (b : Bool) → (c.number == k) ≡ b → (c.lost || (c.number == k)) ≡ false → (look new).waiting c.number ≡ record { requests = c.waiting; early = [] }
    by_here true h here = absurd (let a = sym (ap (λ b. c.lost || b) h ∙ end c.lost) ∙ here in cc)
    by_here false h here = loss.waiting c.number (turned c.number k h) ∙ fits.answers (sym (ap (λ b. c.lost || b) h ∙ plain c.lost) ∙ here)

clients-lost : (k : ℕ) (old new : List Row) (cs : List MemberState) → IsLoss k old new → AllByRecursion (ClientFits (look old)) cs → AllByRecursion (ClientFits (look new)) (lost_clients k cs)
clients-lost k old new [] loss all = tt
clients-lost k old new (c ∷ cs) loss all = (client-lost k old new c loss all.0, clients-lost k old new cs loss all.1)

-- ---- all of it

loss-known : (s : CoreState) (k : ℕ) → AreKnown s → AreKnown (lost_core s k)
loss-known s k known = record {
  channels = all-left-in (λ e. is_member_known (lost_clients k s.clients) e.channel.client ≡ true) k (λ e h. subst (λ i. is_member_known (lost_clients k s.clients) i ≡ true) (sym (client-left k e)) h) s.channels (all-of (λ (e : TableEntry). is_member_known s.clients e.channel.client ≡ true) (λ (e : TableEntry). is_member_known (lost_clients k s.clients) e.channel.client ≡ true) (λ e h. known-lost k e.channel.client s.clients ∙ h) s.channels known.channels);
  asks = all-of (λ (a : Ask). is_member_known s.clients a.client ≡ true) (λ (a : Ask). is_member_known (lost_clients k s.clients) a.client ≡ true) (λ a h. known-lost k a.client s.clients ∙ h) s.asks known.asks;
  forwards = each s.forwards known.forwards;
}
  where
    each : (fs : List Forward) → AllByRecursion (λ f. is_member_served s.clients f.client ≡ true) fs → AllByRecursion (λ f. is_member_served (lost_clients k s.clients) f.client ≡ true) (forwards_without_client k fs)
    each [] all = tt
    each (f ∷ fs) all = by_case (each fs all.1) (f.client == k) refl
      where
        by_case : AllByRecursion (λ f. is_member_served (lost_clients k s.clients) f.client ≡ true) (forwards_without_client k fs) → (b : Bool) → (f.client == k) ≡ b → AllByRecursion (λ f. is_member_served (lost_clients k s.clients) f.client ≡ true) (forwards_without_client k (f ∷ fs))
        by_case ih true h = subst (AllByRecursion (λ (f : Forward). is_member_served (lost_clients k s.clients) f.client ≡ true)) (sym (filter-no (other_kept k) f fs (ap not h))) ih
        by_case ih false h = subst (AllByRecursion (λ (f : Forward). is_member_served (lost_clients k s.clients) f.client ≡ true)) (sym (filter-yes (other_kept k) f fs (ap not h))) (served-lost k f.client s.clients (turned f.client k h) ∙ all.0, ih)

elsewhere : (k : ℕ) (fs : List Forward) → AllByRecursion (λ f. (f.client == k) ≡ false) (forwards_without_client k fs)
elsewhere k [] = tt
elsewhere k (f ∷ fs) = by_case (elsewhere k fs) (f.client == k) refl
  where
    by_case : AllByRecursion (λ f. (f.client == k) ≡ false) (forwards_without_client k fs) → (b : Bool) → (f.client == k) ≡ b → AllByRecursion (λ f. (f.client == k) ≡ false) (forwards_without_client k (f ∷ fs))
    by_case ih true h = subst (AllByRecursion (λ (f : Forward). (f.client == k) ≡ false)) (sym (filter-no (other_kept k) f fs (ap not h))) ih
    by_case ih false h = subst (AllByRecursion (λ (f : Forward). (f.client == k) ≡ false)) (sym (filter-yes (other_kept k) f fs (ap not h))) (h, ih)

pub loss-stands : (s : CoreState) (k : ℕ) (old new : List Row) → CoreRepresents s old → is_member_served s.clients k ≡ true → IsLoss k old new → CoreRepresents (client_settled (lost_core s k) k) new
loss-stands s k old new st serves loss =
    let channels = subst (TableFits (left_entries k s.channels)) (sym loss.held) (left-table k s.channels (held_of old) st.channels) in
    let asks : AsksFit s.asks (look new) = record {
      waiting = st.asks.waiting ∙ sym (ap unreplied_in loss.all);
      awaited = subst (λ (p : Places). p.replied ≤ length p.asked) (sym loss.all) st.asks.awaited;
      each = λ j. subst (λ p. OwnRequests j p ((look new).own j)) (sym loss.all) (subst (OwnRequests j (look old).all) (sym (loss.own j)) (st.asks.each j));
    } in
    let here : has_matters new k ≡ has_left (lost_core s k) k = lost-matters (lost_core s k) k new channels asks loss.lost in
    let is : IsServed k (look old) = served (look old) k s.clients st.clients.each serves in
    record {
      channels = channels;
      asks = asks;
      forwards = subst (λ gs. AreFit (forwards_without_client k s.forwards) gs (look new).own (look new).lost) (sym loss.current) (forwards-lost k s.forwards (look old).current (look old).own (look new).own (look old).lost (look new).lost loss.own loss.lost loss.others st.forwards);
      clients = clients-settle k (has_left (lost_core s k) k) (lost_clients k s.clients) (has_matters old) (has_matters new) (look new)
          (record {
            numbers = numbers-lost k s.clients ∙ (st.clients.numbers ∙ sym (ap (filter (has_matters old)) loss.entered));
            each = clients-lost k old new s.clients loss st.clients.each;
            once = once-lost k s.clients st.clients.once;
            few = let e = length-lost k s.clients in let f = st.clients.few in omega arith;
          })
          (λ j apart. loss.matters j (turned j k apart)) here (open-by (rows_of k old) is.admitted is.here);
      known = known-settle (lost_core s k) k (loss-known s k st.known) (elsewhere k s.forwards);
    }
