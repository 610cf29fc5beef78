-- The forwardings after a reply, whatever it answers.
use Rattle.std.proofs.Common.{◌≡◌, ℕ, List, [], ◌∷◌, map, true, false, Bool, refl, ◌∙◌, ap, sym, subst, Option, Some, None}
use Rattle.std.specs.Prelude.{filter, ◌==◌, ◌&&◌, not, is_none, slice_get}
use Rattle.std.specs.List.{AllByRecursion}
use Rattle.ssh_grammar.specs.Messages.{Key}
use Rattle.ssh_grammar.specs.Messages as full
use Rattle.mux_history.specs.Channels.{is_number}
use Rattle.mux_history.specs.Summary.{Summary, Refuses, Succeeds}
use Rattle.mux_history.specs.Keys.{bound}
use Rattle.mux_history.specs.Forwardings.{Forwarding, is_request}
use Rattle.mux_history.proofs.CurrentSteps.{is_on}
use Rattle.mux_history.proofs.Finds.{filter-no, filter-yes}
use Rattle.mux_history.proofs.Sends.{and-right}
use Rattle.forward_rules.specs.State.{Forward}
use Rattle.forward_rules.specs.Step.{cancel_answered, is_cancelled_at, cancel_settled, forward_settled_at, without_cancel_of}
use Rattle.forward_rules.specs.Stands.{AreFit, IsAwaited, Places}
use Rattle.mux_core.specs.Replying.{after_failure, after_success}
use Rattle.mux_core.proofs.Dropped.{Drops, WaitsNot, drops-map, has-kept, kept-fit}
use Rattle.mux_core.proofs.Granting.{granted-fit}
use Rattle.mux_core.proofs.Ranking.{AllPairs, Known, first-is, known-all, leaves_at, rank-of, same-cancelled}
use Rattle.mux_core.proofs.Refusing.{refused-fit}
use Rattle.mux_core.proofs.CancelAnswered.{released, released-at, seen-all}
use Rattle.mux_core.proofs.Released.{moved-fit, not-asked, there-is}
use Rattle.mux_core.proofs.Removed.{all-by, kept_by, on-all, on-listed}
use Rattle.mux_core.proofs.Replied.{Replies, after, idle-all, is_neither, neither-idle, nobody-fit, number-is}

-- ---- a cancel fails: its forwarding is free again

released-after : (k place : ℕ) (key : Key) (own : ℕ → Places) (g : Forwarding) → slice_get (own k).asked place ≡ Some (record { client = k; what = full.Cancel key }) → IsAwaited (own g.client) g → after k place Refuses g ≡ released k place g
released-after k place key own g asked w = by_client (g.client == k) refl (is_number g.cancel place) refl
  where
    by_client : (b : Bool) → (g.client == k) ≡ b → (c : Bool) → is_number g.cancel place ≡ c → after k place Refuses g ≡ released k place g
    by_client false h c e =
        ap (λ (x : Bool). elim x as (λ _. Forwarding) [ true ↦ elim (is_request g place) as (λ _. Forwarding) [ true ↦ record g { over = true } | false ↦ elim (is_number g.cancel place) as (λ _. Forwarding) [ true ↦ record g { cancel = None } | false ↦ g ] ] | false ↦ g ]) h
        ∙ sym (released-at k place g false (ap (λ b. b && is_number g.cancel place) h))
    by_client true h c e =
        ap (λ (x : Bool). elim x as (λ _. Forwarding) [ true ↦ elim (is_request g place) as (λ _. Forwarding) [ true ↦ record g { over = true } | false ↦ elim (is_number g.cancel place) as (λ _. Forwarding) [ true ↦ record g { cancel = None } | false ↦ g ] ] | false ↦ g ]) h
        ∙ (ap (λ (x : Bool). elim x as (λ _. Forwarding) [ true ↦ record g { over = true } | false ↦ elim (is_number g.cancel place) as (λ _. Forwarding) [ true ↦ record g { cancel = None } | false ↦ g ] ]) (not-asked k place key own g asked w h)
        ∙ sym (ap (λ (x : Bool). elim x as (λ _. Forwarding) [ true ↦ record g { cancel = None } | false ↦ g ]) (ap (λ b. b && is_number g.cancel place) h)))

released-all : (k place : ℕ) (key : Key) (own : ℕ → Places) (gs : List Forwarding) → slice_get (own k).asked place ≡ Some (record { client = k; what = full.Cancel key }) → AllByRecursion (λ g. IsAwaited (own g.client) g) gs → map (after k place Refuses) gs ≡ map (released k place) gs
released-all k place key own [] asked waits = refl
released-all k place key own (g ∷ gs) asked waits = ap (λ h. h ∷ map (after k place Refuses) gs) (released-after k place key own g asked waits.0) ∙ ap (λ hs. released k place g ∷ hs) (released-all k place key own gs asked waits.1)

on-released : (k place : ℕ) (gs : List Forwarding) → AllByRecursion (λ g. is_on g ≡ true) gs → AllByRecursion (λ g. is_on g ≡ true) (map (released k place) gs)
on-released k place [] all = tt
on-released k place (g ∷ gs) all = (elim (leaves_at k place g) as (λ b. is_on (elim b as (λ _. Forwarding) [ true ↦ record g { cancel = None } | false ↦ g ]) ≡ true) [ true ↦ all.0 | false ↦ all.0 ], on-released k place gs all.1)

-- what the rank of the one that is meant gives
pub record Meant (k : ℕ) (key : Key) (own : ℕ → Places) (fs : List Forward) (gs : List Forwarding) : Type 0 where
  pub rank : ℕ
  pub known : AllPairs (Known k (own k).replied rank own) fs gs
  pub answered : (done : Bool) → cancel_answered k key done fs ≡ cancel_settled k rank done fs

meant : (k : ℕ) (key : Key) (fs : List Forward) (gs : List Forwarding) (own : ℕ → Places) (lost : ℕ → Bool) → AreFit fs gs own lost → lost k ≡ false → slice_get (own k).asked (own k).replied ≡ Some (record { client = k; what = full.Cancel key }) → Meant k key own fs gs
meant k key fs gs own lost fit here asked =
    let there = there-is k key fs gs own lost fit here asked in
    let r = rank-of k (own k).replied fs gs fit.listed fit.in_order fit.two there in
    let known = known-all k (own k).replied r.rank own fs gs fit.listed fit.awaited r.each in
    record {
      rank = r.rank;
      known = known;
      answered = λ done. ap (λ (o : Option ℕ). forward_settled_at k o done fs) (first-is k (own k).replied r.rank key own fs gs refl asked known there);
    }

pub released-fit : (k : ℕ) (key : Key) (fs : List Forward) (gs : List Forwarding) (own own' : ℕ → Places) (lost : ℕ → Bool) → AreFit fs gs own lost → Replies k own own' → lost k ≡ false → slice_get (own k).asked (own k).replied ≡ Some (record { client = k; what = full.Cancel key }) → AreFit (cancel_answered k key false fs) (filter is_on (map (after k (own k).replied Refuses) gs)) own' lost
released-fit k key fs gs own own' lost fit next here asked =
    let m = meant k key fs gs own lost fit here asked in
    subst (λ es. AreFit es (filter is_on (map (after k (own k).replied Refuses) gs)) own' lost) (sym (m.answered false))
    (subst (λ hs. AreFit (map (without_cancel_of k m.rank) fs) hs own' lost) (sym (ap (filter is_on) (released-all k (own k).replied key own gs asked fit.awaited) ∙ on-all (map (released k (own k).replied) gs) (on-released k (own k).replied gs (on-listed fs gs fit.listed))))
    (moved-fit k m.rank key fs gs own own' lost fit next here asked (seen-all k (own k).replied m.rank own fs gs m.known)))

-- ---- a cancel succeeds: its forwarding ends

abbrev stays_on : ℕ → ℕ → Forwarding → Bool
stays_on k place g = not (leaves_at k place g)

abbrev marks : ℕ → ℕ → List Forwarding → List Bool
marks k place gs = map (stays_on k place) gs

kept-settled : (k place rank : ℕ) (own : ℕ → Places) (fs : List Forward) (gs : List Forwarding) → AllPairs (Known k place rank own) fs gs → map (without_cancel_of k rank) (filter (λ f. not (is_cancelled_at k rank f)) fs) ≡ kept_by (marks k place gs) (map (without_cancel_of k rank) fs)
kept-settled k place rank own [] [] known = refl
kept-settled k place rank own [] (g ∷ gs) known = absurd known
kept-settled k place rank own (f ∷ fs) [] known = absurd known
kept-settled k place rank own (f ∷ fs) (g ∷ gs) known = by_test (kept-settled k place rank own fs gs known.1) (leaves_at k place g) refl
  where
    same : is_cancelled_at k rank f ≡ leaves_at k place g
    same = same-cancelled k place rank own f g known.0

    at : (b : Bool) → leaves_at k place g ≡ b → kept_by (marks k place (g ∷ gs)) (map (without_cancel_of k rank) (f ∷ fs)) ≡ elim (not b) as (λ _. List Forward) [ true ↦ without_cancel_of k rank f ∷ kept_by (marks k place gs) (map (without_cancel_of k rank) fs) | false ↦ kept_by (marks k place gs) (map (without_cancel_of k rank) fs) ]
    at b h = ap (λ (c : Bool). elim (not c) as (λ _. List Forward) [ true ↦ without_cancel_of k rank f ∷ kept_by (marks k place gs) (map (without_cancel_of k rank) fs) | false ↦ kept_by (marks k place gs) (map (without_cancel_of k rank) fs) ]) h

    by_test : map (without_cancel_of k rank) (filter (λ f. not (is_cancelled_at k rank f)) fs) ≡ kept_by (marks k place gs) (map (without_cancel_of k rank) fs) → (b : Bool) → leaves_at k place g ≡ b → map (without_cancel_of k rank) (filter (λ f. not (is_cancelled_at k rank f)) (f ∷ fs)) ≡ kept_by (marks k place (g ∷ gs)) (map (without_cancel_of k rank) (f ∷ fs))
    by_test ih true h = ap (map (without_cancel_of k rank)) (filter-no (λ (e : Forward). not (is_cancelled_at k rank e)) f fs (ap not (same ∙ h))) ∙ (ih ∙ sym (at true h))
    by_test ih false h = ap (map (without_cancel_of k rank)) (filter-yes (λ (e : Forward). not (is_cancelled_at k rank e)) f fs (ap not (same ∙ h))) ∙ (ap (λ es. without_cancel_of k rank f ∷ es) ih ∙ sym (at false h))

ended-after : (k place : ℕ) (rest : List ℕ) (key : Key) (own : ℕ → Places) (gs : List Forwarding) → slice_get (own k).asked place ≡ Some (record { client = k; what = full.Cancel key }) → AllByRecursion (λ g. IsAwaited (own g.client) g) gs → AllByRecursion (λ g. is_on g ≡ true) gs → filter is_on (map (after k place (Succeeds rest)) gs) ≡ kept_by (marks k place gs) (map (released k place) gs)
ended-after k place rest key own [] asked waits on = refl
ended-after k place rest key own (g ∷ gs) asked waits on = by_test (ended-after k place rest key own gs asked waits.1 on.1) (g.client == k) refl (is_number g.cancel place) refl
  where
    at : (b : Bool) → leaves_at k place g ≡ b → kept_by (marks k place (g ∷ gs)) (map (released k place) (g ∷ gs)) ≡ elim (not b) as (λ _. List Forwarding) [ true ↦ released k place g ∷ kept_by (marks k place gs) (map (released k place) gs) | false ↦ kept_by (marks k place gs) (map (released k place) gs) ]
    at b h = ap (λ (c : Bool). elim (not c) as (λ _. List Forwarding) [ true ↦ released k place g ∷ kept_by (marks k place gs) (map (released k place) gs) | false ↦ kept_by (marks k place gs) (map (released k place) gs) ]) h

    goes_on : (filter is_on (map (after k place (Succeeds rest)) gs) ≡ kept_by (marks k place gs) (map (released k place) gs)) → after k place (Succeeds rest) g ≡ g → leaves_at k place g ≡ false → filter is_on (map (after k place (Succeeds rest)) (g ∷ gs)) ≡ kept_by (marks k place (g ∷ gs)) (map (released k place) (g ∷ gs))
    goes_on ih same miss =
        ap (λ (x : Forwarding). filter is_on (x ∷ map (after k place (Succeeds rest)) gs)) same
        ∙ (filter-yes is_on g (map (after k place (Succeeds rest)) gs) on.0
        ∙ (ap (λ hs. g ∷ hs) ih ∙ (ap (λ (x : Forwarding). x ∷ kept_by (marks k place gs) (map (released k place) gs)) (sym (released-at k place g false miss)) ∙ sym (at false miss))))

    by_test : (filter is_on (map (after k place (Succeeds rest)) gs) ≡ kept_by (marks k place gs) (map (released k place) gs)) → (b : Bool) → (g.client == k) ≡ b → (c : Bool) → is_number g.cancel place ≡ c → filter is_on (map (after k place (Succeeds rest)) (g ∷ gs)) ≡ kept_by (marks k place (g ∷ gs)) (map (released k place) (g ∷ gs))
    by_test ih false h c e = goes_on ih (ap (λ (x : Bool). elim x as (λ _. Forwarding) [ true ↦ elim (is_request g place) as (λ _. Forwarding) [ true ↦ record g { live = Some (bound g.key rest) } | false ↦ elim (is_number g.cancel place) as (λ _. Forwarding) [ true ↦ record g { over = true } | false ↦ g ] ] | false ↦ g ]) h) (ap (λ b. b && is_number g.cancel place) h)
    by_test ih true h false e = goes_on ih
        (ap (λ (x : Bool). elim x as (λ _. Forwarding) [ true ↦ elim (is_request g place) as (λ _. Forwarding) [ true ↦ record g { live = Some (bound g.key rest) } | false ↦ elim (is_number g.cancel place) as (λ _. Forwarding) [ true ↦ record g { over = true } | false ↦ g ] ] | false ↦ g ]) h
        ∙ (ap (λ (x : Bool). elim x as (λ _. Forwarding) [ true ↦ record g { live = Some (bound g.key rest) } | false ↦ elim (is_number g.cancel place) as (λ _. Forwarding) [ true ↦ record g { over = true } | false ↦ g ] ]) (not-asked k place key own g asked waits.0 h)
        ∙ ap (λ (x : Bool). elim x as (λ _. Forwarding) [ true ↦ record g { over = true } | false ↦ g ]) e))
        (ap (λ b. b && is_number g.cancel place) h ∙ e)
    by_test ih true h true e =
        ap (λ (x : Forwarding). filter is_on (x ∷ map (after k place (Succeeds rest)) gs))
        (ap (λ (x : Bool). elim x as (λ _. Forwarding) [ true ↦ elim (is_request g place) as (λ _. Forwarding) [ true ↦ record g { live = Some (bound g.key rest) } | false ↦ elim (is_number g.cancel place) as (λ _. Forwarding) [ true ↦ record g { over = true } | false ↦ g ] ] | false ↦ g ]) h
        ∙ (ap (λ (x : Bool). elim x as (λ _. Forwarding) [ true ↦ record g { live = Some (bound g.key rest) } | false ↦ elim (is_number g.cancel place) as (λ _. Forwarding) [ true ↦ record g { over = true } | false ↦ g ] ]) (not-asked k place key own g asked waits.0 h)
        ∙ ap (λ (x : Bool). elim x as (λ _. Forwarding) [ true ↦ record g { over = true } | false ↦ g ]) e))
        ∙ (filter-no is_on (record g { over = true }) (map (after k place (Succeeds rest)) gs) refl
        ∙ (ih ∙ sym (at true (ap (λ b. b && is_number g.cancel place) h ∙ e))))

-- what is known of the one that ends
pub record Ends (g : Forwarding) : Type 0 where
  pub cancel : g.cancel ≡ None
  pub live : is_none g.live ≡ false

ends : (k place : ℕ) (own : ℕ → Places) (gs : List Forwarding) → AllByRecursion (λ g. IsAwaited (own g.client) g) gs → Drops Ends (marks k place gs) (map (released k place) gs)
ends k place own [] waits = tt
ends k place own (g ∷ gs) waits = by_test (ends k place own gs waits.1) (leaves_at k place g) refl
  where
    lives : (o : Option Key) → g.live ≡ o → leaves_at k place g ≡ true → is_none g.live ≡ false
    lives (Some q) e t = ap is_none e
    lives None e t = absurd (let x : None ≡ Some place = sym (waits.0.either e) ∙ number-is g.cancel place (and-right (g.client == k) (is_number g.cancel place) t) in cc)

    by_test : Drops Ends (marks k place gs) (map (released k place) gs) → (b : Bool) → leaves_at k place g ≡ b → Drops Ends (stays_on k place g ∷ marks k place gs) (released k place g ∷ map (released k place) gs)
    by_test ih true t =
        subst (λ (b : Bool). Drops Ends (b ∷ marks k place gs) (released k place g ∷ map (released k place) gs)) (sym (ap not t))
        (subst (λ (x : Forwarding). Ends x × Drops Ends (marks k place gs) (map (released k place) gs)) (sym (released-at k place g true t)) (record { cancel = refl; live = lives g.live refl t }, ih))
    by_test ih false t = subst (λ (b : Bool). Drops Ends (b ∷ marks k place gs) (released k place g ∷ map (released k place) gs)) (sym (ap not t)) ih

ends-wait : (j at : ℕ) (g : Forwarding) → Ends g → WaitsNot j at g
ends-wait j at g e = record {
  asked = ap (λ b. (g.client == j) && (b && (g.request == at))) e.live ∙ no-one (g.client == j);
  leaving = ap (λ o. (g.client == j) && is_number o at) e.cancel ∙ no-one (g.client == j);
}
  where
    no-one : (b : Bool) → (b && false) ≡ false
    no-one true = refl
    no-one false = refl

pub ended-fit : (k : ℕ) (rest : List ℕ) (key : Key) (fs : List Forward) (gs : List Forwarding) (own own' : ℕ → Places) (lost : ℕ → Bool) → AreFit fs gs own lost → Replies k own own' → lost k ≡ false → slice_get (own k).asked (own k).replied ≡ Some (record { client = k; what = full.Cancel key }) → AreFit (cancel_answered k key true fs) (filter is_on (map (after k (own k).replied (Succeeds rest)) gs)) own' lost
ended-fit k rest key fs gs own own' lost fit next here asked =
    let m = meant k key fs gs own lost fit here asked in
    let moved = moved-fit k m.rank key fs gs own own' lost fit next here asked (seen-all k (own k).replied m.rank own fs gs m.known) in
    let bs = marks k (own k).replied gs in
    let drops = ends k (own k).replied own gs fit.awaited in
    subst (λ es. AreFit es (filter is_on (map (after k (own k).replied (Succeeds rest)) gs)) own' lost) (sym (m.answered true ∙ kept-settled k (own k).replied m.rank own fs gs m.known))
    (subst (λ hs. AreFit (kept_by bs (map (without_cancel_of k m.rank) fs)) hs own' lost) (sym (ended-after k (own k).replied rest key own gs asked fit.awaited (on-listed fs gs fit.listed)))
    (kept-fit bs (map (without_cancel_of k m.rank) fs) (map (released k (own k).replied) gs) own' own' lost moved
    (drops-map Ends (λ g. g.cancel ≡ None) (λ g e. e.cancel) bs (map (released k (own k).replied) gs) drops)
    (all-by (λ g. IsAwaited (own' g.client) g) bs (map (released k (own k).replied) gs) moved.awaited)
    (λ j lives at a late got. has-kept at a.what j bs (map (released k (own k).replied) gs) (drops-map Ends (WaitsNot j at) (ends-wait j at) bs (map (released k (own k).replied) gs) drops) (moved.each j lives at a late got))))

-- ---- whatever is answered

plain-fit : (k : ℕ) (m : Summary) (what : full.Global) (fs : List Forward) (gs : List Forwarding) (own own' : ℕ → Places) (lost : ℕ → Bool) → is_neither what ≡ true → AreFit fs gs own lost → Replies k own own' → slice_get (own k).asked (own k).replied ≡ Some (record { client = k; what = what }) → AreFit fs (filter is_on (map (after k (own k).replied m) gs)) own' lost
plain-fit k m what fs gs own own' lost plain fit next asked =
    let idle = neither-idle k (own k).replied what own gs plain asked fit.awaited in
    subst (λ hs. AreFit fs hs own' lost) (sym (ap (filter is_on) (idle-all k (own k).replied m gs idle) ∙ on-all gs (on-listed fs gs fit.listed))) (nobody-fit k fs gs own own' lost fit next idle)

pub success-fit : (k : ℕ) (rest : List ℕ) (what : full.Global) (fs : List Forward) (gs : List Forwarding) (own own' : ℕ → Places) (lost : ℕ → Bool) → AreFit fs gs own lost → Replies k own own' → lost k ≡ false → slice_get (own k).asked (own k).replied ≡ Some (record { client = k; what = what }) → AreFit (after_success k what rest fs) (filter is_on (map (after k (own k).replied (Succeeds rest)) gs)) own' lost
success-fit k rest (full.Forward key) fs gs own own' lost fit next here asked = granted-fit k rest key fs gs own own' lost fit next here asked
success-fit k rest (full.Cancel key) fs gs own own' lost fit next here asked = ended-fit k rest key fs gs own own' lost fit next here asked
success-fit k rest full.KeepAlive fs gs own own' lost fit next here asked = plain-fit k (Succeeds rest) full.KeepAlive fs gs own own' lost refl fit next asked
success-fit k rest full.OtherName fs gs own own' lost fit next here asked = plain-fit k (Succeeds rest) full.OtherName fs gs own own' lost refl fit next asked

pub failure-fit : (k : ℕ) (what : full.Global) (fs : List Forward) (gs : List Forwarding) (own own' : ℕ → Places) (lost : ℕ → Bool) → AreFit fs gs own lost → Replies k own own' → lost k ≡ false → slice_get (own k).asked (own k).replied ≡ Some (record { client = k; what = what }) → AreFit (after_failure k what fs) (filter is_on (map (after k (own k).replied Refuses) gs)) own' lost
failure-fit k (full.Forward key) fs gs own own' lost fit next here asked = refused-fit k key fs gs own own' lost fit next here asked
failure-fit k (full.Cancel key) fs gs own own' lost fit next here asked = released-fit k key fs gs own own' lost fit next here asked
failure-fit k full.KeepAlive fs gs own own' lost fit next here asked = plain-fit k Refuses full.KeepAlive fs gs own own' lost refl fit next asked
failure-fit k full.OtherName fs gs own own' lost fit next here asked = plain-fit k Refuses full.OtherName fs gs own own' lost refl fit next asked
