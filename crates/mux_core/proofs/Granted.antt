-- The server's success to a forwarding's request: the first that its client has asked with that key
-- is live.
use Rattle.std.proofs.Common.{◌≡◌, ◌≤◌, ◌<◌, ℕ, List, [], ◌∷◌, map, true, false, Bool, refl, ◌∙◌, ap, sym, subst, Option, Some, None, arith}
use Rattle.std.specs.Prelude.{find, ◌==◌, ◌&&◌, not, is_some, is_none, slice_get, unwrap_or}
use Rattle.std.specs.List.{AllByRecursion}
use Rattle.std.proofs.lemmas.Bool.Decides.{nat_tests}
use Rattle.ssh_fields.specs.Fields.{u32_at}
use Rattle.ssh_grammar.specs.Messages.{Key, Tcp, Path}
use Rattle.ssh_grammar.specs.Messages as full
use Rattle.mux_history.specs.Keys.{bound, is_key}
use Rattle.mux_history.specs.Forwardings.{Forwarding}
use Rattle.mux_history.specs.Requests.{Ask}
use Rattle.mux_history.proofs.Bools.{same-number}
use Rattle.mux_history.proofs.SameKeys.{is-key}
use Rattle.mux_history.proofs.Finds.{find-no}
use Rattle.conn_messages.specs.Keys.{key_with_port}
use Rattle.forward_rules.specs.State.{Forward}
use Rattle.forward_rules.specs.Step.{change_first_forward, is_asked_with_key}
use Rattle.forward_rules.specs.Stands.{AreForwardsListed, AreTwoPlaces, EachTwo, ForwardingFits, IsAwaited, Places}

-- the one that was asked at this place by this client
abbrev pub asks_at : ℕ → ℕ → Forwarding → Bool
asks_at k place g = (g.client == k) && (is_none g.live && (g.request == place))

-- it is live, under the port in the reply where it asked for any
abbrev pub granted : ℕ → ℕ → List ℕ → Forwarding → Forwarding
granted k place rest g = elim (asks_at k place g) [ true ↦ record g { live = Some (bound g.key rest) } | false ↦ g ]

abbrev pub is_granted : ℕ → Forward → Forward
is_granted port f = record f { live = true; key = key_with_port port f.key }

-- the key is the same
pub same-bound : (key : Key) (rest : List ℕ) → key_with_port (u32_at 0 rest) key ≡ bound key rest
same-bound (Tcp address port) rest = refl
same-bound (Path path) rest = refl

-- what is known of each: of this client's, what is asked waits at that request
abbrev pub Waiting : ℕ → Places → Forwarding → Type 0
Waiting k own g = (g.client == k) ≡ true → IsAwaited own g

same-place : (a b : Ask) → Some a ≡ Some b → a ≡ b
same-place a b h = cc

pub none-is : (o : Option Key) → is_none o ≡ true → o ≡ None
none-is None h = refl
none-is (Some n) h = absurd (cc)

-- the key of the one that is granted is that of the request
pub asked-key : (k place : ℕ) (key : Key) (own : Places) (f : Forward) (g : Forwarding) → ForwardingFits f g → IsAwaited own g → slice_get own.asked place ≡ Some (record { client = k; what = full.Forward key }) → (g.client == k) ≡ true → is_none g.live ≡ true → (g.request == place) ≡ true → is_asked_with_key k key f ≡ true
asked-key k place key own f g fits waits asked mine idle at =
    let none = none-is g.live idle in
    let here : slice_get own.asked place ≡ Some (record { client = g.client; what = full.Forward g.key }) = subst (λ i. slice_get own.asked i ≡ Some (record { client = g.client; what = full.Forward g.key })) (same-number g.request place at) (waits.asked none).1 in
    let what : full.Forward key ≡ full.Forward g.key = ap (λ (a : Ask). a.what) (same-place (record { client = k; what = full.Forward key }) (record { client = g.client; what = full.Forward g.key }) (sym asked ∙ here)) in
    let keys : key ≡ g.key = cc in
    let client : (f.client == k) ≡ true = ap (λ i. i == k) fits.client ∙ mine in
    let live : f.live ≡ false = fits.live ∙ ap is_some none in
    let same : f.key ≡ key = fits.key ∙ (ap (λ o. unwrap_or o g.key) none ∙ sym keys) in
    ap (λ b. b && (not f.live && is_key f.key key)) client
    ∙ (ap (λ b. not b && is_key f.key key) live
    ∙ is-key f.key key same)

-- none of those that come later waits there
pub later-none : (k place : ℕ) (rest : List ℕ) (g : Forwarding) (gs : List Forwarding) → (g.client == k) ≡ true → is_none g.live ≡ true → (g.request == place) ≡ true → AllByRecursion (AreTwoPlaces g) gs → map (granted k place rest) gs ≡ gs
later-none k place rest g [] mine idle at two = refl
later-none k place rest g (h ∷ hs) mine idle at two = ap (λ x. x ∷ map (granted k place rest) hs) (one (h.client == k) refl (is_none h.live) refl (h.request == place) refl) ∙ ap (λ xs. h ∷ xs) (later-none k place rest g hs mine idle at two.1)
  where
    past : (a b c : ℕ) → (a == c) ≡ true → (b == c) ≡ true → a < b → ⊥
    past a b c p q lt = grind (arith, nat_tests)

    same : (b c d : Bool) → (h.client == k) ≡ b → is_none h.live ≡ c → (h.request == place) ≡ d → (b && (c && d)) ≡ false → granted k place rest h ≡ h
    same b c d p q r e = rw (ap (λ x. x && (is_none h.live && (h.request == place))) p ∙ (ap (λ x. b && (x && (h.request == place))) q ∙ (ap (λ x. b && (c && x)) r ∙ e)), granted) refl

    one : (b : Bool) → (h.client == k) ≡ b → (c : Bool) → is_none h.live ≡ c → (d : Bool) → (h.request == place) ≡ d → granted k place rest h ≡ h
    one true p true q true r = absurd (past g.request h.request place at r (two.0.asked (same-number g.client k mine ∙ sym (same-number h.client k p)) (none-is g.live idle) (none-is h.live q)))
    one false p c q d r = same false c d p q r refl
    one true p false q d r = same true false d p q r refl
    one true p true q false r = same true true false p q r refl

-- one that is found in the rest was asked before none of the front
pub before : (k place : ℕ) (g : Forwarding) (gs : List Forwarding) → (g.client == k) ≡ true → is_none g.live ≡ true → place ≤ g.request → AllByRecursion (AreTwoPlaces g) gs → is_some (find (asks_at k place) gs) ≡ true → ⊥
before k place g [] mine idle le two there = cc
before k place g (h ∷ hs) mine idle le two there = by_case (before k place g hs mine idle le two.1) (asks_at k place h) refl
  where
    left : (a b : Bool) → (a && b) ≡ true → a ≡ true
    left true b e = refl
    left false b e = cc

    right : (a b : Bool) → (a && b) ≡ true → b ≡ true
    right true b e = e
    right false b e = cc

    late : (a b : ℕ) → b ≤ a → (c : ℕ) → (c == b) ≡ true → a < c → ⊥
    late a b le c e lt = grind (arith, nat_tests)

    by_case : (is_some (find (asks_at k place) hs) ≡ true → ⊥) → (b : Bool) → asks_at k place h ≡ b → ⊥
    by_case ih true t =
        let client = left (h.client == k) (is_none h.live && (h.request == place)) t in
        let rest = right (h.client == k) (is_none h.live && (h.request == place)) t in
        late g.request place le h.request (right (is_none h.live) (h.request == place) rest) (two.0.asked (same-number g.client k mine ∙ sym (same-number h.client k client)) (none-is g.live idle) (none-is h.live (left (is_none h.live) (h.request == place) rest)))
    by_case ih false t = ih (sym (ap is_some (find-no (asks_at k place) h hs t)) ∙ there)

pub granted-listed : (k place : ℕ) (rest : List ℕ) (key : Key) (own : Places) (fs : List Forward) (gs : List Forwarding) → AreForwardsListed fs gs → AllByRecursion (Waiting k own) gs → EachTwo gs → own.replied ≡ place → slice_get own.asked place ≡ Some (record { client = k; what = full.Forward key }) → is_some (find (asks_at k place) gs) ≡ true → AreForwardsListed (change_first_forward (is_asked_with_key k key) (is_granted (u32_at 0 rest)) fs) (map (granted k place rest) gs)
granted-listed k place rest key own [] [] listed waits two at asked there = tt
granted-listed k place rest key own [] (g ∷ gs) listed waits two at asked there = absurd listed
granted-listed k place rest key own (f ∷ fs) [] listed waits two at asked there = absurd listed
granted-listed k place rest key own (f ∷ fs) (g ∷ gs) listed waits two at asked there = by_case (granted-listed k place rest key own fs gs listed.1 waits.1 two.1 at asked) (g.client == k) refl (is_none g.live) refl (g.request == place) refl
  where
    passes : (b c d : Bool) → (g.client == k) ≡ b → is_none g.live ≡ c → (g.request == place) ≡ d → asks_at k place g ≡ (b && (c && d))
    passes b c d p q r = ap (λ x. x && (is_none g.live && (g.request == place))) p ∙ (ap (λ x. b && (x && (g.request == place))) q ∙ ap (λ x. b && (c && x)) r)

    not-first : is_asked_with_key k key f ≡ false → asks_at k place g ≡ false → AreForwardsListed (change_first_forward (is_asked_with_key k key) (is_granted (u32_at 0 rest)) fs) (map (granted k place rest) gs) → AreForwardsListed (change_first_forward (is_asked_with_key k key) (is_granted (u32_at 0 rest)) (f ∷ fs)) (map (granted k place rest) (g ∷ gs))
    not-first unasked miss tail =
        subst (λ xs. AreForwardsListed xs (map (granted k place rest) (g ∷ gs))) (sym (ap (λ (b : Bool). elim b as (λ _. List Forward) [ true ↦ is_granted (u32_at 0 rest) f ∷ fs | false ↦ f ∷ change_first_forward (is_asked_with_key k key) (is_granted (u32_at 0 rest)) fs ]) unasked))
        (subst (λ x. AreForwardsListed (f ∷ change_first_forward (is_asked_with_key k key) (is_granted (u32_at 0 rest)) fs) (x ∷ map (granted k place rest) gs)) (sym (ap (λ (b : Bool). elim b as (λ _. Forwarding) [ true ↦ record g { live = Some (bound g.key rest) } | false ↦ g ]) miss)) (listed.0, tail))

    by_case : (is_some (find (asks_at k place) gs) ≡ true → AreForwardsListed (change_first_forward (is_asked_with_key k key) (is_granted (u32_at 0 rest)) fs) (map (granted k place rest) gs)) → (b : Bool) → (g.client == k) ≡ b → (c : Bool) → is_none g.live ≡ c → (d : Bool) → (g.request == place) ≡ d → AreForwardsListed (change_first_forward (is_asked_with_key k key) (is_granted (u32_at 0 rest)) (f ∷ fs)) (map (granted k place rest) (g ∷ gs))
    by_case ih true p true q true r =
        subst (λ xs. AreForwardsListed xs (map (granted k place rest) (g ∷ gs))) (sym (ap (λ (b : Bool). elim b as (λ _. List Forward) [ true ↦ is_granted (u32_at 0 rest) f ∷ fs | false ↦ f ∷ change_first_forward (is_asked_with_key k key) (is_granted (u32_at 0 rest)) fs ]) (asked-key k place key own f g listed.0 (waits.0 p) asked p q r)))
        (subst (λ x. AreForwardsListed (is_granted (u32_at 0 rest) f ∷ fs) (x ∷ map (granted k place rest) gs)) (sym (ap (λ (b : Bool). elim b as (λ _. Forwarding) [ true ↦ record g { live = Some (bound g.key rest) } | false ↦ g ]) (passes true true true p q r)))
        (record { client = listed.0.client; key = ap (key_with_port (u32_at 0 rest)) (listed.0.key ∙ ap (λ o. unwrap_or o g.key) (none-is g.live q)) ∙ same-bound g.key rest; live = refl; cancel = listed.0.cancel; on = listed.0.on }, subst (AreForwardsListed fs) (sym (later-none k place rest g gs p q r two.0)) listed.1))
    by_case ih true p true q false r =
        let tail : is_some (find (asks_at k place) gs) ≡ true = sym (ap is_some (find-no (asks_at k place) g gs (passes true true false p q r))) ∙ there in
        absurd (before k place g gs p q (subst (λ n. n ≤ g.request) at ((waits.0 p).asked (none-is g.live q)).0) two.0 tail)
    by_case ih true p false q d r =
        let tail : is_some (find (asks_at k place) gs) ≡ true = sym (ap is_some (find-no (asks_at k place) g gs (passes true false d p q r))) ∙ there in
        not-first (ap (λ b. (f.client == k) && (not b && is_key f.key key)) (listed.0.live ∙ some-of g.live q) ∙ never (f.client == k)) (passes true false d p q r) (ih tail)
      where
        some-of : (o : Option Key) → is_none o ≡ false → is_some o ≡ true
        some-of None h = absurd (cc)
        some-of (Some n) h = refl

        never : (b : Bool) → (b && false) ≡ false
        never true = refl
        never false = refl
    by_case ih false p c q d r =
        let tail : is_some (find (asks_at k place) gs) ≡ true = sym (ap is_some (find-no (asks_at k place) g gs (passes false c d p q r))) ∙ there in
        not-first (ap (λ b. b && (not f.live && is_key f.key key)) (ap (λ i. i == k) listed.0.client ∙ p)) (passes false c d p q r) (ih tail)
