-- A client at its place in the list.
use Rattle.std.proofs.Common.{◌≡◌, ◌<◌, ◌≤◌, ℕ, zero, suc, Bool, true, false, cond, List, [], ◌∷◌, length, get_or, set, refl, sym, ap, arith}
use Rattle.std.specs.Prelude.{◌==◌}
use Rattle.mux_peers.specs.State.{ClientState}
use Rattle.mux_peers.specs.Among.{at_client, client_index, in_client}

set_head : (b : Bool) (k i : ℕ) (f : ClientState → ClientState) (client x y : ClientState) (clients : List ClientState) → cond b 0 (suc (client_index k clients)) ≡ i → y ≡ f (get_or (client ∷ clients) i x)
    → ((j : ℕ) → client_index k clients ≡ j → y ≡ f (get_or clients j x) → set clients j y ≡ at_client k f clients)
    → set (client ∷ clients) i y ≡ cond b (f client ∷ clients) (client ∷ at_client k f clients)
set_head true k zero f client x y clients e h ih = ap (λ (z : ClientState). z ∷ clients) h
set_head true k (suc i) f client x y clients e h ih = absurd (omega (arith, e))
set_head false k zero f client x y clients e h ih = absurd (omega (arith, e))
set_head false k (suc i) f client x y clients e h ih = ap (λ (rest : List ClientState). client ∷ rest) (ih i (omega (arith, e)) h)

-- a write at a client's place changes its client
pub at_client_set : (k i : ℕ) (f : ClientState → ClientState) (x y : ClientState) (clients : List ClientState) → i ≡ client_index k clients → y ≡ f (get_or clients i x) → set clients i y ≡ at_client k f clients
at_client_set k i f x y [] e h = refl
at_client_set k i f x y (client ∷ clients) e h = set_head (client.peer.number == k) k i f client x y clients (sym e) h (λ j e' h'. at_client_set k j f x y clients (sym e') h')

absent_head : (b : Bool) (k : ℕ) (f : ClientState → ClientState) (client : ClientState) (clients : List ClientState) → suc (length clients) ≤ cond b 0 (suc (client_index k clients)) → (length clients ≤ client_index k clients → clients ≡ at_client k f clients)
    → client ∷ clients ≡ cond b (f client ∷ clients) (client ∷ at_client k f clients)
absent_head true k f client clients le ih = absurd (omega arith)
absent_head false k f client clients le ih = ap (λ (rest : List ClientState). client ∷ rest) (ih (omega arith))

pub at_client_absent : (k : ℕ) (f : ClientState → ClientState) (clients : List ClientState) → length clients ≤ client_index k clients → clients ≡ at_client k f clients
at_client_absent k f [] le = refl
at_client_absent k f (client ∷ clients) le = absent_head (client.peer.number == k) k f client clients le (at_client_absent k f clients)

look_head : {A : Type 0} (none : A) (look : ClientState → A) (b : Bool) (k i : ℕ) (c x : ClientState) (cs : List ClientState) → cond b 0 (suc (client_index k cs)) ≡ i → i < suc (length cs)
    → ((j : ℕ) → client_index k cs ≡ j → j < length cs → in_client none look cs k ≡ look (get_or cs j x))
    → cond b (look c) (in_client none look cs k) ≡ look (get_or (c ∷ cs) i x)
look_head none look true k zero c x cs e lt ih = refl
look_head none look true k (suc i) c x cs e lt ih = absurd (omega (arith, e))
look_head none look false k zero c x cs e lt ih = absurd (omega (arith, e))
look_head none look false k (suc i) c x cs e lt ih = ih i (omega (arith, e)) (omega arith)

-- what is looked up is what stands at the client's place
pub look_at : {A : Type 0} (none : A) (look : ClientState → A) (k i : ℕ) (x : ClientState) (cs : List ClientState) → i ≡ client_index k cs → i < length cs → in_client none look cs k ≡ look (get_or cs i x)
look_at none look k i x [] e lt = absurd (omega arith)
look_at none look k i x (c ∷ cs) e lt = look_head none look (c.peer.number == k) k i c x cs (sym e) lt (λ j e' lt'. look_at none look k j x cs (sym e') lt')

no_head : {A : Type 0} (none : A) (look : ClientState → A) (b : Bool) (k : ℕ) (c : ClientState) (cs : List ClientState) → suc (length cs) ≤ cond b 0 (suc (client_index k cs)) → (length cs ≤ client_index k cs → in_client none look cs k ≡ none)
    → cond b (look c) (in_client none look cs k) ≡ none
no_head none look true k c cs le ih = absurd (omega arith)
no_head none look false k c cs le ih = ih (omega arith)

pub look_absent : {A : Type 0} (none : A) (look : ClientState → A) (k : ℕ) (cs : List ClientState) → length cs ≤ client_index k cs → in_client none look cs k ≡ none
look_absent none look k [] le = refl
look_absent none look k (c ∷ cs) le = no_head none look (c.peer.number == k) k c cs le (look_absent none look k cs)
