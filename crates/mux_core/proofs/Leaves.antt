-- What a farewell makes of the channels of its client: each payload is for one of them, and the
-- cancels for none.
use Rattle.std.proofs.Common.{◌≡◌, ◌<◌, ℕ, List, [], ◌∷◌, ◌++◌, true, false, Bool, refl, ◌∙◌, ap, sym, Option, Some, None, Ok, Result, Err, arith}
use Rattle.std.specs.Prelude.{◌&&◌, is_none, flat_map}
use Rattle.std.specs.List.{AllByRecursion}
use Rattle.ssh_grammar.specs.declared.fault.Bad.{Bad}
use Rattle.ssh_grammar.specs.declared.numbers.TheConstants.{CONNECT_FAILED}
use Rattle.ssh_grammar.specs.declared.side.Side.TheVariants.{Up}
use Rattle.ssh_grammar.specs.Messages.{Key}
use Rattle.ssh_grammar.specs.Messages as full
use Rattle.ssh_grammar.specs.SpellMessage.{cancel_forward, client_is_gone, close, open_failure}
use Rattle.ssh_grammar.proofs.MessageSpelled.{spelled_reads}
use Rattle.mux_history.specs.Summary.{Act, Closes, Fails, Summary, Within, read_summary, reading}
use Rattle.mux_history.specs.Channels.{Channel, any_by, is_closes, is_confirmed, is_channel_held, is_number, is_up, with_up, with_ups}
use Rattle.mux_history.specs.Farewell.{cancel_live, leave_channel, leave_forwarding, to_number}
use Rattle.mux_history.specs.Forwardings.{Forwarding}
use Rattle.mux_history.specs.Laws.{with_act}
use Rattle.mux_history.proofs.Bools.{self}
use Rattle.mux_history.proofs.Readings.{cancel-always, summary-always, summary-ok, reading-ok}
use Rattle.client_teardown.specs.Laws.{channel_after_farewell}

-- ---- a list of payloads

pub ups-append : (ps qs : List (List ℕ)) (x : Channel) → with_ups None (ps ++ qs) x ≡ with_ups None qs (with_ups None ps x)
ups-append [] qs x = refl
ups-append (p ∷ ps) qs x = ups-append ps qs (reading p (λ m. with_up None m x) x)

-- ---- what the master's payloads read as

pub reads-close : (s : ℕ) → s < 4294967296 → read_summary (close s) ≡ Ok (Within s Closes)
reads-close s small = summary-ok (close s) (full.To s full.Close) (spelled_reads (full.To s full.Close) (close s) (record { is_message = (small, tt); flag = 0; boolean = refl; spelled = refl }))

pub reads-failure : (s : ℕ) → s < 4294967296 → read_summary (open_failure s CONNECT_FAILED client_is_gone) ≡ Ok (Within s Fails)
reads-failure s small = summary-ok (open_failure s CONNECT_FAILED client_is_gone) (full.To s (full.OpenFailure CONNECT_FAILED client_is_gone [])) (spelled_reads (full.To s (full.OpenFailure CONNECT_FAILED client_is_gone [])) (open_failure s CONNECT_FAILED client_is_gone) (record { is_message = (small, (omega arith, omega arith, omega arith)); flag = 0; boolean = refl; spelled = refl }))

-- a cancel changes no channel
pub cancel-none : (key : Key) (x : Channel) → with_ups None (cancel_forward key ∷ []) x ≡ x
cancel-none key x = by_read (read_summary (cancel_forward key)) refl
  where
    P : Summary → Type 0
    P m = with_up None m x ≡ x

    by_read : (r : Result Summary Bad) → read_summary (cancel_forward key) ≡ r → (elim r as (λ _. Channel) [ Err e ↦ x | Ok m ↦ with_up None m x ]) ≡ x
    by_read (Err e) h = refl
    by_read (Ok m) h = summary-always (λ g. with_up None g x ≡ x) (cancel_forward key) m (cancel-always (λ g. with_up None g x ≡ x) key (λ q. refl)) h

pub cancels-none : (gs : List Forwarding) (x : Channel) → with_ups None (flat_map leave_forwarding gs) x ≡ x
cancels-none [] x = refl
cancels-none (g ∷ gs) x = ups-append (leave_forwarding g) (flat_map leave_forwarding gs) x ∙ (ap (with_ups None (flat_map leave_forwarding gs)) (one (is_none g.cancel) g.live) ∙ cancels-none gs x)
  where
    one : (b : Bool) (o : Option Key) → with_ups None (elim b as (λ _. List (List ℕ)) [ true ↦ cancel_live o | false ↦ [] ]) x ≡ x
    one true None = refl
    one true (Some key) = cancel-none key x
    one false o = refl

-- ---- one channel's

-- numbers of the server fit in four bytes
abbrev pub HasSmall : Channel → Type 0
HasSmall x = (s : ℕ) → x.remote ≡ Some s → s < 4294967296

-- two channels of which the server's numbers differ
abbrev pub Differ : Channel → Channel → Type 0
Differ x y = (s : ℕ) → is_number x.remote s ≡ true → is_number y.remote s ≡ false

act-up : (s : ℕ) (a : Act) (x : Channel) → (is_number x.remote s && is_channel_held x) ≡ true → with_up None (Within s a) x ≡ with_act Up a x
act-up s a x h = rw (h, with_up) refl

no-act : (s : ℕ) (a : Act) (x : Channel) → is_number x.remote s ≡ false → with_up None (Within s a) x ≡ x
no-act s a x h = rw (ap (λ b. b && is_channel_held x) h, with_up) refl

-- what is sent for a channel: nothing, or one act under its number
named : (x : Channel) (s : ℕ) → x.remote ≡ Some s → is_number x.remote s ≡ true
named x s h = ap (λ o. is_number o s) h ∙ self s

pub leave-own : (x : Channel) → HasSmall x → is_channel_held x ≡ true → (is_confirmed x ≡ true → is_none x.remote ≡ false) → (is_up x.by ≡ false → is_none x.remote ≡ false) → with_ups None (leave_channel x) x ≡ channel_after_farewell x
leave-own x small held both open_ = by_confirmed (is_confirmed x) refl (any_by Up is_closes x.acts) (is_up x.by) refl x.remote refl
  where
    one : (s : ℕ) (a : Act) (p : List ℕ) → x.remote ≡ Some s → read_summary p ≡ Ok (Within s a) → with_ups None (p ∷ []) x ≡ with_act Up a x
    one s a p h e = reading-ok p (Within s a) (λ m. with_up None m x) x e ∙ act-up s a x (ap (λ b. b && is_channel_held x) (named x s h) ∙ held)

    by_confirmed : (b : Bool) → is_confirmed x ≡ b → (c d : Bool) → is_up x.by ≡ d → (o : Option ℕ) → x.remote ≡ o
        → with_ups None (elim b as (λ _. List (List ℕ)) [ true ↦ elim c as (λ _. List (List ℕ)) [ true ↦ [] | false ↦ to_number o close ] | false ↦ elim d as (λ _. List (List ℕ)) [ true ↦ [] | false ↦ to_number o (λ s. open_failure s CONNECT_FAILED client_is_gone) ] ]) x
        ≡ elim b as (λ _. Channel) [ true ↦ elim c as (λ _. Channel) [ true ↦ x | false ↦ with_act Up Closes x ] | false ↦ elim d as (λ _. Channel) [ true ↦ x | false ↦ with_act Up Fails x ] ]
    by_confirmed true b true d e o h = refl
    by_confirmed true b false d e None h = absurd (let z : is_none x.remote ≡ true = ap is_none h in let y = sym z ∙ both b in cc)
    by_confirmed true b false d e (Some s) h = one s Closes (close s) h (reads-close s (small s h))
    by_confirmed false b c true e o h = refl
    by_confirmed false b c false e None h = absurd (let z : is_none x.remote ≡ true = ap is_none h in let y = sym z ∙ open_ e in cc)
    by_confirmed false b c false e (Some s) h = one s Fails (open_failure s CONNECT_FAILED client_is_gone) h (reads-failure s (small s h))

pub leave-other : (y x : Channel) → HasSmall y → Differ y x → with_ups None (leave_channel y) x ≡ x
leave-other y x small differ = by_confirmed (is_confirmed y) (any_by Up is_closes y.acts) (is_up y.by) y.remote refl
  where
    one : (s : ℕ) (a : Act) (p : List ℕ) → y.remote ≡ Some s → read_summary p ≡ Ok (Within s a) → with_ups None (p ∷ []) x ≡ x
    one s a p h e = reading-ok p (Within s a) (λ m. with_up None m x) x e ∙ no-act s a x (differ s (named y s h))

    by_confirmed : (b c d : Bool) (o : Option ℕ) → y.remote ≡ o → with_ups None (elim b as (λ _. List (List ℕ)) [ true ↦ elim c as (λ _. List (List ℕ)) [ true ↦ [] | false ↦ to_number o close ] | false ↦ elim d as (λ _. List (List ℕ)) [ true ↦ [] | false ↦ to_number o (λ s. open_failure s CONNECT_FAILED client_is_gone) ] ]) x ≡ x
    by_confirmed true true d o h = refl
    by_confirmed true false d None h = refl
    by_confirmed true false d (Some s) h = one s Closes (close s) h (reads-close s (small s h))
    by_confirmed false c true o h = refl
    by_confirmed false c false None h = refl
    by_confirmed false c false (Some s) h = one s Fails (open_failure s CONNECT_FAILED client_is_gone) h (reads-failure s (small s h))

-- ---- all of them

-- a farewell's channels are apart by the server's numbers
abbrev pub AllDiffer : List Channel → Type 0
AllDiffer [] = Unit {0}
AllDiffer (x ∷ xs) = AllByRecursion (λ y. Differ x y × Differ y x) xs × AllDiffer xs

-- what is known of each
pub record Leaving (x : Channel) : Type 0 where
  pub small : HasSmall x
  pub held : is_channel_held x ≡ true
  pub both : is_confirmed x ≡ true → is_none x.remote ≡ false
  pub opened : is_up x.by ≡ false → is_none x.remote ≡ false

none-of-them : (ys : List Channel) (x : Channel) → AllByRecursion Leaving ys → AllByRecursion (λ y. Differ y x) ys → with_ups None (flat_map leave_channel ys) x ≡ x
none-of-them [] x known differ = refl
none-of-them (y ∷ ys) x known differ = ups-append (leave_channel y) (flat_map leave_channel ys) x ∙ (ap (with_ups None (flat_map leave_channel ys)) (leave-other y x known.0.small differ.0) ∙ none-of-them ys x known.1 differ.1)

left-remote : (x : Channel) → (channel_after_farewell x).remote ≡ x.remote
left-remote x = by_confirmed (is_confirmed x) (any_by Up is_closes x.acts) (is_up x.by)
  where
    by_confirmed : (b c d : Bool) → (elim b as (λ _. Channel) [ true ↦ elim c as (λ _. Channel) [ true ↦ x | false ↦ with_act Up Closes x ] | false ↦ elim d as (λ _. Channel) [ true ↦ x | false ↦ with_act Up Fails x ] ]).remote ≡ x.remote
    by_confirmed true true d = refl
    by_confirmed true false d = refl
    by_confirmed false c true = refl
    by_confirmed false c false = refl

all-same : {X : Type 0} (P Q : X → Type 0) → ((x : X) → P x → Q x) → (xs : List X) → AllByRecursion P xs → AllByRecursion Q xs
all-same P Q each [] all = tt
all-same P Q each (x ∷ xs) all = (each x all.0, all-same P Q each xs all.1)

both-all : (P Q R : Channel → Type 0) → ((x : Channel) → P x → Q x → R x) → (xs : List Channel) → AllByRecursion P xs → AllByRecursion Q xs → AllByRecursion R xs
both-all P Q R each [] a b = tt
both-all P Q R each (x ∷ xs) a b = (each x a.0 b.0, both-all P Q R each xs a.1 b.1)

-- each of them is left by its own payload alone
pub each-left : (ys : List Channel) → AllByRecursion Leaving ys → AllDiffer ys → AllByRecursion (λ x. with_ups None (flat_map leave_channel ys) x ≡ channel_after_farewell x) ys
each-left [] known differ = tt
each-left (y ∷ ys) known differ = (first, both-all (λ x. Differ y x × Differ x y) (λ x. with_ups None (flat_map leave_channel ys) x ≡ channel_after_farewell x) (λ x. with_ups None (flat_map leave_channel (y ∷ ys)) x ≡ channel_after_farewell x) later ys differ.0 (each-left ys known.1 differ.1))
  where
    first : with_ups None (flat_map leave_channel (y ∷ ys)) y ≡ channel_after_farewell y
    first =
        ups-append (leave_channel y) (flat_map leave_channel ys) y
        ∙ (ap (with_ups None (flat_map leave_channel ys)) (leave-own y known.0.small known.0.held known.0.both known.0.opened)
        ∙ none-of-them ys (channel_after_farewell y) known.1 (all-same (λ x. Differ y x × Differ x y) (λ x. Differ x (channel_after_farewell y)) (λ x d s h. ap (λ o. is_number o s) (left-remote y) ∙ d.1 s h) ys differ.0))

    later : (x : Channel) → Differ y x × Differ x y → with_ups None (flat_map leave_channel ys) x ≡ channel_after_farewell x → with_ups None (flat_map leave_channel (y ∷ ys)) x ≡ channel_after_farewell x
    later x d ih = ups-append (leave_channel y) (flat_map leave_channel ys) x ∙ (ap (with_ups None (flat_map leave_channel ys)) (leave-other y x known.0.small d.0) ∙ ih)

-- with the cancels after
pub all-left : (ys : List Channel) (gs : List Forwarding) → AllByRecursion Leaving ys → AllDiffer ys → AllByRecursion (λ x. with_ups None (flat_map leave_channel ys ++ flat_map leave_forwarding gs) x ≡ channel_after_farewell x) ys
all-left ys gs known differ = all-same (λ x. with_ups None (flat_map leave_channel ys) x ≡ channel_after_farewell x) (λ x. with_ups None (flat_map leave_channel ys ++ flat_map leave_forwarding gs) x ≡ channel_after_farewell x) (λ x h. ups-append (flat_map leave_channel ys) (flat_map leave_forwarding gs) x ∙ (cancels-none gs (with_ups None (flat_map leave_channel ys) x) ∙ h)) ys (each-left ys known differ)
