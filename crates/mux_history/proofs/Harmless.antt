-- What the master writes of its own carries no data and brings no number.
use Rattle.std.proofs.Common.{◌≡◌, ℕ, List, [], ◌∷◌, ◌++◌, length, true, false, Bool, Option, Some, None, Ok, Err, refl, subst, sym}
use Rattle.std.specs.Prelude.{filter, not, Result, flat_map, nat_lt, is_none, codes}
use Rattle.mux_history.specs.Channels.{Channel, any_by, held_of, is_closes, is_confirmed, is_up}
use Rattle.mux_history.specs.Farewell.{cancel_live, farewell, late, late_refusal, late_success, leave_channel, leave_forwarding, to_number, with_ask}
use Rattle.mux_history.specs.Forwardings.{Forwarding, forwarded, forwardings_of}
use Rattle.mux_history.specs.Summary.{Closes, Confirmation, Fails, Summary, Open, Refuses, Requests, Succeeds, Within, read_summary}
use Rattle.mux_history.specs.Heard.{for_client, for_lost, for_master, received_for, received_summary, received_master}
use Rattle.mux_history.specs.Kept.{Cancelling, ClientIsGone, Closing, Every, IsMasters, NotPermitted, OwnWord, Refusal, TooManyChannels, spelled_word}
use Rattle.mux_history.specs.Keys.{bound}
use Rattle.mux_history.specs.Requests.{Ask, asker}
use Rattle.mux_history.specs.Rows.{Row, is_lost}
use Rattle.mux_history.specs.Said.{Outcome, sends_payload, silent, records}
use Rattle.ssh_fields.specs.Fields.{str, u32}
use Rattle.ssh_grammar.specs.Frames.{frame_payload}
use Rattle.ssh_grammar.specs.Messages.{Cancel, Forward, Global, Key}
use Rattle.ssh_grammar.specs.SpellMessage.{cancel_forward, close, open_failure, request_failure}
use Rattle.ssh_grammar.specs.declared.fault.Bad.{Bad}
use Rattle.ssh_grammar.specs.declared.side.Side.TheVariants.{Up}
use Rattle.mux_history.proofs.Readings.{cancel-always, close-always, failure-always, summary-always}

-- a refused request, a failed open, a close, or a cancel
abbrev pub IsHarmless : Summary → Type 0
IsHarmless (Within s Closes) = Unit {0}
IsHarmless (Within s Fails) = Unit {0}
IsHarmless (Requests (Cancel key) wants) = Unit {0}
IsHarmless Refuses = Unit {0}
IsHarmless m = ⊥

abbrev pub Harmless : List ℕ → Type 0
Harmless q = (m : Summary) → read_summary q ≡ Ok m → IsHarmless m

harmless-close : (s : ℕ) → Harmless (close s)
harmless-close s m reads = summary-always IsHarmless (close s) m (close-always IsHarmless (u32 s) (λ n. tt)) reads

harmless-refusal : Harmless request_failure
harmless-refusal m reads = summary-always IsHarmless request_failure m tt reads

pub harmless-failure : (s reason : ℕ) (text : List ℕ) → Harmless (open_failure s reason text)
harmless-failure s reason text m reads = summary-always IsHarmless (open_failure s reason text) m (failure-always IsHarmless (u32 s ++ (u32 reason ++ (str text ++ str []))) (λ n. tt)) reads

harmless-cancel : (key : Key) → Harmless (cancel_forward key)
harmless-cancel key m reads = summary-always IsHarmless (cancel_forward key) m (cancel-always IsHarmless key (λ key. tt)) reads

pub every-append : (P : List ℕ → Type 0) (xs ys : List (List ℕ)) → Every P xs → Every P ys → Every P (xs ++ ys)
every-append P [] ys a b = b
every-append P (x ∷ xs) ys a b = (a.0, every-append P xs ys a.1 b)

pub every-of : (P Q : List ℕ → Type 0) → ((q : List ℕ) → P q → Q q) → (xs : List (List ℕ)) → Every P xs → Every Q xs
every-of P Q step [] a = tt
every-of P Q step (x ∷ xs) a = (step x a.0, every-of P Q step xs a.1)

-- each word of the master's
harmless-word : (word : OwnWord) → Harmless (spelled_word word)
harmless-word Refusal = harmless-refusal
harmless-word (Closing s) = harmless-close s
harmless-word (NotPermitted s) = harmless-failure s 1 (codes "not permitted")
harmless-word (TooManyChannels s) = harmless-failure s 4 (codes "too many channels")
harmless-word (ClientIsGone s) = harmless-failure s 2 (codes "client is gone")
harmless-word (Cancelling key) = harmless-cancel key

pub harmless-of : (q : List ℕ) → IsMasters q → Harmless q
harmless-of q masters = subst Harmless (sym masters.1) (harmless-word masters.0)

pub harmless-each : (qs : List (List ℕ)) → Every IsMasters qs → Every Harmless qs
harmless-each qs each = every-of IsMasters Harmless harmless-of qs each

-- ---- what is sent is one of them

pub every-to : (o : Option ℕ) (f : ℕ → List ℕ) → ((n : ℕ) → IsMasters (f n)) → Every IsMasters (to_number o f)
every-to None f each = tt
every-to (Some n) f each = (each n, tt)

pub masters-part : (x : Channel) → Every IsMasters (leave_channel x)
masters-part x = by_case (is_confirmed x) (any_by Up is_closes x.acts) (is_up x.by)
  where
    by_case : (a b c : Bool) → Every IsMasters (elim a as (λ _. List (List ℕ)) [ true ↦ elim b as (λ _. List (List ℕ)) [ true ↦ [] | false ↦ to_number x.remote close ] | false ↦ elim c as (λ _. List (List ℕ)) [ true ↦ [] | false ↦ to_number x.remote (λ s. open_failure s 2 (codes "client is gone")) ] ])
    by_case true true c = tt
    by_case true false c = every-to x.remote close (λ s. (Closing s, refl))
    by_case false b true = tt
    by_case false b false = every-to x.remote (λ s. open_failure s 2 (codes "client is gone")) (λ s. (ClientIsGone s, refl))

pub masters-parts : (xs : List Channel) → Every IsMasters (flat_map leave_channel xs)
masters-parts [] = tt
masters-parts (x ∷ xs) = every-append IsMasters (leave_channel x) (flat_map leave_channel xs) (masters-part x) (masters-parts xs)

pub masters-forwarding : (f : Forwarding) → Every IsMasters (leave_forwarding f)
masters-forwarding f = by_case (is_none f.cancel)
  where
    by_live : (live : Option Key) → Every IsMasters (cancel_live live)
    by_live None = tt
    by_live (Some key) = ((Cancelling key, refl), tt)

    by_case : (b : Bool) → Every IsMasters (elim b as (λ _. List (List ℕ)) [ true ↦ cancel_live f.live | false ↦ [] ])
    by_case true = by_live f.live
    by_case false = tt

pub masters-forwardings : (fs : List Forwarding) → Every IsMasters (flat_map leave_forwarding fs)
masters-forwardings [] = tt
masters-forwardings (f ∷ fs) = every-append IsMasters (leave_forwarding f) (flat_map leave_forwarding fs) (masters-forwarding f) (masters-forwardings fs)

pub masters-farewell : (row : Row) (own : List Row) → Every IsMasters (farewell row own)
masters-farewell row own = every-append IsMasters (flat_map leave_channel (held_of (row ∷ own))) _ (masters-parts (held_of (row ∷ own))) (masters-forwardings (filter (λ (f : Forwarding). not f.over) (forwarded row own (forwardings_of own))))

pub masters-asked : (o : Option Ask) (f : Global → List (List ℕ)) → ((g : Global) → Every IsMasters (f g)) → Every IsMasters (with_ask o f)
masters-asked None f each = tt
masters-asked (Some a) f each = each a.what

pub masters-success : (rest : List ℕ) (g : Global) → Every IsMasters (late_success rest g)
masters-success rest (Forward key) = ((Cancelling (bound key rest), refl), tt)
masters-success rest g = tt

pub masters-late-refusal : (g : Global) → Every IsMasters (late_refusal g)
masters-late-refusal (Cancel key) = ((Cancelling key, refl), tt)
masters-late-refusal g = tt

pub masters-late : (m : Summary) (own : List Row) → Every IsMasters (late m own)
masters-late (Confirmation n s w m) own = ((Closing s, refl), tt)
masters-late (Succeeds rest) own = masters-asked (asker own) (late_success rest) (masters-success rest)
masters-late Refuses own = masters-asked (asker own) late_refusal masters-late-refusal
masters-late m own = tt

pub masters-heard : (own : List Row) (p : List ℕ) → Every IsMasters (received_for own p).sent
masters-heard own p = by_case (read_summary p)
  where
    by_message : (m : Summary) → Every IsMasters (for_client own p m).sent
    by_message (Open what s w max) = elim (nat_lt (length (held_of own)) 256) as (λ b. Every IsMasters (elim b as (λ _. Outcome) [ true ↦ records (frame_payload p) | false ↦ sends_payload (open_failure s 4 (codes "too many channels")) ]).sent) [ true ↦ tt | false ↦ ((TooManyChannels s, refl), tt) ]
    by_message (Confirmation n s w max) = tt
    by_message (Within n act) = tt
    by_message m = tt

    by_lost : (m : Summary) (b : Bool) → Every IsMasters (elim b as (λ _. Outcome) [ true ↦ for_lost own m | false ↦ for_client own p m ]).sent
    by_lost m true = masters-late m own
    by_lost m false = by_message m

    by_case : (r : Result Summary Bad) → Every IsMasters (elim r as (λ _. Outcome) [ Err bad ↦ silent | Ok m ↦ received_summary own p m ]).sent
    by_case (Err bad) = tt
    by_case (Ok m) = by_lost m (is_lost own)

pub masters-master : (p : List ℕ) → Every IsMasters (received_master p).sent
masters-master p = by_case (read_summary p)
  where
    by_message : (m : Summary) → Every IsMasters (for_master m).sent
    by_message (Requests what true) = ((Refusal, refl), tt)
    by_message (Open what s w max) = ((NotPermitted s, refl), tt)
    by_message m = tt

    by_case : (r : Result Summary Bad) → Every IsMasters (elim r as (λ _. Outcome) [ Err bad ↦ silent | Ok m ↦ for_master m ]).sent
    by_case (Err bad) = tt
    by_case (Ok m) = by_message m

pub harmless-heard : (own : List Row) (p : List ℕ) → Every Harmless (received_for own p).sent
harmless-heard own p = harmless-each (received_for own p).sent (masters-heard own p)

pub harmless-master : (p : List ℕ) → Every Harmless (received_master p).sent
harmless-master p = harmless-each (received_master p).sent (masters-master p)
