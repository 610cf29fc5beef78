-- How many bytes the master's own messages are as frames.
use Rattle.std.proofs.Common.{◌≡◌, ℕ, ◌+◌, ◌*◌, ◌≤◌, List, [], ◌∷◌, ◌++◌, map, length, length-append, true, false, Bool, arith, Option, Some, None}
use Rattle.std.specs.Prelude.{flat_map, is_none}
use Rattle.ssh_fields.specs.Fields.{str, u32}
use Rattle.ssh_grammar.specs.Frames.{frame_payload}
use Rattle.ssh_grammar.specs.Messages.{Key, Path, Tcp}
use Rattle.ssh_grammar.specs.SpellMessage.{cancel_forward, client_is_gone, close, open_failure}
use Rattle.ssh_grammar.specs.declared.numbers.TheConstants.{CONNECT_FAILED}
use Rattle.ssh_grammar.specs.declared.side.Side.TheVariants.{Up}
use Rattle.mux_history.specs.Channels.{Channel, any_by, is_closes, is_confirmed, is_up}
use Rattle.mux_history.specs.Farewell.{cancel_live, leave_channel, leave_forwarding, to_number}
use Rattle.mux_history.specs.Forwardings.{Forwarding}
use Rattle.mux_history.specs.Keys.{bound}
use Rattle.mux_history.specs.Pending.{joined}
use Rattle.mux_bounds.specs.Bounds.{weight}

-- ---- frames

pub frame-weight : (p : List ℕ) → length (frame_payload p) ≡ length p + 5
frame-weight p = omega arith

pub weight-cons : (p : List ℕ) (ps : List (List ℕ)) → weight (p ∷ ps) ≡ length p + 5 + weight ps
weight-cons p ps = let a = length-append (frame_payload p) (joined (map frame_payload ps)) in let b = frame-weight p in omega arith

pub weight-one : (p : List ℕ) → weight (p ∷ []) ≡ length p + 5
weight-one p = let a = weight-cons p [] in omega arith

pub weight-append : (xs ys : List (List ℕ)) → weight (xs ++ ys) ≡ weight xs + weight ys
weight-append [] ys = omega arith
weight-append (x ∷ xs) ys = let a = weight-cons x (xs ++ ys) in let b = weight-cons x xs in let c = weight-append xs ys in omega arith

-- ---- messages of the master

pub close-weight : (s : ℕ) → weight (close s ∷ []) ≡ 10
close-weight s = weight-one (close s)

pub failure-weight : (s reason : ℕ) (text : List ℕ) → weight (open_failure s reason text ∷ []) ≡ length text + 22
failure-weight s reason text = let a = weight-one (open_failure s reason text) in let b = length-append text (str []) in omega arith

-- an address or a path that is short
abbrev pub IsBriefKey : Key → Type 0
IsBriefKey (Tcp address port) = length address ≤ 255
IsBriefKey (Path path) = length path ≤ 255

pub cancel-weight : (key : Key) → IsBriefKey key → weight (cancel_forward key ∷ []) ≤ 308
cancel-weight (Tcp address port) short = let a = weight-one (cancel_forward (Tcp address port)) in let b = length-append address (u32 port) in omega (arith, short)
cancel-weight (Path path) short = let a = weight-one (cancel_forward (Path path)) in omega (arith, short)

pub bound-brief : (key : Key) (rest : List ℕ) → IsBriefKey key → IsBriefKey (bound key rest)
bound-brief (Tcp address port) rest short = short
bound-brief (Path path) rest short = short

-- ---- a farewell

to-weight : (o : Option ℕ) (f : ℕ → List ℕ) (n : ℕ) → ((s : ℕ) → weight (f s ∷ []) ≤ n) → weight (to_number o f) ≤ n
to-weight None f n each = omega arith
to-weight (Some s) f n each = each s

leave-weight : (x : Channel) → weight (leave_channel x) ≤ 36
leave-weight x = by_case (is_confirmed x) (any_by Up is_closes x.acts) (is_up x.by)
  where
    by_case : (a b c : Bool) → weight (elim a as (λ _. List (List ℕ)) [ true ↦ elim b as (λ _. List (List ℕ)) [ true ↦ [] | false ↦ to_number x.remote close ] | false ↦ elim c as (λ _. List (List ℕ)) [ true ↦ [] | false ↦ to_number x.remote (λ s. open_failure s CONNECT_FAILED client_is_gone) ] ]) ≤ 36
    by_case true true c = omega arith
    by_case true false c = to-weight x.remote close 36 (λ s. let a = close-weight s in omega arith)
    by_case false b true = omega arith
    by_case false b false = to-weight x.remote (λ s. open_failure s CONNECT_FAILED client_is_gone) 36 (λ s. let a = failure-weight s CONNECT_FAILED client_is_gone in omega arith)

pub leaves-weight : (xs : List Channel) → weight (flat_map leave_channel xs) ≤ length xs * 36
leaves-weight [] = omega arith
leaves-weight (x ∷ xs) =
    let a = leave-weight x in
    let b = leaves-weight xs in
    let c = weight-append (leave_channel x) (flat_map leave_channel xs) in
    omega arith

-- a key that is short, where there is one
abbrev pub IsBriefLive : Option Key → Type 0
IsBriefLive None = Unit {0}
IsBriefLive (Some key) = IsBriefKey key

-- the key that was asked is short, and so is the one that is live
abbrev pub IsShort : Forwarding → Type 0
IsShort f = IsBriefKey f.key × IsBriefLive f.live

-- each forwarding
abbrev pub EachOf : (Forwarding → Type 0) → List Forwarding → Type 0
EachOf P [] = Unit {0}
EachOf P (f ∷ fs) = P f × EachOf P fs

stop-weight : (f : Forwarding) → IsShort f → weight (leave_forwarding f) ≤ 308
stop-weight f short = by_case (is_none f.cancel)
  where
    by_live : (live : Option Key) → IsBriefLive live → weight (cancel_live live) ≤ 308
    by_live None brief = omega arith
    by_live (Some key) brief = cancel-weight key brief

    by_case : (b : Bool) → weight (elim b as (λ _. List (List ℕ)) [ true ↦ cancel_live f.live | false ↦ [] ]) ≤ 308
    by_case true = by_live f.live short.1
    by_case false = omega arith

pub stops-weight : (fs : List Forwarding) → EachOf IsShort fs → weight (flat_map leave_forwarding fs) ≤ length fs * 308
stops-weight [] short = omega arith
stops-weight (f ∷ fs) short =
    let a = stop-weight f short.0 in
    let b = stops-weight fs short.1 in
    let c = weight-append (leave_forwarding f) (flat_map leave_forwarding fs) in
    omega arith
