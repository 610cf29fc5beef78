-- The frame of a request about a forwarding, field by field.
use Rattle.std.proofs.Common.{◌≡◌, ap, arith, ℕ, ◌+◌, Bool, true, false, List, ◌++◌, length, length-append, append_assoc, ◌∙◌, sym}
use Rattle.ssh_fields.specs.Fields.{u32, str}
use Rattle.ssh_grammar.specs.declared.numbers.TheConstants as number
use Rattle.ssh_grammar.specs.SpellControl.{spell_ask}
use Rattle.mux_outside.specs.declared.start_ask.StartAsk.{StartAsk}
use Rattle.mux_client.specs.Requests.{forward_of, forward_kind, forward_request, request_frame}

-- the fields
abbrev pub fields_of : ℕ → ℕ → StartAsk → List ℕ
fields_of kind id a = u32 kind ++ (u32 id ++ spell_ask (forward_of a))

size : (kind id : ℕ) (a : StartAsk) → length (fields_of kind id a) ≡ 28 + length a.listen_host + length a.connect_host
size kind id a =
    omega (
      arith,
      length-append a.listen_host (u32 a.listen_port ++ (str a.connect_host ++ u32 a.connect_port)),
      length-append a.connect_host (u32 a.connect_port),
    )

pub forward_frame : (opening : Bool) (id : ℕ) (a : StartAsk)
    → request_frame id (forward_request opening a)
    ≡ u32 (28 + length a.listen_host + length a.connect_host) ++ fields_of (forward_kind opening) id a
forward_frame true id a = ap (λ n. u32 n ++ fields_of number.OPEN_FWD id a) (size number.OPEN_FWD id a)
forward_frame false id a = ap (λ n. u32 n ++ fields_of number.CLOSE_FWD id a) (size number.CLOSE_FWD id a)

-- one part after the other
joined : (out a b c d e f g h : List ℕ)
    → (((((((out ++ a) ++ b) ++ c) ++ d) ++ e) ++ f) ++ g) ++ h
    ≡ out ++ (a ++ (b ++ (c ++ (d ++ (e ++ (f ++ (g ++ h)))))))
joined out a b c d e f g h = simp append_assoc

parts : (out a b c d e f g h o1 o2 o3 o4 o5 o6 o7 o8 : List ℕ)
    → o1 ≡ out ++ a → o2 ≡ o1 ++ b → o3 ≡ o2 ++ c → o4 ≡ o3 ++ d → o5 ≡ o4 ++ e → o6 ≡ o5 ++ f
    → o7 ≡ o6 ++ g → o8 ≡ o7 ++ h
    → o8 ≡ out ++ (a ++ (b ++ (c ++ (d ++ (e ++ (f ++ (g ++ h)))))))
parts out a b c d e f g h o1 o2 o3 o4 o5 o6 o7 o8 e1 e2 e3 e4 e5 e6 e7 e8 =
    e8 ∙ ap (λ o. o ++ h) (e7 ∙ ap (λ o. o ++ g) (e6 ∙ ap (λ o. o ++ f) (e5 ∙ ap (λ o. o ++ e)
    (e4 ∙ ap (λ o. o ++ d) (e3 ∙ ap (λ o. o ++ c) (e2 ∙ ap (λ o. o ++ b) e1))))))
    ∙ joined out a b c d e f g h

-- as it is written
pub written : (out o1 o2 o3 o4 o5 o6 o7 o8 : List ℕ) (opening : Bool) (id n kind : ℕ) (a : StartAsk)
    (listen connect : List ℕ) → listen ≡ a.listen_host → connect ≡ a.connect_host
    → n ≡ 28 + length listen + length connect → kind ≡ forward_kind opening
    → o1 ≡ out ++ u32 n → o2 ≡ o1 ++ u32 kind → o3 ≡ o2 ++ u32 id → o4 ≡ o3 ++ u32 a.kind
    → o5 ≡ o4 ++ str listen → o6 ≡ o5 ++ u32 a.listen_port → o7 ≡ o6 ++ str connect
    → o8 ≡ o7 ++ u32 a.connect_port
    → o8 ≡ out ++ request_frame id (forward_request opening a)
written out o1 o2 o3 o4 o5 o6 o7 o8 opening id n kind a listen connect l r size same e1 e2 e3 e4 e5 e6 e7 e8 =
    let whole : n ≡ 28 + length a.listen_host + length a.connect_host =
    size ∙ ap (λ s. 28 + length s + length connect) l ∙ ap (λ s. 28 + length a.listen_host + length s) r in
    parts out (u32 n) (u32 kind) (u32 id) (u32 a.kind) (str a.listen_host) (u32 a.listen_port)
    (str a.connect_host) (u32 a.connect_port) o1 o2 o3 o4 o5 o6 o7 o8 e1 e2 e3 e4
    (e5 ∙ ap (λ s. o4 ++ str s) l) e6 (e7 ∙ ap (λ s. o6 ++ str s) r) e8
    ∙ ap (λ m. out ++ (u32 m ++ fields_of kind id a)) whole
    ∙ ap (λ k. out ++ (u32 (28 + length a.listen_host + length a.connect_host) ++ fields_of k id a)) same
    ∙ ap (λ f. out ++ f) (sym (forward_frame opening id a))
