-- What is spelled as a control message reads as it.
use Rattle.std.proofs.Common.{◌≡◌, ℕ, zero, suc, ◌≤◌, List, [], ◌∷◌, ◌++◌, length, Ok, refl, sym, ◌∙◌, ap, arith, length-append}
use Rattle.std.specs.List.{AllByRecursion}
use Rattle.ssh_fields.specs.Fields.{u32, str}
use Rattle.ssh_grammar.specs.Control.{ForwardAsk, Control, Hello, NewSession, AliveCheck, Terminate, OpenForward, CloseForward, StdioForward, StopListening, Proxy}
use Rattle.ssh_grammar.specs.ReadControl.{control_on_end, on_pairs, read_id, read_unread, read_hello, read_forward, read_control}
use Rattle.ssh_grammar.specs.SpellControl.{spell_pairs, spell_ask, spell_control}
use Rattle.ssh_grammar.specs.IsMessage.{IsNumber}
use Rattle.ssh_grammar.specs.IsControl.{IsAsk, IsPair, IsControl, SpellsControl}
use Rattle.ssh_grammar.proofs.Steps.{u32_read, str_read}

end_read : (bytes : List ℕ) (at : ℕ) (c : Control) → bytes ≡ [] → control_on_end bytes at c ≡ Ok c
end_read bytes at c e = ap (λ x. control_on_end x at c) e

id_read : (message : ℕ → Control) (rest : List ℕ) (id : ℕ) → IsNumber id → rest ≡ u32 id → read_id message rest ≡ Ok (message id)
id_read message rest id fits e = u32_read _ _ _ rest id [] fits e (λ r e0. end_read r _ (message id) e0)

unread_read : (message : ℕ → List ℕ → Control) (rest : List ℕ) (id : ℕ) (unread : List ℕ) → IsNumber id → rest ≡ u32 id ++ unread → read_unread message rest ≡ Ok (message id unread)
unread_read message rest id unread fits e = u32_read _ _ _ rest id unread fits e (λ r e0. ap (λ r. Ok (message id r)) e0)

-- the bytes of pairs are as many as pairs at least
pairs_read : (n : ℕ) (pairs : List (List ℕ × List ℕ)) (rest : List ℕ) (at : ℕ) (next : List (List ℕ × List ℕ) → Control) → length rest ≤ n → AllByRecursion IsPair pairs → rest ≡ spell_pairs pairs → on_pairs n rest at next ≡ Ok (next pairs)
pairs_read zero [] rest at next le fit e = ap (λ x. control_on_end x at (next [])) e
pairs_read (suc n) [] rest at next le fit e = ap (λ x. on_pairs (suc n) x at next) e
pairs_read zero (pair ∷ pairs) rest at next le fit e = absurd (let l : length rest ≡ length (spell_pairs (pair ∷ pairs)) = ap length e in omega arith)
pairs_read (suc n) (pair ∷ pairs) [] at next le fit e = absurd (let l : length (spell_pairs (pair ∷ pairs)) ≡ 0 = ap length (sym e) in omega arith)
pairs_read (suc n) (pair ∷ pairs) (b ∷ rest) at next le fit e = str_read _ _ _ (b ∷ rest) pair.0 _ fit.0.0 e (λ r0 e0. str_read _ _ _ r0 pair.1 _ fit.0.1 e0 (λ r1 e1.
    pairs_read n pairs r1 _ (λ pairs. next (pair ∷ pairs)) (shorter r1 e1) fit.1 e1))
  where
    shorter : (r : List ℕ) → r ≡ spell_pairs pairs → length r ≤ n
    shorter r e1 =
        let l : length (b ∷ rest) ≡ length (spell_pairs (pair ∷ pairs)) = ap length e in
        let k : length r ≡ length (spell_pairs pairs) = ap length e1 in
        omega (arith, length-append pair.0 (str pair.1 ++ spell_pairs pairs), length-append pair.1 (spell_pairs pairs))

hello_read : (rest : List ℕ) (version : ℕ) (pairs : List (List ℕ × List ℕ)) → IsControl (Hello version pairs) → rest ≡ u32 version ++ spell_pairs pairs → read_hello rest ≡ Ok (Hello version pairs)
hello_read rest version pairs is e = u32_read _ _ _ rest version (spell_pairs pairs) is.0 e (λ r e0. pairs_read (length r) pairs r _ (Hello version) (omega arith) is.1 e0)

forward_read : (message : ℕ → ForwardAsk → Control) (rest : List ℕ) (id : ℕ) (what : ForwardAsk) → IsNumber id → IsAsk what → rest ≡ u32 id ++ spell_ask what → read_forward message rest ≡ Ok (message id what)
forward_read message rest id what fits is e = u32_read _ _ _ rest id (spell_ask what) fits e (λ r0 e0. u32_read _ _ _ r0 what.kind _ is.kind e0 (λ r1 e1.
    str_read _ _ _ r1 what.listen_host _ is.listen_host e1 (λ r2 e2. u32_read _ _ _ r2 what.listen_port _ is.listen_port e2 (λ r3 e3.
    str_read _ _ _ r3 what.connect_host _ is.connect_host e3 (λ r4 e4. u32_read _ _ _ r4 what.connect_port [] is.connect_port e4 (λ r5 e5.
    end_read r5 _ (message id what) e5))))))

control_read : (c : Control) → IsControl c → read_control (spell_control c) ≡ Ok c
control_read (Hello version pairs) is = hello_read (u32 version ++ spell_pairs pairs) version pairs is refl
control_read (NewSession id rest) is = unread_read NewSession (u32 id ++ rest) id rest is refl
control_read (AliveCheck id) is = id_read AliveCheck (u32 id) id is refl
control_read (Terminate id) is = id_read Terminate (u32 id) id is refl
control_read (OpenForward id what) is = forward_read OpenForward (u32 id ++ spell_ask what) id what is.0 is.1 refl
control_read (CloseForward id what) is = forward_read CloseForward (u32 id ++ spell_ask what) id what is.0 is.1 refl
control_read (StdioForward id rest) is = unread_read StdioForward (u32 id ++ rest) id rest is refl
control_read (StopListening id) is = id_read StopListening (u32 id) id is refl
control_read (Proxy id) is = id_read Proxy (u32 id) id is refl

-- a body of a control message reads as it
pub spelled_reads : (c : Control) (body : List ℕ) → SpellsControl c body → read_control body ≡ Ok c
spelled_reads c body is = ap read_control is.spelled ∙ control_read c is.is_control

pub no_body_for_two : (a b : Control) → IsControl a → IsControl b → spell_control a ≡ spell_control b → a ≡ b
no_body_for_two a b is_a is_b e =
    let left : read_control (spell_control a) ≡ Ok a = control_read a is_a in
    let right : read_control (spell_control a) ≡ Ok b = ap read_control e ∙ control_read b is_b in
    let both : Ok a ≡ Ok b = sym left ∙ right in
    cc
