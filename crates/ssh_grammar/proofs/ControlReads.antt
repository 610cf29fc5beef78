-- What reads as a control message is spelled so.
use Rattle.std.proofs.Common.{◌≡◌, ℕ, zero, suc, List, [], ◌∷◌, ◌++◌, length, Option, Some, None, Result, Ok, Err, IfOk, refl, sym, ◌∙◌, ap, subst}
use Rattle.std.specs.List.{AllByRecursion}
use Rattle.ssh_fields.specs.Fields.{AreBytes, u32, str, take_u32}
use Rattle.ssh_grammar.specs.declared.fault.BadControl.{BadControl}
use Rattle.ssh_grammar.specs.declared.fault.BadControl.TheVariants as bad
use Rattle.ssh_grammar.specs.declared.numbers.TheConstants as number
use Rattle.ssh_grammar.specs.Tables.{by_number}
use Rattle.ssh_grammar.specs.Control.{ForwardAsk, Control, Hello, NewSession, AliveCheck, Terminate, OpenForward, CloseForward, StdioForward, StopListening, Proxy}
use Rattle.ssh_grammar.specs.ReadControl.{control_on_end, on_pairs, read_id, read_unread, read_hello, read_forward, read_unknown, control_forms, read_control}
use Rattle.ssh_grammar.specs.SpellControl.{spell_pairs, spell_ask, spell_control}
use Rattle.ssh_grammar.specs.IsMessage.{IsNumber}
use Rattle.ssh_grammar.specs.IsControl.{IsAsk, IsPair, IsControl, SpellsControl}
use Rattle.ssh_grammar.proofs.Steps.{u32_step, str_step}
use Rattle.ssh_grammar.proofs.Tables.{by_number-holds}

-- the message's body is these bytes after the number of its type
record IsBehind (kind : ℕ) (rest : List ℕ) (c : Control) : Type 0 where
  is_control : IsControl c
  spelled : u32 kind ++ rest ≡ spell_control c

end_step : (Q : Control → Type 0) (bytes : List ℕ) (at : ℕ) (c : Control) → (bytes ≡ [] → Q c) → IfOk (control_on_end bytes at c) Q
end_step Q [] at c go = go refl
end_step Q (b ∷ bytes) at c go = tt

id_is : (kind : ℕ) (message : ℕ → Control) (rest : List ℕ) → AreBytes rest → ((id : ℕ) → IsNumber id → IsBehind kind (u32 id) (message id)) → IfOk (read_id message rest) (IsBehind kind rest)
id_is kind message rest h is = u32_step (IsBehind kind rest) _ _ rest h (λ id r fits e _. end_step (IsBehind kind rest) r _ (message id) (λ n.
    subst (λ x. IsBehind kind x (message id)) (sym (e ∙ ap (λ x. u32 id ++ x) n)) (is id fits)))

unread_is : (kind : ℕ) (message : ℕ → List ℕ → Control) (rest : List ℕ) → AreBytes rest → ((id : ℕ) (unread : List ℕ) → IsNumber id → IsBehind kind (u32 id ++ unread) (message id unread)) → IfOk (read_unread message rest) (IsBehind kind rest)
unread_is kind message rest h is = u32_step (IsBehind kind rest) _ _ rest h (λ id r fits e _. subst (λ x. IsBehind kind x (message id r)) (sym e) (is id r fits))

pairs_step : (Q : Control → Type 0) (n : ℕ) (rest : List ℕ) (at : ℕ) (next : List (List ℕ × List ℕ) → Control) → AreBytes rest → ((pairs : List (List ℕ × List ℕ)) → AllByRecursion IsPair pairs → rest ≡ spell_pairs pairs → Q (next pairs)) → IfOk (on_pairs n rest at next) Q
pairs_step Q zero rest at next h go = end_step Q rest at (next []) (λ e. go [] tt e)
pairs_step Q (suc n) [] at next h go = go [] tt refl
pairs_step Q (suc n) (b ∷ rest) at next h go = str_step Q _ _ (b ∷ rest) h (λ name r0 fits0 e0 h0. str_step Q _ _ r0 h0 (λ value r1 fits1 e1 h1.
    pairs_step Q n r1 _ (λ pairs. next ((name, value) ∷ pairs)) h1 (λ pairs fit e. go ((name, value) ∷ pairs) ((fits0, fits1), fit) (e0 ∙ ap (λ x. str name ++ x) (e1 ∙ ap (λ x. str value ++ x) e)))))

hello_is : (rest : List ℕ) → AreBytes rest → IfOk (read_hello rest) (IsBehind number.HELLO rest)
hello_is rest h = u32_step (IsBehind number.HELLO rest) _ _ rest h (λ version r fits e h0. pairs_step (IsBehind number.HELLO rest) (length r) r _ (Hello version) h0 (λ pairs fit e0. record {
  is_control = (fits, fit);
  spelled = ap (λ x. u32 number.HELLO ++ x) (e ∙ ap (λ x. u32 version ++ x) e0);
}))

abbrev ask : ℕ → List ℕ → ℕ → List ℕ → ℕ → ForwardAsk
ask kind listen_host listen_port connect_host connect_port = record { kind = kind; listen_host = listen_host; listen_port = listen_port; connect_host = connect_host; connect_port = connect_port }

forward_is : (kind : ℕ) (message : ℕ → ForwardAsk → Control) (rest : List ℕ) → AreBytes rest → ((id : ℕ) (what : ForwardAsk) → IsNumber id → IsAsk what → IsBehind kind (u32 id ++ spell_ask what) (message id what)) → IfOk (read_forward message rest) (IsBehind kind rest)
forward_is kind message rest h is = u32_step (IsBehind kind rest) _ _ rest h (λ id r0 f0 e0 h0. u32_step (IsBehind kind rest) _ _ r0 h0 (λ k r1 f1 e1 h1.
    str_step (IsBehind kind rest) _ _ r1 h1 (λ listen_host r2 f2 e2 h2. u32_step (IsBehind kind rest) _ _ r2 h2 (λ listen_port r3 f3 e3 h3.
    str_step (IsBehind kind rest) _ _ r3 h3 (λ connect_host r4 f4 e4 h4. u32_step (IsBehind kind rest) _ _ r4 h4 (λ connect_port r5 f5 e5 _.
    end_step (IsBehind kind rest) r5 _ (message id (ask k listen_host listen_port connect_host connect_port)) (λ n.
    subst (λ x. IsBehind kind x (message id (ask k listen_host listen_port connect_host connect_port)))
    (sym (e0 ∙ ap (λ x. u32 id ++ x) (e1 ∙ ap (λ x. u32 k ++ x) (e2 ∙ ap (λ x. str listen_host ++ x) (e3 ∙ ap (λ x. u32 listen_port ++ x) (e4 ∙ ap (λ x. str connect_host ++ x) (e5 ∙ ap (λ x. u32 connect_port ++ x) n)))))))
    (is id (ask k listen_host listen_port connect_host connect_port) f0 (record { kind = f1; listen_host = f2; listen_port = f3; connect_host = f4; connect_port = f5 })))))))))

unknown_is : (kind : ℕ) (rest : List ℕ) (Q : Control → Type 0) → IfOk (read_unknown kind rest) Q
unknown_is kind rest Q = u32_less (take_u32 rest)
  where
    u32_less : (o : Option (ℕ × List ℕ)) → IfOk (elim o as (λ _. Result Control BadControl) [ None ↦ Err (bad.Unknown kind None) | Some p ↦ Err (bad.Unknown kind (Some p.0)) ]) Q
    u32_less None = tt
    u32_less (Some p) = tt

kind_is : (kind : ℕ) (rest : List ℕ) → AreBytes rest → IfOk (by_number control_forms kind (read_unknown kind) rest) (IsBehind kind rest)
kind_is kind rest h = by_number-holds (λ read. IfOk (read rest) (IsBehind kind rest)) control_forms kind (read_unknown kind) rows (unknown_is kind rest (IsBehind kind rest))
  where
    at : (k : ℕ) (read : List ℕ → Result Control BadControl) → IfOk (read rest) (IsBehind k rest) → kind ≡ k → IfOk (read rest) (IsBehind kind rest)
    at k read is same = subst (λ k. IfOk (read rest) (IsBehind k rest)) (sym same) is

    rows : AllByRecursion (λ row. kind ≡ row.0 → IfOk (row.1 rest) (IsBehind kind rest)) control_forms
    rows = (
      at number.HELLO read_hello (hello_is rest h),
      (
        at number.NEW_SESSION (read_unread NewSession) (unread_is number.NEW_SESSION NewSession rest h (λ id unread fits. record { is_control = fits; spelled = refl })),
        (
          at number.ALIVE_CHECK (read_id AliveCheck) (id_is number.ALIVE_CHECK AliveCheck rest h (λ id fits. record { is_control = fits; spelled = refl })),
          (
            at number.TERMINATE (read_id Terminate) (id_is number.TERMINATE Terminate rest h (λ id fits. record { is_control = fits; spelled = refl })),
            (
              at number.OPEN_FWD (read_forward OpenForward) (forward_is number.OPEN_FWD OpenForward rest h (λ id what fits is. record { is_control = (fits, is); spelled = refl })),
              (
                at number.CLOSE_FWD (read_forward CloseForward) (forward_is number.CLOSE_FWD CloseForward rest h (λ id what fits is. record { is_control = (fits, is); spelled = refl })),
                (
                  at number.NEW_STDIO_FWD (read_unread StdioForward) (unread_is number.NEW_STDIO_FWD StdioForward rest h (λ id unread fits. record { is_control = fits; spelled = refl })),
                  (
                    at number.STOP_LISTENING (read_id StopListening) (id_is number.STOP_LISTENING StopListening rest h (λ id fits. record { is_control = fits; spelled = refl })),
                    (
                      at number.PROXY (read_id Proxy) (id_is number.PROXY Proxy rest h (λ id fits. record { is_control = fits; spelled = refl })),
                      tt,
                    ),
                  ),
                ),
              ),
            ),
          ),
        ),
      ),
    )

-- what reads as a control message is a body of it
pub reads_is_spelled : (body : List ℕ) → AreBytes body → IfOk (read_control body) (λ c. SpellsControl c body)
reads_is_spelled body h = u32_step (λ c. SpellsControl c body) _ _ body h (λ kind rest fits e h0.
    weaken (by_number control_forms kind (read_unknown kind) rest) kind rest e (kind_is kind rest h0))
  where
    weaken : (r : Result Control BadControl) (kind : ℕ) (rest : List ℕ) → body ≡ u32 kind ++ rest → IfOk r (IsBehind kind rest) → IfOk r (λ c. SpellsControl c body)
    weaken (Ok c) kind rest e is = record { is_control = is.is_control; spelled = e ∙ is.spelled }
    weaken (Err e) kind rest _ is = tt
