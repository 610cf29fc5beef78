-- The test of keys passes for the same key alone.
use Rattle.std.proofs.Common.{◌≡◌, true, refl, sym, ◌∙◌, ap, bytes_eq}
use Rattle.std.specs.Prelude.{◌==◌, ◌&&◌}
use Rattle.std.proofs.lemmas.Slice.Eq.{bytes_eq-Decides}
use Rattle.ssh_grammar.specs.Messages.{Key, Path, Tcp}
use Rattle.mux_history.specs.Keys.{is_key}
use Rattle.mux_history.proofs.Bools.{same-number, self}
use Rattle.mux_history.proofs.Sends.{and-left, and-right}

pub key-is : (a b : Key) → is_key a b ≡ true → a ≡ b
key-is (Tcp a p) (Tcp b q) e =
    ap (λ x. Tcp x p) ((bytes_eq-Decides a b).0 (and-right (p == q) (bytes_eq a b) e))
    ∙ ap (λ n. Tcp b n) (same-number p q (and-left (p == q) (bytes_eq a b) e))
key-is (Path a) (Path b) e = ap Path ((bytes_eq-Decides a b).0 e)
key-is (Tcp a p) (Path b) e = cc
key-is (Path a) (Tcp b q) e = cc

key-self : (a : Key) → is_key a a ≡ true
key-self (Tcp a p) = ap (λ t. t && bytes_eq a a) (self p) ∙ (bytes_eq-Decides a a).1 refl
key-self (Path a) = (bytes_eq-Decides a a).1 refl

pub is-key : (a b : Key) → a ≡ b → is_key a b ≡ true
is-key a b same = ap (is_key a) (sym same) ∙ key-self a
