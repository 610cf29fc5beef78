-- An answer is read as its type says.
use Rattle.std.proofs.Common.{◌≡◌, ℕ, List, Option, None, subst, sym}
use Rattle.ssh_grammar.specs.Control.{Answer}
use Rattle.ssh_grammar.specs.ReadAnswer.{answer_forms}
use Rattle.ssh_grammar.specs.Tables.{by_number}

pub of_kind : (kind k : ℕ) (rest : List ℕ) (r : Option Answer) → kind ≡ k
    → by_number answer_forms k (λ rest. None) rest ≡ r → by_number answer_forms kind (λ rest. None) rest ≡ r
of_kind kind k rest r same reads = subst (λ k. by_number answer_forms k (λ rest. None) rest ≡ r) (sym same) reads
