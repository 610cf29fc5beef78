-- What is being sent.
use Rattle.std.specs.Prelude.{ℕ, List, drop}

-- a stream, and the bytes that it still has to give
pub record Said : Type 0 where
  pub stream : ℕ
  pub rest : List ℕ

-- after a piece of them
abbrev pub gone_on : Said → Said
gone_on said = record said { rest = drop 37 said.rest }
