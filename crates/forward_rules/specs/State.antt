-- What a list of forwardings keeps of each.
use Rattle.std.specs.Prelude.{ℕ, Bool, Option}
use Rattle.ssh_grammar.specs.Messages.{Key}

-- its client; the key that was asked, or once it is live the one that is listened on; whether it is
-- live; and where an unanswered cancel means it, that cancel's rank: 0 is the first of the client's
-- that have no reply
pub record Forward : Type 0 where
  pub client : ℕ
  pub key : Key
  pub live : Bool
  pub cancel : Option ℕ
