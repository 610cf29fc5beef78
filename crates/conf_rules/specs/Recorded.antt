-- What a resolution looks at: files, facts of the machine, the request, and how commands end.
use Rattle.std.specs.Prelude.{ℕ, List, Option}
use Rattle.conf_rules.specs.declared.asked.Asked.{Asked}
use Rattle.conf_rules.specs.Texts.{Bytes}

-- what is known of the machine and its user; a variable of the environment has a value where it is
-- set
pub record Facts : Type 0 where
  pub home : Option Bytes
  pub local_user : Option Bytes
  pub uid : Option Bytes
  pub host_name : Option Bytes
  pub variable : Bytes → Option Bytes

-- All that a resolution looks at. A path has a content where it names a file, and names where it
-- names a directory; a command ends with a status.
pub record Recorded : Type 0 where
  pub content : Bytes → Option Bytes
  pub names : Bytes → List Bytes
  pub facts : Facts
  pub asked : Asked
  pub status : Bytes → ℕ
