-- The files that no line includes.
use Rattle.std.specs.Prelude.{true, false, List, [], ◌∷◌, ◌++◌, Option, Some, None, codes}
use Rattle.conf_rules.specs.declared.asked.ConfigFrom.{ConfigFrom}
use Rattle.conf_rules.specs.declared.asked.ConfigFrom.TheVariants.{Standard, Nothing, File}
use Rattle.conf_rules.specs.Texts.{Bytes}
use Rattle.conf_reader.specs.declared.lines.FirstFile.{FirstFile}

-- the user's file, where the home is known
abbrev pub user_files : Option Bytes → List FirstFile
user_files None = []
user_files (Some home) =
    record { system = false; required = false; path = home ++ codes "/.ssh/config" } ∷ []

-- the files that no line includes, in the order in which they are read
abbrev pub firsts_of : Option Bytes → ConfigFrom → List FirstFile
firsts_of home Standard = user_files home ++ record {
  system = true;
  required = false;
  path =
      codes "/etc/ssh/ssh_config";
} ∷ []
firsts_of home Nothing = []
firsts_of home (File path) = record { system = false; required = true; path = path } ∷ []
