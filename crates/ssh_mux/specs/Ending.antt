-- Endings, as the rules of the configuration define them.
use Rattle.conf_command.specs.declared.reader.WordsError.{WordsError}
use Rattle.conf_command.specs.declared.reader.WordsError.TheVariants as words_errors
use Rattle.conf_rules.specs.declared.causes.ListError.{ListError}
use Rattle.conf_rules.specs.declared.causes.ListError.TheVariants as list_errors
use Rattle.conf_rules.specs.declared.causes.ResolveError.{ResolveError}
use Rattle.conf_rules.specs.declared.causes.ResolveError.TheVariants as resolve_errors
use Rattle.conf_rules.specs.Diagnostics as defined
use Rattle.ssh_mux.specs.Breaks.{break_text}
use Rattle.ssh_mux.specs.declared.ending.Ending.{Ending}
use Rattle.ssh_mux.specs.declared.ending.Ending.TheVariants as endings

-- the ending that is meant
abbrev pub ending_shown : Ending → defined.Ending
ending_shown (endings.BadWords e) = defined.BadWords e
ending_shown (endings.BadLine file line cause) = defined.BadLine (resolve_errors.At file line cause)
ending_shown (endings.BadListing key error) = defined.BadListing (list_errors.Token key error)
ending_shown endings.NoControlPath = defined.NoControlPath
ending_shown endings.NotOpened = defined.NotOpened
ending_shown endings.TransportFailed = defined.TransportFailed
ending_shown (endings.ServerBroke index why) = defined.ServerBroke index (break_text why)
ending_shown endings.TurnsSpent = defined.TurnsSpent
ending_shown endings.StartRefused = defined.StartRefused
ending_shown endings.MasterRefused = defined.MasterRefused
ending_shown endings.MasterBroke = defined.MasterBroke
ending_shown endings.NoMemory = defined.NoMemory

-- the ending of words that have no reading
abbrev pub misread_as : WordsError → Ending
misread_as (words_errors.Refused e) = endings.BadWords e
misread_as words_errors.OutOfMemory = endings.NoMemory

-- the ending of a configuration that is refused
abbrev pub refused_as : ResolveError → Ending
refused_as (resolve_errors.At file line cause) = endings.BadLine file line cause
refused_as resolve_errors.OutOfMemory = endings.NoMemory

-- the ending of settings that can't be listed
abbrev pub unlisted_as : ListError → Ending
unlisted_as (list_errors.Token key error) = endings.BadListing key error
unlisted_as list_errors.OutOfMemory = endings.NoMemory
