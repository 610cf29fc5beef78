-- What the code's values represent, without where their bytes lie.
use Rattle.std.specs.Option.{option_copied}
use Rattle.conf_rules.specs.Destinations.{Destination}
use Rattle.conf_rules.specs.Options as options
use Rattle.conf_rules.specs.Options.{CommandMode, Takes, Letter, NextWord}
use Rattle.conf_command.specs.declared.act.CommandMode.{CommandMode as TheMode}
use Rattle.conf_command.specs.declared.act.CommandMode.TheVariants as modes
use Rattle.conf_command.specs.declared.act.WordAct.{WordAct}
use Rattle.conf_command.specs.declared.act.WordAct.TheVariants as acts
use Rattle.conf_command.specs.declared.letters.Takes.{Takes as TheTakes}
use Rattle.conf_command.specs.declared.letters.Takes.TheVariants as takes
use Rattle.conf_command.specs.declared.letters.Letter.{Letter as TheLetter}
use Rattle.conf_command.specs.declared.letters.Letter.TheVariants as letters
use Rattle.conf_command.specs.declared.options.NextWord.{NextWord as TheNext}
use Rattle.conf_command.specs.declared.options.NextWord.TheVariants as nexts
use Rattle.conf_command.specs.declared.destinations.Destination.{Destination as TheDestination}

-- the mode of the program
abbrev pub shown_mode_of : TheMode → CommandMode
shown_mode_of modes.Listing = options.Listing
shown_mode_of modes.Master = options.Master
shown_mode_of modes.Client = options.Client

-- the effect of a word
abbrev pub act_of : WordAct → options.WordAct
act_of (acts.Chooses mode) = options.Chooses (shown_mode_of mode)
act_of (acts.Reads from) = options.Reads from
act_of (acts.Asks line) = options.Asks line
act_of (acts.Connects transport) = options.Connects transport
act_of (acts.Permits list word entry) = options.Permits list word entry
act_of (acts.Sessions may) = options.Sessions may
act_of (acts.Controls control) = options.Controls control
act_of (acts.Goes to) = options.Goes to
act_of (acts.Fails cause) = options.Fails cause

-- an option that has a value
abbrev pub takes_of : TheTakes → Takes
takes_of (takes.Key keyword) = options.OfKey keyword.now
takes_of (takes.Forward keyword one two) = options.OfForward keyword.now one two
takes_of takes.Line = options.OfLine
takes_of takes.File = options.OfFile
takes_of takes.Transport = options.OfTransport
takes_of takes.Control = options.OfControl
takes_of (takes.Permit list) = options.OfPermit list
takes_of takes.Sessions = options.OfSessions

-- the meaning of a letter
abbrev pub letter_of : TheLetter → Letter
letter_of (letters.Names mode) = options.Names (shown_mode_of mode)
letter_of (letters.Sets keyword value) = options.Sets keyword.now value.now
letter_of (letters.With takes) = options.With (takes_of takes)
letter_of letters.NoLetter = options.NoLetter

-- how the next word is read
abbrev pub shown_next_word : TheNext → NextWord
shown_next_word nexts.Free = options.Free
shown_next_word nexts.Ended = options.Ended
shown_next_word (nexts.ValueOf here takes) = options.ValueOf here (takes_of takes)

-- a host, and the user if one is named
abbrev pub destination_of : TheDestination → Destination
destination_of d = record { user = option_copied d.user; host = d.host.now }
