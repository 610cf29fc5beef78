-- How the server broke the protocol, in words.
use Rattle.std.specs.Prelude.{[], ◌++◌, codes}
use Rattle.conf_rules.specs.Numbers.{digits_of}
use Rattle.conf_rules.specs.Texts.{Bytes}
use Rattle.mux_history.specs.declared.broke.Break.{Break}
use Rattle.mux_history.specs.declared.broke.Break.TheVariants.{Frame, Cut, Message}
use Rattle.mux_history.specs.declared.broke.Break.TheVariants.{NoAsker, BadReply}
use Rattle.mux_history.specs.declared.broke.Break.TheVariants.{NumberInUse, NotPending}
use Rattle.mux_history.specs.declared.broke.Break.TheVariants.{NoChannel, Channel}

-- the text of a break
abbrev pub break_text : Break → Bytes
break_text (Frame fault) = codes "bad frame"
break_text (Cut have) = codes "cut inside a frame"
break_text (Message fault) = codes "unreadable"
break_text NoAsker = codes "a reply to nothing"
break_text (BadReply length) = codes "bad reply"
break_text (NumberInUse number) = codes "number " ++ (digits_of number ++ codes " in use")
break_text (NotPending number) =
    codes "number " ++ (digits_of number ++ codes " is not being opened")
break_text (NoChannel number) = codes "no channel " ++ (digits_of number ++ [])
break_text (Channel number why) =
    codes "channel " ++ (digits_of number ++ codes " breaks its rules")
