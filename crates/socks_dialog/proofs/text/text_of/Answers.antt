use Rattle.std.proofs.Common.{◌∙◌}
use Rattle.socks_dialog.proofs.Fields.{zero_found, text_found, text_short, text_open, text_too_long}
use Rattle.socks_dialog.proofs.text.text_of.Goals as goal

pub returns-in-Some : goal.returns-in-Some
returns-in-Some c =
    (zero_found _ _ _ c.min.ensures c.in-Some.ensures ∙ text_found _ _, text_short _ _ _ c.min.ensures c.in-Some.ensures)

pub returns-in-None : goal.returns-in-None
returns-in-None c = zero_found _ _ _ c.min.ensures c.in-None.ensures ∙ text_open _ c.if-bytes-lt-LONGEST_TEXT.true

pub returns-in-None-2 : goal.returns-in-None-2
returns-in-None-2 c = zero_found _ _ _ c.min.ensures c.in-None.ensures ∙ text_too_long _ c.if-bytes-lt-LONGEST_TEXT.false
