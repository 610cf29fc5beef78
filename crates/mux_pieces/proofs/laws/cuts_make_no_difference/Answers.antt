use Rattle.std.proofs.Common.{◌∙◌, ap, sym}
use Rattle.mux_history.specs.Journal.{items}
use Rattle.mux_history.specs.Log.{log_of}
use Rattle.mux_history.specs.Settings.{by_lists}
use Rattle.mux_history.proofs.Journals.{journal-items}
use Rattle.mux_pieces.proofs.Cuts.{uncut-alike}
use Rattle.mux_pieces.proofs.laws.cuts_make_no_difference.Goals as goal

pub returns : goal.returns
returns c = λ policy pid picks replies marks others e.
    journal-items policy pid picks replies marks
    ∙ (ap (log_of (by_lists policy pid picks replies)) ((uncut-alike marks).same_items ∙ (ap items e ∙ sym (uncut-alike others).same_items))
    ∙ sym (journal-items policy pid picks replies others))
