use Rattle.std.proofs.Common.{◌∙◌, ap, sym}
use Rattle.mux_history.specs.Log.{log_of}
use Rattle.mux_history.specs.Settings.{by_lists}
use Rattle.mux_history.proofs.Journals.{journal-items}
use Rattle.mux_pieces.proofs.Orders.{bytes-make}
use Rattle.mux_pieces.proofs.laws.bytes_make_rows.Goals as goal

pub returns : goal.returns
returns c = λ policy pid picks replies marks others bytes order.
    journal-items policy pid picks replies marks
    ∙ (ap (log_of (by_lists policy pid picks replies)) (bytes-make marks others bytes order)
    ∙ sym (journal-items policy pid picks replies others))
