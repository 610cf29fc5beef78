-- What the code reads of a dialog.
use Rattle.std.specs.Prelude.{◌≡◌, ℕ, ◌<◌, Bool, true, false, List, [], ◌∷◌, length, Some, None}
use Rattle.socks_dialog.specs.Replies.{no_authentication}
use Rattle.socks_dialog.specs.Socks.{Dialog, take_text}
use Rattle.socks_dialog.specs.declared.outcome.DialogReading.{DialogReading}
use Rattle.socks_dialog.specs.declared.text.DialogText.{DialogText}
use Rattle.socks_dialog.specs.declared.text.DialogText.TheVariants as text

-- the replies of a dialog whose method was chosen, or not yet
abbrev pub replies_of : Bool → List (List ℕ)
replies_of true = no_authentication ∷ []
replies_of false = []

-- what was read is this dialog
pub record IsReading (r : DialogReading) (d : Dialog) : Type 0 where
  pub replies : d.replies ≡ replies_of r.chosen
  pub outcome : d.outcome ≡ r.outcome
  pub rest : length d.rest ≡ r.rest

-- the same of one in which no method was chosen
pub record IsPlainDialog (r : DialogReading) (d : Dialog) : Type 0 where
  pub reading : IsReading r d
  pub plain : r.chosen ≡ false

-- the text at the front of some bytes, or that it isn't whole, or too long
abbrev pub IsText : DialogText → List ℕ → Type 0
IsText (text.Whole front rest) bytes =
    (take_text bytes ≡ Some (Some front.now, rest.now)) × (length front.now < 256)
IsText text.Open bytes = take_text bytes ≡ None
IsText (text.TooLong rest) bytes = take_text bytes ≡ Some (None, rest.now)
