-- What holds of dialogs over all bytes.
use Rattle.std.specs.Prelude.{◌≡◌, ◌≢◌, ℕ, ◌≤◌, List, ◌++◌, length}
use Rattle.ssh_fields.specs.Fields.{AreBytes}
use Rattle.socks_dialog.specs.Socks.{Dialog, socks}
use Rattle.socks_dialog.specs.declared.outcome.Outcome.TheVariants.{Wants}

-- the same dialog, with bytes after it
abbrev pub followed : List ℕ → Dialog → Dialog
followed more d = record { replies = d.replies; outcome = d.outcome; rest = d.rest ++ more }

-- the outcome of a dialog stays, whatever bytes follow
abbrev pub DialogOutcomesStay : Type 0
DialogOutcomesStay = (bytes more : List ℕ) → (socks bytes).outcome ≢ Wants
    → socks (bytes ++ more) ≡ followed more (socks bytes)

-- and the replies stay
abbrev pub RepliesStay : Type 0
RepliesStay = (bytes more : List ℕ)
    → (later : List (List ℕ)) × ((socks (bytes ++ more)).replies ≡ (socks bytes).replies ++ later)

-- there is one before the outcome at most
abbrev pub RepliesAreFew : Type 0
RepliesAreFew = (bytes : List ℕ) → length (socks bytes).replies ≤ 1

-- more bytes are wanted of 519 at most
abbrev pub DialogsEnd : Type 0
DialogsEnd = (bytes : List ℕ) → AreBytes bytes → (socks bytes).outcome ≡ Wants → length bytes ≤ 519
