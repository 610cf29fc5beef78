-- What holds of talks over all bytes.
use Rattle.std.specs.Prelude.{◌≡◌, ◌≢◌, ℕ, Bool, true, false, List, ◌++◌, None}
use Rattle.ssh_fields.specs.Fields.{AreBytes}
use Rattle.mux_client.specs.declared.asks.Asks.{Asks}
use Rattle.mux_client.specs.Talk.{Talk, talk}

-- bytes that come later add to what is sent and to what is shown
pub record Adds (a b : Talk) : Type 0 where
  pub sent : List ℕ
  pub sent_is : b.sent ≡ a.sent ++ sent
  pub out : List ℕ
  pub out_is : b.out ≡ a.out ++ out

abbrev pub TalksGrow : Type 0
TalksGrow = (asks : Asks) (bytes more : List ℕ) (ended : Bool) → AreBytes bytes
    → Adds (talk asks bytes false) (talk asks (bytes ++ more) ended)

-- what was decided stays, with all that was sent and shown, whatever bytes follow
abbrev pub TalkOutcomesStay : Type 0
TalkOutcomesStay = (asks : Asks) (bytes more : List ℕ) (ended : Bool) → AreBytes bytes
    → (talk asks bytes false).outcome ≢ None
    → talk asks (bytes ++ more) ended ≡ talk asks bytes false

-- once the bytes ended a talk is over
abbrev pub EndsAreOutcomes : Type 0
EndsAreOutcomes = (asks : Asks) (bytes : List ℕ) → (talk asks bytes true).outcome ≢ None
