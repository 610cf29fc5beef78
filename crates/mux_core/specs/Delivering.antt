-- Where what the server sends in a channel goes.
use Rattle.std.specs.Prelude.{◌≡◌, Bool, true, false, ℕ, List, unwrap_or}
use Rattle.ssh_grammar.specs.SpellMessage.{with_recipient}
use Rattle.channel_table.specs.declared.channel.Channel.{Channel}
use Rattle.mux_core.specs.declared.heard.Delivery as declared
use Rattle.mux_core.specs.declared.heard.Delivery.TheVariants as heard
use Rattle.mux_core.specs.State.{CoreState}
use Rattle.mux_core.specs.Settling.{client_settled}

-- to its client, under the client's own number; one that is lost is forgotten, where nothing of it
-- is left
abbrev pub DeliversAs : Bool → CoreState → CoreState → Channel → List ℕ → List ℕ → declared.Delivery
    → Type 0
DeliversAs true old new c p p' h = (new ≡ client_settled old c.client) × (h ≡ heard.Lost c.client)
DeliversAs false old new c p p' h = (new ≡ old) × (h ≡ heard.Client c.client 0)
    × (p' ≡ with_recipient p (unwrap_or c.own 0))
