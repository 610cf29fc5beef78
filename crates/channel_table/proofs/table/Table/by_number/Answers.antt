use Rattle.std.proofs.Common.{Option, Some, None, true, false, ◌∙◌, ap, sym}
use Rattle.channel_table.specs.declared.channel.Channel.{Channel}
use Rattle.channel_table.proofs.Lookups.{if_shown, shown-lookup}
use Rattle.channel_table.proofs.table.Table.by_number.Goals as goal

pub returns-in_err-channel-clause-channel : goal.returns-in_err-channel-clause-channel
returns-in_err-channel-clause-channel c =
    c.from_residual.ensures ∙ sym (shown-lookup c.args.self.now c.args.number c.admitted.ensures.sound.apart ∙ ap if_shown (sym c.in_err-channel.ensures.channel))

pub returns-then-is_shown-clause-channel : goal.returns-then-is_shown-clause-channel
returns-then-is_shown-clause-channel c =
    sym (shown-lookup c.args.self.now c.args.number c.admitted.ensures.sound.apart
    ∙ (ap if_shown (sym c.in_ok-channel.ensures.channel) ∙ ap (λ b. elim b as (λ _. Option Channel) [ true ↦ Some c.in_ok-channel.channel | false ↦ None ]) (sym c.if-is_shown.ensures)))

pub returns-else-is_shown-clause-channel : goal.returns-else-is_shown-clause-channel
returns-else-is_shown-clause-channel c =
    sym (shown-lookup c.args.self.now c.args.number c.admitted.ensures.sound.apart
    ∙ (ap if_shown (sym c.in_ok-channel.ensures.channel) ∙ ap (λ b. elim b as (λ _. Option Channel) [ true ↦ Some c.in_ok-channel.channel | false ↦ None ]) (sym c.if-is_shown.ensures)))
