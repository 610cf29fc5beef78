use Rattle.std.proofs.Common.{◌∙◌, ap, sym}
use Rattle.std.specs.Prelude.{option_map}
use Rattle.channel_table.specs.declared.channel.Channel.{Channel}
use Rattle.channel_table.proofs.Lookups.{holder-found}
use Rattle.channel_table.proofs.table.Table.holder.Goals as goal

pub returns-in_err-admitted : goal.returns-in_err-admitted
returns-in_err-admitted c =
    c.from_residual-in_err-admitted.ensures ∙ sym (holder-found c.args.self.now c.args.remote c.in_ok-number.number c.by_remote.ensures.sound.apart c.in_ok-number.ensures.number ∙ ap (option_map (λ (d : Channel). d.client)) (sym c.in_err-admitted.ensures.channel))

pub returns : goal.returns
returns c =
    sym (holder-found c.args.self.now c.args.remote c.in_ok-number.number c.by_remote.ensures.sound.apart c.in_ok-number.ensures.number ∙ ap (option_map (λ (d : Channel). d.client)) (sym c.in_ok-admitted.ensures.channel))
