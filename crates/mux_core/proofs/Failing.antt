-- A channel whose open fails is out.
use Rattle.std.proofs.Common.{◌≡◌, ◌<◌, ℕ, List, [], ◌∷◌, map, true, false, Bool, refl, ◌∙◌, ap, sym, subst, arith}
use Rattle.std.specs.Prelude.{filter, not, ◌==◌}
use Rattle.std.specs.List.{AllByRecursion}
use Rattle.ssh_grammar.specs.declared.side.Side.{Side}
use Rattle.mux_history.specs.declared.limits.TheConstants.{NUMBERS_END}
use Rattle.mux_history.specs.Summary.{Fails}
use Rattle.mux_history.specs.Channels.{Channel, is_channel_held}
use Rattle.channel_table.specs.Entries.{TableEntry}
use Rattle.channel_table.specs.Entries.{freed}
use Rattle.channel_table.specs.Stands.{ChannelsFit, EntryFits}
use Rattle.mux_core.specs.Stands.{HasSmall, TableFits, is_whole}
use Rattle.mux_core.proofs.Acts.{DoesAct}
use Rattle.mux_core.proofs.Apart.{Alone, all-filter, apart-filter, count-filter}
use Rattle.channel_table.proofs.EntryFits.{Goes, changed-fit}

abbrev stays : ℕ → TableEntry → Bool
stays n e = not (e.number == n)

map-id : (es : List TableEntry) → map (λ (e : TableEntry). e) es ≡ es
map-id [] = refl
map-id (e ∷ es) = ap (λ fs. e ∷ fs) (map-id es)

goes-one : (way : Side) (r : TableEntry → Bool) (g : Channel → Channel) (e0 : TableEntry) → DoesAct way Fails r g → (e : TableEntry) (x : Channel) → Alone r e0 e → EntryFits e x → Goes (stays e0.number) e (g x)
goes-one way r g e0 does e x one fits = by_number (e.number == e0.number) refl
  where
    by_number : (b : Bool) → (e.number == e0.number) ≡ b → Goes (stays e0.number) e (g x)
    by_number true h = record {
      stays = λ s. absurd (let a : stays e0.number e ≡ false = ap not h in let c = sym s ∙ a in cc);
      gone = λ _. ap is_channel_held (does.it e x fits (one.test ∙ h));
    }
    by_number false h = subst (Goes (stays e0.number) e) (sym (does.others e x fits (one.test ∙ h))) (record {
      stays = λ _. fits;
      gone = λ s. absurd (let a : stays e0.number e ≡ true = ap not h in let c = sym s ∙ a in cc);
    })

pub free-table : (way : Side) (r : TableEntry → Bool) (g : Channel → Channel) (e0 : TableEntry) (es : List TableEntry) (xs : List Channel) → DoesAct way Fails r g → AllByRecursion (Alone r e0) es → TableFits es xs → TableFits (freed e0.number es) (filter is_channel_held (map g xs))
free-table way r g e0 es xs does one fits = record {
  fit = subst (λ ys. ChannelsFit (filter (stays e0.number) ys) (filter is_channel_held (map g xs))) (map-id es) (changed-fit (Alone r e0) (stays e0.number) (λ e. e) g (goes-one way r g e0 does) es xs one fits.fit);
  apart = apart-filter (stays e0.number) es fits.apart;
  few = λ k. let a = count-filter (stays e0.number) k es in let c = fits.few k in omega arith;
  whole = all-filter (λ e. is_whole e ≡ true) (stays e0.number) es fits.whole;
  small = all-filter HasSmall (stays e0.number) es fits.small;
  below = all-filter (λ e. e.number < NUMBERS_END) (stays e0.number) es fits.below;
}
