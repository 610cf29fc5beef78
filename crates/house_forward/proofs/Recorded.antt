-- The marks of a forwarder to which nothing is added.
use Rattle.std.proofs.Common.{◌≡◌, ◌∙◌, refl, sym, ap, List, [], ◌++◌}
use Rattle.std.specs.Prelude.{Option, Some, None}
use Rattle.std.specs.Option.{option_map}
use Rattle.std.proofs.lemmas.List.{append-nil}
use Rattle.mux_outside.specs.declared.house_mark.HouseMark.{HouseMark}

nothing : (a : Option (List HouseMark)) → a ≡ option_map (λ marks. marks ++ []) a
nothing None = refl
nothing (Some marks) = ap Some (sym (append-nil marks))

-- nothing more is recorded
pub none_more : (a b : Option (List HouseMark)) → a ≡ b → a ≡ option_map (λ marks. marks ++ []) b
none_more a b e = e ∙ nothing b
