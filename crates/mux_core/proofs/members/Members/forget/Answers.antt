use Rattle.std.proofs.Common.{rules, ◌≡◌, List, [], ◌∷◌, ℕ, Bool, true, false, map, ap, sym, ◌∙◌, refl}
use Rattle.std.specs.Prelude.{not, ◌==◌, filter}
use Rattle.std.proofs.lemmas.Fn.{filter_same}
use Rattle.mux_history.proofs.Finds.{filter-no, filter-yes}
use Rattle.mux_core.specs.declared.members.Member.{Member}
use Rattle.mux_core.specs.Members.{member_state}
use Rattle.mux_core.specs.Settling.{is_other}
use Rattle.mux_core.proofs.members.Members.forget.Goals as goal

seen : (k : ℕ) (cs : List Member) → map member_state (filter (λ (c : Member). not (c.number == k)) cs) ≡ filter (is_other k) (map member_state cs)
seen k [] = refl
seen k (c ∷ cs) = by_case (seen k cs) (not (c.number == k)) refl
  where
    by_case : map member_state (filter (λ (c : Member). not (c.number == k)) cs) ≡ filter (is_other k) (map member_state cs) → (b : Bool) → not (c.number == k) ≡ b → map member_state (filter (λ (c : Member). not (c.number == k)) (c ∷ cs)) ≡ filter (is_other k) (map member_state (c ∷ cs))
    by_case ih true h = ap (map member_state) (filter-yes (λ (c : Member). not (c.number == k)) c cs h) ∙ (ap (λ ds. member_state c ∷ ds) ih ∙ sym (filter-yes (is_other k) (member_state c) (map member_state cs) h))
    by_case ih false h = ap (map member_state) (filter-no (λ (c : Member). not (c.number == k)) c cs h) ∙ (ih ∙ sym (filter-no (is_other k) (member_state c) (map member_state cs) h))

pub returns : goal.returns
returns c = rw (← c.self.view_is) (ap (map member_state) (filter_same _ (λ (d : Member). not (d.number == c.args.client)) _ (λ x b f' k. search rules) _ _ c.retain.ensures.filtered) ∙ seen c.args.client c.self.inside.listed.items)
