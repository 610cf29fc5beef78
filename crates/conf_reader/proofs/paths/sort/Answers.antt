use Rattle.std.proofs.Common.{rules, ◌∙◌, sym, get_or, ◌+◌}
use Rattle.std.proofs.lemmas.List.Sorted.{ranks_by, answers_always, sum_by-IsPermutation}
use Rattle.std.specs.Ordering.{is_lt, nat_cmp}
use Rattle.std.specs.Cmp.Lexicographic.{slice_cmp, nat_list_cmp_total}
use Rattle.conf_reader.proofs.OrderLemmas.{before-is, same-sorted, ordered-sorted}
use Rattle.conf_reader.proofs.paths.sort.Goals as goal

pub returns : goal.returns
returns c =
    let up = c.in_ok-sort_by.ensures.sorted (λ x y. is_lt (slice_cmp nat_cmp x y)) (ranks_by nat_list_cmp_total (λ x. x)) (answers_always _ _ _ (λ f a r f' k. search rules)) in
    sym (ordered-sorted c.sort_by.new.self.items (λ k d z h. sym (before-is (get_or c.sort_by.new.self.items (k + 1) d) (get_or c.sort_by.new.self.items k d)) ∙ up k d z h))
    ∙ sym (same-sorted c.args.texts.now.items c.sort_by.new.self.items (λ f. sum_by-IsPermutation f c.args.texts.now.items c.sort_by.new.self.items c.in_ok-sort_by.ensures.permutation))
