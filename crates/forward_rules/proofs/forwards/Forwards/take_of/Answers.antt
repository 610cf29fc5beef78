use Rattle.std.proofs.Common.{rules, ◌≡◌, ◌+◌, ◌∙◌, ap, sym, subst, position, map, refl, ℕ, List, Option, Some, None, slice_index_or}
use Rattle.std.specs.Prelude.{option_map, is_some}
use Rattle.mux_history.proofs.Sends.{and-left}
use Rattle.forward_rules.specs.Listing.{listed_forward_of}
use Rattle.forward_rules.specs.State.{Forward}
use Rattle.forward_rules.specs.Step.{forward_count_of, is_forward_of, forwards_without_client, without_first_forward}
use Rattle.forward_rules.specs.Taking.{AreFew, after_taking, closed_up, first_live, is_live_of, moved_up_of, rest_after, recorded_forward_of}
use Rattle.forward_rules.specs.declared.listed.Listed.{Listed}
use Rattle.forward_rules.proofs.Counts.{few-without, one-less, same-map, moved-client}
use Rattle.forward_rules.proofs.Places.{found, missed, remove-found, sees}
use Rattle.forward_rules.proofs.forwards.Forwards.take_of.Goals as goal

-- where none is live
none-live : (k : ℕ) (fs : List Listed) → position (sees (is_live_of k)) fs ≡ None → first_live k (map listed_forward_of fs) ≡ None
none-live k fs h = (missed (is_live_of k) fs h).found

-- what stays of the rest
same-closed : (k : ℕ) (cancel : Option ℕ) (fs : List Forward) (j : ℕ) → forward_count_of (closed_up k cancel fs) j ≡ forward_count_of fs j
same-closed k None fs j = refl
same-closed k (Some r) fs j = same-map (moved_up_of k r) (moved-client k r) fs j

-- where one is
one-live : (k : ℕ) (fs : List Listed) (i : ℕ) (x : Listed) → position (sees (is_live_of k)) fs ≡ Some i → x ≡ slice_index_or fs i x → first_live k (map listed_forward_of fs) ≡ Some (listed_forward_of x)
one-live k fs i x h is = found (is_live_of k) fs i x h ∙ ap (λ (f : Listed). Some (listed_forward_of f)) (sym is)

taking : (k : ℕ) (fs : List Listed) (x : Listed) → first_live k (map listed_forward_of fs) ≡ Some (listed_forward_of x) → closed_up k x.cancel (without_first_forward (is_live_of k) (map listed_forward_of fs)) ≡ after_taking k (map listed_forward_of fs)
taking k fs x h = sym (ap (rest_after k (map listed_forward_of fs)) h)

fewer : (k : ℕ) (fs : List Listed) (x : Listed) → first_live k (map listed_forward_of fs) ≡ Some (listed_forward_of x) → forward_count_of (closed_up k x.cancel (without_first_forward (is_live_of k) (map listed_forward_of fs))) k + 1 ≡ forward_count_of (map listed_forward_of fs) k
fewer k fs x h = ap (λ n. n + 1) (same-closed k x.cancel (without_first_forward (is_live_of k) (map listed_forward_of fs)) k) ∙ one-less (is_live_of k) k (λ f t. and-left (is_forward_of k f) f.live t) (map listed_forward_of fs) (listed_forward_of x) h

pub returns-in_default-clause-exact : goal.returns-in_default-clause-exact
returns-in_default-clause-exact c =
    let h : position (sees (is_live_of c.args.client)) c.self.inside.listed.items ≡ None = search rules in
    rw (← c.self.view_is) (sym (ap (option_map recorded_forward_of) (none-live c.args.client c.self.inside.listed.items h)))

pub returns-in_default-clause-step : goal.returns-in_default-clause-step
returns-in_default-clause-step c =
    let h : position (sees (is_live_of c.args.client)) c.self.inside.listed.items ≡ None = search rules in
    rw (← c.self.view_is) (c.leave.ensures ∙ (ap (forwards_without_client c.args.client) (sym c.self.view_is) ∙ sym (ap (rest_after c.args.client (map listed_forward_of c.self.inside.listed.items)) (none-live c.args.client c.self.inside.listed.items h))))

pub invariant_of-self : goal.invariant_of-self
invariant_of-self c =
    let h : position (sees (is_live_of c.args.client)) c.self.inside.listed.items ≡ Some c.in-Some.place = search rules in
    subst AreFew (sym (ap (map listed_forward_of) c.remove-taken.ensures.items ∙ remove-found (is_live_of c.args.client) c.self.inside.listed.items c.in-Some.place h)) (few-without (is_live_of c.args.client) (map listed_forward_of c.self.inside.listed.items) c.self.invariant)

pub returns-clause-exact : goal.returns-clause-exact
returns-clause-exact c =
    let h : position (sees (is_live_of c.args.client)) c.self.inside.listed.items ≡ Some c.in-Some.place = search rules in
    let b : c.is_some.result ≡ is_some c.remove-taken.result.cancel = search rules in
    rw (← c.self.view_is, b) (sym (ap (option_map recorded_forward_of) (one-live c.args.client c.self.inside.listed.items c.in-Some.place c.remove-taken.result h c.remove-taken.ensures.value)))

pub returns-clause-step : goal.returns-clause-step
returns-clause-step c =
    let h : position (sees (is_live_of c.args.client)) c.self.inside.listed.items ≡ Some c.in-Some.place = search rules in
    let x = c.remove-taken.result in
    let removed : map listed_forward_of c.remove-taken.new.self.items ≡ without_first_forward (is_live_of c.args.client) (map listed_forward_of c.self.inside.listed.items) = ap (map listed_forward_of) c.remove-taken.ensures.items ∙ remove-found (is_live_of c.args.client) c.self.inside.listed.items c.in-Some.place h in
    rw (← c.self.view_is) (c.close_up.ensures ∙ (ap (closed_up c.args.client x.cancel) removed ∙ taking c.args.client c.self.inside.listed.items x (one-live c.args.client c.self.inside.listed.items c.in-Some.place x h c.remove-taken.ensures.value)))

pub returns-clause-fewer : goal.returns-clause-fewer
returns-clause-fewer c =
    let h : position (sees (is_live_of c.args.client)) c.self.inside.listed.items ≡ Some c.in-Some.place = search rules in
    let x = c.remove-taken.result in
    let removed : map listed_forward_of c.remove-taken.new.self.items ≡ without_first_forward (is_live_of c.args.client) (map listed_forward_of c.self.inside.listed.items) = ap (map listed_forward_of) c.remove-taken.ensures.items ∙ remove-found (is_live_of c.args.client) c.self.inside.listed.items c.in-Some.place h in
    rw (← c.self.view_is) (ap (λ (fs : List Forward). forward_count_of fs c.args.client + 1) (c.close_up.ensures ∙ ap (closed_up c.args.client x.cancel) removed) ∙ fewer c.args.client c.self.inside.listed.items x (one-live c.args.client c.self.inside.listed.items c.in-Some.place x h c.remove-taken.ensures.value))
