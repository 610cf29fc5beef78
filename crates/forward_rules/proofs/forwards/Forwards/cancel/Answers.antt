use Rattle.std.proofs.Common.{rules, ◌≡◌, ◌∙◌, ap, sym, subst, position, map, refl, true, false, Bool, ℕ, List, Some, None, slice_index_or, slice_set}
use Rattle.std.specs.Prelude.{is_some, is_none, ◌&&◌}
use Rattle.mux_history.specs.Keys.{is_key}
use Rattle.mux_history.proofs.SameKeys.{key-is}
use Rattle.mux_history.proofs.Sends.{and-right}
use Rattle.ssh_grammar.specs.Messages.{Key}
use Rattle.conn_messages.specs.Keys.{IsShort, key_of, own_key_of}
use Rattle.forward_rules.specs.Listing.{listed_forward_of}
use Rattle.forward_rules.specs.State.{Forward}
use Rattle.forward_rules.specs.Step.{forward_cancelled, unanswered_cancels, is_free_at, is_live_at, is_forward_of, some_free}
use Rattle.forward_rules.specs.Taking.{AreFew}
use Rattle.forward_rules.specs.declared.listed.Listed.{Listed}
use Rattle.forward_rules.proofs.Counts.{few-first, few-without}
use Rattle.forward_rules.proofs.Places.{NonePasses, found, missed, passes, remove-found, sees, set-found}
use Rattle.forward_rules.proofs.forwards.Forwards.cancel.Goals as goal

-- where none is free nothing changes
none-free : (k : ℕ) (key : Key) (want : Bool) (fs : List Forward) → NonePasses (is_free_at k key) fs → (false ≡ some_free k key fs) × (fs ≡ forward_cancelled k key want fs)
none-free k key true fs none = (sym (ap is_some none.found), sym (none.changed (λ f. record f { cancel = Some (unanswered_cancels k fs) })))
none-free k key false fs none = (sym (ap is_some none.found), sym none.without)

free-found : (k : ℕ) (key : Key) (fs : List Listed) (i : ℕ) (d : Listed) → position (sees (is_free_at k key)) fs ≡ Some i → true ≡ some_free k key (map listed_forward_of fs)
free-found k key fs i d h = sym (ap is_some (found (is_free_at k key) fs i d h))

-- one that waits after the others
leaves : (k : ℕ) (key : Key) (fs : List Listed) (i r : ℕ) (x d : Listed) → position (sees (is_free_at k key)) fs ≡ Some i → listed_forward_of x ≡ record (listed_forward_of d) { cancel = Some r } → r ≡ unanswered_cancels k (map listed_forward_of fs) → d ≡ slice_index_or fs i d → map listed_forward_of (slice_set fs i x) ≡ forward_cancelled k key true (map listed_forward_of fs)
leaves k key fs i r x d h is rank at =
    set-found (is_free_at k key) (λ f. record f { cancel = Some (unanswered_cancels k (map listed_forward_of fs)) }) fs i x d h (is ∙ (ap (λ (q : ℕ). record (listed_forward_of d) { cancel = Some q }) rank ∙ ap (λ (e : Listed). record (listed_forward_of e) { cancel = Some (unanswered_cancels k (map listed_forward_of fs)) }) at))

few-leaves : (k : ℕ) (key : Key) (fs : List Forward) → AreFew fs → AreFew (forward_cancelled k key true fs)
few-leaves k key fs few = few-first (is_free_at k key) (λ f. record f { cancel = Some (unanswered_cancels k fs) }) (λ f. refl) fs few

-- the key of one that is listed is short
short-found : (k : ℕ) (key : Key) (fs : List Listed) (i : ℕ) (d : Listed) → position (sees (is_free_at k key)) fs ≡ Some i → IsShort key
short-found k key fs i d h = subst IsShort (key-is (own_key_of f.key) key same) f.short
  where
    f : Listed
    f = slice_index_or fs i d

    same : is_key (own_key_of (slice_index_or fs i d).key) key ≡ true
    same =
        let all = passes (is_free_at k key) fs i d h in
        let live = and-right (is_none (slice_index_or fs i d).cancel) (is_live_at key (listed_forward_of (slice_index_or fs i d))) (and-right (is_forward_of k (listed_forward_of (slice_index_or fs i d))) (is_none (slice_index_or fs i d).cancel && is_live_at key (listed_forward_of (slice_index_or fs i d))) all) in
        and-right (slice_index_or fs i d).live (is_key (own_key_of (slice_index_or fs i d).key) key) live

pub returns-in_default-clause-exact : goal.returns-in_default-clause-exact
returns-in_default-clause-exact c =
    let h : position (sees (is_free_at c.args.client (key_of c.args.key))) c.self.inside.listed.items ≡ None = search rules in
    rw (← c.self.view_is) (none-free c.args.client (key_of c.args.key) c.args.want (map listed_forward_of c.self.inside.listed.items) (missed (is_free_at c.args.client (key_of c.args.key)) c.self.inside.listed.items h)).0

pub returns-in_default-clause-step : goal.returns-in_default-clause-step
returns-in_default-clause-step c =
    let h : position (sees (is_free_at c.args.client (key_of c.args.key))) c.self.inside.listed.items ≡ None = search rules in
    rw (← c.self.view_is) (none-free c.args.client (key_of c.args.key) c.args.want (map listed_forward_of c.self.inside.listed.items) (missed (is_free_at c.args.client (key_of c.args.key)) c.self.inside.listed.items h)).1

pub invariant_of-self : goal.invariant_of-self
invariant_of-self c =
    let h : position (sees (is_free_at c.args.client (key_of c.args.key))) c.self.inside.listed.items ≡ Some c.in-Some.place = search rules in
    subst AreFew (sym (leaves c.args.client (key_of c.args.key) c.self.inside.listed.items c.in-Some.place c.cancels_in-rank.result _ c.index_mut.result.now h refl (search rules) c.index_mut.ensures.value)) (few-leaves c.args.client (key_of c.args.key) (map listed_forward_of c.self.inside.listed.items) c.self.invariant)

pub invariant_of-self-else-want : goal.invariant_of-self-else-want
invariant_of-self-else-want c =
    let h : position (sees (is_free_at c.args.client (key_of c.args.key))) c.self.inside.listed.items ≡ Some c.in-Some.place = search rules in
    subst AreFew (sym (ap (map listed_forward_of) c.remove.ensures.items ∙ remove-found (is_free_at c.args.client (key_of c.args.key)) c.self.inside.listed.items c.in-Some.place h)) (few-without (is_free_at c.args.client (key_of c.args.key)) (map listed_forward_of c.self.inside.listed.items) c.self.invariant)

pub returns-then-want-clause-exact : goal.returns-then-want-clause-exact
returns-then-want-clause-exact c =
    let h : position (sees (is_free_at c.args.client (key_of c.args.key))) c.self.inside.listed.items ≡ Some c.in-Some.place = search rules in
    rw (← c.self.view_is) (free-found c.args.client (key_of c.args.key) c.self.inside.listed.items c.in-Some.place c.index_mut.result.now h)

pub returns-then-want-clause-step : goal.returns-then-want-clause-step
returns-then-want-clause-step c =
    let h : position (sees (is_free_at c.args.client (key_of c.args.key))) c.self.inside.listed.items ≡ Some c.in-Some.place = search rules in
    rw (← c.self.view_is, c.if-want.true) (leaves c.args.client (key_of c.args.key) c.self.inside.listed.items c.in-Some.place c.cancels_in-rank.result _ c.index_mut.result.now h refl (search rules) c.index_mut.ensures.value)

pub returns-then-want-clause-short : goal.returns-then-want-clause-short
returns-then-want-clause-short c =
    let h : position (sees (is_free_at c.args.client (key_of c.args.key))) c.self.inside.listed.items ≡ Some c.in-Some.place = search rules in
    λ yes. short-found c.args.client (key_of c.args.key) c.self.inside.listed.items c.in-Some.place c.index_mut.result.now h

pub returns-else-want-clause-exact : goal.returns-else-want-clause-exact
returns-else-want-clause-exact c =
    let h : position (sees (is_free_at c.args.client (key_of c.args.key))) c.self.inside.listed.items ≡ Some c.in-Some.place = search rules in
    rw (← c.self.view_is) (free-found c.args.client (key_of c.args.key) c.self.inside.listed.items c.in-Some.place c.remove.result h)

pub returns-else-want-clause-step : goal.returns-else-want-clause-step
returns-else-want-clause-step c =
    let h : position (sees (is_free_at c.args.client (key_of c.args.key))) c.self.inside.listed.items ≡ Some c.in-Some.place = search rules in
    rw (← c.self.view_is, c.if-want.false) (ap (map listed_forward_of) c.remove.ensures.items ∙ remove-found (is_free_at c.args.client (key_of c.args.key)) c.self.inside.listed.items c.in-Some.place h)

pub returns-else-want-clause-short : goal.returns-else-want-clause-short
returns-else-want-clause-short c =
    let h : position (sees (is_free_at c.args.client (key_of c.args.key))) c.self.inside.listed.items ≡ Some c.in-Some.place = search rules in
    λ yes. short-found c.args.client (key_of c.args.key) c.self.inside.listed.items c.in-Some.place c.remove.result h
