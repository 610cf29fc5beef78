use Rattle.std.proofs.Common.{rules, ◌≡◌, ◌∙◌, ap, sym, subst, position, map, refl, true, ℕ, List, Option, Some, None, slice_index_or, slice_set}
use Rattle.ssh_grammar.specs.Messages.{Key}
use Rattle.conn_messages.specs.Keys.{key_of, key_with_port}
use Rattle.forward_rules.specs.Listing.{listed_forward_of}
use Rattle.forward_rules.specs.State.{Forward}
use Rattle.forward_rules.specs.Step.{forward_answered, is_asked_with_key}
use Rattle.forward_rules.specs.Taking.{AreFew}
use Rattle.forward_rules.specs.declared.listed.Listed.{Listed}
use Rattle.forward_rules.proofs.Counts.{few-first, few-without}
use Rattle.forward_rules.proofs.Places.{NonePasses, missed, remove-found, sees, set-found}
use Rattle.forward_rules.proofs.forwards.Forwards.answer.Goals as goal

-- where none is asked nothing changes
none-asked : (k : ℕ) (key : Key) (port : Option ℕ) (fs : List Forward) → NonePasses (is_asked_with_key k key) fs → fs ≡ forward_answered k key port fs
none-asked k key None fs none = sym none.without
none-asked k key (Some port) fs none = sym (none.changed (λ f. record f { live = true; key = key_with_port port f.key }))

begun : (k port : ℕ) (key : Key) (fs : List Listed) (i : ℕ) (x d : Listed) → position (sees (is_asked_with_key k key)) fs ≡ Some i → listed_forward_of x ≡ record (listed_forward_of d) { live = true; key = key_with_port port (listed_forward_of d).key } → d ≡ slice_index_or fs i d → map listed_forward_of (slice_set fs i x) ≡ forward_answered k key (Some port) (map listed_forward_of fs)
begun k port key fs i x d h is at =
    set-found (is_asked_with_key k key) (λ f. record f { live = true; key = key_with_port port f.key }) fs i x d h (is ∙ ap (λ (e : Listed). record (listed_forward_of e) { live = true; key = key_with_port port (listed_forward_of e).key }) at)

few-begun : (k port : ℕ) (key : Key) (fs : List Forward) → AreFew fs → AreFew (forward_answered k key (Some port) fs)
few-begun k port key fs few = few-first (is_asked_with_key k key) (λ f. record f { live = true; key = key_with_port port f.key }) (λ f. refl) fs few

pub returns-in_default : goal.returns-in_default
returns-in_default c =
    let h : position (sees (is_asked_with_key c.args.client (key_of c.args.key))) c.self.inside.listed.items ≡ None = search rules in
    rw (← c.self.view_is) (none-asked c.args.client (key_of c.args.key) c.args.bound (map listed_forward_of c.self.inside.listed.items) (missed (is_asked_with_key c.args.client (key_of c.args.key)) c.self.inside.listed.items h))

pub invariant_of-self : goal.invariant_of-self
invariant_of-self c =
    let h : position (sees (is_asked_with_key c.args.client (key_of c.args.key))) c.self.inside.listed.items ≡ Some c.in-Some.place = search rules in
    subst AreFew (sym (begun c.args.client c.in-Some-bound.port (key_of c.args.key) c.self.inside.listed.items c.in-Some.place c.begin.new.self c.index_mut.result.now h (search rules) c.index_mut.ensures.value)) (few-begun c.args.client c.in-Some-bound.port (key_of c.args.key) (map listed_forward_of c.self.inside.listed.items) c.self.invariant)

pub invariant_of-self-in-None : goal.invariant_of-self-in-None
invariant_of-self-in-None c =
    let h : position (sees (is_asked_with_key c.args.client (key_of c.args.key))) c.self.inside.listed.items ≡ Some c.in-Some.place = search rules in
    subst AreFew (sym (ap (map listed_forward_of) c.remove.ensures.items ∙ remove-found (is_asked_with_key c.args.client (key_of c.args.key)) c.self.inside.listed.items c.in-Some.place h)) (few-without (is_asked_with_key c.args.client (key_of c.args.key)) (map listed_forward_of c.self.inside.listed.items) c.self.invariant)

pub returns-in-Some-bound : goal.returns-in-Some-bound
returns-in-Some-bound c =
    let h : position (sees (is_asked_with_key c.args.client (key_of c.args.key))) c.self.inside.listed.items ≡ Some c.in-Some.place = search rules in
    rw (← c.self.view_is, c.in-Some-bound.is) (begun c.args.client c.in-Some-bound.port (key_of c.args.key) c.self.inside.listed.items c.in-Some.place c.begin.new.self c.index_mut.result.now h (search rules) c.index_mut.ensures.value)

pub returns-in-None : goal.returns-in-None
returns-in-None c =
    let h : position (sees (is_asked_with_key c.args.client (key_of c.args.key))) c.self.inside.listed.items ≡ Some c.in-Some.place = search rules in
    rw (← c.self.view_is, c.in-None.is) (ap (map listed_forward_of) c.remove.ensures.items ∙ remove-found (is_asked_with_key c.args.client (key_of c.args.key)) c.self.inside.listed.items c.in-Some.place h)
