use Rattle.std.proofs.Common.{◌≡◌, ◌∙◌, sym, ap, not, List, subst, Bool, true, false, rules, refl}
use Rattle.std.proofs.lemmas.Slice.Eq.{slice_eq-Decides, bytes_eq-Decides}
use Rattle.mux_outside.specs.Seen.{Seen, shown_of}
use Rattle.mux_outside.specs.declared.own_streams.OwnStream.{OwnStream}
use Rattle.mux_outside.specs.declared.shown.Shown.{Shown}
use Rattle.mux_outside.proofs.shown.Shown.is_of.Goals as goal

unturned : (b : Bool) → false ≡ not b → true ≡ b
unturned true e = refl
unturned false e = sym e

same-shown : (shown : Shown) (seen : Seen) → shown.listens ≡ seen.listens → shown.own ≡ seen.own → shown.listeners ≡ seen.listeners → shown ≡ shown_of seen
same-shown shown seen listens own listeners =
    subst (λ (l : Bool). shown ≡ record { listens = l; own = seen.own; listeners = seen.listeners }) listens
    (subst (λ (o : List OwnStream). shown ≡ record { listens = shown.listens; own = o; listeners = seen.listeners }) own
    (ap (λ l. record { listens = shown.listens; own = shown.own; listeners = l }) listeners))

pub returns : goal.returns
returns c same =
    let listens : c.args.self.now.listens ≡ c.args.state.now.seen.listens = search rules in
    let own : c.args.self.now.own ≡ c.args.state.now.seen.own = sym c.as_slice.ensures ∙ ((slice_eq-Decides (λ a b. search rules) _ _ _ (unturned _ c.if-ne.ensures)).0 refl ∙ (c.as_slice-2.ensures ∙ c.own.ensures)) in
    let listeners : c.args.self.now.listeners ≡ c.args.state.now.seen.listeners = sym c.as_slice-3.ensures ∙ ((bytes_eq-Decides c.as_slice-3.result.now c.as_slice-4.result.now).0 (sym c.eq.ensures ∙ same) ∙ (c.as_slice-4.ensures ∙ c.listeners.ensures)) in
    same-shown c.args.self.now c.args.state.now.seen listens own listeners
