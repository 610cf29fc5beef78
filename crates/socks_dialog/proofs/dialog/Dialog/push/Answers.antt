use Rattle.std.proofs.Common.{◌≡◌, ◌∙◌, ap, arith, ℕ, ◌+◌, ◌≤◌, List, ◌++◌, length, take, subst, sym, length-append, length-take}
use Rattle.socks_dialog.specs.State.{DialogState, DialogGoesOn, HasConnect, and_dialog_bytes}
use Rattle.socks_dialog.proofs.Stand.{stands_push, rest_push, connect_stays}
use Rattle.socks_dialog.proofs.dialog.Dialog.push.Goals as goal

-- what is kept is as much longer
kept_count : (kept bytes new : List ℕ) (n : ℕ) → new ≡ kept ++ take n bytes → n ≤ length bytes
    → length kept + n ≡ length new
kept_count kept bytes new n e le =
    omega (arith, ap length e, length-append kept (take n bytes), length-take n bytes)

pub returns-clause-stands : goal.returns-clause-stands
returns-clause-stands c =
    subst (λ (d : DialogState). DialogGoesOn c.args.self.now d (and_dialog_bytes c.args.bytes.now)) (sym c.keep.ensures.exact)
    (stands_push c.args.bytes.now c.args.self.now)

pub returns-clause-rest : goal.returns-clause-rest
returns-clause-rest c =
    rest_push c.args.bytes.now c.args.self.now c.keep.result
    (kept_count _ _ _ _ c.keep.ensures.front c.keep.ensures.within ∙ ap (λ (d : DialogState). length d.bytes) c.keep.ensures.exact)

pub returns-clause-connect : goal.returns-clause-connect
returns-clause-connect c = λ there.
    subst HasConnect (sym c.keep.ensures.exact) (connect_stays c.args.bytes.now c.args.self.now there)
