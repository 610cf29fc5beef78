-- What a fold shows is what its rows show.
use Rattle.std.proofs.Common.{◌≡◌, List, refl, ap, ◌∙◌}
use Rattle.std.specs.List.{slice_get}
use Rattle.conf_rules.specs.declared.key.Key.{Key}
use Rattle.conf_rules.specs.declared.key.Key.TheVariants as keys
use Rattle.conf_rules.specs.Recorded.{Recorded}
use Rattle.conf_rules.specs.Rows.{LineRow, Pass, First, Second, values, value, word_in}
use Rattle.conf_rules.specs.Resolution.{host_from, host_at, view_at, seen_at, name_in_pass}
use Rattle.conf_fold.specs.declared.fold.Fold.{Fold}
use Rattle.conf_reader.specs.Blocks.{Blocks}
use Rattle.conf_fold.specs.FoldRepresents.{FoldRepresents, value_of_key, host_so_far, block_name, fold_view_of}

-- ---- values

-- the value of a key, by the settings and by the rows
pub setting-value : (recorded : Recorded) (pass : Pass) (fold : Fold) (rows : List LineRow) (blocks : Blocks) (key : Key) → FoldRepresents recorded pass fold rows blocks → value_of_key key fold ≡ value key rows
unfolding values
setting-value recorded pass fold rows blocks key s = ap (λ vs. slice_get vs 0) (s.keeps.each key)

-- the host name so far
pub host-same : (recorded : Recorded) (pass : Pass) (fold : Fold) (rows : List LineRow) (blocks : Blocks) → FoldRepresents recorded pass fold rows blocks → host_so_far fold ≡ host_at recorded.asked.original rows
host-same recorded pass fold rows blocks s =
    ap (λ o. host_from o (word_in (value_of_key keys.Hostname fold))) s.original
    ∙ ap (λ v. host_from recorded.asked.original (word_in v)) (setting-value recorded pass fold rows blocks keys.Hostname s)

-- what a Host line sees
pub name-same : (recorded : Recorded) (pass : Pass) (fold : Fold) (rows : List LineRow) (blocks : Blocks) → FoldRepresents recorded pass fold rows blocks → block_name fold ≡ name_in_pass recorded pass
name-same recorded First fold rows blocks s = rw (s.in_pass.name) s.original
name-same recorded (Second before) fold rows blocks s = rw (s.in_pass.name) refl

-- what tokens and criteria see
pub view-same : (recorded : Recorded) (pass : Pass) (fold : Fold) (rows : List LineRow) (blocks : Blocks) → FoldRepresents recorded pass fold rows blocks → fold_view_of fold recorded.facts ≡ seen_at recorded pass rows
unfolding view_at
view-same recorded First fold rows blocks s =
    let v = setting-value recorded First fold rows blocks in
    let h = host-same recorded First fold rows blocks s in
    rw (s.in_pass.name, h, s.original, v keys.ProxyJump s, v keys.Tag s, v keys.Port s, v keys.User s, v keys.HostKeyAlias s) refl
view-same recorded (Second before) fold rows blocks s =
    let v = setting-value recorded (Second before) fold rows blocks in
    let h = host-same recorded (Second before) fold rows blocks s in
    rw (s.in_pass.name, h, s.original, v keys.ProxyJump s, v keys.Tag s, v keys.Port s, v keys.User s, v keys.HostKeyAlias s) refl
