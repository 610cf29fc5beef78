-- The paths that an Include line names, found in whatever order.
use Rattle.std.specs.Prelude.{◌≡◌, ℕ, if◌then◌else◌, List, flat_map, sum_by}
use Rattle.conf_rules.specs.Texts.{Bytes, is_empty_list}
use Rattle.conf_rules.specs.Recorded.{Recorded}
use Rattle.conf_rules.specs.Includes.{below, globbed}

-- two lists have the same texts, each as often, in whatever order
abbrev pub SameTexts : List Bytes → List Bytes → Type 0
SameTexts xs ys = (measure : Bytes → ℕ) → sum_by measure ys ≡ sum_by measure xs

-- paths with one more component; an empty one is dropped
abbrev pub with_component : Recorded → Bytes → List Bytes → List Bytes
with_component recorded component bases = if is_empty_list component then bases
    else flat_map (below recorded component) bases

-- the paths that paths expand to
abbrev pub all_globbed : Recorded → List Bytes → List Bytes
all_globbed recorded paths = flat_map (globbed recorded) paths
