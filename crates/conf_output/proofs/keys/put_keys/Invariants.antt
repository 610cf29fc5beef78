use Rattle.std.proofs.Common.{◌≡◌, drop}
use Rattle.conf_tokens.specs.Seen.{view_as_defined}
use Rattle.conf_output.specs.PutsListing.{with_listing_before}
use Rattle.conf_output.specs.Shown.{lines_over}
use Rattle.conf_output.proofs.keys.put_keys.Given as goal

abbrev pub invariant-loop-key : goal.invariant-loop-key
invariant-loop-key l = with_listing_before l.out (lines_over l.settings (view_as_defined l.view) (drop l.key-index l.keys)) ≡ with_listing_before l.initial.out (lines_over l.settings (view_as_defined l.view) l.keys)
