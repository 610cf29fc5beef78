-- The listing of settings, after the name of the command line.
use Rattle.std.proofs.Common.{◌≡◌, List, Result, Ok, refl, sym, ap, ◌∙◌, codes}
use Rattle.conf_rules.specs.declared.key.TheConstants.{LISTING_ORDER}
use Rattle.conf_rules.specs.declared.causes.ListError.{ListError}
use Rattle.conf_rules.specs.declared.causes.ListError.TheVariants as list_errors
use Rattle.conf_rules.specs.Results.{Fails}
use Rattle.conf_rules.specs.Wants.{list_wants_memory}
use Rattle.conf_rules.specs.Texts.{Bytes}
use Rattle.conf_rules.specs.Recorded.{Facts}
use Rattle.conf_rules.specs.Tokens.{View}
use Rattle.conf_rules.specs.Listing.{listed_line}
use Rattle.conf_options.specs.Kept.{Given}
use Rattle.conf_output.specs.PutsListing.{with_listing_before}
use Rattle.conf_output.specs.Shown.{listed_host_of, listing_view_of, lines_over, list_of}
use Rattle.conf_output.proofs.PathLemmas.{made}

of-view : (settings : List Given) (original host : Bytes) (facts : Facts) (view : View) → host ≡ listed_host_of settings original → view ≡ listing_view_of settings original host facts
    → list_of settings original facts ≡ with_listing_before (listed_line (codes "host") original) (lines_over settings view LISTING_ORDER)
unfolding list_of
of-view settings original host facts view h v = ap (λ seen. with_listing_before (listed_line (codes "host") original) (lines_over settings seen LISTING_ORDER)) (made settings original host facts view h v)

pub listed-all : (settings : List Given) (original host : Bytes) (facts : Facts) (view : View) (front out : Bytes) → host ≡ listed_host_of settings original → view ≡ listing_view_of settings original host facts
    → front ≡ listed_line (codes "host") original → with_listing_before front (lines_over settings view LISTING_ORDER) ≡ Ok out → list_of settings original facts ≡ Ok out
listed-all settings original host facts view front out h v f put =
    of-view settings original host facts view h v ∙ sym (ap (λ x. with_listing_before x (lines_over settings view LISTING_ORDER)) f) ∙ put

behind-refused : (front : Bytes) (lines all : Result Bytes ListError) (e : ListError) → all ≡ with_listing_before front lines → Fails list_wants_memory e lines → Fails list_wants_memory e all
behind-refused front lines all list_errors.OutOfMemory is h = tt
behind-refused front lines all (list_errors.Token key error) is h = is ∙ rw h refl

pub listed-refused : (settings : List Given) (original host : Bytes) (facts : Facts) (view : View) (e : ListError) → host ≡ listed_host_of settings original → view ≡ listing_view_of settings original host facts
    → Fails list_wants_memory e (lines_over settings view LISTING_ORDER) → Fails list_wants_memory e (list_of settings original facts)
listed-refused settings original host facts view e h v refused =
    behind-refused (listed_line (codes "host") original) (lines_over settings view LISTING_ORDER) (list_of settings original facts) e (of-view settings original host facts view h v) refused
