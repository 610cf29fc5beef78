-- What settings list is what the rows list that they keep.
use Rattle.std.proofs.Common.{◌≡◌, List, [], ◌∷◌, ◌++◌, Option, Result, Ok, refl, sym, ap, ◌∙◌, codes}
use Rattle.std.specs.Prelude.{flat_map}
use Rattle.mux_outside.specs.declared.facts.Facts.{Facts as TheFacts}
use Rattle.conf_rules.specs.declared.key.Key.{Key}
use Rattle.conf_rules.specs.declared.key.Key.TheVariants as keys
use Rattle.conf_rules.specs.declared.key.TheConstants.{LISTING_ORDER}
use Rattle.conf_rules.specs.declared.causes.TokenError.{TokenError}
use Rattle.conf_rules.specs.declared.causes.ListError.{ListError}
use Rattle.conf_rules.specs.Results.{◌>>=◌, GivesReading}
use Rattle.conf_rules.specs.Wants.{list_wants_memory}
use Rattle.conf_rules.specs.Texts.{Bytes}
use Rattle.conf_rules.specs.Kinds.{Showing, TheUser, TheHost, Path, Command, Forwards, Proxy, Plainly, key_showing}
use Rattle.conf_rules.specs.Recorded.{Recorded}
use Rattle.conf_rules.specs.Tokens.{View}
use Rattle.conf_rules.specs.Rows.{LineRow, given, values, values_among}
use Rattle.conf_rules.specs.Resolution.{view_at}
use Rattle.conf_rules.specs.Listing.{listed_line, shown_as, shown, key_lines, listing_over, control_path_at}
use Rattle.conf_options.specs.Kept.{Given, KeepsSettings}
use Rattle.conf_tokens.specs.Known.{known}
use Rattle.conf_output.specs.SettledListing.{SettledListing, ListsSettings, HasControlPath}
use Rattle.conf_output.specs.Shown.{listed_host_of, listing_view_of, shown_by, texts_shown_of, lines_over, list_of, path_of}
use Rattle.conf_output.proofs.KeyLemmas.{key_first}

-- the values of each key
same-values : (rows : List LineRow) (settings : List Given) → KeepsSettings settings (flat_map given rows) → (key : Key) → values key rows ≡ values_among key settings
unfolding values
same-values rows settings keeps key = sym (keeps.each key)

-- what tokens see, for the same name and facts
abbrev seen_of : Recorded → List Given → View
seen_of recorded settings = listing_view_of settings recorded.asked.original (listed_host_of settings recorded.asked.original) recorded.facts

same-view : (recorded : Recorded) (rows : List LineRow) (settings : List Given) → KeepsSettings settings (flat_map given rows) → view_at recorded rows ≡ seen_of recorded settings
unfolding view_at
same-view recorded rows settings keeps =
    rw (same-values rows settings keeps keys.Hostname, same-values rows settings keeps keys.ProxyJump, same-values rows settings keeps keys.Tag, same-values rows settings keeps keys.Port, same-values rows settings keeps keys.User, same-values rows settings keeps keys.HostKeyAlias) refl

-- the texts of a key, however it is listed
same-by : (recorded : Recorded) (rows : List LineRow) (settings : List Given) → KeepsSettings settings (flat_map given rows) → (key : Key) (how : Showing) → shown_as recorded rows key how ≡ shown_by settings (seen_of recorded settings) key how
same-by recorded rows settings keeps key TheUser = rw (same-values rows settings keeps key) refl
same-by recorded rows settings keeps key TheHost = rw (same-values rows settings keeps keys.Hostname) refl
same-by recorded rows settings keeps key Path = rw (same-values rows settings keeps key, same-view recorded rows settings keeps) refl
same-by recorded rows settings keeps key Command = rw (same-values rows settings keeps key, same-view recorded rows settings keeps) refl
same-by recorded rows settings keeps key Forwards = rw (same-values rows settings keeps keys.ClearAllForwardings, same-values rows settings keeps key) refl
same-by recorded rows settings keeps key Proxy = rw (same-values rows settings keeps key) refl
same-by recorded rows settings keeps key Plainly = rw (same-values rows settings keeps key) refl

same-shown : (recorded : Recorded) (rows : List LineRow) (settings : List Given) → KeepsSettings settings (flat_map given rows) → (key : Key) → shown recorded rows key ≡ texts_shown_of settings (seen_of recorded settings) key
unfolding shown
same-shown recorded rows settings keeps key = same-by recorded rows settings keeps key (key_showing key)

same-first : (key : Key) (r r' : Result (List Bytes) TokenError) (more more' : Result Bytes ListError) → r ≡ r' → more ≡ more' → key_first key r more ≡ key_first key r' more'
same-first key r r' more more' e f = rw (e, f) refl

-- the lines of keys
same-lines : (recorded : Recorded) (rows : List LineRow) (settings : List Given) → KeepsSettings settings (flat_map given rows) → (all : List Key) → key_lines recorded rows all ≡ lines_over settings (seen_of recorded settings) all
unfolding lines_over
same-lines recorded rows settings keeps [] = refl
same-lines recorded rows settings keeps (key ∷ more) = same-first key _ _ _ _ (same-shown recorded rows settings keeps key) (same-lines recorded rows settings keeps more)

-- after the name of the command line
abbrev behind_name : Bytes → Result Bytes ListError → Result Bytes ListError
behind_name original lines = lines >>= λ rest. Ok (listed_line (codes "host") original ++ rest)

of-recorded : (recorded : Recorded) (rows : List LineRow) (settings : List Given) → KeepsSettings settings (flat_map given rows) → listing_over LISTING_ORDER recorded rows ≡ list_of settings recorded.asked.original recorded.facts
unfolding listing_over list_of
of-recorded recorded rows settings keeps = ap (behind_name recorded.asked.original) (same-lines recorded rows settings keeps LISTING_ORDER)

-- the listing
same-listing : (recorded : Recorded) (rows : List LineRow) (settings : List Given) (original : Bytes) (machine : TheFacts) → SettledListing recorded rows settings original machine → listing_over LISTING_ORDER recorded rows ≡ list_of settings original (known machine)
same-listing recorded rows settings original machine s = of-recorded recorded rows settings s.keeps ∙ ap (λ name. list_of settings name recorded.facts) s.name ∙ ap (list_of settings original) s.facts

-- what is the listing of settings is that of each such resolution
pub lists : (result : Result Bytes ListError) (settings : List Given) (original : Bytes) (machine : TheFacts) → GivesReading list_wants_memory result (list_of settings original (known machine)) → ListsSettings result settings original machine
lists result settings original machine gives = λ recorded rows s. rw (same-listing recorded rows settings original machine s) gives

path-recorded : (recorded : Recorded) (rows : List LineRow) (settings : List Given) → KeepsSettings settings (flat_map given rows) → control_path_at recorded rows ≡ path_of settings recorded.asked.original recorded.facts
unfolding control_path_at path_of
path-recorded recorded rows settings keeps = rw (same-values rows settings keeps keys.ControlPath, same-view recorded rows settings keeps) refl

-- the control path
same-path : (recorded : Recorded) (rows : List LineRow) (settings : List Given) (original : Bytes) (machine : TheFacts) → SettledListing recorded rows settings original machine → control_path_at recorded rows ≡ path_of settings original (known machine)
same-path recorded rows settings original machine s = path-recorded recorded rows settings s.keeps ∙ ap (λ name. path_of settings name recorded.facts) s.name ∙ ap (path_of settings original) s.facts

-- what is the control path of settings is that of each such resolution
pub has-path : (result : Result (Option Bytes) ListError) (settings : List Given) (original : Bytes) (machine : TheFacts) → GivesReading list_wants_memory result (path_of settings original (known machine)) → HasControlPath result settings original machine
has-path result settings original machine gives = λ recorded rows s. rw (same-path recorded rows settings original machine s) gives
