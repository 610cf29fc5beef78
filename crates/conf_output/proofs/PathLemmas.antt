-- The control path of settings.
use Rattle.std.proofs.Common.{◌≡◌, List, Option, Some, None, Ok, refl, sym, ap, ◌∙◌}
use Rattle.conf_rules.specs.declared.key.Key.TheVariants as keys
use Rattle.conf_rules.specs.declared.causes.TokenError.{TokenError}
use Rattle.conf_rules.specs.declared.causes.ListError.{ListError}
use Rattle.conf_rules.specs.Results.{Fails}
use Rattle.conf_rules.specs.Wants.{token_wants_memory, list_wants_memory}
use Rattle.conf_rules.specs.Texts.{Bytes}
use Rattle.conf_rules.specs.Recorded.{Facts}
use Rattle.conf_rules.specs.Tokens.{View}
use Rattle.conf_rules.specs.Rows.{word_in, but_none}
use Rattle.conf_rules.specs.Listing.{control_text, control_path_of}
use Rattle.conf_options.specs.Kept.{Given, first_value}
use Rattle.conf_output.specs.Shown.{listed_host_of, listing_view_of, path_of, list_refusal_of}
use Rattle.conf_output.proofs.KeyLemmas.{refused}

of-text : (view : View) (word : Option Bytes) (text path : Bytes) → word ≡ Some text → control_text view text ≡ Ok path → control_path_of view word ≡ Ok (Some path)
of-text view word text path e h = rw e (rw h refl)

refused-text : (view : View) (word : Option Bytes) (text : Bytes) (e : TokenError) (error : ListError) → word ≡ Some text → error ≡ list_refusal_of keys.ControlPath e → Fails token_wants_memory e (control_text view text)
    → Fails list_wants_memory error (control_path_of view word)
refused-text view word text e error w is h = rw w (refused keys.ControlPath (control_text view text) _ e error is h)

-- the view of settings is the one that was made of their host
pub made : (settings : List Given) (original host : Bytes) (facts : Facts) (view : View) → host ≡ listed_host_of settings original → view ≡ listing_view_of settings original host facts → listing_view_of settings original (listed_host_of settings original) facts ≡ view
made settings original host facts view h v = sym (v ∙ ap (λ x. listing_view_of settings original x facts) h)

path-at : (settings : List Given) (original : Bytes) (facts : Facts) (view : View) → listing_view_of settings original (listed_host_of settings original) facts ≡ view
    → path_of settings original facts ≡ control_path_of view (but_none (word_in (first_value keys.ControlPath settings)))
unfolding path_of
path-at settings original facts view v = ap (λ x. control_path_of x (but_none (word_in (first_value keys.ControlPath settings)))) v

pub path-none : (settings : List Given) (original : Bytes) (facts : Facts) → None ≡ but_none (word_in (first_value keys.ControlPath settings)) → path_of settings original facts ≡ Ok None
unfolding path_of
path-none settings original facts e = sym (ap (control_path_of (listing_view_of settings original (listed_host_of settings original) facts)) e)

pub path-some : (settings : List Given) (original host : Bytes) (facts : Facts) (view : View) (text path : Bytes) → Some text ≡ but_none (word_in (first_value keys.ControlPath settings)) → host ≡ listed_host_of settings original → view ≡ listing_view_of settings original host facts
    → control_text view text ≡ Ok path → path_of settings original facts ≡ Ok (Some path)
path-some settings original host facts view text path e h v read =
    path-at settings original facts view (made settings original host facts view h v) ∙ of-text view (but_none (word_in (first_value keys.ControlPath settings))) text path (sym e) read

pub path-refused : (settings : List Given) (original host : Bytes) (facts : Facts) (view : View) (text : Bytes) (e : TokenError) (error : ListError) → Some text ≡ but_none (word_in (first_value keys.ControlPath settings)) → host ≡ listed_host_of settings original
    → view ≡ listing_view_of settings original host facts → error ≡ list_refusal_of keys.ControlPath e → Fails token_wants_memory e (control_text view text) → Fails list_wants_memory error (path_of settings original facts)
path-refused settings original host facts view text e error w h v is read =
    rw (path-at settings original facts view (made settings original host facts view h v)) (refused-text view (but_none (word_in (first_value keys.ControlPath settings))) text e error (sym w) is read)
