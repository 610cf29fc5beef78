-- What settings list: the same words as of a resolution's rows, over the values that are kept.
use Rattle.std.specs.Prelude.{false, if◌then◌else◌, List, [], ◌∷◌, ◌++◌, flat_map, Option, Result, Ok, codes}
use Rattle.conf_rules.specs.declared.key.Key.{Key}
use Rattle.conf_rules.specs.declared.key.Key.TheVariants as keys
use Rattle.conf_rules.specs.declared.key.TheConstants.{LISTING_ORDER}
use Rattle.conf_rules.specs.declared.value.Forward.{Forward}
use Rattle.conf_rules.specs.declared.causes.TokenError.{TokenError}
use Rattle.conf_rules.specs.declared.causes.TokenError.TheVariants as token_errors
use Rattle.conf_rules.specs.declared.causes.ListError.{ListError}
use Rattle.conf_rules.specs.declared.causes.ListError.TheVariants as list_errors
use Rattle.conf_rules.specs.declared.token_set.TokenSet.TheVariants.{Full}
use Rattle.conf_rules.specs.Results.{◌>>=◌}
use Rattle.conf_rules.specs.Texts.{Bytes, or_text}
use Rattle.conf_rules.specs.Keys.{keyword}
use Rattle.conf_rules.specs.Kinds.{default_of, Showing, TheUser, TheHost, Path, Command, Forwards, Proxy, Plainly, key_showing}
use Rattle.conf_rules.specs.Forwardings.{spelled_end, spelled_connect}
use Rattle.conf_rules.specs.Values.{spelled_value}
use Rattle.conf_rules.specs.Recorded.{Facts}
use Rattle.conf_rules.specs.Tokens.{View, user_of, expand}
use Rattle.conf_rules.specs.Rows.{values_among, word_in, number_in, but_none}
use Rattle.conf_rules.specs.Resolution.{host_from}
use Rattle.conf_rules.specs.Listing.{listed_line, is_set, with_default, text_list, expanded_one, control_text, at_key, control_path_of}
use Rattle.conf_options.specs.Kept.{Given, first_value}
use Rattle.conf_output.specs.declared.keys.Manner.{Manner}
use Rattle.conf_output.specs.declared.keys.Manner.TheVariants as manners

-- the host name
abbrev pub listed_host_of : List Given → Bytes → Bytes
listed_host_of settings original = host_from original (word_in (first_value keys.Hostname settings))

-- what tokens see
abbrev pub listing_view_of : List Given → Bytes → Bytes → Facts → View
listing_view_of settings original host facts = record {
  original = original;
  host = host;
  jump = or_text [] (but_none (word_in (first_value keys.ProxyJump settings)));
  tag = or_text [] (word_in (first_value keys.Tag settings));
  port = number_in 22 (first_value keys.Port settings);
  user = word_in (first_value keys.User settings);
  «alias» = word_in (first_value keys.HostKeyAlias settings);
  facts = facts;
  last = false;
  name = host;
}

-- a line for each text of a key
abbrev pub lines_of_key : Key → List Bytes → Bytes
lines_of_key key texts = flat_map (listed_line (keyword key)) texts

-- the same of a reading
abbrev pub texts_listed_of : Key → Result (List Bytes) TokenError → Result Bytes TokenError
texts_listed_of key reading = reading >>= λ texts. Ok (lines_of_key key texts)

-- all values of a key
abbrev pub value_texts : List Given → Key → List Bytes
value_texts settings key = flat_map spelled_value (values_among key settings)

-- the default of a key
abbrev pub default_texts : Key → List Bytes
default_texts key = flat_map spelled_value (with_default (default_of key) [])

-- all values of a key, or its default
abbrev pub plain_texts : List Given → Key → List Bytes
plain_texts settings key =
    flat_map spelled_value (with_default (default_of key) (values_among key settings))

-- all values of a key, unless forwardings are cleared
abbrev pub forward_texts : List Given → Key → List Bytes
forward_texts settings key = if is_set (first_value keys.ClearAllForwardings settings) then []
    else value_texts settings key

-- the value of a key, unless it is `none`
abbrev pub proxy_texts : List Given → Key → List Bytes
proxy_texts settings key = text_list (but_none (word_in (first_value key settings)))

-- the value of a key, or else the local user
abbrev pub user_texts : List Given → View → Key → Result (List Bytes) TokenError
user_texts settings view key =
    user_of 117 (word_in (first_value key settings)) view.facts.local_user >>= λ user.
    Ok (user ∷ [])

-- the value of a key, expanded as a path
abbrev pub path_texts : List Given → View → Key → Result (List Bytes) TokenError
path_texts settings view key = expanded_one (control_text view) (word_in (first_value key settings))

-- the value of a key, expanded as a command
abbrev pub command_texts : List Given → View → Key → Result (List Bytes) TokenError
command_texts settings view key =
    expanded_one (λ text. expand text Full view) (word_in (first_value key settings))

-- the texts of a key that is listed so
abbrev pub shown_by : List Given → View → Key → Showing → Result (List Bytes) TokenError
shown_by settings view key TheUser = user_texts settings view key
shown_by settings view key TheHost = Ok (view.host ∷ [])
shown_by settings view key Path = path_texts settings view key
shown_by settings view key Command = command_texts settings view key
shown_by settings view key Forwards = Ok (forward_texts settings key)
shown_by settings view key Proxy = Ok (proxy_texts settings key)
shown_by settings view key Plainly = Ok (plain_texts settings key)

-- the texts of a key
abbrev pub texts_shown_of : List Given → View → Key → Result (List Bytes) TokenError
texts_shown_of settings view key = shown_by settings view key (key_showing key)

-- the lines of some keys, or the first refusal
unfoldable pub lines_over : List Given → View → List Key → Result Bytes ListError
lines_over settings view [] = Ok []
lines_over settings view (key ∷ more) =
    at_key key (texts_shown_of settings view key) >>= λ texts. lines_over settings view more >>= λ rest.
    Ok (lines_of_key key texts ++ rest)

-- the listing
unfoldable pub list_of : List Given → Bytes → Facts → Result Bytes ListError
list_of settings original facts =
    lines_over settings (listing_view_of settings original (listed_host_of settings original) facts) LISTING_ORDER
    >>= λ rest. Ok (listed_line (codes "host") original ++ rest)

-- the control path
unfoldable pub path_of : List Given → Bytes → Facts → Result (Option Bytes) ListError
path_of settings original facts =
    control_path_of (listing_view_of settings original (listed_host_of settings original) facts)
    (but_none (word_in (first_value keys.ControlPath settings)))

-- ---- what the code has

-- a forwarding as it is listed
abbrev pub spelled_forward : Forward → Bytes
spelled_forward f = spelled_end f.listen ++ spelled_connect f.connect

-- how a key is listed
abbrev pub showing_of : Manner → Showing
showing_of manners.User = TheUser
showing_of manners.Host = TheHost
showing_of manners.Path = Path
showing_of manners.Command = Command
showing_of manners.Forwards = Forwards
showing_of manners.Proxy = Proxy
showing_of manners.Plain = Plainly

-- a token's refusal with its key, or out of memory
abbrev pub list_refusal_of : Key → TokenError → ListError
list_refusal_of key token_errors.OutOfMemory = list_errors.OutOfMemory
list_refusal_of key error = list_errors.Token key error
