-- Where a server's message goes, and what that says of the look-ups.
use Rattle.std.proofs.Common.{◌≡◌, ℕ, List, length, true, false, Bool, refl, ap, Option, Some, None, subst, Ok, Err}
use Rattle.std.specs.Prelude.{◌==◌, ◌&&◌, not}
use Rattle.mux_history.specs.Channels.{Channel, holder, live_in}
use Rattle.mux_history.specs.Forwardings.{Forwarding, live_at}
use Rattle.mux_history.specs.Summary.{Act, Confirmation, Fails, Summary, Open, Refuses, Requests, Succeeds, Transport, Within, read_summary, summary_recipient_of}
use Rattle.mux_history.specs.Heard.{Breaks, Dest, ToClient, ToMaster, dest, dest_asker, dest_confirmation, dest_summary, dest_open, dest_success, dest_within, is_open_pending, pending_open}
use Rattle.mux_history.specs.Keys.{learns_port}
use Rattle.mux_history.specs.Ledger.{breach}
use Rattle.mux_history.specs.Requests.{Ask, asker}
use Rattle.mux_history.specs.Rows.{Row}
use Rattle.ssh_grammar.specs.Messages.{Cancel, Forward, Forwarded, Global, KeepAlive, Key, Opens, OtherName}
use Rattle.ssh_grammar.specs.SpellMessage.{wants_reply}
use Rattle.ssh_grammar.specs.declared.fault.Bad.{Bad}
use Rattle.ssh_grammar.specs.declared.fault.Breach.{Breach}
use Rattle.ssh_grammar.specs.declared.side.Side.TheVariants.{Down}
use Rattle.mux_history.specs.declared.broke.Break.TheVariants as broke

pub dest-ok : (rows : List Row) (p : List ℕ) (m : Summary) → read_summary p ≡ Ok m → dest rows p ≡ dest_summary rows m
dest-ok rows p m reads = ap (λ r. elim r as (λ _. Dest) [ Err bad ↦ Breaks (broke.Message bad) | Ok m ↦ dest_summary rows m ]) reads

pub dest-err : (rows : List Row) (p : List ℕ) (bad : Bad) → read_summary p ≡ Err bad → dest rows p ≡ Breaks (broke.Message bad)
dest-err rows p bad reads = ap (λ r. elim r as (λ _. Dest) [ Err bad ↦ Breaks (broke.Message bad) | Ok m ↦ dest_summary rows m ]) reads

-- an open that goes to a client, by a forwarding that is live
pub record Offered (rows : List Row) (s : ℕ) (what : Opens) (k : ℕ) : Type 0 where
  pub key : Key
  pub is : what ≡ Forwarded key
  pub forwarding : Forwarding
  pub live : live_at rows key ≡ Some forwarding
  pub client : forwarding.client ≡ k
  pub unused : live_in rows s ≡ None

pub offered : (rows : List Row) (s : ℕ) (what : Opens) (k : ℕ) → dest_open rows s what ≡ ToClient k → Offered rows s what k
offered rows s (Forwarded key) k e = by_live (live_in rows s) refl e
  where
    by_at : (o : Option Forwarding) → live_at rows key ≡ o → live_in rows s ≡ None → (elim o as (λ _. Dest) [ Some f ↦ ToClient f.client | None ↦ ToMaster ]) ≡ ToClient k → Offered rows s (Forwarded key) k
    by_at None at unused e = cc
    by_at (Some f) at unused e = record { key = key; is = refl; forwarding = f; live = at; client = cc; unused = unused }

    by_live : (o : Option Channel) → live_in rows s ≡ o → (elim o as (λ _. Dest) [ Some x ↦ Breaks (broke.NumberInUse s) | None ↦ elim (live_at rows key) as (λ _. Dest) [ Some f ↦ ToClient f.client | None ↦ ToMaster ] ]) ≡ ToClient k → Offered rows s (Forwarded key) k
    by_live None unused e = by_at (live_at rows key) refl unused e
    by_live (Some x) used e = cc
offered rows s what k e = by_live (live_in rows s) e
  where
    by_live : (o : Option Channel) → (elim o as (λ _. Dest) [ Some x ↦ Breaks (broke.NumberInUse s) | None ↦ ToMaster ]) ≡ ToClient k → Offered rows s what k
    by_live None e = cc
    by_live (Some x) e = cc

-- a channel that holds the number, of this client
pub record Reached (rows : List Row) (n k : ℕ) : Type 0 where
  pub channel : Channel
  pub is : holder rows n ≡ Some channel
  pub client : channel.client ≡ k

-- one that a client began and that has no answer
pub record Awaited (rows : List Row) (n k : ℕ) : Type 0 where
  pub channel : Channel
  pub is : holder rows n ≡ Some channel
  pub waits : is_open_pending channel ≡ true
  pub client : channel.client ≡ k

pub record Confirmed (rows : List Row) (n s k : ℕ) : Type 0 where
  pub awaited : Awaited rows n k
  pub unused : live_in rows s ≡ None

awaited-by : (rows : List Row) (n k : ℕ) (d : Channel → Dest) → ((x : Channel) → d x ≡ ToClient k → x.client ≡ k) → (elim (pending_open rows n) as (λ _. Dest) [ None ↦ Breaks (broke.NotPending n) | Some x ↦ d x ]) ≡ ToClient k → Awaited rows n k
awaited-by rows n k d to e = by_holder (holder rows n) refl e
  where
    by_pending : (x : Channel) (b : Bool) → holder rows n ≡ Some x → is_open_pending x ≡ b → (elim (elim b as (λ _. Option Channel) [ true ↦ Some x | false ↦ None ]) as (λ _. Dest) [ None ↦ Breaks (broke.NotPending n) | Some x ↦ d x ]) ≡ ToClient k → Awaited rows n k
    by_pending x true held waits e = record { channel = x; is = held; waits = waits; client = to x e }
    by_pending x false held waits e = cc

    by_holder : (o : Option Channel) → holder rows n ≡ o → (elim (elim o as (λ _. Option Channel) [ None ↦ None | Some x ↦ elim (is_open_pending x) as (λ _. Option Channel) [ true ↦ Some x | false ↦ None ] ]) as (λ _. Dest) [ None ↦ Breaks (broke.NotPending n) | Some x ↦ d x ]) ≡ ToClient k → Awaited rows n k
    by_holder None held e = cc
    by_holder (Some x) held e = by_pending x (is_open_pending x) held refl e

pub confirmed : (rows : List Row) (n s k : ℕ) → dest_confirmation rows n s ≡ ToClient k → Confirmed rows n s k
confirmed rows n s k e = by_live (live_in rows s) refl e
  where
    to_client : (x : Channel) → ToClient x.client ≡ ToClient k → x.client ≡ k
    to_client x e = cc

    by_none : (o : Option Channel) → (elim o as (λ _. Dest) [ None ↦ Breaks (broke.NotPending n) | Some x ↦ Breaks (broke.NumberInUse s) ]) ≡ ToClient k → Confirmed rows n s k
    by_none None e = cc
    by_none (Some x) e = cc

    by_live : (o : Option Channel) → live_in rows s ≡ o → (elim (pending_open rows n) as (λ _. Dest) [ None ↦ Breaks (broke.NotPending n) | Some x ↦ elim o as (λ _. Dest) [ Some y ↦ Breaks (broke.NumberInUse s) | None ↦ ToClient x.client ] ]) ≡ ToClient k → Confirmed rows n s k
    by_live None unused e = record { awaited = awaited-by rows n k (λ x. ToClient x.client) to_client e; unused = unused }
    by_live (Some y) used e = by_none (pending_open rows n) e

-- any other message of a channel is legal there
pub record Legal (rows : List Row) (n : ℕ) (act : Act) (k : ℕ) : Type 0 where
  pub channel : Channel
  pub is : holder rows n ≡ Some channel
  pub client : channel.client ≡ k
  pub fine : breach Down act channel ≡ None

legal-by : (rows : List Row) (n : ℕ) (act : Act) (k : ℕ) → (elim (holder rows n) as (λ _. Dest) [ None ↦ Breaks (broke.NoChannel n) | Some x ↦ elim (breach Down act x) as (λ _. Dest) [ Some b ↦ Breaks (broke.Channel n b) | None ↦ ToClient x.client ] ]) ≡ ToClient k → Legal rows n act k
legal-by rows n act k e = by_holder (holder rows n) refl e
  where
    by_breach : (x : Channel) (b : Option Breach) → holder rows n ≡ Some x → breach Down act x ≡ b → (elim b as (λ _. Dest) [ Some b ↦ Breaks (broke.Channel n b) | None ↦ ToClient x.client ]) ≡ ToClient k → Legal rows n act k
    by_breach x None held fine e = record { channel = x; is = held; client = cc; fine = fine }
    by_breach x (Some b) held fine e = cc

    by_holder : (o : Option Channel) → holder rows n ≡ o → (elim o as (λ _. Dest) [ None ↦ Breaks (broke.NoChannel n) | Some x ↦ elim (breach Down act x) as (λ _. Dest) [ Some b ↦ Breaks (broke.Channel n b) | None ↦ ToClient x.client ] ]) ≡ ToClient k → Legal rows n act k
    by_holder None held e = cc
    by_holder (Some x) held e = by_breach x (breach Down act x) held refl e

pub fails-awaited : (rows : List Row) (n k : ℕ) → dest_within rows n Fails ≡ ToClient k → Awaited rows n k
fails-awaited rows n k e = awaited-by rows n k (λ x. ToClient x.client) to_client e
  where
    to_client : (x : Channel) → ToClient x.client ≡ ToClient k → x.client ≡ k
    to_client x e = cc

abbrev pub is_plain : Act → Bool
is_plain Fails = false
is_plain _ = true

pub within-legal : (rows : List Row) (n : ℕ) (act : Act) (k : ℕ) → is_plain act ≡ true → dest_within rows n act ≡ ToClient k → Legal rows n act k
within-legal rows n Fails k plain e = cc
within-legal rows n act k plain e = legal-by rows n act k e

reach : (rows : List Row) (n k : ℕ) → Awaited rows n k → Reached rows n k
reach rows n k a = record { channel = a.channel; is = a.is; client = a.client }

reach-legal : (rows : List Row) (n : ℕ) (act : Act) (k : ℕ) → Legal rows n act k → Reached rows n k
reach-legal rows n act k a = record { channel = a.channel; is = a.is; client = a.client }

-- each message with a recipient reaches a channel of its client
pub reached : (rows : List Row) (m : Summary) (n k : ℕ) → summary_recipient_of m ≡ Some n → dest_summary rows m ≡ ToClient k → Reached rows n k
reached rows (Confirmation n' s w max) n k some e = let same : n' ≡ n = cc in subst (λ (i : ℕ). Reached rows i k) same (reach rows n' k ((confirmed rows n' s k e).awaited))
reached rows (Within n' Fails) n k some e = let same : n' ≡ n = cc in subst (λ (i : ℕ). Reached rows i k) same (reach rows n' k (fails-awaited rows n' k e))
reached rows (Within n' act) n k some e = let same : n' ≡ n = cc in subst (λ (i : ℕ). Reached rows i k) same (reach-legal rows n' act k (legal-by rows n' act k e))
reached rows (Transport number) n k some e = cc
reached rows (Requests what wants_reply) n k some e = cc
reached rows (Succeeds rest) n k some e = cc
reached rows Refuses n k some e = cc
reached rows (Open what s w max) n k some e = cc

-- a reply goes to the client that asked first
pub record Asked (rows : List Row) (k : ℕ) : Type 0 where
  pub ask : Ask
  pub is : asker rows ≡ Some ask
  pub client : ask.client ≡ k

asked-by : (rows : List Row) (k : ℕ) (f : Ask → Dest) → ((a : Ask) → f a ≡ ToClient k → a.client ≡ k) → dest_asker (asker rows) f ≡ ToClient k → Asked rows k
asked-by rows k f to e = by_case (asker rows) refl e
  where
    by_case : (o : Option Ask) → asker rows ≡ o → dest_asker o f ≡ ToClient k → Asked rows k
    by_case None is e = cc
    by_case (Some a) is e = record { ask = a; is = is; client = to a e }

success-to : (rest : List ℕ) (k : ℕ) (a : Ask) → dest_success rest a ≡ ToClient k → a.client ≡ k
success-to rest k a e = by_what a.what e
  where
    by_bad : (b : Bool) → (elim b as (λ _. Dest) [ true ↦ Breaks (broke.BadReply (length rest)) | false ↦ ToClient a.client ]) ≡ ToClient k → a.client ≡ k
    by_bad true e = cc
    by_bad false e = cc

    by_what : (g : Global) → (elim g as (λ _. Dest) [ Forward key ↦ elim (learns_port key && not (length rest == 4)) as (λ _. Dest) [ true ↦ Breaks (broke.BadReply (length rest)) | false ↦ ToClient a.client ] | _ ↦ ToClient a.client ]) ≡ ToClient k → a.client ≡ k
    by_what (Forward key) e = by_bad (learns_port key && not (length rest == 4)) e
    by_what (Cancel key) e = cc
    by_what KeepAlive e = cc
    by_what OtherName e = cc

pub succeeds-asked : (rows : List Row) (rest : List ℕ) (k : ℕ) → dest_summary rows (Succeeds rest) ≡ ToClient k → Asked rows k
succeeds-asked rows rest k e = asked-by rows k (dest_success rest) (success-to rest k) e

pub refuses-asked : (rows : List Row) (k : ℕ) → dest_summary rows Refuses ≡ ToClient k → Asked rows k
refuses-asked rows k e = asked-by rows k (λ a. ToClient a.client) to_client e
  where
    to_client : (a : Ask) → ToClient a.client ≡ ToClient k → a.client ≡ k
    to_client a e = cc
