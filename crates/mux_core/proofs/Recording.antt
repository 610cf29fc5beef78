-- A client for which something is recorded was admitted; and each answer is that of the row.
use Rattle.std.proofs.Common.{◌≡◌, ℕ, List, [], ◌∷◌, length, true, false, Bool, refl, ◌∙◌, ap, sym, subst, Option, Some, None, Result, Ok, Err, IfOk}
use Rattle.std.specs.Prelude.{find, ◌==◌, ◌&&◌, not, option_map}
use Rattle.std.specs.List.{AllByRecursion}
use Rattle.ssh_fields.specs.declared.out_of_memory.OutOfMemory.{OutOfMemory}
use Rattle.ssh_grammar.specs.declared.fault.Bad.{Bad}
use Rattle.ssh_grammar.specs.declared.fault.Breach.{Breach}
use Rattle.ssh_grammar.specs.declared.side.Side.TheVariants.{Down}
use Rattle.ssh_grammar.specs.Messages.{Direct, Forwarded, Key, Opens, OtherType, Session}
use Rattle.ssh_grammar.specs.Messages as full
use Rattle.proxy_frames.specs.State.{QueueState}
use Rattle.mux_history.specs.declared.broke.Break.TheVariants as broke
use Rattle.mux_history.specs.Summary.{Act, Asks, Answers, Carries, Closes, Confirmation, Confirms, Ends, Fails, Summary, Grants, Open, Refuses, Requests, Succeeds, Transport, Within, read_summary}
use Rattle.mux_history.specs.Rows.{Row}
use Rattle.mux_history.specs.Channels.{Channel, holder, live_in}
use Rattle.mux_history.specs.Forwardings.{Forwarding, current, live_at}
use Rattle.mux_history.specs.Heard.{Breaks, Dest, Disconnects, ToClient, ToMaster, dest, dest_asker, dest_confirmation, dest_summary, dest_open, dest_success, dest_within, is_open_pending, pending_open}
use Rattle.mux_history.specs.Keys.{learns_port}
use Rattle.mux_history.specs.Ledger.{breach}
use Rattle.mux_history.specs.Requests.{Ask, asker}
use Rattle.mux_history.proofs.Dests.{dest-ok}
use Rattle.channel_table.specs.Entries.{TableEntry, shown_at}
use Rattle.channel_table.specs.Stands.{EntryFits}
use Rattle.mux_core.specs.declared.heard.Delivery as recorded
use Rattle.mux_core.specs.declared.heard.Delivery.TheVariants as heard
use Rattle.mux_core.specs.State.{CoreState}
use Rattle.mux_core.specs.Stands.{CoreRepresents, is_member_known}
use Rattle.mux_core.specs.Calls.{ReceivesAs, ReceivesSummary, CoreReceivesOn, ReceivesWith, IsLetIn}
use Rattle.channel_table.proofs.EntryFits.{FoundFit}
use Rattle.mux_core.proofs.OpenedRow.{list-find, owner-served}
use Rattle.mux_core.proofs.ReplyRow.{asked-first, nobody-asked}
use Rattle.mux_core.proofs.ChannelReceived.{holder-fit}
use Rattle.mux_core.proofs.ReceivesWithin.{entry-known}
use Rattle.mux_core.proofs.OpensSent.{served-known}

to-is : (j k : ℕ) → ToClient j ≡ ToClient k → j ≡ k
to-is j k h = cc

-- the channel that a number names is one of a client that was admitted
holder-known : (s : CoreState) (n : ℕ) (rows : List Row) (x : Channel) → CoreRepresents s rows → holder rows n ≡ Some x → is_member_known s.clients x.client ≡ true
holder-known s n rows x st found = by_entry (find (shown_at n) s.channels) refl (subst (FoundFit (find (shown_at n) s.channels)) found (holder-fit s n rows st))
  where
    by_entry : (o : Option TableEntry) → find (shown_at n) s.channels ≡ o → FoundFit (find (shown_at n) s.channels) (Some x) → is_member_known s.clients x.client ≡ true
    by_entry None e fit = absurd (subst (λ o. FoundFit o (Some x)) e fit)
    by_entry (Some f) e fit =
        let one : EntryFits f x = subst (λ o. FoundFit o (Some x)) e fit in
        ap (is_member_known s.clients) (sym one.client) ∙ entry-known s n f st.known.channels e

-- a request that waits is one of such a client
asker-known : (s : CoreState) (rows : List Row) (a : Ask) → CoreRepresents s rows → asker rows ≡ Some a → is_member_known s.clients a.client ≡ true
asker-known s rows a st is = by_asks s.asks refl
  where
    by_asks : (us : List Ask) → s.asks ≡ us → is_member_known s.clients a.client ≡ true
    by_asks [] e = absurd (let x : None ≡ Some a = sym (nobody-asked s rows st e) ∙ is in cc)
    by_asks (u ∷ us) e =
        let same : u ≡ a = some-is u a (sym (asked-first s rows u us st e).all ∙ is) in
        subst (λ (v : Ask). is_member_known s.clients v.client ≡ true) same (subst (AllByRecursion (λ (b : Ask). is_member_known s.clients b.client ≡ true)) e st.known.asks).0
      where
        some-is : (x y : Ask) → Some x ≡ Some y → x ≡ y
        some-is x y h = cc

-- ---- where a message goes

success-known : (s : CoreState) (k : ℕ) (rest : List ℕ) (a : Ask) → is_member_known s.clients a.client ≡ true → dest_success rest a ≡ ToClient k → is_member_known s.clients k ≡ true
success-known s k rest a known h = ap (is_member_known s.clients) (sym (by_what a.what h)) ∙ known
  where
    by_test : (b : Bool) → (elim b as (λ _. Dest) [ true ↦ Breaks (broke.BadReply (length rest)) | false ↦ ToClient a.client ]) ≡ ToClient k → a.client ≡ k
    by_test true h = absurd (cc)
    by_test false h = to-is a.client k h

    by_what : (what : full.Global) → (elim what as (λ _. Dest) [
      | full.Forward key ↦ elim (learns_port key && not (length rest == 4)) as (λ _. Dest) [ true ↦ Breaks (broke.BadReply (length rest)) | false ↦ ToClient a.client ]
      | _ ↦ ToClient a.client
    ]) ≡ ToClient k → a.client ≡ k
    by_what (full.Forward key) h = by_test (learns_port key && not (length rest == 4)) h
    by_what (full.Cancel key) h = to-is a.client k h
    by_what full.KeepAlive h = to-is a.client k h
    by_what full.OtherName h = to-is a.client k h

reply-known : (s : CoreState) (k : ℕ) (rows : List Row) (f : Ask → Dest) → CoreRepresents s rows → ((a : Ask) → is_member_known s.clients a.client ≡ true → f a ≡ ToClient k → is_member_known s.clients k ≡ true) → dest_asker (asker rows) f ≡ ToClient k → is_member_known s.clients k ≡ true
reply-known s k rows f st each h = by_asker (asker rows) refl h
  where
    by_asker : (o : Option Ask) → asker rows ≡ o → dest_asker o f ≡ ToClient k → is_member_known s.clients k ≡ true
    by_asker None e h = absurd (cc)
    by_asker (Some a) e h = each a (asker-known s rows a st e) h

open-known : (s : CoreState) (k r : ℕ) (what : Opens) (rows : List Row) → CoreRepresents s rows → dest_open rows r what ≡ ToClient k → is_member_known s.clients k ≡ true
open-known s k r (Forwarded key) rows st h = by_live (live_in rows r) (live_at rows key) refl h
  where
    client-is : (g : Forwarding) → live_at rows key ≡ Some g → g.client ≡ k → is_member_known s.clients k ≡ true
    client-is g e same = served-known k s.clients (owner-served s k key s.forwards st.known.forwards (list-find key s.forwards (current rows) st.forwards.listed ∙ (ap (option_map (λ (g : Forwarding). g.client)) e ∙ ap Some same)))

    by_live : (x : Option Channel) (o : Option Forwarding) → live_at rows key ≡ o → (elim x as (λ _. Dest) [ Some y ↦ Breaks (broke.NumberInUse r) | None ↦ elim o as (λ _. Dest) [ Some f ↦ ToClient f.client | None ↦ ToMaster ] ]) ≡ ToClient k → is_member_known s.clients k ≡ true
    by_live (Some x) o e h = absurd (cc)
    by_live None None e h = absurd (cc)
    by_live None (Some g) e h = client-is g e (to-is g.client k h)
open-known s k r Session rows st h = absurd (nowhere (live_in rows r) h)
  where
    nowhere : (x : Option Channel) → (elim x as (λ _. Dest) [ Some y ↦ Breaks (broke.NumberInUse r) | None ↦ ToMaster ]) ≡ ToClient k → ⊥
    nowhere (Some x) h = cc
    nowhere None h = cc
open-known s k r (Direct key) rows st h = absurd (nowhere (live_in rows r) h)
  where
    nowhere : (x : Option Channel) → (elim x as (λ _. Dest) [ Some y ↦ Breaks (broke.NumberInUse r) | None ↦ ToMaster ]) ≡ ToClient k → ⊥
    nowhere (Some x) h = cc
    nowhere None h = cc
open-known s k r OtherType rows st h = absurd (nowhere (live_in rows r) h)
  where
    nowhere : (x : Option Channel) → (elim x as (λ _. Dest) [ Some y ↦ Breaks (broke.NumberInUse r) | None ↦ ToMaster ]) ≡ ToClient k → ⊥
    nowhere (Some x) h = cc
    nowhere None h = cc

-- an open that waits is held
pending-known : (s : CoreState) (n : ℕ) (rows : List Row) (x : Channel) → CoreRepresents s rows → pending_open rows n ≡ Some x → is_member_known s.clients x.client ≡ true
pending-known s n rows x st h = by_holder (holder rows n) refl h
  where
    some-is : (y z : Channel) → Some y ≡ Some z → y ≡ z
    some-is y z e = cc

    by_pending : (y : Channel) → holder rows n ≡ Some y → (b : Bool) → (elim b as (λ _. Option Channel) [ true ↦ Some y | false ↦ None ]) ≡ Some x → is_member_known s.clients x.client ≡ true
    by_pending y e true h = subst (λ (z : Channel). is_member_known s.clients z.client ≡ true) (some-is y x h) (holder-known s n rows y st e)
    by_pending y e false h = absurd (cc)

    by_holder : (o : Option Channel) → holder rows n ≡ o → (elim o as (λ _. Option Channel) [ None ↦ None | Some y ↦ elim (is_open_pending y) as (λ _. Option Channel) [ true ↦ Some y | false ↦ None ] ]) ≡ Some x → is_member_known s.clients x.client ≡ true
    by_holder None e h = absurd (cc)
    by_holder (Some y) e h = by_pending y e (is_open_pending y) h

confirmation-known : (s : CoreState) (k n r : ℕ) (rows : List Row) → CoreRepresents s rows → dest_confirmation rows n r ≡ ToClient k → is_member_known s.clients k ≡ true
confirmation-known s k n r rows st h = by_pending (pending_open rows n) refl (live_in rows r) h
  where
    by_pending : (o : Option Channel) → pending_open rows n ≡ o → (u : Option Channel) → (elim o as (λ _. Dest) [ None ↦ Breaks (broke.NotPending n) | Some x ↦ elim u as (λ _. Dest) [ Some y ↦ Breaks (broke.NumberInUse r) | None ↦ ToClient x.client ] ]) ≡ ToClient k → is_member_known s.clients k ≡ true
    by_pending None e u h = absurd (cc)
    by_pending (Some x) e (Some y) h = absurd (cc)
    by_pending (Some x) e None h = ap (is_member_known s.clients) (sym (to-is x.client k h)) ∙ pending-known s n rows x st e

in-channel : (s : CoreState) (k n : ℕ) (act : Act) (rows : List Row) → CoreRepresents s rows → (elim (holder rows n) as (λ _. Dest) [ None ↦ Breaks (broke.NoChannel n) | Some x ↦ elim (breach Down act x) as (λ _. Dest) [ Some b ↦ Breaks (broke.Channel n b) | None ↦ ToClient x.client ] ]) ≡ ToClient k → is_member_known s.clients k ≡ true
in-channel s k n act rows st h = by_holder (holder rows n) refl h
  where
    by_breach : (x : Channel) → holder rows n ≡ Some x → (o : Option Breach) → (elim o as (λ _. Dest) [ Some b ↦ Breaks (broke.Channel n b) | None ↦ ToClient x.client ]) ≡ ToClient k → is_member_known s.clients k ≡ true
    by_breach x e (Some b) h = absurd (cc)
    by_breach x e None h = ap (is_member_known s.clients) (sym (to-is x.client k h)) ∙ holder-known s n rows x st e

    by_holder : (o : Option Channel) → holder rows n ≡ o → (elim o as (λ _. Dest) [ None ↦ Breaks (broke.NoChannel n) | Some x ↦ elim (breach Down act x) as (λ _. Dest) [ Some b ↦ Breaks (broke.Channel n b) | None ↦ ToClient x.client ] ]) ≡ ToClient k → is_member_known s.clients k ≡ true
    by_holder None e h = absurd (cc)
    by_holder (Some x) e h = by_breach x e (breach Down act x) h

within-known : (s : CoreState) (k n : ℕ) (act : Act) (rows : List Row) → CoreRepresents s rows → dest_within rows n act ≡ ToClient k → is_member_known s.clients k ≡ true
within-known s k n Fails rows st h = by_pending (pending_open rows n) refl h
  where
    by_pending : (o : Option Channel) → pending_open rows n ≡ o → (elim o as (λ _. Dest) [ None ↦ Breaks (broke.NotPending n) | Some x ↦ ToClient x.client ]) ≡ ToClient k → is_member_known s.clients k ≡ true
    by_pending None e h = absurd (cc)
    by_pending (Some x) e h = ap (is_member_known s.clients) (sym (to-is x.client k h)) ∙ pending-known s n rows x st e
within-known s k n (Confirms w m) rows st h = in-channel s k n (Confirms w m) rows st h
within-known s k n (Grants add) rows st h = in-channel s k n (Grants add) rows st h
within-known s k n (Carries size) rows st h = in-channel s k n (Carries size) rows st h
within-known s k n Ends rows st h = in-channel s k n Ends rows st h
within-known s k n Closes rows st h = in-channel s k n Closes rows st h
within-known s k n (Asks want) rows st h = in-channel s k n (Asks want) rows st h
within-known s k n Answers rows st h = in-channel s k n Answers rows st h

dest-known : (s : CoreState) (k : ℕ) (p : List ℕ) (rows : List Row) → CoreRepresents s rows → dest rows p ≡ ToClient k → is_member_known s.clients k ≡ true
dest-known s k p rows st h = by_read (read_summary p) refl
  where
    by_disconnect : (b : Bool) → (elim b as (λ _. Dest) [ true ↦ Disconnects | false ↦ ToMaster ]) ≡ ToClient k → ⊥
    by_disconnect true h = cc
    by_disconnect false h = cc

    by_summary : (m : Summary) → dest_summary rows m ≡ ToClient k → is_member_known s.clients k ≡ true
    by_summary (Transport number) h = absurd (by_disconnect (number == 1) h)
    by_summary (Requests what wants) h = absurd (cc)
    by_summary (Succeeds rest) h = reply-known s k rows (dest_success rest) st (λ a known g. success-known s k rest a known g) h
    by_summary Refuses h = reply-known s k rows (λ a. ToClient a.client) st (λ a known g. ap (is_member_known s.clients) (sym (to-is a.client k g)) ∙ known) h
    by_summary (Open what r window maximum) h = open-known s k r what rows st h
    by_summary (Confirmation n r window maximum) h = confirmation-known s k n r rows st h
    by_summary (Within n act) h = within-known s k n act rows st h

    by_read : (r : Result Summary Bad) → read_summary p ≡ r → is_member_known s.clients k ≡ true
    by_read (Err bad) e = absurd (let x : Breaks (broke.Message bad) ≡ ToClient k = sym (rw (e, dest) refl) ∙ h in cc)
    by_read (Ok m) e = by_summary m (sym (dest-ok rows p m e) ∙ h)

-- ---- a client for which something is recorded was admitted

recorded-known : (s new : CoreState) (p p' : List ℕ) (up up' : QueueState) (h : recorded.Delivery) (rows : List Row) → CoreRepresents s rows → ReceivesAs new p p' up up' h rows (dest rows p) → IsLetIn s h
recorded-known s new p p' up up' (heard.Client k refusals) rows st receives = by_dest (dest rows p) refl receives
  where
    by_dest : (d : Dest) → dest rows p ≡ d → ReceivesAs new p p' up up' (heard.Client k refusals) rows d → is_member_known s.clients k ≡ true
    by_dest ToMaster e x = absurd (let y : heard.Client k refusals ≡ heard.Master = x.to in cc)
    by_dest (ToClient j) e x = ap (is_member_known s.clients) x.to.1 ∙ dest-known s j p rows st e
    by_dest Disconnects e x = absurd (let y : heard.Disconnect ≡ heard.Client k refusals = sym x.to in cc)
    by_dest (Breaks why) e x = absurd (let y : heard.Broke why ≡ heard.Client k refusals = sym x.to in cc)
recorded-known s new p p' up up' (heard.Lost k) rows st receives = by_dest (dest rows p) refl receives
  where
    by_dest : (d : Dest) → dest rows p ≡ d → ReceivesAs new p p' up up' (heard.Lost k) rows d → is_member_known s.clients k ≡ true
    by_dest ToMaster e x = absurd (let y : heard.Lost k ≡ heard.Master = x.to in cc)
    by_dest (ToClient j) e x = ap (is_member_known s.clients) x.to.1 ∙ dest-known s j p rows st e
    by_dest Disconnects e x = absurd (let y : heard.Disconnect ≡ heard.Lost k = sym x.to in cc)
    by_dest (Breaks why) e x = absurd (let y : heard.Broke why ≡ heard.Lost k = sym x.to in cc)
recorded-known s new p p' up up' heard.Master rows st receives = tt
recorded-known s new p p' up up' heard.Disconnect rows st receives = tt
recorded-known s new p p' up up' (heard.Broke why) rows st receives = tt

pub receives-on : (s new : CoreState) (p p' : List ℕ) (m : Summary) (up up' : QueueState) (h : recorded.Delivery) → read_summary p ≡ Ok m → ReceivesWith s new p p' m up up' h → CoreReceivesOn s new p p' up up' h
receives-on s new p p' m up up' h e receives = λ rows st. record { row = receives rows st e; let_in = recorded-known s new p p' up up' h rows st (receives rows st e) }

pub receives-result : (s new : CoreState) (p p' : List ℕ) (m : Summary) (up up' : QueueState) (r : Result recorded.Delivery OutOfMemory) → read_summary p ≡ Ok m → IfOk r (λ h. ReceivesWith s new p p' m up up' h) → IfOk r (λ h. CoreReceivesOn s new p p' up up' h)
receives-result s new p p' m up up' (Ok h) e receives = receives-on s new p p' m up up' h e receives
receives-result s new p p' m up up' (Err x) e receives = receives

pub receives-quiet : (s new : CoreState) (p p' : List ℕ) (m : Summary) (up : QueueState) (h : recorded.Delivery) → read_summary p ≡ Ok m → ReceivesSummary s new p p' m h → CoreReceivesOn s new p p' up up h
receives-quiet s new p p' m up h e receives = receives-on s new p p' m up up h e (λ rows st f. receives rows up st f)
