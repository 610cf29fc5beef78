-- What the server sends to a client goes to it alone too, and does the same.
use Rattle.std.proofs.Common.{◌≡◌, ℕ, List, [], ◌∷◌, length, true, false, Bool, refl, ◌∙◌, ap, map, sym, Option, Some, None, subst, Ok, Err}
use Rattle.std.specs.Prelude.{◌==◌, ◌&&◌, filter, find, not, Result, option_map, nat_lt, codes, slice_get}
use Rattle.mux_history.specs.Channels.{Channel, channels_of, holder, is_channel_held, is_number, live_in}
use Rattle.mux_history.specs.Farewell.{late, late_refusal, late_success, with_ask}
use Rattle.mux_history.specs.Forwardings.{Forwarding, live_at}
use Rattle.mux_history.specs.Summary.{Act, Confirmation, Fails, Summary, Open, Refuses, Requests, Succeeds, Transport, Within, read_summary, summary_recipient_of}
use Rattle.mux_history.specs.Heard.{Breaks, Dest, Disconnects, ToClient, ToMaster, dest, dest_asker, dest_confirmation, dest_summary, dest_open, dest_success, dest_within, for_client, for_lost, received_for, received_summary, is_open_pending, own_number, renamed}
use Rattle.mux_history.specs.Keys.{has_key}
use Rattle.mux_history.specs.Ledger.{breach}
use Rattle.mux_history.specs.Log.{received_row, row_of, treat}
use Rattle.mux_history.specs.Policy.{Policy}
use Rattle.mux_history.specs.Requests.{asker, wanted_requests, replies}
use Rattle.mux_history.specs.Rows.{Goes, Heard, Row, is_lost, rows_of}
use Rattle.mux_history.specs.Said.{Outcome, sends_payload, silent, records}
use Rattle.mux_history.specs.Solo.{item_for}
use Rattle.ssh_grammar.specs.Frames.{frame_payload}
use Rattle.ssh_grammar.specs.Messages.{Key}
use Rattle.ssh_grammar.specs.SpellMessage.{open_failure, wants_reply, with_recipient}
use Rattle.ssh_grammar.specs.declared.fault.Bad.{Bad}
use Rattle.ssh_grammar.specs.declared.side.Side.TheVariants.{Down}
use Rattle.mux_history.specs.declared.broke.Break.TheVariants as broke
use Rattle.mux_history.proofs.Apart.{AreApart, NotLive, each-filter, find-none}
use Rattle.mux_history.proofs.Askers.{Orderly, asker-local}
use Rattle.mux_history.proofs.Dests.{Asked, Awaited, Confirmed, Legal, Offered, confirmed, dest-err, dest-ok, fails-awaited, offered, reached, refuses-asked, succeeds-asked, within-legal}
use Rattle.mux_history.proofs.Finds.{Each, filter-no, filter-yes, find-no, find-yes}
use Rattle.mux_history.proofs.ForwardsLocal.{live-local}
use Rattle.mux_history.proofs.Local.{channels-local, is_of}
use Rattle.mux_history.proofs.OwnRows.{all-of, rows-all}
use Rattle.mux_history.proofs.Readings.{reading-ok}
use Rattle.mux_history.proofs.Renumbered.{read-renamed, readdressed, renamed-twice}
use Rattle.mux_history.proofs.Sends.{quiet-heard}
use Rattle.mux_isolation.proofs.Alike.{Alike, breach-blind, count-alike, find-alike}
use Rattle.mux_isolation.proofs.Alone.{asks-alone, lost-alone, waiting-alone, wanted-alone}
use Rattle.mux_isolation.proofs.Meets.{Meets, own_numbered}
use Rattle.mux_isolation.proofs.Named.{Met, holder-local, met, named-heard, number-met, small-own}
use Rattle.mux_isolation.proofs.Numbers.{AllNamed, channels-alone}
use Rattle.mux_isolation.proofs.Rows.{AllSmall, alone-all, forwardings-alone, replies-alone, row-alone, same-payload, seen_payload}
use Rattle.mux_isolation.proofs.Solos.{alone, alone_row}

-- ---- look-ups alone

each-none : (test : Channel → Bool) (xs : List Channel) → Each (λ x. is_channel_held x ≡ true → test x ≡ false) xs → find test (filter is_channel_held xs) ≡ None
each-none test [] all = refl
each-none test (x ∷ xs) all = by_case (each-none test xs all.1) (is_channel_held x) refl
  where
    by_case : find test (filter is_channel_held xs) ≡ None → (b : Bool) → is_channel_held x ≡ b → find test (filter is_channel_held (x ∷ xs)) ≡ None
    by_case ih false e = ap (find test) (filter-no is_channel_held x xs e) ∙ ih
    by_case ih true e = ap (find test) (filter-yes is_channel_held x xs e) ∙ (find-no test x (filter is_channel_held xs) (all.0 e) ∙ ih)

same-flags : (a t : Bool) → (a && true) ≡ (t && true) → a ≡ t
same-flags true true e = refl
same-flags false false e = refl
same-flags true false e = cc
same-flags false true e = cc

find-met : (n c : ℕ) (xs : List Channel) → Each (Meets n c) xs → find (λ x. is_number x.number c) (filter is_channel_held (map own_numbered xs)) ≡ option_map own_numbered (find (λ x. is_number x.number n) (filter is_channel_held xs))
find-met n c [] meets = refl
find-met n c (x ∷ xs) meets = by_case (find-met n c xs meets.1) (is_channel_held x) refl (is_number x.number n) refl
  where
    by_case : find (λ y. is_number y.number c) (filter is_channel_held (map own_numbered xs)) ≡ option_map own_numbered (find (λ y. is_number y.number n) (filter is_channel_held xs)) → (b : Bool) → is_channel_held x ≡ b → (t : Bool) → is_number x.number n ≡ t → find (λ y. is_number y.number c) (filter is_channel_held (map own_numbered (x ∷ xs))) ≡ option_map own_numbered (find (λ y. is_number y.number n) (filter is_channel_held (x ∷ xs)))
    by_case ih false e t f = ap (find (λ (y : Channel). is_number y.number c)) (filter-no is_channel_held (own_numbered x) (map own_numbered xs) e) ∙ (ih ∙ sym (ap (λ ys. option_map own_numbered (find (λ (y : Channel). is_number y.number n) ys)) (filter-no is_channel_held x xs e)))
    by_case ih true e t f = by_test t f (sym (same-flags (is_number x.number n) (is_number x.own c) (subst (λ (b : Bool). (is_number x.number n && b) ≡ (is_number x.own c && b)) e meets.0)) ∙ f)
      where
        by_test : (t : Bool) → is_number x.number n ≡ t → is_number x.own c ≡ t → find (λ y. is_number y.number c) (filter is_channel_held (map own_numbered (x ∷ xs))) ≡ option_map own_numbered (find (λ y. is_number y.number n) (filter is_channel_held (x ∷ xs)))
        by_test true f g =
            ap (find (λ (y : Channel). is_number y.number c)) (filter-yes is_channel_held (own_numbered x) (map own_numbered xs) e)
            ∙ (find-yes (λ (y : Channel). is_number y.number c) (own_numbered x) (filter is_channel_held (map own_numbered xs)) g
            ∙ sym (ap (λ ys. option_map own_numbered (find (λ (y : Channel). is_number y.number n) ys)) (filter-yes is_channel_held x xs e) ∙ ap (option_map own_numbered) (find-yes (λ (y : Channel). is_number y.number n) x (filter is_channel_held xs) f)))
        by_test false f g =
            ap (find (λ (y : Channel). is_number y.number c)) (filter-yes is_channel_held (own_numbered x) (map own_numbered xs) e)
            ∙ (find-no (λ (y : Channel). is_number y.number c) (own_numbered x) (filter is_channel_held (map own_numbered xs)) g
            ∙ (ih ∙ sym (ap (λ ys. option_map own_numbered (find (λ (y : Channel). is_number y.number n) ys)) (filter-yes is_channel_held x xs e) ∙ ap (option_map own_numbered) (find-no (λ (y : Channel). is_number y.number n) x (filter is_channel_held xs) f))))

module _ (before : List Row) (good : AreApart (channels_of before)) (orderly : Orderly before) (k : ℕ) (named : AllNamed (rows_of k before)) (small : AllSmall (rows_of k before)) where
  abbrev own : List Row
  own = rows_of k before

  pub alike : Alike (rows_of k before) (alone (rows_of k before))
  alike = record { channels = channels-alone (rows_of k before) named; forwardings = forwardings-alone k (rows_of k before) (all-of k before) small; wanted = wanted-alone (rows_of k before); replies = replies-alone (rows_of k before) small; asks = asks-alone (rows_of k before); waiting = waiting-alone (rows_of k before) }

  live-alone : (s : ℕ) → live_in before s ≡ None → live_in (alone (rows_of k before)) s ≡ None
  live-alone s none =
      find-alike (rows_of k before) (alone (rows_of k before)) alike (λ x. is_number x.remote s) (λ x. refl)
      ∙ ap (option_map own_numbered) (ap (λ cs. find (λ (x : Channel). is_number x.remote s) (filter is_channel_held cs)) (sym (channels-local k before)) ∙ each-none (λ x. is_number x.remote s) (filter (is_of k) (channels_of before)) (each-filter k (NotLive s) (channels_of before) (find-none (λ x. is_number x.remote s) (channels_of before) none)))

  holder-alone : (n : ℕ) (r : Met (rows_of k before) n) → holder (alone (rows_of k before)) r.c ≡ Some (own_numbered r.channel)
  holder-alone n r =
      ap (λ cs. find (λ (x : Channel). is_number x.number r.c) (filter is_channel_held cs)) (channels-alone (rows_of k before) named)
      ∙ (find-met n r.c (channels_of (rows_of k before)) r.meets ∙ ap (option_map own_numbered) r.is)

  asker-alone : asker (alone (rows_of k before)) ≡ asker (rows_of k before)
  asker-alone = ap (λ xs. slice_get xs (length (replies (alone (rows_of k before))))) (asks-alone (rows_of k before)) ∙ ap (λ rs. slice_get (wanted_requests (rows_of k before)) (length rs)) (replies-alone (rows_of k before) small)

  live-at-alone : (key : Key) → live_at (alone (rows_of k before)) key ≡ live_at (rows_of k before) key
  live-at-alone key = ap (λ fs. find (λ (f : Forwarding). has_key f.live key) (filter (λ (f : Forwarding). not f.over) fs)) (forwardings-alone k (rows_of k before) (all-of k before) small)

  -- ---- the payload that the client sees

  seen-number : (p : List ℕ) (m : Summary) (n : ℕ) → read_summary p ≡ Ok m → summary_recipient_of m ≡ Some n → (r : Met (rows_of k before) n) → seen_payload (rows_of k before) p ≡ with_recipient p r.c
  seen-number p m n reads some r = reading-ok p m (λ m. renamed (rows_of k before) p (summary_recipient_of m)) p reads ∙ (ap (renamed (rows_of k before) p) some ∙ ap (with_recipient p) (number-met before good k n r))

  -- ---- it goes to the client alone too

  confirmation-to : (n s : ℕ) (r : Met (rows_of k before) n) → is_open_pending r.channel ≡ true → r.channel.client ≡ k → live_in before s ≡ None → dest_confirmation (alone (rows_of k before)) r.c s ≡ ToClient k
  confirmation-to n s r waits mine unused =
      ap (λ o. elim (elim o as (λ _. Option Channel) [ None ↦ None | Some x ↦ elim (is_open_pending x) as (λ _. Option Channel) [ true ↦ Some x | false ↦ None ] ]) as (λ _. Dest) [ None ↦ Breaks (broke.NotPending r.c) | Some x ↦ elim (live_in (alone (rows_of k before)) s) as (λ _. Dest) [ Some y ↦ Breaks (broke.NumberInUse s) | None ↦ ToClient x.client ] ]) (holder-alone n r)
      ∙ (ap (λ b. elim (elim b as (λ _. Option Channel) [ true ↦ Some (own_numbered r.channel) | false ↦ None ]) as (λ _. Dest) [ None ↦ Breaks (broke.NotPending r.c) | Some x ↦ elim (live_in (alone (rows_of k before)) s) as (λ _. Dest) [ Some y ↦ Breaks (broke.NumberInUse s) | None ↦ ToClient x.client ] ]) waits
      ∙ (ap (λ o. elim o as (λ _. Dest) [ Some y ↦ Breaks (broke.NumberInUse s) | None ↦ ToClient r.channel.client ]) (live-alone s unused)
      ∙ ap ToClient mine))

  fails-to : (n : ℕ) (r : Met (rows_of k before) n) → is_open_pending r.channel ≡ true → r.channel.client ≡ k → dest_within (alone (rows_of k before)) r.c Fails ≡ ToClient k
  fails-to n r waits mine =
      ap (λ o. elim (elim o as (λ _. Option Channel) [ None ↦ None | Some x ↦ elim (is_open_pending x) as (λ _. Option Channel) [ true ↦ Some x | false ↦ None ] ]) as (λ _. Dest) [ None ↦ Breaks (broke.NotPending r.c) | Some x ↦ ToClient x.client ]) (holder-alone n r)
      ∙ (ap (λ b. elim (elim b as (λ _. Option Channel) [ true ↦ Some (own_numbered r.channel) | false ↦ None ]) as (λ _. Dest) [ None ↦ Breaks (broke.NotPending r.c) | Some x ↦ ToClient x.client ]) waits
      ∙ ap ToClient mine)

  legal-to : (n : ℕ) (act : Act) (r : Met (rows_of k before) n) → breach Down act r.channel ≡ None → r.channel.client ≡ k → (elim (holder (alone (rows_of k before)) r.c) as (λ _. Dest) [ None ↦ Breaks (broke.NoChannel r.c) | Some x ↦ elim (breach Down act x) as (λ _. Dest) [ Some b ↦ Breaks (broke.Channel r.c b) | None ↦ ToClient x.client ] ]) ≡ ToClient k
  legal-to n act r fine mine =
      ap (λ o. elim o as (λ _. Dest) [ None ↦ Breaks (broke.NoChannel r.c) | Some x ↦ elim (breach Down act x) as (λ _. Dest) [ Some b ↦ Breaks (broke.Channel r.c b) | None ↦ ToClient x.client ] ]) (holder-alone n r)
      ∙ (ap (λ o. elim o as (λ _. Dest) [ Some b ↦ Breaks (broke.Channel r.c b) | None ↦ ToClient r.channel.client ]) (breach-blind Down act r.channel ∙ fine)
      ∙ ap ToClient mine)

  some-same : (x y : Channel) → Some x ≡ Some y → x ≡ y
  some-same x y e = cc

  -- the channel met is the one that was found
  same-channel : (n : ℕ) (x : Channel) → holder before n ≡ Some x → x.client ≡ k → (r : Met (rows_of k before) n) → x ≡ r.channel
  same-channel n x held mine r = some-same x r.channel (sym (holder-local before good k n x held mine) ∙ r.is)

  message-to : (m : Summary) (n : ℕ) → summary_recipient_of m ≡ Some n → dest_summary before m ≡ ToClient k → (r : Met (rows_of k before) n) → dest_summary (alone (rows_of k before)) (readdressed r.c m) ≡ ToClient k
  message-to (Confirmation n' s w max) n some to r =
      let same : n' ≡ n = cc in
      let f : Confirmed before n' s k = confirmed before n' s k to in
      let eq : f.awaited.channel ≡ r.channel = same-channel n f.awaited.channel (sym (ap (holder before) same) ∙ f.awaited.is) f.awaited.client r in
      confirmation-to n s r (sym (ap is_open_pending eq) ∙ f.awaited.waits) (sym (ap (λ (x : Channel). x.client) eq) ∙ f.awaited.client) f.unused
  message-to (Within n' Fails) n some to r =
      let same : n' ≡ n = cc in
      let f : Awaited before n' k = fails-awaited before n' k to in
      let eq : f.channel ≡ r.channel = same-channel n f.channel (sym (ap (holder before) same) ∙ f.is) f.client r in
      fails-to n r (sym (ap is_open_pending eq) ∙ f.waits) (sym (ap (λ (x : Channel). x.client) eq) ∙ f.client)
  message-to (Within n' act) n some to r =
      let same : n' ≡ n = cc in
      let f : Legal before n' act k = within-legal before n' act k refl to in
      let eq : f.channel ≡ r.channel = same-channel n f.channel (sym (ap (holder before) same) ∙ f.is) f.client r in
      legal-to n act r (sym (ap (breach Down act) eq) ∙ f.fine) (sym (ap (λ (x : Channel). x.client) eq) ∙ f.client)
  message-to (Transport number) n some to r = cc
  message-to (Requests what wants_reply) n some to r = cc
  message-to (Succeeds rest) n some to r = cc
  message-to Refuses n some to r = cc
  message-to (Open what s w max) n some to r = cc

  -- ---- what it does

  late-alone : (m : Summary) (c : ℕ) → late (readdressed c m) (alone (rows_of k before)) ≡ late m (rows_of k before)
  late-alone (Confirmation n s w max) c = refl
  late-alone (Within n act) c = refl
  late-alone (Succeeds rest) c = ap (λ o. with_ask o (late_success rest)) asker-alone
  late-alone Refuses c = ap (λ o. with_ask o late_refusal) asker-alone
  late-alone (Transport number) c = refl
  late-alone (Requests what wants_reply) c = refl
  late-alone (Open what s w max) c = refl

  recorded-number : (p : List ℕ) (m : Summary) (n : ℕ) → read_summary p ≡ Ok m → summary_recipient_of m ≡ Some n → (r : Met (rows_of k before) n) → renamed (alone (rows_of k before)) (with_recipient p r.c) (Some r.c) ≡ renamed (rows_of k before) p (Some n)
  recorded-number p m n reads some r =
      ap (λ o. with_recipient (with_recipient p r.c) (own_number o)) (holder-alone n r)
      ∙ (ap (λ o. with_recipient (with_recipient p r.c) (elim o as (λ _. ℕ) [ None ↦ 0 | Some c ↦ c ])) r.owns
      ∙ (renamed-twice p m r.c r.small reads ∙ sym (ap (with_recipient p) (number-met before good k n r))))

  client-alone : (p : List ℕ) (m : Summary) (n : ℕ) → read_summary p ≡ Ok m → summary_recipient_of m ≡ Some n → (r : Met (rows_of k before) n) → for_client (alone (rows_of k before)) (with_recipient p r.c) (readdressed r.c m) ≡ for_client (rows_of k before) p m
  client-alone p (Confirmation n' s w max) n reads some r = let same : n ≡ n' = cc in ap (λ q. records (frame_payload q)) (recorded-number p (Confirmation n' s w max) n reads some r) ∙ ap (λ i. records (frame_payload (renamed (rows_of k before) p (Some i)))) same
  client-alone p (Within n' act) n reads some r = let same : n ≡ n' = cc in ap (λ q. records (frame_payload q)) (recorded-number p (Within n' act) n reads some r) ∙ ap (λ i. records (frame_payload (renamed (rows_of k before) p (Some i)))) same
  client-alone p (Transport number) n reads some r = cc
  client-alone p (Requests what wants_reply) n reads some r = cc
  client-alone p (Succeeds rest) n reads some r = cc
  client-alone p Refuses n reads some r = cc
  client-alone p (Open what s w max) n reads some r = cc

  other-alone : (p : List ℕ) (m : Summary) → summary_recipient_of m ≡ None → for_client (alone (rows_of k before)) p m ≡ for_client (rows_of k before) p m
  other-alone p (Open what s w max) none = ap (λ n. elim (nat_lt n 256) as (λ _. Outcome) [ true ↦ records (frame_payload p) | false ↦ sends_payload (open_failure s 4 (codes "too many channels")) ]) (count-alike (rows_of k before) (alone (rows_of k before)) alike)
  other-alone p (Confirmation n s w max) none = cc
  other-alone p (Within n act) none = cc
  other-alone p m none = refl

  by-lost : (m m' : Summary) (p p' : List ℕ) → late m' (alone (rows_of k before)) ≡ late m (rows_of k before) → for_client (alone (rows_of k before)) p' m' ≡ for_client (rows_of k before) p m → received_summary (alone (rows_of k before)) p' m' ≡ received_summary (rows_of k before) p m
  by-lost m m' p p' lates clients =
      ap (λ b. elim b as (λ _. Outcome) [ true ↦ for_lost (alone (rows_of k before)) m' | false ↦ for_client (alone (rows_of k before)) p' m' ]) (lost-alone (rows_of k before))
      ∙ (ap (λ l. elim (is_lost (rows_of k before)) as (λ _. Outcome) [ true ↦ record { sent = l; recorded = []; ends = Goes } | false ↦ for_client (alone (rows_of k before)) p' m' ]) lates
      ∙ ap (λ o. elim (is_lost (rows_of k before)) as (λ _. Outcome) [ true ↦ for_lost (rows_of k before) m | false ↦ o ]) clients)

  heard-ok : (rows : List Row) (p : List ℕ) (m : Summary) → read_summary p ≡ Ok m → received_for rows p ≡ received_summary rows p m
  heard-ok rows p m reads = ap (λ r. elim r as (λ _. Outcome) [ Err bad ↦ silent | Ok m ↦ received_summary rows p m ]) reads

  -- both, where it has a recipient and where it has none
  pub record SameReceived (p : List ℕ) : Type 0 where
    pub to : dest (alone (rows_of k before)) (seen_payload (rows_of k before) p) ≡ ToClient k
    pub does : received_for (alone (rows_of k before)) (seen_payload (rows_of k before) p) ≡ received_for (rows_of k before) p

  same-some : (p : List ℕ) (m : Summary) (n : ℕ) → read_summary p ≡ Ok m → summary_recipient_of m ≡ Some n → dest_summary before m ≡ ToClient k → SameReceived p
  same-some p m n reads some to =
      let r : Met (rows_of k before) n = met before good k n (reached before m n k some to) in
      let again : read_summary (with_recipient p r.c) ≡ Ok (readdressed r.c m) = read-renamed p m r.c r.small reads in
      record {
        to = ap (dest (alone (rows_of k before))) (seen-number p m n reads some r) ∙ (dest-ok (alone (rows_of k before)) (with_recipient p r.c) (readdressed r.c m) again ∙ message-to m n some to r);
        does = ap (received_for (alone (rows_of k before))) (seen-number p m n reads some r)
            ∙ (heard-ok (alone (rows_of k before)) (with_recipient p r.c) (readdressed r.c m) again
            ∙ (by-lost m (readdressed r.c m) p (with_recipient p r.c) (late-alone m r.c) (client-alone p m n reads some r)
            ∙ sym (heard-ok (rows_of k before) p m reads)));
      }

  late-same : (m : Summary) → summary_recipient_of m ≡ None → late m (alone (rows_of k before)) ≡ late m (rows_of k before)
  late-same (Confirmation n s w max) none = cc
  late-same (Within n act) none = cc
  late-same (Succeeds rest) none = ap (λ o. with_ask o (late_success rest)) asker-alone
  late-same Refuses none = ap (λ o. with_ask o late_refusal) asker-alone
  late-same (Transport number) none = refl
  late-same (Requests what wants_reply) none = refl
  late-same (Open what s w max) none = refl

  none-to : (m : Summary) → summary_recipient_of m ≡ None → dest_summary before m ≡ ToClient k → dest_summary (alone (rows_of k before)) m ≡ ToClient k
  none-to (Open what s w max) none to =
      let f : Offered before s what k = offered before s what k to in
      ap (dest_open (alone (rows_of k before)) s) f.is
      ∙ (ap (λ o. elim o as (λ _. Dest) [ Some x ↦ Breaks (broke.NumberInUse s) | None ↦ elim (live_at (alone (rows_of k before)) f.key) as (λ _. Dest) [ Some f ↦ ToClient f.client | None ↦ ToMaster ] ]) (live-alone s f.unused)
      ∙ (ap (λ o. elim o as (λ _. Dest) [ Some f ↦ ToClient f.client | None ↦ ToMaster ]) (live-at-alone f.key ∙ live-local k before f.key f.forwarding f.live f.client)
      ∙ ap ToClient f.client))
  none-to (Succeeds rest) none to =
      let a : Asked before k = succeeds-asked before rest k to in
      ap (λ o. dest_asker o (dest_success rest)) (asker-alone ∙ asker-local before k orderly a) ∙ (sym (ap (λ o. dest_asker o (dest_success rest)) a.is) ∙ to)
  none-to Refuses none to =
      let a : Asked before k = refuses-asked before k to in
      ap (λ o. dest_asker o (λ a. ToClient a.client)) (asker-alone ∙ asker-local before k orderly a) ∙ ap ToClient a.client
  none-to (Transport number) none to = absurd (by_case (number == 1) to)
    where
      by_case : (b : Bool) → (elim b as (λ _. Dest) [ true ↦ Disconnects | false ↦ ToMaster ]) ≡ ToClient k → ⊥
      by_case true e = cc
      by_case false e = cc
  none-to (Requests what wants_reply) none to = cc
  none-to (Confirmation n s w max) none to = cc
  none-to (Within n act) none to = cc

  same-none : (p : List ℕ) (m : Summary) → read_summary p ≡ Ok m → summary_recipient_of m ≡ None → dest_summary before m ≡ ToClient k → SameReceived p
  same-none p m reads none to =
      let seen_same : seen_payload (rows_of k before) p ≡ p = same-payload (rows_of k before) p m reads none in
      record {
        to = ap (dest (alone (rows_of k before))) seen_same ∙ (dest-ok (alone (rows_of k before)) p m reads ∙ none-to m none to);
        does = ap (received_for (alone (rows_of k before))) seen_same
            ∙ (heard-ok (alone (rows_of k before)) p m reads
            ∙ (by-lost m m p p (late-same m none) (other-alone p m none)
            ∙ sym (heard-ok (rows_of k before) p m reads)));
      }

  pub same-heard : (p : List ℕ) → dest before p ≡ ToClient k → SameReceived p
  same-heard p to = by_case (read_summary p) refl
    where
      by_some : (m : Summary) → read_summary p ≡ Ok m → (o : Option ℕ) → summary_recipient_of m ≡ o → SameReceived p
      by_some m reads None none = same-none p m reads none (sym (dest-ok before p m reads) ∙ to)
      by_some m reads (Some n) some = same-some p m n reads some (sym (dest-ok before p m reads) ∙ to)

      by_case : (r : Result Summary Bad) → read_summary p ≡ r → SameReceived p
      by_case (Err bad) reads = let x : Breaks _ ≡ ToClient k = sym (dest-err before p bad reads) ∙ to in absurd (let h = x in cc)
      by_case (Ok m) reads = by_some m reads (summary_recipient_of m) refl

  -- the row of it, alone
  pub heard-treats : (policy : Policy) (pid pick : ℕ) (p : List ℕ) → dest before p ≡ ToClient k → treat policy pid pick (alone (rows_of k before)) (item_for (rows_of k before) (Heard p)) ≡ alone_row (rows_of k before) (row_of (Heard p) k (received_for (rows_of k before) p) (rows_of k before))
  heard-treats policy pid pick p to =
      let s : SameReceived p = same-heard p to in
      ap (received_row (alone (rows_of k before)) (seen_payload (rows_of k before) p)) s.to
      ∙ (ap (λ rows. row_of (Heard (seen_payload (rows_of k before) p)) k (received_for rows (seen_payload (rows_of k before) p)) rows) (rows-all k (alone (rows_of k before)) (alone-all k (rows_of k before) (all-of k before)))
      ∙ (ap (λ o. row_of (Heard (seen_payload (rows_of k before) p)) k o (alone (rows_of k before))) s.does
      ∙ row-alone k (rows_of k before) (Heard p) (received_for (rows_of k before) p) (all-of k before) small (λ m n reads some. small-own before good k n) named
      (named-heard before good k p to (received_for (rows_of k before) p).sent (quiet-heard (rows_of k before) p) [] tt _ _)))
