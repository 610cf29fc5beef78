-- One payload more of the server, in rows and in what is left of its bytes.
use Rattle.std.proofs.Common.{◌≡◌, ◌+◌, ◌-◌, ◌^◌, min, ℕ, Bool, true, false, ◌||◌, List, [], ◌∷◌, ◌++◌, map, Option, Some, None, refl, sym, ap, ◌∙◌, subst, append_assoc, append-nil, arith}
use Rattle.std.specs.Prelude.{◌==◌}
use Rattle.mux_outside.specs.declared.house.HouseReply.{HouseReply}
use Rattle.ssh_grammar.specs.Frames.{Frame}
use Rattle.ssh_grammar.specs.Said.{InProxy, Outgoing, Payload, Parsed, first_in, parse, with_sending}
use Rattle.ssh_grammar.proofs.Parses.{parse-at}
use Rattle.proxy_frames.specs.State.{QueueState}
use Rattle.mux_history.specs.declared.ended.Ended.{Ended}
use Rattle.mux_history.specs.declared.why.Why.{Why}
use Rattle.mux_history.specs.Policy.{Policy}
use Rattle.mux_history.specs.Rows.{BadServer, Row, rows_of, any_of, is_admit, is_end, is_run_over, is_lost, loses, losses, Item, Heard, Fate, Goes, Refused, Drop, End}
use Rattle.mux_history.specs.Heard.{Breaks, Dest, Disconnects, ToClient, ToMaster, dest, received_for, is_server_payload, next_index}
use Rattle.mux_history.specs.declared.broke.Break.TheVariants as broke
use Rattle.mux_history.specs.declared.ended.Ended.TheVariants as ended
use Rattle.mux_history.specs.Pending.{pending_up}
use Rattle.mux_history.specs.Treat.{received_row}
use Rattle.ssh_grammar.specs.declared.fault.BadFrame.{BadFrame}
use Rattle.mux_history.specs.Settings.{by_lists}
use Rattle.mux_history.specs.Solo.{run_end_of}
use Rattle.mux_history.specs.Journal.{received_item}
use Rattle.mux_history.specs.Log.{Setting, is_took, makes_next, makes_row, more_all, more_of, next_row}
use Rattle.mux_history.proofs.OwnRows.{idle_row, own_row}
use Rattle.mux_core.specs.State.{CoreState}
use Rattle.mux_peers.specs.State.{ClientState}
use Rattle.mux_peers.specs.Among.{AllFit, EachFits, is_present}
use Rattle.mux_peers.proofs.Ones.{other-fits}
use Rattle.mux_peers.proofs.Mores.{parts-of}
use Rattle.mux_peers.proofs.RowForms.{made}
use Rattle.mux_peers.specs.Receivings.{AreHere, ReceivedBy, ReceivesAll, end_by}
use Rattle.mux_peers.specs.Pieces.{with_sent_before}
use Rattle.mux_peers.specs.Server.{ReceivesOnwards, ReceivedTo, rows_received}

-- ---- the last of many

pub more-last : (s : Setting) (rows : List Row) (items : List Item) (item : Item) → more_all s rows (items ++ item ∷ []) ≡ more_of s (more_all s rows items) item
more-last s rows [] item = refl
more-last s rows (i ∷ items) item = more-last s (more_of s rows i) items item

pub map-last : (xs : List Outgoing) (x : Outgoing) → map received_item (xs ++ x ∷ []) ≡ map received_item xs ++ received_item x ∷ []
map-last [] x = refl
map-last (y ∷ xs) x = ap (λ l. received_item y ∷ l) (map-last xs x)

-- what the server sends makes a row while the run goes on
pub makes-heard : (s : Setting) (item : Item) (rows : List Row) → is_run_over rows ≡ false → makes_row rows item ≡ true → more_of s rows item ≡ next_row s rows item ∷ rows
makes-heard s item rows live makes =
    let m : makes_next rows item ≡ true = ap (λ b. elim b as (λ _. Bool) [ true ↦ is_took item | false ↦ makes_row rows item ]) live ∙ makes in
    ap (λ b. elim b as (λ _. List Row) [ false ↦ rows | true ↦ next_row s rows item ∷ rows ]) m

-- ---- what the row changes

pub end-shown : (f : Fate) (row : Row) (rows : List Row) → row.fate ≡ f → run_end_of rows ≡ None → run_end_of (row ∷ rows) ≡ end_by f
end-shown (End cause) row rows e n = ap (λ (f : Fate). elim f as (λ _. Option Ended) [ End cause ↦ Some cause | Goes ↦ run_end_of rows | Refused ↦ run_end_of rows | Drop why ↦ run_end_of rows ]) e
end-shown Goes row rows e n = ap (λ (f : Fate). elim f as (λ _. Option Ended) [ End cause ↦ Some cause | Goes ↦ run_end_of rows | Refused ↦ run_end_of rows | Drop why ↦ run_end_of rows ]) e ∙ n
end-shown Refused row rows e n = ap (λ (f : Fate). elim f as (λ _. Option Ended) [ End cause ↦ Some cause | Goes ↦ run_end_of rows | Refused ↦ run_end_of rows | Drop why ↦ run_end_of rows ]) e ∙ n
end-shown (Drop why) row rows e n = ap (λ (f : Fate). elim f as (λ _. Option Ended) [ End cause ↦ Some cause | Goes ↦ run_end_of rows | Refused ↦ run_end_of rows | Drop why ↦ run_end_of rows ]) e ∙ n

goes-on : (f : Fate) → end_by f ≡ None → is_end f ≡ false
goes-on (End cause) e = absurd (cc)
goes-on Goes e = refl
goes-on Refused e = refl
goes-on (Drop why) e = refl

-- it admits no client
no-admit : (p : List ℕ) (row : Row) → row.item ≡ Heard p → is_admit row ≡ false
no-admit p row e = by_fate row.fate
  where
    by_fate : (f : Fate) → (elim f as (λ _. Bool) [ Refused ↦ false | _ ↦ elim row.item as (λ _. Bool) [ Rattle.mux_history.specs.Rows.Admit k ↦ true | _ ↦ false ] ]) ≡ false
    by_fate Refused = refl
    by_fate Goes = rw e refl
    by_fate (Drop why) = rw e refl
    by_fate (End cause) = rw e refl

pub or-first : (a b : Bool) → (a || b) ≡ false → b ≡ false
or-first true b e = absurd (cc)
or-first false b e = e

-- so who is here stays here
here-more : (p : List ℕ) (row : Row) (rows : List Row) (cs cs' : List ClientState) → row.item ≡ Heard p → ((j : ℕ) → is_present cs' j ≡ is_present cs j) → AreHere rows cs → AreHere (row ∷ rows) cs'
here-more p row rows cs cs' e same here k a l = same k ∙ by_client (row.client == k) refl
  where
    by_client : (b : Bool) → (row.client == k) ≡ b → is_present cs k ≡ true
    by_client false t = here k (ap (any_of is_admit) (sym (idle_row k row rows t)) ∙ a) (ap is_lost (sym (idle_row k row rows t)) ∙ l)
    by_client true t =
        here k (sym (ap (λ b. b || any_of is_admit (rows_of k rows)) (no-admit p row e)) ∙ (ap (any_of is_admit) (sym (own_row k row rows t)) ∙ a))
        (or-first (loses row) (is_lost (rows_of k rows)) (ap is_lost (sym (own_row k row rows t)) ∙ l))

place-more : (p : List ℕ) (row : Row) (rows : List Row) (i i' : ℕ) → row.item ≡ Heard p → i ≡ min (next_index rows) (2 ^ 64 - 1) → i' ≡ min (i + 1) (2 ^ 64 - 1) → i' ≡ min (next_index (row ∷ rows)) (2 ^ 64 - 1)
place-more p row rows i i' e h g =
    let n : next_index (row ∷ rows) ≡ next_index rows + 1 = ap (λ (x : Item). elim (is_server_payload x) as (λ _. ℕ) [ true ↦ next_index rows + 1 | false ↦ next_index rows ]) e in
    omega (arith, h, g, n)

behind-more : (says : List Outgoing) (x : Outgoing) (p : Parsed) → with_sent_before says (with_sending x p) ≡ with_sent_before (says ++ x ∷ []) p
behind-more says x p = ap (λ l. let q : Parsed = record { says = l; mode = p.mode; rest = p.rest } in q) (sym (append_assoc says (x ∷ []) p.says))

-- ---- one payload more

pub payload-heard : (policy : Policy) (pid : ℕ) (picks : List ℕ) (given : List HouseReply) (all : List ℕ) (noted noted' : List (ℕ × Option Why)) (rows : List Row) (core core' : CoreState) (cs cs' : List ClientState) (queue queue' : QueueState) (rest rest' content : List ℕ) (i i' : ℕ) (ended : Option Ended)
    → core.policy ≡ policy → first_in InProxy rest ≡ Frame content rest' → ReceivesAll content i noted' core core' cs cs' queue queue' ended → ((j : ℕ) → is_present cs' j ≡ is_present cs j) → i' ≡ min (i + 1) (2 ^ 64 - 1)
    → ((rows : List Row) → (next_row (by_lists policy pid picks given) rows (Heard content)).item ≡ Heard content)
    → ReceivedTo policy pid picks given all noted rows core cs queue rest i None → ReceivedTo policy pid picks given all (noted ++ noted') rows core' cs' queue' rest' i' ended
payload-heard policy pid picks given all noted noted' rows core core' cs cs' queue queue' rest rest' content i i' ended pol front receives same next item r =
    let s : Setting = by_lists policy pid picks given in
    let rows' : List Row = rows_received policy pid picks given rows r.says in
    let on : ReceivesOnwards all cs rest i rows' r.says = r.on refl in
    let row : Row = next_row s rows' (Heard content) in
    let last : rows_received policy pid picks given rows (r.says ++ Payload content ∷ []) ≡ row ∷ rows' =
    ap (more_all s rows) (map-last r.says (Payload content)) ∙ (more-last s rows (map received_item r.says) (Heard content) ∙ makes-heard s (Heard content) rows' on.live refl) in
    let by : ReceivedBy noted' core' cs' queue' ended rows' row = subst (λ (q : Policy). ReceivedBy noted' core' cs' queue' ended rows' (next_row (by_lists q pid picks given) rows' (Heard content))) pol (receives pid picks given rows' r.fit on.live on.here on.place) in
    let said : parse InProxy all ≡ with_sent_before (r.says ++ Payload content ∷ []) (parse InProxy rest') =
    on.sent_is ∙ (ap (with_sent_before r.says) (parse-at InProxy rest (Frame content rest') front) ∙ behind-more r.says (Payload content) (parse InProxy rest')) in
    record {
      says = r.says ++ Payload content ∷ [];
      fit = subst (λ l. AllFit l core' cs' queue') (sym last) by.fit;
      lost = ap losses last ∙ (by.lost ∙ (ap (λ l. l ++ noted') r.lost ∙ append_assoc (losses rows) noted noted'));
      ended_is = by.ended_is ∙ (sym (end-shown row.fate row rows' refl (sym r.ended_is)) ∙ ap run_end_of (sym last));
      on = λ e. record {
        live = ap is_run_over last ∙ (ap (λ b. b || is_run_over rows') (goes-on row.fate (sym by.ended_is ∙ e)) ∙ on.live);
        sent_is = said;
        here = subst (λ l. AreHere l cs') (sym last) (here-more content row rows' cs cs' (item rows') same on.here);
        place = place-more content row rows' i i' (item rows') on.place next ∙ ap (λ l. min (next_index l) (2 ^ 64 - 1)) (sym last);
      };
      over = ((parse InProxy rest').says, ap (λ (p : Parsed). p.says) said);
    }

-- the item of the log's row
pub heard-item : (policy : Policy) (pid : ℕ) (picks : List ℕ) (given : List HouseReply) (p : List ℕ) (rows : List Row) → (next_row (by_lists policy pid picks given) rows (Heard p)).item ≡ Heard p
heard-item policy pid picks given p rows = by_dest (dest rows p)
  where
    by_dest : (d : Dest) → (received_row rows p d).item ≡ Heard p
    by_dest ToMaster = refl
    by_dest (ToClient k) = (parts-of (Heard p) k (received_for (rows_of k rows) p) (rows_of k rows)).0
    by_dest Disconnects = refl
    by_dest (Breaks cause) = refl

-- a fault of the server ends the run
pub fault-heard : (policy : Policy) (pid : ℕ) (picks : List ℕ) (given : List HouseReply) (fault : BadFrame) (rows : List Row) (core core' : CoreState) (cs : List ClientState) (queue : QueueState) (i : ℕ)
    → AllFit rows core cs queue → is_run_over rows ≡ false → i ≡ min (next_index rows) (2 ^ 64 - 1)
    → ReceivedBy [] core' cs queue (Some (ended.Broke i (broke.Frame fault))) rows (next_row (by_lists policy pid picks given) rows (BadServer fault))
fault-heard policy pid picks given fault rows core core' cs queue i fit live place = subst (ReceivedBy [] core' cs queue (Some (ended.Broke i (broke.Frame fault))) rows) is (record {
  fit = record { core = λ l. absurd (let d : true ≡ false = l in cc); each = each rows cs fit.each; apart = fit.apart; up = fit.up ∙ sym (append-nil (pending_up rows)) };
  lost = refl;
  ended_is = refl;
})
  where
    row : Row
    row = made (BadServer fault) 0 [] [] [] (End (ended.Broke i (broke.Frame fault)))

    is : row ≡ next_row (by_lists policy pid picks given) rows (BadServer fault)
    is = ap (λ n. made (BadServer fault) 0 [] [] [] (End (ended.Broke n (broke.Frame fault)))) place

    each : (rows : List Row) (cs : List ClientState) → EachFits rows cs → EachFits (made (BadServer fault) 0 [] [] [] (End (ended.Broke i (broke.Frame fault))) ∷ rows) cs
    each rows [] f = tt
    each rows (c ∷ cs) f = (other-fits 0 (made (BadServer fault) 0 [] [] [] (End (ended.Broke i (broke.Frame fault)))) rows c refl f.0.nonzero f.0, each rows cs f.1)
