-- The server sends a global request: the master refuses.
use Rattle.std.proofs.Common.{◌≡◌, ℕ, List, [], ◌∷◌, ◌++◌, length, map, true, false, Bool, refl, ◌∙◌, ap, sym, subst, None, Ok}
use Rattle.std.specs.Prelude.{filter, ◌==◌}
use Rattle.std.proofs.lemmas.List.{append-nil}
use Rattle.ssh_grammar.specs.Messages.{Global}
use Rattle.ssh_grammar.specs.Messages as full
use Rattle.ssh_grammar.proofs.MessageSpelled.{spelled_reads}
use Rattle.ssh_grammar.specs.SpellMessage.{request_failure}
use Rattle.ssh_grammar.specs.Frames.{frame_payload}
use Rattle.proxy_frames.specs.State.{QueueState}
use Rattle.mux_history.specs.Summary.{Refuses, Requests, Transport, read_summary}
use Rattle.mux_history.specs.Rows.{Fate, Goes, Heard, Row, is_admit, loses}
use Rattle.mux_history.specs.Channels.{Channel, after_item, held_of, is_channel_held, with_down, with_up, with_ups}
use Rattle.mux_history.specs.Forwardings.{Forwarding, of_client, forwarding_after_reply}
use Rattle.mux_history.specs.Heard.{Dest, Disconnects, ToMaster, dest, received_master}
use Rattle.mux_history.specs.Pending.{joined}
use Rattle.mux_history.specs.Requests.{asks_of, is_reply, is_sent, replies}
use Rattle.mux_history.specs.Said.{Outcome, sends_payload, silent}
use Rattle.mux_history.specs.Treat.{bare_row}
use Rattle.mux_history.proofs.Dests.{dest-ok}
use Rattle.mux_history.proofs.Readings.{summary-ok, reading-ok}
use Rattle.mux_core.specs.declared.heard.Delivery.TheVariants as heard
use Rattle.mux_core.specs.State.{CoreState}
use Rattle.mux_core.specs.Stands.{CoreRepresents}
use Rattle.mux_core.specs.Calls.{ReceivesAs, ReceivesMaster, ReceivesWith}
use Rattle.mux_core.proofs.Bare.{held-bare}
use Rattle.mux_core.proofs.OpenedRow.{unchanged-stands}
use Rattle.mux_core.proofs.Quiet.{IsQuiet}
use Rattle.mux_core.proofs.Says.{held-held, map-same}

quiet-request : (what : Global) (want : Bool) (p : List ℕ) (o : Outcome) → read_summary p ≡ Ok (Requests what want) → o.ends ≡ Goes → IsQuiet (bare_row (Heard p) 0 o)
quiet-request what want p o e ends = record {
  asks = none (is_sent (bare_row (Heard p) 0 o));
  flags = refl;
  replies = ap (λ (b : Bool). elim b as (λ _. List (List ℕ)) [ true ↦ p ∷ [] | false ↦ [] ]) (reading-ok p (Requests what want) is_reply false e);
  forwards = λ own fs. reading-ok p (Requests what want) (λ g. map (of_client 0 (forwarding_after_reply (length (replies own)) g)) fs) fs e ∙ stay (length (replies own)) fs;
  keeps = ap (λ (f : Fate). loses (record { item = Heard p; client = 0; up = o.sent; farewell = []; down = o.recorded; fate = f })) ends;
  admits = ap (λ (f : Fate). is_admit (record { item = Heard p; client = 0; up = o.sent; farewell = []; down = o.recorded; fate = f })) ends;
}
  where
    none : (b : Bool) → asks_of 0 b None ≡ []
    none true = refl
    none false = refl

    stay : (place : ℕ) (fs : List Forwarding) → map (of_client 0 (forwarding_after_reply place (Requests what want))) fs ≡ fs
    stay place [] = refl
    stay place (f ∷ fs) = ap (λ g. g ∷ map (of_client 0 (forwarding_after_reply place (Requests what want))) fs) (elim (f.client == 0) as (λ b. (elim b as (λ _. Forwarding) [ true ↦ f | false ↦ f ]) ≡ f) [ true ↦ refl | false ↦ refl ]) ∙ ap (λ gs. f ∷ gs) (stay place fs)

-- a refusal is for no channel
no-change : (x : Channel) → with_ups None (request_failure ∷ []) x ≡ x
no-change x = reading-ok request_failure Refuses (λ g. with_up None g x) x (summary-ok request_failure (full.Plain full.RequestFailure) (spelled_reads (full.Plain full.RequestFailure) request_failure (record { is_message = tt; flag = 0; boolean = refl; spelled = refl })))

request-held : (what : Global) (want : Bool) (p : List ℕ) (o : Outcome) (rows : List Row) → read_summary p ≡ Ok (Requests what want) → ((x : Channel) → with_ups None o.sent x ≡ x) → held_of (bare_row (Heard p) 0 o ∷ rows) ≡ held_of rows
request-held what want p o rows e ups =
    held-bare (Heard p) 0 o rows
    ∙ (ap (filter is_channel_held) (append-nil (map (after_item (bare_row (Heard p) 0 o)) (held_of rows)) ∙ map-same (after_item (bare_row (Heard p) 0 o)) same (held_of rows)) ∙ held-held rows)
  where
    same : (x : Channel) → after_item (bare_row (Heard p) 0 o) x ≡ x
    same x =
        ap (λ y. elim (x.client == 0) as (λ _. Channel) [ true ↦ with_ups None o.sent y | false ↦ x ]) (reading-ok p (Requests what want) (λ g. with_down g x) x e)
        ∙ (ap (λ y. elim (x.client == 0) as (λ _. Channel) [ true ↦ y | false ↦ x ]) (ups x)
        ∙ (elim (x.client == 0) as (λ b. (elim b as (λ _. Channel) [ true ↦ x | false ↦ x ]) ≡ x) [ true ↦ refl | false ↦ refl ]))

pub request-refused : (s : CoreState) (what : Global) (p p' : List ℕ) (up up' : QueueState) (rows : List Row) → CoreRepresents s rows → read_summary p ≡ Ok (Requests what true) → up'.waiting ≡ up.waiting ++ frame_payload request_failure → ReceivesAs s p p' up up' heard.Master rows (dest rows p)
request-refused s what p p' up up' rows st e sent =
    let outcome : received_master p ≡ sends_payload request_failure = rw (e, received_master) refl in
    let recorded : ReceivesMaster s p up up' heard.Master rows = record {
      sent = sent ∙ (ap (λ ys. up.waiting ++ ys) (sym (append-nil (frame_payload request_failure))) ∙ sym (ap (λ (o : Outcome). up.waiting ++ joined (map frame_payload o.sent)) outcome));
      to = refl;
      stands = subst (λ o. CoreRepresents s (bare_row (Heard p) 0 o ∷ rows)) (sym outcome) (unchanged-stands s (bare_row (Heard p) 0 (sends_payload request_failure)) rows st (quiet-request what true p (sends_payload request_failure) e refl) (request-held what true p (sends_payload request_failure) rows e no-change));
    } in
    subst (ReceivesAs s p p' up up' heard.Master rows) (sym (dest-ok rows p (Requests what true) e)) recorded

pub request-passed : (s : CoreState) (what : Global) (p p' : List ℕ) (up : QueueState) (rows : List Row) → CoreRepresents s rows → read_summary p ≡ Ok (Requests what false) → ReceivesAs s p p' up up heard.Master rows (dest rows p)
request-passed s what p p' up rows st e =
    let outcome : received_master p ≡ silent = rw (e, received_master) refl in
    let recorded : ReceivesMaster s p up up heard.Master rows = record {
      sent = sym (ap (λ (o : Outcome). up.waiting ++ joined (map frame_payload o.sent)) outcome ∙ append-nil up.waiting);
      to = refl;
      stands = subst (λ o. CoreRepresents s (bare_row (Heard p) 0 o ∷ rows)) (sym outcome) (unchanged-stands s (bare_row (Heard p) 0 silent) rows st (quiet-request what false p silent e refl) (request-held what false p silent rows e (λ x. refl)));
    } in
    subst (ReceivesAs s p p' up up heard.Master rows) (sym (dest-ok rows p (Requests what false) e)) recorded

-- ---- a message of the transport is for no client

quiet-transport : (n : ℕ) (p : List ℕ) → read_summary p ≡ Ok (Transport n) → IsQuiet (bare_row (Heard p) 0 silent)
quiet-transport n p e = record {
  asks = refl;
  flags = refl;
  replies = ap (λ (b : Bool). elim b as (λ _. List (List ℕ)) [ true ↦ p ∷ [] | false ↦ [] ]) (reading-ok p (Transport n) is_reply false e);
  forwards = λ own fs. reading-ok p (Transport n) (λ g. map (of_client 0 (forwarding_after_reply (length (replies own)) g)) fs) fs e ∙ stay (length (replies own)) fs;
  keeps = refl;
  admits = refl;
}
  where
    stay : (place : ℕ) (fs : List Forwarding) → map (of_client 0 (forwarding_after_reply place (Transport n))) fs ≡ fs
    stay place [] = refl
    stay place (f ∷ fs) = ap (λ g. g ∷ map (of_client 0 (forwarding_after_reply place (Transport n))) fs) (elim (f.client == 0) as (λ b. (elim b as (λ _. Forwarding) [ true ↦ f | false ↦ f ]) ≡ f) [ true ↦ refl | false ↦ refl ]) ∙ ap (λ gs. f ∷ gs) (stay place fs)

transport-held : (n : ℕ) (p : List ℕ) (rows : List Row) → read_summary p ≡ Ok (Transport n) → held_of (bare_row (Heard p) 0 silent ∷ rows) ≡ held_of rows
transport-held n p rows e =
    held-bare (Heard p) 0 silent rows
    ∙ (ap (filter is_channel_held) (append-nil (map (after_item (bare_row (Heard p) 0 silent)) (held_of rows)) ∙ map-same (after_item (bare_row (Heard p) 0 silent)) same (held_of rows)) ∙ held-held rows)
  where
    same : (x : Channel) → after_item (bare_row (Heard p) 0 silent) x ≡ x
    same x =
        ap (λ y. elim (x.client == 0) as (λ _. Channel) [ true ↦ y | false ↦ x ]) (reading-ok p (Transport n) (λ g. with_down g x) x e)
        ∙ (elim (x.client == 0) as (λ b. (elim b as (λ _. Channel) [ true ↦ x | false ↦ x ]) ≡ x) [ true ↦ refl | false ↦ refl ])

pub transport-passed : (s : CoreState) (n : ℕ) (p p' : List ℕ) (up : QueueState) → (n == 1) ≡ false → ReceivesWith s s p p' (Transport n) up up heard.Master
transport-passed s n p p' up other = λ rows st e.
    let outcome : received_master p ≡ silent = rw (e, received_master) refl in
    let recorded : ReceivesMaster s p up up heard.Master rows = record {
      sent = sym (ap (λ (o : Outcome). up.waiting ++ joined (map frame_payload o.sent)) outcome ∙ append-nil up.waiting);
      to = refl;
      stands = subst (λ o. CoreRepresents s (bare_row (Heard p) 0 o ∷ rows)) (sym outcome) (unchanged-stands s (bare_row (Heard p) 0 silent) rows st (quiet-transport n p e) (transport-held n p rows e));
    } in
    subst (ReceivesAs s p p' up up heard.Master rows) (sym (dest-ok rows p (Transport n) e ∙ ap (λ (b : Bool). elim b as (λ _. Dest) [ true ↦ Disconnects | false ↦ ToMaster ]) other)) recorded
