-- A control message that lets its client go on leaves a core as it is.
use Rattle.std.proofs.Common.{◌≡◌, ℕ, true, false, List, [], ◌∷◌, map, Option, refl, sym, ap, ◌∙◌, subst, append-nil}
use Rattle.std.specs.Prelude.{filter, ◌==◌}
use Rattle.mux_outside.specs.declared.house.HouseReply.{HouseReply}
use Rattle.ssh_grammar.specs.Said.{Body}
use Rattle.mux_history.specs.Rows.{Row, rows_of, any_of, is_admit, is_lost, Says, Goes}
use Rattle.mux_history.specs.Channels.{Channel, after_item, held_of, is_channel_held}
use Rattle.mux_core.specs.State.{CoreState}
use Rattle.mux_core.specs.Stands.{CoreRepresents, TableFits, look}
use Rattle.mux_core.proofs.Bare.{held-bare}
use Rattle.mux_core.proofs.Quiet.{IsQuiet}
use Rattle.mux_core.proofs.Says.{map-same, held-held}
use Rattle.mux_core.proofs.Served.{quiet-stands, served}
use Rattle.mux_peers.proofs.RowForms.{made}
use Rattle.mux_peers.proofs.Steps.{served-of}

-- the row of a control message that goes on
abbrev pub body_row : ℕ → List ℕ → Option HouseReply → List (List ℕ) → Row
body_row k body given recorded = made (Says k (Body body) given) k [] [] recorded Goes

pub body-quiet : (k : ℕ) (body : List ℕ) (given : Option HouseReply) (recorded : List (List ℕ)) → IsQuiet (body_row k body given recorded)
body-quiet k body given recorded = record { asks = refl; flags = refl; replies = refl; forwards = λ own fs. refl; keeps = refl; admits = refl }

after-body : (k : ℕ) (body : List ℕ) (given : Option HouseReply) (recorded : List (List ℕ)) (x : Channel) → after_item (body_row k body given recorded) x ≡ x
after-body k body given recorded x = elim (x.client == k) as (λ b. (elim b as (λ _. Channel) [ true ↦ x | false ↦ x ]) ≡ x) [ true ↦ refl | false ↦ refl ]

held-body : (k : ℕ) (body : List ℕ) (given : Option HouseReply) (recorded : List (List ℕ)) (rows : List Row) → held_of (body_row k body given recorded ∷ rows) ≡ held_of rows
held-body k body given recorded rows =
    held-bare (Says k (Body body) given) k (record { sent = []; recorded = recorded; ends = Goes }) rows
    ∙ (ap (filter is_channel_held) (append-nil (map (after_item (body_row k body given recorded)) (held_of rows)) ∙ map-same (after_item (body_row k body given recorded)) (after-body k body given recorded) (held_of rows))
    ∙ held-held rows)

pub body-stands : (s : CoreState) (k : ℕ) (body : List ℕ) (given : Option HouseReply) (recorded : List (List ℕ)) (rows : List Row) → CoreRepresents s rows → any_of is_admit (rows_of k rows) ≡ true → is_lost (rows_of k rows) ≡ false → CoreRepresents s (body_row k body given recorded ∷ rows)
body-stands s k body given recorded rows st admitted here =
    quiet-stands s s.channels (body_row k body given recorded) rows st (body-quiet k body given recorded) (served (look rows) k s.clients st.clients.each (served-of s rows k st admitted here))
    (subst (TableFits s.channels) (sym (held-body k body given recorded rows)) st.channels) st.known.channels
