-- A message that a client sends in a confirmed channel.
use Rattle.std.proofs.Common.{◌≡◌, ℕ, List, [], ◌∷◌, ◌++◌, length, map, true, false, Bool, refl, ◌∙◌, ap, sym, subst, Some, None, Ok}
use Rattle.std.specs.Prelude.{filter, find, ◌==◌, ◌&&◌}
use Rattle.std.proofs.lemmas.List.{append-nil}
use Rattle.ssh_grammar.specs.declared.side.Side.TheVariants.{Up}
use Rattle.ssh_grammar.specs.Said.{Payload}
use Rattle.mux_history.specs.Summary.{Act, Within, read_summary}
use Rattle.mux_history.specs.Rows.{Row, Says}
use Rattle.mux_history.specs.Channels.{Channel, after_item, held_of, is_channel_held, is_number, opened_up}
use Rattle.mux_history.specs.Forwardings.{forwardings_after_request}
use Rattle.mux_history.specs.Laws.{with_act}
use Rattle.mux_history.specs.Requests.{wanted_requests, asks_of, sent_flags, wanted_in}
use Rattle.mux_history.specs.Said.{sends_payload}
use Rattle.mux_history.specs.Treat.{bare_row}
use Rattle.mux_history.proofs.Readings.{reading-ok}
use Rattle.mux_history.proofs.Sends.{and-left, and-right}
use Rattle.window_ledger.specs.declared.ledger.Ledger.{Ledger}
use Rattle.channel_table.specs.Entries.{TableEntry}
use Rattle.channel_table.specs.Entries.{at_number, changed_at, has_remote, is_channel_of, with_ledger}
use Rattle.channel_table.specs.Stands.{EntryFits}
use Rattle.mux_core.specs.State.{CoreState}
use Rattle.mux_core.specs.Stands.{CoreRepresents, TableFits, is_member_known, look}
use Rattle.mux_core.specs.Lookups.{acted, entry_stays_in}
use Rattle.mux_core.proofs.Acts.{ActsOn, DoesAct, acts-on}
use Rattle.mux_core.proofs.Apart.{Sole, all-filter, all-map, alone, passes}
use Rattle.mux_core.proofs.Bare.{after-said, held-bare, up_act}
use Rattle.mux_core.proofs.Found.{ConfirmedEntry, find-narrow, only_if, remote-sole}
use Rattle.mux_core.proofs.Quiet.{IsQuiet}
use Rattle.mux_core.proofs.Served.{IsServed, quiet-stands}

-- the row of one that is sent
abbrev pub sent_row : ℕ → List ℕ → Row
sent_row k p = bare_row (Says k (Payload p) None) k (sends_payload p)

pub quiet : (k r : ℕ) (a : Act) (p : List ℕ) → read_summary p ≡ Ok (Within r a) → IsQuiet (sent_row k p)
quiet k r a p e = record {
  asks = ap (asks_of k true) (reading-ok p (Within r a) wanted_in None e);
  flags = ap (sent_flags true) (reading-ok p (Within r a) wanted_in None e);
  replies = refl;
  forwards = λ own fs. reading-ok p (Within r a) (λ m. forwardings_after_request k (length (wanted_requests own)) m fs) fs e;
  keeps = refl;
  admits = refl;
}

-- what it does is the act in the channel of the entry
abbrev pub is_theirs : ℕ → ℕ → TableEntry → Bool
is_theirs k r e = is_channel_of k e && has_remote r e

pub does : (k r : ℕ) (a : Act) → DoesAct Up a (is_theirs k r) (up_act k r a)
does k r a = record {
  it = λ e x fits h. by_client e x fits h (x.client == k) refl;
  others = λ e x fits h. by_other e x fits h (x.client == k) refl;
}
  where
    named : (x : Channel) (b c : Bool) → (x.client == k) ≡ b → (is_number x.remote r && is_channel_held x) ≡ c → up_act k r a x ≡ elim b as (λ _. Channel) [ true ↦ elim c as (λ _. Channel) [ true ↦ with_act Up a x | false ↦ x ] | false ↦ x ]
    named x b c h h' = ap (λ (d : Bool). elim d as (λ _. Channel) [ true ↦ elim (is_number x.remote r && is_channel_held x) as (λ _. Channel) [ true ↦ with_act Up a x | false ↦ x ] | false ↦ x ]) h ∙ ap (λ (d : Bool). elim b as (λ _. Channel) [ true ↦ elim d as (λ _. Channel) [ true ↦ with_act Up a x | false ↦ x ] | false ↦ x ]) h'

    by_client : (e : TableEntry) (x : Channel) → EntryFits e x → is_theirs k r e ≡ true → (b : Bool) → (x.client == k) ≡ b → up_act k r a x ≡ with_act Up a x
    by_client e x fits h b c =
        let mine : (x.client == k) ≡ true = ap (λ i. i == k) (sym fits.client) ∙ and-left (is_channel_of k e) (has_remote r e) h in
        let there : (is_number x.remote r && is_channel_held x) ≡ true = ap (λ o. is_number o r && is_channel_held x) (sym fits.remote) ∙ (ap (λ d. d && is_channel_held x) (and-right (is_channel_of k e) (has_remote r e) h) ∙ fits.held) in
        named x true true mine there

    by_other : (e : TableEntry) (x : Channel) → EntryFits e x → is_theirs k r e ≡ false → (b : Bool) → (x.client == k) ≡ b → up_act k r a x ≡ x
    by_other e x fits h false c = named x false (is_number x.remote r && is_channel_held x) c refl
    by_other e x fits h true c =
        let not_here : is_number x.remote r ≡ false = ap (λ o. is_number o r) (sym fits.remote) ∙ (ap (λ b. b && has_remote r e) (sym (ap (λ i. i == k) fits.client ∙ c)) ∙ h) in
        named x true false c (ap (λ b. b && is_channel_held x) not_here)

pub sole : (k r : ℕ) → Sole (is_theirs k r)
sole k r e f two h = by_mine (is_channel_of k f) refl
  where
    by_mine : (b : Bool) → is_channel_of k f ≡ b → is_theirs k r f ≡ false
    by_mine true m = ap (λ b. b && has_remote r f) m ∙ two.remote r (and-right (is_channel_of k e) (has_remote r e) h)
    by_mine false m = ap (λ b. b && has_remote r f) m

theirs-found : (s : CoreState) (k r n : ℕ) (l : Ledger) (rows : List Row) → CoreRepresents s rows → (c : ConfirmedEntry s.channels k r n l) → find (is_theirs k r) s.channels ≡ Some c.entry
theirs-found s k r n l rows st c =
    find-narrow (has_remote r) (is_theirs k r) (remote-sole r) (λ e h. right (is_channel_of k e) (has_remote r e) h) c.entry s.channels st.channels.apart c.found
    ∙ ap (λ b. only_if b c.entry) (ap (λ b. b && has_remote r c.entry) c.mine ∙ passes (has_remote r) c.entry s.channels c.found)
  where
    right : (b d : Bool) → (b && d) ≡ true → d ≡ true
    right true d h = h
    right false d h = cc

-- the core after it represents the log with its row
pub within-stands : (s : CoreState) (k r n : ℕ) (a : Act) (p : List ℕ) (old new : Ledger) (over : Bool) (rows : List Row) → CoreRepresents s rows → IsServed k (look rows) → read_summary p ≡ Ok (Within r a) → (c : ConfirmedEntry s.channels k r n old) → ActsOn Up a c.entry.ledger new over → CoreRepresents (record s { channels = acted c.entry.number new over s.channels }) (sent_row k p ∷ rows)
within-stands s k r n a p old new over rows st serves e c acts =
    quiet-stands s (acted c.entry.number new over s.channels) (sent_row k p) rows st (quiet k r a p e) serves
    (subst (TableFits (acted c.entry.number new over s.channels)) (sym held) (acts-on Up a (is_theirs k r) (up_act k r a) c.entry new over s.channels (held_of rows) (does k r a) acts (alone (is_theirs k r) (sole k r) c.entry s.channels st.channels.apart (theirs-found s k r n old rows st c)) st.channels))
    (all-filter Known (entry_stays_in c.entry.number over) (changed_at c.entry.number (with_ledger new) s.channels) (all-map Known Known (at_number c.entry.number (with_ledger new)) still s.channels st.known.channels))
  where
    Known : TableEntry → Type 0
    Known f = is_member_known s.clients f.channel.client ≡ true

    still : (f : TableEntry) → Known f → Known (at_number c.entry.number (with_ledger new) f)
    still f known = elim (f.number == c.entry.number) as (λ b. Known (elim b as (λ _. TableEntry) [ true ↦ with_ledger new f | false ↦ f ])) [ true ↦ known | false ↦ known ]

    same : map (after_item (sent_row k p)) (held_of rows) ≡ map (up_act k r a) (held_of rows)
    same = ap (λ (g : Channel → Channel). map g (held_of rows)) (λ i x. after-said k r a p x e i)

    held : held_of (sent_row k p ∷ rows) ≡ filter is_channel_held (map (up_act k r a) (held_of rows))
    held =
        held-bare (Says k (Payload p) None) k (sends_payload p) rows
        ∙ ap (filter is_channel_held) (ap (λ ys. map (after_item (sent_row k p)) (held_of rows) ++ ys) (reading-ok p (Within r a) (opened_up k (p ∷ [])) [] e) ∙ (append-nil (map (after_item (sent_row k p)) (held_of rows)) ∙ same))
