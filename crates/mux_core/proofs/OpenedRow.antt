-- The server opens a channel: the row, and whose the channel is.
use Rattle.std.proofs.Common.{◌≡◌, ℕ, List, [], ◌∷◌, ◌++◌, length, map, true, false, Bool, refl, ◌∙◌, ap, sym, subst, Option, Some, None, Ok}
use Rattle.std.specs.Prelude.{filter, find, ◌==◌, ◌&&◌, ◌||◌, not, is_some, option_map, unwrap_or, nat_lt}
use Rattle.std.specs.List.{AllByRecursion}
use Rattle.std.proofs.lemmas.List.{append-nil}
use Rattle.ssh_grammar.specs.Messages.{Key, Opens, Session, Direct, Forwarded, OtherType}
use Rattle.mux_history.specs.declared.broke.Break.TheVariants as broke
use Rattle.mux_history.specs.Summary.{Fails, Open, Within, read_summary, reading}
use Rattle.mux_history.specs.Rows.{Fate, Goes, Heard, Row, any_of, is_admit, is_lost, loses, rows_of}
use Rattle.mux_history.specs.Channels.{Channel, after_item, held_of, is_channel_held, is_number, live_in, opened_down, with_down, with_up, with_ups}
use Rattle.mux_history.specs.Keys.{has_key, is_key}
use Rattle.mux_history.specs.Forwardings.{Forwarding, current, live_at, of_client, forwarding_after_reply}
use Rattle.mux_history.specs.Heard.{Breaks, Dest, ToClient, ToMaster, dest}
use Rattle.mux_history.specs.Requests.{wanted_requests, asks_of, is_reply, is_sent, replies}
use Rattle.mux_history.specs.Said.{Outcome, sends_payload}
use Rattle.mux_history.specs.Treat.{bare_row}
use Rattle.mux_history.proofs.Dests.{dest-ok}
use Rattle.mux_history.proofs.Finds.{find-no, find-yes}
use Rattle.mux_history.proofs.Local as local
use Rattle.mux_history.proofs.Readings.{reading-ok}
use Rattle.channel_table.specs.Entries.{TableEntry}
use Rattle.channel_table.specs.Entries.{has_remote}
use Rattle.channel_table.specs.Stands.{ChannelsFit}
use Rattle.forward_rules.specs.State.{Forward}
use Rattle.forward_rules.specs.Step.{is_live_at}
use Rattle.forward_rules.specs.Stands.{AreFit, AreForwardsListed, Places, places_of}
use Rattle.mux_core.specs.State.{CoreState, is_member_served}
use Rattle.mux_core.specs.Stands.{AsksFit, ClientsFit, Look, CoreRepresents, TableFits, has_matters, look}
use Rattle.mux_core.specs.Opening.{owner_for}
use Rattle.mux_core.proofs.Apart.{none-pass}
use Rattle.mux_core.proofs.Bare.{held-bare}
use Rattle.mux_core.proofs.Found.{held-local}
use Rattle.mux_core.proofs.Quiet.{IsQuiet, admitted-same, look-same, lost-same, own-same, places-same}
use Rattle.mux_core.proofs.Says.{held-held}

-- ---- a quiet row that leaves the channels

pub unchanged-stands : (s : CoreState) (row : Row) (rows : List Row) → CoreRepresents s rows → IsQuiet row → held_of (row ∷ rows) ≡ held_of rows → CoreRepresents s (row ∷ rows)
unchanged-stands s row rows st q held =
    let after = sym (look-same row rows q) in
    let matters : has_matters rows ≡ has_matters (row ∷ rows) = λ i j. sym (same j) i in
    record {
      channels = subst (TableFits s.channels) (sym held) st.channels;
      asks = subst (AsksFit s.asks) after st.asks;
      forwards = subst (λ (l : Look). AreFit s.forwards l.current l.own l.lost) after st.forwards;
      clients = subst (λ m. ClientsFit s.clients m (look (row ∷ rows))) matters (subst (ClientsFit s.clients (has_matters rows)) after st.clients);
      known = st.known;
    }
  where
    same : (j : ℕ) → has_matters (row ∷ rows) j ≡ has_matters rows j
    same j =
        ap (λ b. (b && not (is_lost (rows_of j (row ∷ rows)))) || (any_of is_channel_held (held_of (rows_of j (row ∷ rows))) || nat_lt (length (replies (rows_of j (row ∷ rows)))) (length (wanted_requests (rows_of j (row ∷ rows)))))) (own-same (any_of is_admit) row rows (admitted-same row q) j)
        ∙ (ap (λ b. (any_of is_admit (rows_of j rows) && not b) || (any_of is_channel_held (held_of (rows_of j (row ∷ rows))) || nat_lt (length (replies (rows_of j (row ∷ rows)))) (length (wanted_requests (rows_of j (row ∷ rows)))))) (own-same is_lost row rows (lost-same row q) j)
        ∙ (ap (λ xs. (any_of is_admit (rows_of j rows) && not (is_lost (rows_of j rows))) || (any_of is_channel_held xs || nat_lt (length (replies (rows_of j (row ∷ rows)))) (length (wanted_requests (rows_of j (row ∷ rows)))))) (sym (held-local j (row ∷ rows)) ∙ (ap (filter (local.is_of j)) held ∙ held-local j rows))
        ∙ ap (λ (x : Places). (any_of is_admit (rows_of j rows) && not (is_lost (rows_of j rows))) || (any_of is_channel_held (held_of (rows_of j rows)) || nat_lt x.replied (length x.asked))) (own-same places_of row rows (places-same row q) j)))

-- ---- the row

pub quiet-opened : (k s w m : ℕ) (what : Opens) (p : List ℕ) (o : Outcome) → read_summary p ≡ Ok (Open what s w m) → o.ends ≡ Goes → IsQuiet (bare_row (Heard p) k o)
quiet-opened k s w m what p o e ends = record {
  asks = none (is_sent (bare_row (Heard p) k o));
  flags = refl;
  replies = ap (λ (b : Bool). elim b as (λ _. List (List ℕ)) [ true ↦ p ∷ [] | false ↦ [] ]) (reading-ok p (Open what s w m) is_reply false e);
  forwards = λ own fs. reading-ok p (Open what s w m) (λ g. map (of_client k (forwarding_after_reply (length (replies own)) g)) fs) fs e ∙ stay (length (replies own)) fs;
  keeps = ap (λ (f : Fate). loses (record { item = Heard p; client = k; up = o.sent; farewell = []; down = o.recorded; fate = f })) ends;
  admits = ap (λ (f : Fate). is_admit (record { item = Heard p; client = k; up = o.sent; farewell = []; down = o.recorded; fate = f })) ends;
}
  where
    none : (b : Bool) → asks_of k b None ≡ []
    none true = refl
    none false = refl

    stay : (place : ℕ) (fs : List Forwarding) → map (of_client k (forwarding_after_reply place (Open what s w m))) fs ≡ fs
    stay place [] = refl
    stay place (f ∷ fs) = ap (λ g. g ∷ map (of_client k (forwarding_after_reply place (Open what s w m))) fs) (elim (f.client == k) as (λ b. (elim b as (λ _. Forwarding) [ true ↦ f | false ↦ f ]) ≡ f) [ true ↦ refl | false ↦ refl ]) ∙ ap (λ gs. f ∷ gs) (stay place fs)

-- the failure is for no channel that is held
not-theirs : (es : List TableEntry) (xs : List Channel) (s : ℕ) → ChannelsFit es xs → AllByRecursion (λ e. has_remote s e ≡ false) es → AllByRecursion (λ x. is_number x.remote s ≡ false) xs
not-theirs [] [] s fit free = tt
not-theirs [] (x ∷ xs) s fit free = absurd fit
not-theirs (e ∷ es) [] s fit free = absurd fit
not-theirs (e ∷ es) (x ∷ xs) s fit free = (ap (λ o. is_number o s) (sym fit.0.remote) ∙ free.0, not-theirs es xs s fit.1 free.1)

map-same-on : (P : Channel → Type 0) (f : Channel → Channel) → ((x : Channel) → P x → f x ≡ x) → (xs : List Channel) → AllByRecursion P xs → map f xs ≡ xs
map-same-on P f same [] all = refl
map-same-on P f same (x ∷ xs) all = ap (λ y. y ∷ map f xs) (same x all.0) ∙ ap (λ ys. x ∷ ys) (map-same-on P f same xs all.1)

-- a row of which the master's failure goes up changes no channel
pub failed-held : (s : CoreState) (k r w m : ℕ) (what : Opens) (p q : List ℕ) (rows : List Row) → CoreRepresents s rows → find (has_remote r) s.channels ≡ None → read_summary p ≡ Ok (Open what r w m) → read_summary q ≡ Ok (Within r Fails) → held_of (bare_row (Heard p) k (sends_payload q) ∷ rows) ≡ held_of rows
failed-held s k r w m what p q rows st none e f =
    held-bare (Heard p) k (sends_payload q) rows
    ∙ (ap (filter is_channel_held) (ap (λ ys. map (after_item (bare_row (Heard p) k (sends_payload q))) (held_of rows) ++ ys) begun ∙ (append-nil (map (after_item (bare_row (Heard p) k (sends_payload q))) (held_of rows)) ∙ map-same-on (λ x. is_number x.remote r ≡ false) (after_item (bare_row (Heard p) k (sends_payload q))) same (held_of rows) (not-theirs s.channels (held_of rows) r st.channels.fit (none-pass (has_remote r) s.channels none))))
    ∙ held-held rows)
  where
    begun : (elim (k == 0) as (λ _. List Channel) [ true ↦ [] | false ↦ reading p (opened_down k (q ∷ [])) [] ]) ≡ []
    begun = elim (k == 0) as (λ b. (elim b as (λ _. List Channel) [ true ↦ [] | false ↦ reading p (opened_down k (q ∷ [])) [] ]) ≡ []) [
      | true ↦ refl
      | false ↦ reading-ok p (Open what r w m) (opened_down k (q ∷ [])) [] e
    ]

    same : (x : Channel) → is_number x.remote r ≡ false → after_item (bare_row (Heard p) k (sends_payload q)) x ≡ x
    same x h =
        ap (λ y. elim (x.client == k) as (λ _. Channel) [ true ↦ with_ups None (q ∷ []) y | false ↦ x ]) (reading-ok p (Open what r w m) (λ g. with_down g x) x e)
        ∙ (ap (λ y. elim (x.client == k) as (λ _. Channel) [ true ↦ y | false ↦ x ]) (reading-ok q (Within r Fails) (λ g. with_up None g x) x f ∙ rw (ap (λ b. b && is_channel_held x) h, with_up) refl)
        ∙ (elim (x.client == k) as (λ b. (elim b as (λ _. Channel) [ true ↦ x | false ↦ x ]) ≡ x) [ true ↦ refl | false ↦ refl ]))

-- ---- whose it is

pub list-find : (key : Key) (fs : List Forward) (gs : List Forwarding) → AreForwardsListed fs gs → option_map (λ (f : Forward). f.client) (find (is_live_at key) fs) ≡ option_map (λ (g : Forwarding). g.client) (find (λ (g : Forwarding). has_key g.live key) gs)
list-find key [] [] fit = refl
list-find key [] (g ∷ gs) fit = absurd fit
list-find key (f ∷ fs) [] fit = absurd fit
list-find key (f ∷ fs) (g ∷ gs) fit = by_case (list-find key fs gs fit.1) (is_live_at key f) refl
  where
    by_live : (o : Option Key) → g.live ≡ o → (f.live && is_key f.key key) ≡ has_key g.live key
    by_live None h = ap (λ b. b && is_key f.key key) (fit.0.live ∙ ap is_some h) ∙ ap (λ o. has_key o key) (sym h)
    by_live (Some q) h =
        ap (λ b. b && is_key f.key key) (fit.0.live ∙ ap is_some h)
        ∙ (ap (λ i. is_key i key) (fit.0.key ∙ ap (λ o. unwrap_or o g.key) h)
        ∙ ap (λ o. has_key o key) (sym h))

    same : is_live_at key f ≡ has_key g.live key
    same = by_live g.live refl

    by_case : option_map (λ (f : Forward). f.client) (find (is_live_at key) fs) ≡ option_map (λ (g : Forwarding). g.client) (find (λ (g : Forwarding). has_key g.live key) gs) → (b : Bool) → is_live_at key f ≡ b → option_map (λ (f : Forward). f.client) (find (is_live_at key) (f ∷ fs)) ≡ option_map (λ (g : Forwarding). g.client) (find (λ (g : Forwarding). has_key g.live key) (g ∷ gs))
    by_case ih true h = ap (option_map (λ (f : Forward). f.client)) (find-yes (is_live_at key) f fs h) ∙ (ap Some fit.0.client ∙ sym (ap (option_map (λ (g : Forwarding). g.client)) (find-yes (λ (g : Forwarding). has_key g.live key) g gs (sym same ∙ h))))
    by_case ih false h = ap (option_map (λ (f : Forward). f.client)) (find-no (is_live_at key) f fs h) ∙ (ih ∙ sym (ap (option_map (λ (g : Forwarding). g.client)) (find-no (λ (g : Forwarding). has_key g.live key) g gs (sym same ∙ h))))

abbrev pub to : Option ℕ → Dest
to None = ToMaster
to (Some k) = ToClient k

pub dest-opened : (s : CoreState) (r w m : ℕ) (what : Opens) (p : List ℕ) (rows : List Row) → CoreRepresents s rows → read_summary p ≡ Ok (Open what r w m) → live_in rows r ≡ None → dest rows p ≡ to (owner_for what s.forwards)
dest-opened s r w m what p rows st e none = dest-ok rows p (Open what r w m) e ∙ by_what what
  where
    by_found : (key : Key) (o : Option Forwarding) → live_at rows key ≡ o → (elim o as (λ _. Dest) [ Some f ↦ ToClient f.client | None ↦ ToMaster ]) ≡ to (option_map (λ (g : Forwarding). g.client) o)
    by_found key None h = refl
    by_found key (Some g) h = refl

    by_what : (what' : Opens) → (elim what' as (λ _. Dest) [
      | Forwarded key ↦ elim (live_in rows r) as (λ _. Dest) [ Some x ↦ Breaks (broke.NumberInUse r) | None ↦ elim (live_at rows key) as (λ _. Dest) [ Some f ↦ ToClient f.client | None ↦ ToMaster ] ]
      | _ ↦ elim (live_in rows r) as (λ _. Dest) [ Some x ↦ Breaks (broke.NumberInUse r) | None ↦ ToMaster ]
    ]) ≡ to (owner_for what' s.forwards)
    by_what (Forwarded key) =
        ap (λ (u : Option Channel). elim u as (λ _. Dest) [ Some x ↦ Breaks (broke.NumberInUse r) | None ↦ elim (live_at rows key) as (λ _. Dest) [ Some f ↦ ToClient f.client | None ↦ ToMaster ] ]) none
        ∙ (by_found key (live_at rows key) refl ∙ ap to (sym (list-find key s.forwards (current rows) st.forwards.listed)))
    by_what Session = ap (λ (u : Option Channel). elim u as (λ _. Dest) [ Some x ↦ Breaks (broke.NumberInUse r) | None ↦ ToMaster ]) none
    by_what (Direct q) = ap (λ (u : Option Channel). elim u as (λ _. Dest) [ Some x ↦ Breaks (broke.NumberInUse r) | None ↦ ToMaster ]) none
    by_what OtherType = ap (λ (u : Option Channel). elim u as (λ _. Dest) [ Some x ↦ Breaks (broke.NumberInUse r) | None ↦ ToMaster ]) none

pub dest-used : (r w m : ℕ) (what : Opens) (p : List ℕ) (rows : List Row) (x : Channel) → read_summary p ≡ Ok (Open what r w m) → live_in rows r ≡ Some x → dest rows p ≡ Breaks (broke.NumberInUse r)
dest-used r w m what p rows x e some = dest-ok rows p (Open what r w m) e ∙ by_what what
  where
    by_what : (what' : Opens) → (elim what' as (λ _. Dest) [
      | Forwarded key ↦ elim (live_in rows r) as (λ _. Dest) [ Some x ↦ Breaks (broke.NumberInUse r) | None ↦ elim (live_at rows key) as (λ _. Dest) [ Some f ↦ ToClient f.client | None ↦ ToMaster ] ]
      | _ ↦ elim (live_in rows r) as (λ _. Dest) [ Some x ↦ Breaks (broke.NumberInUse r) | None ↦ ToMaster ]
    ]) ≡ Breaks (broke.NumberInUse r)
    by_what (Forwarded key) = ap (λ (u : Option Channel). elim u as (λ _. Dest) [ Some x ↦ Breaks (broke.NumberInUse r) | None ↦ elim (live_at rows key) as (λ _. Dest) [ Some f ↦ ToClient f.client | None ↦ ToMaster ] ]) some
    by_what Session = ap (λ (u : Option Channel). elim u as (λ _. Dest) [ Some x ↦ Breaks (broke.NumberInUse r) | None ↦ ToMaster ]) some
    by_what (Direct q) = ap (λ (u : Option Channel). elim u as (λ _. Dest) [ Some x ↦ Breaks (broke.NumberInUse r) | None ↦ ToMaster ]) some
    by_what OtherType = ap (λ (u : Option Channel). elim u as (λ _. Dest) [ Some x ↦ Breaks (broke.NumberInUse r) | None ↦ ToMaster ]) some

-- ---- the owner of a live forwarding is served

pub owner-served : (s : CoreState) (k : ℕ) (key : Key) (fs : List Forward) → AllByRecursion (λ f. is_member_served s.clients f.client ≡ true) fs → option_map (λ (f : Forward). f.client) (find (is_live_at key) fs) ≡ Some k → is_member_served s.clients k ≡ true
owner-served s k key [] all h = absurd (cc)
owner-served s k key (f ∷ fs) all h = by_case (owner-served s k key fs all.1) (is_live_at key f) refl
  where
    by_case : (option_map (λ (f : Forward). f.client) (find (is_live_at key) fs) ≡ Some k → is_member_served s.clients k ≡ true) → (b : Bool) → is_live_at key f ≡ b → is_member_served s.clients k ≡ true
    by_case ih true t = subst (λ i. is_member_served s.clients i ≡ true) (let e : Some f.client ≡ Some k = sym (ap (option_map (λ (f : Forward). f.client)) (find-yes (is_live_at key) f fs t)) ∙ h in cc) all.0
    by_case ih false t = ih (sym (ap (option_map (λ (f : Forward). f.client)) (find-no (is_live_at key) f fs t)) ∙ h)

pub owned : (s : CoreState) (k : ℕ) (what : Opens) (rows : List Row) → CoreRepresents s rows → owner_for what s.forwards ≡ Some k → is_member_served s.clients k ≡ true
owned s k (Forwarded key) rows st h = owner-served s k key s.forwards st.known.forwards h
owned s k Session rows st h = absurd (cc)
owned s k (Direct q) rows st h = absurd (cc)
owned s k OtherType rows st h = absurd (cc)
