-- A client that is served: its rows, and the row of nothing but channels that it adds.
use Rattle.std.proofs.Common.{◌≡◌, ◌≢◌, ℕ, List, [], ◌∷◌, true, false, Bool, refl, ◌∙◌, ap, sym, subst}
use Rattle.std.specs.Prelude.{not, ◌==◌, ◌&&◌, ◌||◌}
use Rattle.std.specs.List.{AllByRecursion}
use Rattle.mux_history.specs.Rows.{Row, rows_of, any_of, is_admit, is_lost}
use Rattle.mux_history.specs.Channels.{held_of, is_channel_held}
use Rattle.mux_history.specs.Requests.{wanted_requests, replies}
use Rattle.mux_history.specs.Farewell.{has_open_matters}
use Rattle.std.specs.Prelude.{length, nat_lt}
use Rattle.mux_history.proofs.Bools.{same-number}
use Rattle.mux_history.proofs.OwnRows.{idle_row}
use Rattle.channel_table.specs.Entries.{TableEntry}
use Rattle.forward_rules.specs.Stands.{AreFit}
use Rattle.mux_core.specs.State.{MemberState, CoreState, is_member_served}
use Rattle.mux_core.specs.Stands.{AsksFit, ClientFits, ClientsFit, Look, CoreRepresents, TableFits, has_matters, is_member_known, look}
use Rattle.mux_core.proofs.Quiet.{IsQuiet, look-same}

-- what is known of it
pub record IsServed (k : ℕ) (l : Look) : Type 0 where
  pub nonzero : k ≢ 0
  pub admitted : l.admitted k ≡ true
  pub here : l.lost k ≡ false

either : (a b : Bool) → (a || b) ≡ true → (a ≡ false → b ≡ true)
either true b h n = absurd (cc)
either false b h n = h

pub served : (l : Look) (k : ℕ) (cs : List MemberState) → AllByRecursion (ClientFits l) cs → is_member_served cs k ≡ true → IsServed k l
served l k [] all h = absurd (cc)
served l k (c ∷ cs) all h = by_case (served l k cs all.1) (c.number == k) refl c.lost refl
  where
    by_case : (is_member_served cs k ≡ true → IsServed k l) → (b : Bool) → (c.number == k) ≡ b → (d : Bool) → c.lost ≡ d → IsServed k l
    by_case ih true n false d =
        let same : c.number ≡ k = same-number c.number k n in
        let fits = all.0 in
        record {
          nonzero = λ z. fits.nonzero (same ∙ z);
          admitted = subst (λ j. l.admitted j ≡ true) same fits.admitted;
          here = subst (λ j. l.lost j ≡ false) same (sym fits.lost ∙ d);
        }
    by_case ih true n true d = ih (either ((c.number == k) && not c.lost) (is_member_served cs k) h (ap (λ b. b && not c.lost) n ∙ ap not d))
    by_case ih false n d e = ih (either ((c.number == k) && not c.lost) (is_member_served cs k) h (ap (λ b. b && not c.lost) n))

-- its matters are open, whatever else there is of it
pub open-by : (own : List Row) → any_of is_admit own ≡ true → is_lost own ≡ false → has_open_matters own ≡ true
open-by own a l =
    ap (λ b. (b && not (is_lost own)) || (any_of is_channel_held (held_of own) || nat_lt (length (replies own)) (length (wanted_requests own)))) a
    ∙ ap (λ b. not b || (any_of is_channel_held (held_of own) || nat_lt (length (replies own)) (length (wanted_requests own)))) l

-- a quiet row of it opens and closes no matters
pub matters-same : (row : Row) (rows : List Row) → IsQuiet row → IsServed row.client (look rows) → (j : ℕ) → has_matters (row ∷ rows) j ≡ has_matters rows j
matters-same row rows q s j = by_case (row.client == j) refl
  where
    by_case : (b : Bool) → (row.client == j) ≡ b → has_matters (row ∷ rows) j ≡ has_matters rows j
    by_case false e = ap has_open_matters (idle_row j row rows e)
    by_case true e =
        let same : row.client ≡ j = same-number row.client j e in
        let after = look-same row rows q in
        let admitted : (look (row ∷ rows)).admitted j ≡ true = ap (λ (l : Look). l.admitted j) after ∙ subst (λ i. (look rows).admitted i ≡ true) same s.admitted in
        let here : (look (row ∷ rows)).lost j ≡ false = ap (λ (l : Look). l.lost j) after ∙ subst (λ i. (look rows).lost i ≡ false) same s.here in
        open-by (rows_of j (row ∷ rows)) admitted here
        ∙ sym (open-by (rows_of j rows) (subst (λ i. (look rows).admitted i ≡ true) same s.admitted) (subst (λ i. (look rows).lost i ≡ false) same s.here))

-- so all but the channels goes on
pub quiet-stands : (s : CoreState) (es : List TableEntry) (row : Row) (rows : List Row) → CoreRepresents s rows → IsQuiet row → IsServed row.client (look rows) → TableFits es (held_of (row ∷ rows)) → AllByRecursion (λ e. is_member_known s.clients e.channel.client ≡ true) es → CoreRepresents (record s { channels = es }) (row ∷ rows)
quiet-stands s es row rows st q served channels known =
    let after = sym (look-same row rows q) in
    let matters : has_matters rows ≡ has_matters (row ∷ rows) = λ i j. sym (matters-same row rows q served j) i in
    record {
      channels = channels;
      asks = subst (AsksFit s.asks) after st.asks;
      forwards = subst (λ (l : Look). AreFit s.forwards l.current l.own l.lost) after st.forwards;
      clients = subst (λ m. ClientsFit s.clients m (look (row ∷ rows))) matters (subst (ClientsFit s.clients (has_matters rows)) after st.clients);
      known = record { channels = known; asks = st.known.asks; forwards = st.known.forwards };
    }
