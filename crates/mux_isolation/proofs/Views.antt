-- Rows of others leave the view of a client, and its own rows follow it.
use Rattle.std.proofs.Common.{◌≡◌, ℕ, List, [], ◌∷◌, map, length, drop, true, false, Bool, refl, ◌∙◌, ap, arith, sym, subst, Some}
use Rattle.std.specs.Prelude.{◌==◌, ◌||◌, ◌&&◌, not, filter, nat_lt}
use Rattle.std.proofs.lemmas.Bool.Decides.{nat_tests}
use Rattle.mux_history.specs.Channels.{Channel, channels_of, held_of, is_channel_held}
use Rattle.mux_history.specs.Controls.{answers_ask, client_has_greeted, house_sends, in_proxy}
use Rattle.mux_history.specs.Farewell.{has_open_matters}
use Rattle.mux_history.specs.Forwardings.{Forwarding, current, forwardings_of}
use Rattle.mux_history.specs.Heard.{ToClient, dest, received_for}
use Rattle.mux_history.specs.Laws.{IsOf}
use Rattle.mux_history.specs.Log.{admits, bare_row, received_row, makes_row, row_of, sent_by_client, treat}
use Rattle.mux_history.specs.Pending.{pending_down}
use Rattle.mux_history.specs.Policy.{Policy}
use Rattle.mux_history.specs.Requests.{Ask, wanted_requests, replies, wanted}
use Rattle.mux_history.specs.Rows.{Admit, Gone, Heard, HouseSays, Item, Row, Says, Took, any_of, is_admit, is_lost, is_out, rows_of}
use Rattle.mux_history.specs.Said.{Outcome, silent}
use Rattle.mux_isolation.specs.Laws.{SameStep, StepsAlike}
use Rattle.mux_isolation.specs.LogView.{LogView, channel_view, waiting_left_of, view_of}
use Rattle.mux_history.proofs.Askers.{asks-local, asks_for}
use Rattle.mux_history.proofs.CurrentSteps.{is_on}
use Rattle.mux_history.proofs.Finds.{filter-no, filter-yes}
use Rattle.mux_history.proofs.ForwardsLocal.{for_of, forwardings-local}
use Rattle.mux_history.proofs.LawfulItems.{client-of}
use Rattle.mux_history.proofs.Local.{channels-local, is_of}
use Rattle.mux_history.proofs.OwnRows.{idle_row, own_row, rows-twice}
use Rattle.mux_isolation.proofs.ViewChannels.{any-view, held_seen}
use Rattle.mux_isolation.proofs.ViewReceived.{heard-alike}
use Rattle.mux_isolation.proofs.ViewRows.{next_view, row-alike, view-step}
use Rattle.mux_isolation.proofs.ViewSent.{own_view, said-alike}

-- ---- the view is one of the client's own rows

filters-turn : {X : Type 0} (a b : X → Bool) (xs : List X) → filter a (filter b xs) ≡ filter b (filter a xs)
filters-turn a b [] = refl
filters-turn {X} a b (x ∷ xs) = by_case (filters-turn a b xs) (a x) refl (b x) refl
  where
    by_case : filter a (filter b xs) ≡ filter b (filter a xs) → (s : Bool) → a x ≡ s → (t : Bool) → b x ≡ t → filter a (filter b (x ∷ xs)) ≡ filter b (filter a (x ∷ xs))
    by_case ih true e true f = ap (filter a) (filter-yes b x xs f) ∙ (filter-yes a x (filter b xs) e ∙ (ap (λ ys. x ∷ ys) ih ∙ sym (ap (filter b) (filter-yes a x xs e) ∙ filter-yes b x (filter a xs) f)))
    by_case ih true e false f = ap (filter a) (filter-no b x xs f) ∙ (ih ∙ sym (ap (filter b) (filter-yes a x xs e) ∙ filter-no b x (filter a xs) f))
    by_case ih false e true f = ap (filter a) (filter-yes b x xs f) ∙ (filter-no a x (filter b xs) e ∙ (ih ∙ sym (ap (filter b) (filter-no a x xs e))))
    by_case ih false e false f = ap (filter a) (filter-no b x xs f) ∙ (ih ∙ sym (ap (filter b) (filter-no a x xs e)))

held-local : (k : ℕ) (rows : List Row) → filter (is_of k) (held_of rows) ≡ held_of (rows_of k rows)
held-local k rows = filters-turn (is_of k) is_channel_held (channels_of rows) ∙ ap (filter is_channel_held) (channels-local k rows)

current-local : (k : ℕ) (rows : List Row) → filter (for_of k) (current rows) ≡ current (rows_of k rows)
current-local k rows = filters-turn (for_of k) is_on (forwardings_of rows) ∙ ap (filter is_on) (forwardings-local k rows)

pub view-own : (k : ℕ) (rows : List Row) → view_of k rows ≡ own_view (rows_of k rows)
view-own k rows =
    ap (λ xs. with_parts xs (filter (asks_for k) (wanted_requests rows)) (filter (for_of k) (current rows))) (held-local k rows)
    ∙ (ap (λ xs. with_parts (held_of (rows_of k rows)) xs (filter (for_of k) (current rows))) (asks-local k rows)
    ∙ ap (λ xs. with_parts (held_of (rows_of k rows)) (wanted_requests (rows_of k rows)) xs) (current-local k rows))
  where
    with_parts : List Channel → List Ask → List Forwarding → LogView
    with_parts xs us fs = record {
      admitted = any_of is_admit (rows_of k rows);
      has_greeted = client_has_greeted (rows_of k rows);
      proxied = in_proxy (rows_of k rows);
      lost = is_lost (rows_of k rows);
      out = is_out (rows_of k rows);
      channels = map channel_view xs;
      requests = length us;
      replied = length (replies (rows_of k rows));
      unreplied = drop (length (replies (rows_of k rows))) us;
      waiting = waiting_left_of (wanted (rows_of k rows)) (replies (rows_of k rows));
      forwardings = fs;
      pending = pending_down (rows_of k rows);
    }

pub idle-view : (k : ℕ) (row : Row) (before : List Row) → (row.client == k) ≡ false → view_of k (row ∷ before) ≡ view_of k before
idle-view k row before other = view-own k (row ∷ before) ∙ (ap own_view (idle_row k row before other) ∙ sym (view-own k before))

pub cut-view : (k : ℕ) (rows : List Row) → view_of k (rows_of k rows) ≡ view_of k rows
cut-view k rows = view-own k (rows_of k rows) ∙ (ap own_view (rows-twice k rows) ∙ sym (view-own k rows))

-- ---- rows follow views

module _ (policy : Policy) (pid pick k : ℕ) (rows others : List Row) (same : view_of k rows ≡ view_of k others) where
  same-own : own_view (rows_of k rows) ≡ own_view (rows_of k others)
  same-own = sym (view-own k rows) ∙ (same ∙ view-own k others)

  -- the view after a row of the client
  after : (row : Row) (log : List Row) → row.client ≡ k → view_of k (row ∷ log) ≡ next_view row (own_view (rows_of k log))
  after row log mine =
      view-own k (row ∷ log)
      ∙ (ap own_view (own_row k row log (ap (λ c. c == k) mine ∙ self k))
      ∙ view-step row (rows_of k log) (ap (λ c. rows_of c (rows_of k log)) mine ∙ rows-twice k log))
    where
      self : (a : ℕ) → (a == a) ≡ true
      self a = grind (arith, nat_tests)

  step : (row other : Row) → row ≡ other → row.client ≡ k → SameStep k rows others row other
  step row other e mine = record {
    gives = e;
    view = after row rows mine
        ∙ (ap (next_view row) same-own
        ∙ (ap (λ r. next_view r (own_view (rows_of k others))) e
        ∙ sym (after other others (ap (λ (r : Row). r.client) (sym e) ∙ mine))));
  }

  of-row : (item : Item) (o other : Outcome) → o ≡ other → SameStep k rows others (row_of item k o (rows_of k rows)) (row_of item k other (rows_of k others))
  of-row item o other e =
      step (row_of item k o (rows_of k rows)) (row_of item k other (rows_of k others))
      (ap (λ x. row_of item k x (rows_of k rows)) e ∙ row-alike (rows_of k rows) (rows_of k others) same-own item k other)
      (client-of item k o (rows_of k rows))

  own-step : (item : Item) → IsOf k item → SameStep k rows others (treat policy pid pick rows item) (treat policy pid pick others item)
  own-step (Says j outgoing given) is = subst (λ (i : ℕ). SameStep k rows others (treat policy pid pick rows (Says i outgoing given)) (treat policy pid pick others (Says i outgoing given))) (sym is)
      (of-row (Says k outgoing given) (sent_by_client policy pid k (rows_of k rows) pick outgoing given) (sent_by_client policy pid k (rows_of k others) pick outgoing given)
      (said-alike (rows_of k rows) (rows_of k others) same-own policy pid k pick outgoing given))
  own-step (HouseSays j id given) is = subst (λ (i : ℕ). SameStep k rows others (treat policy pid pick rows (HouseSays i id given)) (treat policy pid pick others (HouseSays i id given))) (sym is)
      (of-row (HouseSays k id given) (house_sends (rows_of k rows) id given) (house_sends (rows_of k others) id given)
      (ap (λ (v : LogView). elim v.proxied as (λ _. Outcome) [ true ↦ silent | false ↦ answers_ask true id (Some given) ]) same-own))
  own-step (Gone j) is = subst (λ (i : ℕ). SameStep k rows others (treat policy pid pick rows (Gone i)) (treat policy pid pick others (Gone i))) (sym is) (of-row (Gone k) silent silent refl)
  own-step (Took j size) is = step (bare_row (Took j size) j silent) (bare_row (Took j size) j silent) refl is
  own-step item is = absurd is

  heard-step : (p : List ℕ) → dest rows p ≡ ToClient k → dest others p ≡ ToClient k → SameStep k rows others (treat policy pid pick rows (Heard p)) (treat policy pid pick others (Heard p))
  heard-step p here there =
      subst (λ r. SameStep k rows others r (treat policy pid pick others (Heard p))) (sym (ap (received_row rows p) here))
      (subst (λ r. SameStep k rows others (received_row rows p (ToClient k)) r) (sym (ap (received_row others p) there))
      (of-row (Heard p) (received_for (rows_of k rows) p) (received_for (rows_of k others) p) (heard-alike (rows_of k rows) (rows_of k others) same-own p)))

  makes-same : (item : Item) → IsOf k item → makes_row rows item ≡ makes_row others item
  makes-same (Says j outgoing given) is = ap (λ i. not (is_out (rows_of i rows))) is ∙ (ap (λ (v : LogView). not v.out) same ∙ ap (λ i. not (is_out (rows_of i others))) (sym is))
  makes-same (HouseSays j id given) is = ap (λ i. not (is_out (rows_of i rows))) is ∙ (ap (λ (v : LogView). not v.out) same ∙ ap (λ i. not (is_out (rows_of i others))) (sym is))
  makes-same (Gone j) is = ap (λ i. not (is_out (rows_of i rows))) is ∙ (ap (λ (v : LogView). not v.out) same ∙ ap (λ i. not (is_out (rows_of i others))) (sym is))
  makes-same (Took j size) is = refl
  makes-same item is = absurd is

  abbrev matters_seen : LogView → Bool
  matters_seen v = (v.admitted && not v.lost) || (any_of held_seen v.channels || nat_lt v.replied v.requests)

  matters-view : (own : List Row) → has_open_matters own ≡ matters_seen (own_view own)
  matters-view own = ap (λ b. (any_of is_admit own && not (is_lost own)) || (b || nat_lt (length (replies own)) (length (wanted_requests own)))) (any-view (held_of own))

  pub steps-alike : StepsAlike policy pid pick k rows others
  steps-alike = record {
    own = own-step;
    heard = heard-step;
    let_in = λ e. of-row (Admit k) (admits rows) (admits others) e;
    makes = makes-same;
    matters = matters-view (rows_of k rows) ∙ (ap matters_seen same-own ∙ sym (matters-view (rows_of k others)));
  }
