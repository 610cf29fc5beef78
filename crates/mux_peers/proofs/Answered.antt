-- The forwarder's reply to a client that comes later than its request.
use Rattle.std.proofs.Common.{◌≡◌, ℕ, Bool, true, false, ◌||◌, List, [], ◌∷◌, ◌++◌, length, map, Option, Some, None, Ok, Err, Result, refl, sym, ap, ◌∙◌, subst, append-nil}
use Rattle.std.specs.Prelude.{filter, ◌==◌, option_map}
use Rattle.mux_outside.specs.declared.house.HouseReply.{HouseReply}
use Rattle.ssh_grammar.specs.declared.fault.BadControl.{BadControl}
use Rattle.ssh_grammar.specs.Control.{Answer, Control, Proxy, NewSession, StdioForward}
use Rattle.ssh_grammar.specs.ReadControl.{read_control}
use Rattle.ssh_grammar.specs.Frames.{frame_answer, frame_payload}
use Rattle.ssh_grammar.specs.Said.{Outgoing, Body, Payload, BadFraming, InControl, Mode, after_control}
use Rattle.proxy_frames.specs.State.{QueueState}
use Rattle.mux_history.specs.declared.why.Why.{Why}
use Rattle.mux_history.specs.Rows.{Row, rows_of, any_of, is_admit, is_end, is_run_over, is_lost, HouseSays, Says, Gone, Item, Fate, Goes, Refused, Drop, End}
use Rattle.mux_history.specs.Channels.{Channel, after_item, held_of, is_channel_held}
use Rattle.mux_history.specs.Pending.{joined, pending_up, waiting_down}
use Rattle.mux_history.specs.Controls.{answers_ask, answers_maybe, client_has_greeted, house_answer, house_sends, in_proxy, is_proxy, proxies_by}
use Rattle.mux_history.specs.Farewell.{farewell}
use Rattle.mux_history.specs.Said.{Outcome, silent}
use Rattle.mux_history.specs.Settings.{by_lists}
use Rattle.mux_history.specs.Treat.{all_recorded, bare_row, frames_that_fit, overflow, row_of}
use Rattle.mux_history.specs.Log.{next_row}
use Rattle.mux_history.proofs.Bools.{or-left, or-right}
use Rattle.mux_isolation.proofs.Treats.{ended-part}
use Rattle.mux_core.specs.State.{CoreState}
use Rattle.mux_core.specs.Stands.{CoreRepresents, TableFits, look}
use Rattle.mux_core.specs.Calls.{Leaves, LeavesRecorded}
use Rattle.mux_core.proofs.Bare.{held-bare}
use Rattle.mux_core.proofs.Quiet.{IsQuiet}
use Rattle.mux_core.proofs.Says.{map-same, held-held, records-own}
use Rattle.mux_core.proofs.Served.{quiet-stands, served}
use Rattle.mux_peers.specs.declared.standing.Standing.{Standing}
use Rattle.mux_peers.specs.declared.standing.Standing.TheVariants.{Awaited, Greeted, Proxied, Unread, Lost}
use Rattle.mux_peers.specs.State.{PeerState, part}
use Rattle.mux_peers.specs.Stands.{PartFits, PeerFits, is_greeted, is_proxied, keep_lost, standing_by, standing_in, stands_by, standing_of}
use Rattle.mux_peers.specs.Stands as stands
use Rattle.mux_peers.specs.Decisions.{frames}
use Rattle.mux_peers.specs.Answering.{AnswersLater, IsAnswered}
use Rattle.mux_peers.proofs.Heards.{GoesOrDrops, standing_received}
use Rattle.mux_peers.proofs.Refusing.{Recorded}
use Rattle.mux_peers.proofs.RowForms.{made, fits-all, row-on, row-full}
use Rattle.mux_peers.proofs.Saids.{after-served}
use Rattle.mux_peers.proofs.Steps.{served-of}
use Rattle.mux_peers.proofs.Stood.{own_row, not_lost, or_true, out_is}

-- ---- a client is in proxy mode exactly where it stands so

mode-proxies : (c : Control) → is_proxied (standing_in (after_control c)) ≡ is_proxy c
mode-proxies (Proxy id) = refl
mode-proxies (NewSession id rest) = refl
mode-proxies (StdioForward id rest) = refl
mode-proxies c = refl

read-proxies : (r : Result Control BadControl) → is_proxied (standing_in (elim r as (λ _. Mode) [ Err e ↦ InControl | Ok c ↦ after_control c ])) ≡ (elim r as (λ _. Bool) [ Err fault ↦ false | Ok c ↦ is_proxy c ])
read-proxies (Ok c) = mode-proxies c
read-proxies (Err e) = refl

stands-proxies : (x : Outgoing) → is_proxied (stands_by x) ≡ proxies_by x
stands-proxies (Body body) = read-proxies (read_control body)
stands-proxies (Payload p) = refl
stands-proxies (BadFraming fault) = refl

kept-proxies : (s next : Standing) → stands.is_standing_lost (keep_lost s next) ≡ false → is_proxied (keep_lost s next) ≡ is_proxied next
kept-proxies Awaited next l = refl
kept-proxies Greeted next l = refl
kept-proxies Proxied next l = refl
kept-proxies Unread next l = refl
kept-proxies (Lost why) next l = absurd (cc)

pub proxied-is : (own : List Row) → is_run_over own ≡ false → stands.is_standing_lost (standing_of own) ≡ false → in_proxy own ≡ is_proxied (standing_of own)
proxied-is [] live here = refl
proxied-is (row ∷ own) live here = by_fate row.fate (or-left (is_end row.fate) (is_run_over own) live) here (λ h. proxied-is own (or-right (is_end row.fate) (is_run_over own) live) h)
  where
    by_item : (item : Item) → stands.is_standing_lost (standing_by item (standing_of own)) ≡ false → (stands.is_standing_lost (standing_of own) ≡ false → in_proxy own ≡ is_proxied (standing_of own)) → (elim item as (λ _. Bool) [ Says k outgoing given ↦ proxies_by outgoing | _ ↦ in_proxy own ]) ≡ is_proxied (standing_by item (standing_of own))
    by_item (Says k x given) l ih = sym (kept-proxies (standing_of own) (stands_by x) l ∙ stands-proxies x)
    by_item (Gone k) l ih = absurd (cc)
    by_item item l ih = ih l

    by_fate : (f : Fate) → is_end f ≡ false → stands.is_standing_lost (elim f as (λ _. Standing) [ Drop cause ↦ Lost (Some cause) | Refused ↦ Lost None | Goes ↦ standing_by row.item (standing_of own) | End cause ↦ keep_lost (standing_of own) Unread ]) ≡ false → (stands.is_standing_lost (standing_of own) ≡ false → in_proxy own ≡ is_proxied (standing_of own))
        → in_proxy (row ∷ own) ≡ is_proxied (elim f as (λ _. Standing) [ Drop cause ↦ Lost (Some cause) | Refused ↦ Lost None | Goes ↦ standing_by row.item (standing_of own) | End cause ↦ keep_lost (standing_of own) Unread ])
    by_fate Goes e l ih = by_item row.item l ih
    by_fate (Drop cause) e l ih = absurd (cc)
    by_fate Refused e l ih = absurd (cc)
    by_fate (End cause) e l ih = absurd (cc)

-- ---- what it is sent

abbrev pub answer_in : Bool → ℕ → HouseReply → Option (List ℕ)
answer_in true id given = None
answer_in false id given = option_map frame_answer (house_answer true id given)

abbrev says : Option (List ℕ) → Outcome
says answer = record { sent = []; recorded = frames answer; ends = Goes }

maybe-says : (o : Option Answer) → answers_maybe o ≡ says (option_map frame_answer o)
maybe-says None = refl
maybe-says (Some answer) = refl

house-outcome : (own : List Row) (b : Bool) (id : ℕ) (given : HouseReply) → in_proxy own ≡ b → house_sends own id given ≡ says (answer_in b id given)
house-outcome own b id given e = ap (λ c. elim c as (λ _. Outcome) [ true ↦ silent | false ↦ answers_ask true id (Some given) ]) e ∙ by_case b
  where
    by_case : (b : Bool) → (elim b as (λ _. Outcome) [ true ↦ silent | false ↦ answers_ask true id (Some given) ]) ≡ says (answer_in b id given)
    by_case true = refl
    by_case false = maybe-says (house_answer true id given)

-- ---- the row leaves a core as it is

abbrev pub house_row : ℕ → ℕ → HouseReply → List (List ℕ) → Row
house_row k id given recorded = made (HouseSays k id given) k [] [] recorded Goes

house-quiet : (k id : ℕ) (given : HouseReply) (recorded : List (List ℕ)) → IsQuiet (house_row k id given recorded)
house-quiet k id given recorded = record { asks = refl; flags = refl; replies = refl; forwards = λ own fs. refl; keeps = refl; admits = refl }

after-house : (k id : ℕ) (given : HouseReply) (recorded : List (List ℕ)) (x : Channel) → after_item (house_row k id given recorded) x ≡ x
after-house k id given recorded x = elim (x.client == k) as (λ b. (elim b as (λ _. Channel) [ true ↦ x | false ↦ x ]) ≡ x) [ true ↦ refl | false ↦ refl ]

held-house : (k id : ℕ) (given : HouseReply) (recorded : List (List ℕ)) (rows : List Row) → held_of (house_row k id given recorded ∷ rows) ≡ held_of rows
held-house k id given recorded rows =
    held-bare (HouseSays k id given) k (record { sent = []; recorded = recorded; ends = Goes }) rows
    ∙ (ap (filter is_channel_held) (append-nil (map (after_item (house_row k id given recorded)) (held_of rows)) ∙ map-same (after_item (house_row k id given recorded)) (after-house k id given recorded) (held_of rows))
    ∙ held-held rows)

house-stands : (s : CoreState) (k id : ℕ) (given : HouseReply) (recorded : List (List ℕ)) (rows : List Row) → CoreRepresents s rows → any_of is_admit (rows_of k rows) ≡ true → is_lost (rows_of k rows) ≡ false → CoreRepresents s (house_row k id given recorded ∷ rows)
house-stands s k id given recorded rows st admitted here =
    quiet-stands s s.channels (house_row k id given recorded) rows st (house-quiet k id given recorded) (served (look rows) k s.clients st.clients.each (served-of s rows k st admitted here))
    (subst (TableFits s.channels) (sym (held-house k id given recorded rows)) st.channels) st.known.channels

-- ---- the client with the row

stands-house : (k id : ℕ) (given : HouseReply) (fw down : List (List ℕ)) (f : Fate) (own : List Row) → GoesOrDrops f → standing_of (made (HouseSays k id given) k [] fw down f ∷ own) ≡ standing_received f (standing_of own)
stands-house k id given fw down Goes own g = refl
stands-house k id given fw down (Drop cause) own g = refl
stands-house k id given fw down f own g = absurd g

greets-house : (f : Fate) (own : List Row) (s : Standing) → GoesOrDrops f → (stands.is_standing_lost s ≡ false → client_has_greeted own ≡ is_greeted s) → stands.is_standing_lost (standing_received f s) ≡ false → client_has_greeted own ≡ is_greeted (standing_received f s)
greets-house Goes own s g h l = h l
greets-house (Drop cause) own s g h l = absurd (cc)
greets-house f own s g h l = absurd g

peer-house : (k id : ℕ) (given : HouseReply) (fw down : List (List ℕ)) (f : Fate) (own : List Row) (s s' : Standing) (q q' : List ℕ) → GoesOrDrops f → PeerFits own s q → s' ≡ standing_received f s → q' ≡ q ++ joined down → PeerFits (made (HouseSays k id given) k [] fw down f ∷ own) s' q'
peer-house k id given fw down f own s s' q q' fine fits standing queue =
    let row : Row = made (HouseSays k id given) k [] fw down f in
    subst (λ (t : Standing). PeerFits (row ∷ own) t q') (sym standing) (record {
      admitted = ap (λ b. is_admit row || b) fits.admitted ∙ or_true (is_admit row);
      standing_is = ap (standing_received f) fits.standing_is ∙ sym (stands-house k id given fw down f own fine);
      greeted_is = greets-house f own s fine fits.greeted_is;
      queue_is = queue ∙ ap (λ z. z ++ joined down) fits.queue_is;
    })

house-fits : (k id : ℕ) (given : HouseReply) (fw down : List (List ℕ)) (f : Fate) (rows : List Row) (peer peer' : PeerState) (s' : CoreState) (up up' : QueueState) → GoesOrDrops f → peer'.number ≡ k → PeerFits (rows_of k rows) peer.standing peer.queue → up.waiting ≡ pending_up rows
    → peer'.standing ≡ standing_received f peer.standing → peer'.queue ≡ peer.queue ++ joined down → up'.waiting ≡ up.waiting ++ joined (map frame_payload fw) → CoreRepresents s' (made (HouseSays k id given) k [] fw down f ∷ rows)
    → PartFits (made (HouseSays k id given) k [] fw down f ∷ rows) (part s' peer' up')
house-fits k id given fw down f rows peer peer' s' up up' fine num fits waits standing queue sent st =
    let row : Row = made (HouseSays k id given) k [] fw down f in
    record {
      core = λ live. st;
      peer = subst (λ (own : List Row). PeerFits own peer'.standing peer'.queue) (sym (own_row k row rows refl) ∙ ap (λ j. rows_of j (row ∷ rows)) (sym num))
          (peer-house k id given fw down f (rows_of k rows) peer.standing peer'.standing peer.queue peer'.queue fine fits standing queue);
      up = sent ∙ ap (λ z. z ++ joined (map frame_payload fw)) waits;
    }

-- ---- from every list of rows that the part represented

module _ (id : ℕ) (given : HouseReply) (c : CoreState) (peer : PeerState) (up : QueueState) (answer : Option (List ℕ)) (is : answer ≡ answer_in (is_proxied peer.standing) id given) where
  fs : List (List ℕ)
  fs = frames answer

  -- the row, but for the bound of the queue
  outcome-of : (rows : List Row) → PartFits rows (part c peer up) → is_run_over rows ≡ false → stands.is_standing_lost peer.standing ≡ false → house_sends (rows_of peer.number rows) id given ≡ says answer
  outcome-of rows fits live here =
      house-outcome (rows_of peer.number rows) (is_proxied peer.standing) id given
      (proxied-is (rows_of peer.number rows) (ended-part peer.number rows live) (ap stands.is_standing_lost (sym fits.peer.standing_is) ∙ here) ∙ ap is_proxied (sym fits.peer.standing_is))
      ∙ ap says (sym is)

  recorded-of : (own : List Row) → all_recorded (bare_row (HouseSays peer.number id given) peer.number (says answer)) own ≡ frames answer
  recorded-of own = records-own (house_row peer.number id given (frames answer)) (house-quiet peer.number id given (frames answer)) own

  pub answers-on : (mid : PeerState) → Recorded (frames answer) peer mid → overflow (length peer.queue) (frames answer) ≡ None → AnswersLater id given (part c peer up) (part c mid up)
  answers-on mid recorded fit = record {
    number = ap (λ (t : PeerState). t.number) recorded;
    goes = λ policy pid picks replies rows fits live here.
        let k : ℕ = peer.number in
        let own : List Row = rows_of k rows in
        let wait : waiting_down own ≡ length peer.queue = ap length (sym fits.peer.queue_is) in
        let row : Row = house_row k id given (frames answer) in
        let form : next_row (by_lists policy pid picks replies) rows (HouseSays k id given) ≡ row =
        ap (λ (o : Outcome). row_of (HouseSays k id given) k o own) (outcome-of rows fits live here)
        ∙ row-on (HouseSays k id given) k (says answer) own (frames answer) refl refl (recorded-of own) (ap (λ n. overflow n (frames answer)) wait ∙ fit) in
        let unlost : is_lost own ≡ false = not_lost own (out_is own ∙ (ap stands.is_standing_lost (sym fits.peer.standing_is) ∙ here)) in
        subst (IsAnswered k id given (part c mid up) rows) (sym form) (record {
          item_is = refl;
          client_is = refl;
          unsent = refl;
          unrefused = refl;
          runs = refl;
          fits =
              house-fits k id given [] (frames answer) Goes rows peer mid c up up tt (ap (λ (t : PeerState). t.number) recorded) fits.peer fits.up (ap (λ (t : PeerState). t.standing) recorded)
              (ap (λ (t : PeerState). t.queue) recorded ∙ ap (λ gs. peer.queue ++ joined gs) (fits-all (length peer.queue) (frames answer) fit)) (sym (append-nil up.waiting))
              (house-stands c k id given (frames answer) rows (fits.core live) fits.peer.admitted unlost);
        });
  }

  pub answers-full : (cause : Why) (c2 : CoreState) (mid peer' : PeerState) (up2 : QueueState) → Recorded (frames answer) peer mid → overflow (length peer.queue) (frames answer) ≡ Some cause → peer' ≡ record mid { standing = Lost (Some cause) } → LeavesRecorded c c2 mid.number up up2
      → AnswersLater id given (part c peer up) (part c2 peer' up2)
  answers-full cause c2 mid peer' up2 recorded full left leaves = record {
    number = ap (λ (t : PeerState). t.number) left ∙ ap (λ (t : PeerState). t.number) recorded;
    goes = λ policy pid picks replies rows fits live here.
        let k : ℕ = peer.number in
        let own : List Row = rows_of k rows in
        let wait : waiting_down own ≡ length peer.queue = ap length (sym fits.peer.queue_is) in
        let b : Row = house_row k id given (frames answer) in
        let down : List (List ℕ) = frames_that_fit (waiting_down own) (frames answer) in
        let q : Row = made (HouseSays k id given) k [] [] down (Drop cause) in
        let unlost : is_lost own ≡ false = not_lost own (out_is own ∙ (ap stands.is_standing_lost (sym fits.peer.standing_is) ∙ here)) in
        let st : CoreRepresents c (b ∷ rows) = house-stands c k id given (frames answer) rows (fits.core live) fits.peer.admitted unlost in
        let served = after-served c k b rows st refl refl fits.peer.admitted unlost in
        let gone : Leaves c2 q up up2 rows = (subst (λ j. LeavesRecorded c c2 j up up2) (ap (λ (t : PeerState). t.number) recorded) leaves) rows b down cause st served refl refl refl refl in
        let fw : List (List ℕ) = farewell q own in
        let form : next_row (by_lists policy pid picks replies) rows (HouseSays k id given) ≡ made (HouseSays k id given) k [] fw down (Drop cause) =
        ap (λ (o : Outcome). row_of (HouseSays k id given) k o own) (outcome-of rows fits live here)
        ∙ row-full (HouseSays k id given) k (says answer) own (frames answer) cause refl (recorded-of own) (ap (λ n. overflow n (frames answer)) wait ∙ full) in
        subst (IsAnswered k id given (part c2 peer' up2) rows) (sym form) (record {
          item_is = refl;
          client_is = refl;
          unsent = refl;
          unrefused = refl;
          runs = refl;
          fits =
              house-fits k id given fw down (Drop cause) rows peer peer' c2 up up2 tt (ap (λ (t : PeerState). t.number) left ∙ ap (λ (t : PeerState). t.number) recorded) fits.peer fits.up (ap (λ (t : PeerState). t.standing) left)
              (ap (λ (t : PeerState). t.queue) left ∙ (ap (λ (t : PeerState). t.queue) recorded ∙ ap (λ n. peer.queue ++ joined (frames_that_fit n (frames answer))) (sym wait))) gone.sent gone.stands;
        });
  }

-- one in proxy mode is sent nothing
pub answers-none : (id : ℕ) (given : HouseReply) (c : CoreState) (peer : PeerState) (up : QueueState) → is_proxied peer.standing ≡ true → AnswersLater id given (part c peer up) (part c peer up)
answers-none id given c peer up proxied = answers-on id given c peer up None (ap (λ b. answer_in b id given) (sym proxied)) peer (ap (λ (q : List ℕ). record peer { queue = q }) (sym (append-nil peer.queue))) refl
