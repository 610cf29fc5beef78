-- A request that wants a reply and is refused: the refusal goes out at once, or after what waits.
use Rattle.std.proofs.Common.{◌≡◌, ◌≤◌, ℕ, List, [], ◌∷◌, ◌++◌, length, drop, map, true, false, Bool, refl, ◌∙◌, ap, sym, subst, None, Ok, arith, suc}
use Rattle.std.specs.Prelude.{filter, ◌==◌, ◌&&◌, ◌||◌, not, is_some}
use Rattle.std.specs.List.{AllByRecursion}
use Rattle.std.proofs.lemmas.List.{append-nil}
use Rattle.std.proofs.Math.Seq.{drop-append_seam}
use Rattle.std.proofs.lemmas.Bool.Decides.{nat_tests}
use Rattle.ssh_grammar.specs.Messages.{Global}
use Rattle.ssh_grammar.specs.Frames.{frame_payload}
use Rattle.proxy_frames.specs.State.{QueueState}
use Rattle.global_replies.specs.Replies.{is_none_left, or_behind}
use Rattle.mux_history.specs.declared.limits.TheConstants.{MAX_CLIENTS}
use Rattle.mux_history.specs.Farewell.{has_open_matters}
use Rattle.mux_history.specs.Summary.{Requests, read_summary}
use Rattle.mux_history.specs.Rows.{Row, any_of, is_admit, is_lost, rows_of}
use Rattle.mux_history.specs.Log.{admitted_clients}
use Rattle.mux_history.specs.Requests.{answers, answers_to, wanted_requests, asks_of, replies, sent_flags, wanted, wanted_by, wanted_in}
use Rattle.mux_history.specs.Said.{sent_request, silent}
use Rattle.mux_history.specs.Treat.{all_recorded, new_answers}
use Rattle.mux_history.proofs.Bools.{same-number}
use Rattle.mux_history.proofs.OwnRows.{idle_row, own_row}
use Rattle.mux_history.proofs.Readings.{reading-ok}
use Rattle.mux_isolation.specs.LogView.{waiting_left_of}
use Rattle.forward_rules.specs.Stands.{AreFit, Places, places_of}
use Rattle.channel_table.specs.Entries.{TableEntry}
use Rattle.mux_history.specs.Requests.{Ask}
use Rattle.mux_core.specs.declared.verdict.Verdict.{Verdict}
use Rattle.mux_core.specs.State.{MemberState, CoreState, is_member_served}
use Rattle.mux_core.specs.Stands.{AreOnce, AsksFit, ClientFits, CoreRepresents, TableFits, has_matters, is_member_known, look}
use Rattle.mux_core.specs.Calls.{CoreSendsIn, SendsRow, VerdictShows}
use Rattle.mux_core.specs.Requesting.{SendsRoomy, after_refusal, refusal_verdict, refusal_now, member_waiting_of}
use Rattle.mux_core.proofs.Answering.{Waits, if_none, refused-answers, refused-waits}
use Rattle.mux_core.proofs.Waiting.{changes, changes-at, waits-are, with-map}
use Rattle.mux_core.proofs.Quiet.{own-same}
use Rattle.mux_core.proofs.Says.{sent_as, same-queue, takes-unsent, unsent-held}
use Rattle.mux_core.proofs.Served.{IsServed, open-by, served}
use Rattle.mux_core.proofs.Requested.{all-known, all-served}
use Rattle.mux_core.proofs.SendsRequests.{by-full, refused-silent}

abbrev refused_row : ℕ → List ℕ → Row
refused_row k p = sent_as k p silent

-- ---- clients of which one has its answers changed

pub number-same : (k : ℕ) (h : List Bool → List Bool) (c : MemberState) → (changes k h c).number ≡ c.number
number-same k h c = elim (c.number == k) as (λ b. (elim b as (λ _. MemberState) [ true ↦ record c { waiting = h c.waiting } | false ↦ c ]).number ≡ c.number) [ true ↦ refl | false ↦ refl ]

pub lost-same : (k : ℕ) (h : List Bool → List Bool) (c : MemberState) → (changes k h c).lost ≡ c.lost
lost-same k h c = elim (c.number == k) as (λ b. (elim b as (λ _. MemberState) [ true ↦ record c { waiting = h c.waiting } | false ↦ c ]).lost ≡ c.lost) [ true ↦ refl | false ↦ refl ]

pub numbers-same : (k : ℕ) (h : List Bool → List Bool) (cs : List MemberState) → map (λ (c : MemberState). c.number) (map (changes k h) cs) ≡ map (λ (c : MemberState). c.number) cs
numbers-same k h [] = refl
numbers-same k h (c ∷ cs) = ap (λ n. n ∷ map (λ (c : MemberState). c.number) (map (changes k h) cs)) (number-same k h c) ∙ ap (λ ns. c.number ∷ ns) (numbers-same k h cs)

pub known-same : (k j : ℕ) (h : List Bool → List Bool) (cs : List MemberState) → is_member_known (map (changes k h) cs) j ≡ is_member_known cs j
known-same k j h [] = refl
known-same k j h (c ∷ cs) = ap (λ n. (n == j) || is_member_known (map (changes k h) cs) j) (number-same k h c) ∙ ap (λ b. (c.number == j) || b) (known-same k j h cs)

pub served-same : (k j : ℕ) (h : List Bool → List Bool) (cs : List MemberState) → is_member_served (map (changes k h) cs) j ≡ is_member_served cs j
served-same k j h [] = refl
served-same k j h (c ∷ cs) = ap (λ n. ((n == j) && not (changes k h c).lost) || is_member_served (map (changes k h) cs) j) (number-same k h c) ∙ (ap (λ b. ((c.number == j) && not b) || is_member_served (map (changes k h) cs) j) (lost-same k h c) ∙ ap (λ b. ((c.number == j) && not c.lost) || b) (served-same k j h cs))

pub once-same : (k : ℕ) (h : List Bool → List Bool) (cs : List MemberState) → AreOnce cs → AreOnce (map (changes k h) cs)
once-same k h [] once = tt
once-same k h (c ∷ cs) once = (each cs once.0, once-same k h cs once.1)
  where
    each : (ds : List MemberState) → AllByRecursion (λ d. (c.number == d.number) ≡ false) ds → AllByRecursion (λ d. ((changes k h c).number == d.number) ≡ false) (map (changes k h) ds)
    each [] all = tt
    each (d ∷ ds) all = (ap (λ n. n == (changes k h d).number) (number-same k h c) ∙ (ap (λ n. c.number == n) (number-same k h d) ∙ all.0), each ds all.1)

pub length-same : (k : ℕ) (h : List Bool → List Bool) (cs : List MemberState) → length (map (changes k h) cs) ≡ length cs
length-same k h [] = refl
length-same k h (c ∷ cs) = ap suc (length-same k h cs)

-- ---- what the row leaves

flag : (k : ℕ) (p : List ℕ) (what : Global) → read_summary p ≡ Ok (Requests what true) → sent_flags false (wanted_by (refused_row k p)) ≡ false ∷ []
flag k p what e = ap (sent_flags false) (reading-ok p (Requests what true) wanted_in None e)

places-same : (k : ℕ) (p : List ℕ) (what : Global) (own : List Row) → read_summary p ≡ Ok (Requests what true) → places_of (refused_row k p ∷ own) ≡ places_of own
places-same k p what own e =
    ap (λ (us : List Ask). let x : Places = record { asked = wanted_requests own ++ us; replied = length (replies own ++ []) } in x) (ap (asks_of k false) (reading-ok p (Requests what true) wanted_in None e))
    ∙ (ap (λ (us : List Ask). let x : Places = record { asked = us; replied = length (replies own ++ []) } in x) (append-nil (wanted_requests own))
    ∙ ap (λ (rs : List (List ℕ)). let x : Places = record { asked = wanted_requests own; replied = length rs } in x) (append-nil (replies own)))

waits-then : (k : ℕ) (p : List ℕ) (what : Global) (own : List Row) (w : List Bool) → read_summary p ≡ Ok (Requests what true) → Waits (wanted own) (replies own) w → Waits (wanted (refused_row k p ∷ own)) (replies (refused_row k p ∷ own)) (or_behind w)
waits-then k p what own w e h =
    ap (λ fs. waiting_left_of (wanted own ++ fs) (replies own ++ [])) (flag k p what e)
    ∙ (ap (waiting_left_of (wanted own ++ false ∷ [])) (append-nil (replies own)) ∙ refused-waits (wanted own) (replies own) w h)

client-then : (k : ℕ) (p : List ℕ) (what : Global) (rows : List Row) (c : MemberState) → read_summary p ≡ Ok (Requests what true) → ClientFits (look rows) c → ClientFits (look (refused_row k p ∷ rows)) (changes k or_behind c)
client-then k p what rows c e fits = by_number (c.number == k) refl (k == c.number) refl
  where
    after-own : (j : ℕ) → (k == j) ≡ true → rows_of j (refused_row k p ∷ rows) ≡ refused_row k p ∷ rows_of j rows
    after-own j h = own_row j (refused_row k p) rows h

    clash : (a b : ℕ) → (a == b) ≡ true → (b == a) ≡ false → ⊥
    clash a b h g = grind (arith, nat_tests)

    by_number : (b : Bool) → (c.number == k) ≡ b → (d : Bool) → (k == c.number) ≡ d → ClientFits (look (refused_row k p ∷ rows)) (changes k or_behind c)
    by_number true h true g = subst (ClientFits (look (refused_row k p ∷ rows))) (sym (changes-at k or_behind c true h)) (record {
      nonzero = fits.nonzero;
      admitted = ap (any_of is_admit) (after-own c.number g) ∙ fits.admitted;
      lost = fits.lost ∙ sym (ap is_lost (after-own c.number g));
      answers = λ here. ap (λ own. waiting_left_of (wanted own) (replies own)) (after-own c.number g) ∙ waits-then k p what (rows_of c.number rows) c.waiting e (fits.answers here);
    })
    by_number false h false g = subst (ClientFits (look (refused_row k p ∷ rows))) (sym (changes-at k or_behind c false h)) (record {
      nonzero = fits.nonzero;
      admitted = ap (any_of is_admit) (idle_row c.number (refused_row k p) rows g) ∙ fits.admitted;
      lost = fits.lost ∙ sym (ap is_lost (idle_row c.number (refused_row k p) rows g));
      answers = λ here. ap (λ own. waiting_left_of (wanted own) (replies own)) (idle_row c.number (refused_row k p) rows g) ∙ fits.answers here;
    })
    by_number true h false g = absurd (clash c.number k h g)
    by_number false h true g = absurd (clash k c.number g h)

clients-then : (k : ℕ) (p : List ℕ) (what : Global) (rows : List Row) (cs : List MemberState) → read_summary p ≡ Ok (Requests what true) → AllByRecursion (ClientFits (look rows)) cs → AllByRecursion (ClientFits (look (refused_row k p ∷ rows))) (map (changes k or_behind) cs)
clients-then k p what rows [] e all = tt
clients-then k p what rows (c ∷ cs) e all = (client-then k p what rows c e all.0, clients-then k p what rows cs e all.1)

matters-then : (k : ℕ) (p : List ℕ) (rows : List Row) → IsServed k (look rows) → (j : ℕ) → has_matters (refused_row k p ∷ rows) j ≡ has_matters rows j
matters-then k p rows s j = by_case (k == j) refl
  where
    by_case : (b : Bool) → (k == j) ≡ b → has_matters (refused_row k p ∷ rows) j ≡ has_matters rows j
    by_case false e = ap has_open_matters (idle_row j (refused_row k p) rows e)
    by_case true e =
        let same : k ≡ j = same-number k j e in
        let admitted : any_of is_admit (rows_of j rows) ≡ true = subst (λ i. (look rows).admitted i ≡ true) same s.admitted in
        let here : is_lost (rows_of j rows) ≡ false = subst (λ i. (look rows).lost i ≡ false) same s.here in
        ap has_open_matters (own_row j (refused_row k p) rows e) ∙ (open-by (refused_row k p ∷ rows_of j rows) admitted here ∙ sym (open-by (rows_of j rows) admitted here))

refused-stands : (s : CoreState) (k : ℕ) (p : List ℕ) (what : Global) (rows : List Row) → CoreRepresents s rows → is_member_served s.clients k ≡ true → read_summary p ≡ Ok (Requests what true) → CoreRepresents (record s { clients = map (changes k or_behind) s.clients }) (refused_row k p ∷ rows)
refused-stands s k p what rows st serves e =
    let is : IsServed k (look rows) = served (look rows) k s.clients st.clients.each serves in
    let all : places_of (refused_row k p ∷ rows) ≡ places_of rows = places-same k p what rows e in
    let own : (λ (j : ℕ). places_of (rows_of j rows)) ≡ (λ (j : ℕ). places_of (rows_of j (refused_row k p ∷ rows))) = λ i j. sym (own-same places_of (refused_row k p) rows (λ o. places-same k p what o e) j) i in
    let lost : (λ (j : ℕ). is_lost (rows_of j rows)) ≡ (λ (j : ℕ). is_lost (rows_of j (refused_row k p ∷ rows))) = λ i j. sym (own-same is_lost (refused_row k p) rows (λ o. refl) j) i in
    let matters : has_matters rows ≡ has_matters (refused_row k p ∷ rows) = λ i j. sym (matters-then k p rows is j) i in
    record {
      channels = subst (TableFits s.channels) (sym (unsent-held k p silent rows refl)) st.channels;
      asks = subst (λ (a : Places). AsksFit s.asks (record (look (refused_row k p ∷ rows)) { all = a })) (sym all) (subst (λ (o : ℕ → Places). AsksFit s.asks (record (look (refused_row k p ∷ rows)) { all = places_of rows; own = o })) own (record { waiting = st.asks.waiting; awaited = st.asks.awaited; each = st.asks.each }));
      forwards = subst (λ (o : ℕ → Places). AreFit s.forwards (look rows).current o (look (refused_row k p ∷ rows)).lost) own (subst (λ (l : ℕ → Bool). AreFit s.forwards (look rows).current (look rows).own l) lost st.forwards);
      clients = record {
        numbers = numbers-same k or_behind s.clients ∙ (st.clients.numbers ∙ (ap (λ m. filter m (admitted_clients rows)) matters ∙ ap (filter (has_matters (refused_row k p ∷ rows))) (sym (append-nil (admitted_clients rows)))));
        each = clients-then k p what rows s.clients e st.clients.each;
        once = once-same k or_behind s.clients st.clients.once;
        few = subst (λ n. n ≤ MAX_CLIENTS) (sym (length-same k or_behind s.clients)) st.clients.few;
      };
      known = record {
        channels = all-known (λ (f : TableEntry). f.channel.client) s.clients (map (changes k or_behind) s.clients) (λ j. known-same k j or_behind s.clients) s.channels st.known.channels;
        asks = all-known (λ (a : Ask). a.client) s.clients (map (changes k or_behind) s.clients) (λ j. known-same k j or_behind s.clients) s.asks st.known.asks;
        forwards = all-served s.clients (map (changes k or_behind) s.clients) (λ j. served-same k j or_behind s.clients) s.forwards st.known.forwards;
      };
    }

-- ---- what it records

recorded-if : (k : ℕ) (p : List ℕ) (what : Global) (own : List Row) (w : List Bool) → read_summary p ≡ Ok (Requests what true) → is_lost own ≡ false → Waits (wanted own) (replies own) w → all_recorded (refused_row k p) own ≡ map frame_payload (if_none w)
recorded-if k p what own w e here waits =
    ap (λ (b : Bool). elim (not b) as (λ _. List (List ℕ)) [ true ↦ new_answers (refused_row k p) own | false ↦ [] ]) here
    ∙ (ap (λ (rs : List (List ℕ)). map frame_payload (drop (length (answers own)) rs)) after ∙ ap (map frame_payload) (drop-append_seam (answers own) (if_none w)))
  where
    after : answers (refused_row k p ∷ own) ≡ answers own ++ if_none w
    after = ap (λ fs. answers_to (wanted own ++ fs) (replies own ++ [])) (flag k p what e) ∙ (ap (answers_to (wanted own ++ false ∷ [])) (append-nil (replies own)) ∙ refused-answers (wanted own) (replies own) w waits)

shows-refusal : (k : ℕ) (p : List ℕ) (what : Global) (own : List Row) (w : List Bool) → read_summary p ≡ Ok (Requests what true) → all_recorded (refused_row k p) own ≡ map frame_payload (if_none w) → VerdictShows (refused_row k p) own (refusal_now (is_none_left w))
shows-refusal k p what own [] e recorded = (refl, refl, recorded)
shows-refusal k p what own (b ∷ bs) e recorded = (refl, refl, recorded, ap is_some (reading-ok p (Requests what true) wanted_in None e))

by-left : (s new : CoreState) (k : ℕ) (p : List ℕ) (up : QueueState) (rows : List Row) (b : Bool) → VerdictShows (refused_row k p) (rows_of k rows) (refusal_now b) → CoreRepresents new (refused_row k p ∷ rows) → SendsRow s new (refused_row k p) 0 up up (refusal_now b) rows
by-left s new k p up rows true shows st = record { sent = same-queue up; shows = shows; fresh = λ h. absurd (let d = sym h ∙ takes-unsent k p silent refl in cc); stands = st }
by-left s new k p up rows false shows st = record { sent = same-queue up; shows = shows; fresh = λ h. absurd (let d = sym h ∙ takes-unsent k p silent refl in cc); stands = st }

pub refused : (s new : CoreState) (k : ℕ) (p : List ℕ) (what : Global) (want : Bool) (v : Verdict) (up : QueueState) → v ≡ refusal_verdict want (member_waiting_of k s.clients) → new ≡ record s { clients = after_refusal want k s.clients } → ((rows : List Row) → CoreRepresents s rows → sent_request s.policy k (rows_of k rows) p what want ≡ silent) → SendsRoomy s new k p what want up up v
refused s new k p what false v up is after does = λ room rows st serves e. refused-silent s new k p what v up rows st serves e (does rows st) is after
refused s new k p what true v up is after does = λ room rows st serves e.
    subst (λ x. CoreSendsIn s new k p 0 up up x rows) (sym is) (subst (λ x. CoreSendsIn s x k p 0 up up (refusal_now (is_none_left (member_waiting_of k s.clients))) rows) (sym (after ∙ ap (λ (cs : List MemberState). record s { clients = cs }) (with-map k or_behind s.clients st.clients.once)))
    (subst (λ o. SendsRow s (record s { clients = map (changes k or_behind) s.clients }) (sent_as k p o) 0 up up (refusal_now (is_none_left (member_waiting_of k s.clients))) rows) (sym (by-full s k p what true false rows st serves e room ∙ does rows st))
    (by-left s (record s { clients = map (changes k or_behind) s.clients }) k p up rows (is_none_left (member_waiting_of k s.clients)) (shows-refusal k p what (rows_of k rows) (member_waiting_of k s.clients) e (recorded-if k p what (rows_of k rows) (member_waiting_of k s.clients) e (served (look rows) k s.clients st.clients.each serves).here (waits-are rows k s.clients st.clients.each st.clients.once serves))) (refused-stands s k p what rows st serves e))))
