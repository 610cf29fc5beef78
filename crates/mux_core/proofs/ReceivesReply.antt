-- What stands when the server replies to a client that is served, or for one that is lost.
use Rattle.std.proofs.Common.{◌≡◌, ◌≤◌, ◌<◌, ℕ, List, [], ◌∷◌, ◌++◌, length, map, true, false, Bool, refl, ◌∙◌, ap, sym, subst, None, arith}
use Rattle.std.specs.Prelude.{filter, ◌==◌, ◌&&◌, ◌||◌, not, nat_lt}
use Rattle.std.specs.List.{AllByRecursion}
use Rattle.std.proofs.lemmas.List.{append-nil}
use Rattle.std.proofs.lemmas.Bool.Decides.{nat_tests}
use Rattle.mux_history.specs.declared.limits.TheConstants.{MAX_CLIENTS}
use Rattle.mux_history.specs.Summary.{Summary}
use Rattle.mux_history.specs.Rows.{Heard, Row, any_of, is_admit, is_lost, rows_of}
use Rattle.mux_history.specs.Channels.{Channel, held_of, is_channel_held, with_ups}
use Rattle.mux_history.specs.Farewell.{has_open_matters}
use Rattle.mux_history.specs.Forwardings.{Forwarding, current}
use Rattle.mux_history.specs.Log.{admitted_clients}
use Rattle.mux_history.specs.Requests.{Ask, wanted_requests, replies, reply_in, wanted}
use Rattle.mux_history.proofs.Bools.{same-number}
use Rattle.mux_history.proofs.CurrentSteps.{is_on}
use Rattle.mux_history.proofs.OwnRows.{idle_row, own_row}
use Rattle.mux_isolation.specs.LogView.{waiting_left_of}
use Rattle.global_replies.specs.Replies.{after_reply}
use Rattle.forward_rules.specs.State as kept
use Rattle.forward_rules.specs.Stands.{AreFit, AreForwardsListed}
use Rattle.channel_table.specs.Entries.{TableEntry}
use Rattle.mux_core.specs.State.{MemberState, CoreState, is_member_served}
use Rattle.mux_core.specs.Stands.{AsksFit, ClientFits, CoreRepresents, TableFits, has_matters, is_member_known, look}
use Rattle.mux_core.specs.Settling.{has_left, is_lost_in, client_settled}
use Rattle.mux_core.proofs.Answering.{Waits, asks-replied, replied-waits}
use Rattle.mux_core.proofs.Quiet.{own-same}
use Rattle.mux_core.proofs.Refused.{known-same, length-same, numbers-same, once-same, served-same}
use Rattle.mux_core.proofs.Replied.{IsBystander, after, idle-all, nobody-fit}
use Rattle.mux_core.proofs.Removed.{on-all, on-listed}
use Rattle.mux_core.proofs.ReplyRow.{IsReply, all-next, asked-first, came, current-next, own-next, reply_row, same-held, waits-start}
use Rattle.mux_core.proofs.Requested.{all-known, all-served}
use Rattle.mux_core.proofs.Served.{IsServed, open-by, served}
use Rattle.mux_core.proofs.Settles.{clients-settle, elsewhere, known-settle, lost-matters, lost-there}
use Rattle.mux_core.proofs.Waiting.{changes, changes-at}

-- ---- to a client that is served

waits-next : (k : ℕ) (p : List ℕ) (m : Summary) (sent : List (List ℕ)) (own : List Row) (w : List Bool) → IsReply p m → Waits (wanted own) (replies own) w → length (replies own) < length (wanted_requests own) → Waits (wanted (reply_row k p sent ∷ own)) (replies (reply_row k p sent ∷ own)) (after_reply w)
waits-next k p m sent own w is h lt =
    let s = waits-start own w h lt in
    subst (λ v. Waits (wanted (reply_row k p sent ∷ own)) (replies (reply_row k p sent ∷ own)) (after_reply v)) (sym s.is)
    (ap (λ fs. waiting_left_of fs (replies own ++ reply_in (Heard p))) (append-nil (wanted own))
    ∙ (ap (λ rs. waiting_left_of (wanted own) (replies own ++ rs)) (came p m is) ∙ replied-waits (wanted own) (replies own) s.later p (subst (Waits (wanted own) (replies own)) s.is h)))

client-next : (k : ℕ) (p : List ℕ) (m : Summary) (sent : List (List ℕ)) (rows : List Row) (c : MemberState) → IsReply p m → length (replies (rows_of k rows)) < length (wanted_requests (rows_of k rows)) → ClientFits (look rows) c → ClientFits (look (reply_row k p sent ∷ rows)) (changes k after_reply c)
client-next k p m sent rows c is lt fits = by_number (c.number == k) refl (k == c.number) refl
  where
    after-own : (j : ℕ) → (k == j) ≡ true → rows_of j (reply_row k p sent ∷ rows) ≡ reply_row k p sent ∷ rows_of j rows
    after-own j h = own_row j (reply_row k p sent) rows h

    clash : (a b : ℕ) → (a == b) ≡ true → (b == a) ≡ false → ⊥
    clash a b h g = grind (arith, nat_tests)

    by_number : (b : Bool) → (c.number == k) ≡ b → (d : Bool) → (k == c.number) ≡ d → ClientFits (look (reply_row k p sent ∷ rows)) (changes k after_reply c)
    by_number true h true g = subst (ClientFits (look (reply_row k p sent ∷ rows))) (sym (changes-at k after_reply c true h)) (record {
      nonzero = fits.nonzero;
      admitted = ap (any_of is_admit) (after-own c.number g) ∙ fits.admitted;
      lost = fits.lost ∙ sym (ap is_lost (after-own c.number g));
      answers = λ here. ap (λ own. waiting_left_of (wanted own) (replies own)) (after-own c.number g) ∙ waits-next k p m sent (rows_of c.number rows) c.waiting is (fits.answers here) (subst (λ i. length (replies (rows_of i rows)) < length (wanted_requests (rows_of i rows))) (same-number k c.number g) lt);
    })
    by_number false h false g = subst (ClientFits (look (reply_row k p sent ∷ rows))) (sym (changes-at k after_reply c false h)) (record {
      nonzero = fits.nonzero;
      admitted = ap (any_of is_admit) (idle_row c.number (reply_row k p sent) rows g) ∙ fits.admitted;
      lost = fits.lost ∙ sym (ap is_lost (idle_row c.number (reply_row k p sent) rows g));
      answers = λ here. ap (λ own. waiting_left_of (wanted own) (replies own)) (idle_row c.number (reply_row k p sent) rows g) ∙ fits.answers here;
    })
    by_number true h false g = absurd (clash c.number k h g)
    by_number false h true g = absurd (clash k c.number g h)

clients-next : (k : ℕ) (p : List ℕ) (m : Summary) (sent : List (List ℕ)) (rows : List Row) (cs : List MemberState) → IsReply p m → length (replies (rows_of k rows)) < length (wanted_requests (rows_of k rows)) → AllByRecursion (ClientFits (look rows)) cs → AllByRecursion (ClientFits (look (reply_row k p sent ∷ rows))) (map (changes k after_reply) cs)
clients-next k p m sent rows [] is lt all = tt
clients-next k p m sent rows (c ∷ cs) is lt all = (client-next k p m sent rows c is lt all.0, clients-next k p m sent rows cs is lt all.1)

matters-next : (k : ℕ) (p : List ℕ) (sent : List (List ℕ)) (rows : List Row) → IsServed k (look rows) → (j : ℕ) → has_matters (reply_row k p sent ∷ rows) j ≡ has_matters rows j
matters-next k p sent rows s j = by_case (k == j) refl
  where
    by_case : (b : Bool) → (k == j) ≡ b → has_matters (reply_row k p sent ∷ rows) j ≡ has_matters rows j
    by_case false e = ap has_open_matters (idle_row j (reply_row k p sent) rows e)
    by_case true e =
        let same : k ≡ j = same-number k j e in
        let admitted : any_of is_admit (rows_of j rows) ≡ true = subst (λ i. (look rows).admitted i ≡ true) same s.admitted in
        let here : is_lost (rows_of j rows) ≡ false = subst (λ i. (look rows).lost i ≡ false) same s.here in
        ap has_open_matters (own_row j (reply_row k p sent) rows e) ∙ (open-by (reply_row k p sent ∷ rows_of j rows) admitted here ∙ sym (open-by (rows_of j rows) admitted here))

pub served-stands : (s : CoreState) (p : List ℕ) (m : Summary) (sent : List (List ℕ)) (a : Ask) (queue : List Ask) (fs : List kept.Forward) (rows : List Row) → CoreRepresents s rows → is_member_served s.clients a.client ≡ true → IsReply p m → s.asks ≡ a ∷ queue → ((x : Channel) → with_ups None sent x ≡ x)
    → AreFit fs (filter is_on (map (after a.client ((look rows).own a.client).replied m) (current rows))) (look (reply_row a.client p sent ∷ rows)).own (look rows).lost → AllByRecursion (λ f. is_member_served s.clients f.client ≡ true) fs
    → CoreRepresents (record s { asks = queue; forwards = fs; clients = map (changes a.client after_reply) s.clients }) (reply_row a.client p sent ∷ rows)
served-stands s p m sent a queue fs rows st serves is first ups fit theirs =
    let k : ℕ = a.client in
    let row : Row = reply_row a.client p sent in
    let asked = asked-first s rows a queue st first in
    let is_here : IsServed a.client (look rows) = served (look rows) a.client s.clients st.clients.each serves in
    let next = own-next a.client p m sent rows is in
    let lost : (λ (j : ℕ). is_lost (rows_of j rows)) ≡ (λ (j : ℕ). is_lost (rows_of j (reply_row a.client p sent ∷ rows))) = λ i j. sym (own-same is_lost (reply_row a.client p sent) rows (λ o. refl) j) i in
    let matters : has_matters rows ≡ has_matters (reply_row a.client p sent ∷ rows) = λ i j. sym (matters-next a.client p sent rows is_here j) i in
    record {
      channels = subst (TableFits s.channels) (sym (same-held a.client p m sent rows is ups)) st.channels;
      asks = asks-replied a queue (look rows) (look (reply_row a.client p sent ∷ rows)) (subst (λ us. AsksFit us (look rows)) first st.asks) (all-next a.client p m sent rows is) next.mine next.others;
      forwards = subst (λ (gs : List Forwarding). AreFit fs gs (look (reply_row a.client p sent ∷ rows)).own (look (reply_row a.client p sent ∷ rows)).lost) (sym (current-next a.client p m sent rows is)) (subst (λ (l : ℕ → Bool). AreFit fs (filter is_on (map (after a.client ((look rows).own a.client).replied m) (current rows))) (look (reply_row a.client p sent ∷ rows)).own l) lost fit);
      clients = record {
        numbers = numbers-same a.client after_reply s.clients ∙ (st.clients.numbers ∙ (ap (λ m. filter m (admitted_clients rows)) matters ∙ ap (filter (has_matters (reply_row a.client p sent ∷ rows))) (sym (append-nil (admitted_clients rows)))));
        each = clients-next a.client p m sent rows s.clients is asked.waits st.clients.each;
        once = once-same a.client after_reply s.clients st.clients.once;
        few = subst (λ n. n ≤ MAX_CLIENTS) (sym (length-same a.client after_reply s.clients)) st.clients.few;
      };
      known = record {
        channels = all-known (λ (f : TableEntry). f.channel.client) s.clients (map (changes a.client after_reply) s.clients) (λ j. known-same a.client j after_reply s.clients) s.channels st.known.channels;
        asks = all-known (λ (b : Ask). b.client) s.clients (map (changes a.client after_reply) s.clients) (λ j. known-same a.client j after_reply s.clients) queue (subst (AllByRecursion (λ (b : Ask). is_member_known s.clients b.client ≡ true)) first st.known.asks).1;
        forwards = all-served s.clients (map (changes a.client after_reply) s.clients) (λ j. served-same a.client j after_reply s.clients) fs theirs;
      };
    }

-- ---- for a client that is lost

lost-client : (k : ℕ) (p : List ℕ) (m : Summary) (sent : List (List ℕ)) (rows : List Row) (c : MemberState) → is_lost (rows_of k rows) ≡ true → ClientFits (look rows) c → ClientFits (look (reply_row k p sent ∷ rows)) c
lost-client k p m sent rows c gone fits = record {
  nonzero = fits.nonzero;
  admitted = own-same (any_of is_admit) (reply_row k p sent) rows (λ o. refl) c.number ∙ fits.admitted;
  lost = fits.lost ∙ sym (own-same is_lost (reply_row k p sent) rows (λ o. refl) c.number);
  answers = λ here. by_number here (k == c.number) refl;
}
  where
    by_number : c.lost ≡ false → (b : Bool) → (k == c.number) ≡ b → (look (reply_row k p sent ∷ rows)).waiting c.number ≡ record { requests = c.waiting; early = [] }
    by_number here true h = absurd (let x : is_lost (rows_of c.number rows) ≡ true = subst (λ i. is_lost (rows_of i rows) ≡ true) (same-number k c.number h) gone in let y : true ≡ false = sym x ∙ (sym fits.lost ∙ here) in cc)
    by_number here false h = ap (λ own. waiting_left_of (wanted own) (replies own)) (idle_row c.number (reply_row k p sent) rows h) ∙ fits.answers here

lost-clients : (k : ℕ) (p : List ℕ) (m : Summary) (sent : List (List ℕ)) (rows : List Row) (cs : List MemberState) → is_lost (rows_of k rows) ≡ true → AllByRecursion (ClientFits (look rows)) cs → AllByRecursion (ClientFits (look (reply_row k p sent ∷ rows))) cs
lost-clients k p m sent rows [] gone all = tt
lost-clients k p m sent rows (c ∷ cs) gone all = (lost-client k p m sent rows c gone all.0, lost-clients k p m sent rows cs gone all.1)

-- a request without reply leaves its client's matters open
open-asked : (own : List Row) → length (replies own) < length (wanted_requests own) → has_open_matters own ≡ true
open-asked own lt = end (any_of is_admit own && not (is_lost own)) (any_of is_channel_held (held_of own)) (nat_lt (length (replies own)) (length (wanted_requests own))) (yes-lt (length (replies own)) (length (wanted_requests own)) lt)
  where
    yes-lt : (a b : ℕ) → a < b → nat_lt a b ≡ true
    yes-lt a b h = grind (arith, nat_tests)

    end : (a b c : Bool) → c ≡ true → (a || (b || c)) ≡ true
    end true b c h = refl
    end false true c h = refl
    end false false c h = h

-- none of the forwardings is its
none-theirs : (s : CoreState) (rows : List Row) (k : ℕ) → CoreRepresents s rows → AllByRecursion (λ f. (f.client == k) ≡ false) s.forwards → AllByRecursion (λ (g : Forwarding). (g.client == k) ≡ false) (current rows)
none-theirs s rows k st all = pairs s.forwards (current rows) st.forwards.listed all
  where
    pairs : (fs : List kept.Forward) (gs : List Forwarding) → AreForwardsListed fs gs → AllByRecursion (λ f. (f.client == k) ≡ false) fs → AllByRecursion (λ (g : Forwarding). (g.client == k) ≡ false) gs
    pairs [] [] listed all = tt
    pairs [] (g ∷ gs) listed all = absurd listed
    pairs (f ∷ fs) [] listed all = absurd listed
    pairs (f ∷ fs) (g ∷ gs) listed all = (ap (λ i. i == k) (sym listed.0.client) ∙ all.0, pairs fs gs listed.1 all.1)

all-idle : (k place : ℕ) (gs : List Forwarding) → AllByRecursion (λ (g : Forwarding). (g.client == k) ≡ false) gs → AllByRecursion (IsBystander k place) gs
all-idle k place [] all = tt
all-idle k place (g ∷ gs) all = ((λ mine. absurd (let x : true ≡ false = sym mine ∙ all.0 in cc)), all-idle k place gs all.1)

pub lost-reply-stands : (s : CoreState) (p : List ℕ) (m : Summary) (sent : List (List ℕ)) (a : Ask) (queue : List Ask) (rows : List Row) → CoreRepresents s rows → is_lost_in s.clients a.client ≡ true → IsReply p m → s.asks ≡ a ∷ queue → ((x : Channel) → with_ups None sent x ≡ x)
    → CoreRepresents (client_settled (record s { asks = queue }) a.client) (reply_row a.client p sent ∷ rows)
lost-reply-stands s p m sent a queue rows st lost is first ups =
    let asked = asked-first s rows a queue st first in
    let gone : is_lost (rows_of a.client rows) ≡ true = lost-there (look rows) a.client s.clients st.clients.each lost in
    let next = own-next a.client p m sent rows is in
    let lost_same : (λ (j : ℕ). is_lost (rows_of j rows)) ≡ (λ (j : ℕ). is_lost (rows_of j (reply_row a.client p sent ∷ rows))) = λ i j. sym (own-same is_lost (reply_row a.client p sent) rows (λ o. refl) j) i in
    let channels : TableFits s.channels (held_of (reply_row a.client p sent ∷ rows)) = subst (TableFits s.channels) (sym (same-held a.client p m sent rows is ups)) st.channels in
    let asks_fit : AsksFit queue (look (reply_row a.client p sent ∷ rows)) = asks-replied a queue (look rows) (look (reply_row a.client p sent ∷ rows)) (subst (λ us. AsksFit us (look rows)) first st.asks) (all-next a.client p m sent rows is) next.mine next.others in
    let here : has_matters (reply_row a.client p sent ∷ rows) a.client ≡ has_left (record s { asks = queue }) a.client = lost-matters (record s { asks = queue }) a.client (reply_row a.client p sent ∷ rows) channels asks_fit (own-same is_lost (reply_row a.client p sent) rows (λ o. refl) a.client ∙ gone) in
    let away = elsewhere (look rows) s a.client st.clients.each gone st.known.forwards in
    let idle = all-idle a.client ((look rows).own a.client).replied (current rows) (none-theirs s rows a.client st away) in
    record {
      channels = channels;
      asks = asks_fit;
      forwards = subst (λ (gs : List Forwarding). AreFit s.forwards gs (look (reply_row a.client p sent ∷ rows)).own (look (reply_row a.client p sent ∷ rows)).lost)
          (sym (current-next a.client p m sent rows is ∙ (ap (filter is_on) (idle-all a.client ((look rows).own a.client).replied m (current rows) idle) ∙ on-all (current rows) (on-listed s.forwards (current rows) st.forwards.listed))))
          (nobody-fit a.client s.forwards (current rows) (look rows).own (look (reply_row a.client p sent ∷ rows)).own (look (reply_row a.client p sent ∷ rows)).lost (subst (λ (l : ℕ → Bool). AreFit s.forwards (current rows) (look rows).own l) lost_same st.forwards) next idle);
      clients = clients-settle a.client (has_left (record s { asks = queue }) a.client) s.clients (has_matters rows) (has_matters (reply_row a.client p sent ∷ rows)) (look (reply_row a.client p sent ∷ rows))
          (record {
            numbers = st.clients.numbers ∙ ap (filter (has_matters rows)) (sym (append-nil (admitted_clients rows)));
            each = lost-clients a.client p m sent rows s.clients gone st.clients.each;
            once = st.clients.once;
            few = st.clients.few;
          })
          (λ j apart. ap has_open_matters (idle_row j (reply_row a.client p sent) rows (turned j a.client apart))) here (open-asked (rows_of a.client rows) asked.waits);
      known = known-settle (record s { asks = queue }) a.client (record { channels = st.known.channels; asks = (subst (AllByRecursion (λ (b : Ask). is_member_known s.clients b.client ≡ true)) first st.known.asks).1; forwards = st.known.forwards }) away;
    }
  where
    turned : (a b : ℕ) → (a == b) ≡ false → (b == a) ≡ false
    turned a b h = grind (arith, nat_tests)
