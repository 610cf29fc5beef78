-- What a client sends next is one saying more.
use Rattle.std.proofs.Common.{◌≡◌, ◌+◌, ℕ, suc, zero, Bool, true, false, ◌&&◌, ◌||◌, List, [], ◌∷◌, ◌++◌, length, drop, Option, Some, None, refl, sym, ap, ◌∙◌, subst, inr, append_assoc, append-nil, length-append, arith}
use Rattle.std.specs.Prelude.{is_some, ◌<◌, MatchBool}
use Rattle.mux_outside.specs.declared.house_mark.HouseMark.{HouseMark as Asked}
use Rattle.mux_outside.specs.declared.house.HouseReply.{HouseReply}
use Rattle.ssh_grammar.specs.declared.fault.BadFrame.{BadFrame}
use Rattle.ssh_grammar.specs.Frames.{Faulty}
use Rattle.ssh_grammar.specs.Said.{Mode, Outgoing, Body, Payload, BadFraming, Parsed, first_in}
use Rattle.ssh_grammar.proofs.Parses.{parse-at}
use Rattle.proxy_frames.specs.State.{QueueState}
use Rattle.mux_history.specs.Policy.{Policy}
use Rattle.mux_history.specs.declared.why.Why.TheVariants as why
use Rattle.mux_history.specs.Rows.{Row, rows_of, is_end, is_out, loses, Item, Says, Fate, Goes, Refused, Drop, End}
use Rattle.mux_history.specs.Channels.{holder, own_number_of}
use Rattle.mux_history.specs.Choices.{FromLists, has_reply, numbers_taken, pick_of, replies_given, reply_at, takes_number}
use Rattle.mux_history.specs.Controls.{body_asks, body_stops, client_has_greeted, sent_body}
use Rattle.mux_history.specs.Farewell.{farewell}
use Rattle.mux_history.specs.Requests.{is_sent}
use Rattle.mux_history.specs.Said.{Outcome, drops}
use Rattle.mux_history.specs.declared.limits.TheConstants.{NUMBERS_END}
use Rattle.mux_history.specs.Right.{AreFresh, carried_number}
use Rattle.mux_history.specs.Settings.{by_lists}
use Rattle.mux_history.specs.Promises.{is_still_accepting, serves_stop}
use Rattle.mux_history.specs.Solo.{run_end_of}
use Rattle.mux_history.specs.declared.ended.Ended.{Ended}
use Rattle.mux_history.specs.Journal.{sent_item}
use Rattle.mux_history.specs.Treat.{goes, all_recorded, bare_row, queued, row_of, treat}
use Rattle.mux_history.specs.Log.{next_row}
use Rattle.mux_core.specs.State.{CoreState}
use Rattle.mux_peers.specs.declared.standing.Standing.{Standing}
use Rattle.mux_peers.specs.declared.standing.Standing.TheVariants.{Awaited, Greeted, Proxied, Unread, Lost}
use Rattle.mux_peers.specs.declared.run_change.RunChange.{RunChange}
use Rattle.mux_peers.specs.declared.decision.Decision.{Decision}
use Rattle.mux_peers.specs.State.{ClientState, part}
use Rattle.mux_peers.specs.Stands.{PartFits, is_greeted, is_proxied, is_read, parse_mode_of, rest_if, standing_of}
use Rattle.mux_peers.specs.Stands as stands
use Rattle.mux_peers.specs.Asked.{asks_of_rows, item_asks, sending_asks}
use Rattle.mux_peers.specs.Decisions.{Decides, DecidesBy, reply_list}
use Rattle.mux_peers.specs.Bodies.{DoesBody, FollowsBy, end_in}
use Rattle.mux_peers.specs.Says.{ComeNext, Makes, SendsPayload}
use Rattle.mux_peers.specs.Nexts.{FaultBy}
use Rattle.mux_peers.specs.Pieces.{ReadsOn, ReplyNext, RunsTo, with_sent_before, rows_sent}
use Rattle.mux_peers.proofs.Runs.{OneMore, bytes-last, ended-more, rows-last, read-here, stops-more}
use Rattle.mux_peers.proofs.Stood.{out_is}

-- ---- what comes next after what was used

drop-front : {A : Type 0} (xs ys : List A) → drop (length xs) (xs ++ ys) ≡ ys
drop-front [] ys = refl
drop-front (x ∷ xs) ys = drop-front xs ys

drop-sum : {A : Type 0} (n m : ℕ) (xs : List A) → drop (n + m) xs ≡ drop m (drop n xs)
drop-sum zero m xs = ap (λ i. drop i xs) (let e : 0 + m ≡ m = omega arith in e)
drop-sum (suc n) m [] = ap (λ i. drop i []) (let e : suc n + m ≡ suc (n + m) = omega arith in e) ∙ sym (drop-none m)
  where
    drop-none : {A : Type 0} (i : ℕ) → drop i (let l : List A = [] in l) ≡ []
    drop-none zero = refl
    drop-none (suc i) = refl
drop-sum (suc n) m (x ∷ xs) = ap (λ i. drop i (x ∷ xs)) (let e : suc n + m ≡ suc (n + m) = omega arith in e) ∙ drop-sum n m xs

next-after : {A : Type 0} (used more later xs : List A) (n n' : ℕ) → n' ≡ n + length used → drop n xs ≡ (used ++ more) ++ later → drop n' xs ≡ more ++ later
next-after used more later xs n n' e h =
    ap (λ i. drop i xs) e ∙ (drop-sum n (length used) xs ∙ (ap (drop (length used)) (h ∙ append_assoc used more later) ∙ drop-front used (more ++ later)))

-- the first of them is enough for what came before
pub come-first : (picked more : List ℕ) (rows : List Row) (picks : List ℕ) → ComeNext (picked ++ more) rows picks → ComeNext picked rows picks
come-first picked more rows picks c = (more ++ c.0, c.1 ∙ append_assoc picked more c.0)

pub reply-first : (used more : List HouseReply) (rows : List Row) (given : List HouseReply) → ReplyNext (used ++ more) rows given → ReplyNext used rows given
reply-first used more rows given c = (more ++ c.0, c.1 ∙ append_assoc used more c.0)

come-after : (picked more : List ℕ) (rows rows' : List Row) (picks : List ℕ) → numbers_taken rows' ≡ numbers_taken rows + length picked → ComeNext (picked ++ more) rows picks → ComeNext more rows' picks
come-after picked more rows rows' picks e c = (c.0, next-after picked more c.0 picks (numbers_taken rows) (numbers_taken rows') e c.1)

pub reply-after : (used more : List HouseReply) (rows rows' : List Row) (given : List HouseReply) → replies_given rows' ≡ replies_given rows + length used → ReplyNext (used ++ more) rows given → ReplyNext more rows' given
reply-after used more rows rows' given e c = (c.0, next-after used more c.0 given (replies_given rows) (replies_given rows') e c.1)

-- ---- counts of one row

count-reply : (row : Row) (rows : List Row) (b : Bool) → has_reply row.item ≡ b → replies_given (row ∷ rows) ≡ (elim b as (λ _. ℕ) [ true ↦ replies_given rows + 1 | false ↦ replies_given rows ])
count-reply row rows b e = ap (λ (c : Bool). elim c as (λ _. ℕ) [ true ↦ replies_given rows + 1 | false ↦ replies_given rows ]) e

count-none : (row : Row) (rows : List Row) → takes_number row ≡ false → numbers_taken (row ∷ rows) ≡ numbers_taken rows + 0
count-none row rows e = ap (λ (c : Bool). elim c as (λ _. ℕ) [ true ↦ numbers_taken rows + 1 | false ↦ numbers_taken rows ]) e ∙ omega arith

and-no : (b : Bool) → (b && false) ≡ false
and-no true = refl
and-no false = refl

no-number : (row : Row) (item : Item) → row.item ≡ item → own_number_of item ≡ None → takes_number row ≡ false
no-number row item e o = ap (λ (i : Item). is_sent row && is_some (own_number_of i)) e ∙ (ap (λ (c : Option ℕ). is_sent row && is_some c) o ∙ and-no (is_sent row))

fresh-none : (row : Row) (rows : List Row) → takes_number row ≡ false → AreFresh rows → AreFresh (row ∷ rows)
fresh-none row rows e f = (subst (λ b. MatchBool b ((carried_number row.up < NUMBERS_END) × (holder rows (carried_number row.up) ≡ None)) (Unit {0})) (sym e) tt, f)

pub parts-of : (item : Item) (k : ℕ) (o : Outcome) (own : List Row) → ((row_of item k o own).item ≡ item) × ((row_of item k o own).client ≡ k)
parts-of item k o own = by_loss (loses (queued (all_recorded (bare_row item k o) own) (bare_row item k o) own))
  where
    q : Row
    q = queued (all_recorded (bare_row item k o) own) (bare_row item k o) own

    by_loss : (b : Bool) → (let row : Row = elim b as (λ _. Row) [ true ↦ record q { farewell = farewell q own } | false ↦ q ] in (row.item ≡ item) × (row.client ≡ k))
    by_loss true = (refl, refl)
    by_loss false = (refl, refl)

-- ---- a payload

or-false : (b : Bool) → b ≡ (b || false)
or-false true = refl
or-false false = refl

no-stops : (row : Row) (own : List Row) (k : ℕ) (p : List ℕ) → row.item ≡ Says k (Payload p) None → serves_stop row own ≡ false
no-stops row own k p e = ap (λ (x : Item). goes row.fate && elim x as (λ _. Bool) [ Says j outgoing given ↦ elim outgoing as (λ _. Bool) [ Body b ↦ client_has_greeted own && body_stops b | Payload p ↦ false | BadFraming f ↦ false ] | _ ↦ false ]) e ∙ and-no (goes row.fate)

no-end : (f : Fate) (before : Option Ended) → is_end f ≡ false → end_in f before ≡ before
no-end Goes before e = refl
no-end Refused before e = refl
no-end (Drop why) before e = refl
no-end (End cause) before e = absurd (cc)

proxied-is : (s : Standing) → is_proxied s ≡ true → s ≡ Proxied
proxied-is Proxied e = refl
proxied-is Awaited e = absurd (cc)
proxied-is Greeted e = absurd (cc)
proxied-is Unread e = absurd (cc)
proxied-is (Lost why) e = absurd (cc)

pub payload-more : (policy : Policy) (pid : ℕ) (picks : List ℕ) (given : List HouseReply) (k : ℕ) (mode : Mode) (all picked : List ℕ) (used : List HouseReply) (asks : List Asked) (rows : List Row) (core core' : CoreState) (up up' : QueueState) (now new : ClientState) (heard heard' : RunChange) (p : List ℕ)
    → core.policy ≡ policy → is_read now.peer.standing ≡ true → is_proxied now.peer.standing ≡ true → new.peer.number ≡ now.peer.number → heard' ≡ heard → (s : SendsPayload p (part core now.peer up) (part core' new.peer up'))
    → ComeNext (picked ++ s.picked) rows picks → (r : RunsTo policy pid picks given k mode all picked used asks rows core up now heard)
    → OneMore policy pid picks given k (rows_sent policy pid picks given k rows r.says) (Payload p) s.picked [] [] core' up' new.peer heard heard'
payload-more policy pid picks given k mode all picked used asks rows core core' up up' now new heard heard' p pol read proxied num same-heard s next r =
    let rows' : List Row = rows_sent policy pid picks given k rows r.says in
    let on : ReadsOn all mode now rows' r.says = r.reads read in
    let m0 = s.goes pid picks given rows' r.fits on.live (proxied-is now.peer.standing proxied) (come-after picked s.picked rows rows' picks r.taken next) in
    let m : Makes s.picked (Says k (Payload p) None) (part core' new.peer up') rows' (next_row (by_lists policy pid picks given) rows' (Says k (Payload p) None)) =
    subst (λ (q : Policy). Makes s.picked (Says k (Payload p) None) (part core' new.peer up') rows' (next_row (by_lists q pid picks given) rows' (Says k (Payload p) None))) pol
    (subst (λ j. Makes s.picked (Says j (Payload p) None) (part core' new.peer up') rows' (next_row (by_lists core.policy pid picks given) rows' (Says j (Payload p) None))) r.number m0) in
    let row : Row = next_row (by_lists policy pid picks given) rows' (Says k (Payload p) None) in
    record {
      reply = None;
      asks_is = refl;
      item_is = m.item_is;
      client_is = m.client_is ∙ (num ∙ r.number);
      number = num ∙ r.number;
      fits = m.fits;
      taken = m.taken;
      given_is = count-reply row rows' false (ap has_reply m.item_is) ∙ omega arith;
      fresh = m.fresh;
      stops_is = ap (λ (h : RunChange). h.stops) same-heard ∙ (or-false heard.stops ∙ ap (λ b. heard.stops || b) (sym (no-stops row (rows_of row.client rows') k p m.item_is)));
      ended_is = ap (λ (h : RunChange). h.ended) same-heard ∙ sym (no-end row.fate heard.ended m.runs);
    }

-- ---- a control message

get-front : (xs : List HouseReply) (n : ℕ) (x : HouseReply) (ys : List HouseReply) → drop n xs ≡ x ∷ ys → reply_at xs n ≡ x
get-front [] zero x ys e = absurd (cc)
get-front [] (suc n) x ys e = absurd (cc)
get-front (y ∷ xs) zero x ys e = cc
get-front (y ∷ xs) (suc n) x ys e = get-front xs n x ys e

-- the log's row of a body, with the reply that the forwarder gave
pub body-row : (policy : Policy) (pid : ℕ) (picks : List ℕ) (given : List HouseReply) (k : ℕ) (rows : List Row) (body : List ℕ) (reply : Option HouseReply) → is_some reply ≡ (client_has_greeted (rows_of k rows) && body_asks body) → ReplyNext (reply_list reply) rows given
    → next_row (by_lists policy pid picks given) rows (sent_item k (Body body)) ≡ row_of (Says k (Body body) reply) k (sent_body pid k reply (client_has_greeted (rows_of k rows)) body) (rows_of k rows)
body-row policy pid picks given k rows body None asked next =
    ap (λ b. let item : Item = elim b as (λ _. Item) [ true ↦ Says k (Body body) (Some (reply_at given (replies_given rows))) | false ↦ Says k (Body body) None ] in treat policy pid (pick_of (FromLists picks given) rows (Says k (Body body) None)) rows item) (sym asked)
body-row policy pid picks given k rows body (Some r) asked next =
    ap (λ b. let item : Item = elim b as (λ _. Item) [ true ↦ Says k (Body body) (Some (reply_at given (replies_given rows))) | false ↦ Says k (Body body) None ] in treat policy pid (pick_of (FromLists picks given) rows (Says k (Body body) None)) rows item) (sym asked)
    ∙ ap (λ (g : HouseReply). row_of (Says k (Body body) (Some g)) k (sent_body pid k (Some g) (client_has_greeted (rows_of k rows)) body) (rows_of k rows)) (get-front given (replies_given rows) r next.0 next.1)

counts-reply : (row : Row) (rows : List Row) (k : ℕ) (body : List ℕ) (reply : Option HouseReply) → row.item ≡ Says k (Body body) reply → replies_given (row ∷ rows) ≡ replies_given rows + length (reply_list reply)
counts-reply row rows k body None e = count-reply row rows false (ap has_reply e) ∙ omega arith
counts-reply row rows k body (Some r) e = count-reply row rows true (ap has_reply e)

pub body-more : (May : HouseReply → Type 0) (before recorded : Option (List Asked)) (policy : Policy) (pid : ℕ) (picks : List ℕ) (given : List HouseReply) (k : ℕ) (mode : Mode) (all picked : List ℕ) (used : List HouseReply) (asks : List Asked) (rows : List Row) (core core' : CoreState) (up up' : QueueState) (now new : ClientState) (heard heard' : RunChange) (body : List ℕ) (d : Decision)
    → is_read now.peer.standing ≡ true → (by : DecidesBy May before recorded pid now.peer.number (is_greeted now.peer.standing) body d) → FollowsBy d (part core now.peer up) heard (part core' new.peer up') heard'
    → ReplyNext (used ++ reply_list by.given) rows given → (r : RunsTo policy pid picks given k mode all picked used asks rows core up now heard)
    → OneMore policy pid picks given k (rows_sent policy pid picks given k rows r.says) (Body body) [] (reply_list by.given) (sending_asks now.peer.number (Body body) by.given) core' up' new.peer heard heard'
body-more May before recorded policy pid picks given k mode all picked used asks rows core core' up up' now new heard heard' body d read by follows next r =
    let rows' : List Row = rows_sent policy pid picks given k rows r.says in
    let own : List Row = rows_of k rows' in
    let on : ReadsOn all mode now rows' r.says = r.reads read in
    let here : stands.is_standing_lost now.peer.standing ≡ false = read-here now.peer.standing read in
    let mine : rows_of now.peer.number rows' ≡ own = ap (λ j. rows_of j rows') r.number in
    let greets : client_has_greeted (rows_of now.peer.number rows') ≡ is_greeted now.peer.standing = r.fits.peer.greeted_is here in
    let dec : Decides pid now.peer.number (client_has_greeted (rows_of now.peer.number rows')) body by.given d = subst (λ b. Decides pid now.peer.number b body by.given d) (sym greets) by.decides in
    let done0 = follows pid by.given body rows' (record { fits = r.fits; live = on.live; here = here; answers = dec.answers; stops = dec.stops; stands = dec.stands }) in
    let done : DoesBody (part core' new.peer up') heard heard' rows' (row_of (Says k (Body body) by.given) k (sent_body pid k by.given (client_has_greeted own) body) own) =
    subst (λ j. DoesBody (part core' new.peer up') heard heard' rows' (row_of (Says j (Body body) by.given) j (sent_body pid j by.given (client_has_greeted (rows_of j rows')) body) (rows_of j rows'))) r.number done0 in
    let asked : is_some by.given ≡ (client_has_greeted own && body_asks body) = dec.asked ∙ ap (λ (l : List Row). client_has_greeted l && body_asks body) mine in
    let is = body-row policy pid picks given k rows' body by.given asked (reply-after used (reply_list by.given) rows rows' given r.given_is next) in
    let row : Row = row_of (Says k (Body body) by.given) k (sent_body pid k by.given (client_has_greeted own) body) own in
    let parts = parts-of (Says k (Body body) by.given) k (sent_body pid k by.given (client_has_greeted own) body) own in
    record {
      reply = by.given;
      asks_is = ap (λ j. sending_asks j (Body body) by.given) (sym r.number);
      item_is = ap (λ (w : Row). w.item) is ∙ parts.0;
      client_is = ap (λ (w : Row). w.client) is ∙ parts.1;
      number = sym done.client_is ∙ parts.1;
      fits = subst (λ (w : Row). PartFits (w ∷ rows') (part core' new.peer up')) (sym is) done.fits;
      taken = ap (λ (w : Row). numbers_taken (w ∷ rows')) is ∙ count-none row rows' (no-number row (Says k (Body body) by.given) parts.0 refl);
      given_is = ap (λ (w : Row). replies_given (w ∷ rows')) is ∙ counts-reply row rows' k body by.given parts.0;
      fresh = λ bytes f. subst (λ (w : Row). AreFresh (w ∷ rows')) (sym is) (fresh-none row rows' (no-number row (Says k (Body body) by.given) parts.0 refl) f);
      stops_is = done.stops_is ∙ ap (λ (w : Row). heard.stops || serves_stop w (rows_of w.client rows')) (sym is);
      ended_is = done.ended_is ∙ ap (λ (w : Row). end_in w.fate heard.ended) (sym is);
    }

-- ---- a fault

pub fault-runs : (policy : Policy) (pid : ℕ) (picks : List ℕ) (given : List HouseReply) (k : ℕ) (mode : Mode) (all picked : List ℕ) (used : List HouseReply) (asks : List Asked) (rows : List Row) (core core' : CoreState) (up up' : QueueState) (now new : ClientState) (heard heard' : RunChange) (fault : BadFrame)
    → is_read now.peer.standing ≡ true → first_in (parse_mode_of now.peer.standing) now.rest ≡ Faulty fault → new.rest ≡ [] → is_read new.peer.standing ≡ false → FaultBy fault (part core now.peer up) heard (part core' new.peer up') heard'
    → RunsTo policy pid picks given k mode all picked used asks rows core up now heard → RunsTo policy pid picks given k mode all (picked ++ []) (used ++ []) (asks ++ []) rows core' up' new heard'
fault-runs policy pid picks given k mode all picked used asks rows core core' up up' now new heard heard' fault read front left unread faults r =
    let x : Outgoing = BadFraming fault in
    let rows' : List Row = rows_sent policy pid picks given k rows r.says in
    let own : List Row = rows_of k rows' in
    let on : ReadsOn all mode now rows' r.says = r.reads read in
    let here : stands.is_standing_lost now.peer.standing ≡ false = read-here now.peer.standing read in
    let out : is_out own ≡ false = out_is own ∙ (ap stands.is_standing_lost (sym (r.fits.peer.standing_is ∙ ap (λ j. standing_of (rows_of j rows')) r.number)) ∙ here) in
    let last = rows-last policy pid picks given k rows r.says x on.live out in
    let row : Row = row_of (Says k x None) k (drops (why.BadFrame fault)) own in
    let done0 = faults rows' r.fits on.live here in
    let done : DoesBody (part core' new.peer up') heard heard' rows' row = subst (λ j. DoesBody (part core' new.peer up') heard heard' rows' (row_of (Says j x None) j (drops (why.BadFrame fault)) (rows_of j rows'))) r.number done0 in
    let parts = parts-of (Says k x None) k (drops (why.BadFrame fault)) own in
    record {
      says = r.says ++ x ∷ [];
      number = sym done.client_is ∙ parts.1;
      fits = subst (λ l. PartFits l (part core' new.peer up')) (sym last) done.fits;
      taken = ap numbers_taken last ∙ (count-none row rows' (no-number row (Says k x None) parts.0 refl) ∙ (let t : numbers_taken rows' ≡ numbers_taken rows + length picked = r.taken in omega (arith, length-append picked [])));
      given_is = ap replies_given last ∙ (count-reply row rows' false (ap has_reply parts.0) ∙ (let t : replies_given rows' ≡ replies_given rows + length used = r.given_is in omega (arith, length-append used [])));
      asked = ap asks_of_rows last ∙ (ap (λ (l : List Asked). asks_of_rows rows' ++ l) (ap item_asks parts.0) ∙ (ap (λ (l : List Asked). l ++ []) r.asked ∙ append_assoc (asks_of_rows rows) asks []));
      fresh = λ bytes f. let q = bytes-last k r.says x bytes in subst AreFresh (sym last) (fresh-none row rows' (no-number row (Says k x None) parts.0 refl) (r.fresh q.0 f));
      stops_is = ap is_still_accepting last ∙ stops-more heard.stops (serves_stop row (rows_of row.client rows')) heard'.stops (is_still_accepting rows') (is_still_accepting rows) done.stops_is r.stops_is;
      ended_is = ap run_end_of last ∙ ended-more row.fate row rows' heard.ended heard'.ended (run_end_of rows) refl done.ended_is r.ended_is;
      reads = λ e. absurd (let d = sym unread ∙ e in cc);
      over = λ e. record {
        more = [];
        sends_all = ap (λ (p : Parsed). p.says) (on.rest ∙ ap (with_sent_before r.says) (parse-at (parse_mode_of now.peer.standing) now.rest (Faulty fault) front)) ∙ sym (append-nil (r.says ++ x ∷ []));
        none = inr refl;
        stopped = λ h l. ap (λ (p : Parsed). p.mode) (on.rest ∙ ap (with_sent_before r.says) (parse-at (parse_mode_of now.peer.standing) now.rest (Faulty fault) front));
        empty = left;
      };
    }
