-- One saying more, in rows.
use Rattle.std.proofs.Common.{◌≡◌, ◌+◌, ℕ, Bool, true, false, not, ◌&&◌, ◌||◌, List, [], ◌∷◌, ◌++◌, length, map, Option, Some, refl, sym, ap, ◌∙◌, subst, inl, inr, ◌⊎◌, append_assoc, length-append, arith}
use Rattle.mux_outside.specs.declared.house_mark.HouseMark.{HouseMark as Asked}
use Rattle.mux_outside.specs.declared.house.HouseReply.{HouseReply}
use Rattle.ssh_grammar.specs.Frames.{Frame}
use Rattle.ssh_grammar.specs.Said.{Mode, InControl, InProxy, Stopped, Outgoing, Parsed, after_body, first_in, mode_after, parse, sending_in, with_sending}
use Rattle.ssh_grammar.proofs.Parses.{parse-at, parse-stopped}
use Rattle.proxy_frames.specs.State.{QueueState}
use Rattle.mux_history.specs.Policy.{Policy}
use Rattle.mux_history.specs.Rows.{Row, rows_of, is_end, is_run_over, is_out, Item, Says, Fate, Goes, Refused, Drop, End}
use Rattle.mux_history.specs.Choices.{numbers_taken, replies_given}
use Rattle.mux_history.specs.Settings.{by_lists}
use Rattle.mux_history.specs.Promises.{is_still_accepting, serves_stop}
use Rattle.mux_history.specs.Solo.{run_end_of}
use Rattle.mux_history.specs.declared.ended.Ended.{Ended}
use Rattle.mux_history.specs.Journal.{sent_item}
use Rattle.mux_history.specs.Log.{Setting, makes_next, more_all, more_of, next_row}
use Rattle.mux_core.specs.State.{CoreState}
use Rattle.mux_peers.specs.declared.standing.Standing.{Standing}
use Rattle.mux_peers.specs.declared.standing.Standing.TheVariants.{Awaited, Greeted, Proxied, Unread, Lost}
use Rattle.mux_peers.specs.State.{ClientState, PeerState, part}
use Rattle.mux_peers.specs.Stands.{PartFits, is_read, parse_mode_of, rest_if, standing_in, stands_by, standing_of}
use Rattle.mux_peers.specs.Stands as stands
use Rattle.mux_peers.specs.declared.run_change.RunChange.{RunChange}
use Rattle.mux_peers.specs.Asked.{asks_of_rows, item_asks, sending_asks}
use Rattle.mux_peers.specs.Bodies.{end_in}
use Rattle.mux_peers.specs.Says.{IsOfBytes}
use Rattle.mux_history.specs.Right.{AreFresh}
use Rattle.mux_peers.specs.Pieces.{AreOfBytes, ReadsOn, RunsTo, with_sent_before, ended_then, rows_sent}
use Rattle.mux_peers.proofs.Stood.{kept_here, out_is, own_row, standing_row, standing_step}

-- ---- the last of many

more-last : (s : Setting) (rows : List Row) (items : List Item) (item : Item) → more_all s rows (items ++ item ∷ []) ≡ more_of s (more_all s rows items) item
more-last s rows [] item = refl
more-last s rows (i ∷ items) item = more-last s (more_of s rows i) items item

map-last : (f : Outgoing → Item) (xs : List Outgoing) (x : Outgoing) → map f (xs ++ x ∷ []) ≡ map f xs ++ f x ∷ []
map-last f [] x = refl
map-last f (y ∷ xs) x = ap (λ l. f y ∷ l) (map-last f xs x)

-- ---- a saying of a client that is read makes a row

pub read-here : (s : Standing) → is_read s ≡ true → stands.is_standing_lost s ≡ false
read-here Awaited e = refl
read-here Greeted e = refl
read-here Proxied e = refl
read-here Unread e = absurd (cc)
read-here (Lost why) e = absurd (cc)

makes-said : (s : Setting) (k : ℕ) (x : Outgoing) (rows : List Row) → is_run_over rows ≡ false → is_out (rows_of k rows) ≡ false → more_of s rows (sent_item k x) ≡ next_row s rows (sent_item k x) ∷ rows
makes-said s k x rows live out =
    let makes : makes_next rows (sent_item k x) ≡ true = ap (λ b. elim b as (λ _. Bool) [ true ↦ false | false ↦ not (is_out (rows_of k rows)) ]) live ∙ ap not out in
    ap (λ b. elim b as (λ _. List Row) [ false ↦ rows | true ↦ next_row s rows (sent_item k x) ∷ rows ]) makes

pub rows-last : (policy : Policy) (pid : ℕ) (picks : List ℕ) (given : List HouseReply) (k : ℕ) (rows : List Row) (says : List Outgoing) (x : Outgoing) → is_run_over (rows_sent policy pid picks given k rows says) ≡ false → is_out (rows_of k (rows_sent policy pid picks given k rows says)) ≡ false
    → rows_sent policy pid picks given k rows (says ++ x ∷ []) ≡ next_row (by_lists policy pid picks given) (rows_sent policy pid picks given k rows says) (sent_item k x) ∷ rows_sent policy pid picks given k rows says
rows-last policy pid picks given k rows says x live out =
    ap (more_all (by_lists policy pid picks given) rows) (map-last (sent_item k) says x)
    ∙ (more-last (by_lists policy pid picks given) rows (map (sent_item k) says) (sent_item k x)
    ∙ makes-said (by_lists policy pid picks given) k x (rows_sent policy pid picks given k rows says) live out)

-- ---- how the client stands then

-- read on as its saying has it, in a run that goes on; or nothing more is read, as the run is over,
-- or it is out, or by the saying
abbrev ShowsRead : Fate → Outgoing → Standing → Type 0
ShowsRead f x s = is_read s ≡ true → (is_end f ≡ false) × (s ≡ stands_by x)

shows-read : (f : Fate) (k : ℕ) (x : Outgoing) (given : Option HouseReply) (s s' : Standing) → stands.is_standing_lost s ≡ false → s' ≡ standing_step f (Says k x given) s → ShowsRead f x s'
shows-read Goes k x given s s' here e r = (refl, e ∙ kept_here s (stands_by x) here)
shows-read (Drop cause) k x given s s' here e r = absurd (let d : false ≡ true = sym (ap is_read e) ∙ r in cc)
shows-read Refused k x given s s' here e r = absurd (let d : false ≡ true = sym (ap is_read e) ∙ r in cc)
shows-read (End cause) k x given s s' here e r = absurd (let d : false ≡ true = sym (ap is_read (e ∙ kept_here s Unread here)) ∙ r in cc)

shows-out : (f : Fate) (k : ℕ) (x : Outgoing) (given : Option HouseReply) (s s' : Standing) → stands.is_standing_lost s ≡ false → s' ≡ standing_step f (Says k x given) s → is_read s' ≡ false → ((is_end f ≡ true) ⊎ (stands.is_standing_lost s' ≡ true)) ⊎ (is_read (stands_by x) ≡ false)
shows-out Goes k x given s s' here e r = inr (sym (ap is_read (e ∙ kept_here s (stands_by x) here)) ∙ r)
shows-out (Drop cause) k x given s s' here e r = inl (inr (ap stands.is_standing_lost e))
shows-out Refused k x given s s' here e r = inl (inr (ap stands.is_standing_lost e))
shows-out (End cause) k x given s s' here e r = inl (inl refl)

-- ---- the mode

stands-mode : (m : Mode) → parse_mode_of (standing_in m) ≡ m
stands-mode InControl = refl
stands-mode InProxy = refl
stands-mode Stopped = refl

stands-stopped : (m : Mode) → is_read (standing_in m) ≡ false → m ≡ Stopped
stands-stopped InControl e = absurd (cc)
stands-stopped InProxy e = absurd (cc)
stands-stopped Stopped e = refl

-- after a frame the client is read as its saying has it
pub mode-next : (s : Standing) (content : List ℕ) → is_read s ≡ true → parse_mode_of (stands_by (sending_in (parse_mode_of s) content)) ≡ mode_after (parse_mode_of s) content
mode-next Awaited content e = stands-mode (after_body content)
mode-next Greeted content e = stands-mode (after_body content)
mode-next Proxied content e = refl
mode-next Unread content e = absurd (cc)
mode-next (Lost why) content e = absurd (cc)

mode-stops : (s : Standing) (content : List ℕ) → is_read s ≡ true → is_read (stands_by (sending_in (parse_mode_of s) content)) ≡ false → mode_after (parse_mode_of s) content ≡ Stopped
mode-stops Awaited content e r = stands-stopped (after_body content) r
mode-stops Greeted content e r = stands-stopped (after_body content) r
mode-stops Proxied content e r = absurd (cc)
mode-stops Unread content e r = absurd (cc)
mode-stops (Lost why) content e r = absurd (cc)

-- ---- one saying more

pub behind-more : (says : List Outgoing) (x : Outgoing) (p : Parsed) → with_sent_before says (with_sending x p) ≡ with_sent_before (says ++ x ∷ []) p
behind-more says x p = ap (λ l. let q : Parsed = record { says = l; mode = p.mode; rest = p.rest } in q) (sym (append_assoc says (x ∷ []) p.says))

pub record OneMore (policy : Policy) (pid : ℕ) (picks : List ℕ) (given : List HouseReply) (k : ℕ) (rows' : List Row) (x : Outgoing) (picked : List ℕ) (used : List HouseReply) (asks : List Asked) (core : CoreState) (up : QueueState) (peer : PeerState) (heard heard' : RunChange) : Type 0 where
  pub reply : Option HouseReply
  pub asks_is : sending_asks k x reply ≡ asks
  pub item_is : (next_row (by_lists policy pid picks given) rows' (sent_item k x)).item ≡ Says k x reply
  pub client_is : (next_row (by_lists policy pid picks given) rows' (sent_item k x)).client ≡ k
  pub number : peer.number ≡ k
  pub fits : PartFits (next_row (by_lists policy pid picks given) rows' (sent_item k x) ∷ rows') (part core peer up)
  pub taken : numbers_taken (next_row (by_lists policy pid picks given) rows' (sent_item k x) ∷ rows') ≡ numbers_taken rows' + length picked
  pub given_is : replies_given (next_row (by_lists policy pid picks given) rows' (sent_item k x) ∷ rows') ≡ replies_given rows' + length used
  pub fresh : IsOfBytes (sent_item k x) → AreFresh rows' → AreFresh (next_row (by_lists policy pid picks given) rows' (sent_item k x) ∷ rows')
  pub stops_is : heard'.stops ≡ (heard.stops || serves_stop (next_row (by_lists policy pid picks given) rows' (sent_item k x)) (rows_of (next_row (by_lists policy pid picks given) rows' (sent_item k x)).client rows'))
  pub ended_is : heard'.ended ≡ end_in (next_row (by_lists policy pid picks given) rows' (sent_item k x)).fate heard.ended

pub bytes-last : (k : ℕ) (says : List Outgoing) (x : Outgoing) → AreOfBytes k (says ++ x ∷ []) → AreOfBytes k says × IsOfBytes (sent_item k x)
bytes-last k [] x b = (tt, b.0)
bytes-last k (y ∷ says) x b = let q = bytes-last k says x b.1 in ((b.0, q.0), q.1)

-- what one row more does beyond its client
pub stops-more : (a b c l m : Bool) → c ≡ (a || b) → l ≡ (not a && m) → (not b && l) ≡ (not c && m)
stops-more a b c l m e f = ap (λ x. not b && x) f ∙ (by_case a b ∙ ap (λ x. not x && m) (sym e))
  where
    by_case : (a b : Bool) → (not b && (not a && m)) ≡ (not (a || b) && m)
    by_case true true = refl
    by_case true false = refl
    by_case false true = refl
    by_case false false = refl

pub ended-more : (f : Fate) (row : Row) (rows : List Row) (a c m : Option Ended) → row.fate ≡ f → c ≡ end_in f a → run_end_of rows ≡ ended_then a m → run_end_of (row ∷ rows) ≡ ended_then c m
ended-more (End cause) row rows a c m e h g = ap (λ (f : Fate). elim f as (λ _. Option Ended) [ End cause ↦ Some cause | Goes ↦ run_end_of rows | Refused ↦ run_end_of rows | Drop why ↦ run_end_of rows ]) e ∙ sym (ap (λ x. ended_then x m) h)
ended-more Goes row rows a c m e h g = ap (λ (f : Fate). elim f as (λ _. Option Ended) [ End cause ↦ Some cause | Goes ↦ run_end_of rows | Refused ↦ run_end_of rows | Drop why ↦ run_end_of rows ]) e ∙ (g ∙ sym (ap (λ x. ended_then x m) h))
ended-more Refused row rows a c m e h g = ap (λ (f : Fate). elim f as (λ _. Option Ended) [ End cause ↦ Some cause | Goes ↦ run_end_of rows | Refused ↦ run_end_of rows | Drop why ↦ run_end_of rows ]) e ∙ (g ∙ sym (ap (λ x. ended_then x m) h))
ended-more (Drop why) row rows a c m e h g = ap (λ (f : Fate). elim f as (λ _. Option Ended) [ End cause ↦ Some cause | Goes ↦ run_end_of rows | Refused ↦ run_end_of rows | Drop why ↦ run_end_of rows ]) e ∙ (g ∙ sym (ap (λ x. ended_then x m) h))

-- of a frame that its client sends
pub frame-runs : (policy : Policy) (pid : ℕ) (picks : List ℕ) (given : List HouseReply) (k : ℕ) (mode : Mode) (all picked picked' : List ℕ) (used used' : List HouseReply) (asks asks' : List Asked) (rows : List Row) (core core' : CoreState) (up up' : QueueState) (now new : ClientState) (heard heard' : RunChange) (content rest : List ℕ)
    → is_read now.peer.standing ≡ true → first_in (parse_mode_of now.peer.standing) now.rest ≡ Frame content rest → new.rest ≡ rest_if (is_read new.peer.standing) rest
    → (r : RunsTo policy pid picks given k mode all picked used asks rows core up now heard)
    → OneMore policy pid picks given k (rows_sent policy pid picks given k rows r.says) (sending_in (parse_mode_of now.peer.standing) content) picked' used' asks' core' up' new.peer heard heard'
    → RunsTo policy pid picks given k mode all (picked ++ picked') (used ++ used') (asks ++ asks') rows core' up' new heard'
frame-runs policy pid picks given k mode all picked picked' used used' asks asks' rows core core' up up' now new heard heard' content rest read front left r one =
    let s : Standing = now.peer.standing in
    let x : Outgoing = sending_in (parse_mode_of s) content in
    let rows' : List Row = rows_sent policy pid picks given k rows r.says in
    let own : List Row = rows_of k rows' in
    let row : Row = next_row (by_lists policy pid picks given) rows' (sent_item k x) in
    let on : ReadsOn all mode now rows' r.says = r.reads read in
    let stood : s ≡ standing_of own = r.fits.peer.standing_is ∙ ap (λ j. standing_of (rows_of j rows')) r.number in
    let here : stands.is_standing_lost s ≡ false = read-here s read in
    let out : is_out own ≡ false = out_is own ∙ (ap stands.is_standing_lost (sym stood) ∙ here) in
    let last : rows_sent policy pid picks given k rows (r.says ++ x ∷ []) ≡ row ∷ rows' = rows-last policy pid picks given k rows r.says x on.live out in
    let mine : rows_of new.peer.number (row ∷ rows') ≡ row ∷ own = ap (λ j. rows_of j (row ∷ rows')) one.number ∙ own_row k row rows' one.client_is in
    let stands' : new.peer.standing ≡ standing_step row.fate (Says k x one.reply) s =
    one.fits.peer.standing_is ∙ (ap standing_of mine ∙ (standing_row (Says k x one.reply) row.fate row own one.item_is refl ∙ ap (standing_step row.fate (Says k x one.reply)) (sym stood))) in
    let said-rest : parse mode all ≡ with_sent_before (r.says ++ x ∷ []) (parse (mode_after (parse_mode_of s) content) rest) =
    on.rest ∙ (ap (with_sent_before r.says) (parse-at (parse_mode_of s) now.rest (Frame content rest) front) ∙ behind-more r.says x (parse (mode_after (parse_mode_of s) content) rest)) in
    record {
      says = r.says ++ x ∷ [];
      number = one.number;
      fits = subst (λ l. PartFits l (part core' new.peer up')) (sym last) one.fits;
      taken = ap numbers_taken last ∙ (one.taken ∙ (let t : numbers_taken rows' ≡ numbers_taken rows + length picked = r.taken in omega (arith, length-append picked picked')));
      given_is = ap replies_given last ∙ (one.given_is ∙ (let t : replies_given rows' ≡ replies_given rows + length used = r.given_is in omega (arith, length-append used used')));
      asked = ap asks_of_rows last ∙ (ap (λ (l : List Asked). asks_of_rows rows' ++ l) (ap item_asks one.item_is ∙ one.asks_is) ∙ (ap (λ (l : List Asked). l ++ asks') r.asked ∙ append_assoc (asks_of_rows rows) asks asks'));
      fresh = λ bytes f. let q = bytes-last k r.says x bytes in subst AreFresh (sym last) (one.fresh q.1 (r.fresh q.0 f));
      stops_is = ap is_still_accepting last ∙ stops-more heard.stops (serves_stop row (rows_of row.client rows')) heard'.stops (is_still_accepting rows') (is_still_accepting rows) one.stops_is r.stops_is;
      ended_is = ap run_end_of last ∙ ended-more row.fate row rows' heard.ended heard'.ended (run_end_of rows) refl one.ended_is r.ended_is;
      reads = λ e.
          let shown = shows-read row.fate k x one.reply s new.peer.standing here stands' e in
          record {
            live = ap is_run_over last ∙ (ap (λ b. b || is_run_over rows') shown.0 ∙ on.live);
            rest = said-rest ∙ (ap (λ m. with_sent_before (r.says ++ x ∷ []) (parse m rest)) (sym (ap parse_mode_of shown.1 ∙ mode-next s content read)) ∙ ap (λ l. with_sent_before (r.says ++ x ∷ []) (parse (parse_mode_of new.peer.standing) l)) (sym (left ∙ ap (λ b. rest_if b rest) e)));
          };
      over = λ e.
          record {
            more = (parse (mode_after (parse_mode_of s) content) rest).says;
            sends_all = ap (λ (p : Parsed). p.says) said-rest;
            none = elim (shows-out row.fate k x one.reply s new.peer.standing here stands' e) [
              | inl w ↦ inl (elim w [
                | inl t ↦ inl (ap is_run_over last ∙ ap (λ b. b || is_run_over rows') t)
                | inr t ↦ inr (ap (λ l. is_out (rows_of new.peer.number l)) last ∙ (out_is (rows_of new.peer.number (row ∷ rows')) ∙ (ap stands.is_standing_lost (sym one.fits.peer.standing_is) ∙ t)))
              ])
              | inr t ↦ inr (ap (λ m. (parse m rest).says) (mode-stops s content read t) ∙ ap (λ (p : Parsed). p.says) (parse-stopped rest))
            ];
            stopped = λ h l. by_shown row rows' (is_run_over rows') on.live h (sym (ap is_run_over last) ∙ l) (shows-out row.fate k x one.reply s new.peer.standing here stands' e)
                (λ t. ap (λ (p : Parsed). p.mode) said-rest ∙ (ap (λ m. (parse m rest).mode) (mode-stops s content read t) ∙ ap (λ (p : Parsed). p.mode) (parse-stopped rest)));
            empty = left ∙ ap (λ b. rest_if b rest) e;
          };
    }
  where
    -- the run neither ended by the row nor was the client lost by it
    by_shown : {P : Type 0} (row : Row) (rows' : List Row) (was : Bool) → is_run_over rows' ≡ false → stands.is_standing_lost new.peer.standing ≡ false → (is_end row.fate || is_run_over rows') ≡ false → ((is_end row.fate ≡ true) ⊎ (stands.is_standing_lost new.peer.standing ≡ true)) ⊎ (is_read (stands_by (sending_in (parse_mode_of now.peer.standing) content)) ≡ false)
        → (is_read (stands_by (sending_in (parse_mode_of now.peer.standing) content)) ≡ false → P) → P
    by_shown row rows' was live h l (inl (inl t)) f = absurd (let d : true ≡ false = sym (ap (λ b. b || is_run_over rows') t) ∙ l in cc)
    by_shown row rows' was live h l (inl (inr t)) f = absurd (let d : true ≡ false = sym t ∙ h in cc)
    by_shown row rows' was live h l (inr t) f = f t
