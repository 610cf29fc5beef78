-- The rows of a piece are those that the journal gives it.
use Rattle.std.proofs.Common.{◌≡◌, ℕ, Bool, true, false, not, List, [], ◌∷◌, ◌++◌, length, drop, map, refl, sym, ap, ◌∙◌, subst, inl, inr, ◌⊎◌, append-nil}
use Rattle.mux_outside.specs.declared.house_mark.HouseMark.{HouseMark as Asked}
use Rattle.mux_outside.specs.declared.house.HouseReply.{HouseReply}
use Rattle.ssh_fields.specs.Fields.{AreBytes}
use Rattle.ssh_fields.proofs.Fields.{AreBytes-append}
use Rattle.ssh_grammar.specs.Frames.{More}
use Rattle.ssh_grammar.specs.Said.{InControl, Mode, Parsed, Outgoing, first_in, parse, said}
use Rattle.ssh_grammar.proofs.Parses.{parse-append, parse-at}
use Rattle.proxy_frames.specs.State.{QueueState}
use Rattle.mux_history.specs.Policy.{Policy}
use Rattle.mux_history.specs.Rows.{Row, Item, rows_of, is_run_over, is_out}
use Rattle.mux_history.specs.Settings.{by_lists}
use Rattle.mux_history.specs.Journal.{new_sayings, sent_item}
use Rattle.mux_history.specs.Log.{Setting, makes_next, more_all, more_of, next_row}
use Rattle.mux_core.specs.State.{CoreState}
use Rattle.mux_peers.specs.declared.run_change.RunChange.{RunChange}
use Rattle.mux_peers.specs.State.{ClientState}
use Rattle.mux_peers.specs.Stands.{is_read, parse_mode_of}
use Rattle.mux_peers.specs.Pieces.{AreOfBytes, ReadsNoMore, ReadsOn, RunsTo, with_sent_before, rows_sent}
use Rattle.mux_peers.specs.Laws.{IsReadTo, PiecesOfAClient, ReadsClientAs, rows_given}
use Rattle.mux_peers.proofs.Adds.{said-adds}
use Rattle.mux_peers.proofs.OfBytes.{front-of-bytes, parse-bytes}

pub more-append : (s : Setting) (rows : List Row) (xs ys : List Item) → more_all s rows (xs ++ ys) ≡ more_all s (more_all s rows xs) ys
more-append s rows [] ys = refl
more-append s rows (x ∷ xs) ys = more-append s (more_of s rows x) xs ys

pub map-append : (f : Outgoing → Item) (xs ys : List Outgoing) → map f (xs ++ ys) ≡ map f xs ++ map f ys
map-append f [] ys = refl
map-append f (x ∷ xs) ys = ap (λ l. f x ∷ l) (map-append f xs ys)

-- where the run is over, or the client is out, what it sends makes no row
no-row : (s : Setting) (k : ℕ) (x : Outgoing) (rows : List Row) → (is_run_over rows ≡ true) ⊎ (is_out (rows_of k rows) ≡ true) → more_of s rows (sent_item k x) ≡ rows
no-row s k x rows h = ap (λ b. elim b as (λ _. List Row) [ false ↦ rows | true ↦ next_row s rows (sent_item k x) ∷ rows ]) (none h)
  where
    by_end : (b : Bool) → is_run_over rows ≡ b → is_out (rows_of k rows) ≡ true → makes_next rows (sent_item k x) ≡ false
    by_end true e o = ap (λ b. elim b as (λ _. Bool) [ true ↦ false | false ↦ not (is_out (rows_of k rows)) ]) e
    by_end false e o = ap (λ b. elim b as (λ _. Bool) [ true ↦ false | false ↦ not (is_out (rows_of k rows)) ]) e ∙ ap not o

    none : (is_run_over rows ≡ true) ⊎ (is_out (rows_of k rows) ≡ true) → makes_next rows (sent_item k x) ≡ false
    none (inl e) = ap (λ b. elim b as (λ _. Bool) [ true ↦ false | false ↦ not (is_out (rows_of k rows)) ]) e
    none (inr o) = by_end (is_run_over rows) refl o

no-rows : (s : Setting) (k : ℕ) (xs : List Outgoing) (rows : List Row) → (is_run_over rows ≡ true) ⊎ (is_out (rows_of k rows) ≡ true) → more_all s rows (map (sent_item k) xs) ≡ rows
no-rows s k [] rows h = refl
no-rows s k (x ∷ xs) rows h = ap (λ l. more_all s l (map (sent_item k) xs)) (no-row s k x rows h) ∙ no-rows s k xs rows h

pub drop-front : (xs ys : List Outgoing) → drop (length xs) (xs ++ ys) ≡ ys
drop-front [] ys = refl
drop-front (x ∷ xs) ys = drop-front xs ys

-- what is new in what is sent by more bytes
pub says-new : (a bytes : List ℕ) (mode : Mode) (rest : List ℕ) → (parse InControl a).mode ≡ mode → (parse InControl a).rest ≡ rest → drop (length (said a)) (said (a ++ bytes)) ≡ (parse mode (rest ++ bytes)).says
says-new a bytes mode rest m r =
    ap (λ (p : Parsed). drop (length (said a)) p.says) (parse-append InControl a bytes)
    ∙ (drop-front (said a) (parse (parse InControl a).mode ((parse InControl a).rest ++ bytes)).says
    ∙ (ap (λ (i : Mode). (parse i ((parse InControl a).rest ++ bytes)).says) m ∙ ap (λ (l : List ℕ). (parse mode (l ++ bytes)).says) r))

-- with all that was sent in a piece, the rows are those of the mark
piece-rows : (policy : Policy) (pid : ℕ) (picks : List ℕ) (given : List HouseReply) (k : ℕ) (a bytes : List ℕ) (first now : ClientState) (picked : List ℕ) (used : List HouseReply) (asks : List Asked) (rows : List Row) (core : CoreState) (up : QueueState) (heard : RunChange)
    → (parse InControl a).mode ≡ parse_mode_of first.peer.standing → (parse InControl a).rest ≡ first.rest → (is_read now.peer.standing ≡ true → first_in (parse_mode_of now.peer.standing) now.rest ≡ More)
    → (r : RunsTo policy pid picks given k (parse_mode_of first.peer.standing) (first.rest ++ bytes) picked used asks rows core up now heard)
    → more_all (by_lists policy pid picks given) rows (new_sayings k a (a ++ bytes)) ≡ rows_sent policy pid picks given k rows r.says
piece-rows policy pid picks given k a bytes first now picked used asks rows core up heard m rest whole r =
    ap (λ xs. more_all (by_lists policy pid picks given) rows (map (sent_item k) xs)) (says-new a bytes (parse_mode_of first.peer.standing) first.rest m rest)
    ∙ by_read (is_read now.peer.standing) refl
  where
    s : Setting
    s = by_lists policy pid picks given

    all : Parsed
    all = parse (parse_mode_of first.peer.standing) (first.rest ++ bytes)

    by_read : (b : Bool) → is_read now.peer.standing ≡ b → more_all s rows (map (sent_item k) all.says) ≡ rows_sent policy pid picks given k rows r.says
    by_read true e =
        let on : ReadsOn (first.rest ++ bytes) (parse_mode_of first.peer.standing) now (rows_sent policy pid picks given k rows r.says) r.says = r.reads e in
        let says : all.says ≡ r.says = ap (λ (p : Parsed). p.says) (on.rest ∙ ap (with_sent_before r.says) (parse-at (parse_mode_of now.peer.standing) now.rest More (whole e))) ∙ append-nil r.says in
        ap (λ xs. more_all s rows (map (sent_item k) xs)) says
    by_read false e =
        let o : ReadsNoMore (first.rest ++ bytes) (parse_mode_of first.peer.standing) now (rows_sent policy pid picks given k rows r.says) r.says = r.over e in
        ap (λ xs. more_all s rows (map (sent_item k) xs)) o.sends_all
        ∙ (ap (more_all s rows) (map-append (sent_item k) r.says o.more)
        ∙ (more-append s rows (map (sent_item k) r.says) (map (sent_item k) o.more)
        ∙ elim o.none [
          | inl h ↦ no-rows s k o.more (rows_sent policy pid picks given k rows r.says) (elim h [ inl x ↦ inl x | inr x ↦ inr (ap (λ j. is_out (rows_of j (rows_sent policy pid picks given k rows r.says))) (sym r.number) ∙ x) ])
          | inr h ↦ ap (λ xs. more_all s (rows_sent policy pid picks given k rows r.says) (map (sent_item k) xs)) h
        ]))

-- and while it is read on, all its bytes are read so
piece-reads : (policy : Policy) (pid : ℕ) (picks : List ℕ) (given : List HouseReply) (k : ℕ) (a bytes : List ℕ) (first now : ClientState) (picked : List ℕ) (used : List HouseReply) (asks : List Asked) (rows : List Row) (core : CoreState) (up : QueueState) (heard : RunChange)
    → ReadsClientAs a first → is_read now.peer.standing ≡ true → first_in (parse_mode_of now.peer.standing) now.rest ≡ More
    → RunsTo policy pid picks given k (parse_mode_of first.peer.standing) (first.rest ++ bytes) picked used asks rows core up now heard → ReadsClientAs (a ++ bytes) now
piece-reads policy pid picks given k a bytes first now picked used asks rows core up heard reads e whole r =
    let on = r.reads e in
    let more : parse (parse InControl a).mode ((parse InControl a).rest ++ bytes) ≡ with_sent_before r.says (record { says = []; mode = parse_mode_of now.peer.standing; rest = now.rest }) =
    ap (λ (i : Mode). parse i ((parse InControl a).rest ++ bytes)) reads.mode
    ∙ (ap (λ (l : List ℕ). parse (parse_mode_of first.peer.standing) (l ++ bytes)) reads.rest
    ∙ (on.rest ∙ ap (with_sent_before r.says) (parse-at (parse_mode_of now.peer.standing) now.rest More whole))) in
    record {
      mode = ap (λ (p : Parsed). p.mode) (parse-append InControl a bytes) ∙ ap (λ (p : Parsed). p.mode) more;
      rest = ap (λ (p : Parsed). p.rest) (parse-append InControl a bytes) ∙ ap (λ (p : Parsed). p.rest) more;
    }

-- what was sent so far is of bytes, where the piece and what came before it are
says-bytes : (policy : Policy) (pid : ℕ) (picks : List ℕ) (given : List HouseReply) (k : ℕ) (before bytes : List ℕ) (first now : ClientState) (picked : List ℕ) (used : List HouseReply) (asks : List Asked) (rows : List Row) (core : CoreState) (up : QueueState) (heard : RunChange)
    → (parse InControl before).rest ≡ first.rest → (r : RunsTo policy pid picks given k (parse_mode_of first.peer.standing) (first.rest ++ bytes) picked used asks rows core up now heard) → AreBytes before → AreBytes bytes → AreOfBytes k r.says
says-bytes policy pid picks given k before bytes first now picked used asks rows core up heard rest r b c = by_read (is_read now.peer.standing) refl
  where
    all : Parsed
    all = parse (parse_mode_of first.peer.standing) (first.rest ++ bytes)

    left : AreBytes first.rest
    left = subst AreBytes rest (parse-bytes k (length before) InControl before b).1

    says : AreOfBytes k all.says
    says = (parse-bytes k (length (first.rest ++ bytes)) (parse_mode_of first.peer.standing) (first.rest ++ bytes) (AreBytes-append first.rest bytes left c)).0

    by_read : (t : Bool) → is_read now.peer.standing ≡ t → AreOfBytes k r.says
    by_read true e = front-of-bytes k r.says (parse (parse_mode_of now.peer.standing) now.rest).says (subst (λ (xs : List Outgoing). AreOfBytes k xs) (ap (λ (p : Parsed). p.says) (r.reads e).rest) says)
    by_read false e = front-of-bytes k r.says (r.over e).more (subst (λ (xs : List Outgoing). AreOfBytes k xs) (r.over e).sends_all says)

pub pieces-of-a-client : PiecesOfAClient
pieces-of-a-client policy pid picks given k before bytes first now picked used asks rows core up heard reads whole r =
    let same : rows_given policy pid picks given k before bytes rows ≡ rows_sent policy pid picks given k rows r.says = piece-rows policy pid picks given k before bytes first now picked used asks rows core up heard reads.mode reads.rest whole r in
    subst (λ (rows' : List Row). IsReadTo k before bytes picked used asks rows rows' core up now heard) (sym same) (record {
      number = r.number;
      adds = said-adds policy pid picks given k r.says rows;
      fits = r.fits;
      taken = r.taken;
      given_is = r.given_is;
      asked = r.asked;
      fresh = λ b c f. r.fresh (says-bytes policy pid picks given k before bytes first now picked used asks rows core up heard reads.rest r b c) f;
      stops_is = r.stops_is;
      ended_is = r.ended_is;
      live = λ e. (r.reads e).live;
      stopped = λ e h l.
          ap (λ (p : Parsed). p.mode) (parse-append InControl before bytes)
          ∙ (ap (λ (i : Mode). (parse i ((parse InControl before).rest ++ bytes)).mode) reads.mode
          ∙ (ap (λ (xs : List ℕ). (parse (parse_mode_of first.peer.standing) (xs ++ bytes)).mode) reads.rest ∙ (r.over e).stopped h l));
      reads = λ e. piece-reads policy pid picks given k before bytes first now picked used asks rows core up heard reads e (whole e) r;
    })
