-- What was requested of the forwarder by a call that found no memory.
use Rattle.std.proofs.Common.{◌≡◌, ◌<◌, ◌&&◌, ℕ, zero, suc, get_or, Bool, true, false, List, [], ◌∷◌, ◌++◌, length, map, Option, Some, None, Ok, Err, Result, refl, sym, ap, ◌∙◌, subst, inl, inr, ◌⊎◌, append_assoc, append-nil, cond, arith}
use Rattle.std.specs.Prelude.{◌==◌, MatchBool, OnErr, is_some}
use Rattle.std.proofs.lemmas.List.{append_cancel_left}
use Rattle.mux_outside.specs.House.{HouseState}
use Rattle.mux_outside.specs.declared.house_mark.HouseMark.{HouseMark as Asked}
use Rattle.mux_outside.specs.declared.house.HouseReply.{HouseReply}
use Rattle.ssh_grammar.specs.Control.{ForwardAsk, OpenForward, CloseForward}
use Rattle.ssh_grammar.specs.ReadControl.{ControlReading, read_control}
use Rattle.ssh_grammar.specs.Frames.{Frame}
use Rattle.ssh_grammar.specs.Said.{Mode, Parsed, Outgoing, Body, first_in, mode_after, parse, sending_in}
use Rattle.ssh_grammar.proofs.Parses.{parse-at}
use Rattle.proxy_frames.specs.declared.next.Next.TheVariants as next
use Rattle.proxy_frames.specs.State.{FramerState, QueueState}
use Rattle.proxy_frames.specs.Steps.{front_of, answer_to, after_front}
use Rattle.mux_history.specs.Controls.{asks_house, body_asks, client_has_greeted, sent_body}
use Rattle.mux_history.specs.Journal.{sent_item}
use Rattle.mux_history.specs.Log.{Setting, makes_next, more_all, more_of, next_row}
use Rattle.mux_history.specs.Policy.{Policy}
use Rattle.mux_history.specs.Promises.{MayGive}
use Rattle.mux_history.specs.Rows.{Item, Row, Says, rows_of, is_out}
use Rattle.mux_history.specs.Settings.{by_lists}
use Rattle.mux_core.specs.State.{CoreState}
use Rattle.mux_peers.specs.declared.standing.Standing.{Standing}
use Rattle.mux_peers.specs.declared.decision.Decision.{Decision}
use Rattle.mux_peers.specs.declared.run_change.RunChange.{RunChange}
use Rattle.mux_peers.specs.State.{ClientState, PeerState}
use Rattle.mux_peers.specs.Stands.{is_greeted, is_proxied, is_read, parse_mode_of, standing_of}
use Rattle.mux_peers.specs.Stands as stands
use Rattle.mux_peers.specs.Among.{client_index}
use Rattle.mux_peers.specs.Asked.{Applies, RecordsAsks, ask_of, asked_by, asks_of_rows, item_asks, reading_asks, sending_asks}
use Rattle.mux_peers.specs.Decisions.{DecidesBy, reply_list}
use Rattle.mux_peers.specs.Pieces.{Receiving, ReceivesPiece, ReadsOn, ReplyNext, RunsTo, with_sent_before, rows_sent}
use Rattle.mux_peers.specs.Starved.{AsksAtMost, AsksBody, AsksFront, AsksNext, AsksThis, BeginsWithAsked, ReceivesSome, OneIs}
use Rattle.mux_peers.proofs.Fronts.{Cuts, client_of, front_at, front_was}
use Rattle.mux_peers.proofs.Heeding.{applies_recorded, records_none, records_then}
use Rattle.mux_peers.proofs.Journaled.{map-append, more-append}
use Rattle.mux_peers.proofs.Looped.{control-says, may_both}
use Rattle.mux_peers.proofs.Mores.{body-row, parts-of, reply-after, reply-first}
use Rattle.mux_peers.proofs.Runs.{behind-more, read-here, rows-last}
use Rattle.mux_peers.proofs.Stood.{out_is}

pub on-err : {T E P : Type 0} (r : Result T E) → P → OnErr r P
on-err (Ok x) p = tt
on-err (Err e) p = p

pub err-then : {T E P Q : Type 0} (r : Result T E) → (P → Q) → OnErr r P → OnErr r Q
err-then (Ok x) f p = tt
err-then (Err e) f p = f p

-- ---- one control message

asks-reading : (May : HouseReply → Type 0) (recorded recorded' : Option (List Asked)) (k : ℕ) (body : List ℕ) (r : ControlReading) → read_control body ≡ r → (elim r as (λ _. Bool) [ Err fault ↦ false | Ok c ↦ asks_house c ]) ≡ true → (recorded' ≡ recorded) ⊎ AsksThis May recorded recorded' (λ given. reading_asks k given r) → AsksAtMost May recorded recorded' k true body
asks-reading May recorded recorded' k body r e asks (inl same) = inl same
asks-reading May recorded recorded' k body r e asks (inr this) = inr (record {
  asks = ap (λ (x : ControlReading). elim x as (λ _. Bool) [ Err fault ↦ false | Ok c ↦ asks_house c ]) e ∙ asks;
  this = (this.0, (this.1.0, subst (λ (x : ControlReading). RecordsAsks recorded recorded' (reading_asks k this.0 x)) (sym e) this.1.1));
})

pub asks-open : (May : HouseReply → Type 0) (recorded recorded' : Option (List Asked)) (k id : ℕ) (body : List ℕ) (what : ForwardAsk) → read_control body ≡ Ok (OpenForward id what) → (recorded' ≡ recorded) ⊎ AsksThis May recorded recorded' (λ given. ask_of k id true what given ∷ []) → AsksAtMost May recorded recorded' k true body
asks-open May recorded recorded' k id body what e h = asks-reading May recorded recorded' k body (Ok (OpenForward id what)) e refl h

pub asks-close : (May : HouseReply → Type 0) (recorded recorded' : Option (List Asked)) (k id : ℕ) (body : List ℕ) (what : ForwardAsk) → read_control body ≡ Ok (CloseForward id what) → (recorded' ≡ recorded) ⊎ AsksThis May recorded recorded' (λ given. ask_of k id false what given ∷ []) → AsksAtMost May recorded recorded' k true body
asks-close May recorded recorded' k id body what e h = asks-reading May recorded recorded' k body (Ok (CloseForward id what)) e refl h

-- ---- what is noted

held : (a b : List Asked) → Some a ≡ Some b → a ≡ b
held a b e = cc

-- what was requested of the forwarder is what was noted of it
pub recorded-noted : {A E : Type 0} {x : A} {asks asks' : List Asked} {old new : HouseState} (xs : List Asked) → Applies {A = A} {E = E} (Ok x) asks asks' old new → RecordsAsks (Some asks) (Some asks') xs → RecordsAsks old.recorded new.recorded xs
recorded-noted {asks} {asks'} {old} {new} xs h records = subst (RecordsAsks old.recorded new.recorded) (append_cancel_left asks h.more xs (sym h.noted ∙ held asks' (asks ++ xs) records)) (applies_recorded h)

asks-given : (May : HouseReply → Type 0) (recorded recorded' : Option (List Asked)) (k : ℕ) (greets : Bool) (body : List ℕ) (given : Option HouseReply) → MayGive May (reply_list given) → is_some given ≡ (greets && body_asks body) → RecordsAsks recorded recorded' (sending_asks k (Body body) given) → AsksAtMost May recorded recorded' k greets body
asks-given May recorded recorded' k greets body None may asked records = inl (records ∙ sym (records_none recorded))
asks-given May recorded recorded' k greets body (Some given) may asked records = inr (record { asks = sym asked; this = (given, (may.0, records)) })

-- of a body of which all was decided
pub asks-decided : {A E : Type 0} {x : A} (May : HouseReply → Type 0) {asks asks' : List Asked} {old new : HouseState} (pid k : ℕ) (greets : Bool) (body : List ℕ) (d : Decision) → DecidesBy May (Some asks) (Some asks') pid k greets body d → Applies {A = A} {E = E} (Ok x) asks asks' old new → AsksAtMost May old.recorded new.recorded k greets body
asks-decided May {asks} {asks'} {old} {new} pid k greets body d by h = asks-given May old.recorded new.recorded k greets body by.given by.may by.decides.asked (recorded-noted (sending_asks k (Body body) by.given) h by.recorded)

-- ---- the frame at the front

pub asks-front : (May : HouseReply → Type 0) (recorded recorded' : Option (List Asked)) (k : ℕ) (peer : PeerState) (f f' : FramerState) (body : List ℕ) (now : ClientState) (greets : Bool)
    → client_of peer f ≡ now → is_read now.peer.standing ≡ true → Cuts peer.standing f → is_proxied peer.standing ≡ false
    → next.Frame ≡ answer_to (front_of f) → f' ≡ after_front (front_of f) f → f'.current ≡ Some body → k ≡ peer.number → greets ≡ is_greeted peer.standing
    → AsksAtMost May recorded recorded' k greets body → AsksNext May recorded recorded' now.peer.number now.peer.standing (first_in (parse_mode_of now.peer.standing) now.rest)
asks-front May recorded recorded' k peer f f' body now greets view read cuts control whole after current num awaits (inl same) = inl same
asks-front May recorded recorded' k peer f f' body now greets view read cuts control whole after current num awaits (inr asks) =
    let reads : is_read peer.standing ≡ true = ap (λ (x : ClientState). is_read x.peer.standing) view ∙ read in
    let front : first_in (parse_mode_of peer.standing) (client_of peer f).rest ≡ Frame body f'.rest = front_at peer.standing f reads (cuts reads).0 (cuts reads).1 ∙ front_was (front_of f) f f' body whole after current in
    inr (subst (λ (x : ClientState). AsksFront May recorded recorded' x.peer.number x.peer.standing (first_in (parse_mode_of x.peer.standing) x.rest)) view (record {
      body = body;
      rest = f'.rest;
      control = control;
      front_is = front;
      asks = subst (λ (j : ℕ). AsksBody May recorded recorded' j (is_greeted peer.standing) body) num (subst (λ (b : Bool). AsksBody May recorded recorded' k b body) awaits asks);
    }))

-- ---- the rows go on

more-begins : (s : Setting) (rows : List Row) (item : Item) → BeginsWithAsked (asks_of_rows rows) [] (asks_of_rows (more_of s rows item))
more-begins s rows item = by_made (makes_next rows item)
  where
    by_made : (b : Bool) → BeginsWithAsked (asks_of_rows rows) [] (asks_of_rows (elim b as (λ _. List Row) [ false ↦ rows | true ↦ next_row s rows item ∷ rows ]))
    by_made true = record { rest = asked_by (next_row s rows item); all_is = refl }
    by_made false = record { rest = []; all_is = sym (append-nil (asks_of_rows rows)) }

pub all-begin : (s : Setting) (rows : List Row) (items : List Item) → BeginsWithAsked (asks_of_rows rows) [] (asks_of_rows (more_all s rows items))
all-begin s rows [] = record { rest = []; all_is = sym (append-nil (asks_of_rows rows)) }
all-begin s rows (item ∷ items) =
    let one = more-begins s rows item in
    let later = all-begin s (more_of s rows item) items in
    record { rest = one.rest ++ later.rest; all_is = later.all_is ∙ (ap (λ (l : List Asked). l ++ later.rest) one.all_is ∙ append_assoc (asks_of_rows rows) one.rest later.rest) }

-- what was sent first requests first
begins-on : (policy : Policy) (pid : ℕ) (picks : List ℕ) (given : List HouseReply) (k : ℕ) (rows : List Row) (says more all : List Outgoing) (asks : List Asked) → all ≡ says ++ more → asks_of_rows (rows_sent policy pid picks given k rows says) ≡ asks_of_rows rows ++ asks → BeginsWithAsked (asks_of_rows rows) asks (asks_of_rows (rows_sent policy pid picks given k rows all))
begins-on policy pid picks given k rows says more all asks e h =
    let s : Setting = by_lists policy pid picks given in
    let mid : List Row = rows_sent policy pid picks given k rows says in
    let later = all-begin s mid (map (sent_item k) more) in
    let same : rows_sent policy pid picks given k rows all ≡ more_all s mid (map (sent_item k) more) =
    ap (λ (xs : List Outgoing). more_all s rows (map (sent_item k) xs)) e ∙ (ap (more_all s rows) (map-append (sent_item k) says more) ∙ more-append s rows (map (sent_item k) says) (map (sent_item k) more)) in
    record { rest = later.rest; all_is = ap asks_of_rows same ∙ (later.all_is ∙ (ap (λ (l : List Asked). l ++ later.rest) h ∙ append_assoc (asks_of_rows rows) asks later.rest)) }

-- ---- a piece

-- nothing was asked
pub receives-none : (May : HouseReply → Type 0) (recorded : Option (List Asked)) (pid : ℕ) (bytes : List ℕ) (core : CoreState) (up : QueueState) (first : ClientState) → is_read first.peer.standing ≡ true → ReceivesSome May recorded recorded pid bytes core up first
receives-none May recorded pid bytes core up first read = record {
  read = read;
  picked = [];
  used = [];
  asks = [];
  may = tt;
  records = records_none recorded;
  begins = λ picks given rows fits live come next.
      let says : List Outgoing = (parse (parse_mode_of first.peer.standing) (first.rest ++ bytes)).says in
      begins-on core.policy pid picks given first.peer.number rows [] says says [] refl (sym (append-nil (asks_of_rows rows)));
}

-- the row of a body that asks
asked-row : (policy : Policy) (pid : ℕ) (picks : List ℕ) (given : List HouseReply) (k : ℕ) (mode : Mode) (all picked : List ℕ) (used : List HouseReply) (asks : List Asked) (rows : List Row) (core : CoreState) (up : QueueState) (now : ClientState) (heard : RunChange) (body : List ℕ) (reply : HouseReply) (x : Outgoing)
    → is_read now.peer.standing ≡ true → x ≡ Body body → (is_greeted now.peer.standing && body_asks body) ≡ true → ReplyNext (used ++ reply ∷ []) rows given → (r : RunsTo policy pid picks given k mode all picked used asks rows core up now heard)
    → asks_of_rows (rows_sent policy pid picks given k rows (r.says ++ x ∷ [])) ≡ asks_of_rows rows ++ (asks ++ sending_asks now.peer.number (Body body) (Some reply))
asked-row policy pid picks given k mode all picked used asks rows core up now heard body reply x read is ask next r =
    let rows' : List Row = rows_sent policy pid picks given k rows r.says in
    let own : List Row = rows_of k rows' in
    let on : ReadsOn all mode now rows' r.says = r.reads read in
    let here : stands.is_standing_lost now.peer.standing ≡ false = read-here now.peer.standing read in
    let mine : rows_of now.peer.number rows' ≡ own = ap (λ j. rows_of j rows') r.number in
    let out : is_out own ≡ false = out_is own ∙ (ap stands.is_standing_lost (sym (r.fits.peer.standing_is ∙ ap standing_of mine)) ∙ here) in
    let greets : client_has_greeted own ≡ is_greeted now.peer.standing = ap client_has_greeted (sym mine) ∙ r.fits.peer.greeted_is here in
    let asked : true ≡ (client_has_greeted own && body_asks body) = sym (ap (λ (b : Bool). b && body_asks body) greets ∙ ask) in
    let row-is = body-row policy pid picks given k rows' body (Some reply) asked (reply-after used (reply ∷ []) rows rows' given r.given_is next) in
    let item-is = ap (λ (w : Row). w.item) row-is ∙ (parts-of (Says k (Body body) (Some reply)) k (sent_body pid k (Some reply) (client_has_greeted own) body) own).0 in
    let last = rows-last policy pid picks given k rows r.says (Body body) on.live out in
    let more : List Asked = sending_asks now.peer.number (Body body) (Some reply) in
    ap (λ (y : Outgoing). asks_of_rows (rows_sent policy pid picks given k rows (r.says ++ y ∷ []))) is
    ∙ (ap asks_of_rows last
    ∙ (ap (λ (l : List Asked). asks_of_rows rows' ++ l) (ap item_asks item-is ∙ sym (ap (λ j. sending_asks j (Body body) (Some reply)) r.number))
    ∙ (ap (λ (l : List Asked). l ++ more) r.asked ∙ append_assoc (asks_of_rows rows) asks more)))

-- what was asked so far, and what the front asks
pub receives-some : {A E : Type 0} {x : A} (May : HouseReply → Type 0) {asks asks' : List Asked} {old mid : HouseState} (recorded' : Option (List Asked)) (pid : ℕ) (bytes : List ℕ) (core0 core : CoreState) (up0 up : QueueState) (first now : ClientState) (heard : RunChange) → is_read first.peer.standing ≡ true → is_read now.peer.standing ≡ true
    → Receiving May (Some asks) (Some asks') pid (first.rest ++ bytes) core0 up0 first core up now heard → Applies {A = A} {E = E} (Ok x) asks asks' old mid → AsksNext May mid.recorded recorded' now.peer.number now.peer.standing (first_in (parse_mode_of now.peer.standing) now.rest) → ReceivesSome May old.recorded recorded' pid bytes core0 up0 first
receives-some May {asks} {asks'} {old} {mid} recorded' pid bytes core0 core up0 up first now heard read0 read h a next = by_next next
  where
    so-far : RecordsAsks old.recorded mid.recorded h.asks
    so-far = recorded-noted h.asks a h.records

    all : Parsed
    all = parse (parse_mode_of first.peer.standing) (first.rest ++ bytes)

    by_next : AsksNext May mid.recorded recorded' now.peer.number now.peer.standing (first_in (parse_mode_of now.peer.standing) now.rest) → ReceivesSome May old.recorded recorded' pid bytes core0 up0 first
    by_next (inl same) = record {
      read = read0;
      picked = h.picked;
      used = h.used;
      asks = h.asks;
      may = h.may;
      records = subst (λ (t : Option (List Asked)). RecordsAsks old.recorded t h.asks) (sym same) so-far;
      begins = λ picks given rows fits live come reply.
          let r = h.goes picks given rows fits live come reply in
          begins-on core0.policy pid picks given first.peer.number rows r.says (parse (parse_mode_of now.peer.standing) now.rest).says all.says h.asks (ap (λ (p : Parsed). p.says) (r.reads read).rest) r.asked;
    }
    by_next (inr f) =
        let given : HouseReply = f.asks.this.0 in
        let s : Standing = now.peer.standing in
        let x : Outgoing = sending_in (parse_mode_of s) f.body in
        let more : List Asked = sending_asks now.peer.number (Body f.body) (Some given) in
        record {
          read = read0;
          picked = h.picked;
          used = h.used ++ given ∷ [];
          asks = h.asks ++ more;
          may = may_both May h.used (given ∷ []) h.may (f.asks.this.1.0, tt);
          records = records_then old.recorded mid.recorded recorded' h.asks more so-far f.asks.this.1.1;
          begins = λ picks replies rows fits live come reply.
              let r = h.goes picks replies rows fits live come (reply-first h.used (given ∷ []) rows replies reply) in
              let left : Parsed = parse (mode_after (parse_mode_of s) f.body) f.rest in
              let says-all : all ≡ with_sent_before (r.says ++ x ∷ []) left = (r.reads read).rest ∙ (ap (with_sent_before r.says) (parse-at (parse_mode_of s) now.rest (Frame f.body f.rest) f.front_is) ∙ behind-more r.says x left) in
              begins-on core0.policy pid picks replies first.peer.number rows (r.says ++ x ∷ []) left.says all.says (h.asks ++ more) (ap (λ (p : Parsed). p.says) says-all)
              (asked-row core0.policy pid picks replies first.peer.number (parse_mode_of first.peer.standing) (first.rest ++ bytes) h.picked h.used h.asks rows core up now heard f.body given x read (control-says s f.body read f.control) f.asks.asks reply r);
        }

-- all of it was applied, and then there was no memory
pub receives-all : {A E : Type 0} {x : A} (May : HouseReply → Type 0) {asks asks' : List Asked} {old new : HouseState} (pid : ℕ) (bytes : List ℕ) (core0 core : CoreState) (up0 up : QueueState) (first now : ClientState) (heard : RunChange)
    → is_read first.peer.standing ≡ true → ReceivesPiece May (Some asks) (Some asks') pid bytes core0 up0 first core up now heard → Applies {A = A} {E = E} (Ok x) asks asks' old new → ReceivesSome May old.recorded new.recorded pid bytes core0 up0 first
receives-all May {asks} {asks'} {old} {new} pid bytes core0 core up0 up first now heard read0 piece a =
    let h = piece.receiving in
    record {
      read = read0;
      picked = h.picked;
      used = h.used;
      asks = h.asks;
      may = h.may;
      records = recorded-noted h.asks a h.records;
      begins = λ picks given rows fits live come reply.
          let r = h.goes picks given rows fits live come reply in
          by_read picks given rows r (is_read now.peer.standing) refl;
    }
  where
    all : Parsed
    all = parse (parse_mode_of first.peer.standing) (first.rest ++ bytes)

    by_read : (picks : List ℕ) (given : List HouseReply) (rows : List Row) (r : RunsTo core0.policy pid picks given first.peer.number (parse_mode_of first.peer.standing) (first.rest ++ bytes) piece.receiving.picked piece.receiving.used piece.receiving.asks rows core up now heard) (b : Bool) → is_read now.peer.standing ≡ b
        → BeginsWithAsked (asks_of_rows rows) piece.receiving.asks (asks_of_rows (rows_sent core0.policy pid picks given first.peer.number rows all.says))
    by_read picks given rows r true e = begins-on core0.policy pid picks given first.peer.number rows r.says (parse (parse_mode_of now.peer.standing) now.rest).says all.says piece.receiving.asks (ap (λ (p : Parsed). p.says) (r.reads e).rest) r.asked
    by_read picks given rows r false e = begins-on core0.policy pid picks given first.peer.number rows r.says (r.over e).more all.says piece.receiving.asks (r.over e).sends_all r.asked

-- ---- among all

pub one-is : (k i : ℕ) (P : ClientState → Type 0) (x : ClientState) (cs : List ClientState) → i ≡ client_index k cs → i < length cs → P (get_or cs i x) → OneIs k P cs
one-is k i P x [] e lt p = absurd (omega arith)
one-is k i P x (c ∷ cs) e lt p = by_head (c.peer.number == k) refl i e lt p (λ j f l q. one-is k j P x cs f l q)
  where
    by_head : (b : Bool) → (c.peer.number == k) ≡ b → (i : ℕ) → i ≡ cond b 0 (suc (client_index k cs)) → i < suc (length cs) → P (get_or (c ∷ cs) i x) → ((j : ℕ) → j ≡ client_index k cs → j < length cs → P (get_or cs j x) → OneIs k P cs) → MatchBool b (P c) (OneIs k P cs)
    by_head true t zero e lt p ih = p
    by_head true t (suc j) e lt p ih = absurd (omega (arith, e))
    by_head false t zero e lt p ih = absurd (omega (arith, e))
    by_head false t (suc j) e lt p ih = ih j (omega (arith, e)) (omega arith) p
