-- What was requested of the forwarder by an event for which there was no memory.
use Rattle.std.proofs.Common.{◌≡◌, ◌≢◌, ℕ, Bool, true, false, List, [], ◌∷◌, ◌++◌, length, drop, map, Option, Some, None, Ok, refl, sym, ap, ◌∙◌, subst, append_assoc}
use Rattle.std.specs.Prelude.{◌==◌, MatchBool, is_some}
use Rattle.ssh_grammar.specs.Said.{parse}
use Rattle.proxy_frames.specs.State.{QueueState}
use Rattle.mux_outside.specs.House.{HouseState}
use Rattle.mux_outside.specs.declared.house_mark.HouseMark.{HouseMark as Asked}
use Rattle.mux_outside.specs.declared.house.HouseReply.{HouseReply}
use Rattle.mux_outside.specs.declared.mark.Mark.{Mark}
use Rattle.mux_outside.specs.declared.mark.Mark.TheVariants.{Gets}
use Rattle.mux_history.specs.Rows.{Row, is_run_over}
use Rattle.mux_history.specs.Journal.{bytes_of, items_in, sent_item}
use Rattle.mux_history.specs.Log.{more_all}
use Rattle.mux_core.specs.State.{CoreState}
use Rattle.mux_peers.specs.declared.run_change.RunChange.{RunChange}
use Rattle.mux_peers.specs.State.{ClientState, ClientsState}
use Rattle.mux_peers.specs.Stands.{is_read, parse_mode_of}
use Rattle.mux_peers.specs.Among.{ChangesOne, EachFits, InFits, Noting, NotesOne, is_present}
use Rattle.mux_peers.specs.Asked.{Applies, asks_of_rows}
use Rattle.mux_peers.specs.Pieces.{ReceivesIn, ReplyNext, rows_sent}
use Rattle.mux_peers.specs.Says.{ComeNext}
use Rattle.mux_peers.specs.Starved.{BeginsWithAsked, ReceivesSome, OneIs}
use Rattle.mux_peers.proofs.Found.{receives-of}
use Rattle.mux_peers.proofs.Heeding.{records_none}
use Rattle.mux_peers.proofs.Journaled.{says-new}
use Rattle.mux_peers.proofs.Starved.{all-begin, receives-all}
use Rattle.mux_state.specs.declared.event.Event.{Event}
use Rattle.mux_state.specs.declared.event.Event.TheVariants as event
use Rattle.mux_state.specs.Events.{MarkRecords}
use Rattle.mux_state.specs.State.{EngineState}
use Rattle.mux_state.specs.Stands.{ClientReads, CutsShort, EachReads, EngineRepresents, log, run_setting}
use Rattle.mux_state.specs.Steps.{is_client_read}
use Rattle.mux_state.proofs.Fed.{allowed-fed, fed, stands-fed}
use Rattle.mux_state.proofs.Gains.{drop-front, gets-log, read-in}
use Rattle.mux_state.proofs.Lists.{either, true_false}
use Rattle.mux_state.proofs.Looked.{changes-so, so-here}
use Rattle.mux_state.proofs.Over.{some-end}
use Rattle.mux_state.proofs.Pairs.{Pair, pair}

-- ---- the client of a number

-- of the one that goes on
changes-one : (k : ℕ) (S : ClientState → ClientState → Type 0) (P : ClientState → Type 0) (cs cs' : List ClientState) → ((x y : ClientState) → S x y → P x) → is_present cs k ≡ true → ChangesOne k S cs cs' → OneIs k P cs
changes-one k S P [] cs' f here h = true_false (sym here)
changes-one k S P (c ∷ cs) cs' f here h = by_head (c.peer.number == k) here h (λ ds q w. changes-one k S P cs ds f q w)
  where
    by_head : (b : Bool) → either b (is_present cs k) ≡ true → MatchBool b ((c' : ClientState) × (S c c' × (cs' ≡ c' ∷ cs))) ((ds : List ClientState) × (ChangesOne k S cs ds × (cs' ≡ c ∷ ds))) → ((ds : List ClientState) → is_present cs k ≡ true → ChangesOne k S cs ds → OneIs k P cs) → MatchBool b (P c) (OneIs k P cs)
    by_head true q w ih = f c w.0 w.1.0
    by_head false q w ih = ih w.0 q w.1.0

one-stays : (k : ℕ) (P : ClientState → Type 0) (cs : List ClientState) → OneIs k P cs → ChangesOne k (λ x y. P x) cs cs
one-stays k P [] h = absurd h
one-stays k P (c ∷ cs) h = by_head (c.peer.number == k) h (one-stays k P cs)
  where
    by_head : (b : Bool) → MatchBool b (P c) (OneIs k P cs) → (OneIs k P cs → ChangesOne k (λ x y. P x) cs cs) → MatchBool b ((c' : ClientState) × (P c × (c ∷ cs ≡ c' ∷ cs))) ((ds : List ClientState) × (ChangesOne k (λ x y. P x) cs ds × (c ∷ cs ≡ c ∷ ds)))
    by_head true p ih = (c, (p, refl))
    by_head false p ih = (cs, (ih p, refl))

one-here : (k : ℕ) (P : ClientState → Type 0) (cs : List ClientState) → OneIs k P cs → is_present cs k ≡ true
one-here k P [] h = absurd h
one-here k P (c ∷ cs) h = by_head (c.peer.number == k) h (one-here k P cs)
  where
    by_head : (b : Bool) → MatchBool b (P c) (OneIs k P cs) → (OneIs k P cs → is_present cs k ≡ true) → either b (is_present cs k) ≡ true
    by_head true p ih = refl
    by_head false p ih = ih p

-- ---- as the code shows it

pub some-shown : (May : HouseReply → Type 0) (recorded recorded' : Option (List Asked)) (k : ℕ) (bytes : List ℕ) (parts s : EngineState) → parts ≡ s → OneIs k (ReceivesSome May recorded recorded' parts.pid bytes parts.core parts.up) parts.clients → OneIs k (ReceivesSome May recorded recorded' s.pid bytes s.core s.up) s.clients
some-shown May recorded recorded' k bytes parts s view h = subst (λ (x : EngineState). OneIs k (ReceivesSome May recorded recorded' x.pid bytes x.core x.up) x.clients) view h

-- all was applied, and then there was no memory
pub some-heard : {A E : Type 0} {a : A} (May : HouseReply → Type 0) {asks asks' : List Asked} {old new : HouseState} (pid : ℕ) (bytes : List ℕ) (core core' : CoreState) (up up' : QueueState) (heard : RunChange) (k : ℕ) (was now : ClientsState) → is_client_read was.all k ≡ true
    → NotesOne k (ReceivesIn May (Some asks) (Some asks') pid bytes core core' up up' heard) was now → Applies {A = A} {E = E} (Ok a) asks asks' old new → OneIs k (ReceivesSome May old.recorded new.recorded pid bytes core up) was.all
some-heard May {asks} {asks'} {old} {new} pid bytes core core' up up' heard k was now read receives h =
    let here : is_present was.all k ≡ true = so-here is_read k was.all read in
    let R : ClientState → ClientState → Type 0 = Noting k receives.noted (ReceivesIn May (Some asks) (Some asks') pid bytes core core' up up' heard) in
    changes-one k (λ x y. (is_read x.peer.standing ≡ true) × R x y) (ReceivesSome May old.recorded new.recorded pid bytes core up) was.all now.all
    (λ x y r. receives-all May pid bytes core core' up up' x y heard r.0 (receives-of May (Some asks) (Some asks') pid bytes core core' up up' heard x y r.0 r.1.goes) h)
    here (changes-so is_read k R was.all now.all read (receives.changes here))

-- ---- an event

-- nothing was asked
pub cut-alone : (May : HouseReply → Type 0) (recorded : Option (List Asked)) (s : EngineState) (mark : Mark) → CutsShort May recorded recorded s mark
cut-alone May recorded s mark picked given marks closed st al = record {
  picks = [];
  replies = [];
  asks = [];
  may = tt;
  recorded = records_none recorded;
  begins = λ p r. let ps : List ℕ = (picked ++ []) ++ p in let rs : List HouseReply = (given ++ []) ++ r in all-begin (run_setting s ps rs) (log s ps rs marks) (items_in marks mark);
}

-- a piece of a client that is read
cut-piece : (May : HouseReply → Type 0) (before recorded : Option (List Asked)) (s : EngineState) (bytes : List ℕ) (x : ClientState) → s.ended ≡ None → x.peer.number ≢ 0 → ((rows : List Row) → EachFits rows s.clients → InFits rows x) → ((marks : List Mark) → EachReads marks s.clients → ClientReads (bytes_of x.peer.number marks) x)
    → ReceivesSome May before recorded s.pid bytes s.core s.up x → CutsShort May before recorded s (Gets x.peer.number bytes)
cut-piece May before recorded s bytes x none nz fits reads h picked given marks closed st al = record {
  picks = h.picked;
  replies = h.used;
  asks = h.asks;
  may = h.may;
  recorded = h.records;
  begins = λ picks replies.
      subst (λ p. Begins p ((given ++ h.used) ++ replies)) (sym (append_assoc picked h.picked picks))
      (subst (λ r. Begins (picked ++ (h.picked ++ picks)) r) (sym (append_assoc given h.used replies)) (for-all picks replies));
}
  where
    k : ℕ
    k = x.peer.number

    Begins : List ℕ → List HouseReply → Type 0
    Begins p r = BeginsWithAsked (asks_of_rows (log s p r marks)) h.asks (asks_of_rows (log s p r (Gets k bytes ∷ marks)))

    for-all : (picks : List ℕ) (replies : List HouseReply) → Begins (picked ++ (h.picked ++ picks)) (given ++ (h.used ++ replies))
    for-all picks replies =
        let p : List ℕ = picked ++ (h.picked ++ picks) in
        let r : List HouseReply = given ++ (h.used ++ replies) in
        let v : EngineRepresents p r (length picked) st.asks s marks closed = st.at (h.picked ++ picks) (h.used ++ replies) in
        let rows : List Row = log s p r marks in
        let live : is_run_over rows ≡ false = sym (some-end rows) ∙ ap is_some (sym v.rows.ended_is ∙ none) in
        let fx : InFits rows x = fits rows v.rows.fit.each in
        let come : ComeNext h.picked rows p = (picks, ap (λ n. drop n p) v.rows.taken_is ∙ drop-front picked (h.picked ++ picks)) in
        let next : ReplyNext h.used rows r = (replies, ap (λ n. drop n r) (v.rows.drawn_is ∙ st.each) ∙ drop-front given (h.used ++ replies)) in
        let cut : ClientReads (bytes_of k marks) x = reads marks (v.bytes.clients live) in
        let is : log s p r (Gets k bytes ∷ marks) ≡ rows_sent s.core.policy s.pid p r k rows (parse (parse_mode_of x.peer.standing) (x.rest ++ bytes)).says =
        gets-log s p r k bytes marks nz al.2 ∙ ap (λ xs. more_all (run_setting s p r) rows (map (sent_item k) xs)) (says-new (bytes_of k marks) bytes (parse_mode_of x.peer.standing) x.rest (cut.mode_is (read-in x.peer.standing h.read)) (cut.rest_is h.read)) in
        subst (λ (l : List Row). BeginsWithAsked (asks_of_rows rows) h.asks (asks_of_rows l)) (sym is)
        (h.begins p r rows (record { core = v.rows.fit.core; peer = fx.peer; up = v.rows.fit.up }) live come next)

cut-gained : (May : HouseReply → Type 0) (before recorded : Option (List Asked)) (s : EngineState) (k : ℕ) (bytes : List ℕ) → s.ended ≡ None → k ≢ 0 → OneIs k (ReceivesSome May before recorded s.pid bytes s.core s.up) s.clients → CutsShort May before recorded s (Gets k bytes)
cut-gained May before recorded s k bytes none nz one =
    let P : ClientState → Type 0 = ReceivesSome May before recorded s.pid bytes s.core s.up in
    let p : Pair k (λ x y. P x) s.clients s.clients = pair k (λ x y. P x) s.clients s.clients (one-here k P s.clients one) (one-stays k P s.clients one) in
    subst (λ j. CutsShort May before recorded s (Gets j bytes)) p.number
    (cut-piece May before recorded s bytes p.first none (λ z. nz (sym p.number ∙ z)) p.fits p.reads p.is)

-- the event at which something may be requested of the forwarder
abbrev pub CutsOne : (HouseReply → Type 0) → Option (List Asked) → Option (List Asked) → EngineState → Event → Type 0
CutsOne May before recorded s (event.FromClient k bytes) = OneIs k (ReceivesSome May before recorded s.pid bytes.now s.core s.up) s.clients
CutsOne May before recorded s e = ⊥

pub cut-asking : (May : HouseReply → Type 0) (before recorded : Option (List Asked)) (s : EngineState) (e : Event) → s.ended ≡ None → CutsOne May before recorded s e → (mark : Mark) → MarkRecords e mark → CutsShort May before recorded s mark
cut-asking May before recorded s (event.FromClient k bytes) live one mark t = subst (λ (m : Mark). CutsShort May before recorded s m) (sym t.1) (cut-gained May before recorded s k bytes.now live t.0 one)
cut-asking May before recorded s e live one mark t = absurd one

-- whether there was memory before or not
pub cut-shown : (May : HouseReply → Type 0) (before recorded : Option (List Asked)) (parts s : EngineState) (mark : Mark) → parts ≡ s → CutsShort May before recorded (fed true parts) mark → CutsShort May before recorded s mark
cut-shown May before recorded parts s mark view h = subst (λ (x : EngineState). CutsShort May before recorded x mark) view at
  where
    at : CutsShort May before recorded parts mark
    at picked given marks closed st al =
        let a = h picked given marks closed (stands-fed picked given parts true marks closed st) (allowed-fed parts true marks mark al) in
        record { picks = a.picks; replies = a.replies; asks = a.asks; may = a.may; recorded = a.recorded; begins = a.begins }
