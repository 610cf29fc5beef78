-- Who makes a request of the forwarder by a mark: whoever sends something by it, and no client by
-- others.
use Rattle.std.proofs.Common.{◌≡◌, ◌≢◌, ℕ, Bool, true, false, List, [], ◌∷◌, ◌++◌, length, drop, Option, Some, Ok, refl, sym, ap, ◌∙◌, subst, append_assoc, append-nil, arith, length-append, inl, inr, ◌+◌}
use Rattle.std.specs.Prelude.{◌==◌, All, IsTrue, Result, map}
use Rattle.std.proofs.lemmas.Bool.Decides.{eqb_tells}
use Rattle.std.proofs.lemmas.List.{append_cancel_left}
use Rattle.std.proofs.lemmas.List.Elements.{All-push}
use Rattle.ssh_grammar.specs.Control.{Control, OpenForward, CloseForward}
use Rattle.ssh_grammar.specs.ReadControl.{read_control}
use Rattle.ssh_grammar.specs.Said.{Outgoing, Body, Payload, BadFraming, InProxy, parse, said}
use Rattle.ssh_grammar.specs.declared.fault.BadControl.{BadControl}
use Rattle.mux_outside.specs.House.{Known, OpenAsk, known_after_ask}
use Rattle.mux_outside.specs.declared.house.HouseReply.{HouseReply}
use Rattle.mux_outside.specs.declared.house.HouseReply.TheVariants.{Done, Port, Refused, Later}
use Rattle.mux_outside.specs.declared.house_mark.HouseMark.{HouseMark}
use Rattle.mux_outside.specs.declared.house_mark.HouseMark.TheVariants.{HouseIn, HouseSaid, HouseTook, HouseAsked, HouseAnswer, HouseOrder}
use Rattle.mux_outside.specs.declared.mark.Mark.{Mark}
use Rattle.mux_outside.specs.declared.mark.Mark.TheVariants.{Waits, Accepts, Gets, Ends, Frees, Fails, Takes, Holds, WriteFails, Joins, House}
use Rattle.mux_history.specs.declared.limits.TheConstants.{HOUSE}
use Rattle.mux_history.specs.Choices.{pick_of, with_reply}
use Rattle.mux_history.specs.Journal.{bytes_of, received_item, is_accepted, items_in, new_received, new_sayings, sent_item, server_end, unless_own}
use Rattle.mux_history.specs.Log.{more_all, more_of}
use Rattle.mux_history.specs.Policy.{Policy}
use Rattle.mux_history.specs.Promises.{MayGive}
use Rattle.mux_history.specs.Rows.{Item, Row, Says, Gone, ServerFailed}
use Rattle.mux_history.proofs.LawfulItems.{treat-item}
use Rattle.mux_bounds.proofs.Entries.{EachItem, by-more, each-unless, lists, next, setting, with-reply}
use Rattle.mux_peers.specs.Asked.{asked_by, asks_of_rows, item_asks, known_after, reading_asks, sending_asks}
use Rattle.mux_peers.specs.Starved.{BeginsWithAsked}
use Rattle.mux_state.specs.State.{EngineState}
use Rattle.mux_state.specs.Stands.{GoesBy, RepresentsSoFar, log}
use Rattle.mux_engine.specs.Answers.{opens_after}
use Rattle.mux_engine.specs.Sides.{ask_marks_in}
use Rattle.mux_engine.proofs.Marks.{asks-more, log-same}

-- requests of clients of which this holds
abbrev pub AskedBy : (ℕ → Type 0) → HouseMark → Type 0
AskedBy P (HouseAsked client id opening ask reply) = P client
AskedBy P mark = ⊥

abbrev pub EachAsked : (ℕ → Type 0) → List HouseMark → Type 0
EachAsked P [] = Unit {0}
EachAsked P (mark ∷ marks) = AskedBy P mark × EachAsked P marks

-- where it holds of none, nothing was asked
pub none-asked : (marks : List HouseMark) → EachAsked (λ k. ⊥) marks → marks ≡ []
none-asked [] each = refl
none-asked (HouseAsked client id opening ask reply ∷ marks) each = absurd each.0
none-asked (HouseIn ∷ marks) each = absurd each.0
none-asked (HouseSaid bytes ∷ marks) each = absurd each.0
none-asked (HouseTook n ∷ marks) each = absurd each.0
none-asked (HouseAnswer client id reply ∷ marks) each = absurd each.0
none-asked (HouseOrder order number ∷ marks) each = absurd each.0

-- all of them are requests
pub all-asks : (P : ℕ → Type 0) (marks : List HouseMark) → EachAsked P marks → ask_marks_in marks ≡ marks
all-asks P [] each = refl
all-asks P (HouseAsked client id opening ask reply ∷ marks) each = ap (λ l. HouseAsked client id opening ask reply ∷ l) (all-asks P marks each.1)
all-asks P (HouseIn ∷ marks) each = absurd each.0
all-asks P (HouseSaid bytes ∷ marks) each = absurd each.0
all-asks P (HouseTook n ∷ marks) each = absurd each.0
all-asks P (HouseAnswer client id reply ∷ marks) each = absurd each.0
all-asks P (HouseOrder order number ∷ marks) each = absurd each.0

each-append : (P : ℕ → Type 0) (a b : List HouseMark) → EachAsked P a → EachAsked P b → EachAsked P (a ++ b)
each-append P [] b x y = y
each-append P (mark ∷ a) b x y = (x.0, each-append P a b x.1 y)

each-front : (P : ℕ → Type 0) (a b : List HouseMark) → EachAsked P (a ++ b) → EachAsked P a
each-front P [] b x = tt
each-front P (mark ∷ a) b x = (x.0, each-front P a b x.1)

-- ---- the requests of rows

module _ (P : ℕ → Type 0) where
  -- an item that a client sends of which it holds, or that no client sends
  abbrev Speaks : Item → Type 0
  Speaks (Says k outgoing given) = P k
  Speaks item = Unit {0}

  reading-each : (k : ℕ) → P k → (reply : HouseReply) (r : Result Control BadControl) → EachAsked P (reading_asks k reply r)
  reading-each k p reply (Ok (OpenForward id what)) = (p, tt)
  reading-each k p reply (Ok (CloseForward id what)) = (p, tt)
  reading-each k p reply r = tt

  outgoing-each : (k : ℕ) → P k → (outgoing : Outgoing) (reply : Option HouseReply) → EachAsked P (sending_asks k outgoing reply)
  outgoing-each k p (Body body) (Some reply) = reading-each k p reply (read_control body)
  outgoing-each k p outgoing reply = tt

  item-each : (item : Item) → Speaks item → EachAsked P (item_asks item)
  item-each (Says k outgoing reply) p = outgoing-each k p outgoing reply
  item-each item p = tt

  record Grows (rows rows' : List Row) : Type 0 where
    more : List HouseMark
    is : asks_of_rows rows' ≡ asks_of_rows rows ++ more
    each : EachAsked P more

  grows-none : (rows : List Row) → Grows rows rows
  grows-none rows = record { more = []; is = sym (append-nil (asks_of_rows rows)); each = tt }

  module _ (policy : Policy) (pid : ℕ) (picks : List ℕ) (given : List HouseReply) where
    grows-one : (rows : List Row) (item : Item) → Speaks item → Grows rows (more_of (setting policy pid picks given) rows item)
    grows-one rows item p = by-more policy pid picks given (Grows rows) rows item (λ e. grows-none rows) (λ e. record {
      more = asked_by (next policy pid picks given rows item);
      is = refl;
      each = subst (λ (i : Item). EachAsked P (item_asks i)) (sym (treat-item policy pid (pick_of (lists policy pid picks given) rows item) rows (with_reply (lists policy pid picks given) rows item)))
          (item-each (with_reply (lists policy pid picks given) rows item) (with-reply policy pid picks given Speaks (λ k body a b h. h) rows item p));
    })

    grows-all : (rows : List Row) (xs : List Item) → EachItem Speaks xs → Grows rows (more_all (setting policy pid picks given) rows xs)
    grows-all rows [] each = grows-none rows
    grows-all rows (item ∷ xs) each =
        let one : Grows rows (more_of (setting policy pid picks given) rows item) = grows-one rows item each.0 in
        let rest : Grows (more_of (setting policy pid picks given) rows item) (more_all (setting policy pid picks given) (more_of (setting policy pid picks given) rows item) xs) = grows-all (more_of (setting policy pid picks given) rows item) xs each.1 in
        record { more = one.more ++ rest.more; is = rest.is ∙ (ap (λ l. l ++ rest.more) one.is ∙ append_assoc (asks_of_rows rows) one.more rest.more); each = each-append P one.more rest.more one.each rest.each }

  -- ---- the items of a mark

  -- of a mark by which a client sends something
  abbrev pub SentBy : Mark → Type 0
  SentBy (Gets k bytes) = k ≢ 0 → P k
  SentBy (House (HouseSaid bytes)) = P HOUSE
  SentBy mark = Unit {0}

  heard-speaks : (ss : List Outgoing) → EachItem Speaks (map received_item ss)
  heard-speaks [] = tt
  heard-speaks (Body body ∷ ss) = (tt, heard-speaks ss)
  heard-speaks (Payload p ∷ ss) = (tt, heard-speaks ss)
  heard-speaks (BadFraming fault ∷ ss) = (tt, heard-speaks ss)

  said-speaks : (k : ℕ) → P k → (ss : List Outgoing) → EachItem Speaks (map (sent_item k) ss)
  said-speaks k p [] = tt
  said-speaks k p (s ∷ ss) = (p, said-speaks k p ss)

  end-speaks : (rest : List ℕ) → EachItem Speaks (server_end rest ∷ [])
  end-speaks [] = (tt, tt)
  end-speaks (b ∷ rest) = (tt, tt)

  by-server : (k : ℕ) (xs ys : List Item) → EachItem Speaks xs → (k ≢ 0 → EachItem Speaks ys) → EachItem Speaks (elim (k == 0) as (λ _. List Item) [ true ↦ xs | false ↦ ys ])
  by-server k xs ys x y = by_test (k == 0) (λ e. elim (eqb_tells k 0) [ inl q ↦ absurd (let z : true ≡ false = sym q.0 ∙ e in cc) | inr q ↦ y q.1 ])
    where
      by_test : (b : Bool) → ((b ≡ false) → EachItem Speaks ys) → EachItem Speaks (elim b as (λ _. List Item) [ true ↦ xs | false ↦ ys ])
      by_test true h = x
      by_test false h = h refl

  mark-speaks : (before : List Mark) (mark : Mark) → SentBy mark → EachItem Speaks (items_in before mark)
  mark-speaks before (Gets k bytes) p = by-server k (new_received (bytes_of 0 before) (bytes_of 0 before ++ bytes)) (unless_own k (new_sayings k (bytes_of k before) (bytes_of k before ++ bytes)))
      (heard-speaks (drop (length (parse InProxy (bytes_of 0 before)).says) (parse InProxy (bytes_of 0 before ++ bytes)).says))
      (λ nz. each-unless Speaks k (new_sayings k (bytes_of k before) (bytes_of k before ++ bytes)) (λ e. said-speaks k (p nz) (drop (length (said (bytes_of k before))) (said (bytes_of k before ++ bytes)))))
  mark-speaks before (Ends k) p = by-server k (server_end (parse InProxy (bytes_of 0 before)).rest ∷ []) (unless_own k (Gone k ∷ [])) (end-speaks (parse InProxy (bytes_of 0 before)).rest) (λ nz. each-unless Speaks k (Gone k ∷ []) (λ e. (tt, tt)))
  mark-speaks before (Fails k) p = by-server k (ServerFailed ∷ []) (unless_own k (Gone k ∷ [])) (tt, tt) (λ nz. each-unless Speaks k (Gone k ∷ []) (λ e. (tt, tt)))
  mark-speaks before (WriteFails k) p = by-server k (ServerFailed ∷ []) (unless_own k (Gone k ∷ [])) (tt, tt) (λ nz. each-unless Speaks k (Gone k ∷ []) (λ e. (tt, tt)))
  mark-speaks before (Takes k bytes accepts) p = each-unless Speaks k _ (λ e. (tt, tt))
  mark-speaks before (Accepts k) p = (tt, tt)
  mark-speaks before (Waits waiting want streams shown) p = tt
  mark-speaks before (Frees k) p = tt
  mark-speaks before (Holds k) p = tt
  mark-speaks before (Joins l k) p = tt
  mark-speaks before (House HouseIn) p = (tt, tt)
  mark-speaks before (House (HouseSaid bytes)) p = said-speaks HOUSE p (drop (length (said (bytes_of HOUSE before))) (said (bytes_of HOUSE before ++ bytes)))
  mark-speaks before (House (HouseTook n)) p = (tt, tt)
  mark-speaks before (House (HouseAsked client id opening ask reply)) p = tt
  mark-speaks before (House (HouseAnswer client id reply)) p = (tt, tt)
  mark-speaks before (House (HouseOrder order number)) p = tt

  -- ---- the requests of an event

  pub goes-asked : {May : HouseReply → Type 0} {recorded recorded' : Option (List HouseMark)} {picked : List ℕ} {replies : List HouseReply} {s s' : EngineState} {mark : Mark} {marks : List Mark} {closed : List ℕ} (g : GoesBy May recorded recorded' picked replies s s' mark marks closed)
      → s'.core.policy ≡ s.core.policy → s'.pid ≡ s.pid → SentBy mark → EachAsked P g.asks
  goes-asked {picked = picked} {replies = replies} {s = s} {s' = s'} {mark = mark} {marks = marks} g same_policy same_pid p =
      let ps : List ℕ = (picked ++ g.picks) ++ [] in
      let rs : List HouseReply = (replies ++ g.replies) ++ [] in
      let grown : Grows (log s ps rs marks) (log s ps rs (mark ∷ marks)) = grows-all s.core.policy s.pid ps rs (log s ps rs marks) (items_in marks mark) (mark-speaks marks mark p) in
      subst (EachAsked P) (append_cancel_left (asks_of_rows (log s ps rs marks)) grown.more g.asks (sym grown.is ∙ (ap asks_of_rows (sym (log-same s s' ps rs (mark ∷ marks) same_policy same_pid)) ∙ g.asked [] []))) grown.each

-- the first of what the rows of a mark ask are requests
pub begins-asked : (P : ℕ → Type 0) (s : EngineState) (ps : List ℕ) (rs : List HouseReply) (mark : Mark) (marks : List Mark) (asks : List HouseMark) → SentBy P mark → BeginsWithAsked (asks_of_rows (log s ps rs marks)) asks (asks_of_rows (log s ps rs (mark ∷ marks))) → EachAsked P asks
begins-asked P s ps rs mark marks asks p b =
    let grown : Grows P (log s ps rs marks) (log s ps rs (mark ∷ marks)) = grows-all P s.core.policy s.pid ps rs (log s ps rs marks) (items_in marks mark) (mark-speaks P marks mark p) in
    each-front P asks b.rest (subst (EachAsked P) (append_cancel_left (asks_of_rows (log s ps rs marks)) grown.more (asks ++ b.rest) (sym grown.is ∙ b.all_is)) grown.each)

-- whoever replies may, where nothing was asked
pub goes-unasked : {May May' : HouseReply → Type 0} {recorded recorded' : Option (List HouseMark)} {picked : List ℕ} {replies : List HouseReply} {s s' : EngineState} {mark : Mark} {marks : List Mark} {closed : List ℕ} (st : RepresentsSoFar picked replies s marks closed) (g : GoesBy May' recorded recorded' picked replies s s' mark marks closed)
    → g.asks ≡ [] → GoesBy May recorded recorded' picked replies s s' mark marks closed
goes-unasked {May} {May'} {replies = replies} st g none = record {
  picks = g.picks;
  replies = g.replies;
  asks = g.asks;
  may = subst (MayGive May) (sym (no-replies g.replies size)) tt;
  stands = g.stands;
  recorded = g.recorded;
  asked = g.asked;
}
  where
    no-replies : (rs : List HouseReply) → length rs ≡ 0 → rs ≡ []
    no-replies [] e = refl
    no-replies (r ∷ rs) e = absurd (omega (arith, e))

    same : length (st.asks ++ []) ≡ length (replies ++ g.replies)
    same = ap length (sym (asks-more st g ∙ ap (λ l. st.asks ++ l) none)) ∙ g.stands.each

    size : length g.replies ≡ 0
    size = let a : length (st.asks ++ []) ≡ length st.asks = ap length (append-nil st.asks) in let b : length st.asks ≡ length replies = st.each in let c : length (replies ++ g.replies) ≡ length replies + length g.replies = length-append replies g.replies in omega (arith, a, b, c, same)

pub unasked-none : (May : HouseReply → Type 0) {May' : HouseReply → Type 0} {recorded recorded' : Option (List HouseMark)} {picked : List ℕ} {replies : List HouseReply} {s s' : EngineState} {mark : Mark} {marks : List Mark} {closed : List ℕ} (st : RepresentsSoFar picked replies s marks closed) (g : GoesBy May' recorded recorded' picked replies s s' mark marks closed)
    → (none : g.asks ≡ []) → (goes-unasked {May = May} st g none).asks ≡ []
unfolding goes-unasked
unasked-none May st g none = none

-- ---- the open requests after these

pub asked-accepted : (journal : List Mark) (asks : List HouseMark) (known : Known) → EachAsked (λ k. is_accepted k journal ≡ true) asks → All (λ (a : OpenAsk). IsTrue (is_accepted a.client journal)) known.asks → All (λ (a : OpenAsk). IsTrue (is_accepted a.client journal)) (known_after asks known).asks
asked-accepted journal [] known each all = all
asked-accepted journal (HouseAsked client id opening ask Later ∷ asks) known each all =
    asked-accepted journal asks (record known { asks = known.asks ++ record { client = client; id = id; opening = opening } ∷ [] }) each.1 (All-push (λ (a : OpenAsk). IsTrue (is_accepted a.client journal)) known.asks (record { client = client; id = id; opening = opening }) all each.0)
asked-accepted journal (HouseAsked client id opening ask Done ∷ asks) known each all = asked-accepted journal asks known each.1 all
asked-accepted journal (HouseAsked client id opening ask (Port port) ∷ asks) known each all = asked-accepted journal asks known each.1 all
asked-accepted journal (HouseAsked client id opening ask Refused ∷ asks) known each all = asked-accepted journal asks known each.1 all
asked-accepted journal (HouseIn ∷ asks) known each all = absurd each.0
asked-accepted journal (HouseSaid bytes ∷ asks) known each all = absurd each.0
asked-accepted journal (HouseTook n ∷ asks) known each all = absurd each.0
asked-accepted journal (HouseAnswer client id reply ∷ asks) known each all = absurd each.0
asked-accepted journal (HouseOrder order number ∷ asks) known each all = absurd each.0

-- they are what is known of the forwarder after these
pub opens-known : (P : ℕ → Type 0) (asks : List HouseMark) (known : Known) → EachAsked P asks → (known_after asks known).asks ≡ opens_after asks known.asks
opens-known P [] known each = refl
opens-known P (HouseAsked client id opening ask reply ∷ asks) known each = opens-known P asks (known_after_ask reply client id opening known) each.1
opens-known P (HouseIn ∷ asks) known each = absurd each.0
opens-known P (HouseSaid bytes ∷ asks) known each = absurd each.0
opens-known P (HouseTook n ∷ asks) known each = absurd each.0
opens-known P (HouseAnswer client id reply ∷ asks) known each = absurd each.0
opens-known P (HouseOrder order number ∷ asks) known each = absurd each.0
