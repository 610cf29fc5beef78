-- What a turn that reports an event makes of what holds while a wire is served.
use Rattle.std.proofs.Common.{◌≡◌, ℕ, true, List, [], ◌∷◌, ◌++◌, take, drop, Option, Some, None, refl, sym, ap, ◌∙◌, subst, inl, inr, arith, append_assoc, append-nil, false}
use Rattle.std.specs.Prelude.{All, IsTrue}
use Rattle.std.specs.Option.{option_map}
use Rattle.mux_outside.specs.House.{Known}
use Rattle.mux_outside.specs.HouseCalls.{calls_of}
use Rattle.mux_outside.specs.Seen.{Seen}
use Rattle.mux_outside.specs.Streams.{among}
use Rattle.mux_outside.specs.declared.house.HouseReply.{HouseReply}
use Rattle.mux_outside.specs.declared.house_mark.HouseMark.{HouseMark}
use Rattle.mux_outside.specs.declared.mark.Mark.{Mark}
use Rattle.mux_outside.specs.declared.mark.Mark.TheVariants.{Accepts}
use Rattle.mux_history.specs.declared.limits.TheConstants.{HOUSE}
use Rattle.mux_history.specs.Log.{Setting}
use Rattle.mux_history.specs.Rows.{Row}
use Rattle.mux_history.specs.Settings.{by_lists}
use Rattle.mux_history.specs.Policy.{Policy}
use Rattle.mux_history.specs.Journal.{is_accepted, log_of_journal}
use Rattle.mux_history.specs.Promises.{SpeaksInTime, turns_in}
use Rattle.mux_history.specs.Wires.{OfWire}
use Rattle.mux_bounds.specs.Bounds.{IsLog}
use Rattle.mux_peers.specs.Asked.{RecordsAsks, asks_of_rows, known_after}
use Rattle.mux_peers.specs.Starved.{BeginsWithAsked}
use Rattle.mux_state.specs.State.{EngineState, numbers}
use Rattle.mux_state.specs.declared.event.Event.{Event}
use Rattle.mux_state.specs.declared.event.Event.TheVariants.{Accepted, FromClient, ClientEnd, ClientFailed, HouseSays, FromServer, ServerEnd, ServerFailed}
use Rattle.mux_state.specs.Events.{Arrives, SameStreams, MarkRecords, here}
use Rattle.mux_state.specs.Stands.{AsksFirst, CutsShort, GoesBy, IsAllowed, log}
use Rattle.mux_state.specs.Twins.{AreTwins}
use Rattle.mux_state.proofs.Twins.{stands-alike}
use Rattle.mux_engine.specs.Answers.{AnswersOpen, opens_after}
use Rattle.mux_engine.specs.Asking.{AppliesSo}
use Rattle.mux_engine.specs.Called.{calls_at}
use Rattle.mux_engine.specs.Places.{IsMarkPlaced}
use Rattle.mux_engine.specs.Run.{AsksOn, RestedAt, is_by_house}
use Rattle.mux_engine.specs.Serving.{Promised, Serving}
use Rattle.mux_engine.specs.Sides.{Resting, Side, ask_marks_in, house_mark}
use Rattle.mux_engine.proofs.Asks.{EachAsked, SentBy, all-asks, asked-accepted, begins-asked, goes-asked, opens-known}
use Rattle.mux_engine.proofs.Called.{CallsOn, calls-recorded}
use Rattle.mux_engine.proofs.Causes.{EndsSo, event-by}
use Rattle.mux_engine.proofs.Cuts.{cut-next, now-asked, of-streams}
use Rattle.mux_engine.proofs.Happened.{serve-event}
use Rattle.mux_engine.proofs.Logs.{accepted-more}
use Rattle.mux_engine.proofs.Marks.{Placed, log-is, rows-go-on}
use Rattle.mux_engine.proofs.Noted.{note-some, seen-with}
use Rattle.mux_engine.proofs.Outs.{Spares}
use Rattle.mux_engine.proofs.Turns.{IsRecorded, recorded-promise}

-- ---- who is here after an event

pub same-here : (old new : EngineState) → SameStreams old new → here new ≡ here old
same-here old new s = ap (λ l. l ++ new.refused) s.clients ∙ ap (λ l. numbers old.clients ++ l) s.refused

pub one-more : (k : ℕ) (old new : EngineState) → old.refused ≡ [] → Arrives (Accepted k) old new → here new ≡ here old ++ k ∷ []
one-more k old new none (inl l) =
    ap (λ r. numbers new.clients ++ r) (l.refused ∙ none) ∙ (append-nil (numbers new.clients) ∙ (l.clients ∙ ap (λ xs. xs ++ k ∷ []) (sym (ap (λ r. numbers old.clients ++ r) none ∙ append-nil (numbers old.clients)))))
one-more k old new none (inr r) = ap (λ l. l ++ new.refused) r.clients ∙ (ap (λ l. numbers old.clients ++ l) r.refused ∙ sym (append_assoc (numbers old.clients) old.refused (k ∷ [])))

abbrev client-of : Mark → ℕ
client-of (Accepts k) = k
client-of mark = 0

-- after an arrival
pub came : (e : Event) (k : ℕ) (old new : EngineState) → MarkRecords e (Accepts k) → old.refused ≡ [] → Arrives e old new → here new ≡ here old ++ k ∷ []
came (Accepted j) k old new t none a = subst (λ i. here new ≡ here old ++ i ∷ []) (sym (ap client-of t)) (one-more j old new none a)
came (FromClient j bytes) k old new t none a = absurd (let z = t.1 in cc)
came (ClientEnd j) k old new t none a = absurd (let z = t.1 in cc)
came (ClientFailed j) k old new t none a = absurd (elim t.1 [ inl z ↦ cc | inr z ↦ cc ])
came (HouseSays j id reply) k old new t none a = absurd (let z = t.1 in cc)
came (FromServer bytes) k old new t none a = absurd (cc)
came ServerEnd k old new t none a = absurd (cc)
came ServerFailed k old new t none a = absurd (elim t [ inl z ↦ cc | inr z ↦ cc ])

-- a mark that is no arrival
abbrev pub NotAccepts : Mark → Type 0
NotAccepts (Accepts k) = ⊥
NotAccepts mark = Unit {0}

pub stayed : (e : Event) (mark : Mark) (old new : EngineState) → MarkRecords e mark → NotAccepts mark → Arrives e old new → here new ≡ here old
stayed (Accepted j) mark old new t n a = absurd (subst NotAccepts t n)
stayed (FromClient j bytes) mark old new t n a = same-here old new a
stayed (ClientEnd j) mark old new t n a = same-here old new a
stayed (ClientFailed j) mark old new t n a = same-here old new a
stayed (HouseSays j id reply) mark old new t n a = same-here old new a
stayed (FromServer bytes) mark old new t n a = same-here old new a
stayed ServerEnd mark old new t n a = same-here old new a
stayed ServerFailed mark old new t n a = same-here old new a

-- ---- what was asked

asks-are : (asks more : List HouseMark) → RecordsAsks (Some []) (Some asks) more → asks ≡ more
asks-are asks more e = held e
  where
    held : Some asks ≡ Some more → asks ≡ more
    held h = cc

-- the same event with a mark that records the same
pub goes-twin : {May : HouseReply → Type 0} {recorded recorded' : Option (List HouseMark)} {picked : List ℕ} {replies : List HouseReply} {s s' : EngineState} (twin mark : Mark) {marks : List Mark} {closed : List ℕ} → AreTwins (twin ∷ marks) (mark ∷ marks) → GoesBy May recorded recorded' picked replies s s' twin marks closed → GoesBy May recorded recorded' picked replies s s' mark marks closed
goes-twin {picked = picked} {replies = replies} {s = s} {s' = s'} twin mark {marks} {closed} alike g = record {
  picks = g.picks;
  replies = g.replies;
  asks = g.asks;
  may = g.may;
  stands = stands-alike (twin ∷ marks) (mark ∷ marks) (picked ++ g.picks) (replies ++ g.replies) s' closed alike g.stands;
  recorded = g.recorded;
  asked = λ p r. ap asks_of_rows (sym (alike.log (by_lists s'.core.policy s'.pid ((picked ++ g.picks) ++ p) ((replies ++ g.replies) ++ r)))) ∙ g.asked p r;
}

module _ {May : HouseReply → Type 0} {Rest : Resting} {before : Option (List HouseMark)} {now : Side} {policy : Policy} {pid : ℕ} {start : Option (List Mark)} {seen : Seen} {held failed : List ℕ} {given : ℕ} {s : EngineState}
    (v : Serving May Rest before now policy pid start seen held failed given [] s) (live : s.ended ≡ None) where
  -- an event that was reported, as by its twin, and how the streams are then
  pub record EventAt (e : Event) (seen' : Seen) (given' : ℕ) : Type 0 where
    pub mark : Mark
    pub twin : Mark
    pub is : IsRecorded mark
    pub alike : AreTwins (twin ∷ v.journal) (mark ∷ v.journal)
    pub records : MarkRecords e twin
    pub allowed : IsAllowed s v.journal twin
    pub marks : seen'.recorded ≡ option_map (λ m. m ++ mark ∷ []) seen.recorded
    pub of_wire : OfWire seen'.streams seen'.blocked seen'.last (mark ∷ v.journal)
    pub said : SentBy (λ k. is_accepted k (mark ∷ v.journal) ≡ true) mark
    pub spares : (k : ℕ) → among k v.closed ≡ true → Spares k mark
    pub speaks : (picks : List ℕ) (later : List HouseReply) → SpeaksInTime (by_lists policy pid (v.picked ++ picks) (v.replies ++ later)) v.journal mark
    pub answers : (set : Setting) → AnswersOpen set v.journal mark
    pub rested : (set : Setting) → RestedAt Rest.rests set before v.journal mark
    pub absent : Rest.present ≡ false → is_by_house mark ≡ false
    pub turns : turns_in (mark ∷ v.journal) ≡ given'
    pub plain : house_mark mark ≡ now.unnoted
    pub called : (set : Setting) → calls_at set v.journal mark ≡ calls_of (house_mark mark)
    pub cut : (set : Setting) → IsLog set (mark ∷ v.journal) (log_of_journal set v.journal)
    pub house : is_accepted HOUSE (mark ∷ v.journal) ≡ is_accepted HOUSE v.journal
    pub right : IsMarkPlaced v.journal mark
    pub placed : (s' : EngineState) → (s.ended ≡ None → Arrives e s s') → Placed s' v.journal seen seen' held failed mark

  -- the engine applied it, and so many of the requests were noted
  pub event-goes : (e : Event) (seen' : Seen) (given' : ℕ) (at : EventAt e seen' given') (s' : EngineState) (asks : List HouseMark) (recorded recorded' : Option (List HouseMark)) (known known' : Known) (seen'' : Seen) (n : ℕ) → now.recorded ≡ recorded → now.asks ≡ known.asks → AppliesSo May e s s' asks recorded recorded' known known' seen' seen'' n
      → Serving May Rest before (record { recorded = recorded'; asks = known'.asks; unnoted = drop n asks; let_in = now.let_in; calls = now.calls ++ calls_of asks }) policy pid start seen'' held failed given' (0 ∷ here s') s'
  event-goes e seen' given' at s' asks recorded recorded' known known' seen'' n same_recorded same_asks h =
      let g : GoesBy May (Some []) (Some asks) v.picked v.replies s s' at.mark v.journal v.closed = goes-twin at.twin at.mark at.alike (h.goes at.twin at.records v.picked v.replies v.journal v.closed v.stands at.allowed) in
      let listed : asks ≡ g.asks = asks-are asks g.asks g.recorded in
      let each : EachAsked (λ k. is_accepted k (at.mark ∷ v.journal) ≡ true) asks = subst (EachAsked (λ k. is_accepted k (at.mark ∷ v.journal) ≡ true)) (sym listed) (goes-asked (λ k. is_accepted k (at.mark ∷ v.journal) ≡ true) g h.keeps.policy h.keeps.pid at.said) in
      let now' : Side = record { recorded = recorded'; asks = (known_after asks known).asks; unnoted = asks; let_in = now.let_in; calls = now.calls ++ calls_of asks } in
      let first : Serving May Rest before now' policy pid start seen' held failed given' (0 ∷ here s') s' = serve-event v at.mark g now' seen' held failed given' h.keeps.policy h.keeps.pid live at.is (λ t a. refl) at.spares (λ picks later. subst (λ (ps : List ℕ). SpeaksInTime (by_lists policy pid ps ((v.replies ++ g.replies) ++ later)) v.journal at.mark) (sym (append_assoc v.picked g.picks picks)) (subst (λ (rs : List HouseReply). SpeaksInTime (by_lists policy pid (v.picked ++ (g.picks ++ picks)) rs) v.journal at.mark) (sym (append_assoc v.replies g.replies later)) (at.speaks (g.picks ++ picks) (g.replies ++ later)))) (λ picks later. at.answers (by_lists policy pid ((v.picked ++ g.picks) ++ picks) ((v.replies ++ g.replies) ++ later)))
      (record { more = asks; recorded_is = subst (λ (t : Option (List HouseMark)). RecordsAsks t recorded' asks) (sym same_recorded) h.recorded_is; noted_is = ap (λ l. l ++ asks) at.plain; asks_are = all-asks (λ k. is_accepted k (at.mark ∷ v.journal) ≡ true) asks each ∙ listed; opens_are = opens-known (λ k. is_accepted k (at.mark ∷ v.journal) ≡ true) asks known each ∙ ap (opens_after asks) (sym same_asks) })
      (λ set. subst (CallsOn now now') (sym (at.called set)) (calls-recorded now now' (house_mark at.mark) asks (ap (λ l. l ++ asks) at.plain) refl))
      (asked-accepted (at.mark ∷ v.journal) asks known each (subst (λ l. All (λ a. IsTrue (is_accepted a.client (at.mark ∷ v.journal))) l) same_asks (λ k d lt. accepted-more at.mark v.journal _ (v.askers k d lt))))
      (at.house ∙ v.house_in) v.house_there at.rested at.absent at.turns at.marks (at.placed s' h.keeps.streams) in
      subst (λ (x : Seen). Serving May Rest before (record { recorded = recorded'; asks = known'.asks; unnoted = drop n asks; let_in = now.let_in; calls = now.calls ++ calls_of asks }) policy pid start x held failed given' (0 ∷ here s') s') (sym h.seen_is)
      (subst (λ (k : Known). Serving May Rest before (record { recorded = recorded'; asks = k.asks; unnoted = drop n asks; let_in = now.let_in; calls = now.calls ++ calls_of asks }) policy pid start (seen-with (take n asks) seen') held failed given' (0 ∷ here s') s') (sym h.known_is)
      (note-some n asks (λ k. is_accepted k (at.mark ∷ v.journal) ≡ true) each first refl))

  -- and may end by it
  pub event-ends : (e : Event) (seen' : Seen) (given' : ℕ) (at : EventAt e seen' given') (s' : EngineState) (asks : List HouseMark) (recorded recorded' : Option (List HouseMark)) (known known' : Known) (seen0 seen'' : Seen) (n : ℕ) → AppliesSo May e s s' asks recorded recorded' known known' seen0 seen'' n → EndsSo e s'.ended
  event-ends e seen' given' at s' asks recorded recorded' known known' seen0 seen'' n h = record {
    may = h.ends at.twin at.records v.picked v.replies v.journal v.closed v.stands at.allowed live;
    by = event-by v.stands (h.goes at.twin at.records v.picked v.replies v.journal v.closed v.stands at.allowed) h.keeps.policy h.keeps.pid live e at.records;
  }

  -- there was no memory for it: what it was asked by then comes first of what the mark asks
  cut-asks : (e : Event) (seen' : Seen) (given' : ℕ) (at : EventAt e seen' given') (recorded' : Option (List HouseMark)) (a : AsksFirst May now.recorded recorded' v.picked v.replies s at.twin v.journal) → AsksOn May policy pid v.picked v.replies (at.mark ∷ v.journal) v.stands.asks (ask_marks_in a.asks)
  cut-asks e seen' given' at recorded' a =
      let ps : List ℕ = v.picked ++ a.picks in
      let rs : List HouseReply = v.replies ++ a.replies in
      let set : Setting = by_lists policy pid ps rs in
      let first : BeginsWithAsked (asks_of_rows (log s ps rs v.journal)) a.asks (asks_of_rows (log s ps rs (at.twin ∷ v.journal))) =
      subst (λ (p : List ℕ). BeginsWithAsked (asks_of_rows (log s p rs v.journal)) a.asks (asks_of_rows (log s p rs (at.twin ∷ v.journal)))) (append-nil ps)
      (subst (λ (r : List HouseReply). BeginsWithAsked (asks_of_rows (log s (ps ++ []) r v.journal)) a.asks (asks_of_rows (log s (ps ++ []) r (at.twin ∷ v.journal)))) (append-nil rs) (a.begins [] [])) in
      let same : asks_of_rows (log s ps rs (at.twin ∷ v.journal)) ≡ asks_of_rows (log s ps rs (at.mark ∷ v.journal)) = ap asks_of_rows (at.alike.log (by_lists s.core.policy s.pid ps rs)) in
      let here : BeginsWithAsked (asks_of_rows (log s ps rs v.journal)) a.asks (asks_of_rows (log s ps rs (at.mark ∷ v.journal))) = subst (BeginsWithAsked (asks_of_rows (log s ps rs v.journal)) a.asks) same first in
      let all : ask_marks_in a.asks ≡ a.asks = all-asks (λ k. is_accepted k (at.mark ∷ v.journal) ≡ true) a.asks (begins-asked (λ k. is_accepted k (at.mark ∷ v.journal) ≡ true) s ps rs at.mark v.journal a.asks at.said here) in
      record {
        more_picks = a.picks;
        more_replies = a.replies;
        may = a.may;
        begins = subst (λ (l : List HouseMark). BeginsWithAsked v.stands.asks l (asks_of_rows (log_of_journal set (at.mark ∷ v.journal)))) (sym all)
            (subst (λ (l : List Row). BeginsWithAsked v.stands.asks a.asks (asks_of_rows l)) (log-is s policy pid ps rs (at.mark ∷ v.journal) v.policy_is v.pid_is)
            (subst (λ (l : List HouseMark). BeginsWithAsked l a.asks (asks_of_rows (log s ps rs (at.mark ∷ v.journal)))) (ap asks_of_rows (log-is s policy pid ps rs v.journal v.policy_is v.pid_is) ∙ now-asked v a.picks a.replies) here));
      }

  pub event-cut : (e : Event) (seen' : Seen) (given' : ℕ) (at : EventAt e seen' given') (recorded' : Option (List HouseMark)) → ((mark : Mark) → MarkRecords e mark → CutsShort May now.recorded recorded' s mark) → Promised May Rest before recorded' policy pid start seen'.recorded given'
  event-cut e seen' given' at recorded' cut =
      let a : AsksFirst May now.recorded recorded' v.picked v.replies s at.twin v.journal = cut at.twin at.records v.picked v.replies v.journal v.closed v.stands at.allowed in
      cut-next v recorded' seen'.recorded given' at.mark a.asks a.asks at.marks a.recorded (ap (λ l. l ++ a.asks) at.plain) (of-streams seen'.streams seen'.blocked seen'.last (at.mark ∷ v.journal) at.of_wire) at.right
      (let w : turns_in (at.mark ∷ v.journal) ≡ given' = at.turns in omega arith) at.rested at.absent (cut-asks e seen' given' at recorded' a) at.cut (λ picks later. recorded-promise _ at.mark v.journal at.is (rows-go-on v live picks later) (at.speaks picks later) (at.answers (by_lists policy pid (v.picked ++ picks) (v.replies ++ later))))
