-- The forwarder asks nothing of itself: it sends the greeting, and after it messages of SSH alone.
use Rattle.std.proofs.Common.{◌≡◌, ℕ, Bool, true, false, List, [], ◌∷◌, ◌++◌, length, map, drop, Some, refl, ap, ◌∙◌, subst, inl, inr, ◌⊎◌, ◌||◌, ◌&&◌}
use Rattle.std.specs.Prelude.{◌==◌, find, if◌then◌else◌, Result, Ok}
use Rattle.std.specs.List.{list_any}
use Rattle.std.proofs.lemmas.List.Folds.{list_any-append}
use Rattle.ssh_fields.specs.Fields.{take_u32}
use Rattle.ssh_grammar.specs.Control.{Control, OpenForward, CloseForward}
use Rattle.ssh_grammar.specs.ReadControl.{read_control}
use Rattle.ssh_grammar.specs.ReadMessage.{read_message as reading}
use Rattle.ssh_grammar.specs.Said.{Outgoing, Body, Payload, BadFraming, InProxy, parse, said}
use Rattle.ssh_grammar.specs.declared.fault.BadControl.{BadControl}
use Rattle.ssh_grammar.specs.declared.framing.Framing.TheVariants as framing
use Rattle.proxy_frames.specs.Steps.{switched}
use Rattle.mux_outside.specs.Greeting.{GreetsFirst}
use Rattle.mux_outside.specs.HouseCalls.{HouseCall, Begins, Marks, Receives, Turns, Takes as TakesBytes}
use Rattle.mux_outside.specs.Whose.{is_server}
use Rattle.mux_outside.specs.declared.house.HouseReply.{HouseReply}
use Rattle.mux_outside.specs.declared.house.HouseReply.TheVariants.{Done, Port, Refused, Later}
use Rattle.mux_outside.specs.declared.house_mark.HouseMark.{HouseMark}
use Rattle.mux_outside.specs.declared.house_mark.HouseMark.TheVariants.{HouseIn, HouseSaid, HouseTook, HouseAsked, HouseAnswer, HouseOrder}
use Rattle.mux_outside.specs.declared.mark.Mark.{Mark}
use Rattle.mux_outside.specs.declared.mark.Mark.TheVariants.{Waits, Accepts, Gets, Ends, Frees, Fails, Takes, Holds, WriteFails, Joins, House}
use Rattle.mux_history.specs.declared.limits.TheConstants.{HOUSE}
use Rattle.mux_history.specs.Choices.{pick_of, with_reply}
use Rattle.mux_history.specs.Journal.{bytes_of, received_item, items_in, log_of_journal, new_received, new_sayings, sent_item, server_end, unless_own}
use Rattle.mux_history.specs.Log.{more_all, more_of}
use Rattle.mux_history.specs.Policy.{Policy}
use Rattle.mux_history.specs.Promises.{Throughout}
use Rattle.mux_history.specs.Rows.{Item, Row, Says, Gone, ServerFailed}
use Rattle.mux_history.proofs.LawfulItems.{treat-item}
use Rattle.mux_bounds.proofs.Entries.{EachItem, by-more, each-unless, lists, next, setting, with-reply}
use Rattle.mux_peers.specs.Asked.{ask_of, asked_by, asks_of_rows, item_asks, reading_asks}
use Rattle.mux_engine.specs.Called.{calls_at, calls_in}
use Rattle.mux_engine.specs.Places.{IsOfOthers}
use Rattle.mux_engine.proofs.Greeting.{AllSo, greets-before, journal-greets, so-drop, so-said}
use Rattle.mux_engine.proofs.Deferred.{is_deferred}
use Rattle.house_forward.specs.ForwardingState.{ForwardingState}
use Rattle.house_forward.specs.Forwardings.{has_request}
use Rattle.house_forward.specs.RelayTraces.{Trace, ReceivesFrame, RelaysReceiveFrames, TraceReaches, SendsBy, is_grant, with_received}
use Rattle.house_forward.specs.declared.forwarder_state.ForwarderStage.{ForwarderStage}
use Rattle.house_forward.specs.declared.forwarder_state.ForwarderStage.TheVariants.{Control as InControlStage, Proxy as InProxyStage}
use Rattle.house_history.proofs.ForwardingStates.{reading-heard}
use Rattle.house_history.proofs.Takes.{calm-rest}

-- ---- the calls of a trace greet first

if-forwarding_state : (b : Bool) (x y : Trace) → x.forwarding_state ≡ y.forwarding_state → (if b then x else y).forwarding_state ≡ y.forwarding_state
if-forwarding_state true x y e = e
if-forwarding_state false x y e = refl

frame-greeted : (stage : ForwarderStage) (content : List ℕ) (old new : Trace) → ReceivesFrame stage content old new → new.forwarding_state.greeted ≡ old.forwarding_state.greeted
frame-greeted InControlStage content old new h =
    ap (λ (c : Trace). c.forwarding_state.greeted) h ∙ ap (λ (d : ForwardingState). d.greeted) (if-forwarding_state (is_grant (take_u32 content)) (record old { stage = InProxyStage; framer = switched framing.Proxy old.framer }) old refl)
frame-greeted InProxyStage content old new h = (reading-heard content (reading content) refl old new h).greeted

frames-greeted : (contents : List (List ℕ)) (old new : Trace) → RelaysReceiveFrames contents old new → new.forwarding_state.greeted ≡ old.forwarding_state.greeted
frames-greeted [] old new h = ap (λ (c : Trace). c.forwarding_state.greeted) h.1
frames-greeted (content ∷ more) old new h = frames-greeted more h.2.0 new h.2.2 ∙ frame-greeted old.stage content _ h.2.0 h.2.1

pub trace-greets : (calls : List HouseCall) (old new : Trace) → old.forwarding_state.greeted ≡ false → TraceReaches old calls new → GreetsFirst calls
trace-greets [] old new e h = tt
trace-greets (Begins starts ∷ calls) old new e h = trace-greets calls h.0 new ((calm-rest (Begins starts) old h.0 tt h.1).greeted ∙ e) h.2
trace-greets (Marks HouseIn ∷ calls) old new e h = trace-greets calls h.0 new ((calm-rest (Marks HouseIn) old h.0 tt h.1).greeted ∙ e) h.2
trace-greets (Marks (HouseSaid bytes) ∷ calls) old new e h = (subst (λ (b : Bool). SendsBy b (find has_request old.forwarding_state.all) bytes old h.0) e h.1).0
trace-greets (Marks (HouseTook size) ∷ calls) old new e h = trace-greets calls h.0 new ((calm-rest (Marks (HouseTook size)) old h.0 tt h.1).greeted ∙ e) h.2
trace-greets (Marks (HouseAsked client id opening ask reply) ∷ calls) old new e h = trace-greets calls h.0 new ((calm-rest (Marks (HouseAsked client id opening ask reply)) old h.0 tt h.1).greeted ∙ e) h.2
trace-greets (Marks (HouseAnswer client id reply) ∷ calls) old new e h = trace-greets calls h.0 new ((calm-rest (Marks (HouseAnswer client id reply)) old h.0 tt h.1).greeted ∙ e) h.2
trace-greets (Marks (HouseOrder order number) ∷ calls) old new e h = trace-greets calls h.0 new ((calm-rest (Marks (HouseOrder order number)) old h.0 tt h.1).greeted ∙ e) h.2
trace-greets (Receives bytes ∷ calls) old new e h = trace-greets calls h.0 new (frames-greeted h.1.0 (with_received bytes old) h.0 h.1.1 ∙ e) h.2
trace-greets (Turns happening ∷ calls) old new e h = trace-greets calls h.0 new ((calm-rest (Turns happening) old h.0 tt h.1).greeted ∙ e) h.2
trace-greets (TakesBytes t bytes ∷ calls) old new e h = trace-greets calls h.0 new ((calm-rest (TakesBytes t bytes) old h.0 tt h.1).greeted ∙ e) h.2

-- ---- what asks nothing

-- no request of the forwarder is among these
abbrev pub NoneOfHouse : List HouseMark → Type 0
NoneOfHouse asks = (id : ℕ) → list_any (is_deferred HOUSE id) asks ≡ false

-- it asks nothing, whoever sends it
abbrev Mild : Outgoing → Type 0
Mild (Body body) = (k : ℕ) (reply : HouseReply) → reading_asks k reply (read_control body) ≡ []
Mild outgoing = Unit {0}

-- another client sends it, or it asks nothing
abbrev Spares : Item → Type 0
Spares (Says k outgoing reply) = ((k == HOUSE) ≡ false) ⊎ Mild outgoing
Spares item = Unit {0}

other-ask : (id k i : ℕ) (opening : Bool) (what : _) (reply : HouseReply) → (k == HOUSE) ≡ false → list_any (is_deferred HOUSE id) (ask_of k i opening what reply ∷ []) ≡ false
other-ask id k i opening what Later ne = ap (λ b. (b && (i == id)) || false) ne
other-ask id k i opening what Done ne = refl
other-ask id k i opening what (Port port) ne = refl
other-ask id k i opening what Refused ne = refl

other-reading : (id k : ℕ) (reply : HouseReply) (r : Result Control BadControl) → (k == HOUSE) ≡ false → list_any (is_deferred HOUSE id) (reading_asks k reply r) ≡ false
other-reading id k reply (Ok (OpenForward i what)) ne = other-ask id k i true what reply ne
other-reading id k reply (Ok (CloseForward i what)) ne = other-ask id k i false what reply ne
other-reading id k reply r ne = refl

spares-asks : (item : Item) → Spares item → NoneOfHouse (item_asks item)
spares-asks (Says k (Body body) (Some reply)) (inl ne) id = other-reading id k reply (read_control body) ne
spares-asks (Says k (Body body) (Some reply)) (inr mild) id = ap (list_any (is_deferred HOUSE id)) (mild k reply)
spares-asks item h id = refl

module _ (policy : Policy) (pid : ℕ) (picks : List ℕ) (given : List HouseReply) where
  spares-one : (rows : List Row) (item : Item) → Spares item → NoneOfHouse (asks_of_rows rows) → NoneOfHouse (asks_of_rows (more_of (setting policy pid picks given) rows item))
  spares-one rows item spares none id = by-more policy pid picks given (λ (rs : List Row). list_any (is_deferred HOUSE id) (asks_of_rows rs) ≡ false) rows item (λ e. none id)
      (λ e. list_any-append (is_deferred HOUSE id) (asks_of_rows rows) (asked_by (next policy pid picks given rows item)) ∙ (ap (λ b. b || list_any (is_deferred HOUSE id) (asked_by (next policy pid picks given rows item))) (none id) ∙ last))
    where
      replied : Item
      replied = with_reply (lists policy pid picks given) rows item

      last : list_any (is_deferred HOUSE id) (asked_by (next policy pid picks given rows item)) ≡ false
      last = ap (λ (i : Item). list_any (is_deferred HOUSE id) (item_asks i)) (treat-item policy pid (pick_of (lists policy pid picks given) rows item) rows replied)
          ∙ spares-asks replied (with-reply policy pid picks given Spares (λ k body a b h. h) rows item spares) id

  spares-all : (rows : List Row) (items : List Item) → EachItem Spares items → NoneOfHouse (asks_of_rows rows) → NoneOfHouse (asks_of_rows (more_all (setting policy pid picks given) rows items))
  spares-all rows [] each none = none
  spares-all rows (item ∷ items) each none = spares-all (more_of (setting policy pid picks given) rows item) items each.1 (spares-one rows item each.0 none)

-- ---- the items of a mark

heard-spares : (ss : List Outgoing) → EachItem Spares (map received_item ss)
heard-spares [] = tt
heard-spares (Body body ∷ ss) = (tt, heard-spares ss)
heard-spares (Payload p ∷ ss) = (tt, heard-spares ss)
heard-spares (BadFraming fault ∷ ss) = (tt, heard-spares ss)

said-spares : (k : ℕ) → (k == HOUSE) ≡ false → (ss : List Outgoing) → EachItem Spares (map (sent_item k) ss)
said-spares k ne [] = tt
said-spares k ne (s ∷ ss) = (inl ne, said-spares k ne ss)

house-spares : (ss : List Outgoing) → AllSo Mild ss → EachItem Spares (map (sent_item HOUSE) ss)
house-spares [] h = tt
house-spares (s ∷ ss) h = (inr h.0, house-spares ss h.1)

end-spares : (rest : List ℕ) → EachItem Spares (server_end rest ∷ [])
end-spares [] = (tt, tt)
end-spares (b ∷ rest) = (tt, tt)

by-server : (b : Bool) (xs ys : List Item) → EachItem Spares xs → EachItem Spares ys → EachItem Spares (elim b as (λ _. List Item) [ true ↦ xs | false ↦ ys ])
by-server true xs ys x y = x
by-server false xs ys x y = y

mark-spares : (before : List Mark) (mark : Mark) → IsOfOthers before mark → AllSo Mild (said (bytes_of HOUSE (mark ∷ before))) → EachItem Spares (items_in before mark)
mark-spares before (Gets k bytes) other mild = by-server (is_server k) (new_received (bytes_of 0 before) (bytes_of 0 before ++ bytes)) (unless_own k (new_sayings k (bytes_of k before) (bytes_of k before ++ bytes)))
    (heard-spares (drop (length (parse InProxy (bytes_of 0 before)).says) (parse InProxy (bytes_of 0 before ++ bytes)).says))
    (each-unless Spares k (new_sayings k (bytes_of k before) (bytes_of k before ++ bytes)) (λ e. said-spares k other (drop (length (said (bytes_of k before))) (said (bytes_of k before ++ bytes)))))
mark-spares before (Ends k) other mild = by-server (is_server k) (server_end (parse InProxy (bytes_of 0 before)).rest ∷ []) (unless_own k (Gone k ∷ [])) (end-spares (parse InProxy (bytes_of 0 before)).rest) (each-unless Spares k (Gone k ∷ []) (λ e. (tt, tt)))
mark-spares before (Fails k) other mild = by-server (is_server k) (ServerFailed ∷ []) (unless_own k (Gone k ∷ [])) (tt, tt) (each-unless Spares k (Gone k ∷ []) (λ e. (tt, tt)))
mark-spares before (WriteFails k) other mild = by-server (is_server k) (ServerFailed ∷ []) (unless_own k (Gone k ∷ [])) (tt, tt) (each-unless Spares k (Gone k ∷ []) (λ e. (tt, tt)))
mark-spares before (Takes k bytes accepts) other mild = each-unless Spares k _ (λ e. (tt, tt))
mark-spares before (Accepts k) other mild = (tt, tt)
mark-spares before (Waits waiting want streams shown) other mild = tt
mark-spares before (Frees k) other mild = tt
mark-spares before (Holds k) other mild = tt
mark-spares before (Joins l k) other mild = tt
mark-spares before (House HouseIn) other mild = (tt, tt)
mark-spares before (House (HouseSaid bytes)) other mild = house-spares (drop (length (said (bytes_of HOUSE before))) (said (bytes_of HOUSE before ++ bytes))) (so-drop Mild (length (said (bytes_of HOUSE before))) (said (bytes_of HOUSE before ++ bytes)) mild)
mark-spares before (House (HouseTook n)) other mild = (tt, tt)
mark-spares before (House (HouseAsked client id opening ask reply)) other mild = tt
mark-spares before (House (HouseAnswer client id reply)) other mild = (tt, tt)
mark-spares before (House (HouseOrder order number)) other mild = tt

module _ (policy : Policy) (pid : ℕ) (picks : List ℕ) (given : List HouseReply) where
  mild-in : (journal : List Mark) → Throughout IsOfOthers journal → GreetsFirst (calls_in (setting policy pid picks given) journal) → AllSo Mild (said (bytes_of HOUSE journal))
  mild-in journal others greets = so-said Mild (λ k reply. refl) (λ k reply. refl) (λ p. tt) (λ fault. tt) (bytes_of HOUSE journal) (journal-greets (setting policy pid picks given) journal others greets)

  -- where its calls greet first, no row of the forwarder asks anything
  pub house-unasked : (journal : List Mark) → Throughout IsOfOthers journal → GreetsFirst (calls_in (setting policy pid picks given) journal) → NoneOfHouse (asks_of_rows (log_of_journal (setting policy pid picks given) journal))
  house-unasked [] others greets = λ id. refl
  house-unasked (mark ∷ before) others greets =
      spares-all policy pid picks given (log_of_journal (setting policy pid picks given) before) (items_in before mark) (mark-spares before mark others.0 (mild-in (mark ∷ before) others greets))
      (house-unasked before others.1 (greets-before (calls_in (setting policy pid picks given) before) (calls_at (setting policy pid picks given) before mark) greets))
