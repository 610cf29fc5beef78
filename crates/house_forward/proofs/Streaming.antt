-- What the relays read and wrote is what their streams gave and accepted.
use Rattle.std.proofs.Common.{◌≡◌, ◌∙◌, refl, sym, ap, subst, ℕ, Bool, true, false, List, [], ◌∷◌, ◌++◌, append_assoc, Option, Some, None}
use Rattle.std.specs.Prelude.{◌==◌, if◌then◌else◌, IfSome}
use Rattle.std.specs.List.{All}
use Rattle.std.proofs.lemmas.List.{append-nil}
use Rattle.std.proofs.lemmas.List.Elements.{All-nil, All-cons}
use Rattle.conn_messages.specs.declared.message.Message.{Message}
use Rattle.conn_messages.specs.declared.message.Message.TheVariants as message
use Rattle.mux_outside.specs.HouseCalls.{HouseCall, Begins, Marks, Receives as ReceivesBytes, Turns, Takes as TakesBytes}
use Rattle.mux_outside.specs.HouseCalls.{Joined, Got, End, Writable, Failed}
use Rattle.mux_outside.specs.declared.house_mark.HouseMark.TheVariants.{HouseOrder}
use Rattle.mux_outside.specs.declared.order.Order.TheVariants as order
use Rattle.mux_outside.specs.declared.own_streams.OwnStream.{OwnStream}
use Rattle.house_relay.specs.Acts.{RelayAct, Reads, Takes, Confirms, Refuses, Delivers, ReceivesEof, ReceivesClose, SendsData, SendsAdjust, SendsEof, SendsClose, Other, read, socket_accepted}
use Rattle.house_relay.specs.Next.{sends_of}
use Rattle.house_relay.specs.Relay.{socket_stream_of, delivers, answered_in, received_if_live, sent_act}
use Rattle.house_relay.specs.Steps.{made_as}
use Rattle.house_relay.specs.declared.line.ChannelState.{ChannelState}
use Rattle.house_relay.specs.declared.line.ChannelState.TheVariants.{Dialing, Asked, Opened, Offered, Live, Over}
use Rattle.house_relay.specs.declared.relay.Relay.{Relay}
use Rattle.house_relay.specs.declared.relay.Outgoing.{Outgoing}
use Rattle.house_relay.specs.declared.relay.Outgoing.TheVariants as outgoing
use Rattle.house_relay.specs.declared.relay.RelaySocket.{RelaySocket}
use Rattle.house_relay.specs.declared.relay.RelaySocket.TheVariants as socket
use Rattle.house_forward.specs.Going.{act_of_sending}
use Rattle.house_forward.specs.Heard.{act_received}
use Rattle.house_forward.specs.Links.{relay_after}
use Rattle.house_forward.specs.RelayTraces.{Life, Trace, RelayGoesBy}
use Rattle.house_forward.specs.RelayTraces.{is_stream, unmade, link_own_after, own_made, relay_act_of, made_life}
use Rattle.house_forward.specs.Numbers.{open_streams, own_stream_number, made_by}
use Rattle.house_forward.specs.Streaming.{EachHasItsStream, IsOfStream, got_in, got_call, took_in, took_call}
use Rattle.house_forward.specs.declared.link.LinkStep.{LinkStep}
use Rattle.house_forward.specs.declared.link.LinkStep.TheVariants as step
use Rattle.house_forward.proofs.Differing.{Apart}
use Rattle.house_forward.proofs.Keeping.{stays-heard, stays-after}
use Rattle.house_forward.proofs.Passing.{Passes, Untouched, Orders, pass-all}
use Rattle.house_forward.proofs.Sound.{Each}

-- ---- what a step reads and writes

-- what is received and sent in the channel adds nothing to these bytes
record IsOfSocket (f : List RelayAct → List ℕ) : Type 0 where
  other : (acts : List RelayAct) → f (Other ∷ acts) ≡ f acts
  confirms : (acts : List RelayAct) → f (Confirms ∷ acts) ≡ f acts
  refuses : (reason : ℕ) (acts : List RelayAct) → f (Refuses reason ∷ acts) ≡ f acts
  delivers : (bytes : List ℕ) (acts : List RelayAct) → f (Delivers bytes ∷ acts) ≡ f acts
  eof_received : (acts : List RelayAct) → f (ReceivesEof ∷ acts) ≡ f acts
  close_received : (acts : List RelayAct) → f (ReceivesClose ∷ acts) ≡ f acts
  data_sent : (bytes : List ℕ) (acts : List RelayAct) → f (SendsData bytes ∷ acts) ≡ f acts
  adjust_sent : (n : ℕ) (acts : List RelayAct) → f (SendsAdjust n ∷ acts) ≡ f acts
  eof_sent : (acts : List RelayAct) → f (SendsEof ∷ acts) ≡ f acts
  close_sent : (acts : List RelayAct) → f (SendsClose ∷ acts) ≡ f acts

of-read : IsOfSocket read
of-read = record {
  other = λ acts. refl;
  confirms = λ acts. refl;
  refuses = λ reason acts. refl;
  delivers = λ bytes acts. refl;
  eof_received = λ acts. refl;
  close_received = λ acts. refl;
  data_sent = λ bytes acts. refl;
  adjust_sent = λ n acts. refl;
  eof_sent = λ acts. refl;
  close_sent = λ acts. refl;
}

of-took : IsOfSocket socket_accepted
of-took = record {
  other = λ acts. refl;
  confirms = λ acts. refl;
  refuses = λ reason acts. refl;
  delivers = λ bytes acts. refl;
  eof_received = λ acts. refl;
  close_received = λ acts. refl;
  data_sent = λ bytes acts. refl;
  adjust_sent = λ n acts. refl;
  eof_sent = λ acts. refl;
  close_sent = λ acts. refl;
}

same-answered : (f : List RelayAct → List ℕ) → IsOfSocket f → (line : ChannelState) (act : RelayAct) (acts : List RelayAct) → f (act ∷ acts) ≡ f acts
    → f (answered_in line act ∷ acts) ≡ f acts
same-answered f k (Dialing dialog) act acts e = k.other acts
same-answered f k (Asked host port version) act acts e = k.other acts
same-answered f k (Opened version) act acts e = e
same-answered f k (Offered remote window maximum) act acts e = k.other acts
same-answered f k (Live live) act acts e = k.other acts
same-answered f k Over act acts e = k.other acts

same-in : (f : List RelayAct → List ℕ) → IsOfSocket f → (line : ChannelState) (act : RelayAct) (acts : List RelayAct) → f (act ∷ acts) ≡ f acts
    → f (received_if_live line act ∷ acts) ≡ f acts
same-in f k (Dialing dialog) act acts e = k.other acts
same-in f k (Asked host port version) act acts e = k.other acts
same-in f k (Opened version) act acts e = k.other acts
same-in f k (Offered remote window maximum) act acts e = k.other acts
same-in f k (Live live) act acts e = e
same-in f k Over act acts e = k.other acts

same-data : (f : List RelayAct → List ℕ) → IsOfSocket f → (b : Bool) (bytes : List ℕ) (acts : List RelayAct) → f ((if b then Delivers bytes else Other) ∷ acts) ≡ f acts
same-data f k true bytes acts = k.delivers bytes acts
same-data f k false bytes acts = k.other acts

same-heard : (f : List RelayAct → List ℕ) → IsOfSocket f → (m : Message) (r : Relay) (acts : List RelayAct) → f (act_received m r ∷ acts) ≡ f acts
same-heard f k (message.Transport number rest) r acts = k.other acts
same-heard f k (message.GlobalRequest name want rest what) r acts = k.other acts
same-heard f k (message.RequestSuccess rest) r acts = k.other acts
same-heard f k message.RequestFailure r acts = k.other acts
same-heard f k (message.Open kind sender window maximum rest what) r acts = k.other acts
same-heard f k (message.Confirmation recipient sender window maximum rest) r acts = same-answered f k r.line Confirms acts (k.confirms acts)
same-heard f k (message.OpenFailure recipient reason text language) r acts = same-answered f k r.line (Refuses reason) acts (k.refuses reason acts)
same-heard f k (message.Adjust recipient add) r acts = k.other acts
same-heard f k (message.Data recipient bytes) r acts = same-data f k (delivers r) bytes.now acts
same-heard f k (message.Extended recipient code bytes) r acts = k.other acts
same-heard f k (message.Eof recipient) r acts = same-in f k r.line ReceivesEof acts (k.eof_received acts)
same-heard f k (message.Close recipient) r acts = same-in f k r.line ReceivesClose acts (k.close_received acts)
same-heard f k (message.Request recipient kind want rest) r acts = k.other acts
same-heard f k (message.Success recipient) r acts = k.other acts
same-heard f k (message.Failure recipient) r acts = k.other acts

same-said : (f : List RelayAct → List ℕ) → IsOfSocket f → (s : Outgoing) (r : Relay) (acts : List RelayAct) → f (sent_act s r ∷ acts) ≡ f acts
same-said f k outgoing.Open r acts = k.other acts
same-said f k outgoing.Confirmation r acts = k.other acts
same-said f k outgoing.OpenFailure r acts = k.other acts
same-said f k outgoing.Close r acts = k.close_sent acts
same-said f k outgoing.Failure r acts = k.other acts
same-said f k (outgoing.Data n) r acts = k.data_sent _ acts
same-said f k outgoing.Eof r acts = k.eof_sent acts
same-said f k (outgoing.Adjust n) r acts = k.adjust_sent n acts

same-after : (f : List RelayAct → List ℕ) → IsOfSocket f → (o : Option Outgoing) (r : Relay) (acts : List RelayAct) → f (act_of_sending o r ∷ acts) ≡ f acts
same-after f k None r acts = k.other acts
same-after f k (Some s) r acts = same-said f k s r acts

-- ---- more calls

got-more : (s : ℕ) (calls : List HouseCall) (call : HouseCall) → got_in s (calls ++ call ∷ []) ≡ got_in s calls ++ got_call s call
got-more s [] call = append-nil (got_call s call)
got-more s (c ∷ calls) call =
    ap (λ bs. got_call s c ++ bs) (got-more s calls call) ∙ sym (append_assoc (got_call s c) (got_in s calls) (got_call s call))

took-more : (s : ℕ) (calls : List HouseCall) (call : HouseCall) → took_in s (calls ++ call ∷ []) ≡ took_in s calls ++ took_call s call
took-more s [] call = append-nil (took_call s call)
took-more s (c ∷ calls) call =
    ap (λ bs. took_call s c ++ bs) (took-more s calls call) ∙ sym (append_assoc (took_call s c) (took_in s calls) (took_call s call))

-- a call in which so much was given and accepted
of-more : (calls : List HouseCall) (call : HouseCall) (t : ℕ) (old new : List RelayAct) → read new ≡ read old ++ got_call t call
    → socket_accepted new ≡ socket_accepted old ++ took_call t call → IsOfStream calls t old → IsOfStream (calls ++ call ∷ []) t new
of-more calls call t old new e f h = record {
  before = h.before;
  birth = h.birth;
  since = h.since ++ call ∷ [];
  are = ap (λ (cs : List HouseCall). cs ++ call ∷ []) h.are ∙ append_assoc h.before (h.birth ∷ h.since) (call ∷ []);
  brings = h.brings;
  reads = e ∙ ap (λ bs. bs ++ got_call t call) h.reads ∙ sym (got-more t h.since call);
  takes = f ∙ ap (λ bs. bs ++ took_call t call) h.takes ∙ sym (took-more t h.since call);
}

of-acts : (calls : List HouseCall) (t : ℕ) (old new : List RelayAct) → read new ≡ read old → socket_accepted new ≡ socket_accepted old → IsOfStream calls t old → IsOfStream calls t new
of-acts calls t old new e f h = record {
  before = h.before;
  birth = h.birth;
  since = h.since;
  are = h.are;
  brings = h.brings;
  reads = e ∙ h.reads;
  takes = f ∙ h.takes;
}

-- nothing was
of-none : (calls : List HouseCall) (call : HouseCall) (t : ℕ) (acts : List RelayAct) → got_call t call ≡ [] → took_call t call ≡ [] → IsOfStream calls t acts
    → IsOfStream (calls ++ call ∷ []) t acts
of-none calls call t acts e f h =
    of-more calls call t acts acts (sym (append-nil (read acts)) ∙ ap (λ bs. read acts ++ bs) (sym e))
    (sym (append-nil (socket_accepted acts)) ∙ ap (λ bs. socket_accepted acts ++ bs) (sym f)) h

-- ---- of a relay

record Fresh (acts : List RelayAct) : Type 0 where
  reads : read acts ≡ []
  takes : socket_accepted acts ≡ []

abbrev FedBy : Option OwnStream → List HouseCall → RelaySocket → List RelayAct → Type 0
FedBy None calls s acts = unmade s ≡ true → Fresh acts
FedBy (Some own) calls s acts = IsOfStream calls own.number acts

abbrev Fed : List HouseCall → Life → Type 0
Fed calls l = FedBy l.own calls l.relay.socket l.acts

record Silent (t : ℕ) (call : HouseCall) : Type 0 where
  gives : got_call t call ≡ []
  takes : took_call t call ≡ []

fed-more : (calls : List HouseCall) (call : HouseCall) (o : Option OwnStream) (s : RelaySocket) (acts : List RelayAct)
    → ((own : OwnStream) → o ≡ Some own → Silent own.number call) → FedBy o calls s acts → FedBy o (calls ++ call ∷ []) s acts
fed-more calls call None s acts silent h = h
fed-more calls call (Some own) s acts silent h =
    let its = silent own refl in of-none calls call own.number acts its.gives its.takes h

fed-acts : (calls : List HouseCall) (o : Option OwnStream) (s : RelaySocket) (old new : List RelayAct) → read new ≡ read old → socket_accepted new ≡ socket_accepted old
    → FedBy o calls s old → FedBy o calls s new
fed-acts calls None s old new e f h = λ is. (let its = h is in record { reads = e ∙ its.reads; takes = f ∙ its.takes })
fed-acts calls (Some own) s old new e f h = of-acts calls own.number old new e f h

-- where its socket stays, and nothing is read or accepted
fed-on : (calls : List HouseCall) (so : Relay → Relay → Type 0) (act : RelayAct) (a b : Life) → RelayGoesBy so act a b
    → b.relay.socket ≡ a.relay.socket → read (act ∷ a.acts) ≡ read a.acts → socket_accepted (act ∷ a.acts) ≡ socket_accepted a.acts → Fed calls a → Fed calls b
fed-on calls so act a b h same e f p =
    subst (λ (o : Option OwnStream). FedBy o calls b.relay.socket b.acts) (sym h.own)
    (subst (λ (s : RelaySocket). FedBy a.own calls s b.acts) (sym same)
    (fed-acts calls a.own a.relay.socket a.acts b.acts (ap read h.acts ∙ e) (ap socket_accepted h.acts ∙ f) p))

untouched : (call : HouseCall) (old : Trace) (a : Life) → Apart (open_streams old.relay_traces) → Untouched call old a → (own : OwnStream)
    → a.own ≡ Some own → Silent own.number call
untouched (Begins starts) old a apart u own e = record { gives = refl; takes = refl }
untouched (Marks mark) old a apart u own e = record { gives = refl; takes = refl }
untouched (ReceivesBytes bytes) old a apart u own e = record { gives = refl; takes = refl }
untouched (Turns (Joined l t)) old a apart u own e = record { gives = refl; takes = refl }
untouched (Turns (Got t bytes)) old a apart u own e = record {
  gives = ap (λ (b : Bool). if b then bytes else []) (ap (is_stream t) (sym e) ∙ u apart);
  takes = refl;
}
untouched (Turns (End t)) old a apart u own e = record { gives = refl; takes = refl }
untouched (Turns (Writable t)) old a apart u own e = record { gives = refl; takes = refl }
untouched (Turns (Failed t)) old a apart u own e = record { gives = refl; takes = refl }
untouched (TakesBytes t bytes) old a apart u own e = record {
  gives = refl;
  takes = ap (λ (b : Bool). if b then bytes else []) (ap (is_stream t) (sym e) ∙ u apart);
}

gave : (t n : ℕ) (bytes : List ℕ) → (n == t) ≡ true → got_call n (Turns (Got t bytes)) ≡ bytes
gave t n bytes e = ap (λ (b : Bool). if b then bytes else []) e

was-taken : (t n : ℕ) (bytes : List ℕ) → (n == t) ≡ true → took_call n (TakesBytes t bytes) ≡ bytes
was-taken t n bytes e = ap (λ (b : Bool). if b then bytes else []) e

gets-fed : (calls : List HouseCall) (t : ℕ) (bytes : List ℕ) (o : Option OwnStream) (s s' : RelaySocket) (acts : List RelayAct) → is_stream t o ≡ true
    → FedBy o calls s acts → FedBy o (calls ++ Turns (Got t bytes) ∷ []) s' (Reads bytes ∷ acts)
gets-fed calls t bytes None s s' acts is h = cc
gets-fed calls t bytes (Some own) s s' acts is h =
    of-more calls (Turns (Got t bytes)) own.number acts (Reads bytes ∷ acts)
    (ap (λ bs. read acts ++ bs) (sym (gave t own.number bytes is))) (sym (append-nil (socket_accepted acts))) h

takes-fed : (calls : List HouseCall) (t : ℕ) (bytes : List ℕ) (o : Option OwnStream) (s s' : RelaySocket) (acts : List RelayAct) → is_stream t o ≡ true
    → FedBy o calls s acts → FedBy o (calls ++ TakesBytes t bytes ∷ []) s' (Takes bytes ∷ acts)
takes-fed calls t bytes None s s' acts is h = cc
takes-fed calls t bytes (Some own) s s' acts is h =
    of-more calls (TakesBytes t bytes) own.number acts (Takes bytes ∷ acts) (sym (append-nil (read acts)))
    (ap (λ bs. socket_accepted acts ++ bs) (sym (was-taken t own.number bytes is))) h

-- a step of a stream gives and accepts nothing
silent-step : (call : HouseCall) (s : LinkStep) (t n : ℕ) → Orders call s t → Silent n call
silent-step call (step.Pause b) t n h =
    record { gives = ap (got_call n) h.2; takes = ap (took_call n) h.2 }
silent-step call step.Finish t n h = record { gives = ap (got_call n) h.2; takes = ap (took_call n) h.2 }
silent-step call step.End t n h = record { gives = ap (got_call n) h; takes = ap (took_call n) h }
silent-step call step.Close t n h = record { gives = ap (got_call n) h.2; takes = ap (took_call n) h.2 }
silent-step call step.Writable t n h = record { gives = ap (got_call n) h; takes = ap (took_call n) h }
silent-step call step.Failed t n h = record { gives = ap (got_call n) h; takes = ap (took_call n) h }

steps-fed : (calls : List HouseCall) (call : HouseCall) (s : LinkStep) (t : ℕ) (o : Option OwnStream) (r : Relay) (acts : List RelayAct)
    → Orders call s t → is_stream t o ≡ true → FedBy o calls r.socket acts
    → FedBy (link_own_after s o) (calls ++ call ∷ []) (relay_after s r).socket (relay_act_of s ∷ acts)
steps-fed calls call s t None r acts ord is h = cc
steps-fed calls call (step.Pause b) t (Some own) r acts ord is h =
    let its = silent-step call (step.Pause b) t own.number ord in
    of-none calls call own.number (Other ∷ acts) its.gives its.takes (of-acts calls own.number acts (Other ∷ acts) refl refl h)
steps-fed calls call step.Finish t (Some own) r acts ord is h =
    let its = silent-step call step.Finish t own.number ord in
    of-none calls call own.number (Other ∷ acts) its.gives its.takes (of-acts calls own.number acts (Other ∷ acts) refl refl h)
steps-fed calls call step.End t (Some own) r acts ord is h =
    let its = silent-step call step.End t own.number ord in
    of-none calls call own.number (relay_act_of step.End ∷ acts) its.gives its.takes
    (of-acts calls own.number acts (relay_act_of step.End ∷ acts) refl refl h)
steps-fed calls call step.Close t (Some own) r acts ord is h = λ made. cc
steps-fed calls call step.Writable t (Some own) r acts ord is h =
    let its = silent-step call step.Writable t own.number ord in
    of-none calls call own.number (Other ∷ acts) its.gives its.takes (of-acts calls own.number acts (Other ∷ acts) refl refl h)
steps-fed calls call step.Failed t (Some own) r acts ord is h =
    let its = silent-step call step.Failed t own.number ord in
    of-none calls call own.number (relay_act_of step.Failed ∷ acts) its.gives its.takes
    (of-acts calls own.number acts (relay_act_of step.Failed ∷ acts) refl refl h)

unmade-none : (s : RelaySocket) → unmade s ≡ true → socket_stream_of s ≡ None
unmade-none (socket.Connecting t) e = cc
unmade-none (socket.Open t) e = cc
unmade-none socket.Unmade e = refl
unmade-none (socket.Failed t) e = cc
unmade-none (socket.NoChannelLeft t) e = cc
unmade-none socket.Closed e = cc

makes-fed : (calls : List HouseCall) (host : List ℕ) (port : ℕ) (number : Option ℕ) (o : Option OwnStream) (s : RelaySocket) (acts : List RelayAct)
    → unmade s ≡ true → None ≡ own_stream_number o → FedBy o calls s acts
    → FedBy (own_made number) (calls ++ Marks (HouseOrder (order.Connect host port) number) ∷ [])
    (made_as number) (Other ∷ acts)
makes-fed calls host port number (Some own) s acts is none h = cc
makes-fed calls host port None None s acts is none h = λ made. cc
makes-fed calls host port (Some t) None s acts is none h =
    let its = h is in
    record {
      before = calls;
      birth = Marks (HouseOrder (order.Connect host port) (Some t));
      since = [];
      are = refl;
      brings = refl;
      reads = its.reads;
      takes = its.takes;
    }

-- ---- all steps

fed : (before : List HouseCall) (call : HouseCall) (old : Trace) → Apart (open_streams old.relay_traces)
    → Passes call old (Fed before) (Fed (before ++ call ∷ []))
fed before call old apart = record {
  stays = λ a p u. fed-more before call a.own a.relay.socket a.acts (untouched call old a apart u) p;
  receives = λ m a b s p h. fed-on before _ _ a b h (ap (λ (r : Relay). r.socket) h.relay.0 ∙ (stays-heard m a.relay).socket_is)
      (same-heard read of-read m a.relay a.acts) (same-heard socket_accepted of-took m a.relay a.acts) p;
  offers = λ f number remote window maximum. λ is. record { reads = refl; takes = refl };
  says = λ bytes e a b s p is h.
      fed-more before call b.own b.relay.socket b.acts (λ own its. record { gives = ap (got_call own.number) e; takes = ap (took_call own.number) e })
      (fed-on before _ _ a b h.1 (ap (λ (r : Relay). r.socket) h.1.relay.0 ∙ (stays-after (sends_of a.relay) a.relay).socket_is)
      (same-after read of-read (sends_of a.relay) a.relay a.acts) (same-after socket_accepted of-took (sends_of a.relay) a.relay a.acts) p);
  gets = λ t bytes e a b s s' p is h.
      subst (λ (c : HouseCall). FedBy b.own (before ++ c ∷ []) b.relay.socket b.acts) (sym e)
      (subst (λ (o : Option OwnStream). FedBy o (before ++ Turns (Got t bytes) ∷ []) b.relay.socket b.acts) (sym h.own)
      (subst (λ (acts : List RelayAct). FedBy a.own (before ++ Turns (Got t bytes) ∷ []) b.relay.socket acts) (sym h.acts)
      (gets-fed before t bytes a.own a.relay.socket b.relay.socket a.acts is p)));
  takes = λ t bytes e a b s p is h.
      subst (λ (c : HouseCall). FedBy b.own (before ++ c ∷ []) b.relay.socket b.acts) (sym e)
      (subst (λ (o : Option OwnStream). FedBy o (before ++ TakesBytes t bytes ∷ []) b.relay.socket b.acts) (sym h.own)
      (subst (λ (acts : List RelayAct). FedBy a.own (before ++ TakesBytes t bytes ∷ []) b.relay.socket acts) (sym h.acts)
      (takes-fed before t bytes a.own a.relay.socket b.relay.socket a.acts is p)));
  steps = λ s t ord a sa may p is. steps-fed before call s t a.own a.relay a.acts ord is p;
  makes = λ host port number e a s p is there.
      subst (λ (c : HouseCall). Fed (before ++ c ∷ []) (made_life number a)) (sym e)
      (makes-fed before host port number a.own a.relay.socket a.acts is (sym (unmade-none a.relay.socket is) ∙ s.stream) p);
  joins = λ l t e r h.
      record { before = before; birth = call; since = []; are = refl; brings = ap made_by e; reads = refl; takes = refl };
}

-- ---- of all

of-own : (calls : List HouseCall) (o : Option OwnStream) (s : RelaySocket) (acts : List RelayAct) → FedBy o calls s acts
    → IfSome o (λ own. IsOfStream calls own.number acts)
of-own calls None s acts h = tt
of-own calls (Some own) s acts h = h

all-of : (calls : List HouseCall) (ls : List Life) → Each (Fed calls) ls → All (λ l. IfSome l.own (λ own. IsOfStream calls own.number l.acts)) ls
all-of calls [] h = All-nil (λ (l : Life). IfSome l.own (λ own. IsOfStream calls own.number l.acts))
all-of calls (l ∷ ls) h =
    All-cons (λ (x : Life). IfSome x.own (λ own. IsOfStream calls own.number x.acts)) l ls (of-own calls l.own l.relay.socket l.acts h.0)
    (all-of calls ls h.1)

pub each-has-its-stream : EachHasItsStream
each-has-its-stream calls trace h = all-of calls trace.relay_traces (pass-all Fed fed calls trace h)
