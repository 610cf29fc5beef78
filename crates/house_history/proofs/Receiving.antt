-- What the forwarder receives of what it is sent: control messages, and after the grant payloads.
use Rattle.std.proofs.Common.{◌≡◌, ◌≤◌, ◌+◌, ℕ, Bool, true, false, Option, Some, None, List, [], ◌∷◌, ◌++◌, refl, sym, ap, ◌∙◌, subst, map, append-nil, append_assoc, length, take, drop, inl, inr}
use Rattle.std.specs.Prelude.{◌≢◌, ◌⊎◌, if◌then◌else◌, find, Result, Ok, Err}
use Rattle.std.proofs.lemmas.List.{take-append-drop}
use Rattle.ssh_fields.specs.Fields.{take_u32}
use Rattle.ssh_grammar.specs.Frames.{Faulty, Frame, Front, More, first_frame, frame, frame_body, frame_payload}
use Rattle.ssh_grammar.specs.IsFrame.{IsContent}
use Rattle.ssh_grammar.specs.Messages.{Message as Said}
use Rattle.ssh_grammar.specs.ReadMessage.{read_message as reading}
use Rattle.ssh_grammar.specs.declared.fault.Bad.{Bad}
use Rattle.ssh_grammar.specs.declared.fault.BadFrame.{BadFrame}
use Rattle.ssh_grammar.specs.declared.framing.Framing.{Framing}
use Rattle.ssh_grammar.specs.declared.framing.Framing.TheVariants as framing
use Rattle.ssh_grammar.proofs.Cuts.{Extends, first-extends}
use Rattle.ssh_grammar.proofs.Frames.{first-frame}
use Rattle.conn_messages.specs.declared.message.Message.{Message}
use Rattle.conn_messages.specs.declared.message.Message.TheVariants as message
use Rattle.conn_messages.specs.declared.message.Opening.TheVariants as opens
use Rattle.conn_messages.specs.declared.key.Key.TheVariants as keys
use Rattle.proxy_frames.specs.State.{FramerState}
use Rattle.proxy_frames.specs.Steps.{answer_to, front_of, once_recorded, switched}
use Rattle.proxy_frames.specs.declared.next.Next.TheVariants as next
use Rattle.mux_outside.specs.HouseCalls.{Receives}
use Rattle.mux_history.specs.Pending.{joined}
use Rattle.house_forward.specs.Forwardings.{served_at}
use Rattle.house_forward.specs.RelayTraces.{Trace, Follows, RelayReceivesAt, ReceivesFrame, RelaysReceiveFrames, ReceivesMessage, ReceivesReading, OpensFor, cut_off, is_grant, with_received}
use Rattle.house_forward.specs.declared.forwarding.Forwarding.{Forwarding}
use Rattle.house_forward.specs.declared.forwarder_state.ForwarderStage.{ForwarderStage}
use Rattle.house_forward.specs.declared.forwarder_state.ForwarderStage.TheVariants.{Control, Proxy}
use Rattle.house_history.proofs.Lists.{Each, each-append}

-- ---- what it is sent

-- the bodies of control messages, and payloads after them
pub record Recorded : Type 0 where
  pub answers : List (List ℕ)
  pub payloads : List (List ℕ)

abbrev pub bytes-of : Recorded → List ℕ
bytes-of t = joined (map frame_body t.answers) ++ joined (map frame_payload t.payloads)

abbrev pub IsSizedAnswer : List ℕ → Type 0
IsSizedAnswer a = (4 ≤ length a) × (length a ≤ 262144)

abbrev pub IsSizedPayload : List ℕ → Type 0
IsSizedPayload p = (1 ≤ length p) × (length p + 1 ≤ 262144)

pub record IsSized (t : Recorded) : Type 0 where
  pub answers : Each IsSizedAnswer t.answers
  pub payloads : Each IsSizedPayload t.payloads

abbrev pub grants : List ℕ → Bool
grants a = is_grant (take_u32 a)

abbrev pub Plain : List ℕ → Type 0
Plain a = grants a ≡ false

-- no grant is among the answers, and no payload after them
pub record NoGrant (t : Recorded) : Type 0 where
  pub none : t.payloads ≡ []
  pub plain : Each Plain t.answers

-- the last of the answers is the grant
pub record Granted (t : Recorded) : Type 0 where
  pub front : List (List ℕ)
  pub grant : List ℕ
  pub plain : Each Plain front
  pub is : grants grant ≡ true
  pub split : t.answers ≡ front ++ grant ∷ []

abbrev pub InStage : ForwarderStage → Recorded → Type 0
InStage Control t = NoGrant t ⊎ Granted t
InStage Proxy t = t.answers ≡ []

-- the proxy is granted, or will be by what waits
abbrev pub GrantedOrProxy : ForwarderStage → Recorded → Type 0
GrantedOrProxy Control t = Granted t
GrantedOrProxy Proxy t = Unit {0}

-- neither
abbrev pub Ungranted : ForwarderStage → Recorded → Type 0
Ungranted Control t = NoGrant t
Ungranted Proxy t = ⊥

abbrev pub framing-of : ForwarderStage → Framing
framing-of Control = framing.Control
framing-of Proxy = framing.Proxy

-- what waits is all that it is sent, and is not cut yet
pub record Waits (trace : Trace) (pending : List ℕ) (t : Recorded) : Type 0 where
  pub fault : trace.framer.fault ≡ None
  pub framing : trace.framer.framing ≡ framing-of trace.stage
  pub bytes : trace.framer.rest ++ pending ≡ bytes-of t
  pub stage : InStage trace.stage t
  pub sized : IsSized t
  pub whole : answer_to (front_of trace.framer) ≢ next.Frame

-- ---- what is received

pub record SameHouse (a b : Trace) : Type 0 where
  pub relay_traces : b.relay_traces ≡ a.relay_traces
  pub past : b.past ≡ a.past
  pub joins : b.joins ≡ a.joins
  pub forwarding_state : b.forwarding_state ≡ a.forwarding_state

pub same-house : (a : Trace) → SameHouse a a
same-house a = record { relay_traces = refl; past = refl; joins = refl; forwarding_state = refl }

pub house-then : (a b c : Trace) → SameHouse a b → SameHouse b c → SameHouse a c
house-then a b c s t = record { relay_traces = t.relay_traces ∙ s.relay_traces; past = t.past ∙ s.past; joins = t.joins ∙ s.joins; forwarding_state = t.forwarding_state ∙ s.forwarding_state }

-- it receives these payloads, one after the other
abbrev pub ReceivesAll : List (List ℕ) → Trace → Trace → Type 0
ReceivesAll [] a b = SameHouse a b
ReceivesAll (p ∷ ps) a b = (a' : Trace) × (m : Trace) × SameHouse a a' × ReceivesReading (reading p) a' m × ReceivesAll ps m b

pub receives-from : (ps : List (List ℕ)) (a b c : Trace) → SameHouse a b → ReceivesAll ps b c → ReceivesAll ps a c
receives-from [] a b c s h = house-then a b c s h
receives-from (p ∷ ps) a b c s h = (h.0, h.1, house-then a b h.0 s h.2, h.3, h.4)

-- it receives the first payloads, and the others wait
pub record Heard (trace new : Trace) (pending : List ℕ) (t : Recorded) : Type 0 where
  pub heard : List (List ℕ)
  pub left : Recorded
  pub waits : Waits new pending left
  pub split : t.payloads ≡ heard ++ left.payloads
  pub goes : ReceivesAll heard trace new
  pub granted : GrantedOrProxy trace.stage t → GrantedOrProxy new.stage left
  pub ungranted : Ungranted trace.stage t → Ungranted new.stage left

-- ---- the front of what it is sent

abbrev stage-by : Bool → ForwarderStage
stage-by true = Proxy
stage-by false = Control

abbrev stage-after : ForwarderStage → List ℕ → ForwarderStage
stage-after Control a = stage-by (grants a)
stage-after Proxy p = Proxy

abbrev heard-of : ForwarderStage → List ℕ → List (List ℕ)
heard-of Control a = []
heard-of Proxy p = p ∷ []

record Comes (s : ForwarderStage) (t : Recorded) : Type 0 where
  content : List ℕ
  left : Recorded
  bytes : bytes-of t ≡ frame (framing-of s) content ++ bytes-of left
  is : IsContent (framing-of s) content
  sized : IsSized left
  stage : InStage (stage-after s content) left
  split : t.payloads ≡ heard-of s content ++ left.payloads
  granted : GrantedOrProxy s t → GrantedOrProxy (stage-after s content) left
  ungranted : Ungranted s t → Ungranted (stage-after s content) left

record Nothing (t : Recorded) : Type 0 where
  answers : t.answers ≡ []
  payloads : t.payloads ≡ []

no-split : (front : List (List ℕ)) (g : List ℕ) → [] ≡ front ++ g ∷ [] → ⊥
no-split [] g e = cc
no-split (f ∷ fs) g e = cc

of-ungranted : (s : ForwarderStage) (t : Recorded) → Ungranted s t → InStage s t
of-ungranted Control t u = inl u
of-ungranted Proxy t u = absurd u

go-ungranted : (a : List ℕ) (more ps : List (List ℕ)) → NoGrant (record { answers = a ∷ more; payloads = ps }) → Ungranted (stage-by (grants a)) (record { answers = more; payloads = ps })
go-ungranted a more ps u = subst (λ (b : Bool). Ungranted (stage-by b) (record { answers = more; payloads = ps })) (sym u.plain.0) (record { none = u.none; plain = u.plain.1 })

go-granted : (a : List ℕ) (more ps : List (List ℕ)) → Granted (record { answers = a ∷ more; payloads = ps })
    → InStage (stage-by (grants a)) (record { answers = more; payloads = ps }) × GrantedOrProxy (stage-by (grants a)) (record { answers = more; payloads = ps })
go-granted a more ps g = by_front g.front g.plain g.split
  where
    by_front : (front : List (List ℕ)) → Each Plain front → a ∷ more ≡ front ++ g.grant ∷ []
        → InStage (stage-by (grants a)) (record { answers = more; payloads = ps }) × GrantedOrProxy (stage-by (grants a)) (record { answers = more; payloads = ps })
    by_front [] plain e =
        let same : a ≡ g.grant = cc in
        let none : more ≡ [] = cc in
        let is : grants a ≡ true = ap grants same ∙ g.is in
        subst (λ (b : Bool). InStage (stage-by b) (record { answers = more; payloads = ps }) × GrantedOrProxy (stage-by b) (record { answers = more; payloads = ps })) (sym is) (none, tt)
    by_front (f ∷ fs) plain e =
        let same : a ≡ f = cc in
        let split : more ≡ fs ++ g.grant ∷ [] = cc in
        let is : grants a ≡ false = ap grants same ∙ plain.0 in
        let its : Granted (record { answers = more; payloads = ps }) = record { front = fs; grant = g.grant; plain = plain.1; is = g.is; split = split } in
        subst (λ (b : Bool). InStage (stage-by b) (record { answers = more; payloads = ps }) × GrantedOrProxy (stage-by b) (record { answers = more; payloads = ps })) (sym is) (inr its, its)

comes : (s : ForwarderStage) (answers payloads : List (List ℕ)) → InStage s (record { answers = answers; payloads = payloads }) → IsSized (record { answers = answers; payloads = payloads })
    → Nothing (record { answers = answers; payloads = payloads }) ⊎ Comes s (record { answers = answers; payloads = payloads })
comes Proxy (a ∷ more) ps e sized = absurd (let bad : a ∷ more ≡ [] = e in cc)
comes Proxy [] [] e sized = inl (record { answers = refl; payloads = refl })
comes Proxy [] (p ∷ ps) e sized = inr (record {
  content = p;
  left = record { answers = []; payloads = ps };
  bytes = sym (append_assoc (frame_payload p) [] (joined (map frame_payload ps))) ∙ ap (λ (l : List ℕ). l ++ joined (map frame_payload ps)) (append-nil (frame_payload p));
  is = sized.payloads.0;
  sized = record { answers = tt; payloads = sized.payloads.1 };
  stage = refl;
  split = refl;
  granted = λ g. tt;
  ungranted = λ u. u;
})
comes Control [] ps (inl h) sized = inl (record { answers = refl; payloads = h.none })
comes Control [] ps (inr g) sized = absurd (no-split g.front g.grant g.split)
comes Control (a ∷ more) ps h sized = inr (record {
  content = a;
  left = record { answers = more; payloads = ps };
  bytes = append_assoc (frame_body a) (joined (map frame_body more)) (joined (map frame_payload ps));
  is = sized.answers.0;
  sized = record { answers = sized.answers.1; payloads = sized.payloads };
  stage = in_stage h;
  split = refl;
  granted = λ g. (go-granted a more ps g).1;
  ungranted = λ u. go-ungranted a more ps u;
})
  where
    in_stage : InStage Control (record { answers = a ∷ more; payloads = ps }) → InStage (stage-by (grants a)) (record { answers = more; payloads = ps })
    in_stage (inl u) = of-ungranted (stage-by (grants a)) (record { answers = more; payloads = ps }) (go-ungranted a more ps u)
    in_stage (inr g) = (go-granted a more ps g).0

-- ---- a message leaves the framer and the stage

record Leaves (old new : Trace) : Type 0 where
  framer : new.framer ≡ old.framer
  stage : new.stage ≡ old.stage

leaves : (old to new : Trace) → new ≡ to → to.framer ≡ old.framer → to.stage ≡ old.stage → Leaves old new
leaves old to new e f s = record { framer = ap (λ (c : Trace). c.framer) e ∙ f; stage = ap (λ (c : Trace). c.stage) e ∙ s }

at-leaves : (n : ℕ) (m : Message) (old new : Trace) → RelayReceivesAt n m old new → Leaves old new
at-leaves n m old new (inl h) = leaves old _ new h.2 refl refl
at-leaves n m old new (inr h) = leaves old old new h.1 refl refl

opens-leaves : (o : Option Forwarding) (remote window maximum : ℕ) (old new : Trace) → OpensFor o remote window maximum old new → Leaves old new
opens-leaves None remote window maximum old new h = leaves old old new h refl refl
opens-leaves (Some f) remote window maximum old new h = leaves old _ new h.more refl refl

message-leaves : (m : Message) (old new : Trace) → ReceivesMessage m old new → Leaves old new
message-leaves (message.Transport number rest) old new h = leaves old old new h refl refl
message-leaves (message.GlobalRequest name want rest what) old new h = leaves old old new h refl refl
message-leaves (message.RequestSuccess rest) old new h = leaves old _ new h refl refl
message-leaves message.RequestFailure old new h = leaves old _ new h refl refl
message-leaves (message.Open kind sender window maximum rest opens.Session) old new h = leaves old old new h refl refl
message-leaves (message.Open kind sender window maximum rest (opens.Direct key)) old new h = leaves old old new h refl refl
message-leaves (message.Open kind sender window maximum rest (opens.Forwarded (keys.Tcp address port))) old new h =
    opens-leaves (find (served_at address.now port) old.forwarding_state.all) sender window maximum old new h
message-leaves (message.Open kind sender window maximum rest (opens.Forwarded (keys.Path path))) old new h = leaves old old new h refl refl
message-leaves (message.Open kind sender window maximum rest opens.Other) old new h = leaves old old new h refl refl
message-leaves (message.Confirmation recipient sender window maximum rest) old new h = at-leaves recipient (message.Confirmation recipient sender window maximum rest) old new h
message-leaves (message.OpenFailure recipient reason text language) old new h = at-leaves recipient (message.OpenFailure recipient reason text language) old new h
message-leaves (message.Adjust recipient add) old new h = at-leaves recipient (message.Adjust recipient add) old new h
message-leaves (message.Data recipient bytes) old new h = at-leaves recipient (message.Data recipient bytes) old new h
message-leaves (message.Extended recipient code bytes) old new h = at-leaves recipient (message.Extended recipient code bytes) old new h
message-leaves (message.Eof recipient) old new h = at-leaves recipient (message.Eof recipient) old new h
message-leaves (message.Close recipient) old new h = at-leaves recipient (message.Close recipient) old new h
message-leaves (message.Request recipient kind want rest) old new h = at-leaves recipient (message.Request recipient kind want rest) old new h
message-leaves (message.Success recipient) old new h = at-leaves recipient (message.Success recipient) old new h
message-leaves (message.Failure recipient) old new h = at-leaves recipient (message.Failure recipient) old new h

reading-leaves : (r : Result Said Bad) (old new : Trace) → ReceivesReading r old new → Leaves old new
reading-leaves (Err bad) old new h = leaves old old new h refl refl
reading-leaves (Ok said) old new h = message-leaves h.0 old new h.2

-- ---- the front of what waits

-- as Waits, but a whole frame may be there
record Ready (trace : Trace) (pending : List ℕ) (t : Recorded) : Type 0 where
  fault : trace.framer.fault ≡ None
  framing : trace.framer.framing ≡ framing-of trace.stage
  bytes : trace.framer.rest ++ pending ≡ bytes-of t
  stage : InStage trace.stage t
  sized : IsSized t

front-untold : (f : FramerState) (k : Framing) → f.fault ≡ None → f.framing ≡ k → front_of f ≡ first_frame k f.rest
front-untold f k e is = ap (λ (t : Option BadFrame). once_recorded t Faulty (first_frame f.framing f.rest)) e ∙ ap (λ (j : Framing). first_frame j f.rest) is

first-empty : (k : Framing) → first_frame k [] ≡ More
first-empty k = refl

empty-front : (a b : List ℕ) → a ++ b ≡ [] → a ≡ []
empty-front [] b e = refl
empty-front (x ∷ a) b e = absurd cc

nothing-bytes : (t : Recorded) → Nothing t → bytes-of t ≡ []
nothing-bytes t n = ap (λ (l : List (List ℕ)). joined (map frame_body l) ++ joined (map frame_payload t.payloads)) n.answers ∙ ap (λ (l : List (List ℕ)). joined (map frame_payload l)) n.payloads

-- a front that is there is that of all that it is sent
record IsRecorded (s : ForwarderStage) (t : Recorded) (content rest : List ℕ) : Type 0 where
  comes : Comes s t
  same : comes.content ≡ content
  bytes : rest ≡ bytes-of comes.left

ready-nothing : (c : Trace) (pending : List ℕ) (t : Recorded) → Ready c pending t → Nothing t → front_of c.framer ≡ More
ready-nothing c pending t r n =
    front-untold c.framer (framing-of c.stage) r.fault r.framing
    ∙ (ap (first_frame (framing-of c.stage)) (empty-front c.framer.rest pending (r.bytes ∙ nothing-bytes t n)) ∙ first-empty (framing-of c.stage))

ready-first : (c : Trace) (pending : List ℕ) (t : Recorded) (r : Ready c pending t) (f : Comes c.stage t) → first_frame (framing-of c.stage) (c.framer.rest ++ pending) ≡ Frame f.content (bytes-of f.left)
ready-first c pending t r f = ap (first_frame (framing-of c.stage)) (r.bytes ∙ f.bytes) ∙ first-frame (framing-of c.stage) f.content (bytes-of f.left) f.is

ready-extends : (c : Trace) (pending : List ℕ) (t : Recorded) (front : Front) → Ready c pending t → front_of c.framer ≡ front → Extends pending front (first_frame (framing-of c.stage) (c.framer.rest ++ pending))
ready-extends c pending t front r e =
    subst (λ (g : Front). Extends pending g (first_frame (framing-of c.stage) (c.framer.rest ++ pending)))
    (sym (front-untold c.framer (framing-of c.stage) r.fault r.framing) ∙ e) (first-extends (framing-of c.stage) c.framer.rest pending)

recorded-front : (c : Trace) (pending : List ℕ) (t : Recorded) (content rest : List ℕ) → Ready c pending t → front_of c.framer ≡ Frame content rest → IsRecorded c.stage t content (rest ++ pending)
recorded-front c pending t content rest r e = by_recorded (comes c.stage t.answers t.payloads r.stage r.sized)
  where
    by_recorded : (Nothing t ⊎ Comes c.stage t) → IsRecorded c.stage t content (rest ++ pending)
    by_recorded (inl n) = absurd (let more = ready-nothing c pending t r n in cc)
    by_recorded (inr f) =
        let first = ready-first c pending t r f in
        let is : first_frame (framing-of c.stage) (c.framer.rest ++ pending) ≡ Frame content (rest ++ pending) = ready-extends c pending t (Frame content rest) r e in
        let both : Frame f.content (bytes-of f.left) ≡ Frame content (rest ++ pending) = sym first ∙ is in
        record { comes = f; same = cc; bytes = cc }

no-fault : (c : Trace) (pending : List ℕ) (t : Recorded) (bad : BadFrame) → Ready c pending t → front_of c.framer ≡ Faulty bad → ⊥
no-fault c pending t bad r e = by_recorded (comes c.stage t.answers t.payloads r.stage r.sized)
  where
    by_recorded : (Nothing t ⊎ Comes c.stage t) → ⊥
    by_recorded (inl n) = let more = ready-nothing c pending t r n in cc
    by_recorded (inr f) =
        let first = ready-first c pending t r f in
        let is : first_frame (framing-of c.stage) (c.framer.rest ++ pending) ≡ Faulty bad = ready-extends c pending t (Faulty bad) r e in
        cc

-- ---- frame by frame

-- where no frame is whole all stays
stays : (c new : Trace) (pending : List ℕ) (t : Recorded) → Ready c pending t → (answer_to (front_of c.framer) ≢ next.Frame) → new ≡ cut_off (front_of c.framer) c → Heard c new pending t
stays c new pending t r whole e = by_front (front_of c.framer) refl
  where
    heard : (to : Trace) → to ≡ cut_off More c → Heard c to pending t
    heard to is = subst (λ (n : Trace). Heard c n pending t) (sym is) (record {
      heard = [];
      left = t;
      waits = record { fault = r.fault; framing = r.framing; bytes = r.bytes; stage = r.stage; sized = r.sized; whole = whole };
      split = refl;
      goes = record { relay_traces = refl; past = refl; joins = refl; forwarding_state = refl };
      granted = λ g. g;
      ungranted = λ u. u;
    })

    by_front : (front : Front) → front_of c.framer ≡ front → Heard c new pending t
    by_front (Frame content rest) f = absurd (whole (ap answer_to f))
    by_front More f = heard new (e ∙ ap (λ (g : Front). cut_off g c) f)
    by_front (Faulty bad) f = absurd (no-fault c pending t bad r f)

-- one frame is received, and then others
record Step (c middle : Trace) (pending : List ℕ) (t : Recorded) : Type 0 where
  heard : List (List ℕ)
  left : Recorded
  ready : Ready middle pending left
  split : t.payloads ≡ heard ++ left.payloads
  goes : (ps : List (List ℕ)) (b : Trace) → ReceivesAll ps middle b → ReceivesAll (heard ++ ps) c b
  granted : GrantedOrProxy c.stage t → GrantedOrProxy middle.stage left
  ungranted : Ungranted c.stage t → Ungranted middle.stage left

step : (c middle : Trace) (pending : List ℕ) (t : Recorded) (content rest : List ℕ) → Ready c pending t → front_of c.framer ≡ Frame content rest
    → ReceivesFrame c.stage content (cut_off (Frame content rest) c) middle → Step c middle pending t
step c middle pending t content rest r e h = by_stage c.stage refl (recorded-front c pending t content rest r e) h
  where
    by_grant : (b : Bool) → (f : IsRecorded Control t content (rest ++ pending)) → c.stage ≡ Control → grants content ≡ b
        → middle ≡ (if b then record (cut_off (Frame content rest) c) { stage = Proxy; framer = switched framing.Proxy (cut_off (Frame content rest) c).framer } else cut_off (Frame content rest) c)
        → Step c middle pending t
    by_grant true f s g is =
        let same : grants f.comes.content ≡ true = ap grants f.same ∙ g in
        let goes-on : stage-by (grants f.comes.content) ≡ Proxy = ap stage-by same in
        subst (λ (m : Trace). Step c m pending t) (sym is) (record {
          heard = [];
          left = f.comes.left;
          ready = record {
            fault = r.fault;
            framing = refl;
            bytes = f.bytes;
            stage = subst (λ (x : ForwarderStage). InStage x f.comes.left) goes-on f.comes.stage;
            sized = f.comes.sized;
          };
          split = f.comes.split;
          goes = λ ps b h. receives-from ps c _ b (record { relay_traces = refl; past = refl; joins = refl; forwarding_state = refl }) h;
          granted = λ g. tt;
          ungranted = λ u. subst (λ (x : ForwarderStage). Ungranted x f.comes.left) goes-on (f.comes.ungranted (subst (λ (x : ForwarderStage). Ungranted x t) s u));
        })
    by_grant false f s g is =
        let same : grants f.comes.content ≡ false = ap grants f.same ∙ g in
        let goes-on : stage-by (grants f.comes.content) ≡ c.stage = ap stage-by same ∙ sym s in
        subst (λ (m : Trace). Step c m pending t) (sym is) (record {
          heard = [];
          left = f.comes.left;
          ready = record {
            fault = r.fault;
            framing = r.framing;
            bytes = f.bytes;
            stage = subst (λ (x : ForwarderStage). InStage x f.comes.left) goes-on f.comes.stage;
            sized = f.comes.sized;
          };
          split = f.comes.split;
          goes = λ ps b h. receives-from ps c _ b (record { relay_traces = refl; past = refl; joins = refl; forwarding_state = refl }) h;
          granted = λ g. subst (λ (x : ForwarderStage). GrantedOrProxy x f.comes.left) goes-on (f.comes.granted (subst (λ (x : ForwarderStage). GrantedOrProxy x t) s g));
          ungranted = λ u. subst (λ (x : ForwarderStage). Ungranted x f.comes.left) goes-on (f.comes.ungranted (subst (λ (x : ForwarderStage). Ungranted x t) s u));
        })

    by_stage : (s : ForwarderStage) → c.stage ≡ s → IsRecorded s t content (rest ++ pending) → ReceivesFrame s content (cut_off (Frame content rest) c) middle → Step c middle pending t
    by_stage Control s f h = by_grant (grants content) f s refl h
    by_stage Proxy s f h =
        let l = reading-leaves (reading content) (cut_off (Frame content rest) c) middle h in
        let here : middle.stage ≡ Proxy = l.stage ∙ s in
        record {
          heard = content ∷ [];
          left = f.comes.left;
          ready = record {
            fault = ap (λ (x : FramerState). x.fault) l.framer ∙ r.fault;
            framing = ap (λ (x : FramerState). x.framing) l.framer ∙ (r.framing ∙ ap framing-of (sym l.stage));
            bytes = ap (λ (x : FramerState). x.rest ++ pending) l.framer ∙ f.bytes;
            stage = subst (λ (x : ForwarderStage). InStage x f.comes.left) (sym here) f.comes.stage;
            sized = f.comes.sized;
          };
          split = f.comes.split ∙ ap (λ (x : List ℕ). x ∷ f.comes.left.payloads) f.same;
          goes = λ ps b on. (cut_off (Frame content rest) c, middle, record { relay_traces = refl; past = refl; joins = refl; forwarding_state = refl }, h, on);
          granted = λ g. subst (λ (x : ForwarderStage). GrantedOrProxy x f.comes.left) (sym here) tt;
          ungranted = λ u. absurd (subst (λ (x : ForwarderStage). Ungranted x t) s u);
        }

runs : (contents : List (List ℕ)) (c new : Trace) (pending : List ℕ) (t : Recorded) → Ready c pending t → RelaysReceiveFrames contents c new → Heard c new pending t
runs [] c new pending t r h = stays c new pending t r h.0 h.1
runs (content ∷ more) c new pending t r h =
    let s = step c h.2.0 pending t content h.0 r h.1 h.2.1 in
    let on = runs more h.2.0 new pending s.left s.ready h.2.2 in
    record {
      heard = s.heard ++ on.heard;
      left = on.left;
      waits = on.waits;
      split = s.split ∙ (ap (λ (l : List (List ℕ)). s.heard ++ l) on.split ∙ sym (append_assoc s.heard on.heard on.left.payloads));
      goes = s.goes on.heard new on.goes;
      granted = λ g. on.granted (s.granted g);
      ungranted = λ u. on.ungranted (s.ungranted u);
    }

-- what it is given of what waits it receives, as far as frames are whole
pub receives : (trace new : Trace) (n : ℕ) (pending : List ℕ) (t : Recorded) → Waits trace pending t → Follows (Receives (take n pending)) trace new → Heard trace new (drop n pending) t
receives trace new n pending t w h =
    let ready : Ready (with_received (take n pending) trace) (drop n pending) t = record {
      fault = w.fault;
      framing = w.framing;
      bytes = append_assoc trace.framer.rest (take n pending) (drop n pending) ∙ (ap (λ (l : List ℕ). trace.framer.rest ++ l) (take-append-drop n pending) ∙ w.bytes);
      stage = w.stage;
      sized = w.sized;
    } in
    let on = runs h.0 (with_received (take n pending) trace) new (drop n pending) t ready h.1 in
    record {
      heard = on.heard;
      left = on.left;
      waits = on.waits;
      split = on.split;
      goes = receives-from on.heard trace (with_received (take n pending) trace) new (record { relay_traces = refl; past = refl; joins = refl; forwarding_state = refl }) on.goes;
      granted = on.granted;
      ungranted = on.ungranted;
    }

-- ---- nothing waits

ready-of : (trace : Trace) (pending : List ℕ) (t : Recorded) → Waits trace pending t → Ready trace pending t
ready-of trace pending t w = record { fault = w.fault; framing = w.framing; bytes = w.bytes; stage = w.stage; sized = w.sized }

pub none-left : (trace : Trace) (t : Recorded) → Waits trace [] t → (t.answers ≡ []) × (t.payloads ≡ [])
none-left trace t w = by_recorded (comes trace.stage t.answers t.payloads w.stage w.sized)
  where
    by_recorded : (Nothing t ⊎ Comes trace.stage t) → (t.answers ≡ []) × (t.payloads ≡ [])
    by_recorded (inl n) = (n.answers, n.payloads)
    by_recorded (inr f) = absurd (w.whole (ap answer_to (
        front-untold trace.framer (framing-of trace.stage) w.fault w.framing
        ∙ (ap (first_frame (framing-of trace.stage)) (sym (append-nil trace.framer.rest)) ∙ ready-first trace [] t (ready-of trace [] t w) f))))

pub rest-none : (trace : Trace) (t : Recorded) → Waits trace [] t → trace.framer.rest ≡ []
rest-none trace t w =
    let n = none-left trace t w in
    empty-front trace.framer.rest [] (w.bytes ∙ nothing-bytes t (record { answers = n.0; payloads = n.1 }))

-- ---- more is sent to it

joined-one : (to : List ℕ → List ℕ) (xs : List (List ℕ)) (x : List ℕ) → joined (map to (xs ++ x ∷ [])) ≡ joined (map to xs) ++ to x
joined-one to [] x = append-nil (to x)
joined-one to (y ∷ xs) x = ap (λ (l : List ℕ). to y ++ l) (joined-one to xs x) ∙ sym (append_assoc (to y) (joined (map to xs)) (to x))

pub recorded-more : (trace : Trace) (pending : List ℕ) (t : Recorded) (p : List ℕ) → Waits trace pending t → GrantedOrProxy trace.stage t
    → 1 ≤ length p → length p + 1 ≤ 262144 → Waits trace (pending ++ frame_payload p) (record t { payloads = t.payloads ++ p ∷ [] })
recorded-more trace pending t p w g low high = record {
  fault = w.fault;
  framing = w.framing;
  bytes = sym (append_assoc trace.framer.rest pending (frame_payload p))
      ∙ (ap (λ (l : List ℕ). l ++ frame_payload p) w.bytes
      ∙ (append_assoc (joined (map frame_body t.answers)) (joined (map frame_payload t.payloads)) (frame_payload p)
      ∙ ap (λ (l : List ℕ). joined (map frame_body t.answers) ++ l) (sym (joined-one frame_payload t.payloads p))));
  stage = by_stage trace.stage w.stage g;
  sized = record { answers = w.sized.answers; payloads = each-append IsSizedPayload t.payloads (p ∷ []) w.sized.payloads ((low, high), tt) };
  whole = w.whole;
}
  where
    by_stage : (s : ForwarderStage) → InStage s t → GrantedOrProxy s t → InStage s (record t { payloads = t.payloads ++ p ∷ [] })
    by_stage Control i g = inr (record { front = g.front; grant = g.grant; plain = g.plain; is = g.is; split = g.split })
    by_stage Proxy i g = i

-- whether payloads may follow stays so
pub more-granted : (s : ForwarderStage) (t : Recorded) (p : List ℕ) → GrantedOrProxy s t → GrantedOrProxy s (record t { payloads = t.payloads ++ p ∷ [] })
more-granted Control t p g = record { front = g.front; grant = g.grant; plain = g.plain; is = g.is; split = g.split }
more-granted Proxy t p g = tt

-- an answer that is the grant
pub answer-granted : (t : Recorded) (a : List ℕ) → NoGrant t → grants a ≡ true → Granted (record t { answers = t.answers ++ a ∷ [] })
answer-granted t a u is = record { front = t.answers; grant = a; plain = u.plain; is = is; split = refl }

-- and one that isn't
pub answer-plain : (t : Recorded) (a : List ℕ) → NoGrant t → grants a ≡ false → NoGrant (record t { answers = t.answers ++ a ∷ [] })
answer-plain t a u is = record { none = u.none; plain = each-append Plain t.answers (a ∷ []) u.plain (is, tt) }

pub recorded-answer : (trace : Trace) (pending : List ℕ) (t : Recorded) (a : List ℕ) → Waits trace pending t → trace.stage ≡ Control → NoGrant t
    → 4 ≤ length a → length a ≤ 262144 → Waits trace (pending ++ frame_body a) (record t { answers = t.answers ++ a ∷ [] })
recorded-answer trace pending t a w s u low high = record {
  fault = w.fault;
  framing = w.framing;
  bytes = sym (append_assoc trace.framer.rest pending (frame_body a))
      ∙ (ap (λ (l : List ℕ). l ++ frame_body a) (w.bytes ∙ (ap (λ (l : List (List ℕ)). joined (map frame_body t.answers) ++ joined (map frame_payload l)) u.none ∙ append-nil (joined (map frame_body t.answers))))
      ∙ (sym (joined-one frame_body t.answers a)
      ∙ (sym (append-nil (joined (map frame_body (t.answers ++ a ∷ []))))
      ∙ ap (λ (l : List (List ℕ)). joined (map frame_body (t.answers ++ a ∷ [])) ++ joined (map frame_payload l)) (sym u.none))));
  stage = subst (λ (x : ForwarderStage). InStage x (record t { answers = t.answers ++ a ∷ [] })) (sym s) (by_grant (grants a) refl);
  sized = record { answers = each-append IsSizedAnswer t.answers (a ∷ []) w.sized.answers ((low, high), tt); payloads = w.sized.payloads };
  whole = w.whole;
}
  where
    by_grant : (b : Bool) → grants a ≡ b → InStage Control (record t { answers = t.answers ++ a ∷ [] })
    by_grant true is = inr (answer-granted t a u is)
    by_grant false is = inl (answer-plain t a u is)

-- ---- only the framer and the stage are looked at

pub waits-same : (a b : Trace) (pending : List ℕ) (t : Recorded) → b.framer ≡ a.framer → b.stage ≡ a.stage → Waits a pending t → Waits b pending t
waits-same a b pending t f s w = record {
  fault = ap (λ (x : FramerState). x.fault) f ∙ w.fault;
  framing = ap (λ (x : FramerState). x.framing) f ∙ (w.framing ∙ ap framing-of (sym s));
  bytes = ap (λ (x : FramerState). x.rest ++ pending) f ∙ w.bytes;
  stage = subst (λ (x : ForwarderStage). InStage x t) (sym s) w.stage;
  sized = w.sized;
  whole = λ e. w.whole (ap (λ (x : FramerState). answer_to (front_of x)) (sym f) ∙ e);
}
