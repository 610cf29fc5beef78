-- What a forwarder sends that greets first: the two messages of the greeting, and after them frames
-- of SSH messages.
use Rattle.std.proofs.Common.{◌≡◌, ℕ, zero, suc, Bool, true, false, List, [], ◌∷◌, ◌++◌, length, map, drop, Option, Some, None, refl, sym, ap, ◌∙◌, subst, inl, inr, ◌⊎◌, append_assoc, append-nil, cond}
use Rattle.std.specs.Prelude.{◌==◌}
use Rattle.std.specs.List.{list_any}
use Rattle.ssh_grammar.specs.declared.fault.BadFrame.{BadFrame}
use Rattle.ssh_grammar.specs.declared.framing.Framing.TheVariants as framing
use Rattle.ssh_grammar.specs.Frames.{cut}
use Rattle.ssh_grammar.specs.Laws.{faults}
use Rattle.ssh_grammar.specs.Said.{Outgoing, Body, Payload, BadFraming, InControl, InProxy, Parsed, parse, said}
use Rattle.ssh_grammar.proofs.Parses.{parse-append}
use Rattle.ssh_grammar.proofs.Said.{payloads}
use Rattle.mux_outside.specs.Greeting.{GreetsFirst}
use Rattle.mux_outside.specs.HouseCalls.{Begins, Receives, HouseCall, Marks, Takes, Turns}
use Rattle.mux_outside.specs.HouseCalls as call
use Rattle.mux_outside.specs.OwnStreams.{is_own}
use Rattle.mux_outside.specs.declared.greeting.TheConstants.{GREETING}
use Rattle.mux_outside.specs.declared.house_mark.HouseMark.{HouseMark}
use Rattle.mux_outside.specs.declared.house_mark.HouseMark.TheVariants.{HouseIn, HouseSaid, HouseTook, HouseAsked, HouseAnswer, HouseOrder}
use Rattle.mux_outside.specs.declared.mark.Mark.{Mark}
use Rattle.mux_outside.specs.declared.mark.Mark.TheVariants as mark
use Rattle.mux_history.specs.declared.limits.TheConstants.{HOUSE}
use Rattle.mux_history.specs.Journal.{bytes_in, bytes_of, house_sent, log_of_journal}
use Rattle.mux_history.specs.Log.{Setting}
use Rattle.mux_history.specs.Pending.{pending}
use Rattle.mux_history.specs.Promises.{Throughout}
use Rattle.mux_engine.specs.Called.{calls_at, calls_in, house_calls, is_piece}
use Rattle.mux_engine.specs.Places.{IsOfOthers}

-- ---- what the forwarder sent, by its calls

abbrev piece : HouseCall → List ℕ
piece (Marks (HouseSaid bytes)) = bytes
piece call = []

abbrev pieces : List HouseCall → List ℕ
pieces [] = []
pieces (call ∷ later) = piece call ++ pieces later

pieces-append : (a b : List HouseCall) → pieces (a ++ b) ≡ pieces a ++ pieces b
pieces-append [] b = refl
pieces-append (call ∷ a) b = ap (λ l. piece call ++ l) (pieces-append a b) ∙ sym (append_assoc (piece call) (pieces a) (pieces b))

own-pieces : (b : Bool) (one : HouseCall) → piece one ≡ [] → pieces (cond b (one ∷ []) []) ≡ []
own-pieces true one none = ap (λ l. l ++ []) none
own-pieces false one none = refl

-- the forwarder itself has no stream that gives anything
other-bytes : (t : ℕ) (bytes : List ℕ) → (t == HOUSE) ≡ false → bytes_in HOUSE (mark.Gets t bytes) ≡ []
other-bytes t bytes other = ap (λ b. elim b as (λ _. List ℕ) [ true ↦ bytes | false ↦ [] ]) other

house-pieces : (waiting : List ℕ) (m : HouseMark) → pieces (house_calls waiting m) ≡ house_sent m
house-pieces waiting HouseIn = refl
house-pieces waiting (HouseSaid bytes) = append-nil bytes
house-pieces waiting (HouseTook size) = refl
house-pieces waiting (HouseAsked client id opening ask reply) = refl
house-pieces waiting (HouseAnswer client id reply) = refl
house-pieces waiting (HouseOrder order number) = refl

mark-pieces : (set : Setting) (before : List Mark) (m : Mark) → IsOfOthers before m → pieces (calls_at set before m) ≡ bytes_in HOUSE m
mark-pieces set before (mark.Waits waiting want streams shown) others = refl
mark-pieces set before (mark.Accepts k) others = refl
mark-pieces set before (mark.Gets t bytes) others = own-pieces (is_own t) (Turns (call.Got t bytes)) refl ∙ sym (other-bytes t bytes others)
mark-pieces set before (mark.Ends t) others = own-pieces (is_own t) (Turns (call.End t)) refl
mark-pieces set before (mark.Frees t) others = own-pieces (is_own t) (Turns (call.Writable t)) refl
mark-pieces set before (mark.Fails t) others = own-pieces (is_own t) (Turns (call.Failed t)) refl
mark-pieces set before (mark.Takes t bytes accepts) others = own-pieces (is_own t) (Takes t bytes) refl
mark-pieces set before (mark.Holds t) others = refl
mark-pieces set before (mark.WriteFails t) others = own-pieces (is_own t) (Turns (call.Failed t)) refl
mark-pieces set before (mark.Joins l t) others = refl
mark-pieces set before (mark.House m) others = house-pieces (pending HOUSE (log_of_journal set before)) m

journal-pieces : (set : Setting) (journal : List Mark) → Throughout IsOfOthers journal → bytes_of HOUSE journal ≡ pieces (calls_in set journal)
journal-pieces set [] others = refl
journal-pieces set (m ∷ before) others =
    ap (λ l. l ++ bytes_in HOUSE m) (journal-pieces set before others.1)
    ∙ (ap (λ l. pieces (calls_in set before) ++ l) (sym (mark-pieces set before m others.0)) ∙ sym (pieces-append (calls_in set before) (calls_at set before m)))

-- ---- which greet first

pub greets-before : (a b : List HouseCall) → GreetsFirst (a ++ b) → GreetsFirst a
greets-before [] b h = tt
greets-before (Begins starts ∷ a) b h = greets-before a b h
greets-before (Marks HouseIn ∷ a) b h = greets-before a b h
greets-before (Marks (HouseSaid bytes) ∷ a) b h = h
greets-before (Marks (HouseTook size) ∷ a) b h = greets-before a b h
greets-before (Marks (HouseAsked client id opening ask reply) ∷ a) b h = greets-before a b h
greets-before (Marks (HouseAnswer client id reply) ∷ a) b h = greets-before a b h
greets-before (Marks (HouseOrder order number) ∷ a) b h = greets-before a b h
greets-before (Receives bytes ∷ a) b h = greets-before a b h
greets-before (Turns happening ∷ a) b h = greets-before a b h
greets-before (Takes stream bytes ∷ a) b h = greets-before a b h

-- after calls of which none gave a piece
pub greets-behind : (a b : List HouseCall) → list_any is_piece a ≡ false → GreetsFirst (a ++ b) → GreetsFirst b
greets-behind [] b none h = h
greets-behind (Begins starts ∷ a) b none h = greets-behind a b none h
greets-behind (Marks HouseIn ∷ a) b none h = greets-behind a b none h
greets-behind (Marks (HouseSaid bytes) ∷ a) b none h = absurd (cc)
greets-behind (Marks (HouseTook size) ∷ a) b none h = greets-behind a b none h
greets-behind (Marks (HouseAsked client id opening ask reply) ∷ a) b none h = greets-behind a b none h
greets-behind (Marks (HouseAnswer client id reply) ∷ a) b none h = greets-behind a b none h
greets-behind (Marks (HouseOrder order number) ∷ a) b none h = greets-behind a b none h
greets-behind (Receives bytes ∷ a) b none h = greets-behind a b none h
greets-behind (Turns happening ∷ a) b none h = greets-behind a b none h
greets-behind (Takes stream bytes ∷ a) b none h = greets-behind a b none h

-- nothing, or the greeting and more
abbrev pub Greeting : List ℕ → Type 0
Greeting bytes = (bytes ≡ []) ⊎ ((rest : List ℕ) × (bytes ≡ GREETING.now ++ rest))

greeting-pieces : (calls : List HouseCall) → GreetsFirst calls → Greeting (pieces calls)
greeting-pieces [] h = inl refl
greeting-pieces (Begins starts ∷ later) h = greeting-pieces later h
greeting-pieces (Marks HouseIn ∷ later) h = greeting-pieces later h
greeting-pieces (Marks (HouseSaid bytes) ∷ later) h = inr (pieces later, ap (λ l. l ++ pieces later) h)
greeting-pieces (Marks (HouseTook size) ∷ later) h = greeting-pieces later h
greeting-pieces (Marks (HouseAsked client id opening ask reply) ∷ later) h = greeting-pieces later h
greeting-pieces (Marks (HouseAnswer client id reply) ∷ later) h = greeting-pieces later h
greeting-pieces (Marks (HouseOrder order number) ∷ later) h = greeting-pieces later h
greeting-pieces (Receives bytes ∷ later) h = greeting-pieces later h
greeting-pieces (Turns happening ∷ later) h = greeting-pieces later h
greeting-pieces (Takes stream bytes ∷ later) h = greeting-pieces later h

pub journal-greets : (set : Setting) (journal : List Mark) → Throughout IsOfOthers journal → GreetsFirst (calls_in set journal) → Greeting (bytes_of HOUSE journal)
journal-greets set journal others greets = subst Greeting (sym (journal-pieces set journal others)) (greeting-pieces (calls_in set journal) greets)

-- ---- what is sent so

-- it is so of all that is sent
abbrev pub AllSo : (Outgoing → Type 0) → List Outgoing → Type 0
AllSo So [] = Unit {0}
AllSo So (x ∷ xs) = So x × AllSo So xs

pub so-drop : (So : Outgoing → Type 0) (n : ℕ) (xs : List Outgoing) → AllSo So xs → AllSo So (drop n xs)
so-drop So zero xs h = h
so-drop So (suc n) [] h = tt
so-drop So (suc n) (x ∷ xs) h = so-drop So n xs h.1

-- the two messages of the greeting
abbrev pub hello : List ℕ
hello = 0 ∷ 0 ∷ 0 ∷ 1 ∷ 0 ∷ 0 ∷ 0 ∷ 4 ∷ []

abbrev pub proxy : List ℕ
proxy = 16 ∷ 0 ∷ 0 ∷ 15 ∷ 0 ∷ 0 ∷ 0 ∷ 0 ∷ []

said-behind : (rest : List ℕ) → said (GREETING.now ++ rest) ≡ Body hello ∷ Body proxy ∷ (parse InProxy rest).says
said-behind rest = ap (λ (p : Parsed). p.says) (parse-append InControl GREETING.now rest)

-- these alone are messages of the control protocol
module _ (So : Outgoing → Type 0) (so-hello : So (Body hello)) (so-proxy : So (Body proxy)) (so-payload : (p : List ℕ) → So (Payload p)) (so-fault : (fault : BadFrame) → So (BadFraming fault)) where
  so-faults : (fault : Option BadFrame) → AllSo So (faults fault)
  so-faults None = tt
  so-faults (Some fault) = (so-fault fault, tt)

  so-payloads : (payloads : List (List ℕ)) (fault : Option BadFrame) → AllSo So (map Payload payloads ++ faults fault)
  so-payloads [] fault = so-faults fault
  so-payloads (p ∷ payloads) fault = (so-payload p, so-payloads payloads fault)

  so-proxied : (bytes : List ℕ) → AllSo So (parse InProxy bytes).says
  so-proxied bytes = subst (AllSo So) (sym (payloads bytes)) (so-payloads (cut framing.Proxy bytes).frames (cut framing.Proxy bytes).fault)

  pub so-said : (bytes : List ℕ) → Greeting bytes → AllSo So (said bytes)
  so-said bytes (inl none) = subst (λ l. AllSo So (said l)) (sym none) tt
  so-said bytes (inr more) = subst (λ l. AllSo So (said l)) (sym more.1) (subst (AllSo So) (sym (said-behind more.0)) (so-hello, (so-proxy, so-proxied more.0)))
