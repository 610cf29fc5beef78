-- Lines that are shown one after the other.
use Rattle.std.proofs.Common.{◌≡◌, ◌≢◌, ◌∙◌, refl, sym, ap, subst, ℕ, List, [], ◌∷◌, ◌++◌, Option, Some, None, append_assoc}
use Rattle.std.specs.Option.{option_map}
use Rattle.std.proofs.lemmas.List.{append-nil}
use Rattle.mux_outside.specs.declared.mark.Mark.{Mark}
use Rattle.mux_client.specs.declared.asks.Asks.{Asks}
use Rattle.mux_client.specs.declared.talked.Talked.{Talked}
use Rattle.mux_client.specs.declared.talked.Talked.TheVariants as talked
use Rattle.mux_client.specs.Client.{TalkState}
use Rattle.mux_client.specs.Talking.{Talking, IsTalk, IsCutLine, ShowsOn, ShowsLast}
use Rattle.mux_client.proofs.TalkSteps.{talk-faulted, talk-starved}

put-none : (recorded : Option (List ℕ)) → recorded ≡ option_map (λ b. b ++ []) recorded
put-none None = refl
put-none (Some b) = ap (λ (l : List ℕ). Some l) (sym (append-nil b))

put-two : (a b c : Option (List ℕ)) (x y : List ℕ) → b ≡ option_map (λ l. l ++ x) a → c ≡ option_map (λ l. l ++ y) b → c ≡ option_map (λ l. l ++ (x ++ y)) a
put-two None b c x y e f = f ∙ ap (option_map (λ (l : List ℕ). l ++ y)) e
put-two (Some a) b c x y e f = f ∙ ap (option_map (λ (l : List ℕ). l ++ y)) e ∙ ap (λ (l : List ℕ). Some l) (append_assoc a x y)

append-empty-left : (x y : List ℕ) → x ++ y ≡ [] → x ≡ []
append-empty-left [] y e = refl
append-empty-left (a ∷ x) y e = absurd (let z : a ∷ (x ++ y) ≡ [] = e in cc)

append-empty-right : (x y : List ℕ) → x ++ y ≡ [] → y ≡ []
append-empty-right [] y e = e
append-empty-right (a ∷ x) y e = absurd (let z : a ∷ (x ++ y) ≡ [] = e in cc)

-- ---- nothing was shown

pub shows-none : {V : Type 0} (recorded : Option (List ℕ)) (out : V) (Holds : List ℕ → Type 0) → Holds [] → ShowsOn recorded recorded out out Holds
shows-none recorded out Holds h = record { more = []; put = put-none recorded; quiet = λ z. refl; holds = h }

pub last-none : {V : Type 0} (recorded : Option (List ℕ)) (out : V) (Holds : List ℕ → List ℕ → Type 0) → Holds [] [] → ShowsLast recorded recorded out out Holds
last-none recorded out Holds h = record { more = []; due = []; put = put-none recorded; quiet = λ z. refl; holds = h }

-- ---- something was, and then more

pub shows-then : {V : Type 0} {a b c : Option (List ℕ)} {x y z : V} {First Then : List ℕ → Type 0} (f : ShowsOn a b x y First) → ShowsOn b c y z (λ more. Then (f.more ++ more)) → ShowsOn a c x z Then
shows-then {a = a} {b = b} {c = c} f s = record {
  more = f.more ++ s.more;
  put = put-two a b c f.more s.more f.put s.put;
  quiet = λ e. s.quiet (append-empty-right f.more s.more e) ∙ f.quiet (append-empty-left f.more s.more e);
  holds = s.holds;
}

pub last-then : {V : Type 0} {a b c : Option (List ℕ)} {x y z : V} {First : List ℕ → Type 0} {Then : List ℕ → List ℕ → Type 0} (f : ShowsOn a b x y First) → ShowsLast b c y z (λ more due. Then (f.more ++ more) (f.more ++ due)) → ShowsLast a c x z Then
last-then {a = a} {b = b} {c = c} f s = record {
  more = f.more ++ s.more;
  due = f.more ++ s.due;
  put = put-two a b c f.more s.more f.put s.put;
  quiet = λ e. s.quiet (append-empty-right f.more s.due e) ∙ f.quiet (append-empty-left f.more s.due e);
  holds = s.holds;
}

-- the same after what was shown before
pub shows-behind : {V : Type 0} {a b c : Option (List ℕ)} {x y z : V} {First : List ℕ → Type 0} (Then : List ℕ → Type 0) (shown : List ℕ) (f : ShowsOn a b x y First) → ShowsOn b c y z (λ more. Then ((shown ++ f.more) ++ more))
    → ShowsOn a c x z (λ more. Then (shown ++ more))
shows-behind {a = a} {b = b} {c = c} Then shown f s = record {
  more = f.more ++ s.more;
  put = put-two a b c f.more s.more f.put s.put;
  quiet = λ e. s.quiet (append-empty-right f.more s.more e) ∙ f.quiet (append-empty-left f.more s.more e);
  holds = subst Then (append_assoc shown f.more s.more) s.holds;
}

pub last-behind : {V : Type 0} {a b c : Option (List ℕ)} {x y z : V} {First : List ℕ → Type 0} (Then : List ℕ → List ℕ → Type 0) (shown : List ℕ) (f : ShowsOn a b x y First)
    → ShowsLast b c y z (λ more due. Then ((shown ++ f.more) ++ more) ((shown ++ f.more) ++ due)) → ShowsLast a c x z (λ more due. Then (shown ++ more) (shown ++ due))
last-behind {a = a} {b = b} {c = c} Then shown f s = record {
  more = f.more ++ s.more;
  due = f.more ++ s.due;
  put = put-two a b c f.more s.more f.put s.put;
  quiet = λ e. s.quiet (append-empty-right f.more s.due e) ∙ f.quiet (append-empty-left f.more s.due e);
  holds = subst (λ m. Then m (shown ++ (f.more ++ s.due))) (append_assoc shown f.more s.more) (subst (Then ((shown ++ f.more) ++ s.more)) (append_assoc shown f.more s.due) s.holds);
}

pub last-here : {V : Type 0} {a b : Option (List ℕ)} {x y : V} {First : List ℕ → Type 0} {Then : List ℕ → List ℕ → Type 0} (f : ShowsOn a b x y First) → Then f.more f.more → ShowsLast a b x y Then
last-here f t = record { more = f.more; due = f.more; put = f.put; quiet = f.quiet; holds = t }

-- ---- a line that was cut off

some-more : (shown due : List ℕ) → due ≢ [] → shown ++ due ≢ []
some-more shown due some e = some (append-empty-right shown due e)

cut-line : {asks : Asks} {start recorded : Option (List Mark)} {held : List ℕ} {s : TalkState} (shown : List ℕ) (answer : Talked) (line more due : List ℕ) → Talking asks start recorded held (shown ++ line) s → IsCutLine answer line more due
    → IsTalk asks answer start recorded (shown ++ more) (shown ++ due)
cut-line {asks} {start} {recorded} {held} {s} shown talked.WriteFault line more due v k =
    subst (λ d. IsTalk asks talked.WriteFault start recorded (shown ++ more) (shown ++ d)) (sym k.0)
    (talk-faulted v (shown ++ more) k.2.rest (ap (λ l. shown ++ l) k.2.whole ∙ sym (append_assoc shown more k.2.rest)) (some-more shown line (subst (λ d. d ≢ []) k.0 k.1)))
cut-line {asks} {start} {recorded} {held} {s} shown talked.OutOfMemory line more due v k =
    subst (λ d. IsTalk asks talked.OutOfMemory start recorded (shown ++ more) (shown ++ d)) (sym k.0)
    (subst (λ m. IsTalk asks talked.OutOfMemory start recorded (shown ++ m) (shown ++ line)) (sym k.1)
    (talk-starved v (shown ++ []) line (ap (λ x. x ++ line) (sym (append-nil shown)))))
cut-line shown talked.Done line more due v k = absurd k
cut-line shown (talked.Refused id) line more due v k = absurd k
cut-line shown (talked.BadMaster at) line more due v k = absurd k
cut-line shown talked.ServerFailed line more due v k = absurd k
cut-line shown talked.Spent line more due v k = absurd k

pub cut-off : {V : Type 0} {a b : Option (List ℕ)} {x y : V} {asks : Asks} {start recorded : Option (List Mark)} {held : List ℕ} {s : TalkState} (shown : List ℕ) (answer : Talked) (line : List ℕ) → Talking asks start recorded held (shown ++ line) s
    → ShowsLast a b x y (IsCutLine answer line) → ShowsLast a b x y (λ more due. IsTalk asks answer start recorded (shown ++ more) (shown ++ due))
cut-off shown answer line v k = record { more = k.more; due = k.due; put = k.put; quiet = k.quiet; holds = cut-line shown answer line k.more k.due v k.holds }

pub shown-line : {V : Type 0} {a b : Option (List ℕ)} {x y : V} {asks : Asks} {start recorded : Option (List Mark)} {held : List ℕ} {s : TalkState} (shown line : List ℕ) → Talking asks start recorded held (shown ++ line) s
    → ShowsOn a b x y (λ more. more ≡ line) → ShowsOn a b x y (λ more. Talking asks start recorded held (shown ++ more) s)
shown-line {asks = asks} {start} {recorded} {held} {s} shown line v k = record { more = k.more; put = k.put; quiet = k.quiet; holds = subst (λ m. Talking asks start recorded held (shown ++ m) s) (sym k.holds) v }

-- ---- a line that there was no memory for

pub no-text : {V : Type 0} (recorded : Option (List ℕ)) (out : V) (line : List ℕ) → ShowsLast recorded recorded out out (IsCutLine talked.OutOfMemory line)
no-text recorded out line = record { more = []; due = line; put = put-none recorded; quiet = λ z. refl; holds = (refl, refl) }
