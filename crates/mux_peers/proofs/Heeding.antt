-- What the forwarder records.
use Rattle.std.proofs.Common.{◌≡◌, ℕ, Bool, List, [], ◌∷◌, ◌++◌, Option, Some, None, Result, Ok, Err, true, false, refl, sym, ap, ◌∙◌, append_assoc, append-nil, subst}
use Rattle.std.specs.Prelude.{OnOk}
use Rattle.std.specs.Option.{option_map}
use Rattle.std.specs.Result.{IsErr}
use Rattle.std.proofs.lemmas.Result.{on_ok_weaker}
use Rattle.mux_outside.specs.declared.house.FwdAsk.{FwdAsk}
use Rattle.mux_outside.specs.declared.house.HouseReply.{HouseReply}
use Rattle.mux_outside.specs.declared.house_mark.HouseMark.{HouseMark as Asked}
use Rattle.mux_outside.specs.declared.house_mark.HouseMark.TheVariants.{HouseAsked}
use Rattle.mux_outside.specs.House.{GaveOr, HouseState, Known, start_ask_of, known_after_ask}
use Rattle.mux_outside.specs.HouseCalls.{HandsOn, HouseCall, calls_of}
use Rattle.mux_outside.proofs.HouseCalls.{calls-append, hands-none, hands-then}
use Rattle.mux_peers.specs.Asked.{Applies, RecordsAsks, known_after}

pub records_none : (recorded : Option (List Asked)) → RecordsAsks recorded recorded []
records_none None = refl
records_none (Some asks) = ap (λ (l : List Asked). Some l) (sym (append-nil asks))

records_twice : (before : Option (List Asked)) (a b : List Asked) → option_map (λ recorded. recorded ++ b) (option_map (λ recorded. recorded ++ a) before) ≡ option_map (λ recorded. recorded ++ (a ++ b)) before
records_twice None a b = refl
records_twice (Some asks) a b = ap (λ (l : List Asked). Some l) (append_assoc asks a b)

-- first these, then those
pub records_then : (before mid now : Option (List Asked)) (a b : List Asked) → RecordsAsks before mid a → RecordsAsks mid now b → RecordsAsks before now (a ++ b)
records_then before mid now a b first then = then ∙ (ap (λ (recorded : Option (List Asked)). option_map (λ l. l ++ b) recorded) first ∙ records_twice before a b)

-- ---- what is noted of the requests

on-any : {A E P : Type 0} (r : Result A E) → P → OnOk r P
on-any (Ok x) p = p
on-any (Err e) p = tt

pub on-none : {A E : Type 0} (r : Result A E) (P : Type 0) → IsErr r → OnOk r P
on-none (Ok x) P bad = absurd (let no : false ≡ true = bad in cc)
on-none (Err e) P bad = tt

-- nothing was asked
pub applies_none : {A E : Type 0} (r : Result A E) (asks : List Asked) (state : HouseState) → Applies r asks asks state state
applies_none r asks state = record {
  more = [];
  unnoted = [];
  noted = sym (append-nil asks);
  all_noted = on-any r refl;
  recorded = records_none state.recorded;
  known = on-any r refl;
  must = refl;
  stands = on-any r (hands-none state.stands);
}

-- it was asked this
pub applies_ask : {A E F : Type 0} (r : Result A E) (client id : ℕ) (opening : Bool) (what : FwdAsk) (reply : HouseReply) {asks asks' : List Asked} {old new : HouseState} → asks' ≡ asks ++ HouseAsked client id opening (start_ask_of what) reply ∷ []
    → GaveOr {A = HouseReply} {E = F} (Ok reply) (HouseAsked client id opening (start_ask_of what) reply ∷ []) (λ given. known_after_ask given client id opening) old new → Applies r asks asks' old new
applies_ask r client id opening what reply noted gave = record {
  more = HouseAsked client id opening (start_ask_of what) reply ∷ [];
  unnoted = [];
  noted = noted;
  all_noted = on-any r refl;
  recorded = gave.recorded;
  known = on-any r gave.known;
  must = gave.must;
  stands = on-any r gave.stands;
}

-- it was asked this, which isn't noted
pub applies_unnoted : {A E : Type 0} (r : Result A E) (unnoted : List Asked) {asks asks' : List Asked} {old new : HouseState} → IsErr r → asks' ≡ asks → RecordsAsks old.recorded new.recorded unnoted → new.must ≡ old.must → Applies r asks asks' old new
applies_unnoted r unnoted {asks} bad same recorded must = record {
  more = [];
  unnoted = unnoted;
  noted = same ∙ sym (append-nil asks);
  all_noted = on-none r _ bad;
  recorded = recorded;
  known = on-none r _ bad;
  must = must;
  stands = on-none r _ bad;
}

-- of a call that answers otherwise
pub applies_any : {A E B F : Type 0} (r : Result A E) {x : B} {asks asks' : List Asked} {old new : HouseState} → Applies {A = B} {E = F} (Ok x) asks asks' old new → Applies r asks asks' old new
applies_any r h = record {
  more = h.more;
  unnoted = h.unnoted;
  noted = h.noted;
  all_noted = on-any r h.all_noted;
  recorded = h.recorded;
  known = on-any r h.known;
  must = h.must;
  stands = on-any r h.stands;
}

-- of a call that found no memory
pub applies_err : {A E B F : Type 0} (r : Result A E) {s : Result B F} {asks asks' : List Asked} {old new : HouseState} → IsErr r → Applies s asks asks' old new → Applies r asks asks' old new
applies_err r bad h = record {
  more = h.more;
  unnoted = h.unnoted;
  noted = h.noted;
  all_noted = on-none r _ bad;
  recorded = h.recorded;
  known = on-none r _ bad;
  must = h.must;
  stands = on-none r _ bad;
}

-- all that it was asked is noted
pub applies_recorded : {A E : Type 0} {x : A} {asks asks' : List Asked} {old new : HouseState} → (h : Applies {A = A} {E = E} (Ok x) asks asks' old new) → RecordsAsks old.recorded new.recorded h.more
applies_recorded {asks} {asks'} {old} {new} h = subst (λ (l : List Asked). RecordsAsks old.recorded new.recorded l) (ap (λ (l : List Asked). h.more ++ l) h.all_noted ∙ append-nil h.more) h.recorded

after_twice : (a b : List Asked) (known : Known) → known_after b (known_after a known) ≡ known_after (a ++ b) known
after_twice [] b known = refl
after_twice (HouseAsked client id opening ask reply ∷ a) b known = after_twice a b (known_after_ask reply client id opening known)
after_twice (mark ∷ a) b known = after_twice a b known

-- first these, then those
pub applies_then : {A E B F : Type 0} {x : A} {r : Result B F} {a b c : List Asked} {s t u : HouseState} → Applies {A = A} {E = E} (Ok x) a b s t → Applies r b c t u → Applies r a c s u
applies_then {A} {E} {B} {F} {x} {r} {a} {b} {c} {s} {t} {u} h i = record {
  more = h.more ++ i.more;
  unnoted = i.unnoted;
  noted = i.noted ∙ (ap (λ (z : List Asked). z ++ i.more) h.noted ∙ append_assoc a h.more i.more);
  all_noted = i.all_noted;
  recorded = subst (λ (z : List Asked). RecordsAsks s.recorded u.recorded z) (sym (append_assoc h.more i.more i.unnoted)) (records_then s.recorded t.recorded u.recorded h.more (i.more ++ i.unnoted) (applies_recorded h) i.recorded);
  known = on_ok_weaker r (λ k. k ∙ (ap (known_after i.more) h.known ∙ after_twice h.more i.more s.known)) i.known;
  must = i.must ∙ h.must;
  stands = on_ok_weaker r (λ k. subst (λ (l : List HouseCall). HandsOn s.stands u.stands l) (sym (calls-append h.more i.more)) (hands-then s.stands t.stands u.stands (calls_of h.more) (calls_of i.more) h.stands k)) i.stands;
}

-- a request is no order
ordering_after : (more : List Asked) (known : Known) → (known_after more known).ordering ≡ known.ordering
ordering_after [] known = refl
ordering_after (HouseAsked client id opening ask reply ∷ more) known = ordering_after more (known_after_ask reply client id opening known)
ordering_after (mark ∷ more) known = ordering_after more known

pub ordering_kept : {A E : Type 0} {x : A} {asks asks' : List Asked} {old new : HouseState} → Applies {A = A} {E = E} (Ok x) asks asks' old new → new.known.ordering ≡ old.known.ordering
ordering_kept {old} h = ap (λ (k : Known). k.ordering) h.known ∙ ordering_after h.more old.known
