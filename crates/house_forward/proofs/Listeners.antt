-- No two forwardings have one listener, since each came with a number that none had.
use Rattle.std.proofs.Common.{◌≡◌, ◌∙◌, refl, sym, ap, subst, arith, ℕ, ◌+◌, Bool, true, false, List, [], ◌∷◌, ◌++◌, length, set, map, filter, Option, Some, None, inl, inr}
use Rattle.std.specs.Prelude.{◌==◌, ◌||◌, not, nat_le, IfSome}
use Rattle.std.specs.List.{cons_option, remove}
use Rattle.std.proofs.lemmas.Bool.{and_parts, both_ways, cases_Bool, eqb-true}
use Rattle.mux_outside.specs.Streams.{among}
use Rattle.house_forward.specs.Asks.{turns_away}
use Rattle.house_forward.specs.ForwarderEvents.{ForwarderEvent, Does, Leave}
use Rattle.house_forward.specs.ForwarderEvents.{Begins, Asks, Answers, Greets, Requests, Replies, Listens, Unlistens}
use Rattle.house_forward.specs.ForwardingState.{ForwardingState, GetsListener, standing_at}
use Rattle.house_forward.specs.Forwardings.{is_numbered, forwarding_changed, forwarding_request_of, first_forwarding_request, MadeAt, listener_of, listeners_of, has_listener}
use Rattle.house_forward.specs.Rules.{rules_of}
use Rattle.house_forward.specs.declared.forwarding.Change.{Change}
use Rattle.house_forward.specs.declared.forwarding.Change.TheVariants as change
use Rattle.house_forward.specs.declared.forwarding.Forwarding.{Forwarding}
use Rattle.house_forward.specs.declared.forwarding.Stage.TheVariants.{Listening}
use Rattle.house_forward.proofs.Adding.{HoldsOnAsk, on-starts, on-ask}
use Rattle.house_forward.proofs.Differing.{Apart}
use Rattle.house_forward.proofs.InOrder.{changed-listener, first_listens, among-first, among-more}
use Rattle.house_forward.proofs.Members.{In, out-map, out-filter, out-remove, out-set, out-last}
use Rattle.house_forward.proofs.Replying.{HoldsOnReply, on-outgoing, on-reply}
use Rattle.house_forward.proofs.Tracking.{changed-serial, numbered-above}

abbrev OneEach : List Forwarding → Type 0
OneEach all = (l : ℕ) (f g : Forwarding) → In f all → In g all → listener_of f ≡ Some l → listener_of g ≡ Some l → f.serial ≡ g.serial

-- each listener that there is was there
abbrev From : List Forwarding → List Forwarding → Type 0
From old new = (l : ℕ) (g : Forwarding) → In g new → listener_of g ≡ Some l
    → (f : Forwarding) × In f old × (f.serial ≡ g.serial) × (listener_of f ≡ Some l)

kept : (old new : List Forwarding) → From old new → OneEach old → OneEach new
kept old new from one l f g here there is its =
    let a = from l f here is in
    let b = from l g there its in
    sym a.2 ∙ one l a.0 b.0 a.1 b.1 a.3 b.3 ∙ b.2

from-same : (fs : List Forwarding) → From fs fs
from-same fs l g here is = (g, here, refl, is)

from-both : (a b c : List Forwarding) → From a b → From b c → From a c
from-both a b c first second l g here is =
    let x = second l g here is in
    let y = first l x.0 x.1 x.3 in
    (y.0, y.1, y.2 ∙ x.2, y.3)

from-changed : (c : Change) (serial : ℕ) (fs : List Forwarding) → From fs (map (forwarding_changed c serial) fs)
from-changed c serial fs l g here is =
    let at = out-map (forwarding_changed c serial) g fs here in (
      at.0,
      at.1,
      sym (changed-serial c serial at.0) ∙ ap (λ (x : Forwarding). x.serial) at.2,
      sym (changed-listener c serial at.0) ∙ ap listener_of at.2 ∙ is,
    )

from-remove : (fs : List Forwarding) (i : ℕ) → From fs (remove fs i)
from-remove fs i l g here is = (g, out-remove g fs i here, refl, is)

from-filter : (p : Forwarding → Bool) (fs : List Forwarding) → From fs (filter p fs)
from-filter p fs l g here is = (g, (out-filter p g fs here).0, refl, is)

no-listener : (o : Option ℕ) (l : ℕ) (P : Type 0) → o ≡ None → o ≡ Some l → P
no-listener None l P e f = cc
no-listener (Some k) l P e f = cc

from-more : (fs : List Forwarding) (f : Forwarding) → listener_of f ≡ None → From fs (fs ++ f ∷ [])
from-more fs f none l g here is = elim (out-last g f fs here) [
  | inl there ↦ (g, there, refl, is)
  | inr new ↦ no-listener (listener_of g) l _ (ap listener_of (sym new) ∙ none) is
]

from-set : (fs : List Forwarding) (i : ℕ) (f : Forwarding) → listener_of f ≡ None → From fs (set fs i f)
from-set fs i f none l g here is = elim (out-set g fs i f here) [
  | inl there ↦ (g, there, refl, is)
  | inr new ↦ no-listener (listener_of g) l _ (ap listener_of (sym new) ∙ none) is
]

on-ask-from : HoldsOnAsk From
on-ask-from = record {
  same = from-same;
  both = from-both;
  more = λ fs f first. from-more fs f (first_listens f first);
  closes = from-changed change.Close;
}

on-reply-from : HoldsOnReply From
on-reply-from = record {
  same = from-same;
  changes = from-changed;
  refused = λ serial fs i e. from-remove fs i;
  granted = λ serial fs i e. from-remove fs i;
}

-- ---- a listener is made

among-its : (l : ℕ) (g : Forwarding) (fs : List Forwarding) → In g fs → listener_of g ≡ Some l → among l (listeners_of fs) ≡ true
among-its l g [] h e = absurd h
among-its l g (f ∷ fs) (inl is) e =
    subst (λ (o : Option ℕ). among l (cons_option o (listeners_of fs)) ≡ true) (sym (ap listener_of is ∙ e)) (among-first l (listeners_of fs))
among-its l g (f ∷ fs) (inr h) e = among-more (listener_of f) l (listeners_of fs) (among-its l g fs h e)

-- none that was there has the new one
not-there : (l n : ℕ) (g : Forwarding) (fs : List Forwarding) (P : Type 0) → In g fs → listener_of g ≡ Some n → Some l ≡ Some n
    → among l (listeners_of fs) ≡ false → P
not-there l n g fs P here is same fresh =
    let e : l ≡ n = cc in
    absurd (both_ways (among l (listeners_of fs)) fresh (among-its l g fs here (is ∙ ap (λ m. Some m) (sym e))))

one-new : (l i : ℕ) (x : Forwarding) (fs : List Forwarding) → among l (listeners_of fs) ≡ false → OneEach fs
    → OneEach (set fs i (record x { stage = Listening l }))
one-new l i x fs fresh one n f g here there is its =
    let y : Forwarding = record x { stage = Listening l } in
    elim (out-set f fs i y here) [
      | inl old ↦ elim (out-set g fs i y there) [
        | inl too ↦ one n f g old too is its
        | inr new ↦ not-there l n f fs _ old is (ap listener_of new ∙ its) fresh
      ]
      | inr new ↦ elim (out-set g fs i y there) [
        | inl old ↦ not-there l n g fs _ old its (ap listener_of new ∙ is) fresh
        | inr too ↦ ap (λ (z : Forwarding). z.serial) (sym new ∙ too)
      ]
    ]

one-made : (number : Option ℕ) (i : ℕ) (old new : List Forwarding) → IfSome number (λ l. among l (listeners_of old) ≡ false)
    → MadeAt number i old new → OneEach old → OneEach new
one-made None i old new fresh m one = kept old new (subst (From old) (sym m) (from-remove old i)) one
one-made (Some l) i old new fresh m one = subst OneEach (sym m.2) (one-new l i m.0 old fresh one)

one-listened : (host : List ℕ) (port : ℕ) (number : Option ℕ) (old new : ForwardingState) → GetsListener host port number old new
    → OneEach old.all → OneEach new.all
one-listened host port number old new h one =
    let b = h.between in
    one-made number h.makes.place b.all new.all h.fresh h.makes.made
    (kept old.all b.all (subst (From old.all) (sym h.orders.ordered.2) (from-set old.all h.orders.place _ refl)) one)

-- ---- by all that happened

after : (forwarder_event : ForwarderEvent) (old new : ForwardingState) → Does forwarder_event old new → OneEach old.all → OneEach new.all
after (Begins starts) old new d one =
    kept old.all new.all (on-starts From on-ask-from (rules_of starts) starts.asks (length starts.asks) (standing_at old) (standing_at new) (omega arith) d.begins) one
after (Asks client id opening ask answer) old new d one =
    kept old.all new.all (on-ask From on-ask-from (turns_away client id old.waiting) old.rules opening ask old.serials old.all new.all d.came_to d.comes) one
after (Answers client id answer) old new d one = subst OneEach (sym (ap (λ (x : ForwardingState). x.all) d.others)) one
after Greets old new d one = subst OneEach (sym (ap (λ (x : ForwardingState). x.all) d.1)) one
after (Requests f) old new d one =
    kept old.all new.all (subst (From old.all) (sym (ap (λ (x : ForwardingState). x.all) d.2)) (on-outgoing From on-reply-from (forwarding_request_of f) old.all)) one
after (Replies success port) old new d one =
    kept old.all new.all (subst (From old.all) (sym (ap (λ (x : ForwardingState). x.all) d)) (on-reply From on-reply-from success port (first_forwarding_request old.requests) old.all)) one
after (Listens host port number) old new d one = one-listened host port number old new d one
after (Unlistens l) old new d one =
    kept old.all new.all (subst (From old.all) (sym (ap (λ (x : ForwardingState). x.all) d.others))
    (from-filter (λ f. not (has_listener l f)) old.all)) one

pub one-each : (forwarder_events : List ForwarderEvent) (forwarding_state : ForwardingState) → Leave forwarder_events forwarding_state → (l : ℕ) (f g : Forwarding) → In f forwarding_state.all → In g forwarding_state.all
    → listener_of f ≡ Some l → listener_of g ≡ Some l → f.serial ≡ g.serial
one-each [] forwarding_state left = subst (λ (d : ForwardingState). OneEach d.all) (sym left) (λ l f g here there is its. absurd here)
one-each (forwarder_event ∷ forwarder_events) forwarding_state left = after forwarder_event left.0 forwarding_state left.2 (one-each forwarder_events left.0 left.1)

-- ---- each has a number of its own

record Its (l : ℕ) (fs : List Forwarding) : Type 0 where
  f : Forwarding
  here : In f fs
  is : listener_of f ≡ Some l

its-first : (b : Bool) (l k : ℕ) (f : Forwarding) (fs : List Forwarding) → (k == l) ≡ b → listener_of f ≡ Some k
    → (b || among l (listeners_of fs)) ≡ true → (among l (listeners_of fs) ≡ true → Its l fs) → Its l (f ∷ fs)
its-first true l k f fs e is h rest = record { f = f; here = inl refl; is = is ∙ ap (λ n. Some n) (eqb-true k l e) }
its-first false l k f fs e is h rest = let x = rest h in record { f = x.f; here = inr x.here; is = x.is }

its-in : (o : Option ℕ) (l : ℕ) (f : Forwarding) (fs : List Forwarding) → listener_of f ≡ o
    → among l (cons_option o (listeners_of fs)) ≡ true → (among l (listeners_of fs) ≡ true → Its l fs) → Its l (f ∷ fs)
its-in None l f fs e h rest = let x = rest h in record { f = x.f; here = inr x.here; is = x.is }
its-in (Some k) l f fs e h rest = its-first (k == l) l k f fs refl e h rest

its-among : (l : ℕ) (fs : List Forwarding) → among l (listeners_of fs) ≡ true → Its l fs
its-among l [] h = cc
its-among l (f ∷ fs) h = its-in (listener_of f) l f fs refl h (its-among l fs)

none-behind : (l : ℕ) (f : Forwarding) (fs : List Forwarding) (high : ℕ) → listener_of f ≡ Some l
    → is_numbered (f.serial + 1) fs high ≡ true → OneEach (f ∷ fs) → among l (listeners_of fs) ≡ false
none-behind l f fs high is n one = elim (cases_Bool (among l (listeners_of fs))) [
  | inl has ↦ (let x = its-among l fs has in
      let same = one l f x.f (inl refl) (inr x.here) is x.is in
      let above = numbered-above fs x.f (f.serial + 1) high n x.here in
      absurd (omega (arith, same, above)))
  | inr lacks ↦ lacks
]

apart-first : (o : Option ℕ) (f : Forwarding) (fs : List Forwarding) (high : ℕ) → listener_of f ≡ o → is_numbered (f.serial + 1) fs high ≡ true
    → OneEach (f ∷ fs) → Apart (listeners_of fs) → Apart (cons_option o (listeners_of fs))
apart-first None f fs high e n one rest = rest
apart-first (Some l) f fs high e n one rest = (none-behind l f fs high e n one, rest)

pub apart-listeners : (fs : List Forwarding) (low high : ℕ) → is_numbered low fs high ≡ true
    → ((l : ℕ) (f g : Forwarding) → In f fs → In g fs → listener_of f ≡ Some l → listener_of g ≡ Some l → f.serial ≡ g.serial)
    → Apart (listeners_of fs)
apart-listeners [] low high n one = tt
apart-listeners (f ∷ fs) low high n one =
    let both = and_parts (nat_le low f.serial) (is_numbered (f.serial + 1) fs high) n in
    apart-first (listener_of f) f fs high refl both.1 one
    (apart-listeners fs (f.serial + 1) high both.1 (λ l g h here there is its. one l g h (inr here) (inr there) is its))
