-- A client's forwardings are removed one after the other: the cancels that are still to be sent.
use Rattle.std.proofs.Common.{◌≡◌, ℕ, suc, List, [], ◌∷◌, ◌++◌, length, map, not, Bool, true, false, refl, ap, sym, ◌∙◌, subst, ◌+◌, ◌-◌, ◌≤◌, arith}
use Rattle.std.specs.Prelude.{flat_map, is_none, is_some, Option, Some, None, option_map, ◌&&◌}
use Rattle.std.proofs.lemmas.Option.{none-some, same_Some}
use Rattle.ssh_grammar.specs.Messages as grammar
use Rattle.ssh_grammar.specs.SpellMessage.{cancel_forward}
use Rattle.mux_history.proofs.Finds.{filter-no, filter-yes}
use Rattle.proxy_frames.specs.Queued.{frame_length, with_reserved}
use Rattle.proxy_frames.specs.State.{QueueState}
use Rattle.forward_rules.specs.State.{Forward}
use Rattle.forward_rules.specs.Step.{forward_count_of, is_forward_of, forwards_without_client}
use Rattle.forward_rules.specs.Taking.{after_taking, first_live, is_live_of, recorded_forward_of, recorded_one_by_one}
use Rattle.forward_rules.proofs.Taken.{taking-none, taking-one}
use Rattle.client_teardown.specs.Leaving.{SendsFarewell, farewell_cancel_of, forward_farewells}
use Rattle.client_teardown.proofs.Sending.{frames, sends-none, sends-one, sends-then}

-- of one that was recorded, unless a cancel of it is unanswered
abbrev pub cancel_recorded : grammar.Key × Bool → List (List ℕ)
cancel_recorded t = elim t.1 [ true ↦ [] | false ↦ cancel_forward t.0 ∷ [] ]

abbrev pub cancels_recorded : List (grammar.Key × Bool) → List (List ℕ)
cancels_recorded ts = flat_map cancel_recorded ts

live-cancel : (f : Forward) → f.live ≡ true → farewell_cancel_of f ≡ cancel_recorded (recorded_forward_of f)
live-cancel f live = ap (λ b. elim (b && is_none f.cancel) as (λ _. List (List ℕ)) [ true ↦ cancel_forward f.key ∷ [] | false ↦ [] ]) live ∙ by f.cancel
  where
    by : (o : Option ℕ) → (elim (is_none o) as (λ _. List (List ℕ)) [ true ↦ cancel_forward f.key ∷ [] | false ↦ [] ]) ≡ elim (is_some o) as (λ _. List (List ℕ)) [ true ↦ [] | false ↦ cancel_forward f.key ∷ [] ]
    by None = refl
    by (Some q) = refl

asked-cancel : (f : Forward) → f.live ≡ false → farewell_cancel_of f ≡ []
asked-cancel f asked = ap (λ b. elim (b && is_none f.cancel) as (λ _. List (List ℕ)) [ true ↦ cancel_forward f.key ∷ [] | false ↦ [] ]) asked

-- all that are to be sent
pub cancels-recorded : (k : ℕ) (fs : List Forward) → forward_farewells k fs ≡ cancels_recorded (recorded_one_by_one k fs)
cancels-recorded k [] = refl
cancels-recorded k (f ∷ fs) = by (is_forward_of k f) refl f.live refl (cancels-recorded k fs)
  where
    by : (b : Bool) → is_forward_of k f ≡ b → (c : Bool) → f.live ≡ c → forward_farewells k fs ≡ cancels_recorded (recorded_one_by_one k fs) → forward_farewells k (f ∷ fs) ≡ cancels_recorded (recorded_one_by_one k (f ∷ fs))
    by true h true g ih =
        ap (flat_map farewell_cancel_of) (filter-yes (is_forward_of k) f fs h)
        ∙ (ap (λ ps. ps ++ forward_farewells k fs) (live-cancel f g) ∙ (ap (λ ps. cancel_recorded (recorded_forward_of f) ++ ps) ih
        ∙ sym (ap (λ xs. cancels_recorded (map recorded_forward_of xs)) (filter-yes (is_live_of k) f fs (ap (λ b. b && f.live) h ∙ g)))))
    by true h false g ih =
        ap (flat_map farewell_cancel_of) (filter-yes (is_forward_of k) f fs h)
        ∙ (ap (λ ps. ps ++ forward_farewells k fs) (asked-cancel f g) ∙ (ih
        ∙ sym (ap (λ xs. cancels_recorded (map recorded_forward_of xs)) (filter-no (is_live_of k) f fs (ap (λ b. b && f.live) h ∙ g)))))
    by false h c g ih =
        ap (flat_map farewell_cancel_of) (filter-no (is_forward_of k) f fs h)
        ∙ (ih ∙ sym (ap (λ xs. cancels_recorded (map recorded_forward_of xs)) (filter-no (is_live_of k) f fs (ap (λ b. b && f.live) h))))

-- ---- one step

-- what is recorded of one that was removed is still to be sent, and then the others
pub taken-cancel : (k : ℕ) (fs : List Forward) (t : grammar.Key × Bool) → Some t ≡ option_map recorded_forward_of (first_live k fs) → cancels_recorded (recorded_one_by_one k fs) ≡ cancel_recorded t ++ cancels_recorded (recorded_one_by_one k (after_taking k fs))
taken-cancel k fs t h = by (first_live k fs) refl
  where
    by : (o : Option Forward) → first_live k fs ≡ o → cancels_recorded (recorded_one_by_one k fs) ≡ cancel_recorded t ++ cancels_recorded (recorded_one_by_one k (after_taking k fs))
    by None g = absurd (none-some t (sym (h ∙ ap (option_map recorded_forward_of) g)))
    by (Some f) g =
        let recorded : recorded_forward_of f ≡ t = same_Some (recorded_forward_of f) t (sym (h ∙ ap (option_map recorded_forward_of) g)) in
        ap cancels_recorded (taking-one k fs f g) ∙ ap (λ u. cancel_recorded u ++ cancels_recorded (recorded_one_by_one k (after_taking k fs))) recorded

pub taking-step : (k : ℕ) (fs gs : List Forward) (t : grammar.Key × Bool) (u v : QueueState) → Some t ≡ option_map recorded_forward_of (first_live k fs) → gs ≡ after_taking k fs → SendsFarewell (cancel_recorded t) u v → v.waiting ++ frames (cancels_recorded (recorded_one_by_one k gs)) ≡ u.waiting ++ frames (cancels_recorded (recorded_one_by_one k fs))
taking-step k fs gs t u v h is sends =
    ap (λ hs. v.waiting ++ frames (cancels_recorded (recorded_one_by_one k hs))) is
    ∙ (sends-then (cancel_recorded t) (cancels_recorded (recorded_one_by_one k (after_taking k fs))) u v sends ∙ sym (ap (λ ps. u.waiting ++ frames ps) (taken-cancel k fs t h)))

-- the cancel of one that was removed is queued, where one is to be sent, in the room for one
pub record IsSent (t : grammar.Key × Bool) (u v : QueueState) : Type 0 where
  pub sends : SendsFarewell (cancel_recorded t) u v
  pub spare : u.spare ≤ v.spare + 308

pub sent-one : (key : grammar.Key) (b : Bool) (p : List ℕ) (u v : QueueState) → b ≡ false → p ≡ cancel_forward key → length p ≤ 303 → v ≡ with_reserved p u → IsSent (key, b) u v
sent-one key true p u v stays payload short is = absurd (cc)
sent-one key false p u v stays payload short is = record {
  sends = subst (λ q. SendsFarewell (q ∷ []) u v) payload (sends-one p u v is);
  spare = let s : v.spare ≡ u.spare - frame_length p = ap (λ (q : QueueState). q.spare) is in omega (arith, s, short);
}

pub sent-none : (key : grammar.Key) (b : Bool) (u v : QueueState) → b ≡ true → v ≡ u → IsSent (key, b) u v
sent-none key true u v leaves is = subst (IsSent (key, true) u) (sym is) (record { sends = sends-none u; spare = omega arith })
sent-none key false u v leaves is = absurd (cc)

-- none is live
pub none-cancel : (k : ℕ) (fs : List Forward) → None ≡ option_map recorded_forward_of (first_live k fs) → cancels_recorded (recorded_one_by_one k fs) ≡ []
none-cancel k fs h = by (first_live k fs) refl
  where
    by : (o : Option Forward) → first_live k fs ≡ o → cancels_recorded (recorded_one_by_one k fs) ≡ []
    by None g = ap cancels_recorded (taking-none k fs g)
    by (Some f) g = absurd (none-some (recorded_forward_of f) (h ∙ ap (option_map recorded_forward_of) g))

-- the client has none at all
pub record HasNone (k : ℕ) (fs : List Forward) : Type 0 where
  pub cancels : cancels_recorded (recorded_one_by_one k fs) ≡ []
  pub others : forwards_without_client k fs ≡ fs

pub has-none : (k : ℕ) (fs : List Forward) → forward_count_of fs k ≡ 0 → HasNone k fs
has-none k [] h = record { cancels = refl; others = refl }
has-none k (f ∷ fs) h = by (is_forward_of k f) refl (has-none k fs)
  where
    by : (b : Bool) → is_forward_of k f ≡ b → (forward_count_of fs k ≡ 0 → HasNone k fs) → HasNone k (f ∷ fs)
    by true e ih = absurd (let some : suc (forward_count_of fs k) ≡ 0 = sym (ap length (filter-yes (is_forward_of k) f fs e)) ∙ h in omega (arith, some))
    by false e ih =
        let rest = ih (sym (ap length (filter-no (is_forward_of k) f fs e)) ∙ h) in
        record {
          cancels = ap (λ xs. cancels_recorded (map recorded_forward_of xs)) (filter-no (is_live_of k) f fs (ap (λ b. b && f.live) e)) ∙ rest.cancels;
          others = filter-yes (λ g. not (is_forward_of k g)) f fs (ap not e) ∙ ap (λ gs. f ∷ gs) rest.others;
        }
