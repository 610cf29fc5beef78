-- A journal grows by a mark at its end.
use Rattle.std.proofs.Common.{◌≡◌, ◌∙◌, refl, sym, ap, subst, Bool, true, false, ◌||◌, List, [], ◌∷◌, ◌++◌, Option, Some, None, append_assoc}
use Rattle.std.specs.Option.{option_map}
use Rattle.std.proofs.lemmas.List.{append-nil}
use Rattle.std.proofs.lemmas.List.Elements.{All-push}
use Rattle.std.proofs.lemmas.List.Folds.{list_any-append}
use Rattle.std.proofs.lemmas.Grind.{flat_map-append}
use Rattle.mux_outside.specs.Marks.{bytes_taken, accepted_at_mark}
use Rattle.mux_outside.specs.declared.mark.Mark.{Mark}
use Rattle.mux_client.specs.declared.asks.Asks.{Asks}
use Rattle.mux_client.specs.Journal.{given_at, bytes_given, talk_ends_at, talk_has_ended, held_by, is_held_from, is_reply_held, TookFront, TalkWaitsRight, ThroughoutTalk, WaitOpen, AtEachMark, is_of_house}
use Rattle.mux_client.specs.Talking.{IsJournal}

-- ---- what the marks say

or-false : (b : Bool) → (b || false) ≡ b
or-false true = refl
or-false false = refl

pub given-more : (marks : List Mark) (m : Mark) → bytes_given (marks ++ m ∷ []) ≡ bytes_given marks ++ given_at m
given-more marks m = flat_map-append given_at marks (m ∷ []) ∙ ap (λ b. bytes_given marks ++ b) (append-nil (given_at m))

pub taken-more : (marks : List Mark) (m : Mark) → bytes_taken 0 (marks ++ m ∷ []) ≡ bytes_taken 0 marks ++ accepted_at_mark 0 m
taken-more marks m = flat_map-append (accepted_at_mark 0) marks (m ∷ []) ∙ ap (λ b. bytes_taken 0 marks ++ b) (append-nil (accepted_at_mark 0 m))

pub ended-more : (marks : List Mark) (m : Mark) → talk_has_ended (marks ++ m ∷ []) ≡ (talk_has_ended marks || talk_ends_at m)
ended-more marks m = list_any-append talk_ends_at marks (m ∷ []) ∙ ap (λ b. talk_has_ended marks || b) (or-false (talk_ends_at m))

held-from : (held : Bool) (marks : List Mark) (m : Mark) → is_held_from held (marks ++ m ∷ []) ≡ held_by (is_held_from held marks) m
held-from held [] m = refl
held-from held (mark ∷ marks) m = held-from (held_by held mark) marks m

pub held-more : (marks : List Mark) (m : Mark) → is_reply_held (marks ++ m ∷ []) ≡ held_by (is_reply_held marks) m
held-more marks m = held-from false marks m

-- ---- what holds at each mark

throughout-more : (asks : Asks) (before marks : List Mark) (m : Mark) → ThroughoutTalk asks before marks → TalkWaitsRight asks (before ++ marks) m → TookFront asks (before ++ (marks ++ m ∷ []))
    → ThroughoutTalk asks before (marks ++ m ∷ [])
throughout-more asks before [] m t right front = (subst (λ l. TalkWaitsRight asks l m) (append-nil before) right, front, tt)
throughout-more asks before (x ∷ marks) m t right front = (
  t.0,
  t.1,
  throughout-more asks (before ++ x ∷ []) marks m t.2
      (subst (λ l. TalkWaitsRight asks l m) (sym (append_assoc before (x ∷ []) marks)) right)
      (subst (TookFront asks) (sym (append_assoc before (x ∷ []) (marks ++ m ∷ []))) front),
)

each-more : (P : List Mark → Mark → Type 0) (before marks : List Mark) (m : Mark) → AtEachMark P before marks → P (before ++ marks) m → AtEachMark P before (marks ++ m ∷ [])
each-more P before [] m t p = (subst (λ l. P l m) (append-nil before) p, tt)
each-more P before (x ∷ marks) m t p = (t.0, each-more P (before ++ x ∷ []) marks m t.1 (subst (λ l. P l m) (sym (append_assoc before (x ∷ []) marks)) p))

pub journal-more : (asks : Asks) (marks : List Mark) (m : Mark) → IsJournal asks marks → TalkWaitsRight asks marks m → WaitOpen asks marks m → is_of_house m ≡ false → TookFront asks (marks ++ m ∷ []) → IsJournal asks (marks ++ m ∷ [])
journal-more asks marks m j right opens alone front = record {
  throughout = throughout-more asks [] marks m j.throughout right front;
  opens = each-more (WaitOpen asks) [] marks m j.opens opens;
  no_house = All-push (λ (mark : Mark). is_of_house mark ≡ false) marks m j.no_house alone;
}

-- ---- what is recorded

pub recorded-one : (start recorded : Option (List Mark)) (marks : List Mark) (m : Mark) → recorded ≡ option_map (λ l. l ++ marks) start → option_map (λ l. l ++ m ∷ []) recorded ≡ option_map (λ l. l ++ (marks ++ m ∷ [])) start
recorded-one None recorded marks m e = ap (option_map (λ (l : List Mark). l ++ m ∷ [])) e
recorded-one (Some s) recorded marks m e = ap (option_map (λ (l : List Mark). l ++ m ∷ [])) e ∙ ap (λ (l : List Mark). Some l) (append_assoc s marks (m ∷ []))

pub recorded-none : (recorded : Option (List Mark)) → option_map (λ m. m ++ []) recorded ≡ recorded
recorded-none None = refl
recorded-none (Some m) = ap (λ (l : List Mark). Some l) (append-nil m)

pub recorded-two : (a b : Mark) (recorded : Option (List Mark)) → option_map (λ m. m ++ (a ∷ b ∷ [])) recorded ≡ option_map (λ m. m ++ b ∷ []) (option_map (λ m. m ++ a ∷ []) recorded)
recorded-two a b None = refl
recorded-two a b (Some m) = ap (λ (l : List Mark). Some l) (sym (append_assoc m (a ∷ []) (b ∷ [])))
