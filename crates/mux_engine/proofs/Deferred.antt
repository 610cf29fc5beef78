-- A request that is open was deferred.
use Rattle.std.proofs.Common.{◌≡◌, ℕ, Bool, true, false, ◌||◌, ◌&&◌, List, [], ◌∷◌, ◌++◌, refl, sym, ap, ◌∙◌, subst, append_assoc, append-nil}
use Rattle.std.specs.Prelude.{◌==◌, All, IsTrue}
use Rattle.std.specs.List.{list_any}
use Rattle.std.proofs.lemmas.List.Elements.{All-nil, All-push}
use Rattle.std.proofs.lemmas.List.Folds.{list_any-append}
use Rattle.mux_outside.specs.House.{OpenAsk}
use Rattle.mux_outside.specs.declared.house.HouseReply.{HouseReply}
use Rattle.mux_outside.specs.declared.house.HouseReply.TheVariants.{Done, Port, Refused, Later}
use Rattle.mux_outside.specs.declared.house_mark.HouseMark.{HouseMark}
use Rattle.mux_outside.specs.declared.house_mark.HouseMark.TheVariants.{HouseIn, HouseSaid, HouseTook, HouseAsked, HouseAnswer, HouseOrder}
use Rattle.mux_outside.specs.declared.mark.Mark.{Mark}
use Rattle.mux_history.specs.Journal.{log_of_journal}
use Rattle.mux_history.specs.Log.{Setting}
use Rattle.mux_peers.specs.Asked.{asks_of_rows}
use Rattle.mux_engine.specs.Answers.{AnswersOne, opens_after, requests_after_mark}
use Rattle.mux_engine.specs.Sides.{ask_marks_in, house_marks}
use Rattle.mux_engine.proofs.HouseTurns.{reply-so, rest-so}
use Rattle.mux_engine.proofs.Lists.{or-true, test-same}

-- the forwarder deferred this client's request with this id
abbrev pub is_deferred : ℕ → ℕ → HouseMark → Bool
is_deferred client id (HouseAsked k i opening ask Later) = (k == client) && (i == id)
is_deferred client id mark = false

-- it did so with each of these open requests
abbrev EachDeferred : List HouseMark → List OpenAsk → Type 0
EachDeferred asks opens = All (λ (a : OpenAsk). IsTrue (list_any (is_deferred a.client a.id) asks)) opens

any-front : (P : HouseMark → Bool) (asks more : List HouseMark) → list_any P asks ≡ true → list_any P (asks ++ more) ≡ true
any-front P asks more e = list_any-append P asks more ∙ ap (λ b. b || list_any P more) e

-- what was deferred stays so
deferred-more : (asks more : List HouseMark) (opens : List OpenAsk) → EachDeferred asks opens → EachDeferred (asks ++ more) opens
deferred-more asks more opens all k d lt = any-front _ asks more (all k d lt)

-- the last request, where it was
deferred-last : (front : List HouseMark) (client id : ℕ) (ask : HouseMark) → is_deferred client id ask ≡ true → list_any (is_deferred client id) (front ++ ask ∷ []) ≡ true
deferred-last front client id ask e = list_any-append (is_deferred client id) front (ask ∷ []) ∙ (ap (λ b. list_any (is_deferred client id) front || (b || false)) e ∙ or-true (list_any (is_deferred client id) front))

-- each open request was
opens-deferred : (front marks : List HouseMark) (opens : List OpenAsk) → EachDeferred front opens → EachDeferred (front ++ marks) (opens_after marks opens)
opens-deferred front [] opens all = subst (λ (l : List HouseMark). EachDeferred l opens) (sym (append-nil front)) all
opens-deferred front (mark ∷ marks) opens all =
    subst (λ (l : List HouseMark). EachDeferred l (opens_after marks (requests_after_mark mark opens))) (append_assoc front (mark ∷ []) marks)
    (opens-deferred (front ++ mark ∷ []) marks (requests_after_mark mark opens) (by_mark mark (deferred-more front (mark ∷ []) opens all)))
  where
    by_mark : (mark : HouseMark) → EachDeferred (front ++ mark ∷ []) opens → EachDeferred (front ++ mark ∷ []) (requests_after_mark mark opens)
    by_mark (HouseAsked client id opening what Later) h =
        All-push (λ (a : OpenAsk). IsTrue (list_any (is_deferred a.client a.id) (front ++ HouseAsked client id opening what Later ∷ []))) opens (record { client = client; id = id; opening = opening }) h
        (deferred-last front client id (HouseAsked client id opening what Later) (ap (λ b. b && (id == id)) (test-same client) ∙ test-same id))
    by_mark (HouseAsked client id opening what Done) h = h
    by_mark (HouseAsked client id opening what (Port port)) h = h
    by_mark (HouseAsked client id opening what Refused) h = h
    by_mark HouseIn h = h
    by_mark (HouseSaid bytes) h = h
    by_mark (HouseTook n) h = h
    by_mark (HouseAnswer client id reply) h = rest-so (λ (a : OpenAsk). IsTrue (list_any (is_deferred a.client a.id) (front ++ HouseAnswer client id reply ∷ []))) client id opens h
    by_mark (HouseOrder order number) h = h

-- by one of its requests
asks-deferred : (client id : ℕ) (marks : List HouseMark) → list_any (is_deferred client id) marks ≡ list_any (is_deferred client id) (ask_marks_in marks)
asks-deferred client id [] = refl
asks-deferred client id (HouseAsked k i opening what reply ∷ marks) = ap (λ b. is_deferred client id (HouseAsked k i opening what reply) || b) (asks-deferred client id marks)
asks-deferred client id (HouseIn ∷ marks) = asks-deferred client id marks
asks-deferred client id (HouseSaid bytes ∷ marks) = asks-deferred client id marks
asks-deferred client id (HouseTook n ∷ marks) = asks-deferred client id marks
asks-deferred client id (HouseAnswer k i reply ∷ marks) = asks-deferred client id marks
asks-deferred client id (HouseOrder order number ∷ marks) = asks-deferred client id marks

-- what is answered later was deferred
pub answer-deferred : (setting : Setting) (before : List Mark) (client id : ℕ) (reply : HouseReply) → AnswersOne setting before client id reply → list_any (is_deferred client id) (asks_of_rows (log_of_journal setting before)) ≡ true
answer-deferred setting before client id reply h =
    sym (asks-deferred client id (house_marks before) ∙ ap (list_any (is_deferred client id)) h.asked)
    ∙ reply-so (λ k i. list_any (is_deferred k i) (house_marks before) ≡ true) reply client id (opens_after (house_marks before) []) h.fits
    (opens-deferred [] (house_marks before) [] (All-nil (λ (a : OpenAsk). IsTrue (list_any (is_deferred a.client a.id) []))))
