-- What an answer means, by what is asked.
use Rattle.std.proofs.Common.{◌≡◌, ◌∙◌, refl, sym, ap, subst, ℕ, zero, suc, Bool, true, false, List, [], ◌∷◌, Option, Some, None}
use Rattle.std.specs.Prelude.{slice_get}
use Rattle.std.specs.Option.{option_map}
use Rattle.std.proofs.lemmas.Option.{slice_get-map}
use Rattle.ssh_grammar.specs.Control.{ForwardAsk, Answer, Greets}
use Rattle.ssh_grammar.specs.ReadAnswer.{read_answer}
use Rattle.mux_outside.specs.declared.start_ask.StartAsk.{StartAsk}
use Rattle.mux_client.specs.declared.asks.Asks.{Asks}
use Rattle.mux_client.specs.declared.asks.Asks.TheVariants.{Check, Exit, Stop, Forwards}
use Rattle.mux_client.specs.declared.answer.Answer.{Answer as Read}
use Rattle.mux_client.specs.declared.verdict.ReplyVerdict.{ReplyVerdict as TheVerdict}
use Rattle.mux_client.specs.Requests.{Request, Checks, Exits, TalkStops, Opens, Closes, forward_of, forward_request, request_at}
use Rattle.mux_client.specs.Replies.{verdict, verdict_on}
use Rattle.mux_client.specs.Answers.{GivesAnswer, read_of_answer}
use Rattle.mux_client.specs.Verdicts.{meant_by, verdict_by}

-- the requests of what is asked
abbrev IsForward : Bool → Request → Type 0
IsForward true r = (what : ForwardAsk) × (r ≡ Opens what)
IsForward false r = (what : ForwardAsk) × (r ≡ Closes what)

abbrev IsOf : Asks → Request → Type 0
IsOf Check r = r ≡ Checks
IsOf Exit r = r ≡ Exits
IsOf Stop r = r ≡ TalkStops
IsOf (Forwards opening what) r = IsForward opening r

only : (x r : Request) (id : ℕ) → slice_get (x ∷ []) id ≡ Some r → r ≡ x
only x r zero e = cc
only x r (suc id) e = absurd (cc)

is-forward : (opening : Bool) (a : StartAsk) (r : Request) → Some (forward_request opening a) ≡ Some r → IsForward opening r
is-forward true a r e = (forward_of a, cc)
is-forward false a r e = (forward_of a, cc)

mapped : (opening : Bool) (o : Option StartAsk) (r : Request) → option_map (forward_request opening) o ≡ Some r → IsForward opening r
mapped opening None r e = absurd (cc)
mapped opening (Some a) r e = is-forward opening a r e

is-of : (asks : Asks) (id : ℕ) (r : Request) → request_at asks id ≡ Some r → IsOf asks r
is-of Check id r e = only Checks r id e
is-of Exit id r e = only Exits r id e
is-of Stop id r e = only TalkStops r id e
is-of (Forwards opening what) id r e =
    mapped opening (slice_get what id) r (sym (slice_get-map (forward_request opening) what id) ∙ e)

-- each answer means the same by what is asked and by the request
abbrev Same : Asks → Request → ℕ → Answer → Type 0
Same asks r id answer = verdict_by asks id (read_of_answer answer) ≡ verdict_on r id (Some answer)

on-check : (id : ℕ) (answer : Answer) → Same Check Checks id answer
on-check id (Greets version) = refl
on-check id answer = refl

on-exit : (id : ℕ) (answer : Answer) → Same Exit Exits id answer
on-exit id (Greets version) = refl
on-exit id answer = refl

on-stop : (id : ℕ) (answer : Answer) → Same Stop TalkStops id answer
on-stop id (Greets version) = refl
on-stop id answer = refl

on-open : (what : List StartAsk) (ask : ForwardAsk) (id : ℕ) (answer : Answer) → Same (Forwards true what) (Opens ask) id answer
on-open what ask id (Greets version) = refl
on-open what ask id answer = refl

on-close : (what : List StartAsk) (ask : ForwardAsk) (id : ℕ) (answer : Answer) → Same (Forwards false what) (Closes ask) id answer
on-close what ask id (Greets version) = refl
on-close what ask id answer = refl

same : (asks : Asks) (r : Request) (id : ℕ) (answer : Answer) → IsOf asks r → Same asks r id answer
same Check r id answer h = subst (λ q. Same Check q id answer) (sym h) (on-check id answer)
same Exit r id answer h = subst (λ q. Same Exit q id answer) (sym h) (on-exit id answer)
same Stop r id answer h = subst (λ q. Same Stop q id answer) (sym h) (on-stop id answer)
same (Forwards true what) r id answer h = subst (λ q. Same (Forwards true what) q id answer) (sym h.1) (on-open what h.0 id answer)
same (Forwards false what) r id answer h = subst (λ q. Same (Forwards false what) q id answer) (sym h.1) (on-close what h.0 id answer)

-- an answer that was read
pub means : (asks : Asks) (r : Request) (id : ℕ) (body : List ℕ) (answer : Read) (v : TheVerdict) → GivesAnswer (Some answer) (read_answer body)
    → meant_by v ≡ verdict_by asks id answer → request_at asks id ≡ Some r → meant_by v ≡ verdict r id body
means asks r id body answer v gives meant asked =
    meant ∙ ap (verdict_by asks id) gives.2 ∙ same asks r id gives.0 (is-of asks id r asked) ∙ ap (verdict_on r id) (sym gives.1)
