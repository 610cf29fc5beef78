-- What a dialog represents, from call to call.
use Rattle.std.proofs.Common.{◌≡◌, ◌≢◌, ◌∙◌, refl, sym, ap, subst, arith, ℕ, suc, ◌+◌, ◌<◌, ◌≤◌, List, [], ◌∷◌, ◌++◌, length, get_or, take, drop, add-zero, length-append, length-drop, drop-cons}
use Rattle.std.proofs.lemmas.List.{take-append-le, take_more, length-take-le}
use Rattle.socks_dialog.specs.Socks.{Dialog, socks}
use Rattle.socks_dialog.specs.State.{DialogState, dialog_bytes, dialog_pushed, step_in, gives_in, to_give, step_of, dialog_stepped, IsConnect, HasConnect, GivesConnect, DialogHistory, and_dialog_bytes, and_step, DialogRepresents, DialogGoesOn, IsNextStep, RestIs}
use Rattle.socks_dialog.specs.declared.outcome.Outcome.{Outcome}
use Rattle.socks_dialog.specs.declared.outcome.Outcome.TheVariants.{Wants, Connects, Breaks}
use Rattle.socks_dialog.proofs.Dialogs.{ended, socks-parse}
use Rattle.socks_dialog.proofs.Kept.{kept_alone, kept_outcome, kept_joins, kept_rest}

-- the dialog by what it kept is that of all bytes
same_dialog : (h : DialogHistory) (d : DialogState) → DialogRepresents h d → socks d.bytes ≡ ended (socks h.bytes)
same_dialog h d s = ap socks s.bytes ∙ kept_alone h.bytes

given_length : (h : DialogHistory) (d : DialogState) → DialogRepresents h d → length h.given ≡ d.given
given_length h d s = ap length s.given ∙ length-take-le d.given (socks h.bytes).replies s.some

-- ---- more bytes

pub stands_push : (piece : List ℕ) (d : DialogState) → DialogGoesOn d (dialog_pushed piece d) (and_dialog_bytes piece)
stands_push piece d = λ h s.
    let grown = socks-parse.grows h.bytes piece in
    record {
      bytes = ap (λ b. dialog_bytes (b ++ piece)) s.bytes ∙ kept_joins h.bytes piece;
      given = s.given
          ∙ sym (take-append-le d.given (socks h.bytes).replies grown.later s.some)
          ∙ ap (take d.given) (sym grown.is);
      some =
          let fits : d.given ≤ length (socks h.bytes).replies = s.some in
          omega (arith, ap length grown.is, length-append (socks h.bytes).replies grown.later);
    }

pub rest_push : (piece : List ℕ) (d : DialogState) (taken : ℕ)
    → length d.bytes + taken ≡ length (dialog_bytes (d.bytes ++ piece)) → RestIs d piece taken
rest_push piece d taken count = λ h s. kept_rest h.bytes d.bytes piece taken s.bytes count

-- ---- a step

pub stands_next : (d : DialogState) → IsNextStep d (step_of d)
stands_next d = λ h s.
    ap (λ (e : Dialog). step_in (to_give d.given e) e.outcome) (same_dialog h d s)
    ∙ ap (λ n. step_in (drop n (socks h.bytes).replies) (socks h.bytes).outcome) (sym (given_length h d s))

one_more : (R : List (List ℕ)) (g : ℕ) (reply : List ℕ) (more : List (List ℕ)) → drop g R ≡ reply ∷ more
    → (take (g + 1) R ≡ take g R ++ reply ∷ []) × (g < length R)
one_more R g reply more e =
    let inside : g < length R = omega (arith, ap length e, length-drop g R) in
    let here : drop g R ≡ get_or R g [] ∷ drop (suc g) R = drop-cons R g [] inside in
    let same : get_or R g [] ≡ reply = cc in
    (take_more R g [] inside ∙ ap (λ r. take g R ++ r ∷ []) same, inside)

still : (h : DialogHistory) (d : DialogState) → DialogRepresents h d → DialogRepresents h (record d { given = d.given + 0 })
still h d s = subst (λ n. DialogRepresents h (record d { given = n })) (sym (add-zero d.given)) s

stands_left : (h : DialogHistory) (d : DialogState) → DialogRepresents h d → (left : List (List ℕ))
    → drop d.given (socks h.bytes).replies ≡ left → (o : Outcome)
    → DialogRepresents (and_step (step_in left o) h) (record d { given = d.given + gives_in left })
stands_left h d s [] e Wants = still h d s
stands_left h d s [] e (Connects host port) = still h d s
stands_left h d s [] e (Breaks reply) = still h d s
stands_left h d s (reply ∷ more) e o =
    let one = one_more (socks h.bytes).replies d.given reply more e in
    record {
      bytes = s.bytes;
      given = ap (λ g. g ++ reply ∷ []) s.given ∙ sym one.0;
      some = let inside : d.given < length (socks h.bytes).replies = one.1 in omega arith;
    }

pub stands_step : (d : DialogState) → DialogGoesOn d (dialog_stepped d) (and_step (step_of d))
stands_step d = λ h s.
    subst (λ (e : Dialog). DialogRepresents (and_step (step_in (to_give d.given e) e.outcome) h)
    (record d { given = d.given + gives_in (to_give d.given e) }))
    (sym (same_dialog h d s))
    (stands_left h d s (drop d.given (socks h.bytes).replies) refl (socks h.bytes).outcome)

-- ---- an end that was given

connect_in : (left : List (List ℕ)) (o : Outcome) → GivesConnect (step_in left o) → IsConnect o
connect_in (reply ∷ more) o given = absurd given
connect_in [] Wants given = absurd given
connect_in [] (Connects host port) given = tt
connect_in [] (Breaks reply) given = absurd given

pub connect_given : (d : DialogState) → GivesConnect (step_of d) → HasConnect (dialog_stepped d)
connect_given d given = connect_in (to_give d.given (socks d.bytes)) (socks d.bytes).outcome given

not_wanting : (o : Outcome) → IsConnect o → o ≢ Wants
not_wanting Wants there = absurd there
not_wanting (Connects host port) there = λ e. cc
not_wanting (Breaks reply) there = absurd there

pub connect_stays : (piece : List ℕ) (d : DialogState) → HasConnect d → HasConnect (dialog_pushed piece d)
connect_stays piece d there =
    let same : (socks (dialog_bytes (d.bytes ++ piece))).outcome ≡ (socks d.bytes).outcome =
    kept_outcome (d.bytes ++ piece)
    ∙ ap (λ (e : Dialog). e.outcome) (socks-parse.stays d.bytes piece (not_wanting (socks d.bytes).outcome there)) in
    subst IsConnect (sym same) there
