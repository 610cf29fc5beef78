-- A dialog gives its replies, and receives more bytes.
use Rattle.std.proofs.Common.{◌≡◌, ◌≢◌, ◌∙◌, refl, sym, ap, subst, arith, ℕ, ◌+◌, ◌-◌, ◌≤◌, List, [], ◌∷◌, ◌++◌, length, take, drop, append_assoc, length-append, length-drop, drop_of_length-le}
use Rattle.std.proofs.Math.Seq.{drop-append_seam, take-length}
use Rattle.std.proofs.lemmas.List.{append-nil}
use Rattle.std.proofs.lemmas.List.Folds.{concat-append}
use Rattle.std.specs.List.{concat}
use Rattle.std.specs.Prelude.{slice_index}
use Rattle.proxy_frames.specs.Queued.{with_bytes}
use Rattle.proxy_frames.specs.State.{QueueState}
use Rattle.socks_dialog.specs.Socks.{Dialog, socks}
use Rattle.socks_dialog.specs.State.{DialogState, dialog_bytes, dialog_pushed, step_in, step_to, step_of, dialog_stepped, gives_in, version_of, DialogHistory, DialogRepresents, RestIs}
use Rattle.socks_dialog.specs.declared.outcome.Outcome.{Outcome}
use Rattle.socks_dialog.specs.declared.outcome.Outcome.TheVariants.{Wants, Connects, Breaks}
use Rattle.socks_dialog.specs.declared.step.DialogStep.{DialogStep}
use Rattle.socks_dialog.specs.declared.step.DialogStep.TheVariants as step
use Rattle.socks_dialog.proofs.Dialogs.{ended, socks-parse}
use Rattle.socks_dialog.proofs.Few.{socks-few}
use Rattle.socks_dialog.proofs.Kept.{kept_alone, kept_wanting, kept_outcome, kept_whole}
use Rattle.house_relay.specs.Acts.{Unanswered, outcome_in, before_in, behind_in, last_reply, replies_in}
use Rattle.house_relay.specs.Dialing.{replies_left_in, GivesAll, GaveSome, IsCame, IsDialogReading, DialogCameTo, AreBytesReceived}
use Rattle.house_relay.specs.declared.dialing.Came.{Came}

-- ---- replies

-- an outcome is no reply
pub no_reply : (o : Outcome) (reply : List ℕ) → step_to o ≡ step.Reply reply → ⊥
no_reply Wants reply e = cc
no_reply (Connects host port) reply e = cc
no_reply (Breaks r) reply e = cc

nothing_in : (xs : List (List ℕ)) → length xs ≡ 0 → xs ≡ []
nothing_in [] e = refl
nothing_in (x ∷ xs) e = absurd (omega arith)

-- where all were given, the outcome is the next step
gives_none : (d : DialogState) (n : ℕ) → drop (d.given + n) (socks d.bytes).replies ≡ []
    → (step_of (record d { given = d.given + n }) ≡ step_to (socks d.bytes).outcome)
    × (dialog_stepped (record d { given = d.given + n }) ≡ record d { given = d.given + n + 0 })
gives_none d n none = (
  ap (λ left. step_in left (socks d.bytes).outcome) none,
  ap (λ left. record d { given = d.given + n + gives_in left }) none,
)

-- a reply, and then the outcome
pub gives_one : (d : DialogState) (reply : List ℕ) (queue : QueueState) → GaveSome d → step_of d ≡ step.Reply reply
    → GivesAll d (dialog_stepped (dialog_stepped d)) (step_of (dialog_stepped d)) queue (with_bytes reply queue)
unfolding before_in outcome_in
gives_one d reply queue some is = by_left (drop d.given all) refl
  where
    all : List (List ℕ)
    all = (socks d.bytes).replies

    by_left : (left : List (List ℕ)) → drop d.given all ≡ left
        → GivesAll d (dialog_stepped (dialog_stepped d)) (step_of (dialog_stepped d)) queue (with_bytes reply queue)
    by_left [] e = absurd (no_reply (socks d.bytes).outcome reply
        (sym (ap (λ left. step_in left (socks d.bytes).outcome) e) ∙ is))
    by_left (first ∷ more) e =
        let few : length all ≤ 1 = socks-few d.bytes in
        let within : d.given ≤ length all = some in
        let size : length (drop d.given all) ≡ length all - d.given = length-drop d.given all in
        let last : length more ≡ 0 = omega (arith, ap length e) in
        let one : d.given + 1 ≡ length all = omega (arith, ap length e) in
        let none : drop (d.given + 1) all ≡ [] = drop_of_length-le all (omega arith) in
        let alone : more ≡ [] = nothing_in more last in
        let first_is : step.Reply first ≡ step.Reply reply =
        sym (ap (λ left. step_in left (socks d.bytes).outcome) e) ∙ is in
        let same : reply ≡ first = cc in
        let mid : dialog_stepped d ≡ record d { given = d.given + 1 } = ap (λ left. record d { given = d.given + gives_in left }) e in
        let then = gives_none d 1 none in
        record {
          outcome = ap step_of mid ∙ then.0;
          bytes = refl;
          given = ap (λ (s : DialogState). (dialog_stepped s).given) mid ∙ ap (λ (s : DialogState). s.given) then.1 ∙ omega arith;
          waiting = ap (λ r. with_bytes r queue)
              (same ∙ sym (append-nil first) ∙ ap (λ m. first ++ concat m) (sym alone) ∙ ap concat (sym e));
        }

-- no reply, and the outcome
pub gives_outcome : (d : DialogState) (queue : QueueState) → GaveSome d
    → ((reply : List ℕ) → step_of d ≡ step.Reply reply → ⊥) → GivesAll d (dialog_stepped d) (step_of d) queue queue
unfolding before_in outcome_in
gives_outcome d queue some not_reply = by_left (drop d.given all) refl
  where
    all : List (List ℕ)
    all = (socks d.bytes).replies

    by_left : (left : List (List ℕ)) → drop d.given all ≡ left → GivesAll d (dialog_stepped d) (step_of d) queue queue
    by_left (first ∷ more) e = absurd (not_reply first (ap (λ left. step_in left (socks d.bytes).outcome) e))
    by_left [] e =
        let within : d.given ≤ length all = some in
        let size : length (drop d.given all) ≡ length all - d.given = length-drop d.given all in
        let every : d.given ≡ length all = omega (arith, ap length e) in
        record {
          outcome = ap (λ left. step_in left (socks d.bytes).outcome) e;
          bytes = refl;
          given = ap (λ left. d.given + gives_in left) e ∙ omega arith;
          waiting = ap (λ w. record queue { waiting = w }) (sym (append-nil queue.waiting))
              ∙ ap (λ left. with_bytes (concat left) queue) (sym e);
        }

-- ---- more bytes

-- the first byte of a dialog that has an outcome is that of all bytes
first_in : (kept rest all : List ℕ) → all ≡ kept ++ rest → outcome_in kept ≢ Wants → slice_index kept 0 ≡ slice_index all 0
unfolding outcome_in
first_in [] rest all e ne = absurd (ne refl)
first_in (x ∷ kept) rest all e ne = ap (λ bytes. slice_index bytes 0) (sym e)

not_wanting : (bytes : List ℕ) (host : List ℕ) (port : ℕ) → outcome_in bytes ≡ Connects host port → outcome_in bytes ≢ Wants
not_wanting bytes host port e w = no_wants (sym e ∙ w)
  where
    no_wants : Connects host port ≡ Wants → ⊥
    no_wants f = cc

-- the outcome of a step, where it is the outcome of all bytes
came_to : (o : Outcome) (version first : ℕ) (came : Came) (bytes : List ℕ) (new : DialogState) (queue queue' : QueueState)
    → outcome_in bytes ≡ o → IsCame (step_to o) version came queue queue'
    → (o ≢ Wants → version ≡ slice_index bytes 0)
    → (o ≡ Wants → (new.bytes ≡ bytes) × (new.given ≡ length (before_in bytes)))
    → DialogCameTo came bytes new × (queue'.waiting ≡ queue.waiting ++ last_reply o first Unanswered)
came_to Wants version first came bytes new queue queue' e is speaks reads = (
  subst (λ (c : Came). DialogCameTo c bytes new) (sym is.0) (e, (reads refl).0, (reads refl).1),
  ap (λ (q : QueueState). q.waiting) is.1 ∙ sym (append-nil queue.waiting),
)
came_to (Connects host port) version first came bytes new queue queue' e is speaks reads = (
  subst (λ (c : Came). DialogCameTo c bytes new) (sym is.0) (e, speaks (λ f. not_wanting bytes host port e (e ∙ f))),
  ap (λ (q : QueueState). q.waiting) is.1 ∙ sym (append-nil queue.waiting),
)
came_to (Breaks reply) version first came bytes new queue queue' e is speaks reads = (
  subst (λ (c : Came). DialogCameTo c bytes new) (sym is.0) (reply, e),
  ap (λ (q : QueueState). q.waiting) is.1,
)

pub receives : (old mid new : DialogState) (piece : List ℕ) (count : ℕ) (s : DialogStep) (came : Came) (queue queue1 queue2 : QueueState)
    → mid ≡ dialog_pushed piece old → RestIs old piece count
    → (GaveSome mid → GivesAll mid new s queue queue1)
    → IsCame s (version_of new) came queue1 queue2 → IsDialogReading old
    → AreBytesReceived old new piece (record { count = count; came = came }) queue queue2
unfolding before_in outcome_in behind_in replies_in
receives old mid new piece count s came queue queue1 queue2 is rest gives comes reads =
    let all = old.bytes ++ piece in
    let kept : mid.bytes ≡ dialog_bytes all = ap (λ (d : DialogState). d.bytes) is in
    let had : mid.given ≡ length (socks old.bytes).replies = ap (λ (d : DialogState). d.given) is ∙ reads.given in
    let same : socks mid.bytes ≡ ended (socks all) = ap socks kept ∙ kept_alone all in
    let every : (socks mid.bytes).replies ≡ (socks all).replies = ap (λ (d : Dialog). d.replies) same in
    let came_out : (socks mid.bytes).outcome ≡ (socks all).outcome = ap (λ (d : Dialog). d.outcome) same in
    let grown = socks-parse.grows old.bytes piece in
    let later = grown.later in
    let sizes : length (socks all).replies ≡ length (socks old.bytes).replies + length later =
    ap length grown.is ∙ length-append (socks old.bytes).replies later in
    let given = gives (omega (arith, ap length every)) in
    let left : replies_left_in mid ≡ concat later =
    ap (λ n. concat (drop n (socks mid.bytes).replies)) had
    ∙ ap (λ r. concat (drop (length (socks old.bytes).replies) r)) (every ∙ grown.is)
    ∙ ap concat (drop-append_seam (socks old.bytes).replies later) in
    let queued : queue1.waiting ≡ queue.waiting ++ concat later =
    ap (λ (q : QueueState). q.waiting) given.waiting ∙ ap (λ r. queue.waiting ++ r) left in
    let stepped_to : s ≡ step_to (socks all).outcome = given.outcome ∙ ap step_to came_out in
    let new_kept : new.bytes ≡ dialog_bytes all = given.bytes ∙ kept in
    let then = came_to (socks all).outcome (version_of new) (slice_index all 0) came all new queue1 queue2 refl
    (subst (λ (t : DialogStep). IsCame t (version_of new) came queue1 queue2) stepped_to comes)
    (λ ne. ap (λ bytes. slice_index bytes 0) new_kept
    ∙ first_in (dialog_bytes all) (socks all).rest all (kept_whole all) (λ w. ne (sym (kept_outcome all) ∙ w)))
    (λ w. (new_kept ∙ kept_wanting all w, given.given ∙ ap length every)) in
    let last = last_reply (socks all).outcome (slice_index all 0) Unanswered in
    let history : DialogHistory = record { bytes = old.bytes; given = (socks old.bytes).replies } in
    let stands : DialogRepresents history old = record {
      bytes = sym (kept_wanting old.bytes reads.wants);
      given = sym (ap (λ n. take n (socks old.bytes).replies) reads.given ∙ take-length (socks old.bytes).replies);
      some = omega (arith, reads.given);
    } in
    let none : (socks old.bytes).rest ≡ [] = (socks-parse.front old.bytes).wanting reads.wants in
    record {
      came = then.0;
      behind = rest history stands ∙ ap (λ r. r ++ drop count piece) none;
      more = concat later ++ last;
      waiting = then.1 ∙ ap (λ q. q ++ last) queued ∙ append_assoc queue.waiting (concat later) last;
      replies = ap (λ r. concat r ++ last) grown.is
          ∙ ap (λ r. r ++ last) (concat-append (socks old.bytes).replies later)
          ∙ append_assoc (concat (socks old.bytes).replies) (concat later) last
          ∙ ap (λ r. r ++ (concat later ++ last)) (sym (append-nil (concat (socks old.bytes).replies)))
          ∙ ap (λ o. (concat (socks old.bytes).replies ++ last_reply o (slice_index old.bytes 0) Unanswered) ++ (concat later ++ last)) (sym reads.wants);
    }
