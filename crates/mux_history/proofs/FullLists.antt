-- The worked limits, from lengths.
use Rattle.std.proofs.Common.{◌≡◌, [], true, false, ◌∙◌, ap, sym, take, drop, length}
use Rattle.std.specs.Prelude.{nat_le, nat_lt, codes}
use Rattle.std.proofs.lemmas.List.{append-nil}
use Rattle.std.proofs.Math.Seq.{drop-append_seam, take-append_seam}
use Rattle.ssh_grammar.specs.Frames.{Front, Frame, More}
use Rattle.ssh_grammar.specs.Messages.{Session}
use Rattle.mux_history.specs.declared.why.Why.TheVariants.{TooManyAsks}
use Rattle.mux_history.specs.Said.{Outcome, sends_payload, drops, sends_as, fails_open, sends_open, open_outcome, on_unused}
use Rattle.mux_history.specs.WorkedLimits.{FullOfChannels, OneMoreAsk, OneAskTooMany, LongestFrame, payload_of_frame, keepalive}
use Rattle.mux_history.specs.WorkedProxy.{session}

pub full-of-channels : FullOfChannels
full-of-channels policy k pick own may full unused =
    ap (on_unused 300 (open_outcome policy own pick (payload_of_frame (session 300)) 300 Session)) unused
    ∙ (ap (λ b. elim b as (λ _. Outcome) [ true ↦ sends_open own pick (payload_of_frame (session 300)) 300 | false ↦ fails_open 300 1 (codes "not permitted") ]) may
    ∙ ap (λ n. elim (nat_lt n 256) as (λ _. Outcome) [ true ↦ sends_as pick (payload_of_frame (session 300)) | false ↦ fails_open 300 4 (codes "too many channels") ]) full)

pub one-more-ask : OneMoreAsk
one-more-ask policy k pick own few = ap (λ n. elim (nat_le 1024 n) as (λ _. Outcome) [ true ↦ drops (TooManyAsks 1024) | false ↦ sends_payload keepalive ]) few

pub one-ask-too-many : OneAskTooMany
one-ask-too-many policy k pick own many = ap (λ n. elim (nat_le 1024 n) as (λ _. Outcome) [ true ↦ drops (TooManyAsks 1024) | false ↦ sends_payload keepalive ]) many

pub longest-frame : LongestFrame
longest-frame payload long =
    ap (λ n. elim (nat_le 262143 n) as (λ _. Front) [ true ↦ Frame (take 262143 payload) (drop 262143 payload) | false ↦ More ]) long
    ∙ (ap (λ n. Frame (take n payload) (drop n payload)) (sym long) ∙ (ap (λ x. Frame x (drop (length payload) payload)) all ∙ ap (Frame payload) none))
  where
    all : take (length payload) payload ≡ payload
    all = ap (take (length payload)) (sym (append-nil payload)) ∙ take-append_seam payload []

    none : drop (length payload) payload ≡ []
    none = ap (drop (length payload)) (sym (append-nil payload)) ∙ drop-append_seam payload []
