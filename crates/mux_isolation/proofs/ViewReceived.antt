-- What a payload of the server gives a client is the same where the same is seen of it.
use Rattle.std.proofs.Common.{◌≡◌, ℕ, List, [], length, true, false, Bool, refl, ◌∙◌, ap, sym, Option, Some, None, Ok, Err}
use Rattle.std.specs.Prelude.{nat_lt, slice_get, Result}
use Rattle.ssh_grammar.specs.Frames.{frame_payload}
use Rattle.ssh_grammar.specs.SpellMessage.{open_failure, too_many_channels, with_recipient}
use Rattle.ssh_grammar.specs.declared.fault.Bad.{Bad}
use Rattle.ssh_grammar.specs.declared.numbers.TheConstants.{RESOURCE_SHORTAGE}
use Rattle.mux_history.specs.declared.limits.TheConstants.{MAX_CHANNELS}
use Rattle.mux_history.specs.Channels.{Channel, holder, is_number}
use Rattle.mux_history.specs.Farewell.{late, late_refusal, late_success, with_ask}
use Rattle.mux_history.specs.Summary.{Confirmation, Summary, Open, Refuses, Succeeds, Within, read_summary}
use Rattle.mux_history.specs.Heard.{for_client, for_lost, received_for, received_summary, own_number}
use Rattle.mux_history.specs.Requests.{asker, wanted_requests, replies}
use Rattle.mux_history.specs.Rows.{Row, is_lost}
use Rattle.mux_history.specs.Said.{Outcome, sends_payload, silent, records}
use Rattle.mux_history.proofs.AskersSteps.{first-of}
use Rattle.mux_isolation.specs.LogView.{ChannelView, LogView, channel_view}
use Rattle.mux_isolation.proofs.ViewSent.{SeenSame, count, found, own_view}

own-number : (a b : Option Channel) → SeenSame a b → own_number a ≡ own_number b
own-number None None same = refl
own-number (Some x) (Some y) same = ap (λ (v : ChannelView). elim v.own as (λ _. ℕ) [ None ↦ 0 | Some c ↦ c ]) (some-same (channel_view x) (channel_view y) same)
  where
    some-same : (v w : ChannelView) → Some v ≡ Some w → v ≡ w
    some-same v w e = cc
own-number None (Some y) same = cc
own-number (Some x) None same = cc

module _ (own others : List Row) (same : own_view own ≡ own_view others) where
  asker-same : asker own ≡ asker others
  asker-same = first-of (wanted_requests own) (length (replies own)) ∙ (ap (λ (v : LogView). slice_get v.unreplied 0) same ∙ sym (first-of (wanted_requests others) (length (replies others))))

  late-same : (m : Summary) → late m own ≡ late m others
  late-same (Succeeds rest) = ap (λ o. with_ask o (late_success rest)) asker-same
  late-same Refuses = ap (λ o. with_ask o late_refusal) asker-same
  late-same m = refl

  renamed-same : (p : List ℕ) (n : ℕ) → records (frame_payload (with_recipient p (own_number (holder own n)))) ≡ records (frame_payload (with_recipient p (own_number (holder others n))))
  renamed-same p n = ap (λ c. records (frame_payload (with_recipient p c))) (own-number (holder own n) (holder others n) (found own others same (λ v. is_number v.number n)))

  client-same : (p : List ℕ) (m : Summary) → for_client own p m ≡ for_client others p m
  client-same p (Open what s window maximum) = ap (λ n. elim (nat_lt n MAX_CHANNELS) as (λ _. Outcome) [ true ↦ records (frame_payload p) | false ↦ sends_payload (open_failure s RESOURCE_SHORTAGE too_many_channels) ]) (count own others same)
  client-same p (Confirmation n s w m) = renamed-same p n
  client-same p (Within n act) = renamed-same p n
  client-same p m = refl

  summary-same : (p : List ℕ) (m : Summary) → received_summary own p m ≡ received_summary others p m
  summary-same p m =
      ap (λ b. elim b as (λ _. Outcome) [ true ↦ for_lost own m | false ↦ for_client own p m ]) (ap (λ (v : LogView). v.lost) same)
      ∙ by_case (is_lost others)
    where
      by_case : (b : Bool) → (elim b as (λ _. Outcome) [ true ↦ for_lost own m | false ↦ for_client own p m ]) ≡ (elim b as (λ _. Outcome) [ true ↦ for_lost others m | false ↦ for_client others p m ])
      by_case true = ap (λ up. record { sent = up; recorded = []; ends = silent.ends }) (late-same m)
      by_case false = client-same p m

  pub heard-alike : (p : List ℕ) → received_for own p ≡ received_for others p
  heard-alike p = by_case (read_summary p)
    where
      by_case : (r : Result Summary Bad) → (elim r as (λ _. Outcome) [ Err bad ↦ silent | Ok m ↦ received_summary own p m ]) ≡ (elim r as (λ _. Outcome) [ Err bad ↦ silent | Ok m ↦ received_summary others p m ])
      by_case (Err bad) = refl
      by_case (Ok m) = summary-same p m
