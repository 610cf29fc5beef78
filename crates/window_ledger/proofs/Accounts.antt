-- The accounts of a channel go on by one act.
use Rattle.std.proofs.Common.{◌≡◌, ◌+◌, ◌-◌, ◌∷◌, true, false, refl, sym, ap, ◌∙◌, arith}
use Rattle.ssh_grammar.specs.declared.side.Side.{Side}
use Rattle.ssh_grammar.specs.declared.side.Side.TheVariants.{Up, Down}
use Rattle.mux_history.specs.Summary as summary
use Rattle.mux_history.specs.Channels.{Channel, any_by, is_closes}
use Rattle.mux_history.specs.Ledger.{reply_count, request_count, carried, first_window, granted_size, maximum_of, other_side, packet, room, unanswered}
use Rattle.mux_history.specs.Laws.{IsAccounted, IsWithin, with_act}
use Rattle.window_ledger.specs.Act.{summary_act_of}
use Rattle.window_ledger.specs.Stands.{account_of, speech_of}
use Rattle.window_ledger.specs.Step.{other_after, account_after}
use Rattle.window_ledger.specs.declared.account.Account.{Account}
use Rattle.window_ledger.specs.declared.account.Speech.{Speech}
use Rattle.window_ledger.specs.declared.account.Speech.TheVariants.{Closed, Ended}
use Rattle.window_ledger.specs.declared.act.Act.{Act}
use Rattle.window_ledger.specs.declared.act.Act.TheVariants.{Close, Data, Eof, Grant, Reply, Request}

-- two accounts, part by part
pub record AreSame (a b : Account) : Type 0 where
  pub rooms : a.room ≡ b.room
  pub packets : a.maximum ≡ b.maximum
  pub asks : a.unanswered ≡ b.unanswered
  pub spoken : a.speech ≡ b.speech

pub same : (a b : Account) → AreSame a b → a ≡ b
same a b parts = ap (λ r. record { room = r; maximum = a.maximum; unanswered = a.unanswered; speech = a.speech }) parts.rooms
    ∙ ap (λ m. record { room = b.room; maximum = m; unanswered = a.unanswered; speech = a.speech }) parts.packets
    ∙ ap (λ u. record { room = b.room; maximum = b.maximum; unanswered = u; speech = a.speech }) parts.asks
    ∙ ap (λ s. record { room = b.room; maximum = b.maximum; unanswered = b.unanswered; speech = s }) parts.spoken

-- ---- the direction of the act

own-room : (way : Side) (act : summary.Act) (x : Channel) → room way (with_act way act x) ≡ room way x - carried act
own-room Up act x = by_side x.by
  where
    by_side : (side : Side) → room Up (record x { by = side; acts = (Up, act) ∷ x.acts }) ≡ room Up (record x { by = side }) - carried act
    by_side Up = omega arith
    by_side Down = omega arith
own-room Down act x = by_side x.by
  where
    by_side : (side : Side) → room Down (record x { by = side; acts = (Down, act) ∷ x.acts }) ≡ room Down (record x { by = side }) - carried act
    by_side Up = omega arith
    by_side Down = omega arith

own-maximum : (way : Side) (act : summary.Act) (x : Channel) → maximum_of way (with_act way act x) ≡ maximum_of way x
own-maximum Up act x = by_side x.by
  where
    by_side : (side : Side) → maximum_of Up (record x { by = side; acts = (Up, act) ∷ x.acts }) ≡ maximum_of Up (record x { by = side })
    by_side Up = refl
    by_side Down = refl
own-maximum Down act x = by_side x.by
  where
    by_side : (side : Side) → maximum_of Down (record x { by = side; acts = (Down, act) ∷ x.acts }) ≡ maximum_of Down (record x { by = side })
    by_side Up = refl
    by_side Down = refl

own-asks : (way : Side) (act : summary.Act) (x : Channel) → IsAccounted way x → unanswered way (with_act way act x) ≡ unanswered way x + request_count act
own-asks Up act x sound = let fewer = sound.answered in omega arith
own-asks Down act x sound = let fewer = sound.answered in omega arith

-- what the speaker has ended is what it had ended before, but for an EOF or a CLOSE
abbrev pub speech_after : Act → Speech → Speech
speech_after Eof speech = Ended
speech_after Close speech = Closed
speech_after act speech = speech

abbrev pub MayEnd : Act → Side → Channel → Type 0
MayEnd Eof way x = any_by way is_closes x.acts ≡ false
MayEnd act way x = Unit {0}

own-speech : (way : Side) (act : Act) (x : Channel) → MayEnd act way x → speech_after act (speech_of way x) ≡ speech_of way (with_act way (summary_act_of act) x)
own-speech Up Eof x may = ap (λ b. elim b as (λ _. Speech) [ true ↦ Closed | false ↦ Ended ]) (sym may)
own-speech Down Eof x may = ap (λ b. elim b as (λ _. Speech) [ true ↦ Closed | false ↦ Ended ]) (sym may)
own-speech Up Close x may = refl
own-speech Down Close x may = refl
own-speech Up (Data size) x may = refl
own-speech Down (Data size) x may = refl
own-speech Up (Grant add) x may = refl
own-speech Down (Grant add) x may = refl
own-speech Up (Request want) x may = refl
own-speech Down (Request want) x may = refl
own-speech Up Reply x may = refl
own-speech Down Reply x may = refl

own-parts : (act : Act) (a : Account) → AreSame (account_after act a) (record { room = a.room - carried (summary_act_of act); maximum = a.maximum; unanswered = a.unanswered + request_count (summary_act_of act); speech = speech_after act a.speech })
own-parts (Data size) a = record { rooms = refl; packets = refl; asks = omega arith; spoken = refl }
own-parts (Grant add) a = record { rooms = omega arith; packets = refl; asks = omega arith; spoken = refl }
own-parts Eof a = record { rooms = omega arith; packets = refl; asks = omega arith; spoken = refl }
own-parts Close a = record { rooms = omega arith; packets = refl; asks = omega arith; spoken = refl }
own-parts (Request true) a = record { rooms = omega arith; packets = refl; asks = refl; spoken = refl }
own-parts (Request false) a = record { rooms = omega arith; packets = refl; asks = omega arith; spoken = refl }
own-parts Reply a = record { rooms = omega arith; packets = refl; asks = omega arith; spoken = refl }

pub own-goes : (way : Side) (act : Act) (x : Channel) → MayEnd act way x → IsAccounted way x → account_after act (account_of way x) ≡ account_of way (with_act way (summary_act_of act) x)
own-goes way act x may sound =
    let parts = own-parts act (account_of way x) in
    same (account_after act (account_of way x)) (account_of way (with_act way (summary_act_of act) x)) (record {
      rooms = parts.rooms ∙ sym (own-room way (summary_act_of act) x);
      packets = parts.packets ∙ sym (own-maximum way (summary_act_of act) x);
      asks = parts.asks ∙ sym (own-asks way (summary_act_of act) x sound);
      spoken = parts.spoken ∙ own-speech way act x may;
    })

-- ---- the other direction

other-room : (way : Side) (act : summary.Act) (x : Channel) → first_window act ≡ 0 → IsWithin (other_side way) x → room (other_side way) (with_act way act x) ≡ room (other_side way) x + granted_size act
other-room Up act x none within = by_side x.by within
  where
    by_side : (side : Side) → IsWithin Down (record x { by = side }) → room Down (record x { by = side; acts = (Up, act) ∷ x.acts }) ≡ room Down (record x { by = side }) + granted_size act
    by_side Up within = omega arith
    by_side Down within = omega arith
other-room Down act x none within = by_side x.by within
  where
    by_side : (side : Side) → IsWithin Up (record x { by = side }) → room Up (record x { by = side; acts = (Down, act) ∷ x.acts }) ≡ room Up (record x { by = side }) + granted_size act
    by_side Up within = omega arith
    by_side Down within = omega arith

other-maximum : (way : Side) (act : summary.Act) (x : Channel) → packet act ≡ 0 → maximum_of (other_side way) (with_act way act x) ≡ maximum_of (other_side way) x
other-maximum Up act x none = by_side x.by
  where
    by_side : (side : Side) → maximum_of Down (record x { by = side; acts = (Up, act) ∷ x.acts }) ≡ maximum_of Down (record x { by = side })
    by_side Up = refl
    by_side Down = omega arith
other-maximum Down act x none = by_side x.by
  where
    by_side : (side : Side) → maximum_of Up (record x { by = side; acts = (Down, act) ∷ x.acts }) ≡ maximum_of Up (record x { by = side })
    by_side Up = omega arith
    by_side Down = refl

other-asks : (way : Side) (act : summary.Act) (x : Channel) → unanswered (other_side way) (with_act way act x) ≡ unanswered (other_side way) x - reply_count act
other-asks Up act x = omega arith
other-asks Down act x = omega arith

other-speech : (way : Side) (act : summary.Act) (x : Channel) → speech_of (other_side way) x ≡ speech_of (other_side way) (with_act way act x)
other-speech Up act x = refl
other-speech Down act x = refl

other-parts : (act : Act) (a : Account) → AreSame (other_after act a) (record { room = a.room + granted_size (summary_act_of act); maximum = a.maximum; unanswered = a.unanswered - reply_count (summary_act_of act); speech = a.speech })
other-parts (Data size) a = record { rooms = omega arith; packets = refl; asks = omega arith; spoken = refl }
other-parts (Grant add) a = record { rooms = refl; packets = refl; asks = omega arith; spoken = refl }
other-parts Eof a = record { rooms = omega arith; packets = refl; asks = omega arith; spoken = refl }
other-parts Close a = record { rooms = omega arith; packets = refl; asks = omega arith; spoken = refl }
other-parts (Request want) a = record { rooms = omega arith; packets = refl; asks = omega arith; spoken = refl }
other-parts Reply a = record { rooms = omega arith; packets = refl; asks = refl; spoken = refl }

-- what the ledger accepts confirms nothing
no-window : (act : Act) → first_window (summary_act_of act) ≡ 0
no-window (Data size) = refl
no-window (Grant add) = refl
no-window Eof = refl
no-window Close = refl
no-window (Request want) = refl
no-window Reply = refl

no-packet : (act : Act) → packet (summary_act_of act) ≡ 0
no-packet (Data size) = refl
no-packet (Grant add) = refl
no-packet Eof = refl
no-packet Close = refl
no-packet (Request want) = refl
no-packet Reply = refl

pub other-goes : (way : Side) (act : Act) (x : Channel) → IsWithin (other_side way) x → other_after act (account_of (other_side way) x) ≡ account_of (other_side way) (with_act way (summary_act_of act) x)
other-goes way act x within =
    let parts = other-parts act (account_of (other_side way) x) in
    same (other_after act (account_of (other_side way) x)) (account_of (other_side way) (with_act way (summary_act_of act) x)) (record {
      rooms = parts.rooms ∙ sym (other-room way (summary_act_of act) x (no-window act) within);
      packets = parts.packets ∙ sym (other-maximum way (summary_act_of act) x (no-packet act));
      asks = parts.asks ∙ sym (other-asks way (summary_act_of act) x);
      spoken = parts.spoken ∙ other-speech way (summary_act_of act) x;
    })
