-- A socket gives bytes: to a dialog, or to a channel.
use Rattle.std.proofs.Common.{◌≡◌, ◌≢◌, inl, inr, ◌∙◌, refl, sym, ap, subst, arith, ℕ, ◌+◌, ◌-◌, ◌≤◌, Bool, true, false, List, [], ◌∷◌, ◌++◌, length, drop, append_assoc, length-append, length-drop, IsTrue, Option, Some, None}
use Rattle.std.specs.Prelude.{slice_index}
use Rattle.std.proofs.lemmas.List.{append-nil}
use Rattle.std.specs.List.{concat}
use Rattle.proxy_frames.specs.State.{QueueState}
use Rattle.mux_outside.specs.declared.piece.TheConstants.{LONGEST_PIECE}
use Rattle.socks_dialog.specs.Laws.{followed}
use Rattle.socks_dialog.specs.Socks.{Dialog, socks}
use Rattle.socks_dialog.specs.State.{DialogState, IsConnect}
use Rattle.socks_dialog.specs.declared.outcome.Outcome.{Outcome}
use Rattle.socks_dialog.specs.declared.outcome.Outcome.TheVariants.{Wants, Connects, Breaks}
use Rattle.socks_dialog.proofs.Dialogs.{socks-parse}
use Rattle.house_relay.specs.Acts.{RelayAct, Reads, OpenAnswer, Unanswered, answer, read, all_data_sent, delivered, socket_accepted, accepted_length, adjusted, socket_has_ended, sent_eof, outcome_in, before_in, behind_in, last_reply, replies_in, replies_if, dialog_replies, behind_if}
use Rattle.house_relay.specs.Dialing.{DialogCameTo, AreBytesReceived, IsDialogReading}
use Rattle.house_relay.specs.Relay.{RelayRepresents, LineStands, IsDialing, IsDialogSettled, HasAsked, DialogWaitsFor, NothingYet, RelayMayRead, holding}
use Rattle.house_relay.specs.declared.dialing.Came.{Came}
use Rattle.house_relay.specs.declared.dialing.Came.TheVariants.{Nothing, Connect, Fault}
use Rattle.house_relay.specs.declared.dialing.DialogReceived.{DialogReceived}
use Rattle.house_relay.specs.declared.line.ChannelState.{ChannelState}
use Rattle.house_relay.specs.declared.line.ChannelState.TheVariants.{Dialing, Asked, Opened, Offered, Live, Over}
use Rattle.house_relay.specs.declared.relay.Relay.{Relay}
use Rattle.house_relay.specs.declared.relay.RelaySocket.{RelaySocket}
use Rattle.house_relay.proofs.Comings.{LineAfter}

-- ---- a dialog that has an outcome

true_is : (P : Type 0) → true ≡ false → P
true_is P e = cc

no_connects : (o : Outcome) (host : List ℕ) (port : ℕ) → o ≡ Connects host port → o ≢ Wants
no_connects o host port e w = clash (sym e ∙ w)
  where
    clash : Connects host port ≡ Wants → ⊥
    clash f = cc

no_breaks : (o : Outcome) (reply : List ℕ) → o ≡ Breaks reply → o ≢ Wants
no_breaks o reply e w = clash (sym e ∙ w)
  where
    clash : Breaks reply ≡ Wants → ⊥
    clash f = cc

pub settled-waits : (version : Option ℕ) (host : List ℕ) (port : ℕ) (dials : Bool) (acts : List RelayAct)
    → DialogWaitsFor version (Connects host port) dials acts → IsDialogSettled dials (read acts)
settled-waits version host port false acts s = tt
settled-waits None host port true acts s = true_is (IsDialogSettled true (read acts)) s
settled-waits (Some version) host port true acts s = no_connects (outcome_in (read acts)) host port s.2

-- a channel of a dialog has its end
pub asked-waits : (version : Option ℕ) (host : List ℕ) (port : ℕ) (dials : Bool) (acts : List RelayAct)
    → DialogWaitsFor version (Connects host port) dials acts → HasAsked dials (read acts)
asked-waits version host port false acts s = tt
asked-waits None host port true acts s = true_is (HasAsked true (read acts)) s
asked-waits (Some version) host port true acts s = subst IsConnect (sym s.2) tt

asked-more : (dials : Bool) (bytes piece : List ℕ) → (dials ≡ true → outcome_in (bytes ++ piece) ≡ outcome_in bytes)
    → HasAsked dials bytes → HasAsked dials (bytes ++ piece)
asked-more false bytes piece same s = tt
asked-more true bytes piece same s = subst IsConnect (sym (same refl)) s

settled-in : (line : ChannelState) (dials : Bool) (acts : List RelayAct) → ((dialog : DialogState) → line ≡ Dialing dialog → ⊥)
    → LineStands line dials acts → IsDialogSettled dials (read acts)
settled-in (Dialing dialog) dials acts other s = absurd (other dialog refl)
settled-in (Asked host port version) dials acts other s = settled-waits version host port dials acts s.waits
settled-in (Opened version) dials acts other s = settled-waits version s.host s.port dials acts s.waits
settled-in (Offered remote window maximum) dials acts other s = plain dials s.plain
  where
    plain : (b : Bool) → b ≡ false → IsDialogSettled b (read acts)
    plain false e = tt
    plain true e = true_is (IsDialogSettled true (read acts)) e
settled-in (Live live) dials acts other s = s.settled
settled-in Over dials acts other s = s.settled

-- bytes after it change nothing of it
record SameDialog (dials : Bool) (bytes piece : List ℕ) : Type 0 where
  pub replies : (a : OpenAnswer) → replies_if dials (bytes ++ piece) a ≡ replies_if dials bytes a
  pub behind : behind_if dials (bytes ++ piece) ≡ behind_if dials bytes ++ piece
  pub outcome : dials ≡ true → outcome_in (bytes ++ piece) ≡ outcome_in bytes
  pub first : dials ≡ true → slice_index (bytes ++ piece) 0 ≡ slice_index bytes 0

same-first : (bytes piece : List ℕ) → outcome_in bytes ≢ Wants → slice_index (bytes ++ piece) 0 ≡ slice_index bytes 0
unfolding outcome_in
same-first [] piece ne = absurd (ne refl)
same-first (byte ∷ bytes) piece ne = refl

same-dialog : (dials : Bool) (bytes piece : List ℕ) → IsDialogSettled dials bytes → SameDialog dials bytes piece
unfolding outcome_in before_in behind_in replies_in
same-dialog false bytes piece s = record {
  replies = λ a. refl;
  behind = refl;
  outcome = λ e. true_is (outcome_in (bytes ++ piece) ≡ outcome_in bytes) (sym e);
  first = λ e. true_is (slice_index (bytes ++ piece) 0 ≡ slice_index bytes 0) (sym e);
}
same-dialog true bytes piece s =
    let same : socks (bytes ++ piece) ≡ followed piece (socks bytes) = socks-parse.stays bytes piece s in
    let first = same-first bytes piece s in
    record {
      replies = λ a.
          ap (λ (d : Dialog). concat d.replies ++ last_reply d.outcome (slice_index (bytes ++ piece) 0) a) same
          ∙ ap (λ n. concat (socks bytes).replies ++ last_reply (socks bytes).outcome n a) first;
      behind = ap (λ (d : Dialog). d.rest) same;
      outcome = λ e. ap (λ (d : Dialog). d.outcome) same;
      first = λ e. first;
    }

settled-more : (dials : Bool) (bytes piece : List ℕ) → SameDialog dials bytes piece → IsDialogSettled dials bytes
    → IsDialogSettled dials (bytes ++ piece)
settled-more false bytes piece same s = tt
settled-more true bytes piece same s = λ w. s (sym (same.outcome refl) ∙ w)

waits-more : (version : Option ℕ) (outcome : Outcome) (dials : Bool) (acts : List RelayAct) (piece : List ℕ)
    → SameDialog dials (read acts) piece → DialogWaitsFor version outcome dials acts
    → DialogWaitsFor version outcome dials (Reads piece ∷ acts)
waits-more None outcome dials acts piece same s = s
waits-more (Some version) outcome dials acts piece same s =
    (s.0, s.1 ∙ sym (same.first s.0), same.outcome s.0 ∙ s.2)

nothing-more : (dials : Bool) (acts : List RelayAct) (piece : List ℕ)
    → length (dialog_replies dials acts) ≤ length (dialog_replies dials (Reads piece ∷ acts)) → NothingYet dials acts
    → NothingYet dials (Reads piece ∷ acts)
nothing-more dials acts piece most s = record {
  no_answer = s.no_answer;
  no_data = s.no_data;
  no_take = let t : accepted_length acts ≤ length (dialog_replies dials acts) = s.no_take in omega arith;
  no_room = s.no_room;
  no_eof = s.no_eof;
  no_close = s.no_close;
  none_received = s.none_received;
  none_closed = s.none_closed;
}

line-more : (line : ChannelState) (dials : Bool) (acts : List RelayAct) (piece : List ℕ) → SameDialog dials (read acts) piece
    → IsDialogSettled dials (read acts) → ((dialog : DialogState) → line ≡ Dialing dialog → ⊥)
    → LineStands line dials acts → LineStands line dials (Reads piece ∷ acts)
line-more (Dialing dialog) dials acts piece same settled other s = absurd (other dialog refl)
line-more (Asked host port version) dials acts piece same settled other s = record {
  waits = waits-more version (Connects host port) dials acts piece same s.waits;
  nothing = nothing-more dials acts piece (omega (arith, ap length (same.replies (answer acts)))) s.nothing;
}
line-more (Opened version) dials acts piece same settled other s = record {
  host = s.host;
  port = s.port;
  waits = waits-more version (Connects s.host s.port) dials acts piece same s.waits;
  nothing = nothing-more dials acts piece (omega (arith, ap length (same.replies (answer acts)))) s.nothing;
}
line-more (Offered remote window maximum) dials acts piece same settled other s = record {
  plain = s.plain;
  nothing = nothing-more dials acts piece (omega (arith, ap length (same.replies (answer acts)))) s.nothing;
}
line-more (Live live) dials acts piece same settled other s =
    let sizes : length (dialog_replies dials (Reads piece ∷ acts)) ≡ length (dialog_replies dials acts) =
    ap length (same.replies (answer acts)) in
    record {
      eof_sent = s.eof_sent;
      eof_received = s.eof_received;
      close_sent = s.close_sent;
      close_received = s.close_received;
      replies = λ f. s.replies f ∙ ap (λ n. n - accepted_length acts) (sym sizes);
      owed = λ f. s.owed f ∙ ap (λ n. accepted_length acts - n) (sym sizes);
      most = subst (λ n. adjusted acts ≤ accepted_length acts - n) (sym sizes) s.most;
      settled = settled-more dials (read acts) piece same settled;
      asked = asked-more dials (read acts) piece same.outcome s.asked;
    }
line-more Over dials acts piece same settled other s =
    let sizes : length (dialog_replies dials (Reads piece ∷ acts)) ≡ length (dialog_replies dials acts) =
    ap length (same.replies (answer acts)) in
    record {
      most = subst (λ n. adjusted acts ≤ accepted_length acts - n) (sym sizes) s.most;
      settled = settled-more dials (read acts) piece same settled;
    }

-- what hasn't ended has named no end
unsaid : (r : Relay) (dials : Bool) (acts : List RelayAct) → r.ended ≡ false → RelayRepresents dials acts r
    → IsTrue (sent_eof acts) → ⊥
unsaid r dials acts going s said = clash (socket_has_ended acts) (sym s.ends ∙ going) (s.last said).0
  where
    clash : (b : Bool) → b ≡ false → IsTrue b → ⊥
    clash false e t = true_is ⊥ (sym t)
    clash true e t = true_is ⊥ e

-- a channel's bytes
pub reads-more : (r : Relay) (piece : List ℕ) (dials : Bool) (acts : List RelayAct)
    → ((dialog : DialogState) → r.line ≡ Dialing dialog → ⊥) → RelayMayRead piece r → RelayRepresents dials acts r
    → RelayRepresents dials (Reads piece ∷ acts) (holding piece r)
reads-more r piece dials acts other may s =
    let settled = settled-in r.line dials acts other s.line in
    let same = same-dialog dials (read acts) piece settled in
    record {
      sends = sym (append_assoc (all_data_sent acts) r.held.waiting piece) ∙ ap (λ b. b ++ piece) s.sends ∙ sym same.behind;
      delivers = s.delivers ∙ ap (λ f. f ++ delivered acts) (sym (same.replies (answer acts)));
      ends = s.ends;
      last = λ said. absurd (unsaid r dials acts may.unended s said);
      few = let room : length r.held.waiting + length piece ≤ LONGEST_PIECE = may.room in
          omega (arith, length-append r.held.waiting piece);
      line = line-more r.line dials acts piece same settled other s.line;
    }

-- ---- a dialog that is read

over-now : (acts : List RelayAct) → NothingYet true acts → outcome_in (read acts) ≢ Wants → LineStands Over true acts
over-now acts nothing ne = record {
  most = let a : adjusted acts ≡ 0 = nothing.no_room in omega arith;
  settled = ne;
}

line-after : (came : Came) (new : DialogState) (line : ChannelState) (acts : List RelayAct) → DialogCameTo came (read acts) new
    → NothingYet true acts → LineAfter came new line → LineStands line true acts
line-after Nothing new line acts came nothing is = subst (λ l. LineStands l true acts) (sym is) (record {
  socks = refl;
  bytes = came.1;
  given = came.2;
  wants = came.0;
  nothing = nothing;
})
line-after (Connect host port version) new line acts came nothing (inl is) =
    subst (λ l. LineStands l true acts) (sym is) (record { waits = (refl, came.1, came.0); nothing = nothing })
line-after (Connect host port version) new line acts came nothing (inr is) =
    subst (λ l. LineStands l true acts) (sym is)
    (over-now acts nothing (no_connects (outcome_in (read acts)) host port came.0))
line-after Fault new line acts came nothing is =
    subst (λ l. LineStands l true acts) (sym is) (over-now acts nothing (no_breaks (outcome_in (read acts)) came.0 came.1))

-- what AreBytesReceived says, where the dialog's bytes are all that were read
same-bytes : (old new : DialogState) (piece : List ℕ) (heard : DialogReceived) (q q' : QueueState) (bytes : List ℕ)
    → old.bytes ≡ bytes → AreBytesReceived old new piece heard q q'
    → DialogCameTo heard.came (bytes ++ piece) new × (behind_in (bytes ++ piece) ≡ drop heard.count piece)
    × ((more : List ℕ) × (q'.waiting ≡ q.waiting ++ more)
    × (replies_in (bytes ++ piece) Unanswered ≡ replies_in bytes Unanswered ++ more))
same-bytes old new piece heard q q' bytes is h = (
  subst (λ b. DialogCameTo heard.came (b ++ piece) new) is h.came,
  subst (λ b. behind_in (b ++ piece) ≡ drop heard.count piece) is h.behind,
  (h.more, h.waiting, subst (λ b. replies_in (b ++ piece) Unanswered ≡ replies_in b Unanswered ++ h.more) is h.replies),
)

none-behind : (bytes : List ℕ) → outcome_in bytes ≡ Wants → behind_in bytes ≡ []
unfolding outcome_in behind_in
none-behind bytes e = (socks-parse.front bytes).wanting e

-- a dialog's bytes
pub reads-dialog : (r : Relay) (old new : DialogState) (piece : List ℕ) (heard : DialogReceived) (q' : QueueState) (line' : ChannelState)
    (socket' : RelaySocket) (dials : Bool) (acts : List RelayAct)
    → r.line ≡ Dialing old → (IsDialogReading old → AreBytesReceived old new piece heard r.queue q')
    → LineAfter heard.came new line' → RelayMayRead piece r → RelayRepresents dials acts r
    → RelayRepresents dials (Reads piece ∷ acts)
    (holding (drop heard.count piece) (record r { line = line'; socket = socket'; queue = q' }))
reads-dialog r old new piece heard q' line' socket' dials acts is receives after may s =
    by_dials dials (subst (λ l. LineStands l dials acts) is s.line) s
  where
    by_dials : (b : Bool) → IsDialing old b acts → RelayRepresents b acts r
        → RelayRepresents b (Reads piece ∷ acts)
        (holding (drop heard.count piece) (record r { line = line'; socket = socket'; queue = q' }))
    by_dials false d s = true_is (RelayRepresents false (Reads piece ∷ acts)
        (holding (drop heard.count piece) (record r { line = line'; socket = socket'; queue = q' }))) (sym d.socks)
    by_dials true d s =
        let reading : IsDialogReading old = record {
          given = d.given ∙ ap (λ b. length (before_in b)) (sym d.bytes);
          wants = ap outcome_in d.bytes ∙ d.wants;
        } in
        let all = same-bytes old new piece heard r.queue q' (read acts) d.bytes (receives reading) in
        let more = (all.2).0 in
        let queued : q'.waiting ≡ r.queue.waiting ++ more = (all.2).1 in
        let replied : replies_in (read acts ++ piece) Unanswered ≡ replies_in (read acts) Unanswered ++ more = (all.2).2 in
        let unanswered : answer acts ≡ Unanswered = d.nothing.no_answer in
        let replied' : dialog_replies true (Reads piece ∷ acts) ≡ dialog_replies true acts ++ more =
        ap (replies_in (read acts ++ piece)) unanswered ∙ replied
        ∙ ap (λ a. replies_in (read acts) a ++ more) (sym unanswered) in
        let before = socket_accepted acts in
        let none : delivered acts ≡ [] = d.nothing.no_data in
        let behind_none : all_data_sent acts ++ r.held.waiting ≡ [] = s.sends ∙ none-behind (read acts) d.wants in
        record {
          sends = sym (append_assoc (all_data_sent acts) r.held.waiting (drop heard.count piece))
              ∙ ap (λ b. b ++ drop heard.count piece) behind_none ∙ sym all.1;
          delivers = ap (λ q. before ++ q) queued
              ∙ sym (append_assoc before r.queue.waiting more)
              ∙ ap (λ b. b ++ more) (s.delivers ∙ ap (λ b. dialog_replies true acts ++ b) none ∙ append-nil (dialog_replies true acts))
              ∙ sym replied'
              ∙ sym (append-nil (dialog_replies true (Reads piece ∷ acts)))
              ∙ ap (λ b. dialog_replies true (Reads piece ∷ acts) ++ b) (sym none);
          ends = s.ends;
          last = λ said. absurd (unsaid r true acts may.unended s said);
          few = let room : length r.held.waiting + length piece ≤ LONGEST_PIECE = may.room in
              omega (arith, length-append r.held.waiting (drop heard.count piece), length-drop heard.count piece);
          line = line-after heard.came new line' (Reads piece ∷ acts) all.0
              (nothing-more true acts piece (omega (arith, ap length replied', length-append (dialog_replies true acts) more)) d.nothing)
              after;
        }
