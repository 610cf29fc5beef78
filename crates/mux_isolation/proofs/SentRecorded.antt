-- What a client is given for what it sends itself, and in answer to its requests, is no message
-- that it may not be given.
use Rattle.std.proofs.Common.{◌≡◌, ℕ, ◌+◌, List, [], ◌∷◌, ◌++◌, length, true, false, Bool, refl, ◌∙◌, ap, map, sym, Option, Some, None, Ok, Err, drop, zero, suc}
use Rattle.std.specs.Prelude.{◌==◌, ◌&&◌, not, Result, nat_lt, nat_le, codes}
use Rattle.mux_history.specs.Channels.{Channel, held_of, with_own}
use Rattle.mux_history.specs.Controls.{answers_ask, answers_maybe, house_answer, house_sends, in_proxy, sent_body, sent_first, sent_later}
use Rattle.mux_history.specs.Forwardings.{current, is_forwarding_free_at}
use Rattle.mux_history.specs.Summary.{Closes, Confirmation, Fails, Summary, Open, Refuses, Requests, Succeeds, Transport, Within, read_summary, reading}
use Rattle.mux_history.specs.Kept.{Every}
use Rattle.mux_history.specs.Keys.{is_askable}
use Rattle.mux_history.specs.Ledger.{breach}
use Rattle.mux_history.specs.Log.{admits, all_recorded, frames_that_fit, goes, new_answers, open_matters}
use Rattle.mux_history.specs.Policy.{Policy, permits, may_open}
use Rattle.mux_history.specs.Requests.{answers, answers_to, is_reply, replies, reply_in, wanted}
use Rattle.mux_history.specs.Rows.{Heard, Item, Refused, Row, any_of, is_lost}
use Rattle.mux_history.specs.Said.{Outcome, confirmed_at, drops, fails_open, is_failing, is_full_of_asks, on_breach, on_confirmed, on_unused, on_waiting, sent_summary, open_outcome, sent_payload, sent_request, sends_payload, sends_as, sends_if, sends_open, silent, records, waiting_at, reason_for, text_for}
use Rattle.mux_outside.specs.declared.house.HouseReply.{HouseReply}
use Rattle.ssh_grammar.specs.Control.{Alive, AliveCheck, Answer, CloseForward, Control, Failed, Greets, Hello, NewSession, Okay, OpenForward, PermissionDenied, Proxies, Proxy, RemotePort, StdioForward, StopListening, Terminate, no_descriptors, unsupported}
use Rattle.ssh_grammar.specs.Frames.{frame_answer, frame_payload}
use Rattle.ssh_grammar.specs.Messages.{Cancel, Forward, Global, KeepAlive, OtherName}
use Rattle.ssh_grammar.specs.ReadControl.{read_control}
use Rattle.ssh_grammar.specs.SpellMessage.{open_failure, request_failure}
use Rattle.ssh_grammar.specs.declared.fault.Bad.{Bad}
use Rattle.ssh_grammar.specs.declared.fault.BadControl.{BadControl}
use Rattle.ssh_grammar.specs.declared.fault.Breach.{Breach}
use Rattle.ssh_grammar.specs.declared.numbers.TheConstants.{VERSION}
use Rattle.ssh_grammar.specs.declared.side.Side.TheVariants.{Up}
use Rattle.mux_history.specs.declared.why.Why.TheVariants as why
use Rattle.ssh_grammar.specs.declared.fault.BadControl.TheVariants as bad_control
use Rattle.mux_history.proofs.Harmless.{IsHarmless, every-append, harmless-failure}
use Rattle.mux_isolation.proofs.Mays.{MayRecord}

abbrev pub RecordOk : List Row → ℕ → List ℕ → Type 0
RecordOk before k frame = (m : Summary) → read_summary (drop 5 frame) ≡ Ok m → MayRecord before k m

module _ (before : List Row) (k : ℕ) where
  harmless-report : (m : Summary) → IsHarmless m → MayRecord before k m
  harmless-report (Within s Closes) h = tt
  harmless-report (Within s Fails) h = tt
  harmless-report (Within s act) h = absurd h
  harmless-report (Requests what wants) h = tt
  harmless-report (Open what c w max) h = absurd h
  harmless-report m h = tt

  fails-report : (c reason : ℕ) (text : List ℕ) → RecordOk before k (frame_payload (open_failure c reason text))
  fails-report c reason text m reads = harmless-report m (harmless-failure c reason text m reads)

  -- ---- control frames carry no message

  pub answer-report : (answer : Answer) → RecordOk before k (frame_answer answer)
  answer-report (Greets version) m reads = cc
  answer-report (Okay id) m reads = cc
  answer-report (PermissionDenied id reason) m reads = cc
  answer-report (Failed id reason) m reads = cc
  answer-report (Alive id pid) m reads = cc
  answer-report (RemotePort id port) m reads = cc
  answer-report (Proxies id) m reads = cc

  maybe-report : (o : Option Answer) → Every (RecordOk before k) (answers_maybe o).recorded
  maybe-report None = tt
  maybe-report (Some answer) = (answer-report answer, tt)

  asked-report : (opening : Bool) (id : ℕ) (given : Option HouseReply) → Every (RecordOk before k) (answers_ask opening id given).recorded
  asked-report opening id None = tt
  asked-report opening id (Some given) = maybe-report (house_answer opening id given)

  pub house-report : (own : List Row) (id : ℕ) (given : HouseReply) → Every (RecordOk before k) (house_sends own id given).recorded
  house-report own id given = elim (in_proxy own) as (λ b. Every (RecordOk before k) (elim b as (λ _. Outcome) [ true ↦ silent | false ↦ answers_ask true id (Some given) ]).recorded) [ true ↦ tt | false ↦ asked-report true id (Some given) ]

  later-report : (pid : ℕ) (given : Option HouseReply) (r : Result Control BadControl) → Every (RecordOk before k) (sent_later pid k given r).recorded
  later-report pid given (Ok (Hello version extensions)) = tt
  later-report pid given (Ok (NewSession id rest)) = (answer-report (Failed id no_descriptors), tt)
  later-report pid given (Ok (StdioForward id rest)) = (answer-report (Failed id no_descriptors), tt)
  later-report pid given (Ok (AliveCheck id)) = (answer-report (Alive id pid), tt)
  later-report pid given (Ok (Terminate id)) = (answer-report (Okay id), tt)
  later-report pid given (Ok (OpenForward id what)) = asked-report true id given
  later-report pid given (Ok (CloseForward id what)) = asked-report false id given
  later-report pid given (Ok (StopListening id)) = (answer-report (Okay id), tt)
  later-report pid given (Ok (Proxy id)) = (answer-report (Proxies id), tt)
  later-report pid given (Err (bad_control.Unknown kind (Some id))) = (answer-report (Failed id unsupported), tt)
  later-report pid given (Err (bad_control.Unknown kind None)) = tt
  later-report pid given (Err fault) = tt

  first-report : (r : Result Control BadControl) → Every (RecordOk before k) (sent_first r).recorded
  first-report (Ok (Hello version extensions)) = elim (version == 4) as (λ b. Every (RecordOk before k) (elim b as (λ _. Outcome) [ true ↦ silent | false ↦ drops (why.Version version) ]).recorded) [ true ↦ tt | false ↦ tt ]
  first-report (Ok c) = tt
  first-report (Err (bad_control.Unknown kind id)) = tt
  first-report (Err fault) = tt

  pub body-report : (pid : ℕ) (given : Option HouseReply) (greeted_yet : Bool) (body : List ℕ) → Every (RecordOk before k) (sent_body pid k given greeted_yet body).recorded
  body-report pid given true body = later-report pid given (read_control body)
  body-report pid given false body = first-report (read_control body)

  pub admits-report : Every (RecordOk before k) (admits before).recorded
  admits-report = elim (nat_lt (open_matters before) 64) as (λ b. Every (RecordOk before k) (elim b as (λ _. Outcome) [ true ↦ records (frame_answer (Greets VERSION)) | false ↦ record { sent = []; recorded = []; ends = Refused } ]).recorded) [ true ↦ (answer-report (Greets VERSION), tt) | false ↦ tt ]

  -- ---- what is given for what the client sends

  said-report : (policy : Policy) (own : List Row) (pick : ℕ) (p : List ℕ) (m : Summary) → Every (RecordOk before k) (sent_summary policy k own pick p m).recorded
  said-report policy own pick p (Transport number) = elim (number == 1) as (λ b. Every (RecordOk before k) (elim b as (λ _. Outcome) [ true ↦ drops why.Disconnected | false ↦ silent ]).recorded) [ true ↦ tt | false ↦ tt ]
  said-report policy own pick p (Succeeds rest) = tt
  said-report policy own pick p Refuses = tt
  said-report policy own pick p (Requests what wants) = by_full (is_full_of_asks wants own)
    where
      by_if : (b : Bool) → Every (RecordOk before k) (sends_if b p).recorded
      by_if true = tt
      by_if false = tt

      by_what : (g : Global) → Every (RecordOk before k) (sent_request policy k own p g wants).recorded
      by_what (Forward key) = by_if (wants && (is_askable key && (permits policy.listens key && nat_lt (length (current own)) 64)))
      by_what (Cancel key) = by_if (any_of (is_forwarding_free_at k key) (current own))
      by_what KeepAlive = tt
      by_what OtherName = tt

      by_full : (b : Bool) → Every (RecordOk before k) (elim b as (λ _. Outcome) [ true ↦ drops (why.TooManyAsks 1024) | false ↦ sent_request policy k own p what wants ]).recorded
      by_full true = tt
      by_full false = by_what what
  said-report policy own pick p (Open what c w max) = by_unused (with_own own c)
    where
      by_room : (b : Bool) → Every (RecordOk before k) (elim b as (λ _. Outcome) [ true ↦ sends_as pick p | false ↦ fails_open c 4 (codes "too many channels") ]).recorded
      by_room true = tt
      by_room false = (fails-report c 4 (codes "too many channels"), tt)

      by_permit : (b : Bool) → Every (RecordOk before k) (elim b as (λ _. Outcome) [ true ↦ sends_open own pick p c | false ↦ fails_open c (reason_for what) (text_for what) ]).recorded
      by_permit true = by_room (nat_lt (length (held_of own)) 256)
      by_permit false = (fails-report c (reason_for what) (text_for what), tt)

      by_unused : (o : Option Channel) → Every (RecordOk before k) (on_unused c (open_outcome policy own pick p c what) o).recorded
      by_unused None = by_permit (may_open policy what)
      by_unused (Some x) = tt
  said-report policy own pick p (Confirmation s c w max) = by_waiting (waiting_at own s)
    where
      by_unused : (o : Option Channel) → Every (RecordOk before k) (on_unused c (sends_as pick p) o).recorded
      by_unused None = tt
      by_unused (Some x) = tt

      by_waiting : (o : Option Channel) → Every (RecordOk before k) (on_waiting s (on_unused c (sends_as pick p) (with_own own c)) o).recorded
      by_waiting None = tt
      by_waiting (Some x) = by_unused (with_own own c)
  said-report policy own pick p (Within s act) = by_failing (is_failing act)
    where
      by_breach : (o : Option Breach) → Every (RecordOk before k) (on_breach p s o).recorded
      by_breach None = tt
      by_breach (Some b) = tt

      by_confirmed : (o : Option Channel) → Every (RecordOk before k) (on_confirmed p s act o).recorded
      by_confirmed None = tt
      by_confirmed (Some x) = by_breach (breach Up act x)

      by_waiting : (o : Option Channel) → Every (RecordOk before k) (on_waiting s (sends_payload p) o).recorded
      by_waiting None = tt
      by_waiting (Some x) = tt

      by_failing : (b : Bool) → Every (RecordOk before k) (elim b as (λ _. Outcome) [ true ↦ on_waiting s (sends_payload p) (waiting_at own s) | false ↦ on_confirmed p s act (confirmed_at own s) ]).recorded
      by_failing true = by_waiting (waiting_at own s)
      by_failing false = by_confirmed (confirmed_at own s)

  pub payload-report : (policy : Policy) (own : List Row) (pick : ℕ) (p : List ℕ) → Every (RecordOk before k) (sent_payload policy k own pick p).recorded
  payload-report policy own pick p = by_case (read_summary p)
    where
      by_case : (r : Result Summary Bad) → Every (RecordOk before k) (elim r as (λ _. Outcome) [ Err bad ↦ drops (why.BadMessage bad) | Ok m ↦ sent_summary policy k own pick p m ]).recorded
      by_case (Err bad) = tt
      by_case (Ok m) = said-report policy own pick p m

  -- ---- the answers are replies

  abbrev Replies : List ℕ → Type 0
  Replies q = (m : Summary) → read_summary q ≡ Ok m → is_reply m ≡ true

  reply-report : (m : Summary) → is_reply m ≡ true → MayRecord before k m
  reply-report (Succeeds rest) e = tt
  reply-report Refuses e = tt
  reply-report m e = cc

  refusal-replies : Replies request_failure
  refusal-replies m reads = let same : Refuses ≡ m = cc in ap is_reply (sym same)

  every-drop : (P : List ℕ → Type 0) (n : ℕ) (xs : List (List ℕ)) → Every P xs → Every P (drop n xs)
  every-drop P zero xs a = a
  every-drop P (suc n) [] a = tt
  every-drop P (suc n) (x ∷ xs) a = every-drop P n xs a.1

  item-replies : (item : Item) → Every Replies (reply_in item)
  item-replies (Heard p) = by_flag (reading p is_reply false) refl
    where
      read-reply : (m : Summary) → reading p is_reply false ≡ true → read_summary p ≡ Ok m → is_reply m ≡ true
      read-reply m e reads = sym (ap (λ r. elim r as (λ _. Bool) [ Err e ↦ false | Ok m ↦ is_reply m ]) reads) ∙ e

      by_flag : (b : Bool) → reading p is_reply false ≡ b → Every Replies (elim b as (λ _. List (List ℕ)) [ true ↦ p ∷ [] | false ↦ [] ])
      by_flag true e = ((λ m reads. read-reply m e reads), tt)
      by_flag false e = tt
  item-replies item = tt

  all-replies : (rows : List Row) → Every Replies (replies rows)
  all-replies [] = tt
  all-replies (row ∷ rows) = every-append Replies (replies rows) (reply_in row.item) (all-replies rows) (item-replies row.item)

  answers-replies : (flags : List Bool) (heard : List (List ℕ)) → Every Replies heard → Every Replies (answers_to flags heard)
  answers-replies [] heard a = tt
  answers-replies (false ∷ flags) heard a = (refusal-replies, answers-replies flags heard a)
  answers-replies (true ∷ flags) [] a = tt
  answers-replies (true ∷ flags) (p ∷ heard) a = (a.0, answers-replies flags heard a.1)

  framed-report : (ps : List (List ℕ)) → Every Replies ps → Every (RecordOk before k) (map frame_payload ps)
  framed-report [] a = tt
  framed-report (p ∷ ps) a = ((λ m reads. reply-report m (a.0 m reads)), framed-report ps a.1)

  new-report : (row : Row) (own : List Row) → Every (RecordOk before k) (new_answers row own)
  new-report row own = framed-report (drop (length (answers own)) (answers (row ∷ own))) (every-drop Replies (length (answers own)) (answers (row ∷ own)) (answers-replies (wanted (row ∷ own)) (replies (row ∷ own)) (all-replies (row ∷ own))))

  pub all-report : (row : Row) (own : List Row) → Every (RecordOk before k) row.down → Every (RecordOk before k) (all_recorded row own)
  all-report row own a = elim (goes row.fate && not (is_lost own)) as (λ b. Every (RecordOk before k) (elim b as (λ _. List (List ℕ)) [ true ↦ row.down ++ new_answers row own | false ↦ row.down ])) [ true ↦ every-append (RecordOk before k) row.down (new_answers row own) a (new-report row own) | false ↦ a ]

  pub fitting-report : (n : ℕ) (fs : List (List ℕ)) → Every (RecordOk before k) fs → Every (RecordOk before k) (frames_that_fit n fs)
  fitting-report n [] a = tt
  fitting-report n (f ∷ fs) a = by_case (nat_le (n + length f) 33554432) (fitting-report (n + length f) fs a.1)
    where
      by_case : (b : Bool) → Every (RecordOk before k) (frames_that_fit (n + length f) fs) → Every (RecordOk before k) (elim b as (λ _. List (List ℕ)) [ true ↦ f ∷ frames_that_fit (n + length f) fs | false ↦ [] ])
      by_case true ih = (a.0, ih)
      by_case false ih = tt
