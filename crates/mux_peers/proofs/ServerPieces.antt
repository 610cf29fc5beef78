-- A piece of the server's bytes, one frame after another.
use Rattle.std.proofs.Common.{◌≡◌, ℕ, suc, Bool, true, false, ◌||◌, List, [], ◌∷◌, ◌++◌, length, map, Option, Some, None, refl, sym, ap, ◌∙◌, subst, append_assoc, append-nil}
use Rattle.std.specs.Prelude.{is_some}
use Rattle.mux_outside.specs.declared.house.HouseReply.{HouseReply}
use Rattle.ssh_grammar.specs.declared.fault.BadFrame.{BadFrame}
use Rattle.ssh_grammar.specs.Frames.{Front, Frame, More, Faulty}
use Rattle.ssh_grammar.specs.Said.{InProxy, BadFraming, Parsed, first_in, parse}
use Rattle.ssh_grammar.proofs.Parses.{parse-at}
use Rattle.proxy_frames.specs.State.{QueueState}
use Rattle.mux_history.specs.declared.broke.Break.TheVariants as broke
use Rattle.mux_history.specs.declared.ended.Ended.{Ended}
use Rattle.mux_history.specs.declared.ended.Ended.TheVariants as ended
use Rattle.mux_history.specs.declared.why.Why.{Why}
use Rattle.mux_history.specs.Policy.{Policy}
use Rattle.mux_history.specs.Rows.{Row, BadServer, Fate, Goes, Refused, Drop, End, is_end, is_run_over, losses}
use Rattle.mux_history.specs.Settings.{by_lists}
use Rattle.mux_history.specs.Solo.{run_end_of}
use Rattle.mux_history.specs.Journal.{received_item}
use Rattle.mux_history.specs.Log.{Setting, more_all, next_row}
use Rattle.mux_core.specs.State.{CoreState}
use Rattle.mux_peers.specs.State.{ClientState, ClientsAndQueue}
use Rattle.mux_peers.specs.Losing.{NotesMore}
use Rattle.mux_peers.specs.Among.{AllFit}
use Rattle.mux_peers.specs.Receivings.{ReceivedBy, end_by}
use Rattle.mux_peers.specs.Pieces.{with_sent_before}
use Rattle.mux_peers.specs.Room.{HasRoom}
use Rattle.mux_peers.specs.Server.{AllAwait, ReceivingAll, ReceivesOnwards, ReceivedTo, EndsByServerFault, ServerFrame, ServerNext, ServerState, rows_received}
use Rattle.mux_peers.proofs.Keeping.{among-then, keep-same, keep-then}
use Rattle.mux_peers.proofs.Served.{end-shown, fault-heard, heard-item, makes-heard, map-last, more-last, or-first, payload-heard}

-- ---- the end of a run

unended : (f : Fate) → is_end f ≡ false → end_by f ≡ None
unended (End cause) e = absurd (cc)
unended Goes e = refl
unended Refused e = refl
unended (Drop why) e = refl

or-left : (a b : Bool) → (a || b) ≡ false → a ≡ false
or-left true b e = absurd (cc)
or-left false b e = refl

-- a run that goes on has no end
pub end-none : (rows : List Row) → is_run_over rows ≡ false → run_end_of rows ≡ None
end-none [] e = refl
end-none (row ∷ rows) e =
    end-shown row.fate row rows refl (end-none rows (or-first (is_end row.fate) (is_run_over rows) e)) ∙ unended row.fate (or-left (is_end row.fate) (is_run_over rows) e)

-- and one that has an end is over
pub ended-some : (rows : List Row) (cause : Ended) → Some cause ≡ run_end_of rows → is_run_over rows ≡ true
ended-some rows cause e = by_end (is_run_over rows) refl
  where
    by_end : (b : Bool) → is_run_over rows ≡ b → is_run_over rows ≡ true
    by_end true t = t
    by_end false t = absurd (let d : Some cause ≡ None = e ∙ end-none rows t in cc)

-- ---- before anything is received

pub heard-first : (policy : Policy) (pid : ℕ) (picks : List ℕ) (given : List HouseReply) (all : List ℕ) (rows : List Row) (core : CoreState) (cs : List ClientState) (queue : QueueState) (rest : List ℕ) (index : ℕ)
    → rest ≡ all → AllAwait rows core cs queue index → ReceivedTo policy pid picks given all [] rows core cs queue rest index None
heard-first policy pid picks given all rows core cs queue rest index e a = record {
  says = [];
  fit = a.fit;
  lost = sym (append-nil (losses rows));
  ended_is = sym (end-none rows a.live);
  on = λ t. record { live = a.live; sent_is = ap (parse InProxy) (sym e); here = a.here; place = a.place };
  over = ((parse InProxy all).says, refl);
}

pub receiving-first : (all : List ℕ) (old : ClientsAndQueue) (first now : ServerState) → now.framing ≡ first.framing → now.fault ≡ None → now.rest ≡ all → now.index ≡ first.index → ReceivingAll all old old first now None
receiving-first all old first now cuts well rest index = record {
  noted = [];
  leaves = sym (append-nil old.clients.leaving);
  policy = refl;
  present = λ j. refl;
  among = tt;
  reading = keep-same old.clients.all;
  framing = λ e. cuts;
  fault = λ e. well;
  goes = λ pid picks given rows a. subst (λ i. ReceivedTo old.core.policy pid picks given all [] rows old.core old.clients.all old.up now.rest i None) (sym index) (heard-first old.core.policy pid picks given all rows old.core old.clients.all old.up now.rest first.index rest a);
}

-- ---- one frame more

-- a fault
pub heard-fault : (policy : Policy) (pid : ℕ) (picks : List ℕ) (given : List HouseReply) (all : List ℕ) (noted : List (ℕ × Option Why)) (rows : List Row) (core : CoreState) (cs : List ClientState) (queue : QueueState) (rest rest' : List ℕ) (i i' : ℕ) (fault : BadFrame)
    → first_in InProxy rest ≡ Faulty fault → ReceivedTo policy pid picks given all noted rows core cs queue rest i None
    → ReceivedTo policy pid picks given all noted rows core cs queue rest' i' (Some (ended.Broke i (broke.Frame fault)))
heard-fault policy pid picks given all noted rows core cs queue rest rest' i i' fault front r =
    let s : Setting = by_lists policy pid picks given in
    let rows' : List Row = rows_received policy pid picks given rows r.says in
    let on : ReceivesOnwards all cs rest i rows' r.says = r.on refl in
    let row : Row = next_row s rows' (BadServer fault) in
    let last : rows_received policy pid picks given rows (r.says ++ BadFraming fault ∷ []) ≡ row ∷ rows' =
    ap (more_all s rows) (map-last r.says (BadFraming fault)) ∙ (more-last s rows (map received_item r.says) (BadServer fault) ∙ makes-heard s (BadServer fault) rows' on.live refl) in
    let by : ReceivedBy [] core cs queue (Some (ended.Broke i (broke.Frame fault))) rows' row = fault-heard policy pid picks given fault rows' core core cs queue i r.fit on.live on.place in
    record {
      says = r.says ++ BadFraming fault ∷ [];
      fit = subst (λ l. AllFit l core cs queue) (sym last) by.fit;
      lost = ap losses last ∙ (by.lost ∙ (append-nil (losses rows') ∙ r.lost));
      ended_is = by.ended_is ∙ (sym (end-shown row.fate row rows' refl (sym r.ended_is)) ∙ ap run_end_of (sym last));
      on = λ e. absurd (cc);
      over = ([], ap (λ (p : Parsed). p.says) (on.sent_is ∙ ap (with_sent_before r.says) (parse-at InProxy rest (Faulty fault) front)) ∙ sym (append-nil (r.says ++ BadFraming fault ∷ [])));
    }

receiving-frame : (all content rest : List ℕ) (old mid new : ClientsAndQueue) (first was now : ServerState) (ended' : Option Ended)
    → new.core.policy ≡ mid.core.policy → first_in InProxy was.rest ≡ Frame content rest → ReceivingAll all old mid first was None → ServerFrame content rest mid new was now ended' → ReceivingAll all old new first now ended'
receiving-frame all content rest old mid new first was now ended' pol front h s = record {
  noted = h.noted ++ s.receives.noted;
  leaves = s.receives.leaves ∙ (ap (λ l. l ++ s.receives.noted) h.leaves ∙ append_assoc old.clients.leaving h.noted s.receives.noted);
  policy = pol ∙ h.policy;
  present = λ j. s.present j ∙ h.present j;
  among = among-then old.clients.all mid.clients.all h.noted s.receives.noted h.present h.among s.receives.among;
  reading = keep-then old.clients.all mid.clients.all new.clients.all h.reading s.receives.reading;
  framing = λ e. s.framing ∙ h.framing refl;
  fault = λ e. s.fault;
  goes = λ pid picks given rows a.
      payload-heard old.core.policy pid picks given all h.noted s.receives.noted rows mid.core new.core mid.clients.all new.clients.all mid.up new.up was.rest now.rest content was.index now.index ended' h.policy (front ∙ ap (Frame content) (sym s.left)) s.receives.receives s.present s.next
      (heard-item old.core.policy pid picks given content) (h.goes pid picks given rows a);
}

receiving-fault : (all : List ℕ) (fault : BadFrame) (old mid new : ClientsAndQueue) (first was now : ServerState) (ended' : Option Ended)
    → first_in InProxy was.rest ≡ Faulty fault → ReceivingAll all old mid first was None → EndsByServerFault fault mid new was ended' → ReceivingAll all old new first now ended'
receiving-fault all fault old mid new first was now ended' front h s =
    subst (λ (x : ClientsAndQueue). ReceivingAll all old x first now ended') (sym s.untouched)
    (subst (λ (x : Option Ended). ReceivingAll all old mid first now x) (sym s.ends) (record {
      noted = h.noted;
      leaves = h.leaves;
      policy = h.policy;
      present = h.present;
      among = h.among;
      reading = h.reading;
      framing = λ e. absurd (cc);
      fault = λ e. absurd (cc);
      goes = λ pid picks given rows a. heard-fault old.core.policy pid picks given all h.noted rows mid.core mid.clients.all mid.up was.rest now.rest was.index now.index fault front (h.goes pid picks given rows a);
    }))

pub receiving-goes : (all : List ℕ) (old mid new : ClientsAndQueue) (first was now : ServerState) (ended' : Option Ended)
    → new.core.policy ≡ mid.core.policy → ReceivingAll all old mid first was None → ServerNext true (first_in InProxy was.rest) mid new was now None ended' → ReceivingAll all old new first now ended'
receiving-goes all old mid new first was now ended' pol h says = by_front (first_in InProxy was.rest) refl says
  where
    by_front : (f : Front) → first_in InProxy was.rest ≡ f → ServerNext true f mid new was now None ended' → ReceivingAll all old new first now ended'
    by_front (Frame content rest) e s = receiving-frame all content rest old mid new first was now ended' pol e h s
    by_front More e s = absurd s
    by_front (Faulty fault) e s = receiving-fault all fault old mid new first was now ended' e h s

-- what was sent next, while the run went on, by whether there was anything
pub turn : (more more' : Bool) (old new : ClientsAndQueue) (was now : ServerState) (ended ended' : Option Ended)
    → more ≡ more' → ended ≡ None → ServerNext more (first_in InProxy was.rest) old new was now ended ended' → ServerNext more' (first_in InProxy was.rest) old new was now None ended'
turn more more' old new was now ended ended' m e says =
    subst (λ (b : Bool). ServerNext b (first_in InProxy was.rest) old new was now None ended') m
    (subst (λ (o : Option Ended). ServerNext more (first_in InProxy was.rest) old new was now o ended') e says)

pub none-then : (o : Option Ended) → is_some o ≡ false → o ≡ None
none-then None e = refl
none-then (Some cause) e = absurd (cc)

-- ---- which leaves less

-- how much may be read yet
abbrev pub left_of : Option Ended → List ℕ → ℕ
left_of None rest = suc (length rest)
left_of (Some cause) rest = 0

-- ---- with the room

pub record ServerLoop (all : List ℕ) (old new : ClientsAndQueue) (first now : ServerState) (ended : Option Ended) : Type 0 where
  pub receiving : ReceivingAll all old new first now ended
  pub room : HasRoom new.clients.all new.up

-- the losses that were noted before memory ran out, and by that
pub more-noted : (all : List ℕ) (old new : ClientsAndQueue) (first now : ServerState) (ended : Option Ended) (later : List (ℕ × Option Why)) → ReceivingAll all old new first now ended → NotesMore new.clients.leaving later → NotesMore old.clients.leaving later
more-noted all old new first now ended later h m = record {
  more = h.noted ++ m.more;
  longer = m.longer ∙ (ap (λ l. l ++ m.more) h.leaves ∙ append_assoc old.clients.leaving h.noted m.more);
}
