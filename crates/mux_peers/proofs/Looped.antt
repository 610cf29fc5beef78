-- A piece of a client's bytes, one saying after another.
use Rattle.std.proofs.Common.{◌≡◌, ◌≤◌, ◌+◌, ◌&&◌, ℕ, Bool, true, false, Ok, Err, Result, List, [], ◌∷◌, ◌++◌, length, Option, Some, None, refl, sym, ap, ◌∙◌, subst, append-nil, length-append, arith}
use Rattle.std.specs.Prelude.{is_some}
use Rattle.ssh_fields.specs.declared.out_of_memory.OutOfMemory.{OutOfMemory}
use Rattle.mux_outside.specs.House.{HouseState}
use Rattle.mux_outside.specs.declared.house_mark.HouseMark.{HouseMark as Asked}
use Rattle.mux_outside.specs.declared.house.HouseReply.{HouseReply}
use Rattle.ssh_grammar.specs.declared.fault.BadControl.{BadControl}
use Rattle.ssh_grammar.specs.declared.fault.BadFrame.{BadFrame}
use Rattle.ssh_grammar.specs.Control.{Control, OpenForward, CloseForward}
use Rattle.ssh_grammar.specs.ReadControl.{read_control}
use Rattle.mux_history.specs.Controls.{asks_house, body_asks}
use Rattle.ssh_grammar.specs.Frames.{Front, Frame, More, Faulty}
use Rattle.ssh_grammar.specs.Said.{Outgoing, Body, Payload, first_in, parse, sending_in}
use Rattle.proxy_frames.specs.State.{FramerState, QueueState}
use Rattle.proxy_frames.specs.Steps.{pushed}
use Rattle.mux_history.specs.Promises.{MayGive}
use Rattle.mux_core.specs.State.{CoreState}
use Rattle.mux_peers.specs.declared.standing.Standing.{Standing}
use Rattle.mux_peers.specs.declared.standing.Standing.TheVariants.{Awaited, Greeted, Proxied, Unread, Lost}
use Rattle.mux_peers.specs.declared.run_change.RunChange.{RunChange}
use Rattle.mux_peers.specs.State.{ClientState, PeerState, part, KeepsRoom}
use Rattle.mux_peers.specs.Stands.{PartFits, is_greeted, is_proxied, is_read, parse_mode_of, rest_if}
use Rattle.mux_peers.specs.Asked.{Applies, asks_of_rows, reading_asks, sending_asks}
use Rattle.mux_peers.specs.Decisions.{reply_list}
use Rattle.mux_peers.specs.Nexts.{NextBody, NextFault, NextFrame, NextPayload, SendsNext}
use Rattle.mux_peers.specs.Pieces.{Receiving, ReceivesPiece, rows_sent}
use Rattle.mux_peers.proofs.Heeding.{records_none, records_then}
use Rattle.mux_peers.proofs.Fronts.{client_of}
use Rattle.mux_peers.proofs.Mores.{body-more, come-first, fault-runs, payload-more, reply-first}
use Rattle.mux_peers.proofs.Runs.{OneMore, frame-runs}

-- ---- replies

reading_count : (k : ℕ) (given : HouseReply) (r : Result Control BadControl) → (elim r as (λ _. Bool) [ Err fault ↦ false | Ok c ↦ asks_house c ]) ≡ true → length (reading_asks k given r) ≡ 1
reading_count k given (Ok (OpenForward id what)) e = refl
reading_count k given (Ok (CloseForward id what)) e = refl
reading_count k given (Ok c) e = absurd (let z : false ≡ true = e in cc)
reading_count k given (Err fault) e = absurd (let z : false ≡ true = e in cc)

and_last : (a b : Bool) → (a && b) ≡ true → b ≡ true
and_last true b e = e
and_last false b e = absurd (let z : false ≡ true = e in cc)

-- a request to a reply
each_sent : (k : ℕ) (body : List ℕ) (greeted : Bool) (given : Option HouseReply) → is_some given ≡ (greeted && body_asks body) → length (sending_asks k (Body body) given) ≡ length (reply_list given)
each_sent k body greeted None e = refl
each_sent k body greeted (Some given) e = reading_count k given (read_control body) (and_last greeted (body_asks body) (sym e))

both_lengths : (a b : List Asked) (c d : List HouseReply) → length a ≡ length c → length b ≡ length d → length (a ++ b) ≡ length (c ++ d)
both_lengths a b c d e f = length-append a b ∙ (ap (λ n. n + length b) e ∙ (ap (λ n. length c + n) f ∙ sym (length-append c d)))

-- both come from the forwarder
pub may_both : (May : HouseReply → Type 0) (a b : List HouseReply) → MayGive May a → MayGive May b → MayGive May (a ++ b)
may_both May [] b x y = y
may_both May (r ∷ a) b x y = (x.0, may_both May a b x.1 y)

-- ---- before anything is received

abbrev pub nothing : RunChange
nothing = record { stops = false; ended = None }

pub receiving_first : (May : HouseReply → Type 0) (recorded : Option (List Asked)) (pid : ℕ) (all : List ℕ) (core : CoreState) (up : QueueState) (first now : ClientState) → is_read first.peer.standing ≡ true → now.peer ≡ first.peer → now.rest ≡ all → Receiving May recorded recorded pid all core up first core up now nothing
receiving_first May recorded pid all core up first now read peer rest = record {
  picked = [];
  used = [];
  asks = [];
  may = tt;
  each = refl;
  records = records_none recorded;
  policy = refl;
  goes = λ picks given rows fits live next reply. record {
    says = [];
    number = ap (λ (t : PeerState). t.number) peer;
    fits = subst (λ (t : PeerState). PartFits rows (part core t up)) (sym peer) fits;
    taken = omega arith;
    given_is = omega arith;
    asked = sym (append-nil (asks_of_rows rows));
    fresh = λ bytes f. f;
    stops_is = refl;
    ended_is = refl;
    reads = λ e. record { live = live; rest = ap (λ (t : PeerState). parse (parse_mode_of t.standing) all) (sym peer) ∙ ap (parse (parse_mode_of now.peer.standing)) (sym rest) };
    over = λ e. absurd (let d : false ≡ true = sym e ∙ (ap (λ (t : PeerState). is_read t.standing) peer ∙ read) in cc);
  };
}

-- ---- one turn more

proxied-says : (s : Standing) (content : List ℕ) → is_proxied s ≡ true → sending_in (parse_mode_of s) content ≡ Payload content
proxied-says Proxied content e = refl
proxied-says Awaited content e = absurd (cc)
proxied-says Greeted content e = absurd (cc)
proxied-says Unread content e = absurd (cc)
proxied-says (Lost why) content e = absurd (cc)

pub control-says : (s : Standing) (content : List ℕ) → is_read s ≡ true → is_proxied s ≡ false → sending_in (parse_mode_of s) content ≡ Body content
control-says Awaited content r e = refl
control-says Greeted content r e = refl
control-says Proxied content r e = absurd (cc)
control-says Unread content r e = absurd (cc)
control-says (Lost why) content r e = absurd (cc)

receiving_payload : (May : HouseReply → Type 0) (start mid recorded : Option (List Asked)) (pid : ℕ) (all content rest : List ℕ) (core0 core core' : CoreState) (up0 up up' : QueueState) (first now new : ClientState) (heard heard' : RunChange) → is_read now.peer.standing ≡ true → is_proxied now.peer.standing ≡ true → core'.policy ≡ core.policy
    → first_in (parse_mode_of now.peer.standing) now.rest ≡ Frame content rest → Receiving May start mid pid all core0 up0 first core up now heard → NextPayload mid recorded content rest core core' up up' now heard new heard' → Receiving May start recorded pid all core0 up0 first core' up' new heard'
receiving_payload May start mid recorded pid all content rest core0 core core' up0 up up' first now new heard heard' read proxied pol front h n = record {
  picked = h.picked ++ n.says.picked;
  used = h.used ++ [];
  asks = h.asks ++ [];
  may = may_both May h.used [] h.may tt;
  each = both_lengths h.asks [] h.used [] h.each refl;
  records = records_then start mid recorded h.asks [] h.records (n.recorded ∙ records_none mid);
  policy = pol ∙ h.policy;
  goes = λ picks given rows fits live next reply.
      let r = h.goes picks given rows fits live (come-first h.picked n.says.picked rows picks next) (reply-first h.used [] rows given reply) in
      frame-runs core0.policy pid picks given first.peer.number (parse_mode_of first.peer.standing) all h.picked n.says.picked h.used [] h.asks [] rows core core' up up' now new heard heard' content rest read front n.left r
      (subst (λ (x : Outgoing). OneMore core0.policy pid picks given first.peer.number (rows_sent core0.policy pid picks given first.peer.number rows r.says) x n.says.picked [] [] core' up' new.peer heard heard') (sym (proxied-says now.peer.standing content proxied))
      (payload-more core0.policy pid picks given first.peer.number (parse_mode_of first.peer.standing) all h.picked h.used h.asks rows core core' up up' now new heard heard' content h.policy read proxied n.number n.same n.says next r));
}

receiving_body : (May : HouseReply → Type 0) (start mid recorded : Option (List Asked)) (pid : ℕ) (all content rest : List ℕ) (core0 core core' : CoreState) (up0 up up' : QueueState) (first now new : ClientState) (heard heard' : RunChange) → is_read now.peer.standing ≡ true → is_proxied now.peer.standing ≡ false → core'.policy ≡ core.policy
    → first_in (parse_mode_of now.peer.standing) now.rest ≡ Frame content rest → Receiving May start mid pid all core0 up0 first core up now heard → NextBody May mid recorded pid content rest core core' up up' now heard new heard' → Receiving May start recorded pid all core0 up0 first core' up' new heard'
receiving_body May start mid recorded pid all content rest core0 core core' up0 up up' first now new heard heard' read control pol front h n =
    let by = n.decides in
    let more : List Asked = sending_asks now.peer.number (Body content) by.given in
    record {
      picked = h.picked ++ [];
      used = h.used ++ reply_list by.given;
      asks = h.asks ++ more;
      may = may_both May h.used (reply_list by.given) h.may by.may;
      each = both_lengths h.asks more h.used (reply_list by.given) h.each (each_sent now.peer.number content (is_greeted now.peer.standing) by.given by.decides.asked);
      records = records_then start mid recorded h.asks more h.records by.recorded;
      policy = pol ∙ h.policy;
      goes = λ picks given rows fits live next reply.
          let r = h.goes picks given rows fits live (come-first h.picked [] rows picks next) (reply-first h.used (reply_list by.given) rows given reply) in
          frame-runs core0.policy pid picks given first.peer.number (parse_mode_of first.peer.standing) all h.picked [] h.used (reply_list by.given) h.asks more rows core core' up up' now new heard heard' content rest read front n.left r
          (subst (λ (x : Outgoing). OneMore core0.policy pid picks given first.peer.number (rows_sent core0.policy pid picks given first.peer.number rows r.says) x [] (reply_list by.given) more core' up' new.peer heard heard') (sym (control-says now.peer.standing content read control))
          (body-more May mid recorded core0.policy pid picks given first.peer.number (parse_mode_of first.peer.standing) all h.picked h.used h.asks rows core core' up up' now new heard heard' content n.decision read by n.follows reply r));
    }

receiving_fault : (May : HouseReply → Type 0) (start mid recorded : Option (List Asked)) (pid : ℕ) (all : List ℕ) (fault : BadFrame) (core0 core core' : CoreState) (up0 up up' : QueueState) (first now new : ClientState) (heard heard' : RunChange) → is_read now.peer.standing ≡ true → core'.policy ≡ core.policy
    → first_in (parse_mode_of now.peer.standing) now.rest ≡ Faulty fault → Receiving May start mid pid all core0 up0 first core up now heard → NextFault mid recorded fault core core' up up' now heard new heard' → Receiving May start recorded pid all core0 up0 first core' up' new heard'
receiving_fault May start mid recorded pid all fault core0 core core' up0 up up' first now new heard heard' read pol front h n = record {
  picked = h.picked ++ [];
  used = h.used ++ [];
  asks = h.asks ++ [];
  may = may_both May h.used [] h.may tt;
  each = both_lengths h.asks [] h.used [] h.each refl;
  records = records_then start mid recorded h.asks [] h.records (n.recorded ∙ records_none mid);
  policy = pol ∙ h.policy;
  goes = λ picks given rows fits live next reply.
      let r = h.goes picks given rows fits live (come-first h.picked [] rows picks next) (reply-first h.used [] rows given reply) in
      fault-runs core0.policy pid picks given first.peer.number (parse_mode_of first.peer.standing) all h.picked h.used h.asks rows core core' up up' now new heard heard' fault read front n.left n.out n.faults r;
}

pub receiving_goes : (May : HouseReply → Type 0) (start mid recorded : Option (List Asked)) (pid : ℕ) (all : List ℕ) (core0 core core' : CoreState) (up0 up up' : QueueState) (first now new : ClientState) (heard heard' : RunChange) → is_read now.peer.standing ≡ true → core'.policy ≡ core.policy
    → Receiving May start mid pid all core0 up0 first core up now heard → SendsNext May mid recorded pid true (first_in (parse_mode_of now.peer.standing) now.rest) core core' up up' now heard new heard' → Receiving May start recorded pid all core0 up0 first core' up' new heard'
receiving_goes May start mid recorded pid all core0 core core' up0 up up' first now new heard heard' read pol h says = by_front (first_in (parse_mode_of now.peer.standing) now.rest) refl says
  where
    by_front : (f : Front) → first_in (parse_mode_of now.peer.standing) now.rest ≡ f → SendsNext May mid recorded pid true f core core' up up' now heard new heard' → Receiving May start recorded pid all core0 up0 first core' up' new heard'
    by_front (Frame content rest) e s = by_kind (is_proxied now.peer.standing) refl s
      where
        by_kind : (b : Bool) → is_proxied now.peer.standing ≡ b → NextFrame b May mid recorded pid content rest core core' up up' now heard new heard' → Receiving May start recorded pid all core0 up0 first core' up' new heard'
        by_kind true p n = receiving_payload May start mid recorded pid all content rest core0 core core' up0 up up' first now new heard heard' read p pol e h n
        by_kind false p n = receiving_body May start mid recorded pid all content rest core0 core core' up0 up up' first now new heard heard' read p pol e h n
    by_front More e s = absurd s
    by_front (Faulty fault) e s = receiving_fault May start mid recorded pid all fault core0 core core' up0 up up' first now new heard heard' read pol e h s

-- ---- all was received

receives_same : (May : HouseReply → Type 0) (start mid recorded : Option (List Asked)) (pid : ℕ) (all : List ℕ) (core0 core core' : CoreState) (up0 up up' : QueueState) (first now new : ClientState) (heard heard' : RunChange) → new ≡ now → core' ≡ core → up' ≡ up → heard' ≡ heard → recorded ≡ mid → Receiving May start mid pid all core0 up0 first core up now heard → Receiving May start recorded pid all core0 up0 first core' up' new heard'
receives_same May start mid recorded pid all core0 core core' up0 up up' first now new heard heard' c d e f t h =
    subst (λ (x : ClientState). Receiving May start recorded pid all core0 up0 first core' up' x heard') (sym c)
    (subst (λ (x : CoreState). Receiving May start recorded pid all core0 up0 first x up' now heard') (sym d)
    (subst (λ (x : QueueState). Receiving May start recorded pid all core0 up0 first core x now heard') (sym e)
    (subst (λ (x : RunChange). Receiving May start recorded pid all core0 up0 first core up now x) (sym f)
    (subst (λ (x : Option (List Asked)). Receiving May start x pid all core0 up0 first core up now heard) (sym t) h))))

-- nothing whole is left
pub receives_rest : (May : HouseReply → Type 0) (start mid recorded : Option (List Asked)) (pid : ℕ) (bytes : List ℕ) (core0 core core' : CoreState) (up0 up up' : QueueState) (first now new : ClientState) (heard heard' : RunChange)
    → Receiving May start mid pid (first.rest ++ bytes) core0 up0 first core up now heard → SendsNext May mid recorded pid false (first_in (parse_mode_of now.peer.standing) now.rest) core core' up up' now heard new heard' → ReceivesPiece May start recorded pid bytes core0 up0 first core' up' new heard'
receives_rest May start mid recorded pid bytes core0 core core' up0 up up' first now new heard heard' h says = by_front (first_in (parse_mode_of now.peer.standing) now.rest) refl says
  where
    by_front : (f : Front) → first_in (parse_mode_of now.peer.standing) now.rest ≡ f → SendsNext May mid recorded pid false f core core' up up' now heard new heard' → ReceivesPiece May start recorded pid bytes core0 up0 first core' up' new heard'
    by_front (Frame content rest) e s = absurd s
    by_front More e s = record {
      receiving = receives_same May start mid recorded pid (first.rest ++ bytes) core0 core core' up0 up up' first now new heard heard' s.same s.core_same s.up_same s.received_same s.recorded h;
      whole = λ r. ap (λ (x : ClientState). first_in (parse_mode_of x.peer.standing) x.rest) s.same ∙ e;
    }
    by_front (Faulty fault) e s = absurd s

-- ---- with the parts of a client, and the room

pub record Loop (May : HouseReply → Type 0) (start recorded : Option (List Asked)) (pid : ℕ) (all : List ℕ) (core0 : CoreState) (up0 : QueueState) (first : ClientState) (core : CoreState) (up : QueueState) (now : ClientState) (heard : RunChange) : Type 0 where
  pub receiving : Receiving May start recorded pid all core0 up0 first core up now heard
  pub room : KeepsRoom up0 up now.peer.standing
  pub number : now.peer.number ≡ first.peer.number

-- and with what was requested of the forwarder
pub record LoopApplies (May : HouseReply → Type 0) (asks asks' : List Asked) (old new : HouseState) (pid : ℕ) (all : List ℕ) (core0 : CoreState) (up0 : QueueState) (first : ClientState) (core : CoreState) (up : QueueState) (now : ClientState) (heard : RunChange) : Type 0 where
  pub loop : Loop May (Some asks) (Some asks') pid all core0 up0 first core up now heard
  pub applies : Applies {A = RunChange} {E = OutOfMemory} (Ok heard) asks asks' old new

pub room-read : (old new : QueueState) (s : Standing) → is_read s ≡ true → KeepsRoom old new s → old.spare ≤ new.spare
room-read old new Awaited e k = k
room-read old new Greeted e k = k
room-read old new Proxied e k = k
room-read old new Unread e k = k
room-read old new (Lost why) e k = absurd (cc)

room-more : (a b c : QueueState) (s : Standing) → a.spare ≤ b.spare → KeepsRoom b c s → KeepsRoom a c s
room-more a b c Awaited le k = omega (arith, le, k)
room-more a b c Greeted le k = omega (arith, le, k)
room-more a b c Proxied le k = omega (arith, le, k)
room-more a b c Unread le k = omega (arith, le, k)
room-more a b c (Lost why) le k = omega (arith, le, k)

pub room-on : (a b c : QueueState) (s t : Standing) → is_read s ≡ true → KeepsRoom a b s → KeepsRoom b c t → KeepsRoom a c t
room-on a b c s t e k l = room-more a b c t (room-read a b s e k) l

room-same : (a : QueueState) (s : Standing) → KeepsRoom a a s
room-same a Awaited = omega arith
room-same a Greeted = omega arith
room-same a Proxied = omega arith
room-same a Unread = omega arith
room-same a (Lost why) = omega arith

pub loop_pushed : (May : HouseReply → Type 0) (recorded : Option (List Asked)) (pid : ℕ) (bytes : List ℕ) (core : CoreState) (up : QueueState) (peer : PeerState) (f f' : FramerState) (now : ClientState) → client_of peer f ≡ now → is_read now.peer.standing ≡ true → f' ≡ pushed bytes f
    → Loop May recorded recorded pid (now.rest ++ bytes) core up now core up (client_of peer f') nothing
loop_pushed May recorded pid bytes core up peer f f' now view read more =
    let reads : is_read peer.standing ≡ true = ap (λ (x : ClientState). is_read x.peer.standing) view ∙ read in
    let kept : (client_of peer f').rest ≡ (client_of peer f).rest ++ bytes =
    ap (λ (b : Bool). rest_if b f'.rest) reads ∙ (ap (λ (x : FramerState). x.rest) more ∙ sym (ap (λ (b : Bool). rest_if b f.rest ++ bytes) reads)) in
    record {
      receiving = receiving_first May recorded pid (now.rest ++ bytes) core up now (client_of peer f') read (ap (λ (x : ClientState). x.peer) view) (kept ∙ ap (λ (x : ClientState). x.rest ++ bytes) view);
      room = room-same up peer.standing;
      number = ap (λ (x : ClientState). x.peer.number) view;
    }
