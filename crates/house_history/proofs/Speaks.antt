-- What the forwarder sends drops it not, and what it has of its channels fits those after it.
use Rattle.std.proofs.Common.{◌≡◌, ◌≤◌, ◌<◌, ◌+◌, ◌^◌, ℕ, Bool, true, false, not, ◌&&◌, ◌||◌, Option, Some, None, Ok, List, [], ◌∷◌, ◌++◌, refl, sym, ap, ◌∙◌, subst, arith, map, length, length-append}
use Rattle.std.specs.Prelude.{find, nat_lt}
use Rattle.std.proofs.lemmas.Bool.Decides.{nat_tests}
use Rattle.std.proofs.lemmas.List.{map-append}
use Rattle.mux_outside.specs.declared.house.HouseReply.{HouseReply}
use Rattle.ssh_fields.specs.Fields.{AreBytes, str}
use Rattle.ssh_grammar.specs.declared.side.Side.{Side}
use Rattle.ssh_grammar.specs.declared.side.Side.TheVariants.{Up, Down}
use Rattle.ssh_grammar.specs.declared.fault.Breach.{Breach}
use Rattle.ssh_grammar.specs.declared.numbers.TheConstants.{ADMINISTRATIVELY_PROHIBITED, RESOURCE_SHORTAGE}
use Rattle.ssh_grammar.specs.Frames.{frame_payload}
use Rattle.ssh_grammar.specs.Messages as full
use Rattle.ssh_grammar.specs.Messages.{Direct, Key}
use Rattle.ssh_grammar.specs.Said.{Payload}
use Rattle.ssh_grammar.specs.SpellMessage.{not_permitted, open_failure, too_many_channels, with_sender}
use Rattle.ssh_grammar.proofs.MessageSpelled.{spelled_reads}
use Rattle.mux_history.specs.declared.limits.TheConstants.{HOUSE, MAX_CHANNELS}
use Rattle.mux_history.specs.Channels.{Channel, any_act, any_by, held_of, is_closes, is_confirmed, is_fails, is_channel_held, is_number, is_up, with_own}
use Rattle.mux_history.specs.Summary.{Act, Answers, Asks, Carries, Closes, Confirmation, Confirms, Ends, Fails, Summary, Grants, Open, Within, read_summary, reading}
use Rattle.mux_history.specs.Laws.{IsAccounted, with_act}
use Rattle.mux_history.specs.Policy.{Policy, permits}
use Rattle.mux_history.specs.Requests.{is_reply}
use Rattle.mux_history.specs.Rows.{Goes, Row, Says}
use Rattle.mux_history.specs.Said.{Outcome, confirmed_at, fails_open, is_failing, on_breach, on_confirmed, on_unused, on_waiting, sent_summary, open_outcome, sent_payload, sends_payload, sends_as, sends_open, waiting_at}
use Rattle.mux_history.proofs.Readings.{summary-ok, reading-ok}
use Rattle.house_relay.specs.declared.line.ChannelState.{ChannelState}
use Rattle.house_relay.specs.declared.line.ChannelState.TheVariants as line
use Rattle.house_relay.specs.declared.relay.Relay.{Relay}
use Rattle.house_relay.specs.declared.relay.Outgoing.{Outgoing}
use Rattle.house_relay.specs.declared.relay.Outgoing.TheVariants as outgoing
use Rattle.house_history.proofs.Lists.{Each, Found, each-behind, each-of, find-at, found}
use Rattle.house_history.proofs.Views.{Acct, IsAccount, IsLive, IsOffered, IsOpened, MaySend, NoChannel, View, says}
use Rattle.house_history.proofs.Accounts.{no-breach, says-account}
use Rattle.house_history.proofs.Fitting.{AllOther, Entry, Fit, Fits, FitsAs, IsFreshDown, Other, offered-at, others-of, owned-at, same-at}
use Rattle.house_history.proofs.Turns.{AllFar, Far, Good, accepts-one, far-behind, far-front, live-on, live-over, opens-one, refuses-one}
use Rattle.house_history.proofs.Notes.{Bound, BoundView, Does, Later, Note, at-number, fresh-acct, if-has, noted, unless-over, view-receives}
use Rattle.house_history.proofs.Seen.{SentAs, SendsOffer, SendsOpen, act-of, note-in, said-view}
use Rattle.house_history.proofs.Readings.{Reads, ReadsIn, ReadsLive, ReadsOffer, ReadsOpen}
use Rattle.house_history.proofs.RowsOf.{plain_row}
use Rattle.house_history.proofs.Channels.{IsMine, kept, kept-held, kept-over, said-act, said-confirmation, said-nothing, said-open}

-- ---- what such a row does

-- the row of this outcome
abbrev pub said-held : Outcome → List Row → List ℕ → Option HouseReply → List (List ℕ) → List Channel
said-held o own p given down = held_of (plain_row (Says HOUSE (Payload p) given) HOUSE o.sent down ∷ own)

-- it goes on; what the forwarder is sent of it is little, and no reply; and what it has fits once
-- that is received
pub record SendsBy (o : Outcome) (own : List Row) (p : List ℕ) (given : Option HouseReply) (number : ℕ) (now : View) (front behind : List Entry) : Type 0 where
  pub ends : o.ends ≡ Goes
  pub recorded : List (List ℕ)
  pub frames : o.recorded ≡ map frame_payload recorded
  pub sized : Each (λ (q : List ℕ). (1 ≤ length q) × (length q ≤ 200)) recorded
  pub few : length recorded ≤ 1
  pub no_reply : Each (λ (q : List ℕ). reading q is_reply false ≡ false) recorded
  pub later : (down : List (List ℕ)) → Later (said-held o own p given down) (front ++ (Some number, now) ∷ behind) (map note-in recorded)

abbrev pub SendsRow : Policy → List Row → ℕ → List ℕ → Option HouseReply → ℕ → View → List Entry → List Entry → Type 0
SendsRow policy own pick p given number now front behind = SendsBy (sent_payload policy HOUSE own pick p) own p given number now front behind

-- nothing is recorded
says-quiet : (q : List ℕ) (own : List Row) (p : List ℕ) (given : Option HouseReply) (n : ℕ) (now : View) (front behind : List Entry)
    → ((down : List (List ℕ)) → Fit (said-held (sends_payload q) own p given down) (front ++ (Some n, now) ∷ behind)) → SendsBy (sends_payload q) own p given n now front behind
says-quiet q own p given n now front behind fit = record {
  ends = refl;
  recorded = [];
  frames = refl;
  sized = tt;
  few = omega arith;
  no_reply = tt;
  later = λ down. fit down;
}

says-as : (policy : Policy) (own : List Row) (pick : ℕ) (p : List ℕ) (given : Option HouseReply) (n : ℕ) (now : View) (front behind : List Entry) (g : Summary) (o : Outcome)
    → read_summary p ≡ Ok g → sent_summary policy HOUSE own pick p g ≡ o → SendsBy o own p given n now front behind → SendsRow policy own pick p given n now front behind
says-as policy own pick p given n now front behind g o reads is does =
    let e : sent_payload policy HOUSE own pick p ≡ o = rw (reads, sent_payload) is in
    subst (λ (o : Outcome). SendsBy o own p given n now front behind) (sym e) does

-- ---- the open that fails

failure-reads : (n reason : ℕ) (text : List ℕ) → n < 2 ^ 32 → reason < 2 ^ 32 → length text < 2 ^ 32 → read_summary (open_failure n reason text) ≡ Ok (Within n Fails)
failure-reads n reason text a b c = summary-ok (open_failure n reason text) (full.To n (full.OpenFailure reason text [])) (spelled_reads (full.To n (full.OpenFailure reason text [])) (open_failure n reason text) (record {
  is_message = (a, (b, c, omega arith));
  flag = 0;
  boolean = refl;
  spelled = refl;
}))

failure-long : (n reason : ℕ) (text : List ℕ) → length (open_failure n reason text) ≡ length text + 17
failure-long n reason text = let l = length-append text (str []) in omega (arith, l)

-- other entries stay
stay : (n : ℕ) (f : View → View) (v : View) (es : List Entry) → Each (Other (Some n, v)) es → map (at-number n f) es ≡ es
stay n f v [] o = refl
stay n f v (e ∷ es) o = ap (λ (h : Entry). h ∷ map (at-number n f) es) (one e (o.0.number n (same-at n))) ∙ ap (λ (l : List Entry). e ∷ l) (stay n f v es o.1)
  where
    none : (w : View) → if-has false f w ≡ w
    none NoChannel = refl
    none IsOpened = refl
    none (IsOffered s w m) = refl
    none (IsLive a) = refl

    one : (e : Entry) → is_number e.0 n ≡ false → at-number n f e ≡ e
    one e h = ap (λ (b : Bool). (e.0, if-has b f e.1)) h ∙ ap (λ (w : View). (e.0, w)) (none e.1)

fails-bound : (n : ℕ) (es : List Entry) → Each (Bound (Does n Fails)) es
fails-bound n [] = tt
fails-bound n (e ∷ es) = ((λ h. at-view e.1), fails-bound n es)
  where
    at-view : (v : View) → BoundView Fails v
    at-view NoChannel = tt
    at-view IsOpened = tt
    at-view (IsOffered s w m) = tt
    at-view (IsLive a) = tt

fails-noted : (n : ℕ) (front behind : List Entry) → AllOther (front ++ (Some n, NoChannel) ∷ behind) → noted (Does n Fails) (front ++ (Some n, IsOpened) ∷ behind) ≡ front ++ (Some n, NoChannel) ∷ behind
fails-noted n front behind apart =
    let o = others-of front (Some n, NoChannel) behind apart in
    let g = at-number n (view-receives Fails) in
    let here : g (Some n, IsOpened) ≡ (Some n, NoChannel) = ap (λ (b : Bool). (Some n, if-has b (view-receives Fails) IsOpened)) (same-at n) in
    map-append g front ((Some n, IsOpened) ∷ behind)
    ∙ (ap (λ (l : List Entry). l ++ g (Some n, IsOpened) ∷ map g behind) (stay n (view-receives Fails) NoChannel front o.front)
    ∙ (ap (λ (e : Entry). front ++ e ∷ map g behind) here
    ∙ ap (λ (l : List Entry). front ++ (Some n, NoChannel) ∷ l) (stay n (view-receives Fails) NoChannel behind o.behind)))

says-fails : (own : List Row) (p : List ℕ) (given : Option HouseReply) (n reason : ℕ) (text : List ℕ) (front behind : List Entry) → n < 2 ^ 32 → reason < 2 ^ 32 → length text ≤ 100
    → ((down : List (List ℕ)) → said-held (fails_open n reason text) own p given down ≡ held_of own)
    → Fit (held_of own) (front ++ (Some n, NoChannel) ∷ behind) → SendsBy (fails_open n reason text) own p given n IsOpened front behind
says-fails own p given n reason text front behind small few short stays fit =
    let q = open_failure n reason text in
    let reads : read_summary q ≡ Ok (Within n Fails) = failure-reads n reason text small few (omega (arith, short)) in
    let long = failure-long n reason text in
    let note : note-in q ≡ Does n Fails = rw (reads, note-in) refl in
    let vs = front ++ (Some n, IsOpened) ∷ behind in
    let after : Later (held_of own) vs (Does n Fails ∷ []) = (fails-bound n vs, subst (Fit (held_of own)) (sym (fails-noted n front behind fit.apart)) fit) in
    record {
      ends = refl;
      recorded = q ∷ [];
      frames = refl;
      sized = ((omega (arith, long), omega (arith, long, short)), tt);
      few = omega arith;
      no_reply = (reading-ok q (Within n Fails) is_reply false reads, tt);
      later = λ down. subst (λ (hs : List Channel). Later hs vs (note-in q ∷ [])) (sym (stays down)) (subst (λ (m : Note). Later (held_of own) vs (m ∷ [])) (sym note) after);
    }

-- ---- an open

-- no channel has this number yet
unused : (own : List Row) (n : ℕ) (o : Outcome) → find (owned-at n) (held_of own) ≡ None → on_unused n o (with_own own n) ≡ o
unused own n o none = ap (λ (x : Option Channel). on_unused n o x) none

says-open : (policy : Policy) (own : List Row) (pick : ℕ) (p : List ℕ) (given : Option HouseReply) (n : ℕ) (key : Key) (front behind : List Entry) → AreBytes p → n < 2 ^ 32
    → read_summary p ≡ Ok (Open (Direct key) n 2097152 32768) → Fit (held_of own) (front ++ (Some n, NoChannel) ∷ behind) → SendsRow policy own pick p given n IsOpened front behind
says-open policy own pick p given n key front behind bytes small reads fit =
    by_permits (permits policy.opens key) refl
  where
    e : Entry
    e = (Some n, NoChannel)

    none : find (owned-at n) (held_of own) ≡ None
    none = (each-behind (Fits (held_of own)) front (e ∷ behind) fit.fits).0

    summary-is : (o : Outcome) → open_outcome policy own pick p n (Direct key) ≡ o → sent_summary policy HOUSE own pick p (Open (Direct key) n 2097152 32768) ≡ o
    summary-is o is = unused own n (open_outcome policy own pick p n (Direct key)) none ∙ is

    fails : (reason : ℕ) (text : List ℕ) → reason < 2 ^ 32 → length text ≤ 100 → open_outcome policy own pick p n (Direct key) ≡ fails_open n reason text → SendsRow policy own pick p given n IsOpened front behind
    fails reason text few short is =
        says-as policy own pick p given n IsOpened front behind (Open (Direct key) n 2097152 32768) (fails_open n reason text) reads (summary-is (fails_open n reason text) is)
        (says-fails own p given n reason text front behind small few short (λ down. said-nothing HOUSE own (Payload p) given down) fit)

    opens : open_outcome policy own pick p n (Direct key) ≡ sends_as pick p → SendsRow policy own pick p given n IsOpened front behind
    opens is =
        says-as policy own pick p given n IsOpened front behind (Open (Direct key) n 2097152 32768) (sends_as pick p) reads (summary-is (sends_as pick p) is)
        (says-quiet (with_sender p pick) own p given n IsOpened front behind (λ down.
        let new = said-open HOUSE own p given down pick (Direct key) n 2097152 32768 bytes reads in
        let x : Channel = record { client = HOUSE; by = Up; own = Some n; number = Some new.0; remote = None; window = 2097152; maximum = 32768; acts = [] } in
        subst (λ (hs : List Channel). Fit hs (front ++ (Some n, IsOpened) ∷ behind)) (sym new.1)
        (opens-one (held_of own) front behind n x refl (record { by = refl; remote = refl; acts = refl; window = refl }) fit)))

    by_room : permits policy.opens key ≡ true → (b : Bool) → nat_lt (length (held_of own)) MAX_CHANNELS ≡ b → SendsRow policy own pick p given n IsOpened front behind
    by_room h true f = opens (rw (h, f, open_outcome, sends_open) refl)
    by_room h false f = fails RESOURCE_SHORTAGE too_many_channels (omega arith) (omega arith) (rw (h, f, open_outcome, sends_open) refl)

    by_permits : (b : Bool) → permits policy.opens key ≡ b → SendsRow policy own pick p given n IsOpened front behind
    by_permits true h = by_room h (nat_lt (length (held_of own)) MAX_CHANNELS) refl
    by_permits false h = fails ADMINISTRATIVELY_PROHIBITED not_permitted (omega arith) (omega arith) (rw (h, open_outcome) refl)

-- ---- a channel that the server opened

and-first : (a b : Bool) → (a && b) ≡ true → a ≡ true
and-first true b e = refl
and-first false b e = cc

own-is : (o : Option ℕ) (n : ℕ) → is_number o n ≡ true → o ≡ Some n
own-is None n h = cc
own-is (Some m) n h = let same : m ≡ n = grind (arith, nat_tests) in ap (λ (i : ℕ). Some i) same

-- where it stands
record Waits (hs : List Channel) (s w m : ℕ) : Type 0 where
  x : Channel
  front : List Channel
  behind : List Channel
  are : hs ≡ front ++ x ∷ behind
  remote : x.remote ≡ Some s
  fresh : IsFreshDown w m x
  waits : find (offered-at s) hs ≡ Some x

waits-at : (hs : List Channel) (n s w m : ℕ) → FitsAs hs (Some n) (IsOffered s w m) → Waits hs s w m
waits-at hs n s w m fits =
    let x = fits.1.0 in
    let f : Found (offered-at s) x hs = found (offered-at s) x hs fits.1.1 in
    record {
      x = x;
      front = f.before;
      behind = f.behind;
      are = f.are;
      remote = own-is x.remote s (and-first (is_number x.remote s) (not (is_up x.by) && not (is_confirmed x)) f.is);
      fresh = fits.1.2;
      waits = fits.1.1;
    }

confirmed-acct : (x : Channel) (n number s w m : ℕ) → x.remote ≡ Some s → IsFreshDown w m x → w ≤ 4294967295
    → IsAccount (record x { own = Some n; number = Some number; acts = (Up, Confirms 2097152 32768) ∷ x.acts }) (fresh-acct s w m)
confirmed-acct x n number s w m remote fresh small = record {
  remote = remote;
  confirmed = refl;
  room_is = rw (fresh.by, fresh.acts, fresh.window) (omega arith);
  small = small;
  maximum = rw (fresh.by, fresh.maximum) refl;
  eof = rw (fresh.acts) refl;
  closed = rw (fresh.acts) refl;
  heard = rw (fresh.acts) refl;
  asks = λ h. rw (fresh.acts) refl;
  few = λ h. omega arith;
  window = rw (fresh.by, fresh.acts) refl;
  given = rw (fresh.acts) refl;
  came = omega arith;
  accounted = by_way;
}
  where
    x' : Channel
    x' = record x { own = Some n; number = Some number; acts = (Up, Confirms 2097152 32768) ∷ x.acts }

    by_way : (way : Side) → IsAccounted way x'
    by_way Up = record { within = rw (fresh.acts) (omega arith); answered = rw (fresh.acts) (omega arith) }
    by_way Down = record { within = rw (fresh.acts) (omega arith); answered = rw (fresh.acts) (omega arith) }

says-confirmation : (policy : Policy) (own : List Row) (pick : ℕ) (p : List ℕ) (given : Option HouseReply) (n s w m : ℕ) (front behind : List Entry) → AreBytes p → w ≤ 4294967295
    → read_summary p ≡ Ok (Confirmation s n 2097152 32768) → Good (held_of own) → Each (IsMine HOUSE) (held_of own)
    → Fit (held_of own) (front ++ (Some n, IsOffered s w m) ∷ behind) → SendsRow policy own pick p given n (IsLive (fresh-acct s w m)) front behind
says-confirmation policy own pick p given n s w m front behind bytes small reads good mine fit =
    let e : Entry = (Some n, IsOffered s w m) in
    let its : FitsAs (held_of own) (Some n) (IsOffered s w m) = (each-behind (Fits (held_of own)) front (e ∷ behind) fit.fits).0 in
    let at = waits-at (held_of own) n s w m its in
    let is : sent_summary policy HOUSE own pick p (Confirmation s n 2097152 32768) ≡ sends_as pick p =
    ap (λ (x : Option Channel). on_waiting s (on_unused n (sends_as pick p) (with_own own n)) x) at.waits ∙ unused own n (sends_as pick p) its.0 in
    says-as policy own pick p given n (IsLive (fresh-acct s w m)) front behind (Confirmation s n 2097152 32768) (sends_as pick p) reads is
    (says-quiet (with_sender p pick) own p given n (IsLive (fresh-acct s w m)) front behind (λ down.
    let new = said-confirmation HOUSE own p given down pick s n 2097152 32768 bytes reads good mine at.front at.behind at.x at.are at.remote at.fresh.acts in
    let x' : Channel = record at.x { own = Some n; number = Some new.0; acts = (Up, Confirms 2097152 32768) ∷ at.x.acts } in
    subst (λ (hs : List Channel). Fit hs (front ++ (Some n, IsLive (fresh-acct s w m)) ∷ behind)) (sym new.1)
    (accepts-one at.front at.behind at.x x' front behind n s w m (fresh-acct s w m) at.fresh.own at.remote refl (confirmed-acct at.x n new.0 s w m at.remote at.fresh small)
    (subst (λ (hs : List Channel). Fit hs (front ++ (Some n, IsOffered s w m) ∷ behind)) at.are fit))))

says-refusal : (policy : Policy) (own : List Row) (pick : ℕ) (p : List ℕ) (given : Option HouseReply) (n s w m : ℕ) (front behind : List Entry)
    → read_summary p ≡ Ok (Within s Fails) → Good (held_of own) → Each (IsMine HOUSE) (held_of own)
    → Fit (held_of own) (front ++ (Some n, IsOffered s w m) ∷ behind) → SendsRow policy own pick p given n NoChannel front behind
says-refusal policy own pick p given n s w m front behind reads good mine fit =
    let e : Entry = (Some n, IsOffered s w m) in
    let its : FitsAs (held_of own) (Some n) (IsOffered s w m) = (each-behind (Fits (held_of own)) front (e ∷ behind) fit.fits).0 in
    let at = waits-at (held_of own) n s w m its in
    let is : sent_summary policy HOUSE own pick p (Within s Fails) ≡ sends_payload p = ap (λ (x : Option Channel). on_waiting s (sends_payload p) x) at.waits in
    says-as policy own pick p given n NoChannel front behind (Within s Fails) (sends_payload p) reads is
    (says-quiet p own p given n NoChannel front behind (λ down.
    let new = said-act HOUSE own p given down s Fails reads good mine at.front at.behind at.x at.are at.remote in
    let over : kept (with_act Up Fails at.x) at.behind ≡ at.behind = kept-over (with_act Up Fails at.x) at.behind refl in
    subst (λ (hs : List Channel). Fit hs (front ++ (Some n, NoChannel) ∷ behind)) (sym (new ∙ ap (λ (l : List Channel). at.front ++ l) over))
    (refuses-one at.front at.behind at.x front behind (Some n) s w m at.fresh.own at.remote
    (subst (λ (hs : List Channel). Fit hs (front ++ (Some n, IsOffered s w m) ∷ behind)) at.are fit))))

-- ---- a channel that is confirmed

-- it isn't over, unless both have closed it
not-failed : (x : Channel) → is_channel_held x ≡ true → any_act is_fails x.acts ≡ false
not-failed x h = go (any_act is_fails x.acts) (any_by Up is_closes x.acts && any_by Down is_closes x.acts) h
  where
    go : (a b : Bool) → not (a || b) ≡ true → a ≡ false
    go true b h = cc
    go false b h = refl

abbrev HeldIs : Act → Channel → Type 0
HeldIs Closes x = is_channel_held (with_act Up Closes x) ≡ not (any_by Down is_closes x.acts)
HeldIs act x = is_channel_held (with_act Up act x) ≡ true

held-is : (act : Act) (x : Channel) (a : Acct) → MaySend act a → is_channel_held x ≡ true → HeldIs act x
held-is Closes x a may h = rw (not-failed x h) refl
held-is (Carries n) x a may h = h
held-is Ends x a may h = h
held-is (Grants n) x a may h = h
held-is Answers x a may h = h
held-is (Confirms w m) x a may h = absurd may
held-is Fails x a may h = absurd may
held-is (Asks wants) x a may h = absurd may

-- after what is sent it is as that has it
fits-said : (act : Act) (x : Channel) (a : Acct) (fs bs : List Channel) (front behind : List Entry) (n : ℕ) → x.own ≡ Some n → IsAccount x a → MaySend act a → is_channel_held x ≡ true
    → Each (λ (y : Channel). owned-at n y ≡ false) fs → Each (λ (y : Channel). owned-at n y ≡ false) bs
    → Fit (fs ++ x ∷ bs) (front ++ (Some n, IsLive a) ∷ behind) → Fit (fs ++ kept (with_act Up act x) bs) (front ++ (Some n, said-view act a) ∷ behind)
fits-said act x a fs bs front behind n own is may held none more fit = by_act act may (says-account act x a is may) (held-is act x a may held)
  where
    goes : (act : Act) → IsAccount (with_act Up act x) (says act a) → is_channel_held (with_act Up act x) ≡ true → Fit (fs ++ kept (with_act Up act x) bs) (front ++ (Some n, IsLive (says act a)) ∷ behind)
    goes act is' h =
        subst (λ (l : List Channel). Fit (fs ++ l) (front ++ (Some n, IsLive (says act a)) ∷ behind)) (sym (kept-held (with_act Up act x) bs h))
        (live-on fs bs x (with_act Up act x) front behind n a (says act a) own is.confirmed own is' none fit)

    closes : (b : Bool) → a.close_received ≡ b → IsAccount (with_act Up Closes x) (says Closes a) → is_channel_held (with_act Up Closes x) ≡ not (any_by Down is_closes x.acts) → Fit (fs ++ kept (with_act Up Closes x) bs) (front ++ (Some n, unless-over a.close_received (says Closes a)) ∷ behind)
    closes true e is' h =
        let over : is_channel_held (with_act Up Closes x) ≡ false = h ∙ ap (λ (b : Bool). not b) (is.heard ∙ e) in
        subst (λ (b : Bool). Fit (fs ++ kept (with_act Up Closes x) bs) (front ++ (Some n, unless-over b (says Closes a)) ∷ behind)) (sym e)
        (subst (λ (l : List Channel). Fit (fs ++ l) (front ++ (Some n, NoChannel) ∷ behind)) (sym (kept-over (with_act Up Closes x) bs over))
        (live-over fs bs x front behind n (IsLive a) (λ s. unoffered s) own none more fit))
      where
        unoffered : (s : ℕ) → offered-at s x ≡ false
        unoffered s = ap (λ (c : Bool). is_number x.remote s && (not (is_up x.by) && not c)) is.confirmed ∙ and-false (is_number x.remote s) (is_up x.by)
          where
            and-false : (b c : Bool) → (b && (not c && false)) ≡ false
            and-false true true = refl
            and-false true false = refl
            and-false false c = refl
    closes false e is' h =
        subst (λ (b : Bool). Fit (fs ++ kept (with_act Up Closes x) bs) (front ++ (Some n, unless-over b (says Closes a)) ∷ behind)) (sym e)
        (goes Closes is' (h ∙ ap (λ (b : Bool). not b) (is.heard ∙ e)))

    by_act : (act : Act) → MaySend act a → IsAccount (with_act Up act x) (says act a) → HeldIs act x → Fit (fs ++ kept (with_act Up act x) bs) (front ++ (Some n, said-view act a) ∷ behind)
    by_act Closes may is' h = closes a.close_received refl is' h
    by_act (Carries k) may is' h = goes (Carries k) is' h
    by_act Ends may is' h = goes Ends is' h
    by_act (Grants k) may is' h = goes (Grants k) is' h
    by_act Answers may is' h = goes Answers is' h
    by_act (Confirms w m) may is' h = absurd may
    by_act Fails may is' h = absurd may
    by_act (Asks wants) may is' h = absurd may

may-not-fail : (act : Act) (a : Acct) → MaySend act a → is_failing act ≡ false
may-not-fail Fails a may = absurd may
may-not-fail (Confirms w m) a may = refl
may-not-fail (Grants n) a may = refl
may-not-fail (Carries n) a may = refl
may-not-fail Ends a may = refl
may-not-fail Closes a may = refl
may-not-fail (Asks wants) a may = refl
may-not-fail Answers a may = refl

-- the channel is found
found-confirmed : (hs : List Channel) (n : ℕ) (x : Channel) (a : Acct) → Good hs → find (owned-at n) hs ≡ Some x → IsAccount x a → find (λ (y : Channel). is_number y.remote a.remote && is_confirmed y) hs ≡ Some x
found-confirmed hs n x a good own is =
    let f : Found (owned-at n) x hs = found (owned-at n) x hs own in
    let test : Channel → Bool = λ (y : Channel). is_number y.remote a.remote && is_confirmed y in
    let number : is_number x.remote a.remote ≡ true = ap (λ (o : Option ℕ). is_number o a.remote) is.remote ∙ same-at a.remote in
    let yes-x : test x ≡ true = ap (λ (b : Bool). b && is_confirmed x) number ∙ is.confirmed in
    let none : Each (λ (y : Channel). test y ≡ false) f.before = each-of (Far x) (λ (y : Channel). test y ≡ false) (λ y far. ap (λ (b : Bool). b && is_confirmed y) (far.remotes a.remote number)) f.before (far-front f.before f.behind x (subst AllFar f.are good.far)) in
    ap (λ (l : List Channel). find test l) f.are ∙ find-at test f.before f.behind x none yes-x

says-live : (policy : Policy) (own : List Row) (pick : ℕ) (p : List ℕ) (given : Option HouseReply) (n s : ℕ) (act : Act) (a : Acct) (front behind : List Entry)
    → read_summary p ≡ Ok (Within s act) → a.remote ≡ s → MaySend act a → Good (held_of own) → Each (IsMine HOUSE) (held_of own)
    → Fit (held_of own) (front ++ (Some n, IsLive a) ∷ behind) → SendsRow policy own pick p given n (said-view act a) front behind
says-live policy own pick p given n s act a front behind reads remote may good mine fit =
    let hs = held_of own in
    let e : Entry = (Some n, IsLive a) in
    let its : FitsAs hs (Some n) (IsLive a) = (each-behind (Fits hs) front (e ∷ behind) fit.fits).0 in
    let x = its.0 in
    let account : IsAccount x a = its.2 in
    let f : Found (owned-at n) x hs = found (owned-at n) x hs its.1 in
    let confirmed : confirmed_at own s ≡ Some x = subst (λ (r : ℕ). confirmed_at own r ≡ Some x) remote (found-confirmed hs n x a good its.1 account) in
    let is : sent_summary policy HOUSE own pick p (Within s act) ≡ sends_payload p =
    ap (λ (b : Bool). elim b as (λ _. Outcome) [ true ↦ on_waiting s (sends_payload p) (waiting_at own s) | false ↦ on_confirmed p s act (confirmed_at own s) ]) (may-not-fail act a may)
    ∙ (ap (λ (o : Option Channel). on_confirmed p s act o) confirmed
    ∙ ap (λ (b : Option Breach). on_breach p s b) (no-breach act x a account may)) in
    let its-own : x.own ≡ Some n = own-is x.own n f.is in
    let held : is_channel_held x ≡ true = (each-behind (λ (y : Channel). is_channel_held y ≡ true) f.before (x ∷ f.behind) (subst (λ (l : List Channel). Each (λ (y : Channel). is_channel_held y ≡ true) l) f.are good.held)).0 in
    let more : Each (λ (y : Channel). owned-at n y ≡ false) f.behind = each-of (Far x) (λ (y : Channel). owned-at n y ≡ false) (λ y far. far.owns n f.is) f.behind (far-behind f.before f.behind x (subst AllFar f.are good.far)) in
    says-as policy own pick p given n (said-view act a) front behind (Within s act) (sends_payload p) reads is
    (says-quiet p own p given n (said-view act a) front behind (λ down.
    let new = said-act HOUSE own p given down s act reads good mine f.before f.behind x f.are (account.remote ∙ ap (λ (r : ℕ). Some r) remote) in
    subst (λ (hs : List Channel). Fit hs (front ++ (Some n, said-view act a) ∷ behind)) (sym new)
    (fits-said act x a f.before f.behind front behind n its-own account may held f.none more
    (subst (λ (hs : List Channel). Fit hs (front ++ (Some n, IsLive a) ∷ behind)) f.are fit))))

-- ---- whatever a relay sends

-- the window of one that the server opened is uint32
abbrev pub IsWindowed : View → Type 0
IsWindowed was = (s w m : ℕ) → was ≡ IsOffered s w m → w ≤ 4294967295

live-act : (s : Outgoing) (remote : ℕ) (p : List ℕ) → ReadsLive remote s p → read_summary p ≡ Ok (Within remote (act-of s))
live-act outgoing.Open remote p reads = absurd reads
live-act outgoing.Confirmation remote p reads = absurd reads
live-act outgoing.OpenFailure remote p reads = absurd reads
live-act outgoing.Close remote p reads = reads
live-act outgoing.Failure remote p reads = reads
live-act (outgoing.Data n) remote p reads = reads
live-act outgoing.Eof remote p reads = reads
live-act (outgoing.Adjust n) remote p reads = reads

says-asked : (policy : Policy) (own : List Row) (pick : ℕ) (p : List ℕ) (given : Option HouseReply) (n : ℕ) (said : Outgoing) (was now : View) (front behind : List Entry) → AreBytes p → n < 2 ^ 32
    → SendsOpen said was now → ReadsOpen n said p → Fit (held_of own) (front ++ (Some n, was) ∷ behind) → SendsRow policy own pick p given n now front behind
says-asked policy own pick p given n outgoing.Open was now front behind bytes small does reads fit =
    subst (λ (v : View). SendsRow policy own pick p given n v front behind) (sym does.1)
    (says-open policy own pick p given n reads.0 front behind bytes small reads.1 (subst (λ (v : View). Fit (held_of own) (front ++ (Some n, v) ∷ behind)) does.0 fit))
says-asked policy own pick p given n outgoing.Confirmation was now front behind bytes small does reads fit = absurd does
says-asked policy own pick p given n outgoing.OpenFailure was now front behind bytes small does reads fit = absurd does
says-asked policy own pick p given n outgoing.Close was now front behind bytes small does reads fit = absurd does
says-asked policy own pick p given n outgoing.Failure was now front behind bytes small does reads fit = absurd does
says-asked policy own pick p given n (outgoing.Data k) was now front behind bytes small does reads fit = absurd does
says-asked policy own pick p given n outgoing.Eof was now front behind bytes small does reads fit = absurd does
says-asked policy own pick p given n (outgoing.Adjust k) was now front behind bytes small does reads fit = absurd does

says-offered : (policy : Policy) (own : List Row) (pick : ℕ) (p : List ℕ) (given : Option HouseReply) (n s w m : ℕ) (said : Outgoing) (was now : View) (front behind : List Entry) → AreBytes p → IsWindowed was
    → Good (held_of own) → Each (IsMine HOUSE) (held_of own)
    → SendsOffer s w m said was now → ReadsOffer s n said p → Fit (held_of own) (front ++ (Some n, was) ∷ behind) → SendsRow policy own pick p given n now front behind
says-offered policy own pick p given n s w m outgoing.Confirmation was now front behind bytes windowed good mine does reads fit =
    subst (λ (v : View). SendsRow policy own pick p given n v front behind) (sym does.1)
    (says-confirmation policy own pick p given n s w m front behind bytes (windowed s w m does.0) reads good mine (subst (λ (v : View). Fit (held_of own) (front ++ (Some n, v) ∷ behind)) does.0 fit))
says-offered policy own pick p given n s w m outgoing.OpenFailure was now front behind bytes windowed good mine does reads fit =
    subst (λ (v : View). SendsRow policy own pick p given n v front behind) (sym does.1)
    (says-refusal policy own pick p given n s w m front behind reads good mine (subst (λ (v : View). Fit (held_of own) (front ++ (Some n, v) ∷ behind)) does.0 fit))
says-offered policy own pick p given n s w m outgoing.Open was now front behind bytes windowed good mine does reads fit = absurd does
says-offered policy own pick p given n s w m outgoing.Close was now front behind bytes windowed good mine does reads fit = absurd does
says-offered policy own pick p given n s w m outgoing.Failure was now front behind bytes windowed good mine does reads fit = absurd does
says-offered policy own pick p given n s w m (outgoing.Data k) was now front behind bytes windowed good mine does reads fit = absurd does
says-offered policy own pick p given n s w m outgoing.Eof was now front behind bytes windowed good mine does reads fit = absurd does
says-offered policy own pick p given n s w m (outgoing.Adjust k) was now front behind bytes windowed good mine does reads fit = absurd does

says-in : (policy : Policy) (own : List Row) (pick : ℕ) (p : List ℕ) (given : Option HouseReply) (at : ChannelState) (n : ℕ) (said : Outgoing) (was now : View) (front behind : List Entry)
    → AreBytes p → n < 2 ^ 32 → IsWindowed was → Good (held_of own) → Each (IsMine HOUSE) (held_of own)
    → SentAs at said was now → ReadsIn at n said p → Fit (held_of own) (front ++ (Some n, was) ∷ behind) → SendsRow policy own pick p given n now front behind
says-in policy own pick p given (line.Dialing dialog) n said was now front behind bytes small windowed good mine does reads fit = absurd does
says-in policy own pick p given (line.Asked host port version) n said was now front behind bytes small windowed good mine does reads fit =
    says-asked policy own pick p given n said was now front behind bytes small does reads fit
says-in policy own pick p given (line.Opened version) n said was now front behind bytes small windowed good mine does reads fit = absurd does
says-in policy own pick p given (line.Offered s w m) n said was now front behind bytes small windowed good mine does reads fit =
    says-offered policy own pick p given n s w m said was now front behind bytes windowed good mine does reads fit
says-in policy own pick p given (line.Live live) n said was now front behind bytes small windowed good mine does reads fit =
    subst (λ (v : View). SendsRow policy own pick p given n v front behind) (sym does.now)
    (says-live policy own pick p given n live.remote (act-of said) does.acct front behind (live-act said live.remote p reads) does.remote does.may good mine
    (subst (λ (v : View). Fit (held_of own) (front ++ (Some n, v) ∷ behind)) does.was fit))
says-in policy own pick p given line.Over n said was now front behind bytes small windowed good mine does reads fit = absurd does

pub says-row : (policy : Policy) (own : List Row) (pick : ℕ) (p : List ℕ) (given : Option HouseReply) (r : Relay) (said : Outgoing) (was now : View) (front behind : List Entry)
    → AreBytes p → Good (held_of own) → Each (IsMine HOUSE) (held_of own) → r.number < 2 ^ 32 → IsWindowed was
    → SentAs r.line said was now → Reads r said p → Fit (held_of own) (front ++ (Some r.number, was) ∷ behind) → SendsRow policy own pick p given r.number now front behind
says-row policy own pick p given r said was now front behind bytes good mine small windowed does reads fit =
    says-in policy own pick p given r.line r.number said was now front behind bytes small windowed good mine does reads fit
