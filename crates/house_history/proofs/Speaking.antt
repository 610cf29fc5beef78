-- What a relay of the forwarder sends, where all that the forwarder was sent is received, may be
-- sent.
use Rattle.std.proofs.Common.{◌≡◌, ◌≤◌, ◌<◌, ◌+◌, ◌-◌, ◌^◌, ℕ, Bool, true, false, not, min, ◌&&◌, Option, Some, None, List, [], ◌∷◌, ◌++◌, refl, sym, ap, ◌∙◌, subst, arith, length, length-append, append_assoc, IsTrue}
use Rattle.std.specs.Prelude.{nat_lt, is_some, if◌then◌else◌}
use Rattle.std.proofs.lemmas.Bool.{ltb-true}
use Rattle.house_relay.specs.Acts.{RelayAct, adjusted, delivered, dialog_replies, sent_eof, accepted_length, to_take}
use Rattle.house_relay.specs.ChannelState.{is_counted_channel, over_if}
use Rattle.house_relay.specs.Next.{chunk, sends_held, sends_in, sends_live, sends_of}
use Rattle.house_relay.specs.Relay.{IsLive as StandsLive, LineStands, RelayRepresents, is_to_be_closed, sent_act}
use Rattle.house_relay.specs.Steps.{is_socket_closed, is_gone, sent_of}
use Rattle.house_relay.specs.declared.line.ChannelState.{ChannelState}
use Rattle.house_relay.specs.declared.line.ChannelState.TheVariants.{Asked, Dialing, Live, Offered, Opened, Over}
use Rattle.house_relay.specs.declared.line.Live.{Live as LiveState}
use Rattle.house_relay.specs.declared.relay.Relay.{Relay}
use Rattle.house_relay.specs.declared.relay.Outgoing.{Outgoing}
use Rattle.house_relay.specs.declared.relay.Outgoing.TheVariants.{Adjust, Close, Confirmation, Data, Eof, Failure, Open, OpenFailure}
use Rattle.house_relay.proofs.Whole.{relays}
use Rattle.house_forward.specs.Going.{act_of_sending}
use Rattle.house_forward.specs.Links.{relay_after_sending}
use Rattle.house_forward.specs.RelayTraces.{Trace, Life, SendsBy, Speaks, kept_in}
use Rattle.house_forward.specs.Said.{framed, payload_if}
use Rattle.house_forward.proofs.Sound.{Each as EachLife, Sound, each-back}
use Rattle.mux_history.specs.Channels.{Channel}
use Rattle.mux_history.specs.Summary as summary
use Rattle.house_forward.proofs.Owning.{number-said}
use Rattle.house_history.proofs.Lists.{Each, each-behind}
use Rattle.house_history.proofs.Fitting.{Entry, Fit}
use Rattle.house_history.proofs.Notes.{Later, Note, fresh-acct, later-without, unless-over}
use Rattle.house_history.proofs.Seen.{AreViews, IsView, LiveIs, SentAs, Seen, Spoken, Untouched, ViewOf, said-view}
use Rattle.house_history.proofs.Views.{Acct, IsLive, IsOffered, IsOpened, NoChannel, View, says}
use Rattle.house_history.proofs.Readings.{OfferSends, offer-says}

-- ---- the views of lives

-- the entry of one of them
pub record Split (before : List Life) (life : Life) (behind : List Life) (es : List Entry) : Type 0 where
  pub front : List Entry
  pub view : View
  pub back : List Entry
  pub fronts : AreViews before front
  pub is : ViewOf life.relay.line life.acts view
  pub backs : AreViews behind back
  pub split : es ≡ front ++ (Some life.relay.number, view) ∷ back

pub views-split : (before : List Life) (life : Life) (behind : List Life) (es : List Entry) → AreViews (before ++ life ∷ behind) es → Split before life behind es
views-split [] life behind [] h = absurd h
views-split [] life behind (e ∷ es) h = record {
  front = [];
  view = e.1;
  back = es;
  fronts = tt;
  is = h.0.view;
  backs = h.1;
  split = ap (λ (o : Option ℕ). (o, e.1) ∷ es) h.0.number;
}
views-split (l ∷ before) life behind [] h = absurd h
views-split (l ∷ before) life behind (e ∷ es) h =
    let s = views-split before life behind es h.1 in
    record {
      front = e ∷ s.front;
      view = s.view;
      back = s.back;
      fronts = (h.0, s.fronts);
      is = s.is;
      backs = s.backs;
      split = ap (λ (l : List Entry). e ∷ l) s.split;
    }

pub views-join : (before : List Life) (life : Life) (behind : List Life) (front : List Entry) (e : Entry) (back : List Entry) → AreViews before front → IsView life e → AreViews behind back → AreViews (before ++ life ∷ behind) (front ++ e ∷ back)
views-join [] life behind [] e back fs is bs = (is, bs)
views-join [] life behind (f ∷ front) e back fs is bs = absurd fs
views-join (l ∷ before) life behind [] e back fs is bs = absurd fs
views-join (l ∷ before) life behind (f ∷ front) e back fs is bs = (fs.0, views-join before life behind front e back fs.1 is bs)

-- ---- one of which nothing is left has no channel

not-true : (b : Bool) → not b ≡ true → b ≡ false
not-true true e = cc
not-true false e = refl

and-right : (a b : Bool) → (a && b) ≡ true → b ≡ true
and-right true b e = e
and-right false b e = cc

uncounted-none : (line : ChannelState) (acts : List RelayAct) (v : View) → is_counted_channel line ≡ false → ViewOf line acts v → v ≡ NoChannel
uncounted-none (Dialing dialog) acts v e h = h.0
uncounted-none (Asked host port version) acts v e h = cc
uncounted-none (Opened version) acts v e h = cc
uncounted-none (Offered remote window maximum) acts v e h = cc
uncounted-none (Live live) acts v e h = cc
uncounted-none Over acts v e h = h

pub gone-none : (l : Life) (v : View) → is_gone l.relay ≡ true → ViewOf l.relay.line l.acts v → v ≡ NoChannel
gone-none l v e h = uncounted-none l.relay.line l.acts v (not-true (is_counted_channel l.relay.line) (and-right (is_socket_closed l.relay.socket) (not (is_counted_channel l.relay.line)) e)) h

-- the entries of those that are left
record Sweeps (relay_traces : List Life) (es : List Entry) : Type 0 where
  kept : List Entry
  views : AreViews (kept_in relay_traces) kept
  later : (hs : List Channel) (notes : List Note) (fs os : List Entry) → Later hs (fs ++ (es ++ os)) notes → Later hs (fs ++ (kept ++ os)) notes

sweeps : (relay_traces : List Life) (es : List Entry) → AreViews relay_traces es → Sweeps relay_traces es
sweeps [] [] h = record { kept = []; views = tt; later = λ hs notes fs os l. l }
sweeps [] (e ∷ es) h = absurd h
sweeps (l ∷ relay_traces) [] h = absurd h
sweeps (l ∷ relay_traces) (e ∷ es) h = by_gone (sweeps relay_traces es h.1) (is_gone l.relay) refl
  where
    by_gone : Sweeps relay_traces es → (b : Bool) → is_gone l.relay ≡ b → Sweeps (l ∷ relay_traces) (e ∷ es)
    by_gone s true is =
        let none : e.1 ≡ NoChannel = gone-none l e.1 is h.0.view in
        record {
          kept = es;
          views = subst (λ (b : Bool). AreViews (if b then relay_traces else l ∷ kept_in relay_traces) es) (sym is) h.1;
          later = λ hs notes fs os k. later-without hs e.0 notes fs (es ++ os) (subst (λ (v : View). Later hs (fs ++ (e.0, v) ∷ (es ++ os)) notes) none k);
        }
    by_gone s false is = record {
      kept = e ∷ s.kept;
      views = subst (λ (b : Bool). AreViews (if b then relay_traces else l ∷ kept_in relay_traces) (e ∷ s.kept)) (sym is) (h.0, s.views);
      later = λ hs notes fs os k.
          subst (λ (vs : List Entry). Later hs vs notes) (append_assoc fs (e ∷ []) (s.kept ++ os))
          (s.later hs notes (fs ++ e ∷ []) os (subst (λ (vs : List Entry). Later hs vs notes) (sym (append_assoc fs (e ∷ []) (es ++ os))) k));
    }

-- those of which nothing is left go
pub seen-kept : (hs : List Channel) (relay_traces : List Life) (notes : List Note) → Seen hs relay_traces notes → Seen hs (kept_in relay_traces) notes
seen-kept hs relay_traces notes s =
    let w = sweeps relay_traces s.entries s.views in
    record {
      entries = w.kept;
      orphans = s.orphans;
      views = w.views;
      unnumbered = s.unnumbered;
      later = w.later hs notes [] s.orphans s.later;
    }

-- ---- what may be sent in a channel that is confirmed

abbrev LiveSends : Relay → LiveState → Option Outgoing → Type 0
LiveSends r live None = Unit {0}
LiveSends r live (Some Open) = ⊥
LiveSends r live (Some Confirmation) = ⊥
LiveSends r live (Some OpenFailure) = ⊥
LiveSends r live (Some Close) = live.close_sent ≡ false
LiveSends r live (Some Failure) = (live.close_sent ≡ false) × (0 < live.failures)
LiveSends r live (Some (Data n)) = (live.close_sent ≡ false) × (0 < length r.held.waiting) × (n ≤ live.room) × (n ≤ live.maximum)
LiveSends r live (Some Eof) = (live.close_sent ≡ false) × (live.eof_sent ≡ false)
LiveSends r live (Some (Adjust n)) = (live.close_sent ≡ false) × (n ≤ live.owed)

either : (P : Option Outgoing → Type 0) (b : Bool) (x y : Option Outgoing) → (b ≡ true → P x) → (b ≡ false → P y) → P (if b then x else y)
either P true x y h k = h refl
either P false x y h k = k refl

held-says : (r : Relay) (live : LiveState) → live.close_sent ≡ false → LiveSends r live (sends_held r live)
held-says r live unclosed =
    let P = LiveSends r live in
    either P (nat_lt 0 (length r.held.waiting))
    (if nat_lt 0 (chunk r live) then Some (Data (chunk r live)) else None)
    (if r.ended && not live.eof_sent then Some Eof else None)
    (λ some. either P (nat_lt 0 (chunk r live)) (Some (Data (chunk r live))) None (λ e. (unclosed, ltb-true 0 (length r.held.waiting) some, omega arith, omega arith)) (λ e. tt))
    (λ none. either P (r.ended && not live.eof_sent) (Some Eof) None (λ e. (unclosed, not-true live.eof_sent (and-right r.ended (not live.eof_sent) e))) (λ e. tt))

live-says : (r : Relay) (live : LiveState) → LiveSends r live (sends_live r live)
live-says r live =
    let P = LiveSends r live in
    either P live.close_sent None _ (λ e. tt) (λ unclosed.
    either P (is_to_be_closed r.socket r.queue.waiting live) (Some Close) _ (λ e. unclosed) (λ e.
    either P (nat_lt 0 live.failures) (Some Failure) _ (λ e. (unclosed, ltb-true 0 live.failures e)) (λ e.
    either P (nat_lt 0 live.owed) (Some (Adjust (min live.owed (2 ^ 32 - 1)))) _ (λ e. (unclosed, omega arith)) (λ e.
    held-says r live unclosed))))

-- ---- what that does

abbrev with-line : ChannelState → Relay → Relay
with-line line r = record r { line = line }

-- the view goes on by what is sent, and is that of the channel state after it
record Does (line : ChannelState) (r : Relay) (s : Outgoing) (acts : List RelayAct) (v : View) : Type 0 where
  now : View
  does : SentAs line s v now
  next : ViewOf (sent_of s (with-line line r)).line (sent_act s (with-line line r) ∷ acts) now

-- EOF wasn't sent where bytes are held
eof-unsaid : (held : List ℕ) (said : Bool) → (IsTrue said → held ≡ []) → 0 < length held → said ≡ false
eof-unsaid held true none some = absurd (let e : length held ≡ 0 = ap length (none refl) in omega (arith, e, some))
eof-unsaid held false none some = refl

-- CLOSE is sent, and the channel is over where it was received
over-both : (b : Bool) (live : LiveState) (acts : List RelayAct) (a : Acct) → LiveIs live acts a → ViewOf (over_if b live) acts (unless-over b a)
over-both true live acts a h = refl
over-both false live acts a h = (a, refl, h)

live-close : (live : LiveState) (r : Relay) (acts : List RelayAct) (a : Acct) → live.close_sent ≡ false → LiveIs live acts a → Does (Live live) r Close acts (IsLive a)
live-close live r acts a unclosed h = record {
  now = said-view summary.Closes a;
  does = record { acct = a; was = refl; remote = sym h.remote; may = sym h.close_sent ∙ unclosed; now = refl };
  next = subst (λ (b : Bool). ViewOf (over_if live.close_received (record live { close_sent = true; failures = 0; owed = 0 })) (sent_act Close (with-line (Live live) r) ∷ acts) (unless-over b (says summary.Closes a))) h.close_received
      (over-both live.close_received (record live { close_sent = true; failures = 0; owed = 0 }) (sent_act Close (with-line (Live live) r) ∷ acts) (says summary.Closes a) (record {
        remote = h.remote;
        room = h.room;
        maximum = h.maximum;
        eof_sent = h.eof_sent;
        close_sent = refl;
        close_received = h.close_received;
        failures = λ e. cc;
        given = h.given;
        came = h.came;
      }));
}

live-failure : (live : LiveState) (r : Relay) (acts : List RelayAct) (a : Acct) → live.close_sent ≡ false → 0 < live.failures → LiveIs live acts a → Does (Live live) r Failure acts (IsLive a)
live-failure live r acts a unclosed some h =
    let same : live.failures ≡ a.failures = h.failures unclosed in
    record {
      now = said-view summary.Answers a;
      does = record { acct = a; was = refl; remote = sym h.remote; may = (sym h.close_sent ∙ unclosed, omega (arith, same, some)); now = refl };
      next = (
        says summary.Answers a,
        refl,
        record {
          remote = h.remote;
          room = h.room;
          maximum = h.maximum;
          eof_sent = h.eof_sent;
          close_sent = h.close_sent;
          close_received = h.close_received;
          failures = λ e. ap (λ (n : ℕ). n - 1) same;
          given = h.given;
          came = h.came;
        },
      );
    }

live-data : (n : ℕ) (live : LiveState) (r : Relay) (acts : List RelayAct) (a : Acct) → live.close_sent ≡ false → live.eof_sent ≡ false → n ≤ live.room → n ≤ live.maximum → LiveIs live acts a → Does (Live live) r (Data n) acts (IsLive a)
live-data n live r acts a unclosed more room most h = record {
  now = said-view (summary.Carries n) a;
  does = record { acct = a; was = refl; remote = sym h.remote; may = (sym h.close_sent ∙ unclosed, sym h.eof_sent ∙ more, subst (λ (k : ℕ). n ≤ k) h.room room, subst (λ (k : ℕ). n ≤ k) h.maximum most); now = refl };
  next = (
    says (summary.Carries n) a,
    refl,
    record {
      remote = h.remote;
      room = ap (λ (k : ℕ). k - n) h.room;
      maximum = h.maximum;
      eof_sent = h.eof_sent;
      close_sent = h.close_sent;
      close_received = h.close_received;
      failures = h.failures;
      given = h.given;
      came = h.came;
    },
  );
}

live-eof : (live : LiveState) (r : Relay) (acts : List RelayAct) (a : Acct) → live.close_sent ≡ false → live.eof_sent ≡ false → LiveIs live acts a → Does (Live live) r Eof acts (IsLive a)
live-eof live r acts a unclosed more h = record {
  now = said-view summary.Ends a;
  does = record { acct = a; was = refl; remote = sym h.remote; may = (sym h.close_sent ∙ unclosed, sym h.eof_sent ∙ more); now = refl };
  next = (
    says summary.Ends a,
    refl,
    record {
      remote = h.remote;
      room = h.room;
      maximum = h.maximum;
      eof_sent = refl;
      close_sent = h.close_sent;
      close_received = h.close_received;
      failures = h.failures;
      given = h.given;
      came = h.came;
    },
  );
}

-- no more room is given back than data came
live-adjust : (n : ℕ) (live : LiveState) (r : Relay) (dials : Bool) (acts : List RelayAct) (a : Acct) → live.close_sent ≡ false → n ≤ live.owed → StandsLive live dials acts → accepted_length acts ≤ length (to_take dials acts) → LiveIs live acts a → Does (Live live) r (Adjust n) acts (IsLive a)
live-adjust n live r dials acts a unclosed owes stands fits h =
    let owed : adjusted acts + live.owed ≡ accepted_length acts - length (dialog_replies dials acts) = stands.owed unclosed in
    let size : length (to_take dials acts) ≡ length (dialog_replies dials acts) + length (delivered acts) = length-append (dialog_replies dials acts) (delivered acts) in
    let given : adjusted acts ≡ a.given = h.given in
    let came : length (delivered acts) ≤ a.came = h.came in
    record {
      now = said-view (summary.Grants n) a;
      does = record { acct = a; was = refl; remote = sym h.remote; may = (sym h.close_sent ∙ unclosed, omega (arith, owed, size, given, came, owes, fits)); now = refl };
      next = (
        says (summary.Grants n) a,
        refl,
        record {
          remote = h.remote;
          room = h.room;
          maximum = h.maximum;
          eof_sent = h.eof_sent;
          close_sent = h.close_sent;
          close_received = h.close_received;
          failures = h.failures;
          given = ap (λ (k : ℕ). k + n) given;
          came = came;
        },
      );
    }

live-does : (s : Outgoing) (live : LiveState) (r : Relay) (dials : Bool) (acts : List RelayAct) (a : Acct) → LiveSends r live (Some s) → StandsLive live dials acts → accepted_length acts ≤ length (to_take dials acts) → (IsTrue (sent_eof acts) → r.held.waiting ≡ []) → LiveIs live acts a → Does (Live live) r s acts (IsLive a)
live-does Open live r dials acts a l stands fits last h = absurd l
live-does Confirmation live r dials acts a l stands fits last h = absurd l
live-does OpenFailure live r dials acts a l stands fits last h = absurd l
live-does Close live r dials acts a l stands fits last h = live-close live r acts a l h
live-does Failure live r dials acts a l stands fits last h = live-failure live r acts a l.0 l.1 h
live-does (Data n) live r dials acts a l stands fits last h = live-data n live r acts a l.0 (stands.eof_sent ∙ eof-unsaid r.held.waiting (sent_eof acts) last l.1) l.2 l.3 h
live-does Eof live r dials acts a l stands fits last h = live-eof live r acts a l.0 l.1 h
live-does (Adjust n) live r dials acts a l stands fits last h = live-adjust n live r dials acts a l.0 l.1 stands fits h

-- ---- an offer of the server is answered

offer-does : (s : Outgoing) (remote window maximum : ℕ) (r : Relay) (acts : List RelayAct) → OfferSends (Some s) → Untouched acts → Does (Offered remote window maximum) r s acts (IsOffered remote window maximum)
offer-does Open remote window maximum r acts o h = absurd o
offer-does Confirmation remote window maximum r acts o h =
    let none : length (delivered acts) ≡ 0 = ap length h.1 in
    record {
      now = IsLive (fresh-acct remote window maximum);
      does = (refl, refl);
      next = (
        fresh-acct remote window maximum,
        refl,
        record {
          remote = refl;
          room = refl;
          maximum = refl;
          eof_sent = refl;
          close_sent = refl;
          close_received = refl;
          failures = λ e. refl;
          given = h.0;
          came = omega (arith, none);
        },
      );
    }
offer-does OpenFailure remote window maximum r acts o h = record { now = NoChannel; does = (refl, refl); next = refl }
offer-does Close remote window maximum r acts o h = absurd o
offer-does Failure remote window maximum r acts o h = absurd o
offer-does (Data n) remote window maximum r acts o h = absurd o
offer-does Eof remote window maximum r acts o h = absurd o
offer-does (Adjust n) remote window maximum r acts o h = absurd o

-- ---- a channel is opened

unclosed-does : (s : Outgoing) (host : List ℕ) (port : ℕ) (version : Option ℕ) (r : Relay) (acts : List RelayAct) → Some Open ≡ Some s → Untouched acts → Does (Asked host port version) r s acts NoChannel
unclosed-does s host port version r acts e h =
    let same : Open ≡ s = cc in
    subst (λ (s : Outgoing). Does (Asked host port version) r s acts NoChannel) same (record { now = IsOpened; does = (refl, refl); next = (refl, h) })

-- ---- any

does-in : (line : ChannelState) (r : Relay) (dials : Bool) (acts : List RelayAct) (s : Outgoing) (v : View) → sends_in line r ≡ Some s → LineStands line dials acts → accepted_length acts ≤ length (to_take dials acts) → (IsTrue (sent_eof acts) → r.held.waiting ≡ []) → ViewOf line acts v → Does line r s acts v
does-in (Dialing dialog) r dials acts s v e stands fits last h = absurd (cc)
does-in (Asked host port version) r dials acts s v e stands fits last h =
    subst (λ (v : View). Does (Asked host port version) r s acts v) (sym h.0) (unclosed-does s host port version r acts e h.1)
does-in (Opened version) r dials acts s v e stands fits last h = absurd (cc)
does-in (Offered remote window maximum) r dials acts s v e stands fits last h =
    subst (λ (v : View). Does (Offered remote window maximum) r s acts v) (sym h.0)
    (offer-does s remote window maximum r acts (subst OfferSends e (offer-says r.socket)) h.1)
does-in (Live live) r dials acts s v e stands fits last h =
    subst (λ (v : View). Does (Live live) r s acts v) (sym h.1)
    (live-does s live r dials acts h.0 (subst (LiveSends r live) e (live-says r live)) stands fits last h.2)
does-in Over r dials acts s v e stands fits last h = absurd (cc)

relay-does : (r : Relay) (dials : Bool) (acts : List RelayAct) (s : Outgoing) (v : View) → sends_of r ≡ Some s → RelayRepresents dials acts r → ViewOf r.line acts v → Does r.line r s acts v
relay-does r dials acts s v e stands h = does-in r.line r dials acts s v e stands.line (relays dials acts r stands).fits (λ said. (stands.last said).1) h

-- ---- the first that has something to send sends it

record Word (r : Relay) : Type 0 where
  word : Outgoing
  is : sends_of r ≡ Some word

word-of : (r : Relay) (o : Option Outgoing) → sends_of r ≡ o → is_some o ≡ true → Word r
word-of r None e some = absurd (cc)
word-of r (Some s) e some = record { word = s; is = e }

next-view : (bytes : List ℕ) (a b : Life) (s : Outgoing) (v : View) → sends_of a.relay ≡ Some s → Speaks bytes a b → (d : Does a.relay.line a.relay s a.acts v) → IsView b (Some a.relay.number, d.now)
next-view bytes a b s v e goes d =
    let relay : b.relay ≡ sent_of s a.relay = goes.1.relay.0 ∙ ap (λ (o : Option Outgoing). relay_after_sending o a.relay) e in
    let acts : b.acts ≡ sent_act s a.relay ∷ a.acts = goes.1.acts ∙ ap (λ (o : Option Outgoing). act_of_sending o a.relay ∷ a.acts) e in
    record {
      number = ap (λ (n : ℕ). Some n) (sym (ap (λ (r : Relay). r.number) relay ∙ number-said s a.relay));
      view = subst (λ (r : Relay). ViewOf r.line b.acts d.now) (sym relay)
          (subst (λ (l : List RelayAct). ViewOf (sent_of s a.relay).line l d.now) (sym acts) d.next);
    }

pub spoken : (hs : List Channel) (bytes : List ℕ) (old new : Trace) → EachLife Sound old.relay_traces → SendsBy true None bytes old new → Seen hs old.relay_traces [] → Spoken hs bytes new.relay_traces
spoken hs bytes old new sound says seen =
    let one = says.1 in
    let word = word-of one.life.relay (sends_of one.life.relay) refl one.is in
    let parts = views-split one.before one.life one.behind seen.entries (subst (λ (l : List Life). AreViews l seen.entries) one.were seen.views) in
    let its : Sound one.life = (each-back Sound one.before (one.life ∷ one.behind) (subst (EachLife Sound) one.were sound)).0 in
    let does = relay-does one.life.relay one.life.dials one.life.acts word.word parts.view word.is its.stands parts.is in
    let order = λ (e : Entry). append_assoc parts.front (e ∷ parts.back) seen.orphans in
    record {
      relay = one.life.relay;
      said = word.word;
      next = word.is;
      spelled = one.goes.0 ∙ ap (λ (o : Option Outgoing). framed (payload_if one.life.relay o)) word.is;
      front = parts.front;
      behind = parts.back ++ seen.orphans;
      was = parts.view;
      now = does.now;
      does = does.does;
      fit = subst (λ (vs : List Entry). Fit hs vs) (order (Some one.life.relay.number, parts.view))
          (subst (λ (vs : List Entry). Fit hs (vs ++ seen.orphans)) parts.split seen.later);
      goes = λ hs' notes later.
          subst (λ (l : List Life). Seen hs' l notes) (sym (ap (λ (c : Trace). c.relay_traces) says.2))
          (seen-kept hs' says.0 notes (record {
            entries = parts.front ++ (Some one.life.relay.number, does.now) ∷ parts.back;
            orphans = seen.orphans;
            views = subst (λ (l : List Life). AreViews l (parts.front ++ (Some one.life.relay.number, does.now) ∷ parts.back)) (sym one.are)
                (views-join one.before one.next one.behind parts.front (Some one.life.relay.number, does.now) parts.back parts.fronts
                (next-view bytes one.life one.next word.word parts.view word.is one.goes does) parts.backs);
            unnumbered = seen.unnumbered;
            later = subst (λ (vs : List Entry). Later hs' vs notes) (sym (order (Some one.life.relay.number, does.now))) later;
          }));
    }

-- the relay that sends it is one of those
pub spoken-its : (P : Relay → Type 0) (hs : List Channel) (bytes : List ℕ) (old new : Trace) (sound : EachLife Sound old.relay_traces) (speaks : SendsBy true None bytes old new) (seen : Seen hs old.relay_traces []) → Each (λ (l : Life). P l.relay) old.relay_traces → P (spoken hs bytes old new sound speaks seen).relay
unfolding spoken
spoken-its P hs bytes old new sound speaks seen all =
    let one = speaks.1 in
    (each-behind (λ (l : Life). P l.relay) one.before (one.life ∷ one.behind) (subst (λ (ls : List Life). Each (λ (l : Life). P l.relay) ls) one.were all)).0
