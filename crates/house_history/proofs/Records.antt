-- What the server sends to the channels of the forwarder fits once it is received.
use Rattle.std.proofs.Common.{◌≡◌, ◌≤◌, ◌+◌, ℕ, Bool, true, false, not, ◌&&◌, ◌||◌, Option, Some, None, List, [], ◌∷◌, ◌++◌, refl, sym, ap, ◌∙◌, subst, arith, map}
use Rattle.std.specs.Prelude.{find}
use Rattle.std.proofs.lemmas.Bool.Decides.{nat_tests}
use Rattle.std.proofs.lemmas.List.{map-append}
use Rattle.ssh_grammar.specs.declared.side.Side.{Side}
use Rattle.ssh_grammar.specs.declared.side.Side.TheVariants.{Up, Down}
use Rattle.ssh_grammar.specs.declared.fault.Breach.TheVariants.{NotOpen}
use Rattle.mux_history.specs.Channels.{Channel, any_act, any_by, is_closes, is_confirmed, is_confirms, is_fails, is_channel_held, is_number, is_up}
use Rattle.mux_history.specs.Summary.{Act, Answers, Asks, Carries, Closes, Confirms, Ends, Fails, Grants}
use Rattle.mux_history.specs.Laws.{with_act}
use Rattle.mux_history.specs.Ledger.{reply_count, breach, carried, sum_of}
use Rattle.mux_history.specs.Rows.{any_of}
use Rattle.mux_history.proofs.RoomActs.{Accounted}
use Rattle.house_history.proofs.Lists.{Each, each-append, each-behind, each-of, find-at, some-same}
use Rattle.house_history.proofs.Views.{Acct, IsAccount, IsLive, IsOffered, IsOpened, NoChannel, View, receives, more_asks}
use Rattle.house_history.proofs.Accounts.{receives-account}
use Rattle.house_history.proofs.Fitting.{Entry, Fit, Fits, FitsAs, IsFreshDown, IsFreshUp, Other, numbers, others-of, owned-at, same-at}
use Rattle.house_history.proofs.Channels.{kept, kept-held, kept-over}
use Rattle.house_history.proofs.Turns.{Far, Good, by-up, confirmed-none, confirmed-one, far-behind, far-front, live-on, live-over}
use Rattle.house_history.proofs.Shifts.{AreFree, fit-offered, has}
use Rattle.house_history.proofs.Notes.{Accepts, Bound, BoundView, Does, Note, Nothing, Offers, at-number, fresh-acct, if-has, live-receives, noted, unless-over, view-accepts, view-receives}

-- ---- the entry of a number

own-is : (o : Option ℕ) (n : ℕ) → is_number o n ≡ true → o ≡ Some n
own-is None n h = cc
own-is (Some m) n h = let same : m ≡ n = grind (arith, nat_tests) in ap (λ (i : ℕ). Some i) same

-- an entry of this number stands between others
record At (c : ℕ) (vs : List Entry) : Type 0 where
  before : List Entry
  after : List Entry
  view : View
  are : vs ≡ before ++ (Some c, view) ∷ after

entry-at : (c : ℕ) (vs : List Entry) → any_of (λ o. is_number o c) (numbers vs) ≡ true → At c vs
entry-at c [] h = absurd (let bad : false ≡ true = h in cc)
entry-at c (e ∷ es) h = go (is_number e.0 c) refl h (λ e. entry-at c es e)
  where
    go : (b : Bool) → is_number e.0 c ≡ b → (is_number e.0 c || any_of (λ o. is_number o c) (numbers es)) ≡ true → (any_of (λ o. is_number o c) (numbers es) ≡ true → At c es) → At c (e ∷ es)
    go true t h later = record { before = []; after = es; view = e.1; are = ap (λ (o : Option ℕ). (o, e.1) ∷ es) (own-is e.0 c t) }
    go false t h later =
        let a = later (sym (ap (λ (b : Bool). b || any_of (λ o. is_number o c) (numbers es)) t) ∙ h) in
        record { before = e ∷ a.before; after = a.after; view = a.view; are = ap (λ (l : List Entry). e ∷ l) a.are }

-- no other entry has the number
free-of : (c : ℕ) (v : View) (es : List Entry) → Each (Other (Some c, v)) es → AreFree c es
free-of c v es others = each-of (Other (Some c, v)) (λ (e : Entry). has c e.0 ≡ false) (λ e o. o.number c (same-at c)) es others

if-has-false : (f : View → View) (v : View) → if-has false f v ≡ v
if-has-false f NoChannel = refl
if-has-false f IsOpened = refl
if-has-false f (IsOffered s w m) = refl
if-has-false f (IsLive a) = refl

map-free : (c : ℕ) (f : View → View) (es : List Entry) → AreFree c es → map (at-number c f) es ≡ es
map-free c f [] free = refl
map-free c f (e ∷ es) free =
    let one : at-number c f e ≡ e = ap (λ (b : Bool). (e.0, if-has b f e.1)) free.0 ∙ ap (λ (v : View). (e.0, v)) (if-has-false f e.1) in
    ap (λ (d : Entry). d ∷ map (at-number c f) es) one ∙ ap (λ (l : List Entry). e ∷ l) (map-free c f es free.1)

map-one : (c : ℕ) (f : View → View) (es gs : List Entry) (v : View) → AreFree c es → AreFree c gs → map (at-number c f) (es ++ (Some c, v) ∷ gs) ≡ es ++ (Some c, if-has true f v) ∷ gs
map-one c f es gs v front behind =
    map-append (at-number c f) es ((Some c, v) ∷ gs)
    ∙ (ap (λ (l : List Entry). l ++ at-number c f (Some c, v) ∷ map (at-number c f) gs) (map-free c f es front)
    ∙ (ap (λ (l : List Entry). es ++ at-number c f (Some c, v) ∷ l) (map-free c f gs behind)
    ∙ ap (λ (b : Bool). es ++ (Some c, if-has b f v) ∷ gs) (same-at c)))

-- ---- bounds

bound-free : (c : ℕ) (act : Act) (es : List Entry) → AreFree c es → Each (Bound (Does c act)) es
bound-free c act es free = each-of (λ (e : Entry). has c e.0 ≡ false) (Bound (Does c act)) (λ e h t. absurd (let bad : true ≡ false = sym t ∙ h in cc)) es free

bound-one : (c : ℕ) (act : Act) (es gs : List Entry) (v : View) → AreFree c es → AreFree c gs → BoundView act v → Each (Bound (Does c act)) (es ++ (Some c, v) ∷ gs)
bound-one c act es gs v front behind b =
    each-append (Bound (Does c act)) es ((Some c, v) ∷ gs) (bound-free c act es front) ((λ t. b), bound-free c act gs behind)

each-all : (P : Entry → Type 0) → ((e : Entry) → P e) → (es : List Entry) → Each P es
each-all P all [] = tt
each-all P all (e ∷ es) = (all e, each-all P all es)

-- ---- the entry of a channel

-- what the entry of a channel is, by the channel alone
abbrev FitsOne : Channel → View → Type 0
FitsOne x NoChannel = ⊥
FitsOne x IsOpened = IsFreshUp x
FitsOne x (IsOffered s w m) = ⊥
FitsOne x (IsLive a) = IsAccount x a

fits-one : (hs : List Channel) (c : ℕ) (x : Channel) (v : View) → find (owned-at c) hs ≡ Some x → FitsAs hs (Some c) v → FitsOne x v
fits-one hs c x NoChannel own fits = let bad : None ≡ Some x = sym fits ∙ own in cc
fits-one hs c x IsOpened own fits = subst (λ (y : Channel). IsFreshUp y) (some-same fits.0 x (sym fits.1 ∙ own)) fits.2
fits-one hs c x (IsOffered s w m) own fits = let none = fits.0 in let bad : None ≡ Some x = sym none ∙ own in cc
fits-one hs c x (IsLive a) own fits = subst (λ (y : Channel). IsAccount y a) (some-same fits.0 x (sym fits.1 ∙ own)) fits.2

-- a channel of this number, and its entry
record Meets (fs bs : List Channel) (x : Channel) (c : ℕ) (es gs : List Entry) (v : View) : Type 0 where
  own : x.own ≡ Some c
  held : is_channel_held x ≡ true
  none : Each (λ (y : Channel). owned-at c y ≡ false) fs
  more : Each (λ (y : Channel). owned-at c y ≡ false) bs
  front : AreFree c es
  behind : AreFree c gs
  right : FitsOne x v
  fit : Fit (fs ++ x ∷ bs) (es ++ (Some c, v) ∷ gs)

meets : (fs bs : List Channel) (x : Channel) (c : ℕ) (es gs : List Entry) (v : View) → Good (fs ++ x ∷ bs) → x.own ≡ Some c → Fit (fs ++ x ∷ bs) (es ++ (Some c, v) ∷ gs) → Meets fs bs x c es gs v
meets fs bs x c es gs v good own fit =
    let is : owned-at c x ≡ true = ap (λ (p : Option ℕ). is_number p c) own ∙ same-at c in
    let apart : (y : Channel) → Far x y → owned-at c y ≡ false = λ y far. far.owns c is in
    let none = each-of (Far x) (λ (y : Channel). owned-at c y ≡ false) apart fs (far-front fs bs x good.far) in
    let o = others-of es (Some c, v) gs fit.apart in
    record {
      own = own;
      held = (each-behind (λ (y : Channel). is_channel_held y ≡ true) fs (x ∷ bs) good.held).0;
      none = none;
      more = each-of (Far x) (λ (y : Channel). owned-at c y ≡ false) apart bs (far-behind fs bs x good.far);
      front = free-of c v es o.front;
      behind = free-of c v gs o.behind;
      right = fits-one (fs ++ x ∷ bs) c x v (find-at (owned-at c) fs bs x none is) (each-behind (Fits (fs ++ x ∷ bs)) es ((Some c, v) ∷ gs) fit.fits).0;
      fit = fit;
    }

-- a note about the channel leaves what fits, if it does so by the channel's entry
through : (note : Note) (hs fs bs : List Channel) (x : Channel) (c : ℕ) (hs' : List Channel)
    → ((es gs : List Entry) (v : View) → Meets fs bs x c es gs v → Each (Bound note) (es ++ (Some c, v) ∷ gs) × Fit hs' (noted note (es ++ (Some c, v) ∷ gs)))
    → Good hs → hs ≡ fs ++ x ∷ bs → x.own ≡ Some c → (vs : List Entry) → Fit hs vs → Each (Bound note) vs × Fit hs' (noted note vs)
through note hs fs bs x c hs' step good are own vs fit =
    let good' : Good (fs ++ x ∷ bs) = subst Good are good in
    let fit' : Fit (fs ++ x ∷ bs) vs = subst (λ (l : List Channel). Fit l vs) are fit in
    let a = entry-at c vs ((each-behind (λ (y : Channel). (d : ℕ) → y.own ≡ Some d → any_of (λ o. is_number o d) (numbers vs) ≡ true) fs (x ∷ bs) fit'.known).0 c own) in
    let fit'' : Fit (fs ++ x ∷ bs) (a.before ++ (Some c, a.view) ∷ a.after) = subst (λ (l : List Entry). Fit (fs ++ x ∷ bs) l) a.are fit' in
    subst (λ (l : List Entry). Each (Bound note) l × Fit hs' (noted note l)) (sym a.are)
    (step a.before a.after a.view (meets fs bs x c a.before a.after a.view good' own fit''))

-- ---- an act in a channel that is confirmed

-- a CLOSE of the server ends the channel where the forwarder sent CLOSE
held-closes : (f u d : Bool) → not (f || (u && d)) ≡ true → not (f || (u && true)) ≡ not u
held-closes true u d h = absurd (let bad : false ≡ true = h in cc)
held-closes false true d h = refl
held-closes false false d h = refl

closes-held : (x : Channel) (a : Acct) → is_channel_held x ≡ true → IsAccount x a → is_channel_held (with_act Down Closes x) ≡ not a.close_sent
closes-held x a held is = held-closes (any_act is_fails x.acts) (any_by Up is_closes x.acts) (any_by Down is_closes x.acts) held ∙ ap (λ (b : Bool). not b) is.closed

goes-on : (act : Act) (fs bs : List Channel) (x : Channel) (c : ℕ) (es gs : List Entry) (a : Acct) → Meets fs bs x c es gs (IsLive a) → is_confirms act ≡ false → breach Down act x ≡ None
    → is_channel_held (with_act Down act x) ≡ true → Fit (fs ++ kept (with_act Down act x) bs) (es ++ (Some c, IsLive (receives act a)) ∷ gs)
goes-on act fs bs x c es gs a m plain fine held =
    let x' = with_act Down act x in
    subst (λ (l : List Channel). Fit (fs ++ l) (es ++ (Some c, IsLive (receives act a)) ∷ gs)) (sym (kept-held x' bs held))
    (live-on fs bs x x' es gs c a (receives act a) m.own m.right.confirmed m.own (receives-account act x a m.right plain fine) m.none m.fit)

recorded-live : (act : Act) (fs bs : List Channel) (x : Channel) (c : ℕ) (es gs : List Entry) (a : Acct) → Meets fs bs x c es gs (IsLive a) → is_confirms act ≡ false → is_fails act ≡ false → breach Down act x ≡ None
    → Fit (fs ++ kept (with_act Down act x) bs) (es ++ (Some c, live-receives act a) ∷ gs)
recorded-live (Carries n) fs bs x c es gs a m plain fails fine = goes-on (Carries n) fs bs x c es gs a m plain fine m.held
recorded-live (Grants n) fs bs x c es gs a m plain fails fine = goes-on (Grants n) fs bs x c es gs a m plain fine m.held
recorded-live Ends fs bs x c es gs a m plain fails fine = goes-on Ends fs bs x c es gs a m plain fine m.held
recorded-live (Asks wants) fs bs x c es gs a m plain fails fine = goes-on (Asks wants) fs bs x c es gs a m plain fine m.held
recorded-live Answers fs bs x c es gs a m plain fails fine = goes-on Answers fs bs x c es gs a m plain fine m.held
recorded-live (Confirms w k) fs bs x c es gs a m plain fails fine = absurd (let bad : true ≡ false = plain in cc)
recorded-live Fails fs bs x c es gs a m plain fails fine = absurd (let bad : true ≡ false = fails in cc)
recorded-live Closes fs bs x c es gs a m plain fails fine = go a.close_sent refl
  where
    go : (b : Bool) → a.close_sent ≡ b → Fit (fs ++ kept (with_act Down Closes x) bs) (es ++ (Some c, unless-over a.close_sent (receives Closes a)) ∷ gs)
    go false h =
        subst (λ (b : Bool). Fit (fs ++ kept (with_act Down Closes x) bs) (es ++ (Some c, unless-over b (receives Closes a)) ∷ gs)) (sym h)
        (goes-on Closes fs bs x c es gs a m plain fine (closes-held x a m.held m.right ∙ ap (λ (b : Bool). not b) h))
    go true h =
        subst (λ (b : Bool). Fit (fs ++ kept (with_act Down Closes x) bs) (es ++ (Some c, unless-over b (receives Closes a)) ∷ gs)) (sym h)
        (subst (λ (l : List Channel). Fit (fs ++ l) (es ++ (Some c, NoChannel) ∷ gs)) (sym (kept-over (with_act Down Closes x) bs (closes-held x a m.held m.right ∙ ap (λ (b : Bool). not b) h)))
        (live-over fs bs x es gs c (IsLive a) (λ s. confirmed-none x s m.right.confirmed) m.own m.none m.more m.fit))

bound-live : (act : Act) (x : Channel) (a : Acct) → IsAccount x a → is_confirms act ≡ false → breach Down act x ≡ None → BoundView act (IsLive a)
bound-live (Grants n) x a is plain fine = (receives-account (Grants n) x a is plain fine).small
bound-live (Asks true) x a is plain fine = λ h. subst (λ (k : ℕ). k ≤ 1024) (let more : more_asks true a.close_sent a.failures ≡ a.failures + 1 = rw h refl in more) ((receives-account (Asks true) x a is plain fine).few h)
bound-live (Asks false) x a is plain fine = tt
bound-live (Carries n) x a is plain fine =
    let on = receives-account (Carries n) x a is plain fine in
    let came = on.came in
    let within = (on.accounted Down).within in
    let window = on.window in
    let given = on.given in
    omega (arith, came, within, window, given)
bound-live Ends x a is plain fine = tt
bound-live Closes x a is plain fine = tt
bound-live Answers x a is plain fine = tt
bound-live Fails x a is plain fine = tt
bound-live (Confirms w m) x a is plain fine = tt

-- one that isn't answered isn't confirmed
fresh-unconfirmed : (x : Channel) → IsFreshUp x → is_confirmed x ≡ false
fresh-unconfirmed x fresh = ap (λ acts. any_act is_confirms acts) fresh.acts

act-at : (act : Act) (fs bs : List Channel) (x : Channel) (c : ℕ) → is_confirms act ≡ false → is_fails act ≡ false → breach Down act x ≡ None → (es gs : List Entry) (v : View) → Meets fs bs x c es gs v
    → Each (Bound (Does c act)) (es ++ (Some c, v) ∷ gs) × Fit (fs ++ kept (with_act Down act x) bs) (noted (Does c act) (es ++ (Some c, v) ∷ gs))
act-at act fs bs x c plain fails fine es gs NoChannel m = absurd m.right
act-at act fs bs x c plain fails fine es gs (IsOffered s w k) m = absurd m.right
act-at act fs bs x c plain fails fine es gs IsOpened m =
    let none : is_confirmed x ≡ false = fresh-unconfirmed x m.right in
    let is : breach Down act x ≡ Some NotOpen = rw (none, breach) refl in
    let bad : Some NotOpen ≡ None = sym is ∙ fine in
    absurd cc
act-at act fs bs x c plain fails fine es gs (IsLive a) m = (
  bound-one c act es gs (IsLive a) m.front m.behind (bound-live act x a m.right plain fine),
  subst (λ (l : List Entry). Fit (fs ++ kept (with_act Down act x) bs) l) (sym (map-one c (view-receives act) es gs (IsLive a) m.front m.behind)) (recorded-live act fs bs x c es gs a m plain fails fine),
)

-- what the server does in a channel of the forwarder
pub recorded-act : (hs fs bs : List Channel) (x : Channel) (c : ℕ) (act : Act) → Good hs → hs ≡ fs ++ x ∷ bs → x.own ≡ Some c → is_confirms act ≡ false → is_fails act ≡ false → breach Down act x ≡ None
    → (vs : List Entry) → Fit hs vs → Each (Bound (Does c act)) vs × Fit (fs ++ kept (with_act Down act x) bs) (noted (Does c act) vs)
recorded-act hs fs bs x c act good are own plain fails fine vs fit =
    through (Does c act) hs fs bs x c (fs ++ kept (with_act Down act x) bs) (λ es gs v m. act-at act fs bs x c plain fails fine es gs v m) good are own vs fit

-- ---- the server refuses a channel that the forwarder opened

failed-at : (fs bs : List Channel) (x : Channel) (c : ℕ) → is_confirmed x ≡ false → (es gs : List Entry) (v : View) → Meets fs bs x c es gs v
    → Each (Bound (Does c Fails)) (es ++ (Some c, v) ∷ gs) × Fit (fs ++ kept (with_act Down Fails x) bs) (noted (Does c Fails) (es ++ (Some c, v) ∷ gs))
failed-at fs bs x c none es gs NoChannel m = absurd m.right
failed-at fs bs x c none es gs (IsOffered s w k) m = absurd m.right
failed-at fs bs x c none es gs (IsLive a) m = absurd (let is = m.right.confirmed in let bad : true ≡ false = sym is ∙ none in cc)
failed-at fs bs x c none es gs IsOpened m = (
  bound-one c Fails es gs IsOpened m.front m.behind tt,
  subst (λ (l : List Entry). Fit (fs ++ kept (with_act Down Fails x) bs) l) (sym (map-one c (view-receives Fails) es gs IsOpened m.front m.behind))
      (subst (λ (l : List Channel). Fit (fs ++ l) (es ++ (Some c, NoChannel) ∷ gs)) (sym (kept-over (with_act Down Fails x) bs refl))
      (live-over fs bs x es gs c IsOpened (λ s. by-up x s m.right.by) m.own m.none m.more m.fit)),
)

pub recorded-failed : (hs fs bs : List Channel) (x : Channel) (c : ℕ) → Good hs → hs ≡ fs ++ x ∷ bs → x.own ≡ Some c → is_up x.by ≡ true → is_confirmed x ≡ false
    → (vs : List Entry) → Fit hs vs → Each (Bound (Does c Fails)) vs × Fit (fs ++ kept (with_act Down Fails x) bs) (noted (Does c Fails) vs)
recorded-failed hs fs bs x c good are own up none vs fit =
    through (Does c Fails) hs fs bs x c (fs ++ kept (with_act Down Fails x) bs) (λ es gs v m. failed-at fs bs x c none es gs v m) good are own vs fit

-- ---- the server confirms a channel that the forwarder opened

fresh-accounted : (y : Channel) (w m : ℕ) → y.acts ≡ (Down, Confirms w m) ∷ [] → Accounted y
fresh-accounted y w m acts Up =
    let c : sum_of carried Up y.acts ≡ 0 = ap (λ l. sum_of carried Up l) acts in
    let a : sum_of reply_count Down y.acts ≡ 0 = ap (λ l. sum_of reply_count Down l) acts in
    record { within = omega (arith, c); answered = omega (arith, a) }
fresh-accounted y w m acts Down =
    let c : sum_of carried Down y.acts ≡ 0 = ap (λ l. sum_of carried Down l) acts in
    let a : sum_of reply_count Up y.acts ≡ 0 = ap (λ l. sum_of reply_count Up l) acts in
    record { within = omega (arith, c); answered = omega (arith, a) }

fresh-account : (x : Channel) (s w m : ℕ) → w ≤ 4294967295 → IsFreshUp x → IsAccount (record x { remote = Some s; acts = (Down, Confirms w m) ∷ x.acts }) (fresh-acct s w m)
fresh-account x s w m le fresh =
    subst (λ (side : Side). IsAccount (record x { by = side; remote = Some s; acts = (Down, Confirms w m) ∷ x.acts }) (fresh-acct s w m)) (sym fresh.by)
    (subst (λ acts. IsAccount (record x { by = Up; remote = Some s; acts = (Down, Confirms w m) ∷ acts }) (fresh-acct s w m)) (sym fresh.acts)
    (record {
      remote = refl;
      confirmed = refl;
      room_is = omega arith;
      small = le;
      maximum = omega arith;
      eof = refl;
      closed = refl;
      heard = refl;
      asks = λ h. refl;
      few = λ h. omega arith;
      window = fresh.window;
      given = refl;
      came = omega arith;
      accounted = fresh-accounted (record x { by = Up; remote = Some s; acts = (Down, Confirms w m) ∷ [] }) w m refl;
    }))

confirmed-at : (fs bs : List Channel) (x : Channel) (c s w m : ℕ) → is_confirmed x ≡ false → w ≤ 4294967295 → (es gs : List Entry) (v : View) → Meets fs bs x c es gs v
    → Each (Bound (Accepts c s w m)) (es ++ (Some c, v) ∷ gs) × Fit (fs ++ (record x { remote = Some s; acts = (Down, Confirms w m) ∷ x.acts }) ∷ bs) (noted (Accepts c s w m) (es ++ (Some c, v) ∷ gs))
confirmed-at fs bs x c s w m none le es gs NoChannel k = absurd k.right
confirmed-at fs bs x c s w m none le es gs (IsOffered r i j) k = absurd k.right
confirmed-at fs bs x c s w m none le es gs (IsLive a) k = absurd (let is = k.right.confirmed in let bad : true ≡ false = sym is ∙ none in cc)
confirmed-at fs bs x c s w m none le es gs IsOpened k =
    let x' = record x { remote = Some s; acts = (Down, Confirms w m) ∷ x.acts } in (
      each-all (Bound (Accepts c s w m)) (λ e. tt) (es ++ (Some c, IsOpened) ∷ gs),
      subst (λ (l : List Entry). Fit (fs ++ x' ∷ bs) l) (sym (map-one c (view-accepts s w m) es gs IsOpened k.front k.behind))
          (confirmed-one fs bs x x' es gs c (fresh-acct s w m) k.own k.right.by k.own (fresh-account x s w m le k.right) k.none k.fit),
    )

pub recorded-confirmed : (hs fs bs : List Channel) (x : Channel) (c s w m : ℕ) → Good hs → hs ≡ fs ++ x ∷ bs → x.own ≡ Some c → is_up x.by ≡ true → is_confirmed x ≡ false → w ≤ 4294967295
    → (vs : List Entry) → Fit hs vs → Each (Bound (Accepts c s w m)) vs × Fit (fs ++ (record x { remote = Some s; acts = (Down, Confirms w m) ∷ x.acts }) ∷ bs) (noted (Accepts c s w m) vs)
recorded-confirmed hs fs bs x c s w m good are own up none le vs fit =
    through (Accepts c s w m) hs fs bs x c (fs ++ (record x { remote = Some s; acts = (Down, Confirms w m) ∷ x.acts }) ∷ bs) (λ es gs v k. confirmed-at fs bs x c s w m none le es gs v k) good are own vs fit

-- ---- the server opens one, or sends nothing about a channel

pub recorded-offered : (hs : List Channel) (s w m : ℕ) (y : Channel) → Each (λ (z : Channel). is_number z.remote s ≡ false) hs → y.remote ≡ Some s → IsFreshDown w m y
    → (vs : List Entry) → Fit hs vs → Each (Bound (Offers s w m)) vs × Fit (hs ++ y ∷ []) (noted (Offers s w m) vs)
recorded-offered hs s w m y none remote fresh vs fit = (each-all (Bound (Offers s w m)) (λ e. tt) vs, fit-offered hs vs y s w m remote fresh none fit)

pub recorded-nothing : (hs : List Channel) (vs : List Entry) → Fit hs vs → Each (Bound Nothing) vs × Fit hs (noted Nothing vs)
recorded-nothing hs vs fit = (each-all (Bound Nothing) (λ e. tt) vs, fit)
