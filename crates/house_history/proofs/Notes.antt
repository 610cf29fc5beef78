-- What the forwarder was sent and didn't receive yet: once it is received, what the forwarder has
-- fits the history.
use Rattle.std.proofs.Common.{◌≡◌, ◌≤◌, ◌+◌, ℕ, Bool, true, false, ◌||◌, Option, Some, None, List, [], ◌∷◌, ◌++◌, refl, sym, ap, ◌∙◌, subst, map}
use Rattle.std.proofs.lemmas.List.{map-append}
use Rattle.mux_history.specs.Channels.{Channel, is_number}
use Rattle.mux_history.specs.Summary.{Act, Answers, Asks, Carries, Closes, Confirmation, Confirms, Ends, Fails, Summary, Grants, Open, Refuses, Requests, Succeeds, Transport, Within}
use Rattle.house_history.proofs.Lists.{Each, each-append, each-behind, each-front, each-of}
use Rattle.house_history.proofs.Views.{Acct, IsLive, IsOffered, IsOpened, NoChannel, View, receives}
use Rattle.mux_history.specs.Rows.{any_of}
use Rattle.house_history.proofs.Fitting.{AllOther, Entry, Fit, Fits, KnownBy, Other, numbers, other-back}
use Rattle.house_history.proofs.Shifts.{AreFree, fit-named, fit-with, fit-without, has}

-- ---- what is recorded

-- an open of the server; a confirmation, or what else is done in a channel, by the forwarder's
-- number of it; or nothing of a channel
pub data Note : Type 0 where
  Offers : (remote window maximum : ℕ) → Note
  Accepts : (number remote window maximum : ℕ) → Note
  Does : (number : ℕ) (act : Act) → Note
  Nothing : Note

abbrev pub note-of : Summary → Note
note-of (Open what s w m) = Offers s w m
note-of (Confirmation n s w m) = Accepts n s w m
note-of (Within n act) = Does n act
note-of (Transport number) = Nothing
note-of (Requests what wants) = Nothing
note-of (Succeeds rest) = Nothing
note-of Refuses = Nothing

-- ---- what it does

-- an account as the channel is confirmed
abbrev pub fresh-acct : ℕ → ℕ → ℕ → Acct
fresh-acct s w m = record {
  remote = s;
  room = w;
  maximum = m;
  eof_sent = false;
  close_sent = false;
  close_received = false;
  failures = 0;
  given = 0;
  came = 0;
}

abbrev pub unless-over : Bool → Acct → View
unless-over true a = NoChannel
unless-over false a = IsLive a

abbrev pub live-receives : Act → Acct → View
live-receives Closes a = unless-over a.close_sent (receives Closes a)
live-receives (Carries n) a = IsLive (receives (Carries n) a)
live-receives (Grants n) a = IsLive (receives (Grants n) a)
live-receives Ends a = IsLive (receives Ends a)
live-receives (Asks wants) a = IsLive (receives (Asks wants) a)
live-receives Answers a = IsLive (receives Answers a)
live-receives Fails a = IsLive a
live-receives (Confirms w m) a = IsLive a

abbrev pub opened-receives : Act → View
opened-receives Fails = NoChannel
opened-receives (Carries n) = IsOpened
opened-receives (Grants n) = IsOpened
opened-receives Ends = IsOpened
opened-receives Closes = IsOpened
opened-receives (Asks wants) = IsOpened
opened-receives Answers = IsOpened
opened-receives (Confirms w m) = IsOpened

abbrev pub view-receives : Act → View → View
view-receives act NoChannel = NoChannel
view-receives act IsOpened = opened-receives act
view-receives act (IsOffered s w m) = IsOffered s w m
view-receives act (IsLive a) = live-receives act a

abbrev pub view-accepts : ℕ → ℕ → ℕ → View → View
view-accepts s w m NoChannel = NoChannel
view-accepts s w m IsOpened = IsLive (fresh-acct s w m)
view-accepts s w m (IsOffered r x y) = IsOffered r x y
view-accepts s w m (IsLive a) = IsLive a

-- an entry of this number
abbrev pub if-has : Bool → (View → View) → View → View
if-has true f NoChannel = NoChannel
if-has true f IsOpened = f IsOpened
if-has true f (IsOffered s w m) = IsOffered s w m
if-has true f (IsLive a) = f (IsLive a)
if-has false f NoChannel = NoChannel
if-has false f IsOpened = IsOpened
if-has false f (IsOffered s w m) = IsOffered s w m
if-has false f (IsLive a) = IsLive a

abbrev pub at-number : ℕ → (View → View) → Entry → Entry
at-number n f e = (e.0, if-has (is_number e.0 n) f e.1)

-- what a note does
abbrev pub noted : Note → List Entry → List Entry
noted (Offers s w m) vs = vs ++ (None, IsOffered s w m) ∷ []
noted (Accepts n s w m) vs = map (at-number n (view-accepts s w m)) vs
noted (Does n act) vs = map (at-number n (view-receives act)) vs
noted Nothing vs = vs

-- it keeps an account within bounds
abbrev pub BoundView : Act → View → Type 0
BoundView act NoChannel = Unit {0}
BoundView act IsOpened = Unit {0}
BoundView act (IsOffered s w m) = Unit {0}
BoundView (Grants k) (IsLive a) = a.room + k ≤ 4294967295
BoundView (Carries k) (IsLive a) = a.came + k ≤ 2097152 + a.given
BoundView (Asks true) (IsLive a) = a.close_sent ≡ false → a.failures + 1 ≤ 1024
BoundView act (IsLive a) = Unit {0}

abbrev pub Bound : Note → Entry → Type 0
Bound (Offers s w m) e = Unit {0}
Bound (Accepts n s w m) e = Unit {0}
Bound (Does n act) e = is_number e.0 n ≡ true → BoundView act e.1
Bound Nothing e = Unit {0}

-- once all of it is received it fits, and nothing of it passes a bound
abbrev pub Later : List Channel → List Entry → List Note → Type 0
Later hs vs [] = Fit hs vs
Later hs vs (note ∷ notes) = Each (Bound note) vs × Later hs (noted note vs) notes

-- ---- one more note, of a row

pub later-more : (hs hs' : List Channel) (note : Note) → ((vs : List Entry) → Fit hs vs → Each (Bound note) vs × Fit hs' (noted note vs)) → (notes : List Note) (vs : List Entry) → Later hs vs notes → Later hs' vs (notes ++ note ∷ [])
later-more hs hs' note step [] vs l = step vs l
later-more hs hs' note step (n ∷ notes) vs l = (l.0, later-more hs hs' note step notes (noted n vs) l.1)

-- a row that records nothing of a channel, or all that is recorded is received
pub later-same : (hs hs' : List Channel) → ((vs : List Entry) → Fit hs vs → Fit hs' vs) → (notes : List Note) (vs : List Entry) → Later hs vs notes → Later hs' vs notes
later-same hs hs' step [] vs l = step vs l
later-same hs hs' step (n ∷ notes) vs l = (l.0, later-same hs hs' step notes (noted n vs) l.1)

-- ---- the list changes

if-has-none : (b : Bool) (f : View → View) → if-has b f NoChannel ≡ NoChannel
if-has-none true f = refl
if-has-none false f = refl

if-has-offer : (b : Bool) (f : View → View) (s w m : ℕ) → if-has b f (IsOffered s w m) ≡ IsOffered s w m
if-has-offer true f s w m = refl
if-has-offer false f s w m = refl

free-mapped : (n k : ℕ) (f : View → View) (es : List Entry) → AreFree n es → AreFree n (map (at-number k f) es)
free-mapped n k f [] free = tt
free-mapped n k f (e ∷ es) free = (free.0, free-mapped n k f es free.1)

map-three : (g : Entry → Entry) (fs bs : List Entry) (e : Entry) → map g (fs ++ e ∷ bs) ≡ map g fs ++ g e ∷ map g bs
map-three g fs bs e = map-append g fs (e ∷ bs)

-- an entry that no note changes
abbrev pub IsFixedView : View → Type 0
IsFixedView NoChannel = Unit {0}
IsFixedView IsOpened = ⊥
IsFixedView (IsOffered s w m) = Unit {0}
IsFixedView (IsLive a) = ⊥

fixed-at : (n : ℕ) (f : View → View) (o : Option ℕ) (v : View) → IsFixedView v → at-number n f (o, v) ≡ (o, v)
fixed-at n f o NoChannel h = ap (λ (v : View). (o, v)) (if-has-none (is_number o n) f)
fixed-at n f o (IsOffered s w m) h = ap (λ (v : View). (o, v)) (if-has-offer (is_number o n) f s w m)
fixed-at n f o IsOpened h = absurd h
fixed-at n f o (IsLive a) h = absurd h

pub append-three : (xs ys zs : List Entry) → (xs ++ ys) ++ zs ≡ xs ++ (ys ++ zs)
append-three [] ys zs = refl
append-three (x ∷ xs) ys zs = ap (λ (l : List Entry). x ∷ l) (append-three xs ys zs)

-- what a note leaves of a list: what stands before an entry that no note changes, and what stands
-- after it
abbrev pub front-of : Note → List Entry → List Entry
front-of (Offers s w m) fs = fs
front-of (Accepts n s w m) fs = map (at-number n (view-accepts s w m)) fs
front-of (Does n act) fs = map (at-number n (view-receives act)) fs
front-of Nothing fs = fs

abbrev pub behind-of : Note → List Entry → List Entry
behind-of (Offers s w m) bs = bs ++ (None, IsOffered s w m) ∷ []
behind-of (Accepts n s w m) bs = map (at-number n (view-accepts s w m)) bs
behind-of (Does n act) bs = map (at-number n (view-receives act)) bs
behind-of Nothing bs = bs

pub noted-parts : (note : Note) (fs bs : List Entry) → noted note (fs ++ bs) ≡ front-of note fs ++ behind-of note bs
noted-parts (Offers s w m) fs bs = append-three fs bs ((None, IsOffered s w m) ∷ [])
noted-parts (Accepts n s w m) fs bs = map-append (at-number n (view-accepts s w m)) fs bs
noted-parts (Does n act) fs bs = map-append (at-number n (view-receives act)) fs bs
noted-parts Nothing fs bs = refl

pub noted-three : (note : Note) (fs bs : List Entry) (o : Option ℕ) (v : View) → IsFixedView v → noted note (fs ++ (o, v) ∷ bs) ≡ front-of note fs ++ (o, v) ∷ behind-of note bs
noted-three (Offers s w m) fs bs o v h = append-three fs ((o, v) ∷ bs) ((None, IsOffered s w m) ∷ [])
noted-three (Accepts n s w m) fs bs o v h = map-append (at-number n (view-accepts s w m)) fs ((o, v) ∷ bs) ∙ ap (λ (e : Entry). map (at-number n (view-accepts s w m)) fs ++ e ∷ map (at-number n (view-accepts s w m)) bs) (fixed-at n (view-accepts s w m) o v h)
noted-three (Does n act) fs bs o v h = map-append (at-number n (view-receives act)) fs ((o, v) ∷ bs) ∙ ap (λ (e : Entry). map (at-number n (view-receives act)) fs ++ e ∷ map (at-number n (view-receives act)) bs) (fixed-at n (view-receives act) o v h)
noted-three Nothing fs bs o v h = refl

free-front : (n : ℕ) (note : Note) (fs : List Entry) → AreFree n fs → AreFree n (front-of note fs)
free-front n (Offers s w m) fs free = free
free-front n (Accepts k s w m) fs free = free-mapped n k (view-accepts s w m) fs free
free-front n (Does k act) fs free = free-mapped n k (view-receives act) fs free
free-front n Nothing fs free = free

free-behind : (n : ℕ) (note : Note) (bs : List Entry) → AreFree n bs → AreFree n (behind-of note bs)
free-behind n (Offers s w m) bs free = each-append (λ (e : Entry). has n e.0 ≡ false) bs ((None, IsOffered s w m) ∷ []) free (refl, tt)
free-behind n (Accepts k s w m) bs free = free-mapped n k (view-accepts s w m) bs free
free-behind n (Does k act) bs free = free-mapped n k (view-receives act) bs free
free-behind n Nothing bs free = free

bound-fixed : (note : Note) (o : Option ℕ) (v : View) → IsFixedView v → Bound note (o, v)
bound-fixed (Offers s w m) o v h = tt
bound-fixed (Accepts n s w m) o v h = tt
bound-fixed Nothing o v h = tt
bound-fixed (Does n act) o NoChannel h = λ e. tt
bound-fixed (Does n act) o (IsOffered s w m) h = λ e. tt
bound-fixed (Does n act) o IsOpened h = absurd h
bound-fixed (Does n act) o (IsLive a) h = absurd h

bound-with : (note : Note) (fs bs : List Entry) (o : Option ℕ) (v : View) → IsFixedView v → Each (Bound note) (fs ++ bs) → Each (Bound note) (fs ++ (o, v) ∷ bs)
bound-with note fs bs o v h b = each-append (Bound note) fs ((o, v) ∷ bs) (each-front (Bound note) fs bs b) (bound-fixed note o v h, each-behind (Bound note) fs bs b)

bound-without : (note : Note) (fs bs : List Entry) (e : Entry) → Each (Bound note) (fs ++ e ∷ bs) → Each (Bound note) (fs ++ bs)
bound-without note fs bs e b = each-append (Bound note) fs bs (each-front (Bound note) fs (e ∷ bs) b) (each-behind (Bound note) fs (e ∷ bs) b).1

-- one that has no channel comes
pub later-with : (hs : List Channel) (n : ℕ) (notes : List Note) (fs bs : List Entry) → AreFree n fs → AreFree n bs → Later hs (fs ++ bs) notes → Later hs (fs ++ (Some n, NoChannel) ∷ bs) notes
later-with hs n [] fs bs front behind l = fit-with hs fs bs n front behind l
later-with hs n (note ∷ notes) fs bs front behind l = (
  bound-with note fs bs (Some n) NoChannel tt l.0,
  subst (λ (vs : List Entry). Later hs vs notes) (sym (noted-three note fs bs (Some n) NoChannel tt))
      (later-with hs n notes (front-of note fs) (behind-of note bs) (free-front n note fs front) (free-behind n note bs behind)
      (subst (λ (vs : List Entry). Later hs vs notes) (noted-parts note fs bs) l.1)),
)

-- and goes
pub later-without : (hs : List Channel) (o : Option ℕ) (notes : List Note) (fs bs : List Entry) → Later hs (fs ++ (o, NoChannel) ∷ bs) notes → Later hs (fs ++ bs) notes
later-without hs o [] fs bs l = fit-without hs fs bs o l
later-without hs o (note ∷ notes) fs bs l = (
  bound-without note fs bs (o, NoChannel) l.0,
  subst (λ (vs : List Entry). Later hs vs notes) (sym (noted-parts note fs bs))
      (later-without hs o notes (front-of note fs) (behind-of note bs)
      (subst (λ (vs : List Entry). Later hs vs notes) (noted-three note fs bs o NoChannel tt) l.1)),
)

-- one that the server opened gets its number
pub later-named : (hs : List Channel) (n s w m : ℕ) (notes : List Note) (fs bs : List Entry) → AreFree n fs → AreFree n bs → Later hs (fs ++ (None, IsOffered s w m) ∷ bs) notes → Later hs (fs ++ (Some n, IsOffered s w m) ∷ bs) notes
later-named hs n s w m [] fs bs front behind l = fit-named hs fs bs n s w m front behind l
later-named hs n s w m (note ∷ notes) fs bs front behind l = (
  bound-with note fs bs (Some n) (IsOffered s w m) tt (bound-without note fs bs (None, IsOffered s w m) l.0),
  subst (λ (vs : List Entry). Later hs vs notes) (sym (noted-three note fs bs (Some n) (IsOffered s w m) tt))
      (later-named hs n s w m notes (front-of note fs) (behind-of note bs) (free-front n note fs front) (free-behind n note bs behind)
      (subst (λ (vs : List Entry). Later hs vs notes) (noted-three note fs bs None (IsOffered s w m) tt) l.1)),
)

-- ---- the order doesn't matter

-- an entry and the others stand in another order; what a note leaves does, too
pub data Swapped : List Entry → List Entry → Type 0 where
  Same : (vs : List Entry) → Swapped vs vs
  Swap : (e f : Entry) (vs : List Entry) → Swapped (e ∷ f ∷ vs) (f ∷ e ∷ vs)
  Next : (e : Entry) (vs ws : List Entry) → Swapped vs ws → Swapped (e ∷ vs) (e ∷ ws)
  Then : (us vs ws : List Entry) → Swapped us vs → Swapped vs ws → Swapped us ws

swapped-map : (g : Entry → Entry) (vs ws : List Entry) → Swapped vs ws → Swapped (map g vs) (map g ws)
swapped-map g vs ws (Same xs) = Same (map g xs)
swapped-map g vs ws (Swap e f xs) = Swap (g e) (g f) (map g xs)
swapped-map g vs ws (Next e xs ys s) = Next (g e) (map g xs) (map g ys) (swapped-map g xs ys s)
swapped-map g vs ws (Then us xs ys s t) = Then (map g us) (map g xs) (map g ys) (swapped-map g us xs s) (swapped-map g xs ys t)

pub swapped-more : (es : List Entry) (vs ws : List Entry) → Swapped vs ws → Swapped (vs ++ es) (ws ++ es)
swapped-more es vs ws (Same xs) = Same (xs ++ es)
swapped-more es vs ws (Swap e f xs) = Swap e f (xs ++ es)
swapped-more es vs ws (Next e xs ys s) = Next e (xs ++ es) (ys ++ es) (swapped-more es xs ys s)
swapped-more es vs ws (Then us xs ys s t) = Then (us ++ es) (xs ++ es) (ys ++ es) (swapped-more es us xs s) (swapped-more es xs ys t)

pub swapped-front : (es : List Entry) (vs ws : List Entry) → Swapped vs ws → Swapped (es ++ vs) (es ++ ws)
swapped-front [] vs ws s = s
swapped-front (e ∷ es) vs ws s = Next e (es ++ vs) (es ++ ws) (swapped-front es vs ws s)

noted-swapped : (note : Note) (vs ws : List Entry) → Swapped vs ws → Swapped (noted note vs) (noted note ws)
noted-swapped (Offers s w m) vs ws h = swapped-more ((None, IsOffered s w m) ∷ []) vs ws h
noted-swapped (Accepts n s w m) vs ws h = swapped-map (at-number n (view-accepts s w m)) vs ws h
noted-swapped (Does n act) vs ws h = swapped-map (at-number n (view-receives act)) vs ws h
noted-swapped Nothing vs ws h = h

-- it moves after the others
pub to-end : (e : Entry) (bs : List Entry) → Swapped (e ∷ bs) (bs ++ e ∷ [])
to-end e [] = Same (e ∷ [])
to-end e (b ∷ bs) = Then (e ∷ b ∷ bs) (b ∷ e ∷ bs) (b ∷ (bs ++ e ∷ [])) (Swap e b bs) (Next b (e ∷ bs) (bs ++ e ∷ []) (to-end e bs))

-- the first two change places
fit-swap : (hs : List Channel) (e f : Entry) (vs : List Entry) → Fit hs (e ∷ f ∷ vs) → Fit hs (f ∷ e ∷ vs)
fit-swap hs e f vs fit = record {
  fits = (fit.fits.1.0, (fit.fits.0, fit.fits.1.1));
  known = each-of (KnownBy (numbers (e ∷ f ∷ vs))) (KnownBy (numbers (f ∷ e ∷ vs))) (λ x k c own. or-swap (has c e.0) (has c f.0) (any_of (has c) (numbers vs)) (k c own)) hs fit.known;
  apart = ((other-back e f fit.apart.0.0, fit.apart.1.0), (fit.apart.0.1, fit.apart.1.1));
}
  where
    or-swap : (a b c : Bool) → (a || (b || c)) ≡ true → (b || (a || c)) ≡ true
    or-swap true true c h = refl
    or-swap true false c h = refl
    or-swap false true c h = refl
    or-swap false false c h = h

fit-numbers : (hs : List Channel) (vs ws : List Entry) → Swapped vs ws → (c : ℕ) → any_of (has c) (numbers vs) ≡ any_of (has c) (numbers ws)
fit-numbers hs vs ws (Same xs) c = refl
fit-numbers hs vs ws (Swap e f xs) c = or-three (has c e.0) (has c f.0) (any_of (has c) (numbers xs))
  where
    or-three : (a b d : Bool) → (a || (b || d)) ≡ (b || (a || d))
    or-three true true d = refl
    or-three true false d = refl
    or-three false true d = refl
    or-three false false d = refl
fit-numbers hs vs ws (Next e xs ys s) c = ap (λ (b : Bool). has c e.0 || b) (fit-numbers hs xs ys s c)
fit-numbers hs vs ws (Then us xs ys s t) c = fit-numbers hs us xs s c ∙ fit-numbers hs xs ys t c

each-swapped : (P : Entry → Type 0) (vs ws : List Entry) → Swapped vs ws → Each P vs → Each P ws
each-swapped P vs ws (Same xs) a = a
each-swapped P vs ws (Swap e f xs) a = (a.1.0, (a.0, a.1.1))
each-swapped P vs ws (Next e xs ys s) a = (a.0, each-swapped P xs ys s a.1)
each-swapped P vs ws (Then us xs ys s t) a = each-swapped P xs ys t (each-swapped P us xs s a)

apart-swapped : (vs ws : List Entry) → Swapped vs ws → AllOther vs → AllOther ws
apart-swapped vs ws (Same xs) a = a
apart-swapped vs ws (Swap e f xs) a = ((other-back e f a.0.0, a.1.0), (a.0.1, a.1.1))
apart-swapped vs ws (Next e xs ys s) a = (each-swapped (Other e) xs ys s a.0, apart-swapped xs ys s a.1)
apart-swapped vs ws (Then us xs ys s t) a = apart-swapped xs ys t (apart-swapped us xs s a)

fit-swapped : (hs : List Channel) (vs ws : List Entry) → Swapped vs ws → Fit hs vs → Fit hs ws
fit-swapped hs vs ws s fit = record {
  fits = each-swapped (Fits hs) vs ws s fit.fits;
  known = each-of (KnownBy (numbers vs)) (KnownBy (numbers ws)) (λ x k c own. sym (fit-numbers hs vs ws s c) ∙ k c own) hs fit.known;
  apart = apart-swapped vs ws s fit.apart;
}

pub later-swapped : (hs : List Channel) (notes : List Note) (vs ws : List Entry) → Swapped vs ws → Later hs vs notes → Later hs ws notes
later-swapped hs [] vs ws s l = fit-swapped hs vs ws s l
later-swapped hs (note ∷ notes) vs ws s l = (each-swapped (Bound note) vs ws s l.0, later-swapped hs notes (noted note vs) (noted note ws) (noted-swapped note vs ws s) l.1)
