-- The master's own listeners and streams after one mark more.
use Rattle.std.proofs.Common.{◌≡◌, ℕ, Bool, true, false, not, ◌&&◌, ◌||◌, List, [], ◌∷◌, ◌++◌, map, refl, sym, ap, ◌∙◌, cond, append-nil}
use Rattle.std.specs.Prelude.{◌==◌, filter, IsTrue}
use Rattle.std.proofs.lemmas.List.{map-append}
use Rattle.std.proofs.lemmas.List.Elements.{filter-append}
use Rattle.mux_outside.specs.OwnStreams.{end_one, finish_one, is_finished, is_one, is_own, is_silent, new_stream, numbers_of, pause_one, with_end, without_stream}
use Rattle.mux_outside.specs.Seen.{Seen}
use Rattle.mux_outside.specs.Streams.{among, without}
use Rattle.mux_outside.specs.declared.house_mark.HouseMark.TheVariants.{HouseIn, HouseSaid, HouseTook, HouseAsked, HouseAnswer, HouseOrder}
use Rattle.mux_outside.specs.declared.mark.Mark.{Mark}
use Rattle.mux_outside.specs.declared.mark.Mark.TheVariants.{Waits, Accepts, Gets, Ends, Frees, Fails, Takes, Holds, WriteFails, Joins, House}
use Rattle.mux_outside.specs.declared.own_streams.OwnStream.{OwnStream}
use Rattle.mux_history.specs.declared.limits.TheConstants.{HOUSE}
use Rattle.mux_history.specs.Promises.{has_failed}
use Rattle.mux_engine.specs.Places.{HasPlaces, IsGiving, IsMarkPlaced, IsTaking, KeepsOwn, listeners_marked, own_in, own_marked}
use Rattle.mux_engine.proofs.Lists.{among-filter, and-second, test-other, true-false}

-- all that is so of them after a mark
pub record Owns (journal : List Mark) (seen' : Seen) (mark : Mark) : Type 0 where
  pub places : HasPlaces seen' (mark ∷ journal)
  pub right : IsMarkPlaced journal mark

pub keeps-more : (journal : List Mark) (mark : Mark) → IsMarkPlaced journal mark → KeepsOwn journal → KeepsOwn (mark ∷ journal)
keeps-more journal mark p k = record { opened = (p.opened, k.opened); gives = (p.gives, k.gives); writes = (p.writes, k.writes); joins = (p.joins, k.joins); others = (p.others, k.others) }

-- after one that changes them as the wire does
pub owns-by : (journal : List Mark) (seen seen' : Seen) (mark : Mark) → HasPlaces seen journal → IsMarkPlaced journal mark → seen'.own ≡ own_marked mark seen.own → seen'.listeners ≡ listeners_marked mark seen.listeners → filter is_own seen'.streams ≡ numbers_of seen'.own → Owns journal seen' mark
owns-by journal seen seen' mark p right own listeners streams = record {
  places = record { own = own ∙ ap (own_marked mark) p.own; listeners = listeners ∙ ap (listeners_marked mark) p.listeners; streams = streams };
  right = right;
}

-- after one that changes nothing of them
pub owns-as : (journal : List Mark) (seen seen' : Seen) (mark : Mark) → HasPlaces seen journal → IsMarkPlaced journal mark → ((own : List OwnStream) → own_marked mark own ≡ own) → ((listeners : List ℕ) → listeners_marked mark listeners ≡ listeners) → seen'.streams ≡ seen.streams → seen'.own ≡ seen.own → seen'.listeners ≡ seen.listeners → Owns journal seen' mark
owns-as journal seen seen' mark p right same_own same_listeners streams own listeners =
    owns-by journal seen seen' mark p right (own ∙ sym (same_own seen.own)) (listeners ∙ sym (same_listeners seen.listeners)) (ap (filter is_own) streams ∙ (p.streams ∙ ap numbers_of (sym own)))

-- a mark that records nothing of them
abbrev pub IsPlain : Mark → Type 0
IsPlain (Waits waiting want streams shown) = ⊥
IsPlain (Accepts k) = Unit {0}
IsPlain (Gets t bytes) = ⊥
IsPlain (Ends t) = ⊥
IsPlain (Frees t) = (t == HOUSE) ≡ false
IsPlain (Fails t) = (t == HOUSE) ≡ false
IsPlain (Takes t bytes accepts) = ⊥
IsPlain (Holds t) = ⊥
IsPlain (WriteFails t) = ⊥
IsPlain (Joins l t) = ⊥
IsPlain (House (HouseOrder order number)) = ⊥
IsPlain (House mark) = Unit {0}

-- ---- numbers

pub same-numbers : (f : OwnStream → OwnStream) → ((s : OwnStream) → (f s).number ≡ s.number) → (own : List OwnStream) → numbers_of (map f own) ≡ numbers_of own
same-numbers f h [] = refl
same-numbers f h (s ∷ own) = ap (λ n. n ∷ numbers_of (map f own)) (h s) ∙ ap (λ l. s.number ∷ l) (same-numbers f h own)

pub end-numbers : (k : ℕ) (own : List OwnStream) → numbers_of (with_end k own) ≡ numbers_of own
end-numbers k own = same-numbers (end_one k) (λ s. by_test s (s.number == k)) own
  where
    by_test : (s : OwnStream) (c : Bool) → (cond c (record s { ended = true }) s).number ≡ s.number
    by_test s true = refl
    by_test s false = refl

pub pause-numbers : (b : Bool) (k : ℕ) (own : List OwnStream) → numbers_of (map (pause_one b k) own) ≡ numbers_of own
pause-numbers b k own = same-numbers (pause_one b k) (λ s. by_test s (s.number == k)) own
  where
    by_test : (s : OwnStream) (c : Bool) → (cond c (record s { paused = b }) s).number ≡ s.number
    by_test s true = refl
    by_test s false = refl

pub finish-numbers : (k : ℕ) (own : List OwnStream) → numbers_of (map (finish_one k) own) ≡ numbers_of own
finish-numbers k own = same-numbers (finish_one k) (λ s. by_test s (s.number == k)) own
  where
    by_test : (s : OwnStream) (c : Bool) → (cond c (record s { finished = true }) s).number ≡ s.number
    by_test s true = refl
    by_test s false = refl

pub less-numbers : (k : ℕ) (own : List OwnStream) → without k (numbers_of own) ≡ numbers_of (without_stream k own)
less-numbers k [] = refl
less-numbers k (s ∷ own) = by_test (s.number == k) (less-numbers k own)
  where
    by_test : (b : Bool) → without k (numbers_of own) ≡ numbers_of (without_stream k own) → cond (not b) (s.number ∷ without k (numbers_of own)) (without k (numbers_of own)) ≡ numbers_of (cond (not b) (s ∷ without_stream k own) (without_stream k own))
    by_test true ih = ih
    by_test false ih = ap (λ l. s.number ∷ l) ih

-- the number of a stream
pub among-one : (t : ℕ) (own : List OwnStream) → among t (numbers_of own) ≡ is_one t own
among-one t [] = refl
among-one t (o ∷ own) = ap (λ b. (o.number == t) || b) (among-one t own)

-- with one stream more, and with one less
pub streams-more : (seen : Seen) (journal : List Mark) (k : ℕ) → HasPlaces seen journal → is_own k ≡ true → filter is_own (seen.streams ++ k ∷ []) ≡ numbers_of (seen.own ++ new_stream k ∷ [])
streams-more seen journal k p own =
    filter-append is_own seen.streams (k ∷ []) ∙ (ap (λ b. filter is_own seen.streams ++ cond b (k ∷ []) []) own
    ∙ (ap (λ l. l ++ k ∷ []) p.streams ∙ sym (map-append (λ (s : OwnStream). s.number) seen.own (new_stream k ∷ []))))

pub streams-client : (seen : Seen) (journal : List Mark) (k : ℕ) → HasPlaces seen journal → is_own k ≡ false → filter is_own (seen.streams ++ k ∷ []) ≡ numbers_of seen.own
streams-client seen journal k p client =
    filter-append is_own seen.streams (k ∷ []) ∙ (ap (λ b. filter is_own seen.streams ++ cond b (k ∷ []) []) client ∙ (append-nil (filter is_own seen.streams) ∙ p.streams))

-- ---- a stream that is open

-- with a number of the master's own it is one of its streams
pub own-open : (seen : Seen) (journal : List Mark) → HasPlaces seen journal → (t : ℕ) → is_own t ≡ true → among t seen.streams ≡ true → is_one t seen.own ≡ true
own-open seen journal p t own found =
    sym (among-one t seen.own) ∙ (ap (among t) (sym p.streams) ∙ (among-filter is_own t seen.streams ∙ (ap (λ b. b && among t seen.streams) own ∙ found)))

-- one of its streams is open
pub one-open : (seen : Seen) (journal : List Mark) → HasPlaces seen journal → (t : ℕ) → is_one t seen.own ≡ true → among t seen.streams ≡ true
one-open seen journal p t one =
    and-second (is_own t) (among t seen.streams) (sym (among-filter is_own t seen.streams) ∙ (ap (among t) p.streams ∙ (among-one t seen.own ∙ one)))

-- with another it is none
pub own-apart : (seen : Seen) (journal : List Mark) → HasPlaces seen journal → (t : ℕ) → among t seen.streams ≡ false → is_one t seen.own ≡ false
own-apart seen journal p t shut =
    sym (among-one t seen.own) ∙ (ap (among t) (sym p.streams) ∙ (among-filter is_own t seen.streams ∙ (ap (λ b. is_own t && b) shut ∙ and-none (is_own t))))
  where
    and-none : (b : Bool) → (b && false) ≡ false
    and-none true = refl
    and-none false = refl

pub client-apart : (seen : Seen) (journal : List Mark) → HasPlaces seen journal → (t : ℕ) → is_own t ≡ false → is_one t seen.own ≡ false
client-apart seen journal p t client = sym (among-one t seen.own) ∙ (ap (among t) (sym p.streams) ∙ (among-filter is_own t seen.streams ∙ ap (λ b. b && among t seen.streams) client))

-- ---- marks

pub owns-plain : (journal : List Mark) (seen seen' : Seen) (mark : Mark) → IsPlain mark → HasPlaces seen journal → seen'.streams ≡ seen.streams → seen'.own ≡ seen.own → seen'.listeners ≡ seen.listeners → Owns journal seen' mark
owns-plain journal seen seen' (Waits waiting want streams_open shown) plain p streams own listeners = absurd plain
owns-plain journal seen seen' (Accepts k) plain p streams own listeners = owns-as journal seen seen' (Accepts k) p record { opened = tt; gives = tt; writes = tt; joins = tt; others = refl } (λ o. refl) (λ l. refl) streams own listeners
owns-plain journal seen seen' (Gets t bytes) plain p streams own listeners = absurd plain
owns-plain journal seen seen' (Ends t) plain p streams own listeners = absurd plain
owns-plain journal seen seen' (Frees t) plain p streams own listeners = owns-as journal seen seen' (Frees t) p record { opened = tt; gives = tt; writes = tt; joins = tt; others = plain } (λ o. refl) (λ l. refl) streams own listeners
owns-plain journal seen seen' (Fails t) plain p streams own listeners = owns-as journal seen seen' (Fails t) p record { opened = tt; gives = tt; writes = tt; joins = tt; others = plain } (λ o. refl) (λ l. refl) streams own listeners
owns-plain journal seen seen' (Takes t bytes accepts) plain p streams own listeners = absurd plain
owns-plain journal seen seen' (Holds t) plain p streams own listeners = absurd plain
owns-plain journal seen seen' (WriteFails t) plain p streams own listeners = absurd plain
owns-plain journal seen seen' (Joins l t) plain p streams own listeners = absurd plain
owns-plain journal seen seen' (House HouseIn) plain p streams own listeners = owns-as journal seen seen' (House HouseIn) p record { opened = tt; gives = tt; writes = tt; joins = tt; others = refl } (λ o. refl) (λ l. refl) streams own listeners
owns-plain journal seen seen' (House (HouseSaid bytes)) plain p streams own listeners = owns-as journal seen seen' (House (HouseSaid bytes)) p record { opened = tt; gives = tt; writes = tt; joins = tt; others = refl } (λ o. refl) (λ l. refl) streams own listeners
owns-plain journal seen seen' (House (HouseTook size)) plain p streams own listeners = owns-as journal seen seen' (House (HouseTook size)) p record { opened = tt; gives = tt; writes = tt; joins = tt; others = refl } (λ o. refl) (λ l. refl) streams own listeners
owns-plain journal seen seen' (House (HouseAsked client id opening ask reply)) plain p streams own listeners = owns-as journal seen seen' (House (HouseAsked client id opening ask reply)) p record { opened = tt; gives = tt; writes = tt; joins = tt; others = refl } (λ o. refl) (λ l. refl) streams own listeners
owns-plain journal seen seen' (House (HouseAnswer client id reply)) plain p streams own listeners = owns-as journal seen seen' (House (HouseAnswer client id reply)) p record { opened = tt; gives = tt; writes = tt; joins = tt; others = refl } (λ o. refl) (λ l. refl) streams own listeners
owns-plain journal seen seen' (House (HouseOrder order number)) plain p streams own listeners = absurd plain

-- a client and the server are not the forwarder
pub client-other : (k : ℕ) → is_own k ≡ false → (k == HOUSE) ≡ false
client-other k client = test-other k HOUSE (λ e. true-false (sym (ap is_own e) ∙ client))

-- a client or the server gives something, or no more
pub gives-client : (journal : List Mark) (k : ℕ) (bytes : List ℕ) → is_own k ≡ false → IsMarkPlaced journal (Gets k bytes)
gives-client journal k bytes client = record { opened = tt; gives = λ own. true-false (sym own ∙ client); writes = tt; joins = tt; others = client-other k client }

pub ends-client : (journal : List Mark) (k : ℕ) → is_own k ≡ false → IsMarkPlaced journal (Ends k)
ends-client journal k client = record { opened = tt; gives = λ own. true-false (sym own ∙ client); writes = tt; joins = tt; others = client-other k client }

pub owns-gets : (journal : List Mark) (seen seen' : Seen) (k : ℕ) (bytes : List ℕ) → HasPlaces seen journal → IsMarkPlaced journal (Gets k bytes) → seen'.streams ≡ seen.streams → seen'.own ≡ seen.own → seen'.listeners ≡ seen.listeners → Owns journal seen' (Gets k bytes)
owns-gets journal seen seen' k bytes p right = owns-as journal seen seen' (Gets k bytes) p right (λ o. refl) (λ l. refl)

pub owns-ends : (journal : List Mark) (seen seen' : Seen) (k : ℕ) → HasPlaces seen journal → IsMarkPlaced journal (Ends k) → seen'.streams ≡ seen.streams → seen'.own ≡ with_end k seen.own → seen'.listeners ≡ seen.listeners → Owns journal seen' (Ends k)
owns-ends journal seen seen' k p right streams own listeners =
    owns-by journal seen seen' (Ends k) p right own listeners (ap (filter is_own) streams ∙ (p.streams ∙ (sym (end-numbers k seen.own) ∙ ap numbers_of (sym own))))

-- a client came
pub owns-accepts : (journal : List Mark) (seen seen' : Seen) (k : ℕ) → HasPlaces seen journal → is_own k ≡ false → seen'.streams ≡ seen.streams ++ k ∷ [] → seen'.own ≡ seen.own → seen'.listeners ≡ seen.listeners → Owns journal seen' (Accepts k)
owns-accepts journal seen seen' k p client streams own listeners =
    owns-by journal seen seen' (Accepts k) p record { opened = tt; gives = tt; writes = tt; joins = tt; others = refl } own listeners (ap (filter is_own) streams ∙ (streams-client seen journal k p client ∙ ap numbers_of (sym own)))

-- a socket was accepted
pub owns-joins : (journal : List Mark) (seen seen' : Seen) (l k : ℕ) → HasPlaces seen journal → IsTrue (among l seen.listeners) → is_own k ≡ true → seen'.streams ≡ seen.streams ++ k ∷ [] → seen'.own ≡ seen.own ++ new_stream k ∷ [] → seen'.listeners ≡ seen.listeners → Owns journal seen' (Joins l k)
owns-joins journal seen seen' l k p listens is streams own listeners =
    owns-by journal seen seen' (Joins l k) p record { opened = tt; gives = tt; writes = tt; joins = ap (among l) (sym p.listeners) ∙ listens; others = refl } own listeners (ap (filter is_own) streams ∙ (streams-more seen journal k p is ∙ ap numbers_of (sym own)))

-- what is written
pub writes-client : (journal : List Mark) (k : ℕ) → is_own k ≡ false → IsTrue (is_own k) → IsTaking k journal
writes-client journal k client own = true-false (sym own ∙ client)

pub takes-placed : (journal : List Mark) (k : ℕ) (bytes : List ℕ) (accepts : Bool) → (IsTrue (is_own k) → IsTaking k journal) → (k == HOUSE) ≡ false → IsMarkPlaced journal (Takes k bytes accepts)
takes-placed journal k bytes accepts takes other = record { opened = tt; gives = tt; writes = takes; joins = tt; others = other }

pub holds-placed : (journal : List Mark) (k : ℕ) → (IsTrue (is_own k) → IsTaking k journal) → (k == HOUSE) ≡ false → IsMarkPlaced journal (Holds k)
holds-placed journal k takes other = record { opened = tt; gives = tt; writes = takes; joins = tt; others = other }

pub fails-placed : (journal : List Mark) (k : ℕ) → (IsTrue (is_own k) → IsTaking k journal) → (k == HOUSE) ≡ false → IsMarkPlaced journal (WriteFails k)
fails-placed journal k takes other = record { opened = tt; gives = tt; writes = takes; joins = tt; others = other }

-- an open stream of the master's own that is not finished and has not failed accepts bytes
pub taking : (seen : Seen) (journal : List Mark) → HasPlaces seen journal → (k : ℕ) → among k seen.streams ≡ true → is_finished k seen.own ≡ false → (IsTrue (is_own k) → has_failed k journal ≡ false) → IsTrue (is_own k) → IsTaking k journal
taking seen journal p k found unfinished unfailed own = record {
  is = ap (is_one k) (sym p.own) ∙ own-open seen journal p k own found;
  unfinished = ap (is_finished k) (sym p.own) ∙ unfinished;
  unfailed = unfailed own;
}

-- one that is not silent gives something
pub giving : (seen : Seen) (journal : List Mark) → HasPlaces seen journal → (k : ℕ) → among k seen.streams ≡ true → (IsTrue (is_own k) → is_silent k seen.own ≡ false) → IsTrue (is_own k) → IsGiving k (own_in journal)
giving seen journal p k found loud own = record {
  is = ap (is_one k) (sym p.own) ∙ own-open seen journal p k own found;
  speaks = ap (is_silent k) (sym p.own) ∙ loud own;
}
