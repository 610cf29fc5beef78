-- What a row leaves of a client's channels.
use Rattle.std.proofs.Common.{◌≡◌, ◌<◌, ℕ, Bool, true, false, not, ◌&&◌, ◌||◌, Option, Some, None, List, [], ◌∷◌, ◌++◌, Ok, Err, refl, sym, ap, ◌∙◌, subst, arith, map}
use Rattle.std.specs.Prelude.{◌==◌, filter, Result}
use Rattle.std.proofs.lemmas.Bool.Decides.{nat_tests}
use Rattle.std.proofs.lemmas.List.{append-nil}
use Rattle.std.proofs.lemmas.List.Elements.{filter-append}
use Rattle.mux_outside.specs.declared.house.HouseReply.{HouseReply}
use Rattle.mux_outside.specs.declared.mark.Mark.{Mark}
use Rattle.ssh_fields.specs.Fields.{AreBytes}
use Rattle.ssh_grammar.specs.declared.fault.Bad.{Bad}
use Rattle.ssh_grammar.specs.declared.side.Side.{Side}
use Rattle.ssh_grammar.specs.declared.side.Side.TheVariants.{Up, Down}
use Rattle.ssh_grammar.specs.Messages.{Global, Opens}
use Rattle.ssh_grammar.specs.Said.{BadFraming, Body, Payload, Outgoing}
use Rattle.ssh_grammar.specs.SpellMessage.{with_sender}
use Rattle.mux_history.specs.Channels.{Channel, after_farewell, after_item, any_act, any_by, begun_by, channels_of, channel_after_item, held_of, is_closes, is_fails, is_channel_held, is_number, opened_down, opened_up, own_number_of, with_down, with_up, with_ups}
use Rattle.mux_history.specs.Summary.{Act, Confirmation, Confirms, Fails, Summary, Open, Refuses, Requests, Succeeds, Transport, Within, read_summary, reading, summary_sender_of}
use Rattle.mux_history.specs.Journal.{IsLawful, log_of_journal}
use Rattle.mux_history.specs.Kept.{AtEach, ForEach}
use Rattle.mux_history.specs.Laws.{with_act}
use Rattle.mux_history.specs.Policy.{Policy}
use Rattle.mux_history.specs.Right.{AreFresh}
use Rattle.mux_history.specs.Rows.{Heard, Item, Row, Says, rows_of}
use Rattle.mux_history.specs.Settings.{by_lists}
use Rattle.mux_history.proofs.Apart.{AllApart, ApartFrom, AreApart}
use Rattle.mux_history.proofs.Bools.{self, same-number}
use Rattle.mux_history.proofs.Finds as finds
use Rattle.mux_history.proofs.Finds.{filter-no, filter-yes}
use Rattle.mux_history.proofs.Journals.{logs-right}
use Rattle.mux_history.proofs.Local.{channels-local, is_of, item-client}
use Rattle.mux_history.proofs.Readings.{reading-ok}
use Rattle.mux_history.proofs.Renumbered.{SenderIn, number-sent, reads-sent, sender-in, word}
use Rattle.mux_history.proofs.RightLogs.{LogKnown, RowKnown, right-known}
use Rattle.mux_history.proofs.Steps.{held-step}
use Rattle.house_history.proofs.Lists.{Each, each-append, each-behind, each-front, each-of}
use Rattle.house_history.proofs.RowsOf.{plain_row}
use Rattle.house_history.proofs.Turns.{AllFar, Far, Good, far-behind, far-front}

-- a channel of this client
abbrev pub IsMine : ℕ → Channel → Type 0
IsMine k x = x.client ≡ k

abbrev IsHeld : Channel → Type 0
IsHeld x = is_channel_held x ≡ true

-- before the others, unless it is over
abbrev pub kept : Channel → List Channel → List Channel
kept z bs = elim (is_channel_held z) [ true ↦ z ∷ bs | false ↦ bs ]

pub kept-held : (z : Channel) (bs : List Channel) → is_channel_held z ≡ true → kept z bs ≡ z ∷ bs
kept-held z bs e = ap (λ (b : Bool). elim b as (λ _. List Channel) [ true ↦ z ∷ bs | false ↦ bs ]) e

pub kept-over : (z : Channel) (bs : List Channel) → is_channel_held z ≡ false → kept z bs ≡ bs
kept-over z bs e = ap (λ (b : Bool). elim b as (λ _. List Channel) [ true ↦ z ∷ bs | false ↦ bs ]) e

-- ---- filters

filter-kept : (z : Channel) (bs : List Channel) → filter is_channel_held bs ≡ bs → filter is_channel_held (z ∷ bs) ≡ kept z bs
filter-kept z bs e = by_test (is_channel_held z) refl
  where
    by_test : (b : Bool) → is_channel_held z ≡ b → filter is_channel_held (z ∷ bs) ≡ kept z bs
    by_test true h = filter-yes is_channel_held z bs h ∙ (ap (λ (l : List Channel). z ∷ l) e ∙ sym (kept-held z bs h))
    by_test false h = filter-no is_channel_held z bs h ∙ (e ∙ sym (kept-over z bs h))

filter-all : (xs : List Channel) → Each IsHeld xs → filter is_channel_held xs ≡ xs
filter-all [] all = refl
filter-all (x ∷ xs) all = filter-yes is_channel_held x xs all.0 ∙ ap (λ (l : List Channel). x ∷ l) (filter-all xs all.1)

all-held : (xs : List Channel) → Each IsHeld (filter is_channel_held xs)
all-held [] = tt
all-held (x ∷ xs) = by_test (all-held xs) (is_channel_held x) refl
  where
    by_test : Each IsHeld (filter is_channel_held xs) → (b : Bool) → is_channel_held x ≡ b → Each IsHeld (filter is_channel_held (x ∷ xs))
    by_test ih true h = subst (Each IsHeld) (sym (filter-yes is_channel_held x xs h)) (h, ih)
    by_test ih false h = subst (Each IsHeld) (sym (filter-no is_channel_held x xs h)) ih

pub held-held : (own : List Row) → Each (λ (x : Channel). is_channel_held x ≡ true) (held_of own)
held-held own = all-held (channels_of own)

twice : (xs : List Channel) → filter is_channel_held (filter is_channel_held xs) ≡ filter is_channel_held xs
twice xs = filter-all (filter is_channel_held xs) (all-held xs)

map-stays : (g : Channel → Channel) (xs : List Channel) → Each (λ (y : Channel). g y ≡ y) xs → map g xs ≡ xs
map-stays g [] all = refl
map-stays g (x ∷ xs) all = ap (λ (y : Channel). y ∷ map g xs) all.0 ∙ ap (λ (l : List Channel). x ∷ l) (map-stays g xs all.1)

each-any : (P : Channel → Type 0) → ((x : Channel) → P x) → (xs : List Channel) → Each P xs
each-any P h [] = tt
each-any P h (x ∷ xs) = (h x, each-any P h xs)

each-two : (P Q R : Channel → Type 0) → ((x : Channel) → P x → Q x → R x) → (xs : List Channel) → Each P xs → Each Q xs → Each R xs
each-two P Q R step [] a b = tt
each-two P Q R step (x ∷ xs) a b = (step x a.0 b.0, each-two P Q R step xs a.1 b.1)

-- one of them changes
change-one : (g : Channel → Channel) (fs bs : List Channel) (x x' : Channel) → Each IsHeld fs → Each IsHeld bs
    → Each (λ (y : Channel). g y ≡ y) fs → Each (λ (y : Channel). g y ≡ y) bs → g x ≡ x' → filter is_channel_held (map g (fs ++ x ∷ bs)) ≡ fs ++ kept x' bs
change-one g [] bs x x' hf hb sf sb e =
    ap (λ (y : Channel). filter is_channel_held (y ∷ map g bs)) e
    ∙ (ap (λ (l : List Channel). filter is_channel_held (x' ∷ l)) (map-stays g bs sb) ∙ filter-kept x' bs (filter-all bs hb))
change-one g (f ∷ fs) bs x x' hf hb sf sb e =
    ap (λ (y : Channel). filter is_channel_held (y ∷ map g (fs ++ x ∷ bs))) sf.0
    ∙ (filter-yes is_channel_held f (map g (fs ++ x ∷ bs)) hf.0 ∙ ap (λ (l : List Channel). f ∷ l) (change-one g fs bs x x' hf.1 hb sf.1 sb e))

-- ---- a row with no farewell

farewell-none : (item : Item) (k : ℕ) (up down : List (List ℕ)) (x : Channel) → after_farewell (plain_row item k up down) x ≡ x
farewell-none item k up down x = elim (x.client == k) as (λ b. (elim b as (λ _. Channel) [ true ↦ x | false ↦ x ]) ≡ x) [ true ↦ refl | false ↦ refl ]

plain-step : (item : Item) (k : ℕ) (up down : List (List ℕ)) (own : List Row)
    → held_of (plain_row item k up down ∷ own) ≡ filter is_channel_held (map (after_item (plain_row item k up down)) (held_of own)) ++ filter is_channel_held (begun_by k up item)
plain-step item k up down own =
    let row = plain_row item k up down in
    let ys = filter is_channel_held (map (after_item row) (held_of own) ++ begun_by k up item) in
    held-step row own
    ∙ (ap (filter is_channel_held) (map-stays (after_farewell row) ys (each-any (λ (y : Channel). after_farewell row y ≡ y) (farewell-none item k up down) ys))
    ∙ (twice (map (after_item row) (held_of own) ++ begun_by k up item)
    ∙ filter-append is_channel_held (map (after_item row) (held_of own)) (begun_by k up item)))

-- what the row does to a channel of its client
abbrev does : Item → List (List ℕ) → Channel → Channel
does item up x = with_ups (own_number_of item) up (channel_after_item item x)

at-mine : (item : Item) (k : ℕ) (up down : List (List ℕ)) (x : Channel) → x.client ≡ k → after_item (plain_row item k up down) x ≡ does item up x
at-mine item k up down x mine =
    let is : (x.client == k) ≡ true = subst (λ (j : ℕ). (x.client == j) ≡ true) mine (self x.client) in
    ap (λ (b : Bool). elim b as (λ _. Channel) [ true ↦ does item up x | false ↦ x ]) is

at-any : (item : Item) (k : ℕ) (up down : List (List ℕ)) (x : Channel) → does item up x ≡ x → after_item (plain_row item k up down) x ≡ x
at-any item k up down x stays =
    elim (x.client == k) as (λ b. (elim b as (λ _. Channel) [ true ↦ does item up x | false ↦ x ]) ≡ x) [ true ↦ stays | false ↦ refl ]

one-changes : (item : Item) (k : ℕ) (up down : List (List ℕ)) (own : List Row) → Good (held_of own) → Each (IsMine k) (held_of own)
    → (fs bs : List Channel) (x x' : Channel) → held_of own ≡ fs ++ x ∷ bs
    → ((y : Channel) → Far x y → does item up y ≡ y) → (x.client ≡ k → is_channel_held x ≡ true → does item up x ≡ x') → begun_by k up item ≡ []
    → held_of (plain_row item k up down ∷ own) ≡ fs ++ kept x' bs
one-changes item k up down own good mine fs bs x x' are others here none =
    let g = after_item (plain_row item k up down) in
    let held : Each IsHeld (fs ++ x ∷ bs) = subst (Each IsHeld) are good.held in
    let far : AllFar (fs ++ x ∷ bs) = subst AllFar are good.far in
    let all : Each (IsMine k) (fs ++ x ∷ bs) = subst (Each (IsMine k)) are mine in
    let stays : (y : Channel) → Far x y → g y ≡ y = λ y f. at-any item k up down y (others y f) in
    let its = (each-behind (IsMine k) fs (x ∷ bs) all).0 in
    plain-step item k up down own
    ∙ (ap (λ (l : List Channel). filter is_channel_held (map g (held_of own)) ++ filter is_channel_held l) none
    ∙ (append-nil (filter is_channel_held (map g (held_of own)))
    ∙ (ap (λ (l : List Channel). filter is_channel_held (map g l)) are
    ∙ change-one g fs bs x x' (each-front IsHeld fs (x ∷ bs) held) (each-behind IsHeld fs (x ∷ bs) held).1
    (each-of (Far x) (λ (y : Channel). g y ≡ y) stays fs (far-front fs bs x far))
    (each-of (Far x) (λ (y : Channel). g y ≡ y) stays bs (far-behind fs bs x far))
    (at-mine item k up down x its ∙ here its (each-behind IsHeld fs (x ∷ bs) held).0))))

none-changes : (item : Item) (k : ℕ) (up down : List (List ℕ)) (own : List Row) (zs : List Channel)
    → Each (λ (y : Channel). does item up y ≡ y) (held_of own) → begun_by k up item ≡ zs → Each IsHeld zs
    → held_of (plain_row item k up down ∷ own) ≡ held_of own ++ zs
none-changes item k up down own zs stay begun held =
    let g = after_item (plain_row item k up down) in
    plain-step item k up down own
    ∙ (ap (λ (l : List Channel). filter is_channel_held (map g (held_of own)) ++ filter is_channel_held l) begun
    ∙ (ap (λ (l : List Channel). filter is_channel_held (map g (held_of own)) ++ l) (filter-all zs held)
    ∙ (ap (λ (l : List Channel). filter is_channel_held l ++ zs) (map-stays g (held_of own) (each-of (λ (y : Channel). does item up y ≡ y) (λ (y : Channel). g y ≡ y) (λ y e. at-any item k up down y e) (held_of own) stay))
    ∙ ap (λ (l : List Channel). l ++ zs) (twice (channels_of own)))))

still : (item : Item) (k : ℕ) (up down : List (List ℕ)) (own : List Row)
    → Each (λ (y : Channel). does item up y ≡ y) (held_of own) → begun_by k up item ≡ []
    → held_of (plain_row item k up down ∷ own) ≡ held_of own
still item k up down own stay begun = none-changes item k up down own [] stay begun tt ∙ append-nil (held_of own)

-- ---- what is sent up and what is received, by its summary

at-number : (o : Option ℕ) (n : ℕ) → o ≡ Some n → is_number o n ≡ true
at-number o n e = ap (λ (p : Option ℕ). is_number p n) e ∙ self n

both : (a b : Bool) → a ≡ true → b ≡ true → (a && b) ≡ true
both a b e f = ap (λ (c : Bool). c && b) e ∙ f

up-within : (own : Option ℕ) (s : ℕ) (act : Act) (x : Channel) → x.remote ≡ Some s → is_channel_held x ≡ true → with_up own (Within s act) x ≡ with_act Up act x
up-within own s act x remote held =
    ap (λ (b : Bool). elim b as (λ _. Channel) [ true ↦ with_act Up act x | false ↦ x ]) (both (is_number x.remote s) (is_channel_held x) (at-number x.remote s remote) held)

up-other : (own : Option ℕ) (s : ℕ) (act : Act) (y : Channel) → is_number y.remote s ≡ false → with_up own (Within s act) y ≡ y
up-other own s act y other = ap (λ (b : Bool). elim (b && is_channel_held y) as (λ _. Channel) [ true ↦ with_act Up act y | false ↦ y ]) other

up-confirms : (own : Option ℕ) (s n w m : ℕ) (x : Channel) → x.remote ≡ Some s → is_channel_held x ≡ true → with_up own (Confirmation s n w m) x ≡ record x { own = own; number = Some n; acts = (Up, Confirms w m) ∷ x.acts }
up-confirms own s n w m x remote held =
    ap (λ (b : Bool). elim b as (λ _. Channel) [ true ↦ record x { own = own; number = Some n; acts = (Up, Confirms w m) ∷ x.acts } | false ↦ x ]) (both (is_number x.remote s) (is_channel_held x) (at-number x.remote s remote) held)

up-unconfirmed : (own : Option ℕ) (s n w m : ℕ) (y : Channel) → is_number y.remote s ≡ false → with_up own (Confirmation s n w m) y ≡ y
up-unconfirmed own s n w m y other = ap (λ (b : Bool). elim (b && is_channel_held y) as (λ _. Channel) [ true ↦ record y { own = own; number = Some n; acts = (Up, Confirms w m) ∷ y.acts } | false ↦ y ]) other

down-within : (n : ℕ) (act : Act) (x : Channel) → x.number ≡ Some n → is_channel_held x ≡ true → with_down (Within n act) x ≡ with_act Down act x
down-within n act x number held =
    ap (λ (b : Bool). elim b as (λ _. Channel) [ true ↦ with_act Down act x | false ↦ x ]) (both (is_number x.number n) (is_channel_held x) (at-number x.number n number) held)

down-other : (n : ℕ) (act : Act) (y : Channel) → is_number y.number n ≡ false → with_down (Within n act) y ≡ y
down-other n act y other = ap (λ (b : Bool). elim (b && is_channel_held y) as (λ _. Channel) [ true ↦ with_act Down act y | false ↦ y ]) other

down-confirms : (n s w m : ℕ) (x : Channel) → x.number ≡ Some n → is_channel_held x ≡ true → with_down (Confirmation n s w m) x ≡ record x { remote = Some s; acts = (Down, Confirms w m) ∷ x.acts }
down-confirms n s w m x number held =
    ap (λ (b : Bool). elim b as (λ _. Channel) [ true ↦ record x { remote = Some s; acts = (Down, Confirms w m) ∷ x.acts } | false ↦ x ]) (both (is_number x.number n) (is_channel_held x) (at-number x.number n number) held)

down-unconfirmed : (n s w m : ℕ) (y : Channel) → is_number y.number n ≡ false → with_down (Confirmation n s w m) y ≡ y
down-unconfirmed n s w m y other = ap (λ (b : Bool). elim (b && is_channel_held y) as (λ _. Channel) [ true ↦ record y { remote = Some s; acts = (Down, Confirms w m) ∷ y.acts } | false ↦ y ]) other

-- confirmed and nothing else
fresh-held : (way : Side) (w m : ℕ) (acts : List (Side × Act)) → acts ≡ []
    → not (any_act is_fails ((way, Confirms w m) ∷ acts) || (any_by Up is_closes ((way, Confirms w m) ∷ acts) && any_by Down is_closes ((way, Confirms w m) ∷ acts))) ≡ true
fresh-held Up w m acts e = ap (λ (l : List (Side × Act)). not (any_act is_fails ((Up, Confirms w m) ∷ l) || (any_by Up is_closes ((Up, Confirms w m) ∷ l) && any_by Down is_closes ((Up, Confirms w m) ∷ l)))) e
fresh-held Down w m acts e = ap (λ (l : List (Side × Act)). not (any_act is_fails ((Down, Confirms w m) ∷ l) || (any_by Up is_closes ((Down, Confirms w m) ∷ l) && any_by Down is_closes ((Down, Confirms w m) ∷ l)))) e

-- ---- what the client sends

begun-said : (k : ℕ) (p : List ℕ) (given : Option HouseReply) (up : List (List ℕ)) (m : Summary) → read_summary p ≡ Ok m → begun_by k up (Says k (Payload p) given) ≡ opened_up k up m
begun-said k p given up m reads = reading-ok p m (opened_up k up) [] reads

pub said-act : (k : ℕ) (own : List Row) (p : List ℕ) (given : Option HouseReply) (down : List (List ℕ)) (s : ℕ) (act : Act) → read_summary p ≡ Ok (Within s act)
    → Good (held_of own) → Each (IsMine k) (held_of own) → (fs bs : List Channel) (x : Channel) → held_of own ≡ fs ++ x ∷ bs → x.remote ≡ Some s
    → held_of (plain_row (Says k (Payload p) given) k (p ∷ []) down ∷ own) ≡ fs ++ kept (with_act Up act x) bs
said-act k own p given down s act reads good mine fs bs x are remote =
    let item = Says k (Payload p) given in
    one-changes item k (p ∷ []) down own good mine fs bs x (with_act Up act x) are
    (λ y far. reading-ok p (Within s act) (λ m. with_up (own_number_of item) m y) y reads ∙ up-other (own_number_of item) s act y (far.remotes s (at-number x.remote s remote)))
    (λ its held. reading-ok p (Within s act) (λ m. with_up (own_number_of item) m x) x reads ∙ up-within (own_number_of item) s act x remote held)
    (begun-said k p given (p ∷ []) (Within s act) reads)

pub said-confirmation : (k : ℕ) (own : List Row) (p : List ℕ) (given : Option HouseReply) (down : List (List ℕ)) (pick s n w m : ℕ) → AreBytes p → read_summary p ≡ Ok (Confirmation s n w m)
    → Good (held_of own) → Each (IsMine k) (held_of own) → (fs bs : List Channel) (x : Channel) → held_of own ≡ fs ++ x ∷ bs → x.remote ≡ Some s → x.acts ≡ []
    → (number : ℕ) × (held_of (plain_row (Says k (Payload p) given) k (with_sender p pick ∷ []) down ∷ own) ≡ fs ++ (record x { own = Some n; number = Some number; acts = (Up, Confirms w m) ∷ x.acts }) ∷ bs)
said-confirmation k own p given down pick s n w m bytes reads good mine fs bs x are remote fresh =
    let item = Says k (Payload p) given in
    let q = with_sender p pick in
    let in_it : SenderIn p (Confirmation s n w m) = sender-in p (Confirmation s n w m) n bytes reads refl in
    let sent : read_summary q ≡ Ok (Confirmation s (word pick) w m) = reads-sent p (Confirmation s n w m) in_it pick in
    let owns : own_number_of item ≡ Some n = reading-ok p (Confirmation s n w m) summary_sender_of None reads in
    let x' : Channel = record x { own = Some n; number = Some (word pick); acts = (Up, Confirms w m) ∷ x.acts } in (
      word pick,
      one-changes item k (q ∷ []) down own good mine fs bs x x' are
          (λ y far. reading-ok q (Confirmation s (word pick) w m) (λ m. with_up (own_number_of item) m y) y sent ∙ up-unconfirmed (own_number_of item) s (word pick) w m y (far.remotes s (at-number x.remote s remote)))
          (λ its held. reading-ok q (Confirmation s (word pick) w m) (λ m. with_up (own_number_of item) m x) x sent
          ∙ (up-confirms (own_number_of item) s (word pick) w m x remote held ∙ ap (λ (o : Option ℕ). record x { own = o; number = Some (word pick); acts = (Up, Confirms w m) ∷ x.acts }) owns))
          (begun-said k p given (q ∷ []) (Confirmation s n w m) reads)
          ∙ ap (λ (l : List Channel). fs ++ l) (kept-held x' bs (fresh-held Up w m x.acts fresh)),
    )

pub said-open : (k : ℕ) (own : List Row) (p : List ℕ) (given : Option HouseReply) (down : List (List ℕ)) (pick : ℕ) (what : Opens) (n w m : ℕ) → AreBytes p → read_summary p ≡ Ok (Open what n w m)
    → (number : ℕ) × (held_of (plain_row (Says k (Payload p) given) k (with_sender p pick ∷ []) down ∷ own)
    ≡ held_of own ++ (record { client = k; by = Up; own = Some n; number = Some number; remote = None; window = w; maximum = m; acts = [] }) ∷ [])
said-open k own p given down pick what n w m bytes reads =
    let item = Says k (Payload p) given in
    let q = with_sender p pick in
    let in_it : SenderIn p (Open what n w m) = sender-in p (Open what n w m) n bytes reads refl in
    let sent : read_summary q ≡ Ok (Open what (word pick) w m) = reads-sent p (Open what n w m) in_it pick in
    let z : Channel = record { client = k; by = Up; own = Some n; number = Some (word pick); remote = None; window = w; maximum = m; acts = [] } in (
      word pick,
      none-changes item k (q ∷ []) down own (z ∷ [])
          (each-any (λ (y : Channel). does item (q ∷ []) y ≡ y) (λ y. reading-ok q (Open what (word pick) w m) (λ m. with_up (own_number_of item) m y) y sent) (held_of own))
          (begun-said k p given (q ∷ []) (Open what n w m) reads
          ∙ ap (λ (o : Option ℕ). record { client = k; by = Up; own = Some n; number = o; remote = None; window = w; maximum = m; acts = [] } ∷ []) (number-sent p (Open what n w m) in_it pick))
          (refl, tt),
    )

begun-nothing : (k : ℕ) (outgoing : Outgoing) (given : Option HouseReply) → begun_by k [] (Says k outgoing given) ≡ []
begun-nothing k (Payload p) given = elim (read_summary p) as (λ (r : Result Summary Bad). (elim r as (λ _. List Channel) [ Err e ↦ [] | Ok m ↦ opened_up k [] m ]) ≡ []) [ Err e ↦ refl | Ok m ↦ refl ]
begun-nothing k (Body body) given = refl
begun-nothing k (BadFraming fault) given = refl

pub said-nothing : (k : ℕ) (own : List Row) (outgoing : Outgoing) (given : Option HouseReply) (down : List (List ℕ)) → held_of (plain_row (Says k outgoing given) k [] down ∷ own) ≡ held_of own
said-nothing k own outgoing given down =
    let item = Says k outgoing given in
    still item k [] down own (each-any (λ (y : Channel). does item [] y ≡ y) (λ y. refl) (held_of own)) (begun-nothing k outgoing given)

pub said-request : (k : ℕ) (own : List Row) (p : List ℕ) (given : Option HouseReply) (down : List (List ℕ)) (what : Global) (wants : Bool) → read_summary p ≡ Ok (Requests what wants)
    → held_of (plain_row (Says k (Payload p) given) k (p ∷ []) down ∷ own) ≡ held_of own
said-request k own p given down what wants reads =
    let item = Says k (Payload p) given in
    still item k (p ∷ []) down own
    (each-any (λ (y : Channel). does item (p ∷ []) y ≡ y) (λ y. reading-ok p (Requests what wants) (λ m. with_up (own_number_of item) m y) y reads) (held_of own))
    (begun-said k p given (p ∷ []) (Requests what wants) reads)

-- ---- what it receives

begun-heard : (k : ℕ) (p : List ℕ) (up : List (List ℕ)) (m : Summary) (zs : List Channel) → read_summary p ≡ Ok m → opened_down k up m ≡ zs → (k == 0) ≡ false → begun_by k up (Heard p) ≡ zs
begun-heard k p up m zs reads opened real =
    ap (λ (b : Bool). elim b as (λ _. List Channel) [ true ↦ [] | false ↦ reading p (opened_down k up) [] ]) real
    ∙ (reading-ok p m (opened_down k up) [] reads ∙ opened)

heard-none : (k : ℕ) (p : List ℕ) (up : List (List ℕ)) (m : Summary) → read_summary p ≡ Ok m → opened_down k up m ≡ [] → begun_by k up (Heard p) ≡ []
heard-none k p up m reads opened =
    elim (k == 0) as (λ b. (elim b as (λ _. List Channel) [ true ↦ [] | false ↦ reading p (opened_down k up) [] ]) ≡ []) [ true ↦ refl | false ↦ reading-ok p m (opened_down k up) [] reads ∙ opened ]

pub heard-act : (k : ℕ) (own : List Row) (p : List ℕ) (down : List (List ℕ)) (n : ℕ) (act : Act) → read_summary p ≡ Ok (Within n act)
    → Good (held_of own) → Each (IsMine k) (held_of own) → (fs bs : List Channel) (x : Channel) → held_of own ≡ fs ++ x ∷ bs → x.number ≡ Some n
    → held_of (plain_row (Heard p) k [] down ∷ own) ≡ fs ++ kept (with_act Down act x) bs
heard-act k own p down n act reads good mine fs bs x are number =
    one-changes (Heard p) k [] down own good mine fs bs x (with_act Down act x) are
    (λ y far. reading-ok p (Within n act) (λ m. with_down m y) y reads ∙ down-other n act y (far.numbers n (at-number x.number n number)))
    (λ its held. reading-ok p (Within n act) (λ m. with_down m x) x reads ∙ down-within n act x number held)
    (heard-none k p [] (Within n act) reads refl)

pub heard-confirmation : (k : ℕ) (own : List Row) (p : List ℕ) (down : List (List ℕ)) (n s w m : ℕ) → read_summary p ≡ Ok (Confirmation n s w m)
    → Good (held_of own) → Each (IsMine k) (held_of own) → (fs bs : List Channel) (x : Channel) → held_of own ≡ fs ++ x ∷ bs → x.number ≡ Some n → x.acts ≡ []
    → held_of (plain_row (Heard p) k [] down ∷ own) ≡ fs ++ (record x { remote = Some s; acts = (Down, Confirms w m) ∷ x.acts }) ∷ bs
heard-confirmation k own p down n s w m reads good mine fs bs x are number fresh =
    let x' : Channel = record x { remote = Some s; acts = (Down, Confirms w m) ∷ x.acts } in
    one-changes (Heard p) k [] down own good mine fs bs x x' are
    (λ y far. reading-ok p (Confirmation n s w m) (λ m. with_down m y) y reads ∙ down-unconfirmed n s w m y (far.numbers n (at-number x.number n number)))
    (λ its held. reading-ok p (Confirmation n s w m) (λ m. with_down m x) x reads ∙ down-confirms n s w m x number held)
    (heard-none k p [] (Confirmation n s w m) reads refl)
    ∙ ap (λ (l : List Channel). fs ++ l) (kept-held x' bs (fresh-held Down w m x.acts fresh))

not-zero : (k : ℕ) → 0 < k → (k == 0) ≡ false
not-zero k lt = grind (arith, nat_tests)

pub heard-open : (k : ℕ) (own : List Row) (p : List ℕ) (down : List (List ℕ)) (what : Opens) (s w m : ℕ) → read_summary p ≡ Ok (Open what s w m) → 0 < k
    → held_of (plain_row (Heard p) k [] down ∷ own)
    ≡ held_of own ++ (record { client = k; by = Down; own = None; number = None; remote = Some s; window = w; maximum = m; acts = [] }) ∷ []
heard-open k own p down what s w m reads real =
    let z : Channel = record { client = k; by = Down; own = None; number = None; remote = Some s; window = w; maximum = m; acts = [] } in
    none-changes (Heard p) k [] down own (z ∷ [])
    (each-any (λ (y : Channel). does (Heard p) [] y ≡ y) (λ y. reading-ok p (Open what s w m) (λ m. with_down m y) y reads) (held_of own))
    (begun-heard k p [] (Open what s w m) (z ∷ []) reads refl (not-zero k real))
    (refl, tt)

pub heard-refused : (k : ℕ) (own : List Row) (p q : List ℕ) (down : List (List ℕ)) (what : Opens) (s w m : ℕ) → read_summary p ≡ Ok (Open what s w m) → read_summary q ≡ Ok (Within s Fails)
    → Each (λ (x : Channel). is_number x.remote s ≡ false) (held_of own)
    → held_of (plain_row (Heard p) k (q ∷ []) down ∷ own) ≡ held_of own
heard-refused k own p q down what s w m reads fails unused =
    still (Heard p) k (q ∷ []) down own
    (each-of (λ (y : Channel). is_number y.remote s ≡ false) (λ (y : Channel). does (Heard p) (q ∷ []) y ≡ y)
    (λ y other. ap (with_ups None (q ∷ [])) (reading-ok p (Open what s w m) (λ m. with_down m y) y reads) ∙ (reading-ok q (Within s Fails) (λ m. with_up None m y) y fails ∙ up-other None s Fails y other))
    (held_of own) unused)
    (heard-none k p (q ∷ []) (Open what s w m) reads refl)

-- to no channel, and no open
abbrev pub IsOutside : Summary → Type 0
IsOutside (Transport number) = Unit {0}
IsOutside (Requests what wants) = Unit {0}
IsOutside (Succeeds rest) = Unit {0}
IsOutside Refuses = Unit {0}
IsOutside (Open what s w m) = ⊥
IsOutside (Confirmation n s w m) = ⊥
IsOutside (Within n act) = ⊥

outside-begins : (k : ℕ) (m : Summary) → IsOutside m → opened_down k [] m ≡ []
outside-begins k (Open what s w m) out = absurd out
outside-begins k m out = refl

outside-stays : (m : Summary) (y : Channel) → IsOutside m → with_down m y ≡ y
outside-stays (Confirmation n s w m) y out = absurd out
outside-stays (Within n act) y out = absurd out
outside-stays m y out = refl

pub heard-other : (k : ℕ) (own : List Row) (p : List ℕ) (down : List (List ℕ)) (m : Summary) → read_summary p ≡ Ok m → IsOutside m
    → held_of (plain_row (Heard p) k [] down ∷ own) ≡ held_of own
heard-other k own p down m reads out =
    still (Heard p) k [] down own
    (each-any (λ (y : Channel). does (Heard p) [] y ≡ y) (λ y. reading-ok p m (λ m. with_down m y) y reads ∙ outside-stays m y out) (held_of own))
    (heard-none k p [] m reads (outside-begins k m out))

-- an item that no one sends
abbrev pub IsUnsaid : Item → Type 0
IsUnsaid (Says j outgoing given) = ⊥
IsUnsaid (Heard p) = ⊥
IsUnsaid item = Unit {0}

unsaid-begins : (k : ℕ) (item : Item) → IsUnsaid item → begun_by k [] item ≡ []
unsaid-begins k (Says j outgoing given) out = absurd out
unsaid-begins k (Heard p) out = absurd out
unsaid-begins k item out = refl

unsaid-stays : (item : Item) (y : Channel) → IsUnsaid item → does item [] y ≡ y
unsaid-stays (Says j outgoing given) y out = absurd out
unsaid-stays (Heard p) y out = absurd out
unsaid-stays item y out = refl

pub plain-other : (k : ℕ) (own : List Row) (item : Item) (down : List (List ℕ)) → IsUnsaid item → held_of (plain_row item k [] down ∷ own) ≡ held_of own
plain-other k own item down out =
    still item k [] down own (each-any (λ (y : Channel). does item [] y ≡ y) (λ y. unsaid-stays item y out) (held_of own)) (unsaid-begins k item out)

-- ---- the channels stay the client's

begins-mine : (k : ℕ) (up : List (List ℕ)) (m : Summary) → Each (IsMine k) (opened_up k up m) × Each (IsMine k) (opened_down k up m)
begins-mine k [] (Open what s w m) = (tt, (refl, tt))
begins-mine k (q ∷ qs) (Open what s w m) = ((refl, tt), tt)
begins-mine k [] m = (tt, tt)
begins-mine k (q ∷ qs) m = (tt, tt)

reads-mine : (k : ℕ) (p : List ℕ) (f : Summary → List Channel) → ((m : Summary) → Each (IsMine k) (f m)) → Each (IsMine k) (reading p f [])
reads-mine k p f each = elim (read_summary p) as (λ (r : Result Summary Bad). Each (IsMine k) (elim r as (λ _. List Channel) [ Err e ↦ [] | Ok m ↦ f m ])) [ Err e ↦ tt | Ok m ↦ each m ]

begun-mine : (k : ℕ) (up : List (List ℕ)) (item : Item) → Each (IsMine k) (begun_by k up item)
begun-mine k up (Says j (Payload p) given) = reads-mine k p (opened_up k up) (λ m. (begins-mine k up m).0)
begun-mine k up (Heard p) = elim (k == 0) as (λ b. Each (IsMine k) (elim b as (λ _. List Channel) [ true ↦ [] | false ↦ reading p (opened_down k up) [] ])) [ true ↦ tt | false ↦ reads-mine k p (opened_down k up) (λ m. (begins-mine k up m).1) ]
begun-mine k up item = tt

filter-mine : (k : ℕ) (xs : List Channel) → Each (IsMine k) xs → Each (IsMine k) (filter is_channel_held xs)
filter-mine k [] all = tt
filter-mine k (x ∷ xs) all = by_test (filter-mine k xs all.1) (is_channel_held x) refl
  where
    by_test : Each (IsMine k) (filter is_channel_held xs) → (b : Bool) → is_channel_held x ≡ b → Each (IsMine k) (filter is_channel_held (x ∷ xs))
    by_test ih true h = subst (Each (IsMine k)) (sym (filter-yes is_channel_held x xs h)) (all.0, ih)
    by_test ih false h = subst (Each (IsMine k)) (sym (filter-no is_channel_held x xs h)) ih

map-mine : (k : ℕ) (g : Channel → Channel) → ((x : Channel) → (g x).client ≡ x.client) → (xs : List Channel) → Each (IsMine k) xs → Each (IsMine k) (map g xs)
map-mine k g keeps [] all = tt
map-mine k g keeps (x ∷ xs) all = (keeps x ∙ all.0, map-mine k g keeps xs all.1)

pub mine-stays : (item : Item) (k : ℕ) (up down : List (List ℕ)) (own : List Row) → Each (IsMine k) (held_of own) → Each (IsMine k) (held_of (plain_row item k up down ∷ own))
mine-stays item k up down own mine =
    let row = plain_row item k up down in
    subst (Each (IsMine k)) (sym (plain-step item k up down own))
    (each-append (IsMine k) (filter is_channel_held (map (after_item row) (held_of own))) (filter is_channel_held (begun_by k up item))
    (filter-mine k (map (after_item row) (held_of own)) (map-mine k (after_item row) (item-client row) (held_of own) mine))
    (filter-mine k (begun_by k up item) (begun-mine k up item)))

-- ---- and apart

abbrev picked : ℕ → List Channel → List Channel
picked k xs = filter is_channel_held (filter (is_of k) xs)

one-picked : (k : ℕ) (x : Channel) (xs : List Channel) (P : List Channel → Type 0) → (x.client ≡ k → is_channel_held x ≡ true → P (x ∷ picked k xs)) → P (picked k xs) → P (picked k (x ∷ xs))
one-picked k x xs P yes_it past = by_test (x.client == k) refl (is_channel_held x) refl
  where
    by_test : (b : Bool) → (x.client == k) ≡ b → (h : Bool) → is_channel_held x ≡ h → P (picked k (x ∷ xs))
    by_test false e h f = subst P (sym (ap (filter is_channel_held) (filter-no (is_of k) x xs e))) past
    by_test true e false f = subst P (sym (ap (filter is_channel_held) (filter-yes (is_of k) x xs e) ∙ filter-no is_channel_held x (filter (is_of k) xs) f)) past
    by_test true e true f = subst P (sym (ap (filter is_channel_held) (filter-yes (is_of k) x xs e) ∙ filter-yes is_channel_held x (filter (is_of k) xs) f)) (yes_it (same-number x.client k e) f)

mine-picked : (k : ℕ) (xs : List Channel) → Each (IsMine k) (picked k xs)
mine-picked k [] = tt
mine-picked k (x ∷ xs) = let ih = mine-picked k xs in one-picked k x xs (Each (IsMine k)) (λ e h. (e, ih)) ih

far-of : (k : ℕ) (x y : Channel) → x.client ≡ k → is_channel_held x ≡ true → y.client ≡ k → is_channel_held y ≡ true → ApartFrom x y → Far x y
far-of k x y mine held its also apart =
    let same : (x.client == y.client) ≡ true = subst (λ (j : ℕ). (x.client == j) ≡ true) (mine ∙ sym its) (self x.client) in
    record { numbers = apart.numbers held also; remotes = apart.remotes held also; owns = apart.owns held also same }

fars-picked : (k : ℕ) (x : Channel) → x.client ≡ k → is_channel_held x ≡ true → (ys : List Channel) → finds.Each (ApartFrom x) ys → Each (Far x) (picked k ys)
fars-picked k x mine held [] all = tt
fars-picked k x mine held (y ∷ ys) all =
    let ih = fars-picked k x mine held ys all.1 in
    one-picked k y ys (Each (Far x)) (λ e h. (far-of k x y mine held e h all.0, ih)) ih

far-picked : (k : ℕ) (xs : List Channel) → AllApart xs → AllFar (picked k xs)
far-picked k [] apart = tt
far-picked k (x ∷ xs) apart =
    let ih = far-picked k xs apart.1 in
    one-picked k x xs AllFar (λ e h. (fars-picked k x e h xs apart.0, ih)) ih

-- the channels of a client's rows
pub mine-held : (k : ℕ) (rows : List Row) → Each (IsMine k) (held_of (rows_of k rows))
mine-held k rows = subst (λ (xs : List Channel). Each (IsMine k) (filter is_channel_held xs)) (channels-local k rows) (mine-picked k (channels_of rows))

pub good-own : (k : ℕ) (rows : List Row) → AreApart (channels_of rows) → Good (held_of (rows_of k rows))
good-own k rows apart = record {
  held = held-held (rows_of k rows);
  far = subst (λ (xs : List Channel). AllFar (filter is_channel_held xs)) (channels-local k rows) (far-picked k (channels_of rows) apart.apart);
}

abbrev pub OwnGood : List Row → Type 0
OwnGood rows = (k : ℕ) → 0 < k → Good (held_of (rows_of k rows)) × Each (IsMine k) (held_of (rows_of k rows))

at-each : (policy : Policy) (pid : ℕ) (rows : List Row) → ForEach (RowKnown policy pid) rows → AreApart (channels_of rows) → AtEach OwnGood rows
at-each policy pid [] each good = λ k real. (good-own k [] good, mine-held k [])
at-each policy pid (row ∷ before) each good = ((λ k real. (good-own k (row ∷ before) good, mine-held k (row ∷ before))), at-each policy pid before each.1 each.0.good)

-- at every row of a right log
pub good-held : (policy : Policy) (pid : ℕ) (picks : List ℕ) (given : List HouseReply) (marks : List Mark) → IsLawful marks → AreFresh (log_of_journal (by_lists policy pid picks given) marks)
    → AtEach (λ rows. (k : ℕ) → 0 < k → Good (held_of (rows_of k rows)) × Each (IsMine k) (held_of (rows_of k rows))) (log_of_journal (by_lists policy pid picks given) marks)
good-held policy pid picks given marks lawful fresh =
    let rows = log_of_journal (by_lists policy pid picks given) marks in
    let known : LogKnown policy pid rows = right-known policy pid picks given marks 0 rows lawful ((logs-right policy pid picks given marks).whole fresh) in
    at-each policy pid rows known.each known.good
