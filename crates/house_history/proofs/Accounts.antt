-- What the forwarder sends in a channel that is confirmed is no breach, and its account goes on.
use Rattle.std.proofs.Common.{◌≡◌, ◌≤◌, ◌+◌, ◌-◌, ℕ, Bool, true, false, Option, Some, None, ◌∷◌, refl, sym, ap, ◌∙◌, subst, arith}
use Rattle.std.specs.Prelude.{◌==◌, nat_lt}
use Rattle.std.proofs.lemmas.Bool.Decides.{nat_tests}
use Rattle.ssh_grammar.specs.declared.side.Side.{Side}
use Rattle.ssh_grammar.specs.declared.side.Side.TheVariants.{Up, Down}
use Rattle.ssh_grammar.specs.declared.fault.Breach.{Breach}
use Rattle.ssh_grammar.specs.declared.fault.Breach.TheVariants.{AfterClose, NotOpen, Overflow, TooManyAsks}
use Rattle.mux_history.specs.Channels.{Channel, any_by, is_closes, is_confirmed, is_confirms}
use Rattle.mux_history.specs.Summary.{Act, Answers, Asks, Carries, Closes, Confirms, Ends, Fails, Grants}
use Rattle.mux_history.specs.Laws.{IsWithin, with_act}
use Rattle.mux_history.specs.Ledger.{act_breach, breach, carried, granted_size, initial, maximum_of, packet_breach, room, sum_of, unanswered, first_window, packet}
use Rattle.mux_history.proofs.Accounts.{rooms-go-on}
use Rattle.mux_history.proofs.RoomActs.{accounted-act, may-of}
use Rattle.house_history.proofs.Views.{Acct, IsAccount, MaySend, says, receives, more_asks}

-- ---- no breach

packet-fits : (maximum have n : ℕ) → n ≤ maximum → n ≤ have → packet_breach maximum have n ≡ None
packet-fits maximum have n small fits = grind (arith, nat_tests)

-- the room that the server has is within the first window
room-down : (x : Channel) (n : ℕ) → initial Down x ≡ 2097152 → IsWithin Down x → sum_of granted_size Up x.acts + n ≤ sum_of carried Down x.acts → room Down x + n ≤ 2097152
room-down x n window within le = by_side x.by window within
  where
    by_side : (side : Side) → initial Down (record x { by = side }) ≡ 2097152 → IsWithin Down (record x { by = side }) → room Down (record x { by = side }) + n ≤ 2097152
    by_side Up window within = omega arith
    by_side Down window within = omega arith

no-act-breach : (act : Act) (x : Channel) (a : Acct) → IsAccount x a → MaySend act a → act_breach Up act x ≡ None
no-act-breach (Carries n) x a is may = rw (is.eof ∙ may.1, act_breach) (packet-fits (maximum_of Up x) (room Up x) n (subst (λ (m : ℕ). n ≤ m) (sym is.maximum) may.3) (subst (λ (m : ℕ). n ≤ m) (sym is.room_is) may.2))
no-act-breach Ends x a is may = rw (is.eof ∙ may.1, act_breach) refl
no-act-breach Closes x a is may = refl
no-act-breach (Grants n) x a is may =
    let fits : room Down x + n ≤ 2097152 = room-down x n is.window (is.accounted Down).within (let g = is.given in let c = is.came in let m = may.1 in omega (arith, g, c, m)) in
    let less : nat_lt 4294967295 (room Down x + n) ≡ false = grind (arith, nat_tests) in
    rw (less, act_breach) refl
no-act-breach Answers x a is may =
    let some : (unanswered Down x == 0) ≡ false = let e = is.asks may.0 in let m = may.1 in grind (arith, nat_tests) in
    rw (some, act_breach) refl
no-act-breach (Confirms w m) x a is may = absurd may
no-act-breach Fails x a is may = absurd may
no-act-breach (Asks wants) x a is may = absurd may

may-closed : (act : Act) (a : Acct) → MaySend act a → a.close_sent ≡ false
may-closed (Carries n) a may = may.0
may-closed Ends a may = may.0
may-closed Closes a may = may
may-closed (Grants n) a may = may.0
may-closed Answers a may = may.0
may-closed (Confirms w m) a may = absurd may
may-closed Fails a may = absurd may
may-closed (Asks wants) a may = absurd may

pub no-breach : (act : Act) (x : Channel) (a : Acct) → IsAccount x a → MaySend act a → breach Up act x ≡ None
no-breach act x a is may = rw (is.confirmed, is.closed ∙ may-closed act a may, breach) (no-act-breach act x a is may)

-- ---- what stays

-- a side grants, carries and confirms nothing by this
pub record IsPlain (act : Act) : Type 0 where
  pub grants : granted_size act ≡ 0
  pub carries : carried act ≡ 0
  pub opens : first_window act ≡ 0
  pub packs : packet act ≡ 0

room-plain : (way : Side) (act : Act) (x : Channel) → IsPlain act → room Up (with_act way act x) ≡ room Up x
room-plain Up act x p = by_side x.by
  where
    by_side : (side : Side) → room Up (record x { by = side; acts = (Up, act) ∷ x.acts }) ≡ room Up (record x { by = side })
    by_side Up = let c = p.carries in omega (arith, c)
    by_side Down = let c = p.carries in omega (arith, c)
room-plain Down act x p = by_side x.by
  where
    by_side : (side : Side) → room Up (record x { by = side; acts = (Down, act) ∷ x.acts }) ≡ room Up (record x { by = side })
    by_side Up = let g = p.grants in let o = p.opens in omega (arith, g, o)
    by_side Down = let g = p.grants in omega (arith, g)

maximum-same : (way : Side) (act : Act) (x : Channel) → packet act ≡ 0 → maximum_of Up (with_act way act x) ≡ maximum_of Up x
maximum-same Up act x p = by_side x.by
  where
    by_side : (side : Side) → maximum_of Up (record x { by = side; acts = (Up, act) ∷ x.acts }) ≡ maximum_of Up (record x { by = side })
    by_side Up = refl
    by_side Down = refl
maximum-same Down act x p = by_side x.by
  where
    by_side : (side : Side) → maximum_of Up (record x { by = side; acts = (Down, act) ∷ x.acts }) ≡ maximum_of Up (record x { by = side })
    by_side Up = omega (arith, p)
    by_side Down = refl

window-same : (way : Side) (act : Act) (x : Channel) → first_window act ≡ 0 → initial Down (with_act way act x) ≡ initial Down x
window-same Up act x p = by_side x.by
  where
    by_side : (side : Side) → initial Down (record x { by = side; acts = (Up, act) ∷ x.acts }) ≡ initial Down (record x { by = side })
    by_side Up = refl
    by_side Down = omega (arith, p)
window-same Down act x p = by_side x.by
  where
    by_side : (side : Side) → initial Down (record x { by = side; acts = (Down, act) ∷ x.acts }) ≡ initial Down (record x { by = side })
    by_side Up = refl
    by_side Down = refl

-- ---- what is sent

pub says-account : (act : Act) (x : Channel) (a : Acct) → IsAccount x a → MaySend act a → IsAccount (with_act Up act x) (says act a)
says-account (Carries n) x a is may = record {
  remote = is.remote;
  confirmed = is.confirmed;
  room_is = (rooms-go-on Up n x).carries ∙ ap (λ (r : ℕ). r - n) is.room_is;
  small = let s = is.small in omega (arith, s);
  maximum = maximum-same Up (Carries n) x refl ∙ is.maximum;
  eof = is.eof;
  closed = is.closed;
  heard = is.heard;
  asks = λ h. let e = is.asks h in omega (arith, e);
  few = is.few;
  window = window-same Up (Carries n) x refl ∙ is.window;
  given = let g = is.given in omega (arith, g);
  came = is.came;
  accounted = accounted-act Up (Carries n) x (may-of Up (Carries n) x (no-breach (Carries n) x a is may)) is.accounted;
}
says-account Ends x a is may = record {
  remote = is.remote;
  confirmed = is.confirmed;
  room_is = room-plain Up Ends x (record { grants = refl; carries = refl; opens = refl; packs = refl }) ∙ is.room_is;
  small = is.small;
  maximum = maximum-same Up Ends x refl ∙ is.maximum;
  eof = refl;
  closed = is.closed;
  heard = is.heard;
  asks = λ h. let e = is.asks h in omega (arith, e);
  few = is.few;
  window = window-same Up Ends x refl ∙ is.window;
  given = let g = is.given in omega (arith, g);
  came = is.came;
  accounted = accounted-act Up Ends x tt is.accounted;
}
says-account Closes x a is may = record {
  remote = is.remote;
  confirmed = is.confirmed;
  room_is = room-plain Up Closes x (record { grants = refl; carries = refl; opens = refl; packs = refl }) ∙ is.room_is;
  small = is.small;
  maximum = maximum-same Up Closes x refl ∙ is.maximum;
  eof = is.eof;
  closed = refl;
  heard = is.heard;
  asks = λ h. absurd (let bad : true ≡ false = h in cc);
  few = λ h. absurd (let bad : true ≡ false = h in cc);
  window = window-same Up Closes x refl ∙ is.window;
  given = let g = is.given in omega (arith, g);
  came = is.came;
  accounted = accounted-act Up Closes x tt is.accounted;
}
says-account (Grants n) x a is may = record {
  remote = is.remote;
  confirmed = is.confirmed;
  room_is = (rooms-go-on Up n x).keeps ∙ is.room_is;
  small = is.small;
  maximum = maximum-same Up (Grants n) x refl ∙ is.maximum;
  eof = is.eof;
  closed = is.closed;
  heard = is.heard;
  asks = λ h. let e = is.asks h in omega (arith, e);
  few = is.few;
  window = window-same Up (Grants n) x refl ∙ is.window;
  given = let g = is.given in omega (arith, g);
  came = is.came;
  accounted = accounted-act Up (Grants n) x tt is.accounted;
}
says-account Answers x a is may = record {
  remote = is.remote;
  confirmed = is.confirmed;
  room_is = room-plain Up Answers x (record { grants = refl; carries = refl; opens = refl; packs = refl }) ∙ is.room_is;
  small = is.small;
  maximum = maximum-same Up Answers x refl ∙ is.maximum;
  eof = is.eof;
  closed = is.closed;
  heard = is.heard;
  asks = λ h. let e = is.asks h in omega (arith, e);
  few = λ h. let f = is.few h in omega (arith, f);
  window = window-same Up Answers x refl ∙ is.window;
  given = let g = is.given in omega (arith, g);
  came = is.came;
  accounted = accounted-act Up Answers x (may-of Up Answers x (no-breach Answers x a is may)) is.accounted;
}
says-account (Confirms w m) x a is may = absurd may
says-account Fails x a is may = absurd may
says-account (Asks wants) x a is may = absurd may

-- ---- what is received

-- what a message that is no breach shows
pub record IsLegal (act : Act) (x : Channel) : Type 0 where
  pub fine : breach Down act x ≡ None
  pub unclosed : any_by Down is_closes x.acts ≡ false
  pub within : act_breach Down act x ≡ None

pub legal-of : (act : Act) (x : Channel) → breach Down act x ≡ None → IsLegal act x
legal-of act x fine = by_case (is_confirmed x) refl (any_by Down is_closes x.acts) refl
  where
    by_case : (b : Bool) → is_confirmed x ≡ b → (c : Bool) → any_by Down is_closes x.acts ≡ c → IsLegal act x
    by_case false e c f = absurd (let bad : breach Down act x ≡ Some NotOpen = rw (e, breach) refl in let no = sym bad ∙ fine in cc)
    by_case true e true f = absurd (let bad : breach Down act x ≡ Some AfterClose = rw (e, f, breach) refl in let no = sym bad ∙ fine in cc)
    by_case true e false f = record { fine = fine; unclosed = f; within = (let is : breach Down act x ≡ act_breach Down act x = rw (e, f, breach) refl in sym is ∙ fine) }

room-small : (x : Channel) (n : ℕ) → act_breach Down (Grants n) x ≡ None → room Up x + n ≤ 4294967295
room-small x n e = by_case (nat_lt 4294967295 (room Up x + n)) refl e
  where
    by_case : (b : Bool) → nat_lt 4294967295 (room Up x + n) ≡ b → (elim b as (λ _. Option Breach) [ true ↦ Some (Overflow (room Up x) n) | false ↦ None ]) ≡ None → room Up x + n ≤ 4294967295
    by_case true h e = cc
    by_case false h e = grind (arith, nat_tests)

asks-few : (x : Channel) → act_breach Down (Asks true) x ≡ None → unanswered Down x + 1 ≤ 1024
asks-few x e = by_case (nat_lt (unanswered Down x) 1024) refl e
  where
    by_case : (b : Bool) → nat_lt (unanswered Down x) 1024 ≡ b → (elim b as (λ _. Option Breach) [ true ↦ None | false ↦ Some (TooManyAsks (unanswered Down x)) ]) ≡ None → unanswered Down x + 1 ≤ 1024
    by_case true h e = grind (arith, nat_tests)
    by_case false h e = cc

pub receives-account : (act : Act) (x : Channel) (a : Acct) → IsAccount x a → is_confirms act ≡ false → breach Down act x ≡ None → IsAccount (with_act Down act x) (receives act a)
receives-account (Carries n) x a is plain fine = record {
  remote = is.remote;
  confirmed = is.confirmed;
  room_is = (rooms-go-on Down n x).leaves ∙ is.room_is;
  small = is.small;
  maximum = maximum-same Down (Carries n) x refl ∙ is.maximum;
  eof = is.eof;
  closed = is.closed;
  heard = is.heard;
  asks = λ h. let e = is.asks h in omega (arith, e);
  few = is.few;
  window = window-same Down (Carries n) x refl ∙ is.window;
  given = is.given;
  came = let c = is.came in omega (arith, c);
  accounted = accounted-act Down (Carries n) x (may-of Down (Carries n) x fine) is.accounted;
}
receives-account (Grants n) x a is plain fine = record {
  remote = is.remote;
  confirmed = is.confirmed;
  room_is = (rooms-go-on Down n x).grants (is.accounted Up).within ∙ ap (λ (r : ℕ). r + n) is.room_is;
  small = subst (λ (r : ℕ). r + n ≤ 4294967295) is.room_is (room-small x n (legal-of (Grants n) x fine).within);
  maximum = maximum-same Down (Grants n) x refl ∙ is.maximum;
  eof = is.eof;
  closed = is.closed;
  heard = is.heard;
  asks = λ h. let e = is.asks h in omega (arith, e);
  few = is.few;
  window = window-same Down (Grants n) x refl ∙ is.window;
  given = is.given;
  came = let c = is.came in omega (arith, c);
  accounted = accounted-act Down (Grants n) x tt is.accounted;
}
receives-account Ends x a is plain fine = record {
  remote = is.remote;
  confirmed = is.confirmed;
  room_is = room-plain Down Ends x (record { grants = refl; carries = refl; opens = refl; packs = refl }) ∙ is.room_is;
  small = is.small;
  maximum = maximum-same Down Ends x refl ∙ is.maximum;
  eof = is.eof;
  closed = is.closed;
  heard = is.heard;
  asks = λ h. let e = is.asks h in omega (arith, e);
  few = is.few;
  window = window-same Down Ends x refl ∙ is.window;
  given = is.given;
  came = let c = is.came in omega (arith, c);
  accounted = accounted-act Down Ends x tt is.accounted;
}
receives-account Closes x a is plain fine = record {
  remote = is.remote;
  confirmed = is.confirmed;
  room_is = room-plain Down Closes x (record { grants = refl; carries = refl; opens = refl; packs = refl }) ∙ is.room_is;
  small = is.small;
  maximum = maximum-same Down Closes x refl ∙ is.maximum;
  eof = is.eof;
  closed = is.closed;
  heard = refl;
  asks = λ h. let e = is.asks h in omega (arith, e);
  few = is.few;
  window = window-same Down Closes x refl ∙ is.window;
  given = is.given;
  came = let c = is.came in omega (arith, c);
  accounted = accounted-act Down Closes x tt is.accounted;
}
receives-account (Asks true) x a is plain fine = record {
  remote = is.remote;
  confirmed = is.confirmed;
  room_is = room-plain Down (Asks true) x (record { grants = refl; carries = refl; opens = refl; packs = refl }) ∙ is.room_is;
  small = is.small;
  maximum = maximum-same Down (Asks true) x refl ∙ is.maximum;
  eof = is.eof;
  closed = is.closed;
  heard = is.heard;
  asks = λ h. let e = is.asks h in let f : more_asks true a.close_sent a.failures ≡ a.failures + 1 = rw h refl in let some = (is.accounted Down).answered in omega (arith, e, f, some);
  few = λ h. let e = is.asks h in let f : more_asks true a.close_sent a.failures ≡ a.failures + 1 = rw h refl in let le = asks-few x (legal-of (Asks true) x fine).within in omega (arith, e, f, le);
  window = window-same Down (Asks true) x refl ∙ is.window;
  given = is.given;
  came = let c = is.came in omega (arith, c);
  accounted = accounted-act Down (Asks true) x tt is.accounted;
}
receives-account (Asks false) x a is plain fine = record {
  remote = is.remote;
  confirmed = is.confirmed;
  room_is = room-plain Down (Asks false) x (record { grants = refl; carries = refl; opens = refl; packs = refl }) ∙ is.room_is;
  small = is.small;
  maximum = maximum-same Down (Asks false) x refl ∙ is.maximum;
  eof = is.eof;
  closed = is.closed;
  heard = is.heard;
  asks = λ h. let e = is.asks h in omega (arith, e);
  few = is.few;
  window = window-same Down (Asks false) x refl ∙ is.window;
  given = is.given;
  came = let c = is.came in omega (arith, c);
  accounted = accounted-act Down (Asks false) x tt is.accounted;
}
receives-account Answers x a is plain fine = record {
  remote = is.remote;
  confirmed = is.confirmed;
  room_is = room-plain Down Answers x (record { grants = refl; carries = refl; opens = refl; packs = refl }) ∙ is.room_is;
  small = is.small;
  maximum = maximum-same Down Answers x refl ∙ is.maximum;
  eof = is.eof;
  closed = is.closed;
  heard = is.heard;
  asks = λ h. let e = is.asks h in omega (arith, e);
  few = is.few;
  window = window-same Down Answers x refl ∙ is.window;
  given = is.given;
  came = let c = is.came in omega (arith, c);
  accounted = accounted-act Down Answers x (may-of Down Answers x fine) is.accounted;
}
receives-account Fails x a is plain fine = record {
  remote = is.remote;
  confirmed = is.confirmed;
  room_is = room-plain Down Fails x (record { grants = refl; carries = refl; opens = refl; packs = refl }) ∙ is.room_is;
  small = is.small;
  maximum = maximum-same Down Fails x refl ∙ is.maximum;
  eof = is.eof;
  closed = is.closed;
  heard = is.heard;
  asks = λ h. let e = is.asks h in omega (arith, e);
  few = is.few;
  window = window-same Down Fails x refl ∙ is.window;
  given = is.given;
  came = let c = is.came in omega (arith, c);
  accounted = accounted-act Down Fails x tt is.accounted;
}
receives-account (Confirms w m) x a is plain fine = absurd (let bad : true ≡ false = plain in cc)
