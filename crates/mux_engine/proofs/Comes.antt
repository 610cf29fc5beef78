-- What comes at a wire: its counts over calls, and their state after a run's end.
use Rattle.std.proofs.Common.{◌≡◌, ◌≤◌, ◌⊎◌, ℕ, Bool, true, false, Option, Some, None, refl, sym, ◌∙◌, subst, inl, inr, arith}
use Rattle.mux_outside.specs.Counts.{Rose, counted}
use Rattle.mux_outside.specs.CallCounts.{CallCounts, calls_after_one, calls_after_wait, counted_if, is_accept, is_client_piece, is_server_end, is_server_piece}
use Rattle.mux_outside.specs.declared.turn.Turn.{Turn}
use Rattle.mux_history.specs.declared.broke.Break.{Break}
use Rattle.mux_history.specs.declared.broke.Break.TheVariants as broke
use Rattle.mux_history.specs.declared.ended.Ended.{Ended}
use Rattle.mux_history.specs.declared.ended.Ended.TheVariants as ended
use Rattle.mux_history.specs.declared.limits.TheConstants.{HOUSE}
use Rattle.mux_engine.specs.Came.{BrokenBy, Came, EndsFor, NeverFell, OverBy, WentUp}
use Rattle.mux_engine.specs.Rests.{ended_as}

-- ---- a count

fell-never : (n : ℕ) → NeverFell n n
fell-never n = omega arith

fell-then : (a b c : ℕ) → NeverFell a b → NeverFell b c → NeverFell a c
fell-then a b c f g = omega arith

counted-later : (n : ℕ) → NeverFell n (counted n)
counted-later n = omega arith

fell-if : (b : Bool) (n : ℕ) → NeverFell n (counted_if b n)
fell-if true n = counted-later n
fell-if false n = fell-never n

up-stays : (a b c : ℕ) → WentUp a b → NeverFell b c → WentUp a c
up-stays a b c f g = omega arith

up-later : (a b c : ℕ) → NeverFell a b → WentUp b c → WentUp a c
up-later a b c f g = omega arith

-- one that was counted
pub up-if : (b : Bool) (n : ℕ) → b ≡ true → WentUp n (counted_if b n)
up-if true n e = omega arith
up-if false n e = absurd (cc)

-- ---- all counts

pub came-none : (c : CallCounts) → Came c c
came-none c = record {
  opens = refl;
  accepts = fell-never c.accepts;
  server_pieces = fell-never c.server_pieces;
  client_pieces = fell-never c.client_pieces;
  server_ends = fell-never c.server_ends;
}

pub came-one : (b : Bool) (c : CallCounts) → Came c (calls_after_one b c)
came-one b c = record {
  opens = refl;
  accepts = fell-never c.accepts;
  server_pieces = fell-never c.server_pieces;
  client_pieces = fell-never c.client_pieces;
  server_ends = fell-never c.server_ends;
}

pub came-wait : (t : Turn) (c : CallCounts) → Came c (calls_after_wait t c)
came-wait t c = record {
  opens = refl;
  accepts = fell-if (is_accept t) c.accepts;
  server_pieces = fell-if (is_server_piece t) c.server_pieces;
  client_pieces = fell-if (is_client_piece t) c.client_pieces;
  server_ends = fell-if (is_server_end t) c.server_ends;
}

pub came-then : (a b c : CallCounts) → Came a b → Came b c → Came a c
came-then a b c f g = record {
  opens = g.opens ∙ f.opens;
  accepts = fell-then a.accepts b.accepts c.accepts f.accepts g.accepts;
  server_pieces = fell-then a.server_pieces b.server_pieces c.server_pieces f.server_pieces g.server_pieces;
  client_pieces = fell-then a.client_pieces b.client_pieces c.client_pieces f.client_pieces g.client_pieces;
  server_ends = fell-then a.server_ends b.server_ends c.server_ends f.server_ends g.server_ends;
}

pub came-same : (a b : CallCounts) → b ≡ a → Came a b
came-same a b e = subst (Came a) (sym e) (came-none a)

-- ---- the end of a run

-- what came by then came by later, too
broken-stays : (why : Break) (a b c : CallCounts) → BrokenBy why a b → Came b c → BrokenBy why a c
broken-stays (broke.Cut have) a b c f g = up-stays a.server_ends b.server_ends c.server_ends f g.server_ends
broken-stays (broke.Frame fault) a b c f g = up-stays a.server_pieces b.server_pieces c.server_pieces f g.server_pieces
broken-stays (broke.Message bad) a b c f g = up-stays a.server_pieces b.server_pieces c.server_pieces f g.server_pieces
broken-stays broke.NoAsker a b c f g = up-stays a.server_pieces b.server_pieces c.server_pieces f g.server_pieces
broken-stays (broke.BadReply size) a b c f g = up-stays a.server_pieces b.server_pieces c.server_pieces f g.server_pieces
broken-stays (broke.NumberInUse n) a b c f g = up-stays a.server_pieces b.server_pieces c.server_pieces f g.server_pieces
broken-stays (broke.NotPending n) a b c f g = up-stays a.server_pieces b.server_pieces c.server_pieces f g.server_pieces
broken-stays (broke.NoChannel n) a b c f g = up-stays a.server_pieces b.server_pieces c.server_pieces f g.server_pieces
broken-stays (broke.Channel n breach) a b c f g = up-stays a.server_pieces b.server_pieces c.server_pieces f g.server_pieces

ended-stays : (p : Bool) (cause : Ended) (a b c : CallCounts) → OverBy p (Some cause) a b → Came b c → OverBy p (Some cause) a c
ended-stays p ended.ServerEnd a b c f g = up-stays a.server_ends b.server_ends c.server_ends f g.server_ends
ended-stays p ended.Disconnected a b c f g = up-stays a.server_pieces b.server_pieces c.server_pieces f g.server_pieces
ended-stays p (ended.Broke index why) a b c f g = broken-stays why a b c f g
ended-stays p (ended.Terminated client id) a b c f g = λ other. up-stays a.client_pieces b.client_pieces c.client_pieces (f other) g.client_pieces
ended-stays p ended.ServerFailed a b c f g = tt
ended-stays p (ended.StartRefused index) a b c f g = tt
ended-stays p ended.Spent a b c f g = tt
ended-stays p ended.OutOfMemory a b c f g = tt

pub over-stays : (p : Bool) (o : Option Ended) (a b c : CallCounts) → OverBy p o a b → Came b c → OverBy p o a c
over-stays p None a b c f g = tt
over-stays p (Some cause) a b c f g = ended-stays p cause a b c f g

-- and what came since later came since before
broken-later : (why : Break) (a b c : CallCounts) → Came a b → BrokenBy why b c → BrokenBy why a c
broken-later (broke.Cut have) a b c f g = up-later a.server_ends b.server_ends c.server_ends f.server_ends g
broken-later (broke.Frame fault) a b c f g = up-later a.server_pieces b.server_pieces c.server_pieces f.server_pieces g
broken-later (broke.Message bad) a b c f g = up-later a.server_pieces b.server_pieces c.server_pieces f.server_pieces g
broken-later broke.NoAsker a b c f g = up-later a.server_pieces b.server_pieces c.server_pieces f.server_pieces g
broken-later (broke.BadReply size) a b c f g = up-later a.server_pieces b.server_pieces c.server_pieces f.server_pieces g
broken-later (broke.NumberInUse n) a b c f g = up-later a.server_pieces b.server_pieces c.server_pieces f.server_pieces g
broken-later (broke.NotPending n) a b c f g = up-later a.server_pieces b.server_pieces c.server_pieces f.server_pieces g
broken-later (broke.NoChannel n) a b c f g = up-later a.server_pieces b.server_pieces c.server_pieces f.server_pieces g
broken-later (broke.Channel n breach) a b c f g = up-later a.server_pieces b.server_pieces c.server_pieces f.server_pieces g

ended-later : (p : Bool) (cause : Ended) (a b c : CallCounts) → Came a b → OverBy p (Some cause) b c → OverBy p (Some cause) a c
ended-later p ended.ServerEnd a b c f g = up-later a.server_ends b.server_ends c.server_ends f.server_ends g
ended-later p ended.Disconnected a b c f g = up-later a.server_pieces b.server_pieces c.server_pieces f.server_pieces g
ended-later p (ended.Broke index why) a b c f g = broken-later why a b c f g
ended-later p (ended.Terminated client id) a b c f g = λ other. up-later a.client_pieces b.client_pieces c.client_pieces f.client_pieces (g other)
ended-later p ended.ServerFailed a b c f g = tt
ended-later p (ended.StartRefused index) a b c f g = tt
ended-later p ended.Spent a b c f g = tt
ended-later p ended.OutOfMemory a b c f g = tt

pub over-later : (p : Bool) (o : Option Ended) (a b c : CallCounts) → Came a b → OverBy p o b c → OverBy p o a c
over-later p None a b c f g = tt
over-later p (Some cause) a b c f g = ended-later p cause a b c f g

-- where neither changed
pub over-same : (p : Bool) (old new : Option Ended) (a b c : CallCounts) → new ≡ old → c ≡ b → OverBy p old a b → OverBy p new a c
over-same p old new a b c e f over = subst (λ (o : Option Ended). OverBy p o a c) (sym e) (subst (OverBy p old a) (sym f) over)

-- one that goes on
pub over-live : (p : Bool) (o : Option Ended) (a b : CallCounts) → o ≡ None → OverBy p o a b
over-live p o a b e = subst (λ (x : Option Ended). OverBy p x a b) (sym e) tt

-- one that ended by what the forwarder sent
pub over-house : (p : Bool) (o : Option Ended) (a b : CallCounts) → p ≡ true → EndsFor HOUSE o → OverBy p o a b
over-house p None a b there h = tt
over-house p (Some (ended.Terminated client id)) a b there h = λ other. absurd (other there h)
over-house p (Some ended.ServerEnd) a b there h = absurd h
over-house p (Some ended.Disconnected) a b there h = absurd h
over-house p (Some ended.ServerFailed) a b there h = absurd h
over-house p (Some (ended.Broke index why)) a b there h = absurd h
over-house p (Some (ended.StartRefused index)) a b there h = absurd h
over-house p (Some ended.Spent) a b there h = absurd h
over-house p (Some ended.OutOfMemory) a b there h = absurd h

-- `StaysOrFails` by the counts of the server's faults
abbrev pub StaysBy : Option Ended → Option Ended → ℕ → ℕ → Type 0
StaysBy old new m n = ((new ≡ old) × (m ≤ n)) ⊎ ((new ≡ Some ended.ServerFailed) × Rose m n)

-- one whose streams were offered what waits
pub over-offered : (p : Bool) (old new : Option Ended) (m n : ℕ) (a b c : CallCounts) → StaysBy old new m n → OverBy p old a b → Came b c → OverBy p new a c
over-offered p old new m n a b c (inl s) over came = subst (λ (x : Option Ended). OverBy p x a c) (sym s.0) (over-stays p old a b c over came)
over-offered p old new m n a b c (inr f) over came = subst (λ (x : Option Ended). OverBy p x a c) (sym f.0) tt

-- of the same forwarder
pub over-present : (p q : Bool) (o : Option Ended) (a b : CallCounts) → p ≡ q → OverBy p o a b → OverBy q o a b
over-present p q o a b e over = subst (λ (x : Bool). OverBy x o a b) e over

-- why it ended
pub over-answer : (p : Bool) (answer : Ended) (o : Option Ended) (refused : Option ℕ) (a b : CallCounts) → answer ≡ ended_as o refused → OverBy p o a b → OverBy p (Some answer) a b
over-answer p answer o refused a b is over = subst (λ (x : Ended). OverBy p (Some x) a b) (sym is) (by_end o refused over)
  where
    by_end : (o : Option Ended) (refused : Option ℕ) → OverBy p o a b → OverBy p (Some (ended_as o refused)) a b
    by_end (Some cause) refused over = over
    by_end None (Some index) over = tt
    by_end None None over = tt
