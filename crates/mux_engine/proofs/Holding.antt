-- Streams that stay blocked where one more is, and streams of clients, which are none of the master's
-- own.
use Rattle.std.proofs.Common.{◌≡◌, ℕ, Bool, true, false, ◌||◌, List, [], ◌∷◌, ◌++◌, refl, ap, ◌∙◌}
use Rattle.std.specs.Prelude.{◌==◌, ◌&&◌}
use Rattle.mux_outside.specs.OwnStreams.{is_finished, is_one}
use Rattle.mux_outside.specs.Streams.{among}
use Rattle.mux_outside.specs.declared.own_streams.OwnStream.{OwnStream}
use Rattle.mux_engine.proofs.Lists.{among-last, true-false}

pub held-more : (k t : ℕ) (xs : List ℕ) → among t xs ≡ true → among t (xs ++ k ∷ []) ≡ true
held-more k t xs a = among-last k t xs ∙ ap (λ b. b || ((k == t) || false)) a

-- ---- a stream that is none of these is not finished

pub none-finished : (t : ℕ) (own : List OwnStream) → is_one t own ≡ false → is_finished t own ≡ false
none-finished t [] e = refl
none-finished t (s ∷ own) e = by_head (s.number == t) s.finished e (none-finished t own)
  where
    by_head : (b c : Bool) → (b || is_one t own) ≡ false → (is_one t own ≡ false → is_finished t own ≡ false) → ((b && c) || is_finished t own) ≡ false
    by_head true c h ih = true-false h
    by_head false c h ih = ih h
