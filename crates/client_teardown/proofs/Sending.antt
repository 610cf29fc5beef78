-- Payloads that are queued one after another.
use Rattle.std.proofs.Common.{◌≡◌, ℕ, List, [], ◌∷◌, ◌++◌, map, refl, ◌∙◌, ap, sym, append_assoc}
use Rattle.std.proofs.lemmas.List.{append-nil}
use Rattle.ssh_grammar.specs.Frames.{frame_payload}
use Rattle.proxy_frames.specs.State.{QueueState}
use Rattle.proxy_frames.specs.Queued.{with_reserved}
use Rattle.mux_history.specs.Pending.{joined}
use Rattle.client_teardown.specs.Leaving.{SendsFarewell}

-- their frames, one after another
abbrev pub frames : List (List ℕ) → List ℕ
frames ps = joined (map frame_payload ps)

frames-append : (ps qs : List (List ℕ)) → frames (ps ++ qs) ≡ frames ps ++ frames qs
frames-append [] qs = refl
frames-append (p ∷ ps) qs = ap (λ ys. frame_payload p ++ ys) (frames-append ps qs) ∙ sym (append_assoc (frame_payload p) (frames ps) (frames qs))

-- some were queued, and others are to follow
pub sends-then : (ps qs : List (List ℕ)) (u v : QueueState) → SendsFarewell ps u v → v.waiting ++ frames qs ≡ u.waiting ++ frames (ps ++ qs)
sends-then ps qs u v h = ap (λ ys. ys ++ frames qs) h ∙ (append_assoc u.waiting (frames ps) (frames qs) ∙ ap (λ ys. u.waiting ++ ys) (sym (frames-append ps qs)))

pub sends-more : (ps qs : List (List ℕ)) (u v w : QueueState) → SendsFarewell ps u v → SendsFarewell qs v w → SendsFarewell (ps ++ qs) u w
sends-more ps qs u v w h g = g ∙ sends-then ps qs u v h

pub sends-one : (p : List ℕ) (u v : QueueState) → v ≡ with_reserved p u → SendsFarewell (p ∷ []) u v
sends-one p u v h = ap (λ (q : QueueState). q.waiting) h ∙ ap (λ ys. u.waiting ++ ys) (sym (append-nil (frame_payload p)))

pub sends-none : (u : QueueState) → SendsFarewell [] u u
sends-none u = sym (append-nil u.waiting)

-- none are to follow
pub sends-all : (qs : List (List ℕ)) (u v : QueueState) → v.waiting ++ frames [] ≡ u.waiting ++ frames qs → SendsFarewell qs u v
sends-all qs u v h = sym (append-nil v.waiting) ∙ h
