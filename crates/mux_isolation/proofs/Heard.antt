-- What the server sends in a client's channel, here and alone.
use Rattle.std.proofs.Common.{◌≡◌, ℕ, ◌<◌, List, refl, ◌∙◌, ap, sym, Option, Some, None, subst, Ok, Err}
use Rattle.std.specs.Prelude.{Result}
use Rattle.mux_history.specs.Channels.{Channel, channel_after_item, holder, with_down}
use Rattle.mux_history.specs.Summary.{Confirmation, Summary, Open, Refuses, Requests, Succeeds, Transport, Within, read_summary, reading, summary_recipient_of}
use Rattle.mux_history.specs.Heard.{own_number, renamed}
use Rattle.mux_history.specs.Rows.{Heard, Row}
use Rattle.mux_history.specs.Solo.{item_for}
use Rattle.ssh_grammar.specs.SpellMessage.{wants_reply, with_recipient}
use Rattle.ssh_grammar.specs.declared.fault.Bad.{Bad}
use Rattle.mux_history.proofs.Readings.{reading-err, reading-ok}
use Rattle.mux_history.proofs.Renumbered.{read-renamed, readdressed}
use Rattle.mux_isolation.proofs.Meets.{Meets, confirmation-alone, own_numbered, within-alone}

-- a recipient names the same channel by the client's own number
pub record Named (before : List Row) (p : List ℕ) (x : Channel) : Type 0 where
  pub small : (m : Summary) (n : ℕ) → read_summary p ≡ Ok m → summary_recipient_of m ≡ Some n → own_number (holder before n) < 4294967296
  pub meets : (m : Summary) (n : ℕ) → read_summary p ≡ Ok m → summary_recipient_of m ≡ Some n → Meets n (own_number (holder before n)) x

down-none : (m : Summary) (x : Channel) → summary_recipient_of m ≡ None → with_down m x ≡ x
down-none (Confirmation n s w max) x none = cc
down-none (Within n act) x none = cc
down-none m x none = refl

down-some : (m : Summary) (n c : ℕ) (x : Channel) → summary_recipient_of m ≡ Some n → Meets n c x → with_down (readdressed c m) (own_numbered x) ≡ own_numbered (with_down m x)
down-some (Confirmation n' s w max) n c x some meets = let same : n ≡ n' = cc in confirmation-alone n' c s w max x (subst (λ (j : ℕ). Meets j c x) same meets)
down-some (Within n' act) n c x some meets = let same : n ≡ n' = cc in within-alone n' c act x (subst (λ (j : ℕ). Meets j c x) same meets)
down-some (Transport number) n c x some meets = cc
down-some (Requests what wants_reply) n c x some meets = cc
down-some (Succeeds rest) n c x some meets = cc
down-some Refuses n c x some meets = cc
down-some (Open what s w max) n c x some meets = cc

pub heard-alone : (before : List Row) (p : List ℕ) (x : Channel) → Named before p x → channel_after_item (item_for before (Heard p)) (own_numbered x) ≡ own_numbered (channel_after_item (Heard p) x)
heard-alone before p x named = by_case (read_summary p) refl
  where
    by_some : (m : Summary) → read_summary p ≡ Ok m → (o : Option ℕ) → summary_recipient_of m ≡ o → reading (renamed before p o) (λ m. with_down m (own_numbered x)) (own_numbered x) ≡ own_numbered (with_down m x)
    by_some m reads None none = reading-ok p m (λ m. with_down m (own_numbered x)) (own_numbered x) reads ∙ (down-none m (own_numbered x) none ∙ sym (ap own_numbered (down-none m x none)))
    by_some m reads (Some n) some =
        reading-ok (with_recipient p (own_number (holder before n))) (readdressed (own_number (holder before n)) m) (λ m. with_down m (own_numbered x)) (own_numbered x)
        (read-renamed p m (own_number (holder before n)) (named.small m n reads some) reads)
        ∙ down-some m n (own_number (holder before n)) x some (named.meets m n reads some)

    by_case : (r : Result Summary Bad) → read_summary p ≡ r → channel_after_item (item_for before (Heard p)) (own_numbered x) ≡ own_numbered (channel_after_item (Heard p) x)
    by_case (Err e) reads =
        ap (λ q. reading q (λ m. with_down m (own_numbered x)) (own_numbered x)) (reading-err p e (λ m. renamed before p (summary_recipient_of m)) p reads)
        ∙ (reading-err p e (λ m. with_down m (own_numbered x)) (own_numbered x) reads
        ∙ sym (ap own_numbered (reading-err p e (λ m. with_down m x) x reads)))
    by_case (Ok m) reads =
        ap (λ q. reading q (λ m. with_down m (own_numbered x)) (own_numbered x)) (reading-ok p m (λ m. renamed before p (summary_recipient_of m)) p reads)
        ∙ (by_some m reads (summary_recipient_of m) refl
        ∙ sym (ap own_numbered (reading-ok p m (λ m. with_down m x) x reads)))
