-- What the wire and the forwarder recorded, and what the forwarder may give.
use Rattle.std.proofs.Common.{◌≡◌, List, [], ◌∷◌, ◌++◌, Option, Some, None, refl, sym, ap, ◌∙◌, append_assoc, append-nil}
use Rattle.std.specs.Prelude.{reverse}
use Rattle.std.specs.Option.{option_map}
use Rattle.std.proofs.lemmas.List.{reverse-append}
use Rattle.mux_outside.specs.declared.house_mark.HouseMark.{HouseMark}
use Rattle.mux_outside.specs.declared.house.HouseReply.{HouseReply}
use Rattle.mux_outside.specs.declared.mark.Mark.{Mark}
use Rattle.mux_history.specs.Journal.{Records}
use Rattle.mux_history.specs.Promises.{MayGive}
use Rattle.mux_peers.specs.Asked.{RecordsAsks}

-- ---- what the wire recorded

reverse-twice : (ms : List Mark) → reverse (reverse ms) ≡ ms
reverse-twice [] = refl
reverse-twice (m ∷ ms) = ap reverse (reverse-append (m ∷ []) ms) ∙ (reverse-append (reverse ms) (m ∷ []) ∙ ap (λ l. m ∷ l) (reverse-twice ms))

pub records-more : (start recorded now : Option (List Mark)) (journal ms : List Mark) → Records start recorded journal → now ≡ option_map (λ m. m ++ ms) recorded → Records start now (reverse ms ++ journal)
records-more start recorded now journal ms h e = e ∙ (ap (option_map (λ m. m ++ ms)) h ∙ by_start start)
  where
    by_start : (o : Option (List Mark)) → option_map (λ m. m ++ ms) (option_map (λ m. m ++ reverse journal) o) ≡ option_map (λ m. m ++ reverse (reverse ms ++ journal)) o
    by_start None = refl
    by_start (Some m) = ap (λ (l : List Mark). Some l) (append_assoc m (reverse journal) ms ∙ ap (λ l. m ++ l) (sym (reverse-append (reverse ms) journal ∙ ap (λ l. reverse journal ++ l) (reverse-twice ms))))

pub recorded-none : (recorded : Option (List Mark)) → option_map (λ m. m ++ []) recorded ≡ recorded
recorded-none None = refl
recorded-none (Some m) = ap (λ (l : List Mark). Some l) (append-nil m)

-- ---- what the forwarder recorded

-- where it was asked nothing it records the same
pub records-none : (recorded : Option (List HouseMark)) → RecordsAsks recorded recorded []
records-none None = refl
records-none (Some asks) = ap (λ (l : List HouseMark). Some l) (sym (append-nil asks))

records-twice : (before : Option (List HouseMark)) (a b : List HouseMark) → option_map (λ recorded. recorded ++ b) (option_map (λ recorded. recorded ++ a) before) ≡ option_map (λ recorded. recorded ++ (a ++ b)) before
records-twice None a b = refl
records-twice (Some asks) a b = ap (λ (l : List HouseMark). Some l) (append_assoc asks a b)

-- first these, then those
pub records-then : (before mid now : Option (List HouseMark)) (a b : List HouseMark) → RecordsAsks before mid a → RecordsAsks mid now b → RecordsAsks before now (a ++ b)
records-then before mid now a b first then = then ∙ (ap (λ (recorded : Option (List HouseMark)). option_map (λ l. l ++ b) recorded) first ∙ records-twice before a b)

pub may-more : (May : HouseReply → Type 0) (xs ys : List HouseReply) → MayGive May xs → MayGive May ys → MayGive May (xs ++ ys)
may-more May [] ys a b = b
may-more May (reply ∷ xs) ys a b = (a.0, may-more May xs ys a.1 b)
