-- A table and the channels that it represents, under one change.
use Rattle.std.proofs.Common.{◌≡◌, List, [], ◌∷◌, ◌++◌, map, true, false, Bool, refl, ◌∙◌, sym, subst, Option, Some, None}
use Rattle.std.specs.Prelude.{filter, find}
use Rattle.std.specs.List.{AllByRecursion}
use Rattle.mux_history.specs.Channels.{Channel, is_channel_held}
use Rattle.mux_history.proofs.Finds.{filter-no, filter-yes, find-no, find-yes}
use Rattle.channel_table.specs.Entries.{TableEntry}
use Rattle.channel_table.specs.Stands.{ChannelsFit, EntryFits}

-- an entry and its channel after a change: both stay, or both are gone
pub record Goes (keep : TableEntry → Bool) (e : TableEntry) (x : Channel) : Type 0 where
  pub stays : keep e ≡ true → EntryFits e x
  pub gone : keep e ≡ false → is_channel_held x ≡ false

-- so the lists fit after it
pub changed-fit : (P : TableEntry → Type 0) (keep : TableEntry → Bool) (f : TableEntry → TableEntry) (g : Channel → Channel) → ((e : TableEntry) (x : Channel) → P e → EntryFits e x → Goes keep (f e) (g x)) → (es : List TableEntry) (xs : List Channel) → AllByRecursion P es → ChannelsFit es xs → ChannelsFit (filter keep (map f es)) (filter is_channel_held (map g xs))
changed-fit P keep f g goes [] [] all fit = tt
changed-fit P keep f g goes [] (x ∷ xs) all fit = absurd fit
changed-fit P keep f g goes (e ∷ es) [] all fit = absurd fit
changed-fit P keep f g goes (e ∷ es) (x ∷ xs) all fit = by_case (changed-fit P keep f g goes es xs all.1 fit.1) (goes e x all.0 fit.0) (keep (f e)) refl
  where
    by_case : ChannelsFit (filter keep (map f es)) (filter is_channel_held (map g xs)) → Goes keep (f e) (g x) → (b : Bool) → keep (f e) ≡ b → ChannelsFit (filter keep (map f (e ∷ es))) (filter is_channel_held (map g (x ∷ xs)))
    by_case ih gone true k =
        let fits = gone.stays k in
        subst (λ ys. ChannelsFit ys (filter is_channel_held (map g (x ∷ xs)))) (sym (filter-yes keep (f e) (map f es) k)) (subst (ChannelsFit (f e ∷ filter keep (map f es))) (sym (filter-yes is_channel_held (g x) (map g xs) fits.held)) (fits, ih))
    by_case ih gone false k =
        subst (λ ys. ChannelsFit ys (filter is_channel_held (map g (x ∷ xs)))) (sym (filter-no keep (f e) (map f es) k)) (subst (ChannelsFit (filter keep (map f es))) (sym (filter-no is_channel_held (g x) (map g xs) (gone.gone k))) ih)

-- one more at the end
pub more-fit : (e : TableEntry) (x : Channel) → EntryFits e x → (es : List TableEntry) (xs : List Channel) → ChannelsFit es xs → ChannelsFit (es ++ e ∷ []) (xs ++ x ∷ [])
more-fit e x one [] [] fit = (one, tt)
more-fit e x one [] (y ∷ ys) fit = absurd fit
more-fit e x one (f ∷ fs) [] fit = absurd fit
more-fit e x one (f ∷ fs) (y ∷ ys) fit = (fit.0, more-fit e x one fs ys fit.1)

-- what is found in the one is found in the other
abbrev pub FoundFit : Option TableEntry → Option Channel → Type 0
FoundFit None None = Unit {0}
FoundFit None (Some x) = ⊥
FoundFit (Some e) None = ⊥
FoundFit (Some e) (Some x) = EntryFits e x

pub found-fit : (P : TableEntry → Type 0) (p : TableEntry → Bool) (q : Channel → Bool) → ((e : TableEntry) (x : Channel) → P e → EntryFits e x → p e ≡ q x) → (es : List TableEntry) (xs : List Channel) → AllByRecursion P es → ChannelsFit es xs → FoundFit (find p es) (find q xs)
found-fit P p q same [] [] all fit = tt
found-fit P p q same [] (x ∷ xs) all fit = absurd fit
found-fit P p q same (e ∷ es) [] all fit = absurd fit
found-fit P p q same (e ∷ es) (x ∷ xs) all fit = by_case (found-fit P p q same es xs all.1 fit.1) (p e) refl
  where
    by_case : FoundFit (find p es) (find q xs) → (b : Bool) → p e ≡ b → FoundFit (find p (e ∷ es)) (find q (x ∷ xs))
    by_case ih true h = subst (λ o. FoundFit o (find q (x ∷ xs))) (sym (find-yes p e es h)) (subst (FoundFit (Some e)) (sym (find-yes q x xs (sym (same e x all.0 fit.0) ∙ h))) fit.0)
    by_case ih false h = subst (λ o. FoundFit o (find q (x ∷ xs))) (sym (find-no p e es h)) (subst (FoundFit (find p es)) (sym (find-no q x xs (sym (same e x all.0 fit.0) ∙ h))) ih)
