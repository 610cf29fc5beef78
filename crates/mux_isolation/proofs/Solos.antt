-- A client's rows as they stand in the unshared connection.
use Rattle.std.proofs.Common.{◌≡◌, List, [], ◌∷◌, refl, ap, map}
use Rattle.mux_history.specs.Channels.{own_number_of}
use Rattle.mux_history.specs.Rows.{Row}
use Rattle.mux_history.specs.Solo.{item_for, own_ups, seen_row, seen_alone}

-- one row, after the client's rows before it
abbrev pub alone_row : List Row → Row → Row
alone_row before row = record row { item = item_for before row.item; up = own_ups (own_number_of row.item) row.up }

abbrev pub alone : List Row → List Row
alone [] = []
alone (row ∷ before) = alone_row before row ∷ alone before

-- what the client sees of its rows is what it would see alone
pub seen-alone : (own : List Row) → map seen_row own ≡ map seen_alone (alone own)
seen-alone [] = refl
seen-alone (row ∷ own) = ap (λ rest. seen_row row ∷ rest) (seen-alone own)
