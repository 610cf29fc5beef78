-- The bytes that were written to each stream and aren't read yet.
use Rattle.std.specs.Prelude.{ℕ, Bool, List, [], ◌++◌, ◌-◌, drop, take, length, nat_eq, slice_set, slice_index_or}
use Rattle.std.specs.List.{list_all, starts_with}
use Rattle.conf_rules.specs.Texts.{is_empty_list}

-- those of a stream
abbrev pub unread_at : ℕ → List (List ℕ) → List ℕ
unread_at stream unread = slice_index_or unread stream []

-- more are written to a stream
abbrev pub with_more_bytes : ℕ → List ℕ → List (List ℕ) → List (List ℕ)
with_more_bytes stream bytes unread = slice_set unread stream (unread_at stream unread ++ bytes)

-- so many of a stream are read
abbrev pub without_first_message : ℕ → ℕ → List (List ℕ) → List (List ℕ)
without_first_message stream count unread = slice_set unread stream (drop count (unread_at stream unread))

-- so many of a stream, those that were written last, are removed
abbrev pub without_last : ℕ → ℕ → List (List ℕ) → List (List ℕ)
without_last stream count unread =
    slice_set unread stream
    (take (length (unread_at stream unread) - count) (unread_at stream unread))

-- whether a stream has these first
abbrev pub stands_first : ℕ → List ℕ → List (List ℕ) → Bool
stands_first stream bytes unread = starts_with nat_eq (unread_at stream unread) bytes

-- whether all was read
abbrev pub is_all_read : List (List ℕ) → Bool
is_all_read unread = list_all is_empty_list unread
