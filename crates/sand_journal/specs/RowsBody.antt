-- Rows as they are read from bytes: in their frames, behind their count, and behind their relation's name.
use Rattle.std.specs.Prelude.{◌≡◌, ℕ, ◌^◌, ◌<◌, List, ◌∷◌, length, map, Option, Some, None, Vec}
use Rattle.std.specs.declared.alloc.Global.{Global}
use Rattle.std.specs.List.{AllByRecursion, flat_map}
use Rattle.sand_journal.specs.ChangeBody.{Rows, IsChange, IsEncodingShort, framed_row, counted_rows, body_of}

-- the bytes of each row of a list
abbrev pub bytes_of_each : List (Vec ℕ Global) → List (List ℕ)
bytes_of_each rows = map (λ (row : Vec ℕ Global). row.items) rows

-- the bytes of each row
abbrev pub row_bytes : Vec (Vec ℕ Global) Global → List (List ℕ)
row_bytes rows = bytes_of_each rows.items

-- What bytes are read as: so many rows in their frames, or None where they are no such rows.
unfoldable pub AreFramedRows : List ℕ → ℕ → Option (Vec (Vec ℕ Global) Global) → Type 0
AreFramedRows bytes count None = (rows : List (List ℕ)) → AllByRecursion IsEncodingShort rows → length rows ≡ count → bytes ≡ flat_map framed_row rows → ⊥
AreFramedRows bytes count (Some rows) = AllByRecursion IsEncodingShort (row_bytes rows) × (length (row_bytes rows) ≡ count) × (bytes ≡ flat_map framed_row (row_bytes rows))

-- What bytes are read as: rows behind their count, or None where they are no such rows.
unfoldable pub AreCountedRows : List ℕ → Option (Vec (Vec ℕ Global) Global) → Type 0
AreCountedRows bytes None = (rows : List (List ℕ)) → AllByRecursion IsEncodingShort rows → length rows < 2 ^ 32 → bytes ≡ counted_rows rows → ⊥
AreCountedRows bytes (Some rows) = AllByRecursion IsEncodingShort (row_bytes rows) × (bytes ≡ counted_rows (row_bytes rows))

-- What the bytes behind a body's first byte are read as: a relation's name and rows, or None where they are no such body's.
unfoldable pub IsRowsBody : List ℕ → Option (List ℕ × List (List ℕ)) → Type 0
IsRowsBody bytes None = (relation : List ℕ) (rows : List (List ℕ)) → IsChange (Rows relation rows) → 2 ∷ bytes ≡ body_of (Rows relation rows) → ⊥
IsRowsBody bytes (Some found) = IsChange (Rows found.0 found.1) × (2 ∷ bytes ≡ body_of (Rows found.0 found.1))
