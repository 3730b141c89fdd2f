-- Bytes of a page: pieces of it, big-endian numbers, rows of cells, and what a paste leaves.
use Rattle.std.specs.Prelude.{ℕ, zero, suc, ◌+◌, ◌-◌, ◌*◌, ◌/◌, ◌%◌, ◌^◌, List, [], ◌∷◌, ◌++◌, take, drop, length}
use Rattle.std.specs.Int.{w16, w64, from_be_bytes, to_be_bytes}

-- so many bytes of a page from a place on
abbrev pub piece : ℕ → ℕ → List ℕ → List ℕ
piece width at page = take width (drop at page)

-- the big-endian number in 2 bytes
unfoldable pub half_of : List ℕ → ℕ
half_of bytes = from_be_bytes w16 bytes

-- the 2 bytes of a number, high byte first
unfoldable pub half_bytes : ℕ → List ℕ
half_bytes n = to_be_bytes w16 n

-- the big-endian number in 8 bytes
unfoldable pub word_of : List ℕ → ℕ
word_of bytes = from_be_bytes w64 bytes

-- the 8 bytes of a number, high byte first
unfoldable pub word_bytes : ℕ → List ℕ
word_bytes n = to_be_bytes w64 n

-- the big-endian number in 16 bytes, by its two halves
unfoldable pub number_of : List ℕ → ℕ
number_of bytes = word_of (take 8 bytes) * 2 ^ 64 + word_of (drop 8 bytes)

-- the 16 bytes of a number, high byte first
unfoldable pub number_bytes : ℕ → List ℕ
number_bytes n = word_bytes (n / 2 ^ 64) ++ word_bytes (n % 2 ^ 64)

-- a row of cells of one width, from a place on
abbrev pub cells : ℕ → ℕ → ℕ → List ℕ → List (List ℕ)
cells width at zero page = []
cells width at (suc n) page = piece width at page ∷ cells width (at + width) n page

-- a page after these bytes were written at a place
abbrev pub pasted : List ℕ → ℕ → List ℕ → List ℕ
pasted page at bytes = take at page ++ (bytes ++ drop (at + length bytes) page)

-- a page after the bytes from `from` to `to` gave way to others, and what stood behind them up to `end` moved along
abbrev pub spliced : List ℕ → ℕ → ℕ → ℕ → List ℕ → List ℕ
spliced page from to end bytes = pasted (pasted page (from + length bytes) (piece (end - to) to page)) from bytes
