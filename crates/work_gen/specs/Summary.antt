-- The summary of a run: four lines in place of its text.
use Rattle.std.specs.Prelude.{ℕ, ◌+◌, ◌/◌, ◌%◌, cond, nat_lt, min, List, [], ◌∷◌, ◌++◌, codes, length}
use Rattle.std.specs.Fmt.{decimal}
use Rattle.sand_base.specs.Faults.{last_count}
use Rattle.sha2.specs.Sha256.{sha256}

-- a digit below 16, in lower case
abbrev pub hex_digit : ℕ → ℕ
hex_digit n = cond (nat_lt n 10) (48 + n) (87 + n)

-- bytes in hexadecimal, two digits each
abbrev pub hexadecimal : List ℕ → List ℕ
hexadecimal [] = []
hexadecimal (b ∷ bytes) = hex_digit (b / 16) ∷ hex_digit (b % 16) ∷ hexadecimal bytes

-- how many bytes the text has; the count stays at the greatest number of 64 bits
abbrev pub byte_count : List ℕ → ℕ
byte_count text = min (length text) last_count

-- a line: a word and what it tells
abbrev pub told_line : List ℕ → List ℕ → List ℕ
told_line word value = word ++ codes " " ++ value ++ 10 ∷ []

-- The lines that were run, those of them that were refused, the bytes of the text, and its digest.
unfoldable pub summary : ℕ → ℕ → List ℕ → List ℕ
summary lines refused text =
    told_line (codes "lines") (decimal lines) ++ told_line (codes "refused") (decimal refused) ++ told_line (codes "bytes") (decimal (byte_count text))
    ++ told_line (codes "sha256") (hexadecimal (sha256 text))
