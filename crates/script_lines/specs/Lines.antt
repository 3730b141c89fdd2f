-- The lines of a script: its bytes cut at line feeds.
use Rattle.std.specs.Prelude.{◌≡◌, ⊤, ℕ, ◌-◌, ◌==◌, nat_le, nat_lt, Bool, true, false, cond, List, [], ◌∷◌, ◌++◌, length, take, slice_index, Option, Some, None}
use Rattle.script_text.specs.declared.TheConstants.{LONGEST_LINE}

-- a byte put in front of the first line, or of the piece where there is no line
abbrev pub onto : ℕ → List (List ℕ) → List ℕ → List (List ℕ) × List ℕ
onto b [] piece = ([], b ∷ piece)
onto b (line ∷ lines) piece = ((b ∷ line) ∷ lines, piece)

-- the lines that a line feed ends, and the piece after the last of them
abbrev pub cut : List ℕ → List (List ℕ) × List ℕ
cut [] = ([], [])
cut (b ∷ bytes) = cond (b == 10) ([] ∷ (cut bytes).0, (cut bytes).1) (onto b (cut bytes).0 (cut bytes).1)

-- the lines that a line feed ends
abbrev pub ended_lines : List ℕ → List (List ℕ)
ended_lines bytes = (cut bytes).0

-- a last piece is a line where it isn't empty
abbrev pub last_line : List ℕ → List (List ℕ)
last_line [] = []
last_line (b ∷ piece) = (b ∷ piece) ∷ []

-- the lines of a script
abbrev pub lines : List ℕ → List (List ℕ)
lines bytes = (cut bytes).0 ++ last_line (cut bytes).1

-- the line, or None where it is too long
abbrev pub clipped : List ℕ → Option (List ℕ)
clipped line = cond (nat_le (length line) LONGEST_LINE) (Some line) None

-- the line without one carriage return at its end
abbrev pub chopped : List ℕ → List ℕ
chopped line = cond (slice_index line (length line - 1) == 13) (take (length line - 1) line) line

-- one more byte of a line that isn't too long yet
abbrev pub with_byte : ℕ → Option (List ℕ) → Option (List ℕ)
with_byte b None = None
with_byte b (Some line) = cond (nat_lt (length line) LONGEST_LINE) (Some (line ++ b ∷ [])) None

-- no byte is in hand
abbrev pub is_no_line : Option (List ℕ) → Bool
is_no_line None = false
is_no_line (Some []) = true
is_no_line (Some (b ∷ line)) = false

-- the line isn't too long
abbrev pub is_short_line : Option (List ℕ) → Bool
is_short_line None = false
is_short_line (Some line) = true

-- no byte is a line feed
abbrev pub HasNoFeed : List ℕ → Type 0
HasNoFeed [] = ⊤
HasNoFeed (b ∷ bytes) = ((b == 10) ≡ false) × HasNoFeed bytes
