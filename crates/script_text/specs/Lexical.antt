-- How a line falls into tokens, and the first place where it doesn't.
use Rattle.std.specs.Prelude.{◌≡◌, ℕ, ◌+◌, ◌<◌, Bool, ◌||◌, ◌==◌, List, [], ◌∷◌, length, drop, ⊤}
use Rattle.std.specs.List.{prefix_len}
use Rattle.script_text.specs.Token.{Piece, IsPiece, IsToken}

-- a space or a tab
abbrev pub is_blank : ℕ → Bool
is_blank b = (b == 32) || (b == 9)

-- the bytes after the blanks at the front
abbrev pub skip_blanks : List ℕ → List ℕ
skip_blanks bytes = drop (prefix_len is_blank bytes) bytes

-- a piece, and the number of bytes from its first byte to the line's end
pub record Placed : Type 0 where
  pub piece : Piece
  pub room : ℕ

-- each piece is one of the language
abbrev pub ArePieces : List Placed → Type 0
ArePieces [] = ⊤
ArePieces (p ∷ ps) = IsPiece p.piece × ArePieces ps

-- From the left the bytes are these tokens, each the longest that stands there, and then the rest. Blanks may stand
-- before each token and before the rest.
abbrev pub IsCut : List ℕ → List Placed → List ℕ → Type 0
IsCut bytes [] rest = rest ≡ skip_blanks bytes
IsCut bytes (t ∷ tokens) rest =
    (after : List ℕ) × IsToken (skip_blanks bytes) t.piece after × (t.room ≡ length (skip_blanks bytes)) × IsCut after tokens rest

-- the line is these tokens and blanks, and nothing else
abbrev pub IsLexed : List ℕ → List Placed → Type 0
IsLexed line tokens = IsCut line tokens []

-- there are bytes, and no token stands at their front
pub record IsFault (bytes : List ℕ) : Type 0 where
  pub some : 0 < length bytes
  pub none : (piece : Piece) (after : List ℕ) → ¬ IsToken bytes piece after

-- columns count the line's bytes from 1, so a column and the bytes from there to the line's end are one more than the line
abbrev pub IsColumn : List ℕ → ℕ → ℕ → Type 0
IsColumn line room column = column + room ≡ length line + 1
