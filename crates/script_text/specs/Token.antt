-- Tokens of a line, and the bytes that spell them.
use Rattle.std.specs.Prelude.{◌≡◌, ℕ, ◌≤◌, Bool, true, false, ◌&&◌, List, [], ◌∷◌, ◌++◌, codes, nat_lt, length, cond, ◌==◌}
use Rattle.std.specs.Char.{is_ascii_digit}
use Rattle.std.specs.List.{list_all}
use Rattle.script_text.specs.Name.{IsName, is_name}
use Rattle.script_text.specs.Text.{IsTextInside, begins_quote}
use Rattle.script_text.specs.declared.token.Symbol.{Symbol}
use Rattle.script_text.specs.declared.token.Symbol.TheVariants as symbol
use Rattle.script_text.specs.declared.token.Token.{Token}
use Rattle.script_text.specs.declared.token.Token.TheVariants as read

-- a name, a number by its bytes, a text by the bytes between its quotes, or a symbol
pub data Piece : Type 0 where
  name : List ℕ → Piece
  number : List ℕ → Piece
  text : List ℕ → Piece
  mark : Symbol → Piece

-- the piece that a token of the reader stands for
abbrev pub piece_of : Token → Piece
piece_of (read.Name bytes) = name bytes.now
piece_of (read.Number bytes) = number bytes.now
piece_of (read.Text bytes) = text bytes.now
piece_of (read.Mark s) = mark s

-- the bytes of a symbol
abbrev pub symbol_text : Symbol → List ℕ
symbol_text symbol.Open = codes "("
symbol_text symbol.Close = codes ")"
symbol_text symbol.Comma = codes ","
symbol_text symbol.Dot = codes "."
symbol_text symbol.Minus = codes "-"
symbol_text symbol.Equal = codes "="
symbol_text symbol.NotEqual = codes "!="
symbol_text symbol.Less = codes "<"
symbol_text symbol.AtMost = codes "<="
symbol_text symbol.Greater = codes ">"
symbol_text symbol.AtLeast = codes ">="

-- one digit or more
abbrev pub is_digits : List ℕ → Bool
is_digits bytes = nat_lt 0 (length bytes) && list_all is_ascii_digit bytes

-- digits, or a minus and then digits
abbrev pub is_number : List ℕ → Bool
is_number [] = false
is_number (b ∷ bytes) = cond (b == 45) (is_digits bytes) (is_digits (b ∷ bytes))

-- the bytes that spell a piece
abbrev pub spelling : Piece → List ℕ
spelling (name bytes) = bytes
spelling (number bytes) = bytes
spelling (text bytes) = 34 ∷ bytes ++ 34 ∷ []
spelling (mark s) = symbol_text s

-- the piece is one of the language: names and numbers are of their shape, and names not too long
abbrev pub IsPiece : Piece → Type 0
IsPiece (name bytes) = IsName bytes
IsPiece (number bytes) = is_number bytes ≡ true
IsPiece (text bytes) = IsTextInside bytes
IsPiece (mark s) = Unit {0}

-- the piece is of its shape; a name may have any length
abbrev pub HasPieceShape : Piece → Type 0
HasPieceShape (name bytes) = is_name bytes ≡ true
HasPieceShape (number bytes) = is_number bytes ≡ true
HasPieceShape (text bytes) = IsTextInside bytes
HasPieceShape (mark s) = Unit {0}

-- a text ends at a quote that no other one follows
abbrev pub EndsBefore : Piece → List ℕ → Type 0
EndsBefore (text bytes) after = begins_quote after ≡ false
EndsBefore _ after = Unit {0}

-- The piece is one of the language, the bytes are its spelling and then the others, and nothing longer that has the
-- shape of a piece stands at their front; the quote that closes a text is not doubled.
pub record IsToken (bytes : List ℕ) (piece : Piece) (after : List ℕ) : Type 0 where
  pub shape : IsPiece piece
  pub split : bytes ≡ spelling piece ++ after
  pub closed : EndsBefore piece after
  pub longest : (other : Piece) (left : List ℕ) → HasPieceShape other → bytes ≡ spelling other ++ left → length (spelling other) ≤ length (spelling piece)
