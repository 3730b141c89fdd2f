-- How a line falls into pieces, from the left, each as long as can be.
use Rattle.std.specs.Prelude.{◌≡◌, ℕ, zero, suc, ◌+◌, ◌-◌, ◌<◌, Bool, false, ◌&&◌, ◌||◌, ◌==◌, cond, nat_lt, nat_le, List, [], ◌∷◌, length, take, drop, Option, Some, None}
use Rattle.std.specs.Char.{is_ascii_digit}
use Rattle.std.specs.List.{prefix_len}
use Rattle.script_text.specs.declared.TheConstants.{LONGEST_NAME}
use Rattle.script_text.specs.declared.lexer.Cut as lexer
use Rattle.script_text.specs.declared.token.Symbol.{Symbol}
use Rattle.script_text.specs.declared.token.Symbol.TheVariants.{Open, Close, Comma, Dot, Minus, Equal, NotEqual, Less, AtMost, Greater, AtLeast}
use Rattle.script_text.specs.Lexical.{Placed, is_blank, skip_blanks}
use Rattle.script_text.specs.Name.{starts_name, continues_name}
use Rattle.script_text.specs.Token.{Piece, name, number, text, mark, piece_of, IsPiece}
use Rattle.script_text.specs.Text.{begins_quote, text_run}

-- the symbol of one byte
abbrev pub short_symbol : ℕ → Option Symbol
short_symbol b = cond (b == 40) (Some Open) (cond (b == 41) (Some Close) (cond (b == 44) (Some Comma) (cond (b == 46) (Some Dot)
    (cond (b == 45) (Some Minus) (cond (b == 61) (Some Equal) (cond (b == 60) (Some Less) (cond (b == 62) (Some Greater) None)))))))

-- the symbol of this byte and `=`
abbrev pub long_symbol : ℕ → Option Symbol
long_symbol b = cond (b == 33) (Some NotEqual) (cond (b == 60) (Some AtMost) (cond (b == 62) (Some AtLeast) None))

-- a piece and the number of its bytes
pub record Cut : Type 0 where
  pub piece : Piece
  pub len : ℕ

-- the cut that the lexer made
abbrev pub cut_of : lexer.Cut → Cut
cut_of c = record { piece = piece_of c.token; len = c.len }

-- a cut of so many bytes, where there is a symbol
abbrev pub symbol_cut : ℕ → Option Symbol → Option Cut
symbol_cut n None = None
symbol_cut n (Some s) = Some (record { piece = mark s; len = n })

-- the bytes begin with `=`
abbrev pub begins_equal : List ℕ → Bool
begins_equal [] = false
begins_equal (b ∷ bytes) = b == 61

-- the longer symbol where there is one and `=` follows, else the short one
abbrev pub longest_symbol : Option Symbol → ℕ → List ℕ → Option Cut
longest_symbol None b bytes = symbol_cut 1 (short_symbol b)
longest_symbol (Some s) b bytes = cond (begins_equal bytes) (Some (record { piece = mark s; len = 2 })) (symbol_cut 1 (short_symbol b))

-- the longest symbol at the front of the byte and those after it
abbrev pub symbol_at : ℕ → List ℕ → Option Cut
symbol_at b bytes = longest_symbol (long_symbol b) b bytes

-- the name of so many bytes, where it is not too long
abbrev pub name_cut : ℕ → List ℕ → Option Cut
name_cut n bytes = cond (nat_le n LONGEST_NAME) (Some (record { piece = name (take n bytes); len = n })) None

-- the number of so many bytes
abbrev pub number_cut : ℕ → List ℕ → Option Cut
number_cut n bytes = Some (record { piece = number (take n bytes); len = n })

-- a digit, or a minus before digits
abbrev pub begins_number : ℕ → ℕ → Bool
begins_number b digits = is_ascii_digit b || (b == 45) && nat_lt 0 digits

-- the text whose characters take so many bytes after its first quote, where a quote closes it
abbrev pub text_cut : ℕ → List ℕ → Option Cut
text_cut n bytes = cond (begins_quote (drop n bytes)) (Some (record { piece = text (take n bytes); len = n + 2 })) None

-- the longest piece at the front of the bytes; none where no piece begins there, or a name there is too long
abbrev pub first_cut : List ℕ → Option Cut
first_cut [] = None
first_cut (b ∷ bytes) =
    cond (starts_name b) (name_cut (1 + prefix_len continues_name bytes) (b ∷ bytes))
    (cond (begins_number b (prefix_len is_ascii_digit bytes)) (number_cut (1 + prefix_len is_ascii_digit bytes) (b ∷ bytes))
    (cond (b == 34) (text_cut (text_run bytes) bytes) (symbol_at b bytes)))

-- the pieces of some bytes, and what is left after them and the blanks
pub record Lexed : Type 0 where
  pub pieces : List Placed
  pub rest : List ℕ

-- a piece in front of others
abbrev pub put : Placed → Lexed → Lexed
put p lexed = record { pieces = p ∷ lexed.pieces; rest = lexed.rest }

-- the piece of a cut, and the pieces after it; or none, and the bytes are left
abbrev pub placed_piece : Option Cut → List ℕ → (ℕ → Lexed) → Lexed
placed_piece None bytes after = record { pieces = []; rest = bytes }
placed_piece (Some c) bytes after = put (record { piece = c.piece; room = length bytes }) (after (c.len - 1))

-- The pieces of the bytes after the first few, which belong to a piece already. They end before a byte at
-- which none begins.
abbrev pub lex_after : ℕ → List ℕ → Lexed
lex_after n [] = record { pieces = []; rest = [] }
lex_after (suc n) (b ∷ bytes) = lex_after n bytes
lex_after zero (b ∷ bytes) =
    cond (is_blank b) (lex_after zero bytes) (placed_piece (first_cut (b ∷ bytes)) (b ∷ bytes) (λ n. lex_after n bytes))

-- the pieces of the bytes, and what is left after them
unfoldable pub lex : List ℕ → Lexed
lex bytes = lex_after 0 bytes

-- the pieces of the bytes
abbrev pub pieces : List ℕ → List Placed
pieces bytes = (lex bytes).pieces

-- what is left after the pieces and the blanks
abbrev pub unread : List ℕ → List ℕ
unread bytes = (lex bytes).rest

-- the piece stands next in the bytes, and these are left after it
pub record IsNextPiece (bytes : List ℕ) (piece : Piece) (after : List ℕ) : Type 0 where
  pub place : pieces bytes ≡ record { piece = piece; room = length (skip_blanks bytes) } ∷ pieces after
  pub rest : unread bytes ≡ unread after
  pub shape : IsPiece piece
  pub shorter : length after < length bytes

-- no piece stands next
pub record IsLast (bytes : List ℕ) : Type 0 where
  pub place : pieces bytes ≡ []
  pub rest : unread bytes ≡ skip_blanks bytes

-- How many bytes there are from the fault on of bytes at which no piece begins: all, or, where they begin with a quote,
-- those after the characters of a text that is not closed.
abbrev pub fault_room : List ℕ → ℕ
fault_room [] = 0
fault_room (b ∷ bytes) = cond (b == 34) (length bytes - text_run bytes) (length (b ∷ bytes))
