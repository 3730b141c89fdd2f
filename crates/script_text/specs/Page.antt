-- What the printer has written so far, token by token.
use Rattle.std.specs.Prelude.{ℕ, Bool, true, ◌||◌, cond, List, [], ◌∷◌, ◌++◌, codes}
use Rattle.script_text.specs.Printing.{hugs_after, hugs_before}
use Rattle.script_text.specs.Token.{Piece, spelling}

-- the bytes so far, and whether the next token stands close to them
pub record Page : Type 0 where
  pub bytes : List ℕ
  pub is_close : Bool

-- nothing is written
abbrev pub empty : Page
empty = record { bytes = []; is_close = true }

-- a token with this spelling after the others
abbrev pub put_spelled : Page → Bool → List ℕ → Bool → Page
put_spelled page before spelled after = record { bytes = page.bytes ++ (cond (page.is_close || before) [] (codes " ") ++ spelled); is_close = after }

-- one token more
abbrev pub put : Page → Piece → Page
put page w = put_spelled page (hugs_before w) (spelling w) (hugs_after w)

-- some tokens more
unfoldable pub with_pieces : Page → List Piece → Page
with_pieces page [] = page
with_pieces page (w ∷ ws) = with_pieces (put page w) ws
