-- A symbol's text is cut as that symbol.
use Rattle.std.proofs.Common.{◌≡◌, ℕ, Option, Some, refl, ap}
use Rattle.script_text.specs.declared.token.Symbol.{Symbol}
use Rattle.script_text.specs.declared.token.Symbol.TheVariants.{Open, Close, Comma, Dot, Minus, Equal, NotEqual, Less, AtMost, Greater, AtLeast}
use Rattle.script_text.specs.Lexing.{Cut, first_cut}
use Rattle.script_text.specs.Token.{Piece, mark, symbol_text}

-- a symbol's text is cut as that symbol
pub symbol-cut : (s : Symbol) → (n : ℕ) × (first_cut (symbol_text s) ≡ Some (record { piece = mark s; len = n }))
symbol-cut Open = (1, refl)
symbol-cut Close = (1, refl)
symbol-cut Comma = (1, refl)
symbol-cut Dot = (1, refl)
symbol-cut Minus = (1, refl)
symbol-cut Equal = (1, refl)
symbol-cut NotEqual = (2, refl)
symbol-cut Less = (1, refl)
symbol-cut AtMost = (2, refl)
symbol-cut Greater = (1, refl)
symbol-cut AtLeast = (2, refl)

-- one text cuts to one piece
pub same-piece : (o : Option Cut) (p q : Piece) (m n : ℕ) → o ≡ Some (record { piece = p; len = m }) → o ≡ Some (record { piece = q; len = n }) → p ≡ q
same-piece o p q m n e f =
    let c : Cut = record { piece = p; len = m } in
    let d : Cut = record { piece = q; len = n } in
    let same : c ≡ d = cc in
    ap (λ c. c.piece) same
