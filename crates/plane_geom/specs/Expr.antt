-- Polynomial expressions over the integers, and their values.
use Rattle.std.specs.Prelude.{ℕ, zero, suc, ℤ, pos, ◌+ℤ◌, ◌-ℤ◌, ◌*ℤ◌, neg_ℤ, List, [], ◌∷◌}

-- an expression in numbered variables and integer constants
pub data Expr : Type 0 where
  var : ℕ → Expr
  num : ℤ → Expr
  plus : Expr → Expr → Expr
  minus : Expr → Expr → Expr
  times : Expr → Expr → Expr
  neg : Expr → Expr

infixl 6 ◌⊕◌ ◌⊖◌
infixl 7 ◌⊗◌
-- `plus`, between its two parts
abbrev pub ◌⊕◌ : Expr → Expr → Expr
e ⊕ f = plus e f

-- `minus`, between its two parts
abbrev pub ◌⊖◌ : Expr → Expr → Expr
e ⊖ f = minus e f

-- `times`, between its two parts
abbrev pub ◌⊗◌ : Expr → Expr → Expr
e ⊗ f = times e f

-- what an expression is worth where variable i is worth `env i`
abbrev pub value : (ℕ → ℤ) → Expr → ℤ
value env (var i) = env i
value env (num c) = c
value env (plus e f) = value env e +ℤ value env f
value env (minus e f) = value env e -ℤ value env f
value env (times e f) = value env e *ℤ value env f
value env (neg e) = neg_ℤ (value env e)

-- the variables' values from a list, the first for variable 0, and 0 past its end
abbrev pub at : List ℤ → ℕ → ℤ
at [] i = pos 0
at (x ∷ xs) zero = x
at (x ∷ xs) (suc i) = at xs i
