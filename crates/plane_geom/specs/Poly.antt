-- Polynomials in Horner's form, one variable a level, and the test by which two expressions are the same polynomial.
use Rattle.std.specs.Prelude.{ℕ, zero, suc, ℤ, pos, negsuc, ◌+ℤ◌, ◌*ℤ◌, neg_ℤ, Bool, true, false, ◌&&◌}
use Rattle.plane_geom.specs.Expr.{Expr, var, num, plus, minus, times, neg}

-- a constant, or `rest + x * more`, where x is the first variable, `rest` speaks of the later ones, and `more` of all
pub data Poly : Type 0 where
  constant : ℤ → Poly
  horner : Poly → Poly → Poly

-- what a polynomial is worth where variable i is worth `env i`
abbrev pub poly_value : Poly → (ℕ → ℤ) → ℤ
poly_value (constant c) env = c
poly_value (horner rest more) env = poly_value rest (λ i. env (suc i)) +ℤ env zero *ℤ poly_value more env

-- `rest + x * more`, kept a constant where it is one
abbrev pub join : Poly → Poly → Poly
join (constant c) (constant (pos zero)) = constant c
join rest more = horner rest more

-- variable i by itself
abbrev pub variable : ℕ → Poly
variable zero = horner (constant (pos 0)) (constant (pos 1))
variable (suc i) = horner (variable i) (constant (pos 0))

-- a polynomial and a constant added
abbrev pub add_constant : ℤ → Poly → Poly
add_constant a (constant b) = constant (a +ℤ b)
add_constant a (horner rest more) = horner (add_constant a rest) more

-- the sum of two polynomials
abbrev pub add_polynomials : Poly → Poly → Poly
add_polynomials (constant a) q = add_constant a q
add_polynomials (horner rest more) (constant b) = horner (add_constant b rest) more
add_polynomials (horner rest more) (horner rest' more') = join (add_polynomials rest rest') (add_polynomials more more')

-- a polynomial with its sign turned
abbrev pub negate : Poly → Poly
negate (constant a) = constant (neg_ℤ a)
negate (horner rest more) = horner (negate rest) (negate more)

-- a polynomial times a constant that is not 0
abbrev pub scale : ℤ → Poly → Poly
scale a (constant b) = constant (a *ℤ b)
scale a (horner rest more) = horner (scale a rest) (scale a more)

-- a polynomial times a constant
abbrev pub times_constant : ℤ → Poly → Poly
times_constant (pos zero) q = constant (pos 0)
times_constant a q = scale a q

-- each coefficient of the first variable's powers, sent through f
abbrev pub along : (Poly → Poly) → Poly → Poly
along f (constant b) = join (f (constant b)) (constant (pos 0))
along f (horner rest more) = join (f rest) (along f more)

-- the product of two polynomials
abbrev pub multiply : Poly → Poly → Poly
multiply (constant a) q = times_constant a q
multiply (horner rest more) q = add_polynomials (along (multiply rest) q) (join (constant (pos 0)) (multiply more q))

-- each of its coefficients is 0
abbrev pub is_zero : Poly → Bool
is_zero (constant (pos zero)) = true
is_zero (constant (pos (suc n))) = false
is_zero (constant (negsuc n)) = false
is_zero (horner rest more) = is_zero rest && is_zero more

-- an expression multiplied out
abbrev pub norm : Expr → Poly
norm (var i) = variable i
norm (num c) = constant c
norm (plus e f) = add_polynomials (norm e) (norm f)
norm (minus e f) = add_polynomials (norm e) (negate (norm f))
norm (times e f) = multiply (norm e) (norm f)
norm (neg e) = negate (norm e)

-- the difference of the two expressions, multiplied out, is 0
abbrev pub is_identity : Expr → Expr → Bool
is_identity e f = is_zero (norm (minus e f))
