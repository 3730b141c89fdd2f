-- The operations on polynomials do to values what their names say.
use Rattle.std.proofs.Common.{◌≡◌, ℕ, zero, suc, Bool, true, false, ◌&&◌, ℤ, pos, negsuc, ◌+ℤ◌, ◌*ℤ◌, neg_ℤ, refl, sym, ap, ap₂, ◌∙◌}
use Rattle.std.proofs.Math.IntN.{+ℤ_assoc, +ℤ_comm, +ℤ_idl, +ℤ_idr, neg_ℤ-+ℤ, *ℤ-zero, zero-*ℤ}
use Rattle.plane_geom.specs.Expr.{Expr, var, num, plus, minus, times, neg, value}
use Rattle.plane_geom.specs.Poly.{Poly, constant, horner, poly_value, join, variable, add_constant, add_polynomials, negate, scale, times_constant, along, multiply, is_zero, norm}
use Rattle.plane_geom.proofs.ProductLaws.{*ℤ-+ℤ, +ℤ-*ℤ, *ℤ_assoc, *ℤ-neg_ℤ, *ℤ_left_comm, *ℤ_one, +ℤ_regroup}

-- the values of the later variables
abbrev later : (ℕ → ℤ) → ℕ → ℤ
later env i = env (suc i)

-- a + x 0 = a
none_more : (a x : ℤ) → a +ℤ x *ℤ pos 0 ≡ a
none_more a x = ap (λ t. a +ℤ t) (*ℤ-zero x) ∙ +ℤ_idr a

-- a joined polynomial has the value that the two parts make
join_value : (p q : Poly) (env : ℕ → ℤ) → poly_value (join p q) env ≡ poly_value p (later env) +ℤ env zero *ℤ poly_value q env
join_value (constant c) (constant (pos zero)) env = sym (none_more c (env zero))
join_value (constant c) (constant (pos (suc n))) env = refl
join_value (constant c) (constant (negsuc n)) env = refl
join_value (constant c) (horner r s) env = refl
join_value (horner r s) q env = refl

-- a variable's polynomial has the variable's value
variable_value : (i : ℕ) (env : ℕ → ℤ) → poly_value (variable i) env ≡ env i
variable_value zero env = +ℤ_idl (env zero *ℤ pos 1) ∙ *ℤ_one (env zero)
variable_value (suc i) env = none_more (poly_value (variable i) (later env)) (env zero) ∙ variable_value i (later env)

-- to add a constant adds its value
add_constant_value : (a : ℤ) (p : Poly) (env : ℕ → ℤ) → poly_value (add_constant a p) env ≡ a +ℤ poly_value p env
add_constant_value a (constant b) env = refl
add_constant_value a (horner r s) env =
    ap (λ t. t +ℤ env zero *ℤ poly_value s env) (add_constant_value a r (later env))
    ∙ +ℤ_assoc a (poly_value r (later env)) (env zero *ℤ poly_value s env)

-- a sum's value is the sum of the values
add_value : (p q : Poly) (env : ℕ → ℤ) → poly_value (add_polynomials p q) env ≡ poly_value p env +ℤ poly_value q env
add_value (constant a) q env = add_constant_value a q env
add_value (horner r s) (constant b) env = add_constant_value b (horner r s) env ∙ +ℤ_comm b (poly_value (horner r s) env)
add_value (horner r s) (horner r' s') env =
    join_value (add_polynomials r r') (add_polynomials s s') env
    ∙ ap₂ (λ t u. t +ℤ env zero *ℤ u) (add_value r r' (later env)) (add_value s s' env)
    ∙ ap (λ t. (poly_value r (later env) +ℤ poly_value r' (later env)) +ℤ t) (*ℤ-+ℤ (env zero) (poly_value s env) (poly_value s' env))
    ∙ +ℤ_regroup (poly_value r (later env)) (poly_value r' (later env)) (env zero *ℤ poly_value s env) (env zero *ℤ poly_value s' env)

-- the turned polynomial has the turned value
negate_value : (p : Poly) (env : ℕ → ℤ) → poly_value (negate p) env ≡ neg_ℤ (poly_value p env)
negate_value (constant a) env = refl
negate_value (horner r s) env =
    ap₂ (λ t u. t +ℤ env zero *ℤ u) (negate_value r (later env)) (negate_value s env)
    ∙ ap (λ t. neg_ℤ (poly_value r (later env)) +ℤ t) (*ℤ-neg_ℤ (env zero) (poly_value s env))
    ∙ sym (neg_ℤ-+ℤ (poly_value r (later env)) (env zero *ℤ poly_value s env))

-- c (a + x b) = c a + x (c b)
scaled : (c a x b : ℤ) → c *ℤ (a +ℤ x *ℤ b) ≡ c *ℤ a +ℤ x *ℤ (c *ℤ b)
scaled c a x b = *ℤ-+ℤ c a (x *ℤ b) ∙ ap (λ t. c *ℤ a +ℤ t) (*ℤ_left_comm c x b)

-- to scale multiplies the value
scale_value : (c : ℤ) (p : Poly) (env : ℕ → ℤ) → poly_value (scale c p) env ≡ c *ℤ poly_value p env
scale_value c (constant b) env = refl
scale_value c (horner r s) env =
    ap₂ (λ t u. t +ℤ env zero *ℤ u) (scale_value c r (later env)) (scale_value c s env)
    ∙ sym (scaled c (poly_value r (later env)) (env zero) (poly_value s env))

-- and so does the product with a constant
times_constant_value : (c : ℤ) (p : Poly) (env : ℕ → ℤ) → poly_value (times_constant c p) env ≡ c *ℤ poly_value p env
times_constant_value (pos zero) p env = sym (zero-*ℤ (poly_value p env))
times_constant_value (pos (suc n)) p env = scale_value (pos (suc n)) p env
times_constant_value (negsuc n) p env = scale_value (negsuc n) p env

-- where f multiplies the value by c, so does f along a polynomial
along_value : (f : Poly → Poly) (c : ℤ) (env : ℕ → ℤ) → ((p : Poly) → poly_value (f p) (later env) ≡ c *ℤ poly_value p (later env))
    → (q : Poly) → poly_value (along f q) env ≡ c *ℤ poly_value q env
along_value f c env h (constant b) =
    join_value (f (constant b)) (constant (pos 0)) env ∙ none_more (poly_value (f (constant b)) (later env)) (env zero) ∙ h (constant b)
along_value f c env h (horner r s) =
    join_value (f r) (along f s) env
    ∙ ap₂ (λ t u. t +ℤ env zero *ℤ u) (h r) (along_value f c env h s)
    ∙ sym (scaled c (poly_value r (later env)) (env zero) (poly_value s env))

-- a product's value is the product of the values
multiply_value : (p q : Poly) (env : ℕ → ℤ) → poly_value (multiply p q) env ≡ poly_value p env *ℤ poly_value q env
multiply_value (constant a) q env = times_constant_value a q env
multiply_value (horner r s) q env =
    add_value (along (multiply r) q) (join (constant (pos 0)) (multiply s q)) env
    ∙ ap₂ (λ t u. t +ℤ u)
    (along_value (multiply r) (poly_value r (later env)) env (λ p. multiply_value r p (later env)) q)
    (join_value (constant (pos 0)) (multiply s q) env
    ∙ +ℤ_idl (env zero *ℤ poly_value (multiply s q) env)
    ∙ ap (λ t. env zero *ℤ t) (multiply_value s q env)
    ∙ sym (*ℤ_assoc (env zero) (poly_value s env) (poly_value q env)))
    ∙ sym (+ℤ-*ℤ (poly_value r (later env)) (env zero *ℤ poly_value s env) (poly_value q env))

-- a polynomial that passes the test is worth 0
pub is_zero_value : (p : Poly) (env : ℕ → ℤ) → is_zero p ≡ true → poly_value p env ≡ pos 0
is_zero_value (constant (pos zero)) env t = refl
is_zero_value (constant (pos (suc n))) env t = cc
is_zero_value (constant (negsuc n)) env t = cc
is_zero_value (horner r s) env t =
    ap₂ (λ a b. a +ℤ env zero *ℤ b) (is_zero_value r (later env) (first t)) (is_zero_value s env (second t)) ∙ none_more (pos 0) (env zero)
  where
    go : (a b : Bool) → (a && b) ≡ true → (a ≡ true) × (b ≡ true)
    go true b e = (refl, e)
    go false b e = cc

    first : (is_zero r && is_zero s) ≡ true → is_zero r ≡ true
    first e = (go (is_zero r) (is_zero s) e).0

    second : (is_zero r && is_zero s) ≡ true → is_zero s ≡ true
    second e = (go (is_zero r) (is_zero s) e).1

-- an expression multiplied out keeps its value
pub norm_value : (e : Expr) (env : ℕ → ℤ) → poly_value (norm e) env ≡ value env e
norm_value (var i) env = variable_value i env
norm_value (num c) env = refl
norm_value (plus e f) env = add_value (norm e) (norm f) env ∙ ap₂ (λ a b. a +ℤ b) (norm_value e env) (norm_value f env)
norm_value (minus e f) env =
    add_value (norm e) (negate (norm f)) env
    ∙ ap₂ (λ a b. a +ℤ b) (norm_value e env) (negate_value (norm f) env ∙ ap neg_ℤ (norm_value f env))
norm_value (times e f) env = multiply_value (norm e) (norm f) env ∙ ap₂ (λ a b. a *ℤ b) (norm_value e env) (norm_value f env)
norm_value (neg e) env = negate_value (norm e) env ∙ ap neg_ℤ (norm_value e env)
