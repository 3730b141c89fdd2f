-- The cross product is the difference of the products across the axes.
use Rattle.std.proofs.Common.{◌*◌, ◌^◌, ◌≤◌, ◌∙◌, ap₂, sym, subst, lit<, lit≤, ◌-ℤ◌, arith}
use Rattle.std.specs.Int.RustNames.{unsigned_abs}
use Rattle.exact_frac.specs.declared.TheConstants.{MAX_DEN}
use Rattle.sand_base.specs.declared.TheConstants.{COORDINATE_BITS}
use Rattle.plane_geom.proofs.vectors.cross.Goals as goal
use Rattle.plane_geom.proofs.SignedWords.{difference_fits, difference_value, difference_short, product_of}

-- the difference fits, by the bounds of both products
pub overflow_sub-result : goal.overflow_sub-result
overflow_sub-result c =
    difference_fits c.product.result c.product-2.result (2 ^ COORDINATE_BITS * 2 ^ COORDINATE_BITS)
    c.product.ensures.short c.product-2.ensures.short (lit< tt)

-- each product is that of its two steps, and the difference fits
pub returns-clause-value : goal.returns-clause-value
returns-clause-value c =
    difference_value c.product.result c.product-2.result (2 ^ COORDINATE_BITS * 2 ^ COORDINATE_BITS)
    c.product.ensures.short c.product-2.ensures.short (lit< tt)
    ∙ ap₂ (λ s t. s -ℤ t)
    (product_of _ _ _ _ _ (2 ^ COORDINATE_BITS) c.product.ensures.value c.step.ensures.value c.step-2.ensures.value
    c.step.ensures.short c.step-2.ensures.short (lit< tt))
    (product_of _ _ _ _ _ (2 ^ COORDINATE_BITS) c.product-2.ensures.value c.step-3.ensures.value c.step-4.ensures.value
    c.step-3.ensures.short c.step-4.ensures.short (lit< tt))

-- the bounds of both products add up
pub returns-clause-short : goal.returns-clause-short
returns-clause-short c =
    let area = 2 ^ COORDINATE_BITS * 2 ^ COORDINATE_BITS in
    let bound : 2 * area ≤ MAX_DEN = lit≤ tt in
    let short = difference_short c.product.result c.product-2.result area c.product.ensures.short c.product-2.ensures.short in
    subst (λ t. unsigned_abs t ≤ MAX_DEN)
    (sym (difference_value c.product.result c.product-2.result area c.product.ensures.short c.product-2.ensures.short (lit< tt)))
    (omega arith)
