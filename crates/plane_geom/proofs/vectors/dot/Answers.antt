-- The dot product is the sum of the products along both axes.
use Rattle.std.proofs.Common.{◌*◌, ◌^◌, ◌∙◌, ap₂, lit<, ◌+ℤ◌}
use Rattle.sand_base.specs.declared.TheConstants.{COORDINATE_BITS}
use Rattle.plane_geom.proofs.vectors.dot.Goals as goal
use Rattle.plane_geom.proofs.SignedWords.{sum_fits, sum_value, product_of}

-- the bounds of both products add up
pub overflow_add-result : goal.overflow_add-result
overflow_add-result c =
    sum_fits c.product.result c.product-2.result (2 ^ COORDINATE_BITS * 2 ^ COORDINATE_BITS)
    c.product.ensures.short c.product-2.ensures.short (lit< tt)

-- each product is that of its two steps, and the sum fits
pub returns-clause-value : goal.returns-clause-value
returns-clause-value c =
    sum_value c.product.result c.product-2.result (2 ^ COORDINATE_BITS * 2 ^ COORDINATE_BITS)
    c.product.ensures.short c.product-2.ensures.short (lit< tt)
    ∙ ap₂ (λ s t. s +ℤ t)
    (product_of _ _ _ _ _ (2 ^ COORDINATE_BITS) c.product.ensures.value c.step.ensures.value c.step-2.ensures.value
    c.step.ensures.short c.step-2.ensures.short (lit< tt))
    (product_of _ _ _ _ _ (2 ^ COORDINATE_BITS) c.product-2.ensures.value c.step-3.ensures.value c.step-4.ensures.value
    c.step-3.ensures.short c.step-4.ensures.short (lit< tt))
