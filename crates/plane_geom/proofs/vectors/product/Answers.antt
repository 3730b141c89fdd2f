-- The product of two steps fits a signed word.
use Rattle.std.proofs.Common.{◌*◌, ◌^◌, ◌≤◌, sym, subst, lit<}
use Rattle.std.specs.Int.RustNames.{unsigned_abs}
use Rattle.sand_base.specs.declared.TheConstants.{COORDINATE_BITS}
use Rattle.plane_geom.proofs.vectors.product.Goals as goal
use Rattle.plane_geom.proofs.SignedWords.{product_value, product_short}

-- nothing is lost
pub returns-clause-value : goal.returns-clause-value
returns-clause-value c =
    product_value c.args.a c.args.b (2 ^ COORDINATE_BITS) c.requires.a c.requires.b (lit< tt) (lit< tt)

-- the bounds multiply
pub returns-clause-short : goal.returns-clause-short
returns-clause-short c =
    subst (λ t. unsigned_abs t ≤ 2 ^ COORDINATE_BITS * 2 ^ COORDINATE_BITS)
    (sym (product_value c.args.a c.args.b (2 ^ COORDINATE_BITS) c.requires.a c.requires.b (lit< tt) (lit< tt)))
    (product_short c.args.a c.args.b (2 ^ COORDINATE_BITS) c.requires.a c.requires.b)
