-- The bits set apart, place by place.
use Rattle.std.proofs.Common.{◌+◌, ◌*◌, ◌<◌, ◌^◌, ap, ◌∙◌, arith}
use Rattle.sand_base.specs.declared.TheConstants.{COORDINATE_BITS}
use Rattle.z_code.proofs.Loops.{spread_bits-none, spread_bits-more, spread_bits-all, spread_bits-so_far}
use Rattle.z_code.proofs.code.spread_bits.Goals as goal
use Rattle.z_code.proofs.code.spread_bits.Goals.{In-places}

-- what is done so far is below the count of codes
short : (c : In-places) → c.places.code < 4 ^ COORDINATE_BITS
short c = spread_bits-so_far COORDINATE_BITS c.places.place c.args.coordinate c.places.code c.places.invariant

-- nothing is done at the highest place
pub places-init : goal.places-init
places-init c = spread_bits-none _

-- four times that fits
pub overflow_mul-code : goal.overflow_mul-code
overflow_mul-code c = omega (arith, short c)

-- likewise with the bit
pub overflow_add-code : goal.overflow_add-code
overflow_add-code c = omega (arith, short (goal.at.overflow_add-code c).In-places)

-- one more bit is done
pub places-preserved : goal.places-preserved
places-preserved c =
    ap (λ bit. 4 * c.places.code + bit) c.from.ensures
    ∙ spread_bits-more COORDINATE_BITS c.places.place c.args.coordinate c.places.code (omega arith) (omega arith) c.places.invariant

-- all are done
pub returns-clause-value : goal.returns-clause-value
returns-clause-value c =
    spread_bits-all COORDINATE_BITS c.places.place c.args.coordinate c.places.code (omega arith) c.places.invariant

-- and they are below the count
pub returns-clause-small : goal.returns-clause-small
returns-clause-small c =
    spread_bits-so_far COORDINATE_BITS c.places.place c.args.coordinate c.places.code c.places.invariant
