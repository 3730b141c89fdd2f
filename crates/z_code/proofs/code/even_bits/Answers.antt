-- The bits closed up, place by place.
use Rattle.std.proofs.Common.{◌+◌, ◌-◌, ◌*◌, ◌/◌, ◌%◌, ◌<◌, ◌^◌, ap, ◌∙◌, arith}
use Rattle.sand_base.specs.declared.TheConstants.{COORDINATE_BITS}
use Rattle.z_code.proofs.Powers.{four_pow}
use Rattle.z_code.proofs.Loops.{even_bits-none, even_bits-more, even_bits-all, even_bits-so_far}
use Rattle.z_code.proofs.code.even_bits.Goals as goal
use Rattle.z_code.proofs.code.even_bits.Goals.{In-places}

-- what is done so far is below the count of coordinates
short : (c : In-places) → c.places.coordinate < 2 ^ COORDINATE_BITS
short c = even_bits-so_far COORDINATE_BITS c.places.place c.args.z c.places.coordinate c.places.invariant

-- nothing is done at the highest place
pub places-init : goal.places-init
places-init c = even_bits-none _

-- twice that fits
pub overflow_mul-coordinate : goal.overflow_mul-coordinate
overflow_mul-coordinate c = omega (arith, short c)

-- likewise with the bit
pub overflow_add-coordinate : goal.overflow_add-coordinate
overflow_add-coordinate c = omega (arith, short c)

-- one more bit is done
pub places-preserved : goal.places-preserved
places-preserved c =
    ap (λ places. 2 * c.places.coordinate + c.args.z / places % 2) (four_pow (c.places.place - 1))
    ∙ even_bits-more COORDINATE_BITS c.places.place c.args.z c.places.coordinate (omega arith) (omega arith) c.places.invariant

-- all are done
pub returns-clause-value : goal.returns-clause-value
returns-clause-value c =
    even_bits-all COORDINATE_BITS c.places.place c.args.z c.places.coordinate (omega arith) c.places.invariant

-- and they are below the count
pub returns-clause-small : goal.returns-clause-small
returns-clause-small c =
    even_bits-so_far COORDINATE_BITS c.places.place c.args.z c.places.coordinate c.places.invariant
