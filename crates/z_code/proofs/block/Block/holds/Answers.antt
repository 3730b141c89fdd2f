-- Whether a block lies inside another: by their levels and first codes.
use Rattle.z_code.proofs.Containment.{decides_lower, decides_higher, told}
use Rattle.z_code.proofs.block.Block.holds.Goals as goal

-- where this level is no greater, the first codes are compared
pub returns-then-self-other : goal.returns-then-self-other
returns-then-self-other c =
    told c.args.self c.args.other c.requires.block c.requires.other
    (decides_lower c.args.self c.args.other c.first_code.result c.if-self-other.true c.first_code.ensures)

-- and a higher block is never inside
pub returns-else-self-other : goal.returns-else-self-other
returns-else-self-other c =
    told c.args.self c.args.other c.requires.block c.requires.other (decides_higher c.args.self c.args.other c.if-self-other.false)
