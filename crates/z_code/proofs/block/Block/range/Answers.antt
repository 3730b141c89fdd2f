-- The range of a block holds the codes of the grid points in its half-open square.
use Rattle.std.proofs.Common.{◌-◌, ◌*◌, arith}
use Rattle.std.proofs.lemmas.Nat.{pow_pos}
use Rattle.sand_base.specs.declared.TheConstants.{COORDINATE_BITS}
use Rattle.z_code.proofs.Blocks.{IsCodeOfPointIn-from_code, HasCode-from_point_in, HasPoint-from_code, HasCode-from_point}
use Rattle.z_code.proofs.block.Block.range.Goals as goal

-- the codes between the two are those of the range
pub returns-clause-codes : goal.returns-clause-codes
returns-clause-codes c = λ z.
    let b = c.args.self in
    let some = pow_pos (2 * (COORDINATE_BITS - b.level)) in (
      λ within. IsCodeOfPointIn-from_code b c.requires z (record { from_first = within.0; below_next = omega (arith, within.1, c.code_count.ensures.value, some) }),
      λ of_point.
          let has = HasCode-from_point_in b c.requires z of_point in
          (has.from_first, omega (arith, has.below_next, c.code_count.ensures.value)),
    )

-- and those of the points in the square
pub returns-clause-points : goal.returns-clause-points
returns-clause-points c = λ p plane. (
  λ has. HasPoint-from_code c.args.self c.requires p plane has,
  λ has. HasCode-from_point c.args.self c.requires p has,
)
