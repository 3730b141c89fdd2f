-- The block round a point: its range has the point's code.
use Rattle.std.proofs.Common.{◌≡◌, ℕ, ◌*◌, ◌/◌, ap, ◌∙◌}
use Rattle.z_code.specs.Code.{code_of}
use Rattle.z_code.specs.Block.{code_count}
use Rattle.z_code.proofs.CodesOfPoints.{code_of-lt}
use Rattle.z_code.proofs.Places.{block}
use Rattle.z_code.proofs.Blocks.{block_of, HasCode-block_of, HasPoint-from_code, HasCode-from_point, same_block}
use Rattle.z_code.proofs.block.Block.of_point.Goals as goal

-- the first code of the level at or below the code of the point
first_of : (level code first point_code : ℕ) → first ≡ code / code_count level * code_count level → code ≡ point_code
    → first ≡ point_code / code_count level * code_count level
first_of level code first point_code is same = is ∙ ap (λ z. z / code_count level * code_count level) same

-- it begins there, so it is a block
pub returns-clause-block : goal.returns-clause-block
returns-clause-block c =
    let is = first_of c.args.level c.code_of.result c.first_code.result (code_of c.args.p) c.first_code.ensures c.code_of.ensures.value in
    block_of (code_of c.args.p) c.args.level c.first_code.result is (code_of-lt c.args.p) c.requires.in_tree

-- and its range has the code of the point
pub returns-clause-code : goal.returns-clause-code
returns-clause-code c =
    let is = first_of c.args.level c.code_of.result c.first_code.result (code_of c.args.p) c.first_code.ensures c.code_of.ensures.value in
    HasCode-block_of (code_of c.args.p) c.args.level c.first_code.result is

-- so the point is in its square
pub returns-clause-point : goal.returns-clause-point
returns-clause-point c =
    HasPoint-from_code (block c.first_code.result c.args.level) (returns-clause-block c) c.args.p c.requires.in_plane (returns-clause-code c)

-- and another block of the level with the point has the code too
pub returns-clause-only : goal.returns-clause-only
returns-clause-only c = λ b h level has.
    let result = block c.first_code.result c.args.level in
    same_block b result h (returns-clause-block c) level (code_of c.args.p) (HasCode-from_point b h c.args.p has) (returns-clause-code c)
