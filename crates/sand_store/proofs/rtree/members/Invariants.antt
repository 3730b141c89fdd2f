-- what is gathered so far, and nothing was changed
use Rattle.std.proofs.Common.{◌-◌}
use Rattle.sand_store.proofs.Gathering.{Gathering}
use Rattle.sand_store.proofs.rtree.members.Given as goal

abbrev pub invariant-rows : goal.invariant-rows
invariant-rows g l = Gathering l.fn.pool l.pool l.shapes.schema.now l.shapes.file l.shapes.column l.from l.members.items

abbrev pub decreases-rows : goal.decreases-rows
decreases-rows g l = 4294967296 - l.from
