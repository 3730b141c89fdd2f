-- the rows below an id are entered, and the rest is still to come; no call was refused
use Rattle.std.proofs.Common.{◌-◌}
use Rattle.sand_store.proofs.HalfFilled.{Filling}
use Rattle.sand_store.proofs.index.filled.Given as goal

abbrev pub invariant-rows : goal.invariant-rows
invariant-rows g l = Filling l.fn.pool l.pool l.limits l.shapes.schema.now l.shapes.file l.shapes.column l.fn.path l.filled l.from

abbrev pub decreases-rows : goal.decreases-rows
decreases-rows g l = 4294967296 - l.from
