-- the columns copied so far
use Rattle.std.proofs.Common.{◌≡◌, take}
use Rattle.sand_base.proofs.schema.Schema.copy.Given as goal

abbrev pub invariant-columns : goal.invariant-columns
invariant-columns l = l.columns.items ≡ take l.name-index l.name-items
