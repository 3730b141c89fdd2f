-- What the loop over the values keeps.
use Rattle.std.proofs.Common.{◌≡◌, ◌≤◌, take}
use Rattle.sand_model.specs.RowSize.{row_size}
use Rattle.tuple_codec.proofs.size.tuple_size.Given as goal

-- the size of the values so far, which is within the bound
abbrev pub invariant-values : goal.invariant-values
invariant-values l = (l.size ≡ row_size (take l.value-index l.values)) × (l.size ≤ 3900)
