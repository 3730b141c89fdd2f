-- What the loop over the columns keeps.
use Rattle.std.proofs.Common.{◌≡◌, map, take}
use Rattle.sand_base.specs.Shape.{value_kind}
use Rattle.sand_base.specs.InRange.{IsRowInRange}
use Rattle.tuple_codec.specs.Encoding.{value_bytes}
use Rattle.tuple_codec.proofs.Lists.{HasRead}
use Rattle.tuple_codec.proofs.Rows.{GoesWith, kinds_of}
use Rattle.tuple_codec.proofs.values.read_values.Given as goal

-- a value was read for each column so far
abbrev pub invariant-columns : goal.invariant-columns
invariant-columns l = record {
  kinds : map value_kind l.values.items ≡ take l.kind-index (kinds_of l.columns);
  in_range : IsRowInRange l.values.items;
  read : HasRead (GoesWith (kinds_of l.columns)) value_bytes l.initial.reader.left.now l.values.items l.reader.left.now;
}
