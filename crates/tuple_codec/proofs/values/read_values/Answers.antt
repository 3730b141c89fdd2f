-- Why a row stands in front, or none does.
use Rattle.std.proofs.Common.{[], ◌∷◌, ◌++◌, ap, map, ◌∙◌}
use Rattle.std.proofs.lemmas.List.Elements.{All-nil, All-push, All-same}
use Rattle.sand_base.specs.InRange.{IsValueInRange}
use Rattle.sand_base.specs.Shape.{value_kind}
use Rattle.tuple_codec.specs.Encoding.{value_bytes}
use Rattle.tuple_codec.specs.Decoding.{IsValueOf}
use Rattle.tuple_codec.proofs.PrefixFree.{some_of}
use Rattle.tuple_codec.proofs.Lists.{begins}
use Rattle.tuple_codec.proofs.Rows.{GoesWith, kinds_of, row_stops, row_reads, kinds_more, all_kinds}
use Rattle.tuple_codec.proofs.values.read_values.Goals as goal

-- no value was read yet
pub columns-init : goal.columns-init
columns-init c = record {
  kinds = ap (map value_kind) c.in_ok-values.ensures.items;
  in_range = All-same IsValueInRange c.in_ok-values.values.items [] c.in_ok-values.ensures.items (All-nil IsValueInRange);
  read = rw c.in_ok-values.ensures.items (begins (GoesWith (kinds_of c.args.columns.now)) value_bytes c.args.reader.now.left.now);
}

-- the value of a column is missing
pub returns-in_default : goal.returns-in_default
returns-in_default c =
    row_stops c.args.columns.now c.columns.kind-index c.columns-item.result c.columns.values.items c.columns-test.true c.columns-item.is
    c.columns.invariant.kinds c.args.reader.now.left.now c.columns.reader.left.now c.read_value.new.reader.left.now c.in_ok-value.field-0
    c.columns.invariant.read c.in_default.is c.in_ok-value.ensures

-- one more value was read
pub columns-preserved : goal.columns-preserved
columns-preserved c =
    let found = some_of (IsValueOf c.columns-item.result.1) value_bytes c.columns.reader.left.now c.read_value.new.reader.left.now
    c.in_ok-value.field-0 c.in-Some.value c.in-Some.is c.in_ok-value.ensures in
    record {
      kinds =
          ap (map value_kind) c.in_ok-push.ensures.items
          ∙ kinds_more c.args.columns.now c.columns.kind-index c.columns-item.result c.columns.values.items c.in-Some.value
          c.columns-test.true c.columns-item.is c.columns.invariant.kinds found.0.of_kind;
      in_range =
          All-same IsValueInRange c.push.new.self.items (c.columns.values.items ++ c.in-Some.value ∷ []) c.in_ok-push.ensures.items
          (All-push IsValueInRange c.columns.values.items c.in-Some.value c.columns.invariant.in_range found.0.in_range);
      read =
          rw c.in_ok-push.ensures.items
          (row_reads c.args.columns.now c.columns.kind-index c.columns-item.result c.columns.values.items c.columns-test.true c.columns-item.is
          c.columns.invariant.kinds c.args.reader.now.left.now c.columns.reader.left.now c.read_value.new.reader.left.now c.in-Some.value
          c.columns.invariant.read found.0 found.1);
    }

-- each column has its value
pub returns : goal.returns
returns c = (
  record {
    of_schema = all_kinds c.args.columns.now c.columns.kind-index c.columns.values.items c.columns-test.false c.columns.invariant.kinds;
    in_range = c.columns.invariant.in_range;
  },
  c.columns.invariant.read.read,
)
