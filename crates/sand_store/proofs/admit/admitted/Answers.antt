-- the row is of the schema
use Rattle.std.proofs.Common.{subst}
use Rattle.tuple_codec.specs.Decoding.{IsRowFor}
use Rattle.sand_store.specs.Catalog.{RelationView}
use Rattle.sand_store.proofs.RowKinds.{row_told}
use Rattle.sand_store.proofs.admit.admitted.Goals as goal

pub encode-requires-clause-of_schema : goal.encode-requires-clause-of_schema
encode-requires-clause-of_schema c =
    row_told c.columns.result.now c.relation.inside.schema c.values.result.now c.args.row.now c.is_of_columns.result c.is_of_columns.ensures c.if-not-is_of_columns.false c.columns.ensures c.values.ensures

pub returns-clause-of : goal.returns-clause-of
returns-clause-of c =
    let F : RelationView → Type 0 = λ y. IsRowFor y.schema c.args.row.now in
    subst F c.relation.view_is (record {
      of_schema = row_told c.columns.result.now c.relation.inside.schema c.values.result.now c.args.row.now c.is_of_columns.result c.is_of_columns.ensures c.if-not-is_of_columns.false c.columns.ensures c.values.ensures;
      in_range = c.requires.range;
    })
