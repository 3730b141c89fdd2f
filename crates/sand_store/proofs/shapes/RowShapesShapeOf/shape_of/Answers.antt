-- the value is that of the id's row, so the shape is
use Rattle.std.proofs.Common.{subst, ℕ, List}
use Rattle.tuple_file.specs.Calls.{IsValueAt}
use Rattle.sand_store.specs.Contents.{rows_at}
use Rattle.sand_store.proofs.ColumnsOfShapes.{shape_fetched}
use Rattle.sand_store.proofs.shapes.RowShapesShapeOf.shape_of.Goals as goal

pub returns-in-Ok-clause-value : goal.returns-in-Ok-clause-value
returns-in-Ok-clause-value g c = λ told s at.
    let file = c.args.self.now.file in
    let schema = c.args.self.now.schema.now in
    let column = c.args.self.now.column in
    let table = c.requires told in
    let P : List (ℕ × List ℕ) → Type 0 = λ tuples. IsValueAt schema tuples c.args.id column c.in_ok-value.value in
    shape_fetched schema (rows_at (g.P.Pages.shown c.args.pages.now).pages schema file) column c.args.id c.in_ok-value.value c.in-Ok.shape s
    table.rows (subst P table.tuples (c.in_ok-value.ensures.value told)) c.in-Ok.ensures.value at
