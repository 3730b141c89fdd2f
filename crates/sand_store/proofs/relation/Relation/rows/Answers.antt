-- the file's tree counts the rows, and they are no more than ids
use Rattle.std.proofs.Common.{◌≡◌, ◌≤◌, length, ap, arith}
use Rattle.sand_store.specs.Catalog.{RelationView}
use Rattle.sand_store.specs.Contents.{rows_in}
use Rattle.sand_store.proofs.RowCounts.{rows_counted, rows_fewer}
use Rattle.sand_store.proofs.relation.Relation.rows.Goals as goal

pub returns : goal.returns
returns c = λ pages limits h.
    let r : RelationView = c.args.self.now in
    let entries : c.self.inside.file.tree.entries ≡ r.file.tree.entries = ap (λ (x : RelationView). x.file.tree.entries) c.self.view_is in
    let next : c.self.inside.next ≡ r.next = ap (λ (x : RelationView). x.next) c.self.view_is in
    let counted : r.file.tree.entries ≡ length (rows_in pages r) = rows_counted pages limits r h in
    let fewer : length (rows_in pages r) ≤ r.next = rows_fewer pages limits r h in
    omega (arith, c.min.ensures, entries, next, counted, fewer)
