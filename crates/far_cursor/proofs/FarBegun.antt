-- A cursor that was just made has given nothing and stands over all pages in which the catalog stands.
use Rattle.std.proofs.Common.{◌≡◌, ◌+◌, ℕ, List, [], Option, None, sym, ap, ◌∙◌, subst, Ordering}
use Rattle.sand_base.specs.declared.point.Point.{Point}
use Rattle.sand_base.specs.declared.shape.Shape.{Shape}
use Rattle.z_code.specs.declared.block.Block.{Block}
use Rattle.sand_model.specs.Database.{shapes_of}
use Rattle.statements.specs.declared.column.Column.{Column}
use Rattle.page_pool.specs.Disk.{PageMap}
use Rattle.pmr_tree.specs.Quadtree.{FitsRows}
use Rattle.pmr_tree.specs.declared.quadtree.Pmr.{Pmr}
use Rattle.sand_store.specs.Catalog.{CatalogView, RelationView}
use Rattle.sand_store.specs.Contents.{rows_at, rows_in}
use Rattle.sand_store.specs.Standing.{TableStands}
use Rattle.sand_store.specs.declared.column.FileShapes.{FileShapes}
use Rattle.best_first.specs.Frontier.{Stands}
use Rattle.best_first.specs.Hierarchy.{MeetsLaws}
use Rattle.best_first.specs.declared.hit.Hit.{Hit}
use Rattle.best_first.specs.declared.item.Item.{Item}
use Rattle.rank_cursor.specs.Ranking.{Ranking, rank_meaning}
use Rattle.far_cursor.specs.FarCursor.{shapes_in, far_in, HasTreeColumn, BeginsFar}
use Rattle.far_cursor.specs.FarLaws.{IsLawfulFarOver}
use Rattle.far_cursor.specs.FarRanking.{far_ranking}
use Rattle.far_cursor.specs.declared.far_tree.FarTree.{FarTree}

module _ (catalog : CatalogView) (column : Column) (r : RelationView) (at : ℕ) (t : Pmr) (goal : Point) (shapes : FileShapes)
    (schema : shapes.schema ≡ r.schema) (file : shapes.file ≡ r.file) (place : shapes.column ≡ at) where
  -- the shapes are those of the column
  shapes_are : (pages : PageMap) → shapes_in shapes pages ≡ shapes_of at (rows_in pages r)
  shapes_are pages i = shapes_of (place i) (rows_at pages (schema i) (file i))

  module _ (laws : IsLawfulFarOver (shapes_in shapes) (λ m. TableStands m shapes.schema shapes.file) (shapes.file.tree.height + 1) t goal)
      (tree : FarTree FileShapes) (of_shapes : tree.shapes ≡ shapes) (of_tree : tree.pmr ≡ t) (of_goal : tree.goal ≡ goal) where
    -- the search that was made is that over the column
    made : (pages : PageMap) → far_in tree pages ≡ far_ranking (shapes_in shapes) (λ m. TableStands m shapes.schema shapes.file) (shapes.file.tree.height + 1) t goal pages
    made pages i = far_ranking (shapes_in (of_shapes i)) (λ m. TableStands m (of_shapes i).schema (of_shapes i).file) ((of_shapes i).file.tree.height + 1) (of_tree i) (of_goal i) pages

    begun_here : (cmp : Block → Block → Ordering) (held : List (Item Block)) (last : Option Hit) → last ≡ None
        → ((p : PageMap) → MeetsLaws (rank_meaning (far_in tree p)) → Stands cmp (rank_meaning (far_in tree p)) held last [])
        → (pages : PageMap) → HasTreeColumn catalog column r at t pages → BeginsFar cmp catalog column goal tree held last pages
    begun_here cmp held last none stands pages has = record {
      passes = has.passes;
      rows = has.rows ∙ sym (ap (λ (s : FileShapes). shapes_in s pages) of_shapes ∙ shapes_are pages);
      from = of_goal;
      none = none;
      stands = λ c.
          let fits = subst (λ (rows : List (ℕ × Shape)). FitsRows pages t rows) (sym (shapes_are pages)) (has.fits c) in
          let table : TableStands pages shapes.schema shapes.file = subst (λ s. TableStands pages s shapes.file) (sym schema) (subst (λ f. TableStands pages r.schema f) (sym file) (has.table c)) in
          let lawful = subst (λ (x : Ranking). MeetsLaws (rank_meaning x)) (sym (made pages)) (laws pages fits table).hierarchy in
          (lawful, ([], stands pages lawful));
    }

    -- the search keeps the hierarchy that it was given
    pub begun_far : (cmp : Block → Block → Ordering) (kept : FarTree FileShapes) → kept ≡ tree → (held : List (Item Block)) (last : Option Hit) → last ≡ None
        → ((p : PageMap) → MeetsLaws (rank_meaning (far_in tree p)) → Stands cmp (rank_meaning (far_in tree p)) held last [])
        → (pages : PageMap) → HasTreeColumn catalog column r at t pages → BeginsFar cmp catalog column goal kept held last pages
    begun_far cmp kept same held last none stands pages has =
        subst (λ (x : FarTree FileShapes). BeginsFar cmp catalog column goal x held last pages) (sym same) (begun_here cmp held last none stands pages has)
