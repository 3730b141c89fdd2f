-- A ranking by an R-tree of which nothing was taken: it stands over all pages where its relation does and the R-tree lists its rows.
use Rattle.std.proofs.Common.{◌≡◌, ℕ, ◌+◌, ◌≤◌, true≢false, List, [], length, Option, None, refl, sym, ◌∙◌, subst, arith}
use Rattle.std.specs.Option.{option_map}
use Rattle.sand_base.specs.Faults.{last_count}
use Rattle.sand_base.specs.declared.goal.Goal.{Goal}
use Rattle.sand_base.specs.declared.goal.Goal.TheVariants as figure
use Rattle.sand_base.specs.declared.kind.Kind.{Kind}
use Rattle.sand_base.specs.declared.limits.Limits.{Limits}
use Rattle.sand_base.specs.declared.shape.Shape.{Shape}
use Rattle.sand_base.specs.declared.value.Value.{Value}
use Rattle.page_pool.specs.Disk.{PageMap}
use Rattle.r_tree.specs.declared.tree.RTree.{RTree}
use Rattle.r_tree.specs.Listing.{ListsRows}
use Rattle.tuple_file.specs.declared.file.TupleFile.{TupleFile}
use Rattle.sand_model.specs.Database.{Database, shapes_of, shape_in}
use Rattle.statements.specs.Plan as plan
use Rattle.statements.specs.declared.column.Column.{Column}
use Rattle.sand_model.specs.Sources.{column_shapes}
use Rattle.sand_store.specs.declared.column.FileShapes.{FileShapes}
use Rattle.sand_store.specs.Catalog.{RelationView, IsDescribed, IsLimits}
use Rattle.sand_store.specs.Contents.{rows_at, rows_in}
use Rattle.sand_store.specs.Standing.{TableStands, RelationStands}
use Rattle.sand_store.proofs.RowCounts.{rows_fewer}
use Rattle.best_first.specs.Frontier.{Stands}
use Rattle.best_first.specs.Hierarchy.{MeetsLaws}
use Rattle.best_first.specs.Visits.{IsCounted}
use Rattle.best_first.specs.declared.counts.Counts.{Counts}
use Rattle.best_first.specs.declared.hit.Hit.{Hit}
use Rattle.best_first.specs.declared.item.Item.{Item}
use Rattle.near_cursor.specs.declared.near_tree.NearTree.{NearTree}
use Rattle.near_cursor.specs.NearLaws.{IsLawfulNearOver}
use Rattle.near_cursor.specs.TreeNodes.{PageNode}
use Rattle.plan_iterator.specs.SourceSteps.{nothing_taken}
use Rattle.plan_sources.specs.Rankings.{IsColumnOf}
use Rattle.plan_sources.proofs.Shorter.{fewer_mapped}
use Rattle.plan_sources.specs.NearPlans.{rows_under, TableOf, fetch_of, nearing, by_page, HasTakenNear, BeginsNear}

-- the columns of a relation
abbrev Columns : Type 0
Columns = List (List ℕ × Kind)

-- the column's shapes are those of the relation
shapes_are : (pages : PageMap) (r : RelationView) (at : ℕ) (d : Database) (column : Column) → IsColumnOf pages r at d column → column_shapes d column ≡ shapes_of at (rows_in pages r)
shapes_are pages r at d column of = rw of.0 (rw of.1 refl)

-- and no more of them are there than a counter can tell
few_shapes : (pages : PageMap) (limits : Limits) (r : RelationView) (at : ℕ) → IsLimits limits → IsDescribed limits r → RelationStands pages limits r
    → length (shapes_of at (rows_in pages r)) ≤ last_count
few_shapes pages limits r at small described stands =
    let shapes = fewer_mapped {B = ℕ × Shape} (λ (row : ℕ × List Value). option_map (λ (s : Shape). (row.0, s)) (shape_in at row.1)) (rows_in pages r) in
    let rows = rows_fewer pages limits r stands in
    let ids = described.few in
    let most = small.few_ids in
    omega (arith, shapes, rows, ids, most)

-- a hierarchy that was made over the rows of a relation's column
pub record IsMadeOf (made : NearTree FileShapes) (r : RelationView) (at : ℕ) (by : RTree) (from : Shape) (most : Option ℕ) : Type 0 where
  pub schema : made.shapes.schema ≡ r.schema
  pub file : made.shapes.file ≡ r.file
  pub column : made.shapes.column ≡ at
  pub tree : made.tree ≡ by
  pub goal : made.goal ≡ figure.Shape from
  pub ceiling : made.ceiling ≡ most

-- the laws of a ranking are those of the hierarchy that was made of these
pub made_laws : (made : NearTree FileShapes) (shapes : FileShapes) (tree : RTree) (goal : Goal) (ceiling : Option ℕ) → made.shapes ≡ shapes → made.tree ≡ tree
    → made.goal ≡ goal → made.ceiling ≡ ceiling
    → IsLawfulNearOver (λ m. shapes_of shapes.column (rows_at m shapes.schema shapes.file)) (λ m. TableStands m shapes.schema shapes.file) (shapes.file.tree.height + 1) tree goal ceiling
    → IsLawfulNearOver (rows_under made) (TableOf made) (fetch_of made) made.tree made.goal made.ceiling
made_laws made shapes tree goal ceiling s t g c laws =
    subst (λ (x : FileShapes × (RTree × (Goal × Option ℕ))).
    IsLawfulNearOver (λ m. shapes_of x.0.column (rows_at m x.0.schema x.0.file)) (λ m. TableStands m x.0.schema x.0.file) (x.0.file.tree.height + 1) x.1.0 x.1.1.0 x.1.1.1)
    (λ i. (sym s i, (sym t i, (sym g i, sym c i)))) laws

-- the search that was made stands where nothing was taken, over all pages
pub begun : (r : RelationView) (at : ℕ) (tree : RTree) (goal : Shape) (ceiling : Option ℕ) (made kept : NearTree FileShapes) → kept ≡ made → IsMadeOf made r at tree goal ceiling
    → IsLawfulNearOver (rows_under made) (TableOf made) (fetch_of made) made.tree made.goal made.ceiling
    → (held : List (Item PageNode)) (last : Option Hit) (counts : Counts) → last ≡ None → IsCounted {N = PageNode} [] counts
    → ((m : PageMap) → MeetsLaws (nearing made m) → Stands by_page (nearing made m) held last [])
    → BeginsNear (λ m d p t. HasTakenNear kept m held last counts d p t) r at tree goal ceiling
begun r at tree goal ceiling made kept still is laws held last counts none counted search of_tree pages limits small described stands d column of =
    let rows_are : rows_under made pages ≡ shapes_of at (rows_in pages r) =
    λ i. shapes_of (is.column i) (rows_at pages (is.schema i) (is.file i)) in
    let table : TableOf made pages = subst (λ (x : Columns × TupleFile). TableStands pages x.0 x.1) (λ i. (sym is.schema i, sym is.file i)) stands.table in
    let listed : ListsRows pages made.tree (rows_under made pages) =
    subst (λ (x : RTree). ListsRows pages x (rows_under made pages)) (sym is.tree) (subst (ListsRows pages tree) (sym rows_are) (of_tree pages limits stands)) in
    let lawful = laws pages listed table in
    subst (λ (x : NearTree FileShapes). HasTakenNear x pages held last counts d (plan.Near column goal ceiling) nothing_taken) (sym still) record {
      column = column;
      goal = goal;
      is = λ i. plan.Near column goal (sym is.ceiling i);
      from_goal = is.goal;
      shapes = shapes_are pages r at d column of ∙ sym rows_are;
      few = subst (λ (xs : List (ℕ × Shape)). length xs ≤ last_count) (sym rows_are) (few_shapes pages limits r at small described stands);
      lawful = lawful;
      done = [];
      stands = search pages lawful.hierarchy;
      counted = counted;
      rows = none;
      ended = λ e. absurd (true≢false (sym e));
    }
