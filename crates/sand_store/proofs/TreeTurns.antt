-- The R-tree of a column when a row entered or left.
use Rattle.std.proofs.Common.{◌≡◌, ℕ, ◌+◌, ◌<◌, List, [], ◌∷◌, ◌++◌, map, refl, sym, ◌∙◌, ap, Option, Some, None, subst, arith, inl, inr, All}
use Rattle.std.proofs.lemmas.List.Elements.{All-head, All-tail}
use Rattle.page_pool.specs.Disk.{PageMap}
use Rattle.code_btree.specs.Tree.{times}
use Rattle.code_btree.proofs.Lists.{same_cases}
use Rattle.r_tree.specs.declared.tree.RTree.{RTree}
use Rattle.r_tree.specs.Listing.{ListsRows, HasNoRowOf, Relists}
use Rattle.sand_base.specs.declared.shape.Shape.{Shape}
use Rattle.sand_base.specs.declared.value.Value.{Value}
use Rattle.sand_model.specs.Database.{shape_in, shapes_of, shape_at}
use Rattle.tuple_file.specs.Rows.{without_id}
use Rattle.sand_store.specs.declared.trees.RowChange.{RowChange}
use Rattle.sand_store.specs.declared.trees.RowChange.TheVariants.{Enters, Leaves}
use Rattle.sand_store.specs.Standing.{TreeStands}
use Rattle.sand_store.specs.Trees.{rows_after, CanChange, TreeChanged}
use Rattle.sand_store.proofs.ColumnsOfShapes.{shape_of_row}
use Rattle.sand_store.proofs.RowLists.{Rows, Shapes, ids_of, shapes_more}
use Rattle.sand_store.proofs.RowsLeft.{shapes_left}

-- an id above those of all rows is that of no shape
none_above : (column id : ℕ) (rows : Rows) → All (λ r. r.0 < id) rows → times id (ids_of (shapes_of column rows)) ≡ 0
none_above column id [] h = refl
none_above column id (r ∷ rows) h =
    let rest : times id (ids_of (shapes_of column rows)) ≡ 0 = none_above column id rows (All-tail (λ (x : ℕ × List Value). x.0 < id) r rows h) in
    let here : r.0 < id = All-head (λ (x : ℕ × List Value). x.0 < id) r rows h in
    let go : (o : Option Shape) → shape_in column r.1 ≡ o → times id (ids_of (shapes_of column (r ∷ rows))) ≡ 0 =
    elim [
      | None ↦ λ e. rw e rest
      | Some s ↦ λ e. rw e (elim (same_cases id r.0) [ inl y ↦ absurd (omega (arith, y.1, here)) | inr y ↦ omega (arith, y.0, rest) ])
    ] in
    go (shape_in column r.1) refl

-- what the tree asks of a row that enters
pub enters_can : (m : PageMap) (rows : Rows) (column : ℕ) (tree : RTree) (change : RowChange) (id : ℕ) (row : List Value) → change ≡ Enters → TreeStands m rows (column, tree)
    → CanChange change id row rows → (shapes : Shapes) × (ListsRows m tree shapes × HasNoRowOf id shapes)
enters_can m rows column tree change id row e stands can =
    let C : RowChange → Type 0 = λ x. CanChange x id row rows in
    (shapes_of column rows, (stands, none_above column id rows (subst C e can)))

-- and of one that leaves
pub leaves_can : (m : PageMap) (rows : Rows) (column : ℕ) (tree : RTree) (change : RowChange) (id : ℕ) (row : List Value) (s : Shape) → change ≡ Leaves → TreeStands m rows (column, tree)
    → CanChange change id row rows → shape_in column row ≡ Some s → (shapes : Shapes) × (ListsRows m tree shapes × (shape_at shapes id ≡ Some s))
leaves_can m rows column tree change id row s e stands can shape =
    let C : RowChange → Type 0 = λ x. CanChange x id row rows in
    (shapes_of column rows, (stands, shape_of_row rows column id row s (subst C e can) shape))

-- A row entered.
pub tree_entered : (m w : PageMap) (rows : Rows) (column : ℕ) (tree after : RTree) (change : RowChange) (id : ℕ) (row : List Value) (s : Shape) → change ≡ Enters → TreeStands m rows (column, tree)
    → shape_in column row ≡ Some s → ((shapes : Shapes) → ListsRows m tree shapes → Relists m w tree after (shapes ++ (id, s) ∷ []))
    → TreeChanged m w (rows_after change id row rows) column tree after
tree_entered m w rows column tree after change id row s e stands shape relists =
    let T : RowChange → Type 0 = λ x. TreeChanged m w (rows_after x id row rows) column tree after in
    let L : Shapes → Type 0 = λ shapes. ListsRows w after shapes in
    let r = relists (shapes_of column rows) stands in
    subst T (sym e) (record { stands = subst L (sym (shapes_more column rows id row s shape)) r.lists; keeps = r.keeps })

-- A row left.
pub tree_left : (m w : PageMap) (rows : Rows) (column : ℕ) (tree after : RTree) (change : RowChange) (id : ℕ) (row : List Value) (s : Shape) → change ≡ Leaves → TreeStands m rows (column, tree)
    → CanChange change id row rows → shape_in column row ≡ Some s
    → ((shapes : Shapes) → ListsRows m tree shapes → shape_at shapes id ≡ Some s → Relists m w tree after (without_id id shapes))
    → TreeChanged m w (rows_after change id row rows) column tree after
tree_left m w rows column tree after change id row s e stands can shape relists =
    let C : RowChange → Type 0 = λ x. CanChange x id row rows in
    let T : RowChange → Type 0 = λ x. TreeChanged m w (rows_after x id row rows) column tree after in
    let L : Shapes → Type 0 = λ shapes. ListsRows w after shapes in
    let r = relists (shapes_of column rows) stands (shape_of_row rows column id row s (subst C e can) shape) in
    subst T (sym e) (record { stands = subst L (sym (shapes_left column id rows)) r.lists; keeps = r.keeps })
