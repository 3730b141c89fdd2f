-- The quadtree of a column is the one whose leaves the model prints.
use Rattle.std.proofs.Common.{◌≡◌, ℕ, zero, suc, ◌<◌, true, false, List, [], ◌∷◌, length, Some, None, refl, arith, slice_index_or}
use Rattle.page_pool.specs.Disk.{PageMap}
use Rattle.pmr_tree.specs.Quadtree.{tree_at}
use Rattle.pmr_tree.specs.declared.quadtree.Pmr.{Pmr}
use Rattle.sand_base.specs.Shape.{is_spatial}
use Rattle.sand_base.specs.declared.kind.Kind.{Kind}
use Rattle.sand_base.specs.declared.refusal.Refusal.TheVariants as why
use Rattle.sand_model.specs.Checks.{kind_named, is_indexed}
use Rattle.sand_model.specs.Database.{relation_named, column_named, element, index_at, Quadtree}
use Rattle.statements.specs.declared.column.Column.{Column}
use Rattle.sand_store.specs.Catalog.{CatalogView, RelationView, IsDescribed}
use Rattle.sand_store.specs.Contents.{database_in, relation_in}
use Rattle.sand_store.specs.Paths.{IsTreeOf, HasNoIndex}
use Rattle.sand_store.specs.Standing.{CatalogStands, RelationStands}
use Rattle.statement_exec.specs.LeafLines.{HasQuadtree, LacksTree}

-- the element at a place within a list
pub element_at : {A : Type 0} (xs : List A) (at : ℕ) (d : A) → at < length xs → element xs at ≡ Some (slice_index_or xs at d)
element_at [] at d h = absurd (omega arith)
element_at (x ∷ xs) zero d h = refl
element_at (x ∷ xs) (suc at) d h = element_at xs at d (omega arith)

module _ (catalog : CatalogView) (r : RelationView) (column : Column) (at : ℕ) (kind : List ℕ × Kind) (pages : PageMap)
    (named : relation_named (database_in pages catalog.relations) column.relation ≡ Some (relation_in pages r))
    (place : column_named r.schema column.column ≡ Some at) (is : element r.schema at ≡ Some kind) (spatial : is_spatial kind.1 ≡ true) where
  kind_is : kind_named (relation_in pages r) column.column ≡ Some kind.1
  kind_is = rw (place, is) refl

  pub has_tree : (tree : Pmr) → IsTreeOf r at tree → (CatalogStands pages catalog → RelationStands pages catalog.limits r) → HasQuadtree catalog column tree pages
  has_tree tree h stands =
      let index : index_at (relation_in pages r) at ≡ Some (Quadtree tree.threshold (tree_at pages tree)) = h.index pages in
      let indexed : is_indexed (relation_in pages r) column.column ≡ true = rw (place, index) refl in
      record {
        passes = λ setting cursors. rw (named, kind_is, indexed, spatial) refl;
        relation = relation_in pages r;
        named = named;
        lines = rw (place, index) refl;
        stands = λ c. (h.fits pages catalog.limits (stands c)).fits.tree;
      }

  pub lacks_tree : IsDescribed catalog.limits r → HasNoIndex r at true → LacksTree catalog column why.NoIndex pages
  lacks_tree described h =
      let index : index_at (relation_in pages r) at ≡ None = h catalog.limits described (kind.0, kind.1, is, spatial) pages in
      let indexed : is_indexed (relation_in pages r) column.column ≡ false = rw (place, index) refl in
      λ setting cursors. rw (named, kind_is, indexed, spatial) refl
