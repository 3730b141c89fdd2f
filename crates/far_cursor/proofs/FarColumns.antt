-- What the catalog tells of a column that is searched, and which check fails.
use Rattle.std.proofs.Common.{◌≡◌, ℕ, zero, suc, ◌<◌, true, false, List, [], ◌∷◌, length, Some, None, refl, arith, slice_index_or}
use Rattle.page_pool.specs.Disk.{PageMap}
use Rattle.pmr_tree.specs.Quadtree.{tree_at}
use Rattle.pmr_tree.specs.declared.quadtree.Pmr.{Pmr}
use Rattle.sand_base.specs.Shape.{is_spatial}
use Rattle.sand_base.specs.declared.kind.Kind.{Kind}
use Rattle.sand_base.specs.declared.refusal.Refusal.TheVariants as why
use Rattle.sand_model.specs.Checks.{kind_named, is_indexed}
use Rattle.sand_model.specs.Database.{relation_named, column_named, element, index_at, Quadtree}
use Rattle.statements.specs.declared.column.Column.{Column}
use Rattle.sand_store.specs.Catalog.{CatalogView, RelationView, IsDescribed}
use Rattle.sand_store.specs.Contents.{database_in, relation_in}
use Rattle.sand_store.specs.Paths.{IsTreeOf, HasNoIndex}
use Rattle.sand_store.specs.Standing.{CatalogStands, RelationStands}
use Rattle.far_cursor.specs.FarCursor.{HasTreeColumn, LacksColumn}

-- the element at a place within a list
pub element_at : {A : Type 0} (xs : List A) (at : ℕ) (d : A) → at < length xs → element xs at ≡ Some (slice_index_or xs at d)
element_at [] at d h = absurd (omega arith)
element_at (x ∷ xs) zero d h = refl
element_at (x ∷ xs) (suc at) d h = element_at xs at d (omega arith)

module _ (catalog : CatalogView) (column : Column) (pages : PageMap) where
  -- the relation is not there
  pub lacks_relation : relation_named (database_in pages catalog.relations) column.relation ≡ None → LacksColumn catalog column why.UnknownRelation pages
  lacks_relation named = rw named refl

  module _ (r : RelationView) (named : relation_named (database_in pages catalog.relations) column.relation ≡ Some (relation_in pages r)) where
    -- the column is not there
    pub lacks_name : column_named r.schema column.column ≡ None → LacksColumn catalog column why.UnknownColumn pages
    lacks_name place = rw (named, place) refl

    module _ (at : ℕ) (kind : List ℕ × Kind) (place : column_named r.schema column.column ≡ Some at) (is : element r.schema at ≡ Some kind) where
      kind_is : kind_named (relation_in pages r) column.column ≡ Some kind.1
      kind_is = rw (place, is) refl

      -- it holds no shapes
      pub lacks_shapes : is_spatial kind.1 ≡ false → LacksColumn catalog column why.WrongKind pages
      lacks_shapes plain = rw (named, kind_is, plain) refl

      module _ (spatial : is_spatial kind.1 ≡ true) where
        -- it has no quadtree
        pub lacks_index : IsDescribed catalog.limits r → HasNoIndex r at true → LacksColumn catalog column why.NoIndex pages
        lacks_index described h =
            let index : index_at (relation_in pages r) at ≡ None = h catalog.limits described (kind.0, kind.1, is, spatial) pages in
            let indexed : is_indexed (relation_in pages r) column.column ≡ false = rw (place, index) refl in
            rw (named, kind_is, indexed, spatial) refl

        -- all its checks pass
        pub has_column : (tree : Pmr) → IsTreeOf r at tree → (CatalogStands pages catalog → RelationStands pages catalog.limits r) → HasTreeColumn catalog column r at tree pages
        has_column tree h stands =
            let index : index_at (relation_in pages r) at ≡ Some (Quadtree tree.threshold (tree_at pages tree)) = h.index pages in
            let indexed : is_indexed (relation_in pages r) column.column ≡ true = rw (place, index) refl in
            record {
              passes = rw (named, kind_is, indexed, spatial) refl;
              rows = rw (named, place) refl;
              fits = λ c. (h.fits pages catalog.limits (stands c)).fits;
              table = λ c. (stands c).table;
            }
