-- A search over a join of which nothing was taken: it stands over all pages where both relations do.
use Rattle.std.proofs.Common.{◌≡◌, List, [], Option, None, refl, sym, subst, le_trans}
use Rattle.sand_base.specs.declared.limits.Limits.{Limits}
use Rattle.z_code.specs.declared.block.Block.{Block}
use Rattle.page_pool.specs.Disk.{PageMap}
use Rattle.pmr_tree.specs.Quadtree.{tree_at}
use Rattle.sand_model.specs.Database.{Database, shapes_of}
use Rattle.statements.specs.declared.column.Column.{Column}
use Rattle.sand_model.specs.Reach.{quadtree_of}
use Rattle.sand_model.specs.Sources.{column_shapes}
use Rattle.sand_store.specs.Catalog.{IsLimits}
use Rattle.sand_store.specs.Contents.{rows_in}
use Rattle.sand_store.specs.Paths.{IsTreeOf}
use Rattle.sand_store.specs.Standing.{RelationStands}
use Rattle.sand_store.specs.TableLaws.{shapes_plane}
use Rattle.best_first.specs.Frontier.{Stands}
use Rattle.best_first.specs.Hierarchy.{MeetsLaws}
use Rattle.best_first.specs.Visits.{IsCounted}
use Rattle.best_first.specs.declared.counts.Counts.{Counts}
use Rattle.best_first.specs.declared.hit.Hit.{Hit}
use Rattle.best_first.specs.declared.item.Item.{Item}
use Rattle.dist_join.specs.Joining.{IsSoundJoin, join_meaning}
use Rattle.dist_join.specs.OverPages.{side_at, IsFitted}
use Rattle.dist_join.proofs.Expanding.{sound}
use Rattle.dist_join.proofs.JoinLaws.{join_laws}
use Rattle.plan_sources.specs.Joins.{ColumnView, JoinedColumns, JoinView, side_of, join_view, side_in, joining_in, IsSideOf, IsSearched, HasTakenPairs, AreColumnsOf, HaveTrees, Begins}
use Rattle.plan_sources.specs.Rankings.{IsColumnOf}
use Rattle.plan_sources.proofs.PairOrder.{pair_cmp}

-- ---- a column

shapes_are : (pages : PageMap) (c : ColumnView) (d : Database) (column : Column) → IsColumnOf pages c.relation c.at d column → column_shapes d column ≡ shapes_of c.at (rows_in pages c.relation)
shapes_are pages c d column of = rw of.0 (rw of.1 refl)

tree_is : (pages : PageMap) (c : ColumnView) (d : Database) (column : Column) → IsColumnOf pages c.relation c.at d column → IsTreeOf c.relation c.at c.tree
    → quadtree_of d column ≡ tree_at pages c.tree
tree_is pages c d column of is = rw of.0 (rw of.1 (rw (is.index pages) refl))

is_side : (pages : PageMap) (limits : Limits) (c : ColumnView) (d : Database) (column : Column) → IsLimits limits → RelationStands pages limits c.relation → IsColumnOf pages c.relation c.at d column
    → IsTreeOf c.relation c.at c.tree → IsSideOf (side_at (side_in (side_of c)) pages) d column
is_side pages limits c d column small stands of is = record {
  shapes = shapes_are pages c d column of;
  tree = tree_is pages c d column of is;
  few = le_trans (is.fits pages limits stands).few small.few_listings;
}

fitted : (pages : PageMap) (limits : Limits) (c : ColumnView) → RelationStands pages limits c.relation → IsTreeOf c.relation c.at c.tree → IsFitted (side_in (side_of c)) pages
fitted pages limits c stands is = ((is.fits pages limits stands).fits, stands.table)

-- ---- a join

module _ (v : JoinedColumns) (trees : HaveTrees v) (pages : PageMap) (d : Database) (left right : Column) (of : AreColumnsOf v pages d left right) where
  pub left_side : IsSideOf (joining_in (join_view v) pages).left d left
  left_side = is_side pages of.limits v.left d left of.small of.left_stands of.left_column trees.0

  pub right_side : IsSideOf (joining_in (join_view v) pages).right d right
  right_side = is_side pages of.limits v.right d right of.small of.right_stands of.right_column trees.1

  pub is_sound : IsSoundJoin (joining_in (join_view v) pages)
  is_sound =
      sound (side_in (side_of v.left)) (side_in (side_of v.right)) v.ceiling (λ m h. shapes_plane v.left.relation.schema v.left.at (rows_in m v.left.relation) h.rows)
      (λ m h. shapes_plane v.right.relation.schema v.right.at (rows_in m v.right.relation) h.rows) pages
      (fitted pages of.limits v.left of.left_stands trees.0) (fitted pages of.limits v.right of.right_stands trees.1)

  pub searched : (held : List (Item (Block × Block))) (last : Option Hit) (counts : Counts) → IsCounted {N = Block × Block} [] counts
      → (MeetsLaws (join_meaning (joining_in (join_view v) pages)) → Stands pair_cmp (join_meaning (joining_in (join_view v) pages)) held last [])
      → IsSearched pair_cmp (joining_in (join_view v) pages) held last counts
  searched held last counts counted search = record {
    sound = is_sound;
    done = [];
    stands = search (join_laws (joining_in (join_view v) pages) is_sound);
    counted = counted;
  }

-- a search stands over what its hierarchy is of
pub moved_search : (wanted made : JoinView) → made ≡ wanted → (held : List (Item (Block × Block))) (last : Option Hit)
    → ((m : PageMap) → MeetsLaws (join_meaning (joining_in made m)) → Stands pair_cmp (join_meaning (joining_in made m)) held last [])
    → (m : PageMap) → MeetsLaws (join_meaning (joining_in wanted m)) → Stands pair_cmp (join_meaning (joining_in wanted m)) held last []
moved_search wanted made same held last stands =
    subst (λ (x : JoinView). (m : PageMap) → MeetsLaws (join_meaning (joining_in x m)) → Stands pair_cmp (join_meaning (joining_in x m)) held last []) same stands

-- the source that keeps this search has taken nothing, over all pages
pub begun_over : (wanted : JoinedColumns) (kept : JoinView) → kept ≡ join_view wanted → (held : List (Item (Block × Block))) (last : Option Hit) (counts : Counts) → last ≡ None
    → IsCounted {N = Block × Block} [] counts
    → ((m : PageMap) → MeetsLaws (join_meaning (joining_in (join_view wanted) m)) → Stands pair_cmp (join_meaning (joining_in (join_view wanted) m)) held last [])
    → Begins (λ m d p t. HasTakenPairs pair_cmp (joining_in kept m) held last counts d p t) wanted
begun_over wanted kept same held last counts none counted stands =
    subst (λ (x : JoinView). Begins (λ m d p t. HasTakenPairs pair_cmp (joining_in x m) held last counts d p t) wanted) (sym same)
    (λ trees m d left right of. record {
      left = left;
      right = right;
      is = refl;
      left_side = left_side wanted trees m d left right of;
      right_side = right_side wanted trees m d left right of;
      searched = searched wanted trees m d left right of held last counts counted (stands m);
      rows = none;
    })
