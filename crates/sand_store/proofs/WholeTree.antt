-- A quadtree that was built of all rows at once is the column's new index.
use Rattle.std.proofs.Common.{◌≡◌, ℕ, ◌+◌, ◌^◌, ◌<◌, ◌≤◌, true, List, [], ◌∷◌, map, Option, Some, None, refl, sym, ◌∙◌, ap, ap₂, subst, arith, All}
use Rattle.std.specs.Prelude.{nat_lt}
use Rattle.std.proofs.lemmas.Bool.Decides.{nat_tests}
use Rattle.std.proofs.lemmas.List.Elements.{All-head, All-tail}
use Rattle.page_pool.specs.Disk.{PageMap}
use Rattle.page_pool.specs.Pool.{PoolState, IsTold}
use Rattle.page_pool.specs.Reads.{IsRead}
use Rattle.pmr_build.specs.Calls.{BuildsQuadtree}
use Rattle.pmr_build.specs.Members.{Member, AreMembersOf, AreRowsById}
use Rattle.pmr_tree.specs.Keys.{IsId}
use Rattle.pmr_tree.specs.Lists.{Each}
use Rattle.pmr_tree.specs.Quadtree.{tree_at}
use Rattle.pmr_tree.specs.declared.quadtree.Pmr.{Pmr}
use Rattle.sand_base.specs.declared.limits.Limits.{Limits}
use Rattle.sand_base.specs.declared.shape.Shape.{Shape}
use Rattle.sand_base.specs.declared.value.Value.{Value}
use Rattle.sand_model.specs.Database.{Quadtree as tree_index, shape_in, shapes_of, tree_of, new_index}
use Rattle.sand_model.specs.Measure.{Measure}
use Rattle.sand_model.specs.StatementChecks.{is_overfull}
use Rattle.sand_model.specs.Tree.{Tree, listings}
use Rattle.sand_store.specs.declared.path.AccessPath.TheVariants.{Quadtree}
use Rattle.sand_store.specs.Building.{Builds}
use Rattle.sand_store.specs.Catalog.{RelationView}
use Rattle.sand_store.specs.Contents.{rows_in}
use Rattle.sand_store.specs.Standing.{RelationStands, TableStands}
use Rattle.sand_store.proofs.Databases.{rises_at}
use Rattle.sand_store.proofs.RowLists.{Rows, ids_of, rises_shapes}

-- the ids of shapes are ids that rows may have
ids_of_rows : (column next : ℕ) (rows : Rows) → next ≤ 2 ^ 32 → All (λ r. (1 ≤ r.0) × (r.0 < next)) rows → Each IsId (ids_of (shapes_of column rows))
ids_of_rows column next [] l h = tt
ids_of_rows column next (r ∷ rows) l h =
    let P : ℕ × List Value → Type 0 = λ x. (1 ≤ x.0) × (x.0 < next) in
    let rest : Each IsId (ids_of (shapes_of column rows)) = ids_of_rows column next rows l (All-tail P r rows h) in
    let here : (1 ≤ r.0) × (r.0 < next) = All-head P r rows h in
    let one : IsId r.0 = record { above_mark = here.0; small = omega (arith, here.1, l) } in
    let go : (o : Option Shape) → shape_in column r.1 ≡ o → Each IsId (ids_of (shapes_of column (r ∷ rows))) =
    elim [ None ↦ λ n. rw n rest | Some x ↦ λ n. rw n (one, rest) ] in
    go (shape_in column r.1) refl

-- the rows of a relation can be built into a tree
pub rows_by_id : (m : PageMap) (limits : Limits) (x r : RelationView) (column : ℕ) → x ≡ r → x.next ≤ 2 ^ 32 → RelationStands m limits r → AreRowsById (shapes_of column (rows_in m x))
rows_by_id m limits x r column e l h =
    let H : RelationView → Type 0 = λ y. RelationStands m limits y in
    let k : RelationStands m limits x = subst H (sym e) h in record {
      rise = rises_shapes column (rows_in m x) (rises_at m x.schema x.file k.table.file);
      ids = ids_of_rows column x.next (rows_in m x) l k.given_out;
    }

-- The same behind a reading of the relation, as code has its parts: x is the relation r.

pub whole_stands : (first now : PoolState) (limits : Limits) (x r : RelationView) → x ≡ r → IsRead first now → (IsTold first → RelationStands first.pages limits r) → IsTold now
    → TableStands now.pages x.schema x.file
whole_stands first now limits x r e read h after =
    let H : RelationView → Type 0 = λ y. RelationStands first.pages limits y in
    let P : PageMap → Type 0 = λ p. TableStands p x.schema x.file in
    subst P (sym read.pages) (subst H (sym e) (h (sym read.told ∙ after))).table

pub whole_members : (first now : PoolState) (x r : RelationView) (column : ℕ) (list is : List Member) → x ≡ r → list ≡ is → IsRead first now
    → (IsTold first → AreMembersOf is (shapes_of column (rows_in first.pages x))) → IsTold now → AreMembersOf list (shapes_of column (rows_in now.pages x))
whole_members first now x r column list is view e read h after =
    let P : PageMap → Type 0 = λ p. AreMembersOf is (shapes_of column (rows_in p x)) in
    let L : List Member → Type 0 = λ xs. AreMembersOf xs (shapes_of column (rows_in now.pages x)) in
    subst L (sym e) (subst P (sym read.pages) (h (sym read.told ∙ after)))

pub whole_rows : (first now : PoolState) (limits : Limits) (x r : RelationView) (column : ℕ) → x ≡ r → x.next ≤ 2 ^ 32 → IsRead first now
    → (IsTold first → RelationStands first.pages limits r) → IsTold now
    → AreRowsById (shapes_of column (rows_in now.pages x))
whole_rows first now limits x r column e l read h after =
    let P : PageMap → Type 0 = λ p. AreRowsById (shapes_of column (rows_in p x)) in
    subst P (sym read.pages) (rows_by_id first.pages limits x r column e l (h (sym read.told ∙ after)))

-- the tree is the new index
pub whole_built : (m w : PageMap) (limits : Limits) (x r : RelationView) (column threshold : ℕ) (t : Pmr) → x ≡ r → 1 ≤ threshold → threshold ≤ 64 → t.threshold ≡ threshold
    → BuildsQuadtree m w t threshold (shapes_of column (rows_in m x)) → listings (tree_at w t) ≤ limits.listings
    → Builds m w limits r.schema (rows_in m r) column (Some threshold) (Quadtree t)
whole_built m w limits x r column threshold t e least most same b few =
    let B : RelationView → Type 0 = λ y. Builds m w limits y.schema (rows_in m y) column (Some threshold) (Quadtree t) in
    subst B e (record {
      stands = record { split = (omega (arith, least, same), omega (arith, most, same)); fits = b.fits; few = few };
      means = λ gap measure. ap₂ (λ (n : ℕ) (k : Tree). tree_index n k) same (b.tree gap measure);
      keeps = b.keeps;
    })

pub whole_got : (first now : PoolState) (w : PageMap) (limits : Limits) (x r : RelationView) (column threshold : ℕ) (t : Pmr) → x ≡ r → 1 ≤ threshold → threshold ≤ 64 → t.threshold ≡ threshold
    → IsRead first now → BuildsQuadtree now.pages w t threshold (shapes_of column (rows_in now.pages x)) → listings (tree_at w t) ≤ limits.listings
    → Builds first.pages w limits r.schema (rows_in first.pages r) column (Some threshold) (Quadtree t)
whole_got first now w limits x r column threshold t e least most same read b few =
    let P : PageMap → Type 0 = λ p. BuildsQuadtree p w t threshold (shapes_of column (rows_in p x)) in
    whole_built first.pages w limits x r column threshold t e least most same (subst P read.pages b) few

-- one that has too many listings is too full
pub whole_too_full : (gap : Measure) (m : PageMap) (limits : Limits) (x r : RelationView) (column threshold : ℕ) → x ≡ r
    → limits.listings < listings (tree_of gap (shapes_of column (rows_in m x)) threshold) → is_overfull limits (column, new_index gap (rows_in m r) column (Some threshold)) ≡ true
whole_too_full gap m limits x r column threshold e many =
    let B : RelationView → Type 0 = λ y. is_overfull limits (column, new_index gap (rows_in m y) column (Some threshold)) ≡ true in
    subst B e (less limits.listings (listings (tree_of gap (shapes_of column (rows_in m x)) threshold)) many)
  where
    less : (a b : ℕ) → a < b → nat_lt a b ≡ true
    less a b h = grind (arith, nat_tests)

pub whole_full : (gap : Measure) (first now : PoolState) (limits : Limits) (x r : RelationView) (column threshold : ℕ) → x ≡ r → IsRead first now
    → limits.listings < listings (tree_of gap (shapes_of column (rows_in now.pages x)) threshold) → is_overfull limits (column, new_index gap (rows_in first.pages r) column (Some threshold)) ≡ true
whole_full gap first now limits x r column threshold e read many =
    let P : PageMap → Type 0 = λ p. limits.listings < listings (tree_of gap (shapes_of column (rows_in p x)) threshold) in
    whole_too_full gap first.pages limits x r column threshold e (subst P read.pages many)
