-- The sources of plans that can be opened.
use Rattle.std.proofs.Common.{◌≡◌, ℕ, ℤ, Bool, true, false, ◌&&◌, Option, None, Some, refl, sym, ap, subst, true≢false, List}
use Rattle.page_pool.specs.Disk.{PageMap}
use Rattle.pmr_tree.specs.declared.quadtree.Pmr.{Pmr}
use Rattle.r_tree.specs.declared.tree.RTree.{RTree}
use Rattle.plan_sources.specs.NearPlans.{IsRtreeOf, BeginsNear}
use Rattle.sand_base.specs.declared.goal.Goal.{Goal}
use Rattle.sand_base.specs.declared.goal.Goal.TheVariants as figure
use Rattle.sand_base.specs.declared.kind.Kind.{Kind}
use Rattle.sand_base.specs.declared.kind.Kind.TheVariants as kind
use Rattle.sand_base.specs.declared.rect.Rect.{Rect}
use Rattle.sand_base.specs.declared.shape.Shape.{Shape}
use Rattle.sand_base.specs.declared.value.Value.{Value}
use Rattle.sand_base.specs.Shape.{is_spatial, value_kind, same_kind}
use Rattle.statements.specs.declared.column.Column.{Column}
use Rattle.statements.specs.declared.plan.Plan as declared
use Rattle.statements.specs.declared.plan.Plan.{Plan}
use Rattle.sand_model.specs.Checks.{check_operators, check_column, check_relation, is_plain}
use Rattle.sand_model.specs.Database.{Database}
use Rattle.statements.specs.Plan as model
use Rattle.sand_store.specs.Catalog.{CatalogView, RelationView, IsDescribed, IsColumnAt}
use Rattle.sand_store.specs.Contents.{database_in}
use Rattle.sand_store.specs.Paths.{IsTreeOf}
use Rattle.sand_store.specs.Standing.{CatalogStands, RelationStands}
use Rattle.statements.specs.Plan.{plan_value}
use Rattle.plan_names.proofs.Passed.{first_passed, second_passed}
use Rattle.plan_iterator.specs.SourceSteps.{nothing_taken}
use Rattle.plan_iterator.specs.Following.{Taking}
use Rattle.plan_sources.specs.Rankings.{IsColumnOf, Ranks, BeginsRanking}
use Rattle.plan_sources.specs.Joins.{JoinedColumns, Begins as BeginsPairs, BeginsFirsts, BeginsPartners}
use Rattle.plan_ops.specs.Checked.{IsChecked, IsNearChecked}
use Rattle.plan_ops.specs.Openable.{IsOpenable}

-- the database of a catalog
abbrev base_of : CatalogView → PageMap → Database
base_of catalog pages = database_in pages catalog.relations

passed : (catalog : CatalogView) (p q : Plan) → p ≡ q → IsOpenable catalog p → (pages : PageMap) → check_operators (base_of catalog pages) (plan_value q) ≡ None
passed catalog p q is o pages = subst (λ (x : Plan). check_operators (base_of catalog pages) (plan_value x) ≡ None) is (o.checked pages)

-- an int or a text is no shape
plain_kind : (k : Kind) (b : Bool) → (is_plain k && b) ≡ true → is_spatial k ≡ false
plain_kind kind.Int b e = refl
plain_kind kind.Text b e = refl
plain_kind kind.Point b e = absurd (true≢false (sym e))
plain_kind kind.Segment b e = absurd (true≢false (sym e))
plain_kind kind.Polygon b e = absurd (true≢false (sym e))

-- the columns that each source names passed their checks

pub scan_checked : (catalog : CatalogView) (p : Plan) (name : List ℕ) → p ≡ declared.Scan name → IsOpenable catalog p → (pages : PageMap) → check_relation (base_of catalog pages) name ≡ None
scan_checked catalog p name is o pages = passed catalog p (declared.Scan name) is o pages

pub rank_checked : (catalog : CatalogView) (p : Plan) (column : Column) (goal : Shape) (within : Option ℕ) → p ≡ declared.Rank column goal within → IsOpenable catalog p → (pages : PageMap)
    → IsChecked (base_of catalog pages) column true
rank_checked catalog p column goal within is o pages =
    record { asked = is_spatial; kinds = λ k e. e; passed = passed catalog p (declared.Rank column goal within) is o pages }

pub near_checked : (catalog : CatalogView) (p : Plan) (column : Column) (goal : Shape) (within : Option ℕ) → p ≡ declared.Near column goal within → IsOpenable catalog p → (pages : PageMap)
    → IsNearChecked (base_of catalog pages) column
near_checked catalog p column goal within is o pages = passed catalog p (declared.Near column goal within) is o pages

pub window_checked : (catalog : CatalogView) (p : Plan) (column : Column) (window : Rect) → p ≡ declared.Window column window → IsOpenable catalog p → (pages : PageMap)
    → IsChecked (base_of catalog pages) column true
window_checked catalog p column window is o pages =
    record { asked = is_spatial; kinds = λ k e. e; passed = passed catalog p (declared.Window column window) is o pages }

pub pick_checked : (catalog : CatalogView) (p : Plan) (column : Column) (v : Value) → p ≡ declared.PickEqual column v → IsOpenable catalog p → (pages : PageMap)
    → IsChecked (base_of catalog pages) column false
pick_checked catalog p column v is o pages =
    record { asked = λ k. is_plain k && same_kind k (value_kind v); kinds = λ k e. plain_kind k _ e; passed = passed catalog p (declared.PickEqual column v) is o pages }

pub ints_checked : (catalog : CatalogView) (p : Plan) (column : Column) (low high : ℤ) → p ≡ declared.PickBetween column low high → IsOpenable catalog p → (pages : PageMap)
    → check_column (base_of catalog pages) column (same_kind kind.Int) ≡ None
ints_checked catalog p column low high is o pages = passed catalog p (declared.PickBetween column low high) is o pages

-- both columns of a join, and of a semi-join

abbrev BothChecked : CatalogView → Column → Column → PageMap → Type 0
BothChecked catalog left right pages =
    IsChecked (base_of catalog pages) left true × IsChecked (base_of catalog pages) right true

both : (catalog : CatalogView) (left right : Column) (within : Option ℕ) (pages : PageMap) → check_operators (base_of catalog pages) (model.Join left right within) ≡ None
    → BothChecked catalog left right pages
both catalog left right within pages e =
    let one = check_column (base_of catalog pages) left is_spatial in
    let two = check_column (base_of catalog pages) right is_spatial in (
      record { asked = is_spatial; kinds = λ k e. e; passed = first_passed one two e },
      record { asked = is_spatial; kinds = λ k e. e; passed = second_passed one two e },
    )

pub join_checked : (catalog : CatalogView) (p : Plan) (left right : Column) (within : Option ℕ) → p ≡ declared.Join left right within → IsOpenable catalog p → (pages : PageMap)
    → BothChecked catalog left right pages
join_checked catalog p left right within is o pages = both catalog left right within pages (passed catalog p (declared.Join left right within) is o pages)

pub semi_checked : (catalog : CatalogView) (p : Plan) (left right : Column) (within : Option ℕ) → p ≡ declared.Semi left right within → IsOpenable catalog p → (pages : PageMap)
    → BothChecked catalog left right pages
semi_checked catalog p left right within is o pages = both catalog left right within pages (passed catalog p (declared.Semi left right within) is o pages)

pub knn_checked : (catalog : CatalogView) (p : Plan) (k : ℕ) (left right : Column) (within : Option ℕ) → p ≡ declared.Knn k left right within → IsOpenable catalog p → (pages : PageMap)
    → BothChecked catalog left right pages
knn_checked catalog p k left right within is o pages = both catalog left right within pages (passed catalog p (declared.Knn k left right within) is o pages)

-- where a column of shapes was found
pub record IsFound (catalog : CatalogView) (column : Column) (relation : RelationView) (at : ℕ) (tree : Pmr) : Type 0 where
  pub named : (pages : PageMap) → IsColumnOf pages relation at (base_of catalog pages) column
  pub spatial : IsColumnAt relation.schema at true
  pub tree_of : IsTreeOf relation at tree
  pub stands : (pages : PageMap) → CatalogStands pages catalog → RelationStands pages catalog.limits relation

-- nothing was taken of a source of the plan, over all pages over which the catalog stands
abbrev Untaken : Taking → CatalogView → model.Plan → Type 0
Untaken At catalog p = (pages : PageMap) → CatalogStands pages catalog → At pages (base_of catalog pages) p nothing_taken

pub rank_untaken : (At : Taking) (catalog : CatalogView) (column : Column) (relation : RelationView) (at : ℕ) (tree : Pmr) (goal : Goal) (ceiling : Option ℕ) (p : Plan) → IsOpenable catalog p
    → IsFound catalog column relation at tree → BeginsRanking At relation at tree goal ceiling → Ranks (plan_value p) column goal ceiling → Untaken At catalog (plan_value p)
rank_untaken At catalog column relation at tree goal ceiling p o found begins ranks pages h =
    begins found.tree_of pages catalog.limits o.described.limits (found.stands pages h) (base_of catalog pages) column (found.named pages) (plan_value p) ranks

-- where a column of shapes with an R-tree was found
pub record IsFoundNear (catalog : CatalogView) (column : Column) (relation : RelationView) (at : ℕ) (tree : RTree) : Type 0 where
  pub named : (pages : PageMap) → IsColumnOf pages relation at (base_of catalog pages) column
  pub tree_of : IsRtreeOf relation at tree
  pub described : IsDescribed catalog.limits relation
  pub stands : (pages : PageMap) → CatalogStands pages catalog → RelationStands pages catalog.limits relation

pub near_untaken : (At : Taking) (catalog : CatalogView) (column : Column) (relation : RelationView) (at : ℕ) (tree : RTree) (goal copied : Shape) (within : Option ℕ) (p : Plan) → IsOpenable catalog p
    → IsFoundNear catalog column relation at tree → BeginsNear At relation at tree copied within → p ≡ declared.Near column goal within → copied ≡ goal → Untaken At catalog (plan_value p)
near_untaken At catalog column relation at tree goal copied within p o found begins is same =
    subst (λ (q : Plan). Untaken At catalog (plan_value q)) (sym is) (λ pages h.
    subst (λ (s : Shape). At pages (base_of catalog pages) (model.Near column s within) nothing_taken) same
    (begins found.tree_of pages catalog.limits o.described.limits found.described (found.stands pages h) (base_of catalog pages) column (found.named pages)))

pub rank_ranks : (p : Plan) (column : Column) (goal copied : Shape) (within : Option ℕ) → p ≡ declared.Rank column goal within → copied ≡ goal
    → Ranks (plan_value p) column (figure.Shape copied) within
rank_ranks p column goal copied within is same =
    subst (λ (q : Plan). Ranks (plan_value q) column (figure.Shape copied) within) (sym is) (refl, ap (λ (s : Shape). figure.Shape s) (sym same), refl)

pub window_ranks : (p : Plan) (column : Column) (window : Rect) → p ≡ declared.Window column window → Ranks (plan_value p) column (figure.Rect window) (Some 0)
window_ranks p column window is =
    subst (λ (q : Plan). Ranks (plan_value q) column (figure.Rect window) (Some 0)) (sym is) (refl, refl, refl)

module _ (catalog : CatalogView) (p : Plan) (left right : Column) (within : Option ℕ) (one : RelationView) (at : ℕ) (tree : Pmr) (two : RelationView) (place : ℕ)
    (other : Pmr) (o : IsOpenable catalog p)
    (found : IsFound catalog left one at tree) (second : IsFound catalog right two place other) (At : Taking) where
  -- the two columns
  abbrev columns : JoinedColumns
  columns = record { left = record { relation = one; at = at; tree = tree }; right = record { relation = two; at = place; tree = other }; ceiling = within }

  pub join_untaken : p ≡ declared.Join left right within → BeginsPairs At columns → Untaken At catalog (plan_value p)
  join_untaken is begins =
      subst (λ (q : Plan). Untaken At catalog (plan_value q)) (sym is) (λ pages h.
      begins (found.tree_of, second.tree_of) pages (base_of catalog pages) left right (record {
        limits = catalog.limits;
        small = o.described.limits;
        left_stands = found.stands pages h;
        right_stands = second.stands pages h;
        left_column = found.named pages;
        right_column = second.named pages;
      }))

  pub semi_untaken : p ≡ declared.Semi left right within → BeginsFirsts At columns → Untaken At catalog (plan_value p)
  semi_untaken is begins =
      subst (λ (q : Plan). Untaken At catalog (plan_value q)) (sym is) (λ pages h.
      begins (found.tree_of, second.tree_of) found.spatial pages (base_of catalog pages) left right (record {
        limits = catalog.limits;
        small = o.described.limits;
        left_stands = found.stands pages h;
        right_stands = second.stands pages h;
        left_column = found.named pages;
        right_column = second.named pages;
      }))

  pub knn_untaken : (k : ℕ) → p ≡ declared.Knn k left right within → BeginsPartners k At columns → Untaken At catalog (plan_value p)
  knn_untaken k is begins =
      subst (λ (q : Plan). Untaken At catalog (plan_value q)) (sym is) (λ pages h.
      begins (found.tree_of, second.tree_of) found.spatial second.spatial pages (base_of catalog pages) left right (record {
        limits = catalog.limits;
        small = o.described.limits;
        left_stands = found.stands pages h;
        right_stands = second.stands pages h;
        left_column = found.named pages;
        right_column = second.named pages;
      }))
