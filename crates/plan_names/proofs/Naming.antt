-- What names lead to.
use Rattle.std.proofs.Common.{◌≡◌, ℕ, Bool, List, sym, ◌∙◌, ap, subst}
use Rattle.std.specs.Prelude.{Option, None, Some}
use Rattle.page_pool.specs.Disk.{PageMap}
use Rattle.sand_base.specs.declared.kind.Kind.{Kind}
use Rattle.sand_base.specs.declared.limits.Limits.{Limits}
use Rattle.sand_model.specs.Database.{Database, Relation, column_named, index_at}
use Rattle.statements.specs.declared.column.Column.{Column}
use Rattle.sand_store.specs.Catalog.{IsDescribed, IsColumnAt}
use Rattle.sand_store.specs.Contents.{relation_in}
use Rattle.sand_store.specs.Paths.{HasNoIndex}
use Rattle.plan_names.specs.Spots.{LeadsToColumn}
use Rattle.plan_names.specs.Indexed.{LacksIndex}
use Rattle.plan_names.specs.declared.column_spot.ColumnSpot.{ColumnSpot}

some_is : {A : Type 0} (x y : A) → Some x ≡ Some y → x ≡ y
some_is {A} x y e = ap value_or e where
  value_or : Option A → A
  value_or None = x
  value_or (Some n) = n

-- what names lead to has no index, so the database has none there
pub lacks : (d : Database) (column : Column) (spot : ColumnSpot) (pages : PageMap) (limits : Limits) (spatial : Bool) → LeadsToColumn d column spot pages → IsDescribed limits spot.relation.value
    → HasNoIndex spot.relation.value spot.column spatial → LacksIndex d column spatial
lacks d column spot pages limits spatial l described none r at named placed is =
    let same : relation_in pages spot.relation.value ≡ r = some_is (relation_in pages spot.relation.value) r (sym l.relation ∙ named) in
    let schema : spot.relation.value.schema ≡ r.schema = ap (λ (x : Relation). x.schema) same in
    let there : spot.column ≡ at = some_is spot.column at (sym l.at ∙ (ap (λ (cs : List (List ℕ × Kind)). column_named cs column.column) schema ∙ placed)) in
    let C : List (List ℕ × Kind) → Type 0 = λ cs. IsColumnAt cs at spatial in
    let K : ℕ → Type 0 = λ k. IsColumnAt spot.relation.value.schema k spatial in
    let here : IsColumnAt spot.relation.value.schema spot.column spatial = subst K (sym there) (subst C (sym schema) is) in
    let P : ℕ → Type 0 = λ k. index_at (relation_in pages spot.relation.value) k ≡ None in
    let Q : Relation → Type 0 = λ x. index_at x at ≡ None in
    subst Q same (subst P there (none limits described here pages))
