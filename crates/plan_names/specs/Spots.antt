-- Columns of a database and places of a plan's rows, and where they stand in a catalog.
use Rattle.std.specs.Prelude.{◌≡◌, ℕ, List, Option, None, Some, Result, IfOk, IfSome}
use Rattle.page_pool.specs.Disk.{PageMap}
use Rattle.sand_base.specs.declared.limits.Limits.{Limits}
use Rattle.sand_model.specs.Database.{Database, Relation, relation_named, column_named}
use Rattle.sand_model.specs.Operators.{kth}
use Rattle.statements.specs.declared.column.Column.{Column}
use Rattle.statements.specs.declared.column.Place.{Place}
use Rattle.sand_store.specs.Catalog.{RelationView}
use Rattle.sand_store.specs.Contents.{relation_in}
use Rattle.sand_store.specs.Standing.{RelationStands}
use Rattle.plan_names.specs.declared.column_spot.ColumnSpot.{ColumnSpot}
use Rattle.plan_names.specs.declared.spot.Spot.{Spot}

-- over these pages the relation stands, within some limits
abbrev pub Stands : PageMap → RelationView → Type 0
Stands pages relation = (limits : Limits) × RelationStands pages limits relation

-- the names lead to the relation of the catalog and the place of its column
pub record LeadsToColumn (d : Database) (column : Column) (spot : ColumnSpot) (pages : PageMap) : Type 0 where
  pub relation : relation_named d column.relation ≡ Some (relation_in pages spot.relation.value)
  pub at : column_named spot.relation.value.schema column.column ≡ Some spot.column

-- the column is that of the relation of the catalog, which stands over these pages
pub record IsColumnSpot (d : Database) (column : Column) (spot : ColumnSpot) (pages : PageMap) : Type 0 where
  pub relation : relation_named d column.relation ≡ Some (relation_in pages spot.relation.value)
  pub at : column_named spot.relation.value.schema column.column ≡ Some spot.column
  pub stands : Stands pages spot.relation.value

-- the place of a row is a column of the relation of the catalog of which its k-th id is, and this stands over these pages
pub record IsSpot (d : Database) (names : List (List ℕ)) (place : Place) (spot : Spot) (pages : PageMap) : Type 0 where
  pub name : List ℕ
  pub named : kth names place.k ≡ Some name
  pub number : spot.k ≡ place.k
  pub relation : relation_named d name ≡ Some (relation_in pages spot.relation.value)
  pub at : column_named spot.relation.value.schema place.column ≡ Some spot.column
  pub stands : Stands pages spot.relation.value

-- the column of these names
abbrev pub names_of : List ℕ → List ℕ → Column
names_of relation column = record { relation = relation; column = column }

-- what holds of what was found, where memory was there and something was found
abbrev pub IfFound : {T E : Type 0} → Result (Option T) E → (T → Type 0) → Type 0
IfFound result P = IfOk result (λ found. IfSome found P)

-- the database has no such column
abbrev pub HasNoColumn : Database → Column → Type 0
HasNoColumn d column = (r : Relation) → relation_named d column.relation ≡ Some r → column_named r.schema column.column ≡ None
