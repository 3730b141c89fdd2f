-- Columns of a catalog with their indexes, over pages.
use Rattle.std.specs.Prelude.{◌≡◌, ℕ, Bool, Some, None}
use Rattle.page_pool.specs.Disk.{PageMap}
use Rattle.sand_base.specs.declared.kind.Kind.TheVariants as kind
use Rattle.sand_model.specs.Database.{Database, Relation, relation_named, column_named, index_at}
use Rattle.statements.specs.declared.column.Column.{Column}
use Rattle.sand_store.specs.Catalog.{IsColumnAt}
use Rattle.sand_store.specs.Contents.{rows_in}
use Rattle.sand_store.specs.Standing.{HoldsColumn, kind_at}
use Rattle.plan_names.specs.Spots.{Stands, IsColumnSpot}
use Rattle.plan_names.specs.declared.look_up.LookUp.{LookUp}

-- the relation stands over these pages, and the index holds what its rows have in the column
pub record Holds (pages : PageMap) (look_up : LookUp) : Type 0 where
  pub stands : Stands pages look_up.spot.relation.value
  pub index : HoldsColumn pages look_up.spot.relation.value.schema (rows_in pages look_up.spot.relation.value) look_up.spot.column look_up.index

-- the column, where it is one of shapes or isn't, has no index
abbrev pub LacksIndex : Database → Column → Bool → Type 0
LacksIndex d column spatial =
    (r : Relation) (at : ℕ) → relation_named d column.relation ≡ Some r → column_named r.schema column.column ≡ Some at → IsColumnAt r.schema at spatial → index_at r at ≡ None

-- the column is one of ints
abbrev pub HasInts : LookUp → Type 0
HasInts l = kind_at l.spot.relation.value.schema l.spot.column ≡ Some kind.Int

-- the column is that of the catalog, and the index holds what its rows have there
pub record IsLookUp (d : Database) (column : Column) (look_up : LookUp) (pages : PageMap) : Type 0 where
  pub is : IsColumnSpot d column look_up.spot pages
  pub holds : Holds pages look_up
