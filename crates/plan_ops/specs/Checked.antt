-- What of a plan passed its checks.
use Rattle.std.specs.Prelude.{◌≡◌, ℕ, Bool, true, List, None}
use Rattle.sand_base.specs.Shape.{is_spatial}
use Rattle.sand_base.specs.declared.kind.Kind.{Kind}
use Rattle.sand_model.specs.Checks.{check_column, check_rectangles, check_place}
use Rattle.sand_model.specs.Database.{Database}
use Rattle.statements.specs.declared.column.Column.{Column}
use Rattle.statements.specs.declared.column.Place.{Place}

-- A column passed: the kinds that were asked are all of shapes, or none is.
pub record IsChecked (d : Database) (column : Column) (spatial : Bool) : Type 0 where
  pub asked : Kind → Bool
  pub kinds : (k : Kind) → asked k ≡ true → is_spatial k ≡ spatial
  pub passed : check_column d column asked ≡ None

-- a spatial column with an R-tree passed
abbrev pub IsNearChecked : Database → Column → Type 0
IsNearChecked d column = check_rectangles d column ≡ None

-- A place of rows passed.
pub record IsPlaceChecked (d : Database) (names : List (List ℕ)) (place : Place) : Type 0 where
  pub asked : Kind → Bool
  pub passed : check_place d names place asked ≡ None
