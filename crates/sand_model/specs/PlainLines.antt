-- Lines that can't be taken for others: a row has an id, with which or with its gap its line begins, and no value ends the line.
use Rattle.std.specs.Prelude.{◌≡◌, ℕ, ◌==◌, ◌≤◌, Bool, true, false, cond, List, [], ◌∷◌, length, All, ⊤}
use Rattle.std.specs.List.{list_all}
use Rattle.sand_base.specs.declared.value.Value.{Value}
use Rattle.sand_base.specs.declared.value.Value.TheVariants as value
use Rattle.sand_model.specs.Cursor.{OutputLine, Row, LeafOf}
use Rattle.sand_model.specs.Operators.{PlanRow}

-- no byte of the text is a line feed
abbrev pub has_no_feed : List ℕ → Bool
has_no_feed [] = true
has_no_feed (b ∷ bytes) = cond (b == 10) false (has_no_feed bytes)

-- the value is printed within its line: it is a number or a shape, or a text without a line feed
abbrev pub fits_line : Value → Bool
fits_line (value.Text text) = has_no_feed text
fits_line _ = true

-- The row has an id, and its values are printed within its line.
pub record IsPlainRow (row : PlanRow) : Type 0 where
  pub numbered : 1 ≤ length row.ids
  pub one_line : list_all fits_line row.values ≡ true

-- the line is that of a row like this
abbrev pub IsRowLine : OutputLine → Type 0
IsRowLine (Row row) = IsPlainRow row
IsRowLine _ = ⊥

-- so many lines of rows, and no other
abbrev pub AreLinesOfRows : ℕ → List OutputLine → Type 0
AreLinesOfRows rows lines = All IsRowLine lines × (length lines ≡ rows)

-- the line is that of a leaf
abbrev pub IsLeafLine : OutputLine → Type 0
IsLeafLine (LeafOf b ids) = ⊤
IsLeafLine _ = ⊥

-- the line is that of a row like this, or of no row
abbrev pub IsPlainLine : OutputLine → Type 0
IsPlainLine (Row row) = IsPlainRow row
IsPlainLine _ = ⊤
