-- A search for a name by its place in a list.
use Rattle.std.specs.Borrow.{Bor}
use Rattle.std.specs.Prelude.{◌≡◌, ℕ, ◌+◌, List, length, Some, Result, Ok, Err}
use Rattle.sand_base.specs.declared.label.Label.{Label}
use Rattle.sand_model.specs.Database.{element}

-- the name that stands at the place, or how far the place is behind the end of the names
abbrev pub IsNamePlace : List (List ℕ) → ℕ → Result (Bor Label) ℕ → Type 0
IsNamePlace names at (Ok name) = element names at ≡ Some name.now
IsNamePlace names at (Err behind) = at ≡ length names + behind
