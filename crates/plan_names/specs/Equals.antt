-- The rows of a column whose values equal one that is given, and how they come one by one.
use Rattle.std.specs.Prelude.{◌≡◌, ℕ, nat_lt, List, [], ◌∷◌, filter, Option, Some, None}
use Rattle.sand_base.specs.declared.value.Value.{Value}
use Rattle.sand_model.specs.Database.{Database}
use Rattle.statements.specs.declared.column.Column.{Column}
use Rattle.sand_model.specs.Sources.{same_value, column_values}

-- the values of a column that equal the given one, with the ids of their rows, by id
abbrev pub equals : Database → Column → Value → List (ℕ × Value)
equals d column v = filter (λ pair. same_value pair.1 v) (column_values d column)

-- those of ids above this one
abbrev pub above : ℕ → List (ℕ × Value) → List (ℕ × Value)
above id pairs = filter (λ pair. nat_lt id pair.0) pairs

-- Of those above an id the first was given, and the others are those above the id that was given; or there was none.
abbrev pub GivesFirst : ℕ → List (ℕ × Value) → Option ℕ → Type 0
GivesFirst after pairs None = above after pairs ≡ []
GivesFirst after pairs (Some id) = (v : Value) × (above after pairs ≡ (id, v) ∷ above id pairs)
