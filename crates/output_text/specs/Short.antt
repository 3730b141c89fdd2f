-- Rows whose lines are short.
use Rattle.std.specs.Prelude.{◌≡◌, ℕ, List, [], ◌<◌, ◌≤◌, ◌^◌, length}
use Rattle.sand_base.specs.declared.value.Value.{Value}
use Rattle.output_text.specs.declared.short_rows.TheConstants.{MOST_IDS}

-- the gap is a whole number of 64 bits, the ids are few, and no values were fetched
pub record IsShortRow (num den : ℕ) (ids : List ℕ) (values : List Value) : Type 0 where
  pub whole : den ≡ 1
  pub word : num < 2 ^ 64
  pub few : length ids ≤ MOST_IDS
  pub none : values ≡ []
