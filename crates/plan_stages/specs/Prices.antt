-- What filters and fetches cost in page gets: one tuple for each place that is read of a row.
use Rattle.std.specs.Prelude.{ℕ, ◌+◌, List, [], ◌∷◌, Option, None, Some}
use Rattle.sand_model.specs.Price.{tuple_price}
use Rattle.plan_iterator.specs.declared.answer.Answer.{Answer}
use Rattle.plan_names.specs.declared.spot.Spot.{Spot}
use Rattle.plan_stages.specs.declared.tests.SpotTest.{SpotTest}

-- to read a place of a row: a tuple of its relation
abbrev pub spot_price : Spot → ℕ
spot_price s = tuple_price s.relation.value.file.tree.height

-- to read some places
abbrev pub spots_price : List Spot → ℕ
spots_price [] = 0
spots_price (spot ∷ spots) = spot_price spot + spots_price spots

-- to make some tests
abbrev pub tests_price : List SpotTest → ℕ
tests_price [] = 0
tests_price (test ∷ tests) = spot_price test.spot + tests_price tests

-- the price of a row that waits
abbrev pub if_waiting : Option Answer → ℕ → ℕ
if_waiting (Some a) price = price
if_waiting None price = 0
