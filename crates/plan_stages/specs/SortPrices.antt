-- What a sort costs in page gets: one tuple for the key of each row.
use Rattle.std.specs.Prelude.{ℕ, Option, None, Some}
use Rattle.sand_model.specs.Price.{tuple_price}
use Rattle.plan_iterator.specs.declared.answer.Answer.{Answer}
use Rattle.plan_names.specs.declared.spot.Spot.{Spot}

-- to read the key of a row at a place: a tuple of its relation
abbrev pub key_price : Spot → ℕ
key_price s = tuple_price s.relation.value.file.tree.height

-- the price of a row that waits for its key
abbrev pub if_waiting : Option Answer → ℕ → ℕ
if_waiting (Some a) price = price
if_waiting None price = 0
