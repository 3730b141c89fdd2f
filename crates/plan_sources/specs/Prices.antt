-- What the steps of sources without distance cost in page gets.
use Rattle.std.specs.Prelude.{ℕ, ◌*◌}
use Rattle.page_pool.specs.Disk.{PageMap}
use Rattle.sand_base.specs.declared.value.Value.{Value}
use Rattle.plan_names.specs.LookUpCosts.{entries_above, entry_price}
use Rattle.plan_names.specs.declared.look_up.LookUp.{LookUp}
use Rattle.plan_iterator.specs.Prices.{Heights}

-- the heights of an index and of the file of the rows
abbrev pub heights_of : ℕ → ℕ → Heights
heights_of index rows = record { index = index; rows = rows; right_index = 0; right_rows = 0 }

-- the entries that a pick of a value has still to pass: those of its key above the last id
abbrev pub entries_price : PageMap → LookUp → Value → ℕ → ℕ
entries_price pages l v last = entries_above pages l v last * entry_price l v
