-- What only the proof needs: where a search begins.
use Rattle.std.specs.Prelude.{ℕ, ◌+◌, ◌*◌, ◌^◌, max, ℤ, Option, None, Some}
use Rattle.attr_index.specs.Key.{offset}
use Rattle.attr_index.specs.Entries.{IntEntry}

-- the least place of an int not below the bound that comes after another entry
abbrev pub least_place : ℤ → Option IntEntry → ℕ
least_place low None = offset low * 2 ^ 64
least_place low (Some a) = max (offset low * 2 ^ 64) (offset a.0 * 2 ^ 64 + a.1 + 1)
