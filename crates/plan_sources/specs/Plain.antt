-- Sources of rows without distance: what is left of their list.
use Rattle.std.specs.Prelude.{◌≡◌, ℕ, ◌+◌, ◌-◌, ◌*◌, ◌/◌, ◌%◌, ◌^◌, ◌<◌, ℤ, pos, negsuc, FitsSigned, nat_lt, nat_le, Bool, List, [], ◌∷◌, map, filter, drop, Option, Some, None}
use Rattle.std.specs.Int.{w64}
use Rattle.page_pool.specs.Disk.{PageMap}
use Rattle.sand_base.specs.InRange.{IsIntInRange}
use Rattle.sand_base.specs.declared.kind.Kind.TheVariants as kind
use Rattle.sand_base.specs.declared.value.Value.{Value}
use Rattle.sand_base.specs.declared.value.Value.TheVariants as value
use Rattle.sand_model.specs.Answer.{source, plain_row}
use Rattle.sand_model.specs.Database.{Database, Relation, relation_named, column_named, index_at}
use Rattle.sand_model.specs.Operators.{PlanRow}
use Rattle.statements.specs.Plan as plan
use Rattle.statements.specs.Plan.{Plan}
use Rattle.statements.specs.declared.column.Column.{Column}
use Rattle.sand_model.specs.Taken.{Taken}
use Rattle.pmr_tree.specs.Quadtree.{store_of}
use Rattle.attr_index.specs.Entries.{Entry, IntEntry, entry_number, is_int_within}
use Rattle.attr_index.specs.Index.{index_entries}
use Rattle.attr_index.specs.Key.{value_key, int_of}
use Rattle.sand_store.specs.Catalog.{RelationView}
use Rattle.sand_store.specs.Contents.{rows_in}
use Rattle.sand_store.specs.Standing.{kind_at}
use Rattle.plan_names.specs.Equals.{equals, above}
use Rattle.plan_names.specs.Indexed.{HasInts, IsLookUp}
use Rattle.plan_names.specs.Spots.{Stands}
use Rattle.plan_names.specs.declared.look_up.LookUp.{LookUp}
use Rattle.plan_iterator.specs.Rows.{plan_measure}

-- what is left of the rows of a plan's source when so much was taken
abbrev pub rows_left_of : Database → Plan → Taken → List PlanRow
rows_left_of d p t = drop t.rows (source plan_measure d p)

-- the ids of rows, and those above an id

-- the ids of rows
abbrev pub row_ids : {A : Type 0} → List (ℕ × A) → List ℕ
row_ids rows = map (λ row. row.0) rows

-- those of ids that are above an id
abbrev pub ids_above : ℕ → List ℕ → List ℕ
ids_above id ids = filter (nat_lt id) ids

-- Of the ids above the last one the first was given, and the others are those above the id that was given; or there was none.
abbrev pub GivesNextId : ℕ → List ℕ → Option ℕ → Type 0
GivesNextId last ids None = ids_above last ids ≡ []
GivesNextId last ids (Some id) = ids_above last ids ≡ id ∷ ids_above id ids

-- So much was taken of the scan of a relation: the rows above the last id are left.
pub record IsScan (r : RelationView) (last : ℕ) (pages : PageMap) (d : Database) (p : Plan) (t : Taken) : Type 0 where
  pub name : List ℕ
  pub is : p ≡ plan.Scan name
  pub stands : Stands pages r
  pub left : rows_left_of d p t ≡ map plain_row (ids_above last (row_ids (rows_in pages r)))

-- So much was taken of the pick of a value: the rows of an equal value above the last id are left.
pub record IsPickEqual (l : LookUp) (v : Value) (last : ℕ) (pages : PageMap) (d : Database) (p : Plan) (t : Taken) : Type 0 where
  pub column : Column
  pub is : p ≡ plan.PickEqual column v
  pub look_up : IsLookUp d column l pages
  pub left : rows_left_of d p t ≡ map (λ pair. plain_row pair.0) (above last (equals d column v))

-- ---- picks within bounds, by the numbers of the index

-- the int of an index's number is within the bounds
abbrev pub lies_within : ℤ → ℤ → ℕ → Bool
lies_within low high n = is_int_within low high (int_of (n / 2 ^ 32))

-- the row of an index's number
abbrev pub row_of_number : ℕ → PlanRow
row_of_number n = plain_row (n % 2 ^ 32)

-- the least number of an entry after another one
abbrev pub place_after : Option IntEntry → ℕ
place_after None = 0
place_after (Some a) = value_key (value.Int a.0) * 2 ^ 32 + a.1 + 1

-- the other entry has an int in range and an id of 32 bits
abbrev pub IsFitAfter : Option IntEntry → Type 0
IsFitAfter None = Unit {0}
IsFitAfter (Some a) = IsIntInRange a.0 × (a.1 < 2 ^ 32)

-- the numbers within bounds from the place of an entry on
abbrev pub left_from : ℤ → ℤ → ℕ → List Entry → List ℕ
left_from low high from es = filter (nat_le from) (filter (lies_within low high) (map entry_number es))

-- So much was taken of the pick of ints within bounds: the rows after the last entry are left.
pub record IsPickBetween (l : LookUp) (low high : ℤ) (last : Option IntEntry) (pages : PageMap) (d : Database) (p : Plan) (t : Taken) : Type 0 where
  pub column : Column
  pub is : p ≡ plan.PickBetween column low high
  pub look_up : IsLookUp d column l pages
  pub ints : HasInts l
  pub low_fits : FitsSigned w64 low
  pub high_fits : FitsSigned w64 high
  pub last_fits : IsFitAfter last
  pub left : rows_left_of d p t ≡ map row_of_number (left_from low high (place_after last) (index_entries (store_of pages) l.index))

-- how far an int lies below another one, and 0 where it doesn't
abbrev pub below_by : ℤ → ℤ → ℕ
below_by (pos a) (pos b) = b - a
below_by (pos a) (negsuc b) = 0
below_by (negsuc a) (pos b) = b + a + 1
below_by (negsuc a) (negsuc b) = a - b

-- at least as many as there may be entries after the last one, up to the upper bound
abbrev pub entries_left : ℤ → ℤ → Option IntEntry → ℕ
entries_left low high None = (below_by low high + 1) * (2 ^ 32 + 1)
entries_left low high (Some a) = below_by a.0 high * (2 ^ 32 + 1) + (2 ^ 32 - a.1)

-- a column of ints has no index, or there is no such column
abbrev pub LacksInts : Database → Column → Type 0
LacksInts d column =
    (r : Relation) (at : ℕ) → relation_named d column.relation ≡ Some r → column_named r.schema column.column ≡ Some at → kind_at r.schema at ≡ Some kind.Int → index_at r at ≡ None
