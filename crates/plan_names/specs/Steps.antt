-- A value of the row of an id, and how an index leads to rows with an equal value: what only proofs need.
use Rattle.std.specs.Prelude.{◌≡◌, ℕ, ℤ, ◌+◌, ◌*◌, ◌≤◌, min, Bool, true, false, List, [], ◌∷◌, filter, filter_map, Option, None, Some, option_map, option_and_then, Result, Ok, Err}
use Rattle.page_pool.specs.Causes.{failures_of}
use Rattle.page_pool.specs.Disk.{PageMap}
use Rattle.page_pool.specs.Pool.{PoolState, IsTold}
use Rattle.page_pool.specs.Reads.{IsRead}
use Rattle.sand_base.specs.Faults.{last_count}
use Rattle.sand_base.specs.declared.value.Value.{Value}
use Rattle.sand_base.specs.declared.value.Value.TheVariants as value
use Rattle.sand_model.specs.Database.{element}
use Rattle.sand_model.specs.Sources.{same_value}
use Rattle.tuple_file.specs.Rows.{of_id}
use Rattle.sand_store.specs.Contents.{rows_in}
use Rattle.plan_names.specs.Equals.{above}
use Rattle.page_pool.specs.declared.fault.PageFault.{PageFault}
use Rattle.plan_names.specs.LookUpCosts.{entries_above, entry_price}
use Rattle.plan_names.specs.declared.look_up.LookUp.{LookUp}
use Rattle.plan_names.specs.declared.look_up.Candidate.{Candidate}

-- the value that the row of the id has in a column
abbrev pub column_value : List (ℕ × List Value) → ℕ → ℕ → Option Value
column_value rows id at = option_and_then (λ values. element values at) (of_id id rows)

-- the value is an int
abbrev pub IsInt : Value → Type 0
IsInt v = (n : ℤ) × (v ≡ value.Int n)

-- the value, where there is one, equals the given one
abbrev pub is_equal : Value → Option Value → Bool
is_equal v None = false
is_equal v (Some w) = same_value w v

-- the row, where there is one, has an equal value in the column
abbrev pub has_equal : ℕ → Value → Option (List Value) → Bool
has_equal at v None = false
has_equal at v (Some values) = is_equal v (element values at)

-- the values that rows have in a column, with the ids
abbrev pub values_at : ℕ → List (ℕ × List Value) → List (ℕ × Value)
values_at at rows = filter_map (λ row. option_map (λ v. (row.0, v)) (element row.1 at)) rows

-- those that equal the given one
abbrev pub matches : ℕ → List (ℕ × List Value) → Value → List (ℕ × Value)
matches at rows v = filter (λ pair. same_value pair.1 v) (values_at at rows)

-- the rows with an equal value
abbrev pub found_in : PageMap → LookUp → Value → List (ℕ × Value)
found_in pages l v = matches l.spot.column (rows_in pages l.spot.relation.value) v

-- the next entry leads to the next row with the value, or to a row below that one
abbrev pub IsCandidate : ℕ → List (ℕ × Value) → ℕ → Bool → Type 0
IsCandidate last pairs id true = (v : Value) × (above last pairs ≡ (id, v) ∷ above id pairs)
IsCandidate last pairs id false = above last pairs ≡ above id pairs

-- an entry is a candidate; without one no row with the value is left
abbrev pub GivesCandidate : ℕ → List (ℕ × Value) → Option Candidate → Type 0
GivesCandidate last pairs None = above last pairs ≡ []
GivesCandidate last pairs (Some c) = IsCandidate last pairs c.id c.is_equal

-- the id of a candidate
abbrev pub id_of : Result (Option Candidate) PageFault → Result (Option ℕ) PageFault
id_of (Ok (Some c)) = Ok (Some c.id)
id_of (Ok None) = Ok None
id_of (Err fault) = Err fault

-- So far nothing changed, and no row with the value lies between the id from which a look-up began and the last one that the index gave.
pub record IsLooking (l : LookUp) (v : Value) (after last : ℕ) (old now : PoolState) : Type 0 where
  pub read : IsRead old now
  pub failures : failures_of now ≡ failures_of old
  pub up : min old.gets last_count ≤ now.gets
  pub reached : after ≤ last
  pub fewer : IsTold old → entries_above old.pages l v last ≤ entries_above old.pages l v after
  pub spent : IsTold old → now.gets + entries_above old.pages l v last * entry_price l v ≤ old.gets + entries_above old.pages l v after * entry_price l v
  pub left : IsTold old → above after (found_in old.pages l v) ≡ above last (found_in old.pages l v)
