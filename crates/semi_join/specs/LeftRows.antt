-- The left rows of a semi-join: one bit for each id that has had its first pair, and how many rows have had none.
use Rattle.std.specs.Prelude.{◌≡◌, ℕ, zero, suc, ◌-◌, ◌/◌, ◌%◌, Bool, false, cond, not, ◌&&◌, List, nat_eq, nat_lt, slice_index, Option, None, Some, Result, Ok, Err, refl}
use Rattle.std.specs.Int.{bit_at}
use Rattle.std.specs.Ordering.{nat_cmp}
use Rattle.std.specs.FinSet as set
use Rattle.std.specs.Coded.{Coded, code_by, coded×, coded_ℕ}
use Rattle.page_pool.specs.declared.fault.PageFault.{PageFault}
use Rattle.best_first.specs.declared.hit.Hit.{Hit}

-- a set of row ids
abbrev pub IdSet : Type 0
IdSet = set.FinSet nat_cmp

-- The ids of the left rows that were given with their first pair; a number that all ids in this set are below; and how many left rows wait for their first pair.
pub record LeftRows : Type 0 where
  pub given : IdSet
  pub below : ℕ
  pub waiting : ℕ

-- this left row was given too, and one less waits
abbrev pub gives : ℕ → LeftRows → LeftRows
gives id lefts = record lefts { given = set.insert lefts.given id; waiting = lefts.waiting - 1 }

-- whether the left row of this id waits: it has a bit, and was not given
abbrev pub is_waiting : LeftRows → ℕ → Bool
is_waiting lefts id = not (set.contains lefts.given id) && nat_lt id lefts.below

-- A row is given with a left id that was not given before, and this id is given from then on; any other answer leaves all left rows as they were.
abbrev pub GivesLeft : LeftRows → LeftRows → Result (Option Hit) PageFault → Type 0
GivesLeft old new (Ok (Some hit)) = (set.contains old.given hit.left ≡ false) × (new ≡ gives hit.left old)
GivesLeft old new (Ok None) = new ≡ old
GivesLeft old new (Err fault) = new ≡ old

-- ---- the bits

-- the id's bit is set, where the bits stand 64 in a word, the lowest first
abbrev pub has_left_bit : List ℕ → ℕ → Bool
has_left_bit words id = nat_eq (bit_at (slice_index words (id / 64)) (id % 64)) 1

-- the ids below n whose bits are set
unfoldable pub ids_below : List ℕ → ℕ → IdSet
ids_below words zero = set.empty
ids_below words (suc n) = cond (has_left_bit words n) (set.insert (ids_below words n) n) (ids_below words n)

-- left rows are stored as the triple of their parts
abbrev pub left_rows_code : Coded LeftRows
left_rows_code = code_by (IdSet × (ℕ × ℕ)) (coded× (set.code coded_ℕ) (coded× coded_ℕ coded_ℕ)) (λ s. (s.given, (s.below, s.waiting)))
    (λ p. record { given = p.0; below = p.1.0; waiting = p.1.1 }) (λ _. refl)
