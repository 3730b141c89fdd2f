-- What the rows that a plan has given need of its source, and what is then counted.
use Rattle.std.specs.Prelude.{◌≡◌, ◌⊎◌, ◌<◌, ◌≤◌, ℕ, Bool, true, false, length, take}
use Rattle.sand_model.specs.Answer.{source}
use Rattle.sand_model.specs.Database.{Database}
use Rattle.sand_model.specs.Measure.{Measure}
use Rattle.sand_model.specs.Operators.{over}
use Rattle.sand_model.specs.Reach.{Counts}
use Rattle.sand_model.specs.Taken.{Taken, is_full, is_lazy, beneath_sort}
use Rattle.statements.specs.Plan.{Plan}
use Rattle.plan_iterator.specs.Rows.{plan_measure}
use Rattle.plan_iterator.specs.SourceSteps.{next_taken, counts_taken}

-- the source was asked for what comes after its first k rows
abbrev pub WasAsked : Taken → ℕ → Type 0
WasAsked t k = (k < t.rows) ⊎ ((t.is_ended ≡ true) × (k ≡ t.rows))

-- So much was taken of the source of a plan that has given so many rows: it was asked only where no `first n` beneath the innermost sort
-- was full, and, without a sort, where the plan had no more rows than it has given.
pub record IsNeeded (gap : Measure) (d : Database) (p : Plan) (given : ℕ) (t : Taken) : Type 0 where
  pub within : t.rows ≤ length (source gap d p)
  pub ended : t.is_ended ≡ true → t.rows ≡ length (source gap d p)
  pub asks : (k : ℕ) → WasAsked t k → is_full gap d (beneath_sort p) (take k (source gap d p)) ≡ false
  pub few : is_lazy p ≡ true → (k : ℕ) → WasAsked t k → length (over gap d p (take k (source gap d p))) ≤ given

-- no count is above the other's
pub record AreAtMost (few many : Counts) : Type 0 where
  pub blocks : few.blocks ≤ many.blocks
  pub pairs : few.pairs ≤ many.pairs
  pub geometries : few.geometries ≤ many.geometries

-- the source may be asked: nothing beneath the innermost sort is full and, without a sort, the plan has no more rows than it has given
abbrev pub MayBeAsked : Database → Plan → ℕ → Taken → Type 0
MayBeAsked d p given t =
    (is_full plan_measure d (beneath_sort p) (take t.rows (source plan_measure d p)) ≡ false)
    × (is_lazy p ≡ true → length (over plan_measure d p (take t.rows (source plan_measure d p))) ≤ given)

-- The counts of a source of which so much was taken: those of its reach or, where a call was refused, at most those after that call.
pub record AreTakenCounts (d : Database) (p : Plan) (given : ℕ) (t : Taken) (seen : Counts) : Type 0 where
  pub low : AreAtMost (counts_taken d p t) seen
  pub exact : (seen ≡ counts_taken d p t) ⊎ (MayBeAsked d p given t × AreAtMost seen (counts_taken d p (next_taken d p t)))
