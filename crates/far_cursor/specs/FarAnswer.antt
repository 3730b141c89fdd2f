-- The rows of a search farthest first: all rows by falling gap, and what of them was given.
use Rattle.std.specs.Prelude.{◌≡◌, ℕ, suc, ◌*◌, ◌-◌, ◌≤◌, ◌++◌, List, [], map, length, All, Option, None, Some, Result, Ok, Err}
use Rattle.std.specs.Ordering.{nat_cmp, ordering_then}
use Rattle.std.specs.declared.cmp.Ordering.{Ordering}
use Rattle.exact_frac.specs.Frac.{value_cmp}
use Rattle.exact_frac.specs.declared.frac.Frac.{Frac}
use Rattle.sand_base.specs.declared.goal.Goal.TheVariants as figure
use Rattle.sand_base.specs.declared.point.Point.{Point}
use Rattle.sand_base.specs.declared.rect.Rect.{Rect}
use Rattle.sand_base.specs.declared.shape.Shape.{Shape}
use Rattle.sand_base.specs.declared.visit.Visit.{Visit}
use Rattle.z_code.specs.Block.{square_of}
use Rattle.z_code.specs.declared.block.Block.{Block}
use Rattle.sand_model.specs.Figures.{vertices_of}
use Rattle.sand_model.specs.Measure.{Measure}
use Rattle.sand_model.specs.Rings.{SomeOf}
use Rattle.sand_model.specs.Sources.{Found, sorted}
use Rattle.page_pool.specs.declared.fault.PageFault.{PageFault}
use Rattle.best_first.specs.Hierarchy.{Meaning}
use Rattle.best_first.specs.Item.{nodes_of}
use Rattle.best_first.specs.Visits.{SearchState, Makes}
use Rattle.best_first.specs.declared.hit.Hit.{Hit}
use Rattle.best_first.specs.declared.item.Item.{Item}
use Rattle.rank_cursor.specs.Answers.{RowStandsAt, AreGiven}
use Rattle.far_cursor.specs.Farthest.{spot_gap, diagonal, key_of_gap}

-- ---- rows

-- the row under its key
abbrev pub keyed : Found → Found
keyed found = record { gap = key_of_gap found.gap; left = found.left; right = found.right }

-- A row of the search with its key turned into its gap.
pub record IsTurned (key hit : Hit) : Type 0 where
  pub left : hit.left ≡ key.left
  pub right : hit.right ≡ key.right
  pub num : hit.gap.num ≡ diagonal * key.gap.den - key.gap.num
  pub den : hit.gap.den ≡ key.gap.den

-- so many rows of the list were given, the last one under this key
abbrev pub AreGivenFar : List Found → ℕ → Option Hit → Type 0
AreGivenFar rows n last = AreGiven (map keyed rows) n last

-- Where so many rows were given, a row that is given is the next one of the list; nothing is left exactly where all were given; after a refusal as many were given.
abbrev pub GivesFar : List Found → ℕ → Option Hit → Result (Option Hit) PageFault → Type 0
GivesFar rows n new (Ok (Some hit)) = RowStandsAt rows n hit × AreGivenFar rows (suc n) new
GivesFar rows n new (Ok None) = (n ≡ length rows) × AreGivenFar rows n new
GivesFar rows n new (Err fault) = AreGivenFar rows n new

-- ---- visits

-- some corner of the rectangle is at least this far from the point
abbrev pub HasFarCorner : Point → Frac → Rect → Type 0
HasFarCorner p gap r = SomeOf (λ corner. gap.num ≤ spot_gap p corner * gap.den) (vertices_of (figure.Rect r))

-- how far the blocks are that were visited before a row was given: each has a corner at least as far, and nothing was attempted in vain
abbrev pub AreFar : Point → List (Item Block) → List (Item Block) → Result (Option Hit) PageFault → Type 0
AreFar p attempt all (Ok (Some hit)) = (attempt ≡ []) × All (λ b. HasFarCorner p hit.gap (square_of b)) (nodes_of all)
AreFar p attempt all (Ok None) = attempt ≡ []
AreFar p attempt all (Err fault) = length attempt ≤ 1

-- What a call took, where the search had taken this before it: each visit was noted, and each block visited so far is far.
pub record FarVisits (cmp : Block → Block → Ordering) (m : Meaning Block) (note : Item Block → Visit) (p : Point) (done : List (Item Block))
    (old new : SearchState Block) (result : Result (Option Hit) PageFault) : Type 0 where
  pub attempt : List (Item Block)
  pub makes : Makes cmp m note done old new attempt
  pub far : AreFar p attempt (done ++ makes.taken) result
