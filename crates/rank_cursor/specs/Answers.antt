-- What a ranking gives: the rows of the model's list in its order, and visits that are as many as the model counts.
use Rattle.std.specs.Prelude.{◌≡◌, ℕ, zero, suc, Bool, List, length, filter, Option, None, Some}
use Rattle.exact_frac.specs.declared.frac.Frac.{Frac}
use Rattle.sand_base.specs.declared.goal.Goal.{Goal}
use Rattle.sand_base.specs.declared.shape.Shape.{Shape}
use Rattle.z_code.specs.declared.block.Block.{Block}
use Rattle.sand_model.specs.Database.{element}
use Rattle.sand_model.specs.Measure.{Measure}
use Rattle.sand_model.specs.Nodes.{rank_items, rank_gaps}
use Rattle.sand_model.specs.Reach.{Reach, reaches, roughs_within}
use Rattle.sand_model.specs.Sources.{Found}
use Rattle.sand_model.specs.Tree.{Tree}
use Rattle.best_first.specs.Answer.{IsNext, IsExhausted}
use Rattle.best_first.specs.Hierarchy.{Meaning}
use Rattle.best_first.specs.Item.{nodes_of, roughs_of}
use Rattle.best_first.specs.Reach.{IsSameGap}
use Rattle.best_first.specs.declared.hit.Hit.{Hit}
use Rattle.best_first.specs.declared.item.Item.{Item}

-- ---- rows

-- the row of the model is this one: the same ids, and gaps of one value
abbrev pub IsFoundRow : Found → Hit → Type 0
IsFoundRow found hit = IsSameGap found.gap hit.gap × (found.left ≡ hit.left) × (found.right ≡ hit.right)

-- the row stands at this place of the list, counted from 0
abbrev pub RowStandsAt : List Found → ℕ → Hit → Type 0
RowStandsAt rows n hit = (found : Found) × (element rows n ≡ Some found) × IsFoundRow found hit

-- so many rows of the list were given, this one last
abbrev pub AreGiven : List Found → ℕ → Option Hit → Type 0
AreGiven rows zero last = last ≡ None
AreGiven rows (suc n) None = ⊥
AreGiven rows (suc n) (Some hit) = RowStandsAt rows n hit

-- Whoever was given so many rows of the list is given the next one, and nothing is left exactly where it was given all.
pub record GivesList {N : Type 0} (m : Meaning N) (rows : List Found) : Type 0 where
  pub next : (n : ℕ) (last : Option Hit) (hit : Hit) → AreGiven rows n last → IsNext m last hit → RowStandsAt rows n hit
  pub over : (n : ℕ) (last : Option Hit) → AreGiven rows n last → IsExhausted m last → n ≡ length rows

-- ---- counts

-- the test of gaps takes in what the reach does, whichever fraction of its value stands for a gap
abbrev pub IsTestOf : Reach → (Frac → Bool) → Type 0
IsTestOf to test = (g h : Frac) → IsSameGap g h → test g ≡ reaches to h

-- What was taken counts as the model says at this reach: the places within it, and the rough objects with each of their gaps.
pub record CountsAs (gap : Measure) (goal : Goal) (shapes : List (ℕ × Shape)) (tree : Tree) (to : Reach) (done : List (Item Block)) : Type 0 where
  pub blocks : length (nodes_of done) ≡ length (filter (reaches to) (rank_gaps gap goal tree))
  pub geometries : length (roughs_of done) ≡ length (roughs_within to (rank_items gap goal shapes tree))
