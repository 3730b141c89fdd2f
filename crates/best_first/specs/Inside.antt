-- What the steps inside a call do to the frontier. (For proofs; no public clause speaks of it.)
use Rattle.std.specs.Prelude.{◌≡◌, ℕ, ◌<◌, ◌≤◌, List, ◌∷◌, ◌++◌, Bool, true, false, All, Contains, length, Option, Result, Ok, Err, IsPermutation}
use Rattle.std.specs.declared.cmp.Ordering.{Ordering}
use Rattle.std.specs.declared.cmp.Ordering.TheVariants.{Less, Equal}
use Rattle.exact_frac.specs.declared.frac.Frac.{Frac}
use Rattle.sand_base.specs.declared.visit.Visit.{Visit}
use Rattle.page_pool.specs.declared.fault.PageFault.{PageFault}
use Rattle.rank_queue.specs.Least.{IsFirst, IsLeastItem}
use Rattle.best_first.specs.declared.hit.Hit.{Hit}
use Rattle.best_first.specs.declared.item.Item.{Item}
use Rattle.best_first.specs.Item.{row_item}
use Rattle.best_first.specs.Reach.{IsAtMost, within}
use Rattle.best_first.specs.Hierarchy.{Meaning}
use Rattle.best_first.specs.Visits.{SearchState, Goes, Fails}
use Rattle.best_first.specs.Steps.{IsSettled}

-- The front left a queue, with all that is one with it; what is left comes after it.
pub record TakesEqual {T : Type 0} (cmp : T → T → Ordering) (front : T) (old new : List T) : Type 0 where
  pub first : T
  pub more : List T
  pub split : IsPermutation old ((first ∷ more) ++ new)
  pub equal : All (λ item. cmp front item ≡ Equal) (first ∷ more)
  pub after : All (λ item. cmp front item ≡ Less) new

-- What a fetch adds: the row, where its gap is at least the rough one and within the ceiling, and nothing else.
pub record AddsFetched {N : Type 0} (ceiling : Option ℕ) (rough : Frac) (hit : Hit) (added : List (Item N)) : Type 0 where
  pub only : All (λ item. (item ≡ row_item hit) × IsAtMost rough hit.gap × (within ceiling hit.gap ≡ true)) added
  pub whole : IsAtMost rough hit.gap → within ceiling hit.gap ≡ true → Contains added (row_item hit)

-- The row was queued, where it belongs.
pub record AddsRow {N : Type 0} (ceiling : Option ℕ) (rough : Frac) (hit : Hit) (old new : List (Item N)) : Type 0 where
  pub added : List (Item N)
  pub adds : AddsFetched ceiling rough hit added
  pub put : IsPermutation (added ++ old) new
  pub few : length added ≤ 1

-- The row that no queued item comes before is given, and all that is one with it leaves.
pub record GivesRow {N : Type 0} (cmp : Item N → Item N → Ordering) (hit : Hit) (old new : List (Item N)) : Type 0 where
  pub front : IsFirst cmp (row_item hit) old
  pub taken : TakesEqual cmp (row_item hit) old new

-- a step went on, found the front settled, or was refused
abbrev pub StepMoves : {N : Type 0} → (N → N → Ordering) → Meaning N → (Item N → Visit) → SearchState N → SearchState N → Result Bool PageFault → Type 0
StepMoves cmp m note old new (Ok on) = Goes cmp m note old new
StepMoves cmp m note old new (Err fault) = Fails cmp m note old new

-- a step that went on lowers the number, and no other raises it
abbrev pub StepFalls : ℕ → ℕ → Result Bool PageFault → Type 0
StepFalls old new (Ok true) = new < old
StepFalls old new (Ok false) = new ≡ old
StepFalls old new (Err fault) = new ≡ old

-- Some of what is one with the front has left a queue, and nothing that is left comes before the front.
pub record TakesSome {T : Type 0} (cmp : T → T → Ordering) (front : T) (old held : List T) : Type 0 where
  pub first : T
  pub more : List T
  pub split : IsPermutation old ((first ∷ more) ++ held)
  pub equal : All (λ item. cmp front item ≡ Equal) (first ∷ more)
  pub least : IsLeastItem cmp front held

-- a step that found nothing to do leaves all as it is, since the front is settled; where the front was settled, a step finds nothing to do
abbrev pub StepSettles : {N : Type 0} → (Item N → Item N → Ordering) → SearchState N → SearchState N → Result Bool PageFault → Type 0
StepSettles cmp old new (Ok true) = IsSettled cmp old.held → ⊥
StepSettles cmp old new (Ok false) = (new ≡ old) × IsSettled cmp old.held
StepSettles cmp old new (Err fault) = IsSettled cmp old.held → ⊥
