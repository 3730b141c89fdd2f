-- The calls of a ranking by an R-tree, over whatever pages the disk tells.
use Rattle.std.proofs.Common.{◌≡◌, ℕ, Option, None, Some, Result, Ok, Err, IfSome, sym, subst}
use Rattle.page_pool.specs.Disk.{PageMap}
use Rattle.page_pool.specs.declared.fault.PageFault.{PageFault}
use Rattle.sand_model.specs.Database.{Database}
use Rattle.statements.specs.Plan.{Plan}
use Rattle.sand_model.specs.Taken.{Taken}
use Rattle.sand_store.specs.declared.column.FileShapes.{FileShapes}
use Rattle.best_first.specs.Frontier.{StandsOver}
use Rattle.best_first.specs.Visits.{SearchState, MakesVisits, GivesNext}
use Rattle.best_first.specs.declared.hit.Hit.{Hit}
use Rattle.near_cursor.specs.declared.near_tree.NearTree.{NearTree}
use Rattle.near_cursor.specs.NearRanking.{near_visit}
use Rattle.near_cursor.specs.TreeNodes.{PageNode}
use Rattle.plan_iterator.specs.SourceSteps.{SourceStep}
use Rattle.plan_iterator.specs.declared.answer.Answer.{Answer}
use Rattle.plan_sources.proofs.RankCalls.{TellsRow}
use Rattle.plan_sources.specs.NearPlans.{HasTakenNear, nearing, by_page}
use Rattle.plan_sources.proofs.NearCalls.{counts_by, row_step, end_step, fault_step}

-- where something was taken the search stands
pub asked : (pages : Option PageMap) (tree : NearTree FileShapes) (s : SearchState PageNode)
    → IfSome pages (λ m. (d : Database) × ((p : Plan) × ((t : Taken) × HasTakenNear tree m s.held s.last s.counts d p t)))
    → IfSome pages (λ m. StandsOver by_page (nearing tree m) s.held s.last)
asked None tree s h = tt
asked (Some m) tree s (d, (p, (t, h))) = (h.lawful.hierarchy, (h.done, h.stands))

module _ (number : ℕ) where
  -- what a call of the source does, over these pages
  abbrev pub StepOver : NearTree FileShapes → NearTree FileShapes → SearchState PageNode → SearchState PageNode → Result (Option Answer) PageFault → PageMap → Type 0
  StepOver tree after old new answer m =
      (d : Database) (p : Plan) (t : Taken) → HasTakenNear tree m old.held old.last old.counts d p t
      → SourceStep m d p t (counts_by old.counts) (counts_by new.counts) old.desk new.desk answer (HasTakenNear after m new.held new.last new.counts d p)

  unchanged : (pages : Option PageMap) (tree after : NearTree FileShapes) (old new : SearchState PageNode) (answer : Result (Option Answer) PageFault) → after ≡ tree
      → IfSome pages (StepOver tree tree old new answer) → IfSome pages (StepOver tree after old new answer)
  unchanged pages tree after old new answer same h = subst (λ (x : NearTree FileShapes). IfSome pages (StepOver tree x old new answer)) (sym same) h

  pub row_over : (pages : Option PageMap) (tree after : NearTree FileShapes) (old new : SearchState PageNode) (hit : Hit) (a : Answer) → after ≡ tree → TellsRow a hit → new.last ≡ Some hit
      → IfSome pages (λ m. GivesNext (nearing tree m) old.last (Ok (Some hit)))
      → IfSome pages (λ m. MakesVisits by_page (nearing tree m) (near_visit number) old new (Ok (Some hit)))
      → IfSome pages (StepOver tree after old new (Ok (Some a)))
  row_over None tree after old new hit a same tells last next makes = tt
  row_over (Some m) tree after old new hit a same tells last next makes =
      unchanged (Some m) tree after old new (Ok (Some a)) same (λ d p t h. row_step tree m number d p t old h new hit a tells next last makes)

  pub end_over : (pages : Option PageMap) (tree after : NearTree FileShapes) (old new : SearchState PageNode) → after ≡ tree → new.last ≡ old.last
      → IfSome pages (λ m. GivesNext (nearing tree m) old.last (Ok None))
      → IfSome pages (λ m. MakesVisits by_page (nearing tree m) (near_visit number) old new (Ok None))
      → IfSome pages (StepOver tree after old new (Ok None))
  end_over None tree after old new same last next makes = tt
  end_over (Some m) tree after old new same last next makes =
      unchanged (Some m) tree after old new (Ok None) same (λ d p t h. end_step tree m number d p t old h new next last makes)

  pub fault_over : (pages : Option PageMap) (tree after : NearTree FileShapes) (old new : SearchState PageNode) (fault : PageFault) → after ≡ tree → new.last ≡ old.last
      → IfSome pages (λ m. MakesVisits by_page (nearing tree m) (near_visit number) old new (Err fault))
      → IfSome pages (StepOver tree after old new (Err fault))
  fault_over None tree after old new fault same last makes = tt
  fault_over (Some m) tree after old new fault same last makes =
      unchanged (Some m) tree after old new (Err fault) same (λ d p t h. fault_step tree m number d p t old h new fault last makes)
