-- A call of a join as a source, over whatever pages the disk tells.
use Rattle.std.proofs.Common.{◌≡◌, ℕ, Option, None, Some, IfSome, Result, Ok, Err, sym, subst}
use Rattle.z_code.specs.declared.block.Block.{Block}
use Rattle.page_pool.specs.Disk.{PageMap}
use Rattle.page_pool.specs.declared.fault.PageFault.{PageFault}
use Rattle.sand_model.specs.Database.{Database}
use Rattle.statements.specs.Plan as plan
use Rattle.statements.specs.Plan.{Plan}
use Rattle.sand_model.specs.Taken.{Taken}
use Rattle.best_first.specs.Frontier.{StandsOver}
use Rattle.best_first.specs.Visits.{SearchState, MakesVisits, GivesNext}
use Rattle.best_first.specs.declared.hit.Hit.{Hit}
use Rattle.dist_join.specs.Joining.{join_meaning}
use Rattle.dist_join.specs.OverPages.{pair_visit_of}
use Rattle.dist_join.proofs.JoinLaws.{join_laws}
use Rattle.plan_iterator.specs.SourceSteps.{SourceStep}
use Rattle.plan_iterator.specs.declared.answer.Answer.{Answer}
use Rattle.plan_sources.specs.Joins.{JoinView, joining_in, counts_by, HasTakenPairs}
use Rattle.plan_sources.proofs.JoinCalls.{row_step, end_step, fault_step, still_step}
use Rattle.plan_sources.proofs.PairCalls.{TellsPair}
use Rattle.plan_sources.proofs.PairOrder.{pair_cmp, pairs_total}

-- where something was taken the search stands
pub asked : (pages : Option PageMap) (v : JoinView) (s : SearchState (Block × Block))
    → IfSome pages (λ m. (d : Database) × ((p : Plan) × ((t : Taken) × HasTakenPairs pair_cmp (joining_in v m) s.held s.last s.counts d p t)))
    → IfSome pages (λ m. StandsOver pair_cmp (join_meaning (joining_in v m)) s.held s.last)
asked None v s h = tt
asked (Some m) v s (d, (p, (t, h))) = (join_laws (joining_in v m) h.searched.sound, (h.searched.done, h.searched.stands))

-- what a call of the source does, over these pages
abbrev pub StepOver : JoinView → JoinView → SearchState (Block × Block) → SearchState (Block × Block) → Result (Option Answer) PageFault → PageMap → Type 0
StepOver v after old new answer m =
    (d : Database) (p : Plan) (t : Taken) → HasTakenPairs pair_cmp (joining_in v m) old.held old.last old.counts d p t
    → SourceStep m d p t (counts_by old.counts) (counts_by new.counts) old.desk new.desk answer (HasTakenPairs pair_cmp (joining_in after m) new.held new.last new.counts d p)

-- the plan is the join of the columns
by_plan : (v : JoinView) (m : PageMap) (old new : SearchState (Block × Block)) (answer : Result (Option Answer) PageFault) (d : Database) (p : Plan) (t : Taken)
    (h : HasTakenPairs pair_cmp (joining_in v m) old.held old.last old.counts d p t)
    → SourceStep m d (plan.Join h.left h.right v.ceiling) t (counts_by old.counts) (counts_by new.counts) old.desk new.desk answer
    (HasTakenPairs pair_cmp (joining_in v m) new.held new.last new.counts d (plan.Join h.left h.right v.ceiling))
    → SourceStep m d p t (counts_by old.counts) (counts_by new.counts) old.desk new.desk answer (HasTakenPairs pair_cmp (joining_in v m) new.held new.last new.counts d p)
by_plan v m old new answer d p t h step =
    subst (λ (x : Plan). SourceStep m d x t (counts_by old.counts) (counts_by new.counts) old.desk new.desk answer (HasTakenPairs pair_cmp (joining_in v m) new.held new.last new.counts d x))
    (sym h.is) step

unchanged : (pages : Option PageMap) (v after : JoinView) (old new : SearchState (Block × Block)) (answer : Result (Option Answer) PageFault) → after ≡ v
    → IfSome pages (StepOver v v old new answer) → IfSome pages (StepOver v after old new answer)
unchanged pages v after old new answer same h = subst (λ (x : JoinView). IfSome pages (StepOver v x old new answer)) (sym same) h

module _ (left right : ℕ) where
  pub row_over : (pages : Option PageMap) (v after : JoinView) (old new : SearchState (Block × Block)) (hit : Hit) (a : Answer) → after ≡ v → TellsPair a hit → new.last ≡ Some hit
      → IfSome pages (λ m. GivesNext (join_meaning (joining_in v m)) old.last (Ok (Some hit)))
      → IfSome pages (λ m. MakesVisits pair_cmp (join_meaning (joining_in v m)) (pair_visit_of left right) old new (Ok (Some hit)))
      → IfSome pages (StepOver v after old new (Ok (Some a)))
  row_over None v after old new hit a same tells last next makes = tt
  row_over (Some m) v after old new hit a same tells last next makes =
      unchanged (Some m) v after old new (Ok (Some a)) same (λ d p t h.
      by_plan v m old new (Ok (Some a)) d p t h
      (row_step pairs_total (joining_in v m) left right m d t h.left h.right h.left_side h.right_side old h.searched h.rows new hit a tells next last makes))

  pub end_over : (pages : Option PageMap) (v after : JoinView) (old new : SearchState (Block × Block)) → after ≡ v → new.last ≡ old.last
      → IfSome pages (λ m. GivesNext (join_meaning (joining_in v m)) old.last (Ok None))
      → IfSome pages (λ m. MakesVisits pair_cmp (join_meaning (joining_in v m)) (pair_visit_of left right) old new (Ok None))
      → IfSome pages (StepOver v after old new (Ok None))
  end_over None v after old new same last next makes = tt
  end_over (Some m) v after old new same last next makes =
      unchanged (Some m) v after old new (Ok None) same (λ d p t h.
      by_plan v m old new (Ok None) d p t h
      (end_step pairs_total (joining_in v m) left right m d t h.left h.right h.left_side h.right_side old h.searched h.rows new next last makes))

  pub fault_over : (pages : Option PageMap) (v after : JoinView) (old new : SearchState (Block × Block)) (fault : PageFault) → after ≡ v → new.last ≡ old.last
      → IfSome pages (λ m. MakesVisits pair_cmp (join_meaning (joining_in v m)) (pair_visit_of left right) old new (Err fault))
      → IfSome pages (StepOver v after old new (Err fault))
  fault_over None v after old new fault same last makes = tt
  fault_over (Some m) v after old new fault same last makes =
      unchanged (Some m) v after old new (Err fault) same (λ d p t h.
      by_plan v m old new (Err fault) d p t h
      (fault_step pairs_total (joining_in v m) left right m d t h.left h.right h.left_side h.right_side old h.searched h.rows new fault last makes))

  -- where the search was not asked
  pub still_over : (pages : Option PageMap) (v : JoinView) (s : SearchState (Block × Block)) (fault : PageFault) → IfSome pages (StepOver v v s s (Err fault))
  still_over None v s fault = tt
  still_over (Some m) v s fault = λ d p t h.
      by_plan v m s s (Err fault) d p t h
      (still_step pairs_total (joining_in v m) left right m d t h.left h.right h.left_side h.right_side s h.searched h.rows fault)
