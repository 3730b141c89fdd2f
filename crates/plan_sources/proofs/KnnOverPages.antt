-- A call of a join of k partners as a source, over whatever pages the disk tells.
use Rattle.std.proofs.Common.{◌≡◌, ℕ, zero, suc, ◌<◌, List, ◌⊎◌, inl, inr, ⊎_elim, Option, None, Some, IfSome, Result, Ok, Err, refl, sym, subst, arith}
use Rattle.z_code.specs.declared.block.Block.{Block}
use Rattle.page_pool.specs.Disk.{PageMap}
use Rattle.page_pool.specs.declared.fault.PageFault.{PageFault}
use Rattle.sand_model.specs.Database.{Database}
use Rattle.statements.specs.Plan as plan
use Rattle.statements.specs.Plan.{Plan}
use Rattle.sand_model.specs.Taken.{Taken}
use Rattle.best_first.specs.Visits.{SearchState}
use Rattle.best_first.specs.declared.hit.Hit.{Hit}
use Rattle.knn_join.specs.Listed.{LeavesRest}
use Rattle.knn_join.specs.PartnerCounts.{PartnerCounts, GivesPartner}
use Rattle.knn_join.specs.Standing.{KnnStands, KnnStandsOn}
use Rattle.knn_join.specs.Visits.{MakesPartnerVisits}
use Rattle.dist_join.specs.Joining.{join_meaning}
use Rattle.dist_join.specs.OverPages.{pair_visit_of}
use Rattle.dist_join.proofs.JoinLaws.{join_laws}
use Rattle.dist_join.proofs.JoinedRows.{lists_joined}
use Rattle.plan_iterator.proofs.PlanMeasure.{plan_measure_is}
use Rattle.plan_iterator.specs.SourceSteps.{SourceStep}
use Rattle.plan_iterator.specs.declared.answer.Answer.{Answer}
use Rattle.plan_sources.specs.Joins.{JoinView, joining_in, counts_by, pairs_in, HasTakenPartners}
use Rattle.plan_sources.proofs.PairCalls.{TellsPair}
use Rattle.plan_sources.proofs.PairOrder.{pair_cmp, pairs_total}
use Rattle.plan_sources.proofs.SemiOverPages.{some_or_none}
use Rattle.plan_sources.proofs.KnnCalls.{row_step, end_step, fault_step, spent_step, still_step}

-- where something was taken the search stands and is counted
pub asked : (pages : Option PageMap) (v : JoinView) (s : SearchState (Block × Block)) (counts : PartnerCounts)
    → IfSome pages (λ m. (d : Database) × ((p : Plan) × ((t : Taken) × HasTakenPartners pair_cmp (joining_in v m) s.held s.last s.counts counts d p t)))
    → KnnStandsOn pair_cmp (λ m. join_meaning (joining_in v m)) pages s.held s.last counts
asked None v s counts h = tt
asked (Some m) v s counts (d, (p, (t, h))) = ((join_laws (joining_in v m) h.searched.sound, (h.searched.done, h.searched.stands)), h.given)

-- what a call of the source does, over these pages
abbrev pub StepOver : JoinView → JoinView → SearchState (Block × Block) → SearchState (Block × Block) → PartnerCounts → PartnerCounts → Result (Option Answer) PageFault → PageMap → Type 0
StepOver v after old new counts left answer m =
    (d : Database) (p : Plan) (t : Taken) → HasTakenPartners pair_cmp (joining_in v m) old.held old.last old.counts counts d p t
    → SourceStep m d p t (counts_by old.counts) (counts_by new.counts) old.desk new.desk answer (HasTakenPartners pair_cmp (joining_in after m) new.held new.last new.counts left d p)

-- the plan is the join of the columns
knn_plan : (v : JoinView) (m : PageMap) (old new : SearchState (Block × Block)) (counts left : PartnerCounts) (answer : Result (Option Answer) PageFault) (d : Database) (p : Plan) (t : Taken)
    (h : HasTakenPartners pair_cmp (joining_in v m) old.held old.last old.counts counts d p t)
    → (HasTakenPartners pair_cmp (joining_in v m) old.held old.last old.counts counts d (plan.Knn counts.most h.left h.right v.ceiling) t
    → SourceStep m d (plan.Knn counts.most h.left h.right v.ceiling) t (counts_by old.counts) (counts_by new.counts) old.desk new.desk answer
    (HasTakenPartners pair_cmp (joining_in v m) new.held new.last new.counts left d (plan.Knn counts.most h.left h.right v.ceiling)))
    → SourceStep m d p t (counts_by old.counts) (counts_by new.counts) old.desk new.desk answer (HasTakenPartners pair_cmp (joining_in v m) new.held new.last new.counts left d p)
knn_plan v m old new counts left answer d p t h step =
    subst (λ (x : Plan). SourceStep m d x t (counts_by old.counts) (counts_by new.counts) old.desk new.desk answer (HasTakenPartners pair_cmp (joining_in v m) new.held new.last new.counts left d x))
    (sym h.is)
    (step (subst (λ (x : Plan). HasTakenPartners pair_cmp (joining_in v m) old.held old.last old.counts counts d x t) h.is h))

unchanged : (pages : Option PageMap) (v after : JoinView) (old new : SearchState (Block × Block)) (counts left : PartnerCounts) (answer : Result (Option Answer) PageFault) → after ≡ v
    → IfSome pages (StepOver v v old new counts left answer) → IfSome pages (StepOver v after old new counts left answer)
unchanged pages v after old new counts left answer same h = subst (λ (x : JoinView). IfSome pages (StepOver v x old new counts left answer)) (sym same) h

abbrev pub Visits : ℕ → ℕ → JoinView → PartnerCounts → SearchState (Block × Block) → SearchState (Block × Block) → Result (Option Hit) PageFault → PageMap → Type 0
Visits one other v counts old new result m = MakesPartnerVisits pair_cmp (join_meaning (joining_in v m)) (pair_visit_of one other) counts old new result

-- what is left of any list that is the answer
abbrev pub Rest : JoinView → Option PageMap → SearchState (Block × Block) → SearchState (Block × Block) → PartnerCounts → PartnerCounts → Result (Option Hit) PageFault → Type 0
Rest v pages old new counts left result = LeavesRest (λ m. join_meaning (joining_in v m)) pages old.last counts new.last left result

abbrev pub StandsAfter : JoinView → Option PageMap → SearchState (Block × Block) → PartnerCounts → Type 0
StandsAfter v pages new left = KnnStandsOn pair_cmp (λ m. join_meaning (joining_in v m)) pages new.held new.last left

-- the end was answered, where no row is to come, and all is as it was
abbrev pub Ended : PartnerCounts → SearchState (Block × Block) → SearchState (Block × Block) → Result (Option Hit) PageFault → Type 0
Ended counts old new result = counts.waiting ≡ 0 → (result ≡ Ok None) × (new ≡ old)

module _ (one other : ℕ) where
  pub row_over : (pages : Option PageMap) (v after : JoinView) (old new : SearchState (Block × Block)) (counts left : PartnerCounts) (hit : Hit) (a : Answer) → after ≡ v → TellsPair a hit
      → GivesPartner counts left (Ok (Some hit)) → Rest v pages old new counts left (Ok (Some hit)) → StandsAfter v pages new left
      → (0 < counts.waiting → IfSome pages (Visits one other v counts old new (Ok (Some hit)))) → Ended counts old new (Ok (Some hit))
      → IfSome pages (StepOver v after old new counts left (Ok (Some a)))
  row_over None v after old new counts left hit a same tells given rest stands makes over = tt
  row_over (Some m) v after old new counts left hit a same tells given rest stands makes over =
      unchanged (Some m) v after old new counts left (Ok (Some a)) same (λ d p t h.
      knn_plan v m old new counts left (Ok (Some a)) d p t h (λ k.
      ⊎_elim (λ e. absurd (let said = (over e).0 in let clash : ⊥ = cc in clash))
      (λ w. row_step pairs_total (joining_in v m) one other m d t counts h.left h.right h.left_side h.right_side old k w new left hit a tells given.1 stands.1
      (rest (pairs_in (joining_in v m)) (lists_joined (joining_in v m) h.searched.sound Rattle.plan_iterator.specs.Rows.plan_measure plan_measure_is)) (makes w))
      (some_or_none counts.waiting)))

  pub end_over : (pages : Option PageMap) (v after : JoinView) (old new : SearchState (Block × Block)) (counts left : PartnerCounts) → after ≡ v
      → left ≡ counts → Rest v pages old new counts left (Ok None) → StandsAfter v pages new left
      → (0 < counts.waiting → IfSome pages (Visits one other v counts old new (Ok None))) → Ended counts old new (Ok None)
      → IfSome pages (StepOver v after old new counts left (Ok None))
  end_over None v after old new counts left same given rest stands makes over = tt
  end_over (Some m) v after old new counts left same given rest stands makes over =
      unchanged (Some m) v after old new counts left (Ok None) same (λ d p t h.
      knn_plan v m old new counts left (Ok None) d p t h (λ k.
      ⊎_elim
      (λ e.
      subst (λ (x : SearchState (Block × Block)). SourceStep m d (plan.Knn counts.most h.left h.right v.ceiling) t (counts_by old.counts) (counts_by x.counts) old.desk x.desk (Ok None)
      (HasTakenPartners pair_cmp (joining_in v m) x.held x.last x.counts left d (plan.Knn counts.most h.left h.right v.ceiling))) (sym (over e).1)
      (subst (λ (l : PartnerCounts). SourceStep m d (plan.Knn counts.most h.left h.right v.ceiling) t (counts_by old.counts) (counts_by old.counts) old.desk old.desk (Ok None)
      (HasTakenPartners pair_cmp (joining_in v m) old.held old.last old.counts l d (plan.Knn counts.most h.left h.right v.ceiling))) (sym given)
      (spent_step pairs_total (joining_in v m) one other m d t counts h.left h.right h.left_side h.right_side old k e)))
      (λ w. end_step pairs_total (joining_in v m) one other m d t counts h.left h.right h.left_side h.right_side old k w new left given stands.1
      (rest (pairs_in (joining_in v m)) (lists_joined (joining_in v m) h.searched.sound Rattle.plan_iterator.specs.Rows.plan_measure plan_measure_is)) (makes w))
      (some_or_none counts.waiting)))

  pub fault_over : (pages : Option PageMap) (v after : JoinView) (old new : SearchState (Block × Block)) (counts left : PartnerCounts) (fault : PageFault) → after ≡ v → left ≡ counts
      → Rest v pages old new counts left (Err fault) → StandsAfter v pages new left
      → (0 < counts.waiting → IfSome pages (Visits one other v counts old new (Err fault))) → Ended counts old new (Err fault)
      → IfSome pages (StepOver v after old new counts left (Err fault))
  fault_over None v after old new counts left fault same given rest stands makes over = tt
  fault_over (Some m) v after old new counts left fault same given rest stands makes over =
      unchanged (Some m) v after old new counts left (Err fault) same (λ d p t h.
      knn_plan v m old new counts left (Err fault) d p t h (λ k.
      ⊎_elim (λ e. absurd (let said = (over e).0 in let clash : ⊥ = cc in clash))
      (λ w. fault_step pairs_total (joining_in v m) one other m d t counts h.left h.right h.left_side h.right_side old k w new left fault given stands.1
      (rest (pairs_in (joining_in v m)) (lists_joined (joining_in v m) h.searched.sound Rattle.plan_iterator.specs.Rows.plan_measure plan_measure_is)) (makes w))
      (some_or_none counts.waiting)))

  -- where the search was not asked
  pub still_over : (pages : Option PageMap) (v : JoinView) (s : SearchState (Block × Block)) (counts : PartnerCounts) (fault : PageFault) → IfSome pages (StepOver v v s s counts counts (Err fault))
  still_over None v s counts fault = tt
  still_over (Some m) v s counts fault = λ d p t h.
      knn_plan v m s s counts counts (Err fault) d p t h (λ k.
      still_step pairs_total (joining_in v m) one other m d t counts h.left h.right h.left_side h.right_side s k fault)
