-- A call of a semi-join as a source, over whatever pages the disk tells.
use Rattle.std.proofs.Common.{◌≡◌, ℕ, zero, suc, ◌<◌, List, ◌⊎◌, inl, inr, ⊎_elim, Option, None, Some, IfSome, Result, Ok, Err, refl, sym, subst, arith}
use Rattle.z_code.specs.declared.block.Block.{Block}
use Rattle.page_pool.specs.Disk.{PageMap}
use Rattle.page_pool.specs.declared.fault.PageFault.{PageFault}
use Rattle.sand_model.specs.Database.{Database}
use Rattle.statements.specs.Plan as plan
use Rattle.statements.specs.Plan.{Plan}
use Rattle.sand_model.specs.Sources.{Found}
use Rattle.sand_model.specs.Taken.{Taken}
use Rattle.best_first.specs.Visits.{SearchState}
use Rattle.best_first.specs.declared.hit.Hit.{Hit}
use Rattle.semi_join.specs.FirstPairs.{GivesFirstPair, AreAllGiven, SemiStands}
use Rattle.semi_join.specs.LeftRows.{LeftRows, GivesLeft}
use Rattle.semi_join.specs.Listed.{ListsAnswer, pairs_left, TakesFirst}
use Rattle.semi_join.specs.Visits.{MakesPairVisits}
use Rattle.semi_join.proofs.Turns.{ended}
use Rattle.dist_join.specs.Joining.{join_meaning}
use Rattle.dist_join.specs.OverPages.{pair_visit_of}
use Rattle.dist_join.proofs.JoinLaws.{join_laws}
use Rattle.dist_join.proofs.JoinedRows.{lists_joined}
use Rattle.plan_iterator.proofs.PlanMeasure.{plan_measure_is}
use Rattle.plan_iterator.specs.SourceSteps.{SourceStep}
use Rattle.plan_iterator.specs.declared.answer.Answer.{Answer}
use Rattle.plan_sources.specs.Joins.{JoinView, joining_in, counts_by, pairs_in, HasTakenFirsts}
use Rattle.plan_sources.proofs.PairCalls.{TellsPair}
use Rattle.plan_sources.proofs.PairOrder.{pair_cmp, pairs_total}
use Rattle.plan_sources.proofs.SemiCalls.{row_step, end_step, fault_step, spent_step, still_step}

-- where something was taken the search stands, and the left rows are as far as it is
stands_there : (v : JoinView) (m : PageMap) (s : SearchState (Block × Block)) (lefts : LeftRows) (d : Database) (p : Plan) (t : Taken)
    → HasTakenFirsts pair_cmp (joining_in v m) s.held s.counts lefts d p t → SemiStands pair_cmp (join_meaning (joining_in v m)) s.held lefts
stands_there v m s lefts d p t h = ((join_laws (joining_in v m) h.searched.sound, (h.searched.done, h.searched.stands)), h.given)

pub asked : (pages : Option PageMap) (v : JoinView) (s : SearchState (Block × Block)) (lefts : LeftRows)
    → IfSome pages (λ m. (d : Database) × ((p : Plan) × ((t : Taken) × HasTakenFirsts pair_cmp (joining_in v m) s.held s.counts lefts d p t)))
    → IfSome pages (λ m. SemiStands pair_cmp (join_meaning (joining_in v m)) s.held lefts)
asked None v s lefts h = tt
asked (Some m) v s lefts (d, (p, (t, h))) = stands_there v m s lefts d p t h

-- what a call of the source does, over these pages
abbrev pub StepOver : JoinView → JoinView → SearchState (Block × Block) → SearchState (Block × Block) → LeftRows → LeftRows → Result (Option Answer) PageFault → PageMap → Type 0
StepOver v after old new lefts left answer m =
    (d : Database) (p : Plan) (t : Taken) → HasTakenFirsts pair_cmp (joining_in v m) old.held old.counts lefts d p t
    → SourceStep m d p t (counts_by old.counts) (counts_by new.counts) old.desk new.desk answer (HasTakenFirsts pair_cmp (joining_in after m) new.held new.counts left d p)

-- the plan is the semi-join of the columns
semi_plan : (v : JoinView) (m : PageMap) (old new : SearchState (Block × Block)) (lefts left : LeftRows) (answer : Result (Option Answer) PageFault) (d : Database) (p : Plan) (t : Taken)
    (h : HasTakenFirsts pair_cmp (joining_in v m) old.held old.counts lefts d p t)
    → (HasTakenFirsts pair_cmp (joining_in v m) old.held old.counts lefts d (plan.Semi h.left h.right v.ceiling) t
    → SourceStep m d (plan.Semi h.left h.right v.ceiling) t (counts_by old.counts) (counts_by new.counts) old.desk new.desk answer
    (HasTakenFirsts pair_cmp (joining_in v m) new.held new.counts left d (plan.Semi h.left h.right v.ceiling)))
    → SourceStep m d p t (counts_by old.counts) (counts_by new.counts) old.desk new.desk answer (HasTakenFirsts pair_cmp (joining_in v m) new.held new.counts left d p)
semi_plan v m old new lefts left answer d p t h step =
    subst (λ (x : Plan). SourceStep m d x t (counts_by old.counts) (counts_by new.counts) old.desk new.desk answer (HasTakenFirsts pair_cmp (joining_in v m) new.held new.counts left d x))
    (sym h.is)
    (step (subst (λ (x : Plan). HasTakenFirsts pair_cmp (joining_in v m) old.held old.counts lefts d x t) h.is h))

unchanged : (pages : Option PageMap) (v after : JoinView) (old new : SearchState (Block × Block)) (lefts left : LeftRows) (answer : Result (Option Answer) PageFault) → after ≡ v
    → IfSome pages (StepOver v v old new lefts left answer) → IfSome pages (StepOver v after old new lefts left answer)
unchanged pages v after old new lefts left answer same h = subst (λ (x : JoinView). IfSome pages (StepOver v x old new lefts left answer)) (sym same) h

pub some_or_none : (n : ℕ) → (n ≡ 0) ⊎ (0 < n)
some_or_none zero = inl refl
some_or_none (suc n) = inr (omega arith)

-- where no left row waits, each was given
all_given : (v : JoinView) (m : PageMap) (left right : ℕ) (s : SearchState (Block × Block)) (lefts : LeftRows) (d : Database) (p : Plan) (t : Taken)
    → HasTakenFirsts pair_cmp (joining_in v m) s.held s.counts lefts d p t → lefts.waiting ≡ 0 → AreAllGiven (join_meaning (joining_in v m)) lefts.given
all_given v m left right s lefts d p t h none =
    ended pair_cmp (λ (x : PageMap). join_meaning (joining_in v x)) (pair_visit_of left right) lefts s (Some m) none (stands_there v m s lefts d p t h)

-- what is left of the pairs, by any list that is the answer
abbrev pub Takes : JoinView → LeftRows → LeftRows → Result (Option Hit) PageFault → PageMap → Type 0
Takes v lefts left result m =
    (answer : List Found) → ListsAnswer (join_meaning (joining_in v m)) answer → TakesFirst (pairs_left lefts.given answer) (pairs_left left.given answer) result

abbrev pub Visits : ℕ → ℕ → JoinView → LeftRows → SearchState (Block × Block) → SearchState (Block × Block) → Result (Option Hit) PageFault → PageMap → Type 0
Visits one other v lefts old new result m = MakesPairVisits pair_cmp (join_meaning (joining_in v m)) (pair_visit_of one other) lefts old new result

-- the end was answered, where no left row waits, and all is as it was
abbrev pub Ended : LeftRows → SearchState (Block × Block) → SearchState (Block × Block) → Result (Option Hit) PageFault → Type 0
Ended lefts old new result = lefts.waiting ≡ 0 → (result ≡ Ok None) × (new ≡ old)

module _ (one other : ℕ) where
  pub row_over : (pages : Option PageMap) (v after : JoinView) (old new : SearchState (Block × Block)) (lefts left : LeftRows) (hit : Hit) (a : Answer) → after ≡ v → TellsPair a hit
      → IfSome pages (λ m. GivesFirstPair (join_meaning (joining_in v m)) lefts.given (Ok (Some hit))) → GivesLeft lefts left (Ok (Some hit))
      → IfSome pages (Takes v lefts left (Ok (Some hit))) → IfSome pages (λ m. SemiStands pair_cmp (join_meaning (joining_in v m)) new.held left)
      → (0 < lefts.waiting → IfSome pages (Visits one other v lefts old new (Ok (Some hit)))) → Ended lefts old new (Ok (Some hit))
      → IfSome pages (StepOver v after old new lefts left (Ok (Some a)))
  row_over None v after old new lefts left hit a same tells pair given takes stands makes over = tt
  row_over (Some m) v after old new lefts left hit a same tells pair given takes stands makes over =
      unchanged (Some m) v after old new lefts left (Ok (Some a)) same (λ d p t h.
      semi_plan v m old new lefts left (Ok (Some a)) d p t h (λ k.
      ⊎_elim (λ e. absurd (let said = (over e).0 in let clash : ⊥ = cc in clash))
      (λ w. row_step pairs_total (joining_in v m) m one other d t h.left h.right h.left_side h.right_side old lefts k w new left hit a tells pair given stands.1
      (takes (pairs_in (joining_in v m)) (lists_joined (joining_in v m) h.searched.sound Rattle.plan_iterator.specs.Rows.plan_measure plan_measure_is)) (makes w))
      (some_or_none lefts.waiting)))

  pub end_over : (pages : Option PageMap) (v after : JoinView) (old new : SearchState (Block × Block)) (lefts left : LeftRows) → after ≡ v
      → IfSome pages (λ m. GivesFirstPair (join_meaning (joining_in v m)) lefts.given (Ok None)) → left ≡ lefts
      → IfSome pages (Takes v lefts left (Ok None)) → IfSome pages (λ m. SemiStands pair_cmp (join_meaning (joining_in v m)) new.held left)
      → (0 < lefts.waiting → IfSome pages (Visits one other v lefts old new (Ok None))) → Ended lefts old new (Ok None)
      → IfSome pages (StepOver v after old new lefts left (Ok None))
  end_over None v after old new lefts left same pair given takes stands makes over = tt
  end_over (Some m) v after old new lefts left same pair given takes stands makes over =
      unchanged (Some m) v after old new lefts left (Ok None) same (λ d p t h.
      semi_plan v m old new lefts left (Ok None) d p t h (λ k.
      ⊎_elim
      (λ e.
      subst (λ (x : SearchState (Block × Block)). SourceStep m d (plan.Semi h.left h.right v.ceiling) t (counts_by old.counts) (counts_by x.counts) old.desk x.desk (Ok None)
      (HasTakenFirsts pair_cmp (joining_in v m) x.held x.counts left d (plan.Semi h.left h.right v.ceiling))) (sym (over e).1)
      (subst (λ (l : LeftRows). SourceStep m d (plan.Semi h.left h.right v.ceiling) t (counts_by old.counts) (counts_by old.counts) old.desk old.desk (Ok None)
      (HasTakenFirsts pair_cmp (joining_in v m) old.held old.counts l d (plan.Semi h.left h.right v.ceiling))) (sym given)
      (spent_step pairs_total (joining_in v m) m one other d t h.left h.right h.left_side h.right_side old lefts k e pair)))
      (λ w. end_step pairs_total (joining_in v m) m one other d t h.left h.right h.left_side h.right_side old lefts k w new left pair given stands.1
      (takes (pairs_in (joining_in v m)) (lists_joined (joining_in v m) h.searched.sound Rattle.plan_iterator.specs.Rows.plan_measure plan_measure_is)) (makes w))
      (some_or_none lefts.waiting)))

  pub fault_over : (pages : Option PageMap) (v after : JoinView) (old new : SearchState (Block × Block)) (lefts left : LeftRows) (fault : PageFault) → after ≡ v → left ≡ lefts
      → IfSome pages (λ m. SemiStands pair_cmp (join_meaning (joining_in v m)) new.held left)
      → (0 < lefts.waiting → IfSome pages (Visits one other v lefts old new (Err fault))) → Ended lefts old new (Err fault)
      → IfSome pages (StepOver v after old new lefts left (Err fault))
  fault_over None v after old new lefts left fault same given stands makes over = tt
  fault_over (Some m) v after old new lefts left fault same given stands makes over =
      unchanged (Some m) v after old new lefts left (Err fault) same (λ d p t h.
      semi_plan v m old new lefts left (Err fault) d p t h (λ k.
      ⊎_elim (λ e. absurd (let said = (over e).0 in let clash : ⊥ = cc in clash))
      (λ w. fault_step pairs_total (joining_in v m) m one other d t h.left h.right h.left_side h.right_side old lefts k w new left fault given stands.1 (makes w))
      (some_or_none lefts.waiting)))

  -- where the search was not asked
  pub still_over : (pages : Option PageMap) (v : JoinView) (s : SearchState (Block × Block)) (lefts : LeftRows) (fault : PageFault) → IfSome pages (StepOver v v s s lefts lefts (Err fault))
  still_over None v s lefts fault = tt
  still_over (Some m) v s lefts fault = λ d p t h.
      semi_plan v m s s lefts lefts (Err fault) d p t h (λ k.
      still_step pairs_total (joining_in v m) m one other d t h.left h.right h.left_side h.right_side s lefts k (all_given v m one other s lefts d p t h) fault)
