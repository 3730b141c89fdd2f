-- The steps of a call where the disk tells its pages.
use Rattle.std.proofs.Common.{◌≡◌, Bool, List, Option, Some, None, Result, Ok, Err, IfSome, refl, sym, subst, arith}
use Rattle.page_pool.specs.Desk.{DeskState}
use Rattle.page_pool.specs.Disk.{PageMap}
use Rattle.page_pool.specs.declared.fault.PageFault.{PageFault}
use Rattle.sand_model.specs.Cursor.{Cursor}
use Rattle.sand_model.specs.Database.{Database}
use Rattle.sand_model.specs.Operators.{PlanRow}
use Rattle.statements.specs.Plan.{Plan}
use Rattle.sand_model.specs.Reach.{Counts}
use Rattle.sand_model.specs.Taken.{Taken}
use Rattle.best_first.proofs.Passing.{all_over}
use Rattle.plan_iterator.specs.Needed.{AreTakenCounts}
use Rattle.plan_iterator.specs.Rows.{plan_measure}
use Rattle.plan_iterator.specs.declared.answer.Answer.{Answer}
use Rattle.plan_iterator.proofs.ModelSteps.{step_taken}
use Rattle.plan_iterator.proofs.StepCalls.{VisitsWithin, within_none}
use Rattle.plan_iterator.specs.Following.{Taking, Follows}
use Rattle.plan_iterator.specs.Paying.{Prices, GoesPaid}
use Rattle.plan_iterator.specs.Stages.{Standing, GivesFront, OpensLate}
use Rattle.plan_iterator.specs.declared.operator.Operator.{Operator}
use Rattle.plan_iterator.specs.declared.step.Step.{Step}
use Rattle.plan_iterator.specs.declared.step.Step.TheVariants.{Row, Pass, End}
use Rattle.plan_iterator.specs.PaidCalls.{AdvancesPaid}
use Rattle.plan_iterator.specs.Standing.{KeepsRows}
use Rattle.plan_iterator.proofs.Advancing.{Passed, passed_more, gives_next, gives_last, gives_refusal}

-- what follows of two things that are told
pub both_told : (told : Option PageMap) (P Q R : PageMap → Type 0) → ((pages : PageMap) → P pages → Q pages → R pages) → IfSome told P → IfSome told Q → IfSome told R
both_told (Some pages) P Q R h p q = h pages p q
both_told None P Q R h p q = tt

module _ {S T : Type 0} (At : S → Taking) (Stands : T → Standing) (closed : T → Bool) (q : Prices S T) (seen : S → Counts) where
  -- the steps so far, wherever the call began
  abbrev pub PassedFrom : Operator S T → Operator S T → DeskState → DeskState → PageMap → Type 0
  PassedFrom first o old new pages = (c : Cursor) (k : KeepsRows At Stands closed seen first pages c) → Passed At Stands closed q seen pages c first k o old new

  -- nothing was done yet
  pub told_first : (told : Option PageMap) (o : Operator S T) (desk : DeskState) → IfSome told (PassedFrom o o desk desk)
  told_first told o desk =
      all_over told (PassedFrom o o desk desk) (λ pages c k. record {
        keeps = record {
          taken = k.taken;
          rows = k.rows;
          follows = k.follows;
          given = k.given;
          needed = k.needed;
          counted = subst (AreTakenCounts c.database c.plan c.given k.taken) (sym k.counts) k.counted;
          counts = refl;
        };
        pays = record { same = record { heights = refl; step = refl; rows = refl }; most = omega arith };
        visits =
            subst (λ (n : Counts). VisitsWithin {T = Unit} pages c.database c.plan (step_taken plan_measure c.database c.plan c.given) c.counts n desk desk (Ok tt)) (sym k.counts)
            (within_none pages c.database c.plan (step_taken plan_measure c.database c.plan c.given) c.counts desk desk (Ok tt) refl (omega arith));
      })

  -- the operator follows some plan for the next step
  pub told_stands : (told now : Option PageMap) (first o : Operator S T) (old mid : DeskState) → now ≡ told → IfSome told (λ pages. (c : Cursor) × KeepsRows At Stands closed seen first pages c)
      → IfSome told (PassedFrom first o old mid)
      → IfSome now (λ pages. (d : Database) × ((p : Plan) × ((t : Taken) × ((given : List PlanRow) × Follows At Stands closed o pages d p t given))))
  told_stands told now first o old mid same stands passed =
      subst (λ m. IfSome m (λ pages. (d : Database) × ((p : Plan) × ((t : Taken) × ((given : List PlanRow) × Follows At Stands closed o pages d p t given))))) (sym same)
      (both_told told (λ pages. (c : Cursor) × KeepsRows At Stands closed seen first pages c) (PassedFrom first o old mid)
      (λ pages. (d : Database) × ((p : Plan) × ((t : Taken) × ((given : List PlanRow) × Follows At Stands closed o pages d p t given))))
      (λ pages k h. let keeps = (h k.0 k.1).keeps in (k.0.database, (k.0.plan, (keeps.taken, (keeps.rows, keeps.follows))))) stands passed)

  module _ (told now : Option PageMap) (first o o' : Operator S T) (old mid new : DeskState) (result : Result Step PageFault) (same : now ≡ told)
      (passed : IfSome told (PassedFrom first o old mid)) (step : IfSome now (GoesPaid At Stands closed q seen o o' mid new result)) where
    -- the step of what is told
    step_told : (r : Result Step PageFault) → result ≡ r → IfSome told (GoesPaid At Stands closed q seen o o' mid new r)
    step_told r is = subst (λ m. IfSome m (GoesPaid At Stands closed q seen o o' mid new r)) same (subst (λ r. IfSome now (GoesPaid At Stands closed q seen o o' mid new r)) is step)

    -- no row yet
    pub told_more : result ≡ Ok Pass → IfSome told (PassedFrom first o' old new)
    told_more is =
        both_told told (PassedFrom first o old mid) (GoesPaid At Stands closed q seen o o' mid new (Ok Pass)) (PassedFrom first o' old new)
        (λ pages h g c k.
        let passed_it = h c k in
        passed_more At Stands closed q seen pages c first k o o' old mid new passed_it (g c.database c.plan passed_it.keeps.taken passed_it.keeps.rows passed_it.keeps.follows))
        passed (step_told (Ok Pass) is)

    -- a row
    pub told_row : GivesFront Stands → OpensLate Stands closed → (a : Answer) → result ≡ Ok (Row a) → IfSome told (AdvancesPaid At Stands closed q seen first o' old new (Ok (Some a)))
    told_row front late a is =
        both_told told (PassedFrom first o old mid) (GoesPaid At Stands closed q seen o o' mid new (Ok (Row a))) (AdvancesPaid At Stands closed q seen first o' old new (Ok (Some a)))
        (λ pages h g c k.
        let passed_it = h c k in
        gives_next At Stands closed q seen pages front late c first k o o' old mid new passed_it a (g c.database c.plan passed_it.keeps.taken passed_it.keeps.rows passed_it.keeps.follows))
        passed (step_told (Ok (Row a)) is)

    -- the end
    pub told_end : GivesFront Stands → OpensLate Stands closed → result ≡ Ok End → IfSome told (AdvancesPaid At Stands closed q seen first o' old new (Ok None))
    told_end front late is =
        both_told told (PassedFrom first o old mid) (GoesPaid At Stands closed q seen o o' mid new (Ok End)) (AdvancesPaid At Stands closed q seen first o' old new (Ok None))
        (λ pages h g c k.
        let passed_it = h c k in
        gives_last At Stands closed q seen pages front late c first k o o' old mid new passed_it (g c.database c.plan passed_it.keeps.taken passed_it.keeps.rows passed_it.keeps.follows))
        passed (step_told (Ok End) is)

    -- a refusal
    pub told_refusal : GivesFront Stands → OpensLate Stands closed → (fault : PageFault) → result ≡ Err fault → IfSome told (AdvancesPaid At Stands closed q seen first o' old new (Err fault))
    told_refusal front late fault is =
        both_told told (PassedFrom first o old mid) (GoesPaid At Stands closed q seen o o' mid new (Err fault)) (AdvancesPaid At Stands closed q seen first o' old new (Err fault))
        (λ pages h g c k.
        let passed_it = h c k in
        gives_refusal At Stands closed q seen pages front late c first k o o' old mid new passed_it fault (g c.database c.plan passed_it.keeps.taken passed_it.keeps.rows passed_it.keeps.follows))
        passed (step_told (Err fault) is)
