-- The steps of sources and of operators over others, where the disk tells its pages.
use Rattle.std.proofs.Common.{◌≡◌, ◌∙◌, ◌+◌, ◌≤◌, min, Bool, true, false, true≢false, List, [], ◌∷◌, ◌++◌, Option, Some, None, if◌then◌else◌, Result, Ok, IfSome, refl, sym, ap₂, subst}
use Rattle.std.specs.Global.{Box}
use Rattle.sand_base.specs.Faults.{last_count}
use Rattle.page_pool.specs.Desk.{DeskState}
use Rattle.page_pool.specs.Disk.{PageMap}
use Rattle.page_pool.specs.Reads.{IsRead}
use Rattle.page_pool.specs.declared.fault.PageFault.{PageFault}
use Rattle.sand_model.specs.Database.{Database}
use Rattle.sand_model.specs.Operators.{PlanRow}
use Rattle.statements.specs.Plan.{Plan}
use Rattle.sand_model.specs.Reach.{Counts}
use Rattle.sand_model.specs.Taken.{Taken, is_lazy}
use Rattle.best_first.specs.Visits.{told_pages}
use Rattle.plan_iterator.specs.Prices.{unless_refused, Costs}
use Rattle.plan_iterator.specs.Rows.{row_of}
use Rattle.plan_iterator.specs.SourceSteps.{SourceStep}
use Rattle.plan_iterator.specs.declared.answer.Answer.{Answer}
use Rattle.plan_iterator.specs.Following.{Taking, source_of}
use Rattle.plan_iterator.specs.Outermost.{inner, beneath}
use Rattle.plan_iterator.specs.Paying.{Prices, GoesPaid}
use Rattle.plan_iterator.specs.Stages.{Standing, GivesFront, OpensLate, ClosedWaits, Works, Finishes, IsDry}
use Rattle.plan_iterator.specs.Steps.{GoesOn}
use Rattle.plan_iterator.specs.declared.operator.Operator.{Operator, Source, Over'}
use Rattle.plan_iterator.specs.declared.step.Step.{Step}
use Rattle.plan_iterator.specs.declared.step.Step.TheVariants.{Row, End}
use Rattle.plan_iterator.proofs.Sourcing.{as_step, source_goes}
use Rattle.plan_iterator.proofs.StepsOver.{works_over, IsQuiet, waits_over, finishes_over}
use Rattle.plan_iterator.proofs.Stepping.{takes_over}

-- what is told
pub on_told : (o : Option PageMap) (P Q : PageMap → Type 0) → ((pages : PageMap) → P pages → Q pages) → IfSome o P → IfSome o Q
on_told (Some pages) P Q h p = h pages p
on_told None P Q h p = tt

-- what follows of two things that are told
both_told : (told : Option PageMap) (P Q R : PageMap → Type 0) → ((pages : PageMap) → P pages → Q pages → R pages) → IfSome told P → IfSome told Q → IfSome told R
both_told (Some pages) P Q R h p q = h pages p q
both_told None P Q R h p q = tt

-- what follows of three
three_told : (told : Option PageMap) (P Q R U : PageMap → Type 0) → ((pages : PageMap) → P pages → Q pages → R pages → U pages) → IfSome told P → IfSome told Q → IfSome told R → IfSome told U
three_told (Some pages) P Q R U h p q r = h pages p q r
three_told None P Q R U h p q r = tt

-- what holds of the same pages
still_told : (o o' : Option PageMap) (P : PageMap → Type 0) → o ≡ o' → IfSome o P → IfSome o' P
still_told o o' P e h = subst (λ told. IfSome told P) e h

-- reading leaves what is told of pages
pub same_told : (old new : DeskState) → IsRead old.pool new.pool → told_pages new ≡ told_pages old
same_told old new r = ap₂ (λ (t : Bool) (p : PageMap). if t then Some p else None) r.told r.pages

-- a stage that wants a row isn't closed
pub is_open : {T : Type 0} (closed waits : T → Bool) → ClosedWaits closed waits → (stage : T) → waits stage ≡ false → closed stage ≡ false
is_open closed waits law stage free = go (closed stage) refl
  where
    go : (b : Bool) → closed stage ≡ b → closed stage ≡ false
    go true e = absurd (true≢false (sym (law stage e) ∙ free))
    go false e = e

module _ {S T : Type 0} (At : S → Taking) (Stands : T → Standing) (closed : T → Bool) (q : Prices S T) (seen : S → Counts) (told : Option PageMap) (old new : DeskState) where
  -- a source
  pub source_told : (o : Operator S T) (s s' : S) (answer : Result (Option Answer) PageFault) (result : Result Step PageFault) → o ≡ Source s → as_step answer ≡ result
      → q.heights s' ≡ q.heights s → q.step s' ≡ q.step s
      → IfSome told (λ pages. (d : Database) (p : Plan) (t : Taken) → At s pages d p t → SourceStep pages d p t (seen s) (seen s') old new answer (At s' pages d p))
      → IfSome told (λ pages. (d : Database) (p : Plan) (t : Taken) → At s pages d p t → Costs (q.heights s) (q.step s) (q.entries s pages) (q.entries s' pages) d p old new answer)
      → IfSome told (GoesPaid At Stands closed q seen o (Source s') old new result)
  source_told o s s' answer result is step heights price goes costs =
      subst (λ (o : Operator S T). IfSome told (GoesPaid At Stands closed q seen o (Source s') old new result)) (sym is)
      (subst (λ r. IfSome told (GoesPaid At Stands closed q seen (Source s) (Source s') old new r)) step
      (both_told told (λ pages. (d : Database) (p : Plan) (t : Taken) → At s pages d p t → SourceStep pages d p t (seen s) (seen s') old new answer (At s' pages d p))
      (λ pages. (d : Database) (p : Plan) (t : Taken) → At s pages d p t → Costs (q.heights s) (q.step s) (q.entries s pages) (q.entries s' pages) d p old new answer)
      (GoesPaid At Stands closed q seen (Source s) (Source s') old new (as_step answer))
      (λ pages k c d p t given f. source_goes At Stands closed q s s' pages d p t given (seen s) (seen s') old new answer heights price (k d p t f.stands) (c d p t f.stands) f)
      goes costs))

  -- the stage worked
  pub works_told : GivesFront Stands → OpensLate Stands closed → (result : Result Step PageFault) (stage stage' : T) (pointer pointer' : Box Unit) (below : Operator S T)
      → closed stage' ≡ closed stage → q.row stage' ≡ q.row stage → new.visits ≡ old.visits → min old.pool.gets last_count ≤ new.pool.gets
      → IfSome told (λ pages. (d : Database) (p : Plan) (taken given : List PlanRow) → Stands stage pages d p taken given
      → Works d p taken given (closed stage') result (Stands stage' pages d p taken))
      → IfSome told (λ pages. (d : Database) (p : Plan) (taken given : List PlanRow) → Stands stage pages d p taken given
      → new.pool.gets + unless_refused result (q.held stage' pages d p) ≤ old.pool.gets + q.held stage pages d p)
      → IfSome told (GoesPaid At Stands closed q seen (Over' stage pointer below) (Over' stage' pointer' below) old new result)
  works_told front late result stage stage' pointer pointer' below same price log up works costs =
      both_told told (λ pages. (d : Database) (p : Plan) (taken given : List PlanRow) → Stands stage pages d p taken given
      → Works d p taken given (closed stage') result (Stands stage' pages d p taken))
      (λ pages. (d : Database) (p : Plan) (taken given : List PlanRow) → Stands stage pages d p taken given
      → new.pool.gets + unless_refused result (q.held stage' pages d p) ≤ old.pool.gets + q.held stage pages d p)
      (GoesPaid At Stands closed q seen (Over' stage pointer below) (Over' stage' pointer' below) old new result)
      (λ pages k c d p t given f. works_over At Stands closed q front late pages d p t given
      (seen (source_of below)) old new result stage stage' pointer pointer' below same price log up (k d p) (c d p) f)
      works costs

  module _ (below_gave : Result Step PageFault) (stage : T) (pointer pointer' : Box Unit) (below below' : Operator S T) (open_ : closed stage ≡ false)
      (dry : (pages : PageMap) (d : Database) (p : Plan) (taken given : List PlanRow) → Stands stage pages d p taken given → is_lazy p ≡ true → IsDry d p taken given)
      (goes : IfSome told (GoesPaid At Stands closed q seen below below' old new below_gave)) where
    -- the step beneath, by what it gave
    beneath_told : (r : Result Step PageFault) → below_gave ≡ r → IfSome told (GoesPaid At Stands closed q seen below below' old new r)
    beneath_told r is = subst (λ r. IfSome told (GoesPaid At Stands closed q seen below below' old new r)) is goes

    -- a row came from beneath, which the stage took and worked on
    pub takes_told : GivesFront Stands → OpensLate Stands closed → (last : DeskState) (result : Result Step PageFault) (a : Answer) (stage' : T) → below_gave ≡ Ok (Row a)
        → closed stage' ≡ closed stage → q.row stage' ≡ q.row stage → last.visits ≡ new.visits → min new.pool.gets last_count ≤ last.pool.gets
        → (later : Option PageMap) → later ≡ told
        → IfSome later (λ pages. (d : Database) (p : Plan) (taken given : List PlanRow) → Stands stage pages d p taken given
        → Works d p (taken ++ row_of a ∷ []) given (closed stage') result (Stands stage' pages d p (taken ++ row_of a ∷ [])))
        → IfSome later (λ pages. (d : Database) (p : Plan) (taken given : List PlanRow) → Stands stage pages d p taken given
        → last.pool.gets + unless_refused result (q.held stage' pages d p) ≤ new.pool.gets + q.row stage pages d p (row_of a))
        → IfSome told (GoesPaid At Stands closed q seen (Over' stage pointer below) (Over' stage' pointer' below') old last result)
    takes_told front late last result a stage' is same price log up later alike works costs =
        three_told told (GoesPaid At Stands closed q seen below below' old new (Ok (Row a)))
        (λ pages. (d : Database) (p : Plan) (taken given : List PlanRow) → Stands stage pages d p taken given
        → Works d p (taken ++ row_of a ∷ []) given (closed stage') result (Stands stage' pages d p (taken ++ row_of a ∷ [])))
        (λ pages. (d : Database) (p : Plan) (taken given : List PlanRow) → Stands stage pages d p taken given
        → last.pool.gets + unless_refused result (q.held stage' pages d p) ≤ new.pool.gets + q.row stage pages d p (row_of a))
        (GoesPaid At Stands closed q seen (Over' stage pointer below) (Over' stage' pointer' below') old last result)
        (λ pages k w c d p t given f. takes_over At Stands closed q front late pages d p t given (seen (source_of below)) (seen (source_of below')) old new last result a
        stage stage' pointer pointer' below below' open_ same price log up (dry pages d p) (w d p) (c d p) (λ taken g. k d (inner p) t taken g) f)
        (beneath_told (Ok (Row a)) is)
        (still_told later told (λ pages. (d : Database) (p : Plan) (taken given : List PlanRow) → Stands stage pages d p taken given
        → Works d p (taken ++ row_of a ∷ []) given (closed stage') result (Stands stage' pages d p (taken ++ row_of a ∷ []))) alike works)
        (still_told later told (λ pages. (d : Database) (p : Plan) (taken given : List PlanRow) → Stands stage pages d p taken given
        → last.pool.gets + unless_refused result (q.held stage' pages d p) ≤ new.pool.gets + q.row stage pages d p (row_of a)) alike costs)

    -- nothing came from beneath yet, or a refusal
    pub waits_told : (result : Result Step PageFault) → below_gave ≡ result → IsQuiet result
        → IfSome told (GoesPaid At Stands closed q seen (Over' stage pointer below) (Over' stage pointer' below') old new result)
    waits_told result is quiet =
        on_told told (GoesPaid At Stands closed q seen below below' old new result)
        (GoesPaid At Stands closed q seen (Over' stage pointer below) (Over' stage pointer' below') old new result)
        (λ pages k d p t given f. waits_over At Stands closed q pages d p t given (seen (source_of below)) (seen (source_of below')) old new result stage pointer pointer' below below'
        open_ (dry pages d p) quiet (λ taken g. k d (inner p) t taken g) f)
        (beneath_told result is)

    -- the end came from beneath
    pub finishes_told : (result : Result Step PageFault) (stage' : T) → below_gave ≡ Ok End → q.row stage' ≡ q.row stage
        → ((pages : PageMap) (d : Database) (p : Plan) → q.held stage' pages d p ≤ q.held stage pages d p) → GoesOn result (closed stage' ≡ true)
        → ((pages : PageMap) (d : Database) (p : Plan) (given : List PlanRow) → Stands stage pages d p (beneath d p) given → Finishes d p given result (Stands stage' pages d p (beneath d p)))
        → IfSome told (GoesPaid At Stands closed q seen (Over' stage pointer below) (Over' stage' pointer' below') old new result)
    finishes_told result stage' is price owes shuts finish =
        on_told told (GoesPaid At Stands closed q seen below below' old new (Ok End))
        (GoesPaid At Stands closed q seen (Over' stage pointer below) (Over' stage' pointer' below') old new result)
        (λ pages k d p t given f. finishes_over At Stands closed q pages d p t given (seen (source_of below)) (seen (source_of below')) old new result stage stage' pointer pointer' below below'
        open_ price (owes pages d p) shuts (dry pages d p) (finish pages d p) (λ taken g. k d (inner p) t taken g) f)
        (beneath_told (Ok End) is)
