-- What holds of the stage that a stage of any kind is holds of it.
use Rattle.std.proofs.Common.{◌≡◌, ℕ, ◌+◌, ◌<◌, ◌≤◌, true, List, [], ◌∷◌, ◌++◌, Result, IfSome, sym, subst}
use Rattle.page_pool.specs.Desk.{DeskState}
use Rattle.page_pool.specs.Disk.{PageMap}
use Rattle.page_pool.specs.declared.fault.PageFault.{PageFault}
use Rattle.sand_model.specs.Database.{Database}
use Rattle.sand_model.specs.Operators.{PlanRow}
use Rattle.statements.specs.Plan.{Plan}
use Rattle.sand_model.specs.Taken.{is_lazy}
use Rattle.best_first.specs.Visits.{told_pages}
use Rattle.plan_iterator.specs.Prices.{unless_refused}
use Rattle.plan_iterator.specs.Rows.{row_of}
use Rattle.plan_iterator.specs.declared.answer.Answer.{Answer}
use Rattle.plan_iterator.specs.Outermost.{beneath}
use Rattle.plan_iterator.specs.Sifts.{IfDone, LooksPaid}
use Rattle.plan_iterator.specs.Stages.{Works, Finishes, IsDry}
use Rattle.plan_iterator.specs.Steps.{Lowers}
use Rattle.plan_iterator.specs.declared.sifted.Sifted.{Sifted}
use Rattle.plan_iterator.specs.declared.step.Step.{Step}
use Rattle.plan_ops.specs.Stages.{StageStands, is_closed, stage_steps, stage_price, stage_owed}
use Rattle.plan_ops.specs.declared.stage.Stage.{Stage}

-- the clauses, as facts of the stage before the call
abbrev pub Dry : Stage → Type 0
Dry s = (pages : PageMap) (d : Database) (p : Plan) (taken given : List PlanRow) → StageStands s pages d p taken given → is_lazy p ≡ true → IsDry d p taken given

abbrev pub Holds : Stage → Answer → Stage → Type 0
Holds after row s =
    (pages : PageMap) (d : Database) (p : Plan) (taken given : List PlanRow) → StageStands s pages d p taken given
    → StageStands after pages d p (taken ++ row_of row ∷ []) given

abbrev pub HoldsFalling : Stage → Stage → Type 0
HoldsFalling after s = (m n : ℕ) → m < n → stage_steps after m < stage_steps s n

abbrev pub FinishesFalling : Stage → Result Step PageFault → Stage → Type 0
FinishesFalling after result s = (m n : ℕ) → m ≤ n → Lowers (stage_steps s n) (stage_steps after m) result

abbrev pub Finished : Stage → Result Step PageFault → Stage → Type 0
Finished after result s =
    (pages : PageMap) (d : Database) (p : Plan) (given : List PlanRow) → StageStands s pages d p (beneath d p) given
    → Finishes d p given result (StageStands after pages d p (beneath d p))

abbrev pub Ready : DeskState → Stage → Type 0
Ready desk s = IfSome (told_pages desk) (λ pages. (d : Database) × ((p : Plan) × ((taken : List PlanRow) × ((given : List PlanRow) × StageStands s pages d p taken given))))

abbrev pub WorksFalling : Stage → Result Step PageFault → Stage → Type 0
WorksFalling after result s = (n : ℕ) → Lowers (stage_steps s n) (stage_steps after n) result

abbrev pub Worked : DeskState → Stage → Result Step PageFault → Stage → Type 0
Worked desk after result s =
    IfSome (told_pages desk) (λ pages. (d : Database) (p : Plan) (taken given : List PlanRow) → StageStands s pages d p taken given
    → Works d p taken given (is_closed after) result (StageStands after pages d p taken))

abbrev pub HasPrice : Stage → Stage → Type 0
HasPrice after s = stage_price after ≡ stage_price s

abbrev pub HoldsOwing : Stage → Answer → Stage → Type 0
HoldsOwing after row s = (pages : PageMap) (d : Database) (p : Plan) → stage_owed after pages d p ≤ stage_price s pages d p (row_of row)

abbrev pub FinishesOwing : Stage → Stage → Type 0
FinishesOwing after s = (pages : PageMap) (d : Database) (p : Plan) → stage_owed after pages d p ≤ stage_owed s pages d p

abbrev pub WorksPaying : DeskState → DeskState → Stage → Result Step PageFault → Stage → Type 0
WorksPaying desk later after result s =
    IfSome (told_pages desk) (λ pages. (d : Database) (p : Plan) (taken given : List PlanRow) → StageStands s pages d p taken given
    → later.pool.gets + unless_refused result (stage_owed after pages d p) ≤ desk.pool.gets + stage_owed s pages d p)

abbrev pub Said : DeskState → Result Sifted PageFault → Answer → Stage → Type 0
Said desk result row s =
    IfSome (told_pages desk) (λ pages. (d : Database) (p : Plan) (taken given : List PlanRow) → StageStands s pages d p taken given
    → IfDone row result (λ made. Works d p (taken ++ row_of row ∷ []) given (is_closed s) made (StageStands s pages d p (taken ++ row_of row ∷ []))))

abbrev pub SaysPaying : DeskState → DeskState → Result Sifted PageFault → Answer → Stage → Type 0
SaysPaying desk later result row s =
    IfSome (told_pages desk) (λ pages. (d : Database) (p : Plan) (taken given : List PlanRow) → StageStands s pages d p taken given
    → LooksPaid result desk.pool.gets later.pool.gets (stage_owed s pages d p) (stage_price s pages d p (row_of row)))

-- the stage that it is
pub of_kind : (X : Stage → Type 0) (s kind : Stage) → s ≡ kind → X kind → X s
of_kind X s kind e h = subst X (sym e) h

pub to_kind : (X : Stage → Type 0) (s kind : Stage) → s ≡ kind → X s → X kind
to_kind X s kind e h = subst X e h
