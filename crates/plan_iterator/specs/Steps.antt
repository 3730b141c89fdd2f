-- What a step of an operator gives, and what it does to the source beneath it.
use Rattle.std.specs.Prelude.{◌≡◌, ◌⊎◌, ℕ, ◌<◌, ◌≤◌, min, Bool, true, false, List, [], ◌∷◌, ◌++◌, length, take, Option, Result, Ok, Err, ⊤}
use Rattle.sand_base.specs.Faults.{last_count}
use Rattle.page_pool.specs.Desk.{DeskState}
use Rattle.page_pool.specs.Disk.{PageMap}
use Rattle.page_pool.specs.declared.fault.PageFault.{PageFault}
use Rattle.sand_model.specs.Database.{Database}
use Rattle.sand_model.specs.Operators.{PlanRow}
use Rattle.statements.specs.Plan.{Plan}
use Rattle.sand_model.specs.Reach.{Counts}
use Rattle.sand_model.specs.Taken.{Taken, is_full, is_lazy, beneath_sort}
use Rattle.plan_iterator.specs.Rows.{plan_measure, row_of}
use Rattle.plan_iterator.specs.SourceSteps.{MakesVisits, taken_after}
use Rattle.plan_iterator.specs.declared.answer.Answer.{Answer}
use Rattle.plan_iterator.specs.Outermost.{source_rows, over_rows, whole_answer}
use Rattle.plan_iterator.specs.declared.step.Step.{Step}
use Rattle.plan_iterator.specs.declared.step.Step.TheVariants.{Row, Pass, End}

-- the rows given after a step
abbrev pub given_after : List PlanRow → Result Step PageFault → List PlanRow
given_after given (Ok (Row a)) = given ++ row_of a ∷ []
given_after given (Ok Pass) = given
given_after given (Ok End) = given
given_after given (Err fault) = given

-- a row and a pass lower the number, and no answer raises it
abbrev pub Lowers : ℕ → ℕ → Result Step PageFault → Type 0
Lowers old new (Ok (Row a)) = new < old
Lowers old new (Ok Pass) = new < old
Lowers old new (Ok End) = new ≤ old
Lowers old new (Err fault) = new ≤ old

-- what holds at the end, and nothing at another answer
abbrev pub AtEnd : Result Step PageFault → Type 0 → Type 0
AtEnd (Ok (Row a)) holds = ⊤
AtEnd (Ok Pass) holds = ⊤
AtEnd (Ok End) holds = holds
AtEnd (Err fault) holds = ⊤

-- what holds where more steps may follow, after a row and a pass, and nothing at another answer
abbrev pub GoesOn : Result Step PageFault → Type 0 → Type 0
GoesOn (Ok (Row a)) holds = holds
GoesOn (Ok Pass) holds = holds
GoesOn (Ok End) holds = ⊤
GoesOn (Err fault) holds = ⊤

-- whether over so many source rows some `first n` of the plan has its rows
abbrev pub is_full_at : Database → Plan → ℕ → Bool
is_full_at d p rows = is_full plan_measure d p (take rows (source_rows d p))

-- nothing more will be taken of the source: a `first n` has its rows, or the source's end was taken
abbrev pub IsSpent : Database → Plan → Taken → Type 0
IsSpent d p t = (is_full_at d p t.rows ≡ true) ⊎ ((t.is_ended ≡ true) × (t.rows ≡ length (source_rows d p)))

-- The source is asked: no `first n` beneath the innermost sort has its rows, and without a sort all rows that those taken make were given.
pub record IsAsked (d : Database) (p : Plan) (t : Taken) (given : List PlanRow) : Type 0 where
  pub open_ : is_full_at d (beneath_sort p) t.rows ≡ false
  pub dry : is_lazy p ≡ true → over_rows d p (take t.rows (source_rows d p)) ≡ given

-- The source was asked once with this answer.
pub record AsksSource (pages : PageMap) (d : Database) (p : Plan) (t after : Taken) (given : List PlanRow) (before now : Counts) (old new : DeskState) (result : Result Step PageFault) : Type 0 where
  pub answer : Result (Option Answer) PageFault
  pub asked : IsAsked d p t given
  pub taken : after ≡ taken_after d p t answer
  pub visits : MakesVisits pages d p t before now old new answer
  pub refused : (fault : PageFault) → answer ≡ Err fault → result ≡ Err fault

-- The source is as it was, and the number of page gets doesn't fall.
pub record Rests (t after : Taken) (before now : Counts) (old new : DeskState) : Type 0 where
  pub taken : after ≡ t
  pub counts : now ≡ before
  pub log : new.visits ≡ old.visits
  pub up : min old.pool.gets last_count ≤ new.pool.gets

-- the source was asked once, or is as it was
abbrev pub AsksOnce : PageMap → Database → Plan → Taken → Taken → List PlanRow → Counts → Counts → DeskState → DeskState → Result Step PageFault → Type 0
AsksOnce pages d p t after given before now old new result =
    AsksSource pages d p t after given before now old new result ⊎ Rests t after before now old new

-- all rows were given, and nothing more will be taken
pub record IsDone (d : Database) (p : Plan) (t : Taken) (given : List PlanRow) : Type 0 where
  pub all : given ≡ whole_answer d p
  pub spent : IsSpent d (beneath_sort p) t

-- A step of an operator that gave these rows before, where so much of the source was taken.
pub record GoesStep (pages : PageMap) (d : Database) (p : Plan) (t : Taken) (given : List PlanRow) (before now : Counts) (old new : DeskState)
    (result : Result Step PageFault) (After : Taken → List PlanRow → Type 0) : Type 0 where
  pub taken : Taken
  pub follows : After taken (given_after given result)
  pub asks : AsksOnce pages d p t taken given before now old new result
  pub ends : AtEnd result (IsDone d p taken given)
