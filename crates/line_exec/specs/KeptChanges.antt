-- The changes that a journal keeps of lines: what they make of the relations, and how their records follow those of before.
use Rattle.std.specs.Prelude.{◌≡◌, ⊤, ℕ, ◌≤◌, Bool, true, false, List, [], ◌∷◌, ◌++◌, length, map, IsTrue, Option, Some, None, Result, Ok, Err}
use Rattle.std.specs.List.{AllByRecursion}
use Rattle.journal_replay.specs.ChangedDatabase.{TakesAll, world_after}
use Rattle.journal_replay.specs.LedBy.{LedByOne, sketches_after}
use Rattle.sand_base.specs.declared.refusal.Refusal.{Refusal}
use Rattle.sand_journal.specs.ChangeBody.{ChangeValue, IsChange, body_of}
use Rattle.sand_journal.specs.Images.{LeavesOnly, LiesBetween}
use Rattle.sand_journal.specs.Journal.{IsAtEnd}
use Rattle.sand_journal.specs.Tape.{TapeView}
use Rattle.sand_journal.specs.declared.journal.Journal.{Journal}
use Rattle.sand_model.specs.Cursor.{State}
use Rattle.sand_model.specs.StatementChecks.{Setting, IsSetting}
use Rattle.sand_store.specs.Calls.{IsUnchanged}
use Rattle.sand_store.specs.Catalog.{StoreState}
use Rattle.sand_store.specs.Contents.{database}
use Rattle.statements.specs.Statement.{Statement}
use Rattle.statement_exec.specs.Moment.{Moment}
use Rattle.statement_exec.specs.Outline.{outline_of}
use Rattle.statement_exec.specs.declared.reply.Reply.{Reply}
use Rattle.line_exec.specs.MadeChanges.{IsChangeBy}
use Rattle.line_exec.specs.declared.fault.LineFault.{LineFault}
use Rattle.line_exec.specs.declared.fault.LineFault.TheVariants as fault

-- This holds in every setting with the limits of the moment, where its disk tells.
abbrev pub WhereTold : Moment → (Setting → Type 0) → Type 0
WhereTold at P = IsTrue at.told → (setting : Setting) → IsSetting setting → setting.limits ≡ at.limits → P setting

-- The changes make this state of a moment: over any disk its relations are those that they sketch, and where the disk tells, its
-- database took them all, one after the other, and is their world.
pub record LeadTo (changes : List ChangeValue) (old : Moment) (state : State) : Type 0 where
  pub sketched : (outline_of state).relations ≡ sketches_after changes (outline_of old.state).relations
  pub takes : WhereTold old (λ setting. TakesAll setting changes old.state.database)
  pub becomes : WhereTold old (λ setting. state.database ≡ world_after setting changes old.state.database)

-- The bytes are the body of the statement's own change, which led a store from one state to another.
pub record IsBodyOfStep (statement : Statement) (body : List ℕ) (old new : StoreState) : Type 0 where
  pub change : ChangeValue
  pub by : IsChangeBy (database old) statement change
  pub is : IsChange change
  pub has : body ≡ body_of change
  pub led : LedByOne change old new

-- What is to be kept of a statement that was answered so, where changes are kept: of an accepted one the body of the change that it made;
-- of a refused one nothing, for the store is as it was.
abbrev pub IsToKeep : Bool → Statement → Result Reply Refusal → Option (List ℕ) → StoreState → StoreState → Type 0
IsToKeep keeps statement (Err why) body old new = IsUnchanged old new
IsToKeep false statement (Ok given) body old new = ⊤
IsToKeep true statement (Ok given) None old new = ⊥
IsToKeep true statement (Ok given) (Some body) old new = IsBodyOfStep statement body old new

-- the bodies that are appended behind an answer: that of an accepted change, where one was made
abbrev pub bodies_kept : Result Reply Refusal → Option (List ℕ) → List (List ℕ)
bodies_kept (Ok given) (Some body) = body ∷ []
bodies_kept _ _ = []

-- The records of these bodies were appended to those that a journal had, where `Done` says so. A crash at any moment of it leaves
-- the records of before, or those with the first of these.
pub record Appends {T : Type 0} (seen : T → TapeView) (old new : Journal T) (more : List (List ℕ)) (Done : Type 0 → Type 0) : Type 0 where
  pub told : (seen new.tape).told ≡ (seen old.tape).told
  pub at_end : Done ((bodies : List (List ℕ)) → IsAtEnd seen old bodies → IsAtEnd seen new (bodies ++ more))
  pub any_moment : (bodies : List (List ℕ)) → IsAtEnd seen old bodies → IsTrue (seen old.tape).told
      → LeavesOnly (seen old.tape) (seen new.tape) (LiesBetween bodies (bodies ++ more))

-- the same of the journal of a run, where there is one
abbrev pub AppendsIfAny : {T : Type 0} → (T → TapeView) → Option (Journal T) → Option (Journal T) → List (List ℕ) → (Type 0 → Type 0) → Type 0
AppendsIfAny seen None new more Done = ⊤
AppendsIfAny seen (Some old) None more Done = ⊥
AppendsIfAny seen (Some old) (Some new) more Done = Appends seen old new more Done

-- this holds unless the journal failed
abbrev pub UnlessJournal : Result Bool LineFault → Type 0 → Type 0
UnlessJournal (Err fault.Journal) P = ⊤
UnlessJournal _ P = P

-- The changes lead from one moment to a state, and their records were appended to those that the journal had.
pub record KeepsAll {T : Type 0} (seen : T → TapeView) (old new : Journal T) (changes : List ChangeValue) (first : Moment) (state : State) (Done : Type 0 → Type 0) : Type 0 where
  pub all : AllByRecursion IsChange changes
  pub lead : LeadTo changes first state
  pub appends : Appends seen old new (map body_of changes) Done

-- These changes of a line, at most one, lead from one moment to a state, and their records were appended to those that the journal had; a
-- refused line made none.
pub record KeepsChange {T : Type 0} (seen : T → TapeView) (old new : Journal T) (changes : List ChangeValue) (first : Moment) (state : State) (result : Result Bool LineFault) : Type 0 where
  pub one : length changes ≤ 1
  pub refused : result ≡ Ok true → changes ≡ []
  pub keeps : KeepsAll seen old new changes first state (UnlessJournal result)

-- no changes yet, where a journal keeps them
abbrev pub no_changes : {T : Type 0} → Option (Journal T) → Option (List ChangeValue)
no_changes None = None
no_changes (Some journal) = Some []

-- the journal of a run, where there is one, kept these changes of a line; without a journal none are named
abbrev pub KeepsIfAny : {T : Type 0} → (T → TapeView) → Option (Journal T) → Option (Journal T) → Option (List ChangeValue) → Moment → State → Result Bool LineFault → Type 0
KeepsIfAny seen None new kept first state result = kept ≡ None
KeepsIfAny seen (Some old) (Some new) (Some changes) first state result = KeepsChange seen old new changes first state result
KeepsIfAny seen (Some old) _ _ first state result = ⊥
