-- What a run leaves on the tape of its journal, now and at every moment since the journal was opened.
use Rattle.std.specs.Prelude.{◌≡◌, ◌≢◌, ⊤, ℕ, ◌≤◌, Bool, IsTrue, List, [], ◌∷◌, ◌++◌, length, map, Option, Some, None}
use Rattle.std.specs.List.{AllByRecursion}
use Rattle.journal_replay.specs.ChangedDatabase.{world_after}
use Rattle.journal_replay.specs.LedBy.{sketches_after}
use Rattle.line_exec.specs.KeptChanges.{LeadTo}
use Rattle.sand_base.specs.declared.limits.Limits.{Limits}
use Rattle.sand_journal.specs.ChangeBody.{ChangeValue, IsChange, body_of}
use Rattle.sand_journal.specs.Changes.{HasAtLeast}
use Rattle.sand_journal.specs.Images.{LeavesOnly, LiesBetween}
use Rattle.sand_journal.specs.Journal.{IsAtEnd}
use Rattle.sand_journal.specs.Tape.{Only, TapeView}
use Rattle.sand_journal.specs.declared.journal.Journal.{Journal}
use Rattle.sand_model.specs.Cursor.{State}
use Rattle.sand_model.specs.StatementChecks.{Setting, IsSetting}
use Rattle.statement_exec.specs.Moment.{Moment}
use Rattle.statement_exec.specs.Outline.{outline_of}
use Rattle.session.specs.declared.status.Status.{Status}
use Rattle.session.specs.declared.status.Status.TheVariants as status

-- what a read gives of a file whose journal was opened: an empty one has one shut gate
abbrev pub read_opened : List ℕ → List ℕ
read_opened [] = 0 ∷ []
read_opened (byte ∷ bytes) = byte ∷ bytes

-- The tape was opened as a journal. Where it tells, a crash now leaves what a read gives; where its file wasn't empty, a crash since any
-- earlier moment leaves no image that it might not have left before.
pub record BecomesJournal (old new : TapeView) : Type 0 where
  pub told : new.told ≡ old.told
  pub image : IsTrue old.told → new.bytes ≡ read_opened old.bytes
  pub durable : IsTrue old.told → Only new.bytes new.leaves
  pub later : IsTrue old.told → old.bytes ≢ [] → old.clock ≤ new.clock
  pub earlier : IsTrue old.told → old.bytes ≢ [] → (t : ℕ) (image : List ℕ) → t ≤ old.clock → new.since t image → old.since t image

-- Of the tape nothing was lost: where it tells and its file isn't empty, a read gives what it gave, and a crash leaves no image that it might
-- not have left before, neither now nor since any earlier moment.
pub record LosesNothing (old new : TapeView) : Type 0 where
  pub told : new.told ≡ old.told
  pub bytes : IsTrue old.told → old.bytes ≢ [] → new.bytes ≡ old.bytes
  pub fewer : IsTrue old.told → old.bytes ≢ [] → (image : List ℕ) → new.leaves image → old.leaves image
  pub earlier : IsTrue old.told → old.bytes ≢ [] → (t : ℕ) (image : List ℕ) → t ≤ old.clock → new.since t image → old.since t image

-- Where the disk tells its pages the state has the world of these changes, and over any disk the relations that they sketch.
pub record HasWorldOf (limits : Limits) (told : Bool) (changes : List ChangeValue) (state : State) : Type 0 where
  pub world : IsTrue told → (setting : Setting) → IsSetting setting → setting.limits ≡ limits → state.database ≡ world_after setting changes []
  pub outlined : (outline_of state).relations ≡ sketches_after changes []

-- the changes that a run of this status made and didn't tell: one at most where the journal failed, and else none
abbrev pub AreUntold : Status → List ChangeValue → Type 0
AreUntold status.JournalFault changes = length changes ≤ 1
AreUntold _ changes = changes ≡ []

-- The first changes, which a run told, lead from its first moment to this state, and the others may have been appended behind them. A crash
-- at any moment of the run leaves what the journal had, with the first of these; a crash at its return leaves all that were told.
pub record KeepsShown {T : Type 0} (seen : T → TapeView) (old : Journal T) (after : T) (ended : Status) (first : Moment) (last : State) (shown untold : List ChangeValue) : Type 0 where
  pub few : AreUntold ended untold
  pub all : AllByRecursion IsChange (shown ++ untold)
  pub lead : LeadTo shown first last
  pub any_moment : (bodies : List (List ℕ)) → IsAtEnd seen old bodies → IsTrue (seen old.tape).told
      → LeavesOnly (seen old.tape) (seen after) (LiesBetween bodies (bodies ++ map body_of (shown ++ untold)))
  pub at_return : (bodies : List (List ℕ)) → IsAtEnd seen old bodies → IsTrue (seen old.tape).told → (image : List ℕ) → (seen after).leaves image
      → LiesBetween (bodies ++ map body_of shown) (bodies ++ map body_of (shown ++ untold)) image

-- the same of the journal of a run, where there is one, and of the changes that are named then
abbrev pub ShowsIfAny : {T : Type 0} → (T → TapeView) → Option (Journal T) → Option (Journal T) → Status → Moment → State → Option (List ChangeValue) → Option (List ChangeValue) → Type 0
ShowsIfAny seen None new ended first last kept untold = ⊤
ShowsIfAny seen (Some old) (Some new) ended first last (Some shown) (Some untold) = KeepsShown seen old new.tape ended first last shown untold
ShowsIfAny seen (Some old) _ ended first last _ _ = ⊥

-- A run that began with the first changes kept its own on an opened tape. A crash at any moment since leaves the first changes, and maybe
-- some of its own, in their order; a crash at its return leaves all that were told. One more may be kept than was told, where the journal
-- failed.
pub record KeepsBehind {T : Type 0} (seen : T → TapeView) (ended : Status) (opened after : T) (first shown untold : List ChangeValue) : Type 0 where
  pub few : AreUntold ended untold
  pub any_moment : IsTrue (seen opened).told → LeavesOnly (seen opened) (seen after) (HasAtLeast (length first) (first ++ (shown ++ untold)))
  pub at_return : IsTrue (seen opened).told → (image : List ℕ) → (seen after).leaves image → HasAtLeast (length (first ++ shown)) (first ++ (shown ++ untold)) image

-- A run opened the tape as its journal, and kept its changes there.
pub record KeepsTape {T : Type 0} (seen : T → TapeView) (ended : Status) (before after : T) (first shown untold : List ChangeValue) : Type 0 where
  pub opened : T
  pub opens : BecomesJournal (seen before) (seen opened)
  pub keeps : KeepsBehind seen ended opened after first shown untold
