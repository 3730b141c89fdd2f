-- The outcome of a statement from its checks, and over a shelf.
use Rattle.std.proofs.Common.{◌≡◌, List, Option, Some, None, inl, inr}
use Rattle.sand_base.specs.Shelf.{Files}
use Rattle.sand_base.specs.declared.refusal.Refusal.{Refusal}
use Rattle.sand_model.specs.Cursor.{State, OutputLine}
use Rattle.sand_model.specs.Outcome.{Rises, Outcome, IsLicensed, IsRefusalCaused, IsRefusedBy, IsCarriedOut}
use Rattle.statements.specs.Statement.{Statement, Load}
use Rattle.sand_model.specs.StatementChecks.{Setting, early, late}
use Rattle.statement_exec.specs.Moment.{AreTold}
use Rattle.statement_exec.specs.Performing.{ShelfOutcome}

module _ (setting : Setting) (rises : Rises) (old : State) (statement : Statement) (lines : List OutputLine) (new : State) where
  -- all checks pass
  pub outcome_done : early setting old statement ≡ None → late setting old statement ≡ None
      → IsCarriedOut setting rises old statement lines new → Outcome setting rises old statement lines new
  outcome_done e l h = inr (rw (e, l) h)

  -- the outside refuses
  pub outcome_outside : (refusal : Refusal) → IsLicensed setting rises old statement refusal → IsRefusedBy refusal old lines new
      → Outcome setting rises old statement lines new
  outcome_outside refusal c h = inl (refusal, c, h)

  -- an early check refuses
  pub outcome_early : (refusal : Refusal) → early setting old statement ≡ Some refusal → IsRefusalCaused rises refusal → IsRefusedBy refusal old lines new
      → Outcome setting rises old statement lines new
  outcome_early refusal e c h = inr (rw e (c, h))

  -- a late check refuses
  pub outcome_late : (refusal : Refusal) → early setting old statement ≡ None → late setting old statement ≡ Some refusal → IsRefusalCaused rises refusal
      → IsRefusedBy refusal old lines new → Outcome setting rises old statement lines new
  outcome_late refusal e l c h = inr (rw (e, l) (c, h))

-- an outcome whose data files are the shelf's is one over the shelf
pub outcome_over : (files : Option Files) (setting : Setting) (rises : Rises) (old : State) (statement : Statement) (lines : List OutputLine) (new : State) → AreTold files setting.files
    → Outcome setting rises old statement lines new → ShelfOutcome files setting rises old statement lines new
outcome_over files setting rises old (Load relation file header) lines new told h = (setting.files, told, h)
outcome_over files setting rises old _ lines new told h = h
