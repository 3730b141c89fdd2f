-- What is decided of the lines of a statement, from its checks in the state itself.
use Rattle.std.proofs.Common.{◌≡◌, ℕ, Bool, List, [], ◌∷◌, Option, Some, None, refl, ◌∙◌, inl, inr}
use Rattle.sand_base.specs.Shelf.{Files}
use Rattle.sand_base.specs.declared.refusal.Refusal.{Refusal}
use Rattle.sand_base.specs.declared.refusal.Refusal.TheVariants as why
use Rattle.sand_model.specs.Cursor.{State, OutputLine, Refused}
use Rattle.statements.specs.Statement.{Statement, Create, Insert, Delete, Load, Index as IndexOn, Rtree, OpenCursor, Next, CloseCursor, Show, Stats, Far, Blocks}
use Rattle.sand_model.specs.StatementChecks.{Setting, early, check_load}
use Rattle.statement_exec.specs.Deciding.{ComesBehind, PrintsPassed, DecidesEarly, InFound}
use Rattle.statement_exec.specs.Moment.{AreTold}
use Rattle.statement_exec.specs.Outline.{Outline, outline_of, bare, outline_after}
use Rattle.statement_exec.proofs.Outlines.{early_shown, load_shown}

-- where the setting's files are the shelf's, the statement finds them
pub found_own : (files : Option Files) (setting : Setting) (statement : Statement) (P : Setting → Type 0) → AreTold files setting.files → P setting → InFound files setting statement P
found_own files setting (Load name file header) P told h = (setting.files, told, h)
found_own files setting _ P told h = h

-- a refusal changes no outline
pub after_refusal : (old : Outline) (statement : Statement) (w : Refusal) → outline_after old statement (Refused w ∷ []) ≡ old
after_refusal old (Create name columns) w = refl
after_refusal old (Insert name row) w = refl
after_refusal old (Delete name id) w = refl
after_refusal old (Load name file header) w = refl
after_refusal old (IndexOn column threshold) w = refl
after_refusal old (Rtree column) w = refl
after_refusal old (OpenCursor name p) w = refl
after_refusal old (Next name count) w = refl
after_refusal old (CloseCursor name) w = refl
after_refusal old (Show count p) w = refl
after_refusal old (Stats name) w = refl
after_refusal old (Far count column goal) w = refl
after_refusal old (Blocks column) w = refl

module _ (setting : Setting) (state : State) (statement : Statement) where
  -- an early check refuses
  pub by_early : (w : Refusal) → early setting state statement ≡ Some w → DecidesEarly setting (bare (outline_of state)) statement (Refused w ∷ [])
  by_early w e = rw (early_shown state setting statement ∙ e) (inl refl)

  -- memory is refused
  pub by_memory : DecidesEarly setting (bare (outline_of state)) statement (Refused why.Memory ∷ [])
  by_memory = go (early setting (bare (outline_of state)) statement) refl where
    go : (o : Option Refusal) → early setting (bare (outline_of state)) statement ≡ o → DecidesEarly setting (bare (outline_of state)) statement (Refused why.Memory ∷ [])
    go None e = rw e (inl (why.Memory, tt, refl))
    go (Some w) e = rw e (inr (why.Memory, tt, refl))

  -- no early check refuses, and a refusal comes that may
  pub by_behind : (w : Refusal) → early setting state statement ≡ None → ComesBehind statement w → DecidesEarly setting (bare (outline_of state)) statement (Refused w ∷ [])
  by_behind w e h = rw (early_shown state setting statement ∙ e) (inl (w, h, refl))

  -- no early check refuses, and the lines are those that are to be printed
  pub by_passing : (lines : List OutputLine) → early setting state statement ≡ None → PrintsPassed setting (bare (outline_of state)) statement lines
      → DecidesEarly setting (bare (outline_of state)) statement lines
  by_passing lines e h = rw (early_shown state setting statement ∙ e) (inr h)

-- the shelf refuses a load whose file is reached
pub by_shelf : (setting : Setting) (state : State) (name file : List ℕ) (header : Bool) → check_load state name ≡ None
    → DecidesEarly setting (bare (outline_of state)) (Load name file header) (Refused why.File ∷ [])
by_shelf setting state name file header h = go (early setting (bare (outline_of state)) (Load name file header)) refl where
  go : (o : Option Refusal) → early setting (bare (outline_of state)) (Load name file header) ≡ o → DecidesEarly setting (bare (outline_of state)) (Load name file header) (Refused why.File ∷ [])
  go None e = rw e (inl (why.File, tt, refl))
  go (Some w) e = rw e (inr (why.File, load_shown state name ∙ h, refl))
