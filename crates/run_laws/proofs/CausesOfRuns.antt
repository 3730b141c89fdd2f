-- The refusals of a run have their causes: a line of a script prints one at most, and its cause is among the rises of that line.
use Rattle.std.proofs.Common.{◌≡◌, ◌⊎◌, ℕ, zero, suc, Bool, List, [], ◌∷◌, ◌++◌, Option, Some, None, refl, sym, subst, ◌∙◌, inl, inr, true≢false}
use Rattle.std.specs.Prelude.{map}
use Rattle.std.proofs.lemmas.List.{append-nil}
use Rattle.sand_base.specs.declared.refusal.Refusal.{Refusal}
use Rattle.sand_base.specs.declared.refusal.Refusal.TheVariants as why
use Rattle.sand_base.specs.declared.point.Point.{Point}
use Rattle.statements.specs.declared.column.Column.{Column}
use Rattle.sand_model.specs.Answer.{single_row}
use Rattle.sand_model.specs.Operators.{PlanRow}
use Rattle.sand_model.specs.Sources.{column_shapes, far_rows}
use Rattle.z_code.specs.declared.block.Block.{Block}
use Rattle.sand_model.specs.Checks.{first_refusal}
use Rattle.sand_model.specs.Cursor.{State, Cursor, OutputLine, Accepted, Id, Loaded, Row, End, Stats, LeafOf, Steps}
use Rattle.sand_model.specs.Database.{Database, Relation, Index, Quadtree, Attribute, column_named, index_at}
use Rattle.sand_model.specs.Measure.{Measure}
use Rattle.sand_model.specs.Outcome.{Rises, Outcome, IsLicensed, IsRefusalCaused, IsRefusedBy, IsCarriedOut, PrintsFirst, leaf_lines, first_lines, far_lines}
use Rattle.sand_model.specs.Run.{LineOutcome, Run}
use Rattle.statements.specs.Statement.{Statement, Create, Insert, Delete, Load, Index as IndexOn, Rtree, OpenCursor, Next, CloseCursor, Show, Stats as StatsOf, Far, Blocks}
use Rattle.sand_model.specs.ScriptLine.{ScriptLine, Blank, TooLong, BadToken, OutOfRange, Says}
use Rattle.sand_model.specs.StatementChecks.{Setting, early, late}
use Rattle.sand_model.specs.Tree.{leaves, root_block}
use Rattle.run_laws.specs.Causes.{HaveCauses}
use Rattle.run_laws.proofs.Counted.{AreNoRefusals, HasItsCause, causes_none, causes_refusal, causes_more, causes_line, causes_behind, causes_append, causes_of}
use Rattle.run_laws.proofs.PlanChecks.{IsInside}
use Rattle.run_laws.proofs.StatementChecksInside.{inside_checks}

-- what is licensed has its cause
licensed_cause : (setting : Setting) (rises : Rises) (state : State) (statement : Statement) (refusal : Refusal)
    → IsLicensed setting rises state statement refusal → HasItsCause setting.tells rises refusal
licensed_cause setting rises state statement why.Memory h = tt
licensed_cause setting rises state statement why.Device h = h.1
licensed_cause setting rises state statement (why.Damaged page kept read) h = h.1
licensed_cause setting rises state statement why.File h = h.1
licensed_cause setting rises state statement _ h = absurd h

-- so has what a check refuses
check_cause : (tells : Bool) (rises : Rises) (refusal : Refusal) → IsInside (Some refusal) → IsRefusalCaused rises refusal → HasItsCause tells rises refusal
check_cause tells rises why.Memory i h = absurd (true≢false i)
check_cause tells rises why.Device i h = absurd (true≢false i)
check_cause tells rises (why.Damaged page kept read) i h = absurd (true≢false i)
check_cause tells rises why.File i h = h
check_cause tells rises _ i h = tt

-- the first of lines that are no refusals
quiet_prefix : (printed rest : List OutputLine) → AreNoRefusals (printed ++ rest) → AreNoRefusals printed
quiet_prefix [] rest h = tt
quiet_prefix (line ∷ printed) rest h = (h.0, quiet_prefix printed rest h.1)

-- the leaves of a quadtree
quiet_leaves : (found : List (Block × List ℕ)) → AreNoRefusals (map (λ leaf. LeafOf leaf.0 leaf.1) found)
quiet_leaves [] = tt
quiet_leaves (leaf ∷ found) = (tt, quiet_leaves found)

-- the leaves of a column's index, where it has one
quiet_lines : (relation : Relation) (column : List ℕ) → AreNoRefusals (leaf_lines relation column)
quiet_lines relation column = at_place (column_named relation.schema column) refl where
  of_index : (at : ℕ) → column_named relation.schema column ≡ Some at → (o : Option Index) → index_at relation at ≡ o → AreNoRefusals (leaf_lines relation column)
  of_index at e (Some (Quadtree threshold tree)) k = rw (e, k) (quiet_leaves (leaves root_block tree))
  of_index at e (Some Attribute) k = rw (e, k) tt
  of_index at e None k = rw (e, k) tt

  at_place : (o : Option ℕ) → column_named relation.schema column ≡ o → AreNoRefusals (leaf_lines relation column)
  at_place None e = rw e tt
  at_place (Some at) e = of_index at e (index_at relation at) refl

-- rows, and their end
quiet_first : (count : ℕ) (rows : List PlanRow) → AreNoRefusals (first_lines count rows)
quiet_first zero rows = tt
quiet_first (suc count) [] = (tt, tt)
quiet_first (suc count) (row ∷ rows) = (tt, quiet_first count rows)

-- the rows farthest from a point
quiet_far : (gap : Measure) (database : Database) (count : ℕ) (column : Column) (goal : Point) → AreNoRefusals (far_lines gap database count column goal)
quiet_far gap database count column goal = quiet_first count (map single_row (far_rows gap goal (column_shapes database column)))

module _ (tells : Bool) (rises : Rises) where
  refused_cause : (refusal : Refusal) (old new : State) (lines : List OutputLine) → HasItsCause tells rises refusal → IsRefusedBy refusal old lines new → HaveCauses tells rises lines
  refused_cause refusal old new lines h k = causes_of tells rises lines _ k.0 (causes_refusal tells rises refusal h)

  module _ (may : Refusal → Type 0) (caused : (refusal : Refusal) → may refusal → HasItsCause tells rises refusal) where
    -- the lines of a cursor's steps
    steps_cause : (gap : Measure) (count : ℕ) (old new : Cursor) (lines : List OutputLine) → Steps gap may count old lines new → HaveCauses tells rises lines
    steps_cause gap zero old new lines h = causes_of tells rises lines _ h.0 (causes_none tells rises)
    steps_cause gap (suc count) old new lines (inl (row, mid, more, stepped, is, rest)) =
        causes_of tells rises lines _ is (causes_more tells rises (Row row) more tt (steps_cause gap count mid new more rest))
    steps_cause gap (suc count) old new lines (inr (inl (stepped, is))) = causes_of tells rises lines _ is (causes_line tells rises End tt)
    steps_cause gap (suc count) old new lines (inr (inr (refusal, h, stepped, is))) = causes_of tells rises lines _ is (causes_refusal tells rises refusal (caused refusal h))

    -- all of some lines, or the first of them and then a refusal
    leaves_cause : (all lines : List OutputLine) → AreNoRefusals all → PrintsFirst may all lines → HaveCauses tells rises lines
    leaves_cause all lines quiet (inl is) = causes_of tells rises lines _ (is ∙ sym (append-nil all)) (causes_behind tells rises all [] quiet (causes_none tells rises))
    leaves_cause all lines quiet (inr (printed, rest, refusal, m, split, is)) =
        let first : AreNoRefusals printed = quiet_prefix printed rest (subst AreNoRefusals split quiet) in
        causes_of tells rises lines _ is (causes_behind tells rises printed _ first (causes_refusal tells rises refusal (caused refusal m)))

module _ (setting : Setting) (rises : Rises) (old new : State) (lines : List OutputLine) where
  carried_cause : (statement : Statement) → IsCarriedOut setting rises old statement lines new → HaveCauses setting.tells rises lines
  carried_cause (Create name columns) h = causes_of setting.tells rises lines _ h.0 (causes_line setting.tells rises Accepted tt)
  carried_cause (Insert name row) (relation, found, h) = causes_of setting.tells rises lines _ h.0 (causes_line setting.tells rises (Id relation.next) tt)
  carried_cause (Delete name id) h = causes_of setting.tells rises lines _ h.0 (causes_line setting.tells rises Accepted tt)
  carried_cause (Load name file header) (relation, found, h) = causes_of setting.tells rises lines _ h.0 (causes_line setting.tells rises (Loaded _) tt)
  carried_cause (IndexOn column threshold) h = causes_of setting.tells rises lines _ h.0 (causes_line setting.tells rises Accepted tt)
  carried_cause (Rtree column) h = causes_of setting.tells rises lines _ h.0 (causes_line setting.tells rises Accepted tt)
  carried_cause (OpenCursor name p) h = causes_of setting.tells rises lines _ h.0 (causes_line setting.tells rises Accepted tt)
  carried_cause (Next name count) (cursor, found, rest) =
      steps_cause setting.tells rises (IsLicensed setting rises old (Next name count)) (licensed_cause setting rises old (Next name count)) setting.gap count cursor rest.0 lines rest.1
  carried_cause (CloseCursor name) h = causes_of setting.tells rises lines _ h.0 (causes_line setting.tells rises Accepted tt)
  carried_cause (Show count p) (after, h, is) =
      steps_cause setting.tells rises (IsLicensed setting rises old (Show count p)) (licensed_cause setting rises old (Show count p)) setting.gap count _ after lines h
  carried_cause (StatsOf name) (cursor, found, h) = causes_of setting.tells rises lines _ h.0 (causes_line setting.tells rises (Stats _ _) tt)
  carried_cause (Far count column goal) h =
      leaves_cause setting.tells rises (IsLicensed setting rises old (Far count column goal)) (licensed_cause setting rises old (Far count column goal))
      (far_lines setting.gap old.database count column goal) lines (quiet_far setting.gap old.database count column goal) h.0
  carried_cause (Blocks column) (relation, found, h) =
      leaves_cause setting.tells rises (IsLicensed setting rises old (Blocks column)) (licensed_cause setting rises old (Blocks column))
      (leaf_lines relation column.column) lines (quiet_lines relation column.column) h.0

  outcome_cause : (statement : Statement) → Outcome setting rises old statement lines new → HaveCauses setting.tells rises lines
  outcome_cause statement (inl (refusal, licensed, refused)) =
      refused_cause setting.tells rises refusal old new lines (licensed_cause setting rises old statement refusal licensed) refused
  outcome_cause statement (inr by_checks) = go (first_refusal (early setting old statement ∷ late setting old statement ∷ [])) refl where
    go : (o : Option Refusal) → first_refusal (early setting old statement ∷ late setting old statement ∷ []) ≡ o → HaveCauses setting.tells rises lines
    go None e = let carried : IsCarriedOut setting rises old statement lines new = rw e at by_checks in carried_cause statement carried
    go (Some refusal) e =
        let refused : IsRefusalCaused rises refusal × IsRefusedBy refusal old lines new = rw e at by_checks in
        let inside : IsInside (Some refusal) = rw e at (inside_checks setting old statement) in
        refused_cause setting.tells rises refusal old new lines (check_cause setting.tells rises refusal inside refused.0) refused.1

  line_cause : (line : ScriptLine) → LineOutcome setting rises old line lines new → HaveCauses setting.tells rises lines
  line_cause Blank h = causes_of setting.tells rises lines _ h.0 (causes_none setting.tells rises)
  line_cause TooLong h = refused_cause setting.tells rises why.LineTooLong old new lines tt h
  line_cause (BadToken column) h = refused_cause setting.tells rises (why.Syntax column) old new lines tt h
  line_cause OutOfRange h = refused_cause setting.tells rises why.Range old new lines tt h
  line_cause (Says statement) h = outcome_cause statement h

  -- a line of a run, or its want of memory
  goes_cause : (line : ScriptLine) → LineOutcome setting rises old line lines new ⊎ IsRefusedBy why.Memory old lines new → HaveCauses setting.tells rises lines
  goes_cause line (inl h) = line_cause line h
  goes_cause line (inr h) = refused_cause setting.tells rises why.Memory old new lines tt h

-- the lines that a run prints
pub run_causes : (setting : Setting) (old new : State) (script : List ScriptLine) (rises : Rises) (printed : List OutputLine)
    → Run setting old script rises printed new → HaveCauses setting.tells rises printed
run_causes setting old new [] rises printed h = causes_of setting.tells rises printed _ h.0 (causes_none setting.tells rises)
run_causes setting old new (line ∷ script) rises printed h =
    causes_of setting.tells rises printed _ h.printed_is
    (causes_append setting.tells h.own h.others rises h.first h.more h.fit
    (goes_cause setting h.own old h.mid h.first line h.outcome)
    (run_causes setting h.mid new script h.others h.more h.goes))
