-- What a search farthest first prints: the lines of its rows, up to their end or to a refusal.
use Rattle.std.specs.Prelude.{◌≡◌, ◌⊎◌, ℕ, List, [], ◌∷◌, ◌++◌, map, Option, None, Some, Result, Ok, Err, IfSome, false}
use Rattle.std.proofs.Common.{le_of_eq, refl}
use Rattle.std.specs.List.{list_any}
use Rattle.sand_base.specs.declared.refusal.Refusal.{Refusal}
use Rattle.sand_base.specs.declared.refusal.Refusal.TheVariants as why
use Rattle.sand_base.specs.declared.source.Failed.{Failed}
use Rattle.sand_model.specs.Answer.{single_row}
use Rattle.sand_model.specs.Cursor.{OutputLine}
use Rattle.sand_model.specs.Operators.{PlanRow}
use Rattle.sand_model.specs.Outcome.{first_lines}
use Rattle.sand_model.specs.OutputText.{IsText, is_refused}
use Rattle.sand_model.specs.Sources.{Found, far_rows}
use Rattle.output_text.specs.Writing.{Writes, WritesPrefix}
use Rattle.page_pool.specs.Disk.{PageMap}
use Rattle.page_pool.specs.declared.fault.PageFault.{PageFault}
use Rattle.sand_store.specs.declared.column.FileShapes.{FileShapes}
use Rattle.best_first.specs.declared.hit.Hit.{Hit}
use Rattle.far_cursor.specs.FarCursor.{shapes_in, GivesFarthest}
use Rattle.far_cursor.specs.declared.far_tree.FarTree.{FarTree}
use Rattle.plan_iterator.specs.Rows.{plan_measure}
use Rattle.plan_iterator.specs.declared.answer.Answer.{Answer}
use Rattle.row_output.specs.Stepping.{PrintsStep}
use Rattle.row_output.specs.declared.next.Next.{Next}
use Rattle.statement_exec.specs.Deciding.{PrintsRowsUpTo}
use Rattle.statement_exec.specs.Ending.{refused_line}

-- the row of a plan that a row of the search is
abbrev pub answer_of : Hit → Answer
answer_of hit = record { gap = Some hit.gap; ids = hit.left ∷ []; values = []; numbered = le_of_eq refl; one_line = refl }

-- an answer of the search as that of a plan
abbrev pub plan_answer : Result (Option Hit) PageFault → Result (Option Answer) PageFault
plan_answer (Ok (Some hit)) = Ok (Some (answer_of hit))
plan_answer (Ok None) = Ok None
plan_answer (Err fault) = Err fault

-- A step of the search gave a row of its list, and the line of this row was written.
pub record PrintsFarthest (told : Option PageMap) (tree : FarTree FileShapes) (old new : Option Hit) (result : Result Next Failed) (before now : List ℕ → Type 0) : Type 0 where
  pub answer : Result (Option Hit) PageFault
  pub gives : IfSome told (GivesFarthest tree old new answer)
  pub prints : PrintsStep (plan_answer answer) result before now

-- the rows of a search over pages, farthest first
abbrev pub far_found : FarTree FileShapes → PageMap → List Found
far_found tree pages = far_rows plan_measure tree.goal (shapes_in tree.shapes pages)

-- the lines of the first rows of a search, and its end where it has fewer
abbrev pub first_found : ℕ → List Found → List OutputLine
first_found count found = first_lines count (map single_row found)

-- all of some lines, or the first of them before a refusal
abbrev pub AreUpTo : List OutputLine → Option Refusal → List OutputLine → Type 0
AreUpTo all None lines = lines ≡ all
AreUpTo all (Some refusal) lines = (rest : List OutputLine) × (all ≡ lines ++ rest)

-- Lines of rows were written, no more than so many: over pages that are told, all of these or the first of them.
pub record WritesFound (told : Type 0) (count : ℕ) (all : List OutputLine) (end : Option Refusal) (before now : List ℕ → Type 0) : Type 0 where
  pub lines : List OutputLine
  pub plain : list_any is_refused lines ≡ false
  pub counted : PrintsRowsUpTo (λ refusal. end ≡ Some refusal) count (lines ++ refused_line end)
  pub first : told → AreUpTo all end lines
  pub written : Writes (IsText lines) before now

-- these are whole lines of rows, over pages that are told all of these; or memory may be refused behind them
abbrev pub AreWholeOrRefused : Type 0 → ℕ → List OutputLine → List OutputLine → Type 0
AreWholeOrRefused told count all lines =
    ((told → lines ≡ all) × PrintsRowsUpTo (λ refusal. ⊥) count lines)
    ⊎ PrintsRowsUpTo (λ refusal. refusal ≡ why.Memory) count (lines ++ refused_line (Some why.Memory))

-- A prefix of lines of rows was written, no more than so many: over pages that are told, of the first of these.
pub record BreaksFound (told : Type 0) (count : ℕ) (all : List OutputLine) (before now : List ℕ → Type 0) : Type 0 where
  pub lines : List OutputLine
  pub plain : list_any is_refused lines ≡ false
  pub counted : AreWholeOrRefused told count all lines
  pub first : told → (rest : List OutputLine) × (all ≡ lines ++ rest)
  pub broken : WritesPrefix (IsText lines) before now
