-- Lines of rows, so many, and then one more, or the end.
use Rattle.std.proofs.Common.{◌≡◌, ℕ, suc, ◌+◌, ◌<◌, true, false, List, [], ◌∷◌, ◌++◌, Option, None, Some, Result, Ok, Err, refl, sym, ap, subst, ◌∙◌, arith, length-append}
use Rattle.std.specs.Prelude.{All}
use Rattle.std.proofs.lemmas.Bool.{lt-ltb, le-ltb}
use Rattle.std.proofs.lemmas.List.Elements.{All-nil, All-cons, All-append}
use Rattle.sand_base.specs.Faults.{next_count}
use Rattle.sand_base.specs.declared.source.Failed.{Failed}
use Rattle.page_pool.specs.declared.fault.PageFault.{PageFault}
use Rattle.sand_model.specs.Cursor as line
use Rattle.sand_model.specs.Cursor.{OutputLine}
use Rattle.sand_model.specs.OutputText.{IsText}
use Rattle.sand_model.specs.PlainLines.{AreLinesOfRows, IsPlainRow, IsPlainLine, IsRowLine}
use Rattle.output_text.specs.Writing.{Writes}
use Rattle.plan_iterator.specs.Rows.{row_of}
use Rattle.plan_iterator.specs.declared.answer.Answer.{Answer}
use Rattle.row_output.specs.Printing.{WritesCounted, number_behind}
use Rattle.row_output.specs.Stepping.{PrintsStep}
use Rattle.row_output.specs.declared.next.Next.{Next}
use Rattle.row_output.specs.declared.next.Next.TheVariants as next
use Rattle.row_output.specs.declared.rows.Printed.TheVariants.{Rows, Refused}
use Rattle.row_output.proofs.Texts.{writes_none, writes_both, writes_prefix, writes_stay}

-- each row has an id, and its values fit its line
pub plain_answer : (a : Answer) → IsPlainRow (row_of a)
plain_answer a = record { numbered = a.numbered; one_line = a.one_line }

-- one line more behind others
behind_all : (P : OutputLine → Type 0) (lines : List OutputLine) (x : OutputLine) → All P lines → P x → All P (lines ++ x ∷ [])
behind_all P lines x h k = All-append P lines (x ∷ []) h (All-cons P x [] k (All-nil P))

pub plain_behind : (lines : List OutputLine) (x : OutputLine) → All IsPlainLine lines → IsPlainLine x → All IsPlainLine (lines ++ x ∷ [])
plain_behind lines x h k = behind_all IsPlainLine lines x h k

pub row_behind : (n : ℕ) (lines : List OutputLine) (a : Answer) → AreLinesOfRows n lines → AreLinesOfRows (n + 1) (lines ++ line.Row (row_of a) ∷ [])
row_behind n lines a h = (
  behind_all IsRowLine lines (line.Row (row_of a)) h.0 (plain_answer a),
  length-append lines (line.Row (row_of a) ∷ []) ∙ ap (λ k. k + 1) h.1,
)

-- So many rows were printed, over any disk.
pub record RowsSoFar (rows : ℕ) (before now : List ℕ → Type 0) : Type 0 where
  pub lines : List OutputLine
  pub of_rows : AreLinesOfRows rows lines
  pub written : Writes (IsText lines) before now

pub none_so_far : (before : List ℕ → Type 0) → RowsSoFar 0 before before
none_so_far before = record { lines = []; of_rows = (All-nil IsRowLine, refl); written = writes_none before }

pub all_so_far : (rows count : ℕ) (before now : List ℕ → Type 0) → rows ≡ count → RowsSoFar rows before now → WritesCounted count (Ok (Rows rows false)) before now
all_so_far rows count before now same s = (s.lines, (omega (arith, same), sym (le-ltb rows count (omega (arith, same))), s.of_rows), s.written)

module _ (rows : ℕ) (before at now : List ℕ → Type 0) (s : RowsSoFar rows before at) where
  -- what a step with this answer printed
  abbrev Step : Result Next Failed → Type 0
  Step result = (answer : Result (Option Answer) PageFault) × PrintsStep answer result at now

  -- what was printed is what is answered
  pub step_is : (result is : Result Next Failed) → result ≡ is → Step result → Step is
  step_is result is same h = subst Step same h

  pub row_so_far : Step (Ok next.Row) → RowsSoFar (rows + 1) before now
  row_so_far (Ok (Some a), w) = record {
    lines = s.lines ++ line.Row (row_of a) ∷ [];
    of_rows = row_behind rows s.lines a s.of_rows;
    written = writes_both s.lines (line.Row (row_of a) ∷ []) before at now s.written w;
  }
  row_so_far (Ok None, w) = absurd w
  row_so_far (Err fault, w) = absurd w

  pub end_so_far : (count : ℕ) → rows < count → Step (Ok next.End) → WritesCounted count (Ok (Rows rows true)) before now
  end_so_far count few (Ok None, w) = (
    s.lines ++ line.End ∷ [],
    (omega (arith, few), sym (lt-ltb rows count few), (s.lines, s.of_rows, refl)),
    writes_both s.lines (line.End ∷ []) before at now s.written w,
  )
  end_so_far count few (Ok (Some a), w) = absurd w
  end_so_far count few (Err fault, w) = absurd w

  pub refused_so_far : (count : ℕ) (fault : PageFault) → rows < count → Step (Ok (next.Refused fault)) → WritesCounted count (Ok (Refused rows fault)) before now
  refused_so_far count fault few (Err other, w) = (s.lines, (few, s.of_rows), writes_stay s.lines before at now s.written w.1)
  refused_so_far count fault few (Ok None, w) = absurd w
  refused_so_far count fault few (Ok (Some a), w) = absurd w

  pub failed_so_far : (count : ℕ) (failed : Failed) → rows < count → Step (Err failed) → WritesCounted count (Err failed) before now
  failed_so_far count failed few (Ok (Some a), w) = (
    s.lines ++ line.Row (row_of a) ∷ [],
    (rows + 1, false, omega (arith, few), row_behind rows s.lines a s.of_rows),
    writes_prefix s.lines (line.Row (row_of a) ∷ []) before at now s.written w,
  )
  failed_so_far count failed few (Ok None, w) = (
    s.lines ++ line.End ∷ [],
    (rows, true, omega (arith, few), (s.lines, s.of_rows, refl)),
    writes_prefix s.lines (line.End ∷ []) before at now s.written w,
  )
  failed_so_far count failed few (Err fault, w) = absurd w

-- the number of a cursor's rows after one more
pub step_counted : (first before now rows : ℕ) → before ≡ number_behind first rows → now ≡ next_count before → now ≡ number_behind first (rows + 1)
step_counted first before now rows so more =
    let same : suc rows ≡ rows + 1 = omega arith in
    more ∙ (ap (λ (n : ℕ). next_count n) so ∙ ap (λ (n : ℕ). number_behind first n) same)
