-- A step and its line, where the disk tells its pages.
use Rattle.std.proofs.Common.{◌≡◌, ℕ, ◌+◌, ◌≤◌, Bool, cond, List, [], ◌∷◌, Option, None, Some, Result, Ok, Err, IfSome, true≢false, refl, sym, subst, le_of_eq, arith}
use Rattle.std.specs.Result.{IsErr}
use Rattle.sand_base.specs.declared.source.Failed.{Failed}
use Rattle.page_pool.specs.Desk.{DeskState}
use Rattle.page_pool.specs.Disk.{PageMap}
use Rattle.page_pool.specs.declared.fault.PageFault.{PageFault}
use Rattle.sand_model.specs.Cursor as line
use Rattle.sand_model.specs.Cursor.{Cursor}
use Rattle.sand_model.specs.OutputText.{IsText}
use Rattle.sand_model.specs.Reach.{Counts}
use Rattle.output_text.specs.Writing.{WritesPrefix}
use Rattle.plan_iterator.specs.Rows.{row_of}
use Rattle.plan_iterator.specs.declared.answer.Answer.{Answer}
use Rattle.plan_iterator.specs.Following.{Taking, source_of}
use Rattle.plan_iterator.specs.Paying.{Prices, is_shut, owed_by}
use Rattle.plan_iterator.specs.Stages.{Standing}
use Rattle.plan_iterator.specs.declared.operator.Operator.{Operator}
use Rattle.plan_iterator.specs.PaidCalls.{left_behind, IsAtPaid, StepsPaid}
use Rattle.plan_iterator.specs.declared.cursor.RowCursor.{RowCursor}
use Rattle.plan_iterator.proofs.Chained.{at_less, step_then}
use Rattle.row_output.specs.Stepping.{CountsStep, PrintsStep, left_by_line, PrintsNextPaid}
use Rattle.row_output.specs.declared.next.Next.{Next}
use Rattle.row_output.specs.declared.next.Next.TheVariants.{Row, End, Refused}

module _ {S T : Type 0} (At : S → Taking) (Stands : T → Standing) (closed : T → Bool) (q : Prices S T) (seen : S → Counts) where
  -- no more is left to pay than after the step of the cursor
  left_less : (o : Operator S T) (pages : PageMap) (c : Cursor) (r : Result (Option Answer) PageFault) (result : Result Next Failed) (before now : List ℕ → Type 0) → PrintsStep r result before now
      → left_by_line closed q o pages c result ≤ left_behind closed q o pages c r
  left_less o pages c (Ok (Some a)) (Ok Row) before now h = le_of_eq refl
  left_less o pages c (Ok (Some a)) (Ok End) before now h = absurd h
  left_less o pages c (Ok (Some a)) (Ok (Refused fault)) before now h = absurd h
  left_less o pages c (Ok (Some a)) (Err failed) before now h = more (owed_by q o pages c.database c.plan) (cond (is_shut closed o) 0 (q.step (source_of o)))
    where
      more : (n m : ℕ) → n ≤ n + m
      more n m = omega arith
  left_less o pages c (Ok None) (Ok Row) before now h = absurd h
  left_less o pages c (Ok None) (Ok End) before now h = le_of_eq refl
  left_less o pages c (Ok None) (Ok (Refused fault)) before now h = absurd h
  left_less o pages c (Ok None) (Err failed) before now h = le_of_eq refl
  left_less o pages c (Err why) (Ok Row) before now h = absurd h
  left_less o pages c (Err why) (Ok End) before now h = absurd h
  left_less o pages c (Err why) (Ok (Refused fault)) before now h = le_of_eq refl
  left_less o pages c (Err why) (Err failed) before now h = absurd h

  -- a step of the cursor, and its line
  pub prints_told : (told : Option PageMap) (cursor cursor' : RowCursor S T) (old new : DeskState) (answer r : Result (Option Answer) PageFault) (result : Result Next Failed)
      → (before now : List ℕ → Type 0) → answer ≡ r → PrintsStep r result before now → IfSome told (StepsPaid At Stands closed q seen cursor cursor' old new answer)
      → IfSome told (PrintsNextPaid At Stands closed q seen cursor cursor' old new before now result)
  prints_told None cursor cursor' old new answer r result before now is prints h = tt
  prints_told (Some pages) cursor cursor' old new answer r result before now is prints h =
      λ c at. record {
        answer = r;
        step = step_then pages c old new r (IsAtPaid At Stands closed q seen cursor cursor' pages c at old new (λ after. left_behind closed q cursor'.operator pages after r))
            (IsAtPaid At Stands closed q seen cursor cursor' pages c at old new (λ after. left_by_line closed q cursor'.operator pages after result))
            (λ after paid_it. at_less At Stands closed q seen pages cursor cursor' c after at old new (λ after. left_behind closed q cursor'.operator pages after r)
            (λ after. left_by_line closed q cursor'.operator pages after result) (left_less cursor'.operator pages after r result before now prints) paid_it)
            ((subst (λ r. StepsPaid At Stands closed q seen cursor cursor' old new r pages) is h) c at);
        prints = prints;
      }

-- the line of a row broke off
pub row_broken : (a : Answer) (result : Result Next Failed) (before now : List ℕ → Type 0) → IsErr result → WritesPrefix (IsText (line.Row (row_of a) ∷ [])) before now
    → PrintsStep (Ok (Some a)) result before now
row_broken a (Ok next) before now is w = absurd (true≢false (sym is))
row_broken a (Err failed) before now is w = w

-- the line of the end broke off
pub end_broken : (result : Result Next Failed) (before now : List ℕ → Type 0) → IsErr result → WritesPrefix (IsText (line.End ∷ [])) before now → PrintsStep (Ok None) result before now
end_broken (Ok next) before now is w = absurd (true≢false (sym is))
end_broken (Err failed) before now is w = w

-- where the sink failed, nothing is said of the number of rows
pub counts_broken : (before now : ℕ) (result : Result Next Failed) → IsErr result → CountsStep before now result
counts_broken before now (Ok next) is = absurd (true≢false (sym is))
counts_broken before now (Err failed) is = tt
