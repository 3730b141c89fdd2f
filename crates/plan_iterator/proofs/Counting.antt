-- A cursor beside its operator: the number of its rows.
use Rattle.std.proofs.Common.{◌≡◌, ◌∙◌, ℕ, ◌+◌, min, Bool, true, false, true≢false, Option, Some, None, Result, Ok, Err, IfSome, refl, sym, ap, subst, arith}
use Rattle.sand_base.specs.Faults.{last_count}
use Rattle.sand_base.specs.declared.refusal.Refusal.TheVariants as why
use Rattle.page_pool.specs.Desk.{DeskState}
use Rattle.page_pool.specs.Disk.{PageMap}
use Rattle.page_pool.specs.declared.fault.PageFault.{PageFault}
use Rattle.sand_model.specs.Answer.{answer}
use Rattle.sand_model.specs.Cursor.{Cursor, OutputLine, Row, End, step_of}
use Rattle.sand_model.specs.Database.{element}
use Rattle.sand_model.specs.Operators.{PlanRow}
use Rattle.sand_model.specs.Reach.{Counts}
use Rattle.plan_iterator.specs.Rows.{plan_measure, row_of}
use Rattle.plan_iterator.proofs.ModelSteps.{step_row, step_end}
use Rattle.plan_iterator.specs.declared.answer.Answer.{Answer}
use Rattle.plan_iterator.specs.Following.{Taking}
use Rattle.plan_iterator.specs.Paying.{Prices}
use Rattle.plan_iterator.specs.Stages.{Standing}
use Rattle.plan_iterator.specs.CursorStep.{GivesStep, number_after}
use Rattle.plan_iterator.specs.PaidCalls.{AdvancesPaid, StepsPaid}
use Rattle.plan_iterator.specs.declared.cursor.RowCursor.{RowCursor}

one_more : (n g after most : ℕ) → n ≡ min g most → after ≡ g + 1 → min (n + 1) most ≡ min after most
one_more n g after most e more = omega (arith, e, more)

-- a line is that of a row
abbrev is_row : OutputLine → Bool
is_row (Row row) = true
is_row _ = false

pub row_given : (c after : Cursor) (row : PlanRow) → step_of plan_measure c ≡ (Row row, after) → after.given ≡ c.given + 1
row_given c after row h = go (element (answer plan_measure c.database c.plan) c.given) refl
  where
    go : (o : Option PlanRow) → element (answer plan_measure c.database c.plan) c.given ≡ o → after.given ≡ c.given + 1
    go (Some r) e = ap (λ (q : OutputLine × Cursor). q.1.given) (sym h ∙ step_row plan_measure c r e)
    go None e = absurd (true≢false (ap (λ (q : OutputLine × Cursor). is_row q.0) (sym h ∙ step_end plan_measure c e)))

pub end_given : (c after : Cursor) → step_of plan_measure c ≡ (End, after) → after.given ≡ c.given
end_given c after h = go (element (answer plan_measure c.database c.plan) c.given) refl
  where
    go : (o : Option PlanRow) → element (answer plan_measure c.database c.plan) c.given ≡ o → after.given ≡ c.given
    go (Some r) e = absurd (true≢false (sym (ap (λ (q : OutputLine × Cursor). is_row q.0) (sym h ∙ step_row plan_measure c r e))))
    go None e = ap (λ (q : OutputLine × Cursor). q.1.given) (sym h ∙ step_end plan_measure c e)

-- how many rows the cursor of the model has given after it
given_gives : (c after : Cursor) (result : Result (Option Answer) PageFault) → GivesStep c result after → (n : ℕ) → n ≡ min c.given last_count
    → number_after n result ≡ min after.given last_count
given_gives c after (Ok (Some a)) h n e =
    let more : after.given ≡ c.given + 1 = row_given c after (row_of a) h in
    one_more n c.given after.given last_count e more
given_gives c after (Ok None) h n e = e ∙ ap (λ k. min k last_count) (sym (end_given c after h))
given_gives c after (Err fault) h n e = e ∙ ap (λ k. min k last_count) (sym (ap (λ (d : Cursor). d.given) (h why.Memory).2))

module _ {S T : Type 0} (At : S → Taking) (Stands : T → Standing) (closed : T → Bool) (q : Prices S T) (seen : S → Counts) where
  -- the call of a cursor
  pub told_cursor : (told : Option PageMap) (cursor cursor' : RowCursor S T) (old new : DeskState) (result r : Result (Option Answer) PageFault) → result ≡ r
      → cursor'.given ≡ number_after cursor.given r → IfSome told (AdvancesPaid At Stands closed q seen cursor.operator cursor'.operator old new result)
      → IfSome told (StepsPaid At Stands closed q seen cursor cursor' old new r)
  told_cursor None cursor cursor' old new result r is number h = tt
  told_cursor (Some pages) cursor cursor' old new result r is number h =
      λ c at.
      let s = (subst (λ r. AdvancesPaid At Stands closed q seen cursor.operator cursor'.operator old new r pages) is h) c at.keeps in record {
        after = s.after;
        gives = s.gives;
        at = record { stands = record { keeps = s.at.keeps; number = number ∙ given_gives c s.after r s.gives cursor.given at.number }; pays = s.at.pays };
        visits = s.visits;
      }
