-- The steps of a cursor print the following rows of its answer.
use Rattle.std.proofs.Common.{◌≡◌, ℕ, zero, suc, ◌+◌, Bool, true, List, [], ◌∷◌, length, drop, Option, Some, None, refl, sym, ap, subst, ◌∙◌, inl, inr, arith}
use Rattle.sand_base.specs.declared.refusal.Refusal.{Refusal}
use Rattle.sand_model.specs.Answer.{answer}
use Rattle.sand_model.specs.Cursor.{Cursor, OutputLine, Row, End, Steps, IsRefusedStep, step_of}
use Rattle.sand_model.specs.Database.{element}
use Rattle.sand_model.specs.Measure.{Measure}
use Rattle.sand_model.specs.Operators.{PlanRow}
use Rattle.run_laws.specs.Following.{rows_left, Gave, GivesTheLast, GoesOnPrinting}

-- the row at a place stands before those behind it
at_a_row : (xs : List PlanRow) (at : ℕ) (x : PlanRow) → element xs at ≡ Some x → drop at xs ≡ x ∷ drop (at + 1) xs
at_a_row [] at x e = absurd cc
at_a_row (y ∷ xs) zero x e = cc
at_a_row (y ∷ xs) (suc at) x e =
    let one : suc at + 1 ≡ suc (at + 1) = omega arith in
    rw one (at_a_row xs at x e)

-- where no row is, none is left
past_the_rows : (xs : List PlanRow) (at : ℕ) → element xs at ≡ None → drop at xs ≡ []
past_the_rows [] zero e = refl
past_the_rows [] (suc at) e = refl
past_the_rows (y ∷ xs) zero e = absurd cc
past_the_rows (y ∷ xs) (suc at) e = past_the_rows xs at e

-- a cursor that gave rows, and then more
pub gave_on : (rows more all : ℕ) (mid_mark mark : Bool) (old mid new : Cursor) → Gave rows mid_mark old mid → Gave more mark mid new → rows + more ≡ all → Gave all mark old new
gave_on rows more all mid_mark mark old mid new g h e = record {
  name = h.name ∙ g.name;
  plan = h.plan ∙ g.plan;
  database = h.database ∙ g.database;
  given = omega (arith, g.given, h.given, e);
  mark = h.mark;
}

-- a cursor that is as it was, but for its mark and its counts
gave_none : (mark : Bool) (old new : Cursor) → new.name ≡ old.name → new.plan ≡ old.plan → new.database ≡ old.database → new.given ≡ old.given → new.is_ended ≡ mark
    → Gave 0 mark old new
gave_none mark old new n p d g m = record { name = n; plan = p; database = d; given = omega (arith, g); mark = m }

pub gave_itself : (cursor : Cursor) → Gave 0 cursor.is_ended cursor cursor
gave_itself cursor = gave_none cursor.is_ended cursor cursor refl refl refl refl refl

module _ (gap : Measure) where
  abbrev all_rows : Cursor → List PlanRow
  all_rows cursor = answer gap cursor.database cursor.plan

  -- a step that printed a row
  record Stepped (old : Cursor) (row : PlanRow) (mid : Cursor) : Type 0 where
    is : element (all_rows old) old.given ≡ Some row
    gave : Gave 1 old.is_ended old mid

  step_row : (old mid : Cursor) (row : PlanRow) → step_of gap old ≡ (Row row, mid) → Stepped old row mid
  step_row old mid row h = go (element (all_rows old) old.given) refl where
    go : (o : Option PlanRow) → element (all_rows old) old.given ≡ o → Stepped old row mid
    go None e =
        let k : step_of gap old ≡ step_of gap old = refl in
        let none : (step_of gap old).0 ≡ End = rw e refl in
        let some : (step_of gap old).0 ≡ Row row = ap (λ q. q.0) h in
        absurd cc
    go (Some found) e =
        let first : (step_of gap old).0 ≡ Row found = rw e refl in
        let some : (step_of gap old).0 ≡ Row row = ap (λ q. q.0) h in
        let same : found ≡ row = cc in
        let mid_is : (step_of gap old).1 ≡ mid = ap (λ q. q.1) h in
        let gave : Gave 1 old.is_ended old (step_of gap old).1 = rw e (record { name = refl; plan = refl; database = refl; given = refl; mark = refl }) in
        record { is = e ∙ ap Some same; gave = subst (Gave 1 old.is_ended old) mid_is gave }

  -- a step that printed the end
  record Ended (old new : Cursor) : Type 0 where
    is : element (all_rows old) old.given ≡ None
    gave : Gave 0 true old new

  step_end : (old new : Cursor) → step_of gap old ≡ (End, new) → Ended old new
  step_end old new h = go (element (all_rows old) old.given) refl where
    go : (o : Option PlanRow) → element (all_rows old) old.given ≡ o → Ended old new
    go (Some found) e =
        let first : (step_of gap old).0 ≡ Row found = rw e refl in
        let some : (step_of gap old).0 ≡ End = ap (λ q. q.0) h in
        absurd cc
    go None e =
        let new_is : (step_of gap old).1 ≡ new = ap (λ q. q.1) h in
        let gave : Gave 0 true old (step_of gap old).1 = rw e (gave_none true old _ refl refl refl refl refl) in
        record { is = e; gave = subst (Gave 0 true old) new_is gave }

  -- a refused step
  step_refused : (old new : Cursor) (refusal : Refusal) → IsRefusedStep gap old refusal new → Gave 0 old.is_ended old new
  step_refused old new refusal (seen, between, is) = subst (Gave 0 old.is_ended old) (sym is) (gave_none old.is_ended old _ refl refl refl refl refl)

  -- what is left after a row
  left_behind : (old mid : Cursor) (row : PlanRow) → Stepped old row mid → rows_left gap old ≡ row ∷ rows_left gap mid
  left_behind old mid row s =
      at_a_row (all_rows old) old.given row s.is
      ∙ ap (λ rest. row ∷ rest) (sym (rw (s.gave.database, s.gave.plan, s.gave.given) refl))

  module _ (may : Refusal → Type 0) where
    -- with one row before
    one_before : (left rest : List PlanRow) (row : PlanRow) (count : ℕ) (old mid new : Cursor) (lines more : List OutputLine)
        → left ≡ row ∷ rest → lines ≡ Row row ∷ more → Gave 1 old.is_ended old mid → GoesOnPrinting may rest count mid more new → GoesOnPrinting may left (suc count) old lines new
    one_before left rest row count old mid new lines more l p g (inl (enough, is, gave)) =
        let long : length left ≡ suc (length rest) = ap length l in
        let same : Gave count old.is_ended mid new = subst (λ m. Gave count m mid new) g.mark gave in
        inl (omega (arith, enough, long), p ∙ (rw (l, is) refl), gave_on 1 count (suc count) old.is_ended old.is_ended old mid new g same (omega arith))
    one_before left rest row count old mid new lines more l p g (inr (inl (few, is, gave))) =
        let long : length left ≡ suc (length rest) = ap length l in
        inr (inl (omega (arith, few, long), p ∙ (rw (l, is) refl), gave_on 1 (length rest) (length left) old.is_ended true old mid new g gave (omega (arith, long))))
    one_before left rest row count old mid new lines more l p g (inr (inr (rows, refusal, m, less, within, is, gave))) =
        let long : length left ≡ suc (length rest) = ap length l in
        let same : Gave rows old.is_ended mid new = subst (λ mark. Gave rows mark mid new) g.mark gave in
        inr (inr (
          suc rows,
          refusal,
          m,
          omega (arith, less),
          omega (arith, within, long),
          p ∙ (rw (l, is) refl),
          gave_on 1 rows (suc rows) old.is_ended old.is_ended old mid new g same (omega arith),
        ))

    -- step by step
    pub steps_follow : (count : ℕ) (old : Cursor) (lines : List OutputLine) (new : Cursor) → Steps gap may count old lines new → GoesOnPrinting may (rows_left gap old) count old lines new
    steps_follow zero old lines new (is, same) =
        inl (omega arith, is, subst (Gave 0 old.is_ended old) (sym same) (gave_itself old))
    steps_follow (suc count) old lines new (inl (row, mid, more, stepped, is, rest)) =
        let s : Stepped old row mid = step_row old mid row stepped in
        one_before (rows_left gap old) (rows_left gap mid) row count old mid new lines more (left_behind old mid row s) is s.gave (steps_follow count mid more new rest)
    steps_follow (suc count) old lines new (inr (inl (stepped, is))) =
        let s : Ended old new = step_end old new stepped in
        let none : rows_left gap old ≡ [] = past_the_rows (all_rows old) old.given s.is in
        inr (inl (at_the_end (rows_left gap old) none s.gave)) where
          at_the_end : (left : List PlanRow) → left ≡ [] → Gave 0 true old new → GivesTheLast left (suc count) old lines new
          at_the_end [] e gave = (omega arith, is, gave)
          at_the_end (x ∷ left) e gave = absurd cc
    steps_follow (suc count) old lines new (inr (inr (refusal, m, stepped, is))) =
        inr (inr (0, refusal, m, omega arith, omega arith, is, step_refused old new refusal stepped))
