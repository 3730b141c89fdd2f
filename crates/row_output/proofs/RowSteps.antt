-- Steps of a cursor of the model that each give a row.
use Rattle.std.proofs.Common.{◌≡◌, inl, ℕ, zero, suc, ◌+◌, Bool, true, false, true≢false, List, [], ◌∷◌, ◌++◌, length, Option, None, Some, refl, sym, ap, ◌∙◌, subst, arith, append-nil, length-append}
use Rattle.sand_base.specs.declared.refusal.Refusal.{Refusal}
use Rattle.sand_model.specs.Answer.{answer}
use Rattle.sand_model.specs.Cursor.{Cursor, OutputLine, Row, End, step_of, Steps}
use Rattle.sand_model.specs.Database.{element}
use Rattle.sand_model.specs.Operators.{PlanRow}
use Rattle.plan_iterator.specs.Rows.{plan_measure}
use Rattle.plan_iterator.proofs.ModelSteps.{step_row, step_end}
use Rattle.plan_iterator.proofs.Counting.{row_given}

-- so many steps that each give a row
abbrev pub RowSteps : ℕ → Cursor → List OutputLine → Cursor → Type 0
RowSteps zero c lines after = (lines ≡ []) × (after ≡ c)
RowSteps (suc n) c lines after =
    (row : PlanRow) × (mid : Cursor) × (more : List OutputLine) × (step_of plan_measure c ≡ (Row row, mid)) × (lines ≡ Row row ∷ more)
    × RowSteps n mid more after

-- ---- one step

-- a line is that of a row
abbrev pub is_row : OutputLine → Bool
is_row (Row row) = true
is_row _ = false

-- what a step that gives a row says of the cursor before it and after it
pub record GivesOne (c after : Cursor) (row : PlanRow) : Type 0 where
  pub there : element (answer plan_measure c.database c.plan) c.given ≡ Some row
  pub given : after.given ≡ c.given + 1
  pub database : after.database ≡ c.database
  pub plan : after.plan ≡ c.plan

-- the row of a line
abbrev row_of_line : OutputLine → PlanRow → PlanRow
row_of_line (Row row) other = row
row_of_line _ other = other

pub gives_one : (c after : Cursor) (row : PlanRow) → step_of plan_measure c ≡ (Row row, after) → GivesOne c after row
gives_one c after row h = go (element (answer plan_measure c.database c.plan) c.given) refl
  where
    go : (o : Option PlanRow) → element (answer plan_measure c.database c.plan) c.given ≡ o → GivesOne c after row
    go (Some r) e =
        let is = sym (step_row plan_measure c r e) ∙ h in record {
          there = e ∙ ap Some (same r is);
          given = row_given c after row h;
          database = sym (ap (λ (q : OutputLine × Cursor). q.1.database) is);
          plan = sym (ap (λ (q : OutputLine × Cursor). q.1.plan) is);
        }
      where
        same : (r : PlanRow) → {mid : Cursor} → ◌≡◌ {A = OutputLine × Cursor} (Row r, mid) (Row row, after) → r ≡ row
        same r is = ap (λ (q : OutputLine × Cursor). row_of_line q.0 r) is
    go None e = absurd (true≢false (ap (λ (q : OutputLine × Cursor). is_row q.0) (sym h ∙ step_end plan_measure c e)))

-- ---- some steps

pub rows_length : (n : ℕ) (c : Cursor) (lines : List OutputLine) (after : Cursor) → RowSteps n c lines after → length lines ≡ n
rows_length zero c lines after h = ap length h.0
rows_length (suc n) c lines after h = ap length h.4 ∙ ap suc (rows_length n h.1 h.2 after h.5)

pub rows_given : (n : ℕ) (c : Cursor) (lines : List OutputLine) (after : Cursor) → RowSteps n c lines after → after.given ≡ c.given + n
rows_given zero c lines after h = ap (λ (d : Cursor). d.given) h.1 ∙ omega arith
rows_given (suc n) c lines after h =
    let one = (gives_one c h.1 h.0 h.3).given in
    let more = rows_given n h.1 h.2 after h.5 in
    omega (arith, one, more)

pub rows_database : (n : ℕ) (c : Cursor) (lines : List OutputLine) (after : Cursor) → RowSteps n c lines after → after.database ≡ c.database
rows_database zero c lines after h = ap (λ (d : Cursor). d.database) h.1
rows_database (suc n) c lines after h = rows_database n h.1 h.2 after h.5 ∙ (gives_one c h.1 h.0 h.3).database

pub rows_plan : (n : ℕ) (c : Cursor) (lines : List OutputLine) (after : Cursor) → RowSteps n c lines after → after.plan ≡ c.plan
rows_plan zero c lines after h = ap (λ (d : Cursor). d.plan) h.1
rows_plan (suc n) c lines after h = rows_plan n h.1 h.2 after h.5 ∙ (gives_one c h.1 h.0 h.3).plan

-- one row more
pub rows_more : (n : ℕ) (c : Cursor) (lines : List OutputLine) (mid after : Cursor) (row : PlanRow) → RowSteps n c lines mid → step_of plan_measure mid ≡ (Row row, after)
    → RowSteps (suc n) c (lines ++ Row row ∷ []) after
rows_more zero c lines mid after row h step =
    (row, after, [], subst (λ d. step_of plan_measure d ≡ (Row row, after)) h.1 step, ap (λ l. l ++ Row row ∷ []) h.0, (refl, refl))
rows_more (suc n) c lines mid after row h step =
    (h.0, h.1, h.2 ++ Row row ∷ [], h.3, ap (λ l. l ++ Row row ∷ []) h.4, rows_more n h.1 h.2 mid after row h.5 step)

-- and then other steps
pub rows_then : (may : Refusal → Type 0) (n k m : ℕ) → m ≡ n + k → (c : Cursor) (lines : List OutputLine) (mid : Cursor) (rest : List OutputLine) (after : Cursor)
    → RowSteps n c lines mid → Steps plan_measure may k mid rest after → Steps plan_measure may m c (lines ++ rest) after
rows_then may zero k m e c lines mid rest after h steps =
    let all : k ≡ m = omega (arith, e) in
    subst (λ l. Steps plan_measure may m c (l ++ rest) after) (sym h.0)
    (subst (λ j. Steps plan_measure may j c rest after) all (subst (λ d. Steps plan_measure may k d rest after) h.1 steps))
rows_then may (suc n) k zero e c lines mid rest after h steps = absurd (omega (arith, e))
rows_then may (suc n) k (suc m) e c lines mid rest after h steps =
    inl (h.0, h.1, h.2 ++ rest, h.3, ap (λ l. l ++ rest) h.4, rows_then may n k m (omega (arith, e)) h.1 h.2 mid rest after h.5 steps)

-- no more
pub rows_all : (may : Refusal → Type 0) (n : ℕ) (c : Cursor) (lines : List OutputLine) (after : Cursor) → RowSteps n c lines after → Steps plan_measure may n c lines after
rows_all may n c lines after h =
    subst (λ l. Steps plan_measure may n c l after) (append-nil lines) (rows_then may n 0 n (omega arith) c lines after [] after h (refl, refl))

-- ---- the last row

-- The step that gave the last row.
pub record LastRow (c after : Cursor) (lines : List OutputLine) : Type 0 where
  pub prev : Cursor
  pub row : PlanRow
  pub front : List OutputLine
  pub step : step_of plan_measure prev ≡ (Row row, after)
  pub database : prev.database ≡ c.database
  pub plan : prev.plan ≡ c.plan
  pub split : lines ≡ front ++ Row row ∷ []

pub rows_last : (n : ℕ) (c : Cursor) (lines : List OutputLine) (after : Cursor) → RowSteps (suc n) c lines after → LastRow c after lines
rows_last zero c lines after h = record {
  prev = c;
  row = h.0;
  front = [];
  step = subst (λ d. step_of plan_measure c ≡ (Row h.0, d)) (sym h.5.1) h.3;
  database = refl;
  plan = refl;
  split = h.4 ∙ ap (λ l. Row h.0 ∷ l) h.5.0;
}
rows_last (suc n) c lines after h =
    let more = rows_last n h.1 h.2 after h.5 in
    let one = gives_one c h.1 h.0 h.3 in record {
      prev = more.prev;
      row = more.row;
      front = Row h.0 ∷ more.front;
      step = more.step;
      database = more.database ∙ one.database;
      plan = more.plan ∙ one.plan;
      split = h.4 ∙ ap (λ l. Row h.0 ∷ l) more.split;
    }

-- the last line
abbrev last_line : List OutputLine → OutputLine
last_line [] = End
last_line (line ∷ []) = line
last_line (line ∷ next ∷ lines) = last_line (next ∷ lines)

last_is : (front : List OutputLine) (line : OutputLine) → last_line (front ++ line ∷ []) ≡ line
last_is [] line = refl
last_is (x ∷ []) line = refl
last_is (x ∷ y ∷ front) line = last_is (y ∷ front) line

-- lines that end alike
pub same_last : (front other : List OutputLine) (line one : OutputLine) → front ++ line ∷ [] ≡ other ++ one ∷ [] → line ≡ one
same_last front other line one e = sym (last_is front line) ∙ ap last_line e ∙ last_is other one

pub same_row : (row one : PlanRow) → Row row ≡ Row one → row ≡ one
same_row row one e = ap (λ line. row_of_line line row) e

pub end_no_row : (row : PlanRow) → End ≡ Row row → ⊥
end_no_row row e = true≢false (sym (ap is_row e))

pub none_last : (front : List OutputLine) (line : OutputLine) → [] ≡ front ++ line ∷ [] → ⊥
none_last front line e = let long = ap length e ∙ length-append front (line ∷ []) in omega (arith, long)
