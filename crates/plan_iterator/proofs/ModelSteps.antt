-- The next step of a cursor of the model: what it gives, and what its source has then taken.
use Rattle.std.proofs.Common.{◌≡◌, ℕ, zero, suc, ◌+◌, ◌<◌, ◌≤◌, Bool, true, false, true≢false, List, [], ◌∷◌, ◌++◌, length, Option, None, Some, refl, sym, ap, arith}
use Rattle.sand_model.specs.Answer.{answer}
use Rattle.sand_model.specs.Cursor.{Cursor, Row, End, step_of}
use Rattle.sand_model.specs.Database.{Database, element}
use Rattle.sand_model.specs.Measure.{Measure}
use Rattle.sand_model.specs.Operators.{PlanRow}
use Rattle.statements.specs.Plan.{Plan}
use Rattle.sand_model.specs.Reach.{counts, counts_at, innermost, reach}
use Rattle.sand_model.specs.Taken.{Taken, has_taken}

-- ---- places of a list

pub element_past : {A : Type 0} (xs : List A) (n : ℕ) → length xs ≤ n → element xs n ≡ None
element_past [] n h = refl
element_past (x ∷ xs) zero h = absurd (omega arith)
element_past (x ∷ xs) (suc n) h = element_past xs n (omega arith)

pub element_next : {A : Type 0} (xs : List A) (x : A) (ys : List A) → element (xs ++ x ∷ ys) (length xs) ≡ Some x
element_next [] x ys = refl
element_next (y ∷ xs) x ys = element_next xs x ys

-- what stands at a place
pub element_below : {A : Type 0} (xs : List A) (n : ℕ) (x : A) → element xs n ≡ Some x → n < length xs
element_below {A} [] n x e = absurd (true≢false (ap (λ (o : Option A). elim o as (λ _. Bool) [ None ↦ true | Some z ↦ false ]) e))
element_below (y ∷ ys) zero x e = omega arith
element_below (y ∷ ys) (suc n) x e = let below = element_below ys n x e in omega (arith, below)

-- and where nothing does
pub element_above : {A : Type 0} (xs : List A) (n : ℕ) → element xs n ≡ None → length xs ≤ n
element_above [] n e = omega arith
element_above {A} (y ∷ ys) zero e = absurd (true≢false (sym (ap (λ (o : Option A). elim o as (λ _. Bool) [ None ↦ true | Some z ↦ false ]) e)))
element_above (y ∷ ys) (suc n) e = let above = element_above ys n e in omega (arith, above)

-- ---- steps

module _ (gap : Measure) where
  -- the next row of the answer is given
  pub step_row : (cursor : Cursor) (row : PlanRow) → element (answer gap cursor.database cursor.plan) cursor.given ≡ Some row
      → step_of gap cursor ≡ (
        Row row,
        record cursor {
          given = cursor.given + 1;
          counts = counts gap cursor.database cursor.plan (cursor.given + 1) false;
        },
      )
  step_row cursor row e = rw e refl

  -- none is left
  pub step_end : (cursor : Cursor) → element (answer gap cursor.database cursor.plan) cursor.given ≡ None
      → step_of gap cursor ≡ (
        End,
        record cursor {
          is_ended = true;
          counts = counts gap cursor.database cursor.plan cursor.given true;
        },
      )
  step_end cursor e = rw e refl

  -- what the source has taken after the step that follows so many given rows
  abbrev pub step_taken : Database → Plan → ℕ → Taken
  step_taken d p given = after (element (answer gap d p) given) where
    after : Option PlanRow → Taken
    after (Some row) = has_taken gap d p (given + 1) false
    after None = has_taken gap d p given true

  -- the counts of the cursor after the step are those of what was then taken
  pub step_counts : (cursor : Cursor)
      → (step_of gap cursor).1.counts
      ≡ counts_at gap cursor.database (innermost cursor.plan) (reach gap cursor.database cursor.plan (step_taken cursor.database cursor.plan cursor.given))
  step_counts cursor = go (element (answer gap cursor.database cursor.plan) cursor.given) refl
    where
      go : (o : Option PlanRow) → element (answer gap cursor.database cursor.plan) cursor.given ≡ o
          → (step_of gap cursor).1.counts
          ≡ counts_at gap cursor.database (innermost cursor.plan) (reach gap cursor.database cursor.plan (step_taken cursor.database cursor.plan cursor.given))
      go None e = rw e refl
      go (Some row) e = rw e refl

  pub step_taken_row : (d : Database) (p : Plan) (given : ℕ) (row : PlanRow) → element (answer gap d p) given ≡ Some row
      → step_taken d p given ≡ has_taken gap d p (given + 1) false
  step_taken_row d p given row e = rw e refl

  pub step_taken_end : (d : Database) (p : Plan) (given : ℕ) → element (answer gap d p) given ≡ None → step_taken d p given ≡ has_taken gap d p given true
  step_taken_end d p given e = rw e refl
