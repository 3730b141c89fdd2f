-- Steps of a cursor: what they keep, and that memory may be refused behind them.
use Rattle.std.proofs.Common.{◌≡◌, ◌⊎◌, ℕ, zero, suc, ◌+◌, ◌≤◌, Bool, List, [], ◌∷◌, ◌++◌, Option, None, Some, refl, sym, ◌∙◌, ap, subst, inl, inr, arith}
use Rattle.page_pool.specs.Disk.{PageMap}
use Rattle.plan_iterator.specs.Standing.{IsAt}
use Rattle.plan_iterator.specs.declared.cursor.RowCursor.{RowCursor}
use Rattle.plan_iterator.proofs.Counting.{row_given, end_given}
use Rattle.plan_iterator.proofs.CountedVisits.{at_most_itself}
use Rattle.plan_iterator.proofs.CursorSteps.{gives_none}
use Rattle.plan_iterator.specs.Rows.{plan_measure}
use Rattle.plan_iterator.specs.Following.{Taking}
use Rattle.plan_iterator.specs.Stages.{Standing}
use Rattle.sand_base.specs.declared.refusal.Refusal.{Refusal}
use Rattle.sand_base.specs.declared.refusal.Refusal.TheVariants as why
use Rattle.sand_model.specs.Answer.{answer}
use Rattle.sand_model.specs.Cursor.{Cursor, OutputLine, Refused, Steps, IsRefusedStep, step_of}
use Rattle.sand_model.specs.Database.{element}
use Rattle.sand_model.specs.Operators.{PlanRow}
use Rattle.sand_model.specs.Reach.{Counts}
use Rattle.statement_exec.specs.Causes.{AreCaused}
use Rattle.statement_exec.specs.Moment.{Moment}
use Rattle.statement_exec.proofs.CausedLines.{HasItsCause}
use Rattle.open_cursors.proofs.CausedSteps.{steps_caused}

-- where a cursor stands, a step may be refused that changes nothing
pub stays_refused : {S T : Type 0} (At : S → Taking) (Stands : T → Standing) (closed : T → Bool) (seen : S → Counts) (r : RowCursor S T) (pages : PageMap) (c : Cursor)
    → IsAt At Stands closed seen r pages c → (w : Refusal) → IsRefusedStep plan_measure c w c
stays_refused At Stands closed seen r pages c h w =
    gives_none c h.keeps.taken c.counts h.keeps.needed h.keeps.counted (at_most_itself c.counts) w

-- what some steps keep: the name; and no more rows are given than steps made
pub record Kept (n : ℕ) (c after : Cursor) : Type 0 where
  pub name : after.name ≡ c.name
  pub given : after.given ≤ c.given + n

step_name : (c : Cursor) → (step_of plan_measure c).1.name ≡ c.name
step_name c =
    let go : (o : Option PlanRow) → element (answer plan_measure c.database c.plan) c.given ≡ o → (step_of plan_measure c).1.name ≡ c.name =
    elim [ None ↦ λ e. rw e refl | Some row ↦ λ e. rw e refl ] in
    go (element (answer plan_measure c.database c.plan) c.given) refl

pub steps_kept : (may : Refusal → Type 0) (n : ℕ) (c : Cursor) (lines : List OutputLine) (after : Cursor) → Steps plan_measure may n c lines after → Kept n c after
steps_kept may zero c lines after h =
    let g : after.given ≡ c.given = ap (λ (k : Cursor). k.given) h.1 in
    record { name = ap (λ (k : Cursor). k.name) h.1; given = omega (arith, g) }
steps_kept may (suc n) c lines after (inl row) =
    let rest : Kept n row.1 after = steps_kept may n row.1 row.2 after row.5 in
    let one : row.1.given ≡ c.given + 1 = row_given c row.1 row.0 row.3 in
    let more : after.given ≤ row.1.given + n = rest.given in
    record { name = rest.name ∙ (sym (ap (λ (p : OutputLine × Cursor). p.1.name) row.3) ∙ step_name c); given = omega (arith, one, more) }
steps_kept may (suc n) c lines after (inr (inl end)) =
    let g : after.given ≡ c.given = end_given c after end.0 in
    record { name = sym (ap (λ (p : OutputLine × Cursor). p.1.name) end.0) ∙ step_name c; given = omega (arith, g) }
steps_kept may (suc n) c lines after (inr (inr refused)) =
    let g : after.given ≡ c.given = ap (λ (k : Cursor). k.given) refused.2.2 in
    record { name = ap (λ (k : Cursor). k.name) refused.2.2; given = omega (arith, g) }

-- memory was refused
abbrev pub IsMemory : Refusal → Type 0
IsMemory w = w ≡ why.Memory

-- some steps are all steps, or the next one may be refused
pub more_steps : (made count : ℕ) (c : Cursor) (lines : List OutputLine) (after : Cursor) → made ≤ count → IsRefusedStep plan_measure after why.Memory after
    → Steps plan_measure (λ w. ⊥) made c lines after
    → Steps plan_measure IsMemory count c lines after ⊎ Steps plan_measure IsMemory count c (lines ++ Refused why.Memory ∷ []) after
more_steps zero zero c lines after few stays h = inl h
more_steps zero (suc n) c lines after few stays h =
    inr (inr (inr (why.Memory, refl, subst (λ (k : Cursor). IsRefusedStep plan_measure k why.Memory after) h.1 stays, ap (λ (xs : List OutputLine). xs ++ Refused why.Memory ∷ []) h.0)))
more_steps (suc m) zero c lines after few stays h = absurd (omega (arith, few))
more_steps (suc m) (suc n) c lines after few stays (inl row) =
    elim (more_steps m n row.1 row.2 after (omega (arith, few)) stays row.5) [
      | inl all ↦ inl (inl (row.0, row.1, row.2, row.3, row.4, all))
      | inr all ↦ inr (inl (row.0, row.1, row.2 ++ Refused why.Memory ∷ [], row.3, ap (λ (xs : List OutputLine). xs ++ Refused why.Memory ∷ []) row.4, all))
    ]
more_steps (suc m) (suc n) c lines after few stays (inr (inl end)) = inl (inr (inl end))
more_steps (suc m) (suc n) c lines after few stays (inr (inr refused)) = absurd refused.1

-- steps behind which memory alone is refused need no cause
pub memory_caused : (old new : Moment) (count : ℕ) (c : Cursor) (lines : List OutputLine) (after : Cursor) → Steps plan_measure IsMemory count c lines after → AreCaused old new lines
memory_caused old new count c lines after steps =
    steps_caused old new plan_measure IsMemory (λ w e. subst (HasItsCause old new) (sym e) tt) count c lines after steps
