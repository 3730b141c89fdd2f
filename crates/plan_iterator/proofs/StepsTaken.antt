-- What steps have taken, the same in code and model.
use Rattle.std.proofs.Common.{◌≡◌, inl, inr, ◌+◌, true, false, cond, length, take, Option, Some, None, refl, sym, ap}
use Rattle.std.proofs.Common.{◌∙◌, subst, arith}
use Rattle.std.proofs.lemmas.Bool.{lt-ltb, le-ltb}
use Rattle.sand_model.specs.Answer.{answer}
use Rattle.sand_model.specs.Cursor.{Cursor, AreBetween}
use Rattle.sand_model.specs.Database.{Database, element}
use Rattle.sand_model.specs.Operators.{PlanRow}
use Rattle.statements.specs.Plan.{Plan}
use Rattle.sand_model.specs.Reach.{Counts}
use Rattle.sand_model.specs.Taken.{Taken, has_taken, is_full, beneath_sort}
use Rattle.plan_iterator.specs.Needed.{AreAtMost}
use Rattle.plan_iterator.specs.Rows.{plan_measure}
use Rattle.plan_iterator.proofs.ModelSteps as model
use Rattle.plan_iterator.proofs.ModelSteps.{element_below, element_above}
use Rattle.plan_iterator.proofs.SortedPlans.{source_beneath}
use Rattle.plan_iterator.proofs.TakenSoFar as needs
use Rattle.plan_iterator.specs.Steps as steps
use Rattle.plan_iterator.specs.CursorStep.{step_taken}

-- what is taken after the next step, of the two forms
pub taken_same : (c : Cursor) → model.step_taken plan_measure c.database c.plan c.given ≡ step_taken c
taken_same c = go (element (answer plan_measure c.database c.plan) c.given) refl
  where
    go : (o : Option PlanRow) → element (answer plan_measure c.database c.plan) c.given ≡ o → model.step_taken plan_measure c.database c.plan c.given ≡ step_taken c
    go (Some row) e =
        model.step_taken_row plan_measure c.database c.plan c.given row e
        ∙ ap (λ b. cond b (has_taken plan_measure c.database c.plan (c.given + 1) false) (has_taken plan_measure c.database c.plan c.given true))
        (sym (lt-ltb c.given (length (answer plan_measure c.database c.plan)) (element_below (answer plan_measure c.database c.plan) c.given row e)))
    go None e =
        model.step_taken_end plan_measure c.database c.plan c.given e
        ∙ ap (λ b. cond b (has_taken plan_measure c.database c.plan (c.given + 1) false) (has_taken plan_measure c.database c.plan c.given true))
        (sym (le-ltb c.given (length (answer plan_measure c.database c.plan)) (element_above (answer plan_measure c.database c.plan) c.given e)))

-- counts that rose lie between those before and themselves
pub up_to_itself : (low now high : Counts) → AreAtMost low now → high ≡ now → AreBetween low high now
up_to_itself low now high up same =
    subst (λ (h : Counts). AreBetween low h now) (sym same)
    (record { blocks = (up.blocks, omega arith); pairs = (up.pairs, omega arith); geometries = (up.geometries, omega arith) })

-- where nothing more is taken, the source need not be asked
pub spent_same : (d : Database) (p : Plan) (t : Taken) → steps.IsSpent d (beneath_sort p) t → Rattle.plan_iterator.proofs.NextNeeds.IsSpent plan_measure d p t
spent_same d p t (inl full) = inl (subst (λ all. is_full plan_measure d (beneath_sort p) (take t.rows all) ≡ true) (source_beneath plan_measure d p) full)
spent_same d p t (inr ended) = inr ended.0
