-- Visits, what is asked and what was taken, one level up.
use Rattle.std.proofs.Common.{◌≡◌, inl, inr, ◌+◌, Bool, true, false, cond, nat_lt, ◌||◌, List, length, take}
use Rattle.std.proofs.Common.{Option, Result, Ok, Err, refl, sym, ap, ap₂, ◌∙◌, subst}
use Rattle.page_pool.specs.Desk.{DeskState}
use Rattle.page_pool.specs.Disk.{PageMap}
use Rattle.page_pool.specs.declared.fault.PageFault.{PageFault}
use Rattle.sand_model.specs.Database.{Database}
use Rattle.sand_model.specs.Operators.{PlanRow}
use Rattle.statements.specs.Plan as plan
use Rattle.statements.specs.Plan.{Plan}
use Rattle.sand_model.specs.Reach.{Counts}
use Rattle.sand_model.specs.Taken.{Taken, is_full, is_lazy, beneath_sort}
use Rattle.plan_iterator.specs.Rows.{plan_measure}
use Rattle.plan_iterator.specs.SourceSteps.{MakesVisits, taken_after, next_taken}
use Rattle.plan_iterator.specs.declared.answer.Answer.{Answer}
use Rattle.plan_iterator.specs.Outermost.{inner, made, is_filled, source_rows, over_rows}
use Rattle.plan_iterator.specs.Stages.{IsDry}
use Rattle.plan_iterator.specs.Steps.{is_full_at, IsAsked, AsksOnce}
use Rattle.plan_iterator.specs.declared.step.Step.{Step}
use Rattle.plan_iterator.proofs.Fronts.{settled}
use Rattle.plan_iterator.proofs.PlansBeneath.{over_made, source_inner, lazy_inner, beneath_lazy, beneath_inner, full_inner}

-- ---- one level up

-- the visits of a call of the source
visits_up : (pages : PageMap) (d : Database) (p : Plan) (t : Taken) (before now : Counts) (old new : DeskState) (answer : Result (Option Answer) PageFault)
    → MakesVisits pages d (inner p) t before now old new answer → MakesVisits pages d p t before now old new answer
visits_up pages d (plan.Scan relation) t before now old new answer m = m
visits_up pages d (plan.Rank column goal within) t before now old new answer m = m
visits_up pages d (plan.Near column goal within) t before now old new answer m = m
visits_up pages d (plan.Window column window) t before now old new answer m = m
visits_up pages d (plan.PickEqual column v) t before now old new answer m = m
visits_up pages d (plan.PickBetween column low high) t before now old new answer m = m
visits_up pages d (plan.Join left right within) t before now old new answer m = m
visits_up pages d (plan.Semi left right within) t before now old new answer m = m
visits_up pages d (plan.Knn k left right within) t before now old new answer m = m
visits_up pages d (plan.Filter p tests) t before now old new answer m =
    record { completed = m.completed; attempted = m.attempted; log = m.log; few = m.few; settled = m.settled; counted = m.counted; near = m.near; between = m.between; exact = m.exact; rose = m.rose }
visits_up pages d (plan.Match p place column) t before now old new answer m =
    record { completed = m.completed; attempted = m.attempted; log = m.log; few = m.few; settled = m.settled; counted = m.counted; near = m.near; between = m.between; exact = m.exact; rose = m.rose }
visits_up pages d (plan.Fetch p places) t before now old new answer m =
    record { completed = m.completed; attempted = m.attempted; log = m.log; few = m.few; settled = m.settled; counted = m.counted; near = m.near; between = m.between; exact = m.exact; rose = m.rose }
visits_up pages d (plan.First count p) t before now old new answer m =
    record { completed = m.completed; attempted = m.attempted; log = m.log; few = m.few; settled = m.settled; counted = m.counted; near = m.near; between = m.between; exact = m.exact; rose = m.rose }
visits_up pages d (plan.SortBy p place) t before now old new answer m =
    record { completed = m.completed; attempted = m.attempted; log = m.log; few = m.few; settled = m.settled; counted = m.counted; near = m.near; between = m.between; exact = m.exact; rose = m.rose }
visits_up pages d (plan.SortNear p place goal) t before now old new answer m =
    record { completed = m.completed; attempted = m.attempted; log = m.log; few = m.few; settled = m.settled; counted = m.counted; near = m.near; between = m.between; exact = m.exact; rose = m.rose }

-- what is taken after a call of the source
next_up : (d : Database) (p : Plan) (t : Taken) → next_taken d (inner p) t ≡ next_taken d p t
next_up d p t =
    ap (λ rows. cond (nat_lt t.rows (length rows)) (record { rows = t.rows + 1; is_ended = false }) (record { rows = t.rows; is_ended = true })) (source_inner d p)

taken_up : (d : Database) (p : Plan) (t : Taken) (answer : Result (Option Answer) PageFault) → taken_after d (inner p) t answer ≡ taken_after d p t answer
taken_up d p t (Ok given) = next_up d p t
taken_up d p t (Err fault) = refl

-- where the source is asked
asked_up : (d : Database) (p : Plan) (t : Taken) (taken given : List PlanRow) → (is_lazy p ≡ true → IsDry d p taken given)
    → IsAsked d (inner p) t taken → IsAsked d p t given
asked_up d p t taken given dry a = record { open_ = go (is_lazy p) refl; dry = dried }
  where
    rows : List PlanRow
    rows = take t.rows (source_rows d p)

    below : is_lazy p ≡ true → over_rows d (inner p) rows ≡ taken
    below e = subst (λ all. over_rows d (inner p) (take t.rows all) ≡ taken) (source_inner d p) (a.dry (lazy_inner p e))

    dried : is_lazy p ≡ true → over_rows d p rows ≡ given
    dried e = over_made d p rows ∙ ap (made d p) (below e) ∙ (dry e).given_all

    open_below : is_lazy p ≡ true → is_full plan_measure d (inner p) rows ≡ false
    open_below e =
        subst (λ all. is_full plan_measure d (inner p) (take t.rows all) ≡ false) (source_inner d p)
        (subst (λ q. is_full_at d q t.rows ≡ false) (beneath_lazy (inner p) (lazy_inner p e)) a.open_)

    opened : is_lazy p ≡ true → is_full_at d p t.rows ≡ false
    opened e = full_inner d p rows ∙ ap₂ (λ a b. a || b) (ap (is_filled p) (below e) ∙ (dry e).open_) (open_below e)

    go : (b : Bool) → is_lazy p ≡ b → is_full_at d (beneath_sort p) t.rows ≡ false
    go true e = subst (λ q. is_full_at d q t.rows ≡ false) (sym (beneath_lazy p e)) (opened e)
    go false e = subst (λ q. is_full_at d q t.rows ≡ false) (sym (beneath_inner p e)) a.open_

-- the answer of the step above is the refusal of the step beneath
abbrev pub Passes : Result Step PageFault → Result Step PageFault → Type 0
Passes below above = (fault : PageFault) → below ≡ Err fault → above ≡ Err fault

-- the source is asked once
pub asks_up : (pages : PageMap) (d : Database) (p : Plan) (t after : Taken) (taken given : List PlanRow) (before now : Counts) (old new : DeskState) (below above : Result Step PageFault)
    → (is_lazy p ≡ true → IsDry d p taken given) → Passes below above
    → AsksOnce pages d (inner p) t after taken before now old new below → AsksOnce pages d p t after given before now old new above
asks_up pages d p t after taken given before now old new below above dry pass (inl a) = inl record {
  answer = a.answer;
  asked = asked_up d p t taken given dry a.asked;
  taken = a.taken ∙ taken_up d p t a.answer;
  visits = visits_up pages d p t before now old new a.answer a.visits;
  refused = λ fault e. pass fault (a.refused fault e);
}
asks_up pages d p t after taken given before now old new below above dry pass (inr r) = inr r
