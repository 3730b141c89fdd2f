-- Plans that can be opened, level by level.
use Rattle.std.proofs.Common.{◌≡◌, ◌⊎◌, ◌<◌, arith, ℕ, List, sym, ◌∙◌, subst, inl, inr, Box, Global}
use Rattle.sand_base.specs.declared.shape.Shape.{Shape}
use Rattle.script_text.specs.InRange.{IsPlanInRange}
use Rattle.statements.specs.declared.column.Column.{Column}
use Rattle.statements.specs.declared.column.Place.{Place}
use Rattle.statements.specs.declared.plan.Plan as declared
use Rattle.statements.specs.declared.plan.Plan.{Plan}
use Rattle.statements.specs.declared.test.Test.{Test}
use Rattle.sand_model.specs.Checks.{check_operators}
use Rattle.sand_store.specs.Catalog.{CatalogView}
use Rattle.sand_store.specs.Contents.{database_in}
use Rattle.plan_names.specs.OperatorCheck.{check_operator}
use Rattle.statements.specs.Plan.{plan_value, depth}
use Rattle.plan_names.proofs.Operators.{over_inner}
use Rattle.plan_names.proofs.Passed.{first_passed}
use Rattle.plan_ops.specs.Openable.{IsOpenable}

-- the plan is an operator over the inner one
abbrev IsOver : Box Plan Global → Plan → Type 0
IsOver below p =
    ((tests : List Test) × (p ≡ declared.Filter below tests))
    ⊎ (((place : Place) × (column : Column) × (p ≡ declared.Match below place column))
    ⊎ (((places : List Place) × (p ≡ declared.Fetch below places))
    ⊎ (((count : ℕ) × (p ≡ declared.First count below))
    ⊎ (((place : Place) × (p ≡ declared.SortBy below place))
    ⊎ ((place : Place) × (goal : Shape) × (p ≡ declared.SortNear below place goal))))))

abbrev InRange : Plan → Type 0
InRange p = IsPlanInRange (plan_value p)

range_within : (below : Box Plan Global) (p : Plan) → IsOver below p → InRange p → InRange below.value
range_within below p (inl h) r = (subst InRange h.1 r).0
range_within below p (inr (inl h)) r = (subst InRange h.2 r).0
range_within below p (inr (inr (inl h))) r = (subst InRange h.1 r).0
range_within below p (inr (inr (inr (inl h)))) r = (subst InRange h.1 r).1
range_within below p (inr (inr (inr (inr (inl h))))) r = (subst InRange h.1 r).0
range_within below p (inr (inr (inr (inr (inr h))))) r = (subst InRange h.2 r).0

-- what is beneath an operator can be opened too
pub open_beneath : (catalog : CatalogView) (below : Box Plan Global) (p : Plan) → IsOver below p → IsOpenable catalog p → IsOpenable catalog below.value
open_beneath catalog below p over o = record {
  described = o.described;
  checked = λ pages.
      let d = database_in pages catalog.relations in
      first_passed (check_operators d (plan_value below.value)) (check_operator d (plan_value p)) (over_inner d below p over ∙ o.checked pages);
  in_range = range_within below p over o.in_range;
}

-- it has an operator less

abbrev pub operators_in : Plan → ℕ
operators_in p = depth (plan_value p)

pub over_shallower : (below : Box Plan Global) (p : Plan) → IsOver below p → operators_in below.value < operators_in p
over_shallower below p (inl h) = subst (λ (q : Plan). operators_in below.value < operators_in q) (sym h.1) (omega arith)
over_shallower below p (inr (inl h)) = subst (λ (q : Plan). operators_in below.value < operators_in q) (sym h.2) (omega arith)
over_shallower below p (inr (inr (inl h))) = subst (λ (q : Plan). operators_in below.value < operators_in q) (sym h.1) (omega arith)
over_shallower below p (inr (inr (inr (inl h)))) = subst (λ (q : Plan). operators_in below.value < operators_in q) (sym h.1) (omega arith)
over_shallower below p (inr (inr (inr (inr (inl h))))) = subst (λ (q : Plan). operators_in below.value < operators_in q) (sym h.1) (omega arith)
over_shallower below p (inr (inr (inr (inr (inr h))))) = subst (λ (q : Plan). operators_in below.value < operators_in q) (sym h.2) (omega arith)
