-- The checks of an operator over another: those beneath it, then its own; and the checks of a source are its own alone.
use Rattle.std.proofs.Common.{◌≡◌, ◌⊎◌, ℕ, ℤ, true, List, [], ◌∷◌, Option, Some, None, refl, sym, subst, inl, inr, Box, Global}
use Rattle.sand_base.specs.declared.rect.Rect.{Rect}
use Rattle.sand_base.specs.declared.refusal.Refusal.{Refusal}
use Rattle.sand_base.specs.declared.shape.Shape.{Shape}
use Rattle.sand_base.specs.declared.value.Value.{Value}
use Rattle.statements.specs.declared.column.Column.{Column}
use Rattle.statements.specs.declared.column.Place.{Place}
use Rattle.statements.specs.declared.plan.Plan as declared
use Rattle.statements.specs.declared.plan.Plan.{Plan}
use Rattle.statements.specs.declared.test.Test.{Test}
use Rattle.sand_model.specs.Checks.{first_refusal, check_operators, check_place, check_column, is_plain_pair, place_kind}
use Rattle.sand_model.specs.Database.{Database}
use Rattle.sand_model.specs.Operators.{relations_of}
use Rattle.plan_names.specs.OperatorCheck.{check_operator}
use Rattle.statements.specs.Plan.{plan_value}
use Rattle.plan_names.proofs.Refusals.{last_two}

-- the checks of an operator and of what is beneath it, one after the other
abbrev Follows : Database → Plan → Plan → Type 0
Follows d p over =
    first_refusal (check_operators d (plan_value p) ∷ check_operator d (plan_value over) ∷ []) ≡ check_operators d (plan_value over)

passes_last : (a : Option Refusal) → first_refusal (a ∷ None ∷ []) ≡ a
passes_last None = refl
passes_last (Some w) = refl

-- the plan is an operator over the inner one
abbrev IsOver : Box Plan Global → Plan → Type 0
IsOver inner p =
    ((tests : List Test) × (p ≡ declared.Filter inner tests))
    ⊎ (((place : Place) × (column : Column) × (p ≡ declared.Match inner place column))
    ⊎ (((places : List Place) × (p ≡ declared.Fetch inner places))
    ⊎ (((count : ℕ) × (p ≡ declared.First count inner))
    ⊎ (((place : Place) × (p ≡ declared.SortBy inner place))
    ⊎ ((place : Place) × (goal : Shape) × (p ≡ declared.SortNear inner place goal))))))

pub over_inner : (d : Database) (inner : Box Plan Global) (p : Plan) → IsOver inner p → Follows d inner.value p
over_inner d inner p (inl h) = subst (Follows d inner.value) (sym h.1) refl
over_inner d inner p (inr (inl h)) =
    let names = relations_of (plan_value inner.value) in
    let place = h.0 in
    subst (Follows d inner.value) (sym h.2)
    (last_two (check_operators d (plan_value inner.value)) (check_place d names place (λ k. true)) (check_column d h.1 (is_plain_pair (place_kind d names place))))
over_inner d inner p (inr (inr (inl h))) = subst (Follows d inner.value) (sym h.1) refl
over_inner d inner p (inr (inr (inr (inl h)))) = subst (Follows d inner.value) (sym h.1) (passes_last (check_operators d (plan_value inner.value)))
over_inner d inner p (inr (inr (inr (inr (inl h))))) = subst (Follows d inner.value) (sym h.1) refl
over_inner d inner p (inr (inr (inr (inr (inr h))))) = subst (Follows d inner.value) (sym h.2) refl

-- the plan is a source
abbrev IsSource : Plan → Type 0
IsSource p =
    ((relation : List ℕ) × (p ≡ declared.Scan relation))
    ⊎ (((column : Column) × (goal : Shape) × (within : Option ℕ) × (p ≡ declared.Rank column goal within))
    ⊎ (((column : Column) × (goal : Shape) × (within : Option ℕ) × (p ≡ declared.Near column goal within))
    ⊎ (((column : Column) × (window : Rect) × (p ≡ declared.Window column window))
    ⊎ (((column : Column) × (v : Value) × (p ≡ declared.PickEqual column v))
    ⊎ (((column : Column) × (low : ℤ) × (high : ℤ) × (p ≡ declared.PickBetween column low high))
    ⊎ (((left : Column) × (right : Column) × (within : Option ℕ) × (p ≡ declared.Join left right within))
    ⊎ (((left : Column) × (right : Column) × (within : Option ℕ) × (p ≡ declared.Semi left right within))
    ⊎ ((k : ℕ) × (left : Column) × (right : Column) × (within : Option ℕ) × (p ≡ declared.Knn k left right within)))))))))

abbrev IsAlone : Database → Plan → Type 0
IsAlone d p = check_operator d (plan_value p) ≡ check_operators d (plan_value p)

pub source_alone : (d : Database) (p : Plan) → IsSource p → IsAlone d p
source_alone d p (inl h) = subst (IsAlone d) (sym h.1) refl
source_alone d p (inr (inl h)) = subst (IsAlone d) (sym h.3) refl
source_alone d p (inr (inr (inl h))) = subst (IsAlone d) (sym h.3) refl
source_alone d p (inr (inr (inr (inl h)))) = subst (IsAlone d) (sym h.2) refl
source_alone d p (inr (inr (inr (inr (inl h))))) = subst (IsAlone d) (sym h.2) refl
source_alone d p (inr (inr (inr (inr (inr (inl h)))))) = subst (IsAlone d) (sym h.3) refl
source_alone d p (inr (inr (inr (inr (inr (inr (inl h))))))) = subst (IsAlone d) (sym h.3) refl
source_alone d p (inr (inr (inr (inr (inr (inr (inr (inl h)))))))) = subst (IsAlone d) (sym h.3) refl
source_alone d p (inr (inr (inr (inr (inr (inr (inr (inr h)))))))) = subst (IsAlone d) (sym h.4) refl
