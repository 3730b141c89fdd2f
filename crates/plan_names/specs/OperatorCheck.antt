-- The checks of the outermost operator of a plan alone.
use Rattle.std.specs.Prelude.{true, ◌&&◌, [], ◌∷◌, Option, None}
use Rattle.sand_base.specs.declared.kind.Kind.TheVariants as kind
use Rattle.sand_base.specs.declared.refusal.Refusal.{Refusal}
use Rattle.sand_base.specs.Shape.{value_kind, same_kind, is_spatial}
use Rattle.sand_model.specs.Checks.{first_refusal, check_relation, check_column, check_rectangles, check_place, check_tests, check_places, is_plain, is_plain_pair, place_kind}
use Rattle.sand_model.specs.Database.{Database}
use Rattle.sand_model.specs.Operators.{relations_of}
use Rattle.statements.specs.Plan as plan
use Rattle.statements.specs.Plan.{Plan}

-- the checks of one operator, where those beneath it pass
abbrev pub check_operator : Database → Plan → Option Refusal
check_operator database (plan.Scan relation) = check_relation database relation
check_operator database (plan.Rank column goal within) = check_column database column is_spatial
check_operator database (plan.Near column goal within) = check_rectangles database column
check_operator database (plan.Window column window) = check_column database column is_spatial
check_operator database (plan.PickEqual column v) =
    check_column database column (λ k. is_plain k && same_kind k (value_kind v))
check_operator database (plan.PickBetween column low high) = check_column database column (same_kind kind.Int)
check_operator database (plan.Join left right within) =
    first_refusal (check_column database left is_spatial ∷ check_column database right is_spatial ∷ [])
check_operator database (plan.Semi left right within) =
    first_refusal (check_column database left is_spatial ∷ check_column database right is_spatial ∷ [])
check_operator database (plan.Knn k left right within) =
    first_refusal (check_column database left is_spatial ∷ check_column database right is_spatial ∷ [])
check_operator database (plan.Filter p tests) = check_tests database (relations_of p) tests
check_operator database (plan.Match p place column) =
    first_refusal (check_place database (relations_of p) place (λ k. true)
    ∷ check_column database column (is_plain_pair (place_kind database (relations_of p) place)) ∷ [])
check_operator database (plan.Fetch p places) = check_places database (relations_of p) places
check_operator database (plan.First count p) = None
check_operator database (plan.SortBy p place) = check_place database (relations_of p) place (same_kind kind.Int)
check_operator database (plan.SortNear p place goal) = check_place database (relations_of p) place is_spatial
