-- The rows of a source come nearest first and lie within its ceiling, so more of them reach farther.
use Rattle.std.proofs.Common.{◌≡◌, ℕ, zero, suc, ◌≤◌, true, List, [], ◌∷◌, map, filter, flat_map, take}
use Rattle.std.proofs.Common.{All, Option, None, Some, refl, sym, subst, subst₂, arith}
use Rattle.std.specs.Prelude.{⊤}
use Rattle.std.proofs.lemmas.List.Elements.{All-nil, All-cons, All-head, All-tail, All-contains, All-map}
use Rattle.sand_base.specs.declared.goal.Goal.{Goal}
use Rattle.sand_base.specs.declared.goal.Goal.TheVariants as figure
use Rattle.sand_base.specs.declared.shape.Shape.{Shape}
use Rattle.sand_model.specs.Answer.{source, scanned, plain_row, single_row, pair_row, number_cmp, is_between}
use Rattle.sand_model.specs.Database.{Database, Relation, relation_named}
use Rattle.sand_model.specs.Measure.{Measure}
use Rattle.sand_model.specs.Operators.{PlanRow}
use Rattle.statements.specs.Plan as plan
use Rattle.statements.specs.Plan.{Plan}
use Rattle.sand_model.specs.Reach.{Reach, Nothing, UpTo, Ceiling, reach_of_last, innermost, ceiling_of}
use Rattle.sand_model.specs.Sources.{Found, found_cmp, sorted, is_within, first_of_each, nearest_of, same_value, column_shapes, column_values}
use Rattle.best_first.specs.Reach.{IsAtMost}
use Rattle.best_first.proofs.Bags.{All-by}
use Rattle.plan_iterator.proofs.FartherReaches.{IsPartOf, part_itself, nothing_part, up_to_part, ceiling_part}
use Rattle.plan_iterator.proofs.FoundRises.{IsRising, sorted_rises, filter_rises, first_all, first_rises, partners_all, partners_rise, filter_passes}

-- ---- rows

-- the reach of one row
abbrev row_reach : PlanRow → Reach
row_reach row = reach_of_last (row ∷ [])

-- each row reaches at most as far as all that stand after it
abbrev pub Rise : List PlanRow → Type 0
Rise [] = ⊤
Rise (row ∷ rows) = All (λ later. IsPartOf (row_reach row) (row_reach later)) rows × Rise rows

-- and lies within a reach
abbrev pub LieIn : Reach → List PlanRow → Type 0
LieIn to rows = All (λ row. IsPartOf (row_reach row) to) rows

-- the same of anything that has a reach
abbrev AllRise : {X : Type 0} → (X → Reach) → List X → Type 0
AllRise near [] = ⊤
AllRise {X} near (x ∷ xs) = All (λ y. IsPartOf (near x) (near y)) xs × AllRise near xs

-- a reach that is a part of that of each row is a part of that of the last
last_part : (to : Reach) (row : PlanRow) (rows : List PlanRow) → IsPartOf to (row_reach row) → All (λ later. IsPartOf to (row_reach later)) rows
    → IsPartOf to (reach_of_last (row ∷ rows))
last_part to row [] first h = first
last_part to row (next ∷ rows) first h =
    last_part to next rows (All-head (λ later. IsPartOf to (row_reach later)) next rows h) (All-tail (λ later. IsPartOf to (row_reach later)) next rows h)

all_take : {X : Type 0} (P : X → Type 0) (n : ℕ) (xs : List X) → All P xs → All P (take n xs)
all_take P zero xs h = All-nil P
all_take P (suc n) [] h = h
all_take P (suc n) (x ∷ xs) h = All-cons P x (take n xs) (All-head P x xs h) (all_take P n xs (All-tail P x xs h))

-- more rows reach at least as far
pub more_reach : (rows : List PlanRow) → Rise rows → (k m : ℕ) → k ≤ m → IsPartOf (reach_of_last (take k rows)) (reach_of_last (take m rows))
more_reach rows rise zero m h = nothing_part (reach_of_last (take m rows))
more_reach [] rise (suc k) zero h = absurd (omega arith)
more_reach [] rise (suc k) (suc m) h = part_itself Nothing
more_reach (row ∷ rows) rise (suc k) zero h = absurd (omega arith)
more_reach (row ∷ rows) rise (suc zero) (suc m) h =
    last_part (row_reach row) row (take m rows) (part_itself (row_reach row))
    (all_take (λ later. IsPartOf (row_reach row) (row_reach later)) m rows rise.0)
more_reach (row ∷ rows) rise (suc (suc k)) (suc zero) h = absurd (omega arith)
more_reach (row ∷ []) rise (suc (suc k)) (suc (suc m)) h = part_itself (row_reach row)
more_reach (row ∷ next ∷ rows) rise (suc (suc k)) (suc (suc m)) h = more_reach (next ∷ rows) rise.1 (suc k) (suc m) (omega arith)

-- and no rows farther than each of them
pub rows_within : (to : Reach) (rows : List PlanRow) → LieIn to rows → (k : ℕ) → IsPartOf (reach_of_last (take k rows)) to
rows_within to rows h zero = nothing_part to
rows_within to [] h (suc k) = nothing_part to
rows_within to (row ∷ rows) h (suc zero) = All-head (λ row. IsPartOf (row_reach row) to) row rows h
rows_within to (row ∷ []) h (suc (suc k)) = All-head (λ row. IsPartOf (row_reach row) to) row [] h
rows_within to (row ∷ next ∷ rows) h (suc (suc k)) =
    rows_within to (next ∷ rows) (All-tail (λ row. IsPartOf (row_reach row) to) row (next ∷ rows) h) (suc k)

-- ---- the rows of a source

-- the rows rise and lie within the ceiling
pub record IsNearestFirst (ceiling : Option ℕ) (rows : List PlanRow) : Type 0 where
  pub rise : Rise rows
  pub within : LieIn (Ceiling ceiling) rows

module _ {X : Type 0} (row_of : X → PlanRow) (near : X → Reach) (is : (x : X) → row_reach (row_of x) ≡ near x) where
  rise_map : (xs : List X) → AllRise near xs → Rise (map row_of xs)
  rise_map [] rise = tt
  rise_map (x ∷ xs) rise = (
    All-map (λ later. IsPartOf (row_reach (row_of x)) (row_reach later)) row_of xs
        (All-by (λ y. IsPartOf (row_reach (row_of x)) (row_reach (row_of y))) xs (λ y at.
        subst₂ IsPartOf (sym (is x)) (sym (is y)) (All-contains (λ y. IsPartOf (near x) (near y)) xs y rise.0 at))),
    rise_map xs rise.1,
  )

  within_map : (to : Reach) (xs : List X) → All (λ x. IsPartOf (near x) to) xs → LieIn to (map row_of xs)
  within_map to xs h =
      All-map (λ row. IsPartOf (row_reach row) to) row_of xs
      (All-by (λ x. IsPartOf (row_reach (row_of x)) to) xs (λ x at.
      subst (λ r. IsPartOf r to) (sym (is x)) (All-contains (λ x. IsPartOf (near x) to) xs x h at)))

-- rows by their gaps
rising_all : (xs : List Found) → IsRising xs → AllRise (λ found. UpTo found.gap) xs
rising_all [] rise = tt
rising_all (x ∷ xs) rise = (
  All-by (λ y. IsPartOf (UpTo x.gap) (UpTo y.gap)) xs (λ y at. up_to_part x.gap y.gap (All-contains (λ y. IsAtMost x.gap y.gap) xs y rise.0 at)),
  rising_all xs rise.1,
)

found_nearest : (row_of : Found → PlanRow) → ((found : Found) → row_reach (row_of found) ≡ UpTo found.gap) → (ceiling : Option ℕ) (xs : List Found)
    → IsRising xs → All (λ found. is_within ceiling found.gap ≡ true) xs → IsNearestFirst ceiling (map row_of xs)
found_nearest row_of is ceiling xs rise within = record {
  rise = rise_map row_of (λ found. UpTo found.gap) is xs (rising_all xs rise);
  within =
      within_map row_of (λ found. UpTo found.gap) is (Ceiling ceiling) xs
      (All-by (λ found. IsPartOf (UpTo found.gap) (Ceiling ceiling)) xs (λ found at.
      ceiling_part ceiling found.gap (All-contains (λ found. is_within ceiling found.gap ≡ true) xs found within at)));
}

-- rows without a gap
gapless_rise : {X : Type 0} (xs : List X) → AllRise (λ x. Nothing) xs
gapless_rise [] = tt
gapless_rise (x ∷ xs) = (All-by (λ y. IsPartOf Nothing Nothing) xs (λ y at. part_itself Nothing), gapless_rise xs)

gapless_nearest : {X : Type 0} (row_of : X → PlanRow) → ((x : X) → row_reach (row_of x) ≡ Nothing) → (xs : List X) → IsNearestFirst None (map row_of xs)
gapless_nearest row_of is xs = record {
  rise = rise_map row_of (λ x. Nothing) is xs (gapless_rise xs);
  within = within_map row_of (λ x. Nothing) is (Ceiling None) xs (All-by (λ x. IsPartOf Nothing (Ceiling None)) xs (λ x at. nothing_part (Ceiling None)));
}

no_rows_nearest : IsNearestFirst None []
no_rows_nearest = record { rise = tt; within = All-nil (λ row. IsPartOf (row_reach row) (Ceiling None)) }

-- what is found, sorted and within a ceiling
sorted_nearest : (row_of : Found → PlanRow) → ((found : Found) → row_reach (row_of found) ≡ UpTo found.gap) → (ceiling : Option ℕ) (xs : List Found)
    → IsNearestFirst ceiling (map row_of (filter (λ found. is_within ceiling found.gap) (sorted found_cmp xs)))
sorted_nearest row_of is ceiling xs =
    let kept = filter (λ found. is_within ceiling found.gap) (sorted found_cmp xs) in
    found_nearest row_of is ceiling kept (filter_rises (λ found. is_within ceiling found.gap) (sorted found_cmp xs) (sorted_rises xs))
    (filter_passes (λ found. is_within ceiling found.gap) (sorted found_cmp xs))

first_nearest : (row_of : Found → PlanRow) → ((found : Found) → row_reach (row_of found) ≡ UpTo found.gap) → (ceiling : Option ℕ) (xs : List Found)
    → IsNearestFirst ceiling (map row_of (first_of_each (filter (λ found. is_within ceiling found.gap) (sorted found_cmp xs))))
first_nearest row_of is ceiling xs =
    let kept = filter (λ found. is_within ceiling found.gap) (sorted found_cmp xs) in
    found_nearest row_of is ceiling (first_of_each kept)
    (first_rises kept (filter_rises (λ found. is_within ceiling found.gap) (sorted found_cmp xs) (sorted_rises xs)))
    (first_all (λ found. is_within ceiling found.gap ≡ true) kept (filter_passes (λ found. is_within ceiling found.gap) (sorted found_cmp xs)))

partners_nearest : (k : ℕ) (row_of : Found → PlanRow) → ((found : Found) → row_reach (row_of found) ≡ UpTo found.gap) → (ceiling : Option ℕ) (xs : List Found)
    → IsNearestFirst ceiling (map row_of (nearest_of k (filter (λ found. is_within ceiling found.gap) (sorted found_cmp xs))))
partners_nearest k row_of is ceiling xs =
    let kept = filter (λ found. is_within ceiling found.gap) (sorted found_cmp xs) in
    found_nearest row_of is ceiling (nearest_of k kept)
    (partners_rise k (λ id. 0) kept (filter_rises (λ found. is_within ceiling found.gap) (sorted found_cmp xs) (sorted_rises xs)))
    (partners_all (λ found. is_within ceiling found.gap ≡ true) k (λ id. 0) kept (filter_passes (λ found. is_within ceiling found.gap) (sorted found_cmp xs)))

scan_nearest : (d : Database) (name : List ℕ) → (relation : Option Relation) → relation_named d name ≡ relation → IsNearestFirst None (scanned d name)
scan_nearest d name None e = rw e no_rows_nearest
scan_nearest d name (Some relation) e = rw e (gapless_nearest (λ row. plain_row row.0) (λ row. refl) relation.rows)

-- all shapes of a column by their gaps, and all pairs of shapes
abbrev shapes_found : Measure → Goal → List (ℕ × Shape) → List Found
shapes_found gap goal shapes = map (λ s. record {
  gap = gap goal (figure.Shape s.1);
  left = s.0;
  right = 0;
}) shapes

abbrev pairs_found : Measure → List (ℕ × Shape) → List (ℕ × Shape) → List Found
pairs_found gap lefts rights = flat_map (λ s. map (λ t. record {
  gap = gap (figure.Shape s.1) (figure.Shape t.1);
  left = s.0;
  right = t.0;
}) rights) lefts

-- the rows of every source come nearest first and lie within its ceiling
pub source_nearest : (gap : Measure) (d : Database) (p : Plan) → IsNearestFirst (ceiling_of (innermost p)) (source gap d p)
source_nearest gap d (plan.Scan relation) = scan_nearest d relation (relation_named d relation) refl
source_nearest gap d (plan.Rank column goal within) = sorted_nearest single_row (λ found. refl) within (shapes_found gap (figure.Shape goal) (column_shapes d column))
source_nearest gap d (plan.Near column goal within) = sorted_nearest single_row (λ found. refl) within (shapes_found gap (figure.Shape goal) (column_shapes d column))
source_nearest gap d (plan.Window column window) = sorted_nearest single_row (λ found. refl) (Some 0) (shapes_found gap (figure.Rect window) (column_shapes d column))
source_nearest gap d (plan.PickEqual column v) = gapless_nearest (λ pair. plain_row pair.0) (λ pair. refl) (filter (λ pair. same_value pair.1 v) (column_values d column))
source_nearest gap d (plan.PickBetween column low high) = gapless_nearest (λ pair. plain_row pair.0) (λ pair. refl)
    (sorted number_cmp (filter (λ pair. is_between low high pair.1) (column_values d column)))
source_nearest gap d (plan.Join left right within) = sorted_nearest pair_row (λ found. refl) within (pairs_found gap (column_shapes d left) (column_shapes d right))
source_nearest gap d (plan.Semi left right within) = first_nearest pair_row (λ found. refl) within (pairs_found gap (column_shapes d left) (column_shapes d right))
source_nearest gap d (plan.Knn k left right within) = partners_nearest k pair_row (λ found. refl) within (pairs_found gap (column_shapes d left) (column_shapes d right))
source_nearest gap d (plan.Filter p tests) = source_nearest gap d p
source_nearest gap d (plan.Match p place column) = source_nearest gap d p
source_nearest gap d (plan.Fetch p places) = source_nearest gap d p
source_nearest gap d (plan.First count p) = source_nearest gap d p
source_nearest gap d (plan.SortBy p place) = source_nearest gap d p
source_nearest gap d (plan.SortNear p place goal) = source_nearest gap d p
