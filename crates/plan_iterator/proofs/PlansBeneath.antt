-- A plan over the plan beneath it: what it makes, whether it is lazy, and when it is full.
use Rattle.std.proofs.Common.{◌≡◌, Bool, true, false, cond, ◌||◌, true≢false, List}
use Rattle.std.proofs.Common.{refl, sym, ap, ◌∙◌}
use Rattle.sand_model.specs.Database.{Database}
use Rattle.sand_model.specs.Operators.{PlanRow}
use Rattle.statements.specs.Plan as plan
use Rattle.statements.specs.Plan.{Plan}
use Rattle.sand_model.specs.Taken.{is_full, is_lazy, beneath_sort}
use Rattle.plan_iterator.specs.Rows.{plan_measure}
use Rattle.plan_iterator.specs.Outermost.{inner, is_source, is_sort, made, is_filled, source_rows, over_rows, whole_answer, beneath}

-- ---- one level

pub over_made : (d : Database) (p : Plan) (rows : List PlanRow) → over_rows d p rows ≡ made d p (over_rows d (inner p) rows)
over_made d (plan.Scan relation) rows = refl
over_made d (plan.Rank column goal within) rows = refl
over_made d (plan.Near column goal within) rows = refl
over_made d (plan.Window column window) rows = refl
over_made d (plan.PickEqual column v) rows = refl
over_made d (plan.PickBetween column low high) rows = refl
over_made d (plan.Join left right within) rows = refl
over_made d (plan.Semi left right within) rows = refl
over_made d (plan.Knn k left right within) rows = refl
over_made d (plan.Filter p tests) rows = refl
over_made d (plan.Match p place column) rows = refl
over_made d (plan.Fetch p places) rows = refl
over_made d (plan.First count p) rows = refl
over_made d (plan.SortBy p place) rows = refl
over_made d (plan.SortNear p place goal) rows = refl

pub source_inner : (d : Database) (p : Plan) → source_rows d (inner p) ≡ source_rows d p
source_inner d (plan.Scan relation) = refl
source_inner d (plan.Rank column goal within) = refl
source_inner d (plan.Near column goal within) = refl
source_inner d (plan.Window column window) = refl
source_inner d (plan.PickEqual column v) = refl
source_inner d (plan.PickBetween column low high) = refl
source_inner d (plan.Join left right within) = refl
source_inner d (plan.Semi left right within) = refl
source_inner d (plan.Knn k left right within) = refl
source_inner d (plan.Filter p tests) = refl
source_inner d (plan.Match p place column) = refl
source_inner d (plan.Fetch p places) = refl
source_inner d (plan.First count p) = refl
source_inner d (plan.SortBy p place) = refl
source_inner d (plan.SortNear p place goal) = refl

-- the whole answer is what the outermost operator makes of all rows beneath it
pub whole_made : (d : Database) (p : Plan) → whole_answer d p ≡ made d p (beneath d p)
whole_made d p =
    over_made d p (source_rows d p) ∙ ap (λ rows. made d p (over_rows d (inner p) rows)) (sym (source_inner d p))

-- a source makes nothing of its rows
pub over_source : (d : Database) (p : Plan) (rows : List PlanRow) → is_source p ≡ true → over_rows d p rows ≡ rows
over_source d (plan.Scan relation) rows e = refl
over_source d (plan.Rank column goal within) rows e = refl
over_source d (plan.Near column goal within) rows e = refl
over_source d (plan.Window column window) rows e = refl
over_source d (plan.PickEqual column v) rows e = refl
over_source d (plan.PickBetween column low high) rows e = refl
over_source d (plan.Join left right within) rows e = refl
over_source d (plan.Semi left right within) rows e = refl
over_source d (plan.Knn k left right within) rows e = refl
over_source d (plan.Filter p tests) rows e = absurd (true≢false (sym e))
over_source d (plan.Match p place column) rows e = absurd (true≢false (sym e))
over_source d (plan.Fetch p places) rows e = absurd (true≢false (sym e))
over_source d (plan.First count p) rows e = absurd (true≢false (sym e))
over_source d (plan.SortBy p place) rows e = absurd (true≢false (sym e))
over_source d (plan.SortNear p place goal) rows e = absurd (true≢false (sym e))

pub lazy_source : (p : Plan) → is_source p ≡ true → is_lazy p ≡ true
lazy_source (plan.Scan relation) e = refl
lazy_source (plan.Rank column goal within) e = refl
lazy_source (plan.Near column goal within) e = refl
lazy_source (plan.Window column window) e = refl
lazy_source (plan.PickEqual column v) e = refl
lazy_source (plan.PickBetween column low high) e = refl
lazy_source (plan.Join left right within) e = refl
lazy_source (plan.Semi left right within) e = refl
lazy_source (plan.Knn k left right within) e = refl
lazy_source (plan.Filter p tests) e = absurd (true≢false (sym e))
lazy_source (plan.Match p place column) e = absurd (true≢false (sym e))
lazy_source (plan.Fetch p places) e = absurd (true≢false (sym e))
lazy_source (plan.First count p) e = absurd (true≢false (sym e))
lazy_source (plan.SortBy p place) e = absurd (true≢false (sym e))
lazy_source (plan.SortNear p place goal) e = absurd (true≢false (sym e))

-- without a sort there is none beneath
pub lazy_inner : (p : Plan) → is_lazy p ≡ true → is_lazy (inner p) ≡ true
lazy_inner (plan.Scan relation) e = refl
lazy_inner (plan.Rank column goal within) e = refl
lazy_inner (plan.Near column goal within) e = refl
lazy_inner (plan.Window column window) e = refl
lazy_inner (plan.PickEqual column v) e = refl
lazy_inner (plan.PickBetween column low high) e = refl
lazy_inner (plan.Join left right within) e = refl
lazy_inner (plan.Semi left right within) e = refl
lazy_inner (plan.Knn k left right within) e = refl
lazy_inner (plan.Filter p tests) e = e
lazy_inner (plan.Match p place column) e = e
lazy_inner (plan.Fetch p places) e = e
lazy_inner (plan.First count p) e = e
lazy_inner (plan.SortBy p place) e = absurd (true≢false (sym e))
lazy_inner (plan.SortNear p place goal) e = absurd (true≢false (sym e))

-- a sort that isn't the outermost operator is beneath it
pub sort_inner : (p : Plan) → is_lazy p ≡ false → is_sort p ≡ false → is_lazy (inner p) ≡ false
sort_inner (plan.Scan relation) e k = e
sort_inner (plan.Rank column goal within) e k = e
sort_inner (plan.Near column goal within) e k = e
sort_inner (plan.Window column window) e k = e
sort_inner (plan.PickEqual column v) e k = e
sort_inner (plan.PickBetween column low high) e k = e
sort_inner (plan.Join left right within) e k = e
sort_inner (plan.Semi left right within) e k = e
sort_inner (plan.Knn n left right within) e k = e
sort_inner (plan.Filter p tests) e k = e
sort_inner (plan.Match p place column) e k = e
sort_inner (plan.Fetch p places) e k = e
sort_inner (plan.First count p) e k = e
sort_inner (plan.SortBy p place) e k = absurd (true≢false k)
sort_inner (plan.SortNear p place goal) e k = absurd (true≢false k)

pub lazy_plain : (p : Plan) → is_lazy p ≡ true → is_sort p ≡ false
lazy_plain (plan.Scan relation) e = refl
lazy_plain (plan.Rank column goal within) e = refl
lazy_plain (plan.Near column goal within) e = refl
lazy_plain (plan.Window column window) e = refl
lazy_plain (plan.PickEqual column v) e = refl
lazy_plain (plan.PickBetween column low high) e = refl
lazy_plain (plan.Join left right within) e = refl
lazy_plain (plan.Semi left right within) e = refl
lazy_plain (plan.Knn k left right within) e = refl
lazy_plain (plan.Filter p tests) e = refl
lazy_plain (plan.Match p place column) e = refl
lazy_plain (plan.Fetch p places) e = refl
lazy_plain (plan.First count p) e = refl
lazy_plain (plan.SortBy p place) e = absurd (true≢false (sym e))
lazy_plain (plan.SortNear p place goal) e = absurd (true≢false (sym e))

-- ---- the plan beneath the innermost sort

pub beneath_lazy : (p : Plan) → is_lazy p ≡ true → beneath_sort p ≡ p
beneath_lazy (plan.Scan relation) e = refl
beneath_lazy (plan.Rank column goal within) e = refl
beneath_lazy (plan.Near column goal within) e = refl
beneath_lazy (plan.Window column window) e = refl
beneath_lazy (plan.PickEqual column v) e = refl
beneath_lazy (plan.PickBetween column low high) e = refl
beneath_lazy (plan.Join left right within) e = refl
beneath_lazy (plan.Semi left right within) e = refl
beneath_lazy (plan.Knn k left right within) e = refl
beneath_lazy (plan.Filter p tests) e = ap (λ b. cond b (plan.Filter p tests) (beneath_sort p)) e
beneath_lazy (plan.Match p place column) e = ap (λ b. cond b (plan.Match p place column) (beneath_sort p)) e
beneath_lazy (plan.Fetch p places) e = ap (λ b. cond b (plan.Fetch p places) (beneath_sort p)) e
beneath_lazy (plan.First count p) e = ap (λ b. cond b (plan.First count p) (beneath_sort p)) e
beneath_lazy (plan.SortBy p place) e = absurd (true≢false (sym e))
beneath_lazy (plan.SortNear p place goal) e = absurd (true≢false (sym e))

-- over a sort
sorted_over : (p : Plan) → cond (is_lazy p) p (beneath_sort p) ≡ beneath_sort p
sorted_over p = go (is_lazy p) refl
  where
    go : (b : Bool) → is_lazy p ≡ b → cond b p (beneath_sort p) ≡ beneath_sort p
    go true e = sym (beneath_lazy p e)
    go false e = refl

pub beneath_inner : (p : Plan) → is_lazy p ≡ false → beneath_sort p ≡ beneath_sort (inner p)
beneath_inner (plan.Scan relation) e = refl
beneath_inner (plan.Rank column goal within) e = refl
beneath_inner (plan.Near column goal within) e = refl
beneath_inner (plan.Window column window) e = refl
beneath_inner (plan.PickEqual column v) e = refl
beneath_inner (plan.PickBetween column low high) e = refl
beneath_inner (plan.Join left right within) e = refl
beneath_inner (plan.Semi left right within) e = refl
beneath_inner (plan.Knn k left right within) e = refl
beneath_inner (plan.Filter p tests) e = ap (λ b. cond b (plan.Filter p tests) (beneath_sort p)) e
beneath_inner (plan.Match p place column) e = ap (λ b. cond b (plan.Match p place column) (beneath_sort p)) e
beneath_inner (plan.Fetch p places) e = ap (λ b. cond b (plan.Fetch p places) (beneath_sort p)) e
beneath_inner (plan.First count p) e = ap (λ b. cond b (plan.First count p) (beneath_sort p)) e
beneath_inner (plan.SortBy p place) e = sorted_over p
beneath_inner (plan.SortNear p place goal) e = sorted_over p

-- ---- full plans

pub full_inner : (d : Database) (p : Plan) (rows : List PlanRow) → is_full plan_measure d p rows
    ≡ is_filled p (over_rows d (inner p) rows) || is_full plan_measure d (inner p) rows
full_inner d (plan.Scan relation) rows = refl
full_inner d (plan.Rank column goal within) rows = refl
full_inner d (plan.Near column goal within) rows = refl
full_inner d (plan.Window column window) rows = refl
full_inner d (plan.PickEqual column v) rows = refl
full_inner d (plan.PickBetween column low high) rows = refl
full_inner d (plan.Join left right within) rows = refl
full_inner d (plan.Semi left right within) rows = refl
full_inner d (plan.Knn k left right within) rows = refl
full_inner d (plan.Filter p tests) rows = refl
full_inner d (plan.Match p place column) rows = refl
full_inner d (plan.Fetch p places) rows = refl
full_inner d (plan.First count p) rows = refl
full_inner d (plan.SortBy p place) rows = refl
full_inner d (plan.SortNear p place goal) rows = refl

-- a full `first` is no sort
pub filled_plain : (p : Plan) (rows : List PlanRow) → is_filled p rows ≡ true → is_sort p ≡ false
filled_plain (plan.Scan relation) rows e = refl
filled_plain (plan.Rank column goal within) rows e = refl
filled_plain (plan.Near column goal within) rows e = refl
filled_plain (plan.Window column window) rows e = refl
filled_plain (plan.PickEqual column v) rows e = refl
filled_plain (plan.PickBetween column low high) rows e = refl
filled_plain (plan.Join left right within) rows e = refl
filled_plain (plan.Semi left right within) rows e = refl
filled_plain (plan.Knn k left right within) rows e = refl
filled_plain (plan.Filter p tests) rows e = refl
filled_plain (plan.Match p place column) rows e = refl
filled_plain (plan.Fetch p places) rows e = refl
filled_plain (plan.First count p) rows e = refl
filled_plain (plan.SortBy p place) rows e = absurd (true≢false (sym e))
filled_plain (plan.SortNear p place goal) rows e = absurd (true≢false (sym e))
