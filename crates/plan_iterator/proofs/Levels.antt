-- What a plan makes of rows is what its outermost operator makes of what the plan beneath makes.
use Rattle.std.proofs.Common.{◌≡◌, inl, inr, ℕ, zero, suc, ◌≤◌, Bool, true, false, nat_le, ◌||◌, true≢false, List, [], ◌∷◌, ◌++◌, length, map, filter, flat_map}
use Rattle.std.proofs.Common.{take, refl, sym, ap, ◌∙◌, subst, le_trans, arith}
use Rattle.std.proofs.lemmas.List.{append_assoc, append-nil, map-append, length-append}
use Rattle.std.proofs.lemmas.List.Elements.{filter-append}
use Rattle.std.proofs.lemmas.Bool.{leb-true, le-leb}
use Rattle.std.proofs.lemmas.Grind.{flat_map-append}
use Rattle.sand_model.specs.Database.{Database}
use Rattle.sand_model.specs.Operators.{PlanRow, relations_of, passes_all, matches_of, with_fetched}
use Rattle.statements.specs.Plan as plan
use Rattle.statements.specs.Plan.{Plan}
use Rattle.sand_model.specs.Taken.{Taken, is_full, is_lazy, beneath_sort}
use Rattle.plan_iterator.specs.Rows.{plan_measure}
use Rattle.plan_iterator.specs.Outermost.{inner, is_sort, made, is_filled, source_rows, over_rows, BeginsRows}
use Rattle.plan_iterator.specs.Steps.{IsSpent}
use Rattle.plan_iterator.proofs.PlansBeneath.{source_inner, lazy_inner, beneath_lazy, beneath_inner, full_inner}

-- ---- lists that begin others

pub begins_itself : (xs : List PlanRow) → BeginsRows xs xs
begins_itself xs = record { rest = []; split = sym (append-nil xs) }

pub begins_same : (xs ys : List PlanRow) → xs ≡ ys → BeginsRows xs ys
begins_same xs ys e = subst (λ zs. BeginsRows xs zs) e (begins_itself xs)

pub begins_through : (xs ys zs : List PlanRow) → BeginsRows xs ys → BeginsRows ys zs → BeginsRows xs zs
begins_through xs ys zs a b = record {
  rest = a.rest ++ b.rest;
  split = b.split ∙ ap (λ l. l ++ b.rest) a.split ∙ append_assoc xs a.rest b.rest;
}

-- nothing begins nothing but itself
pub begins_nil : (xs : List PlanRow) → BeginsRows xs [] → xs ≡ []
begins_nil [] b = refl
begins_nil (x ∷ xs) b = absurd (cons-nil x (xs ++ b.rest) (sym b.split))
  where
    cons-nil : (x : PlanRow) (xs : List PlanRow) → x ∷ xs ≡ [] → ⊥
    cons-nil x xs e = true≢false (ap is_some e)
      where
        is_some : List PlanRow → Bool
        is_some [] = false
        is_some (x ∷ xs) = true

pub begins_length : (xs ys : List PlanRow) → BeginsRows xs ys → length xs ≤ length ys
begins_length xs ys b = subst (λ zs. length xs ≤ length zs) (sym b.split) (subst (λ n. length xs ≤ n) (sym (length-append xs b.rest)) (omega arith))

pub take_begins : (n : ℕ) (xs : List PlanRow) → BeginsRows (take n xs) xs
take_begins zero xs = record { rest = xs; split = refl }
take_begins (suc n) [] = record { rest = []; split = refl }
take_begins (suc n) (x ∷ xs) = let more = take_begins n xs in record { rest = more.rest; split = ap (λ l. x ∷ l) more.split }

take_front : (n : ℕ) (xs ys : List PlanRow) → BeginsRows (take n xs) (take n (xs ++ ys))
take_front zero xs ys = begins_itself []
take_front (suc n) [] ys = record { rest = take (suc n) ys; split = refl }
take_front (suc n) (x ∷ xs) ys = let more = take_front n xs ys in record { rest = more.rest; split = ap (λ l. x ∷ l) more.split }

-- what an operator that is no sort makes of the front begins what it makes of all
pub made_front : (d : Database) (p : Plan) (xs ys : List PlanRow) → is_sort p ≡ false → BeginsRows xs ys → BeginsRows (made d p xs) (made d p ys)
made_front d p xs ys e b = subst (λ zs. BeginsRows (made d p xs) (made d p zs)) (sym b.split) (go p e)
  where
    go : (p : Plan) → is_sort p ≡ false → BeginsRows (made d p xs) (made d p (xs ++ b.rest))
    go (plan.Scan relation) e = record { rest = b.rest; split = refl }
    go (plan.Rank column goal within) e = record { rest = b.rest; split = refl }
    go (plan.Near column goal within) e = record { rest = b.rest; split = refl }
    go (plan.Window column window) e = record { rest = b.rest; split = refl }
    go (plan.PickEqual column v) e = record { rest = b.rest; split = refl }
    go (plan.PickBetween column low high) e = record { rest = b.rest; split = refl }
    go (plan.Join left right within) e = record { rest = b.rest; split = refl }
    go (plan.Semi left right within) e = record { rest = b.rest; split = refl }
    go (plan.Knn k left right within) e = record { rest = b.rest; split = refl }
    go (plan.Filter p tests) e = record {
      rest = filter (passes_all d (relations_of p) tests) b.rest;
      split = filter-append (passes_all d (relations_of p) tests) xs b.rest;
    }
    go (plan.Match p place column) e = record {
      rest = flat_map (matches_of d (relations_of p) place column) b.rest;
      split = flat_map-append (matches_of d (relations_of p) place column) xs b.rest;
    }
    go (plan.Fetch p places) e = record {
      rest = map (with_fetched d (relations_of p) places) b.rest;
      split = map-append (with_fetched d (relations_of p) places) xs b.rest;
    }
    go (plan.First count p) e = take_front count xs b.rest
    go (plan.SortBy p place) e = absurd (true≢false e)
    go (plan.SortNear p place goal) e = absurd (true≢false e)

-- of nothing an operator that is no sort makes nothing
pub made_nil : (d : Database) (p : Plan) → is_sort p ≡ false → made d p [] ≡ []
made_nil d (plan.Scan relation) e = refl
made_nil d (plan.Rank column goal within) e = refl
made_nil d (plan.Near column goal within) e = refl
made_nil d (plan.Window column window) e = refl
made_nil d (plan.PickEqual column v) e = refl
made_nil d (plan.PickBetween column low high) e = refl
made_nil d (plan.Join left right within) e = refl
made_nil d (plan.Semi left right within) e = refl
made_nil d (plan.Knn k left right within) e = refl
made_nil d (plan.Filter p tests) e = refl
made_nil d (plan.Match p place column) e = refl
made_nil d (plan.Fetch p places) e = refl
made_nil d (plan.First zero p) e = refl
made_nil d (plan.First (suc count) p) e = refl
made_nil d (plan.SortBy p place) e = absurd (true≢false e)
made_nil d (plan.SortNear p place goal) e = absurd (true≢false e)

-- the same of a whole plan without a sort
pub over_front : (d : Database) (p : Plan) (xs ys : List PlanRow) → is_lazy p ≡ true → BeginsRows xs ys → BeginsRows (over_rows d p xs) (over_rows d p ys)
over_front d (plan.Scan relation) xs ys e b = b
over_front d (plan.Rank column goal within) xs ys e b = b
over_front d (plan.Near column goal within) xs ys e b = b
over_front d (plan.Window column window) xs ys e b = b
over_front d (plan.PickEqual column v) xs ys e b = b
over_front d (plan.PickBetween column low high) xs ys e b = b
over_front d (plan.Join left right within) xs ys e b = b
over_front d (plan.Semi left right within) xs ys e b = b
over_front d (plan.Knn k left right within) xs ys e b = b
over_front d (plan.Filter p tests) xs ys e b =
    made_front d (plan.Filter p tests) (over_rows d p xs) (over_rows d p ys) refl (over_front d p xs ys e b)
over_front d (plan.Match p place column) xs ys e b =
    made_front d (plan.Match p place column) (over_rows d p xs) (over_rows d p ys) refl (over_front d p xs ys e b)
over_front d (plan.Fetch p places) xs ys e b =
    made_front d (plan.Fetch p places) (over_rows d p xs) (over_rows d p ys) refl (over_front d p xs ys e b)
over_front d (plan.First count p) xs ys e b =
    made_front d (plan.First count p) (over_rows d p xs) (over_rows d p ys) refl (over_front d p xs ys e b)
over_front d (plan.SortBy p place) xs ys e b = absurd (true≢false (sym e))
over_front d (plan.SortNear p place goal) xs ys e b = absurd (true≢false (sym e))

-- a `first` that has its rows of the front has them of all
pub filled_front : (p : Plan) (xs ys : List PlanRow) → BeginsRows xs ys → is_filled p xs ≡ true → is_filled p ys ≡ true
filled_front (plan.Scan relation) xs ys b e = e
filled_front (plan.Rank column goal within) xs ys b e = e
filled_front (plan.Near column goal within) xs ys b e = e
filled_front (plan.Window column window) xs ys b e = e
filled_front (plan.PickEqual column v) xs ys b e = e
filled_front (plan.PickBetween column low high) xs ys b e = e
filled_front (plan.Join left right within) xs ys b e = e
filled_front (plan.Semi left right within) xs ys b e = e
filled_front (plan.Knn k left right within) xs ys b e = e
filled_front (plan.Filter p tests) xs ys b e = e
filled_front (plan.Match p place column) xs ys b e = e
filled_front (plan.Fetch p places) xs ys b e = e
filled_front (plan.First count p) xs ys b e = more count (length xs) (length ys) (begins_length xs ys b) e
  where
    more : (n a b : ℕ) → a ≤ b → nat_le n a ≡ true → nat_le n b ≡ true
    more n a b l h = le-leb n b (le_trans (leb-true n a h) l)
filled_front (plan.SortBy p place) xs ys b e = e
filled_front (plan.SortNear p place goal) xs ys b e = e

-- ---- spent plans

-- what is full beneath is full
full_up : (d : Database) (p : Plan) (rows : List PlanRow) → is_full plan_measure d (inner p) rows ≡ true → is_full plan_measure d p rows ≡ true
full_up d p rows e = full_inner d p rows ∙ or_true (is_filled p (over_rows d (inner p) rows)) (is_full plan_measure d (inner p) rows) e
  where
    or_true : (a b : Bool) → b ≡ true → (a || b) ≡ true
    or_true true b e = refl
    or_true false b e = e

-- where nothing more is taken beneath, nothing is
pub spent_inner : (d : Database) (p : Plan) (t : Taken) → IsSpent d (beneath_sort (inner p)) t → IsSpent d (beneath_sort p) t
spent_inner d p t h = go (is_lazy p) refl
  where
    plainly : IsSpent d (inner p) t → IsSpent d p t
    plainly (inl full) = inl (full_up d p (take t.rows (source_rows d p)) (subst (λ rows. is_full plan_measure d (inner p) (take t.rows rows) ≡ true) (source_inner d p) full))
    plainly (inr ended) = inr (ended.0, ended.1 ∙ ap length (source_inner d p))

    go : (b : Bool) → is_lazy p ≡ b → IsSpent d (beneath_sort p) t
    go true e = subst (λ q. IsSpent d q t) (sym (beneath_lazy p e)) (plainly (subst (λ q. IsSpent d q t) (beneath_lazy (inner p) (lazy_inner p e)) h))
    go false e = subst (λ q. IsSpent d q t) (sym (beneath_inner p e)) h

-- a `first` that has its rows of those beneath that were taken
pub spent_filled : (d : Database) (p : Plan) (t : Taken) → is_lazy p ≡ true → is_filled p (over_rows d (inner p) (take t.rows (source_rows d p))) ≡ true → IsSpent d (beneath_sort p) t
spent_filled d p t e h = subst (λ q. IsSpent d q t) (sym (beneath_lazy p e))
    (inl (full_inner d p (take t.rows (source_rows d p)) ∙ ap (λ b. b || is_full plan_measure d (inner p) (take t.rows (source_rows d p))) h))
