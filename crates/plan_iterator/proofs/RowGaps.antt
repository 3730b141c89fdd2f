-- Without a sort, each row has the gap of the source row that it comes from, and a row that is given comes from the last one that was taken.
use Rattle.std.proofs.Common.{◌≡◌, inl, ℕ, zero, suc, ◌+◌, ◌<◌, ◌≤◌, Bool, true, false, true≢false, List, [], ◌∷◌, ◌++◌, length, take, map, filter, flat_map, Option}
use Rattle.std.proofs.Common.{Some, None, refl, sym, ap, ◌∙◌, subst, arith}
use Rattle.std.specs.Prelude.{All}
use Rattle.std.proofs.lemmas.List.{map-append, take_all}
use Rattle.std.proofs.lemmas.List.Concat.{flat_map-append, flat_map-cons}
use Rattle.std.proofs.lemmas.List.Elements.{All-nil, All-cons, All-head, All-tail, All-append, All-filter, All-map, All-take, filter-append}
use Rattle.sand_base.specs.declared.value.Value.{Value}
use Rattle.sand_model.specs.Answer.{source, answer}
use Rattle.sand_model.specs.Database.{Database, element}
use Rattle.sand_model.specs.Operators.{PlanRow, over, relations_of, passes_all, matches_of, value_at, with_fetched}
use Rattle.statements.specs.Plan as plan
use Rattle.statements.specs.Plan.{Plan}
use Rattle.statements.specs.declared.column.Place.{Place}
use Rattle.statements.specs.declared.column.Column.{Column}
use Rattle.sand_model.specs.Reach.{reach_of_last}
use Rattle.sand_model.specs.Sources.{same_value, column_values}
use Rattle.sand_model.specs.Taken.{Taken, is_lazy}
use Rattle.exact_frac.specs.declared.frac.Frac.{Frac}
use Rattle.plan_iterator.specs.Needed.{IsNeeded}
use Rattle.plan_iterator.specs.Rows.{plan_measure}
use Rattle.plan_iterator.proofs.OverPrefixes.{begins_answer}
use Rattle.plan_iterator.proofs.Sourcing.{take_element}

-- each of the rows has this gap
abbrev HaveGap : Option Frac → List PlanRow → Type 0
HaveGap gap rows = All (λ row. row.gap ≡ gap) rows

-- The longer list is the shorter one, and then rows of this gap.
record Extends (gap : Option Frac) (few many : List PlanRow) : Type 0 where
  more : List PlanRow
  split : many ≡ few ++ more
  alike : HaveGap gap more

-- the first rows of a longer list
take_extends : (gap : Option Frac) (n : ℕ) (few many : List PlanRow) → Extends gap few many → Extends gap (take n few) (take n many)
take_extends gap n few many e =
    let front = go n few in record {
      more = front.0;
      split = ap (take n) e.split ∙ front.1;
      alike = front.2;
    }
  where
    go : (n : ℕ) (few : List PlanRow) → (more : List PlanRow) × (take n (few ++ e.more) ≡ take n few ++ more) × HaveGap gap more
    go zero few = ([], refl, All-nil (λ row. row.gap ≡ gap))
    go (suc n) [] = (take (suc n) e.more, refl, All-take (λ row. row.gap ≡ gap) (suc n) e.more e.alike)
    go (suc n) (x ∷ few) = let rest = go n few in (rest.0, ap (λ l. x ∷ l) rest.1, rest.2)

-- the rows that a row matches have its gap
matches_gap : (d : Database) (names : List (List ℕ)) (place : Place) (column : Column) (row : PlanRow) → HaveGap row.gap (matches_of d names place column row)
matches_gap d names place column row = go (value_at d names row place) refl
  where
    go : (v : Option Value) → value_at d names row place ≡ v → HaveGap row.gap (matches_of d names place column row)
    go (Some v) e =
        rw e
        (All-map (λ (r : PlanRow). r.gap ≡ row.gap) (λ (pair : ℕ × Value). record row { ids = row.ids ++ pair.0 ∷ [] }) (filter (λ pair. same_value pair.1 v) (column_values d column))
        (all_of (filter (λ pair. same_value pair.1 v) (column_values d column))))
      where
        all_of : (pairs : List (ℕ × Value)) → All (λ (pair : ℕ × Value). row.gap ≡ row.gap) pairs
        all_of [] = All-nil (λ pair. row.gap ≡ row.gap)
        all_of (x ∷ xs) = All-cons (λ pair. row.gap ≡ row.gap) x xs refl (all_of xs)
    go None e = rw e (All-nil (λ r. r.gap ≡ row.gap))

all_matches : (d : Database) (names : List (List ℕ)) (place : Place) (column : Column) (gap : Option Frac) (rows : List PlanRow)
    → HaveGap gap rows → HaveGap gap (flat_map (matches_of d names place column) rows)
all_matches d names place column gap [] h = All-nil (λ row. row.gap ≡ gap)
all_matches d names place column gap (row ∷ rows) h =
    let same : row.gap ≡ gap = All-head (λ row. row.gap ≡ gap) row rows h in
    subst (HaveGap gap) (sym (flat_map-cons (matches_of d names place column) row rows))
    (All-append (λ row. row.gap ≡ gap) (matches_of d names place column row) (flat_map (matches_of d names place column) rows)
    (subst (λ g. HaveGap g (matches_of d names place column row)) same (matches_gap d names place column row))
    (all_matches d names place column gap rows (All-tail (λ row. row.gap ≡ gap) row rows h)))

-- one row more
one_more : (xs : List PlanRow) (x : PlanRow) → Extends x.gap xs (xs ++ x ∷ [])
one_more xs x = record { more = x ∷ []; split = refl; alike = All-cons (λ row. row.gap ≡ x.gap) x [] refl (All-nil (λ row. row.gap ≡ x.gap)) }

-- what a plan has over one source row more
over_one : (d : Database) (p : Plan) → is_lazy p ≡ true → (xs : List PlanRow) (x : PlanRow) → Extends x.gap (over plan_measure d p xs) (over plan_measure d p (xs ++ x ∷ []))
over_one d (plan.Filter p tests) lazy xs x =
    let test = passes_all d (relations_of p) tests in
    let e = over_one d p lazy xs x in record {
      more = filter test e.more;
      split = ap (filter test) e.split ∙ filter-append test (over plan_measure d p xs) e.more;
      alike = All-filter test (λ row. row.gap ≡ x.gap) e.more e.alike;
    }
over_one d (plan.Match p place column) lazy xs x =
    let matches = matches_of d (relations_of p) place column in
    let e = over_one d p lazy xs x in record {
      more = flat_map matches e.more;
      split = ap (flat_map matches) e.split ∙ flat_map-append matches (over plan_measure d p xs) e.more;
      alike = all_matches d (relations_of p) place column x.gap e.more e.alike;
    }
over_one d (plan.Fetch p places) lazy xs x =
    let fetch = with_fetched d (relations_of p) places in
    let e = over_one d p lazy xs x in record {
      more = map fetch e.more;
      split = ap (map fetch) e.split ∙ map-append fetch (over plan_measure d p xs) e.more;
      alike = All-map (λ row. row.gap ≡ x.gap) fetch e.more e.alike;
    }
over_one d (plan.First count p) lazy xs x =
    take_extends x.gap count (over plan_measure d p xs) (over plan_measure d p (xs ++ x ∷ [])) (over_one d p lazy xs x)
over_one d (plan.SortBy p place) lazy xs x = absurd (true≢false (sym lazy))
over_one d (plan.SortNear p place goal) lazy xs x = absurd (true≢false (sym lazy))
over_one d (plan.Scan relation) lazy xs x = one_more xs x
over_one d (plan.Rank column goal within) lazy xs x = one_more xs x
over_one d (plan.Near column goal within) lazy xs x = one_more xs x
over_one d (plan.Window column window) lazy xs x = one_more xs x
over_one d (plan.PickEqual column v) lazy xs x = one_more xs x
over_one d (plan.PickBetween column low high) lazy xs x = one_more xs x
over_one d (plan.Join left right within) lazy xs x = one_more xs x
over_one d (plan.Semi left right within) lazy xs x = one_more xs x
over_one d (plan.Knn k left right within) lazy xs x = one_more xs x

-- ---- the last row that was taken

-- a place behind the first of two lists is in the second
element_behind : {A : Type 0} (xs ys : List A) (n : ℕ) (x : A) (P : A → Type 0) → length xs ≤ n → All P ys → element (xs ++ ys) n ≡ Some x → P x
element_behind [] [] n x P h all e = absurd (none_some x e)
  where
    none_some : {A : Type 0} (x : A) → None ≡ Some x → ⊥
    none_some {A} x e = true≢false (sym (ap (λ (o : Option A). elim o as (λ _. Bool) [ Some y ↦ true | None ↦ false ]) e))
element_behind {A} [] (y ∷ ys) zero x P h all e = subst P (some_same y x e) (All-head P y ys all)
  where
    some_same : (x y : A) → Some x ≡ Some y → x ≡ y
    some_same x y e = ap (λ (o : Option A). elim o as (λ _. A) [ Some z ↦ z | None ↦ x ]) e
element_behind [] (y ∷ ys) (suc n) x P h all e = element_behind [] ys n x P (omega arith) (All-tail P y ys all) e
element_behind (z ∷ xs) ys zero x P h all e = absurd (omega arith)
element_behind (z ∷ xs) ys (suc n) x P h all e = element_behind xs ys n x P (omega arith) all e

-- a place of a list is one of each list that it begins
element_front : {A : Type 0} (xs ys : List A) (n : ℕ) → n < length xs → element (xs ++ ys) n ≡ element xs n
element_front [] ys n h = absurd (omega arith)
element_front (x ∷ xs) ys zero h = refl
element_front (x ∷ xs) ys (suc n) h = element_front xs ys n (omega arith)

-- the reach of the last of some rows
last_reach : (xs : List PlanRow) (x : PlanRow) → reach_of_last (xs ++ x ∷ []) ≡ reach_of_last (x ∷ [])
last_reach [] x = refl
last_reach (y ∷ []) x = refl
last_reach (y ∷ z ∷ xs) x = last_reach (z ∷ xs) x

-- rows of one gap reach as far
gap_reach : (x y : PlanRow) → x.gap ≡ y.gap → reach_of_last (x ∷ []) ≡ reach_of_last (y ∷ [])
gap_reach x y e = ap (λ g. reach_of_last ((record x { gap = g }) ∷ [])) e

-- a place before the end of a list has an element
element_some : {A : Type 0} (xs : List A) (n : ℕ) → n < length xs → (x : A) × (element xs n ≡ Some x)
element_some [] n h = absurd (omega arith)
element_some (x ∷ xs) zero h = (x, refl)
element_some (x ∷ xs) (suc n) h = element_some xs n (omega arith)

-- the list with its last element apart
front_last : {A : Type 0} (xs : List A) (k : ℕ) → k < length xs → (x : A) × (take (k + 1) xs ≡ take k xs ++ x ∷ [])
front_last xs k h = let last = element_some xs k h in (last.0, take_element xs k last.0 last.1)

module _ (d : Database) (p : Plan) (given : ℕ) (t : Taken) (needed : IsNeeded plan_measure d p given t) (lazy : is_lazy p ≡ true)
    (enough : given + 1 ≤ length (over plan_measure d p (take t.rows (source plan_measure d p)))) (row : PlanRow)
    (next : element (answer plan_measure d p) given ≡ Some row) where
  -- the row comes from the last source row that was taken
  from_last : (k : ℕ) → t.rows ≡ k + 1 → reach_of_last (take t.rows (source plan_measure d p)) ≡ reach_of_last (row ∷ [])
  from_last k is =
      let all = source plan_measure d p in
      let within = needed.within in
      let last = front_last all k (omega (arith, is, within)) in
      let first : take t.rows all ≡ take k all ++ last.0 ∷ [] = ap (λ n. take n all) is ∙ last.1 in
      let more = over_one d p lazy (take k all) last.0 in
      let few : length (over plan_measure d p (take k all)) ≤ given = needed.few lazy k (inl (omega (arith, is))) in
      let whole = begins_answer plan_measure d p lazy t.rows in
      let long : given < length (over plan_measure d p (take t.rows all)) = omega (arith, enough) in
      let there : element (over plan_measure d p (take t.rows all)) given ≡ Some row =
      sym (element_front (over plan_measure d p (take t.rows all)) whole.0 given long) ∙ ap (λ rows. element rows given) (sym whole.1) ∙ next in
      let split : element (over plan_measure d p (take k all) ++ more.more) given ≡ Some row =
      ap (λ rows. element rows given) (sym (ap (over plan_measure d p) first ∙ more.split)) ∙ there in
      let same : row.gap ≡ last.0.gap = element_behind (over plan_measure d p (take k all)) more.more given row (λ r. r.gap ≡ last.0.gap) few more.alike split in
      ap reach_of_last first ∙ last_reach (take k all) last.0 ∙ gap_reach last.0 row (sym same)

  -- some were taken
  pub row_reached : reach_of_last (take t.rows (source plan_measure d p)) ≡ reach_of_last (row ∷ [])
  row_reached = go t.rows refl
    where
      nothing : (p : Plan) → is_lazy p ≡ true → over plan_measure d p [] ≡ []
      nothing (plan.Filter p tests) lazy = ap (filter (passes_all d (relations_of p) tests)) (nothing p lazy)
      nothing (plan.Match p place column) lazy = ap (flat_map (matches_of d (relations_of p) place column)) (nothing p lazy)
      nothing (plan.Fetch p places) lazy = ap (map (with_fetched d (relations_of p) places)) (nothing p lazy)
      nothing (plan.First count p) lazy = ap (take count) (nothing p lazy) ∙ take_all count [] (omega arith)
      nothing (plan.SortBy p place) lazy = absurd (true≢false (sym lazy))
      nothing (plan.SortNear p place goal) lazy = absurd (true≢false (sym lazy))
      nothing (plan.Scan relation) lazy = refl
      nothing (plan.Rank column goal within) lazy = refl
      nothing (plan.Near column goal within) lazy = refl
      nothing (plan.Window column window) lazy = refl
      nothing (plan.PickEqual column v) lazy = refl
      nothing (plan.PickBetween column low high) lazy = refl
      nothing (plan.Join left right within) lazy = refl
      nothing (plan.Semi left right within) lazy = refl
      nothing (plan.Knn k left right within) lazy = refl

      go : (n : ℕ) → t.rows ≡ n → reach_of_last (take t.rows (source plan_measure d p)) ≡ reach_of_last (row ∷ [])
      go zero is =
          let none : length (over plan_measure d p (take t.rows (source plan_measure d p))) ≡ 0 =
          ap (λ n. length (over plan_measure d p (take n (source plan_measure d p)))) is ∙ ap length (nothing p lazy) in
          absurd (omega (arith, none, enough))
      go (suc k) is = from_last k (is ∙ omega arith)
