-- The rows that a join gives one after the other are those of the model's list, and this list is its answer.
use Rattle.std.proofs.Common.{◌≡◌, ◌≢◌, ℕ, ◌≤◌, true, List, [], ◌∷◌, ◌++◌, map, flat_map, length, All, Contains, refl, sym, ap, ◌∙◌, subst, Ordering, Less, Equal, Greater}
use Rattle.std.specs.Ordering.{nat_cmp, ordering_then}
use Rattle.std.specs.Cmp.{IsTotalOrder, nat_cmp_total, on_total, then_total}
use Rattle.std.specs.List.Sorted.{IsStrictlySortedBy}
use Rattle.std.proofs.lemmas.Cmp.{ranked as number_ranked}
use Rattle.std.proofs.lemmas.List.{length-map}
use Rattle.std.proofs.lemmas.List.Elements.{All-append, All-contains, recursion_from_All}
use Rattle.exact_frac.specs.Frac.{value_cmp, value_cmp_total}
use Rattle.sand_base.specs.declared.goal.Goal.TheVariants as figure
use Rattle.sand_base.specs.declared.shape.Shape.{Shape}
use Rattle.sand_model.specs.Measure.{Measure, IsMeasure}
use Rattle.sand_model.specs.Sources.{Found, found_cmp, sorted, joined, is_within}
use Rattle.best_first.specs.Answer.{IsAnswer}
use Rattle.best_first.specs.Hierarchy.{Meaning}
use Rattle.best_first.specs.Reach.{within}
use Rattle.best_first.specs.declared.hit.Hit.{Hit}
use Rattle.best_first.proofs.Bags.{here, there, All-by, in_filter, from_filter, in_flat_map, from_flat_map}
use Rattle.best_first.proofs.Gaps.{same_back, reach_same, within_reach}
use Rattle.rank_cursor.specs.Answers.{IsFoundRow, GivesList}
use Rattle.rank_cursor.specs.Ranking.{HaveOwnIds}
use Rattle.rank_cursor.proofs.Elements.{in_map, from_map}
use Rattle.rank_cursor.proofs.RankedRows.{HasJust, gives_list, same_measures}
use Rattle.rank_cursor.proofs.SortedRows.{Rises, AreApart, from_sorted, in_sorted, filter_rises, sorted_rises}
use Rattle.semi_join.specs.FirstPairs.{HasLefts}
use Rattle.semi_join.specs.Listed.{IsInList, IsOfAnswer, ListsAnswer}
use Rattle.dist_join.specs.Joining.{Joining, IsSoundJoin, row_of_pair, join_meaning}
use Rattle.dist_join.proofs.JoinLaws.{plane_left, plane_right, row_is}

-- ---- the order of rows

found_total : IsTotalOrder found_cmp
found_total =
    then_total (on_total (λ (f : Found). f.gap) value_cmp_total) (then_total (on_total (λ (f : Found). f.left) nat_cmp_total) (on_total (λ (f : Found). f.right) nat_cmp_total))

then_equal : (a b : Ordering) → ordering_then a b ≡ Equal → (a ≡ Equal) × (b ≡ Equal)
then_equal Less b e = cc
then_equal Equal b e = (refl, e)
then_equal Greater b e = cc

-- rows that are tied have the same ids
tied_ids : (f g : Found) → found_cmp f g ≡ Equal → (f.left ≡ g.left) × (f.right ≡ g.right)
tied_ids f g e =
    let ids = (then_equal (value_cmp f.gap g.gap) (ordering_then (nat_cmp f.left g.left) (nat_cmp f.right g.right)) e).1 in
    let both = then_equal (nat_cmp f.left g.left) (nat_cmp f.right g.right) ids in
    (number_ranked f.left g.left Equal (sym both.0), number_ranked f.right g.right Equal (sym both.1))

-- ---- lists

apart_append : {A : Type 0} (cmp : A → A → Ordering) (xs ys : List A) → AreApart cmp xs → AreApart cmp ys
    → ((x : A) → Contains xs x → (y : A) → Contains ys y → cmp x y ≡ Equal → ⊥) → AreApart cmp (xs ++ ys)
apart_append cmp [] ys h k across = k
apart_append cmp (x ∷ xs) ys h k across = (
  All-append (λ z. cmp x z ≡ Equal → ⊥) xs ys h.0 (All-by (λ z. cmp x z ≡ Equal → ⊥) ys (λ y at. across x (here x xs) y at)),
  apart_append cmp xs ys h.1 k (λ z at. across z (there x xs z at)),
)

-- a list that rises is strictly sorted
strictly_sorted : {A : Type 0} (cmp : A → A → Ordering) (xs : List A) → Rises cmp xs → IsStrictlySortedBy cmp xs
unfolding IsStrictlySortedBy
strictly_sorted cmp [] rise = tt
strictly_sorted cmp (x ∷ xs) rise = (recursion_from_All (λ y. cmp x y ≡ Less) xs rise.0, strictly_sorted cmp xs rise.1)

-- ---- a hierarchy whose answer is a list

pub lists_answer : {N : Type 0} (m : Meaning N) (rows : List Found) → HasJust m rows → ListsAnswer m rows
lists_answer {N} m rows just = record {
  rising = strictly_sorted found_cmp rows just.rises;
  whole = whole;
  only = only_rows;
}
  where
    whole : (hit : Hit) → IsAnswer m hit → IsInList rows hit
    whole hit answer =
        let (found, among, is) = just.has hit answer in
        record { found = found; among = among; same = (same_back found.gap hit.gap is.0, sym is.1, sym is.2) }

    only_rows : (found : Found) → Contains rows found → IsOfAnswer m found
    only_rows found at =
        let (hit, answer, is) = just.only found at in
        record { row = hit; answer = answer; same = (same_back found.gap hit.gap is.0, sym is.1, sym is.2) }

-- ---- a join

-- the left rows are those of the left side
pub has_lefts : (j : Joining) → IsSoundJoin j → (greatest : ℕ) → All (λ (row : ℕ × Shape). row.0 ≤ greatest) j.left.shapes → HasLefts (join_meaning j) (length j.left.shapes) greatest
has_lefts j sound greatest small = record {
  ids = map (λ (row : ℕ × Shape). row.0) j.left.shapes;
  count = length-map j.left.shapes (λ (row : ℕ × Shape). row.0);
  small = All-by (λ (id : ℕ). id ≤ greatest) (map (λ (row : ℕ × Shape). row.0) j.left.shapes) (λ id at.
      let (row, among, is) = from_map (λ (row : ℕ × Shape). row.0) j.left.shapes id at in
      subst (λ (n : ℕ). n ≤ greatest) is (All-contains (λ (row : ℕ × Shape). row.0 ≤ greatest) j.left.shapes row small among));
  among = λ hit at.
      let (row, other, among, too, is) = row_is j sound hit at in
      subst (Contains (map (λ (row : ℕ × Shape). row.0) j.left.shapes)) (ap (λ (h : Hit). h.left) is) (in_map (λ (row : ℕ × Shape). row.0) j.left.shapes row among);
}

module _ (j : Joining) (sound : IsSoundJoin j) (gap : Measure) (is : IsMeasure gap) where
  -- two rows as the model's list has them
  abbrev found_of_pair : ℕ × Shape → ℕ × Shape → Found
  found_of_pair row other = record { gap = gap (figure.Shape row.1) (figure.Shape other.1); left = row.0; right = other.0 }

  same_row : (row other : ℕ × Shape) → Contains j.left.shapes row → Contains j.right.shapes other → IsFoundRow (found_of_pair row other) (row_of_pair j row other)
  same_row row other at too = (
    same_measures gap j.measure is sound.measure (figure.Shape row.1) (figure.Shape other.1) (plane_left j sound row.0 row.1 at) (plane_right j sound other.0 other.1 too),
    refl,
    refl,
  )

  abbrev rows_with : ℕ × Shape → List Found
  rows_with row = map (found_of_pair row) j.right.shapes

  abbrev all_rows : List Found
  all_rows = flat_map rows_with j.left.shapes

  abbrev answer_rows : List Found
  answer_rows = joined gap j.ceiling j.left.shapes j.right.shapes

  has_row : (hit : Hit) → IsAnswer (join_meaning j) hit → (found : Found) × Contains answer_rows found × IsFoundRow found hit
  has_row hit answer =
      let (row, other, among, too, same) = row_is j sound hit answer.0 in
      let found = found_of_pair row other in
      let one = subst (IsFoundRow found) same (same_row row other among too) in
      let near = reach_same (within j.ceiling) (within_reach j.ceiling) hit.gap found.gap (same_back found.gap hit.gap one.0) true answer.1 in (
        found,
        in_filter (λ found. is_within j.ceiling found.gap) (sorted found_cmp all_rows) found
            (in_sorted found_cmp all_rows found (in_flat_map rows_with j.left.shapes row found among (in_map (found_of_pair row) j.right.shapes other too))) near,
        one,
      )

  only_row : (found : Found) → Contains answer_rows found → (hit : Hit) × IsAnswer (join_meaning j) hit × IsFoundRow found hit
  only_row found at =
      let (there, near) = from_filter (λ found. is_within j.ceiling found.gap) (sorted found_cmp all_rows) found at in
      let (row, among, more) = from_flat_map rows_with j.left.shapes found (from_sorted found_cmp all_rows found there) in
      let (other, too, same) = from_map (found_of_pair row) j.right.shapes found more in
      let one = subst (λ (f : Found). IsFoundRow f (row_of_pair j row other)) same (same_row row other among too) in
      let hit = row_of_pair j row other in
      let inside = reach_same (within j.ceiling) (within_reach j.ceiling) found.gap hit.gap one.0 true near in
      (hit, (in_flat_map (λ (row : ℕ × Shape). map (row_of_pair j row) j.right.shapes) j.left.shapes row hit among (in_map (row_of_pair j row) j.right.shapes other too), inside), one)

  -- no two pairs of rows are tied
  row_apart : (row : ℕ × Shape) (others : List (ℕ × Shape)) → HaveOwnIds others → AreApart found_cmp (map (found_of_pair row) others)
  row_apart row [] own = tt
  row_apart row (other ∷ others) own = (
    All-by (λ g. found_cmp (found_of_pair row other) g ≡ Equal → ⊥) (map (found_of_pair row) others) (λ g at tied.
        let (second, among, same) = from_map (found_of_pair row) others g at in
        All-contains (λ (next : ℕ × Shape). other.0 ≢ next.0) others second own.0 among ((tied_ids (found_of_pair row other) g tied).1 ∙ sym (ap (λ (f : Found). f.right) same))),
    row_apart row others own.1,
  )

  all_apart : (rows : List (ℕ × Shape)) → HaveOwnIds rows → AreApart found_cmp (flat_map rows_with rows)
  all_apart [] own = tt
  all_apart (row ∷ rows) own =
      apart_append found_cmp (rows_with row) (flat_map rows_with rows) (row_apart row j.right.shapes sound.right.apart) (all_apart rows own.1)
      (λ f at g at_too tied.
      let (other, among, same) = from_map (found_of_pair row) j.right.shapes f at in
      let (second, among_too, more) = from_flat_map rows_with rows g at_too in
      let (third, too, same_too) = from_map (found_of_pair second) j.right.shapes g more in
      All-contains (λ (next : ℕ × Shape). row.0 ≢ next.0) rows second own.0 among_too
      (ap (λ (h : Found). h.left) same ∙ (tied_ids f g tied).0 ∙ sym (ap (λ (h : Found). h.left) same_too)))

  pub has_just : HasJust (join_meaning j) (joined gap j.ceiling j.left.shapes j.right.shapes)
  has_just = record {
    rises = filter_rises found_cmp (λ found. is_within j.ceiling found.gap) (sorted found_cmp all_rows) (sorted_rises found_total all_rows (all_apart j.left.shapes sound.left.apart));
    has = has_row;
    only = only_row;
  }

  -- each row that is given is the next one of the list
  pub gives_joined : GivesList (join_meaning j) (joined gap j.ceiling j.left.shapes j.right.shapes)
  gives_joined = gives_list (join_meaning j) (joined gap j.ceiling j.left.shapes j.right.shapes) has_just

  -- and the list is the answer
  pub lists_joined : ListsAnswer (join_meaning j) (joined gap j.ceiling j.left.shapes j.right.shapes)
  lists_joined = lists_answer (join_meaning j) (joined gap j.ceiling j.left.shapes j.right.shapes) has_just
