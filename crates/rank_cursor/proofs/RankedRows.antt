-- The rows that a ranking gives one after the other are those of the model's list.
use Rattle.std.proofs.Common.{◌≡◌, ◌≢◌, ⊎_elim, ℕ, zero, suc, ◌*◌, ◌<◌, ◌≤◌, true, true≢false, List, [], ◌∷◌, map, length, Contains, Option, None, Some, refl, sym, ap}
use Rattle.std.proofs.Common.{◌∙◌, subst, arith, Ordering, Less, Equal, Greater}
use Rattle.std.proofs.lemmas.Bool.{cases_lt}
use Rattle.std.specs.Ordering.{is_gt, nat_cmp, ordering_then, ordering_reverse}
use Rattle.std.specs.Cmp.{IsTotalOrder, nat_cmp_total, on_total, then_total, alike_right}
use Rattle.std.proofs.lemmas.Cmp.{ranked as number_ranked}
use Rattle.std.proofs.lemmas.List.Elements.{All-contains}
use Rattle.exact_frac.specs.Frac.{value_cmp, value_cmp_total}
use Rattle.sand_base.specs.Plane.{IsGoalInClosedPlane, IsShapeInClosedPlane}
use Rattle.sand_base.specs.declared.goal.Goal.{Goal}
use Rattle.sand_base.specs.declared.goal.Goal.TheVariants as figure
use Rattle.sand_base.specs.declared.shape.Shape.{Shape}
use Rattle.sand_model.specs.Database.{element}
use Rattle.sand_model.specs.Measure.{Measure, IsMeasure}
use Rattle.sand_model.specs.Sources.{Found, found_cmp, sorted, ranked, is_within}
use Rattle.ring_geom.proofs.Farther.{gap_unique}
use Rattle.ring_geom.proofs.TreeLaws.{same_compares}
use Rattle.best_first.specs.Answer.{hit_cmp, IsAnswer, IsLater, IsNext, IsExhausted}
use Rattle.best_first.specs.Hierarchy.{Meaning}
use Rattle.best_first.specs.Reach.{IsSameGap, within}
use Rattle.best_first.specs.declared.hit.Hit.{Hit}
use Rattle.best_first.proofs.Alikes.{rows_tied}
use Rattle.best_first.proofs.Bags.{there, All-by, in_filter, from_filter}
use Rattle.best_first.proofs.Gaps.{same_back, same_trans, reach_same, within_reach}
use Rattle.rank_cursor.specs.Ranking.{Ranking, hit_at, rank_meaning, HaveOwnIds, IsSound}
use Rattle.rank_cursor.specs.Answers.{IsFoundRow, RowStandsAt, AreGiven, GivesList}
use Rattle.rank_cursor.proofs.Elements.{in_map, from_map}
use Rattle.rank_cursor.proofs.SortedRows.{Rises, AreApart, from_sorted, in_sorted, at_is, place_of, at_below, below_at, rising_at, filter_rises, sorted_rises, later_place}

-- ---- the order of rows

found_total : IsTotalOrder found_cmp
found_total =
    then_total (on_total (λ (f : Found). f.gap) value_cmp_total) (then_total (on_total (λ (f : Found). f.left) nat_cmp_total) (on_total (λ (f : Found). f.right) nat_cmp_total))

-- a row of a search as one of the model
abbrev found_of : Hit → Found
found_of hit = record { gap = hit.gap; left = hit.left; right = hit.right }

abbrev hit_of : Found → Hit
hit_of found = record { gap = found.gap; left = found.left; right = found.right }

tied : (found : Found) (hit : Hit) → IsFoundRow found hit → found_cmp found (found_of hit) ≡ Equal
tied found hit h = rows_tied (hit_of found) hit h

-- ---- a hierarchy whose answer is a rising list

-- The rows of the answer are those of the list, by ids and values of gaps.
pub record HasJust {N : Type 0} (m : Meaning N) (rows : List Found) : Type 0 where
  pub rises : Rises found_cmp rows
  pub has : (hit : Hit) → IsAnswer m hit → (found : Found) × Contains rows found × IsFoundRow found hit
  pub only : (found : Found) → Contains rows found → (hit : Hit) × IsAnswer m hit × IsFoundRow found hit

module _ {N : Type 0} (m : Meaning N) (rows : List Found) (just : HasJust m rows) where
  -- what is later than the last row given stands at no place before
  later_at : (n : ℕ) (last : Option Hit) → AreGiven rows n last → (hit : Hit) (found : Found) (k : ℕ) → element rows k ≡ Some found → IsFoundRow found hit
      → IsLater last hit → n ≤ k
  later_at zero last given hit found k at is later = omega arith
  later_at (suc n) None given hit found k at is later = absurd given
  later_at (suc n) (Some last) (before, there, same) hit found k at is later =
      let one : found_cmp before (found_of hit) ≡ Less = found_total.congr before (found_of last) (found_of hit) (tied before last same) ∙ later in
      let two : found_cmp before found ≡ Less = alike_right found_total found (found_of hit) before (tied found hit is) ∙ one in
      later_place found_total rows just.rises n k before found there at two

  -- and what stands there or after is later
  at_later : (n : ℕ) (last : Option Hit) → AreGiven rows n last → (hit : Hit) (found : Found) (k : ℕ) → element rows k ≡ Some found → IsFoundRow found hit
      → n ≤ k → IsLater last hit
  at_later zero last given hit found k at is far = subst (λ (l : Option Hit). IsLater l hit) (sym given) tt
  at_later (suc n) None given hit found k at is far = absurd given
  at_later (suc n) (Some last) (before, there, same) hit found k at is far =
      let one : found_cmp before found ≡ Less = rising_at found_cmp rows just.rises n k before found (omega arith) there at in
      let two : found_cmp before (found_of hit) ≡ Less = sym (alike_right found_total found (found_of hit) before (tied found hit is)) ∙ one in
      sym (found_total.congr before (found_of last) (found_of hit) (tied before last same)) ∙ two

  next_at : (n : ℕ) (last : Option Hit) (hit : Hit) → AreGiven rows n last → IsNext m last hit → RowStandsAt rows n hit
  next_at n last hit given next =
      let (found, among, is) = just.has next.row next.answer in
      let (k, at) = place_of rows found among in
      let far = later_at n last given next.row found k at is next.later in
      let place : k ≡ n = ⊎_elim (λ l. absurd (nearer found is k at l)) (λ l. same_number n k far l) (cases_lt n k) in
      (found, ap (element rows) (sym place) ∙ at, (same_trans found.gap next.row.gap hit.gap is.0 next.same.0, is.1 ∙ next.same.1, is.2 ∙ next.same.2))
    where
      same_number : (n k : ℕ) → n ≤ k → k ≤ n → k ≡ n
      same_number n k h g = omega arith

      -- the row at the place before would come first
      nearer : (found : Found) → IsFoundRow found next.row → (k : ℕ) → element rows k ≡ Some found → n < k → ⊥
      nearer found is k at l =
          let (other, there) = below_at rows n (let below = at_below rows k found at in omega arith) in
          let (row, answer, same) = just.only other (at_is rows n other there) in
          let later = at_later n last given row other n there same (omega arith) in
          let first : found_cmp other found ≡ Less = rising_at found_cmp rows just.rises n k other found l there at in
          let turned : found_cmp (found_of row) found ≡ Less = sym (found_total.congr other (found_of row) found (tied other row same)) ∙ first in
          let back : hit_cmp row next.row ≡ Less = sym (alike_right found_total found (found_of next.row) (found_of row) (tied found next.row is)) ∙ turned in
          let over : hit_cmp next.row row ≡ Greater = found_total.antisymm (found_of next.row) (found_of row) ∙ ap ordering_reverse back in
          absurd (true≢false (sym (ap is_gt over) ∙ next.first row answer later))

  over_at : (n : ℕ) (last : Option Hit) → AreGiven rows n last → IsExhausted m last → n ≡ length rows
  over_at n last given over =
      ⊎_elim
      (λ l.
      let (other, there) = below_at rows n l in
      let (row, answer, same) = just.only other (at_is rows n other there) in
      absurd (over row answer (at_later n last given row other n there same (omega arith))))
      (λ l. both n (length rows) (most n last given) l) (cases_lt n (length rows))
    where
      both : (n k : ℕ) → n ≤ k → k ≤ n → n ≡ k
      both n k h g = omega arith

      most : (n : ℕ) (last : Option Hit) → AreGiven rows n last → n ≤ length rows
      most zero last given = omega arith
      most (suc n) None given = absurd given
      most (suc n) (Some last) (before, there, same) = let below = at_below rows n before there in omega arith

  pub gives_list : GivesList m rows
  gives_list = record { next = next_at; over = over_at }

-- ---- a ranking

-- all measures give a gap one value
pub same_measures : (gap other : Measure) → IsMeasure gap → IsMeasure other → (a b : Goal) → IsGoalInClosedPlane a → IsGoalInClosedPlane b → IsSameGap (gap a b) (other a b)
same_measures gap other h k a b ha hb =
    let f = gap a b in
    let g = other a b in
    same_compares (f.num * g.den) (g.num * f.den) (gap_unique a b f.num f.den g.num g.den (h a b ha hb) (k a b ha hb))

module _ (r : Ranking) (sound : IsSound r) (gap : Measure) (is : IsMeasure gap) where
  -- a row as the model's list has it
  abbrev found_at : ℕ × Shape → Found
  found_at row = record { gap = gap r.goal (figure.Shape row.1); left = row.0; right = 0 }

  same_row : (row : ℕ × Shape) → Contains r.shapes row → IsFoundRow (found_at row) (hit_at r row)
  same_row row at = (
    same_measures gap r.measure is sound.measure r.goal (figure.Shape row.1) sound.goal
        (All-contains (λ (row : ℕ × Shape). IsShapeInClosedPlane row.1) r.shapes row sound.plane at),
    refl,
    refl,
  )

  abbrev all_found : List Found
  all_found = map found_at r.shapes

  has_row : (hit : Hit) → IsAnswer (rank_meaning r) hit → (found : Found) × Contains (ranked gap r.goal r.ceiling r.shapes) found × IsFoundRow found hit
  has_row hit answer =
      let (row, among, same) = from_map (hit_at r) r.shapes hit answer.0 in
      let one = subst (IsFoundRow (found_at row)) same (same_row row among) in
      let near = reach_same (within r.ceiling) (within_reach r.ceiling) hit.gap (gap r.goal (figure.Shape row.1)) (same_back (gap r.goal (figure.Shape row.1)) hit.gap one.0) true answer.1 in (
        found_at row,
        in_filter (λ found. is_within r.ceiling found.gap) (sorted found_cmp all_found) (found_at row)
            (in_sorted found_cmp all_found (found_at row) (in_map found_at r.shapes row among)) near,
        one,
      )

  only_row : (found : Found) → Contains (ranked gap r.goal r.ceiling r.shapes) found → (hit : Hit) × IsAnswer (rank_meaning r) hit × IsFoundRow found hit
  only_row found at =
      let (there, near) = from_filter (λ found. is_within r.ceiling found.gap) (sorted found_cmp all_found) found at in
      let (row, among, same) = from_map found_at r.shapes found (from_sorted found_cmp all_found found there) in
      let one = subst (λ (f : Found). IsFoundRow f (hit_at r row)) same (same_row row among) in
      let inside = reach_same (within r.ceiling) (within_reach r.ceiling) found.gap (hit_at r row).gap one.0 true near in
      (hit_at r row, (in_map (hit_at r) r.shapes row among, inside), one)

  -- rows of other ids are not tied
  then_equal : (a b : Ordering) → ordering_then a b ≡ Equal → (a ≡ Equal) × (b ≡ Equal)
  then_equal Less b e = cc
  then_equal Equal b e = (refl, e)
  then_equal Greater b e = cc

  apart : (f g : Found) → f.left ≢ g.left → found_cmp f g ≡ Equal → ⊥
  apart f g other e =
      let ids = (then_equal (value_cmp f.gap g.gap) (ordering_then (nat_cmp f.left g.left) (nat_cmp f.right g.right)) e).1 in
      let left = (then_equal (nat_cmp f.left g.left) (nat_cmp f.right g.right) ids).0 in
      absurd (other (number_ranked f.left g.left Equal (sym left)))

  all_apart : (rows : List (ℕ × Shape)) → HaveOwnIds rows → AreApart found_cmp (map found_at rows)
  all_apart [] own = tt
  all_apart (row ∷ rows) own = (
    All-by (λ g. found_cmp (found_at row) g ≡ Equal → ⊥) (map found_at rows) (λ g at.
        let (other, among, same) = from_map found_at rows g at in
        subst (λ (h : Found). found_cmp (found_at row) h ≡ Equal → ⊥) same
        (apart (found_at row) (found_at other) (All-contains (λ (other : ℕ × Shape). row.0 ≢ other.0) rows other own.0 among))),
    all_apart rows own.1,
  )

  pub gives_ranked : GivesList (rank_meaning r) (ranked gap r.goal r.ceiling r.shapes)
  gives_ranked =
      gives_list (rank_meaning r) (ranked gap r.goal r.ceiling r.shapes) (record {
        rises = filter_rises found_cmp (λ found. is_within r.ceiling found.gap) (sorted found_cmp all_found) (sorted_rises found_total all_found (all_apart r.shapes sound.apart));
        has = has_row;
        only = only_row;
      })
