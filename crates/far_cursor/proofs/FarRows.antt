-- The rows that a search farthest first gives one after the other are all rows by falling gap, under their keys.
use Rattle.std.proofs.Common.{◌≡◌, ◌≢◌, ℕ, List, [], ◌∷◌, map, Contains, refl, sym, ap, ◌∙◌, subst, Ordering, Less, Equal, Greater}
use Rattle.std.specs.Ordering.{nat_cmp, ordering_then}
use Rattle.std.specs.Cmp.{IsTotalOrder, nat_cmp_total, on_total, then_total, back_total}
use Rattle.std.proofs.lemmas.Cmp.{ranked as number_ranked}
use Rattle.std.proofs.lemmas.List.Elements.{All-contains}
use Rattle.exact_frac.specs.Frac.{value_cmp, value_cmp_total}
use Rattle.sand_base.specs.Plane.{IsInClosedPlane, IsShapeInClosedPlane}
use Rattle.sand_base.specs.declared.goal.Goal.TheVariants as figure
use Rattle.sand_base.specs.declared.point.Point.{Point}
use Rattle.sand_base.specs.declared.shape.Shape.{Shape}
use Rattle.sand_model.specs.Measure.{Measure, IsMeasure}
use Rattle.sand_model.specs.Sources.{Found, found_cmp, far_cmp, far_rows, spot_figure}
use Rattle.ring_geom.proofs.Measured.{measured}
use Rattle.page_pool.specs.Disk.{PageMap}
use Rattle.pmr_tree.specs.declared.quadtree.Pmr.{Pmr}
use Rattle.best_first.specs.Answer.{IsAnswer}
use Rattle.best_first.specs.declared.hit.Hit.{Hit}
use Rattle.best_first.proofs.Bags.{All-by}
use Rattle.rank_cursor.specs.Answers.{IsFoundRow, GivesList}
use Rattle.rank_cursor.specs.Cursor.{the_measure}
use Rattle.rank_cursor.specs.Ranking.{Ranking, hit_at, rank_meaning, HaveOwnIds}
use Rattle.rank_cursor.proofs.Elements.{in_map, from_map}
use Rattle.rank_cursor.proofs.RankedRows.{gives_list, same_measures}
use Rattle.rank_cursor.proofs.SortedRows.{Rises, AreApart, from_sorted, in_sorted, sorted_rises}
use Rattle.far_cursor.specs.FarAnswer.{keyed}
use Rattle.far_cursor.specs.FarRanking.{far_ranking}
use Rattle.far_cursor.proofs.FarSound.{gap_short}
use Rattle.far_cursor.proofs.KeyOrder.{IsShort, key_same, key_cmp}
use Rattle.far_cursor.proofs.KeyedLaws.{IsKeyed}

-- the order of the rows is total
far_total : IsTotalOrder far_cmp
far_total =
    then_total (on_total (λ (f : Found). f.gap) (back_total value_cmp_total)) (then_total (on_total (λ (f : Found). f.left) nat_cmp_total) (on_total (λ (f : Found). f.right) nat_cmp_total))

-- under their keys rows stand in the order of a search
keyed_cmp : (f g : Found) → IsShort f.gap → IsShort g.gap → found_cmp (keyed f) (keyed g) ≡ far_cmp f g
keyed_cmp f g hf hg = ap (λ r. ordering_then r (ordering_then (nat_cmp f.left g.left) (nat_cmp f.right g.right))) (key_cmp f.gap g.gap hf hg)

keyed_rises : (xs : List Found) → ((f : Found) → Contains xs f → IsShort f.gap) → Rises far_cmp xs → Rises found_cmp (map keyed xs)
keyed_rises [] short rise = tt
keyed_rises (x ∷ xs) short rise = (
  All-by (λ y. found_cmp (keyed x) y ≡ Less) (map keyed xs) (λ y at.
      let (f, among, is) = from_map keyed xs y at in
      subst (λ (z : Found). found_cmp (keyed x) z ≡ Less) is
      (keyed_cmp x f (short x (Rattle.best_first.proofs.Bags.here x xs)) (short f (Rattle.best_first.proofs.Bags.there x xs f among)) ∙ All-contains (λ z. far_cmp x z ≡ Less) xs f rise.0 among)),
  keyed_rises xs (λ f at. short f (Rattle.best_first.proofs.Bags.there x xs f at)) rise.1,
)

-- rows of other ids are not tied
then_equal : (a b : Ordering) → ordering_then a b ≡ Equal → (a ≡ Equal) × (b ≡ Equal)
then_equal Less b e = cc
then_equal Equal b e = (refl, e)
then_equal Greater b e = cc

apart : (f g : Found) → f.left ≢ g.left → far_cmp f g ≡ Equal → ⊥
apart f g other e =
    let ids = (then_equal (value_cmp g.gap f.gap) (ordering_then (nat_cmp f.left g.left) (nat_cmp f.right g.right)) e).1 in
    let left = (then_equal (nat_cmp f.left g.left) (nat_cmp f.right g.right) ids).0 in
    absurd (other (number_ranked f.left g.left Equal (sym left)))

module _ (rows : PageMap → List (ℕ × Shape)) (Stands : PageMap → Type 0) (price : ℕ) (t : Pmr) (goal : Point) (plane : IsInClosedPlane goal) (pages : PageMap)
    (keys : IsKeyed (far_ranking rows Stands price t goal pages))
    (gap : Measure) (is : IsMeasure gap) where
  abbrev r : Ranking
  r = far_ranking rows Stands price t goal pages

  -- a row as the list has it
  abbrev found_at : ℕ × Shape → Found
  found_at row = record { gap = gap (spot_figure goal) (figure.Shape row.1); left = row.0; right = 0 }

  abbrev list : List Found
  list = far_rows gap goal (rows pages)

  in_plane : (row : ℕ × Shape) → Contains (rows pages) row → IsShapeInClosedPlane row.1
  in_plane row at = All-contains (λ (row : ℕ × Shape). IsShapeInClosedPlane row.1) (rows pages) row keys.plane at

  same_row : (row : ℕ × Shape) → Contains (rows pages) row → IsFoundRow (keyed (found_at row)) (hit_at r row)
  same_row row at = (
    key_same (gap (spot_figure goal) (figure.Shape row.1)) (the_measure (spot_figure goal) (figure.Shape row.1))
        (same_measures gap the_measure is measured.1 (spot_figure goal) (figure.Shape row.1) plane (in_plane row at)),
    refl,
    refl,
  )

  all_apart : (shapes : List (ℕ × Shape)) → HaveOwnIds shapes → AreApart far_cmp (map found_at shapes)
  all_apart [] own = tt
  all_apart (row ∷ shapes) own = (
    All-by (λ g. far_cmp (found_at row) g ≡ Equal → ⊥) (map found_at shapes) (λ g at.
        let (other, among, same) = from_map found_at shapes g at in
        subst (λ (h : Found). far_cmp (found_at row) h ≡ Equal → ⊥) same
        (apart (found_at row) (found_at other) (All-contains (λ (other : ℕ × Shape). row.0 ≢ other.0) shapes other own.0 among))),
    all_apart shapes own.1,
  )

  -- the gaps of the rows are short
  pub all_short : (f : Found) → Contains list f → IsShort f.gap
  all_short f at =
      let (row, among, same) = from_map found_at (rows pages) f (from_sorted far_cmp (map found_at (rows pages)) f at) in
      subst (λ (g : Found). IsShort g.gap) same (gap_short gap is goal row.1 plane (in_plane row among))

  has_row : (hit : Hit) → IsAnswer (rank_meaning r) hit → (found : Found) × Contains (map keyed list) found × IsFoundRow found hit
  has_row hit answer =
      let (row, among, same) = from_map (hit_at r) (rows pages) hit answer.0 in (
        keyed (found_at row),
        in_map keyed list (found_at row) (in_sorted far_cmp (map found_at (rows pages)) (found_at row) (in_map found_at (rows pages) row among)),
        subst (IsFoundRow (keyed (found_at row))) same (same_row row among),
      )

  only_row : (found : Found) → Contains (map keyed list) found → (hit : Hit) × IsAnswer (rank_meaning r) hit × IsFoundRow found hit
  only_row found at =
      let (f, there, is_keyed) = from_map keyed list found at in
      let (row, among, same) = from_map found_at (rows pages) f (from_sorted far_cmp (map found_at (rows pages)) f there) in (
        hit_at r row,
        (in_map (hit_at r) (rows pages) row among, refl),
        subst (λ (g : Found). IsFoundRow g (hit_at r row)) is_keyed (subst (λ (g : Found). IsFoundRow (keyed g) (hit_at r row)) same (same_row row among)),
      )

  pub gives_far : GivesList (rank_meaning r) (map keyed list)
  gives_far =
      gives_list (rank_meaning r) (map keyed list) (record {
        rises = keyed_rises list all_short (sorted_rises far_total (map found_at (rows pages)) (all_apart (rows pages) keys.apart));
        has = has_row;
        only = only_row;
      })
