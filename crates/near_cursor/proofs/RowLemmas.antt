-- The members of an R-tree that lists rows, and the rows: each of the one is one of the other, by its id and its rough shape.
use Rattle.std.proofs.Common.{◌≡◌, ◌≢◌, ⊎_elim, ℕ, ◌+◌, ◌≤◌, Bool, true, false, true≢false, List, [], ◌∷◌, map, filter, Contains, refl, sym, ap, ◌∙◌, subst, arith}
use Rattle.std.specs.Prelude.{IsPermutation, Option}
use Rattle.std.specs.List.{sum_by}
use Rattle.std.proofs.lemmas.List.Sorted.{IsPermutation-map, IsPermutation-sym, Contains-permutation, sum_by-IsPermutation}
use Rattle.std.proofs.lemmas.List.Sums.{sum_by-cons}
use Rattle.sand_base.specs.Plane.{IsGoalInClosedPlane, IsShapeInPlane, IsShapeInClosedPlane}
use Rattle.sand_base.specs.declared.goal.Goal.{Goal}
use Rattle.sand_base.specs.declared.goal.Goal.TheVariants as figure
use Rattle.sand_base.specs.declared.rough.Rough.{Rough}
use Rattle.sand_base.specs.declared.rough.Rough.TheVariants as rough
use Rattle.sand_base.specs.declared.shape.Shape.{Shape}
use Rattle.sand_base.specs.declared.shape.Shape.TheVariants as shape
use Rattle.sand_model.specs.Database.{meets_block}
use Rattle.sand_model.specs.Nodes.{rough_figure}
use Rattle.sand_model.specs.Roughs.{row_figure}
use Rattle.sand_model.specs.Tree.{Leaf, root_block}
use Rattle.ring_geom.proofs.Measured.{measured}
use Rattle.ring_geom.proofs.RoughLemmas.{rough_in_closed_plane, rough_no_farther}
use Rattle.page_pool.specs.Disk.{PageMap}
use Rattle.code_btree.specs.Tree.{same, times}
use Rattle.code_btree.proofs.Lists.{same_self}
use Rattle.r_tree.specs.declared.tree.RTree.{RTree}
use Rattle.r_tree.specs.Entry.{Member, member_ids}
use Rattle.r_tree.specs.Tree.{tree_members}
use Rattle.pmr_tree.specs.Entries.{figure_of}
use Rattle.pmr_tree.specs.Laws.{AreInPlane}
use Rattle.pmr_tree.specs.Quadtree.{store_of}
use Rattle.best_first.specs.Hierarchy.{Shows}
use Rattle.best_first.specs.Reach.{IsSameGap, IsAtMost}
use Rattle.best_first.specs.declared.item.Item.{Item}
use Rattle.best_first.specs.declared.item.Item.TheVariants as item
use Rattle.best_first.proofs.Bags.{cons_cases, none, All-by}
use Rattle.best_first.proofs.Gaps.{same_itself, same_back}
use Rattle.rank_cursor.specs.Cursor.{the_measure, goal_gap}
use Rattle.rank_cursor.specs.Ranking.{Ranking, HaveOwnIds, IsSound}
use Rattle.rank_cursor.proofs.Elements.{in_map, from_map}
use Rattle.rank_cursor.proofs.Fitted.{closed_shape}
use Rattle.near_cursor.specs.TreeNodes.{PageNode}
use Rattle.r_tree.specs.Listing.{member_figure, ListsRows}
use Rattle.near_cursor.specs.NearRanking.{near_row, member_found}

-- ---- rows in the plane

-- each of rows in the plane lies there
row_in_plane : (rows : List (ℕ × Shape)) (row : ℕ × Shape) → AreInPlane rows → Contains rows row → IsShapeInPlane row.1
row_in_plane [] row h at = absurd (none row at)
row_in_plane (x ∷ xs) row h at = ⊎_elim (λ e. subst (λ (r : ℕ × Shape). IsShapeInPlane r.1) e h.0) (λ t. row_in_plane xs row h.1 t) (cons_cases x xs row at)

-- so it lies in the closed square
pub row_closed : (rows : List (ℕ × Shape)) (row : ℕ × Shape) → AreInPlane rows → Contains rows row → IsShapeInClosedPlane row.1
row_closed rows row h at = closed_shape row.1 (row_in_plane rows row h at)

-- ---- ids of their own

-- how often a number stands in a list is a sum over it
times-sum : (q : ℕ) (xs : List ℕ) → times q xs ≡ sum_by (same q) xs
times-sum q [] = refl
times-sum q (x ∷ xs) = omega (arith, times-sum q xs, sum_by-cons (same q) x xs)

-- so it is the same in another order
times-perm : (q : ℕ) (xs ys : List ℕ) → IsPermutation xs ys → times q ys ≡ times q xs
times-perm q xs ys p = times-sum q ys ∙ (sum_by-IsPermutation (same q) xs ys p ∙ sym (times-sum q xs))

-- a number that stands in a list stands there once at least
counted : (x : ℕ) (xs : List ℕ) → Contains xs x → 1 ≤ times x xs
counted x [] h = absurd (none x h)
counted x (y ∷ ys) h = ⊎_elim (λ e. subst (λ (z : ℕ). 1 ≤ same x z + times x ys) (sym e) (omega (arith, same_self x))) (λ t. let k = counted x ys t in omega arith) (cons_cases y ys x h)

-- rows no id of which stands twice have ids of their own
pub own_ids : (rows : List (ℕ × Shape)) → ((id : ℕ) → times id (map (λ (row : ℕ × Shape). row.0) rows) ≤ 1) → HaveOwnIds rows
own_ids [] once = tt
own_ids (row ∷ rows) once = (
  All-by (λ (other : ℕ × Shape). row.0 ≢ other.0) rows (λ other at e.
      absurd (twice (times row.0 (map (λ (r : ℕ × Shape). r.0) rows)) (same row.0 row.0) (same_self row.0)
      (subst (λ (id : ℕ). 1 ≤ times id (map (λ (r : ℕ × Shape). r.0) rows)) (sym e) (counted other.0 (map (λ (r : ℕ × Shape). r.0) rows) (in_map (λ (r : ℕ × Shape). r.0) rows other at)))
      (once row.0))),
  own_ids rows (λ id. let k = once id in omega arith),
)
  where
    twice : (n s : ℕ) → s ≡ 1 → 1 ≤ n → s + n ≤ 1 → ⊥
    twice n s e h k = omega arith

-- the id of an id with a figure
abbrev first_of : ℕ × Goal → ℕ
first_of x = x.0

-- the ids of members with their figures are those of the members
member_firsts : (is : List Member) → map first_of (map member_figure is) ≡ member_ids is
member_firsts [] = refl
member_firsts (i ∷ is) = ap (λ (ids : List ℕ). i.0 ∷ ids) (member_firsts is)

-- and those of rows with their figures are those of the rows
row_firsts : (rows : List (ℕ × Shape)) → map first_of (map row_figure rows) ≡ map (λ (row : ℕ × Shape). row.0) rows
row_firsts [] = refl
row_firsts (row ∷ rows) = ap (λ (ids : List ℕ). row.0 ∷ ids) (row_firsts rows)

-- ---- members and rows

module _ (pages : PageMap) (t : RTree) (rows : List (ℕ × Shape)) (fits : ListsRows pages t rows) where
  -- what the tree lists
  abbrev members : List Member
  members = tree_members (store_of pages) t

  -- a member is a row's
  pub member_row : (i : Member) → Contains members i → (row : ℕ × Shape) × Contains rows row × (row_figure row ≡ member_figure i)
  member_row i at =
      from_map row_figure rows (member_figure i)
      (Contains-permutation (map member_figure members) (map row_figure rows) (member_figure i) fits.lists (in_map member_figure members i at))

  -- and a row has a member
  pub row_member : (row : ℕ × Shape) → Contains rows row → (i : Member) × Contains members i × (member_figure i ≡ row_figure row)
  row_member row at =
      from_map member_figure members (row_figure row)
      (Contains-permutation (map row_figure rows) (map member_figure members) (row_figure row) (IsPermutation-sym (map member_figure members) (map row_figure rows) fits.lists)
      (in_map row_figure rows row at))

  -- each row has an id of its own
  pub rows_apart : HaveOwnIds rows
  rows_apart = own_ids rows (λ id.
      let same_times : times id (map first_of (map row_figure rows)) ≡ times id (map first_of (map member_figure members)) =
      times-perm id (map first_of (map member_figure members)) (map first_of (map row_figure rows)) (IsPermutation-map first_of (map member_figure members) (map row_figure rows) fits.lists) in
      let as_rows : times id (map (λ (row : ℕ × Shape). row.0) rows) ≡ times id (member_ids members) =
      ap (times id) (sym (row_firsts rows)) ∙ (same_times ∙ ap (times id) (member_firsts members)) in
      let once = fits.tree.at.once id in
      subst (λ (n : ℕ). n ≤ 1) (sym as_rows) once)

  -- the members lie in the closed square
  pub member_closed : AreInPlane rows → (i : Member) → Contains members i → IsGoalInClosedPlane (figure_of i.1)
  member_closed plane i at =
      let (row, among, is) = member_row i at in
      subst IsGoalInClosedPlane (ap (λ (x : ℕ × Goal). x.1) is) (rough_in_closed_plane row.1 (row_closed rows row plane among))

-- ---- items by their kind

-- the item is a rough object
abbrev pub is_rough_item : Item PageNode → Bool
is_rough_item (item.Node g n) = false
is_rough_item (item.Rough g l r) = true
is_rough_item (item.Row g l r) = false

-- the left id of an item
abbrev pub left_of : Item PageNode → ℕ
left_of (item.Node g n) = 0
left_of (item.Rough g l r) = l
left_of (item.Row g l r) = l

-- its right id
abbrev pub right_of : Item PageNode → ℕ
right_of (item.Node g n) = 0
right_of (item.Rough g l r) = r
right_of (item.Row g l r) = r

-- ---- the item of a member and its row

-- the figure is a rectangle
abbrev pub is_rect : Goal → Bool
is_rect (figure.Shape s) = false
is_rect (figure.Rect r) = true

-- where the rough shape is the shape itself, their gaps are one
row_gap : (goal f : Goal) (s : Shape) → f ≡ rough_figure s → is_rect f ≡ false → IsSameGap (goal_gap goal f) (goal_gap goal (figure.Shape s))
row_gap goal f (shape.Point p) e k = subst (λ (x : Goal). IsSameGap (goal_gap goal f) (goal_gap goal x)) e (same_itself (goal_gap goal f))
row_gap goal f (shape.Segment s) e k = subst (λ (x : Goal). IsSameGap (goal_gap goal f) (goal_gap goal x)) e (same_itself (goal_gap goal f))
row_gap goal f (shape.Polygon []) e k = subst (λ (x : Goal). IsSameGap (goal_gap goal f) (goal_gap goal x)) e (same_itself (goal_gap goal f))
row_gap goal f (shape.Polygon (p ∷ ps)) e k = absurd (true≢false (ap is_rect (sym e) ∙ k))

-- a member's item shows the row
pub show_row : (goal : Goal) (id : ℕ) (q : Rough) (s : Shape) → IsGoalInClosedPlane goal → IsShapeInClosedPlane s → figure_of q ≡ rough_figure s
    → Shows {N = PageNode} (near_row goal (id, s)) (member_found goal id q)
show_row goal id (rough.Point p) s g h e = (row_gap goal (figure.Shape (shape.Point p)) s e refl, refl, refl)
show_row goal id (rough.Segment d) s g h e = (row_gap goal (figure.Shape (shape.Segment d)) s e refl, refl, refl)
show_row goal id (rough.Bound r) s g h e = (
  refl,
  refl,
  subst (λ (x : Goal). IsAtMost (goal_gap goal x) (goal_gap goal (figure.Shape s))) (sym e) (rough_no_farther the_measure measured.1 goal s g h),
)

-- the row's gap is that of a member that is exact
pub exact_gap : (goal f : Goal) (s : Shape) → f ≡ rough_figure s → is_rect f ≡ false → IsSameGap (goal_gap goal (figure.Shape s)) (goal_gap goal f)
exact_gap goal f s e k = same_back (goal_gap goal f) (goal_gap goal (figure.Shape s)) (row_gap goal f s e k)

-- ---- the same rows ranked by a quadtree of one leaf

-- the ranking of the rows by a quadtree of one leaf, which has the same rows and answers
abbrev pub flat_ranking : Goal → Option ℕ → List (ℕ × Shape) → Ranking
flat_ranking goal ceiling rows = record {
  IsReadable = Unit {0};
  measure = the_measure;
  goal = goal;
  ceiling = ceiling;
  shapes = rows;
  tree = Leaf (filter (meets_block the_measure rows root_block) (map (λ row. row.0) rows));
  height = 0;
  fetch_price = 0;
}

-- it is sound where the rows lie in the plane, each with an id of its own
pub flat_sound : (goal : Goal) (ceiling : Option ℕ) (rows : List (ℕ × Shape)) → IsGoalInClosedPlane goal → AreInPlane rows → HaveOwnIds rows → IsSound (flat_ranking goal ceiling rows)
flat_sound goal ceiling rows g plane own = record {
  readable = tt;
  measure = measured.1;
  goal = g;
  plane = All-by (λ (row : ℕ × Shape). IsShapeInClosedPlane row.1) rows (λ row at. row_closed rows row plane at);
  apart = own;
  fits = refl;
  shallow = tt;
}
