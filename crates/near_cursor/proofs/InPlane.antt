-- The rectangles of a tree whose members lie in the closed square: they lie there too, and are no farther than what they hold.
use Rattle.std.proofs.Common.{◌≡◌, ℕ, zero, suc, ◌*◌, ◌^◌, ◌≤◌, ◌&&◌, length, Bool, true, cond, true≢false, List, [], ◌∷◌, Contains, Option, None, Some, refl, sym, ap, subst, arith, min, max}
use Rattle.std.specs.Prelude.{nat_le, is_some}
use Rattle.std.proofs.lemmas.Bool.{le-leb, leb-true}
use Rattle.exact_frac.specs.declared.frac.Frac.{Frac}
use Rattle.sand_base.specs.Plane.{IsGoalInClosedPlane, IsRectInClosedPlane}
use Rattle.sand_base.specs.declared.TheConstants.{COORDINATE_BITS}
use Rattle.sand_base.specs.declared.goal.Goal.{Goal}
use Rattle.sand_base.specs.declared.goal.Goal.TheVariants as figure
use Rattle.sand_base.specs.declared.rect.Rect.{Rect}
use Rattle.sand_base.specs.declared.rough.Rough.{Rough}
use Rattle.sand_base.specs.declared.rough.Rough.TheVariants as rough
use Rattle.sand_base.specs.declared.shape.Shape.TheVariants as shape
use Rattle.ring_geom.proofs.Farther.{IsHeld, shape_held, part_held, no_farther}
use Rattle.ring_geom.proofs.Measured.{measured}
use Rattle.code_btree.specs.Tree.{Store}
use Rattle.r_tree.specs.declared.entry.NodeEntry.{NodeEntry}
use Rattle.r_tree.specs.Entry.{Member, box_of, rect_union, union_of, member_of, bound_of}
use Rattle.r_tree.specs.Tree.{entries_at, members_in, members_under, Encloses, IsNodeAt, StandsUnder, NodeStandsAt}
use Rattle.r_tree.proofs.Hulls.{Inside, hull_each}
use Rattle.pmr_tree.specs.Entries.{figure_of}
use Rattle.best_first.specs.Reach.{IsAtMost}
use Rattle.best_first.proofs.Bags.{here, there, in_flat_map}
use Rattle.rank_cursor.proofs.Elements.{in_map, some_is}
use Rattle.rank_cursor.proofs.Places.{true_both, both_true}
use Rattle.rank_cursor.specs.Cursor.{the_measure, goal_gap}
use Rattle.best_first.specs.RowsAtZero.{zero_gap}
use Rattle.near_cursor.specs.NearRanking.{is_rect_in_plane, bound_gap}
use Rattle.near_cursor.proofs.NodeLemmas.{each_of}

-- ---- rectangles in the closed square

-- the lesser of two numbers is within what bounds the first
some_least : (g a b : ℕ) → a ≤ g → min a b ≤ g
some_least g a b h = omega arith

-- the greater of two is within what bounds both
both_greatest : (g a b : ℕ) → a ≤ g → b ≤ g → max a b ≤ g
both_greatest g a b h k = omega arith

-- a lesser low end is at most a greater high end
ordered : (a b c d : ℕ) → a ≤ b → min a c ≤ max b d
ordered a b c d h = omega arith

-- the lesser of two is at most the greater
ends_ordered : (a b : ℕ) → min a b ≤ max a b
ends_ordered a b = omega arith

-- a number is at most itself
at_most : (n : ℕ) → n ≤ n
at_most n = omega arith

-- the rectangle round a rough shape in the closed square lies in it
pub box_in_plane : (q : Rough) → IsGoalInClosedPlane (figure_of q) → IsRectInClosedPlane (box_of q)
box_in_plane (rough.Point p) h = record { low = h; high = h; x = at_most p.x; y = at_most p.y }
box_in_plane (rough.Segment s) h = record {
  low = record { x = some_least (2 ^ COORDINATE_BITS) s.a.x s.b.x h.a.x; y = some_least (2 ^ COORDINATE_BITS) s.a.y s.b.y h.a.y };
  high = record { x = both_greatest (2 ^ COORDINATE_BITS) s.a.x s.b.x h.a.x h.b.x; y = both_greatest (2 ^ COORDINATE_BITS) s.a.y s.b.y h.a.y h.b.y };
  x = ends_ordered s.a.x s.b.x;
  y = ends_ordered s.a.y s.b.y;
}
box_in_plane (rough.Bound r) h = h

-- so does the least one that holds two
union_in_plane : (a b : Rect) → IsRectInClosedPlane a → IsRectInClosedPlane b → IsRectInClosedPlane (rect_union a b)
union_in_plane a b h k = record {
  low = record { x = some_least (2 ^ COORDINATE_BITS) a.low.x b.low.x h.low.x; y = some_least (2 ^ COORDINATE_BITS) a.low.y b.low.y h.low.y };
  high = record { x = both_greatest (2 ^ COORDINATE_BITS) a.high.x b.high.x h.high.x k.high.x; y = both_greatest (2 ^ COORDINATE_BITS) a.high.y b.high.y h.high.y k.high.y };
  x = ordered a.low.x a.high.x b.low.x b.high.x h.x;
  y = ordered a.low.y a.high.y b.low.y b.high.y h.y;
}

-- the least rectangle round entries in the closed square lies in it
pub bound_in_plane : (es : List NodeEntry) → ((e : NodeEntry) → Contains es e → IsGoalInClosedPlane (figure_of e.rough)) → (r : Rect) → bound_of es ≡ Some r → IsRectInClosedPlane r
bound_in_plane [] each r h = absurd (true≢false (sym (ap (λ (o : Option Rect). is_some o) h)))
bound_in_plane (e ∷ es) each r h = go (λ b k. bound_in_plane es (λ x at. each x (there e es x at)) b k) (bound_of es) refl h
  where
    box : IsRectInClosedPlane (box_of e.rough)
    box = box_in_plane e.rough (each e (here e es))

    go : ((b : Rect) → bound_of es ≡ Some b → IsRectInClosedPlane b) → (o : Option Rect) → bound_of es ≡ o → union_of (Some (box_of e.rough)) o ≡ Some r → IsRectInClosedPlane r
    go rest None k g = subst IsRectInClosedPlane (some_is (box_of e.rough) r g) box
    go rest (Some b) k g =
        subst IsRectInClosedPlane (some_is (rect_union (box_of e.rough) b) r g) (union_in_plane (box_of e.rough) b box (rest b k))

-- where all members under a node lie in the closed square, so do the entries of the node
pub entries_in_plane : (m : Store) (l n : ℕ) → NodeStandsAt m l n → ((i : Member) → Contains (members_under m l n) i → IsGoalInClosedPlane (figure_of i.1))
    → (e : NodeEntry) → Contains (entries_at m n) e → IsGoalInClosedPlane (figure_of e.rough)
entries_in_plane m zero n s each e at = each (member_of e) (in_map member_of (entries_at m n) e at)
entries_in_plane m (suc l) n s each e at =
    let k = each_of (λ (x : NodeEntry). Encloses m x × ((50 ≤ length (entries_at m x.child)) × (IsNodeAt m l x.child × StandsUnder m l (entries_at m x.child)))) (entries_at m n) e s.1 at in
    let below = entries_in_plane m l e.child k.1.1 (λ i among. each i (in_flat_map (λ (x : NodeEntry). members_in m l (entries_at m x.child)) (entries_at m n) e i at among)) in
    subst (λ (x : NodeEntry). IsGoalInClosedPlane (figure_of x.rough)) (sym k.0.is) (bound_in_plane (entries_at m e.child) below (box_of e.rough) k.0.least)

-- ---- the test of the closed square

-- a rectangle in the closed square passes
pub in_plane_true : (r : Rect) → IsRectInClosedPlane r → is_rect_in_plane r ≡ true
in_plane_true r h =
    true_both (nat_le r.low.x r.high.x && nat_le r.low.y r.high.y) (nat_le r.high.x (2 ^ COORDINATE_BITS) && nat_le r.high.y (2 ^ COORDINATE_BITS))
    (true_both (nat_le r.low.x r.high.x) (nat_le r.low.y r.high.y) (le-leb r.low.x r.high.x h.x) (le-leb r.low.y r.high.y h.y))
    (true_both (nat_le r.high.x (2 ^ COORDINATE_BITS)) (nat_le r.high.y (2 ^ COORDINATE_BITS)) (le-leb r.high.x (2 ^ COORDINATE_BITS) h.high.x) (le-leb r.high.y (2 ^ COORDINATE_BITS) h.high.y))

-- and one that passes lies there
pub true_in_plane : (r : Rect) → is_rect_in_plane r ≡ true → IsRectInClosedPlane r
true_in_plane r h =
    let k = both_true (nat_le r.low.x r.high.x && nat_le r.low.y r.high.y) (nat_le r.high.x (2 ^ COORDINATE_BITS) && nat_le r.high.y (2 ^ COORDINATE_BITS)) h in
    let o = both_true (nat_le r.low.x r.high.x) (nat_le r.low.y r.high.y) k.0 in
    let i = both_true (nat_le r.high.x (2 ^ COORDINATE_BITS)) (nat_le r.high.y (2 ^ COORDINATE_BITS)) k.1 in
    let x = leb-true r.low.x r.high.x o.0 in
    let y = leb-true r.low.y r.high.y o.1 in
    let top = leb-true r.high.x (2 ^ COORDINATE_BITS) i.0 in
    let side = leb-true r.high.y (2 ^ COORDINATE_BITS) i.1 in
    record {
      low = record { x = chain r.low.x r.high.x (2 ^ COORDINATE_BITS) x top; y = chain r.low.y r.high.y (2 ^ COORDINATE_BITS) y side };
      high = record { x = top; y = side };
      x = x;
      y = y;
    }
  where
    chain : (a b c : ℕ) → a ≤ b → b ≤ c → a ≤ c
    chain a b c h k = omega arith

-- the gap of a rectangle in the closed square is the measure's
pub bound_gap_is : (goal : Goal) (r : Rect) → IsRectInClosedPlane r → bound_gap goal (Some r) ≡ goal_gap goal (figure.Rect r)
bound_gap_is goal r h = ap (λ (b : Bool). cond b (goal_gap goal (figure.Rect r)) zero_gap) (in_plane_true r h)

-- ---- how far rectangles are

-- at most goes through a number between
through : (a b c : ℕ) → a ≤ b → b ≤ c → a ≤ c
through a b c h k = omega arith

-- what is at most the lesser of two is at most the first
first_above : (g a b : ℕ) → g ≤ min a b → g ≤ a
first_above g a b h = omega arith

-- and at most the second
second_above : (g a b : ℕ) → g ≤ min a b → g ≤ b
second_above g a b h = omega arith

-- what bounds the greater of two bounds the first
first_below : (g a b : ℕ) → max a b ≤ g → a ≤ g
first_below g a b h = omega arith

-- and the second
second_below : (g a b : ℕ) → max a b ≤ g → b ≤ g
second_below g a b h = omega arith

-- a rectangle that holds the box of a rough shape holds the shape
holds : (r : Rect) (q : Rough) → IsGoalInClosedPlane (figure_of q) → Inside r (box_of q) → IsHeld (figure_of q) r
holds r (rough.Point p) h k = shape_held (shape.Point p) r (record { left = k.low_x; right = k.high_x; bottom = k.low_y; top = k.high_y }, tt)
holds r (rough.Segment s) h k =
    shape_held (shape.Segment s) r (
      record {
        left = first_above r.low.x s.a.x s.b.x k.low_x;
        right = first_below r.high.x s.a.x s.b.x k.high_x;
        bottom = first_above r.low.y s.a.y s.b.y k.low_y;
        top = first_below r.high.y s.a.y s.b.y k.high_y;
      },
      (
        record {
          left = second_above r.low.x s.a.x s.b.x k.low_x;
          right = second_below r.high.x s.a.x s.b.x k.high_x;
          bottom = second_above r.low.y s.a.y s.b.y k.low_y;
          top = second_below r.high.y s.a.y s.b.y k.high_y;
        },
        tt,
      ),
    )
holds r (rough.Bound b) h k =
    part_held b r (record {
      low = record { left = k.low_x; right = through b.low.x b.high.x r.high.x h.x k.high_x; bottom = k.low_y; top = through b.low.y b.high.y r.high.y h.y k.high_y };
      high = record { left = through r.low.x b.low.x b.high.x k.low_x h.x; right = k.high_x; bottom = through r.low.y b.low.y b.high.y k.low_y h.y; top = k.high_y };
    })

-- so it is no farther from a goal
pub whole_no_farther : (goal : Goal) (r : Rect) (q : Rough) → IsGoalInClosedPlane goal → IsRectInClosedPlane r → IsGoalInClosedPlane (figure_of q) → Inside r (box_of q)
    → IsAtMost (goal_gap goal (figure.Rect r)) (goal_gap goal (figure_of q))
whole_no_farther goal r q g h k i =
    let far : Frac = the_measure goal (figure_of q) in
    let near : Frac = the_measure goal (figure.Rect r) in
    no_farther goal (figure_of q) r far.num far.den near.num near.den g (holds r q k i) (measured.1 goal (figure_of q) g k) (measured.1 goal (figure.Rect r) g h)

-- 0 is at most any fraction
none_least : (d n : ℕ) → 0 * d ≤ n * 1
none_least d n = omega arith

-- the rectangle of a node is no farther from a goal than its entries
pub node_no_farther : (goal : Goal) (es : List NodeEntry) → IsGoalInClosedPlane goal → ((e : NodeEntry) → Contains es e → IsGoalInClosedPlane (figure_of e.rough))
    → (e : NodeEntry) → Contains es e → (q : Rough) → IsGoalInClosedPlane (figure_of q) → box_of q ≡ box_of e.rough → IsAtMost (bound_gap goal (bound_of es)) (goal_gap goal (figure_of q))
node_no_farther goal es g each e at q k same = go (bound_of es) refl
  where
    go : (o : Option Rect) → bound_of es ≡ o → IsAtMost (bound_gap goal o) (goal_gap goal (figure_of q))
    go None h = none_least (goal_gap goal (figure_of q)).den (goal_gap goal (figure_of q)).num
    go (Some r) h =
        let closed = bound_in_plane es each r h in
        let inside = each_of (λ (x : NodeEntry). Inside r (box_of x.rough)) es e (hull_each r es h) at in
        subst (λ (f : Frac). IsAtMost f (goal_gap goal (figure_of q))) (sym (bound_gap_is goal r closed))
        (whole_no_farther goal r q g closed k (subst (λ (b : Rect). Inside r b) (sym same) inside))
